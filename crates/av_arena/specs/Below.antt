-- What a change of the tree below a node leaves there, before a link tells the node anew.
use Rattle.std.specs.Prelude.{◌≡◌, ℕ, ◌+◌, ◌<◌, ◌≤◌, max, None, Bool, true, false, IsSome}
use Rattle.std.specs.Prelude.{Option, Some, List, ◌∷◌, ◌++◌}
use Rattle.av_base.specs.Words.{with_at}
use Rattle.av_arena.specs.Arena.{on_other, on_side, side_put, with_side}
use Rattle.av_arena.specs.Order.{NoneBetween, NoneWithin, with_entry, with_joined, with_two}
use Rattle.av_arena.specs.Order.{without_key}
use Rattle.av_arena.specs.declared.link.Link.{Link}
use Rattle.av_arena.specs.declared.link.Side.{Side}
use Rattle.av_arena.specs.declared.link.Side.TheVariants.{Left, Right}
use Rattle.av_arena.specs.declared.link.Stored.{Stored}
use Rattle.av_arena.specs.Tree.{DifferByAtMost, IsHeightAfter, HasKey, IsJoined, IsPlaceFor, IsSet}
use Rattle.av_arena.specs.Tree.{IsSpot, IsTree, IsWithout, Store, count_at, entries_at, height_of}
use Rattle.av_arena.specs.Tree.{is, none, sum_of}

-- the entries of a side, the node's own and those of the other side
abbrev pub in_order : {T : Type 0} → Side → List T → T → List T → List T
in_order Left xs x ys = xs ++ x ∷ ys
in_order Right xs x ys = ys ++ x ∷ xs

-- the keys from that of x to that of y belong on this side of the entry w
abbrev pub AreOn : {T : Type 0} → (T → ℕ) → Side → T → T → T → Type 0
AreOn key Left x y w = key y < key w
AreOn key Right x y w = key w < key x

-- so high at most are the sides of the node n that the height of a node above them is still told
abbrev pub IsLow : {T S : Type 0} → Store T S → ℕ → Type 0
IsLow {T = T} {S = S} s n =
    (v : Stored T S) → s n ≡ Some v → max (height_of v.left) (height_of v.right) < 220

-- the number that a link tells
abbrev pub number_of : {S : Type 0} → Option (Link S) → Option ℕ
number_of None = None
number_of (Some k) = Some k.number

-- a tree with the root n that meets what is asked
pub record IsAskedBelow {S : Type 0} (Asked : Option (Link S) → Type 0) (n : ℕ) : Type 0 where
  pub link : Link S
  pub number : link.number ≡ n
  pub asked : Asked (Some link)
  pub low : link.height < 200

module _ {T S : Type 0} (key : T → ℕ) (unit : S) (op : S → S → S) (of : T → S) where
  -- the node n above its sides, which differ by so many levels at most
  pub record IsUnsettled (by : ℕ) (s : Store T S) (n : ℕ) : Type 0 where
    pub node : Stored T S
    pub stored : s n ≡ Some node
    pub spot : IsSpot key unit op of s n node.left node.right
    pub level : DifferByAtMost by (height_of node.left) (height_of node.right)
    pub low : max (height_of node.left) (height_of node.right) < 210

  -- whether the sides of the node n differ by one level at most
  abbrev pub IsLevelAt : Store T S → ℕ → Bool → Type 0
  IsLevelAt s n b =
      (v : Stored T S) → s n ≡ Some v →
      (b ≡ true → DifferByAtMost 1 (height_of v.left) (height_of v.right)) ×
      (DifferByAtMost 1 (height_of v.left) (height_of v.right) → b ≡ true)

  -- the link k tells the node n
  abbrev pub IsTold : Store T S → ℕ → Link S → Type 0
  IsTold s n k =
      (v : Stored T S) → s n ≡ Some v →
      k ≡ record {
        number = n;
        height = max (height_of v.left) (height_of v.right) + 1;
        sum = op (sum_of unit v.left) (op (of v.entry) (sum_of unit v.right));
      }

  -- the node n gets another tree on a side, and the link k tells it
  abbrev pub IsClosed : Side → Store T S → Store T S → ℕ → Option (Link S) → Link S → Type 0
  IsClosed side old new n l k =
      (v : Stored T S) → old n ≡ Some v →
      IsSet key unit op of old new n (with_side side l v).left v.entry (with_side side l v).right k

  -- the node n with a side that is two levels too high: m is the root there
  pub record IsLeaning (side : Side) (s : Store T S) (n m : ℕ) : Type 0 where
    pub node : Stored T S
    pub high : Link S
    pub stored : s n ≡ Some node
    pub spot : IsSpot key unit op of s n node.left node.right
    pub is : on_side side node ≡ Some high
    pub number : high.number ≡ m
    pub two_higher : high.height ≡ height_of (on_other side node) + 2
    pub low : high.height < 210

  -- the link k is what the node n becomes, which stays as it is where its sides are level
  abbrev pub IsSettled : Store T S → Store T S → ℕ → Link S → Type 0
  IsSettled old new n k =
      (v : Stored T S) → old n ≡ Some v →
      IsJoined key unit op of old new n v.left v.entry v.right k ×
      IsHeightAfter (height_of v.left) (height_of v.right) k.height ×
      (DifferByAtMost 1 (height_of v.left) (height_of v.right) → new ≡ old)

  -- a side, whose root is `child`, is settled and put on its side of the node n: whether the link
  -- is another one than the node has had there
  pub record IsSideSettled (side : Side) (old new : Store T S) (n child : ℕ) (changed : Bool)
      : Type 0 where
    pub link : Link S
    pub between : Store T S
    pub settled : IsSettled old between child link
    pub put : new ≡ with_at n (side_put side (Some link) (between n)) between
    pub stays : changed ≡ false → (v : Stored T S) → between n ≡ Some v → on_side side v ≡ Some link
    pub differs : changed ≡ true → (v : Stored T S) → between n ≡ Some v →
        number_of (on_side side v) ≡ Some child → on_side side v ≡ Some link → ⊥

  -- the node m for the entry x is put on a side of the node n
  pub record IsHung (side : Side) (old new : Store T S) (n m : ℕ) (x : T) : Type 0 where
    pub link : Link S
    pub between : Store T S
    pub set : IsSet key unit op of old between m None x None link
    pub put : new ≡ with_at n (side_put side (Some link) (between n)) between

  -- the node n above its sides, as it is stored, with these entries and numbers in all
  pub record IsAbove (old new : Store T S) (n : ℕ) (v : Stored T S) (xs : List T)
      (numbers gone : ℕ → ℕ) : Type 0 where
    pub stored : new n ≡ Some v
    pub spot : IsSpot key unit op of new n v.left v.right
    pub entries : entries_at new v.left ++ v.entry ∷ entries_at new v.right ≡ xs
    pub count : (j : ℕ) →
        (is n j + (count_at new v.left j + count_at new v.right j)) + gone j ≡ numbers j
    pub kept : (j : ℕ) → numbers j ≡ 0 → new j ≡ old j
    pub used : (j : ℕ) → IsSome (old j) → IsSome (new j)

  -- the tree k has these entries and numbers, once its root is settled, so much lower or higher
  -- at most; whether the root is stored otherwise than before. Where an entry is put into the root
  -- itself, `Put`, it may be the one that the root has had
  pub record IsChanged (old new : Store T S) (k : Link S) (changed : Bool) (xs : List T)
      (numbers gone : ℕ → ℕ) (lower higher : ℕ) (Put : Type 0) : Type 0 where
    pub node : Stored T S
    pub above : IsAbove old new k.number node xs numbers gone
    pub level : DifferByAtMost 2 (height_of node.left) (height_of node.right)
    pub low : max (height_of node.left) (height_of node.right) ≤ k.height
    pub settles : (h : ℕ) → IsHeightAfter (height_of node.left) (height_of node.right) h →
        (k.height ≤ h + lower) × (h ≤ k.height + higher)
    pub same : changed ≡ false → new k.number ≡ old k.number
    pub other : changed ≡ true → new k.number ≡ old k.number → Put

  -- a tree that meets what is asked, with the root n, becomes one of these entries and numbers
  abbrev pub IsDoneBelow : (Option (Link S) → Type 0) → (List T → List T) → ((ℕ → ℕ) → ℕ → ℕ) →
      (ℕ → ℕ) → ℕ → ℕ → Type 0 → Store T S → Store T S → ℕ → Bool → Type 0
  IsDoneBelow Asked list numbers gone lower higher Put old new n changed =
      (k : Link S) → k.number ≡ n → Asked (Some k) →
      IsChanged old new k changed (list (entries_at old (Some k)))
      (numbers (count_at old (Some k))) gone lower higher Put

  -- the node n lies neither before x nor after y
  abbrev pub IsBetween : Store T S → ℕ → T → T → Type 0
  IsBetween s n x y =
      (v : Stored T S) → s n ≡ Some v → (key x ≤ key v.entry) × (key v.entry ≤ key y)

  -- a tree with the root n, and a number and an entry that are new to it
  abbrev pub IsPlaceBelow : Store T S → ℕ → ℕ → T → Type 0
  IsPlaceBelow s n m x = IsAskedBelow (λ k. IsPlaceFor key unit op of s k m x) n

  -- the tree with the root n has the entry, too, and the number m besides
  abbrev pub IsPlacedBelow : Store T S → Store T S → ℕ → ℕ → T → Bool → Type 0
  IsPlacedBelow old new n m x =
      IsDoneBelow (λ k. IsPlaceFor key unit op of old k m x) (with_entry key x)
      (λ f j. is m j + f j) none 0 1 ⊥ old new n

  -- a tree with the root n that has the key
  abbrev pub HasKeyBelow : Store T S → ℕ → T → Type 0
  HasKeyBelow s n x = IsAskedBelow (λ k. HasKey key unit op of s k x) n

  -- the entry takes the place of the one with its key in the tree with the root n
  abbrev pub IsReplacedBelow : Store T S → Store T S → ℕ → T → Bool → Type 0
  IsReplacedBelow old new n x =
      IsDoneBelow (λ k. HasKey key unit op of old k x)
      (λ xs. with_entry key x (without_key key (key x) xs)) (λ f. f) none 0 0
      (IsBetween old n x x) old new n

  -- whether the node n has the key
  abbrev pub IsAt : Store T S → ℕ → T → Bool → Type 0
  IsAt s n x b =
      (v : Stored T S) → s n ≡ Some v →
      (b ≡ true → key x ≡ key v.entry) × (b ≡ false → key x ≡ key v.entry → ⊥)

  -- the root n has the key and is taken out of its tree
  abbrev pub IsTaken : Store T S → Store T S → ℕ → T → Option (Link S) → Type 0
  IsTaken old new n x rest =
      (k : Link S) → k.number ≡ n → HasKey key unit op of old (Some k) x →
      IsWithout key unit op of old new (Some k)
      (without_key key (key x) (entries_at old (Some k))) n rest ×
      ((height_of rest ≤ k.height) × (k.height ≤ height_of rest + 1))

  -- the root of a side, `child`, is taken out of its tree, and what is left put on that side of the
  -- node n
  pub record IsSideTaken (side : Side) (old new : Store T S) (n child : ℕ) (x : T) : Type 0 where
    pub rest : Option (Link S)
    pub between : Store T S
    pub taken : IsTaken old between child x rest
    pub put : new ≡ with_at n (side_put side rest (between n)) between

  -- the entry with the key, and the number `out`, are taken out of the tree with the root n
  abbrev pub IsRemovedBelow : Store T S → Store T S → ℕ → T → ℕ → Bool → Type 0
  IsRemovedBelow old new n x out =
      IsDoneBelow (λ k. HasKey key unit op of old k x) (without_key key (key x)) (λ f. f) (is out)
      1 0 ⊥ old new n

  -- a tree that has the key of x, and a number and an entry y that are new to it, where y comes
  -- right after x
  pub record IsSplitFor (s : Store T S) (k : Option (Link S)) (m : ℕ) (x y : T) : Type 0 where
    pub has : HasKey key unit op of s k x
    pub used : IsSome (s m)
    pub fresh : count_at s k m ≡ 0
    pub after : key x < key y
    pub next : NoneBetween key (key x) (key y) (entries_at s k)

  -- the same of the tree with the root n
  abbrev pub IsSplitBelowFor : Store T S → ℕ → ℕ → T → T → Type 0
  IsSplitBelowFor s n m x y = IsAskedBelow (λ k. IsSplitFor s k m x y) n

  -- the tree with x in the place of the entry with its key, and y right after it, and the number m
  -- besides
  abbrev pub IsSplit : Store T S → Store T S → Option (Link S) → ℕ → T → T → Link S → Type 0
  IsSplit old new k m x y k' =
      IsTree key unit op of old new (Some k') (with_two key x y (entries_at old k))
      (λ j. is m j + count_at old k j) none

  -- the same below the root n
  abbrev pub IsSplitBelow : Store T S → Store T S → ℕ → ℕ → T → T → Bool → Type 0
  IsSplitBelow old new n m x y =
      IsDoneBelow (λ k. IsSplitFor old k m x y) (with_two key x y) (λ f j. is m j + f j) none 0 1
      (IsBetween old n x x) old new n

  -- a tree that has the keys of two neighbours, x and y, and an entry z with the key of the first
  pub record IsJoinFor (s : Store T S) (k : Option (Link S)) (x y z : T) : Type 0 where
    pub has : HasKey key unit op of s k x
    pub too : HasKey key unit op of s k y
    pub after : key x < key y
    pub next : NoneWithin key (key x) (key y) (entries_at s k)
    pub same : key z ≡ key x

  -- the same of the tree with the root n
  abbrev pub IsJoinBelowFor : Store T S → ℕ → T → T → T → Type 0
  IsJoinBelowFor s n x y z = IsAskedBelow (λ k. IsJoinFor s k x y z) n

  -- the keys from that of x to that of y belong on this side of the node n, or the node is between
  abbrev pub IsBeside : Store T S → ℕ → T → T → Option Side → Type 0
  IsBeside s n x y None = IsBetween s n x y
  IsBeside s n x y (Some side) = (v : Stored T S) → s n ≡ Some v → AreOn key side x y v.entry

  -- the key of x belongs on this side of the node n, unless the node has it
  abbrev pub IsSideFor : Store T S → ℕ → T → Side → Type 0
  IsSideFor s n x Left = (v : Stored T S) → s n ≡ Some v → key x < key v.entry
  IsSideFor s n x Right = (v : Stored T S) → s n ≡ Some v → key v.entry ≤ key x

  -- the tree with z in the place of the entries with the keys of x and y, without the node `out`
  abbrev pub IsJoinedAt : Store T S → Store T S → Option (Link S) → T → T → T → ℕ → Link S → Type 0
  IsJoinedAt old new k x y z out k' =
      IsTree key unit op of old new (Some k') (with_joined key x y z (entries_at old k))
      (count_at old k) (is out)

  -- the same below the root n
  abbrev pub IsJoinedBelow : Store T S → Store T S → ℕ → T → T → T → ℕ → Bool → Type 0
  IsJoinedBelow old new n x y z out =
      IsDoneBelow (λ k. IsJoinFor old k x y z) (with_joined key x y z) (λ f. f) (is out) 1 0
      (IsBetween old n x y) old new n

-- the height of the tree with the root n
abbrev pub height_below : {T S : Type 0} → Option (Stored T S) → ℕ
height_below None = 0
height_below (Some v) = max (height_of v.left) (height_of v.right) + 1

-- the number of the node at the root of a side
abbrev pub child_number : {T S : Type 0} → Side → Option (Stored T S) → Option ℕ
child_number side None = None
child_number side (Some v) = number_of (on_side side v)

-- whether the node n has this link on a side
abbrev pub HasSide : {T S : Type 0} → Store T S → ℕ → Side → Link S → Bool → Type 0
HasSide {T = T} {S = S} s n side k b =
    (v : Stored T S) → s n ≡ Some v →
    (b ≡ true → on_side side v ≡ Some k) × (on_side side v ≡ Some k → b ≡ true)
