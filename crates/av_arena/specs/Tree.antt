-- Trees of entries whose nodes stand under numbers, and what a change of one makes of it.
use Rattle.std.specs.Prelude.{◌≡◌, ℕ, zero, suc, ◌+◌, ◌≤◌, ◌==◌, max, if◌then◌else◌, IsSome, Option}
use Rattle.std.specs.Prelude.{Some, None, List, [], ◌∷◌, ◌++◌}
use Rattle.av_base.specs.Words.{with_at}
use Rattle.av_arena.specs.Monoid.{total}
use Rattle.av_arena.specs.Order.{IsRising, with_entry, without_key, entry_at}
use Rattle.av_arena.specs.declared.link.Link.{Link}
use Rattle.av_arena.specs.declared.link.Stored.{Stored}

pub data Tree (T : Type 0) : Type 0 where
  Leaf : Tree T
  Fork : (number : ℕ) (left : Tree T) (entry : T) (right : Tree T) → Tree T

-- the entries in order
abbrev pub entries : {T : Type 0} → Tree T → List T
entries Leaf = []
entries (Fork n l x r) = entries l ++ x ∷ entries r

abbrev pub height : {T : Type 0} → Tree T → ℕ
height Leaf = 0
height (Fork n l x r) = max (height l) (height r) + 1

-- 1 at this number, 0 at others
abbrev pub is : ℕ → ℕ → ℕ
is n j = if n == j then 1 else 0

-- 0 at each number
abbrev pub none : ℕ → ℕ
none j = 0

-- how many nodes have the number j
abbrev pub count : {T : Type 0} → ℕ → Tree T → ℕ
count j Leaf = 0
count j (Fork n l x r) = is n j + (count j l + count j r)

-- neither height is more than this above the other
abbrev pub DifferByAtMost : ℕ → ℕ → ℕ → Type 0
DifferByAtMost by l r = (l ≤ r + by) × (r ≤ l + by)

-- the height h of what a node with sides l and r settles to
abbrev pub IsHeightAfter : ℕ → ℕ → ℕ → Type 0
IsHeightAfter l r h =
    (max l r ≤ h) × (h ≤ max l r + 1) × (DifferByAtMost 1 l r → h ≡ max l r + 1)

-- at each node the heights of the sides differ by one at most
abbrev pub IsLevel : {T : Type 0} → Tree T → Type 0
IsLevel Leaf = Unit {0}
IsLevel (Fork n l x r) = DifferByAtMost 1 (height l) (height r) × IsLevel l × IsLevel r

abbrev pub height_of : {S : Type 0} → Option (Link S) → ℕ
height_of None = 0
height_of (Some k) = k.height

abbrev pub sum_of : {S : Type 0} → S → Option (Link S) → S
sum_of unit None = unit
sum_of unit (Some k) = k.sum

-- the node under each number
abbrev pub Store : Type 0 → Type 0 → Type 0
Store T S = ℕ → Option (Stored T S)

abbrev pub tree_or_leaf : {T S : Type 0} → Option (Stored T S) → (Stored T S → Tree T) → Tree T
tree_or_leaf None f = Leaf
tree_or_leaf (Some v) f = f v

-- so many levels of the tree below a link
abbrev pub levels : {T S : Type 0} → ℕ → Store T S → Option (Link S) → Tree T
levels zero s k = Leaf
levels (suc h) s None = Leaf
levels (suc h) s (Some k) =
    tree_or_leaf (s k.number) (λ v. Fork k.number (levels h s v.left) v.entry (levels h s v.right))

-- the tree below a link
unfoldable pub tree_at : {T S : Type 0} → Store T S → Option (Link S) → Tree T
tree_at s k = levels (height_of k) s k

-- the entries below a link
abbrev pub entries_at : {T S : Type 0} → Store T S → Option (Link S) → List T
entries_at s k = entries (tree_at s k)

-- how many nodes below a link have the number j
abbrev pub count_at : {T S : Type 0} → Store T S → Option (Link S) → ℕ → ℕ
count_at s k j = count j (tree_at s k)

-- how a tree is told: the number of its root, its height and the summary of its entries
abbrev pub link_of : {T S : Type 0} → (T → ℕ) → S → (S → S → S) → (T → S) → Tree T → Option (Link S)
link_of key unit op of Leaf = None
link_of key unit op of (Fork n l x r) =
    Some (record {
      number = n;
      height = max (height l) (height r) + 1;
      sum = total unit op of (entries l ++ x ∷ entries r);
    })

module _ {T S : Type 0} (key : T → ℕ) (unit : S) (op : S → S → S) (of : T → S) where
  -- a node with these sides, as it is stored
  abbrev pub stored_as : Tree T → T → Tree T → Stored T S
  stored_as l x r =
      record { left = link_of key unit op of l; entry = x; right = link_of key unit op of r }

  -- each node of the tree stands under its number
  abbrev pub IsStored : Store T S → Tree T → Type 0
  IsStored s Leaf = Unit {0}
  IsStored s (Fork n l x r) = (s n ≡ Some (stored_as l x r)) × IsStored s l × IsStored s r

  -- the link tells a balanced tree that is stored, no number twice
  pub record IsHeld (s : Store T S) (k : Option (Link S)) : Type 0 where
    pub stored : IsStored s (tree_at s k)
    pub link : link_of key unit op of (tree_at s k) ≡ k
    pub once : (j : ℕ) → count_at s k j ≤ 1
    pub level : IsLevel (tree_at s k)

  -- the link tells the node with the entry x above the sides l and r
  pub record IsRoot (s : Store T S) (k : Link S) (l : Option (Link S)) (x : T)
      (r : Option (Link S)) : Type 0 where
    pub stored : s k.number ≡ Some (record { left = l; entry = x; right = r })
    pub told : k ≡ record {
      number = k.number;
      height = max (height_of l) (height_of r) + 1;
      sum = op (sum_of unit l) (op (of x) (sum_of unit r));
    }
    pub level : DifferByAtMost 1 (height_of l) (height_of r)

  -- a tree that is cut at its node
  pub record IsOpened (s : Store T S) (k : Link S) (v : Stored T S) : Type 0 where
    pub used : IsSome (s k.number)
    pub root : IsRoot s k v.left v.entry v.right
    pub tree : tree_at s (Some k) ≡ Fork k.number (tree_at s v.left) v.entry (tree_at s v.right)
    pub left : IsHeld s v.left
    pub right : IsHeld s v.right
    pub once : (j : ℕ) → is k.number j + (count_at s v.left j + count_at s v.right j) ≤ 1
    pub height : k.height ≡ max (height_of v.left) (height_of v.right) + 1
    pub level : DifferByAtMost 1 (height_of v.left) (height_of v.right)

  -- the node n is put above its sides
  pub record IsSet (old new : Store T S) (n : ℕ) (left : Option (Link S)) (x : T)
      (right : Option (Link S)) (k : Link S) : Type 0 where
    pub store : new ≡ with_at n (Some (record { left = left; entry = x; right = right })) old
    pub link : k ≡ record {
      number = n;
      height = max (height_of left) (height_of right) + 1;
      sum = op (sum_of unit left) (op (of x) (sum_of unit right));
    }

  -- a node that is in use and not below its two sides
  pub record IsSpot (s : Store T S) (n : ℕ) (l r : Option (Link S)) : Type 0 where
    pub used : IsSome (s n)
    pub left : IsHeld s l
    pub right : IsHeld s r
    pub once : (j : ℕ) → is n j + (count_at s l j + count_at s r j) ≤ 1

  -- a tree of these entries, with these numbers but for those that are gone; no other node changed
  pub record IsTree (old new : Store T S) (k : Option (Link S)) (xs : List T)
      (numbers gone : ℕ → ℕ) : Type 0 where
    pub held : IsHeld new k
    pub entries : entries_at new k ≡ xs
    pub count : (j : ℕ) → count_at new k j + gone j ≡ numbers j
    pub kept : (j : ℕ) → numbers j ≡ 0 → new j ≡ old j
    pub used : (j : ℕ) → IsSome (old j) → IsSome (new j)

  -- what the node n above its sides becomes
  abbrev pub IsJoined : Store T S → Store T S → ℕ → Option (Link S) → T →
      Option (Link S) → Link S → Type 0
  IsJoined old new n left x right k =
      IsTree old new (Some k) (entries_at old left ++ x ∷ entries_at old right)
      (λ j. is n j + (count_at old left j + count_at old right j)) none

  -- a tree, and a number and an entry that are new to it
  pub record IsPlaceFor (s : Store T S) (k : Option (Link S)) (n : ℕ) (x : T) : Type 0 where
    pub held : IsHeld s k
    pub rising : IsRising key (entries_at s k)
    pub used : IsSome (s n)
    pub fresh : count_at s k n ≡ 0
    pub other : entry_at key (key x) (entries_at s k) ≡ None

  -- the tree with the node n for the entry x
  abbrev pub IsPlaced : Store T S → Store T S → Option (Link S) → ℕ → T → Link S → Type 0
  IsPlaced old new k n x k' =
      IsTree old new (Some k') (with_entry key x (entries_at old k))
      (λ j. is n j + count_at old k j) none

  -- a tree that has the key
  pub record HasKey (s : Store T S) (k : Option (Link S)) (x : T) : Type 0 where
    pub held : IsHeld s k
    pub rising : IsRising key (entries_at s k)
    pub there : IsSome (entry_at key (key x) (entries_at s k))

  -- the tree without the node n
  abbrev pub IsWithout : Store T S → Store T S → Option (Link S) → List T → ℕ →
      Option (Link S) → Type 0
  IsWithout old new k xs n k' = IsTree old new k' xs (count_at old k) (is n)

  -- the tree with x in the node of the entry with its key
  abbrev pub IsReplaced : Store T S → Store T S → Option (Link S) → T → Link S → Type 0
  IsReplaced old new k x k' =
      IsTree old new (Some k') (with_entry key x (without_key key (key x) (entries_at old k)))
      (count_at old k) none

  -- the first entry x and its node n are taken out of the tree k, and k' is left
  pub record IsPopped (old new : Store T S) (k : Link S) (n : ℕ) (x : T) (k' : Option (Link S))
      : Type 0 where
    pub rest : IsWithout old new (Some k) (entries_at new k') n k'
    pub entries : entries_at old (Some k) ≡ x ∷ entries_at new k'
