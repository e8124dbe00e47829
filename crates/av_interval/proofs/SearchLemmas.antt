-- What a visit tells of the first span that reaches an index.
use Rattle.std.proofs.Common.{◌≡◌, ℕ, ◌+◌, ◌<◌, ◌≤◌, max, ◌⊎◌, inl, inr, Bool, true, false, cond, ◌&&◌, ◌||◌, eqb, ltb, Option, Some, None, List, [], ◌∷◌, ◌++◌, length, refl, sym, ap, ◌∙◌, subst, arith}
use Rattle.std.specs.Prelude.{nat_le, is_some, MatchOption}
use Rattle.std.specs.Option.{option_map}
use Rattle.std.proofs.lemmas.Bool.{leb-true, leb-false, le-leb, lt-leb, ltb-true, lt-ltb, le-ltb, eqb-true, eq-eqb, both_ways}
use Rattle.av_interval.specs.Nodes.{Tree}
use Rattle.av_interval.specs.Span.{top}
use Rattle.av_arena.specs.Tree.{Leaf, Fork, entries, height}
use Rattle.av_interval.specs.declared.span.Span.{Span}
use Rattle.av_interval.specs.Nodes.{IsChild, IsSeen, span_of, reaching_child, tree_at, IsNone_or}
use Rattle.av_base.specs.Words.{how_many}
use Rattle.av_interval.specs.Search.{IsBefore, AllAfter, IsOrdered, is_past, overlaps, span_reaching, overlap_of}
use Rattle.av_interval.specs.declared.nodes.Node.{Node}

abbrev pub first_of_two : Option Span → Option Span → Option Span
first_of_two (Some x) y = Some x
first_of_two None y = y

two_cases : (b : Bool) (x : Span) (u v : Option Span) → cond b (Some x) (first_of_two u v) ≡ first_of_two (cond b (Some x) u) v
two_cases true x u v = refl
two_cases false x u v = refl

pub reaching-cut : (a : Option (ℕ × ℕ)) (i : ℕ) (l m : List Span)
    → span_reaching a i (l ++ m) ≡ first_of_two (span_reaching a i l) (span_reaching a i m)
reaching-cut a i [] m = refl
reaching-cut a i (x ∷ l) m = ap (cond (is_past a x && nat_le i x.last) (Some x)) (reaching-cut a i l m) ∙ two_cases (is_past a x && nat_le i x.last) x
    (span_reaching a i l) (span_reaching a i m)

pub top-cut : (l : List Span) (x : Span) (r : List Span) → top (l ++ x ∷ r) ≡ max (top l) (max x.last (top r))
top-cut [] x r = omega arith
top-cut (y ∷ l) x r = let h = top-cut l x r in omega (arith, h)

pub and_false : (b : Bool) → (b && false) ≡ false
and_false true = refl
and_false false = refl

pub none_above : (a : Option (ℕ × ℕ)) (i : ℕ) (xs : List Span) → top xs < i → span_reaching a i xs ≡ None
none_above a i [] h = refl
none_above a i (x ∷ xs) h = rw (lt-leb i x.last (omega arith), and_false (is_past a x)) (none_above a i xs (omega arith))

pub child_none : (isn : ℕ → Type 0) (b : ℕ → Tree) (t : Tree) (o : Option (ℕ × ℕ)) (i : ℕ) (a : Option (ℕ × ℕ)) → IsChild isn b t o →
    reaching_child i o ≡ None → span_reaching a i (entries t) ≡ None
child_none isn b t None i a c e = rw c refl
child_none isn b t (Some p) i a c e =
    elim (nat_le i p.1) as (λ v. nat_le i p.1 ≡ v → cond v (Some p.0) None ≡ None → span_reaching a i (entries t) ≡ None) [
      | true ↦ λ q f. cc
      | false ↦ λ q f. let h : p.1 < i = leb-false _ _ q in none_above a i (entries t) (rw (← c.2) h)
    ] refl e

pub record IsFound (isn : ℕ → Type 0) (b : ℕ → Tree) (t : Tree) (i n : ℕ) : Type 0 where
  pub node : isn n
  pub is : b n ≡ t
  pub reaches : i ≤ top (entries t)
  pub some : t ≡ Leaf → ⊥

pub child_some : (isn : ℕ → Type 0) (b : ℕ → Tree) (t : Tree) (o : Option (ℕ × ℕ)) (i n : ℕ) → IsChild isn b t o →
    reaching_child i o ≡ Some n → IsFound isn b t i n
child_some isn b t None i n c e = cc
child_some isn b t (Some p) i n c e =
    elim (nat_le i p.1) as (λ v. nat_le i p.1 ≡ v → cond v (Some p.0) None ≡ Some n → IsFound isn b t i n) [
      | true ↦ λ q f. let h : i ≤ p.1 = leb-true _ _ q in let k : p.0 ≡ n = cc in
          subst (IsFound isn b t i) k (record { node = c.0; is = c.1; reaches = rw (← c.2) h; some = c.3 })
      | false ↦ λ q f. cc
    ] refl e

-- a tree that was seen, cut at its node
pub record IsCut (isn : ℕ → Type 0) (b : ℕ → Tree) (t : Tree) (v : Node) : Type 0 where
  pub l : Tree
  pub r : Tree
  pub is : entries t ≡ entries l ++ span_of v ∷ entries r
  pub height : height t ≡ max (height l) (height r) + 1
  pub left : IsChild isn b l v.left
  pub right : IsChild isn b r v.right

pub cut_of : (isn : ℕ → Type 0) (b : ℕ → Tree) (t : Tree) (v : Node) → IsSeen isn b t v → IsCut isn b t v
cut_of isn b Leaf v s = absurd s
cut_of isn b (Fork n l x r) v s = record { l = l; r = r; is = rw s.0 refl; height = refl; left = s.1; right = s.2 }

-- the child that is searched stands for the whole child
pub record IsSame (isn : ℕ → Type 0) (b : ℕ → Tree) (t : Tree) (i : ℕ) (n : Option ℕ) : Type 0 where
  pub node : IsNone_or isn n
  pub same : (a : Option (ℕ × ℕ)) → span_reaching a i (entries (tree_at b n)) ≡ span_reaching a i (entries t)
  pub ordered : IsOrdered (entries t) → IsOrdered (entries (tree_at b n))
  pub height : height (tree_at b n) ≤ height t

pub child_same : (isn : ℕ → Type 0) (b : ℕ → Tree) (t : Tree) (o : Option (ℕ × ℕ)) (i : ℕ) → IsChild isn b t o → IsSame isn b t i (reaching_child i o)
child_same isn b t o i c =
    elim (reaching_child i o) as (λ n. reaching_child i o ≡ n → IsSame isn b t i n) [
      | None ↦ λ e. record { node = tt; same = λ a. sym (child_none isn b t o i a c e); ordered = λ _. tt; height = omega arith }
      | Some n ↦ λ e. let f = child_some isn b t o i n c e in record {
        node = f.node;
        same = λ a. ap (λ u. span_reaching a i (entries u)) f.is;
        ordered = λ s. rw f.is s;
        height = rw f.is (omega arith);
      }
    ] refl

-- order
all_front : (x : Span) (l m : List Span) → AllAfter x (l ++ m) → AllAfter x l
all_front x [] m a = tt
all_front x (y ∷ l) m a = (a.0, all_front x l m a.1)

pub ordered_front : (l m : List Span) → IsOrdered (l ++ m) → IsOrdered l
ordered_front [] m s = tt
ordered_front (x ∷ l) m s = (all_front x l m s.0, ordered_front l m s.1)

pub ordered_back : (l m : List Span) → IsOrdered (l ++ m) → IsOrdered m
ordered_back [] m s = s
ordered_back (x ∷ l) m s = ordered_back l m s.1

pub all_middle : (y : Span) (l : List Span) (x : Span) (r : List Span) → AllAfter y (l ++ x ∷ r) → IsBefore y x
all_middle y [] x r a = a.0
all_middle y (z ∷ l) x r a = all_middle y l x r a.1

abbrev pub IsPast : Option (ℕ × ℕ) → Span → Type 0
IsPast None x = Unit {0}
IsPast (Some p) x = (p.0 < x.first) ⊎ ((p.0 ≡ x.first) × (p.1 < x.area))

pub past_true : (a : Option (ℕ × ℕ)) (x : Span) → is_past a x ≡ true → IsPast a x
past_true None x e = tt
past_true (Some p) x e =
    elim (ltb p.0 x.first) as (λ v. ltb p.0 x.first ≡ v → (v || (eqb p.0 x.first && ltb p.1 x.area)) ≡ true → IsPast (Some p) x) [
      | true ↦ λ q f. inl (ltb-true _ _ q)
      | false ↦ λ q f. elim (eqb p.0 x.first) as (λ v. eqb p.0 x.first ≡ v → (v && ltb p.1 x.area) ≡ true → IsPast (Some p) x) [
        | true ↦ λ d h. inr (eqb-true _ _ d, ltb-true _ _ h)
        | false ↦ λ d h. cc
      ] refl f
    ] refl e

pub true_past : (a : Option (ℕ × ℕ)) (x : Span) → IsPast a x → is_past a x ≡ true
true_past None x h = refl
true_past (Some p) x (inl h) = rw (lt-ltb p.0 x.first h) refl
true_past (Some p) x (inr h) = let e = h.0 in let k = h.1 in rw (le-ltb p.0 x.first (omega arith), eq-eqb p.0 x.first e, lt-ltb p.1 x.area k) refl

pub past_on : (a : Option (ℕ × ℕ)) (x y : Span) → IsBefore x y → IsPast a x → IsPast a y
past_on None x y b h = tt
past_on (Some p) x y (inl b) (inl h) = inl (omega arith)
past_on (Some p) x y (inl b) (inr h) = let e = h.0 in inl (omega arith)
past_on (Some p) x y (inr b) (inl h) = let e = b.0 in inl (omega arith)
past_on (Some p) x y (inr b) (inr h) = let e = b.0 in let d = h.0 in let u = b.1 in let v = h.1 in inr (omega arith, omega arith)

pub past_right : (a : Option (ℕ × ℕ)) (i : ℕ) (x : Span) (r : List Span) → AllAfter x r → is_past a x ≡ true
    → span_reaching a i r ≡ span_reaching None i r
past_right a i x [] s e = refl
past_right a i x (y ∷ r) s e =
    rw (true_past a y (past_on a x y s.0 (past_true a x e))) (ap (cond (nat_le i y.last) (Some y)) (past_right a i x r s.1 e))

pub not_past : (a : Option (ℕ × ℕ)) (x y : Span) → IsBefore y x → is_past a x ≡ false → is_past a y ≡ false
not_past a x y b e =
    elim (is_past a y) as (λ v. is_past a y ≡ v → v ≡ false) [
      | true ↦ λ q. absurd (both_ways (is_past a x) e (true_past a x (past_on a y x b (past_true a y q))))
      | false ↦ λ q. refl
    ] refl

pub past_left : (a : Option (ℕ × ℕ)) (i : ℕ) (l : List Span) (x : Span) (r : List Span) → IsOrdered (l ++ x ∷ r) →
    is_past a x ≡ false → span_reaching a i l ≡ None
past_left a i [] x r s e = refl
past_left a i (y ∷ l) x r s e = rw (not_past a x y (all_middle y l x r s.0) e) (past_left a i l x r s.1 e)

pub some_below : (i : ℕ) (xs : List Span) → 1 ≤ i → i ≤ top xs → span_reaching None i xs ≡ None → ⊥
some_below i [] p h e = omega arith
some_below i (x ∷ xs) p h e =
    elim (nat_le i x.last) as (λ v. nat_le i x.last ≡ v → cond v (Some x) (span_reaching None i xs) ≡ None → ⊥) [
      | true ↦ λ q f. cc
      | false ↦ λ q f. let k : x.last < i = leb-false _ _ q in some_below i xs p (omega arith) f
    ] refl e

module _ (isn : ℕ → Type 0) (b : ℕ → Tree) (t : Tree) (v : Node) (s : IsSeen isn b t v) where
  -- the subtree of a child that reaches the index
  abbrev child : ℕ → Option (ℕ × ℕ) → List Span
  child i o = entries (tree_at b (reaching_child i o))

  cut : (a : Option (ℕ × ℕ)) (i : ℕ) → span_reaching a i (entries t) ≡ first_of_two (span_reaching a i (child i v.left))
      (span_reaching a i (span_of v ∷ entries (cut_of isn b t v s).r))
  cut a i =
      let k = cut_of isn b t v s in
      let m = child_same isn b k.l v.left i k.left in
      ap (span_reaching a i) k.is ∙ reaching-cut a i (entries k.l) (span_of v ∷ entries k.r)
      ∙ ap (λ x. first_of_two x (span_reaching a i (span_of v ∷ entries k.r))) (sym (m.same a))

  pub seen_found : (a : Option (ℕ × ℕ)) (i : ℕ) (x : Span) → span_reaching a i (child i v.left) ≡ Some x → span_reaching a i (entries t) ≡ Some x
  seen_found a i x e = cut a i ∙ rw e refl

  pub seen_as : (a : Option (ℕ × ℕ)) (i : ℕ) (o : Option Node) → is_some o ≡ true → option_map span_of o ≡ span_reaching a i (child i v.left) →
      option_map span_of o ≡ span_reaching a i (entries t)
  seen_as a i (Some x) p e = sym (seen_found a i (span_of x) (sym e))
  seen_as a i None p e = absurd (both_ways false refl p)

  pub seen_here : (a : Option (ℕ × ℕ)) (i : ℕ) → span_reaching a i (child i v.left) ≡ None → is_past a (span_of v) ≡ true → i ≤ v.last →
      span_reaching a i (entries t) ≡ Some (span_of v)
  seen_here a i e p h = cut a i ∙ rw (e, p, le-leb i v.last h) refl

  pub seen_later : (a : Option (ℕ × ℕ)) (i : ℕ) → span_reaching a i (child i v.left) ≡ None → is_past a (span_of v) ≡ true → v.last < i →
      (span_reaching a i (entries (cut_of isn b t v s).r) ≡ span_reaching None i (entries (cut_of isn b t v s).r)) →
      span_reaching a i (entries t) ≡ span_reaching None i (child i v.right)
  seen_later a i e p h later =
      let k = cut_of isn b t v s in
      let m = child_same isn b k.r v.right i k.right in
      cut a i ∙ rw (e, p, lt-leb i v.last h) (later ∙ sym (m.same None))

  pub seen_past : (a : Option (ℕ × ℕ)) (i : ℕ) → IsOrdered (entries t) → is_past a (span_of v) ≡ false →
      span_reaching a i (entries t) ≡ span_reaching a i (child i v.right)
  seen_past a i o p =
      let k = cut_of isn b t v s in
      let m = child_same isn b k.r v.right i k.right in
      let before = past_left a i (entries k.l) (span_of v) (entries k.r) (subst IsOrdered k.is o) p in
      ap (span_reaching a i) k.is ∙ reaching-cut a i (entries k.l) (span_of v ∷ entries k.r) ∙ rw (before, p) (sym (m.same a))

  pub later_ordered : (a : Option (ℕ × ℕ)) (i : ℕ) → IsOrdered (entries t) → is_past a (span_of v) ≡ true →
      span_reaching a i (entries (cut_of isn b t v s).r) ≡ span_reaching None i (entries (cut_of isn b t v s).r)
  later_ordered a i o p =
      let k = cut_of isn b t v s in
      past_right a i (span_of v) (entries k.r) (ordered_back (entries k.l) (span_of v ∷ entries k.r) (subst IsOrdered k.is o)).0 p

  pub record IsSide (i : ℕ) (n : Option ℕ) : Type 0 where
    pub node : IsNone_or isn n
    pub ordered : IsOrdered (entries t) → IsOrdered (entries (tree_at b n))
    pub height : height (tree_at b n) + 1 ≤ height t

  pub left_side : (i : ℕ) → IsSide i (reaching_child i v.left)
  left_side i =
      let k = cut_of isn b t v s in
      let m = child_same isn b k.l v.left i k.left in
      let h = m.height in
      record {
        node = m.node;
        ordered = λ o. m.ordered (ordered_front (entries k.l) (span_of v ∷ entries k.r) (subst IsOrdered k.is o));
        height = rw k.height (omega arith);
      }

  pub right_side : (i : ℕ) → IsSide i (reaching_child i v.right)
  right_side i =
      let k = cut_of isn b t v s in
      let m = child_same isn b k.r v.right i k.right in
      let h = m.height in
      record {
        node = m.node;
        ordered = λ o. m.ordered (ordered_back (entries k.l) (span_of v ∷ entries k.r) (subst IsOrdered k.is o)).1;
        height = rw k.height (omega arith);
      }

pub lower : (m k h t : ℕ) → m + 1 ≤ k → h ≡ k → h ≡ t → m < t
lower m k h t p q r = omega arith

-- from the first span that reaches to the first that overlaps
abbrev pub check : ℕ → Option Span → Option (ℕ × ℕ)
check i None = None
check i (Some x) = cond (nat_le x.first i) (Some (x.first, x.area)) None

pub later_start : (x y : Span) (i : ℕ) → IsBefore x y → i < x.first → i < y.first
later_start x y i (inl b) h = omega arith
later_start x y i (inr b) h = let e = b.0 in omega arith

starts_after : (a : Option (ℕ × ℕ)) (i : ℕ) (x : Span) (xs : List Span) → AllAfter x xs → i < x.first → overlap_of a i xs ≡ None
starts_after a i x [] s h = refl
starts_after a i x (y ∷ xs) s h = rw (lt-leb y.first i (later_start x y i s.0 h), and_false (is_past a y)) (starts_after a i x xs s.1 h)

overlap_cases : (P F L : Bool) (i : ℕ) (x : Span) (u : Option (ℕ × ℕ)) (w : Option Span) → nat_le x.first i ≡ F → u ≡ check i w
    → (F ≡ false → u ≡ None) →
    cond (P && (F && L)) (Some (x.first, x.area)) u ≡ check i (cond (P && L) (Some x) w)
overlap_cases false F L i x u w f e n = e
overlap_cases true true true i x u w f e n = rw f refl
overlap_cases true true false i x u w f e n = e
overlap_cases true false true i x u w f e n = n refl ∙ rw f refl
overlap_cases true false false i x u w f e n = e

pub overlap_is : (a : Option (ℕ × ℕ)) (i : ℕ) (xs : List Span) → IsOrdered xs → overlap_of a i xs ≡ check i (span_reaching a i xs)
overlap_is a i [] s = refl
overlap_is a i (x ∷ xs) s = overlap_cases (is_past a x) (nat_le x.first i) (nat_le i x.last) i x _ _ refl (overlap_is a i xs s.1)
    (λ f. starts_after a i x xs s.0 (leb-false _ _ f))

pub overlap_of_node : (a : Option (ℕ × ℕ)) (i : ℕ) (xs : List Span) (o : Option Node) → IsOrdered xs → option_map span_of o ≡ span_reaching a i xs →
    check i (option_map span_of o) ≡ overlap_of a i xs
overlap_of_node a i xs o s e = ap (check i) e ∙ sym (overlap_is a i xs s)

pub root_is : (isn : ℕ → Type 0) (b : ℕ → Tree) (t : Tree) (o : Option ℕ) → MatchOption o (t ≡ Leaf) (λ n. isn n × (b n ≡ t)) →
    IsNone_or isn o × (tree_at b o ≡ t)
root_is isn b t None m = (tt, sym m)
root_is isn b t (Some n) m = m

-- how many overlap past a place
abbrev pub remaining : Option (ℕ × ℕ) → ℕ → List Span → ℕ
remaining a i xs = how_many (λ x. is_past a x && overlaps i x) xs

pub none_remain : (a : Option (ℕ × ℕ)) (i : ℕ) (xs : List Span) → overlap_of a i xs ≡ None → remaining a i xs ≡ 0
none_remain a i [] e = refl
none_remain a i (x ∷ xs) e = elim (is_past a x && overlaps i x) as (λ (b : Bool). cond b (Some (x.first, x.area)) (overlap_of a i xs) ≡ None →
    cond {A = ℕ} b 1 0 + remaining a i xs ≡ 0) [
      | true ↦ λ d. cc
      | false ↦ λ d. let h = none_remain a i xs d in omega arith
    ] e

pub not_past_itself : (x : Span) → is_past (Some (x.first, x.area)) x ≡ false
not_past_itself x = rw (le-ltb x.first x.first (omega arith), le-ltb x.area x.area (omega arith)) (and_false (eqb x.first x.first))

-- what stands before the span that is found is not past it
pub found_past : (a : Option (ℕ × ℕ)) (i : ℕ) (x : Span) (xs : List Span) (p : ℕ × ℕ) → AllAfter x xs → overlap_of a i xs ≡ Some p
    → is_past (Some p) x ≡ false
found_past a i x [] p s e = cc
found_past a i x (y ∷ xs) p s e = elim (is_past a y && overlaps i y) as (λ (b : Bool). cond b (Some (y.first, y.area)) (overlap_of a i xs) ≡ Some p →
    is_past (Some p) x ≡ false) [
      | true ↦ λ d. let q : (y.first, y.area) ≡ p = cc in subst (λ (r : ℕ × ℕ). is_past (Some r) x ≡ false) q
          (not_past (Some (y.first, y.area)) y x s.0 (not_past_itself y))
      | false ↦ λ d. found_past a i x xs p s.1 d
    ] e

past_all : (a : Option (ℕ × ℕ)) (i : ℕ) (x : Span) (xs : List Span) → AllAfter x xs → is_past a x ≡ true → remaining a i xs ≡ how_many (overlaps i) xs
past_all a i x [] s e = refl
past_all a i x (y ∷ xs) s e =
    rw (true_past a y (past_on a x y s.0 (past_true a x e))) (ap (λ n. cond {A = ℕ} (overlaps i y) 1 0 + n) (past_all a i x xs s.1 e))

past_it : (i : ℕ) (x : Span) (xs : List Span) → AllAfter x xs → remaining (Some (x.first, x.area)) i xs ≡ how_many (overlaps i) xs
past_it i x [] s = refl
past_it i x (y ∷ xs) s = rw (true_past (Some (x.first, x.area)) y s.0) (ap (λ n. cond {A = ℕ} (overlaps i y) 1 0 + n) (past_it i x xs s.1))

pub first_true : (b c : Bool) → (b && c) ≡ true → b ≡ true
first_true true c e = refl
first_true false c e = e

pub found_one : (a : Option (ℕ × ℕ)) (i : ℕ) (xs : List Span) (p : ℕ × ℕ) → IsOrdered xs → overlap_of a i xs ≡ Some p →
    remaining a i xs ≡ 1 + remaining (Some p) i xs
found_one a i [] p s e = cc
found_one a i (x ∷ xs) p s e = elim (is_past a x && overlaps i x) as (λ (b : Bool). (is_past a x && overlaps i x) ≡ b →
    cond b (Some (x.first, x.area)) (overlap_of a i xs) ≡ Some p → cond {A = ℕ} b 1 0 + remaining a i xs ≡ 1 + remaining (Some p) i (x ∷ xs)) [
      | true ↦ λ q d.
          let r : (x.first, x.area) ≡ p = cc in
          subst (λ (w : ℕ × ℕ). 1 + remaining a i xs ≡ 1 + remaining (Some w) i (x ∷ xs)) r
          (rw (not_past_itself x, past_all a i x xs s.0 (first_true (is_past a x) (overlaps i x) q), past_it i x xs s.0) (omega arith))
      | false ↦ λ q d. rw (found_past a i x xs p s.0 d) (let h = found_one a i xs p s.1 d in omega arith)
    ] refl e

pub at_most_all : (test : Span → Bool) (xs : List Span) → how_many test xs ≤ length xs
at_most_all test [] = omega arith
at_most_all test (x ∷ xs) = elim (test x) as (λ (b : Bool). cond {A = ℕ} b 1 0 + how_many test xs ≤ length (x ∷ xs)) [
  | true ↦ let h = at_most_all test xs in omega arith
  | false ↦ let h = at_most_all test xs in omega arith
]
