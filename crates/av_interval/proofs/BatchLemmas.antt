-- What a visit tells of the next overlaps past a place, and what it costs.
use Rattle.std.proofs.Common.{◌≡◌, ℕ, zero, suc, ◌+◌, ◌*◌, ◌<◌, ◌≤◌, inl, inr, Bool, true, false, not, cond, ◌&&◌, ◌||◌, Option, Some, None, List, [], ◌∷◌, ◌++◌, length, take, refl, sym, ap, ◌∙◌, subst, arith, append-nil, length-take, length-append}
use Rattle.std.specs.Prelude.{nat_le}
use Rattle.std.proofs.lemmas.Bool.{leb-false, le-leb, lt-leb}
use Rattle.std.proofs.lemmas.Nat.{mul-le}
use Rattle.av_interval.specs.Batch.{overlaps_past, some_passed, some_later, edges, IsReached}
use Rattle.av_interval.specs.Nodes.{Tree, IsChild, IsSeen, span_of, reaching_child, tree_at}
use Rattle.av_interval.specs.Search.{IsBefore, AllAfter, IsOrdered, is_past, overlaps, overlap_of}
use Rattle.av_interval.specs.Span.{top}
use Rattle.av_arena.specs.Tree.{entries}
use Rattle.av_interval.specs.declared.span.Span.{Span}
use Rattle.av_interval.specs.declared.nodes.Node.{Node}
use Rattle.av_interval.proofs.SearchLemmas.{not_past_itself, found_past, first_true, cut_of, child_some, not_past, past_true, true_past, past_on, later_start, all_middle, ordered_back, and_false}

-- ---- lists

-- to cut, to append and to cut again is to append and to cut
pub take_again : {X : Type 0} (n : ℕ) (xs ys : List X) → take n (take n xs ++ ys) ≡ take n (xs ++ ys)
take_again zero xs ys = refl
take_again (suc n) [] ys = refl
take_again (suc n) (x ∷ xs) ys = ap (λ zs. x ∷ zs) (take_again n xs ys)

append_cond : {X : Type 0} (b : Bool) (x : X) (xs ys : List X) → cond b (x ∷ xs ++ ys) (xs ++ ys) ≡ cond b (x ∷ xs) xs ++ ys
append_cond true x xs ys = refl
append_cond false x xs ys = refl

pub over_cut : (a : Option (ℕ × ℕ)) (i : ℕ) (l m : List Span) → overlaps_past a i (l ++ m) ≡ overlaps_past a i l ++ overlaps_past a i m
over_cut a i [] m = refl
over_cut a i (x ∷ l) m =
    ap (λ r. cond (is_past a x && overlaps i x) ((x.first, x.area) ∷ r) r) (over_cut a i l m)
    ∙ append_cond (is_past a x && overlaps i x) (x.first, x.area) (overlaps_past a i l) (overlaps_past a i m)

or_cut : (b c d : Bool) → (b || (c || d)) ≡ ((b || c) || d)
or_cut true c d = refl
or_cut false c d = refl

passed_cut : (a : Option (ℕ × ℕ)) (l m : List Span) → some_passed a (l ++ m) ≡ (some_passed a l || some_passed a m)
passed_cut a [] m = refl
passed_cut a (x ∷ l) m = ap (λ b. not (is_past a x) || b) (passed_cut a l m) ∙ or_cut (not (is_past a x)) (some_passed a l) (some_passed a m)

later_cut : (i : ℕ) (l m : List Span) → some_later i (l ++ m) ≡ (some_later i l || some_later i m)
later_cut i [] m = refl
later_cut i (x ∷ l) m = ap (λ b. not (nat_le x.first i) || b) (later_cut i l m) ∙ or_cut (not (nat_le x.first i)) (some_later i l) (some_later i m)

-- ---- spans that can't be found

over_above : (a : Option (ℕ × ℕ)) (i : ℕ) (xs : List Span) → top xs < i → overlaps_past a i xs ≡ []
over_above a i [] h = refl
over_above a i (x ∷ xs) h =
    rw (lt-leb i x.last (omega arith), and_false (nat_le x.first i), and_false (is_past a x)) (over_above a i xs (omega arith))

pub over_later : (a : Option (ℕ × ℕ)) (i : ℕ) (x : Span) (xs : List Span) → AllAfter x xs → i < x.first → overlaps_past a i xs ≡ []
over_later a i x [] s h = refl
over_later a i x (y ∷ xs) s h = rw (lt-leb y.first i (later_start x y i s.0 h), and_false (is_past a y)) (over_later a i x xs s.1 h)

over_passed : (a : Option (ℕ × ℕ)) (i : ℕ) (l : List Span) (x : Span) (r : List Span) → IsOrdered (l ++ x ∷ r) → is_past a x ≡ false
    → overlaps_past a i l ≡ []
over_passed a i [] x r s e = refl
over_passed a i (y ∷ l) x r s e = rw (not_past a x y (all_middle y l x r s.0) e) (over_passed a i l x r s.1 e)

-- ---- sides

-- what is past the place is followed by such alone
none_passed : (a : Option (ℕ × ℕ)) (x : Span) (xs : List Span) → AllAfter x xs → is_past a x ≡ true → some_passed a xs ≡ false
none_passed a x [] s e = refl
none_passed a x (y ∷ xs) s e = rw (true_past a y (past_on a x y s.0 (past_true a x e))) (none_passed a x xs s.1 e)

not_later : (x y : Span) (i : ℕ) → IsBefore x y → y.first ≤ i → x.first ≤ i
not_later x y i (inl b) h = omega arith
not_later x y i (inr b) h = let e = b.0 in omega arith

none_later : (i : ℕ) (l : List Span) (x : Span) (r : List Span) → IsOrdered (l ++ x ∷ r) → x.first ≤ i → some_later i l ≡ false
none_later i [] x r s h = refl
none_later i (y ∷ l) x r s h = rw (le-leb y.first i (not_later y x i (all_middle y l x r s.0) h)) (none_later i l x r s.1 h)

-- spans that reach the index, all past the place and none later, have one to be found
pub some_found : (a : Option (ℕ × ℕ)) (i : ℕ) (xs : List Span) → (xs ≡ [] → ⊥) → i ≤ top xs → some_passed a xs ≡ false → some_later i xs ≡ false →
    1 ≤ length (overlaps_past a i xs)
some_found a i [] n h p l = absurd (n refl)
some_found a i (x ∷ xs) n h p l = is (λ m. some_found a i xs m) (is_past a x) refl (nat_le x.first i) refl (nat_le i x.last) refl
  where
    clash : true ≡ false → ⊥
    clash q = cc

    again : x.last < i → i ≤ top (x ∷ []) → ⊥
    again k m = omega (arith, k, m)

    rest : x.last < i → i ≤ top xs
    rest k = omega (arith, h, k)

    is : ((xs ≡ [] → ⊥) → i ≤ top xs → some_passed a xs ≡ false → some_later i xs ≡ false → 1 ≤ length (overlaps_past a i xs)) →
        (b : Bool) → is_past a x ≡ b → (c : Bool) → nat_le x.first i ≡ c → (d : Bool) → nat_le i x.last ≡ d → 1 ≤ length (overlaps_past a i (x ∷ xs))
    is later true e true f true g = rw (e, f, g) (omega arith)
    is later true e true f false g = rw (e, f, g) (later (λ q. again (leb-false _ _ g) (subst (λ ys. i ≤ top (x ∷ ys)) q h)) (rest (leb-false _ _ g))
        (sym (ap (λ b. not b || some_passed a xs) e) ∙ p) (sym (ap (λ b. not b || some_later i xs) f) ∙ l))
    is later true e false f d g = absurd (clash (sym (ap (λ b. not b || some_later i xs) f) ∙ l))
    is later false e c f d g = absurd (clash (sym (ap (λ b. not b || some_passed a xs) e) ∙ p))

-- ---- children

abbrev pub one : Bool → ℕ
one b = cond b 1 0

-- the child that is gone into stands for the whole child
pub record IsWhole (isn : ℕ → Type 0) (b : ℕ → Tree) (t : Tree) (i : ℕ) (n : Option ℕ) : Type 0 where
  pub over : (a : Option (ℕ × ℕ)) → overlaps_past a i (entries (tree_at b n)) ≡ overlaps_past a i (entries t)
  pub reached : IsReached i (entries (tree_at b n))
  pub passed : (a : Option (ℕ × ℕ)) → one (some_passed a (entries (tree_at b n))) ≤ one (some_passed a (entries t))
  pub later : one (some_later i (entries (tree_at b n))) ≤ one (some_later i (entries t))

child_high : (isn : ℕ → Type 0) (b : ℕ → Tree) (t : Tree) (o : Option (ℕ × ℕ)) (i : ℕ) (a : Option (ℕ × ℕ)) → IsChild isn b t o →
    reaching_child i o ≡ None → overlaps_past a i (entries t) ≡ []
child_high isn b t None i a c e = rw c refl
child_high isn b t (Some p) i a c e =
    elim (nat_le i p.1) as (λ v. nat_le i p.1 ≡ v → cond v (Some p.0) None ≡ None → overlaps_past a i (entries t) ≡ []) [
      | true ↦ λ q f. cc
      | false ↦ λ q f. let h : p.1 < i = leb-false _ _ q in over_above a i (entries t) (rw (← c.2) h)
    ] refl e

child_whole : (isn : ℕ → Type 0) (b : ℕ → Tree) (t : Tree) (o : Option (ℕ × ℕ)) (i : ℕ) → IsChild isn b t o → IsWhole isn b t i (reaching_child i o)
child_whole isn b t o i c =
    elim (reaching_child i o) as (λ n. reaching_child i o ≡ n → IsWhole isn b t i n) [
      | None ↦ λ e. record
          { over = λ a. sym (child_high isn b t o i a c e); reached = λ n. absurd (n refl); passed = λ a. omega arith; later = omega arith }
      | Some n ↦ λ e. let f = child_some isn b t o i n c e in record {
        over = λ a. ap (λ u. overlaps_past a i (entries u)) f.is;
        reached = λ _. rw f.is f.reaches;
        passed = λ a. rw f.is (omega arith);
        later = rw f.is (omega arith);
      }
    ] refl

-- ---- costs

-- one way down
pub paid_one : (s t u S m k h : ℕ) → t ≡ s + 1 → u ≤ t + S * k → k + 1 ≤ h → S ≤ m → 1 ≤ m → u ≤ s + m * h
paid_one s t u S m k h e l d f g =
    let p = mul-le S k m k f (omega arith) in
    let q = mul-le m (k + 1) m h (omega arith) d in
    let r : m * (k + 1) ≡ m * k + m = omega arith in
    omega (arith, e, l, g, p, q, r)

-- both
pub paid_two : (s t u v S T m k l h : ℕ) → t ≡ s + 1 → u ≤ t + S * k → v ≤ u + T * l → k + 1 ≤ h → l + 1 ≤ h → S + T ≤ m → 1 ≤ m → v ≤ s + m * h
paid_two s t u v S T m k l zero e x y d f g o = absurd (omega arith)
paid_two s t u v S T m k l (suc h) e x y d f g o =
    let p = mul-le S k S h (omega arith) (omega arith) in
    let q = mul-le T l T h (omega arith) (omega arith) in
    let r = mul-le (S + T) h m h g (omega arith) in
    let w : (S + T) * h ≡ S * h + T * h = Rattle.std.proofs.Math.Nat.add-mul S T h in
    let z : m * suc h ≡ m * h + m = Rattle.std.proofs.Math.Nat.mul-suc m h in
    omega (arith, e, x, y, o, p, q, r, w, z)

-- how much a batch has after it was added to
pub grown : {X : Type 0} (n : ℕ) (xs ys zs : List X) → length xs ≤ n → zs ≡ take n (xs ++ ys) → (length xs ≤ length zs) × (length zs ≤ n)
grown n xs ys zs h e = (rw (e, length-take n (xs ++ ys), length-append xs ys) (omega (arith, h)), rw (e, length-take n (xs ++ ys)) (omega arith))

pub grown_more : {X : Type 0} (n : ℕ) (xs ys zs : List X) → length xs < n → 1 ≤ length ys → zs ≡ take n (xs ++ ys) → length xs + 1 ≤ length zs
grown_more n xs ys zs h k e = rw (e, length-take n (xs ++ ys), length-append xs ys) (omega (arith, h, k))

-- ---- at a node

pub edges_two : (a : Option (ℕ × ℕ)) (i : ℕ) (xs : List Span) → edges a i xs ≤ 2
edges_two a i xs = is (some_passed a xs) (some_later i xs)
  where
    is : (b c : Bool) → one b + one c ≤ 2
    is true true = omega arith
    is true false = omega arith
    is false true = omega arith
    is false false = omega arith

one_left : (b c : Bool) → one b ≤ one (b || c)
one_left true c = omega arith
one_left false c = omega arith

one_right : (b c : Bool) → one c ≤ one (b || c)
one_right true true = omega arith
one_right true false = omega arith
one_right false c = omega arith

none_one : (b : Bool) → one b ≡ 0 → b ≡ false
none_one true e = absurd (omega (arith, e))
none_one false e = refl

pub inside : (a : Option (ℕ × ℕ)) (i : ℕ) (xs : List Span) → (xs ≡ [] → ⊥) → i ≤ top xs → edges a i xs ≡ 0 → 1 ≤ length (overlaps_past a i xs)
inside a i xs n h e = some_found a i xs n h (none_one (some_passed a xs) (omega (arith, e))) (none_one (some_later i xs) (omega (arith, e)))

not_nil : (l : List Span) (x : Span) (r : List Span) → l ++ x ∷ r ≡ [] → ⊥
not_nil [] x r e = cc
not_nil (y ∷ l) x r e = cc

module _ (isn : ℕ → Type 0) (b : ℕ → Tree) (t : Tree) (v : Node) (s : IsSeen isn b t v) (a : Option (ℕ × ℕ)) (i : ℕ) where
  -- the spans of a child that reaches the index
  abbrev within : Option (ℕ × ℕ) → List Span
  within o = entries (tree_at b (reaching_child i o))

  l_whole : IsWhole isn b (cut_of isn b t v s).l i (reaching_child i v.left)
  l_whole = child_whole isn b (cut_of isn b t v s).l v.left i (cut_of isn b t v s).left

  r_whole : IsWhole isn b (cut_of isn b t v s).r i (reaching_child i v.right)
  r_whole = child_whole isn b (cut_of isn b t v s).r v.right i (cut_of isn b t v s).right

  pub left_reached : IsReached i (within v.left)
  left_reached = l_whole.reached

  pub right_reached : IsReached i (within v.right)
  right_reached = r_whole.reached

  over_all : overlaps_past a i (entries t) ≡ overlaps_past a i (within v.left) ++ overlaps_past a i (span_of v ∷ entries (cut_of isn b t v s).r)
  over_all =
      let k = cut_of isn b t v s in
      ap (overlaps_past a i) k.is ∙ over_cut a i (entries k.l) (span_of v ∷ entries k.r)
      ∙ ap (λ xs. xs ++ overlaps_past a i (span_of v ∷ entries k.r)) (sym (l_whole.over a))

  pub over_right : IsOrdered (entries t) → is_past a (span_of v) ≡ false → overlaps_past a i (entries t) ≡ overlaps_past a i (within v.right)
  over_right o p =
      let k = cut_of isn b t v s in
      ap (overlaps_past a i) k.is ∙ over_cut a i (entries k.l) (span_of v ∷ entries k.r)
      ∙ ap (λ xs. xs ++ overlaps_past a i (span_of v ∷ entries k.r))
      (over_passed a i (entries k.l) (span_of v) (entries k.r) (subst IsOrdered k.is o) p)
      ∙ rw p (sym (r_whole.over a))

  pub over_left : IsOrdered (entries t) → i < v.first → overlaps_past a i (entries t) ≡ overlaps_past a i (within v.left)
  over_left o h =
      let k = cut_of isn b t v s in
      over_all ∙ rw (
        lt-leb v.first i h,
        and_false (is_past a (span_of v)),
        over_later a i (span_of v) (entries k.r)
            (ordered_back (entries k.l) (span_of v ∷ entries k.r) (subst IsOrdered k.is o)).0 h,
      ) (append-nil (overlaps_past a i (within v.left)))

  pub over_both : is_past a (span_of v) ≡ true →
      overlaps_past a i (entries t) ≡ overlaps_past a i (within v.left)
      ++ (overlaps_past None i (span_of v ∷ []) ++ overlaps_past a i (within v.right))
  over_both p =
      let k = cut_of isn b t v s in
      over_all ∙ ap (λ xs. overlaps_past a i (within v.left) ++ xs)
      (rw p (ap (λ r. cond (overlaps i (span_of v)) ((v.first, v.area) ∷ r) r) (sym (r_whole.over a))
      ∙ append_cond (overlaps i (span_of v)) (v.first, v.area) [] (overlaps_past a i (within v.right))))

  passed_all : some_passed a
      (entries t) ≡ (some_passed a
      (entries (cut_of isn b t v s).l) || (not (is_past a (span_of v)) || some_passed a (entries (cut_of isn b t v s).r)))
  passed_all = let k = cut_of isn b t v s in ap (some_passed a) k.is ∙ passed_cut a (entries k.l) (span_of v ∷ entries k.r)

  later_all : some_later i
      (entries t) ≡ (some_later i (entries (cut_of isn b t v s).l) || (not (nat_le v.first i) || some_later i (entries (cut_of isn b t v s).r)))
  later_all = let k = cut_of isn b t v s in ap (some_later i) k.is ∙ later_cut i (entries k.l) (span_of v ∷ entries k.r)

  or_true : (c d : Bool) → (c || (true || d)) ≡ true
  or_true true d = refl
  or_true false d = refl

  one_most : (c : Bool) → one c ≤ 1
  one_most true = omega arith
  one_most false = omega arith

  later_right : one (some_later i (within v.right)) ≤ one (some_later i (entries t))
  later_right =
      let k = cut_of isn b t v s in
      let x = r_whole.later in
      let y = one_right (not (nat_le v.first i)) (some_later i (entries k.r)) in
      let z = one_right (some_later i (entries k.l)) (not (nat_le v.first i) || some_later i (entries k.r)) in
      rw later_all (omega (arith, x, y, z))

  passed_left : one (some_passed a (within v.left)) ≤ one (some_passed a (entries t))
  passed_left =
      let k = cut_of isn b t v s in
      let x = l_whole.passed a in
      let y = one_left (some_passed a (entries k.l)) (not (is_past a (span_of v)) || some_passed a (entries k.r)) in
      rw passed_all (omega (arith, x, y))

  pub edges_right : is_past a (span_of v) ≡ false → (edges a i (within v.right) ≤ edges a i (entries t)) × (1 ≤ edges a i (entries t))
  edges_right p =
      let k = cut_of isn b t v s in
      let e : some_passed a (entries t) ≡ true = passed_all ∙ ap (λ c. some_passed a (entries k.l) || (not c || some_passed a (entries k.r))) p
      ∙ or_true (some_passed a (entries k.l)) (some_passed a (entries k.r)) in
      let f : one (some_passed a (entries t)) ≡ 1 = ap one e in
      let g = one_most (some_passed a (within v.right)) in
      let h = later_right in
      (omega (arith, f, g, h), omega (arith, f))

  pub edges_left : i < v.first → (edges a i (within v.left) ≤ edges a i (entries t)) × (1 ≤ edges a i (entries t))
  edges_left h =
      let k = cut_of isn b t v s in
      let e : some_later i (entries t) ≡ true = later_all
      ∙ ap (λ c. some_later i (entries k.l) || (not c || some_later i (entries k.r))) (lt-leb v.first i h)
      ∙ or_true (some_later i (entries k.l)) (some_later i (entries k.r)) in
      let f : one (some_later i (entries t)) ≡ 1 = ap one e in
      let g = one_most (some_later i (within v.left)) in
      let m = passed_left in
      (omega (arith, f, g, m), omega (arith, f))

  pub edges_both : IsOrdered (entries t) → is_past a (span_of v) ≡ true → v.first ≤ i
      → edges a i (within v.left) + edges a i (within v.right) ≤ edges a i (entries t)
  edges_both o p h =
      let k = cut_of isn b t v s in
      let q = subst IsOrdered k.is o in
      let x : one (some_later i (entries k.l)) ≡ 0 = ap one (none_later i (entries k.l) (span_of v) (entries k.r) q h) in
      let y : one (some_passed a (entries k.r)) ≡ 0 =
      ap one (none_passed a (span_of v) (entries k.r) (ordered_back (entries k.l) (span_of v ∷ entries k.r) q).0 p) in
      let z = l_whole.later in
      let w = r_whole.passed a in
      let m = passed_left in
      let n = later_right in
      omega (arith, x, y, z, w, m, n)

  pub reached : IsReached i (entries t) → i ≤ top (entries t)
  reached h = h (λ e. let k = cut_of isn b t v s in not_nil (entries k.l) (span_of v) (entries k.r) (sym k.is ∙ e))

  pub found_inside : IsReached i (entries t) → edges a i (entries t) ≡ 0 → 1 ≤ length (overlaps_past a i (entries t))
  found_inside h e = inside a i (entries t)
      (λ d. let k = cut_of isn b t v s in not_nil (entries k.l) (span_of v) (entries k.r) (sym k.is ∙ d)) (reached h) e

-- ---- one after the other

over_past : (a : Option (ℕ × ℕ)) (i : ℕ) (x : Span) (xs : List Span) → AllAfter x xs → is_past a x ≡ true
    → overlaps_past a i xs ≡ overlaps_past None i xs
over_past a i x [] s e = refl
over_past a i x (y ∷ xs) s e = rw (true_past a y (past_on a x y s.0 (past_true a x e)))
    (ap (λ r. cond (overlaps i y) ((y.first, y.area) ∷ r) r) (over_past a i x xs s.1 e))

over_it : (i : ℕ) (x : Span) (xs : List Span) → AllAfter x xs → overlaps_past (Some (x.first, x.area)) i xs ≡ overlaps_past None i xs
over_it i x [] s = refl
over_it i x (y ∷ xs) s = rw (true_past (Some (x.first, x.area)) y s.0) (ap (λ r. cond (overlaps i y) ((y.first, y.area) ∷ r) r) (over_it i x xs s.1))

-- where nothing is past the place, the first is none
pub first_none : (a : Option (ℕ × ℕ)) (i : ℕ) (xs : List Span) → overlaps_past a i xs ≡ [] → overlap_of a i xs ≡ None
first_none a i [] e = refl
first_none a i (x ∷ xs) e =
    elim (is_past a x && overlaps i x) as (λ (b : Bool). cond b ((x.first, x.area) ∷ overlaps_past a i xs) (overlaps_past a i xs) ≡ [] →
    cond b (Some (x.first, x.area)) (overlap_of a i xs) ≡ None) [
      | true ↦ λ d. cc
      | false ↦ λ d. first_none a i xs d
    ] e

-- and else it is the first of them, past which are the others
pub first_some : (a : Option (ℕ × ℕ)) (i : ℕ) (xs : List Span) (p : ℕ × ℕ) (ps : List (ℕ × ℕ)) → IsOrdered xs → overlaps_past a i xs ≡ p ∷ ps →
    (overlap_of a i xs ≡ Some p) × (overlaps_past (Some p) i xs ≡ ps)
first_some a i [] p ps s e = cc
first_some a i (x ∷ xs) p ps s e = elim (is_past a x && overlaps i x) as (λ (b : Bool). (is_past a x && overlaps i x) ≡ b →
    cond b ((x.first, x.area) ∷ overlaps_past a i xs) (overlaps_past a i xs) ≡ p ∷ ps →
    (cond b (Some (x.first, x.area)) (overlap_of a i xs) ≡ Some p) × (overlaps_past (Some p) i (x ∷ xs) ≡ ps)) [
      | true ↦ λ q d.
          let h : (x.first, x.area) ≡ p = cc in
          let t : overlaps_past a i xs ≡ ps = cc in (
            ap Some h,
            subst (λ (w : ℕ × ℕ). overlaps_past (Some w) i (x ∷ xs) ≡ ps) h (rw (not_past_itself x)
                (over_it i x xs s.0 ∙ sym (over_past a i x xs s.0 (first_true (is_past a x) (overlaps i x) q)) ∙ t)),
          )
      | false ↦ λ q d.
          let h = first_some a i xs p ps s.1 d in
          (h.0, rw (found_past a i x xs p s.0 h.0) h.1)
    ] refl e
