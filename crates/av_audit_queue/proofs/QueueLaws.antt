-- What becomes of a list of members when the line changes.
use Rattle.std.proofs.Common.{◌≡◌, ℕ, ◌+◌, ◌<◌, ◌≤◌, Bool, true, false, cond, ◌||◌, ◌&&◌, not, List, [], ◌∷◌, ◌++◌, length, filter, map}
use Rattle.std.proofs.Common.{Option, Some, None, refl, sym, ap, subst, nat_eq, ◌∙◌, arith}
use Rattle.std.specs.BTreeMap.{insert_entry}
use Rattle.std.specs.Cmp.{eq_by_cmp_equiv, nat_cmp_total}
use Rattle.std.specs.List.{list_any}
use Rattle.std.specs.List.Sorted.{IsStrictlySortedBy}
use Rattle.std.specs.Map.{keys_of, values_of, remove_entry, set_value}
use Rattle.std.specs.Option.{IfNone, IfSome, is_some, option_map_or}
use Rattle.std.specs.Ordering.{match_ordering, nat_cmp}
use Rattle.std.specs.declared.cmp.Ordering.TheVariants.{Less, Greater}
use Rattle.std.proofs.lemmas.Bool.Decides.{nat_tests}
use Rattle.std.proofs.lemmas.Map.{lookup-none}
use Rattle.std.proofs.lemmas.Map.Entries.{none_past_head}
use Rattle.std.proofs.lemmas.Map.Keys.{IsDistinct-from_sorted, sorted_tail}
use Rattle.av_base.specs.Keys.{Key, same_key}
use Rattle.av_base.specs.Words.{how_many}
use Rattle.av_base.proofs.Keys.{same_key-is}
use Rattle.av_audit_queue.specs.Line.{has_at, member_at}
use Rattle.av_audit_queue.specs.Queue.{is_same}
use Rattle.av_audit_queue.proofs.LineLaws.{is_rank, told}

-- ---- at the ends

pub member-itself : {T : Type 0} (e : ℕ × T) (es : List (ℕ × T)) → member_at (e ∷ es) e.0 ≡ Some e.1
member-itself e es = ap (λ b. cond b (Some e.1) (member_at es e.0)) (itself e.0)
  where
    itself : (k : ℕ) → is_rank k k ≡ true
    itself k = grind (arith, nat_tests)

is-less : (a b : ℕ) → a < b → nat_cmp a b ≡ Less
is-less a b h = grind (arith, nat_tests)

is-greater : (a b : ℕ) → b < a → nat_cmp a b ≡ Greater
is-greater a b h = grind (arith, nat_tests)

pub front : {T : Type 0} (es : List (ℕ × T)) (rank : ℕ) (x : T) → ((r : ℕ) → r ≤ rank → member_at es r ≡ None)
    → values_of (insert_entry nat_cmp es rank x) ≡ x ∷ values_of es
front [] rank x free = refl
front (e ∷ es) rank x free =
    ap (λ o. values_of (match_ordering o ((rank, x) ∷ e ∷ es) ((e.0, x) ∷ es) (e ∷ insert_entry nat_cmp es rank x)))
    (is-less rank e.0 (above rank e.0 (λ h. clash (sym (member-itself e es) ∙ free e.0 h))))
  where
    clash : Some e.1 ≡ None → ⊥
    clash h = cc

    above : (a b : ℕ) → (b ≤ a → ⊥) → a < b
    above a b h = omega (arith, h)

pub back : {T : Type 0} (es : List (ℕ × T)) (rank : ℕ) (x : T) → ((r : ℕ) → rank ≤ r → member_at es r ≡ None)
    → values_of (insert_entry nat_cmp es rank x) ≡ values_of es ++ x ∷ []
back [] rank x free = refl
back (e ∷ es) rank x free =
    ap (λ o. values_of (match_ordering o ((rank, x) ∷ e ∷ es) ((e.0, x) ∷ es) (e ∷ insert_entry nat_cmp es rank x)))
    (is-greater rank e.0 (below rank e.0 (λ h. clash (sym (member-itself e es) ∙ free e.0 h))))
    ∙ ap (λ xs. e.1 ∷ xs) (back es rank x (λ r h. rest (is_rank r e.0) r (free r h)))
  where
    clash : Some e.1 ≡ None → ⊥
    clash h = cc

    below : (a b : ℕ) → (a ≤ b → ⊥) → b < a
    below a b h = omega (arith, h)

    rest : (b : Bool) (r : ℕ) → cond b (Some e.1) (member_at es r) ≡ None → member_at es r ≡ None
    rest true r h = absurd (clash h)
    rest false r h = h

-- ---- those that pass a test, by their ranks

module _ {T : Type 0} where
  -- what holds at each rank of a line holds at each rank of its rest
  pub in-rest : (P : ℕ → Option T → Type 0) → ((r : ℕ) → P r None) → (e : ℕ × T) (es : List (ℕ × T)) → IsStrictlySortedBy nat_cmp (keys_of (e ∷ es))
      → ((r : ℕ) → P r (member_at (e ∷ es) r)) → (r : ℕ) → P r (member_at es r)
  in-rest P at-none e es rising all r = by (is_rank r e.0) refl
    where
      by : (b : Bool) → is_rank r e.0 ≡ b → P r (member_at es r)
      by true same = subst (P r) (sym (lookup-none (is_rank r) es
          (none_past_head (eq_by_cmp_equiv nat_cmp_total) r e es (IsDistinct-from_sorted nat_cmp (keys_of (e ∷ es)) rising) same))) (at-none r)
      by false same = subst (P r) (ap (λ b. cond b (Some e.1) (member_at es r)) same) (all r)

  module _ (p : T → Bool) where
    -- whether the member at a rank passes
    abbrev pub passes : Option T → Bool
    passes o = option_map_or p o false

    pub some-passes : (es : List (ℕ × T)) (rank : ℕ) → passes (member_at es rank) ≡ true → list_any p (values_of es) ≡ true
    some-passes [] rank h = cc
    some-passes (e ∷ es) rank h = by (is_rank rank e.0) (some-passes es rank) h
      where
        here : (b c : Bool) → b ≡ true → (b || c) ≡ true
        here true c h = refl
        here false c h = cc

        later : (b c : Bool) → c ≡ true → (b || c) ≡ true
        later true c h = refl
        later false c h = h

        by : (b : Bool) → (passes (member_at es rank) ≡ true → list_any p (values_of es) ≡ true)
            → passes (cond b (Some e.1) (member_at es rank)) ≡ true → (p e.1 || list_any p (values_of es)) ≡ true
        by true more h = here (p e.1) _ h
        by false more h = later (p e.1) _ (more h)

    pub none-passes : (es : List (ℕ × T)) → IsStrictlySortedBy nat_cmp (keys_of es) → ((r : ℕ) → passes (member_at es r) ≡ false)
        → list_any p (values_of es) ≡ false
    none-passes [] rising none = refl
    none-passes (e ∷ es) rising none =
        or (p e.1) _ (sym (ap passes (member-itself e es)) ∙ none e.0)
        (none-passes es (sorted_tail nat_cmp e.0 (keys_of es) rising) (in-rest (λ r o. passes o ≡ false) (λ r. refl) e es rising none))
      where
        or : (b c : Bool) → b ≡ false → c ≡ false → (b || c) ≡ false
        or b c h i = cc

-- ---- those that are the same

module _ {T : Type 0} (name : T → Key) (key : Key) (p : T → Bool) (is : (y : T) → p y ≡ same_key key (name y)) where
  pub some-same : (es : List (ℕ × T)) (rank : ℕ) → has_at name es key rank ≡ true → list_any p (values_of es) ≡ true
  some-same es rank there = (λ i. list_any (λ y. is y i) (values_of es)) ∙ some-passes (λ y. same_key key (name y)) es rank there

  pub none-same : (es : List (ℕ × T)) → IsStrictlySortedBy nat_cmp (keys_of es) → ((r : ℕ) → has_at name es key r ≡ false)
      → list_any p (values_of es) ≡ false
  none-same es rising none = (λ i. list_any (λ y. is y i) (values_of es)) ∙ none-passes (λ y. same_key key (name y)) es rising none

  -- one that is the same goes
  pub same-goes : (es : List (ℕ × T)) (rank : ℕ) → has_at name es key rank ≡ true
      → filter (λ y. not (p y)) (values_of (remove_entry (is_rank rank) es)) ≡ filter (λ y. not (p y)) (values_of es)
  same-goes [] rank h = refl
  same-goes (e ∷ es) rank h = by (is_rank rank e.0) (same-goes es rank) h
    where
      out : (b : Bool) (xs : List T) → b ≡ true → xs ≡ cond (not b) (e.1 ∷ xs) xs
      out true xs h = refl
      out false xs h = cc

      by : (b : Bool) → (has_at name es key rank ≡ true
          → filter (λ y. not (p y)) (values_of (remove_entry (is_rank rank) es)) ≡ filter (λ y. not (p y)) (values_of es))
          → told name key (cond b (Some e.1) (member_at es rank)) ≡ true
          → filter (λ y. not (p y)) (values_of (cond b es (e ∷ remove_entry (is_rank rank) es)))
          ≡ cond (not (p e.1)) (e.1 ∷ filter (λ y. not (p y)) (values_of es)) (filter (λ y. not (p y)) (values_of es))
      by true more h = out (p e.1) _ (is e.1 ∙ h)
      by false more h = ap (λ xs. cond (not (p e.1)) (e.1 ∷ xs) xs) (more h)

  pub goes-shorter : (es : List (ℕ × T)) (rank : ℕ) → has_at name es key rank ≡ true → length (remove_entry (is_rank rank) es) < length es
  goes-shorter [] rank h = cc
  goes-shorter (e ∷ es) rank h = by (is_rank rank e.0) (goes-shorter es rank) h
    where
      by : (b : Bool) → (has_at name es key rank ≡ true → length (remove_entry (is_rank rank) es) < length es)
          → told name key (cond b (Some e.1) (member_at es rank)) ≡ true
          → length (cond b es (e ∷ remove_entry (is_rank rank) es)) < length (e ∷ es)
      by true more h = omega arith
      by false more h = let less = more h in omega (arith, less)

  -- one that is the same gives its place to another
  pub place-goes : (to : T) (es : List (ℕ × T)) (rank : ℕ) → has_at name es key rank ≡ true
      → map (λ y. cond (p y) to y) (values_of (set_value (is_rank rank) es to)) ≡ map (λ y. cond (p y) to y) (values_of es)
  place-goes to [] rank h = refl
  place-goes to (e ∷ es) rank h = by (is_rank rank e.0) (place-goes to es rank) h
    where
      either : (b c : Bool) → c ≡ true → cond b to to ≡ cond c to e.1
      either true true h = refl
      either false true h = refl
      either b false h = cc

      by : (b : Bool) → (has_at name es key rank ≡ true
          → map (λ y. cond (p y) to y) (values_of (set_value (is_rank rank) es to)) ≡ map (λ y. cond (p y) to y) (values_of es))
          → told name key (cond b (Some e.1) (member_at es rank)) ≡ true
          → map (λ y. cond (p y) to y) (values_of (cond b ((e.0, to) ∷ es) (e ∷ set_value (is_rank rank) es to)))
          ≡ cond (p e.1) to e.1 ∷ map (λ y. cond (p y) to y) (values_of es)
      by true more h = ap (λ y. y ∷ map (λ y. cond (p y) to y) (values_of es)) (either (p to) (p e.1) (is e.1 ∙ h))
      by false more h = ap (λ ys. cond (p e.1) to e.1 ∷ ys) (more h)

  pub places-fewer : (to : T) (es : List (ℕ × T)) (rank : ℕ) → p to ≡ false → has_at name es key rank ≡ true
      → how_many p (values_of (set_value (is_rank rank) es to)) < how_many p (values_of es)
  places-fewer to [] rank other h = cc
  places-fewer to (e ∷ es) rank other h = by (is_rank rank e.0) (places-fewer to es rank other) h
    where
      one : (a b : Bool) (n : ℕ) → a ≡ false → b ≡ true → cond a 1 0 + n < cond b 1 0 + n
      one a true n h i = let none = ap {B = ℕ} (λ b. cond b 1 0) h in omega (arith, none)
      one a false n h i = cc

      by : (b : Bool) → (has_at name es key rank ≡ true
          → how_many p (values_of (set_value (is_rank rank) es to)) < how_many p (values_of es))
          → told name key (cond b (Some e.1) (member_at es rank)) ≡ true
          → how_many p (values_of (cond b ((e.0, to) ∷ es) (e ∷ set_value (is_rank rank) es to))) < cond (p e.1) 1 0 + how_many p (values_of es)
      by true more h = one (p to) (p e.1) (how_many p (values_of es)) other (is e.1 ∙ h)
      by false more h = let fewer = more h in omega (arith, fewer)

  -- whether one is found
  pub found-is : (es : List (ℕ × T)) (o : Option ℕ) → IsStrictlySortedBy nat_cmp (keys_of es)
      → IfSome o (λ rank. has_at name es key rank ≡ true) → IfNone o ((r : ℕ) → has_at name es key r ≡ false)
      → is_some o ≡ list_any p (values_of es)
  found-is es None rising some none = sym (none-same es rising none)
  found-is es (Some rank) rising some none = sym (some-same es rank some)

-- ---- none is the same

pub none-goes : {T : Type 0} (p : T → Bool) (xs : List T) → list_any p xs ≡ false → filter (λ y. not (p y)) xs ≡ xs
none-goes p [] h = refl
none-goes p (x ∷ xs) h = by (p x) (none-goes p xs) h
  where
    by : (b : Bool) → (list_any p xs ≡ false → filter (λ y. not (p y)) xs ≡ xs) → (b || list_any p xs) ≡ false
        → cond (not b) (x ∷ filter (λ y. not (p y)) xs) (filter (λ y. not (p y)) xs) ≡ x ∷ xs
    by true more h = cc
    by false more h = ap (λ ys. x ∷ ys) (more h)

pub none-changes : {T : Type 0} (p : T → Bool) (to : T) (xs : List T) → list_any p xs ≡ false → map (λ y. cond (p y) to y) xs ≡ xs
none-changes p to [] h = refl
none-changes p to (x ∷ xs) h = by (p x) (none-changes p to xs) h
  where
    by : (b : Bool) → (list_any p xs ≡ false → map (λ y. cond (p y) to y) xs ≡ xs) → (b || list_any p xs) ≡ false
        → cond b to x ∷ map (λ y. cond (p y) to y) xs ≡ x ∷ xs
    by true more h = cc
    by false more h = ap (λ ys. x ∷ ys) (more h)

-- nor does a list change where the two are one
pub one-stays : {T : Type 0} (p : T → Bool) (to : T) → ((y : T) → p y ≡ true → y ≡ to) → (xs : List T) → map (λ y. cond (p y) to y) xs ≡ xs
one-stays p to same [] = refl
one-stays {T} p to same (x ∷ xs) = both _ _ (by (p x) (same x)) (one-stays p to same xs)
  where
    both : (y : T) (ys : List T) → y ≡ x → ys ≡ xs → y ∷ ys ≡ x ∷ xs
    both y ys h hs = cc

    by : (b : Bool) → (b ≡ true → x ≡ to) → cond b to x ≡ x
    by true h = sym (h refl)
    by false h = refl

-- ---- names

pub same-as : {T : Type 0} (name : T → Key) (key : Key) (x : T) → key ≡ name x → (y : T) → is_same name x y ≡ same_key key (name y)
same-as name key x named y = same (name x) (name y) ∙ ap (λ k. same_key k (name y)) (sym named)
  where
    same : (a b : Key) → (nat_eq a.0 b.0 && nat_eq a.1 b.1) ≡ same_key a b
    same a b = grind (arith, nat_tests)

pub like : {T : Type 0} (name : T → Key) (key : Key) (x : T) → key ≡ name x → (y : T) → is_same name y x ≡ same_key key (name y)
like name key x named y = same (name x) (name y) ∙ ap (λ k. same_key k (name y)) (sym named)
  where
    same : (a b : Key) → (nat_eq b.0 a.0 && nat_eq b.1 a.1) ≡ same_key a b
    same a b = grind (arith, nat_tests)

pub names-are : (a b : Key) (r : Bool) → r ≡ (nat_eq a.0 b.0 && nat_eq a.1 b.1) → r ≡ true → a ≡ b
names-are a b r is h = same_key-is a b (so a b r is h)
  where
    so : (a b : Key) (r : Bool) → r ≡ (nat_eq a.0 b.0 && nat_eq a.1 b.1) → r ≡ true → same_key a b ≡ true
    so a b r is h = grind (arith, nat_tests)

-- ---- answers

pub less-by : (n m k : ℕ) → n ≡ m → m < k → n < k
less-by n m k same less = omega (arith, same, less)
