-- How many bounds are locked.
use Rattle.std.proofs.Common.{◌≡◌, ℕ, zero, suc, ◌+◌, ◌-◌, ◌<◌, ◌≤◌, Bool, true, false, cond}
use Rattle.std.proofs.Common.{Option, Some, None, is_some, List, [], ◌∷◌, length, refl, sym, ap, ◌∙◌, arith}
use Rattle.std.specs.BTreeMap.{insert_entry, is_at}
use Rattle.std.specs.Cmp.{nat_cmp_total}
use Rattle.std.specs.List.{AllByRecursion}
use Rattle.std.specs.List.Sorted.{IsStrictlySortedBy}
use Rattle.std.specs.Map.{keys_of, remove_entry, set_value, values_of}
use Rattle.std.specs.Option.{option_map, unwrap_or}
use Rattle.std.specs.Ordering.{is_eq, nat_cmp}
use Rattle.std.specs.declared.cmp.Ordering.TheVariants.{Less}
use Rattle.std.proofs.lemmas.List.Sums.{sum_by-cons}
use Rattle.std.proofs.lemmas.Map.Entries.{sum_by-insert_entry, sum_by-remove_entry, sum_by-set_value}
use Rattle.std.proofs.lemmas.Map.Keys.{sorted_head, sorted_tail}
use Rattle.std.proofs.lemmas.Bool.Decides.{nat_tests}
use Rattle.std.proofs.lemmas.Map.Lookups.{exact_unsigned}
use Rattle.std.proofs.lemmas.Map.Views.{tells_apart}
use Rattle.av_audit_ranges.specs.Marks.{is_locked}
use Rattle.av_audit_ranges.specs.Ranges.{bound_at, locked_bounds, marks_at, marks_by}
use Rattle.av_audit_ranges.specs.declared.marks.Marks.{Marks}
use Rattle.av_audit_ranges.proofs.MarksLaws.{Bound, marks-at, marks-step}

-- 1 where it is locked
abbrev pub one : Option Marks → ℕ
one o = cond (is_locked o) 1 0

-- no more are locked than there are
pub few-locked : (es : List (ℕ × Option Marks)) → locked_bounds es ≤ length es
few-locked [] = omega arith
few-locked (e ∷ es) =
    let more = sum_by-cons one e.1 (values_of es) in
    by (is_locked e.1) (locked_bounds es) (locked_bounds (e ∷ es)) (length es) more (few-locked es)
  where
    by : (b : Bool) (n m l : ℕ) → m ≡ cond b 1 0 + n → n ≤ l → m ≤ suc l
    by true n m l is few = omega (arith, is, few)
    by false n m l is few = omega (arith, is, few)

-- a new bound is counted
pub locked-inserted : (es : List (ℕ × Option Marks)) (k : ℕ) (v : Option Marks) → IsStrictlySortedBy nat_cmp (keys_of es) → bound_at es k ≡ None
    → locked_bounds (insert_entry nat_cmp es k v) ≡ locked_bounds es + one v
locked-inserted es k v rise none =
    let n = locked_bounds (insert_entry nat_cmp es k v) in
    zero-right n ∙ (λ i. n + unwrap_or (option_map one (sym none i)) 0) ∙ sum_by-insert_entry one nat_cmp_total es k v rise
  where
    zero-right : (n : ℕ) → n ≡ n + 0
    zero-right n = omega arith

-- one that goes isn't
pub locked-removed : (es : List (ℕ × Option Marks)) (k : ℕ)
    → locked_bounds (remove_entry (is_at (nat_cmp k)) es) + one (unwrap_or (bound_at es k) None) ≡ locked_bounds es
locked-removed es k = ap (λ n. locked_bounds (remove_entry (is_at (nat_cmp k)) es) + n) (by (bound_at es k)) ∙ sum_by-remove_entry one (is_at (nat_cmp k)) es
  where
    by : (o : Option (Option Marks)) → one (unwrap_or o None) ≡ unwrap_or (option_map one o) 0
    by None = refl
    by (Some v) = refl

-- one at which something else is said is counted by that
pub locked-set : (es : List (ℕ × Option Marks)) (k : ℕ) (v w : Option Marks) → bound_at es k ≡ Some v
    → locked_bounds (set_value (is_at (nat_cmp k)) es w) + one v ≡ locked_bounds es + one w
locked-set es k v w is = sum_by-set_value one (is_at (nat_cmp k)) es v w is

pub count-less : (l r n m o : ℕ) → r ≡ o → l ≡ m → n + o ≡ m → (r ≤ l) × (l - r ≡ n)
count-less l r n m o a b sum = (omega (arith, a, b, sum), omega (arith, a, b, sum))

pub count-set : (l a b n m o p : ℕ) → l ≡ m → a ≡ o → b ≡ p → n + p ≡ m + o → l + a - b ≡ n
count-set l a b n m o p x y z sum = omega (arith, x, y, z, sum)

pub none-is : {X : Type 0} (o : Option X) → is_some o ≡ false → o ≡ None
none-is None h = refl
none-is (Some x) h = cc

-- where no bound is locked, no page is
bounds-unlocked : (es : List (ℕ × Option Marks)) → locked_bounds es ≡ 0 → (q : ℕ) (v : Option Marks) → bound_at es q ≡ Some v → is_locked v ≡ false
bounds-unlocked [] none q v is = cc
bounds-unlocked (e ∷ es) none q v is =
    let more = sum_by-cons one e.1 (values_of es) in
    by (is_at (nat_cmp q) e.0) (is_locked e.1) refl (sym none ∙ more) (λ none'. bounds-unlocked es none' q v) is
  where
    inner : {X : Type 0} {x y : X} → Some x ≡ Some y → x ≡ y
    inner e = cc

    by : (b c : Bool) → is_locked e.1 ≡ c → 0 ≡ cond c 1 0 + locked_bounds es → (locked_bounds es ≡ 0 → bound_at es q ≡ Some v → is_locked v ≡ false)
        → cond b (Some e.1) (bound_at es q) ≡ Some v → is_locked v ≡ false
    by b true at sum later is = absurd (omega (arith, sum))
    by true false at sum later is = ap is_locked (sym (inner is)) ∙ at
    by false false at sum later is = later (omega (arith, sum)) is

marks-unlocked : (f : Bound) → ((q : ℕ) (v : Option Marks) → f q ≡ Some v → is_locked v ≡ false) → (p : ℕ) → is_locked (marks_by f p) ≡ false
marks-unlocked f none zero = ap is_locked (marks-step f zero) ∙ by (f zero) refl
  where
    by : (o : Option (Option Marks)) → f zero ≡ o → is_locked (unwrap_or o None) ≡ false
    by None is = refl
    by (Some v) is = none zero v is
marks-unlocked f none (suc p) = ap is_locked (marks-step f (suc p)) ∙ by (f (suc p)) refl (marks-unlocked f none p)
  where
    by : (o : Option (Option Marks)) → f (suc p) ≡ o → is_locked (marks_by f p) ≡ false → is_locked (unwrap_or o (marks_by f p)) ≡ false
    by None is below = below
    by (Some v) is below = none (suc p) v is

pub none-locked : (es : List (ℕ × Option Marks)) → locked_bounds es ≡ 0 → (page : ℕ) → is_locked (marks_at es page) ≡ false
none-locked es none page = marks-unlocked (bound_at es) (bounds-unlocked es none) page

-- where one is, a page is
below-all : (x : ℕ) (es : List (ℕ × Option Marks)) → AllByRecursion (λ y. nat_cmp x y ≡ Less) (keys_of es) → bound_at es x ≡ None
below-all x [] all = refl
below-all x (e ∷ es) all = (λ i. cond (other x e.0 all.0 i) (Some e.1) (bound_at es x)) ∙ below-all x es all.1
  where
    other : (x y : ℕ) → nat_cmp x y ≡ Less → is_at (nat_cmp x) y ≡ false
    other x y less = ap is_eq less

some-bound : (es : List (ℕ × Option Marks)) → IsStrictlySortedBy nat_cmp (keys_of es) → 0 < locked_bounds es
    → (k : ℕ) × (v : Option Marks) × (bound_at es k ≡ Some v) × (is_locked v ≡ true)
some-bound [] rise some = absurd (omega (arith, some))
some-bound (e ∷ es) rise some =
    let more = sum_by-cons one e.1 (values_of es) in
    by (is_locked e.1) refl more (λ some'. some-bound es (sorted_tail nat_cmp e.0 (keys_of es) rise) some')
  where
    same : (k : ℕ) → is_at (nat_cmp k) k ≡ true
    same k = grind (arith, nat_tests)

    none-some : {X : Type 0} {x : X} → None ≡ Some x → ⊥
    none-some e = cc

    later : (k : ℕ) (v : Option Marks) → bound_at es k ≡ Some v → (b : Bool) → is_at (nat_cmp k) e.0 ≡ b → cond b (Some e.1) (bound_at es k) ≡ Some v
    later k v is true here =
        let at = tells_apart exact_unsigned k e.0 here in
        absurd (none-some (sym (below-all e.0 es (sorted_head nat_cmp e.0 (keys_of es) rise)) ∙ ap (bound_at es) (sym at) ∙ is))
    later k v is false here = is

    by : (c : Bool) → is_locked e.1 ≡ c → locked_bounds (e ∷ es) ≡ cond c 1 0 + locked_bounds es
        → (0 < locked_bounds es → (k : ℕ) × (v : Option Marks) × (bound_at es k ≡ Some v) × (is_locked v ≡ true))
        → (k : ℕ) × (v : Option Marks) × (bound_at (e ∷ es) k ≡ Some v) × (is_locked v ≡ true)
    by true at sum rest = (e.0, e.1, ap (λ b. cond b (Some e.1) (bound_at es e.0)) (same e.0), at)
    by false at sum rest =
        let r = rest (omega (arith, sum, some)) in
        (r.0, r.1, later r.0 r.1 r.2 (is_at (nat_cmp r.0) e.0) refl, r.3)

pub some-locked : (es : List (ℕ × Option Marks)) → IsStrictlySortedBy nat_cmp (keys_of es) → 0 < locked_bounds es
    → (page : ℕ) × (is_locked (marks_at es page) ≡ true)
some-locked es rise some =
    let r = some-bound es rise some in
    (r.0, ap is_locked (marks-at (bound_at es) r.0 r.1 r.2) ∙ r.3)
