-- Accesses whose end is told: pages without addresses, the bytes that a read shows, and units of a first line and notes.
use Rattle.std.proofs.Common.{◌≡◌, inl, inr, ℕ, zero, suc, ◌+◌, ◌-◌, ◌*◌, ◌/◌, ◌%◌, ◌^◌, ◌<◌, ◌≤◌, Bool, true, false, cond, ◌==◌, List, []}
use Rattle.std.proofs.Common.{◌∷◌, ◌++◌, min, Option, Some, None, option_map, refl, sym, ap, subst, ◌∙◌, arith, nat_lt}
use Rattle.std.specs.List.{AllByRecursion}
use Rattle.std.proofs.lemmas.Bool.Decides.{nat_tests}
use Rattle.std.proofs.lemmas.List.FromFn.{map-range_with_len_more}
use Rattle.av_base.specs.Page.{page_of, pages_met}
use Rattle.av_plain.specs.Access.{Accesses, End, Stopped, Whole, bytes_served, page_events, pages_of_access}
use Rattle.av_plain.specs.Event.{Event, after_all, note_events}
use Rattle.av_plain.specs.Fault.{Denied, Lost, Starved, Stop, Touches, is_allowed}
use Rattle.av_plain.specs.Ledger.{Ledger, Setting}
use Rattle.av_plain.specs.World.{World}
use Rattle.av_audit_access.specs.Access.{AreTold, Ends}
use Rattle.av_audit.specs.Access.{end_below, turns_of}

-- ---- where an access may stop

same-page : {a b : ℕ} {s t : Stop} → Stopped a s ≡ Stopped b t → a ≡ b
same-page e = cc

not-whole : {a : ℕ} {s : Stop} → Stopped a s ≡ Whole → ⊥
not-whole e = cc

-- what is so of each page is so of that
pub stopped-in : (m : Setting) (w : World) (l : Ledger) (p : ℕ) (P : ℕ → Type 0) (xs : List (Bool × ℕ)) (es : List Event) (page : ℕ) (stop : Stop)
    → AllByRecursion (λ (x : Bool × ℕ). P x.1) xs → Accesses m w l p xs es (Stopped page stop) → P page
stopped-in m w l p P [] es page stop all h = absurd (not-whole h.1)
stopped-in m w l p P (x ∷ xs) es page stop all (inl h) =
    stopped-in m w (after_all l (page_events x.0 (p, x.1) h.0 None)) p P xs h.1 page stop all.1 h.4
stopped-in m w l p P (x ∷ xs) es page stop all (inr h) = subst P (sym (same-page h.4)) all.0

turns-below : (write : Bool) (from n most : ℕ) → from + n ≤ most → AllByRecursion (λ (x : Bool × ℕ). x.1 < most) (turns_of write from n)
turns-below write from zero most h = tt
turns-below write from (suc n) most h = (omega (arith, h), turns-below write (from + 1) n most (omega (arith, h)))

-- no more is served than was asked for
pub served-at-most : (m : Setting) (w : World) (l : Ledger) (p : ℕ) (write : Bool) (a n : ℕ) (es : List Event) (end : End)
    → Accesses m w l p (pages_of_access write a n) es end → bytes_served a n end ≤ n
served-at-most m w l p write a n es Whole h = omega arith
served-at-most m w l p write a n es (Stopped page stop) h =
    by (n == 0) refl (stopped-in m w l p (λ q. q < page_of a + pages_met a n) (pages_of_access write a n) es page stop
    (turns-below write (page_of a) (pages_met a n) (page_of a + pages_met a n) (omega arith)) h)
  where
    by : (b : Bool) → (n == 0) ≡ b → page < a / 4096 + cond b 0 ((a % 4096 + n + 4095) / 4096) → 4096 * page - a ≤ n
    by true e high = omega (arith, high)
    by false e high = omega (arith, high)

-- ---- pages that aren't mapped, behind others

stopped-more : (m : Setting) (w : World) (l : Ledger) (p : ℕ) (xs ys : List (Bool × ℕ)) (es : List Event) (page : ℕ) (stop : Stop)
    → Accesses m w l p xs es (Stopped page stop) → Accesses m w l p (xs ++ ys) es (Stopped page stop)
stopped-more m w l p [] ys es page stop h = absurd (not-whole h.1)
stopped-more m w l p (x ∷ xs) ys es page stop (inl h) =
    inl (h.0, h.1, h.2, h.3, stopped-more m w (after_all l (page_events x.0 (p, x.1) h.0 None)) p xs ys h.1 page stop h.4)
stopped-more m w l p (x ∷ xs) ys es page stop (inr h) = inr h

whole-stops : (m : Setting) (w : World) (l : Ledger) (p : ℕ) (xs : List (Bool × ℕ)) (y : Bool × ℕ) (ys : List (Bool × ℕ)) (es : List Event)
    → is_allowed w y.0 (p, y.1) ≡ false → Accesses m w l p xs es Whole → Accesses m w l p (xs ++ y ∷ ys) es (Stopped y.1 Denied)
whole-stops m w l p [] y ys es denied h = inr ([], Denied, (denied, refl), h.0, refl)
whole-stops m w l p (x ∷ xs) y ys es denied (inl h) =
    inl (h.0, h.1, h.2, h.3, whole-stops m w (after_all l (page_events x.0 (p, x.1) h.0 None)) p xs y ys h.1 denied h.4)
whole-stops m w l p (x ∷ xs) y ys es denied (inr h) = absurd (not-whole (sym h.4))

refuses : (b : Bool) → b ≡ true → b ≡ false → ⊥
refuses b h g = cc

fewer : (m : Setting) (w : World) (l : Ledger) (p : ℕ) (xs : List (Bool × ℕ)) (y : Bool × ℕ) (ys : List (Bool × ℕ)) (es : List Event) (end : End)
    → is_allowed w y.0 (p, y.1) ≡ false → Accesses m w l p (xs ++ y ∷ ys) es end → (end' : End) × Accesses m w l p xs es end'
fewer m w l p [] y ys es end denied (inl h) = absurd (refuses _ h.2.0 denied)
fewer m w l p [] y ys es end denied (inr h) = (Whole, (h.3 ∙ ap note_events (by h.1 h.2), refl))
  where
    by : (stop : Stop) → Touches m w l y.0 (p, y.1) h.0 (Some stop) → h.0 ≡ []
    by Denied t = t.1
    by (Starved out) t = absurd (refuses _ t.0 denied)
    by Lost t = absurd (refuses _ t.0 denied)
fewer m w l p (x ∷ xs) y ys es end denied (inl h) =
    let r = fewer m w (after_all l (page_events x.0 (p, x.1) h.0 None)) p xs y ys h.1 end denied h.4 in
    (r.0, inl (h.0, h.1, h.2, h.3, r.1))
fewer m w l p (x ∷ xs) y ys es end denied (inr h) = (end, inr h)

-- what is told of some events is told of others that are the same
told-by : (P Q : List Event → Type 0) (l : Ledger) (bytes : List ℕ) (l' : Ledger) → ((es : List Event) → P es → Q es)
    → AreTold P l bytes l' → AreTold Q l bytes l'
told-by P Q l bytes l' f t =
    record { events = t.events; lawful = f t.events t.lawful; form = t.form; text = t.text; after = t.after }

turns-split : (write : Bool) (from k n : ℕ) → turns_of write from (k + n) ≡ turns_of write from k ++ turns_of write (from + k) n
turns-split write from zero n = λ i. turns_of write (same from i) (none n i)
  where
    same : (a : ℕ) → a ≡ a + 0
    same a = omega arith

    none : (n : ℕ) → 0 + n ≡ n
    none n = omega arith
turns-split write from (suc k) n =
    ap (turns_of write from) (next k n) ∙ ap (λ r. (write, from) ∷ r) (turns-split write (from + 1) k n
    ∙ ap (λ a. turns_of write (from + 1) k ++ turns_of write a n) (further from k))
  where
    next : (k n : ℕ) → suc k + n ≡ suc (k + n)
    next k n = omega arith

    further : (from k : ℕ) → (from + 1) + k ≡ from + suc k
    further from k = omega arith

-- the pages end below 2^52, or the first behind isn't mapped
pub ends-below : (m : Setting) (w : World) (l : Ledger) (p : ℕ) (write : Bool) (from n : ℕ) (bytes : List ℕ) (reach : Option End) (l' : Ledger)
    → from ≤ 2 ^ 52 → is_allowed w write (p, 2 ^ 52) ≡ false
    → Ends (λ end es. Accesses m w l p (turns_of write from (min (from + n) (2 ^ 52) - from)) es end) l bytes reach l'
    → Ends (λ end es. Accesses m w l p (turns_of write from n) es end) l bytes (option_map (end_below (from + n)) reach) l'
ends-below m w l p write from n bytes reach l' low denied h = by (nat_lt (2 ^ 52) (from + n)) refl
  where
    is_all : nat_lt (2 ^ 52) (from + n) ≡ false → min (from + n) (2 ^ 52) - from ≡ n
    is_all e = let small : from + n ≤ 2 ^ 52 = grind (arith, nat_tests, e) in omega (arith, small, low)

    all : (count : ℕ) → count ≡ n → (reach : Option End)
        → Ends (λ end es. Accesses m w l p (turns_of write from count) es end) l bytes reach l'
        → Ends (λ end es. Accesses m w l p (turns_of write from n) es end) l bytes reach l'
    all count e reach h = subst (λ n. Ends (λ end es. Accesses m w l p (turns_of write from n) es end) l bytes reach l') e h

    kept : nat_lt (2 ^ 52) (from + n) ≡ false → (reach : Option End) → reach ≡ option_map (end_below (from + n)) reach
    kept e None = refl
    kept e (Some Whole) = ap (λ b. Some (cond b (Stopped (2 ^ 52) Denied) Whole)) (sym e)
    kept e (Some (Stopped page stop)) = refl

    some : nat_lt (2 ^ 52) (from + n) ≡ true
        → turns_of write from n ≡ turns_of write from (2 ^ 52 - from) ++ (write, 2 ^ 52) ∷ turns_of write (2 ^ 52 + 1) (from + n - (2 ^ 52 + 1))
    some e =
        let more : 2 ^ 52 < from + n = grind (arith, nat_tests, e) in
        ap (turns_of write from) (split more)
        ∙ turns-split write from (2 ^ 52 - from) (suc (from + n - (2 ^ 52 + 1)))
        ∙ ap (λ a. turns_of write from (2 ^ 52 - from) ++ turns_of write a (suc (from + n - (2 ^ 52 + 1)))) at_top
      where
        split : 2 ^ 52 < from + n → n ≡ (2 ^ 52 - from) + suc (from + n - (2 ^ 52 + 1))
        split more = omega (arith, more, low)

        at_top : from + (2 ^ 52 - from) ≡ 2 ^ 52
        at_top = omega (arith, low)

    count_is : nat_lt (2 ^ 52) (from + n) ≡ true → min (from + n) (2 ^ 52) - from ≡ 2 ^ 52 - from
    count_is e = let more : 2 ^ 52 < from + n = grind (arith, nat_tests, e) in omega (arith, more)

    cut : nat_lt (2 ^ 52) (from + n) ≡ true → (count : ℕ) → count ≡ 2 ^ 52 - from → (reach : Option End)
        → Ends (λ end es. Accesses m w l p (turns_of write from count) es end) l bytes reach l'
        → Ends (λ end es. Accesses m w l p (turns_of write from n) es end) l bytes (option_map (end_below (from + n)) reach) l'
    cut e count is None h = λ end es access form text.
        let r = fewer m w l p (turns_of write from count) (write, 2 ^ 52) (turns_of write (2 ^ 52 + 1) (from + n - (2 ^ 52 + 1))) es end denied
        (subst (λ ps. Accesses m w l p ps es end) (some e
        ∙ ap (λ k. turns_of write from k ++ (write, 2 ^ 52) ∷ turns_of write (2 ^ 52 + 1) (from + n - (2 ^ 52 + 1))) (sym is)) access) in
        h r.0 es r.1 form text
    cut e count is (Some Whole) h =
        subst (λ b. AreTold (λ es. Accesses m w l p (turns_of write from n) es (cond b (Stopped (2 ^ 52) Denied) Whole)) l bytes l') (sym e)
        (told-by (λ es. Accesses m w l p (turns_of write from count) es Whole)
        (λ es. Accesses m w l p (turns_of write from n) es (Stopped (2 ^ 52) Denied)) l bytes l'
        (λ es access. subst (λ ps. Accesses m w l p ps es (Stopped (2 ^ 52) Denied))
        (ap (λ k. turns_of write from k ++ (write, 2 ^ 52) ∷ turns_of write (2 ^ 52 + 1) (from + n - (2 ^ 52 + 1))) is ∙ sym (some e))
        (whole-stops m w l p (turns_of write from count) (write, 2 ^ 52) (turns_of write (2 ^ 52 + 1) (from + n - (2 ^ 52 + 1))) es denied access)) h)
    cut e count is (Some (Stopped page stop)) h =
        told-by (λ es. Accesses m w l p (turns_of write from count) es (Stopped page stop))
        (λ es. Accesses m w l p (turns_of write from n) es (Stopped page stop)) l bytes l'
        (λ es access. subst (λ ps. Accesses m w l p ps es (Stopped page stop))
        (ap (λ k. turns_of write from k ++ (write, 2 ^ 52) ∷ turns_of write (2 ^ 52 + 1) (from + n - (2 ^ 52 + 1))) is ∙ sym (some e))
        (stopped-more m w l p (turns_of write from count) ((write, 2 ^ 52) ∷ turns_of write (2 ^ 52 + 1) (from + n - (2 ^ 52 + 1))) es page stop access)) h

    by : (b : Bool) → nat_lt (2 ^ 52) (from + n) ≡ b
        → Ends (λ end es. Accesses m w l p (turns_of write from n) es end) l bytes (option_map (end_below (from + n)) reach) l'
    by false e = subst (λ f. Ends (λ end es. Accesses m w l p (turns_of write from n) es end) l bytes f l') (kept e reach)
        (all (min (from + n) (2 ^ 52) - from) (is_all e) reach h)
    by true e = cut e (min (from + n) (2 ^ 52) - from) (count_is e) reach h

-- ---- turns one by one

pub turns-more : (write : Bool) (from page : ℕ) → from ≤ page
    → turns_of write from (page + 1 - from) ≡ turns_of write from (page - from) ++ (write, page) ∷ []
turns-more write from page low =
    ap (turns_of write from) next ∙ map-range_with_len_more (λ page. (write, page)) from (page - from) page there
  where
    next : page + 1 - from ≡ (page - from) + 1
    next = omega (arith, low)

    there : from + (page - from) ≡ page
    there = omega (arith, low)

pub all-push : (xs : List (Bool × ℕ)) (write : Bool) (page most : ℕ) → AllByRecursion (λ (x : Bool × ℕ). x.1 < most) xs → page < most
    → AllByRecursion (λ (x : Bool × ℕ). x.1 < most) (xs ++ (write, page) ∷ [])
all-push [] write page most h low = (low, tt)
all-push (x ∷ xs) write page most h low = (h.0, all-push xs write page most h.1 low)
