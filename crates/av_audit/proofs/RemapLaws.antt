-- Units of `mremap`.
use Rattle.std.proofs.Common.{◌≡◌, ℕ, ◌+◌, ◌-◌, ◌<◌, Bool, true, false, cond, List, [], None, refl, sym, ap, ◌∙◌, arith, append_assoc, append-nil}
use Rattle.std.specs.Prelude.{◌∷◌, ◌++◌, ◌==◌, ◌||◌, min}
use Rattle.av_base.specs.Limits.{top_page}
use Rattle.av_trace.specs.declared.note.Note.{Note}
use Rattle.av_vma.specs.Gap.{IsGap}
use Rattle.av_plain.specs.Event.{Event, EntriesMoved, after, after_all, notes_of}
use Rattle.av_plain.specs.Ledger.{Ledger}
use Rattle.av_plain.specs.Mremap.{range_zaps, remap_events}
use Rattle.av_plain.proofs.Access.{after_all-append, notes_of-append}

-- ---- entries

-- the events where the range moves
abbrev move_events : Ledger → ℕ → ℕ → ℕ → ℕ → ℕ → List Event
move_events l p from n to m = range_zaps l p to m ++ range_zaps (after_all l (range_zaps l p to m)) p (from + m) (n - m)
    ++ EntriesMoved p (min n m) from to ∷ []

pub move-ledger : (l l1 l2 l3 : Ledger) (p from n to m : ℕ) → (to == from) ≡ false → l1 ≡ after_all l (range_zaps l p to m)
    → l2 ≡ after_all l1 (range_zaps l1 p (from + m) (n - m)) → l3 ≡ after l2 (EntriesMoved p (min n m) from to)
    → l3 ≡ after_all l (remap_events l p from n to m)
move-ledger l l1 l2 l3 p from n to m is e1 e2 e3 =
    let target = range_zaps l p to m in
    let tail = range_zaps (after_all l target) p (from + m) (n - m) in
    e3 ∙ ap (λ x. after x (EntriesMoved p (min n m) from to))
    (e2 ∙ (λ i. after_all (e1 i) (range_zaps (e1 i) p (from + m) (n - m))) ∙ sym (after_all-append l target tail))
    ∙ sym (after_all-append l (target ++ tail) (EntriesMoved p (min n m) from to ∷ []))
    ∙ ap (λ b. after_all l (cond b (range_zaps l p (from + m) (n - m)) (move_events l p from n to m))) (sym is)

pub move-notes : (l l1 : Ledger) (p from n to m : ℕ) (ns ns1 ns2 : List Note) → (to == from) ≡ false → l1 ≡ after_all l (range_zaps l p to m)
    → ns1 ≡ ns ++ notes_of (range_zaps l p to m) → ns2 ≡ ns1 ++ notes_of (range_zaps l1 p (from + m) (n - m))
    → ns2 ≡ ns ++ notes_of (remap_events l p from n to m)
move-notes l l1 p from n to m ns ns1 ns2 is e1 n1 n2 =
    let target = range_zaps l p to m in
    let tail = range_zaps (after_all l target) p (from + m) (n - m) in
    let last = EntriesMoved p (min n m) from to ∷ [] in
    n2 ∙ (λ i. n1 i ++ notes_of (range_zaps (e1 i) p (from + m) (n - m))) ∙ append_assoc ns (notes_of target) (notes_of tail)
    ∙ ap (λ xs. ns ++ xs) (sym (notes_of-append target tail) ∙ sym (append-nil (notes_of (target ++ tail)))
    ∙ sym (notes_of-append (target ++ tail) last))
    ∙ ap (λ b. ns ++ notes_of (cond b (range_zaps l p (from + m) (n - m)) (move_events l p from n to m))) (sym is)

pub stay-ledger : (l l1 : Ledger) (p from n to m : ℕ) → (to == from) ≡ true → l1 ≡ after_all l (range_zaps l p (from + m) (n - m))
    → l1 ≡ after_all l (remap_events l p from n to m)
stay-ledger l l1 p from n to m is e = e ∙ ap (λ b. after_all l (cond b (range_zaps l p (from + m) (n - m)) (move_events l p from n to m))) (sym is)

pub stay-notes : (l : Ledger) (p from n to m : ℕ) (ns ns1 : List Note) → (to == from) ≡ true
    → ns1 ≡ ns ++ notes_of (range_zaps l p (from + m) (n - m)) → ns1 ≡ ns ++ notes_of (remap_events l p from n to m)
stay-notes l p from n to m ns ns1 is e = e ∙ ap (λ b. ns ++ notes_of (cond b (range_zaps l p (from + m) (n - m)) (move_events l p from n to m))) (sym is)

-- ---- places

pub no-room : (is_taken : ℕ → Bool) (m : ℕ) → top_page < m → IsGap is_taken m None
no-room is_taken m more page room = let high = room.highest in omega (arith, more, high)

pub or-false : (b : Bool) → (b || false) ≡ b
or-false true = refl
or-false false = refl
