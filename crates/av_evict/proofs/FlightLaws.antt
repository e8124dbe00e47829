-- Writes in flight that end, one after another.
use Rattle.std.proofs.Common.{Bool, List, None, Option, Some, [], ap, arith, cond, false, filter, not, refl, subst, suc, sym, take, true, zero, ℕ, ◌++◌, ◌+◌, ◌∙◌, ◌∷◌, ◌≡◌}
use Rattle.std.proofs.lemmas.List.{append-nil, append_assoc}
use Rattle.av_base.specs.Words.{how_many}
use Rattle.av_base.specs.declared.slot.Slot.{Slot}
use Rattle.av_trace.specs.declared.note.Note.{Note}
use Rattle.av_trace.specs.declared.note.Note.TheVariants.{Dropped}
use Rattle.av_plain.specs.Event.{after_note, after_notes, if_some, off_cache, off_flight, to_inactive_tail, when}
use Rattle.av_plain.specs.Ledger.{Ledger, Setting, frame_at, is_orphan, same_slot}
use Rattle.av_plain.specs.Pass.{Completes, end_note, end_notes}
use Rattle.av_plain.specs.Sound.{IsSound}
use Rattle.av_plain.proofs.Sound.Counts.{slot-itself}
use Rattle.av_plain.proofs.Sound.Entries.{flag}
use Rattle.av_plain.proofs.Sound.Steps.{settle-flight}
use Rattle.av_evict.specs.Steps.{EndsFirst}
use Rattle.av_evict.specs.declared.system.WriteEnd.{WriteEnd}
use Rattle.av_evict.proofs.StepLaws.{first-some}

-- the first so many writes in flight end, or all
abbrev pub CompletesOf : ℕ → Ledger → List Note → Type 0
CompletesOf count l notes = Completes l (take count l.flight) notes

-- a slot that isn't there
none_there : (s : Slot) (ts : List Slot) → how_many (same_slot s) ts ≡ 0 → filter (λ t. not (same_slot s t)) ts ≡ ts
none_there s [] h = refl
none_there s (t ∷ ts) h = by (same_slot s t) h (none_there s ts)
  where
    by : (b : Bool) → cond b 1 0 + how_many (same_slot s) ts ≡ 0 → (how_many (same_slot s) ts ≡ 0 → filter (λ t. not (same_slot s t)) ts ≡ ts) →
        cond (not b) (t ∷ filter (λ t. not (same_slot s t)) ts) (filter (λ t. not (same_slot s t)) ts) ≡ t ∷ ts
    by true h rest = absurd (omega (arith, h))
    by false h rest = ap (λ x. t ∷ x) (rest (omega (arith, h)))

-- what is in flight after the first ended
pub flight-ended : (m : Setting) (l : Ledger) (s : Slot) (fs : List Slot) (failed : Bool) → IsSound m l → l.flight ≡ s ∷ fs →
    (after_notes l (end_notes l s failed)).flight ≡ fs
flight-ended m l s fs failed sound is = dropped (is_orphan (after_note (end_note failed s) l) s) ∙ ended failed ∙ left
  where
    dropped : (b : Bool) → (after_notes (after_note (end_note failed s) l) (when b (Dropped s))).flight ≡ (after_note (end_note failed s) l).flight
    dropped true = settle-flight (frame_at (after_note (end_note failed s) l) s) (off_cache s (after_note (end_note failed s) l))
    dropped false = refl

    ended : (b : Bool) → (after_note (end_note b s) l).flight ≡ filter (λ t. not (same_slot s t)) l.flight
    ended true = refl
    ended false = by (frame_at l s)
      where
        by : (o : Option ℕ) → (if_some o to_inactive_tail (off_flight s l)).flight ≡ filter (λ t. not (same_slot s t)) l.flight
        by None = refl
        by (Some f) = refl

    once : how_many (same_slot s) fs ≡ 0
    once = let a = sound.flying s in let b = sound.slots_once s in let c = ap (how_many (same_slot s)) is in let d = flag _ _ (slot-itself s) in
        omega (arith, a, b, c, d)

    left : filter (λ t. not (same_slot s t)) l.flight ≡ fs
    left = ap (filter (λ t. not (same_slot s t))) is ∙ first (same_slot s s) (slot-itself s) ∙ none_there s fs once
      where
        first : (b : Bool) → b ≡ true → cond (not b) (s ∷ filter (λ t. not (same_slot s t)) fs) (filter (λ t. not (same_slot s t)) fs) ≡
            filter (λ t. not (same_slot s t)) fs
        first true h = refl
        first false h = cc

-- the first of those that end
pub first-completes : (l : Ledger) (end : Option WriteEnd) (ns : List Note) → EndsFirst end l ns → Completes l (take 1 l.flight) ns
first-completes l None ns h = subst (λ fs. Completes l (take 1 fs) ns) (sym h.0) h.1
first-completes l (Some end) ns h = let r = first-some end.slot l.flight h.0.0 in
    subst (λ fs. Completes l (take 1 fs) ns) (sym r.1) (end.failed, [], h.1 ∙ sym (append-nil _), refl)

-- one more write ends before the rest
pub completes-more : (m : Setting) (l : Ledger) (k : ℕ) (ns rest : List Note) → IsSound m l → Completes l (take 1 l.flight) ns →
    Completes (after_notes l ns) (take k (after_notes l ns).flight) rest → Completes l (take (suc k) l.flight) (ns ++ rest)
completes-more m l k ns rest sound c more = by l.flight refl c
  where
    by : (fs : List Slot) → l.flight ≡ fs → Completes l (take 1 fs) ns → Completes l (take (suc k) fs) (ns ++ rest)
    by [] is c = ap (λ x. x ++ rest) c ∙ none k (subst (λ x. Completes (after_notes l x) (take k (after_notes l x).flight) rest) c more)
      where
        none : (k : ℕ) → Completes l (take k l.flight) rest → rest ≡ []
        none k h = empty k (subst (λ fs. Completes l (take k fs) rest) is h)
          where
            empty : (k : ℕ) → Completes l (take k []) rest → rest ≡ []
            empty zero h = h
            empty (suc k) h = h
    by (s ∷ fs) is c = (
      c.0,
      c.1 ++ rest,
      ap (λ x. x ++ rest) c.2 ∙ append_assoc (end_notes l s c.0) c.1 rest,
      subst (λ x. Completes (after_notes l (end_notes l s c.0)) (take k fs) (x ++ rest)) (sym c.3)
          (subst (λ y. Completes (after_notes l (end_notes l s c.0)) (take k y) rest) (flight-ended m l s fs c.0 sound is)
          (subst (λ x. Completes (after_notes l x) (take k (after_notes l x).flight) rest) whole more)),
    )
      where
        whole : ns ≡ end_notes l s c.0
        whole = c.2 ∙ ap (λ x. end_notes l s c.0 ++ x) c.3 ∙ append-nil (end_notes l s c.0)
