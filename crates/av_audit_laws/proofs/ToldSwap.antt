-- Notes tell what became of frames that were reclaimed, and of a slot that was emptied.
use Rattle.std.proofs.Common.{◌≡◌, ℕ, Bool, true, false, not, if◌then◌else◌, List, [], ◌∷◌, ◌++◌, Option, Some, None, is_none, refl, sym, ap, subst, ◌∙◌, ◌==◌, append_assoc}
use Rattle.std.specs.Prelude.{MatchOption}
use Rattle.std.proofs.lemmas.List.{append_cancel_left}
use Rattle.av_base.specs.declared.slot.Slot.{Slot}
use Rattle.av_trace.specs.declared.note.Cause.{Cause}
use Rattle.av_trace.specs.declared.note.Cause.TheVariants.{WriteStarted}
use Rattle.av_trace.specs.declared.note.Note.{Note}
use Rattle.av_trace.specs.declared.note.Note.TheVariants.{Put, Unmapped, Kept, Loaded, Started, Dropped}
use Rattle.av_plain.specs.Event.{Event, after_notes, when}
use Rattle.av_plain.specs.Ledger.{Ledger, Setting, frame_at, map_count, slot_of}
use Rattle.av_plain.specs.Pass.{IsSlotFor, Spared, TakesFor, is_dirty, unmap_notes}
use Rattle.av_plain.specs.Reclaim.{Outcome, Outcomes, cause_of, leave_notes}
use Rattle.av_plain.specs.Swapoff.{Close, Closed, IsEmptied, IsFetched, NoRoom, Unread, close_answer, map_notes, turn_off_events}
use Rattle.av_audit_laws.proofs.ToldPass.{head-of, takes-told, with-lists}

-- the slot is the frame's, or stands in the first note
slot-of-notes : (o : Option Slot) (u v : List Note) (f : ℕ) (s t : Slot) (x y : List Note) (P Q : Type 0)
    → MatchOption o P (λ t. s ≡ t) → MatchOption o Q (λ r. t ≡ r)
    → (when (is_none o) (Put f s) ++ u) ++ x ≡ (when (is_none o) (Put f t) ++ v) ++ y → s ≡ t
slot-of-notes (Some r) u v f s t x y P Q h g e = h ∙ sym g
slot-of-notes None u v f s t x y P Q h g e = inner (head-of e)
  where
    inner : Put f s ≡ Put f t → s ≡ t
    inner e = cc

abbrev behind : Ledger → ℕ → Slot → List Note
behind l f s = if is_dirty l f s then Started s ∷ Kept f WriteStarted ∷ [] else Dropped s ∷ []

abbrev Leaves : Setting → Spared → Ledger → ℕ → List Note → Type 0
Leaves m sp l f a = (s : Slot) × IsSlotFor m sp l f s × (a ≡ leave_notes l f s)

leaves-told : (m : Setting) (sp : Spared) (l : Ledger) (f : ℕ) (a b x y : List Note) → Leaves m sp l f a
    → Leaves m sp l f b → a ++ x ≡ b ++ y → a ≡ b
leaves-told m sp l f a b x y h g e =
    let un = when (not (map_count l f == 0)) (Unmapped f) in
    let split : (s : Slot) → leave_notes l f s ≡ when (is_none (slot_of l f)) (Put f s) ++ (un ++ behind l f s) = λ s.
    append_assoc (when (is_none (slot_of l f)) (Put f s)) un (behind l f s) in
    let same : h.0 ≡ g.0 = slot-of-notes (slot_of l f) (un ++ behind l f h.0) (un ++ behind l f g.0) f h.0 g.0 x y _ _ h.1 g.1
    (with-lists x y (h.2 ∙ split h.0) (g.2 ∙ split g.0) e) in
    h.2 ∙ ap (leave_notes l f) same ∙ sym g.2

pub outcome-told : (m : Setting) (sp : Spared) (l : Ledger) (f : ℕ) (a b x y : List Note) → Outcome m sp l f a
    → Outcome m sp l f b → a ++ x ≡ b ++ y → a ≡ b
outcome-told m sp l f a b x y h g e = by (cause_of m sp l f) h g
  where
    by : (o : Option Cause) → MatchOption o (Leaves m sp l f a) (λ cause. a ≡ Kept f cause ∷ [])
        → MatchOption o (Leaves m sp l f b) (λ cause. b ≡ Kept f cause ∷ []) → a ≡ b
    by (Some cause) h g = h ∙ sym g
    by None h g = leaves-told m sp l f a b x y h g e

pub outcomes-told : (m : Setting) (sp : Spared) (l : Ledger) (fs : List ℕ) (a b x y : List Note) → Outcomes m sp l fs a
    → Outcomes m sp l fs b → a ++ x ≡ b ++ y → a ≡ b
outcomes-told m sp l [] a b x y h g e = h ∙ sym g
outcomes-told m sp l (f ∷ fs) a b x y h g e =
    let whole : (h.0 ++ h.1) ++ x ≡ (g.0 ++ g.1) ++ y = with-lists x y h.2 g.2 e in
    let split : h.0 ++ (h.1 ++ x) ≡ g.0 ++ (g.1 ++ y) = sym (append_assoc h.0 h.1 x) ∙ whole ∙ append_assoc g.0 g.1 y in
    let here = outcome-told m sp l f h.0 g.0 (h.1 ++ x) (g.1 ++ y) h.3 g.3 split in
    let rest : h.1 ++ x ≡ g.1 ++ y = append_cancel_left h.0 (h.1 ++ x) (g.1 ++ y)
    (subst (λ d. h.0 ++ (h.1 ++ x) ≡ d ++ (g.1 ++ y)) (sym here) split) in
    let one = outcomes-told m sp (after_notes l h.0) fs h.1 g.1 x y h.4
    (subst (λ d. Outcomes m sp (after_notes l d) fs g.1) (sym here) g.4) rest in
    h.2 ∙ (λ i. here i ++ one i) ∙ sym g.2

-- ---- swapoff

inner : {f g : ℕ} → Some f ≡ Some g → f ≡ g
inner e = cc

pub fetches-told : (m : Setting) (sp : Spared) (l : Ledger) (s : Slot) (f g : ℕ) (a b x y : List Note) → IsFetched m sp l s f a
    → IsFetched m sp l s g b → a ++ x ≡ b ++ y → (a ≡ b) × (f ≡ g)
fetches-told m sp l s f g a b x y h i e = by (frame_at l s) h i
  where
    by : (o : Option ℕ) → MatchOption o (TakesFor m sp l a (Loaded s) × (frame_at (after_notes l a) s ≡ Some f)) (λ c. (a ≡ []) × (f ≡ c))
        → MatchOption o (TakesFor m sp l b (Loaded s) × (frame_at (after_notes l b) s ≡ Some g)) (λ c. (b ≡ []) × (g ≡ c))
        → (a ≡ b) × (f ≡ g)
    by None p q = let same = takes-told m sp l a b x y (Loaded s) p.0 q.0 e in
        (same, inner (sym p.1 ∙ ap (λ ns. frame_at (after_notes l ns) s) same ∙ q.1))
    by (Some c) p q = (p.0 ∙ sym q.0, p.1 ∙ sym q.1)

pub emptied-told : (m : Setting) (sp : Spared) (l : Ledger) (s : Slot) (a b x y : List Note) → IsEmptied m sp l s a
    → IsEmptied m sp l s b → a ++ x ≡ b ++ y → a ≡ b
emptied-told m sp l s a b x y h g e =
    let p = map_notes (after_notes l h.fetched) s h.frame in
    let q = map_notes (after_notes l g.fetched) s g.frame in
    let whole : (h.fetched ++ p) ++ x ≡ (g.fetched ++ q) ++ y = with-lists x y h.whole g.whole e in
    let split : h.fetched ++ (p ++ x) ≡ g.fetched ++ (q ++ y) = sym (append_assoc h.fetched p x) ∙ whole ∙ append_assoc g.fetched q y in
    let one = fetches-told m sp l s h.frame g.frame h.fetched g.fetched (p ++ x) (q ++ y) h.fetches g.fetches split in
    h.whole ∙ (λ i. one.0 i ++ map_notes (after_notes l (one.0 i)) s (one.1 i)) ∙ sym g.whole

-- the answer tells whether the area went off
pub off-told : (k : ℕ) (c d : Close) → close_answer c ≡ close_answer d → turn_off_events k c ≡ turn_off_events k d
off-told k Closed Closed e = refl
off-told k Closed (NoRoom out) e = absurd (differ e)
  where
    differ : close_answer Closed ≡ close_answer (NoRoom out) → ⊥
    differ e = cc
off-told k Closed Unread e = absurd (differ e)
  where
    differ : close_answer Closed ≡ close_answer Unread → ⊥
    differ e = cc
off-told k (NoRoom out) Closed e = absurd (differ e)
  where
    differ : close_answer (NoRoom out) ≡ close_answer Closed → ⊥
    differ e = cc
off-told k (NoRoom out) (NoRoom other) e = refl
off-told k (NoRoom out) Unread e = refl
off-told k Unread Closed e = absurd (differ e)
  where
    differ : close_answer Unread ≡ close_answer Closed → ⊥
    differ e = cc
off-told k Unread (NoRoom out) e = refl
off-told k Unread Unread e = refl
