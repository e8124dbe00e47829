-- Without swap a pass has no notes: no write is in flight, and no frame has a slot to go to.
use Rattle.std.proofs.Common.{◌≡◌, ℕ, ◌<◌, Bool, true, false, not, ◌&&◌, ◌||◌, List, [], ◌∷◌, ◌++◌, is_none, option_map, refl, sym, subst, ◌∙◌, ◌==◌}
use Rattle.std.specs.Prelude.{MatchBool}
use Rattle.std.specs.List.{list_all}
use Rattle.av_base.specs.declared.slot.Slot.{Slot}
use Rattle.av_trace.specs.declared.note.Note.{Note}
use Rattle.av_trace.specs.declared.note.Note.TheVariants.{Dropped}
use Rattle.av_plain.specs.Ledger.{Ledger, Setting, Cached, cached_by, has_free, is_free, is_open, free_slots}
use Rattle.av_plain.specs.Event.{after_notes}
use Rattle.av_plain.specs.Pass.{Spared, Completes, IsSlotFor, is_stuck, stays_cached, turn_notes, Turns, frames_in_turn, IsPass, Seeks, TakesFor}

-- no slot is cached, none is in flight, and no area is on
pub record HasNoSwap (l : Ledger) : Type 0 where
  pub cache : l.cache ≡ []
  pub flight : l.flight ≡ []
  pub on : l.on ≡ []

stuck : (m : Setting) (sp : Spared) (l : Ledger) (f : ℕ) → HasNoSwap l → is_stuck m sp l f ≡ true
stuck m sp l f h = λ i. is_none (option_map (λ (c : Cached). c.slot) (cached_by (λ c. f == c.frame) (h.cache i))) && list_all
    (λ a. not (is_open sp.closing a.0) || free_slots m l a == 0) (h.on i)

turns-none : (m : Setting) (sp : Spared) (l : Ledger) (fs : List ℕ) (notes : List Note) → HasNoSwap l → Turns m sp l fs notes → notes ≡ []
turns-none m sp l [] notes h t = t
turns-none m sp l (f ∷ fs) notes h t = by (is_stuck m sp l f) (stuck m sp l f h) (turns-none m sp l fs notes h) t
  where
    by : (b : Bool) → b ≡ true → (Turns m sp l fs notes → notes ≡ []) →
        MatchBool b (Turns m sp l fs notes) ((s : Slot) × (failed : Bool) × IsSlotFor m sp l f s × MatchBool (stays_cached l f s failed)
        ((rest : List Note) × (notes ≡ turn_notes l f s failed ++ rest) × Turns m sp (after_notes l (turn_notes l f s failed)) fs rest)
        (notes ≡ turn_notes l f s failed ++ Dropped s ∷ [])) → notes ≡ []
    by true is rest q = rest q
    by false is rest q = cc

none-turns : (m : Setting) (sp : Spared) (l : Ledger) (fs : List ℕ) → HasNoSwap l → Turns m sp l fs []
none-turns m sp l [] h = refl
none-turns m sp l (f ∷ fs) h = by (is_stuck m sp l f) (stuck m sp l f h) (none-turns m sp l fs h)
  where
    by : (b : Bool) → b ≡ true → Turns m sp l fs [] → MatchBool b (Turns m sp l fs [])
        ((s : Slot) × (failed : Bool) × IsSlotFor m sp l f s × MatchBool (stays_cached l f s failed)
        ((rest : List Note) × ([] ≡ turn_notes l f s failed ++ rest) × Turns m sp (after_notes l (turn_notes l f s failed)) fs rest)
        ([] ≡ turn_notes l f s failed ++ Dropped s ∷ []))
    by true is rest = rest
    by false is rest = cc

completes-none : (l : Ledger) (ts : List Slot) (notes : List Note) → ts ≡ [] → Completes l ts notes → notes ≡ []
completes-none l [] notes h c = c
completes-none l (t ∷ ts) notes h c = cc

-- what stands before a frame is taken
pub seeks-none : (m : Setting) (sp : Spared) (l : Ledger) (notes : List Note) → HasNoSwap l → Seeks m sp l notes → notes ≡ []
seeks-none m sp l notes h s = by (has_free m l) s
  where
    turned : (b : Bool) (now : Ledger) (fs : List ℕ) (ns : List Note) → HasNoSwap now → MatchBool b (ns ≡ []) (Turns m sp now fs ns) → ns ≡ []
    turned true now fs ns k q = q
    turned false now fs ns k q = turns-none m sp now fs ns k q

    by : (b : Bool) → MatchBool b (notes ≡ []) (IsPass m sp l notes) → notes ≡ []
    by true q = q
    by false q =
        let done = completes-none l l.flight q.0 h.flight q.3 in
        let now = after_notes l q.0 in
        let still : HasNoSwap now = subst (λ ns. HasNoSwap (after_notes l ns)) (sym done) h in
        q.2 ∙ (λ i. done i ++ turned (has_free m now) now (frames_in_turn sp now) q.1 still q.4 i)

pub none-seeks : (m : Setting) (sp : Spared) (l : Ledger) → HasNoSwap l → Seeks m sp l []
none-seeks m sp l h = by (has_free m l) refl
  where
    completed : (ts : List Slot) → ts ≡ [] → Completes l ts []
    completed [] e = refl
    completed (t ∷ ts) e = cc

    turned : (b : Bool) → MatchBool b (◌≡◌ {A = List Note} [] []) (Turns m sp l (frames_in_turn sp l) [])
    turned true = refl
    turned false = none-turns m sp l (frames_in_turn sp l) h

    by : (b : Bool) → has_free m l ≡ b → MatchBool b (◌≡◌ {A = List Note} [] []) (IsPass m sp l [])
    by true is = refl
    by false is = ([], [], refl, completed l.flight h.flight, turned (has_free m l))

-- a note that takes a frame stands alone then
pub takes-alone : (m : Setting) (sp : Spared) (l : Ledger) (f : ℕ) (note : ℕ → Note) → HasNoSwap l → f < m.frames → is_free l f ≡ true →
    TakesFor m sp l (note f ∷ []) note
takes-alone m sp l f note h below free = record { sought = []; frame = f; seeks = none-seeks m sp l h; in_range = below; free = free; whole = refl }
