-- The entries that name a slot become a frame.
use Rattle.std.proofs.Common.{◌<◌, ℕ, Bool, true, false, List, [], ◌∷◌, length, map, refl, arith, ◌≡◌}
use Rattle.av_base.specs.Keys.{Key}
use Rattle.av_base.specs.Page.{address_of}
use Rattle.av_trace.specs.declared.note.Note.{Note}
use Rattle.av_trace.specs.declared.note.Note.TheVariants.{Mapped}
use Rattle.av_plain.specs.Ledger.{Ledger}
use Rattle.av_audit_judge.specs.Finds.{Reads}
use Rattle.av_audit_judge.proofs.Finds.{reads-no-first, reads-nothing, reads-then}
use Rattle.av_audit_judge.proofs.ReclaimLaws.{both-notes}

-- ---- entries that become a frame

abbrev pub maps_notes : ℕ → List Key → List Note
maps_notes f keys = map (λ (k : Key). Mapped k.0 (address_of k.1) f) keys

pub maps-then : (l l1 l' : Ledger) (bytes mid rest : List ℕ) (read : Bool) (f : ℕ) (k : Key) (ks : List Key)
    → Reads (λ ns. ns ≡ Mapped k.0 (address_of k.1) f ∷ []) l bytes true l1 mid
    → Reads (λ ns. ns ≡ maps_notes f ks) l1 mid read l' rest → Reads (λ ns. ns ≡ maps_notes f (k ∷ ks)) l bytes read l' rest
maps-then l l1 l' bytes mid rest read f k ks first later =
    reads-then (λ ns. ns ≡ maps_notes f (k ∷ ks)) (λ ns. ns ≡ Mapped k.0 (address_of k.1) f ∷ []) (λ _ ns. ns ≡ maps_notes f ks)
    l l1 l' bytes mid rest read (both-notes (Mapped k.0 (address_of k.1) f ∷ []) (maps_notes f ks)) first (λ a g e. later)

pub maps-not : (l l1 l' : Ledger) (bytes mid rest : List ℕ) (f : ℕ) (k : Key) (ks : List Key)
    → Reads (λ ns. ns ≡ Mapped k.0 (address_of k.1) f ∷ []) l bytes false l1 mid
    → Reads (λ ns. ns ≡ maps_notes f (k ∷ ks)) l bytes false l' rest
maps-not l l1 l' bytes mid rest f k ks none =
    reads-no-first (λ ns. ns ≡ maps_notes f (k ∷ ks)) (λ ns. ns ≡ Mapped k.0 (address_of k.1) f ∷ []) (λ _ ns. ns ≡ maps_notes f ks)
    l l1 l' bytes mid rest (both-notes (Mapped k.0 (address_of k.1) f ∷ []) (maps_notes f ks)) none

pub maps-over : (l : Ledger) (bytes : List ℕ) (f : ℕ) (ks : List Key) → length ks < 1
    → Reads (λ ns. ns ≡ maps_notes f ks) l bytes true l bytes
maps-over l bytes f [] h = reads-nothing (λ ns. ns ≡ maps_notes f []) l bytes refl
maps-over l bytes f (k ∷ ks) h = absurd (omega (arith, h))
