-- A frame that is kept where an entry of it is seen, and one that ages.
use Rattle.std.proofs.Common.{◌≡◌, ℕ, Bool, true, false, List, [], ◌∷◌, refl, sym, ap, subst, ◌∙◌}
use Rattle.av_pagetable.specs.Entries.{entry_at}
use Rattle.av_plain.specs.Device.{Device}
use Rattle.av_plain.specs.Stands.{View}
use Rattle.av_rmap.specs.Walk.{names_seen}
use Rattle.av_swap_laws.specs.Steps.{view_to_active, view_to_head, view_unseen}
use Rattle.av_trace.specs.declared.note.Cause.TheVariants.{Referenced}
use Rattle.av_trace.specs.declared.note.Note.TheVariants.{Aged}
use Rattle.av_evict.specs.Steps.{IsUsed, referenced_notes}
use Rattle.av_evict.specs.System.{Makes}
use Rattle.av_mem.specs.Mem.{view}
use Rattle.av_mem.specs.Steps.{KeepsParts}
use Rattle.av_mem.specs.declared.mem.Mem.{Mem}
use Rattle.av_mem.proofs.ChainLaws.{unseen-still}
use Rattle.av_mem.proofs.StayLaws.{parts-then}
use Rattle.av_reclaim.specs.Driver.{view_of}
use Rattle.av_reclaim.proofs.FinishMakes.{none-makes}
use Rattle.av_reclaim.proofs.StepMakes.{age-makes, keep-makes}

module _ (names : List ℕ) (d : Device) (old mid : Mem) (f : ℕ) (b : Bool) (unseen : view mid ≡ view_unseen f (view old))
    (parts : KeepsParts old mid) where
  -- one is: it goes to the head of active
  pub seen-makes : (new : Mem) → b ≡ true → view new ≡ view_to_active f (view mid) → KeepsParts mid new
      → Makes (view_of names d old) (view_of names d new) (IsUsed f) (referenced_notes f b)
  seen-makes new is moved later =
      subst (λ b. Makes (view_of names d old) (view_of names d new) (IsUsed f) (referenced_notes f b)) (sym is)
      (keep-makes names d old new f Referenced (moved ∙ ap (λ (v : View). view_to_active f v) unseen) (parts-then parts later))

  -- none is: nothing changes
  pub unseen-makes : b ≡ false → ((p page : ℕ) → names_seen f (entry_at old.tables p page) ≡ false)
      → Makes (view_of names d old) (view_of names d mid) (IsUsed f) (referenced_notes f b)
  unseen-makes is none =
      subst (λ b. Makes (view_of names d old) (view_of names d mid) (IsUsed f) (referenced_notes f b)) (sym is)
      (none-makes names d d old mid (IsUsed f) refl (unseen ∙ unseen-still old f none) parts)

-- whether one is or not: it goes to the head of inactive
pub aged-makes : (names : List ℕ) (d : Device) (old mid new : Mem) (f : ℕ) → view mid ≡ view_unseen f (view old) → KeepsParts old mid
    → view new ≡ view_to_head f (view mid) → KeepsParts mid new → Makes (view_of names d old) (view_of names d new) (IsUsed f) (Aged f ∷ [])
aged-makes names d old mid new f unseen parts moved later =
    age-makes names d old new f (moved ∙ ap (λ (v : View). view_to_head f v) unseen) (parts-then parts later)
