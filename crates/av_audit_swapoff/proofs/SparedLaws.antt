-- What a pass spares for an area that closes.
use Rattle.std.proofs.Common.{◌≡◌, ◌⊎◌, ℕ, Bool, false, Option, Some, List, inr, subst}
use Rattle.av_base.specs.declared.slot.Slot.{Slot}
use Rattle.av_plain.specs.Ledger.{Ledger, Setting}
use Rattle.av_plain.specs.Pass.{Spared as PlainSpared, out_of}
use Rattle.av_audit_book.specs.Spared.{spared_of}
use Rattle.av_audit_book.specs.declared.spared.Spared.{Spared}
use Rattle.av_audit_judge.specs.Stage.{Meets}
use Rattle.av_audit_judge.proofs.SparedLaws.{out-behind}
use Rattle.av_audit_swapoff.specs.Empty.{Empties, IsStuck}

-- by another name of what is spared, and of what is met
pub empties-as : (m : Setting) (a b : PlainSpared) (l l' : Ledger) (s : Slot) (bytes rest : List ℕ) (x y : Option (Unit {0} ⊎ Bool)) → a ≡ b → x ≡ y
    → Meets (Empties m a l s) (IsStuck m a l s) l bytes x l' rest → Meets (Empties m b l s) (IsStuck m b l s) l bytes y l' rest
empties-as m a b l l' s bytes rest x y same is h =
    subst (λ found. Meets (Empties m b l s) (IsStuck m b l s) l bytes found l' rest) is
    (subst (λ sp. Meets (Empties m sp l s) (IsStuck m sp l s) l bytes x l' rest) same h)

-- where no frame is free for the slot, the numbers are those by what was spared at its start
pub starved-out : (m : Setting) (s : Spared) (sp : PlainSpared) (l l' : Ledger) (slot : Slot) (bytes rest : List ℕ) → spared_of s l ≡ sp
    → Meets (Empties m (spared_of s l) l slot) (IsStuck m (spared_of s l) l slot) l bytes (Some (inr false)) l' rest
    → out_of m (spared_of s l') l' ≡ out_of m sp l'
starved-out m s sp l l' slot bytes rest same h = out-behind m s sp l l' h.notes same h.lawful.1.0 h.after
