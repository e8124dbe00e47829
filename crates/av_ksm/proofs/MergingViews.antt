-- What the steps of a merge leave of the frames' bytes.
use Rattle.std.proofs.Common.{◌≡◌, ℕ, Bool, true, false, cond, Option, refl, ap, ◌∙◌, ◌==◌}
use Rattle.std.specs.Prelude.{Err, Ok, OnOk, Result}
use Rattle.av_base.specs.Items.{Item}
use Rattle.av_base.specs.Keys.{Key}
use Rattle.av_plain.specs.Stands.{View}
use Rattle.av_swap_laws.specs.Steps.{view_freed}
use Rattle.av_mem.specs.declared.mem.Mem.{Mem}
use Rattle.av_mem.specs.Mem.{view}
use Rattle.av_ksm.specs.Join.{view_joined, view_joining}
use Rattle.av_ksm.specs.Joining.{HasShared}

pub joined-bytes : (old new : Mem) (p page f g : ℕ) (item : Option Item) → view new ≡ view_joined p page f g item (view old)
    → (view new).bytes ≡ (view old).bytes
joined-bytes old new p page f g item is = ap (λ (v : View). v.bytes) is ∙ by ((view old).maps g == 1)
  where
    by : (b : Bool) → (cond b (view_freed g (view_joining p page f g item (view old))) (view_joining p page f g item (view old))).bytes ≡ (view old).bytes
    by true = refl
    by false = refl

pub shared-bytes : (old new : Mem) (k : Key) (f : ℕ) → HasShared old new k f → (view new).bytes ≡ (view old).bytes
shared-bytes old new k f shared = ap (λ (v : View). v.bytes) shared.view

-- what follows where nothing failed
pub on-ok : {T E : Type 0} (r : Result T E) {P Q : Type 0} → (P → Q) → OnOk r P → OnOk r Q
on-ok (Ok x) f p = f p
on-ok (Err e) f p = tt

pub on-ok-both : {T E : Type 0} (r : Result T E) {P Q R : Type 0} → (P → Q → R) → OnOk r P → OnOk r Q → OnOk r R
on-ok-both (Ok x) f p q = f p q
on-ok-both (Err e) f p q = tt
