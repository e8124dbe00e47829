-- Why a report is refused, by what the auditor keeps.
use Rattle.std.proofs.Common.{◌≡◌, ℕ, Bool, true, false, cond, not, [], ◌∷◌, Option, Some, None, is_some, refl, sym, ap, ◌∙◌}
use Rattle.std.specs.Prelude.{◌||◌, option_and_then}
use Rattle.av_base.specs.Page.{page_of}
use Rattle.av_trace.specs.declared.reply.Errno.TheVariants.{Efault, Esrch}
use Rattle.av_plain.specs.Refusal.{no_page, no_process, refusal}
use Rattle.av_plain.specs.World.{Process, World, meets, pages, process}
use Rattle.av_audit_world.specs.Memories.{IsProcess}
use Rattle.av_audit_world.specs.Space.{IsSpace}
use Rattle.av_audit_world.specs.declared.space.Space.{Space}

-- the process doesn't live
pub dead : (w : World) (p : ℕ) → IsProcess None (process w p) → is_some (process w p) ≡ false
dead w p h = by (process w p) h
  where
    by : (q : Option Process) → IsProcess None q → is_some q ≡ false
    by None h = refl
    by (Some q) h = absurd h

pub dead-page : (w : World) (p a : ℕ) → is_some (process w p) ≡ false → Some Esrch ≡ refusal (no_process w p ∷ no_page w p a ∷ [])
dead-page w p a gone = ap (λ b. cond (not b) (Some Esrch) (refusal (no_page w p a ∷ []))) (sym gone)

pub dead-alone : (w : World) (p : ℕ) → is_some (process w p) ≡ false → refusal (no_process w p ∷ []) ≡ Some Esrch
dead-alone w p gone = ap (λ b. cond (not b) (Some Esrch) None) gone

-- it does, and its page is mapped or isn't
pub live-page : (w : World) (p a : ℕ) (s : Space) (mapped : Bool) → IsProcess (Some s) (process w p)
    → ((q : Process) → IsSpace s q → mapped ≡ meets q (page_of a) 1)
    → cond mapped None (Some Efault) ≡ refusal (no_process w p ∷ no_page w p a ∷ [])
live-page w p a s mapped h is = by (process w p) h
  where
    each : (b : Bool) → cond (b || false) None (Some Efault) ≡ refusal ((false, Esrch) ∷ (not b, Efault) ∷ [])
    each true = refl
    each false = refl

    by : (o : Option Process) → IsProcess (Some s) o
        → cond mapped None (Some Efault)
        ≡ refusal ((not (is_some o), Esrch) ∷ (not (is_some (option_and_then (λ (q : Process). q (page_of a)) o)), Efault) ∷ [])
    by None h = absurd h
    by (Some q) h = ap (λ b. cond b None (Some Efault)) (is q h) ∙ each (is_some (q (page_of a)))

pub live-alone : (w : World) (p : ℕ) (s : Space) → IsProcess (Some s) (process w p) → refusal (no_process w p ∷ []) ≡ None
live-alone w p s h = by (process w p) h
  where
    by : (o : Option Process) → IsProcess (Some s) o → refusal ((not (is_some o), Esrch) ∷ []) ≡ None
    by None h = absurd h
    by (Some q) h = refl

-- what it has mapped
pub live-space : (w : World) (p : ℕ) (s : Space) → IsProcess (Some s) (process w p) → IsSpace s (pages w p)
live-space w p s h = by (process w p) h
  where
    by : (o : Option Process) → IsProcess (Some s) o → IsSpace s (λ page. option_and_then (λ (q : Process). q page) o)
    by None h = absurd h
    by (Some q) h = record { pages = h.pages; top = h.top }
