use Rattle.std.proofs.Common.{◌≡◌, ℕ, List, Option, true, false, refl}
use Rattle.av_trace.specs.declared.command.Command.{Command}
use Rattle.av_trace.specs.declared.command.Command.TheVariants.{Age, Complete, Mlock, Read, Reclaim, Swapoff, Swapon, Write}
use Rattle.av_plain.specs.Step.{uses_device}
use Rattle.av_kernel.specs.Step.{has_device}
use Rattle.av_step.proofs.StepLaws.{beside, steady_of}
use Rattle.av_kernel.proofs.step.dispatch.Goals as goal

-- what isn't handed the device doesn't use it
unused : (command : Command) → has_device command ≡ false → uses_device command ≡ false
unused (Reclaim n) is = refl
unused (Age n) is = refl
unused command is = is

-- no other command is handed the device
left : (command : Command) → ((p a n : ℕ) → command ≡ Read p a n → ⊥)
    → ((p a : ℕ) (bytes : List ℕ) → command ≡ Write p a bytes → ⊥) → ((p a len : ℕ) → command ≡ Mlock p a len → ⊥) → ((n : ℕ) → command ≡ Reclaim n → ⊥) → ((n : ℕ) → command ≡ Age n → ⊥)
    → ((n : ℕ) → command ≡ Complete n → ⊥) → ((k : ℕ) (priority : Option ℕ) → command ≡ Swapon k priority → ⊥)
    → ((k : ℕ) → command ≡ Swapoff k → ⊥) → has_device command ≡ false
left (Read p a n) no_read no_write no_mlock no_reclaim no_age no_complete no_swapon no_swapoff = absurd (no_read p a n refl)
left (Write p a bytes) no_read no_write no_mlock no_reclaim no_age no_complete no_swapon no_swapoff = absurd (no_write p a bytes refl)
left (Reclaim n) no_read no_write no_mlock no_reclaim no_age no_complete no_swapon no_swapoff = absurd (no_reclaim n refl)
left (Age n) no_read no_write no_mlock no_reclaim no_age no_complete no_swapon no_swapoff = absurd (no_age n refl)
left (Complete n) no_read no_write no_mlock no_reclaim no_age no_complete no_swapon no_swapoff = absurd (no_complete n refl)
left (Swapon k priority) no_read no_write no_mlock no_reclaim no_age no_complete no_swapon no_swapoff = absurd (no_swapon k priority refl)
left (Swapoff k) no_read no_write no_mlock no_reclaim no_age no_complete no_swapon no_swapoff = absurd (no_swapoff k refl)
left (Mlock p a len) no_read no_write no_mlock no_reclaim no_age no_complete no_swapon no_swapoff = absurd (no_mlock p a len refl)
left command no_read no_write no_mlock no_reclaim no_age no_complete no_swapon no_swapoff = refl

pub do_beside-requires-clause-steady : goal.do_beside-requires-clause-steady
do_beside-requires-clause-steady g c = steady_of (g.D.SwapDev.sizes c.args.dev.now) c.args.mem.now c.requires.steady

pub do_beside-requires-clause-beside : goal.do_beside-requires-clause-beside
do_beside-requires-clause-beside g c = left c.args.command.now c.in_default.not-Read c.in_default.not-Write c.in_default.not-Mlock c.in_default.not-Reclaim
    c.in_default.not-Age c.in_default.not-Complete c.in_default.not-Swapon c.in_default.not-Swapoff

pub returns-in_default-clause-does : goal.returns-in_default-clause-does
returns-in_default-clause-does g c = beside c.args.mem.now c.do_beside.new.mem c.args.command.now _
    (unused c.args.command.now (left c.args.command.now c.in_default.not-Read c.in_default.not-Write c.in_default.not-Mlock c.in_default.not-Reclaim
    c.in_default.not-Age c.in_default.not-Complete c.in_default.not-Swapon c.in_default.not-Swapoff)) c.do_beside.ensures _
