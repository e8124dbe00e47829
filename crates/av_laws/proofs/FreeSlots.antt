-- In a run the slots of each area are listed as the ledger has them: a page is taken where its slot is in use, and only slots are free.
use Rattle.std.proofs.Common.{List, [], ◌∷◌, refl, sym, subst}
use Rattle.av_plain.specs.Choice.{ListsSlots}
use Rattle.av_plain.specs.Device.{AreLayouts}
use Rattle.av_plain.specs.Ledger.{Setting}
use Rattle.av_plain.specs.Sound.{AllSound}
use Rattle.av_plain.specs.Transcript.{Exchange, IsRun, State, at_first}
use Rattle.av_plain.proofs.FreeSteps.{step-lists_slots}
use Rattle.av_plain.proofs.Sound.{first-sound, step-sound}

run-from : (m : Setting) (old : State) (es : List Exchange) (new : State) → AreLayouts m → AllSound m old.world old.ledger →
    ListsSlots m old.ledger old.free.slots
    → IsRun m old es new
    → ListsSlots m new.ledger new.free.slots
run-from m old [] new layouts s h q = subst (λ (x : State). ListsSlots m x.ledger x.free.slots) (sym q) h
run-from m old (e ∷ es) new layouts s h q = run-from m q.0 es new layouts (step-sound m old e.command e.reply q.0 s q.1)
    (step-lists_slots m old e.command e.reply q.0 layouts s h q.1) q.2

pub run-lists_slots : (m : Setting) (es : List Exchange) (new : State) → AreLayouts m → IsRun m (at_first m) es new
    → ListsSlots m new.ledger new.free.slots
run-lists_slots m es new layouts q = run-from m (at_first m) es new layouts (first-sound m)
    (record { taken = λ s. refl; free = λ s h. cc; number = λ k. refl; off = λ k h. refl }) q
