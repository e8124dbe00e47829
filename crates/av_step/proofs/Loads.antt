-- The memories after events of which none is a load: they stay as they were.
use Rattle.std.proofs.Common.{◌≡◌, ℕ, true, List, refl, sym, ap}
use Rattle.std.specs.List.{list_all}
use Rattle.av_base.specs.Page.{page_of}
use Rattle.av_trace.specs.declared.command.Command.{Command}
use Rattle.av_trace.specs.declared.place.Place.{Place}
use Rattle.av_trace.specs.declared.place.Place.TheVariants.{Auto, At, Fixed, NoReplace}
use Rattle.av_trace.specs.declared.reply.Answer.{Answer}
use Rattle.av_plain.specs.Event.{Event}
use Rattle.av_plain.specs.Ledger.{Ledger, Setting}
use Rattle.av_plain.specs.Map.{zaps_for_place}
use Rattle.av_plain.specs.Step.{next, next_world}
use Rattle.av_plain.specs.World.{World}
use Rattle.av_plain.specs.Zap.{keys_in}
use Rattle.av_plain.proofs.Load.{loads_nothing, without-loads, zaps-load_nothing}

-- the memories after events of which none is a load
pub world_as : (m : Setting) (w : World) (l : Ledger) (events : List Event) (command : Command) (answer : Answer)
    → list_all loads_nothing events ≡ true →
    next w command answer ≡ next_world m w l events command answer
world_as m w l events command answer none = ap (λ w. next w command answer) (sym (without-loads m w l events none))

-- what goes where a mapping makes room
pub place-loads : (l : Ledger) (p n : ℕ) (place : Place) → list_all loads_nothing (zaps_for_place l p n place) ≡ true
place-loads l p n Auto = refl
place-loads l p n (At a) = refl
place-loads l p n (Fixed a) = zaps-load_nothing l (keys_in l p (page_of a) n)
place-loads l p n (NoReplace a) = refl
