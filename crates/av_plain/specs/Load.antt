-- What a load does to the memories where the devices don't tell their pages: what the pages held is
-- not known any more.
use Rattle.std.specs.Prelude.{ℕ, Bool, false, if◌then◌else◌, List, [], ◌∷◌, map, Option, Some, None}
use Rattle.std.specs.Prelude.{is_some, option_map}
use Rattle.av_base.specs.declared.slot.Slot.{Slot}
use Rattle.av_trace.specs.declared.note.Note.TheVariants.{Loaded}
use Rattle.av_plain.specs.Event.{Noted, Event, after}
use Rattle.av_plain.specs.Ledger.{entry, Entry, Setting, names_slot, Ledger}
use Rattle.av_plain.specs.World.{Process, World, Page}

-- there is an entry, and it names the slot
abbrev pub is_of_slot : Slot → Option Entry → Bool
is_of_slot s None = false
is_of_slot s (Some e) = names_slot s e

-- a page whose bytes nobody claims any more
abbrev pub without_bytes : Page → Page
without_bytes p = record p { bytes = λ _. None }

-- the pages whose entry names the slot lose what they claimed
abbrev pub without_claims : Ledger → Slot → World → World
without_claims l s w = map (λ (q : ℕ × Process). (
  q.0,
  λ page.
      if is_of_slot s (entry l (q.0, page)) then option_map without_bytes (q.1 page) else q.1 page,
)) w

-- what an event makes unclaimed: a load does, the others do not
abbrev pub after_load : Ledger → Event → World → World
after_load l (Noted (Loaded s f)) w = without_claims l s w
after_load l event w = w

-- where the devices don't tell their pages: after each load, by the entries at its note
abbrev pub after_loads : World → Ledger → List Event → World
after_loads w l [] = w
after_loads w l (e ∷ es) = after_loads (after_load l e w) (after l e) es

-- the memories after the loads of a command: where the devices tell their pages, nothing is
-- forgotten
abbrev pub with_loads : Setting → World → Ledger → List Event → World
with_loads m w l events = if is_some m.headers then w else after_loads w l events
