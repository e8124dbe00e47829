-- Transcripts: commands with their replies, in order.
use Rattle.std.specs.Prelude.{ℕ, List, [], ◌∷◌, ◌≡◌, sum_by}
use Rattle.std.specs.List.{flat_map, range_with_len}
use Rattle.av_trace.specs.declared.command.Command.{Command}
use Rattle.av_trace.specs.declared.reply.Reply.{Reply}
use Rattle.av_trace.specs.Print.{text_of}
use Rattle.av_plain.specs.Areas.{Anons, Areas, Homes, Items, Rmap, no_anons, no_areas, no_homes}
use Rattle.av_plain.specs.Areas.{no_items, rmap_after_all}
use Rattle.av_plain.specs.Choice.{ChoosesAll, Free, no_slots}
use Rattle.av_plain.specs.Event.{Event, after_all}
use Rattle.av_plain.specs.Fork.{IsRmapNext}
use Rattle.av_plain.specs.Ledger.{Setting, first_ledger, Ledger}
use Rattle.av_plain.specs.Report.{ShowsAreas}
use Rattle.av_plain.specs.Step.{IsLegal, causes, closing_swap_area, next_world}
use Rattle.av_plain.specs.World.{World}

-- a command and its reply
pub record Exchange : Type 0 where
  pub command : Command
  pub reply : Reply

-- the texts of the replies, one behind the other: what a run writes
abbrev pub text_of_run : List Exchange → List ℕ
text_of_run exchanges = flat_map (λ (e : Exchange). text_of e.reply) exchanges

-- ---- legal

-- each reply is legal in its turn, and these are the memories and the ledger in the end
abbrev pub IsLegalFrom : Setting → World → Ledger → List Exchange → World → Ledger → Type 0
IsLegalFrom m w l [] w' l' = (w' ≡ w) × (l' ≡ l)
IsLegalFrom m w l (e ∷ es) w' l' =
    (events : List Event) × IsLegal m w l e.command e.reply events
    × IsLegalFrom m (next_world m w l events e.command e.reply.answer) (after_all l events) es w' l'

-- ---- legal, and with each frame and slot chosen exactly, and what reverse mapping goes by

-- the memories, the ledger, what is free in the order in which it is taken, the areas, the
-- anon_vmas, and the homes of the frames or, of merged ones, the items
pub record State : Type 0 where
  pub world : World
  pub ledger : Ledger
  pub free : Free
  pub areas : Areas
  pub anons : Anons
  pub homes : Homes
  pub items : Items

-- what reverse mapping goes by
abbrev pub rmap_of : State → Rmap
rmap_of s = record { areas = s.areas; anons = s.anons; homes = s.homes; items = s.items }

-- no process lives, all frames are free, rising, and have no home, no swap area has slots, and
-- there is no area and no anon_vma
abbrev pub at_first : Setting → State
at_first m = record {
  world = [];
  ledger = first_ledger;
  free = record { frames = range_with_len 0 m.frames; slots = no_slots };
  areas = no_areas;
  anons = no_anons;
  homes = no_homes;
  items = no_items;
}

-- a command is answered so, and leaves this state
pub record IsStep (m : Setting) (old : State) (command : Command) (reply : Reply) (new : State)
    : Type 0 where
  pub events : List Event
  pub legal : IsLegal m old.world old.ledger command reply events
  pub world : new.world ≡ next_world m old.world old.ledger events command reply.answer
  pub ledger : new.ledger ≡ after_all old.ledger events
  pub free : ChoosesAll m (closing_swap_area command) old.ledger events old.free new.free
  pub rmap : IsRmapNext (rmap_after_all old.ledger events (rmap_of old)) old.world command
      reply.answer (rmap_of new)
  pub shows : ShowsAreas old.areas old.anons command reply.answer reply.rows

-- a transcript, each of its replies a step
abbrev pub IsRun : Setting → State → List Exchange → State → Type 0
IsRun m old [] new = new ≡ old
IsRun m old (e ∷ es) new = (mid : State) × IsStep m old e.command e.reply mid × IsRun m mid es new

-- ---- failures

-- by how much the device's count of failures rose in a transcript, at the least
abbrev pub causes_of : List Exchange → ℕ
causes_of exchanges = sum_by (λ (e : Exchange). causes e.reply) exchanges
