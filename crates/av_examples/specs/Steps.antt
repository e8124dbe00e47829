-- Worked examples for steps: what a command leaves that is refused, forks that give nothing, and
-- anon_vmas that aren't idle. Each is right but for one thing.
use Rattle.std.specs.Prelude.{List, [], ◌∷◌, Some}
use Rattle.av_base.specs.Words.{with_at}
use Rattle.av_trace.specs.declared.command.Command.TheVariants.{Areas as AsksAreas, Spawn}
use Rattle.av_trace.specs.declared.reply.Answer.{Answer}
use Rattle.av_trace.specs.declared.reply.Answer.TheVariants.{AreaList, Refused}
use Rattle.av_trace.specs.declared.reply.Errno.TheVariants.{Eexist}
use Rattle.av_vma.specs.Pages.{pages_in}
use Rattle.av_vma.specs.declared.area.Area.{Area}
use Rattle.av_plain.specs.Areas.{Rmap, no_anons, no_areas}
use Rattle.av_plain.specs.Transcript.{IsStep, State, at_first}
use Rattle.av_plain.specs.World.{no_pages}
use Rattle.av_laws.specs.Areas.{area, areas_of, rmap_with}
use Rattle.av_laws.specs.Examples.{machine, read_write, reply_with}

-- process 1 lives, on a machine with one frame, and nothing else was done
abbrev pub one_lives : State
one_lives = record (at_first (machine 1)) { world = (1, no_pages) ∷ [] }

-- it is to be made once more: that is answered so and leaves this state
abbrev pub IsAnswered : Answer → State → Type 0
IsAnswered answer new = IsStep (machine 1) one_lives (Spawn 1) (reply_with answer []) new

-- or it doesn't leave that
abbrev pub LeavesNot : State → Type 0
LeavesNot new = IsAnswered (Refused Eexist) new → ⊥

-- an area with one page
abbrev pub one_area_there : List Area
one_area_there = area 0x10 0x11 read_write ∷ []

-- process 1 has it, but doesn't see its page
abbrev pub with_area_alone : State
with_area_alone = record one_lives { areas = areas_of one_area_there }

-- its areas are asked for: there is none, by the reply
abbrev pub ShowsNone : State → Type 0
ShowsNone s = IsStep (machine 1) s (AsksAreas 1) (reply_with (AreaList 0) []) s

-- ---- forks

-- process 2 has that area, though it is to be made, and process 1 has none
abbrev pub left_by_another : Rmap
left_by_another =
    record (rmap_with [] no_anons) { areas = with_at 2 (pages_in (Some one_area_there)) no_areas }
