-- Reports: the runs of `maps`, the areas of `areas`, the walk of `rmap`, the entry of `entry`, the
-- count of `slot`, and the numbers of `stat`.
use Rattle.std.specs.List.{AllByRecursion}
use Rattle.std.specs.Prelude.{◌≡◌, ◌⊎◌, ℕ, ◌<◌, ◌≤◌, ◌&&◌, nat_lt, nat_le, if◌then◌else◌, List, []}
use Rattle.std.specs.Prelude.{◌∷◌, map, length, sum_by, Option, Some, None, option_map, MatchOption}
use Rattle.av_base.specs.Keys.{Key}
use Rattle.av_base.specs.Page.{address_of}
use Rattle.av_base.specs.declared.flags.Flags.{Flags}
use Rattle.av_base.specs.declared.prot.Prot.{Prot}
use Rattle.av_base.specs.declared.slot.Slot.{Slot}
use Rattle.av_trace.specs.declared.reply.Answer.{Answer}
use Rattle.av_trace.specs.declared.command.Command.{Command}
use Rattle.av_trace.specs.declared.command.Command.TheVariants.{Areas as AsksAreas}
use Rattle.av_trace.specs.declared.reply.Answer.TheVariants.{AreaList, Walk, NoWalk, EntryEmpty}
use Rattle.av_trace.specs.declared.reply.Answer.TheVariants.{EntryFrame, EntrySlot, EntryZero}
use Rattle.av_trace.specs.declared.reply.Answer.TheVariants.{Refused, Runs, SlotBad, SlotCount}
use Rattle.av_trace.specs.declared.reply.Answer.TheVariants.{Counted}
use Rattle.av_trace.specs.declared.reply.Errno.TheVariants.{Einval}
use Rattle.av_trace.specs.declared.row.Row.{Row}
use Rattle.av_trace.specs.declared.row.Row.TheVariants.{Run, Area as AreaRow, Entry as EntryRow}
use Rattle.av_trace.specs.declared.reply.Totals.{Totals}
use Rattle.av_trace.specs.Row.{AreRising}
use Rattle.av_vma.specs.declared.area.Area.{Area}
use Rattle.av_vma.specs.Index.{first_of, past_of}
use Rattle.av_vma.specs.Pages.{Pages, pages_in}
use Rattle.av_plain.specs.Areas.{Anons, Areas, chain_by}
use Rattle.av_plain.specs.World.{World, Process, Page}
use Rattle.av_plain.specs.Event.{Event}
use Rattle.av_plain.specs.Ledger.{Entry, InFrame, InSlot, Ledger, Setting, SwapArea, Zero}
use Rattle.av_plain.specs.Ledger.{entry, frame_at, free_frames, free_slots, is_usable, slot_count}
use Rattle.av_plain.specs.Ledger.{is_merged, slot_of, walk}

-- ---- ranges of pages

-- some pages with one protection: from `from` to below `to`
pub record Range : Type 0 where
  pub from : ℕ
  pub to : ℕ
  pub prot : Prot

-- the pages of an area, with their protection
abbrev pub range_of : Area → Range
range_of area = record { from = first_of area; to = past_of area; prot = area.prot }

-- the protection of a page, by the range that holds it
abbrev pub prot_in : List Range → ℕ → Option Prot
prot_in [] page = None
prot_in (r ∷ rs) page =
    if nat_le r.from page && nat_lt page r.to then Some r.prot else prot_in rs page

-- the ranges hold the pages that are mapped, with their protection, and no others
abbrev pub Cover : Process → List Range → Type 0
Cover q rs = (page : ℕ) → prot_in rs page ≡ option_map (λ (p : Page). p.prot) (q page)

-- the ranges rise, none is empty, and no two meet
abbrev pub AreApart : List Range → Type 0
AreApart [] = Unit {0}
AreApart (a ∷ []) = a.from < a.to
AreApart (a ∷ b ∷ areas) = (a.from < a.to) × (a.to ≤ b.from) × AreApart (b ∷ areas)

-- ---- maps

-- no range is empty, they rise, and none begins where the one before ends with the same protection
abbrev pub AreLongest : List Range → Type 0
AreLongest [] = Unit {0}
AreLongest (a ∷ []) = a.from < a.to
AreLongest (a ∷ b ∷ rs) =
    (a.from < a.to) × (a.to ≤ b.from) × (a.to ≡ b.from → a.prot ≡ b.prot → ⊥) × AreLongest (b ∷ rs)

-- the row of a range
abbrev pub row_of : Range → Row
row_of r = Run (address_of r.from) (address_of r.to) r.prot

-- the rows are the longest runs of mapped pages with one protection
abbrev pub AreMaps : Process → List Row → Type 0
AreMaps q rows = (runs : List Range) × (rows ≡ map row_of runs) × AreLongest runs × Cover q runs

-- the answer to `maps`: how many runs there are
abbrev pub ReportsRuns : Process → List Event → Answer → List Row → Type 0
ReportsRuns q events answer rows =
    (answer ≡ Runs (length rows)) × AreMaps q rows × (events ≡ [])

-- ---- areas

-- the pages that the row of an area shows, with their protection; None for any other row
abbrev pub run_of : Row → Option Row
run_of (AreaRow start end prot offset own chain flags) = Some (Run start end prot)
run_of row = None

-- the flags of a page, by the row of the area that holds it
abbrev pub flags_in : List Row → ℕ → Option Flags
flags_in [] page = None
flags_in (AreaRow start end prot offset own chain flags ∷ rows) page =
    if nat_le start (address_of page) && nat_lt (address_of page) end then Some flags
    else flags_in rows page
flags_in (row ∷ rows) page = flags_in rows page

-- the rows show the flags of each page
abbrev pub ShowFlags : Process → List Row → Type 0
ShowFlags q rows = (page : ℕ) → flags_in rows page ≡ option_map (λ (p : Page). p.flags) (q page)

-- the row is that of an area, and its chain rises
abbrev pub HasRisingChain : Row → Type 0
HasRisingChain (AreaRow start end prot offset own chain flags) = AreRising chain
HasRisingChain row = ⊥

-- the rows are of ranges that are apart and cover the pages, with their flags, and have chains that
-- rise; what else they say isn't part of what makes a reply legal
abbrev pub AreAreas : Process → List Row → Type 0
AreAreas q rows = (ranges : List Range) × (map run_of rows ≡ map (λ r. Some (row_of r)) ranges)
    × AreApart ranges × Cover q ranges × ShowFlags q rows × AllByRecursion HasRisingChain rows

-- the answer to `areas`: how many areas there are
abbrev pub ReportsAreas : Process → List Event → Answer → List Row → Type 0
ReportsAreas q events answer rows =
    (answer ≡ AreaList (length rows)) × AreAreas q rows × (events ≡ [])

-- the row of an area, with the chain of its own anon_vma
abbrev pub area_row : Anons → Area → Row
area_row anons area =
    AreaRow area.start area.end area.prot area.pgoff area.anon (chain_by anons area.anon)
    area.flags

-- the rows are those of the areas that these pages have: each once, rising
abbrev pub AreRowsOf : Anons → Pages → List Row → Type 0
AreRowsOf anons on rows = (areas : List Area) × (rows ≡ map (area_row anons) areas)
    × AreApart (map range_of areas) × ((page : ℕ) → pages_in (Some areas) page ≡ on page)

-- an answer to `areas` shows the areas of the process, with all that they say
abbrev pub ShowsAreas : Areas → Anons → Command → Answer → List Row → Type 0
ShowsAreas areas anons (AsksAreas p) (AreaList n) rows = AreRowsOf anons (areas p) rows
ShowsAreas areas anons command answer rows = Unit {0}

-- ---- rmap

-- the row of a key: process and address
abbrev pub key_row : Key → Row
key_row k = EntryRow k.0 (address_of k.1)

-- the frame that an entry names, with how many entries name it; none where it names none
abbrev pub walk_answer : Ledger → Option Entry → Answer
walk_answer l (Some (InFrame f seen)) = Walk f (length (walk l f))
walk_answer l e = NoWalk

-- and the rows of these
abbrev pub walk_rows : Ledger → Option Entry → List Row
walk_rows l (Some (InFrame f seen)) = map key_row (walk l f)
walk_rows l e = []

-- the answer to `rmap`: the walk of the frame of the page's entry
abbrev pub ReportsWalk : Ledger → Key → List Event → Answer → List Row → Type 0
ReportsWalk l key events answer rows =
    (answer ≡ walk_answer l (entry l key)) × (events ≡ []) × (rows ≡ walk_rows l (entry l key))

-- ---- entry

-- what an entry is: a frame with the slot at which it is cached and whether it is merged, a slot
-- with the frame that caches it
abbrev pub entry_answer : Ledger → Option Entry → Answer
entry_answer l None = EntryEmpty
entry_answer l (Some Zero) = EntryZero
entry_answer l (Some (InFrame f seen)) = EntryFrame f seen (slot_of l f) (is_merged l f)
entry_answer l (Some (InSlot s)) = EntrySlot s (frame_at l s)

-- the answer to `entry`: what the page's entry is
abbrev pub ReportsEntry : Ledger → Key → List Event → Answer → List Row → Type 0
ReportsEntry l key events answer rows =
    (answer ≡ entry_answer l (entry l key)) × (events ≡ []) × (rows ≡ [])

-- ---- slot

-- the count of a slot, and the frame that caches it
abbrev pub count_answer : Ledger → Slot → Answer
count_answer l s = SlotCount s (slot_count l s) (frame_at l s)

-- where headers are told, a page of the area that is no slot is bad
abbrev pub slot_answer : Setting → Ledger → Slot → Answer
slot_answer m l s = if is_usable m s then count_answer l s else SlotBad s

-- elsewhere a slot that nothing names may be answered to be bad, or past the end of the area
abbrev pub MayBeNoSlot : Ledger → Slot → Answer → Type 0
MayBeNoSlot l s answer =
    (slot_count l s ≡ 0) × ((answer ≡ SlotBad s) ⊎ (answer ≡ Refused Einval))

-- the answer to `slot`: what the slot is
abbrev pub ReportsSlot : Setting → Ledger → Slot → List Event → Answer → List Row → Type 0
ReportsSlot m l s events answer rows = MatchOption m.headers
    ((answer ≡ count_answer l s) ⊎ MayBeNoSlot l s answer)
    (λ headers. answer ≡ slot_answer m l s)
    × (events ≡ []) × (rows ≡ [])

-- ---- stat

-- the numbers of `stat`; its slots are the usable ones of the swap areas that are on
abbrev pub totals : Setting → World → Ledger → Totals
totals m w l = record {
  frames = m.frames;
  free = length (free_frames m l);
  active = length l.active;
  inactive = length l.inactive;
  flight = length l.flight;
  slots = sum_by (λ (a : ℕ × SwapArea). a.1.slots) l.on;
  free_slots = sum_by (free_slots m l) l.on;
  processes = length w;
}

-- the answer to `stat`
abbrev pub ReportsTotals : Setting → World → Ledger → List Event → Answer → List Row → Type 0
ReportsTotals m w l events answer rows =
    (answer ≡ Counted (totals m w l)) × (events ≡ []) × (rows ≡ [])
