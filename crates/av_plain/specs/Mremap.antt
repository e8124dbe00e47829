-- Mremap: a range of pages grows or shrinks where it is, or moves with what it has.
use Rattle.std.specs.Option.{option_map_or}
use Rattle.std.specs.Prelude.{◌≡◌, ℕ, zero, suc, ◌+◌, ◌-◌, min, nat_le, nat_lt, Bool, true, false}
use Rattle.std.specs.Prelude.{not, ◌&&◌, ◌||◌, ◌==◌, if◌then◌else◌, List, [], ◌∷◌, ◌++◌, Option}
use Rattle.std.specs.Prelude.{Some, None, option_map, MatchBool}
use Rattle.av_base.specs.Limits.{top_page}
use Rattle.av_base.specs.Page.{page_of}
use Rattle.av_base.specs.Words.{within}
use Rattle.av_base.specs.declared.flags.Flags.{Flags}
use Rattle.av_base.specs.declared.prot.Prot.{Prot}
use Rattle.av_trace.specs.declared.mode.Mode.{Mode}
use Rattle.av_trace.specs.declared.mode.Mode.TheVariants.{Plain, MayMove, Fixed, DontUnmap}
use Rattle.av_trace.specs.declared.reply.Answer.{Answer}
use Rattle.av_trace.specs.declared.row.Row.{Row}
use Rattle.av_vma.specs.Gap.{IsGap}
use Rattle.av_vma.specs.Join.{same_prot}
use Rattle.av_vma.specs.Mremap.{after_move, after_resize, pages_left}
use Rattle.av_vma.specs.Pages.{Lengths, Pages}
use Rattle.av_plain.specs.Event.{Event, EntriesMoved, after_all}
use Rattle.av_plain.specs.Ledger.{Ledger}
use Rattle.av_plain.specs.Place.{IsMapAt}
use Rattle.av_plain.specs.World.{Page, Process, is_mapped, meets, wiped, without_lock}
use Rattle.av_plain.specs.Zap.{keys_in, zaps_of}

-- ---- modes

-- the address that a mode names, if it names one
abbrev pub target_of : Mode → Option ℕ
target_of Plain = None
target_of MayMove = None
target_of (Fixed b) = Some b
target_of (DontUnmap b) = b

-- whether the old range stays mapped, with zeros
abbrev pub leaves_old : Mode → Bool
leaves_old Plain = false
leaves_old MayMove = false
leaves_old (Fixed b) = false
leaves_old (DontUnmap b) = true

-- whether n pages become m in place: no mode sends them elsewhere, and they do not grow
abbrev pub is_in_place : Mode → ℕ → ℕ → Bool
is_in_place Plain n m = nat_le m n
is_in_place MayMove n m = nat_le m n
is_in_place (Fixed b) n m = false
is_in_place (DontUnmap b) n m = false

-- ---- the old range

-- whether a page is mapped with this protection
abbrev pub has_prot : Prot → Option Page → Bool
has_prot prot page = option_map_or (λ (p : Page). same_prot p.prot prot) page false

-- whether the n pages from one on are
abbrev pub have_prot : Process → Prot → ℕ → ℕ → Bool
have_prot q prot from zero = true
have_prot q prot from (suc n) = has_prot prot (q from) && have_prot q prot (from + 1) n

-- whether they are mapped, with one protection
abbrev pub have_one_prot : Process → ℕ → ℕ → Bool
have_one_prot q from n = option_map_or (λ (p : Page). have_prot q p.prot from n) (q from) false

-- the protection of a page, if it is mapped
abbrev pub prot_at : Process → ℕ → Option Prot
prot_at q page = option_map (λ (p : Page). p.prot) (q page)

-- its protection and its flags, if it is mapped
abbrev pub marks_at : Process → ℕ → Option (Prot × Flags)
marks_at q page = option_map (λ (p : Page). (p.prot, p.flags)) (q page)

-- ---- where the pages go

-- whether n pages may become m where they are: they do not grow, or the pages by which they grow
-- are free and a process may have them
abbrev pub may_stay : Process → ℕ → ℕ → ℕ → Bool
may_stay q from n m = nat_le m n || (nat_le (from + m) top_page && not (meets q (from + n) (m - n)))

-- the page from which on they stand then, or that there is no room
abbrev pub MovesTo : Process → ℕ → ℕ → ℕ → Mode → Option ℕ → Type 0
MovesTo q from n m Plain to = to ≡ (if may_stay q from n m then Some from else None)
MovesTo q from n m MayMove to =
    MatchBool (may_stay q from n m) (to ≡ Some from) (IsGap (is_mapped q) m to)
MovesTo q from n m (Fixed b) to = to ≡ Some (page_of b)
MovesTo q from n m (DontUnmap (Some b)) to = to ≡ Some (page_of b)
MovesTo q from n m (DontUnmap None) to = IsGap (is_mapped q) m to

-- ---- events

-- the entries of n pages go
abbrev pub range_zaps : Ledger → ℕ → ℕ → ℕ → List Event
range_zaps l p from n = zaps_of l (keys_in l p from n)

-- n pages become m: in place the entries of those past the m go; else those of the target go, then
-- those past the m, and the rest move
abbrev pub remap_events : Ledger → ℕ → ℕ → ℕ → ℕ → ℕ → List Event
remap_events l p from n to m =
    if to == from then range_zaps l p (from + m) (n - m)
    else (let target = range_zaps l p to m in
    let tail = range_zaps (after_all l target) p (from + m) (n - m) in
    target ++ tail ++ EntriesMoved p (min n m) from to ∷ [])

-- nothing happens where there is no room
abbrev pub events_to : Ledger → ℕ → ℕ → ℕ → Option ℕ → ℕ → List Event
events_to l p from n None m = []
events_to l p from n (Some to) m = remap_events l p from n to m

-- what the command does
abbrev pub Remaps : Process → Ledger → ℕ → ℕ → ℕ → ℕ → Mode → List Event → Answer → List Row
    → Type 0
Remaps q l p from n m mode events answer rows =
    (to : Option ℕ) × MovesTo q from n m mode to × IsMapAt answer to
    × (events ≡ events_to l p from n to m) × (rows ≡ [])

-- ---- the memories after it

-- a page of the old range that stays: zeros, and not locked
abbrev pub left_behind : Bool → Option Page → Option Page
left_behind stays page = if stays then option_map (λ p. without_lock (wiped p)) page else None

-- page i of the new range is page i of the old one, or, past it, its last page with zeros; the rest
-- of the old range goes, or stays with zeros
abbrev pub process_after_mremap : ℕ → ℕ → ℕ → ℕ → Bool → Process → Process
process_after_mremap from n to m stays q page =
    if within to m page
    then (if nat_lt (page - to) n then q (from + (page - to))
    else option_map wiped (q (from + n - 1)))
    else (if within from n page then left_behind stays (q page) else q page)

-- ---- the areas after it

-- n pages from one on are mapped anew, if they stay: with the protection and flags that areas had,
-- but not locked
abbrev pub with_old_range : Lengths → ℕ → Pages → ℕ → ℕ → Bool → Pages → Pages
with_old_range long p was from n stays on =
    if stays then pages_left long p was from n on else on

-- the areas of the old range stay or move; then what stays of it gets new ones
abbrev pub after_mremap : Lengths → ℕ → ℕ → ℕ → ℕ → ℕ → Bool → Pages → Pages
after_mremap long p from n to m stays on =
    if to == from then after_resize long from n m on
    else with_old_range long p on from n stays (after_move long from n to m on)
