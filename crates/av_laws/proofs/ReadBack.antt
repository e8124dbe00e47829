-- The numbers of a legal reply are of 64 bits, and its bytes below 256.
pub mod Wide
pub mod Notes
pub mod Counts
pub mod Anons
pub mod InRuns
pub mod AreasOn
pub mod Device
pub mod Few
pub mod OfRuns
pub mod Texts
use Rattle.std.specs.List.{AllByRecursion, range_with_len}
use Rattle.std.specs.Ordering.{nat_cmp, eq_by_cmp}
use Rattle.std.specs.Prelude.{IfSome, MatchBool, MatchOption, sum_by}
use Rattle.std.proofs.Common.{◌≡◌, ◌⊎◌, inl, inr, ℕ, zero, suc, ◌+◌, ◌-◌, ◌^◌, ◌<◌, ◌≤◌, Bool, true, false, cond, not, ◌&&◌, List, [], ◌∷◌, ◌++◌, append-nil, map, take, reverse, length, Option, Some, None, is_some, option_map, refl, sym, ap, subst, ◌∙◌, arith, ◌==◌, nat_lt, nat_le, if◌then◌else◌}
use Rattle.std.proofs.lemmas.Bool.Decides.{nat_tests}
use Rattle.std.proofs.lemmas.List.{length-map}
use Rattle.av_base.specs.Keys.{Key}
use Rattle.av_base.specs.Limits.{most_locked, most_processes, top_page}
use Rattle.av_base.specs.Page.{address_of, page_of, pages_met, pages_of, page_size, place_in_page}
use Rattle.av_base.specs.Words.{within}
use Rattle.av_base.specs.declared.flags.Flag.{Flag}
use Rattle.av_base.specs.declared.flags.Flag.TheVariants.{Locked}
use Rattle.av_base.specs.declared.slot.Slot.{Slot}
use Rattle.av_vma.specs.Gap.{IsGap}
use Rattle.av_swapdev.specs.Device.{most_pages}
use Rattle.av_swapdev.specs.Header.{Layout}
use Rattle.av_trace.specs.declared.command.Command.{Command}
use Rattle.av_trace.specs.declared.command.Command.TheVariants.{Compact, Merge, Spawn, Fork, Exit, Mmap, Mremap, Munmap, Mprotect, Madvise, Mlock, Munlock, Read, Write, Reclaim, Age, Complete, Swapon, Swapoff, Maps, Areas as AsksAreas, Rmap as AsksRmap, Entry as AsksEntry, Slot as AsksSlot, Stat}
use Rattle.av_trace.specs.declared.note.Note.{Note}
use Rattle.av_trace.specs.declared.note.Note.TheVariants.{Aged}
use Rattle.av_trace.specs.declared.mode.Mode.{Mode}
use Rattle.av_trace.specs.declared.mode.Mode.TheVariants.{DontUnmap, Fixed as FixedAt, MayMove, Plain}
use Rattle.av_trace.specs.declared.place.Place.{Place}
use Rattle.av_trace.specs.declared.place.Place.TheVariants.{Auto, At, Fixed, NoReplace}
use Rattle.av_trace.specs.declared.reply.Errno.{Errno}
use Rattle.av_trace.specs.declared.reply.Errno.TheVariants.{Ebusy, Einval, Eio, Enomem, Esrch}
use Rattle.av_trace.specs.declared.reply.OutOf.{OutOf}
use Rattle.av_trace.specs.declared.reply.Reply.{Reply}
use Rattle.av_trace.specs.declared.row.Row.{Row}
use Rattle.av_trace.specs.declared.row.Row.TheVariants.{Run, Entry as EntryRow, Area as AreaRow}
use Rattle.av_trace.specs.declared.reply.Answer.{Answer}
use Rattle.av_trace.specs.declared.reply.Answer.TheVariants.{AreaList, Counted, Done, MapAt, NoFrame, On, Oom, Refused, Runs, SlotBad}
use Rattle.av_trace.specs.Command.{IsInRange}
use Rattle.av_trace.specs.Note.{IsNote, IsSlot}
use Rattle.av_trace.specs.Mode.{IsMode}
use Rattle.av_text.specs.Number.{IsWide}
use Rattle.av_trace.specs.Place.{IsPlace}
use Rattle.av_trace.specs.Reply.{AreCauses, Follow, IfThere, IsAnswer, IsReply}
use Rattle.av_trace.specs.Row.{IsAreaRow, IsEntry, IsRun}
use Rattle.av_plain.specs.Access.{Accesses, End, Stopped, Whole, bytes_before, page_events, pages_of_access, read_answer, stop_answer, write_answer}
use Rattle.av_plain.specs.Advice.{advice_events, flag_of_advice, pages_advised}
use Rattle.av_plain.specs.Lock.{BringsIn, access_of, accesses_of, lock_event, with_lock}
use Rattle.av_plain.specs.Event.{Event, Forked, FreeSorted, after_all, after_notes, note_events, notes_of}
use Rattle.av_plain.specs.Fault.{Denied, Lost, Starved, Stop, is_allowed, permits, sparing}
use Rattle.av_plain.specs.Fork.{inheritance}
use Rattle.av_plain.specs.Ledger.{Entry, InFrame, InSlot, Ledger, Setting, SwapArea, Zero, entry, free_frames, free_slots, is_cached, is_on, is_usable, size_of, slot_count, slot_entries, walk}
use Rattle.av_plain.specs.Map.{zaps_for_place}
use Rattle.av_plain.specs.Merge.{merges}
use Rattle.av_plain.specs.Mremap.{MovesTo, events_to, may_stay}
use Rattle.av_plain.specs.Place.{Goes, IsMapAt, is_room}
use Rattle.av_plain.specs.Reclaim.{from_tail}
use Rattle.av_plain.specs.Refusal.{Refuses, locks_too_many, ends_too_high, no_device_at, refusal, tests}
use Rattle.av_plain.specs.Report.{HasRisingChain, AreApart, AreLongest, Cover, MayBeNoSlot, Range, count_answer, entry_answer, key_row, prot_in, row_of, run_of, slot_answer, totals, walk_answer, walk_rows}
use Rattle.av_plain.specs.Sound.{AllSound}
use Rattle.av_plain.specs.Step.{Follows, IsLegal}
use Rattle.av_plain.specs.Swapoff.{Close, Closed, NoRoom, TurnsOff, Unread, close_answer, sparing_area, turn_off_events}
use Rattle.av_plain.specs.Swapon.{IsByHeader, TurnsOn, header_answer, turn_on_events}
use Rattle.av_plain.specs.World.{Page, Process, World, allows, is_mapped, lives, pages, pages_to_hole, pages_to_locked, with_change_on, with_page_flag}
use Rattle.av_plain.specs.Zap.{keys_in, keys_of_process, zaps_of}
use Rattle.av_plain.proofs.Access.{notes_of-append, notes_of-note_events}
use Rattle.av_plain.proofs.Ledger.Walk.{all-walked, length-walk}
use Rattle.av_plain.proofs.Report.Totals.{frames-add}
use Rattle.av_plain.proofs.World.{pages-set}
use Rattle.av_plain.proofs.Sound.Bound.{map_count-pages, slot_entries-few}
use Rattle.av_laws.specs.ReadBack.{IsSmall, IsSmallArea, IsSmallLayout, IsSmallSetting, IsWideOnAnswer, IsWideRow}
use Rattle.av_laws.proofs.OutOfMemory.{close-adds-up, legal-adds}
use Rattle.av_laws.proofs.ReadBack.Counts.{flight-few, free-few}
use Rattle.av_laws.proofs.ReadBack.Notes.{AreNotes, accesses-fit, ages-fit, completes-fit, empties-fit, merges-fit, moves-fit, outcomes-fit, remap-fits, zaps-fit}
use Rattle.av_laws.proofs.ReadBack.Wide.{IsWideEntry, IsWideKey, IsWideLedger, all-append, all-map, all-reverse, all-take, wide-entry, wide-frame_at, wide-notes, wide-slot_of, wide-sound}

-- what a reply has beside its notes
abbrev Fits : List Event → Answer → List Row → Type 0
Fits events answer rows = IsAnswer answer × Follow answer (notes_of events) rows

fits-by : (events events' : List Event) (answer answer' : Answer) (rows rows' : List Row) → events ≡ events' → answer ≡ answer' → rows ≡ rows' →
    Fits events' answer' rows' → Fits events answer rows
fits-by events events' answer answer' rows rows' e a r h = subst (λ es. Fits es answer rows) (sym e)
    (subst (λ x. Fits events' x rows) (sym a) (subst (Fits events' answer') (sym r) h))

-- the same, with the notes alone
fits-notes : (events : List Event) (answer : Answer) (rows : List Row) → notes_of events ≡ [] → IsAnswer answer →
    Follow answer [] rows → Fits events answer rows
fits-notes events answer rows e a f = (a, subst (λ ns. Follow answer ns rows) (sym e) f)

-- ---- pages

wide-page : (page : ℕ) → page ≤ top_page → IsWide (address_of page)
wide-page page h = omega (arith, h)

-- ---- where an access stops

-- it stops at one of its pages
abbrev StopsIn : (ℕ → Type 0) → End → Type 0
StopsIn P Whole = Unit {0}
StopsIn P (Stopped page stop) = P page

stops-in : (P : ℕ → Type 0) (m : Setting) (w : World) (l : Ledger) (p : ℕ) (pages : List (Bool × ℕ)) (events : List Event) (end : End) →
    AllByRecursion (λ (x : Bool × ℕ). P x.1) pages → Accesses m w l p pages events end → StopsIn P end
stops-in P m w l p [] events end all h = subst (StopsIn P) (sym h.1) tt
stops-in P m w l p (page ∷ rest) events end all (inl h) =
    stops-in P m w (after_all l (page_events page.0 (p, page.1) h.0 None)) p rest h.1 end all.1 h.4
stops-in P m w l p (page ∷ rest) events end all (inr h) = subst (StopsIn P) (sym h.4) all.0

all-pages : (P : ℕ → Type 0) (write : Bool) (from n : ℕ) → ((page : ℕ) → page < from + n → P page) →
    AllByRecursion (λ (x : Bool × ℕ). P x.1) (map (λ page. (write, page)) (range_with_len from n))
all-pages P write from zero each = tt
all-pages P write from (suc n) each = (each from (omega arith), all-pages P write (from + 1) n (λ page below. each page (omega (arith, below))))

-- the bytes before one of the pages of an access of at most a page are few
abbrev FewBefore : ℕ → ℕ → Type 0
FewBefore a page = IsWide (bytes_before a page)

few-before : (a n page : ℕ) → n ≤ page_size → page < page_of a + cond (n == 0) 0 (pages_of (place_in_page a + n)) → FewBefore a page
few-before a n page small below = by (n == 0) below
  where
    by : (b : Bool) → page < page_of a + cond b 0 (pages_of (place_in_page a + n)) → FewBefore a page
    by true h = omega (arith, h)
    by false h = omega (arith, h, small)

access-stops : (m : Setting) (w : World) (l : Ledger) (write : Bool) (p a n : ℕ) (events : List Event) (end : End) → n ≤ page_size →
    Accesses m w l p (pages_of_access write a n) events end → StopsIn (FewBefore a) end
access-stops m w l write p a n events end small h =
    stops-in (FewBefore a) m w l p (pages_of_access write a n) events end
    (all-pages (FewBefore a) write (page_of a) (cond (n == 0) 0 (pages_of (place_in_page a + n))) (λ page below. few-before a n page small below)) h

-- those that are locked, too
all-locked : (q : Process) (from n past : ℕ) → from + n ≤ past → AllByRecursion (λ (x : Bool × ℕ). x.1 < past) (accesses_of q from n)
all-locked q from zero past high = tt
all-locked q from (suc n) past high = all-append (λ (x : Bool × ℕ). x.1 < past) (access_of from (q from)) (accesses_of q (from + 1) n)
    (one (q from)) (all-locked q (from + 1) n past (omega (arith, high)))
  where
    one : (o : Option Page) → AllByRecursion (λ (x : Bool × ℕ). x.1 < past) (access_of from o)
    one None = tt
    one (Some x) = by (allows true x.prot) (allows false x.prot)
      where
        below : from < past
        below = omega (arith, high)

        by : (b c : Bool) → AllByRecursion (λ (x : Bool × ℕ). x.1 < past) (if b then (true, from) ∷ [] else (if c then (false, from) ∷ [] else []))
        by true c = (below, tt)
        by false true = (below, tt)
        by false false = tt

lock-stops : (m : Setting) (w : World) (l : Ledger) (p from n : ℕ) (q : Process) (events : List Event) (end : End) → n ≤ most_locked
    → Accesses m w l p (accesses_of q from n) events end → StopsIn (FewBefore (address_of from)) end
lock-stops m w l p from n q events end few h = few-stop end (stops-in (λ page. page < from + n) m w l p (accesses_of q from n) events end
    (all-locked q from n (from + n) (omega arith)) h)
  where
    few-stop : (end : End) → StopsIn (λ page. page < from + n) end → StopsIn (FewBefore (address_of from)) end
    few-stop Whole below = tt
    few-stop (Stopped page stop) below = omega (arith, few, below)

-- the numbers of an out-of-memory, if the answer is one
abbrev CausesFit : Answer → Type 0
CausesFit answer = (k : ℕ) (out : OutOf) (shown : List ℕ) → answer ≡ Oom k out shown → AreCauses out

-- and those of a swapoff that ends for want of a frame
abbrev CloseFits : Answer → Type 0
CloseFits answer = (out : OutOf) → answer ≡ NoFrame out → AreCauses out

stop-fits : (a page : ℕ) (stop : Stop) (shown : List ℕ) (notes : List Note) → IsWide (bytes_before a page) → AllByRecursion (λ b. b < 2 ^ 8) shown →
    AllByRecursion IsNote notes → CausesFit (stop_answer stop (bytes_before a page) shown)
    → IsAnswer (stop_answer stop (bytes_before a page) shown) × Follow (stop_answer stop (bytes_before a page) shown) notes []
stop-fits a page Denied shown notes few bytes ns out = ((few, bytes), (ns, refl))
stop-fits a page (Starved out) shown notes few bytes ns fit = ((few, fit (bytes_before a page) out shown refl, bytes), (ns, refl))
stop-fits a page Lost shown notes few bytes ns out = ((few, bytes), (ns, refl))

read-fits : (a : ℕ) (end : End) (shown : List ℕ) (notes : List Note) → StopsIn (FewBefore a) end → AllByRecursion (λ b. b < 2 ^ 8) shown →
    AllByRecursion IsNote notes → CausesFit (read_answer a end shown)
    → IsAnswer (read_answer a end shown) × Follow (read_answer a end shown) notes []
read-fits a Whole shown notes few bytes ns out = (bytes, (ns, refl))
read-fits a (Stopped page stop) shown notes few bytes ns out = stop-fits a page stop shown notes few bytes ns out

write-fits : (a : ℕ) (end : End) (notes : List Note) → StopsIn (FewBefore a) end → AllByRecursion IsNote notes → CausesFit (write_answer a end)
    → IsAnswer (write_answer a end) × Follow (write_answer a end) notes []
write-fits a Whole notes few ns out = (tt, (ns, refl))
write-fits a (Stopped page stop) notes few ns out = stop-fits a page stop [] notes few tt ns out

-- ---- maps

-- a page from the top on is in no range
abbrev NoneAbove : List Range → Type 0
NoneAbove rs = (page : ℕ) → top_page ≤ page → prot_in rs page ≡ None

first-below : (a : Range) (rs : List Range) → a.from < a.to → NoneAbove (a ∷ rs) → a.to ≤ top_page
first-below a rs some none = by (nat_le a.to top_page) refl
  where
    inside : (b : Bool) → b ≡ true → (if b then Some a.prot else prot_in rs (a.to - 1)) ≡ None → ⊥
    inside true is h = cc
    inside false is h = cc

    by : (b : Bool) → nat_le a.to top_page ≡ b → a.to ≤ top_page
    by true is = grind (arith, nat_tests, is)
    by false is =
        let above : top_page < a.to = grind (arith, nat_tests, is) in
        absurd (inside (nat_le a.from (a.to - 1) && nat_lt (a.to - 1) a.to) (grind (arith, nat_tests, some)) (none (a.to - 1) (omega (arith, above))))

rest-below : (a : Range) (rs : List Range) → a.to ≤ top_page → NoneAbove (a ∷ rs) → NoneAbove rs
rest-below a rs low none page above = outside (nat_le a.from page && nat_lt page a.to) (grind (arith, nat_tests, low, above)) (none page above)
  where
    outside : (b : Bool) → b ≡ false → (if b then Some a.prot else prot_in rs page) ≡ None → prot_in rs page ≡ None
    outside true is h = cc
    outside false is h = h

run-wide : (a : Range) → a.from < a.to → a.to ≤ top_page → IsRun (row_of a)
run-wide a some low = (wide-page a.from (omega (arith, some, low)), wide-page a.to low)

longest-apart : (rs : List Range) → AreLongest rs → AreApart rs
longest-apart [] h = tt
longest-apart (a ∷ []) h = h
longest-apart (a ∷ b ∷ rs) h = (h.0, h.1, longest-apart (b ∷ rs) h.3)

runs-wide : (rs : List Range) → AreApart rs → NoneAbove rs → AllByRecursion IsRun (map row_of rs)
runs-wide [] h none = tt
runs-wide (a ∷ []) h none = (run-wide a h (first-below a [] h none), tt)
runs-wide (a ∷ b ∷ rs) h none = let low = first-below a (b ∷ rs) h.0 none in
    (run-wide a h.0 low, runs-wide (b ∷ rs) h.2 (rest-below a (b ∷ rs) low none))

few-runs : (a : Range) (rs : List Range) → AreApart (a ∷ rs) → NoneAbove (a ∷ rs) → a.from + length (map row_of (a ∷ rs)) ≤ top_page
few-runs a [] h none = let low = first-below a [] h none in omega (arith, low, h)
few-runs a (b ∷ rs) h none =
    let low = first-below a (b ∷ rs) h.0 none in
    let rest = few-runs b rs h.2 (rest-below a (b ∷ rs) low none) in
    let x = h.0 in
    let y = h.1 in
    omega (arith, rest, x, y)

few-rows : (rs : List Range) → AreApart rs → NoneAbove rs → IsWide (length (map row_of rs))
few-rows [] h none = omega arith
few-rows (a ∷ rs) h none = let few = few-runs a rs h none in omega (arith, few)

-- ---- areas

-- rows of the runs of some ranges, with chains that rise, are as many, and say numbers of 64 bits
areas-wide : (rs : List Range) (rows : List Row) → map run_of rows ≡ map (λ r. Some (row_of r)) rs → AllByRecursion IsRun (map row_of rs) →
    AllByRecursion IsWideRow rows → AllByRecursion HasRisingChain rows
    → (length rows ≡ length (map row_of rs)) × AllByRecursion IsAreaRow rows
areas-wide [] [] is wide said rise = (refl, tt)
areas-wide [] (row ∷ rows) is wide said rise = cc
areas-wide (r ∷ rs) [] is wide said rise = cc
areas-wide (r ∷ rs) (Run start end prot ∷ rows) is wide said rise = cc
areas-wide (r ∷ rs) (EntryRow p address ∷ rows) is wide said rise = cc
areas-wide (r ∷ rs) (AreaRow start end prot offset own chain flags ∷ rows) is wide said rise =
    let tails : map run_of rows ≡ map (λ r. Some (row_of r)) rs = cc in
    let later = areas-wide rs rows tails wide.1 said.1 rise.1 in
    let begins : start ≡ address_of r.from = cc in
    let ends : end ≡ address_of r.to = cc in
    (ap suc later.0, ((subst IsWide (sym begins) wide.0.0, subst IsWide (sym ends) wide.0.1, said.0.0, said.0.1, said.0.2, rise.0), later.1))

covered : (q : Process) (rs : List Range) → Cover q rs → ((page : ℕ) → is_some (q page) ≡ true → page < top_page) → NoneAbove rs
covered q rs cover below page above = cover page ∙ by (q page) refl
  where
    by : (o : Option Page) → q page ≡ o → option_map (λ (p : Page). p.prot) o ≡ None
    by None is = refl
    by (Some x) is = absurd (let low = below page (ap is_some is) in omega (arith, low, above))

inner : {x y : ℕ} → Some x ≡ Some y → x ≡ y
inner e = cc

-- the first address of an address's page is no greater
at_page : (page a : ℕ) → IsWide a → page ≡ page_of a → IsWide (address_of page)
at_page page a wide is = omega (arith, wide, is)

-- ---- a command

-- where a place goes, all pages lie below the top
gap-below : (is_taken : ℕ → Bool) (n page : ℕ) → IsGap is_taken n (Some page) → page ≤ top_page
gap-below is_taken n page gap = let high = gap.0.highest in omega (arith, high)

place-below : (q : Process) (n page : ℕ) (place : Place) → IsPlace place → Goes q n place (Some page) → IsWide (address_of page)
place-below q n page Auto wide h = wide-page page (gap-below (is_mapped q) n page h)
place-below q n page (At a) wide h = by (is_room q n (page_of a)) h
  where
    by : (b : Bool) → MatchBool b (Some page ≡ Some (page_of a)) (IsGap (is_mapped q) n (Some page)) → IsWide (address_of page)
    by true e = at_page page a wide (inner e)
    by false gap = wide-page page (gap-below (is_mapped q) n page gap)
place-below q n page (Fixed a) wide h = at_page page a wide (inner h)
place-below q n page (NoReplace a) wide h = at_page page a wide (inner h)

-- so is the address to which an mremap goes
remap-below : (q : Process) (a n m page : ℕ) (mode : Mode) → IsWide a → IsMode mode → MovesTo q (page_of a) n m mode (Some page)
    → IsWide (address_of page)
remap-below q a n m page Plain wide fits h = by (may_stay q (page_of a) n m) h
  where
    by : (b : Bool) → Some page ≡ cond b (Some (page_of a)) None → IsWide (address_of page)
    by true e = at_page page a wide (inner e)
    by false e = cc
remap-below q a n m page MayMove wide fits h = by (may_stay q (page_of a) n m) h
  where
    by : (b : Bool) → MatchBool b (Some page ≡ Some (page_of a)) (IsGap (is_mapped q) m (Some page)) → IsWide (address_of page)
    by true e = at_page page a wide (inner e)
    by false gap = wide-page page (gap-below (is_mapped q) m page gap)
remap-below q a n m page (FixedAt b) wide fits h = at_page page b fits (inner h)
remap-below q a n m page (DontUnmap (Some b)) wide fits h = at_page page b fits (inner h)
remap-below q a n m page (DontUnmap None) wide fits h = wide-page page (gap-below (is_mapped q) m page h)

-- where areas are asked, what their rows say beside pages is of 64 bits
abbrev pub AskedWide : Command → List Row → Type 0
AskedWide (AsksAreas p) rows = AllByRecursion IsWideRow rows
AskedWide command rows = Unit {0}

pub asked-wide : (command : Command) (rows : List Row) → AllByRecursion IsWideRow rows → AskedWide command rows
asked-wide (AsksAreas p) rows h = h
asked-wide command rows h = tt

-- and where an area is turned on, what is answered where no header tells it
abbrev pub AskedOn : Setting → Command → Answer → Type 0
AskedOn m (Swapon k priority) answer = IsWideOnAnswer m answer
AskedOn m command answer = Unit {0}

pub asked-on : (m : Setting) (command : Command) (answer : Answer) → IsWideOnAnswer m answer → AskedOn m command answer
asked-on m (Swapon k priority) answer h = h
asked-on m command answer h = tt

-- ---- walks

-- each row of a walk is of a process and a page that are mapped
keys-fit : (ks : List Key) → AllByRecursion (λ (k : Key). IsWide k.0 × (k.1 < top_page)) ks → AllByRecursion IsEntry (map key_row ks)
keys-fit [] h = tt
keys-fit (k ∷ ks) h = let below = h.0.1 in ((h.0.0, wide-page k.1 (omega (arith, below))), keys-fit ks h.1)

walk-fits : (m : Setting) (w : World) (l : Ledger) → AllSound m w l → IsSmall w l → (e : Option Entry) → IfThere IsWideEntry e →
    Fits [] (walk_answer l e) (walk_rows l e)
walk-fits m w l s small None fits = (tt, (tt, refl))
walk-fits m w l s small (Some Zero) fits = (tt, (tt, refl))
walk-fits m w l s small (Some (InFrame f seen)) fits =
    let few = map_count-pages m w l f s small.below in
    let long = length-walk l f in (
      (fits, omega (arith, few, long)),
      (
        refl,
        sym (length-map (walk l f) key_row),
        keys-fit (walk l f) (all-walked (λ q. IsWide q.0 × (q.1 < top_page)) l f s.ledger.in_order
            (λ q there. let mapped = s.at_pages q.0 q.1 there in (small.processes q.0 q.1 mapped, small.below q.0 q.1 mapped))),
      ),
    )
walk-fits m w l s small (Some (InSlot t)) fits = (tt, (tt, refl))

-- ---- entries and slots

entry-fits : (m : Setting) (l : Ledger) → IsWideLedger m l → (e : Option Entry) → IfThere IsWideEntry e → Fits [] (entry_answer l e) []
entry-fits m l wide None fits = (tt, (tt, refl))
entry-fits m l wide (Some Zero) fits = (tt, (tt, refl))
entry-fits m l wide (Some (InFrame f seen)) fits = ((fits, wide-slot_of m l f wide), (tt, refl))
entry-fits m l wide (Some (InSlot t)) fits = ((fits, wide-frame_at m l t wide), (tt, refl))

slot-fits : (m : Setting) (w : World) (l : Ledger) (t : Slot) (answer : Answer) → AllSound m w l → IsWideLedger m l → IsSlot t
    → MatchOption m.headers ((answer ≡ count_answer l t) ⊎ MayBeNoSlot l t answer) (λ headers. answer ≡ slot_answer m l t) → Fits [] answer []
slot-fits m w l t answer s wide fits h = by m.headers h
  where
    few : IsWide (slot_count l t)
    few = let most = slot_entries-few m w l t s in counted (is_cached l t) most
      where
        counted : (b : Bool) → slot_entries l t ≤ most_processes → IsWide (slot_entries l t + cond b 1 0)
        counted true most = omega (arith, most)
        counted false most = omega (arith, most)

    is_this : (said : Answer) → answer ≡ said → Fits [] said [] → Fits [] answer []
    is_this said e = fits-by [] [] answer said [] [] refl e refl

    counts : Fits [] (count_answer l t) []
    counts = ((fits, few, wide-frame_at m l t wide), (tt, refl))

    told : (b : Bool) → Fits [] (cond b (count_answer l t) (SlotBad t)) []
    told true = counts
    told false = (fits, (tt, refl))

    by : (o : Option (ℕ → Option Layout)) → MatchOption o ((answer ≡ count_answer l t) ⊎ MayBeNoSlot l t answer)
        (λ headers. answer ≡ slot_answer m l t) → Fits [] answer []
    by (Some headers) e = is_this (slot_answer m l t) e (told (is_usable m t))
    by None (inl e) = is_this (count_answer l t) e counts
    by None (inr (unused, inl e)) = is_this (SlotBad t) e (fits, (tt, refl))
    by None (inr (unused, inr e)) = is_this (Refused Einval) e (tt, (tt, refl))

-- ---- swap areas

-- a swapon that isn't refused is of an area with pages
pub has-pages : (m : Setting) (w : World) (l : Ledger) (k : ℕ) (priority : Option ℕ) → refusal (tests m w l (Swapon k priority)) ≡ None
    → 0 < size_of m k
has-pages m w l k priority fine = by (no_device_at m k) (is_on l k) (size_of m k) fine
  where
    by : (a b : Bool) (n : ℕ) → cond a (Some Einval) (cond b (Some Ebusy) (cond (n == 0) (Some Einval) None)) ≡ None → 0 < n
    by true b n h = cc
    by false true n h = cc
    by false false zero h = cc
    by false false (suc n) h = omega arith

-- a header that is told, or what is answered without one
turned-on-fits : (m : Setting) (k : ℕ) (priority : Option ℕ) (events : List Event) (answer : Answer) (rows : List Row) → IsSmallArea m k
    → IsWideOnAnswer m answer → TurnsOn m k priority events answer rows → Fits events answer rows
turned-on-fits m k priority events answer rows few on h = by m.headers refl h.0
  where
    is_this : (said : Answer) → answer ≡ said → notes_of (turn_on_events k priority said) ≡ [] → IsAnswer said
        → Follow said [] [] → Fits events answer rows
    is_this said e quiet fits follow = fits-by events (turn_on_events k priority said) answer said rows []
        (h.1 ∙ ap (turn_on_events k priority) e) e h.2 (fits-notes (turn_on_events k priority said) said [] quiet fits follow)

    of_header : (headers : ℕ → Option Layout) → m.headers ≡ Some headers → (o : Option Layout) → headers k ≡ o → answer ≡ header_answer o
        → Fits events answer rows
    of_header headers told None is e = is_this (Refused Einval) e refl tt (tt, refl)
    of_header headers told (Some h) is e =
        let most : IsSmallLayout h = subst (λ o. IfSome o IsSmallLayout) is
        (subst (λ o. IfSome {T = ℕ → Option Layout} o (λ headers. IfSome (headers k) IsSmallLayout)) told few.header) in
        is_this (On h.slots (length h.bad)) e refl (omega (arith, most), omega (arith, most)) (tt, refl)

    by : (o : Option (ℕ → Option Layout)) → m.headers ≡ o → (answer ≡ Refused Eio) ⊎ IsByHeader o k answer → Fits events answer rows
    by o told (inl e) = is_this (Refused Eio) e refl tt (tt, refl)
    by (Some headers) told (inr e) = of_header headers told (headers k) refl e
    by None told (inr (inl e)) = is_this (Refused Einval) e refl tt (tt, refl)
    by None told (inr (inr q)) = is_this (On q.0 q.1) q.3 refl
        (subst (λ o. MatchOption {T = ℕ → Option Layout} o (IsWide q.0 × IsWide q.1) (λ _. Unit {0})) told (subst (IsWideOnAnswer m) q.3 on)) (tt, refl)

close-fits : (end : Close) → CloseFits (close_answer end) → (notes : List Note) → AreNotes notes
    → IsAnswer (close_answer end) × Follow (close_answer end) notes []
close-fits Closed out notes fits = (tt, (fits, refl))
close-fits (NoRoom numbers) out notes fits = (out numbers refl, (fits, refl))
close-fits Unread out notes fits = (tt, (fits, refl))

turned-off-fits : (m : Setting) (w : World) (l : Ledger) (k : ℕ) (events : List Event) (answer : Answer) (rows : List Row) → IsWide m.frames
    → IsWideLedger m l → is_on l k ≡ true → CloseFits answer → TurnsOff m w l k events answer rows → Fits events answer rows
turned-off-fits m w l k events answer rows frames wide on out h =
    let done = completes-fit l l.flight h.done wide.flight h.completes in
    let rest = empties-fit m frames w k slot (after_notes l h.done) h.pages h.notes h.end
    (wide-notes m l h.done done wide) h.empties in
    let noted = quiet h.end in
    subst (λ a. IsAnswer a × Follow a (notes_of events) rows) (sym h.answered)
    (subst (λ r. IsAnswer (close_answer h.end) × Follow (close_answer h.end) (notes_of events) r) (sym h.no_rows)
    (close-fits h.end (subst CloseFits h.answered out) (notes_of events)
    (subst (λ es. AreNotes (notes_of es)) (sym h.whole) (subst AreNotes (sym noted) (all-append IsNote h.done h.notes done rest)))))
  where
    slot : (page : ℕ) → page < size_of m k → IsSlot (record { area = k; page = page })
    slot page low = wide.given (record { area = k; page = page }) (both (is_on l k) (nat_lt page (size_of m k)) on (grind (arith, nat_tests, low)))
      where
        both : (a b : Bool) → a ≡ true → b ≡ true → (a && b) ≡ true
        both true true h i = refl
        both true false h i = cc
        both false b h i = cc

    quiet : (end : Close) → notes_of (note_events (h.done ++ h.notes) ++ turn_off_events k end) ≡ h.done ++ h.notes
    quiet end = notes_of-append (note_events (h.done ++ h.notes)) (turn_off_events k end)
        ∙ (λ i. notes_of-note_events (h.done ++ h.notes) i ++ none end i) ∙ append-nil (h.done ++ h.notes)
      where
        none : (end : Close) → notes_of (turn_off_events k end) ≡ []
        none Closed = refl
        none (NoRoom out) = refl
        none Unread = refl

-- ---- each command

-- what each command's reply says fits, where the state is small and its numbers are of 64 bits
module _ (m : Setting) (w : World) (l : Ledger) (few : IsSmallSetting m) (s : AllSound m w l) (small : IsSmall w l) where
  wide : IsWideLedger m l
  wide = wide-sound m w l few s small

  -- a page that may be accessed is mapped
  key-fits : (p : ℕ) (write : Bool) (page : ℕ) → is_allowed w write (p, page) ≡ true → IsWideKey (p, page)
  key-fits p write page is = by (pages w p page) refl is
    where
      by : (o : Option Page) → pages w p page ≡ o → permits write o ≡ true → IsWideKey (p, page)
      by None at h = cc
      by (Some x) at h =
          let mapped = ap is_some at in
          let low = small.below p page mapped in
          (small.processes p page mapped, omega (arith, low))

  -- so is one of those that are locked
  locked-fits : (p from n : ℕ) (write : Bool) (page : ℕ) → is_allowed (with_lock true w p from n) write (p, page) ≡ true → IsWideKey (p, page)
  locked-fits p from n write page is = by (eq_by_cmp nat_cmp p p) (within from (pages_to_hole (pages w p) from n) page) (pages w p page) refl
      (ap (permits write) (sym (pages-set w p
      (with_change_on (pages w p) from (pages_to_hole (pages w p) from n) (with_page_flag Locked true)) p page)) ∙ is)
    where
      by : (b c : Bool) (o : Option Page) → pages w p page ≡ o
          → permits write (cond b (if c then option_map (with_page_flag Locked true) o else o) o) ≡ true → IsWideKey (p, page)
      by true true None at h = cc
      by true false None at h = cc
      by false c None at h = cc
      by b c (Some x) at h =
          let mapped = ap is_some at in
          let low = small.below p page mapped in
          (small.processes p page mapped, omega (arith, low))

  from-tail : (n : ℕ) (fs : List ℕ) → AllByRecursion IsWide fs → AllByRecursion IsWide (from_tail n fs)
  from-tail n fs fit = all-take IsWide n (reverse fs) (all-reverse IsWide fs fit)

  follows-fit : (command : Command) (events : List Event) (answer : Answer) (rows : List Row) → IsInRange command
      → refusal (tests m w l command) ≡ None → CausesFit answer → CloseFits answer → AskedWide command rows → AskedOn m command answer
      → Follows m w l command events answer rows → Fits events answer rows
  follows-fit (Spawn p) events answer rows fit fine out close asked on h = fits-by events [] answer Done rows [] h.1 h.0 h.2 (tt, (tt, refl))
  follows-fit (Fork p q) events answer rows fit fine out close asked on h =
      fits-by events (Forked p q (inheritance (pages w p) l p) ∷ []) answer Done rows [] h.1 h.0 h.2 (tt, (tt, refl))
  follows-fit (Exit p) events answer rows fit fine out close asked on h =
      fits-by events (zaps_of l (keys_of_process l p)) answer Done rows [] h.1 h.0 h.2 (tt, (zaps-fit m l (keys_of_process l p) wide, refl))
  follows-fit (Mmap p len prot place) events answer rows fit fine out close asked on h = by h.0 h.1 h.2
    where
      noted : (place : Place) → AreNotes (notes_of (zaps_for_place l p (pages_of len) place))
      noted Auto = tt
      noted (At a) = tt
      noted (Fixed a) = zaps-fit m l (keys_in l p (page_of a) (pages_of len)) wide
      noted (NoReplace a) = tt

      by : (to : Option ℕ) → Goes (pages w p) (pages_of len) place to → IsMapAt answer to → Fits events answer rows
      by None goes e = fits-by events (zaps_for_place l p (pages_of len) place) answer (Refused Enomem) rows [] h.3 e h.4
          (tt, (noted place, refl))
      by (Some page) goes e = fits-by events (zaps_for_place l p (pages_of len) place) answer (MapAt (address_of page)) rows [] h.3 e h.4
          (place-below (pages w p) (pages_of len) page place fit.2 goes, (noted place, refl))
  follows-fit (Munmap p a len) events answer rows fit fine out close asked on h =
      fits-by events (zaps_of l (keys_in l p (page_of a) (pages_of len))) answer Done rows [] h.1 h.0 h.2
      (tt, (zaps-fit m l (keys_in l p (page_of a) (pages_of len)) wide, refl))
  follows-fit (Mprotect p a len prot) events answer rows fit fine out close asked on h =
      fits-by events [] answer _ rows [] h.1 h.0 h.2 (by (pages_to_hole (pages w p) (page_of a) (pages_of len) == pages_of len))
    where
      by : (b : Bool) → Fits [] (if b then Done else Refused Enomem) []
      by true = (tt, (tt, refl))
      by false = (tt, (tt, refl))
  follows-fit (Mremap p a old new mode) events answer rows fit fine out close asked on h = by h.0 h.1 h.2 h.3
    where
      these : Option ℕ → List Event
      these to = events_to l p (page_of a) (pages_of old) to (pages_of new)

      by : (to : Option ℕ) → MovesTo (pages w p) (page_of a) (pages_of old) (pages_of new) mode to → IsMapAt answer to → events ≡ these to
          → Fits events answer rows
      by None goes e es = fits-by events (these None) answer (Refused Enomem) rows [] es e h.4 (tt, (tt, refl))
      by (Some page) goes e es = fits-by events (these (Some page)) answer (MapAt (address_of page)) rows [] es e h.4 (
        remap-below (pages w p) a (pages_of old) (pages_of new) page mode fit.1 fit.4 goes,
        (remap-fits m l p (page_of a) (pages_of old) page (pages_of new) wide, refl),
      )
  follows-fit (Madvise p a len advice) events answer rows fit fine out close asked on h =
      fits-by events (these (flag_of_advice advice)) answer _ rows [] h.1 h.0 h.2
      (by (nat_lt (pages_advised (pages w p) (page_of a) (pages_of len) (flag_of_advice advice)) (pages_of len))
      (pages_to_hole (pages w p) (page_of a) (pages_of len) == pages_of len))
    where
      these : Option (Flag × Bool) → List Event
      these change = advice_events l p (page_of a) (pages_advised (pages w p) (page_of a) (pages_of len) change) change

      noted : (change : Option (Flag × Bool)) → AreNotes (notes_of (these change))
      noted None = zaps-fit m l (keys_in l p (page_of a) (pages_to_locked (pages w p) (page_of a) (pages_of len))) wide
      noted (Some change) = tt

      by : (b c : Bool) → Fits (these (flag_of_advice advice)) (if b then Refused Einval else (if c then Done else Refused Enomem)) []
      by true c = (tt, (noted (flag_of_advice advice), refl))
      by false true = (tt, (noted (flag_of_advice advice), refl))
      by false false = (tt, (noted (flag_of_advice advice), refl))
  follows-fit (Mlock p a len) events answer rows fit fine out close asked on h =
      by (pages_to_hole (pages w p) (page_of a) (pages_met a len) == pages_met a len) h.3
    where
      few_pages : (b d e : Bool) → cond (not b) (Some Esrch) (cond d (Some Einval) (cond e (Some Enomem) None)) ≡ None → e ≡ false
      few_pages false d e h = cc
      few_pages true true e h = cc
      few_pages true false true h = cc
      few_pages true false false h = refl

      few_met : (n : ℕ) → nat_lt most_locked n ≡ false → n ≤ most_locked
      few_met n h = grind (arith, nat_tests, h)

      event : Event
      event = lock_event true (pages w p) p (page_of a) (pages_met a len)

      by : (b : Bool) → MatchBool b (BringsIn m w l p (page_of a) (pages_met a len) h.0 answer) ((h.0 ≡ []) × (answer ≡ Refused Enomem))
          → Fits events answer rows
      by true q = fits-by events (event ∷ h.0) answer (write_answer (address_of (page_of a)) q.0) rows [] h.1 q.2 h.2
          (write-fits (address_of (page_of a)) q.0 (notes_of h.0)
          (lock-stops m (with_lock true w p (page_of a) (pages_met a len)) l p (page_of a) (pages_met a len) (pages w p) h.0 q.0
          (few_met (pages_met a len) (few_pages (lives w p) (ends_too_high a len) (locks_too_many a len) fine)) q.1)
          (accesses-fit m few.frames (with_lock true w p (page_of a) (pages_met a len)) p (locked-fits p (page_of a) (pages_met a len)) l
          (accesses_of (pages w p) (page_of a) (pages_met a len)) h.0 q.0 wide q.1) (subst CausesFit q.2 out))
      by false q = fits-by events (event ∷ h.0) answer (Refused Enomem) rows [] h.1 q.1 h.2
          (tt, (subst (λ es. AreNotes (notes_of es)) (sym q.0) tt, refl))
  follows-fit (Munlock p a len) events answer rows fit fine out close asked on h =
      fits-by events (lock_event false (pages w p) p (page_of a) (pages_met a len) ∷ []) answer _ rows [] h.1 h.0 h.2
      (by (pages_to_hole (pages w p) (page_of a) (pages_met a len) == pages_met a len))
    where
      by : (b : Bool) → Fits (lock_event false (pages w p) p (page_of a) (pages_met a len) ∷ []) (if b then Done else Refused Enomem) []
      by true = (tt, (tt, refl))
      by false = (tt, (tt, refl))
  follows-fit (Read p a n) events answer rows fit fine out close asked on h =
      fits-by events events answer (read_answer a h.0 h.1) rows [] refl h.4 h.5
      (read-fits a h.0 h.1 (notes_of events) (access-stops m w l false p a n events h.0 fit.2.most h.2) h.3.2
      (accesses-fit m few.frames w p (key-fits p) l (pages_of_access false a n) events h.0 wide h.2) (subst CausesFit h.4 out))
  follows-fit (Write p a bytes) events answer rows fit fine out close asked on h =
      fits-by events events answer (write_answer a h.0) rows [] refl h.2 h.3
      (write-fits a h.0 (notes_of events) (access-stops m w l true p a (length bytes) events h.0 fit.2.0.most h.1)
      (accesses-fit m few.frames w p (key-fits p) l (pages_of_access true a (length bytes)) events h.0 wide h.1) (subst CausesFit h.2 out))
  follows-fit (Reclaim n) events answer rows fit fine out close asked on h =
      fits-by events (note_events h.0) answer Done rows [] h.3 h.2 h.4 (
        tt,
        (
          subst AreNotes (sym (notes_of-note_events h.0)) (outcomes-fit m (sparing w l None) l (from_tail n l.inactive) h.0 wide
              (from-tail n l.inactive wide.inactive) h.1),
          refl,
        ),
      )
  follows-fit (Age n) events answer rows fit fine out close asked on h =
      fits-by events (note_events (map Aged (from_tail n l.active))) answer Done rows [] h.1 h.0 h.2 (
        tt,
        (
          subst AreNotes (sym (notes_of-note_events (map Aged (from_tail n l.active))))
              (ages-fit (from_tail n l.active) (from-tail n l.active wide.active)),
          refl,
        ),
      )
  follows-fit (Complete n) events answer rows fit fine out close asked on h =
      fits-by events (note_events h.0) answer Done rows [] h.3 h.2 h.4 (
        tt,
        (
          subst AreNotes (sym (notes_of-note_events h.0)) (completes-fit l (take n l.flight) h.0 (all-take IsSlot n l.flight wide.flight) h.1),
          refl,
        ),
      )
  follows-fit (Swapon k priority) events answer rows fit fine out close asked on h =
      turned-on-fits m k priority events answer rows (few.areas k (has-pages m w l k priority fine)) on h
  follows-fit (Swapoff k) events answer rows fit fine out close asked on h =
      turned-off-fits m w l k events answer rows few.frames wide (is_on_now (is_on l k) fine) close h
    where
      is_on_now : (b : Bool) → cond (not b) (Some Einval) None ≡ None → b ≡ true
      is_on_now true h = refl
      is_on_now false h = cc
  follows-fit Merge events answer rows fit fine out close asked on h =
      let notes = merges m h.0 w l [] (map (λ e. e.0) l.entries) in
      fits-by events (note_events notes) answer Done rows [] h.2 h.3 h.4 (
        tt,
        (
          subst AreNotes (sym (notes_of-note_events notes)) (merges-fit m h.0 w l [] (map (λ e. e.0) l.entries) few.frames
              (all-map (λ (e : Key × Entry). IsWideKey e.0 × IsWideEntry e.1) IsWideKey (λ (e : Key × Entry). e.0) (λ e a. a.0) l.entries wide.entries)
              tt wide),
          refl,
        ),
      )
  follows-fit Compact events answer rows fit fine out close asked on h =
      fits-by events (note_events h.0 ++ FreeSorted ∷ []) answer Done rows [] h.2 h.3 h.4 (
        tt,
        (
          subst AreNotes (sym (notes_of-append (note_events h.0) (FreeSorted ∷ []) ∙ append-nil (notes_of (note_events h.0)) ∙ notes_of-note_events h.0))
              (moves-fit m l h.0 few.frames h.1),
          refl,
        ),
      )
  follows-fit (Maps p) events answer rows fit fine out close asked on h =
      let runs = h.1.0 in
      let high = covered (pages w p) runs h.1.3 (small.below p) in
      fits-by events [] answer (Runs (length (map row_of runs))) rows (map row_of runs) h.2 (h.0 ∙ ap (λ rs. Runs (length rs)) h.1.1) h.1.1
      (few-rows runs (longest-apart runs h.1.2) high, (refl, refl, runs-wide runs (longest-apart runs h.1.2) high))
  follows-fit (AsksAreas p) events answer rows fit fine out close asked on h =
      let ranges = h.1.0 in
      let high = covered (pages w p) ranges h.1.3 (small.below p) in
      let rest = areas-wide ranges rows h.1.1 (runs-wide ranges h.1.2 high) asked h.1.5 in
      fits-by events [] answer (AreaList (length rows)) rows rows h.2 h.0 refl
      (subst IsWide (sym rest.0) (few-rows ranges h.1.2 high), (refl, refl, rest.1))
  follows-fit (AsksRmap p a) events answer rows fit fine out close asked on h =
      let e = entry l (p, page_of a) in
      fits-by events [] answer (walk_answer l e) rows (walk_rows l e) h.1 h.0 h.2
      (walk-fits m w l s small e (wide-entry m l (p, page_of a) wide))
  follows-fit (AsksEntry p a) events answer rows fit fine out close asked on h =
      let e = entry l (p, page_of a) in
      fits-by events [] answer (entry_answer l e) rows [] h.1 h.0 h.2 (entry-fits m l wide e (wide-entry m l (p, page_of a) wide))
  follows-fit (AsksSlot k page) events answer rows fit fine out close asked on h =
      let area = fit.0.most in
      let high = fit.1.most in
      fits-by events [] answer answer rows [] h.1 refl h.2
      (slot-fits m w l (record { area = k; page = page }) answer s wide (omega (arith, area), omega (arith, high)) h.0)
  follows-fit Stat events answer rows fit fine out close asked on h =
      fits-by events [] answer (Counted (totals m w l)) rows [] h.1 h.0 h.2 (
        record {
          frames = frames;
          free = omega (arith, sums, frames);
          active = omega (arith, sums, frames);
          inactive = omega (arith, sums, frames);
          flight = omega (arith, flight, frames);
          slots = slots;
          free_slots = omega (arith, free, slots);
          processes = omega (arith, processes);
        },
        (tt, refl),
      )
    where
      frames : m.frames < 2 ^ 64
      frames = few.frames

      processes : length w ≤ 4096
      processes = s.world.few

      sums : length (free_frames m l) + length l.active + length l.inactive ≡ m.frames
      sums = frames-add m l s.ledger

      flight : length l.flight ≤ m.frames
      flight = flight-few m l s.ledger

      slots : sum_by (λ (a : ℕ × SwapArea). a.1.slots) l.on < 2 ^ 64
      slots = small.slots

      free : sum_by (free_slots m l) l.on ≤ sum_by (λ (a : ℕ × SwapArea). a.1.slots) l.on
      free = free-few m l l.on

  -- a legal reply is of the forms that are read back
  pub legal-reads_back : (command : Command) (reply : Reply) (events : List Event) → IsInRange command → AskedWide command reply.rows
      → AskedOn m command reply.answer → IsLegal m w l command reply events → IsReply reply
  legal-reads_back command reply events fit asked on legal =
      let f = by (refusal (tests m w l command)) refl legal.answer in
      record { answer = f.0; rest = subst (λ ns. Follow reply.answer ns reply.rows) (sym legal.notes) f.1 }
    where
      causes : (numbers : OutOf) → numbers.pinned + numbers.locked + numbers.ksm + numbers.noslot + numbers.fault ≡ m.frames → AreCauses numbers
      causes numbers sum = let frames : m.frames < 2 ^ 64 = few.frames in
          (omega (arith, sum, frames), omega (arith, sum, frames), omega (arith, sum, frames), omega (arith, sum, frames), omega (arith, sum, frames))

      out : CausesFit reply.answer
      out k numbers shown is = causes numbers (legal-adds m w l command reply events k numbers shown s legal is)

      close : CloseFits reply.answer
      close numbers is = causes numbers (close-adds-up m w l command reply events numbers s legal is)

      by : (o : Option Errno) → refusal (tests m w l command) ≡ o → MatchOption o (Follows m w l command events reply.answer reply.rows)
          (λ error. Refuses error events reply.answer reply.rows) →
          Fits events reply.answer reply.rows
      by None is h = follows-fit command events reply.answer reply.rows fit is out close asked on h
      by (Some error) is h = fits-by events [] reply.answer (Refused error) reply.rows [] h.1 h.0 h.2 (tt, (tt, refl))
