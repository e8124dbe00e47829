-- What holds of sound memories and a sound ledger holds after every legal reply, and so in every run.
pub mod Counts
pub mod Entries
pub mod Changes
pub mod Cache
pub mod Flight
pub mod Sharing
pub mod Steps
pub mod Pass
pub mod Reclaim
pub mod Access
pub mod Pages
pub mod There
pub mod Swap
pub mod Frames
pub mod Zap
pub mod Fork
pub mod Mremap
pub mod Bound
pub mod Means
use Rattle.std.proofs.Common.{◌≡◌, ℕ, zero, suc, ◌+◌, ◌-◌, ◌<◌, ◌≤◌, Bool, true, false, cond, not, ◌&&◌, T, List, [], ◌∷◌, length, Option, Some, None, is_some, option_map, refl, sym, ap, subst, ◌∙◌, arith, ◌==◌, nat_le, if◌then◌else◌}
use Rattle.std.proofs.lemmas.Bool.Decides.{nat_tests}
use Rattle.std.specs.Prelude.{MatchOption, option_and_then}
use Rattle.std.specs.Ordering.{nat_cmp, is_lt, eq_by_cmp}
use Rattle.std.specs.FinMap.Entries.{find, is_sorted, below_all}
use Rattle.std.specs.Option.{option_map_or, option_or}
use Rattle.av_trace.specs.declared.command.Command.{Command}
use Rattle.av_trace.specs.declared.command.Command.TheVariants.{Spawn, Fork as AsksFork, Exit, Mmap, Mremap as AsksMremap, Munmap, Mprotect, Madvise, Mlock, Munlock, Read, Write, Reclaim as AsksReclaim, Age, Complete, Swapon, Swapoff, Maps, Areas as AsksAreas, Rmap as AsksRmap, Entry as AsksEntry, Slot as AsksSlot, Stat}
use Rattle.av_trace.specs.declared.place.Place.{Place}
use Rattle.av_trace.specs.declared.place.Place.TheVariants.{Auto, At, Fixed, NoReplace}
use Rattle.av_trace.specs.declared.reply.Errno.{Errno}
use Rattle.av_trace.specs.declared.reply.Errno.TheVariants.{Ebusy, Einval, Esrch, Eagain, Enomem, Eexist}
use Rattle.av_trace.specs.declared.row.Row.{Row}
use Rattle.av_trace.specs.declared.reply.Reply.{Reply}
use Rattle.av_trace.specs.declared.reply.Answer.{Answer}
use Rattle.av_trace.specs.declared.reply.Answer.TheVariants.{Done, Refused}
use Rattle.av_trace.specs.declared.note.Note.TheVariants.{Aged, Copied, Dropped, Failed, Kept, Loaded, Mapped, New, Put, Started, Unmapped, Written, Zeroed}
use Rattle.av_base.specs.Limits.{most_processes}
use Rattle.av_base.specs.Page.{address_of, page_of, pages_met, pages_of}
use Rattle.av_base.specs.Words.{is_in, within}
use Rattle.av_base.specs.declared.flags.Flag.{Flag}
use Rattle.av_base.specs.declared.flags.Flag.TheVariants as flags
use Rattle.av_base.specs.declared.flags.Flags.{Flags}
use Rattle.av_base.specs.declared.prot.Prot.{Prot}
use Rattle.av_base.specs.declared.slot.Slot.{Slot}
use Rattle.av_plain.specs.Access.{Accesses, End, Stopped, Whole, after_write, first_bytes, pages_of_access, write_answer}
use Rattle.av_plain.specs.Advice.{advice_events, advised, flag_of_advice, pages_advised, with_advice}
use Rattle.av_plain.specs.Fault.{Denied, Lost, Starved}
use Rattle.av_plain.specs.Fork.{goes_over, inheritance}
use Rattle.av_plain.specs.Lock.{BringsIn, accesses_of, lock_event, with_lock}
use Rattle.av_plain.specs.Event.{Event, FlagSet, Forked, EntriesMoved, Noted, TurnedOff, TurnedOn, Used, Zapped, after, after_all, without_seen}
use Rattle.av_plain.specs.Ledger.{Entry, Ledger, Setting, entry, first_ledger, is_on, size_of}
use Rattle.av_plain.specs.Load.{after_load, after_loads, is_of_slot, with_loads, without_bytes, without_claims}
use Rattle.av_plain.specs.Map.{with_prot_to_hole, zaps_for_place}
use Rattle.av_plain.specs.Mremap.{MovesTo, events_to, leaves_old, remap_events, process_after_mremap}
use Rattle.av_plain.specs.Place.{Goes, IsMapAt}
use Rattle.av_plain.specs.Refusal.{Refuses, is_bad_range, locks_too_many, no_device_at, refusal, tests, wraps}
use Rattle.av_plain.specs.Sound.{AllSound, AtPages, IsTidy}
use Rattle.av_plain.specs.Step.{Follows, IsLegal, next, next_world}
use Rattle.av_plain.specs.Transcript.{Exchange, IsLegalFrom, IsRun, IsStep, State, at_first}
use Rattle.av_plain.specs.World.{Page, Process, World, child_of, page_of_child, with_change_on, with_page_flag, without_lock, wiped, end_process, lives, no_pages, pages, pages_to_hole, process, set_process, with_bytes, with_pages, with_prot, with_prot_on, zeros}
use Rattle.av_plain.specs.Zap.{keys_in, zaps_of}
use Rattle.av_plain.proofs.Ledger.NoSwap.{itself}
use Rattle.av_plain.proofs.Fork.{entry-forked, child_ledger, handed, inherited-goes}
use Rattle.av_plain.proofs.Refusal.{MayRemap, first-mapped, may-fork, may-remap, refused-next}
use Rattle.av_plain.proofs.Sound.Access.{accesses-kept}
use Rattle.av_plain.proofs.Sound.Counts.{same-itself}
use Rattle.av_plain.proofs.Sound.Fork.{forked-kept, forked-no_new}
use Rattle.av_plain.proofs.Mremap.Legal.{last_mapped}
use Rattle.av_plain.proofs.Sound.Frames.{compact-sound, merge-sound}
use Rattle.av_plain.proofs.Sound.Mremap.{remap-here, remap-kept, remap-no_new, remap-others}
use Rattle.av_plain.proofs.Sound.Pages.{accesses-at}
use Rattle.av_plain.proofs.Sound.Swap.{age-sound, complete-sound, reclaim-sound}
use Rattle.av_plain.proofs.Sound.Swap.Area.{turn-on-sound}
use Rattle.av_plain.proofs.Sound.Swap.Empty.{turn-off-sound}
use Rattle.av_plain.proofs.Sound.There.{InAreas, accesses-in, there-by}
use Rattle.av_plain.proofs.Sound.Zap.{after_zap-sound, exit-sound, zaps_of-at}
use Rattle.av_plain.proofs.World.{is_sorted-set, length-set_new, length-set_old, pages-set}
use Rattle.av_plain.proofs.Zap.{entry-range, in_range}
use Rattle.std.proofs.Common.{nat_lt}
use Rattle.std.proofs.Common.{MatchBool}
use Rattle.av_plain.specs.Event.{FreeSorted}
use Rattle.av_trace.specs.declared.note.Note.TheVariants.{Joined, Moved, Shared}
use Rattle.av_trace.specs.declared.command.Command.TheVariants.{Compact, Merge}

-- ---- loads from a device that doesn't tell its pages leave what is mapped, and the processes

told-same : {A : Type 0} (g : World → A) (l : Ledger) (e : Event) (w : World) → ((s : Slot) → g (without_claims l s w) ≡ g w)
    → g (after_load l e w) ≡ g w
told-same g l (Noted (Loaded s f)) w h = h s
told-same g l (Noted (Zeroed q a)) w h = refl
told-same g l (Noted (New q a f)) w h = refl
told-same g l (Noted (Copied q a f)) w h = refl
told-same g l (Noted (Mapped q a f)) w h = refl
told-same g l (Noted (Put f s)) w h = refl
told-same g l (Noted (Unmapped f)) w h = refl
told-same g l (Noted (Started s)) w h = refl
told-same g l (Noted (Written s)) w h = refl
told-same g l (Noted (Failed s)) w h = refl
told-same g l (Noted (Dropped s)) w h = refl
told-same g l (Noted (Kept f c)) w h = refl
told-same g l (Noted (Aged f)) w h = refl
told-same g l (Noted (Shared f)) w h = refl
told-same g l (Noted (Joined q a f)) w h = refl
told-same g l (Noted (Moved a b)) w h = refl
told-same g l (Zapped k) w h = refl
told-same g l (Used b k) w h = refl
told-same g l (Forked a b c) w h = refl
told-same g l (FlagSet a b c d e) w h = refl
told-same g l (EntriesMoved a b c d) w h = refl
told-same g l (TurnedOn a b) w h = refl
told-same g l (TurnedOff a) w h = refl
told-same g l FreeSorted w h = refl

forgotten-same : {A : Type 0} (g : World → A) (w : World) (l : Ledger) (es : List Event) →
    ((l : Ledger) (s : Slot) (w : World) → g (without_claims l s w) ≡ g w) → g (after_loads w l es) ≡ g w
forgotten-same g w l [] h = refl
forgotten-same g w l (e ∷ es) h = forgotten-same g (after_load l e w) (after l e) es h ∙ told-same g l e w (λ s. h l s w)

-- whatever an unclaiming leaves as it is, loads do
pub loads-same : {A : Type 0} (g : World → A) (m : Setting) (w : World) (l : Ledger) (es : List Event) →
    ((l : Ledger) (s : Slot) (w : World) → g (without_claims l s w) ≡ g w) → g (with_loads m w l es) ≡ g w
loads-same g m w l es h =
    elim (is_some m.headers) as (λ b. g (if b then w else after_loads w l es) ≡ g w) [ true ↦ refl | false ↦ forgotten-same g w l es h ]

unclaimed-pages : (p page : ℕ) (l : Ledger) (s : Slot) (w : World) → is_some (pages (without_claims l s w) p page) ≡ is_some (pages w p page)
unclaimed-pages p page l s [] = refl
unclaimed-pages p page l s (e ∷ w) =
    elim (eq_by_cmp nat_cmp p e.0) as (λ b. is_some (option_and_then (λ (m : Process). m page)
    (cond b (Some (λ page. if is_of_slot s (entry l (e.0, page)) then option_map without_bytes (e.1 page) else e.1 page))
    (find nat_cmp p (without_claims l s w)))) ≡ is_some (option_and_then (λ (m : Process). m page) (cond b (Some e.1) (find nat_cmp p w)))) [
      | true ↦ one (is_of_slot s (entry l (e.0, page))) (e.1 page)
      | false ↦ unclaimed-pages p page l s w
    ]
  where
    one : (b : Bool) (o : Option Page) → is_some (if b then option_map without_bytes o else o) ≡ is_some o
    one true None = refl
    one true (Some q) = refl
    one false o = refl

unclaimed-lives : (p : ℕ) (l : Ledger) (s : Slot) (w : World) → lives (without_claims l s w) p ≡ lives w p
unclaimed-lives p l s [] = refl
unclaimed-lives p l s (e ∷ w) =
    elim (eq_by_cmp nat_cmp p e.0) as
    (λ b. is_some (cond b (Some (λ page. if is_of_slot s (entry l (e.0, page)) then option_map without_bytes (e.1 page)
    else e.1 page)) (find nat_cmp p (without_claims l s w))) ≡ is_some (cond b (Some e.1) (find nat_cmp p w))) [
      | true ↦ refl
      | false ↦ unclaimed-lives p l s w
    ]

unclaimed-below : (x : ℕ) (l : Ledger) (s : Slot) (w : World) → below_all nat_cmp x (without_claims l s w) ≡ below_all nat_cmp x w
unclaimed-below x l s [] = refl
unclaimed-below x l s (e ∷ w) = ap (λ b. is_lt (nat_cmp x e.0) && b) (unclaimed-below x l s w)

unclaimed-sorted : (l : Ledger) (s : Slot) (w : World) → is_sorted nat_cmp (without_claims l s w) ≡ is_sorted nat_cmp w
unclaimed-sorted l s [] = refl
unclaimed-sorted l s (e ∷ w) = λ i. unclaimed-below e.0 l s w i && unclaimed-sorted l s w i

unclaimed-length : (l : Ledger) (s : Slot) (w : World) → length (without_claims l s w) ≡ length w
unclaimed-length l s [] = refl
unclaimed-length l s (e ∷ w) = ap suc (unclaimed-length l s w)

pub lives-loads : (m : Setting) (w : World) (l : Ledger) (es : List Event) (p : ℕ) → lives (with_loads m w l es) p ≡ lives w p
lives-loads m w l es p = loads-same (λ w. lives w p) m w l es (unclaimed-lives p)

pub length-loads : (m : Setting) (w : World) (l : Ledger) (es : List Event) → length (with_loads m w l es) ≡ length w
length-loads m w l es = loads-same length m w l es unclaimed-length

pub map_count-loads : (m : Setting) (w : World) (l : Ledger) (es : List Event) (p page : ℕ) →
    is_some (pages (with_loads m w l es) p page) ≡ is_some (pages w p page)
map_count-loads m w l es p page = loads-same (λ w. is_some (pages w p page)) m w l es (unclaimed-pages p page)

-- the flags of pages stay
unclaimed-flags : (p page : ℕ) (l : Ledger) (s : Slot) (w : World)
    → option_map (λ (x : Page). x.flags) (pages (without_claims l s w) p page) ≡ option_map (λ (x : Page). x.flags) (pages w p page)
unclaimed-flags p page l s [] = refl
unclaimed-flags p page l s (e ∷ w) =
    elim (eq_by_cmp nat_cmp p e.0) as (λ b. option_map (λ (x : Page). x.flags) (option_and_then (λ (m : Process). m page)
    (cond b (Some (λ page. if is_of_slot s (entry l (e.0, page)) then option_map without_bytes (e.1 page) else e.1 page))
    (find nat_cmp p (without_claims l s w))))
    ≡ option_map (λ (x : Page). x.flags) (option_and_then (λ (m : Process). m page) (cond b (Some e.1) (find nat_cmp p w)))) [
      | true ↦ one (is_of_slot s (entry l (e.0, page))) (e.1 page)
      | false ↦ unclaimed-flags p page l s w
    ]
  where
    one : (b : Bool) (o : Option Page) → option_map (λ (x : Page). x.flags) (if b then option_map without_bytes o else o) ≡ option_map (λ (x : Page). x.flags) o
    one true None = refl
    one true (Some q) = refl
    one false o = refl

pub flags-loads : (m : Setting) (w : World) (l : Ledger) (es : List Event) (p page : ℕ)
    → option_map (λ (x : Page). x.flags) (pages (with_loads m w l es) p page) ≡ option_map (λ (x : Page). x.flags) (pages w p page)
flags-loads m w l es p page = loads-same (λ w. option_map (λ (x : Page). x.flags) (pages w p page)) m w l es (unclaimed-flags p page)

goes-loads : (m : Setting) (w : World) (l : Ledger) (es : List Event) (p page : ℕ)
    → goes_over (pages (with_loads m w l es) p page) ≡ goes_over (pages w p page)
goes-loads m w l es p page = by (pages (with_loads m w l es) p page) (pages w p page) (flags-loads m w l es p page)
  where
    by : (x y : Option Page) → option_map (λ (x : Page). x.flags) x ≡ option_map (λ (x : Page). x.flags) y → goes_over x ≡ goes_over y
    by None None e = refl
    by None (Some y) e = cc
    by (Some x) None e = cc
    by (Some x) (Some y) e = ap (λ (o : Option Flags). option_map_or (λ (f : Flags). not f.dont_fork && not f.wipe_on_fork) o false) e

pub tidy-loads : (m : Setting) (w : World) (l : Ledger) (es : List Event) → IsTidy w → IsTidy (with_loads m w l es)
tidy-loads m w l es tidy = record {
  in_order = subst T (sym (loads-same (is_sorted nat_cmp) m w l es unclaimed-sorted)) tidy.in_order;
  few = subst (λ n. n ≤ most_processes) (sym (length-loads m w l es)) tidy.few;
}

loads-sound : (m : Setting) (w : World) (l l' : Ledger) (es : List Event) → AllSound m w l' → AllSound m (with_loads m w l es) l'
loads-sound m w l l' es s = record {
  world = tidy-loads m w l es s.world;
  ledger = s.ledger;
  at_pages = λ p page h. map_count-loads m w l es p page ∙ s.at_pages p page h;
  in_areas = s.in_areas;
  areas_fit = s.areas_fit;
}

-- ---- one process changes

cmp-is : (q p : ℕ) → eq_by_cmp nat_cmp q p ≡ true → q ≡ p
cmp-is q p h = grind (arith, nat_tests, h)

at-changed : (w : World) (l : Ledger) (p : ℕ) (new : Process) → ((page : ℕ) → is_some (entry l (p, page)) ≡ true → is_some (new page) ≡ true)
    → ((q page : ℕ) → eq_by_cmp nat_cmp q p ≡ false → is_some (entry l (q, page)) ≡ true → is_some (pages w q page) ≡ true)
    → AtPages (set_process w p new) l
at-changed w l p new here there q page h = by (eq_by_cmp nat_cmp q p) refl (pages-set w p new q page)
  where
    by : (b : Bool) → eq_by_cmp nat_cmp q p ≡ b → pages (set_process w p new) q page ≡ cond b (new page) (pages w q page) →
        is_some (pages (set_process w p new) q page) ≡ true
    by true is e = ap is_some e ∙ here page (ap (λ x. is_some (entry l (x, page))) (sym (cmp-is q p is)) ∙ h)
    by false is e = ap is_some e ∙ there q page is h

at-set : (w : World) (l : Ledger) (p : ℕ) (new : Process) → ((page : ℕ) → is_some (entry l (p, page)) ≡ true → is_some (new page) ≡ true) →
    AtPages w l → AtPages (set_process w p new) l
at-set w l p new here there = at-changed w l p new here (λ q page _ h. there q page h)

-- a process that does not live has no entry
pub no_entries : (w : World) (l : Ledger) (p : ℕ) → AtPages w l → lives w p ≡ false → (page : ℕ) → entry l (p, page) ≡ None
no_entries w l p at_pages dead page = by (entry l (p, page)) refl
  where
    unmapped : (o : Option (ℕ → Option Page)) → is_some o ≡ false → is_some (option_and_then (λ m. m page) o) ≡ true → ⊥
    unmapped None h i = cc
    unmapped (Some q) h i = cc

    by : (o : Option Entry) → entry l (p, page) ≡ o → entry l (p, page) ≡ None
    by None is = is
    by (Some e) is = absurd (unmapped (process w p) dead (at_pages p page (ap is_some is)))

-- one more process
tidy-new : (w : World) (p : ℕ) (new : Process) → IsTidy w → lives w p ≡ false → nat_le most_processes (length w) ≡ false
    → IsTidy (set_process w p new)
tidy-new w p new tidy dead room = record {
  in_order = is_sorted-set w p new tidy.in_order;
  few = subst (λ n. n ≤ most_processes) (sym (length-set_new w p new tidy.in_order dead)) (grind (arith, nat_tests, room));
}

started-sound : (m : Setting) (w : World) (l : Ledger) (p : ℕ) → AllSound m w l → lives w p ≡ false → nat_le most_processes (length w) ≡ false →
    AllSound m (set_process w p no_pages) l
started-sound m w l p s dead room = record {
  world = tidy-new w p no_pages s.world dead room;
  ledger = s.ledger;
  at_pages = at-set w l p no_pages (λ page h. absurd (never (entry l (p, page)) (no_entries w l p s.at_pages dead page) h)) s.at_pages;
  in_areas = s.in_areas;
  areas_fit = s.areas_fit;
}
  where
    never : (o : Option Entry) → o ≡ None → is_some o ≡ true → ⊥
    never o e h = cc

-- the child has of the parent's memory what goes over, and the entries of these pages
forked-sound : (m : Setting) (w v : World) (l : Ledger) (p q : ℕ) → AllSound m w l
    → ((page : ℕ) → goes_over (pages v p page) ≡ true → is_some (child_of (pages w p) page) ≡ true)
    → lives w q ≡ false → nat_le most_processes (length w) ≡ false →
    AllSound m (set_process w q (child_of (pages w p))) (child_ledger p q (inheritance (pages v p) l p) l)
forked-sound m w v l p q s goes dead room = record {
  world = tidy-new w q (child_of (pages w p)) s.world dead room;
  ledger = forked-kept m l p q over s.ledger none;
  at_pages = at-changed w (child_ledger p q over l) q (child_of (pages w p)) (λ page h. copied page h)
      (λ r page other h. s.at_pages r page (stayed r page other h));
  in_areas = there-by m l (child_ledger p q over l) (forked-no_new m l p q over s.ledger none) s.in_areas;
  areas_fit = (forked-no_new m l p q over s.ledger none).fits s.areas_fit;
}
  where
    over : List ℕ
    over = inheritance (pages v p) l p

    none : (page : ℕ) → entry l (q, page) ≡ None
    none = no_entries w l q s.at_pages dead

    found : (r page : ℕ) → is_some (entry (child_ledger p q over l) (r, page)) ≡ true →
        is_some (option_or (cond (r == q) (option_map without_seen (handed over p l page)) None) (entry l (r, page))) ≡ true
    found r page h = ap is_some (sym (entry-forked p q over l (r, page) s.ledger.in_order)) ∙ h

    copied : (page : ℕ) → is_some (entry (child_ledger p q over l) (q, page)) ≡ true → is_some (child_of (pages w p) page) ≡ true
    copied page h = goes page (inherited-goes (pages v p) l p page
        (by (q == q) (is_in page over) (entry l (p, page)) (entry l (q, page)) (none page) (found q page h)))
      where
        by : (b c : Bool) (x y : Option Entry) → y ≡ None
            → is_some (option_or (cond b (option_map without_seen (cond c x None)) None) y) ≡ true → c ≡ true
        by b true x y e h = refl
        by true false x y e h = cc
        by false false x y e h = cc

    stayed : (r page : ℕ) → eq_by_cmp nat_cmp r q ≡ false → is_some (entry (child_ledger p q over l) (r, page)) ≡ true
        → is_some (entry l (r, page)) ≡ true
    stayed r page other h = by (r == q) (grind (arith, nat_tests, other)) (found r page h)
      where
        by : (b : Bool) → b ≡ false → is_some (option_or (cond b (option_map without_seen (handed over p l page)) None) (entry l (r, page))) ≡ true →
            is_some (entry l (r, page)) ≡ true
        by true e h = cc
        by false e h = h

-- the number of processes is as it was
tidy-set : (w : World) (p : ℕ) (new : Process) → IsTidy w → lives w p ≡ true → IsTidy (set_process w p new)
tidy-set w p new tidy alive = record {
  in_order = is_sorted-set w p new tidy.in_order;
  few = subst (λ n. n ≤ most_processes)
      (sym (length-set_old w p new tidy.in_order alive)) tidy.few;
}

-- what was mapped stays so
changed-sound : (m : Setting) (w : World) (l : Ledger) (p : ℕ) (new : Process) → AllSound m w l → lives w p ≡ true →
    ((page : ℕ) → is_some (pages w p page) ≡ true → is_some (new page) ≡ true) → AllSound m (set_process w p new) l
changed-sound m w l p new s alive stays = record {
  world = tidy-set w p new s.world alive;
  ledger = s.ledger;
  at_pages = at-set w l p new (λ page h. stays page (s.at_pages p page h)) s.at_pages;
  in_areas = s.in_areas;
  areas_fit = s.areas_fit;
}

-- a range loses its entries, and has other pages
range-sound : (m : Setting) (w w' : World) (l : Ledger) (p from n : ℕ) (new : Process) → AllSound m w l → AllSound m w' l → lives w' p ≡ true
    → AllSound m (set_process w' p (with_pages (pages w' p) from n new)) (after_all l (zaps_of l (keys_in l p from n)))
range-sound m w w' l p from n new s s' alive = after_zap-sound m w (set_process w' p (with_pages (pages w' p) from n new)) l (keys_in l p from n) s
    (tidy-set w' p (with_pages (pages w' p) from n new) s'.world alive)
    (at-set w' (after_all l (zaps_of l (keys_in l p from n))) p (with_pages (pages w' p) from n new)
    (λ page h. by page (within from n page) (gone page h) (was page h)) there)
  where
    there : AtPages w' (after_all l (zaps_of l (keys_in l p from n)))
    there = zaps_of-at w' l (keys_in l p from n) s'.at_pages

    was : (page : ℕ) → is_some (entry (after_all l (zaps_of l (keys_in l p from n))) (p, page)) ≡ true → is_some (pages w' p page) ≡ true
    was page h = there p page h

    outside : (a b : Bool) (o : Option Entry) → a ≡ true → is_some (cond (a && b) None o) ≡ true → b ≡ false
    outside a true o itself h = cc
    outside a false o itself h = refl

    gone : (page : ℕ) → is_some (entry (after_all l (zaps_of l (keys_in l p from n))) (p, page)) ≡ true → within from n page ≡ false
    gone page h = outside (p == p) (within from n page) (entry l (p, page)) (same-itself p) (sym (ap is_some (entry-range l p from n p page)) ∙ h)

    by : (page : ℕ) (b : Bool) → b ≡ false → is_some (pages w' p page) ≡ true → is_some (if b then new page else pages w' p page) ≡ true
    by page true e h = cc
    by page false e h = h

stored-sound : (m : Setting) (w : World) (l : Ledger) (p a : ℕ) (bytes : List ℕ) → AllSound m w l → lives w p ≡ true
    → AllSound m (after_write w p a bytes) l
stored-sound m w l p a [] s alive = s
stored-sound m w l p a (b ∷ bytes) s alive =
    changed-sound m w l p (with_bytes (pages w p) a (b ∷ bytes)) s alive (λ page h. kept _ (pages w p page) h)
  where
    kept : (f : Page → Page) (o : Option Page) → is_some o ≡ true → is_some (option_map f o) ≡ true
    kept f None h = cc
    kept f (Some x) h = refl

-- pages change that were mapped
pub change-sound : (m : Setting) (w : World) (l : Ledger) (p from n : ℕ) (change : Page → Page) → AllSound m w l → lives w p ≡ true
    → AllSound m (set_process w p (with_change_on (pages w p) from n change)) l
change-sound m w l p from n change s alive = changed-sound m w l p (with_change_on (pages w p) from n change) s alive
    (λ page i. still (within from n page) (pages w p page) i)
  where
    still : (b : Bool) (o : Option Page) → is_some o ≡ true → is_some (if b then option_map change o else o) ≡ true
    still true None h = h
    still true (Some x) h = refl
    still false o h = h

-- what is advised loses its entries, or has a flag set
advice-sound : (m : Setting) (w w' : World) (l : Ledger) (p from n : ℕ) (change : Option (Flag × Bool)) → AllSound m w l → AllSound m w' l
    → AllSound m w' (after_all l (advice_events l p from n change))
advice-sound m w w' l p from n None s s' = after_zap-sound m w w' l (keys_in l p from n) s s'.world (zaps_of-at w' l (keys_in l p from n) s'.at_pages)
advice-sound m w w' l p from n (Some change) s s' = s'

-- n pages become k, and those that go or move have their entries go or move
remap-sound : (m : Setting) (w w' : World) (l : Ledger) (p from n to k : ℕ) (left : Bool) → AllSound m w l → AllSound m w' l
    → lives w' p ≡ true
    → (n < k → is_some (pages w' p (from + n - 1)) ≡ true)
    → AllSound m (set_process w' p (process_after_mremap from n to k left (pages w' p))) (after_all l (remap_events l p from n to k))
remap-sound m w w' l p from n to k left s s' alive last = record {
  world = tidy-set w' p (process_after_mremap from n to k left (pages w' p)) s'.world alive;
  ledger = remap-kept m l p from n to k s.ledger;
  at_pages = at-changed w' (after_all l (remap_events l p from n to k)) p (process_after_mremap from n to k left (pages w' p))
      (remap-here w' l p from n to k left s.ledger.in_order s'.at_pages last)
      (λ q page other h. remap-others w' l p from n to k left s.ledger.in_order s'.at_pages last q page (grind (arith, nat_tests, other)) h);
  in_areas = there-by m l (after_all l (remap_events l p from n to k)) (remap-no_new m l p from n to k s.ledger) s.in_areas;
  areas_fit = (remap-no_new m l p from n to k s.ledger).fits s.areas_fit;
}

-- ---- a legal reply

accesses-sound : (m : Setting) (w : World) (l : Ledger) (p : ℕ) (ps : List (Bool × ℕ)) (events : List Event) (end : End) → AllSound m w l →
    Accesses m w l p ps events end → AllSound m w (after_all l events)
accesses-sound m w l p ps events end s h = record {
  world = s.world;
  ledger = accesses-kept m w l p ps events end s.ledger h;
  at_pages = λ q page i. accesses-at m w l p ps events end (λ k j. s.at_pages k.0 k.1 j) h (q, page) i;
  in_areas = accesses-areas.there;
  areas_fit = accesses-areas.fits;
}
  where
    accesses-areas : InAreas m (after_all l events)
    accesses-areas = accesses-in m w l p ps events end (record { sound = s.ledger; there = s.in_areas; fits = s.areas_fit }) h

-- the pages of an mlock come in once they are locked
brings-sound : (m : Setting) (w : World) (l : Ledger) (p from n : ℕ) (events : List Event) (end : End) → AllSound m w l → lives w p ≡ true
    → Accesses m (with_lock true w p from n) l p (accesses_of (pages w p) from n) events end → AllSound m w (after_all l events)
brings-sound m w l p from n events end s alive h = record {
  world = s.world;
  ledger = then.ledger;
  at_pages = λ q page i. was q page (then.at_pages q page i);
  in_areas = then.in_areas;
  areas_fit = then.areas_fit;
}
  where
    k : ℕ
    k = pages_to_hole (pages w p) from n

    then : AllSound m (with_lock true w p from n) (after_all l events)
    then = accesses-sound m (with_lock true w p from n) l p (accesses_of (pages w p) from n) events end
        (change-sound m w l p from (pages_to_hole (pages w p) from n) (with_page_flag flags.Locked true) s alive) h

    was : (q page : ℕ) → is_some (pages (with_lock true w p from n) q page) ≡ true → is_some (pages w q page) ≡ true
    was q page i = by (eq_by_cmp nat_cmp q p) refl (sym (ap is_some (pages-set w p
        (with_change_on (pages w p) from (pages_to_hole (pages w p) from n) (with_page_flag flags.Locked true)) q page)) ∙ i)
      where
        had : (b : Bool) (o : Option Page) → is_some (if b then option_map (with_page_flag flags.Locked true) o else o) ≡ true → is_some o ≡ true
        had true None h = h
        had true (Some x) h = refl
        had false o h = h

        same : (b : Bool) → eq_by_cmp nat_cmp q p ≡ b → b ≡ true → q ≡ p
        same true is h = grind (arith, nat_tests, is)
        same false is h = cc

        by : (b : Bool) → eq_by_cmp nat_cmp q p ≡ b
            → is_some (cond b (with_change_on (pages w p) from (pages_to_hole (pages w p) from n) (with_page_flag flags.Locked true) page) (pages w q page)) ≡ true
            → is_some (pages w q page) ≡ true
        by true is h = subst (λ q. is_some (pages w q page) ≡ true) (sym (same true is refl))
            (had (within from (pages_to_hole (pages w p) from n) page) (pages w p page) h)
        by false is h = h

-- without events the ledger stays
unchanged : (m : Setting) (w : World) (l : Ledger) (events : List Event) → events ≡ [] → AllSound m w l → AllSound m w (after_all l events)
unchanged m w l events none s = subst (λ es. AllSound m w (after_all l es)) (sym none) s

alive : (b : Bool) (o : Option Errno) → cond (not b) (Some Esrch) o ≡ None → b ≡ true
alive true o h = refl
alive false o h = cc

pub follows-sound : (m : Setting) (w : World) (l : Ledger) (command : Command) (events : List Event) (answer : Answer) (rows : List Row)
    → AllSound m w l →
    refusal (tests m w l command) ≡ None
    → Follows m w l command events answer rows → AllSound m (next_world m w l events command answer) (after_all l events)
follows-sound m w l (Spawn p) events answer rows s fine h =
    subst (λ a. AllSound m (next (with_loads m w l events) (Spawn p) a) (after_all l events)) (sym h.0)
    (started-sound m (with_loads m w l events) (after_all l events) p (loads-sound m w l (after_all l events) events (unchanged m w l events h.1 s))
    (lives-loads m w l events p ∙ first (lives w p) (nat_le most_processes (length w)) fine)
    (ap (nat_le most_processes) (length-loads m w l events) ∙ second (lives w p) (nat_le most_processes (length w)) fine))
  where
    first : (a b : Bool) → cond a (Some Eexist) (cond b (Some Eagain) None) ≡ None → a ≡ false
    first true b h = cc
    first false b h = refl

    second : (a b : Bool) → cond a (Some Eexist) (cond b (Some Eagain) None) ≡ None → b ≡ false
    second true b h = cc
    second false true h = cc
    second false false h = refl
follows-sound m w l (AsksFork p q) events answer rows s fine h =
    let may = may-fork m w l p q fine in
    subst (λ a. AllSound m (next (with_loads m w l events) (AsksFork p q) a) (after_all l events)) (sym h.0)
    (subst (λ es. AllSound m (set_process (with_loads m w l events) q (child_of (pages (with_loads m w l events) p))) (after_all l es)) (sym h.1)
    (forked-sound m (with_loads m w l events) w l p q (loads-sound m w l l events s)
    (λ page over. child-there (pages (with_loads m w l events) p page) (goes-loads m w l events p page ∙ over))
    (lives-loads m w l events q ∙ may.child)
    (ap (nat_le most_processes) (length-loads m w l events) ∙ may.room)))
  where
    child-there : (o : Option Page) → goes_over o ≡ true → is_some (option_and_then page_of_child o) ≡ true
    child-there None h = cc
    child-there (Some x) h = by x.flags.dont_fork (not x.flags.wipe_on_fork) h
      where
        by : (b c : Bool) → (not b && c) ≡ true → is_some (cond b None (Some (without_lock (cond x.flags.wipe_on_fork (wiped x) x)))) ≡ true
        by true c h = cc
        by false c h = refl
follows-sound m w l (Exit p) events answer rows s fine h =
    let loaded = loads-sound m w l l events s in
    subst (λ a. AllSound m (next (with_loads m w l events) (Exit p) a) (after_all l events)) (sym h.0)
    (subst (λ es. AllSound m (end_process (with_loads m w l events) p) (after_all l es)) (sym h.1)
    (exit-sound m w (with_loads m w l events) l p s loaded.world loaded.at_pages))
follows-sound m w l (Mmap p len prot place) events answer rows s fine h = by h.0 h.2 place h.1 h.3
  where
    here : World
    here = with_loads m w l events

    loaded : AllSound m here l
    loaded = loads-sound m w l l events s

    living : lives here p ≡ true
    living = lives-loads m w l events p ∙ alive (lives w p) _ fine

    inside : (b : Bool) (o : Option Page) → is_some o ≡ true → is_some (if b then Some (zeros prot) else o) ≡ true
    inside true o h = refl
    inside false o h = h

    zeroed : ℕ → Process
    zeroed page = with_pages (pages here p) (page_of (address_of page)) (pages_of len) (λ _. Some (zeros prot))

    added : (page : ℕ) (es : List Event) → es ≡ [] → AllSound m (set_process here p (zeroed page)) (after_all l es)
    added page es none = unchanged m (set_process here p (zeroed page)) l es none
        (changed-sound m here l p (zeroed page) loaded living
        (λ q i. inside (within (page_of (address_of page)) (pages_of len) q) (pages here p q) i))

    back : (page : ℕ) → page_of (address_of page) ≡ page
    back page = omega arith

    same_page : {x y : ℕ} → Some x ≡ Some y → x ≡ y
    same_page e = cc

    placed : (page : ℕ) (place : Place) → Goes (pages w p) (pages_of len) place (Some page) → events ≡ zaps_for_place l p (pages_of len) place →
        AllSound m (set_process here p (zeroed page)) (after_all l events)
    placed page Auto goes e = added page events e
    placed page (At a) goes e = added page events e
    placed page (NoReplace a) goes e = added page events e
    placed page (Fixed a) goes e = subst (λ es. AllSound m (set_process here p (zeroed page)) (after_all l es)) (sym e)
        (subst (λ from. AllSound m (set_process here p (with_pages (pages here p) from (pages_of len) (λ _. Some (zeros prot))))
        (after_all l (zaps_of l (keys_in l p (page_of a) (pages_of len))))) (sym (back page ∙ same_page goes))
        (range-sound m w here l p (page_of a) (pages_of len) (λ _. Some (zeros prot)) s loaded living))

    refused : (place : Place) → Goes (pages w p) (pages_of len) place None → events ≡ zaps_for_place l p (pages_of len) place →
        AllSound m here (after_all l events)
    refused Auto goes e = unchanged m here l events e loaded
    refused (At a) goes e = unchanged m here l events e loaded
    refused (NoReplace a) goes e = cc
    refused (Fixed a) goes e = cc

    by : (to : Option ℕ) → IsMapAt answer to → (place : Place) → Goes (pages w p) (pages_of len) place to
        → events ≡ zaps_for_place l p (pages_of len) place →
        AllSound m (next here (Mmap p len prot place) answer) (after_all l events)
    by None e place goes es = subst (λ a. AllSound m (next here (Mmap p len prot place) a) (after_all l events)) (sym e) (refused place goes es)
    by (Some page) e place goes es =
        subst (λ a. AllSound m (next here (Mmap p len prot place) a) (after_all l events)) (sym e) (placed page place goes es)
follows-sound m w l (Munmap p a len) events answer rows s fine h =
    subst (λ x. AllSound m (next (with_loads m w l events) (Munmap p a len) x) (after_all l events)) (sym h.0)
    (subst (λ es. AllSound m
    (set_process (with_loads m w l events) p (with_pages (pages (with_loads m w l events) p) (page_of a) (pages_of len) no_pages))
    (after_all l es)) (sym h.1)
    (range-sound m w (with_loads m w l events) l p (page_of a) (pages_of len) no_pages s (loads-sound m w l l events s)
    (lives-loads m w l events p ∙ alive (lives w p) _ fine)))
follows-sound m w l (Mprotect p a len prot) events answer rows s fine h =
    subst (λ x. AllSound m (next (with_loads m w l events) (Mprotect p a len prot) x) (after_all l events)) (sym h.0)
    (by (pages_to_hole (pages w p) (page_of a) (pages_of len) == pages_of len))
  where
    here : World
    here = with_loads m w l events

    loaded : AllSound m here (after_all l events)
    loaded = loads-sound m w l (after_all l events) events (unchanged m w l events h.1 s)

    changed : (n : ℕ) → AllSound m (set_process here p (with_prot_on (pages here p) (page_of a) n prot)) (after_all l events)
    changed n = changed-sound m here (after_all l events) p (with_prot_on (pages here p) (page_of a) n prot) loaded
        (lives-loads m w l events p ∙ alive (lives w p) _ fine) (λ q i. still (within (page_of a) n q) (pages here p q) i)
      where
        still : (b : Bool) (o : Option Page) → is_some o ≡ true → is_some (if b then option_map (with_prot prot) o else o) ≡ true
        still true None h = h
        still true (Some x) h = refl
        still false o h = h

    stopped : (b : Bool) → AllSound m (if b then here else with_prot_to_hole here p (page_of a) (pages_of len) prot) (after_all l events)
    stopped true = loaded
    stopped false = changed (pages_to_hole (pages here p) (page_of a) (pages_of len))

    by : (b : Bool) → AllSound m (next here (Mprotect p a len prot) (if b then Done else Refused Enomem)) (after_all l events)
    by true = changed (pages_of len)
    by false = stopped (wraps a len)
follows-sound m w l (AsksMremap p a old new mode) events answer rows s fine h = by h.0 h.1 h.2 h.3
  where
    here : World
    here = with_loads m w l events

    loaded : AllSound m here l
    loaded = loads-sound m w l l events s

    may : MayRemap w p a old new mode
    may = may-remap m w l p a old new mode fine

    left : Bool
    left = leaves_old mode

    last : (to : ℕ) → MovesTo (pages w p) (page_of a) (pages_of old) (pages_of new) mode (Some to) → pages_of old < pages_of new
        → is_some (pages here p (page_of a + pages_of old - 1)) ≡ true
    last to goes more = map_count-loads m w l events p (page_of a + pages_of old - 1) ∙ last_mapped w p a old new mode to may goes more

    back : (page : ℕ) → page_of (address_of page) ≡ page
    back page = omega arith

    by : (to : Option ℕ) → MovesTo (pages w p) (page_of a) (pages_of old) (pages_of new) mode to → IsMapAt answer to
        → events ≡ events_to l p (page_of a) (pages_of old) to (pages_of new)
        → AllSound m (next here (AsksMremap p a old new mode) answer) (after_all l events)
    by None goes e es = subst (λ x. AllSound m (next here (AsksMremap p a old new mode) x) (after_all l events)) (sym e)
        (unchanged m here l events es loaded)
    by (Some to) goes e es = subst (λ x. AllSound m (next here (AsksMremap p a old new mode) x) (after_all l events)) (sym e)
        (subst (λ es. AllSound m (set_process here p (process_after_mremap (page_of a) (pages_of old) (page_of (address_of to))
        (pages_of new) left (pages here p)))
        (after_all l es)) (sym es)
        (subst (λ b. AllSound m (set_process here p (process_after_mremap (page_of a) (pages_of old) b (pages_of new) left (pages here p)))
        (after_all l (remap_events l p (page_of a) (pages_of old) to (pages_of new)))) (sym (back to))
        (remap-sound m w here l p (page_of a) (pages_of old) to (pages_of new) left s loaded (lives-loads m w l events p ∙ may.living) (last to goes))))
follows-sound m w l (Madvise p a len advice) events answer rows s fine h =
    subst (λ x. AllSound m (next here (Madvise p a len advice) x) (after_all l events)) (sym h.0)
    (by (nat_lt (pages_advised (pages w p) (page_of a) (pages_of len) change) (pages_of len))
    (pages_to_hole (pages w p) (page_of a) (pages_of len) == pages_of len))
  where
    here : World
    here = with_loads m w l events

    change : Option (Flag × Bool)
    change = flag_of_advice advice

    kept : AllSound m here (after_all l events)
    kept = subst (λ es. AllSound m here (after_all l es)) (sym h.1)
        (advice-sound m w here l p (page_of a) (pages_advised (pages w p) (page_of a) (pages_of len) change) change s (loads-sound m w l l events s))

    told : AllSound m (with_advice here p (page_of a) (pages_of len) change) (after_all l events)
    told = change-sound m here (after_all l events) p (page_of a) (pages_advised (pages here p) (page_of a) (pages_of len) change)
        (advised change) kept (lives-loads m w l events p ∙ alive (lives w p) _ fine)

    stopped : (b : Bool) → AllSound m (if b then here else with_advice here p (page_of a) (pages_of len) change) (after_all l events)
    stopped true = kept
    stopped false = told

    by : (b c : Bool) → AllSound m (next here (Madvise p a len advice) (if b then Refused Einval else (if c then Done else Refused Enomem)))
        (after_all l events)
    by true c = stopped (is_bad_range a len)
    by false true = told
    by false false = told
follows-sound m w l (Mlock p a len) events answer rows s fine h =
    subst (λ es. AllSound m (next (with_loads m w l es) (Mlock p a len) answer) (after_all l es)) (sym h.1)
    (by (pages_to_hole (pages w p) (page_of a) (pages_met a len) == pages_met a len) h.3)
  where
    here : World
    here = with_loads m w l (lock_event true (pages w p) p (page_of a) (pages_met a len) ∷ h.0)

    living : lives w p ≡ true
    living = alive (lives w p) _ fine

    onto : AllSound m w (after_all l h.0) → AllSound m here (after_all l h.0)
    onto kept = loads-sound m w l (after_all l h.0) (lock_event true (pages w p) p (page_of a) (pages_met a len) ∷ h.0) kept

    locked : AllSound m here (after_all l h.0) → AllSound m (with_lock true here p (page_of a) (pages_met a len)) (after_all l h.0)
    locked kept = change-sound m here (after_all l h.0) p (page_of a) (pages_to_hole (pages here p) (page_of a) (pages_met a len))
        (with_page_flag flags.Locked true) kept
        (lives-loads m w l (lock_event true (pages w p) p (page_of a) (pages_met a len) ∷ h.0) p ∙ living)

    ends : (end : End) → AllSound m here (after_all l h.0)
        → AllSound m (next here (Mlock p a len) (write_answer (address_of (page_of a)) end)) (after_all l h.0)
    ends Whole kept = locked kept
    ends (Stopped page Denied) kept = locked kept
    ends (Stopped page (Starved out)) kept = locked kept
    ends (Stopped page Lost) kept = locked kept

    stopped : (b : Bool) → AllSound m here (after_all l h.0)
        → AllSound m (if b then here else with_lock true here p (page_of a) (pages_met a len)) (after_all l h.0)
    stopped true kept = kept
    stopped false kept = locked kept

    by : (b : Bool) → MatchBool b (BringsIn m w l p (page_of a) (pages_met a len) h.0 answer) ((h.0 ≡ []) × (answer ≡ Refused Enomem))
        → AllSound m (next here (Mlock p a len) answer) (after_all l h.0)
    by true q = subst (λ x. AllSound m (next here (Mlock p a len) x) (after_all l h.0)) (sym q.2)
        (ends q.0 (onto (brings-sound m w l p (page_of a) (pages_met a len) h.0 q.0 s living q.1)))
    by false q = subst (λ x. AllSound m (next here (Mlock p a len) x) (after_all l h.0)) (sym q.1)
        (stopped (locks_too_many a len) (onto (unchanged m w l h.0 q.0 s)))
follows-sound m w l (Munlock p a len) events answer rows s fine h =
    subst (λ x. AllSound m (next here (Munlock p a len) x) (after_all l events)) (sym h.0)
    (by (pages_to_hole (pages w p) (page_of a) (pages_met a len) == pages_met a len))
  where
    here : World
    here = with_loads m w l events

    kept : AllSound m here (after_all l events)
    kept = subst (λ es. AllSound m here (after_all l es)) (sym h.1) (loads-sound m w l l events s)

    unlocked : AllSound m (with_lock false here p (page_of a) (pages_met a len)) (after_all l events)
    unlocked = change-sound m here (after_all l events) p (page_of a) (pages_to_hole (pages here p) (page_of a) (pages_met a len))
        (with_page_flag flags.Locked false) kept (lives-loads m w l events p ∙ alive (lives w p) _ fine)

    by : (b : Bool) → AllSound m (next here (Munlock p a len) (if b then Done else Refused Enomem)) (after_all l events)
    by true = unlocked
    by false = unlocked
follows-sound m w l (Read p a n) events answer rows s fine h = loads-sound m w l (after_all l events) events
    (accesses-sound m w l p (pages_of_access false a n) events h.0 s h.2)
follows-sound m w l (Write p a bytes) events answer rows s fine h =
    stored-sound m (with_loads m w l events) (after_all l events) p a (first_bytes answer bytes)
    (loads-sound m w l (after_all l events) events (accesses-sound m w l p (pages_of_access true a (length bytes)) events h.0 s h.1))
    (lives-loads m w l events p ∙ alive (lives w p) _ fine)
follows-sound m w l (AsksReclaim n) events answer rows s fine h =
    loads-sound m w l (after_all l events) events (reclaim-sound m w l n events answer rows s h)
follows-sound m w l (Age n) events answer rows s fine h = loads-sound m w l (after_all l events) events (age-sound m w l n events answer rows s h)
follows-sound m w l (Complete n) events answer rows s fine h =
    loads-sound m w l (after_all l events) events (complete-sound m w l n events answer rows s h)
follows-sound m w l (Swapon k priority) events answer rows s fine h = loads-sound m w l (after_all l events) events
    (turn-on-sound m w l k priority events answer rows s (second (no_device_at m k) (is_on l k) (size_of m k == 0) fine)
    (third (no_device_at m k) (is_on l k) (size_of m k) fine) h)
  where
    second : (a b c : Bool) → cond a (Some Einval) (cond b (Some Ebusy) (cond c (Some Einval) None)) ≡ None → b ≡ false
    second true b c h = cc
    second false true c h = cc
    second false false c h = refl

    third : (a b : Bool) (n : ℕ) → cond a (Some Einval) (cond b (Some Ebusy) (cond (n == 0) (Some Einval) None)) ≡ None → 0 < n
    third true b n h = cc
    third false true n h = cc
    third false false zero h = cc
    third false false (suc n) h = omega arith
follows-sound m w l (Swapoff k) events answer rows s fine h =
    loads-sound m w l (after_all l events) events (turn-off-sound m w l k events answer rows s h)
follows-sound m w l Merge events answer rows s fine h =
    loads-sound m w l (after_all l events) events (merge-sound m w l events answer rows s h)
follows-sound m w l Compact events answer rows s fine h =
    loads-sound m w l (after_all l events) events (compact-sound m w l events answer rows s h)
follows-sound m w l (Maps p) events answer rows s fine h = loads-sound m w l (after_all l events) events (unchanged m w l events h.2 s)
follows-sound m w l (AsksAreas p) events answer rows s fine h = loads-sound m w l (after_all l events) events (unchanged m w l events h.2 s)
follows-sound m w l (AsksRmap p a) events answer rows s fine h = loads-sound m w l (after_all l events) events (unchanged m w l events h.1 s)
follows-sound m w l (AsksEntry p a) events answer rows s fine h = loads-sound m w l (after_all l events) events (unchanged m w l events h.1 s)
follows-sound m w l (AsksSlot k page) events answer rows s fine h = loads-sound m w l (after_all l events) events (unchanged m w l events h.1 s)
follows-sound m w l Stat events answer rows s fine h = loads-sound m w l (after_all l events) events (unchanged m w l events h.1 s)

refused-sound : (m : Setting) (w : World) (l : Ledger) (command : Command) (error : Errno) (events : List Event)
    → refusal (tests m w l command) ≡ Some error →
    events ≡ [] → AllSound m w l
    → AllSound m (next_world m w l events command (Refused error)) (after_all l events)
refused-sound m w l command error events is none s =
    subst (λ x. AllSound m x (after_all l events)) (sym (refused-next m w (with_loads m w l events) l command error is))
    (loads-sound m w l (after_all l events) events (unchanged m w l events none s))

pub soundness-stays : (m : Setting) (w : World) (l : Ledger) (command : Command) (reply : Reply) (events : List Event)
    → AllSound m w l → IsLegal m w l command reply events → AllSound m (next_world m w l events command reply.answer) (after_all l events)
soundness-stays m w l command reply events s legal = by (refusal (tests m w l command)) refl legal.answer
  where
    by : (o : Option Errno) → refusal (tests m w l command) ≡ o → MatchOption o (Follows m w l command events reply.answer reply.rows)
        (λ error. Refuses error events reply.answer reply.rows)
        → AllSound m (next_world m w l events command reply.answer) (after_all l events)
    by None is h = follows-sound m w l command events reply.answer reply.rows s is h
    by (Some error) is h = subst (λ a. AllSound m (next_world m w l events command a) (after_all l events)) (sym h.0)
        (refused-sound m w l command error events is h.1 s)

-- ---- runs

pub first-sound : (m : Setting) → AllSound m [] first_ledger
first-sound m = record {
  world = record { in_order = tt; few = omega arith };
  ledger = record {
    in_order = tt;
    slots_once = λ s. omega arith;
    frames_once = λ f. omega arith;
    in_range = λ f h. absurd (omega (arith, h));
    listed = λ f. refl;
    flying = λ s. omega arith;
    used = λ s f h. absurd (omega (arith, h));
    one = λ p a b d e at at' related. cc;
    merged = λ f. omega arith;
  };
  at_pages = λ p page h. cc;
  in_areas = λ s h. absurd (omega (arith, h));
  areas_fit = record { rising = tt; attached = λ k is. cc; fit = λ k. tt };
}

pub transcript-sound : (m : Setting) (w : World) (l : Ledger) (es : List Exchange) (w' : World) (l' : Ledger) → AllSound m w l →
    IsLegalFrom m w l es w' l' → AllSound m w' l'
transcript-sound m w l [] w' l' s h = subst (λ x. AllSound m x l') (sym h.0) (subst (AllSound m w) (sym h.1) s)
transcript-sound m w l (e ∷ es) w' l' s h =
    transcript-sound m (next_world m w l h.0 e.command e.reply.answer) (after_all l h.0) es w' l'
    (soundness-stays m w l e.command e.reply h.0 s h.1) h.2

-- a run is a legal transcript
pub run-legal : (m : Setting) (old : State) (es : List Exchange) (new : State) → IsRun m old es new
    → IsLegalFrom m old.world old.ledger es new.world new.ledger
run-legal m old [] new h = (ap (λ (s : State). s.world) h, ap (λ (s : State). s.ledger) h)
run-legal m old (e ∷ es) new h =
    let rest = run-legal m h.0 es new h.2 in (
      h.1.events,
      h.1.legal,
      subst (λ w. IsLegalFrom m w (after_all old.ledger h.1.events) es new.world new.ledger) h.1.world
          (subst (λ l. IsLegalFrom m h.0.world l es new.world new.ledger) h.1.ledger rest),
    )

pub step-sound : (m : Setting) (old : State) (command : Command) (reply : Reply) (new : State) → AllSound m old.world old.ledger →
    IsStep m old command reply new → AllSound m new.world new.ledger
step-sound m old command reply new s h =
    subst (λ w. AllSound m w new.ledger) (sym h.world)
    (subst (AllSound m (next_world m old.world old.ledger h.events command reply.answer)) (sym h.ledger)
    (soundness-stays m old.world old.ledger command reply h.events s h.legal))

pub run-sound : (m : Setting) (es : List Exchange) (new : State) → IsRun m (at_first m) es new → AllSound m new.world new.ledger
run-sound m es new h = transcript-sound m [] first_ledger es new.world new.ledger (first-sound m) (run-legal m (at_first m) es new h)
