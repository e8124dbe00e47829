-- In a run the areas of each process cover exactly its pages, with their protection and flags.
use Rattle.std.proofs.Common.{◌≡◌, ◌⊎◌, inl, inr, ℕ, zero, suc, ◌+◌, ◌-◌, ◌*◌, ◌^◌, ◌<◌, ◌≤◌, min, IsSomeAnd, Bool, true, false, cond, not, ◌&&◌, ◌||◌, if◌then◌else◌, nat_lt, nat_le, ◌==◌, List, [], ◌∷◌, ◌++◌, length, Option, Some, None, is_some, option_map, refl, sym, ap, subst, ◌∙◌, arith}
use Rattle.std.proofs.lemmas.Bool.Decides.{nat_tests}
use Rattle.std.proofs.lemmas.Option.{none-some}
use Rattle.std.specs.FinMap.Entries.{find}
use Rattle.std.specs.List.{list_all}
use Rattle.std.specs.Ordering.{nat_cmp, eq_by_cmp}
use Rattle.std.specs.Prelude.{MatchBool, MatchOption, option_and_then, slice_index, unwrap_or}
use Rattle.av_base.specs.Limits.{low_page, top_page}
use Rattle.av_base.specs.Page.{address_of, is_on_page, page_of, pages_of}
use Rattle.av_base.specs.Words.{with_at, within}
use Rattle.av_base.specs.declared.prot.Prot.{Prot}
use Rattle.av_base.specs.declared.slot.Slot.{Slot}
use Rattle.av_trace.specs.declared.command.Command.{Command}
use Rattle.av_trace.specs.declared.command.Command.TheVariants.{Compact, Merge, Spawn, Fork, Exit, Mmap, Mremap, Munmap, Mprotect, Madvise, Mlock, Munlock, Read, Write, Reclaim, Age, Complete, Swapon, Swapoff, Maps, Areas as AsksAreas, Rmap as AsksRmap, Entry as AsksEntry, Slot as AsksSlot, Stat}
use Rattle.av_trace.specs.declared.mode.Mode.{Mode}
use Rattle.av_trace.specs.declared.place.Place.{Place}
use Rattle.av_trace.specs.declared.place.Place.TheVariants.{Auto, At, Fixed, NoReplace}
use Rattle.av_trace.specs.declared.reply.Answer.{Answer}
use Rattle.av_trace.specs.declared.reply.Answer.TheVariants.{Done, MapAt, Refused}
use Rattle.av_trace.specs.declared.reply.Errno.{Errno}
use Rattle.av_trace.specs.declared.reply.Errno.TheVariants.{Eexist, Einval, Enomem, Eperm, Esrch}
use Rattle.av_trace.specs.declared.reply.Reply.{Reply}
use Rattle.av_trace.specs.declared.row.Row.{Row}
use Rattle.av_vma.specs.Gap.{IsGap, IsRoom}
use Rattle.av_vma.specs.IndexBound.{AreIndicesBelow}
use Rattle.av_vma.specs.Index.{index_of, past_of}
use Rattle.av_vma.specs.Join.{same_prot}
use Rattle.av_vma.specs.Pages.{AreLaid, Lengths, Pages, after_map, after_prepare, after_unmap, alters_at, split_at, fresh_area, has_page, IsWhole, joined_at, loan_beside, page_changed, pages_changed, part_changed, to_prot, with_anon, with_area, with_effect, with_effect_on, without_range}
use Rattle.av_vma.specs.declared.area.Area.{Area}
use Rattle.av_plain.specs.Access.{after_write, first_bytes}
use Rattle.av_plain.specs.Areas.{Areas, Rmap, areas_to_hole, chain_length, next_areas, none_on, rmap_after_all, prepare_page, with_room}
use Rattle.av_plain.specs.Event.{Event}
use Rattle.av_plain.specs.Fork.{AreForked}
use Rattle.av_plain.specs.Ledger.{Ledger, Setting, entry}
use Rattle.av_plain.specs.Load.{is_of_slot, with_loads, without_bytes, without_claims}
use Rattle.av_plain.specs.Map.{with_prot_to_hole, zaps_for_place}
use Rattle.av_plain.specs.Mremap.{MovesTo, after_mremap, events_to, leaves_old, process_after_mremap}
use Rattle.av_plain.specs.Place.{Goes, IsMapAt, is_room}
use Rattle.av_plain.specs.Refusal.{Refuses, Tests, fixed_tests, is_too_long, low, place_tests, refusal, tests, top, wraps}
use Rattle.av_plain.specs.Step.{Follows, next, next_world}
use Rattle.av_plain.specs.Transcript.{Exchange, IsRun, IsStep, State, at_first, rmap_of}
use Rattle.av_plain.specs.World.{Page, Process, World, end_process, is_mapped, lives, meets, no_pages, pages, pages_to_hole, set_process, with_bytes, with_pages, with_prot, with_prot_on, zeros}
use Rattle.av_laws.specs.Covered.{CoverBelow, CoverPages}
use Rattle.av_plain.proofs.Fork.Areas.{ChildHas, child-has, in_child}
use Rattle.av_plain.proofs.Load.{events_to-load_nothing, loads_nothing, without-loads}
use Rattle.av_plain.proofs.Mremap.Areas.{indices_remapped}
use Rattle.av_plain.proofs.Mremap.Cover.{becomes, laid_becomes, marks_become, small-enough}
use Rattle.av_plain.proofs.Refusal.{MayRemap, loads-none, may-remap, refused-areas, refused-next}
use Rattle.av_plain.proofs.Sound.{loads-same}
use Rattle.av_plain.proofs.Sound.Zap.{pages-ended}
use Rattle.av_plain.proofs.Transcript.{IsFork, IsPlain, next-cases, plain-next}
use Rattle.av_vma.proofs.IndexBound.{indices_changed, indices_mapped, indices_more, indices_prepared, indices_unmapped}
use Rattle.av_plain.proofs.World.{pages-set}
use Rattle.av_plain.proofs.World.Ranges.{meets-none}
use Rattle.av_laws.proofs.ReadBack.InRuns.{first-test}
use Rattle.av_vma.proofs.Split.{laid_part, laid_unmapped}
use Rattle.av_vma.proofs.Join.{laid_joined, laid_mapped, laid_page_changed, laid_pages_changed, prot_is}
use Rattle.av_vma.proofs.Laid.{fresh_has, has_area, laid_fresh, laid_prepared}
use Rattle.av_vma.proofs.Marks.{marks, marks_split, marks_joined, marks_with_own}
use Rattle.std.proofs.lemmas.Bool.{false≢true}
use Rattle.av_base.specs.Flags.{no_flags, unlocked, with_flag}
use Rattle.av_base.specs.Page.{pages_met}
use Rattle.av_base.specs.declared.flags.Flag.{Flag}
use Rattle.av_base.specs.declared.flags.Flag.TheVariants as flags
use Rattle.av_base.specs.declared.flags.Flags.{Flags}
use Rattle.av_vma.specs.Join.{same_flags}
use Rattle.av_vma.specs.Pages.{Effect, to_flag}
use Rattle.av_vma.proofs.Join.{flags_are}
use Rattle.av_vma.proofs.Marks.{area_marks}
use Rattle.av_plain.specs.Access.{End, Stopped, Whole, write_answer}
use Rattle.av_plain.specs.Advice.{advice_events, flag_of_advice, pages_advised, with_advice}
use Rattle.av_plain.specs.Areas.{rmap_after}
use Rattle.av_plain.specs.Event.{EntriesMoved, FlagSet, Forked, FreeSorted, Noted, TurnedOff, TurnedOn, Used, Zapped, after}
use Rattle.av_plain.specs.Fault.{Denied, Lost, Starved}
use Rattle.av_plain.specs.Lock.{BringsIn, lock_event, with_lock}
use Rattle.av_plain.specs.Refusal.{is_bad_range, locks_too_many, ends_too_high}
use Rattle.av_plain.specs.World.{child_of, page_of_child, wiped, with_change_on, with_page_flag, without_lock}
use Rattle.av_plain.specs.Zap.{keys_in}
use Rattle.av_plain.proofs.AreasLeft.{rmap_after-keeps}
use Rattle.av_plain.proofs.Fork.Areas.{forked-area, forked_at}
use Rattle.av_plain.proofs.Sound.{map_count-loads}
use Rattle.av_laws.proofs.Flagged.{accesses-set_none, flagged, flagged_by, flags-areas, follows-set_none, legal-set_none, set_none, sets_flags, unflagged, zaps-set_none}

-- ---- the protections and flags of a process's pages

abbrev pub marks_of : Option Page → Option (Prot × Flags)
marks_of o = option_map (λ (q : Page). (q.prot, q.flags)) o

module _ (most : ℕ) (enough : top_page ≤ most) where
  -- the areas of a process cover its pages
  pub record Covers (q : Process) (on : Pages) : Type 0 where
    pub laid : AreLaid on
    pub same : (page : ℕ) → marks on page ≡ marks_of (q page)
    pub low : AreIndicesBelow most on

  -- so do those of all processes
  pub record Low (w : World) (on : Areas) : Type 0 where
    pub laid : (p : ℕ) → AreLaid (on p)
    pub marks : (p page : ℕ) → option_map area_marks (on p page) ≡ marks_of (pages w p page)
    pub low : (p : ℕ) → AreIndicesBelow most (on p)

  -- a page that isn't mapped has no area
  no-area : (q : Process) (on : Pages) (page : ℕ) → Covers q on → is_mapped q page ≡ false → on page ≡ None
  no-area q on page c none = by (on page) (q page) (c.same page) none
    where
      by : (o : Option Area) (p : Option Page) → option_map area_marks o ≡ marks_of p → is_some p ≡ false → o ≡ None
      by None p e h = refl
      by (Some a) (Some p) e h = cc
      by (Some a) None e h = cc

  -- ---- all processes

  pub covers_one : (w : World) (on : Areas) (p : ℕ) → Low w on → Covers (pages w p) (on p)
  covers_one w on p c = record { laid = c.laid p; same = c.marks p; low = c.low p }

  -- one process's, and those of the others
  low_set : (p : ℕ) (there : Pages) (on : Areas) → AreIndicesBelow most there → ((q : ℕ) → AreIndicesBelow most (on q)) → (q : ℕ)
      → AreIndicesBelow most (with_at p there on q)
  low_set p there on h others q = by (q == p)
    where
      by : (b : Bool) → AreIndicesBelow most (cond b there (on q))
      by true = h
      by false = others q

  covers_set : (w : World) (on : Areas) (p : ℕ) (new : Process) (there : Pages) → Low w on → Covers new there
      → Low (set_process w p new) (with_at p there on)
  covers_set w on p new there c h = record {
    laid = λ q. laid q (q == p);
    marks = λ q page. at q page (q == p)
        ∙ sym (ap marks_of (pages-set w p new q page ∙ ap (λ b. cond b (new page) (pages w q page)) (same_number q p)));
    low = low_set p there on h.low c.low;
  }
    where
      same_number : (q n : ℕ) → eq_by_cmp nat_cmp q n ≡ (q == n)
      same_number q n = grind (arith, nat_tests)

      laid : (q : ℕ) (b : Bool) → AreLaid (cond b there (on q))
      laid q true = h.laid
      laid q false = c.laid q

      at : (q page : ℕ) (b : Bool) → option_map area_marks ((cond b there (on q)) page) ≡ marks_of (cond b (new page) (pages w q page))
      at q page true = h.same page
      at q page false = c.marks q page

  covers_none : Covers no_pages none_on
  covers_none = record {
    laid = record {
      whole = λ page a e. absurd (none-some a e);
      here = λ page a e. absurd
          (none-some a e);
      all = λ page other a e h. absurd (none-some a e);
    };
    same = λ page. refl;
    low = λ page a e. absurd (none-some a e);
  }

  covers_ended : (w : World) (on : Areas) (p : ℕ) → Low w on → Low (end_process w p) (with_at p none_on on)
  covers_ended w on p c = record {
    laid = λ q. laid q (q == p);
    marks = λ q page. at q page (q == p) ∙ sym (ap marks_of (pages-ended w p q page));
    low = low_set p none_on on covers_none.low c.low;
  }
    where
      laid : (q : ℕ) (b : Bool) → AreLaid (cond b none_on (on q))
      laid q true = covers_none.laid
      laid q false = c.laid q

      at : (q page : ℕ) (b : Bool) → option_map area_marks ((cond b none_on (on q)) page) ≡ marks_of (cond b None (pages w q page))
      at q page true = refl
      at q page false = c.marks q page

  -- a load leaves the protections
  unclaimed-marks : (p page : ℕ) (l : Ledger) (s : Slot) (w : World) → marks_of (pages (without_claims l s w) p page) ≡ marks_of (pages w p page)
  unclaimed-marks p page l s [] = refl
  unclaimed-marks p page l s (e ∷ w) = by (eq_by_cmp nat_cmp p e.0) (unclaimed-marks p page l s w)
    where
      one : (b : Bool) (o : Option Page) → marks_of (if b then option_map without_bytes o else o) ≡ marks_of o
      one true None = refl
      one true (Some q) = refl
      one false o = refl

      by : (b : Bool) → marks_of (pages (without_claims l s w) p page) ≡ marks_of (pages w p page)
          → marks_of (option_and_then (λ (m : Process). m page)
          (cond b (Some (λ page. if is_of_slot s (entry l (e.0, page)) then option_map without_bytes (e.1 page) else e.1 page))
          (find nat_cmp p (without_claims l s w))))
          ≡ marks_of (option_and_then (λ (m : Process). m page) (cond b (Some e.1) (find nat_cmp p w)))
      by true rest = one (is_of_slot s (entry l (e.0, page))) (e.1 page)
      by false rest = rest

  covers_loads : (m : Setting) (w : World) (l : Ledger) (es : List Event) (on : Areas) → Low w on → Low (with_loads m w l es) on
  covers_loads m w l es on c = record {
    laid = c.laid;
    marks = λ p page. c.marks p page
        ∙ sym (loads-same (λ w. marks_of (pages w p page)) m w l es (unclaimed-marks p page));
    low = c.low;
  }

  -- so does a write
  covers_stored : (w : World) (on : Areas) (p a : ℕ) (bytes : List ℕ) → Low w on → Low (after_write w p a bytes) on
  covers_stored w on p a [] c = c
  covers_stored w on p a (b ∷ bytes) c = record {
    laid = c.laid;
    marks = λ q page. c.marks q page
        ∙ sym (ap marks_of (pages-set w p (with_bytes (pages w p) a (b ∷ bytes)) q page) ∙ at q page (eq_by_cmp nat_cmp q p) refl);
    low = c.low;
  }
    where
      is_number : (q n : ℕ) → eq_by_cmp nat_cmp q n ≡ true → q ≡ n
      is_number q n h = grind (arith, nat_tests, h)

      with_stored : (page : ℕ) (o : Option Page) → marks_of (option_map (λ (p : Page). record p {
        bytes = λ i.
            if within a (length (b ∷ bytes)) (address_of page + i) then Some (slice_index (b ∷ bytes) (address_of page + i - a))
            else p.bytes i;
      }) o) ≡ marks_of o
      with_stored page None = refl
      with_stored page (Some x) = refl

      at : (q page : ℕ) (c : Bool) → eq_by_cmp nat_cmp q p ≡ c
          → marks_of (cond c (with_bytes (pages w p) a (b ∷ bytes) page) (pages w q page)) ≡ marks_of (pages w q page)
      at q page true is = with_stored page (pages w p page) ∙ ap (λ n. marks_of (pages w n page)) (sym (is_number q p is))
      at q page false is = refl

  -- ---- prepare

  covers_with_anon : (len : Lengths) (next page : ℕ) (q : Process) (on : Pages) → Covers q on → Covers q (after_prepare len next page on)
  covers_with_anon len next page q on c = record {
    laid = laid_prepared len next page on c.laid;
    same = λ other. by other (on page) refl ∙ c.same other;
    low = indices_prepared len most next page on c.low;
  }
    where
      one : (other : ℕ) (area : Area) (b : Bool) → on page ≡ Some area
          → marks (if b then on else with_area (record area { anon = Some (unwrap_or (loan_beside len on area) next) }) on) other ≡ marks on other
      one other area true is = refl
      one other area false is = marks_with_own page area (Some (unwrap_or (loan_beside len on area) next)) on c.laid is other

      by : (other : ℕ) (o : Option Area) → on page ≡ o → marks (with_anon len next o on) other ≡ marks on other
      by other None is = refl
      by other (Some area) is = one other area (is_some area.anon) is

  covers_page : (w : World) (p page : ℕ) (r : Rmap) → Low w r.areas → Low w (prepare_page p page r).areas
  covers_page w p page r c = record {
    laid = λ q. laid q (q == p) refl;
    marks = λ q other. prots_at q other (q == p) refl;
    low = low_set p (after_prepare (chain_length r.anons) r.anons.next page (r.areas p)) r.areas there.low c.low;
  }
    where
      there : Covers (pages w p) (after_prepare (chain_length r.anons) r.anons.next page (r.areas p))
      there = covers_with_anon (chain_length r.anons) r.anons.next page (pages w p) (r.areas p) (covers_one w r.areas p c)

      number : (q : ℕ) → (q == p) ≡ true → p ≡ q
      number q is = grind (arith, nat_tests, is)

      laid : (q : ℕ) (b : Bool) → (q == p) ≡ b
          → AreLaid (cond b (after_prepare (chain_length r.anons) r.anons.next page (r.areas p)) (r.areas q))
      laid q true is = there.laid
      laid q false is = c.laid q

      prots_at : (q other : ℕ) (b : Bool) → (q == p) ≡ b
          → option_map area_marks (cond b (after_prepare (chain_length r.anons) r.anons.next page (r.areas p)) (r.areas q) other)
          ≡ marks_of (pages w q other)
      prots_at q other true is = there.same other ∙ ap (λ n. marks_of (pages w n other)) (number q is)
      prots_at q other false is = c.marks q other

  -- ---- unmap

  same_width : (from n : ℕ) → (from + n) - from ≡ n
  same_width from n = omega arith

  emptied-marks : (from past : ℕ) (on : Pages) (page : ℕ)
      → marks (without_range from past on) page ≡ cond (within from (past - from) page) None (marks on page)
  emptied-marks from past on page = by (within from (past - from) page)
    where
      by : (b : Bool) → option_map area_marks (cond b None (on page)) ≡ cond b None (marks on page)
      by true = refl
      by false = refl

  covers_unmapped : (q : Process) (on : Pages) (from n : ℕ) → Covers q on → Covers (with_pages q from n no_pages) (after_unmap from (from + n) on)
  covers_unmapped q on from n c = record {
    laid = laid_unmapped from (from + n) on c.laid;
    same = λ page. emptied-marks from (from + n) (split_at (from + n) (split_at from on)) page
        ∙ ap (cond (within from ((from + n) - from) page) None) (marks_split (from + n) (split_at from on) page ∙ marks_split from on page)
        ∙ ap (λ k. cond (within from k page) None (marks on page)) (same_width from n) ∙ by page (within from n page);
    low = indices_unmapped most from (from + n) on c.laid c.low;
  }
    where
      by : (page : ℕ) (b : Bool) → cond b None (marks on page) ≡ marks_of (if b then None else q page)
      by page true = refl
      by page false = c.same page

  -- ---- map

  -- there is room for n pages from one on, and the others are as they were
  pub record Room (q : Process) (room : Pages) (from n : ℕ) : Type 0 where
    pub laid : AreLaid room
    pub some : 1 ≤ n
    pub free : IsRoom (has_area room) n from
    pub others : (page : ℕ) → within from n page ≡ false → marks room page ≡ marks_of (q page)
    pub low : AreIndicesBelow most room

  placed-marks : (f : Area) (room : Pages) (page : ℕ) → marks (with_area f room) page ≡ cond (has_page f page) (Some (area_marks f)) (marks room page)
  placed-marks f room page = by (has_page f page)
    where
      by : (b : Bool) → option_map area_marks (cond b (Some f) (room page)) ≡ cond b (Some (area_marks f)) (marks room page)
      by true = refl
      by false = refl

  covers_mapped : (long : Lengths) (p : ℕ) (q : Process) (room : Pages) (from n : ℕ) (prot : Prot) → Room q room from n
      → Covers (with_pages q from n (λ _. Some (zeros prot))) (after_map long p from (from + n) prot no_flags room)
  covers_mapped long p q room from n prot r =
      let f = fresh_area p from (from + n) prot no_flags in
      let positive = r.some in
      let some : from < from + n = omega arith in
      let to_past = same_width from n in
      let free : IsRoom (has_area room) ((from + n) - from) from = subst (λ k. IsRoom (has_area room) k from) (sym to_past) r.free in
      let with_new = laid_fresh p from (from + n) prot no_flags room some free r.laid in
      let first = laid_joined long from (with_area f room) with_new in
      record {
        laid = laid_mapped long p from (from + n) prot no_flags room r.laid some free;
        same = λ page. marks_joined long (from + n) (joined_at long from (with_area f room)) first page
            ∙ marks_joined long from (with_area f room) with_new page
            ∙ placed-marks f room page
            ∙ ap (λ b. cond b (Some (prot, no_flags)) (marks room page)) (fresh_has p from (from + n) prot no_flags page ∙ ap (λ k. within from k page) to_past)
            ∙ by page (within from n page) refl;
        low = indices_mapped long most p from (from + n) prot no_flags room r.laid some free enough r.low;
      }
    where
      by : (page : ℕ) (b : Bool) → within from n page ≡ b → cond b (Some (prot, no_flags)) (marks room page) ≡ marks_of (if b then Some (zeros prot) else q page)
      by page true is = refl
      by page false is = r.others page is

  -- ---- where a mapping goes

  room_free : (q : Process) (on : Pages) (from n : ℕ) → Covers q on → 1 ≤ n → IsRoom (is_mapped q) n from → Room q on from n
  room_free q on from n c some room = record {
    laid = c.laid;
    some = some;
    free = record {
      lowest = room.lowest;
      highest = room.highest;
      free = λ page low high. ap is_some (no-area q on page c (room.free page low high));
    };
    others = λ page is. c.same page;
    low = c.low;
  }

  record Bounds (from n : ℕ) : Type 0 where
    low : low_page ≤ from
    high : from + n ≤ top_page

  fixed_bounds : (a n : ℕ) (rest : Tests) → refusal (fixed_tests n a ++ rest) ≡ None → Bounds (page_of a) n × (refusal rest ≡ None)
  fixed_bounds a n rest h =
      let one = first-test (nat_lt top (a + address_of n)) Enomem (refusal ((not (is_on_page a), Einval) ∷ (nat_lt a low, Eperm) ∷ rest)) h in
      let two = first-test (not (is_on_page a)) Einval (refusal ((nat_lt a low, Eperm) ∷ rest)) one.1 in
      let three = first-test (nat_lt a low) Eperm (refusal rest) two.1 in
      (record { low = above a (nat_lt a low) refl three.0; high = below a n (nat_lt top (a + address_of n)) refl one.0 }, three.1)
    where
      below : (a n : ℕ) (b : Bool) → nat_lt top (a + address_of n) ≡ b → b ≡ false → page_of a + n ≤ top_page
      below a n true is e = cc
      below a n false is e = let h : a + address_of n ≤ address_of top_page = grind (arith, nat_tests, is) in omega (arith, h)

      above : (a : ℕ) (b : Bool) → nat_lt a low ≡ b → b ≡ false → low_page ≤ page_of a
      above a true is e = cc
      above a false is e = let h : address_of low_page ≤ a = grind (arith, nat_tests, is) in omega (arith, h)

  room_fixed : (q : Process) (on : Pages) (a n : ℕ) → Covers q on → 1 ≤ n → Bounds (page_of a) n
      → Room q (after_unmap (page_of a) (page_of a + n) on) (page_of a) n
  room_fixed q on a n c some bounds =
      let gone = covers_unmapped q on (page_of a) n c in
      record {
        laid = gone.laid;
        some = some;
        free = record {
          lowest = bounds.low;
          highest = bounds.high;
          free = λ page low high. ap (λ b. is_some (cond b None (split_at (page_of a + n) (split_at (page_of a) on) page)))
              (ap (λ k. within (page_of a) k page) (same_width (page_of a) n) ∙ inside (page_of a) page low high);
        };
        others = λ page is. gone.same page ∙ ap (λ b. marks_of (if b then None else q page)) is;
        low = gone.low;
      }
    where
      inside : (from page : ℕ) → from ≤ page → page < from + n → within from n page ≡ true
      inside from page low high = grind (arith, nat_tests)

  room_gap : (q : Process) (on : Pages) (n page : ℕ) → Covers q on → 1 ≤ n → IsGap (is_mapped q) n (Some page) → Room q on page n
  room_gap q on n page c some gap = room_free q on page n c some gap.0

  inner : {x y : ℕ} → Some x ≡ Some y → x ≡ y
  inner e = cc

  room_hint : (q : Process) (on : Pages) (n page a : ℕ) → Covers q on → 1 ≤ n → Goes q n (At a) (Some page) → Room q on page n
  room_hint q on n page a c some goes = by (is_room q n (page_of a)) refl goes
    where
      parts : (a b c : Bool) → (a && b && not c) ≡ true → (a ≡ true) × (b ≡ true) × (c ≡ false)
      parts true true false h = (refl, refl, refl)
      parts true true true h = cc
      parts true false c h = cc
      parts false b c h = cc

      by : (b : Bool) → is_room q n (page_of a) ≡ b → MatchBool b (Some page ≡ Some (page_of a)) (IsGap (is_mapped q) n (Some page))
          → Room q on page n
      by true is e =
          let room = parts (nat_le low_page (page_of a)) (nat_le (page_of a + n) top_page) (meets q (page_of a) n) is in
          let low = room.0 in let high = room.1 in
          subst (λ x. Room q on x n) (sym (inner e)) (room_free q on (page_of a) n c some (record {
            lowest = grind (arith, nat_tests, low);
            highest = grind (arith, nat_tests, high);
            free = λ x low high. meets-none q (page_of a) n x room.2 low high;
          }))
      by false is gap = room_gap q on n page c some gap

  room_new : (q : Process) (on : Pages) (n a : ℕ) → Covers q on → 1 ≤ n → refusal (fixed_tests n a ++ (meets q (page_of a) n, Eexist) ∷ []) ≡ None
      → Room q on (page_of a) n
  room_new q on n a c some h =
      let b = fixed_bounds a n ((meets q (page_of a) n, Eexist) ∷ []) h in
      let none = (first-test (meets q (page_of a) n) Eexist None b.1).0 in
      room_free q on (page_of a) n c some (record {
        lowest = b.0.low;
        highest = b.0.high;
        free = λ x low high. meets-none q (page_of a) n x none low high;
      })

  -- ---- change

  module _ (long : Lengths) (effect : Effect) where
    -- what becomes of the marks
    abbrev mark : Prot × Flags → Prot × Flags
    mark m = (effect.prot m.0, effect.flags m.1)

    changed-marks : (from past : ℕ) (on : Pages) (page : ℕ)
        → marks (with_effect_on from past effect on) page ≡ cond (within from (past - from) page) (option_map mark (marks on page))
        (marks on page)
    changed-marks from past on page = by (within from (past - from) page)
      where
        each : (o : Option Area) → option_map area_marks (option_map (with_effect effect) o)
            ≡ option_map mark (option_map area_marks o)
        each None = refl
        each (Some a) = refl

        by : (b : Bool) → option_map area_marks (cond b (option_map (with_effect effect) (on page)) (on page))
            ≡ cond b (option_map mark (marks on page)) (marks on page)
        by true = each (on page)
        by false = refl

    marks_page : (x : ℕ) (on : Pages) → AreLaid on → (page : ℕ)
        → marks (page_changed long effect x on) page ≡ cond (page == x) (option_map mark (marks on page)) (marks on page)
    marks_page x on laid page = by (alters_at effect (on x)) refl
      where
        alone : (x page : ℕ) → within x ((x + 1) - x) page ≡ (page == x)
        alone x page = ap (λ k. within x k page) (width x) ∙ grind (arith, nat_tests)
          where
            width : (x : ℕ) → (x + 1) - x ≡ 1
            width x = omega arith

        so_already : (o : Option Area) → alters_at effect o ≡ false
            → option_map area_marks o ≡ option_map mark (option_map area_marks o)
        so_already None h = refl
        so_already (Some a) h =
            let same = bits (same_prot (effect.prot a.prot) a.prot) (same_flags (effect.flags a.flags) a.flags) h in
            let prot = prot_is (effect.prot a.prot) a.prot same.0 in
            let flags = flags_are (effect.flags a.flags) a.flags same.1 in
            let e : area_marks a ≡ mark (area_marks a) = sym (λ i. (prot i, flags i)) in ap Some e
          where
            bits : (b c : Bool) → not (b && c) ≡ false → (b ≡ true) × (c ≡ true)
            bits true true h = (refl, refl)
            bits true false h = cc
            bits false c h = cc

        still : (c : Bool) → (page == x) ≡ c → alters_at effect (on x) ≡ false
            → marks on page ≡ cond c (option_map mark (marks on page)) (marks on page)
        still true is none = let same : page ≡ x = grind (arith, nat_tests, is) in
            subst (λ y. marks on y ≡ option_map mark (marks on y)) (sym same) (so_already (on x) none)
        still false is none = refl

        by : (b : Bool) → alters_at effect (on x) ≡ b → marks (if b then part_changed long x (x + 1) effect on else on) page
            ≡ cond (page == x) (option_map mark (marks on page)) (marks on page)
        by true is = marks_joined long (x + 1) _ (laid_joined long x _ one) page
            ∙ marks_joined long x _ one page
            ∙ changed-marks x (x + 1) (split_at (x + 1) (split_at x on)) page
            ∙ (λ i. cond (alone x page i) (option_map mark (kept i)) (kept i))
          where
            one : AreLaid (with_effect_on x (x + 1) effect (split_at (x + 1) (split_at x on)))
            one = laid_part x (x + 1) on laid effect

            kept : marks (split_at (x + 1) (split_at x on)) page ≡ marks on page
            kept = marks_split (x + 1) (split_at x on) page ∙ marks_split x on page
        by false is = still (page == x) refl is

    marks_pages : (from n : ℕ) (on : Pages) → AreLaid on → (page : ℕ)
        → marks (pages_changed long effect from n on) page ≡ cond (within from n page) (option_map mark (marks on page))
        (marks on page)
    marks_pages from zero on laid page = out (within from 0 page) (grind (arith, nat_tests))
      where
        out : (b : Bool) → b ≡ false → marks on page ≡ cond b (option_map mark (marks on page)) (marks on page)
        out true e = cc
        out false e = refl
    marks_pages from (suc n) on laid page =
        marks_pages (from + 1) n (page_changed long effect from on) (laid_page_changed long effect from on laid) page
        ∙ (λ i. cond (within (from + 1) n page) (option_map mark (marks_page from on laid page i)) (marks_page from on laid page i))
        ∙ by (page == from) (within (from + 1) n page) (within from (suc n) page) (marks on page) (grind (arith, nat_tests)) (grind (arith, nat_tests))
      where
        by : (e r' r : Bool) (x : Option (Prot × Flags)) → r ≡ (e || r') → (e && r') ≡ false
            → cond r' (option_map mark (cond e (option_map mark x) x)) (cond e (option_map mark x) x) ≡ cond r
            (option_map mark x) x
        by true true r x i k = cc
        by true false true x i k = refl
        by true false false x i k = cc
        by false true true x i k = refl
        by false true false x i k = cc
        by false false true x i k = cc
        by false false false x i k = refl

    covers_changed : (q : Process) (on : Pages) (from n : ℕ) (change : Page → Page)
        → ((x : Page) → marks_of (Some (change x)) ≡ Some (mark (x.prot, x.flags))) → Covers q on
        → Covers (with_change_on q from n change) (pages_changed long effect from n on)
    covers_changed q on from n change marked c = record {
      laid = laid_pages_changed long effect from n on c.laid;
      same = λ page. marks_pages from n on c.laid page ∙ by page (within from n page);
      low = indices_changed long effect most from n on c.laid c.low;
    }
      where
        each : (o : Option Page) → option_map mark (marks_of o) ≡ marks_of (option_map change o)
        each None = refl
        each (Some x) = sym (marked x)

        by : (page : ℕ) (b : Bool) → cond b (option_map mark (marks on page)) (marks on page)
            ≡ marks_of (if b then option_map change (q page) else q page)
        by page true = ap (option_map mark) (c.same page) ∙ each (q page)
        by page false = c.same page

  -- ---- events

  flagged-marks : (flag : Flag) (set : Bool) (x : Page) → marks_of (Some (with_page_flag flag set x)) ≡ Some (x.prot, with_flag flag set x.flags)
  flagged-marks flag set x = refl

  -- an anon_vma that is prepared changes no page and no mark, and a flag that is set those of the pages
  covers_event : (w : World) (l : Ledger) (e : Event) (r : Rmap) → Low w r.areas → Low (flagged_by w e) (rmap_after l e r).areas
  covers_event w l (FlagSet p from n flag set) r c = covers_set w r.areas p (with_change_on (pages w p) from n (with_page_flag flag set)) _ c
      (covers_changed (chain_length r.anons) (to_flag flag set) (pages w p) (r.areas p) from n (with_page_flag flag set) (flagged-marks flag set)
      (covers_one w r.areas p c))
  covers_event w l (Noted note) r c =
      rmap_after-keeps (λ r. Low w r.areas) (covers_page w) (λ homes items r c. c) l (Noted note) r (λ p from n flag set e. absurd cc) c
  covers_event w l (Used write k) r c =
      rmap_after-keeps (λ r. Low w r.areas) (covers_page w) (λ homes items r c. c) l (Used write k) r (λ p from n flag set e. absurd cc) c
  covers_event w l (Zapped k) r c = c
  covers_event w l (Forked p q goes) r c = c
  covers_event w l (EntriesMoved p n from to) r c = c
  covers_event w l (TurnedOn k area) r c = c
  covers_event w l (TurnedOff k) r c = c
  covers_event w l FreeSorted r c = c

  pub covers_events : (w : World) (l : Ledger) (es : List Event) (r : Rmap) → Low w r.areas → Low (flagged w es) (rmap_after_all l es r).areas
  covers_events w l [] r c = c
  covers_events w l (e ∷ es) r c = covers_events (flagged_by w e) (after l e) es (rmap_after l e r) (covers_event w l e r c)

  -- where the pages of a process keep their marks, its areas are on them still
  covers_same : (w : World) (on : Areas) (p : ℕ) (new : Process) → ((page : ℕ) → marks_of (new page) ≡ marks_of (pages w p page))
      → Low w on → Low (set_process w p new) on
  covers_same w on p new same c = record {
    laid = c.laid;
    marks = λ q page. c.marks q page ∙ sym (ap marks_of (pages-set w p new q page) ∙ at q page (eq_by_cmp nat_cmp q p) refl);
    low = c.low;
  }
    where
      is_number : (q n : ℕ) → eq_by_cmp nat_cmp q n ≡ true → q ≡ n
      is_number q n h = grind (arith, nat_tests, h)

      at : (q page : ℕ) (c : Bool) → eq_by_cmp nat_cmp q p ≡ c → marks_of (cond c (new page) (pages w q page)) ≡ marks_of (pages w q page)
      at q page true is = same page ∙ ap (λ n. marks_of (pages w n page)) (sym (is_number q p is))
      at q page false is = refl

  -- ---- a mapping has its room

  pub mmap-room : (m : Setting) (w now : World) (l : Ledger) (on : Areas) (p len : ℕ) (prot : Prot) (place : Place) (es : List Event) (page : ℕ)
      → (es ≡ [] → now ≡ w) → Low now on → refusal (tests m w l (Mmap p len prot place)) ≡ None → Goes (pages w p) (pages_of len) place (Some page)
      → es ≡ zaps_for_place l p (pages_of len) place → Room (pages now p) (with_room (pages_of len) place (on p)) page (pages_of len)
  mmap-room m w now l on p len prot place es page same c none = room place page tests_pass.1
    where
      tests_pass : ((len == 0) ≡ false) × (refusal (place_tests (pages w p) (pages_of len) place) ≡ None)
      tests_pass =
          let rest = place_tests (pages w p) (pages_of len) place in
          let one = first-test (not (lives w p)) Esrch (refusal ((len == 0, Einval) ∷ (is_too_long len, Enomem) ∷ rest)) none in
          let two = first-test (len == 0) Einval (refusal ((is_too_long len, Enomem) ∷ rest)) one.1 in
          (two.0, (first-test (is_too_long len) Enomem (refusal rest) two.1).1)

      some : (len : ℕ) → (len == 0) ≡ false → 1 ≤ pages_of len
      some len e = let h : 0 < len = grind (arith, nat_tests, e) in omega (arith, h)

      one : Covers (pages now p) (on p)
      one = covers_one now on p c

      -- the events of the place: none, but for a fixed one
      of_before : now ≡ w → Covers (pages w p) (on p)
      of_before e = subst (λ x. Covers (pages x p) (on p)) e one

      to_now : (on' : Pages) (page : ℕ) → now ≡ w → Room (pages w p) on' page (pages_of len) → Room (pages now p) on' page (pages_of len)
      to_now on' page e r = subst (λ x. Room (pages x p) on' page (pages_of len)) (sym e) r

      room : (place : Place) (page : ℕ) → refusal (place_tests (pages w p) (pages_of len) place) ≡ None
          → Goes (pages w p) (pages_of len) place (Some page)
          → es ≡ zaps_for_place l p (pages_of len) place → Room (pages now p) (with_room (pages_of len) place (on p)) page (pages_of len)
      room Auto page none goes e = to_now (on p) page (same e) (room_gap (pages w p) (on p) (pages_of len) page (of_before (same e))
          (some len tests_pass.0) goes)
      room (At a) page none goes e = to_now (on p) page (same e) (room_hint (pages w p) (on p) (pages_of len) page a (of_before (same e))
          (some len tests_pass.0) goes)
      room (Fixed a) page none goes e = subst (λ x. Room (pages now p) (after_unmap (page_of a) (page_of a + pages_of len) (on p)) x (pages_of len))
          (sym (inner goes))
          (room_fixed (pages now p) (on p) a (pages_of len) one (some len tests_pass.0) (fixed_bounds a (pages_of len) [] none).0)
      room (NoReplace a) page none goes e = subst (λ x. Room (pages now p) (on p) x (pages_of len)) (sym (inner goes))
          (to_now (on p) (page_of a) (same e) (room_new (pages w p) (on p) (pages_of len) a (of_before (same e)) (some len tests_pass.0) none))

  -- ---- a step

  covers-follows : (m : Setting) (w now : World) (l : Ledger) (long : Lengths) (on : Areas) (command : Command) (es : List Event) (answer : Answer)
      (rows : List Row)
      → ((p q : ℕ) → command ≡ Fork p q → answer ≡ Done → ⊥)
      → ((p a old new b : ℕ) (mode : Mode) → command ≡ Mremap p a old new mode → answer ≡ MapAt b → ⊥)
      → sets_flags command ≡ false → (es ≡ [] → now ≡ w) → Low now on → refusal (tests m w l command) ≡ None → Follows m w l command es answer rows
      → Low (next now command answer) (next_areas long on w command answer)
  covers-follows m w now l long on (Spawn p) es answer rows other unmoved un same c none h = subst
      (λ x. Low (next now (Spawn p) x) (next_areas long on w (Spawn p) x)) (sym h.0)
      (covers_set now on p no_pages none_on c covers_none)
  covers-follows m w now l long on (Fork p q) es answer rows other unmoved un same c none h = absurd (other p q refl h.0)
  covers-follows m w now l long on (Exit p) es answer rows other unmoved un same c none h = subst
      (λ x. Low (next now (Exit p) x) (next_areas long on w (Exit p) x)) (sym h.0)
      (covers_ended now on p c)
  covers-follows m w now l long on (Mmap p len prot place) es answer rows other unmoved un same c none h = at h.0 h.1 h.2
    where
      back : (page : ℕ) → page_of (address_of page) ≡ page
      back page = omega arith

      at : (to : Option ℕ) → Goes (pages w p) (pages_of len) place to → IsMapAt answer to
          → Low (next now (Mmap p len prot place) answer) (next_areas long on w (Mmap p len prot place) answer)
      at None goes e = subst (λ x. Low (next now (Mmap p len prot place) x) (next_areas long on w (Mmap p len prot place) x)) (sym e) c
      at (Some page) goes e = subst (λ x. Low (next now (Mmap p len prot place) x) (next_areas long on w (Mmap p len prot place) x)) (sym e)
          (covers_set now on p _ _ c
          (covers_mapped long p (pages now p) (with_room (pages_of len) place (on p)) (page_of (address_of page)) (pages_of len) prot
          (subst (λ f. Room (pages now p) (with_room (pages_of len) place (on p)) f (pages_of len)) (sym (back page))
          (mmap-room m w now l on p len prot place es page same c none goes h.3))))
  covers-follows m w now l long on (Munmap p a len) es answer rows other unmoved un same c none h = subst
      (λ x. Low (next now (Munmap p a len) x) (next_areas long on w (Munmap p a len) x)) (sym h.0)
      (covers_set now on p _ _ c (covers_unmapped (pages now p) (on p) (page_of a) (pages_of len) (covers_one now on p c)))
  covers-follows m w now l long on (Mprotect p a len prot) es answer rows other unmoved un same c none h = subst
      (λ x. Low (next now (Mprotect p a len prot) x) (next_areas long on w (Mprotect p a len prot) x)) (sym h.0)
      (subst (λ now. Low now on → Low (next now (Mprotect p a len prot)
      (if pages_to_hole (pages w p) (page_of a) (pages_of len) == pages_of len then Done else Refused Enomem))
      (next_areas long on w (Mprotect p a len prot)
      (if pages_to_hole (pages w p) (page_of a) (pages_of len) == pages_of len then Done else Refused Enomem)))
      (sym (same h.1)) (λ c. at c (pages_to_hole (pages w p) (page_of a) (pages_of len) == pages_of len) refl) c)
    where
      after_change : (n : ℕ) → Low w on → Low (set_process w p (with_prot_on (pages w p) (page_of a) n prot))
          (with_at p (pages_changed long (to_prot prot) (page_of a) n (on p)) on)
      after_change n c = covers_set w on p _ _ c (covers_changed long (to_prot prot) (pages w p) (on p) (page_of a) n (with_prot prot) (λ x. refl) (covers_one w on p c))

      at : Low w on → (b : Bool) → (pages_to_hole (pages w p) (page_of a) (pages_of len) == pages_of len) ≡ b
          → Low (next w (Mprotect p a len prot) (if b then Done else Refused Enomem))
          (next_areas long on w (Mprotect p a len prot) (if b then Done else Refused Enomem))
      at c true is = let all : pages_to_hole (pages w p) (page_of a) (pages_of len) ≡ pages_of len = grind (arith, nat_tests, is) in
          subst (λ n. Low (set_process w p (with_prot_on (pages w p) (page_of a) (pages_of len) prot))
          (with_at p (pages_changed long (to_prot prot) (page_of a) n (on p)) on)) (sym all) (after_change (pages_of len) c)
      at c false is = by (wraps a len)
        where
          by : (b : Bool) → Low (if b then w else with_prot_to_hole w p (page_of a) (pages_of len) prot)
              (if b then on else with_at p (areas_to_hole long w p (page_of a) (pages_of len) prot (on p)) on)
          by true = c
          by false = after_change (pages_to_hole (pages w p) (page_of a) (pages_of len)) c
  covers-follows m w now l long on (Mremap p a old new mode) es answer rows other unmoved un same c none h = by h.0 h.2
    where
      by : (to : Option ℕ) → IsMapAt answer to
          → Low (next now (Mremap p a old new mode) answer) (next_areas long on w (Mremap p a old new mode) answer)
      by None e = subst (λ x. Low (next now (Mremap p a old new mode) x) (next_areas long on w (Mremap p a old new mode) x)) (sym e) c
      by (Some to) e = absurd (unmoved p a old new (address_of to) mode refl e)
  covers-follows m w now l long on (Madvise p a len advice) es answer rows other unmoved un same c none h = cc
  covers-follows m w now l long on (Mlock p a len) es answer rows other unmoved un same c none h = cc
  covers-follows m w now l long on (Munlock p a len) es answer rows other unmoved un same c none h = cc
  covers-follows m w now l long on (Read p a n) es answer rows other unmoved un same c none h = c
  covers-follows m w now l long on (Write p a bytes) es answer rows other unmoved un same c none h =
      covers_stored now on p a (first_bytes answer bytes) c
  covers-follows m w now l long on (Reclaim n) es answer rows other unmoved un same c none h = c
  covers-follows m w now l long on (Age n) es answer rows other unmoved un same c none h = c
  covers-follows m w now l long on (Complete n) es answer rows other unmoved un same c none h = c
  covers-follows m w now l long on (Swapon k priority) es answer rows other unmoved un same c none h = c
  covers-follows m w now l long on (Swapoff k) es answer rows other unmoved un same c none h = c
  covers-follows m w now l long on Merge es answer rows other unmoved un same c none h = c
  covers-follows m w now l long on Compact es answer rows other unmoved un same c none h = c
  covers-follows m w now l long on (Maps p) es answer rows other unmoved un same c none h = c
  covers-follows m w now l long on (AsksAreas p) es answer rows other unmoved un same c none h = c
  covers-follows m w now l long on (AsksRmap p a) es answer rows other unmoved un same c none h = c
  covers-follows m w now l long on (AsksEntry p a) es answer rows other unmoved un same c none h = c
  covers-follows m w now l long on (AsksSlot k page) es answer rows other unmoved un same c none h = c
  covers-follows m w now l long on Stat es answer rows other unmoved un same c none h = c

  -- ---- a command that sets flags: the areas after its events are those of the memories then

  hole-same : (q r : Process) (from n : ℕ) → ((page : ℕ) → is_mapped q page ≡ is_mapped r page) → pages_to_hole q from n ≡ pages_to_hole r from n
  hole-same q r from zero same = refl
  hole-same q r from (suc n) same = λ i. cond (same from i) (hole-same q r (from + 1) n same i + 1) 0

  -- what is wiped keeps its marks
  wiped-same : (q : Process) (from n page : ℕ) → marks_of (with_change_on q from n wiped page) ≡ marks_of (q page)
  wiped-same q from n page = by (within from n page) (q page)
    where
      by : (b : Bool) (o : Option Page) → marks_of (cond b (option_map wiped o) o) ≡ marks_of o
      by true None = refl
      by true (Some x) = refl
      by false o = refl

  covers-advised : (now : World) (l : Ledger) (on : Areas) (p from n : ℕ) (q : Process) (change : Option (Flag × Bool)) (es : List Event)
      → es ≡ advice_events l p from (pages_advised q from n change) change → Low (flagged now es) on
      → Low (with_advice now p from n change) on
  covers-advised now l on p from n q None es e c = covers_same now on p _
      (wiped-same (pages now p) from (pages_advised (pages now p) from n None))
      (subst (λ w. Low w on) (unflagged now es (ap set_none e ∙ zaps-set_none l (keys_in l p from (pages_advised q from n None)))) c)
  covers-advised now l on p from n q (Some change) es e c = subst (λ es. Low (flagged now es) on) e c

  covers-flags : (m : Setting) (w now : World) (l : Ledger) (on : Areas) (command : Command) (es : List Event) (answer : Answer) (rows : List Row)
      → sets_flags command ≡ true → ((p page : ℕ) → is_mapped (pages now p) page ≡ is_mapped (pages w p) page) → Low (flagged now es) on
      → refusal (tests m w l command) ≡ None → Follows m w l command es answer rows → Low (next now command answer) on
  covers-flags m w now l on (Madvise p a len advice) es answer rows sets same c none h =
      subst (λ x. Low (next now (Madvise p a len advice) x) on) (sym h.0)
      (by (nat_lt (pages_advised (pages w p) (page_of a) (pages_of len) (flag_of_advice advice)) (pages_of len))
      (pages_to_hole (pages w p) (page_of a) (pages_of len) == pages_of len))
    where
      all : Low (with_advice now p (page_of a) (pages_of len) (flag_of_advice advice)) on
      all = covers-advised now l on p (page_of a) (pages_of len) (pages w p) (flag_of_advice advice) es h.1 c

      good : (b d : Bool) → cond (not b) (Some Esrch) (cond d (Some Einval) None) ≡ None → d ≡ false
      good false d h = cc
      good true true h = cc
      good true false h = refl

      by : (b d : Bool) → Low (next now (Madvise p a len advice) (if b then Refused Einval else (if d then Done else Refused Enomem))) on
      by true d = subst (λ b. Low (if b then now else with_advice now p (page_of a) (pages_of len) (flag_of_advice advice)) on)
          (sym (good (lives w p) (is_bad_range a len) none)) all
      by false true = all
      by false false = all
  covers-flags m w now l on (Mlock p a len) es answer rows sets same c none h =
      by (pages_to_hole (pages w p) (page_of a) (pages_met a len) == pages_met a len) h.3
    where
      from : ℕ
      from = page_of a

      n : ℕ
      n = pages_met a len

      event : Event
      event = lock_event true (pages w p) p (page_of a) (pages_met a len)

      holes : pages_to_hole (pages w p) (page_of a) (pages_met a len) ≡ pages_to_hole (pages now p) (page_of a) (pages_met a len)
      holes = hole-same (pages w p) (pages now p) (page_of a) (pages_met a len) (λ page. sym (same p page))

      -- the memories that the events leave
      locked : set_none h.0 ≡ true → Low (with_lock true now p (page_of a) (pages_met a len)) on
      locked quiet = subst (λ k. Low (set_process now p (with_change_on (pages now p) (page_of a) k (with_page_flag flags.Locked true))) on) holes
          (subst (λ w. Low w on) (unflagged (flagged_by now (lock_event true (pages w p) p (page_of a) (pages_met a len))) h.0 quiet)
          (subst (λ es. Low (flagged now es) on) h.1 c))

      ends : (end : End) → Low (with_lock true now p (page_of a) (pages_met a len)) on
          → Low (next now (Mlock p a len) (write_answer (address_of (page_of a)) end)) on
      ends Whole low = low
      ends (Stopped page Denied) low = low
      ends (Stopped page (Starved out)) low = low
      ends (Stopped page Lost) low = low

      few : (b d e : Bool) → cond (not b) (Some Esrch) (cond d (Some Einval) (cond e (Some Enomem) None)) ≡ None → e ≡ false
      few false d e h = cc
      few true true e h = cc
      few true false true h = cc
      few true false false h = refl

      by : (b : Bool) → MatchBool b (BringsIn m w l p (page_of a) (pages_met a len) h.0 answer) ((h.0 ≡ []) × (answer ≡ Refused Enomem))
          → Low (next now (Mlock p a len) answer) on
      by true q = subst (λ x. Low (next now (Mlock p a len) x) on) (sym q.2)
          (ends q.0 (locked (accesses-set_none m _ l p _ h.0 q.0 q.1)))
      by false q = subst (λ x. Low (next now (Mlock p a len) x) on) (sym q.1)
          (subst (λ b. Low (if b then now else with_lock true now p (page_of a) (pages_met a len)) on)
          (sym (few (lives w p) (ends_too_high a len) (locks_too_many a len) none)) (locked (ap set_none q.0)))
  covers-flags m w now l on (Munlock p a len) es answer rows sets same c none h =
      subst (λ x. Low (next now (Munlock p a len) x) on) (sym h.0)
      (by (pages_to_hole (pages w p) (page_of a) (pages_met a len) == pages_met a len))
    where
      holes : pages_to_hole (pages w p) (page_of a) (pages_met a len) ≡ pages_to_hole (pages now p) (page_of a) (pages_met a len)
      holes = hole-same (pages w p) (pages now p) (page_of a) (pages_met a len) (λ page. sym (same p page))

      unlocked : Low (with_lock false now p (page_of a) (pages_met a len)) on
      unlocked = subst (λ k. Low (set_process now p (with_change_on (pages now p) (page_of a) k (with_page_flag flags.Locked false))) on) holes
          (subst (λ es. Low (flagged now es) on) h.1 c)

      by : (b : Bool) → Low (next now (Munlock p a len) (if b then Done else Refused Enomem)) on
      by true = unlocked
      by false = unlocked
  covers-flags m w now l on command es answer rows sets same c none h = absurd (false≢true sets)

  -- the child's areas are on the parent's pages that go over
  covers_forked : (w : World) (p q : ℕ) (r next : Rmap) → Low w r.areas → AreForked p q r next → Low (set_process w q (child_of (pages w p))) next.areas
  covers_forked w p q r next c forks = record {
    laid = λ k. laid k (k == q) refl;
    marks = λ k page. at k page (k == q) refl ∙ sym (ap marks_of (pages-set w q (child_of (pages w p)) k page ∙ ap (λ b. cond b (child_of (pages w p) page) (pages w k page))
        (same_number k q)));
    low = λ k. low k (k == q) refl;
  }
    where
      child : ChildHas p q r next
      child = child-has p q r next forks

      same_number : (q n : ℕ) → eq_by_cmp nat_cmp q n ≡ (q == n)
      same_number q n = grind (arith, nat_tests)

      whole : (page : ℕ) (a : Area) (o : Option Area) → forked_at (r.areas p page) ≡ o → next.areas q page ≡ Some a
          → (b : Area) × (r.areas p page ≡ Some b) × (in_child q b (child.own page) ≡ a)
      whole page a None e is = absurd (none-some a (sym (child.none page e) ∙ is))
      whole page a (Some b) e is = (b, forked-area (r.areas p page) b e, same_some (sym (child.here page b e) ∙ is))
        where
          same_some : {x y : Area} → Some x ≡ Some y → x ≡ y
          same_some e = cc

      of : (page : ℕ) (a : Area) → next.areas q page ≡ Some a → (b : Area) × (r.areas p page ≡ Some b) × (in_child q b (child.own page) ≡ a)
      of page a is = whole page a (forked_at (r.areas p page)) refl is

      -- it goes over
      goes : (page : ℕ) (a b : Area) → next.areas q page ≡ Some a → r.areas p page ≡ Some b → forked_at (r.areas p page) ≡ Some b
      goes page a b is e = ap forked_at e ∙ by b.flags.dont_fork refl
        where
          by : (d : Bool) → b.flags.dont_fork ≡ d → cond d None (Some b) ≡ Some b
          by true d = absurd (none-some a (sym (child.none page (ap forked_at e ∙ ap (λ d. cond d None (Some b)) d)) ∙ is))
          by false d = refl

      as_whole : (b : Area) (own : Option ℕ) → IsWhole b → IsWhole (in_child q b own)
      as_whole b own h = record { start = h.start; end = h.end; some = h.some; low = h.low; high = h.high; small = h.small }

      child_laid : AreLaid (next.areas q)
      child_laid = record {
        whole = λ page a is. let b = of page a is in subst IsWhole b.2 (as_whole b.0 (child.own page) ((c.laid p).whole page b.0 b.1));
        here = λ page a is. let b = of page a is in subst (λ a. has_page a page ≡ true) b.2 ((c.laid p).here page b.0 b.1);
        all = λ page other a is has. let b = of page a is in
            sym (child.one page other b.0 (goes page a b.0 is b.1) (subst (λ a. has_page a other ≡ true) (sym b.2) has)) ∙ is;
      }

      laid : (k : ℕ) (b : Bool) → (k == q) ≡ b → AreLaid (next.areas k)
      laid k true e = let same : k ≡ q = grind (arith, nat_tests, e) in subst (λ k. AreLaid (next.areas k)) (sym same) child_laid
      laid k false e = let same : next.areas k ≡ r.areas k = (λ i page. child.others k page e i) in subst AreLaid (sym same) (c.laid k)

      low : (k : ℕ) (b : Bool) → (k == q) ≡ b → AreIndicesBelow most (next.areas k)
      low k true e page a is =
          let same : k ≡ q = grind (arith, nat_tests, e) in
          let b = of page a (subst (λ k. next.areas k page ≡ Some a) same is) in
          subst (λ a. index_of a (past_of a) ≤ most) b.2 (c.low p page b.0 b.1)
      low k false e page a is = c.low k page a (sym (child.others k page e) ∙ is)

      -- the marks of what goes over
      over_marks : Prot × Flags → Option (Prot × Flags)
      over_marks m = cond m.1.dont_fork None (Some (m.0, unlocked m.1))

      of_area : (page : ℕ) (o : Option Area) → r.areas p page ≡ o
          → option_map area_marks (next.areas q page) ≡ option_and_then over_marks (option_map area_marks o)
      of_area page None e = ap (option_map area_marks) (child.none page (ap forked_at e))
      of_area page (Some b) e = by b.flags.dont_fork refl
        where
          by : (d : Bool) → b.flags.dont_fork ≡ d
              → option_map area_marks (next.areas q page) ≡ cond d None (Some (b.prot, unlocked b.flags))
          by true d = ap (option_map area_marks) (child.none page (ap forked_at e ∙ ap (λ d. cond d None (Some b)) d))
          by false d = ap (option_map area_marks) (child.here page b (ap forked_at e ∙ ap (λ d. cond d None (Some b)) d))

      of_page : (o : Option Page) → marks_of (option_and_then page_of_child o) ≡ option_and_then over_marks (marks_of o)
      of_page None = refl
      of_page (Some x) = by x.flags.dont_fork x.flags.wipe_on_fork
        where
          by : (d v : Bool) → marks_of (cond d None (Some (without_lock (cond v (wiped x) x)))) ≡ cond d None (Some (x.prot, unlocked x.flags))
          by true v = refl
          by false true = refl
          by false false = refl

      at : (k page : ℕ) (b : Bool) → (k == q) ≡ b
          → option_map area_marks (next.areas k page) ≡ marks_of (cond b (child_of (pages w p) page) (pages w k page))
      at k page true e = let same : k ≡ q = grind (arith, nat_tests, e) in
          ap (λ k. option_map area_marks (next.areas k page)) same ∙ of_area page (r.areas p page) refl
          ∙ ap (option_and_then over_marks) (c.marks p page) ∙ sym (of_page (pages w p page))
      at k page false e = ap (option_map area_marks) (child.others k page e) ∙ c.marks k page

  -- after any command but an mremap that was done
  plain-covers : (m : Setting) (old : State) (command : Command) (reply : Reply) (new : State)
      → ((p a old_len new_len b : ℕ) (mode : Mode) → command ≡ Mremap p a old_len new_len mode → reply.answer ≡ MapAt b → ⊥) → Low old.world old.areas
      → IsStep m old command reply new → Low new.world new.areas
  plain-covers m old command reply new unmoved c h = case (next-cases later old.world command reply.answer (rmap_of new) h.rmap)
    where
      now : World
      now = with_loads m old.world old.ledger h.events

      later : Rmap
      later = rmap_after_all old.ledger h.events (rmap_of old)

      after_events : Low (flagged (with_loads m old.world old.ledger h.events) h.events) (rmap_after_all old.ledger h.events (rmap_of old)).areas
      after_events = covers_events (with_loads m old.world old.ledger h.events) old.ledger h.events (rmap_of old)
          (covers_loads m old.world old.ledger h.events old.areas c)

      after_loads : set_none h.events ≡ true
          → Low (with_loads m old.world old.ledger h.events) (rmap_after_all old.ledger h.events (rmap_of old)).areas
      after_loads quiet = subst (λ w. Low w (rmap_after_all old.ledger h.events (rmap_of old)).areas)
          (unflagged (with_loads m old.world old.ledger h.events) h.events quiet) after_events

      by : ((p q : ℕ) → command ≡ Fork p q → reply.answer ≡ Done → ⊥) → (o : Option Errno) → refusal (tests m old.world old.ledger command) ≡ o
          → MatchOption o (Follows m old.world old.ledger command h.events reply.answer reply.rows)
          (λ error. Refuses error h.events reply.answer reply.rows)
          → Low (next_world m old.world old.ledger h.events command reply.answer)
          (next_areas (chain_length (rmap_after_all old.ledger h.events (rmap_of old)).anons)
          (rmap_after_all old.ledger h.events (rmap_of old)).areas old.world command reply.answer)
      by other None is x = flags (sets_flags command) refl
        where
          flags : (b : Bool) → sets_flags command ≡ b → Low (next_world m old.world old.ledger h.events command reply.answer)
              (next_areas (chain_length (rmap_after_all old.ledger h.events (rmap_of old)).anons)
              (rmap_after_all old.ledger h.events (rmap_of old)).areas old.world command reply.answer)
          flags true sets = subst (Low (next_world m old.world old.ledger h.events command reply.answer))
              (sym (flags-areas (chain_length later.anons) later.areas old.world command reply.answer sets))
              (covers-flags m old.world (with_loads m old.world old.ledger h.events) old.ledger later.areas command h.events reply.answer reply.rows
              sets (map_count-loads m old.world old.ledger h.events) after_events is x)
          flags false un = covers-follows m old.world (with_loads m old.world old.ledger h.events) old.ledger
              (chain_length later.anons) later.areas command h.events reply.answer reply.rows
              other unmoved un (loads-none m old.world old.ledger h.events)
              (after_loads (follows-set_none m old.world old.ledger command h.events reply.answer reply.rows un x)) is x
      by other (Some error) is x = subst (λ a. Low (next (with_loads m old.world old.ledger h.events) command a)
          (next_areas (chain_length later.anons) later.areas old.world command a)) (sym x.0)
          (subst (λ w. Low w (next_areas (chain_length later.anons) later.areas old.world command (Refused error)))
          (sym (refused-next m old.world (with_loads m old.world old.ledger h.events) old.ledger command error is))
          (subst (Low (with_loads m old.world old.ledger h.events))
          (sym (refused-areas m old.world old.ledger (chain_length later.anons) later.areas command error is)) (after_loads (ap set_none x.1))))

      case : IsPlain later old.world command reply.answer (rmap_of new) ⊎ IsFork later command reply.answer (rmap_of new) → Low new.world new.areas
      case (inl plain) = subst (Low new.world) (sym plain.is.areas) (subst (λ w. Low w
          (next_areas (chain_length later.anons) later.areas old.world command reply.answer)) (sym h.world)
          (by plain.other (refusal (tests m old.world old.ledger command)) refl h.legal.answer))
      case (inr fork) = subst (λ w. Low w new.areas)
          (sym (h.world ∙ (λ i. next (with_loads m old.world old.ledger h.events) (fork.command_is i) (fork.answer_is i))))
          (covers_forked (with_loads m old.world old.ledger h.events) fork.parent fork.child later (rmap_of new)
          (after_loads (legal-set_none m old.world old.ledger command reply h.events (ap sets_flags fork.command_is) h.legal)) fork.forked)

-- ---- an mremap that was done

low-more : (a b : ℕ) (w : World) (on : Areas) → a ≤ b → (x : top_page ≤ a) → (y : top_page ≤ b) → Low a x w on → Low b y w on
low-more a b w on less x y c = record { laid = c.laid; marks = c.marks; low = λ p. indices_more a b (on p) less (c.low p) }

covers_remapped : (m : Setting) (w : World) (l : Ledger) (long : Lengths) (on : Areas) (p a old new to most : ℕ) (mode : Mode)
    (high : top_page ≤ most)
    (higher : top_page ≤ most + top_page)
    → most + top_page ≤ 2 ^ 60 → Low most high w on → refusal (tests m w l (Mremap p a old new mode)) ≡ None
    → MovesTo (pages w p) (page_of a) (pages_of old) (pages_of new) mode (Some to)
    → Low (most + top_page) higher (next w (Mremap p a old new mode) (MapAt (address_of to)))
    (next_areas long on w (Mremap p a old new mode) (MapAt (address_of to)))
covers_remapped m w l long on p a old new to most mode high higher fits c none goes =
    subst (λ b. Low (most + top_page) higher
    (set_process w p (process_after_mremap (page_of a) (pages_of old) b (pages_of new) left (pages w p)))
    (with_at p (after_mremap long p (page_of a) (pages_of old) b (pages_of new) left (on p)) on)) (sym back)
    (covers_set (most + top_page) higher w on p (process_after_mremap (page_of a) (pages_of old) to (pages_of new) left (pages w p))
    (after_mremap long p (page_of a) (pages_of old) to (pages_of new) left (on p))
    (low-more most (most + top_page) w on (omega arith) high higher c) there)
  where
    left : Bool
    left = leaves_old mode

    back : page_of (address_of to) ≡ to
    back = omega arith

    may : MayRemap w p a old new mode
    may = may-remap m w l p a old new mode none

    one : Covers most high (pages w p) (on p)
    one = covers_one most high w on p c

    small : ((to == page_of a) ≡ false) ⊎ (pages_of old < pages_of new)
        → IsSomeAnd (on p (page_of a + min (pages_of old) (pages_of new) - 1))
        (λ area. index_of area (page_of a + min (pages_of old) (pages_of new) - 1) + (pages_of new - min (pages_of old) (pages_of new)) < 2 ^ 60)
    small = small-enough w p a old new mode to most may goes (on p) one.laid one.same one.low fits

    there : Covers (most + top_page) higher (process_after_mremap (page_of a) (pages_of old) to (pages_of new) left (pages w p))
        (after_mremap long p (page_of a) (pages_of old) to (pages_of new) left (on p))
    there = record {
      laid = laid_becomes w p a old new mode to may goes (on p) one.laid one.same small long;
      same = marks_become w p a old new mode to may goes (on p) one.laid one.same small long;
      low = indices_remapped long p (page_of a) (pages_of old) to (pages_of new) left (on p) one.laid
          (becomes w p a old new mode to may goes (on p) one.laid one.same small long) most high one.low;
    }

-- whether an mremap was done
record IsRemapped (command : Command) (answer : Answer) : Type 0 where
  p : ℕ
  a : ℕ
  old_len : ℕ
  new_len : ℕ
  mode : Mode
  b : ℕ
  command_is : command ≡ Mremap p a old_len new_len mode
  answer_is : answer ≡ MapAt b

remapped-cases : (command : Command) (answer : Answer)
    → IsRemapped command answer ⊎ ((p a old_len new_len b : ℕ) (mode : Mode) → command ≡ Mremap p a old_len new_len mode → answer ≡ MapAt b → ⊥)
remapped-cases (Mremap p a old_len new_len mode) (MapAt b) =
    inl (record { p = p; a = a; old_len = old_len; new_len = new_len; mode = mode; b = b; command_is = refl; answer_is = refl })
remapped-cases command answer = inr (λ p a old_len new_len b mode e d. cc)

remap-step : (m : Setting) (most : ℕ) (high : top_page ≤ most) (higher : top_page ≤ most + top_page) (old : State) (p a old_len new_len b : ℕ)
    (mode : Mode) (reply : Reply) (new : State)
    → most + top_page ≤ 2 ^ 60 → reply.answer ≡ MapAt b → Low most high old.world old.areas → IsStep m old (Mremap p a old_len new_len mode) reply new
    → Low (most + top_page) higher new.world new.areas
remap-step m most high higher old p a old_len new_len b mode reply new fits done c h =
    by (refusal (tests m old.world old.ledger command)) refl h.legal.answer
  where
    command : Command
    command = Mremap p a old_len new_len mode

    later : Rmap
    later = rmap_after_all old.ledger h.events (rmap_of old)

    areas : new.areas ≡ next_areas (chain_length later.anons) later.areas old.world command reply.answer
    areas = (plain-next later old.world command reply.answer (rmap_of new) refl h.rmap).areas

    still : Low most high old.world later.areas
    still = subst (λ w. Low most high w later.areas)
        (unflagged old.world h.events (legal-set_none m old.world old.ledger command reply h.events refl h.legal))
        (covers_events most high old.world old.ledger h.events (rmap_of old) c)

    follows : refusal (tests m old.world old.ledger command) ≡ None → (to : Option ℕ)
        → MovesTo (pages old.world p) (page_of a) (pages_of old_len) (pages_of new_len) mode to → IsMapAt reply.answer to
        → h.events ≡ events_to old.ledger p (page_of a) (pages_of old_len) to (pages_of new_len) → Low (most + top_page) higher new.world new.areas
    follows none None goes e es = absurd (let both = sym done ∙ e in cc)
    follows none (Some to) goes e es =
        let loaded = without-loads m old.world old.ledger h.events
        (ap (list_all loads_nothing) es ∙ events_to-load_nothing old.ledger p (page_of a) (pages_of old_len) (pages_of new_len) (Some to)) in
        subst (λ x. Low (most + top_page) higher x new.areas) (sym (h.world ∙ (λ i. next (loaded i) command (e i))))
        (subst (Low (most + top_page) higher (next old.world command (MapAt (address_of to))))
        (sym (areas ∙ ap (next_areas (chain_length later.anons) later.areas old.world command) e))
        (covers_remapped m old.world old.ledger (chain_length later.anons) later.areas p a old_len new_len to most mode high higher fits
        still none goes))

    by : (o : Option Errno) → refusal (tests m old.world old.ledger command) ≡ o
        → MatchOption o (Follows m old.world old.ledger command h.events reply.answer reply.rows)
        (λ error. Refuses error h.events reply.answer reply.rows)
        → Low (most + top_page) higher new.world new.areas
    by None is x = follows is x.0 x.1 x.2 x.3
    by (Some error) is x = absurd (let both = sym done ∙ x.0 in cc)

-- ---- steps and runs

low-step : (m : Setting) (most : ℕ) (high : top_page ≤ most) (higher : top_page ≤ most + top_page) (old : State) (command : Command) (reply : Reply)
    (new : State)
    → most + top_page ≤ 2 ^ 60 → Low most high old.world old.areas → IsStep m old command reply new → Low (most + top_page) higher new.world new.areas
low-step m most high higher old command reply new fits c h = by (remapped-cases command reply.answer)
  where
    by : IsRemapped command reply.answer
        ⊎ ((p a old_len new_len b : ℕ) (mode : Mode) → command ≡ Mremap p a old_len new_len mode → reply.answer ≡ MapAt b → ⊥)
        → Low (most + top_page) higher new.world new.areas
    by (inl r) = remap-step m most high higher old r.p r.a r.old_len r.new_len r.b r.mode reply new fits r.answer_is c
        (subst (λ command. IsStep m old command reply new) r.command_is h)
    by (inr unmoved) = low-more most (most + top_page) new.world new.areas (omega arith) high higher
        (plain-covers most high m old command reply new unmoved c h)

pub to_low : (most : ℕ) (high : top_page ≤ most) (w : World) (on : Areas) → CoverBelow most w on → Low most high w on
to_low most high w on c = record { laid = c.cover.laid; marks = c.cover.marks; low = c.low }

from_low : (most : ℕ) (high : top_page ≤ most) (w : World) (on : Areas) → Low most high w on → CoverBelow most w on
from_low most high w on c = record { cover = record { laid = c.laid; marks = c.marks }; low = c.low }

-- areas are laid once events have prepared some
pub later-laid : (m : Setting) (most : ℕ) (old : State) (es : List Event) → top_page ≤ most → CoverBelow most old.world old.areas
    → (p : ℕ) → AreLaid ((rmap_after_all old.ledger es (rmap_of old)).areas p)
later-laid m most old es high c p = (covers_events most high old.world old.ledger es (rmap_of old) (to_low most high old.world old.areas c)).laid p

pub step-covers : (m : Setting) (most : ℕ) (old : State) (command : Command) (reply : Reply) (new : State) → top_page ≤ most
    → most + top_page ≤ 2 ^ 60
    → CoverBelow most old.world old.areas → IsStep m old command reply new → CoverBelow (most + top_page) new.world new.areas
step-covers m most old command reply new high fits c h =
    let higher : top_page ≤ most + top_page = omega arith in
    from_low (most + top_page) higher new.world new.areas
    (low-step m most high higher old command reply new fits (to_low most high old.world old.areas c) h)

-- each command raises indices by no more than the pages of a process
run-below : (m : Setting) (most : ℕ) (old : State) (es : List Exchange) (new : State) → top_page ≤ most → most + length es * top_page ≤ 2 ^ 60
    → CoverBelow most old.world old.areas → IsRun m old es new → CoverBelow (most + length es * top_page) new.world new.areas
run-below m most old [] new high fits c h =
    subst (λ k. CoverBelow k new.world new.areas) (zero_more most) (subst (λ (s : State). CoverBelow most s.world s.areas) (sym h) c)
  where
    zero_more : (k : ℕ) → k ≡ k + 0 * top_page
    zero_more k = omega arith
run-below m most old (e ∷ es) new high fits c h =
    subst (λ k. CoverBelow k new.world new.areas) (one_more most (length es))
    (run-below m (most + top_page) h.0 es new (omega arith) (omega (arith, fits))
    (step-covers m most old e.command e.reply h.0 high (omega (arith, fits)) c h.1) h.2)
  where
    one_more : (k n : ℕ) → k + top_page + n * top_page ≡ k + suc n * top_page
    one_more k n = omega arith

pub first-covers : (m : Setting) → CoverBelow top_page (at_first m).world (at_first m).areas
first-covers m = record {
  cover = record { laid = λ p. (covers_none top_page (omega arith)).laid; marks = λ p page. refl };
  low = λ p page area e. absurd (none-some area e);
}

pub run-covers : (m : Setting) (es : List Exchange) (new : State) → length es ≤ 2 ^ 24 → IsRun m (at_first m) es new → CoverPages new.world new.areas
run-covers m es new few h = (run-below m top_page (at_first m) es new (omega arith) (omega (arith, few)) (first-covers m) h).cover

-- so there is room for any growth
pub run-fits : (m : Setting) (es : List Exchange) (new : State) (p page n : ℕ) (area : Area) → length es ≤ 2 ^ 24 → IsRun m (at_first m) es new
    → new.areas p page ≡ Some area → n ≤ top_page → index_of area (past_of area) + n < 2 ^ 60
run-fits m es new p page n area few h is small =
    let below = (run-below m top_page (at_first m) es new (omega arith) (omega (arith, few)) (first-covers m) h).low p page area is in
    omega (arith, below, small, few)
