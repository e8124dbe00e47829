-- In a run frames and slots are covered.
use Rattle.std.proofs.Common.{◌≡◌, ℕ, ◌+◌, ◌-◌, ◌*◌, ◌^◌, ◌<◌, ◌≤◌, min, Bool, true, false, cond, if◌then◌else◌, ◌&&◌, suc, List, [], ◌∷◌, ◌++◌, length, Option, Some, None, is_some, not, option_map, IfSome, IsSome, refl, sym, ap, subst, ◌∙◌, arith, ◌==◌}
use Rattle.std.proofs.lemmas.Bool.{false≢true}
use Rattle.std.proofs.lemmas.Bool.Decides.{nat_tests}
use Rattle.std.specs.Option.{option_map_or}
use Rattle.std.specs.Prelude.{MatchBool, MatchOption}
use Rattle.av_base.specs.Limits.{most_commands, top_page}
use Rattle.av_base.specs.Page.{address_of, page_of, pages_met, pages_of}
use Rattle.av_base.specs.Words.{with_at, within}
use Rattle.av_base.specs.Flags.{no_flags}
use Rattle.av_base.specs.declared.flags.Flag.{Flag}
use Rattle.av_base.specs.declared.flags.Flag.TheVariants as locks
use Rattle.av_base.specs.declared.flags.Flags.{Flags}
use Rattle.av_base.specs.declared.prot.Prot.{Prot}
use Rattle.av_vma.specs.Pages.{after_map, after_unmap, home_of, to_prot}
use Rattle.av_vma.specs.Gap.{IsRoom}
use Rattle.av_vma.specs.declared.area.Area.{Area}
use Rattle.av_vma.proofs.Homes.{homes_unmapped}
use Rattle.av_vma.proofs.Laid.{has_area}
use Rattle.av_vma.proofs.Marks.{area_marks}
use Rattle.av_vma.proofs.Owns.{AddsNoOwn, owns_unmapped}
use Rattle.av_trace.specs.declared.command.Command.{Command}
use Rattle.av_trace.specs.declared.command.Command.TheVariants.{Compact, Merge, Spawn, Fork, Exit, Mmap, Mremap, Munmap, Mprotect, Madvise, Mlock, Munlock, Read, Write, Reclaim, Age, Complete, Swapon, Swapoff, Maps, Areas as AsksAreas, Rmap as AsksRmap, Entry as AsksEntry, Slot as AsksSlot, Stat}
use Rattle.av_trace.specs.declared.advice.Advice.{Advice}
use Rattle.av_trace.specs.declared.mode.Mode.{Mode}
use Rattle.av_trace.specs.declared.place.Place.{Place}
use Rattle.av_trace.specs.declared.place.Place.TheVariants.{Auto, At, Fixed, NoReplace}
use Rattle.av_trace.specs.declared.reply.Answer.{Answer}
use Rattle.av_trace.specs.declared.reply.Answer.TheVariants.{Done, MapAt, Refused}
use Rattle.av_trace.specs.declared.reply.Errno.{Errno}
use Rattle.av_trace.specs.declared.reply.Errno.TheVariants.{Enomem}
use Rattle.av_trace.specs.declared.reply.Reply.{Reply}
use Rattle.av_plain.specs.Areas.{AreNext, Rmap, areas_to_hole, chain_length, next_areas, rmap_after, rmap_after_all, rmap_after_flag, with_room}
use Rattle.av_plain.specs.Covered.{AreMergedCovered, AreSlotsCovered, IsRmapSound}
use Rattle.av_plain.specs.Event.{Event, FlagSet, Forked, EntriesMoved, after_all}
use Rattle.av_plain.specs.Fork.{AreForked, IsRmapNext, goes_over, inheritance}
use Rattle.av_plain.specs.Ledger.{Ledger, Setting, entry}
use Rattle.av_plain.specs.Load.{with_loads}
use Rattle.av_plain.specs.Lock.{BringsIn, Locks, accesses_of, lock_event, with_lock}
use Rattle.av_plain.specs.Advice.{advice_events, flag_of_advice, pages_advised}
use Rattle.av_plain.specs.Map.{zaps_for_place}
use Rattle.av_plain.specs.Mremap.{MovesTo, after_mremap, events_to, leaves_old, range_zaps, remap_events}
use Rattle.av_plain.specs.Place.{Goes, IsMapAt}
use Rattle.av_plain.specs.Refusal.{Refuses, refusal, tests, wraps}
use Rattle.av_plain.specs.Sound.{AllSound, AtPages, IsSound}
use Rattle.av_plain.specs.Step.{Follows, next, next_world}
use Rattle.av_plain.specs.Transcript.{Exchange, IsRun, IsStep, State, at_first, rmap_of}
use Rattle.av_plain.specs.World.{Page, World, lives, pages, pages_to_hole, pages_to_locked}
use Rattle.av_plain.specs.Zap.{keys_in, keys_of_process, zaps_of}
use Rattle.av_plain.proofs.AreasLeft.{rmap_after_all-append, rmap_after_all-zaps}
use Rattle.av_plain.proofs.Covered.{merged-first, sound-first}
use Rattle.av_plain.proofs.Covered.AreaCommands.{exit-reach, change-reach, flag-reach, map-reach, spawn-reach, unmap-reach}
use Rattle.av_plain.proofs.Covered.Fork.{GoWhole, IsWhole, sound-forked}
use Rattle.av_plain.proofs.Covered.Mremap.{merged-remapped, slots-remapped, sound-remapped}
use Rattle.av_plain.proofs.Covered.Page.{Lies, ReachAt, accesses-reach}
use Rattle.av_plain.proofs.Covered.MergedFork.{merged-forked}
use Rattle.av_plain.proofs.Covered.SlotsFork.{slots-forked}
use Rattle.av_plain.proofs.Covered.Swap.{Reach}
use Rattle.av_plain.proofs.Covered.SwapCommands.{access-covered, reach-left, step-covered}
use Rattle.av_plain.proofs.Covered.Zaps.{zaps-reach}
use Rattle.av_plain.proofs.Fork.{inherited-goes}
use Rattle.av_plain.proofs.Mremap.Areas.{IsRemap}
use Rattle.av_plain.proofs.Mremap.Cover.{becomes, small-enough}
use Rattle.av_plain.proofs.Refusal.{MayRemap, may-fork, may-remap, refused-areas}
use Rattle.av_plain.proofs.Sound.{first-sound, no_entries, step-sound}
use Rattle.av_plain.proofs.Sound.Counts.{same-is}
use Rattle.av_plain.proofs.Transcript.{is_fork, plain-next}
use Rattle.av_plain.proofs.Zap.{entry-range}
use Rattle.av_laws.specs.Covered.{CoverBelow}
use Rattle.av_laws.proofs.Covered.{Covers, Low, Room, covers_events, covers_one, first-covers, marks_of, mmap-room, step-covers, to_low}
use Rattle.av_laws.proofs.Flagged.{flags-areas, sets_flags}

-- frames and slots are covered
abbrev pub IsCovered : State → Type 0
IsCovered s = IsRmapSound s.ledger (rmap_of s) × AreSlotsCovered s.ledger (rmap_of s) × AreMergedCovered s.ledger (rmap_of s)

module _ (m : Setting) (most : ℕ) (high : top_page ≤ most) (fits : most + top_page ≤ 2 ^ 60) (old : State) (reply : Reply) (new : State)
    (c : CoverBelow most old.world old.areas) (s : AllSound m old.world old.ledger) (s' : AllSound m new.world new.ledger)
    (sound : IsRmapSound old.ledger (rmap_of old)) (slots : AreSlotsCovered old.ledger (rmap_of old))
    (merged : AreMergedCovered old.ledger (rmap_of old)) where
  abbrev l : Ledger
  l = old.ledger

  abbrev r : Rmap
  r = rmap_of old

  before : Reach l r
  before = record { in_order = s.ledger.in_order; once = s.ledger.slots_once; sound = sound; slots = slots; merged = merged }

  -- a step whose events leave areas, anon_vmas and homes, by what was answered
  quiet : (command : Command) → is_fork command ≡ false → (h : IsStep m old command reply new) → (es : List Event) → h.events ≡ es
      → rmap_after_all l es r ≡ r
      → (answer : Answer) → reply.answer ≡ answer
      → (AreNext r old.world command answer (rmap_of new) → AtPages (next (with_loads m old.world l h.events) command answer) (after_all l es)
      → Reach (after_all l es) (rmap_of new)) → IsCovered new
  quiet command other h es is silent answer answered goes =
      let end : Reach new.ledger (rmap_of new) = subst (λ x. Reach x (rmap_of new)) (sym (h.ledger ∙ ap (after_all l) is)) (goes now at) in
      (end.sound, end.slots, end.merged)
    where
      now : AreNext r old.world command answer (rmap_of new)
      now = subst (λ a. AreNext r old.world command a (rmap_of new)) answered
          (subst (λ x. AreNext x old.world command reply.answer (rmap_of new)) (ap (λ es. rmap_after_all l es r) is ∙ silent)
          (plain-next (rmap_after_all l h.events r) old.world command reply.answer (rmap_of new) other h.rmap))

      at : AtPages (next (with_loads m old.world l h.events) command answer) (after_all l es)
      at = subst (λ a. AtPages (next (with_loads m old.world l h.events) command a) (after_all l es)) answered
          (subst (AtPages (next_world m old.world l h.events command reply.answer)) (h.ledger ∙ ap (after_all l) is)
          (subst (λ w. AtPages w new.ledger) h.world s'.at_pages))

  -- nothing happens, and the areas stay
  still : (command : Command) → is_fork command ≡ false → (h : IsStep m old command reply new) → h.events ≡ [] → (answer : Answer)
      → reply.answer ≡ answer
      → next_areas (chain_length r.anons) r.areas old.world command answer ≡ r.areas → IsCovered new
  still command other h is answer answered same = quiet command other h [] is refl answer answered
      (λ n at. reach-left l r (rmap_of new) (n.areas ∙ same) n.anons n.homes n.items before)

  -- ---- commands of one process

  spawned : (p : ℕ) (h : IsStep m old (Spawn p) reply new) → reply.answer ≡ Done → h.events ≡ [] → IsCovered new
  spawned p h done is = quiet (Spawn p) refl h [] is refl Done done
      (λ n at. spawn-reach (with_loads m old.world l h.events) l r (rmap_of new) p n.areas at n.anons n.homes n.items before)

  ended : (p : ℕ) (h : IsStep m old (Exit p) reply new) → reply.answer ≡ Done → h.events ≡ zaps_of l (keys_of_process l p) → IsCovered new
  ended p h done is = quiet (Exit p) refl h (zaps_of l (keys_of_process l p)) is (rmap_after_all-zaps l (keys_of_process l p) l r) Done done
      (λ n at. exit-reach (with_loads m old.world l h.events) (after_all l (zaps_of l (keys_of_process l p))) r (rmap_of new) p n.areas at
      n.anons n.homes n.items
      (zaps-reach l r (keys_of_process l p) before))

  unmapped : (p a len : ℕ) (h : IsStep m old (Munmap p a len) reply new) → reply.answer ≡ Done
      → h.events ≡ zaps_of l (keys_in l p (page_of a) (pages_of len)) → IsCovered new
  unmapped p a len h done is =
      let ks = keys_in l p (page_of a) (pages_of len) in
      quiet (Munmap p a len) refl h (zaps_of l ks) is (rmap_after_all-zaps l ks l r) Done done
      (λ n at. unmap-reach (with_loads m old.world l h.events) (after_all l (zaps_of l ks)) r (rmap_of new) p (page_of a) (pages_of len)
      (c.cover.laid p)
      n.areas at n.anons n.homes n.items (zaps-reach l r ks before))

  protected : (p a len : ℕ) (prot : Prot) (h : IsStep m old (Mprotect p a len prot) reply new)
      → refusal (tests m old.world l (Mprotect p a len prot)) ≡ None
      → reply.answer ≡ (if pages_to_hole (pages old.world p) (page_of a) (pages_of len) == pages_of len then Done else Refused Enomem) → h.events ≡ []
      → IsCovered new
  protected p a len prot h none answered is = by (pages_to_hole (pages old.world p) (page_of a) (pages_of len) == pages_of len) answered
    where
      changes : AreNext r old.world (Mprotect p a len prot) Done (rmap_of new) → Reach l (rmap_of new)
      changes n = change-reach l r (rmap_of new) p (page_of a) (pages_to_hole (pages old.world p) (page_of a) (pages_of len))
          (to_prot prot) (c.cover.laid p) n.areas n.anons n.homes n.items before

      by : (b : Bool) → reply.answer ≡ (if b then Done else Refused Enomem) → IsCovered new
      by true e = quiet (Mprotect p a len prot) refl h [] is refl Done e (λ n at. changes n)
      by false e = quiet (Mprotect p a len prot) refl h [] is refl (Refused Enomem) e (λ n at. wrapped n (wraps a len) refl)
        where
          wrapped : AreNext r old.world (Mprotect p a len prot) (Refused Enomem) (rmap_of new) → (b : Bool) → wraps a len ≡ b → Reach l (rmap_of new)
          wrapped n true e = reach-left l r (rmap_of new) (n.areas ∙ ap (λ b. if b then r.areas
              else with_at p (areas_to_hole (chain_length r.anons) old.world p (page_of a) (pages_of len) prot (r.areas p)) r.areas) e)
              n.anons n.homes n.items before
          wrapped n false e = change-reach l r (rmap_of new) p (page_of a) (pages_to_hole (pages old.world p) (page_of a) (pages_of len))
              (to_prot prot) (c.cover.laid p)
              (n.areas ∙ ap (λ b. if b then r.areas
              else with_at p (areas_to_hole (chain_length r.anons) old.world p (page_of a) (pages_of len) prot (r.areas p)) r.areas) e)
              n.anons n.homes n.items before

  -- ---- a mapping

  place-silent : (p n : ℕ) (place : Place) → rmap_after_all l (zaps_for_place l p n place) r ≡ r
  place-silent p n Auto = refl
  place-silent p n (At a) = refl
  place-silent p n (Fixed a) = rmap_after_all-zaps l (keys_in l p (page_of a) n) l r
  place-silent p n (NoReplace a) = refl

  place-reach : (p n : ℕ) (place : Place) → Reach (after_all l (zaps_for_place l p n place)) r
  place-reach p n Auto = before
  place-reach p n (At a) = before
  place-reach p n (Fixed a) = zaps-reach l r (keys_in l p (page_of a) n) before
  place-reach p n (NoReplace a) = before

  place-adds : (p n : ℕ) (place : Place) → AddsNoOwn (r.areas p) (with_room n place (r.areas p))
  place-adds p n Auto page own has = (page, has)
  place-adds p n (At a) page own has = (page, has)
  place-adds p n (Fixed a) page own has = owns_unmapped (page_of a) (page_of a + n) (r.areas p) page own has
  place-adds p n (NoReplace a) page own has = (page, has)

  place-keeps : (p n : ℕ) (place : Place) (page : ℕ) (home : ℕ × ℕ) → is_some (entry (after_all l (zaps_for_place l p n place)) (p, page)) ≡ true
      → home_of page (r.areas p page) ≡ Some home → home_of page (with_room n place (r.areas p) page) ≡ Some home
  place-keeps p n Auto page home there is = is
  place-keeps p n (At a) page home there is = is
  place-keeps p n (NoReplace a) page home there is = is
  place-keeps p n (Fixed a) page home there is = by (within (page_of a) n page) refl
    where
      gone : within (page_of a) n page ≡ true → entry (after_all l (zaps_of l (keys_in l p (page_of a) n))) (p, page) ≡ None
      gone e = entry-range l p (page_of a) n p page
          ∙ ap (λ b. cond b None (entry l (p, page))) (inside (p == p) (within (page_of a) n page) (itself p) e)
        where
          itself : (p : ℕ) → (p == p) ≡ true
          itself p = grind (arith, nat_tests)

          inside : (a b : Bool) → a ≡ true → b ≡ true → (a && b) ≡ true
          inside true b h e = e
          inside false b h e = h

      by : (b : Bool) → within (page_of a) n page ≡ b → home_of page (after_unmap (page_of a) (page_of a + n) (r.areas p) page) ≡ Some home
      by true e = absurd (false≢true (sym (ap is_some (gone e)) ∙ there))
      by false e = homes_unmapped (page_of a) (page_of a + n) (r.areas p) (c.cover.laid p) page (stays (page_of a) n page e) ∙ is
        where
          stays : (from n page : ℕ) → within from n page ≡ false → within from (from + n - from) page ≡ false
          stays from n page e = grind (arith, nat_tests, e)

  mapped : (p len : ℕ) (prot : Prot) (place : Place) (h : IsStep m old (Mmap p len prot place) reply new)
      → refusal (tests m old.world l (Mmap p len prot place)) ≡ None → (to : Option ℕ) → Goes (pages old.world p) (pages_of len) place to →
      IsMapAt reply.answer to
      → h.events ≡ zaps_for_place l p (pages_of len) place → IsCovered new
  mapped p len prot place h none None goes e is = quiet (Mmap p len prot place) refl h (zaps_for_place l p (pages_of len) place) is
      (place-silent p (pages_of len) place) (Refused Enomem) e
      (λ n at. reach-left (after_all l (zaps_for_place l p (pages_of len) place)) r (rmap_of new) n.areas n.anons n.homes n.items
      (place-reach p (pages_of len) place))
  mapped p len prot place h none (Some page) goes e is = quiet (Mmap p len prot place) refl h (zaps_for_place l p (pages_of len) place) is
      (place-silent p (pages_of len) place) (MapAt (address_of page)) e
      (λ n at. map-reach (after_all l (zaps_for_place l p (pages_of len) place)) r (rmap_of new) p page (page + pages_of len) prot no_flags
      (with_room (pages_of len) place (r.areas p)) room.laid some free (place-adds p (pages_of len) place) (place-keeps p (pages_of len) place)
      (subst (λ f. (rmap_of new).areas ≡ with_at p
      (after_map (chain_length r.anons) p f (f + pages_of len) prot no_flags (with_room (pages_of len) place (r.areas p)))
      r.areas) (back page) n.areas) n.anons n.homes n.items (place-reach p (pages_of len) place))
    where
      back : (page : ℕ) → page_of (address_of page) ≡ page
      back page = omega arith

      room : Room most high (pages old.world p) (with_room (pages_of len) place (r.areas p)) page (pages_of len)
      room = mmap-room most high m old.world old.world l r.areas p len prot place (zaps_for_place l p (pages_of len) place) page (λ _. refl)
          (to_low most high old.world old.areas c) none goes refl

      some : page < page + pages_of len
      some = let h = room.some in omega (arith, h)

      free : IsRoom (has_area (with_room (pages_of len) place (r.areas p))) (page + pages_of len - page) page
      free = subst (λ k. IsRoom (has_area (with_room (pages_of len) place (r.areas p))) k page) (sym (rest page (pages_of len))) room.free
        where
          rest : (a b : ℕ) → a + b - a ≡ b
          rest a b = omega arith

  -- ---- an mremap

  remap-silent : (p from n to k : ℕ) → rmap_after_all l (remap_events l p from n to k) r ≡ r
  remap-silent p from n to k = by (to == from)
    where
      target : List Event
      target = range_zaps l p to k

      tail : List Event
      tail = range_zaps (after_all l (range_zaps l p to k)) p (from + k) (n - k)

      by : (b : Bool) → rmap_after_all l (if b then range_zaps l p (from + k) (n - k)
          else range_zaps l p to k ++ range_zaps (after_all l (range_zaps l p to k)) p (from + k) (n - k)
          ++ EntriesMoved p (min n k) from to ∷ []) r ≡ r
      by true = rmap_after_all-zaps l (keys_in l p (from + k) (n - k)) l r
      by false = rmap_after_all-append l (target ++ tail) (EntriesMoved p (min n k) from to ∷ []) r ∙ rmap_after_all-append l target tail r
          ∙ rmap_after_all-zaps (after_all l target) (keys_in (after_all l target) p (from + k) (n - k)) (after_all l target)
          (rmap_after_all l target r)
          ∙ rmap_after_all-zaps l (keys_in l p to k) l r

  remapped : (p a old_len new_len : ℕ) (mode : Mode) (h : IsStep m old (Mremap p a old_len new_len mode) reply new)
      → refusal (tests m old.world l (Mremap p a old_len new_len mode)) ≡ None → (to : Option ℕ)
      → MovesTo (pages old.world p) (page_of a) (pages_of old_len) (pages_of new_len) mode to → IsMapAt reply.answer to
      → h.events ≡ events_to l p (page_of a) (pages_of old_len) to (pages_of new_len) → IsCovered new
  remapped p a old_len new_len mode h none None goes e is = still (Mremap p a old_len new_len mode) refl h is (Refused Enomem) e refl
  remapped p a old_len new_len mode h none (Some to) goes e is =
      quiet (Mremap p a old_len new_len mode) refl h (remap_events l p (page_of a) (pages_of old_len) to (pages_of new_len)) is
      (remap-silent p (page_of a) (pages_of old_len) to (pages_of new_len)) (MapAt (address_of to)) e (λ n at. record {
        in_order = later.in_order;
        once = later.slots_once;
        sound = sound-remapped l p (page_of a) (pages_of old_len) to (pages_of new_len) left r (rmap_of new) s.ledger.in_order (c.cover.laid p) may
            (areas n) n.anons n.homes sound;
        slots = slots-remapped l p (page_of a) (pages_of old_len) to (pages_of new_len) left r (rmap_of new) s.ledger.in_order (c.cover.laid p) may
            (areas n) n.anons n.homes sound slots;
        merged = merged-remapped l p (page_of a) (pages_of old_len) to (pages_of new_len) left r (rmap_of new) s.ledger.in_order (c.cover.laid p) may
            (areas n) n.anons n.homes n.items sound slots merged;
      })
    where
      left : Bool
      left = leaves_old mode

      back : page_of (address_of to) ≡ to
      back = omega arith

      later : IsSound m (after_all l (remap_events l p (page_of a) (pages_of old_len) to (pages_of new_len)))
      later = subst (IsSound m) (h.ledger ∙ ap (after_all l) is) s'.ledger

      one : Covers most high (pages old.world p) (r.areas p)
      one = covers_one most high old.world r.areas p (to_low most high old.world old.areas c)

      allowed : MayRemap old.world p a old_len new_len mode
      allowed = may-remap m old.world l p a old_len new_len mode none

      may : IsRemap (page_of a) (pages_of old_len) to (pages_of new_len) (r.areas p)
      may = becomes old.world p a old_len new_len mode to allowed goes (r.areas p) one.laid one.same
          (small-enough old.world p a old_len new_len mode to most allowed goes (r.areas p) one.laid one.same one.low fits) (chain_length r.anons)

      areas : AreNext r old.world (Mremap p a old_len new_len mode) (MapAt (address_of to)) (rmap_of new)
          → (rmap_of new).areas ≡ with_at p (after_mremap (chain_length r.anons) p (page_of a) (pages_of old_len) to (pages_of new_len)
          (leaves_old mode) (r.areas p)) r.areas
      areas n = subst (λ b. (rmap_of new).areas ≡ with_at p (after_mremap (chain_length r.anons) p (page_of a) (pages_of old_len) b (pages_of new_len)
          (leaves_old mode) (r.areas p)) r.areas) back n.areas

  -- ---- a fork

  forked : (p q : ℕ) (h : IsStep m old (Fork p q) reply new) → refusal (tests m old.world l (Fork p q)) ≡ None → reply.answer ≡ Done
      → h.events ≡ Forked p q (inheritance (pages old.world p) l p) ∷ [] → IsCovered new
  forked p q h none done is = subst (λ x. IsRmapSound x (rmap_of new) × AreSlotsCovered x (rmap_of new) × AreMergedCovered x (rmap_of new)) (sym (h.ledger ∙ ap (after_all l) is)) (
    sound-forked l p q (inheritance (pages old.world p) l p) r (rmap_of new) s.ledger.in_order (apart (p == q) refl) empty whole goes sound,
    slots-forked l p q (inheritance (pages old.world p) l p) r (rmap_of new) s.ledger.in_order (apart (p == q) refl) empty whole goes sound slots,
    merged-forked l p q (inheritance (pages old.world p) l p) r (rmap_of new) s.ledger.in_order (apart (p == q) refl) empty whole goes sound slots merged,
  )
    where
      empty : (page : ℕ) → entry l (q, page) ≡ None
      empty = no_entries old.world l q s.at_pages (may-fork m old.world l p q none).child

      apart : (b : Bool) → (p == q) ≡ b → (p == q) ≡ false
      apart false e = e
      apart true e = let may = may-fork m old.world l p q none in
          absurd (false≢true (sym may.child ∙ ap (lives old.world) (sym (same-is p q e)) ∙ may.parent))

      -- the areas of the pages that go over with their entries do so, and aren't wiped
      whole : GoWhole (inheritance (pages old.world p) l p) (r.areas p)
      whole page is = by (r.areas p page) (pages old.world p page) (c.cover.marks p page) (inherited-goes (pages old.world p) l p page is)
        where
          by : (o : Option Area) (x : Option Page) → option_map area_marks o ≡ marks_of x
              → goes_over x ≡ true → IfSome o IsWhole
          by None x e g = tt
          by (Some area) None e g = absurd (false≢true g)
          by (Some area) (Some x) e g =
              let same : area.flags ≡ x.flags = ap (λ (o : Option (Prot × Flags)). option_map_or (λ (m : Prot × Flags). m.1) o area.flags) e in
              let two = neither x.flags.dont_fork x.flags.wipe_on_fork g in
              record { over = ap (λ (f : Flags). f.dont_fork) same ∙ two.0; kept = ap (λ (f : Flags). f.wipe_on_fork) same ∙ two.1 }
            where
              neither : (a b : Bool) → (not a && not b) ≡ true → (a ≡ false) × (b ≡ false)
              neither true b h = absurd (false≢true h)
              neither false true h = absurd (false≢true h)
              neither false false h = (refl, refl)

      goes : AreForked p q r (rmap_of new)
      goes = subst (λ x. IsRmapNext r old.world (Fork p q) x (rmap_of new)) done
          (subst (λ es. IsRmapNext (rmap_after_all l es r) old.world (Fork p q) reply.answer (rmap_of new)) is h.rmap)

  -- ---- all

  lies-low : (w : World) (r : Rmap) → Low most high w r.areas → Lies w r
  lies-low w r low = record { laid = low.laid; there = λ k is. by (r.areas k.0 k.1) (pages w k.0 k.1) (low.marks k.0 k.1) is }
    where
      by : (o : Option Area) (x : Option Page) → option_map area_marks o ≡ marks_of x
          → is_some x ≡ true → IsSome o
      by None None e is = absurd (false≢true is)
      by None (Some x) e is = cc
      by (Some a) x e is = refl

  lies : Lies old.world r
  lies = lies-low old.world r (to_low most high old.world old.areas c)

  -- ---- flags

  -- the whole that comes of events, and of areas that stay thereafter
  ends : (command : Command) → is_fork command ≡ false → (h : IsStep m old command reply new) → (es : List Event) → h.events ≡ es
      → (answer : Answer) → reply.answer ≡ answer
      → (AreNext (rmap_after_all l es r) old.world command answer (rmap_of new) → Reach (after_all l es) (rmap_of new)) → IsCovered new
  ends command other h es is answer answered goes =
      let end : Reach new.ledger (rmap_of new) = subst (λ x. Reach x (rmap_of new)) (sym (h.ledger ∙ ap (after_all l) is)) (goes now) in
      (end.sound, end.slots, end.merged)
    where
      now : AreNext (rmap_after_all l es r) old.world command answer (rmap_of new)
      now = subst (λ a. AreNext (rmap_after_all l es r) old.world command a (rmap_of new)) answered
          (subst (λ es. AreNext (rmap_after_all l es r) old.world command reply.answer (rmap_of new)) is
          (plain-next (rmap_after_all l h.events r) old.world command reply.answer (rmap_of new) other h.rmap))

  -- a flag is set, and no more
  flag-set : (command : Command) → is_fork command ≡ false → sets_flags command ≡ true → (h : IsStep m old command reply new)
      → (p from n : ℕ) (flag : Flag) (set : Bool) → h.events ≡ FlagSet p from n flag set ∷ [] → IsCovered new
  flag-set command other sets h p from n flag set is =
      let later = rmap_after_flag p from n flag set r in
      ends command other h (FlagSet p from n flag set ∷ []) is reply.answer refl
      (λ next. reach-left l later (rmap_of new)
      (next.areas ∙ flags-areas (chain_length later.anons) later.areas old.world command reply.answer sets) next.anons next.homes next.items
      (flag-reach l r p from n flag set (c.cover.laid p) before))

  advised : (p a len : ℕ) (advice : Advice) (h : IsStep m old (Madvise p a len advice) reply new) → (change : Option (Flag × Bool))
      → h.events ≡ advice_events l p (page_of a) (pages_advised (pages old.world p) (page_of a) (pages_of len) change) change → IsCovered new
  advised p a len advice h None is =
      let ks = keys_in l p (page_of a) (pages_to_locked (pages old.world p) (page_of a) (pages_of len)) in
      quiet (Madvise p a len advice) refl h (zaps_of l ks) is (rmap_after_all-zaps l ks l r) reply.answer refl
      (λ next at. reach-left (after_all l (zaps_of l ks)) r (rmap_of new) next.areas next.anons next.homes next.items (zaps-reach l r ks before))
  advised p a len advice h (Some change) is =
      flag-set (Madvise p a len advice) refl refl h p (page_of a) (pages_of len) change.0 change.1 is

  locked : (p a len : ℕ) (h : IsStep m old (Mlock p a len) reply new)
      → Locks m old.world l p (page_of a) (pages_met a len) h.events reply.answer reply.rows → IsCovered new
  locked p a len h f = by (pages_to_hole (pages old.world p) (page_of a) (pages_met a len) == pages_met a len) f.3
    where
      event : Event
      event = lock_event true (pages old.world p) p (page_of a) (pages_met a len)

      then_on : World
      then_on = with_lock true old.world p (page_of a) (pages_met a len)

      flagged_first : Rmap
      flagged_first = rmap_after l event r

      at_once : ReachAt then_on l flagged_first
      at_once = record {
        reach = flag-reach l r p (page_of a) (pages_to_hole (pages old.world p) (page_of a) (pages_met a len)) locks.Locked true
            (c.cover.laid p) before;
        lies = lies-low then_on flagged_first
            (covers_events most high old.world l (event ∷ []) r (to_low most high old.world old.areas c));
      }

      by : (b : Bool) → MatchBool b (BringsIn m old.world l p (page_of a) (pages_met a len) f.0 reply.answer)
          ((f.0 ≡ []) × (reply.answer ≡ Refused Enomem)) → IsCovered new
      by true q =
          let all = accesses-reach m then_on l flagged_first p (accesses_of (pages old.world p) (page_of a) (pages_met a len)) f.0 q.0 s.ledger
          at_once q.1 in
          let later = rmap_after_all l (event ∷ f.0) r in
          ends (Mlock p a len) refl h (event ∷ f.0) f.1 reply.answer refl
          (λ next. reach-left (after_all l (event ∷ f.0)) later (rmap_of new)
          (next.areas ∙ flags-areas (chain_length later.anons) later.areas old.world (Mlock p a len) reply.answer refl) next.anons next.homes next.items all.reach)
      by false q = flag-set (Mlock p a len) refl refl h p (page_of a)
          (pages_to_hole (pages old.world p) (page_of a) (pages_met a len)) locks.Locked true (f.1 ∙ ap (λ es. event ∷ es) q.0)

  follows : (command : Command) (h : IsStep m old command reply new) → refusal (tests m old.world l command) ≡ None
      → Follows m old.world l command h.events reply.answer reply.rows → IsCovered new
  follows (Spawn p) h none f = spawned p h f.0 f.1
  follows (Fork p q) h none f = forked p q h none f.0 f.1
  follows (Exit p) h none f = ended p h f.0 f.1
  follows (Mmap p len prot place) h none f = mapped p len prot place h none f.0 f.1 f.2 f.3
  follows (Munmap p a len) h none f = unmapped p a len h f.0 f.1
  follows (Mprotect p a len prot) h none f = protected p a len prot h none f.0 f.1
  follows (Mremap p a old_len new_len mode) h none f = remapped p a old_len new_len mode h none f.0 f.1 f.2 f.3
  follows (Madvise p a len advice) h none f = advised p a len advice h (flag_of_advice advice) f.1
  follows (Mlock p a len) h none f = locked p a len h f
  follows (Munlock p a len) h none f = flag-set (Munlock p a len) refl refl h p (page_of a)
      (pages_to_hole (pages old.world p) (page_of a) (pages_met a len)) locks.Locked false f.1
  follows (Read p a n) h none f = access-covered m old (Read p a n) reply new refl s lies h sound slots merged
  follows (Write p a bytes) h none f = access-covered m old (Write p a bytes) reply new refl s lies h sound slots merged
  follows (Reclaim n) h none f = step-covered m old (Reclaim n) reply new refl s h sound slots merged
  follows (Age n) h none f = step-covered m old (Age n) reply new refl s h sound slots merged
  follows (Complete n) h none f = step-covered m old (Complete n) reply new refl s h sound slots merged
  follows (Swapon k priority) h none f = step-covered m old (Swapon k priority) reply new refl s h sound slots merged
  follows (Swapoff k) h none f = step-covered m old (Swapoff k) reply new refl s h sound slots merged
  follows Merge h none f = step-covered m old Merge reply new refl s h sound slots merged
  follows Compact h none f = step-covered m old Compact reply new refl s h sound slots merged
  follows (Maps p) h none f = still (Maps p) refl h f.2 reply.answer refl refl
  follows (AsksAreas p) h none f = still (AsksAreas p) refl h f.2 reply.answer refl refl
  follows (AsksRmap p a) h none f = still (AsksRmap p a) refl h f.1 reply.answer refl refl
  follows (AsksEntry p a) h none f = still (AsksEntry p a) refl h f.1 reply.answer refl refl
  follows (AsksSlot k page) h none f = still (AsksSlot k page) refl h f.1 reply.answer refl refl
  follows Stat h none f = still Stat refl h f.1 reply.answer refl refl

  refused : (command : Command) (h : IsStep m old command reply new) (error : Errno) → refusal (tests m old.world l command) ≡ Some error
      → reply.answer ≡ Refused error → h.events ≡ [] → IsCovered new
  refused command h error is answered none =
      let n = stopped in
      let end : Reach new.ledger (rmap_of new) = subst (λ x. Reach x (rmap_of new)) (sym (h.ledger ∙ ap (after_all l) none))
      (reach-left l r (rmap_of new) (n.areas ∙ refused-areas m old.world l (chain_length r.anons) r.areas command error is) n.anons n.homes n.items before) in
      (end.sound, end.slots, end.merged)
    where
      stopped : AreNext r old.world command (Refused error) (rmap_of new)
      stopped = subst (λ x. IsRmapNext r old.world command x (rmap_of new)) answered
          (subst (λ es. IsRmapNext (rmap_after_all l es r) old.world command reply.answer (rmap_of new)) none h.rmap)

  pub step-both : (command : Command) → IsStep m old command reply new → IsCovered new
  step-both command h = by (refusal (tests m old.world l command)) refl h.legal.answer
    where
      by : (o : Option Errno) → refusal (tests m old.world l command) ≡ o
          → MatchOption o (Follows m old.world l command h.events reply.answer reply.rows) (λ error. Refuses error h.events reply.answer reply.rows) →
          IsCovered new
      by None is f = follows command h is f
      by (Some error) is f = refused command h error is f.0 f.1

-- ---- runs

run-both : (m : Setting) (most : ℕ) (old : State) (es : List Exchange) (new : State) → top_page ≤ most → most + length es * top_page ≤ 2 ^ 60
    → CoverBelow most old.world old.areas → AllSound m old.world old.ledger → IsCovered old → IsRun m old es new → IsCovered new
run-both m most old [] new high fits c s both h = subst IsCovered (sym h) both
run-both m most old (e ∷ es) new high fits c s both h =
    let s' = step-sound m old e.command e.reply h.0 s h.1 in
    let now = step-both m most high (omega (arith, fits)) old e.reply h.0 c s s' both.0 both.1 both.2 e.command h.1 in
    run-both m (most + top_page) h.0 es new (omega (arith, high)) (subst (λ n. n ≤ 2 ^ 60) (sym (one_more most (length es))) fits)
    (step-covers m most old e.command e.reply h.0 high (omega (arith, fits)) c h.1) s' now h.2
  where
    one_more : (k n : ℕ) → k + top_page + n * top_page ≡ k + suc n * top_page
    one_more k n = omega arith

first-slots : (m : Setting) → AreSlotsCovered (at_first m).ledger (rmap_of (at_first m))
first-slots m = record { kin = λ p page v is. absurd is; rooted = λ t k q is other. absurd is; cached = λ t k f at is. absurd is }

pub run-covered : (m : Setting) (es : List Exchange) (new : State) → length es ≤ most_commands → IsRun m (at_first m) es new
    → IsRmapSound new.ledger (rmap_of new) × AreSlotsCovered new.ledger (rmap_of new) × AreMergedCovered new.ledger (rmap_of new)
run-covered m es new few h = run-both m top_page (at_first m) es new (omega arith) (omega (arith, few)) (first-covers m) (first-sound m)
    (sound-first m, first-slots m, merged-first m) h
