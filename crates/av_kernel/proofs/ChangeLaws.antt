-- Pages of a process get another protection, or a flag, or lose it; their entries stay.
use Rattle.std.proofs.Common.{◌≡◌, ℕ, ◌-◌, Bool, true, false, cond, slice_index, List, Option, Some, None, is_some, option_map, refl, sym, ap, subst, ◌∙◌, arith, ◌==◌}
use Rattle.std.proofs.lemmas.Bool.Decides.{nat_tests}
use Rattle.std.proofs.lemmas.Bool.{false≢true}
use Rattle.std.proofs.lemmas.Option.{same_Some}
use Rattle.std.specs.Prelude.{IfSome, IsSome, IsSomeAnd}
use Rattle.av_base.specs.Words.{is_in, with_at, within}
use Rattle.av_base.specs.declared.flags.Flag.{Flag}
use Rattle.av_base.specs.declared.prot.Prot.{Prot}
use Rattle.av_vma.specs.Index.{index_of}
use Rattle.av_vma.specs.declared.area.Area.{Area}
use Rattle.av_vma.specs.Pages.{Effect, home_of, pages_changed, to_flag, to_prot}
use Rattle.av_vma.proofs.Homes.{KeepsHomes}
use Rattle.av_anon.specs.declared.anons.Anons.{Anons as AnonSet}
use Rattle.av_merge.specs.Kin.{lengths}
use Rattle.av_merge.specs.Mapping.{IsRemapped}
use Rattle.av_merge.proofs.Lengths.{pages_alike}
use Rattle.av_spaces.specs.Kin.{AnonsStay}
use Rattle.av_spaces.specs.Spaces.{AllSpaces, AreThese, IsChanged, pages_of as areas_on}
use Rattle.av_spaces.proofs.Kin.{stay_same}
use Rattle.av_trace.specs.declared.command.Command.{Command}
use Rattle.av_trace.specs.declared.reply.Reply.{Reply}
use Rattle.av_plain.specs.Areas.{AnonVma, Anons, AreLeft, Areas, IsLinked, chain_by, chain_length}
use Rattle.av_plain.specs.Choice.{Free, ListsAll}
use Rattle.av_plain.specs.Device.{Device}
use Rattle.av_plain.specs.Ledger.{Entry, InFrame, InSlot, Zero, entry, frame_at}
use Rattle.av_plain.specs.Mremap.{marks_at}
use Rattle.av_plain.specs.Stands.{AreasAre, AreasStand, IsKept, IsKeptAt, View, free_of}
use Rattle.av_plain.specs.Transcript.{IsStep, State}
use Rattle.av_plain.specs.World.{Holds, Page, Process, pages, with_change_on, with_page_flag, with_prot}
use Rattle.av_mem.specs.declared.mem.Mem.{Mem}
use Rattle.av_frames.specs.Store.{shown}
use Rattle.av_frames.specs.declared.frames.Frames.{Frames}
use Rattle.av_swap_laws.specs.Locks.{AreLocks}
use Rattle.av_mem.specs.Mem.{locks_of, ranges_of, setting_by, view, HasLedger, HasTables, Keeps}
use Rattle.av_plain.proofs.Sound.{change-sound}
use Rattle.av_mem.proofs.MemLaws.{alive_is, lives_is}
use Rattle.av_mem.proofs.AnonLaws.{are_left, left_of, lengths_alike}
use Rattle.av_step.specs.Step.{StepsBeside}
use Rattle.av_step.proofs.CacheLeft.{cached-itself}
use Rattle.av_step.proofs.StepLaws.{changed, changed-keeps, is_number, left_alone, moved_on, orderly, reach_of, state_after, stays_orderly, swap_alike, swap_itself}
use Rattle.av_kernel.specs.Map.{Marks, changed_on, marks_on, marks_with, GetsAreas, GetsMarks}
use Rattle.av_kernel.proofs.LockedRanges.{IsRecounted, recounted-ledger}
use Rattle.av_kernel.proofs.MapMarks.{changed-homes, changed-marks, gets_areas, marks_kept, page_marks}
use Rattle.av_kernel.proofs.MapSteps.{areas_changed, areas_so, re_areas, tables_kept}

-- ---- areas and pages

-- what such a change of n pages of p, from one on, made of its areas and the anon_vmas
pub record AreChanged (old : Mem) (spaces : AllSpaces) (anons : AnonSet) (p from n : ℕ) (effect : Effect) : Type 0 where
  pub marks : GetsMarks old.spaces.processes spaces.processes p (changed_on from n effect (marks_on (areas_on old.spaces.processes p)))
  pub areas : GetsAreas old.spaces.processes spaces.processes p
      (pages_changed (lengths old.spaces.areas old.anons) effect from n (areas_on old.spaces.processes p))
  pub stays : AnonsStay old.spaces old.anons spaces anons
  pub homes : KeepsHomes (areas_on old.spaces.processes p) (areas_on spaces.processes p)

-- as a change of the areas promises it
pub are_changed : (old : Mem) (spaces : AllSpaces) (anons : AnonSet) (p from past n : ℕ) (effect : Effect) → past - from ≡ n
    → IsChanged old.spaces.processes spaces.processes p
    (AreThese (pages_changed (lengths old.spaces.areas old.anons) effect from n (areas_on old.spaces.processes p)))
    → IsRemapped from past effect (areas_on old.spaces.processes p) (areas_on spaces.processes p)
    → AnonsStay old.spaces old.anons spaces anons → AreChanged old spaces anons p from n effect
are_changed old spaces anons p from past n effect many h remap stay = record {
  marks =
      let len = lengths old.spaces.areas old.anons in
      let on = areas_on old.spaces.processes p in
      subst (λ k. GetsMarks old.spaces.processes spaces.processes p (changed_on from k effect (marks_on on))) many
      (changed-marks len old.spaces.processes spaces.processes p from past effect
      (subst (λ k. IsChanged old.spaces.processes spaces.processes p (AreThese (pages_changed len effect from k on))) (sym many) h) remap);
  areas = gets_areas old.spaces.processes spaces.processes p _ h;
  stays = stay;
  homes = changed-homes (lengths old.spaces.areas old.anons) old.spaces.processes spaces.processes p from n effect h;
}

-- a page changes as its area does, and its bytes stay
pub record IsEffect (effect : Effect) (change : Page → Page) : Type 0 where
  pub marks : (x : Page) → page_marks (change x) ≡ marks_with effect (page_marks x)
  pub bytes : (x : Page) → (change x).bytes ≡ x.bytes

pub prot_effect : (prot : Prot) → IsEffect (to_prot prot) (with_prot prot)
prot_effect prot = record { marks = λ x. refl; bytes = λ x. refl }

pub flag_effect : (flag : Flag) (set : Bool) → IsEffect (to_flag flag set) (with_page_flag flag set)
flag_effect flag set = record { marks = λ x. refl; bytes = λ x. refl }

-- ---- anon_vmas

-- where the areas of all pages go on to have their anon_vmas, each anon_vma that was linked stays
pub none_goes : (anons left : Anons) (on now : Areas) → ((v : ℕ) → IsSome (anons.anon v) → IsLinked anons on v)
    → ((p page : ℕ) (home : ℕ × ℕ) → home_of page (on p page) ≡ Some home → home_of page (now p page) ≡ Some home)
    → AreLeft anons now left → left ≡ anons
none_goes anons left on now there homes h = λ i. record { next = h.next i; anon = λ v. same v (anons.anon v) refl i }
  where
    -- the area of a page that has its anon_vma still is linked as before
    still : (v page own : ℕ) (index : ℕ) (o : Option Area) → home_of page o ≡ Some (own, index) → is_in v (chain_by anons (Some own)) ≡ true
        → IsSomeAnd o (λ area. is_in v (chain_by anons area.anon) ≡ true)
    still v page own index None home is = absurd (false≢true (ap is_some home))
    still v page own index (Some area) home is = by area.anon home
      where
        by : (a : Option ℕ) → option_map {U = ℕ × ℕ} (λ (own : ℕ). (own, index_of area page)) a ≡ Some (own, index) → is_in v (chain_by anons a) ≡ true
        by None e = absurd (false≢true (ap is_some e))
        by (Some b) e = ap (λ b. is_in v (chain_by anons (Some b))) (ap (λ (x : ℕ × ℕ). x.0) (same_Some (b, index_of area page) (own, index) e)) ∙ is

    linked : (v : ℕ) → IsLinked anons on v → IsLinked anons now v
    linked v x = (x.0, x.1, by (on x.0 x.1) refl x.2)
      where
        by : (o : Option Area) → on x.0 x.1 ≡ o → IsSomeAnd o (λ area. is_in v (chain_by anons area.anon) ≡ true)
            → IsSomeAnd (now x.0 x.1) (λ area. is_in v (chain_by anons area.anon) ≡ true)
        by None e is = absurd is
        by (Some area) e is = own area.anon refl is
          where
            own : (a : Option ℕ) → area.anon ≡ a → is_in v (chain_by anons a) ≡ true
                → IsSomeAnd (now x.0 x.1) (λ area. is_in v (chain_by anons area.anon) ≡ true)
            own None f is = absurd (false≢true is)
            own (Some a) f is = still v x.1 a (index_of area x.1) (now x.0 x.1)
                (homes x.0 x.1 (a, index_of area x.1) (ap (home_of x.1) e ∙ ap (option_map {U = ℕ × ℕ} (λ (own : ℕ). (own, index_of area x.1))) f)) is

    same : (v : ℕ) (o : Option AnonVma) → anons.anon v ≡ o → left.anon v ≡ anons.anon v
    same v (Some x) e = h.linked v (linked v (there v (ap is_some e)))
    same v None e = none (left.anon v) refl ∙ sym e
      where
        none : (o : Option AnonVma) → left.anon v ≡ o → left.anon v ≡ None
        none None f = f
        none (Some y) f = absurd (false≢true (sym (ap is_some (h.linked v (h.there v (ap is_some f)) ∙ e)) ∙ ap is_some f))

-- ---- the step

module _ {d : Device} (old : Mem) (spaces : AllSpaces) (anons : AnonSet) (s : State) (p from n : ℕ) (effect : Effect) (change : Page → Page)
    (keeps : Keeps d old s) (alive : is_some (ranges_of old.spaces.processes p) ≡ true) (is : IsEffect effect change)
    (are : AreChanged old spaces anons p from n effect) where
  -- the areas are those that the definitions name, which ask for the length of chains alone
  alike : (page : ℕ) → pages_changed (lengths old.spaces.areas old.anons) effect from n (areas_on old.spaces.processes p) page
      ≡ pages_changed (chain_length s.anons) effect from n (areas_on old.spaces.processes p) page
  alike = pages_alike (lengths old.spaces.areas old.anons) (chain_length s.anons) effect from n (areas_on old.spaces.processes p)
      (lengths_alike d old s keeps old.spaces old.anons (stay_same old.spaces old.anons keeps.anons) p)

  now_on : AreasAre (view (moved_on old old.tables spaces anons)) (with_at p (pages_changed (chain_length s.anons) effect from n (s.areas p)) s.areas)
  now_on = areas_so old (moved_on old old.tables spaces anons) s p (pages_changed (chain_length s.anons) effect from n) keeps
      (re_areas old.spaces.processes spaces.processes p _ _ alike are.areas)

  pub anons_left : AreLeft s.anons (with_at p (pages_changed (chain_length s.anons) effect from n (s.areas p)) s.areas) (left_of anons s.anons)
  anons_left = are_left d old s keeps spaces anons are.stays _ now_on

  -- the marks of the areas are those of the pages, and the bytes are as they were
  covered : (page : ℕ) → changed_on from n effect (marks_on (areas_on old.spaces.processes p)) page
      ≡ marks_at (with_change_on (pages s.world p) from n change) page
  covered page = by (within from n page)
    where
      so : (o : Option Page) → option_map (marks_with effect) (option_map page_marks o) ≡ option_map page_marks (option_map change o)
      so None = refl
      so (Some x) = ap Some (sym (is.marks x))

      by : (b : Bool) → cond b (option_map (marks_with effect) (marks_on (areas_on old.spaces.processes p) page))
          (marks_on (areas_on old.spaces.processes p) page)
          ≡ option_map page_marks (cond b (option_map change (pages s.world p page)) (pages s.world p page))
      by true = ap (option_map (marks_with effect)) (marks_kept old s keeps p page) ∙ so (pages s.world p page)
      by false = marks_kept old s keeps p page

  kept : (page : ℕ) → IsKept (view old) d s.ledger (entry s.ledger (p, page)) (with_change_on (pages s.world p) from n change page)
  kept page = by (within from n page)
    where
      held : (o : Option Page) (at : ℕ → ℕ) → Holds o at → Holds (option_map change o) at
      held None at h = h
      held (Some x) at h = λ i below. subst (λ (bytes : ℕ → Option ℕ). IfSome (bytes i) (λ b. at i ≡ b)) (sym (is.bytes x)) (h i below)

      still : (e : Option Entry) (o : Option Page) → IsKept (view old) d s.ledger e o → IsKept (view old) d s.ledger e (option_map change o)
      still None o h = held o (λ _. 0) h
      still (Some Zero) o h = held o (λ _. 0) h
      still (Some (InFrame f seen)) o h = held o ((view old).bytes f) h
      still (Some (InSlot t)) o h = at (frame_at s.ledger t) h
        where
          told : (x : Option (ℕ → ℕ → List ℕ)) → IfSome x (λ told. Holds o (slice_index (told t.area t.page)))
              → IfSome x (λ told. Holds (option_map change o) (slice_index (told t.area t.page)))
          told None h = tt
          told (Some pages) h = held o (slice_index (pages t.area t.page)) h

          at : (f : Option ℕ) → IsKeptAt (view old) d t o f → IsKeptAt (view old) d t (option_map change o) f
          at None h = told d.pages h
          at (Some f) h = held o ((view old).bytes f) h

      by : (b : Bool) → IsKept (view old) d s.ledger (entry s.ledger (p, page)) (cond b (option_map change (pages s.world p page)) (pages s.world p page))
      by true = still (entry s.ledger (p, page)) (pages s.world p page) (keeps.stands.parts.bytes.kept p page)
      by false = keeps.stands.parts.bytes.kept p page

  home : (page : ℕ) (home : ℕ × ℕ) → home_of page (s.areas p page) ≡ Some home →
      home_of page (pages_changed (chain_length s.anons) effect from n (s.areas p) page) ≡ Some home
  home page h there =
      sym (ap (home_of page) (now_on p page ∙ ap (λ b. (cond b (pages_changed (chain_length s.anons) effect from n (s.areas p)) (s.areas p)) page) (itself p)))
      ∙ are.homes page h (ap (home_of page) (keeps.stands.areas p page) ∙ there)
    where
      itself : (p : ℕ) → (p == p) ≡ true
      itself p = grind (arith, nat_tests)

  -- what there is then
  abbrev pub state_changed : State
  state_changed = state_after s p (with_change_on (pages s.world p) from n change)
      (pages_changed (chain_length s.anons) effect from n (s.areas p)) s.ledger (free_of (view old)) anons

  -- the memory system then, but for its counts
  abbrev pub mem_changed : Mem
  mem_changed = moved_on old old.tables spaces anons

  abbrev now : Process
  now = with_change_on (pages s.world p) from n change

  abbrev marked : Marks
  marked = changed_on from n effect (marks_on (areas_on old.spaces.processes p))

  pub areas_then : AreasStand (view mem_changed) state_changed.world
  areas_then = areas_changed old mem_changed s p now marked keeps alive are.marks covered

  tables_then : HasTables mem_changed
  tables_then = tables_kept old mem_changed s p now marked keeps alive are.marks covered refl

  -- with frames that are seen alike, and that have the counts of then
  module _ (frames : Frames) (seen : view (record mem_changed { frames = frames }) ≡ view mem_changed)
      (locks : AreLocks (shown frames).locks state_changed.world s.ledger) where
    abbrev counted : Mem
    counted = record mem_changed { frames = frames }

    free_then : free_of (view counted) ≡ free_of (view old)
    free_then = ap free_of seen

    abbrev state_then : Free → State
    state_then free = state_after s p now
        (pages_changed (chain_length s.anons) effect from n (s.areas p)) s.ledger free anons

    stands_then : HasLedger d counted s.ledger
    stands_then = recounted-ledger d mem_changed counted (record { seen = seen; rest = refl })
        s.ledger (stays_orderly d old old.tables spaces anons s.ledger refl (orderly old s keeps))

    counted-steps : (command : Command) (reply : Reply)
        → IsStep (setting_by d old) s command reply state_changed
        → StepsBeside d old counted s command reply
    counted-steps command reply step = changed old counted s p now
        (pages_changed (chain_length s.anons) effect from n (s.areas p)) s.ledger keeps are.stays
        (ap (λ (v : View). v.frames) seen)
        (swap_alike old old old counted refl refl (swap_itself old)) stands_then
        (ap (λ (v : View). v.bytes) seen) (ap (λ (v : View). v.homes) seen)
        keeps.stands.items (λ q page other. refl) (cached-itself s.ledger) kept
        (reach_of old s keeps) (λ page h there is. home page h is) locks command reply
        (subst (λ (free : Free). IsStep (setting_by d old) s command reply (state_then free))
        (sym free_then) step)
        now_on (subst (λ (v : View). AreasStand v state_changed.world) (sym seen) areas_then)
        tables_then

    counted-keeps : Keeps d counted state_changed
    counted-keeps = subst (λ (free : Free). Keeps d counted (state_then free)) free_then
        (changed-keeps old counted s p now
        (pages_changed (chain_length s.anons) effect from n (s.areas p)) s.ledger keeps are.stays
        (ap (λ (v : View). v.frames) seen)
        (swap_alike old old old counted refl refl (swap_itself old)) stands_then
        (ap (λ (v : View). v.bytes) seen) (ap (λ (v : View). v.homes) seen)
        keeps.stands.items (λ q page other. refl) (cached-itself s.ledger) kept
        (reach_of old s keeps) (λ page h there is. home page h is) locks
        (change-sound (setting_by d old) s.world s.ledger p from n change keeps.stands.sound
        (sym (lives_is d old s keeps p) ∙ sym (alive_is old.spaces.processes p) ∙ alive))
        (subst (ListsAll (setting_by d old) s.ledger) (sym (free_then ∙ keeps.stands.free))
        keeps.stands.lists)
        now_on (subst (λ (v : View). AreasStand v state_changed.world) (sym seen) areas_then)
        tables_then)

  -- the entries of locked pages are counted as they are then
  module _ (new : Mem) (h : IsRecounted mem_changed new)
      (locks : AreLocks (locks_of new) state_changed.world s.ledger) where
    pub change-steps : (command : Command) (reply : Reply)
        → IsStep (setting_by d old) s command reply state_changed
        → StepsBeside d old new s command reply
    change-steps command reply step = subst (λ (k : Mem). StepsBeside d old k s command reply)
        (sym h.rest) (counted-steps new.frames (ap view (sym h.rest) ∙ h.seen) locks command reply step)

    -- the kernel stands for it, where the change is a part of a command
    pub change-keeps : Keeps d new state_changed
    change-keeps = subst (λ (k : Mem). Keeps d k state_changed) (sym h.rest)
        (counted-keeps new.frames (ap view (sym h.rest) ∙ h.seen) locks)

  -- each area goes on to have its anon_vma, alone or as a part of one that is joined: so no anon_vma goes
  pub none_left_out : left_of anons s.anons ≡ s.anons
  none_left_out = none_goes s.anons (left_of anons s.anons) s.areas (with_at p (pages_changed (chain_length s.anons) effect from n (s.areas p)) s.areas)
      (left_alone old s keeps).there homes_on anons_left
    where
      homes_on : (q page : ℕ) (h : ℕ × ℕ) → home_of page (s.areas q page) ≡ Some h
          → home_of page (with_at p (pages_changed (chain_length s.anons) effect from n (s.areas p)) s.areas q page) ≡ Some h
      homes_on q page h there = by (q == p) refl
        where
          by : (b : Bool) → (q == p) ≡ b
              → home_of page ((cond b (pages_changed (chain_length s.anons) effect from n (s.areas p)) (s.areas q)) page) ≡ Some h
          by true e = home page h (ap (λ q. home_of page (s.areas q page)) (sym (is_number q p e)) ∙ there)
          by false e = there
