-- Pages move, shrink or grow: the memory system stands for what the definitions leave.
use Rattle.std.proofs.Common.{◌≡◌, ◌⊎◌, inl, inr, ℕ, ◌+◌, ◌-◌, ◌^◌, ◌<◌, ◌≤◌, min, nat_lt, Bool, true, false, cond, not, ◌&&◌, T, List, [], ◌∷◌, ◌++◌, Option, Some, None, is_some, option_map, IsSomeAnd, refl, sym, ap, subst, ◌∙◌, arith, ◌==◌}
use Rattle.std.proofs.lemmas.Bool.{cases_lt, false≢true, ltb-false}
use Rattle.std.proofs.lemmas.Bool.Decides.{nat_tests}
use Rattle.std.specs.FinMap.Entries.{is_sorted}
use Rattle.std.specs.Prelude.{MatchOption}
use Rattle.av_base.specs.Keys.{key_cmp}
use Rattle.av_base.specs.Limits.{top_page}
use Rattle.av_base.specs.Page.{address_of, page_of, pages_of}
use Rattle.av_base.specs.Words.{with_at, within}
use Rattle.av_base.specs.declared.prot.Prot.{Prot}
use Rattle.av_trace.specs.declared.command.Command.{Command}
use Rattle.av_trace.specs.declared.command.Command.TheVariants.{Mremap}
use Rattle.av_trace.specs.declared.mode.Mode.{Mode}
use Rattle.av_trace.specs.declared.note.Note.{Note}
use Rattle.av_trace.specs.declared.reply.Reply.{Reply}
use Rattle.av_trace.specs.declared.reply.Answer.{Answer}
use Rattle.av_trace.specs.declared.reply.Answer.TheVariants.{MapAt}
use Rattle.av_vma.specs.declared.area.Area.{Area}
use Rattle.av_vma.specs.Index.{index_of}
use Rattle.av_vma.specs.Mremap.{IsGrowth, IsMove}
use Rattle.av_vma.specs.Pages.{AreLaid, Pages}
use Rattle.av_vma.proofs.Laid.{has_parts}
use Rattle.av_vma.proofs.Mremap.{in_range as range_bounds, is_in_range, out_of_range}
use Rattle.av_vma.proofs.Marks.{area_marks, marks}
use Rattle.av_anon.specs.declared.anons.Anons.{Anons as AnonSet}
use Rattle.av_spaces.specs.Spaces.{AllSpaces, areas_of, is_taken, pages_of as areas_on}
use Rattle.av_plain.specs.Device.{Device, setting_of}
use Rattle.av_plain.specs.Areas.{chain_length, rmap_after_all}
use Rattle.av_plain.specs.Choice.{ChoosesAll}
use Rattle.av_plain.specs.Event.{Event, EntriesMoved, after_all, notes_of}
use Rattle.av_plain.specs.Fork.{IsRmapNext}
use Rattle.av_plain.specs.Ledger.{Entry, Ledger, entry}
use Rattle.av_plain.specs.Mremap.{MovesTo, after_mremap, have_one_prot, is_in_place, leaves_old, left_behind, marks_at, prot_at, range_zaps, remap_events, process_after_mremap}
use Rattle.av_plain.specs.Refusal.{Refuses, refusal, tests, top}
use Rattle.av_plain.specs.Stands.{AreasAre, AreasStand, IsKept, ItemsAre, View, free_of}
use Rattle.av_plain.specs.Step.{Follows}
use Rattle.av_plain.specs.Transcript.{IsStep, State, rmap_of}
use Rattle.av_plain.specs.World.{Holds, Page, Process, is_mapped, lives, pages, set_process, wiped}
use Rattle.av_plain.specs.Zap.{keys_in}
use Rattle.av_plain.proofs.AreasLeft.{rmap_after_all-append, rmap_after_all-zaps}
use Rattle.av_plain.proofs.Covered.Mremap.{merged-remapped, slots-remapped, sound-remapped}
use Rattle.av_plain.proofs.Mremap.{then_target}
use Rattle.av_plain.proofs.Mremap.Areas.{IsRemap}
use Rattle.av_plain.proofs.Mremap.Cover.{becomes, from_itself, from_left, from_old, from_zeros, marks_become}
use Rattle.av_plain.proofs.Mremap.Legal.{some, uniform, uniform-where}
use Rattle.av_plain.proofs.Refusal.{MayRemap}
use Rattle.av_plain.proofs.Transcript.{next-plain}
use Rattle.av_plain.proofs.World.{pages-set, lives-set, length-set_old}
use Rattle.av_mem.specs.declared.mem.Mem.{Mem}
use Rattle.av_pagetable.specs.Entries.{has}
use Rattle.av_swap_laws.specs.Locks.{AreLocks, lock_count}
use Rattle.av_mem.specs.Locked.{locks_in}
use Rattle.av_mem.specs.Mem.{HasTables, Keeps, locks_of, setting_by, view}
use Rattle.av_mem.specs.Steps.{KeepsRest}
use Rattle.av_swap_laws.specs.Held.{AllCovered}
use Rattle.av_mem.proofs.AnonLaws.{anons_stand, are_left, left_of}
use Rattle.av_mem.proofs.MemLaws.{alive_is, lives_is, prots_are}
use Rattle.av_mremap.specs.Areas.{HasRemap}
use Rattle.av_mremap.specs.Entries.{HasRemapped}
use Rattle.av_place.specs.Mremap.{StaySmall}
use Rattle.av_step.specs.Step.{StepsBeside}
use Rattle.av_kernel.specs.Lock.{locks_lost}
use Rattle.av_kernel.proofs.LockedRanges.{IsRecounted, range-told}
use Rattle.av_kernel.proofs.MremapLocks.{count-elsewhere, count-here}
use Rattle.av_kernel.proofs.MapMarks.{marks_flags, marks_kept, marks_prot, page_marks}
use Rattle.av_plain.proofs.Mremap.Entries.{came, grew, here_goes, here_stays, left as has_left, of_others, stays}
use Rattle.av_place.proofs.PlaceLaws.{page_back}
use Rattle.av_step.proofs.CacheLeft.{bytes-left, remap-cached}
use Rattle.av_step.proofs.StepLaws.{at_number, is_number, moved_on, noted, stays_orderly, stepped, swap_alike}
use Rattle.av_step.proofs.Loads.{world_as}
use Rattle.av_plain.proofs.Load.{events_to-load_nothing}

-- where a page has a protection there is an area with its marks
has_area : (o : Option Area) (x : Option Page) (prot : Prot) → option_map area_marks o ≡ option_map page_marks x
    → option_map (λ (x : Page). x.prot) x ≡ Some prot → is_some o ≡ true
has_area None None prot e h = cc
has_area None (Some x) prot e h = cc
has_area (Some area) x prot e h = refl

-- what is left of a page that goes claims zeros
wiped_holds : (x : Option Page) → Holds (option_map wiped x) (λ _. 0)
wiped_holds None = tt
wiped_holds (Some x) = λ i below. refl

left_holds : (b : Bool) (x : Option Page) → Holds (left_behind b x) (λ _. 0)
left_holds false x = tt
left_holds true None = tt
left_holds true (Some x) = λ i below. refl

module _ {d : Device} {old : Mem} {s : State} (keeps : Keeps d old s) {p a olen nlen : ℕ} {mode : Mode}
    (may : MayRemap s.world p a olen nlen mode) (to : ℕ)
    (alive : is_some (areas_of old.spaces.processes p) ≡ true)
    (goes : MovesTo (pages s.world p) (page_of a) (pages_of olen) (pages_of nlen) mode (Some to))
    (laid : AreLaid (areas_on old.spaces.processes p)) where
  abbrev q : Process
  q = pages s.world p

  abbrev from : ℕ
  from = page_of a

  abbrev n : ℕ
  n = pages_of olen

  abbrev m : ℕ
  m = pages_of nlen

  -- whether the old range stays
  abbrev left : Bool
  left = leaves_old mode

  abbrev on : Pages
  on = s.areas p

  laid_on : AreLaid on
  laid_on = subst AreLaid (λ i page. keeps.stands.areas p page i) laid

  marks_of : (k page : ℕ) → marks (s.areas k) page ≡ marks_at (pages s.world k) page
  marks_of k page = ap (option_map area_marks) (sym (keeps.stands.areas k page)) ∙ marks_kept old s keeps k page

  same_marks : (page : ℕ) → marks on page ≡ marks_at q page
  same_marks page = marks_of p page

  -- neither range is empty
  pub some_pages : (1 ≤ n) × (1 ≤ m)
  some_pages = some s.world p a olen nlen mode to may goes

  taken_as : (page : ℕ) (prot : Prot) → prot_at q page ≡ Some prot → is_taken old.spaces.processes p page ≡ true
  taken_as page prot is = has_area (areas_on old.spaces.processes p page) (q page) prot (marks_kept old s keeps p page) is

  -- where they grow, the last one is mapped
  pub last_taken : n < m → is_taken old.spaces.processes p (from + n - 1) ≡ true
  last_taken more =
      let u = uniform-where s.world p a olen nlen mode to may goes (inr more) in
      let k = some_pages in
      taken_as (from + n - 1) u.prot (u.each (from + n - 1) (omega (arith, k)) (omega (arith, k)))

  -- where they shrink in place, the old range ends below the top
  pub may_shrink : to ≡ from → m < n → from + n ≤ top_page
  may_shrink here less = by (is_in_place mode n m) refl may.has_pages may.tail
    where
      turned : (b : Bool) → not b ≡ false → b ≡ true
      turned true h = refl
      turned false h = cc

      below : (o : Option Area) → areas_on old.spaces.processes p (from + n - 1) ≡ o → is_some o ≡ true → from + n ≤ top_page
      below None e h = cc
      below (Some area) e h =
          let whole = laid.whole (from + n - 1) area e in
          let ends = has_parts area (from + n - 1) (laid.here (from + n - 1) area e) in
          let high = whole.high in
          let k = some_pages in
          omega (arith, ends, high, k)

      by : (b : Bool) → is_in_place mode n m ≡ b → not (cond b (is_mapped q from) (have_one_prot q from n)) ≡ false
          → (b && nat_lt m n && nat_lt top (a + address_of n)) ≡ false → from + n ≤ top_page
      by true e h t = let far : nat_lt top (a + address_of n) ≡ false = grind (arith, nat_tests, less, t) in
          let near : a + address_of n ≤ address_of top_page = grind (arith, nat_tests, far) in omega (arith, near)
      by false e h t =
          let u = uniform q from n (turned (have_one_prot q from n) h) in
          let k = some_pages in
          below (areas_on old.spaces.processes p (from + n - 1)) refl
          (taken_as (from + n - 1) u.prot (u.each (from + n - 1) (omega (arith, k)) (omega (arith, k))))

  module _ (small : StaySmall old.spaces.processes p from n m) where
    -- linear indices stay small
    small_on : ((to == from) ≡ false) ⊎ (n < m)
        → IsSomeAnd (on (from + min n m - 1)) (λ area. index_of area (from + min n m - 1) + (m - min n m) < 2 ^ 60)
    small_on which = elim (cases_lt n m) [
      | inl more ↦
          let least : n ≡ min n m = omega (arith, more) in
          subst (λ k. IsSomeAnd (on (from + k - 1)) (λ area. index_of area (from + k - 1) + (m - k) < 2 ^ 60)) least
          (subst (λ o. IsSomeAnd o (λ area. index_of area (from + n - 1) + (m - n) < 2 ^ 60)) (keeps.stands.areas p (from + n - 1)) (small more))
      | inr few ↦
          let u = uniform-where s.world p a olen nlen mode to may goes which in
          let k = some s.world p a olen nlen mode to may goes in
          let last = from + min n m - 1 in
          by (on last) refl (has_area (on last) (q last) u.prot (same_marks last) (u.each last (omega (arith, k)) (omega (arith, k, few)))) few
    ]
      where
        by : (o : Option Area) → on (from + min n m - 1) ≡ o → is_some o ≡ true → m ≤ n
            → IsSomeAnd o (λ area. index_of area (from + min n m - 1) + (m - min n m) < 2 ^ 60)
        by None e h few = absurd (false≢true h)
        by (Some area) e h few =
            let whole = laid_on.whole (from + min n m - 1) area e in
            let ends = has_parts area (from + min n m - 1) (laid_on.here (from + min n m - 1) area e) in
            let room = whole.small in
            omega (arith, ends, room, few)

    pub becomes_on : IsRemap from n to m on
    becomes_on = becomes s.world p a olen nlen mode to may goes on laid_on same_marks small_on (chain_length s.anons)

    -- where the pages grow or move, areas may
    pub may_grow : to ≡ from → n < m → IsGrowth (from + n - 1) (from + m) (areas_on old.spaces.processes p)
    may_grow here more = subst (IsGrowth (from + n - 1) (from + m)) (λ i page. sym (keeps.stands.areas p page) i)
        (becomes_on.grows (grind (arith, nat_tests, here)) more)

    pub may_move : (to ≡ from → ⊥) → IsMove from n to m (areas_on old.spaces.processes p)
    may_move there = subst (IsMove from n to m) (λ i page. sym (keeps.stands.areas p page) i) (becomes_on.moves (different there))
      where
        different : (to ≡ from → ⊥) → (to == from) ≡ false
        different h = by (to == from) refl
          where
            by : (b : Bool) → (to == from) ≡ b → b ≡ false
            by true e = absurd (h (is_number to from e))
            by false e = refl

    -- the old range ends below the top, too
    pub old_high : (to ≡ from → ⊥) → from + n ≤ top_page
    old_high there = by (areas_on old.spaces.processes p (from + n - 1)) refl
        ((may_move there).mapped (from + n - 1) (let k = some_pages in omega (arith, k)) (let k = some_pages in omega (arith, k)))
      where
        by : (o : Option Area) → areas_on old.spaces.processes p (from + n - 1) ≡ o → is_some o ≡ true → from + n ≤ top_page
        by None e h = cc
        by (Some area) e h =
            let whole = laid.whole (from + n - 1) area e in
            let ends = has_parts area (from + n - 1) (laid.here (from + n - 1) area e) in
            let high = whole.high in
            let k = some_pages in
            omega (arith, ends, high, k)

    -- ---- what stands then

    -- the entries that go are counted no more (`off`), the areas have changed, and after them the entries
    module _ (off : Mem) (spaces : AllSpaces) (anons : AnonSet) (same : IsRecounted old off)
        (counts : (f : ℕ) → locks_of old f ≡ locks_of off f + locks_lost old p from n to m f)
        (remapped : HasRemap off (moved_on off off.tables spaces anons) p (after_mremap (chain_length s.anons) p from n to m left on))
        (mid : Mem) (before notes : List Note)
        (done : HasRemapped d (moved_on off off.tables spaces anons) mid s.ledger (remap_events s.ledger p from n to m) before notes)
        (rest : KeepsRest (moved_on off off.tables spaces anons) mid) where
      remap : HasRemap old (moved_on old old.tables spaces anons) p (after_mremap (chain_length s.anons) p from n to m left on)
      remap =
          let h = subst (λ (k : Mem). HasRemap k (moved_on off off.tables spaces anons) p
          (after_mremap (chain_length s.anons) p from n to m left on)) same.rest remapped in
          record { areas = h.areas; alive = h.alive; number = h.number; apart = h.apart; anons = h.anons }

      abbrev events : List Event
      events = remap_events s.ledger p from n to m

      abbrev l : Ledger
      l = after_all s.ledger events

      abbrev now : Process
      now = process_after_mremap from n to m left q

      abbrev now_on : Pages
      now_on = after_mremap (chain_length s.anons) p from n to m left on

      abbrev new : Mem
      new = moved_on mid mid.tables spaces anons

      abbrev next : State
      next = record {
        world = set_process s.world p now;
        ledger = l;
        free = free_of (view mid);
        areas = with_at p now_on s.areas;
        anons = left_of anons s.anons;
        homes = s.homes;
        items = s.items;
      }

      abbrev command : Command
      command = Mremap p a olen nlen mode

      -- no test refuses it
      abbrev IsAllowed : Type 0
      IsAllowed = refusal (tests (setting_by d old) s.world s.ledger command) ≡ None

      abbrev answer : Answer
      answer = MapAt (address_of to)

      abbrev reply : Reply
      reply = noted answer (notes_of events)

      areas_now : AreasAre (view new) next.areas
      areas_now k page = remap.areas k page ∙ (λ i. with_at p now_on (λ r o. keeps.stands.areas r o i) k page)

      -- the events make no anon_vma and change no home
      silent : rmap_after_all s.ledger (remap_events s.ledger p from n to m) (rmap_of s) ≡ rmap_of s
      silent = by (to == from)
        where
          target : Ledger
          target = then_target s.ledger p from n to m

          by : (b : Bool) → rmap_after_all s.ledger (cond b (range_zaps s.ledger p (from + m) (n - m))
              ((range_zaps s.ledger p to m ++ range_zaps target p (from + m) (n - m)) ++ EntriesMoved p (min n m) from to ∷ []))
              (rmap_of s) ≡ rmap_of s
          by true = rmap_after_all-zaps s.ledger (keys_in s.ledger p (from + m) (n - m)) s.ledger (rmap_of s)
          by false =
              rmap_after_all-append s.ledger (range_zaps s.ledger p to m ++ range_zaps target p (from + m) (n - m))
              (EntriesMoved p (min n m) from to ∷ []) (rmap_of s)
              ∙ rmap_after_all-append s.ledger (range_zaps s.ledger p to m) (range_zaps target p (from + m) (n - m)) (rmap_of s)
              ∙ rmap_after_all-zaps target (keys_in target p (from + m) (n - m)) (after_all s.ledger (range_zaps s.ledger p to m))
              (rmap_after_all s.ledger (range_zaps s.ledger p to m) (rmap_of s))
              ∙ rmap_after_all-zaps s.ledger (keys_in s.ledger p to m) s.ledger (rmap_of s)

      lives_now : lives s.world p ≡ true
      lives_now = sym (lives_is d old s keeps p) ∙ alive

      page_now : (k page : ℕ) → pages next.world k page ≡ cond (k == p) (now page) (pages s.world k page)
      page_now k page = pages-set s.world p now k page ∙ ap (λ b. cond b (now page) (pages s.world k page)) (at_number k p)

      -- the areas have the protections and flags of the pages
      marks_now : (k page : ℕ) → marks (areas_on spaces.processes k) page ≡ marks_at (pages next.world k) page
      marks_now k page = ap (option_map area_marks) (areas_now k page) ∙ by (k == p) refl ∙ sym (ap (option_map page_marks) (page_now k page))
        where
          by : (b : Bool) → (k == p) ≡ b → option_map area_marks ((cond b now_on (s.areas k)) page)
              ≡ option_map page_marks (cond b (now page) (pages s.world k page))
          by true same = marks_become s.world p a olen nlen mode to may goes on laid_on same_marks small_on (chain_length s.anons) page
          by false other = marks_of k page

      areas_stand : AreasStand (view new) next.world
      areas_stand = record {
        alive = λ k. remap.alive k ∙ keeps.stands.parts.areas.alive k ∙ by k (k == p) refl
            ∙ sym (lives-set s.world p now k ∙ ap (λ b. cond b true (lives s.world k)) (at_number k p));
        number = remap.number ∙ keeps.stands.parts.areas.number ∙ sym (length-set_old s.world p now keeps.stands.sound.world.in_order lives_now);
        apart = remap.apart;
        covers = λ k page. prots_are spaces.processes k page
            ∙ marks_prot (areas_on spaces.processes k page) (pages next.world k page) (marks_now k page);
        flags = λ k page. marks_flags (areas_on spaces.processes k page) (pages next.world k page) (marks_now k page);
      }
        where
          by : (k : ℕ) (b : Bool) → (k == p) ≡ b → lives s.world k ≡ cond (k == p) true (lives s.world k)
          by k true e = ap (lives s.world) (is_number k p e) ∙ lives_now ∙ sym (ap (λ b. cond b true (lives s.world k)) e)
          by k false e = sym (ap (λ b. cond b true (lives s.world k)) e)

      tables_now : HasTables new
      tables_now k = ap (λ (h : ℕ → Bool). h k) (rest.parts.processes ∙ ap (λ (x : Mem). has x.tables) same.rest) ∙ keeps.tables k
          ∙ alive_is old.spaces.processes k ∙ sym (alive_is spaces.processes k ∙ remap.alive k)

      -- ---- bytes

      -- the entry that p's page has now keeps the bytes that it has
      abbrev IsKeptAt : ℕ → Type 0
      IsKeptAt page = IsKept (view old) d s.ledger (entry l (p, page)) (now page)

      carried : (page was : ℕ) → entry l (p, page) ≡ entry s.ledger (p, was) → now page ≡ q was → IsKeptAt page
      carried page was same is = subst (IsKept (view old) d s.ledger (entry l (p, page))) (sym is)
          (subst (λ e. IsKept (view old) d s.ledger e (q was)) (sym same) (keeps.stands.parts.bytes.kept p was))

      -- a page without entry that claims zeros
      emptied : (page : ℕ) (x : Option Page) → Holds x (λ _. 0) → entry l (p, page) ≡ None → now page ≡ x → IsKeptAt page
      emptied page x zeros none is = subst (IsKept (view old) d s.ledger (entry l (p, page))) (sym is)
          (subst (λ e. IsKept (view old) d s.ledger e x) (sym none) zeros)

      -- a page that isn't mapped has no entry
      no_entry : (page : ℕ) → is_some (on page) ≡ false → entry s.ledger (p, page) ≡ None
      no_entry page free = by (entry s.ledger (p, page)) refl
        where
          unmapped : (o : Option Area) (x : Option Page) → is_some o ≡ false → option_map area_marks o ≡ option_map page_marks x
              → is_some x ≡ false
          unmapped None None h e = refl
          unmapped None (Some x) h e = cc
          unmapped (Some area) x h e = cc

          by : (e : Option Entry) → entry s.ledger (p, page) ≡ e → e ≡ None
          by None is = refl
          by (Some e) is = absurd
              (false≢true (sym (unmapped (on page) (q page) free (same_marks page)) ∙ keeps.stands.sound.at_pages p page (ap is_some is)))

      in_order : T (is_sorted key_cmp s.ledger.entries)
      in_order = keeps.stands.sound.ledger.in_order

      module _ (page : ℕ) where
        kept_there : (to == from) ≡ false → (i j k : Bool) → within to m page ≡ i → within from n page ≡ j → nat_lt (page - to) n ≡ k
            → IsKeptAt page
        kept_there there true j true e f g =
            carried page (from + (page - to)) (came s.ledger p from n to m in_order there (becomes_on.moves there).apart page e g)
            (from_old q from n to m left page e g)
        kept_there there true j false e f g =
            emptied page (option_map wiped (q (from + n - 1))) (wiped_holds (q (from + n - 1))) (grew s.ledger p from n to m in_order there (becomes_on.moves there).apart page e g)
            (from_zeros q from n to m left page e g)
        kept_there there false true k e f g =
            emptied page (left_behind left (q page)) (left_holds left (q page)) (has_left s.ledger p from n to m in_order there (becomes_on.moves there).apart page e f)
            (from_left q from n to m left page e f)
        kept_there there false false k e f g =
            carried page page (stays s.ledger p from n to m in_order there (becomes_on.moves there).apart page e f)
            (from_itself q from n to m left page e f)

        kept_here : (to == from) ≡ true → (i j k : Bool) → within to m page ≡ i → within from n page ≡ j → nat_lt (page - to) n ≡ k
            → IsKeptAt page
        kept_here here true j true e f g =
            carried page page (here_stays s.ledger p from n to m in_order here page (not_past e))
            (from_old q from n to m left page e g ∙ ap q (back e))
          where
            back : within to m page ≡ true → from + (page - to) ≡ page
            back e = let b = range_bounds to m page e in let same = is_number to from here in omega arith

            not_past : within to m page ≡ true → within (from + m) (n - m) page ≡ false
            not_past e =
                let b = range_bounds to m page e in
                let same = is_number to from here in
                out_of_range (from + m) (n - m) page (λ low high. omega (arith, b, low, same))
        kept_here here true j false e f g =
            let b = range_bounds to m page e in
            let same = is_number to from here in
            let far = ltb-false (page - to) n g in
            let more : n < m = omega (arith, b, far) in
            let k = some s.world p a olen nlen mode to may goes in
            emptied page (option_map wiped (q (from + n - 1))) (wiped_holds (q (from + n - 1)))
            (here_stays s.ledger p from n to m in_order here page (out_of_range (from + m) (n - m) page (λ low high. omega (arith, b, low, same)))
            ∙ no_entry page ((becomes_on.grows here more).free page (omega (arith, b, far, same, k)) (omega (arith, b, same))))
            (from_zeros q from n to m left page e g)
        kept_here here false true k e f g =
            emptied page (left_behind left (q page)) (left_holds left (q page)) (here_goes s.ledger p from n to m in_order here page (past e f))
            (from_left q from n to m left page e f)
          where
            past : within to m page ≡ false → within from n page ≡ true → within (from + m) (n - m) page ≡ true
            past e f = let b = range_bounds from n page f in let same = is_number to from here in
                let low : from + m ≤ page = grind (arith, nat_tests, e, b, same) in is_in_range (from + m) (n - m) page low (omega (arith, b, low))
        kept_here here false false k e f g =
            carried page page (here_stays s.ledger p from n to m in_order here page (not_tail f)) (from_itself q from n to m left page e f)
          where
            not_tail : within from n page ≡ false → within (from + m) (n - m) page ≡ false
            not_tail f = grind (arith, nat_tests, f)

        kept_page : IsKeptAt page
        kept_page = by (to == from) refl
          where
            by : (b : Bool) → (to == from) ≡ b → IsKeptAt page
            by true here = kept_here here (within to m page) (within from n page) (nat_lt (page - to) n) refl refl refl
            by false there = kept_there there (within to m page) (within from n page) (nat_lt (page - to) n) refl refl refl

      kept_now : (k page : ℕ) → IsKept (view old) d s.ledger (entry l (k, page)) (pages next.world k page)
      kept_now k page = subst (IsKept (view old) d s.ledger (entry l (k, page))) (sym (page_now k page)) (by (k == p) refl)
        where
          by : (b : Bool) → (k == p) ≡ b → IsKept (view old) d s.ledger (entry l (k, page)) (cond b (now page) (pages s.world k page))
          by true same = subst (λ x. IsKept (view old) d s.ledger (entry l (x, page)) (now page)) (sym (is_number k p same)) (kept_page page)
          by false other = subst (λ e. IsKept (view old) d s.ledger e (pages s.world k page))
              (sym (of_others s.ledger p from n to m keeps.stands.sound.ledger.in_order k page other)) (keeps.stands.parts.bytes.kept k page)

      -- ---- the step

      remap-step : IsAllowed → IsStep (setting_by d old) s command reply next
      remap-step allowed = record {
        events = events;
        legal = record {
          answer = subst (λ o. MatchOption o (Follows (setting_by d old) s.world s.ledger command events answer [])
              (λ e. Refuses e events answer []))
              (sym allowed) (Some to, goes, refl, refl, refl);
          notes = refl;
        };
        world = ap (λ x. set_process s.world p (process_after_mremap from n x m left q)) (sym (page_back to))
            ∙ world_as (setting_by d old) s.world s.ledger events command answer (events_to-load_nothing s.ledger p from n m (Some to));
        ledger = refl;
        free = subst (λ free. ChoosesAll (setting_by d old) None s.ledger events free (free_of (view mid))) keeps.stands.free
            (subst (λ (v : View). ChoosesAll (setting_of v.frames d) None s.ledger events (free_of v) (free_of (view mid))) same.seen done.free);
        rmap = subst (λ r. IsRmapNext r s.world command answer (rmap_of next)) (sym silent)
            (next-plain (rmap_of s) s.world command answer (rmap_of next) refl (record {
              areas = ap (λ x. with_at p (after_mremap (chain_length s.anons) p from n x m left on) s.areas) (sym (page_back to));
              anons = are_left d old s keeps spaces anons remap.anons next.areas areas_now;
              homes = refl;
              items = refl;
            }));
        shows = tt;
      }

      covered_now : AllCovered l (rmap_of next)
      covered_now =
          let are = are_left d old s keeps spaces anons remap.anons next.areas areas_now in
          record {
            frames = sound-remapped s.ledger p from n to m left (rmap_of s) (rmap_of next) keeps.stands.sound.ledger.in_order laid_on becomes_on refl
                are refl keeps.stands.reach;
            slots = slots-remapped s.ledger p from n to m left (rmap_of s) (rmap_of next) keeps.stands.sound.ledger.in_order laid_on becomes_on refl
                are refl keeps.stands.reach keeps.stands.slots;
            merged = merged-remapped s.ledger p from n to m left (rmap_of s) (rmap_of next) keeps.stands.sound.ledger.in_order laid_on becomes_on refl
                are refl refl keeps.stands.reach keeps.stands.slots keeps.stands.merged;
          }

      -- an entry that moved kept its lock
      locks_now : AreLocks (locks_of new) next.world l
      locks_now f = by (to == from) refl (counts f)
        where
          free : (to == from) ≡ true → (page : ℕ) → from + n ≤ page → page < from + m → entry s.ledger (p, page) ≡ None
          free here page low high =
              let k = some s.world p a olen nlen mode to may goes in
              no_entry page ((becomes_on.grows here (omega (arith, low, high))).free page (omega (arith, low, k)) high)

          by : (b : Bool) → (to == from) ≡ b
              → locks_of old f ≡ locks_of off f + (cond b 0 (locks_in old p to m f) + locks_in old p (from + m) (n - m) f)
              → locks_of mid f ≡ lock_count next.world l f
          by true here off_count =
              let kept = ap (λ (locks : ℕ → ℕ). locks f) rest.parts.locks in
              let counted = keeps.locks f in
              let past = range-told old s keeps p (from + m) (n - m) f in
              let gone = count-here s.world s.ledger p from n to m f left in_order here (free here) in
              omega (arith, kept, counted, past, gone, off_count)
          by false there off_count =
              let kept = ap (λ (locks : ℕ → ℕ). locks f) rest.parts.locks in
              let counted = keeps.locks f in
              let target = range-told old s keeps p to m f in
              let past = range-told old s keeps p (from + m) (n - m) f in
              let gone = count-elsewhere s.world s.ledger p from n to m f left in_order there (becomes_on.moves there).apart in
              omega (arith, kept, counted, target, past, gone, off_count)

      steps : IsAllowed → StepsBeside d old new s command reply
      steps allowed = stepped old new s next command reply keeps (remap-step allowed)
          (rest.parts.count ∙ ap (λ (v : View). v.frames) same.seen)
          (swap_alike (moved_on off off.tables spaces anons) mid old new (sym (ap (λ (x : Mem). x.swap) same.rest)) refl rest.parts.swap)
          (stays_orderly d mid mid.tables spaces anons l refl done.stands) refl areas_now
          (anons_stand d old s keeps spaces anons remap.anons next.areas areas_now new refl refl)
          (λ f. ap (λ h. h f) (rest.homes ∙ ap (λ (v : View). v.homes) same.seen) ∙ keeps.stands.homes f)
          (done.items s.items (subst (λ (v : View). ItemsAre v s.ledger s.items) (sym same.seen) keeps.stands.items)) covered_now remap.anons.fit areas_stand tables_now
          (bytes-left d (view old) (view new) s.world next.world s.ledger l (rest.bytes ∙ ap (λ (v : View). v.bytes) same.seen)
          (remap-cached (setting_by d old) s.ledger p from n to m keeps.stands.sound.ledger) keeps.stands.parts.bytes kept_now) locks_now

      pub remaps : IsAllowed → StepsBeside d old mid s command reply
      remaps allowed = subst (λ k. StepsBeside d old k s command reply) (sym rest.parts.stay) (steps allowed)
