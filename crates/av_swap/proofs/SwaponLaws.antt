-- A swap area that is turned on: the reply is a step, and the memory system stands for what it leaves.
use Rattle.std.proofs.Common.{◌≡◌, ℕ, ◌<◌, ◌≤◌, ◌==◌, Bool, true, false, cond, not, ◌&&◌, List, [], ◌∷◌, min, map, Option, Some, None, option_map, Result, Ok, Err, ◌⊎◌, inl, inr, refl, sym, ap, subst, ◌∙◌, arith}
use Rattle.std.proofs.lemmas.Bool.Decides.{nat_tests}
use Rattle.std.proofs.lemmas.Cmp.{nat_cmp_total}
use Rattle.std.specs.Cmp.{unsigned_tied}
use Rattle.std.specs.FinMap.Entries.{find-put}
use Rattle.std.specs.Ordering.{nat_cmp}
use Rattle.std.specs.Prelude.{ℤ, IfSome, IsErr, IsErrAnd, IsSomeAnd, MatchOption, count_by, is_none, nat_lt, option_and_then, unwrap_or}
use Rattle.av_base.specs.Words.{is_in}
use Rattle.av_clusters.specs.Clusters.{Slots, fresh, is_free}
use Rattle.av_io.specs.Count.{Rose, RoseBy}
use Rattle.av_swapcache.specs.Calls.{Answers}
use Rattle.av_swapcache.specs.Swap.{HasAreas, Shown as ShownSwap, Store as SwapStore, after_on, header_at, is_on as is_shown_on, shown as shown_swap}
use Rattle.av_swapcache.specs.declared.swap.SwapOn.{SwapOn}
use Rattle.av_swapcache.specs.declared.swap.SwapOn.TheVariants.{On as IsOn, Busy, Io, Bad}
use Rattle.av_swapcache.proofs.Views.{areas_on}
use Rattle.av_swapdev.specs.Device.{Holds, most_pages, no_history}
use Rattle.av_swapdev.specs.Header.{Layout, header_of}
use Rattle.av_swapdev.specs.declared.header.Header.{Header}
use Rattle.av_swapdev.specs.declared.header.HeaderErr.{HeaderErr}
use Rattle.av_trace.specs.declared.command.Command.TheVariants.{Swapon}
use Rattle.av_trace.specs.declared.reply.Answer.{Answer}
use Rattle.av_trace.specs.declared.reply.Answer.TheVariants.{On, Refused}
use Rattle.av_trace.specs.declared.reply.Errno.{Errno}
use Rattle.av_trace.specs.declared.reply.Errno.TheVariants.{Ebusy, Einval, Eio}
use Rattle.av_trace.specs.declared.reply.Reply.{Reply}
use Rattle.av_trace.specs.Reply.{answer_only}
use Rattle.av_plain.specs.Choice.{AreFresh, Chooses, Free}
use Rattle.av_plain.specs.Device.{Device, IsSameDevice, device_by, headers_of, without_fault, Calls}
use Rattle.av_plain.specs.Event.{Event, TurnedOn, after}
use Rattle.av_plain.specs.Ledger.{HasNumbers, SwapArea, is_header_slot, is_on}
use Rattle.av_plain.specs.Refusal.{Refuses, refusal, tests}
use Rattle.av_plain.specs.Stands.{Stands, View, free_of}
use Rattle.av_plain.specs.Step.{Follows, causes}
use Rattle.av_plain.specs.Swapon.{IsByHeader, header_answer, priority_of}
use Rattle.av_plain.specs.Transcript.{IsStep, State, rmap_of}
use Rattle.av_plain.proofs.Device.{setting-layouts}
use Rattle.av_plain.proofs.FreeSteps.{step-lists}
use Rattle.av_plain.proofs.Sound.{step-sound}
use Rattle.av_swap_laws.specs.Held.{Steps}
use Rattle.av_swap_laws.specs.Steps.{view_on}
use Rattle.av_swap_laws.proofs.Whole.{on-steps}
use Rattle.av_mem.specs.declared.mem.Mem.{Mem}
use Rattle.av_mem.specs.Mem.{AgreesWith, AreByHeaders, Keeps, SwapFits, area_of, frame_count, held_by, setting_by, view}
use Rattle.av_mem.proofs.KeepsLaws.{keeps-serves, keeps-whenever, state_by}
use Rattle.av_mem.proofs.SwapAreas.{areas-on}
use Rattle.av_step.specs.Step.{Does, StepsBeside, reply_in}
use Rattle.av_swap.specs.Swap.{on_answer}
use Rattle.av_step.specs.declared.refusal.Refusal.{Refusal}
use Rattle.av_step.specs.declared.refusal.Refusal.TheVariants as refusals
use Rattle.av_step.proofs.Loads.{world_as}
use Rattle.av_swapoff.proofs.CloseLaws.{on-shown, with_swap}
use Rattle.av_step.proofs.StepLaws.{is_number, refused, rmap_kept}
use Rattle.av_plain.proofs.Wrote.{device-itself, some-same, wrote-none, wrote-same}

-- ---- the tests

-- the tests of `swapon`, by what the device has of the area
abbrev by_tests : Option ℕ → Bool → Option Errno
by_tests size on = cond (is_none size) (Some Einval) (cond on (Some Ebusy) (cond (unwrap_or size 0 == 0) (Some Einval) None))

module _ {d : Device} (k : Mem) (s : State) (area : ℕ) (priority : Option ℕ) (keeps : Keeps d k s) where
  -- an area that is attached and has pages is refused where it is on
  tests-are : (pages : ℕ) → d.sizes area ≡ Some pages → 0 < pages →
      refusal (tests (setting_by d k) s.world s.ledger (Swapon area priority)) ≡ cond (is_shown_on (shown_swap k.swap) area) (Some Ebusy) None
  tests-are pages there some = (λ i. by_tests (there i) (on-shown k s.ledger keeps.stands.parts.ledger.swap area i))
      ∙ ap (λ b. cond (is_shown_on (shown_swap k.swap) area) (Some Ebusy) (cond b (Some Einval) None)) (positive pages some)
    where
      positive : (n : ℕ) → 0 < n → (n == 0) ≡ false
      positive n some = grind (arith, nat_tests, some)

  -- any other is off, and refused
  none-refused : unwrap_or (d.sizes area) 0 ≡ 0 → refusal (tests (setting_by d k) s.world s.ledger (Swapon area priority)) ≡ Some Einval
  none-refused none = ap (by_tests (d.sizes area)) (off (is_on s.ledger area) refl) ∙ by (d.sizes area) none
    where
      off : (b : Bool) → is_on s.ledger area ≡ b → b ≡ false
      off true on = let some = keeps.stands.sound.areas_fit.attached area on in absurd (omega (arith, some, none))
      off false on = refl

      by : (o : Option ℕ) → unwrap_or o 0 ≡ 0 → by_tests o false ≡ Some Einval
      by None none = refl
      by (Some n) none = ap (λ n. cond (n == 0) (Some Einval) None) none

-- so it is over any device with such sizes, which isn't asked
pub refused-none : (k : Mem) (area : ℕ) (priority : Option ℕ) (d : Device) → unwrap_or (d.sizes area) 0 ≡ 0
    → Does d d k k (Swapon area priority) (Err (refusals.Refused Einval))
refused-none k area priority d none = record {
  step = λ s keeps. let h = refused k s (Swapon area priority) Einval keeps (none-refused k s area priority keeps none) in record {
    next = h.next;
    step = h.step;
    keeps = h.keeps;
    same = device-itself d;
    wrote = wrote-none d.history;
    failures = still d.failures;
  };
  steady = λ steady. steady;
  same = device-itself d;
  count = refl;
}
  where
    still : (n : ℕ) → RoseBy 0 n n
    still n = omega arith

-- as `?` hands it out
pub refused-none-by : (k : Mem) (area : ℕ) (priority : Option ℕ) (d : Device) (error : Errno) (reply : Reply) (r : Result (Unit {0}) Refusal) →
    IsErr r × IsErrAnd r (λ e. e ≡ refusals.Refused error) → error ≡ Einval → unwrap_or (d.sizes area) 0 ≡ 0
    → Does d d k k (Swapon area priority) (reply_in reply r)
refused-none-by k area priority d error reply (Ok done) is same none = absurd is.1
refused-none-by k area priority d error reply (Err e) is same none =
    subst (λ e. Does d d k k (Swapon area priority) (Err e)) (sym (is.1 ∙ ap refusals.Refused same)) (refused-none k area priority d none)

-- ---- the header

-- where pages are told, the header of an area is that of its page 0
told-header : (sizes : ℕ → Option ℕ) (told : ℕ → ℕ → List ℕ) (area pages : ℕ) (page : List ℕ) (r : Result Layout HeaderErr) → sizes area ≡ Some pages
    → told area 0 ≡ page → header_of page pages ≡ r → option_and_then (λ n. without_fault (header_of (told area 0) n)) (sizes area) ≡ without_fault r
told-header sizes told area pages page r there holds reads = ap (option_and_then (λ n. without_fault (header_of (told area 0) n))) there
    ∙ ap (λ page. without_fault (header_of page pages)) holds ∙ ap without_fault reads

-- ---- the memory system with other swap areas

-- where they are shown as before, it stands for what it did
alike-keeps : (d : Device) (k : Mem) (swap : SwapStore) (s : State) → shown_swap swap ≡ shown_swap k.swap → Keeps d k s → Keeps d (with_swap k swap) s
alike-keeps d k swap s same keeps = record {
  stands = subst (λ (h : ShownSwap). Stands (setting_by d k) (record (view k) {
    find = h.find;
    entries = h.entries;
    flight = h.flight;
    on = map (area_of h.priority) h.on;
    slots = h.slots;
  }) d s) (sym same) keeps.stands;
  locks = keeps.locks;
  lists = keeps.lists;
  items = keeps.items;
  tables = keeps.tables;
  anons = keeps.anons;
  swap = record {
    frames = ap (λ (h : ShownSwap). h.frames) same ∙ keeps.swap.frames;
    closed = ap (λ (h : ShownSwap). h.closing) same ∙ keeps.swap.closed;
    on_device = subst (HasAreas d.sizes) (sym same) keeps.swap.on_device;
    by_headers = subst (AreByHeaders (headers_of d)) (sym same) keeps.swap.by_headers;
  };
}

-- ---- an area comes on

module _ (d : Device) (k : Mem) (swap : SwapStore) (s : State) (area pages : ℕ) (priority : Option ℕ)
    (there : d.sizes area ≡ Some pages) (some : 0 < pages) (keeps : Keeps d k s) (header : Header)
    (came : Answers d.pages area pages (priority_of priority) (IsOn header) (shown_swap k.swap) (shown_swap swap)) where
  abbrev layout : Layout
  layout = came.3

  abbrev made : Slots
  made = fresh header.pages layout.bad

  abbrev new : Mem
  new = with_swap k swap

  -- what a ledger keeps of it
  abbrev kept : SwapArea
  kept = record { slots = header.slots; bad = header.bad; priority = priority_of priority }

  abbrev on_event : Event
  on_event = TurnedOn area kept

  numbers : HasNumbers kept layout
  numbers = record { slots = ap (λ (h : Header). h.slots) came.5; bad = ap (λ (h : Header). h.bad) came.5 }

  -- where pages are told, the area has this header
  told-area : IfSome (headers_of d) (λ headers. headers area ≡ Some layout)
  told-area = by d.pages came.2
    where
      by : (told : Option (ℕ → ℕ → List ℕ)) → Holds told area 0 came.1
          → IfSome (headers_of (device_by d.sizes told (0, no_history))) (λ headers. headers area ≡ Some layout)
      by None holds = tt
      by (Some told) holds = told-header d.sizes told area pages came.1 (Ok layout) there holds came.4

  right : IfSome (headers_of d) (λ headers. IsSomeAnd (headers area) (HasNumbers kept))
  right = by (headers_of d) told-area
    where
      by : (o : Option (ℕ → Option Layout)) → IfSome o (λ headers. headers area ≡ Some layout)
          → IfSome o (λ headers. IsSomeAnd (headers area) (HasNumbers kept))
      by None told = tt
      by (Some headers) told = subst (λ o. IsSomeAnd o (HasNumbers kept)) (sym told) numbers

  by-header : IsByHeader (headers_of d) area (On header.slots header.bad)
  by-header = by (headers_of d) told-area
    where
      by : (o : Option (ℕ → Option Layout)) → IfSome o (λ headers. headers area ≡ Some layout) → IsByHeader o area (On header.slots header.bad)
      by None told = inr (header.slots, header.bad, came.6.some, refl)
      by (Some headers) told = ap (λ (h : Header). On h.slots h.bad) came.5 ∙ ap header_answer (sym told)

  fresh-made : AreFresh (setting_by d k) area kept made
  fresh-made = by (headers_of d) told-area
    where
      within : (n : ℕ) → n ≡ pages → header.pages ≤ min n most_pages
      within n is = let adds = came.6 in omega (arith, adds.fits, adds.most, is)

      by : (o : Option (ℕ → Option Layout)) → IfSome o (λ headers. headers area ≡ Some layout)
          → AreFresh (record { frames = frame_count k; sizes = d.sizes; headers = o }) area kept made
      by None told = (
        header.pages,
        layout.bad,
        within (unwrap_or (d.sizes area) 0) (ap (λ o. unwrap_or o 0) there),
        came.6.all,
        refl,
        ap (λ (h : Header). count_by is_free (fresh h.pages layout.bad).pages) came.5 ∙ came.7,
      )
      by (Some headers) told = subst (λ o. IsSomeAnd o (λ (h : Layout). HasNumbers kept h × (made ≡ fresh h.pages h.bad))) (sym told)
          (numbers, ap (λ (h : Header). fresh h.pages layout.bad) came.5)

  -- ---- what stands then

  view-is : view new ≡ view_on area kept made (view k)
  view-is = ap (λ (h : ShownSwap). record (view k) {
    find = h.find;
    entries = h.entries;
    flight = h.flight;
    on = map (area_of h.priority) h.on;
    slots = h.slots;
  }) came.8 ∙ (λ i. record (view_on area kept made (view k)) {
    on = areas-on (shown_swap k.swap).priority area (priority_of priority) header (shown_swap k.swap).on came.0 i;
  })

  on-step : Steps (setting_by d k) None on_event (held_by d k s.world (rmap_of s) s.ledger)
      (held_by d new s.world (rmap_of s) (after s.ledger on_event))
  on-step = subst (λ (v : View). Steps (setting_by d k) None on_event (held_by d k s.world (rmap_of s) s.ledger)
      (record { view = v; device = d; world = s.world; ledger = after s.ledger on_event; rmap = rmap_of s })) (sym view-is)
      (on-steps (setting_by d k) None (held_by d k s.world (rmap_of s) s.ledger) (keeps-serves d k s keeps).held area kept made fresh-made right)

  abbrev next : State
  next = state_by new s.world (rmap_of s) (after s.ledger on_event)

  abbrev answer : Answer
  answer = On header.slots header.bad

  is-step : IsStep (setting_by d k) s (Swapon area priority) (answer_only answer) next
  is-step = record {
    events = on_event ∷ [];
    legal = record {
      answer = subst (λ o. MatchOption o (Follows (setting_by d k) s.world s.ledger (Swapon area priority) (on_event ∷ []) answer [])
          (λ e. Refuses e (on_event ∷ []) answer []))
          (sym (tests-are k s area priority keeps pages there some ∙ ap (λ b. cond b (Some Ebusy) None) came.0)) (inr by-header, refl, refl);
      notes = refl;
    };
    world = world_as (setting_by d k) s.world s.ledger (on_event ∷ []) (Swapon area priority) answer refl;
    ledger = refl;
    free = (
      free_of (view new),
      subst (λ (free : Free). Chooses (setting_by d k) None s.ledger on_event free (free_of (view new))) keeps.stands.free on-step.chosen,
      refl,
    );
    rmap = rmap_kept k s (Swapon area priority) answer refl keeps refl;
    shows = tt;
  }

  -- ---- the areas fit

  abbrev shown_then : ShownSwap
  shown_then = after_on area header (priority_of priority) layout.bad (shown_swap k.swap)

  -- this area is found with its header, any other as before
  found-at : (a : ℕ) → header_at shown_then a ≡ cond (a == area) (Some header) (header_at (shown_swap k.swap) a)
  found-at a = find-put nat_cmp nat_cmp_total a area header (shown_swap k.swap).on
      ∙ ap (λ b. cond b (Some header) (header_at (shown_swap k.swap) a)) (unsigned_tied a area)

  new-agrees : AgreesWith shown_then area header layout
  new-agrees = record { pages = ap (λ (h : Header). h.pages) came.5; slots = slot-is }
    where
      same : (n : ℕ) → (n == n) ≡ true
      same n = grind (arith, nat_tests)

      less : (page n : ℕ) → page < n → nat_lt page n ≡ true
      less page n below = grind (arith, nat_tests, below)

      slot-is : (page : ℕ) → page < header.pages → is_header_slot (record { area = area; page = page }) (Some layout)
          ≡ not (shown_then.bad (record { area = area; page = page }))
      slot-is page below =
          ap (λ n. nat_lt page n && not (is_in page layout.bad)) (sym (ap (λ (h : Header). h.pages) came.5))
          ∙ ap (λ b. b && not (is_in page layout.bad)) (less page header.pages below)
          ∙ sym (ap (λ b. not (b && is_in page layout.bad)) (less page header.pages below))
          ∙ sym (ap (λ b. not (cond b (nat_lt page header.pages && is_in page layout.bad)
          ((shown_swap k.swap).bad (record { area = area; page = page })))) (same area))

  other-agrees : (a : ℕ) (other : Header) (l : Layout) → (a == area) ≡ false → AgreesWith (shown_swap k.swap) a other l
      → AgreesWith shown_then a other l
  other-agrees a other l apart h = record {
    pages = h.pages;
    slots = λ page below. h.slots page below
        ∙ sym (ap (λ b. not (cond b (nat_lt page header.pages && is_in page layout.bad)
        ((shown_swap k.swap).bad (record { area = a; page = page })))) apart);
  }

  headers-then : AreByHeaders (headers_of d) shown_then
  headers-then = by (headers_of d) told-area keeps.swap.by_headers
    where
      layout_so : (a : ℕ) (other : Header) (o : Option Layout) → (a == area) ≡ false → IsSomeAnd o (AgreesWith (shown_swap k.swap) a other)
          → IsSomeAnd o (AgreesWith shown_then a other)
      layout_so a other None apart h = h
      layout_so a other (Some l) apart h = other-agrees a other l apart h

      header_so : (headers : ℕ → Option Layout) (a : ℕ) (o : Option Header) → (a == area) ≡ false
          → IfSome o (λ other. IsSomeAnd (headers a) (AgreesWith (shown_swap k.swap) a other))
          → IfSome o (λ other. IsSomeAnd (headers a) (AgreesWith shown_then a other))
      header_so headers a None apart h = tt
      header_so headers a (Some other) apart h = layout_so a other (headers a) apart h

      at : (headers : ℕ → Option Layout) → headers area ≡ Some layout → (a : ℕ) (b : Bool) → (a == area) ≡ b
          → IfSome (header_at (shown_swap k.swap) a) (λ other. IsSomeAnd (headers a) (AgreesWith (shown_swap k.swap) a other))
          → IfSome (cond b (Some header) (header_at (shown_swap k.swap) a)) (λ other. IsSomeAnd (headers a) (AgreesWith shown_then a other))
      at headers told a true is h = subst (λ a. IsSomeAnd (headers a) (AgreesWith shown_then a header)) (sym (is_number a area is))
          (subst (λ o. IsSomeAnd o (AgreesWith shown_then area header)) (sym told) new-agrees)
      at headers told a false apart h = header_so headers a (header_at (shown_swap k.swap) a) apart h

      by : (o : Option (ℕ → Option Layout)) → IfSome o (λ headers. headers area ≡ Some layout) → AreByHeaders o (shown_swap k.swap)
          → AreByHeaders o shown_then
      by None told h = tt
      by (Some headers) told h = λ a. subst (λ o. IfSome o (λ other. IsSomeAnd (headers a) (AgreesWith shown_then a other))) (sym (found-at a))
          (at headers told a (a == area) refl (h a))

  on-fits : SwapFits d None new
  on-fits = record {
    frames = ap (λ (h : ShownSwap). h.frames) came.8 ∙ keeps.swap.frames;
    closed = ap (λ (h : ShownSwap). h.closing) came.8 ∙ keeps.swap.closed;
    on_device = subst (HasAreas d.sizes) (sym came.8)
        (areas_on d.sizes (shown_swap k.swap) area pages header (priority_of priority) layout.bad keeps.swap.on_device there came.6.fits);
    by_headers = subst (AreByHeaders (headers_of d)) (sym came.8) headers-then;
  }

  turned-on : StepsBeside d k new s (Swapon area priority) (answer_only answer)
  turned-on = record {
    next = next;
    step = is-step;
    keeps = record {
      stands = record {
        over = record { sizes = refl; headers = refl };
        sound = step-sound (setting_by d k) s (Swapon area priority) (answer_only answer) next keeps.stands.sound is-step;
        parts = record {
          ledger = on-step.held.ledger;
          areas = on-step.areas keeps.stands.parts.areas;
          bytes = on-step.held.bytes;
          headers = on-step.held.headers;
        };
        free = refl;
        lists = step-lists (setting_by d k) s (Swapon area priority) (answer_only answer) next (setting-layouts (frame_count k) d) keeps.stands.sound
            keeps.stands.lists is-step;
        areas = keeps.stands.areas;
        anons = record { next = keeps.stands.anons.next; kin = keeps.stands.anons.kin; chains = keeps.stands.anons.chains };
        homes = on-step.held.homes;
        items = on-step.held.items;
        reach = on-step.held.covered.frames;
        slots = on-step.held.covered.slots;
        merged = on-step.held.covered.merged;
      };
      locks = keeps.locks;
      lists = keeps.lists;
      items = keeps.items;
      tables = keeps.tables;
      anons = keeps.anons;
      swap = on-fits;
    };
  }

-- ---- by what came of it

module _ (d : Device) (k : Mem) (swap : SwapStore) (s : State) (area pages : ℕ) (priority : Option ℕ) (there : d.sizes area ≡ Some pages)
    (some : 0 < pages)
    (keeps : Keeps d k s) where
  -- page 0 can't be read, or is no header
  not-on : (error : Errno) → is_shown_on (shown_swap k.swap) area ≡ false → shown_swap swap ≡ shown_swap k.swap
      → ((Refused error ≡ Refused Eio) ⊎ IsByHeader (headers_of d) area (Refused error))
      → StepsBeside d k (with_swap k swap) s (Swapon area priority) (answer_only (Refused error))
  not-on error off same is = record {
    next = s;
    step = record {
      events = [];
      legal = record {
        answer = subst (λ o. MatchOption o (Follows (setting_by d k) s.world s.ledger (Swapon area priority) [] (Refused error) [])
            (λ e. Refuses e [] (Refused error) []))
            (sym (tests-are k s area priority keeps pages there some ∙ ap (λ b. cond b (Some Ebusy) None) off)) (is, refl, refl);
        notes = refl;
      };
      world = world_as (setting_by d k) s.world s.ledger [] (Swapon area priority) (Refused error) refl;
      ledger = refl;
      free = refl;
      rmap = rmap_kept k s (Swapon area priority) (Refused error) refl keeps refl;
      shows = tt;
    };
    keeps = alike-keeps d k swap s same keeps;
  }

  pub on-answered : (came : SwapOn) → Answers d.pages area pages (priority_of priority) came (shown_swap k.swap) (shown_swap swap)
      → StepsBeside d k (with_swap k swap) s (Swapon area priority) (answer_only (on_answer came))
  on-answered (IsOn header) h = turned-on d k swap s area pages priority there some keeps header h
  on-answered Busy h =
      let busy = tests-are k s area priority keeps pages there some ∙ ap (λ b. cond b (Some Ebusy) None) h.0 in
      let was = refused k s (Swapon area priority) Ebusy keeps busy in
      record { next = was.next; step = was.step; keeps = alike-keeps d k swap was.next h.1 was.keeps }
  on-answered Io h = not-on Eio h.0 h.1 (inl refl)
  on-answered (Bad fault) h = not-on Einval h.0 h.4 (inr (by d.pages h.2))
    where
      by : (told : Option (ℕ → ℕ → List ℕ)) → Holds told area 0 h.1 → IsByHeader (headers_of (device_by d.sizes told (0, no_history))) area (Refused Einval)
      by None holds = inl refl
      by (Some told) holds = ap header_answer (sym (told-header d.sizes told area pages h.1 (Err fault) there holds h.3))

-- ---- over a device at two times

-- the same came of it where pages aren't told
untold : (told : Option (ℕ → ℕ → List ℕ)) (area pages : ℕ) (priority : ℤ) (came : SwapOn) (was now : ShownSwap)
    → Answers told area pages priority came was now
    → Answers None area pages priority came was now
untold told area pages priority (IsOn header) was now h = (h.0, h.1, tt, h.3, h.4, h.5, h.6, h.7, h.8)
untold told area pages priority Busy was now h = h
untold told area pages priority Io was now h = h
untold told area pages priority (Bad fault) was now h = (h.0, h.1, tt, h.3, h.4)

-- an error of the device is answered where its count of failures rose
rose : (came : SwapOn) (n n' : ℕ) → (came ≡ Io → Rose n n') → ((came ≡ Io → ⊥) → n' ≡ n) → RoseBy (causes (answer_only (on_answer came))) n n'
rose came n n' cause unfailed = by came cause unfailed
  where
    still : n' ≡ n → RoseBy 0 n n'
    still e = omega (arith, e)

    by : (came : SwapOn) → (came ≡ Io → Rose n n') → ((came ≡ Io → ⊥) → n' ≡ n) → RoseBy (causes (answer_only (on_answer came))) n n'
    by (IsOn header) cause unfailed = still (unfailed (λ e. cc))
    by Busy cause unfailed = still (unfailed (λ e. cc))
    by Io cause unfailed = cause refl
    by (Bad fault) cause unfailed = still (unfailed (λ e. cc))

abbrev first_page : (ℕ → ℕ → List ℕ) → ℕ → List ℕ
first_page told a = told a 0

module _ (sizes sizes' : ℕ → Option ℕ) (told told' : Option (ℕ → ℕ → List ℕ)) (n n' : Calls) (same_sizes : sizes' ≡ sizes)
    (same_pages : told' ≡ told) (never_falls : n.0 ≤ n'.0) (asked : n'.1 ≡ n.1) where
  pub one-device : IsSameDevice (device_by sizes told n) (device_by sizes' told' n')
  one-device = record {
    sizes = same_sizes;
    first = ap (λ (o : Option (ℕ → ℕ → List ℕ)). option_map first_page o) same_pages;
    failures = never_falls;
    history = some-same n.1 n'.1 asked;
  }

  pub swapon-does : (k : Mem) (swap : SwapStore) (area pages : ℕ) (priority : Option ℕ) → sizes area ≡ Some pages → 0 < pages → (came : SwapOn)
      → Answers told area pages (priority_of priority) came (shown_swap k.swap) (shown_swap swap) → (came ≡ Io → Rose n.0 n'.0)
      → ((came ≡ Io → ⊥) → n'.0 ≡ n.0)
      → Does (device_by sizes told n) (device_by sizes' told' n') k (with_swap k swap) (Swapon area priority) (Ok (answer_only (on_answer came)))
  swapon-does k swap area pages priority there some came h cause unfailed = record {
    step = λ s keeps. let did = on-answered (device_by sizes told n) k swap s area pages priority there some keeps came h in record {
      next = did.next;
      step = did.step;
      keeps = subst (λ (sizes : ℕ → Option ℕ). Keeps (device_by sizes told' n') (with_swap k swap) did.next) (sym same_sizes)
          (subst (λ (told : Option (ℕ → ℕ → List ℕ)). Keeps (device_by sizes told n') (with_swap k swap) did.next) (sym same_pages)
          (keeps-whenever sizes told n n' (with_swap k swap) did.next did.keeps));
      same = one-device;
      wrote = wrote-same n.1 n'.1 asked;
      failures = rose came n.0 n'.0 cause unfailed;
    };
    steady = λ steady. let did = on-answered (device_by sizes None steady.0) k swap steady.1 area pages priority there some steady.2 came
        (untold told area pages (priority_of priority) came (shown_swap k.swap) (shown_swap swap) h) in
        (steady.0, did.next, did.keeps);
    same = one-device;
    count = refl;
  }
