-- What is shown of a slot is what the ledger has of it; so the reply of `slot` is a step.
use Rattle.std.proofs.Common.{◌≡◌, ℕ, ◌+◌, ◌<◌, ◌≤◌, ◌==◌, Bool, true, false, cond, not, ◌&&◌, ◌||◌, List, [], ◌∷◌, Option, Some, None, is_some, option_map, ◌⊎◌, inl, inr, refl, sym, ap, subst, ◌∙◌, arith}
use Rattle.std.proofs.lemmas.Bool.Decides.{nat_tests}
use Rattle.std.specs.FinMap.Entries.{find}
use Rattle.std.specs.List.{list_any}
use Rattle.std.specs.Option.{option_map_or}
use Rattle.std.specs.Prelude.{IfSome, IsSomeAnd, MatchOption, nat_le, nat_lt, unwrap_or}
use Rattle.av_base.specs.declared.slot.Slot.{Slot}
use Rattle.av_clusters.specs.Clusters.{is_taken, page_at}
use Rattle.av_clusters.specs.declared.clusters.Page.{Page}
use Rattle.av_clusters.specs.declared.clusters.Page.TheVariants.{Unusable, Free, Taken}
use Rattle.av_swapcache.specs.Area.{is_slot}
use Rattle.av_swapcache.specs.Swap.{IsFit, Shown as ShownSwap, count_of, header_at, shown as shown_swap}
use Rattle.av_swapdev.specs.Header.{Layout}
use Rattle.av_swapdev.specs.declared.header.Header.{Header}
use Rattle.av_trace.specs.declared.command.Command.TheVariants.{Slot as AsksSlot}
use Rattle.av_trace.specs.declared.reply.Answer.TheVariants.{Refused, SlotBad, SlotCount}
use Rattle.av_trace.specs.declared.reply.Errno.{Errno}
use Rattle.av_trace.specs.declared.reply.Errno.TheVariants.{Einval}
use Rattle.av_trace.specs.Reply.{answer_only}
use Rattle.av_plain.specs.Device.{Device, headers_of}
use Rattle.av_plain.specs.Ledger.{Cached, Ledger, cached_by, is_header_slot, is_on, may_be_slot, same_slot, slot_count}
use Rattle.av_plain.specs.Refusal.{Refuses, is_outside, refusal, tests}
use Rattle.av_plain.specs.Report.{MayBeNoSlot, count_answer, slot_answer}
use Rattle.av_plain.specs.Stands.{SwapStands}
use Rattle.av_plain.specs.Step.{Follows}
use Rattle.av_plain.specs.Transcript.{State}
use Rattle.av_mem.specs.declared.mem.Mem.{Mem}
use Rattle.av_swapoff.proofs.CloseLaws.{on-shown}
use Rattle.av_mem.specs.Mem.{AgreesWith, Keeps, setting_by, view}
use Rattle.av_step.specs.Step.{StepsBeside}
use Rattle.av_swap.specs.Swap.{has_page, page_answer}
use Rattle.av_step.proofs.StepLaws.{refused, rmap_kept}
use Rattle.av_step.proofs.Loads.{world_as}

-- ---- counts

-- a slot that is cached has a frame
frame-found : (t : Slot) (cache : List Cached) → is_some (option_map (λ (c : Cached). c.frame) (cached_by (λ c. same_slot t c.slot) cache))
    ≡ list_any (λ (c : Cached). same_slot t c.slot) cache
frame-found t [] = refl
frame-found t (c ∷ cache) = by (same_slot t c.slot) (frame-found t cache)
  where
    by : (b : Bool) → is_some (option_map (λ (c : Cached). c.frame) (cached_by (λ c. same_slot t c.slot) cache))
        ≡ list_any (λ (c : Cached). same_slot t c.slot) cache
        → is_some (option_map (λ (c : Cached). c.frame) (cond b (Some c) (cached_by (λ c. same_slot t c.slot) cache)))
        ≡ (b || list_any (λ (c : Cached). same_slot t c.slot) cache)
    by true h = refl
    by false h = h

-- a slot has the count that is shown
count-shown : (k : Mem) (l : Ledger) → SwapStands (view k) l → (t : Slot) → count_of (shown_swap k.swap) t ≡ slot_count l t
count-shown k l h t = λ i. h.counts t i + cond ((ap is_some (h.finds t) ∙ frame-found t l.cache) i) 1 0

-- a page that is no slot has none
none-counted : (h : ShownSwap) → IsFit h → (t : Slot) → is_slot (page_at (h.slots t.area).pages t.page) ≡ false → count_of h t ≡ 0
none-counted h fit t none = zero (count_of h t) (sym (fit.taken t) ∙ untaken (page_at (h.slots t.area).pages t.page) none)
  where
    untaken : (page : Page) → is_slot page ≡ false → is_taken page ≡ false
    untaken Unusable none = refl
    untaken Free none = refl
    untaken Taken none = none

    zero : (n : ℕ) → nat_lt 0 n ≡ false → n ≡ 0
    zero n e = grind (arith, nat_tests, e)

-- ---- the page

-- outside are the header's page and those past the last
outside-is : (page n : ℕ) → (page == 0 || nat_le n page) ≡ not (nat_lt 0 page && nat_lt page n)
outside-is page n = grind (arith, nat_tests)

-- no page is outside more pages that isn't outside fewer
inside-more : (page n m : ℕ) → n ≤ m → (nat_lt 0 page && nat_lt page n) ≡ true → (nat_lt 0 page && nat_lt page m) ≡ true
inside-more page n m more inside = grind (arith, nat_tests, more, inside)

page-below : (page n : ℕ) → (nat_lt 0 page && nat_lt page n) ≡ true → page < n
page-below page n inside = grind (arith, nat_tests, inside)

some-and : {X : Type 0} (P : X → Type 0) (o : Option X) → IsSomeAnd o P → (x : X) × (o ≡ Some x) × P x
some-and P None h = absurd h
some-and P (Some x) h = (x, refl, h)

-- ---- the command

-- the tests of `slot`
abbrev by_tests : Bool → Bool → Option Errno
by_tests on outside = cond (not on) (Some Einval) (cond outside (Some Einval) None)

module _ {d : Device} (k : Mem) (s : State) (area page : ℕ) (keeps : Keeps d k s) (fit : IsFit (shown_swap k.swap)) where
  abbrev h : ShownSwap
  h = shown_swap k.swap

  abbrev t : Slot
  t = record { area = area; page = page }

  on-at : (o : Option Header) → header_at h area ≡ o → is_on s.ledger area ≡ is_some o
  on-at o is = on-shown k s.ledger keeps.stands.parts.ledger.swap area ∙ ap is_some is

  -- what the header says where it is told
  told-at : (told : ℕ → Option Layout) → headers_of d ≡ Some told → (header : Header) → header_at h area ≡ Some header
      → (layout : Layout) × (told area ≡ Some layout) × AgreesWith h area header layout
  told-at told tells header is =
      let all = subst (λ (o : Option (ℕ → Option Layout)). IfSome o (λ told. (a : ℕ)
      → IfSome (header_at h a) (λ header. IsSomeAnd (told a) (AgreesWith h a header)))) tells keeps.swap.by_headers in
      some-and (AgreesWith h area header) (told area)
      (subst (λ (o : Option Header). IfSome o (λ header. IsSomeAnd (told area) (AgreesWith h area header))) is (all area))

  -- how many pages the area uses, by what is told
  abbrev used_by : Option (ℕ → Option Layout) → ℕ
  used_by headers = option_map_or (λ (headers : ℕ → Option Layout). option_map_or (λ (h : Layout). h.pages) (headers area) 0) headers
      (unwrap_or (d.sizes area) 0)

  used-told : (told : ℕ → Option Layout) → headers_of d ≡ Some told → (header : Header) → header_at h area ≡ Some header
      → used_by (headers_of d) ≡ header.pages
  used-told told tells header is = let at = told-at told tells header is in
      ap used_by tells ∙ ap (λ (o : Option Layout). option_map_or (λ (h : Layout). h.pages) o 0) at.1 ∙ sym at.2.pages

  -- it uses no fewer than are shown
  used-all : (o : Option (ℕ → Option Layout)) → headers_of d ≡ o → (header : Header) → header_at h area ≡ Some header
      → header.pages ≤ used_by (headers_of d)
  used-all (Some told) tells header is = subst (λ n. header.pages ≤ n) (sym (used-told told tells header is)) (omega arith)
  used-all None tells header is = subst (λ n. header.pages ≤ n) (sym (ap used_by tells)) (sized (d.sizes area)
      (subst (λ (o : Option Header). IfSome o (λ (a : Header). IsSomeAnd (d.sizes area) (λ n. a.pages ≤ n))) is (keeps.swap.on_device area)))
    where
      sized : (o : Option ℕ) → IsSomeAnd o (λ n. header.pages ≤ n) → header.pages ≤ unwrap_or o 0
      sized None h = absurd h
      sized (Some n) h = h

  -- whether the page is a slot
  slot-at : (header : Header) → header_at h area ≡ Some header
      → is_slot (page_at (h.slots area).pages page) ≡ (nat_lt 0 page && nat_lt page header.pages && not (h.bad t))
  slot-at header is = subst (λ (o : Option Header). IfSome o (λ (a : Header).
      is_slot (page_at (h.slots area).pages page) ≡ (nat_lt 0 page && nat_lt page a.pages && not (h.bad t)))) is (fit.usable t)

  -- ---- the page is no slot

  -- where headers aren't told an area may have fewer pages than its device
  unanswered : headers_of d ≡ None → (header : Header) → header_at h area ≡ Some header → (nat_lt 0 page && nat_lt page header.pages) ≡ false
      → is_outside (setting_by d k) t ≡ false → StepsBeside d k k s (AsksSlot area page) (answer_only (Refused Einval))
  unanswered untold header is none inside = record {
    next = s;
    step = record {
      events = [];
      legal = record {
        answer = subst (λ o. MatchOption o (Follows (setting_by d k) s.world s.ledger (AsksSlot area page) [] (Refused Einval) [])
            (λ e. Refuses e [] (Refused Einval) []))
            (sym (λ i. by_tests (on-at (Some header) is i) (inside i))) (
              subst (λ (o : Option (ℕ → Option Layout)). MatchOption o
                  ((Refused Einval ≡ count_answer s.ledger t) ⊎ MayBeNoSlot s.ledger t (Refused Einval))
                  (λ headers. Refused Einval ≡ slot_answer (setting_by d k) s.ledger t)) (sym untold) (inr (unused, inr refl)),
              refl,
              refl,
            );
        notes = refl;
      };
      world = world_as (setting_by d k) s.world s.ledger [] (AsksSlot area page) (Refused Einval) refl;
      ledger = refl;
      free = refl;
      rmap = rmap_kept k s (AsksSlot area page) (Refused Einval) refl keeps refl;
      shows = tt;
    };
    keeps = keeps;
  }
    where
      unused : slot_count s.ledger t ≡ 0
      unused = sym (count-shown k s.ledger keeps.stands.parts.ledger.swap t)
          ∙ none-counted h fit t (slot-at header is ∙ ap (λ b. b && not (h.bad t)) none)

  pub slot-refused : has_page (header_at h area) page ≡ false → StepsBeside d k k s (AsksSlot area page) (answer_only (Refused Einval))
  slot-refused none = by (header_at h area) refl none
    where
      refuse : refusal (tests (setting_by d k) s.world s.ledger (AsksSlot area page)) ≡ Some Einval
          → StepsBeside d k k s (AsksSlot area page) (answer_only (Refused Einval))
      refuse is = refused k s (AsksSlot area page) Einval keeps is

      untold : headers_of d ≡ None → (header : Header) → header_at h area ≡ Some header → (nat_lt 0 page && nat_lt page header.pages) ≡ false
          → (b : Bool) → is_outside (setting_by d k) t ≡ b → StepsBeside d k k s (AsksSlot area page) (answer_only (Refused Einval))
      untold tells header is none true outside = refuse (λ i. by_tests (on-at (Some header) is i) (outside i))
      untold tells header is none false inside = unanswered tells header is none inside

      on : (o : Option (ℕ → Option Layout)) → headers_of d ≡ o → (header : Header) → header_at h area ≡ Some header
          → (nat_lt 0 page && nat_lt page header.pages) ≡ false → StepsBeside d k k s (AsksSlot area page) (answer_only (Refused Einval))
      on (Some told) tells header is none = refuse (λ i. by_tests (on-at (Some header) is i)
          ((ap (λ n. page == 0 || nat_le n page) (used-told told tells header is) ∙ outside-is page header.pages ∙ ap not none) i))
      on None tells header is none = untold tells header is none (is_outside (setting_by d k) t) refl

      by : (o : Option Header) → header_at h area ≡ o → has_page o page ≡ false
          → StepsBeside d k k s (AsksSlot area page) (answer_only (Refused Einval))
      by None is none = refuse (ap (λ b. by_tests b (is_outside (setting_by d k) t)) (on-at None is))
      by (Some header) is none = on (headers_of d) refl header is none

  -- ---- the page is a slot, or bad

  reported : (header : Header) → header_at h area ≡ Some header → (nat_lt 0 page && nat_lt page header.pages) ≡ true
      → (o : Option (ℕ → Option Layout)) → headers_of d ≡ o → MatchOption o
      ((page_answer h t ≡ count_answer s.ledger t) ⊎ MayBeNoSlot s.ledger t (page_answer h t))
      (λ headers. page_answer h t ≡ cond (may_be_slot t o) (count_answer s.ledger t) (SlotBad t))
  reported header is inside (Some told) tells =
      let at = told-at told tells header is in
      let usable = ap (is_header_slot t) at.1 ∙ at.2.slots page (page-below page header.pages inside) in
      by (h.bad t) ∙ ap (λ b. cond b (count_answer s.ledger t) (SlotBad t)) (sym usable)
    where
      by : (b : Bool) → cond b (SlotBad t) (SlotCount t (count_of h t) (h.find t)) ≡ cond (not b) (count_answer s.ledger t) (SlotBad t)
      by true = refl
      by false = let swap = keeps.stands.parts.ledger.swap in λ i. SlotCount t (count-shown k s.ledger swap t i) (swap.finds t i)
  reported header is inside None tells = by (h.bad t) refl
    where
      by : (b : Bool) → h.bad t ≡ b → (cond b (SlotBad t) (SlotCount t (count_of h t) (h.find t)) ≡ count_answer s.ledger t)
          ⊎ MayBeNoSlot s.ledger t (cond b (SlotBad t) (SlotCount t (count_of h t) (h.find t)))
      by true bad = inr (
        sym (count-shown k s.ledger keeps.stands.parts.ledger.swap t)
            ∙ none-counted h fit t (slot-at header is ∙ (λ i. inside i && not (bad i))),
        inl refl,
      )
      by false good = let swap = keeps.stands.parts.ledger.swap in inl (λ i. SlotCount t (count-shown k s.ledger swap t i) (swap.finds t i))

  pub slot-steps : has_page (header_at h area) page ≡ true → StepsBeside d k k s (AsksSlot area page) (answer_only (page_answer h t))
  slot-steps there = by (header_at h area) refl there
    where
      by : (o : Option Header) → header_at h area ≡ o → has_page o page ≡ true
          → StepsBeside d k k s (AsksSlot area page) (answer_only (page_answer h t))
      by None is there = cc
      by (Some header) is there = record {
        next = s;
        step = record {
          events = [];
          legal = record {
            answer = subst (λ o. MatchOption o (Follows (setting_by d k) s.world s.ledger (AsksSlot area page) [] (page_answer h t) [])
                (λ e. Refuses e [] (page_answer h t) []))
                (sym (λ i. by_tests (on-at (Some header) is i) (inside i)))
                (reported header is there (headers_of d) refl, refl, refl);
            notes = refl;
          };
          world = world_as (setting_by d k) s.world s.ledger [] (AsksSlot area page) (page_answer h t) refl;
          ledger = refl;
          free = refl;
          rmap = rmap_kept k s (AsksSlot area page) (page_answer h t) refl keeps refl;
          shows = tt;
        };
        keeps = keeps;
      }
        where
          inside : is_outside (setting_by d k) t ≡ false
          inside = outside-is page (used_by (headers_of d))
              ∙ ap not (inside-more page header.pages (used_by (headers_of d)) (used-all (headers_of d) refl header is) there)
