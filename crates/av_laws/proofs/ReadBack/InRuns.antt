-- Each step leaves pages below the top, of processes with numbers of 64 bits.
use Rattle.std.specs.List.{list_all}
use Rattle.std.specs.Prelude.{MatchBool, MatchOption, option_and_then, slice_index}
use Rattle.std.specs.Ordering.{nat_cmp, eq_by_cmp}
use Rattle.std.proofs.Common.{◌≡◌, inl, inr, ℕ, ◌+◌, ◌-◌, ◌<◌, ◌≤◌, Bool, true, false, cond, not, ◌&&◌, List, [], ◌∷◌, ◌++◌, length, Option, Some, None, is_some, option_map, refl, sym, ap, subst, ◌∙◌, arith, ◌==◌, nat_lt, nat_le, if◌then◌else◌}
use Rattle.std.proofs.lemmas.Bool.Decides.{nat_tests}
use Rattle.av_base.specs.Limits.{low_page, top_page}
use Rattle.av_base.specs.Page.{address_of, is_on_page, page_of, pages_met, pages_of}
use Rattle.av_base.specs.Words.{within}
use Rattle.av_base.specs.declared.flags.Flag.TheVariants.{Locked}
use Rattle.av_vma.specs.Gap.{IsGap}
use Rattle.av_trace.specs.Command.{IsInRange}
use Rattle.av_text.specs.Number.{IsWide}
use Rattle.av_trace.specs.declared.command.Command.{Command}
use Rattle.av_trace.specs.declared.command.Command.TheVariants.{Compact, Merge, Spawn, Fork, Exit, Mmap, Mremap, Munmap, Mprotect, Madvise, Mlock, Munlock, Read, Write, Reclaim, Age, Complete, Swapon, Swapoff, Maps, Areas as AsksAreas, Rmap as AsksRmap, Entry as AsksEntry, Slot as AsksSlot, Stat}
use Rattle.av_trace.specs.declared.mode.Mode.{Mode}
use Rattle.av_trace.specs.declared.place.Place.{Place}
use Rattle.av_trace.specs.declared.place.Place.TheVariants.{Auto, At, Fixed, NoReplace}
use Rattle.av_trace.specs.declared.reply.Answer.{Answer}
use Rattle.av_trace.specs.declared.reply.Answer.TheVariants.{Done, MapAt, Refused}
use Rattle.av_trace.specs.declared.reply.Errno.{Errno}
use Rattle.av_trace.specs.declared.reply.Errno.TheVariants.{Eexist, Einval, Enomem, Eperm, Esrch}
use Rattle.av_trace.specs.declared.reply.Reply.{Reply}
use Rattle.av_trace.specs.declared.row.Row.{Row}
use Rattle.av_plain.specs.Access.{End, Stopped, Whole, after_write, first_bytes, write_answer}
use Rattle.av_plain.specs.Advice.{advised, flag_of_advice, pages_advised, with_advice}
use Rattle.av_plain.specs.Event.{Event}
use Rattle.av_plain.specs.Fault.{Denied, Lost, Starved}
use Rattle.av_plain.specs.Lock.{BringsIn, with_lock}
use Rattle.av_plain.specs.Ledger.{Ledger, Setting}
use Rattle.av_plain.specs.Load.{with_loads}
use Rattle.av_plain.specs.Map.{with_prot_to_hole}
use Rattle.av_plain.specs.Mremap.{MovesTo, events_to, leaves_old, left_behind, process_after_mremap}
use Rattle.av_plain.specs.Place.{Goes, IsMapAt, is_room}
use Rattle.av_plain.specs.Refusal.{Refuses, Tests, fixed_tests, is_too_long, is_bad_range, locks_too_many, low, place_tests, refusal, tests, top, wraps}
use Rattle.av_plain.specs.Step.{Follows, next, next_world}
use Rattle.av_plain.specs.Transcript.{IsStep, State}
use Rattle.av_plain.specs.World.{Page, Process, World, end_process, is_mapped, lives, meets, no_pages, pages, pages_to_hole, set_process, child_of, page_of_child, wiped, with_bytes, with_change_on, with_page_flag, with_pages, with_prot, zeros}
use Rattle.av_plain.proofs.Load.{events_to-load_nothing, loads_nothing, without-loads}
use Rattle.av_plain.proofs.Mremap.Legal.{highest}
use Rattle.av_plain.proofs.Refusal.{MayRemap, may-remap, refused-next}
use Rattle.av_plain.proofs.Sound.{map_count-loads}
use Rattle.av_plain.proofs.Sound.Zap.{pages-ended}
use Rattle.av_plain.proofs.World.{pages-set}

-- ---- pages stay below the top, of processes with small numbers

abbrev pub Below : World → Type 0
Below w = (p page : ℕ) → is_some (pages w p page) ≡ true → (page < top_page) × IsWide p

wide_number : (p : ℕ) → p ≤ 32767 → IsWide p
wide_number p h = omega (arith, h)

below-set : (w : World) (p : ℕ) (new : Process) → Below w
    → ((page : ℕ) → is_some (new page) ≡ true → (page < top_page) × IsWide p)
    → Below (set_process w p new)
below-set w p new below here q page h = by (eq_by_cmp nat_cmp q p) refl
    (ap is_some (sym (pages-set w p new q page)) ∙ h)
  where
    is_number : eq_by_cmp nat_cmp q p ≡ true → q ≡ p
    is_number e = grind (arith, nat_tests, e)

    by : (b : Bool) → eq_by_cmp nat_cmp q p ≡ b
        → is_some (cond b (new page) (pages w q page)) ≡ true → (page < top_page) × IsWide q
    by true e h = subst (λ q. (page < top_page) × IsWide q) (sym (is_number e)) (here page h)
    by false e h = below q page h

below-ended : (w : World) (p : ℕ) → Below w → Below (end_process w p)
below-ended w p below q page h = by (q == p) (ap is_some (sym (pages-ended w p q page)) ∙ h)
  where
    by : (b : Bool) → is_some (cond b None (pages w q page)) ≡ true → (page < top_page) × IsWide q
    by true h = cc
    by false h = below q page h

below-stored : (w : World) (p a : ℕ) (bytes : List ℕ) → Below w → Below (after_write w p a bytes)
below-stored w p a [] below = below
below-stored w p a (b ∷ bytes) below = below-set w p (with_bytes (pages w p) a (b ∷ bytes)) below
    (λ page h. below p page (by page (pages w p page) h))
  where
    by : (page : ℕ) (o : Option Page) → is_some (option_map (λ (p : Page). record p {
      bytes = λ i.
          if within a (length (b ∷ bytes)) (address_of page + i) then Some
          (slice_index (b ∷ bytes) (address_of page + i - a))
          else p.bytes i;
    }) o) ≡ true → is_some o ≡ true
    by page None h = h
    by page (Some x) h = refl

below-changed : (w : World) (p from n : ℕ) (change : Page → Page) → Below w
    → Below (set_process w p (with_change_on (pages w p) from n change))
below-changed w p from n change below = below-set w p (with_change_on (pages w p) from n change) below
    (λ page h. below p page (by (within from n page) (pages w p page) h))
  where
    by : (b : Bool) (o : Option Page)
        → is_some (if b then option_map change o else o) ≡ true → is_some o ≡ true
    by true None h = h
    by true (Some x) h = refl
    by false o h = h

below-ranged : (w : World) (p from n : ℕ) (new : Process) → Below w → IsWide p
    → ((page : ℕ) → is_some (new page) ≡ true → from + n ≤ top_page)
    → Below (set_process w p (with_pages (pages w p) from n new))
below-ranged w p from n new below wide high = below-set w p (with_pages (pages w p) from n new) below
    (λ page h. by page (within from n page) refl h)
  where
    by : (page : ℕ) (b : Bool) → within from n page ≡ b
        → is_some (if b then new page else pages w p page) ≡ true → (page < top_page) × IsWide p
    by page true is h = let top = high page h in (grind (arith, nat_tests, is, top), wide)
    by page false is h = below p page h

-- ---- where a mapping goes

pub first-test : (b : Bool) (error : Errno) (rest : Option Errno)
    → (if b then Some error else rest) ≡ None → (b ≡ false) × (rest ≡ None)
first-test true error rest h = cc
first-test false error rest h = (refl, h)

fixed-below : (a n : ℕ) (rest : Tests) → refusal (fixed_tests n a ++ rest) ≡ None
    → page_of a + n ≤ top_page
fixed-below a n rest h =
    let one = first-test (nat_lt top (a + address_of n)) Enomem
    (refusal ((not (is_on_page a), Einval) ∷ (nat_lt a low, Eperm) ∷ rest)) h in
    within a n (nat_lt top (a + address_of n)) refl one.0
  where
    within : (a n : ℕ) (b : Bool) → nat_lt top (a + address_of n) ≡ b → b ≡ false
        → page_of a + n ≤ top_page
    within a n true is e = cc
    within a n false is e = let h : a + address_of n ≤ address_of top_page = grind
        (arith, nat_tests, is) in omega (arith, h)

goes-below : (q : Process) (n page : ℕ) (place : Place) → refusal (place_tests q n place) ≡ None
    → Goes q n place (Some page) → page + n ≤ top_page
goes-below q n page Auto tests h = h.0.highest
goes-below q n page (At a) tests h = by (is_room q n (page_of a)) refl h
  where
    last : (a b c : Bool) → (a && b && c) ≡ true → b ≡ true
    last true true c h = refl
    last true false c h = cc
    last false b c h = cc

    inner : {x y : ℕ} → Some x ≡ Some y → x ≡ y
    inner e = cc

    by : (b : Bool) → is_room q n (page_of a) ≡ b
        → MatchBool b (Some page ≡ Some (page_of a)) (IsGap (is_mapped q) n (Some page))
        → page + n ≤ top_page
    by true is e =
        let same = inner e in
        let room = last (nat_le low_page (page_of a)) (nat_le (page_of a + n) top_page)
        (not (meets q (page_of a) n)) is in
        subst (λ x. x + n ≤ top_page) (sym same) (grind (arith, nat_tests, room))
    by false is gap = gap.0.highest
goes-below q n page (Fixed a) tests h = subst (λ x. x + n ≤ top_page) (sym (inner h))
    (fixed-below a n [] tests)
  where
    inner : {x y : ℕ} → Some x ≡ Some y → x ≡ y
    inner e = cc
goes-below q n page (NoReplace a) tests h = subst (λ x. x + n ≤ top_page) (sym (inner h))
    (fixed-below a n ((meets q (page_of a) n, Eexist) ∷ []) tests)
  where
    inner : {x y : ℕ} → Some x ≡ Some y → x ≡ y
    inner e = cc

-- ---- an mremap

module _ (w : World) (p a old new : ℕ) (mode : Mode) (to : ℕ) (may : MayRemap w p a old new mode)
    (goes : MovesTo (pages w p) (page_of a) (pages_of old) (pages_of new) mode (Some to)) (below : Below w) (wide : IsWide p) where
  abbrev q : Process
  q = pages w p

  abbrev from : ℕ
  from = page_of a

  abbrev n : ℕ
  n = pages_of old

  abbrev m : ℕ
  m = pages_of new

  abbrev stays : Bool
  stays = leaves_old mode

  -- each page after it is one that a process may have
  pub remapped-below : (page : ℕ) → is_some (process_after_mremap from n to m stays q page) ≡ true → page < top_page
  remapped-below page h = by (within to m page) (within from n page) refl refl h
    where
      bounds : (b k : ℕ) → within b k page ≡ true → (b ≤ page) × (page < b + k)
      bounds b k h = (grind (arith, nat_tests, h), grind (arith, nat_tests, h))

      kept : is_some (cond (within from n page) (left_behind stays (q page)) (q page)) ≡ true → page < top_page
      kept h = (below p page (was (within from n page) stays (q page) h)).0
        where
          was : (b c : Bool) (o : Option Page) → is_some (cond b (left_behind c o) o) ≡ true → is_some o ≡ true
          was b c (Some x) h = refl
          was true true None h = h
          was true false None h = h
          was false c None h = h

      in_new : is_some (cond (nat_lt (page - to) n) (q (from + (page - to))) (option_map wiped (q (from + n - 1)))) ≡ true
          → within to m page ≡ true → page < top_page
      in_new h i = place (to == from) (nat_lt n m) refl refl
        where
          ends : (to ≤ page) × (page < to + m)
          ends = bounds to m i

          place : (b c : Bool) → (to == from) ≡ b → nat_lt n m ≡ c → page < top_page
          place false c e f = let high = highest w p a old new mode to may goes (inl e) in let b = ends in omega (arith, high, b)
          place true true e f = let high = highest w p a old new mode to may goes (inr (grind (arith, nat_tests, f))) in let b = ends in
              omega (arith, high, b)
          place true false e f =
              let same : to ≡ from = grind (arith, nat_tests, e) in
              let more : m ≤ n = grind (arith, nat_tests, f) in
              let b = ends in
              let inside : nat_lt (page - to) n ≡ true = (let less : page - to < n = omega (arith, b, more) in grind (arith, nat_tests, less)) in
              let here : from + (page - to) ≡ page = omega (arith, b, same) in
              (below p page (ap (λ x. is_some (q x)) (sym here)
              ∙ ap (λ b. is_some (cond b (q (from + (page - to))) (option_map wiped (q (from + n - 1)))))
              (sym inside) ∙ h)).0

      by : (i j : Bool) → within to m page ≡ i → within from n page ≡ j
          → is_some (cond (within to m page) (cond (nat_lt (page - to) n) (q (from + (page - to))) (option_map wiped (q (from + n - 1))))
          (cond (within from n page) (left_behind stays (q page)) (q page))) ≡ true → page < top_page
      by true j i f h = in_new (ap (λ b. is_some (cond b (cond (nat_lt (page - to) n) (q (from + (page - to))) (option_map wiped (q (from + n - 1))))
          (cond (within from n page) (left_behind stays (q page)) (q page)))) (sym i) ∙ h) i
      by false j i f h = kept (ap (λ b. is_some (cond b (cond (nat_lt (page - to) n) (q (from + (page - to))) (option_map wiped (q (from + n - 1))))
          (cond (within from n page) (left_behind stays (q page)) (q page)))) (sym i) ∙ h)

-- ---- a step

below-follows : (m : Setting) (w now : World) (l : Ledger) (command : Command) (es : List Event)
    (answer : Answer) (rows : List Row) → IsInRange command → (list_all loads_nothing es ≡ true → now ≡ w) → Below now
    → refusal (tests m w l command) ≡ None
    → Follows m w l command es answer rows → Below (next now command answer)
below-follows m w now l (Spawn p) es answer rows fit same below none h = subst
    (λ x. Below (next now (Spawn p) x)) (sym h.0)
    (below-set now p no_pages below (λ page h. absurd (never_some h)))
  where
    never_some : false ≡ true → ⊥
    never_some e = cc
below-follows m w now l (Fork p q) es answer rows fit same below none h = subst
    (λ x. Below (next now (Fork p q) x)) (sym h.0)
    (below-set now q (child_of (pages now p)) below
    (λ page h. ((below p page (was (pages now p page) h)).0, wide_number q fit.1.most)))
  where
    was : (o : Option Page) → is_some (option_and_then page_of_child o) ≡ true → is_some o ≡ true
    was None h = h
    was (Some x) h = refl
below-follows m w now l (Exit p) es answer rows fit same below none h = subst
    (λ x. Below (next now (Exit p) x)) (sym h.0) (below-ended now p below)
below-follows m w now l (Mmap p len prot place) es answer rows fit same below none h = at h.0 h.1 h.2
  where
    places : refusal (place_tests (pages w p) (pages_of len) place) ≡ None
    places =
        let rest = place_tests (pages w p) (pages_of len) place in
        let one = first-test (not (lives w p)) Esrch
        (refusal ((len == 0, Einval) ∷ (is_too_long len, Enomem) ∷ rest)) none in
        let two = first-test (len == 0) Einval (refusal ((is_too_long len, Enomem) ∷ rest)) one.1 in
        (first-test (is_too_long len) Enomem (refusal rest) two.1).1

    back : (page n : ℕ) → page + n ≤ top_page → page_of (address_of page) + n ≤ top_page
    back page n h = omega (arith, h)

    at : (to : Option ℕ) → Goes (pages w p) (pages_of len) place to → IsMapAt answer to
        → Below (next now (Mmap p len prot place) answer)
    at None goes e = subst (λ x. Below (next now (Mmap p len prot place) x)) (sym e) below
    at (Some page) goes e = subst (λ x. Below (next now (Mmap p len prot place) x)) (sym e)
        (below-ranged now p (page_of (address_of page)) (pages_of len) (λ _. Some (zeros prot))
        below (wide_number p fit.0.most) (λ q h. back page (pages_of len)
        (goes-below (pages w p) (pages_of len) page place places goes)))
below-follows m w now l (Munmap p a len) es answer rows fit same below none h = subst
    (λ x. Below (next now (Munmap p a len) x)) (sym h.0)
    (below-ranged now p (page_of a) (pages_of len) no_pages below (wide_number p fit.0.most)
    (λ page h. absurd (never_some h)))
  where
    never_some : false ≡ true → ⊥
    never_some e = cc
below-follows m w now l (Mprotect p a len prot) es answer rows fit same below none h = subst
    (λ x. Below (next now (Mprotect p a len prot) x)) (sym h.0)
    (at (pages_to_hole (pages w p) (page_of a) (pages_of len) == pages_of len))
  where
    stopped : (c : Bool) → Below
        (if c then now else with_prot_to_hole now p (page_of a) (pages_of len) prot)
    stopped true = below
    stopped false = below-changed now p (page_of a)
        (pages_to_hole (pages now p) (page_of a) (pages_of len)) (with_prot prot) below

    at : (b : Bool) → Below (next now (Mprotect p a len prot) (if b then Done else Refused Enomem))
    at true = below-changed now p (page_of a) (pages_of len) (with_prot prot) below
    at false = stopped (wraps a len)
below-follows m w now l (Mremap p a old new mode) es answer rows fit same below none h = by h.0 h.1 h.2 h.3
  where
    back : (page : ℕ) → page_of (address_of page) ≡ page
    back page = omega arith

    by : (to : Option ℕ) → MovesTo (pages w p) (page_of a) (pages_of old) (pages_of new) mode to → IsMapAt answer to
        → es ≡ events_to l p (page_of a) (pages_of old) to (pages_of new) → Below (next now (Mremap p a old new mode) answer)
    by None goes e es_is = subst (λ x. Below (next now (Mremap p a old new mode) x)) (sym e) below
    by (Some to) goes e es_is =
        let still = same (ap (list_all loads_nothing) es_is ∙ events_to-load_nothing l p (page_of a) (pages_of old) (pages_of new) (Some to)) in
        let here = subst Below still below in
        subst (λ x. Below (next now (Mremap p a old new mode) x)) (sym e)
        (subst (λ x. Below (next x (Mremap p a old new mode) (MapAt (address_of to)))) (sym still)
        (subst (λ b. Below (set_process w p (process_after_mremap (page_of a) (pages_of old) b (pages_of new)
        (leaves_old mode) (pages w p))))
        (sym (back to))
        (below-set w p (process_after_mremap (page_of a) (pages_of old) to (pages_of new) (leaves_old mode) (pages w p)) here
        (λ page some. (
          remapped-below w p a old new mode to (may-remap m w l p a old new mode none) goes here
              (wide_number p fit.0.most) page some,
          wide_number p fit.0.most,
        )))))
below-follows m w now l (Madvise p a len advice) es answer rows fit same below none h = subst
    (λ x. Below (next now (Madvise p a len advice) x)) (sym h.0)
    (by (nat_lt (pages_advised (pages w p) (page_of a) (pages_of len) (flag_of_advice advice)) (pages_of len))
    (pages_to_hole (pages w p) (page_of a) (pages_of len) == pages_of len))
  where
    told : Below (with_advice now p (page_of a) (pages_of len) (flag_of_advice advice))
    told = below-changed now p (page_of a) (pages_advised (pages now p) (page_of a) (pages_of len) (flag_of_advice advice))
        (advised (flag_of_advice advice)) below

    bad : (b : Bool) → Below (if b then now else with_advice now p (page_of a) (pages_of len) (flag_of_advice advice))
    bad true = below
    bad false = told

    by : (b c : Bool) → Below (next now (Madvise p a len advice) (if b then Refused Einval else (if c then Done else Refused Enomem)))
    by true c = bad (is_bad_range a len)
    by false true = told
    by false false = told
below-follows m w now l (Mlock p a len) es answer rows fit same below none h =
    by (pages_to_hole (pages w p) (page_of a) (pages_met a len) == pages_met a len) h.3
  where
    locked : Below (with_lock true now p (page_of a) (pages_met a len))
    locked = below-changed now p (page_of a) (pages_to_hole (pages now p) (page_of a) (pages_met a len))
        (with_page_flag Locked true) below

    ends : (end : End) → Below (next now (Mlock p a len) (write_answer (address_of (page_of a)) end))
    ends Whole = locked
    ends (Stopped page Denied) = locked
    ends (Stopped page (Starved out)) = locked
    ends (Stopped page Lost) = locked

    many : (b : Bool) → Below (if b then now else with_lock true now p (page_of a) (pages_met a len))
    many true = below
    many false = locked

    by : (b : Bool) → MatchBool b (BringsIn m w l p (page_of a) (pages_met a len) h.0 answer) ((h.0 ≡ []) × (answer ≡ Refused Enomem))
        → Below (next now (Mlock p a len) answer)
    by true q = subst (λ x. Below (next now (Mlock p a len) x)) (sym q.2) (ends q.0)
    by false q = subst (λ x. Below (next now (Mlock p a len) x)) (sym q.1) (many (locks_too_many a len))
below-follows m w now l (Munlock p a len) es answer rows fit same below none h = subst
    (λ x. Below (next now (Munlock p a len) x)) (sym h.0)
    (by (pages_to_hole (pages w p) (page_of a) (pages_met a len) == pages_met a len))
  where
    by : (b : Bool) → Below (next now (Munlock p a len) (if b then Done else Refused Enomem))
    by true = below-changed now p (page_of a) (pages_to_hole (pages now p) (page_of a) (pages_met a len)) (with_page_flag Locked false) below
    by false = below-changed now p (page_of a) (pages_to_hole (pages now p) (page_of a) (pages_met a len)) (with_page_flag Locked false) below
below-follows m w now l (Read p a n) es answer rows fit same below none h = below
below-follows m w now l (Write p a bytes) es answer rows fit same below none h = below-stored now p a
    (first_bytes answer bytes) below
below-follows m w now l (Reclaim n) es answer rows fit same below none h = below
below-follows m w now l (Age n) es answer rows fit same below none h = below
below-follows m w now l (Complete n) es answer rows fit same below none h = below
below-follows m w now l (Swapon k priority) es answer rows fit same below none h = below
below-follows m w now l (Swapoff k) es answer rows fit same below none h = below
below-follows m w now l Merge es answer rows fit same below none h = below
below-follows m w now l Compact es answer rows fit same below none h = below
below-follows m w now l (Maps p) es answer rows fit same below none h = below
below-follows m w now l (AsksAreas p) es answer rows fit same below none h = below
below-follows m w now l (AsksRmap p a) es answer rows fit same below none h = below
below-follows m w now l (AsksEntry p a) es answer rows fit same below none h = below
below-follows m w now l (AsksSlot k page) es answer rows fit same below none h = below
below-follows m w now l Stat es answer rows fit same below none h = below

pub step-below : (m : Setting) (old new : State) (command : Command) (reply : Reply)
    → IsInRange command → Below old.world → IsStep m old command reply new → Below new.world
step-below m old new command reply fit small h = subst Below (sym h.world)
    (by (refusal (tests m old.world old.ledger command)) refl h.legal.answer)
  where
    now : World
    now = with_loads m old.world old.ledger h.events

    below : Below now
    below p page is = small p page (sym (map_count-loads m old.world old.ledger h.events p page) ∙ is)

    by : (o : Option Errno) → refusal (tests m old.world old.ledger command) ≡ o
        → MatchOption o (Follows m old.world old.ledger command h.events reply.answer reply.rows)
        (λ error. Refuses error h.events reply.answer reply.rows)
        → Below (next_world m old.world old.ledger h.events command reply.answer)
    by None is x = below-follows m old.world now old.ledger command h.events reply.answer reply.rows
        fit (without-loads m old.world old.ledger h.events) below is x
    by (Some error) is x = subst (λ a. Below (next now command a)) (sym x.0)
        (subst Below (sym (refused-next m old.world now old.ledger command error is)) below)
