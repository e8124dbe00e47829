-- The swap areas of a machine, by what page 0 of each says.
use Rattle.std.proofs.Common.{◌≡◌, ℕ, zero, suc, ◌+◌, ◌<◌, ◌≤◌, ◌^◌, nat_lt, Bool, true, false, cond, ◌==◌, List, [], ◌∷◌, ◌++◌, length, get_or, Option}
use Rattle.std.proofs.Common.{Some, None, refl, sym, ap, subst, ◌∙◌, arith}
use Rattle.std.proofs.lemmas.Bool.Decides.{nat_tests}
use Rattle.std.specs.Prelude.{IfSome, Result, Err, Ok, codes, nat_eq, option_map, option_and_then, slice_get, unwrap_or}
use Rattle.std.specs.List.{AllByRecursion, ends_with, list_any}
use Rattle.av_swapdev.specs.Header.{AddsUp, Layout as PlainLayout, all_named, answer_of, area_pages, bad_count, header_of, in_numbers, is_out, last_page}
use Rattle.av_swapdev.specs.Header.{layout_of as layout_by, most_bad, order_of, read_by, read_in, with_slots}
use Rattle.av_swapdev.specs.declared.header.Order.{Order}
use Rattle.av_swapdev.specs.declared.header.Header.{Header}
use Rattle.av_swapdev.specs.declared.header.HeaderErr.{HeaderErr}
use Rattle.av_swapdev.specs.declared.header.HeaderErr.TheVariants.{BadPage, LastPage, Short, Signature, TooManyBad}
use Rattle.av_plain.specs.Device.{Device, setting_of, without_fault}
use Rattle.av_audit_book.specs.Machine.{AreNamed, layout_of, setting_of as setting_of_machine}
use Rattle.av_audit_book.specs.declared.machine.Head.{Head}
use Rattle.av_audit_book.specs.declared.machine.Layout.{Layout}
use Rattle.av_audit_book.specs.declared.machine.Machine.{Machine}
use Rattle.av_audit_machine.specs.Heads.{AreCounted, IsCounted, IsHead, IsLayoutIn, IsMachineOf}

-- ---- an area without pages has no header

-- behind the size
abbrev rest-of : Order → List ℕ → Result PlainLayout HeaderErr
rest-of order page = cond (nat_lt most_bad (bad_count order page)) (Err TooManyBad)
    (cond (list_any (is_out (last_page order page)) (all_named order page)) (Err BadPage)
    (with_slots (layout_by (area_pages order page) (all_named order page))))

nothing-in : (order : Order) (page : List ℕ) → without_fault (read_in order page 0) ≡ None
nothing-in order page = by (last_page order page == 0) refl (nat_lt 0 (area_pages order page)) refl
  where
    by : (a : Bool) → (last_page order page == 0) ≡ a → (b : Bool) → nat_lt 0 (area_pages order page) ≡ b
        → without_fault (cond a (Err LastPage) (cond b (Err Short) (rest-of order page))) ≡ None
    by true e b f = refl
    by false e true f = refl
    by false e false f = absurd (
        let few : area_pages order page ≤ 0 = grind (arith, nat_tests, f) in
        let last : 0 < last_page order page = grind (arith, nat_tests, e) in
        omega (arith, few, last)
        )

pub nothing : (page : List ℕ) → without_fault (header_of page 0) ≡ None
nothing page = by (ends_with nat_eq page (codes "SWAPSPACE2"))
  where
    ordered : (o : Option Order) → without_fault (read_by o page 0) ≡ None
    ordered None = refl
    ordered (Some order) = nothing-in order page

    by : (b : Bool) → without_fault (cond b (read_by (order_of page) page 0) (Err Signature)) ≡ None
    by true = ordered (order_of page)
    by false = refl

-- ---- the areas, one behind the other

abbrev pub AreHeads : Option (ℕ → ℕ → List ℕ) → ℕ → List ℕ → List Head → Type 0
AreHeads pages area [] [] = Unit {0}
AreHeads pages area [] (head ∷ heads) = ⊥
AreHeads pages area (size ∷ sizes) [] = ⊥
AreHeads pages area (size ∷ sizes) (head ∷ heads) = IsHead pages area size head × AreHeads pages (suc area) sizes heads

pub heads-more : (pages : Option (ℕ → ℕ → List ℕ)) (area : ℕ) (sizes : List ℕ) (size : ℕ) (heads : List Head) (head : Head)
    → AreHeads pages area sizes heads → IsHead pages (area + length sizes) size head → AreHeads pages area (sizes ++ size ∷ []) (heads ++ head ∷ [])
heads-more pages area [] size [] head h is =
    let here : area + 0 ≡ area = omega arith in (subst (λ a. IsHead pages a size head) here is, tt)
heads-more pages area [] size (x ∷ heads) head h is = absurd h
heads-more pages area (s ∷ sizes) size [] head h is = absurd h
heads-more pages area (s ∷ sizes) size (x ∷ heads) head h is =
    let next : area + suc (length sizes) ≡ suc area + length sizes = omega arith in
    (h.0, heads-more pages (suc area) sizes size heads head h.1 (subst (λ a. IsHead pages a size head) next is))

pub heads-many : (pages : Option (ℕ → ℕ → List ℕ)) (area : ℕ) (sizes : List ℕ) (heads : List Head) → AreHeads pages area sizes heads
    → length heads ≡ length sizes
heads-many pages area [] [] h = refl
heads-many pages area [] (x ∷ heads) h = absurd h
heads-many pages area (s ∷ sizes) [] h = absurd h
heads-many pages area (s ∷ sizes) (x ∷ heads) h = ap suc (heads-many pages (suc area) sizes heads h.1)

sizes-are : (pages : Option (ℕ → ℕ → List ℕ)) (area : ℕ) (sizes : List ℕ) (heads : List Head) → AreHeads pages area sizes heads
    → (k : ℕ) → option_map (λ (h : Head). h.pages) (slice_get heads k) ≡ slice_get sizes k
sizes-are pages area [] [] h k = refl
sizes-are pages area [] (x ∷ heads) h k = absurd h
sizes-are pages area (s ∷ sizes) [] h k = absurd h
sizes-are pages area (s ∷ sizes) (x ∷ heads) h zero = ap Some h.0.2
sizes-are pages area (s ∷ sizes) (x ∷ heads) h (suc k) = sizes-are pages (suc area) sizes heads h.1 k

-- ---- what they say

-- what a page says that is the one that was read, if the area has one
layout-by : (size : ℕ) (told page : List ℕ) (layout : Option Layout) → (0 < size → told ≡ page) → IsLayoutIn page size layout
    → IsLayoutIn told size layout
layout-by zero told page layout same is = is ∙ nothing page ∙ sym (nothing told)
layout-by (suc size) told page layout same is = subst (λ p. IsLayoutIn p (suc size) layout) (sym (same (omega arith))) is

-- the pages that were read
abbrev pages-read : (pages : Option (ℕ → ℕ → List ℕ)) (area : ℕ) (sizes : List ℕ) (heads : List Head) → AreHeads pages area sizes heads → List (List ℕ)
pages-read pages area [] [] h = []
pages-read pages area [] (x ∷ heads) h = []
pages-read pages area (s ∷ sizes) [] h = []
pages-read pages area (s ∷ sizes) (x ∷ heads) h = h.0.0 ∷ pages-read pages (suc area) sizes heads h.1

abbrev header_by : Option ℕ → List ℕ → Option PlainLayout
header_by size page = option_and_then (λ n. without_fault (header_of page n)) size

abbrev header_at : Option Head → Option PlainLayout
header_at head = option_and_then (λ (h : Head). option_map layout_of h.layout) head

headers-read : (pages : Option (ℕ → ℕ → List ℕ)) (area : ℕ) (sizes : List ℕ) (heads : List Head) (h : AreHeads pages area sizes heads)
    → (k : ℕ) → header_at (slice_get heads k) ≡ header_by (slice_get sizes k) (get_or (pages-read pages area sizes heads h) k [])
headers-read pages area [] [] h k = refl
headers-read pages area [] (x ∷ heads) h k = absurd h
headers-read pages area (s ∷ sizes) [] h k = absurd h
headers-read pages area (s ∷ sizes) (x ∷ heads) h zero = h.0.3
headers-read pages area (s ∷ sizes) (x ∷ heads) h (suc k) = headers-read pages (suc area) sizes heads h.1 k

headers-told : (told : ℕ → ℕ → List ℕ) (area : ℕ) (sizes : List ℕ) (heads : List Head) → AreHeads (Some told) area sizes heads
    → (k : ℕ) → header_at (slice_get heads k) ≡ header_by (slice_get sizes k) (told (area + k) 0)
headers-told told area [] [] h k = refl
headers-told told area [] (x ∷ heads) h k = absurd h
headers-told told area (s ∷ sizes) [] h k = absurd h
headers-told told area (s ∷ sizes) (x ∷ heads) h zero =
    let here : area + 0 ≡ area = omega arith in
    layout-by s (told area 0) h.0.0 x.layout h.0.1 h.0.3 ∙ ap (λ a. without_fault (header_of (told a 0) s)) (sym here)
headers-told told area (s ∷ sizes) (x ∷ heads) h (suc k) =
    let next : suc area + k ≡ area + suc k = omega arith in
    headers-told told (suc area) sizes heads h.1 k ∙ ap (λ a. header_by (slice_get sizes k) (told a 0)) next

-- ---- the machine

setting-is : (frames : ℕ) (d : Device) (sizes : List ℕ) (machine : Machine) (told : ℕ → ℕ → List ℕ) → machine.frames ≡ frames
    → d.sizes ≡ slice_get sizes
    → ((k : ℕ) → option_map (λ (h : Head). h.pages) (slice_get machine.heads.items k) ≡ slice_get sizes k)
    → ((k : ℕ) → header_at (slice_get machine.heads.items k) ≡ header_by (slice_get sizes k) (told k 0))
    → setting_of_machine machine ≡ setting_of frames (record d { pages = Some told })
setting-is frames d sizes machine told count attached sized headed =
    (λ i. record { frames = count i; sizes = λ k. sized k i; headers = Some (λ k. headed k i) })
    ∙ (λ i. record {
      frames = frames;
      sizes = sym attached i;
      headers = Some (λ k. header_by (sym attached i k) (told k 0));
    })

pub machine-is : (frames : ℕ) (d : Device) (sizes : List ℕ) (machine : Machine) → machine.frames ≡ frames → d.sizes ≡ slice_get sizes
    → AreHeads d.pages 0 sizes machine.heads.items → IsMachineOf frames d machine
machine-is frames d sizes machine count attached heads = by d.pages refl heads
  where
    by : (pages : Option (ℕ → ℕ → List ℕ)) → d.pages ≡ pages → AreHeads pages 0 sizes machine.heads.items → IsMachineOf frames d machine
    by None is h =
        let read = pages-read None 0 sizes machine.heads.items h in
        let told : ℕ → ℕ → List ℕ = λ k page. get_or read k [] in (
          told,
          subst (λ o. IfSome o (λ pages. pages ≡ told)) (sym is) tt,
          setting-is frames d sizes machine told count attached (sizes-are None 0 sizes machine.heads.items h)
              (headers-read None 0 sizes machine.heads.items h),
        )
    by (Some told) is h = (
      told,
      subst (λ o. IfSome o (λ pages. pages ≡ told)) (sym is) refl,
      setting-is frames d sizes machine told count attached (sizes-are (Some told) 0 sizes machine.heads.items h)
          (λ k. let here : 0 + k ≡ k = omega arith in
          headers-told told 0 sizes machine.heads.items h k ∙ ap (λ a. header_by (slice_get sizes k) (told a 0)) here),
    )

size-named : (sizes : List ℕ) (most : ℕ) → AllByRecursion (λ n. n ≤ most) sizes → (k : ℕ) → 0 < unwrap_or (slice_get sizes k) 0
    → (k < length sizes) × (unwrap_or (slice_get sizes k) 0 ≤ most)
size-named [] most small k some = absurd (let never : 0 < 0 = some in omega (arith, never))
size-named (s ∷ sizes) most small zero some = (omega arith, small.0)
size-named (s ∷ sizes) most small (suc k) some = let h = size-named sizes most small.1 k some in (omega (arith, h.0), h.1)

pub machine-named : (pages : Option (ℕ → ℕ → List ℕ)) (sizes : List ℕ) (machine : Machine) (most : ℕ) → most ≤ 2 ^ 32
    → length sizes ≤ 2 ^ 8 → AllByRecursion (λ n. n ≤ most) sizes → AreHeads pages 0 sizes machine.heads.items
    → AreNamed (setting_of_machine machine)
machine-named pages sizes machine most fits few small h k some =
    let is = ap (λ o. unwrap_or o 0) (sizes-are pages 0 sizes machine.heads.items h k) in
    let named = size-named sizes most small k (subst (λ n. 0 < n) is some) in
    (omega (arith, named.0, few), subst (λ n. n ≤ 2 ^ 32) (sym is) (omega (arith, named.1, fits)))

-- a page with a fault
pub fault-nothing : (read : Result PlainLayout HeaderErr) (fault : HeaderErr) → Err fault ≡ answer_of read → None ≡ without_fault read
fault-nothing (Ok layout) fault e = cc
fault-nothing (Err x) fault e = refl

-- a page without one names few bad pages
numbers-of : (read : Result PlainLayout HeaderErr) (header : Header) → Ok header ≡ answer_of read
    → (layout : PlainLayout) × (read ≡ Ok layout) × (header ≡ in_numbers layout)
numbers-of (Ok layout) header e = (layout, refl, cc)
numbers-of (Err x) header e = cc

pub few-bad : (page : List ℕ) (size : ℕ) (header : Header) (bad : List ℕ) → Ok header ≡ answer_of (header_of page size) → AddsUp header size
    → ((device : ℕ) (layout : PlainLayout) → header_of page device ≡ Ok layout → bad ≡ layout.bad) → length bad < 2 ^ 32
few-bad page size header bad exact adds same =
    let n = numbers-of (header_of page size) header exact in
    let many : header.bad ≡ length n.0.bad = ap (λ (h : Header). h.bad) n.2 in
    omega (arith, ap length (same size n.0 n.1), many, adds.all, adds.most)

counted-at : (pages : Option (ℕ → ℕ → List ℕ)) (area : ℕ) (sizes : List ℕ) (heads : List Head) → AreHeads pages area sizes heads
    → (k : ℕ) → IsCounted (option_and_then (λ (h : Head). h.layout) (slice_get heads k))
counted-at pages area [] [] h k = tt
counted-at pages area [] (x ∷ heads) h k = absurd h
counted-at pages area (s ∷ sizes) [] h k = absurd h
counted-at pages area (s ∷ sizes) (x ∷ heads) h zero = h.0.4
counted-at pages area (s ∷ sizes) (x ∷ heads) h (suc k) = counted-at pages (suc area) sizes heads h.1 k

pub machine-counted : (pages : Option (ℕ → ℕ → List ℕ)) (sizes : List ℕ) (machine : Machine) → AreHeads pages 0 sizes machine.heads.items
    → AreCounted machine
machine-counted pages sizes machine h = counted-at pages 0 sizes machine.heads.items h
