-- What does not change in a run over one device.
use Rattle.std.proofs.Common.{◌≡◌, ℕ, ◌-◌, ◌≤◌, min, nat_lt, Bool, true, false, cond, not, ◌&&◌, ◌==◌, length, List, Option, Some, None, refl, sym, ap, ◌∙◌, arith}
use Rattle.std.proofs.lemmas.Bool.Decides.{nat_tests}
use Rattle.std.specs.Prelude.{IfSome, Err, Ok, codes, nat_eq, option_map, option_and_then, unwrap_or}
use Rattle.std.specs.List.{ends_with, list_any}
use Rattle.av_base.specs.Words.{is_in, within}
use Rattle.av_swapdev.specs.Device.{most_pages}
use Rattle.av_swapdev.specs.Header.{Layout, all_named, area_pages, bad_count, bad_of, header_of, is_out, last_page, layout_of, most_bad, order_of, read_by, read_in, slots_of, with_slots}
use Rattle.av_swapdev.specs.declared.header.Order.{Order}
use Rattle.av_swapdev.specs.declared.header.HeaderErr.TheVariants.{BadPage, LastPage, NoSlot, Short, Signature, TooManyBad}
use Rattle.av_swapdev.proofs.HeaderNamed.{filter_same}
use Rattle.av_swapdev.proofs.HeaderSlots.{in_bad}
use Rattle.av_plain.specs.Device.{AreLayouts, Device, IsLayout, IsSameDevice, setting_of, without_fault}
use Rattle.av_plain.specs.Ledger.{size_of}

-- what page 0 of each area says, by the areas' sizes
abbrev headers_by : (ℕ → Option ℕ) → Option (ℕ → List ℕ) → Option (ℕ → Option Layout)
headers_by sizes first = option_map (λ first k. option_and_then (λ n. without_fault (header_of (first k) n)) (sizes k)) first

pub setting_same : (n : ℕ) (a b : Device) → IsSameDevice a b → setting_of n b ≡ setting_of n a
setting_same n a b h = λ i. record { frames = n; sizes = h.sizes i; headers = headers_by (h.sizes i) (h.first i) }

-- ---- headers that are told are layouts

-- the slots of an area don't depend on what is named past it
slots-by_bad : (pages : ℕ) (ns : List ℕ) → slots_of pages (bad_of pages ns) ≡ slots_of pages ns
slots-by_bad pages ns = filter_same (λ m. not (is_in m (bad_of pages ns))) (λ m. not (is_in m ns)) 1 (pages - 1)
    (λ m low high. ap not (in_bad pages ns m ∙ inside (within 1 (pages - 1) m) (is_in m ns) (grind (arith, nat_tests, low, high))))
  where
    inside : (a b : Bool) → a ≡ true → (a && b) ≡ b
    inside true b h = refl
    inside false b h = cc

layout-is : (size pages : ℕ) (ns : List ℕ) → pages ≤ min size most_pages → IfSome (without_fault (with_slots (layout_of pages ns))) (IsLayout size)
layout-is size pages ns fits = by ((layout_of pages ns).slots == 0)
  where
    by : (b : Bool) → IfSome (without_fault (cond b (Err NoSlot) (Ok (layout_of pages ns)))) (IsLayout size)
    by true = tt
    by false = record { fits = fits; slots = ap length (sym (slots-by_bad pages ns)) }

read-layout : (order : Order) (page : List ℕ) (size : ℕ) → IfSome (without_fault (read_in order page size)) (IsLayout size)
read-layout order page size = by (last_page order page == 0) (nat_lt size (area_pages order page)) refl (nat_lt most_bad (bad_count order page))
    (list_any (is_out (last_page order page)) (all_named order page))
  where
    most : area_pages order page ≤ most_pages
    most = omega arith

    by : (a b : Bool) → nat_lt size (area_pages order page) ≡ b → (c d : Bool) → IfSome (without_fault (cond a (Err LastPage) (cond b (Err Short)
        (cond c (Err TooManyBad) (cond d (Err BadPage) (with_slots (layout_of (area_pages order page) (all_named order page)))))))) (IsLayout size)
    by true b e c d = tt
    by false true e c d = tt
    by false false e true d = tt
    by false false e false true = tt
    by false false e false false = layout-is size (area_pages order page) (all_named order page)
        (let short : area_pages order page ≤ size = grind (arith, nat_tests, e) in let m = most in omega (arith, short, m))

header-layout : (page : List ℕ) (size : ℕ) → IfSome (without_fault (header_of page size)) (IsLayout size)
header-layout page size = by (ends_with nat_eq page (codes "SWAPSPACE2"))
  where
    ordered : (o : Option Order) → IfSome (without_fault (read_by o page size)) (IsLayout size)
    ordered None = tt
    ordered (Some order) = read-layout order page size

    by : (b : Bool) → IfSome (without_fault (cond b (read_by (order_of page) page size) (Err Signature))) (IsLayout size)
    by true = ordered (order_of page)
    by false = tt

pub setting-layouts : (n : ℕ) (d : Device) → AreLayouts (setting_of n d)
setting-layouts n d k = told d.pages
  where
    sized : (page : List ℕ) (o : Option ℕ) → IfSome (option_and_then (λ n. without_fault (header_of page n)) o) (IsLayout (unwrap_or o 0))
    sized page None = tt
    sized page (Some size) = header-layout page size

    told : (o : Option (ℕ → ℕ → List ℕ)) → IfSome {T = ℕ → Option Layout} (option_map
        (λ (first : ℕ → List ℕ) (k : ℕ). option_and_then (λ n. without_fault (header_of (first k) n)) (d.sizes k))
        (option_map (λ (told : ℕ → ℕ → List ℕ) (k : ℕ). told k 0) o))
        (λ (headers : ℕ → Option Layout). IfSome (headers k) (IsLayout (size_of (setting_of n d) k)))
    told None = tt
    told (Some pages) = sized (pages k 0) (d.sizes k)
