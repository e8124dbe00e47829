-- What page 0 of a swap area says of it: `mkswap`'s header, version 1.
use Rattle.std.specs.Prelude.{◌≡◌, ℕ, ◌+◌, ◌-◌, ◌*◌, ◌<◌, ◌≤◌, ◌==◌, Bool, not, ◌||◌, nat_eq}
use Rattle.std.specs.Prelude.{nat_lt, if◌then◌else◌, min, List, [], drop, map, filter, length}
use Rattle.std.specs.Prelude.{codes, Option, Some, None, Result, Ok, Err}
use Rattle.std.specs.List.{list_any, range_with_len, ends_with}
use Rattle.av_base.specs.Words.{is_in}
use Rattle.av_swapdev.specs.Device.{most_pages}
use Rattle.byteorder.specs.Endian.{little_number, big_number}
use Rattle.av_swapdev.specs.declared.header.Order.{Order}
use Rattle.av_swapdev.specs.declared.header.Order.TheVariants.{Little, Big}
use Rattle.av_swapdev.specs.declared.header.Header.{Header}
use Rattle.av_swapdev.specs.declared.header.HeaderErr.{HeaderErr}
use Rattle.av_swapdev.specs.declared.header.HeaderErr.TheVariants.{Signature, Version, LastPage}
use Rattle.av_swapdev.specs.declared.header.HeaderErr.TheVariants.{Short, TooManyBad, BadPage}
use Rattle.av_swapdev.specs.declared.header.HeaderErr.TheVariants.{NoSlot}

-- what a header says of its area: how many pages it has, the header's among them; how many of them
-- are slots; which are bad
pub record Layout : Type 0 where
  pub pages : ℕ
  pub slots : ℕ
  pub bad : List ℕ

-- the 32-bit number at a byte of the page
unfoldable pub number_at : Order → List ℕ → ℕ → ℕ
number_at Little page at = little_number 4 (drop at page)
number_at Big page at = big_number 4 (drop at page)

-- the order of the header's numbers: the one in which the version is 1
abbrev pub order_of : List ℕ → Option Order
order_of page =
    if number_at Little page 1024 == 1 then Some Little
    else if number_at Big page 1024 == 1 then Some Big
    else None

-- the last page of the area, as the header has it
abbrev pub last_page : Order → List ℕ → ℕ
last_page order page = number_at order page 1028

-- a header has room for so many bad pages
abbrev pub most_bad : ℕ
most_bad = 637

-- the place of the first of them
abbrev pub first_bad : ℕ
first_bad = 1536

-- how many bad pages the header names
abbrev pub bad_count : Order → List ℕ → ℕ
bad_count order page = number_at order page 1032

-- n of them, one behind the other
abbrev pub numbers_at : Order → List ℕ → ℕ → ℕ → List ℕ
numbers_at order page from n =
    map (λ i. number_at order page (first_bad + 4 * i)) (range_with_len from n)

-- all of them
abbrev pub all_named : Order → List ℕ → List ℕ
all_named order page = numbers_at order page 0 (bad_count order page)

-- the area's pages: those up to the last page, 1,048,576 at most
abbrev pub area_pages : Order → List ℕ → ℕ
area_pages order page = min (last_page order page + 1) most_pages

-- the pages of an area behind its header
abbrev pub behind_header : ℕ → List ℕ
behind_header pages = range_with_len 1 (pages - 1)

-- those that are named as bad, rising
abbrev pub bad_of : ℕ → List ℕ → List ℕ
bad_of pages bad_list = filter (λ m. is_in m bad_list) (behind_header pages)

-- its slots: the others
abbrev pub slots_of : ℕ → List ℕ → List ℕ
slots_of pages bad_list = filter (λ m. not (is_in m bad_list)) (behind_header pages)

-- an area of so many pages, where these are named as bad
abbrev pub layout_of : ℕ → List ℕ → Layout
layout_of pages bad_list =
    record { pages = pages; slots = length (slots_of pages bad_list); bad = bad_of pages bad_list }

-- whether a page can't be named as bad in an area with this last page
abbrev pub is_out : ℕ → ℕ → Bool
is_out last b = b == 0 || nat_lt last b

-- an area, unless it has no slot
abbrev pub with_slots : Layout → Result Layout HeaderErr
with_slots layout = if layout.slots == 0 then Err NoSlot else Ok layout

-- what the numbers of a header in this order say, on a device with so many pages
abbrev pub read_in : Order → List ℕ → ℕ → Result Layout HeaderErr
read_in order page device =
    if last_page order page == 0 then Err LastPage
    else if nat_lt device (area_pages order page) then Err Short
    else if nat_lt most_bad (bad_count order page) then Err TooManyBad
    else if list_any (is_out (last_page order page)) (all_named order page) then Err BadPage
    else with_slots (layout_of (area_pages order page) (all_named order page))

abbrev pub read_by : Option Order → List ℕ → ℕ → Result Layout HeaderErr
read_by None page device = Err Version
read_by (Some order) page device = read_in order page device

-- what page 0 of an area says, on a device with so many pages: the area, or the first fault
abbrev pub header_of : List ℕ → ℕ → Result Layout HeaderErr
header_of page device =
    if ends_with nat_eq page (codes "SWAPSPACE2") then read_by (order_of page) page device
    else Err Signature

-- a layout in three numbers
abbrev pub in_numbers : Layout → Header
in_numbers layout = record { pages = layout.pages; slots = layout.slots; bad = length layout.bad }

abbrev pub answer_of : Result Layout HeaderErr → Result Header HeaderErr
answer_of (Ok layout) = Ok (in_numbers layout)
answer_of (Err fault) = Err fault

-- the header is what the page says on some device
abbrev pub IsHeaderOf : List ℕ → Header → Type 0
IsHeaderOf page header = (device : ℕ) × (answer_of (header_of page device) ≡ Ok header)

-- the header's page, the slots and the bad pages are all pages of the area; the device has them
pub record AddsUp (header : Header) (device : ℕ) : Type 0 where
  pub all : 1 + header.slots + header.bad ≡ header.pages
  pub some : 0 < header.slots
  pub fits : header.pages ≤ device
  pub most : header.pages ≤ most_pages
