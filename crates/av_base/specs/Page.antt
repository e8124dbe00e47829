-- Addresses and pages.
use Rattle.std.specs.Prelude.{ℕ, ◌+◌, ◌-◌, ◌*◌, ◌/◌, ◌%◌, Bool, ◌==◌, if◌then◌else◌}

-- the bytes of one page
abbrev pub page_size : ℕ
page_size = 4096

-- the page of an address
abbrev pub page_of : ℕ → ℕ
page_of address = address / page_size

-- the place of an address in its page
abbrev pub place_in_page : ℕ → ℕ
place_in_page address = address % page_size

-- the first address of a page
abbrev pub address_of : ℕ → ℕ
address_of page = page_size * page

-- a length rounded up to whole pages
abbrev pub pages_of : ℕ → ℕ
pages_of len = (len + (page_size - 1)) / page_size

-- how many pages some bytes from an address on meet
abbrev pub pages_met : ℕ → ℕ → ℕ
pages_met address len = if len == 0 then 0 else pages_of (place_in_page address + len)

-- whether an address is the first of a page
abbrev pub is_on_page : ℕ → Bool
is_on_page address = address % page_size == 0
