-- What processes see: plain private memories, copied at fork as each page's flags say. Nothing here
-- knows a frame or a slot.
use Rattle.std.specs.FinMap.Entries.{put, where_key, find}
use Rattle.std.specs.Ordering.{nat_cmp}
use Rattle.std.specs.Prelude.{ℕ, ◌+◌, ◌-◌, Bool, true, false, not, ◌==◌, if◌then◌else◌, List, []}
use Rattle.std.specs.Prelude.{◌∷◌, Option, Some, None, ◌≡◌, IfSome, is_some, ◌||◌, length}
use Rattle.std.specs.Prelude.{option_map, zero, suc, slice_index, option_and_then, ◌<◌}
use Rattle.av_base.specs.Flags.{no_flags, unlocked, with_flag}
use Rattle.av_base.specs.Page.{page_of, page_size, place_in_page, address_of}
use Rattle.av_base.specs.Words.{within}
use Rattle.av_base.specs.declared.flags.Flag.{Flag}
use Rattle.av_base.specs.declared.flags.Flags.{Flags}
use Rattle.av_base.specs.declared.prot.Prot.{Prot}

-- ---- worlds

-- a page: its protection, its flags, and its bytes by their place in it. None is a byte that nobody
-- claims: it may be read as anything
pub record Page : Type 0 where
  pub prot : Prot
  pub flags : Flags
  pub bytes : ℕ → Option ℕ

-- a process is what it has mapped, by page
abbrev pub Process : Type 0
Process = ℕ → Option Page

-- the processes that live, rising by number
abbrev pub World : Type 0
World = List (ℕ × Process)

-- a process without any page
abbrev pub no_pages : Process
no_pages page = None

-- a new page: no flag, and zeros
abbrev pub zeros : Prot → Page
zeros prot = record { prot = prot; flags = no_flags; bytes = λ _. Some 0 }

-- the page with zeros in place of its bytes
abbrev pub wiped : Page → Page
wiped p = record p { bytes = λ _. Some 0 }

-- the page, not locked
abbrev pub without_lock : Page → Page
without_lock p = record p { flags = unlocked p.flags }

-- the process with this number, if it lives
abbrev pub process : World → ℕ → Option Process
process w p = find nat_cmp p w

-- whether it lives
abbrev pub lives : World → ℕ → Bool
lives w p = is_some (process w p)

-- the pages of a process, none where it does not live
abbrev pub pages : World → ℕ → Process
pages w p page = option_and_then (λ q. q page) (process w p)

-- whether the process has the page mapped
abbrev pub is_mapped : Process → ℕ → Bool
is_mapped q page = is_some (q page)

-- whether one of the n pages from `from` on is mapped
abbrev pub meets : Process → ℕ → ℕ → Bool
meets q from zero = false
meets q from (suc n) = is_mapped q from || meets q (from + 1) n

-- how many pages from `from` on are mapped before the first that isn't, n at the most
abbrev pub pages_to_hole : Process → ℕ → ℕ → ℕ
pages_to_hole q from zero = 0
pages_to_hole q from (suc n) = if is_mapped q from then pages_to_hole q (from + 1) n + 1 else 0

-- whether a page is there, and locked
abbrev pub is_locked_page : Option Page → Bool
is_locked_page None = false
is_locked_page (Some p) = p.flags.locked

-- how many pages from `from` on come before the first that is locked, n at the most
abbrev pub pages_to_locked : Process → ℕ → ℕ → ℕ
pages_to_locked q from zero = 0
pages_to_locked q from (suc n) =
    if is_locked_page (q from) then 0 else pages_to_locked q (from + 1) n + 1

-- which accesses a protection allows: a write where it says so, a read unless it says nothing at
-- all
abbrev pub allows : Bool → Prot → Bool
allows true prot = prot.write
allows false prot = prot.read || prot.write || prot.execute

-- ---- changes

-- the process has these pages now, and lives
abbrev pub set_process : World → ℕ → Process → World
set_process w p q = put nat_cmp p q w

-- a page with another protection
abbrev pub with_prot : Prot → Page → Page
with_prot prot p = record p { prot = prot }

-- q with this protection on those of the n pages from `from` on that it has mapped
abbrev pub with_prot_on : Process → ℕ → ℕ → Prot → Process
with_prot_on q from n prot page =
    if within from n page then option_map (with_prot prot) (q page) else q page

-- a page with a flag set, or cleared
abbrev pub with_page_flag : Flag → Bool → Page → Page
with_page_flag flag set p = record p { flags = with_flag flag set p.flags }

-- q with this change of those of the n pages from `from` on that it has mapped
abbrev pub with_change_on : Process → ℕ → ℕ → (Page → Page) → Process
with_change_on q from n change page =
    if within from n page then option_map change (q page) else q page

-- of the n pages of p from `from` on those that are mapped are changed so; no other page is, and
-- the same processes live
pub record ChangesOnly (w : World) (p from n : ℕ) (change : Page → Page) (now : World)
    : Type 0 where
  pub here : (page : ℕ) → within from n page ≡ true
      → pages now p page ≡ option_map change (pages w p page)
  pub others : (q page : ℕ) → (q ≡ p → within from n page ≡ false)
      → pages now q page ≡ pages w q page
  pub living : (q : ℕ) → lives now q ≡ lives w q

-- the process is gone
abbrev pub end_process : World → ℕ → World
end_process w p = where_key nat_cmp (λ q. not (q == p)) w

-- the page that a child gets of one: none where it is left out, zeros where it is wiped; it isn't
-- locked
abbrev pub page_of_child : Page → Option Page
page_of_child p =
    if p.flags.dont_fork then None
    else Some (without_lock (if p.flags.wipe_on_fork then wiped p else p))

-- a child's pages
abbrev pub child_of : Process → Process
child_of q page = option_and_then page_of_child (q page)

-- q with the n pages from `from` on taken from `new`
abbrev pub with_pages : Process → ℕ → ℕ → Process → Process
with_pages q from n new page = if within from n page then new page else q page

-- q with these bytes from an address on; a page that is not mapped stays so
abbrev pub with_bytes : Process → ℕ → List ℕ → Process
with_bytes q address bytes page = option_map (λ (p : Page). record p {
  bytes = λ i. let here = address_of page + i in
      if within address (length bytes) here then Some (slice_index bytes (here - address))
      else p.bytes i;
}) (q page)

-- ---- what a read shows

-- the byte at an address, where it is mapped and claimed
abbrev pub byte_at : Process → ℕ → Option ℕ
byte_at q address =
    option_and_then (λ (p : Page). p.bytes (place_in_page address)) (q (page_of address))

-- these are the bytes from an address on, where they are claimed
abbrev pub Shows : Process → ℕ → List ℕ → Type 0
Shows q address [] = Unit {0}
Shows q address (b ∷ bytes) =
    IfSome (byte_at q address) (λ claimed. claimed ≡ b) × Shows q (address + 1) bytes

-- these bytes hold what the page claims
abbrev pub Holds : Option Page → (ℕ → ℕ) → Type 0
Holds None at = Unit {0}
Holds (Some p) at = (i : ℕ) → i < page_size → IfSome (p.bytes i) (λ b. at i ≡ b)
