-- Ledgers and memories that are not sound. Each is a sound one, whose page is in frame 0 and cached
-- at slot 1 with a write in flight, but for one thing: one clause of soundness alone refuses it.
use Rattle.std.specs.Prelude.{ℕ, false, List, [], ◌∷◌, Some}
use Rattle.av_base.specs.Keys.{Key}
use Rattle.av_base.specs.declared.slot.Slot.{Slot}
use Rattle.av_plain.specs.World.{World}
use Rattle.av_plain.specs.Ledger.{Ledger, Setting, Cached, Entry, first_ledger}
use Rattle.av_plain.specs.Sound.{AllSound}
use Rattle.av_laws.specs.Examples.{cached_at, one_area, two_bytes, with_swap}

-- these memories and this ledger are not sound on this machine
abbrev pub Unsound : Setting → World → Ledger → Type 0
Unsound m w l = AllSound m w l → ⊥

-- four frames, and an area of seven slots
abbrev pub four : Setting
four = with_swap 4 8 7

-- and any number of areas
abbrev pub many_areas : Setting
many_areas = record four { sizes = λ k. Some 8 }

-- process 1 has the two topmost pages
abbrev pub one_process : World
one_process = (1, two_bytes 5 7) ∷ []

-- these entries, cached slots, writes in flight and inactive frames
abbrev pub ledger_of : List (Key × Entry) → List Cached → List Slot → List ℕ → Ledger
ledger_of entries cache flight inactive = record first_ledger {
  entries = entries;
  cache = cache;
  flight = flight;
  inactive = inactive;
  on = one_area 7 0;
}

-- a ledger with these is not sound
abbrev pub UnsoundOf : List (Key × Entry) → List Cached → List Slot → List ℕ → Type 0
UnsoundOf entries cache flight inactive =
    Unsound four one_process (ledger_of entries cache flight inactive)

-- nor is one with these entries alone
abbrev pub UnsoundAt : List (Key × Entry) → Type 0
UnsoundAt entries = UnsoundOf entries [] [] []

-- the upper page of process 1 has this entry; both have
abbrev pub upper : Entry → List (Key × Entry)
upper e = ((1, 0x7fffffffe), e) ∷ []

abbrev pub both : Entry → Entry → List (Key × Entry)
both low high = ((1, 0x7fffffffd), low) ∷ upper high

-- slot 1 is cached at frame 0
abbrev pub at_first_slot : List Cached
at_first_slot = cached_at 1 0 false ∷ []
