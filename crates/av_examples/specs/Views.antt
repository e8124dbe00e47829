-- Worked examples for views of a kernel, beside those of `av_laws`.
use Rattle.std.specs.Prelude.{true, false, [], ◌∷◌, ◌==◌, ◌&&◌, if◌then◌else◌, Some, None}
use Rattle.std.specs.Prelude.{option_map}
use Rattle.av_plain.specs.Areas.{AnonVma}
use Rattle.av_plain.specs.Event.{without_seen}
use Rattle.av_plain.specs.Ledger.{InFrame, InSlot, Ledger, Zero, entry, first_ledger}
use Rattle.av_plain.specs.Stands.{View}
use Rattle.av_laws.specs.Examples.{cached_at, slot}
use Rattle.av_laws.specs.Views.{right}

-- two frames are active and two inactive, in a ledger and in a view
abbrev pub two_of_each : Ledger
two_of_each = record first_ledger { active = 0 ∷ 1 ∷ []; inactive = 2 ∷ 3 ∷ [] }

abbrev pub two_shown : View
two_shown = record right { active = 0 ∷ 1 ∷ []; inactive = 2 ∷ 3 ∷ [] }

-- the view with these slots in flight, and a ledger with them in the other order
abbrev pub flying : View
flying = record right { flight = slot 2 ∷ slot 1 ∷ [] }

abbrev pub flying_otherwise : Ledger
flying_otherwise = record first_ledger { flight = slot 1 ∷ slot 2 ∷ [] }

-- so with active frames
abbrev pub both_active : View
both_active = record right { active = 1 ∷ 0 ∷ []; inactive = [] }

abbrev pub active_otherwise : Ledger
active_otherwise = record first_ledger { active = 0 ∷ 1 ∷ [] }

-- tables that have the page of zeros at page 0x10 of process 1, and nothing else
abbrev pub one_zero_page : View
one_zero_page = record right {
  table = λ p page.
      if p == 1 && page == 0x10 then Some (record { entry = Zero; write = false }) else None;
}

-- a page's frame is seen; and tables that have the entries, each unseen
abbrev pub one_seen : Ledger
one_seen = record first_ledger { entries = ((1, 0x10), InFrame 0 true) ∷ [] }

abbrev pub all_unseen : View
all_unseen = record right {
  table = λ p page.
      option_map (λ e. record { entry = without_seen e; write = false }) (entry one_seen (p, page));
}

-- frame 0 is cached at slot 1, which the entry of another page names, and can be written at once
abbrev pub named_at_slot : Ledger
named_at_slot = record first_ledger {
  entries = ((1, 0x10), InFrame 0 true) ∷ ((2, 0x10), InSlot (slot 1)) ∷ [];
  cache = cached_at 1 0 false ∷ [];
}

abbrev pub writable : View
writable = record right {
  table = λ p page.
      option_map (λ e. record { entry = e; write = true }) (entry named_at_slot (p, page));
}

-- an anon_vma whose root is not its parent
abbrev pub of_a_child : AnonVma
of_a_child = record { root = 0; parent = 1; chain = 0 ∷ 1 ∷ 2 ∷ [] }
