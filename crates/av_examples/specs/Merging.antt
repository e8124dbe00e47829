-- Worked examples for merging, beside those of `av_laws`.
use Rattle.std.specs.Prelude.{◌==◌, if◌then◌else◌, true, false, List, [], ◌∷◌, Some, None}
use Rattle.av_base.specs.Flags.{no_flags}
use Rattle.av_trace.specs.declared.note.Note.{Note}
use Rattle.av_trace.specs.declared.note.Note.TheVariants.{Joined, Shared}
use Rattle.av_plain.specs.Ledger.{InFrame, Ledger, first_ledger}
use Rattle.av_plain.specs.World.{Page, Process, World}
use Rattle.av_laws.specs.Examples.{page_with, read_only}
use Rattle.av_laws.specs.Frames.{mergeable_page, three_pages}

-- ---- memories

-- each page of processes 1 and 2 is like this one
abbrev pub all_like : Page → World
all_like page = (1, λ _. Some page) ∷ (2, λ _. Some page) ∷ []

-- a page that may be merged, for reading only
abbrev pub read_only_page : Page
read_only_page = record mergeable_page { prot = read_only }

-- one that a fork wipes, or leaves out
abbrev pub wiped_page : Page
wiped_page = record mergeable_page {
  flags = record no_flags { wipe_on_fork = true; mergeable = true };
}

abbrev pub left_out_page : Page
left_out_page = record mergeable_page {
  flags = record no_flags { dont_fork = true; mergeable = true };
}

-- a page that claims its first byte alone: 7
abbrev pub seven_first : Page
seven_first = record (page_with 7) { bytes = λ i. if i == 0 then Some 7 else None }

-- it is page 0x10 of process 1
abbrev pub with_seven_first : Process
with_seven_first page = if page == 0x10 then Some seven_first else None

abbrev pub first_byte_claimed : World
first_byte_claimed = (1, with_seven_first) ∷ []

-- ---- ledgers

-- two pages have a frame each
abbrev pub two_pages : Ledger
two_pages = record first_ledger {
  entries = ((1, 0x10), InFrame 2 true) ∷ ((1, 0x11), InFrame 1 false) ∷ [];
  inactive = 2 ∷ 1 ∷ [];
}

-- the second one joins the first
abbrev pub second_joins : List Note
second_joins = Shared 2 ∷ Joined 1 0x11000 2 ∷ []

-- the frames of the first two of three pages are active
abbrev pub two_active : Ledger
two_active = record three_pages { active = 2 ∷ 1 ∷ []; inactive = 0 ∷ [] }

-- the first of two pages is forked: its frame is also that of process 2
abbrev pub one_forked : Ledger
one_forked = record first_ledger {
  entries = ((1, 0x10), InFrame 0 false) ∷ ((1, 0x11), InFrame 1 false)
      ∷ ((2, 0x10), InFrame 0 false) ∷ [];
  inactive = 1 ∷ 0 ∷ [];
}

-- the second one joins it
abbrev pub joins_forked : List Note
joins_forked = Shared 0 ∷ Joined 1 0x11000 0 ∷ []

-- frames 3 and 2 are merged, and frame 1 isn't
abbrev pub two_merged : Ledger
two_merged = record first_ledger {
  entries = ((1, 0x10), InFrame 3 false) ∷ ((1, 0x11), InFrame 2 false)
      ∷ ((2, 0x10), InFrame 1 false) ∷ [];
  inactive = 3 ∷ 2 ∷ 1 ∷ [];
  merged = 3 ∷ 2 ∷ [];
}
