-- Worked examples for merged frames and frames that move: ledgers and memories. Which example would
-- fail if a definition were wrong:
--   which pages join, and which frame (`candidate_by`, `merged_like`, `other_like`): shared,
--     not_mergeable, joined_already, has_the_frame, locked_target, joins
--   what is left alone (`cause_of`, `has_turn`, `out_of`): kept, locked_first, locked_in_flight,
--     no_turn, numbers, locked_counts_first; where a frame goes that is kept (`after_note`): ksm,
--     locked
--   the last copy of a merged frame (`asks_copy`, `change_frame`): those of
--     `last_copies_free_merged_frames`
--   which frame moves, and where to (`next_move`, `with_places`): moves, no_more, merged,
--     goes_along; the free ones (`takes_any`, `sorts_free`, `Compacts`): moved_from_anywhere,
--     risen, no_move, one_move
use Rattle.std.specs.Prelude.{true, false, if◌then◌else◌, List, [], ◌∷◌, Some, None, ◌==◌}
use Rattle.av_base.specs.Keys.{Key}
use Rattle.av_base.specs.Flags.{no_flags}
use Rattle.av_trace.specs.declared.note.Note.{Note}
use Rattle.av_trace.specs.declared.note.Note.TheVariants.{Joined, Shared}
use Rattle.av_plain.specs.Ledger.{InFrame, Ledger, first_ledger}
use Rattle.av_plain.specs.Merge.{FrameBytes}
use Rattle.av_plain.specs.Pass.{Spared}
use Rattle.av_plain.specs.World.{World, Page}
use Rattle.av_laws.specs.Examples.{page_with}

-- frames 1 and 3 are in use, and 3 is merged
abbrev pub one_merged : Ledger
one_merged = record first_ledger {
  entries = ((1, 0x10), InFrame 3 true) ∷ ((2, 0x10), InFrame 1 false)
      ∷ ((3, 0x10), InFrame 3 false) ∷ [];
  active = 3 ∷ [];
  inactive = 1 ∷ [];
  merged = 3 ∷ [];
}

-- three pages of two processes have a frame each
abbrev pub three_pages : Ledger
three_pages = record first_ledger {
  entries = ((1, 0x10), InFrame 2 true) ∷ ((1, 0x11), InFrame 1 false)
      ∷ ((2, 0x10), InFrame 0 false) ∷ [];
  inactive = 2 ∷ 1 ∷ 0 ∷ [];
}

abbrev pub keys_of_three : List Key
keys_of_three = (1, 0x10) ∷ (1, 0x11) ∷ (2, 0x10) ∷ []

-- all frames hold zeros alone
abbrev pub all_zeros : FrameBytes
all_zeros f i = 0

-- a page that may be merged
abbrev pub mergeable_page : Page
mergeable_page = record (page_with 0) { flags = record no_flags { mergeable = true } }

-- two processes have them alone
abbrev pub mergeable_pages : World
mergeable_pages = (1, λ page. Some mergeable_page) ∷ (2, λ page. Some mergeable_page) ∷ []

-- the frame of the first is merged, and the others join it
abbrev pub all_join : List Note
all_join = Shared 2 ∷ Joined 1 0x11000 2 ∷ Joined 2 0x10000 2 ∷ []

-- a pass leaves frame 0 alone, and those of locked pages: frame 1
abbrev pub two_spared : Spared
two_spared = record { pinned = Some 0; locked = λ f. f == 1; closing = None }

-- or none but merged ones; or all, for their pages are locked
abbrev pub none_spared : Spared
none_spared = record { pinned = None; locked = λ f. false; closing = None }

abbrev pub all_locked : Spared
all_locked = record { pinned = None; locked = λ f. true; closing = None }

-- a merged frame that one page has left
abbrev pub merged_alone : Ledger
merged_alone = record first_ledger {
  entries = ((1, 0x10), InFrame 2 false) ∷ [];
  inactive = 2 ∷ [];
  merged = 2 ∷ [];
}

-- a page that may be merged but for being locked
abbrev pub locked_page : Page
locked_page = record mergeable_page {
  flags = record no_flags { locked = true; mergeable = true };
}

-- the first process has those
abbrev pub locked_pages : World
locked_pages = (1, λ page. Some locked_page) ∷ (2, λ page. Some mergeable_page) ∷ []

-- the middle page of the three may not be merged
abbrev pub two_mergeable : World
two_mergeable =
    (1, λ page. Some (if page == 0x11 then page_with 0 else mergeable_page))
    ∷ (2, λ page. Some mergeable_page) ∷ []

-- two pages have one frame, as after a fork
abbrev pub one_frame_twice : Ledger
one_frame_twice = record first_ledger {
  entries = ((1, 0x10), InFrame 0 false) ∷ ((2, 0x10), InFrame 0 false) ∷ [];
  inactive = 0 ∷ [];
}

-- the merged frame is in inactive, alone, and its first entry is seen
abbrev pub merged_in_inactive : Ledger
merged_in_inactive = record one_merged { active = 1 ∷ []; inactive = 3 ∷ [] }

-- it went to the head of active, and that entry is seen still
abbrev pub merged_at_head : Ledger
merged_at_head = record one_merged { active = 3 ∷ 1 ∷ []; inactive = [] }

-- frame 3 is one of a locked page
abbrev pub third_locked : Spared
third_locked = record none_spared { locked = λ f. f == 3 }
