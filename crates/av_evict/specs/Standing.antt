-- What a pass finds of a frame, each decided once: the first of five that it is.
use Rattle.std.specs.Prelude.{ℕ, Bool, true, false, is_none, nat_lt, if◌then◌else◌, None, Some}
use Rattle.std.specs.Prelude.{Option, is_some, not, ◌||◌, ◌&&◌, ◌-◌}
use Rattle.av_trace.specs.declared.reply.OutOf.{OutOf}
use Rattle.av_plain.specs.Ledger.{Ledger, Setting, is_merged, no_slot, slot_of}
use Rattle.av_plain.specs.Pass.{Spared, how_many_frames, is_pinned}
use Rattle.av_evict.specs.declared.standing.Standing.{Standing}
use Rattle.av_evict.specs.declared.standing.Standing.TheVariants.{Pinned, Locked, Merged, Uncached}
use Rattle.av_evict.specs.declared.standing.Standing.TheVariants.{Cached}

-- of a frame that is not left alone
abbrev pub stands_unspared : Ledger → ℕ → Standing
stands_unspared l f =
    if is_merged l f then Merged else (if is_none (slot_of l f) then Uncached else Cached)

-- of any frame
abbrev pub stands_as : Spared → Ledger → ℕ → Standing
stands_as spared l f =
    if is_pinned spared.pinned f then Pinned
    else (if spared.locked f then Locked else stands_unspared l f)

-- whether it has a turn then
abbrev pub gets_turn : Standing → Bool
gets_turn Pinned = false
gets_turn Locked = false
gets_turn Merged = false
gets_turn Uncached = true
gets_turn Cached = true

-- what it adds to the numbers; the pinned frame is counted apart
abbrev pub numbers_of : Standing → OutOf
numbers_of Pinned = record { pinned = 0; noslot = 0; fault = 0; locked = 0; ksm = 0 }
numbers_of Locked = record { pinned = 0; noslot = 0; fault = 0; locked = 1; ksm = 0 }
numbers_of Merged = record { pinned = 0; noslot = 0; fault = 0; locked = 0; ksm = 1 }
numbers_of Uncached = record { pinned = 0; noslot = 1; fault = 0; locked = 0; ksm = 0 }
numbers_of Cached = record { pinned = 0; noslot = 0; fault = 1; locked = 0; ksm = 0 }

-- and what the pinned frame would add if it were not pinned: nothing where there is none
abbrev pub adds_unpinned : Setting → Spared → Ledger → Option ℕ → OutOf
adds_unpinned m spared l None = numbers_of Pinned
adds_unpinned m spared l (Some p) = numbers_of (if nat_lt p m.frames
    then stands_as (record spared { pinned = None }) l p else Pinned)

abbrev pub pinned_adds : Setting → Spared → Ledger → OutOf
pinned_adds m spared l = adds_unpinned m spared l spared.pinned

-- how many frames are cached, and how many are merged
abbrev pub cached_count : Setting → Ledger → ℕ
cached_count m l = how_many_frames m (λ f. is_some (slot_of l f))

abbrev pub merged_count : Setting → Ledger → ℕ
merged_count m l = how_many_frames m (is_merged l)

-- how many are locked, and how many of these are cached, and how many merged
abbrev pub locked_count : Setting → (ℕ → Bool) → ℕ
locked_count m locked = how_many_frames m locked

abbrev pub locked_cached_count : Setting → (ℕ → Bool) → Ledger → ℕ
locked_cached_count m locked l = how_many_frames m (λ f. locked f && is_some (slot_of l f))

abbrev pub locked_merged_count : Setting → (ℕ → Bool) → Ledger → ℕ
locked_merged_count m locked l = how_many_frames m (λ f. locked f && is_merged l f)

-- and what they would add if they were not, beside how many they are
abbrev pub locked_adds : Setting → (ℕ → Bool) → Ledger → OutOf
locked_adds m locked l = let all = locked_count m locked in
    let fault = locked_cached_count m locked l in let ksm = locked_merged_count m locked l in
    record { pinned = 0; noslot = all - fault - ksm; fault = fault; locked = all; ksm = ksm }

-- whether a frame can go to a slot: it is cached at one, or one may be given
abbrev pub can_go : Setting → Option ℕ → Ledger → Bool
can_go m closing l = nat_lt 0 (cached_count m l) || not (no_slot m closing l)
