-- The memory system with its device, as the loops of reclaim see it.
use Rattle.std.specs.Prelude.{ℕ, false, true, List, Option, nat_lt}
use Rattle.av_evict.specs.declared.system.WriteEnd.{WriteEnd}
use Rattle.av_evict.specs.System.{SystemView}
use Rattle.av_plain.specs.Areas.{Rmap}
use Rattle.av_plain.specs.Device.{Device, first_pages}
use Rattle.av_plain.specs.Stands.{free_of}
use Rattle.av_plain.specs.World.{World}
use Rattle.av_swapcache.specs.declared.swap.Finished.{Finished}
use Rattle.av_swapcache.specs.declared.swap.Finished.TheVariants.{Done, Failed}
use Rattle.av_swapcache.specs.Swap.{shown}
use Rattle.av_mem.specs.Mem.{Serves, locks_of, setting_by, view}
use Rattle.av_mem.specs.declared.mem.Mem.{Mem}

-- the swap area that is closing, if one is
abbrev pub closing_of : Mem → Option ℕ
closing_of k = (shown k.swap).closing

-- by the ghost names of the references to the two: it stands for a ledger with some memories,
-- areas, anon_vmas and homes
abbrev pub view_of : List ℕ → Device → Mem → SystemView
view_of names d k = record {
  setting = setting_by d k;
  closing = closing_of k;
  free = free_of (view k);
  first = first_pages d;
  failures = d.failures;
  history = d.history;
  names = names;
  locked = λ f. nat_lt 0 (locks_of k f);
  stands = λ l. (w : World) × (r : Rmap) × Serves d (closing_of k) k w r l;
  claims = Serves d (closing_of k) k;
}

-- how the write of a slot ended
abbrev pub end_of : Finished → WriteEnd
end_of (Done s f) = record { frame = f; slot = s; failed = false }
end_of (Failed s f) = record { frame = f; slot = s; failed = true }
