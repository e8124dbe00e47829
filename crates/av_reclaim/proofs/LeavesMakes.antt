-- No step changes which frames are those of locked pages: it leaves the counts of their entries.
use Rattle.std.proofs.Common.{◌≡◌, ℕ, ◌≤◌, Bool, nat_lt, List, Option, ap}
use Rattle.av_plain.specs.Device.{Device, as_told}
use Rattle.av_swapcache.specs.declared.swap.Finished.{Finished}
use Rattle.av_evict.specs.System.{Leaves}
use Rattle.av_mem.specs.Mem.{locks_of}
use Rattle.av_mem.specs.Steps.{KeepsParts}
use Rattle.av_mem.specs.declared.mem.Mem.{Mem}
use Rattle.av_reclaim.specs.Driver.{view_of}
use Rattle.av_reclaim.proofs.FinishMakes.{EndsOn, finish-stays}
use Rattle.av_reclaim.proofs.StepMakes.{mem-stays}

same-locked : {old new : Mem} → KeepsParts old new → ◌≡◌ {A = ℕ → Bool} (λ f. nat_lt 0 (locks_of new f)) (λ f. nat_lt 0 (locks_of old f))
same-locked parts = ap {B = ℕ → Bool} (λ (locks : ℕ → ℕ) f. nat_lt 0 (locks f)) parts.locks

-- one of the memory system alone
pub mem-leaves : (names : List ℕ) (d : Device) (old new : Mem) → KeepsParts old new → Leaves (view_of names d old) (view_of names d new)
mem-leaves names d old new parts = record { stays = mem-stays names d old new parts; locked = same-locked parts }

pub finish-leaves : (names : List ℕ) (d d' : Device) (old new : Mem) (r : Option Finished) → d'.sizes ≡ d.sizes → d.failures ≤ d'.failures
    → KeepsParts old new → EndsOn r old new d d' → (told : Bool)
    → Leaves (view_of names (as_told told d) old) (view_of names (as_told told d') new)
finish-leaves names d d' old new r sizes more parts ends told = record {
  stays = finish-stays names d d' old new r sizes more parts ends told;
  locked = same-locked parts;
}
