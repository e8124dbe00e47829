-- Which calls of something in memory fail.
use Rattle.std.specs.Prelude.{◌≡◌, ℕ, ◌==◌, ◌≤◌, Bool, if◌then◌else◌}
use Rattle.std.specs.List.{list_any}
use Rattle.std.specs.declared.vec.Vec.{Vec}
use Rattle.std.specs.declared.alloc.Global.{Global}
use Rattle.av_io.specs.declared.failures.Failures.{Failures}
use Rattle.av_io.specs.Count.{one_more}

-- no call was made yet, and those of these numbers will fail
pub record IsFresh (failures : Failures) (listed : Vec ℕ Global) : Type 0 where
  pub calls : failures.calls ≡ 0
  pub count : failures.count ≡ 0
  pub failing : failures.failing ≡ listed

-- one more call was made. It failed exactly if its number is listed, and then that was counted.
pub record IsNextCall (old new : Failures) (failed : Bool) : Type 0 where
  pub calls : new.calls ≡ one_more old.calls
  pub listed : failed ≡ list_any (λ n. n == new.calls) old.failing.items
  pub never_falls : old.count ≤ new.count
  pub count : new.count ≡ (if failed then one_more old.count else old.count)
  pub failing : new.failing ≡ old.failing
