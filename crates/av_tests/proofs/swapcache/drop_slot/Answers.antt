use Rattle.std.proofs.Common.{◌≡◌, ℕ, Option, Some, None}
use Rattle.av_swapcache.specs.Swap.{shown}
use Rattle.av_tests.proofs.SwapcacheLaws.{spare_changed}
use Rattle.av_tests.proofs.swapcache.drop_slot.Goals as goal

pub returns-clause-spare : goal.returns-clause-spare
returns-clause-spare c =
    λ f. spare_changed f None c.args.slot (shown c.args.swap.now) (shown c.drop_ref.new.self) (λ i. (c.drop_ref.ensures.swap i).find) (none f)
  where
    none : (f : ℕ) → ◌≡◌ {A = Option ℕ} None (Some f) → ⊥
    none f e = cc
