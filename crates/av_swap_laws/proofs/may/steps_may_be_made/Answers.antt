use Rattle.av_swap_laws.proofs.Cache.{once-of, slot-frame}
use Rattle.av_swap_laws.proofs.From.{cached-in_range, flight-once, given-may_put, listed-used, uncached-may_load}
use Rattle.av_swap_laws.proofs.may.steps_may_be_made.Goals as goal

pub returns : goal.returns
returns c = λ m excuse l sound. (
  once-of m excuse l sound,
  listed-used m excuse l sound,
  given-may_put m excuse l sound,
  uncached-may_load m excuse l sound,
  cached-in_range m excuse l sound,
  slot-frame l (once-of m excuse l sound),
  flight-once m excuse l sound,
)
