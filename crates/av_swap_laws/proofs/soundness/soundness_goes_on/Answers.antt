use Rattle.av_swap_laws.proofs.Sound.{age-sound, drop-sound, keep-sound, load-sound, map-sound, put-sound, start-sound, unmap-sound}
use Rattle.av_swap_laws.proofs.soundness.soundness_goes_on.Goals as goal

pub returns : goal.returns
returns c = λ m excuse l s. (
  put-sound m excuse l s,
  unmap-sound m excuse l s,
  start-sound m excuse l s,
  drop-sound m excuse l s,
  load-sound m excuse l s,
  map-sound m excuse l s,
  keep-sound m excuse l s,
  age-sound m excuse l s,
)
