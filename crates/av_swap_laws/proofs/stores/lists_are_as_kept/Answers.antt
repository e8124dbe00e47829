use Rattle.av_swap_laws.proofs.From.{flight-first, flight-last, without-turned}
use Rattle.av_swap_laws.proofs.stores.lists_are_as_kept.Goals as goal

pub returns : goal.returns
returns c = (without-turned, flight-first, flight-last)
