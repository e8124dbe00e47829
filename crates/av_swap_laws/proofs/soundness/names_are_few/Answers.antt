use Rattle.av_swap_laws.proofs.Few.{together-few}
use Rattle.av_swap_laws.proofs.soundness.names_are_few.Goals as goal

pub returns : goal.returns
returns c = λ m excuse w l f s sound at_pages is. together-few m excuse w l f s sound at_pages is
