use Rattle.std.proofs.Common.{◌∙◌}
use Rattle.av_anon.proofs.anons.Anons.copy_chain.Goals as goal

pub returns-clause-family : goal.returns-clause-family
returns-clause-family c = rw (← (c.deref.ensures.value ∙ c.in_ok-chain.ensures)) c.in_ok-link_area.ensures.family

pub returns-clause-spans : goal.returns-clause-spans
returns-clause-spans c = rw (← (c.deref.ensures.value ∙ c.in_ok-chain.ensures)) c.in_ok-link_area.ensures.spans
