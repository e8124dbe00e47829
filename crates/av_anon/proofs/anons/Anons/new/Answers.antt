use Rattle.av_chain.specs.Links.{chain_of, users_of}
use Rattle.av_anon.proofs.anons.Anons.new.Goals as goal

pub returns-clause-family : goal.returns-clause-family
returns-clause-family c = λ i. record {
  next = 0;
  info = λ n. c.new-3.ensures n i;
  chain = chain_of (c.new.ensures i);
  users = users_of (c.new.ensures i);
}
