use Rattle.std.proofs.Common.{◌≡◌, ◌++◌, take}
use Rattle.av_chain.specs.Links.{links_to}
use Rattle.av_chain.specs.Lists.{AreKeptBut, links_in}
use Rattle.av_chain.proofs.lists.Lists.add_each.Given as goal

-- the first of the links are made
abbrev pub invariant-loop-anon : goal.invariant-loop-anon
invariant-loop-anon l = record {
  areas : l.self.areas ≡ l.initial.self.areas;
  kept : AreKeptBut l.area l.head l.self;
  links : links_in l.self ≡ links_in l.initial.self ++ links_to l.area (take l.anon-index l.anons);
}
