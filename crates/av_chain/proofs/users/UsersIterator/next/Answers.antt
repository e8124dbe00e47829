use Rattle.std.proofs.Common.{◌≡◌, ◌∷◌, sym, ap, ◌∙◌, subst, true}
use Rattle.av_chain.specs.declared.node.Sides.{Sides}
use Rattle.av_chain.specs.declared.node.Way.TheVariants.{Anon}
use Rattle.av_chain.specs.Nodes.{has_place}
use Rattle.av_chain.specs.Rows.{row, Reaches}
use Rattle.av_chain.specs.Users.{users_left}
use Rattle.av_chain.proofs.Iterating.{users_has, users_there, users_step, shorter}
use Rattle.av_chain.proofs.users.UsersIterator.next.Goals as goal

pub get-node-requires : goal.get-node-requires
get-node-requires c =
    let bs = c.self.inside.lists.now.nodes.blocks in
    users_has c.self.inside.anon c.in_ok-place.place bs c.self.inside.lists.now.nodes.apart
    (subst (λ o. Reaches o (row Anon c.self.inside.anon bs)) c.in_ok-place.was c.self.invariant.there)

pub invariant_of-self : goal.invariant_of-self
invariant_of-self c =
    let bs = c.self.inside.lists.now.nodes.blocks in
    let there : has_place c.in_ok-place.place.ptr (row Anon c.self.inside.anon bs) ≡ true =
    subst (λ o. Reaches o (row Anon c.self.inside.anon bs)) c.in_ok-place.was c.self.invariant.there in
    record {
      whole = c.self.invariant.whole;
      there = rw (c.sides.ensures) (users_there c.self.inside.anon c.in_ok-place.place bs c.self.inside.lists.now.nodes.apart there
          c.get-node.result.now c.get-node.ensures (c.self.invariant.whole.anons_lead.run c.self.inside.anon));
    }

pub returns-clause-steps : goal.returns-clause-steps
returns-clause-steps c =
    let bs = c.self.inside.lists.now.nodes.blocks in
    let there : has_place c.in_ok-place.place.ptr (row Anon c.self.inside.anon bs) ≡ true =
    subst (λ o. Reaches o (row Anon c.self.inside.anon bs)) c.in_ok-place.was c.self.invariant.there in
    sym c.self.view_is ∙ ap (λ o. users_left c.self.inside.anon o bs) c.in_ok-place.was
    ∙ users_step c.self.inside.anon c.in_ok-place.place bs c.self.inside.lists.now.nodes.apart there c.get-node.result.now c.get-node.ensures
    (c.self.invariant.whole.anons_lead.run c.self.inside.anon)
    ∙ ap (λ (s : Sides). c.get-node.result.now.area ∷ users_left c.self.inside.anon s.after bs) (sym c.sides.ensures)

pub returns-clause-goes : goal.returns-clause-goes
returns-clause-goes c = record {
  on = λ _. (tt, tt, shorter c.args.self.now _ c.get-node.result.now.area (returns-clause-steps c));
  keeps = tt;
  rests = λ _. tt;
}
