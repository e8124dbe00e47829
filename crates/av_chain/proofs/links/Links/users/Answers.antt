use Rattle.std.proofs.Common.{sym, ap, ◌∙◌, subst}
use Rattle.av_chain.specs.declared.node.Way.TheVariants.{Anon}
use Rattle.av_chain.specs.Links.{users_of}
use Rattle.av_chain.specs.Rows.{row, Reaches}
use Rattle.av_chain.specs.Users.{users_left}
use Rattle.av_chain.specs.Lists.{areas_of}
use Rattle.av_chain.proofs.Passing.{users_row}
use Rattle.av_chain.proofs.Runs.{first_reaches}
use Rattle.av_chain.proofs.Threads.{apart_row}
use Rattle.av_chain.proofs.Iterating.{from_all}
use Rattle.av_chain.proofs.links.Links.users.Goals as goal

pub invariant_of-result : goal.invariant_of-result
invariant_of-result c =
    let r = row Anon c.args.anon c.self.inside.lists.nodes.blocks in
    record { whole = c.self.invariant; there = subst (λ o. Reaches o r) (sym c.first_user.ensures) (first_reaches r) }

pub returns : goal.returns
returns c =
    let bs = c.self.inside.lists.nodes.blocks in
    ap (λ o. users_left c.args.anon o bs) c.first_user.ensures ∙ ap areas_of
    (from_all (row Anon c.args.anon bs) (apart_row Anon c.args.anon bs c.self.inside.lists.nodes.apart))
    ∙ sym (users_row bs c.args.anon) ∙ ap (λ ls. users_of ls c.args.anon) c.self.view_is
