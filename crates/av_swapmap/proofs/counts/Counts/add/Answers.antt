use Rattle.std.proofs.Common.{◌+◌, ◌<◌, ◌≤◌, ◌^◌, subst, sym, ap}
use Rattle.av_swapmap.specs.Counts.{Store, shown}
use Rattle.av_swapmap.specs.contracts.counts.Counts.{the_view}
use Rattle.av_swapmap.proofs.Written.{whole_after, count_after, seen_kept, on_err, none_small}
use Rattle.av_swapmap.proofs.counts.Counts.add.Goals as goal

pub returns-in_err-grow : goal.returns-in_err-grow
returns-in_err-grow c = on_err c.from_residual.result _ _ c.from_residual.ensures.0 (
  subst (λ (v : Store). (shown v).count c.args.page < 63) c.self.view_is
      (none_small (the_view c.self.inside) c.args.page c.self.invariant c.in_err-grow.ensures.0),
  subst (λ x. 63 ≤ x + c.args.n) c.get.ensures c.in_err-grow.ensures.1,
  seen_kept (the_view c.self.inside) c.args.self.now c.self.view_is _ c.in_err-grow.ensures.2,
)

pub invariant_of-self-2 : goal.invariant_of-self-2
invariant_of-self-2 c =
    let fits : c.get.result + c.args.n < 2 ^ 32 = subst (λ x. x + c.args.n < 2 ^ 32) (sym c.get.ensures) c.requires.room in
    whole_after (the_view c.self.inside) c.args.self.now c.self.view_is c.self.invariant c.args.page (c.get.result + c.args.n) _ c.cached.result _
    c.requires.in_range fits c.byte_of-byte.ensures c.in_ok-grow.ensures

pub returns : goal.returns
returns c =
    let fits : c.get.result + c.args.n < 2 ^ 32 = subst (λ x. x + c.args.n < 2 ^ 32) (sym c.get.ensures) c.requires.room in
    count_after (the_view c.self.inside) c.args.self.now c.self.view_is c.self.invariant c.args.page (c.get.result + c.args.n) _ c.cached.result _
    c.requires.in_range fits c.byte_of-byte.ensures c.in_ok-grow.ensures
    c.requires.not_bad c.cached.ensures _ (ap (λ x. x + c.args.n) c.get.ensures)
