use Rattle.std.proofs.Common.{sym, subst}
use Rattle.std.specs.declared.ops.Bound.TheVariants.{Included}
use Rattle.av_audit_queue.specs.Places.{IsLeastFrom}
use Rattle.av_audit_queue.proofs.PlacesLaws.{apart-by, from-first, none-met, one-met, other-met, same-by}
use Rattle.av_audit_queue.proofs.places.Places.first.Goals as goal

pub returns-in_err-least : goal.returns-in_err-least
returns-in_err-least c = subst (IsLeastFrom c.args.self.now c.args.name 0) (sym c.from_residual.ensures)
    (none-met (Included (c.args.name, 0)) c.args.name 0 (from-first c.args.name) c.self.inside.places c.args.self.now c.self.view_is
    c.range.result (c.range.ensures.in_range tt) c.in_err-least.ensures.steps.0)

pub returns-then-ne : goal.returns-then-ne
returns-then-ne c =
    let least = c.in_ok-least.field-0.now in
    other-met (Included (c.args.name, 0)) c.args.name 0 (from-first c.args.name) c.self.inside.places c.args.self.now c.self.view_is
    c.range.result (c.range.ensures.in_range tt) least _ c.in_ok-least.ensures.steps
    (apart-by least.0 c.args.name c.ne.result c.ne.ensures c.if-ne.true)

pub returns : goal.returns
returns c =
    let least = c.in_ok-least.field-0.now in
    one-met (Included (c.args.name, 0)) c.args.name 0 (from-first c.args.name) c.self.inside.places c.args.self.now c.self.view_is
    c.range.result (c.range.ensures.in_range tt) least _ c.in_ok-least.ensures.steps
    (same-by least.0 c.args.name c.ne.result c.ne.ensures c.if-ne.false)
