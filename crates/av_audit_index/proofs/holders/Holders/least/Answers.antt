use Rattle.std.proofs.Common.{sym, ap, ◌∙◌}
use Rattle.std.specs.Map.{keys_of}
use Rattle.std.specs.Prelude.{slice_get}
use Rattle.av_audit_index.proofs.HoldersLaws.{rise}
use Rattle.av_audit_index.proofs.UsedLaws.{range-used}
use Rattle.av_audit_index.proofs.holders.Holders.least.Goals as goal

pub returns-in_err-n-clause-least : goal.returns-in_err-n-clause-least
returns-in_err-n-clause-least c =
    let used = range-used _ _ c.self.view_is c.self.invariant c.args.from c.args.end _ (c.range.ensures.between tt) in
    c.from_residual.ensures ∙ ap (λ ks. slice_get ks 0) (sym (ap keys_of c.in_err-n.ensures.steps.0) ∙ used)

pub returns-clause-least : goal.returns-clause-least
returns-clause-least c =
    let used = range-used _ _ c.self.view_is c.self.invariant c.args.from c.args.end _ (c.range.ensures.between tt) in
    ap (λ ks. slice_get ks 0) (sym (ap keys_of c.in_ok-n.ensures.steps) ∙ used)

pub returns-then-from-end-clause-rising : goal.returns-then-from-end-clause-rising
returns-then-from-end-clause-rising c = rise _ _ c.self.view_is c.self.invariant

pub returns-in_err-n-clause-rising : goal.returns-in_err-n-clause-rising
returns-in_err-n-clause-rising c = rise _ _ c.self.view_is c.self.invariant

pub returns-clause-rising : goal.returns-clause-rising
returns-clause-rising c = rise _ _ c.self.view_is c.self.invariant
