use Rattle.std.proofs.Common.{◌≡◌, ◌==◌, ◌<◌, true, false, length, subst, ◌∙◌, sym}
use Rattle.std.proofs.lemmas.List.{get_or_default}
use Rattle.av_swapmap.specs.Counts.{Store, shown}
use Rattle.av_swapmap.specs.contracts.counts.Counts.{the_view}
use Rattle.av_swapmap.proofs.Written.{bad_unnamed}
use Rattle.av_swapmap.proofs.counts.Counts.bad.Goals as goal

pub returns-clause-unnamed : goal.returns-clause-unnamed
returns-clause-unnamed c = λ e.
    let below : c.args.page < length c.self.inside.bytes.items =
    subst (λ (v : Store). c.args.page < length v.bytes) (sym c.self.view_is) c.requires in
    let at = c.index.ensures ∙ get_or_default c.self.inside.bytes.items c.args.page _ 0 below in
    subst (λ (v : Store). ((shown v).count c.args.page ≡ 0) × ((shown v).cached c.args.page ≡ false)) c.self.view_is
    (bad_unnamed (the_view c.self.inside) c.args.page c.self.invariant (subst (λ x. (x == 63) ≡ true) at e))
