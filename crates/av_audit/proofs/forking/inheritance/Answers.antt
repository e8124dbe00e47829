use Rattle.std.proofs.Common.{ap, refl, sym, ◌∙◌}
use Rattle.av_plain.specs.World.{pages}
use Rattle.av_audit_events.proofs.FilterLaws.{slice-cons}
use Rattle.av_audit.proofs.ForkLaws.{heir_pages, heir-all, heir-goes, heir-none, heir-stays}
use Rattle.av_audit.proofs.forking.inheritance.Goals as goal

pub loop-rest-init : goal.loop-rest-init
loop-rest-init c = λ w at. heir-none _ _ _ c.new-made.ensures.items refl

pub loop-rest-preserved-in_ok-push : goal.loop-rest-preserved-in_ok-push
loop-rest-preserved-in_ok-push c = λ w at. heir-goes (pages w c.args.parent) c.loop-rest.made.items _ c.loop-rest.rest.now _ _ _
    (slice-cons c.loop-rest.rest.now _ c.in-len1-up.len_at_least) (sym c.if-goes_over.true ∙ c.goes_over.ensures w at)
    c.in_ok-push.ensures.items (c.loop-rest.invariant w at)

pub loop-rest-preserved : goal.loop-rest-preserved
loop-rest-preserved c = λ w at. heir-stays (pages w c.args.parent) c.loop-rest.made.items c.loop-rest.rest.now _ _ _
    (slice-cons c.loop-rest.rest.now _ c.in-len1-up.len_at_least) (sym c.if-goes_over.false ∙ c.goes_over.ensures w at)
    (c.loop-rest.invariant w at)

pub returns : goal.returns
returns c = λ w at.
    let q = pages w c.args.parent in
    heir-all q c.loop-rest.made.items (heir_pages q c.as_slice-rest.result.now) c.loop-rest.rest.now c.in_default.len_below (c.loop-rest.invariant w at)
    ∙ ap (heir_pages q) c.as_slice-rest.ensures.value ∙ ap (heir_pages q) c.in_ok-keys.ensures
