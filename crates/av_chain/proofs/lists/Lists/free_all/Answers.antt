use Rattle.std.proofs.Common.{sym, ◌∙◌, subst}
use Rattle.av_chain.proofs.Drained.{AreLeft, list_run, list_first, list_gone, none_left}
use Rattle.av_chain.proofs.lists.Lists.free_all.Goals as goal

pub loop-area-init : goal.loop-area-init
loop-area-init c = subst (λ es. AreLeft es c.args.self.nodes.blocks)
    (sym (c.into_iter-area-iterator.ensures.into_iter_gives ∙ c.iter-area-items.ensures.rest))
    (record { threaded = c.requires.areas_lead; unique = c.iter-area-items.ensures.unique })

pub free_row-requires-clause-run : goal.free_row-requires-clause-run
free_row-requires-clause-run c = list_run c.in-Some.area.now c.in-Some.head.now c.next.new.self c.loop-area.nodes.blocks
    (subst (λ es. AreLeft es c.loop-area.nodes.blocks) c.in-Some.ensures.steps c.loop-area.invariant)

pub free_row-requires-clause-first : goal.free_row-requires-clause-first
free_row-requires-clause-first c = list_first c.in-Some.area.now c.in-Some.head.now c.next.new.self c.loop-area.nodes.blocks
    (subst (λ es. AreLeft es c.loop-area.nodes.blocks) c.in-Some.ensures.steps c.loop-area.invariant)

pub loop-area-preserved : goal.loop-area-preserved
loop-area-preserved c = rw (c.free_row.ensures) (list_gone c.in-Some.area.now c.in-Some.head.now c.next.new.self c.loop-area.nodes.blocks
    (subst (λ es. AreLeft es c.loop-area.nodes.blocks) c.in-Some.ensures.steps c.loop-area.invariant))

pub end-requires : goal.end-requires
end-requires c = none_left c.loop-area.nodes.blocks (subst (λ es. AreLeft es c.loop-area.nodes.blocks) c.in-None.ensures.steps.0 c.loop-area.invariant)
