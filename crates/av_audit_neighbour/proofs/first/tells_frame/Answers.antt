use Rattle.std.proofs.Common.{refl, sym, ◌∙◌}
use Rattle.av_audit_neighbour.specs.Held.{bytes_of_page}
use Rattle.av_audit_neighbour.proofs.ContentsLaws.{pages-compared}
use Rattle.av_audit_neighbour.proofs.FirstLaws.{tells-again, tells-first}
use Rattle.av_audit_neighbour.proofs.first.tells_frame.Goals as goal

pub returns-in_ok-insert-in-None-clause-ok : goal.returns-in_ok-insert-in-None-clause-ok
returns-in_ok-insert-in-None-clause-ok c = tells-first c.args.memories.now c.args.pages.now _ c.args.frame c.args.key
    (sym (c.copied.ensures ∙ c.get.ensures.value) ∙ c.in-None.is) c.in_ok-insert-in-None.ensures.updates.0

pub returns-in-Some-clause-ok : goal.returns-in-Some-clause-ok
returns-in-Some-clause-ok c = tells-again c.args.memories.now c.args.pages.now c.args.pages.now c.args.frame c.args.key c.in-Some.first c.eq.result
    (sym (c.copied.ensures ∙ c.get.ensures.value) ∙ c.in-Some.is) refl
    (c.eq.ensures ∙ pages-compared c.page_bytes-one.result.now c.page_bytes-other.result.now
    (bytes_of_page c.args.memories.now c.in-Some.first) (bytes_of_page c.args.memories.now c.args.key)
    c.up_to_last.result.now c.up_to_last-in-Some.result.now c.page_bytes-one.ensures c.page_bytes-other.ensures
    c.up_to_last.ensures c.up_to_last-in-Some.ensures)
