use Rattle.std.proofs.Common.{sym, ◌∙◌}
use Rattle.av_audit_neighbour.proofs.ContentsLaws.{is-known, is-new, kept-again, kept-more}
use Rattle.av_audit_neighbour.proofs.contents.Contents.add.Goals as goal

pub returns-in_ok-insert : goal.returns-in_ok-insert
returns-in_ok-insert c = λ held known kept content.
    kept-more held known c.args.frame c.args.bytes.now c.args.self.now (record { by_bytes = c.insert.new.self })
    (sym (c.find.ensures held known c.args.frame kept content) ∙ is-new c.find.result c.is_none.result c.is_none.ensures c.if-is_none.true)
    content c.in_ok-insert.ensures.updates kept

pub returns-else-is_none : goal.returns-else-is_none
returns-else-is_none c = λ held known kept content.
    let there = is-known c.find.result c.is_none.result c.is_none.ensures c.if-is_none.false in
    kept-again held known c.args.frame there.0 c.args.self.now (sym (c.find.ensures held known c.args.frame kept content) ∙ there.1) kept
