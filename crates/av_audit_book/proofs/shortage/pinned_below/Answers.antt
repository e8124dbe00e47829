use Rattle.std.proofs.Common.{ap, sym, ◌∙◌}
use Rattle.std.specs.List.{range_with_len}
use Rattle.av_base.specs.Words.{how_many}
use Rattle.av_plain.specs.Pass.{is_pinned}
use Rattle.av_audit_book.proofs.PinnedLaws.{pinned-none, pinned-past, pinned-within}
use Rattle.av_audit_book.proofs.shortage.pinned_below.Goals as goal

pub returns-in-None : goal.returns-in-None
returns-in-None c = sym (ap (λ o. how_many (is_pinned o) (range_with_len 0 c.args.n)) c.in-None.is ∙ pinned-none c.args.n)

pub returns-then-frame-n : goal.returns-then-frame-n
returns-then-frame-n c = sym (ap (λ o. how_many (is_pinned o) (range_with_len 0 c.args.n)) c.in-Some.is
    ∙ pinned-within c.in-Some.frame c.args.n c.if-frame-n.true)

pub returns-else-frame-n : goal.returns-else-frame-n
returns-else-frame-n c = sym (ap (λ o. how_many (is_pinned o) (range_with_len 0 c.args.n)) c.in-Some.is
    ∙ pinned-past c.in-Some.frame c.args.n c.if-frame-n.false)
