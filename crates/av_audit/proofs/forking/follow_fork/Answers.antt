use Rattle.std.proofs.Common.{ap, ◌∙◌}
use Rattle.std.proofs.lemmas.Result.{on_ok_weaker}
use Rattle.av_plain.specs.Event.{after_fork}
use Rattle.av_plain.specs.World.{pages}
use Rattle.av_audit_book.specs.Book.{ledger_of}
use Rattle.av_audit.proofs.forking.follow_fork.Goals as goal

pub returns : goal.returns
returns c =
    let l = ledger_of c.args.book.now in
    on_ok_weaker c.fork.result (λ h w at.
    let is = c.as_slice.ensures.value ∙ c.in_ok-pages.ensures w at in
    h (pages w c.args.parent) is ∙ ap (λ ps. after_fork c.args.parent c.args.child ps l) is) c.fork.ensures
