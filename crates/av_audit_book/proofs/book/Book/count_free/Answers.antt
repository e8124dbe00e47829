use Rattle.std.proofs.Common.{sym, arith, ◌∙◌, ◌+◌, ◌-◌}
use Rattle.std.specs.Prelude.{nat_lt, ◌==◌}
use Rattle.std.specs.List.{range_with_len}
use Rattle.std.proofs.lemmas.List.FromFn.{length-range_with_len}
use Rattle.av_base.specs.Words.{how_many}
use Rattle.av_plain.specs.Ledger.{Cached, is_free, map_count}
use Rattle.av_audit_book.specs.Book.{ledger_of}
use Rattle.av_audit_book.proofs.UseLaws.{no-more, others-pass, used-is}
use Rattle.av_audit_book.proofs.book.Book.count_free.Goals as goal

pub overflow_sub-result : goal.overflow_sub-result
overflow_sub-result c =
    let l = ledger_of c.args.self.now in
    let frames = c.args.machine.now.frames in
    let few = no-more (λ f. nat_lt 0 (map_count l f + how_many (λ (c : Cached). f == c.frame) l.cache)) (range_with_len 0 frames) in
    let all = length-range_with_len 0 frames in
    let used = c.frames_used.ensures in
    omega (arith, few, all, used)

pub returns : goal.returns
returns c =
    let l = ledger_of c.args.self.now in
    let frames = c.args.machine.now.frames in
    (λ i. (sym (length-range_with_len 0 frames) i) - (c.frames_used.ensures i))
    ∙ others-pass (λ f. nat_lt 0 (map_count l f + how_many (λ (c : Cached). f == c.frame) l.cache)) (is_free l) (used-is l) (range_with_len 0 frames)
