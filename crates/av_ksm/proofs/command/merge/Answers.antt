use Rattle.av_trace.specs.declared.command.Command.TheVariants.{Merge}
use Rattle.av_plain.specs.Transcript.{rmap_of}
use Rattle.av_mem.proofs.Between.{between-of}
use Rattle.av_step.proofs.StepLaws.{answers-noted, wants-by}
use Rattle.av_ksm.proofs.CommandLaws.{merge-steps, notes_for, steady-between}
use Rattle.av_ksm.proofs.command.merge.Goals as goal

pub merge_pages-requires : goal.merge_pages-requires
merge_pages-requires c = steady-between c.args.mem.now c.requires.steady

pub returns-in_err-merge_pages : goal.returns-in_err-merge_pages
returns-in_err-merge_pages c = wants-by c.args.mem.now c.merge_pages.new.mem Merge _ c.from_residual.result c.from_residual.ensures
    c.merge_pages.ensures.count

pub returns : goal.returns
returns c =
    let old = c.args.mem.now in
    let new = c.merge_pages.new.mem in
    record {
      count = c.merge_pages.ensures.count;
      step = λ d s keeps.
          let h = c.in_ok-merge_pages.ensures.merges d s.world (rmap_of s) s.ledger (between-of d old s keeps) in
          answers-noted c.args.reply.now c.answer_with.new.reply c.merge_pages.new.notes (notes_for d old s) c.requires.cleared
          c.answer_with.ensures h.notes
          (merge-steps d old new s c.args.reply.now.notes c.merge_pages.new.notes keeps h);
    }
