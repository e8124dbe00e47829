use Rattle.std.proofs.Common.{sym, ◌∙◌}
use Rattle.av_trace.specs.declared.reply.Answer.TheVariants.{EntryFrame}
use Rattle.av_report.proofs.ReportEntry.{entry_in_frame, frame_below}
use Rattle.av_report.proofs.report.entry_answer.Goals as goal

pub slot-requires : goal.slot-requires
slot-requires c = frame_below c.args.mem.now c.args.process c.args.page c.in-Here.frame c.in-Here.write c.in-Here.seen c.requires
    (sym c.get.ensures ∙ c.in-Here.is)

pub is_merged-requires-clause-in_range : goal.is_merged-requires-clause-in_range
is_merged-requires-clause-in_range c =
    frame_below c.args.mem.now c.args.process c.args.page c.in-Here.frame c.in-Here.write c.in-Here.seen c.requires (sym c.get.ensures ∙ c.in-Here.is)

pub returns-in-Here : goal.returns-in-Here
returns-in-Here c = λ d s keeps.
    (λ i. EntryFrame c.in-Here.frame c.in-Here.seen (c.slot.ensures i) (c.is_merged.ensures i))
    ∙ entry_in_frame c.args.mem.now s keeps c.args.process c.args.page c.in-Here.frame c.in-Here.write c.in-Here.seen
    (sym c.get.ensures ∙ c.in-Here.is)
