use Rattle.std.proofs.Common.{◌∙◌}
use Rattle.av_report.proofs.ReportStat.{counts-are}
use Rattle.av_report.proofs.report.totals.Goals as goal

pub returns : goal.returns
returns c = λ d s keeps.
    (λ i. record {
      frames = (c.from.ensures ∙ c.count.ensures) i;
      free = (c.from-2.ensures ∙ c.free.ensures.count) i;
      active = (c.from-3.ensures ∙ c.len.ensures.count) i;
      inactive = (c.from-4.ensures ∙ c.len-2.ensures.count) i;
      flight = (c.from-5.ensures ∙ c.flight.ensures) i;
      slots = c.all_slots.ensures.sum i;
      free_slots = c.all_free_slots.ensures.sum i;
      processes = c.count-2.result;
    }) ∙ counts-are c.args.mem.now s c.count-2.result keeps c.free.ensures.once c.free.ensures.in_range c.count-2.ensures
