-- The replies of reports that leave no choice.
use Rattle.std.specs.Prelude.{[], List, Option, length}
use Rattle.av_trace.specs.declared.reply.Answer.TheVariants.{Counted, Runs}
use Rattle.av_trace.specs.declared.reply.Reply.{Reply}
use Rattle.av_trace.specs.declared.row.Row.{Row}
use Rattle.av_trace.specs.Reply.{answer_only}
use Rattle.av_plain.specs.Ledger.{Entry, Ledger, Setting}
use Rattle.av_plain.specs.Report.{totals, walk_answer, walk_rows}
use Rattle.av_plain.specs.World.{World}

-- the walk of the frame that an entry names
abbrev pub shown_walk : Ledger → Option Entry → Reply
shown_walk l e = record { answer = walk_answer l e; notes = []; rows = walk_rows l e }

-- the numbers of `stat`
abbrev pub shown_totals : Setting → World → Ledger → Reply
shown_totals m w l = answer_only (Counted (totals m w l))

-- the runs of `maps`
abbrev pub shown_runs : List Row → Reply
shown_runs rows = record { answer = Runs (length rows); notes = []; rows = rows }
