-- What `maps` shows of the areas of a process, and `rmap` of the walk of a frame.
use Rattle.std.specs.Prelude.{◌≡◌, ℕ, List, [], length, map}
use Rattle.av_trace.specs.declared.reply.Answer.TheVariants.{Walk}
use Rattle.av_trace.specs.declared.reply.Reply.{Reply}
use Rattle.av_trace.specs.declared.row.Row.{Row}
use Rattle.av_base.specs.Keys.{Key}
use Rattle.av_plain.specs.Report.{Range, prot_in, AreLongest, key_row, row_of}

-- the rows of the longest runs of pages of the ranges with one protection
pub record AreRuns (ranges : List Range) (rows : List Row) : Type 0 where
  pub runs : List Range
  pub of_runs : rows ≡ map row_of runs
  pub longest : AreLongest runs
  pub cover : (page : ℕ) → prot_in runs page ≡ prot_in ranges page

-- the reply that shows these entries of a frame
abbrev pub shown_walk : ℕ → List Key → Reply
shown_walk frame keys =
    record { answer = Walk frame (length keys); notes = []; rows = map key_row keys }
