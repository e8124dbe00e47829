use Rattle.std.proofs.Common.{◌≡◌, ◌<◌, List, length, ℕ, sym, ap, subst, ◌∙◌, arith, inr}
use Rattle.av_plain.specs.Device.{setting_of}
use Rattle.av_plain.specs.Report.{totals as totals_of}
use Rattle.av_replay.specs.Summary.{EndsText, summary_text}
use Rattle.av_replay.proofs.summary.sum_up.Goals as goal

pub write_last-requires : goal.write_last-requires
write_last-requires g c =
    let text = c.as_slice.ensures ∙ c.in-Ok.ensures in
    subst (λ (t : List ℕ). 0 < length t) (sym text) (omega arith)

pub returns-clause-sums : goal.returns-clause-sums
returns-clause-sums g c = λ s stands.
    let old = (g.P.Ports.view c.args.ports.now).sink in
    let new = (g.P.Ports.view c.write_last.new.ports).sink in
    let last = c.write_last.result in
    let shown = c.as_slice.result.now in
    let totals = totals_of (setting_of c.args.kernel.now.frames (g.P.Ports.view c.args.ports.now).device) s.world s.ledger in
    let text : shown ≡ summary_text c.args.lines c.args.kernel.now.tally totals = c.as_slice.ensures ∙ c.in-Ok.ensures
    ∙ ap (λ tally. summary_text c.args.lines tally c.totals.result) c.tally.ensures
    ∙ ap (summary_text c.args.lines c.args.kernel.now.tally) (c.totals.ensures (g.P.Ports.view c.args.ports.now).device s stands) in
    inr (subst (λ (t : List ℕ). EndsText last old new t) text c.write_last.ensures.ends)
