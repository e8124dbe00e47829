-- A run's text is a legal transcript.
use Rattle.std.proofs.Common.{◌≤◌, ◌^◌, refl, sym, subst, List, [], ◌∷◌, length, map}
use Rattle.std.specs.List.{AllByRecursion}
use Rattle.av_trace.specs.Command.{IsInRange}
use Rattle.av_trace.specs.Print.{text_of}
use Rattle.av_trace.specs.Reply.{IsReply}
use Rattle.av_plain.specs.Ledger.{Setting, first_ledger}
use Rattle.av_plain.specs.Transcript.{Exchange, IsRun, State, at_first, text_of_run}
use Rattle.av_plain.proofs.Sound.{run-legal}
use Rattle.av_laws.specs.ReadBack.{IsSmallSetting}
use Rattle.av_laws.proofs.ReadBack.OfRuns.{run-reads_back}
use Rattle.av_audit_laws.specs.Unit.{SayUnits}
use Rattle.av_audit_laws.proofs.UnitLaws.{transcript-units}
use Rattle.av_audit_input.specs.Unit.{units_of}
use Rattle.av_audit_run.specs.Transcript.{AreLegal}
use Rattle.av_round_laws.proofs.Commands.{commands_of}
use Rattle.av_round_laws.proofs.Units.{units-run}

say-units : (es : List Exchange) → AllByRecursion (λ (e : Exchange). IsReply e.reply) es
    → SayUnits es (commands_of es) (map (λ (e : Exchange). text_of e.reply) es)
say-units [] all = tt
say-units (e ∷ es) all = (refl, all.0, refl, say-units es all.1)

pub units-legal : (m : Setting) (es : List Exchange) (new : State) → IsSmallSetting m → length es ≤ 2 ^ 24
    → AllByRecursion (λ (e : Exchange). IsInRange e.command) es → IsRun m (at_first m) es new
    → AreLegal m (commands_of es) (units_of (text_of_run es))
units-legal m es new small few range run =
    let replies = run-reads_back m es new small few range run in
    let units = map (λ (e : Exchange). text_of e.reply) es in
    subst (AreLegal m (commands_of es)) (sym (units-run es replies)) (
      new.world,
      new.ledger,
      transcript-units m [] first_ledger (commands_of es) units new.world new.ledger
          (es, say-units es replies, run-legal m (at_first m) es new run),
    )
