-- All states of a run are small, where its setting is: so each of its replies is read back.
use Rattle.std.specs.List.{AllByRecursion}
use Rattle.std.specs.Prelude.{MatchOption}
use Rattle.std.proofs.Common.{◌≡◌, ℕ, ◌+◌, ◌*◌, ◌^◌, ◌≤◌, length, true, false, List, [], ◌∷◌, Option, Some, None, sym, subst, arith}
use Rattle.av_base.specs.Limits.{top_page}
use Rattle.av_trace.specs.Command.{IsInRange}
use Rattle.av_text.specs.Number.{IsWide}
use Rattle.av_trace.specs.Reply.{IsReply}
use Rattle.av_trace.specs.declared.command.Command.{Command}
use Rattle.av_trace.specs.declared.command.Command.TheVariants.{Areas as AsksAreas}
use Rattle.av_trace.specs.declared.reply.Errno.{Errno}
use Rattle.av_trace.specs.declared.reply.Reply.{Reply}
use Rattle.av_plain.specs.Ledger.{Setting}
use Rattle.av_plain.specs.Refusal.{Refuses, refusal, tests}
use Rattle.av_plain.specs.Report.{ShowsAreas}
use Rattle.av_plain.specs.Sound.{AllSound}
use Rattle.av_plain.specs.Step.{Follows}
use Rattle.av_plain.specs.Transcript.{Exchange, IsRun, IsStep, State, at_first, rmap_of}
use Rattle.av_plain.proofs.Sound.{first-sound, step-sound}
use Rattle.av_laws.specs.Covered.{CoverBelow, CoverPages}
use Rattle.av_laws.specs.ReadBack.{IsSmallSetting, IsWideRow}
use Rattle.av_laws.proofs.Covered.{first-covers, step-covers}
use Rattle.av_laws.proofs.ReadBack.{AskedWide, legal-reads_back}
use Rattle.av_laws.proofs.ReadBack.Anons.{AreMade, rows-wide, step-makes}
use Rattle.av_laws.proofs.ReadBack.Few.{step-few}
use Rattle.av_laws.proofs.ReadBack.InRuns.{Below, step-below}
use Rattle.av_laws.proofs.ReadBack.AreasOn.{AreFewOn, on-now, small-state, step-few_on}

-- what the rows of areas say is of 64 bits, where fewer anon_vmas were made
asked-now : (m : Setting) (old : State) (command : Command) (reply : Reply) (new : State)
    → AreMade (rmap_of old) → CoverPages old.world old.areas → IsWide old.anons.next
    → IsStep m old command reply new → AskedWide command reply.rows
asked-now m old (AsksAreas p) reply new made covers wide h = by
    (refusal (tests m old.world old.ledger (AsksAreas p))) h.legal.answer
  where
    by : (o : Option Errno)
        → MatchOption o (Follows m old.world old.ledger (AsksAreas p) h.events reply.answer
        reply.rows) (λ error. Refuses error h.events reply.answer reply.rows)
        → AllByRecursion IsWideRow reply.rows
    by None x = rows-wide (rmap_of old) p reply.rows made (covers.laid p) wide
        (subst (λ answer. ShowsAreas old.areas old.anons (AsksAreas p) answer reply.rows) x.0
        h.shows)
    by (Some error) x = subst (AllByRecursion IsWideRow) (sym x.2) tt
asked-now m old command reply new made covers wide h = tt

runs-back : (m : Setting) (most : ℕ) (old : State) (es : List Exchange) (new : State) → IsSmallSetting m
    → top_page ≤ most → most + length es * top_page ≤ 2 ^ 60
    → AllSound m old.world old.ledger → Below old.world → AreFewOn old.ledger
    → AreMade (rmap_of old) → CoverBelow most old.world old.areas
    → old.anons.next + length es * (2 * top_page) ≤ 2 ^ 62
    → AllByRecursion (λ (e : Exchange). IsInRange e.command) es
    → IsRun m old es new → AllByRecursion (λ (e : Exchange). IsReply e.reply) es
runs-back m most old [] new small high room sound below on made covers few fit h = tt
runs-back m most old (e ∷ es) new small high room sound below on made covers few fit h = (
  legal-reads_back m old.world old.ledger small sound (small-state m old.world old.ledger sound below on) e.command e.reply h.1.events fit.0
      (asked-now m old e.command e.reply h.0 made covers.cover (omega (arith, few)) h.1) (on-now m old h.0 e.command e.reply small fit.0 h.1)
      h.1.legal,
  runs-back m (most + top_page) h.0 es new small (omega arith) (omega arith) (step-sound m old e.command e.reply h.0 sound h.1)
      (step-below m old h.0 e.command e.reply fit.0 below h.1) (step-few_on m old h.0 e.command e.reply small fit.0 h.1 on)
      (step-makes m old e.command e.reply h.0 made h.1).made
      (step-covers m most old e.command e.reply h.0 high (omega arith) covers h.1)
      (let more = step-few m most old e.command e.reply h.0 high covers fit.0 h.1 in
      omega (arith, few, more)) fit.1 h.2,
)

pub run-reads_back : (m : Setting) (es : List Exchange) (new : State) → IsSmallSetting m
    → length es ≤ 2 ^ 24 → AllByRecursion (λ (e : Exchange). IsInRange e.command) es
    → IsRun m (at_first m) es new
    → AllByRecursion (λ (e : Exchange). IsReply e.reply) es
run-reads_back m es new small short fit h = runs-back m top_page (at_first m) es new small (omega arith) (omega arith) (first-sound m)
    (λ p page h. absurd (never_some h)) tt
    (record { owns = λ p page. tt; chains = λ v. tt }) (first-covers m) (omega arith) fit h
  where
    never_some : false ≡ true → ⊥
    never_some e = cc
