-- A unit for `areas`, and the reply that is read of it.
use Rattle.std.proofs.Common.{◌≡◌, ℕ, Bool, true, false, List, [], length, None, refl, sym, ap, subst, ◌∙◌}
use Rattle.std.specs.Prelude.{MatchOption}
use Rattle.av_text.specs.Number.{IsWide}
use Rattle.av_trace.specs.declared.command.Command.TheVariants.{Areas}
use Rattle.av_trace.specs.declared.reply.Answer.TheVariants.{AreaList}
use Rattle.av_trace.specs.declared.reply.Reply.{Reply}
use Rattle.av_trace.specs.declared.row.Row.{Row}
use Rattle.av_trace.specs.Print.{text_of}
use Rattle.av_trace.specs.Reply.{IsReply}
use Rattle.av_plain.specs.Event.{Event, notes_of}
use Rattle.av_plain.specs.Ledger.{Ledger, Setting}
use Rattle.av_plain.specs.Refusal.{Refuses, refusal, tests}
use Rattle.av_plain.specs.Report.{AreAreas, ReportsAreas}
use Rattle.av_plain.specs.Step.{Follows, IsLegal}
use Rattle.av_plain.specs.World.{World, pages}
use Rattle.av_audit_judge.specs.Verdict.{IsVerdict}
use Rattle.av_audit_area.specs.Read.{shown_areas}
use Rattle.av_audit_area.specs.Shown.{IsVerdictOn}

module _ (m : Setting) (w : World) (l : Ledger) (p : ℕ) (none : refusal (tests m w l (Areas p)) ≡ None) where
  reports : (reply : Reply) (es : List Event) → IsLegal m w l (Areas p) reply es → ReportsAreas (pages w p) es reply.answer reply.rows
  reports reply es legal = subst (λ o. MatchOption o (Follows m w l (Areas p) es reply.answer reply.rows)
      (λ error. Refuses error es reply.answer reply.rows)) none legal.answer

  -- a legal reply shows rows, and no more
  one-shown : (reply : Reply) (es : List Event) → IsLegal m w l (Areas p) reply es → reply ≡ shown_areas reply.rows
  one-shown reply es legal =
      let done = reports reply es legal in
      let notes : reply.notes ≡ [] = legal.notes ∙ ap notes_of done.2 in
      λ i. record { answer = done.0 i; notes = notes i; rows = reply.rows }

  module _ (unit : List ℕ) (reply : Reply) (is : reply ≡ shown_areas reply.rows) (many : IsWide (length reply.rows))
      (read : (rows : List Row) → IsReply (shown_areas rows) → unit ≡ text_of (shown_areas rows) → reply.rows ≡ rows) where
    -- a legal reply with this text is the one that is read
    read-one : (other : Reply) (es : List Event) → IsReply other → unit ≡ text_of other → IsLegal m w l (Areas p) other es → reply.rows ≡ other.rows
    read-one other es form text legal =
        let shown = one-shown other es legal in
        read other.rows (subst IsReply shown form) (text ∙ ap text_of shown)

    pub no-text : (unit ≡ text_of reply → ⊥) → IsVerdict m w l (Areas p) unit false l
    no-text differ other es form text legal =
        differ (text ∙ ap text_of (one-shown other es legal ∙ ap shown_areas (sym (read-one other es form text legal)) ∙ sym is))

    pub text-verdict : unit ≡ text_of reply → (legal : Bool) → IsVerdictOn (pages w p) reply.rows legal → IsVerdict m w l (Areas p) unit legal l
    text-verdict text true on = record {
      reply = shown_areas reply.rows;
      events = [];
      form = record { answer = many; rest = (refl, refl, on.1) };
      text = text ∙ ap text_of is;
      legal = record {
        answer = subst (λ o. MatchOption o (Follows m w l (Areas p) [] (AreaList (length reply.rows)) reply.rows)
            (λ error. Refuses error [] (AreaList (length reply.rows)) reply.rows)) (sym none) (refl, on.0, refl);
        notes = refl;
      };
      after = refl;
    }
    text-verdict text false on = λ other es form said legal.
        on (subst (AreAreas (pages w p)) (sym (read-one other es form said legal)) (reports other es legal).1)
