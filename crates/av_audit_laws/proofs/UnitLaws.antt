-- A unit leaves one state, so units judged in turn are a transcript's.
use Rattle.std.proofs.Common.{◌≡◌, ℕ, List, [], ◌∷◌, refl, sym, ap, subst, ◌∙◌}
use Rattle.av_trace.specs.declared.command.Command.{Command}
use Rattle.av_trace.proofs.PrintLaws.{same_reply}
use Rattle.av_plain.specs.Event.{after_all}
use Rattle.av_plain.specs.Ledger.{Ledger, Setting}
use Rattle.av_plain.specs.Step.{IsLegal, next_world}
use Rattle.av_plain.specs.Transcript.{Exchange, IsLegalFrom}
use Rattle.av_plain.specs.World.{World}
use Rattle.av_audit_laws.specs.Unit.{AreUnits, IsTranscript, Leaves, SayUnits}
use Rattle.av_audit_laws.proofs.ToldReply.{legal-told}

pub leaves-one : (m : Setting) (w : World) (l : Ledger) (command : Command) (unit : List ℕ) (w1 w2 : World) (l1 l2 : Ledger)
    → Leaves m w l command unit w1 l1 → Leaves m w l command unit w2 l2 → (w1 ≡ w2) × (l1 ≡ l2)
leaves-one m w l command unit w1 w2 l1 l2 h g =
    let reply = same_reply h.0 g.0 h.2.form g.2.form (sym h.2.text ∙ g.2.text) in
    let events = legal-told m w l command g.0 h.1 g.1 (subst (λ r. IsLegal m w l command r h.1) reply h.2.legal) g.2.legal in
    (h.3 ∙ (λ i. next_world m w l (events i) command (reply i).answer) ∙ sym g.3, h.4 ∙ ap (after_all l) events ∙ sym g.4)

pub units-transcript : (m : Setting) (w : World) (l : Ledger) (commands : List Command) (units : List (List ℕ)) (w' : World) (l' : Ledger)
    → AreUnits m w l commands units w' l' → IsTranscript m w l commands units w' l'
units-transcript m w l [] [] w' l' h = ([], tt, h)
units-transcript m w l [] (unit ∷ units) w' l' h = absurd h
units-transcript m w l (c ∷ cs) [] w' l' h = absurd h
units-transcript m w l (c ∷ cs) (unit ∷ units) w' l' h =
    let rest = units-transcript m h.0 h.1 cs units w' l' h.3 in
    let one = h.2 in (
      record { command = c; reply = one.0 } ∷ rest.0,
      (refl, one.2.form, one.2.text, rest.1),
      (
        one.1,
        one.2.legal,
        subst (λ v. IsLegalFrom m v (after_all l one.1) rest.0 w' l') one.3
            (subst (λ v. IsLegalFrom m h.0 v rest.0 w' l') one.4 rest.2),
      ),
    )

pub transcript-units : (m : Setting) (w : World) (l : Ledger) (commands : List Command) (units : List (List ℕ)) (w' : World) (l' : Ledger)
    → IsTranscript m w l commands units w' l' → AreUnits m w l commands units w' l'
transcript-units m w l commands units w' l' h = by w l h.0 commands units h.1 h.2
  where
    by : (w : World) (l : Ledger) (es : List Exchange) (cs : List Command) (us : List (List ℕ)) → SayUnits es cs us
        → IsLegalFrom m w l es w' l' → AreUnits m w l cs us w' l'
    by w l [] [] [] s h = h
    by w l [] [] (u ∷ us) s h = absurd s
    by w l [] (c ∷ cs) us s h = absurd s
    by w l (e ∷ es) [] us s h = absurd s
    by w l (e ∷ es) (c ∷ cs) [] s h = absurd s
    by w l (e ∷ es) (c ∷ cs) (u ∷ us) s h = (
      next_world m w l h.0 e.command e.reply.answer,
      after_all l h.0,
      (
        e.reply,
        h.0,
        record { form = s.1; text = s.2; legal = subst (λ c. IsLegal m w l c e.reply h.0) s.0 h.1 },
        ap (λ c. next_world m w l h.0 c e.reply.answer) s.0,
        refl,
      ),
      by (next_world m w l h.0 e.command e.reply.answer) (after_all l h.0) es cs us s.3 h.2,
    )
