-- What is found of units is found of all of them, and of none two things.
use Rattle.std.proofs.Common.{◌≡◌, ℕ, ◌+◌, ◌<◌, ◌≤◌, Bool, true, false, List, [], ◌∷◌, ◌++◌, ◌⊎◌, length, length-append, Option, Some, None}
use Rattle.std.proofs.Common.{refl, sym, ap, subst, ◌∙◌}
use Rattle.std.proofs.Common.{arith, append-nil, append_assoc, inl, inr}
use Rattle.std.specs.Prelude.{IfSome, unwrap_or}
use Rattle.av_io.specs.Source.{Took, in_front}
use Rattle.av_ports.specs.Ports.{PortsView, undone}
use Rattle.av_trace.specs.declared.command.Command.{Command}
use Rattle.av_plain.specs.Ledger.{Ledger, Setting, first_ledger}
use Rattle.av_plain.specs.World.{World}
use Rattle.av_audit_laws.specs.Unit.{AreUnits, IsUnit, Leaves}
use Rattle.av_audit_laws.proofs.UnitLaws.{leaves-one}
use Rattle.av_audit_input.specs.Input.{IsEnded}
use Rattle.av_audit_input.specs.Trace.{EndsTrace}
use Rattle.av_audit_input.specs.Unit.{bytes_of, units_of}
use Rattle.av_audit_input.specs.declared.input_err.InputErr.{InputErr}
use Rattle.av_audit_run.specs.declared.transcript.Finding.{Finding}
use Rattle.av_audit_run.specs.declared.transcript.Finding.TheVariants as findings
use Rattle.av_audit_run.specs.Transcript.{AreLegal, Audits, BreaksOff, FindsIn, IsAuditOf, IsFinding, IsFront, IsWrong, StopsAt}

-- what the others are legal from
behind : (m : Setting) (w : World) (l : Ledger) (done others : List Command) (legal rest : List (List ℕ)) (w1 w' : World) (l1 l' : Ledger)
    → AreUnits m w l done legal w1 l1 → AreUnits m w l (done ++ others) (legal ++ rest) w' l' → AreUnits m w1 l1 others rest w' l'
behind m w l [] others [] rest w1 w' l1 l' h all =
    subst (λ v. AreUnits m v l1 others rest w' l') (sym h.0) (subst (λ k. AreUnits m w k others rest w' l') (sym h.1) all)
behind m w l [] others (u ∷ legal) rest w1 w' l1 l' h all = absurd h
behind m w l (c ∷ done) others [] rest w1 w' l1 l' h all = absurd h
behind m w l (c ∷ done) others (u ∷ legal) rest w1 w' l1 l' h all =
    let same = leaves-one m w l c u h.0 all.0 h.1 all.1 h.2 all.2 in
    behind m all.0 all.1 done others legal rest w1 w' l1 l'
    (subst (λ v. AreUnits m v all.1 done legal w1 l1) same.0 (subst (λ k. AreUnits m h.0 k done legal w1 l1) same.1 h.3)) all.3

not-wrong : (m : Setting) (w : World) (l : Ledger) (others : List Command) (rest : List (List ℕ)) (w' : World) (l' : Ledger)
    → AreUnits m w l others rest w' l' → IsWrong m w l others rest → ⊥
not-wrong m w l [] [] w' l' h wrong = wrong
not-wrong m w l [] (u ∷ rest) w' l' h wrong = h
not-wrong m w l (c ∷ others) [] w' l' h wrong = h
not-wrong m w l (c ∷ others) (u ∷ rest) w' l' h wrong = wrong (h.2.0, h.2.1, h.2.2)

pub legal-or-stopped : (m : Setting) (commands : List Command) (units : List (List ℕ)) (number : ℕ) → AreLegal m commands units
    → StopsAt m commands units number IsWrong → ⊥
legal-or-stopped m commands units number legal s =
    let all = subst (λ us. AreUnits m [] first_ledger (s.done ++ s.others) us legal.0 legal.1) s.units_are
    (subst (λ cs. AreUnits m [] first_ledger cs units legal.0 legal.1) s.commands_are legal.2) in
    not-wrong m s.world s.ledger s.others s.rest legal.0 legal.1
    (behind m [] first_ledger s.done s.others s.legal s.rest s.world legal.0 s.ledger legal.1 s.are_units all) s.stops

-- ---- one number

command-first : (c d : Command) (cs ds : List Command) → c ∷ cs ≡ d ∷ ds → c ≡ d
command-first c d cs ds e = cc

command-rest : (c d : Command) (cs ds : List Command) → c ∷ cs ≡ d ∷ ds → cs ≡ ds
command-rest c d cs ds e = cc

unit-first : (u v : List ℕ) (us vs : List (List ℕ)) → u ∷ us ≡ v ∷ vs → u ≡ v
unit-first u v us vs e = cc

unit-rest : (u v : List ℕ) (us vs : List (List ℕ)) → u ∷ us ≡ v ∷ vs → us ≡ vs
unit-rest u v us vs e = cc

-- where the first unit is legal, the units don't stop there
goes-on : (m : Setting) (w w1 w2 : World) (l l1 l2 : Ledger) (others : List Command) (rest : List (List ℕ)) (c : Command) (cs : List Command)
    (u : List ℕ) (us : List (List ℕ)) → w1 ≡ w → l1 ≡ l → others ≡ c ∷ cs → rest ≡ u ∷ us → Leaves m w l c u w2 l2
    → IsWrong m w1 l1 others rest → ⊥
goes-on m w w1 w2 l l1 l2 others rest c cs u us ew el eo er h wrong =
    by (subst (λ us. IsWrong m w l (c ∷ cs) us) er (subst (λ cs. IsWrong m w l cs rest) eo
    (subst (λ k. IsWrong m w k others rest) el (subst (λ v. IsWrong m v l1 others rest) ew wrong))))
  where
    by : (IsUnit m w l c u → ⊥) → ⊥
    by never = never (h.0, h.1, h.2)

-- no more units are legal than stand before one that is wrong
no-more : (m : Setting) (w : World) (l : Ledger) (done ended others later : List Command) (legal valid rest more : List (List ℕ))
    (w1 w2 : World) (l1 l2 : Ledger) → done ++ others ≡ ended ++ later → legal ++ rest ≡ valid ++ more
    → AreUnits m w l done legal w1 l1 → AreUnits m w l ended valid w2 l2 → IsWrong m w2 l2 later more → length legal ≤ length valid
no-more m w l [] ended others later [] valid rest more w1 w2 l1 l2 cs us h g there = omega arith
no-more m w l [] ended others later (u ∷ legal) valid rest more w1 w2 l1 l2 cs us h g there = absurd h
no-more m w l (c ∷ done) ended others later [] valid rest more w1 w2 l1 l2 cs us h g there = absurd h
no-more m w l (c ∷ done) [] others later (u ∷ legal) [] rest more w1 w2 l1 l2 cs us h g there =
    absurd (goes-on m w w2 h.0 l l2 h.1 later more c (done ++ others) u (legal ++ rest) g.0 g.1 (sym cs) (sym us) h.2 there)
no-more m w l (c ∷ done) [] others later (u ∷ legal) (v ∷ valid) rest more w1 w2 l1 l2 cs us h g there = absurd g
no-more m w l (c ∷ done) (d ∷ ended) others later (u ∷ legal) [] rest more w1 w2 l1 l2 cs us h g there = absurd g
no-more m w l (c ∷ done) (d ∷ ended) others later (u ∷ legal) (v ∷ valid) rest more w1 w2 l1 l2 cs us h g there =
    let same-command = command-first c d (done ++ others) (ended ++ later) cs in
    let same-unit = unit-first u v (legal ++ rest) (valid ++ more) us in
    let leaves : Leaves m w l c u g.0 g.1 = subst (λ c. Leaves m w l c u g.0 g.1) (sym same-command)
    (subst (λ u. Leaves m w l d u g.0 g.1) (sym same-unit) g.2) in
    let same = leaves-one m w l c u h.0 g.0 h.1 g.1 h.2 leaves in
    let few = no-more m h.0 h.1 done ended others later legal valid rest more w1 w2 l1 l2
    (command-rest c d (done ++ others) (ended ++ later) cs) (unit-rest u v (legal ++ rest) (valid ++ more) us) h.3
    (subst (λ v. AreUnits m v h.1 ended valid w2 l2) (sym same.0) (subst (λ k. AreUnits m g.0 k ended valid w2 l2) (sym same.1) g.3)) there in
    omega (arith, few)

before : (m : Setting) (commands : List Command) (units : List (List ℕ)) (number other : ℕ)
    → StopsAt m commands units number IsWrong → StopsAt m commands units other IsWrong → number ≤ other
before m commands units number other s t =
    let few = no-more m [] first_ledger s.done t.done s.others t.others s.legal t.legal s.rest t.rest s.world t.world
    s.ledger t.ledger (sym s.commands_are ∙ t.commands_are) (sym s.units_are ∙ t.units_are) s.are_units t.are_units t.stops in
    omega (arith, few, s.number_is, t.number_is)

pub stopped-once : (m : Setting) (commands : List Command) (units : List (List ℕ)) (number other : ℕ)
    → StopsAt m commands units number IsWrong → StopsAt m commands units other IsWrong → number ≡ other
stopped-once m commands units number other s t =
    omega (arith, before m commands units number other s t, before m commands units other number t s)

-- ---- more units behind

-- where what stops it is a unit, or no more comes
stopped-more : (m : Setting) (commands : List Command) (units more : List (List ℕ)) (number : ℕ)
    (Stops : Setting → World → Ledger → List Command → List (List ℕ) → Type 0)
    → ((w : World) (l : Ledger) (others : List Command) (u : List ℕ) (us : List (List ℕ)) → Stops m w l others (u ∷ us)
    → Stops m w l others (u ∷ us ++ more))
    → (s : StopsAt m commands units number Stops) → (number ≡ length units) ⊎ (more ≡ []) → StopsAt m commands (units ++ more) number Stops
stopped-more m commands units more number Stops longer s all = record {
  done = s.done;
  others = s.others;
  commands_are = s.commands_are;
  legal = s.legal;
  rest = s.rest ++ more;
  units_are = ap (λ us. us ++ more) s.units_are ∙ append_assoc s.legal s.rest more;
  number_is = s.number_is;
  world = s.world;
  ledger = s.ledger;
  are_units = s.are_units;
  stops = by s.rest (ap length s.units_are ∙ length-append s.legal s.rest) s.stops all;
}
  where
    by : (rest : List (List ℕ)) → length units ≡ length s.legal + length rest → Stops m s.world s.ledger s.others rest
        → (number ≡ length units) ⊎ (more ≡ []) → Stops m s.world s.ledger s.others (rest ++ more)
    by [] count stops (inl is) = absurd (omega (arith, count, is, s.number_is))
    by [] count stops (inr none) = subst (λ us. Stops m s.world s.ledger s.others us) (sym none) stops
    by (u ∷ us) count stops all = longer s.world s.ledger s.others u us stops

wrong-longer : (m : Setting) (more : List (List ℕ)) (w : World) (l : Ledger) (others : List Command) (u : List ℕ) (us : List (List ℕ))
    → IsWrong m w l others (u ∷ us) → IsWrong m w l others (u ∷ us ++ more)
wrong-longer m more w l [] u us h = h
wrong-longer m more w l (c ∷ others) u us h = h

finds-all : (finding : Finding) (m : Setting) (commands : List Command) (units more : List (List ℕ)) (Ended : Type 0) → (Ended → more ≡ [])
    → FindsIn finding m commands units Ended → IsFinding finding m commands (units ++ more)
finds-all findings.Legal m commands units more Ended none h =
    subst (AreLegal m commands) (sym (append-nil units) ∙ ap (λ us. units ++ us) (sym (none h.1))) h.0
finds-all (findings.Illegal n) m commands units more Ended none h =
    stopped-more m commands units more n IsWrong (wrong-longer m more) h.0 (elim h.1 [ inl is ↦ inl is | inr at_end ↦ inr (none at_end.1) ])

-- ---- an input that is told

-- what was taken of what is told, and what is left
took-told : (content : List ℕ) (before now : Option (List ℕ)) (bytes : List ℕ) → before ≡ Some content → Took before now bytes
    → (rest : List ℕ) × (now ≡ Some rest) × (content ≡ bytes ++ rest)
took-told content before None bytes is took = absurd (never (sym is ∙ took))
  where
    never : Some content ≡ None → ⊥
    never e = cc
took-told content before (Some rest) bytes is took = (rest, refl, ap (λ o. unwrap_or o content) (sym is ∙ took))

pub breaks-before : (error : InputErr) (m : Setting) (commands : List Command) (content rest : List ℕ) (new : PortsView) (number : ℕ)
    → (h : BreaksOff error m commands (Some content) rest new) → StopsAt m commands (units_of content) number IsWrong → length h.units < number
breaks-before error m commands content rest new number h s =
    let t = took-told content (Some content) h.between (bytes_of h.units) refl h.cuts.took in
    let first = subst (λ o. IfSome o (λ rest. units_of (bytes_of h.units ++ rest) ≡ h.units ++ units_of rest)) t.1 h.cuts.first in
    let few = no-more m [] first_ledger h.done s.done h.others s.others h.units s.legal (units_of t.0) s.rest h.legal.0 s.world h.legal.1 s.ledger
    (sym h.commands_are ∙ s.commands_are) (sym (ap units_of t.2 ∙ first) ∙ s.units_are) h.legal.2 s.are_units s.stops in
    omega (arith, few, s.number_is)

ended-told : (ahead rest : List ℕ) (now : PortsView) → undone ahead now ≡ Some rest → IsEnded ahead now → rest ≡ []
ended-told ahead rest now is ended = by now.source.left is ended.1.ended
  where
    by : (left : Option (List ℕ)) → in_front ahead left ≡ Some rest → IfSome left (λ r. r ≡ []) → rest ≡ []
    by None e h = cc
    by (Some r) e h = ap (λ o. unwrap_or o []) (sym e) ∙ (λ i. ended.0 i ++ h i)

front-is : (ended : Bool) (lines : List (List ℕ)) (bytes ahead transcript : List ℕ) (old new : PortsView) → EndsTrace ended lines bytes ahead old new
    → undone ahead new ≡ Some transcript → IsFront lines bytes transcript
front-is false lines bytes ahead transcript old new ends is = inl ends.0
front-is true lines bytes ahead transcript old new ends is = inr (ends.0, ended-told ahead transcript new is ends.1)

pub audit-of : (finding : Finding) (m : Setting) (old new : PortsView) (content : List ℕ) → Audits finding m old new
    → old.source.left ≡ Some content → IsAuditOf finding m content
audit-of finding m old new content h told =
    let t = took-told content (undone [] old) (undone h.ahead h.between) h.trace.bytes (ap (in_front []) told) h.trace.took in
    let j = h.judges in
    let u = took-told t.0 (undone h.ahead h.between) (undone h.rest new) (bytes_of j.units) t.1 j.cuts.took in
    let first = subst (λ o. IfSome o (λ rest. units_of (bytes_of j.units ++ rest) ≡ j.units ++ units_of rest)) u.1 j.cuts.first in
    record {
      lines = h.trace.lines;
      commands = h.commands;
      trace = h.trace.trace;
      bytes = h.trace.bytes;
      transcript = t.0;
      content_is = t.2;
      front = front-is h.ended h.trace.lines h.trace.bytes h.ahead t.0 old h.between h.trace.ends t.1;
      finds = subst (λ us. IsFinding finding m h.commands us) (sym (ap units_of u.2 ∙ first))
          (finds-all finding m h.commands j.units (units_of u.0) (IsEnded h.rest new)
          (λ ended. ap units_of (ended-told h.rest u.0 new u.1 ended)) j.finds);
    }
