-- The units that were judged so far, and where the judging ends.
use Rattle.std.proofs.Common.{◌≡◌, ℕ, zero, suc, ◌+◌, ◌<◌, ◌≤◌, List, [], ◌∷◌, ◌++◌, length, length-append, take, take-add, drop, Option}
use Rattle.std.proofs.Common.{Some, None, refl, sym, ap, subst, ◌∙◌, arith, append-nil, inl, inr}
use Rattle.std.specs.List.{AllByRecursion}
use Rattle.std.proofs.lemmas.List.{drop_all, take-append-drop}
use Rattle.av_io.specs.Source.{Took}
use Rattle.av_ports.specs.Ports.{PortsView, room, undone}
use Rattle.av_trace.specs.declared.command.Command.{Command}
use Rattle.av_plain.specs.Ledger.{Ledger, Setting, first_ledger}
use Rattle.av_plain.specs.World.{World}
use Rattle.av_audit_laws.specs.Unit.{AreUnits, Leaves}
use Rattle.av_audit_book.specs.Machine.{setting_of}
use Rattle.av_audit_book.specs.declared.machine.Machine.{Machine}
use Rattle.std.specs.Prelude.{unwrap_or}
use Rattle.av_audit_input.specs.Script.{AreLinesOf}
use Rattle.av_audit.specs.Judge.{IsAt, IsRight}
use Rattle.av_audit.specs.declared.auditor.Verdict.{Verdict}
use Rattle.av_audit.specs.declared.auditor.Verdict.TheVariants as verdicts
use Rattle.av_audit.specs.declared.auditor.Auditor.{Auditor}
use Rattle.av_audit_input.specs.Input.{IsEnded}
use Rattle.av_audit_input.specs.Unit.{bytes_of, most_bytes, Cuts, IsOne, StopsUnit}
use Rattle.av_audit_input.specs.declared.input_err.InputErr.{InputErr}
use Rattle.av_audit_input.specs.declared.input_err.InputErr.TheVariants as input
use Rattle.av_audit_input.proofs.UnitLaws.{bytes-more, cut-more, cut-none}
use Rattle.av_audit_run.specs.declared.transcript.Finding.{Finding}
use Rattle.av_audit_run.specs.Transcript.{finding_of, BreaksOff, IsWrong, Judges, StopsAt}
use Rattle.av_audit_run.specs.declared.transcript.Finding.TheVariants as findings

units-more : (m : Setting) (w : World) (l : Ledger) (cs : List Command) (us : List (List ℕ)) (w' w'' : World) (l' l'' : Ledger) (c : Command)
    (u : List ℕ) → AreUnits m w l cs us w' l' → Leaves m w' l' c u w'' l'' → AreUnits m w l (cs ++ c ∷ []) (us ++ u ∷ []) w'' l''
units-more m w l [] [] w' w'' l' l'' c u h g =
    (w'', l'', subst (λ v. Leaves m v l c u w'' l'') h.0 (subst (λ k. Leaves m w' k c u w'' l'') h.1 g), (refl, refl))
units-more m w l [] (x ∷ us) w' w'' l' l'' c u h g = absurd h
units-more m w l (d ∷ cs) [] w' w'' l' l'' c u h g = absurd h
units-more m w l (d ∷ cs) (x ∷ us) w' w'' l' l'' c u h g =
    (h.0, h.1, h.2, units-more m h.0 h.1 cs us w' w'' l' l'' c u h.3 g)

each-more : (units : List (List ℕ)) (unit : List ℕ) → AllByRecursion IsOne units → IsOne unit → AllByRecursion IsOne (units ++ unit ∷ [])
each-more [] unit all one = (one, tt)
each-more (u ∷ units) unit all one = (all.0, each-more units unit all.1 one)

-- the command at a place
pub take-more : (cs : List Command) (k : ℕ) (c : Command) (others : List Command) → drop k cs ≡ c ∷ others → take (k + 1) cs ≡ take k cs ++ c ∷ []
take-more cs k c others is = take-add k 1 cs ∙ ap (λ l. take k cs ++ take 1 l) is

-- so many units were judged, and are legal
pub record LegalSoFar (m : Setting) (commands : List Command) (number : ℕ) (before now : Option (List ℕ)) (left : ℕ) (auditor : Auditor)
    : Type 0 where
  pub units : List (List ℕ)
  pub each : AllByRecursion IsOne units
  pub cuts : Cuts units before now
  pub world : World
  pub ledger : Ledger
  pub are_units : AreUnits m [] first_ledger (take number commands) units world ledger
  pub is_at : IsAt auditor world ledger
  pub many : length units ≡ number
  pub counts : most_bytes ≡ left + length (bytes_of units)

pub legal-none : (m : Setting) (commands : List Command) (now : Option (List ℕ)) (left : ℕ) (auditor : Auditor) → left ≡ most_bytes
    → IsAt auditor [] first_ledger → LegalSoFar m commands 0 now now left auditor
legal-none m commands now left auditor all is_at = record {
  units = [];
  each = tt;
  cuts = cut-none now;
  world = [];
  ledger = first_ledger;
  are_units = (refl, refl);
  is_at = is_at;
  many = refl;
  counts = omega (arith, all);
}

-- the units with one more, which was taken
pub record OneMore (m : Setting) (commands : List Command) (number : ℕ) (before now : Option (List ℕ)) (left : ℕ) (units : List (List ℕ))
    (unit : List ℕ) : Type 0 where
  pub each : AllByRecursion IsOne (units ++ unit ∷ [])
  pub cuts : Cuts (units ++ unit ∷ []) before now
  pub many : length (units ++ unit ∷ []) ≡ number + 1
  pub counts : most_bytes ≡ left + length (bytes_of (units ++ unit ∷ []))

pub one-more : {m : Setting} {commands : List Command} {number : ℕ} {before now after : Option (List ℕ)} {left : ℕ} {auditor : Auditor} {unit : List ℕ}
    (left' : ℕ) → (h : LegalSoFar m commands number before now left auditor)
    → IsOne unit × (left ≡ left' + length unit) × Cuts (unit ∷ []) now after
    → OneMore m commands number before after left' h.units unit
one-more {m} {commands} {number} {before} {now} {after} {left} {auditor} {unit} left' h takes =
    let bytes = ap length (bytes-more h.units unit) ∙ length-append (bytes_of h.units) unit in
    record {
      each = each-more h.units unit h.each takes.0;
      cuts = cut-more h.units unit before now after h.cuts takes.2;
      many = length-append h.units (unit ∷ []) ∙ ap (λ n. n + 1) h.many;
      counts = omega (arith, h.counts, takes.1, bytes);
    }

-- ---- where it ends

module _ {m : Setting} {commands : List Command} {number : ℕ} {before now : Option (List ℕ)} {left : ℕ} {auditor : Auditor}
    (h : LegalSoFar m commands number before now left auditor) where
  parts : commands ≡ take number commands ++ drop number commands
  parts = sym (take-append-drop number commands)

  -- no unit is left
  none-left : (Stops : Setting → World → Ledger → List Command → List (List ℕ) → Type 0)
      → Stops m h.world h.ledger (drop number commands) [] → StopsAt m commands h.units (number + 1) Stops
  none-left Stops stops = record {
    done = take number commands;
    others = drop number commands;
    commands_are = parts;
    legal = h.units;
    rest = [];
    units_are = sym (append-nil h.units);
    number_is = ap (λ n. n + 1) (sym h.many);
    world = h.world;
    ledger = h.ledger;
    are_units = h.are_units;
    stops = stops;
  }

  pub missing : {command : Command} {others : List Command} (rest : List ℕ) (new : PortsView) → undone rest new ≡ now → IsEnded rest new
      → drop number commands ≡ command ∷ others → Judges (findings.Illegal (number + 1)) m commands before rest new
  missing {command} {others} rest new none ended is = record {
    units = h.units;
    each = h.each;
    cuts = subst (Cuts h.units before) (sym none) h.cuts;
    few = omega (arith, h.counts);
    near = omega (arith, ap length ended.0);
    finds = (none-left IsWrong (subst (λ cs. IsWrong m h.world h.ledger cs []) (sym is) tt), inr (ap (λ n. n + 1) (sym h.many), ended));
  }

  -- nor a command
  pub all-legal : (rest : List ℕ) (new : PortsView) → undone rest new ≡ now → IsEnded rest new → take number commands ≡ commands
      → Judges findings.Legal m commands before rest new
  all-legal rest new none ended all = record {
    units = h.units;
    each = h.each;
    cuts = subst (Cuts h.units before) (sym none) h.cuts;
    few = omega (arith, h.counts);
    near = omega (arith, ap length ended.0);
    finds = (
      (
        h.world,
        h.ledger,
        subst (λ cs. AreUnits m [] first_ledger cs h.units h.world h.ledger) all h.are_units,
      ),
      ended,
    );
  }

  -- a unit was taken that ends it
  module _ {left' : ℕ} {unit : List ℕ} (rest : List ℕ) (new : PortsView)
      (t : OneMore m commands number before (undone rest new) left' h.units unit) where
    one-left : (Stops : Setting → World → Ledger → List Command → List (List ℕ) → Type 0)
        → Stops m h.world h.ledger (drop number commands) (unit ∷ []) → StopsAt m commands (h.units ++ unit ∷ []) (number + 1) Stops
    one-left Stops stops = record {
      done = take number commands;
      others = drop number commands;
      commands_are = parts;
      legal = h.units;
      rest = unit ∷ [];
      units_are = refl;
      number_is = ap (λ n. n + 1) (sym h.many);
      world = h.world;
      ledger = h.ledger;
      are_units = h.are_units;
      stops = stops;
    }

    pub wrong : length rest ≤ room → IsWrong m h.world h.ledger (drop number commands) (unit ∷ [])
        → Judges (findings.Illegal (number + 1)) m commands before rest new
    wrong near stops = record {
      units = h.units ++ unit ∷ [];
      each = t.each;
      cuts = t.cuts;
      few = omega (arith, t.counts);
      near = near;
      finds = (one-left IsWrong stops, inl (sym t.many));
    }

  -- no more could be read, or memory was wanting
  pub breaks : (error : InputErr) (unit rest : List ℕ) (new : PortsView) → StopsUnit error left unit now rest new
      → BreaksOff error m commands before rest new
  breaks error unit rest new stops = record {
    done = take number commands;
    others = drop number commands;
    commands_are = parts;
    units = h.units;
    each = h.each;
    between = now;
    cuts = h.cuts;
    legal = (h.world, h.ledger, h.are_units);
    left = left;
    counts = h.counts;
    unit = unit;
    stops = stops;
  }

  -- memory was wanting for a unit that was read
  pub wants-memory : (left' : ℕ) (unit rest : List ℕ) (new : PortsView)
      → IsOne unit × (left ≡ left' + length unit) × Cuts (unit ∷ []) now (undone rest new) → length rest ≤ room
      → BreaksOff input.Memory m commands before rest new
  wants-memory left' unit rest new takes near = breaks input.Memory unit rest new (record {
    took = subst (Took now (undone rest new)) (append-nil unit) takes.2.took;
    part = inr takes.0;
    few = omega (arith, takes.1);
    near = near;
    stops = tt;
  })

-- ---- a unit that is read

-- a unit behind the last command
pub too-many : {m : Setting} {commands : List Command} {number : ℕ} {before now : Option (List ℕ)} {left : ℕ} {auditor : Auditor}
    {unit : List ℕ} (left' : ℕ) (rest : List ℕ) (new : PortsView) → (h : LegalSoFar m commands number before now left auditor)
    → IsOne unit × (left ≡ left' + length unit) × Cuts (unit ∷ []) now (undone rest new) → length rest ≤ room → number ≡ length commands
    → Judges (findings.Illegal (length commands + 1)) m commands before rest new
too-many {m} {commands} {number} {before} {now} {left} {auditor} {unit} left' rest new h takes near all =
    subst (λ n. Judges (findings.Illegal (n + 1)) m commands before rest new) all
    (wrong h rest new (one-more left' h takes) near (subst (λ cs. IsWrong m h.world h.ledger cs (unit ∷ [])) (sym (drop_all number commands (omega (arith, all)))) tt))

-- what is said of it on the machine that is kept
pub on-machine : {old now : Machine} {read unit : List ℕ} (w : World) (l : Ledger) (command : Command) (verdict : Verdict) (auditor : Auditor)
    → now ≡ old → read ≡ unit → IsRight (setting_of now) w l command read verdict auditor
    → IsRight (setting_of old) w l command unit verdict auditor
on-machine {old} {now} {read} {unit} w l command verdict auditor same is right =
    subst (λ k. IsRight (setting_of k) w l command unit verdict auditor) same
    (subst (λ u. IsRight (setting_of now) w l command u verdict auditor) is right)

pub verdict-legal : (verdict : Verdict) (number : ℕ) → finding_of verdict number ≡ None → verdict ≡ verdicts.Legal
verdict-legal verdicts.Legal number e = refl
verdict-legal verdicts.Illegal number e = cc

-- a unit for the next command was read, and that is said of it
module _ {m : Setting} {commands others : List Command} {number : ℕ} {before now : Option (List ℕ)} {left : ℕ} {auditor : Auditor}
    {command : Command} {unit : List ℕ} (left' : ℕ) (rest : List ℕ) (new : PortsView)
    (h : LegalSoFar m commands number before now left auditor)
    (takes : IsOne unit × (left ≡ left' + length unit) × Cuts (unit ∷ []) now (undone rest new)) (is : drop number commands ≡ command ∷ others)
    (auditor' : Auditor) where
  -- the audit ends with it
  pub verdict-ends : {finding : Finding} (verdict : Verdict) → length rest ≤ room → IsRight m h.world h.ledger command unit verdict auditor'
      → finding_of verdict (number + 1) ≡ Some finding → Judges finding m commands before rest new
  verdict-ends {finding} verdicts.Legal near right ends = cc
  verdict-ends {finding} verdicts.Illegal near right ends =
      let same : findings.Illegal (number + 1) ≡ finding = ap (λ o. unwrap_or o finding) ends in
      subst (λ f. Judges f m commands before rest new) same
      (wrong h rest new (one-more left' h takes) near (subst (λ cs. IsWrong m h.world h.ledger cs (unit ∷ [])) (sym is) right))

  -- it goes on, since the unit is legal
  pub verdict-goes : (verdict : Verdict) → IsRight m h.world h.ledger command unit verdict auditor' → verdict ≡ verdicts.Legal
      → LegalSoFar m commands (number + 1) before (undone rest new) left' auditor'
  verdict-goes verdict right legal =
      let r = subst (λ v. IsRight m h.world h.ledger command unit v auditor') legal right in
      let t = one-more left' h takes in
      record {
        units = h.units ++ unit ∷ [];
        each = t.each;
        cuts = t.cuts;
        world = r.0;
        ledger = r.1;
        are_units = subst (λ cs. AreUnits m [] first_ledger cs (h.units ++ unit ∷ []) r.0 r.1) (sym (take-more commands number command others is))
            (units-more m [] first_ledger (take number commands) h.units h.world r.0 h.ledger r.1 command unit h.are_units r.2);
        is_at = r.3;
        many = t.many;
        counts = t.counts;
      }

-- the command at a place
pub at-place : (cs : List Command) (k : ℕ) → k < length cs
    → (c : Command) × (others : List Command) × (drop k cs ≡ c ∷ others) × (drop (suc k) cs ≡ others)
at-place [] k below = absurd (omega (arith, below))
at-place (c ∷ cs) zero below = (c, cs, refl, refl)
at-place (c ∷ cs) (suc k) below = at-place cs k (omega (arith, below))

-- what a line of the script says is the first command
abbrev pub Reads : List ℕ → ℕ → Option Command → Type 0
Reads rest size read = (first : Command) (others : List Command) → AreLinesOf rest (first ∷ others)
    → (read ≡ Some first) × AreLinesOf (drop size rest) others

-- that is the next command
record IsNextOf (commands : List Command) (index : ℕ) (rest : List ℕ) (size : ℕ) (read : Option Command) : Type 0 where
  pub first : Command
  pub others : List Command
  pub at : drop index commands ≡ first ∷ others
  pub is : read ≡ Some first
  pub behind : AreLinesOf (drop size rest) (drop (index + 1) commands)

next-of : (commands : List Command) (index : ℕ) (rest : List ℕ) (size : ℕ) (read : Option Command) → AreLinesOf rest (drop index commands)
    → index < length commands → Reads rest size read → IsNextOf commands index rest size read
next-of commands index rest size read lines below reads =
    let at = at-place commands index below in
    let r = reads at.0 at.1 (subst (λ cs. AreLinesOf rest cs) at.2 lines) in
    let plus : index + 1 ≡ suc index = omega arith in
    let more : drop (index + 1) commands ≡ at.1 = ap (λ (k : ℕ). drop k commands) plus ∙ at.3 in
    record {
      first = at.0;
      others = at.1;
      at = at.2;
      is = r.0;
      behind = subst (λ cs. AreLinesOf (drop size rest) cs) (sym more) r.1;
    }

pub some-command : (commands : List Command) (index : ℕ) (rest : List ℕ) (size : ℕ) (read : Option Command) → AreLinesOf rest (drop index commands)
    → index < length commands → Reads rest size read → read ≡ None → ⊥
some-command commands index rest size read lines below reads none =
    let n = next-of commands index rest size read lines below reads in
    let e = n.is in
    cc

pub next-command : (commands : List Command) (index : ℕ) (rest : List ℕ) (size : ℕ) (read : Option Command) (command : Command)
    → AreLinesOf rest (drop index commands) → index < length commands → Reads rest size read → read ≡ Some command
    → (others : List Command) × (drop index commands ≡ command ∷ others) × AreLinesOf (drop size rest) (drop (index + 1) commands)
next-command commands index rest size read command lines below reads is =
    let n = next-of commands index rest size read lines below reads in
    let same : n.first ≡ command = ap (λ o. unwrap_or o n.first) (sym n.is ∙ is) in
    (n.others, n.at ∙ ap (λ c. c ∷ n.others) same, n.behind)

pub none-else : (o : Option Command) → ((c : Command) → o ≡ Some c → ⊥) → o ≡ None
none-else None h = refl
none-else (Some c) h = absurd (h c refl)
