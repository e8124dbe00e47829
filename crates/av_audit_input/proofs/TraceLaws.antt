-- Lines of a trace that are taken.
use Rattle.std.proofs.Common.{◌≡◌, ℕ, ◌+◌, ◌<◌, ◌≤◌, Bool, true, false, List, [], ◌∷◌, ◌++◌, length, take, drop, Option, refl, sym, ap, subst, ◌∙◌, arith}
use Rattle.std.proofs.Common.{append-nil, append_assoc, inl, inr, length-append, None, Some}
use Rattle.std.specs.Prelude.{◌≢◌, ◌==◌, option_to_list, IfErr, OnErr, Result, Ok, Err}
use Rattle.std.specs.List.{AllByRecursion}
use Rattle.std.proofs.lemmas.List.{take_all, drop_all}
use Rattle.av_io.specs.Source.{Took, in_front}
use Rattle.av_trace.specs.declared.command.Command.{Command}
use Rattle.av_trace.specs.Line.{Says}
use Rattle.av_ports.specs.declared.line.Line.{Line}
use Rattle.av_ports.specs.Line.{IsLine, IsNext}
use Rattle.av_ports.specs.Ports.{AreUnfailed, PortsView, ReadsOn, StaysOpen, room, undone}
use Rattle.av_ports.proofs.Bytes.{in_front-then, Took-then}
use Rattle.av_audit_input.specs.Input.{FailsBy, FailsOnly, IsEnded}
use Rattle.av_ports.proofs.Times.{unfailed_then}
use Rattle.av_audit_input.proofs.InputLaws.{fails-since}
use Rattle.av_audit_input.specs.declared.input_err.InputErr.{InputErr}
use Rattle.av_audit_input.specs.declared.input_err.InputErr.TheVariants as input
use Rattle.av_audit_input.specs.declared.trace.Next.TheVariants as nexts
use Rattle.av_audit_input.specs.Trace.{all_lines, mark, next_of, AreSaid, IsKept, IsNoMark, IsNotKept, IsTrace, IsTraceLine, Keeps, StandsNext, StopsLine}
use Rattle.av_audit_input.specs.Trace.{StopsMark, StopsTrace, StopsWithin, TakesLine, TakesMark, TakesNext, TakesTrace}

-- the line in front, as it is taken
pub record IsTaken (line : Line) (ended : Bool) (ending ahead mid : List ℕ) (old now : PortsView) : Type 0 where
  pub takes : TakesLine (take line.size mid) ending ahead (drop line.whole mid) old now
  pub stands : StandsNext (take line.size mid) mid now

module _ (line : Line) (ahead mid : List ℕ) (old now : PortsView) (reads : ReadsOn ahead mid old now) where
  took-by : (ending : List ℕ) → mid ≡ (take line.size mid ++ ending) ++ drop line.whole mid
      → Took (undone ahead old) (undone (drop line.whole mid) now) (take line.size mid ++ ending)
  took-by ending parts = sym reads.same ∙ ap (λ (l : List ℕ). in_front l now.source.left) parts
      ∙ in_front-then (take line.size mid ++ ending) (drop line.whole mid) now.source.left

  -- with its newline, or as the last one
  abbrev pub Taken : Bool → Type 0
  Taken true = IsTaken line true [] ahead mid old now × IsEnded (drop line.whole mid) now
  Taken false = IsTaken line false (10 ∷ []) ahead mid old now × StaysOpen old.source now.source

  pub next-taken : IsNext line mid old.source now.source → Taken (line.whole == line.size)
  next-taken (inl next) =
      let front = take line.size mid in
      let longer : (line.whole == line.size) ≡ false = grind (arith, next.1) in
      subst Taken (sym longer) (
        record {
          takes = record {
            is_line = next.0.line;
            took = took-by (10 ∷ []) (next.0.newline ∙ sym (append_assoc front (10 ∷ []) (drop (line.size + 1) mid))
                ∙ ap (λ (k : ℕ). (front ++ 10 ∷ []) ++ drop k mid) (sym next.1));
          };
          stands = inl (drop (line.size + 1) mid, next.0.newline);
        },
        next.2,
      )
  next-taken (inr next) =
      let front = take line.size mid in
      let all : front ≡ mid = take_all line.size mid (omega (arith, next.1)) in
      let none : drop line.whole mid ≡ [] = drop_all line.whole mid (omega (arith, next.1, next.3)) in
      let same : (line.whole == line.size) ≡ true = grind (arith, next.3) in
      let long : 0 < length front = subst (λ (l : List ℕ). 0 < length l) (sym all) (omega (arith, next.1, next.2)) in
      subst Taken (sym same) (
        record {
          takes = record {
            is_line = subst IsLine (sym all) next.0;
            took = took-by [] (sym (ap (λ (l : List ℕ). (front ++ []) ++ l) none ∙ append-nil (front ++ []) ∙ append-nil front ∙ all));
          };
          stands = inr (sym all, long, next.4);
        },
        (none, next.4),
      )

  -- what may come behind it
  next-by : (marked ended : Bool) (cs cs' : List Command) → Taken ended → IsKept marked (take line.size mid) cs cs'
      → TakesNext (next_of marked ended) ahead (drop line.whole mid) old now cs cs'
  next-by true false cs cs' taken kept =
      ((subst (λ l. TakesLine l (10 ∷ []) ahead (drop line.whole mid) old now) kept.0 taken.0.takes, taken.1), kept.1)
  next-by false false cs cs' taken kept = (take line.size mid, taken.0.takes, kept, taken.1)
  next-by true true cs cs' taken kept =
      inl ((inr (subst (λ l. TakesLine l [] ahead (drop line.whole mid) old now) kept.0 taken.0.takes), taken.1), kept.1)
  next-by false true cs cs' taken kept = inr (take line.size mid, taken.0.takes, kept, taken.1)

  pub line-next : (marked : Bool) (cs cs' : List Command) → IsNext line mid old.source now.source
      → IsKept marked (take line.size mid) cs cs'
      → TakesNext (next_of marked (line.whole == line.size)) ahead (drop line.whole mid) old now cs cs'
  line-next marked cs cs' next kept = next-by marked (line.whole == line.size) cs cs' (next-taken next) kept

  mark-by : (ended : Bool) → Taken ended → take line.size mid ≡ mark → TakesMark ended ahead (drop line.whole mid) old now
  mark-by false taken is = (subst (λ l. TakesLine l (10 ∷ []) ahead (drop line.whole mid) old now) is taken.0.takes, taken.1)
  mark-by true taken is = (inr (subst (λ l. TakesLine l [] ahead (drop line.whole mid) old now) is taken.0.takes), taken.1)

  pub mark-next : IsNext line mid old.source now.source → take line.size mid ≡ mark
      → TakesMark (line.whole == line.size) ahead (drop line.whole mid) old now
  mark-next next is = mark-by (line.whole == line.size) (next-taken next) is

  stands-by : (ended : Bool) → Taken ended → IsLine (take line.size mid) × StandsNext (take line.size mid) mid now
  stands-by true taken = (taken.0.takes.is_line, taken.0.stands)
  stands-by false taken = (taken.0.takes.is_line, taken.0.stands)

  -- it stands in front
  pub stands-next : IsNext line mid old.source now.source → IsLine (take line.size mid) × StandsNext (take line.size mid) mid now
  stands-next next = stands-by (line.whole == line.size) (next-taken next)

-- ---- lines so far

says-more : (lines : List (List ℕ)) (line : List ℕ) (command : Option Command) (cs cs' : List Command) → AreSaid lines cs → Says line command
    → cs' ≡ cs ++ option_to_list command → AreSaid (lines ++ line ∷ []) cs'
says-more [] line command cs cs' h says is =
    (command, [], is ∙ ap (λ l. l ++ option_to_list command) h ∙ sym (append-nil (option_to_list command)), says, refl)
says-more (x ∷ xs) line command cs cs' h says is = (
  h.0,
  h.1 ++ option_to_list command,
  is ∙ ap (λ l. l ++ option_to_list command) h.2 ∙ append_assoc (option_to_list h.0) h.1 (option_to_list command),
  h.3,
  says-more xs line command h.1 (h.1 ++ option_to_list command) h.4 says refl,
)

-- a trace has no more commands than lines
pub commands-few : (lines : List (List ℕ)) (cs : List Command) → AreSaid lines cs → length cs ≤ length lines
commands-few [] cs h = omega (arith, ap length h)
commands-few (line ∷ lines) cs h = by h.0 (ap length h.2 ∙ length-append (option_to_list h.0) h.1) (commands-few lines h.1 h.4)
  where
    by : (command : Option Command) → length cs ≡ length (option_to_list command) + length h.1 → length h.1 ≤ length lines → length cs ≤ length (line ∷ lines)
    by None e few = omega (arith, e, few)
    by (Some c) e few = omega (arith, e, few)

good-more : (lines : List (List ℕ)) (line : List ℕ) → AllByRecursion IsTraceLine lines → IsTraceLine line
    → AllByRecursion IsTraceLine (lines ++ line ∷ [])
good-more [] line all good = (good, tt)
good-more (x ∷ xs) line all good = (all.0, good-more xs line all.1 good)

pub lines-more : (lines : List (List ℕ)) (line : List ℕ) → all_lines (lines ++ line ∷ []) ≡ all_lines lines ++ (line ++ 10 ∷ [])
lines-more [] line = append-nil (line ++ 10 ∷ [])
lines-more (x ∷ xs) line =
    ap (λ l. (x ++ 10 ∷ []) ++ l) (lines-more xs line) ∙ sym (append_assoc (x ++ 10 ∷ []) (all_lines xs) (line ++ 10 ∷ []))

count-more : (lines : List (List ℕ)) (line : List ℕ) → length (lines ++ line ∷ []) ≡ length lines + 1
count-more [] line = refl
count-more (x ∷ xs) line = let e = count-more xs line in omega (arith, e)

-- the lines so far, which are all but the last ones of a trace
pub record Past (lines : List (List ℕ)) (commands : List Command) (number : ℕ) (ahead now-ahead : List ℕ) (old now : PortsView) : Type 0 where
  pub good : AllByRecursion IsTraceLine lines
  pub count : length lines ≡ number
  pub says : AreSaid lines commands
  pub took : Took (undone ahead old) (undone now-ahead now) (all_lines lines)

pub past-trace : (lines : List (List ℕ)) (commands : List Command) (number : ℕ) (ahead mid : List ℕ) (old now : PortsView)
    → Past lines commands number ahead mid old now → number ≤ 16777216 → IsTrace lines commands
past-trace lines commands number ahead mid old now past few =
    record { good = past.good; few = omega (arith, past.count, few); says = past.says }

with-line : (lines : List (List ℕ)) (line : List ℕ) (cs cs' : List Command) (number : ℕ) (ahead mid : List ℕ) (old now : PortsView)
    → Past lines cs number ahead mid old now → IsLine line → Keeps line cs cs'
    → AllByRecursion IsTraceLine (lines ++ line ∷ []) × (length (lines ++ line ∷ []) ≡ number + 1) × AreSaid (lines ++ line ∷ []) cs'
with-line lines line cs cs' number ahead mid old now past is_line keeps = (
  good-more lines line past.good (record { is_line = is_line; unmarked = keeps.unmarked }),
  count-more lines line ∙ ap (λ n. n + 1) past.count,
  says-more lines line keeps.command cs cs' past.says keeps.says keeps.commands_are,
)

pub past-more : (lines : List (List ℕ)) (line : List ℕ) (cs cs' : List Command) (number : ℕ) (ahead mid after : List ℕ) (old now new : PortsView)
    → Past lines cs number ahead mid old now → TakesLine line (10 ∷ []) mid after now new → Keeps line cs cs'
    → Past (lines ++ line ∷ []) cs' (number + 1) ahead after old new
past-more lines line cs cs' number ahead mid after old now new past takes keeps =
    let w = with-line lines line cs cs' number ahead mid old now past takes.is_line keeps in
    record {
      good = w.0;
      count = w.1;
      says = w.2;
      took = subst (λ l. Took (undone ahead old) (undone after new) l) (sym (lines-more lines line))
          (Took-then (undone ahead old) (undone mid now) (undone after new) (all_lines lines) (line ++ 10 ∷ []) past.took takes.took);
    }

pub past-none : (ahead : List ℕ) (now : PortsView) (commands : List Command) → commands ≡ [] → Took (undone ahead now) (undone ahead now) []
    → Past [] commands 0 ahead ahead now now
past-none ahead now commands none took = record { good = tt; count = refl; says = none; took = took }

-- ---- the end of a trace

-- behind these lines the mark comes, or nothing
pub ends-marked : (ended : Bool) (lines : List (List ℕ)) (cs : List Command) (number : ℕ) (ahead mid after : List ℕ) (old now new : PortsView)
    → Past lines cs number ahead mid old now → number ≤ 16777216 → StaysOpen old.source now.source → length after ≤ room
    → TakesMark ended mid after now new → TakesTrace ended cs ahead after old new
ends-marked false lines cs number ahead mid after old now new past few stays near takes = record {
  lines = lines;
  bytes = all_lines lines ++ (mark ++ 10 ∷ []);
  trace = past-trace lines cs number ahead mid old now past few;
  took = Took-then (undone ahead old) (undone mid now) (undone after new) (all_lines lines) (mark ++ 10 ∷ []) past.took takes.0.took;
  near = near;
  ends = (sym (lines-more lines mark), λ untold. takes.1 (stays untold));
}
ends-marked true lines cs number ahead mid after old now new past few stays near (inl same, ended) = record {
  lines = lines;
  bytes = all_lines lines;
  trace = past-trace lines cs number ahead mid old now past few;
  took = subst (λ o. Took (undone ahead old) o (all_lines lines)) (sym same) past.took;
  near = near;
  ends = (inl (inl refl), ended);
}
ends-marked true lines cs number ahead mid after old now new past few stays near (inr takes, ended) = record {
  lines = lines;
  bytes = all_lines lines ++ (mark ++ []);
  trace = past-trace lines cs number ahead mid old now past few;
  took = Took-then (undone ahead old) (undone mid now) (undone after new) (all_lines lines) (mark ++ []) past.took takes.took;
  near = near;
  ends = (inr (ap (λ l. all_lines lines ++ l) (append-nil mark)), ended);
}

-- behind these lines a last one comes
pub ends-line : (lines : List (List ℕ)) (line : List ℕ) (cs cs' : List Command) (number : ℕ) (ahead mid after : List ℕ) (old now new : PortsView)
    → Past lines cs number ahead mid old now → number < 16777216 → length after ≤ room → TakesLine line [] mid after now new → Keeps line cs cs'
    → IsEnded after new → TakesTrace true cs' ahead after old new
ends-line lines line cs cs' number ahead mid after old now new past few near takes keeps ended =
    let w = with-line lines line cs cs' number ahead mid old now past takes.is_line keeps in
    record {
      lines = lines ++ line ∷ [];
      bytes = all_lines lines ++ (line ++ []);
      trace = record { good = w.0; few = omega (arith, w.1, few); says = w.2 };
      took = Took-then (undone ahead old) (undone mid now) (undone after new) (all_lines lines) (line ++ []) past.took takes.took;
      near = near;
      ends = (
        inl (inr (ap (λ l. (all_lines lines ++ l) ++ 10 ∷ []) (append-nil line) ∙ append_assoc (all_lines lines) line (10 ∷ [])
            ∙ sym (lines-more lines line))),
        ended,
      );
    }

-- the input ends behind these lines
pub ends-next : (lines : List (List ℕ)) (cs cs' : List Command) (number : ℕ) (ahead mid after : List ℕ) (old now new : PortsView)
    → Past lines cs number ahead mid old now → number < 16777216 → StaysOpen old.source now.source → length after ≤ room
    → TakesNext nexts.End mid after now new cs cs' → TakesTrace true cs' ahead after old new
ends-next lines cs cs' number ahead mid after old now new past few stays near (inl h) =
    subst (λ l. TakesTrace true l ahead after old new) (sym h.1)
    (ends-marked true lines cs number ahead mid after old now new past (omega (arith, few)) stays near h.0)
ends-next lines cs cs' number ahead mid after old now new past few stays near (inr h) =
    ends-line lines h.0 cs cs' number ahead mid after old now new past few near h.1 h.2 h.3

-- ---- a line that isn't taken

-- a line in front is not kept
pub not-kept : (line : Line) (ahead mid : List ℕ) (old now : PortsView) (error : InputErr) (number : ℕ) → ReadsOn ahead mid old now
    → IsNext line mid old.source now.source → IsNotKept error number (take line.size mid) → StopsLine error number mid now
not-kept line ahead mid old now (input.BadLine n) number reads next not =
    let front = stands-next line ahead mid old now reads next in
    (not.0, inr (take line.size mid, record { is_line = front.0; unmarked = not.1 }, not.2, front.1))
not-kept line ahead mid old now input.Memory number reads next not = tt
not-kept line ahead mid old now input.TooMany number reads next not = absurd not
not-kept line ahead mid old now input.TooLong number reads next not = absurd not
not-kept line ahead mid old now input.Read number reads next not = absurd not
not-kept line ahead mid old now input.Write number reads next not = absurd not

pub not-kept-fails : (old now : PortsView) (error : InputErr) (number : ℕ) (line : List ℕ) → AreUnfailed old now → IsNotKept error number line
    → FailsBy error old now
not-kept-fails old now (input.BadLine n) number line was not = was
not-kept-fails old now input.Memory number line was not = was
not-kept-fails old now input.TooMany number line was not = was
not-kept-fails old now input.TooLong number line was not = was
not-kept-fails old now input.Read number line was not = absurd not
not-kept-fails old now input.Write number line was not = absurd not

-- it isn't the mark
pub no-mark : (line : Line) (ahead mid : List ℕ) (old now : PortsView) → ReadsOn ahead mid old now → IsNext line mid old.source now.source
    → take line.size mid ≢ mark → IsNoMark mid now
no-mark line ahead mid old now reads next not =
    let front = stands-next line ahead mid old now reads next in
    inr (take line.size mid, record { is_line = front.0; unmarked = not }, front.1)

-- a trace stops behind these lines
pub stops-line : (error : InputErr) (lines : List (List ℕ)) (cs : List Command) (number : ℕ) (ahead mid after : List ℕ) (old now new : PortsView)
    → Past lines cs number ahead mid old now → number < 16777216 → undone after new ≡ undone mid now → length after ≤ room
    → StopsLine error (number + 1) after new → StopsWithin error ahead after old new
stops-line error lines cs number ahead mid after old now new past few same near stops = record {
  lines = lines;
  commands = cs;
  trace = past-trace lines cs number ahead mid old now past (omega (arith, few));
  took = subst (λ o. Took (undone ahead old) o (all_lines lines)) (sym same) past.took;
  near = near;
  stops = by error (subst (λ n. StopsLine error (n + 1) after new) (sym past.count) stops);
}
  where
    by : (error : InputErr) → StopsLine error (length lines + 1) after new → StopsTrace error (length lines) after new
    by (input.BadLine n) h = (omega (arith, h.0, past.count, few), h)
    by input.TooMany h = absurd h
    by input.TooLong h = h
    by input.Read h = h
    by input.Write h = h
    by input.Memory h = h

pub stops-mark : (error : InputErr) (lines : List (List ℕ)) (cs : List Command) (ahead mid after : List ℕ) (old now new : PortsView)
    → Past lines cs 16777216 ahead mid old now → undone after new ≡ undone mid now → length after ≤ room
    → StopsMark error after new → StopsWithin error ahead after old new
stops-mark error lines cs ahead mid after old now new past same near stops = record {
  lines = lines;
  commands = cs;
  trace = past-trace lines cs 16777216 ahead mid old now past (omega arith);
  took = subst (λ o. Took (undone ahead old) o (all_lines lines)) (sym same) past.took;
  near = near;
  stops = by error stops;
}
  where
    by : (error : InputErr) → StopsMark error after new → StopsTrace error (length lines) after new
    by (input.BadLine n) h = absurd h
    by input.TooMany h = (past.count, h)
    by input.TooLong h = absurd h
    by input.Read h = h
    by input.Write h = h
    by input.Memory h = absurd h

pub mark-within : (r : Result Bool InputErr) (lines : List (List ℕ)) (cs : List Command) (number : ℕ) (ahead mid after : List ℕ)
    (old now new : PortsView) → Past lines cs number ahead mid old now → number ≡ 16777216 → length after ≤ room
    → OnErr r (undone after new ≡ undone mid now) → IfErr r (λ e. StopsMark e after new) → IfErr r (λ e. StopsWithin e ahead after old new)
mark-within (Ok ended) lines cs number ahead mid after old now new past all near same stops = tt
mark-within (Err error) lines cs number ahead mid after old now new past all near same stops =
    stops-mark error lines cs ahead mid after old now new (subst (λ n. Past lines cs n ahead mid old now) all past) same near stops

pub mark-fails-since : (r : Result Bool InputErr) (a b c : PortsView) → AreUnfailed a b → StaysOpen a.source b.source → FailsOnly r b c → FailsOnly r a c
mark-fails-since (Ok ended) a b c was stays h = unfailed_then a b c was h
mark-fails-since (Err error) a b c was stays h = fails-since a b c error was stays h
