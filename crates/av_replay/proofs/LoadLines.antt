-- Each line of a load is a good one, and how many there are.
use Rattle.std.proofs.Common.{◌≡◌, ℕ, suc, zero, ◌+◌, ◌<◌, ◌≤◌, List, [], ◌∷◌, ◌++◌, map, length, refl, ap, subst, arith, length-append}
use Rattle.std.specs.Prelude.{All, codes, Some}
use Rattle.std.specs.Fmt.{digits}
use Rattle.std.specs.List.{AllByRecursion, range_with_len}
use Rattle.std.proofs.lemmas.Fmt.{decimal_digit}
use Rattle.std.proofs.lemmas.List.{length-map}
use Rattle.std.proofs.lemmas.List.Elements.{All-cons, All-nil}
use Rattle.std.proofs.lemmas.List.FromFn.{length-map-range_with_len}
use Rattle.av_trace.specs.Command.{IsInRange, line_of}
use Rattle.av_trace.specs.declared.command.Command.{Command}
use Rattle.av_trace.specs.declared.command.Command.TheVariants as commands
use Rattle.av_trace.specs.declared.place.Place.TheVariants.{Fixed}
use Rattle.av_ports.specs.Line.{IsLine}
use Rattle.av_replay.specs.Replay.{all_lines}
use Rattle.av_replay.specs.Template.{IsDrawn, text_with, no_draws}
use Rattle.av_replay.specs.Trace.{IsGood, IsTrace, lines_of}
use Rattle.av_words.specs.Words.{most_load, most_names}
use Rattle.av_replay.specs.Work.{address_of, after_line, commands_from, draws_of, first_commands, first_process, load, load_lines, reads_and_writes, turn_on}
use Rattle.av_replay.specs.Work.{turn_on_commands}
use Rattle.av_replay.proofs.LoadFront.{same}
use Rattle.av_replay.proofs.Plain.{IsShort, is-short, short}
use Rattle.av_replay.proofs.Ranges.{drawn-command}

-- ---- each line

good : (c : Command) → IsInRange c → IsShort c → IsGood (line_of c)
good c within plain = record { is_line = record { one = plain.0; short = plain.1 }; said = Some c; says = (within, refl) }

drawn : (x : ℕ) → IsDrawn (draws_of x)
drawn x = record { kind = omega arith; least = omega arith; most = omega arith; page = omega arith; value = omega arith }

good-drawn : (n x : ℕ) → AllByRecursion IsGood (map line_of (commands_from n x))
unfolding commands_from
good-drawn zero x = tt
good-drawn (suc n) x = (good _ (drawn-command x) (is-short (draws_of x) (drawn x) (draws_of x).kind (drawn x).kind), good-drawn n (after_line x))

turn-on-good : (area : ℕ) → area < most_names → IsGood (line_of (turn_on area))
turn-on-good area few =
    let draws = record no_draws { process = area } in
    let is : text_with draws (codes "swapon P") ≡ line_of (turn_on area) = rw (decimal_digit area (omega (arith, few))) refl in
    good (turn_on area) (record { least = omega arith; most = omega (arith, few) }, tt)
    (short draws (codes "swapon P") (turn_on area) is refl (omega arith))

spawn-good : IsGood (line_of (commands.Spawn 1))
unfolding digits
spawn-good =
    good (commands.Spawn 1) (record { least = omega arith; most = omega arith })
    (short no_draws (codes "spawn 1") (commands.Spawn 1) refl refl (omega arith))

mmap-good : IsGood (line_of (commands.Mmap 1 65536 reads_and_writes (Fixed (address_of 0))))
unfolding digits
mmap-good =
    let c = commands.Mmap 1 65536 reads_and_writes (Fixed (address_of 0)) in
    good c (record { least = omega arith; most = omega arith }, omega arith, omega arith)
    (short no_draws (codes "mmap 1 65536 rw- fixed 10000000") c refl refl (omega arith))

good-turns : (a n : ℕ) (first drawn : List Command) → a + n ≤ most_names → AllByRecursion IsGood (map line_of (first ++ drawn)) →
    AllByRecursion IsGood (map line_of (map turn_on (range_with_len a n) ++ first ++ drawn))
good-turns a zero first drawn few others = others
good-turns a (suc n) first drawn few others =
    (turn-on-good a (omega (arith, few)), good-turns (a + 1) n first drawn (omega (arith, few)) others)

good-load : (areas seed lines : ℕ) → areas ≤ most_names → AllByRecursion IsGood (load_lines areas seed lines)
good-load areas seed lines few =
    good-turns 0 areas first_process (commands_from lines seed) (omega (arith, few)) (spawn-good, (mmap-good, good-drawn lines seed))

are-lines : (lines : List (List ℕ)) → AllByRecursion IsGood lines → AllByRecursion IsLine lines
are-lines [] all = tt
are-lines (line ∷ lines) all = (all.0.is_line, are-lines lines all.1)

pub load-lines : (areas seed lines : ℕ) → areas ≤ most_names → AllByRecursion IsLine (load_lines areas seed lines)
load-lines areas seed lines few = are-lines (load_lines areas seed lines) (good-load areas seed lines few)

-- ---- how many there are

drawn-count : (n x : ℕ) → length (commands_from n x) ≡ n
unfolding commands_from
drawn-count zero x = refl
drawn-count (suc n) x = ap suc (drawn-count n (after_line x))

pub load-count : (areas seed lines : ℕ) → length (load_lines areas seed lines) ≡ areas + 2 + lines
load-count areas seed lines =
    let first = first_commands areas in
    let drawn = commands_from lines seed in
    omega (
      arith,
      length-map (load areas seed lines) line_of,
      length-append first drawn,
      drawn-count lines seed,
      length-append (turn_on_commands areas) first_process,
      length-map-range_with_len turn_on 0 areas,
    )

-- ---- the whole

all-good : (lines : List (List ℕ)) → AllByRecursion IsGood lines → All IsGood lines
all-good [] all = All-nil IsGood
all-good (line ∷ lines) all = All-cons IsGood line lines all.0 (all-good lines all.1)

pub is-trace : (areas seed lines : ℕ) → areas ≤ most_names → lines ≤ most_load → IsTrace (all_lines (load_lines areas seed lines))
is-trace areas seed lines few short =
    let are : load_lines areas seed lines ≡ lines_of (all_lines (load_lines areas seed lines)) =
    same (load_lines areas seed lines) (load-lines areas seed lines few) in
    record {
      good = subst (λ (ls : List (List ℕ)). All IsGood ls) are (all-good (load_lines areas seed lines) (good-load areas seed lines few));
      few = omega (arith, ap length are, load-count areas seed lines, few, short);
    }
