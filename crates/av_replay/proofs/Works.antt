-- The lines of a load, one after the other.
use Rattle.std.proofs.Common.{◌≡◌, ℕ, Bool, suc, zero, ◌+◌, ◌-◌, ◌*◌, ◌<◌, ◌≤◌, List, [], take, drop, ◌∷◌, ◌++◌, map, refl, sym, ap, ◌∙◌, arith, append_assoc}
use Rattle.std.proofs.Common.{false, true, length, length-append}
use Rattle.std.specs.Prelude.{codes, ◌==◌}
use Rattle.std.proofs.lemmas.Bool.{eqb-true}
use Rattle.std.proofs.lemmas.List.{length-drop, map-append, take-append-drop, take_all}
use Rattle.std.specs.Fmt.{digits}
use Rattle.av_trace.specs.Command.{line_of}
use Rattle.av_trace.specs.declared.command.Command.{Command}
use Rattle.av_replay.specs.Replay.{all_lines}
use Rattle.av_replay.specs.Template.{text_with, glyph, left_of, no_draws}
use Rattle.av_words.specs.Words.{most_names}
use Rattle.av_replay.specs.Work.{after_line, command_of, commands_from, commands_left, draws_of, first_process, load_lines, turn_on_commands}
use Rattle.av_replay.specs.declared.draws.Draws.{Draws}

-- the text of commands, a line each
abbrev pub text : List Command → List ℕ
text cs = all_lines (map line_of cs)

pub text-append : (cs ds : List Command) → text (cs ++ ds) ≡ text cs ++ text ds
text-append [] ds = refl
text-append (c ∷ cs) ds = ap (λ (t : List ℕ). (line_of c ++ 10 ∷ []) ++ t) (text-append cs ds)
    ∙ sym (append_assoc (line_of c ++ 10 ∷ []) (text cs) (text ds))

made : (n x : ℕ) → 0 < n → text (command_of (draws_of x) ∷ commands_from (n - 1) (after_line x)) ≡ text (commands_from n x)
unfolding commands_from
made zero x some = absurd (omega (arith, some))
made (suc n) x some = let e : suc n - 1 ≡ n = omega arith in rw e refl

-- nothing is left of a line, the next one is made, and the others are left
pub next-line : (n x x' : ℕ) (d : Draws) (template : List ℕ) (d0 : Draws) (rest : List ℕ) (is_begun : Bool) → is_begun ≡ true → 0 < n →
    d ≡ draws_of x → x' ≡ after_line x → text_with d template ≡ line_of (command_of d) ++ 10 ∷ [] → rest ≡ [] →
    left_of d template is_begun (n - 1) x' ≡ left_of d0 rest is_begun n x
next-line n x x' d template d0 rest is_begun begun some drew after is none = rw (begun, is, none, drew, after) (made n x some)

process-text : (d : Draws) → text_with d (codes "spawn 1\nmmap 1 65536 rw- fixed 10000000\n") ≡ text first_process
unfolding digits
process-text d = refl

-- nothing is left of the lines that turn on swap areas, and those of the first process are made
pub process-begins : (n x : ℕ) (d : Draws) (rest : List ℕ) (is_begun : Bool) → is_begun ≡ false → rest ≡ [] →
    left_of d (codes "spawn 1\nmmap 1 65536 rw- fixed 10000000\n") true n x ≡ left_of d rest is_begun n x
process-begins n x d rest is_begun not none =
    rw (not, none) (ap (λ (t : List ℕ). t ++ text (commands_from n x)) (process-text d) ∙ sym (text-append first_process (commands_from n x)))

pub no-bytes : (bytes : List ℕ) → (length bytes == 0) ≡ true → bytes ≡ []
no-bytes [] e = refl
no-bytes (b ∷ bytes) e = absurd (omega (arith, eqb-true _ _ e))

pub no_length : (bytes : List ℕ) → length bytes ≡ 0 → bytes ≡ []
no_length [] e = refl
no_length (b ∷ bytes) e = absurd (omega (arith, e))

-- a line has a byte
pub not-empty : (d : Draws) (template line : List ℕ) → template ≡ [] → text_with d template ≡ line ++ 10 ∷ [] → ⊥
not-empty d template line none is =
    let lengths : 0 ≡ length line + 1 = ap (λ (t : List ℕ). length (text_with d t)) (sym none) ∙ ap length is ∙ length-append line (10 ∷ []) in
    omega (arith, lengths)

-- bytes are taken from the front of what is left
taken : (n : ℕ) (d : Draws) (rest : List ℕ) (begun : Bool) (lines x : ℕ) → n ≤ length rest →
    left_of d rest begun lines x ≡ text_with d (take n rest) ++ left_of d (take (length rest - n) (drop n rest)) begun lines x
taken n d rest begun lines x few =
    let others = text (commands_left begun lines x) in
    let behind : take (length rest - n) (drop n rest) ≡ drop n rest = take_all (length rest - n) (drop n rest) (omega (arith, length-drop n rest)) in
    ap (λ (r : List ℕ). left_of d r begun lines x) (sym (take-append-drop n rest))
    ∙ ap (λ (t : List ℕ). t ++ others) (map-append (glyph d) (take n rest) (drop n rest))
    ∙ append_assoc (text_with d (take n rest)) (text_with d (drop n rest)) others
    ∙ ap (λ (r : List ℕ). text_with d (take n rest) ++ left_of d r begun lines x) (sym behind)

pub taken_as : (n : ℕ) (d : Draws) (rest : List ℕ) (begun : Bool) (lines x : ℕ) (front : List ℕ) → n ≤ length rest →
    front ≡ text_with d (take n rest) → left_of d rest begun lines x ≡ front ++ left_of d (take (length rest - n) (drop n rest)) begun lines x
taken_as n d rest begun lines x front few is = rw (is) (taken n d rest begun lines x few)

-- nothing is left
pub ended : (n : ℕ) (d : Draws) (rest : List ℕ) (begun : Bool) (lines x : ℕ) → n ≡ 0 → rest ≡ [] → (begun ≡ true) × (lines ≡ 0) →
    left_of d (take (length rest - n) (drop n rest)) begun lines x ≡ []
unfolding commands_from
ended n d rest begun lines x nothing none end = rw (nothing, none, end.0, end.1) refl

-- ---- the first lines

-- so many of the lines that turn on swap areas, nine bytes each
pub turned-on : (areas : ℕ) → areas ≤ most_names →
    text_with no_draws (take (areas * 9) (codes "swapon 0\nswapon 1\nswapon 2\nswapon 3\nswapon 4\nswapon 5\nswapon 6\nswapon 7\n")) ≡ text
    (turn_on_commands areas)
unfolding digits
turned-on zero few = refl
turned-on (suc zero) few = refl
turned-on (suc (suc zero)) few = refl
turned-on (suc (suc (suc zero))) few = refl
turned-on (suc (suc (suc (suc zero)))) few = refl
turned-on (suc (suc (suc (suc (suc zero))))) few = refl
turned-on (suc (suc (suc (suc (suc (suc zero)))))) few = refl
turned-on (suc (suc (suc (suc (suc (suc (suc zero))))))) few = refl
turned-on (suc (suc (suc (suc (suc (suc (suc (suc zero)))))))) few = refl
turned-on (suc (suc (suc (suc (suc (suc (suc (suc (suc n))))))))) few = absurd (omega (arith, few))

-- with them all that is to be read of a load is left
pub whole-load : (areas seed lines : ℕ) (rest : List ℕ) → text_with no_draws rest ≡ text (turn_on_commands areas) →
    left_of no_draws rest false lines seed ≡ all_lines (load_lines areas seed lines)
whole-load areas seed lines rest is =
    let turns = turn_on_commands areas in
    let drawn = commands_from lines seed in
    ap (λ (t : List ℕ). t ++ text (first_process ++ drawn)) is ∙ sym (text-append turns (first_process ++ drawn))
    ∙ ap text (sym (append_assoc turns first_process drawn))
