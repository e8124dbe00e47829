-- What `run`, `audit` and `work` make of the words behind them.
use Rattle.std.proofs.Common.{◌≡◌, ◌∙◌, ℕ, ◌<◌, ◌≤◌, Bool, cond, true, false, refl, sym, ap, arith, List, [], ◌∷◌, length, Some, codes, nat_lt}
use Rattle.std.specs.List.{fold, list_all}
use Rattle.std.specs.Option.{option_map_or}
use Rattle.std.proofs.lemmas.Bool.{le-ltb, lt-ltb, true≢false}
use Rattle.clap.specs.Walk.{Held, Row, Rule, Text, Walk, arg_by_index, finished, nothing_held, positional_held, rows_after, settled, walk, walk_from, walked}
use Rattle.clap.specs.Simple.{Shape, built_leaf, filled, inherited, marked_built, with_index, with_leaf_noted}
use Rattle.clap.specs.Faults.{check_fault, defaults_fault, level_fault, positional_fault, settle_fault, stray_fault, turn_fault, walk_fault}
use Rattle.clap.specs.Kinds.{Kinds, or_else, range_kinds, values_kinds}
use Rattle.clap.specs.declared.builder.value_parser.ValueParser.TheVariants as vp
use Rattle.clap.specs.declared.error.kind.ErrorKind.{ErrorKind}
use Rattle.clap.specs.declared.error.kind.ErrorKind.TheVariants as kind
use Rattle.av_words.specs.Words.{is_name, most_names}
use Rattle.av_words.specs.Command.{frames_app, number_rule, program_app, work_app}
use Rattle.av_words.specs.Places.{row, rows_in, run, work}
use Rattle.av_words.proofs.Places.{at, both, holding, names_at, names_fault, turn_plain, walked_names, walked_plain}

-- the commands as the parser builds them
abbrev pub leaf : Shape → Shape
leaf s = built_leaf (inherited (with_leaf_noted (marked_built program_app.top)) s)

abbrev pub frames_leaf : Text → Shape
frames_leaf verb = leaf (frames_app verb).top

abbrev pub work_leaf : Shape
work_leaf = leaf work_app.top

abbrev number_at : Text → ℕ → Rule
number_at id place = with_index place (filled (number_rule id))

-- ---- faults

pub or_nil : (k : Kinds) → or_else k [] ≡ k
or_nil [] = refl
or_nil (x ∷ k) = refl

-- each text is a value
strings : (values : List Text) → values_kinds false vp.String values ≡ []
strings [] = refl
strings (v ∷ values) = strings values

-- so many names
range_is : (n : ℕ) → range_kinds 0 most_names n ≡ cond (nat_lt most_names n) (kind.TooManyValues ∷ []) []
range_is n = ap (λ b. cond b (kind.TooFewValues ∷ []) (cond (nat_lt most_names n) (kind.TooManyValues ∷ []) [])) (le-ltb n 0 (omega arith))

few_names : (n : ℕ) → n ≤ most_names → range_kinds 0 most_names n ≡ []
few_names n few = range_is n ∙ ap (λ b. cond b (kind.TooManyValues ∷ []) []) (le-ltb most_names n few)

many_names : (n : ℕ) → most_names < n → range_kinds 0 most_names n ≡ kind.TooManyValues ∷ []
many_names n many = range_is n ∙ ap (λ b. cond b (kind.TooManyValues ∷ []) []) (lt-ltb most_names n many)

-- what fails after a walk
abbrev end_fault : Shape → Held → Kinds
end_fault s h = or_else (settle_fault s.rules s.args_override_self h)
    (or_else (defaults_fault (settled s.rules h).rows s.rules) (check_fault s (finished s.rules h) false))

module _ (s : Shape) (words : List Text) (end : Walk) (walks : walk s.rules [] nothing_held words ≡ end) where
  leaf_fault : walk_fault s [] (walk_from nothing_held) words ≡ [] → level_fault s [] nothing_held words false [] ≡ end_fault s end.held
  leaf_fault passes =
      ap (λ k. or_else k (end_fault s (walk s.rules [] nothing_held words).held)) passes ∙ ap (λ (w : Walk). end_fault s w.held) walks

  leaf_rows : rows_after s.rules [] words ≡ finished s.rules end.held
  leaf_rows = ap (λ (w : Walk). finished s.rules w.held) walks

-- one word more
turn_then : (s : Shape) (w next : Walk) (word : Text) (rest : List Text) → turn_fault s [] w word ≡ [] → walked s.rules [] w word ≡ next
    → walk_fault s [] w (word ∷ rest) ≡ walk_fault s [] next rest
unfolding walk_fault
turn_then s w next word rest passes step =
    ap (λ k. or_else k (walk_fault s [] (walked s.rules [] w word) rest)) passes ∙ ap (λ (v : Walk). walk_fault s [] v rest) step

-- the command has no fault with the words, and has these rows of them
abbrev pub Fills : Shape → List Text → List Row → Type 0
Fills s words rows = (level_fault s [] nothing_held words false [] ≡ []) × (rows_after s.rules [] words ≡ rows)

-- it has some fault with them
abbrev pub Fails : Shape → List Text → Type 0
Fails s words = level_fault s [] nothing_held words false [] ≡ [] → ⊥

abbrev is_none : Kinds → Bool
is_none [] = true
is_none (x ∷ k) = false

pub not_none : (x : ErrorKind) (k faults : Kinds) → faults ≡ x ∷ k → faults ≡ [] → ⊥
not_none x k faults is none = true≢false (sym (ap is_none none) ∙ ap is_none is)

-- ---- names behind the numbers

-- after the last number, which waits to be used
module _ (s : Shape) (h : Held) (rows : List Row) (place : ℕ) (found : arg_by_index s.rules place ≡ Some (names_at place))
    (uses : (name : Text) → positional_held s.rules (names_at place) name h ≡ holding rows (codes "SWAP") (name ∷ []))
    (passes : positional_fault s.rules s.args_override_self (names_at place) h ≡ []) where
  first_walked : (name : Text) → is_name name ≡ true
      → walked s.rules [] (at false h place) name ≡ at true (holding rows (codes "SWAP") (name ∷ [])) place
  first_walked name e = walked_plain s false h place (names_at place) found name e ∙ ap (λ held. at true held place) (uses name)

  first_passes : (name : Text) → is_name name ≡ true → turn_fault s [] (at false h place) name ≡ []
  first_passes name e =
      turn_plain s false h place (names_at place) found name e
      ∙ ap (λ o. option_map_or (λ a. positional_fault s.rules s.args_override_self a h) o (stray_fault s)) found ∙ passes

  all_walked : (name : Text) (names : List Text) → is_name name ≡ true → list_all is_name names ≡ true
      → fold (walked s.rules []) (at false h place) (name ∷ names) ≡ at true (holding rows (codes "SWAP") (name ∷ names)) place
  all_walked name names e es =
      ap (λ (w : Walk). fold (walked s.rules []) w names) (first_walked name e) ∙ walked_names s rows place found (name ∷ []) names es

  all_pass : (name : Text) (names : List Text) → is_name name ≡ true → list_all is_name names ≡ true
      → walk_fault s [] (at false h place) (name ∷ names) ≡ []
  all_pass name names e es =
      turn_then s (at false h place) (at true (holding rows (codes "SWAP") (name ∷ [])) place) name names (first_passes name e) (first_walked name e)
      ∙ names_fault s rows place found (name ∷ []) names es

-- ---- run and audit

module _ (verb : Text) (frames : Text) (e : is_name frames ≡ true) where
  abbrev frames_rows : List Row
  frames_rows = row (codes "FRAMES") (frames ∷ []) ∷ []

  abbrev frames_held : Held
  frames_held = holding [] (codes "FRAMES") (frames ∷ [])

  only_step : walked (frames_leaf verb).rules [] (at false nothing_held 1) frames ≡ at false frames_held 2
  only_step = walked_plain (frames_leaf verb) false nothing_held 1 (number_at (codes "FRAMES") 1) refl frames e

  only_turn : turn_fault (frames_leaf verb) [] (at false nothing_held 1) frames ≡ []
  only_turn = turn_plain (frames_leaf verb) false nothing_held 1 (number_at (codes "FRAMES") 1) refl frames e

  frames_walked : (rest : List Text) → walk (frames_leaf verb).rules [] nothing_held (frames ∷ rest)
      ≡ fold (walked (frames_leaf verb).rules []) (at false frames_held 2) rest
  frames_walked rest = ap (λ (w : Walk). fold (walked (frames_leaf verb).rules []) w rest) only_step

  frames_passes : (rest : List Text)
      → walk_fault (frames_leaf verb) [] (walk_from nothing_held) (frames ∷ rest) ≡ walk_fault (frames_leaf verb) [] (at false frames_held 2) rest
  frames_passes rest = turn_then (frames_leaf verb) (at false nothing_held 1) (at false frames_held 2) frames rest only_turn only_step

  frames_end : (name : Text) (names : List Text)
      → end_fault (frames_leaf verb) (holding frames_rows (codes "SWAP") (name ∷ names)) ≡ range_kinds 0 most_names (length (name ∷ names))
  unfolding defaults_fault
  frames_end name names =
      let range = range_kinds 0 most_names (length (name ∷ names)) in
      ap (λ k. or_else (or_else range k) []) (strings names) ∙ or_nil (or_else range []) ∙ or_nil range

  module _ (name : Text) (names : List Text) (n : is_name name ≡ true) (ns : list_all is_name names ≡ true) where
    frames_names : walk (frames_leaf verb).rules [] nothing_held (frames ∷ name ∷ names) ≡ at true (holding frames_rows (codes "SWAP") (name ∷ names)) 2
    frames_names = frames_walked (name ∷ names) ∙ all_walked (frames_leaf verb) frames_held frames_rows 2 refl (λ x. refl) refl name names n ns

    frames_fault : level_fault (frames_leaf verb) [] nothing_held (frames ∷ name ∷ names) false [] ≡ range_kinds 0 most_names (length (name ∷ names))
    frames_fault =
        leaf_fault (frames_leaf verb) (frames ∷ name ∷ names) _ frames_names
        (frames_passes (name ∷ names) ∙ all_pass (frames_leaf verb) frames_held frames_rows 2 refl (λ x. refl) refl name names n ns) ∙ frames_end name names

  pub frames_fills : (names : List Text) → list_all is_name names ≡ true → length names ≤ most_names
      → Fills (frames_leaf verb) (frames ∷ names) (rows_in (run frames names))
  unfolding defaults_fault walk_fault
  frames_fills [] es few = (
    leaf_fault (frames_leaf verb) (frames ∷ []) _ (frames_walked []) (frames_passes []),
    leaf_rows (frames_leaf verb) (frames ∷ []) _ (frames_walked []),
  )
  frames_fills (name ∷ names) es few =
      let parts = both _ _ es in (
        frames_fault name names parts.0 parts.1 ∙ few_names _ few,
        leaf_rows (frames_leaf verb) (frames ∷ name ∷ names) _ (frames_names name names parts.0 parts.1),
      )

  pub frames_many : (names : List Text) → list_all is_name names ≡ true → most_names < length names → Fails (frames_leaf verb) (frames ∷ names)
  frames_many [] es many = absurd (omega arith)
  frames_many (name ∷ names) es many =
      let parts = both _ _ es in
      not_none kind.TooManyValues [] _ (frames_fault name names parts.0 parts.1 ∙ many_names _ many)

pub frames_bare : (verb : Text) → Fails (frames_leaf verb) []
unfolding defaults_fault walk_fault
frames_bare verb none = not_none kind.MissingRequiredArgument [] _ refl none

-- ---- work

module _ (seed : Text) (e : is_name seed ≡ true) where
  abbrev seed_held : Held
  seed_held = holding [] (codes "SEED") (seed ∷ [])

  seed_step : walked work_leaf.rules [] (at false nothing_held 1) seed ≡ at false seed_held 2
  seed_step = walked_plain work_leaf false nothing_held 1 (number_at (codes "SEED") 1) refl seed e

  seed_turn : turn_fault work_leaf [] (at false nothing_held 1) seed ≡ []
  seed_turn = turn_plain work_leaf false nothing_held 1 (number_at (codes "SEED") 1) refl seed e

  seed_walked : (rest : List Text) → walk work_leaf.rules [] nothing_held (seed ∷ rest) ≡ fold (walked work_leaf.rules []) (at false seed_held 2) rest
  seed_walked rest = ap (λ (w : Walk). fold (walked work_leaf.rules []) w rest) seed_step

  seed_passes : (rest : List Text)
      → walk_fault work_leaf [] (walk_from nothing_held) (seed ∷ rest) ≡ walk_fault work_leaf [] (at false seed_held 2) rest
  seed_passes rest = turn_then work_leaf (at false nothing_held 1) (at false seed_held 2) seed rest seed_turn seed_step

  pub work_one : Fails work_leaf (seed ∷ [])
  unfolding defaults_fault walk_fault
  work_one = not_none kind.MissingRequiredArgument [] _ (leaf_fault work_leaf (seed ∷ []) _ (seed_walked []) (seed_passes []))

  module _ (lines : Text) (f : is_name lines ≡ true) where
    abbrev lines_held : Held
    lines_held = holding (row (codes "SEED") (seed ∷ []) ∷ []) (codes "LINES") (lines ∷ [])

    lines_step : walked work_leaf.rules [] (at false seed_held 2) lines ≡ at false lines_held 3
    lines_step = walked_plain work_leaf false seed_held 2 (number_at (codes "LINES") 2) refl lines f

    lines_turn : turn_fault work_leaf [] (at false seed_held 2) lines ≡ []
    lines_turn = turn_plain work_leaf false seed_held 2 (number_at (codes "LINES") 2) refl lines f

    lines_walked : (rest : List Text)
        → walk work_leaf.rules [] nothing_held (seed ∷ lines ∷ rest) ≡ fold (walked work_leaf.rules []) (at false lines_held 3) rest
    lines_walked rest = seed_walked (lines ∷ rest) ∙ ap (λ (w : Walk). fold (walked work_leaf.rules []) w rest) lines_step

    lines_passes : (rest : List Text)
        → walk_fault work_leaf [] (walk_from nothing_held) (seed ∷ lines ∷ rest) ≡ walk_fault work_leaf [] (at false lines_held 3) rest
    lines_passes rest = seed_passes (lines ∷ rest)
        ∙ turn_then work_leaf (at false seed_held 2) (at false lines_held 3) lines rest lines_turn lines_step

    pub work_two : Fails work_leaf (seed ∷ lines ∷ [])
    unfolding defaults_fault walk_fault
    work_two = not_none kind.MissingRequiredArgument [] _ (leaf_fault work_leaf (seed ∷ lines ∷ []) _ (lines_walked []) (lines_passes []))

    module _ (frames : Text) (g : is_name frames ≡ true) where
      abbrev work_rows : List Row
      work_rows = row (codes "SEED") (seed ∷ []) ∷ row (codes "LINES") (lines ∷ []) ∷ row (codes "FRAMES") (frames ∷ []) ∷ []

      abbrev work_held : Held
      work_held = holding (row (codes "SEED") (seed ∷ []) ∷ row (codes "LINES") (lines ∷ []) ∷ []) (codes "FRAMES") (frames ∷ [])

      frames_step : walked work_leaf.rules [] (at false lines_held 3) frames ≡ at false work_held 4
      frames_step = walked_plain work_leaf false lines_held 3 (number_at (codes "FRAMES") 3) refl frames g

      frames_turn : turn_fault work_leaf [] (at false lines_held 3) frames ≡ []
      frames_turn = turn_plain work_leaf false lines_held 3 (number_at (codes "FRAMES") 3) refl frames g

      work_walked : (rest : List Text)
          → walk work_leaf.rules [] nothing_held (seed ∷ lines ∷ frames ∷ rest) ≡ fold (walked work_leaf.rules []) (at false work_held 4) rest
      work_walked rest = lines_walked (frames ∷ rest) ∙ ap (λ (w : Walk). fold (walked work_leaf.rules []) w rest) frames_step

      work_passes : (rest : List Text)
          → walk_fault work_leaf [] (walk_from nothing_held) (seed ∷ lines ∷ frames ∷ rest) ≡ walk_fault work_leaf [] (at false work_held 4) rest
      work_passes rest = lines_passes (frames ∷ rest)
          ∙ turn_then work_leaf (at false lines_held 3) (at false work_held 4) frames rest frames_turn frames_step

      work_end : (name : Text) (names : List Text)
          → end_fault work_leaf (holding work_rows (codes "SWAP") (name ∷ names)) ≡ range_kinds 0 most_names (length (name ∷ names))
      unfolding defaults_fault
      work_end name names =
          let range = range_kinds 0 most_names (length (name ∷ names)) in
          ap (λ k. or_else (or_else range k) []) (strings names) ∙ or_nil (or_else range []) ∙ or_nil range

      module _ (name : Text) (names : List Text) (n : is_name name ≡ true) (ns : list_all is_name names ≡ true) where
        work_names : walk work_leaf.rules [] nothing_held (seed ∷ lines ∷ frames ∷ name ∷ names) ≡ at true
            (holding work_rows (codes "SWAP") (name ∷ names)) 4
        work_names = work_walked (name ∷ names) ∙ all_walked work_leaf work_held work_rows 4 refl (λ x. refl) refl name names n ns

        work_fault : level_fault work_leaf [] nothing_held (seed ∷ lines ∷ frames ∷ name ∷ names) false [] ≡ range_kinds 0 most_names
            (length (name ∷ names))
        work_fault =
            leaf_fault work_leaf (seed ∷ lines ∷ frames ∷ name ∷ names) _ work_names
            (work_passes (name ∷ names) ∙ all_pass work_leaf work_held work_rows 4 refl (λ x. refl) refl name names n ns) ∙ work_end name names

      pub work_fills : (names : List Text) → list_all is_name names ≡ true → length names ≤ most_names
          → Fills work_leaf (seed ∷ lines ∷ frames ∷ names) (rows_in (work seed lines frames names))
      unfolding defaults_fault walk_fault
      work_fills [] es few = (
        leaf_fault work_leaf (seed ∷ lines ∷ frames ∷ []) _ (work_walked []) (work_passes []),
        leaf_rows work_leaf (seed ∷ lines ∷ frames ∷ []) _ (work_walked []),
      )
      work_fills (name ∷ names) es few =
          let parts = both _ _ es in (
            work_fault name names parts.0 parts.1 ∙ few_names _ few,
            leaf_rows work_leaf (seed ∷ lines ∷ frames ∷ name ∷ names) _ (work_names name names parts.0 parts.1),
          )

      pub work_many : (names : List Text) → list_all is_name names ≡ true → most_names < length names
          → Fails work_leaf (seed ∷ lines ∷ frames ∷ names)
      work_many [] es many = absurd (omega arith)
      work_many (name ∷ names) es many =
          let parts = both _ _ es in
          not_none kind.TooManyValues [] _ (work_fault name names parts.0 parts.1 ∙ many_names _ many)

pub work_bare : Fails work_leaf []
unfolding defaults_fault walk_fault
work_bare none = not_none kind.MissingRequiredArgument [] _ refl none
