-- What a command of positional arguments makes of words that are no flags: each goes to the argument
-- whose place it has.
use Rattle.std.proofs.Common.{◌≡◌, ◌∙◌, ℕ, ◌==◌, Bool, ◌&&◌, not, cond, true, false, refl, sym, ap, List, [], ◌∷◌, ◌++◌, Some, None, append-nil, append_assoc}
use Rattle.std.proofs.Common.{codes}
use Rattle.std.specs.List.{fold, list_all}
use Rattle.std.specs.Option.{option_map_or}
use Rattle.std.specs.Str.{bytes_eq}
use Rattle.std.proofs.lemmas.Bool.{true≢false}
use Rattle.clap.specs.Lexer.{long_of, short_of}
use Rattle.clap.specs.Walk.{Held, Row, Rule, Step, Text, Walk, Waiting, after_step, arg_by_index, idle, long_or_other, positional, short_or_plain}
use Rattle.clap.specs.Walk.{subcommand_or_other, to_positional, trailing, value, walked, word_met}
use Rattle.clap.specs.Simple.{Shape, filled, with_index}
use Rattle.clap.specs.Faults.{bundle_fault, flag_word_fault, other_fault, positional_fault, step_fault, stray_fault, turn_fault, walk_fault, word_fault}
use Rattle.clap.specs.Kinds.{or_else}
use Rattle.av_words.specs.Words.{is_name}
use Rattle.av_words.specs.Command.{names_rule}

pub not_true : (b : Bool) → not b ≡ true → b ≡ false
not_true false e = refl
not_true true e = absurd (true≢false (sym e))

pub both : (a b : Bool) → (a && b) ≡ true → (a ≡ true) × (b ≡ true)
both true b e = (refl, e)
both false b e = absurd (true≢false (sym e))

-- two words of which one is written out
pub other_verb : (a b : Text) → bytes_eq a b ≡ false → a ≡ b → bytes_eq a a ≡ true → ⊥
other_verb a b differ same itself = true≢false (sym itself ∙ ap (bytes_eq a) same ∙ differ)

-- ---- a word that is no flag

no_dashes : (word : Text) → is_name word ≡ true → bytes_eq word (45 ∷ 45 ∷ []) ≡ false
no_dashes [] e = refl
no_dashes (b ∷ word) e = let no : (b == 45) ≡ false = not_true _ e in rw no refl

no_long : (word : Text) → is_name word ≡ true → long_of word ≡ None
no_long [] e = refl
no_long (b ∷ word) e = let no : (b == 45) ≡ false = not_true _ e in rw no refl

no_short : (word : Text) → is_name word ≡ true → short_of word ≡ None
no_short [] e = refl
no_short (b ∷ word) e = let no : (b == 45) ≡ false = not_true _ e in rw no refl

-- between two words, where no option waits and no `--` was met
abbrev pub waiting_as : Bool → Waiting
waiting_as true = positional
waiting_as false = idle

abbrev pub at : Bool → Held → ℕ → Walk
at several h place =
    record { held = h; waiting = waiting_as several; position = place; is_trailing = false; stopped = None }

-- it is a value
pub other_plain : (c : List Rule) (several : Bool) (place : ℕ) (h : Held) (word : Text) → is_name word ≡ true
    → subcommand_or_other c None (waiting_as several) place word h ≡ (h, value)
other_plain c true place h word e =
    ap (λ t. cond t (h, trailing place) (long_or_other c positional word (long_of word) h)) (no_dashes word e)
    ∙ ap (λ o. long_or_other c positional word o h) (no_long word e) ∙ ap (λ o. short_or_plain c positional word o h) (no_short word e)
other_plain c false place h word e =
    ap (λ t. cond t (h, trailing place) (long_or_other c idle word (long_of word) h)) (no_dashes word e)
    ∙ ap (λ o. long_or_other c idle word o h) (no_long word e) ∙ ap (λ o. short_or_plain c idle word o h) (no_short word e)

pub no_other_fault : (s : Shape) (h : Held) (word : Text) → is_name word ≡ true → other_fault s None word h ≡ []
no_other_fault s h word e =
    ap (λ t. cond t [] (flag_word_fault s.rules s.args_override_self (long_of word) word h)) (no_dashes word e)
    ∙ ap (λ o. flag_word_fault s.rules s.args_override_self o word h) (no_long word e)
    ∙ ap (λ o. option_map_or (λ flags. bundle_fault s.rules s.args_override_self flags h) o []) (no_short word e)

-- of a command without subcommands
met_plain : (c : List Rule) (several : Bool) (place : ℕ) (h : Held) (word : Text) → is_name word ≡ true
    → word_met c [] false (waiting_as several) place word h ≡ (h, value)
met_plain c true place h word e = other_plain c true place h word e
met_plain c false place h word e = other_plain c false place h word e

plain_fault : (s : Shape) (several : Bool) (h : Held) (word : Text) → is_name word ≡ true → word_fault s [] false (waiting_as several) word h ≡ []
plain_fault s true h word e = no_other_fault s h word e
plain_fault s false h word e = no_other_fault s h word e

-- it goes to the argument of the place
module _ (s : Shape) (several : Bool) (h : Held) (place : ℕ) (a : Rule) (found : arg_by_index s.rules place ≡ Some a) where
  pub walked_plain : (word : Text) → is_name word ≡ true
      → walked s.rules [] (at several h place) word ≡ to_positional s.rules (Some a) word (at several h place) h
  unfolding walked
  walked_plain word e =
      ap (λ (met : Held × _). after_step s.rules word (at several h place) met.0 met.1) (met_plain s.rules several place h word e)
      ∙ ap (λ o. to_positional s.rules o word (at several h place) h) found

  pub turn_plain : (word : Text) → is_name word ≡ true → turn_fault s [] (at several h place) word ≡ step_fault s place h value
  turn_plain word e =
      let met = word_met s.rules [] false (waiting_as several) place word h in
      ap (λ k. or_else k (step_fault s place met.0 met.1)) (plain_fault s several h word e)
      ∙ ap (λ (m : Held × Step). step_fault s place m.0 m.1) (met_plain s.rules several place h word e)

-- ---- the names, which all go to the last argument

-- an argument for names at this place, in a command that is built
abbrev pub names_at : ℕ → Rule
names_at place = with_index place (filled names_rule)

abbrev pub holding : List Row → Text → List Text → Held
holding rows id values = record { rows = rows; pending = Some (id, values); skip = 0 }

module _ (s : Shape) (rows : List Row) (place : ℕ) (found : arg_by_index s.rules place ≡ Some (names_at place)) where
  pub walked_names : (values names : List Text) → list_all is_name names ≡ true
      → fold (walked s.rules []) (at true (holding rows (codes "SWAP") values) place) names ≡ at true
      (holding rows (codes "SWAP") (values ++ names)) place
  walked_names values [] e = ap (λ vs. at true (holding rows (codes "SWAP") vs) place) (sym (append-nil values))
  walked_names values (name ∷ names) e =
      let parts = both _ _ e in
      ap (λ (w : Walk). fold (walked s.rules []) w names)
      (walked_plain s true (holding rows (codes "SWAP") values) place (names_at place) found name parts.0)
      ∙ walked_names (values ++ name ∷ []) names parts.1
      ∙ ap (λ vs. at true (holding rows (codes "SWAP") vs) place) (append_assoc values (name ∷ []) names)

  turn_name : (values : List Text) (name : Text) → is_name name ≡ true
      → turn_fault s [] (at true (holding rows (codes "SWAP") values) place) name ≡ []
  turn_name values name e =
      let h = holding rows (codes "SWAP") values in
      turn_plain s true h place (names_at place) found name e
      ∙ ap (λ o. option_map_or (λ a. positional_fault s.rules s.args_override_self a h) o (stray_fault s)) found

  pub names_fault : (values names : List Text) → list_all is_name names ≡ true
      → walk_fault s [] (at true (holding rows (codes "SWAP") values) place) names ≡ []
  unfolding walk_fault
  names_fault values [] e = refl
  names_fault values (name ∷ names) e =
      let parts = both _ _ e in
      let h = holding rows (codes "SWAP") values in
      ap (λ k. or_else k (walk_fault s [] (walked s.rules [] (at true h place) name) names)) (turn_name values name parts.0)
      ∙ ap (λ (w : Walk). walk_fault s [] w names) (walked_plain s true h place (names_at place) found name parts.0)
      ∙ names_fault (values ++ name ∷ []) names parts.1
