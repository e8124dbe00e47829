-- What the parser makes of words: their verb, and under its name each number, and the names of swap
-- areas.
use Rattle.std.specs.Prelude.{◌≡◌, ℕ, ◌≤◌, List, [], ◌∷◌, Option, Some, None, codes, length}
use Rattle.std.specs.Fmt.{decimal}
use Rattle.clap.specs.Walk.{Row, Text, first_of}
use Rattle.clap.specs.declared.builder.value_parser.Reading.TheVariants.{AsWritten}
use Rattle.clap.specs.declared.parser.matches.ValueSource.TheVariants.{CommandLine}
use Rattle.av_words.specs.Words.{IsInRange, most_names}
use Rattle.av_words.specs.declared.words.Asked.{Asked}
use Rattle.av_words.specs.declared.words.Asked.TheVariants as asked

-- words by the places of a command
pub data Split : Type 0 where
  run : Text → List Text → Split
  work : Text → Text → Text → List Text → Split
  audit : Text → List Text → Split

abbrev pub words_in : Split → List Text
words_in (run frames names) = codes "run" ∷ frames ∷ names
words_in (work seed lines frames names) = codes "work" ∷ seed ∷ lines ∷ frames ∷ names
words_in (audit frames names) = codes "audit" ∷ frames ∷ names

abbrev pub names_in : Split → List Text
names_in (run frames names) = names
names_in (work seed lines frames names) = names
names_in (audit frames names) = names

abbrev pub verb_in : Split → Text
verb_in (run frames names) = codes "run"
verb_in (work seed lines frames names) = codes "work"
verb_in (audit frames names) = codes "audit"

-- the values that words gave an argument
abbrev pub row : Text → List Text → Row
row id values = record {
  id = id;
  values = values;
  count = None;
  source = Some CommandLine;
  reading = AsWritten;
}

abbrev pub name_rows : List Text → List Row
name_rows [] = []
name_rows (name ∷ names) = row (codes "SWAP") (name ∷ names) ∷ []

abbrev pub rows_in : Split → List Row
rows_in (run frames names) = row (codes "FRAMES") (frames ∷ []) ∷ name_rows names
rows_in (work seed lines frames names) =
    row (codes "SEED") (seed ∷ []) ∷ row (codes "LINES") (lines ∷ [])
    ∷ row (codes "FRAMES") (frames ∷ []) ∷ name_rows names
rows_in (audit frames names) = row (codes "FRAMES") (frames ∷ []) ∷ name_rows names

-- the words fill the places of a command, with no more names than there may be
pub record IsSplit (words : List Text) (split : Split) : Type 0 where
  pub words_are : words ≡ words_in split
  pub few : length (names_in split) ≤ most_names

-- the parser found these words' verb and values
pub record IsParsed (words : List Text) (found : Option (Text × List Row)) : Type 0 where
  pub split : Split
  pub is_split : IsSplit words split
  pub found_is : found ≡ Some (verb_in split, rows_in split)

-- the words fill the places of no command
abbrev pub HasNoSplit : List Text → Type 0
HasNoSplit words = (split : Split) → IsSplit words split → ⊥

-- a value is this number
abbrev pub IsValue : Text → List Row → ℕ → Type 0
IsValue id rows n = first_of id rows ≡ Some (decimal n)

-- a verb and values ask for this
abbrev pub HasValues : Text → List Row → Asked → Type 0
HasValues verb rows (asked.Run frames) =
    (verb ≡ codes "run") × IsValue (codes "FRAMES") rows frames
HasValues verb rows (asked.Work seed lines frames) =
    (verb ≡ codes "work") × IsValue (codes "SEED") rows seed
    × IsValue (codes "LINES") rows lines × IsValue (codes "FRAMES") rows frames
HasValues verb rows (asked.Audit frames) =
    (verb ≡ codes "audit") × IsValue (codes "FRAMES") rows frames

abbrev pub IsAskedBy : Text → List Row → Asked → Type 0
IsAskedBy verb rows demand = HasValues verb rows demand × IsInRange demand
