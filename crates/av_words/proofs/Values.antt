-- What the getters of the matches read.
use Rattle.std.proofs.Common.{◌≡◌, ◌∙◌, Bool, true, false, Result, Err, sym, subst, ap, List, [], map, Option, Some, None, true≢false}
use Rattle.std.specs.Option.{IfNone, IfSome, option_map, unwrap_or, is_some}
use Rattle.std.specs.Result.{IsErrAnd}
use Rattle.std.specs.Borrow.{Bor}
use Rattle.clap.specs.Words.{Text, all_of, first_of, first_value, found_of, matched_of, raw_values, rows_of, subcommand_name_of, subcommand_rows}
use Rattle.clap.specs.Words.{subcommand_rows_of, Row}
use Rattle.clap.specs.declared.parser.matches.Found.{Found}
use Rattle.clap.specs.declared.parser.matches.ArgMatches.{ArgMatches}
use Rattle.clap.specs.declared.parser.matches.ArgMatches.TheViews.{out-ArgMatches, out-SubCommand}
use Rattle.clap.specs.declared.parser.matches.SubCommand.{SubCommand}
use Rattle.std.specs.Box.{box_value}
use Rattle.std.proofs.Common.{refl, Global}
use Rattle.std.specs.Prelude.{Box}
use Rattle.av_words.specs.declared.words.WordsErr.{WordsErr}
use Rattle.av_words.specs.declared.words.WordsErr.TheVariants as errors
use Rattle.clap.proofs.WalkLemmas.{first_value-rows, raw_values-rows}

pub some≢none : {X : Type 0} (x : X) → Some x ≡ None → ⊥
some≢none x e = true≢false (ap is_some e)

pub some_same : {t u : Text} → Some t ≡ Some u → t ≡ u
some_same e = ap (λ o. unwrap_or o []) e

pub IfNone_then : {X : Type 0} (r : Option X) {P Q : Type 0} → IfNone r P → (P → Q) → IfNone r Q
IfNone_then None p f = f p
IfNone_then (Some x) p f = p

pub IsErrAnd_at : {T E : Type 0} (P : E → Type 0) (r : Result T E) (e : E) → r ≡ Err e → IsErrAnd r P → P e
IsErrAnd_at P r e is h = subst (λ q. IsErrAnd q P) is h

pub IfSome_at : {X : Type 0} (P : X → Type 0) (r : Option X) (x : X) → r ≡ Some x → IfSome r P → P x
IfSome_at P r x is h = subst (λ q. IfSome q P) is h

abbrev is_usage : WordsErr → Bool
is_usage errors.Usage = true
is_usage errors.Memory = false

pub usage≢memory : errors.Usage ≡ errors.Memory → ⊥
usage≢memory e = true≢false (ap is_usage e)

module _ (f : Found) (id : Text) where
  pub value_is : (got : Option (Bor Text)) (s : Bor Text) → option_map (λ t. t.now) got ≡ first_value f id → got ≡ Some s
      → first_of id (rows_of f) ≡ Some s.now
  value_is got s read is = sym (first_value-rows f id) ∙ sym read ∙ ap (option_map (λ t. t.now)) is

  pub no_value : (got : Option (Bor Text)) (t : Text) → option_map (λ t. t.now) got ≡ first_value f id → got ≡ None
      → first_of id (rows_of f) ≡ Some t → ⊥
  no_value got t read is v = some≢none t (sym v ∙ sym (first_value-rows f id) ∙ sym read ∙ ap (option_map (λ t. t.now)) is)

  pub all_are : (got : Option (Bor (List (Bor Text)))) → option_map (λ s. map (λ v. v.now) s.now) got ≡ option_map raw_values (matched_of f id)
      → all_of id (rows_of f) ≡ option_map (λ s. map (λ v. v.now) s.now) got
  all_are got read = sym (read ∙ raw_values-rows f id)

name_in : (m : ArgMatches) → subcommand_name_of m ≡ option_map (λ p. p.0) (subcommand_rows_of m)
name_in m = go (out-ArgMatches m).subcommand
  where
    go : (s : Option (Box SubCommand Global))
        → option_map (λ b. (out-SubCommand (box_value b)).name.now) s ≡ option_map (λ p. p.0) (subcommand_rows s)
    go None = refl
    go (Some b) = refl

paired : (o : Option (Text × List Row)) (a : Text) (b : List Row) → option_map (λ p. p.0) o ≡ Some a → option_map (λ p. p.1) o ≡ Some b
    → o ≡ Some (a, b)
paired None a b e f = absurd (some≢none a (sym e))
paired (Some x) a b e f = λ i. Some (some_same e i, ap (λ rows. unwrap_or rows b) f i)

-- what the matches found, where a getter gave a subcommand
pub entered_is : (m : ArgMatches) (got : Option (Bor Text × Bor ArgMatches)) (verb : Bor Text) (values : Bor ArgMatches) → got ≡ Some (verb, values)
    → option_map (λ p. p.0.now) got ≡ subcommand_name_of m
    → option_map (λ p. rows_of (found_of p.1.now)) got ≡ option_map (λ p. p.1) (subcommand_rows_of m)
    → subcommand_rows_of m ≡ Some (verb.now, rows_of (found_of values.now))
entered_is m got verb values is name rows = paired (subcommand_rows_of m) verb.now (rows_of (found_of values.now))
    (sym (name_in m) ∙ sym name ∙ ap (option_map (λ p. p.0.now)) is) (sym rows ∙ ap (option_map (λ p. rows_of (found_of p.1.now))) is)

-- where it gave none
pub none_entered : (m : ArgMatches) (got : Option (Bor Text × Bor ArgMatches)) (x : Text × List Row) → got ≡ None
    → option_map (λ p. p.0.now) got ≡ subcommand_name_of m → subcommand_rows_of m ≡ Some x → ⊥
none_entered m got x is name some =
    some≢none x.0 (ap (option_map (λ p. p.0)) (sym some) ∙ sym (name_in m) ∙ sym name ∙ ap (option_map (λ p. p.0.now)) is)
