-- Which words the parser takes, and what it finds in them, where no word is a flag.
use Rattle.std.proofs.Common.{◌≡◌, ◌⊎◌, ◌∙◌, ◌+◌, ◌<◌, ◌≤◌, Bool, ◌||◌, cond, true, false, inl, inr, refl, sym, subst, ap, ap₂, arith, List, [], ◌∷◌, length}
use Rattle.std.proofs.Common.{Some, None, codes, is_some}
use Rattle.std.specs.List.{fold, list_all}
use Rattle.std.specs.Option.{option_map}
use Rattle.std.specs.Str.{bytes_eq}
use Rattle.std.proofs.lemmas.Bool.{cases_lt}
use Rattle.std.proofs.lemmas.Slice.Eq.{bytes_eq-Decides}
use Rattle.clap.specs.Walk.{Held, Names, Step, Text, Walk, finished, idle, nothing_held, rows_after, settled, subcommand_met, subcommand_or_other, walk}
use Rattle.clap.specs.Walk.{walk_from, walked, word_met}
use Rattle.clap.specs.Simple.{App, built, entered, is_simple, names_of, subcommand_of}
use Rattle.clap.specs.Faults.{check_fault, defaults_fault, entered_fault, fault_of, is_simple_and_free, level_fault, other_fault, settle_fault, step_fault}
use Rattle.clap.specs.Faults.{turn_fault, walk_fault}
use Rattle.clap.specs.Kinds.{HasKind, Kinds, or_else}
use Rattle.clap.specs.Values.{kind_of}
use Rattle.clap.specs.declared.error.Error.{Error}
use Rattle.clap.specs.declared.error.kind.ErrorKind.TheVariants as kind
use Rattle.clap.proofs.FaultLemmas.{stopped_fault}
use Rattle.clap.proofs.WalkLemmas.{walk_stopped}
use Rattle.av_words.specs.Words.{is_name, most_names}
use Rattle.av_words.specs.Command.{program_app}
use Rattle.av_words.specs.Places.{HasNoSplit, IsParsed, IsSplit, Split, rows_in, audit, run, verb_in, work}
use Rattle.av_words.proofs.Places.{both, no_other_fault, other_plain, other_verb}
use Rattle.av_words.proofs.Leaves.{frames_bare, frames_fills, frames_leaf, frames_many, not_none, or_nil, work_bare, work_fills, work_leaf, work_many, work_one}
use Rattle.av_words.proofs.Leaves.{work_two}

pub program_is_simple : is_simple program_app ≡ true
program_is_simple = refl

pub program_is_free : is_simple_and_free program_app ≡ true
program_is_free = refl

abbrev program : App
program = built program_app

abbrev verbs : Names
verbs = names_of program

-- ---- the verb

-- what fails, by the faults of the walk over the words and where it ends
abbrev faults_by : Kinds → Walk → Kinds
faults_by faults end =
    or_else faults (or_else (entered_fault program end.stopped) (or_else (settle_fault [] false end.held)
    (or_else (defaults_fault (settled [] end.held).rows [])
    (check_fault program.top (finished [] end.held) (is_some (entered program end.stopped))))))

module _ (verb : Text) (rest : List Text)
    (met : walked [] verbs (walk_from nothing_held) verb ≡ record (walk_from nothing_held) { stopped = Some (verb, []) })
    (turns : turn_fault program.top verbs (walk_from nothing_held) verb ≡ []) where
  abbrev stopped_at : Walk
  stopped_at = record (walk_from nothing_held) { stopped = Some (verb, rest) }

  verb_walk : walk [] verbs nothing_held (verb ∷ rest) ≡ stopped_at
  verb_walk = ap (λ (w : Walk). fold (walked [] verbs) w rest) met ∙ sym (walk_stopped [] verbs (walk_from nothing_held) verb [] rest)

  verb_passes : walk_fault program.top verbs (walk_from nothing_held) (verb ∷ rest) ≡ []
  unfolding walk_fault
  verb_passes =
      ap (λ k. or_else k (walk_fault program.top verbs (walked [] verbs (walk_from nothing_held) verb) rest)) turns
      ∙ ap (λ (w : Walk). walk_fault program.top verbs w rest) met ∙ stopped_fault program.top verbs (walk_from nothing_held) (verb, []) rest

  verb_fault : fault_of program_app (verb ∷ rest) ≡ faults_by [] stopped_at
  verb_fault = ap₂ faults_by verb_passes verb_walk

  verb_entered : subcommand_of program_app (verb ∷ rest) ≡ entered program (Some (verb, rest))
  verb_entered = ap (λ (w : Walk). entered program w.stopped) verb_walk

module _ (rest : List Text) where
  run_fault : fault_of program_app (codes "run" ∷ rest) ≡ level_fault (frames_leaf (codes "run")) [] nothing_held rest false []
  unfolding walked defaults_fault
  run_fault = verb_fault (codes "run") rest refl refl ∙ or_nil (level_fault (frames_leaf (codes "run")) [] nothing_held rest false [])

  run_entered : subcommand_of program_app (codes "run" ∷ rest) ≡ Some (codes "run", rows_after (frames_leaf (codes "run")).rules [] rest)
  unfolding walked
  run_entered = verb_entered (codes "run") rest refl refl

  audit_fault : fault_of program_app (codes "audit" ∷ rest) ≡ level_fault (frames_leaf (codes "audit")) [] nothing_held rest false []
  unfolding walked defaults_fault
  audit_fault = verb_fault (codes "audit") rest refl refl ∙ or_nil (level_fault (frames_leaf (codes "audit")) [] nothing_held rest false [])

  audit_entered : subcommand_of program_app (codes "audit" ∷ rest) ≡ Some (codes "audit", rows_after (frames_leaf (codes "audit")).rules [] rest)
  unfolding walked
  audit_entered = verb_entered (codes "audit") rest refl refl

  work_fault : fault_of program_app (codes "work" ∷ rest) ≡ level_fault work_leaf [] nothing_held rest false []
  unfolding walked defaults_fault
  work_fault = verb_fault (codes "work") rest refl refl ∙ or_nil (level_fault work_leaf [] nothing_held rest false [])

  work_entered : subcommand_of program_app (codes "work" ∷ rest) ≡ Some (codes "work", rows_after work_leaf.rules [] rest)
  unfolding walked
  work_entered = verb_entered (codes "work") rest refl refl

-- ---- another verb

module _ (verb : Text) (e : is_name verb ≡ true) (no_run : bytes_eq (codes "run") verb ≡ false) (no_work : bytes_eq (codes "work") verb ≡ false)
    (no_audit : bytes_eq (codes "audit") verb ≡ false) where
  unmet : subcommand_met verbs idle verb ≡ None
  unmet = λ i. option_map (λ (s : Text × List Text). s.0)
      (cond (no_run i || false) (Some (codes "run", [])) (cond (no_work i || false) (Some (codes "work", []))
      (cond (no_audit i || false) (Some (codes "audit", [])) None)))

  stray : turn_fault program.top verbs (walk_from nothing_held) verb ≡ kind.UnknownArgument ∷ kind.InvalidSubcommand ∷ []
  stray =
      let met = word_met [] verbs false idle 1 verb nothing_held in
      ap (λ k. or_else k (step_fault program.top 1 met.0 met.1))
      (ap (λ o. other_fault program.top o verb nothing_held) unmet ∙ no_other_fault program.top nothing_held verb e)
      ∙ ap (λ (m : Held × Step). step_fault program.top 1 m.0 m.1)
      (ap (λ o. subcommand_or_other [] o idle 1 verb nothing_held) unmet ∙ other_plain [] false 1 nothing_held verb e)

  stray_fails : (rest : List Text) → fault_of program_app (verb ∷ rest) ≡ [] → ⊥
  unfolding walk_fault
  stray_fails rest = not_none kind.UnknownArgument (kind.InvalidSubcommand ∷ []) _
      (ap (λ k. faults_by (or_else k (walk_fault program.top verbs (walked [] verbs (walk_from nothing_held) verb) rest))
      (walk [] verbs nothing_held (verb ∷ rest))) stray)

bare_fails : fault_of program_app [] ≡ [] → ⊥
unfolding walk_fault defaults_fault
bare_fails = not_none kind.MissingSubcommand [] _ refl

-- ---- the places that words fill

abbrev first : List Text → Text
first [] = []
first (word ∷ words) = word

no_bare : HasNoSplit []
no_bare (run frames names) is = absurd (omega (arith, ap length is.words_are))
no_bare (work seed lines frames names) is = absurd (omega (arith, ap length is.words_are))
no_bare (audit frames names) is = absurd (omega (arith, ap length is.words_are))

module _ (rest : List Text) where
  -- `run` with no number, or with too many names
  no_run : length rest ≡ 0 ⊎ (1 + most_names < length rest) → HasNoSplit (codes "run" ∷ rest)
  no_run (inl short) (run frames names) is = absurd (omega (arith, ap length is.words_are, short))
  no_run (inr long) (run frames names) is = absurd (omega (arith, ap length is.words_are, is.few, long))
  no_run wrong (work seed lines frames names) is = other_verb (codes "run") (codes "work") refl (ap first is.words_are) refl
  no_run wrong (audit frames names) is = other_verb (codes "run") (codes "audit") refl (ap first is.words_are) refl

  -- `audit` likewise
  no_audit : length rest ≡ 0 ⊎ (1 + most_names < length rest) → HasNoSplit (codes "audit" ∷ rest)
  no_audit (inl short) (audit frames names) is = absurd (omega (arith, ap length is.words_are, short))
  no_audit (inr long) (audit frames names) is = absurd (omega (arith, ap length is.words_are, is.few, long))
  no_audit wrong (work seed lines frames names) is = other_verb (codes "audit") (codes "work") refl (ap first is.words_are) refl
  no_audit wrong (run frames names) is = other_verb (codes "audit") (codes "run") refl (ap first is.words_are) refl

  -- `work` without its three numbers, or with too many names
  no_work : (length rest < 3) ⊎ (3 + most_names < length rest) → HasNoSplit (codes "work" ∷ rest)
  no_work wrong (run frames names) is = other_verb (codes "work") (codes "run") refl (ap first is.words_are) refl
  no_work wrong (audit frames names) is = other_verb (codes "work") (codes "audit") refl (ap first is.words_are) refl
  no_work (inl short) (work seed lines frames names) is = absurd (omega (arith, ap length is.words_are, short))
  no_work (inr long) (work seed lines frames names) is = absurd (omega (arith, ap length is.words_are, is.few, long))

no_verb : (verb : Text) (rest : List Text) → bytes_eq (codes "run") verb ≡ false → bytes_eq (codes "work") verb ≡ false
    → bytes_eq (codes "audit") verb ≡ false → HasNoSplit (verb ∷ rest)
no_verb verb rest not_run not_work not_audit (audit frames names) is = other_verb (codes "audit") verb not_audit (sym (ap first is.words_are)) refl
no_verb verb rest not_run not_work not_audit (run frames names) is = other_verb (codes "run") verb not_run (sym (ap first is.words_are)) refl
no_verb verb rest not_run not_work not_audit (work seed lines frames names) is = other_verb (codes "work") verb not_work (sym (ap first is.words_are)) refl

-- ---- the verdict

abbrev Takes : List Text → Type 0
Takes words = (split : Split) × IsSplit words split × (fault_of program_app words ≡ [])
    × (subcommand_of program_app words ≡ Some (verb_in split, rows_in split))

abbrev Refuses : List Text → Type 0
Refuses words = HasNoSplit words × (fault_of program_app words ≡ [] → ⊥)

-- of a verb with the number of frames behind it
module _ (verb : Text) (fails : (rest : List Text) → fault_of program_app (verb ∷ rest) ≡ level_fault (frames_leaf verb) [] nothing_held rest false [])
    (enters : (rest : List Text) → subcommand_of program_app (verb ∷ rest) ≡ Some (verb, rows_after (frames_leaf verb).rules [] rest))
    (splits_none : (rest : List Text) → length rest ≡ 0 ⊎ (1 + most_names < length rest) → HasNoSplit (verb ∷ rest))
    (takes : (frames : Text) (names : List Text) → length names ≤ most_names → fault_of program_app (verb ∷ frames ∷ names) ≡ []
    → subcommand_of program_app (verb ∷ frames ∷ names) ≡ Some (verb, rows_in (run frames names)) → Takes (verb ∷ frames ∷ names)) where
  frames_verdict : (rest : List Text) → list_all is_name rest ≡ true → Takes (verb ∷ rest) ⊎ Refuses (verb ∷ rest)
  frames_verdict [] e = inr (splits_none [] (inl refl), λ none. frames_bare verb (sym (fails []) ∙ none))
  frames_verdict (frames ∷ names) e =
      let parts = both _ _ e in
      elim (cases_lt most_names (length names)) [
        | inl many ↦ inr (
          splits_none (frames ∷ names) (inr (omega (arith, many))),
          λ none. frames_many verb frames parts.0 names parts.1 many (sym (fails (frames ∷ names)) ∙ none),
        )
        | inr few ↦
            let fills = frames_fills verb frames parts.0 names parts.1 few in
            inl (takes frames names few (fails (frames ∷ names) ∙ fills.0)
            (enters (frames ∷ names) ∙ ap (λ rows. Some (verb, rows)) fills.1))
      ]

run_verdict : (rest : List Text) → list_all is_name rest ≡ true → Takes (codes "run" ∷ rest) ⊎ Refuses (codes "run" ∷ rest)
run_verdict = frames_verdict (codes "run") run_fault run_entered no_run
    (λ frames names few none found. (run frames names, record { words_are = refl; few = few }, none, found))

audit_verdict : (rest : List Text) → list_all is_name rest ≡ true → Takes (codes "audit" ∷ rest) ⊎ Refuses (codes "audit" ∷ rest)
audit_verdict = frames_verdict (codes "audit") audit_fault audit_entered no_audit
    (λ frames names few none found. (audit frames names, record { words_are = refl; few = few }, none, found))

work_verdict : (rest : List Text) → list_all is_name rest ≡ true → Takes (codes "work" ∷ rest) ⊎ Refuses (codes "work" ∷ rest)
work_verdict [] e = inr (no_work [] (inl (omega arith)), λ none. work_bare (sym (work_fault []) ∙ none))
work_verdict (seed ∷ []) e =
    let parts = both _ _ e in
    inr (no_work (seed ∷ []) (inl (omega arith)), λ none. work_one seed parts.0 (sym (work_fault (seed ∷ [])) ∙ none))
work_verdict (seed ∷ lines ∷ []) e =
    let parts = both _ _ e in
    let more = both _ _ parts.1 in
    inr (no_work (seed ∷ lines ∷ []) (inl (omega arith)), λ none. work_two seed parts.0 lines more.0 (sym (work_fault (seed ∷ lines ∷ [])) ∙ none))
work_verdict (seed ∷ lines ∷ frames ∷ names) e =
    let parts = both _ _ e in
    let more = both _ _ parts.1 in
    let last = both _ _ more.1 in
    let words = seed ∷ lines ∷ frames ∷ names in
    elim (cases_lt most_names (length names)) [
      | inl many ↦ inr (
        no_work words (inr (omega (arith, many))),
        λ none. work_many seed parts.0 lines more.0 frames last.0 names last.1 many (sym (work_fault words) ∙ none),
      )
      | inr few ↦
          let fills = work_fills seed parts.0 lines more.0 frames last.0 names last.1 few in
          inl (
            work seed lines frames names,
            record { words_are = refl; few = few },
            work_fault words ∙ fills.0,
            work_entered words ∙ ap (λ rows. Some (codes "work", rows)) fills.1,
          )
    ]

-- the parser takes the words that fill the places of a command, and no others
verdict : (words : List Text) → list_all is_name words ≡ true → Takes words ⊎ Refuses words
verdict [] e = inr (no_bare, bare_fails)
verdict (verb ∷ rest) e =
    go (bytes_eq (codes "run") verb) refl (bytes_eq (codes "work") verb) refl (bytes_eq (codes "audit") verb) refl
  where
    is : (word : Text) → bytes_eq word verb ≡ true → Takes (word ∷ rest) ⊎ Refuses (word ∷ rest) → Takes (verb ∷ rest) ⊎ Refuses (verb ∷ rest)
    is word same = subst (λ v. Takes (v ∷ rest) ⊎ Refuses (v ∷ rest)) ((bytes_eq-Decides word verb).0 same)

    go : (r : Bool) → bytes_eq (codes "run") verb ≡ r → (w : Bool) → bytes_eq (codes "work") verb ≡ w
        → (a : Bool) → bytes_eq (codes "audit") verb ≡ a → Takes (verb ∷ rest) ⊎ Refuses (verb ∷ rest)
    go true r w f a g = is (codes "run") r (run_verdict rest (both _ _ e).1)
    go false r true f a g = is (codes "work") f (work_verdict rest (both _ _ e).1)
    go false r false f true g = is (codes "audit") g (audit_verdict rest (both _ _ e).1)
    go false r false f false g = inr (no_verb verb rest r f g, stray_fails verb (both _ _ e).0 r f g rest)

module _ (words : List Text) (names : list_all is_name words ≡ true) where
  pub found_in : fault_of program_app words ≡ [] → IsParsed words (subcommand_of program_app words)
  found_in none = elim (verdict words names) [
    | inl takes ↦ record { split = takes.0; is_split = takes.1; found_is = takes.3 }
    | inr refuses ↦ absurd (refuses.1 none)
  ]

  pub refused : (e : Error) → HasKind (fault_of program_app words) e → (kind_of e ≡ kind.OutOfMemory → ⊥) → HasNoSplit words
  refused e kinds memory = elim (verdict words names) [
    | inl takes ↦ λ split is. elim (subst (λ k. HasKind k e) takes.2 kinds) [ inl wanting ↦ memory wanting | inr among ↦ among ]
    | inr refuses ↦ refuses.0
  ]
