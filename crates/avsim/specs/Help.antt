-- What the program tells about itself.
use Rattle.std.specs.Prelude.{◌≡◌, ℕ, List, [], ◌∷◌, ◌⊎◌, codes}
use Rattle.avsim.specs.declared.help.TheConstants.{AUDIT_HELP, HELP, RUN_HELP, VERSION, WORK_HELP}

-- the words ask for this text, and for nothing else
abbrev pub AskFor : List (List ℕ) → List ℕ → Type 0
AskFor words text =
    ((words ≡ codes "--help" ∷ []) × (text ≡ HELP.now))
    ⊎ ((words ≡ codes "--version" ∷ []) × (text ≡ VERSION.now))
    ⊎ ((words ≡ codes "run" ∷ codes "--help" ∷ []) × (text ≡ RUN_HELP.now))
    ⊎ ((words ≡ codes "work" ∷ codes "--help" ∷ []) × (text ≡ WORK_HELP.now))
    ⊎ ((words ≡ codes "audit" ∷ codes "--help" ∷ []) × (text ≡ AUDIT_HELP.now))
