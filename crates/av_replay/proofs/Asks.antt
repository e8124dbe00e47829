-- What the words ask for is one thing.
use Rattle.std.proofs.Common.{◌≡◌, Bor, map, subst, ℕ, List, [], ◌++◌, length, get_or, sym, ap, ◌∙◌}
use Rattle.av_words.specs.Words.{IsForm, words_of}
use Rattle.av_words.specs.declared.words.Asked.{Asked}
use Rattle.av_words.specs.declared.words.Asked.TheVariants as asked
use Rattle.av_replay.specs.TopCall.{AskForAudit, AskForLoad}

-- how long the first word is
abbrev verb-length : List (List ℕ) → ℕ
verb-length words = length (get_or words 0 [])

verbs : (words : List (List ℕ)) (a b : Asked) (ns ms : List (List ℕ)) → IsForm words a ns → IsForm words b ms → words_of a ++ ns ≡ words_of b ++ ms
verbs words a b ns ms is other = sym is.words_are ∙ other.words_are

pub run-no-audit : (words : List (List ℕ)) (frames : ℕ) (names : List (List ℕ)) → IsForm words (asked.Run frames) names → AskForAudit words → ⊥
run-no-audit words frames names is (frames', names', form) =
    let e : 3 ≡ 5 = ap verb-length (verbs words (asked.Run frames) (asked.Audit frames') names names' is form) in absurd cc

pub load-no-audit : (words : List (List ℕ)) (seed lines frames : ℕ) (names : List (List ℕ)) → IsForm words (asked.Work seed lines frames) names
    → AskForAudit words → ⊥
load-no-audit words seed lines frames names is (frames', names', form) =
    let e : 4 ≡ 5 = ap verb-length (verbs words (asked.Work seed lines frames) (asked.Audit frames') names names' is form) in absurd cc

pub audit-no-load : (words : List (List ℕ)) (frames : ℕ) (names : List (List ℕ)) → IsForm words (asked.Audit frames) names → AskForLoad words → ⊥
audit-no-load words frames names is (seed, lines, frames', names', form) =
    let e : 5 ≡ 4 = ap verb-length (verbs words (asked.Audit frames) (asked.Work seed lines frames') names names' is form) in absurd cc

pub run-no-load : (words : List (List ℕ)) (frames : ℕ) (names : List (List ℕ)) → IsForm words (asked.Run frames) names → AskForLoad words → ⊥
run-no-load words frames names is (seed, lines, frames', names', form) =
    let e : 3 ≡ 4 = ap verb-length (verbs words (asked.Run frames) (asked.Work seed lines frames') names names' is form) in absurd cc

-- the words ask for what was read of them, by another name of it
pub form-of : (words : List (List ℕ)) (a b : Asked) (ns ms : List (Bor (List ℕ))) → a ≡ b → ms ≡ ns → IsForm words a (map (λ name. name.now) ns)
    → IsForm words b (map (λ name. name.now) ms)
form-of words a b ns ms is same form =
    subst (λ (x : Asked). IsForm words x (map (λ name. name.now) ms)) is
    (subst (λ (xs : List (Bor (List ℕ))). IsForm words a (map (λ name. name.now) xs)) (sym same) form)
