-- A text is split at a byte into the pieces between: so lines give their words back.
use Rattle.std.proofs.Common.{Bool, true, false, not, eqb, ◌≡◌, ℕ, suc, ◌<◌, List, [], ◌∷◌, ◌++◌, length, get_or, refl, sym, ap, ◌∙◌, append_assoc, append-nil, arith}
use Rattle.std.specs.Prelude.{◌==◌, ◌&&◌, if◌then◌else◌}
use Rattle.std.specs.List.{flat_map, AllByRecursion}
use Rattle.std.proofs.lemmas.Bool.{eq-eqb, ne_eqb, cond-true, cond-false, and_parts, and_from}
use Rattle.std.proofs.lemmas.List.{append_cancel_left}
use Rattle.av_trace.specs.Print.{whole_line}
use Rattle.av_text.specs.Word.{field, line}

-- no byte of the text is c
abbrev pub lacks : ℕ → List ℕ → Bool
lacks c [] = true
lacks c (b ∷ bytes) = not (b == c) && lacks c bytes

-- the byte before the first piece
abbrev pub before_first : ℕ → List (List ℕ) → List (List ℕ)
before_first b [] = (b ∷ []) ∷ []
before_first b (w ∷ ws) = (b ∷ w) ∷ ws

-- the pieces between the places where c stands
unfoldable pub split : ℕ → List ℕ → List (List ℕ)
split c [] = [] ∷ []
split c (b ∷ bytes) = if b == c then [] ∷ split c bytes else before_first b (split c bytes)

not_true : (b : Bool) → not b ≡ true → b ≡ false
not_true true e = absurd cc
not_true false e = refl

pub lacks-cons : (c b : ℕ) (bytes : List ℕ) → (b ≡ c → ⊥) → lacks c bytes ≡ true → lacks c (b ∷ bytes) ≡ true
lacks-cons c b bytes ne h = and_from (not (eqb b c)) (lacks c bytes) (ap not (ne_eqb b c ne)) h

pub lacks-from : (c : ℕ) (bytes : List ℕ) → ((i : ℕ) → i < length bytes → get_or bytes i 0 ≡ c → ⊥) → lacks c bytes ≡ true
lacks-from c [] h = refl
lacks-from c (b ∷ bytes) h = lacks-cons c b bytes (h 0 (omega arith)) (lacks-from c bytes (λ i lt. h (suc i) (omega arith)))

pub lacks-append : (c : ℕ) (s t : List ℕ) → lacks c s ≡ true → lacks c t ≡ true → lacks c (s ++ t) ≡ true
lacks-append c [] t hs ht = ht
lacks-append c (b ∷ s) t hs ht =
    let p = and_parts (not (eqb b c)) (lacks c s) hs in
    and_from (not (eqb b c)) (lacks c (s ++ t)) p.0 (lacks-append c s t p.1 ht)

pub split-last : (c : ℕ) (w : List ℕ) → lacks c w ≡ true → split c w ≡ w ∷ []
unfolding split
split-last c [] h = refl
split-last c (b ∷ w) h =
    let p = and_parts (not (eqb b c)) (lacks c w) h in
    cond-false _ _ _ (not_true _ p.0) ∙ ap (before_first b) (split-last c w p.1)

pub split-more : (c : ℕ) (w rest : List ℕ) → lacks c w ≡ true → split c (w ++ c ∷ rest) ≡ w ∷ split c rest
unfolding split
split-more c [] rest h = cond-true _ _ _ (eq-eqb c c refl)
split-more c (b ∷ w) rest h =
    let p = and_parts (not (eqb b c)) (lacks c w) h in
    cond-false _ _ _ (not_true _ p.0) ∙ ap (before_first b) (split-more c w rest p.1)

-- two pieces
pub split-two : (c : ℕ) (w v : List ℕ) → lacks c w ≡ true → lacks c v ≡ true → split c (w ++ c ∷ v) ≡ w ∷ v ∷ []
split-two c w v hw hv = split-more c w v hw ∙ ap (λ t. w ∷ t) (split-last c v hv)

-- ---- words and lines

-- a word has no space and no newline
pub record IsPlain (w : List ℕ) : Type 0 where
  pub space : lacks 32 w ≡ true
  pub newline : lacks 10 w ≡ true

pub split-line : (name : List ℕ) (words : List (List ℕ)) → IsPlain name → AllByRecursion IsPlain words → split 32 (line name words) ≡ name ∷ words
split-line name [] plain all = ap (split 32) (append-nil name) ∙ split-last 32 name plain.space
split-line name (w ∷ words) plain all =
    split-more 32 name (w ++ flat_map field words) plain.space ∙ ap (λ t. name ∷ t) (split-line w words all.0 all.1)

pub lacks-line : (name : List ℕ) (words : List (List ℕ)) → IsPlain name → AllByRecursion IsPlain words → lacks 10 (line name words) ≡ true
lacks-line name [] plain all = ap (lacks 10) (append-nil name) ∙ plain.newline
lacks-line name (w ∷ words) plain all =
    lacks-append 10 name (field (w ++ flat_map field words)) plain.newline
    (lacks-cons 10 32 (line w words) (omega arith) (lacks-line w words all.0 all.1))

-- a first line, and the rest
pub first_line : (s s' t t' : List ℕ) → lacks 10 s ≡ true → lacks 10 s' ≡ true → whole_line s ++ t ≡ whole_line s' ++ t' → (s ≡ s') × (t ≡ t')
first_line s s' t t' h h' e =
    let left = append_assoc s (10 ∷ []) t in
    let right = append_assoc s' (10 ∷ []) t' in
    let whole : s ++ 10 ∷ t ≡ s' ++ 10 ∷ t' = sym left ∙ e ∙ right in
    let pieces : s ∷ split 10 t ≡ s' ∷ split 10 t' = sym (split-more 10 s t h) ∙ ap (split 10) whole ∙ split-more 10 s' t' h' in
    let same : s ≡ s' = cc in
    let rest : s ++ 10 ∷ t ≡ s ++ 10 ∷ t' = whole ∙ ap (λ (x : List ℕ). x ++ 10 ∷ t') (sym same) in
    let tails : 10 ∷ t ≡ 10 ∷ t' = append_cancel_left s (10 ∷ t) (10 ∷ t') rest in
    (same, cc)
