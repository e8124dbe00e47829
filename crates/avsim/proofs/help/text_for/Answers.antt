use Rattle.std.proofs.Common.{◌≡◌, ℕ, List, [], ◌∷◌, length, get_or, map, inl, inr, refl, sym, ◌∙◌, arith}
use Rattle.std.specs.Prelude.{string_bytes, codes}
use Rattle.std.proofs.lemmas.Slice.Eq.{bytes_eq-Decides}
use Rattle.avsim.proofs.help.text_for.Goals as goal

-- a list of one
one : {X : Type 0} (xs : List X) (a : X) → length xs ≡ 1 → a ≡ get_or xs 0 a → xs ≡ a ∷ []
one [] a n p = absurd (omega arith)
one (x ∷ []) a n p = cc
one (x ∷ y ∷ xs) a n p = absurd (omega arith)

only : {X : Type 0} (bytes : X → List ℕ) (xs : List X) (a : X) (word : List ℕ) → length xs ≡ 1 → a ≡ get_or xs 0 a → bytes a ≡ word
    → map bytes xs ≡ word ∷ []
only bytes xs a word n p is = rw (one xs a n p, is) refl

-- a list of two
two : {X : Type 0} (xs : List X) (a b : X) → length xs ≡ 2 → a ≡ get_or xs 0 a → b ≡ get_or xs 1 b → xs ≡ a ∷ b ∷ []
two [] a b n p q = absurd (omega arith)
two (x ∷ []) a b n p q = absurd (omega arith)
two (x ∷ y ∷ []) a b n p q = cc
two (x ∷ y ∷ z ∷ xs) a b n p q = absurd (omega arith)

both : {X : Type 0} (bytes : X → List ℕ) (xs : List X) (a b : X) (u v : List ℕ) → length xs ≡ 2 → a ≡ get_or xs 0 a → b ≡ get_or xs 1 b →
    bytes a ≡ u → bytes b ≡ v → map bytes xs ≡ u ∷ v ∷ []
both bytes xs a b u v n p q e f = rw (two xs a b n p q, e, f) refl

pub returns-in-len1-clause-some : goal.returns-in-len1-clause-some
returns-in-len1-clause-some c =
    let word : string_bytes c.word-item.result ≡ codes "--help" = sym c.as_str.ensures.value
    ∙ (bytes_eq-Decides c.as_str.result.now (codes "--help")).0
    (sym c.eq.ensures ∙ c.if-eq.true) in
    inl (only string_bytes c.args.words.now c.word-item.result (codes "--help") (omega arith) c.word-item.is word, refl)

pub returns-in-len1-2-clause-some : goal.returns-in-len1-2-clause-some
returns-in-len1-2-clause-some c =
    let item = c.word-item-then-words-lt2 in
    let text = c.as_str-then-words-lt2 in
    let word : string_bytes item.result ≡ codes "--version" = sym text.ensures.value ∙ (bytes_eq-Decides text.result.now (codes "--version")).0
    (sym c.eq-then-words-lt2.ensures ∙ c.if-eq-2.true) in
    inr (inl (only string_bytes c.args.words.now item.result (codes "--version") (omega arith) item.is word, refl))

pub returns-in-len2-clause-some : goal.returns-in-len2-clause-some
returns-in-len2-clause-some c =
    let verb : string_bytes c.verb-item.result ≡ codes "run" = sym c.as_str-then-eq-3.ensures.value
    ∙ (bytes_eq-Decides c.as_str-then-eq-3.result.now (codes "run")).0 (sym c.eq-then-eq-3.ensures ∙ c.if-eq-4.true) in
    let item = c.word-item-then-words-lt3 in
    let text = c.as_str-then-words-lt3 in
    let word : string_bytes item.result ≡ codes "--help" = sym text.ensures.value ∙ (bytes_eq-Decides text.result.now (codes "--help")).0
    (sym c.eq-then-words-lt3.ensures ∙ c.if-eq-3.true) in
    inr (inr (inl (
      both string_bytes c.args.words.now c.verb-item.result item.result (codes "run") (codes "--help") (omega arith) c.verb-item.is item.is verb word,
      refl,
    )))

pub returns-in-len2-2-clause-some : goal.returns-in-len2-2-clause-some
returns-in-len2-2-clause-some c =
    let first = c.verb-item-then-words-lt3 in
    let verb : string_bytes first.result ≡ codes "work" = sym c.as_str-then-eq-5.ensures.value
    ∙ (bytes_eq-Decides c.as_str-then-eq-5.result.now (codes "work")).0 (sym c.eq-then-eq-5.ensures ∙ c.if-eq-6.true) in
    let item = c.word-item-then-words-lt3-2 in
    let text = c.as_str-then-words-lt3-2 in
    let word : string_bytes item.result ≡ codes "--help" = sym text.ensures.value ∙ (bytes_eq-Decides text.result.now (codes "--help")).0
    (sym c.eq-then-words-lt3-2.ensures ∙ c.if-eq-5.true) in
    inr (inr (inr (inl (
      both string_bytes c.args.words.now first.result item.result (codes "work") (codes "--help") (omega arith) first.is item.is
          verb word,
      refl,
    ))))

pub returns-in-len2-3-clause-some : goal.returns-in-len2-3-clause-some
returns-in-len2-3-clause-some c =
    let first = c.verb-item-then-words-lt3-2 in
    let verb : string_bytes first.result ≡ codes "audit" = sym c.as_str-then-eq-7.ensures.value
    ∙ (bytes_eq-Decides c.as_str-then-eq-7.result.now (codes "audit")).0 (sym c.eq-then-eq-7.ensures ∙ c.if-eq-8.true) in
    let item = c.word-item-then-words-lt3-3 in
    let text = c.as_str-then-words-lt3-3 in
    let word : string_bytes item.result ≡ codes "--help" = sym text.ensures.value ∙ (bytes_eq-Decides text.result.now (codes "--help")).0
    (sym c.eq-then-words-lt3-3.ensures ∙ c.if-eq-7.true) in
    inr (inr (inr (inr (
      both string_bytes c.args.words.now first.result item.result (codes "audit") (codes "--help") (omega arith) first.is item.is
          verb word,
      refl,
    ))))
