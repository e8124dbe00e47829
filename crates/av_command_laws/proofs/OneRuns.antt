-- The longest runs of the same pages are the same.
use Rattle.std.proofs.Common.{◌≡◌, ℕ, ◌<◌, ◌≤◌, Bool, true, false, cond, ◌&&◌, nat_le, nat_lt, List, [], ◌∷◌, map, Some, None, refl, sym, ap, ◌∙◌, arith, ◌==◌}
use Rattle.std.proofs.lemmas.Bool.Decides.{nat_tests}
use Rattle.av_base.specs.declared.prot.Prot.{Prot}
use Rattle.av_trace.specs.declared.row.Row.{Row}
use Rattle.av_plain.specs.World.{Process}
use Rattle.av_plain.specs.Report.{Range, prot_in, AreLongest, row_of, AreMaps}

covers : (a b x : ℕ) → a ≤ x → x < b → (nat_le a x && nat_lt x b) ≡ true
covers a b x low high = grind (arith, nat_tests, low, high)

is_under : (a b x : ℕ) → x < a → (nat_le a x && nat_lt x b) ≡ false
is_under a b x h = grind (arith, nat_tests, h)

is_over : (a b x : ℕ) → b ≤ x → (nat_le a x && nat_lt x b) ≡ false
is_over a b x h = grind (arith, nat_tests, h)

none-some : {p : Prot} → None ≡ Some p → ⊥
none-some e = cc

of_some : {p q : Prot} → Some p ≡ Some q → p ≡ q
of_some e = cc

-- the runs behind the first
later-runs : (a : Range) (rs : List Range) → AreLongest (a ∷ rs) → AreLongest rs
later-runs a [] h = tt
later-runs a (b ∷ rs) h = h.3

not-empty : (a : Range) (rs : List Range) → AreLongest (a ∷ rs) → a.from < a.to
not-empty a [] h = h
not-empty a (b ∷ rs) h = h.0

-- a page of the first run
in-first : (a : Range) (rs : List Range) (page : ℕ) → a.from ≤ page → page < a.to → prot_in (a ∷ rs) page ≡ Some a.prot
in-first a rs page low high = ap (λ t. cond t (Some a.prot) (prot_in rs page)) (covers a.from a.to page low high)

-- below the first run there is none
below-first : (a : Range) (rs : List Range) (page : ℕ) → AreLongest (a ∷ rs) → page < a.from → prot_in (a ∷ rs) page ≡ None
below-first a [] page h under = ap (λ t. cond t (Some a.prot) (prot_in [] page)) (is_under a.from a.to page under)
below-first a (b ∷ rs) page h under =
    ap (λ t. cond t (Some a.prot) (prot_in (b ∷ rs) page)) (is_under a.from a.to page under)
    ∙ below-first b rs page h.3 (let less = h.0 in let next = h.1 in omega (arith, less, next, under))

-- nor is there one of the later runs below the end of the first
not-later : (a : Range) (rs : List Range) (page : ℕ) → AreLongest (a ∷ rs) → page < a.to → prot_in rs page ≡ None
not-later a [] page h under = refl
not-later a (b ∷ rs) page h under = below-first b rs page h.3 (let next = h.1 in omega (arith, next, under))

-- where the first run ends, its protection does
ends-there : (a : Range) (rs : List Range) → AreLongest (a ∷ rs) → prot_in (a ∷ rs) a.to ≡ Some a.prot → ⊥
ends-there a rs h is = later rs h (sym (ap (λ t. cond t (Some a.prot) (prot_in rs a.to)) (is_over a.from a.to a.to (omega arith))) ∙ is)
  where
    later : (rs : List Range) → AreLongest (a ∷ rs) → prot_in rs a.to ≡ Some a.prot → ⊥
    later [] h is = none-some is
    later (b ∷ rs) h is = by (a.to == b.from) refl
      where
        by : (t : Bool) → (a.to == b.from) ≡ t → ⊥
        by true e =
            let same : a.to ≡ b.from = grind (arith, nat_tests, e) in
            let long = not-empty b rs h.3 in
            h.2 same (of_some (sym is ∙ in-first b rs a.to (omega (arith, same)) (omega (arith, same, long))))
        by false e = let next = h.1 in none-some (sym (below-first b rs a.to h.3 (grind (arith, nat_tests, e, next))) ∙ is)

-- each page has the same protection in both
abbrev Alike : List Range → List Range → Type 0
Alike rs others = (page : ℕ) → prot_in rs page ≡ prot_in others page

-- the first run begins no earlier than the other first
no_earlier : (a c : Range) (rs others : List Range) → AreLongest (a ∷ rs) → AreLongest (c ∷ others) → Alike (a ∷ rs) (c ∷ others) → c.from ≤ a.from
no_earlier a c rs others h i alike = by (nat_le c.from a.from) refl
  where
    by : (t : Bool) → nat_le c.from a.from ≡ t → c.from ≤ a.from
    by true e = grind (arith, nat_tests, e)
    by false e =
        let less : a.from < c.from = grind (arith, nat_tests, e) in
        let long = not-empty a rs h in
        absurd (none-some (sym (below-first c others a.from i less) ∙ sym (alike a.from) ∙ in-first a rs a.from (omega arith) long))

-- nor does it end earlier
no_sooner : (a c : Range) (rs others : List Range) → AreLongest (a ∷ rs) → a.from ≡ c.from → a.prot ≡ c.prot
    → Alike (a ∷ rs) (c ∷ others) → c.to ≤ a.to
no_sooner a c rs others h start kind alike = by (nat_le c.to a.to) refl
  where
    by : (t : Bool) → nat_le c.to a.to ≡ t → c.to ≤ a.to
    by true e = grind (arith, nat_tests, e)
    by false e =
        let more : a.to < c.to = grind (arith, nat_tests, e) in
        let long = not-empty a rs h in
        absurd (ends-there a rs h (alike a.to ∙ in-first c others a.to (omega (arith, start, long)) more ∙ ap Some (sym kind)))

-- the later runs are alike too
alike-later : (a c : Range) (rs others : List Range) → AreLongest (a ∷ rs) → AreLongest (c ∷ others) → a.to ≡ c.to →
    Alike (a ∷ rs) (c ∷ others) → Alike rs others
alike-later a c rs others h i end alike page = by (nat_lt page a.to) refl
  where
    by : (t : Bool) → nat_lt page a.to ≡ t → prot_in rs page ≡ prot_in others page
    by true e =
        let under : page < a.to = grind (arith, nat_tests, e) in
        not-later a rs page h under ∙ sym (not-later c others page i (omega (arith, under, end)))
    by false e =
        let over : a.to ≤ page = grind (arith, nat_tests, e) in
        sym (ap (λ t. cond t (Some a.prot) (prot_in rs page)) (is_over a.from a.to page over)) ∙ alike page
        ∙ ap (λ t. cond t (Some c.prot) (prot_in others page)) (is_over c.from c.to page (omega (arith, over, end)))

runs-same : (rs others : List Range) → AreLongest rs → AreLongest others → Alike rs others → rs ≡ others
runs-same [] [] h i alike = refl
runs-same [] (c ∷ others) h i alike = absurd (none-some (alike c.from ∙ in-first c others c.from (omega arith) (not-empty c others i)))
runs-same (a ∷ rs) [] h i alike = absurd (none-some (sym (alike a.from) ∙ in-first a rs a.from (omega arith) (not-empty a rs h)))
runs-same (a ∷ rs) (c ∷ others) h i alike =
    let back : Alike (c ∷ others) (a ∷ rs) = λ page. sym (alike page) in
    let low = no_earlier a c rs others h i alike in
    let low' = no_earlier c a others rs i h back in
    let start : a.from ≡ c.from = omega (arith, low, low') in
    let long = not-empty a rs h in let long' = not-empty c others i in
    let kind : a.prot ≡ c.prot =
    of_some (sym (in-first a rs a.from (omega arith) long) ∙ alike a.from ∙ in-first c others a.from (omega (arith, start))
    (omega (arith, start, long'))) in
    let high = no_sooner a c rs others h start kind alike in
    let high' = no_sooner c a others rs i (sym start) (sym kind) back in
    let end : a.to ≡ c.to = omega (arith, high, high') in
    let rest = runs-same rs others (later-runs a rs h) (later-runs c others i) (alike-later a c rs others h i end alike) in
    λ j. record { from = start j; to = end j; prot = kind j } ∷ rest j

pub one-answer : (q : Process) (rows others : List Row) → AreMaps q rows → AreMaps q others → rows ≡ others
one-answer q rows others a b = a.1 ∙ ap (map row_of) (runs-same a.0 b.0 a.2 b.2 (λ page. a.3 page ∙ sym (b.3 page))) ∙ sym b.1
