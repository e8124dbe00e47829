-- The last table that holds a page, found through the three above it.
use Rattle.std.proofs.Common.{◌≡◌, ℕ, ◌+◌, ◌*◌, ◌/◌, ◌%◌, ◌<◌, List, Option, Some, None, MatchOption, option_map, sym, ap, ◌∙◌, arith}
use Rattle.std.proofs.lemmas.Nat.{div-add-mod', div-mul-add, mod-mul-add, mod_below}
use Rattle.av_pagetable.specs.declared.middle.Middle.{Middle}
use Rattle.av_pagetable.specs.declared.pte.Pte.{Pte}
use Rattle.av_pagetable.specs.declared.pte.Pte.TheVariants.{Empty}
use Rattle.av_pagetable.specs.Dir.{alone, entries, in_part, part_of}

-- the tables of each level, the last one first
abbrev pub Last : Type 0
Last = List (ℕ × Pte)

abbrev pub Upper : Type 0
Upper = List (ℕ × Middle)

abbrev pub Top : Type 0
Top = List (ℕ × Upper)

abbrev pub in_last : Last → ℕ → Pte
in_last = entries alone 1

abbrev pub in_middle : Middle → ℕ → Pte
in_middle middle = entries in_last 512 middle.tables

abbrev pub in_upper : Upper → ℕ → Pte
in_upper = entries in_middle 262144

abbrev pub in_top : Top → ℕ → Pte
in_top = entries in_upper 134217728

-- page q of part p
there : {C : Type 0} (at : C → ℕ → Pte) (span : ℕ) (parts : List (ℕ × C)) (p q : ℕ) → q < span →
    entries at span parts (p * span + q) ≡ in_part at (part_of parts p) q
there at span parts p q under =
    ap (λ n. in_part at (part_of parts n) ((p * span + q) % span)) (div-mul-add p span q under)
    ∙ ap (in_part at (part_of parts p)) (mod-mul-add p span q under)

module _ (n i : ℕ) (under : i < 512) where
  rest : n % 262144 < 262144
  rest = mod_below n 262144 (omega arith)

  by_upper : (top : Top) → in_top top (n * 512 + i) ≡ in_part in_upper (part_of top (n / 262144)) (n % 262144 * 512 + i)
  by_upper top =
      let low = rest in
      let page : n * 512 + i ≡ n / 262144 * 134217728 + (n % 262144 * 512 + i) = omega (arith, div-add-mod' n 262144) in
      ap (in_top top) page ∙ there in_upper 134217728 top (n / 262144) (n % 262144 * 512 + i) (omega (arith, low, under))

  by_middle : (upper : Upper)
      → in_upper upper (n % 262144 * 512 + i) ≡ in_part in_middle (part_of upper (n % 262144 / 512)) (n % 262144 % 512 * 512 + i)
  by_middle upper =
      let low = mod_below (n % 262144) 512 (omega arith) in
      let page : n % 262144 * 512 + i ≡ n % 262144 / 512 * 262144 + (n % 262144 % 512 * 512 + i) = omega (arith, div-add-mod' (n % 262144) 512) in
      ap (in_upper upper) page ∙ there in_middle 262144 upper (n % 262144 / 512) (n % 262144 % 512 * 512 + i) (omega (arith, low, under))

  by_last : (middle : Middle) → in_middle middle (n % 262144 % 512 * 512 + i) ≡ in_part in_last (part_of middle.tables (n % 262144 % 512)) i
  by_last middle = there in_last 512 middle.tables (n % 262144 % 512) i under

  pub no_upper : (top : Top) → None ≡ part_of top (n / 262144) → in_top top (n * 512 + i) ≡ Empty
  no_upper top none = by_upper top ∙ ap (λ o. in_part in_upper o (n % 262144 * 512 + i)) (sym none)

  pub no_middle : (top : Top) (upper : Upper) → Some upper ≡ part_of top (n / 262144) → None ≡ part_of upper (n % 262144 / 512) →
      in_top top (n * 512 + i) ≡ Empty
  no_middle top upper u none =
      by_upper top ∙ ap (λ o. in_part in_upper o (n % 262144 * 512 + i)) (sym u)
      ∙ by_middle upper ∙ ap (λ o. in_part in_middle o (n % 262144 % 512 * 512 + i)) (sym none)

  pub in_table : (top : Top) (upper : Upper) (middle : Middle) → Some upper ≡ part_of top (n / 262144)
      → Some middle ≡ part_of upper (n % 262144 / 512)
      → in_top top (n * 512 + i) ≡ in_part in_last (part_of middle.tables (n % 262144 % 512)) i
  in_table top upper middle u m =
      by_upper top ∙ ap (λ o. in_part in_upper o (n % 262144 * 512 + i)) (sym u)
      ∙ by_middle upper ∙ ap (λ o. in_part in_middle o (n % 262144 % 512 * 512 + i)) (sym m)
      ∙ by_last middle

pub leaf_cases : {X : Type 0} (now : X → Last) (r : Option X) (n : ℕ) (top : Top) (upper : Upper) (middle : Middle)
    → Some upper ≡ part_of top (n / 262144) → Some middle ≡ part_of upper (n % 262144 / 512)
    → option_map now r ≡ part_of middle.tables (n % 262144 % 512)
    → MatchOption r ((i : ℕ) → i < 512 → in_top top (n * 512 + i) ≡ Empty)
    (λ leaf. (i : ℕ) → i < 512 → in_top top (n * 512 + i) ≡ in_last (now leaf) i)
leaf_cases now None n top upper middle u m is = λ i under. in_table n i under top upper middle u m ∙ ap (λ o. in_part in_last o i) (sym is)
leaf_cases now (Some x) n top upper middle u m is = λ i under. in_table n i under top upper middle u m ∙ ap (λ o. in_part in_last o i) (sym is)
