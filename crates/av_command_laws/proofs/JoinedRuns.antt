-- Ranges in order, joined where two touch and have one protection: their rows, and one range more.
use Rattle.std.proofs.Common.{◌≡◌, ℕ, ◌*◌, Bool, true, false, cond, ◌&&◌, List, [], ◌∷◌, ◌++◌, map, refl, sym, ap, ◌∙◌, arith, ◌==◌}
use Rattle.std.proofs.lemmas.Bool.Decides.{nat_tests}
use Rattle.std.proofs.lemmas.Bool.{false≢true}
use Rattle.std.proofs.lemmas.List.{append_assoc}
use Rattle.av_base.specs.declared.prot.Prot.{Prot}
use Rattle.av_trace.specs.declared.row.Row.{Row}
use Rattle.av_trace.specs.declared.row.Row.TheVariants.{Run}
use Rattle.av_plain.specs.Report.{Range, row_of}
use Rattle.av_plain.proofs.Report.Runs.{all_joined, grown, joined}

-- ---- whether two protections are one

abbrev same_bit : Bool → Bool → Bool
same_bit true b = b
same_bit false true = false
same_bit false false = true

bit_is : (a b : Bool) → same_bit a b ≡ true → a ≡ b
bit_is true b h = sym h
bit_is false true h = h
bit_is false false h = refl

bit_itself : (a : Bool) → same_bit a a ≡ true
bit_itself true = refl
bit_itself false = refl

abbrev pub same_prot : Prot → Prot → Bool
same_prot p q = same_bit p.read q.read && same_bit p.write q.write && same_bit p.execute q.execute

first : (a b : Bool) → (a && b) ≡ true → a ≡ true
first true b h = refl
first false b h = h

second : (a b : Bool) → (a && b) ≡ true → b ≡ true
second true b h = h
second false b h = absurd (false≢true h)

pub prot_is : (p q : Prot) → same_prot p q ≡ true → p ≡ q
prot_is p q h =
    let reads = same_bit p.read q.read in
    let writes = same_bit p.write q.write in
    let executes = same_bit p.execute q.execute in
    let both = first (reads && writes) executes h in
    λ i. record {
      read = bit_is p.read q.read (first reads writes both) i;
      write = bit_is p.write q.write (second reads writes both) i;
      execute = bit_is p.execute q.execute (second (reads && writes) executes h) i;
    }

pub prot_itself : (p : Prot) → same_prot p p ≡ true
prot_itself p = λ i. bit_itself p.read i && bit_itself p.write i && bit_itself p.execute i

-- ---- the rows of joined ranges

-- the rows of these ranges, where `a` may still grow
abbrev pub joined_rows : Range → List Range → List Row
joined_rows a ranges = map row_of (joined same_prot a ranges)

abbrev pub all_rows : List Range → List Row
all_rows ranges = map row_of (all_joined same_prot ranges)

-- ---- one range more

same_number : (n : ℕ) → (n == n) ≡ true
same_number n = grind (arith, nat_tests)

joins-yes : (to from : ℕ) (p q : Prot) → to ≡ from → p ≡ q → (to == from && same_prot p q) ≡ true
joins-yes to from p q here same = ap (λ x. x == from && same_prot p q) here ∙ ap (λ x. from == from && same_prot x q) same
    ∙ ap (λ b. b && same_prot q q) (same_number from) ∙ prot_itself q

joins-no : (to from : ℕ) (p q : Prot) → (to ≡ from → p ≡ q → ⊥) → (to == from && same_prot p q) ≡ false
joins-no to from p q apart = by (to == from && same_prot p q) refl
  where
    here : (to from : ℕ) (b : Bool) → (to == from && b) ≡ true → to ≡ from
    here to from b e = grind (arith, nat_tests, e)

    by : (b : Bool) → (to == from && same_prot p q) ≡ b → b ≡ false
    by false e = refl
    by true e = absurd (apart (here to from (same_prot p q) e) (prot_is p q (second (to == from) (same_prot p q) e)))

abbrev pub range : ℕ → ℕ → Prot → Range
range from to prot = record { from = from; to = to; prot = prot }

-- a run in front of a range that it goes on over, or of one that begins another
pub grew : (a b : Range) (ranges : List Range) → a.to ≡ b.from → a.prot ≡ b.prot → joined_rows a (b ∷ ranges) ≡ joined_rows (grown a b) ranges
grew a b ranges here same = ap (λ t. map row_of (cond t (joined same_prot (grown a b) ranges) (a ∷ joined same_prot b ranges)))
    (joins-yes a.to b.from a.prot b.prot here same)

pub begun : (a b : Range) (ranges : List Range) → (a.to ≡ b.from → a.prot ≡ b.prot → ⊥) → joined_rows a (b ∷ ranges) ≡ row_of a ∷ joined_rows b ranges
begun a b ranges apart = ap (λ t. map row_of (cond t (joined same_prot (grown a b) ranges) (a ∷ joined same_prot b ranges)))
    (joins-no a.to b.from a.prot b.prot apart)

pub grows : (rows all : List Row) (from to : ℕ) (prot : Prot) (r : Range) (ranges : List Range) → to ≡ r.from → prot ≡ r.prot
    → rows ++ joined_rows (range from to prot) (r ∷ ranges) ≡ all → rows ++ joined_rows (range from r.to prot) ranges ≡ all
grows rows all from to prot r ranges here same h = ap (λ x. rows ++ x) (sym (grew (range from to prot) r ranges here same)) ∙ h

pub begins : (rows all : List Row) (from to : ℕ) (prot : Prot) (r : Range) (ranges : List Range) → (to ≡ r.from → prot ≡ r.prot → ⊥)
    → rows ++ joined_rows (range from to prot) (r ∷ ranges) ≡ all → (rows ++ Run (4096 * from) (4096 * to) prot ∷ []) ++ joined_rows r ranges ≡ all
begins rows all from to prot r ranges apart h =
    append_assoc rows (Run (4096 * from) (4096 * to) prot ∷ []) (joined_rows r ranges)
    ∙ ap (λ x. rows ++ x) (sym (begun (range from to prot) r ranges apart)) ∙ h
