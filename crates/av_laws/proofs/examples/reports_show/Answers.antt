use Rattle.std.specs.Prelude.{◌≡◌, ℕ, Bool, true, false, cond, ◌&&◌, ◌||◌, ◌==◌, nat_le, nat_lt, if◌then◌else◌, List, [], ◌∷◌, Some, None, option_map, refl}
use Rattle.std.proofs.Common.{arith, ap, sym}
use Rattle.std.proofs.lemmas.Bool.{false≢true}
use Rattle.std.proofs.lemmas.Bool.Decides.{nat_tests}
use Rattle.av_base.specs.Flags.{no_flags}
use Rattle.av_base.specs.Page.{address_of}
use Rattle.av_base.specs.declared.prot.Prot.{Prot}
use Rattle.av_plain.specs.Report.{Range, prot_in}
use Rattle.av_plain.specs.World.{Page, zeros}
use Rattle.av_laws.specs.Examples.{read_only, read_write, two_kinds}
use Rattle.av_laws.proofs.examples.reports_show.Goals as goal

abbrev runs : List Range
runs = record { from = 0x7fffffffc; to = 0x7fffffffe; prot = read_write } ∷ record { from = 0x7fffffffe; to = 0x7ffffffff; prot = read_only } ∷ []

-- each page is in a run exactly where it is mapped, by whether it is the upper one, and one of the lower two
cases : (a d e : Bool) (b c : Bool) → d ≡ (b || c) → e ≡ a → (a && (b || c)) ≡ false
    → cond d (Some read_write) (cond e (Some read_only) None) ≡ option_map
    (λ (p : Page). p.prot) (if a then Some (zeros read_only) else (if b || c then Some (zeros read_write) else None))
cases true d e true c x y h = cc
cases true d e false true x y h = cc
cases true d e false false x y h = λ i. cond (x i) (Some read_write) (cond (y i) (Some read_only) None)
cases false d e true c x y h = λ i. cond (x i) (Some read_write) (cond (y i) (Some read_only) None)
cases false d e false true x y h = λ i. cond (x i) (Some read_write) (cond (y i) (Some read_only) None)
cases false d e false false x y h = λ i. cond (x i) (Some read_write) (cond (y i) (Some read_only) None)

covered : (page : ℕ) → prot_in runs page ≡ option_map (λ (p : Page). p.prot) (two_kinds page)
covered page = cases (page == 0x7fffffffe) _ _ (page == 0x7fffffffd) (page == 0x7fffffffc) (grind (arith, nat_tests)) (grind (arith, nat_tests))
    (grind (arith, nat_tests))

pub returns-clause-two_runs : goal.returns-clause-two_runs
returns-clause-two_runs c = (
  [],
  record {
    answer =
        (refl, (runs, refl, (omega arith, omega arith, (λ e p. false≢true (sym (ap (λ (p : Prot). p.write) p))), omega arith), covered), refl);
    notes = refl;
  },
)

-- the one page
covers : (page : ℕ) (b : Bool) → (nat_le 0x7fffffffe page && nat_lt page 0x7ffffffff) ≡ b →
    cond (nat_le 0x7fffffffe page && nat_lt page 0x7ffffffff) (Some read_write) None ≡ option_map (λ (p : Page). p.prot)
    (if b then Some (zeros read_write) else None)
covers page true is i = cond (is i) (Some read_write) None
covers page false is i = cond (is i) (Some read_write) None

flags_of : (page : ℕ) (b : Bool) → (nat_le 0x7fffffffe000 (address_of page) && nat_lt (address_of page) 0x7ffffffff000) ≡ b →
    cond (nat_le 0x7fffffffe000 (address_of page) && nat_lt (address_of page) 0x7ffffffff000) (Some no_flags) None
    ≡ option_map (λ (p : Page). p.flags) (if b then Some (zeros read_write) else None)
flags_of page true is i = cond (is i) (Some no_flags) None
flags_of page false is i = cond (is i) (Some no_flags) None

pub returns-clause-one_area : goal.returns-clause-one_area
returns-clause-one_area c = (
  [],
  record {
    answer = (
      refl,
      (
        record { from = 0x7fffffffe; to = 0x7ffffffff; prot = read_write } ∷ [],
        refl,
        omega arith,
        λ page. covers page (page == 0x7fffffffe) (grind (arith, nat_tests)),
        λ page. flags_of page (page == 0x7fffffffe) (grind (arith, nat_tests)),
        (tt, tt),
      ),
      refl,
    );
    notes = refl;
  },
)

pub returns-clause-chain_falls : goal.returns-clause-chain_falls
returns-clause-chain_falls c h = let falls = h.1.answer.1.5.0.0 in omega (arith, falls)

pub returns-clause-chain_stands : goal.returns-clause-chain_stands
returns-clause-chain_stands c h = let stands = h.1.answer.1.5.0.0 in omega (arith, stands)
