-- Pieces that rise.
use Rattle.std.proofs.Common.{◌≡◌, ◌⊎◌, inl, inr, append-nil, ℕ, ◌<◌, ◌≤◌, Bool, true, false, cond, ◌&&◌, ◌||◌, nat_le, nat_lt, List, [], ◌∷◌, ◌++◌, length, Option, Some, None, refl, sym, ap, subst, ◌∙◌, arith}
use Rattle.std.specs.Prelude.{option_map}
use Rattle.std.specs.List.{AllByRecursion}
use Rattle.std.proofs.lemmas.Bool.Decides.{nat_tests}
use Rattle.av_base.specs.Flags.{no_flags}
use Rattle.av_base.specs.declared.prot.Prot.{Prot}
use Rattle.av_plain.specs.Report.{AreApart, Range as PlainRange, prot_in}
use Rattle.av_audit_ranges.specs.declared.marks.Marks.{Marks}
use Rattle.av_audit_ranges.specs.declared.marks.Range.{Range}
use Rattle.av_audit_report.specs.Runs.{AreCut, IsBound, piece, plain_range, plain_ranges, prot_at}

-- none is left
pub none-left : {A : Type 0} (xs : List A) → length xs < 1 → xs ≡ []
none-left [] h = refl
none-left (x ∷ xs) h = absurd (omega (arith, h))

-- a range, where a list has none
abbrev pub no_range : Range
no_range = record { start = 0; end = 0; marks = record { prot = record { read = false; write = false; execute = false }; flags = no_flags } }

-- ---- pieces

-- the ranges end at a page, or below
abbrev EndBy : ℕ → List PlainRange → Type 0
EndBy page rs = AllByRecursion (λ (r : PlainRange). r.to ≤ page) rs

end-later : (page next : ℕ) (rs : List PlainRange) → page ≤ next → EndBy page rs → EndBy next rs
end-later page next [] more h = tt
end-later page next (r ∷ rs) more h = (let low = h.0 in omega (arith, low, more), end-later page next rs more h.1)

end-last : (next : ℕ) (rs : List PlainRange) (r : PlainRange) → r.to ≤ next → EndBy next rs → EndBy next (rs ++ r ∷ [])
end-last next [] r low h = (low, tt)
end-last next (a ∷ rs) r low h = (h.0, end-last next rs r low h.1)

apart-last : (rs : List PlainRange) (r : PlainRange) → AreApart rs → EndBy r.from rs → r.from < r.to → AreApart (rs ++ r ∷ [])
apart-last [] r h e less = less
apart-last (a ∷ []) r h e less = (h, e.0, less)
apart-last (a ∷ b ∷ rs) r h e less = (h.0, h.1, apart-last (b ∷ rs) r h.2 e.1 less)

past-none : (page : ℕ) (rs : List PlainRange) (q : ℕ) → EndBy page rs → page ≤ q → prot_in rs q ≡ None
past-none page [] q e low = refl
past-none page (r ∷ rs) q e low = ap (λ b. cond b (Some r.prot) (prot_in rs q)) (over r.from r.to (e.0)) ∙ past-none page rs q e.1 low
  where
    over : (from to : ℕ) → to ≤ page → (nat_le from q && nat_lt q to) ≡ false
    over from to h = grind (arith, nat_tests, h, low)

prot-last : (rs : List PlainRange) (r : PlainRange) (q : ℕ)
    → prot_in (rs ++ r ∷ []) q ≡ elim (prot_in rs q) [ None ↦ prot_in (r ∷ []) q | Some p ↦ Some p ]
prot-last [] r q = refl
prot-last (a ∷ rs) r q = by (nat_le a.from q && nat_lt q a.to) (prot-last rs r q)
  where
    by : (b : Bool) → prot_in (rs ++ r ∷ []) q ≡ elim (prot_in rs q) [ None ↦ prot_in (r ∷ []) q | Some p ↦ Some p ]
        → cond b (Some a.prot) (prot_in (rs ++ r ∷ []) q)
        ≡ elim (cond b (Some a.prot) (prot_in rs q)) [ None ↦ prot_in (r ∷ []) q | Some p ↦ Some p ]
    by true rest = refl
    by false rest = rest

plain-last : (cut : List Range) (r : Range) → plain_ranges (cut ++ r ∷ []) ≡ plain_ranges cut ++ plain_range r ∷ []
plain-last [] r = refl
plain-last (a ∷ cut) r = ap (λ rs. plain_range a ∷ rs) (plain-last cut r)

-- below a page the pieces say what the ranges do, and none goes on
pub record AreCutTo (said : ℕ → Option Marks) (page : ℕ) (cut : List Range) : Type 0 where
  pub apart : AreApart (plain_ranges cut)
  pub ends : EndBy page (plain_ranges cut)
  pub same : (q : ℕ) → q < page → prot_in (plain_ranges cut) q ≡ prot_at said q

pub none-cut : (said : ℕ → Option Marks) → AreCutTo said 0 []
none-cut said = record { apart = tt; ends = tt; same = λ q low. absurd (omega (arith, low)) }

-- one piece more
pub cut-more : (said : ℕ → Option Marks) (page next : ℕ) (marks : Option Marks) (cut new : List Range) → AreCutTo said page cut
    → IsBound said page (Some next) → marks ≡ said page → new ≡ cut ++ piece page next marks → AreCutTo said next new
cut-more said page next marks cut new h bound is made = subst (AreCutTo said next) (sym made) (by marks is)
  where
    low-or : (q : ℕ) (b : Bool) → nat_lt q page ≡ b → q < next → (nat_lt q page ≡ true) ⊎ (page ≤ q)
    low-or q true e high = inl e
    low-or q false e high = inr (grind (arith, nat_tests, e))

    below : (q : ℕ) → nat_lt q page ≡ true → q < page
    below q e = grind (arith, nat_tests, e)

    none : None ≡ said page → AreCutTo said next (cut ++ [])
    none e = subst (AreCutTo said next) (sym (append-nil cut)) (record {
      apart = h.apart;
      ends = end-later page next (plain_ranges cut) (let up = bound.0 in omega (arith, up)) h.ends;
      same = λ q high. elim (low-or q (nat_lt q page) refl high) [
        | inl low ↦ h.same q (below q low)
        | inr over ↦ past-none page (plain_ranges cut) q h.ends over
            ∙ ap (option_map (λ (k : Marks). k.prot)) (e ∙ sym (bound.1 q over high))
      ];
    })

    some : (k : Marks) → Some k ≡ said page → AreCutTo said next (cut ++ record { start = page; end = next; marks = k } ∷ [])
    some k e =
        let r : Range = record { start = page; end = next; marks = k } in record {
          apart = subst AreApart (sym (plain-last cut r)) (apart-last (plain_ranges cut) (plain_range r) h.apart h.ends bound.0);
          ends = subst (EndBy next) (sym (plain-last cut r)) (end-last next (plain_ranges cut) (plain_range r) (omega arith)
              (end-later page next (plain_ranges cut) (let up = bound.0 in omega (arith, up)) h.ends));
          same = λ q high. ap (λ rs. prot_in rs q) (plain-last cut r) ∙ prot-last (plain_ranges cut) (plain_range r) q
              ∙ elim (low-or q (nat_lt q page) refl high) [
                | inl low ↦ lower (prot_in (plain_ranges cut) q) q low ∙ h.same q (below q low)
                | inr over ↦ ap (λ o. elim o [ None ↦ prot_in (plain_range r ∷ []) q | Some p ↦ Some p ]) (past-none page (plain_ranges cut) q h.ends over)
                    ∙ ap (λ b. cond b (Some k.prot) None) (here q over high)
                    ∙ ap (option_map (λ (k : Marks). k.prot)) (e ∙ sym (bound.1 q over high))
              ];
        }
      where
        here : (q : ℕ) → page ≤ q → q < next → (nat_le page q && nat_lt q next) ≡ true
        here q low high = grind (arith, nat_tests, low, high)

        away : (q : ℕ) → nat_lt q page ≡ true → (nat_le page q && nat_lt q next) ≡ false
        away q low = grind (arith, nat_tests, low)

        lower : (o : Option Prot) (q : ℕ) → nat_lt q page ≡ true
            → elim o [ None ↦ cond (nat_le page q && nat_lt q next) (Some k.prot) None | Some p ↦ Some p ] ≡ o
        lower None q low = ap (λ b. cond b (Some k.prot) None) (away q low)
        lower (Some p) q low = refl

    by : (marks : Option Marks) → marks ≡ said page → AreCutTo said next (cut ++ piece page next marks)
    by None e = none e
    by (Some k) e = some k e

-- no bound is left
pub cut-all : (said : ℕ → Option Marks) (page : ℕ) (cut : List Range) → AreCutTo said page cut → IsBound said page None → AreCut said cut
cut-all said page cut h bound = record { apart = h.apart; same = λ q. by q (nat_lt q page) refl }
  where
    below : (q : ℕ) → nat_lt q page ≡ true → q < page
    below q e = grind (arith, nat_tests, e)

    over : (q : ℕ) → nat_lt q page ≡ false → page ≤ q
    over q e = grind (arith, nat_tests, e)

    by : (q : ℕ) (b : Bool) → nat_lt q page ≡ b → prot_in (plain_ranges cut) q ≡ prot_at said q
    by q true e = h.same q (below q e)
    by q false e = past-none page (plain_ranges cut) q h.ends (over q e)
        ∙ ap (option_map (λ (k : Marks). k.prot)) (sym (bound q (over q e)))
