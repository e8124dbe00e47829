-- One swap area more is attached.
use Rattle.std.proofs.Common.{◌≡◌, ℕ, zero, suc, ◌+◌, ◌<◌, ◌≤◌, Bool, Bor, map, get_or, true, false, cond, List, [], ◌∷◌, ◌++◌, length, Option, Some, None}
use Rattle.std.proofs.Common.{is_some, refl, sym, ap, ◌∙◌, ◌==◌, arith}
use Rattle.std.proofs.lemmas.Bool.Decides.{nat_tests}
use Rattle.std.specs.List.{AllByRecursion}
use Rattle.std.proofs.lemmas.List.{append-nil, append_assoc, length-map, take-append-drop}
use Rattle.std.specs.Prelude.{slice_get, take, drop, unwrap_or}
use Rattle.av_base.specs.Words.{with_at}
use Rattle.av_swapdev.specs.Device.{Attach, History, IsRenewed, after_attach, most_pages}
use Rattle.av_plain.specs.Device.{Device}
use Rattle.av_step.specs.Step.{sizes_of}
use Rattle.av_replay.specs.Attach.{Attaches, Tries, attached_from}

-- the size of an area behind those that there are
sized-at : (pages : List ℕ) (n area : ℕ) → cond (area == length pages) (Some n) (slice_get pages area) ≡ slice_get (pages ++ n ∷ []) area
sized-at [] n zero = refl
sized-at [] n (suc area) = let other : (suc area == 0) ≡ false = grind (arith, nat_tests) in ap (λ b. cond b (Some n) None) other
sized-at (p ∷ pages) n zero =
    let other : (0 == suc (length pages)) ≡ false = grind (arith, nat_tests) in ap (λ b. cond b (Some n) (Some p)) other
sized-at (p ∷ pages) n (suc area) =
    let same : (suc area == suc (length pages)) ≡ (area == length pages) = grind (arith, nat_tests) in
    ap (λ b. cond b (Some n) (slice_get pages area)) same ∙ sized-at pages n area

sized : (pages : List ℕ) (n : ℕ) → with_at (length pages) (Some n) (sizes_of pages) ≡ sizes_of (pages ++ n ∷ [])
sized pages n = λ i area. sized-at pages n area i

small-push : (pages : List ℕ) (n : ℕ) → AllByRecursion (λ n. n ≤ most_pages) pages → n ≤ most_pages
    → AllByRecursion (λ n. n ≤ most_pages) (pages ++ n ∷ [])
small-push [] n all few = (few, tt)
small-push (p ∷ pages) n all few = (all.0, small-push pages n all.1 few)

still_told : (area : ℕ) (old new : Option (ℕ → ℕ → List ℕ)) → IsRenewed area old new → is_some new ≡ is_some old
still_told area None new h = ap is_some h.1
still_told area (Some pages) new h = ap is_some h.1

-- an area more
pub attached_more : (pages : List ℕ) (n area : ℕ) (old mid new : Device) → area ≡ length pages → Attaches pages old mid →
    new.sizes ≡ with_at area (Some n) mid.sizes → n ≤ most_pages → IsRenewed area mid.pages new.pages → new.failures ≡ mid.failures →
    Attaches (pages ++ n ∷ []) old new
attached_more pages n area old mid new is had sizes few renewed failures = record {
  small = small-push pages n had.small few;
  sizes = sizes ∙ (λ i. with_at (is i) (Some n) (had.sizes i)) ∙ sized pages n;
  told = still_told area mid.pages new.pages renewed ∙ had.told;
  failures = failures ∙ had.failures;
}

-- ---- what the device was asked

-- so many names were attached, and nothing else was asked
pub record Begun (names : List (List ℕ)) (count : ℕ) (old now : History) : Type 0 where
  pub attached : now.attached ≡ old.attached ++ attached_from 0 (take count names)
  pub written : now.written ≡ old.written

pub begun-none : (names : List (List ℕ)) (h : History) → Begun names 0 h h
begun-none names h = record { attached = sym (append-nil h.attached); written = refl }

-- the names that are lent
abbrev pub names_in : List (Bor (List ℕ)) → List (List ℕ)
names_in names = map (λ name. name.now) names

pub named-at : (names : List (Bor (List ℕ))) (k : ℕ) (none : Bor (List ℕ)) → k < length names → slice_get (names_in names) k
    ≡ Some (get_or names k none).now
named-at [] k none less = absurd (let never : k < 0 = less in omega (arith, never))
named-at (x ∷ xs) zero none less = refl
named-at (x ∷ xs) (suc k) none less = named-at xs k none (omega (arith, less))

pub named-below : (names : List (Bor (List ℕ))) (k : ℕ) → k < length names → suc k ≤ length (names_in names)
named-below names k less = let many = length-map names (λ (name : Bor (List ℕ)). name.now) in omega (arith, many, less)

-- the name at a place
cut-at : (names : List (List ℕ)) (k : ℕ) (name : List ℕ) → slice_get names k ≡ Some name → names ≡ take k names ++ (name ∷ drop (suc k) names)
cut-at [] k name at = cc
cut-at (x ∷ xs) zero name at = ap (λ o. unwrap_or o [] ∷ xs) at
cut-at (x ∷ xs) (suc k) name at = ap (λ l. x ∷ l) (cut-at xs k name at)

take-next : (names : List (List ℕ)) (k : ℕ) (name : List ℕ) → slice_get names k ≡ Some name → take (suc k) names ≡ take k names ++ name ∷ []
take-next [] k name at = cc
take-next (x ∷ xs) zero name at = ap (λ o. unwrap_or o [] ∷ []) at
take-next (x ∷ xs) (suc k) name at = ap (λ l. x ∷ l) (take-next xs k name at)

take-long : (names : List (List ℕ)) (k : ℕ) → k ≤ length names → length (take k names) ≡ k
take-long names zero few = refl
take-long [] (suc k) few = omega (arith, few)
take-long (x ∷ xs) (suc k) few = ap suc (take-long xs k (omega (arith, few)))

abbrev one : ℕ → List ℕ → Bool → Attach
one area name well = record { area = area; name = name; well = well }

from-push : (area : ℕ) (names : List (List ℕ)) (name : List ℕ) → attached_from area (names ++ name ∷ [])
    ≡ attached_from area names ++ one (area + length names) name true ∷ []
from-push area [] name = let same : area ≡ area + 0 = omega arith in ap (λ k. one k name true ∷ []) same
from-push area (x ∷ xs) name =
    let same : (area + 1) + length xs ≡ area + suc (length xs) = omega arith in
    ap (λ l. one area x true ∷ l)
    (from-push (area + 1) xs name ∙ ap (λ k. attached_from (area + 1) xs ++ one k name true ∷ []) same)

module _ (names : List (List ℕ)) (k : ℕ) (old mid new : History) (begun : Begun names k old mid) (few : k ≤ length names) where
  -- the next one
  pub begun-next : (name : List ℕ) → slice_get names k ≡ Some name → new ≡ after_attach k name true mid → Begun names (suc k) old new
  begun-next name at is = record {
    attached = ap (λ (h : History). h.attached) is ∙ ap (λ l. l ++ one k name true ∷ []) begun.attached
        ∙ append_assoc old.attached (attached_from 0 (take k names)) (one k name true ∷ [])
        ∙ ap (λ l. old.attached ++ l) (sym (ap (attached_from 0) (take-next names k name at) ∙ from-push 0 (take k names) name
        ∙ ap (λ n. attached_from 0 (take k names) ++ one n name true ∷ []) so_many));
    written = ap (λ (h : History). h.written) is ∙ begun.written;
  }
    where
      so_many : 0 + length (take k names) ≡ k
      so_many = let long = take-long names k few in omega (arith, long)

  -- all so far went well
  pub tries-well : new ≡ mid → Tries names k None old new
  tries-well is = record {
    well = take k names;
    rest = drop k names;
    tried = sym (take-append-drop k names);
    many = take-long names k few;
    attached = ap (λ (h : History). h.attached) is ∙ begun.attached ∙ ap (λ l. old.attached ++ l) (sym (append-nil (attached_from 0 (take k names))));
    written = ap (λ (h : History). h.written) is ∙ begun.written;
  }

  -- the next one failed
  pub tries-failed : (name : List ℕ) → slice_get names k ≡ Some name → new ≡ after_attach k name false mid → Tries names k (Some name) old new
  tries-failed name at is = record {
    well = take k names;
    rest = drop (suc k) names;
    tried = cut-at names k name at;
    many = take-long names k few;
    attached = ap (λ (h : History). h.attached) is ∙ ap (λ l. l ++ one k name false ∷ []) begun.attached
        ∙ append_assoc old.attached (attached_from 0 (take k names)) (one k name false ∷ []);
    written = ap (λ (h : History). h.written) is ∙ begun.written;
  }
