-- Modes: what is read is spelled so, and what is spelled is read.
use Rattle.std.proofs.Common.{◌≡◌, ℕ, List, [], ◌∷◌, ◌++◌, append-nil, Some, None, refl, sym, ap, subst, ◌∙◌}
use Rattle.std.specs.Prelude.{codes}
use Rattle.std.specs.List.{flat_map, AllByRecursion}
use Rattle.std.proofs.lemmas.Option.{same_Some}
use Rattle.av_trace.specs.declared.mode.Mode.{Mode}
use Rattle.av_trace.specs.declared.mode.Mode.TheVariants as modes
use Rattle.av_trace.specs.Mode.{IsMode, mode_words, maymove_at, fixed_at, dontunmap_at, names, mode_at}
use Rattle.av_text.specs.Word.{field, Reader, after}
use Rattle.av_text.proofs.NumberLaws.{addresses}
use Rattle.av_trace.proofs.PlaceLaws.{read_address}
use Rattle.av_text.proofs.WordLaws.{bind_some, named-found, IsEnd, IsRest, words_onto, Reads}

-- ---- what is read

-- what is read behind a name is a mode that is spelled by the name and what was read
abbrev IsName : List ℕ × Reader Mode → Type 0
IsName name = (bytes : List ℕ) (x : Mode × List ℕ) → name.1 bytes ≡ Some x →
    (name.0 ++ bytes ≡ words_onto (mode_words x.0) x.1) × IsMode x.0

maymove_is : IsName (codes " maymove", maymove_at)
maymove_is bytes x e =
    subst (λ (y : Mode × List ℕ). (codes " maymove" ++ bytes ≡ words_onto (mode_words y.0) y.1) × IsMode y.0) (same_Some _ _ e) (refl, tt)

fixed_is : IsName (codes " fixed", fixed_at)
fixed_is bytes x e =
    let a = bind_some {A = ℕ × List ℕ} _ _ _ e in
    let address = addresses.found bytes a.value a.first in
    subst (λ (y : Mode × List ℕ). (codes " fixed" ++ bytes ≡ words_onto (mode_words y.0) y.1) × IsMode y.0) (same_Some _ _ a.second)
    (ap (λ (t : List ℕ). codes " fixed" ++ t) address.0, address.1)

dontunmap_is : IsName (codes " dontunmap", dontunmap_at)
unfolding dontunmap_at
dontunmap_is [] x e = subst (λ (y : Mode × List ℕ). (codes " dontunmap" ≡ words_onto (mode_words y.0) y.1) × IsMode y.0) (same_Some _ _ e) (refl, tt)
dontunmap_is (b ∷ bytes) x e =
    let a = bind_some {A = ℕ × List ℕ} _ _ _ e in
    let address = addresses.found (b ∷ bytes) a.value a.first in
    subst (λ (y : Mode × List ℕ). (codes " dontunmap" ++ (b ∷ bytes) ≡ words_onto (mode_words y.0) y.1) × IsMode y.0) (same_Some _ _ a.second)
    (ap (λ (t : List ℕ). codes " dontunmap" ++ t) address.0, address.1)

each_name : AllByRecursion IsName names
each_name = (maymove_is, (fixed_is, (dontunmap_is, tt)))

mode_at-found : (bytes : List ℕ) (x : Mode × List ℕ) → mode_at bytes ≡ Some x → (bytes ≡ words_onto (mode_words x.0) x.1) × IsMode x.0
unfolding mode_at
mode_at-found [] x e = subst (λ (y : Mode × List ℕ). ([] ≡ words_onto (mode_words y.0) y.1) × IsMode y.0) (same_Some _ _ e) (refl, tt)
mode_at-found (b ∷ bytes) x e =
    let k = bind_some {A = Reader Mode × List ℕ} _ _ _ e in
    let name = named-found IsName names (b ∷ bytes) k.value each_name k.first in
    let is = name.fits k.value.1 x k.second in
    (name.is ∙ is.0, is.1)

-- ---- what is read again

mode_at-again : (mode : Mode) → IsMode mode → mode_at (flat_map field (mode_words mode)) ≡ Some (mode, [])
unfolding mode_at dontunmap_at after
mode_at-again modes.Plain h = refl
mode_at-again modes.MayMove h = refl
mode_at-again (modes.Fixed address) h = rw (read_address address h) refl
mode_at-again (modes.DontUnmap None) h = refl
mode_at-again (modes.DontUnmap (Some address)) h = rw (read_address address h) refl

pub last_mode : Reads mode_at IsMode mode_words IsEnd
last_mode = record {
  found = mode_at-found;
  again = λ mode rest fits end.
      let text : words_onto (mode_words mode) rest ≡ flat_map field (mode_words mode) = ap (words_onto (mode_words mode)) end
      ∙ append-nil (flat_map field (mode_words mode)) in
      ap mode_at text ∙ mode_at-again mode fits ∙ ap (λ (r : List ℕ). Some (mode, r)) (sym end);
  ends = λ rest end. subst IsRest (sym end) tt;
}
