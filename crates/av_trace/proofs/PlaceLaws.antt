-- Places: what is read is spelled so, and what is spelled is read.
use Rattle.std.proofs.Common.{◌≡◌, ℕ, List, [], ◌∷◌, ◌++◌, append_assoc, append-nil, Some, refl, sym, ap, subst, ◌∙◌}
use Rattle.std.specs.Prelude.{codes}
use Rattle.std.specs.List.{flat_map, AllByRecursion}
use Rattle.std.proofs.lemmas.Option.{same_Some}
use Rattle.av_trace.specs.declared.place.Place.{Place}
use Rattle.av_trace.specs.declared.place.Place.TheVariants as places
use Rattle.av_text.specs.Hex.{hex}
use Rattle.av_text.specs.Number.{IsWide, address_at}
use Rattle.av_trace.specs.Place.{IsPlace, place_words, kinds, place_at}
use Rattle.av_text.specs.Word.{field, after}
use Rattle.av_text.proofs.NumberLaws.{addresses}
use Rattle.av_text.proofs.WordLaws.{bind_some, named-found, IsEnd, IsRest, words_onto, Reads}

-- a place of this kind is spelled by the name and the address
abbrev IsKind : List ℕ × (ℕ → Place) → Type 0
IsKind kind = (address : ℕ) →
    (flat_map field (place_words (kind.1 address)) ≡ kind.0 ++ words_onto (hex address ∷ []) []) × (IsWide address → IsPlace (kind.1 address))

kind_is : (name : List ℕ) (address : ℕ) → flat_map field (name ∷ hex address ∷ []) ≡ field name ++ words_onto (hex address ∷ []) []
kind_is name address = ap (λ (t : List ℕ). field name ++ t) (sym (append-nil (flat_map field (hex address ∷ []))))

each_kind : AllByRecursion IsKind kinds
each_kind = (λ a. (kind_is (codes "at") a, λ h. h), (λ a. (kind_is (codes "fixed") a, λ h. h), (λ a. (kind_is (codes "noreplace") a, λ h. h), tt)))

onto_append : (words : List (List ℕ)) (rest : List ℕ) → words_onto words [] ++ rest ≡ words_onto words rest
onto_append words rest = ap (λ (t : List ℕ). t ++ rest) (append-nil (flat_map field words))

place_at-found : (bytes : List ℕ) (x : Place × List ℕ) → place_at bytes ≡ Some x → (bytes ≡ words_onto (place_words x.0) x.1) × IsPlace x.0
unfolding place_at
place_at-found [] x e = subst (λ (y : Place × List ℕ). ([] ≡ words_onto (place_words y.0) y.1) × IsPlace y.0) (same_Some _ _ e) (refl, tt)
place_at-found (b ∷ bytes) x e =
    let k = bind_some {A = (ℕ → Place) × List ℕ} _ _ _ e in
    let a = bind_some {A = ℕ × List ℕ} _ _ _ k.second in
    let name = named-found IsKind kinds (b ∷ bytes) k.value each_kind k.first in
    let address = addresses.found k.value.1 a.value a.first in
    let kind = name.fits a.value.0 in
    let same : (k.value.0 a.value.0, a.value.1) ≡ x = same_Some _ _ a.second in
    let whole : b ∷ bytes ≡ words_onto (place_words (k.value.0 a.value.0)) a.value.1 =
    name.is ∙ ap (λ (t : List ℕ). name.name ++ t) (address.0 ∙ sym (onto_append (hex a.value.0 ∷ []) a.value.1))
    ∙ sym (append_assoc name.name (words_onto (hex a.value.0 ∷ []) []) a.value.1) ∙ ap (λ (t : List ℕ). t ++ a.value.1) (sym kind.0) in
    subst (λ (y : Place × List ℕ). (b ∷ bytes ≡ words_onto (place_words y.0) y.1) × IsPlace y.0) same (whole, kind.1 address.1)

pub read_address : (address : ℕ) → IsWide address → address_at (flat_map field (hex address ∷ [])) ≡ Some (address, [])
read_address address wide = ap address_at (sym (append-nil (flat_map field (hex address ∷ [])))) ∙ addresses.again address [] wide tt

place_at-again : (place : Place) → IsPlace place → place_at (flat_map field (place_words place)) ≡ Some (place, [])
unfolding place_at after
place_at-again places.Auto h = refl
place_at-again (places.At address) h = rw (read_address address h) refl
place_at-again (places.Fixed address) h = rw (read_address address h) refl
place_at-again (places.NoReplace address) h = rw (read_address address h) refl

pub last_place : Reads place_at IsPlace place_words IsEnd
last_place = record {
  found = place_at-found;
  again = λ place rest fits end.
      let text : words_onto (place_words place) rest ≡ flat_map field (place_words place) = ap (words_onto (place_words place)) end
      ∙ append-nil (flat_map field (place_words place)) in
      ap place_at text ∙ place_at-again place fits ∙ ap (λ (r : List ℕ). Some (place, r)) (sym end);
  ends = λ rest end. subst IsRest (sym end) tt;
}
