-- The swap areas of a machine, by the bytes of page 0 of each.
use Rattle.std.proofs.Common.{◌≡◌, ℕ, suc, ◌+◌, ◌<◌, ◌≤◌, ◌^◌, List, [], ◌∷◌, ◌++◌, length, get_or, take, refl, sym, ap, subst, ◌∙◌, arith}
use Rattle.std.proofs.Common.{drop-cons, take-add}
use Rattle.std.proofs.lemmas.List.{length-map}
use Rattle.std.specs.Prelude.{map, slice_index_or, Some}
use Rattle.std.specs.List.{AllByRecursion}
use Rattle.av_plain.specs.Device.{setting_of}
use Rattle.av_audit_book.specs.Machine.{AreNamed, setting_of as setting_of_machine}
use Rattle.av_audit_book.specs.declared.machine.Head.{Head as ReadHead}
use Rattle.av_audit_book.specs.declared.machine.Machine.{Machine}
use Rattle.av_audit_machine.specs.FirstPages.{IsReadFrom, device_of, setting_by}
use Rattle.av_audit_machine.specs.Heads.{AreCounted, IsLayoutIn}
use Rattle.av_audit_machine.specs.declared.first_pages.Head.{Head}
use Rattle.av_audit_machine.proofs.HeadLaws.{AreHeads, machine-counted, machine-is, machine-named}

-- each of them, in turn
abbrev pub AreReadFrom : List Head → List ReadHead → Type 0
AreReadFrom [] [] = Unit {0}
AreReadFrom [] (one ∷ read) = ⊥
AreReadFrom (head ∷ heads) [] = ⊥
AreReadFrom (head ∷ heads) (one ∷ read) = IsReadFrom head.pages head.first.now one × AreReadFrom heads read

pub read-more : (heads : List Head) (head : Head) (read : List ReadHead) (one : ReadHead) → AreReadFrom heads read
    → IsReadFrom head.pages head.first.now one
    → AreReadFrom (heads ++ head ∷ []) (read ++ one ∷ [])
read-more [] head [] one h is = (is, tt)
read-more [] head (x ∷ read) one h is = absurd h
read-more (x ∷ heads) head [] one h is = absurd h
read-more (x ∷ heads) head (y ∷ read) one h is = (h.0, read-more heads head read one h.1 is)

pub read-next : (heads : List Head) (k : ℕ) (none : Head) (read new : List ReadHead) (one : ReadHead) → k < length heads
    → AreReadFrom (take k heads) read → IsReadFrom (get_or heads k none).pages (get_or heads k none).first.now one → new ≡ read ++ one ∷ [] → AreReadFrom (take (k + 1) heads) new
read-next heads k none read new one less h is more =
    let next : take (k + 1) heads ≡ take k heads ++ get_or heads k none ∷ [] =
    take-add k 1 heads ∙ ap (λ l. take k heads ++ take 1 l) (drop-cons heads k none (omega (arith, less))) in
    subst (λ hs. AreReadFrom hs new) (sym next)
    (subst (AreReadFrom (take k heads ++ get_or heads k none ∷ [])) (sym more) (read-more (take k heads) (get_or heads k none) read one h is))

abbrev sizes : List Head → List ℕ
sizes heads = map (λ (h : Head). h.pages) heads

abbrev firsts : List Head → List (List ℕ)
firsts heads = map (λ (h : Head). h.first.now) heads

-- they are those of a device that tells these pages
as-told : (told : ℕ → ℕ → List ℕ) (area : ℕ) (heads : List Head) (read : List ReadHead)
    → ((k : ℕ) → told (area + k) 0 ≡ slice_index_or (firsts heads) k []) → AreReadFrom heads read → AreHeads (Some told) area (sizes heads) read
as-told told area [] [] same h = tt
as-told told area [] (x ∷ read) same h = absurd h
as-told told area (x ∷ heads) [] same h = absurd h
as-told told area (x ∷ heads) (y ∷ read) same h =
    let here : area ≡ area + 0 = omega arith in
    let first = ap (λ a. told a 0) here ∙ same 0 in (
      (told area 0, λ some. refl, h.0.pages_are, subst (λ page. IsLayoutIn page x.pages y.layout) (sym first) h.0.layout, h.0.counted),
      as-told told (suc area) heads read
          (λ k. let next : suc area + k ≡ area + suc k = omega arith in ap (λ a. told a 0) next ∙ same (suc k)) h.1,
    )

are-small : (heads : List Head) (read : List ReadHead) → AreReadFrom heads read → AllByRecursion (λ n. n ≤ 2 ^ 32) (sizes heads)
are-small [] read h = tt
are-small (x ∷ heads) [] h = absurd h
are-small (x ∷ heads) (y ∷ read) h = (omega (arith, h.0.small), are-small heads read h.1)

module _ (heads : List Head) (machine : Machine) (h : AreReadFrom heads machine.heads.items) where
  abbrev told : ℕ → ℕ → List ℕ
  told = λ k page. slice_index_or (firsts heads) k []

  are-heads : AreHeads (Some told) 0 (sizes heads) machine.heads.items
  are-heads = as-told told 0 heads machine.heads.items
      (λ k. let here : 0 + k ≡ k = omega arith in ap (λ a. told a 0) here) h

  pub said-setting : setting_of_machine machine ≡ setting_by machine.frames heads
  said-setting =
      let is = machine-is machine.frames (device_of heads) (sizes heads) machine refl refl are-heads in
      is.2 ∙ ap (λ pages. setting_of machine.frames (record (device_of heads) { pages = Some pages })) (sym is.1)

  pub said-named : length heads ≤ 2 ^ 8 → AreNamed (setting_of_machine machine)
  said-named few =
      let many = length-map heads (λ (head : Head). head.pages) in
      machine-named (Some told) (sizes heads) machine (2 ^ 32) (omega arith) (omega (arith, many, few))
      (are-small heads machine.heads.items h) are-heads

  pub said-counted : AreCounted machine
  said-counted = machine-counted (Some told) (sizes heads) machine are-heads
