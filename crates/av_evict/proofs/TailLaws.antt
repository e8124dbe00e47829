-- The last frames of a list, one after another.
use Rattle.std.proofs.Common.{slice_get, Bool, List, None, Option, Some, [], ap, arith, cond, false, is_none, length, map, min, not, refl, reverse, subst, suc, sym, take, true, ℕ, ◌++◌, ◌<◌, ◌==◌, ◌∙◌, ◌∷◌, ◌≡◌, ◌≤◌}
use Rattle.std.specs.Prelude.{MatchOption}
use Rattle.std.proofs.lemmas.Bool.Decides.{nat_tests}
use Rattle.std.proofs.lemmas.List.{append-nil, length-append, length-reverse, reverse-append, reverse-reverse, take-append-le, take_min}
use Rattle.av_base.proofs.Without.{without-append, without-none}
use Rattle.av_base.specs.Words.{how_many, without}
use Rattle.av_base.specs.declared.slot.Slot.{Slot}
use Rattle.av_trace.specs.declared.note.Cause.TheVariants.{Ksm, Locked, NoSlot, Referenced, WriteStarted, Writeback}
use Rattle.av_trace.specs.declared.note.Note.{Note}
use Rattle.av_trace.specs.declared.note.Note.TheVariants.{Aged, Dropped, Kept, Put, Started, Unmapped}
use Rattle.av_plain.specs.Event.{after_note, after_notes, change_entries, if_some, off_cache, off_lists, settle, when}
use Rattle.av_plain.specs.Ledger.{InSlot, Ledger, Setting, is_free, map_count, slot_of}
use Rattle.av_plain.specs.Pass.{IsSlotFor, Spared, is_dirty, unmap_notes}
use Rattle.av_plain.specs.Sound.{IsSound, mergings, pairs, uses}
use Rattle.av_plain.proofs.Access.{after_notes-append}
use Rattle.av_plain.proofs.Sound.Changes.{free-is}
use Rattle.av_plain.proofs.Sound.Counts.{holders-off_cache, same-itself}
use Rattle.av_plain.proofs.Sound.Entries.{flag}
use Rattle.av_plain.proofs.Sound.Pass.{count-reverse}
use Rattle.av_plain.proofs.Sound.Reclaim.{unmerged_of}
use Rattle.av_plain.proofs.Sound.Steps.{unmap_notes-kept}
use Rattle.av_evict.proofs.SystemLaws.{IsMidway, loose, midway-end}
use Rattle.av_evict.specs.Steps.{IsUsed}
use Rattle.av_evict.specs.System.{Always, Gives, SystemView, Tells, spares}
use Rattle.av_plain.specs.Reclaim.{Outcome, Outcomes, cause_of, from_tail, leave_notes}
use Rattle.av_trace.specs.declared.note.Cause.{Cause}
use Rattle.av_evict.proofs.StepLaws.{pair-frame_at}

-- ---- the last of a list goes

pub first-is : (f : ℕ) (fs : List ℕ) → Some f ≡ slice_get fs 0 → (rest : List ℕ) × (fs ≡ f ∷ rest)
first-is f [] h = cc
first-is f (g ∷ fs) h = (fs, ap (λ x. x ∷ fs) (some_is g f (sym h)))
  where
    some_is : (g f : ℕ) → Some g ≡ Some f → g ≡ f
    some_is g f h = cc

pub first-no : (fs : List ℕ) → None ≡ slice_get fs 0 → fs ≡ []
first-no [] h = refl
first-no (g ∷ fs) h = cc

count-rev : (f : ℕ) (fs : List ℕ) → how_many (λ g. f == g) (reverse fs) ≡ how_many (λ g. f == g) fs
count-rev f fs = let e = count-reverse (λ g. f == g) fs [] in omega (arith, e)

without-self : (f : ℕ) → without f (f ∷ []) ≡ []
without-self f = by (f == f) (same-itself f)
  where
    by : (b : Bool) → b ≡ true → cond (not b) (f ∷ []) [] ≡ []
    by true h = refl
    by false h = cc

-- the list from its head on
turned : (xs fs : List ℕ) (f : ℕ) → reverse xs ≡ f ∷ fs → xs ≡ reverse fs ++ f ∷ []
turned xs fs f is = sym (reverse-reverse xs) ∙ ap reverse is ∙ reverse-append (f ∷ []) fs

once-in : (xs fs : List ℕ) (f : ℕ) → reverse xs ≡ f ∷ fs → how_many (λ g. f == g) xs ≤ 1 → how_many (λ g. f == g) fs ≡ 0
once-in xs fs f is once = let a = count-rev f xs in let b = ap (how_many (λ g. f == g)) is in let c = flag _ _ (same-itself f) in
    omega (arith, a, b, c, once)

pub last-off : (xs fs : List ℕ) (f : ℕ) → reverse xs ≡ f ∷ fs → how_many (λ g. f == g) xs ≤ 1 → without f xs ≡ reverse fs
last-off xs fs f is once = ap (without f) (turned xs fs f is) ∙ without-append f (reverse fs) (f ∷ [])
    ∙ (λ i. without-none f (reverse fs) (count-rev f fs ∙ once-in xs fs f is once) i ++ without-self f i) ∙ append-nil (reverse fs)

-- at its head again, or gone from it, what was before it in line comes next
pub last-moved : (xs fs : List ℕ) (f : ℕ) → reverse xs ≡ f ∷ fs → how_many (λ g. f == g) xs ≤ 1 → reverse (f ∷ without f xs) ≡ fs ++ f ∷ []
last-moved xs fs f is once = ap (λ z. reverse (f ∷ z)) (last-off xs fs f is once) ∙ reverse-append (f ∷ []) (reverse fs)
    ∙ ap (λ z. z ++ f ∷ []) (reverse-reverse fs)

pub last-gone : (xs fs : List ℕ) (f : ℕ) → reverse xs ≡ f ∷ fs → how_many (λ g. f == g) xs ≤ 1 → reverse (without f xs) ≡ fs ++ []
last-gone xs fs f is once = ap reverse (last-off xs fs f is once) ∙ reverse-reverse fs ∙ sym (append-nil fs)

inactive-once : (m : Setting) (l : Ledger) (f : ℕ) → IsSound m l → how_many (λ g. f == g) l.inactive ≤ 1
inactive-once m l f sound = let d = sound.listed f in omega (arith, d)

active-once : (m : Setting) (l : Ledger) (f : ℕ) → IsSound m l → how_many (λ g. f == g) l.active ≤ 1
active-once m l f sound = let d = sound.listed f in omega (arith, d)

pub inactive-used : (m : Setting) (l : Ledger) (f : ℕ) → IsSound m l → Some f ≡ slice_get (reverse l.inactive) 0 → IsUsed f l
inactive-used m l f sound h =
    let r = first-is f (reverse l.inactive) h in
    let a = count-rev f l.inactive in
    let b = ap (how_many (λ g. f == g)) r.1 in
    let c = flag _ _ (same-itself f) in
    let d = sound.listed f in
    omega (arith, a, b, c, d)

pub active-used : (m : Setting) (l : Ledger) (f : ℕ) → IsSound m l → Some f ≡ slice_get (reverse l.active) 0 → IsUsed f l
active-used m l f sound h =
    let r = first-is f (reverse l.active) h in
    let a = count-rev f l.active in
    let b = ap (how_many (λ g. f == g)) r.1 in
    let c = flag _ _ (same-itself f) in
    let d = sound.listed f in
    omega (arith, a, b, c, d)

-- ---- what the outcome leaves of inactive

-- the lists are as they were after a frame was sent to its slot
pub unmap-lists : (l : Ledger) (f : ℕ) (s : Slot) → ((after_notes l (unmap_notes l f s)).inactive ≡ l.inactive)
    × ((after_notes l (unmap_notes l f s)).active ≡ l.active)
unmap-lists l f s = subst (λ x. (x.inactive ≡ l.inactive) × (x.active ≡ l.active))
    (sym (after_notes-append l (when (is_none (slot_of l f)) (Put f s)) (when (not (map_count l f == 0)) (Unmapped f))))
    (un (not (map_count l f == 0)) (after_notes l (when (is_none (slot_of l f)) (Put f s))) (put (is_none (slot_of l f))))
  where
    put : (b : Bool) → ((after_notes l (when b (Put f s))).inactive ≡ l.inactive) × ((after_notes l (when b (Put f s))).active ≡ l.active)
    put true = (refl, refl)
    put false = (refl, refl)

    un : (b : Bool) (x : Ledger) → (x.inactive ≡ l.inactive) × (x.active ≡ l.active) →
        ((after_notes x (when b (Unmapped f))).inactive ≡ l.inactive) × ((after_notes x (when b (Unmapped f))).active ≡ l.active)
    un false x h = h
    un true x h = at (slot_of x f)
      where
        at : (o : Option Slot) → ((if_some o (λ s. change_entries f (λ _. InSlot s)) x).inactive ≡ l.inactive)
            × ((if_some o (λ s. change_entries f (λ _. InSlot s)) x).active ≡ l.active)
        at None = h
        at (Some t) = h

-- a frame that was sent to its slot and dropped is free
drop-off : (m : Setting) (l : Ledger) (f : ℕ) (s : Slot) → IsSound m l → 0 < pairs l s f → map_count l f ≡ 0 →
    (after_note (Dropped s) l).inactive ≡ without f l.inactive
drop-off m l f s sound pair none = ap (λ o. (if_some o settle (off_cache s l)).inactive) (pair-frame_at m l s f sound pair)
    ∙ by (is_free (off_cache s l) f) (free-is (off_cache s l) f ∙ free)
  where
    by : (b : Bool) → b ≡ true → (cond b (off_lists f (off_cache s l)) (off_cache s l)).inactive ≡ without f l.inactive
    by true h = refl
    by false h = cc

    free : (uses (off_cache s l) f == 0) ≡ true
    free = let h = holders-off_cache s f l.cache in let once = sound.frames_once f in
        let z : uses (off_cache s l) f ≡ 0 = omega (arith, h, once, pair, none) in grind (arith, nat_tests, z)

-- a frame that reclaim looked at went to the head, or left the list
outcome-inactive : (m : Setting) (sp : Spared) (l : Ledger) (f : ℕ) (fs : List ℕ) (ns : List Note) → IsSound m l → reverse l.inactive ≡ f ∷ fs →
    IsUsed f l → Outcome m sp l f ns → (more : List ℕ) × (reverse (after_notes l ns).inactive ≡ fs ++ more)
outcome-inactive m sp l f fs ns sound is used out = by (cause_of m sp l f) refl out
  where
    once : how_many (λ g. f == g) l.inactive ≤ 1
    once = inactive-once m l f sound

    moved : (x : List Note) → (after_notes l x).inactive ≡ f ∷ without f l.inactive → ns ≡ x →
        (more : List ℕ) × (reverse (after_notes l ns).inactive ≡ fs ++ more)
    moved x goes h = (f ∷ [], ap (λ x. reverse (after_notes l x).inactive) h ∙ ap reverse goes ∙ last-moved l.inactive fs f is once)

    gone : (x : List Note) → (after_notes l x).inactive ≡ without f l.inactive → ns ≡ x →
        (more : List ℕ) × (reverse (after_notes l ns).inactive ≡ fs ++ more)
    gone x goes h = ([], ap (λ x. reverse (after_notes l x).inactive) h ∙ ap reverse goes ∙ last-gone l.inactive fs f is once)

    left : mergings l f ≡ 0 → (s : Slot) → IsSlotFor m sp l f s → (b : Bool) → ns ≡ unmap_notes l f s ++ cond b (Started s ∷ Kept f WriteStarted ∷ []) (Dropped s ∷ []) →
        (more : List ℕ) × (reverse (after_notes l ns).inactive ≡ fs ++ more)
    left unmerged s for true h = moved _ (ap (λ x. x.inactive) (after_notes-append l (unmap_notes l f s) (Started s ∷ Kept f WriteStarted ∷ []))
        ∙ ap (λ xs. f ∷ without f xs) (unmap-lists l f s).0) h
    left unmerged s for false h = let u = unmap_notes-kept m sp l f s sound for unmerged used in
        gone _ (ap (λ x. x.inactive) (after_notes-append l (unmap_notes l f s) (Dropped s ∷ []))
        ∙ drop-off m (after_notes l (unmap_notes l f s)) f s u.sound u.pair u.none ∙ ap (without f) (unmap-lists l f s).0) h

    by : (o : Option Cause) → cause_of m sp l f ≡ o → MatchOption o ((s : Slot) × IsSlotFor m sp l f s × (ns ≡ leave_notes l f s)) (λ why. ns ≡ Kept f why ∷ []) →
        (more : List ℕ) × (reverse (after_notes l ns).inactive ≡ fs ++ more)
    by (Some Writeback) is h = moved _ refl h
    by (Some WriteStarted) is h = moved _ refl h
    by (Some Referenced) is h = gone _ refl h
    by (Some NoSlot) is h = gone _ refl h
    by (Some Locked) is h = gone _ refl h
    by (Some Ksm) is h = gone _ refl h
    by None is h = left (unmerged_of m sp l f is) h.0 h.1 (is_dirty l f h.0) h.2

-- ---- one after another

-- as many are left to do, and there are so many
abbrev pub ReclaimsLeft : Setting → Spared → ℕ → Ledger → List Note → Type 0
ReclaimsLeft m sp count l ns = count ≤ length l.inactive → Outcomes m sp l (from_tail count l.inactive) ns

abbrev pub AgesLeft : ℕ → Ledger → List Note → Type 0
AgesLeft count l ns = count ≤ length l.active → ns ≡ map Aged (from_tail count l.active)

same_length : (xs fs : List ℕ) (more : List ℕ) → reverse xs ≡ fs ++ more → length fs ≤ length xs
same_length xs fs more is = let a = length-reverse xs in let b = ap length is in let c = length-append fs more in omega (arith, a, b, c)

-- as many frames are inactive as are left to look at: one fewer once the last was reclaimed
pub reclaim-leaves : (m : Setting) (sp : Spared) (k : ℕ) (l : Ledger) (f : ℕ) (ns : List Note) → IsSound m l →
    Some f ≡ slice_get (reverse l.inactive) 0 → Outcome m sp l f ns → suc k ≤ length l.inactive →
    k ≤ length (after_notes l ns).inactive
reclaim-leaves m sp k l f ns sound first out many =
    let r = first-is f (reverse l.inactive) first in
    let o = outcome-inactive m sp l f r.0 ns sound r.1 (inactive-used m l f sound first) out in
    let a = length-reverse l.inactive in
    let b = ap length r.1 in
    let c = same_length (after_notes l ns).inactive r.0 o.0 o.1 in
    omega (arith, a, b, c, many)

-- and as many active
pub age-leaves : (m : Setting) (k : ℕ) (l : Ledger) (f : ℕ) (ns : List Note) → IsSound m l → Some f ≡ slice_get (reverse l.active) 0 →
    ns ≡ Aged f ∷ [] → suc k ≤ length l.active → k ≤ length (after_notes l ns).active
age-leaves m k l f ns sound first is many =
    let r = first-is f (reverse l.active) first in
    let o : reverse (after_notes l ns).active ≡ r.0 ++ [] = ap (λ x. reverse (after_notes l x).active) is
    ∙ last-gone l.active r.0 f r.1 (active-once m l f sound) in
    let a = length-reverse l.active in
    let b = ap length r.1 in
    let c = same_length (after_notes l ns).active r.0 [] o in
    omega (arith, a, b, c, many)

-- so there is a last one
pub last-some : (k : ℕ) (fs : List ℕ) → 0 < k → k ≤ length fs → None ≡ slice_get (reverse fs) 0 → ⊥
last-some k fs some many none = let a = length-reverse fs in let b = ap length (first-no (reverse fs) none) in omega (arith, a, b, some, many)

pub reclaims-more : (m : Setting) (sp : Spared) (k : ℕ) (l : Ledger) (f : ℕ) (ns rest : List Note) → IsSound m l →
    Some f ≡ slice_get (reverse l.inactive) 0 → Outcome m sp l f ns → ReclaimsLeft m sp k (after_notes l ns) rest →
    ReclaimsLeft m sp (suc k) l (ns ++ rest)
reclaims-more m sp k l f ns rest sound first out left many =
    let r = first-is f (reverse l.inactive) first in
    let o = outcome-inactive m sp l f r.0 ns sound r.1 (inactive-used m l f sound first) out in
    let few : k ≤ length r.0 = (let a = length-reverse l.inactive in let b = ap length r.1 in omega (arith, a, b, many)) in
    let enough = reclaim-leaves m sp k l f ns sound first out many in
    subst (λ xs. Outcomes m sp l (take (suc k) xs) (ns ++ rest)) (sym r.1) (
      ns,
      rest,
      refl,
      out,
      subst (λ xs. Outcomes m sp (after_notes l ns) xs rest) (ap (take k) o.1 ∙ take-append-le k r.0 o.0 few)
          (left enough),
    )

pub ages-more : (m : Setting) (k : ℕ) (l : Ledger) (f : ℕ) (ns rest : List Note) → IsSound m l →
    Some f ≡ slice_get (reverse l.active) 0 → ns ≡ Aged f ∷ [] → AgesLeft k (after_notes l ns) rest → AgesLeft (suc k) l (ns ++ rest)
ages-more m k l f ns rest sound first is left many =
    let r = first-is f (reverse l.active) first in
    let o : reverse (after_notes l ns).active ≡ r.0 ++ [] = ap (λ x. reverse (after_notes l x).active) is
    ∙ last-gone l.active r.0 f r.1 (active-once m l f sound) in
    let few : k ≤ length r.0 = (let a = length-reverse l.active in let b = ap length r.1 in omega (arith, a, b, many)) in
    let enough = age-leaves m k l f ns sound first is many in
    (λ i. is i ++ (left enough ∙ ap (map Aged) (ap (take k) o ∙ take-append-le k r.0 [] few)) i) ∙ ap (λ xs. map Aged (take (suc k) xs)) (sym r.1)

-- the last ones, or all where there are fewer
from_tail-min : (k n : ℕ) (fs : List ℕ) → n ≡ length fs → from_tail (min k n) fs ≡ from_tail k fs
from_tail-min k n fs is = ap (λ x. take (min k x) (reverse fs)) (is ∙ sym (length-reverse fs)) ∙ take_min k (reverse fs)

-- as many as there are, or all
pub reclaims-end : (a b : SystemView) (n0 n1 : List Note) (count all n k : ℕ) → Tells a (λ l. all ≡ length l.inactive) → n ≡ min count all →
    IsMidway a b n0 n1 (ReclaimsLeft a.setting (spares a None) k) (ReclaimsLeft a.setting (spares a None) n) →
    ((l : Ledger) → IsSound b.setting l → b.stands l → ReclaimsLeft a.setting (spares a None) k l []) →
    Gives a b n0 n1 Always (λ l ns. Outcomes a.setting (spares a None) l (from_tail count l.inactive) ns)
reclaims-end a b n0 n1 count all n k tells is mid none = midway-end a b n0 n1 (ReclaimsLeft a.setting (spares a None) k)
    (ReclaimsLeft a.setting (spares a None) n)
    (λ l ns. Outcomes a.setting (spares a None) l (from_tail count l.inactive) ns) mid none
    (λ l ns stands sound h. let same = tells l (loose a.setting _ l sound) stands in
    subst (λ fs. Outcomes a.setting (spares a None) l fs ns) (ap (λ x. from_tail x l.inactive) is ∙ from_tail-min count all l.inactive same)
    (h (omega (arith, same, is))))

pub ages-end : (a b : SystemView) (n0 n1 : List Note) (count all n k : ℕ) → Tells a (λ l. all ≡ length l.active) → n ≡ min count all →
    IsMidway a b n0 n1 (AgesLeft k) (AgesLeft n) → ((l : Ledger) → IsSound b.setting l → b.stands l → AgesLeft k l []) →
    Gives a b n0 n1 Always (λ l ns. ns ≡ map Aged (from_tail count l.active))
ages-end a b n0 n1 count all n k tells is mid none = midway-end a b n0 n1 (AgesLeft k) (AgesLeft n) (λ l ns. ns ≡ map Aged (from_tail count l.active))
    mid none
    (λ l ns stands sound h. let same = tells l (loose a.setting _ l sound) stands in
    h (omega (arith, same, is)) ∙ ap (map Aged) (ap (λ x. from_tail x l.active) is ∙ from_tail-min count all l.active same))
