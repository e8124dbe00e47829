-- What a sound ledger says in plain sentences.
use Rattle.std.proofs.Common.{sym, ◌≡◌, ℕ, ◌+◌, ◌<◌, ◌≤◌, min, Bool, true, false, cond, not, ◌&&◌, ◌||◌, nat_lt, List, [], ◌∷◌, Option, Some, None, refl, ap, subst, ◌∙◌, arith, ◌==◌}
use Rattle.std.proofs.lemmas.Bool.Decides.{nat_tests}
use Rattle.std.specs.List.{AllByRecursion, IsDistinct}
use Rattle.av_base.specs.Words.{how_many}
use Rattle.av_base.specs.declared.slot.Slot.{Slot}
use Rattle.av_plain.specs.Ledger.{Cached, Entry, InFrame, InSlot, Ledger, Setting, Zero, frame_at, in_flight, is_cached, is_free, is_orphan, is_unmapped, map_count, names_frame, names_slot, same_slot, slot_entries, slot_of}
use Rattle.av_plain.specs.Sound.{AllSound, SaysSound, flights, is_at_slot, is_of, name_one, pairs, same_cached, slots, uses}
use Rattle.av_plain.specs.World.{World}
use Rattle.av_plain.proofs.Ledger.{how_many-append, how_many-found}
use Rattle.av_plain.proofs.Sound.Bound.{map_count-all, map_count-bound, slot_entries-bound}
use Rattle.av_plain.proofs.Sound.Changes.{any-counts, free-is}
use Rattle.av_plain.proofs.Sound.Counts.{frame_at-some, same-is, same-itself, slot-is, slot-itself, slot_of-some}
use Rattle.av_plain.proofs.Sound.Entries.{flag}
use Rattle.av_plain.specs.Sound.{mergings}
use Rattle.av_plain.specs.Ledger.{is_merged}
use Rattle.av_plain.proofs.Sound.Counts.{pair-frame}

-- none of them is counted: then each fails
others-differ : (c : Cached) (cs : List Cached) → how_many (λ (d : Cached). same_slot c.slot d.slot) cs ≡ 0 →
    how_many (λ (d : Cached). c.frame == d.frame) cs ≡ 0 → AllByRecursion (λ d. same_cached c d ≡ false) cs
others-differ c [] h i = tt
others-differ c (d ∷ cs) h i = (neither (same_slot c.slot d.slot) (c.frame == d.frame) _ _ h i, others-differ c cs (rest _ _ h) (rest _ _ i))
  where
    rest : (x n : ℕ) → x + n ≡ 0 → n ≡ 0
    rest x n h = omega (arith, h)

    neither : (a b : Bool) (n k : ℕ) → cond a 1 0 + n ≡ 0 → cond b 1 0 + k ≡ 0 → (a || b) ≡ false
    neither true b n k h i = absurd (omega (arith, h))
    neither false true n k h i = absurd (omega (arith, i))
    neither false false n k h i = refl

distinct : (cs : List Cached) → ((s : Slot) → how_many (λ (c : Cached). same_slot s c.slot) cs ≤ 1) →
    ((f : ℕ) → how_many (λ (c : Cached). f == c.frame) cs ≤ 1) → IsDistinct same_cached cs
unfolding IsDistinct
distinct [] h i = tt
distinct (c ∷ cs) h i = (
  others-differ c cs (let a = h c.slot in let b = flag _ _ (slot-itself c.slot) in omega (arith, a, b)) (let a = i c.frame in
      let b = flag _ _ (same-itself c.frame) in omega (arith, a, b)),
  distinct cs (λ s. let a = h s in omega (arith, a)) (λ f. let a = i f in omega (arith, a)),
)

-- a number that stands once at most differs from the rest
others-apart : (f : ℕ) (fs : List ℕ) → how_many (λ g. f == g) fs ≡ 0 → AllByRecursion (λ g. (f == g) ≡ false) fs
others-apart f [] h = tt
others-apart f (g ∷ fs) h = (not_one (f == g) _ h, others-apart f fs (rest _ _ h))
  where
    rest : (x n : ℕ) → x + n ≡ 0 → n ≡ 0
    rest x n h = omega (arith, h)

    not_one : (b : Bool) (n : ℕ) → cond b 1 0 + n ≡ 0 → b ≡ false
    not_one true n h = absurd (omega (arith, h))
    not_one false n h = refl

distinct-merged : (fs : List ℕ) → ((f : ℕ) → how_many (λ g. f == g) fs ≤ 1) → IsDistinct (λ f g. f == g) fs
unfolding IsDistinct
distinct-merged [] h = tt
distinct-merged (f ∷ fs) h = (
  others-apart f fs (let a = h f in let b = flag _ _ (same-itself f) in omega (arith, a, b)),
  distinct-merged fs (λ g. let a = h g in omega (arith, a)),
)

in_range_all : (cs : List Cached) (n : ℕ) → ((f : ℕ) → 0 < how_many (λ (c : Cached). f == c.frame) cs → f < n)
    → AllByRecursion (λ (c : Cached). c.frame < n) cs
in_range_all [] n h = tt
in_range_all (c ∷ cs) n h =
    (h c.frame (let b = flag _ _ (same-itself c.frame) in omega (arith, b)), in_range_all cs n (λ f i. h f (omega (arith, i))))

pub says : (m : Setting) (w : World) (l : Ledger) → AllSound m w l → SaysSound m w l
says m w l all = let s = all.ledger in record {
  processes = all.world.in_order;
  few = all.world.few;
  entries = s.in_order;
  at_pages = all.at_pages;
  cached_once = distinct l.cache s.slots_once (λ f. let a = s.frames_once f in omega (arith, a));
  frames = λ k e f at named. let p = how_many-found (names_frame f) k l.entries e at named in s.in_range f (omega (arith, p));
  cached_frames = in_range_all l.cache m.frames (λ f h. s.in_range f (omega (arith, h)));
  listed = λ f. how_many-append (λ g. f == g) l.active l.inactive ∙ s.listed f ∙ free_or (uses l f) (is_free l f) (free-is l f);
  flying = λ t. let a = s.flying t in let b = s.slots_once t in fits (flights l t) (slots l t) a b (is_cached l t)
      (any-counts (λ (c : Cached). same_slot t c.slot) l.cache);
  used = λ t. not_orphan t (frame_at l t) refl;
  merged_once = distinct-merged l.merged (λ f. let a = s.frames_once f in omega (arith, a));
  merged_mapped = λ f is. let a = s.merged f in let b = is_merged-counts f is in omega (arith, a, b);
  not_cached = λ f is. uncached f (is_merged-counts f is) (slot_of l f) refl;
  one_frame = λ f p a b d e unmerged at named at' named'. s.one p a b d e at at' (both f unmerged d e named named');
  one_slot = λ t p a b d e at named at' named'. s.one p a b d e at at' (slots_name_one t d e named named');
  mapped_few = λ f unmerged. map_count-bound m w l f all (not_merged f unmerged);
  slot_entries_few = λ t. slot_entries-bound m w l t all;
  mapped_of_merged = λ below f. map_count-all m w l f all below;
}
  where
    free_or : (n : ℕ) (b : Bool) → b ≡ (n == 0) → min 1 n ≡ cond b 0 1
    free_or n true h = let z : n ≡ 0 = grind (arith, nat_tests, h) in omega (arith, z)
    free_or n false h = let z : 0 < n = grind (arith, nat_tests, h) in omega (arith, z)

    fits : (n k : ℕ) → n ≤ k → k ≤ 1 → (b : Bool) → b ≡ nat_lt 0 k → n ≤ cond b 1 0
    fits n k h i true e = omega (arith, h, i)
    fits n k h i false e = let z : k ≡ 0 = grind (arith, nat_tests, e) in omega (arith, h, z)

    not_orphan : (t : Slot) (o : Option ℕ) → frame_at l t ≡ o → is_orphan l t ≡ false
    not_orphan t None at = ap (λ o. is_unmapped l o && not (in_flight l t) && slot_entries l t == 0) at
    not_orphan t (Some f) at =
        let u = all.ledger.used t f (frame_at-some f t l.cache at) in
        ap (λ o. is_unmapped l o && not (in_flight l t) && slot_entries l t == 0) at
        ∙ ap (λ y. (map_count l f == 0) && not y && slot_entries l t == 0)
        (any-counts (same_slot t) l.flight) ∙ none (map_count l f) (flights l t) (slot_entries l t) u
      where
        none : (a b c : ℕ) → 0 < b + c + a + 0 → ((a == 0) && not (nat_lt 0 b) && c == 0) ≡ false
        none a b c h = grind (arith, nat_tests, h)

    is_merged-counts : (f : ℕ) → is_merged l f ≡ true → 0 < mergings l f
    is_merged-counts f is = some _ (sym (any-counts (λ g. f == g) l.merged) ∙ is)
      where
        some : (n : ℕ) → nat_lt 0 n ≡ true → 0 < n
        some n e = grind (arith, nat_tests, e)

    not_merged : (f : ℕ) → is_merged l f ≡ false → mergings l f ≡ 0
    not_merged f is = none _ (sym (any-counts (λ g. f == g) l.merged) ∙ is)
      where
        none : (n : ℕ) → nat_lt 0 n ≡ false → n ≡ 0
        none n e = grind (arith, nat_tests, e)

    uncached : (f : ℕ) → 0 < mergings l f → (o : Option Slot) → slot_of l f ≡ o → slot_of l f ≡ None
    uncached f h None is = is
    uncached f h (Some t) is = let p = slot_of-some f t l.cache is in let q = pair-frame t f l.cache in let once = all.ledger.frames_once f in
        absurd (omega (arith, h, p, q, once))

    pos : (n : ℕ) → 0 < n → nat_lt 0 n ≡ true
    pos n h = grind (arith, nat_tests, h)

    -- the slot of a frame
    slot_pair : (f : ℕ) (r : Slot) (o : Option Slot) → slot_of l f ≡ o → is_at_slot o (InSlot r) ≡ true → 0 < pairs l r f
    slot_pair f r None at h = cc
    slot_pair f r (Some t) at h = subst (λ y. 0 < pairs l y f) (slot-is t r h) (slot_of-some f t l.cache at)

    -- two entries of one frame, or of its slot, name one memory
    both : (f : ℕ) → is_merged l f ≡ false → (d e : Entry) → is_of l f d ≡ true → is_of l f e ≡ true → name_one l d e ≡ true
    both f unmerged Zero e h i = absurd (no_zero (slot_of l f) h)
      where
        no_zero : (o : Option Slot) → is_at_slot o Zero ≡ true → ⊥
        no_zero None h = cc
        no_zero (Some t) h = cc
    both f unmerged (InFrame g v) Zero h i = absurd (no_zero (slot_of l f) i)
      where
        no_zero : (o : Option Slot) → is_at_slot o Zero ≡ true → ⊥
        no_zero None h = cc
        no_zero (Some t) h = cc
    both f unmerged (InFrame g v) (InFrame j u) h i = same (slot_of l f) (f == g) (f == j) refl refl h i
      where
        same : (o : Option Slot) (a b : Bool) → (f == g) ≡ a → (f == j) ≡ b → (a || is_at_slot o (InFrame g v)) ≡ true →
            (b || is_at_slot o (InFrame j u)) ≡ true → (g == j && mergings l g == 0) ≡ true
        same o true true x y h i = let z = ap (mergings l) (sym (same-is f g x)) ∙ not_merged f unmerged in grind (arith, nat_tests, x, y, z)
        same None false b x y h i = cc
        same (Some t) false b x y h i = cc
        same None true false x y h i = cc
        same (Some t) true false x y h i = cc
    both f unmerged (InFrame g v) (InSlot r) h i = frame_slot (f == g) refl h
      where
        frame_slot : (a : Bool) → (f == g) ≡ a → (a || is_at_slot (slot_of l f) (InFrame g v)) ≡ true → nat_lt 0 (pairs l r g) ≡ true
        frame_slot true x h = pos (pairs l r g) (subst (λ y. 0 < pairs l r y) (same-is f g x) (slot_pair f r (slot_of l f) refl i))
        frame_slot false x h = absurd (no_frame (slot_of l f) h)
          where
            no_frame : (o : Option Slot) → is_at_slot o (InFrame g v) ≡ true → ⊥
            no_frame None h = cc
            no_frame (Some t) h = cc
    both f unmerged (InSlot r) Zero h i = absurd (no_zero (slot_of l f) i)
      where
        no_zero : (o : Option Slot) → is_at_slot o Zero ≡ true → ⊥
        no_zero None h = cc
        no_zero (Some t) h = cc
    both f unmerged (InSlot r) (InFrame g v) h i = frame_slot (f == g) refl i
      where
        frame_slot : (a : Bool) → (f == g) ≡ a → (a || is_at_slot (slot_of l f) (InFrame g v)) ≡ true → nat_lt 0 (pairs l r g) ≡ true
        frame_slot true x i = pos (pairs l r g) (subst (λ y. 0 < pairs l r y) (same-is f g x) (slot_pair f r (slot_of l f) refl h))
        frame_slot false x i = absurd (no_frame (slot_of l f) i)
          where
            no_frame : (o : Option Slot) → is_at_slot o (InFrame g v) ≡ true → ⊥
            no_frame None h = cc
            no_frame (Some t) h = cc
    both f unmerged (InSlot r) (InSlot q) h i = same (slot_of l f) h i
      where
        same : (o : Option Slot) → is_at_slot o (InSlot r) ≡ true → is_at_slot o (InSlot q) ≡ true → same_slot r q ≡ true
        same None h i = cc
        same (Some t) h i = subst (λ y. same_slot y q ≡ true) (slot-is t r h) i

    slots_name_one : (t : Slot) (d e : Entry) → names_slot t d ≡ true → names_slot t e ≡ true → name_one l d e ≡ true
    slots_name_one t Zero e h i = cc
    slots_name_one t (InFrame g v) e h i = cc
    slots_name_one t (InSlot r) Zero h i = cc
    slots_name_one t (InSlot r) (InFrame g v) h i = cc
    slots_name_one t (InSlot r) (InSlot q) h i = subst (λ y. same_slot y q ≡ true) (slot-is t r h) i
