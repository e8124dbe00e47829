-- Soundness after the direct pass, and what the pass keeps.
use Rattle.std.specs.Prelude.{MatchBool}
use mathlib.Core.List.{reverse_aux}
use Rattle.std.proofs.Common.{◌≡◌, ℕ, ◌+◌, ◌<◌, ◌≤◌, min, Bool, true, false, cond, not, List, [], ◌∷◌, ◌++◌, filter, Some, refl, sym, ap, subst, ◌∙◌, arith, ◌==◌, reverse}
use Rattle.std.proofs.lemmas.Bool.Decides.{nat_tests}
use Rattle.av_base.specs.Words.{how_many}
use Rattle.av_base.specs.declared.slot.Slot.{Slot}
use Rattle.av_trace.specs.declared.note.Note.{Note}
use Rattle.av_trace.specs.declared.note.Note.TheVariants.{Dropped, Started}
use Rattle.av_plain.specs.Event.{after_note, after_notes, off_cache}
use Rattle.av_plain.specs.Ledger.{Ledger, Setting, frame_at, has_free, map_count, same_slot, slot_entries}
use Rattle.av_plain.specs.Pass.{Completes, IsPass, IsSlotFor, Seeks, Spared, Turns, end_note, frames_in_turn, is_dirty, is_stuck, stays_cached, turn_notes, unmap_notes}
use Rattle.av_plain.specs.Sound.{IsSound, IsSoundBut, flights, no_excuse, pairs, slots, uses}
use Rattle.av_plain.proofs.Access.{after_notes-append}
use Rattle.av_plain.proofs.Ledger.{how_many-append}
use Rattle.av_plain.proofs.Sound.Changes.{drop-sound}
use Rattle.av_plain.proofs.Sound.Counts.{pair-slot, same-is, same-itself, slot-is, slot-itself, two_frames}
use Rattle.av_plain.proofs.Sound.Entries.{flag}
use Rattle.av_plain.proofs.Sound.Flight.{excuse_of, started-kept}
use Rattle.av_plain.proofs.Sound.Pages.{settle-entries}
use Rattle.av_plain.proofs.Sound.Steps.{Alike, Completed, Keeps, UnmapKept, alike-by, alike-end_note, alike-started, alike-then, all_landed, completes-kept, ended, flights-end_note, flights-started, holders-dropped, keeps-alike, keeps-dropped, keeps-then, settle-flight, slots-dropped, unmap_notes-kept}
use Rattle.av_plain.specs.Pass.{is_spared}
use Rattle.av_plain.specs.Sound.{mergings}
use Rattle.av_plain.specs.Ledger.{is_merged}
use Rattle.av_plain.specs.Pass.{has_turn}
use Rattle.av_plain.proofs.Sound.Changes.{any-counts}
use Rattle.std.proofs.Common.{◌&&◌}
use Rattle.std.proofs.Common.{nat_lt}

-- ---- lists of frames that have their turn

pub count-reverse : {X : Type 0} (p : X → Bool) (xs ys : List X) → how_many p (reverse_aux xs ys) ≡ how_many p xs + how_many p ys
count-reverse p [] ys = omega arith
count-reverse p (x ∷ xs) ys = count-reverse p xs (x ∷ ys) ∙ moved _ _ _
  where
    moved : (a b c : ℕ) → a + (b + c) ≡ (b + a) + c
    moved a b c = omega arith

-- each stands once, and is in use
abbrev pub AreReady : Ledger → List ℕ → Type 0
AreReady l fs = (g : ℕ) → how_many (λ y. g == y) fs ≤ min 1 (uses l g)

pub ready-first : (l : Ledger) (f : ℕ) (fs : List ℕ) → AreReady l (f ∷ fs) → 0 < uses l f
ready-first l f fs h = let a = h f in let b = flag _ _ (same-itself f) in omega (arith, a, b)

pub ready-rest : (l l' : Ledger) (f : ℕ) (fs : List ℕ) → ((g : ℕ) → (g == f) ≡ false → uses l' g ≡ uses l g) → AreReady l (f ∷ fs) → AreReady l' fs
ready-rest l l' f fs others h g = by (g == f) refl (h g)
  where
    by : (b : Bool) → (g == f) ≡ b → cond b 1 0 + how_many (λ y. g == y) fs ≤ min 1 (uses l g) → how_many (λ y. g == y) fs ≤ min 1 (uses l' g)
    by true is k = omega (arith, k)
    by false is k = let e = others g is in omega (arith, k, e)

-- ---- one frame

pub alike-uses : (l l' : Ledger) → Alike l l' → (g : ℕ) → uses l' g ≡ uses l g
alike-uses l l' a g = let e = ap (λ es. map_count (record l { entries = es }) g) a.entries in let h = a.holders_same g in omega (arith, e, h)

pub drop-others : (m : Setting) (l : Ledger) (t : Slot) (f g : ℕ) → IsSound m l → 0 < pairs l t f → (g == f) ≡ false →
    uses (after_note (Dropped t) l) g ≡ uses l g
drop-others m l t f g s pair other =
    let e = ap (λ es. map_count (record l { entries = es }) g) (settle-entries (frame_at l t) (off_cache t l)) in
    let h = holders-dropped l t g in
    let two = two_frames t g f l.cache other in
    let once = s.slots_once t in
    omega (arith, e, h, two, once, pair)

-- ---- a turn in the pass

pub record TurnKept (m : Setting) (l : Ledger) (f : ℕ) (t : Slot) (l' : Ledger) : Type 0 where
  pub sound : IsSound m l'
  pub grounded : (r : Slot) → flights l' r ≡ 0
  pub pair : 0 < pairs l' t f
  pub others : (g : ℕ) → (g == f) ≡ false → uses l' g ≡ uses l g
  pub keeps : (spared : ℕ → Bool) → spared f ≡ false → Keeps spared l l'
  pub counts : (r : Slot) → 0 < slots l r + slot_entries l r → 0 < slots l' r + slot_entries l' r
  pub named : 0 < slot_entries l' t
  pub merged_same : l'.merged ≡ l.merged

-- with no write in flight: then none is afterwards, and no slot's count falls to zero
pub record Calm (l l' : Ledger) : Type 0 where
  pub grounded : (r : Slot) → flights l' r ≡ 0
  pub counts : (r : Slot) → 0 < slots l r + slot_entries l r → 0 < slots l' r + slot_entries l' r

-- an entry names the slot: then it has a use
pub named-sound : (m : Setting) (l : Ledger) (t : Slot) → IsSoundBut m (excuse_of (Some t)) l → 0 < slot_entries l t → IsSound m l
named-sound m l t s named = record {
  in_order = s.in_order;
  slots_once = s.slots_once;
  frames_once = s.frames_once;
  in_range = s.in_range;
  listed = s.listed;
  flying = s.flying;
  used = λ r g h. by r (same_slot r t) refl _ (s.used r g h);
  one = s.one;
  merged = s.merged;
}
  where
    by : (r : Slot) (b : Bool) → same_slot r t ≡ b → (n : ℕ) → 0 < flights l r + slot_entries l r + n + cond b 1 0
        → 0 < flights l r + slot_entries l r + n + 0
    by r true is n h = let k = subst (λ y. 0 < slot_entries l y) (sym (slot-is r t is)) named in omega (arith, k)
    by r false is n h = h

pub turn-kept : (m : Setting) (sp : Spared) (l : Ledger) (f : ℕ) (t : Slot) (failed : Bool) → IsSound m l → ((r : Slot) → flights l r ≡ 0) →
    IsSlotFor m sp l f t → mergings l f ≡ 0 → 0 < uses l f → TurnKept m l f t (after_notes l (turn_notes l f t failed))
turn-kept m sp l f t failed s grounded for unmerged in_use =
    subst (TurnKept m l f t) (sym (after_notes-append l (unmap_notes l f t) (cond (is_dirty l f t) (Started t ∷ end_note failed t ∷ []) [])))
    (goes (is_dirty l f t))
  where
    u : UnmapKept m l f t (after_notes l (unmap_notes l f t))
    u = unmap_notes-kept m sp l f t s for unmerged in_use

    still : (r : Slot) → flights (after_notes l (unmap_notes l f t)) r ≡ 0
    still r = ap (how_many (same_slot r)) u.flight_same ∙ grounded r

    cached : 0 < slots (after_notes l (unmap_notes l f t)) t
    cached = let p = pair-slot t f (after_notes l (unmap_notes l f t)).cache in let q = u.pair in omega (arith, p, q)

    goes : (d : Bool) → TurnKept m l f t (after_notes (after_notes l (unmap_notes l f t)) (cond d (Started t ∷ end_note failed t ∷ []) []))
    goes false = record {
      sound = u.sound;
      grounded = still;
      pair = u.pair;
      others = u.others;
      keeps = u.keeps;
      counts = u.counts;
      named = (let w = u.sound.used t f u.pair in let z = u.none in let y = still t in omega (arith, w, z, y));
      merged_same = u.merged_same;
    }
    goes true =
        let l1 = after_notes l (unmap_notes l f t) in
        let l2 = after_note (Started t) l1 in
        let l3 = after_note (end_note failed t) l2 in
        let a = alike-then l1 l2 l3 (alike-started l1 t) (alike-end_note l2 failed t) in
        let named : 0 < slot_entries l1 t = (let w = u.sound.used t f u.pair in let z = u.none in let y = still t in omega (arith, w, z, y)) in
        record {
          sound = named-sound m l3 t (ended m l2 failed t (started-kept m no_excuse l1 t u.sound cached (still t)))
              (subst (λ es. 0 < slot_entries (record l1 { entries = es }) t) (sym a.entries) named);
          grounded = λ r. flights-end_note l2 failed t r ∙ lands r (same_slot r t) _ (flights-started l1 t r);
          pair = (let e = a.pairs_same t f in let p = u.pair in omega (arith, e, p));
          others = λ g other. alike-uses l1 l3 a g ∙ u.others g other;
          keeps = λ spared apart. keeps-then spared l l1 l3 (u.keeps spared apart) (keeps-alike spared l1 l3 a);
          counts = λ r h. let c = u.counts r h in let e = a.slots_same r in let d =
              ap (λ es. slot_entries (record l1 { entries = es }) r) a.entries in
              omega (arith, c, e, d);
          named = subst (λ es. 0 < slot_entries (record l1 { entries = es }) t) (sym a.entries) named;
          merged_same = a.merged ∙ u.merged_same;
        }
      where
        lands : (r : Slot) (b : Bool) (n : ℕ) → n ≡ flights (after_notes l (unmap_notes l f t)) r + cond b 1 0 → cond b 0 n ≡ 0
        lands r true n e = refl
        lands r false n e = let z = still r in omega (arith, e, z)

-- ---- the pass

pub record Passed (m : Setting) (spared : ℕ → Bool) (l l' : Ledger) : Type 0 where
  pub sound : IsSound m l'
  pub keeps : Keeps spared l l'
  pub calm : ((r : Slot) → flights l r ≡ 0) → Calm l l'

-- what is spared has no turn
abbrev pub LeavesOut : (ℕ → Bool) → List ℕ → Type 0
LeavesOut spared fs = (g : ℕ) → spared g ≡ true → how_many (λ y. g == y) fs ≡ 0

not_first : (spared : ℕ → Bool) (f : ℕ) (fs : List ℕ) → LeavesOut spared (f ∷ fs) → spared f ≡ false
not_first spared f fs out = by (spared f) refl
  where
    by : (b : Bool) → spared f ≡ b → b ≡ false
    by true is = let z = out f is in let c = flag _ _ (same-itself f) in absurd (omega (arith, z, c))
    by false is = refl

less_out : (spared : ℕ → Bool) (f : ℕ) (fs : List ℕ) → LeavesOut spared (f ∷ fs) → LeavesOut spared fs
less_out spared f fs out g h = let z = out g h in omega (arith, z)

-- none of the frames is merged
abbrev pub AreUnmerged : Ledger → List ℕ → Type 0
AreUnmerged l fs = (g : ℕ) → 0 < how_many (λ y. g == y) fs → mergings l g ≡ 0

pub unmerged-first : (l : Ledger) (f : ℕ) (fs : List ℕ) → AreUnmerged l (f ∷ fs) → mergings l f ≡ 0
unmerged-first l f fs h = h f (let b = flag _ _ (same-itself f) in omega (arith, b))

pub unmerged-rest : (l l' : Ledger) (f : ℕ) (fs : List ℕ) → l'.merged ≡ l.merged → AreUnmerged l (f ∷ fs) → AreUnmerged l' fs
unmerged-rest l l' f fs same h g in_list = ap (how_many (λ y. g == y)) same ∙ h g (omega (arith, in_list))

-- what the rest of the frames keeps, from any ledger on
abbrev pub Again : Setting → Spared → List ℕ → Type 0
Again m sp fs = (l' : Ledger) (ns : List Note) → IsSound m l' → ((r : Slot) → flights l' r ≡ 0) → AreReady l' fs → AreUnmerged l' fs
    → LeavesOut (is_spared sp) fs → Turns m sp l' fs ns →
    Passed m (is_spared sp) l' (after_notes l' ns)

pub turns-kept : (m : Setting) (sp : Spared) (l : Ledger) (fs : List ℕ) (notes : List Note) → IsSound m l → ((r : Slot) → flights l r ≡ 0)
    → AreReady l fs → AreUnmerged l fs →
    LeavesOut (is_spared sp) fs → Turns m sp l fs notes → Passed m (is_spared sp) l (after_notes l notes)
turns-kept m sp l [] notes s grounded ready unmerged out r = subst (λ ns. Passed m (is_spared sp) l (after_notes l ns)) (sym r)
    (record { sound = s; keeps = keeps-alike (is_spared sp) l l (alike-by l l refl refl refl); calm = λ g. record { grounded = g; counts = λ r h. h } })
turns-kept m sp l (f ∷ fs) notes s grounded ready unmerged out r =
    stuck (λ l' ns s' g' r' u' o' t'. turns-kept m sp l' fs ns s' g' r' u' o' t') (is_stuck m sp l f) r
  where
    stuck : Again m sp fs → (b : Bool) → MatchBool b (Turns m sp l fs notes)
        ((t : Slot) × (failed : Bool) × IsSlotFor m sp l f t × MatchBool (stays_cached l f t failed)
        ((rest : List Note) × (notes ≡ turn_notes l f t failed ++ rest) × Turns m sp (after_notes l (turn_notes l f t failed)) fs rest)
        (notes ≡ turn_notes l f t failed ++ Dropped t ∷ []))
        → Passed m (is_spared sp) l (after_notes l notes)
    stuck again true r = again l notes s grounded (ready-rest l l f fs (λ g other. refl) ready) (unmerged-rest l l f fs refl unmerged) (less_out (is_spared sp) f fs out) r
    stuck again false r = goes (stays_cached l f r.0 r.1) r.3
      where
        here : TurnKept m l f r.0 (after_notes l (turn_notes l f r.0 r.1))
        here = turn-kept m sp l f r.0 r.1 s grounded r.2 (unmerged-first l f fs unmerged) (ready-first l f fs ready)

        apart : (is_spared sp) f ≡ false
        apart = not_first (is_spared sp) f fs out

        goes : (b : Bool) → MatchBool b
            ((rest : List Note) × (notes ≡ turn_notes l f r.0 r.1 ++ rest) × Turns m sp (after_notes l (turn_notes l f r.0 r.1)) fs
            rest) (notes ≡ turn_notes l f r.0 r.1 ++ Dropped r.0 ∷ []) → Passed m (is_spared sp) l (after_notes l notes)
        goes true q =
            let l1 = after_notes l (turn_notes l f r.0 r.1) in
            let later = again l1 q.0 here.sound here.grounded (ready-rest l l1 f fs here.others ready)
            (unmerged-rest l l1 f fs here.merged_same unmerged) (less_out (is_spared sp) f fs out) q.2 in
            subst (λ ns. Passed m (is_spared sp) l (after_notes l ns)) (sym q.1)
            (subst (Passed m (is_spared sp) l) (sym (after_notes-append l (turn_notes l f r.0 r.1) q.0))
            (record {
              sound = later.sound;
              keeps = keeps-then (is_spared sp) l l1 _ (here.keeps (is_spared sp) apart) later.keeps;
              calm = λ z. record {
                grounded = (later.calm here.grounded).grounded;
                counts =
                    λ x h. (later.calm here.grounded).counts x (here.counts x h);
              };
            }))
        goes false q =
            let l1 = after_notes l (turn_notes l f r.0 r.1) in
            subst (λ ns. Passed m (is_spared sp) l (after_notes l ns)) (sym q)
            (subst (Passed m (is_spared sp) l) (sym (after_notes-append l (turn_notes l f r.0 r.1) (Dropped r.0 ∷ [])))
            (record {
              sound = drop-sound m l1 r.0 here.sound (here.grounded r.0);
              keeps = keeps-then (is_spared sp) l l1 _ (here.keeps (is_spared sp) apart)
                  (keeps-dropped (is_spared sp) l1 r.0 here.sound.frames_once
                  (λ g h i. let two = two_frames r.0 g f l1.cache (other g h) in let once = here.sound.slots_once r.0 in
                  let p = here.pair in omega (arith, two, once, p)));
              calm = λ z. record {
                grounded = λ x. ap (how_many (same_slot x)) (settle-flight (frame_at l1 r.0) (off_cache r.0 l1)) ∙ here.grounded x;
                counts = λ x h. let e =
                    ap (λ es. slot_entries (record l1 { entries = es }) x) (settle-entries (frame_at l1 r.0) (off_cache r.0 l1)) in
                    let c = slots-dropped l1 r.0 x in let k = here.counts x h in dropped x (same_slot x r.0) refl _ _ c e k;
              };
            }))
          where
            dropped : (x : Slot) (b : Bool) → same_slot x r.0 ≡ b → (n e : ℕ) → n ≡ cond b 0 (slots (after_notes l (turn_notes l f r.0 r.1)) x) →
                e ≡ slot_entries (after_notes l (turn_notes l f r.0 r.1)) x
                → 0 < slots (after_notes l (turn_notes l f r.0 r.1)) x + slot_entries (after_notes l (turn_notes l f r.0 r.1)) x → 0 < n + e
            dropped x true is n e c d k = let w = subst (λ y. 0 < slot_entries (after_notes l (turn_notes l f r.0 r.1)) y)
                (sym (slot-is x r.0 is)) here.named in omega (arith, w, d)
            dropped x false is n e c d k = omega (arith, c, d, k)

            other : (g : ℕ) → (is_spared sp) g ≡ true → (g == f) ≡ false
            other g h = by (g == f) refl
              where
                by : (b : Bool) → (g == f) ≡ b → b ≡ false
                by true is = let e = sym h ∙ ap (is_spared sp) (same-is g f is) ∙ apart in cc
                by false is = refl

pub count-filter : (q : ℕ → Bool) (g : ℕ) (fs : List ℕ) → how_many (λ y. g == y) (filter q fs) ≡ cond (q g) (how_many (λ y. g == y) fs) 0
count-filter q g [] = elim (q g) as (λ b. ◌≡◌ {A = ℕ} 0 (cond b 0 0)) [ true ↦ refl | false ↦ refl ]
count-filter q g (f ∷ fs) = by (q f) refl (g == f) refl (q g) refl (count-filter q g fs)
  where
    by : (a : Bool) → q f ≡ a → (b : Bool) → (g == f) ≡ b → (c : Bool) → q g ≡ c
        → how_many (λ y. g == y) (filter q fs) ≡ cond c (how_many (λ y. g == y) fs) 0
        → how_many (λ y. g == y) (cond a (f ∷ filter q fs) (filter q fs)) ≡ cond c (cond b 1 0 + how_many (λ y. g == y) fs) 0
    by true at b same true is h = (λ i. cond (same i) 1 0 + h i)
    by true at true same false is h = let e = sym at ∙ ap q (sym (same-is g f same)) ∙ is in cc
    by true at false same false is h = (λ i. cond (same i) 1 0 + h i) ∙ omega arith
    by false at true same true is h = let e = sym is ∙ ap q (same-is g f same) ∙ at in cc
    by false at false same true is h = h ∙ omega arith
    by false at b same false is h = h

less_filter : (q : ℕ → Bool) (g : ℕ) (fs : List ℕ) → how_many (λ y. g == y) (filter q fs) ≤ how_many (λ y. g == y) fs
less_filter q g fs = by (q g) (count-filter q g fs)
  where
    by : (b : Bool) {n k : ℕ} → n ≡ cond b k 0 → n ≤ k
    by true e = omega (arith, e)
    by false e = omega (arith, e)

-- each frame that has its turn is in use, and has one
pub all-ready : (m : Setting) (sp : Spared) (l : Ledger) → IsSound m l → AreReady l (frames_in_turn sp l)
all-ready m sp l s g =
    let a = how_many-append (λ y. g == y) (reverse l.inactive) (reverse l.active) in
    let b = count-reverse (λ y. g == y) l.inactive [] in
    let c = count-reverse (λ y. g == y) l.active [] in
    let d = s.listed g in
    let e = less_filter (has_turn sp l) g (reverse l.inactive ++ reverse l.active) in
    omega (arith, a, b, c, d, e)

-- and isn't merged
pub all-unmerged : (sp : Spared) (l : Ledger) (fs : List ℕ) → AreUnmerged l (filter (has_turn sp l) fs)
all-unmerged sp l fs g h = by (is_merged l g) refl
  where
    no_turn : (a b : Bool) → b ≡ true → (not a && not b) ≡ false
    no_turn true b e = refl
    no_turn false b e = ap not e

    by : (b : Bool) → is_merged l g ≡ b → mergings l g ≡ 0
    by true is = let e = count-filter (has_turn sp l) g fs ∙ ap (λ b. cond b (how_many (λ y. g == y) fs) 0) (no_turn ((is_spared sp) g) (is_merged l g) is) in
        absurd (omega (arith, e, h))
    by false is = none _ (sym (any-counts (λ y. g == y) l.merged) ∙ is)
      where
        none : (n : ℕ) → nat_lt 0 n ≡ false → n ≡ 0
        none n e = grind (arith, nat_tests, e)

pub pass-kept : (m : Setting) (sp : Spared) (l : Ledger) (notes : List Note) → IsSound m l → IsPass m sp l notes
    → Passed m (is_spared sp) l (after_notes l notes)
pass-kept m sp l notes s r =
    subst (λ ns. Passed m (is_spared sp) l (after_notes l ns)) (sym r.2)
    (subst (Passed m (is_spared sp) l) (sym (after_notes-append l r.0 r.1)) (goes (has_free m (after_notes l r.0)) r.4))
  where
    now : Ledger
    now = after_notes l r.0

    done : Completed m l l.flight (after_notes l r.0)
    done = completes-kept m l l.flight r.0 s r.3

    ready : AreReady (after_notes l r.0) (frames_in_turn sp (after_notes l r.0))
    ready = all-ready m sp (after_notes l r.0) done.sound

    out : (fs : List ℕ) → LeavesOut (is_spared sp) (filter (has_turn sp now) fs)
    out fs g h = count-filter (has_turn sp now) g fs
        ∙ ap (λ b. cond (not b && not (is_merged now g)) (how_many (λ y. g == y) fs) 0) h

    -- with nothing in flight nothing is completed
    nothing_done : ((x : Slot) → flights l x ≡ 0) → after_notes l r.0 ≡ l
    nothing_done g = by l.flight refl r.3
      where
        by : (ts : List Slot) → l.flight ≡ ts → Completes l ts r.0 → after_notes l r.0 ≡ l
        by [] is c = ap (after_notes l) c
        by (t ∷ ts) is c = let z = g t in let e = ap (how_many (same_slot t)) is in let i = flag _ _ (slot-itself t) in
            absurd (omega (arith, z, e, i))

    counted : ((x : Slot) → flights l x ≡ 0) → (x : Slot) → 0 < slots l x + slot_entries l x →
        0 < slots (after_notes l r.0) x + slot_entries (after_notes l r.0) x
    counted g x h = subst (λ y. 0 < slots y x + slot_entries y x) (sym (nothing_done g)) h

    goes : (b : Bool) → MatchBool b (r.1 ≡ []) (Turns m sp (after_notes l r.0) (frames_in_turn sp (after_notes l r.0)) r.1) →
        Passed m (is_spared sp) l (after_notes (after_notes l r.0) r.1)
    goes true q = subst (λ ns. Passed m (is_spared sp) l (after_notes (after_notes l r.0) ns)) (sym q)
        (record {
          sound = done.sound;
          keeps = done.keeps (is_spared sp);
          calm = λ g. record {
            grounded = all_landed m l (after_notes l r.0) done;
            counts = counted g;
          };
        })
    goes false q =
        let later = turns-kept m sp (after_notes l r.0) (frames_in_turn sp (after_notes l r.0)) r.1 done.sound
        (all_landed m l (after_notes l r.0) done) ready
        (all-unmerged sp (after_notes l r.0) (reverse (after_notes l r.0).inactive ++ reverse (after_notes l r.0).active))
        (out (reverse (after_notes l r.0).inactive ++ reverse (after_notes l r.0).active)) q in
        record {
          sound = later.sound;
          keeps = keeps-then (is_spared sp) l (after_notes l r.0) _ (done.keeps (is_spared sp)) later.keeps;
          calm = λ g. let c = later.calm (all_landed m l (after_notes l r.0) done) in
              record { grounded = c.grounded; counts = λ x h. c.counts x (counted g x h) };
        }

pub seeks-kept : (m : Setting) (sp : Spared) (l : Ledger) (notes : List Note) → IsSound m l → Seeks m sp l notes
    → Passed m (is_spared sp) l (after_notes l notes)
seeks-kept m sp l notes s r = by (has_free m l) r
  where
    by : (b : Bool) → MatchBool b (notes ≡ []) (IsPass m sp l notes) → Passed m (is_spared sp) l (after_notes l notes)
    by true q = subst (λ ns. Passed m (is_spared sp) l (after_notes l ns)) (sym q)
        (record { sound = s; keeps = keeps-alike (is_spared sp) l l (alike-by l l refl refl refl); calm = λ g. record { grounded = g; counts = λ r h. h } })
    by false q = pass-kept m sp l notes s q
