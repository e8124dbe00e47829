-- The numbers of an out-of-memory by counts, and by what locked frames and the pinned one add to them.
use Rattle.std.proofs.Common.{Bool, List, None, Option, Some, [], ap, arith, cond, false, is_none, is_some, nat_lt, not, refl, suc, sym, true, zero, ℕ, ◌&&◌, ◌++◌, ◌+◌, ◌-◌, ◌<◌, ◌==◌, ◌||◌, ◌∙◌, ◌∷◌, ◌≡◌, ◌≤◌}
use Rattle.std.specs.List.{range_with_len}
use Rattle.std.specs.Prelude.{MatchBool}
use Rattle.std.proofs.lemmas.Bool.{false≢true}
use Rattle.std.proofs.lemmas.Bool.Decides.{nat_tests}
use Rattle.av_base.specs.Words.{how_many}
use Rattle.av_base.specs.declared.slot.Slot.{Slot}
use Rattle.av_trace.specs.declared.note.Note.{Note}
use Rattle.av_trace.specs.declared.reply.OutOf.{OutOf}
use Rattle.av_plain.specs.Event.{after_notes}
use Rattle.av_plain.specs.Ledger.{Ledger, Setting, is_merged, map_count, no_slot, slot_of}
use Rattle.av_plain.specs.Pass.{IsSlotFor, Spared, frames_in_turn, how_many_frames, is_dirty, is_pinned, is_stuck, out_of, turn_notes}
use Rattle.av_plain.specs.Sound.{IsSound, IsSoundBut, uses}
use Rattle.av_plain.proofs.Sound.Changes.{any-counts, free-is}
use Rattle.av_plain.proofs.Sound.Counts.{pair-frame, slot_of-some}
use Rattle.av_evict.specs.Pass.{AreTurns}
use Rattle.av_evict.specs.Standing.{adds_unpinned, cached_count, can_go, locked_adds, locked_cached_count, locked_count, locked_merged_count, merged_count, numbers_of, pinned_adds, stands_as}
use Rattle.av_evict.specs.Steps.{closes}
use Rattle.av_evict.specs.Turn.{InVain}
use Rattle.av_evict.specs.declared.standing.Standing.TheVariants.{Pinned}
use Rattle.av_evict.proofs.PassLaws.{vain-turns}
use Rattle.av_evict.proofs.StandingLaws.{Counts, counts-of}

-- ---- counting the numbers from one on

-- by tests that agree on them
range-same : (p q : ℕ → Bool) (a n : ℕ) → ((f : ℕ) → a ≤ f → f < a + n → p f ≡ q f) → how_many p (range_with_len a n) ≡ how_many q (range_with_len a n)
range-same p q a zero same = refl
range-same p q a (suc n) same =
    both _ _ _ _ (ap (λ b. cond b 1 0) (same a (omega arith) (omega arith)))
    (range-same p q (a + 1) n (λ f low high. same f (omega (arith, low)) (omega (arith, high))))
  where
    both : (a b c d : ℕ) → a ≡ b → c ≡ d → a + c ≡ b + d
    both a b c d h i = omega (arith, h, i)

-- where none passes, each fails
range-none : (p : ℕ → Bool) (a n : ℕ) → how_many p (range_with_len a n) ≡ 0 → (f : ℕ) → a ≤ f → f < a + n → p f ≡ false
range-none p a zero h f low high = absurd (omega (arith, low, high))
range-none p a (suc n) h f low high =
    by (a == f) refl (λ more. range-none p (a + 1) n (rest (p a) _ h) f more (omega (arith, high)))
  where
    first : (b : Bool) (k : ℕ) → cond b 1 0 + k ≡ 0 → b ≡ false
    first true k e = absurd (omega (arith, e))
    first false k e = refl

    rest : (b : Bool) (k : ℕ) → cond b 1 0 + k ≡ 0 → k ≡ 0
    rest true k e = absurd (omega (arith, e))
    rest false k e = omega (arith, e)

    by : (b : Bool) → (a == f) ≡ b → (a + 1 ≤ f → p f ≡ false) → p f ≡ false
    by true is later = let same : a ≡ f = grind (arith, nat_tests) in ap p (sym same) ∙ first (p a) _ h
    by false is later = later (grind (arith, nat_tests))

-- all pass where the test is no test
range-all : (a n : ℕ) → how_many (λ f. true) (range_with_len a n) ≡ n
range-all a zero = refl
range-all a (suc n) = let h = range-all (a + 1) n in omega (arith, h)

-- of those that pass one test, those that pass another as well, and those that don't
range-split : (q t : ℕ → Bool) (a n : ℕ) → how_many (λ f. q f && t f) (range_with_len a n)
    + how_many (λ f. not (q f) && t f) (range_with_len a n) ≡ how_many t (range_with_len a n)
range-split q t a zero = refl
range-split q t a (suc n) = by (q a) (t a) _ _ _ (range-split q t (a + 1) n)
  where
    by : (b c : Bool) (i j k : ℕ) → i + j ≡ k → (cond (b && c) 1 0 + i) + (cond (not b && c) 1 0 + j) ≡ cond c 1 0 + k
    by true true i j k h = omega (arith, h)
    by true false i j k h = omega (arith, h)
    by false true i j k h = omega (arith, h)
    by false false i j k h = omega (arith, h)

-- those with a slot, those that pass another test, which these don't, and the rest
range-parts : (q t : ℕ → Bool) (o : ℕ → Option Slot) (a n : ℕ) → ((f : ℕ) → t f ≡ true → is_some (o f) ≡ false) →
    (how_many (λ f. q f && is_some (o f)) (range_with_len a n) + how_many (λ f. q f && t f) (range_with_len a n))
    + how_many (λ f. q f && (not (t f) && is_none (o f))) (range_with_len a n) ≡ how_many q (range_with_len a n)
range-parts q t o a zero apart = refl
range-parts q t o a (suc n) apart = by (q a) (t a) (o a) _ _ _ _ (apart a) (range-parts q t o (a + 1) n apart)
  where
    by : (b c : Bool) (x : Option Slot) (i j k u : ℕ) → (c ≡ true → is_some x ≡ false) → (i + j) + k ≡ u →
        ((cond (b && is_some x) 1 0 + i) + (cond (b && c) 1 0 + j)) + (cond (b && (not c && is_none x)) 1 0 + k) ≡ cond b 1 0 + u
    by false c x i j k u h e = omega (arith, e)
    by true true None i j k u h e = omega (arith, e)
    by true false None i j k u h e = omega (arith, e)
    by true false (Some s) i j k u h e = omega (arith, e)
    by true true (Some s) i j k u h e = let z = h refl in cc

-- all but one, where it is among them
range-less : (p : ℕ → Bool) (x a n : ℕ) → a ≤ x → x < a + n →
    how_many (λ f. not (x == f) && p f) (range_with_len a n) + cond (p x) 1 0 ≡ how_many p (range_with_len a n)
range-less p x a zero low high = absurd (omega (arith, low, high))
range-less p x a (suc n) low high = by (x == a) refl (λ more. range-less p x (a + 1) n more (omega (arith, high)))
  where
    step : (b : Bool) → how_many (λ f. not (x == f) && p f) (range_with_len (a + 1) n) + cond (p x) 1 0 ≡ how_many p (range_with_len (a + 1) n) →
        (cond b 1 0 + how_many (λ f. not (x == f) && p f) (range_with_len (a + 1) n)) + cond (p x) 1 0 ≡
        cond b 1 0 + how_many p (range_with_len (a + 1) n)
    step b h = omega (arith, h)

    by : (b : Bool) → (x == a) ≡ b →
        (a + 1 ≤ x → how_many (λ f. not (x == f) && p f) (range_with_len (a + 1) n) + cond (p x) 1 0 ≡ how_many p (range_with_len (a + 1) n)) →
        (cond (not b && p a) 1 0 + how_many (λ f. not (x == f) && p f) (range_with_len (a + 1) n)) + cond (p x) 1 0 ≡
        cond (p a) 1 0 + how_many p (range_with_len (a + 1) n)
    by true is later =
        let same : x ≡ a = grind (arith, nat_tests) in
        let e = ap {B = ℕ} (λ y. cond (p y) 1 0) same in
        let rest = range-same (λ f. not (x == f) && p f) p (a + 1) n
        (λ f more less. ap (λ b. not b && p f) (let other : (x == f) ≡ false = grind (arith, nat_tests) in other)) in
        omega (arith, e, rest)
    by false is later = step (p a) (later (grind (arith, nat_tests)))

-- ---- the numbers without the pinned frame

-- what it would add to one of them
abbrev adds : Setting → (ℕ → Bool) → Option ℕ → ℕ
adds m p None = 0
adds m p (Some x) = cond (nat_lt x m.frames) (cond (p x) 1 0) 0

frames-less : (m : Setting) (p : ℕ → Bool) (o : Option ℕ) →
    how_many_frames m (λ f. not (is_pinned o f) && p f) + adds m p o ≡ how_many_frames m p
frames-less m p None = plus_zero _
  where
    plus_zero : (a : ℕ) → a + 0 ≡ a
    plus_zero a = omega arith
frames-less m p (Some x) = by (nat_lt x m.frames) refl
  where
    plus_zero : (a b : ℕ) → a ≡ b → a + 0 ≡ b
    plus_zero a b h = omega (arith, h)

    by : (b : Bool) → nat_lt x m.frames ≡ b → how_many_frames m (λ f. not (x == f) && p f) + cond b (cond (p x) 1 0) 0 ≡ how_many_frames m p
    by true is = range-less p x 0 m.frames (omega arith) (let less : x < m.frames = grind (arith, nat_tests) in omega (arith, less))
    by false is = plus_zero _ _ (range-same (λ f. not (x == f) && p f) p 0 m.frames
        (λ f low high. ap (λ b. not b && p f) (let other : (x == f) ≡ false = grind (arith, nat_tests) in other)))

-- a merged frame is not cached
merged-uncached : (m : Setting) (excuse : Slot → ℕ) (l : Ledger) → IsSoundBut m excuse l → (f : ℕ) → is_merged l f ≡ true → is_some (slot_of l f) ≡ false
merged-uncached m excuse l sound f is = by (slot_of l f) refl
  where
    some : (n : ℕ) → nat_lt 0 n ≡ true → 0 < n
    some n e = grind (arith, nat_tests, e)

    by : (o : Option Slot) → slot_of l f ≡ o → is_some o ≡ false
    by None at = refl
    by (Some t) at =
        let p = slot_of-some f t l.cache at in
        let q = pair-frame t f l.cache in
        let once = sound.frames_once f in
        let h = some _ (sym (any-counts (λ g. f == g) l.merged) ∙ is) in
        absurd (omega (arith, h, p, q, once))

-- ---- the numbers without the locked frames

-- the numbers are these, without what the locked frames and the pinned one would add
pub record AreCounts (m : Setting) (sp : Spared) (l : Ledger) : Type 0 where
  pub noslot : (out_of m sp l).noslot
      ≡ ((m.frames - merged_count m l - cached_count m l) - (locked_adds m sp.locked l).noslot) - (pinned_adds m sp l).noslot
  pub fault : (out_of m sp l).fault ≡ (cached_count m l - (locked_adds m sp.locked l).fault) - (pinned_adds m sp l).fault
  pub locked : (out_of m sp l).locked ≡ (locked_adds m sp.locked l).locked - (pinned_adds m sp l).locked
  pub ksm : (out_of m sp l).ksm ≡ (merged_count m l - (locked_adds m sp.locked l).ksm) - (pinned_adds m sp l).ksm
  -- and nothing that is taken away is more than what is there
  pub some : merged_count m l + cached_count m l ≤ m.frames
  pub some_held : locked_cached_count m sp.locked l + locked_merged_count m sp.locked l ≤ locked_count m sp.locked
  pub some_noslot : (locked_adds m sp.locked l).noslot + (pinned_adds m sp l).noslot ≤ m.frames - merged_count m l - cached_count m l
  pub some_fault : (locked_adds m sp.locked l).fault + (pinned_adds m sp l).fault ≤ cached_count m l
  pub some_locked : (pinned_adds m sp l).locked ≤ (locked_adds m sp.locked l).locked
  pub some_ksm : (locked_adds m sp.locked l).ksm + (pinned_adds m sp l).ksm ≤ merged_count m l

pub are-counts : (m : Setting) (excuse : Slot → ℕ) (sp : Spared) (l : Ledger) → IsSoundBut m excuse l → AreCounts m sp l
are-counts m excuse sp l sound = record {
  noslot = (let a = noslot in let b = less bare in let c = rest in let d = add_noslot sp.pinned in let e = held in omega (arith, a, b, c, d, e));
  fault = (let a = fault in let b = less cached in let c = all_cached (λ f. true) in let d = add_fault sp.pinned in
      let e = all_cached sp.locked in omega (arith, a, b, c, d, e));
  locked = (let b = frames-less m sp.locked sp.pinned in let d = add_locked sp.pinned in omega (arith, b, d));
  ksm = (let a = ksm in let b = less (is_merged l) in let d = add_ksm sp.pinned in omega (arith, a, b, d));
  some = (let c = rest in omega (arith, c));
  some_held = (let e = held in omega (arith, e));
  some_noslot = (let b = less bare in let c = rest in let d = add_noslot sp.pinned in let e = held in omega (arith, b, c, d, e));
  some_fault = (let b = less cached in let c = all_cached (λ f. true) in let d = add_fault sp.pinned in
      let e = all_cached sp.locked in omega (arith, b, c, d, e));
  some_locked = (let b = frames-less m sp.locked sp.pinned in let d = add_locked sp.pinned in omega (arith, b, d));
  some_ksm = (let b = less (is_merged l) in let d = add_ksm sp.pinned in omega (arith, b, d));
}
  where
    -- not merged, and cached or not
    cached : ℕ → Bool
    cached f = not (is_merged l f) && is_some (slot_of l f)

    bare : ℕ → Bool
    bare f = not (is_merged l f) && is_none (slot_of l f)

    -- of those that pass some are locked, and one may be pinned
    less : (t : ℕ → Bool) → how_many_frames m (λ f. sp.locked f && t f)
        + (how_many_frames m (λ f. not (is_pinned sp.pinned f) && (not (sp.locked f) && t f)) + adds m (λ f. not (sp.locked f) && t f) sp.pinned)
        ≡ how_many_frames m t
    less t = let a = range-split sp.locked t 0 m.frames in let b = frames-less m (λ f. not (sp.locked f) && t f) sp.pinned in omega (arith, a, b)

    all_cached : (q : ℕ → Bool) → how_many_frames m (λ f. q f && cached f) ≡ how_many_frames m (λ f. q f && is_some (slot_of l f))
    all_cached q = range-same (λ f. q f && cached f) (λ f. q f && is_some (slot_of l f)) 0 m.frames
        (λ f low high. ap (λ b. q f && b) (by (is_merged l f) (is_some (slot_of l f)) (merged-uncached m excuse l sound f)))
      where
        by : (b c : Bool) → (b ≡ true → c ≡ false) → (not b && c) ≡ c
        by false c h = refl
        by true c h = sym (h refl)

    rest : (cached_count m l + merged_count m l) + how_many_frames m bare ≡ m.frames
    rest = range-parts (λ f. true) (is_merged l) (slot_of l) 0 m.frames (merged-uncached m excuse l sound) ∙ range-all 0 m.frames

    held : (locked_cached_count m sp.locked l + locked_merged_count m sp.locked l) + how_many_frames m (λ f. sp.locked f && bare f)
        ≡ locked_count m sp.locked
    held = range-parts sp.locked (is_merged l) (slot_of l) 0 m.frames (merged-uncached m excuse l sound)

    -- tests of one that is not spared, in another order
    turn : (p k m n : Bool) → ((not (p || k) && not m) && n) ≡ (not p && (not k && (not m && n)))
    turn true k m n = refl
    turn false true m n = refl
    turn false false true n = refl
    turn false false false n = refl

    spare : (p k m : Bool) → (not (p || k) && m) ≡ (not p && (not k && m))
    spare true k m = refl
    spare false k m = refl

    noslot : (out_of m sp l).noslot ≡ how_many_frames m (λ f. not (is_pinned sp.pinned f) && (not (sp.locked f) && bare f))
    noslot = range-same _ _ 0 m.frames (λ f low high. turn (is_pinned sp.pinned f) (sp.locked f) (is_merged l f) (is_none (slot_of l f)))

    fault : (out_of m sp l).fault ≡ how_many_frames m (λ f. not (is_pinned sp.pinned f) && (not (sp.locked f) && cached f))
    fault = range-same _ _ 0 m.frames (λ f low high. turn (is_pinned sp.pinned f) (sp.locked f) (is_merged l f) (is_some (slot_of l f)))

    ksm : (out_of m sp l).ksm ≡ how_many_frames m (λ f. not (is_pinned sp.pinned f) && (not (sp.locked f) && is_merged l f))
    ksm = range-same _ _ 0 m.frames (λ f low high. spare (is_pinned sp.pinned f) (sp.locked f) (is_merged l f))

    -- the pinned frame by itself
    counted : (x : ℕ) → Counts (record sp { pinned = None }) l x (numbers_of (stands_as (record sp { pinned = None }) l x))
    counted x = counts-of (record sp { pinned = None }) l x (stands_as (record sp { pinned = None }) l x) _ refl refl

    add_noslot : (o : Option ℕ) → (adds_unpinned m sp l o).noslot ≡ adds m (λ f. not (sp.locked f) && bare f) o
    add_noslot None = refl
    add_noslot (Some x) = by (nat_lt x m.frames)
      where
        by : (b : Bool) → (numbers_of (cond b (stands_as (record sp { pinned = None }) l x) Pinned)).noslot
            ≡ cond b (cond (not (sp.locked x) && bare x) 1 0) 0
        by true = (counted x).noslot ∙ ap (λ b. cond b 1 0) (turn false (sp.locked x) (is_merged l x) (is_none (slot_of l x)))
        by false = refl

    add_fault : (o : Option ℕ) → (adds_unpinned m sp l o).fault ≡ adds m (λ f. not (sp.locked f) && cached f) o
    add_fault None = refl
    add_fault (Some x) = by (nat_lt x m.frames)
      where
        by : (b : Bool) → (numbers_of (cond b (stands_as (record sp { pinned = None }) l x) Pinned)).fault
            ≡ cond b (cond (not (sp.locked x) && cached x) 1 0) 0
        by true = (counted x).fault ∙ ap (λ b. cond b 1 0) (turn false (sp.locked x) (is_merged l x) (is_some (slot_of l x)))
        by false = refl

    add_locked : (o : Option ℕ) → (adds_unpinned m sp l o).locked ≡ adds m sp.locked o
    add_locked None = refl
    add_locked (Some x) = by (nat_lt x m.frames)
      where
        by : (b : Bool) → (numbers_of (cond b (stands_as (record sp { pinned = None }) l x) Pinned)).locked ≡ cond b (cond (sp.locked x) 1 0) 0
        by true = (counted x).locked
        by false = refl

    add_ksm : (o : Option ℕ) → (adds_unpinned m sp l o).ksm ≡ adds m (λ f. not (sp.locked f) && is_merged l f) o
    add_ksm None = refl
    add_ksm (Some x) = by (nat_lt x m.frames)
      where
        by : (b : Bool) → (numbers_of (cond b (stands_as (record sp { pinned = None }) l x) Pinned)).ksm
            ≡ cond b (cond (not (sp.locked x) && is_merged l x) 1 0) 0
        by true = (counted x).ksm
        by false = refl

-- so they are had by counts that are kept
pub counts-are : (m : Setting) (sp : Spared) (l : Ledger) (out held less : OutOf) (n merged cached : ℕ)
    → AreCounts m sp l → n ≡ m.frames → merged ≡ merged_count m l → cached ≡ cached_count m l
    → held ≡ locked_adds m sp.locked l → less ≡ pinned_adds m sp l → out.pinned ≡ (out_of m sp l).pinned
    → out.noslot ≡ ((n - merged - cached) - held.noslot) - less.noslot → out.fault ≡ (cached - held.fault) - less.fault
    → out.locked ≡ held.locked - less.locked → out.ksm ≡ (merged - held.ksm) - less.ksm → out ≡ out_of m sp l
counts-are m sp l out held less n merged cached are frames is holds takes adds pinned noslot fault locked ksm = λ i. record {
  pinned = pinned i;
  noslot = (noslot ∙ (λ j. (frames j - is j - holds j) - (takes j).noslot - (adds j).noslot) ∙ sym are.noslot) i;
  fault = (fault ∙ (λ j. (holds j - (takes j).fault) - (adds j).fault) ∙ sym are.fault) i;
  locked = (locked ∙ (λ j. (takes j).locked - (adds j).locked) ∙ sym are.locked) i;
  ksm = (ksm ∙ (λ j. (is j - (takes j).ksm) - (adds j).ksm) ∙ sym are.ksm) i;
}

-- ---- turns that would change nothing

-- no frame of a sound ledger is cached
none-cached : (m : Setting) (l : Ledger) → IsSound m l → cached_count m l ≡ 0 → (f : ℕ) → is_none (slot_of l f) ≡ true
none-cached m l sound none f = by (nat_lt f m.frames) refl
  where
    turned : (o : Option Slot) → is_some o ≡ false → is_none o ≡ true
    turned None h = refl
    turned (Some s) h = cc

    second : (a b : Bool) → (a && b) ≡ true → b ≡ true
    second true b h = h
    second false b h = cc

    by : (b : Bool) → nat_lt f m.frames ≡ b → is_none (slot_of l f) ≡ true
    by true is = turned (slot_of l f) (range-none (λ g. is_some (slot_of l g)) 0 m.frames none f (omega arith)
        (let less : f < m.frames = grind (arith, nat_tests) in omega (arith, less)))
    by false is = second (map_count l f == 0) (is_none (slot_of l f)) (free-is l f ∙ unused (uses l f == 0) refl)
      where
        unused : (b : Bool) → (uses l f == 0) ≡ b → (uses l f == 0) ≡ true
        unused true u = u
        unused false u = let below = sound.in_range f (grind (arith, nat_tests)) in absurd (grind (arith, nat_tests))

-- so all turns are in vain
all-stuck : (m : Setting) (closing : Option ℕ) (l : Ledger) (fs : List ℕ) → ((f : ℕ) → is_stuck m (closes closing) l f ≡ true) →
    InVain m closing l fs []
all-stuck m closing l [] stuck = refl
all-stuck m closing l (f ∷ fs) stuck = by (is_stuck m (closes closing) l f) (stuck f) (all-stuck m closing l fs stuck)
  where
    by : (b : Bool) → b ≡ true → InVain m closing l fs [] → MatchBool b (InVain m closing l fs [])
        ((s : Slot) × (rest : List Note) × IsSlotFor m (closes closing) l f s × (is_dirty l f s ≡ true)
        × ([] ≡ turn_notes l f s true ++ rest) × InVain m closing (after_notes l (turn_notes l f s true)) fs rest)
    by true h rest = rest
    by false h rest = cc

pub no-turns : (m : Setting) (sp : Spared) (l : Ledger) → IsSound m l → can_go m sp.closing l ≡ false → AreTurns m sp l []
no-turns m sp l sound none = record { turns = vain-turns m sp l _ [] vain; vain = λ full. vain }
  where
    stuck : (c : ℕ) (b t : Bool) → nat_lt 0 c ≡ t → (t || not b) ≡ false → (c ≡ 0) × (b ≡ true)
    stuck c b true e h = absurd (false≢true (sym h))
    stuck c true false e h = (grind (arith, nat_tests), refl)
    stuck c false false e h = absurd (false≢true (sym h))

    vain : InVain m sp.closing l (frames_in_turn sp l) []
    vain = let both = stuck (cached_count m l) (no_slot m sp.closing l) _ refl none in
        all-stuck m sp.closing l (frames_in_turn sp l) (λ f i. none-cached m l sound both.0 f i && both.1 i)
