-- Why a pass left no free frame.
use Rattle.std.proofs.Common.{Bool, List, None, Option, Some, [], ap, arith, cond, false, filter, if◌then◌else◌, is_none, is_some, length, map, not, option_map, refl, reverse, subst, suc, sym, true, zero, ℕ, ◌&&◌, ◌++◌, ◌+◌, ◌<◌, ◌==◌, ◌∙◌, ◌∷◌, ◌≡◌, ◌≤◌}
use Rattle.std.specs.List.{Contains, range_with_len}
use Rattle.std.specs.Prelude.{MatchBool}
use Rattle.std.proofs.lemmas.Bool.Decides.{nat_tests}
use Rattle.av_base.specs.Words.{how_many}
use Rattle.av_base.specs.declared.slot.Slot.{Slot}
use Rattle.av_trace.specs.declared.note.Note.{Note}
use Rattle.av_trace.specs.declared.note.Note.TheVariants.{Failed, Put, Started, Unmapped}
use Rattle.av_trace.specs.declared.reply.OutOf.{OutOf}
use Rattle.av_plain.specs.Event.{after_note, after_notes, change_entries, if_some, off_flight, when, with_stale}
use Rattle.av_plain.specs.Ledger.{Cached, InSlot, Ledger, Setting, cached_by, has_free, map_count, no_slot, same_slot, slot_of}
use Rattle.av_plain.specs.Pass.{IsSlotFor, Spared, end_note, fails, has_turn, is_dirty, is_fail, is_stuck, out_of, turn_notes, unmap_notes}
use Rattle.av_plain.specs.Sound.{IsSound, uses}
use Rattle.av_plain.proofs.Access.{after_notes-append}
use Rattle.av_plain.proofs.Ledger.{how_many-append}
use Rattle.av_plain.proofs.Ledger.NoSwap.{has_free-none}
use Rattle.av_plain.proofs.Report.Totals.{sum-length, sum_of}
use Rattle.av_plain.proofs.Sound.Changes.{free-is}
use Rattle.av_plain.proofs.Sound.Counts.{same-is, same-itself}
use Rattle.av_plain.proofs.Sound.Entries.{flag}
use Rattle.av_plain.proofs.Sound.Pass.{AreReady, AreUnmerged, TurnKept, all-ready, all-unmerged, count-filter, count-reverse, ready-first, ready-rest, turn-kept, unmerged-first, unmerged-rest}
use Rattle.av_plain.proofs.Sound.Steps.{completes-kept}
use Rattle.av_evict.specs.Pass.{AllInVain, IsOut, turn_order}
use Rattle.av_evict.specs.Steps.{closes}
use Rattle.av_evict.specs.Turn.{InVain, with_turn}
use Rattle.av_evict.proofs.PassLaws.{turn-merged}
use Rattle.av_evict.proofs.SeekLaws.{completed-landed}
use Rattle.av_evict.proofs.StepLaws.{pair-slot_of}
use Rattle.std.proofs.lemmas.List.Elements.{Contains-append_left, Contains-append_right}

-- ---- a frame that is cached after turns in vain has failed

stale-slot_of : (b : Bool) (t : Slot) (l : Ledger) (g : ℕ) → slot_of (with_stale b t l) g ≡ slot_of l g
stale-slot_of b t l g = each l.cache
  where
    one : (d : Bool) (c : Cached) (k : Bool) (x y : Option Cached) → option_map (λ (c : Cached). c.slot) x ≡ option_map (λ (c : Cached). c.slot) y →
        option_map (λ (c : Cached). c.slot) (cond k (Some (if d then record c { stale = b } else c)) x) ≡ option_map (λ (c : Cached). c.slot)
        (cond k (Some c) y)
    one true c true x y h = refl
    one false c true x y h = refl
    one d c false x y h = h

    frame : (d : Bool) (c : Cached) → (g == (if d then record c { stale = b } else c).frame) ≡ (g == c.frame)
    frame true c = refl
    frame false c = refl

    each : (cs : List Cached) → option_map (λ (c : Cached). c.slot) (cached_by (λ c. g == c.frame)
        (map (λ (c : Cached). if same_slot t c.slot then record c { stale = b } else c) cs)) ≡ option_map (λ (c : Cached). c.slot)
        (cached_by (λ c. g == c.frame) cs)
    each [] = refl
    each (c ∷ cs) = ap (λ k. option_map (λ (c : Cached). c.slot) (cond k (Some (if same_slot t c.slot then record c { stale = b } else c))
        (cached_by (λ c. g == c.frame) (map (λ (c : Cached). if same_slot t c.slot then record c { stale = b } else c) cs))))
        (frame (same_slot t c.slot) c)
        ∙ one (same_slot t c.slot) c (g == c.frame) _ _ (each cs)

-- the slots of other frames are as they were after a turn
turn-slot_of : (l : Ledger) (f g : ℕ) (s : Slot) → (g == f) ≡ false → slot_of (after_notes l (turn_notes l f s true)) g ≡ slot_of l g
turn-slot_of l f g s other = ap (λ x. slot_of x g)
    (after_notes-append l (unmap_notes l f s) (cond (is_dirty l f s) (Started s ∷ end_note true s ∷ []) []))
    ∙ ended (is_dirty l f s) (after_notes l (unmap_notes l f s))
    ∙ ap (λ x. slot_of x g) (after_notes-append l (when (is_none (slot_of l f)) (Put f s)) (when (not (map_count l f == 0)) (Unmapped f)))
    ∙ un (not (map_count l f == 0)) (after_notes l (when (is_none (slot_of l f)) (Put f s))) ∙ put (is_none (slot_of l f))
  where
    put : (b : Bool) → slot_of (after_notes l (when b (Put f s))) g ≡ slot_of l g
    put false = refl
    put true = ap (λ b. option_map (λ (c : Cached). c.slot)
        (cond b (Some (record { slot = s; frame = f; stale = true })) (cached_by (λ c. g == c.frame) l.cache))) other

    un : (b : Bool) (x : Ledger) → slot_of (after_notes x (when b (Unmapped f))) g ≡ slot_of x g
    un false x = refl
    un true x = at (slot_of x f)
      where
        at : (o : Option Slot) → slot_of (if_some o (λ s. change_entries f (λ _. InSlot s)) x) g ≡ slot_of x g
        at None = refl
        at (Some t) = refl

    ended : (b : Bool) (x : Ledger) → slot_of (after_notes x (cond b (Started s ∷ end_note true s ∷ []) [])) g ≡ slot_of x g
    ended false x = refl
    ended true x = stale-slot_of true s (off_flight s (after_note (Started s) x)) g
        ∙ stale-slot_of false s (record x { flight = x.flight ++ s ∷ [] }) g

-- the fails among the notes of a turn that failed
turn-fails : (l : Ledger) (f : ℕ) (s : Slot) → is_dirty l f s ≡ true → fails (turn_notes l f s true) ≡ 1
turn-fails l f s dirty = how_many-append is_fail (unmap_notes l f s) (cond (is_dirty l f s) (Started s ∷ end_note true s ∷ []) [])
    ∙ both _ _ (how_many-append is_fail (when (is_none (slot_of l f)) (Put f s)) (when (not (map_count l f == 0)) (Unmapped f))
    ∙ both0 _ _ (put (is_none (slot_of l f))) (un (not (map_count l f == 0)))) (ended (is_dirty l f s) dirty)
  where
    both : (a b : ℕ) → a ≡ 0 → b ≡ 1 → a + b ≡ 1
    both a b h i = omega (arith, h, i)

    both0 : (a b : ℕ) → a ≡ 0 → b ≡ 0 → a + b ≡ 0
    both0 a b h i = omega (arith, h, i)

    put : (b : Bool) → fails (when b (Put f s)) ≡ 0
    put true = omega arith
    put false = refl

    un : (b : Bool) → fails (when b (Unmapped f)) ≡ 0
    un true = omega arith
    un false = refl

    ended : (b : Bool) → b ≡ true → fails (cond b (Started s ∷ end_note true s ∷ []) []) ≡ 1
    ended true h = omega arith
    ended false h = cc

-- and it names the slot
turn-failed : (l : Ledger) (f : ℕ) (s : Slot) → is_dirty l f s ≡ true → Contains (turn_notes l f s true) (Failed s)
turn-failed l f s dirty = Contains-append_right (unmap_notes l f s) (cond (is_dirty l f s) (Started s ∷ end_note true s ∷ []) []) (Failed s)
    (ended (is_dirty l f s) dirty)
  where
    ended : (b : Bool) → b ≡ true → Contains (cond b (Started s ∷ end_note true s ∷ []) []) (Failed s)
    ended true h = (1, omega arith, refl)
    ended false h = cc

-- what turns in vain did: each of these frames that is cached has failed once, and no other slot
-- changed hands
pub record DidFail (l : Ledger) (fs : List ℕ) (ns : List Note) : Type 0 where
  pub count : fails ns ≡ how_many (λ f. is_some (slot_of (after_notes l ns) f)) fs
  pub each : (f : ℕ) (s : Slot) → 0 < how_many (λ g. f == g) fs → slot_of (after_notes l ns) f ≡ Some s → Contains ns (Failed s)
  pub others : (g : ℕ) → how_many (λ f. g == f) fs ≡ 0 → slot_of (after_notes l ns) g ≡ slot_of l g
  pub merged : (after_notes l ns).merged ≡ l.merged

same_slots : (s t : Slot) → Some s ≡ Some t → s ≡ t
same_slots s t h = cc

head_gone : (g f : ℕ) (fs : List ℕ) → how_many (λ y. g == y) (f ∷ fs) ≡ 0 → (g == f) ≡ false
head_gone g f fs h = by (g == f) h
  where
    by : (b : Bool) → cond b 1 0 + how_many (λ y. g == y) fs ≡ 0 → b ≡ false
    by true h = absurd (omega (arith, h))
    by false h = refl

-- after one that is passed over
did-stuck : (m : Setting) (closing : Option ℕ) (l : Ledger) (f : ℕ) (fs : List ℕ) (ns : List Note) → AreReady l (f ∷ fs) →
    is_stuck m (closes closing) l f ≡ true → DidFail l fs ns → DidFail l (f ∷ fs) ns
did-stuck m closing l f fs ns ready stuck rest = record {
  count = rest.count ∙ zero_plus _ _ (ap (λ (o : Option Slot). cond (is_some o) 1 0) none);
  each = λ g s h at. by g s (g == f) refl h at;
  others = λ g h. rest.others g (less _ _ h);
  merged = rest.merged;
}
  where
    zero_plus : (a b : ℕ) → b ≡ 0 → a ≡ b + a
    zero_plus a b h = omega (arith, h)

    less : (a b : ℕ) → a + b ≡ 0 → b ≡ 0
    less a b h = omega (arith, h)

    gone : how_many (λ y. f == y) fs ≡ 0
    gone = let r = ready f in let i = flag _ _ (same-itself f) in omega (arith, r, i)

    none : slot_of (after_notes l ns) f ≡ None
    none = rest.others f gone ∙ first (slot_of l f) (no_slot m closing l) stuck
      where
        first : (o : Option Slot) (b : Bool) → (is_none o && b) ≡ true → o ≡ None
        first None b h = refl
        first (Some s) b h = cc

    by : (g : ℕ) (s : Slot) (b : Bool) → (g == f) ≡ b → 0 < cond b 1 0 + how_many (λ y. g == y) fs → slot_of (after_notes l ns) g ≡ Some s →
        Contains ns (Failed s)
    by g s true is h at = let e = sym none ∙ ap (slot_of (after_notes l ns)) (sym (same-is g f is)) ∙ at in cc
    by g s false is h at = rest.each g s (omega (arith, h)) at

-- after one whose write failed
did-turn : (m : Setting) (closing : Option ℕ) (l : Ledger) (f : ℕ) (s : Slot) (fs : List ℕ) (ns : List Note) → AreReady l (f ∷ fs) →
    TurnKept m l f s (after_notes l (turn_notes l f s true)) → is_dirty l f s ≡ true → DidFail (after_notes l (turn_notes l f s true)) fs ns →
    DidFail l (f ∷ fs) (turn_notes l f s true ++ ns)
did-turn m closing l f s fs ns ready t dirty rest = record {
  count = how_many-append is_fail (turn_notes l f s true) ns ∙ one_more _ _ _ _ (turn-fails l f s dirty) rest.count
      (ap (λ (o : Option Slot). cond (is_some o) 1 0) some) ∙ ap (λ x. how_many (λ g. is_some (slot_of x g)) (f ∷ fs)) (sym same);
  each = λ g r h at. by g r (g == f) refl h (ap (λ x. slot_of x g) (sym same) ∙ at);
  others = λ g h. ap (λ x. slot_of x g) same ∙ rest.others g (less _ _ h) ∙ turn-slot_of l f g s (head_gone g f fs h);
  merged = ap (λ x. x.merged) same ∙ rest.merged ∙ t.merged_same;
}
  where
    same : after_notes l (turn_notes l f s true ++ ns) ≡ after_notes (after_notes l (turn_notes l f s true)) ns
    same = after_notes-append l (turn_notes l f s true) ns

    one_more : (a b c d : ℕ) → a ≡ 1 → b ≡ c → d ≡ 1 → a + b ≡ d + c
    one_more a b c d h i j = omega (arith, h, i, j)

    less : (a b : ℕ) → a + b ≡ 0 → b ≡ 0
    less a b h = omega (arith, h)

    gone : how_many (λ y. f == y) fs ≡ 0
    gone = let r = ready f in let i = flag _ _ (same-itself f) in omega (arith, r, i)

    some : slot_of (after_notes (after_notes l (turn_notes l f s true)) ns) f ≡ Some s
    some = rest.others f gone ∙ pair-slot_of m (after_notes l (turn_notes l f s true)) s f t.sound t.pair

    by : (g : ℕ) (r : Slot) (b : Bool) → (g == f) ≡ b → 0 < cond b 1 0 + how_many (λ y. g == y) fs →
        slot_of (after_notes (after_notes l (turn_notes l f s true)) ns) g ≡ Some r → Contains (turn_notes l f s true ++ ns) (Failed r)
    by g r true is h at = subst (λ q. Contains (turn_notes l f s true ++ ns) (Failed q))
        (same_slots s r (sym some ∙ ap (slot_of (after_notes (after_notes l (turn_notes l f s true)) ns)) (sym (same-is g f is)) ∙ at))
        (Contains-append_left (turn_notes l f s true) ns (Failed s) (turn-failed l f s dirty))
    by g r false is h at = Contains-append_right (turn_notes l f s true) ns (Failed r) (rest.each g r (omega (arith, h)) at)

-- one after another
pub vain-did : (m : Setting) (closing : Option ℕ) (l : Ledger) (fs : List ℕ) (ns : List Note) → IsSound m l →
    ((r : Slot) → how_many (same_slot r) l.flight ≡ 0) → AreReady l fs → AreUnmerged l fs → InVain m closing l fs ns → DidFail l fs ns
vain-did m closing l [] ns sound landed ready unmerged vain = subst (DidFail l []) (sym vain) (record {
  count = refl;
  each = λ f s h at. absurd (omega (arith, h));
  others = λ g h. refl;
  merged = refl;
})
vain-did m closing l (f ∷ fs) ns sound landed ready unmerged vain =
    by (is_stuck m (closes closing) l f) refl (λ l' ns' s' g' r' u' v'. vain-did m closing l' fs ns' s' g' r' u' v') vain
  where
    by : (b : Bool) → is_stuck m (closes closing) l f ≡ b →
        ((l' : Ledger) (ns' : List Note) → IsSound m l' → ((r : Slot) → how_many (same_slot r) l'.flight ≡ 0) → AreReady l' fs → AreUnmerged l' fs →
        InVain m closing l' fs ns' →
        DidFail l' fs ns') →
        MatchBool b (InVain m closing l fs ns) ((s : Slot) × (rest : List Note) × IsSlotFor m (closes closing) l f s
        × (is_dirty l f s ≡ true) × (ns ≡ turn_notes l f s true ++ rest) × InVain m closing (after_notes l (turn_notes l f s true)) fs rest) →
        DidFail l (f ∷ fs) ns
    by true is again v = did-stuck m closing l f fs ns ready is (again l ns sound landed (ready-rest l l f fs (λ g other. refl) ready) (unmerged-rest l l f fs refl unmerged) v)
    by false is again v =
        let t = turn-kept m (closes closing) l f v.0 true sound landed v.2 (unmerged-first l f fs unmerged) (ready-first l f fs ready) in
        let l1 = after_notes l (turn_notes l f v.0 true) in
        subst (DidFail l (f ∷ fs)) (sym v.4) (did-turn m closing l f v.0 fs v.1 ready t v.3
        (again l1 v.1 t.sound t.grounded (ready-rest l l1 f fs t.others ready) (unmerged-rest l l1 f fs t.merged_same unmerged) v.5))

-- ---- counted by number

sum-how_many : (g : ℕ → ℕ) (test : ℕ → Bool) (a n : ℕ) → ((f : ℕ) → a ≤ f → f < a + n → g f ≡ cond (test f) 1 0) →
    sum_of g (range_with_len a n) ≡ how_many test (range_with_len a n)
sum-how_many g test a zero e = refl
sum-how_many g test a (suc n) e = both _ _ _ _ (e a (omega arith) (omega arith))
    (sum-how_many g test (a + 1) n (λ f low high. e f (omega (arith, low)) (omega (arith, high))))
  where
    both : (a b c d : ℕ) → a ≡ b → c ≡ d → a + c ≡ b + d
    both a b c d h i = omega (arith, h, i)

count-length : {X : Type 0} (test : X → Bool) (xs : List X) → length (filter test xs) ≡ how_many test xs
count-length test [] = refl
count-length test (x ∷ xs) = by (test x) (count-length test xs)
  where
    by : (b : Bool) → length (filter test xs) ≡ how_many test xs →
        length (cond b (x ∷ filter test xs) (filter test xs)) ≡ cond b 1 0 + how_many test xs
    by true h = one_more _ _ h
      where
        one_more : (a b : ℕ) → a ≡ b → suc a ≡ 1 + b
        one_more a b h = omega (arith, h)
    by false h = zero_plus _ _ h
      where
        zero_plus : (a b : ℕ) → a ≡ b → a ≡ 0 + b
        zero_plus a b h = omega (arith, h)

-- where no frame is free, each frame that isn't left alone has one turn
turn-once : (m : Setting) (sp : Spared) (l : Ledger) (f : ℕ) → IsSound m l → has_free m l ≡ false → f < m.frames →
    how_many (λ g. f == g) (with_turn sp l (turn_order l)) ≡ cond (has_turn sp l f) 1 0
turn-once m sp l f sound full below = count-filter (has_turn sp l) f (turn_order l) ∙ by (has_turn sp l f)
  where
    used : 0 < uses l f
    used = let e = sym (free-is l f) ∙ has_free-none m l f full below in grind (arith, nat_tests, e)

    once : how_many (λ g. f == g) (turn_order l) ≡ 1
    once = let a = how_many-append (λ y. f == y) (reverse l.inactive) (reverse l.active) in
        let b = count-reverse (λ y. f == y) l.inactive [] in
        let c = count-reverse (λ y. f == y) l.active [] in
        let d = sound.listed f in
        let u = used in omega (arith, a, b, c, d, u)

    by : (b : Bool) → cond b (how_many (λ g. f == g) (turn_order l)) 0 ≡ cond b 1 0
    by true = once
    by false = refl

turn-below : (m : Setting) (sp : Spared) (l : Ledger) (f : ℕ) → IsSound m l → 0 < how_many (λ g. f == g) (with_turn sp l (turn_order l)) →
    f < m.frames
turn-below m sp l f sound h =
    let r = all-ready m sp l sound f in sound.in_range f (omega (arith, r, h))

pub count-turns : (m : Setting) (sp : Spared) (l : Ledger) (test : ℕ → Bool) → IsSound m l → has_free m l ≡ false →
    how_many test (with_turn sp l (turn_order l)) ≡ how_many (λ f. has_turn sp l f && test f) (range_with_len 0 m.frames)
count-turns m sp l test sound full =
    sym (count-length test (with_turn sp l (turn_order l)))
    ∙ sym (sum-length m.frames (filter test (with_turn sp l (turn_order l))) (λ f h. turn-below m sp l f sound (some f h)))
    ∙ sum-how_many (λ f. how_many (λ g. f == g) (filter test (with_turn sp l (turn_order l)))) (λ f. has_turn sp l f && test f) 0 m.frames
    (λ f low high. count-filter test f (with_turn sp l (turn_order l)) ∙ here f high)
  where
    some : (f : ℕ) → 0 < how_many (λ g. f == g) (filter test (with_turn sp l (turn_order l))) →
        0 < how_many (λ g. f == g) (with_turn sp l (turn_order l))
    some f h = by (test f) (count-filter test f (with_turn sp l (turn_order l)))
      where
        by : (b : Bool) → how_many (λ g. f == g) (filter test (with_turn sp l (turn_order l))) ≡ cond b
            (how_many (λ g. f == g) (with_turn sp l (turn_order l))) 0 →
            0 < how_many (λ g. f == g) (with_turn sp l (turn_order l))
        by true e = omega (arith, e, h)
        by false e = absurd (omega (arith, e, h))

    here : (f : ℕ) → f < 0 + m.frames → cond (test f) (how_many (λ g. f == g) (with_turn sp l (turn_order l))) 0 ≡
        cond (has_turn sp l f && test f) 1 0
    here f below = ap (λ n. cond (test f) n 0) (turn-once m sp l f sound full (omega (arith, below))) ∙ by (test f) (has_turn sp l f)
      where
        by : (a b : Bool) → ◌≡◌ {A = ℕ} (cond a (cond b 1 0) 0) (cond (b && a) 1 0)
        by true true = refl
        by true false = refl
        by false true = refl
        by false false = refl

-- ---- why none is free

pub vain-out : (m : Setting) (sp : Spared) (l : Ledger) (ns : List Note) (out : OutOf) → IsSound m l → AllInVain m sp l ns →
    has_free m (after_notes l ns) ≡ false → out ≡ out_of m sp (after_notes l ns) → IsOut m sp out l ns
vain-out m sp l ns out sound vain none is = record {
  none = none;
  numbers = is;
  failed = (let a = ap (λ (o : OutOf). o.fault) is in let b = count in let c = split in let d = did.count in
      let e = ap (λ x. how_many (λ f. is_some (slot_of x f)) (with_turn sp (after_notes l vain.done) (turn_order (after_notes l vain.done)))) (sym same) in
      omega (arith, a, b, c, d, e));
  each = λ f s below turns at. subst (λ x. Contains x (Failed s)) (sym vain.whole) (Contains-append_right vain.done vain.turns (Failed s)
      (did.each f s (let o = turn-once m sp (after_notes l vain.done) f sound1 vain.full below in let p = ap {B = ℕ} (λ b. cond b 1 0) (sym (turn-merged sp (after_notes l vain.done) (after_notes l ns) f merged) ∙ turns)
      in omega (arith, o, p))
      (ap (λ x. slot_of x f) (sym same) ∙ at)));
}
  where
    sound1 : IsSound m (after_notes l vain.done)
    sound1 = (completes-kept m l l.flight vain.done sound vain.completes).sound

    did : DidFail (after_notes l vain.done) (with_turn sp (after_notes l vain.done) (turn_order (after_notes l vain.done))) vain.turns
    did = vain-did m sp.closing (after_notes l vain.done) (with_turn sp (after_notes l vain.done) (turn_order (after_notes l vain.done))) vain.turns sound1
        (λ r. ap (how_many (same_slot r)) (completed-landed m l vain.done sound vain.completes))
        (all-ready m sp (after_notes l vain.done) sound1)
        (all-unmerged sp (after_notes l vain.done) (turn_order (after_notes l vain.done)))
        vain.vain

    same : after_notes l ns ≡ after_notes (after_notes l vain.done) vain.turns
    same = ap (after_notes l) vain.whole ∙ after_notes-append l vain.done vain.turns

    merged : (after_notes l ns).merged ≡ (after_notes l vain.done).merged
    merged = ap (λ x. x.merged) same ∙ did.merged

    count : how_many (λ f. is_some (slot_of (after_notes l ns) f)) (with_turn sp (after_notes l vain.done) (turn_order (after_notes l vain.done))) ≡
        how_many (λ f. has_turn sp (after_notes l ns) f && is_some (slot_of (after_notes l ns) f)) (range_with_len 0 m.frames)
    count = count-turns m sp (after_notes l vain.done) (λ f. is_some (slot_of (after_notes l ns) f)) sound1 vain.full
        ∙ ap (λ (test : ℕ → Bool). how_many (λ f. test f && is_some (slot_of (after_notes l ns) f)) (range_with_len 0 m.frames))
        (λ i f. sym (turn-merged sp (after_notes l vain.done) (after_notes l ns) f merged) i)

    split : fails ns ≡ fails vain.done + fails vain.turns
    split = ap fails vain.whole ∙ how_many-append is_fail vain.done vain.turns
