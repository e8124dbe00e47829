-- The turns of a direct pass, one after another.
use Rattle.std.proofs.Common.{slice_get, Bool, List, None, Option, Some, [], ap, arith, cond, false, length, not, refl, reverse, subst, sym, true, ℕ, ◌&&◌, ◌++◌, ◌+◌, ◌<◌, ◌==◌, ◌∙◌, ◌∷◌, ◌≡◌, ◌≤◌}
use Rattle.std.specs.Prelude.{MatchBool}
use Rattle.std.proofs.lemmas.Bool.Decides.{nat_tests}
use Rattle.std.proofs.lemmas.List.{append-nil, append_assoc, length-append}
use Rattle.av_base.specs.Words.{how_many, is_in}
use Rattle.av_base.specs.declared.slot.Slot.{Slot}
use Rattle.av_trace.specs.declared.note.Note.{Note}
use Rattle.av_trace.specs.declared.note.Note.TheVariants.{Dropped, Started}
use Rattle.av_plain.specs.Event.{after_note, after_notes, off_cache}
use Rattle.av_plain.specs.Ledger.{Ledger, Setting, frame_at, has_free, map_count, same_slot}
use Rattle.av_plain.specs.Pass.{IsSlotFor, Spared, Turns, end_note, has_turn, is_dirty, is_spared, is_stuck, stays_cached, turn_notes, unmap_notes}
use Rattle.av_plain.specs.Sound.{IsSound, uses}
use Rattle.av_plain.proofs.Access.{after_notes-append}
use Rattle.av_plain.proofs.Ledger.{how_many-append}
use Rattle.av_plain.proofs.Ledger.NoSwap.{has_free-some}
use Rattle.av_plain.proofs.Sound.Changes.{free-is}
use Rattle.av_plain.proofs.Sound.Counts.{pair-frame, same-is, same-itself, slot-itself}
use Rattle.av_plain.proofs.Sound.Entries.{flag}
use Rattle.av_plain.proofs.Sound.Pass.{TurnKept, count-reverse, turn-kept}
use Rattle.av_plain.proofs.Sound.Steps.{UnmapKept, alike-end_note, alike-started, alike-then, holders-dropped, settle-entries, unmap_notes-kept}
use Rattle.av_evict.specs.Pass.{AreTurns, IsLanded, turn_order}
use Rattle.av_evict.specs.Steps.{closes}
use Rattle.av_evict.specs.System.{Gives, Goes, IsAt, Leaves, SystemView, spares}
use Rattle.av_evict.specs.Turn.{Frees, InVain, IsTurnIfAny, MayTurn, MayTurnNow, with_turn}
use Rattle.av_evict.proofs.SystemLaws.{happened-none, goes-then, leaves-spares}
use Rattle.av_evict.proofs.StepLaws.{unmerged-count}
use Rattle.av_evict.proofs.TailLaws.{first-is, first-no, unmap-lists}
use Rattle.av_evict.proofs.TurnLaws.{turn-now}

-- ---- turns in vain, one after another

-- what comes after turns in vain
pub vain-then : (m : Setting) (sp : Spared) (l : Ledger) (fs gs : List ℕ) (ns ms : List Note) → InVain m sp.closing l fs ns →
    Turns m sp (after_notes l ns) gs ms → Turns m sp l (fs ++ gs) (ns ++ ms)
vain-then m sp l [] gs ns ms vain t = subst (λ x. Turns m sp l gs (x ++ ms)) (sym vain)
    (subst (λ x. Turns m sp (after_notes l x) gs ms) vain t)
vain-then m sp l (f ∷ fs) gs ns ms vain t =
    by (is_stuck m (closes sp.closing) l f) (λ l' ns' v' t'. vain-then m sp l' fs gs ns' ms v' t') vain
  where
    by : (b : Bool) → ((l' : Ledger) (ns' : List Note) → InVain m sp.closing l' fs ns' → Turns m sp (after_notes l' ns') gs ms →
        Turns m sp l' (fs ++ gs) (ns' ++ ms)) →
        MatchBool b (InVain m sp.closing l fs ns) ((s : Slot) × (rest : List Note) × IsSlotFor m (closes sp.closing) l f s
        × (is_dirty l f s ≡ true) × (ns ≡ turn_notes l f s true ++ rest) × InVain m sp.closing (after_notes l (turn_notes l f s true)) fs rest) →
        MatchBool b (Turns m sp l (fs ++ gs) (ns ++ ms))
        ((s : Slot) × (failed : Bool) × IsSlotFor m sp l f s × MatchBool (stays_cached l f s failed)
        ((rest : List Note) × (ns ++ ms ≡ turn_notes l f s failed ++ rest)
        × Turns m sp (after_notes l (turn_notes l f s failed)) (fs ++ gs) rest)
        (ns ++ ms ≡ turn_notes l f s failed ++ Dropped s ∷ []))
    by true again v = again l ns v t
    by false again v = (v.0, true, v.2, stay (stays_cached l f v.0 true) (ap (λ b. b && true) v.3))
      where
        stay : (b : Bool) → b ≡ true → MatchBool b ((rest : List Note) × (ns ++ ms ≡ turn_notes l f v.0 true ++ rest)
            × Turns m sp (after_notes l (turn_notes l f v.0 true)) (fs ++ gs) rest)
            (ns ++ ms ≡ turn_notes l f v.0 true ++ Dropped v.0 ∷ [])
        stay true h = (
          v.1 ++ ms,
          ap (λ x. x ++ ms) v.4 ∙ append_assoc (turn_notes l f v.0 true) v.1 ms,
          again (after_notes l (turn_notes l f v.0 true)) v.1 v.5
              (subst (λ x. Turns m sp x gs ms) (ap (after_notes l) v.4 ∙ after_notes-append l (turn_notes l f v.0 true) v.1) t),
        )
        stay false h = cc

-- they are turns
pub vain-turns : (m : Setting) (sp : Spared) (l : Ledger) (fs : List ℕ) (ns : List Note) → InVain m sp.closing l fs ns →
    Turns m sp l fs ns
vain-turns m sp l fs ns vain = subst (λ gs. Turns m sp l gs ns) (append-nil fs)
    (subst (Turns m sp l (fs ++ [])) (append-nil ns) (vain-then m sp l fs [] ns [] vain refl))

pub vain-append : (m : Setting) (closing : Option ℕ) (l : Ledger) (fs gs : List ℕ) (ns ms : List Note) → InVain m closing l fs ns →
    InVain m closing (after_notes l ns) gs ms → InVain m closing l (fs ++ gs) (ns ++ ms)
vain-append m closing l [] gs ns ms vain t = subst (λ x. InVain m closing l gs (x ++ ms)) (sym vain)
    (subst (λ x. InVain m closing (after_notes l x) gs ms) vain t)
vain-append m closing l (f ∷ fs) gs ns ms vain t =
    by (is_stuck m (closes closing) l f) (λ l' ns' v' t'. vain-append m closing l' fs gs ns' ms v' t') vain
  where
    by : (b : Bool) → ((l' : Ledger) (ns' : List Note) → InVain m closing l' fs ns' → InVain m closing (after_notes l' ns') gs ms →
        InVain m closing l' (fs ++ gs) (ns' ++ ms)) →
        MatchBool b (InVain m closing l fs ns) ((s : Slot) × (rest : List Note) × IsSlotFor m (closes closing) l f s
        × (is_dirty l f s ≡ true) × (ns ≡ turn_notes l f s true ++ rest) × InVain m closing (after_notes l (turn_notes l f s true)) fs rest) →
        MatchBool b (InVain m closing l (fs ++ gs) (ns ++ ms)) ((s : Slot) × (rest : List Note) × IsSlotFor m (closes closing) l f s
        × (is_dirty l f s ≡ true) × (ns ++ ms ≡ turn_notes l f s true ++ rest)
        × InVain m closing (after_notes l (turn_notes l f s true)) (fs ++ gs) rest)
    by true again v = again l ns v t
    by false again v = (
      v.0,
      v.1 ++ ms,
      v.2,
      v.3,
      ap (λ x. x ++ ms) v.4 ∙ append_assoc (turn_notes l f v.0 true) v.1 ms,
      again (after_notes l (turn_notes l f v.0 true)) v.1 v.5
          (subst (λ x. InVain m closing x gs ms) (ap (after_notes l) v.4 ∙ after_notes-append l (turn_notes l f v.0 true) v.1) t),
    )

pub frees-turns : (m : Setting) (sp : Spared) (l : Ledger) (f : ℕ) (gs : List ℕ) (ns : List Note) → Frees m sp.closing f l ns →
    Turns m sp l (f ∷ gs) ns
frees-turns m sp l f gs ns frees = by (is_stuck m (closes sp.closing) l f) frees.unstuck
  where
    by : (b : Bool) → b ≡ false → MatchBool b (Turns m sp l gs ns)
        ((s : Slot) × (failed : Bool) × IsSlotFor m sp l f s × MatchBool (stays_cached l f s failed)
        ((rest : List Note) × (ns ≡ turn_notes l f s failed ++ rest)
        × Turns m sp (after_notes l (turn_notes l f s failed)) gs rest)
        (ns ≡ turn_notes l f s failed ++ Dropped s ∷ []))
    by true h = cc
    by false h = (frees.slot, frees.failed, frees.for, drops (stays_cached l f frees.slot frees.failed) frees.written)
      where
        drops : (b : Bool) → b ≡ false → MatchBool b ((rest : List Note) × (ns ≡ turn_notes l f frees.slot frees.failed ++ rest)
            × Turns m sp (after_notes l (turn_notes l f frees.slot frees.failed)) gs rest)
            (ns ≡ turn_notes l f frees.slot frees.failed ++ Dropped frees.slot ∷ [])
        drops true h = cc
        drops false h = frees.whole

-- ---- what turns in vain leave as it is

pub record Stays (l l' : Ledger) : Type 0 where
  pub landed : l'.flight ≡ []
  pub inactive : l'.inactive ≡ l.inactive
  pub active : l'.active ≡ l.active
  pub merged : l'.merged ≡ l.merged
  pub used : (g : ℕ) → 0 < uses l g → 0 < uses l' g

pub stays-then : (a b c : Ledger) → Stays a b → Stays b c → Stays a c
stays-then a b c x y = record {
  landed = y.landed;
  inactive = y.inactive ∙ x.inactive;
  active = y.active ∙ x.active;
  merged = y.merged ∙ x.merged;
  used = λ g h. y.used g (x.used g h);
}

pub none-flies : (fs : List Slot) → ((r : Slot) → how_many (same_slot r) fs ≡ 0) → fs ≡ []
none-flies [] h = refl
none-flies (s ∷ fs) h = let z = h s in let e = flag _ _ (slot-itself s) in absurd (omega (arith, z, e))

-- and after a turn
turn-lists : (l : Ledger) (f : ℕ) (s : Slot) → ((after_notes l (turn_notes l f s true)).inactive ≡ l.inactive)
    × ((after_notes l (turn_notes l f s true)).active ≡ l.active)
turn-lists l f s = subst (λ x. (x.inactive ≡ l.inactive) × (x.active ≡ l.active))
    (sym (after_notes-append l (unmap_notes l f s) (cond (is_dirty l f s) (Started s ∷ end_note true s ∷ []) [])))
    (ended (is_dirty l f s) (after_notes l (unmap_notes l f s)) (unmap-lists l f s))
  where
    ended : (b : Bool) (x : Ledger) → (x.inactive ≡ l.inactive) × (x.active ≡ l.active) →
        ((after_notes x (cond b (Started s ∷ end_note true s ∷ []) [])).inactive ≡ l.inactive)
        × ((after_notes x (cond b (Started s ∷ end_note true s ∷ []) [])).active ≡ l.active)
    ended true x h = h
    ended false x h = h

-- one turn in vain
pub vain-stays : (m : Setting) (closing : Option ℕ) (l : Ledger) (f : ℕ) (ns : List Note) → IsSound m l → MayTurnNow f l →
    InVain m closing l (f ∷ []) ns →
    Stays l (after_notes l ns)
vain-stays m closing l f ns sound may vain = by (is_stuck m (closes closing) l f) vain
  where
    by : (b : Bool) → MatchBool b (ns ≡ []) ((s : Slot) × (rest : List Note) × IsSlotFor m (closes closing) l f s
        × (is_dirty l f s ≡ true) × (ns ≡ turn_notes l f s true ++ rest) × (rest ≡ [])) → Stays l (after_notes l ns)
    by true v = subst (λ x. Stays l (after_notes l x)) (sym v) (record { landed = may.landed; inactive = refl; active = refl; merged = refl; used = λ g h. h })
    by false v = subst (λ x. Stays l (after_notes l x)) (sym (v.4 ∙ ap (λ x. turn_notes l f v.0 true ++ x) v.5 ∙ append-nil _)) (record {
      landed = none-flies _ t.grounded;
      inactive = (turn-lists l f v.0).0;
      active = (turn-lists l f v.0).1;
      merged = t.merged_same;
      used = λ g h. at g (g == f) refl h;
    })
      where
        t : TurnKept m l f v.0 (after_notes l (turn_notes l f v.0 true))
        t = turn-kept m (closes closing) l f v.0 true sound (λ r. ap (how_many (same_slot r)) may.landed) v.2 (unmerged-count l f may.send.unmerged) may.send.used

        at : (g : ℕ) (b : Bool) → (g == f) ≡ b → 0 < uses l g → 0 < uses (after_notes l (turn_notes l f v.0 true)) g
        at g true is h = subst (λ y. 0 < uses (after_notes l (turn_notes l f v.0 true)) y) (sym (same-is g f is))
            (let p = t.pair in let q = pair-frame v.0 f (after_notes l (turn_notes l f v.0 true)).cache in omega (arith, p, q))
        at g false is h = let e = t.others g is in omega (arith, e, h)

pub but-stays : (m : Setting) (sp : Spared) (l : Ledger) (f : ℕ) (ns : List Note) → IsSound m l → MayTurn f l →
    IsTurnIfAny m sp f false l ns → Stays l (after_notes l ns)
but-stays m sp l f ns sound may turn = by (has_turn sp l f) refl turn
  where
    by : (b : Bool) → has_turn sp l f ≡ b → InVain m sp.closing l (cond b (f ∷ []) []) ns → Stays l (after_notes l ns)
    by false is v = subst (λ x. Stays l (after_notes l x)) (sym v)
        (record { landed = may.landed; inactive = refl; active = refl; merged = refl; used = λ g h. h })
    by true is v = vain-stays m sp.closing l f ns sound (turn-now sp l f is may) v

-- ---- a frame that a turn frees is free

pub frees-free : (m : Setting) (closing : Option ℕ) (l : Ledger) (f : ℕ) (ns : List Note) → IsSound m l → MayTurnNow f l → Frees m closing f l ns →
    has_free m (after_notes l ns) ≡ true
frees-free m closing l f ns sound may frees = subst (λ x. has_free m (after_notes l x) ≡ true) (sym frees.whole)
    (subst (λ x. has_free m x ≡ true) (sym (after_notes-append l (turn_notes l f frees.slot frees.failed) (Dropped frees.slot ∷ [])))
    (has_free-some m (after_note (Dropped frees.slot) (after_notes l (turn_notes l f frees.slot frees.failed))) f (sound.in_range f may.send.used)
    (free-is (after_note (Dropped frees.slot) (after_notes l (turn_notes l f frees.slot frees.failed))) f ∙ free)))
  where
    u : UnmapKept m l f frees.slot (after_notes l (unmap_notes l f frees.slot))
    u = unmap_notes-kept m (closes closing) l f frees.slot sound frees.for (unmerged-count l f may.send.unmerged) may.send.used

    t : TurnKept m l f frees.slot (after_notes l (turn_notes l f frees.slot frees.failed))
    t = turn-kept m (closes closing) l f frees.slot frees.failed sound (λ r. ap (how_many (same_slot r)) may.landed) frees.for (unmerged-count l f may.send.unmerged) may.send.used

    written : (b : Bool) (x : Ledger) → (after_notes x (cond b (Started frees.slot ∷ end_note frees.failed frees.slot ∷ []) [])).entries ≡ x.entries
    written false x = refl
    written true x = (alike-then x (after_note (Started frees.slot) x) _ (alike-started x frees.slot)
        (alike-end_note (after_note (Started frees.slot) x) frees.failed frees.slot)).entries

    none : map_count (after_notes l (turn_notes l f frees.slot frees.failed)) f ≡ 0
    none = ap (λ x. map_count x f) (after_notes-append l (unmap_notes l f frees.slot)
        (cond (is_dirty l f frees.slot) (Started frees.slot ∷ end_note frees.failed frees.slot ∷ []) []))
        ∙ ap (λ es. map_count (record l { entries = es }) f) (written (is_dirty l f frees.slot) (after_notes l (unmap_notes l f frees.slot))) ∙ u.none

    free : (uses (after_note (Dropped frees.slot) (after_notes l (turn_notes l f frees.slot frees.failed))) f == 0) ≡ true
    free = let l1 = after_notes l (turn_notes l f frees.slot frees.failed) in
        let e = ap (λ es. map_count (record l { entries = es }) f) (settle-entries (frame_at l1 frees.slot) (off_cache frees.slot l1)) in
        let h = holders-dropped l1 frees.slot f in
        let once = t.sound.frames_once f in
        let p = t.pair in
        let z : uses (after_note (Dropped frees.slot) l1) f ≡ 0 = omega (arith, e, h, once, p, none) in
        grind (arith, nat_tests, z)

-- ---- the turns go on

-- a frame in the order of turns is in use
pub in_turn-used : (m : Setting) (l : Ledger) (ahead behind : List ℕ) (f : ℕ) → IsSound m l → turn_order l ≡ ahead ++ f ∷ behind → 0 < uses l f
in_turn-used m l ahead behind f sound is =
    let a = how_many-append (λ y. f == y) (reverse l.inactive) (reverse l.active) in
    let b = count-reverse (λ y. f == y) l.inactive [] in
    let c = count-reverse (λ y. f == y) l.active [] in
    let d = sound.listed f in
    let e = ap (how_many (λ y. f == y)) is in
    let g = how_many-append (λ y. f == y) ahead (f ∷ behind) in
    let h = flag _ _ (same-itself f) in
    omega (arith, a, b, c, d, e, g, h)

pub with_turn-append : (sp : Spared) (l : Ledger) (fs gs : List ℕ) → with_turn sp l (fs ++ gs) ≡ with_turn sp l fs ++ with_turn sp l gs
with_turn-append sp l [] gs = refl
with_turn-append sp l (f ∷ fs) gs = by (has_turn sp l f) (with_turn-append sp l fs gs)
  where
    by : (b : Bool) → with_turn sp l (fs ++ gs) ≡ with_turn sp l fs ++ with_turn sp l gs →
        cond b (f ∷ with_turn sp l (fs ++ gs)) (with_turn sp l (fs ++ gs)) ≡
        cond b (f ∷ with_turn sp l fs) (with_turn sp l fs) ++ with_turn sp l gs
    by true rest = ap (λ x. f ∷ x) rest
    by false rest = rest

-- the same frames have turns while the same ones are merged
pub turn-merged : (sp : Spared) (l l' : Ledger) (f : ℕ) → l'.merged ≡ l.merged → has_turn sp l' f ≡ has_turn sp l f
turn-merged sp l l' f same = ap (λ ms. not (is_spared sp f) && not (is_in f ms)) same

pub with_turn-merged : (sp : Spared) (l l' : Ledger) (fs : List ℕ) → l'.merged ≡ l.merged → with_turn sp l' fs ≡ with_turn sp l fs
with_turn-merged sp l l' [] same = refl
with_turn-merged sp l l' (f ∷ fs) same = (λ i. cond (turn-merged sp l l' f same i) (f ∷ with_turn-merged sp l l' fs same i)
    (with_turn-merged sp l l' fs same i))

pub record Turning (old now : SystemView) (before notes : List Note) (pinned : Option ℕ) (turn : ℕ) (next : Option ℕ) (l : Ledger) : Type 0 where
  pub done : List ℕ
  pub todo : List ℕ
  pub split : turn_order l ≡ done ++ todo
  pub count : length done ≡ turn
  pub first : next ≡ slice_get todo 0
  pub gained : List Note
  pub added : notes ≡ before ++ gained
  pub goes : Goes old now l gained
  pub vain : InVain old.setting old.closing l (with_turn (spares old pinned) l done) gained
  pub stays : Stays l (after_notes l gained)

abbrev pub AreTurning : SystemView → SystemView → List Note → List Note → Option ℕ → ℕ → Option ℕ → Type 0
AreTurning old now before notes pinned turn next = (l : Ledger) → IsSound old.setting l → old.stands l → IsLanded l →
    Turning old now before notes pinned turn next l

pub turning-start : (a : SystemView) (n : List Note) (pinned next : Option ℕ) →
    ((l : Ledger) → IsSound a.setting l → a.stands l → next ≡ slice_get (turn_order l) 0) →
    AreTurning a a n n pinned 0 next
turning-start a n pinned next first l sound stands landed = record {
  done = [];
  todo = turn_order l;
  split = refl;
  count = refl;
  first = first l sound stands;
  gained = [];
  added = sym (append-nil n);
  goes = record { sound = sound; happened = happened-none a l stands };
  vain = refl;
  stays = record { landed = landed; inactive = refl; active = refl; merged = refl; used = λ g h. h };
}

-- what a frame in turn needs
pub turning-may : (a b : SystemView) (n0 n1 : List Note) (pinned : Option ℕ) (turn f : ℕ) (l : Ledger) → IsSound a.setting l →
    (i : Turning a b n0 n1 pinned turn (Some f) l) → MayTurn f (after_notes l i.gained)
turning-may a b n0 n1 pinned turn f l sound i = let r = first-is f i.todo i.first in record {
  landed = i.stays.landed;
  used = i.stays.used f (in_turn-used a.setting l i.done r.0 f sound (i.split ∙ ap (λ x. i.done ++ x) r.1));
}

-- where the frames in turn stand, after those that had theirs
pub turning-split : (a b : SystemView) (n0 n1 : List Note) (pinned : Option ℕ) (turn f : ℕ) (l : Ledger) →
    (i : Turning a b n0 n1 pinned turn (Some f) l) →
    (rest : List ℕ) × (i.todo ≡ f ∷ rest) × (turn_order (after_notes l i.gained) ≡ i.done ++ f ∷ rest)
turning-split a b n0 n1 pinned turn f l i = let r = first-is f i.todo i.first in
    (r.0, r.1, (λ j. reverse (i.stays.inactive j) ++ reverse (i.stays.active j)) ∙ i.split ∙ ap (λ x. i.done ++ x) r.1)

-- the frame may have its turn
pub turning-at : (a b : SystemView) (n0 n1 : List Note) (pinned : Option ℕ) (turn f : ℕ) → IsAt a IsLanded →
    AreTurning a b n0 n1 pinned turn (Some f) → IsAt b (MayTurn f)
turning-at a b n0 n1 pinned turn f at t =
    let i = t at.0 at.1 at.2 at.3 in (
      after_notes at.0 i.gained,
      subst (λ m. IsSound m (after_notes at.0 i.gained)) (sym i.goes.happened.stays.setting) i.goes.sound,
      i.goes.happened.stands,
      turning-may a b n0 n1 pinned turn f at.0 at.1 i,
    )

-- a turn in vain
pub turning-step : (a b c : SystemView) (n0 n1 n2 : List Note) (pinned : Option ℕ) (turn f : ℕ) (next : Option ℕ) →
    AreTurning a b n0 n1 pinned turn (Some f) → Leaves a b →
    Gives b c n1 n2 (MayTurn f) (IsTurnIfAny b.setting (spares b pinned) f false) →
    ((l : Ledger) → IsSound c.setting l → c.stands l → (ahead behind : List ℕ) → turn_order l ≡ ahead ++ f ∷ behind → next ≡ slice_get behind 0) →
    AreTurning a c n0 n2 pinned (turn + 1) next
turning-step a b c n0 n1 n2 pinned turn f next t leaves gives after l sound stands landed =
    let i = t l sound stands landed in
    let l1 = after_notes l i.gained in
    let s1 : IsSound b.setting l1 = subst (λ m. IsSound m l1) (sym i.goes.happened.stays.setting) i.goes.sound in
    let may = turning-may a b n0 n1 pinned turn f l sound i in
    let x = gives l1 s1 i.goes.happened.stands may in
    let r = turning-split a b n0 n1 pinned turn f l i in
    let same : after_notes l (i.gained ++ x.0) ≡ after_notes l1 x.0 = after_notes-append l i.gained x.0 in
    let stays = but-stays b.setting (spares b pinned) l1 f x.0 s1 may x.2 in
    let goes = goes-then a b c l i.gained x.0 i.goes x.3 in
    record {
      done = i.done ++ f ∷ [];
      todo = r.0;
      split = i.split ∙ ap (λ y. i.done ++ y) r.1 ∙ sym (append_assoc i.done (f ∷ []) r.0);
      count = one_more i.done turn i.count;
      first = after (after_notes l1 x.0) (subst (λ m. IsSound m (after_notes l1 x.0)) (sym x.3.happened.stays.setting) x.3.sound)
          x.3.happened.stands i.done r.0
          ((λ j. reverse (stays.inactive j) ++ reverse (stays.active j)) ∙ r.2);
      gained = i.gained ++ x.0;
      added = x.1 ∙ ap (λ z. z ++ x.0) i.added ∙ append_assoc n0 i.gained x.0;
      goes = goes;
      vain = let sp = spares a pinned in
          subst (λ fs. InVain a.setting a.closing l fs (i.gained ++ x.0)) (sym (with_turn-append sp l i.done (f ∷ [])))
          (vain-append a.setting a.closing l (with_turn sp l i.done) (with_turn sp l (f ∷ [])) i.gained x.0 i.vain
          (subst (λ fs. InVain a.setting a.closing l1 fs x.0) (with_turn-merged sp l l1 (f ∷ []) i.stays.merged)
          (subst (λ (q : Spared). InVain a.setting q.closing l1 (with_turn q l1 (f ∷ [])) x.0) (leaves-spares a b pinned leaves)
          (subst (λ m. InVain m b.closing l1 (with_turn (spares b pinned) l1 (f ∷ [])) x.0) i.goes.happened.stays.setting x.2))));
      stays = subst (Stays l) (sym same) (stays-then l l1 (after_notes l1 x.0) i.stays stays);
    }
  where
    one_more : (fs : List ℕ) (n : ℕ) → length fs ≡ n → length (fs ++ f ∷ []) ≡ n + 1
    one_more fs n h = let e = length-append fs (f ∷ []) in omega (arith, e, h)

-- a turn that frees the frame
pub turning-freed : (a b c : SystemView) (n0 n1 n2 : List Note) (pinned : Option ℕ) (turn f : ℕ) → AreTurning a b n0 n1 pinned turn (Some f) →
    Leaves a b → Gives b c n1 n2 (MayTurn f) (IsTurnIfAny b.setting (spares b pinned) f true) →
    Gives a c n0 n2 IsLanded (AreTurns a.setting (spares a pinned))
turning-freed a b c n0 n1 n2 pinned turn f t leaves gives l sound stands landed =
    let i = t l sound stands landed in
    let l1 = after_notes l i.gained in
    let s1 : IsSound b.setting l1 = subst (λ m. IsSound m l1) (sym i.goes.happened.stays.setting) i.goes.sound in
    let may = turning-may a b n0 n1 pinned turn f l sound i in
    let x = gives l1 s1 i.goes.happened.stands may in
    let r = first-is f i.todo i.first in
    let frees : Frees a.setting a.closing f l1 x.0 = subst (λ k. Frees a.setting k f l1 x.0) i.goes.happened.stays.closing
    (subst (λ m. Frees m b.closing f l1 x.0) i.goes.happened.stays.setting x.2.1) in
    let sp = spares a pinned in
    let here : has_turn sp l1 f ≡ true = subst (λ (q : Spared). has_turn q l1 f ≡ true) (leaves-spares a b pinned leaves) x.2.0 in
    let order : with_turn sp l (turn_order l) ≡ with_turn sp l i.done ++ f ∷ with_turn sp l r.0 =
    ap (with_turn sp l) (i.split ∙ ap (λ y. i.done ++ y) r.1) ∙ with_turn-append sp l i.done (f ∷ r.0)
    ∙ ap (λ b. with_turn sp l i.done ++ cond b (f ∷ with_turn sp l r.0) (with_turn sp l r.0)) (sym (turn-merged sp l l1 f i.stays.merged) ∙ here) in
    let free : has_free a.setting (after_notes l (i.gained ++ x.0)) ≡ true =
    ap (has_free a.setting) (after_notes-append l i.gained x.0) ∙ frees-free a.setting a.closing l1 f x.0 i.goes.sound (turn-now sp l1 f here may) frees in (
      i.gained ++ x.0,
      x.1 ∙ ap (λ z. z ++ x.0) i.added ∙ append_assoc n0 i.gained x.0,
      record {
        turns = subst (λ fs. Turns a.setting sp l fs (i.gained ++ x.0)) (sym order)
            (vain-then a.setting sp l (with_turn sp l i.done) (f ∷ with_turn sp l r.0) i.gained x.0 i.vain
            (frees-turns a.setting sp l1 f (with_turn sp l r.0) x.0 frees));
        vain = λ none. let e = sym free ∙ none in cc;
      },
      goes-then a b c l i.gained x.0 i.goes x.3,
    )

-- all were in vain
pub turning-vain : (a b : SystemView) (n0 n1 : List Note) (pinned : Option ℕ) (turn : ℕ) (next : Option ℕ) → AreTurning a b n0 n1 pinned turn next →
    ((l : Ledger) → IsSound a.setting l → a.stands l → (i : Turning a b n0 n1 pinned turn next l) → i.todo ≡ []) →
    Gives a b n0 n1 IsLanded (AreTurns a.setting (spares a pinned))
turning-vain a b n0 n1 pinned turn next t none l sound stands landed =
    let i = t l sound stands landed in
    let sp = spares a pinned in
    let all : InVain a.setting a.closing l (with_turn sp l (turn_order l)) i.gained =
    subst (λ fs. InVain a.setting a.closing l (with_turn sp l fs) i.gained)
    (sym (i.split ∙ ap (λ y. i.done ++ y) (none l sound stands i) ∙ append-nil i.done)) i.vain in (
      i.gained,
      i.added,
      record { turns = vain-turns a.setting sp l (with_turn sp l (turn_order l)) i.gained all; vain = λ none. all },
      i.goes,
    )

-- as long as fewer had theirs than there are, one comes next
pub turning-some : (a b : SystemView) (n0 n1 : List Note) (pinned : Option ℕ) (turn used : ℕ) (l : Ledger) → Turning a b n0 n1 pinned turn None l →
    used ≡ length (turn_order l) → turn < used → ⊥
turning-some a b n0 n1 pinned turn used l i all more =
    let e = ap length i.split in let f = length-append i.done i.todo in let c = i.count in let z = ap length (first-no i.todo i.first) in
    omega (arith, e, f, c, z, all, more)

-- as many had theirs as there are
pub turning-over : (a b : SystemView) (n0 n1 : List Note) (pinned : Option ℕ) (turn used : ℕ) (next : Option ℕ) (l : Ledger) →
    (i : Turning a b n0 n1 pinned turn next l) → used ≡ length (turn_order l) → used ≤ turn → i.todo ≡ []
turning-over a b n0 n1 pinned turn used next l i all over = empty i.todo
    (let e = ap length i.split in let f = length-append i.done i.todo in let c = i.count in
    omega (arith, e, f, c, all, over))
  where
    empty : (fs : List ℕ) → length fs ≤ 0 → fs ≡ []
    empty [] h = refl
    empty (f ∷ fs) h = absurd (omega (arith, h))
