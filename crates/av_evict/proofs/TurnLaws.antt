-- A frame's turn in the direct pass.
use Rattle.std.proofs.Common.{slice_get, Bool, List, None, Option, Some, [], ap, arith, cond, false, if◌then◌else◌, is_none, map, not, refl, subst, sym, true, ℕ, ◌&&◌, ◌++◌, ◌<◌, ◌==◌, ◌||◌, ◌∙◌, ◌∷◌, ◌≡◌}
use Rattle.std.specs.Prelude.{IsTrue, MatchBool, MatchOption}
use Rattle.std.proofs.lemmas.Bool.Decides.{nat_tests}
use Rattle.std.proofs.lemmas.List.{append-nil, append_assoc}
use Rattle.std.specs.List.{list_any}
use Rattle.av_base.specs.Words.{how_many}
use Rattle.av_base.specs.declared.slot.Slot.{Slot}
use Rattle.av_trace.specs.declared.note.Note.{Note}
use Rattle.av_trace.specs.declared.note.Note.TheVariants.{Dropped, Put, Started, Unmapped}
use Rattle.av_plain.specs.Event.{after_note, after_notes, change_entries, if_some, into_cache, off_flight, to_inactive_tail, when}
use Rattle.av_plain.specs.Ledger.{Cached, InSlot, Ledger, Setting, frame_at, in_flight, is_merged, is_orphan, is_stale, is_unmapped, map_count, may_give, same_slot, slot_entries, slot_of}
use Rattle.av_plain.specs.Pass.{IsSlotFor, Spared, end_note, end_notes, has_turn, is_dirty, is_spared, is_stuck, turn_notes, unmap_notes}
use Rattle.av_plain.specs.Sound.{IsSound, flights, pairs}
use Rattle.av_plain.proofs.Sound.Counts.{pair-frame, slot-itself, slot_of-some}
use Rattle.av_plain.proofs.Sound.Steps.{UnmapKept, alike-end_note, alike-started, alike-then, flights-end_note, unmap_notes-kept}
use Rattle.av_evict.specs.Steps.{EndsFirst, IsSent, MayDrop, MayStart, closes}
use Rattle.av_evict.specs.Turn.{InVain, IsCleaned, IsEvicted, IsSentTo, IsTurn, IsTurnIfAny, MayTurn, MayTurnNow, with_turn}
use Rattle.av_evict.specs.declared.system.WriteEnd.{WriteEnd}
use Rattle.av_evict.proofs.StepLaws.{clean-may_drop, pair-slot_of, unmerged-count}

-- ---- a page is written at once

-- once it has begun, the slot is not stale
pub started-clean : (l : Ledger) (s : Slot) → is_stale (after_note (Started s) l) s ≡ false
started-clean l s = each l.cache
  where
    one : (c : Cached) (b : Bool) → same_slot s c.slot ≡ b →
        (same_slot s (if b then record c { stale = false } else c).slot && (if b then record c { stale = false }
        else c).stale) ≡ false
    one c true is = ap (λ b. b && false) is
    one c false is = ap (λ b. b && c.stale) is

    each : (cs : List Cached) → list_any (λ (c : Cached). same_slot s c.slot && c.stale)
        (map (λ (c : Cached). if same_slot s c.slot then record c { stale = false } else c) cs) ≡ false
    each [] = refl
    each (c ∷ cs) = (λ i. one c (same_slot s c.slot) refl i || each cs i)

pub write-may_start : (l : Ledger) (f : ℕ) (s : Slot) → IsSentTo f s l → MayStart f s l
write-may_start l f s may = record { cached = may.cached; landed = ap (list_any (same_slot s)) may.landed }

-- a slot that an entry names is no orphan
pub named-no_orphan : (l : Ledger) (s : Slot) → 0 < slot_entries l s → is_orphan l s ≡ false
named-no_orphan l s named = by (is_unmapped l (frame_at l s)) (not (in_flight l s)) (slot_entries l s == 0) (grind (arith, nat_tests, named))
  where
    by : (a b c : Bool) → c ≡ false → (a && b && c) ≡ false
    by true true c h = h
    by true false c h = refl
    by false b c h = refl

-- once it has begun, a write ends
write-some : (l : Ledger) (f : ℕ) (s : Slot) (ns : List Note) → IsSentTo f s l → EndsFirst None (after_note (Started s) l) ns → ⊥
write-some l f s ns may h = not_empty s (sym (ap (λ fs. fs ++ s ∷ []) may.landed) ∙ h.0)
  where
    not_empty : (s : Slot) → ◌≡◌ {A = List Slot} (s ∷ []) [] → ⊥
    not_empty s h = cc

pub write-no_end : (l : Ledger) (f : ℕ) (s : Slot) (ns ms : List Note) → IsSentTo f s l → ns ≡ Started s ∷ [] → EndsFirst None (after_notes l ns) ms → ⊥
write-no_end l f s ns ms may is ends = write-some l f s ms may (subst (λ x. EndsFirst None (after_notes l x) ms) is ends)

-- and it is the one that began
write-ends : (l : Ledger) (f : ℕ) (s : Slot) (e : WriteEnd) (ns : List Note) → IsSentTo f s l → EndsFirst (Some e) (after_note (Started s) l) ns →
    ns ≡ end_note e.failed s ∷ []
write-ends l f s e ns may h = h.1 ∙ subst (λ x. end_notes (after_note (Started s) l) x e.failed ≡ end_note e.failed s ∷ []) (sym is)
    (ap (λ b. end_note e.failed s ∷ when b (Dropped s)) kept)
  where
    is : e.slot ≡ s
    is = some_is e.slot s (h.0.0 ∙ ap (λ fs. slice_get (fs ++ s ∷ []) 0) may.landed)
      where
        some_is : (a b : Slot) → Some a ≡ Some b → a ≡ b
        some_is a b h = cc

    named : 0 < slot_entries (after_note (end_note e.failed s) (after_note (Started s) l)) s
    named = subst (λ es. 0 < slot_entries (record l { entries = es }) s)
        (sym (alike-then l (after_note (Started s) l) _ (alike-started l s) (alike-end_note (after_note (Started s) l) e.failed s)).entries) may.named

    kept : is_orphan (after_note (end_note e.failed s) (after_note (Started s) l)) s ≡ false
    kept = named-no_orphan (after_note (end_note e.failed s) (after_note (Started s) l)) s named

pub write-both : (l : Ledger) (f : ℕ) (s : Slot) (end : WriteEnd) (ns ms : List Note) → IsSentTo f s l → ns ≡ Started s ∷ [] →
    EndsFirst (Some end) (after_notes l ns) ms → ns ++ ms ≡ Started s ∷ end_note end.failed s ∷ []
write-both l f s end ns ms may is ends = λ i. is i ++ write-ends l f s end ms may (subst (λ x. EndsFirst (Some end) (after_notes l x) ms) is ends) i

-- ---- cleaned, and dropped

pub sent-pair : (l : Ledger) (f : ℕ) (s : Slot) → IsSentTo f s l → 0 < pairs l s f
sent-pair l f s at = slot_of-some f s l.cache at.cached

pub sent-below : (m : Setting) (l : Ledger) (f : ℕ) (s : Slot) → IsSound m l → IsSentTo f s l → f < m.frames
sent-below m l f s sound at = sound.in_range f (let p = sent-pair l f s at in let q = pair-frame s f l.cache in omega (arith, p, q))

pub cleaned-none : (l : Ledger) (s : Slot) → false ≡ is_stale l s → IsCleaned s false l []
cleaned-none l s is = (by (is_stale l s), ap (λ (b : Bool). if b then Started s ∷ end_note false s ∷ [] else []) is)
  where
    by : (b : Bool) → (b || true) ≡ true
    by true = refl
    by false = refl

pub cleaned-some : (l : Ledger) (s : Slot) (failed : Bool) (ns : List Note) → true ≡ is_stale l s → ns ≡ Started s ∷ end_note failed s ∷ [] →
    IsCleaned s failed l ns
cleaned-some l s failed ns is h = (ap (λ b. b || not failed) (sym is), h ∙ ap (λ (b : Bool). if b then Started s ∷ end_note failed s ∷ [] else []) is)

pub cleaned-may_drop : (m : Setting) (l : Ledger) (f : ℕ) (s : Slot) (ns : List Note) → IsSentTo f s l → IsCleaned s false l ns →
    IsSound m (after_notes l ns) →
    MayDrop f s (after_notes l ns)
cleaned-may_drop m l f s ns at clean sound = subst (λ x. MayDrop f s (after_notes l x)) (sym clean.1)
    (by (is_stale l s) refl (subst (λ x. IsSound m (after_notes l x)) clean.1 sound))
  where
    by : (b : Bool) → is_stale l s ≡ b → IsSound m (after_notes l (if b then Started s ∷ end_note false s ∷ [] else [])) →
        MayDrop f s (after_notes l (if b then Started s ∷ end_note false s ∷ [] else []))
    by false is sound = clean-may_drop l f s at.cached at.unmapped (ap (λ fs. how_many (same_slot s) fs) at.landed) is
    by true is sound =
        let l1 = after_note (Started s) l in
        let l2 = after_note (end_note false s) l1 in
        let a = alike-then l l1 l2 (alike-started l s) (alike-end_note l1 false s) in
        clean-may_drop l2 f s (pair-slot_of m l2 s f sound (let p = sent-pair l f s at in let e = a.pairs_same s f in omega (arith, p, e)))
        (ap (λ es. map_count (record l { entries = es }) f) a.entries ∙ at.unmapped)
        (flights-end_note l1 false s s ∙ gone (same_slot s s) (slot-itself s) (flights l1 s)) (same (frame_at l1 s) ∙ started-clean l s)
      where
        gone : (b : Bool) → b ≡ true → (n : ℕ) → cond b 0 n ≡ 0
        gone true h n = refl
        gone false h n = cc

        same : (o : Option ℕ) → is_stale (if_some o to_inactive_tail (off_flight s (after_note (Started s) l))) s ≡ is_stale
            (after_note (Started s) l) s
        same None = refl
        same (Some g) = refl

pub evicted-some : (l : Ledger) (s : Slot) (ns ms : List Note) → IsCleaned s false l ns → ms ≡ Dropped s ∷ [] → IsEvicted s true l (ns ++ ms)
evicted-some l s ns ms clean is = (false, ns, by (is_stale l s), clean, ap (λ x. ns ++ x) is)
  where
    by : (b : Bool) → (b && false) ≡ false
    by true = refl
    by false = refl

-- ---- a whole turn

-- the slot is stale where the frame was dirty
pub sent-stale : (m : Setting) (closing : Option ℕ) (l : Ledger) (f : ℕ) (s : Slot) → IsSlotFor m (closes closing) l f s →
    is_stale (after_notes l (unmap_notes l f s)) s ≡ is_dirty l f s
sent-stale m closing l f s for = by (slot_of l f) refl for
  where
    gone : (l : Ledger) (b : Bool) → is_stale (after_notes l (when b (Unmapped f))) s ≡ is_stale l s
    gone l false = refl
    gone l true = at (slot_of l f)
      where
        at : (o : Option Slot) → is_stale (if_some o (λ s. change_entries f (λ _. InSlot s)) l) s ≡ is_stale l s
        at None = refl
        at (Some t) = refl

    here : (b c : Bool) → b ≡ true → ((b && true) || c) ≡ true
    here true c h = refl
    here false c h = cc

    by : (o : Option Slot) → slot_of l f ≡ o → MatchOption o (IsTrue (may_give m closing l s)) (λ t. s ≡ t) →
        is_stale (after_notes l (when (is_none (slot_of l f)) (Put f s) ++ when (not (map_count l f == 0)) (Unmapped f)))
        s ≡ (is_none (slot_of l f) || is_stale l s)
    by None is h = subst (λ o. is_stale (after_notes l (when (is_none o) (Put f s) ++ when (not (map_count l f == 0)) (Unmapped f)))
        s ≡ (is_none o || is_stale l s))
        (sym is) (gone (into_cache s f true l) (not (map_count l f == 0)) ∙ here (same_slot s s) (is_stale l s) (slot-itself s))
    by (Some t) is h = subst (λ o. is_stale (after_notes l (when (is_none o) (Put f s) ++ when (not (map_count l f == 0)) (Unmapped f)))
        s ≡ (is_none o || is_stale l s))
        (sym is) (gone l (not (map_count l f == 0)))

pub sent-to : (m : Setting) (closing : Option ℕ) (l : Ledger) (f : ℕ) (s : Slot) (ns : List Note) → IsSound m l → MayTurnNow f l →
    IsSent m closing f (Some s) l ns →
    IsSentTo f s (after_notes l ns)
sent-to m closing l f s ns sound may sent = subst (λ x. IsSentTo f s (after_notes l x)) (sym sent.2) (record {
  landed = u.flight_same ∙ may.landed;
  cached = pair-slot_of m (after_notes l (unmap_notes l f s)) s f u.sound u.pair;
  unmapped = u.none;
  named = (let w = u.sound.used s f u.pair in let z = u.none in
      let y = ap (λ fs. how_many (same_slot s) fs) (u.flight_same ∙ may.landed) in omega (arith, w, z, y));
})
  where
    u : UnmapKept m l f s (after_notes l (unmap_notes l f s))
    u = unmap_notes-kept m (closes closing) l f s sound sent.1 (unmerged-count l f may.send.unmerged) may.send.used

pub turn-none : (m : Setting) (closing : Option ℕ) (l : Ledger) (f : ℕ) (ns : List Note) → IsSent m closing f None l ns →
    IsTurn m closing f false l ns
turn-none m closing l f ns sent = by (is_stuck m (closes closing) l f) sent.0
  where
    by : (b : Bool) → b ≡ true → MatchBool b (ns ≡ []) ((s : Slot) × (rest : List Note) × IsSlotFor m (closes closing) l f s
        × (is_dirty l f s ≡ true) × (ns ≡ turn_notes l f s true ++ rest) × (rest ≡ []))
    by true h = sent.1
    by false h = cc

pub turn-both : (m : Setting) (closing : Option ℕ) (l : Ledger) (f : ℕ) (s : Slot) (freed : Bool) (ns ms : List Note) →
    IsSent m closing f (Some s) l ns →
    IsEvicted s freed (after_notes l ns) ms → IsTurn m closing f freed l (ns ++ ms)
turn-both m closing l f s true ns ms sent out = record {
  slot = s;
  failed = out.0;
  unstuck = sent.0;
  for = sent.1;
  written = ap (λ b. b && out.0) (sym stale) ∙ out.2;
  whole = (λ i. sent.2 i ++ out.4 i) ∙ sym (append_assoc (unmap_notes l f s) out.1 (Dropped s ∷ []))
      ∙ ap (λ x. (unmap_notes l f s ++ x) ++ Dropped s ∷ []) (out.3.1 ∙ ap (λ (b : Bool). if b then Started s ∷ end_note out.0 s ∷ [] else []) stale);
}
  where
    stale : is_stale (after_notes l ns) s ≡ is_dirty l f s
    stale = ap (λ x. is_stale (after_notes l x) s) sent.2 ∙ sent-stale m closing l f s sent.1
turn-both m closing l f s false ns ms sent out = by (is_stuck m (closes closing) l f) sent.0
  where
    stale : is_stale (after_notes l ns) s ≡ is_dirty l f s
    stale = ap (λ x. is_stale (after_notes l x) s) sent.2 ∙ sent-stale m closing l f s sent.1

    first : (b : Bool) → (b || false) ≡ true → b ≡ true
    first true h = refl
    first false h = h

    by : (b : Bool) → b ≡ false → MatchBool b (ns ++ ms ≡ []) ((t : Slot) × (rest : List Note) × IsSlotFor m (closes closing) l f t
        × (is_dirty l f t ≡ true) × (ns ++ ms ≡ turn_notes l f t true ++ rest) × (rest ≡ []))
    by true h = cc
    by false h = (
      s,
      [],
      sent.1,
      sym stale ∙ first _ out.0,
      (λ i. sent.2 i ++ (out.1 ∙ ap (λ (b : Bool). if b then Started s ∷ end_note true s ∷ [] else []) stale) i) ∙ sym (append-nil _),
      refl,
    )

-- ---- a frame that is left alone has no turn

pub stuck-turn : (m : Setting) (sp : Spared) (l : Ledger) (f : ℕ) → is_stuck m (closes sp.closing) l f ≡ true → IsTurnIfAny m sp f false l []
stuck-turn m sp l f stuck = by (has_turn sp l f)
  where
    by : (b : Bool) → InVain m sp.closing l (cond b (f ∷ []) []) []
    by true = subst (λ b. MatchBool b (InVain m sp.closing l [] [])
        ((s : Slot) × (rest : List Note) × IsSlotFor m (closes sp.closing) l f s × (is_dirty l f s ≡ true)
        × ([] ≡ turn_notes l f s true ++ rest) × InVain m sp.closing (after_notes l (turn_notes l f s true)) [] rest)) (sym stuck) refl
    by false = refl

pub no-turn : (m : Setting) (sp : Spared) (l : Ledger) (f : ℕ) → has_turn sp l f ≡ false → IsTurnIfAny m sp f false l []
no-turn m sp l f is = by (has_turn sp l f) is
  where
    by : (b : Bool) → b ≡ false → InVain m sp.closing l (cond b (f ∷ []) []) []
    by true h = cc
    by false h = refl

pub with_turn-one : (sp : Spared) (l : Ledger) (f : ℕ) → has_turn sp l f ≡ true → with_turn sp l (f ∷ []) ≡ f ∷ []
with_turn-one sp l f is = ap (λ b. cond b (f ∷ []) []) is

pub turn-if_any : (m : Setting) (sp : Spared) (l : Ledger) (f : ℕ) (freed : Bool) (ns : List Note) → has_turn sp l f ≡ true →
    IsTurn m sp.closing f freed l ns → IsTurnIfAny m sp f freed l ns
turn-if_any m sp l f true ns is turn = (is, turn)
turn-if_any m sp l f false ns is turn = subst (λ fs. InVain m sp.closing l fs ns) (sym (with_turn-one sp l f is)) turn

pub turn-now : (sp : Spared) (l : Ledger) (f : ℕ) → has_turn sp l f ≡ true → MayTurn f l → MayTurnNow f l
turn-now sp l f is may = record { landed = may.landed; send = record { used = may.used; unmerged = not-last (is_spared sp f) (is_merged l f) is } }
  where
    not-last : (a b : Bool) → (not a && not b) ≡ true → b ≡ false
    not-last true b h = cc
    not-last false true h = cc
    not-last false false h = refl
