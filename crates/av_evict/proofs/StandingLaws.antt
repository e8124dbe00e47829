-- What a pass finds of a frame, and the tests of the definitions.
use Rattle.std.proofs.Common.{Bool, None, Option, Some, ap, cond, false, is_none, is_some, not, refl, subst, sym, true, ℕ, ◌&&◌, ◌||◌, ◌∙◌, ◌≡◌}
use Rattle.av_base.specs.declared.slot.Slot.{Slot}
use Rattle.av_trace.specs.declared.reply.OutOf.{OutOf}
use Rattle.av_plain.specs.Ledger.{Ledger, is_merged, slot_of}
use Rattle.av_plain.specs.Pass.{Spared, has_turn, is_pinned, is_spared}
use Rattle.av_evict.specs.Standing.{gets_turn, numbers_of, stands_as}
use Rattle.av_evict.specs.declared.standing.Standing.{Standing}
use Rattle.av_evict.specs.declared.standing.Standing.TheVariants.{Pinned, Locked, Merged, Uncached, Cached}

-- by the four tests
abbrev stands_by : Bool → Bool → Bool → Bool → Standing
stands_by p k m n = cond p Pinned (cond k Locked (cond m Merged (cond n Uncached Cached)))

-- it has a turn where it stands so
pub standing-turn : (sp : Spared) (l : Ledger) (f : ℕ) (b : Bool) → b ≡ gets_turn (stands_as sp l f) → has_turn sp l f ≡ b
standing-turn sp l f b h = by (is_pinned sp.pinned f) (sp.locked f) (is_merged l f) (is_none (slot_of l f)) ∙ sym h
  where
    by : (p k m n : Bool) → (not (p || k) && not m) ≡ gets_turn (stands_by p k m n)
    by true k m n = refl
    by false true m n = refl
    by false false true n = refl
    by false false false true = refl
    by false false false false = refl

pub locked-no_turn : (sp : Spared) (l : Ledger) (f : ℕ) → sp.locked f ≡ true → has_turn sp l f ≡ false
locked-no_turn sp l f h = by (is_pinned sp.pinned f) (sp.locked f) (is_merged l f) h
  where
    by : (p k m : Bool) → k ≡ true → (not (p || k) && not m) ≡ false
    by true k m h = refl
    by false true m h = refl
    by false false m h = cc

pub standing-unlocked : (sp : Spared) (l : Ledger) (f : ℕ) → has_turn sp l f ≡ true → sp.locked f ≡ false
standing-unlocked sp l f h = by (is_pinned sp.pinned f) (sp.locked f) (is_merged l f) h
  where
    by : (p k m : Bool) → (not (p || k) && not m) ≡ true → k ≡ false
    by true k m h = cc
    by false true m h = cc
    by false false m h = refl

-- what a frame adds to each number
pub record Counts (sp : Spared) (l : Ledger) (f : ℕ) (n : OutOf) : Type 0 where
  pub noslot : n.noslot ≡ cond (has_turn sp l f && is_none (slot_of l f)) 1 0
  pub fault : n.fault ≡ cond (has_turn sp l f && is_some (slot_of l f)) 1 0
  pub locked : n.locked ≡ cond (not (is_pinned sp.pinned f) && sp.locked f) 1 0
  pub ksm : n.ksm ≡ cond (not (is_spared sp f) && is_merged l f) 1 0

pub counts-of : (sp : Spared) (l : Ledger) (f : ℕ) (s : Standing) (n : OutOf) → s ≡ stands_as sp l f → n ≡ numbers_of s → Counts sp l f n
counts-of sp l f s n is h = subst (Counts sp l f) (sym (h ∙ ap numbers_of is)) (record {
  noslot = noslot (is_pinned sp.pinned f) (sp.locked f) (is_merged l f) (slot_of l f);
  fault = fault (is_pinned sp.pinned f) (sp.locked f) (is_merged l f) (slot_of l f);
  locked = locked (is_pinned sp.pinned f) (sp.locked f) (is_merged l f) (is_none (slot_of l f));
  ksm = ksm (is_pinned sp.pinned f) (sp.locked f) (is_merged l f) (is_none (slot_of l f));
})
  where
    noslot : (p k m : Bool) (o : Option Slot) → ◌≡◌ {A = ℕ} (numbers_of (stands_by p k m (is_none o))).noslot
        (cond ((not (p || k) && not m) && is_none o) 1 0)
    noslot true k m o = refl
    noslot false true m o = refl
    noslot false false true o = refl
    noslot false false false None = refl
    noslot false false false (Some s) = refl

    fault : (p k m : Bool) (o : Option Slot) → ◌≡◌ {A = ℕ} (numbers_of (stands_by p k m (is_none o))).fault
        (cond ((not (p || k) && not m) && is_some o) 1 0)
    fault true k m o = refl
    fault false true m o = refl
    fault false false true o = refl
    fault false false false None = refl
    fault false false false (Some s) = refl

    locked : (p k m n : Bool) → ◌≡◌ {A = ℕ} (numbers_of (stands_by p k m n)).locked (cond (not p && k) 1 0)
    locked true k m n = refl
    locked false true m n = refl
    locked false false true n = refl
    locked false false false true = refl
    locked false false false false = refl

    ksm : (p k m n : Bool) → ◌≡◌ {A = ℕ} (numbers_of (stands_by p k m n)).ksm (cond (not (p || k) && m) 1 0)
    ksm true k m n = refl
    ksm false true m n = refl
    ksm false false true n = refl
    ksm false false false true = refl
    ksm false false false false = refl
