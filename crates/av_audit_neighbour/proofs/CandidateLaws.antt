-- Which pages are candidates, by what the memories and the book keep.
use Rattle.std.proofs.Common.{◌≡◌, ℕ, ◌≤◌, Bool, true, false, cond, not, ◌&&◌, Option, Some, None, is_none, refl, sym, ap, subst, ◌∙◌}
use Rattle.std.specs.Prelude.{option_and_then}
use Rattle.std.specs.BTreeMap.{get}
use Rattle.std.specs.Ordering.{nat_cmp}
use Rattle.av_base.specs.Keys.{Key}
use Rattle.av_base.specs.Limits.{top_page}
use Rattle.av_plain.specs.Fault.{is_locked}
use Rattle.av_plain.specs.Ledger.{Entry, InFrame, Ledger, is_merged, slot_of}
use Rattle.av_plain.specs.Merge.{candidate_by, may_merge}
use Rattle.av_plain.specs.World.{Process, World, pages, process}
use Rattle.av_audit_world.specs.Memories.{IsProcess, IsWorld}
use Rattle.av_audit_world.specs.declared.memories.Memories.{Memories}
use Rattle.av_audit_world.specs.declared.space.Space.{Space}
use Rattle.av_audit_world.proofs.WorldLaws.{found, spaces-find}

-- no page is at the top or above
pub none-above : (memories : Memories) (w : World) (k : Key) → IsWorld memories w → top_page ≤ k.1 → pages w k.0 k.1 ≡ None
none-above memories w k h high = by (get nat_cmp memories.spaces k.0) refl
  where
    space : IsProcess (get nat_cmp memories.spaces k.0) (process w k.0)
    space = spaces-find memories.spaces.entries w k.0 h.spaces

    none : (q : Option Process) → IsProcess None q → option_and_then (λ (q : Process). q k.1) q ≡ None
    none None h = refl
    none (Some q) h = absurd h

    by : (o : Option Space) → get nat_cmp memories.spaces k.0 ≡ o → pages w k.0 k.1 ≡ None
    by None e = none (process w k.0) (subst (λ o. IsProcess o (process w k.0)) e space)
    by (Some s) e = (found (get nat_cmp memories.spaces k.0) w k.0 s space e).1.top k.1 high

-- ---- a page whose entry names a frame

module _ (w : World) (l : Ledger) (k : Key) (f : ℕ) (seen : Bool) (o : Option Entry) (is : Some (InFrame f seen) ≡ o) (may : Bool)
    (asked : may ≡ (may_merge (pages w k.0 k.1) && not (is_merged l f) && is_none (slot_of l f))) where
  by-test : (locked : Bool) → is_locked w l f ≡ locked → candidate_by w l k o ≡ cond (may && not locked) (Some f) None
  by-test locked e = ap (candidate_by w l k) (sym is) ∙ (λ i. cond (sym asked i && not (e i)) (Some f) None)

  -- it is a candidate
  pub joins : may ≡ true → is_locked w l f ≡ false → Some f ≡ candidate_by w l k o
  joins yes' free = sym (by-test false free ∙ ap (λ b. cond (b && true) (Some f) None) yes')

  -- or isn't, by itself
  pub stays : may ≡ false → None ≡ candidate_by w l k o
  stays no' = sym (by-test (is_locked w l f) refl ∙ ap (λ b. cond (b && not (is_locked w l f)) (Some f) None) no')

  -- or since it has a locked page
  pub stays-locked : is_locked w l f ≡ true → None ≡ candidate_by w l k o
  stays-locked locked = sym (by-test true locked ∙ none may)
    where
      none : (b : Bool) → cond (b && false) (Some f) None ≡ None
      none true = refl
      none false = refl
