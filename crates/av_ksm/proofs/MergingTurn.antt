-- A page in its turn: what it does, and what is known then.
use Rattle.std.proofs.Common.{◌≡◌, ◌⊎◌, inl, inr, ℕ, ◌<◌, Bool, true, false, cond, not, ◌&&◌, List, [], ◌∷◌, ◌++◌, Option, Some, None, is_none, refl, sym, ap, subst, ◌∙◌, ◌==◌}
use Rattle.av_base.specs.Keys.{Key}
use Rattle.av_base.specs.declared.slot.Slot.{Slot}
use Rattle.av_base.specs.Page.{address_of, page_size}
use Rattle.av_trace.specs.declared.note.Note.{Note}
use Rattle.av_trace.specs.declared.note.Note.TheVariants.{Joined, Shared}
use Rattle.av_plain.specs.Areas.{Rmap}
use Rattle.av_plain.specs.Device.{Device}
use Rattle.av_plain.specs.Event.{after_notes}
use Rattle.av_plain.specs.Fault.{is_locked}
use Rattle.av_plain.specs.Ledger.{Entry, InFrame, InSlot, Ledger, Zero, entry, is_merged, slot_of}
use Rattle.av_plain.specs.Merge.{candidate, candidate_by, may_merge, merge_notes, with_candidate}
use Rattle.av_plain.specs.World.{World, pages}
use Rattle.av_plain.proofs.Sound.Counts.{same-itself}
use Rattle.av_plain.proofs.Wrote.{device-itself}
use Rattle.av_swap_laws.proofs.Parts.{none-some, some-is}
use Rattle.av_mem.specs.declared.mem.Mem.{Mem}
use Rattle.av_mem.specs.Between.{KeepsBetween}
use Rattle.av_mem.specs.Mem.{frame_count, setting_by, view}
use Rattle.av_mem.specs.Steps.{KeepsParts}
use Rattle.av_mem.proofs.ServesLaws.{setting-stays}
use Rattle.av_ksm.specs.Contents.{AreKept}
use Rattle.av_ksm.specs.Join.{HasOwn}
use Rattle.av_ksm.specs.Known.{IsLeast, Known, Knows, MayJoin, TakesTurn, Waits, first_like, turn_notes}
use Rattle.av_ksm.specs.Merging.{HasNoted, HasOther, HasTurned, IsAware, IsReady}
use Rattle.av_ksm.specs.declared.contents.Contents.{Contents}
use Rattle.av_ksm.proofs.Knowing.{first-holds}
use Rattle.av_ksm.proofs.MergingDone.{noted-none, same-bytes}
use Rattle.av_ksm.proofs.Turn.{turn-taken}

-- a candidate's frame is its page's own, which is neither merged nor cached
pub candidate-own : (w : World) (l : Ledger) (k : Key) (f : ℕ) → candidate w l k ≡ Some f → (seen : Bool) × HasOwn l k f seen
candidate-own w l k f is = by (entry l k) refl is
  where
    tests : (g : ℕ) (seen : Bool) → entry l k ≡ Some (InFrame g seen) → (a b : Bool) → is_merged l g ≡ b → (o : Option Slot) → slot_of l g ≡ o
        → (c : Bool) → cond (a && not b && is_none o && not c) (Some g) None ≡ Some f → (seen : Bool) × HasOwn l k f seen
    tests g seen at false b merged o slot c e = absurd (none-some f e)
    tests g seen at true true merged o slot c e = absurd (none-some f e)
    tests g seen at true false merged (Some s) slot c e = absurd (none-some f e)
    tests g seen at true false merged None slot true e = absurd (none-some f e)
    tests g seen at true false merged None slot false e = (
      seen,
      subst (λ x. HasOwn l k x seen) (some-is g f e) (record { names = at; unmerged = merged; uncached = slot }),
    )

    by : (o : Option Entry) → entry l k ≡ o → candidate_by w l k o ≡ Some f → (seen : Bool) × HasOwn l k f seen
    by None at e = absurd (none-some f e)
    by (Some Zero) at e = absurd (none-some f e)
    by (Some (InSlot s)) at e = absurd (none-some f e)
    by (Some (InFrame g seen)) at e = tests g seen at (may_merge (pages w k.0 k.1)) (is_merged l g) refl (slot_of l g) refl (is_locked w l g) e

-- and that isn't locked
pub candidate-unlocked : (w : World) (l : Ledger) (k : Key) (f : ℕ) → candidate w l k ≡ Some f → is_locked w l f ≡ false
candidate-unlocked w l k f is = by (entry l k) is
  where
    tests : (g : ℕ) (a b o c : Bool) → is_locked w l g ≡ c → cond (a && not b && o && not c) (Some g) None ≡ Some f → is_locked w l f ≡ false
    tests g false b o c e i = absurd (none-some f i)
    tests g true true o c e i = absurd (none-some f i)
    tests g true false false c e i = absurd (none-some f i)
    tests g true false true true e i = absurd (none-some f i)
    tests g true false true false e i = ap (is_locked w l) (sym (some-is g f i)) ∙ e

    by : (o : Option Entry) → candidate_by w l k o ≡ Some f → is_locked w l f ≡ false
    by None i = absurd (none-some f i)
    by (Some Zero) i = absurd (none-some f i)
    by (Some (InSlot s)) i = absurd (none-some f i)
    by (Some (InFrame g seen)) i = tests g (may_merge (pages w k.0 k.1)) (is_merged l g) (is_none (slot_of l g)) (is_locked w l g) refl i

-- one that is known itself does nothing
turn-none : (l : Ledger) (k : Key) (own f : ℕ) → (f == own) ≡ true → turn_notes l k own f ≡ []
turn-none l k own f same = ap (λ b. cond b [] (cond (is_merged l f) (Joined k.0 (address_of k.1) f ∷ [])
    (Shared f ∷ Joined k.0 (address_of k.1) f ∷ []))) same

module _ (d : Device) (old : Mem) (w : World) (r : Rmap) (l : Ledger) (earlier : List ℕ) (key : Key) where
  -- a turn by whether the page is a candidate
  pub turned-as : (new : Mem) (c : Contents) (before now : List Note) (o : Option ℕ) → candidate w l key ≡ o
      → HasNoted d old new w r l (merge_notes (setting_by d old) (view old).bytes l earlier key o) before now
      → IsAware d new (after_notes l (merge_notes (setting_by d old) (view old).bytes l earlier key o)) (with_candidate earlier o) c
      → HasTurned d old new w r l earlier key c before now
  turned-as new c before now o is noted aware = record {
    noted = subst (λ o. HasNoted d old new w r l (merge_notes (setting_by d old) (view old).bytes l earlier key o) before now) (sym is) noted;
    aware = subst (λ o. IsAware d new (after_notes l (merge_notes (setting_by d old) (view old).bytes l earlier key o)) (with_candidate earlier o) c)
        (sym is) aware;
  }

  -- and by its notes
  pub turned-by : (new : Mem) (c : Contents) (before now : List Note) (own : ℕ) → candidate w l key ≡ Some own → (ns : List Note)
      → merge_notes (setting_by d old) (view old).bytes l earlier key (Some own) ≡ ns → HasNoted d old new w r l ns before now
      → IsAware d new (after_notes l ns) (earlier ++ own ∷ []) c → HasTurned d old new w r l earlier key c before now
  turned-by new c before now own is ns are noted aware = turned-as new c before now (Some own) is
      (subst (λ ns. HasNoted d old new w r l ns before now) (sym are) noted)
      (subst (λ ns. IsAware d new (after_notes l ns) (earlier ++ own ∷ []) c) (sym are) aware)

  module _ (c : Contents) (h : KeepsBetween d old w r l) (aware : IsAware d old l earlier c) where
    -- it is none
    pub turned-none : (notes : List Note) → candidate w l key ≡ None → HasTurned d old old w r l earlier key c notes notes
    turned-none notes is = turned-as old c notes notes None is (noted-none d old w r l notes h) aware

    module _ (own : ℕ) (is : candidate w l key ≡ Some own) where
      abbrev like : Option Known
      like = first_like (view old).bytes aware.known own

      takes : (o : Option Known) → like ≡ o → TakesTurn (setting_by d old) (view old).bytes l earlier aware.known key own o
      takes o at = let x = candidate-own w l key own is in
          turn-taken (setting_by d old) (view old).bytes l earlier aware.known aware.knows key own x.0 x.1 o at

      -- nothing like it is known: it is now
      pub turned-new : (c' : Contents) (notes : List Note) → like ≡ None
          → AreKept (frame_count old) (view old).bytes (aware.known ++ (own, Some key) ∷ []) c'
          → HasTurned d old old w r l earlier key c' notes notes
      turned-new c' notes none kept = let t = takes None none in
          turned-by old c' notes notes own is [] t.0 (noted-none d old w r l notes h)
          (record { known = aware.known ++ (own, Some key) ∷ []; kept = kept; knows = t.1 })

      module _ (f : ℕ) (page : Option Key) (at : like ≡ Some (f, page)) (below : f < frame_count old) where
        -- it is known itself
        pub turned-again : (c' : Contents) → AreKept (frame_count old) (view old).bytes aware.known c' → (notes : List Note) → f ≡ own
            → HasTurned d old old w r l earlier key c' notes notes
        turned-again c' kept notes same =
            let t = takes (Some (f, page)) at in
            let none : turn_notes l key own f ≡ [] = turn-none l key own f (ap (λ n. n == own) same ∙ same-itself own) in
            turned-by old c' notes notes own is [] (t.0 ∙ none) (noted-none d old w r l notes h) (record {
              known = aware.known;
              kept = kept;
              knows = subst (λ ns. Knows (setting_by d old) (view old).bytes (after_notes l ns) (earlier ++ own ∷ []) aware.known) none (t.1 below);
            })

        -- another one is, which is merged or waits to be
        pub turned-ready : IsReady l f page
        turned-ready = by (subst (MayJoin (setting_by d old) (view old).bytes l earlier own) at (aware.knows own))
          where
            by : IsLeast (setting_by d old) (view old).bytes l own (f, page) ⊎ Waits (setting_by d old) (view old).bytes l earlier own (f, page)
                → IsReady l f page
            by (inl least) = inl least.merged
            by (inr x) = inr x.at

        pub turned-same : (i : ℕ) → i < page_size → (view old).bytes f i ≡ (view old).bytes own i
        turned-same = same-bytes (view old).bytes f own (first-holds (view old).bytes aware.known own (f, page) at)

        pub turned-other : (f == own) ≡ false → HasOther l key own f
        turned-other other = let x = candidate-own w l key own is in record { seen = x.0; own_is = x.1; other = other }

        pub turned-joins : (c' : Contents) → AreKept (frame_count old) (view old).bytes aware.known c' → (new : Mem) (before now : List Note)
            → (view new).bytes ≡ (view old).bytes → KeepsParts old new → HasNoted d old new w r l (turn_notes l key own f) before now
            → HasTurned d old new w r l earlier key c' before now
        turned-joins c' kept new before now bytes parts noted =
            let t = takes (Some (f, page)) at in
            turned-by new c' before now own is (turn_notes l key own f) t.0 noted (record {
              known = aware.known;
              kept = subst (λ n. AreKept n (view new).bytes aware.known c') (sym parts.count)
                  (subst (λ held. AreKept (frame_count old) held aware.known c') (sym bytes) kept);
              knows = subst (λ held. Knows (setting_by d new) held (after_notes l (turn_notes l key own f)) (earlier ++ own ∷ []) aware.known)
                  (sym bytes)
                  (subst (λ m. Knows m (view old).bytes (after_notes l (turn_notes l key own f)) (earlier ++ own ∷ []) aware.known)
                  (sym (setting-stays old new parts d d (device-itself d))) (t.1 below));
            })
