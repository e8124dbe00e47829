-- Where no area is mergeable, no page is a candidate, and so a merge has no notes.
use Rattle.std.proofs.Common.{◌≡◌, ℕ, Bool, false, cond, not, ◌&&◌, ◌++◌, List, [], ◌∷◌, map, Option, Some, None, refl, sym, ap, subst, ◌∙◌}
use Rattle.std.specs.Option.{option_map}
use Rattle.std.specs.Prelude.{is_none}
use Rattle.av_base.specs.Keys.{Key}
use Rattle.av_base.specs.declared.flags.Flags.{Flags}
use Rattle.av_vma.specs.Areas.{area_of, is_mergeable}
use Rattle.av_vma.specs.Pages.{pages_in}
use Rattle.av_vma.specs.declared.area.Area.{Area}
use Rattle.av_spaces.specs.Spaces.{AreNumbered}
use Rattle.av_plain.specs.Areas.{Rmap}
use Rattle.av_plain.specs.Device.{Device}
use Rattle.av_trace.specs.declared.note.Note.{Note}
use Rattle.av_plain.specs.Event.{after_notes}
use Rattle.av_plain.specs.Fault.{is_locked}
use Rattle.av_plain.specs.Ledger.{Entry, InFrame, InSlot, Zero, Ledger, Setting, entry, is_merged, slot_of}
use Rattle.av_plain.specs.Merge.{FrameBytes, candidate, candidate_by, may_merge, merge_notes, merges, with_candidate}
use Rattle.av_plain.specs.World.{Page, World, pages}
use Rattle.av_mem.specs.declared.mem.Mem.{Mem}
use Rattle.av_mem.specs.Between.{KeepsBetween}
use Rattle.av_mem.specs.Mem.{setting_by, view}
use Rattle.av_ksm.specs.Merging.{HasNoted}
use Rattle.av_ksm.proofs.MergingDone.{noted-none}

-- without a candidate
pub merges-none : (m : Setting) (held : FrameBytes) (w : World) (l : Ledger) (earlier : List ℕ) (ks : List Key)
    → ((k : Key) → candidate w l k ≡ None) → merges m held w l earlier ks ≡ []
merges-none m held w l earlier [] none = refl
merges-none m held w l earlier (k ∷ ks) none =
    ap (λ (o : Option ℕ). merge_notes m held l earlier k o
    ++ merges m held w (after_notes l (merge_notes m held l earlier k o)) (with_candidate earlier o) ks) (none k)
    ∙ merges-none m held w l earlier ks none

-- the area of a page isn't mergeable, and then neither is the page
abbrev flag : Option Flags → Bool
flag None = false
flag (Some f) = f.mergeable

page-unmergeable : (o : Option Area) (x : Option Page) → option_map (λ (area : Area). area.flags) o ≡ option_map (λ (q : Page). q.flags) x
    → ((A : Area) → o ≡ Some A → A.flags.mergeable ≡ false) → may_merge x ≡ false
page-unmergeable o None same none = refl
page-unmergeable None (Some q) same none = cc
page-unmergeable (Some A) (Some q) same none = sym (ap flag same) ∙ none A refl

module _ (d : Device) (k : Mem) (w : World) (r : Rmap) (l : Ledger) (h : KeepsBetween d k w r l) (numbered : AreNumbered k.spaces)
    (none : (number : ℕ) → is_mergeable (area_of k.spaces.areas number) ≡ false) where
  unmergeable : (p page : ℕ) → may_merge (pages w p page) ≡ false
  unmergeable p page = page-unmergeable (pages_in ((view k).areas p) page) (pages w p page) (h.serves.areas.flags p page)
      (λ A is. let n = numbered.numbers p page A is in sym (ap is_mergeable n.1.at) ∙ none n.0)

  pub candidate-none : (key : Key) → candidate w l key ≡ None
  candidate-none key = by (entry l key)
    where
      by : (o : Option Entry) → candidate_by w l key o ≡ None
      by None = refl
      by (Some Zero) = refl
      by (Some (InSlot s)) = refl
      by (Some (InFrame f seen)) = ap (λ b. cond (b && not (is_merged l f) && is_none (slot_of l f) && not (is_locked w l f)) (Some f) None)
          (unmergeable key.0 key.1)

  pub noted-unmergeable : (notes : List Note) → HasNoted d k k w r l (merges (setting_by d k) (view k).bytes w l [] (map (λ e. e.0) l.entries)) notes notes
  noted-unmergeable notes = subst (λ ns. HasNoted d k k w r l ns notes notes)
      (sym (merges-none (setting_by d k) (view k).bytes w l [] (map (λ e. e.0) l.entries) candidate-none)) (noted-none d k w r l notes h)
