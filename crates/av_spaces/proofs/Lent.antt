-- The tree of a process is lent for a call on its areas, and changed where it lies: what stands of all processes then.
use Rattle.std.proofs.Common.{◌≡◌, ℕ, ◌∙◌, true, List, Option, Some, is_some, slice_set, subst, sym, ap}
use Rattle.std.proofs.Math.ListN.{length-set}
use Rattle.av_vma.specs.declared.area.Area.{Area}
use Rattle.av_vma.specs.Areas.{area_of}
use Rattle.av_vma.specs.Pages.{Pages}
use Rattle.av_vmatree.specs.declared.span.Span.{Span}
use Rattle.av_vmatree.specs.Spans.{is_page_taken}
use Rattle.av_anon.specs.declared.anons.Anons.{Anons}
use Rattle.av_merge.specs.Kin.{StayKin}
use Rattle.av_merge.specs.Pages.{pages_by}
use Rattle.av_merge.specs.Process.{AreAreasOf, Stays}
use Rattle.av_spaces.specs.Kin.{AnonsStay, InOrder}
use Rattle.av_spaces.specs.Spaces.{AllSpaces, IsChanged, areas_of, is_taken, pages_of}
use Rattle.av_spaces.specs.Trees.{AreTrees, HasTrees, Trees, all_spaces, spaces_by, tree_at}
use Rattle.av_spaces.proofs.Kin.{anons_stay_by}
use Rattle.av_spaces.proofs.Trees.{changes, count_lent, lives_is, pages_there, processes_are, taken_as, tree_of, trees_lent}

-- a process that lives has a tree
pub tree_there : (areas : List (Option Area)) (ts : Trees) (s : AllSpaces) (p : ℕ) → all_spaces areas ts ≡ s → is_some (areas_of s.processes p) ≡ true
    → is_some (tree_at ts p) ≡ true
tree_there areas ts s p view lives = lives_is (area_of areas) ts p ∙ ap (λ all. is_some (areas_of all p)) (processes_are view) ∙ lives

-- of the trees of n processes the one of p is lent
pub record IsLent (old : List (Option Area)) (ts : Trees) (n : ℕ) (s : AllSpaces) (p : ℕ) (before : List Span) : Type 0 where
  pub view : all_spaces old ts ≡ s
  pub sound : HasTrees (area_of old) ts n
  pub was : tree_at ts p ≡ Some before

pub is_lent : (old : List (Option Area)) (ts : Trees) (n : ℕ) (s : AllSpaces) (p : ℕ) (before : List Span) → all_spaces old ts ≡ s
    → HasTrees (area_of old) ts n → tree_at ts p ≡ Some before → IsLent old ts n s p before
is_lent old ts n s p before view sound was = record { view = view; sound = sound; was = was }

module _ {old : List (Option Area)} {ts : Trees} {n : ℕ} {s : AllSpaces} {p : ℕ} {before : List Span} (h : IsLent old ts n s p before) where
  -- the tree is that of its areas
  pub areas_lent : AreAreasOf p (area_of old) before
  areas_lent = tree_of (area_of old) ts p before h.sound.trees h.was

  -- and has the pages of the process
  pub pages_lent : (IsSo : Pages → Type 0) → IsSo (pages_of s.processes p) → IsSo (pages_by (area_of old) before)
  pages_lent IsSo so = subst IsSo
      (λ i page. pages_there (area_of old) ts p before s.processes h.sound.trees (sym h.was) (processes_are h.view) page i) so

  pub taken_lent : is_page_taken before ≡ is_taken s.processes p
  taken_lent = taken_as (area_of old) ts p before s.processes h.sound.trees (sym h.was) (processes_are h.view)

  -- it comes back changed
  module _ (new : List (Option Area)) (after : List Span)
      (stays : AreAreasOf p (area_of old) before → Stays p (area_of old) (area_of new) after) where
    trees_back : AreTrees (area_of new) (slice_set ts p (Some after))
    trees_back = trees_lent (area_of old) (area_of new) ts p before after h.sound.trees h.was stays

    pub has_back : HasTrees (area_of new) (slice_set ts p (Some after)) n
    has_back = record {
      trees = trees_back;
      alive = count_lent (area_of old) (area_of new) ts p before after h.sound.trees h.was stays ∙ h.sound.alive;
      few = simp length-set h.sound.few;
    }

    -- what holds of the areas and pages, by what they were
    pub is_changed : (IsSo : List (Option Area) → Pages → Pages → Type 0) → IsSo old (pages_by (area_of old) before) (pages_by (area_of new) after)
        → IsChanged s.processes (spaces_by (area_of new) (slice_set ts p (Some after))) p (IsSo s.areas (pages_of s.processes p))
    is_changed IsSo so =
        subst (λ (all : List (Option Area)). IsChanged s.processes (spaces_by (area_of new) (slice_set ts p (Some after))) p
        (IsSo all (pages_of s.processes p))) (ap (λ (s : AllSpaces). s.areas) h.view)
        (changes (area_of old) (area_of new) ts p before after h.sound.trees h.was stays s.processes (processes_are h.view) (IsSo old) so)

    pub anons_back : (a a' : Anons) → InOrder s a → StayKin old a new a' → AnonsStay s a (all_spaces new (slice_set ts p (Some after))) a'
    anons_back a a' order kin = anons_stay_by old new ts (slice_set ts p (Some after)) a a' s h.view h.sound.trees trees_back order kin
