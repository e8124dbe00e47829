-- The view after a slot is loaded, and after an entry names its frame.
use Rattle.std.proofs.Common.{◌≡◌, ℕ, ◌+◌, ◌-◌, Bool, true, false, cond, ◌||◌, ◌==◌, nat_lt, List, ◌∷◌, Option, Some, None, is_some, refl, ap, ◌∙◌, arith}
use Rattle.std.specs.Prelude.{slice_index}
use Rattle.std.proofs.lemmas.Bool.Decides.{nat_tests}
use Rattle.av_anon.proofs.Words.{with_at-same}
use Rattle.av_base.specs.Words.{is_in, with_at, without}
use Rattle.av_base.specs.declared.slot.Slot.{Slot}
use Rattle.av_clusters.specs.Clusters.{give_slot}
use Rattle.av_frames.specs.Store.{Shown as ShownFrames, Store, shown as shown_frames, with_bytes, with_dirty, with_home, with_maps, with_slot as with_frame_slot}
use Rattle.av_lru.specs.Lists.{without_frame}
use Rattle.av_pagetable.specs.declared.pte.Pte.TheVariants.{Here}
use Rattle.av_pagetable.specs.Entries.{entry_at, with_entry}
use Rattle.av_plain.proofs.Sound.Counts.{same-itself}
use Rattle.av_swap_laws.specs.Steps.{view_map}
use Rattle.av_swapcache.specs.Calls.{IsLoaded}
use Rattle.av_rmap.specs.Items.{shown as shown_items}
use Rattle.av_swapcache.specs.Swap.{Shown as ShownSwap, count_of, given_back, same_slot, shown as shown_swap, with_entries, with_find}
use Rattle.av_mem.specs.Cache.{HasLoaded}
use Rattle.av_mem.specs.Mem.{view, view_of_parts}
use Rattle.av_mem.specs.declared.mem.Mem.{Mem}
use Rattle.av_mem.proofs.MemLaws.{plain_set}
use Rattle.av_mem.proofs.StepLaws.{SameRest, view-by}

-- ---- a slot that is loaded

-- the first of the free frames is one of them
pub first-free : (f : ℕ) (free left : List ℕ) → free ≡ f ∷ left → is_in f free ≡ true
first-free f free left is = ap (is_in f) is ∙ by (f == f) (same-itself f)
  where
    by : (b : Bool) → b ≡ true → (b || is_in f left) ≡ true
    by true e = refl
    by false e = cc

-- with the bytes of a page, cached, and at home
abbrev loaded_frames : ℕ → Slot → List ℕ → List ℕ → Option (ℕ × ℕ) → ShownFrames → ShownFrames
loaded_frames f s left page home F =
    with_home f home (with_dirty f false (with_frame_slot f (Some s) (with_bytes f (slice_index page) (record F { free = left }))))

pub loaded-view : (old new : Mem) (taken loaded : Store) (f : ℕ) (s : Slot) (home : Option (ℕ × ℕ)) (pages : Option (ℕ → ℕ → List ℕ))
    → SameRest old new
    → old.frames.free ≡ f ∷ taken.free → is_in f taken.free ≡ false → shown_frames taken ≡ record (shown_frames old.frames) { free = taken.free }
    → IsLoaded pages s f (shown_swap old.swap) (shown_swap new.swap) (shown_frames taken) (shown_frames loaded)
    → shown_frames new.frames ≡ with_home f home (shown_frames loaded)
    → new.lists ≡ record (without_frame f old.lists) { inactive = f ∷ (without_frame f old.lists).inactive }
    → HasLoaded old new pages f s home
loaded-view old new taken loaded f s home pages same first once take load homed lists = record {
  page = load.page;
  long = load.long;
  holds = load.holds;
  left = taken.free;
  first = first;
  once = once;
  loads = view-by old new (loaded_frames f s taken.free load.page home (shown_frames old.frames))
      (record { frames = old.lists.frames; active = without f old.lists.active; inactive = f ∷ without f old.lists.inactive })
      (with_find s (Some f) (shown_swap old.swap)) same
      (homed ∙ ap (with_home f home) (load.frame
      ∙ ap (λ (F : ShownFrames). with_dirty f false (with_frame_slot f (Some s) (with_bytes f (slice_index load.page) F))) take))
      lists
      load.swap;
}

-- ---- an entry that names the frame

-- a slot that is cached is not given back
cached-stays : (s : Slot) (f n : ℕ) (h : ShownSwap) → h.find s ≡ Some f → (given_back s (with_entries s n h)) ≡ with_entries s n h
cached-stays s f n h cached = ap (λ slots. record (with_entries s n h) { slots = slots })
    (by (nat_lt 0 (count_of (with_entries s n h) s)) (counts (h.find s) cached (cond (same_slot s s) n (h.entries s))))
  where
    counts : (o : Option ℕ) → o ≡ Some f → (k : ℕ) → nat_lt 0 (k + cond (is_some o) 1 0) ≡ true
    counts None e k = cc
    counts (Some g) e k = grind (arith, nat_tests)

    by : (b : Bool) → b ≡ true → with_at s.area (cond b (h.slots s.area) (give_slot (h.slots s.area) s.page)) h.slots ≡ h.slots
    by true e = λ i k. with_at-same s.area (h.slots s.area) h.slots refl k i
    by false e = cc

pub mapped-view : (old new : Mem) (p page f : ℕ) (s : Slot) → new.lists ≡ old.lists → new.items ≡ old.items → new.spaces ≡ old.spaces → new.anons ≡ old.anons
    → (shown_swap old.swap).find s ≡ Some f
    → entry_at new.tables ≡ with_entry p page (Here f false false) (entry_at old.tables)
    → shown_frames new.frames ≡ with_maps f ((shown_frames old.frames).maps f + 1) (shown_frames old.frames)
    → shown_swap new.swap ≡ given_back s (with_entries s ((shown_swap old.swap).entries s - 1) (shown_swap old.swap))
    → view new ≡ view_map p page f s (view old)
mapped-view old new p page f s lists items spaces anons cached tables frames swap = λ i. view_of_parts (frames i) (lists i) (shown_items (items i))
    (plain_set (entry_at old.tables) (entry_at new.tables) p page (Here f false false) tables i) (spaces i) (anons i)
    ((swap ∙ cached-stays s f ((shown_swap old.swap).entries s - 1) (shown_swap old.swap) cached) i)
