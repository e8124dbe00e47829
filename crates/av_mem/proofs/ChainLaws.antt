-- The view after a step through the chains.
use Rattle.std.proofs.Common.{◌≡◌, ℕ, ◌+◌, Bool, true, false, cond, not, ◌&&◌, ◌==◌, [], ◌∷◌, Option, Some, None, refl, sym, ap, subst, ◌∙◌, arith}
use Rattle.std.proofs.lemmas.Bool.{false≢true}
use Rattle.std.proofs.lemmas.Bool.Decides.{nat_tests}
use Rattle.std.specs.Prelude.{option_map}
use Rattle.av_base.specs.Items.{is_item}
use Rattle.av_base.specs.declared.slot.Slot.{Slot}
use Rattle.av_frames.specs.Store.{shown as shown_frames, with_maps}
use Rattle.av_pagetable.specs.declared.pte.Pte.{Pte}
use Rattle.av_pagetable.specs.declared.pte.Pte.TheVariants.{Empty, Zero, Here, Away}
use Rattle.av_pagetable.specs.Entries.{entry_at}
use Rattle.av_plain.specs.Ledger.{InFrame, InSlot}
use Rattle.av_plain.specs.Stands.{Pte as Plain, View}
use Rattle.av_rmap.specs.Covered.{IsCoveredFrom, IsReached}
use Rattle.av_rmap.specs.Items.{AreCovered, is_merged, shown as shown_items}
use Rattle.av_rmap.specs.Walk.{names_frame, names_seen}
use Rattle.av_rmap.specs.Seen.{unseen}
use Rattle.av_rmap.specs.Unmap.{away}
use Rattle.av_rmap.proofs.SeenLemmas.{unseen-itself, unseen-other, unseen-then}
use Rattle.av_rmap.proofs.UnmapLemmas.{away-other}
use Rattle.av_swap_laws.specs.Steps.{pte_unmapped, pte_unseen, view_unmap, view_unseen}
use Rattle.av_swapcache.specs.Swap.{shown as shown_swap, with_entries}
use Rattle.av_mem.specs.Chains.{AreFound, AreReached, places_at_home, reach}
use Rattle.av_mem.specs.Mem.{plain, view, view_of_parts}
use Rattle.av_mem.specs.declared.mem.Mem.{Mem}
use Rattle.av_mem.proofs.StepLaws.{table_of}

-- ---- entries

pub plain-away : (f : ℕ) (s : Slot) (e : Pte) → plain (away f s e) ≡ option_map (pte_unmapped f s) (plain e)
plain-away f s Empty = refl
plain-away f s Zero = refl
plain-away f s (Here g write seen) = by (f == g)
  where
    by : (b : Bool) → plain (cond b (Away s) (Here g write seen))
        ≡ Some (cond b (record { entry = InSlot s; write = false }) (record { entry = InFrame g seen; write = write }))
    by true = refl
    by false = refl
plain-away f s (Away t) = refl

pub plain-unseen : (f : ℕ) (e : Pte) → plain (unseen f e) ≡ option_map (pte_unseen f) (plain e)
plain-unseen f Empty = refl
plain-unseen f Zero = refl
plain-unseen f (Here g write seen) = by (f == g) seen
  where
    by : (b seen : Bool) → ◌≡◌ {A = Option Plain} (Some (record { entry = InFrame g (seen && not b); write = write }))
        (Some (cond b (record { entry = InFrame g false; write = write }) (record { entry = InFrame g seen; write = write })))
    by true true = refl
    by true false = refl
    by false true = refl
    by false false = refl
plain-unseen f (Away t) = refl

-- ---- a frame that isn't merged

-- where its entries are found, they are reached from its home
pub home-reached : (k : Mem) (f : ℕ) → is_merged ((view k).items f) ≡ false → AreFound k f → AreReached k f
home-reached k f unmerged found numbered = by ((view k).homes f)
    (subst (λ b. AreCovered (reach k) (names_frame f) (cond b ((view k).items f) (places_at_home ((view k).homes f)))) unmerged (found numbered))
  where
    by : (o : Option (ℕ × ℕ)) → AreCovered (reach k) (names_frame f) (places_at_home o) → IsCoveredFrom (reach k) (names_frame f) o
    by None covered = λ p page. none p page (names_frame f (entry_at k.tables p page)) refl
      where
        none : (p page : ℕ) (b : Bool) → names_frame f (entry_at k.tables p page) ≡ b → b ≡ false
        none p page true e = absurd (false≢true (covered p page e).1)
        none p page false e = refl
    by (Some home) covered = λ p page named.
        let x = covered p page named in
        subst (λ (h : ℕ × ℕ). IsReached (reach k) h p page) (it x.0 x.1) x.2
      where
        it : (x : ℕ × ℕ) → is_item x (home ∷ []) ≡ true → x ≡ home
        it x e = λ n. (first n, second n)
          where
            first : x.0 ≡ home.0
            first = grind (arith, nat_tests, e)

            second : x.1 ≡ home.1
            second = grind (arith, nat_tests, e)

-- ---- a frame without a home

-- no entry names it
pub unseen-none : (k : Mem) (f : ℕ) → (o : Option (ℕ × ℕ)) → o ≡ None → IsCoveredFrom (reach k) (names_frame f) o
    → entry_at k.tables ≡ (λ p page. unseen f (entry_at k.tables p page))
unseen-none k f (Some h) is reached = cc
unseen-none k f None is reached = λ i p page. sym (unseen-other f (entry_at k.tables p page) (reached p page)) i

pub away-none : (k : Mem) (f : ℕ) (s : Slot) → (o : Option (ℕ × ℕ)) → o ≡ None → IsCoveredFrom (reach k) (names_frame f) o
    → entry_at k.tables ≡ (λ p page. away f s (entry_at k.tables p page))
away-none k f s (Some h) is reached = cc
away-none k f s None is reached = λ i p page. sym (away-other f s (entry_at k.tables p page) (reached p page)) i

-- ---- the view

-- with other tables
abbrev with_table : Mem → (ℕ → ℕ → Option Plain) → View
with_table k table = view_of_parts (shown_frames k.frames) k.lists (shown_items k.items) table k.spaces k.anons (shown_swap k.swap)

pub unseen-view : (old new : Mem) (f : ℕ) → new ≡ record old { tables = new.tables }
    → entry_at new.tables ≡ (λ p page. unseen f (entry_at old.tables p page)) → view new ≡ view_unseen f (view old)
unseen-view old new f rest are = ap (λ (k : Mem). view k) rest ∙ ap (with_table old) tables
  where
    tables : table_of new ≡ (λ p page. option_map (pte_unseen f) (table_of old p page))
    tables = λ i p page. (ap (λ (e : ℕ → ℕ → Pte). plain (e p page)) are ∙ plain-unseen f (entry_at old.tables p page)) i

-- no entry is seen then
pub none-seen : (old new : Mem) (f : ℕ) → entry_at new.tables ≡ (λ p page. unseen f (entry_at old.tables p page))
    → (p page : ℕ) → names_seen f (entry_at new.tables p page) ≡ false
none-seen old new f are p page =
    ap (λ (e : ℕ → ℕ → Pte). names_seen f (e p page)) are ∙ unseen-then f (entry_at old.tables p page)

-- where no entry is seen
pub unseen-still : (k : Mem) (f : ℕ) → ((p page : ℕ) → names_seen f (entry_at k.tables p page) ≡ false) → view_unseen f (view k) ≡ view k
unseen-still k f none = ap (with_table k) tables
  where
    tables : (λ p page. option_map (pte_unseen f) (table_of k p page)) ≡ table_of k
    tables = λ i p page. (sym (plain-unseen f (entry_at k.tables p page)) ∙ ap plain (unseen-itself f (entry_at k.tables p page) (none p page))) i

-- the entries are counted at the slot, go, and are counted no more at the frame
pub away-view : (old between mid new : Mem) (f : ℕ) (s : Slot) → between ≡ record old { swap = between.swap }
    → shown_swap between.swap ≡ with_entries s ((shown_swap old.swap).entries s + (shown_frames old.frames).maps f) (shown_swap old.swap)
    → mid ≡ record between { tables = mid.tables } → entry_at mid.tables ≡ (λ p page. away f s (entry_at between.tables p page))
    → new ≡ record mid { frames = new.frames } → shown_frames new.frames ≡ with_maps f 0 (shown_frames mid.frames)
    → view new ≡ view_unmap f s (view old)
away-view old between mid new f s up count rest are clear none = ap (λ (k : Mem). view k) clear ∙ (λ i.
    view_of_parts (frames i) (rest' i).lists (shown_items (rest' i).items) (tables i) (rest' i).spaces (rest' i).anons (swap i))
  where
    rest' : mid ≡ record old { swap = between.swap; tables = mid.tables }
    rest' = rest ∙ ap (λ (k : Mem). record k { tables = mid.tables }) up

    frames : shown_frames new.frames ≡ with_maps f 0 (shown_frames old.frames)
    frames = none ∙ ap (λ (k : Mem). with_maps f 0 (shown_frames k.frames)) rest'

    swap : shown_swap mid.swap ≡ with_entries s ((shown_swap old.swap).entries s + (shown_frames old.frames).maps f) (shown_swap old.swap)
    swap = ap (λ (k : Mem). shown_swap k.swap) rest ∙ count

    tables : table_of mid ≡ (λ p page. option_map (pte_unmapped f s) (table_of old p page))
    tables = λ i p page. (ap (λ (e : ℕ → ℕ → Pte). plain (e p page)) are ∙ plain-away f s (entry_at between.tables p page)
        ∙ ap (λ (k : Mem). option_map (pte_unmapped f s) (table_of k p page)) up) i
