-- The view after a step of a merge.
use Rattle.std.proofs.Common.{◌≡◌, ℕ, ◌+◌, ◌-◌, ◌<◌, Bool, true, false, cond, ◌&&◌, ◌==◌, List, Option, Some, None, is_none, refl, sym, ap, subst, ◌∙◌, ◌^◌, arith}
use Rattle.std.proofs.lemmas.Bool.Decides.{nat_tests}
use Rattle.std.specs.Option.{option_map_or}
use Rattle.av_anon.specs.declared.infos.Info.{Info}
use Rattle.av_base.specs.Items.{Item, with_item}
use Rattle.av_base.specs.Words.{with_at}
use Rattle.av_frames.specs.Store.{Shown, Store, shown, with_home, with_maps}
use Rattle.av_pagetable.specs.Entries.{ProcessTables, entry_at, has, with_entry}
use Rattle.av_pagetable.specs.declared.pte.Pte.TheVariants.{Here}
use Rattle.av_rmap.specs.Items.{shown as shown_items, with_items}
use Rattle.av_spaces.specs.Kin.{info_of}
use Rattle.av_swapcache.specs.Swap.{shown as shown_swap}
use Rattle.av_plain.specs.Ledger.{InFrame}
use Rattle.av_plain.specs.Stands.{View}
use Rattle.av_plain.proofs.Sound.Counts.{same-is}
use Rattle.av_swap_laws.specs.Steps.{view_freed, with_pte}
use Rattle.av_mem.specs.declared.mem.Mem.{Mem}
use Rattle.av_mem.specs.Cache.{root_in}
use Rattle.av_mem.specs.Entries.{view_settled}
use Rattle.av_mem.specs.Mem.{view, view_of_parts}
use Rattle.av_mem.specs.Steps.{KeepsParts}
use Rattle.av_mem.proofs.MemLaws.{plain_set}
use Rattle.av_ksm.specs.Join.{view_joined, view_joining, view_shared, view_with_item}

-- ---- an item more

pub root-by : (k : Mem) (own : ℕ) (info : Info) → info_of k.anons own ≡ Some info → root_in k own ≡ info.root
root-by k own info is = ap (λ o. option_map_or (λ (i : Info). i.root) o own) is

pub item-added : (old new : Mem) (f : ℕ) (item : Item) → new ≡ record old { items = new.items }
    → shown_items new.items ≡ with_items f (with_item item ((shown_items old.items).items f)) (shown_items old.items)
    → view new ≡ view_with_item f (Some item) (view old)
item-added old new f item rest is = ap view rest
    ∙ (λ i. view_of_parts (shown old.frames) old.lists (is i) (view old).table old.spaces old.anons (shown_swap old.swap))

-- ---- a frame is merged

pub share-view : (old mid new : Mem) (frames : Store) (p page f : ℕ) (seen : Bool) (item : Option Item) → view mid ≡ view_with_item f item (view old)
    → new ≡ record mid { frames = frames; tables = new.tables } → shown frames ≡ with_home f None (shown mid.frames)
    → entry_at new.tables ≡ with_entry p page (Here f false seen) (entry_at mid.tables)
    → view new ≡ view_shared p page f seen item (view old)
share-view old mid new frames p page f seen item added rest homes tables = ap view rest
    ∙ (λ i. view_of_parts (homes i) mid.lists (shown_items mid.items)
    (plain_set (entry_at mid.tables) (entry_at new.tables) p page (Here f false seen) tables i) mid.spaces mid.anons (shown_swap mid.swap))
    ∙ ap (λ (v : View). record v {
      homes = with_at f None v.homes;
      table = with_pte p page (Some (record { entry = InFrame f seen; write = false })) v.table;
    }) added

-- ---- a page joins it

-- before its own frame is settled
pub joining-view : (old mid new : Mem) (p page f g : ℕ) (item : Option Item) → (f == g) ≡ false → view mid ≡ view_with_item f item (view old)
    → new ≡ record mid { frames = new.frames; tables = new.tables }
    → (down : Shown) → down ≡ with_maps g ((shown mid.frames).maps g - 1) (shown mid.frames)
    → shown new.frames ≡ with_maps f (down.maps f + 1) down
    → entry_at new.tables ≡ with_entry p page (Here f false false) (entry_at mid.tables)
    → view new ≡ view_joining p page f g item (view old)
joining-view old mid new p page f g item apart added rest down fewer more tables = ap view rest
    ∙ (λ i. view_of_parts (frames i) mid.lists (shown_items mid.items)
    (plain_set (entry_at mid.tables) (entry_at new.tables) p page (Here f false false) tables i) mid.spaces mid.anons (shown_swap mid.swap))
    ∙ ap (λ (v : View). record v {
      maps = with_at f (v.maps f + 1) (with_at g (v.maps g - 1) v.maps);
      table = with_pte p page (Some (record { entry = InFrame f false; write = false })) v.table;
    }) added
  where
    frames : shown new.frames ≡ with_maps f ((shown mid.frames).maps f + 1) (with_maps g ((shown mid.frames).maps g - 1) (shown mid.frames))
    frames = more ∙ ap (λ (s : Shown). with_maps f (s.maps f + 1) s) fewer
        ∙ ap (λ b. with_maps f (cond b ((shown mid.frames).maps g - 1) ((shown mid.frames).maps f) + 1)
        (with_maps g ((shown mid.frames).maps g - 1) (shown mid.frames))) apart

-- the merged frame may have as many entries as before
pub room-still : (old mid : Mem) (frames : Store) (f g : ℕ) → mid ≡ record old { items = mid.items }
    → shown frames ≡ with_maps g ((shown mid.frames).maps g - 1) (shown mid.frames) → (f == g) ≡ false
    → (shown old.frames).maps f < 2 ^ 64 - 1 → (shown frames).maps f < 2 ^ 64 - 1
room-still old mid frames f g rest down apart room = subst (λ n. n < 2 ^ 64 - 1)
    (sym (ap (λ (s : Shown). s.maps f) down ∙ ap (λ b. cond b ((shown mid.frames).maps g - 1) ((shown mid.frames).maps f)) apart
    ∙ ap (λ (k : Mem). (shown k.frames).maps f) rest)) room

-- two frames that aren't one
pub other-frame : (f g : ℕ) → (g ≡ f → ⊥) → ((f == g) ≡ false) × ((g == f) ≡ false)
other-frame f g other = (by (f == g) refl (λ e. other (sym (same-is f g e))), by (g == f) refl (λ e. other (same-is g f e)))
  where
    by : (b : Bool) {c : Bool} → c ≡ b → (c ≡ true → ⊥) → c ≡ false
    by true e none = absurd (none e)
    by false e none = e

abbrev freed_by : ℕ → View → Bool → View
freed_by g v last = cond last (view_freed g v) v

-- it is free then where that was its last entry
pub joined-settles : (v : View) (p page f g : ℕ) (item : Option Item) → (g == f) ≡ false → 0 < v.maps g → v.slot g ≡ None
    → view_settled g (view_joining p page f g item v) ≡ view_joined p page f g item v
joined-settles v p page f g item apart some uncached =
    ap (λ n. freed_by g (view_joining p page f g item v) (n == 0 && is_none (v.slot g))) now
    ∙ ap (λ o. freed_by g (view_joining p page f g item v) (v.maps g - 1 == 0 && is_none o)) uncached
    ∙ ap (freed_by g (view_joining p page f g item v)) (last (v.maps g) some)
  where
    itself : (g : ℕ) → (g == g) ≡ true
    itself g = grind (arith, nat_tests)

    now : with_at f (v.maps f + 1) (with_at g (v.maps g - 1) v.maps) g ≡ v.maps g - 1
    now = ap (λ b. cond b (v.maps f + 1) (with_at g (v.maps g - 1) v.maps g)) apart ∙ ap (λ b. cond b (v.maps g - 1) (v.maps g)) (itself g)

    last : (n : ℕ) → 0 < n → (n - 1 == 0 && true) ≡ (n == 1)
    last n h = grind (arith, nat_tests, h)

-- ---- what a step keeps

pub with-items : (k : Mem) (items : List (List Item)) → (shown_items items).frames ≡ (shown_items k.items).frames → KeepsParts k (record k { items = items })
with-items k items same = record {
  stay = refl;
  processes = refl;
  count = refl;
  lists = refl;
  items = same;
  swap = record { frames = refl; on = refl; bad = refl; closing = refl; priority = refl };
  locks = refl;
}
