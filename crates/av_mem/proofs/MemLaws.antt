-- The memory system: its view and its areas; and one with nothing in it stands for no memories.
use Rattle.std.proofs.Common.{◌≡◌, ℕ, ◌+◌, ◌-◌, ◌≤◌, ◌↔◌, Bool, true, false, cond, ◌&&◌, ◌==◌, nat_lt, nat_le, List, [], ◌∷◌, Option, Some, None, refl, sym, ap, subst, ◌∙◌, arith, is_some}
use Rattle.std.proofs.lemmas.Bool.Decides.{nat_tests}
use Rattle.std.proofs.lemmas.Bool.{false≢true}
use Rattle.std.specs.Prelude.{IfSome, IsSomeAnd, option_map, length, map, slice_index}
use Rattle.std.specs.List.{find, list_any, range_with_len}
use Rattle.av_base.specs.Items.{Item}
use Rattle.av_base.specs.declared.slot.Slot.{Slot}
use Rattle.av_base.specs.declared.prot.Prot.{Prot}
use Rattle.av_base.specs.Words.{is_in, within}
use Rattle.av_vma.specs.declared.area.Area.{Area}
use Rattle.av_vma.specs.Index.{first_of, past_of}
use Rattle.av_vma.specs.Pages.{has_page, pages_in}
use Rattle.av_lru.specs.Lists.{Lists}
use Rattle.av_frames.specs.Store.{Store, Shown, shown, fresh as fresh_frames}
use Rattle.av_pagetable.specs.declared.pte.Pte.{Pte}
use Rattle.av_pagetable.specs.Entries.{ProcessTables, entry_at, has, with_entry}
use Rattle.av_pagetable.proofs.Entries.{none_there}
use Rattle.av_interval.specs.declared.span.Span.{Span}
use Rattle.av_vma.specs.Areas.{area_of}
use Rattle.av_anon.specs.declared.anons.Anons.{Anons as AnonSet}
use Rattle.av_anon.specs.Anons.{Family, family, nobody}
use Rattle.av_anon.specs.Order.{IsInOrder}
use Rattle.av_anon.specs.Spans.{spans_of}
use Rattle.av_anon.proofs.OrderLaws.{order-nobody}
use Rattle.av_spaces.specs.Kin.{InOrder, IsOwnedIn, chain_by, info_of}
use Rattle.av_spaces.specs.Spaces.{AllSpaces, Spaces, areas_of, pages_of, is_taken, AreRising, AllRising}
use Rattle.av_plain.specs.World.{Page, lives}
use Rattle.av_plain.specs.Ledger.{Ledger, Setting, Entry, Zero as ZeroEntry, InFrame, InSlot, first_ledger, frame_at, cached_by, Cached, is_cached, same_slot, slot_count, slot_entries}
use Rattle.av_plain.specs.Device.{Device, headers_of, setting_of}
use Rattle.av_plain.specs.Choice.{Free, ListsAll, ListsFree, no_slots}
use Rattle.av_plain.specs.Report.{AreApart, prot_in, range_of}
use Rattle.av_plain.specs.Stands.{View, Pte as Plain, entry_of, kin_of, prot_of, IsKept, IsKeptAt, IsClean}
use Rattle.av_plain.specs.World.{Holds}
use Rattle.av_plain.specs.Transcript.{State, at_first}
use Rattle.av_plain.proofs.Covered.{merged-first, slots-first, sound-first}
use Rattle.av_rmap.specs.Items.{Shown as ShownItems, none_merged, shown as shown_items}
use Rattle.av_plain.proofs.Ledger.NoSwap.{itself, is_in-numbers}
use Rattle.av_plain.proofs.FreeFrames.{first-lists_free}
use Rattle.av_plain.proofs.Sound.{first-sound}
use Rattle.av_mem.specs.declared.mem.Mem.{Mem}
use Rattle.av_swapcache.specs.Swap.{Store as SwapStore, Shown as ShownSwap, fresh as fresh_swap, header_at, shown as shown_swap}
use Rattle.av_swapdev.specs.Header.{Layout}
use Rattle.av_swapdev.specs.declared.header.Header.{Header}
use Rattle.av_mem.specs.Mem.{AreByHeaders, anon_vma, area_of as swap_area_of, plain, view_of_parts, view, ranges_of, Keeps}

-- ---- the areas, seen as ranges

-- the protection of an area
abbrev pub prot_on : Area → Prot
prot_on area = area.prot

-- a process has ranges exactly where it lives
pub alive_is : (s : Spaces) (p : ℕ) → is_some (ranges_of s p) ≡ is_some (areas_of s p)
alive_is s p = by (areas_of s p)
  where
    by : (o : Option (List Area)) → is_some (option_map (map range_of) o) ≡ is_some o
    by None = refl
    by (Some areas) = refl

-- a process has areas exactly where it lives
pub lives_is : (d : Device) (k : Mem) (s : State) → Keeps d k s → (p : ℕ) → is_some (areas_of k.spaces.processes p) ≡ lives s.world p
lives_is d k s keeps p = keeps.stands.parts.areas.alive p

in_range : (a b page : ℕ) → (nat_le a page && nat_lt page b) ≡ within a (b - a) page
in_range a b page = grind (arith, nat_tests)

prots_in : (areas : List Area) (page : ℕ) → prot_in (map range_of areas) page ≡ option_map prot_on (find (λ area. has_page area page) areas)
prots_in [] page = refl
prots_in (a ∷ areas) page =
    ap (λ b. cond b (Some a.prot) (prot_in (map range_of areas) page)) (in_range (first_of a) (past_of a) page)
    ∙ elim (has_page a page) as (λ b. cond b (Some a.prot) (prot_in (map range_of areas) page) ≡ option_map prot_on
    (cond b (Some a) (find (λ area. has_page area page) areas))) [
      | true ↦ refl
      | false ↦ prots_in areas page
    ]

-- a page's protection is that of the area on it
pub prots_are : (s : Spaces) (p page : ℕ) → prot_of (ranges_of s p) page ≡ option_map prot_on (pages_of s p page)
prots_are s p page = by (areas_of s p)
  where
    by : (o : Option (List Area)) → prot_of (option_map (map range_of) o) page ≡ option_map prot_on (pages_in o page)
    by None = refl
    by (Some areas) = prots_in areas page

some_mapped : {X Y : Type 0} (f : X → Y) (o : Option X) → is_some (option_map f o) ≡ is_some o
some_mapped f None = refl
some_mapped f (Some x) = refl

-- a page is taken exactly where it has a protection
pub taken_has : (s : Spaces) (p page : ℕ) → is_taken s p page ≡ is_some (prot_of (ranges_of s p) page)
taken_has s p page = sym (ap is_some (prots_are s p page) ∙ some_mapped prot_on (pages_of s p page))

-- whether a page has a protection, and whether it is mapped
pub mapped_is : (o : Option Page) → is_some (option_map (λ (p : Page). p.prot) o) ≡ is_some o
mapped_is o = some_mapped (λ (p : Page). p.prot) o

pub apart_of : (p : ℕ) (areas : List Area) → AreRising p areas → AreApart (map range_of areas)
apart_of p [] h = tt
apart_of p (a ∷ []) h = h.whole.some
apart_of p (a ∷ b ∷ areas) h = (h.0.whole.some, h.1, apart_of p (b ∷ areas) h.2)

-- the ranges of each process are apart
pub all_apart : (s : Spaces) → AllRising s → (p : ℕ) → IfSome (ranges_of s p) AreApart
all_apart s rising p = by (areas_of s p) (rising p)
  where
    by : (o : Option (List Area)) → IfSome o (AreRising p) → IfSome (option_map (map range_of) o) AreApart
    by None h = tt
    by (Some areas) h = apart_of p areas h

-- ---- the view

-- tables with the same entries are seen alike
pub view_same : (old new : Mem) → entry_at new.tables ≡ entry_at old.tables → new.frames ≡ old.frames → new.lists ≡ old.lists → new.items ≡ old.items
    → new.spaces ≡ old.spaces → new.anons ≡ old.anons → new.swap ≡ old.swap → view new ≡ view old
view_same old new tables frames lists items spaces anons swap =
    λ i. view_of_parts (shown (frames i)) (lists i) (shown_items (items i)) (λ p page. plain (tables i p page)) (spaces i) (anons i) (shown_swap (swap i))

pub plain_set : (old new : ℕ → ℕ → Pte) (p page : ℕ) (e : Pte) → new ≡ with_entry p page e old
    → ◌≡◌ {A = ℕ → ℕ → Option Plain} (λ q o. plain (new q o)) (with_entry p page (plain e) (λ q o. plain (old q o)))
plain_set old new p page e is = λ k q o. (ap (λ f. plain (f q o)) is ∙ pushed (q == p && o == page) e (old q o)) k
  where
    pushed : (b : Bool) (e x : Pte) → plain (cond b e x) ≡ cond b (plain e) (plain x)
    pushed true e x = refl
    pushed false e x = refl

-- an entry has been set
pub entry_put_in : (old new : Mem) (p page : ℕ) (e : Pte) → entry_at new.tables ≡ with_entry p page e (entry_at old.tables)
    → new.frames ≡ old.frames →
    new.lists ≡ old.lists → new.items ≡ old.items → new.spaces ≡ old.spaces → new.anons ≡ old.anons → new.swap ≡ old.swap
    → view new ≡ record (view old) { table = with_entry p page (plain e) (view old).table }
entry_put_in old new p page e is frames lists items spaces anons swap = λ i. view_of_parts (shown (frames i)) (lists i) (shown_items (items i))
    (plain_set (entry_at old.tables) (entry_at new.tables) p page e is i) (spaces i) (anons i) (shown_swap (swap i))

-- ---- no slot is cached

pub equal_is : (a b : ℕ) → (a == b) ≡ true → a ≡ b
equal_is a b h = grind (arith, nat_tests)

clash : {A : Type 0} {x : A} → None ≡ Some x → ⊥
clash e = cc

-- where no slot is found, none is cached
pub no_cache : (l : Ledger) → ((s : Slot) → None ≡ frame_at l s) → l.cache ≡ []
no_cache l none = by l.cache refl
  where
    by : (c : List Cached) → l.cache ≡ c → l.cache ≡ []
    by [] e = e
    by (c ∷ cs) e =
        let same : same_slot c.slot c.slot ≡ true = λ i. itself c.slot.area i && itself c.slot.page i in
        absurd (clash (none c.slot ∙ ap (λ (c' : List Cached). option_map (λ (c : Cached). c.frame) (cached_by (λ d. same_slot c.slot d.slot) c')) e
        ∙ ap (λ b. option_map (λ (c : Cached). c.frame) (cond b (Some c) (cached_by (λ d. same_slot c.slot d.slot) cs))) same))

pub no_frame_at : (l : Ledger) (s : Slot) → l.cache ≡ [] → frame_at l s ≡ None
no_frame_at l s none = ap (λ (c : List Cached). option_map (λ (c : Cached). c.frame) (cached_by (λ c. same_slot s c.slot) c)) none

-- where none is cached and no entry names one, none is in use
pub none_used : (l : Ledger) (s : Slot) → l.cache ≡ [] → slot_entries l s ≡ 0 → slot_count l s ≡ 0
none_used l s none unnamed =
    let cached : is_cached l s ≡ false = ap (list_any (λ (c : Cached). same_slot s c.slot)) none in
    ap (λ b. slot_entries l s + cond b 1 0) cached ∙ (let n : slot_entries l s + 0 ≡ 0 = omega (arith, unnamed) in n)

-- where no frame caches a slot, its page is kept as it was
pub slot_kept : (d : Device) (v v' : View) (s : Slot) (p : Option Page) (o o' : Option ℕ) → o ≡ None → o' ≡ None → IsKeptAt v d s p o
    → IsKeptAt v' d s p o'
slot_kept d v v' s p None None e e' h = h
slot_kept d v v' s p None (Some f) e e' h = absurd (clash (sym e'))
slot_kept d v v' s p (Some f) o' e e' h = absurd (clash (sym e))

-- and it has nothing to be clean
pub nothing_clean : (d : Device) (v : View) (s : Slot) (o : Option ℕ) → o ≡ None → IsClean v d s o
nothing_clean d v s None e = tt
nothing_clean d v s (Some f) e = absurd (clash (sym e))

-- a place that isn't mapped keeps nothing, whatever its entry is
pub kept-nothing : (d : Device) (v : View) (l : Ledger) (e : Option Entry) → IsKept v d l e None
kept-nothing d v l None = tt
kept-nothing d v l (Some ZeroEntry) = tt
kept-nothing d v l (Some (InFrame f seen)) = tt
kept-nothing d v l (Some (InSlot s)) = at (frame_at l s)
  where
    told : (o : Option (ℕ → ℕ → List ℕ)) → IfSome o (λ told. Holds None (slice_index (told s.area s.page)))
    told None = tt
    told (Some pages) = tt

    at : (o : Option ℕ) → IsKeptAt v d s None o
    at None = told d.pages
    at (Some f) = tt

-- ---- nothing in it

-- what is free, where no area has slots
abbrev frames_free : List ℕ → Free
frames_free frames = record { frames = frames; slots = no_slots }

pub fresh-keeps : (d : Device) (frames : Store) (lists : Lists) (items : List (List Item)) (tables : ProcessTables) (spaces : AllSpaces) (anons : AnonSet)
    (swap : SwapStore) (n : ℕ)
    → shown frames ≡ fresh_frames n → lists ≡ record { frames = n; active = []; inactive = [] } → shown_items items ≡ none_merged n
    → ((p : ℕ) → has tables p ≡ false) → spaces.processes ≡ []
    → ((number : ℕ) → area_of spaces.areas number ≡ None) → family anons ≡ nobody → ((v : ℕ) → spans_of anons v ≡ []) → shown_swap swap ≡ fresh_swap n
    → Keeps d (record { frames = frames; lists = lists; items = items; tables = tables; spaces = spaces; anons = anons; swap = swap }) (at_first (setting_of n d))
fresh-keeps d frames lists items tables spaces anons swap n is unlisted unmerged none empty unused nobodies unspanned blank = record {
  stands = record {
    over = record { sizes = refl; headers = refl };
    sound = first-sound m;
    parts = record {
      ledger = record {
        frames = record {
          frames = refl;
          maps = λ f. ap (λ (s : Shown). s.maps f) is;
          slots = λ f. ap (λ (s : Shown). s.slot f) is;
          dirty = λ f. tt;
          free = λ f below. ap (λ (s : Shown). is_in f s.free) is ∙ is_in-numbers 0 n f (omega arith) (let same = ap (λ (s : Shown). s.count) is in
              omega (arith, below, same));
        };
        lists = record { active = ap (λ (ls : Lists). ls.active) unlisted; inactive = ap (λ (ls : Lists). ls.inactive) unlisted };
        tables = record {
          entries = λ p page. ap (λ t. entry_of (plain t)) (none_there tables p page (none p));
          write_bits = λ p page t f there write names. absurd (clash (ap plain (sym (none_there tables p page (none p))) ∙ there));
        };
        swap = record {
          finds = λ s. ap (λ (h : ShownSwap). h.find s) blank;
          counts = λ s. ap (λ (h : ShownSwap). h.entries s) blank;
          flight = ap (λ (h : ShownSwap). h.flight) blank;
          on = ap (λ (h : ShownSwap). map (swap_area_of h.priority) h.on) blank;
        };
      };
      areas = record {
        alive = λ p. ap (λ (s : Spaces). is_some (areas_of s p)) empty;
        number = ap (length) empty;
        apart = λ p. subst (λ (s : Spaces). IfSome (ranges_of s p) AreApart) (sym empty) tt;
        covers = λ p page. ap (λ (s : Spaces). prot_of (ranges_of s p) page) empty;
        flags = λ p page. ap (λ (s : Spaces). option_map (λ (area : Area). area.flags) (pages_of s p page)) empty;
      };
      bytes = record { kept = λ p page. tt; clean = λ s a b. tt };
      headers = λ k. tt;
    };
    free = (λ i. record { frames = (is i).free; slots = (blank i).slots });
    lists = none_listed;
    areas = λ p page. ap (λ (s : Spaces). pages_of s p page) empty;
    anons = record {
      next = ap (λ (f : Family). f.next) nobodies;
      kin = λ v. ap (λ (f : Family). option_map kin_of (option_map (anon_vma (chain_by spaces anons (Some v))) (f.info v))) nobodies;
      chains = λ p page. tt;
    };
    homes = λ f. ap (λ (s : Shown). s.home f) is;
    items = λ f. ap (λ (x : ShownItems). x.items f) unmerged;
    reach = sound-first m;
    slots = slots-first m;
    merged = merged-first m;
  };
  locks = λ f. ap (λ (s : Shown). s.locks f) is;
  lists = ap (λ (ls : Lists). ls.frames) unlisted ∙ sym (ap (λ (s : Shown). s.count) is);
  items = ap (λ (x : ShownItems). x.frames) unmerged ∙ sym (ap (λ (s : Shown). s.count) is);
  tables = λ p. none p ∙ sym (ap (λ (s : Spaces). is_some (ranges_of s p)) empty);
  anons = record {
    order = in_order;
    there = λ v there. absurd (none_there_yet v there);
    linked = λ v h. absurd (subst (λ o. IsSomeAnd o (λ area. is_in v (chain_by spaces anons area.anon) ≡ true)) (none_on_page h.0 h.1) h.2);
    own = λ v h. absurd (subst (λ o. IsSomeAnd o (λ area. area.anon ≡ Some v)) (none_on_page h.0 h.1) h.2);
    active = λ v. subst (λ o. IfSome o (λ i. (1 ≤ i.active) ↔ IsOwnedIn spaces v)) (sym (ap (λ (f : Family). f.info v) nobodies)) tt;
  };
  swap = record {
    frames = ap (λ (h : ShownSwap). h.frames) blank ∙ sym (ap (λ (s : Shown). s.count) is);
    closed = ap (λ (h : ShownSwap). h.closing) blank;
    on_device = λ a. subst (λ (h : ShownSwap). IfSome (header_at h a) (λ (x : Header). IsSomeAnd (d.sizes a) (λ n. x.pages ≤ n))) (sym blank) tt;
    by_headers = subst (AreByHeaders (headers_of d)) (sym blank) (unmade (headers_of d));
  };
}
  where
    m : Setting
    m = setting_of (shown frames).count d

    unmade : (o : Option (ℕ → Option Layout)) → AreByHeaders o (fresh_swap n)
    unmade None = tt
    unmade (Some told) = λ a. tt

    in_order : InOrder spaces anons
    in_order = subst (λ (areas : ℕ → Option Area). IsInOrder areas (family anons) (spans_of anons)) (λ i number. sym (unused number) i)
        (subst (λ f. IsInOrder (λ _. None) f (spans_of anons)) (sym nobodies)
        (subst (λ (s : ℕ → List Span). IsInOrder (λ _. None) nobody s) (λ i v. sym (unspanned v) i) order-nobody))

    none_there_yet : (v : ℕ) → is_some (info_of anons v) ≡ true → ⊥
    none_there_yet v there = false≢true (sym (ap (λ (f : Family). is_some (f.info v)) nobodies) ∙ there)

    none_on_page : (p page : ℕ) → pages_of spaces.processes p page ≡ None
    none_on_page p page = ap (λ (s : Spaces). pages_of s p page) empty

    none_listed : ListsAll m first_ledger (frames_free (range_with_len 0 n))
    none_listed = record {
      frames = subst (λ j. ListsFree m first_ledger (range_with_len 0 j)) (ap (λ (s : Shown). s.count) is) (first-lists_free m);
      slots = record { taken = λ s. refl; free = λ s is. cc; number = λ a. refl; off = λ a is. refl };
    }
