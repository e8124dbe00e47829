-- A free frame takes the page of a slot.
use Rattle.std.proofs.Common.{◌≡◌, ℕ, ◌<◌, Bool, true, false, cond, ◌&&◌, ◌||◌, if◌then◌else◌, List, [], ◌∷◌, Option, Some, None, is_none, is_some, option_map, refl, sym, ap, subst, ◌∙◌, arith, ◌==◌}
use Rattle.std.proofs.lemmas.Bool.Decides.{nat_tests}
use Rattle.std.proofs.lemmas.Bool.{false≢true}
use Rattle.std.specs.Prelude.{IfSome, option_and_then, slice_index}
use Rattle.std.specs.Ordering.{nat_cmp, eq_by_cmp}
use Rattle.std.specs.FinMap.Entries.{find}
use Rattle.av_base.specs.Keys.{Key}
use Rattle.av_base.specs.Page.{page_size}
use Rattle.av_base.specs.Words.{is_in, without}
use Rattle.av_base.specs.declared.slot.Slot.{Slot}
use Rattle.av_trace.specs.declared.note.Note.TheVariants.{Loaded}
use Rattle.av_plain.specs.Device.{Device, headers_of}
use Rattle.av_plain.specs.Event.{Noted, after_note, into_cache}
use Rattle.av_plain.specs.Ledger.{Entry, InFrame, InSlot, Ledger, Setting, Zero, entry, frame_at, in_flight, is_free, is_stale, map_count, names_frame, same_slot, slot_entries, slot_of}
use Rattle.av_plain.specs.Load.{is_of_slot, with_loads, without_bytes, without_claims}
use Rattle.av_plain.specs.Stands.{BytesStand, HoldsTold, IsClean, IsKept, IsKeptAt, IsOver, LedgerStands, Pte, View, entry_of}
use Rattle.av_plain.specs.World.{Holds}
use Rattle.av_plain.specs.World.{Page, Process, World, pages}
use Rattle.av_plain.proofs.Ledger.{how_many-found}
use Rattle.av_plain.proofs.Sound.Access.{unused}
use Rattle.av_plain.proofs.Sound.Counts.{same-is, same-itself, slot-is}
use Rattle.av_swap_laws.specs.May.{AreOnce, MayComeIn}
use Rattle.av_swap_laws.specs.Steps.{view_cached, view_load}
use Rattle.av_swap_laws.proofs.Cache.{frame-slot, frame_at-into, slot_of-into, uncached-frame}
use Rattle.av_swap_laws.proofs.Into.{into-stands}
use Rattle.av_swap_laws.proofs.Parts.{claims, none-some}

-- a free frame has no entry, and no slot
pub unmapped : (l : Ledger) (f : ℕ) → is_free l f ≡ true → map_count l f ≡ 0
unmapped l f free = let u = unused l f free in omega (arith, u)

pub unslotted : (l : Ledger) (f : ℕ) → is_free l f ≡ true → slot_of l f ≡ None
unslotted l f free = by (map_count l f == 0) (slot_of l f) free
  where
    by : (b : Bool) (o : Option Slot) → (b && is_none o) ≡ true → o ≡ None
    by b None h = refl
    by true (Some t) h = absurd (false≢true h)
    by false (Some t) h = absurd (false≢true h)

module _ (l : Ledger) (f : ℕ) (s : Slot) (may : MayComeIn l f s) where
  abbrev now : Ledger
  now = into_cache s f false l

  module _ (m : Setting) (v : View) (left : List ℕ) (held : ℕ → ℕ) (home : Option (ℕ × ℕ)) (h : LedgerStands m v l)
      (first : v.free ≡ f ∷ left) (alone : is_in f left ≡ false) where
    free-now : (g : ℕ) → g < m.frames → is_in g left ≡ is_free now g
    free-now g below = by (g == f) refl (sym (ap (is_in g) first) ∙ h.frames.free g below) ∙ ap (λ o. map_count l g == 0 && is_none o) (sym
        (slot_of-into s f false l g))
      where
        neither : (b : Bool) → (b && false) ≡ false
        neither true = refl
        neither false = refl

        by : (b : Bool) → (g == f) ≡ b → (b || is_in g left) ≡ is_free l g
            → is_in g left ≡ (map_count l g == 0 && is_none (cond b (Some s) (slot_of l g)))
        by true e is = ap (λ g. is_in g left) (same-is g f e) ∙ alone ∙ sym (neither (map_count l g == 0))
        by false e is = is

    -- no entry names the frame
    unnamed : (p page : ℕ) (t : Pte) → v.table p page ≡ Some t → names_frame f t.entry ≡ true → slot_entries l s ≡ 0
    unnamed p page t there names =
        let is : entry l (p, page) ≡ Some t.entry = sym (h.tables.entries p page) ∙ ap entry_of there in
        let found = how_many-found (names_frame f) (p, page) l.entries t.entry is names in
        let none = unmapped l f may.free in
        absurd (omega (arith, found, none))

    pub load-stands : LedgerStands m (view_load f s left held home v) (after_note (Loaded s f) l)
    load-stands = record {
      frames = record {
        frames = all.frames.frames;
        maps = all.frames.maps;
        slots = all.frames.slots;
        dirty = all.frames.dirty;
        free = all.frames.free;
      };
      lists = record { active = ap (without f) h.lists.active; inactive = ap (λ fs. f ∷ without f fs) h.lists.inactive };
      tables = record { entries = all.tables.entries; write_bits = all.tables.write_bits };
      swap = record { finds = all.swap.finds; counts = all.swap.counts; flight = all.swap.flight; on = all.swap.on };
    }
      where
        all : LedgerStands m (record (view_cached f s false v) { free = left }) now
        all = into-stands l f s false may.absent m v h left free-now unnamed

-- ---- the memories: what the pages held is claimed no more, where the devices don't tell

pub pages-unclaimed : (l : Ledger) (s : Slot) (w : World) (p page : ℕ)
    → pages (without_claims l s w) p page ≡ cond (is_of_slot s (entry l (p, page))) (option_map without_bytes (pages w p page)) (pages w p page)
pages-unclaimed l s [] p page = by (is_of_slot s (entry l (p, page)))
  where
    by : (b : Bool) → ◌≡◌ {A = Option Page} None (cond b None None)
    by true = refl
    by false = refl
pages-unclaimed l s (e ∷ w) p page = by (eq_by_cmp nat_cmp p e.0) refl (pages-unclaimed l s w p page)
  where
    number : eq_by_cmp nat_cmp p e.0 ≡ true → p ≡ e.0
    number h = grind (arith, nat_tests, h)

    by : (b : Bool) → eq_by_cmp nat_cmp p e.0 ≡ b
        → pages (without_claims l s w) p page ≡ cond (is_of_slot s (entry l (p, page))) (option_map without_bytes (pages w p page)) (pages w p page)
        → option_and_then (λ (q : Process). q page) (cond b (Some (λ page. if is_of_slot s (entry l (e.0, page)) then option_map without_bytes
        (e.1 page) else e.1 page)) (find nat_cmp p (without_claims l s w)))
        ≡ cond (is_of_slot s (entry l (p, page))) (option_map without_bytes
        (option_and_then (λ (q : Process). q page) (cond b (Some e.1) (find nat_cmp p w))))
        (option_and_then (λ (q : Process). q page) (cond b (Some e.1) (find nat_cmp p w)))
    by true is more = ap (λ n. cond (is_of_slot s (entry l (n, page))) (option_map without_bytes (e.1 page)) (e.1 page)) (sym (number is))
    by false is more = more

-- ---- bytes

module _ (l : Ledger) (f : ℕ) (s : Slot) (may : MayComeIn l f s) (once : AreOnce l) (left : List ℕ) (held : ℕ → ℕ) (home : Option (ℕ × ℕ))
    (v : View) (d : Device) where
  abbrev loaded : View
  loaded = view_load f s left held home v

  abbrev landed : Ledger
  landed = after_note (Loaded s f) l

  found : (t : Slot) → frame_at landed t ≡ cond (same_slot t s) (Some f) (frame_at l t)
  found t = frame_at-into s f false l t

  -- no slot is cached at the frame yet
  not_there : (t : Slot) (g : ℕ) → frame_at l t ≡ Some g → (g == f) ≡ false
  not_there t g is = by (g == f) refl
    where
      by : (b : Bool) → (g == f) ≡ b → b ≡ false
      by true e = absurd (none-some t (sym (unslotted l f may.free) ∙ ap (slot_of l) (sym (same-is g f e)) ∙ frame-slot l once g t is))
      by false e = refl

  -- and no entry names it
  not_named : (k : Key) (g : ℕ) (seen : Bool) → entry l k ≡ Some (InFrame g seen) → (g == f) ≡ false
  not_named k g seen is = by (g == f) refl
    where
      by : (b : Bool) → (g == f) ≡ b → b ≡ false
      by true e =
          let names = how_many-found (names_frame g) k l.entries (InFrame g seen) is (same-itself g) in
          let none = ap (map_count l) (same-is g f e) ∙ unmapped l f may.free in
          absurd (omega (arith, names, none))
      by false e = refl

  other_bytes : (g : ℕ) → (g == f) ≡ false → loaded.bytes g ≡ v.bytes g
  other_bytes g e = ap (λ b. cond b held (v.bytes g)) e

  own_bytes : loaded.bytes f ≡ held
  own_bytes = ap (λ b. cond b held (v.bytes f)) (same-itself f)

  -- a page of the slot is in the frame, and each other where it was
  kept-now : (k : Key) (o : Option Entry) (q q' : Option Page) → entry l k ≡ o → (is_of_slot s o ≡ true → HoldsTold q d s → Holds q' held)
      → (is_of_slot s o ≡ false → q' ≡ q) → IsKept v d l o q → IsKept loaded d landed o q'
  kept-now k None q q' is here other h = subst (λ q. Holds q (λ _. 0)) (sym (other refl)) h
  kept-now k (Some Zero) q q' is here other h = subst (λ q. Holds q (λ _. 0)) (sym (other refl)) h
  kept-now k (Some (InFrame g seen)) q q' is here other h = subst (λ q. Holds q (loaded.bytes g)) (sym (other refl))
      (subst (Holds q) (sym (other_bytes g (not_named k g seen is))) h)
  kept-now k (Some (InSlot t)) q q' is here other h = subst (IsKeptAt loaded d t q') (sym (found t)) (by (same_slot t s) refl)
    where
      turned : (b : Bool) → same_slot t s ≡ b → same_slot s t ≡ b
      turned b e = grind (arith, nat_tests, e)

      told : (o : Option ℕ) → o ≡ None → IsKeptAt v d t q o → HoldsTold q d t
      told o e h = subst (IsKeptAt v d t q) e h

      still : (o : Option ℕ) → frame_at l t ≡ o → IsKeptAt v d t q o → IsKeptAt loaded d t q o
      still None e h = h
      still (Some g) e h = subst (Holds q) (sym (other_bytes g (not_there t g e))) h

      by : (b : Bool) → same_slot t s ≡ b → IsKeptAt loaded d t q' (cond b (Some f) (frame_at l t))
      by true e = subst (Holds q') (sym own_bytes)
          (here (turned true e) (subst (λ t. HoldsTold q d t) (slot-is t s e) (told (frame_at l t) (ap (frame_at l) (slot-is t s e)
          ∙ uncached-frame s l may.absent) h)))
      by false e = subst (λ q'. IsKeptAt loaded d t q' (frame_at l t)) (sym (other (turned false e))) (still (frame_at l t) refl h)

  -- what the frame got is the device's page, where that is told
  abbrev Got : Type 0
  Got = IfSome d.pages (λ told. (i : ℕ) → i < page_size → held i ≡ slice_index (told s.area s.page) i)

  clean-now : Got → ((t : Slot) → is_stale l t ≡ false → in_flight l t ≡ false → IsClean v d t (frame_at l t))
      → (t : Slot) → is_stale landed t ≡ false → in_flight landed t ≡ false → IsClean loaded d t (frame_at landed t)
  clean-now got h t fresh low = subst (IsClean loaded d t) (sym (found t)) (by (same_slot t s) refl)
    where
      last : (b c : Bool) → ((b && false) || c) ≡ false → c ≡ false
      last true c h = h
      last false c h = h

      still : (o : Option ℕ) → frame_at l t ≡ o → IsClean v d t o → IsClean loaded d t o
      still None e h = h
      still (Some g) e h = subst (λ (b : ℕ → ℕ). IfSome d.pages (λ told. (i : ℕ) → i < page_size → slice_index (told t.area t.page) i ≡ b i))
          (sym (other_bytes g (not_there t g e))) h

      here : (o : Option (ℕ → ℕ → List ℕ)) → IfSome o (λ told. (i : ℕ) → i < page_size → held i ≡ slice_index (told s.area s.page) i)
          → IfSome o (λ told. (i : ℕ) → i < page_size → slice_index (told s.area s.page) i ≡ loaded.bytes f i)
      here None h = tt
      here (Some told) h = λ i below. sym (h i below) ∙ ap (λ (b : ℕ → ℕ). b i) (sym own_bytes)

      by : (b : Bool) → same_slot t s ≡ b → IsClean loaded d t (cond b (Some f) (frame_at l t))
      by true e = subst (λ t. IsClean loaded d t (Some f)) (sym (slot-is t s e)) (here d.pages got)
      by false e = still (frame_at l t) refl (h t (last (same_slot t s) (is_stale l t) fresh) low)

  -- devices that tell their pages: the memories stay
  told-bytes : (w : World) → is_some d.pages ≡ true → Got → BytesStand v d w l → BytesStand loaded d w landed
  told-bytes w tells got h = record {
    kept = λ p page. kept-now (p, page) (entry l (p, page)) (pages w p page) (pages w p page) refl
        (λ of told. taken (pages w p page) d.pages tells got told) (λ other. refl) (h.kept p page);
    clean = clean-now got h.clean;
  }
    where
      taken : (q : Option Page) (o : Option (ℕ → ℕ → List ℕ)) → is_some o ≡ true
          → IfSome o (λ told. (i : ℕ) → i < page_size → held i ≡ slice_index (told s.area s.page) i)
          → IfSome o (λ told. Holds q (slice_index (told s.area s.page))) → Holds q held
      taken q None tells got told = absurd (false≢true tells)
      taken q (Some kept) tells got told = claims q (slice_index (kept s.area s.page)) held got told

  -- and such as don't: of the slot's pages no byte is claimed any more
  untold-bytes : (w : World) → is_some d.pages ≡ false → BytesStand v d w l → BytesStand loaded d (without_claims l s w) landed
  untold-bytes w untold h = record {
    kept = λ p page. kept-now (p, page) (entry l (p, page)) (pages w p page) (pages (without_claims l s w) p page) refl
        (λ of told. subst (λ q. Holds q held)
        (sym (pages-unclaimed l s w p page ∙ ap (λ b. cond b (option_map without_bytes (pages w p page)) (pages w p page)) of))
        (forgotten (pages w p page)))
        (λ other. pages-unclaimed l s w p page ∙ ap (λ b. cond b (option_map without_bytes (pages w p page)) (pages w p page)) other) (h.kept p page);
    clean = clean-now (nothing d.pages untold) h.clean;
  }
    where
      forgotten : (q : Option Page) → Holds (option_map without_bytes q) held
      forgotten None = tt
      forgotten (Some q) = λ i below. tt

      nothing : (o : Option (ℕ → ℕ → List ℕ)) → is_some o ≡ false
          → IfSome o (λ told. (i : ℕ) → i < page_size → held i ≡ slice_index (told s.area s.page) i)
      nothing None e = tt
      nothing (Some told) e = absurd (false≢true (sym e))

  -- the memories after the load
  pub load-bytes : (m : Setting) (w : World) → IsOver m d → Got → BytesStand v d w l
      → BytesStand (view_load f s left held home v) d (with_loads m w l (Noted (Loaded s f) ∷ [])) (after_note (Loaded s f) l)
  load-bytes m w over got h = by (is_some d.pages) refl
    where
      tells : is_some m.headers ≡ is_some d.pages
      tells = ap is_some over.headers ∙ each d.pages
        where
          each : (o : Option (ℕ → ℕ → List ℕ)) → is_some (headers_of (record d { pages = o })) ≡ is_some o
          each None = refl
          each (Some told) = refl

      by : (b : Bool) → is_some d.pages ≡ b → BytesStand loaded d (cond (is_some m.headers) w (without_claims l s w)) landed
      by true e = subst (λ c. BytesStand loaded d (cond c w (without_claims l s w)) landed) (sym (tells ∙ e)) (told-bytes w e got h)
      by false e = subst (λ c. BytesStand loaded d (cond c w (without_claims l s w)) landed) (sym (tells ∙ e)) (untold-bytes w e h)
