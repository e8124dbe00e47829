-- The page of a slot that is served comes into a frame, and the entry that names the slot names that: what both steps ask for and leave.
use Rattle.std.proofs.Common.{◌≡◌, ℕ, ◌-◌, ◌^◌, ◌<◌, ◌≤◌, Bool, true, false, List, [], ◌∷◌, Option, Some, None, IfSome, option_map, refl, sym, ap, subst, ◌∙◌, arith}
use Rattle.std.specs.Prelude.{slice_index}
use Rattle.av_base.specs.Keys.{Key}
use Rattle.av_base.specs.Page.{address_of, page_of, page_size}
use Rattle.av_base.specs.Words.{is_in}
use Rattle.av_base.specs.declared.slot.Slot.{Slot}
use Rattle.av_swapcache.specs.Swap.{IsUncached, shown as shown_swap}
use Rattle.av_swapdev.specs.Device.{Holds as HoldsBytes}
use Rattle.av_trace.specs.declared.note.Note.TheVariants.{Loaded, Mapped}
use Rattle.av_vma.specs.Pages.{home_of}
use Rattle.av_plain.specs.Areas.{Rmap, home_for, rmap_after_note}
use Rattle.av_plain.specs.Choice.{ListsFree}
use Rattle.av_plain.proofs.Wrote.{device-told, some-same}
use Rattle.av_plain.specs.Device.{Device, IsSameDevice, as_told}
use Rattle.av_plain.specs.Event.{Noted, after_note, key_at}
use Rattle.av_plain.specs.Ledger.{InSlot, Ledger, Setting, entry, frame_at, keys_of_slot, map_count}
use Rattle.av_plain.specs.Load.{with_loads}
use Rattle.av_plain.specs.Sound.{IsSoundBut, uses}
use Rattle.av_plain.specs.Stands.{View}
use Rattle.av_plain.specs.World.{World}
use Rattle.av_plain.proofs.Ledger.NoSwap.{key_at-address}
use Rattle.av_plain.proofs.Sound.Counts.{frame_at-some, pair-frame}
use Rattle.av_swap_laws.specs.Held.{Held, Steps}
use Rattle.av_swap_laws.specs.Steps.{view_load, view_map}
use Rattle.av_swap_laws.proofs.Cache.{frame-slot, once-of}
use Rattle.av_swap_laws.proofs.Few.{together-few}
use Rattle.av_swap_laws.proofs.From.{IsFirst, cached-in_range, first-is, uncached-may_load}
use Rattle.av_swap_laws.proofs.Load.{unslotted}
use Rattle.av_swap_laws.proofs.Parts.{named-slot, none-some}
use Rattle.av_swap_laws.proofs.WholePages.{load-steps, map-steps}
use Rattle.av_mem.specs.Cache.{HasLoaded, home_by}
use Rattle.av_mem.specs.Mem.{Serves, frame_count, held_by, setting_by, view}
use Rattle.av_mem.specs.declared.mem.Mem.{Mem}
use Rattle.av_mem.proofs.HomeLaws.{home-law}

-- what the frame got is the device's page, where that is told
pub got-told : (told : Bool) (d : Device) (s : Slot) (page : List ℕ) → HoldsBytes d.pages s.area s.page page
    → IfSome (as_told told d).pages (λ kept. (i : ℕ) → i < page_size → slice_index page i ≡ slice_index (kept s.area s.page) i)
got-told false d s page holds = tt
got-told true d s page holds = by d.pages holds
  where
    by : (o : Option (ℕ → ℕ → List ℕ)) → HoldsBytes o s.area s.page page
        → IfSome o (λ kept. (i : ℕ) → i < page_size → slice_index page i ≡ slice_index (kept s.area s.page) i)
    by None holds = tt
    by (Some kept) holds = λ i below. ap (λ bytes. slice_index bytes i) (sym holds)

-- after a call that changes nothing of it but how often it failed
pub seen-same : (told : Bool) (d d' : Device) → d'.sizes ≡ d.sizes → d'.pages ≡ d.pages → d.failures ≤ d'.failures → d'.history ≡ d.history
    → IsSameDevice (as_told told d) (as_told told d')
seen-same told d d' sizes pages failures asked = device-told told d d' (record {
  sizes = sizes;
  first = ap (option_map {U = ℕ → List ℕ} (λ (t : ℕ → ℕ → List ℕ) k. t k 0)) pages;
  failures = failures;
  history = some-same d.history d'.history asked;
})

-- and after one that does not change that
pub told-still : (told : Bool) (d d' : Device) → d'.sizes ≡ d.sizes → d'.pages ≡ d.pages → d'.failures ≡ d.failures → d'.history ≡ d.history
    → as_told told d' ≡ as_told told d
told-still told d d' sizes pages failures asked =
    λ i. as_told told (record { sizes = sizes i; pages = pages i; failures = failures i; history = asked i })

module _ (d : Device) (closing : Option ℕ) (k : Mem) (w : World) (r : Rmap) (l : Ledger) (x : Slot → ℕ) (sound : IsSoundBut (setting_by d k) x l)
    (h : Serves d closing k w r l) (q : Key) (s : Slot) (at : entry l q ≡ Some (InSlot s)) where
  abbrev m : Setting
  m = setting_by d k

  abbrev held : Held
  held = held_by d k w r l

  pub back-named : 0 < (view k).entries s
  back-named = subst (λ n. 0 < n) (sym (h.held.ledger.swap.counts s)) (named-slot l q s at)

  -- ---- the slot's page is read

  pub back-uncached : (f : ℕ) → is_in f (view k).free ≡ true → IsUncached (shown_swap k.swap) f
  back-uncached f free t found =
      let cached : frame_at l t ≡ Some f = sym (h.held.ledger.swap.finds t) ∙ found in
      none-some t (sym (unslotted l f (sym (h.held.ledger.frames.free f (cached-in_range m x l sound f t cached)) ∙ free))
      ∙ frame-slot l (once-of m x l sound) f t cached)

  module _ (out : frame_at l s ≡ None) (home : Option (ℕ × ℕ)) (is : home ≡ home_of q.1 (r.areas q.0 q.1)) (new : Mem)
      (pages : Option (ℕ → ℕ → List ℕ))
      (f : ℕ) (homed : Option (ℕ × ℕ)) (is_home : homed ≡ home_by k s home) (load : HasLoaded k new pages f s homed)
      (got : IfSome d.pages (λ told. (i : ℕ) → i < page_size → slice_index load.page i ≡ slice_index (told s.area s.page) i)) where
    pub first-taken : IsFirst m l f load.left
    first-taken = first-is m l f load.left (subst (ListsFree m l) load.first h.free.frames)

    abbrev pub view_loaded : View
    view_loaded = view_load f s load.left (slice_index load.page) (home_for r (keys_of_slot l s)) (view k)

    pub seen-loaded : view new ≡ view_loaded
    seen-loaded = load.loads ∙ ap (λ x. view_load f s load.left (slice_index load.page) x (view k))
        (is_home ∙ home-law d closing k w r l h q s sound.in_order at home is)

    pub back-loaded : Steps m closing (Noted (Loaded s f)) held (record {
      view = view_loaded;
      device = d;
      world = with_loads m w l (Noted (Loaded s f) ∷ []);
      ledger = after_note (Loaded s f) l;
      rmap = rmap_after_note l (Loaded s f) r;
    })
    back-loaded = load-steps m closing held h.held f s load.left (slice_index load.page) sound.in_order (once-of m x l sound)
        (uncached-may_load m x l sound f s out first-taken.free) (record { sizes = refl; headers = refl }) load.first first-taken.alone got

  -- ---- the entry names the frame that caches the slot

  module _ (f : ℕ) (cached : frame_at l s ≡ Some f) where
    pub back-in_range : f < frame_count k
    back-in_range = cached-in_range m x l sound f s cached

    pub back-found : (view k).find s ≡ Some f
    back-found = h.held.ledger.swap.finds s ∙ cached

    pub back-few : (view k).maps f < 2 ^ 64 - 1
    back-few = subst (λ n. n < 2 ^ 64 - 1) (sym (h.held.ledger.frames.maps f)) few
      where
        few : map_count l f < 2 ^ 64 - 1
        few =
            let sum = together-few m x w l f s sound h.at_pages (frame-slot l (once-of m x l sound) f s cached) in
            let most = h.tidy.few in
            omega (arith, sum, most)

    pub back-used : 0 < uses l f
    back-used =
        let pair = frame_at-some f s l.cache cached in
        let has = pair-frame s f l.cache in
        omega (arith, pair, has)

    pub back-at : entry l (key_at q.0 (address_of q.1)) ≡ Some (InSlot s)
    back-at = ap (entry l) (key_at-address q) ∙ at

    pub back-mapped : Steps m closing (Noted (Mapped q.0 (address_of q.1) f)) held (record held {
      view = view_map q.0 (page_of (address_of q.1)) f s (view k);
      ledger = after_note (Mapped q.0 (address_of q.1) f) l;
    })
    back-mapped = map-steps m closing held h.held q.0 (address_of q.1) f s sound.in_order (once-of m x l sound) back-at cached

    -- in the words of the code's step
    pub seen-mapped : (new : Mem) → view new ≡ view_map q.0 q.1 f s (view k) → view new ≡ view_map q.0 (page_of (address_of q.1)) f s (view k)
    seen-mapped new is = is ∙ ap (λ page. view_map q.0 page f s (view k)) (sym (ap (λ (k : Key). k.1) (key_at-address q)))
