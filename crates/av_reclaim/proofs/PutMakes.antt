-- A frame that is put at the slot which comes next, if one may be given.
use Rattle.std.proofs.Common.{◌≡◌, ℕ, ◌+◌, ◌<◌, Bool, true, false, cond, not, ◌&&◌, ◌||◌, ◌==◌, nat_lt, List, [], ◌∷◌, map, Option, Some, None, is_some, option_map, refl, sym, ap, subst, ◌∙◌, arith}
use Rattle.std.proofs.lemmas.Bool.Decides.{nat_tests}
use Rattle.std.proofs.lemmas.Bool.{false≢true}
use Rattle.std.specs.FinMap.Entries.{find as find_area}
use Rattle.std.specs.List.{AllByRecursion, find, list_all}
use Rattle.std.specs.Option.{option_map_or}
use Rattle.std.specs.Ordering.{nat_cmp}
use Rattle.std.specs.Prelude.{ℤ, int_le, IsSomeAnd, MatchBool, MatchOption}
use Rattle.av_base.specs.Words.{with_at}
use Rattle.av_base.specs.declared.slot.Slot.{Slot}
use Rattle.av_clusters.specs.Clusters.{Slots, take_slot}
use Rattle.av_swapdev.specs.Device.{most_areas}
use Rattle.av_swapdev.specs.declared.header.Header.{Header}
use Rattle.av_trace.specs.declared.note.Note.TheVariants.{Put}
use Rattle.av_plain.specs.Areas.{Rmap}
use Rattle.av_plain.specs.Choice.{IsGiven, can_give as can_give_in, giving_swap_area}
use Rattle.av_plain.specs.Device.{Device}
use Rattle.av_plain.specs.Ledger.{Ledger, Setting, SwapArea, free_slots, has_free_slot, is_free_slot, is_open, may_give, no_slot}
use Rattle.av_plain.specs.Sound.{holders, uses}
use Rattle.av_plain.specs.World.{World}
use Rattle.av_plain.proofs.Clusters.{Gives, gives-one}
use Rattle.av_swap_laws.specs.Steps.{view_put}
use Rattle.av_swap_laws.proofs.From.{given-may_put}
use Rattle.av_swap_laws.proofs.Whole.{put-steps}
use Rattle.av_swapcache.specs.Swap.{GivesFirst, Shown, can_give, free_of, is_area, is_closing, shown}
use Rattle.av_swapcache.proofs.Views.{first_on, gives_first-is, goes_first}
use Rattle.av_evict.specs.Steps.{MayPut, put_notes}
use Rattle.av_evict.specs.System.{Makes, Tells, any_slot}
use Rattle.av_evict.proofs.StepLaws.{open-gives, unmerged-count}
use Rattle.av_mem.specs.Cache.{Puts}
use Rattle.av_mem.specs.Mem.{Serves, area_of, held_by, setting_by, view}
use Rattle.av_mem.specs.Steps.{KeepsParts}
use Rattle.av_mem.specs.declared.mem.Mem.{Mem}
use Rattle.av_mem.proofs.ServesLaws.{locks-stay}
use Rattle.av_mem.proofs.SwapSums.{each-free}
use Rattle.av_reclaim.specs.Driver.{closing_of, view_of}
use Rattle.av_reclaim.proofs.FinishMakes.{none-makes}
use Rattle.av_reclaim.proofs.OneNote.{one-still}
use Rattle.av_reclaim.proofs.StepMakes.{by-view, same-world, stands-still}
use Rattle.av_plain.proofs.Wrote.{wrote-none, device-itself}

-- ---- the swap area that gives

-- the first that passes, where both tests agree
first-alike : (priority : ℕ → ℤ) (test : ℕ × SwapArea → Bool) (can : ℕ → Bool) (on : List (ℕ × Header))
    → AllByRecursion (λ a. test (area_of priority a) ≡ can a.0) on
    → option_map (λ (a : ℕ × SwapArea). a.0) (find test (map (area_of priority) on)) ≡ first_on can on
first-alike priority test can [] alike = refl
first-alike priority test can (a ∷ on) alike =
    ap (λ b. option_map (λ (a : ℕ × SwapArea). a.0) (cond b (Some (area_of priority a)) (find test (map (area_of priority) on)))) alike.0
    ∙ by (can a.0) (first-alike priority test can on alike.1)
  where
    by : (b : Bool) → option_map (λ (a : ℕ × SwapArea). a.0) (find test (map (area_of priority) on)) ≡ first_on can on
        → option_map (λ (a : ℕ × SwapArea). a.0) (cond b (Some (area_of priority a)) (find test (map (area_of priority) on)))
        ≡ option_map (λ (a : ℕ × Header). a.0) (cond b (Some a) (find (λ (a : ℕ × Header). can a.0) on))
    by true rest = refl
    by false rest = rest

-- and none that passes has a greater priority than this
none-greater : (priority : ℕ → ℤ) (test : ℕ × SwapArea → Bool) (can : ℕ → Bool) (p : ℤ) (on : List (ℕ × Header))
    → AllByRecursion (λ a. test (area_of priority a) ≡ can a.0) on
    → list_all (λ (b : ℕ × SwapArea). not (test b) || int_le b.1.priority p) (map (area_of priority) on)
    ≡ list_all (λ (a : ℕ × Header). not (can a.0) || int_le (priority a.0) p) on
none-greater priority test can p [] alike = refl
none-greater priority test can p (a ∷ on) alike =
    λ i. (not (alike.0 i) || int_le (priority a.0) p) && none-greater priority test can p on alike.1 i

all-mapped : {X Y : Type 0} (P : Y → Type 0) (f : X → Y) (xs : List X) → AllByRecursion P (map f xs) → AllByRecursion (λ x. P (f x)) xs
all-mapped P f [] all = tt
all-mapped P f (x ∷ xs) all = (all.0, all-mapped P f xs all.1)

all-as : {X : Type 0} (P Q : X → Type 0) (xs : List X) → ((x : X) → P x → Q x) → AllByRecursion P xs → AllByRecursion Q xs
all-as P Q [] f all = tt
all-as P Q (x ∷ xs) f all = (f x all.0, all-as P Q xs f all.1)

all-true : {X : Type 0} (test : X → Bool) (xs : List X) → AllByRecursion (λ x. test x ≡ true) xs → list_all test xs ≡ true
all-true test [] all = refl
all-true test (x ∷ xs) all = ap (λ b. b && list_all test xs) all.0 ∙ all-true test xs all.1

turned : (a b : Bool) → (a && b) ≡ (b && a)
turned true true = refl
turned true false = refl
turned false true = refl
turned false false = refl

-- the area that is closing is not open
open-as : (h : Shown) (k : ℕ) → is_open h.closing k ≡ not (is_closing h k)
open-as h k = by h.closing
  where
    by : (o : Option ℕ) → is_open o k ≡ not (is_area k o)
    by None = refl
    by (Some c) = refl

module _ (d : Device) (k : Mem) (w : World) (r : Rmap) (l : Ledger) (h : Serves d (closing_of k) k w r l) where
  abbrev m : Setting
  m = setting_by d k

  abbrev swap : Shown
  swap = shown k.swap

  each-alike : AllByRecursion (λ a. can_give_in m (closing_of k) l a ≡ can_give swap a.0) l.on
  each-alike = all-as (λ (a : ℕ × SwapArea). free_of swap a.0 ≡ free_slots m l a) (λ a. can_give_in m (closing_of k) l a ≡ can_give swap a.0) l.on
      (λ a same. turned (is_open (closing_of k) a.0) (nat_lt 0 (free_slots m l a))
      ∙ (λ i. nat_lt 0 (sym same i) && open-as swap a.0 i)) (each-free m k l h.areas_fit h.free)

  alike-shown : AllByRecursion (λ a. can_give_in m (closing_of k) l (area_of swap.priority a) ≡ can_give swap a.0) swap.on
  alike-shown = all-mapped (λ (a : ℕ × SwapArea). can_give_in m (closing_of k) l a ≡ can_give swap a.0) (area_of swap.priority) swap.on
      (subst (AllByRecursion (λ a. can_give_in m (closing_of k) l a ≡ can_give swap a.0)) (sym h.held.ledger.swap.on) each-alike)

  pub none-gives : ((j : ℕ) → can_give swap j ≡ false) → no_slot m (closing_of k) l ≡ true
  none-gives none = all-true (λ a. not (is_open (closing_of k) a.0) || free_slots m l a == 0) l.on
      (all-as (λ a. can_give_in m (closing_of k) l a ≡ can_give swap a.0)
      (λ a. (not (is_open (closing_of k) a.0) || free_slots m l a == 0) ≡ true) l.on
      (λ a same. by (is_open (closing_of k) a.0) (free_slots m l a) (same ∙ none a.0)) each-alike)
    where
      by : (o : Bool) (n : ℕ) → (o && nat_lt 0 n) ≡ false → (not o || n == 0) ≡ true
      by true n e = grind (arith, nat_tests, e)
      by false n e = refl

  -- an area that gives is open, and has a free slot
  module _ (j : ℕ) (gives : can_give swap j ≡ true) where
    first : (a b : Bool) → (a && b) ≡ true → a ≡ true
    first true b e = refl
    first false b e = e

    second : (a b : Bool) → (a && b) ≡ true → b ≡ true
    second true b e = e
    second false b e = absurd (false≢true e)

    is-open : is_open (closing_of k) j ≡ true
    is-open = open-as swap j ∙ second (nat_lt 0 (free_of swap j)) (not (is_closing swap j)) gives

    has-free : has_free_slot m l j ≡ true
    has-free = has (find_area nat_cmp j l.on) (h.free.slots.number j) (first (nat_lt 0 (free_of swap j)) (not (is_closing swap j)) gives)
      where
        has : (o : Option SwapArea) → free_of swap j ≡ option_map_or (λ area. free_slots m l (j, area)) o 0 → nat_lt 0 (free_of swap j) ≡ true
            → option_map_or (λ area. nat_lt 0 (free_slots m l (j, area))) o false ≡ true
        has None e some = absurd (false≢true (sym (ap (nat_lt 0) e) ∙ some))
        has (Some x) e some = sym (ap (nat_lt 0) e) ∙ some

  -- whether one gives, and so whether a slot may be given
  pub slot-told : (b : Bool) → MatchBool b ((j : ℕ) × (can_give swap j ≡ true)) ((j : ℕ) → can_give swap j ≡ false)
      → b ≡ not (no_slot m (closing_of k) l)
  slot-told true some = sym (ap not (open-gives m (closing_of k) l some.0 (is-open some.0 some.1) (has-free some.0 some.1)))
  slot-told false none = sym (ap not (none-gives none))

  module _ (s : Slot) (rest : Slots) (area : GivesFirst swap most_areas s.area) (slot : take_slot (swap.slots s.area) ≡ Some (s.page, rest)) where
    first-gives : giving_swap_area m (closing_of k) l ≡ Some s.area
    first-gives = subst (λ on. option_map (λ (a : ℕ × SwapArea). a.0) (find (λ a. can_give_in m (closing_of k) l a
        && list_all (λ b. not (can_give_in m (closing_of k) l b) || int_le b.1.priority a.1.priority) on) on) ≡ Some s.area) h.held.ledger.swap.on
        (first-alike swap.priority _ (goes_first (can_give swap) swap.priority swap.on) swap.on
        (all-as (λ (a : ℕ × Header). can_give_in m (closing_of k) l (area_of swap.priority a) ≡ can_give swap a.0) _ swap.on
        (λ a same i. same i && none-greater swap.priority (can_give_in m (closing_of k) l) (can_give swap) (swap.priority a.0) swap.on alike-shown
        i) alike-shown)
        ∙ gives_first-is k.swap most_areas s.area area)

    pub is-given : IsGiven m (closing_of k) l s (view k).slots (with_at s.area rest (view k).slots)
    is-given = (
      first-gives,
      subst (λ o. IsSomeAnd o (λ t. (t.0 ≡ s.page) × (with_at s.area rest (view k).slots ≡ with_at s.area t.1 (view k).slots)))
          (sym slot) (refl, refl),
    )

    pub may-be-given : may_give m (closing_of k) l s ≡ true
    may-be-given = all-three (is_free_slot m l s) (is_open (closing_of k) s.area) (has_free_slot m l s.area)
        (h.free.slots.free s (subst (Gives (swap.slots s.area)) slot (gives-one (swap.slots s.area))).0)
        (is-open s.area area.gives) (has-free s.area area.gives)
      where
        all-three : (a b c : Bool) → a ≡ true → b ≡ true → c ≡ true → (a && b && c) ≡ true
        all-three true true true x y z = refl
        all-three true true false x y z = z
        all-three true false c x y z = absurd (false≢true y)
        all-three false b c x y z = absurd (false≢true x)

-- ---- the step

used-by : (a b : ℕ) → 0 < a → 0 < a + b
used-by a b h = omega (arith, h)

pub put-slot : (names : List ℕ) (d : Device) (old new : Mem) (f : ℕ) (o : Option Slot) → Puts o old new f
    → Tells (view_of names d old) (λ l. MayPut f l → MatchOption o (no_slot (setting_by d old) (closing_of old) l ≡ true)
    (λ s. may_give (setting_by d old) (closing_of old) l s ≡ true))
put-slot names d old new f None h = λ l sound stood may. none-gives d old stood.0 stood.1 l stood.2 h.0
put-slot names d old new f (Some s) h = λ l sound stood may. may-be-given d old stood.0 stood.1 l stood.2 s h.rest h.area h.slot

pub put-makes : (names : List ℕ) (d : Device) (old new : Mem) (f : ℕ) (o : Option Slot) → Puts o old new f → KeepsParts old new
    → Makes (view_of names d old) (view_of names d new) (MayPut f) (put_notes f o)
put-makes names d old new f None h parts = none-makes names d d old new (MayPut f) refl h.1 parts
put-makes names d old new f (Some s) h parts = λ l sound stood may.
    let m = setting_by d old in
    let used : 0 < uses l f = used-by _ (holders l f) may.mapped in
    let gives = may-be-given d old stood.0 stood.1 l stood.2 s h.rest h.area h.slot in
    one-still names d d old new l (Put f s) (record { sound = sound; world = stood.0; rmap = stood.1; serves = stood.2 }) (record {
      parts = parts;
      same = device-itself d;
      lawful = (gives, used);
      brings = λ w r c. tt;
      still = tt;
      locks = λ w r c. locks-stay old new w l (Put f s) parts refl c.locks;
      failures = stands-still d.failures;
      wrote = wrote-none d.history;
    }) (λ w. same-world (is_some m.headers) w)
    (λ w r serves. by-view d d old new l (Put f s) (view_put f s (with_at s.area h.rest (view old).slots) (view old)) w r h.puts
    (put-steps m (closing_of old) (held_by d old w r l) serves.held f s (with_at s.area h.rest (view old).slots)
    (given-may_put m any_slot l sound (closing_of old) f s may.uncached gives used (unmerged-count l f may.unmerged))
    (is-given d old w r l serves s h.rest h.area h.slot)))
