-- What holds of slots at all times, beside what holds of frames: it holds after each note and each use of a page.
use Rattle.std.proofs.Common.{◌≡◌, ◌⊎◌, inl, inr, ℕ, ◌<◌, ◌≤◌, Bool, true, false, cond, not, ◌||◌, T, List, [], ◌∷◌, filter, map, Option, Some, None, is_some, option_map, refl, sym, ap, subst, ◌∙◌, arith, ◌==◌}
use Rattle.std.proofs.lemmas.Bool.{false≢true}
use Rattle.std.specs.FinMap.Entries.{is_sorted}
use Rattle.std.specs.List.{list_any}
use Rattle.std.specs.Option.{option_map_or}
use Rattle.std.specs.Prelude.{IfSome, IsSomeAnd, if◌then◌else◌}
use Rattle.av_base.specs.Keys.{Key, key_cmp, same_key}
use Rattle.av_base.specs.Items.{same_item}
use Rattle.av_base.proofs.Keys.{same_key-is, same_key-itself}
use Rattle.av_base.specs.Words.{how_many, is_in, with_at}
use Rattle.av_base.specs.declared.slot.Slot.{Slot}
use Rattle.av_vma.specs.declared.area.Area.{Area}
use Rattle.av_vma.specs.Index.{index_of}
use Rattle.av_vma.specs.Pages.{home_of}
use Rattle.av_trace.specs.declared.note.Note.TheVariants.{Dropped, Loaded}
use Rattle.av_plain.specs.Areas.{AnonVma, Anons, Homes, Items, Rmap, at_home, at_root, chain_by, home_for, rmap_after_note, root_of}
use Rattle.av_plain.specs.Covered.{AreMergedCovered, AreSlotsCovered, IsKin, IsOfSlot, IsReached, IsRmapSound, IsRooted}
use Rattle.av_plain.specs.Event.{after_note, change_entries, if_some, into_cache, off_cache, set_entry, to_inactive_tail, with_stale, without_seen}
use Rattle.av_plain.specs.Ledger.{Cached, Entry, InFrame, InSlot, Ledger, Zero, cached_by, entry, frame_at, is_merged, keys_of_slot, names_frame, names_slot, same_slot, slot_entries}
use Rattle.av_plain.specs.Sound.{slots}
use Rattle.av_plain.proofs.Covered.{AnonsStay, Carries, Names, Owns, chain_there, home_parts, sound-fewer}
use Rattle.av_plain.proofs.Event.{entry-unmap, entry-unseen, to_slot, to_unseen, unseen-by}
use Rattle.av_plain.proofs.Ledger.{entry-set, how_many-found}
use Rattle.av_plain.proofs.Ledger.Walk.{keys-filter, passes}
use Rattle.av_plain.proofs.Sound.Steps.{settle-cache, settle-entries}
use Rattle.av_plain.proofs.Sound.Counts.{same-is, same-itself, slot-is, slot-itself}

-- ---- roots and chains

-- the own anon_vma of an area is kin of its chain
abbrev pub HasKin : Rmap → Type 0
HasKin r = (p page v : ℕ) → Owns r p page v → IsSomeAnd (r.anons.anon v) (IsKin r.anons)

-- the own anon_vma of a page's area, with its chain
pub record Own (r : Rmap) (k : Key) : Type 0 where
  pub area : Area
  pub own : ℕ
  pub anon : AnonVma
  pub is_area : r.areas k.0 k.1 ≡ Some area
  pub is_own : area.anon ≡ Some own
  pub is_anon : r.anons.anon own ≡ Some anon
  pub kin : IsKin r.anons anon

own-of : (r : Rmap) (k : Key) (area : Area) (own : ℕ) → HasKin r → r.areas k.0 k.1 ≡ Some area → area.anon ≡ Some own → Own r k
own-of r k area own kin is_area is_own =
    by (r.anons.anon own) refl (kin k.0 k.1 own (subst (λ x. IsSomeAnd x (λ a. a.anon ≡ Some own)) (sym is_area) is_own))
  where
    by : (o : Option AnonVma) → r.anons.anon own ≡ o → IsSomeAnd o (IsKin r.anons) → Own r k
    by None e kin = absurd kin
    by (Some anon) e kin = record { area = area; own = own; anon = anon; is_area = is_area; is_own = is_own; is_anon = e; kin = kin }

-- a page that is reached, or rooted, has one
pub reached-own : (r : Rmap) (k : Key) (home : ℕ × ℕ) → HasKin r → IsReached r k home → Own r k
reached-own r k home h is = by (r.areas k.0 k.1) refl is
  where
    by : (o : Option Area) → r.areas k.0 k.1 ≡ o
        → IsSomeAnd o (λ area. (is_in home.0 (chain_by r.anons area.anon) ≡ true) × (index_of area k.1 ≡ home.1)) →
        Own r k
    by None e is = absurd is
    by (Some area) e is = let own = chain_there r.anons area.anon home.0 is.0 in own-of r k area own.0 h e own.1

pub rooted-own : (r : Rmap) (k : Key) (home : ℕ × ℕ) → HasKin r → IsRooted r k home → Own r k
rooted-own r k home h is = by (r.areas k.0 k.1) refl is
  where
    of_area : (area : Area) → r.areas k.0 k.1 ≡ Some area → (o : Option ℕ) → area.anon ≡ o
        → IsSomeAnd o (λ own. root_of r.anons own ≡ home.0) → Own r k
    of_area area e None f is = absurd is
    of_area area e (Some own) f is = own-of r k area own h e f

    by : (o : Option Area) → r.areas k.0 k.1 ≡ o
        → IsSomeAnd o (λ area. IsSomeAnd area.anon (λ own. root_of r.anons own ≡ home.0) × (index_of area k.1 ≡ home.1)) → Own r k
    by None e is = absurd is
    by (Some area) e is = of_area area e area.anon refl is.0

pub root-of-member : (anons : Anons) (u root : ℕ) → IsSomeAnd (anons.anon u) (λ other. other.root ≡ root) → root_of anons u ≡ root
root-of-member anons u root is = by (anons.anon u) is
  where
    by : (o : Option AnonVma) → IsSomeAnd o (λ other. other.root ≡ root) → option_map_or (λ (a : AnonVma). a.root) o u ≡ root
    by None is = absurd is
    by (Some a) is = is

module _ (r : Rmap) (k : Key) (o : Own r k) where
  pub root-is : root_of r.anons o.own ≡ o.anon.root
  root-is = ap (λ x. option_map_or (λ (a : AnonVma). a.root) x o.own) o.is_anon

  chain-is : chain_by r.anons o.area.anon ≡ o.anon.chain
  chain-is = ap (chain_by r.anons) o.is_own ∙ ap (λ x. option_map_or (λ (a : AnonVma). a.chain) x []) o.is_anon

  -- what its area says
  pub at_area : (P : Area → Type 0) → P o.area → IsSomeAnd (r.areas k.0 k.1) P
  at_area P p = subst (λ x. IsSomeAnd x P) (sym o.is_area) p

  pub of_area : (P : Area → Type 0) → IsSomeAnd (r.areas k.0 k.1) P → P o.area
  of_area P p = subst (λ x. IsSomeAnd x P) o.is_area p

  -- a page is rooted where the home's root is
  pub to_rooted : (home : ℕ × ℕ) → IsReached r k home → IsRooted r k (root_of r.anons home.0, home.1)
  to_rooted home is =
      let here = of_area (λ area. (is_in home.0 (chain_by r.anons area.anon) ≡ true) × (index_of area k.1 ≡ home.1)) is in
      at_area (λ area. IsSomeAnd area.anon (λ own. root_of r.anons own ≡ root_of r.anons home.0) × (index_of area k.1 ≡ home.1)) (
        subst (λ x. IsSomeAnd x (λ own. root_of r.anons own ≡ root_of r.anons home.0)) (sym o.is_own)
            (root-is ∙ sym (root-of-member r.anons home.0 o.anon.root (o.kin.members home.0 (subst (λ c. is_in home.0 c ≡ true) chain-is here.0)))),
        here.1,
      )

  -- and is reached from there
  to_reached : (home : ℕ × ℕ) → IsRooted r k home → IsReached r k home
  to_reached home is =
      let here = of_area (λ area. IsSomeAnd area.anon (λ own. root_of r.anons own ≡ home.0) × (index_of area k.1 ≡ home.1)) is in
      let root = sym root-is ∙ subst (λ x. IsSomeAnd x (λ own. root_of r.anons own ≡ home.0)) o.is_own here.0 in
      at_area (λ area. (is_in home.0 (chain_by r.anons area.anon) ≡ true) × (index_of area k.1 ≡ home.1)) (
        subst (λ c. is_in home.0 c ≡ true) (sym chain-is) (subst (λ v. is_in v o.anon.chain ≡ true) root o.kin.root),
        here.1,
      )

  -- its own home
  pub home-is : home_of k.1 (r.areas k.0 k.1) ≡ Some (o.own, index_of o.area k.1)
  home-is = ap (home_of k.1) o.is_area ∙ ap (option_map (λ v. (v, index_of o.area k.1))) o.is_own

  -- it is reached from it
  pub own-reached : (l : Ledger) → IsRmapSound l r → IsSomeAnd (home_of k.1 (r.areas k.0 k.1)) (IsReached r k)
  own-reached l h = subst (λ x. IsSomeAnd x (IsReached r k)) (sym home-is)
      (at_area (λ area. (is_in o.own (chain_by r.anons area.anon) ≡ true) × (index_of area k.1 ≡ index_of o.area k.1)) (
        subst (λ x. is_in o.own (chain_by r.anons x) ≡ true) (sym o.is_own)
            (h.own k.0 k.1 o.own (at_area (λ area. area.anon ≡ Some o.own) o.is_own)),
        refl,
      ))

  -- and the root of its home, where the page is rooted there
  pub root-home : (home : ℕ × ℕ) → IsRooted r k home → at_root r.anons (home_of k.1 (r.areas k.0 k.1)) ≡ Some home
  root-home home is =
      let here = of_area (λ area. IsSomeAnd area.anon (λ own. root_of r.anons own ≡ home.0) × (index_of area k.1 ≡ home.1)) is in
      ap (at_root r.anons) home-is
      ∙ (λ i. Some (subst (λ x. IsSomeAnd x (λ own. root_of r.anons own ≡ home.0)) o.is_own here.0 i, here.1 i))

-- ---- the entries and the homes change, the areas and chains stay

-- an entry that names a slot did so, and the frame that caches its slot, if there is one, did so from the home that it has
pub slots-fewer : (l l' : Ledger) (r : Rmap) (homes : Homes) → ((s : Slot) (k : Key) → IsOfSlot l' s k → IsOfSlot l s k)
    → ((s : Slot) (k : Key) (f : ℕ) → frame_at l' s ≡ Some f → IsOfSlot l' s k → (frame_at l s ≡ Some f) × (homes f ≡ r.homes f))
    → AreSlotsCovered l r → AreSlotsCovered l' (record r { homes = homes })
slots-fewer l l' r homes fewer still h = record {
  kin = h.kin;
  rooted = λ s k q names other. h.rooted s k q (fewer s k names) (fewer s q other);
  cached = λ s k f at names. let was = still s k f at names in
      subst (λ x. IsSomeAnd x (IsReached r k)) (sym was.1) (h.cached s k f was.0 (fewer s k names));
}

-- where the cache stays, too
pub slots-same : (l l' : Ledger) (r : Rmap) → ((s : Slot) (k : Key) → IsOfSlot l' s k → IsOfSlot l s k) → ((s : Slot) → frame_at l' s ≡ frame_at l s)
    → AreSlotsCovered l r → AreSlotsCovered l' r
slots-same l l' r fewer same = slots-fewer l l' r r.homes fewer (λ s k f at names. (sym (same s) ∙ at, refl))

-- an entry that names no slot takes the place of one
pub set-fewer : (l : Ledger) (k : Key) (e : Entry) → ((s : Slot) → names_slot s e ≡ false) → (s : Slot) (q : Key) → IsOfSlot (set_entry k e l) s q →
    IsOfSlot l s q
set-fewer l k e none s q names = by (same_key q k) (subst (λ o. IsSomeAnd o (λ e. names_slot s e ≡ true)) (entry-set k e l q) names)
  where
    by : (b : Bool) → IsSomeAnd (cond b (Some e) (entry l q)) (λ e. names_slot s e ≡ true) → IsOfSlot l s q
    by true is = absurd (false≢true (sym (none s) ∙ is))
    by false is = is

-- ---- a frame takes the page of a slot

-- the keys of a slot's entries
pub keys-are : (l : Ledger) (s : Slot) (k : Key) → T (is_sorted key_cmp l.entries) → IsOfSlot l s k → list_any (same_key k) (keys_of_slot l s) ≡ true
keys-are l s k sorted is = keys-filter (names_slot s) l.entries k sorted ∙ by (entry l k) is
  where
    by : (o : Option Entry) → IsSomeAnd o (λ e. names_slot s e ≡ true) → passes (names_slot s) o ≡ true
    by None is = absurd is
    by (Some e) is = is

pub are-keys : (l : Ledger) (s : Slot) (k : Key) → T (is_sorted key_cmp l.entries) → list_any (same_key k) (keys_of_slot l s) ≡ true → IsOfSlot l s k
are-keys l s k sorted is = by (entry l k) (sym (keys-filter (names_slot s) l.entries k sorted) ∙ is)
  where
    by : (o : Option Entry) → passes (names_slot s) o ≡ true → IsSomeAnd o (λ e. names_slot s e ≡ true)
    by None is = false≢true is
    by (Some e) is = is

-- its home reaches each of them
home_for-reached : (l : Ledger) (r : Rmap) (s : Slot) (k : Key) → T (is_sorted key_cmp l.entries) → IsRmapSound l r → AreSlotsCovered l r
    → IsOfSlot l s k →
    IsSomeAnd (home_for r (keys_of_slot l s)) (IsReached r k)
home_for-reached l r s k sorted sound h is = by (keys_of_slot l s) (λ q. are-keys l s q sorted) (keys-are l s k sorted is)
  where
    alone : (q : Key) → (b : Bool) → same_key k q ≡ b → (b || false) ≡ true → k ≡ q
    alone q true e t = same_key-is k q e
    alone q false e t = absurd (false≢true t)

    mine : Own r k
    mine = let home = h.rooted s k k is is in rooted-own r k home.0 h.kin home.1

    by : (ks : List Key) → ((q : Key) → list_any (same_key q) ks ≡ true → IsOfSlot l s q) → list_any (same_key k) ks ≡ true →
        IsSomeAnd (home_for r ks) (IsReached r k)
    by [] of t = absurd (false≢true t)
    by (q ∷ []) of t = subst (λ q. IsSomeAnd (home_of q.1 (r.areas q.0 q.1)) (IsReached r k)) (alone q (same_key k q) refl t)
        (own-reached r k mine l sound)
    by (q ∷ q' ∷ qs) of t =
        let first = of q (ap (λ b. b || list_any (same_key q) (q' ∷ qs)) (same_key-itself q)) in
        let home = h.rooted s q k first is in
        subst (λ x. IsSomeAnd x (IsReached r k)) (sym (root-home r q (rooted-own r q home.0 h.kin home.1) home.0 home.1))
        (to_reached r k mine home.0 home.2)

-- what the note leaves
pub slots-loaded : (l : Ledger) (r : Rmap) (s : Slot) (f : ℕ) → T (is_sorted key_cmp l.entries) → ((t : Slot) → frame_at l t ≡ Some f → ⊥) →
    IsRmapSound l r → AreSlotsCovered l r → AreSlotsCovered (after_note (Loaded s f) l) (rmap_after_note l (Loaded s f) r)
slots-loaded l r s f sorted free sound h = record {
  kin = h.kin;
  rooted = h.rooted;
  cached = λ t k g at names. by t k g (same_slot t s) refl at names;
}
  where
    inner : {a b : ℕ} → Some a ≡ Some b → a ≡ b
    inner e = cc

    now : (g : ℕ) (b : Bool) → (g == f) ≡ b → Option (ℕ × ℕ)
    now g b e = cond b (home_for r (keys_of_slot l s)) (r.homes g)

    by : (t : Slot) (k : Key) (g : ℕ) (b : Bool) → same_slot t s ≡ b
        → option_map (λ (c : Cached). c.frame) (cond b (Some (record { slot = s; frame = f; stale = false }))
        (cached_by (λ c. same_slot t c.slot) l.cache)) ≡ Some g
        → IsOfSlot l t k → IsSomeAnd (with_at f (home_for r (keys_of_slot l s)) r.homes g) (IsReached r k)
    by t k g true is at names =
        let same : f ≡ g = inner at in
        subst (λ g. IsSomeAnd (with_at f (home_for r (keys_of_slot l s)) r.homes g) (IsReached r k)) same
        (subst (λ b. IsSomeAnd (cond b (home_for r (keys_of_slot l s)) (r.homes f)) (IsReached r k)) (sym (same-itself f))
        (home_for-reached l r s k sorted sound h (subst (λ t. IsOfSlot l t k) (slot-is t s is) names)))
    by t k g false is at names = other (g == f) refl
      where
        other : (c : Bool) → (g == f) ≡ c → IsSomeAnd (cond c (home_for r (keys_of_slot l s)) (r.homes g)) (IsReached r k)
        other true e = absurd (free t (at ∙ ap Some (same-is g f e)))
        other false e = h.cached t k g at names

-- frames that no entry names are at home anywhere
pub sound-loaded : (l : Ledger) (r : Rmap) (s : Slot) (f : ℕ) → ((k : Key) → Names l k f → ⊥) → IsRmapSound l r →
    IsRmapSound (after_note (Loaded s f) l) (rmap_after_note l (Loaded s f) r)
sound-loaded l r s f free h = record { made = h.made; rising = h.rising; own = h.own; covered = λ k g names own. by k g (g == f) refl names own }
  where
    by : (k : Key) (g : ℕ) (b : Bool) → (g == f) ≡ b → Names l k g → is_merged l g ≡ false
        → IsSomeAnd (cond b (home_for r (keys_of_slot l s)) (r.homes g)) (IsReached r k)
    by k g true e names own = absurd (free k (subst (Names l k) (same-is g f e) names))
    by k g false e names own = h.covered k g names own

-- ---- an entry of a cached slot becomes the frame

pub sound-mapped : (l : Ledger) (r : Rmap) (k : Key) (s : Slot) (f : ℕ) → entry l k ≡ Some (InSlot s) → frame_at l s ≡ Some f → AreSlotsCovered l r →
    IsRmapSound l r → IsRmapSound (set_entry k (InFrame f false) l) r
sound-mapped l r k s f at cached slots h = record {
  made = h.made;
  rising = h.rising;
  own = h.own;
  covered = λ q g names own. by q g (same_key q k) refl
      (subst (λ o. IsSomeAnd o (λ e. names_frame g e ≡ true)) (entry-set k (InFrame f false) l q) names) own;
}
  where
    by : (q : Key) (g : ℕ) (b : Bool) → same_key q k ≡ b → IsSomeAnd (cond b (Some (InFrame f false)) (entry l q)) (λ e. names_frame g e ≡ true) →
        is_merged l g ≡ false → IsSomeAnd (r.homes g) (IsReached r q)
    by q g true is names own = subst (λ q. IsSomeAnd (r.homes g) (IsReached r q)) (sym (same_key-is q k is))
        (subst (λ g. IsSomeAnd (r.homes g) (IsReached r k)) (sym (same-is g f names))
        (slots.cached s k f cached (subst (λ o. IsSomeAnd o (λ e. names_slot s e ≡ true)) (sym at) (slot-itself s))))
    by q g false is names own = h.covered q g names own

pub slots-set : (l : Ledger) (r : Rmap) (k : Key) (e : Entry) → ((s : Slot) → names_slot s e ≡ false) → AreSlotsCovered l r →
    AreSlotsCovered (set_entry k e l) r
slots-set l r k e none = slots-same l (set_entry k e l) r (set-fewer l k e none) (λ s. refl)

-- ---- a frame is put at a slot that no entry names, and a slot is dropped

pub slots-put : (l : Ledger) (r : Rmap) (s : Slot) (f : ℕ) (stale : Bool) → slot_entries l s ≡ 0 → AreSlotsCovered l r →
    AreSlotsCovered (into_cache s f stale l) r
slots-put l r s f stale none =
    slots-fewer l (into_cache s f stale l) r r.homes (λ t k names. names) (λ t k g at names. by t k g (same_slot t s) refl at names)
  where
    unnamed : (t : Slot) (k : Key) → same_slot t s ≡ true → IsOfSlot l t k → ⊥
    unnamed t k is names = one (entry l k) refl (subst (λ t. IsOfSlot l t k) (slot-is t s is) names)
      where
        one : (o : Option Entry) → entry l k ≡ o → IsSomeAnd o (λ e. names_slot s e ≡ true) → ⊥
        one None e is = is
        one (Some e) at is = let some = how_many-found (names_slot s) k l.entries e at is in omega (arith, some, none)

    by : (t : Slot) (k : Key) (g : ℕ) (b : Bool) → same_slot t s ≡ b
        → option_map (λ (c : Cached). c.frame) (cond b (Some (record { slot = s; frame = f; stale = stale }))
        (cached_by (λ c. same_slot t c.slot) l.cache)) ≡ Some g
        → IsOfSlot l t k → (frame_at l t ≡ Some g) × (r.homes g ≡ r.homes g)
    by t k g true is at names = absurd (unnamed t k is names)
    by t k g false is at names = (at, refl)

-- the frame that caches a slot once another is cached no longer
pub frame_at-off : (s t : Slot) (cs : List Cached) → option_map (λ (c : Cached). c.frame) (cached_by (λ c. same_slot t c.slot)
    (filter (λ (c : Cached). not (same_slot s c.slot)) cs)) ≡ cond (same_slot t s) None (option_map (λ (c : Cached). c.frame)
    (cached_by (λ c. same_slot t c.slot) cs))
frame_at-off s t [] = elim (same_slot t s) as (λ b. ◌≡◌ {A = Option ℕ} None (cond b None None)) [ true ↦ refl | false ↦ refl ]
frame_at-off s t (c ∷ cs) = by (same_slot s c.slot) refl (same_slot t c.slot) refl (same_slot t s) refl (frame_at-off s t cs)
  where
    frame : Option Cached → Option ℕ
    frame o = option_map (λ (c : Cached). c.frame) o

    by : (a : Bool) → same_slot s c.slot ≡ a → (b : Bool) → same_slot t c.slot ≡ b → (d : Bool) → same_slot t s ≡ d
        → option_map (λ (c : Cached). c.frame) (cached_by (λ c. same_slot t c.slot) (filter (λ (c : Cached). not (same_slot s c.slot)) cs))
        ≡ cond d None (option_map (λ (c : Cached). c.frame) (cached_by (λ c. same_slot t c.slot) cs))
        → option_map (λ (c : Cached). c.frame)
        (cached_by (λ c. same_slot t c.slot) (cond (not a) (c ∷ filter (λ (c : Cached). not (same_slot s c.slot)) cs)
        (filter (λ (c : Cached). not (same_slot s c.slot)) cs)))
        ≡ cond d None (option_map (λ (c : Cached). c.frame) (cond b (Some c) (cached_by (λ c. same_slot t c.slot) cs)))
    by true e b f true g rest = rest
    by true e true f false g rest = absurd (false≢true (sym g ∙ ap (same_slot t) (slot-is s c.slot e) ∙ f))
    by true e false f false g rest = rest
    by false e true f true g rest = absurd (false≢true (sym e ∙ ap (λ x. same_slot x c.slot) (sym (slot-is t s g)) ∙ f))
    by false e false f true g rest = head false f ∙ rest
      where
        head : (b : Bool) → same_slot t c.slot ≡ b → option_map (λ (c : Cached). c.frame) (cond (same_slot t c.slot) (Some c)
            (cached_by (λ c. same_slot t c.slot) (filter (λ (c : Cached). not (same_slot s c.slot)) cs)))
            ≡ option_map (λ (c : Cached). c.frame) (cond b (Some c)
            (cached_by (λ c. same_slot t c.slot) (filter (λ (c : Cached). not (same_slot s c.slot)) cs)))
        head b f = ap (λ b. option_map (λ (c : Cached). c.frame) (cond b (Some c)
            (cached_by (λ c. same_slot t c.slot) (filter (λ (c : Cached). not (same_slot s c.slot)) cs)))) f
    by false e true f false g rest = ap (λ b. option_map (λ (c : Cached). c.frame) (cond b (Some c)
        (cached_by (λ c. same_slot t c.slot) (filter (λ (c : Cached). not (same_slot s c.slot)) cs)))) f
    by false e false f false g rest = ap (λ b. option_map (λ (c : Cached). c.frame) (cond b (Some c)
        (cached_by (λ c. same_slot t c.slot) (filter (λ (c : Cached). not (same_slot s c.slot)) cs)))) f ∙ rest

pub slots-off_cache : (l : Ledger) (r : Rmap) (s : Slot) → AreSlotsCovered l r → AreSlotsCovered (off_cache s l) r
slots-off_cache l r s = slots-fewer l (off_cache s l) r r.homes (λ t k names. names)
    (λ t k f at names. (by t f (same_slot t s) (sym (frame_at-off s t l.cache) ∙ at), refl))
  where
    by : (t : Slot) (f : ℕ) (b : Bool) → cond b None (frame_at l t) ≡ Some f → frame_at l t ≡ Some f
    by t f true e = cc
    by t f false e = e

-- lists alone change
pub slots-lists : (l l' : Ledger) (r : Rmap) → l'.entries ≡ l.entries → l'.cache ≡ l.cache → AreSlotsCovered l r → AreSlotsCovered l' r
slots-lists l l' r entries cache = slots-same l l' r
    (λ s k names. subst (λ es. IsOfSlot (record l { entries = es }) s k) entries names)
    (λ s. ap (λ (cs : List Cached). option_map (λ (c : Cached). c.frame) (cached_by (λ c. same_slot s c.slot) cs)) cache)

pub slots-dropped : (l : Ledger) (r : Rmap) (s : Slot) → AreSlotsCovered l r → AreSlotsCovered (after_note (Dropped s) l) r
slots-dropped l r s h = slots-lists (off_cache s l) (after_note (Dropped s) l) r (settle-entries (frame_at l s) (off_cache s l))
    (settle-cache (frame_at l s) (off_cache s l)) (slots-off_cache l r s h)

-- ---- writes begin and end

pub frame_at-stale : (stale : Bool) (s t : Slot) (l : Ledger) → frame_at (with_stale stale s l) t ≡ frame_at l t
frame_at-stale stale s t l = each l.cache
  where
    now : Cached → Cached
    now c = if same_slot s c.slot then record c { stale = stale } else c

    slot-same : (c : Cached) → same_slot t (if same_slot s c.slot then record c { stale = stale } else c).slot ≡ same_slot t c.slot
    slot-same c = elim (same_slot s c.slot) as (λ (b : Bool). same_slot t (if b then record c { stale = stale } else c).slot ≡ same_slot t c.slot) [
      | true ↦ refl
      | false ↦ refl
    ]

    frame-same : (c : Cached) → (if same_slot s c.slot then record c { stale = stale } else c).frame ≡ c.frame
    frame-same c = elim (same_slot s c.slot) as (λ (b : Bool). (if b then record c { stale = stale } else c).frame ≡ c.frame)
        [ true ↦ refl | false ↦ refl ]

    each : (cs : List Cached) → option_map (λ (c : Cached). c.frame) (cached_by (λ c. same_slot t c.slot)
        (map (λ (c : Cached). if same_slot s c.slot then record c { stale = stale } else c) cs))
        ≡ option_map (λ (c : Cached). c.frame) (cached_by (λ c. same_slot t c.slot) cs)
    each [] = refl
    each (c ∷ cs) = ap (λ b. option_map (λ (c : Cached). c.frame) (cond b (Some (if same_slot s c.slot then record c { stale = stale } else c))
        (cached_by (λ c. same_slot t c.slot) (map (λ (c : Cached). if same_slot s c.slot then record c { stale = stale } else c) cs)))) (slot-same c)
        ∙ by (same_slot t c.slot) (each cs)
      where
        by : (b : Bool) → option_map (λ (c : Cached). c.frame) (cached_by (λ c. same_slot t c.slot)
            (map (λ (c : Cached). if same_slot s c.slot then record c { stale = stale } else c) cs))
            ≡ option_map (λ (c : Cached). c.frame) (cached_by (λ c. same_slot t c.slot) cs)
            → option_map (λ (c : Cached). c.frame) (cond b (Some (if same_slot s c.slot then record c { stale = stale } else c))
            (cached_by (λ c. same_slot t c.slot) (map (λ (c : Cached). if same_slot s c.slot then record c { stale = stale } else c) cs)))
            ≡ option_map (λ (c : Cached). c.frame) (cond b (Some c) (cached_by (λ c. same_slot t c.slot) cs))
        by true rest = ap Some (frame-same c)
        by false rest = rest

pub slots-stale : (l : Ledger) (r : Rmap) (stale : Bool) (s : Slot) → AreSlotsCovered l r → AreSlotsCovered (with_stale stale s l) r
slots-stale l r stale s = slots-same l (with_stale stale s l) r (λ t k names. names) (λ t. frame_at-stale stale s t l)

slots-tail : (l : Ledger) (r : Rmap) (o : Option ℕ) → AreSlotsCovered l r → AreSlotsCovered (if_some o to_inactive_tail l) r
slots-tail l r None h = h
slots-tail l r (Some f) h = slots-lists l (to_inactive_tail f l) r refl refl h

-- ---- seen bits are cleared

-- entries are changed, and each names only what it named
of_changed : (P Q : Entry → Type 0) (c : Entry → Entry) → ((e : Entry) → P (c e) → Q e) → (o : Option Entry) → IsSomeAnd (option_map c o) P
    → IsSomeAnd o Q
of_changed P Q c h None is = is
of_changed P Q c h (Some e) is = h e is

pub slots-unseen : (l : Ledger) (r : Rmap) (f : ℕ) → AreSlotsCovered l r → AreSlotsCovered (change_entries f without_seen l) r
slots-unseen l r f =
    slots-same l (change_entries f without_seen l) r (λ s k names. of_changed (λ e. names_slot s e ≡ true) (λ e. names_slot s e ≡ true)
    (to_unseen f) (λ e is. sym (unseen-by f (names_slot s) (λ g seen now. refl) e) ∙ is) (entry l k)
    (subst (λ o. IsSomeAnd o (λ e. names_slot s e ≡ true)) (entry-unseen f l k) names))
    (λ s. refl)

pub names-unseen : (l : Ledger) (f : ℕ) (k : Key) (g : ℕ) → Names (change_entries f without_seen l) k g → Names l k g
names-unseen l f k g names = of_changed (λ e. names_frame g e ≡ true) (λ e. names_frame g e ≡ true)
    (to_unseen f) (λ e is. sym (unseen-by f (names_frame g) (λ i seen now. refl) e) ∙ is) (entry l k)
    (subst (λ o. IsSomeAnd o (λ e. names_frame g e ≡ true)) (entry-unseen f l k) names)

pub sound-unseen : (l : Ledger) (r : Rmap) (f : ℕ) → IsRmapSound l r → IsRmapSound (change_entries f without_seen l) r
sound-unseen l r f =
    sound-fewer l (change_entries f without_seen l) r (λ k g names own. (names-unseen l f k g names, own))

-- ---- entries of a cached frame become its slot

-- an entry that names a slot then did so, or named the frame
record WasNamed (l : Ledger) (t : Slot) (f : ℕ) (s : Slot) (k : Key) : Type 0 where
  slot : (same_slot s t ≡ false) → IsOfSlot l s k
  either : (same_slot s t ≡ true) → IsOfSlot l t k ⊎ Names l k f

was-named : (l : Ledger) (t : Slot) (f : ℕ) (s : Slot) (k : Key) → IsOfSlot (change_entries f (λ _. InSlot t) l) s k → WasNamed l t f s k
was-named l t f s k names = by (entry l k) refl (subst (λ o. IsSomeAnd o (λ e. names_slot s e ≡ true)) (entry-unmap f t l k) names)
  where
    of_frame : (g : ℕ) (seen : Bool) → entry l k ≡ Some (InFrame g seen) → (b : Bool) → (f == g) ≡ b
        → names_slot s (cond b (InSlot t) (InFrame g seen)) ≡ true → WasNamed l t f s k
    of_frame g seen at true is h = record {
      slot = λ apart. absurd (false≢true (sym apart ∙ h));
      either = λ same. inr (subst (λ o. IsSomeAnd o (λ e. names_frame f e ≡ true)) (sym at) is);
    }
    of_frame g seen at false is h = absurd (false≢true h)

    by : (o : Option Entry) → entry l k ≡ o → IsSomeAnd (option_map (to_slot f t) o) (λ e. names_slot s e ≡ true) → WasNamed l t f s k
    by None at h = absurd h
    by (Some Zero) at h = absurd (false≢true h)
    by (Some (InFrame g seen)) at h = of_frame g seen at (f == g) refl h
    by (Some (InSlot u)) at h = record {
      slot = λ apart. subst (λ o. IsSomeAnd o (λ e. names_slot s e ≡ true)) (sym at) h;
      either = λ same. inl (subst (λ o. IsSomeAnd o (λ e. names_slot t e ≡ true)) (sym at) (ap (λ x. same_slot x u) (sym (slot-is s t same)) ∙ h));
    }

pub slots-unmapped : (l : Ledger) (r : Rmap) (f : ℕ) (t : Slot) → frame_at l t ≡ Some f → is_merged l f ≡ false → IsRmapSound l r
    → AreSlotsCovered l r → AreSlotsCovered (change_entries f (λ _. InSlot t) l) r
slots-unmapped l r f t at own sound h = record {
  kin = h.kin;
  rooted = λ s k q names other. rooted s k q (same_slot s t) refl (was-named l t f s k names) (was-named l t f s q other);
  cached = λ s k g there names. cached s k g (same_slot s t) refl there (was-named l t f s k names);
}
  where
    reached : (k : Key) → IsOfSlot l t k ⊎ Names l k f → IsSomeAnd (r.homes f) (IsReached r k)
    reached k (inl names) = h.cached t k f at names
    reached k (inr names) = sound.covered k f names own

    from_home : (k q : Key) (o : Option (ℕ × ℕ)) → IsSomeAnd o (IsReached r k) → IsSomeAnd o (IsReached r q) →
        (home : ℕ × ℕ) × IsRooted r k home × IsRooted r q home
    from_home k q None a b = absurd a
    from_home k q (Some home) a b = (
      (root_of r.anons home.0, home.1),
      to_rooted r k (reached-own r k home h.kin a) home a,
      to_rooted r q (reached-own r q home h.kin b) home b,
    )

    rooted : (s : Slot) (k q : Key) (b : Bool) → same_slot s t ≡ b → WasNamed l t f s k → WasNamed l t f s q →
        (home : ℕ × ℕ) × IsRooted r k home × IsRooted r q home
    rooted s k q false is a b = h.rooted s k q (a.slot is) (b.slot is)
    rooted s k q true is a b = from_home k q (r.homes f) (reached k (a.either is)) (reached q (b.either is))

    inner : {a b : ℕ} → Some a ≡ Some b → a ≡ b
    inner e = cc

    cached : (s : Slot) (k : Key) (g : ℕ) (b : Bool) → same_slot s t ≡ b → frame_at l s ≡ Some g → WasNamed l t f s k
        → IsSomeAnd (r.homes g) (IsReached r k)
    cached s k g false is there a = h.cached s k g there (a.slot is)
    cached s k g true is there a =
        let same : f ≡ g = inner (sym at ∙ ap (frame_at l) (sym (slot-is s t is)) ∙ there) in
        subst (λ g. IsSomeAnd (r.homes g) (IsReached r k)) same (reached k (a.either is))

pub names-unmapped : (l : Ledger) (f : ℕ) (t : Slot) (k : Key) (g : ℕ) → Names (change_entries f (λ _. InSlot t) l) k g → Names l k g
names-unmapped l f t k g names = of_changed (λ e. names_frame g e ≡ true) (λ e. names_frame g e ≡ true)
    (to_slot f t) (named g) (entry l k) (subst (λ o. IsSomeAnd o (λ e. names_frame g e ≡ true)) (entry-unmap f t l k) names)
  where
    named : (g : ℕ) (e : Entry) → names_frame g (to_slot f t e) ≡ true → names_frame g e ≡ true
    named g Zero h = h
    named g (InFrame i seen) h = by (f == i) h
      where
        by : (b : Bool) → names_frame g (cond b (InSlot t) (InFrame i seen)) ≡ true → (g == i) ≡ true
        by true h = absurd (false≢true h)
        by false h = h
    named g (InSlot u) h = h

pub sound-unmapped : (l : Ledger) (r : Rmap) (f : ℕ) (t : Slot) → IsRmapSound l r → IsRmapSound (change_entries f (λ _. InSlot t) l) r
sound-unmapped l r f t = sound-fewer l (change_entries f (λ _. InSlot t) l) r
    (λ k g names own. (names-unmapped l f t k g names, own))

-- ---- a frame comes home

-- a frame that is at home anew caches no slot that an entry names
pub slots-homed : (l : Ledger) (r : Rmap) (f : ℕ) (k : Key) → ((s : Slot) (q : Key) → frame_at l s ≡ Some f → IsOfSlot l s q → ⊥)
    → AreSlotsCovered l r →
    AreSlotsCovered l (at_home f k r)
slots-homed l r f k free = slots-fewer l l r (with_at f (home_of k.1 (r.areas k.0 k.1)) r.homes) (λ s q names. names)
    (λ s q g at names. (at, by s q g (g == f) refl at names))
  where
    by : (s : Slot) (q : Key) (g : ℕ) (b : Bool) → (g == f) ≡ b → frame_at l s ≡ Some g → IsOfSlot l s q →
        cond b (home_of k.1 (r.areas k.0 k.1)) (r.homes g) ≡ r.homes g
    by s q g true e at names = absurd (free s q (at ∙ ap Some (same-is g f e)) names)
    by s q g false e at names = refl

-- ---- the areas change

-- an entry that names a slot came from a page that named it, and whose home the entry's page has now
pub record SlotCarries (l : Ledger) (r next : Rmap) (s : Slot) (k : Key) : Type 0 where
  pub was : Key
  pub names : IsOfSlot l s was
  pub home : (h : ℕ × ℕ) → home_of was.1 (r.areas was.0 was.1) ≡ Some h → home_of k.1 (next.areas k.0 k.1) ≡ Some h

-- no area has an own anon_vma that none had, and of the anon_vmas is left what is linked
module _ (l : Ledger) (r next : Rmap) (owns : (p page v : ℕ) → Owns next p page v → (q : ℕ) × (other : ℕ) × Owns r q other v)
    (left : AnonsStay r.anons next.areas next.anons) (sound : IsRmapSound l r) (h : AreSlotsCovered l r) where
  -- what an own anon_vma was
  kin-was : (p page v : ℕ) → Owns next p page v → IsSomeAnd (r.anons.anon v) (IsKin r.anons)
  kin-was p page v is = let was = owns p page v is in h.kin was.0 was.1 v was.2

  -- each member of its chain is left
  linked : (p page v u : ℕ) → Owns next p page v → is_in u (chain_by r.anons (Some v)) ≡ true → next.anons.anon u ≡ r.anons.anon u
  linked p page v u is among = left.linked u (p, page, by (next.areas p page) is)
    where
      by : (o : Option Area) → IsSomeAnd o (λ area. area.anon ≡ Some v) → IsSomeAnd o (λ area. is_in u (chain_by r.anons area.anon) ≡ true)
      by None is = is
      by (Some area) is = subst (λ x. is_in u (chain_by r.anons x) ≡ true) (sym is) among

  itself : (p page v : ℕ) → Owns next p page v → next.anons.anon v ≡ r.anons.anon v
  itself p page v is = linked p page v v is (let was = owns p page v is in sound.own was.0 was.1 v was.2)

  kin-next : (p page v : ℕ) → Owns next p page v → IsSomeAnd (next.anons.anon v) (IsKin next.anons)
  kin-next p page v is = subst (λ x. IsSomeAnd x (IsKin next.anons)) (sym (itself p page v is)) (by (r.anons.anon v) refl (kin-was p page v is))
    where
      by : (o : Option AnonVma) → r.anons.anon v ≡ o → IsSomeAnd o (IsKin r.anons) → IsSomeAnd o (IsKin next.anons)
      by None e kin = kin
      by (Some a) e kin = record {
        root = kin.root;
        members = λ u among. subst (λ x. IsSomeAnd x (λ (other : AnonVma). other.root ≡ a.root))
            (sym (linked p page v u is (subst (λ x. is_in u (option_map_or (λ (b : AnonVma). b.chain) x []) ≡ true) (sym e) among)))
            (kin.members u among);
      }

  -- the area that an entry has now, from the one that it had
  now-area : (k was : Key) (o : Own r was)
      → ((x : ℕ × ℕ) → home_of was.1 (r.areas was.0 was.1) ≡ Some x → home_of k.1 (next.areas k.0 k.1) ≡ Some x) →
      IsSomeAnd (next.areas k.0 k.1) (λ area. (area.anon ≡ Some o.own) × (index_of area k.1 ≡ index_of o.area was.1))
  now-area k was o home = home_parts k.1 (next.areas k.0 k.1) (o.own, index_of o.area was.1) (home (o.own, index_of o.area was.1) (home-is r was o))

  owned : (k was : Key) (o : Own r was)
      → IsSomeAnd (next.areas k.0 k.1) (λ area. (area.anon ≡ Some o.own) × (index_of area k.1 ≡ index_of o.area was.1)) →
      Owns next k.0 k.1 o.own
  owned k was o is = by (next.areas k.0 k.1) is
    where
      by : (x : Option Area) → IsSomeAnd x (λ area. (area.anon ≡ Some o.own) × (index_of area k.1 ≡ index_of o.area was.1)) →
          IsSomeAnd x (λ area. area.anon ≡ Some o.own)
      by None is = is
      by (Some area) is = is.0

  carried-rooted : (k was : Key) (home : ℕ × ℕ) → ((x : ℕ × ℕ) → home_of was.1 (r.areas was.0 was.1) ≡ Some x → home_of k.1 (next.areas k.0 k.1) ≡ Some x) →
      IsRooted r was home → IsRooted next k home
  carried-rooted k was home goes is =
      let o = rooted-own r was home h.kin is in
      let now = now-area k was o goes in
      let here = of_area r was o (λ area. IsSomeAnd area.anon (λ own. root_of r.anons own ≡ home.0) × (index_of area was.1 ≡ home.1)) is in
      let root = subst (λ x. IsSomeAnd x (λ own. root_of r.anons own ≡ home.0)) o.is_own here.0 in
      by o (next.areas k.0 k.1) now
      (ap (λ x. option_map_or (λ (a : AnonVma). a.root) x o.own) (itself k.0 k.1 o.own (owned k was o now)) ∙ root) here.1
    where
      by : (o : Own r was) (x : Option Area) → IsSomeAnd x (λ area. (area.anon ≡ Some o.own) × (index_of area k.1 ≡ index_of o.area was.1))
          → root_of next.anons o.own ≡ home.0 → index_of o.area was.1 ≡ home.1
          → IsSomeAnd x (λ area. IsSomeAnd area.anon (λ own. root_of next.anons own ≡ home.0) × (index_of area k.1 ≡ home.1))
      by o None is root index = is
      by o (Some area) is root index = (subst (λ x. IsSomeAnd x (λ own. root_of next.anons own ≡ home.0)) (sym is.0) root, is.1 ∙ index)

  carried-reached : (k was : Key) (x : Option (ℕ × ℕ))
      → ((y : ℕ × ℕ) → home_of was.1 (r.areas was.0 was.1) ≡ Some y → home_of k.1 (next.areas k.0 k.1) ≡ Some y) →
      IsSomeAnd x (IsReached r was) → IsSomeAnd x (IsReached next k)
  carried-reached k was None goes is = is
  carried-reached k was (Some home) goes is =
      let o = reached-own r was home h.kin is in
      let now = now-area k was o goes in
      let here = of_area r was o (λ area. (is_in home.0 (chain_by r.anons area.anon) ≡ true) × (index_of area was.1 ≡ home.1)) is in
      let among = subst (λ x. is_in home.0 (chain_by r.anons x) ≡ true) o.is_own here.0 in
      by o (next.areas k.0 k.1) now
      (subst (λ x. is_in home.0 (option_map_or (λ (a : AnonVma). a.chain) x []) ≡ true)
      (sym (itself k.0 k.1 o.own (owned k was o now))) among) here.1
    where
      by : (o : Own r was) (x : Option Area) → IsSomeAnd x (λ area. (area.anon ≡ Some o.own) × (index_of area k.1 ≡ index_of o.area was.1))
          → is_in home.0 (chain_by next.anons (Some o.own)) ≡ true → index_of o.area was.1 ≡ home.1
          → IsSomeAnd x (λ area. (is_in home.0 (chain_by next.anons area.anon) ≡ true) × (index_of area k.1 ≡ home.1))
      by o None is among index = is
      by o (Some area) is among index = (subst (λ x. is_in home.0 (chain_by next.anons x) ≡ true) (sym is.0) among, is.1 ∙ index)

  -- where a root is that an anon_vma is gone from, nothing is linked to it
  carried-root : (v : ℕ) (P : AnonVma → Type 0) → IfSome (r.anons.anon v) P → IfSome (next.anons.anon v) P
  carried-root v P is = by (next.anons.anon v) refl
    where
      by : (o : Option AnonVma) → next.anons.anon v ≡ o → IfSome o P
      by None e = tt
      by (Some a) e = subst (λ x. IfSome x P) (sym (left.same v (ap is_some e)) ∙ e) is

  -- as with frames, where entries carry their pages' homes with them
  pub slots-carried : (l' : Ledger) → ((s : Slot) (k : Key) → IsOfSlot l' s k → SlotCarries l r next s k)
      → ((s : Slot) (f : ℕ) → frame_at l' s ≡ Some f → frame_at l s ≡ Some f) → next.homes ≡ r.homes → AreSlotsCovered l' next
  slots-carried l' carries frames homes = record {
    kin = λ p page v is. kin-next p page v is;
    rooted = λ s k q names other.
        let a = carries s k names in let b = carries s q other in
        let home = h.rooted s a.was b.was a.names b.names in
        (home.0, carried-rooted k a.was home.0 a.home home.1, carried-rooted q b.was home.0 b.home home.2);
    cached = λ s k f at names.
        let a = carries s k names in
        subst (λ (hs : Homes). IsSomeAnd (hs f) (IsReached next k)) (sym homes)
        (carried-reached k a.was (r.homes f) a.home (h.cached s a.was f (frames s f at) a.names));
  }

  -- and so do those that name merged frames
  pub merged-carried : (l' : Ledger) → ((k : Key) (f : ℕ) → Names l' k f → Carries l r next k f) → ((f : ℕ) → is_merged l' f ≡ true → is_merged l f ≡ true)
      → next.homes ≡ r.homes → next.items ≡ r.items → AreMergedCovered l r → AreMergedCovered l' next
  merged-carried l' carries fewer homes items merged = record {
    found = λ k f names is.
        let a = carries k f names in let x = merged.found a.was f a.names (fewer f is) in
        (x.0, subst (λ (xs : Items). list_any (same_item x.0) (xs f) ≡ true) (sym items) x.1, carried-rooted k a.was x.0 a.home x.2);
    once = λ f item is. subst (λ (xs : Items). how_many (same_item item) (xs f) ≤ 1) (sym items) (merged.once f item (fewer f is));
    roots = λ f item is among.
        let x = merged.roots f item (fewer f is) (subst (λ (xs : Items). list_any (same_item item) (xs f) ≡ true) items among) in
        (subst (λ n. item.0 < n) (sym left.next) x.0, carried-root item.0 (λ v. v.root ≡ item.0) x.1);
    homeless = λ f is. ap (λ (hs : Homes). hs f) homes ∙ merged.homeless f (fewer f is);
  }
