-- The entries of a frame and of its slot are reached from its home: of what is kept between commands, and of what is served within one.
use Rattle.std.proofs.Common.{◌≡◌, ℕ, ◌<◌, Bool, true, false, cond, List, [], ◌∷◌, arith, Option, Some, None, option_map, IfSome, IsSomeAnd, refl, sym, ap, subst, ◌∙◌}
use Rattle.std.proofs.lemmas.Bool.{false≢true}
use Rattle.std.proofs.lemmas.Bool.Decides.{nat_tests}
use Rattle.std.specs.List.{list_any}
use Rattle.std.specs.Option.{option_map_or}
use Rattle.av_base.specs.Keys.{Key}
use Rattle.av_base.specs.Items.{same_item}
use Rattle.av_base.specs.Words.{is_in}
use Rattle.av_base.specs.declared.slot.Slot.{Slot}
use Rattle.av_vma.specs.declared.area.Area.{Area}
use Rattle.av_vma.specs.Areas.{area_of}
use Rattle.av_vma.specs.Index.{index_of}
use Rattle.av_pagetable.specs.declared.pte.Pte.{Pte}
use Rattle.av_pagetable.specs.declared.pte.Pte.TheVariants.{Empty, Zero, Here, Away}
use Rattle.av_pagetable.specs.Entries.{entry_at}
use Rattle.av_anon.specs.declared.infos.Info.{Info}
use Rattle.av_anon.specs.Anons.{family, own_of}
use Rattle.av_anon.specs.Spans.{spans_of}
use Rattle.av_anon.proofs.KinLaws.{chain_by-is}
use Rattle.av_spaces.specs.Spaces.{AreNumbered, IsNumber}
use Rattle.av_spaces.specs.Kin as in_spaces
use Rattle.av_spaces.specs.Kin.{AnonsFit, info_of}
use Rattle.av_rmap.specs.Covered.{IsCoveredFrom, IsReached}
use Rattle.av_rmap.specs.Items.{AreCovered as AreCoveredFrom, AreRoots, is_merged as has_items}
use Rattle.av_rmap.specs.Walk.{names_frame, names_slot}
use Rattle.av_plain.specs.Areas.{AnonVma, Rmap, chain_by, root_of}
use Rattle.av_plain.specs.Covered.{AreMergedCovered, AreSlotsCovered, IsOfFrame, IsReached as IsReachedAt, IsRmapSound, IsRooted}
use Rattle.av_plain.proofs.Covered.Slots.{at_area, of_area, root-is, rooted-own}
use Rattle.av_plain.specs.Device.{Device}
use Rattle.av_plain.specs.Ledger.{Entry, Ledger, entry, frame_at, is_merged, names_frame as names, names_slot as in_slot}
use Rattle.av_plain.specs.Stands.{AnonsStand, AreasAre, HomesAre, ItemsAre, entry_of, kin_of}
use Rattle.av_plain.specs.Transcript.{State, rmap_of}
use Rattle.av_plain.specs.World.{World}
use Rattle.av_plain.proofs.Ledger.Walk.{passes}
use Rattle.av_mem.specs.declared.mem.Mem.{Mem}
use Rattle.av_mem.specs.Chains.{AreFound, AreReached, AreSlotReached, places_at_home, reach}
use Rattle.av_mem.specs.Mem.{Keeps, Serves, anon_vma, anons_of, plain, view}

-- a test of the table's entries says what one of the ledger's does
abbrev pub SaysAs : (Pte → Bool) → (Entry → Bool) → Type 0
SaysAs test p = (t : Pte) → test t ≡ passes p (entry_of (plain t))

pub frame-says : (f : ℕ) → SaysAs (names_frame f) (names f)
frame-says f Empty = refl
frame-says f Zero = refl
frame-says f (Here g write seen) = refl
frame-says f (Away slot) = refl

pub slot-says : (s : Slot) → SaysAs (names_slot s) (in_slot s)
slot-says s Empty = refl
slot-says s Zero = refl
slot-says s (Here g write seen) = refl
slot-says s (Away slot) = refl

passes-some : (p : Entry → Bool) (o : Option Entry) → passes p o ≡ true → IsSomeAnd o (λ e. p e ≡ true)
passes-some p None h = absurd (false≢true h)
passes-some p (Some e) h = h

-- the entries are the ledger's, areas, anon_vmas, homes and items are these, there is chain order, and the entries of frames and slots are covered
pub record Reaches (k : Mem) (r : Rmap) (l : Ledger) : Type 0 where
  pub entries : (p page : ℕ) → entry_of (plain (entry_at k.tables p page)) ≡ entry l (p, page)
  pub areas : AreasAre (view k) r.areas
  pub anons : AnonsStand (view k) r.areas r.anons
  pub homes : HomesAre (view k) r.homes
  pub items : ItemsAre (view k) l r.items
  pub fit : AnonsFit k.spaces k.anons
  pub covered : IsRmapSound l r
  pub slots : AreSlotsCovered l r
  pub merged : AreMergedCovered l r

pub reaches-kept : (d : Device) (k : Mem) (s : State) → Keeps d k s → Reaches k (rmap_of s) s.ledger
reaches-kept d k s h = record {
  entries = h.stands.parts.ledger.tables.entries;
  areas = h.stands.areas;
  anons = h.stands.anons;
  homes = h.stands.homes;
  items = h.stands.items;
  fit = h.anons;
  covered = h.stands.reach;
  slots = h.stands.slots;
  merged = h.stands.merged;
}

pub reaches-served : (d : Device) (closing : Option ℕ) (k : Mem) (w : World) (r : Rmap) (l : Ledger) → Serves d closing k w r l → Reaches k r l
reaches-served d closing k w r l h = record {
  entries = h.held.ledger.tables.entries;
  areas = h.are;
  anons = h.anons;
  homes = h.held.homes;
  items = h.held.items;
  fit = h.fit;
  covered = h.held.covered.frames;
  slots = h.held.covered.slots;
  merged = h.held.covered.merged;
}

module _ (k : Mem) (r : Rmap) (l : Ledger) (h : Reaches k r l) where
  -- an entry passes where the ledger's does
  pub passes-there : (test : Pte → Bool) (p : Entry → Bool) → SaysAs test p → (q : Key) → test (entry_at k.tables q.0 q.1) ≡ passes p (entry l q)
  passes-there test p says q = says (entry_at k.tables q.0 q.1) ∙ ap (passes p) (h.entries q.0 q.1)

  -- a link that the definitions say is one of the area's chain
  linked_is : (p page v n : ℕ) (A : Area) → IsNumber k.spaces p page A n → r.areas p page ≡ Some A
      → is_in v (chain_by r.anons A.anon) ≡ true → is_in v ((family k.anons).chain n) ≡ true
  linked_is p page v n A is on linked = of_own A.anon refl (ap (is_in v)
      (subst (λ o. IfSome o (λ (area : Area). chain_by (anons_of k.spaces k.anons) area.anon ≡ chain_by r.anons area.anon)) on
      (h.anons.chains p page))
      ∙ linked)
    where
      of_info : (own : ℕ) (o : Option Info) → is_in v (option_map_or (λ (x : AnonVma). x.chain)
          (option_map (anon_vma (in_spaces.chain_by k.spaces k.anons (Some own))) o) []) ≡ true
          → is_in v (in_spaces.chain_by k.spaces k.anons (Some own)) ≡ true
      of_info own None inside = absurd (false≢true inside)
      of_info own (Some i) inside = inside

      of_own : (own : Option ℕ) → A.anon ≡ own → is_in v (chain_by (anons_of k.spaces k.anons) own) ≡ true → is_in v ((family k.anons).chain n) ≡ true
      of_own None e inside = absurd (false≢true inside)
      of_own (Some own) e inside =
          ap (is_in v) (sym (chain_by-is (area_of k.spaces.areas) (family k.anons) (spans_of k.anons) n own h.fit.order (ap own_of is.at ∙ e)))
          ∙ of_info own (info_of k.anons own) inside

  reached : AreNumbered k.spaces → (home : ℕ × ℕ) (p page : ℕ) → IsReachedAt r (p, page) home → IsReached (reach k) home p page
  reached numbered home p page is = by (r.areas p page) refl is
    where
      by : (o : Option Area) → r.areas p page ≡ o
          → IsSomeAnd o (λ area. (is_in home.0 (chain_by r.anons area.anon) ≡ true) × (index_of area page ≡ home.1))
          → IsReached (reach k) home p page
      by None on is = absurd is
      by (Some A) on is =
          let n = numbered.numbers p page A (h.areas p page ∙ on) in
          record {
            number = n.0;
            area = A;
            stands = n.1.at;
            of = n.1.process;
            here = n.1.here;
            linked = linked_is p page home.0 n.0 A n.1 on is.0;
            index = is.1;
          }

  -- where each entry that passes is reached from the frame's home in the words of the definitions, it is so; without one none passes
  reached-by : (test : Pte → Bool) (f : ℕ) → ((q : Key) → test (entry_at k.tables q.0 q.1) ≡ true → IsSomeAnd (r.homes f) (IsReachedAt r q))
      → AreNumbered k.spaces → IsCoveredFrom (reach k) test ((view k).homes f)
  reached-by test f covers numbered = by ((view k).homes f) refl
    where
      at_home : (q : Key) → test (entry_at k.tables q.0 q.1) ≡ true → IsSomeAnd ((view k).homes f) (IsReachedAt r q)
      at_home q named = subst (λ o. IsSomeAnd o (IsReachedAt r q)) (sym (h.homes f)) (covers q named)

      unnamed : (view k).homes f ≡ None → (q : Key) (b : Bool) → test (entry_at k.tables q.0 q.1) ≡ b → b ≡ false
      unnamed homeless q false e = refl
      unnamed homeless q true e = absurd (subst (λ o. IsSomeAnd o (IsReachedAt r q)) homeless (at_home q e))

      by : (o : Option (ℕ × ℕ)) → (view k).homes f ≡ o → IsCoveredFrom (reach k) test o
      by None is = λ p page. unnamed is (p, page) (test (entry_at k.tables p page)) refl
      by (Some home) is = λ p page named. reached numbered home p page
          (subst (λ o. IsSomeAnd o (IsReachedAt r (p, page))) is (at_home (p, page) named))

  -- a page is reached from an item that it has
  rooted-reached : (q : Key) (item : ℕ × ℕ) → IsRooted r q item → IsReachedAt r q item
  rooted-reached q item is =
      let o = rooted-own r q item h.slots.kin is in
      let here = of_area r q o (λ area. IsSomeAnd area.anon (λ own. root_of r.anons own ≡ item.0) × (index_of area q.1 ≡ item.1)) is in
      let root = sym (root-is r q o) ∙ subst (λ x. IsSomeAnd x (λ own. root_of r.anons own ≡ item.0)) o.is_own here.0 in
      let chain = ap (chain_by r.anons) o.is_own ∙ ap (λ x. option_map_or (λ (a : AnonVma). a.chain) x []) o.is_anon in
      at_area r q o (λ area. (is_in item.0 (chain_by r.anons area.anon) ≡ true) × (index_of area q.1 ≡ item.1)) (
        subst (λ c. is_in item.0 c ≡ true) (sym chain) (subst (λ v. is_in v o.anon.chain ≡ true) root o.kin.root),
        here.1,
      )

  -- an entry that names the frame
  is-of-frame : (f : ℕ) (q : Key) → names_frame f (entry_at k.tables q.0 q.1) ≡ true → IsOfFrame l f q
  is-of-frame f q named = passes-some (names f) (entry l q) (sym (passes-there (names_frame f) (names f) (frame-says f) q) ∙ named)

  -- where a frame has no items, its entries are reached from its home
  pub are-reached : (f : ℕ) → has_items ((view k).items f) ≡ false → AreReached k f
  are-reached f none = reached-by (names_frame f) f (λ q named. by (is_merged l f) refl (h.items f) q (is-of-frame f q named))
    where
      unlisted : (xs : List (ℕ × ℕ)) (item : ℕ × ℕ) → has_items xs ≡ false → list_any (same_item item) xs ≡ false
      unlisted [] item e = refl
      unlisted (x ∷ xs) item e = absurd (false≢true (sym e))

      by : (b : Bool) → is_merged l f ≡ b → (view k).items f ≡ cond b (r.items f) [] → (q : Key) → IsOfFrame l f q
          → IsSomeAnd (r.homes f) (IsReachedAt r q)
      by true e is q of =
          let i = h.merged.found q f of e in
          absurd (false≢true (sym (unlisted (r.items f) i.0 (ap has_items (sym is) ∙ none)) ∙ i.1))
      by false e is q of = h.covered.covered q f of e

  -- else from its items
  pub are-found : (f : ℕ) → AreFound k f
  are-found f numbered = by ((view k).items f) refl (is_merged l f) refl (h.items f)
    where
      alone : (home : ℕ × ℕ) → list_any (same_item home) (home ∷ []) ≡ true
      alone home = grind (arith, nat_tests)

      at_home : (o : Option (ℕ × ℕ)) → IsCoveredFrom (reach k) (names_frame f) o → AreCoveredFrom (reach k) (names_frame f) (places_at_home o)
      at_home None reaches p page named = absurd (false≢true (sym (reaches p page) ∙ named))
      at_home (Some home) reaches p page named = (home, alone home, reaches p page named)

      by : (xs : List (ℕ × ℕ)) → (view k).items f ≡ xs → (b : Bool) → is_merged l f ≡ b → (view k).items f ≡ cond b (r.items f) []
          → AreCoveredFrom (reach k) (names_frame f) (cond (has_items ((view k).items f)) ((view k).items f) (places_at_home ((view k).homes f)))
      by [] e b merged is = subst (λ xs. AreCoveredFrom (reach k) (names_frame f) (cond (has_items xs) xs (places_at_home ((view k).homes f))))
          (sym e) (at_home ((view k).homes f) (are-reached f (ap has_items e) numbered))
      by (x ∷ xs) e true merged is = subst (λ xs. AreCoveredFrom (reach k) (names_frame f) (cond (has_items xs) xs (places_at_home ((view k).homes f))))
          (sym e) (λ p page named.
          let i = h.merged.found (p, page) f (is-of-frame f (p, page) named) merged in (
            i.0,
            subst (λ xs. list_any (same_item i.0) xs ≡ true) (sym is ∙ e) i.1,
            reached numbered i.0 p page (rooted-reached (p, page) i.0 i.2),
          ))
      by (x ∷ xs) e false merged is = absurd (false≢true (sym (ap has_items is) ∙ ap has_items e))

  -- its items are at roots
  pub are-roots : (f : ℕ) → AreRoots (family k.anons) ((view k).items f)
  are-roots f = by (is_merged l f) refl (h.items f)
    where
      root_so : (x : ℕ × ℕ) (i : Option Info) (y : Option AnonVma)
          → option_map kin_of (option_map (anon_vma (in_spaces.chain_by k.spaces k.anons (Some x.0))) i) ≡ option_map kin_of y
          → IfSome y (λ v. v.root ≡ x.0) → IfSome i (λ (i : Info). i.root ≡ x.0)
      root_so x None y e is = tt
      root_so x (Some i) None e is = cc
      root_so x (Some i) (Some v) e is = ap (λ (o : Option (ℕ × ℕ)). option_map_or (λ (p : ℕ × ℕ). p.0) o 0) e ∙ is

      by : (b : Bool) → is_merged l f ≡ b → (view k).items f ≡ cond b (r.items f) [] → AreRoots (family k.anons) ((view k).items f)
      by true e is x listed =
          let root = h.merged.roots f x e (subst (λ xs. list_any (same_item x) xs ≡ true) is listed) in (
            subst (λ n. x.0 < n) (sym h.anons.next) root.0,
            root_so x ((family k.anons).info x.0) (r.anons.anon x.0) (h.anons.kin x.0) root.1,
          )
      by false e is x listed = absurd (false≢true (sym (ap (λ xs. list_any (same_item x) xs) is) ∙ listed))

  -- where the frame caches the slot
  pub slot-reached : (s : Slot) (f : ℕ) → frame_at l s ≡ Some f → AreSlotReached k s f
  slot-reached s f cached = reached-by (names_slot s) f (λ q named.
      h.slots.cached s q f cached (passes-some (in_slot s) (entry l q) (sym (passes-there (names_slot s) (in_slot s) (slot-says s) q) ∙ named)))
