-- What the steps of a merge ask for, of what stands between two events.
use Rattle.std.proofs.Common.{◌≡◌, inl, inr, ℕ, ◌-◌, ◌^◌, ◌<◌, ◌≤◌, Bool, true, false, [], Option, Some, None, is_some, option_map, refl, sym, ap, subst, ◌∙◌, arith, ◌==◌}
use Rattle.std.proofs.lemmas.Bool.{false≢true}
use Rattle.std.proofs.lemmas.Bool.Decides.{nat_tests}
use Rattle.std.specs.Option.{ForSome, option_map_or}
use Rattle.std.specs.Prelude.{IsSome, IsSomeAnd, IfSome}
use Rattle.av_base.specs.Keys.{Key}
use Rattle.av_base.specs.Limits.{top_page}
use Rattle.av_base.specs.Words.{is_in, within}
use Rattle.av_anon.specs.declared.infos.Info.{Info}
use Rattle.av_pagetable.specs.Entries.{entry_at}
use Rattle.av_pagetable.specs.declared.pte.Pte.{Pte}
use Rattle.av_pagetable.specs.declared.pte.Pte.TheVariants.{Away, Empty, Here, Zero}
use Rattle.av_spaces.specs.Kin.{chain_by, info_of}
use Rattle.av_spaces.specs.Spaces.{pages_of}
use Rattle.av_vma.specs.Index.{first_of, index_of, past_of}
use Rattle.av_vma.specs.Pages.{AreLaid, home_of}
use Rattle.av_vma.specs.declared.area.Area.{Area}
use Rattle.av_plain.specs.Areas as plain_areas
use Rattle.av_plain.specs.Areas.{AnonVma, Rmap}
use Rattle.av_plain.specs.Covered.{IsReached}
use Rattle.av_plain.specs.Device.{Device}
use Rattle.av_plain.specs.Ledger.{InFrame, Ledger, is_merged, map_count, names_frame}
use Rattle.av_plain.specs.Sound.{uses}
use Rattle.av_plain.specs.Stands.{entry_of}
use Rattle.av_plain.specs.World.{Page, World, pages}
use Rattle.av_plain.proofs.Ledger.{how_many-found}
use Rattle.av_plain.proofs.Sound.Bound.{map_count-pages}
use Rattle.av_plain.proofs.Sound.Changes.{free-is}
use Rattle.av_plain.proofs.Sound.Counts.{same-itself}
use Rattle.av_rmap.specs.Items.{is_merged as has_items}
use Rattle.av_swap_laws.proofs.Parts.{some-is}
use Rattle.av_mem.specs.declared.mem.Mem.{Mem}
use Rattle.av_mem.specs.Between.{KeepsBetween}
use Rattle.av_mem.specs.Entries.{NamesFrame}
use Rattle.av_mem.specs.Mem.{anon_vma, anons_of, frame_count, plain, setting_by, view}
use Rattle.av_ksm.specs.Join.{HasOwn}
use Rattle.av_ksm.specs.Merging.{HasOther, IsReady, StandsSo}
use Rattle.av_ksm.specs.Known.{WaitsAt}
use Rattle.av_ksm.proofs.CandidateLaws.{merged-told}
use Rattle.av_ksm.proofs.ShareStep.{merged-some}

module _ (d : Device) (k : Mem) (w : World) (r : Rmap) (l : Ledger) (h : KeepsBetween d k w r l) where
  -- ---- a page with a frame of its own

  module _ (key : Key) (own : ℕ) (seen : Bool) (is : HasOwn l key own seen) where
    pub own-names : NamesFrame k key own
    own-names = by (entry_at k.tables key.0 key.1) refl (h.serves.held.ledger.tables.entries key.0 key.1 ∙ is.names)
      where
        frame : {a b : ℕ} {s t : Bool} → Some (InFrame a s) ≡ Some (InFrame b t) → a ≡ b
        frame e = cc

        by : (e : Pte) → entry_at k.tables key.0 key.1 ≡ e → entry_of (plain e) ≡ Some (InFrame own seen) → NamesFrame k key own
        by Empty at e = cc
        by Zero at e = cc
        by (Here g write was) at e = record { write = write; seen = was; there = at ∙ ap (λ n. Here n write was) (frame e) }
        by (Away s) at e = cc

    pub own-some : 0 < map_count l own
    own-some = let some = how_many-found (names_frame own) key l.entries (InFrame own seen) is.names (same-itself own) in omega (arith, some)

    pub own-mapped : 0 < (view k).maps own
    own-mapped = subst (λ n. 0 < n) (sym (h.serves.held.ledger.frames.maps own)) own-some

    pub own-below : own < frame_count k
    own-below = h.sound.in_range own (let some = own-some in omega (arith, some))

    pub own-uncached : (view k).slot own ≡ None
    own-uncached = h.serves.held.ledger.frames.slots own ∙ is.uncached

    pub own-used : is_in own (view k).free ≡ false
    own-used = h.serves.held.ledger.frames.free own own-below ∙ free-is l own ∙ some (uses l own) (let some = own-some in omega (arith, some))
      where
        some : (n : ℕ) → 0 < n → (n == 0) ≡ false
        some n e = grind (arith, nat_tests, e)

    -- its home is at an anon_vma that is there
    pub own-rooted : ForSome ((view k).homes own) (λ home. IsSome (info_of k.anons home.0))
    own-rooted home at = found (h.serves.held.covered.frames.covered key own (subst (λ o. IsSomeAnd o (λ e. names_frame own e ≡ true)) (sym is.names)
        (same-itself own)) is.unmerged)
      where
        home-is : r.homes own ≡ Some home
        home-is = sym (h.serves.held.homes own) ∙ at

        of-info : (v x : ℕ) (o : Option Info) → is_in v (option_map_or (λ (y : AnonVma). y.chain)
            (option_map (anon_vma (chain_by k.spaces k.anons (Some x))) o) []) ≡ true
            → is_in v (chain_by k.spaces k.anons (Some x)) ≡ true
        of-info v x None inside = absurd (false≢true inside)
        of-info v x (Some i) inside = inside

        of-own : (v : ℕ) (o : Option ℕ) → is_in v (plain_areas.chain_by (anons_of k.spaces k.anons) o) ≡ true → is_in v (chain_by k.spaces k.anons o) ≡ true
        of-own v None inside = absurd (false≢true inside)
        of-own v (Some x) inside = of-info v x (info_of k.anons x) inside

        at-area : (A : Area) → r.areas key.0 key.1 ≡ Some A → is_in home.0 (plain_areas.chain_by r.anons A.anon) ≡ true
            → IsSome (info_of k.anons home.0)
        at-area A on inside = h.serves.fit.linked home.0 (
          key.0,
          key.1,
          subst (λ o. IsSomeAnd o (λ area. is_in home.0 (chain_by k.spaces k.anons area.anon) ≡ true)) (sym (h.serves.are key.0 key.1 ∙ on))
              (of-own home.0 A.anon (ap (is_in home.0)
              (subst (λ o. IfSome o (λ (area : Area). plain_areas.chain_by (anons_of k.spaces k.anons) area.anon ≡ plain_areas.chain_by r.anons area.anon))
              on (h.serves.anons.chains key.0 key.1)) ∙ inside)),
        )

        by : (o : Option Area) → r.areas key.0 key.1 ≡ o
            → IsSomeAnd o (λ area. (is_in home.0 (plain_areas.chain_by r.anons area.anon) ≡ true) × (index_of area key.1 ≡ home.1))
            → IsSome (info_of k.anons home.0)
        by None on reached = absurd reached
        by (Some A) on reached = at-area A on reached.0

        found : IsSomeAnd (r.homes own) (IsReached r key) → IsSome (info_of k.anons home.0)
        found covered = by (r.areas key.0 key.1) refl (subst (λ o. IsSomeAnd o (IsReached r key)) home-is covered)

  -- ---- a merged frame

  pub merged-below : (f : ℕ) → is_merged l f ≡ true → f < frame_count k
  merged-below f merged = h.sound.in_range f (let some = merged-some l f merged in let n = h.sound.merged f in omega (arith, some, n))

  -- the anon_vma of a page's area is there
  pub home-rooted : (p page : ℕ) → ForSome (home_of page (pages_of k.spaces.processes p page)) (λ home. IsSome (info_of k.anons home.0))
  home-rooted p page home at = by (pages_of k.spaces.processes p page) refl at
    where
      owned : (A : Area) → pages_of k.spaces.processes p page ≡ Some A → A.anon ≡ Some home.0 → IsSome (info_of k.anons home.0)
      owned A on own = h.serves.fit.linked home.0 (
        p,
        page,
        subst (λ o. IsSomeAnd o (λ area. is_in home.0 (chain_by k.spaces k.anons area.anon) ≡ true)) (sym on)
            (subst (λ o. is_in home.0 (chain_by k.spaces k.anons o) ≡ true) (sym own)
            (h.serves.fit.own home.0 (p, page, subst (λ o. IsSomeAnd o (λ area. area.anon ≡ Some home.0)) (sym on) own))),
      )

      of-own : (A : Area) → pages_of k.spaces.processes p page ≡ Some A → (o : Option ℕ) → A.anon ≡ o
          → option_map (λ own. (own, index_of A page)) o ≡ Some home → IsSome (info_of k.anons home.0)
      of-own A on None own e = absurd (never e)
        where
          never : {x : ℕ × ℕ} → None ≡ Some x → ⊥
          never e = cc
      of-own A on (Some v) own e = owned A on (own ∙ ap (option_map (λ (x : ℕ × ℕ). x.0)) e)

      by : (o : Option Area) → pages_of k.spaces.processes p page ≡ o → home_of page o ≡ Some home → IsSome (info_of k.anons home.0)
      by None on e = absurd (never e)
        where
          never : {x : ℕ × ℕ} → None ≡ Some x → ⊥
          never e = cc
      by (Some A) on e = of-own A on A.anon refl e

  -- no more entries name a frame than there may be pages
  module _ (laid : (p : ℕ) → AreLaid (pages_of k.spaces.processes p)) where
    pages-below : (p page : ℕ) → is_some (pages w p page) ≡ true → page < top_page
    pages-below p page is = by (pages_of k.spaces.processes p page) refl
        (mapped (pages_of k.spaces.processes p page) (pages w p page) (h.serves.areas.flags p page) is)
      where
        mapped : (o : Option Area) (x : Option Page)
            → option_map (λ (area : Area). area.flags) o ≡ option_map (λ (q : Page). q.flags) x → is_some x ≡ true → is_some o ≡ true
        mapped o None e there = absurd (false≢true there)
        mapped None (Some q) e there = cc
        mapped (Some A) x e there = refl

        inside : (first past : ℕ) → within first (past - first) page ≡ true → past ≤ top_page → page < top_page
        inside first past here high = grind (arith, nat_tests, here, high)

        by : (o : Option Area) → pages_of k.spaces.processes p page ≡ o → is_some o ≡ true → page < top_page
        by None on there = absurd (false≢true there)
        by (Some A) on there = inside (first_of A) (past_of A) ((laid p).here page A on) ((laid p).whole page A on).high

    pub maps-few : (f : ℕ) → (view k).maps f < 2 ^ 64 - 1
    maps-few f = subst (λ n. n < 2 ^ 64 - 1) (sym (h.serves.held.ledger.frames.maps f)) few
      where
        few : map_count l f < 2 ^ 64 - 1
        few =
            let all = map_count-pages (setting_by d k) w l f (record {
              world = h.serves.tidy;
              ledger = h.sound;
              at_pages = h.serves.at_pages;
              in_areas = h.serves.there;
              areas_fit = h.serves.areas_fit;
            }) pages-below in
            omega (arith, all)

  -- ---- another frame

  pub other-apart : (key : Key) (own f : ℕ) → HasOther l key own f → own ≡ f → ⊥
  other-apart key own f has e = false≢true (sym has.other ∙ ap (λ n. f == n) e ∙ same-itself f)

-- ---- a frame that is merged, or waits to be

module _ (k : Mem) (f : ℕ) (page : Option Key) (q : StandsSo k (λ d l. IsReady l f page)) where
  abbrev merged : is_merged q.ledger f ≡ true → f < frame_count k
  merged = merged-below q.device k q.world q.rmap q.ledger q.between f

  pub ready-below : f < frame_count k
  ready-below = by q.is
    where
      by : IsReady q.ledger f page → f < frame_count k
      by (inl is) = merged is
      by (inr x) = own-below q.device k q.world q.rmap q.ledger q.between x.key f x.seen x.own

  -- where it isn't merged it waits
  pub ready-waits : has_items ((view k).items f) ≡ false → WaitsAt q.ledger (f, page)
  ready-waits none = by q.is
    where
      by : IsReady q.ledger f page → WaitsAt q.ledger (f, page)
      by (inl is) = absurd (false≢true (sym none ∙ merged-told q.device k q.world q.rmap q.ledger q.between f ∙ is))
      by (inr x) = x

-- the page that it waits at
pub waits-key : (l : Ledger) (f : ℕ) (page : Option Key) (key : Key) → page ≡ Some key → (x : WaitsAt l (f, page)) → HasOwn l key f x.seen
waits-key l f page key at x = subst (λ k. HasOwn l k f x.seen) (some-is x.key key (sym x.page ∙ at)) x.own

-- one that isn't merged waits
pub waits-else : (l : Ledger) (f : ℕ) (page : Option Key) → is_merged l f ≡ false → IsReady l f page → WaitsAt l (f, page)
waits-else l f page unmerged (inl is) = absurd (false≢true (sym unmerged ∙ is))
waits-else l f page unmerged (inr x) = x
