-- The areas of a process go to a child: what the kernel has then, the definitions have.
use Rattle.std.proofs.Common.{◌≡◌, ℕ, zero, suc, ◌+◌, ◌<◌, ◌≤◌, ◌⊎◌, Bool, true, false, not, cond, ◌==◌, ne_eqb, List, [], ◌∷◌, ◌++◌, map, length, take, get_or, inl, inr, Option, Some, None, option_map, IfSome, IsSomeAnd, refl, sym, ap, subst, ◌∙◌, arith}
use Rattle.std.proofs.lemmas.Bool.{cases_lt, eqb-true}
use Rattle.std.proofs.lemmas.Bool.Decides.{nat_tests}
use Rattle.std.proofs.lemmas.List.{take_all, take_more}
use Rattle.av_base.specs.Flags.{no_flags}
use Rattle.av_vma.specs.declared.area.Area.{Area}
use Rattle.av_vma.specs.Fork.{areas_to_fork, own_to_fork}
use Rattle.av_vma.specs.Index.{first_of}
use Rattle.av_vma.specs.Pages.{has_page, pages_in, with_area}
use Rattle.av_vma.proofs.Laid.{has_from}
use Rattle.av_anon.specs.declared.anons.Anons.{Anons as AnonSet}
use Rattle.av_anon.specs.declared.infos.Info.{Info}
use Rattle.av_merge.specs.Forking.{Lineage, area_in_child, kin_with, own_in_child}
use Rattle.av_merge.specs.Kin.{kin_in}
use Rattle.av_spaces.specs.Fork.{GoInTurn, IsForked, areas_in_child, kin_after, kin_of as kin_now}
use Rattle.av_spaces.specs.Kin as in_spaces
use Rattle.av_spaces.specs.Kin.{IsOwnedIn, info_of}
use Rattle.av_spaces.specs.Spaces.{AllSpaces, IsSpawned, Spaces, areas_of, pages_of as areas_on}
use Rattle.av_spaces.proofs.ForkKept.{owned_there}
use Rattle.av_spaces.proofs.ForkLaws.{areas_in_child-more, kin_after-more}
use Rattle.av_spaces.proofs.Kin.{stay_same}
use Rattle.av_plain.specs.Areas.{Items, Rmap, chain_by, none_on}
use Rattle.av_plain.specs.Fork.{AreForked, GoOver, GoesBy, with_child_area}
use Rattle.av_plain.specs.Device.{Device}
use Rattle.av_plain.specs.Ledger.{Ledger, is_merged}
use Rattle.av_plain.specs.Report.{AreApart, range_of}
use Rattle.av_plain.specs.Stands.{AnonsStand, kin_of}
use Rattle.av_plain.specs.Transcript.{State, rmap_of}
use Rattle.av_plain.proofs.Fork.Areas.{before, child-has, not_first, not_later}
use Rattle.av_plain.proofs.Report.Areas.{rest_apart, some_pages}
use Rattle.av_mem.specs.declared.mem.Mem.{Mem}
use Rattle.av_mem.specs.Mem.{HasLedger, Keeps, anon_vma, view}
use Rattle.av_mem.proofs.AnonLaws.{area_chain, shown_chain}
use Rattle.av_mem.proofs.MemLaws.{all_apart}
use Rattle.av_frames.specs.Store.{shown}
use Rattle.av_fork.specs.Areas.{HasFork}
use Rattle.av_fork.proofs.AreasReused.{Shows, chain_in}
use Rattle.av_fork.proofs.AreasStep.{GoesOn, goes_on}

-- ---- items

-- areas that go over leave all items
goes_items : (q : ℕ) (area : Area) (own : Option ℕ) (r next : Rmap) → GoesBy own q area r next → next.items ≡ r.items
goes_items q area None r next goes = ap (λ (x : Rmap). x.items) goes
goes_items q area (Some own) r next goes = ap (λ (x : Rmap). x.items) goes.2

over_items : (q : ℕ) (areas : List Area) (r next : Rmap) → GoOver q areas r next → next.items ≡ r.items
over_items q [] r next goes = ap (λ (x : Rmap). x.items) goes
over_items q (area ∷ areas) r next (mid, first, later) =
    over_items q areas mid next later ∙ goes_items q area (own_to_fork area) r mid first

-- ---- areas that are apart

-- the last of areas is on its pages, too
last_over : (areas : List Area) (area : Area) (page : ℕ) → AreApart (map range_of (areas ++ area ∷ []))
    → pages_in (Some (areas ++ area ∷ [])) page ≡ with_area area (pages_in (Some areas)) page
last_over [] area page apart = refl
last_over (b ∷ areas) area page apart = by (has_page b page) refl
    (last_over areas area page (rest_apart (range_of b) (map range_of (areas ++ area ∷ [])) apart))
  where
    out : (c : Bool) → None ≡ cond c (Some area) (pages_in (Some areas) page) → Some b ≡ cond c (Some area) (Some b)
    out true e = absurd cc
    out false e = refl

    by : (c : Bool) → has_page b page ≡ c → pages_in (Some (areas ++ area ∷ [])) page ≡ with_area area (pages_in (Some areas)) page
        → cond c (Some b) (pages_in (Some (areas ++ area ∷ [])) page) ≡ cond (has_page area page) (Some area)
        (cond c (Some b) (pages_in (Some areas) page))
    by true is rest = out (has_page area page) (sym (not_later b (areas ++ area ∷ []) page apart is) ∙ rest)
    by false is rest = rest

-- each has its first page
abbrev none : Area
none = record { pid = 0; start = 0; end = 0; prot = record { read = false; write = false; execute = false }; flags = no_flags; pgoff = 0; anon = None }

on_first : (areas : List Area) (n : ℕ) → AreApart (map range_of areas) → n < length (areas_to_fork areas)
    → pages_in (Some areas) (first_of (get_or (areas_to_fork areas) n none)) ≡ Some (get_or (areas_to_fork areas) n none)
on_first [] n apart inside = absurd (omega (arith, inside))
on_first (a ∷ areas) n apart inside =
    by (λ m inside. on_first areas m (rest_apart (range_of a) (map range_of areas) apart) inside) (not a.flags.dont_fork) n inside
  where
    later : (x : Area) → pages_in (Some areas) (first_of x) ≡ Some x → pages_in (Some (a ∷ areas)) (first_of x) ≡ Some x
    later x rest = ap (λ b. cond b (Some a) (pages_in (Some areas) (first_of x))) (not_first a areas (first_of x) x apart rest) ∙ rest

    by : ((m : ℕ) → m < length (areas_to_fork areas)
        → pages_in (Some areas) (first_of (get_or (areas_to_fork areas) m none)) ≡ Some (get_or (areas_to_fork areas) m none))
        → (b : Bool) (n : ℕ) → n < length (cond b (a ∷ areas_to_fork areas) (areas_to_fork areas))
        → pages_in (Some (a ∷ areas)) (first_of (get_or (cond b (a ∷ areas_to_fork areas) (areas_to_fork areas)) n none))
        ≡ Some (get_or (cond b (a ∷ areas_to_fork areas) (areas_to_fork areas)) n none)
    by rest true zero inside =
        let some : first_of a < (range_of a).to = some_pages (range_of a) (map range_of areas) apart in
        ap (λ b. cond b (Some a) (pages_in (Some areas) (first_of a))) (has_from a (first_of a) (omega arith) some)
    by rest true (suc n) inside = later (get_or (areas_to_fork areas) n none) (rest n (omega (arith, inside)))
    by rest false n inside = later (get_or (areas_to_fork areas) n none) (rest n inside)

-- ---- one more goes over

more_over : (q : ℕ) (areas : List Area) (area : Area) (r mid next : Rmap) → GoOver q areas r mid → GoesBy (own_to_fork area) q area mid next
    → GoOver q (areas ++ area ∷ []) r next
more_over q [] area r mid next goes last = (next, subst (λ r. GoesBy (own_to_fork area) q area r next) goes last, refl)
more_over q (a ∷ areas) area r mid next (first, by, rest) last = (first, by, more_over q areas area first mid next rest last)

-- what the first of the areas that went over leave
record Reaches (old : AllSpaces) (anons : AnonSet) (child : ℕ) (first : Rmap) (areas : List Area) : Type 0 where
  next : Rmap
  goes : GoOver child areas first next
  shows : (spaces : Spaces) → IsSpawned old.processes spaces child (areas_in_child child areas (kin_now old anons))
      → Shows spaces (kin_after areas (kin_now old anons)) next

module _ (d : Device) (old : Mem) (s : State) (keeps : Keeps d old s) (parent child : ℕ) (areas : List Area)
    (there : areas_of old.spaces.processes parent ≡ Some areas)
    (dead : areas_of old.spaces.processes child ≡ None) (turn : GoInTurn old.spaces old.anons child (areas_to_fork areas)) where
  abbrev k : Lineage
  k = kin_now old.spaces old.anons

  abbrev first : Rmap
  first = before child (rmap_of s)

  -- ---- before

  bare_kin : (n : ℕ) → option_map kin_in (k.info n) ≡ option_map kin_of (s.anons.anon n)
  bare_kin n = by (info_of old.anons n) ∙ keeps.stands.anons.kin n
    where
      by : (o : Option Info) → option_map kin_in o ≡ option_map kin_of (option_map (anon_vma (in_spaces.chain_by old.spaces old.anons (Some n))) o)
      by None = refl
      by (Some i) = refl

  same_chain : (spaces : AllSpaces) (anons : AnonSet) (own : Option ℕ) → chain_in (kin_now spaces anons) own ≡ in_spaces.chain_by spaces anons own
  same_chain spaces anons None = refl
  same_chain spaces anons (Some v) = refl

  bare_chain : (p page : ℕ) → IfSome (s.areas p page) (λ area. chain_in k area.anon ≡ chain_by s.anons area.anon)
  bare_chain p page = by (s.areas p page) refl
    where
      by : (o : Option Area) → s.areas p page ≡ o → IfSome o (λ area. chain_in k area.anon ≡ chain_by s.anons area.anon)
      by None is = tt
      by (Some area) is =
          same_chain old.spaces old.anons area.anon
          ∙ area_chain d old s keeps old.spaces old.anons (stay_same old.spaces old.anons keeps.anons) p page area (keeps.stands.areas p page ∙ is)

  at_first : Reaches old.spaces old.anons child first []
  at_first = record {
    next = first;
    goes = refl;
    shows = λ spaces spawned. record {
      areas = λ p page. ap (λ o. pages_in o page) (spawned.areas p) ∙ on p page (p == child);
      next = keeps.stands.anons.next;
      kin = bare_kin;
      chains = λ p page. chains p page (p == child);
    };
  }
    where
      on : (p page : ℕ) (b : Bool) → pages_in (cond b (Some []) (areas_of old.spaces.processes p)) page ≡ (cond b none_on (s.areas p)) page
      on p page true = refl
      on p page false = keeps.stands.areas p page

      chains : (p page : ℕ) (b : Bool) → IfSome ((cond b none_on (s.areas p)) page) (λ area. chain_in k area.anon ≡ chain_by s.anons area.anon)
      chains p page true = tt
      chains p page false = bare_chain p page

  -- ---- the parent's

  parent_lives : (parent == child) ≡ false
  parent_lives = ne_eqb parent child (λ e. no (sym there ∙ ap (areas_of old.spaces.processes) e ∙ dead))
    where
      no : Some areas ≡ None → ⊥
      no e = cc

  apart : AreApart (map range_of areas)
  apart = subst (λ o. IfSome (option_map (map range_of) o) AreApart) there (keeps.stands.parts.areas.apart parent)

  parent_keeps : (spaces : Spaces) (these : List Area) → IsSpawned old.spaces.processes spaces child these → areas_of spaces parent ≡ Some areas
  parent_keeps spaces these spawned = spawned.areas parent ∙ ap (λ b. cond b (Some these) (areas_of old.spaces.processes parent)) parent_lives ∙ there

  child_has : (spaces : Spaces) (these : List Area) → IsSpawned old.spaces.processes spaces child these → areas_of spaces child ≡ Some these
  child_has spaces these spawned = spawned.areas child ∙ ap (λ b. cond b (Some these) (areas_of old.spaces.processes child)) (itself child)
    where
      itself : (n : ℕ) → (n == n) ≡ true
      itself n = grind (arith, nat_tests)

  child_apart : (spaces : Spaces) (these : List Area) → IsSpawned old.spaces.processes spaces child these → AreApart (map range_of these)
  child_apart spaces these spawned = subst (λ o. IfSome (option_map (map range_of) o) AreApart) (child_has spaces these spawned)
      (all_apart spaces spawned.rising child)

  -- ---- one more

  module _ (done : List Area) (x : Area) (inside : pages_in (Some areas) (first_of x) ≡ Some x) (mid : AllSpaces) (a : AnonSet)
      (f : IsForked old.spaces old.anons mid a child done)
      (h : Reaches old.spaces old.anons child first done) where
    shows_now : Shows mid.processes (kin_now mid a) h.next
    shows_now = subst (λ k. Shows mid.processes k h.next) (sym f.kin) (h.shows mid.processes f.spawned)

    itself_owns : (v : ℕ) → own_to_fork x ≡ Some v → x.anon ≡ Some v
    itself_owns v = by x.flags.wipe_on_fork
      where
        by : (b : Bool) → cond b None x.anon ≡ Some v → x.anon ≡ Some v
        by true e = absurd cc
        by false e = e

    x_owns : (v : ℕ) → own_to_fork x ≡ Some v → IsOwnedIn mid v
    x_owns v own = (
      parent,
      first_of x,
      subst (λ o. IsSomeAnd o (λ area. area.anon ≡ Some v))
          (sym (ap (λ o. pages_in o (first_of x)) (parent_keeps mid.processes _ f.spawned) ∙ inside)) (itself_owns v own),
    )

    on : GoesOn (kin_now mid a) child x h.next (own_to_fork x)
    on = goes_on mid a f.fit h.next shows_now child x x_owns

    -- the child has one area more
    one_more : (spaces : Spaces) → IsSpawned old.spaces.processes spaces child (areas_in_child child (done ++ x ∷ []) k)
        → (p page : ℕ) → areas_on spaces p
        page ≡ (with_child_area child (own_in_child (own_to_fork x) (kin_now mid a)) x h.next).areas p page
    one_more spaces spawned p page = by (p == child) refl
      where
        list : areas_in_child child (done ++ x ∷ []) k ≡ areas_in_child child done k ++ area_in_child child (kin_now mid a) x ∷ []
        list = areas_in_child-more child done x k ∙ ap (λ k'. areas_in_child child done k ++ area_in_child child k' x ∷ []) (sym f.kin)

        by : (b : Bool) → (p == child) ≡ b
            → areas_on spaces p page ≡ (cond b (with_area (area_in_child child (kin_now mid a) x) (h.next.areas child)) (h.next.areas p)) page
        by true e =
            ap (λ n. areas_on spaces n page) (eqb-true p child e)
            ∙ ap (λ o. pages_in o page) (child_has spaces _ spawned ∙ ap Some list)
            ∙ last_over (areas_in_child child done k) (area_in_child child (kin_now mid a) x) page
            (subst (λ l. AreApart (map range_of l)) list (child_apart spaces _ spawned))
            ∙ ap (λ o. cond (has_page x page) (Some (area_in_child child (kin_now mid a) x)) o)
            (ap (λ o. pages_in o page) (sym (child_has mid.processes _ f.spawned)) ∙ shows_now.areas child page)
        by false e =
            ap (λ o. pages_in o page)
            (spawned.areas p ∙ ap (λ b. cond b (Some (areas_in_child child (done ++ x ∷ []) k)) (areas_of old.spaces.processes p)) e)
            ∙ sym (ap (λ o. pages_in o page)
            (f.spawned.areas p ∙ ap (λ b. cond b (Some (areas_in_child child done k)) (areas_of old.spaces.processes p)) e))
            ∙ shows_now.areas p page

    reaches_more : Reaches old.spaces old.anons child first (done ++ x ∷ [])
    reaches_more = record {
      next = on.next;
      goes = more_over child done x first h.next on.next h.goes on.goes;
      shows = λ spaces spawned. subst (λ k. Shows spaces k on.next)
          (ap (kin_with (own_to_fork x)) f.kin ∙ sym (kin_after-more done x k)) (on.shows spaces (one_more spaces spawned));
    }

  -- ---- all of them

  abbrev going : List Area
  going = areas_to_fork areas

  reaches : (n : ℕ) → Reaches old.spaces old.anons child first (take n going)
  reaches zero = at_first
  reaches (suc n) = by (cases_lt n (length going)) (reaches n)
    where
      by : (n < length going) ⊎ (length going ≤ n) → Reaches old.spaces old.anons child first (take n going)
          → Reaches old.spaces old.anons child first (take (suc n) going)
      by (inl inside) h =
          let m = turn n in
          let e : n + 1 ≡ suc n = omega arith in
          subst (Reaches old.spaces old.anons child first) (sym (take_more going n none inside) ∙ ap (λ n. take n going) e)
          (reaches_more (take n going) (get_or going n none) (on_first areas n apart inside) m.0 m.1 m.2 h)
      by (inr outside) h =
          subst (Reaches old.spaces old.anons child first) (take_all n going outside ∙ sym (take_all (suc n) going (omega (arith, outside)))) h

  all_reach : Reaches old.spaces old.anons child first going
  all_reach = subst (Reaches old.spaces old.anons child first) (take_all (length going) going (omega arith)) (reaches (length going))

  module _ (new : Mem) (f : IsForked old.spaces old.anons new.spaces new.anons child going) where
    abbrev next : Rmap
    next = all_reach.next

    shows : Shows new.spaces.processes (kin_now new.spaces new.anons) next
    shows = subst (λ k. Shows new.spaces.processes k next) (sym f.kin) (all_reach.shows new.spaces.processes f.spawned)

    forked : AreForked parent child (rmap_of s) next
    forked = (areas, apart, λ page. ap (λ o. pages_in o page) (sym there) ∙ keeps.stands.areas parent page, all_reach.goes)

    anons_stand : AnonsStand (view new) next.areas next.anons
    anons_stand = record {
      next = shows.next;
      kin = λ n. by n (info_of new.anons n) ∙ shows.kin n;
      chains = λ p page. chain_at p page (next.areas p page) refl (shows.chains p page);
    }
      where
        by : (n : ℕ) (o : Option Info)
            → option_map kin_of (option_map (anon_vma (in_spaces.chain_by new.spaces new.anons (Some n))) o) ≡ option_map kin_in o
        by n None = refl
        by n (Some i) = refl

        chain_at : (p page : ℕ) (o : Option Area) → next.areas p page ≡ o
            → IfSome o (λ area. chain_in (kin_now new.spaces new.anons) area.anon ≡ chain_by next.anons area.anon)
            → IfSome o (λ area. chain_by (view new).anons area.anon ≡ chain_by next.anons area.anon)
        chain_at p page None is h = tt
        chain_at p page (Some area) is h = own area.anon refl ∙ h
          where
            own : (own : Option ℕ) → area.anon ≡ own → chain_by (view new).anons own ≡ chain_in (kin_now new.spaces new.anons) own
            own None e = refl
            own (Some v) e = shown_chain new.spaces new.anons v (owned_there new.spaces new.anons f.fit v
                (p, page, subst (λ o. IsSomeAnd o (λ area. area.anon ≡ Some v)) (sym (shows.areas p page ∙ is)) e))

    pub has_fork : new.frames ≡ old.frames → new.items ≡ old.items → HasFork old new parent child s
    has_fork same_frames same_items = record {
      next = next;
      forked = forked;
      areas = shows.areas;
      anons = anons_stand;
      homes = λ g. ap (λ frames. (shown frames).home g) same_frames ∙ keeps.stands.homes g
          ∙ sym (ap (λ homes. homes g) (child-has parent child (rmap_of s) next forked).homes);
      items = λ g. ap (λ items. (view (record old { items = items })).items g) same_items ∙ keeps.stands.items g
          ∙ ap (λ (items : Items). cond (is_merged s.ledger g) (items g) []) (sym (over_items child going first next all_reach.goes));
      fit = f.fit;
      these = areas_in_child child going k;
      spawned = f.spawned;
    }

-- by the parent's areas
pub has_fork_by : (d : Device) (old new : Mem) (s : State) (keeps : Keeps d old s) (parent child : ℕ) (areas : Option (List Area))
    → areas_of old.spaces.processes parent ≡ areas
    → areas_of old.spaces.processes child ≡ None → IsSomeAnd areas (λ areas. IsForked old.spaces old.anons new.spaces new.anons child (areas_to_fork areas))
    → IsSomeAnd areas (λ areas. GoInTurn old.spaces old.anons child (areas_to_fork areas)) → new.frames ≡ old.frames → new.items ≡ old.items
    → HasFork old new parent child s
has_fork_by d old new s keeps parent child None there dead f turn same items = absurd f
has_fork_by d old new s keeps parent child (Some areas) there dead f turn same items =
    has_fork d old s keeps parent child areas there dead turn new f same items

-- ---- the ledger

-- what stands for a ledger goes by frames and tables alone
ledger_beside : (d : Device) (old : Mem) (spaces : AllSpaces) (anons : AnonSet) (l : Ledger) → HasLedger d old l
    → HasLedger d (record old { spaces = spaces; anons = anons }) l
ledger_beside d old spaces anons l h = let parts = h.parts in let of = parts.frames in record {
  sound = h.sound;
  parts = record {
    frames = record { frames = of.frames; maps = of.maps; slots = of.slots; dirty = of.dirty; free = of.free };
    lists = record { active = parts.lists.active; inactive = parts.lists.inactive };
    tables = record { entries = parts.tables.entries; write_bits = parts.tables.write_bits };
    swap = record { finds = parts.swap.finds; counts = parts.swap.counts; flight = parts.swap.flight; on = parts.swap.on };
  };
  lists = h.lists;
  items = h.items;
  there = h.there;
  swap = h.swap;
}

-- so it stays where these do
pub ledger_stays : (d : Device) (old new : Mem) (l : Ledger) → new ≡ record old { spaces = new.spaces; anons = new.anons } → HasLedger d old l
    → HasLedger d new l
ledger_stays d old new l rest h = subst (λ (k : Mem). HasLedger d k l) (sym rest) (ledger_beside d old new.spaces new.anons l h)
