-- A page goes out to a swap area and comes back.
use Rattle.av_plain.specs.Sound.{mergings}
use Rattle.std.proofs.Common.{◌≡◌, inl, inr, ℕ, ◌+◌, ◌<◌, ◌≤◌, Bool, true, false, cond, ◌&&◌, ◌||◌, [], ◌∷◌, ◌++◌, Option, Some, None, option_map, refl, sym, ap, subst, ◌∙◌, arith, ◌==◌}
use Rattle.std.proofs.lemmas.Bool.Decides.{nat_tests}
use Rattle.std.proofs.lemmas.Bool.{false≢true}
use Rattle.std.specs.Prelude.{IfSome, IsSome, IsSomeAnd, option_and_then}
use Rattle.std.specs.Option.{option_map_or}
use Rattle.std.specs.Ordering.{nat_cmp, eq_by_cmp}
use Rattle.std.specs.FinMap.Entries.{find}
use Rattle.av_base.specs.Keys.{Key, same_key}
use Rattle.av_base.proofs.Keys.{same_key-is}
use Rattle.av_base.specs.Page.{address_of, page_of}
use Rattle.av_base.specs.Words.{how_many, is_in, with_at}
use Rattle.av_base.specs.declared.slot.Slot.{Slot}
use Rattle.av_clusters.specs.Clusters.{fresh, take_slot}
use Rattle.av_vma.specs.declared.area.Area.{Area}
use Rattle.av_trace.specs.declared.note.Note.TheVariants.{Dropped, Loaded, Mapped, Put, Started, Unmapped, Written}
use Rattle.av_plain.specs.Areas.{chain_by, home_for, rmap_after_note, root_anon}
use Rattle.av_trace.specs.Row.{AreRising}
use Rattle.av_plain.specs.Choice.{AreaSlots, no_slots}
use Rattle.av_plain.specs.Event.{Noted, after_note}
use Rattle.av_plain.specs.Covered.{IsKin, IsOfSlot, IsReached}
use Rattle.av_plain.specs.Ledger.{Cached, Entry, HasNumbers, SwapArea, is_free, InFrame, Ledger, entry, keys_of_slot, names_frame, names_slot, same_slot, map_count}
use Rattle.av_plain.specs.Stands.{BytesStand, IsKept, LedgerStands, Pte, entry_of}
use Rattle.av_plain.specs.World.{Holds}
use Rattle.av_plain.specs.World.{Page, Process, pages, zeros}
use Rattle.av_swap_laws.specs.Example.{GoesOutAndComesBack, at_start, first_slot, in_frame, read_only, read_write, small, the_area, the_page, the_rmap, the_view, the_world, untold}
use Rattle.av_swap_laws.specs.Held.{AllCovered, Held, IsHeld, Steps}
use Rattle.av_swap_laws.specs.May.{AreOnce}
use Rattle.av_swap_laws.specs.Steps.{view_done, view_drop, view_load, view_map, view_put, view_start, view_unmap}
use Rattle.av_plain.specs.Load.{with_loads}
use Rattle.av_swap_laws.proofs.Parts.{none-some, some-is}
use Rattle.av_swap_laws.proofs.Whole.{done-steps, drop-steps, put-steps, start-steps, unmap-steps}
use Rattle.av_swap_laws.proofs.WholePages.{load-steps, map-steps}

-- ---- at the start

at_first : (f : ℕ) → f < 1 → f ≡ 0
at_first f h = omega (arith, h)

tables : (o : Option Entry) → entry_of (option_map read_only o) ≡ o
tables None = refl
tables (Some e) = refl

no_bit : (o : Option Entry) (t : Pte) → option_map read_only o ≡ Some t → t.write ≡ true → ⊥
no_bit None t e h = none-some t e
no_bit (Some d) t e h = false≢true (ap (λ (t : Pte). t.write) (some-is _ t e) ∙ h)

ledger-stands : LedgerStands small the_view in_frame
ledger-stands = record {
  frames = record {
    frames = refl;
    maps = λ f. refl;
    slots = λ f. refl;
    dirty = λ f. tt;
    free = λ f below. subst (λ f. is_in f [] ≡ is_free in_frame f) (sym (at_first f below)) refl;
  };
  lists = record { active = refl; inactive = refl };
  tables = record {
    entries = λ p page. tables (entry in_frame (p, page));
    write_bits = λ p page t f there writes names. absurd (no_bit (entry in_frame (p, page)) t there writes);
  };
  swap = record { finds = λ s. refl; counts = λ s. refl; flight = refl; on = refl };
}

-- the page claims zeros
zero-page : (a b : Bool) → Holds (option_and_then (λ (q : Process). q the_page)
    (cond a (Some (λ page. cond b (Some (zeros read_write)) None)) None)) (λ _. 0)
zero-page true true = λ i below. refl
zero-page true false = tt
zero-page false b = tt

zero-pages : (p page : ℕ) → Holds (pages the_world p page) (λ _. 0)
zero-pages p page = by (eq_by_cmp nat_cmp p 1)
  where
    one : (b : Bool) → Holds (cond b (Some (zeros read_write)) None) (λ _. 0)
    one true = λ i below. refl
    one false = tt

    by : (a : Bool) → Holds (option_and_then (λ (q : Process). q page)
        (cond a (Some (λ page. cond (page == the_page) (Some (zeros read_write)) None)) None))
        (λ _. 0)
    by true = one (page == the_page)
    by false = tt

bytes-stand : BytesStand the_view untold the_world in_frame
bytes-stand = record {
  kept = λ p page. by (same_key (p, page) (1, the_page)) (pages the_world p page) (zero-pages p page);
  clean = λ s fresh low. tt;
}
  where
    by : (b : Bool) (q : Option Page) → Holds q (λ _. 0) → IsKept the_view untold in_frame (cond b (Some (InFrame 0 true)) None) q
    by true q h = h
    by false q h = h

-- the only area is at the only page
on-page : (p page : ℕ) (P : Area → Type 0) → IsSomeAnd (the_rmap.areas p page) P → P the_area
on-page p page P h = by (p == 1 && page == the_page) h
  where
    by : (b : Bool) → IsSomeAnd (cond b (Some the_area) None) P → P the_area
    by true h = h
    by false h = absurd h

own-is : (p page v : ℕ) → IsSomeAnd (the_rmap.areas p page) (λ area. area.anon ≡ Some v) → 0 ≡ v
own-is p page v h = some-is 0 v (on-page p page (λ area. area.anon ≡ Some v) h)

no-slot : (s : Slot) (k : Key) → IsOfSlot in_frame s k → ⊥
no-slot s k h = by (same_key k (1, the_page)) h
  where
    by : (b : Bool) → IsSomeAnd (cond b (Some (InFrame 0 true)) None) (λ e. names_slot s e ≡ true) → ⊥
    by true n = false≢true n
    by false n = n

all-covered : AllCovered in_frame the_rmap
all-covered = record {
  frames = record {
    made = λ v there. made v (v == 0) refl there;
    rising = λ v. rising v (v == 0);
    own = λ p page v is. subst (λ v. is_in v (chain_by the_rmap.anons (Some v)) ≡ true) (own-is p page v is) refl;
    covered = λ k f names own. covered k f (same_key k (1, the_page)) refl names;
  };
  slots = record {
    kin = λ p page v is. subst (λ v. IsSomeAnd (the_rmap.anons.anon v) (IsKin the_rmap.anons)) (own-is p page v is)
        (record { root = refl; members = λ u among. member u (u == 0) refl among });
    rooted = λ s k q names other. absurd (no-slot s k names);
    cached = λ s k f at names. absurd (no-slot s k names);
  };
  merged = record {
    found = λ k f names is. absurd (false≢true is);
    once = λ f item is. absurd (false≢true is);
    roots = λ f item is. absurd (false≢true is);
    homeless = λ f is. absurd (false≢true is);
  };
}
  where
    made : (v : ℕ) (b : Bool) → (v == 0) ≡ b → IsSome (cond b (Some (root_anon 0)) None) → v < 1
    made v true e h = let same : v ≡ 0 = grind (arith, nat_tests, e) in omega (arith, same)
    made v false e h = absurd (false≢true h)

    rising : (v : ℕ) (b : Bool) → IfSome (cond b (Some (root_anon 0)) None) (λ anon. AreRising (anon.chain ++ 1 ∷ []))
    rising v true = (omega arith, tt)
    rising v false = tt

    member : (u : ℕ) (b : Bool) → (u == 0) ≡ b → (b || false) ≡ true → IsSomeAnd (cond b (Some (root_anon 0)) None) (λ other. other.root ≡ 0)
    member u true e among = refl
    member u false e among = absurd (false≢true among)

    covered : (k : Key) (f : ℕ) (b : Bool) → same_key k (1, the_page) ≡ b
        → IsSomeAnd (cond b (Some (InFrame 0 true)) None) (λ e. names_frame f e ≡ true)
        → IsSomeAnd (Some (0, the_page)) (IsReached the_rmap k)
    covered k f true e n = subst (λ k. IsReached the_rmap k (0, the_page)) (sym (same_key-is k (1, the_page) e)) (refl, refl)
    covered k f false e n = absurd n

held : IsHeld small at_start
held = record {
  ledger = ledger-stands;
  bytes = bytes-stand;
  headers = λ k. by k (find nat_cmp k in_frame.on);
  covered = all-covered;
  homes = λ f. refl;
  items = λ f. refl;
}
  where
    by : (k : ℕ) (o : Option SwapArea) → IfSome o (λ area. IfSome small.headers (λ headers. IsSomeAnd (headers k) (HasNumbers area)))
    by k None = tt
    by k (Some area) = tt

-- ---- the steps

once-one : (l : Ledger) (c : Cached) → l.cache ≡ c ∷ [] → l.merged ≡ [] → AreOnce l
once-one l c e none = record {
  slots_once = λ s. subst (λ cs. how_many (λ (c : Cached). same_slot s c.slot) cs ≤ 1) (sym e) (few (same_slot s c.slot));
  frames_once = λ f. subst (λ n. n + mergings l f ≤ 1) (sym (ap (how_many (λ (c : Cached). f == c.frame)) e))
      (subst (λ n. (cond (f == c.frame) 1 0 + 0) + n ≤ 1) (sym (ap (how_many (λ g. f == g)) none)) (few' (f == c.frame)));
  merged = λ f. subst (λ n. n ≤ map_count l f) (sym (ap (how_many (λ g. f == g)) none)) (omega arith);
}
  where
    few : (b : Bool) → cond b 1 0 + 0 ≤ 1
    few true = omega arith
    few false = omega arith

    few' : (b : Bool) → (cond b 1 0 + 0) + 0 ≤ 1
    few' true = omega arith
    few' false = omega arith

once-none : (l : Ledger) → l.cache ≡ [] → l.merged ≡ [] → AreOnce l
once-none l e none = record {
  slots_once = λ s. subst (λ cs. how_many (λ (c : Cached). same_slot s c.slot) cs ≤ 1) (sym e) (omega arith);
  frames_once = λ f. subst (λ n. n + mergings l f ≤ 1) (sym (ap (how_many (λ (c : Cached). f == c.frame)) e))
      (subst (λ n. 0 + n ≤ 1) (sym (ap (how_many (λ g. f == g)) none)) (omega arith));
  merged = λ f. subst (λ n. n ≤ map_count l f) (sym (ap (how_many (λ g. f == g)) none)) (omega arith);
}

-- the slots that are left when the first one is given
abbrev left : AreaSlots
left = with_at 0 (option_map_or (λ t. t.1) (take_slot (fresh 8 [])) (fresh 8 [])) (with_at 0 (fresh 8 []) no_slots)

abbrev is_put : Held
is_put = record at_start { view = view_put 0 first_slot left the_view; ledger = after_note (Put 0 first_slot) in_frame }

put-step : Steps small None (Noted (Put 0 first_slot)) at_start is_put
put-step = put-steps small None at_start held 0 first_slot left (record { absent = refl; unnamed = refl; unmerged = refl; used = omega arith }) (refl, (refl, refl))

abbrev is_unmapped : Held
is_unmapped = record is_put { view = view_unmap 0 first_slot is_put.view; ledger = after_note (Unmapped 0) is_put.ledger }

unmap-step : Steps small None (Noted (Unmapped 0)) is_put is_unmapped
unmap-step = unmap-steps small None is_put put-step.held 0 first_slot
    (once-one is_put.ledger (record { slot = first_slot; frame = 0; stale = true }) refl refl) refl

abbrev is_started : Held
is_started = record is_unmapped { view = view_start 0 first_slot is_unmapped.view; ledger = after_note (Started first_slot) is_unmapped.ledger }

start-step : Steps small None (Noted (Started first_slot)) is_unmapped is_started
start-step = start-steps small None is_unmapped unmap-step.held 0 first_slot
    (once-one is_unmapped.ledger (record { slot = first_slot; frame = 0; stale = true }) refl refl) refl

abbrev is_written : Held
is_written = record is_started {
  view = view_done 0 first_slot is_started.view;
  device = untold;
  ledger = after_note
      (Written first_slot) is_started.ledger;
}

done-step : Steps small None (Noted (Written first_slot)) is_started is_written
done-step = done-steps small None is_started start-step.held 0 first_slot
    (once-one is_started.ledger (record { slot = first_slot; frame = 0; stale = false }) refl refl) refl untold [] refl (λ i below. refl)

abbrev is_dropped : Held
is_dropped = record is_written { view = view_drop 0 first_slot is_written.view; ledger = after_note (Dropped first_slot) is_written.ledger }

drop-step : Steps small None (Noted (Dropped first_slot)) is_written is_dropped
drop-step = drop-steps small None is_written done-step.held 0 first_slot
    (once-one is_written.ledger (record { slot = first_slot; frame = 0; stale = false }) refl refl) refl (omega arith) refl (inr (refl, refl))

abbrev is_loaded : Held
is_loaded = record is_dropped {
  view = view_load 0 first_slot [] (λ i. 0) (home_for the_rmap (keys_of_slot is_dropped.ledger first_slot)) is_dropped.view;
  world = with_loads small the_world is_dropped.ledger (Noted (Loaded first_slot 0) ∷ []);
  ledger = after_note (Loaded first_slot 0) is_dropped.ledger;
  rmap = rmap_after_note is_dropped.ledger (Loaded first_slot 0) the_rmap;
}

load-step : Steps small None (Noted (Loaded first_slot 0)) is_dropped is_loaded
load-step = load-steps small None is_dropped drop-step.held 0 first_slot [] (λ i. 0) tt (once-none is_dropped.ledger refl refl)
    (record { absent = refl; free = refl }) (record { sizes = refl; headers = refl }) refl refl tt

abbrev is_mapped : Held
is_mapped = record is_loaded {
  view = view_map 1 (page_of (address_of the_page)) 0 first_slot is_loaded.view;
  ledger = after_note (Mapped 1 (address_of the_page) 0) is_loaded.ledger;
}

map-step : Steps small None (Noted (Mapped 1 (address_of the_page) 0)) is_loaded is_mapped
map-step = map-steps small None is_loaded load-step.held 1 (address_of the_page) 0 first_slot tt
    (once-one is_loaded.ledger (record { slot = first_slot; frame = 0; stale = false }) refl refl) refl refl

abbrev is_again : Held
is_again = record is_mapped { view = view_drop 0 first_slot is_mapped.view; ledger = after_note (Dropped first_slot) is_mapped.ledger }

again-step : Steps small None (Noted (Dropped first_slot)) is_mapped is_again
again-step = drop-steps small None is_mapped map-step.held 0 first_slot
    (once-one is_mapped.ledger (record { slot = first_slot; frame = 0; stale = false }) refl refl) refl (omega arith) refl (inl refl)

pub goes-out : GoesOutAndComesBack
goes-out = (
  held,
  is_put,
  put-step,
  is_unmapped,
  unmap-step,
  is_started,
  start-step,
  is_written,
  done-step,
  is_dropped,
  drop-step,
  is_loaded,
  load-step,
  is_mapped,
  map-step,
  is_again,
  again-step,
  again-step.held,
)
