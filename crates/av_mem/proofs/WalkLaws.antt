-- What a walk needs holds of whatever the memory system stands for, and what it finds are the ledger's keys of the frame, or of the slot.
use Rattle.std.proofs.Common.{◌≡◌, ℕ, ◌+◌, ◌<◌, ◌≤◌, Bool, true, false, cond, T, List, [], ◌∷◌, length, map, filter, Option, Some, None, is_some, Result, Ok, Err, refl, sym, ap, subst, ◌∙◌, arith}
use Rattle.std.specs.Prelude.{IfOk, OnOk}
use Rattle.std.proofs.lemmas.Bool.{false≢true}
use Rattle.std.proofs.lemmas.Bool.Decides.{nat_tests}
use Rattle.std.specs.List.{AllByRecursion}
use Rattle.std.specs.FinMap.Entries.{below_all, is_sorted}
use Rattle.std.specs.Ordering.{is_lt}
use Rattle.av_base.specs.Keys.{Key, key_cmp}
use Rattle.av_base.specs.Limits.{top_page}
use Rattle.av_base.specs.Words.{how_many}
use Rattle.av_base.specs.declared.slot.Slot.{Slot}
use Rattle.av_chain.specs.Links.{one_if}
use Rattle.av_vma.specs.declared.area.Area.{Area}
use Rattle.av_vma.specs.Areas.{area_of}
use Rattle.av_pagetable.specs.declared.pte.Pte.{Pte}
use Rattle.av_pagetable.specs.Entries.{entry_at}
use Rattle.av_anon.specs.Anons.{family}
use Rattle.av_anon.specs.Spans.{spans_of}
use Rattle.av_spaces.specs.Spaces.{AllRising, AreNumbered, pages_of}
use Rattle.av_spaces.proofs.Rising.{laid}
use Rattle.av_rmap.specs.View.{AreApart, AreSpanned, View as Reach, view_with}
use Rattle.av_rmap.specs.Items.{AreCovered, AreRootsApart, is_merged, looks_from_all}
use Rattle.av_rmap.specs.Sorted.{AreRising, IsBefore}
use Rattle.av_rmap.specs.Walk.{AreItsEntries, looks_from, names_frame, names_slot}
use Rattle.av_rmap.proofs.Counting.{keys-as-long}
use Rattle.av_rmap.proofs.LinkedAreas.{spans-are-areas}
use Rattle.av_rmap.proofs.MergedLemmas.{roots-apart}
use Rattle.av_rmap.proofs.SortedLemmas.{below-before, once-there, rising-same}
use Rattle.av_plain.specs.Device.{Device}
use Rattle.av_plain.specs.Areas.{Rmap}
use Rattle.av_plain.specs.Ledger.{Entry, Ledger, entry, keys_of_slot, names_frame as names, names_slot as in_slot, walk}
use Rattle.av_plain.specs.Sound.{AtPages}
use Rattle.av_plain.specs.Stands.{AreasStand}
use Rattle.av_plain.specs.World.{World, pages}
use Rattle.av_plain.specs.Transcript.{State, rmap_of}
use Rattle.av_plain.proofs.Ledger.Order.{both_first, both_second}
use Rattle.av_plain.proofs.Ledger.Walk.{all-listed, keys-filter, length-keys, passes}
use Rattle.av_mem.specs.declared.mem.Mem.{Mem}
use Rattle.av_mem.specs.Mem.{Keeps, Serves, view}
use Rattle.av_mem.specs.Chains.{AreCounted, AreReached, places_at_home, reach}
use Rattle.av_mem.specs.Walk.{areas_at, areas_at_all}
use Rattle.av_mem.proofs.MemLaws.{mapped_is, taken_has}
use Rattle.av_mem.proofs.ReachLaws.{Reaches, SaysAs, are-found, are-reached, are-roots, frame-says, passes-there, reaches-kept, reaches-served, slot-says}

-- ---- the walk of the ledger rises

is_true : (b : Bool) → T b → b ≡ true
is_true true h = refl
is_true false h = absurd h

-- the keys of the entries that pass a test
abbrev keys_of : (Entry → Bool) → List (Key × Entry) → List Key
keys_of p es = map (λ e. e.0) (filter (λ e. p e.1) es)

below-all : (p : Entry → Bool) (k : Key) (es : List (Key × Entry)) → T (below_all key_cmp k es) → AllByRecursion (IsBefore k) (keys_of p es)
below-all p k [] h = tt
below-all p k (e ∷ es) h = by (p e.1) (below-all p k es (both_second _ _ h))
  where
    by : (b : Bool) → AllByRecursion (IsBefore k) (keys_of p es) → AllByRecursion (IsBefore k)
        (map (λ e. e.0) (cond b (e ∷ filter (λ e. p e.1) es) (filter (λ e. p e.1) es)))
    by true rest = (below-before k e.0 (is_true (is_lt (key_cmp k e.0)) (both_first _ _ h)), rest)
    by false rest = rest

keys-rise : (p : Entry → Bool) (es : List (Key × Entry)) → T (is_sorted key_cmp es) → AreRising (keys_of p es)
keys-rise p [] h = tt
keys-rise p (e ∷ es) h = by (p e.1) (keys-rise p es (both_second _ _ h))
  where
    by : (b : Bool) → AreRising (keys_of p es) → AreRising (map (λ e. e.0) (cond b (e ∷ filter (λ e. p e.1) es) (filter (λ e. p e.1) es)))
    by true rest = (below-all p e.0 es (both_first _ _ h), rest)
    by false rest = rest

-- ---- the entries that a walk finds

-- the list of those that a test of the ledger's entries passes, by a test of the table's that says the same
module _ (k : Mem) (r : Rmap) (l : Ledger) (h : Reaches k r l) (sorted : T (is_sorted key_cmp l.entries)) (test : Pte → Bool) (p : Entry → Bool)
    (says : SaysAs test p) where
  its : AreItsEntries (reach k) test (keys_of p l.entries)
  its q = once-there q (keys_of p l.entries) (keys-rise p l.entries sorted)
      ∙ ap one_if (keys-filter p l.entries q sorted ∙ sym (passes-there k r l h test p says q))

  -- each list of them is as long as how many pass
  many : (n : ℕ) → n ≡ how_many (λ e. p e.1) l.entries → (keys : List Key) → AreItsEntries (reach k) test keys → length keys ≡ n
  many n is keys also = keys-as-long keys (keys_of p l.entries) (λ q. also q ∙ sym (its q)) ∙ length-keys p l.entries ∙ sym is

  few : (n : ℕ) → n ≡ how_many (λ e. p e.1) l.entries → (keys : List Key) → AreItsEntries (reach k) test keys → length keys ≤ n
  few n is keys also = let same = many n is keys also in omega (arith, same)

  -- one that rises is that list
  found : (keys : List Key) → AreItsEntries (reach k) test keys → AreRising keys → keys ≡ keys_of p l.entries
  found keys also rising = rising-same keys (keys_of p l.entries) rising (keys-rise p l.entries sorted) (λ q. also q ∙ sym (its q))

-- each that passes has a page below the top
module _ (k : Mem) (w : World) (l : Ledger) (covers : AreasStand (view k) w) (at_pages : AtPages w l) (rising : AllRising k.spaces.processes) where
  mapped_below : (q : Key) → is_some (entry l q) ≡ true → q.1 < top_page
  mapped_below q is =
      by (pages_of k.spaces.processes q.0 q.1) refl (taken_has k.spaces.processes q.0 q.1 ∙ ap is_some (covers.covers q.0 q.1)
      ∙ mapped_is (pages w q.0 q.1) ∙ at_pages q.0 q.1 is)
    where
      by : (o : Option Area) → pages_of k.spaces.processes q.0 q.1 ≡ o → is_some o ≡ true → q.1 < top_page
      by None e h = absurd (false≢true h)
      by (Some area) e h =
          let areas = laid k.spaces.processes q.0 rising in
          let here = areas.here q.1 area e in
          let whole = areas.whole q.1 area e in
          let high = whole.high in
          grind (arith, nat_tests, here, high)

  below : (p : Entry → Bool) → T (is_sorted key_cmp l.entries) → AllByRecursion (λ (q : Key). q.1 < top_page) (keys_of p l.entries)
  below p sorted = all-listed (λ q. q.1 < top_page) (keys_of p l.entries) (λ q is. mapped_below q
      (there (entry l q) (sym (keys-filter p l.entries q sorted) ∙ is)))
    where
      there : (o : Option Entry) → passes p o ≡ true → is_some o ≡ true
      there None h = absurd (false≢true h)
      there (Some e) h = refl

-- ---- the premises of a walk

-- what a walk reads of the memory system, with these areas by number
abbrev pub reach_by : Mem → List (Option Area) → Reach
reach_by k areas = view_with (area_of areas) (family k.anons) (spans_of k.anons) (entry_at k.tables)

module _ (d : Device) (k : Mem) (s : State) (keeps : Keeps d k s) where
  pub spanned : AreSpanned (reach k)
  spanned = record { spanned = keeps.anons.order.spanned; areas_fit = keeps.anons.order.areas_fit }

  pub apart : AreNumbered k.spaces → AreApart (reach k)
  apart numbered a b page A B is also same here there = numbered.apart A.pid page a b A B
      (record { at = is; process = refl; here = here }) (record { at = also; process = sym same; here = there })

  reaching : Reaches k (rmap_of s) s.ledger
  reaching = reaches-kept d k s keeps

  in_order : T (is_sorted key_cmp s.ledger.entries)
  in_order = keeps.stands.sound.ledger.in_order

  -- from its home each of the frame's entries is reached, where it isn't merged; without one it has none
  pub covered : (f : ℕ) → is_merged ((view k).items f) ≡ false → AreReached k f
  covered = are-reached k (rmap_of s) s.ledger reaching

  -- from its items, where it is, which are at roots
  pub found-merged : AreNumbered k.spaces → (f : ℕ) → is_merged ((view k).items f) ≡ true
      → AreCovered (reach k) (names_frame f) ((view k).items f)
  found-merged numbered f is = subst (λ b. AreCovered (reach k) (names_frame f) (cond b ((view k).items f) (places_at_home ((view k).homes f)))) is
      (are-found k (rmap_of s) s.ledger reaching f numbered)

  pub roots-apart-of : (f : ℕ) → AreRootsApart (reach k) ((view k).items f)
  roots-apart-of f = roots-apart (area_of k.spaces.areas) (family k.anons) (spans_of k.anons) (entry_at k.tables) ((view k).items f)
      keeps.anons.order (are-roots k (rmap_of s) s.ledger reaching f)

  -- it finds no more than the frame's count
  pub frame-few : (f : ℕ) (keys : List Key) → AreItsEntries (reach k) (names_frame f) keys → length keys ≤ (view k).maps f
  frame-few f = few k (rmap_of s) s.ledger reaching in_order (names_frame f) (names f) (frame-says f) ((view k).maps f)
      (keeps.stands.parts.ledger.frames.maps f)

  pub frame-found : (f : ℕ) (keys : List Key) → AreItsEntries (reach k) (names_frame f) keys → AreRising keys → keys ≡ walk s.ledger f
  frame-found f = found k (rmap_of s) s.ledger reaching in_order (names_frame f) (names f) (frame-says f)

  -- and each is at a page below the top
  pub frame-below : AllRising k.spaces.processes → (f : ℕ) → AllByRecursion (λ (q : Key). q.1 < top_page) (walk s.ledger f)
  frame-below rising f = below k s.world s.ledger keeps.stands.parts.areas keeps.stands.sound.at_pages rising (names f) in_order

  -- it looks once in each area that is linked and holds the index
  pub looks : (f : ℕ) → looks_from (reach k) ((view k).homes f) ≡ areas_at k ((view k).homes f)
  looks f = by ((view k).homes f)
    where
      by : (o : Option (ℕ × ℕ)) → looks_from (reach k) o ≡ areas_at k o
      by None = refl
      by (Some home) = spans-are-areas (area_of k.spaces.areas) (family k.anons) (spans_of k.anons) home.0 home.1 keeps.anons.order

  pub looks-all : (items : List (ℕ × ℕ)) → looks_from_all (reach k) items ≡ areas_at_all k items
  looks-all [] = refl
  looks-all (x ∷ items) = λ i. spans-are-areas (area_of k.spaces.areas) (family k.anons) (spans_of k.anons) x.0 x.1 keeps.anons.order i
      + looks-all items i

-- so it is within a command, of the entries of a frame and of a slot
module _ (d : Device) (closing : Option ℕ) (k : Mem) (w : World) (r : Rmap) (l : Ledger) (sorted : T (is_sorted key_cmp l.entries))
    (serves : Serves d closing k w r l) where
  pub are-counted : (f : ℕ) → AreCounted k f
  are-counted f = many k r l (reaches-served d closing k w r l serves) sorted (names_frame f) (names f) (frame-says f) ((view k).maps f)
      (serves.held.ledger.frames.maps f)

module _ (d : Device) (closing : Option ℕ) (k : Mem) (w : World) (r : Rmap) (l : Ledger) (sorted : T (is_sorted key_cmp l.entries))
    (serves : Serves d closing k w r l) (s : Slot) where
  pub slot-few : (keys : List Key) → AreItsEntries (reach k) (names_slot s) keys → length keys ≤ (view k).entries s
  slot-few = few k r l (reaches-served d closing k w r l serves) sorted (names_slot s) (in_slot s) (slot-says s) ((view k).entries s)
      (serves.held.ledger.swap.counts s)

  pub slot-found : (keys : List Key) → AreItsEntries (reach k) (names_slot s) keys → AreRising keys → keys ≡ keys_of_slot l s
  slot-found = found k r l (reaches-served d closing k w r l serves) sorted (names_slot s) (in_slot s) (slot-says s)

  pub slot-below : AllRising k.spaces.processes → AllByRecursion (λ (q : Key). q.1 < top_page) (keys_of_slot l s)
  slot-below rising = below k w l serves.areas serves.at_pages rising (in_slot s) sorted

-- ---- results

pub if_both : {X E : Type 0} (r : Result X E) (P Q R : X → Type 0) → ((x : X) → P x → Q x → R x) → IfOk r P → IfOk r Q → IfOk r R
if_both (Ok x) P Q R h p q = h x p q
if_both (Err e) P Q R h p q = tt

pub on_ok : {X E : Type 0} (r : Result X E) {P Q : Type 0} → (P → Q) → OnOk r P → OnOk r Q
on_ok (Ok x) h p = h p
on_ok (Err e) h p = tt
