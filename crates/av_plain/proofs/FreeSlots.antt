-- The slots of each area are listed as the ledger has them, after each event: a page is taken where its slot is in use, and only slots are free.
use Rattle.std.proofs.Common.{◌≡◌, ◌⊎◌, inl, inr, ℕ, zero, suc, ◌+◌, ◌-◌, ◌<◌, ◌≤◌, Bool, true, false, cond, not, ◌&&◌, ◌||◌, nat_lt, nat_le, T, List, [], ◌∷◌, length, filter, fold, Option, Some, None, IfSome, is_some, count_by, refl, sym, ap, subst, ◌∙◌, arith, ◌==◌}
use Rattle.std.proofs.lemmas.Bool.{false≢true}
use Rattle.std.proofs.lemmas.Bool.Decides.{nat_tests}
use Rattle.std.specs.List.{range_with_len}
use Rattle.std.specs.Option.{option_map_or}
use Rattle.std.specs.Ordering.{eq_by_cmp, nat_cmp}
use Rattle.std.specs.Prelude.{IsSomeAnd, MatchOption}
use Rattle.std.specs.FinMap.Entries.{find, is_sorted}
use Rattle.av_base.specs.Keys.{Key, key_cmp}
use Rattle.av_base.specs.Words.{with_at, within}
use Rattle.av_base.specs.declared.slot.Slot.{Slot}
use Rattle.av_clusters.specs.declared.clusters.Page.{Page}
use Rattle.av_clusters.specs.declared.clusters.Page.TheVariants.{Free as FreePage, Taken, Unusable}
use Rattle.av_clusters.specs.Clusters.{Slots, is_free as is_free_page, is_taken, give_slot, page_at, take_slot}
use Rattle.av_clusters.proofs.Pages.{free_below}
use Rattle.av_clusters.proofs.Whole.{one_fewer}
use Rattle.av_trace.specs.declared.note.Note.{Note}
use Rattle.av_trace.specs.declared.note.Note.TheVariants.{Aged, Copied, Dropped, Failed, Kept, Loaded, Mapped, New, Put, Started, Unmapped, Written, Zeroed}
use Rattle.av_plain.specs.Choice.{AreaSlots, ChoosesAll, ChoosesSlot, Free, IsGiven, ListsSlots, new_free_slots, no_slots, slot_in_note, with_given_back}
use Rattle.av_plain.specs.Device.{AreLayouts}
use Rattle.av_plain.specs.Event.{TurnedOff, TurnedOn, after, after_move, after_note, after_notes, after_use, after_zap, note_events}
use Rattle.av_plain.specs.Ledger.{Ledger, Setting, SwapArea, entry, free_slots, is_cached, is_free_slot, is_on, is_usable, same_slot, size_of, slot_count, slot_entries, slots_in_use}
use Rattle.av_plain.specs.Sound.{AreThere, AreasFit, IsSound, count, is_there, slots}
use Rattle.av_plain.proofs.Clusters.{AreTaken, Gives, back-at, back-count, gives-one, set-at}
use Rattle.av_plain.proofs.Fork.{child_ledger}
use Rattle.av_plain.proofs.Fresh.{fresh-is}
use Rattle.av_plain.proofs.Sound.Counts.{same-is, same-itself, slot-is, slot-itself}
use Rattle.av_plain.proofs.Sound.Fork.{forked-no_new}
use Rattle.av_plain.proofs.Sound.Mremap.{moved-no_new}
use Rattle.av_plain.proofs.Sound.Swap.Area.{found-off, found-on, none-left, used-elsewhere}
use Rattle.av_plain.proofs.Sound.There.{AreLawful, IsLawful, NoNew, counted-slot, lawful-no_new, sorted-note, used-no_new}
use Rattle.av_plain.proofs.Sound.Zap.{no_new-taken}
use Rattle.av_trace.specs.declared.note.Note.TheVariants.{Joined, Moved, Shared}

-- ---- what is kept

-- the page of a slot
abbrev at : AreaSlots → Slot → Page
at slots s = page_at (slots s.area).pages s.page

-- whether a slot is in use
abbrev is_used : Ledger → Slot → Bool
is_used l s = nat_lt 0 (slot_count l s)

-- whether it is the one that is taken
abbrev is_that : Option Slot → Slot → Bool
is_that None s = false
is_that (Some t) s = same_slot s t

-- how many slots an area has, if it is on
abbrev slots_on : Option SwapArea → ℕ
slots_on None = 0
slots_on (Some area) = area.slots

-- how many of an area are taken
abbrev in_area : Option Slot → ℕ → ℕ
in_area None k = 0
in_area (Some t) k = cond (k == t.area) 1 0

-- a page is taken where its slot is in use, and each slot in use or free is there: so as many are free as the area has left
pub record TracksSlots (m : Setting) (l : Ledger) (slots : AreaSlots) : Type 0 where
  pub taken : (s : Slot) → is_taken (at slots s) ≡ is_used l s
  pub free : (s : Slot) → is_free_page (at slots s) ≡ true → is_there m l s ≡ true
  pub there : (s : Slot) → is_used l s ≡ true → is_there m l s ≡ true
  pub sum : (k : ℕ) → count_by is_free_page (slots k).pages + length (slots_in_use m l k)
      ≡ slots_on (find nat_cmp k l.on)
  pub off : (k : ℕ) → is_on l k ≡ false → slots k ≡ no_slots k

-- ---- an area that is off

there-on : (m : Setting) (l : Ledger) (s : Slot) → is_there m l s ≡ true → is_on l s.area ≡ true
there-on m l s h = by (is_on l s.area) (nat_lt 0 s.page) (nat_lt s.page (size_of m s.area)) (is_usable m s) h
  where
    by : (a b c d : Bool) → (a && b && c && d) ≡ true → a ≡ true
    by true b c d h = refl
    by false b c d h = cc

-- it has no slot in use
off-unused : (m : Setting) (l : Ledger) → ((s : Slot) → is_used l s ≡ true → is_there m l s ≡ true) → (k page : ℕ) → is_on l k ≡ false
    → is_used l (record { area = k; page = page }) ≡ false
off-unused m l there k page is = by (is_used l s) refl
  where
    s : Slot
    s = record { area = k; page = page }

    by : (u : Bool) → is_used l s ≡ u → is_used l s ≡ false
    by false e = e
    by true e = absurd (false≢true (sym is ∙ there-on m l s (there s e)))

-- and is none that has one of these
off-other : (m : Setting) (l : Ledger) (k : ℕ) (t : Slot) → is_on l k ≡ false → is_there m l t ≡ true → (k == t.area) ≡ false
off-other m l k t is there = by (k == t.area) refl
  where
    by : (b : Bool) → (k == t.area) ≡ b → (k == t.area) ≡ false
    by false e = e
    by true e = absurd (false≢true (sym is ∙ ap (is_on l) (same-is k t.area e) ∙ there-on m l t there))

-- ---- how many numbers of a range pass

one-longer : (b : Bool) (a : ℕ) (xs : List ℕ) → length (cond b (a ∷ xs) xs) ≡ cond b 1 0 + length xs
one-longer true a xs = omega arith
one-longer false a xs = omega arith

-- tests that add up at each number add up over the range
sum-passes : (p q r t : ℕ → Bool) (a n : ℕ)
    → ((x : ℕ) → ◌≡◌ {A = ℕ} (cond (p x) 1 0 + cond (q x) 1 0) (cond (r x) 1 0 + cond (t x) 1 0))
    → length (filter p (range_with_len a n)) + length (filter q (range_with_len a n)) ≡ length (filter r (range_with_len a n)) + length
    (filter t (range_with_len a n))
sum-passes p q r t a zero h = refl
sum-passes p q r t a (suc n) h =
    let rest = sum-passes p q r t (a + 1) n h in
    let here = h a in
    let x = one-longer (p a) a (filter p (range_with_len (a + 1) n)) in
    let y = one-longer (q a) a (filter q (range_with_len (a + 1) n)) in
    let z = one-longer (r a) a (filter r (range_with_len (a + 1) n)) in
    let w = one-longer (t a) a (filter t (range_with_len (a + 1) n)) in
    omega (arith, rest, here, x, y, z, w)

none-found : (a n : ℕ) → length (filter (λ x. false) (range_with_len a n)) ≡ 0
none-found a zero = refl
none-found a (suc n) = none-found (a + 1) n

found-once : (y a n : ℕ) → length (filter (λ x. x == y) (range_with_len a n)) ≡ cond (nat_le a y && nat_lt y (a + n)) 1 0
found-once y a zero = out (nat_le a y && nat_lt y (a + 0)) (grind (arith, nat_tests))
  where
    out : (b : Bool) → b ≡ false → ◌≡◌ {A = ℕ} 0 (cond b 1 0)
    out true e = cc
    out false e = refl
found-once y a (suc n) =
    one-longer (a == y) a (filter (λ x. x == y) (range_with_len (a + 1) n)) ∙ ap (λ k. cond (a == y) 1 0 + k) (found-once y (a + 1) n)
    ∙ ends (a == y) _ _ (grind (arith, nat_tests)) (λ e. grind (arith, nat_tests, e))
  where
    ends : (e r r' : Bool) → r ≡ (e || r') → (e ≡ true → r' ≡ false) → ◌≡◌ {A = ℕ} (cond e 1 0 + cond r' 1 0) (cond r 1 0)
    ends true true true i j = absurd (false≢true (sym (j refl)))
    ends true true false i j = refl
    ends true false r' i j = cc
    ends false true true i j = refl
    ends false true false i j = cc
    ends false false true i j = cc
    ends false false false i j = refl

-- ---- one event

-- what an event does to the slots in use: none comes into use but the one that is taken
pub record Brings (l l' : Ledger) (taken : Option Slot) : Type 0 where
  pub on_same : l'.on ≡ l.on
  pub came : (s : Slot) → is_used l' s ≡ true → is_used l s ≡ false → is_that taken s ≡ true
  pub took : (s : Slot) → is_that taken s ≡ true → is_used l' s ≡ true

-- a page of an area, and how it changes
module _ (m : Setting) (closing : Option ℕ) (l l' : Ledger) (taken : Option Slot)
    (old rest : AreaSlots) (brings : Brings l l' taken)
    (given : MatchOption taken (rest ≡ old) (λ s. IsGiven m closing l s old rest)) (inv : TracksSlots m l old) where
  -- the page that is given was free
  was_free : (s : Slot) → is_that taken s ≡ true → is_free_page (at old s) ≡ true
  was_free s is = by taken given is
    where
      gave : (t : Slot) (o : Option (ℕ × Slots)) → Gives (old t.area) o
          → IsSomeAnd o (λ x. (x.0 ≡ t.page) × (rest ≡ with_at t.area x.1 old)) → is_free_page (at old t) ≡ true
      gave t None g h = absurd h
      gave t (Some x) g h = ap (λ p. is_free_page (page_at (old t.area).pages p)) (sym h.0) ∙ g.0

      by : (o : Option Slot) → MatchOption o (rest ≡ old) (λ s. IsGiven m closing l s old rest)
          → is_that o s ≡ true → is_free_page (at old s) ≡ true
      by None h is = cc
      by (Some t) h is = subst (λ x. is_free_page (at old x) ≡ true) (sym (slot-is s t is))
          (gave t (take_slot (old t.area)) (gives-one (old t.area)) h.1)

  -- it alone is taken
  rest-at : (s : Slot) → at rest s ≡ cond (is_that taken s) Taken (at old s)
  rest-at s = by taken given
    where
      gave : (t : Slot) (o : Option (ℕ × Slots)) → Gives (old t.area) o
          → IsSomeAnd o (λ x. (x.0 ≡ t.page) × (rest ≡ with_at t.area x.1 old)) → at rest s ≡ cond (same_slot s t) Taken (at old s)
      gave t None g h = absurd h
      gave t (Some x) g h = ap (λ slots. at slots s) h.1 ∙ area (s.area == t.area) refl
        where
          area : (b : Bool) → (s.area == t.area) ≡ b → page_at (cond b x.1 (old s.area)).pages s.page ≡ cond (b && s.page == t.page) Taken (at old s)
          area false is = refl
          area true is =
              let same : s.area ≡ t.area = grind (arith, nat_tests, is) in
              ap (λ pages. page_at pages s.page) g.1
              ∙ set-at (old t.area).pages x.0 s.page Taken (free_below (old t.area).pages x.0 g.0)
              ∙ (λ i. cond (s.page == h.0 i) Taken (page_at (old (sym same i)).pages s.page))

      by : (o : Option Slot) → MatchOption o (rest ≡ old) (λ s. IsGiven m closing l s old rest)
          → at rest s ≡ cond (is_that o s) Taken (at old s)
      by None h = ap (λ slots. at slots s) h
      by (Some t) h = gave t (take_slot (old t.area)) (gives-one (old t.area)) h.1

  -- whether a slot comes back
  pub goes-is : (s : Slot) → (slot_count l' s == 0 && is_used l s) ≡ (not (is_used l' s) && is_used l s)
  goes-is s = ap (λ b. b && is_used l s) (zero_or (slot_count l' s))
    where
      zero_or : (n : ℕ) → (n == 0) ≡ not (nat_lt 0 n)
      zero_or n = grind (arith, nat_tests)

  -- a slot that is there is one of its area's pages
  in_pages : (s : Slot) → is_there m l s ≡ true → (nat_le 1 s.page && nat_lt s.page (1 + (size_of m s.area - 1))) ≡ true
  in_pages s is = let p = parts (is_on l s.area) (nat_lt 0 s.page) (nat_lt s.page (size_of m s.area)) (is_usable m s) is in
      let low = p.0 in let high = p.1 in grind (arith, nat_tests, low, high)
    where
      parts : (a b c d : Bool) → (a && b && c && d) ≡ true → (b ≡ true) × (c ≡ true)
      parts true true true d h = (refl, refl)
      parts true true false d h = cc
      parts true false c d h = cc
      parts false b c d h = cc

  in_range : (s : Slot) → is_used l s ≡ true → (nat_le 1 s.page && nat_lt s.page (1 + (size_of m s.area - 1))) ≡ true
  in_range s used = in_pages s (inv.there s used)

  -- a slot that comes back was taken
  all_taken : (k : ℕ) → AreTaken (λ page. let s : Slot = record { area = k; page = page } in slot_count l' s == 0 && is_used l s) 1 (size_of m k - 1)
      (rest k).pages
  all_taken k page low high is = let s : Slot = record { area = k; page = page } in
      ap is_taken (rest-at s) ∙ by (is_that taken s) (is_used l s) (is_used l' s) (at old s) (sym (goes-is s) ∙ is) (inv.taken s) (brings.took s)
    where
      by : (t u v : Bool) (a : Page) → (not v && u) ≡ true → is_taken a ≡ u → (t ≡ true → v ≡ true) → is_taken (cond t Taken a) ≡ true
      by true u v a g h took = refl
      by false true v a g h took = h
      by false false true a g h took = cc
      by false false false a g h took = cc

  new-at : (s : Slot) → at (with_given_back m l l' rest) s
      ≡ cond ((nat_le 1 s.page && nat_lt s.page (1 + (size_of m s.area - 1))) && (not (is_used l' s) && is_used l s)) FreePage
      (cond (is_that taken s) Taken (at old s))
  new-at s = back-at (λ page. let t : Slot = record { area = s.area; page = page } in slot_count l' t == 0 && is_used l t) 1 (size_of m s.area - 1)
      (rest s.area) (all_taken s.area) s.page
      ∙ (λ i. cond ((nat_le 1 s.page && nat_lt s.page (1 + (size_of m s.area - 1))) && goes-is s i) FreePage (rest-at s i))

  -- the pages afterwards
  taken-kept : (s : Slot) → is_taken (at (with_given_back m l l' rest) s) ≡ is_used l' s
  taken-kept s = ap is_taken (new-at s) ∙ by (is_that taken s) (is_used l s) (is_used l' s) _ (at old s) (inv.taken s) (brings.took s) (brings.came s)
      (in_range s)
    where
      by : (t u v r : Bool) (a : Page) → is_taken a ≡ u → (t ≡ true → v ≡ true) → (v ≡ true → u ≡ false → t ≡ true) → (u ≡ true → r ≡ true)
          → is_taken (cond (r && (not v && u)) FreePage (cond t Taken a)) ≡ v
      by true u true true a h took came inside = refl
      by true u true false a h took came inside = refl
      by true u false r a h took came inside = absurd (false≢true (took refl))
      by false true true true a h took came inside = h
      by false true true false a h took came inside = h
      by false true false true a h took came inside = refl
      by false true false false a h took came inside = absurd (false≢true (inside refl))
      by false false true r a h took came inside = absurd (false≢true (came refl refl))
      by false false false true a h took came inside = h
      by false false false false a h took came inside = h

  there-before : (s : Slot) → is_that taken s ≡ true → is_there m l s ≡ true
  there-before s is = inv.free s (was_free s is)

  on_moved : (s : Slot) → is_there m l' s ≡ is_there m l s
  on_moved s = ap (λ o. is_there m (record l { on = o }) s) brings.on_same

  free-kept : (s : Slot) → is_free_page (at (with_given_back m l l' rest) s) ≡ true → is_there m l' s ≡ true
  free-kept s is = on_moved s ∙ by (is_that taken s) (is_used l s) (is_used l' s) _ (at old s) (inv.there s) (inv.free s)
      (sym (ap is_free_page (new-at s)) ∙ is)
    where
      by : (t u v r : Bool) (a : Page) → (u ≡ true → is_there m l s ≡ true) → (is_free_page a ≡ true → is_there m l s ≡ true)
          → is_free_page (cond (r && (not v && u)) FreePage (cond t Taken a)) ≡ true → is_there m l s ≡ true
      by t true v r a used free h = used refl
      by true false true true a used free h = cc
      by true false true false a used free h = cc
      by true false false true a used free h = cc
      by true false false false a used free h = cc
      by false false true true a used free h = free h
      by false false true false a used free h = free h
      by false false false true a used free h = free h
      by false false false false a used free h = free h

  there-kept : (s : Slot) → is_used l' s ≡ true → is_there m l' s ≡ true
  there-kept s is = on_moved s ∙ by (is_used l s) refl
    where
      by : (u : Bool) → is_used l s ≡ u → is_there m l s ≡ true
      by true e = inv.there s e
      by false e = there-before s (brings.came s is e)

  -- ---- how many

  back-many : (k : ℕ) → count_by is_free_page (with_given_back m l l' rest k).pages ≡ count_by is_free_page (rest k).pages + length
      (new_free_slots m l l' k)
  back-many k = back-count (λ page. let t : Slot = record { area = k; page = page } in slot_count l' t == 0 && is_used l t) 1 (size_of m k - 1)
      (rest k) (all_taken k)

  rest-many : (k : ℕ) → count_by is_free_page (rest k).pages + in_area taken k ≡ count_by is_free_page (old k).pages
  rest-many k = by taken given
    where
      gave : (t : Slot) (o : Option (ℕ × Slots)) → Gives (old t.area) o
          → IsSomeAnd o (λ x. (x.0 ≡ t.page) × (rest ≡ with_at t.area x.1 old))
          → count_by is_free_page (rest k).pages + cond (k == t.area) 1 0 ≡ count_by is_free_page (old k).pages
      gave t None g h = absurd h
      gave t (Some x) g h = ap (λ (slots : AreaSlots). count_by is_free_page (slots k).pages + cond (k == t.area) 1 0) h.1 ∙ area (k == t.area) refl
        where
          area : (b : Bool) → (k == t.area) ≡ b → count_by is_free_page (cond b x.1 (old k)).pages + cond b 1 0 ≡ count_by is_free_page (old k).pages
          area false is = omega arith
          area true is = ap (λ pages. count_by is_free_page pages + 1) g.1 ∙ one_fewer (old t.area).pages x.0 g.0
              ∙ ap (λ k. count_by is_free_page (old k).pages) (sym (same-is k t.area is))

      by : (o : Option Slot) → MatchOption o (rest ≡ old) (λ s. IsGiven m closing l s old rest)
          → count_by is_free_page (rest k).pages + in_area o k ≡ count_by is_free_page (old k).pages
      by None h = let e = ap (λ (slots : AreaSlots). count_by is_free_page (slots k).pages) h in omega (arith, e)
      by (Some t) h = gave t (take_slot (old t.area)) (gives-one (old t.area)) h.1

  used-many : (k : ℕ) → length (slots_in_use m l' k) + length (new_free_slots m l l' k) ≡ length (slots_in_use m l k) + in_area taken k
  used-many k =
      sum-passes (λ page. is_used l' (record { area = k; page = page }))
      (λ page. let s : Slot = record { area = k; page = page } in slot_count l' s == 0 && is_used l s)
      (λ page. is_used l (record { area = k; page = page })) (λ page. is_that taken (record { area = k; page = page })) 1 (size_of m k - 1)
      (λ page. each (record { area = k; page = page })) ∙ ap (λ n. length (slots_in_use m l k) + n) (those taken there-before)
    where
      each : (s : Slot) → ◌≡◌ {A = ℕ} (cond (is_used l' s) 1 0 + cond (slot_count l' s == 0 && is_used l s) 1 0)
          (cond (is_used l s) 1 0 + cond (is_that taken s) 1 0)
      each s = ap (λ b. cond (is_used l' s) 1 0 + cond b 1 0) (goes-is s)
          ∙ by (is_that taken s) (is_used l s) (is_used l' s) (brings.took s) (brings.came s) (unused s)
        where
          unused : (s : Slot) → is_that taken s ≡ true → is_used l s ≡ false
          unused s is = sym (inv.taken s) ∙ not_taken (at old s) (was_free s is)
            where
              not_taken : (a : Page) → is_free_page a ≡ true → is_taken a ≡ false
              not_taken Unusable h = refl
              not_taken FreePage h = refl
              not_taken Taken h = cc

          by : (t u v : Bool) → (t ≡ true → v ≡ true) → (v ≡ true → u ≡ false → t ≡ true) → (t ≡ true → u ≡ false)
              → ◌≡◌ {A = ℕ} (cond v 1 0 + cond (not v && u) 1 0) (cond u 1 0 + cond t 1 0)
          by true true v took came unused = absurd (false≢true (sym (unused refl)))
          by true false true took came unused = refl
          by true false false took came unused = absurd (false≢true (took refl))
          by false true true took came unused = refl
          by false true false took came unused = refl
          by false false true took came unused = absurd (false≢true (came refl refl))
          by false false false took came unused = refl

      those : (o : Option Slot) → ((s : Slot) → is_that o s ≡ true → is_there m l s ≡ true)
          → length (filter (λ page. is_that o (record { area = k; page = page })) (range_with_len 1 (size_of m k - 1))) ≡ in_area o k
      those None h = none-found 1 (size_of m k - 1)
      those (Some t) h = by (k == t.area) refl
        where
          inside : k ≡ t.area → (nat_le 1 t.page && nat_lt t.page (1 + (size_of m k - 1))) ≡ true
          inside same = subst (λ k. (nat_le 1 t.page && nat_lt t.page (1 + (size_of m k - 1))) ≡ true) (sym same) (in_pages t (h t (slot-itself t)))

          by : (b : Bool) → (k == t.area) ≡ b → length (filter (λ page. b && page == t.page) (range_with_len 1 (size_of m k - 1))) ≡ cond b 1 0
          by true is = found-once t.page 1 (size_of m k - 1) ∙ ap (λ b. cond b 1 0) (inside (same-is k t.area is))
          by false is = none-found 1 (size_of m k - 1)

  sum-kept : (k : ℕ) → count_by is_free_page (with_given_back m l l' rest k).pages + length (slots_in_use m l' k) ≡ slots_on (find nat_cmp k l'.on)
  sum-kept k =
      let a = back-many k in let b = rest-many k in let c = used-many k in let d = inv.sum k in
      let e : count_by is_free_page (with_given_back m l l' rest k).pages + length (slots_in_use m l' k)
      ≡ slots_on (find nat_cmp k l.on) = omega (arith, a, b, c, d) in
      e ∙ ap (λ on. slots_on (find nat_cmp k on)) (sym brings.on_same)

  -- ---- an area that is off is left alone

  off-rest : (k : ℕ) → is_on l k ≡ false → rest k ≡ old k
  off-rest k is = by taken given there-before
    where
      gave : (t : Slot) (o : Option (ℕ × Slots)) → IsSomeAnd o (λ x. (x.0 ≡ t.page) × (rest ≡ with_at t.area x.1 old)) → (k == t.area) ≡ false
          → rest k ≡ old k
      gave t None h other = absurd h
      gave t (Some x) h other = ap (λ (slots : AreaSlots). slots k) h.1 ∙ ap (λ b. cond b x.1 (old k)) other

      by : (o : Option Slot) → MatchOption o (rest ≡ old) (λ s. IsGiven m closing l s old rest)
          → ((s : Slot) → is_that o s ≡ true → is_there m l s ≡ true)
          → rest k ≡ old k
      by None h there = ap (λ (slots : AreaSlots). slots k) h
      by (Some t) h there = gave t (take_slot (old t.area)) h.1 (off-other m l k t is (there t (slot-itself t)))

  off-back : (k : ℕ) → is_on l k ≡ false → new_free_slots m l l' k ≡ []
  off-back k is = none-left (λ page. let s : Slot = record { area = k; page = page } in slot_count l' s == 0 && is_used l s)
      (range_with_len 1 (size_of m k - 1))
      (λ page. let s : Slot = record { area = k; page = page } in no (slot_count l' s == 0) (is_used l s) (off-unused m l inv.there k page is))
    where
      no : (a b : Bool) → b ≡ false → (a && b) ≡ false
      no true b e = e
      no false b e = refl

  off-kept : (k : ℕ) → is_on l' k ≡ false → with_given_back m l l' rest k ≡ no_slots k
  off-kept k is =
      let was : is_on l k ≡ false = ap (λ on. is_some (find nat_cmp k on)) (sym brings.on_same) ∙ is in
      ap (fold give_slot (rest k)) (off-back k was) ∙ off-rest k was ∙ inv.off k was

  -- all is kept
  pub tracks-kept : TracksSlots m l' (with_given_back m l l' rest)
  tracks-kept = record { taken = taken-kept; free = free-kept; there = there-kept; sum = sum-kept; off = off-kept }

-- ---- what each event brings

positive : (n : ℕ) → nat_lt 0 n ≡ true → 0 < n
positive n e = grind (arith, nat_tests, e)

is-positive : (n : ℕ) → 0 < n → nat_lt 0 n ≡ true
is-positive n e = grind (arith, nat_tests, e)

-- nothing is taken, and no slot comes into use
pub fewer-brings : (l l' : Ledger) → l'.on ≡ l.on → ((s : Slot) → 0 < count l' s → 0 < count l s) → Brings l l' None
fewer-brings l l' on h = record {
  on_same = on;
  came = λ s is was. absurd (false≢true (sym was ∙ counted-slot l s ∙ is-positive _ (h s (positive _ (sym (counted-slot l' s) ∙ is)))));
  took = λ s is. cc;
}

-- where no area has pages no slot is there
abbrev pub bare : Setting → Setting
bare m = record m { sizes = λ k. None }

pub plain-brings : (m : Setting) (l l' : Ledger) → NoNew (bare m) l l' → Brings l l' None
plain-brings m l l' n = fewer-brings l l' n.on_same (λ s i. by s (n.came s i))
  where
    below : (x : ℕ) → nat_lt x 0 ≡ false
    below x = grind (arith, nat_tests)

    nowhere : (a b c d : Bool) → c ≡ false → (a && b && c && d) ≡ true → ⊥
    nowhere a b true d e h = cc
    nowhere true true false d e h = cc
    nowhere true false false d e h = cc
    nowhere false b false d e h = cc

    by : (s : Slot) → (0 < count l s) ⊎ (is_there (bare m) l s ≡ true) → 0 < count l s
    by s (inl i) = i
    by s (inr i) = absurd (nowhere (is_on l s.area) (nat_lt 0 s.page) (nat_lt s.page 0) (is_usable (bare m) s) (below s.page) i)

put-brings : (l : Ledger) (f : ℕ) (t : Slot) → Brings l (after_note (Put f t) l) (Some t)
put-brings l f t = record { on_same = refl; came = λ s is was. came s (same_slot s t) is was; took = λ s is. took s (same_slot s t) is }
  where
    came : (s : Slot) (b : Bool) → nat_lt 0 (slot_entries l s + cond (b || is_cached l s) 1 0) ≡ true → is_used l s ≡ false → b ≡ true
    came s true is was = refl
    came s false is was = absurd (false≢true (sym was ∙ is))

    took : (s : Slot) (b : Bool) → b ≡ true → nat_lt 0 (slot_entries l s + cond (b || is_cached l s) 1 0) ≡ true
    took s true e = grind (arith, nat_tests)
    took s false e = cc

pub note-brings : (m : Setting) (closing : Option ℕ) (l : Ledger) (note : Note) → T (is_sorted key_cmp l.entries) → IsLawful m closing l note
    → Brings l (after_note note l) (slot_in_note note)
note-brings m closing l (Put f t) sorted h = put-brings l f t
note-brings m closing l (Zeroed p a) sorted h = plain-brings m l _ (lawful-no_new (bare m) closing l (Zeroed p a) sorted h)
note-brings m closing l (New p a f) sorted h = plain-brings m l _ (lawful-no_new (bare m) closing l (New p a f) sorted h)
note-brings m closing l (Copied p a f) sorted h = plain-brings m l _ (lawful-no_new (bare m) closing l (Copied p a f) sorted h)
note-brings m closing l (Loaded t f) sorted h = plain-brings m l _ (lawful-no_new (bare m) closing l (Loaded t f) sorted h)
note-brings m closing l (Mapped p a f) sorted h = plain-brings m l _ (lawful-no_new (bare m) closing l (Mapped p a f) sorted h)
note-brings m closing l (Unmapped f) sorted h = plain-brings m l _ (lawful-no_new (bare m) closing l (Unmapped f) sorted h)
note-brings m closing l (Started t) sorted h = plain-brings m l _ (lawful-no_new (bare m) closing l (Started t) sorted h)
note-brings m closing l (Written t) sorted h = plain-brings m l _ (lawful-no_new (bare m) closing l (Written t) sorted h)
note-brings m closing l (Failed t) sorted h = plain-brings m l _ (lawful-no_new (bare m) closing l (Failed t) sorted h)
note-brings m closing l (Dropped t) sorted h = plain-brings m l _ (lawful-no_new (bare m) closing l (Dropped t) sorted h)
note-brings m closing l (Kept f c) sorted h = plain-brings m l _ (lawful-no_new (bare m) closing l (Kept f c) sorted h)
note-brings m closing l (Aged f) sorted h = plain-brings m l _ (lawful-no_new (bare m) closing l (Aged f) sorted h)
note-brings m closing l (Shared f) sorted h = plain-brings m l _ (lawful-no_new (bare m) closing l (Shared f) sorted h)
note-brings m closing l (Joined p a f) sorted h = plain-brings m l _ (lawful-no_new (bare m) closing l (Joined p a f) sorted h)
note-brings m closing l (Moved from to) sorted h = plain-brings m l _ (lawful-no_new (bare m) closing l (Moved from to) sorted h)

pub used-brings : (m : Setting) (l : Ledger) (write : Bool) (k : Key) → T (is_sorted key_cmp l.entries) → Brings l (after_use write k l) None
used-brings m l write k sorted = plain-brings m l _ (used-no_new (bare m) l write k sorted)

pub zap-brings : (m : Setting) (l : Ledger) (k : Key) → T (is_sorted key_cmp l.entries) → Brings l (after_zap k l) None
zap-brings m l k sorted = plain-brings m l _ (no_new-taken (bare m) k l sorted)

-- what holds of a setting's ledger holds of one with other headers
bare-sound : (m : Setting) (l : Ledger) → IsSound m l → IsSound (bare m) l
bare-sound m l s = record {
  in_order = s.in_order;
  slots_once = s.slots_once;
  frames_once = s.frames_once;
  in_range = s.in_range;
  listed = s.listed;
  flying = s.flying;
  used = s.used;
  one = s.one;
  merged = s.merged;
}

pub fork-brings : (m : Setting) (l : Ledger) (p q : ℕ) (goes : List ℕ) → IsSound m l → ((page : ℕ) → entry l (q, page) ≡ None)
    → Brings l (child_ledger p q goes l) None
fork-brings m l p q goes s none = plain-brings m l (child_ledger p q goes l) (forked-no_new (bare m) l p q goes (bare-sound m l s) none)

pub move-brings : (m : Setting) (l : Ledger) (p n from to : ℕ) → IsSound m l
    → ((page : ℕ) → within to n page ≡ true → within from n page ≡ false → entry l (p, page) ≡ None)
    → Brings l (after_move p n from to l) None
move-brings m l p n from to s free = plain-brings m l (after_move p n from to l) (moved-no_new (bare m) l p n from to (bare-sound m l s) free)

-- ---- an event that turns no area

-- what is chosen then
abbrev pub ChoosesOne : Setting → Option ℕ → Ledger → Ledger → Option Slot → AreaSlots → AreaSlots → Type 0
ChoosesOne m closing l l' taken old new = (on : AreaSlots) × (rest : AreaSlots) × (on ≡ old)
    × MatchOption taken (rest ≡ on) (λ s. IsGiven m closing l s on rest) × (new ≡ with_given_back m l l' rest)

pub brings-tracks : (m : Setting) (closing : Option ℕ) (l l' : Ledger) (taken : Option Slot) (old new : AreaSlots)
    → ChoosesOne m closing l l' taken old new → Brings l l' taken → TracksSlots m l old → TracksSlots m l' new
brings-tracks m closing l l' taken old new c brings tracks = subst (TracksSlots m l') (sym c.4) (tracks-kept m closing l l' taken old c.1 brings
    (subst (λ on. MatchOption taken (c.1 ≡ on) (λ s. IsGiven m closing l s on c.1)) c.2 c.3) tracks)

pub notes-tracks : (m : Setting) (closing : Option ℕ) (l : Ledger) (notes : List Note) (free free' : Free) → T (is_sorted key_cmp l.entries)
    → AreLawful m closing l notes → ChoosesAll m closing l (note_events notes) free free' → TracksSlots m l free.slots
    → TracksSlots m (after_notes l notes) free'.slots
notes-tracks m closing l [] free free' sorted lawful c h = subst (λ (f : Free). TracksSlots m l f.slots) (sym c) h
notes-tracks m closing l (note ∷ notes) free free' sorted lawful c h =
    notes-tracks m closing (after_note note l) notes c.0 free' (sorted-note l note sorted) lawful.1 c.2
    (brings-tracks m closing l (after_note note l) (slot_in_note note) free.slots c.0.slots c.1.slots
    (note-brings m closing l note sorted lawful.0) h)

-- ---- areas that are turned on and off

-- an area's slots are made anew, none of them in use; the others stay
switch-tracks : (m : Setting) (l l' : Ledger) (k : ℕ) (made : Slots) (old new : AreaSlots) → ((j : ℕ) → new j ≡ cond (j == k) made (old j))
    → ((s : Slot) → slot_count l' s ≡ slot_count l s)
    → ((j : ℕ) → (j == k) ≡ false → find nat_cmp j l'.on ≡ find nat_cmp j l.on)
    → ((page : ℕ) → is_used l (record { area = k; page = page }) ≡ false) → slots_in_use m l k ≡ []
    → ((page : ℕ) → is_taken (page_at made.pages page) ≡ false)
    → ((page : ℕ) → is_free_page (page_at made.pages page) ≡ true → is_there m l' (record { area = k; page = page }) ≡ true)
    → count_by is_free_page made.pages ≡ slots_on (find nat_cmp k l'.on) → (is_on l' k ≡ false → made ≡ no_slots k)
    → TracksSlots m l old → TracksSlots m l' new
switch-tracks m l l' k made old new is counts on unused none untaken there sum off inv = record {
  taken = λ s. taken s (s.area == k) refl;
  free = λ s h. free s (s.area == k) refl h;
  there = λ s h. there-still s (s.area == k) refl (ap (nat_lt 0) (sym (counts s)) ∙ h);
  sum = λ j. sum-at j (j == k) refl;
  off = λ j h. off-at j (j == k) refl h;
}
  where
    same : (j : ℕ) → (j == k) ≡ true → j ≡ k
    same j e = same-is j k e

    used-same : (s : Slot) → is_used l' s ≡ is_used l s
    used-same s = ap (nat_lt 0) (counts s)

    now : (s : Slot) (b : Bool) → (s.area == k) ≡ b → at new s ≡ cond b (page_at made.pages s.page) (at old s)
    now s true e = ap (λ (t : Slots). page_at t.pages s.page) (is s.area ∙ ap (λ b. cond b made (old s.area)) e)
    now s false e = ap (λ (t : Slots). page_at t.pages s.page) (is s.area ∙ ap (λ b. cond b made (old s.area)) e)

    taken : (s : Slot) (b : Bool) → (s.area == k) ≡ b → is_taken (at new s) ≡ is_used l' s
    taken s true e = ap is_taken (now s true e) ∙ untaken s.page
        ∙ sym (used-same s ∙ ap (λ j. is_used l (record { area = j; page = s.page })) (same s.area e) ∙ unused s.page)
    taken s false e = ap is_taken (now s false e) ∙ inv.taken s ∙ sym (used-same s)

    on-same : (s : Slot) → (s.area == k) ≡ false → is_there m l' s ≡ is_there m l s
    on-same s e = ap (λ o. is_some o && nat_lt 0 s.page && nat_lt s.page (size_of m s.area) && is_usable m s) (on s.area e)

    free : (s : Slot) (b : Bool) → (s.area == k) ≡ b → is_free_page (at new s) ≡ true → is_there m l' s ≡ true
    free s true e h = subst (λ j. is_there m l' (record { area = j; page = s.page }) ≡ true) (sym (same s.area e))
        (there s.page (sym (ap is_free_page (now s true e)) ∙ h))
    free s false e h = on-same s e ∙ inv.free s (sym (ap is_free_page (now s false e)) ∙ h)

    there-still : (s : Slot) (b : Bool) → (s.area == k) ≡ b → is_used l s ≡ true → is_there m l' s ≡ true
    there-still s true e h = absurd (false≢true (sym (ap (λ j. is_used l (record { area = j; page = s.page })) (same s.area e) ∙ unused s.page) ∙ h))
    there-still s false e h = on-same s e ∙ inv.there s h

    in_use : (j : ℕ) → slots_in_use m l' j ≡ slots_in_use m l j
    in_use j = λ i. filter (λ page. used-same (record { area = j; page = page }) i) (range_with_len 1 (size_of m j - 1))

    sum-at : (j : ℕ) (b : Bool) → (j == k) ≡ b → count_by is_free_page (new j).pages + length (slots_in_use m l' j) ≡ slots_on (find nat_cmp j l'.on)
    sum-at j true e =
        let a = ap (λ (t : Slots). count_by is_free_page t.pages) (is j ∙ ap (λ b. cond b made (old j)) e) in
        let u = ap length (in_use j ∙ ap (slots_in_use m l) (same j e) ∙ none) in
        let o = ap (λ j. slots_on (find nat_cmp j l'.on)) (same j e) in
        omega (arith, a, u, o, sum)
    sum-at j false e =
        let a = ap (λ (t : Slots). count_by is_free_page t.pages) (is j ∙ ap (λ b. cond b made (old j)) e) in
        let u = ap length (in_use j) in
        let o = ap slots_on (on j e) in
        let h = inv.sum j in
        omega (arith, a, u, o, h)

    off-at : (j : ℕ) (b : Bool) → (j == k) ≡ b → is_on l' j ≡ false → new j ≡ no_slots j
    off-at j true e h = is j ∙ ap (λ b. cond b made (old j)) e ∙ off (ap (λ j. is_on l' j) (sym (same j e)) ∙ h)
    off-at j false e h = is j ∙ ap (λ b. cond b made (old j)) e ∙ inv.off j (ap is_some (sym (on j e)) ∙ h)

-- no slot comes back where no count changes
none-back : (m : Setting) (l l' : Ledger) (k : ℕ) → ((s : Slot) → slot_count l' s ≡ slot_count l s) → new_free_slots m l l' k ≡ []
none-back m l l' k counts = none-left (λ page. let s : Slot = record { area = k; page = page } in slot_count l' s == 0 && nat_lt 0 (slot_count l s))
    (range_with_len 1 (size_of m k - 1)) (λ page. let s : Slot = record { area = k; page = page } in ap (λ n. n == 0 && nat_lt 0 (slot_count l s))
    (counts s)
    ∙ no (slot_count l s))
  where
    no : (n : ℕ) → (n == 0 && nat_lt 0 n) ≡ false
    no n = grind (arith, nat_tests)

apart : (j k : ℕ) → (j == k) ≡ false → eq_by_cmp nat_cmp j k ≡ false
apart j k h = grind (arith, nat_tests, h)

alike : (k : ℕ) → eq_by_cmp nat_cmp k k ≡ true
alike k = grind (arith, nat_tests)

-- an area is turned on
pub turned-on-tracks : (m : Setting) (closing : Option ℕ) (l : Ledger) (k : ℕ) (area : SwapArea) (old new : AreaSlots) → AreLayouts m
    → is_on l k ≡ false → ChoosesSlot m closing l (TurnedOn k area) old new → TracksSlots m l old → TracksSlots m (after l (TurnedOn k area)) new
turned-on-tracks m closing l k area old new layouts off c tracks =
    let is = fresh-is m k area c.2.0 (layouts k) c.2.1 in
    let unused = λ (page : ℕ). off-unused m l tracks.there k page off in
    switch-tracks m l (after l (TurnedOn k area)) k c.2.0 old new
    (λ j. ap (λ (n : AreaSlots). n j) c.4 ∙ ap (fold give_slot (c.1 j)) (none-back m l (after l (TurnedOn k area)) j (λ t. refl))
    ∙ ap (λ (n : AreaSlots). n j) (c.3 ∙ c.2.2))
    (λ t. refl) (λ j other. found-on l k area j ∙ ap (λ b. cond b (Some area) (find nat_cmp j l.on)) (apart j k other))
    unused (none-left (λ page. is_used l (record { area = k; page = page })) (range_with_len 1 (size_of m k - 1)) unused) is.untaken
    (λ page h. there page (is.free page h))
    (is.count ∙ ap slots_on (sym (found-on l k area k ∙ ap (λ b. cond b (Some area) (find nat_cmp k l.on)) (alike k))))
    (λ h. absurd (false≢true (sym h ∙ on_now)))
    tracks
  where
    on_now : is_on (after l (TurnedOn k area)) k ≡ true
    on_now = ap is_some (found-on l k area k) ∙ by (eq_by_cmp nat_cmp k k) (alike k)
      where
        by : (b : Bool) → b ≡ true → is_some (cond b (Some area) (find nat_cmp k l.on)) ≡ true
        by true e = refl
        by false e = cc

    there : (page : ℕ) → (nat_lt 0 page && nat_lt page (size_of m k) && is_usable m (record { area = k; page = page })) ≡ true
        → is_there m (after l (TurnedOn k area)) (record { area = k; page = page }) ≡ true
    there page h = by (is_on (after l (TurnedOn k area)) k) (nat_lt 0 page) (nat_lt page (size_of m k))
        (is_usable m (record { area = k; page = page })) on_now h
      where
        by : (a b c d : Bool) → a ≡ true → (b && c && d) ≡ true → (a && b && c && d) ≡ true
        by true b c d e h = h
        by false b c d e h = cc

-- and off
pub turned-off-tracks : (m : Setting) (closing : Option ℕ) (l : Ledger) (k : ℕ) (old new : AreaSlots) → slots_in_use m l k ≡ []
    → ChoosesSlot m closing l (TurnedOff k) old new → TracksSlots m l old → TracksSlots m (after l (TurnedOff k)) new
turned-off-tracks m closing l k old new none c tracks =
    switch-tracks m l (after l (TurnedOff k)) k (no_slots k) old new
    (λ j. ap (λ (n : AreaSlots). n j) c.4 ∙ ap (fold give_slot (c.1 j)) (none-back m l (after l (TurnedOff k)) j (λ t. refl))
    ∙ ap (λ (n : AreaSlots). n j) (c.3 ∙ c.2))
    (λ t. refl) (λ j other. found-off l k j ∙ ap (λ b. cond (not b) (find nat_cmp j l.on) None) other)
    unused none (λ page. refl) (λ page h. cc)
    (sym (ap slots_on (found-off l k k ∙ ap (λ b. cond (not b) (find nat_cmp k l.on) None) (same-itself k))))
    (λ h. refl) tracks
  where
    are-there : TracksSlots m l old → AreThere m l
    are-there h s used = h.there s (counted-slot l s ∙ is-positive _ used)

    unused : (page : ℕ) → is_used l (record { area = k; page = page }) ≡ false
    unused page = by (is_used l (record { area = k; page = page })) refl
      where
        by : (b : Bool) → is_used l (record { area = k; page = page }) ≡ b → b ≡ false
        by false e = refl
        by true e = let t : Slot = record { area = k; page = page } in
            let other = used-elsewhere m l k t (are-there tracks) none (positive _ (sym (counted-slot l t) ∙ e)) in grind (arith, nat_tests, other)

-- ---- from what is listed and back

-- a free slot is one that is there and isn't in use
free_is : (m : Setting) (l : Ledger) (s : Slot) → is_free_slot m l s ≡ (is_there m l s && not (is_used l s))
free_is m l s = by (is_on l s.area) (nat_lt 0 s.page) (nat_lt s.page (size_of m s.area)) (is_usable m s) (slot_count l s == 0)
    (nat_lt 0 (slot_count l s)) (zero_or (slot_count l s))
  where
    zero_or : (n : ℕ) → (n == 0) ≡ not (nat_lt 0 n)
    zero_or n = grind (arith, nat_tests)

    by : (a b c d z u : Bool) → z ≡ not u → (a && b && c && z && d) ≡ ((a && b && c && d) && not u)
    by true true true true z u e = ap (λ z. z && true) e ∙ same u
      where
        same : (u : Bool) → (not u && true) ≡ not u
        same true = refl
        same false = refl
    by true true true false true u e = refl
    by true true true false false u e = refl
    by true true false d z u e = refl
    by true false c d z u e = refl
    by false b c d z u e = refl

pub to_tracks : (m : Setting) (l : Ledger) (slots : AreaSlots) → AreThere m l → AreasFit m l → ListsSlots m l slots → TracksSlots m l slots
to_tracks m l slots in_areas fits h = record {
  taken = h.taken;
  free = λ s is. there_of (is_there m l s) (not (is_used l s))
      (sym (free_is m l s) ∙ h.free s is);
  there = there;
  sum = λ k. by k (find nat_cmp k l.on) refl (fits.fit k) (h.number k);
  off = h.off;
}
  where
    there : (s : Slot) → is_used l s ≡ true → is_there m l s ≡ true
    there s is = in_areas s (positive _ (sym (counted-slot l s) ∙ is))

    there_of : (a b : Bool) → (a && b) ≡ true → a ≡ true
    there_of true b h = refl
    there_of false b h = cc

    by : (k : ℕ) (o : Option SwapArea) → find nat_cmp k l.on ≡ o → IfSome o (λ area. length (slots_in_use m l k) ≤ area.slots)
        → count_by is_free_page (slots k).pages ≡ option_map_or (λ area. free_slots m l (k, area)) o 0
        → count_by is_free_page (slots k).pages + length (slots_in_use m l k) ≡ slots_on o
    by k None e fits n =
        let z = ap length (none-left (λ page. is_used l (record { area = k; page = page })) (range_with_len 1 (size_of m k - 1))
        (λ page. off-unused m l there k page (ap is_some e))) in
        omega (arith, n, z)
    by k (Some area) e fits n = omega (arith, n, fits)

pub from_tracks : (m : Setting) (l : Ledger) (slots : AreaSlots) → TracksSlots m l slots → ListsSlots m l slots
from_tracks m l slots inv = record {
  taken = inv.taken;
  free = λ s is. free_is m l s ∙ (λ i. inv.free s is i && not (unused (at slots s) (is_used l s) is (inv.taken s) i));
  number = λ k. by k (find nat_cmp k l.on) (inv.sum k);
  off = inv.off;
}
  where
    unused : (a : Page) (u : Bool) → is_free_page a ≡ true → is_taken a ≡ u → u ≡ false
    unused Unusable u h e = sym e
    unused FreePage u h e = sym e
    unused Taken u h e = cc

    by : (k : ℕ) (o : Option SwapArea) → count_by is_free_page (slots k).pages + length (slots_in_use m l k) ≡ slots_on o
        → count_by is_free_page (slots k).pages ≡ option_map_or (λ area. free_slots m l (k, area)) o 0
    by k None e = omega (arith, e)
    by k (Some area) e = omega (arith, e)
