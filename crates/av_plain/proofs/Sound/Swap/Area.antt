-- Soundness after a swap area is turned on or off.
use Rattle.std.proofs.Common.{◌≡◌, ◌⊎◌, inl, inr, ℕ, zero, suc, ◌+◌, ◌-◌, ◌<◌, ◌≤◌, Bool, true, false, cond, not, ◌&&◌, List, [], ◌∷◌, filter, length, Option, Some, None, IfSome, is_some, nat_lt, refl, sym, ap, subst, ◌∙◌, arith, ◌==◌}
use Rattle.std.proofs.lemmas.Bool.Decides.{nat_tests}
use Rattle.std.specs.List.{range_with_len}
use Rattle.std.specs.Cmp.{nat_cmp_total}
use Rattle.std.specs.Ordering.{nat_cmp, eq_by_cmp}
use Rattle.std.specs.declared.cmp.Ordering.TheVariants.{Equal}
use Rattle.std.specs.FinMap.Entries.{find, find-put, find-where_key, is_sorted-put, is_sorted-where_key}
use Rattle.av_base.specs.declared.slot.Slot.{Slot}
use Rattle.av_trace.specs.declared.reply.Answer.{Answer}
use Rattle.av_trace.specs.declared.reply.Answer.TheVariants.{AreaList, Bus, Counted, Data, Done, EntryEmpty, EntryFrame, EntrySlot, EntryZero, MapAt, NoFrame, NoWalk, On, Oom, Refused, Runs, Segv, SlotBad, SlotCount, Walk}
use Rattle.av_trace.specs.declared.row.Row.{Row}
use Rattle.av_plain.specs.Event.{Event, TurnedOff, TurnedOn, after, after_all}
use Rattle.av_plain.specs.Ledger.{Ledger, Setting, SwapArea, is_on, is_usable, size_of, slot_count, slots_in_use}
use Rattle.av_plain.specs.Sound.{AllSound, AreThere, AreasFit, count, is_there}
use Rattle.av_plain.specs.Swapon.{TurnsOn, priority_of, turn_on_events}
use Rattle.av_plain.specs.World.{World}
use Rattle.av_plain.proofs.Sound.There.{counted-slot}

-- ---- slots in use

-- the first that a filter leaves passes
pub first-passes : (test : ℕ → Bool) (xs ys : List ℕ) (x : ℕ) → filter test xs ≡ x ∷ ys → test x ≡ true
first-passes test [] ys x h = cc
first-passes test (a ∷ xs) ys x h = by (test a) refl (first-passes test xs ys x) h
  where
    by : (b : Bool) → test a ≡ b → (filter test xs ≡ x ∷ ys → test x ≡ true) → cond b (a ∷ filter test xs) (filter test xs) ≡ x ∷ ys → test x ≡ true
    by true is rest h = let same : a ≡ x = cc in subst (λ y. test y ≡ true) same is
    by false is rest h = rest h

-- and where it leaves none, none passes
pub none-passes : (test : ℕ → Bool) (a n x : ℕ) → filter test (range_with_len a n) ≡ [] → a ≤ x → x < a + n → test x ≡ false
none-passes test a zero x h low high = absurd (omega (arith, low, high))
none-passes test a (suc n) x h low high = by (test a) refl (λ none above. none-passes test (a + 1) n x none above (omega (arith, high))) h
  where
    by : (b : Bool) → test a ≡ b → (filter test (range_with_len (a + 1) n) ≡ [] → a + 1 ≤ x → test x ≡ false) →
        cond b (a ∷ filter test (range_with_len (a + 1) n)) (filter test (range_with_len (a + 1) n)) ≡ [] → test x ≡ false
    by true is rest h = cc
    by false is rest h = here (a == x) refl
      where
        here : (c : Bool) → (a == x) ≡ c → test x ≡ false
        here true e = let same : a ≡ x = grind (arith, nat_tests, e) in subst (λ y. test y ≡ false) same is
        here false e = rest h (grind (arith, nat_tests, e, low))

pub none-left : (test : ℕ → Bool) (xs : List ℕ) → ((x : ℕ) → test x ≡ false) → filter test xs ≡ []
none-left test [] h = refl
none-left test (x ∷ xs) h = ap (λ b. cond b (x ∷ filter test xs) (filter test xs)) (h x) ∙ none-left test xs h

positive : (n : ℕ) → nat_lt 0 n ≡ true → 0 < n
positive n h = grind (arith, nat_tests, h)

-- no slot of an area that is off is in use
pub off-unused : (m : Setting) (l : Ledger) (k : ℕ) → AreThere m l → is_on l k ≡ false → slots_in_use m l k ≡ []
off-unused m l k there off = none-left _ (range_with_len 1 (size_of m k - 1))
    (λ page. by page (nat_lt 0 (slot_count l (record { area = k; page = page }))) refl)
  where
    first_of : (a b c d : Bool) → (a && b && c && d) ≡ true → a ≡ true
    first_of true b c d h = refl
    first_of false true true true h = cc
    first_of false true true false h = cc
    first_of false true false d h = cc
    first_of false false c d h = cc

    by : (page : ℕ) (b : Bool) → nat_lt 0 (slot_count l (record { area = k; page = page })) ≡ b → b ≡ false
    by page true is =
        let s : Slot = record { area = k; page = page } in
        let used : 0 < count l s = positive (count l s) (sym (counted-slot l s) ∙ is) in
        let on : is_on l k ≡ true = first_of (is_on l k) (nat_lt 0 page) (nat_lt page (size_of m k)) (is_usable m s) (there s used) in
        sym on ∙ off
    by page false is = refl

-- a slot in use is of another area than one that has none in use
pub used-elsewhere : (m : Setting) (l : Ledger) (k : ℕ) (s : Slot) → AreThere m l → slots_in_use m l k ≡ [] → 0 < count l s → (s.area == k) ≡ false
used-elsewhere m l k s there none used = by (s.area == k) refl
  where
    second_of : (a b c d : Bool) → (a && b && c && d) ≡ true → (b && c) ≡ true
    second_of true true true d h = refl
    second_of true true false d h = cc
    second_of true false c d h = cc
    second_of false b c d h = cc

    below : (page size : ℕ) → (nat_lt 0 page && nat_lt page size) ≡ true → page < 1 + (size - 1)
    below page size h = grind (arith, nat_tests, h)

    above : (page size : ℕ) → (nat_lt 0 page && nat_lt page size) ≡ true → 1 ≤ page
    above page size h = grind (arith, nat_tests, h)

    is-positive : (n : ℕ) → 0 < n → nat_lt 0 n ≡ true
    is-positive n h = grind (arith, nat_tests, h)

    by : (b : Bool) → (s.area == k) ≡ b → b ≡ false
    by false is = refl
    by true is =
        let same : s.area ≡ k = grind (arith, nat_tests, is) in
        let inside = second_of (is_on l s.area) (nat_lt 0 s.page) (nat_lt s.page (size_of m s.area)) (is_usable m s) (there s used) in
        let gone = none-passes (λ page. nat_lt 0 (slot_count l (record { area = s.area; page = page }))) 1 (size_of m s.area - 1) s.page
        (subst (λ k. slots_in_use m l k ≡ []) (sym same) none) (above s.page (size_of m s.area) inside) (below s.page (size_of m s.area) inside) in
        sym (is-positive (count l s) used) ∙ sym (counted-slot l s) ∙ gone

-- ---- an area is turned on

pub found-on : (l : Ledger) (k : ℕ) (area : SwapArea) (j : ℕ) → find nat_cmp j (after l (TurnedOn k area)).on
    ≡ cond (eq_by_cmp nat_cmp j k) (Some area) (find nat_cmp j l.on)
found-on l k area j = find-put nat_cmp nat_cmp_total j k area l.on

module _ (m : Setting) (l : Ledger) (k : ℕ) (area : SwapArea) (there : AreThere m l) (fits : AreasFit m l) (off : is_on l k ≡ false) where
  abbrev pub now_on : Ledger
  now_on = after l (TurnedOn k area)

  pub there-on : AreThere m now_on
  there-on t used = by (eq_by_cmp nat_cmp t.area k) (find nat_cmp t.area l.on) (found-on l k area t.area) (there t used)
    where
      by : (b : Bool) (o : Option SwapArea) → find nat_cmp t.area now_on.on ≡ cond b (Some area) o →
          (is_some o && nat_lt 0 t.page && nat_lt t.page (size_of m t.area) && is_usable m t) ≡ true → is_there m now_on t ≡ true
      by true (Some old) e h = ap (λ x. is_some x && nat_lt 0 t.page && nat_lt t.page (size_of m t.area) && is_usable m t) e ∙ h
      by false o e h = ap (λ x. is_some x && nat_lt 0 t.page && nat_lt t.page (size_of m t.area) && is_usable m t) e ∙ h
      by true None e h = cc

  pub fit-on : 0 < size_of m k → AreasFit m now_on
  fit-on has = record {
    rising = is_sorted-put nat_cmp nat_cmp_total k area l.on fits.rising;
    attached = λ j is. attached_at j (eq_by_cmp nat_cmp j k) refl (sym (ap is_some (found-on l k area j)) ∙ is);
    fit = λ j. subst (λ o. IfSome o (λ area. length (slots_in_use m l j) ≤ area.slots)) (sym (found-on l k area j))
        (by j (eq_by_cmp nat_cmp j k) refl (find nat_cmp j l.on) (fits.fit j));
  }
    where
      attached_at : (j : ℕ) (b : Bool) → eq_by_cmp nat_cmp j k ≡ b →
          is_some (cond b (Some area) (find nat_cmp j l.on)) ≡ true → 0 < size_of m j
      attached_at j true same is = let e : k ≡ j = grind (arith, nat_tests, same) in subst (λ n. 0 < size_of m n) e has
      attached_at j false other is = fits.attached j is

      by : (j : ℕ) (b : Bool) → eq_by_cmp nat_cmp j k ≡ b → (o : Option SwapArea) → IfSome o (λ area. length (slots_in_use m l j) ≤ area.slots) →
          IfSome (cond b (Some area) o) (λ area. length (slots_in_use m l j) ≤ area.slots)
      by j true is o h =
          let same : j ≡ k = grind (arith, nat_tests, is) in
          let none = ap length (ap (slots_in_use m l) same ∙ off-unused m l k there off) in omega (arith, none)
      by j false is o h = h

module _ (m : Setting) (w : World) (l : Ledger) (k : ℕ) (area : SwapArea) (s : AllSound m w l) (off : is_on l k ≡ false) where
  pub turned-on-sound : 0 < size_of m k → AllSound m w (after l (TurnedOn k area))
  turned-on-sound has = record {
    world = s.world;
    ledger = record {
      in_order = s.ledger.in_order;
      slots_once = s.ledger.slots_once;
      frames_once = s.ledger.frames_once;
      in_range = s.ledger.in_range;
      listed = s.ledger.listed;
      flying = s.ledger.flying;
      used = s.ledger.used;
      one = s.ledger.one;
      merged = s.ledger.merged;
    };
    at_pages = s.at_pages;
    in_areas = there-on m l k area s.in_areas s.areas_fit off;
    areas_fit = fit-on m l k area s.in_areas s.areas_fit off has;
  }

-- nothing happens, or the area is turned on
pub turn-on-events : (k : ℕ) (priority : Option ℕ) (answer : Answer) → (turn_on_events k priority answer ≡ [])
    ⊎ ((area : SwapArea) × (turn_on_events k priority answer ≡ TurnedOn k area ∷ []))
turn-on-events k priority (On slots bad) = inr (record { slots = slots; bad = bad; priority = priority_of priority }, refl)
turn-on-events k priority Done = inl refl
turn-on-events k priority (MapAt a) = inl refl
turn-on-events k priority (Data bytes) = inl refl
turn-on-events k priority (Refused error) = inl refl
turn-on-events k priority (Segv n shown) = inl refl
turn-on-events k priority (Bus n shown) = inl refl
turn-on-events k priority (Oom n out shown) = inl refl
turn-on-events k priority (NoFrame out) = inl refl
turn-on-events k priority (Runs n) = inl refl
turn-on-events k priority (AreaList n) = inl refl
turn-on-events k priority (Walk f n) = inl refl
turn-on-events k priority NoWalk = inl refl
turn-on-events k priority EntryEmpty = inl refl
turn-on-events k priority EntryZero = inl refl
turn-on-events k priority (EntryFrame f seen slot merged) = inl refl
turn-on-events k priority (EntrySlot slot f) = inl refl
turn-on-events k priority (SlotBad slot) = inl refl
turn-on-events k priority (SlotCount slot n f) = inl refl
turn-on-events k priority (Counted totals) = inl refl

pub turn-on-sound : (m : Setting) (w : World) (l : Ledger) (k : ℕ) (priority : Option ℕ) (events : List Event) (answer : Answer) (rows : List Row) →
    AllSound m w l → is_on l k ≡ false → 0 < size_of m k → TurnsOn m k priority events answer rows → AllSound m w (after_all l events)
turn-on-sound m w l k priority events answer rows s off has h =
    subst (λ es. AllSound m w (after_all l es)) (sym h.1) (by (turn-on-events k priority answer))
  where
    by : (turn_on_events k priority answer ≡ []) ⊎ ((area : SwapArea) × (turn_on_events k priority answer ≡ TurnedOn k area ∷ [])) →
        AllSound m w (after_all l (turn_on_events k priority answer))
    by (inl e) = subst (λ es. AllSound m w (after_all l es)) (sym e) s
    by (inr (area, e)) = subst (λ es. AllSound m w (after_all l es)) (sym e) (turned-on-sound m w l k area s off has)

-- ---- an area is turned off

pub found-off : (l : Ledger) (k j : ℕ) → find nat_cmp j (after l (TurnedOff k)).on ≡ cond (not (j == k)) (find nat_cmp j l.on) None
found-off l k j = find-where_key nat_cmp (λ q. not (q == k)) j (λ x e. ap (λ y. not (y == k)) (sym (equal j x e))) l.on
  where
    equal : (j x : ℕ) → nat_cmp j x ≡ Equal → j ≡ x
    equal j x e = grind (arith, nat_tests, e)

module _ (m : Setting) (l : Ledger) (k : ℕ) (there : AreThere m l) (fits : AreasFit m l) (none : slots_in_use m l k ≡ []) where
  abbrev pub now_off : Ledger
  now_off = after l (TurnedOff k)

  pub there-off : AreThere m now_off
  there-off t used = ap (λ o. is_some o && nat_lt 0 t.page && nat_lt t.page (size_of m t.area) && is_usable m t)
      (found-off l k t.area ∙ ap (λ b. cond (not b) (find nat_cmp t.area l.on) None) (used-elsewhere m l k t there none used)) ∙ there t used

  pub fit-off : AreasFit m now_off
  fit-off = record {
    rising = is_sorted-where_key nat_cmp (λ q. not (q == k)) l.on fits.rising;
    attached = λ j is. attached_at j (not (j == k)) (sym (ap is_some (found-off l k j)) ∙ is);
    fit = λ j. subst (λ o. IfSome o (λ area. length (slots_in_use m l j) ≤ area.slots)) (sym (found-off l k j))
        (by j (j == k) (find nat_cmp j l.on) (fits.fit j));
  }
    where
      attached_at : (j : ℕ) (b : Bool) → is_some (cond b (find nat_cmp j l.on) None) ≡ true → 0 < size_of m j
      attached_at j true is = fits.attached j is
      attached_at j false is = cc

      by : (j : ℕ) (b : Bool) (o : Option SwapArea) → IfSome o (λ area. length (slots_in_use m l j) ≤ area.slots) →
          IfSome (cond (not b) o None) (λ area. length (slots_in_use m l j) ≤ area.slots)
      by j true o h = tt
      by j false o h = h

module _ (m : Setting) (w : World) (l : Ledger) (k : ℕ) (s : AllSound m w l) (none : slots_in_use m l k ≡ []) where
  pub turned-off-sound : AllSound m w (after l (TurnedOff k))
  turned-off-sound = record {
    world = s.world;
    ledger = record {
      in_order = s.ledger.in_order;
      slots_once = s.ledger.slots_once;
      frames_once = s.ledger.frames_once;
      in_range = s.ledger.in_range;
      listed = s.ledger.listed;
      flying = s.ledger.flying;
      used = s.ledger.used;
      one = s.ledger.one;
      merged = s.ledger.merged;
    };
    at_pages = s.at_pages;
    in_areas = there-off m l k s.in_areas s.areas_fit none;
    areas_fit = fit-off m l k s.in_areas s.areas_fit none;
  }
