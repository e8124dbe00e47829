-- What the users that were found tell of a ledger that the memory system stands for.
use Rattle.std.proofs.Common.{◌≡◌, ℕ, ◌<◌, ◌≤◌, ◌⊎◌, inl, inr, Bool, true, false, cond, ◌&&◌, nat_lt, List, length, map, Option, Some, None, is_some, refl, sym, ap, subst, ◌∙◌, arith}
use Rattle.std.proofs.lemmas.Bool.{cases_lt, false≢true}
use Rattle.std.proofs.lemmas.Bool.Decides.{nat_tests}
use Rattle.std.proofs.lemmas.Option.{slice_get-get_or}
use Rattle.std.specs.Prelude.{IfOk, IsSomeAnd, Result, Ok, Err, slice_get}
use Rattle.av_base.specs.Keys.{Key}
use Rattle.av_base.specs.declared.slot.Slot.{Slot}
use Rattle.av_pagetable.specs.Entries.{has}
use Rattle.av_spaces.proofs.Trees.{some_mapped}
use Rattle.av_plain.specs.Areas.{Rmap}
use Rattle.av_plain.specs.Device.{Device}
use Rattle.av_plain.specs.Event.{slot_behind as behind}
use Rattle.av_plain.specs.Ledger.{Entry, InFrame, InSlot, Ledger, Zero, entry, is_cached, is_on, names_frame, size_of, slot_count, slot_entries}
use Rattle.av_plain.specs.Report.{range_of}
use Rattle.av_plain.specs.Sound.{IsSoundBut, count, is_there}
use Rattle.av_plain.specs.Stands.{Pte as Plain, entry_of}
use Rattle.av_plain.specs.World.{World}
use Rattle.av_plain.proofs.Ledger.{how_many-found}
use Rattle.av_plain.proofs.Sound.There.{counted-slot}
use Rattle.av_plain.proofs.Sound.Counts.{same-itself}
use Rattle.av_swap_laws.proofs.Cache.{cached-is, once-of, slot-frame}
use Rattle.av_swap_laws.proofs.Parts.{named-slot}
use Rattle.av_evict.specs.System.{Tells, any_slot}
use Rattle.av_mem.specs.Entries.{AreWithin, IsEntryWithin, IsWithin, slot_behind, slot_behind_entry}
use Rattle.av_mem.specs.Mem.{Serves, plain, setting_by, view}
use Rattle.av_mem.specs.declared.mem.Mem.{Mem}
use Rattle.av_reclaim.specs.Driver.{closing_of, view_of}
use Rattle.av_reclaim.proofs.StepMakes.{frame-found}
use Rattle.av_swapoff.specs.System.{AreUsers, IsUser, slot_at}
use Rattle.av_swapoff.specs.Users.{HasUsers, IsUnused, Uses, user_at}
use Rattle.av_swapoff.proofs.VisitLaws.{no-entry, no-table}

no-slot : (s : Slot) → None ≡ Some s → ⊥
no-slot s e = cc

module _ (d : Device) (closing : Option ℕ) (k : Mem) (w : World) (r : Rmap) (l : Ledger) (sound : IsSoundBut (setting_by d k) any_slot l)
    (h : Serves d closing k w r l) where
  -- ---- a user in both words

  behind-is : (e : Entry) → slot_behind_entry (view k) e ≡ behind l e
  behind-is Zero = refl
  behind-is (InFrame f seen) = h.held.ledger.frames.slots f
  behind-is (InSlot s) = refl

  is-user : (s : Slot) (q : Key) → Uses (view k) s q → IsUser l s q
  is-user s q uses = subst (λ o. IsSomeAnd o (λ e. behind l e ≡ Some s)) (h.held.ledger.tables.entries q.0 q.1) (by ((view k).table q.0 q.1) uses)
    where
      by : (o : Option Plain) → slot_behind (view k) o ≡ Some s → IsSomeAnd (entry_of o) (λ e. behind l e ≡ Some s)
      by None is = absurd (no-slot s is)
      by (Some t) is = sym (behind-is t.entry) ∙ is

  uses-it : (s : Slot) (q : Key) → IsUser l s q → Uses (view k) s q
  uses-it s q user = by ((view k).table q.0 q.1)
      (subst (λ o. IsSomeAnd o (λ e. behind l e ≡ Some s)) (sym (h.held.ledger.tables.entries q.0 q.1)) user)
    where
      by : (o : Option Plain) → IsSomeAnd (entry_of o) (λ e. behind l e ≡ Some s) → slot_behind (view k) o ≡ Some s
      by None is = absurd is
      by (Some t) is = behind-is t.entry ∙ is

  -- ---- a slot with a user is in use

  cached-count : (s : Slot) → is_cached l s ≡ true → 0 < slot_count l s
  cached-count s is = let one : ◌≡◌ {A = ℕ} (cond (is_cached l s) 1 0) 1 = ap (λ b. cond b 1 0) is in omega (arith, one)

  user-counts : (s : Slot) (q : Key) → IsUser l s q → 0 < slot_count l s
  user-counts s q user = by (entry l q) refl user
    where
      same : (t : Slot) → Some t ≡ Some s → t ≡ s
      same t e = cc

      by : (o : Option Entry) → entry l q ≡ o → IsSomeAnd o (λ e. behind l e ≡ Some s) → 0 < slot_count l s
      by None at is = absurd is
      by (Some Zero) at is = absurd (no-slot s is)
      by (Some (InFrame f seen)) at is = cached-count s (cached-is s f l (slot-frame l (once-of (setting_by d k) any_slot l sound) f s is))
      by (Some (InSlot t)) at is = subst (λ t. 0 < slot_count l t) (same t is) (let some = named-slot l q t at in omega (arith, some))

  unused-count : (s : Slot) → IsUnused (view k) s → slot_count l s ≡ 0
  unused-count s unused =
      let uncached : is_cached l s ≡ false = sym (frame-found s l) ∙ ap is_some (sym (h.held.ledger.swap.finds s)) ∙ ap is_some unused.uncached in
      let zero : ◌≡◌ {A = ℕ} (cond (is_cached l s) 1 0) 0 = ap (λ b. cond b 1 0) uncached in
      let none : slot_entries l s ≡ 0 = sym (h.held.ledger.swap.counts s) ∙ unused.unnamed in
      omega (arith, zero, none)

  -- ---- what holds of entries

  pub within : AreWithin (view k)
  within p page = by ((view k).table p page) (h.held.ledger.tables.entries p page)
    where
      named : (e : Entry) → entry l (p, page) ≡ Some e → IsEntryWithin (view k) e
      named Zero at = tt
      named (InFrame f seen) at =
          sound.in_range f (let some = how_many-found (names_frame f) (p, page) l.entries (InFrame f seen) at (same-itself f) in omega (arith, some))
      named (InSlot s) at = tt

      by : (o : Option Plain) → entry_of o ≡ entry l (p, page) → IsWithin (view k) o
      by None at = tt
      by (Some t) at = named t.entry (sym at)

  -- ---- the process of a user lives

  lives : (s : Slot) (area page : ℕ) (q : Key) → Uses (view k) (slot_at area page) q → is_some ((view k).areas q.0) ≡ true
  lives s area page q uses = by (has k.tables q.0) refl
    where
      by : (b : Bool) → has k.tables q.0 ≡ b → is_some ((view k).areas q.0) ≡ true
      by true there = sym (some_mapped (map range_of) ((view k).areas q.0)) ∙ sym (h.tables q.0) ∙ there
      by false away = absurd (no-entry (view k) area page q (ap plain (no-table k q away)) uses)

  -- ---- a slot in use is one of the area's pages, and not the first

  inside : (area page : ℕ) → is_there (setting_by d k) l (slot_at area page) ≡ true → (0 < page) × (page < size_of (setting_by d k) area)
  inside area page is = let parts = by (is_on l area) (nat_lt 0 page) (nat_lt page (size_of (setting_by d k) area)) _ is in
      (less 0 page parts.0, less page (size_of (setting_by d k) area) parts.1)
    where
      less : (m n : ℕ) → nat_lt m n ≡ true → m < n
      less m n e = grind (arith, nat_tests, e)

      by : (a b c d : Bool) → (a && b && c && d) ≡ true → (b ≡ true) × (c ≡ true)
      by true true true d h = (refl, refl)
      by true true false d h = absurd (false≢true h)
      by true false c d h = absurd (false≢true h)
      by false b c d h = absurd (false≢true h)

  -- ---- all of them

  pub users-told : (area : ℕ) (users : List (Option Key)) → HasUsers (view k) area users → AreUsers (setting_by d k) area users l
  users-told area users has = record {
    there = λ page q user. found page q user (cases_lt page (length users));
    within = λ page used. inside area page (h.there (slot_at area page) (is-positive (count l (slot_at area page))
        (sym (counted-slot l (slot_at area page)) ∙ positive (slot_count l (slot_at area page)) used)));
  }
    where
      positive : (n : ℕ) → 0 < n → nat_lt 0 n ≡ true
      positive n some = grind (arith, nat_tests, some)

      is-positive : (n : ℕ) → nat_lt 0 n ≡ true → 0 < n
      is-positive n e = grind (arith, nat_tests, e)

      at : (page : ℕ) (o : Option Key) → user_at users page ≡ o → is_some o ≡ true → IsSomeAnd o (IsUser l (slot_at area page))
      at page None is some = absurd (false≢true some)
      at page (Some q) is some = is-user (slot_at area page) q (has.are page q is)

      found : (page : ℕ) (q : Key) → IsUser l (slot_at area page) q → (page < length users) ⊎ (length users ≤ page)
          → IsSomeAnd (slice_get users page) (λ user. IsSomeAnd user (IsUser l (slot_at area page)))
      found page q user (inl below) =
          subst (λ o. IsSomeAnd o (λ user. IsSomeAnd user (IsUser l (slot_at area page)))) (sym (slice_get-get_or users page None below))
          (at page (user_at users page) refl
          (has.finds page q below (lives (slot_at area page) area page q (uses-it (slot_at area page) q user)) (uses-it (slot_at area page) q user)))
      found page q user (inr far) =
          let some = user-counts (slot_at area page) q user in
          let none = unused-count (slot_at area page) (has.past page far) in
          absurd (omega (arith, some, none))

-- as the system tells them
pub all-told : {U E : Type 0} (items : U → List (Option Key)) (names : List ℕ) (device : Bool → Device) (k : Mem) (area : ℕ) (r : Result U E)
    → IfOk r (λ users. HasUsers (view k) area (items users))
    → IfOk r (λ users. (told : Bool) → Tells (view_of names (device told) k) (AreUsers (setting_by (device told) k) area (items users)))
all-told items names device k area (Ok users) h = λ told l sound stood.
    users-told (device told) (closing_of k) k stood.0 stood.1 l sound stood.2 area (items users) h
all-told items names device k area (Err e) h = tt
