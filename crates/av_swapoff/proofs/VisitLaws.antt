-- How the users of slots come together, one visit after another.
use Rattle.std.proofs.Common.{◌≡◌, ◌≢◌, ℕ, ◌+◌, ◌<◌, ◌≤◌, ◌⊎◌, inl, inr, Bool, true, false, cond, ◌==◌, ◌&&◌, nat_lt, List, ◌++◌, length, set, take, drop, Option, Some, None, is_some, refl, sym, ap, subst, ◌∙◌, arith, length-set}
use Rattle.std.proofs.lemmas.Bool.{cases_eq, cases_lt, false≢true}
use Rattle.std.proofs.lemmas.Bool.Decides.{nat_tests}
use Rattle.std.proofs.Math.Seq.{drop-length, take-length}
use Rattle.std.proofs.lemmas.List.{append-nil, length-replicate, get_or-replicate, get_or-set_other, get_or-set_same, get_or_past}
use Rattle.std.specs.Prelude.{replicate}
use Rattle.av_base.specs.Keys.{Key}
use Rattle.av_base.specs.declared.slot.Slot.{Slot}
use Rattle.av_pagetable.specs.declared.pte.Pte.TheVariants.{Empty}
use Rattle.av_pagetable.specs.Entries.{IsFirstProcess, entry_at, has}
use Rattle.av_pagetable.specs.Table.{IsFirst, page_bound}
use Rattle.av_pagetable.proofs.Entries.{none_there}
use Rattle.av_plain.specs.Stands.{View}
use Rattle.av_mem.specs.Entries.{slot_behind}
use Rattle.av_mem.specs.Mem.{plain, view}
use Rattle.av_mem.specs.declared.mem.Mem.{Mem}
use Rattle.av_swapoff.specs.System.{slot_at}
use Rattle.av_swapoff.specs.Users.{AreUsersBy, HasUsers, IsUnused, Uses, Visits, user_at, with_user}

-- ---- one user

-- a slot of the area with this page is that
at-page : (area : ℕ) (s : Slot) → (s.area == area) ≡ true → s ≡ slot_at area s.page
at-page area s h = let same : s.area ≡ area = grind (arith, nat_tests, h) in λ i. record { area = same i; page = s.page }

both : (a b : Bool) → (a && b) ≡ true → (a ≡ true) × (b ≡ true)
both true b h = (refl, h)
both false b h = absurd (false≢true h)

is-below : (m n : ℕ) → nat_lt m n ≡ true → m < n
is-below m n h = grind (arith, nat_tests, h)

passes : (s : Slot) (area page n : ℕ) → s ≡ slot_at area page → page < n → (s.area == area && nat_lt s.page n) ≡ true
passes s area page n is below =
    let a : s.area ≡ area = ap (λ (t : Slot). t.area) is in
    let p : s.page ≡ page = ap (λ (t : Slot). t.page) is in
    let first : (s.area == area) ≡ true = grind (arith, nat_tests, a) in
    let second : nat_lt s.page n ≡ true = grind (arith, nat_tests, p, below) in
    ap (λ b. b && nat_lt s.page n) first ∙ second

is-it : (s t : Slot) → Some s ≡ Some t → s ≡ t
is-it s t e = cc

no-slot : (s : Slot) → None ≡ Some s → ⊥
no-slot s e = cc

module _ (v : View) (area : ℕ) where
  -- the slot of a key is added
  pub visits-one : (o : Option Slot) (k : Key) (users : List (Option Key)) → o ≡ slot_behind v (v.table k.0 k.1)
      → Visits v area (λ q. q ≡ k) users (with_user area o k users)
  visits-one None k users is = record {
    long = refl;
    keeps = λ page h. h;
    finds = λ page q below same uses.
        absurd (no-slot (slot_at area page) (is ∙ ap (λ (q : Key). slot_behind v (v.table q.0 q.1)) (sym same) ∙ uses));
    are = λ h. h;
  }
  visits-one (Some s) k users is = by (s.area == area && nat_lt s.page (length users)) refl
    where
      uses-it : (page : ℕ) (q : Key) → q ≡ k → Uses v (slot_at area page) q → s ≡ slot_at area page
      uses-it page q same uses =
          is-it s (slot_at area page) (is ∙ ap (λ (q : Key). slot_behind v (v.table q.0 q.1)) (sym same) ∙ uses)

      by : (b : Bool) → (s.area == area && nat_lt s.page (length users)) ≡ b
          → Visits v area (λ q. q ≡ k) users (cond b (set users s.page (Some k)) users)
      by false fails = record {
        long = refl;
        keeps = λ page h. h;
        finds = λ page q below same uses.
            absurd (false≢true (sym fails ∙ passes s area page (length users) (uses-it page q same uses) below));
        are = λ h. h;
      }
      by true holds = record {
        long = length-set users s.page (Some k);
        keeps = λ page h. kept page h (cases_eq page s.page);
        finds = λ page q below same uses.
            let p : page ≡ s.page = ap (λ (t : Slot). t.page) (sym (uses-it page q same uses)) in
            ap (λ n. is_some (user_at (set users s.page (Some k)) n)) p ∙ ap is_some here;
        are = λ old page q. was old page q (cases_eq page s.page);
      }
        where
          below-it : s.page < length users
          below-it = is-below s.page (length users) (both (s.area == area) (nat_lt s.page (length users)) holds).1

          here : user_at (set users s.page (Some k)) s.page ≡ Some k
          here = get_or-set_same users s.page (Some k) None below-it

          there : (page : ℕ) → page ≢ s.page → user_at (set users s.page (Some k)) page ≡ user_at users page
          there page other = get_or-set_other users s.page page (Some k) None other

          kept : (page : ℕ) → is_some (user_at users page) ≡ true → (page ≡ s.page) ⊎ (page ≢ s.page)
              → is_some (user_at (set users s.page (Some k)) page) ≡ true
          kept page h (inl same) = ap (λ n. is_some (user_at (set users s.page (Some k)) n)) same ∙ ap is_some here
          kept page h (inr other) = ap is_some (there page other) ∙ h

          same-key : (q : Key) → Some k ≡ Some q → k ≡ q
          same-key q e = cc

          was : AreUsersBy v area users → (page : ℕ) (q : Key) → (page ≡ s.page) ⊎ (page ≢ s.page)
              → user_at (set users s.page (Some k)) page ≡ Some q → Uses v (slot_at area page) q
          was old page q (inl same) at =
              let it : k ≡ q = same-key q (sym here ∙ ap (user_at (set users s.page (Some k))) (sym same) ∙ at) in
              ap (λ (q : Key). slot_behind v (v.table q.0 q.1)) (sym it) ∙ sym is
              ∙ ap (λ s. Some s) (at-page area s (both (s.area == area) (nat_lt s.page (length users)) holds).0)
              ∙ ap (λ n. Some (slot_at area n)) (sym same)
          was old page q (inr other) at = old page q (sym (there page other) ∙ at)

  -- ---- several visits

  -- no key was visited yet
  pub visits-none : (users : List (Option Key)) (These : Key → Type 0) → ((k : Key) → These k → ⊥) → Visits v area These users users
  visits-none users These none = record {
    long = refl;
    keeps = λ page h. h;
    finds = λ page k below these uses. absurd (none k these);
    are = λ h. h;
  }

  -- these were visited, and then those
  pub visits-then : (A B C : Key → Type 0) (x y z : List (Option Key))
      → ((page : ℕ) (k : Key) → C k → Uses v (slot_at area page) k → A k ⊎ B k)
      → Visits v area A x y → Visits v area B y z → Visits v area C x z
  visits-then A B C x y z split a b = record {
    long = b.long ∙ a.long;
    keeps = λ page h. b.keeps page (a.keeps page h);
    finds = λ page k below these uses. by page k below uses (split page k these uses);
    are = λ h. b.are (a.are h);
  }
    where
      by : (page : ℕ) (k : Key) → page < length x → Uses v (slot_at area page) k → A k ⊎ B k → is_some (user_at z page) ≡ true
      by page k below uses (inl these) = b.keeps page (a.finds page k below these uses)
      by page k below uses (inr those) = b.finds page k (subst (λ n. page < n) (sym a.long) below) those uses

  -- what was visited besides used no slot
  pub visits-all : (A C : Key → Type 0) (x y : List (Option Key)) → ((page : ℕ) (k : Key) → C k → Uses v (slot_at area page) k → A k)
      → Visits v area A x y → Visits v area C x y
  visits-all A C x y each a = record {
    long = a.long;
    keeps = a.keeps;
    finds = λ page k below these uses. a.finds page k below (each page k these uses) uses;
    are = a.are;
  }

  -- an entry that isn't there uses no slot
  pub no-entry : (page : ℕ) (k : Key) → v.table k.0 k.1 ≡ None → Uses v (slot_at area page) k → ⊥
  no-entry page k none uses = no-slot (slot_at area page) (sym (ap (slot_behind v) none) ∙ uses)

-- at first no slot has a user
pub none-long : (pages : ℕ) (users : List (Option Key)) → users ≡ replicate pages None → length users ≡ pages
none-long pages users is = ap length is ∙ length-replicate pages None

pub none-yet : (v : View) (area pages : ℕ) → AreUsersBy v area (replicate pages None)
none-yet v area pages page k at = by (cases_lt page pages)
  where
    no-key : (k : Key) → None ≡ Some k → ⊥
    no-key k e = cc

    past : pages ≤ page → user_at (replicate pages None) page ≡ None
    past far = get_or_past (replicate pages None) page None (let long = none-long pages (replicate pages None) refl in omega (arith, long, far))

    by : (page < pages) ⊎ (pages ≤ page) → Uses v (slot_at area page) k
    by (inl below) = absurd (no-key k (sym (get_or-replicate pages page None None below) ∙ at))
    by (inr far) = absurd (no-key k (sym (past far) ∙ at))

-- ---- processes that aren't there

-- a process without a table has no entry
pub no-table : (k : Mem) (q : Key) → has k.tables q.0 ≡ false → entry_at k.tables q.0 q.1 ≡ Empty
no-table k q away = none_there k.tables q.0 q.1 away

-- ---- one run after another, and one process after another

module _ (k : Mem) (area : ℕ) where
  -- no entry of a page that has none
  none-there : (page : ℕ) (q : Key) → entry_at k.tables q.0 q.1 ≡ Empty → Uses (view k) (slot_at area page) q → ⊥
  none-there page q empty uses = no-entry (view k) area page q (ap plain empty) uses

  -- the keys of a process below a page, and those of so many pages from one on
  abbrev pub Before : ℕ → ℕ → Key → Type 0
  Before process to q = (q.0 ≡ process) × (q.1 < to)

  abbrev pub InRun : ℕ → ℕ → ℕ → Key → Type 0
  InRun process from len q = (q.0 ≡ process) × (from ≤ q.1) × (q.1 < from + len)

  pub run-split : (process next page len : ℕ) → IsFirst (entry_at k.tables process) next page_bound page → (slot : ℕ) (q : Key)
      → Before process (page + len) q → Uses (view k) (slot_at area slot) q → Before process next q ⊎ InRun process page len q
  run-split process next page len first slot q here uses = by (cases_lt q.1 next) (cases_lt q.1 page)
    where
      by : (q.1 < next) ⊎ (next ≤ q.1) → (q.1 < page) ⊎ (page ≤ q.1) → Before process next q ⊎ InRun process page len q
      by (inl below) other = inl (here.0, below)
      by (inr low) (inl below) = absurd (none-there slot q (ap (λ p. entry_at k.tables p q.1) here.0 ∙ first.least q.1 low below) uses)
      by (inr low) (inr high) = inr (here.0, high, here.1)

  -- behind the last run of a process there is none
  pub run-last : (process next : ℕ) → ((q : ℕ) → next ≤ q → entry_at k.tables process q ≡ Empty) → (slot : ℕ) (q : Key) → q.0 ≡ process
      → Uses (view k) (slot_at area slot) q → Before process next q
  run-last process next none slot q same uses = by (cases_lt q.1 next)
    where
      by : (q.1 < next) ⊎ (next ≤ q.1) → Before process next q
      by (inl below) = (same, below)
      by (inr high) = absurd (none-there slot q (ap (λ p. entry_at k.tables p q.1) same ∙ none q.1 high) uses)

  pub process-split : (next process : ℕ) → IsFirstProcess (has k.tables) next process → (slot : ℕ) (q : Key) → q.0 < process + 1
      → Uses (view k) (slot_at area slot) q → (q.0 < next) ⊎ (q.0 ≡ process)
  process-split next process first slot q here uses = by (cases_lt q.0 next) (cases_lt q.0 process)
    where
      by : (q.0 < next) ⊎ (next ≤ q.0) → (q.0 < process) ⊎ (process ≤ q.0) → (q.0 < next) ⊎ (q.0 ≡ process)
      by (inl below) other = inl below
      by (inr low) (inl below) = absurd (none-there slot q (no-table k q (first.least q.0 low below)) uses)
      by (inr low) (inr high) = inr (omega (arith, high, here))

  -- ---- all of them

  -- those of the processes below a number, behind which none with a table lives
  pub found-all : (pages n : ℕ) (start users : List (Option Key)) → start ≡ replicate pages None
      → ((page : ℕ) → pages ≤ page → IsUnused (view k) (slot_at area page)) → Visits (view k) area (λ q. q.0 < n) start users
      → ((p : ℕ) → n ≤ p → is_some ((view k).areas p) ≡ true → has k.tables p ≡ false) → HasUsers (view k) area users
  found-all pages n start users fresh past visits none = record {
    are = visits.are (subst (AreUsersBy (view k) area) (sym fresh) (none-yet (view k) area pages));
    finds = λ page q below lives uses. by page q below lives uses (cases_lt q.0 n);
    past = λ page far. past page (let long = so-long in omega (arith, long, far));
  }
    where
      so-long : length users ≡ pages
      so-long = visits.long ∙ none-long pages start fresh

      by : (page : ℕ) (q : Key) → page < length users → is_some ((view k).areas q.0) ≡ true → Uses (view k) (slot_at area page) q
          → (q.0 < n) ⊎ (n ≤ q.0)
          → is_some (user_at users page) ≡ true
      by page q below lives uses (inl low) = visits.finds page q (subst (λ m. page < m) visits.long below) low uses
      by page q below lives uses (inr high) = absurd (none-there page q (no-table k q (none q.0 high lives)) uses)

-- ---- what a slice that was written leaves in its vector

pub all-written : (len : ℕ) (items new : List (Option Key)) → len ≡ length items → length new ≡ length items
    → take len (new ++ drop (length new) items) ≡ new
all-written len items new is long = ap (λ n. take n (new ++ drop (length new) items)) (is ∙ sym long)
    ∙ ap (λ rest. take (length new) (new ++ rest)) (ap (λ n. drop n items) long ∙ drop-length items)
    ∙ ap (take (length new)) (append-nil new) ∙ take-length new
