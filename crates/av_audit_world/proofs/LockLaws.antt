-- Which pages are locked, and which processes have one.
use Rattle.std.proofs.Common.{◌≡◌, ℕ, Bool, true, false, cond, ◌&&◌, List, Option, Some, None, refl, sym, ap, subst, ◌∙◌}
use Rattle.std.specs.Prelude.{option_and_then}
use Rattle.std.specs.BTreeMap.{BTreeMap, get, is_at}
use Rattle.std.specs.BTreeSet.{BTreeSet, contains}
use Rattle.std.specs.Ordering.{nat_cmp}
use Rattle.av_base.specs.Keys.{Key}
use Rattle.av_plain.specs.World.{Page, Process, World, is_locked_page, pages, process, with_bytes}
use Rattle.av_audit_ranges.specs.Marks.{is_locked}
use Rattle.av_audit_ranges.specs.Ranges.{marks_at}
use Rattle.av_audit_ranges.specs.declared.marks.Marks.{Marks}
use Rattle.av_audit_world.specs.Locks.{IsFirstRun, locks_page, marks_kept}
use Rattle.av_audit_world.specs.Memories.{AreNoted, IsProcess, IsWorld}
use Rattle.av_audit_world.specs.Space.{IsPage, IsSpace}
use Rattle.av_audit_world.specs.declared.memories.Memories.{Memories}
use Rattle.av_audit_world.specs.declared.space.Space.{Space}
use Rattle.av_audit_world.proofs.KeptLaws.{key-self, same-key}
use Rattle.av_audit_world.proofs.WorldLaws.{spaces-find}

pub lock-is : (o : Option Marks) (at : ℕ → ℕ) (p : Option Page) → IsPage o at p → is_locked o ≡ is_locked_page p
lock-is None at None h = refl
lock-is None at (Some p) h = absurd h
lock-is (Some k) at None h = absurd h
lock-is (Some k) at (Some p) h = λ i. (sym h.1 i).locked

not-both : (b : Bool) → b ≡ true → b ≡ false → ⊥
not-both b h g = cc

-- ---- those that are noted

module _ (old new : BTreeMap ℕ Space) (locking noted : BTreeSet ℕ) (p : ℕ) (h : AreNoted old locking) where
  -- a process gets such pages
  pub noted-set : (s : Space) → ((q : ℕ) → get nat_cmp new q ≡ cond (is_at (nat_cmp p) q) (Some s) (get nat_cmp old q))
      → ((q : ℕ) → is_at (nat_cmp p) q ≡ false → contains nat_cmp locking q ≡ true → contains nat_cmp noted q ≡ true)
      → ((page : ℕ) → is_locked (marks_at s.ranges page) ≡ true → contains nat_cmp noted p ≡ true) → AreNoted new noted
  noted-set s put others here = λ q t page is locked. by q t page (is_at (nat_cmp p) q) refl (sym (put q) ∙ is) locked
    where
      inner : (a b : Space) → Some a ≡ Some b → a ≡ b
      inner a b e = cc

      by : (q : ℕ) (t : Space) (page : ℕ) (b : Bool) → is_at (nat_cmp p) q ≡ b → cond b (Some s) (get nat_cmp old q) ≡ Some t
          → is_locked (marks_at t.ranges page) ≡ true → contains nat_cmp noted q ≡ true
      by q t page true e is locked = subst (λ q. contains nat_cmp noted q ≡ true) (sym (same-key p q e))
          (here page (subst (λ (t : Space). is_locked (marks_at t.ranges page) ≡ true) (sym (inner s t is)) locked))
      by q t page false e is locked = others q e (h q t page is locked)

  -- or goes
  pub noted-gone : ((q : ℕ) → get nat_cmp new q ≡ cond (is_at (nat_cmp p) q) None (get nat_cmp old q))
      → ((q : ℕ) → is_at (nat_cmp p) q ≡ false → contains nat_cmp locking q ≡ true → contains nat_cmp noted q ≡ true) → AreNoted new noted
  noted-gone lost others = λ q t page is locked. by q t page (is_at (nat_cmp p) q) refl (sym (lost q) ∙ is) locked
    where
      by : (q : ℕ) (t : Space) (page : ℕ) (b : Bool) → is_at (nat_cmp p) q ≡ b → cond b None (get nat_cmp old q) ≡ Some t
          → is_locked (marks_at t.ranges page) ≡ true → contains nat_cmp noted q ≡ true
      by q t page true e is locked = cc
      by q t page false e is locked = others q e (h q t page is locked)

-- the others stay noted
pub others-noted : (locking noted : BTreeSet ℕ) (p : ℕ) (locks : Bool)
    → ((q : ℕ) → contains nat_cmp noted q ≡ cond (is_at (nat_cmp p) q) locks (contains nat_cmp locking q))
    → (q : ℕ) → is_at (nat_cmp p) q ≡ false → contains nat_cmp locking q ≡ true → contains nat_cmp noted q ≡ true
others-noted locking noted p locks is q other was = is q ∙ ap (λ b. cond b locks (contains nat_cmp locking q)) other ∙ was

-- whether a process is noted as it is told to be
pub here-noted : (locking noted : BTreeSet ℕ) (p : ℕ) (locks : Bool) (s : Space)
    → ((q : ℕ) → contains nat_cmp noted q ≡ cond (is_at (nat_cmp p) q) locks (contains nat_cmp locking q)) → is_at (nat_cmp p) p ≡ true
    → (locks ≡ false → (page : ℕ) → is_locked (marks_at s.ranges page) ≡ false)
    → (page : ℕ) → is_locked (marks_at s.ranges page) ≡ true → contains nat_cmp noted p ≡ true
here-noted locking noted p locks s is self none page locked =
    is p ∙ ap (λ b. cond b locks (contains nat_cmp locking p)) self ∙ by locks refl
  where
    by : (b : Bool) → locks ≡ b → locks ≡ true
    by true e = e
    by false e = absurd (not-both (is_locked (marks_at s.ranges page)) locked (none e page))

-- a process has other pages, and whether it has a locked one is noted
pub noted-again : (old new : BTreeMap ℕ Space) (locking noted : BTreeSet ℕ) (p : ℕ) (s : Space) (locks : Bool) → AreNoted old locking
    → ((q : ℕ) → get nat_cmp new q ≡ cond (is_at (nat_cmp p) q) (Some s) (get nat_cmp old q))
    → ((q : ℕ) → contains nat_cmp noted q ≡ cond (is_at (nat_cmp p) q) locks (contains nat_cmp locking q))
    → (locks ≡ false → (page : ℕ) → is_locked (marks_at s.ranges page) ≡ false) → AreNoted new noted
noted-again old new locking noted p s locks h put is none = noted-set old new locking noted p h s put
    (others-noted locking noted p locks is) (here-noted locking noted p locks s is (key-self p) none)

-- a process that is gone isn't noted
pub noted-less : (old new : BTreeMap ℕ Space) (locking noted : BTreeSet ℕ) (p : ℕ) → AreNoted old locking
    → ((q : ℕ) → get nat_cmp new q ≡ cond (is_at (nat_cmp p) q) None (get nat_cmp old q))
    → ((q : ℕ) → contains nat_cmp noted q ≡ cond (is_at (nat_cmp p) q) false (contains nat_cmp locking q)) → AreNoted new noted
noted-less old new locking noted p h lost is = noted-gone old new locking noted p h lost (others-noted locking noted p false is)

-- ---- bytes that are written lock none

bytes-lock : (o : Option Page) (a : ℕ) (bytes : List ℕ) (page : ℕ) → is_locked_page (with_bytes (λ _. o) a bytes page) ≡ is_locked_page o
bytes-lock None a bytes page = refl
bytes-lock (Some p) a bytes page = refl

pub written-lock : (old new : Space) (q : Process) (a : ℕ) (bytes : List ℕ) (page : ℕ) → IsSpace old q → IsSpace new (with_bytes q a bytes)
    → is_locked (marks_at new.ranges page) ≡ is_locked (marks_at old.ranges page)
written-lock old new q a bytes page h g = lock-is (marks_at new.ranges page) _ (with_bytes q a bytes page) (g.pages page)
    ∙ bytes-lock (q page) a bytes page ∙ sym (lock-is (marks_at old.ranges page) _ (q page) (h.pages page))

-- ---- those that are noted are looked at alone

-- a process with a locked page is noted
pub locks-noted : (memories : Memories) (w : World) → IsWorld memories w → (p page : ℕ) → is_locked_page (pages w p page) ≡ true
    → contains nat_cmp memories.locking p ≡ true
locks-noted memories w h p page locked =
    by (get nat_cmp memories.spaces p) _ (spaces-find memories.spaces.entries w p h.spaces) locked (λ s is locked. h.noted p s page is locked)
  where
    by : (o : Option Space) (q : Option Process) → IsProcess o q → is_locked_page (option_and_then (λ (q : Process). q page) q) ≡ true
        → ((s : Space) → o ≡ Some s → is_locked (marks_at s.ranges page) ≡ true → contains nat_cmp memories.locking p ≡ true)
        → contains nat_cmp memories.locking p ≡ true
    by None None g locked noted = cc
    by None (Some q) g locked noted = absurd g
    by (Some s) None g locked noted = absurd g
    by (Some s) (Some q) g locked noted = noted s refl (lock-is (marks_at s.ranges page) _ (q page) (g.pages page) ∙ locked)

-- ---- what is kept says which pages are locked

-- of a page
pub locks-is : (memories : Memories) (w : World) → IsWorld memories w → (k : Key) → locks_page memories k ≡ is_locked_page (pages w k.0 k.1)
unfolding locks_page
locks-is memories w h k =
    by (contains nat_cmp memories.locking k.0) (is_locked (marks_kept memories k)) (is_locked_page (pages w k.0 k.1))
    (said (get nat_cmp memories.spaces k.0) (process w k.0) (spaces-find memories.spaces.entries w k.0 h.spaces))
    (locks-noted memories w h k.0 k.1)
  where
    said : (o : Option Space) (q : Option Process) → IsProcess o q
        → is_locked (option_and_then (λ (s : Space). marks_at s.ranges k.1) o)
        ≡ is_locked_page (option_and_then (λ (q : Process). q k.1) q)
    said None None g = refl
    said None (Some q) g = absurd g
    said (Some s) None g = absurd g
    said (Some s) (Some q) g = lock-is (marks_at s.ranges k.1) _ (q k.1) (g.pages k.1)

    by : (noted kept is : Bool) → kept ≡ is → (is ≡ true → noted ≡ true) → (noted && kept) ≡ is
    by true kept is e noted = e
    by false kept true e noted = noted refl
    by false kept false e noted = refl

-- one that isn't noted has none
pub unnoted : (memories : Memories) (k : Key) → contains nat_cmp memories.locking k.0 ≡ false → locks_page memories k ≡ false
unfolding locks_page
unnoted memories k none = ap (λ b. b && is_locked (marks_kept memories k)) none

-- and of one that is it is asked
pub noted-locks : (memories : Memories) (k : Key) (o : Option Marks) → contains nat_cmp memories.locking k.0 ≡ true → o ≡ marks_kept memories k
    → is_locked o ≡ locks_page memories k
unfolding locks_page
noted-locks memories k o noted is = ap is_locked is ∙ ap (λ b. b && is_locked (marks_kept memories k)) (sym noted)

-- so one with a locked page is noted
pub kept-noted : (memories : Memories) (k : Key) → locks_page memories k ≡ true → contains nat_cmp memories.locking k.0 ≡ true
unfolding locks_page
kept-noted memories k locked = by (contains nat_cmp memories.locking k.0) (is_locked (marks_kept memories k)) locked
  where
    by : (a b : Bool) → (a && b) ≡ true → a ≡ true
    by true b h = refl
    by false b h = h

-- ---- the first that is locked

-- a run by another test that says the same
pub same-run : (t u : ℕ → Bool) (from : ℕ) (run : Option (ℕ × ℕ)) → ((page : ℕ) → t page ≡ u page) → IsFirstRun t from run → IsFirstRun u from run
same-run t u from run same h = subst (λ (t : ℕ → Bool). IsFirstRun t from run) (λ i page. same page i) h
