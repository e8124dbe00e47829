-- A process's pages after a change.
use Rattle.std.proofs.Common.{◌≡◌, ℕ, ◌+◌, ◌≤◌, Bool, true, false, cond, arith, Option, Some, None, refl, sym, ap, subst, ◌∙◌}
use Rattle.std.specs.Prelude.{Result, Ok, Err, OnErr, OnOk, option_and_then, option_map}
use Rattle.std.specs.Ordering.{nat_cmp}
use Rattle.std.proofs.lemmas.Bool.Decides.{nat_tests}
use Rattle.std.specs.BTreeMap.{get}
use Rattle.av_base.specs.Flags.{no_flags}
use Rattle.av_base.specs.Limits.{top_page}
use Rattle.av_base.specs.Words.{within}
use Rattle.av_base.specs.declared.prot.Prot.{Prot}
use Rattle.av_plain.specs.World.{Page, Process, no_pages, wiped, with_change_on, with_page_flag, with_pages, with_prot, zeros}
use Rattle.av_audit_ranges.specs.Ranges.{marks_at}
use Rattle.av_audit_ranges.specs.Marks.{change_of}
use Rattle.av_audit_world.specs.Mapping.{AreChanged, AreWiped}
use Rattle.av_audit_world.specs.Space.{IsPage, IsSpace, byte_in}
use Rattle.av_audit_ranges.specs.declared.marks.Change.{Change}
use Rattle.av_audit_ranges.specs.declared.marks.Change.TheVariants.{Unmap, Protect, Mark}
use Rattle.av_audit_ranges.specs.declared.marks.Marks.{Marks}
use Rattle.av_audit_world.specs.declared.space.Space.{Space}

-- the page that a changed one becomes
abbrev page_changed : Change → Option Page → Option Page
page_changed Unmap p = None
page_changed (Protect prot) p = option_map (with_prot prot) p
page_changed (Mark flag set) p = option_map (with_page_flag flag set) p

one-changed : (change : Change) (o : Option Marks) (at : ℕ → ℕ) (p : Option Page) → IsPage o at p
    → IsPage (option_and_then (change_of change) o) at (page_changed change p)
one-changed Unmap None at p h = tt
one-changed Unmap (Some k) at p h = tt
one-changed (Protect prot) None at None h = tt
one-changed (Protect prot) None at (Some p) h = absurd h
one-changed (Protect prot) (Some k) at None h = absurd h
one-changed (Protect prot) (Some k) at (Some p) h = (refl, h.1, h.2)
one-changed (Mark flag set) None at None h = tt
one-changed (Mark flag set) None at (Some p) h = absurd h
one-changed (Mark flag set) (Some k) at None h = absurd h
one-changed (Mark flag set) (Some k) at (Some p) h = (h.0, ap (λ f. (with_page_flag flag set (record p { flags = f })).flags) h.1, h.2)

each : (b : Bool) (change : Change) (o : Option Marks) (at : ℕ → ℕ) (p : Option Page) → IsPage o at p
    → IsPage (cond b (option_and_then (change_of change) o) o) at (cond b (page_changed change p) p)
each true change o at p h = one-changed change o at p h
each false change o at p h = h

pub pages-changed : (old new : Space) (q : Process) (from n : ℕ) (change : Change) → IsSpace old q → AreChanged old new from n change
    → IsSpace new (λ page. cond (within from n page) (page_changed change (q page)) (q page))
pages-changed old new q from n change h c = record {
  pages = λ page.
      subst (λ o. IsPage o (byte_in (get nat_cmp new.bytes page)) (cond (within from n page) (page_changed change (q page)) (q page)))
      (sym (c.ranges page))
      (subst (λ b. IsPage (cond (within from n page) (option_and_then (change_of change) (marks_at old.ranges page)) (marks_at old.ranges page))
      (byte_in (get nat_cmp b page)) (cond (within from n page) (page_changed change (q page)) (q page))) (sym c.bytes)
      (each (within from n page) change (marks_at old.ranges page) (byte_in (get nat_cmp old.bytes page)) (q page) (h.pages page)));
  top = λ page high. ap (λ p. cond (within from n page) (page_changed change p) p) (h.top page high)
      ∙ none-changed (within from n page) change;
}
  where
    none-changed : (b : Bool) (change : Change) → cond b (page_changed change None) None ≡ None
    none-changed true Unmap = refl
    none-changed true (Protect prot) = refl
    none-changed true (Mark flag set) = refl
    none-changed false change = refl

-- what follows from what is so where it is done
pub on-ok : {A E : Type 0} {P Q : Type 0} (r : Result A E) → OnOk r P → (P → Q) → OnOk r Q
on-ok (Ok x) h f = f h
on-ok (Err e) h f = tt

-- and where it isn't
pub on-err : {A E : Type 0} {P Q : Type 0} (r : Result A E) → OnErr r P → (P → Q) → OnErr r Q
on-err (Ok x) h f = tt
on-err (Err e) h f = f h

-- a process has the same pages where the same is said of each, and the bytes are the same
pub same-pages : (old new : Space) (q : Process) → ((page : ℕ) → marks_at new.ranges page ≡ marks_at old.ranges page)
    → new.bytes ≡ old.bytes → IsSpace old q → IsSpace new q
same-pages old new q said kept h = record {
  pages = λ page. subst (λ o. IsPage o (byte_in (get nat_cmp new.bytes page)) (q page)) (sym (said page))
      (subst (λ b. IsPage (marks_at old.ranges page) (byte_in (get nat_cmp b page)) (q page)) (sym kept) (h.pages page));
  top = h.top;
}

-- ---- zeros

pub one-wiped : {A : Type 0} (b : Bool) (o : Option Marks) (bytes : Option A) (at : Option A → ℕ → ℕ) (p : Option Page)
    → ((i : ℕ) → at None i ≡ 0) → IsPage o (at bytes) p → IsPage o (at (cond b None bytes)) (cond b (option_map wiped p) p)
one-wiped true None bytes at None zero h = tt
one-wiped true None bytes at (Some p) zero h = absurd h
one-wiped true (Some k) bytes at None zero h = absurd h
one-wiped true (Some k) bytes at (Some p) zero h = (h.0, h.1, λ i low. ap Some (sym (zero i)))
one-wiped false o bytes at p zero h = h

-- where none are kept there are zeros
pub zero-byte : (i : ℕ) → byte_in None i ≡ 0
zero-byte i = refl

pub pages-wiped : (old new : Space) (q : Process) (from n : ℕ) → IsSpace old q → AreWiped old new from n
    → IsSpace new (with_change_on q from n wiped)
pages-wiped old new q from n h w = record {
  pages = λ page.
      subst (λ r. IsPage (marks_at r page) (byte_in (get nat_cmp new.bytes page)) (with_change_on q from n wiped page)) (sym w.ranges)
      (subst (λ b. IsPage (marks_at old.ranges page) (byte_in b) (with_change_on q from n wiped page)) (sym (w.bytes page))
      (one-wiped (within from n page) (marks_at old.ranges page) (get nat_cmp old.bytes page) byte_in (q page) zero-byte (h.pages page)));
  top = λ page high. ap (λ p. cond (within from n page) (option_map wiped p) p) (h.top page high) ∙ none (within from n page);
}
  where
    nothing : Option Page
    nothing = None

    none : (b : Bool) → cond b (option_map wiped nothing) nothing ≡ None
    none true = refl
    none false = refl

-- ---- pages that are mapped anew

one-mapped : {A : Type 0} (b : Bool) (o : Option Marks) (bytes : Option A) (at : Option A → ℕ → ℕ) (p : Option Page) (k : Marks)
    → ((i : ℕ) → at None i ≡ 0) → IsPage o (at bytes) p
    → IsPage (cond b (Some k) o) (at (cond b None bytes)) (cond b (Some (record { prot = k.prot; flags = k.flags; bytes = λ _. Some 0 })) p)
one-mapped true o bytes at p k zero h = (refl, refl, λ i low. ap Some (sym (zero i)))
one-mapped false o bytes at p k zero h = h

-- other marks are put there, and the pages are wiped
pub pages-mapped : (old mid new : Space) (q : Process) (from n : ℕ) (prot : Prot) → IsSpace old q → from + n ≤ top_page
    → ((page : ℕ) → marks_at mid.ranges page ≡ cond (within from n page) (Some (record { prot = prot; flags = no_flags })) (marks_at old.ranges page))
    → mid.bytes ≡ old.bytes → AreWiped mid new from n → IsSpace new (with_pages q from n (λ _. Some (zeros prot)))
pages-mapped old mid new q from n prot h fits said kept w = record {
  pages = λ page.
      let bytes : get nat_cmp new.bytes page ≡ cond (within from n page) None (get nat_cmp old.bytes page) =
      w.bytes page ∙ ap (λ b. cond (within from n page) None (get nat_cmp b page)) kept in
      subst (λ o. IsPage o (byte_in (get nat_cmp new.bytes page)) (with_pages q from n (λ _. Some (zeros prot)) page))
      (sym (ap (λ r. marks_at r page) w.ranges ∙ said page))
      (subst (λ b. IsPage (cond (within from n page) (Some k) (marks_at old.ranges page)) (byte_in b)
      (with_pages q from n (λ _. Some (zeros prot)) page)) (sym bytes)
      (one-mapped (within from n page) (marks_at old.ranges page) (get nat_cmp old.bytes page) byte_in (q page) k zero-byte (h.pages page)));
  top = λ page high. ap (λ b. cond b (Some (zeros prot)) (q page)) (outside page high) ∙ h.top page high;
}
  where
    outside : (page : ℕ) → top_page ≤ page → within from n page ≡ false
    outside page high = grind (arith, nat_tests, fits, high)

    k : Marks
    k = record { prot = prot; flags = no_flags }

-- unmapped, and wiped
pub pages-unmapped : (old mid new : Space) (q : Process) (from n : ℕ) → IsSpace old q
    → AreChanged old mid from n Unmap → AreWiped mid new from n → IsSpace new (with_pages q from n no_pages)
pages-unmapped old mid new q from n h c w = record {
  pages = λ page. subst (λ p. IsPage (marks_at new.ranges page) (byte_in (get nat_cmp new.bytes page)) p)
      (gone (within from n page) (q page))
      ((pages-wiped mid new (λ page. cond (within from n page) None (q page)) from n (pages-changed old mid q from n Unmap h c) w).pages page);
  top = λ page high. ap (λ p. cond (within from n page) None p) (h.top page high) ∙ none (within from n page);
}
  where
    nothing : Option Page
    nothing = None

    none : (b : Bool) → cond b nothing nothing ≡ None
    none true = refl
    none false = refl

    gone : (b : Bool) (p : Option Page) → cond b (option_map wiped (cond b None p)) (cond b None p) ≡ cond b None p
    gone true p = refl
    gone false p = refl
