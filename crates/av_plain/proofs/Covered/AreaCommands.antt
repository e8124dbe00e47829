-- Commands that change the areas of one process keep frames and slots covered.
use Rattle.std.proofs.Common.{◌≡◌, ℕ, ◌+◌, ◌-◌, ◌<◌, Bool, true, false, cond, if◌then◌else◌, Some, None, is_some, IsSomeAnd, refl, sym, ap, subst, ◌∙◌, arith, ◌==◌}
use Rattle.std.proofs.lemmas.Bool.{false≢true}
use Rattle.std.proofs.lemmas.Bool.Decides.{nat_tests}
use Rattle.std.specs.Ordering.{nat_cmp, eq_by_cmp}
use Rattle.av_base.specs.Keys.{Key}
use Rattle.av_base.specs.Words.{with_at, within}
use Rattle.av_base.specs.declared.flags.Flag.{Flag}
use Rattle.av_base.specs.declared.flags.Flags.{Flags}
use Rattle.av_base.specs.declared.prot.Prot.{Prot}
use Rattle.av_vma.specs.Gap.{IsRoom}
use Rattle.av_vma.specs.Pages.{AreLaid, Effect, Pages, after_map, after_unmap, home_of, pages_changed, to_flag}
use Rattle.av_vma.proofs.Homes.{homes_changed, homes_mapped, homes_unmapped}
use Rattle.av_vma.proofs.Laid.{has_area}
use Rattle.av_vma.proofs.Owns.{AddsNoOwn, adds_neither, owns_changed, owns_mapped, owns_unmapped}
use Rattle.av_plain.specs.Areas.{AreLeft, Rmap, chain_length, none_on, rmap_after_flag}
use Rattle.av_plain.specs.Ledger.{Ledger, entry}
use Rattle.av_plain.specs.Sound.{AtPages}
use Rattle.av_plain.specs.World.{Process, World, end_process, no_pages, pages, set_process, with_pages}
use Rattle.av_plain.proofs.Covered.{AnonsStay, Owns, stay-left}
use Rattle.av_plain.proofs.Covered.Swap.{Reach}
use Rattle.av_plain.proofs.Covered.Zaps.{next-reach}
use Rattle.av_plain.proofs.Sound.Counts.{same-is, same-itself}
use Rattle.av_plain.proofs.Sound.Zap.{pages-ended}
use Rattle.av_plain.proofs.World.{pages-set}

-- the areas of one process become these
pub one-reach : (l : Ledger) (r next : Rmap) (p : ℕ) (on : Pages) → next.areas ≡ with_at p on r.areas → AddsNoOwn (r.areas p) on
    → ((page : ℕ) (h : ℕ × ℕ) → is_some (entry l (p, page)) ≡ true → home_of page (r.areas p page) ≡ Some h → home_of page (on page) ≡ Some h)
    → AnonsStay r.anons next.areas next.anons → next.homes ≡ r.homes → next.items ≡ r.items → Reach l r → Reach l next
one-reach l r next p on areas adds keeps = next-reach l r next (λ k h there is. home k h (k.0 == p) refl there is)
    (λ q page v is. owns q page v (q == p) refl is)
  where
    at_p : (q : ℕ) (b : Bool) → (q == p) ≡ b → next.areas q ≡ cond b on (r.areas q)
    at_p q b e = ap (λ x. x q) areas ∙ ap (λ b. cond b on (r.areas q)) e

    home : (k : Key) (h : ℕ × ℕ) (b : Bool) → (k.0 == p) ≡ b → is_some (entry l k) ≡ true → home_of k.1 (r.areas k.0 k.1) ≡ Some h →
        home_of k.1 (next.areas k.0 k.1) ≡ Some h
    home k h true e there is = let same = same-is k.0 p e in
        ap (λ (x : Pages). home_of k.1 (x k.1)) (at_p k.0 true e)
        ∙ keeps k.1 h (subst (λ q. is_some (entry l (q, k.1)) ≡ true) same there) (subst (λ q. home_of k.1 (r.areas q k.1) ≡ Some h) same is)
    home k h false e there is = ap (λ (x : Pages). home_of k.1 (x k.1)) (at_p k.0 false e) ∙ is

    owns : (q page v : ℕ) (b : Bool) → (q == p) ≡ b → Owns next q page v → (x : ℕ) × (other : ℕ) × Owns r x other v
    owns q page v true e is =
        let was = adds page v (subst (λ (x : Pages). IsSomeAnd (x page) (λ area. area.anon ≡ Some v)) (at_p q true e) is) in (p, was.0, was.1)
    owns q page v false e is = (q, page, subst (λ (x : Pages). IsSomeAnd (x page) (λ area. area.anon ≡ Some v)) (at_p q false e) is)

-- ---- the commands

at-set : (w : World) (p : ℕ) (now : Process) (page : ℕ) → pages (set_process w p now) p page ≡ now page
at-set w p now page = pages-set w p now p page ∙ ap (λ b. cond b (now page) (pages w p page)) (itself p)
  where
    itself : (p : ℕ) → eq_by_cmp nat_cmp p p ≡ true
    itself p = grind (arith, nat_tests)

-- there is no page, and so no entry
no_page : (w : World) (l : Ledger) (p page : ℕ) → AtPages w l → pages w p page ≡ None → is_some (entry l (p, page)) ≡ true → ⊥
no_page w l p page at none there = false≢true (sym (ap is_some none) ∙ at p page there)

-- a process without areas has none that adds
none-adds : (on : Pages) → AddsNoOwn on none_on
none-adds on page own has = absurd has

pub spawn-reach : (w : World) (l : Ledger) (r next : Rmap) (p : ℕ) → next.areas ≡ with_at p none_on r.areas → AtPages (set_process w p no_pages) l →
    AreLeft r.anons next.areas next.anons → next.homes ≡ r.homes → next.items ≡ r.items → Reach l r → Reach l next
spawn-reach w l r next p areas at left = one-reach l r next p none_on areas (none-adds (r.areas p))
    (λ page h there is. absurd (no_page (set_process w p no_pages) l p page at (at-set w p no_pages page) there))
    (stay-left r.anons next.areas next.anons left)

pub exit-reach : (w : World) (l : Ledger) (r next : Rmap) (p : ℕ) → next.areas ≡ with_at p none_on r.areas → AtPages (end_process w p) l →
    AreLeft r.anons next.areas next.anons → next.homes ≡ r.homes → next.items ≡ r.items → Reach l r → Reach l next
exit-reach w l r next p areas at left = one-reach l r next p none_on areas (none-adds (r.areas p))
    (λ page h there is. absurd (no_page (end_process w p) l p page at
    (pages-ended w p p page ∙ ap (λ b. cond b None (pages w p page)) (same-itself p)) there))
    (stay-left r.anons next.areas next.anons left)

pub unmap-reach : (w : World) (l : Ledger) (r next : Rmap) (p from n : ℕ) → AreLaid (r.areas p) →
    next.areas ≡ with_at p (after_unmap from (from + n) (r.areas p)) r.areas → AtPages (set_process w p (with_pages (pages w p) from n no_pages)) l →
    AreLeft r.anons next.areas next.anons → next.homes ≡ r.homes → next.items ≡ r.items → Reach l r → Reach l next
unmap-reach w l r next p from n laid areas at left =
    one-reach l r next p (after_unmap from (from + n) (r.areas p)) areas (owns_unmapped from (from + n) (r.areas p))
    (λ page h there is. by page h (within from n page) refl there is) (stay-left r.anons next.areas next.anons left)
  where
    now : Process
    now = with_pages (pages w p) from n no_pages

    by : (page : ℕ) (h : ℕ × ℕ) (b : Bool) → within from n page ≡ b → is_some (entry l (p, page)) ≡ true → home_of page (r.areas p page) ≡ Some h →
        home_of page (after_unmap from (from + n) (r.areas p) page) ≡ Some h
    by page h true e there is = absurd (no_page (set_process w p (with_pages (pages w p) from n no_pages)) l p page at
        (at-set w p (with_pages (pages w p) from n no_pages) page ∙ ap (λ b. if b then None else pages w p page) e) there)
    by page h false e there is = homes_unmapped from (from + n) (r.areas p) laid page (stays page e) ∙ is
      where
        stays : (page : ℕ) → within from n page ≡ false → within from (from + n - from) page ≡ false
        stays page e = grind (arith, nat_tests, e)

-- some pages get a protection or flags
pub change-reach : (l : Ledger) (r next : Rmap) (p from n : ℕ) (effect : Effect) → AreLaid (r.areas p) →
    next.areas ≡ with_at p (pages_changed (chain_length r.anons) effect from n (r.areas p)) r.areas →
    AreLeft r.anons next.areas next.anons → next.homes ≡ r.homes → next.items ≡ r.items → Reach l r → Reach l next
change-reach l r next p from n effect laid areas left = one-reach l r next p (pages_changed (chain_length r.anons) effect from n (r.areas p)) areas
    (owns_changed (chain_length r.anons) effect from n (r.areas p))
    (λ page h there is. homes_changed (chain_length r.anons) effect from n (r.areas p) laid page h is)
    (stay-left r.anons next.areas next.anons left)

-- so it is once a flag of some pages is set, while all anon_vmas stay
pub flag-reach : (l : Ledger) (r : Rmap) (p from n : ℕ) (flag : Flag) (set : Bool) → AreLaid (r.areas p) → Reach l r
    → Reach l (rmap_after_flag p from n flag set r)
flag-reach l r p from n flag set laid = one-reach l r (rmap_after_flag p from n flag set r) p
    (pages_changed (chain_length r.anons) (to_flag flag set) from n (r.areas p)) refl
    (owns_changed (chain_length r.anons) (to_flag flag set) from n (r.areas p))
    (λ page h there is. homes_changed (chain_length r.anons) (to_flag flag set) from n (r.areas p) laid page h is)
    (record { next = refl; same = λ v there. refl; linked = λ v linked. refl }) refl refl

-- free pages are mapped, where the entries of the room that was made for them have gone
pub map-reach : (l : Ledger) (r next : Rmap) (p from past : ℕ) (prot : Prot) (flags : Flags) (room : Pages) → AreLaid room → from < past →
    IsRoom (has_area room) (past - from) from → AddsNoOwn (r.areas p) room
    → ((page : ℕ) (h : ℕ × ℕ) → is_some (entry l (p, page)) ≡ true → home_of page (r.areas p page) ≡ Some h → home_of page (room page) ≡ Some h)
    → next.areas ≡ with_at p (after_map (chain_length r.anons) p from past prot flags room) r.areas → AreLeft r.anons next.areas next.anons
    → next.homes ≡ r.homes → next.items ≡ r.items → Reach l r → Reach l next
map-reach l r next p from past prot flags room laid some free adds keeps areas left =
    one-reach l r next p (after_map (chain_length r.anons) p from past prot flags room) areas
    (adds_neither (r.areas p) room (after_map (chain_length r.anons) p from past prot flags room) adds
    (owns_mapped (chain_length r.anons) p from past prot flags room))
    (λ page h there is. homes_mapped (chain_length r.anons) p from past prot flags room laid some free page h (keeps page h there is))
    (stay-left r.anons next.areas next.anons left)
