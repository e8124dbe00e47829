-- Which slots of an area are in use: none past its pages, and none where it is off.
use Rattle.std.proofs.Common.{◌≡◌, ℕ, ◌≤◌, Bool, true, false, cond, not, ◌&&◌, ◌||◌, nat_lt, Option, Some, None, is_some, refl, sym, ap, ◌∙◌, arith}
use Rattle.std.proofs.lemmas.Bool.{false≢true}
use Rattle.std.proofs.lemmas.Bool.Decides.{nat_tests}
use Rattle.std.specs.Prelude.{IfSome, IsSomeAnd}
use Rattle.av_base.specs.declared.slot.Slot.{Slot}
use Rattle.av_clusters.specs.declared.clusters.Page.{Page}
use Rattle.av_clusters.specs.Clusters.{Slots, is_free, is_taken, page_at}
use Rattle.av_swapdev.specs.declared.header.Header.{Header}
use Rattle.av_swapcache.specs.Area.{is_slot}
use Rattle.av_swapcache.specs.Swap.{IsFit, Shown, count_of, header_at, is_on, shown as shown_swap}
use Rattle.av_mem.specs.Mem.{view}
use Rattle.av_mem.specs.declared.mem.Mem.{Mem}
use Rattle.av_swapoff.specs.System.{slot_at}
use Rattle.av_swapoff.specs.Users.{IsUnused}

-- a slot whose count is 0
unused : (k : Mem) (s : Slot) → count_of (shown_swap k.swap) s ≡ 0 → IsUnused (view k) s
unused k s none = record { uncached = by ((shown_swap k.swap).find s) refl; unnamed = omega (arith, none) }
  where
    by : (o : Option ℕ) → (shown_swap k.swap).find s ≡ o → (shown_swap k.swap).find s ≡ None
    by None is = is
    by (Some f) is =
        let one : ◌≡◌ {A = ℕ} (cond (is_some ((shown_swap k.swap).find s)) 1 0) 1 = ap (λ o. cond (is_some o) 1 0) is in
        absurd (omega (arith, none, one))

-- where it isn't taken
not-taken : (h : Shown) (s : Slot) → IsFit h → is_taken (page_at (h.slots s.area).pages s.page) ≡ false → count_of h s ≡ 0
not-taken h s fit free = zero (count_of h s) (sym (fit.taken s) ∙ free)
  where
    zero : (n : ℕ) → nat_lt 0 n ≡ false → n ≡ 0
    zero n e = grind (arith, nat_tests, e)

second : (a b : Bool) → (a || b) ≡ false → b ≡ false
second true b h = absurd (false≢true (sym h))
second false b h = h

middle : (a b c : Bool) → b ≡ false → (a && b && c) ≡ false
middle true b c h = ap (λ b. b && c) h
middle false b c h = refl

far-away : (page n : ℕ) → n ≤ page → nat_lt page n ≡ false
far-away page n far = grind (arith, nat_tests, far)

-- past the pages of an area that is on
pub unused-past : (k : Mem) (area pages page : ℕ) → IsFit (shown_swap k.swap)
    → IsSomeAnd (header_at (shown_swap k.swap) area) (λ (h : Header). pages ≡ h.pages) → pages ≤ page → IsUnused (view k) (slot_at area page)
unused-past k area pages page fit has far =
    unused k s (not-taken h s fit (second (is_free here) (is_taken here) (by (header_at h area) has (fit.usable s))))
  where
    h : Shown
    h = shown_swap k.swap

    s : Slot
    s = slot_at area page

    here : Page
    here = page_at (h.slots area).pages page

    by : (o : Option Header) → IsSomeAnd o (λ (a : Header). pages ≡ a.pages)
        → IfSome o (λ (a : Header). is_slot here ≡ (nat_lt 0 page && nat_lt page a.pages && not (h.bad s))) → is_slot here ≡ false
    by None has usable = absurd has
    by (Some a) has usable = usable
        ∙ middle (nat_lt 0 page) (nat_lt page a.pages) (not (h.bad s)) (far-away page a.pages (omega (arith, has, far)))

-- in one that is off
pub unused-off : (k : Mem) (area page : ℕ) → IsFit (shown_swap k.swap) → is_on (shown_swap k.swap) area ≡ false
    → IsUnused (view k) (slot_at area page)
unused-off k area page fit off = unused k s
    (not-taken h s fit (ap (λ (slots : Slots). is_taken (page_at slots.pages page)) (fit.off area (by (header_at h area) off))))
  where
    h : Shown
    h = shown_swap k.swap

    s : Slot
    s = slot_at area page

    by : (o : Option Header) → is_some o ≡ false → o ≡ None
    by None e = refl
    by (Some a) e = absurd (false≢true (sym e))
