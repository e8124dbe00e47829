-- How the count of locked pages' entries goes with an mremap: those of pages that go are taken off, and the others keep their lock.
use Rattle.std.proofs.Common.{◌≡◌, ◌⊎◌, inl, inr, ℕ, ◌+◌, ◌-◌, ◌<◌, ◌≤◌, min, nat_lt, Bool, true, false, cond, ◌&&◌, T, Option, Some, None, is_some, refl, sym, ap, ◌∙◌, arith, ◌==◌}
use Rattle.std.proofs.lemmas.Bool.{false≢true, ltb-false}
use Rattle.std.proofs.lemmas.Bool.Decides.{nat_tests}
use Rattle.std.specs.FinMap.Entries.{is_sorted}
use Rattle.av_base.specs.Keys.{Key, key_cmp}
use Rattle.av_base.specs.Words.{within}
use Rattle.av_vma.proofs.Mremap.{in_range as range_bounds}
use Rattle.av_plain.specs.Event.{after_all}
use Rattle.av_plain.specs.Ledger.{Entry, Ledger, entry}
use Rattle.av_plain.specs.Mremap.{process_after_mremap, remap_events}
use Rattle.av_plain.specs.World.{Process, World, is_locked_page, pages, set_process}
use Rattle.av_plain.specs.Zap.{keys_in, zaps_of}
use Rattle.av_plain.proofs.Mremap.{after-elsewhere, after-in_place, in_order-zaps, tail-was, target_free, then_tail, then_target}
use Rattle.av_plain.proofs.Mremap.Cover.{from_itself, from_old}
use Rattle.av_plain.proofs.Zap.{entry-range}
use Rattle.av_swap_laws.specs.Locks.{lock_count}
use Rattle.av_swap_laws.specs.LockRange.{is_within, lock_count_in}
use Rattle.av_swap_laws.proofs.LockRange.{locked_at, locks-shifted}
use Rattle.av_kernel.proofs.LockedRanges.{locked-set, locks-kept, range-alike, range-gone}

module _ (w : World) (l : Ledger) (p from n to m f : ℕ) (stays : Bool)
    (sorted : T (is_sorted key_cmp l.entries)) where
  abbrev q : Process
  q = pages w p

  abbrev now : Process
  now = process_after_mremap from n to m stays q

  abbrev then : World
  then = set_process w p now

  -- how many are counted of the pages past those that stay
  abbrev past : ℕ
  past = lock_count_in w l p (from + m) (n - m) f

  itself : (p == p) ≡ true
  itself = grind (arith, nat_tests)

  -- ---- elsewhere

  module _ (there : (to == from) ≡ false) (apart : (to + m ≤ from) ⊎ (from + n ≤ to)) where
    abbrev target : Ledger
    target = then_target l p from n to m

    abbrev tail : Ledger
    tail = then_tail l p from n to m

    target-sorted : T (is_sorted key_cmp target.entries)
    target-sorted = in_order-zaps (keys_in l p to m) l sorted

    -- the two ranges that go count apart
    past-still : lock_count_in w target p (from + m) (n - m) f ≡ past
    past-still = range-alike w l target p (from + m) (n - m) f sorted target-sorted
        (λ page inside. entry-range l p to m p page
        ∙ ap (λ b. cond (b && within to m page) None (entry l (p, page))) itself
        ∙ ap (λ b. cond b None (entry l (p, page))) (out page inside (within to m page) refl apart))
      where
        out : (page : ℕ) → within (from + m) (n - m) page ≡ true → (b : Bool)
            → within to m page ≡ b → (to + m ≤ from) ⊎ (from + n ≤ to) → b ≡ false
        out page i false j h = refl
        out page i true j (inl h) =
            let a = range_bounds (from + m) (n - m) page i in
            let b = range_bounds to m page j in absurd (omega (arith, a, b, h))
        out page i true j (inr h) =
            let a = range_bounds (from + m) (n - m) page i in
            let b = range_bounds to m page j in absurd (omega (arith, a, b, h))

    pub room-left : lock_count_in w l p to m f + past ≤ lock_count w l f
    room-left =
        let first = range-gone w l p to m f in
        let second = range-gone w target p (from + m) (n - m) f in
        omega (arith, first, second, past-still)

    along : (page : ℕ) → is_some (entry tail (p, page)) ≡ true
        → within from (min n m) page ≡ true
        → locked_at then (p, page - from + to) ≡ locked_at w (p, page)
    along page some inside =
        let b = range_bounds from (min n m) page inside in
        locked-set w p now (p, page - from + to)
        ∙ ap (λ b. cond b (is_locked_page (now (page - from + to))) (locked_at w (p, page - from + to)))
        itself
        ∙ ap is_locked_page (from_old q from n to m stays (page - from + to) (lies b) (few b))
        ∙ ap (λ x. is_locked_page (q x)) (back b)
      where
        lies : (from ≤ page) × (page < from + min n m) → within to m (page - from + to) ≡ true
        lies b = grind (arith, nat_tests, b)

        few : (from ≤ page) × (page < from + min n m) → nat_lt (page - from + to - to) n ≡ true
        few b = grind (arith, nat_tests, b)

        back : (from ≤ page) × (page < from + min n m) → from + (page - from + to - to) ≡ page
        back b = omega (arith, b)

    others : (k : Key) → is_some (entry tail k) ≡ true → is_within p from (min n m) k ≡ false
        → locked_at then k ≡ locked_at w k
    others k some beyond = locked-set w p now k ∙ by (entry tail k) refl some (k.0 == p) refl
      where
        same_number : (k.0 == p) ≡ true → p ≡ k.0
        same_number e = grind (arith, nat_tests, e)

        past-out : (k.0 == p) ≡ true → (k.0 == p && within to m k.1) ≡ false
            → within to m k.1 ≡ false
        past-out e h = grind (arith, nat_tests, e, h)

        old-out : (k.0 == p) ≡ true → (k.0 == p && within (from + m) (n - m) k.1) ≡ false
            → within from n k.1 ≡ false
        old-out e h = grind (arith, nat_tests, e, h, beyond)

        by : (o : Option Entry) → entry tail k ≡ o → is_some o ≡ true → (b : Bool)
            → (k.0 == p) ≡ b → cond b (is_locked_page (now k.1)) (locked_at w k) ≡ locked_at w k
        by o at some false is = refl
        by None at some true is = absurd (false≢true some)
        by (Some e) at some true is =
            let was = tail-was l p from n to m k.0 k.1 e at in
            ap is_locked_page (from_itself q from n to m stays k.1 (past-out is was.2)
            (old-out is was.1))
            ∙ ap (λ x. is_locked_page (pages w x k.1)) (same_number is)

    pub count-elsewhere : lock_count then (after_all l (remap_events l p from n to m)) f
        + (lock_count_in w l p to m f + past) ≡ lock_count w l f
    count-elsewhere =
        let first = range-gone w l p to m f in
        let second = range-gone w target p (from + m) (n - m) f in
        let shifts = locks-shifted w then tail p (min n m) from to f
        (in_order-zaps (keys_in target p (from + m) (n - m)) target target-sorted)
        (λ page inside _. target_free l p from n to m page inside) along others in
        let is = ap (λ x. lock_count then x f) (after-elsewhere l p from n to m there) in
        sum _ _ _ _ _ _ _ _ first second past-still shifts is
      where
        sum : (a b t i c j j' k : ℕ) → b + i ≡ t → c + j ≡ b → j ≡ j' → k ≡ c → a ≡ k → a + (i + j') ≡ t
        sum a b t i c j j' k e g h u v = omega arith

  -- ---- in place

  module _ (here : (to == from) ≡ true)
      (free : (page : ℕ) → from + n ≤ page → page < from + m → entry l (p, page) ≡ None) where
    abbrev gone : Ledger
    gone = after_all l (zaps_of l (keys_in l p (from + m) (n - m)))

    there_still : (page : ℕ) → is_some (entry gone (p, page)) ≡ true
        → (within (from + m) (n - m) page ≡ false) × (is_some (entry l (p, page)) ≡ true)
    there_still page some = by (within (from + m) (n - m) page) refl
        (sym (ap is_some (entry-range l p (from + m) (n - m) p page
        ∙ ap (λ b. cond (b && within (from + m) (n - m) page) None (entry l (p, page))) itself)) ∙ some)
      where
        by : (b : Bool) → within (from + m) (n - m) page ≡ b
            → is_some (cond b None (entry l (p, page))) ≡ true
            → (b ≡ false) × (is_some (entry l (p, page)) ≡ true)
        by true e h = absurd (false≢true h)
        by false e h = (refl, h)

    kept : (page : ℕ) → is_some (entry gone (p, page)) ≡ true
        → is_locked_page (now page) ≡ is_locked_page (q page)
    kept page some = let was = there_still page some in
        by (within to m page) (within from n page) (nat_lt (page - to) n) refl refl refl was.0 was.1
      where
        same : to ≡ from
        same = grind (arith, nat_tests, here)

        back : within to m page ≡ true → from + (page - to) ≡ page
        back e = let b = range_bounds to m page e in omega (arith, b, same)

        clash : within to m page ≡ false → within from n page ≡ true
            → within (from + m) (n - m) page ≡ false → ⊥
        clash e g h = grind (arith, nat_tests, e, g, h, same)

        by : (b c x : Bool) → within to m page ≡ b → within from n page ≡ c
            → nat_lt (page - to) n ≡ x → within (from + m) (n - m) page ≡ false
            → is_some (entry l (p, page)) ≡ true
            → is_locked_page (now page) ≡ is_locked_page (q page)
        by true c true e g h out some =
            ap is_locked_page (from_old q from n to m stays page e h ∙ ap q (back e))
        by true c false e g h out some =
            let b = range_bounds to m page e in
            let far = ltb-false (page - to) n h in
            absurd (false≢true (sym (ap is_some (free page (omega (arith, b, far, same))
            (omega (arith, b, same)))) ∙ some))
        by false true x e g h out some = absurd (clash e g out)
        by false false x e g h out some =
            ap is_locked_page (from_itself q from n to m stays page e g)

    pub count-here : lock_count then (after_all l (remap_events l p from n to m)) f + past
        ≡ lock_count w l f
    count-here =
        ap (λ x. lock_count then x f + past) (after-in_place l p from n to m here)
        ∙ ap (λ c. c + past) (locks-kept w p now gone f kept)
        ∙ range-gone w l p (from + m) (n - m) f
