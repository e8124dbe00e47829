-- How many entries of locked pages name each frame where an entry comes: what is counted up and down is what memories and ledger say.
use Rattle.std.proofs.Common.{◌≡◌, ℕ, ◌+◌, ◌-◌, ◌<◌, ◌==◌, Bool, true, false, cond, ◌&&◌, T, Some, refl, sym, ap, subst, ◌∙◌, arith}
use Rattle.std.specs.FinMap.Entries.{is_sorted}
use Rattle.av_base.specs.Keys.{Key, key_cmp}
use Rattle.av_base.specs.Words.{with_at}
use Rattle.av_plain.specs.Ledger.{InFrame, Ledger, entry}
use Rattle.av_plain.specs.Stands.{AreasStand}
use Rattle.av_plain.specs.World.{World, is_locked_page, pages}
use Rattle.av_plain.proofs.Sound.Counts.{same-is}
use Rattle.av_swap_laws.specs.Locks.{AreLocks, lock_count}
use Rattle.av_mem.specs.declared.mem.Mem.{Mem}
use Rattle.av_mem.specs.Locked.{has_lock, locks_less, locks_more}
use Rattle.av_mem.specs.Mem.{locks_of, view}
use Rattle.av_mem.specs.Steps.{KeepsBut}
use Rattle.av_mem.proofs.LockedLaws.{lock-found, lock-is}

-- ---- of counts alone

-- one more
more-at : (b : Bool) (f g : ℕ) (locks : ℕ → ℕ) → cond b (with_at f (locks f + 1) locks) locks g ≡ locks g + cond (b && g == f) 1 0
more-at false f g locks = omega arith
more-at true f g locks = by (g == f) refl
  where
    by : (c : Bool) → (g == f) ≡ c → cond c (locks f + 1) (locks g) ≡ locks g + cond c 1 0
    by true e = let same = ap locks (same-is g f e) in omega (arith, same)
    by false e = omega arith

-- one fewer, where there is one
less-at : (b : Bool) (f g : ℕ) (locks : ℕ → ℕ) → (b ≡ true → 0 < locks f)
    → cond b (with_at f (locks f - 1) locks) locks g + cond (b && g == f) 1 0 ≡ locks g
less-at false f g locks some = omega arith
less-at true f g locks some = by (g == f) refl
  where
    by : (c : Bool) → (g == f) ≡ c → cond c (locks f - 1) (locks g) + cond c 1 0 ≡ locks g
    by true e = let same = ap locks (same-is g f e) in let one = some refl in omega (arith, same, one)
    by false e = omega arith

-- one fewer and one more
swapped : (more less was count now a b : ℕ) → more ≡ less + a → less + b ≡ was → was ≡ count → now + b ≡ count + a → more ≡ now
swapped more less was count now a b one two three four = omega (arith, one, two, three, four)

-- ---- of the memory system

-- the counts that a step leaves
pub locks-left : {counts : ℕ → ℕ} {old new : Mem} → KeepsBut counts old new → (w : World) (l : Ledger) → AreLocks counts w l
    → AreLocks (locks_of new) w l
locks-left parts w l are = λ g. ap (λ (locks : ℕ → ℕ). locks g) parts.locks ∙ are g

module _ (k : Mem) (w : World) (l : Ledger) (areas : AreasStand (view k) w) (are : AreLocks (locks_of k) w l) (q : Key) where
  -- the page's entry names this frame now, and named none
  pub locks-come : (f : ℕ) (l' : Ledger)
      → ((g : ℕ) → lock_count w l' g ≡ lock_count w l g + cond (is_locked_page (pages w q.0 q.1) && g == f) 1 0)
      → AreLocks (locks_more k q f (locks_of k)) w l'
  locks-come f l' comes = λ g. more-at (has_lock k q) f g (locks_of k)
      ∙ (λ i. are g i + cond (lock-is k w q.0 q.1 areas i && g == f) 1 0) ∙ sym (comes g)

  -- it named another one, which has a count then
  pub locks-swap : (f from : ℕ) (l' : Ledger) → (has_lock k q ≡ true → 0 < locks_of k from)
      → ((g : ℕ) → lock_count w l' g + cond (is_locked_page (pages w q.0 q.1) && g == from) 1 0
      ≡ lock_count w l g + cond (is_locked_page (pages w q.0 q.1) && g == f) 1 0)
      → AreLocks (locks_more k q f (locks_less k q from (locks_of k))) w l'
  locks-swap f from l' some swaps = λ g.
      swapped _ (locks_less k q from (locks_of k) g) (locks_of k g) (lock_count w l g) (lock_count w l' g)
      (cond (has_lock k q && g == f) 1 0) (cond (has_lock k q && g == from) 1 0)
      (more-at (has_lock k q) f g (locks_less k q from (locks_of k))) (less-at (has_lock k q) from g (locks_of k) some) (are g)
      (subst (λ b. lock_count w l' g + cond (b && g == from) 1 0 ≡ lock_count w l g + cond (b && g == f) 1 0)
      (sym (lock-is k w q.0 q.1 areas)) (swaps g))

  -- the frame of a locked page has a count
  pub locked-some : (g : ℕ) (seen : Bool) → T (is_sorted key_cmp l.entries) → entry l q ≡ Some (InFrame g seen) → has_lock k q ≡ true
      → 0 < locks_of k g
  locked-some g seen sorted at locked = subst (λ n. 0 < n) (sym (are g))
      (lock-found w l q.0 q.1 g seen sorted (sym (lock-is k w q.0 q.1 areas) ∙ locked) at)
