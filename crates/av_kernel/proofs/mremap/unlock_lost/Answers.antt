use Rattle.std.proofs.Common.{◌≡◌, ℕ, ◌+◌, ◌-◌, ◌≤◌, ◌==◌, Bool, true, false, cond, ◌∙◌, ap, arith, subst, sym}
use Rattle.std.proofs.lemmas.Bool.Decides.{nat_tests}
use Rattle.av_mem.specs.declared.mem.Mem.{Mem}
use Rattle.av_mem.specs.Entries.{AreWithin}
use Rattle.av_mem.specs.Locked.{locks_in}
use Rattle.av_mem.specs.Mem.{locks_of}
use Rattle.av_mremap.proofs.AreasRemap.{differs}
use Rattle.av_kernel.specs.Lock.{locks_lost}
use Rattle.av_kernel.proofs.LockedRanges.{range-counted, range-told, steady-within}
use Rattle.av_kernel.proofs.MremapLocks.{room-left}
use Rattle.av_kernel.proofs.mremap.unlock_lost.Goals as goal

past_size : (from n m : ℕ) → from + n - (from + m) ≡ n - m
past_size from n m = omega arith

size : (from n : ℕ) → from + n - from ≡ n
size from n = omega arith

pub unlock_range-requires-clause-within : goal.unlock_range-requires-clause-within
unlock_range-requires-clause-within c = let s = c.requires.steady in steady-within c.args.mem.now s.1 s.2

pub unlock_range-requires-clause-some : goal.unlock_range-requires-clause-some
unlock_range-requires-clause-some c f =
    let s = c.requires.steady in
    let a = c.args in
    range-counted a.mem.now s.1 s.2 a.process (a.from + a.new_pages) (a.from + a.pages - (a.from + a.new_pages)) f

pub unlock_range-requires-then-to-from-clause-within : goal.unlock_range-requires-then-to-from-clause-within
unlock_range-requires-then-to-from-clause-within c =
    let s = c.requires.steady in
    subst AreWithin (sym c.unlock_range.ensures.view) (steady-within c.args.mem.now s.1 s.2)

pub unlock_range-requires-then-to-from-clause-some : goal.unlock_range-requires-then-to-from-clause-some
unlock_range-requires-then-to-from-clause-some c f =
    let s = c.requires.steady in
    let a = c.args in
    let off = c.unlock_range.ensures in
    let here = ap (λ n. locks_in c.unlock_range.new.mem a.process a.to n f) (size a.to a.new_pages)
    ∙ ap (λ (k : Mem). locks_in k a.process a.to a.new_pages f) off.rest ∙ range-told a.mem.now s.1 s.2 a.process a.to a.new_pages f in
    let past = ap (λ n. locks_in a.mem.now a.process (a.from + a.new_pages) n f) (past_size a.from a.pages a.new_pages)
    ∙ range-told a.mem.now s.1 s.2 a.process (a.from + a.new_pages) (a.pages - a.new_pages) f in
    let counted = s.2.locks f in
    let down = off.locks f in
    let room = room-left s.1.world s.1.ledger a.process a.from a.pages a.to a.new_pages f false s.2.stands.sound.ledger.in_order
    (differs a.to a.from c.if-to-from.true) (c.requires.apart c.if-to-from.true) in
    omega (arith, here, past, counted, down, room)

-- both ranges, or one
both_lost : (old off new : Mem) (p from n to m f : ℕ) → (to == from) ≡ false → off ≡ record old { frames = off.frames }
    → locks_of old f ≡ locks_of off f + locks_in old p (from + m) (from + n - (from + m)) f
    → locks_of off f ≡ locks_of new f + locks_in off p to (to + m - to) f
    → locks_of old f ≡ locks_of new f + locks_lost old p from n to m f
both_lost old off new p from n to m f there rest first second =
    sum _ _ _ _ _ _ (first ∙ ap (λ k. locks_of off f + locks_in old p (from + m) k f) (past_size from n m))
    (second ∙ ap (λ k. locks_of new f + locks_in off p to k f) (size to m)) (ap (λ (k : Mem). locks_in k p to m f) rest)
    ∙ ap (λ b. locks_of new f + (cond b 0 (locks_in old p to m f) + locks_in old p (from + m) (n - m) f)) (sym there)
  where
    sum : (a b c i j k : ℕ) → a ≡ b + i → b ≡ c + j → j ≡ k → a ≡ c + (k + i)
    sum a b c i j k e g h = omega arith

one_lost : (old new : Mem) (p from n to m f : ℕ) → to ≡ from
    → locks_of old f ≡ locks_of new f + locks_in old p (from + m) (from + n - (from + m)) f
    → locks_of old f ≡ locks_of new f + locks_lost old p from n to m f
one_lost old new p from n to m f here first =
    sum _ _ _ _ first (ap (λ k. locks_in old p (from + m) k f) (past_size from n m))
    ∙ ap (λ b. locks_of new f + (cond b 0 (locks_in old p to m f) + locks_in old p (from + m) (n - m) f)) (sym same)
  where
    sum : (a b i j : ℕ) → a ≡ b + i → i ≡ j → a ≡ b + (0 + j)
    sum a b i j e g = omega arith

    same : (to == from) ≡ true
    same = grind (arith, nat_tests, here)

pub returns-then-to-from-clause-locks : goal.returns-then-to-from-clause-locks
returns-then-to-from-clause-locks c f =
    let a = c.args in
    let first = c.unlock_range.ensures in
    both_lost a.mem.now c.unlock_range.new.mem c.unlock_range-then-to-from.new.mem a.process a.from a.pages a.to a.new_pages f
    (differs a.to a.from c.if-to-from.true) first.rest (first.locks f) (c.unlock_range-then-to-from.ensures.locks f)

pub returns-else-to-from-clause-locks : goal.returns-else-to-from-clause-locks
returns-else-to-from-clause-locks c f =
    let a = c.args in
    one_lost a.mem.now c.unlock_range.new.mem a.process a.from a.pages a.to a.new_pages f c.if-to-from.false (c.unlock_range.ensures.locks f)
