use Rattle.std.proofs.Common.{◌≡◌, ℕ, ◌+◌, ◌<◌, ◌≤◌, ◌⊎◌, inl, inr, List, Option, length, sym, ap, subst, ◌∙◌, arith}
use Rattle.std.proofs.lemmas.Bool.{cases_lt}
use Rattle.av_base.specs.Keys.{Key}
use Rattle.av_mem.specs.Entries.{IsWithin, slot_behind}
use Rattle.av_mem.specs.Mem.{view}
use Rattle.av_swapoff.specs.Users.{Visits, with_user}
use Rattle.av_swapoff.proofs.VisitLaws.{visits-all, visits-none, visits-one, visits-then}
use Rattle.av_swapoff.proofs.users.visit_run.Goals as goal

-- the first keys of a run
abbrev First : Key → ℕ → Key → Type 0
First first n k = (k.0 ≡ first.0) × (first.1 ≤ k.1) × (k.1 < first.1 + n)

more : (first : Key) (n : ℕ) (k : Key) → First first (n + 1) k → First first n k ⊎ (k ≡ (first.0, first.1 + n))
more first n k h = by (cases_lt k.1 (first.1 + n))
  where
    by : (k.1 < first.1 + n) ⊎ (first.1 + n ≤ k.1) → First first n k ⊎ (k ≡ (first.0, first.1 + n))
    by (inl below) = inl (h.0, h.1, below)
    by (inr above) = let high = h.2 in let same : k.1 ≡ first.1 + n = omega (arith, above, high) in inr (λ i. (h.0 i, same i))

pub loop-i-init : goal.loop-i-init
loop-i-init c = visits-none (view c.args.mem.now) c.args.area c.args.users.now (First c.args.first 0)
    (λ k h. let low = h.1 in let high = h.2 in omega (arith, low, high))

pub slot_behind-slot-requires : goal.slot_behind-slot-requires
slot_behind-slot-requires c =
    let first = c.args.first in
    let i = c.loop-i.i in
    let below : i < length c.args.run.now = omega (arith, c.loop-i-test.true) in
    subst (IsWithin (view c.args.mem.now)) (c.requires.there i below) (c.requires.within first.0 (first.1 + i))

pub loop-i-preserved : goal.loop-i-preserved
loop-i-preserved c =
    let v = view c.args.mem.now in
    let first = c.args.first in
    let i = c.loop-i.i in
    let key : Key = (first.0, first.1 + i) in
    let below : i < length c.args.run.now = omega (arith, c.loop-i-test.true) in
    let there = c.requires.there i below in
    let slot = c.slot_behind-slot.ensures ∙ ap (slot_behind v) (sym there) in
    subst (λ (users : List (Option Key)). Visits v c.args.area (First first (i + 1)) c.args.users.now users) (sym c.add_user.ensures)
    (visits-then v c.args.area (First first i) (λ (q : Key). q ≡ key) (First first (i + 1)) c.args.users.now c.loop-i.users
    (with_user c.args.area c.slot_behind-slot.result key c.loop-i.users) (λ page k h uses. more first i k h) c.loop-i.invariant
    (visits-one v c.args.area c.slot_behind-slot.result key c.loop-i.users slot))

pub returns : goal.returns
returns c =
    visits-all (view c.args.mem.now) c.args.area (First c.args.first c.loop-i.i) (First c.args.first (length c.args.run.now)) c.args.users.now c.loop-i.users
    (λ page k h uses. (h.0, h.1, (let high = h.2 in omega (arith, high, c.loop-i-test.false)))) c.loop-i.invariant
