use Rattle.std.proofs.Common.{arith, List, None, Option, ap, cond, get_or, is_some, length, length-set, slice_set, subst, sym, ℕ, ◌+◌, ◌<◌, ◌≤◌, ◌∙◌, ◌≡◌}
use Rattle.av_base.specs.Words.{how_many}
use Rattle.av_base.specs.declared.slot.Slot.{Slot}
use Rattle.av_base.proofs.Counted.{count-most, count-set, count-some}
use Rattle.av_frames.proofs.slots.Slots.set.Goals as goal

-- what is known of the count, over the items `xs` that are seen as `v`, in which this was the frame's
record IsRecounted (xs : List (Option Slot)) (f : ℕ) (was x : Option Slot) (old : ℕ) : Type 0 where
  some : cond (is_some was) 1 0 ≤ old
  set : how_many is_some (slice_set xs f x) + cond (is_some was) 1 0 ≡ old + cond (is_some x) 1 0
  most : how_many is_some (slice_set xs f x) ≤ length xs

recounted : (xs v : List (Option Slot)) (f : ℕ) (was x : Option Slot) (old : ℕ) → xs ≡ v → f < length v → old ≡ how_many is_some xs →
    was ≡ get_or v f None → IsRecounted xs f was x old
recounted xs v f was x old view below is at = record {
  some = let one = count-some is_some xs f None low in omega (arith, one, is, same);
  set = let set = count-set is_some xs f x None low in omega (arith, set, is, same);
  most = let most = count-most is_some (slice_set xs f x) in let len = length-set xs f x in omega (arith, most, len);
}
  where
    low : f < length xs
    low = subst (λ (v : List (Option Slot)). f < length v) (sym view) below

    same : ◌≡◌ {A = ℕ} (cond (is_some was) 1 0) (cond (is_some (get_or xs f None)) 1 0)
    same = ap (λ (o : Option Slot). cond (is_some o) 1 0) (at ∙ ap (λ (v : List (Option Slot)). get_or v f None) (sym view))

pub recount-self-inside-requires-clause-some : goal.recount-self-inside-requires-clause-some
recount-self-inside-requires-clause-some c = rw c.is_some.ensures
    (recounted _ _ c.args.frame _ c.args.slot _ c.self.view_is c.requires c.self.invariant.1 c.get.ensures).some

pub recount-self-inside-requires-clause-few : goal.recount-self-inside-requires-clause-few
recount-self-inside-requires-clause-few c =
    let r = recounted _ _ c.args.frame _ c.args.slot _ c.self.view_is c.requires c.self.invariant.1 c.get.ensures in
    let set = r.set in let most = r.most in let few = c.self.invariant.0 in
    rw (c.is_some.ensures, c.is_some-2.ensures) (omega (arith, set, most, few))

pub invariant_of-self : goal.invariant_of-self
invariant_of-self c =
    let set = (recounted _ _ c.args.frame _ c.args.slot _ c.self.view_is c.requires c.self.invariant.1 c.get.ensures).set in (
      rw length-set c.self.invariant.0,
      omega (arith, set, rw (c.is_some.ensures, c.is_some-2.ensures) at c.recount-self-inside.ensures),
    )
