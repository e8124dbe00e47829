use Rattle.av_base.specs.Words.{with_at}
use Rattle.std.proofs.Common.{◌≡◌, [], ◌∷◌, ◌++◌, sym, ap, ◌∙◌, Some, append_assoc, length-append, arith}
use Rattle.av_chain.specs.Links.{left_by, rest_in}
use Rattle.av_chain.proofs.TwoMaps.{with_at_here, with_at_twice, left_one_more, first_some}
use Rattle.av_chain.proofs.ring.unlink_from.Goals as goal

pub loop-anon-preserved : goal.loop-anon-preserved
loop-anon-preserved g c =
    let chain = g.R.Ring.chain_of in
    let users = g.R.Ring.users_of in
    let a = c.args.area in
    let gone = c.loop-anon.invariant.0 in
    let v = c.in-Some._anon in
    let here : chain c.pop.new.self a ≡ rest_in (chain c.loop-anon.ring a) = ap (λ f. f a) c.pop.ensures.chain
    ∙ with_at_here a (rest_in (chain c.loop-anon.ring a)) (chain c.loop-anon.ring) in
    let first : chain c.loop-anon.ring a ≡ v ∷ rest_in (chain c.loop-anon.ring a) = first_some (chain c.loop-anon.ring a) v c.in-Some.ensures.first in
    let one = c.in-Some.ensures.steps in
    let so_far = c.loop-anon.invariant.4 in
    let long = length-append gone (v ∷ []) in (
      gone ++ v ∷ [],
      c.loop-anon.invariant.1 ∙ ap (λ vs. gone ++ vs) (first ∙ ap (λ vs. v ∷ vs) (sym here))
          ∙ sym (append_assoc gone (v ∷ []) (chain c.pop.new.self a)),
      c.pop.ensures.chain ∙ ap (λ f. with_at a (rest_in (chain c.loop-anon.ring a)) f) c.loop-anon.invariant.2
          ∙ with_at_twice a (rest_in (chain c.loop-anon.ring a)) (chain c.loop-anon.ring a) (chain c.args.ring.now)
          ∙ ap (λ vs. with_at a vs (chain c.args.ring.now)) (sym here),
      c.pop.ensures.users ∙ ap (λ o. left_by a o (users c.loop-anon.ring)) (sym c.in-Some.ensures.first)
          ∙ ap (λ f. left_by a (Some v) f) c.loop-anon.invariant.3 ∙ left_one_more a gone v (users c.args.ring.now),
      omega (arith, one, so_far, long),
    )
