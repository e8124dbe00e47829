use Rattle.std.proofs.Common.{refl, sym, ap, subst, ◌∙◌, arith, ◌≡◌, ◌-◌, ◌+◌, ◌++◌, [], suc, min}
use Rattle.std.proofs.lemmas.List.{take_min}
use Rattle.av_plain.specs.Pass.{Completes}
use Rattle.av_evict.specs.Steps.{EndsFirst}
use Rattle.av_evict.proofs.FlightLaws.{CompletesOf, completes-more, first-completes}
use Rattle.av_evict.proofs.SystemLaws.{loose, midway-end, midway-step, left_then}
use Rattle.av_evict.proofs.flight.complete.Goals as goal

pub loop-turn-preserved : goal.loop-turn-preserved
loop-turn-preserved g c = record {
  midway = λ told.
      let left = c.min-turns.result - (c.loop-turn._turn + 1) in
      let one_more : suc left ≡ c.min-turns.result - c.loop-turn._turn = omega arith in
      midway-step _ _ _ _ _ _ (CompletesOf (c.min-turns.result - c.loop-turn._turn)) (CompletesOf left) (CompletesOf c.min-turns.result)
      (EndsFirst c.in_ok-_end._end)
      (c.loop-turn.invariant.midway told) (c.in_ok-_end.ensures.gives told)
      (λ l ns rest same closed sound stands q h. subst (λ k. CompletesOf k l (ns ++ rest)) one_more
      (completes-more _ l left ns rest sound (first-completes l _ ns q) h));
  stays = λ told. left_then (c.loop-turn.invariant.stays told) (c.in_ok-_end.ensures.stays told);
}

pub returns-clause-gives : goal.returns-clause-gives
returns-clause-gives g c = λ told.
    let none : c.min-turns.result - c.loop-turn._turn ≡ 0 = omega arith in
    midway-end _ _ _ _ (CompletesOf (c.min-turns.result - c.loop-turn._turn)) (CompletesOf c.min-turns.result) (CompletesOf c.args.count)
    (c.loop-turn.invariant.midway told)
    (λ l sound stands. subst (λ k. CompletesOf k l []) (sym none) refl)
    (λ l ns stands sound h. let all = c.flight_len.ensures told l (loose _ _ l sound) stands in
    subst (λ fs. Completes l fs ns) (take_min c.args.count l.flight)
    (subst (λ k. CompletesOf k l ns) (c.min-turns.ensures ∙ ap (min c.args.count) all) h))
