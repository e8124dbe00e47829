use Rattle.std.proofs.Common.{slice_get, length, ◌≡◌, ◌≤◌, ◌∷◌, [], ◌++◌, ◌-◌, ◌+◌, suc, map, reverse, sym, ap, subst, arith, Some, false}
use Rattle.av_trace.specs.declared.note.Note.TheVariants.{Aged}
use Rattle.av_plain.specs.Reclaim.{from_tail}
use Rattle.av_evict.proofs.TailLaws.{ages-end}
use Rattle.av_evict.specs.Steps.{IsUsed}
use Rattle.av_evict.specs.System.{Adds, Always}
use Rattle.av_evict.proofs.SystemLaws.{gives-as, gives-at, left_so, left_then, loose, midway-start, midway-step}
use Rattle.av_evict.proofs.TailLaws.{AgesLeft, active-used, age-leaves, ages-more, last-some}
use Rattle.av_evict.proofs.inactive.age.Goals as goal

pub age_one-requires : goal.age_one-requires
age_one-requires g c =
    let at = c.loop-turn.invariant.left in
    (at.0, at.1, at.2, active-used _ at.0 c.in-Some.frame at.1 (c.in-Some.ensures false at.0 (loose _ _ at.0 at.1) at.2))

pub loop-turn-init : goal.loop-turn-init
loop-turn-init g c = record {
  midway = λ told.
      let n = c.min-turns.result in
      let all : n - 0 ≡ n = omega arith in
      midway-start _ _ (AgesLeft (n - 0)) (AgesLeft n) (λ l rest h. subst (λ x. AgesLeft x l rest) all h);
  left =
      let at = c.requires in
      let many = c.active_len.ensures false at.0 (loose _ _ at.0 at.1) at.2 in
      (at.0, at.1, at.2, omega (arith, many, c.min-turns.ensures));
  stays = λ told. left_so _;
}

pub loop-turn-preserved : goal.loop-turn-preserved
loop-turn-preserved g c = record {
  midway = λ told.
      let n = c.min-turns.result in
      let f = c.in-Some.frame in
      let left = n - (c.loop-turn._turn + 1) in
      let one_more : suc left ≡ n - c.loop-turn._turn = omega arith in
      midway-step _ _ _ _ _ _ (AgesLeft (n - c.loop-turn._turn)) (AgesLeft left) (AgesLeft n)
      (λ l ns. (Some f ≡ slice_get (reverse l.active) 0) × (ns ≡ Aged f ∷ []))
      (c.loop-turn.invariant.midway told)
      (gives-as _ _ _ _ (IsUsed f) Always (Adds (Aged f ∷ [])) (λ l ns. (Some f ≡ slice_get (reverse l.active) 0) × (ns ≡ Aged f ∷ []))
      (c.in_ok-age_one.ensures.gives told)
      (λ l sound stands ready. active-used _ l f sound (c.in-Some.ensures told l (loose _ _ l sound) stands))
      (λ l ns sound stands ready is. (c.in-Some.ensures told l (loose _ _ l sound) stands, is)))
      (λ l ns rest same closed sound stands q h. subst (λ k. AgesLeft k l (ns ++ rest)) one_more (ages-more _ left l f ns rest sound q.0 q.1 h));
  left =
      let f = c.in-Some.frame in
      let left = c.min-turns.result - (c.loop-turn._turn + 1) in
      let at = c.loop-turn.invariant.left in
      let many : suc left ≤ length at.0.active = omega (arith, at.3) in
      let first = c.in-Some.ensures false at.0 (loose _ _ at.0 at.1) at.2 in
      gives-at _ _ _ _ (λ l. (suc left ≤ length l.active) × (Some f ≡ slice_get (reverse l.active) 0)) (λ l. left ≤ length l.active)
      (Adds (Aged f ∷ [])) (at.0, at.1, at.2, (many, first))
      (gives-as _ _ _ _ (IsUsed f) (λ l. (suc left ≤ length l.active) × (Some f ≡ slice_get (reverse l.active) 0))
      (Adds (Aged f ∷ [])) (Adds (Aged f ∷ []))
      (c.in_ok-age_one.ensures.gives false) (λ l sound stands q. active-used _ l f sound q.1) (λ l ns sound stands q is. is))
      (λ l ns sound q is after. age-leaves _ left l f ns sound q.1 is q.0);
  stays = λ told. left_then (c.loop-turn.invariant.stays told) (c.in_ok-age_one.ensures.stays told);
}

pub unreachable-requires : goal.unreachable-requires
unreachable-requires g c =
    let at = c.loop-turn.invariant.left in
    last-some (c.min-turns.result - c.loop-turn._turn) at.0.active (omega (arith, c.loop-turn-test.true)) at.3
    (c.in_default.ensures false at.0 (loose _ _ at.0 at.1) at.2)

pub returns-clause-gives : goal.returns-clause-gives
returns-clause-gives g c = λ told.
    let none : c.min-turns.result - c.loop-turn._turn ≡ 0 = omega arith in
    ages-end _ _ _ _ c.args.count _ _ _ (c.active_len.ensures told) c.min-turns.ensures (c.loop-turn.invariant.midway told)
    (λ l sound stands many. ap (λ k. map Aged (from_tail k l.active)) (sym none))
