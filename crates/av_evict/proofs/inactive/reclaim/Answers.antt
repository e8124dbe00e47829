use Rattle.std.proofs.Common.{slice_get, length, ◌≡◌, ◌≤◌, [], ◌++◌, ◌-◌, ◌+◌, suc, reverse, refl, sym, subst, arith, Some, None, false}
use Rattle.av_plain.specs.Reclaim.{Outcome, Outcomes, from_tail}
use Rattle.av_plain.specs.Sound.{IsSound}
use Rattle.av_evict.proofs.TailLaws.{reclaims-end}
use Rattle.av_evict.specs.Steps.{IsUsed}
use Rattle.av_evict.specs.System.{Always, spares}
use Rattle.av_evict.proofs.SystemLaws.{gives-as, gives-at, leaves-spares, left_so, left_then, loose, midway-start, midway-step}
use Rattle.av_evict.proofs.TailLaws.{ReclaimsLeft, inactive-used, last-some, reclaim-leaves, reclaims-more}
use Rattle.av_evict.proofs.inactive.reclaim.Goals as goal

pub reclaim_one-requires : goal.reclaim_one-requires
reclaim_one-requires g c =
    let at = c.loop-turn.invariant.left in
    (at.0, at.1, at.2, inactive-used _ at.0 c.in-Some.frame at.1 (c.in-Some.ensures false at.0 (loose _ _ at.0 at.1) at.2))

pub loop-turn-init : goal.loop-turn-init
loop-turn-init g c = record {
  midway = λ told.
      let k = g.S.System.view c.args.system.now told in
      let n = c.min-turns.result in
      let all : n - 0 ≡ n = omega arith in
      midway-start _ _ (ReclaimsLeft k.setting (spares k None) (n - 0)) (ReclaimsLeft k.setting (spares k None) n)
      (λ l rest h. subst (λ x. ReclaimsLeft k.setting (spares k None) x l rest) all h);
  left =
      let at = c.requires in
      let many = c.inactive_len.ensures false at.0 (loose _ _ at.0 at.1) at.2 in
      (at.0, at.1, at.2, omega (arith, many, c.min-turns.ensures));
  stays = λ told. left_so _;
}

pub loop-turn-preserved : goal.loop-turn-preserved
loop-turn-preserved g c = record {
  midway = λ told.
      let k = g.S.System.view c.args.system.now told in
      let b = g.S.System.view c.loop-turn.system told in
      let n = c.min-turns.result in
      let f = c.in-Some.frame in
      let left = n - (c.loop-turn._turn + 1) in
      let one_more : suc left ≡ n - c.loop-turn._turn = omega arith in
      midway-step _ _ _ _ _ _ (ReclaimsLeft k.setting (spares k None) (n - c.loop-turn._turn)) (ReclaimsLeft k.setting (spares k None) left)
      (ReclaimsLeft k.setting (spares k None) n)
      (λ l ns. (Some f ≡ slice_get (reverse l.inactive) 0) × Outcome b.setting (spares b None) l f ns)
      (c.loop-turn.invariant.midway told)
      (gives-as _ _ _ _ (IsUsed f) Always (λ l ns. Outcome b.setting (spares b None) l f ns)
      (λ l ns. (Some f ≡ slice_get (reverse l.inactive) 0) × Outcome b.setting (spares b None) l f ns)
      (c.in_ok-reclaim_one.ensures.gives told)
      (λ l sound stands ready. inactive-used _ l f sound (c.in-Some.ensures told l (loose _ _ l sound) stands))
      (λ l ns sound stands ready is. (c.in-Some.ensures told l (loose _ _ l sound) stands, is)))
      (λ l ns rest same closed sound stands q h. subst (λ x. ReclaimsLeft k.setting (spares k None) x l (ns ++ rest)) one_more
      (reclaims-more k.setting (spares k None) left l f ns rest (subst (λ m. IsSound m l) same sound) q.0
      (subst (λ x. Outcome k.setting x l f ns) (leaves-spares k b None (c.loop-turn.invariant.stays told))
      (subst (λ m. Outcome m (spares b None) l f ns) same q.1)) h));
  left =
      let k = g.S.System.view c.loop-turn.system false in
      let f = c.in-Some.frame in
      let left = c.min-turns.result - (c.loop-turn._turn + 1) in
      let at = c.loop-turn.invariant.left in
      let many : suc left ≤ length at.0.inactive = omega (arith, at.3) in
      let first = c.in-Some.ensures false at.0 (loose _ _ at.0 at.1) at.2 in
      gives-at _ _ _ _ (λ l. (suc left ≤ length l.inactive) × (Some f ≡ slice_get (reverse l.inactive) 0)) (λ l. left ≤ length l.inactive)
      (λ l ns. Outcome k.setting (spares k None) l f ns) (at.0, at.1, at.2, (many, first))
      (gives-as _ _ _ _ (IsUsed f) (λ l. (suc left ≤ length l.inactive) × (Some f ≡ slice_get (reverse l.inactive) 0))
      (λ l ns. Outcome k.setting (spares k None) l f ns) (λ l ns. Outcome k.setting (spares k None) l f ns)
      (c.in_ok-reclaim_one.ensures.gives false) (λ l sound stands q. inactive-used _ l f sound q.1) (λ l ns sound stands q out. out))
      (λ l ns sound q out after. reclaim-leaves k.setting (spares k None) left l f ns sound q.1 out q.0);
  stays = λ told. left_then (c.loop-turn.invariant.stays told) (c.in_ok-reclaim_one.ensures.stays told);
}

pub unreachable-requires : goal.unreachable-requires
unreachable-requires g c =
    let at = c.loop-turn.invariant.left in
    last-some (c.min-turns.result - c.loop-turn._turn) at.0.inactive (omega (arith, c.loop-turn-test.true)) at.3
    (c.in_default.ensures false at.0 (loose _ _ at.0 at.1) at.2)

pub returns-clause-gives : goal.returns-clause-gives
returns-clause-gives g c = λ told.
    let k = g.S.System.view c.args.system.now told in
    let none : c.min-turns.result - c.loop-turn._turn ≡ 0 = omega arith in
    reclaims-end k _ _ _ c.args.count _ _ _ (c.inactive_len.ensures told) c.min-turns.ensures (c.loop-turn.invariant.midway told)
    (λ l sound stands many. subst (λ x. Outcomes k.setting (spares k None) l (from_tail x l.inactive) []) (sym none) refl)
