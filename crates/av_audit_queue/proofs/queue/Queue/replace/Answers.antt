use Rattle.std.proofs.Common.{ap, sym, ◌∙◌}
use Rattle.std.specs.Map.{values_of}
use Rattle.av_base.specs.Words.{how_many}
use Rattle.av_base.proofs.Keys.{same_key-is}
use Rattle.av_audit_queue.specs.Queue.{is_same, with_place}
use Rattle.av_audit_queue.proofs.PlacesLaws.{is-not}
use Rattle.av_audit_queue.proofs.QueueLaws.{less-by, like, names-are, none-changes, none-same, one-stays, place-goes, places-fewer}
use Rattle.av_audit_queue.proofs.queue.Queue.replace.Goals as goal

pub returns-then-eq-clause-ok : goal.returns-then-eq-clause-ok
returns-then-eq-clause-ok g c =
    let name = g.T.Member.name in
    let key = c.name-name.result in
    sym (one-stays (λ x. is_same name x c.args.from) c.args.to
    (λ y h. g.met.T.Member.tells_apart y c.args.to
    (sym (same_key-is key (name y) (sym (like name key c.args.from c.name-name.ensures y) ∙ h))
    ∙ names-are key c.name.result c.eq.result c.eq.ensures c.if-eq.true ∙ c.name.ensures))
    c.args.self.now)

pub loop-rank-smaller : goal.loop-rank-smaller
loop-rank-smaller g c =
    let name = g.T.Member.name in
    let key = c.name-name.result in
    less-by _ _ _ (ap (λ es. how_many (λ x. is_same name x c.args.from) (values_of es)) c.in_ok-set.ensures.ok)
    (places-fewer name key (λ x. is_same name x c.args.from) (like name key c.args.from c.name-name.ensures)
    c.args.to c.loop-rank.self-inside.line c.in-Some.rank
    (is-not (is_same name c.args.to c.args.from) (λ h. c.loop-rank.invariant.other
    (sym (same_key-is key (name c.args.to) (sym (like name key c.args.from c.name-name.ensures c.args.to) ∙ h)))))
    c.in-Some.ensures.some)

pub loop-rank-preserved : goal.loop-rank-preserved
loop-rank-preserved g c =
    let name = g.T.Member.name in
    let key = c.name-name.result in
    record {
      other = c.loop-rank.invariant.other;
      left = ap (λ es. with_place name c.args.from c.args.to (values_of es)) c.in_ok-set.ensures.ok
          ∙ place-goes name key (λ x. is_same name x c.args.from) (like name key c.args.from c.name-name.ensures)
          c.args.to c.loop-rank.self-inside.line c.in-Some.rank c.in-Some.ensures.some
          ∙ c.loop-rank.invariant.left;
    }

pub returns-clause-ok : goal.returns-clause-ok
returns-clause-ok g c =
    let name = g.T.Member.name in
    let key = c.name-name.result in
    sym (none-changes (λ x. is_same name x c.args.from) c.args.to (values_of c.loop-rank.self-inside.line)
    (none-same name key (λ x. is_same name x c.args.from) (like name key c.args.from c.name-name.ensures)
    c.loop-rank.self-inside.line c.find.ensures.rising c.in_default.ensures.none))
    ∙ c.loop-rank.invariant.left
