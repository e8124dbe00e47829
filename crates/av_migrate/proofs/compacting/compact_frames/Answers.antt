use Rattle.std.proofs.Common.{refl}
use Rattle.av_mem.specs.declared.mem.Mem.{Mem}
use Rattle.av_migrate.proofs.CompactLaws.{going-end, going-more, going-steady}
use Rattle.av_migrate.proofs.MovingLaws.{ordered-parts, ordered-view}
use Rattle.av_migrate.proofs.compacting.compact_frames.Goals as goal

pub move_frame-requires-clause-steady : goal.move_frame-requires-clause-steady
move_frame-requires-clause-steady g c =
    let l = c.loop-from in
    going-steady c.args.mem.now l.mem l.low l.past c.args.notes.now l.notes c.args.steps.now l.steps l.invariant c.requires

pub loop-from-preserved : goal.loop-from-preserved
loop-from-preserved g c =
    let l = c.loop-from in
    let moves = c.in_ok-move_frame.ensures in
    going-more c.args.mem.now l.mem l.low l.past c.args.notes.now l.notes c.args.steps.now l.steps l.invariant c.in-Some.from c.in-Some.to
    c.in-Some.ensures c.move_frame.new.mem moves.moved moves.parts c.push.new.self c.in_ok-push.ensures.ok c.move_frame.new.steps moves.counted

pub returns-clause-compacts : goal.returns-clause-compacts
returns-clause-compacts g c =
    let l = c.loop-from in
    let now : Mem = l.mem in
    let new : Mem = record now { frames = c.order_free.new.self } in
    going-end c.args.mem.now now l.low l.past c.args.notes.now l.notes c.args.steps.now l.steps l.invariant c.in_default.ensures new
    (ordered-view now new refl c.order_free.ensures) (ordered-parts now new refl c.order_free.ensures)
