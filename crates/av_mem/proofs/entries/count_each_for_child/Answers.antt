use Rattle.std.proofs.Common.{◌<◌, ◌∙◌, ap, arith, length}
use Rattle.av_mem.specs.Mem.{view}
use Rattle.av_mem.proofs.LetGoLaws.{rest-then}
use Rattle.av_mem.specs.Entries.{view_more}
use Rattle.av_mem.proofs.EntryCounts.{in-use-now, one-up, room-for-one}
use Rattle.av_mem.proofs.entries.count_each_for_child.Goals as goal

pub count_for_child-requires-clause-used : goal.count_for_child-requires-clause-used
count_for_child-requires-clause-used c =
    let i = c.loop-entry.entry-index in
    let v = c.loop-entry.invariant in
    in-use-now c.args.mem.now c.loop-entry.mem c.args.run.now i (omega (arith, c.loop-entry-test.true)) v.counts v.rest.parts.count _
    (c.requires.used i (omega (arith, c.loop-entry-test.true)))

pub count_for_child-requires-clause-room : goal.count_for_child-requires-clause-room
count_for_child-requires-clause-room c =
    room-for-one c.args.mem.now c.loop-entry.mem c.args.run.now c.loop-entry.entry-index (omega (arith, c.loop-entry-test.true))
    c.loop-entry.invariant.counts c.requires.room

pub loop-entry-preserved : goal.loop-entry-preserved
loop-entry-preserved c =
    let i = c.loop-entry.entry-index in
    let run = c.args.run.now in
    let v = c.loop-entry.invariant in
    let low : i < length run = omega (arith, c.loop-entry-test.true) in
    record {
      within = omega (arith, low);
      counts = c.in_ok-count_for_child.ensures.counts ∙ ap (view_more _) v.counts ∙ one-up run i (view c.args.mem.now) low;
      tables = c.in_ok-count_for_child.ensures.tables ∙ v.tables;
      rest = rest-then v.rest c.in_ok-count_for_child.ensures.rest;
    }

pub returns-in_err-count_for_child-clause-rest : goal.returns-in_err-count_for_child-clause-rest
returns-in_err-count_for_child-clause-rest c = rest-then c.loop-entry.invariant.rest c.in_err-count_for_child.ensures.rest
