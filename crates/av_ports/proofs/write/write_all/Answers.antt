use Rattle.std.proofs.Common.{refl, ◌∙◌, arith}
use Rattle.std.proofs.lemmas.List.{take_rest}
use Rattle.av_ports.proofs.Bytes.{Gained-then, Gained-none, take-add}
use Rattle.av_ports.proofs.Times.{only_sink_then}
use Rattle.av_ports.proofs.write.write_all.Goals as goal

pub loop-start-init : goal.loop-start-init
loop-start-init g c = record {
  within = omega arith;
  unfailed = refl;
  writes = record { gained = Gained-none _; flushes = refl };
  only = record { source = refl; device = refl };
  kept = refl;
}

pub loop-start-preserved : goal.loop-start-preserved
loop-start-preserved g c =
    let bytes = rw (take_rest c.args.piece.now c.loop-start.start) at c.in-Ok.ensures.ok.bytes in
    let both = Gained-then _ _ _ _ _ c.loop-start.invariant.writes.gained bytes in
    record {
      within = omega (arith, c.in-Ok.ensures.ok.within);
      unfailed = c.in-Ok.ensures.ok.unfailed ∙ c.loop-start.invariant.unfailed;
      writes = record {
        gained = rw (take-add c.loop-start.start c.in-Ok.count c.args.piece.now) both;
        flushes = c.in-Ok.ensures.ok.flushes ∙ c.loop-start.invariant.writes.flushes;
      };
      only = only_sink_then _ _ _ c.loop-start.invariant.only c.in-Ok.ensures.only;
      kept = c.in-Ok.ensures.kept ∙ c.loop-start.invariant.kept;
    }
