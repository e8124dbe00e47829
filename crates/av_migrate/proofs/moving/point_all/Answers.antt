use Rattle.std.proofs.Common.{◌∙◌, ap, arith, get_or, refl, sym, take}
use Rattle.std.proofs.lemmas.List.{take_more}
use Rattle.av_pagetable.specs.Entries.{entry_at}
use Rattle.av_migrate.specs.Point.{with_frame_at}
use Rattle.av_migrate.proofs.PointLaws.{with_frame-more, with_frame-none}
use Rattle.av_migrate.proofs.moving.point_all.Goals as goal

pub loop-key-init : goal.loop-key-init
loop-key-init c = record {
  within = omega arith;
  entries = with_frame-none c.args.frame (entry_at c.args.tables.now);
  processes = refl;
}

pub loop-key-preserved : goal.loop-key-preserved
loop-key-preserved c =
    let keys = c.args.keys.now in
    let i = c.loop-key.key-index in
    let v = c.loop-key.invariant in
    record {
      within = omega (arith, c.loop-key-test.true);
      entries = c.point.ensures.entries
          ∙ with_frame-more (take i keys) (get_or keys i (0, 0)) c.args.frame (entry_at c.args.tables.now) (entry_at c.loop-key.tables) v.entries
          ∙ ap (λ ks. with_frame_at ks c.args.frame (entry_at c.args.tables.now)) (sym (take_more keys i (0, 0) c.loop-key-test.true));
      processes = c.point.ensures.processes ∙ v.processes;
    }
