use Rattle.std.proofs.Common.{List, ap, refl, ◌∙◌}
use Rattle.av_base.specs.Keys.{Key}
use Rattle.av_pagetable.specs.Entries.{entry_at}
use Rattle.av_mem.specs.declared.mem.Mem.{Mem}
use Rattle.av_migrate.specs.Point.{with_frame_at}
use Rattle.av_migrate.proofs.MovingLaws.{cached-as, gone-view, no-items, not-active, not-cached, not-inactive}
use Rattle.av_migrate.proofs.moving.move_frame.Goals as goal

pub rename-requires-clause-cached : goal.rename-requires-clause-cached
rename-requires-clause-cached g c = let s = c.requires.steady in cached-as s.0 c.args.mem.now s.1 s.2 c.args.from

pub rename-requires-clause-not_cached : goal.rename-requires-clause-not_cached
rename-requires-clause-not_cached g c = let s = c.requires.steady in
    not-cached s.0 c.args.mem.now s.1 s.2 c.args.to c.requires.in_range.1 c.requires.free

pub rename-requires-2-clause-not_active : goal.rename-requires-2-clause-not_active
rename-requires-2-clause-not_active g c = let s = c.requires.steady in
    not-active s.0 c.args.mem.now s.1 s.2 c.args.to c.requires.in_range.1 c.requires.free

pub rename-requires-2-clause-not_inactive : goal.rename-requires-2-clause-not_inactive
rename-requires-2-clause-not_inactive g c = let s = c.requires.steady in
    not-inactive s.0 c.args.mem.now s.1 s.2 c.args.to c.requires.in_range.1 c.requires.free

pub rename-requires-3-clause-not_merged : goal.rename-requires-3-clause-not_merged
rename-requires-3-clause-not_merged g c = let s = c.requires.steady in
    no-items s.0 c.args.mem.now s.1 s.2 c.args.to c.requires.in_range.1 c.requires.free

pub returns-clause-moved : goal.returns-clause-moved
returns-clause-moved g c =
    let old : Mem = c.args.mem.now in
    let new : Mem = record old {
      frames = c.relocate.new.self;
      lists = c.rename-2.new.self;
      items = c.rename-3.new.self;
      tables = c.point_all.new.tables;
      swap = c.rename.new.self;
    } in
    gone-view old new c.args.from c.args.to c.in_ok-keys.keys.items (record {
      rest = refl;
      entries = c.point_all.ensures.entries
          ∙ ap (λ (keys : List Key). with_frame_at keys c.args.to (entry_at old.tables)) c.deref.ensures.value;
      processes = c.point_all.ensures.processes;
      swap = c.rename.ensures;
      lists = c.rename-2.ensures;
      items = c.rename-3.ensures;
      frames = c.relocate.ensures;
    }) c.requires.steady c.in_ok-keys.ensures.keys
