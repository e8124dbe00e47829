use Rattle.std.proofs.Common.{false, true, ap, ◌∙◌}
use Rattle.av_plain.specs.Areas.{rmap_after_all}
use Rattle.av_plain.specs.Event.{after_all, note_events}
use Rattle.av_plain.specs.Load.{with_loads}
use Rattle.av_mem.specs.Mem.{setting_by}
use Rattle.av_fault.proofs.MadeLaws.{read-needs, used-made}
use Rattle.av_fault.proofs.UsingLaws.{entry-here, here-maps}
use Rattle.av_fault.proofs.using.read_in.Goals as goal

pub drop_where_full-requires-clause-in_use : goal.drop_where_full-requires-clause-in_use
drop_where_full-requires-clause-in_use c =
    let b = c.requires.between in
    here-maps b.0 c.args.mem.now b.1 b.2 b.3 b.4 c.args.key c.args.frame false false c.requires.here

pub read_frame-requires : goal.read_frame-requires
read_frame-requires c = ap (λ at. at c.args.key.0 c.args.key.1) c.drop_where_full.ensures.entries ∙ c.requires.here

pub returns-clause-made : goal.returns-clause-made
returns-clause-made c = λ d w r l h.
    let old = c.args.mem.now in
    let mid = c.drop_where_full.new.mem in
    let at = entry-here d old w r l h c.args.key c.args.frame false false c.requires.here in
    let x = c.in_ok-drop_where_full.ensures.dropped d w r l h in
    let events = note_events x.added in
    used-made d old mid c.read_frame.new.mem w r l c.args.key c.args.frame false false true c.args.notes.now c.drop_where_full.new.notes
    x.added at x.drops
    x.done x.notes (read-needs l c.args.key c.args.frame false at)
    (c.read_frame.ensures.read d (with_loads (setting_by d old) w l events) (rmap_after_all l events r) (after_all l events) x.done.between)
    false c.read_frame.ensures.here (λ is. is)
