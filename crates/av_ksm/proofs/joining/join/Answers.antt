use Rattle.std.proofs.Common.{ap, refl, ◌∙◌}
use Rattle.av_frames.specs.Store.{Shown, shown}
use Rattle.av_pagetable.specs.Entries.{entry_at, with_entry}
use Rattle.av_mem.specs.Entries.{view_settled}
use Rattle.av_mem.specs.Mem.{view}
use Rattle.av_mem.specs.declared.mem.Mem.{Mem}
use Rattle.av_mem.proofs.EntryComes.{parts-with}
use Rattle.av_mem.proofs.StayLaws.{parts-then}
use Rattle.av_ksm.specs.Join.{view_joined}
use Rattle.av_ksm.specs.Joining.{item_by}
use Rattle.av_ksm.proofs.JoiningViews.{joined-settles, joining-view, other-frame, room-still}
use Rattle.av_ksm.proofs.StepDone.{join-done-at}
use Rattle.av_ksm.proofs.joining.join.Goals as goal

pub map_up-requires-clause-room : goal.map_up-requires-clause-room
map_up-requires-clause-room c = room-still c.args.mem.now c.add_item.new.mem c.map_down.new.self c.args.frame c.args.own
    c.in_ok-add_item.ensures.rest c.map_down.ensures (other-frame c.args.frame c.args.own c.requires.other).0 c.requires.room

pub returns-clause-joined : goal.returns-clause-joined
returns-clause-joined c =
    let old : Mem = c.args.mem.now in
    let mid : Mem = c.add_item.new.mem in
    let apart = other-frame c.args.frame c.args.own c.requires.other in
    c.settle.ensures.settled
    ∙ ap (view_settled c.args.own) (joining-view old mid (record mid { frames = c.map_up.new.self; tables = c.change.new.self })
    c.args.key.0 c.args.key.1 c.args.frame c.args.own (item_by old c.args.home) apart.0 c.in_ok-add_item.ensures.added refl
    (shown c.map_down.new.self) c.map_down.ensures c.map_up.ensures
    (c.change.ensures.sets ∙ ap (λ e. with_entry c.args.key.0 c.args.key.1 e (entry_at mid.tables)) c.read_only.ensures))
    ∙ joined-settles (view old) c.args.key.0 c.args.key.1 c.args.frame c.args.own (item_by old c.args.home) apart.1 c.requires.mapped
    c.requires.uncached

pub returns-clause-done : goal.returns-clause-done
returns-clause-done c = λ d w r l seen h own merged same home.
    let old : Mem = c.args.mem.now in
    let mid : Mem = c.add_item.new.mem in
    join-done-at d old c.settle.new.mem w r l h
    (parts-then c.in_ok-add_item.ensures.parts
    (parts-then (parts-with mid _ c.change.new.self refl refl c.change.ensures.processes)
    (parts-then (parts-with (record mid { tables = c.change.new.self }) c.map_up.new.self _
    (ap (λ (s : Shown). s.count) c.map_up.ensures ∙ ap (λ (s : Shown). s.count) c.map_down.ensures)
    (ap (λ (s : Shown). s.locks) c.map_up.ensures ∙ ap (λ (s : Shown). s.locks) c.map_down.ensures) refl) c.settle.ensures.rest.parts)))
    c.args.key.0 c.args.frame c.args.own seen merged same c.requires.unlocked c.args.key.1 own
    (returns-clause-joined c ∙ ap (λ x. view_joined c.args.key.0 c.args.key.1 c.args.frame c.args.own (item_by old x) (view old)) home)
