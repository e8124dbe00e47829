use Rattle.std.proofs.Common.{IfSome, ◌≡◌, ◌∙◌, false, refl, subst, sym}
use Rattle.av_base.specs.Words.{is_in}
use Rattle.av_plain.specs.Stands.{View}
use Rattle.av_mem.specs.declared.mem.Mem.{Mem}
use Rattle.av_mem.specs.Entries.{DropsOrphan}
use Rattle.av_mem.specs.Mem.{view}
use Rattle.av_mem.proofs.EntryGoes.{entry-within, settles-used}
use Rattle.av_mem.proofs.LetGoLaws.{lets-go}
use Rattle.av_mem.proofs.StayLaws.{parts-then}
use Rattle.av_mem.proofs.WalkLaws.{on_ok}
use Rattle.av_mem.proofs.entries.let_go.Goals as goal

pub slot_behind-slot-requires : goal.slot_behind-slot-requires
slot_behind-slot-requires c = entry-within c.args.mem.now c.args.entry c.requires.there

pub drop_orphan-requires-clause-in_use : goal.drop_orphan-requires-clause-in_use
drop_orphan-requires-clause-in_use c =
    subst (λ (v : View). IfSome (v.find c.in-Some.slot) (λ f. is_in f v.free ≡ false)) (sym c.count_down.ensures.view)
    (settles-used c.args.mem.now c.args.entry c.requires.there c.in-Some.slot (sym c.slot_behind-slot.ensures ∙ c.in-Some.is))

pub returns-in-Some-clause-goes : goal.returns-in-Some-clause-goes
returns-in-Some-clause-goes c = λ d l table p page stands there.
    let old : Mem = c.args.mem.now in
    on_ok c.drop_orphan.result (λ drops. lets-go d old c.drop_orphan.new.mem c.args.entry l table p page c.args.notes.now c.drop_orphan.new.notes
    (parts-then c.count_down.ensures.rest.parts c.drop_orphan.ensures.rest.parts) stands there _
    (sym c.slot_behind-slot.ensures ∙ c.in-Some.is)
    (subst (λ v. DropsOrphan c.in-Some.slot v (view c.drop_orphan.new.mem) c.args.notes.now c.drop_orphan.new.notes) c.count_down.ensures.view drops))
    c.drop_orphan.ensures.drops

pub returns-in-None-clause-goes : goal.returns-in-None-clause-goes
returns-in-None-clause-goes c = λ d l table p page stands there.
    let old : Mem = c.args.mem.now in
    lets-go d old c.count_down.new.mem c.args.entry l table p page c.args.notes.now c.args.notes.now c.count_down.ensures.rest.parts stands there _
    (sym c.slot_behind-slot.ensures ∙ c.in-None.is) (c.count_down.ensures.view, refl)
