use Rattle.std.proofs.Common.{sym, ap, ◌∙◌}
use Rattle.std.specs.Prelude.{option_and_then}
use Rattle.av_vma.specs.Areas.{area_of}
use Rattle.av_vma.specs.Pages.{makes_anon}
use Rattle.av_anon.specs.Anons.{family}
use Rattle.av_anon.specs.Spans.{spans_of}
use Rattle.av_merge.specs.Kin.{lengths}
use Rattle.av_merge.specs.Pages.{pages_by}
use Rattle.av_merge.proofs.LinkingLaws.{none_of}
use Rattle.av_merge.proofs.PreparingLaws.{makes_none, prepare_kin, prepare_pages, prepares_none}
use Rattle.av_merge.proofs.preparing.prepare.Goals as goal

pub returns-in_default-clause-kin : goal.returns-in_default-clause-kin
returns-in_default-clause-kin c =
    let on = pages_by (area_of c.args.areas.now) c.args.tree.now in
    prepares_none (area_of c.args.areas.now) (family c.args.anons.now) (spans_of c.args.anons.now) _
    (ap (makes_anon (lengths c.args.areas.now c.args.anons.now) on) (ap (option_and_then (area_of c.args.areas.now)) (sym c.in_default.ensures.area)))
    c.requires.order

pub returns-then-is_some-clause-kin : goal.returns-then-is_some-clause-kin
returns-then-is_some-clause-kin c =
    let on = pages_by (area_of c.args.areas.now) c.args.tree.now in
    prepares_none (area_of c.args.areas.now) (family c.args.anons.now) (spans_of c.args.anons.now) _
    (ap (makes_anon (lengths c.args.areas.now c.args.anons.now) on)
    (ap (option_and_then (area_of c.args.areas.now)) (sym c.in-Some.ensures.area) ∙ c.get-area.ensures)
    ∙ makes_none (lengths c.args.areas.now c.args.anons.now) on c.get-area.result (sym c.is_some.ensures ∙ c.if-is_some.true)) c.requires.order

pub returns-clause-kin : goal.returns-clause-kin
returns-clause-kin c =
    let done = c.in_ok-prepare.ensures in
    prepare_kin c.requires.stands.0 c.in-Some.number c.args.page (area_of c.args.areas.now) (area_of c.prepare.new.areas)
    (family c.args.anons.now) (family c.prepare.new.self) (spans_of c.args.anons.now) (spans_of c.prepare.new.self)
    c.args.tree.now c.get-area.result c.requires.order c.requires.stands.1 (sym c.in-Some.ensures.area) c.get-area.ensures
    (none_of c.get-area.result.anon (sym c.is_some.ensures ∙ c.if-is_some.false))
    c.find-before.result c.find-after.result c.find-before.ensures.area c.find-after.ensures.area done.family done.areas done.spans

pub returns-clause-pages : goal.returns-clause-pages
returns-clause-pages c =
    let done = c.in_ok-prepare.ensures in
    prepare_pages c.requires.stands.0 c.in-Some.number c.args.page (area_of c.args.areas.now) (area_of c.prepare.new.areas)
    (family c.args.anons.now) (family c.prepare.new.self) (spans_of c.args.anons.now) (spans_of c.prepare.new.self)
    c.args.tree.now c.get-area.result c.requires.order c.requires.stands.1 (sym c.in-Some.ensures.area) c.get-area.ensures
    (none_of c.get-area.result.anon (sym c.is_some.ensures ∙ c.if-is_some.false))
    c.find-before.result c.find-after.result c.find-before.ensures.area c.find-after.ensures.area done.areas
