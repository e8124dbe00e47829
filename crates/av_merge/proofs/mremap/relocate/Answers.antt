use Rattle.std.proofs.Common.{subst, sym}
use Rattle.av_merge.specs.Process.{Stays}
use Rattle.av_vma.specs.Areas.{area_of}
use Rattle.av_anon.specs.Anons.{family}
use Rattle.av_anon.specs.Spans.{spans_of}
use Rattle.av_merge.proofs.MremapLaws.{begins, keeps_elsewhere, pages_elsewhere, stays_elsewhere, stays_gone}
use Rattle.av_merge.proofs.mremap.relocate.Goals as goal

pub remove-requires : goal.remove-requires
remove-requires c =
    let a = c.args in
    let r = c.requires in
    record {
      there = begins r.stands.0 a.number a.from a.to
          (area_of a.areas.now) a.tree.now a.area r.stands.1 r.number r.there r.first r.low r.high c.shift-target.result c.shift-target.ensures;
    }

pub take-requires-clause-order : goal.take-requires-clause-order
take-requires-clause-order c =
    let a = c.args in
    let r = c.requires in
    (keeps_elsewhere r.stands.0 a.number a.from a.to
    (area_of a.areas.now) a.tree.now a.area r.stands.1 r.number r.there r.first r.low r.high c.shift-target.result c.shift-target.ensures
    (area_of c.change.new.self) (family a.anons.now) (spans_of a.anons.now) r.order c.change.ensures).order

pub returns-in-Ok-clause-stands : goal.returns-in-Ok-clause-stands
returns-in-Ok-clause-stands c = λ p stands.
    let a = c.args in
    let r = c.requires in
    stays_elsewhere p a.number a.from a.to
    (area_of a.areas.now) a.tree.now a.area stands r.number r.there r.first r.low r.high c.shift-target.result c.shift-target.ensures
    c.remove.new.self c.remove.ensures.kept c.remove.ensures.areas c.remove.ensures.pages
    (area_of c.change.new.self) c.insert.new.self c.change.ensures c.in-Ok.ensures.kept c.in-Ok.ensures.areas c.in-Ok.ensures.pages

pub returns-in-Ok-clause-kin : goal.returns-in-Ok-clause-kin
returns-in-Ok-clause-kin c =
    let a = c.args in
    let r = c.requires in
    keeps_elsewhere r.stands.0 a.number a.from a.to
    (area_of a.areas.now) a.tree.now a.area r.stands.1 r.number r.there r.first r.low r.high c.shift-target.result c.shift-target.ensures
    (area_of c.change.new.self) (family a.anons.now) (spans_of a.anons.now) r.order c.change.ensures

pub returns-in-Ok-clause-pages : goal.returns-in-Ok-clause-pages
returns-in-Ok-clause-pages c =
    let a = c.args in
    let r = c.requires in
    pages_elsewhere r.stands.0 a.number a.from a.to
    (area_of a.areas.now) a.tree.now a.area r.stands.1 r.number r.there r.first r.low r.high c.shift-target.result c.shift-target.ensures
    c.remove.new.self c.remove.ensures.kept c.remove.ensures.areas c.remove.ensures.pages
    (area_of c.change.new.self) c.insert.new.self c.change.ensures c.in-Ok.ensures.kept c.in-Ok.ensures.areas c.in-Ok.ensures.pages

pub returns-in-Err-clause-stands : goal.returns-in-Err-clause-stands
returns-in-Err-clause-stands c = λ p stands.
    let a = c.args in
    let r = c.requires in
    subst (λ tree. Stays p (area_of a.areas.now) (area_of c.take.new.areas) tree) (sym c.in-Err.ensures.spans)
    (stays_gone p a.number a.from a.to
    (area_of a.areas.now) a.tree.now a.area stands r.number r.there r.first r.low r.high c.shift-target.result c.shift-target.ensures
    c.remove.new.self c.remove.ensures.kept c.remove.ensures.areas c.remove.ensures.pages
    (area_of c.change.new.self) (area_of c.take.new.areas) c.change.ensures c.take.ensures.areas)
