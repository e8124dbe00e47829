use Rattle.std.proofs.Common.{◌≡◌, ◌+◌, ◌-◌, ◌∙◌, true, false, cond, Some, IsSome, refl, sym, ap, subst, arith}
use Rattle.std.proofs.lemmas.Bool.{lt-leb, le-ltb, le-leb}
use Rattle.std.proofs.lemmas.Result.{on_ok_weaker}
use Rattle.av_vma.specs.Areas.{area_of}
use Rattle.av_base.specs.Words.{within}
use Rattle.av_vma.specs.Pages.{fresh_area}
use Rattle.av_vma.proofs.Laid.{fresh_has}
use Rattle.av_vmatree.specs.Spans.{area_at}
use Rattle.av_anon.specs.Anons.{family}
use Rattle.av_anon.specs.Spans.{spans_of}
use Rattle.av_merge.specs.Kin.{lengths}
use Rattle.av_merge.specs.Pages.{pages_by}
use Rattle.av_merge.proofs.Kin.{kin_then}
use Rattle.av_merge.proofs.Lengths.{alike_after, around_later}
use Rattle.av_merge.proofs.LinkingLaws.{added, whole_fresh}
use Rattle.av_merge.proofs.PlacingLaws.{stays_trans, used_at, within_from}
use Rattle.av_merge.proofs.changing.map.Goals as goal

pub returns-clause-stands : goal.returns-clause-stands
returns-clause-stands c =
    let p = c.args.process in
    let added = c.add.ensures.stands in
    stays_trans p (area_of c.args.areas.now) (area_of c.add.new.areas) (area_of c.join_beside.new.areas) c.add.new.tree c.join_beside.new.tree added
    (c.join_beside.ensures.stands p added.areas)

pub returns-clause-kin : goal.returns-clause-kin
returns-clause-kin c = on_ok_weaker c.join_beside.result
    (λ last. kin_then c.args.areas.now c.add.new.areas c.join_beside.new.areas c.args.anons.now c.args.anons.now c.join_beside.new.anons
    (added c.args.areas.now c.add.new.areas c.args.anons.now (fresh_area c.args.process c.args.from c.args.to c.args.prot c.args.flags) c.in_ok-number.number
    c.requires.order c.in_ok-number.ensures.unused
    (whole_fresh c.args.process c.args.from c.args.to c.args.prot c.args.flags c.requires.some c.requires.low c.requires.high)
    c.in_ok-number.ensures.areas) last)
    c.join_beside.ensures.kin

pub returns-clause-pages : goal.returns-clause-pages
returns-clause-pages c = on_ok_weaker c.join_beside.result
    (λ last. around_later (lengths c.args.areas.now c.args.anons.now) (lengths c.add.new.areas c.args.anons.now) c.args.from c.args.to
    (pages_by (area_of c.add.new.areas) c.add.new.tree) _
    (pages_by (area_of c.join_beside.new.areas) c.join_beside.new.tree)
    (alike_after (area_of c.args.areas.now) (area_of c.add.new.areas) (family c.args.anons.now) (family c.args.anons.now) (spans_of c.args.anons.now)
    (spans_of c.args.anons.now) c.add.new.tree c.requires.order
    (added c.args.areas.now c.add.new.areas c.args.anons.now (fresh_area c.args.process c.args.from c.args.to c.args.prot c.args.flags) c.in_ok-number.number
    c.requires.order c.in_ok-number.ensures.unused
    (whole_fresh c.args.process c.args.from c.args.to c.args.prot c.args.flags c.requires.some c.requires.low c.requires.high)
    c.in_ok-number.ensures.areas))
    c.in_ok-number.ensures.pages last)
    c.join_beside.ensures.pages

pub join_beside-requires-clause-order : goal.join_beside-requires-clause-order
join_beside-requires-clause-order c =
    (added c.args.areas.now c.add.new.areas c.args.anons.now (fresh_area c.args.process c.args.from c.args.to c.args.prot c.args.flags) c.in_ok-number.number
    c.requires.order c.in_ok-number.ensures.unused
    (whole_fresh c.args.process c.args.from c.args.to c.args.prot c.args.flags c.requires.some c.requires.low c.requires.high)
    c.in_ok-number.ensures.areas).order

pub join_beside-requires-clause-stands : goal.join_beside-requires-clause-stands
join_beside-requires-clause-stands c = (c.args.process, c.add.ensures.stands.areas)

pub join_beside-requires-clause-below : goal.join_beside-requires-clause-below
join_beside-requires-clause-below c =
    let a = c.args in
    let low = c.requires.low in
    let page = a.from - 1 in
    let out : within a.from (a.to - a.from) page ≡ false = rw (lt-leb a.from page (omega arith)) refl in
    c.in_ok-number.ensures.number page
    ∙ ap (λ b. cond b (Some c.in_ok-number.number) (area_at a.tree.now page)) (fresh_has a.process a.from a.to a.prot a.flags page ∙ out)
    ∙ sym c.beside-below.ensures.below

pub join_beside-requires-clause-first : goal.join_beside-requires-clause-first
join_beside-requires-clause-first c =
    let a = c.args in
    let some = c.requires.some in
    c.in_ok-number.ensures.number a.from
    ∙ ap (λ b. cond b (Some c.in_ok-number.number) (area_at a.tree.now a.from)) (fresh_has a.process a.from a.to a.prot a.flags a.from
    ∙ within_from a.from (a.to - a.from) a.from (omega arith) (omega arith))

pub join_beside-requires-clause-last : goal.join_beside-requires-clause-last
join_beside-requires-clause-last c =
    let a = c.args in
    let some = c.requires.some in
    let page = a.to - 1 in
    c.in_ok-number.ensures.number page
    ∙ ap (λ b. cond b (Some c.in_ok-number.number) (area_at a.tree.now page)) (fresh_has a.process a.from a.to a.prot a.flags page
    ∙ within_from a.from (a.to - a.from) page (omega arith) (omega arith))

pub join_beside-requires-clause-above : goal.join_beside-requires-clause-above
join_beside-requires-clause-above c =
    let a = c.args in
    let some = c.requires.some in
    let out : within a.from (a.to - a.from) a.to ≡ false =
    rw (le-leb a.from a.to (omega arith), le-ltb a.to (a.from + (a.to - a.from)) (omega arith)) refl in
    c.in_ok-number.ensures.number a.to
    ∙ ap (λ b. cond b (Some c.in_ok-number.number) (area_at a.tree.now a.to)) (fresh_has a.process a.from a.to a.prot a.flags a.to ∙ out)
    ∙ sym c.beside-below.ensures.above

pub join_beside-requires-clause-apart : goal.join_beside-requires-clause-apart
join_beside-requires-clause-apart c = λ is.
    let used = used_at c.args.process (area_of c.args.areas.now) c.args.tree.now c.args.to c.in_ok-number.number c.requires.stands
    (sym c.beside-below.ensures.above ∙ is) in
    let none : false ≡ true = subst IsSome c.in_ok-number.ensures.unused used in
    cc
