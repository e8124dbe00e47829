use Rattle.std.proofs.lemmas.Result.{on_ok_weaker}
use Rattle.av_vma.specs.Areas.{area_of}
use Rattle.av_anon.specs.Anons.{family}
use Rattle.av_anon.specs.Spans.{spans_of}
use Rattle.av_merge.specs.Kin.{lengths}
use Rattle.av_merge.specs.Pages.{pages_by}
use Rattle.av_merge.proofs.Kin.{kin_then}
use Rattle.av_merge.proofs.Lengths.{alike_after, joined_later}
use Rattle.av_merge.proofs.PlacingLaws.{stays_trans}
use Rattle.av_merge.proofs.joining.join_beside.Goals as goal

pub join_above-requires-clause-stands : goal.join_above-requires-clause-stands
join_above-requires-clause-stands c =
    let stands = c.requires.stands in
    (stands.0, (c.join_below.ensures.stands stands.0 stands.1).areas)

pub returns-clause-stands : goal.returns-clause-stands
returns-clause-stands c = λ p stands.
    let one = c.join_below.ensures.stands p stands in
    stays_trans p (area_of c.args.areas.now) (area_of c.join_below.new.areas) (area_of c.join_above.new.areas) c.join_below.new.tree
    c.join_above.new.tree one
    (c.join_above.ensures.stands p one.areas)

pub returns-clause-pages : goal.returns-clause-pages
returns-clause-pages c = on_ok_weaker c.join_above.result
    (λ last. joined_later (lengths c.args.areas.now c.args.anons.now) (lengths c.join_below.new.areas c.join_below.new.anons) c.args.past
    (pages_by (area_of c.join_below.new.areas) c.join_below.new.tree) _
    (pages_by (area_of c.join_above.new.areas) c.join_above.new.tree)
    (alike_after (area_of c.args.areas.now) (area_of c.join_below.new.areas) (family c.args.anons.now) (family c.join_below.new.anons)
    (spans_of c.args.anons.now) (spans_of c.join_below.new.anons) c.join_below.new.tree c.requires.order c.in_ok-joined.ensures.kin)
    c.in_ok-joined.ensures.pages last)
    c.join_above.ensures.pages

pub returns-clause-kin : goal.returns-clause-kin
returns-clause-kin c = on_ok_weaker c.join_above.result
    (λ last. kin_then c.args.areas.now c.join_below.new.areas c.join_above.new.areas c.args.anons.now c.join_below.new.anons c.join_above.new.anons
    c.in_ok-joined.ensures.kin last)
    c.join_above.ensures.kin
