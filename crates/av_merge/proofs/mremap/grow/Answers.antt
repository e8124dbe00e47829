use Rattle.std.proofs.lemmas.Result.{on_ok_weaker}
use Rattle.av_vma.specs.Areas.{area_of}
use Rattle.av_anon.specs.Anons.{family}
use Rattle.av_anon.specs.Spans.{spans_of}
use Rattle.av_merge.specs.Kin.{lengths}
use Rattle.av_merge.specs.Pages.{pages_by}
use Rattle.av_merge.proofs.Kin.{kin_then}
use Rattle.av_merge.proofs.Lengths.{alike_after}
use Rattle.av_merge.proofs.MremapLaws.{grow_first, grow_free, grow_longer, grow_pages}
use Rattle.av_merge.proofs.PlacingLaws.{stays_trans}
use Rattle.av_merge.proofs.mremap.grow.Goals as goal

pub extend-requires-clause-longer : goal.extend-requires-clause-longer
extend-requires-clause-longer c =
    grow_longer c.requires.stands.0 c.args.last c.args.past (area_of c.args.areas.now) c.args.tree.now c.requires.stands.1 c.requires.growth

pub extend-requires-clause-free : goal.extend-requires-clause-free
extend-requires-clause-free c =
    grow_free c.requires.stands.0 c.args.last c.args.past (area_of c.args.areas.now) c.args.tree.now c.requires.stands.1 c.requires.growth

pub join_ends-requires-clause-stands : goal.join_ends-requires-clause-stands
join_ends-requires-clause-stands c = (c.requires.stands.0, (c.extend.ensures.stands c.requires.stands.0 c.requires.stands.1).areas)

pub join_ends-requires-clause-some : goal.join_ends-requires-clause-some
join_ends-requires-clause-some c =
    (grow_first c.requires.stands.0 c.args.last c.args.past (area_of c.args.areas.now) c.args.tree.now c.requires.stands.1 c.requires.growth
    c.in_ok-first.first c.in_ok-first.ensures.first).0

pub join_ends-requires-clause-forward : goal.join_ends-requires-clause-forward
join_ends-requires-clause-forward c =
    (grow_first c.requires.stands.0 c.args.last c.args.past (area_of c.args.areas.now) c.args.tree.now c.requires.stands.1 c.requires.growth
    c.in_ok-first.first c.in_ok-first.ensures.first).1

pub returns-clause-stands : goal.returns-clause-stands
returns-clause-stands c = λ p stands.
    let one = c.extend.ensures.stands p stands in
    stays_trans p (area_of c.args.areas.now) (area_of c.extend.new.areas) (area_of c.join_ends.new.areas) c.extend.new.tree c.join_ends.new.tree one
    (c.join_ends.ensures.stands p one.areas)

pub returns-clause-kin : goal.returns-clause-kin
returns-clause-kin c = on_ok_weaker c.join_ends.result
    (λ last. kin_then c.args.areas.now c.extend.new.areas c.join_ends.new.areas c.args.anons.now c.extend.new.anons c.join_ends.new.anons
    c.in_ok-first.ensures.kin last)
    c.join_ends.ensures.kin

pub returns-clause-pages : goal.returns-clause-pages
returns-clause-pages c = on_ok_weaker c.join_ends.result
    (λ last. grow_pages c.requires.stands.0 c.args.last c.args.past (area_of c.args.areas.now) c.args.tree.now c.requires.stands.1 c.requires.growth
    (lengths c.args.areas.now c.args.anons.now) (lengths c.extend.new.areas c.extend.new.anons) c.in_ok-first.first
    (pages_by (area_of c.extend.new.areas) c.extend.new.tree)
    (pages_by (area_of c.join_ends.new.areas) c.join_ends.new.tree) c.in_ok-first.ensures.first
    (alike_after (area_of c.args.areas.now) (area_of c.extend.new.areas) (family c.args.anons.now) (family c.extend.new.anons)
    (spans_of c.args.anons.now) (spans_of c.extend.new.anons) c.extend.new.tree c.requires.order c.in_ok-first.ensures.kin)
    c.in_ok-first.ensures.pages last)
    c.join_ends.ensures.pages
