use Rattle.std.proofs.Common.{◌≡◌, Some, None, ap, cond, refl, ◌∙◌}
use Rattle.av_vma.specs.Areas.{area_of}
use Rattle.av_vmatree.specs.Spans.{area_at, holds, unless_area}
use Rattle.av_vmatree.specs.declared.span.Span.{Span}
use Rattle.av_anon.specs.Anons.{family}
use Rattle.av_anon.specs.Spans.{spans_of}
use Rattle.av_merge.proofs.Kin.{keeps_trans}
use Rattle.av_merge.proofs.LinkingLaws.{bare_part, both_parts}
use Rattle.av_merge.proofs.PlacingLaws.{apart_pages}
use Rattle.av_merge.proofs.placing.put_apart.Goals as goal

pub returns-in_ok-put_parts-in-Ok-clause-pages : goal.returns-in_ok-put_parts-in-Ok-clause-pages
returns-in_ok-put_parts-in-Ok-clause-pages c =
    let n = c.args.number in
    let lower = c.args.lower in
    let upper = c.args.upper in
    let r = c.requires in
    let new = c.in_ok-above in
    let e = c.in-Ok.ensures in
    let s = c.place_of.result in
    let t = c.place_of-2.result in
    let low : s.area ≡ n = ap (λ (s : Span). s.area) c.place_of.ensures in
    let high : t.area ≡ new.above = ap (λ (s : Span). s.area) c.place_of-2.ensures in
    let spans = c.args.tree.now in
    apart_pages lower.pid n new.above s t lower upper (area_of c.args.areas.now) (area_of c.put_parts.new.areas) spans c.split.new.self
    r.stands r.there new.ensures.unused
    (record {
      process = refl;
      whole = r.whole_lower;
      from = ap (λ (s : Span). s.from) c.place_of.ensures;
      to =
          ap (λ (s : Span). s.to) c.place_of.ensures;
    })
    (record {
      process = r.same_process;
      whole = r.whole_upper;
      from = ap (λ (s : Span). s.from) c.place_of-2.ensures;
      to = ap (λ (s : Span). s.to) c.place_of-2.ensures;
    })
    (both_parts (area_of c.args.areas.now) (area_of c.add.new.self) (area_of c.put_parts.new.areas) n new.above (Some lower)
    (Some (record upper { anon = None })) (Some upper) new.ensures.added c.put_parts.ensures.areas)
    (λ page. e.pages page
    ∙ (λ i. cond (holds t page) (Some (high i)) (cond (holds s page) (Some (low i)) (unless_area (low i) (area_at spans page)))))

pub put_parts-requires-clause-order : goal.put_parts-requires-clause-order
put_parts-requires-clause-order c =
    (bare_part (area_of c.args.areas.now) (area_of c.add.new.self) (family c.args.anons.now) (spans_of c.args.anons.now)
    c.in_ok-above.above c.args.upper
    c.requires.order c.in_ok-above.ensures.unused c.requires.whole_upper c.in_ok-above.ensures.added).order

pub returns-in_ok-put_parts-in-Ok-clause-kin : goal.returns-in_ok-put_parts-in-Ok-clause-kin
returns-in_ok-put_parts-in-Ok-clause-kin c =
    let f = family c.args.anons.now in
    let spans = spans_of c.args.anons.now in
    keeps_trans (area_of c.args.areas.now) (area_of c.add.new.self) (area_of c.put_parts.new.areas) f f (family c.put_parts.new.anons) spans
    (spans_of c.put_parts.new.anons)
    (bare_part (area_of c.args.areas.now) (area_of c.add.new.self) f spans c.in_ok-above.above c.args.upper
    c.requires.order c.in_ok-above.ensures.unused c.requires.whole_upper c.in_ok-above.ensures.added)
    c.in_ok-put_parts-in-Ok.ensures.kin
