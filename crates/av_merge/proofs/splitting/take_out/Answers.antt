use Rattle.std.proofs.Common.{◌≡◌, ℕ, ◌-◌, ◌<◌, ◌≤◌, Option, Some, None, List, length, refl, sym, ap, subst, ◌∙◌, arith}
use Rattle.std.specs.Prelude.{IsSome, IsSomeAnd}
use Rattle.av_vma.specs.declared.area.Area.{Area}
use Rattle.av_vma.specs.Areas.{area_of}
use Rattle.av_vma.specs.Index.{first_of}
use Rattle.av_vmatree.specs.declared.span.Span.{Span}
use Rattle.av_vmatree.specs.Spans.{area_after, span_of}
use Rattle.av_merge.specs.Process.{AreAreasOf}
use Rattle.av_merge.proofs.PlacingLaws.{area_in}
use Rattle.av_merge.proofs.Kin.{kin_then}
use Rattle.av_merge.proofs.SplittingEmpty.{IsNext, all_taken, fewer, next_area, next_of, no_next, one_more}
use Rattle.av_merge.proofs.splitting.take_out.Goals as goal

-- the next area at or above the page
next : (p from below : ℕ) (areas : ℕ → Option Area) (spans : List Span) (n : ℕ) → AreAreasOf p areas spans → below ≡ from - 1 →
    Some n ≡ area_after spans below → IsNext spans (from - 1) n
next p from below areas spans n stands is e = next_of spans (from - 1) n stands.spans_are.apart stands.spans_are.distinct
    (ap (area_after spans) (sym is) ∙ sym e)

used : (p from n : ℕ) (areas : ℕ → Option Area) (spans : List Span) → AreAreasOf p areas spans → IsNext spans (from - 1) n → IsSome (areas n)
used p from n areas spans stands next = let i = area_in p areas spans n next.span stands next.there in subst (λ o. IsSome o) (sym i.area_is) refl

-- an area that begins past the range ends it
past : (p from to n : ℕ) (areas : ℕ → Option Area) (spans : List Span) (area : Area) (stands : AreAreasOf p areas spans)
    (next : IsNext spans (from - 1) n) →
    areas n ≡ Some area → to ≤ first_of area → (k : ℕ) (t : Span) → span_of spans k ≡ Some t → from - 1 < t.from → to ≤ t.from
past p from to n areas spans area stands next is end k t e above =
    let least = next.least k t e above in
    let first = (next_area p areas spans (from - 1) n next area stands is).from in
    omega arith

within_range : (p from to n : ℕ) (areas : ℕ → Option Area) (spans : List Span) (area : Area) (stands : AreAreasOf p areas spans)
    (next : IsNext spans (from - 1) n) → areas n ≡ Some area → first_of area < to → next.span.from < to
within_range p from to n areas spans area stands next is low = let first =
    (next_area p areas spans (from - 1) n next area stands is).from in omega arith

none_above : (from below : ℕ) (spans : List Span) → below ≡ from - 1 → None ≡ area_after spans below → (to k : ℕ) (t : Span)
    → span_of spans k ≡ Some t →
    from - 1 < t.from → to ≤ t.from
none_above from below spans is none to k t there above = let low = no_next spans below (sym none) k t there in absurd (omega arith)

pub get-start-requires : goal.get-start-requires
get-start-requires c =
    let p = c.requires.stands.0 in
    let stands = (c.loop-area.invariant.taken.stands p c.requires.stands.1).areas in
    let n = next p c.args.from c.saturating_sub.result (area_of c.loop-area.areas) c.loop-area.tree c.in-Some.area stands
    c.saturating_sub.ensures c.in-Some.ensures in
    record { used = used p c.args.from c.in-Some.area (area_of c.loop-area.areas) c.loop-area.tree stands n }

pub remove-requires : goal.remove-requires
remove-requires c =
    let p = c.requires.stands.0 in
    let stands = (c.loop-area.invariant.taken.stands p c.requires.stands.1).areas in
    let n = next p c.args.from c.saturating_sub.result (area_of c.loop-area.areas) c.loop-area.tree c.in-Some.area stands
    c.saturating_sub.ensures c.in-Some.ensures in
    record {
      there = subst (λ o. IsSomeAnd o (λ s. s.from ≡ first_of c.get-start.result)) (sym n.there)
          (next_area p (area_of c.loop-area.areas) c.loop-area.tree (c.args.from - 1) c.in-Some.area n c.get-start.result stands
          c.get-start.ensures).from;
    }

pub loop-area-smaller : goal.loop-area-smaller
loop-area-smaller c =
    let p = c.requires.stands.0 in
    let stands = (c.loop-area.invariant.taken.stands p c.requires.stands.1).areas in
    let n = next p c.args.from c.saturating_sub.result (area_of c.loop-area.areas) c.loop-area.tree c.in-Some.area stands
    c.saturating_sub.ensures c.in-Some.ensures in
    subst (λ l. length l < length c.loop-area.tree) (sym c.remove.ensures.spans) (fewer c.loop-area.tree c.in-Some.area n.span n.there)

pub loop-area-preserved : goal.loop-area-preserved
loop-area-preserved c =
    let p = c.requires.stands.0 in
    let first = c.requires.stands.1 in
    let so_far = c.loop-area.invariant.taken in
    let stands = (so_far.stands p first).areas in
    let areas = area_of c.loop-area.areas in
    let spans = c.loop-area.tree in
    let k = c.in-Some.area in
    let n = next p c.args.from c.saturating_sub.result areas spans k stands c.saturating_sub.ensures c.in-Some.ensures in
    record {
      taken = one_more c.args.from c.args.to (area_of c.args.areas.now) c.args.tree.now areas spans p first so_far k
          (area_of c.take.new.areas) c.remove.new.self n
          (within_range p c.args.from c.args.to k areas spans c.get-start.result stands n c.get-start.ensures c.if-to-start.false)
          c.take.ensures.areas c.remove.ensures.kept c.remove.ensures.areas c.remove.ensures.pages;
      kin = kin_then c.args.areas.now c.loop-area.areas c.take.new.areas c.args.anons.now c.loop-area.anons c.take.new.anons
          c.loop-area.invariant.kin c.take.ensures.kin;
    }

pub returns-then-to-start-clause-pages : goal.returns-then-to-start-clause-pages
returns-then-to-start-clause-pages c =
    let p = c.requires.stands.0 in
    let first = c.requires.stands.1 in
    let so_far = c.loop-area.invariant.taken in
    let stands = (so_far.stands p first).areas in
    let areas = area_of c.loop-area.areas in
    let spans = c.loop-area.tree in
    let k = c.in-Some.area in
    let n = next p c.args.from c.saturating_sub.result areas spans k stands c.saturating_sub.ensures c.in-Some.ensures in
    all_taken c.args.from c.args.to (area_of c.args.areas.now) c.args.tree.now areas spans p first so_far
    (past p c.args.from c.args.to k areas spans c.get-start.result stands n c.get-start.ensures c.if-to-start.true)

pub returns-clause-pages : goal.returns-clause-pages
returns-clause-pages c =
    all_taken c.args.from c.args.to (area_of c.args.areas.now) c.args.tree.now (area_of c.loop-area.areas) c.loop-area.tree c.requires.stands.0
    c.requires.stands.1 c.loop-area.invariant.taken
    (none_above c.args.from c.saturating_sub.result c.loop-area.tree c.saturating_sub.ensures c.in_default.ensures c.args.to)

pub take-requires-clause-order : goal.take-requires-clause-order
take-requires-clause-order c = c.loop-area.invariant.kin.order

pub returns-then-to-start-clause-kin : goal.returns-then-to-start-clause-kin
returns-then-to-start-clause-kin c = c.loop-area.invariant.kin

pub returns-clause-kin : goal.returns-clause-kin
returns-clause-kin c = c.loop-area.invariant.kin
