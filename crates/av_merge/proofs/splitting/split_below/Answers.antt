use Rattle.std.proofs.Common.{◌≡◌, ℕ, ◌≤◌, ◌<◌, Option, Some, None, IfSome, IsSomeAnd, sym, subst, ◌∙◌}
use Rattle.std.proofs.lemmas.Result.{on_ok_weaker}
use Rattle.av_vma.specs.Areas.{area_of}
use Rattle.av_vmatree.specs.declared.span.Span.{Span}
use Rattle.av_vmatree.proofs.Sides.{below_is}
use Rattle.av_merge.specs.Pages.{pages_by}
use Rattle.av_merge.specs.Process.{NoneCrosses}
use Rattle.av_merge.proofs.SplittingLaws.{split_starts, none_by_last, none_from, none_starts, uncut}
use Rattle.av_merge.proofs.Kin.{kin_stays}
use Rattle.av_merge.proofs.PlacingMaps.{laid_of}
use Rattle.av_merge.proofs.PlacingLaws.{others_refl}
use Rattle.av_merge.proofs.splitting.split_below.Goals as goal

pub split-requires-clause-inside : goal.split-requires-clause-inside
split-requires-clause-inside c =
    let k = below_is c.args.tree.now c.args.at c.in-Some.span c.requires.stands.1.spans_are.distinct (sym c.requires.last ∙ c.in-Some.is) in
    subst (λ o. IsSomeAnd o (λ s. (s.from < c.args.at) × (c.args.at < s.to))) (sym k.there) (k.side, c.if-at-span.true)

pub returns-in-Some-clause-none_crosses : goal.returns-in-Some-clause-none_crosses
returns-in-Some-clause-none_crosses c =
    let p = c.requires.stands.0 in
    let on = pages_by (area_of c.args.areas.now) c.args.tree.now in
    let after = area_of c.split.new.areas in
    let spans = c.split.new.tree in
    let stays = c.split.ensures.stands p c.requires.stands.1 in
    on_ok_weaker c.split.result
    (λ pages. none_from p c.args.at after spans stays.areas (λ area e. split_starts on c.args.at area (sym (pages c.args.at) ∙ e)))
    c.split.ensures.pages

-- none crosses where the last area below ends at the page or before it
last_ends : (o last : Option Span) (at : ℕ) (s : Span) → o ≡ last → o ≡ Some s → s.to ≤ at → IfSome last (λ t. t.to ≤ at)
last_ends o last at s is e h = subst (λ x. IfSome x (λ t. t.to ≤ at)) (sym e ∙ is) h

no_last : (o last : Option Span) (at : ℕ) → o ≡ last → o ≡ None → IfSome last (λ t. t.to ≤ at)
no_last o last at is e = subst (λ x. IfSome x (λ t. t.to ≤ at)) (sym e ∙ is) tt

pub returns-in_default : goal.returns-in_default
returns-in_default c =
    let p = c.requires.stands.0 in
    let stands = c.requires.stands.1 in
    let areas = area_of c.args.areas.now in
    let spans = c.args.tree.now in
    let none : NoneCrosses c.args.at spans = none_by_last spans c.args.at stands.spans_are.apart
    (last_ends c.args.below _ c.args.at c.in-Some.span c.requires.last c.in-Some.is c.if-at-span.false) in
    record {
      stands = λ q h. record { areas = h; others = others_refl q areas };
      kin = kin_stays c.args.areas.now c.args.anons.now c.requires.order;
      pages = uncut (pages_by areas spans) c.args.at (laid_of p areas spans stands) (none_starts p c.args.at areas spans stands none);
      none_crosses = none;
    }

pub returns-in_default-2 : goal.returns-in_default-2
returns-in_default-2 c =
    let p = c.requires.stands.0 in
    let stands = c.requires.stands.1 in
    let areas = area_of c.args.areas.now in
    let spans = c.args.tree.now in
    let none : NoneCrosses c.args.at spans = none_by_last spans c.args.at stands.spans_are.apart
    (no_last c.args.below _ c.args.at c.requires.last c.in_default.is) in
    record {
      stands = λ q h. record { areas = h; others = others_refl q areas };
      kin = kin_stays c.args.areas.now c.args.anons.now c.requires.order;
      pages = uncut (pages_by areas spans) c.args.at (laid_of p areas spans stands) (none_starts p c.args.at areas spans stands none);
      none_crosses = none;
    }
