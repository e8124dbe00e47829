use Rattle.std.proofs.Common.{◌≡◌, ◌∙◌, sym, ap, inl, inr}
use Rattle.av_vmatree.specs.declared.span.Span.{Span}
use Rattle.std.proofs.lemmas.Option.{none-some, same_Some}
use Rattle.av_vma.specs.Areas.{area_of}
use Rattle.av_merge.specs.Kin.{lengths}
use Rattle.av_merge.specs.Pages.{pages_by}
use Rattle.av_merge.proofs.JoiningLaws.{left_side, not_joined, right_side, sides_of}
use Rattle.av_merge.proofs.joining.join_at.Goals as goal

pub returns-in_default-clause-pages : goal.returns-in_default-clause-pages
returns-in_default-clause-pages c =
    let areas = area_of c.args.areas.now in
    let spans = c.args.tree.now in
    not_joined (lengths c.args.areas.now c.args.anons.now) c.args.at (pages_by areas spans) (λ left right before after joins.
    let sides = sides_of (lengths c.args.areas.now c.args.anons.now) c.requires.stands.0 c.args.at areas spans left right
    c.requires.stands.1 before after joins in
    none-some sides.left (sym c.in_default.is ∙ c.around-below.ensures.below ∙ sides.below))

pub returns-in_default-above-clause-pages : goal.returns-in_default-above-clause-pages
returns-in_default-above-clause-pages c =
    let areas = area_of c.args.areas.now in
    let spans = c.args.tree.now in
    not_joined (lengths c.args.areas.now c.args.anons.now) c.args.at (pages_by areas spans) (λ left right before after joins.
    let sides = sides_of (lengths c.args.areas.now c.args.anons.now) c.requires.stands.0 c.args.at areas spans left right
    c.requires.stands.1 before after joins in
    none-some sides.right (sym c.in_default-above.is ∙ c.around-below.ensures.above ∙ sides.above))

pub returns-then-left-at-clause-pages : goal.returns-then-left-at-clause-pages
returns-then-left-at-clause-pages c =
    let areas = area_of c.args.areas.now in
    let spans = c.args.tree.now in
    not_joined (lengths c.args.areas.now c.args.anons.now) c.args.at (pages_by areas spans) (λ left right before after joins.
    let sides = sides_of (lengths c.args.areas.now c.args.anons.now) c.requires.stands.0 c.args.at areas spans left right
    c.requires.stands.1 before after joins in
    let left_is : c.in-Some.left ≡ sides.left = same_Some c.in-Some.left sides.left (sym c.in-Some.is ∙ c.around-below.ensures.below ∙ sides.below) in
    let right_is : c.in-Some-above.right ≡ sides.right = same_Some c.in-Some-above.right sides.right
    (sym c.in-Some-above.is ∙ c.around-below.ensures.above ∙ sides.above) in
    let ends : c.in-Some.left.to ≡ c.args.at = ap (λ (s : Span). s.to) left_is ∙ sides.ends in
    let begins : c.in-Some-above.right.from ≡ c.args.at = ap (λ (s : Span). s.from) right_is ∙ sides.begins in
    elim c.then-left-at.either [ inl apart ↦ apart ends | inr both ↦ both.1 begins ])

pub join-requires : goal.join-requires
join-requires c =
    let spans = c.args.tree.now in
    record {
      order = c.requires.order;
      stands = c.requires.stands;
      below = left_side spans c.args.at c.in-Some.left c.requires.stands.1.spans_are c.requires.some
          (sym c.around-below.ensures.below ∙ c.in-Some.is) c.if-left-at.false;
      above = right_side spans c.args.at c.in-Some-above.right c.requires.stands.1.spans_are
          (sym c.around-below.ensures.above ∙ c.in-Some-above.is) c.if-right-at.false;
    }
