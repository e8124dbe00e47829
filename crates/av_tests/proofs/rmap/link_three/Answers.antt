use Rattle.std.proofs.Common.{ℕ, ◌++◌, List, [], ◌∷◌, Option, None, sym, ap, subst, ◌∙◌}
use Rattle.av_interval.specs.declared.span.Span.{Span}
use Rattle.av_vma.specs.declared.area.Area.{Area}
use Rattle.av_vma.specs.Areas.{area_of}
use Rattle.av_anon.specs.Anons.{Family, family, nobody}
use Rattle.av_anon.specs.Order.{IsInOrder}
use Rattle.av_anon.specs.Spans.{spans_of}
use Rattle.av_tests.proofs.RmapLaws.{are_three}
use Rattle.av_tests.proofs.rmap.link_three.Goals as goal

pub add-requires-clause-order : goal.add-requires-clause-order
add-requires-clause-order c =
    subst (λ (areas : ℕ → Option Area). IsInOrder areas (family c.args.anons.now) (spans_of c.args.anons.now)) (λ i n. sym (c.requires.areas n) i)
    (subst (λ (f : Family). IsInOrder (λ _. None) f (spans_of c.args.anons.now)) (sym c.requires.family)
    (subst (λ (s : ℕ → List Span). IsInOrder (λ _. None) nobody s) (λ i v. sym (c.requires.spans v) i) c.nobody_is_in_order.ensures))

pub add-requires-clause-unused : goal.add-requires-clause-unused
add-requires-clause-unused c = ap (λ (f : Family). f.users 0) c.requires.family

pub returns-clause-areas : goal.returns-clause-areas
returns-clause-areas c =
    are_three (area_of c.args.areas.now) (area_of c.add.new.areas) (area_of c.add_like.new.areas) (area_of c.add_like-2.new.areas)
    c.in_ok-parent.parent c.in_ok-child.child c.in_ok-other.other
    c.requires.areas c.in_ok-parent.ensures.added c.in_ok-child.ensures.unused c.in_ok-child.ensures.added
    c.in_ok-other.ensures.unused c.in_ok-other.ensures.added

pub returns-clause-users : goal.returns-clause-users
returns-clause-users c = c.in_ok-other.ensures.users
    ∙ ap (λ xs. xs ++ c.in_ok-other.other ∷ []) (c.in_ok-child.ensures.users ∙ ap (λ xs. xs ++ c.in_ok-child.child ∷ []) c.in_ok-parent.ensures.users)
