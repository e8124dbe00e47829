use Rattle.std.proofs.Common.{◌≡◌, ◌+◌, ◌∷◌, refl, length, sym, ap, subst, ◌∙◌, arith, IsSomeAnd, true}
use Rattle.std.specs.List.{AllByRecursion}
use Rattle.av_vma.specs.declared.area.Area.{Area}
use Rattle.av_rmap.specs.Looks.{ahead}
use Rattle.av_rmap.specs.Changed.{changed_over}
use Rattle.av_rmap.specs.Seen.{unseen}
use Rattle.av_rmap.specs.View.{View}
use Rattle.av_rmap.specs.Walk.{holds}
use Rattle.av_rmap.proofs.NextAreas.{IsHeld, all-held, as-many}
use Rattle.av_rmap.proofs.Changes.{rest-then}
use Rattle.av_rmap.proofs.SeenLemmas.{seen-so-far}
use Rattle.av_rmap.proofs.seen.clear_seen_from.Goals as goal

pub loop-area-init : goal.loop-area-init
loop-area-init g c =
    let view = g.K.Look.view c.args.look.now in
    let i = c.args.home.1 in
    record {
      held = subst (AllByRecursion (IsHeld view i)) (sym (c.new-looks.ensures view)) (all-held view c.args.home c.requires.spanned);
      rest = refl;
      cleared = ap (λ areas. changed_over (unseen c.args.frame) i areas view) (c.new-looks.ensures view);
      seen = refl;
      kept = refl;
      counted = ap (λ areas. c.args.steps.now + length areas) (c.new-looks.ensures view);
    }

pub loop-area-preserved : goal.loop-area-preserved
loop-area-preserved g c =
    let before = g.K.Look.view c.args.look.now in
    let now = g.K.Look.view c.loop-area.look in
    let f = c.args.frame in
    let i = c.args.home.1 in
    let a = c.in-Some.area in
    let h = c.loop-area.invariant in
    let left : ahead c.loop-area.looks before ≡ a ∷ ahead c.next.new.self before =
    sym (ap (ahead c.loop-area.looks) h.rest) ∙ rw c.in-Some.is at c.next.ensures.some ∙ ap (λ (v : View). a ∷ ahead c.next.new.self v) h.rest in
    let held = subst (AllByRecursion (IsHeld before i)) left h.held in
    let there = subst (λ (o : _). IsSomeAnd o (λ (area : Area). holds i area ≡ true)) (sym (ap (λ (v : View). v.areas a) h.rest)) held.0 in
    let one = ap length left in let counted = h.counted in let step = c.clear_in.ensures.counted in
    record {
      held = held.1;
      rest = rest-then (unseen f) i before now (g.K.Look.view c.clear_in.new.look) (now.areas a) h.rest c.clear_in.ensures.cleared;
      cleared = ap (changed_over (unseen f) i (ahead c.next.new.self before)) c.clear_in.ensures.cleared
          ∙ ap (λ areas. changed_over (unseen f) i areas now) (sym left) ∙ h.cleared;
      seen = seen-so-far f i before now (g.K.Look.view c.clear_in.new.look) (now.areas a) c.loop-area.any_seen c.unwrap_or-any_seen.result there
          (c.unwrap_or-any_seen.ensures ∙ c.clear_in.ensures.seen) c.clear_in.ensures.cleared h.seen;
      kept = c.clear_in.ensures.kept ∙ h.kept;
      counted = omega (arith, one, counted, step);
    }

-- nothing is left
pub returns-clause-counted : goal.returns-clause-counted
returns-clause-counted g c =
    let before = g.K.Look.view c.args.look.now in
    let h = c.loop-area.invariant in
    let none = ap length (sym (ap (ahead c.loop-area.looks) h.rest) ∙ rw c.in_default.is at c.next.ensures.none) in
    let many = as-many c.args.home.1 (before.spans c.args.home.0) in
    let counted = h.counted in
    omega (arith, none, many, counted)
