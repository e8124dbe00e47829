use Rattle.std.proofs.Common.{◌+◌, ◌≤◌, ◌++◌, length, vec_len, vec_capacity, refl, sym, ap, subst, ◌∙◌, arith}
use Rattle.std.proofs.lemmas.List.{append-nil, length-append}
use Rattle.std.specs.List.{AllByRecursion}
use Rattle.av_rmap.specs.Looks.{ahead}
use Rattle.av_rmap.specs.Walk.{found_from, found_in, list_of, names, walk_of}
use Rattle.av_rmap.proofs.LookLemmas.{found-with, found-without}
use Rattle.av_rmap.proofs.NextAreas.{IsHeld, all-held, as-many}
use Rattle.av_rmap.proofs.walk.find_from.Goals as goal

pub loop-area-init : goal.loop-area-init
loop-area-init g c =
    let view = g.K.Look.view c.args.look.now in
    let f = names c.args.target in
    let i = c.args.home.1 in
    let all = c.new-looks.ensures view in
    record {
      held = subst (AllByRecursion (IsHeld view i)) (sym all) (all-held view c.args.home c.requires.spanned);
      found = ap (λ areas. c.args.into.now.items ++ walk_of view f i areas) all;
      room = subst (λ areas. vec_len c.args.into.now + length (walk_of view f i areas) ≤ vec_capacity c.args.into.now) (sym all) c.requires.room;
      capacity = refl;
      counted = ap (λ areas. c.args.steps.now + length areas) all;
    }

-- nothing is left
pub returns-clause-entries : goal.returns-clause-entries
returns-clause-entries g c =
    let view = g.K.Look.view c.args.look.now in
    let none = rw c.in_default.is at c.next.ensures.none in
    sym (append-nil c.loop-area.into.items)
    ∙ ap (λ areas. c.loop-area.into.items ++ walk_of view (names c.args.target) c.args.home.1 areas) (sym none)
    ∙ c.loop-area.invariant.found

pub returns-clause-counted : goal.returns-clause-counted
returns-clause-counted g c =
    let view = g.K.Look.view c.args.look.now in
    let none = ap length (rw c.in_default.is at c.next.ensures.none) in
    let many = as-many c.args.home.1 (view.spans c.args.home.0) in
    let counted = c.loop-area.invariant.counted in
    omega (arith, none, many, counted)

pub push_reserved-requires : goal.push_reserved-requires
push_reserved-requires g c =
    let view = g.K.Look.view c.args.look.now in
    let f = names c.args.target in
    let i = c.args.home.1 in
    let left = rw c.in-Some.is at c.next.ensures.some in
    let one = ap length (ap list_of (sym c.in-Some-look_at.is) ∙ c.look_at.ensures.found) in
    let all = ap (λ areas. length (walk_of view f i areas)) left
    ∙ length-append (found_in view f i (view.areas c.in-Some.area)) (walk_of view f i (ahead c.next.new.self view)) in
    let room = c.loop-area.invariant.room in
    omega (arith, one, all, room)

pub loop-area-preserved-in-Some-look_at : goal.loop-area-preserved-in-Some-look_at
loop-area-preserved-in-Some-look_at g c =
    let view = g.K.Look.view c.args.look.now in
    let f = names c.args.target in
    let i = c.args.home.1 in
    let h = c.loop-area.invariant in
    let left = rw c.in-Some.is at c.next.ensures.some in
    let found = ap list_of (sym c.in-Some-look_at.is) ∙ c.look_at.ensures.found in
    let one = ap length found in
    let all = ap (λ areas. length (walk_of view f i areas)) left
    ∙ length-append (found_in view f i (view.areas c.in-Some.area)) (walk_of view f i (ahead c.next.new.self view)) in
    let fewer = ap length left in
    let room = h.room in let counted = h.counted in let step = c.look_at.ensures.counted in
    let len = c.push_reserved.ensures.len in let cap = c.push_reserved.ensures.capacity in
    record {
      held = (subst (AllByRecursion (IsHeld view i)) left h.held).1;
      found = found-with c.loop-area.into.items c.push_reserved.new.self.items
          (found_in view f i (view.areas c.in-Some.area)) (walk_of view f i (ahead c.next.new.self view))
          (c.args.into.now.items ++ found_from view f c.args.home)
          c.in-Some-look_at.key (ap (λ areas. c.loop-area.into.items ++ walk_of view f i areas) (sym left) ∙ h.found) found
          c.push_reserved.ensures.items;
      room = omega (arith, one, all, room, len, cap);
      capacity = cap ∙ h.capacity;
      counted = omega (arith, fewer, counted, step);
    }

pub loop-area-preserved : goal.loop-area-preserved
loop-area-preserved g c =
    let view = g.K.Look.view c.args.look.now in
    let f = names c.args.target in
    let i = c.args.home.1 in
    let h = c.loop-area.invariant in
    let left = rw c.in-Some.is at c.next.ensures.some in
    let none = ap list_of (sym c.in_default-look_at.is) ∙ c.look_at.ensures.found in
    let all = ap (λ areas. length (walk_of view f i areas)) left
    ∙ length-append (found_in view f i (view.areas c.in-Some.area)) (walk_of view f i (ahead c.next.new.self view)) in
    let fewer = ap length left in
    let room = h.room in let counted = h.counted in let step = c.look_at.ensures.counted in
    record {
      held = (subst (AllByRecursion (IsHeld view i)) left h.held).1;
      found = found-without c.loop-area.into.items (found_in view f i (view.areas c.in-Some.area))
          (walk_of view f i (ahead c.next.new.self view)) (c.args.into.now.items ++ found_from view f c.args.home)
          (ap (λ areas. c.loop-area.into.items ++ walk_of view f i areas) (sym left) ∙ h.found) none;
      room = omega (arith, all, room);
      capacity = h.capacity;
      counted = omega (arith, fewer, counted, step);
    }
