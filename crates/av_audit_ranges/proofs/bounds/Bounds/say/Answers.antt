use Rattle.std.proofs.Common.{◌≡◌, Some, None, ap, arith, is_some, sym, ◌∙◌}
use Rattle.std.specs.BTreeMap.{is_at}
use Rattle.std.specs.Map.{remove_entry, set_value}
use Rattle.std.specs.Option.{option_copied_mut, unwrap_or}
use Rattle.std.specs.Ordering.{nat_cmp}
use Rattle.av_audit_ranges.specs.Ranges.{bound_at, locked_bounds}
use Rattle.av_audit_ranges.proofs.CountLaws.{count-less, count-set, locked-removed, locked-set, one}
use Rattle.av_audit_ranges.proofs.MarksLaws.{below-same, not-at, marks-at, marks-gone}
use Rattle.av_audit_ranges.proofs.bounds.Bounds.say.Goals as goal

pub returns-then-same-clause-at : goal.returns-then-same-clause-at
returns-then-same-clause-at c =
    let u = c.remove.ensures.updates in
    marks-gone (bound_at c.args.self.now) (bound_at c.remove.new.self.entries) c.args.at u.1
    (λ p other. u.2 p (not-at c.args.at p other) ∙ ap (λ b. bound_at b p) c.self.view_is)
    ∙ sym c.requires.below ∙ c.same.ensures.same c.if-same.true

pub returns-in-Some-clause-at : goal.returns-in-Some-clause-at
returns-in-Some-clause-at c =
    let some = ap is_some (sym c.get_mut.ensures.value ∙ ap (option_copied_mut) c.in-Some.is) in
    let w = c.get_mut.follows.holds c.args.marks in
    marks-at (bound_at (c.get_mut.follows.lender c.args.marks).entries) c.args.at c.args.marks (w.3 some).1

pub returns-in-Some-clause-tight : goal.returns-in-Some-clause-tight
returns-in-Some-clause-tight c = λ is.
    let some = ap is_some (sym c.get_mut.ensures.value ∙ ap option_copied_mut c.in-Some.is) in
    let u = (c.get_mut.follows.holds c.args.marks).3 some in
    let new = (c.get_mut.follows.lender c.args.marks).entries in
    let below = below-same (bound_at new) (bound_at c.args.self.now) c.args.at
    (λ p low. u.2 p (not-at c.args.at p (λ e. omega (arith, e, low))) ∙ ap (λ b. bound_at b p) c.self.view_is) in
    c.same.ensures.other c.if-same.false (c.requires.below ∙ sym (inner (sym u.1 ∙ is) ∙ below))
  where
    inner : {X : Type 0} {x y : X} → Some x ≡ Some y → x ≡ y
    inner e = cc

-- ---- the count

pub overflow_sub-self : goal.overflow_sub-self
overflow_sub-self c =
    let old = c.self.inside.map.entries in
    let gone = c.locks.ensures ∙ ap one (c.unwrap_or-gone.ensures ∙ ap (λ o. unwrap_or o None) c.remove.ensures.value) in
    (count-less c.self.inside.locked c.locks.result (locked_bounds (remove_entry (is_at (nat_cmp c.args.at)) old)) (locked_bounds old)
    (one (unwrap_or (bound_at old c.args.at) None)) gone c.self.invariant.counted (locked-removed old c.args.at)).0

pub invariant_of-self : goal.invariant_of-self
invariant_of-self c =
    let old = c.self.inside.map.entries in
    let gone = c.locks.ensures ∙ ap one (c.unwrap_or-gone.ensures ∙ ap (λ o. unwrap_or o None) c.remove.ensures.value) in
    record {
      rising = c.remove.ensures.ordered;
      counted = (count-less c.self.inside.locked c.locks.result (locked_bounds (remove_entry (is_at (nat_cmp c.args.at)) old)) (locked_bounds old)
          (one (unwrap_or (bound_at old c.args.at) None)) gone c.self.invariant.counted (locked-removed old c.args.at)).1
          ∙ ap locked_bounds (sym c.remove.ensures.entries);
    }

pub invariant_of-self-in-Some : goal.invariant_of-self-in-Some
invariant_of-self-in-Some c =
    let old = c.self.inside.map.entries in
    let stood = c.in-Some.stands.now in
    let w = c.get_mut.follows.holds c.args.marks in
    let is = sym c.get_mut.ensures.value ∙ ap option_copied_mut c.in-Some.is in
    record {
      rising = w.4;
      counted = count-set c.self.inside.locked c.locks-in-Some.result c.locks-in-Some-2.result
          (locked_bounds (set_value (is_at (nat_cmp c.args.at)) old c.args.marks)) (locked_bounds old) (one c.args.marks) (one stood)
          c.self.invariant.counted c.locks-in-Some.ensures c.locks-in-Some-2.ensures (locked-set old c.args.at stood c.args.marks is)
          ∙ ap locked_bounds (sym w.0);
    }
