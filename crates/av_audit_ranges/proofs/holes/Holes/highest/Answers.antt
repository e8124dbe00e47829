use Rattle.std.proofs.Common.{◌≡◌, ◌+◌, ◌<◌, ◌≤◌, Bool, true, false, nat_lt, arith, refl, subst, sym}
use Rattle.av_audit_ranges.specs.Holes.{AreWithin, Hole, is_noted}
use Rattle.av_audit_ranges.proofs.HolesLaws.{HasEnd, highest-is}
use Rattle.av_audit_ranges.proofs.MarksLaws.{lt-is, lt-not}
use Rattle.av_audit_ranges.proofs.holes.Holes.highest.Goals as goal

pub loop-length-init : goal.loop-length-init
loop-length-init c = record {
  over = λ other noted low.
      let most = (c.self.invariant other (subst (λ hs. is_noted hs other ≡ true) (sym c.self.view_is) noted)).1 in
      absurd (omega (arith, most, low));
  from = λ some. absurd (omega (arith, some));
}

pub loop-length-smaller : goal.loop-length-smaller
loop-length-smaller c = c.in-Some.ensures.short

pub loop-length-preserved : goal.loop-length-preserved
loop-length-preserved c = record {
  over = λ other noted low. over other noted low (nat_lt other.0 c.loop-length.fewer) refl;
  from = λ some. from some (nat_lt c.loop-length.end (c.in-Some.start + c.in-Some.length)) refl;
}
  where
    over : (other : Hole) → is_noted c.args.self.now other ≡ true → c.in-Some.length ≤ other.0 → (b : Bool)
        → nat_lt other.0 c.loop-length.fewer ≡ b → other.1 + other.0 ≤ c.max-end.result
    over other noted low true is =
        let max = c.max-end.ensures in
        let ends = c.in-Some.ensures.last other noted (lt-is other.0 c.loop-length.fewer is) low in
        omega (arith, max, ends)
    over other noted low false is =
        let max = c.max-end.ensures in
        let ends = c.loop-length.invariant.over other noted (lt-not other.0 c.loop-length.fewer is) in
        omega (arith, max, ends)

    from : 0 < c.max-end.result → (b : Bool) → nat_lt c.loop-length.end (c.in-Some.start + c.in-Some.length) ≡ b
        → HasEnd c.args.self.now c.args.n c.max-end.result
    from some true is =
        let max = c.max-end.ensures in
        let less = lt-is c.loop-length.end (c.in-Some.start + c.in-Some.length) is in
        record {
          hole = (c.in-Some.length, c.in-Some.start);
          noted = c.in-Some.ensures.noted;
          long = c.in-Some.ensures.long;
          last = omega (arith, max, less);
        }
    from some false is =
        let max = c.max-end.ensures in
        let less = lt-not c.loop-length.end (c.in-Some.start + c.in-Some.length) is in
        let here : c.loop-length.end ≡ c.max-end.result = omega (arith, max, less) in
        subst (HasEnd c.args.self.now c.args.n) here (c.loop-length.invariant.from (omega (arith, here, some)))

pub returns : goal.returns
returns c =
    let are : AreWithin c.args.self.now = subst AreWithin c.self.view_is c.self.invariant in
    highest-is c.args.self.now c.args.n c.loop-length.end c.loop-length.fewer c.checked_sub.result c.checked_sub.ensures are c.requires
    c.loop-length.invariant.over c.in_default.ensures c.loop-length.invariant.from
