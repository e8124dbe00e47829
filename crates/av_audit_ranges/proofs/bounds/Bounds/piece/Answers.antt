use Rattle.std.proofs.Common.{◌≡◌, ◌<◌, Bool, Option, None, true, false, is_some, not, nat_lt, ap, arith, refl, sym, subst, ◌∙◌}
use Rattle.av_base.specs.Limits.{top_page}
use Rattle.av_audit_ranges.specs.Ranges.{bound_at, is_mapped, marks_at}
use Rattle.av_audit_ranges.proofs.CountLaws.{none-is}
use Rattle.av_audit_ranges.proofs.MarksLaws.{lt-is, lt-not, mapped-below, mapped-next, marks-run}
use Rattle.av_audit_ranges.proofs.bounds.Bounds.piece.Goals as goal

is-none : {X : Type 0} (o : Option X) (b : Bool) → is_some o ≡ not b → b ≡ true → o ≡ None
is-none o b is h = none-is o (is ∙ ap not h)

is-some : {X : Type 0} (o : Option X) (b : Bool) → is_some o ≡ not b → b ≡ false → is_some o ≡ true
is-some o b is h = is ∙ ap not h

pub returns-clause-hole : goal.returns-clause-hole
returns-clause-hole c = λ is length sum.
    let b = c.args.self.now in
    let at = c.args.at in
    let next = c.next_up_to.result in
    let n = c.next_up_to.ensures in
    let above = n.above in
    let most = n.most in
    let low = c.requires.low in
    let high = c.requires.high in
    let none = sym c.run-marks.ensures.marks ∙ is-none c.run-marks.result.1 c.is_none.result c.is_none.ensures is in
    record {
      some = omega (arith, sum, above);
      room = record {
        lowest = low;
        highest = omega (arith, sum, most, high);
        free = λ q a h. ap is_some (marks-run (bound_at b) at q a (λ p x y. n.none p x (omega (arith, y, h, sum))) ∙ none);
      };
      below = c.requires.below (ap is_some none);
      above = λ less. subst (λ x. is_mapped b x ≡ true) (sym sum) (by none (nat_lt next c.args.end) refl (subst (λ x. x < top_page) sum less));
    }
  where
    by : marks_at c.args.self.now c.args.at ≡ None → (d : Bool) → nat_lt c.next_up_to.result c.args.end ≡ d → c.next_up_to.result < top_page
        → is_mapped c.args.self.now c.next_up_to.result ≡ true
    by none true within less =
        mapped-next c.args.self.now c.args.at c.next_up_to.result (c.requires.tight c.next_up_to.result)
        (c.next_up_to.ensures.bound (lt-is c.next_up_to.result c.args.end within)) none c.next_up_to.ensures.above c.next_up_to.ensures.none
    by none false within less =
        let over = lt-not c.next_up_to.result c.args.end within in
        let most = c.next_up_to.ensures.most in
        let here : c.args.end ≡ c.next_up_to.result = omega (arith, over, most) in
        subst (λ x. is_mapped c.args.self.now x ≡ true) here (c.requires.above (omega (arith, here, less)))

pub returns-clause-taken : goal.returns-clause-taken
returns-clause-taken c = λ is q low high.
    let b = c.args.self.now in
    ap is_some (marks-run (bound_at b) c.args.at q low (λ p x y. c.next_up_to.ensures.none p x (omega (arith, y, high))) ∙ sym c.run-marks.ensures.marks)
    ∙ is-some c.run-marks.result.1 c.is_none.result c.is_none.ensures is

pub returns-clause-next : goal.returns-clause-next
returns-clause-next c = λ less free q low is.
    let next = c.next_up_to.result in
    mapped-below c.args.self.now next q (c.requires.tight next) (c.next_up_to.ensures.bound less) (none-is (marks_at c.args.self.now next) free) is
