use Rattle.std.proofs.Common.{◌^◌, ◌<◌, ◌∷◌, [], ◌++◌, Bool, ℕ, ap, subst, sym, ◌∙◌, arith}
use Rattle.std.specs.List.{AllByRecursion}
use Rattle.av_audit.proofs.AccessLaws.{all-push, turns-more}
use Rattle.av_audit.proofs.accessing.turns.Goals as goal

pub loop-page-preserved : goal.loop-page-preserved
loop-page-preserved c =
    let inv = c.loop-page.invariant in
    let low = inv.low in
    let high = inv.high in
    let end = inv.end in
    let less = c.loop-page-test.true in
    let made = c.in_ok-push.ensures.items in
    record {
      low = omega (arith, low);
      high = omega (arith, less);
      end = end;
      pages = made ∙ ap (λ xs. xs ++ (c.args.write, c.loop-page.page) ∷ []) inv.pages ∙ sym (turns-more c.args.write c.args.from c.loop-page.page low);
      below = subst (AllByRecursion (λ (x : Bool × ℕ). x.1 < 2 ^ 52)) (sym made)
          (all-push c.loop-page.made.items c.args.write c.loop-page.page (2 ^ 52) inv.below (omega (arith, less, end)));
    }
