use Rattle.std.proofs.Common.{refl, ap, sym, ◌∙◌}
use Rattle.std.proofs.lemmas.List.{drop_all}
use Rattle.std.specs.List.{list_any}
use Rattle.av_base.specs.Keys.{same_key}
use Rattle.av_audit_pages.proofs.ChangeLaws.{all-end, others-stay}
use Rattle.av_audit_pages.proofs.pages.Pages.change.Goals as goal

pub loop-key-init : goal.loop-key-init
loop-key-init c = record {
  cache = refl;
  rising = c.in_ok-keys.ensures.rising;
  ends = λ q. refl;
  done = λ q absent. others-stay c.args.frame c.args.change c.args.self.now.entries q
      (ap (list_any (same_key q)) (sym (c.as_slice-key-items.ensures.value ∙ c.in_ok-keys.ensures.keys)) ∙ absent);
}

pub returns-clause-entries : goal.returns-clause-entries
returns-clause-entries c =
    let ended = drop_all c.loop-key.key-index c.as_slice-key-items.result.now c.loop-key-test.false in
    all-end c.args.frame c.args.change c.loop-key.self.entries c.args.self.now.entries c.loop-key.invariant.rising c.in_ok-keys.ensures.rising
    (λ q. c.loop-key.invariant.done q (ap (list_any (same_key q)) ended))
