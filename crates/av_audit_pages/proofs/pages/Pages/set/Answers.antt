use Rattle.std.proofs.Common.{None, ap, cond, ◌∙◌, subst, sym, Some}
use Rattle.std.specs.Prelude.{option_map}
use Rattle.std.specs.BTreeMap.{is_at}
use Rattle.std.specs.Map.{lookup}
use Rattle.av_base.specs.Keys.{Key, key_cmp, same_key}
use Rattle.av_audit_pages.specs.Entries.{entry_of}
use Rattle.av_audit_pages.specs.Index.{Tells}
use Rattle.av_audit_pages.specs.Pages.{Content}
use Rattle.av_audit_pages.proofs.IndexLaws.{gone-again, tells-all}
use Rattle.av_audit_pages.proofs.PairLaws.{pairs-kept}
use Rattle.av_audit_pages.proofs.pages.Pages.set.Goals as goal

pub put-requires : goal.put-requires
put-requires c = subst (λ o. Tells c.self.inside.index (c.args.process, c.args.page) (option_map entry_of o)) (sym c.in_ok-old.ensures.old)
    (c.self.invariant.tells (c.args.process, c.args.page))

pub invariant_of-self-in-Ok : goal.invariant_of-self-in-Ok
invariant_of-self-in-Ok c = record {
  rising = c.insert.ensures.ordered;
  tells = tells-all _ _ c.self.inside.entries.entries c.insert.new.self.entries (c.args.process, c.args.page) (Some c.args.entry) c.self.invariant.tells
      c.in_ok-old.ensures.updates.0 c.put.ensures.others c.in-Ok.ensures.ok;
  pairs = pairs-kept _ _ _ c.self.invariant.pairs c.put.ensures.pairs;
}

pub invariant_of-self-in-Err : goal.invariant_of-self-in-Err
invariant_of-self-in-Err c =
    let key : Key = (c.args.process, c.args.page) in
    let es = c.self.inside.entries.entries in
    record {
      rising = c.remove.ensures.ordered;
      tells = tells-all _ _ es c.remove.new.self.entries key None c.self.invariant.tells
          (λ k. c.remove.ensures.updates.0 k ∙ ap (cond (same_key key k) None) (c.in_ok-old.ensures.updates.0 k)
          ∙ gone-again (same_key key k) (Some c.args.entry) (lookup (is_at (key_cmp k)) es))
          c.put.ensures.others c.in-Err.ensures.err;
      pairs = pairs-kept _ _ _ c.self.invariant.pairs c.put.ensures.pairs;
    }

pub returns-in-Ok-clause-at : goal.returns-in-Ok-clause-at
returns-in-Ok-clause-at c = λ q.
    c.in_ok-old.ensures.updates.0 q
    ∙ ap (λ (p : Content). cond (same_key (c.args.process, c.args.page) q) (Some c.args.entry) (lookup (is_at (key_cmp q)) p.entries)) c.self.view_is

pub returns-in-Ok-clause-others : goal.returns-in-Ok-clause-others
returns-in-Ok-clause-others c = λ q other.
    c.in_ok-old.ensures.updates.2 q other ∙ ap (λ (p : Content). lookup (is_at (key_cmp q)) p.entries) c.self.view_is

pub returns-in-Err-clause-others : goal.returns-in-Err-clause-others
returns-in-Err-clause-others c = λ q other.
    c.remove.ensures.updates.2 q other ∙ c.in_ok-old.ensures.updates.2 q other
    ∙ ap (λ (p : Content). lookup (is_at (key_cmp q)) p.entries) c.self.view_is
