use Rattle.std.proofs.Common.{None, Some, ap, cond, subst, sym, ◌∙◌}
use Rattle.std.specs.Prelude.{option_map}
use Rattle.std.specs.BTreeMap.{is_at}
use Rattle.std.specs.Map.{lookup}
use Rattle.av_base.specs.Keys.{key_cmp, same_key}
use Rattle.av_audit_pages.specs.Entries.{changed_at, entry_of}
use Rattle.av_audit_pages.specs.Index.{Tells}
use Rattle.av_audit_pages.specs.Pages.{Content}
use Rattle.av_audit_pages.proofs.ChangeLaws.{put-changed}
use Rattle.av_audit_pages.proofs.IndexLaws.{gone-again, is-there, tells-all}
use Rattle.av_audit_pages.proofs.PairLaws.{pairs-kept}
use Rattle.av_audit_pages.proofs.pages.Pages.change_at.Goals as goal

pub put-requires : goal.put-requires
put-requires c = subst (λ o. Tells c.self.inside.index c.args.key (option_map entry_of o)) (sym c.in-Some.ensures.value)
    (c.self.invariant.tells c.args.key)

pub invariant_of-self-in-Ok : goal.invariant_of-self-in-Ok
invariant_of-self-in-Ok c =
    let w = c.get_mut.follows.holds c.changed_at-entry.result in
    record {
      rising = w.4;
      tells = tells-all _ _ c.self.inside.entries.entries _ c.args.key (Some c.changed_at-entry.result) c.self.invariant.tells
          (w.3 (is-there _ _ c.in-Some.ensures.value)).0 c.put.ensures.others c.in-Ok.ensures.ok;
      pairs = pairs-kept _ _ _ c.self.invariant.pairs c.put.ensures.pairs;
    }

pub invariant_of-self-in-Err : goal.invariant_of-self-in-Err
invariant_of-self-in-Err c =
    let w = c.get_mut.follows.holds c.changed_at-entry.result in
    let es = c.self.inside.entries.entries in
    let key = c.args.key in
    record {
      rising = c.remove.ensures.ordered;
      tells = tells-all _ _ es c.remove.new.self.entries key None c.self.invariant.tells
          (λ k. c.remove.ensures.updates.0 k ∙ ap (cond (same_key key k) None) ((w.3 (is-there _ _ c.in-Some.ensures.value)).0 k)
          ∙ gone-again (same_key key k) (Some c.changed_at-entry.result) (lookup (is_at (key_cmp k)) es))
          c.put.ensures.others c.in-Err.ensures.err;
      pairs = pairs-kept _ _ _ c.self.invariant.pairs c.put.ensures.pairs;
    }

pub returns-in-Ok-clause-at : goal.returns-in-Ok-clause-at
returns-in-Ok-clause-at c = λ q.
    let w = c.get_mut.follows.holds c.changed_at-entry.result in
    let es = c.self.inside.entries.entries in
    let k = c.args.key in
    (w.3 (is-there _ _ c.in-Some.ensures.value)).0 q
    ∙ ap (λ e. cond (same_key k q) (Some e) (lookup (is_at (key_cmp q)) es)) c.changed_at-entry.ensures
    ∙ put-changed c.args.frame c.args.change es k q c.in-Some.place.now (lookup (is_at (key_cmp q)) es) c.in-Some.ensures.value
    ∙ ap (λ (p : Content). cond (same_key k q) (option_map (changed_at c.args.frame c.args.change) (lookup (is_at (key_cmp q)) p.entries))
    (lookup (is_at (key_cmp q)) p.entries)) c.self.view_is
