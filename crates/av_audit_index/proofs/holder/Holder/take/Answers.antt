use Rattle.std.proofs.Common.{ap, cond, None, ◌∙◌}
use Rattle.std.specs.BTreeMap.{is_at}
use Rattle.std.specs.Map.{lookup}
use Rattle.av_base.specs.Keys.{key_cmp, same_key}
use Rattle.av_audit_index.specs.Holding.{Holding}
use Rattle.av_audit_index.proofs.KeysLaws.{left-at}
use Rattle.av_audit_index.proofs.SeenLaws.{byte-is, can-go, left-count, one}
use Rattle.av_audit_index.proofs.holder.Holder.take.Goals as goal

pub overflow_sub-self : goal.overflow_sub-self
overflow_sub-self c =
    can-go _ _ c.self.inside.keys c.args.key c.remove-before.result c.self.invariant.count c.remove-before.ensures.value
    (c.from.ensures ∙ byte-is _ ∙ ap one c.unwrap_or.ensures)

pub invariant_of-self : goal.invariant_of-self
invariant_of-self c = record {
  count = left-count _ _ c.self.inside.keys c.remove-before.new.self c.args.key c.remove-before.result
      c.self.invariant.count c.remove-before.ensures.value (c.from.ensures ∙ byte-is _ ∙ ap one c.unwrap_or.ensures) c.remove-before.ensures.entries;
}

pub returns-clause-keys : goal.returns-clause-keys
returns-clause-keys c = λ k.
    ap (lookup (is_at (key_cmp k))) c.remove-before.ensures.entries
    ∙ left-at c.self.inside.keys c.args.key k c.remove-before.ensures.rising.0.rising
    ∙ ap (λ (h : Holding). cond (same_key c.args.key k) None (lookup (is_at (key_cmp k)) h.keys)) c.self.view_is
