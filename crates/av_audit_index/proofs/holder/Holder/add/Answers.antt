use Rattle.std.proofs.Common.{◌≡◌, ◌<◌, ◌≤◌, ◌^◌, ℕ, ap, arith, cond, Some, length, subst, sym, ◌∙◌}
use Rattle.std.specs.BTreeMap.{is_at}
use Rattle.std.specs.Map.{lookup}
use Rattle.av_base.specs.Keys.{key_cmp, same_key}
use Rattle.av_audit_index.specs.Holding.{Holding}
use Rattle.av_audit_index.proofs.KeysLaws.{put-at, put-some}
use Rattle.av_audit_index.proofs.SeenLaws.{byte-is, can-go, few, more-count, one}
use Rattle.av_audit_index.proofs.holder.Holder.add.Goals as goal

fits : (n m l : ℕ) → n ≡ m → m ≤ l → l < 2 ^ 63 → n < 2 ^ 64
fits n m l same below small = omega (arith, same, below, small)

pub overflow_sub-self : goal.overflow_sub-self
overflow_sub-self c =
    can-go _ _ c.self.inside.keys c.args.key c.in_ok-before.before c.self.invariant.count c.in_ok-before.ensures.old
    (c.from.ensures ∙ byte-is _ ∙ ap one c.unwrap_or.ensures)

pub overflow_add-self : goal.overflow_add-self
overflow_add-self c =
    let count = more-count _ _ _ c.self.inside.keys c.insert.new.self c.args.key c.args.seen c.in_ok-before.before
    c.insert.ensures.rising.0.rising c.self.invariant.count c.in_ok-before.ensures.old (c.from.ensures ∙ byte-is _ ∙ ap one c.unwrap_or.ensures)
    (c.from-2.ensures ∙ byte-is _) c.in_ok-before.ensures.entries in
    let small = c.len.ensures.fits in
    let len = c.len.ensures.len in
    record { fits = fits _ _ c.len.result count (let below = few c.insert.new.self in omega (arith, below, len)) small }

pub invariant_of-self-2 : goal.invariant_of-self-2
invariant_of-self-2 c = record {
  count = more-count _ _ _ c.self.inside.keys c.insert.new.self c.args.key c.args.seen c.in_ok-before.before
      c.insert.ensures.rising.0.rising c.self.invariant.count c.in_ok-before.ensures.old (c.from.ensures ∙ byte-is _ ∙ ap one c.unwrap_or.ensures)
      (c.from-2.ensures ∙ byte-is _) c.in_ok-before.ensures.entries;
}

pub returns-clause-keys : goal.returns-clause-keys
returns-clause-keys c = λ k.
    ap (lookup (is_at (key_cmp k))) c.in_ok-before.ensures.entries ∙ put-at c.self.inside.keys c.args.key c.args.seen k
    ∙ ap (λ (h : Holding). cond (same_key c.args.key k) (Some c.args.seen) (lookup (is_at (key_cmp k)) h.keys)) c.self.view_is

pub returns-clause-used : goal.returns-clause-used
returns-clause-used c =
    let some = subst (λ es. 0 < length es) (sym c.in_ok-before.ensures.entries) (put-some c.self.inside.keys c.args.key c.args.seen) in
    omega (arith, some)
