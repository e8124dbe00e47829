use Rattle.std.proofs.Common.{map, ap, sym, ◌∙◌}
use Rattle.std.specs.BTreeSet.{contains}
use Rattle.std.specs.Ordering.{nat_cmp}
use Rattle.av_base.specs.Words.{is_in, renamed}
use Rattle.av_audit_book.proofs.MergedLaws.{none-replaced, replaced, some-replaced, twice}
use Rattle.av_audit_book.proofs.merged.MergedFrames.replace.Goals as goal

pub returns-then-not-contains-clause-ok : goal.returns-then-not-contains-clause-ok
returns-then-not-contains-clause-ok c =
    sym (none-replaced c.args.from c.args.to c.args.self.now (sym c.contains.ensures ∙ c.if-not-contains.true))

pub invariant_of-self-2 : goal.invariant_of-self-2
invariant_of-self-2 c = λ f.
    let was = c.self.inside.frames in
    let now = c.replace-replaced.new.self in
    replaced was now c.args.from c.args.to
    (some-replaced c.replace-replaced.result _ _ _ c.replace-replaced.ensures.ok c.replace-replaced.ensures.err
    (λ done. ap (map (renamed c.args.from c.args.to)) done ∙ twice c.args.from c.args.to was) (λ part. part))
    (ap (is_in c.args.from) c.self.view_is ∙ sym c.contains.ensures ∙ c.if-not-contains.false) f
    (contains nat_cmp c.self.inside.numbers f) (contains nat_cmp c.insert.new.self f) (contains nat_cmp c.drop_absent.new.numbers f)
    (contains nat_cmp c.drop_absent-2.new.numbers f) (c.self.invariant f) (c.in_ok-insert.ensures.updates.0 f)
    (c.drop_absent.ensures f) (c.drop_absent-2.ensures f)
