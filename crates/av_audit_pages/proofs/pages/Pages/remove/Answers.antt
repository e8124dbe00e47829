use Rattle.std.proofs.Common.{None, subst, sym}
use Rattle.std.specs.Prelude.{option_map}
use Rattle.av_audit_pages.specs.Entries.{entry_of}
use Rattle.av_audit_pages.specs.Index.{Tells}
use Rattle.av_audit_pages.proofs.IndexLaws.{tells-all}
use Rattle.av_audit_pages.proofs.PairLaws.{pairs-kept}
use Rattle.av_audit_pages.proofs.pages.Pages.remove.Goals as goal

pub take-requires : goal.take-requires
take-requires c = subst (λ o. Tells c.self.inside.index (c.args.process, c.args.page) (option_map entry_of o)) (sym c.remove-entry.ensures.value)
    (c.self.invariant.tells (c.args.process, c.args.page))

pub invariant_of-self : goal.invariant_of-self
invariant_of-self c = record {
  rising = c.remove-entry.ensures.ordered;
  tells = tells-all _ _ c.self.inside.entries.entries c.remove-entry.new.self.entries (c.args.process, c.args.page) None c.self.invariant.tells
      c.remove-entry.ensures.updates.0 c.take.ensures.others c.take.ensures.gone;
  pairs = pairs-kept _ _ _ c.self.invariant.pairs c.take.ensures.pairs;
}
