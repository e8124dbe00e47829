use Rattle.std.proofs.Common.{◌++◌, ap, append-nil, sym, ◌∙◌}
use Rattle.std.proofs.lemmas.Map.Iter.{rest_all}
use Rattle.std.specs.Map.Iter.{deref}
use Rattle.av_audit_pages.proofs.EntryLaws.{keys-are}
use Rattle.av_audit_neighbour.proofs.candidates.all_keys.Goals as goal

pub returns : goal.returns
returns c = sym (append-nil c.loop-key.made.items)
    ∙ ap (λ ks. c.loop-key.made.items ++ ks) (sym (rest_all deref c.loop-key.key-iterator _ c.next.result c.in-None.is c.next.ensures.steps))
    ∙ c.loop-key.invariant.left ∙ sym (keys-are c.args.book.now.pages.entries)
