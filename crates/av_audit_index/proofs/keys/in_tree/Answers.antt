use Rattle.std.proofs.Common.{ap, ◌∙◌}
use Rattle.std.specs.BTreeMap.{insert_entry, is_at}
use Rattle.std.specs.Map.{lookup}
use Rattle.av_base.specs.Keys.{key_cmp}
use Rattle.av_audit_index.proofs.KeysLaws.{two-are}
use Rattle.av_audit_index.proofs.keys.in_tree.Goals as goal

pub returns : goal.returns
returns c =
    let two = two-are c.args.first c.args.second c.new-map.result.entries c.insert.new.self.entries c.insert-2.new.self.entries c.new-map.ensures.empty
    c.in_ok-insert.ensures.entries c.in_ok-insert-2.ensures.entries c.requires in (
      c.in_ok-before.ensures.entries ∙ ap (λ l. insert_entry key_cmp l c.args.name.0 c.args.name.1) two,
      c.in_ok-before.ensures.old ∙ ap (lookup (is_at (key_cmp c.args.name.0))) two,
    )
