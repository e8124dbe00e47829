use Rattle.std.proofs.Common.{◌++◌, refl, sym, ap, ◌∙◌}
use Rattle.std.proofs.lemmas.List.{append-nil, drop_all}
use Rattle.av_rmap.specs.Items.{found_from_all}
use Rattle.av_rmap.specs.Walk.{names_frame}
use Rattle.av_rmap.proofs.MergedLemmas.{found-all}
use Rattle.av_rmap.proofs.merged.walk_items.Goals as goal

pub loop-item-init : goal.loop-item-init
loop-item-init g c =
    let view = g.K.Look.view c.args.look.now in
    let f = names_frame c.args.frame in
    record {
      found = refl;
      room = c.requires.room (found_from_all view f c.args.items.now) (found-all view f c.args.items.now c.requires.spanned c.requires.apart
          c.requires.covered c.requires.roots c.requires.once);
      counted = refl;
    }

pub returns-clause-entries : goal.returns-clause-entries
returns-clause-entries g c =
    let view = g.K.Look.view c.args.look.now in
    let f = names_frame c.args.frame in (
      found_from_all view f c.args.items.now,
      sym (append-nil c.loop-item.into.items)
          ∙ ap (λ ks. c.loop-item.into.items ++ found_from_all view f ks) (sym (drop_all c.loop-item.item-index c.args.items.now c.loop-item-test.false))
          ∙ c.loop-item.invariant.found,
      found-all view f c.args.items.now c.requires.spanned c.requires.apart c.requires.covered c.requires.roots c.requires.once,
    )
