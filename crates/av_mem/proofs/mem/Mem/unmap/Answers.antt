use Rattle.std.proofs.Common.{ℕ, ◌+◌, refl, ap, ◌∙◌}
use Rattle.av_swapcache.specs.Swap.{shown as shown_swap, with_entries}
use Rattle.av_mem.specs.declared.mem.Mem.{Mem}
use Rattle.av_mem.proofs.ChainLaws.{away-view}
use Rattle.av_mem.proofs.mem.Mem.unmap.Goals as goal

pub returns-clause-unmapped : goal.returns-clause-unmapped
returns-clause-unmapped c =
    let old : Mem = c.args.self.now in
    let between : Mem = record old { swap = c.entry_up.new.self } in
    let mid : Mem = c.send_away.new.self in
    let new : Mem = record mid { frames = c.clear_maps.new.self } in
    away-view old between mid new c.args.frame c.args.slot refl
    (c.in_ok-entry_up.ensures
    ∙ ap (λ (n : ℕ). with_entries c.args.slot ((shown_swap old.swap).entries c.args.slot + n) (shown_swap old.swap)) c.maps-maps.ensures)
    c.send_away.ensures.rest c.send_away.ensures.entries refl c.clear_maps.ensures
