use Rattle.std.proofs.Common.{◌<◌, ◌∙◌, ap, arith, false, refl, subst, sym}
use Rattle.av_base.specs.Words.{is_in}
use Rattle.av_frames.specs.Store.{Shown}
use Rattle.av_mem.specs.declared.mem.Mem.{Mem}
use Rattle.av_rmap.specs.Items.{shown as shown_items}
use Rattle.av_swapcache.specs.Swap.{shown as shown_swap}
use Rattle.av_mem.specs.Entries.{view_less, view_settled}
use Rattle.av_mem.specs.Mem.{plain, view, view_of_parts}
use Rattle.av_mem.proofs.EntryGoes.{in-use, named}
use Rattle.av_mem.proofs.EntryViews.{frame-less, slot-down}
use Rattle.av_mem.proofs.entries.count_down.Goals as goal

pub map_down-requires-clause-in_range : goal.map_down-requires-clause-in_range
map_down-requires-clause-in_range c =
    (in-use c.args.mem.now c.args.entry c.requires.there c.in-Here.frame c.in-Here.write c.in-Here.seen c.in-Here.is).below

pub map_down-requires-clause-some : goal.map_down-requires-clause-some
map_down-requires-clause-some c =
    (in-use c.args.mem.now c.args.entry c.requires.there c.in-Here.frame c.in-Here.write c.in-Here.seen c.in-Here.is).some

pub settle-requires-clause-listed : goal.settle-requires-clause-listed
settle-requires-clause-listed c = c.requires.there.stands.lists ∙ sym (ap (λ (s : Shown). s.count) c.map_down.ensures)

pub settle-requires-clause-itemed : goal.settle-requires-clause-itemed
settle-requires-clause-itemed c = c.requires.there.stands.items ∙ sym (ap (λ (s : Shown). s.count) c.map_down.ensures)

pub settle-requires-clause-in_range : goal.settle-requires-clause-in_range
settle-requires-clause-in_range c =
    let below = (in-use c.args.mem.now c.args.entry c.requires.there c.in-Here.frame c.in-Here.write c.in-Here.seen c.in-Here.is).below in
    subst (λ n. c.in-Here.frame < n) (sym (ap (λ (s : Shown). s.count) c.map_down.ensures)) below

pub settle-requires-clause-in_use : goal.settle-requires-clause-in_use
settle-requires-clause-in_use c =
    ap (λ (s : Shown). is_in c.in-Here.frame s.free) c.map_down.ensures
    ∙ (in-use c.args.mem.now c.args.entry c.requires.there c.in-Here.frame c.in-Here.write c.in-Here.seen c.in-Here.is).unfree

pub entry_down-requires-clause-used : goal.entry_down-requires-clause-used
entry_down-requires-clause-used c = let some = named c.args.mem.now c.args.entry c.requires.there c.in-Away.slot c.in-Away.is in omega (arith, some)

pub entry_down-requires-clause-some : goal.entry_down-requires-clause-some
entry_down-requires-clause-some c = let some = named c.args.mem.now c.args.entry c.requires.there c.in-Away.slot c.in-Away.is in omega (arith, some)

pub returns-in-Here-clause-view : goal.returns-in-Here-clause-view
returns-in-Here-clause-view c =
    let old = c.args.mem.now in
    let f = c.in-Here.frame in
    let used = in-use old c.args.entry c.requires.there f c.in-Here.write c.in-Here.seen c.in-Here.is in
    c.settle.ensures.settled ∙ ap (λ (s : Shown). view_settled f (view_of_parts s old.lists (shown_items old.items) (view old).table
    old.spaces old.anons (shown_swap old.swap))) c.map_down.ensures
    ∙ frame-less (view old) f c.in-Here.seen c.in-Here.write used.some
    ∙ ap (λ e. view_less (plain e) (view old)) (sym c.in-Here.is)

pub returns-in-Away-clause-view : goal.returns-in-Away-clause-view
returns-in-Away-clause-view c =
    let old = c.args.mem.now in
    let new : Mem = record old { swap = c.entry_down.new.self } in
    slot-down old new c.in-Away.slot false (record { items = refl; tables = refl; spaces = refl; anons = refl }) refl refl
    (named old c.args.entry c.requires.there c.in-Away.slot c.in-Away.is) c.entry_down.ensures
    ∙ ap (λ e. view_less (plain e) (view old)) (sym c.in-Away.is)
