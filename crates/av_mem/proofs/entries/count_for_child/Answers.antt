use Rattle.std.proofs.Common.{◌+◌, ◌∙◌, ap, refl, sym}
use Rattle.std.proofs.lemmas.Result.{MatchResult-weaker}
use Rattle.av_frames.specs.Store.{shown as shown_frames, with_maps}
use Rattle.av_swapcache.specs.Swap.{shown as shown_swap, with_entries}
use Rattle.av_mem.specs.declared.mem.Mem.{Mem}
use Rattle.av_mem.specs.Mem.{view}
use Rattle.av_mem.proofs.StepLaws.{view-by}
use Rattle.av_mem.specs.Entries.{view_more}
use Rattle.av_mem.proofs.EntryCounts.{frame-up, slot-up}
use Rattle.av_mem.proofs.entries.count_for_child.Goals as goal

pub returns-in-Here-clause-counts : goal.returns-in-Here-clause-counts
returns-in-Here-clause-counts c =
    let old = c.args.mem.now in
    let f = c.in-Here.frame in
    view-by old (record old { frames = c.map_up.new.self }) (with_maps f ((shown_frames old.frames).maps f + 1) (shown_frames old.frames)) old.lists
    (shown_swap old.swap) (record { items = refl; tables = refl; spaces = refl; anons = refl }) c.map_up.ensures refl refl
    ∙ frame-up (view old) f c.in-Here.write c.in-Here.seen ∙ ap (λ e. view_more e (view old)) (sym c.in-Here.is)

pub returns-in-Away-clause-counts : goal.returns-in-Away-clause-counts
returns-in-Away-clause-counts c =
    let old = c.args.mem.now in
    let s = c.in-Away.slot in
    let new : Mem = record old { swap = c.entry_up.new.self } in
    MatchResult-weaker c.entry_up.result c.entry_up.ensures
    (λ x up. view-by old new (shown_frames old.frames) old.lists (with_entries s ((shown_swap old.swap).entries s + 1) (shown_swap old.swap))
    (record { items = refl; tables = refl; spaces = refl; anons = refl }) refl refl up
    ∙ slot-up (view old) s ∙ ap (λ e. view_more e (view old)) (sym c.in-Away.is))
    (λ e same. view-by old new (shown_frames old.frames) old.lists (shown_swap old.swap)
    (record { items = refl; tables = refl; spaces = refl; anons = refl }) refl refl same)
