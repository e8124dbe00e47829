use Rattle.std.proofs.Common.{Bool, subst, sym}
use Rattle.av_merge.proofs.LinkingLaws.{ok_both}
use Rattle.av_spaces.proofs.Trees.{on_ok}
use Rattle.av_plain.specs.Areas.{chain_length}
use Rattle.av_plain.specs.Mremap.{after_mremap}
use Rattle.av_mremap.specs.Areas.{HasRemap}
use Rattle.av_mremap.proofs.AreasRemap.{differs, has_left_areas, has_moved_areas, left_free, left_high, left_low, stays_here, target_taken}
use Rattle.av_mremap.proofs.areas.remap_areas.Goals as goal

pub map_like-requires-clause-low : goal.map_like-requires-clause-low
map_like-requires-clause-low c =
    let a = c.args in
    let s = c.requires.steady in
    left_low a.mem.now s.0 s.1 a.process c.requires.lives c.move_range.new.self c.move_range.new.anons c.in_ok-move_range.ensures.anons
    a.from a.pages a.to a.new_pages (c.requires.moves c.if-to-from.false) c.in_ok-move_range.ensures.areas

pub map_like-requires-clause-high : goal.map_like-requires-clause-high
map_like-requires-clause-high c =
    let a = c.args in
    let s = c.requires.steady in
    left_high a.mem.now s.0 s.1 a.process c.requires.lives c.move_range.new.self c.move_range.new.anons c.in_ok-move_range.ensures.anons
    a.from a.pages a.to a.new_pages (c.requires.moves c.if-to-from.false) c.in_ok-move_range.ensures.areas

pub map_like-requires-clause-free : goal.map_like-requires-clause-free
map_like-requires-clause-free c =
    let a = c.args in
    let s = c.requires.steady in
    left_free a.mem.now s.0 s.1 a.process c.requires.lives c.move_range.new.self c.move_range.new.anons c.in_ok-move_range.ensures.anons
    a.from a.pages a.to a.new_pages (c.requires.moves c.if-to-from.false) c.in_ok-move_range.ensures.areas

pub map_like-requires-clause-mapped : goal.map_like-requires-clause-mapped
map_like-requires-clause-mapped c =
    let a = c.args in
    let s = c.requires.steady in
    target_taken a.mem.now s.0 s.1 a.process c.requires.lives c.move_range.new.self c.move_range.new.anons c.in_ok-move_range.ensures.anons
    a.from a.pages a.to a.new_pages (c.requires.moves c.if-to-from.false) c.in_ok-move_range.ensures.areas (c.requires.whole c.if-not-stays.false)

pub returns-clause-remaps : goal.returns-clause-remaps
returns-clause-remaps c = λ s held.
    let a = c.args in
    ok_both c.map_like.result c.map_like.ensures.areas c.map_like.ensures.anons (λ areas stay.
    subst (λ (stays : Bool). HasRemap a.mem.now (record a.mem.now { spaces = c.map_like.new.self; anons = c.map_like.new.anons }) a.process
    (after_mremap (chain_length s.anons) a.process a.from a.pages a.to a.new_pages stays (s.areas a.process))) (sym c.if-not-stays.false)
    (has_left_areas a.mem.now s held a.process c.requires.lives c.move_range.new.self c.move_range.new.anons c.in_ok-move_range.ensures.anons
    a.from a.pages a.to a.new_pages (c.requires.moves c.if-to-from.false) c.in_ok-move_range.ensures.areas
    c.map_like.new.self c.map_like.new.anons stay (c.requires.whole c.if-not-stays.false) areas (differs a.to a.from c.if-to-from.false)))

pub returns-then-not-stays-clause-remaps : goal.returns-then-not-stays-clause-remaps
returns-then-not-stays-clause-remaps c = λ s held.
    let a = c.args in
    subst (λ (stays : Bool). HasRemap a.mem.now (record a.mem.now { spaces = c.move_range.new.self; anons = c.move_range.new.anons }) a.process
    (after_mremap (chain_length s.anons) a.process a.from a.pages a.to a.new_pages stays (s.areas a.process))) (sym c.if-not-stays.true)
    (has_moved_areas a.mem.now s held a.process c.requires.lives c.move_range.new.self c.move_range.new.anons c.in_ok-move_range.ensures.anons
    a.from a.pages a.to a.new_pages (c.requires.moves c.if-to-from.false) c.in_ok-move_range.ensures.areas (differs a.to a.from c.if-to-from.false))

pub returns-then-to-from-clause-remaps : goal.returns-then-to-from-clause-remaps
returns-then-to-from-clause-remaps c = λ s held.
    let a = c.args in
    on_ok c.resize_areas.result (stays_here a.mem.now c.resize_areas.new.mem s a.process a.from a.pages a.to a.new_pages a.stays c.if-to-from.true)
    (c.resize_areas.ensures.resizes s held)
