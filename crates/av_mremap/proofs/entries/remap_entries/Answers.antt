use Rattle.std.proofs.Common.{ℕ, Bool, true, ◌≡◌, ◌+◌, ◌-◌, ap, arith, subst, ◌∙◌}
use Rattle.av_base.specs.Words.{within}
use Rattle.av_plain.proofs.Mremap.{then_tail, then_target}
use Rattle.av_spaces.proofs.Trees.{on_ok}
use Rattle.av_mremap.specs.Entries.{HasMovedEntries}
use Rattle.av_mremap.proofs.AreasRemap.{differs}
use Rattle.av_mremap.proofs.EntriesRemap.{bare, elsewhere, in_place, of_length, same_place}
use Rattle.av_mremap.proofs.entries.remap_entries.Goals as goal

pub returns-then-to-from-clause-remaps : goal.returns-then-to-from-clause-remaps
returns-then-to-from-clause-remaps c = λ d l stands.
    let a = c.args in
    on_ok c.zap_range.result (λ zapped.
    in_place d a.mem.now c.zap_range.new.mem l a.process a.from a.pages a.to a.new_pages a.notes.now c.zap_range.new.notes
    (same_place a.to a.from c.if-to-from.true)
    (of_length d a.mem.now c.zap_range.new.mem l a.process (a.from + a.new_pages) (a.from + a.pages) (a.pages - a.new_pages) a.notes.now
    c.zap_range.new.notes
    (omega arith) zapped))
    (c.zap_range.ensures.zapped d l stands)

pub zap_range-requires-3 : goal.zap_range-requires-3
zap_range-requires-3 c = let o = c.requires.orderly in record { orderly = (o.0, _, (c.in_ok-zap_range.ensures.zapped o.0 o.1 o.2).stands) }

pub move_entries-requires-clause-orderly : goal.move_entries-requires-clause-orderly
move_entries-requires-clause-orderly c =
    let o = c.requires.orderly in
    let first = c.in_ok-zap_range.ensures.zapped o.0 o.1 o.2 in
    (o.0, _, (c.in_ok-zap_range-2.ensures.zapped o.0 _ first.stands).stands)

pub move_entries-requires-clause-there : goal.move_entries-requires-clause-there
move_entries-requires-clause-there c = ap (λ (has : ℕ → Bool). has c.args.process)
    (c.zap_range-3.ensures.rest.parts.processes ∙ c.zap_range-2.ensures.rest.parts.processes) ∙ c.requires.there

pub move_entries-requires-clause-bare : goal.move_entries-requires-clause-bare
move_entries-requires-clause-bare c =
    let o = c.requires.orderly in
    let a = c.args in
    let first = of_length o.0 a.mem.now c.zap_range-2.new.mem o.1 a.process a.to (a.to + a.new_pages) a.new_pages a.notes.now
    c.zap_range-2.new.notes (omega arith)
    (c.in_ok-zap_range.ensures.zapped o.0 o.1 o.2) in
    let second = of_length o.0 c.zap_range-2.new.mem c.zap_range-3.new.mem (then_target o.1 a.process a.from a.pages a.to a.new_pages)
    a.process (a.from + a.new_pages) (a.from + a.pages) (a.pages - a.new_pages) c.zap_range-2.new.notes c.zap_range-3.new.notes (omega arith)
    (c.in_ok-zap_range-2.ensures.zapped o.0 (then_target o.1 a.process a.from a.pages a.to a.new_pages) first.stands) in
    λ page inside. bare o.0 a.mem.now c.zap_range-2.new.mem c.zap_range-3.new.mem o.1 a.process a.from a.pages a.to a.new_pages
    a.notes.now c.zap_range-2.new.notes c.zap_range-3.new.notes first second page (subst (λ k. within a.to k page ≡ true) c.min.ensures inside)

pub returns-clause-remaps : goal.returns-clause-remaps
returns-clause-remaps c = λ d l stands.
    let a = c.args in
    let first = of_length d a.mem.now c.zap_range-2.new.mem l a.process a.to (a.to + a.new_pages) a.new_pages a.notes.now
    c.zap_range-2.new.notes (omega arith)
    (c.in_ok-zap_range.ensures.zapped d l stands) in
    let second = of_length d c.zap_range-2.new.mem c.zap_range-3.new.mem (then_target l a.process a.from a.pages a.to a.new_pages)
    a.process (a.from + a.new_pages) (a.from + a.pages) (a.pages - a.new_pages) c.zap_range-2.new.notes c.zap_range-3.new.notes (omega arith)
    (c.in_ok-zap_range-2.ensures.zapped d (then_target l a.process a.from a.pages a.to a.new_pages) first.stands) in
    on_ok c.move_entries.result (λ third.
    elsewhere d a.mem.now c.zap_range-2.new.mem c.zap_range-3.new.mem l a.process a.from a.pages a.to a.new_pages
    a.notes.now c.zap_range-2.new.notes c.zap_range-3.new.notes first second c.move_entries.new.mem
    c.zap_range-2.ensures.rest.parts.count (c.zap_range-3.ensures.rest.parts.count ∙ c.zap_range-2.ensures.rest.parts.count)
    (subst (λ k. HasMovedEntries d c.zap_range-3.new.mem c.move_entries.new.mem (then_tail l a.process a.from a.pages a.to a.new_pages)
    a.process k a.from a.to)
    c.min.ensures third)
    (differs a.to a.from c.if-to-from.false))
    (c.move_entries.ensures.moves d (then_tail l a.process a.from a.pages a.to a.new_pages) second.stands)
