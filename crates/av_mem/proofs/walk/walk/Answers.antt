use Rattle.std.proofs.Common.{◌≡◌, ℕ, ◌+◌, ◌<◌, ◌≤◌, cond, List, Option, length, sym, ap, subst, ◌∙◌}
use Rattle.std.specs.List.{AllByRecursion}
use Rattle.av_base.specs.Keys.{Key}
use Rattle.av_base.specs.Limits.{top_page}
use Rattle.av_vma.specs.declared.area.Area.{Area}
use Rattle.av_rmap.specs.Covered.{IsCoveredFrom}
use Rattle.av_rmap.specs.Items.{AreCovered, AreRootsApart, looks_from_all}
use Rattle.av_rmap.specs.Sorted.{AreRising}
use Rattle.av_rmap.specs.View.{AreApart}
use Rattle.av_rmap.specs.Walk.{AreItsEntries, looks_from, names_frame}
use Rattle.av_plain.specs.Ledger.{walk as walk_of}
use Rattle.av_mem.specs.Mem.{view}
use Rattle.av_mem.specs.Walk.{areas_at, areas_at_all}
use Rattle.av_mem.proofs.WalkLaws.{apart, covered, found-merged, frame-below, frame-few, frame-found, if_both, looks, looks-all, on_ok, reach_by, roots-apart-of}
use Rattle.av_mem.proofs.walk.walk.Goals as goal

pub walk_frame-requires-clause-apart : goal.walk_frame-requires-clause-apart
walk_frame-requires-clause-apart g c = let s = c.requires.steady in
    subst (λ (areas : List (Option Area)). AreApart (reach_by c.args.mem.now areas)) (sym c.by_number.ensures.areas)
    (apart s.0 c.args.mem.now s.1 s.2 c.by_number.ensures.numbered)

pub walk_frame-requires-clause-covered : goal.walk_frame-requires-clause-covered
walk_frame-requires-clause-covered g c = let s = c.requires.steady in
    subst (λ (areas : List (Option Area)). IsCoveredFrom (reach_by c.args.mem.now areas) (names_frame c.args.frame) c.home.result)
    (sym c.by_number.ensures.areas)
    (subst (IsCoveredFrom (reach_by c.args.mem.now c.args.mem.now.spaces.areas) (names_frame c.args.frame)) (sym c.home.ensures)
    (covered s.0 c.args.mem.now s.1 s.2 c.args.frame (sym c.is_merged.ensures ∙ c.if-is_merged.false) c.by_number.ensures.numbered))

pub walk_frame-requires-clause-count : goal.walk_frame-requires-clause-count
walk_frame-requires-clause-count g c = let s = c.requires.steady in
    subst (λ (n : ℕ). (keys : List Key) → AreItsEntries (reach_by c.args.mem.now c.by_number.result.now) (names_frame c.args.frame) keys →
    length keys ≤ n) (sym c.maps-count.ensures)
    (frame-few s.0 c.args.mem.now s.1 s.2 c.args.frame)

pub returns-clause-keys : goal.returns-clause-keys
returns-clause-keys g c = λ d s keeps.
    if_both c.walk_frame.result (λ keys. AreItsEntries (reach_by c.args.mem.now c.by_number.result.now) (names_frame c.args.frame) keys.items)
    (λ keys. AreRising keys.items)
    (λ keys. keys.items ≡ walk_of s.ledger c.args.frame) (λ keys its rising. frame-found d c.args.mem.now s keeps c.args.frame keys.items its rising)
    c.walk_frame.ensures.entries c.walk_frame.ensures.rising

pub returns-clause-below : goal.returns-clause-below
returns-clause-below g c = let s = c.requires.steady in
    if_both c.walk_frame.result (λ keys. AreItsEntries (reach_by c.args.mem.now c.by_number.result.now) (names_frame c.args.frame) keys.items)
    (λ keys. AreRising keys.items)
    (λ keys. AllByRecursion (λ (key : ℕ × ℕ). key.1 < top_page) keys.items)
    (λ keys its rising. subst (AllByRecursion (λ (key : ℕ × ℕ). key.1 < top_page))
    (sym (frame-found s.0 c.args.mem.now s.1 s.2 c.args.frame keys.items its rising))
    (frame-below s.0 c.args.mem.now s.1 s.2 c.by_number.ensures.rising c.args.frame))
    c.walk_frame.ensures.entries c.walk_frame.ensures.rising

pub returns-clause-counted : goal.returns-clause-counted
returns-clause-counted g c =
    let s = c.requires.steady in
    let l = looks s.0 c.args.mem.now s.1 s.2 c.args.frame in
    on_ok c.walk_frame.result
    (λ counted. counted ∙ ap (λ h. c.args.steps.now + looks_from (reach_by c.args.mem.now c.args.mem.now.spaces.areas) h) c.home.ensures
    ∙ ap (λ n. c.args.steps.now + n) l
    ∙ ap (λ b. c.args.steps.now + cond b (areas_at_all c.args.mem.now ((view c.args.mem.now).items c.args.frame))
    (areas_at c.args.mem.now ((view c.args.mem.now).homes c.args.frame))) (sym (sym c.is_merged.ensures ∙ c.if-is_merged.false)))
    c.walk_frame.ensures.counted

-- ---- a merged frame

pub walk_merged-requires-clause-apart : goal.walk_merged-requires-clause-apart
walk_merged-requires-clause-apart g c = let s = c.requires.steady in
    subst (λ (areas : List (Option Area)). AreApart (reach_by c.args.mem.now areas)) (sym c.by_number.ensures.areas)
    (apart s.0 c.args.mem.now s.1 s.2 c.by_number.ensures.numbered)

pub walk_merged-requires-clause-covered : goal.walk_merged-requires-clause-covered
walk_merged-requires-clause-covered g c = let s = c.requires.steady in
    subst (λ (areas : List (Option Area)). AreCovered (reach_by c.args.mem.now areas) (names_frame c.args.frame) c.of.result.now)
    (sym c.by_number.ensures.areas)
    (subst (AreCovered (reach_by c.args.mem.now c.args.mem.now.spaces.areas) (names_frame c.args.frame)) (sym c.of.ensures.items)
    (found-merged s.0 c.args.mem.now s.1 s.2 c.by_number.ensures.numbered c.args.frame (sym c.is_merged.ensures ∙ c.if-is_merged.true)))

pub walk_merged-requires-clause-roots : goal.walk_merged-requires-clause-roots
walk_merged-requires-clause-roots g c = let s = c.requires.steady in
    subst (λ (areas : List (Option Area)). AreRootsApart (reach_by c.args.mem.now areas) c.of.result.now) (sym c.by_number.ensures.areas)
    (subst (AreRootsApart (reach_by c.args.mem.now c.args.mem.now.spaces.areas)) (sym c.of.ensures.items)
    (roots-apart-of s.0 c.args.mem.now s.1 s.2 c.args.frame))

pub walk_merged-requires-clause-count : goal.walk_merged-requires-clause-count
walk_merged-requires-clause-count g c = let s = c.requires.steady in
    subst (λ (n : ℕ). (keys : List Key) → AreItsEntries (reach_by c.args.mem.now c.by_number.result.now) (names_frame c.args.frame) keys →
    length keys ≤ n) (sym c.maps-count.ensures)
    (frame-few s.0 c.args.mem.now s.1 s.2 c.args.frame)

pub returns-then-is_merged-clause-keys : goal.returns-then-is_merged-clause-keys
returns-then-is_merged-clause-keys g c = λ d s keeps.
    if_both c.walk_merged.result (λ keys. AreItsEntries (reach_by c.args.mem.now c.by_number.result.now) (names_frame c.args.frame) keys.items)
    (λ keys. AreRising keys.items)
    (λ keys. keys.items ≡ walk_of s.ledger c.args.frame) (λ keys its rising. frame-found d c.args.mem.now s keeps c.args.frame keys.items its rising)
    c.walk_merged.ensures.entries c.walk_merged.ensures.rising

pub returns-then-is_merged-clause-below : goal.returns-then-is_merged-clause-below
returns-then-is_merged-clause-below g c = let s = c.requires.steady in
    if_both c.walk_merged.result (λ keys. AreItsEntries (reach_by c.args.mem.now c.by_number.result.now) (names_frame c.args.frame) keys.items)
    (λ keys. AreRising keys.items)
    (λ keys. AllByRecursion (λ (key : ℕ × ℕ). key.1 < top_page) keys.items)
    (λ keys its rising. subst (AllByRecursion (λ (key : ℕ × ℕ). key.1 < top_page))
    (sym (frame-found s.0 c.args.mem.now s.1 s.2 c.args.frame keys.items its rising))
    (frame-below s.0 c.args.mem.now s.1 s.2 c.by_number.ensures.rising c.args.frame))
    c.walk_merged.ensures.entries c.walk_merged.ensures.rising

pub returns-then-is_merged-clause-counted : goal.returns-then-is_merged-clause-counted
returns-then-is_merged-clause-counted g c =
    let s = c.requires.steady in
    let k = c.args.mem.now in
    on_ok c.walk_merged.result
    (λ counted. counted
    ∙ ap (λ (items : List (ℕ × ℕ)). c.args.steps.now + looks_from_all (reach_by k k.spaces.areas) items) c.of.ensures.items
    ∙ ap (λ n. c.args.steps.now + n) (looks-all s.0 k s.1 s.2 ((view k).items c.args.frame))
    ∙ ap (λ b. c.args.steps.now + cond b (areas_at_all k ((view k).items c.args.frame)) (areas_at k ((view k).homes c.args.frame)))
    (sym (sym c.is_merged.ensures ∙ c.if-is_merged.true)))
    c.walk_merged.ensures.counted
