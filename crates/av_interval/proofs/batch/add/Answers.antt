use Rattle.std.proofs.Common.{rules, ◌≡◌, ◌++◌, ◌∷◌, [], ◌≤◌, ◌<◌, length, sym, ◌∙◌, arith, append-nil}
use Rattle.std.proofs.lemmas.Bool.{le-leb, lt-leb}
use Rattle.std.proofs.lemmas.List.{length-append}
use Rattle.std.proofs.lemmas.List.{take_all, take_at}
use Rattle.av_interval.proofs.SearchLemmas.{and_false}
use Rattle.std.specs.Prelude.{nat_le}
use Rattle.av_interval.proofs.batch.add.Goals as goal

pub returns-then-is_full : goal.returns-then-is_full
returns-then-is_full c =
    let e : length c.args.found.now.items ≡ 64 = search rules in
    sym (take_at c.args.found.now.items _ 64 e)

pub returns-then-node-index : goal.returns-then-node-index
returns-then-node-index c =
    let h : c.args.node.now.last < c.args.index = c.if-node-index.true in
    let f : length c.args.found.now.items ≤ 64 = c.is_full.ensures.fits in
    rw (lt-leb c.args.index c.args.node.now.last h, and_false (nat_le c.args.node.now.first c.args.index), append-nil c.args.found.now.items)
    (sym (take_all 64 c.args.found.now.items f))

pub returns : goal.returns
returns c =
    let node = c.args.node.now in
    let found = c.args.found.now.items in
    let room : length found < 64 = search rules in
    let reaches : c.args.index ≤ node.last = search rules in
    let one = length-append found ((node.first, node.area) ∷ []) in
    c.push.ensures.items ∙ rw (le-leb node.first c.args.index c.requires, le-leb c.args.index node.last reaches)
    (sym (take_all 64 (found ++ (node.first, node.area) ∷ []) (omega (arith, room, one))))
