-- Each piece that is served is a part of the access more, and one that stops ends it.
use Rattle.std.proofs.Common.{◌≡◌, ℕ, ◌+◌, ◌-◌, List, ◌++◌, length, take, drop, true, sym, ap, subst, ◌∙◌, arith}
use Rattle.std.proofs.lemmas.List.{length-take-le}
use Rattle.std.proofs.Math.Seq.{take-add}
use Rattle.av_step.specs.Step.{IsSteadyFor}
use Rattle.av_access.proofs.AccessParts.{piece-served, piece-stopped, piece-within, piece-ends}
use Rattle.av_access.proofs.access.write_pieces.Goals as goal
use Rattle.av_plain.proofs.Wrote.{device-on}

-- the bytes of a piece behind the first k
abbrev part : ℕ → ℕ → List ℕ → List ℕ
part k m bytes = take (k + m - k) (drop k bytes)

parts : (k m : ℕ) (bytes : List ℕ) → take k bytes ++ part k m bytes ≡ take (k + m) bytes
parts k m bytes = ap (λ n. take k bytes ++ take n (drop k bytes)) (let same : k + m - k ≡ m = omega arith in same) ∙ sym (take-add k m bytes)

pub write_page-requires-clause-steady : goal.write_page-requires-clause-steady
write_page-requires-clause-steady g c = subst (λ sizes. IsSteadyFor sizes c.args.process c.loop-done.mem) (sym c.loop-done.invariant.same.sizes)
    c.loop-done.invariant.steady

pub returns-in-Some-clause-access : goal.returns-in-Some-clause-access
returns-in-Some-clause-access g c = λ s keeps.
    let bytes = c.args.bytes.now in
    let k = c.loop-done.done in
    let piece = c.next_piece-piece.result in
    let h = c.loop-done.invariant.access s keeps in
    piece-stopped s c.loop-done.mem c.write_page.new.mem true c.args.process c.args.address (length bytes) k piece (take k bytes)
    (part k piece.len bytes)
    c.args.notes.now c.loop-done.notes _ c.in_ok-stop.field-0
    c.write_page.ensures.count c.next_piece-piece.ensures c.loop-done-test.true c.loop-done.invariant.begins h
    (λ _. length-take-le k bytes c.loop-done.invariant.within) (c.in_ok-stop.ensures.step h.served.next h.served.keeps) c.in-Some.stop c.in-Some.is

pub loop-done-preserved : goal.loop-done-preserved
loop-done-preserved g c =
    let bytes = c.args.bytes.now in
    let k = c.loop-done.done in
    let piece = c.next_piece-piece.result in
    record {
      within = piece-within c.args.address (length bytes) k piece c.next_piece-piece.ensures c.loop-done-test.true;
      begins = piece-ends c.args.address (length bytes) k piece c.next_piece-piece.ensures;
      access = λ s keeps.
          let h = c.loop-done.invariant.access s keeps in
          piece-served s c.loop-done.mem c.write_page.new.mem true c.args.process c.args.address (length bytes) k piece (take k bytes)
          (part k piece.len bytes)
          c.args.notes.now c.loop-done.notes _ c.in_ok-stop.field-0
          c.write_page.ensures.count c.next_piece-piece.ensures c.loop-done-test.true c.loop-done.invariant.begins h
          (λ _. length-take-le k bytes c.loop-done.invariant.within) (c.in_ok-stop.ensures.step h.served.next h.served.keeps) c.in_default.not-Some
          (take (k + piece.len) bytes) (parts k piece.len bytes);
      steady = subst (λ sizes. IsSteadyFor sizes c.args.process c.write_page.new.mem) c.loop-done.invariant.same.sizes c.in_ok-stop.ensures.steady;
      same = device-on _ _ _ c.loop-done.invariant.same c.write_page.ensures.same;
      count = c.write_page.ensures.count ∙ c.loop-done.invariant.count;
    }
