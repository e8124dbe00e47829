use Rattle.std.proofs.Common.{◌≡◌, ◌+◌, ◌-◌, ◌≤◌, ◌++◌, ◌∙◌, take, drop, length, ap, sym, Some, arith, List, ℕ, length-take-le}
use Rattle.std.proofs.lemmas.List.{take-append-drop, take_at, drop-drop}
use Rattle.std.proofs.lemmas.Grind.{common_steps}
use Rattle.av_io.proofs.source.MemSourceSource.read.Goals as goal

-- what was read is the front of what was left
read_front : (at n : ℕ) (bytes x rest : List ℕ) → x ≡ take n (drop at bytes) → length x ≡ n
    → drop at bytes ≡ take n (x ++ rest) ++ drop (at + n) bytes
read_front at n bytes x rest e len =
    let parts = take-append-drop n (drop at bytes) in
    sym parts ∙ ap (λ (t : List ℕ). t ++ drop n (drop at bytes)) (sym e ∙ sym (take_at x rest n len))
    ∙ ap (λ (t : List ℕ). take n (x ++ rest) ++ t) (drop-drop n at bytes)

pub returns-then-not-is_empty-clause-ok : goal.returns-then-not-is_empty-clause-ok
returns-then-not-is_empty-clause-ok c =
    let at = c.args.self.now.at in
    let n = c.min-count.result in
    let size : at + n - at ≡ n = omega arith in
    let within : n ≤ length c.args.into.now = omega arith in
    let copied = c.copy_from_slice.ensures.after ∙ ap (λ (k : ℕ). take k (drop at c.deref.result.now)) size
    ∙ ap (λ (l : List ℕ). take n (drop at l)) c.deref.ensures.value in
    let len = c.copy_from_slice.ensures.len ∙ length-take-le n c.args.into.now within in
    record {
      within = grind (arith, common_steps);
      bytes = ap Some (read_front at n c.args.self.now.bytes.items c.copy_from_slice.new.self (drop n c.args.into.now) copied len);
      ended = λ room none. grind (arith, common_steps);
      told = λ room. grind (arith, common_steps);
      no_room = λ none. grind (arith, common_steps);
      reads = grind (arith, common_steps);
      unfailed = grind (arith, common_steps);
    }
