use Rattle.std.proofs.Common.{◌≡◌, List, ℕ, length}
use Rattle.std.specs.List.{AllByRecursion}
use Rattle.av_text.specs.Number.{IsWide}
use Rattle.av_trace.specs.Row.{chain_text}
use Rattle.av_audit_area.proofs.WordLaws.{IsPartOf}
use Rattle.av_audit_area.proofs.words.chain_numbers.Given as goal

abbrev pub invariant-loop-rest : goal.invariant-loop-rest
invariant-loop-rest l = (chain : List ℕ) → AllByRecursion IsWide chain → l.fn.word ≡ chain_text chain → IsPartOf chain l.numbers.items l.rest

abbrev pub decreases-loop-rest : goal.decreases-loop-rest
decreases-loop-rest l = length l.rest
