-- Spans in order, and the greatest last index as their summary.
use Rattle.std.specs.Prelude.{ℕ, ◌+◌, ◌*◌, ◌^◌, max, List}
use Rattle.std.proofs.Common.{arith}
use Rattle.av_arena.specs.Monoid.{MonoidLaws, total}
use Rattle.av_interval.specs.declared.span.Span.{Span}

abbrev pub triple : ℕ → ℕ → ℕ → Span
triple first last area = record { first = first; last = last; area = area }

-- by first index, then by area
unfoldable pub key_of : ℕ → ℕ → ℕ
key_of first area = first * 2 ^ 64 + area

abbrev pub key : Span → ℕ
key x = key_of x.first x.area

abbrev pub last_of : Span → ℕ
last_of x = x.last

-- the greatest last index
abbrev pub top : List Span → ℕ
top xs = total 0 max last_of xs

pub max_laws : MonoidLaws 0 max
max_laws =
    record {
      left_identity = λ x. omega arith;
      right_identity = λ x. omega arith;
      assoc = λ x y z. omega arith;
    }
