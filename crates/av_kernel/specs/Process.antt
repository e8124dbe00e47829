-- Whether one more process may come.
use Rattle.std.specs.Prelude.{ℕ, nat_le, [], ◌∷◌, length, is_some}
use Rattle.av_base.specs.Limits.{most_processes}
use Rattle.av_trace.specs.declared.reply.Errno.TheVariants.{Eagain, Eexist}
use Rattle.av_spaces.specs.Spaces.{Spaces, areas_of}
use Rattle.av_plain.specs.Refusal.{Tests}

-- the tests of a process that is to live
abbrev pub new_tests : Spaces → ℕ → Tests
new_tests s p = (is_some (areas_of s p), Eexist) ∷ (nat_le most_processes (length s), Eagain) ∷ []
