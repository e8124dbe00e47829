-- How often each kind of reply came.
use Rattle.std.specs.Prelude.{ℕ, ◌+◌, ◌≤◌, Bool, true, false, ◌==◌, ◌&&◌, if◌then◌else◌, List, []}
use Rattle.std.specs.Prelude.{◌∷◌, map, codes}
use Rattle.av_trace.specs.declared.reply.Answer.{Answer}
use Rattle.av_trace.specs.declared.reply.Answer.TheVariants.{Done, MapAt, Data, Refused, Segv, Bus}
use Rattle.av_trace.specs.declared.reply.Answer.TheVariants.{Oom, On, NoFrame}
use Rattle.av_kernel.specs.declared.tally.Tally.{Tally}

-- no reply came
abbrev pub none_counted : Tally
none_counted = record {
  done = 0;
  mapped = 0;
  shown = 0;
  on = 0;
  refused = 0;
  segv = 0;
  bus = 0;
  oom = 0;
}

-- one more reply with this answer; reports are not counted
abbrev pub tally_with : Answer → Tally → Tally
tally_with Done t = record t { done = t.done + 1 }
tally_with (MapAt a) t = record t { mapped = t.mapped + 1 }
tally_with (Data bytes) t = record t { shown = t.shown + 1 }
tally_with (On slots bad) t = record t { on = t.on + 1 }
tally_with (Refused error) t = record t { refused = t.refused + 1 }
tally_with (NoFrame out) t = record t { refused = t.refused + 1 }
tally_with (Segv k shown) t = record t { segv = t.segv + 1 }
tally_with (Bus k shown) t = record t { bus = t.bus + 1 }
tally_with (Oom k out shown) t = record t { oom = t.oom + 1 }
tally_with answer t = t

-- no kind of reply came more often than n times
pub record IsAtMost (n : ℕ) (t : Tally) : Type 0 where
  pub done : t.done ≤ n
  pub mapped : t.mapped ≤ n
  pub shown : t.shown ≤ n
  pub on : t.on ≤ n
  pub refused : t.refused ≤ n
  pub segv : t.segv ≤ n
  pub bus : t.bus ≤ n
  pub oom : t.oom ≤ n

-- ---- by first words

-- what stands before the first space of a line
abbrev pub first_word : List ℕ → List ℕ
first_word [] = []
first_word (b ∷ bs) = if b == 32 then [] else b ∷ first_word bs

-- whether two words are the same
abbrev pub is_word : List ℕ → List ℕ → Bool
is_word [] [] = true
is_word [] (b ∷ bs) = false
is_word (a ∷ rest) [] = false
is_word (a ∷ rest) (b ∷ bs) = a == b && is_word rest bs

-- the words that are counted, and how often each came
abbrev pub by_word : Tally → List (List ℕ × ℕ)
by_word t =
    (codes "ok", t.done) ∷ (codes "map", t.mapped) ∷ (codes "data", t.shown) ∷ (codes "on", t.on)
    ∷ (codes "err", t.refused) ∷ (codes "segv", t.segv) ∷ (codes "bus", t.bus)
    ∷ (codes "oom", t.oom) ∷ []

-- this one came once more, if it is counted
abbrev pub with_word : List ℕ → List (List ℕ × ℕ) → List (List ℕ × ℕ)
with_word word counts =
    map (λ (row : List ℕ × ℕ). (row.0, if is_word word row.0 then row.1 + 1 else row.1)) counts
