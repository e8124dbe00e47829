-- No kind of reply came more often than commands were answered.
use Rattle.std.proofs.Common.{ℕ, ◌+◌, ◌≤◌, arith}
use Rattle.av_trace.specs.declared.reply.Answer.{Answer}
use Rattle.av_trace.specs.declared.reply.Answer.TheVariants.{Done, MapAt, Data, Refused, Segv, Bus, Oom, On, NoFrame}
use Rattle.av_kernel.specs.declared.tally.Tally.{Tally}
use Rattle.av_kernel.specs.Tally.{tally_with, IsAtMost}

pub counted-few : (answer : Answer) (t : Tally) (n : ℕ) → IsAtMost n t → IsAtMost (n + 1) (tally_with answer t)
counted-few Done t n h = record {
  done = omega arith;
  mapped = omega arith;
  shown = omega arith;
  on = omega arith;
  refused = omega arith;
  segv = omega arith;
  bus = omega arith;
  oom = omega arith;
}
counted-few (MapAt a) t n h = record {
  done = omega arith;
  mapped = omega arith;
  shown = omega arith;
  on = omega arith;
  refused = omega arith;
  segv = omega arith;
  bus = omega arith;
  oom = omega arith;
}
counted-few (Data bytes) t n h = record {
  done = omega arith;
  mapped = omega arith;
  shown = omega arith;
  on = omega arith;
  refused = omega arith;
  segv = omega arith;
  bus = omega arith;
  oom = omega arith;
}
counted-few (On slots bad) t n h = record {
  done = omega arith;
  mapped = omega arith;
  shown = omega arith;
  on = omega arith;
  refused = omega arith;
  segv = omega arith;
  bus = omega arith;
  oom = omega arith;
}
counted-few (Refused error) t n h = record {
  done = omega arith;
  mapped = omega arith;
  shown = omega arith;
  on = omega arith;
  refused = omega arith;
  segv = omega arith;
  bus = omega arith;
  oom = omega arith;
}
counted-few (NoFrame out) t n h = record {
  done = omega arith;
  mapped = omega arith;
  shown = omega arith;
  on = omega arith;
  refused = omega arith;
  segv = omega arith;
  bus = omega arith;
  oom = omega arith;
}
counted-few (Segv k shown) t n h = record {
  done = omega arith;
  mapped = omega arith;
  shown = omega arith;
  on = omega arith;
  refused = omega arith;
  segv = omega arith;
  bus = omega arith;
  oom = omega arith;
}
counted-few (Bus k shown) t n h = record {
  done = omega arith;
  mapped = omega arith;
  shown = omega arith;
  on = omega arith;
  refused = omega arith;
  segv = omega arith;
  bus = omega arith;
  oom = omega arith;
}
counted-few (Oom k out shown) t n h = record {
  done = omega arith;
  mapped = omega arith;
  shown = omega arith;
  on = omega arith;
  refused = omega arith;
  segv = omega arith;
  bus = omega arith;
  oom = omega arith;
}
counted-few _ t n h = record {
  done = omega arith;
  mapped = omega arith;
  shown = omega arith;
  on = omega arith;
  refused = omega arith;
  segv = omega arith;
  bus = omega arith;
  oom = omega arith;
}

pub few-enough : (t : Tally) (n m : ℕ) → n ≤ m → IsAtMost n t → IsAtMost m t
few-enough t n m less h = record {
  done = omega arith;
  mapped = omega arith;
  shown = omega arith;
  on = omega arith;
  refused = omega arith;
  segv = omega arith;
  bus = omega arith;
  oom = omega arith;
}
