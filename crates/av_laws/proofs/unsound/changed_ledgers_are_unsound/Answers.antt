use Rattle.std.specs.Prelude.{◌≡◌, ℕ}
use Rattle.std.proofs.Common.{arith, ◌≤◌, ◌<◌}
use Rattle.av_laws.specs.Examples.{slot}
use Rattle.av_laws.proofs.unsound.changed_ledgers_are_unsound.Goals as goal

pub returns-clause-slot_at_two_frames : goal.returns-clause-slot_at_two_frames
returns-clause-slot_at_two_frames c h = let few : 2 ≤ 1 = h.ledger.slots_once (slot 1) in omega (arith, few)

pub returns-clause-frame_of_two_slots : goal.returns-clause-frame_of_two_slots
returns-clause-frame_of_two_slots c h = let few : 2 ≤ 1 = h.ledger.frames_once 0 in omega (arith, few)

pub returns-clause-no_such_frame : goal.returns-clause-no_such_frame
returns-clause-no_such_frame c h = let below : 4 < 4 = h.ledger.in_range 4 (omega arith) in omega (arith, below)

pub returns-clause-not_listed : goal.returns-clause-not_listed
returns-clause-not_listed c h = let e : ◌≡◌ {A = ℕ} 0 1 = h.ledger.listed 0 in omega (arith, e)

pub returns-clause-in_both_lists : goal.returns-clause-in_both_lists
returns-clause-in_both_lists c h = let e : ◌≡◌ {A = ℕ} 2 1 = h.ledger.listed 0 in omega (arith, e)

pub returns-clause-free_but_listed : goal.returns-clause-free_but_listed
returns-clause-free_but_listed c h = let e : ◌≡◌ {A = ℕ} 1 0 = h.ledger.listed 1 in omega (arith, e)

pub returns-clause-in_flight_uncached : goal.returns-clause-in_flight_uncached
returns-clause-in_flight_uncached c h = let few : 1 ≤ 0 = h.ledger.flying (slot 2) in omega (arith, few)

pub returns-clause-in_flight_twice : goal.returns-clause-in_flight_twice
returns-clause-in_flight_twice c h = let few : 2 ≤ 1 = h.ledger.flying (slot 1) in omega (arith, few)

pub returns-clause-left_over : goal.returns-clause-left_over
returns-clause-left_over c h = let some : 0 < 0 = h.ledger.used (slot 1) 0 (omega arith) in omega (arith, some)
