use Rattle.std.proofs.Common.{[], refl}
use Rattle.av_laws.proofs.frames.merged_frames_are_left_alone.Goals as goal

pub returns-clause-kept : goal.returns-clause-kept
returns-clause-kept c = refl

pub returns-clause-locked_first : goal.returns-clause-locked_first
returns-clause-locked_first c = refl

pub returns-clause-no_turn : goal.returns-clause-no_turn
returns-clause-no_turn c = refl

pub returns-clause-numbers : goal.returns-clause-numbers
returns-clause-numbers c = refl

pub returns-clause-joins : goal.returns-clause-joins
returns-clause-joins c = refl

pub returns-clause-locked_counts_first : goal.returns-clause-locked_counts_first
returns-clause-locked_counts_first c = refl

pub returns-clause-locked_in_flight : goal.returns-clause-locked_in_flight
returns-clause-locked_in_flight c = refl

pub returns-clause-shown : goal.returns-clause-shown
returns-clause-shown c = ([], record { answer = (refl, refl, refl); notes = refl })
