use Rattle.std.proofs.Common.{◌≤◌, arith}
use Rattle.av_plain.proofs.NoDevice.{never}
use Rattle.av_examples.proofs.sound.merged_frames_and_chains_are_sound.Goals as goal

pub returns-clause-merged_unmapped : goal.returns-clause-merged_unmapped
returns-clause-merged_unmapped c h = let few : 1 ≤ 0 = h.ledger.merged 0 in omega (arith, few)

pub returns-clause-parent_alone : goal.returns-clause-parent_alone
returns-clause-parent_alone c h = never h.root
