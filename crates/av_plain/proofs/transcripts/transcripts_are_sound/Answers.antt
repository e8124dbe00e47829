use Rattle.std.proofs.Common.{[]}
use Rattle.av_plain.specs.Ledger.{first_ledger}
use Rattle.av_plain.proofs.Sound.{first-sound, transcript-sound}
use Rattle.av_plain.proofs.transcripts.transcripts_are_sound.Goals as goal

pub returns : goal.returns
returns c m es w l h = transcript-sound m [] first_ledger es w l (first-sound m) h
