use Rattle.std.proofs.Common.{refl}
use Rattle.std.specs.Fmt.{digits}
use Rattle.av_examples.proofs.texts.notes_have_words.Goals as goal

pub returns-clause-of_pages : goal.returns-clause-of_pages
unfolding digits
returns-clause-of_pages c = refl

pub returns-clause-of_slots : goal.returns-clause-of_slots
unfolding digits
returns-clause-of_slots c = refl

pub returns-clause-of_frames : goal.returns-clause-of_frames
unfolding digits
returns-clause-of_frames c = refl
