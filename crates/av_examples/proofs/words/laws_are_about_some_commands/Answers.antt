use Rattle.std.proofs.Common.{refl}
use Rattle.av_examples.proofs.words.laws_are_about_some_commands.Goals as goal

pub returns-clause-end_midway : goal.returns-clause-end_midway
returns-clause-end_midway c = refl

pub returns-clause-have_no_events : goal.returns-clause-have_no_events
returns-clause-have_no_events c = refl

pub returns-clause-have_notes_alone : goal.returns-clause-have_notes_alone
returns-clause-have_notes_alone c = refl

pub returns-clause-take_pages : goal.returns-clause-take_pages
returns-clause-take_pages c = refl

pub returns-clause-take_none_of_another : goal.returns-clause-take_none_of_another
returns-clause-take_none_of_another c = refl

pub returns-clause-move_frames : goal.returns-clause-move_frames
returns-clause-move_frames c = refl
