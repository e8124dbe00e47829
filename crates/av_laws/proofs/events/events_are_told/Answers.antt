use Rattle.av_laws.proofs.Told.{no_event, only_notes}
use Rattle.av_laws.proofs.events.events_are_told.Goals as goal

pub returns-clause-none : goal.returns-clause-none
returns-clause-none c = no_event

pub returns-clause-notes : goal.returns-clause-notes
returns-clause-notes c = only_notes
