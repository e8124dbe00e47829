use Rattle.std.proofs.Common.{[], ◌∷◌, refl}
use Rattle.av_trace.specs.declared.note.Note.TheVariants.{Moved}
use Rattle.av_laws.proofs.frames.compactions_order_free_frames.Goals as goal

pub returns-clause-moved_from_anywhere : goal.returns-clause-moved_from_anywhere
returns-clause-moved_from_anywhere c = (2 ∷ [], (refl, refl), refl)

pub returns-clause-risen : goal.returns-clause-risen
returns-clause-risen c = refl

pub returns-clause-no_move : goal.returns-clause-no_move
returns-clause-no_move c = record { answer = ([], refl, refl, refl, refl); notes = refl }

pub returns-clause-one_move : goal.returns-clause-one_move
returns-clause-one_move c = record { answer = (Moved 3 0 ∷ [], (refl, refl), refl, refl, refl); notes = refl }
