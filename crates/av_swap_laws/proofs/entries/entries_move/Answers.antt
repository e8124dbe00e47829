use Rattle.std.proofs.Common.{refl}
use Rattle.av_swap_laws.proofs.Move.{moved-bytes, moved-chosen, moved-stands}
use Rattle.av_plain.specs.Event.{after_move}
use Rattle.av_plain.specs.Stands.{free_of}
use Rattle.av_swap_laws.proofs.entries.entries_move.Goals as goal

pub returns : goal.returns
returns c = λ m closing v d w later l p n from to table alike h bytes entries came pages. (
  moved-stands m v l (after_move p n from to l) alike table h entries came,
  moved-bytes m v l (after_move p n from to l) alike (record v { table = table }) d w later refl bytes pages,
  moved-chosen m closing l p n from to (free_of v) alike,
)
