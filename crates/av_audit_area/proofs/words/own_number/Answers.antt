use Rattle.std.proofs.Common.{refl}
use Rattle.av_audit_area.proofs.WordLaws.{own-same}
use Rattle.av_audit_area.proofs.words.own_number.Goals as goal

pub returns : goal.returns
returns c = λ own wide is. own-same c.args.word.now c.number_in.result own _ refl c.number_in.ensures.found c.number_in.ensures.none wide is
