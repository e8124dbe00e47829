use Rattle.std.proofs.Common.{sym, ◌∙◌}
use Rattle.av_place.proofs.PlaceLaws.{room_by}
use Rattle.av_place.proofs.place.has_room.Goals as goal

pub returns-then-may_have : goal.returns-then-may_have
returns-then-may_have c = λ q same.
    room_by c.args.spaces.now.processes c.args.process q same c.args.pages c.args.page c.is_free.result (sym c.may_have.ensures ∙ c.if-may_have.true)
    c.is_free.ensures.free c.is_free.ensures.met
