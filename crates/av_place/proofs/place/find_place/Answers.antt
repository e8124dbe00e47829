use Rattle.std.proofs.Common.{subst, sym, ◌∙◌, Ok, Err}
use Rattle.av_trace.specs.declared.reply.Errno.TheVariants.{Eexist}
use Rattle.av_place.specs.Place.{IsPlaced}
use Rattle.av_place.proofs.PlaceLaws.{placed_auto, placed_elsewhere, placed_taken, placed_free}
use Rattle.av_place.proofs.place.find_place.Goals as goal

pub returns-in-Auto : goal.returns-in-Auto
returns-in-Auto c = λ q same.
    subst (λ x. IsPlaced q c.args.pages x c.find_gap.result) (sym c.in-Auto.is)
    (placed_auto c.args.spaces.now.processes c.args.process q same c.args.pages c.find_gap.result c.find_gap.ensures)

pub returns-then-not-is_free : goal.returns-then-not-is_free
returns-then-not-is_free c = λ q same.
    subst (λ x. IsPlaced q c.args.pages x (Err Eexist)) (sym c.in-NoReplace.is)
    (placed_taken c.args.spaces.now.processes c.args.process q same c.args.pages c.in-NoReplace.address c.in_ok-page-in-NoReplace.page
    c.in_ok-page-in-NoReplace.ensures (c.is_free.ensures.met c.if-not-is_free.true))

pub returns-else-not-is_free : goal.returns-else-not-is_free
returns-else-not-is_free c = λ q same.
    subst (λ x. IsPlaced q c.args.pages x (Ok c.in_ok-page-in-NoReplace.page)) (sym c.in-NoReplace.is)
    (placed_free c.args.spaces.now.processes c.args.process q same c.args.pages c.in-NoReplace.address c.in_ok-page-in-NoReplace.page
    c.in_ok-page-in-NoReplace.ensures (c.is_free.ensures.free c.if-not-is_free.false))

pub returns-else-has_room : goal.returns-else-has_room
returns-else-has_room c = λ q same.
    subst (λ x. IsPlaced q c.args.pages x c.find_gap-in-At.result) (sym c.in-At.is)
    (placed_elsewhere c.args.spaces.now.processes c.args.process q same c.args.pages c.in-At.address c.find_gap-in-At.result
    (sym (c.has_room.ensures q same) ∙ c.if-has_room.false) c.find_gap-in-At.ensures)
