use Rattle.std.proofs.Common.{◌≡◌, None, ap, sym, ◌∙◌}
use Rattle.av_trace.specs.declared.mode.Mode.TheVariants.{DontUnmap}
use Rattle.av_place.proofs.MremapTests.{gap_left, gap_moved}
use Rattle.av_place.proofs.mremap.find_target.Goals as goal

pub returns-else-may_stay-2 : goal.returns-else-may_stay-2
returns-else-may_stay-2 c = λ q same.
    gap_moved c.args.spaces.now.processes c.args.process q same c.args.from c.args.pages c.args.new_pages c.find_gap.result c.args.mode
    c.in-MayMove.is
    (sym (c.if-may_stay-2.ensures q same)) c.find_gap.ensures

pub returns-in-DontUnmap-None : goal.returns-in-DontUnmap-None
returns-in-DontUnmap-None c = λ q same.
    let here = c.in-DontUnmap-None in
    let bare : here.field-0 ≡ None = rw here.is at here.field-0-is in
    gap_left c.args.spaces.now.processes c.args.process q same c.args.from c.args.pages c.args.new_pages
    c.find_gap-in-DontUnmap-None.result c.args.mode
    (here.is ∙ ap DontUnmap bare) c.find_gap-in-DontUnmap-None.ensures
