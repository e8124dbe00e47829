use Rattle.av_place.proofs.MremapTests.{may_stay-is}
use Rattle.av_place.proofs.mremap.may_stay.Goals as goal

pub returns-then-from-new_pages-le-TOP_PAGE : goal.returns-then-from-new_pages-le-TOP_PAGE
returns-then-from-new_pages-le-TOP_PAGE c = λ q same.
    may_stay-is c.args.spaces.now.processes c.args.process q same c.args.from c.args.pages c.args.new_pages c.is_free.result
    c.if-new_pages-pages.false c.if-from-new_pages-le-TOP_PAGE.true c.is_free.ensures.free c.is_free.ensures.met
