use Rattle.std.proofs.Common.{Some, None}
use Rattle.av_vma.specs.Areas.{area_of}
use Rattle.av_anon.specs.Anons.{family, give_own}
use Rattle.av_anon.specs.Order.{IsInOrder}
use Rattle.av_anon.specs.Prepare.{after_prepare, loan_to, own_after_prepare}
use Rattle.av_anon.specs.Spans.{spans_of}
use Rattle.av_anon.proofs.OrderLaws.{order-prepare}
use Rattle.av_tests.proofs.RmapLaws.{bare_comes, no_loan, one_user, order_by, put_here}
use Rattle.av_tests.proofs.rmap.add.Goals as goal

pub returns-clause-order : goal.returns-clause-order
returns-clause-order c =
    let id = c.in_ok-id.id in
    let f = family c.args.anons.now in
    let mid = area_of c.add.new.self in
    let loan = loan_to mid f.chain id None None in
    let order : IsInOrder mid f (spans_of c.args.anons.now) =
    bare_comes (area_of c.args.areas.now) mid f (spans_of c.args.anons.now) id c.args.area c.requires.order c.in_ok-id.ensures.unused
    c.in_ok-id.ensures.added
    c.requires.bare c.requires.fits in
    order_by (area_of c.prepare.new.areas) (give_own id (Some (own_after_prepare loan f)) mid) (family c.prepare.new.self) (after_prepare id loan f)
    (spans_of c.prepare.new.self)
    c.in_ok-prepare.ensures.areas c.in_ok-prepare.ensures.family
    (order-prepare mid f (spans_of c.args.anons.now) (spans_of c.prepare.new.self) id c.args.area None None order
    (put_here id c.args.area (area_of c.args.areas.now) mid c.in_ok-id.ensures.added) c.requires.bare)
    c.in_ok-prepare.ensures.spans

pub returns-clause-users : goal.returns-clause-users
returns-clause-users c =
    let f = family c.args.anons.now in
    one_user f (family c.prepare.new.self) c.in_ok-id.id (loan_to (area_of c.add.new.self) f.chain c.in_ok-id.id None None)
    (no_loan (area_of c.add.new.self) f.chain c.in_ok-id.id) c.requires.first c.requires.unused c.in_ok-prepare.ensures.family
