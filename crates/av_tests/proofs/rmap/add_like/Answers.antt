use Rattle.av_vma.specs.Areas.{area_of}
use Rattle.av_anon.specs.Anons.{family, own_of}
use Rattle.av_anon.specs.Fork.{after_clone, gets_own}
use Rattle.av_anon.specs.Order.{IsInOrder}
use Rattle.av_anon.specs.Spans.{spans_of}
use Rattle.av_anon.proofs.OrderLaws.{order-clone}
use Rattle.av_tests.proofs.RmapLaws.{bare_comes, one_more_user, order_by, other_number, put_here}
use Rattle.av_tests.proofs.rmap.add_like.Goals as goal

pub clone_chain-requires-clause-order : goal.clone_chain-requires-clause-order
clone_chain-requires-clause-order c =
    bare_comes (area_of c.args.areas.now) (area_of c.add.new.self) (family c.args.anons.now) (spans_of c.args.anons.now) c.in_ok-id.id c.args.area
    c.requires.order c.in_ok-id.ensures.unused c.in_ok-id.ensures.added c.requires.bare c.requires.fits

pub returns-clause-order : goal.returns-clause-order
returns-clause-order c =
    let id = c.in_ok-id.id in
    let f = family c.args.anons.now in
    let mid = area_of c.add.new.self in
    let own = own_of (mid c.args.like) in
    let order : IsInOrder mid f (spans_of c.args.anons.now) =
    bare_comes (area_of c.args.areas.now) mid f (spans_of c.args.anons.now) id c.args.area c.requires.order c.in_ok-id.ensures.unused
    c.in_ok-id.ensures.added
    c.requires.bare c.requires.fits in
    order_by (area_of c.clone_chain.new.areas) (gets_own id own mid) (family c.clone_chain.new.self) (after_clone own c.args.like id f)
    (spans_of c.clone_chain.new.self)
    c.in_ok-clone_chain.ensures.areas c.in_ok-clone_chain.ensures.family
    (order-clone mid f (spans_of c.args.anons.now) (spans_of c.clone_chain.new.self) c.args.like id c.args.area order
    (put_here id c.args.area (area_of c.args.areas.now) mid c.in_ok-id.ensures.added) c.requires.bare)
    c.in_ok-clone_chain.ensures.spans

pub returns-clause-users : goal.returns-clause-users
returns-clause-users c =
    let f = family c.args.anons.now in
    let mid = area_of c.add.new.self in
    one_more_user f (family c.clone_chain.new.self) c.args.like c.in_ok-id.id (own_of (mid c.args.like))
    (other_number (area_of c.args.areas.now) mid c.args.area c.args.like c.in_ok-id.id c.in_ok-id.ensures.unused c.in_ok-id.ensures.added
    c.requires.own)
    ((c.requires.order.chains c.args.like).own_in 0 c.requires.own) c.in_ok-clone_chain.ensures.family
