use Rattle.std.proofs.Common.{◌≡◌, ◌+◌, ◌-◌, take, ap, ◌∙◌, arith}
use Rattle.std.proofs.lemmas.List.{with_items_is}
use Rattle.av_ports.proofs.Front.{front-more}
use Rattle.av_ports.proofs.pending.Pending.fill.Goals as goal

pub returns-clause-undone : goal.returns-clause-undone
returns-clause-undone g c =
    let k = c.self.inside.end - c.self.inside.start in
    let new = c.read_behind.new.bytes in
    let was : take k c.deref_mut.result.now ≡ c.args.self.now = ap (take k) c.deref_mut.ensures.value ∙ c.move_to_front.ensures.moved
    ∙ c.self.view_is in
    let items = with_items_is c.move_to_front.new.bytes new (omega (arith, c.read_behind.auto.bytes, c.deref_mut.ensures.len)) in
    let size : k + c.in_ok-count.count - 0 ≡ k + c.in_ok-count.count = omega arith in
    let more = front-more k c.in_ok-count.count c.deref_mut.result.now new c.args.self.now (g.P.Ports.view c.args.ports.now).source.left
    (g.P.Ports.view c.read_behind.new.ports).source.left was c.in_ok-count.ensures.front c.in_ok-count.ensures.taken in
    rw (items, size) more
