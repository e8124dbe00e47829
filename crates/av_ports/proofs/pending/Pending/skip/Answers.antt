use Rattle.std.proofs.Common.{◌∙◌, ap, arith, length, drop}
use Rattle.av_ports.proofs.Front.{front-less}
use Rattle.av_ports.proofs.pending.Pending.skip.Goals as goal

pub returns : goal.returns
returns c =
    let size = ap length c.self.view_is in
    front-less c.self.inside.start c.self.inside.end c.args.count c.self.inside.bytes.items c.self.invariant.0 c.self.invariant.1
    (omega (arith, size, c.requires)) ∙ ap (drop c.args.count) c.self.view_is
