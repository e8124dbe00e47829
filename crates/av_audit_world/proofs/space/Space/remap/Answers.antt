use Rattle.av_audit_world.proofs.RemapLaws.{remapped}
use Rattle.av_audit_world.proofs.SpaceLaws.{on-ok}
use Rattle.av_audit_world.proofs.space.Space.remap.Goals as goal

pub returns : goal.returns
returns c = on-ok c.remap_bytes.result c.remap_bytes.ensures (λ moved q h below.
    remapped c.args.from c.args.n c.args.to c.args.m c.args.stays c.args.self.now
    (record { alloc = c.args.self.now.alloc; ranges = c.remap_ranges.new.ranges; bytes = c.remap_bytes.new.bytes }) q h
    c.in_ok-remap_ranges.ensures moved below)
