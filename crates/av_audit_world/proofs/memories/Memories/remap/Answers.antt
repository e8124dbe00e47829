use Rattle.std.proofs.Common.{subst, sym}
use Rattle.av_plain.specs.Mremap.{process_after_mremap}
use Rattle.av_plain.specs.World.{pages, set_process}
use Rattle.av_audit_world.specs.Memories.{AreSpaces}
use Rattle.av_audit_world.proofs.KeptLaws.{there}
use Rattle.av_audit_world.proofs.LockLaws.{noted-again}
use Rattle.av_audit_world.proofs.SpaceLaws.{on-ok}
use Rattle.av_audit_world.proofs.WorldLaws.{dead, found, sorted-set, spaces-find, spaces-set, true-of}
use Rattle.av_audit_world.proofs.memories.Memories.remap.Goals as goal

pub returns-in-None : goal.returns-in-None
returns-in-None c = λ w h alive below.
    absurd (dead _ w c.args.number (spaces-find c.args.self.now.spaces.entries w c.args.number h.spaces) (sym c.in-None.ensures.value) alive)

pub returns-in_ok-remap-in-Some : goal.returns-in_ok-remap-in-Some
returns-in_ok-remap-in-Some c = on-ok c.note.result c.note.ensures (λ noted w h alive below.
    let q = process_after_mremap c.args.from c.args.n c.args.to c.args.m c.args.stays (pages w c.args.number) in
    let f = found _ w c.args.number c.in-Some.space.now (spaces-find c.args.self.now.spaces.entries w c.args.number h.spaces) (sym c.in-Some.ensures.value) in
    let follows = c.get_mut.follows.holds c.remap.new.self in
    record {
      spaces = subst (λ es. AreSpaces es (set_process w c.args.number q)) (sym follows.0)
          (spaces-set c.args.self.now.spaces.entries w c.args.number c.remap.new.self q (true-of h.order) h.spaces f.0
          (c.in_ok-remap-in-Some.ensures (pages w c.args.number) f.1 below));
      order = sorted-set w c.args.number q h.order;
      noted = noted-again c.args.self.now.spaces (c.get_mut.follows.lender c.remap.new.self)
          c.args.self.now.locking c.note.new.locking c.args.number c.remap.new.self
          c.has_lock-locks.result h.noted
          (follows.3 (there _ c.in-Some.space.now (sym c.in-Some.ensures.value))).0 noted.0 c.has_lock-locks.ensures.none;
    })
