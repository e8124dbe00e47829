use Rattle.std.proofs.Common.{◌<◌, ◌∙◌, length, subst, sym, arith}
use Rattle.std.proofs.lemmas.Bool.Decides.{nat_tests}
use Rattle.av_plain.specs.World.{pages, set_process, with_bytes}
use Rattle.av_audit_world.specs.Memories.{AreSpaces, IsWorld}
use Rattle.av_audit_world.proofs.BytesLaws.{stored-some}
use Rattle.av_audit_world.proofs.KeptLaws.{there}
use Rattle.av_audit_world.proofs.LockLaws.{noted-set, written-lock}
use Rattle.av_audit_world.proofs.SpaceLaws.{on-ok}
use Rattle.av_audit_world.proofs.WorldLaws.{dead, found, sorted-set, spaces-find, spaces-set, true-of}
use Rattle.av_audit_world.proofs.memories.Memories.write.Goals as goal

pub returns-in-None : goal.returns-in-None
returns-in-None c = λ w h alive.
    absurd (dead _ w c.args.number (spaces-find c.args.self.now.spaces.entries w c.args.number h.spaces) (sym c.in-None.ensures.value) alive)

pub returns-in-Some : goal.returns-in-Some
returns-in-Some c = on-ok c.write.result c.write.ensures (λ is w h alive.
    let bytes = c.args.bytes.now in
    let some : 0 < length bytes = grind (arith, nat_tests, c.if-is_empty.false, c.is_empty.ensures) in
    let q = with_bytes (pages w c.args.number) c.args.address bytes in
    let f = found _ w c.args.number c.in-Some.space.now (spaces-find c.args.self.now.spaces.entries w c.args.number h.spaces) (sym c.in-Some.ensures.value) in
    let follows = c.get_mut.follows.holds c.write.new.self in
    subst (IsWorld _) (sym (stored-some w c.args.number c.args.address bytes some)) (record {
      spaces = subst (λ es. AreSpaces es (set_process w c.args.number q)) (sym follows.0)
          (spaces-set c.args.self.now.spaces.entries w c.args.number c.write.new.self q (true-of h.order) h.spaces f.0 (is (pages w c.args.number) f.1));
      order = sorted-set w c.args.number q h.order;
      noted = noted-set c.args.self.now.spaces (c.get_mut.follows.lender c.write.new.self) c.args.self.now.locking c.args.self.now.locking
          c.args.number h.noted c.write.new.self
          (follows.3 (there _ c.in-Some.space.now (sym c.in-Some.ensures.value))).0 (λ q other was. was)
          (λ page locked. h.noted c.args.number c.in-Some.space.now page (sym c.in-Some.ensures.value)
          (sym (written-lock c.in-Some.space.now c.write.new.self (pages w c.args.number) c.args.address bytes page f.1
          (is (pages w c.args.number) f.1)) ∙ locked));
    }))
