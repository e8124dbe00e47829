use Rattle.av_frames.proofs.Locked.{slot-kept, slot-set}
use Rattle.av_frames.proofs.locks.Locks.set_slot.Goals as goal

pub recount-self-inside-requires-clause-some : goal.recount-self-inside-requires-clause-some
recount-self-inside-requires-clause-some c = rw c.is_both.ensures
    (slot-set _ _ _ _ _ c.args.slot _ _ c.self.invariant c.self.view_is c.requires c.get-count.ensures c.get-was.ensures).some

pub recount-self-inside-requires-clause-few : goal.recount-self-inside-requires-clause-few
recount-self-inside-requires-clause-few c = rw (c.is_both.ensures, c.is_both-2.ensures)
    (slot-set _ _ _ _ _ c.args.slot _ _ c.self.invariant c.self.view_is c.requires c.get-count.ensures c.get-was.ensures).few

pub invariant_of-self : goal.invariant_of-self
invariant_of-self c = rw c.set.ensures (slot-kept _ _ _ _ _ _ _ _ c.self.invariant
    (slot-set _ _ _ _ _ c.args.slot _ _ c.self.invariant c.self.view_is c.requires c.get-count.ensures c.get-was.ensures)
    (rw (c.is_both.ensures, c.is_both-2.ensures) at c.recount-self-inside.ensures))
