use Rattle.av_frames.proofs.Locked.{count-kept, count-set}
use Rattle.av_frames.proofs.locks.Locks.set.Goals as goal

pub recount-self-inside-requires-clause-some : goal.recount-self-inside-requires-clause-some
recount-self-inside-requires-clause-some c =
    (count-set _ _ _ _ c.args.count _ _ _ c.self.invariant c.self.view_is c.requires c.get-was.ensures c.get-slot.ensures).locked.some

pub recount-self-inside-requires-clause-few : goal.recount-self-inside-requires-clause-few
recount-self-inside-requires-clause-few c =
    (count-set _ _ _ _ c.args.count _ _ _ c.self.invariant c.self.view_is c.requires c.get-was.ensures c.get-slot.ensures).locked.few

pub recount-self-inside-requires-2-clause-some : goal.recount-self-inside-requires-2-clause-some
recount-self-inside-requires-2-clause-some c = rw c.is_both.ensures
    (count-set _ _ _ _ c.args.count _ _ _ c.self.invariant c.self.view_is c.requires c.get-was.ensures c.get-slot.ensures).cached.some

pub recount-self-inside-requires-2-clause-few : goal.recount-self-inside-requires-2-clause-few
recount-self-inside-requires-2-clause-few c = rw (c.is_both.ensures, c.is_both-2.ensures)
    (count-set _ _ _ _ c.args.count _ _ _ c.self.invariant c.self.view_is c.requires c.get-was.ensures c.get-slot.ensures).cached.few

pub invariant_of-self : goal.invariant_of-self
invariant_of-self c = count-kept _ _ _ _ _ _ _ _ _ c.self.invariant
    (count-set _ _ _ _ c.args.count _ _ _ c.self.invariant c.self.view_is c.requires c.get-was.ensures c.get-slot.ensures)
    c.recount-self-inside.ensures (rw (c.is_both.ensures, c.is_both-2.ensures) at c.recount-self-inside-2.ensures)
