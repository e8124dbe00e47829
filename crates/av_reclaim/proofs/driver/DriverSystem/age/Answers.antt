use Rattle.av_mem.proofs.ReachLaws.{are-found, reaches-served}
use Rattle.av_mem.proofs.StayLaws.{parts-then}
use Rattle.av_mem.proofs.WalkLaws.{are-counted}
use Rattle.av_reclaim.proofs.LeavesMakes.{mem-leaves}
use Rattle.av_reclaim.proofs.SeenMakes.{aged-makes}
use Rattle.av_reclaim.proofs.driver.DriverSystem.age.Goals as goal

pub unsee-requires-clause-found : goal.unsee-requires-clause-found
unsee-requires-clause-found g c = are-found _ _ _ (reaches-served _ _ _ _ _ _ c.requires.2.2) c.args.frame

pub unsee-requires-clause-counted : goal.unsee-requires-clause-counted
unsee-requires-clause-counted g c = are-counted _ _ _ _ _ _ c.requires.1.in_order c.requires.2.2 c.args.frame

pub returns-clause-makes : goal.returns-clause-makes
returns-clause-makes g c = λ told. aged-makes _ _ _ _ _ c.args.frame c.unsee.ensures.unseen c.unsee.ensures.parts
    c.to_head.ensures.moved c.to_head.ensures.parts

pub returns-clause-stays : goal.returns-clause-stays
returns-clause-stays g c = λ told. mem-leaves _ _ _ _ (parts-then c.unsee.ensures.parts c.to_head.ensures.parts)
