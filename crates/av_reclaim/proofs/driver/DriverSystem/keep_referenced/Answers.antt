use Rattle.std.proofs.lemmas.Bool.{MatchBool-at_false}
use Rattle.av_mem.proofs.ReachLaws.{are-found, reaches-served}
use Rattle.av_mem.proofs.StayLaws.{parts-then}
use Rattle.av_mem.proofs.WalkLaws.{are-counted}
use Rattle.av_reclaim.proofs.ReadLaws.{seen-is}
use Rattle.av_reclaim.proofs.SeenMakes.{seen-makes, unseen-makes}
use Rattle.av_reclaim.proofs.LeavesMakes.{mem-leaves}
use Rattle.av_reclaim.proofs.driver.DriverSystem.keep_referenced.Goals as goal

pub unsee-seen-requires-clause-found : goal.unsee-seen-requires-clause-found
unsee-seen-requires-clause-found g c = are-found _ _ _ (reaches-served _ _ _ _ _ _ c.requires.2.2) c.args.frame

pub unsee-seen-requires-clause-counted : goal.unsee-seen-requires-clause-counted
unsee-seen-requires-clause-counted g c = are-counted _ _ _ _ _ _ c.requires.1.in_order c.requires.2.2 c.args.frame

pub returns-then-seen-clause-is : goal.returns-then-seen-clause-is
returns-then-seen-clause-is g c = λ told l sound stood. seen-is _ _ _ _ _ l c.args.frame sound.in_order stood.2 _ c.unsee-seen.ensures.seen

pub returns-then-seen-clause-makes : goal.returns-then-seen-clause-makes
returns-then-seen-clause-makes g c = λ told. seen-makes _ _ c.args.self.now.mem.now c.unsee-seen.new.self c.args.frame c.unsee-seen.result
    c.unsee-seen.ensures.unseen c.unsee-seen.ensures.parts c.to_active.new.self c.if-seen.true c.to_active.ensures.moved c.to_active.ensures.parts

pub returns-then-seen-clause-stays : goal.returns-then-seen-clause-stays
returns-then-seen-clause-stays g c = λ told. mem-leaves _ _ _ _ (parts-then c.unsee-seen.ensures.parts c.to_active.ensures.parts)

pub returns-else-seen-clause-is : goal.returns-else-seen-clause-is
returns-else-seen-clause-is g c = λ told l sound stood. seen-is _ _ _ _ _ l c.args.frame sound.in_order stood.2 _ c.unsee-seen.ensures.seen

pub returns-else-seen-clause-makes : goal.returns-else-seen-clause-makes
returns-else-seen-clause-makes g c = λ told. unseen-makes _ _ c.args.self.now.mem.now c.unsee-seen.new.self c.args.frame c.unsee-seen.result
    c.unsee-seen.ensures.unseen c.unsee-seen.ensures.parts c.if-seen.false (MatchBool-at_false _ _ c.if-seen.false c.unsee-seen.ensures.seen)

pub returns-else-seen-clause-stays : goal.returns-else-seen-clause-stays
returns-else-seen-clause-stays g c = λ told. mem-leaves _ _ _ _ c.unsee-seen.ensures.parts
