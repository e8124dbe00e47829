use Rattle.std.proofs.Common.{◌<◌, sym, subst}
use Rattle.std.specs.List.{AllByRecursion}
use Rattle.av_base.specs.Keys.{Key}
use Rattle.av_base.specs.Limits.{top_page}
use Rattle.av_rmap.specs.Sorted.{AreRising}
use Rattle.av_rmap.specs.Walk.{AreItsEntries, names_slot}
use Rattle.av_evict.specs.System.{any_slot}
use Rattle.av_swap_laws.proofs.From.{cached-in_range}
use Rattle.av_mem.specs.Chains.{reach}
use Rattle.av_mem.proofs.ReachLaws.{reaches-served, slot-reached}
use Rattle.av_mem.proofs.WalkLaws.{if_both, slot-below, slot-few, slot-found}
use Rattle.av_swapoff.proofs.driver.DriverSlotSystem.namers.Goals as goal

pub namers-requires-clause-in_range : goal.namers-requires-clause-in_range
namers-requires-clause-in_range g c = cached-in_range _ any_slot c.requires.0 c.requires.1 c.args.frame c.args.slot c.requires.3

pub namers-requires-clause-reached : goal.namers-requires-clause-reached
namers-requires-clause-reached g c = slot-reached _ _ _ (reaches-served _ _ _ _ _ _ c.requires.2.2) c.args.slot c.args.frame c.requires.3

pub namers-requires-clause-count : goal.namers-requires-clause-count
namers-requires-clause-count g c = slot-few _ _ _ _ _ _ c.requires.1.in_order c.requires.2.2 c.args.slot

pub returns-clause-keys : goal.returns-clause-keys
returns-clause-keys g c = if_both c.namers.result (λ keys. AreItsEntries (reach c.args.self.now.mem.now) (names_slot c.args.slot) keys.items)
    (λ keys. AreRising keys.items) _ (λ keys its rising told l sound stood.
    slot-found _ _ _ _ _ l sound.in_order stood.2 c.args.slot keys.items its rising) c.namers.ensures.entries c.namers.ensures.rising

pub returns-clause-below : goal.returns-clause-below
returns-clause-below g c = if_both c.namers.result (λ keys. AreItsEntries (reach c.args.self.now.mem.now) (names_slot c.args.slot) keys.items)
    (λ keys. AreRising keys.items) (λ keys. AllByRecursion (λ (key : Key). key.1 < top_page) keys.items) (λ keys its rising.
    subst (AllByRecursion (λ (key : Key). key.1 < top_page))
    (sym (slot-found _ _ _ _ _ c.requires.0 c.requires.1.in_order c.requires.2.2 c.args.slot keys.items its rising))
    (slot-below _ _ _ _ _ c.requires.0 c.requires.1.in_order c.requires.2.2 c.args.slot c.namers.ensures.laid))
    c.namers.ensures.entries c.namers.ensures.rising
