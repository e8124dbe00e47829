use Rattle.av_swapcache.specs.Swap.{shown}
use Rattle.av_tests.proofs.SwapcacheLaws.{spare_kept, spare_put}
use Rattle.av_tests.proofs.swapcache.flies_over.Goals as goal

pub goes_over-requires : goal.goes_over-requires
goes_over-requires c = spare_kept 1 (shown c.put.new.self) (shown c.start.new.self) (λ i. (c.start.ensures.swap i).find)
    (spare_put c.in-Some.slot (shown c.args.swap.now) (shown c.put.new.self) (λ i. (c.in-Some.ensures.swap i).find) c.requires)
