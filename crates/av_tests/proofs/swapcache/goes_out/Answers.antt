use Rattle.std.proofs.Common.{sym, subst, ◌∙◌}
use Rattle.av_swapcache.specs.Swap.{HasAreas, shown}
use Rattle.av_tests.proofs.SwapcacheLaws.{areas_kept, spare_kept, spare_put}
use Rattle.av_tests.proofs.swapcache.goes_out.Goals as goal

pub returns : goal.returns
returns g c = record {
  areas = subst (λ sizes. HasAreas sizes (shown c.drop_slot.new.swap)) (sym c.write.ensures.same_sizes)
      (areas_kept _ (shown c.args.swap.now) (shown c.drop_slot.new.swap)
      (c.drop_slot.ensures.same_on ∙ c.write.ensures.kept.1 ∙ c.name.ensures.kept.1 ∙ (λ i. (c.in_ok-slot.ensures.swap i).on)) c.requires.areas);
  spare = c.drop_slot.ensures.spare 1 (spare_kept 1 (shown c.put.new.self) (shown c.write.new.swap) (c.write.ensures.kept.0 ∙ c.name.ensures.kept.0)
      (spare_put c.in_ok-slot.slot (shown c.args.swap.now) (shown c.put.new.self) (λ i. (c.in_ok-slot.ensures.swap i).find) c.requires.uncached));
}
