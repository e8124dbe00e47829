use Rattle.std.proofs.Common.{◌≡◌, true, sym, subst, length-set, refl, arith}
use Rattle.av_base.specs.Words.{is_in}
use Rattle.av_frames.specs.declared.free_list.Place.TheVariants.{Left}
use Rattle.av_frames.specs.Free.{FreeFrames}
use Rattle.av_frames.proofs.Free.{in_range_listed, listed-out, whole_out}
use Rattle.av_frames.proofs.free_list.FreeList.take_out.Goals as goal

pub index_mut-requires : goal.index_mut-requires
index_mut-requires c =
    let below = in_range_listed _ _ _ _ c.self.invariant c.args.frame
    (subst (λ (v : FreeFrames). is_in c.args.frame v.items ≡ true) (sym c.self.view_is) c.requires) in
    let long = c.self.inside.places.ok.0 in
    omega (arith, below, long)

pub invariant_of-self : goal.invariant_of-self
invariant_of-self c = whole_out _ _ _ _ c.self.invariant c.args.frame
    (subst (λ (v : FreeFrames). is_in c.args.frame v.items ≡ true) (sym c.self.view_is) c.requires)

pub returns : goal.returns
returns c =
    let s = c.self.inside in
    let below = in_range_listed _ _ _ _ c.self.invariant c.args.frame
    (subst (λ (v : FreeFrames). is_in c.args.frame v.items ≡ true) (sym c.self.view_is) c.requires) in
    rw (← c.self.view_is) (λ k. record {
      count = length-set s.places.items c.args.frame Left k;
      items = listed-out s.places.items c.args.frame Left s.queue.items below refl k;
    })
