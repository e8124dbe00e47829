use Rattle.std.proofs.Common.{◌∷◌, ap, sym, ◌∙◌, length-set}
use Rattle.av_base.specs.Words.{is_in}
use Rattle.av_frames.specs.declared.free_list.Place.TheVariants.{Used}
use Rattle.av_frames.proofs.Free.{all_listed, front_listed, in_range_listed, listed_taken, not_in, whole_taken}
use Rattle.av_frames.proofs.free_list.FreeList.take.Goals as goal

pub invariant_of-self-2 : goal.invariant_of-self-2
invariant_of-self-2 c = whole_taken _ _ _ _ c.self.invariant c.in_ok-frame.frame c.pop_front.new.self.items _ c.if-self-gt0.false c.in_ok-frame.ensures.items
    c.pop_front.ensures.capacity

pub returns : goal.returns
returns c =
    let s = c.self.inside in
    let f = c.in_ok-frame.frame in
    let rest = c.pop_front.new.self.items in
    let front = front_listed _ _ _ _ c.self.invariant f rest c.if-self-gt0.false c.in_ok-frame.ensures.items in
    let taken = listed_taken _ _ _ _ c.self.invariant f rest c.if-self-gt0.false c.in_ok-frame.ensures.items in
    rw (← c.self.view_is) (
      all_listed _ _ _ _ c.self.invariant c.if-self-gt0.false ∙ c.in_ok-frame.ensures.items ∙ ap (λ xs. f ∷ xs) (sym taken),
      in_range_listed _ _ _ _ c.self.invariant f front.0,
      ap (is_in f) taken ∙ not_in f rest front.1,
      length-set s.places.items f Used,
    )
