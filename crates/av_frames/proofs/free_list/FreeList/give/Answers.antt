use Rattle.std.proofs.Common.{◌≡◌, ℕ, ◌+◌, ◌<◌, ◌∷◌, slice_set, false, cond, ap, sym, subst, ◌∙◌, length, length-set, arith, deque_capacity}
use Rattle.av_base.specs.Words.{is_in, without}
use Rattle.av_frames.specs.declared.free_list.Place.TheVariants.{Free}
use Rattle.av_frames.specs.Free.{FreeFrames, is_out, listed, place_of}
use Rattle.av_frames.proofs.Free.{found, left_given, listed_given, none_given, room_given, whole_given}
use Rattle.av_frames.proofs.free_list.FreeList.give.Goals.{in-Left, in_default}
use Rattle.av_frames.proofs.free_list.FreeList.give.Goals as goal

pub overflow_sub-self : goal.overflow_sub-self
overflow_sub-self c = left_given _ _ _ _ c.self.invariant c.args.frame
    (sym (found _ _ _ _ c.self.invariant c.args.frame _ c.index.ensures
    (subst (λ (v : FreeFrames). c.args.frame < v.count) (sym c.self.view_is) c.requires.in_range)) ∙ c.in-Left.is)

pub push_front_reserved-requires : goal.push_front_reserved-requires
push_front_reserved-requires c =
    let f = c.args.frame in
    let s = c.self.inside in
    let m = c.match-index.self-inside in
    let below : f < length s.places.items = subst (λ (v : FreeFrames). f < v.count) (sym c.self.view_is) c.requires.in_range in
    let none : is_in f (listed s.places.items s.queue.items) ≡ false = subst (λ (v : FreeFrames). is_in f v.items ≡ false) (sym c.self.view_is) c.requires.not_free in
    let read = found _ _ _ _ c.self.invariant f _ c.index.ensures below in
    let items : m.queue.items ≡ without f s.queue.items = elim c.match-index.branch [
      | in-Left w ↦ ap (λ i. i.queue.items) w.self-inside-is ∙ w.remove.ensures.items
      | in_default w ↦ ap (λ i. i.queue.items) w.self-inside-is ∙ sym (none_given _ _ _ _ c.self.invariant f (λ e. w.in_default.not-Left (read ∙ e)) none).1
    ] in
    let wide : deque_capacity m.queue ≡ deque_capacity s.queue = elim c.match-index.branch [
      | in-Left w ↦ ap (λ i. deque_capacity i.queue) w.self-inside-is ∙ w.remove.ensures.capacity
      | in_default w ↦ ap (λ i. deque_capacity i.queue) w.self-inside-is
    ] in
    let long = m.queue.ok.0 in
    let short = room_given _ _ _ _ c.self.invariant f below none in
    let same = ap length items in
    let room = c.self.invariant.room in
    omega (arith, long, short, same, wide, room)

pub invariant_of-self : goal.invariant_of-self
invariant_of-self c =
    let f = c.args.frame in
    let s = c.self.inside in
    let m = c.match-index.self-inside in
    let below : f < length s.places.items = subst (λ (v : FreeFrames). f < v.count) (sym c.self.view_is) c.requires.in_range in
    let none : is_in f (listed s.places.items s.queue.items) ≡ false = subst (λ (v : FreeFrames). is_in f v.items ≡ false) (sym c.self.view_is) c.requires.not_free in
    let read = found _ _ _ _ c.self.invariant f _ c.index.ensures below in
    let items : m.queue.items ≡ without f s.queue.items = elim c.match-index.branch [
      | in-Left w ↦ ap (λ i. i.queue.items) w.self-inside-is ∙ w.remove.ensures.items
      | in_default w ↦ ap (λ i. i.queue.items) w.self-inside-is ∙ sym (none_given _ _ _ _ c.self.invariant f (λ e. w.in_default.not-Left (read ∙ e)) none).1
    ] in
    let wide : deque_capacity m.queue ≡ deque_capacity s.queue = elim c.match-index.branch [
      | in-Left w ↦ ap (λ i. deque_capacity i.queue) w.self-inside-is ∙ w.remove.ensures.capacity
      | in_default w ↦ ap (λ i. deque_capacity i.queue) w.self-inside-is
    ] in
    let places : m.places.items ≡ s.places.items = elim c.match-index.branch [
      | in-Left w ↦ ap (λ i. i.places.items) w.self-inside-is
      | in_default w ↦ ap (λ i. i.places.items) w.self-inside-is
    ] in
    let left : m.left + cond (is_out (place_of s.places.items f)) 0 1 ≡ s.left = elim c.match-index.branch [
      | in-Left w ↦
          let some = left_given _ _ _ _ c.self.invariant f (sym read ∙ w.in-Left.is) in
          let fewer = ap (λ i. i.left) w.self-inside-is in
          let one = ap {B = ℕ} (λ p. cond (is_out p) 0 1) (sym read ∙ w.in-Left.is) in
          omega (arith, some, fewer, one)
      | in_default w ↦
          let same = ap (λ i. i.left) w.self-inside-is in
          let zero = ap {B = ℕ} (λ b. cond b 0 1) (none_given _ _ _ _ c.self.invariant f (λ e. w.in_default.not-Left (read ∙ e)) none).0 in
          omega (arith, same, zero)
    ] in
    rw (c.push_front_reserved.ensures.items, items, places)
    (whole_given _ _ _ _ c.self.invariant f _ _ below none (c.push_front_reserved.ensures.capacity ∙ wide) left)

pub returns : goal.returns
returns c =
    let f = c.args.frame in
    let s = c.self.inside in
    let m = c.match-index.self-inside in
    let below : f < length s.places.items = subst (λ (v : FreeFrames). f < v.count) (sym c.self.view_is) c.requires.in_range in
    let none : is_in f (listed s.places.items s.queue.items) ≡ false = subst (λ (v : FreeFrames). is_in f v.items ≡ false) (sym c.self.view_is) c.requires.not_free in
    let read = found _ _ _ _ c.self.invariant f _ c.index.ensures below in
    let items : m.queue.items ≡ without f s.queue.items = elim c.match-index.branch [
      | in-Left w ↦ ap (λ i. i.queue.items) w.self-inside-is ∙ w.remove.ensures.items
      | in_default w ↦ ap (λ i. i.queue.items) w.self-inside-is ∙ sym (none_given _ _ _ _ c.self.invariant f (λ e. w.in_default.not-Left (read ∙ e)) none).1
    ] in
    let places : m.places.items ≡ s.places.items = elim c.match-index.branch [
      | in-Left w ↦ ap (λ i. i.places.items) w.self-inside-is
      | in_default w ↦ ap (λ i. i.places.items) w.self-inside-is
    ] in
    let count : length (slice_set m.places.items f Free) ≡ length s.places.items =
    ap (λ ps. length (slice_set ps f Free)) places ∙ length-set s.places.items f Free in
    let list : listed (slice_set m.places.items f Free) c.push_front_reserved.new.self.items ≡ f ∷ listed s.places.items s.queue.items =
    ap (λ ps. listed (slice_set ps f Free) c.push_front_reserved.new.self.items) places
    ∙ ap (listed (slice_set s.places.items f Free)) (c.push_front_reserved.ensures.items ∙ ap (λ xs. f ∷ xs) items)
    ∙ listed_given _ _ _ _ c.self.invariant f below none in
    rw (← c.self.view_is) (λ k. record { count = count k; items = list k })
