use Rattle.std.proofs.Common.{◌≡◌, ℕ, ◌++◌, List, filter, length, take, drop, sym, subst, ap, ◌∙◌, arith, deque_capacity}
use Rattle.std.proofs.Math.Seq.{take-append_seam}
use Rattle.std.specs.List.{range_with_len}
use Rattle.av_base.specs.Words.{is_in}
use Rattle.av_frames.specs.declared.free_list.Place.{Place}
use Rattle.av_frames.specs.Free.{IsListed, is_free, listed, place_of}
use Rattle.av_frames.proofs.Free.{has_is, same_free, twice, whole_sorted}
use Rattle.av_frames.proofs.free_list.FreeList.order.Goals as goal

-- what was written over a list as long is there instead
over : (n : ℕ) (new old : List Place) → n ≡ length new → take n (new ++ drop (length new) old) ≡ new
over n new old long = ap (λ m. take m (new ++ drop (length new) old)) long ∙ take-append_seam new (drop (length new) old)

-- the list in order, by the places that are kept then
sorted : (queue : List ℕ) (old new : List Place) → queue ≡ listed old (range_with_len 0 (length old)) → length new ≡ length old
    → ((f : ℕ) → is_free (place_of new f) ≡ is_free (place_of old f)) → queue ≡ listed new (range_with_len 0 (length new))
sorted queue old new is len same =
    is ∙ same_free old new (λ f. sym (same f)) (range_with_len 0 (length old)) ∙ ap (λ n. listed new (range_with_len 0 n)) (sym len)

pub invariant_of-self : goal.invariant_of-self
invariant_of-self c =
    let s = c.self.inside in
    let e = c.list_free.ensures in
    let new = c.list_free.new.places in
    let same = ap length c.deref_mut.ensures.value in
    let len = e.len in
    let few = c.self.invariant.few in
    let room = c.self.invariant.room in
    let wide = e.capacity in
    let long = s.places.ok.0 in
    subst (λ ps. IsListed c.list_free.new.queue.items (deque_capacity c.list_free.new.queue) ps 0)
    (sym (over s.places.len new s.places.items (omega (arith, long, len, same))))
    (subst (λ xs. IsListed xs (deque_capacity c.list_free.new.queue) new 0)
    (sym (sorted c.list_free.new.queue.items c.deref_mut.result.now new e.items e.len e.free))
    (whole_sorted new _ (omega (arith, few, len, same)) (omega (arith, room, len, same, wide)) e.out))

pub returns : goal.returns
returns c =
    let s = c.self.inside in
    let e = c.list_free.ensures in
    let new = c.list_free.new.places in
    let queue = c.list_free.new.queue.items in
    let same = ap length c.deref_mut.ensures.value in
    let len = e.len in
    let long = s.places.ok.0 in
    let exact = over s.places.len new s.places.items (omega (arith, long, len, same)) in
    let count : length (take s.places.len (new ++ drop (length new) s.places.items)) ≡ length s.places.items = ap length exact ∙ len ∙ same in
    let free : (f : ℕ) → is_free (place_of new f) ≡ is_in f (listed s.places.items s.queue.items) =
    λ f. e.free f ∙ ap (λ ps. is_free (place_of ps f)) c.deref_mut.ensures.value ∙ has_is _ _ _ _ c.self.invariant f in
    let items : listed (take s.places.len (new ++ drop (length new) s.places.items)) queue
    ≡ filter (λ f. is_in f (listed s.places.items s.queue.items)) (range_with_len 0 (length s.places.items)) =
    ap (λ ps. listed ps queue) exact ∙ ap (listed new) (sorted queue c.deref_mut.result.now new e.items e.len e.free)
    ∙ twice (λ f. is_free (place_of new f)) (range_with_len 0 (length new))
    ∙ (λ k. filter (λ f. free f k) (range_with_len 0 (length new)))
    ∙ ap (λ n. filter (λ f. is_in f (listed s.places.items s.queue.items)) (range_with_len 0 n)) (len ∙ same) in
    rw (← c.self.view_is) (λ k. record { count = count k; items = items k })
