use Rattle.std.proofs.Common.{◌≡◌, ℕ, ◌+◌, ◌<◌, Bool, true, false, not, cond, List, [], ◌∷◌, ◌++◌, length, length-set, refl, sym, ap, ◌∙◌, arith, subst}
use Rattle.std.proofs.lemmas.List.{append-nil}
use Rattle.std.specs.List.{range_with_len}
use Rattle.std.specs.VecDeque.{deque_len, deque_capacity}
use Rattle.av_frames.specs.declared.free_list.Place.{Place}
use Rattle.av_frames.specs.declared.free_list.Place.TheVariants.{Free, Used, Left}
use Rattle.av_frames.specs.Free.{is_free, is_out, listed, place_of}
use Rattle.av_frames.proofs.Free.{any_default, filter_next, keeps_free, keeps_out, out-more}
use Rattle.av_frames.proofs.free_list.list_free.Goals.{in-Free, in_default}
use Rattle.av_frames.proofs.free_list.list_free.Goals as goal

-- the numbers below one more, by what was kept of the last
next : (old : List Place) (n : ℕ) (b : Bool) → is_free (place_of old n) ≡ b
    → listed old (range_with_len 0 (n + 1)) ≡ listed old (range_with_len 0 n) ++ cond b (n ∷ []) []
next old n b is =
    filter_next (λ f. is_free (place_of old f)) n (n + 1) refl
    ∙ ap (λ d. listed old (range_with_len 0 n) ++ cond d (n ∷ []) []) is

other : (p : Place) → (p ≡ Free → ⊥) → is_free p ≡ false
other Free h = absurd (h refl)
other Used h = refl
other Left h = refl

pub loop-frame-preserved : goal.loop-frame-preserved
loop-frame-preserved c =
    let old = c.args.places.now in
    let n = c.loop-frame.frame in
    let kept = c.loop-frame.invariant in
    let few = kept.few in
    let below : n < length c.loop-frame.places = let a = c.loop-frame-test.true in let b = kept.len in omega (arith, a, b) in
    elim c.match-places-frame.branch [
      | in-Free w ↦
          let len = w.push_back_reserved.ensures.len in
          let same = ap deque_len w.queue-is in
          let is : place_of c.loop-frame.places n ≡ Free = any_default c.loop-frame.places n Used Free below ∙ w.in-Free.is in record {
            items = ap (λ q. q.items) w.queue-is ∙ w.push_back_reserved.ensures.items ∙ ap (λ xs. xs ++ n ∷ []) kept.items
                ∙ sym (next old n true (sym (kept.free n) ∙ ap is_free is));
            few = omega (arith, few, len, same);
            capacity = ap deque_capacity w.queue-is ∙ w.push_back_reserved.ensures.capacity ∙ kept.capacity;
            len = ap length w.places-is ∙ kept.len;
            free = λ f. ap (λ ps. is_free (place_of ps f)) w.places-is ∙ kept.free f;
            out = subst (λ ps. (f : ℕ) → f < n + 1 → is_out (place_of ps f) ≡ not (is_free (place_of ps f))) (sym w.places-is)
                (out-more c.loop-frame.places n is kept.out);
          }
      | in_default w ↦
          let same = ap deque_len w.queue-is in
          let is : is_free (place_of c.loop-frame.places n) ≡ false =
          ap is_free (any_default c.loop-frame.places n Used Free below) ∙ other _ w.in_default.not-Free in record {
            items = ap (λ q. q.items) w.queue-is ∙ kept.items ∙ sym (next old n false (sym (kept.free n) ∙ is) ∙ append-nil _);
            few = omega (arith, few, same);
            capacity = ap deque_capacity w.queue-is ∙ kept.capacity;
            len = ap length w.places-is ∙ length-set c.loop-frame.places n Used ∙ kept.len;
            free = λ f. ap (λ ps. is_free (place_of ps f)) w.places-is ∙ keeps_free c.loop-frame.places n below is f ∙ kept.free f;
            out = subst (λ ps. (f : ℕ) → f < n + 1 → is_out (place_of ps f) ≡ not (is_free (place_of ps f))) (sym w.places-is)
                (keeps_out c.loop-frame.places n below kept.out);
          }
    ]
