use Rattle.std.proofs.Common.{◌≡◌, ℕ, suc, ◌+◌, ◌<◌, Bool, false, cond, List, ◌∷◌, length, drop, get_or, sym, ap, ◌∙◌, add-one, arith}
use Rattle.std.proofs.Math.Seq.{drop-cons}
use Rattle.av_frames.specs.declared.free_list.Place.{Place}
use Rattle.av_frames.specs.Free.{is_free, listed, place_of}
use Rattle.av_frames.proofs.free_list.first_free.Goals as goal

-- from a place on, by whether the frame there is free
from : (places : List Place) (queue : List ℕ) (at x : ℕ) (b : Bool) → at < length queue → x ≡ get_or queue at x → b ≡ is_free (place_of places x)
    → listed places (drop at queue) ≡ cond b (x ∷ listed places (drop (at + 1) queue)) (listed places (drop (at + 1) queue))
from places queue at x b below is free =
    ap (listed places) (drop-cons queue at x below ∙ ap (λ y. y ∷ drop (suc at) queue) (sym is) ∙ ap (λ n. x ∷ drop n queue) (sym (add-one at)))
    ∙ ap (λ d. cond d (x ∷ listed places (drop (at + 1) queue)) (listed places (drop (at + 1) queue))) (sym free)

pub loop-at-preserved : goal.loop-at-preserved
loop-at-preserved c =
    let below : c.loop-at.at < length c.args.queue.now.items =
    let a = c.loop-at-test.true in let b = c.len-at-end.ensures in let long = c.args.queue.now.ok.0 in omega (arith, a, b, long) in
    sym (from c.args.places.now c.args.queue.now.items c.loop-at.at c.index-frame.result.now false below c.index-frame.ensures (sym c.if-reads_free.false ∙ c.reads_free.ensures))
    ∙ c.loop-at.invariant
