-- The bytes from one place to another in a longer list, where the list or the places change.
use Rattle.std.proofs.Common.{◌≡◌, ℕ, ◌+◌, ◌-◌, ◌≤◌, List, ◌++◌, Option, length, take, drop, sym, ap, ◌∙◌, arith, length-take-le, length-drop}
use Rattle.std.proofs.lemmas.List.{drop-take, drop-drop}
use Rattle.av_io.specs.Source.{in_front, Took}
use Rattle.av_ports.proofs.Bytes.{in_front-then, take-add}

-- more was read behind them
pub front-more : (k n : ℕ) (old new kept : List ℕ) (before left : Option (List ℕ)) → take k old ≡ kept → take k new ≡ take k old →
    Took before left (take n (drop k new)) → in_front (take (k + n) new) left ≡ in_front kept before
front-more k n old new kept before left was same took =
    ap (λ (l : List ℕ). in_front l left) (take-add k n new ∙ ap (λ (l : List ℕ). l ++ take n (drop k new)) (same ∙ was))
    ∙ in_front-then kept (take n (drop k new)) left
    ∙ ap (in_front kept) (sym took)

-- fewer bytes in front of them
pub front-less : (start end count : ℕ) (items : List ℕ) → start ≤ end → end ≤ length items → count ≤ length (take (end - start) (drop start items)) →
    take (end - (start + count)) (drop (start + count) items) ≡ drop count (take (end - start) (drop start items))
front-less start end count items start_le end_le count_le =
    let len : length (take (end - start) (drop start items)) ≡ end - start =
    length-take-le (end - start) (drop start items) (omega (arith, length-drop start items)) in
    let whole : count + (end - (start + count)) ≡ end - start = omega (arith, len) in
    ap (λ (l : List ℕ). take (end - (start + count)) l) (sym (drop-drop count start items))
    ∙ sym (drop-take count (end - (start + count)) (drop start items))
    ∙ ap (λ (t : ℕ). drop count (take t (drop start items))) whole
