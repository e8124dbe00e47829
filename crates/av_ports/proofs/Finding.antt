-- Where the first newline stands.
use Rattle.std.proofs.Common.{suc, ◌≡◌, ℕ, ◌+◌, ◌<◌, ◌≤◌, List, ◌∷◌, ◌++◌, length, take, drop, get_or, sym, ap, subst, ◌∙◌, arith, length-take-le, drop-cons}
use Rattle.std.proofs.lemmas.Bool.{eq-eqb, eqb-true}
use Rattle.std.proofs.lemmas.List.{get_or-take, take-append-drop, take_all}
use Rattle.std.proofs.lemmas.List.Elements.{All-from_get_or}
use Rattle.memchr.specs.Find.{Nowhere, NoneBefore, Passes, is_byte}
use Rattle.av_ports.specs.Line.{IsNoNewline, HasNoNewline, IsLine, IsTooLong, HasLine}

-- no byte up to a place is a newline
none_up_to : (size most : ℕ) (bytes : List ℕ) → size ≤ most → most ≤ length bytes → Nowhere (Passes (is_byte 10) (take most bytes)) 0 size →
    HasNoNewline (take size bytes)
none_up_to size most bytes le within nowhere =
    let len : length (take size bytes) ≡ size = length-take-le size bytes (omega arith) in
    All-from_get_or IsNoNewline (take size bytes) 0 (λ i lt e.
    let lt' : i < size = omega (arith, len) in
    nowhere i (omega arith) lt' (eq-eqb _ 10 (get_or-take most bytes i 0 (omega arith) ∙ sym (get_or-take size bytes i 0 lt') ∙ e)))

pub found : (bytes : List ℕ) (most size : ℕ) → most ≤ length bytes → most ≤ 8449 →
    NoneBefore (Passes (is_byte 10) (take most bytes)) 0 (length (take most bytes)) size → Passes (is_byte 10) (take most bytes) size
    → HasLine size bytes
found bytes most size within short before passes =
    let len : length (take most bytes) ≡ most = length-take-le most bytes within in
    let lt : size < most = omega (arith, before.high, len) in
    let is_newline : get_or bytes size 0 ≡ 10 = sym (get_or-take most bytes size 0 lt) ∙ eqb-true _ 10 passes in
    let next : suc size ≡ size + 1 = omega arith in
    record {
      line = record {
        one = none_up_to size most bytes (omega arith) within before.before;
        short =
            omega (arith, length-take-le size bytes (omega arith));
      };
      within = omega arith;
      newline = sym (take-append-drop size bytes) ∙ ap (λ (l : List ℕ). take size bytes ++ l)
          (drop-cons bytes size 0 (omega arith) ∙ ap (λ (k : ℕ). get_or bytes size 0 ∷ drop k bytes) next
          ∙ ap (λ (b : ℕ). b ∷ drop (size + 1) bytes) is_newline);
    }

pub too_long : (bytes : List ℕ) (most : ℕ) → most ≤ length bytes → most ≡ 8449
    → Nowhere (Passes (is_byte 10) (take most bytes)) 0 (length (take most bytes)) →
    IsTooLong bytes
too_long bytes most within is nowhere =
    let len : length (take most bytes) ≡ most = length-take-le most bytes within in
    record { one = none_up_to 8449 most bytes (omega arith) within (λ k low high. nowhere k low (omega (arith, len))); long = omega arith }

pub part : (bytes : List ℕ) (most : ℕ) → most ≡ length bytes → most ≤ 8448 →
    Nowhere (Passes (is_byte 10) (take most bytes)) 0 (length (take most bytes)) → IsLine bytes
part bytes most is short nowhere =
    let len : length (take most bytes) ≡ most = length-take-le most bytes (omega arith) in
    let one = none_up_to most most bytes (omega arith) (omega arith) (λ k low high. nowhere k low (omega (arith, len))) in
    record { one = subst (λ (l : List ℕ). HasNoNewline l) (take_all most bytes (omega arith)) one; short = omega arith }
