-- Keys are in order, and two that the order doesn't tell apart are one.
use Rattle.std.proofs.Common.{◌≡◌, true, arith}
use Rattle.std.proofs.lemmas.Bool.Decides.{nat_tests}
use Rattle.std.proofs.lemmas.Cmp.{on_total, then_total}
use Rattle.std.specs.Cmp.{IsTotalOrder, eq_by_cmp_equiv, nat_cmp_total}
use Rattle.av_base.specs.Keys.{Key, key_cmp, same_key}

pub keys_total : IsTotalOrder key_cmp
keys_total = then_total (on_total (λ k. k.0) nat_cmp_total) (on_total (λ k. k.1) nat_cmp_total)

pub same_key-is : (q k : Key) → same_key q k ≡ true → q ≡ k
same_key-is q k h = λ i. (first i, second i)
  where
    first : q.0 ≡ k.0
    first = grind (arith, nat_tests, h)

    second : q.1 ≡ k.1
    second = grind (arith, nat_tests, h)

pub same_key-itself : (k : Key) → same_key k k ≡ true
same_key-itself k = (eq_by_cmp_equiv keys_total).refl k
