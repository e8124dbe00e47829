-- What holds numbers is in order.
use Rattle.std.proofs.Common.{◌≡◌, ℕ, List, [], subst}
use Rattle.std.specs.List.Sorted.{IsStrictlySortedBy}
use Rattle.av_audit_index.specs.Holders.{AreHolders, KeysRise}
use Rattle.av_audit_index.specs.Holding.{Holding}

-- nothing holds a number
pub none-hold : AreHolders []
unfolding IsStrictlySortedBy
none-hold = record { rising = tt; keys_rise = λ n. tt; used = λ n h is. cc }

-- the keys of each number rise
pub rise : (es now : List (ℕ × Holding)) → es ≡ now → AreHolders es → KeysRise now
rise es now seen are = subst KeysRise seen are.keys_rise
