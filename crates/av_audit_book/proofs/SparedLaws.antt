-- What a pass leaves alone is what the definitions say, by what is kept of the processes.
use Rattle.std.proofs.Common.{◌≡◌, ℕ, Bool, true, false, ◌||◌, List, [], ◌∷◌, length, refl, sym, ◌∙◌, arith}
use Rattle.std.specs.BTreeMap.{is_at}
use Rattle.std.specs.BTreeSet.{BTreeSet, contains}
use Rattle.std.specs.List.{list_any}
use Rattle.std.specs.Ordering.{nat_cmp}
use Rattle.av_base.specs.Keys.{Key}
use Rattle.av_plain.specs.Fault.{is_locked}
use Rattle.av_plain.specs.Ledger.{Ledger, walk}
use Rattle.av_plain.specs.World.{World}
use Rattle.av_audit_world.specs.Locks.{locks_page}
use Rattle.av_audit_world.specs.Memories.{IsWorld}
use Rattle.av_audit_world.specs.declared.memories.Memories.{Memories}
use Rattle.av_audit_world.proofs.LockLaws.{locks-is}
use Rattle.av_audit_book.specs.Spared.{is_locked_by, spared_of}
use Rattle.av_audit_book.specs.declared.spared.Spared.{Spared}

-- no page is locked where no process is noted
pub none-locked : (memories : Memories) (locking : BTreeSet ℕ) → length locking.keys ≡ 0
    → ((k : Key) → locks_page memories k ≡ true → contains nat_cmp locking k.0 ≡ true) → (keys : List Key)
    → list_any (locks_page memories) keys ≡ false
none-locked memories locking empty noted [] = refl
none-locked memories locking empty noted (k ∷ keys) =
    (λ i. none (locks_page memories k) (noted k) i || none-locked memories locking empty noted keys i)
  where
    no-key : (ks : List ℕ) → length ks ≡ 0 → list_any (is_at (nat_cmp k.0)) ks ≡ false
    no-key [] h = refl
    no-key (q ∷ qs) h = absurd (omega (arith, h))

    none : (b : Bool) → (b ≡ true → contains nat_cmp locking k.0 ≡ true) → b ≡ false
    none true h = sym (h refl) ∙ no-key locking.keys empty
    none false h = refl

-- frames of locked pages
pub locked-is : (memories : Memories) (w : World) → IsWorld memories w → (l : Ledger) → is_locked_by memories l ≡ is_locked w l
locked-is memories w h l = λ i f. list_any (λ (k : Key). locks-is memories w h k i) (walk l f)

-- and all that is left alone
pub spared-is : (s : Spared) (w : World) → IsWorld s.memories.now w → (l : Ledger)
    → spared_of s l ≡ record { pinned = s.pinned; locked = is_locked w l; closing = s.closing }
spared-is s w h l = λ i. record { pinned = s.pinned; locked = locked-is s.memories.now w h l i; closing = s.closing }
