-- Pages that are read or written without a frame being taken.
use Rattle.std.specs.Prelude.{◌≡◌, ℕ, Bool, true, false, Option, Some, None}
use Rattle.std.specs.List.{AllByRecursion}
use Rattle.av_plain.specs.Access.{pages_of_access}
use Rattle.av_plain.specs.Fault.{asks_copy, need, wants_frame}
use Rattle.av_plain.specs.Ledger.{Entry, InFrame, InSlot, Ledger, Zero, entry}

-- none of the pages of a read or a write of n bytes wants a frame: a read wants one where the page
-- is on the device alone; a write also where it has no frame, or another entry names its frame
abbrev pub NoneWantsFrame : Bool → Ledger → ℕ → ℕ → ℕ → Type 0
NoneWantsFrame write l p a n =
    AllByRecursion (λ (x : Bool × ℕ). wants_frame (need write l (entry l (p, x.1))) ≡ false)
    (pages_of_access write a n)

-- an entry that a write leaves where it is: a frame that isn't shared
abbrev pub IsInPlace : Ledger → Option Entry → Type 0
IsInPlace l None = ⊥
IsInPlace l (Some Zero) = ⊥
IsInPlace l (Some (InFrame f seen)) = asks_copy l f ≡ false
IsInPlace l (Some (InSlot s)) = ⊥

-- each page of a write of n bytes has such an entry
abbrev pub AreInPlace : Ledger → ℕ → ℕ → ℕ → Type 0
AreInPlace l p a n =
    AllByRecursion (λ (x : Bool × ℕ). IsInPlace l (entry l (p, x.1))) (pages_of_access true a n)
