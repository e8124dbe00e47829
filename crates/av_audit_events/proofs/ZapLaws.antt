-- Entries that go.
use Rattle.std.proofs.Common.{◌≡◌, ◌<◌, Option, Some, None, List, [], ◌∷◌, ◌++◌, length, refl, sym, ap, ◌∙◌, append_assoc, append-nil, arith}
use Rattle.av_base.specs.Keys.{Key}
use Rattle.av_trace.specs.declared.note.Note.{Note}
use Rattle.av_plain.specs.Event.{after_all, notes_of}
use Rattle.av_plain.specs.Ledger.{Entry, InFrame, InSlot, Ledger, Zero}
use Rattle.av_plain.specs.Zap.{slot_behind_key, zap_of, zaps_of}
use Rattle.av_audit_book.specs.Book.{without_entry}
use Rattle.av_plain.proofs.Access.{after_all-append, notes_of-append}

-- ---- one, and then the others

pub zap-then : (l now : Ledger) (k : Key) (ks : List Key) → now ≡ after_all l (zap_of l k)
    → after_all now (zaps_of now ks) ≡ after_all l (zaps_of l (k ∷ ks))
zap-then l now k ks is =
    ap (λ n. after_all n (zaps_of n ks)) is
    ∙ sym (after_all-append l (zap_of l k) (zaps_of (after_all l (zap_of l k)) ks))

pub zap-notes : (l now : Ledger) (k : Key) (ks : List Key) (told more : List Note) → now ≡ after_all l (zap_of l k)
    → more ≡ told ++ notes_of (zap_of l k)
    → more ++ notes_of (zaps_of now ks) ≡ told ++ notes_of (zaps_of l (k ∷ ks))
zap-notes l now k ks told more is added =
    (λ i. added i ++ notes_of (zaps_of (is i) ks))
    ∙ append_assoc told (notes_of (zap_of l k)) (notes_of (zaps_of (after_all l (zap_of l k)) ks))
    ∙ ap (λ ns. told ++ ns) (sym (notes_of-append (zap_of l k) (zaps_of (after_all l (zap_of l k)) ks)))

pub zaps-over : (l : Ledger) (ks : List Key) → length ks < 1 → l ≡ after_all l (zaps_of l ks)
zaps-over l [] h = refl
zaps-over l (k ∷ ks) h = absurd (omega (arith, h))

pub notes-over : (l : Ledger) (ks : List Key) (told : List Note) → length ks < 1 → told ≡ told ++ notes_of (zaps_of l ks)
notes-over l [] told h = sym (append-nil told)
notes-over l (k ∷ ks) told h = absurd (omega (arith, h))

-- what an entry leaves behind lies in the cache, which stays where an entry goes
pub behind-stays : (l : Ledger) (k : Key) (o : Option Entry) → slot_behind_key (without_entry k l) o ≡ slot_behind_key l o
behind-stays l k None = refl
behind-stays l k (Some Zero) = refl
behind-stays l k (Some (InFrame f seen)) = refl
behind-stays l k (Some (InSlot s)) = refl
