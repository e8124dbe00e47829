-- What is kept of entries and cached pairs is the ledger's.
use Rattle.std.proofs.Common.{◌≡◌, ℕ, List, [], ◌∷◌, map, filter, Bool, true, false, not, cond, ◌==◌, refl, ap, ◌∙◌}
use Rattle.std.specs.Map.{keys_of}
use Rattle.av_base.specs.declared.slot.Slot.{Slot}
use Rattle.av_base.specs.Keys.{Key}
use Rattle.av_plain.specs.Ledger.{Cached as PlainCached, Entry as PlainEntry, names_frame, same_slot}
use Rattle.std.specs.Prelude.{◌&&◌}
use Rattle.av_base.specs.Words.{renamed}
use Rattle.av_plain.specs.Event.{placed_entry, without_seen}
use Rattle.av_plain.specs.Ledger.{InFrame as PlainInFrame, InSlot as PlainInSlot}
use Rattle.av_audit_pages.specs.Entries.{cached_of, entries_of, entry_of, with_frame_at, with_slot, without_seen_of}
use Rattle.av_audit_pages.specs.declared.entries.Entry.TheVariants.{InFrame, InSlot, Zero}
use Rattle.av_audit_pages.specs.Entries.{changed_pair, stale_at}
use Rattle.av_audit_pages.specs.declared.changes.PairChange.TheVariants.{Stale}
use Rattle.av_audit_pages.specs.declared.entries.Cached.{Cached}
use Rattle.av_audit_pages.specs.declared.entries.Entry.{Entry}

-- each entry is changed
pub change-entries : (g : Entry → Entry) (change : PlainEntry → PlainEntry) → ((e : Entry) → entry_of (g e) ≡ change (entry_of e))
    → (es : List (Key × Entry)) → entries_of (map (λ e. (e.0, g e.1)) es) ≡ map (λ e. (e.0, change e.1)) (entries_of es)
change-entries g change same [] = refl
change-entries g change same (e ∷ es) = λ i. (e.0, same e.1 i) ∷ change-entries g change same es i

-- a cached pair that is left out
pub filter-cached : (p : Cached → Bool) (q : PlainCached → Bool) → ((c : Cached) → p c ≡ q (cached_of c)) → (cs : List Cached)
    → map cached_of (filter p cs) ≡ filter q (map cached_of cs)
filter-cached p q same [] = refl
filter-cached p q same (c ∷ cs) = ap (λ b. map cached_of (cond b (c ∷ filter p cs) (filter p cs))) (same c)
    ∙ by (q (cached_of c)) (filter-cached p q same cs)
  where
    by : (b : Bool) → map cached_of (filter p cs) ≡ filter q (map cached_of cs)
        → map cached_of (cond b (c ∷ filter p cs) (filter p cs))
        ≡ cond b (cached_of c ∷ filter q (map cached_of cs)) (filter q (map cached_of cs))
    by true rest = ap (λ r. cached_of c ∷ r) rest
    by false rest = rest

-- ---- entries that are changed

pub unseen-is : (f : ℕ) (e : Entry) → entry_of (without_seen_of f e) ≡ cond (names_frame f (entry_of e)) (without_seen (entry_of e)) (entry_of e)
unseen-is f Zero = refl
unseen-is f (InFrame g seen) = by (f == g)
  where
    by : (b : Bool) → PlainInFrame g (not b && seen) ≡ cond b (PlainInFrame g false) (PlainInFrame g seen)
    by true = refl
    by false = refl
unseen-is f (InSlot s) = refl

pub slot-is : (f : ℕ) (s : Slot) (e : Entry) → entry_of (with_slot f s e) ≡ cond (names_frame f (entry_of e)) (PlainInSlot s) (entry_of e)
slot-is f s Zero = refl
slot-is f s (InFrame g seen) = by (f == g)
  where
    by : (b : Bool) → entry_of (cond b (InSlot s) (InFrame g seen)) ≡ cond b (PlainInSlot s) (PlainInFrame g seen)
    by true = refl
    by false = refl
slot-is f s (InSlot t) = refl

-- ---- entries at other places

pub place-is : (from to : ℕ) (e : Entry) → entry_of (with_frame_at from to e) ≡ placed_entry (renamed from to) (entry_of e)
place-is from to Zero = refl
place-is from to (InFrame f seen) = refl
place-is from to (InSlot s) = refl

-- ---- keys

pub keys-are : (es : List (Key × Entry)) → map (λ e. e.0) (entries_of es) ≡ map (λ e. e.0) es
keys-are [] = refl
keys-are (e ∷ es) = ap (λ ks. e.0 ∷ ks) (keys-are es)

-- ---- cached pairs that are changed

pub change-pairs : (g : Cached → Cached) (h : PlainCached → PlainCached) → ((c : Cached) → cached_of (g c) ≡ h (cached_of c))
    → (cs : List Cached) → map cached_of (map g cs) ≡ map h (map cached_of cs)
change-pairs g h same [] = refl
change-pairs g h same (c ∷ cs) = λ i. same c i ∷ change-pairs g h same cs i

pub stale-is : (stale : Bool) (s : Slot) (c : Cached) → cached_of (changed_pair (Stale s stale) c) ≡ stale_at stale s (cached_of c)
stale-is stale s c = by (same_slot s c.slot)
  where
    by : (b : Bool) → cached_of (cond b (record c { stale = stale }) c) ≡ cond b (record (cached_of c) { stale = stale }) (cached_of c)
    by true = refl
    by false = refl

-- the keys of the entries that pass a test
pub passing-keys : (p : PlainEntry → Bool) (es : List (Key × Entry)) → keys_of (filter (λ (e : Key × Entry). p (entry_of e.1)) es)
    ≡ map (λ e. e.0) (filter (λ (e : Key × PlainEntry). p e.1) (entries_of es))
passing-keys p [] = refl
passing-keys p (e ∷ es) = by (p (entry_of e.1)) (passing-keys p es)
  where
    rest : List (Key × Entry)
    rest = filter (λ (e : Key × Entry). p (entry_of e.1)) es

    says : List (Key × PlainEntry)
    says = filter (λ (e : Key × PlainEntry). p e.1) (entries_of es)

    by : (b : Bool) → keys_of rest ≡ map (λ e. e.0) says
        → keys_of (cond b (e ∷ rest) rest) ≡ map (λ (e : Key × PlainEntry). e.0) (cond b ((e.0, entry_of e.1) ∷ says) says)
    by true h = ap (λ ks. e.0 ∷ ks) h
    by false h = h
