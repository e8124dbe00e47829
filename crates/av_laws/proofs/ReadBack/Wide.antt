-- A ledger with numbers of 64 bits stays one after each note that has such numbers. A sound one has them where its setting does.
use Rattle.std.specs.List.{AllByRecursion}
use Rattle.std.specs.FinMap.Entries.{find, put, where_key, by_order, is_some-find}
use Rattle.std.specs.declared.cmp.Ordering.{Ordering}
use Rattle.std.specs.declared.cmp.Ordering.TheVariants.{Less, Equal, Greater}
use Rattle.std.proofs.Common.{◌≡◌, ℕ, zero, suc, ◌+◌, ◌<◌, Bool, true, false, cond, not, ◌&&◌, ◌==◌, nat_lt, List, [], ◌∷◌, ◌++◌, map, filter, take, reverse, Option, Some, None, option_map, refl, ◌∙◌, arith}
use Rattle.std.proofs.lemmas.Bool.Decides.{nat_tests}
use mathlib.Core.List.{reverse_aux}
use Rattle.av_base.specs.Keys.{Key, key_cmp, same_key}
use Rattle.av_base.specs.Page.{address_of, page_of}
use Rattle.av_base.specs.Words.{how_many, renamed, without}
use Rattle.av_base.specs.declared.slot.Slot.{Slot}
use Rattle.av_text.specs.Number.{IsWide}
use Rattle.av_trace.specs.Note.{IsNote, IsSlot}
use Rattle.av_trace.specs.Reply.{IfThere}
use Rattle.av_trace.specs.declared.note.Cause.TheVariants.{Ksm, Locked, NoSlot, Referenced, WriteStarted, Writeback}
use Rattle.av_trace.specs.declared.note.Note.{Note}
use Rattle.av_trace.specs.declared.note.Note.TheVariants.{Aged, Copied, Dropped, Failed, Kept, Loaded, Mapped, New, Put, Started, Unmapped, Written, Zeroed, Joined, Moved, Shared}
use Rattle.av_plain.specs.Event.{after_note, after_notes, after_use, after_use_of, after_zap, change_entries, change_frame, if_some, into_cache, off_cache, off_flight, off_lists, placed_entry, set_entry, settle, settle_entry, to_active, to_inactive_head, to_inactive_tail, with_stale, without_seen}
use Rattle.av_plain.specs.Ledger.{Cached, Entry, InFrame, InSlot, Ledger, Setting, Zero, cached_by, entry, frame_at, is_free, is_on, is_usable, names_frame, names_slot, same_slot, size_of, slot_of}
use Rattle.av_plain.specs.Sound.{AllSound, count, slots, uses}
use Rattle.av_plain.specs.World.{World}
use Rattle.av_plain.proofs.Ledger.Walk.{all-listed}
use Rattle.av_plain.proofs.Sound.Counts.{same-itself, slot-itself}
use Rattle.av_laws.specs.ReadBack.{IsSmall, IsSmallSetting}

-- ---- lists

pub all-append : {X : Type 0} (P : X → Type 0) (xs ys : List X) → AllByRecursion P xs → AllByRecursion P ys → AllByRecursion P (xs ++ ys)
all-append P [] ys a b = b
all-append P (x ∷ xs) ys a b = (a.0, all-append P xs ys a.1 b)

pub all-filter : {X : Type 0} (P : X → Type 0) (test : X → Bool) (xs : List X) → AllByRecursion P xs → AllByRecursion P (filter test xs)
all-filter P test [] a = tt
all-filter P test (x ∷ xs) a = by (test x) (all-filter P test xs a.1)
  where
    by : (b : Bool) → AllByRecursion P (filter test xs) → AllByRecursion P (cond b (x ∷ filter test xs) (filter test xs))
    by true rest = (a.0, rest)
    by false rest = rest

pub all-map : {X Y : Type 0} (P : X → Type 0) (Q : Y → Type 0) (f : X → Y) → ((x : X) → P x → Q (f x)) → (xs : List X) → AllByRecursion P xs →
    AllByRecursion Q (map f xs)
all-map P Q f each [] a = tt
all-map P Q f each (x ∷ xs) a = (each x a.0, all-map P Q f each xs a.1)

pub all-by : {X : Type 0} (P Q : X → Type 0) → ((x : X) → P x → Q x) → (xs : List X) → AllByRecursion P xs → AllByRecursion Q xs
all-by P Q each [] a = tt
all-by P Q each (x ∷ xs) a = (each x a.0, all-by P Q each xs a.1)

pub all-take : {X : Type 0} (P : X → Type 0) (n : ℕ) (xs : List X) → AllByRecursion P xs → AllByRecursion P (take n xs)
all-take P zero xs a = tt
all-take P (suc n) [] a = tt
all-take P (suc n) (x ∷ xs) a = (a.0, all-take P n xs a.1)

all-onto : {X : Type 0} (P : X → Type 0) (xs ys : List X) → AllByRecursion P xs → AllByRecursion P ys → AllByRecursion P (reverse_aux xs ys)
all-onto P [] ys a b = b
all-onto P (x ∷ xs) ys a b = all-onto P xs (x ∷ ys) a.1 (a.0, b)

pub all-reverse : {X : Type 0} (P : X → Type 0) (xs : List X) → AllByRecursion P xs → AllByRecursion P (reverse xs)
all-reverse P xs a = all-onto P xs [] a tt

all-both : {X : Type 0} (P Q : X → Type 0) (xs : List X) → AllByRecursion P xs → AllByRecursion Q xs → AllByRecursion (λ x. P x × Q x) xs
all-both P Q [] a b = tt
all-both P Q (x ∷ xs) a b = ((a.0, b.0), all-both P Q xs a.1 b.1)

-- what holds of each value that is counted holds of all
all-counted : {X K : Type 0} (value : X → K) (same : K → K → Bool) → ((k : K) → same k k ≡ true) → (P : K → Type 0) (xs : List X)
    → ((k : K) → 0 < how_many (λ x. same k (value x)) xs → P k) → AllByRecursion (λ x. P (value x)) xs
all-counted value same itself P [] each = tt
all-counted value same itself P (x ∷ xs) each = (
  each (value x) (first (same (value x) (value x)) _ (itself (value x))),
  all-counted value same itself P xs (λ k some. each k (more (same k (value x)) _ some)),
)
  where
    first : (b : Bool) (n : ℕ) → b ≡ true → 0 < cond b 1 0 + n
    first true n is = omega arith
    first false n is = cc

    more : (b : Bool) (n : ℕ) → 0 < n → 0 < cond b 1 0 + n
    more b n some = omega (arith, some)

-- ---- wide ledgers

abbrev pub IsWideKey : Key → Type 0
IsWideKey k = IsWide k.0 × IsWide (address_of k.1)

abbrev pub IsWideEntry : Entry → Type 0
IsWideEntry Zero = Unit {0}
IsWideEntry (InFrame f seen) = IsWide f
IsWideEntry (InSlot s) = IsSlot s

abbrev pub IsWideCached : Cached → Type 0
IsWideCached c = IsSlot c.slot × IsWide c.frame

abbrev AreWide : List (Key × Entry) → Type 0
AreWide es = AllByRecursion (λ (e : Key × Entry). IsWideKey e.0 × IsWideEntry e.1) es

-- all that the ledger names has numbers of 64 bits, and so have the slots that may be given
pub record IsWideLedger (m : Setting) (l : Ledger) : Type 0 where
  pub entries : AllByRecursion (λ (e : Key × Entry). IsWideKey e.0 × IsWideEntry e.1) l.entries
  pub cache : AllByRecursion IsWideCached l.cache
  pub flight : AllByRecursion IsSlot l.flight
  pub active : AllByRecursion IsWide l.active
  pub inactive : AllByRecursion IsWide l.inactive
  pub given : (s : Slot) → (is_on l s.area && nat_lt s.page (size_of m s.area)) ≡ true → IsSlot s

-- what it names

wide-cached : (test : Cached → Bool) (cs : List Cached) → AllByRecursion IsWideCached cs → IfThere IsWideCached (cached_by test cs)
wide-cached test [] a = tt
wide-cached test (c ∷ cs) a = by (test c) (wide-cached test cs a.1)
  where
    by : (b : Bool) → IfThere IsWideCached (cached_by test cs) → IfThere IsWideCached (cond b (Some c) (cached_by test cs))
    by true rest = a.0
    by false rest = rest

pub wide-slot_of : (m : Setting) (l : Ledger) (f : ℕ) → IsWideLedger m l → IfThere IsSlot (slot_of l f)
wide-slot_of m l f h = by (cached_by (λ c. f == c.frame) l.cache) (wide-cached (λ c. f == c.frame) l.cache h.cache)
  where
    by : (o : Option Cached) → IfThere IsWideCached o → IfThere IsSlot (option_map (λ (c : Cached). c.slot) o)
    by None a = tt
    by (Some c) a = a.0

pub wide-frame_at : (m : Setting) (l : Ledger) (s : Slot) → IsWideLedger m l → IfThere IsWide (frame_at l s)
wide-frame_at m l s h = by (cached_by (λ c. same_slot s c.slot) l.cache) (wide-cached (λ c. same_slot s c.slot) l.cache h.cache)
  where
    by : (o : Option Cached) → IfThere IsWideCached o → IfThere IsWide (option_map (λ (c : Cached). c.frame) o)
    by None a = tt
    by (Some c) a = a.1

wide-found : (k : Key) (es : List (Key × Entry)) → AreWide es → IfThere IsWideEntry (find key_cmp k es)
wide-found k [] a = tt
wide-found k (e ∷ es) a = by (same_key k e.0) (wide-found k es a.1)
  where
    by : (b : Bool) → IfThere IsWideEntry (find key_cmp k es) → IfThere IsWideEntry (cond b (Some e.1) (find key_cmp k es))
    by true rest = a.0.1
    by false rest = rest

pub wide-entry : (m : Setting) (l : Ledger) (k : Key) → IsWideLedger m l → IfThere IsWideEntry (entry l k)
wide-entry m l k h = wide-found k l.entries h.entries

-- ---- parts of a change

wide-put : (k : Key) (e : Entry) (es : List (Key × Entry)) → IsWideKey k → IsWideEntry e → AreWide es → AreWide (put key_cmp k e es)
wide-put k e [] key value a = ((key, value), tt)
wide-put k e (x ∷ es) key value a = by (key_cmp k x.0) (wide-put k e es key value a.1)
  where
    by : (o : Ordering) → AreWide (put key_cmp k e es) → AreWide (by_order o ((k, e) ∷ x ∷ es) ((x.0, e) ∷ es) (x ∷ put key_cmp k e es))
    by Less rest = ((key, value), a)
    by Equal rest = ((a.0.0, value), a.1)
    by Greater rest = (a.0, rest)

wide-where : (test : Key → Bool) (es : List (Key × Entry)) → AreWide es → AreWide (where_key key_cmp test es)
wide-where test [] a = tt
wide-where test (e ∷ es) a = by (test e.0) (wide-where test es a.1)
  where
    by : (b : Bool) → AreWide (where_key key_cmp test es) → AreWide (cond b (e ∷ where_key key_cmp test es) (where_key key_cmp test es))
    by true rest = (a.0, rest)
    by false rest = rest

wide-set : (m : Setting) (k : Key) (e : Entry) (l : Ledger) → IsWideKey k → IsWideEntry e → IsWideLedger m l → IsWideLedger m (set_entry k e l)
wide-set m k e l key value h = record {
  entries = wide-put k e l.entries key value h.entries;
  cache = h.cache;
  flight = h.flight;
  active = h.active;
  inactive = h.inactive;
  given = h.given;
}

wide-changed : (m : Setting) (f : ℕ) (change : Entry → Entry) (l : Ledger) → ((e : Entry) → IsWideEntry e → IsWideEntry (change e))
    → IsWideLedger m l → IsWideLedger m (change_entries f change l)
wide-changed m f change l each h = record {
  entries = all-map _ _ _ (λ e a. (a.0, by e.1 (names_frame f e.1) a.1)) l.entries h.entries;
  cache = h.cache;
  flight = h.flight;
  active = h.active;
  inactive = h.inactive;
  given = h.given;
}
  where
    by : (e : Entry) (b : Bool) → IsWideEntry e → IsWideEntry (cond b (change e) e)
    by e true a = each e a
    by e false a = a

-- the lists are others
wide-lists : (m : Setting) (l : Ledger) (active inactive : List ℕ) → AllByRecursion IsWide active → AllByRecursion IsWide inactive
    → IsWideLedger m l → IsWideLedger m (record l { active = active; inactive = inactive })
wide-lists m l active inactive a i h = record {
  entries = h.entries;
  cache = h.cache;
  flight = h.flight;
  active = a;
  inactive = i;
  given = h.given;
}

-- and so the cache, or flight
wide-caches : (m : Setting) (l : Ledger) (cache : List Cached) → AllByRecursion IsWideCached cache → IsWideLedger m l
    → IsWideLedger m (record l { cache = cache })
wide-caches m l cache c h = record {
  entries = h.entries;
  cache = c;
  flight = h.flight;
  active = h.active;
  inactive = h.inactive;
  given = h.given;
}

wide-flies : (m : Setting) (l : Ledger) (flight : List Slot) → AllByRecursion IsSlot flight → IsWideLedger m l
    → IsWideLedger m (record l { flight = flight })
wide-flies m l flight c h = record {
  entries = h.entries;
  cache = h.cache;
  flight = c;
  active = h.active;
  inactive = h.inactive;
  given = h.given;
}

wide-without : (f : ℕ) (fs : List ℕ) → AllByRecursion IsWide fs → AllByRecursion IsWide (without f fs)
wide-without f fs a = all-filter IsWide (λ g. not (f == g)) fs a

wide-head : (m : Setting) (f : ℕ) (l : Ledger) → IsWide f → IsWideLedger m l → IsWideLedger m (to_inactive_head f l)
wide-head m f l wide h =
    wide-lists m l (without f l.active) (f ∷ without f l.inactive) (wide-without f l.active h.active) (wide, wide-without f l.inactive h.inactive) h

wide-tail : (m : Setting) (f : ℕ) (l : Ledger) → IsWide f → IsWideLedger m l → IsWideLedger m (to_inactive_tail f l)
wide-tail m f l wide h = wide-lists m l (without f l.active) (without f l.inactive ++ f ∷ []) (wide-without f l.active h.active)
    (all-append IsWide (without f l.inactive) (f ∷ []) (wide-without f l.inactive h.inactive) (wide, tt)) h

wide-active : (m : Setting) (f : ℕ) (l : Ledger) → IsWide f → IsWideLedger m l → IsWideLedger m (to_active f l)
wide-active m f l wide h =
    wide-lists m l (f ∷ without f l.active) (without f l.inactive) (wide, wide-without f l.active h.active) (wide-without f l.inactive h.inactive) h

wide-settled : (m : Setting) (f : ℕ) (l : Ledger) → IsWideLedger m l → IsWideLedger m (settle f l)
wide-settled m f l h = by (is_free l f)
  where
    by : (b : Bool) → IsWideLedger m (cond b (off_lists f l) l)
    by true = record {
      entries = h.entries;
      cache = h.cache;
      flight = h.flight;
      active = wide-without f l.active h.active;
      inactive = wide-without f l.inactive h.inactive;
      given = h.given;
    }
    by false = h

wide-marked : (m : Setting) (stale : Bool) (s : Slot) (l : Ledger) → IsWideLedger m l → IsWideLedger m (with_stale stale s l)
wide-marked m stale s l h = wide-caches m l _ (all-map IsWideCached IsWideCached
    (λ (c : Cached). cond (same_slot s c.slot) (record c { stale = stale }) c) (λ c a. by c (same_slot s c.slot) a) l.cache h.cache) h
  where
    by : (c : Cached) (b : Bool) → IsWideCached c → IsWideCached (cond b (record c { stale = stale }) c)
    by c true a = a
    by c false a = a

wide-landed : (m : Setting) (s : Slot) (l : Ledger) → IsWideLedger m l → IsWideLedger m (off_flight s l)
wide-landed m s l h = wide-flies m l (filter (λ t. not (same_slot s t)) l.flight) (all-filter IsSlot (λ t. not (same_slot s t)) l.flight h.flight) h

-- ---- after a note

pub wide-after : (m : Setting) (note : Note) (l : Ledger) → IsNote note → IsWideLedger m l → IsWideLedger m (after_note note l)
wide-after m note l fits h = go note fits
  where
    key : (p a : ℕ) → IsWide p → IsWide a → IsWideKey (p, page_of a)
    key p a wide at = (wide, omega (arith, at))

    unseen : (e : Entry) → IsWideEntry e → IsWideEntry (without_seen e)
    unseen Zero a = a
    unseen (InFrame f seen) a = a
    unseen (InSlot s) a = a

    unmapped : (f : ℕ) (o : Option Slot) → IfThere IsSlot o → IsWideLedger m (if_some o (λ s. change_entries f (λ _. InSlot s)) l)
    unmapped f None a = h
    unmapped f (Some s) a = wide-changed m f (λ _. InSlot s) l (λ e b. a) h

    written : (s : Slot) (o : Option ℕ) → IfThere IsWide o → IsWideLedger m (if_some o to_inactive_tail (off_flight s l))
    written s None a = wide-landed m s l h
    written s (Some f) a = wide-tail m f (off_flight s l) a (wide-landed m s l h)

    out : (s : Slot) → IsWideLedger m (off_cache s l)
    out s = wide-caches m l (filter (λ (c : Cached). not (same_slot s c.slot)) l.cache)
        (all-filter IsWideCached (λ (c : Cached). not (same_slot s c.slot)) l.cache h.cache) h

    dropped : (s : Slot) (o : Option ℕ) → IsWideLedger m (if_some o settle (off_cache s l))
    dropped s None = out s
    dropped s (Some f) = wide-settled m f (off_cache s l) (out s)

    settled : (o : Option Entry) (left : Ledger) → IsWideLedger m left → IsWideLedger m (settle_entry o left)
    settled None left a = a
    settled (Some Zero) left a = a
    settled (Some (InFrame f seen)) left a = wide-settled m f left a
    settled (Some (InSlot s)) left a = a

    changed : (k : Key) (f : ℕ) → IsWideKey k → IsWide f → IsWideLedger m (change_frame k f l)
    changed k f wide at = settled (entry l k) (set_entry k (InFrame f false) l) (wide-set m k (InFrame f false) l wide at h)

    moved_frame : (from to f : ℕ) → IsWide to → IsWide f → IsWide (renamed from to f)
    moved_frame from to f a b = by (f == from)
      where
        by : (c : Bool) → IsWide (cond c to f)
        by true = a
        by false = b

    moved_entry : (from to : ℕ) (e : Entry) → IsWide to → IsWideEntry e → IsWideEntry (placed_entry (renamed from to) e)
    moved_entry from to Zero a b = b
    moved_entry from to (InFrame f seen) a b = moved_frame from to f a b
    moved_entry from to (InSlot s) a b = b

    go : (note : Note) → IsNote note → IsWideLedger m (after_note note l)
    go (Zeroed p a) i = wide-set m (p, page_of a) Zero l (key p a i.0 i.1) tt h
    go (New p a f) i = wide-head m f (set_entry (p, page_of a) (InFrame f false) l) i.2
        (wide-set m (p, page_of a) (InFrame f false) l (key p a i.0 i.1) i.2 h)
    go (Copied p a f) i = wide-head m f (change_frame (p, page_of a) f l) i.2 (changed (p, page_of a) f (key p a i.0 i.1) i.2)
    go (Loaded s f) i = wide-head m f (into_cache s f false l) i.1
        (wide-caches m l (record { slot = s; frame = f; stale = false } ∷ l.cache) ((i.0, i.1), h.cache) h)
    go (Mapped p a f) i = wide-set m (p, page_of a) (InFrame f false) l (key p a i.0 i.1) i.2 h
    go (Put f s) i = wide-caches m l (record { slot = s; frame = f; stale = true } ∷ l.cache) ((i.1, i.0), h.cache) h
    go (Unmapped f) i = unmapped f (slot_of l f) (wide-slot_of m l f h)
    go (Started s) i = wide-marked m false s (record l { flight = l.flight ++ s ∷ [] })
        (wide-flies m l (l.flight ++ s ∷ []) (all-append IsSlot l.flight (s ∷ []) h.flight (i, tt)) h)
    go (Written s) i = written s (frame_at l s) (wide-frame_at m l s h)
    go (Failed s) i = wide-marked m true s (off_flight s l) (wide-landed m s l h)
    go (Dropped s) i = dropped s (frame_at l s)
    go (Kept f Writeback) i = wide-head m f l i h
    go (Kept f WriteStarted) i = wide-head m f l i h
    go (Kept f Referenced) i = wide-active m f (change_entries f without_seen l) i (wide-changed m f without_seen l unseen h)
    go (Kept f NoSlot) i = wide-active m f l i h
    go (Kept f Locked) i = wide-active m f l i h
    go (Kept f Ksm) i = wide-active m f l i h
    go (Aged f) i = wide-head m f (change_entries f without_seen l) i (wide-changed m f without_seen l unseen h)
    go (Shared f) i = record { entries = h.entries; cache = h.cache; flight = h.flight; active = h.active; inactive = h.inactive; given = h.given }
    go (Joined p a f) i = changed (p, page_of a) f (key p a i.0 i.1) i.2
    go (Moved from to) i = record {
      entries = all-map (λ (e : Key × Entry). IsWideKey e.0 × IsWideEntry e.1) (λ (e : Key × Entry). IsWideKey e.0 × IsWideEntry e.1)
          (λ (e : Key × Entry). (e.0, placed_entry (renamed from to) e.1)) (λ e a. (a.0, moved_entry from to e.1 i.1 a.1)) l.entries h.entries;
      cache = all-map IsWideCached IsWideCached (λ (c : Cached). record c { frame = renamed from to c.frame })
          (λ c a. (a.0, moved_frame from to c.frame i.1 a.1)) l.cache h.cache;
      flight = h.flight;
      active = all-map IsWide IsWide (renamed from to) (λ f a. moved_frame from to f i.1 a) l.active h.active;
      inactive = all-map IsWide IsWide (renamed from to) (λ f a. moved_frame from to f i.1 a) l.inactive h.inactive;
      given = h.given;
    }

pub wide-notes : (m : Setting) (l : Ledger) (notes : List Note) → AllByRecursion IsNote notes → IsWideLedger m l
    → IsWideLedger m (after_notes l notes)
wide-notes m l [] a h = h
wide-notes m l (note ∷ notes) a h = wide-notes m (after_note note l) notes a.1 (wide-after m note l a.0 h)

-- ---- after an entry goes, or is used

pub wide-zapped : (m : Setting) (k : Key) (l : Ledger) → IsWideLedger m l → IsWideLedger m (after_zap k l)
wide-zapped m k l h = by (entry l k)
  where
    left : Ledger
    left = record l { entries = where_key key_cmp (λ q. not (k.0 == q.0 && k.1 == q.1)) l.entries }

    is_left : IsWideLedger m left
    is_left = record {
      entries = wide-where (λ q. not (k.0 == q.0 && k.1 == q.1)) l.entries h.entries;
      cache = h.cache;
      flight = h.flight;
      active = h.active;
      inactive = h.inactive;
      given = h.given;
    }

    by : (o : Option Entry) → IsWideLedger m (settle_entry o left)
    by None = is_left
    by (Some Zero) = is_left
    by (Some (InFrame f seen)) = wide-settled m f left is_left
    by (Some (InSlot s)) = is_left

pub wide-used : (m : Setting) (write : Bool) (k : Key) (l : Ledger) → IsWideKey k → IsWideLedger m l → IsWideLedger m (after_use write k l)
wide-used m write k l key h = by write (entry l k) (wide-entry m l k h)
  where
    stale : (o : Option Slot) (l' : Ledger) → IsWideLedger m l' → IsWideLedger m (if_some o (with_stale true) l')
    stale None l' a = a
    stale (Some s) l' a = wide-marked m true s l' a

    by : (write : Bool) (o : Option Entry) → IfThere IsWideEntry o → IsWideLedger m (after_use_of write k l o)
    by write None a = h
    by write (Some Zero) a = h
    by write (Some (InSlot s)) a = h
    by false (Some (InFrame f seen)) a = wide-set m k (InFrame f true) l key a h
    by true (Some (InFrame f seen)) a = stale (slot_of l f) (set_entry k (InFrame f true) l) (wide-set m k (InFrame f true) l key a h)

-- ---- a sound ledger

module _ (m : Setting) (w : World) (l : Ledger) (few : IsSmallSetting m) (s : AllSound m w l) (small : IsSmall w l) where
  wide-given : (t : Slot) → (is_on l t.area && nat_lt t.page (size_of m t.area)) ≡ true → IsSlot t
  wide-given t is = by (is_on l t.area) (nat_lt t.page (size_of m t.area)) refl refl is
    where
      by : (a b : Bool) → is_on l t.area ≡ a → nat_lt t.page (size_of m t.area) ≡ b → (a && b) ≡ true → IsSlot t
      by true true on inside h =
          let less : t.page < size_of m t.area = grind (arith, nat_tests, inside) in
          let wide = (few.areas t.area (omega (arith, less))).pages in
          (small.areas t.area on, omega (arith, less, wide))
      by true false on inside h = cc
      by false b on inside h = cc

  -- a slot in use is one of an area that is on
  pub wide-in_use : (t : Slot) → 0 < count l t → IsSlot t
  wide-in_use t some = wide-given t (both (is_on l t.area) (nat_lt 0 t.page) (nat_lt t.page (size_of m t.area)) (is_usable m t) (s.in_areas t some))
    where
      both : (a b c d : Bool) → (a && b && c && d) ≡ true → (a && c) ≡ true
      both true true true d h = refl
      both true true false d h = cc
      both true false c d h = cc
      both false b c d h = cc

  wide-in_range : (f : ℕ) → 0 < uses l f → IsWide f
  wide-in_range f some = let low = s.ledger.in_range f some in let wide = few.frames in omega (arith, low, wide)

  wide-keys : AllByRecursion IsWideKey (map (λ (e : Key × Entry). e.0) l.entries)
  wide-keys = all-listed IsWideKey (map (λ (e : Key × Entry). e.0) l.entries)
      (λ q is. let mapped = s.at_pages q.0 q.1 (is_some-find key_cmp q l.entries ∙ is) in let low = small.below q.0 q.1 mapped in
      (small.processes q.0 q.1 mapped, omega (arith, low)))

  wide-values : (es : List (Key × Entry)) → ((f : ℕ) → 0 < how_many (λ e. names_frame f e.1) es → IsWide f)
      → ((t : Slot) → 0 < how_many (λ e. names_slot t e.1) es → IsSlot t) → AllByRecursion IsWideKey (map (λ (e : Key × Entry). e.0) es)
      → AreWide es
  wide-values [] frames slots keys = tt
  wide-values (e ∷ es) frames slots keys = (
    (keys.0, by e.1 (λ f is. frames f (first (names_frame f e.1) _ is)) (λ t is. slots t (first (names_slot t e.1) _ is))),
    wide-values es (λ f some. frames f (more (names_frame f e.1) _ some)) (λ t some. slots t (more (names_slot t e.1) _ some)) keys.1,
  )
    where
      first : (b : Bool) (n : ℕ) → b ≡ true → 0 < cond b 1 0 + n
      first true n is = omega arith
      first false n is = cc

      more : (b : Bool) (n : ℕ) → 0 < n → 0 < cond b 1 0 + n
      more b n some = omega (arith, some)

      by : (e : Entry) → ((f : ℕ) → names_frame f e ≡ true → IsWide f) → ((t : Slot) → names_slot t e ≡ true → IsSlot t) → IsWideEntry e
      by Zero frame slot = tt
      by (InFrame f seen) frame slot = frame f (same-itself f)
      by (InSlot t) frame slot = slot t (slot-itself t)

  pub wide-sound : IsWideLedger m l
  wide-sound = record {
    entries = wide-values l.entries (λ f some. wide-in_range f (omega (arith, some))) (λ t some. wide-in_use t (omega (arith, some))) wide-keys;
    cache = all-both (λ (c : Cached). IsSlot c.slot) (λ (c : Cached). IsWide c.frame) l.cache
        (all-counted (λ (c : Cached). c.slot) same_slot slot-itself IsSlot l.cache (λ t some. wide-in_use t (omega (arith, some))))
        (all-counted (λ (c : Cached). c.frame) (λ f g. f == g) same-itself IsWide l.cache (λ f some. wide-in_range f (omega (arith, some))));
    flight = all-counted (λ (t : Slot). t) same_slot slot-itself IsSlot l.flight
        (λ t some. wide-in_use t (let cached = s.ledger.flying t in omega (arith, some, cached)));
    active = all-counted (λ (f : ℕ). f) (λ f g. f == g) same-itself IsWide l.active
        (λ f some. wide-in_range f (let listed = s.ledger.listed f in omega (arith, some, listed)));
    inactive = all-counted (λ (f : ℕ). f) (λ f g. f == g) same-itself IsWide l.inactive
        (λ f some. wide-in_range f (let listed = s.ledger.listed f in omega (arith, some, listed)));
    given = wide-given;
  }
