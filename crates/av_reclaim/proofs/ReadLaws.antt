-- What a memory system tells of a ledger that it serves.
use Rattle.std.proofs.Common.{◌≡◌, ℕ, zero, suc, ◌+◌, ◌<◌, ◌≤◌, min, ◌⊎◌, inl, inr, T, Bool, true, false, cond, ◌==◌, ◌&&◌, ◌||◌, nat_lt, List, [], ◌∷◌, ◌++◌, map, filter, reverse, Option, Some, None, is_some, refl, sym, ap, subst, ◌∙◌, arith}
use Rattle.std.proofs.lemmas.Bool.Decides.{nat_tests}
use Rattle.std.proofs.lemmas.Bool.{false≢true}
use Rattle.std.proofs.lemmas.List.{append_assoc, append-nil, reverse-append}
use Rattle.std.specs.FinMap.Entries.{is_sorted}
use Rattle.std.specs.List.{list_any, range_with_len}
use Rattle.std.specs.Prelude.{MatchBool, MatchOption, slice_get}
use Rattle.av_base.specs.Keys.{Key, key_cmp, same_key}
use Rattle.av_base.proofs.Keys.{same_key-itself}
use Rattle.av_base.specs.Words.{how_many, is_in}
use Rattle.av_base.specs.declared.slot.Slot.{Slot}
use Rattle.av_frames.specs.Store.{first_of}
use Rattle.av_lru.specs.Lists.{frame_before, last_of}
use Rattle.av_pagetable.specs.declared.pte.Pte.{Pte}
use Rattle.av_pagetable.specs.declared.pte.Pte.TheVariants.{Empty, Zero, Here, Away}
use Rattle.av_pagetable.specs.Entries.{entry_at}
use Rattle.av_rmap.specs.Items.{is_merged as has_items, shown}
use Rattle.av_rmap.specs.Walk.{names_seen as pte_seen}
use Rattle.av_plain.specs.Areas.{Rmap}
use Rattle.av_plain.specs.Choice.{ListsFree}
use Rattle.av_plain.specs.Device.{Device}
use Rattle.av_plain.specs.Ledger.{Entry, Ledger, Setting, has_free, is_free, is_merged, slot_of}
use Rattle.av_plain.specs.Reclaim.{is_referenced, names_seen}
use Rattle.av_plain.specs.Sound.{IsSoundBut, uses}
use Rattle.av_plain.specs.Stands.{entry_of}
use Rattle.av_plain.specs.World.{World}
use Rattle.av_plain.proofs.Event.{how_many-same}
use Rattle.av_plain.proofs.Ledger.{how_many-append}
use Rattle.av_plain.proofs.Ledger.Walk.{keys-filter, passes}
use Rattle.av_plain.proofs.Sound.Changes.{any-counts}
use Rattle.av_plain.proofs.Sound.Counts.{same-itself, same-turned}
use Rattle.av_swap_laws.proofs.From.{first-is}
use Rattle.av_evict.specs.Standing.{cached_count, locked_cached_count, locked_merged_count, merged_count}
use Rattle.av_evict.specs.System.{any_slot}
use Rattle.av_mem.specs.Mem.{Serves, frame_count, locks_of, plain, setting_by, view}
use Rattle.av_mem.specs.declared.mem.Mem.{Mem}
use Rattle.av_mem.proofs.MergedLaws.{merged-is}
use Rattle.av_mem.proofs.ReachLaws.{reaches-served}

-- ---- the first and the last of a list

pub at-front : {X : Type 0} (xs : List X) → first_of xs ≡ slice_get xs 0
at-front [] = refl
at-front (x ∷ xs) = refl

reverse-first : (x : ℕ) (xs ys : List ℕ) → reverse (x ∷ xs) ++ ys ≡ reverse xs ++ x ∷ ys
reverse-first x xs ys = ap (λ zs. zs ++ ys) (reverse-append (x ∷ []) xs) ∙ append_assoc (reverse xs) (x ∷ []) ys

-- the last of a list behind some
last-behind : (o : Option ℕ) (fs before : List ℕ) → o ≡ slice_get before 0 → last_of o fs ≡ slice_get (reverse fs ++ before) 0
last-behind o [] before is = is
last-behind o (g ∷ gs) before is = last-behind (Some g) gs (g ∷ before) refl ∙ ap (λ (fs : List ℕ). slice_get fs 0) (sym (reverse-first g gs before))

pub at-tail : (fs : List ℕ) → last_of None fs ≡ slice_get (reverse fs) 0
at-tail fs = last-behind None fs [] refl ∙ ap (λ (fs : List ℕ). slice_get fs 0) (append-nil (reverse fs))

-- ---- the frame before

before-first : (o : Option ℕ) (f : ℕ) (ahead behind : List ℕ) → is_in f ahead ≡ false → frame_before o f (ahead ++ f ∷ behind) ≡ last_of o ahead
before-first o f [] behind out = ap (λ b. cond b o (frame_before (Some f) f behind)) (same-itself f)
before-first o f (g ∷ gs) behind out = by (f == g) (g == f) (same-turned g f) out (before-first (Some g) f gs behind)
  where
    by : (b c : Bool) → c ≡ b → (b || is_in f gs) ≡ false → (is_in f gs ≡ false → frame_before (Some g) f (gs ++ f ∷ behind) ≡ last_of (Some g) gs)
        → cond c o (frame_before (Some g) f (gs ++ f ∷ behind)) ≡ last_of (Some g) gs
    by true c turned h more = absurd (false≢true (sym h))
    by false true turned h more = absurd (false≢true (sym turned))
    by false false turned h more = more h

-- it stands there once
alone : (f : ℕ) (ahead behind : List ℕ) → how_many (λ g. f == g) (ahead ++ f ∷ behind) ≤ 1 → is_in f ahead ≡ false
alone f ahead behind few = any-counts (λ g. f == g) ahead ∙ none
  where
    counted : how_many (λ g. f == g) (ahead ++ f ∷ behind) ≡ how_many (λ g. f == g) ahead + (cond (f == f) 1 0 + how_many (λ g. f == g) behind)
    counted = how_many-append (λ g. f == g) ahead (f ∷ behind)

    one : ◌≡◌ {A = ℕ} (cond (f == f) 1 0) 1
    one = ap (λ b. cond b 1 0) (same-itself f)

    none : nat_lt 0 (how_many (λ g. f == g) ahead) ≡ false
    none = let few' : how_many (λ g. f == g) ahead ≡ 0 = omega (arith, few, counted, one) in grind (arith, nat_tests, few')

pub before-is : (f : ℕ) (fs ahead behind : List ℕ) → how_many (λ g. f == g) fs ≤ 1 → fs ≡ ahead ++ f ∷ behind
    → frame_before None f fs ≡ slice_get (reverse ahead) 0
before-is f fs ahead behind few is = ap (frame_before None f) is
    ∙ before-first None f ahead behind (alone f ahead behind (subst (λ fs. how_many (λ g. f == g) fs ≤ 1) is few)) ∙ at-tail ahead

pub in-list : (f : ℕ) (fs ahead behind : List ℕ) → fs ≡ ahead ++ f ∷ behind → is_in f fs ≡ true
in-list f fs ahead behind is = ap (is_in f) is ∙ by ahead
  where
    first : (b c : Bool) → b ≡ true → (b || c) ≡ true
    first true c h = refl
    first false c h = absurd (false≢true h)

    second : (b c : Bool) → c ≡ true → (b || c) ≡ true
    second true c h = refl
    second false c h = h

    by : (ahead : List ℕ) → is_in f (ahead ++ f ∷ behind) ≡ true
    by [] = first (f == f) (is_in f behind) (same-itself f)
    by (g ∷ gs) = second (f == g) (is_in f (gs ++ f ∷ behind)) (by gs)

module _ (d : Device) (closing : Option ℕ) (k : Mem) (w : World) (r : Rmap) (l : Ledger) (sound : IsSoundBut (setting_by d k) any_slot l)
    (h : Serves d closing k w r l) where
  once-listed : (f : ℕ) → how_many (λ g. f == g) l.active + how_many (λ g. f == g) l.inactive ≤ 1
  once-listed f = let e = sound.listed f in small _ _ e
    where
      small : (n u : ℕ) → n ≡ min 1 u → n ≤ 1
      small n u e = omega (arith, e)

  -- a frame in use is in a list
  pub in-one : (f : ℕ) → 0 < uses l f → (is_in f k.lists.active ≡ true) ⊎ (is_in f k.lists.inactive ≡ true)
  in-one f used = by (is_in f l.active) (is_in f l.inactive) refl refl
    where
      none : (n : ℕ) → nat_lt 0 n ≡ false → n ≡ 0
      none n e = grind (arith, nat_tests, e)

      by : (a i : Bool) → is_in f l.active ≡ a → is_in f l.inactive ≡ i → (is_in f k.lists.active ≡ true) ⊎ (is_in f k.lists.inactive ≡ true)
      by true i ea ei = inl (ap (is_in f) h.held.ledger.lists.active ∙ ea)
      by false true ea ei = inr (ap (is_in f) h.held.ledger.lists.inactive ∙ ei)
      by false false ea ei =
          let a = none _ (sym (any-counts (λ g. f == g) l.active) ∙ ea) in
          let i = none _ (sym (any-counts (λ g. f == g) l.inactive) ∙ ei) in
          let e = sound.listed f in
          absurd (omega (arith, a, i, e, used))

  -- the frame before one in its list
  pub before-inactive : (f : ℕ) (o : Option ℕ) → (is_in f k.lists.inactive ≡ true → o ≡ frame_before None f k.lists.inactive)
      → (ahead behind : List ℕ)
      → l.inactive ≡ ahead ++ f ∷ behind → o ≡ slice_get (reverse ahead) 0
  before-inactive f o is ahead behind there =
      let same : k.lists.inactive ≡ ahead ++ f ∷ behind = h.held.ledger.lists.inactive ∙ there in
      is (in-list f k.lists.inactive ahead behind same)
      ∙ before-is f k.lists.inactive ahead behind (subst (λ fs. how_many (λ g. f == g) fs ≤ 1) (sym h.held.ledger.lists.inactive)
      (let e = once-listed f in omega (arith, e))) same

  pub before-active : (f : ℕ) (o : Option ℕ) → (is_in f k.lists.active ≡ true → o ≡ frame_before None f k.lists.active) → (ahead behind : List ℕ)
      → l.active ≡ ahead ++ f ∷ behind → o ≡ slice_get (reverse ahead) 0
  before-active f o is ahead behind there =
      let same : k.lists.active ≡ ahead ++ f ∷ behind = h.held.ledger.lists.active ∙ there in
      is (in-list f k.lists.active ahead behind same)
      ∙ before-is f k.lists.active ahead behind (subst (λ fs. how_many (λ g. f == g) fs ≤ 1) (sym h.held.ledger.lists.active)
      (let e = once-listed f in omega (arith, e))) same

-- ---- what is free

none-free : (m : Setting) (l : Ledger) → ListsFree m l [] → has_free m l ≡ false
none-free m l lists = all-false 0 m.frames (λ f below. by (is_free l f) (nat_lt f m.frames) (less f below) (lists f))
  where
    less : (f : ℕ) → f < 0 + m.frames → nat_lt f m.frames ≡ true
    less f below = grind (arith, nat_tests, below)

    by : (b c : Bool) → c ≡ true → ◌≡◌ {A = ℕ} 0 (cond (b && c) 1 0) → b ≡ false
    by true true e h = cc
    by true false e h = absurd (false≢true e)
    by false c e h = refl

    all-false : (a n : ℕ) → ((f : ℕ) → f < a + n → is_free l f ≡ false) → list_any (is_free l) (range_with_len a n) ≡ false
    all-false a zero each = refl
    all-false a (suc n) each = ap (λ b. b || list_any (is_free l) (range_with_len (a + 1) n)) (each a (omega arith))
        ∙ all-false (a + 1) n (λ f below. each f (omega (arith, below)))

pub free-first : (m : Setting) (l : Ledger) (free : List ℕ) (o : Option ℕ) → o ≡ first_of free → ListsFree m l free
    → MatchOption o (has_free m l ≡ false) (λ f. (f < m.frames) × (is_free l f ≡ true))
free-first m l [] o is lists =
    subst (λ o. MatchOption o (has_free m l ≡ false) (λ f. (f < m.frames) × (is_free l f ≡ true))) (sym is) (none-free m l lists)
free-first m l (f ∷ left) o is lists =
    let first = first-is m l f left lists in
    subst (λ o. MatchOption o (has_free m l ≡ false) (λ f. (f < m.frames) × (is_free l f ≡ true))) (sym is) (first.below, first.free)

-- ---- whether an entry is seen

seen-as : (f : ℕ) (t : Pte) → pte_seen f t ≡ passes (names_seen f) (entry_of (plain t))
seen-as f Empty = refl
seen-as f Zero = refl
seen-as f (Here g write seen) = refl
seen-as f (Away s) = refl

-- the entries that pass, by their keys
abbrev keys_passing : (Entry → Bool) → List (Key × Entry) → List Key
keys_passing p es = map (λ e. e.0) (filter (λ e. p e.1) es)

some-listed : (p : Entry → Bool) (es : List (Key × Entry)) (q : Key) → list_any (same_key q) (keys_passing p es) ≡ true
    → list_any (λ e. p e.1) es ≡ true
some-listed p [] q h = h
some-listed p (e ∷ es) q h = by (p e.1) h (some-listed p es q)
  where
    by : (b : Bool) → list_any (same_key q) (map (λ e. e.0) (cond b (e ∷ filter (λ e. p e.1) es) (filter (λ e. p e.1) es))) ≡ true
        → (list_any (same_key q) (keys_passing p es) ≡ true → list_any (λ e. p e.1) es ≡ true) → (b || list_any (λ e. p e.1) es) ≡ true
    by true h more = refl
    by false h more = more h

none-listed : (p : Entry → Bool) (es : List (Key × Entry)) → ((q : Key) → list_any (same_key q) (keys_passing p es) ≡ false)
    → list_any (λ e. p e.1) es ≡ false
none-listed p [] h = refl
none-listed p (e ∷ es) h = by (p e.1) h (none-listed p es)
  where
    by : (b : Bool) → ((q : Key) → list_any (same_key q) (map (λ e. e.0) (cond b (e ∷ filter (λ e. p e.1) es) (filter (λ e. p e.1) es))) ≡ false)
        → (((q : Key) → list_any (same_key q) (keys_passing p es) ≡ false) → list_any (λ e. p e.1) es ≡ false)
        → (b || list_any (λ e. p e.1) es) ≡ false
    by true h more = absurd (false≢true (sym (h e.0) ∙ ap (λ b. b || list_any (same_key e.0) (keys_passing p es)) (same_key-itself e.0)))
    by false h more = more h

pub seen-is : (d : Device) (closing : Option ℕ) (k : Mem) (w : World) (r : Rmap) (l : Ledger) (f : ℕ) → T (is_sorted key_cmp l.entries)
    → Serves d closing k w r l → (b : Bool)
    → MatchBool b ((q : ℕ × ℕ) × (pte_seen f (entry_at k.tables q.0 q.1) ≡ true)) ((p page : ℕ) → pte_seen f (entry_at k.tables p page) ≡ false)
    → b ≡ is_referenced l f
seen-is d closing k w r l f sorted h true some =
    sym (some-listed (names_seen f) l.entries some.0 (keys-filter (names_seen f) l.entries some.0 sorted
    ∙ sym (ap (passes (names_seen f)) (h.held.ledger.tables.entries some.0.0 some.0.1))
    ∙ sym (seen-as f (entry_at k.tables some.0.0 some.0.1)) ∙ some.1))
seen-is d closing k w r l f sorted h false none = sym (none-listed (names_seen f) l.entries (λ q. keys-filter (names_seen f) l.entries q sorted
    ∙ sym (ap (passes (names_seen f)) (h.held.ledger.tables.entries q.0 q.1)) ∙ sym (seen-as f (entry_at k.tables q.0 q.1)) ∙ none q.0 q.1))

-- ---- whether a frame is merged

pub merged-told : (d : Device) (closing : Option ℕ) (k : Mem) (w : World) (r : Rmap) (l : Ledger) (f : ℕ) → IsSoundBut (setting_by d k) any_slot l
    → Serves d closing k w r l → has_items ((view k).items f) ≡ is_merged l f
merged-told d closing k w r l f sound h = merged-is k r l (reaches-served d closing k w r l h) sound.in_order f (sound.merged f)

-- ---- how many are cached, and how many merged

pub cached-many : (d : Device) (closing : Option ℕ) (k : Mem) (w : World) (r : Rmap) (l : Ledger) → Serves d closing k w r l
    → how_many (λ f. is_some ((view k).slot f)) (range_with_len 0 (frame_count k)) ≡ cached_count (setting_by d k) l
cached-many d closing k w r l h = how_many-same (λ f. is_some ((view k).slot f)) (λ f. is_some (slot_of l f)) (range_with_len 0 (frame_count k))
    (λ f. ap is_some (h.held.ledger.frames.slots f))

pub merged-many : (d : Device) (closing : Option ℕ) (k : Mem) (w : World) (r : Rmap) (l : Ledger) → IsSoundBut (setting_by d k) any_slot l
    → Serves d closing k w r l → how_many (λ f. has_items ((view k).items f)) (range_with_len 0 (shown k.items).frames) ≡ merged_count (setting_by d k) l
merged-many d closing k w r l sound h =
    how_many-same (λ f. has_items ((view k).items f)) (is_merged l) (range_with_len 0 (shown k.items).frames)
    (λ f. merged-told d closing k w r l f sound h)
    ∙ ap (λ n. how_many (is_merged l) (range_with_len 0 n)) h.items

-- ---- how many frames of locked pages are cached, and how many merged

module _ (d : Device) (closing : Option ℕ) (k : Mem) (w : World) (r : Rmap) (l : Ledger) (h : Serves d closing k w r l) where
  pub locked-cached-many : how_many (λ f. nat_lt 0 (locks_of k f) && is_some ((view k).slot f)) (range_with_len 0 (frame_count k))
      ≡ locked_cached_count (setting_by d k) (λ f. nat_lt 0 (locks_of k f)) l
  locked-cached-many = how_many-same _ _ (range_with_len 0 (frame_count k))
      (λ f. ap (λ (o : Option Slot). nat_lt 0 (locks_of k f) && is_some o) (h.held.ledger.frames.slots f))

  pub locked-merged-many : IsSoundBut (setting_by d k) any_slot l
      → how_many (λ f. nat_lt 0 (locks_of k f) && has_items ((view k).items f)) (range_with_len 0 (frame_count k))
      ≡ locked_merged_count (setting_by d k) (λ f. nat_lt 0 (locks_of k f)) l
  locked-merged-many sound = how_many-same _ _ (range_with_len 0 (frame_count k))
      (λ f. ap (λ b. nat_lt 0 (locks_of k f) && b) (merged-told d closing k w r l f sound h))
