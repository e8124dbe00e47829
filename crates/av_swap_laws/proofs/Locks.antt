-- How many entries of locked pages name a frame after each event.
use Rattle.std.proofs.Common.{◌≡◌, ℕ, ◌+◌, ◌≤◌, Bool, true, false, cond, not, ◌&&◌, ◌||◌, T, List}
use Rattle.std.proofs.Common.{[], ◌∷◌, map, filter, Option, Some, None, option_map, refl, sym, ap}
use Rattle.std.proofs.Common.{subst, ◌∙◌, arith, ◌==◌, nat_lt}
use Rattle.std.proofs.lemmas.Bool.{false≢true}
use Rattle.std.proofs.lemmas.Bool.Decides.{nat_tests}
use Rattle.std.specs.FinMap.Entries.{by_order, find, is_sorted, put, where_key}
use Rattle.std.specs.List.{AllByRecursion, list_any}
use Rattle.std.specs.Ordering.{is_eq}
use Rattle.std.specs.declared.cmp.Ordering.TheVariants.{Equal, Greater, Less}
use Rattle.av_base.proofs.Keys.{keys_total, same_key-is}
use Rattle.av_base.specs.Keys.{Key, key_cmp, same_key}
use Rattle.av_base.specs.Page.{page_of}
use Rattle.av_base.specs.Words.{how_many, renamed, with_at, within}
use Rattle.av_base.specs.declared.flags.Flags.{Flags}
use Rattle.av_base.specs.declared.slot.Slot.{Slot}
use Rattle.av_trace.specs.declared.note.Cause.TheVariants.{Ksm, Locked, NoSlot, Referenced}
use Rattle.av_trace.specs.declared.note.Cause.TheVariants.{WriteStarted, Writeback}
use Rattle.av_trace.specs.declared.note.Note.{Note}
use Rattle.av_trace.specs.declared.note.Note.TheVariants.{Aged, Copied, Dropped, Failed, Joined}
use Rattle.av_trace.specs.declared.note.Note.TheVariants.{Kept, Loaded, Mapped, Moved, New, Put}
use Rattle.av_trace.specs.declared.note.Note.TheVariants.{Shared, Started, Unmapped, Written}
use Rattle.av_trace.specs.declared.note.Note.TheVariants.{Zeroed}
use Rattle.av_plain.proofs.Access.{after_all-append}
use Rattle.av_plain.proofs.Event.{changed-by, how_many-map, how_many-none, how_many-same, to_slot}
use Rattle.av_plain.proofs.Event.{to_unseen, unseen-by}
use Rattle.av_plain.proofs.Ledger.Order.{both_first, both_second, below_less, find_below, weight}
use Rattle.av_plain.proofs.Sound.{flags-loads}
use Rattle.av_plain.proofs.Sound.Counts.{same-is}
use Rattle.av_plain.proofs.Sound.Entries.{flag}
use Rattle.av_plain.proofs.Sound.Sharing.{before, is-before, none-from}
use Rattle.av_plain.proofs.Sound.Steps.{settle-entries}
use Rattle.av_plain.proofs.Zap.{entries-after_zap, entries-zap_of, in_range, keys_in-is, leaving}
use Rattle.av_plain.specs.Event.{Event, after_all, after_note, after_use, after_use_of, after_zap}
use Rattle.av_plain.specs.Event.{change_entries, change_frame, if_some, key_at, off_cache}
use Rattle.av_plain.specs.Event.{off_flight, placed_entry, set_entry, to_inactive_tail, with_stale}
use Rattle.av_plain.specs.Event.{without_seen}
use Rattle.av_plain.specs.Fault.{is_locked}
use Rattle.av_plain.specs.Ledger.{Entry, InFrame, InSlot, IsBlank, Ledger, Setting, Zero, entry}
use Rattle.av_plain.specs.Ledger.{frame_at, map_count, names_frame, slot_of}
use Rattle.av_plain.specs.Load.{with_loads}
use Rattle.av_plain.specs.World.{Page, World, is_locked_page, pages}
use Rattle.av_plain.specs.Zap.{keys_in, keys_of_process, zap_of, zaps_of}
use Rattle.av_swap_laws.specs.Locks.{is_lock, lock_count}

-- ---- the count by the walk, the memories and the entries

-- the page of a key isn't locked
abbrev pub IsUnlocked : World → Key → Type 0
IsUnlocked w k = is_locked_page (pages w k.0 k.1) ≡ false

-- whether the entry would count, at the key
abbrev pub locks_at : World → ℕ → Key → Entry → Bool
locks_at w f k e = is_lock w f (k, e)

-- a frame is of a locked page where it has a lock
pub locked-counts : (w : World) (l : Ledger) (f : ℕ) → is_locked w l f ≡ nat_lt 0 (lock_count w l f)
locked-counts w l f = by_entries l.entries
  where
    names : Key × Entry → Bool
    names e = names_frame f e.1

    locked : Key → Bool
    locked k = is_locked_page (pages w k.0 k.1)

    one_more : (a b c : Bool) (n : ℕ) → c ≡ nat_lt 0 n
        → (cond b (a || c) c) ≡ nat_lt 0 (cond (a && b) 1 0 + n)
    one_more true true c n h = grind (arith, nat_tests)
    one_more true false c n h = grind (arith, nat_tests, h)
    one_more false true c n h = grind (arith, nat_tests, h)
    one_more false false c n h = grind (arith, nat_tests, h)

    has_locked : List (Key × Entry) → Bool
    has_locked es = list_any locked (map (λ (e : Key × Entry). e.0) es)

    front : (e : Key × Entry) (es : List (Key × Entry)) (b : Bool)
        → has_locked (cond b (e ∷ es) es) ≡ cond b (locked e.0 || has_locked es) (has_locked es)
    front e es true = refl
    front e es false = refl

    by_entries : (es : List (Key × Entry))
        → has_locked (filter names es) ≡ nat_lt 0 (how_many (is_lock w f) es)
    by_entries [] = refl
    by_entries (e ∷ es) = front e (filter names es) (names e)
        ∙ one_more (locked e.0) (names e) _ _ (by_entries es)

how_many-fewer : {X : Type 0} (p q : X → Bool) (xs : List X)
    → ((x : X) → p x ≡ true → q x ≡ true) → how_many p xs ≤ how_many q xs
how_many-fewer p q [] h = omega arith
how_many-fewer p q (x ∷ xs) h = one_more (p x) (q x) _ _ (h x) (how_many-fewer p q xs h)
  where
    one_more : (a b : Bool) (n k : ℕ) → (a ≡ true → b ≡ true) → n ≤ k
        → cond a 1 0 + n ≤ cond b 1 0 + k
    one_more true true n k h e = omega (arith, e)
    one_more true false n k h e = absurd (false≢true (h refl))
    one_more false b n k h e = omega (arith, e)

-- no more entries name it locked than name it
pub locks-few : (w : World) (l : Ledger) (f : ℕ) → lock_count w l f ≤ map_count l f
locks-few w l f = how_many-fewer (is_lock w f) (λ (e : Key × Entry). names_frame f e.1) l.entries
    (λ e. second (is_locked_page (pages w e.0.0 e.0.1)) (names_frame f e.1))
  where
    second : (a b : Bool) → (a && b) ≡ true → b ≡ true
    second true b h = h
    second false b h = absurd (false≢true h)

-- where the same pages are locked
pub locks-by-world : (w w' : World) (l : Ledger) (f : ℕ)
    → ((k : Key) → is_locked_page (pages w' k.0 k.1) ≡ is_locked_page (pages w k.0 k.1))
    → lock_count w' l f ≡ lock_count w l f
locks-by-world w w' l f same = how_many-same (is_lock w' f) (is_lock w f) l.entries
    (λ e. ap (λ b. b && names_frame f e.1) (same e.0))

-- with the same entries
pub locks-by-entries : (w : World) (l l' : Ledger) (f : ℕ) → l'.entries ≡ l.entries
    → lock_count w l' f ≡ lock_count w l f
locks-by-entries w l l' f same = ap (how_many (is_lock w f)) same

-- a load says nothing of locks
pub locks-loads : (m : Setting) (w : World) (l l' : Ledger) (events : List Event) (g : ℕ)
    → lock_count (with_loads m w l events) l' g ≡ lock_count w l' g
locks-loads m w l l' events g = locks-by-world w (with_loads m w l events) l' g
    (λ k. sym (told (pages (with_loads m w l events) k.0 k.1))
    ∙ ap locked_of (flags-loads m w l events k.0 k.1) ∙ told (pages w k.0 k.1))
  where
    locked_of : Option Flags → Bool
    locked_of None = false
    locked_of (Some flags) = flags.locked

    told : (o : Option Page) → locked_of (option_map (λ (x : Page). x.flags) o) ≡ is_locked_page o
    told None = refl
    told (Some p) = refl

-- ---- notes that leave what entries name

-- whether a note leaves each entry as it is, or but for its seen bit
abbrev pub keeps_names : Note → Bool
keeps_names (Zeroed p a) = false
keeps_names (New p a f) = false
keeps_names (Copied p a f) = false
keeps_names (Mapped p a f) = false
keeps_names (Unmapped f) = false
keeps_names (Joined p a f) = false
keeps_names (Moved from to) = false
keeps_names note = true

locks-unseen : (w : World) (f : ℕ) (l : Ledger) (g : ℕ)
    → lock_count w (change_entries f without_seen l) g ≡ lock_count w l g
locks-unseen w f l g = how_many-map (is_lock w g) (λ e. (e.0, to_unseen f e.1)) l.entries
    ∙ how_many-same _ _ l.entries (λ e. ap (λ b. is_locked_page (pages w e.0.0 e.0.1) && b)
    (unseen-by f (names_frame g) (λ h seen now. refl) e.1))

pub locks-noted : (w : World) (note : Note) (l : Ledger) (g : ℕ) → keeps_names note ≡ true
    → lock_count w (after_note note l) g ≡ lock_count w l g
locks-noted w (Zeroed p a) l g h = absurd (false≢true h)
locks-noted w (New p a f) l g h = absurd (false≢true h)
locks-noted w (Copied p a f) l g h = absurd (false≢true h)
locks-noted w (Mapped p a f) l g h = absurd (false≢true h)
locks-noted w (Unmapped f) l g h = absurd (false≢true h)
locks-noted w (Joined p a f) l g h = absurd (false≢true h)
locks-noted w (Moved from to) l g h = absurd (false≢true h)
locks-noted w (Loaded s f) l g h = refl
locks-noted w (Put f s) l g h = refl
locks-noted w (Started s) l g h = refl
locks-noted w (Written s) l g h = by (frame_at l s)
  where
    by : (o : Option ℕ)
        → lock_count w (if_some o to_inactive_tail (off_flight s l)) g ≡ lock_count w l g
    by None = refl
    by (Some f) = refl
locks-noted w (Failed s) l g h = refl
locks-noted w (Dropped s) l g h = locks-by-entries w l (after_note (Dropped s) l) g
    (settle-entries (frame_at l s) (off_cache s l))
locks-noted w (Kept f Writeback) l g h = refl
locks-noted w (Kept f WriteStarted) l g h = refl
locks-noted w (Kept f Referenced) l g h = locks-unseen w f l g
locks-noted w (Kept f NoSlot) l g h = refl
locks-noted w (Kept f Locked) l g h = refl
locks-noted w (Kept f Ksm) l g h = refl
locks-noted w (Aged f) l g h = locks-unseen w f l g
locks-noted w (Shared f) l g h = refl

-- ---- an entry that is set

-- how many pass a test of key and entry, after one is put in
count-put_at : (p : Key × Entry → Bool) (k : Key) (v : Entry) (es : List (Key × Entry))
    → T (is_sorted key_cmp es)
    → how_many p (put key_cmp k v es) + weight (λ x. p (k, x)) (find key_cmp k es)
    ≡ how_many p es + cond (p (k, v)) 1 0
count-put_at p k v [] h = single _
  where
    single : (v : ℕ) → (v + 0) + 0 ≡ 0 + v
    single v = omega arith
count-put_at p k v (e ∷ es) h =
    elim (key_cmp k e.0) as (λ r. key_cmp k e.0 ≡ r
    → how_many p (by_order r ((k, v) ∷ e ∷ es) ((e.0, v) ∷ es) (e ∷ put key_cmp k v es))
    + weight (λ x. p (k, x)) (cond (is_eq r) (Some e.1) (find key_cmp k es))
    ≡ how_many p (e ∷ es) + cond (p (k, v)) 1 0) [
      | Less ↦ λ is.
          let below = below_less keys_total (λ _. true) k e.0 es is (both_first _ _ h) in
          let none = find_below keys_total (λ _. true) k es below in
          rw none (added _ _ _)
      | Equal ↦ λ is. subst (λ x. (cond (p (e.0, v)) 1 0 + how_many p es) + cond (p (x, e.1)) 1 0
          ≡ (cond (p e) 1 0 + how_many p es) + cond (p (x, v)) 1 0)
          (sym (same_key-is k e.0 (ap is_eq is))) (swapped _ _ _)
      | Greater ↦ λ is. deeper _ _ _ _ _ (count-put_at p k v es (both_second _ _ h))
    ] refl
  where
    added : (v e n : ℕ) → (v + (e + n)) + 0 ≡ (e + n) + v
    added v e n = omega arith

    swapped : (v e n : ℕ) → (v + n) + e ≡ (e + n) + v
    swapped v e n = omega arith

    deeper : (e n m w v : ℕ) → n + w ≡ m + v → (e + n) + w ≡ (e + m) + v
    deeper e n m w v h = omega arith

pub locks-set : (w : World) (k : Key) (e : Entry) (l : Ledger) (f : ℕ)
    → T (is_sorted key_cmp l.entries)
    → lock_count w (set_entry k e l) f + weight (locks_at w f k) (entry l k)
    ≡ lock_count w l f + cond (locks_at w f k e) 1 0
locks-set w k e l f h = count-put_at (is_lock w f) k e l.entries h

unnamed : (b : Bool) → ◌≡◌ {A = ℕ} (cond (b && false) 1 0) 0
unnamed true = refl
unnamed false = refl

-- what the key has names no frame
blank-lock : (w : World) (g : ℕ) (k : Key) (o : Option Entry) → IsBlank o
    → weight (locks_at w g k) o ≡ 0
blank-lock w g k None h = refl
blank-lock w g k (Some Zero) h = unnamed (is_locked_page (pages w k.0 k.1))
blank-lock w g k (Some (InFrame f seen)) h = absurd h
blank-lock w g k (Some (InSlot s)) h = absurd h

-- what the key has is of a page that isn't locked
unlocked-lock : (w : World) (g : ℕ) (k : Key) (o : Option Entry) → IsUnlocked w k
    → weight (locks_at w g k) o ≡ 0
unlocked-lock w g k None h = refl
unlocked-lock w g k (Some e) h = flag (locks_at w g k e) false (ap (λ b. b && names_frame g e) h)

more_is : (n w m c : ℕ) → n + w ≡ m + c → w ≡ 0 → n ≡ m + c
more_is n w m c h e = omega arith

same_is : (n w m c : ℕ) → n + w ≡ m + c → w ≡ c → n ≡ m
same_is n w m c h e = omega arith

pub locks-new : (w : World) (p a f : ℕ) (l : Ledger) (g : ℕ) → T (is_sorted key_cmp l.entries)
    → IsBlank (entry l (key_at p a)) → lock_count w (after_note (New p a f) l) g
    ≡ lock_count w l g + cond (is_locked_page (pages w p (page_of a)) && g == f) 1 0
locks-new w p a f l g h blank = let k = key_at p a in
    more_is _ _ _ _ (locks-set w k (InFrame f false) l g h) (blank-lock w g k (entry l k) blank)

pub locks-zeroed : (w : World) (p a : ℕ) (l : Ledger) (g : ℕ) → T (is_sorted key_cmp l.entries)
    → IsBlank (entry l (key_at p a))
    → lock_count w (after_note (Zeroed p a) l) g ≡ lock_count w l g
locks-zeroed w p a l g h blank = let k = key_at p a in
    same_is _ _ _ _ (locks-set w k Zero l g h)
    (blank-lock w g k (entry l k) blank ∙ sym (unnamed (is_locked_page (pages w k.0 k.1))))

pub locks-mapped : (w : World) (p a f : ℕ) (l : Ledger) (s : Slot) (g : ℕ)
    → T (is_sorted key_cmp l.entries) → entry l (key_at p a) ≡ Some (InSlot s)
    → lock_count w (after_note (Mapped p a f) l) g
    ≡ lock_count w l g + cond (is_locked_page (pages w p (page_of a)) && g == f) 1 0
locks-mapped w p a f l s g h is = let k = key_at p a in
    more_is _ _ _ _ (locks-set w k (InFrame f false) l g h)
    (ap (weight (locks_at w g k)) is ∙ unnamed (is_locked_page (pages w k.0 k.1)))

-- the entry names another frame now
locks-changed : (w : World) (k : Key) (f : ℕ) (l : Ledger) (g : ℕ)
    → T (is_sorted key_cmp l.entries)
    → lock_count w (change_frame k f l) g + weight (locks_at w g k) (entry l k)
    ≡ lock_count w l g + cond (locks_at w g k (InFrame f false)) 1 0
locks-changed w k f l g h = ap (λ n. n + weight (locks_at w g k) (entry l k))
    (changed-by (λ l. lock_count w l g) (λ f l. refl) k f l)
    ∙ locks-set w k (InFrame f false) l g h

pub locks-copied : (w : World) (p a f : ℕ) (l : Ledger) (g : ℕ) (seen : Bool) (j : ℕ)
    → T (is_sorted key_cmp l.entries) → entry l (key_at p a) ≡ Some (InFrame g seen)
    → lock_count w (after_note (Copied p a f) l) j
    + cond (is_locked_page (pages w p (page_of a)) && j == g) 1 0
    ≡ lock_count w l j + cond (is_locked_page (pages w p (page_of a)) && j == f) 1 0
locks-copied w p a f l g seen j h is = let k = key_at p a in
    ap (λ o. lock_count w (change_frame k f l) j + weight (locks_at w j k) o) (sym is)
    ∙ locks-changed w k f l j h

pub locks-joined : (w : World) (p a f : ℕ) (l : Ledger) (g : ℕ) → T (is_sorted key_cmp l.entries)
    → IsUnlocked w (key_at p a)
    → lock_count w (after_note (Joined p a f) l) g ≡ lock_count w l g
locks-joined w p a f l g h unlocked = let k = key_at p a in
    same_is _ _ _ _ (locks-changed w k f l g h)
    (unlocked-lock w g k (entry l k) unlocked
    ∙ sym (unlocked-lock w g k (Some (InFrame f false)) unlocked))

pub locks-used : (w : World) (write : Bool) (k : Key) (l : Ledger) (g : ℕ)
    → T (is_sorted key_cmp l.entries)
    → lock_count w (after_use write k l) g ≡ lock_count w l g
locks-used w write k l g h = by write (entry l k) refl
  where
    stale : (o : Option Slot) (l : Ledger)
        → lock_count w (if_some o (with_stale true) l) g ≡ lock_count w l g
    stale None l = refl
    stale (Some s) l = refl

    seen_now : (f : ℕ) (seen : Bool) → entry l k ≡ Some (InFrame f seen)
        → lock_count w (set_entry k (InFrame f true) l) g ≡ lock_count w l g
    seen_now f seen is = same_is _ _ _ _ (locks-set w k (InFrame f true) l g h)
        (ap (weight (locks_at w g k)) is)

    by : (write : Bool) (o : Option Entry) → entry l k ≡ o
        → lock_count w (after_use_of write k l o) g ≡ lock_count w l g
    by write None is = refl
    by write (Some Zero) is = refl
    by write (Some (InSlot s)) is = refl
    by false (Some (InFrame f seen)) is = seen_now f seen is
    by true (Some (InFrame f seen)) is =
        stale (slot_of l f) (set_entry k (InFrame f true) l) ∙ seen_now f seen is

-- ---- all entries of a frame change

-- two tests of which each agrees where a third fails, which none passes
how_many-but : {X : Type 0} (p q r : X → Bool) (xs : List X)
    → ((x : X) → r x ≡ false → p x ≡ q x) → how_many r xs ≡ 0 → how_many p xs ≡ how_many q xs
how_many-but p q r [] h none = refl
how_many-but p q r (x ∷ xs) h none =
    λ i. cond (h x (first (r x) _ none) i) 1 0 + how_many-but p q r xs h (rest _ _ none) i
  where
    first : (b : Bool) (n : ℕ) → cond b 1 0 + n ≡ 0 → b ≡ false
    first true n e = absurd (omega (arith, e))
    first false n e = refl

    rest : (a n : ℕ) → a + n ≡ 0 → n ≡ 0
    rest a n e = omega (arith, e)

pub locks-unmapped : (w : World) (f : ℕ) (l : Ledger) (g : ℕ) → is_locked w l f ≡ false →
    lock_count w (after_note (Unmapped f) l) g ≡ lock_count w l g
locks-unmapped w f l g free = by (slot_of l f)
  where
    none : lock_count w l f ≡ 0
    none = let counts = sym (locked-counts w l f) ∙ free in grind (arith, nat_tests, counts)

    -- an entry of the frame is of a page that isn't locked
    each : (s : Slot) (b : Bool) (e : Entry) → (b && names_frame f e) ≡ false
        → (b && names_frame g (to_slot f s e)) ≡ (b && names_frame g e)
    each s false e h = refl
    each s true Zero h = refl
    each s true (InSlot t) h = refl
    each s true (InFrame j seen) h = ap (λ c. names_frame g (cond c (InSlot s) (InFrame j seen))) h

    by : (o : Option Slot)
        → lock_count w (if_some o (λ s. change_entries f (λ _. InSlot s)) l) g ≡ lock_count w l g
    by None = refl
    by (Some s) = how_many-map (is_lock w g) (λ e. (e.0, to_slot f s e.1)) l.entries
        ∙ how_many-but _ (is_lock w g) (is_lock w f) l.entries
        (λ e. each s (is_locked_page (pages w e.0.0 e.0.1)) e.1) none

pub locks-moved : (w : World) (from to : ℕ) (l : Ledger) (g : ℕ) → map_count l to ≡ 0
    → (from == to) ≡ false → lock_count w (after_note (Moved from to) l) g
    ≡ with_at from 0 (with_at to (lock_count w l from) (lock_count w l)) g
locks-moved w from to l g free differ =
    how_many-map (is_lock w g) (λ e. (e.0, placed_entry (renamed from to) e.1)) l.entries
    ∙ by (g == from) refl
  where
    apart : (to == from) ≡ false
    apart = grind (arith, nat_tests, differ)

    now : ℕ → Key × Entry → Bool
    now g e = is_lock w g (e.0, placed_entry (renamed from to) e.1)

    gone : (b : Bool) (e : Entry)
        → (b && names_frame from (placed_entry (renamed from to) e)) ≡ false
    gone false e = refl
    gone true Zero = refl
    gone true (InFrame j seen) = none-from from to apart j
    gone true (InSlot s) = refl

    moves : (g == from) ≡ false → (b : Bool) (e : Entry) → names_frame to e ≡ false
        → (b && names_frame g (placed_entry (renamed from to) e))
        ≡ (b && names_frame (before from to g) e)
    moves other false e none = refl
    moves other true Zero none = refl
    moves other true (InFrame j seen) none = is-before from to apart g j other none
    moves other true (InSlot s) none = refl

    at : (b : Bool)
        → lock_count w l (cond b from g) ≡ cond b (lock_count w l from) (lock_count w l g)
    at true = refl
    at false = refl

    by : (b : Bool) → (g == from) ≡ b → how_many (now g) l.entries
        ≡ cond b 0 (cond (g == to) (lock_count w l from) (lock_count w l g))
    by true is = ap (λ y. how_many (now y) l.entries) (same-is g from is)
        ∙ how_many-none (now from) l.entries
        (λ e. gone (is_locked_page (pages w e.0.0 e.0.1)) e.1)
    by false is = how_many-but (now g) (is_lock w (before from to g))
        (λ (e : Key × Entry). names_frame to e.1) l.entries
        (λ e none. moves is (is_locked_page (pages w e.0.0 e.0.1)) e.1 none) free ∙ at (g == to)

-- ---- entries that go

-- those that go didn't pass
how_many-left : (p : Key × Entry → Bool) (t : Key → Bool) (es : List (Key × Entry))
    → ((e : Key × Entry) → t e.0 ≡ false → p e ≡ false)
    → how_many p (where_key key_cmp t es) ≡ how_many p es
how_many-left p t [] h = refl
how_many-left p t (e ∷ es) h = by (how_many-left p t es h) (t e.0) refl
  where
    by : how_many p (where_key key_cmp t es) ≡ how_many p es → (b : Bool) → t e.0 ≡ b
        → how_many p (cond b (e ∷ where_key key_cmp t es) (where_key key_cmp t es))
        ≡ cond (p e) 1 0 + how_many p es
    by rest true is = ap (λ n. cond (p e) 1 0 + n) rest
    by rest false is = let none = flag (p e) false (h e is) in omega (arith, rest, none)

locks-leaving : (w : World) (k : Key) (l : Ledger) (g : ℕ) → IsUnlocked w k
    → lock_count w (leaving k l) g ≡ lock_count w l g
locks-leaving w k l g unlocked = how_many-left (is_lock w g) (λ q. not (same_key k q)) l.entries
    (λ e is. ap (λ b. b && names_frame g e.1)
    (subst (IsUnlocked w) (same_key-is k e.0 (turned (same_key k e.0) is)) unlocked))
  where
    turned : (b : Bool) → not b ≡ false → b ≡ true
    turned true h = refl
    turned false h = sym h

pub locks-zapped : (w : World) (k : Key) (l : Ledger) (g : ℕ) → IsUnlocked w k
    → lock_count w (after_zap k l) g ≡ lock_count w l g
locks-zapped w k l g unlocked =
    locks-by-entries w (leaving k l) (after_zap k l) g (entries-after_zap k l)
    ∙ locks-leaving w k l g unlocked

-- an entry, and the slot that it leaves as an orphan
pub locks-zap : (w : World) (k : Key) (l : Ledger) (g : ℕ) → IsUnlocked w k
    → lock_count w (after_all l (zap_of l k)) g ≡ lock_count w l g
locks-zap w k l g unlocked =
    locks-by-entries w (leaving k l) (after_all l (zap_of l k)) g (entries-zap_of l k)
    ∙ locks-leaving w k l g unlocked

pub locks-zaps : (w : World) (ks : List Key) (l : Ledger) (g : ℕ)
    → AllByRecursion (IsUnlocked w) ks
    → lock_count w (after_all l (zaps_of l ks)) g ≡ lock_count w l g
locks-zaps w [] l g h = refl
locks-zaps w (k ∷ ks) l g h = let now = after_all l (zap_of l k) in
    ap (λ x. lock_count w x g) (after_all-append l (zap_of l k) (zaps_of now ks))
    ∙ locks-zaps w ks now g h.1 ∙ locks-zap w k l g h.0

all-filter : (P : Key → Type 0) (t : Key → Bool) (ks : List Key)
    → ((k : Key) → t k ≡ true → P k) → AllByRecursion P (filter t ks)
all-filter P t [] h = tt
all-filter P t (k ∷ ks) h = by (all-filter P t ks h) (t k) refl
  where
    by : AllByRecursion P (filter t ks) → (b : Bool) → t k ≡ b
        → AllByRecursion P (cond b (k ∷ filter t ks) (filter t ks))
    by rest true is = (h k is, rest)
    by rest false is = rest

-- the entries of a range in which no page is locked
pub locks-range : (w : World) (p from n : ℕ) (l : Ledger) (g : ℕ)
    → ((page : ℕ) → within from n page ≡ true → is_locked_page (pages w p page) ≡ false)
    → lock_count w (after_all l (zaps_of l (keys_in l p from n))) g ≡ lock_count w l g
locks-range w p from n l g unlocked = locks-zaps w (keys_in l p from n) l g
    (subst (AllByRecursion (IsUnlocked w)) (sym (keys_in-is l p from n))
    (all-filter (IsUnlocked w) (in_range p from n) (map (λ (e : Key × Entry). e.0) l.entries) each))
  where
    each : (k : Key) → in_range p from n k ≡ true → IsUnlocked w k
    each k is =
        let same : k.0 ≡ p = grind (arith, nat_tests, is) in
        let inside : within from n k.1 ≡ true = grind (arith, nat_tests, is) in
        ap (λ q. is_locked_page (pages w q k.1)) same ∙ unlocked k.1 inside

-- and those of a process
pub locks-process : (w : World) (p : ℕ) (l : Ledger) (g : ℕ)
    → ((page : ℕ) → is_locked_page (pages w p page) ≡ false)
    → lock_count w (after_all l (zaps_of l (keys_of_process l p))) g ≡ lock_count w l g
locks-process w p l g unlocked = locks-zaps w (keys_of_process l p) l g
    (all-filter (IsUnlocked w) (λ k. k.0 == p) (map (λ (e : Key × Entry). e.0) l.entries) each)
  where
    each : (k : Key) → (k.0 == p) ≡ true → IsUnlocked w k
    each k is = ap (λ q. is_locked_page (pages w q k.1)) (same-is k.0 p is) ∙ unlocked k.1
