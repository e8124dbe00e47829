-- Where no swap area that is on has a page no slot is in use: a page has at most one note, and is
-- never lost. So it is without a device, and where no area
-- is on.
use Rattle.std.specs.List.{AllByRecursion, range_with_len}
use Rattle.std.specs.Prelude.{MatchBool, MatchOption, IsTrue, unwrap_or}
use Rattle.std.proofs.Common.{◌≡◌, ◌⊎◌, inl, inr, ℕ, zero, suc, ◌+◌, ◌-◌, ◌<◌, min, Bool, true, false, cond, not, ◌&&◌, List, [], ◌∷◌, ◌++◌, take, Option, Some, None, is_none, is_some, refl, sym, ap, subst, ◌∙◌, arith, ◌==◌, nat_lt, append-nil}
use Rattle.std.proofs.lemmas.Bool.Decides.{nat_tests}
use Rattle.av_base.specs.Keys.{Key, key_cmp}
use Rattle.av_base.specs.Page.{address_of}
use Rattle.av_base.specs.Words.{how_many}
use Rattle.av_base.specs.declared.slot.Slot.{Slot}
use Rattle.av_trace.specs.declared.note.Note.{Note}
use Rattle.av_trace.specs.declared.reply.OutOf.{OutOf}
use Rattle.av_trace.specs.declared.note.Note.TheVariants.{Aged, Copied, Dropped, Failed, Kept, Loaded, Mapped, New, Put, Started, Unmapped, Written, Zeroed}
use Rattle.av_plain.specs.Device.{HasNoDevice}
use Rattle.av_plain.specs.World.{Page, World, pages}
use Rattle.av_plain.specs.Ledger.{has_free_slot, is_open, slot_count, Cached, Entry, InFrame, InSlot, Ledger, Setting, Zero, entry, frame_at, has_free, is_on, is_orphan, is_usable, may_give, names_slot, same_slot, size_of, slot_entries, slot_of, SwapArea}
use Rattle.av_plain.specs.Event.{Event, EntriesMoved, Used, after_all, after_note, after_notes, after_use, after_use_of, change_entries, if_some, note_events, notes_of, off_cache, off_flight, set_entry, to_inactive_tail, when, with_stale}
use Rattle.av_plain.specs.Pass.{Completes, IsPass, IsSlotFor, Seeks, Spared, Turns, frames_in_turn, is_stuck, stays_cached, turn_notes}
use Rattle.av_plain.specs.Fault.{drop_of_slot, ComesIn, CopyOnWrite, Denied, IsMade, Lost, MapCached, Need, NewPage, Ready, RunsOut, Serves, Sparing, Starved, Stop, SwapIn, Touches, ZeroPage, drop_at, drop_of_entry, asks_copy, need, permits, pinned_by, sparing, was_slot}
use Rattle.av_plain.specs.Access.{Accesses, End, Stopped, Whole, page_events}
use Rattle.av_plain.specs.Sound.{AreasFit, count, flights, is_there, slots}
use Rattle.av_plain.proofs.Event.{slot_entries-unseen}
use Rattle.av_plain.proofs.Faultless.{Faultless, IsFaultless, faultless-causes, is-faultless, no-ends, unused-follows}
use Rattle.av_plain.proofs.Ledger.{how_many-found}
use Rattle.av_plain.proofs.Ledger.NoSwap.{no_slot}
use Rattle.av_plain.proofs.Access.{after_all-append, note_events-all, notes_of-append, notes_of-note_events}
use Rattle.av_plain.proofs.Sound.Counts.{slot-itself}
use Rattle.av_plain.proofs.Sound.There.{InAreas, accesses-in, settle-on}
use Rattle.std.specs.FinMap.Entries.{find, is_sorted}
use Rattle.std.specs.Ordering.{eq_by_cmp, nat_cmp}
use Rattle.std.specs.Prelude.{if◌then◌else◌, length, T}
use Rattle.av_trace.specs.declared.command.Command.{Command}
use Rattle.av_trace.specs.declared.command.Command.TheVariants.{Spawn, Fork, Exit, Mmap, Mremap, Munmap, Mprotect, Madvise, Mlock, Munlock, Read, Write, Reclaim, Age, Complete, Swapon, Swapoff, Maps, Areas as AsksAreas, Rmap as AsksRmap, Entry as AsksEntry, Slot as AsksSlot, Stat}
use Rattle.av_trace.specs.declared.reply.Errno.TheVariants.{Ebusy, Einval}
use Rattle.av_trace.specs.declared.reply.Reply.{Reply}
use Rattle.av_trace.specs.declared.row.Row.{Row}
use Rattle.av_trace.specs.declared.reply.Answer.{Answer}
use Rattle.av_plain.specs.Access.{bytes_before, pages_of_access, read_answer, stop_answer, write_answer}
use Rattle.av_plain.specs.Event.{after_zap}
use Rattle.av_plain.specs.Mremap.{range_zaps, remap_events}
use Rattle.av_plain.proofs.Mremap.{then_target}
use Rattle.av_plain.proofs.Sound.Zap.{zaps-in}
use Rattle.av_plain.specs.Pass.{how_many_frames}
use Rattle.av_plain.proofs.Wrote.{ends, is_end}
use Rattle.av_plain.specs.Reclaim.{Outcome, cause_of, leave_notes}
use Rattle.av_trace.specs.declared.note.Cause.{Cause}
use Rattle.av_trace.specs.declared.note.Cause.TheVariants.{Locked, NoSlot, Referenced, WriteStarted, Writeback}
use Rattle.av_plain.specs.Refusal.{Tests, is_off, is_outside, no_device_at, refusal, tests}
use Rattle.av_plain.specs.Sound.{AllSound}
use Rattle.av_plain.specs.Swapon.{is_swapon}
use Rattle.av_plain.specs.Step.{Follows, IsLegal, causes}
use Rattle.av_plain.specs.Zap.{keys_in, orphan_drop, slot_behind_key, zap_of, zaps_of}
use Rattle.av_plain.proofs.Zap.{in_order-after_zap, same_swap-after_zap, slot_entries-after_zap, zap_of-alone}
use Rattle.av_plain.specs.Lock.{BringsIn, accesses_of, lock_event, with_lock}
use Rattle.av_base.specs.Page.{pages_met}
use Rattle.av_plain.specs.World.{pages_to_hole}
use Rattle.av_base.specs.Page.{page_of}
use Rattle.av_trace.specs.declared.reply.Answer.TheVariants.{Refused}
use Rattle.av_trace.specs.declared.reply.Errno.TheVariants.{Enomem}
use Rattle.av_trace.specs.declared.note.Note.TheVariants.{Joined, Moved, Shared}
use Rattle.av_trace.specs.declared.note.Cause.TheVariants.{Ksm, Locked}
use Rattle.av_plain.proofs.Event.{changed-by}
use Rattle.av_plain.specs.Pass.{has_turn}
use Rattle.av_trace.specs.declared.command.Command.TheVariants.{Compact, Merge}
use Rattle.av_plain.specs.Event.{key_at}

-- nothing is cached or in flight, and no entry names a slot
pub record HasNoSlots (l : Ledger) : Type 0 where
  pub cache : l.cache ≡ []
  pub flight : l.flight ≡ []
  pub entries : (s : Slot) → slot_entries l s ≡ 0

pub never : ◌≡◌ {A = Bool} false true → ⊥
never e = cc

-- ---- no area has a page

-- no swap area that is on has a page
abbrev pub HasNoArea : Setting → Ledger → Type 0
HasNoArea m l = (k : ℕ) → (is_on l k && nat_lt 0 (size_of m k)) ≡ false

pub without-device : (m : Setting) (l : Ledger) → HasNoDevice m → HasNoArea m l
without-device m l none k = ap (λ o. is_on l k && nat_lt 0 (unwrap_or o 0)) (none k) ∙ by (is_on l k)
  where
    by : (b : Bool) → (b && false) ≡ false
    by true = refl
    by false = refl

pub all-off : (m : Setting) (l : Ledger) → l.on ≡ [] → HasNoArea m l
all-off m l off k = ap (λ on. is_some (find nat_cmp k on) && nat_lt 0 (size_of m k)) off

-- it stays so while the same areas are on
pub area-stays : (m : Setting) (l l' : Ledger) → l'.on ≡ l.on → HasNoArea m l → HasNoArea m l'
area-stays m l l' same none k = ap (λ on. is_some (find nat_cmp k on) && nat_lt 0 (size_of m k)) same ∙ none k

positive : (p n : ℕ) → nat_lt p n ≡ true → nat_lt 0 n ≡ true
positive p n h = grind (arith, nat_tests, h)

-- ---- no slot is there

not-there : (m : Setting) (l : Ledger) (s : Slot) → HasNoArea m l → is_there m l s ≡ true → ⊥
not-there m l s none h = by (is_on l s.area) (nat_lt 0 s.page) (nat_lt s.page (size_of m s.area)) (is_usable m s) (positive s.page (size_of m s.area))
    (none s.area) h
  where
    by : (a b c d : Bool) → (c ≡ true → nat_lt 0 (size_of m s.area) ≡ true) → (a && nat_lt 0 (size_of m s.area)) ≡ false
        → (a && b && c && d) ≡ true → ⊥
    by true true true true f e h = never (sym e ∙ f refl)
    by true true true false f e h = never h
    by true true false d f e h = never h
    by true false c d f e h = never h
    by false b c d f e h = never h

zero-of : (n : ℕ) → (0 < n → ⊥) → n ≡ 0
zero-of zero h = refl
zero-of (suc n) h = absurd (h (omega arith))

nothing-cached : (cs : List Cached) → ((s : Slot) → how_many (λ (c : Cached). same_slot s c.slot) cs ≡ 0) → cs ≡ []
nothing-cached [] h = refl
nothing-cached (c ∷ cs) h = absurd (by (same_slot c.slot c.slot) (slot-itself c.slot) (h c.slot))
  where
    by : (b : Bool) → b ≡ true → cond b 1 0 + how_many (λ (d : Cached). same_slot c.slot d.slot) cs ≡ 0 → ⊥
    by true is e = omega (arith, e)
    by false is e = never is

nothing-flying : (ss : List Slot) → ((s : Slot) → how_many (same_slot s) ss ≡ 0) → ss ≡ []
nothing-flying [] h = refl
nothing-flying (t ∷ ss) h = absurd (by (same_slot t t) (slot-itself t) (h t))
  where
    by : (b : Bool) → b ≡ true → cond b 1 0 + how_many (same_slot t) ss ≡ 0 → ⊥
    by true is e = omega (arith, e)
    by false is e = never is

pub no-slots : (m : Setting) (l : Ledger) → HasNoArea m l → InAreas m l → HasNoSlots l
no-slots m l none h = record {
  cache = nothing-cached l.cache (λ s. let z = counted s in let e : slots l s ≡ 0 = omega (arith, z) in e);
  flight = nothing-flying l.flight (λ s. let z = counted s in let f = h.sound.flying s in let e : flights l s ≡ 0 = omega (arith, z, f) in e);
  entries = λ s. let z = counted s in omega (arith, z);
}
  where
    counted : (s : Slot) → slots l s + slot_entries l s ≡ 0
    counted s = zero-of (count l s) (λ some. not-there m l s none (h.there s some))

-- ---- a pass has no notes

pub ungiven : (m : Setting) (closing : Option ℕ) (l : Ledger) (s : Slot) → HasNoArea m l → IsTrue (may_give m closing l s) → ⊥
ungiven m closing l s none h = by (is_on l s.area) (nat_lt 0 s.page) (nat_lt s.page (size_of m s.area)) (slot_count l s == 0) (is_usable m s)
    (is_open closing s.area) (has_free_slot m l s.area) (positive s.page (size_of m s.area)) (none s.area) h
  where
    by : (a b c d e f g : Bool) → (c ≡ true → nat_lt 0 (size_of m s.area) ≡ true) → (a && nat_lt 0 (size_of m s.area)) ≡ false →
        IsTrue (a && b && c && d && e && f && g) → ⊥
    by true true true d e f g pos is h = never (sym is ∙ pos refl)
    by true true false d e f g pos is h = never h
    by true false c d e f g pos is h = never h
    by false b c d e f g pos is h = never h

turns-nothing : (m : Setting) (sp : Spared) (l : Ledger) (fs : List ℕ) (notes : List Note) → HasNoArea m l → l.cache ≡ []
    → Turns m sp l fs notes → notes ≡ []
turns-nothing m sp l [] notes none cache h = h
turns-nothing m sp l (f ∷ fs) notes none cache h = by (is_stuck m sp l f) (turns-nothing m sp l fs notes none cache) h
  where
    for_it : (s : Slot) (o : Option Slot) → o ≡ None → MatchOption o (IsTrue (may_give m sp.closing l s)) (λ t. s ≡ t) → ⊥
    for_it s None e q = ungiven m sp.closing l s none q
    for_it s (Some t) e q = cc

    by : (b : Bool) → (Turns m sp l fs notes → notes ≡ []) → MatchBool b (Turns m sp l fs notes)
        ((s : Slot) × (failed : Bool) × IsSlotFor m sp l f s × MatchBool (stays_cached l f s failed)
        ((rest : List Note) × (notes ≡ turn_notes l f s failed ++ rest) × Turns m sp (after_notes l (turn_notes l f s failed)) fs rest)
        (notes ≡ turn_notes l f s failed ++ Dropped s ∷ [])) → notes ≡ []
    by true rest q = rest q
    by false rest q = absurd (for_it q.0 (slot_of l f) (no_slot l f cache) q.2)

pub seeks-nothing : (m : Setting) (sp : Spared) (l : Ledger) (notes : List Note) → HasNoArea m l → HasNoSlots l → Seeks m sp l notes → notes ≡ []
seeks-nothing m sp l notes none h s = by (has_free m l) s
  where
    completed : (ts : List Slot) (ns : List Note) → ts ≡ [] → Completes l ts ns → ns ≡ []
    completed [] ns e c = c
    completed (t ∷ ts) ns e c = cc

    turned : (b : Bool) (done turns : List Note) → done ≡ [] → MatchBool b (turns ≡ [])
        (Turns m sp (after_notes l done) (frames_in_turn sp (after_notes l done)) turns) → turns ≡ []
    turned true done turns e q = q
    turned false done turns e q = turns-nothing m sp (after_notes l done) (frames_in_turn sp (after_notes l done)) turns
        (subst (λ ns. HasNoArea m (after_notes l ns)) (sym e) none) (ap (λ ns. (after_notes l ns).cache) e ∙ h.cache) q

    by : (b : Bool) → MatchBool b (notes ≡ []) (IsPass m sp l notes) → notes ≡ []
    by true q = q
    by false (done, turns, all, completes, later) =
        let e = completed l.flight done h.flight completes in
        all ∙ ap (λ ns. ns ++ turns) e ∙ turned (has_free m (after_notes l done)) done turns e later

-- ---- a page

-- a need without a slot
abbrev IsPlain : Need → Type 0
IsPlain (SwapIn s) = ⊥
IsPlain (MapCached f) = ⊥
IsPlain Ready = Unit {0}
IsPlain ZeroPage = Unit {0}
IsPlain NewPage = Unit {0}
IsPlain (CopyOnWrite g) = Unit {0}

plain-need : (l : Ledger) (write : Bool) (k : Key) → HasNoSlots l → IsPlain (need write l (entry l k))
plain-need l write k h = by write (entry l k) refl
  where
    slot : (s : Slot) → entry l k ≡ Some (InSlot s) → ⊥
    slot s is = let some = how_many-found (names_slot s) k l.entries (InSlot s) is (slot-itself s) in let z = h.entries s in omega (arith, some, z)

    shared : (b : Bool) (g : ℕ) → IsPlain (cond b (CopyOnWrite g) Ready)
    shared true g = tt
    shared false g = tt

    by : (write : Bool) (o : Option Entry) → entry l k ≡ o → IsPlain (need write l o)
    by false None is = tt
    by true None is = tt
    by false (Some Zero) is = tt
    by true (Some Zero) is = tt
    by false (Some (InFrame g seen)) is = tt
    by true (Some (InFrame g seen)) is = shared (asks_copy l g) g
    by false (Some (InSlot s)) is = absurd (slot s is)
    by true (Some (InSlot s)) is = absurd (slot s is)

-- the notes that a page may have
abbrev pub IsPlainAt : Setting → Key → Note → Type 0
IsPlainAt m k (Zeroed p a) = (p ≡ k.0) × (a ≡ address_of k.1)
IsPlainAt m k (New p a f) = (p ≡ k.0) × (a ≡ address_of k.1) × f < m.frames
IsPlainAt m k (Copied p a f) = (p ≡ k.0) × (a ≡ address_of k.1) × f < m.frames
IsPlainAt m k (Loaded s f) = ⊥
IsPlainAt m k (Mapped p a f) = ⊥
IsPlainAt m k (Put f s) = ⊥
IsPlainAt m k (Unmapped f) = ⊥
IsPlainAt m k (Started s) = ⊥
IsPlainAt m k (Written s) = ⊥
IsPlainAt m k (Failed s) = ⊥
IsPlainAt m k (Dropped s) = ⊥
IsPlainAt m k (Kept f c) = ⊥
IsPlainAt m k (Aged f) = ⊥
IsPlainAt m k (Shared f) = ⊥
IsPlainAt m k (Joined p a f) = ⊥
IsPlainAt m k (Moved a b) = ⊥

abbrev pub ArePlainAt : Setting → Key → List Note → Type 0
ArePlainAt m k notes = AllByRecursion (IsPlainAt m k) notes

nothing-comes : (m : Setting) (sp : Sparing) (l : Ledger) (k : Key) (n : Need) (notes : List Note) → IsPlain n → ComesIn m sp l k n notes → notes ≡ []
nothing-comes m sp l k Ready notes p h = h
nothing-comes m sp l k ZeroPage notes p h = h
nothing-comes m sp l k NewPage notes p h = h
nothing-comes m sp l k (CopyOnWrite g) notes p h = h
nothing-comes m sp l k (SwapIn s) notes p h = absurd p
nothing-comes m sp l k (MapCached f) notes p h = absurd p

made-plain : (m : Setting) (sp : Sparing) (l : Ledger) (k : Key) (n : Need) (notes : List Note) → HasNoArea m l → HasNoSlots l →
    IsMade m sp l k n notes → ArePlainAt m k notes
made-plain m sp l k Ready notes none q h = subst (ArePlainAt m k) (sym h) tt
made-plain m sp l k ZeroPage notes none q h = subst (ArePlainAt m k) (sym h) ((refl, refl), tt)
made-plain m sp l k NewPage notes none q h =
    subst (ArePlainAt m k)
    (sym (h.whole ∙ ap (λ ns. ns ++ New k.0 (address_of k.1) h.frame ∷ []) (seeks-nothing m (sp l None) l h.sought none q h.seeks)))
    ((refl, refl, h.in_range), tt)
made-plain m sp l k (CopyOnWrite g) notes none q h =
    subst (ArePlainAt m k) (sym (h.whole ∙ ap (λ ns. ns ++ Copied k.0 (address_of k.1) h.frame ∷ [])
    (seeks-nothing m (sp l (Some g)) l h.sought none q h.seeks))) ((refl, refl, h.in_range), tt)
made-plain m sp l k (SwapIn s) notes none q h = absurd h
made-plain m sp l k (MapCached f) notes none q h = absurd h

plain-cache : (m : Setting) (k : Key) (l : Ledger) (notes : List Note) → ArePlainAt m k notes → (after_notes l notes).cache ≡ l.cache
plain-cache m k l [] h = refl
plain-cache m k l (note ∷ notes) h = plain-cache m k (after_note note l) notes h.1 ∙ one note h.0
  where
    one : (note : Note) → IsPlainAt m k note → (after_note note l).cache ≡ l.cache
    one (Zeroed p a) h = refl
    one (New p a f) h = refl
    one (Copied p a f) h = changed-by (λ l. l.cache) (λ g l. refl) (key_at p a) f l
    one (Loaded s f) h = absurd h
    one (Mapped p a f) h = absurd h
    one (Put f s) h = absurd h
    one (Unmapped f) h = absurd h
    one (Started s) h = absurd h
    one (Written s) h = absurd h
    one (Failed s) h = absurd h
    one (Dropped s) h = absurd h
    one (Kept f c) h = absurd h
    one (Aged f) h = absurd h
    one (Shared f) h = absurd h
    one (Joined p a f) h = absurd h
    one (Moved a b) h = absurd h

nothing-dropped : (m : Setting) (write came : Bool) (l : Ledger) (k : Key) → l.cache ≡ [] → drop_at m write came l k ≡ []
nothing-dropped m write came l k cache = by (entry l k)
  where
    by : (o : Option Entry) → drop_of_entry m write came l o ≡ []
    by None = refl
    by (Some Zero) = refl
    by (Some (InFrame f seen)) = ap (λ o. drop_of_slot m write came l o) (no_slot l f cache)
    by (Some (InSlot s)) = refl

-- what stops an access is no lost page, and where it is want of a frame none is cached
abbrev pub IsKept : Option Stop → Type 0
IsKept None = Unit {0}
IsKept (Some Denied) = Unit {0}
IsKept (Some (Starved out)) = out.fault ≡ 0
IsKept (Some Lost) = ⊥

none-counted : (test : ℕ → Bool) (xs : List ℕ) → ((x : ℕ) → test x ≡ false) → how_many test xs ≡ 0
none-counted test [] h = refl
none-counted test (x ∷ xs) h = let a : ◌≡◌ {A = ℕ} (cond (test x) 1 0) 0 = ap (λ b. cond b 1 0) (h x) in
    let rest = none-counted test xs h in omega (arith, a, rest)

-- where nothing is cached, no frame is counted as cached
none-cached : (m : Setting) (sp : Spared) (l : Ledger) → l.cache ≡ [] → how_many_frames m (λ f. has_turn sp l f && is_some (slot_of l f)) ≡ 0
none-cached m sp l cache = none-counted (λ f. has_turn sp l f && is_some (slot_of l f)) (range_with_len 0 m.frames)
    (λ f. ap (λ o. has_turn sp l f && is_some o) (no_slot l f cache) ∙ and_false (has_turn sp l f))
  where
    and_false : (b : Bool) → (b && false) ≡ false
    and_false true = refl
    and_false false = refl

serves-plain : (m : Setting) (sp : Sparing) (l : Ledger) (write : Bool) (k : Key) (notes : List Note) → HasNoArea m l → HasNoSlots l →
    Serves m sp l write k notes → ArePlainAt m k notes
serves-plain m sp l write k notes none q h =
    let e = nothing-comes m sp l k (need write l (entry l k)) h.coming (plain-need l write k q) h.comes_in in
    let made = subst (λ ns. IsMade m sp (after_notes l ns) k (need write (after_notes l ns) (entry (after_notes l ns) k)) h.making) e h.made in
    let plain = made-plain m sp l k (need write l (entry l k)) h.making none q made in
    let now = after_notes l (h.coming ++ h.making) in
    let clean : now.cache ≡ [] = ap (λ ns. (after_notes l (ns ++ h.making)).cache) e ∙ plain-cache m k l h.making plain ∙ q.cache in
    let drops = drop_at m write (was_slot (need write l (entry l k))) now k in
    let all : notes ≡ h.making = h.whole ∙ ap (λ ns. ns ++ h.making ++ drops) e
    ∙ ap (λ ns. h.making ++ ns) (nothing-dropped m write (was_slot (need write l (entry l k))) now k clean) ∙ append-nil h.making in
    subst (ArePlainAt m k) (sym all) plain

runs_out-nothing : (m : Setting) (sp : Sparing) (l : Ledger) (write : Bool) (k : Key) (notes : List Note) {out : OutOf} → HasNoArea m l
    → HasNoSlots l →
    RunsOut m sp l write k notes out → notes ≡ []
runs_out-nothing m sp l write k notes none q h =
    let e = before h.before in
    h.whole ∙ ap (λ ns. ns ++ h.sought) e
    ∙ seeks-nothing m (sp (after_notes l h.coming) (pinned_by (need write (after_notes l h.coming) (entry (after_notes l h.coming) k))))
    (after_notes l h.coming) h.sought (subst (λ ns. HasNoArea m (after_notes l ns)) (sym e) none)
    (subst (λ ns. HasNoSlots (after_notes l ns)) (sym e) q) h.finds.seeks
  where
    before : (h.coming ≡ []) ⊎ ComesIn m sp l k (need write l (entry l k)) h.coming → h.coming ≡ []
    before (inl e) = e
    before (inr c) = nothing-comes m sp l k (need write l (entry l k)) h.coming (plain-need l write k q) c

-- and its numbers are those of frames that aren't cached
starved-uncached : (m : Setting) (sp : Sparing) (l : Ledger) (write : Bool) (k : Key) (notes : List Note) {out : OutOf} → HasNoArea m l
    → HasNoSlots l →
    RunsOut m sp l write k notes out → out.fault ≡ 0
starved-uncached m sp l write k notes none q h =
    let e = coming_none h.before in
    let sought_none = seeks-nothing m (sp (after_notes l h.coming) (pinned_by (need write (after_notes l h.coming) (entry (after_notes l h.coming) k))))
    (after_notes l h.coming) h.sought (subst (λ ns. HasNoArea m (after_notes l ns)) (sym e) none)
    (subst (λ ns. HasNoSlots (after_notes l ns)) (sym e) q) h.finds.seeks in
    ap (λ (o : OutOf). o.fault) h.finds.numbers
    ∙ none-cached m (sp (after_notes l h.coming) (pinned_by (need write (after_notes l h.coming) (entry (after_notes l h.coming) k))))
    (after_notes (after_notes l h.coming) h.sought) (ap (λ ns. (after_notes (after_notes l h.coming) ns).cache) sought_none
    ∙ ap (λ ns. (after_notes l ns).cache) e ∙ q.cache)
  where
    coming_none : (h.coming ≡ []) ⊎ ComesIn m sp l k (need write l (entry l k)) h.coming → h.coming ≡ []
    coming_none (inl e) = e
    coming_none (inr c) = nothing-comes m sp l k (need write l (entry l k)) h.coming (plain-need l write k q) c

-- what is so at a page: it is mapped where it has a note
pub record PlainPage (m : Setting) (w : World) (k : Key) (notes : List Note) (stop : Option Stop) : Type 0 where
  pub plain : ArePlainAt m k notes
  pub mapped : (notes ≡ []) ⊎ (is_some (pages w k.0 k.1) ≡ true)
  pub kept : IsKept stop

pub touches-plain : (m : Setting) (w : World) (l : Ledger) (write : Bool) (k : Key) (notes : List Note) (stop : Option Stop) → HasNoArea m l
    → HasNoSlots l →
    Touches m w l write k notes stop → PlainPage m w k notes stop
touches-plain m w l write k notes stop none q = by stop
  where
    mapped : (o : Option Page) → IsTrue (permits write o) → is_some o ≡ true
    mapped None h = cc
    mapped (Some page) h = refl

    by : (stop : Option Stop) → Touches m w l write k notes stop → PlainPage m w k notes stop
    by None (allowed, served) = record {
      plain = serves-plain m (sparing w) l write k notes none q served;
      mapped = inr (mapped (pages w k.0 k.1) allowed);
      kept = tt;
    }
    by (Some Denied) (denied, e) = record { plain = subst (ArePlainAt m k) (sym e) tt; mapped = inl e; kept = tt }
    by (Some (Starved out)) (allowed, h) = let e = runs_out-nothing m (sparing w) l write k notes none q h in
        record { plain = subst (ArePlainAt m k) (sym e) tt; mapped = inl e; kept = starved-uncached m (sparing w) l write k notes none q h }
    by (Some Lost) (allowed, h) = absurd (subst IsPlain h.absent (plain-need l write k q))

-- ---- the same areas are on

on-note : (l : Ledger) (note : Note) → (after_note note l).on ≡ l.on
on-note l (Zeroed p a) = refl
on-note l (New p a f) = refl
on-note l (Copied p a f) = changed-by (λ l. l.on) (λ g l. refl) (key_at p a) f l
on-note l (Loaded s f) = refl
on-note l (Mapped p a f) = refl
on-note l (Put f s) = refl
on-note l (Unmapped f) = by (slot_of l f)
  where
    by : (o : Option Slot) → (if_some o (λ s. change_entries f (λ _. InSlot s)) l).on ≡ l.on
    by None = refl
    by (Some s) = refl
on-note l (Started s) = refl
on-note l (Written s) = by (frame_at l s)
  where
    by : (o : Option ℕ) → (if_some o to_inactive_tail (off_flight s l)).on ≡ l.on
    by None = refl
    by (Some f) = refl
on-note l (Failed s) = refl
on-note l (Dropped s) = settle-on (frame_at l s) (off_cache s l)
on-note l (Kept f Writeback) = refl
on-note l (Kept f WriteStarted) = refl
on-note l (Kept f Referenced) = refl
on-note l (Kept f NoSlot) = refl
on-note l (Kept f Locked) = refl
on-note l (Kept f Ksm) = refl
on-note l (Aged f) = refl
on-note l (Shared f) = refl
on-note l (Joined p a f) = changed-by (λ l. l.on) (λ g l. refl) (key_at p a) f l
on-note l (Moved a b) = refl

on-notes : (l : Ledger) (notes : List Note) → (after_notes l notes).on ≡ l.on
on-notes l [] = refl
on-notes l (note ∷ notes) = on-notes (after_note note l) notes ∙ on-note l note

on-use : (l : Ledger) (write : Bool) (k : Key) → (after_use write k l).on ≡ l.on
on-use l write k = by write (entry l k)
  where
    stale : (f : ℕ) (o : Option Slot) → (if_some o (with_stale true) (set_entry k (InFrame f true) l)).on ≡ l.on
    stale f None = refl
    stale f (Some s) = refl

    by : (write : Bool) (o : Option Entry) → (after_use_of write k l o).on ≡ l.on
    by false None = refl
    by true None = refl
    by false (Some Zero) = refl
    by true (Some Zero) = refl
    by false (Some (InSlot s)) = refl
    by true (Some (InSlot s)) = refl
    by false (Some (InFrame f seen)) = refl
    by true (Some (InFrame f seen)) = stale f (slot_of l f)

on-page : (l : Ledger) (write : Bool) (k : Key) (notes : List Note) → (after_all l (page_events write k notes None)).on ≡ l.on
on-page l write k notes =
    ap (λ (l : Ledger). l.on) (after_all-append l (note_events notes) (Used write k ∷ []) ∙ ap (after_use write k) (note_events-all l notes))
    ∙ on-use (after_notes l notes) write k ∙ on-notes l notes

on-zap : (l : Ledger) (k : Key) → (after_all l (zap_of l k)).on ≡ l.on
on-zap l k = by (slot_behind_key l (entry l k)) ∙ (same_swap-after_zap k l).on
  where
    dropped : (b : Bool) (s : Slot) → (after_all (after_zap k l) (note_events (when b (Dropped s)))).on ≡ (after_zap k l).on
    dropped true s = on-note (after_zap k l) (Dropped s)
    dropped false s = refl

    by : (o : Option Slot) → (after_all (after_zap k l) (orphan_drop (after_zap k l) o)).on ≡ (after_zap k l).on
    by None = refl
    by (Some s) = dropped (is_orphan (after_zap k l) s) s

on-zaps : (l : Ledger) (ks : List Key) → (after_all l (zaps_of l ks)).on ≡ l.on
on-zaps l [] = refl
on-zaps l (k ∷ ks) = ap (λ (l : Ledger). l.on) (after_all-append l (zap_of l k) (zaps_of (after_all l (zap_of l k)) ks))
    ∙ on-zaps (after_all l (zap_of l k)) ks ∙ on-zap l k

-- ---- an access

-- an access doesn't end at a lost page
abbrev pub Ends : End → Type 0
Ends Whole = Unit {0}
Ends (Stopped page stop) = IsKept (Some stop)

-- each note is that of a mapped page of the process
pub record PlainAccess (P : Note → Type 0) (events : List Event) (end : End) : Type 0 where
  pub notes : AllByRecursion P (notes_of events)
  pub ends : Ends end

all-append : (P : Note → Type 0) (xs ys : List Note) → AllByRecursion P xs → AllByRecursion P ys → AllByRecursion P (xs ++ ys)
all-append P [] ys a b = b
all-append P (x ∷ xs) ys a b = (a.0, all-append P xs ys a.1 b)

all-by : (P Q : Note → Type 0) → ((note : Note) → P note → Q note) → (notes : List Note) → AllByRecursion P notes → AllByRecursion Q notes
all-by P Q f [] h = tt
all-by P Q f (note ∷ notes) h = (f note h.0, all-by P Q f notes h.1)

pub accesses-plain : (P : Note → Type 0) (m : Setting) (w : World) (p : ℕ)
    → ((page : ℕ) (note : Note) → is_some (pages w p page) ≡ true → IsPlainAt m (p, page) note → P note)
    → (l : Ledger) (pages : List (Bool × ℕ)) (events : List Event) (end : End) → HasNoArea m l → InAreas m l → Accesses m w l p pages events end →
    PlainAccess P events end
accesses-plain P m w p each l [] events end none s h = record {
  notes = subst (λ es. AllByRecursion P (notes_of es)) (sym h.0) tt;
  ends = subst Ends (sym h.1) tt;
}
accesses-plain P m w p each l (page ∷ rest) events end none s (inl h) =
    let here = page_events page.0 (p, page.1) h.0 None in
    let t = touches-plain m w l page.0 (p, page.1) h.0 None none (no-slots m l none s) h.2 in
    let s' = accesses-in m w l p (page ∷ []) here Whole s (inl (h.0, [], h.2, sym (append-nil here), (refl, refl))) in
    let none' = area-stays m l (after_all l here) (on-page l page.0 (p, page.1) h.0) none in
    let more = accesses-plain P m w p each (after_all l here) rest h.1 end none' s' h.4 in
    record {
      notes = subst (λ es. AllByRecursion P (notes_of es)) (sym h.3)
          (subst (AllByRecursion P) (sym (notes_of-append here h.1)) (all-append P (notes_of here) (notes_of h.1)
          (subst (AllByRecursion P) (sym (notes_of-append (note_events h.0) (Used page.0 (p, page.1) ∷ []) ∙ append-nil (notes_of (note_events h.0))
          ∙ notes_of-note_events h.0)) (all_at page.1 h.0 t.plain t.mapped)) more.notes));
      ends = more.ends;
    }
  where
    all_at : (page : ℕ) (notes : List Note) → ArePlainAt m (p, page) notes → (notes ≡ []) ⊎ (is_some (pages w p page) ≡ true) → AllByRecursion P notes
    all_at page notes a (inl e) = subst (AllByRecursion P) (sym e) tt
    all_at page notes a (inr is) = all-by (IsPlainAt m (p, page)) P (λ note. each page note is) notes a
accesses-plain P m w p each l (page ∷ rest) events end none s (inr h) =
    let t = touches-plain m w l page.0 (p, page.1) h.0 (Some h.1) none (no-slots m l none s) h.2 in
    record {
      notes = subst (λ es. AllByRecursion P (notes_of es)) (sym h.3)
          (subst (AllByRecursion P) (sym (notes_of-note_events h.0)) (all_at page.1 h.0 t.plain t.mapped));
      ends = subst Ends (sym h.4) t.kept;
    }
  where
    all_at : (page : ℕ) (notes : List Note) → ArePlainAt m (p, page) notes → (notes ≡ []) ⊎ (is_some (pages w p page) ≡ true) → AllByRecursion P notes
    all_at page notes a (inl e) = subst (AllByRecursion P) (sym e) tt
    all_at page notes a (inr is) = all-by (IsPlainAt m (p, page)) P (λ note. each page note is) notes a

-- ---- entries that go

-- what lets entries go without a note
record IsQuiet (l : Ledger) : Type 0 where
  cache : l.cache ≡ []
  entries : (s : Slot) → slot_entries l s ≡ 0
  in_order : T (is_sorted key_cmp l.entries)

zaps-quiet : (l : Ledger) (ks : List Key) → IsQuiet l → notes_of (zaps_of l ks) ≡ []
zaps-quiet l [] q = refl
zaps-quiet l (k ∷ ks) q =
    let alone = zap_of-alone l k q.cache q.entries in
    let quiet : IsQuiet (after_zap k l) = record {
      cache = (same_swap-after_zap k l).cache ∙ q.cache;
      entries = λ s. let e = slot_entries-after_zap k l s q.in_order in let z = q.entries s in omega (arith, e, z);
      in_order = in_order-after_zap k l q.in_order;
    } in
    notes_of-append (zap_of l k) (zaps_of (after_all l (zap_of l k)) ks)
    ∙ ap (λ es. notes_of es ++ notes_of (zaps_of (after_all l es) ks)) alone ∙ zaps-quiet (after_zap k l) ks quiet

pub no-zap-notes : (m : Setting) (l : Ledger) (ks : List Key) → HasNoArea m l → InAreas m l → notes_of (zaps_of l ks) ≡ []
no-zap-notes m l ks none s = let q = no-slots m l none s in
    zaps-quiet l ks (record { cache = q.cache; entries = q.entries; in_order = s.sound.in_order })

-- nor has an mremap
pub no-remap-notes : (m : Setting) (l : Ledger) (p from n to k : ℕ) → HasNoArea m l → InAreas m l → notes_of (remap_events l p from n to k) ≡ []
no-remap-notes m l p from n to k none s = by (to == from)
  where
    target : Ledger
    target = then_target l p from n to k

    quiet : notes_of (range_zaps l p to k) ≡ []
    quiet = no-zap-notes m l (keys_in l p to k) none s

    tail_quiet : notes_of (range_zaps target p (from + k) (n - k)) ≡ []
    tail_quiet = no-zap-notes m target (keys_in target p (from + k) (n - k))
        (area-stays m l target (on-zaps l (keys_in l p to k)) none) (zaps-in m l (keys_in l p to k) s)

    by : (b : Bool) → notes_of (cond b (range_zaps l p (from + k) (n - k))
        ((range_zaps l p to k ++ range_zaps target p (from + k) (n - k)) ++ EntriesMoved p (min n k) from to ∷ [])) ≡ []
    by true = no-zap-notes m l (keys_in l p (from + k) (n - k)) none s
    by false = notes_of-append (range_zaps l p to k ++ range_zaps target p (from + k) (n - k)) (EntriesMoved p (min n k) from to ∷ [])
        ∙ ap (λ ns. ns ++ []) (notes_of-append (range_zaps l p to k) (range_zaps target p (from + k) (n - k)) ∙ (λ i. quiet i ++ tail_quiet i))

-- ---- a command

plain-fails : (m : Setting) (k : Key) (note : Note) → IsPlainAt m k note → is_end note ≡ false
plain-fails m k (Zeroed p a) h = refl
plain-fails m k (New p a f) h = refl
plain-fails m k (Copied p a f) h = refl
plain-fails m k (Loaded s f) h = absurd h
plain-fails m k (Mapped p a f) h = absurd h
plain-fails m k (Put f s) h = absurd h
plain-fails m k (Unmapped f) h = absurd h
plain-fails m k (Started s) h = absurd h
plain-fails m k (Written s) h = absurd h
plain-fails m k (Failed s) h = absurd h
plain-fails m k (Dropped s) h = absurd h
plain-fails m k (Kept f c) h = absurd h
plain-fails m k (Aged f) h = absurd h
plain-fails m k (Shared f) h = absurd h
plain-fails m k (Joined p a f) h = absurd h
plain-fails m k (Moved a b) h = absurd h

pub plain-notes : (m : Setting) (k : Key) (notes : List Note) → ArePlainAt m k notes → ends notes ≡ 0
plain-notes m k notes h = no-ends notes (all-by (IsPlainAt m k) (λ note. is_end note ≡ false) (plain-fails m k) notes h)

stop-faultless : (stop : Stop) (k : ℕ) (shown : List ℕ) → IsKept (Some stop) → IsFaultless (stop_answer stop k shown)
stop-faultless Denied k shown h = record { told = refl; failed = refl }
stop-faultless (Starved out) k shown h = record { told = refl; failed = h }
stop-faultless Lost k shown h = absurd h

read-faultless : (a : ℕ) (end : End) (shown : List ℕ) → Ends end → IsFaultless (read_answer a end shown)
read-faultless a Whole shown h = record { told = refl; failed = refl }
read-faultless a (Stopped page stop) shown h = stop-faultless stop (bytes_before a page) shown h

write-faultless : (a : ℕ) (end : End) → Ends end → IsFaultless (write_answer a end)
write-faultless a Whole h = record { told = refl; failed = refl }
write-faultless a (Stopped page stop) h = stop-faultless stop (bytes_before a page) [] h

-- without a device each frame is kept
pub kept-alone : (m : Setting) (sp : Spared) (l : Ledger) (f : ℕ) (notes : List Note) → HasNoArea m l → HasNoSlots l → Outcome m sp l f notes →
    (cause : Cause) × (notes ≡ Kept f cause ∷ [])
kept-alone m sp l f notes none bare h = by (cause_of m sp l f) h
  where
    given : (s : Slot) (o : Option Slot) → o ≡ None → MatchOption o (IsTrue (may_give m sp.closing l s)) (λ t. s ≡ t) → ⊥
    given s None e may = ungiven m sp.closing l s none may
    given s (Some t) e same = cc

    by : (o : Option Cause) → MatchOption o ((s : Slot) × IsSlotFor m sp l f s × (notes ≡ leave_notes l f s)) (λ cause. notes ≡ Kept f cause ∷ []) →
        (cause : Cause) × (notes ≡ Kept f cause ∷ [])
    by None q = absurd (given q.0 (slot_of l f) (no_slot l f bare.cache) q.1)
    by (Some cause) q = (cause, q)

-- and there are no slots still
pub kept-bare : (l : Ledger) (f : ℕ) (cause : Cause) → HasNoSlots l → HasNoSlots (after_note (Kept f cause) l)
kept-bare l f Writeback h = record { cache = h.cache; flight = h.flight; entries = h.entries }
kept-bare l f WriteStarted h = record { cache = h.cache; flight = h.flight; entries = h.entries }
kept-bare l f NoSlot h = record { cache = h.cache; flight = h.flight; entries = h.entries }
kept-bare l f Locked h = record { cache = h.cache; flight = h.flight; entries = h.entries }
kept-bare l f Ksm h = record { cache = h.cache; flight = h.flight; entries = h.entries }
kept-bare l f Referenced h = record { cache = h.cache; flight = h.flight; entries = λ s. slot_entries-unseen f l s ∙ h.entries s }

-- ---- commands on swap areas

abbrev pub is_of_area : Command → Bool
is_of_area (Swapon k priority) = true
is_of_area (Swapoff k) = true
is_of_area (AsksSlot k page) = true
is_of_area command = false

-- without a device no area is on
pub none-on : (m : Setting) (l : Ledger) → HasNoDevice m → AreasFit m l → l.on ≡ []
none-on m l none fits = by l.on fits.attached
  where
    same : (k : ℕ) → eq_by_cmp nat_cmp k k ≡ true
    same k = grind (arith, nat_tests)

    by : (on : List (ℕ × SwapArea)) → ((k : ℕ) → is_some (find nat_cmp k on) ≡ true → 0 < size_of m k) → on ≡ []
    by [] has = refl
    by (a ∷ on) has =
        let sized = has a.0 (ap (λ b. is_some (cond b (Some a.1) (find nat_cmp a.0 on))) (same a.0)) in
        let empty : size_of m a.0 ≡ 0 = ap (λ o. unwrap_or o 0) (none a.0) in absurd (omega (arith, sized, empty))

-- none is turned on, off, or asked for its slots
pub no-swapon : (m : Setting) (k : ℕ) (rest : Tests) → HasNoDevice m → refusal ((no_device_at m k, Einval) ∷ rest) ≡ None → ⊥
no-swapon m k rest none fine = by (no_device_at m k) (ap is_none (none k)) fine
  where
    by : (b : Bool) → b ≡ true → (if b then Some Einval else refusal rest) ≡ None → ⊥
    by true is h = cc
    by false is h = cc

pub no-area : (m : Setting) (l : Ledger) (k : ℕ) (rest : Tests) → HasNoDevice m → AreasFit m l → refusal ((is_off l k, Einval) ∷ rest) ≡ None → ⊥
no-area m l k rest none fits fine = by (is_on l k) (fits.attached k) fine
  where
    by : (b : Bool) → (b ≡ true → 0 < size_of m k) → (if not b then Some Einval else refusal rest) ≡ None → ⊥
    by true has h = let sized = has refl in let empty : size_of m k ≡ 0 = ap (λ o. unwrap_or o 0) (none k) in omega (arith, sized, empty)
    by false has h = cc

follows-faultless : (m : Setting) (w : World) (l : Ledger) (command : Command) (events : List Event) (answer : Answer) (rows : List Row)
    → HasNoArea m l →
    (is_of_area command ≡ true → refusal (tests m w l command) ≡ None → ⊥) → InAreas m l → refusal (tests m w l command) ≡ None
    → Follows m w l command events answer rows → Faultless events answer
follows-faultless m w l (Read p a n) events answer rows none refused s fine h =
    let plain = accesses-plain (λ note. is_end note ≡ false) m w p (λ page note is. plain-fails m (p, page) note) l
    (pages_of_access false a n) events h.0 none s h.2 in
    record { notes = no-ends (notes_of events) plain.notes; answered = is-faultless answer _ h.4 (read-faultless a h.0 h.1 plain.ends) }
follows-faultless m w l (Write p a bytes) events answer rows none refused s fine h =
    let plain = accesses-plain (λ note. is_end note ≡ false) m w p (λ page note is. plain-fails m (p, page) note) l
    (pages_of_access true a (length bytes)) events h.0 none s h.1 in
    record { notes = no-ends (notes_of events) plain.notes; answered = is-faultless answer _ h.2 (write-faultless a h.0 plain.ends) }
follows-faultless m w l (Mlock p a len) events answer rows none refused s fine h =
    subst (λ es. Faultless es answer) (sym h.1) (by (pages_to_hole (pages w p) (page_of a) (pages_met a len) == pages_met a len) h.3)
  where
    locked : World
    locked = with_lock true w p (page_of a) (pages_met a len)

    by : (b : Bool) → MatchBool b (BringsIn m w l p (page_of a) (pages_met a len) h.0 answer) ((h.0 ≡ []) × (answer ≡ Refused Enomem))
        → Faultless (lock_event true (pages w p) p (page_of a) (pages_met a len) ∷ h.0) answer
    by true q =
        let plain = accesses-plain (λ note. is_end note ≡ false) m locked p (λ page note is. plain-fails m (p, page) note) l
        (accesses_of (pages w p) (page_of a) (pages_met a len)) h.0 q.0 none s q.1 in
        record {
          notes = no-ends (notes_of h.0) plain.notes;
          answered = is-faultless answer _ q.2 (write-faultless (address_of (page_of a)) q.0 plain.ends);
        }
    by false q = record {
      notes = ap (λ es. ends (notes_of es)) q.0;
      answered = is-faultless answer _ q.1 (record { told = refl; failed = refl });
    }
follows-faultless m w l (Complete n) events answer rows none refused s fine h =
    record {
      notes = ap (λ es. ends (notes_of es)) h.3 ∙ ap ends (notes_of-note_events h.0) ∙ ap ends (by n l.flight (no-slots m l none s).flight h.1);
      answered = is-faultless answer _ h.2 (record { told = refl; failed = refl });
    }
  where
    by : (n : ℕ) (ts : List Slot) → ts ≡ [] → Completes l (take n ts) h.0 → h.0 ≡ []
    by zero ts e c = c
    by (suc n) [] e c = c
    by (suc n) (t ∷ ts) e c = cc
follows-faultless m w l (Swapon k priority) events answer rows none refused s fine h = absurd (refused refl fine)
follows-faultless m w l (Swapoff k) events answer rows none refused s fine h = absurd (refused refl fine)
follows-faultless m w l command events answer rows none refused s fine h = unused-follows m w l command events answer rows refl h

pub in-areas : (m : Setting) (w : World) (l : Ledger) → AllSound m w l → InAreas m l
in-areas m w l s = record { sound = s.ledger; there = s.in_areas; fits = s.areas_fit }

-- a reply to a command tells of no failure, where no area has a page and a command on an area is refused
areas-causes : (m : Setting) (w : World) (l : Ledger) (command : Command) (reply : Reply) (events : List Event) → HasNoArea m l →
    (is_of_area command ≡ true → refusal (tests m w l command) ≡ None → ⊥) → AllSound m w l → IsLegal m w l command reply events → causes reply ≡ 0
areas-causes m w l command reply events none refused s legal = faultless-causes m w l command reply events
    (λ fine. follows-faultless m w l command events reply.answer reply.rows none refused (in-areas m w l s) fine) legal

-- without a device each command on an area is refused
pub no-causes : (m : Setting) (w : World) (l : Ledger) (command : Command) (reply : Reply) (events : List Event) → HasNoDevice m → AllSound m w l →
    IsLegal m w l command reply events → causes reply ≡ 0
no-causes m w l command reply events none s legal = areas-causes m w l command reply events (without-device m l none) (refused command) s legal
  where
    refused : (command : Command) → is_of_area command ≡ true → refusal (tests m w l command) ≡ None → ⊥
    refused (Swapon k priority) of fine = no-swapon m k ((is_on l k, Ebusy) ∷ (size_of m k == 0, Einval) ∷ []) none fine
    refused (Swapoff k) of fine = no-area m l k [] none s.areas_fit fine
    refused (AsksSlot k page) of fine = no-area m l k ((is_outside m (record { area = k; page = page }), Einval) ∷ []) none s.areas_fit fine
    refused (Spawn p) of fine = never of
    refused (Fork p q) of fine = never of
    refused (Exit p) of fine = never of
    refused (Mmap p len prot place) of fine = never of
    refused (Munmap p a len) of fine = never of
    refused (Mprotect p a len prot) of fine = never of
    refused (Mremap p a old new mode) of fine = never of
    refused (Madvise p a len advice) of fine = never of
    refused (Mlock p a len) of fine = never of
    refused (Munlock p a len) of fine = never of
    refused (Read p a n) of fine = never of
    refused (Write p a bytes) of fine = never of
    refused (Reclaim n) of fine = never of
    refused (Age n) of fine = never of
    refused (Complete n) of fine = never of
    refused Merge of fine = never of
    refused Compact of fine = never of
    refused (Maps p) of fine = never of
    refused (AsksAreas p) of fine = never of
    refused (AsksRmap p a) of fine = never of
    refused (AsksEntry p a) of fine = never of
    refused Stat of fine = never of

-- where no area is on, each but one that turns an area on
pub no-causes-off : (m : Setting) (w : World) (l : Ledger) (command : Command) (reply : Reply) (events : List Event) → l.on ≡ []
    → is_swapon command ≡ false →
    AllSound m w l → IsLegal m w l command reply events → causes reply ≡ 0
no-causes-off m w l command reply events off other s legal = areas-causes m w l command reply events (all-off m l off) (refused command other) s legal
  where
    is_off_now : (k : ℕ) → is_off l k ≡ true
    is_off_now k = ap (λ on. not (is_some (find nat_cmp k on))) off

    first-refuses : (b : Bool) (rest : Tests) → b ≡ true → refusal ((b, Einval) ∷ rest) ≡ None → ⊥
    first-refuses true rest is h = cc
    first-refuses false rest is h = never is

    refused : (command : Command) → is_swapon command ≡ false → is_of_area command ≡ true → refusal (tests m w l command) ≡ None → ⊥
    refused (Swapon k priority) other of fine = never (sym other)
    refused (Swapoff k) other of fine = first-refuses (is_off l k) [] (is_off_now k) fine
    refused (AsksSlot k page) other of fine =
        first-refuses (is_off l k) ((is_outside m (record { area = k; page = page }), Einval) ∷ []) (is_off_now k) fine
    refused (Spawn p) other of fine = never of
    refused (Fork p q) other of fine = never of
    refused (Exit p) other of fine = never of
    refused (Mmap p len prot place) other of fine = never of
    refused (Munmap p a len) other of fine = never of
    refused (Mprotect p a len prot) other of fine = never of
    refused (Mremap p a old new mode) other of fine = never of
    refused (Madvise p a len advice) other of fine = never of
    refused (Mlock p a len) other of fine = never of
    refused (Munlock p a len) other of fine = never of
    refused (Read p a n) other of fine = never of
    refused (Write p a bytes) other of fine = never of
    refused (Reclaim n) other of fine = never of
    refused (Age n) other of fine = never of
    refused (Complete n) other of fine = never of
    refused Merge other of fine = never of
    refused Compact other of fine = never of
    refused (Maps p) other of fine = never of
    refused (AsksAreas p) other of fine = never of
    refused (AsksRmap p a) other of fine = never of
    refused (AsksEntry p a) other of fine = never of
    refused Stat other of fine = never of
