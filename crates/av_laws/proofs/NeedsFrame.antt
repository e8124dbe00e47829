-- A read or a write of pages that want no frame is never out of memory.
use Rattle.std.specs.List.{AllByRecursion, range_with_len}
use Rattle.std.specs.FinMap.Entries.{find, is_sorted}
use Rattle.std.specs.Prelude.{IsTrue, MatchOption, T, length, nat_lt}
use Rattle.std.proofs.Common.{◌≡◌, ◌⊎◌, inl, inr, ℕ, zero, suc, ◌+◌, ◌<◌, ◌≤◌, Bool, true, false, cond, not, ◌&&◌, ◌||◌, List, [], ◌∷◌, ◌++◌, map, option_map, Option, Some, None, refl, sym, ap, subst, ◌∙◌, arith, ◌==◌}
use Rattle.std.proofs.lemmas.Bool.{false≢true}
use Rattle.std.proofs.lemmas.Bool.Decides.{nat_tests}
use Rattle.av_base.specs.Keys.{Key, key_cmp, same_key}
use Rattle.av_base.proofs.Keys.{same_key-itself}
use Rattle.av_base.specs.Page.{address_of, page_of, pages_of, place_in_page}
use Rattle.av_base.specs.Words.{how_many}
use Rattle.av_base.specs.declared.slot.Slot.{Slot}
use Rattle.av_trace.specs.declared.command.Command.TheVariants.{Read, Write}
use Rattle.av_trace.specs.declared.note.Note.{Note}
use Rattle.av_trace.specs.declared.note.Note.TheVariants.{Dropped, Mapped}
use Rattle.av_trace.specs.declared.reply.Answer.TheVariants.{Oom}
use Rattle.av_trace.specs.declared.reply.Errno.{Errno}
use Rattle.av_trace.specs.declared.reply.OutOf.{OutOf}
use Rattle.av_trace.specs.declared.reply.Reply.{Reply}
use Rattle.av_plain.specs.World.{World}
use Rattle.av_plain.specs.Ledger.{Cached, cached_by, Entry, InFrame, InSlot, Ledger, Setting, Zero, entry, frame_at, in_flight, is_full, is_merged, map_count, names_frame, names_slot, same_slot, slot_entries, slot_of}
use Rattle.av_plain.specs.Event.{Event, Used, after_all, after_note, after_notes, after_use, after_use_of, if_some, note_events, off_cache, set_entry, when, with_stale}
use Rattle.av_plain.specs.Fault.{ComesIn, CopyOnWrite, Denied, IsMade, Lost, MapCached, Need, NewPage, Ready, RunsOut, Serves, Sparing, Starved, Stop, SwapIn, Touches, ZeroPage, drop_at, drop_of_entry, drop_of_slot, is_named, asks_copy, is_unneeded, need, need_of_slot, sparing, wants_frame, was_slot}
use Rattle.av_plain.specs.Access.{Accesses, End, Stopped, Whole, page_events, read_answer, write_answer}
use Rattle.av_plain.specs.Refusal.{Refuses, refusal, tests}
use Rattle.av_plain.specs.Sound.{slots}
use Rattle.av_plain.specs.Step.{Follows, IsLegal}
use Rattle.av_plain.proofs.Access.{after_all-append, after_notes-append, note_events-all}
use Rattle.av_plain.specs.Sound.{AllSound, IsSound, pairs}
use Rattle.av_plain.proofs.Ledger.{entry-set, how_many-found, map_count-set}
use Rattle.av_plain.proofs.Ledger.Order.{weight}
use Rattle.av_plain.proofs.Ledger.NoSwap.{key_at-address, key_is}
use Rattle.av_plain.proofs.NoDevice.{never}
use Rattle.av_plain.proofs.Covered.Swap.{merged-settled}
use Rattle.av_plain.proofs.Sound.Counts.{frame_at-none, holders-off_cache, slot-is, slot-itself, slot_of-none, slot_of-some, two_slots}
use Rattle.av_plain.proofs.Sound.Access.{page_events-kept, touches-kept}
use Rattle.av_plain.proofs.Sound.Entries.{slot_entries-set}
use Rattle.av_plain.proofs.Sound.Steps.{alike-with_stale, pairs-dropped, settle-entries, slots-dropped}
use Rattle.av_laws.specs.NeedsFrame.{AreInPlace, IsInPlace, NoneWantsFrame}

-- a page whose entry names a slot is cached
abbrev Held : Ledger → Key → Type 0
Held l k = (s : Slot) → entry l k ≡ Some (InSlot s) → 0 < slots l s

-- what a page needs to be read, where it is held
abbrev IsHeld : Need → Type 0
IsHeld Ready = Unit {0}
IsHeld ZeroPage = Unit {0}
IsHeld (MapCached f) = Unit {0}
IsHeld (SwapIn s) = ⊥
IsHeld NewPage = ⊥
IsHeld (CopyOnWrite f) = ⊥

held-need : (l : Ledger) (k : Key) → Held l k → IsHeld (need false l (entry l k))
held-need l k h = by (entry l k) refl
  where
    slot : (s : Slot) (o : Option ℕ) → 0 < slots l s → frame_at l s ≡ o → IsHeld (need_of_slot s o)
    slot s None some is = let z = frame_at-none s l.cache is in absurd (omega (arith, some, z))
    slot s (Some f) some is = tt

    by : (o : Option Entry) → entry l k ≡ o → IsHeld (need false l o)
    by None is = tt
    by (Some Zero) is = tt
    by (Some (InFrame g seen)) is = tt
    by (Some (InSlot s)) is = slot s (frame_at l s) (h s is) refl

-- another page's entry changes
held-set : (l : Ledger) (k q : Key) (e : Entry) → same_key q k ≡ false → Held l q → Held (set_entry k e l) q
held-set l k q e other h s is = h s (sym (entry-set k e l q ∙ ap (λ b. cond b (Some e) (entry l q)) other) ∙ is)

held-dropped : (l : Ledger) (q : Key) (t : Slot) → slot_entries l t ≡ 0 → Held l q → Held (after_note (Dropped t) l) q
held-dropped l q t none h s is = by (same_slot s t) refl
  where
    at : entry l q ≡ Some (InSlot s)
    at = ap (λ es. entry (record l { entries = es }) q) (sym (settle-entries (frame_at l t) (off_cache t l))) ∙ is

    by : (b : Bool) → same_slot s t ≡ b → 0 < slots (after_note (Dropped t) l) s
    by true same =
        let named = how_many-found (names_slot s) q l.entries (InSlot s) at (slot-itself s) in
        let e = ap (slot_entries l) (slot-is s t same) in
        absurd (omega (arith, named, e, none))
    by false other = let e = slots-dropped l t s ∙ ap (λ b. cond b 0 (slots l s)) other in let some = h s at in omega (arith, e, some)

held-used : (l : Ledger) (k q : Key) → same_key q k ≡ false → Held l q → Held (after_use false k l) q
held-used l k q other h = by (entry l k)
  where
    by : (o : Option Entry) → Held (after_use_of false k l o) q
    by None = h
    by (Some Zero) = h
    by (Some (InSlot s)) = h
    by (Some (InFrame f seen)) = held-set l k q (InFrame f true) other h

held-drop : (m : Setting) (came : Bool) (l : Ledger) (k q : Key) → Held l q → Held (after_notes l (drop_at m false came l k)) q
held-drop m came l k q h = by (entry l k)
  where
    dropped : (s : Slot) (b : Bool) → is_unneeded m false came l s ≡ b → Held (after_notes l (when b (Dropped s))) q
    dropped s true is = held-dropped l q s (none (not (in_flight l s)) (slot_entries l s == 0) (came && is_full m l) refl is) h
      where
        none : (a b c : Bool) → (slot_entries l s == 0) ≡ b → (a && b && (false || c)) ≡ true → slot_entries l s ≡ 0
        none true true c e i = grind (arith, nat_tests, e)
        none true false c e i = cc
        none false b c e i = cc
    dropped s false is = h

    slot : (o : Option Slot) → Held (after_notes l (drop_of_slot m false came l o)) q
    slot None = h
    slot (Some s) = dropped s (is_unneeded m false came l s) refl

    by : (o : Option Entry) → Held (after_notes l (drop_of_entry m false came l o)) q
    by None = h
    by (Some Zero) = h
    by (Some (InSlot s)) = h
    by (Some (InFrame f seen)) = slot (slot_of l f)

-- ---- a page comes in, and is made

comes-held : (m : Setting) (sp : Sparing) (l : Ledger) (k q : Key) (n : Need) (notes : List Note) → same_key q k ≡ false → IsHeld n
    → ComesIn m sp l k n notes →
    Held l q → Held (after_notes l notes) q
comes-held m sp l k q Ready notes other n c h = subst (λ ns. Held (after_notes l ns) q) (sym c) h
comes-held m sp l k q ZeroPage notes other n c h = subst (λ ns. Held (after_notes l ns) q) (sym c) h
comes-held m sp l k q (MapCached f) notes other n c h = subst (λ ns. Held (after_notes l ns) q) (sym c)
    (subst (λ x. Held (set_entry x (InFrame f false) l) q) (sym (key_at-address k)) (held-set l k q (InFrame f false) other h))
comes-held m sp l k q (SwapIn s) notes other n c h = absurd n
comes-held m sp l k q NewPage notes other n c h = absurd n
comes-held m sp l k q (CopyOnWrite f) notes other n c h = absurd n

-- the needs of a read
abbrev IsReading : Need → Type 0
IsReading Ready = Unit {0}
IsReading ZeroPage = Unit {0}
IsReading (MapCached f) = Unit {0}
IsReading (SwapIn s) = Unit {0}
IsReading NewPage = ⊥
IsReading (CopyOnWrite f) = ⊥

reading : (l : Ledger) (o : Option Entry) → IsReading (need false l o)
reading l None = tt
reading l (Some Zero) = tt
reading l (Some (InFrame f seen)) = tt
reading l (Some (InSlot s)) = by (frame_at l s)
  where
    by : (o : Option ℕ) → IsReading (need_of_slot s o)
    by None = tt
    by (Some f) = tt

made-held : (m : Setting) (sp : Sparing) (l : Ledger) (k q : Key) (n : Need) (notes : List Note) → same_key q k ≡ false → IsReading n →
    IsMade m sp l k n notes → Held l q → Held (after_notes l notes) q
made-held m sp l k q Ready notes other n c h = subst (λ ns. Held (after_notes l ns) q) (sym c) h
made-held m sp l k q ZeroPage notes other n c h = subst (λ ns. Held (after_notes l ns) q) (sym c)
    (subst (λ x. Held (set_entry x Zero l) q) (sym (key_at-address k)) (held-set l k q Zero other h))
made-held m sp l k q (MapCached f) notes other n c h = absurd c
made-held m sp l k q (SwapIn s) notes other n c h = absurd c
made-held m sp l k q NewPage notes other n c h = absurd n
made-held m sp l k q (CopyOnWrite f) notes other n c h = absurd n

serves-held : (m : Setting) (sp : Sparing) (l : Ledger) (k q : Key) (notes : List Note) → same_key q k ≡ false → Held l k → Held l q →
    Serves m sp l false k notes → Held (after_all l (page_events false k notes None)) q
serves-held m sp l k q notes other here h s =
    let n = need false l (entry l k) in
    let l1 = after_notes l s.coming in
    let a = comes-held m sp l k q n s.coming other (held-need l k here) s.comes_in h in
    let b = made-held m sp l1 k q (need false l1 (entry l1 k)) s.making other (reading l1 (entry l1 k)) s.made a in
    let l2 = after_notes l (s.coming ++ s.making) in
    let b' = subst (λ x. Held x q) (sym (after_notes-append l s.coming s.making)) b in
    let drops = drop_at m false (was_slot n) l2 k in
    let c = held-drop m (was_slot n) l2 k q b' in
    let whole = ap (after_notes l) s.whole ∙ after_notes-append l (s.coming ++ s.making) drops in
    let d = held-used (after_notes l notes) k q other (subst (λ x. Held x q) (sym whole) c) in
    subst (λ x. Held x q) (sym (after_all-append l (note_events notes) (Used false k ∷ []) ∙ ap (after_use false k) (note_events-all l notes))) d

-- ---- an access

-- no frame was wanting
abbrev IsServed : Stop → Type 0
IsServed Denied = Unit {0}
IsServed (Starved out) = ⊥
IsServed Lost = Unit {0}

not-wanting : (n : Need) → IsHeld n → wants_frame n ≡ false
not-wanting Ready h = refl
not-wanting ZeroPage h = refl
not-wanting (MapCached f) h = refl
not-wanting (SwapIn s) h = absurd h
not-wanting NewPage h = absurd h
not-wanting (CopyOnWrite f) h = absurd h

never-out : (m : Setting) (sp : Sparing) (l : Ledger) (k : Key) (notes : List Note) (out : OutOf) → Held l k → RunsOut m sp l false k notes out → ⊥
never-out m sp l k notes out h r = by r.before
  where
    wanted : IsTrue (wants_frame (need false (after_notes l r.coming) (entry (after_notes l r.coming) k)))
    wanted = r.finds.wants

    unwanted : (b : Bool) → b ≡ false → IsTrue b → ⊥
    unwanted true e t = never (sym e)
    unwanted false e t = never t

    nothing : r.coming ≡ [] → ⊥
    nothing e = unwanted _ (ap (λ ns. wants_frame (need false (after_notes l ns) (entry (after_notes l ns) k))) e
        ∙ not-wanting (need false l (entry l k)) (held-need l k h)) wanted

    in_frame : (f : ℕ) → entry (after_note (Mapped k.0 (address_of k.1) f) l) k ≡ Some (InFrame f false)
    in_frame f = ap (λ x. entry (set_entry x (InFrame f false) l) k) (key_at-address k) ∙ entry-set k (InFrame f false) l k
        ∙ ap (λ b. cond b (Some (InFrame f false)) (entry l k)) (same_key-itself k)

    mapped : (f : ℕ) → r.coming ≡ Mapped k.0 (address_of k.1) f ∷ [] → ⊥
    mapped f e = unwanted _ (ap (λ ns. wants_frame (need false (after_notes l ns) (entry (after_notes l ns) k))) e
        ∙ ap (λ o. wants_frame (need false (after_note (Mapped k.0 (address_of k.1) f) l) o)) (in_frame f)) wanted

    comes : (n : Need) → IsHeld n → ComesIn m sp l k n r.coming → ⊥
    comes Ready i c = nothing c
    comes ZeroPage i c = nothing c
    comes (MapCached f) i c = mapped f c
    comes (SwapIn s) i c = absurd i
    comes NewPage i c = absurd i
    comes (CopyOnWrite f) i c = absurd i

    by : (r.coming ≡ []) ⊎ ComesIn m sp l k (need false l (entry l k)) r.coming → ⊥
    by (inl e) = nothing e
    by (inr c) = comes (need false l (entry l k)) (held-need l k h) c

abbrev EndsServed : End → Type 0
EndsServed Whole = Unit {0}
EndsServed (Stopped page stop) = IsServed stop

accesses-served : (m : Setting) (w : World) (p n from : ℕ) (l : Ledger) (events : List Event) (end : End)
    → ((q : ℕ) → from ≤ q → q < from + n → Held l (p, q))
    → Accesses m w l p (map (λ page. (false, page)) (range_with_len from n)) events end → EndsServed end
accesses-served m w p zero from l events end held h = subst EndsServed (sym h.1) tt
accesses-served m w p (suc n) from l events end held (inl h) =
    accesses-served m w p n (from + 1) (after_all l (page_events false (p, from) h.0 None)) h.1 end
    (λ q low high. serves-held m (sparing w) l (p, from) (p, q) h.0 (other q low) (held from (omega arith) (omega arith))
    (held q (omega (arith, low)) (omega (arith, high))) h.2.1) h.4
  where
    other : (q : ℕ) → from + 1 ≤ q → same_key (p, q) (p, from) ≡ false
    other q low = key_is p q p from ∙ grind (arith, nat_tests, low)
accesses-served m w p (suc n) from l events end held (inr h) = subst EndsServed (sym h.4) (by h.1 h.2)
  where
    by : (stop : Stop) → Touches m w l false (p, from) h.0 (Some stop) → IsServed stop
    by Denied t = tt
    by (Starved out) t = never-out m (sparing w) l (p, from) h.0 out (held from (omega arith) (omega arith)) t.1
    by Lost t = tt

-- ---- a reply

no_frame : (l : Ledger) (s : Slot) → slots l s ≡ 0 → frame_at l s ≡ None
no_frame l s none = by l.cache none
  where
    by : (cs : List Cached) → how_many (λ (c : Cached). same_slot s c.slot) cs ≡ 0 →
        option_map (λ (c : Cached). c.frame) (cached_by (λ c. same_slot s c.slot) cs) ≡ None
    by [] h = refl
    by (c ∷ cs) h = first (same_slot s c.slot) h (by cs)
      where
        first : (b : Bool) → cond b 1 0 + how_many (λ (c : Cached). same_slot s c.slot) cs ≡ 0 →
            (how_many (λ (c : Cached). same_slot s c.slot) cs ≡ 0
            → option_map (λ (c : Cached). c.frame) (cached_by (λ c. same_slot s c.slot) cs) ≡ None)
            → option_map (λ (c : Cached). c.frame) (cond b (Some c) (cached_by (λ c. same_slot s c.slot) cs)) ≡ None
        first true h rest = absurd (omega (arith, h))
        first false h rest = rest (omega (arith, h))

all-held : (l : Ledger) (p n from : ℕ) → AllByRecursion (λ (x : Bool × ℕ). wants_frame (need false l (entry l (p, x.1))) ≡ false)
    (map (λ page. (false, page)) (range_with_len from n))
    → (q : ℕ) → from ≤ q → q < from + n → Held l (p, q)
all-held l p zero from all q low high = absurd (omega (arith, low, high))
all-held l p (suc n) from all q low high = by (from == q) refl (all-held l p n (from + 1) all.1 q)
  where
    slot : (s : Slot) (o : Option ℕ) → frame_at l s ≡ o → wants_frame (need_of_slot s o) ≡ false → 0 < slots l s
    slot s None is e = cc
    slot s (Some f) is e = some (slots l s) refl
      where
        some : (c : ℕ) → slots l s ≡ c → 0 < c
        some zero none = absurd (let x = sym is ∙ no_frame l s none in cc)
        some (suc c) none = omega arith

    here : (s : Slot) → entry l (p, from) ≡ Some (InSlot s) → 0 < slots l s
    here s is = slot s (frame_at l s) refl (ap (λ o. wants_frame (need false l o)) (sym is) ∙ all.0)

    by : (b : Bool) → (from == q) ≡ b → (from + 1 ≤ q → q < (from + 1) + n → Held l (p, q)) → Held l (p, q)
    by true is rest = let e : from ≡ q = grind (arith, nat_tests, is) in
        subst (λ x. (s : Slot) → entry l (p, x) ≡ Some (InSlot s) → 0 < slots l s) e here
    by false is rest = rest (grind (arith, nat_tests, is, low)) (omega (arith, high))

pub read-served : (m : Setting) (w : World) (l : Ledger) (p a n : ℕ) (reply : Reply)
    (events : List Event) (k : ℕ) (out : OutOf) (shown : List ℕ) → NoneWantsFrame false l p a n
    → IsLegal m w l (Read p a n) reply events → reply.answer ≡ Oom k out shown → ⊥
read-served m w l p a n reply events k out shown none legal is = by (refusal (tests m w l (Read p a n))) legal.answer
  where
    answered : (end : End) (bytes : List ℕ) → EndsServed end → read_answer a end bytes ≡ Oom k out shown → ⊥
    answered Whole bytes s e = cc
    answered (Stopped page Denied) bytes s e = cc
    answered (Stopped page (Starved o)) bytes s e = s
    answered (Stopped page Lost) bytes s e = cc

    by : (o : Option Errno) → MatchOption o (Follows m w l (Read p a n) events reply.answer reply.rows)
        (λ error. Refuses error events reply.answer reply.rows) → ⊥
    by None h = answered h.0 h.1 (accesses-served m w p (cond (n == 0) 0 (pages_of (place_in_page a + n))) (page_of a) l events h.0
        (all-held l p (cond (n == 0) 0 (pages_of (place_in_page a + n))) (page_of a) none) h.2) (sym h.4 ∙ is)
    by (Some error) h = let e = sym h.0 ∙ is in cc

-- ---- a write

-- the page's entry is a frame that it has for itself: no other entry names it, and none names a slot at which it is cached
record IsOwn (l : Ledger) (k : Key) : Type 0 where
  frame : ℕ
  seen : Bool
  is : entry l k ≡ Some (InFrame frame seen)
  alone : map_count l frame ≤ 1
  unnamed : (t : Slot) → 0 < pairs l t frame → slot_entries l t ≡ 0
  unmerged : is_merged l frame ≡ false

own-of : (m : Setting) (l : Ledger) (k : Key) → IsSound m l → IsInPlace l (entry l k) → IsOwn l k
own-of m l k s h = by (entry l k) refl h
  where
    alone : (f : ℕ) (b : Bool) → (nat_lt 1 (map_count l f) || b) ≡ false → map_count l f ≤ 1
    alone f b h = grind (arith, nat_tests, h)

    none_of : (a b c : Bool) → (a || b || c) ≡ false → ((a || b) ≡ false) × (b ≡ false) × (c ≡ false)
    none_of true b c h = cc
    none_of false true c h = cc
    none_of false false c h = (refl, refl, h)

    unnamed : (f : ℕ) (o : Option Slot) → slot_of l f ≡ o → is_named l o ≡ false → (t : Slot) → 0 < pairs l t f → slot_entries l t ≡ 0
    unnamed f None at h t pair = let none = slot_of-none f l.cache at in let few = holders-off_cache t f l.cache in
        absurd (omega (arith, none, few, pair))
    unnamed f (Some s') at h t pair = of_slot (same_slot t s') refl
      where
        of_slot : (b : Bool) → same_slot t s' ≡ b → slot_entries l t ≡ 0
        of_slot true is = ap (slot_entries l) (slot-is t s' is) ∙ grind (arith, nat_tests, h)
        of_slot false is =
            let first = slot_of-some f s' l.cache at in
            let both = two_slots t s' f l.cache is in
            let once = s.frames_once f in
            absurd (omega (arith, first, both, once, pair))

    by : (o : Option Entry) → entry l k ≡ o → IsInPlace l o → IsOwn l k
    by None is h = absurd h
    by (Some Zero) is h = absurd h
    by (Some (InSlot t)) is h = absurd h
    by (Some (InFrame f seen)) is h = let none = none_of (nat_lt 1 (map_count l f)) (is_named l (slot_of l f)) (is_merged l f) h in record {
      frame = f;
      seen = seen;
      is = is;
      alone = alone f (is_named l (slot_of l f)) none.0;
      unnamed = unnamed f (slot_of l f) refl none.1;
      unmerged = none.2;
    }

own-unshared : (l : Ledger) (k : Key) (own : IsOwn l k) → asks_copy l own.frame ≡ false
own-unshared l k own = neither (nat_lt 1 (map_count l own.frame)) (is_named l (slot_of l own.frame)) (is_merged l own.frame)
    (grind (arith, nat_tests, own.alone)) (named (slot_of l own.frame) refl) own.unmerged
  where
    neither : (a b c : Bool) → a ≡ false → b ≡ false → c ≡ false → (a || b || c) ≡ false
    neither true b c h i j = cc
    neither false true c h i j = cc
    neither false false c h i j = j

    named : (o : Option Slot) → slot_of l own.frame ≡ o → is_named l o ≡ false
    named None at = refl
    named (Some t) at = let none = own.unnamed t (slot_of-some own.frame t l.cache at) in grind (arith, nat_tests, none)

own-need : (l : Ledger) (k : Key) → IsOwn l k → need true l (entry l k) ≡ Ready
own-need l k own = ap (need true l) own.is ∙ ap (λ b. cond b (CopyOnWrite own.frame) Ready) (own-unshared l k own)

-- ---- what a write leaves to the pages behind

-- the entries are the same, and nothing more is cached
record IsLess (l l' : Ledger) : Type 0 where
  entries : l'.entries ≡ l.entries
  pairs_less : (t : Slot) (f : ℕ) → pairs l' t f ≤ pairs l t f
  fewer : (f : ℕ) → is_merged l' f ≡ true → is_merged l f ≡ true

own-less : (l l' : Ledger) (k : Key) → IsLess l l' → IsOwn l k → IsOwn l' k
own-less l l' k less own = record {
  frame = own.frame;
  seen = own.seen;
  is = ap (find key_cmp k) less.entries ∙ own.is;
  alone = subst (λ es. how_many (λ (e : Key × Entry). names_frame own.frame e.1) es ≤ 1) (sym less.entries) own.alone;
  unnamed = λ t pair. let few = less.pairs_less t own.frame in ap (how_many (λ (e : Key × Entry). names_slot t e.1)) less.entries
      ∙ own.unnamed t (omega (arith, few, pair));
  unmerged = still (is_merged l' own.frame) (less.fewer own.frame) own.unmerged;
}
  where
    still : (b : Bool) → (b ≡ true → is_merged l own.frame ≡ true) → is_merged l own.frame ≡ false → b ≡ false
    still true was none = absurd (false≢true (sym none ∙ was refl))
    still false was none = refl

same-less : (l : Ledger) → IsLess l l
same-less l = record { entries = refl; pairs_less = λ t f. omega arith; fewer = λ f is. is }

drop-less : (m : Setting) (came : Bool) (l : Ledger) (k : Key) → IsLess l (after_notes l (drop_at m true came l k))
drop-less m came l k = by (entry l k)
  where
    less : (t r : Slot) (f : ℕ) (b : Bool) → pairs (after_note (Dropped t) l) r f ≡ cond b 0 (pairs l r f)
        → pairs (after_note (Dropped t) l) r f ≤ pairs l r f
    less t r f true e = omega (arith, e)
    less t r f false e = omega (arith, e)

    dropped : (t : Slot) (b : Bool) → IsLess l (after_notes l (when b (Dropped t)))
    dropped t true = record {
      entries = settle-entries (frame_at l t) (off_cache t l);
      pairs_less = λ r f. less t r f (same_slot r t) (pairs-dropped l t r f);
      fewer = (merged-settled (frame_at l t) (off_cache t l)).fewer;
    }
    dropped t false = same-less l

    slot : (o : Option Slot) → IsLess l (after_notes l (drop_of_slot m true came l o))
    slot None = same-less l
    slot (Some t) = dropped t (is_unneeded m true came l t)

    by : (o : Option Entry) → IsLess l (after_notes l (drop_of_entry m true came l o))
    by None = same-less l
    by (Some Zero) = same-less l
    by (Some (InSlot t)) = same-less l
    by (Some (InFrame f seen)) = slot (slot_of l f)

own-set : (l : Ledger) (k q : Key) → T (is_sorted key_cmp l.entries) → (own : IsOwn l k) → same_key q k ≡ false → IsOwn l q
    → IsOwn (set_entry k (InFrame own.frame true) l) q
own-set l k q in_order own other its = record {
  frame = its.frame;
  seen = its.seen;
  is = entry-set k (InFrame own.frame true) l q ∙ ap (λ b. cond b (Some (InFrame own.frame true)) (entry l q)) other ∙ its.is;
  alone =
      let a = map_count-set k (InFrame own.frame true) l its.frame in_order in
      let b = ap (weight (names_frame its.frame)) own.is in
      let c = its.alone in
      omega (arith, a, b, c);
  unnamed = λ t pair.
      let a = slot_entries-set k (InFrame own.frame true) l t in_order in
      let b = ap (weight (names_slot t)) own.is in
      let c = its.unnamed t pair in
      omega (arith, a, b, c);
  unmerged = its.unmerged;
}

own-used : (l : Ledger) (k q : Key) → T (is_sorted key_cmp l.entries) → IsOwn l k → same_key q k ≡ false → IsOwn l q → IsOwn (after_use true k l) q
own-used l k q in_order own other its = subst (λ o. IsOwn (after_use_of true k l o) q) (sym own.is) (stale (slot_of l own.frame))
  where
    now : Ledger
    now = set_entry k (InFrame own.frame true) l

    stale : (o : Option Slot) → IsOwn (if_some o (with_stale true) now) q
    stale None = own-set l k q in_order own other its
    stale (Some t) =
        let alike = alike-with_stale now true t in
        own-less now (with_stale true t now) q
        (record { entries = alike.entries; pairs_less = λ r f. let e = alike.pairs_same r f in omega (arith, e); fewer = λ f is. is })
        (own-set l k q in_order own other its)

serves-own : (m : Setting) (sp : Sparing) (l : Ledger) (k q : Key) (notes : List Note) → T (is_sorted key_cmp l.entries) → same_key q k ≡ false
    → IsOwn l k → IsOwn l q → Serves m sp l true k notes → IsOwn (after_all l (page_events true k notes None)) q
serves-own m sp l k q notes in_order other here own s =
    let l2 = after_notes l drops in
    let less = drop-less m came l k in
    let used = own-used l2 k q (subst (λ es. T (is_sorted key_cmp es)) (sym less.entries) in_order) (own-less l l2 k less here) other
    (own-less l l2 q less own) in
    subst (λ x. IsOwn x q)
    (sym (after_all-append l (note_events notes) (Used true k ∷ [])
    ∙ ap (after_use true k) (note_events-all l notes ∙ ap (after_notes l) whole))) used
  where
    came : Bool
    came = was_slot (need true l (entry l k))

    drops : List Note
    drops = drop_at m true came l k

    coming : s.coming ≡ []
    coming = subst (λ n. ComesIn m sp l k n s.coming) (own-need l k here) s.comes_in

    making : s.making ≡ []
    making = subst (λ n. IsMade m sp l k n s.making) (own-need l k here)
        (subst (λ c. IsMade m sp (after_notes l c) k (need true (after_notes l c) (entry (after_notes l c) k)) s.making) coming s.made)

    whole : notes ≡ drops
    whole = s.whole ∙ (λ i. (coming i ++ making i) ++ drop_at m true came (after_notes l (coming i ++ making i)) k)

-- a page that is in place is never without a frame
own-never-out : (m : Setting) (sp : Sparing) (l : Ledger) (k : Key) (notes : List Note)
    (out : OutOf) → IsOwn l k → RunsOut m sp l true k notes out → ⊥
own-never-out m sp l k notes out own r = nothing (by r.before)
  where
    by : (r.coming ≡ []) ⊎ ComesIn m sp l k (need true l (entry l k)) r.coming → r.coming ≡ []
    by (inl e) = e
    by (inr c) = subst (λ n. ComesIn m sp l k n r.coming) (own-need l k own) c

    unwanted : (b : Bool) → b ≡ false → IsTrue b → ⊥
    unwanted true e t = never (sym e)
    unwanted false e t = never t

    nothing : r.coming ≡ [] → ⊥
    nothing e = unwanted _
        (ap (λ ns. wants_frame (need true (after_notes l ns) (entry (after_notes l ns) k))) e
        ∙ ap wants_frame (own-need l k own)) r.finds.wants

writes-served : (m : Setting) (w : World) (p n from : ℕ) (l : Ledger) (events : List Event)
    (end : End) → IsSound m l → ((q : ℕ) → from ≤ q → q < from + n → IsOwn l (p, q))
    → Accesses m w l p (map (λ page. (true, page)) (range_with_len from n)) events end → EndsServed end
writes-served m w p zero from l events end s own h = subst EndsServed (sym h.1) tt
writes-served m w p (suc n) from l events end s own (inl h) =
    writes-served m w p n (from + 1) (after_all l (page_events true (p, from) h.0 None)) h.1 end
    (page_events-kept m l true (p, from) h.0 None (touches-kept m w l true (p, from) h.0 None s h.2))
    (λ q low high. serves-own m (sparing w) l (p, from) (p, q) h.0 s.in_order (other q low) (own from (omega arith) (omega arith))
    (own q (omega (arith, low)) (omega (arith, high))) h.2.1) h.4
  where
    other : (q : ℕ) → from + 1 ≤ q → same_key (p, q) (p, from) ≡ false
    other q low = key_is p q p from ∙ grind (arith, nat_tests, low)
writes-served m w p (suc n) from l events end s own (inr h) = subst EndsServed (sym h.4)
    (by h.1 h.2)
  where
    by : (stop : Stop) → Touches m w l true (p, from) h.0 (Some stop) → IsServed stop
    by Denied t = tt
    by (Starved out) t = own-never-out m (sparing w) l (p, from) h.0 out
        (own from (omega arith) (omega arith)) t.1
    by Lost t = tt

all-own : (m : Setting) (l : Ledger) (p n from : ℕ) → IsSound m l
    → AllByRecursion (λ (x : Bool × ℕ). IsInPlace l (entry l (p, x.1))) (map (λ page. (true, page)) (range_with_len from n))
    → (q : ℕ) → from ≤ q → q < from + n → IsOwn l (p, q)
all-own m l p zero from s all q low high = absurd (omega (arith, low, high))
all-own m l p (suc n) from s all q low high = by (from == q) refl
    (all-own m l p n (from + 1) s all.1 q)
  where
    by : (b : Bool) → (from == q) ≡ b → (from + 1 ≤ q → q < (from + 1) + n → IsOwn l (p, q))
        → IsOwn l (p, q)
    by true is rest = let e : from ≡ q = grind (arith, nat_tests, is) in subst (λ x. IsOwn l (p, x))
        e (own-of m l (p, from) s all.0)
    by false is rest = rest (grind (arith, nat_tests, is, low)) (omega (arith, high))

pub write-served : (m : Setting) (w : World) (l : Ledger) (p a : ℕ) (bytes : List ℕ) (reply : Reply)
    (events : List Event) (k : ℕ) (out : OutOf) (shown : List ℕ) → AllSound m w l
    → AreInPlace l p a (length bytes) → IsLegal m w l (Write p a bytes) reply events
    → reply.answer ≡ Oom k out shown → ⊥
write-served m w l p a bytes reply events k out shown sound own legal is = by
    (refusal (tests m w l (Write p a bytes))) legal.answer
  where
    n : ℕ
    n = cond (length bytes == 0) 0 (pages_of (place_in_page a + length bytes))

    answered : (end : End) → EndsServed end → write_answer a end ≡ Oom k out shown → ⊥
    answered Whole s e = cc
    answered (Stopped page Denied) s e = cc
    answered (Stopped page (Starved o)) s e = s
    answered (Stopped page Lost) s e = cc

    by : (o : Option Errno)
        → MatchOption o (Follows m w l (Write p a bytes) events reply.answer reply.rows)
        (λ error. Refuses error events reply.answer reply.rows) → ⊥
    by None h = answered h.0
        (writes-served m w p n (page_of a) l events h.0 sound.ledger
        (all-own m l p n (page_of a) sound.ledger own) h.1) (sym h.2 ∙ is)
    by (Some error) h = let e = sym h.0 ∙ is in cc
