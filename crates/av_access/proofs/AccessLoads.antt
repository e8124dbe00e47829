-- The memories after loads. A load for a page of a process unclaims no other page of that process, so what is stored elsewhere
-- before it may as well be stored after it.
use Rattle.std.proofs.Common.{◌≡◌, ◌⊎◌, inl, inr, ℕ, ◌+◌, ◌-◌, Bool, true, false, cond, not, ◌&&◌, ◌==◌, List, [], ◌∷◌, ◌++◌, length, slice_index, Option, Some, None, option_map, is_none, is_some, refl, sym, ap, subst, ◌∙◌, arith}
use Rattle.std.proofs.lemmas.Bool.{false≢true}
use Rattle.std.proofs.lemmas.Bool.Decides.{nat_tests}
use Rattle.std.specs.FinMap.Entries.{by_order, put}
use Rattle.std.specs.List.{list_all}
use Rattle.std.specs.Ordering.{nat_cmp}
use Rattle.std.specs.declared.cmp.Ordering.TheVariants.{Less, Equal, Greater}
use Rattle.std.specs.Prelude.{IfSome, MatchBool, if◌then◌else◌, option_and_then}
use Rattle.av_base.specs.Page.{address_of, page_of, place_in_page}
use Rattle.av_base.specs.Words.{within}
use Rattle.av_base.specs.declared.flags.Flag.{Flag}
use Rattle.av_base.specs.declared.slot.Slot.{Slot}
use Rattle.av_trace.specs.declared.note.Note.{Note}
use Rattle.av_trace.specs.declared.note.Note.TheVariants.{Aged, Copied, Dropped, Failed, Joined, Kept, Loaded, Mapped, Moved, New, Put, Shared, Started, Unmapped, Written, Zeroed}
use Rattle.av_trace.specs.declared.reply.OutOf.{OutOf}
use Rattle.av_plain.specs.Access.{after_write, page_events}
use Rattle.av_plain.specs.Event.{Event, FlagSet, Forked, FreeSorted, EntriesMoved, Noted, TurnedOff, TurnedOn, Used, Zapped, after, after_all, after_note, after_notes, note_events, when}
use Rattle.av_plain.specs.Fault.{ComesIn, CopyOnWrite, Denied, IsMade, Lost, MapCached, Need, NewPage, Ready, RunsOut, Serves, Sparing, Starved, Stop, SwapIn, Touches, ZeroPage, drop_at, drop_of_entry, drop_of_slot, asks_copy, need, need_of_slot, pinned_by, sparing, was_slot}
use Rattle.av_plain.specs.Ledger.{Entry, InFrame, InSlot, Ledger, Setting, Zero, entry, frame_at, has_free, is_orphan, map_count, slot_of}
use Rattle.av_plain.specs.Load.{after_load, after_loads, is_of_slot, with_loads, without_bytes, without_claims}
use Rattle.av_plain.specs.Pass.{Completes, IsPass, IsSlotFor, Seeks, Spared, TakesFor, Turns, end_note, end_notes, frames_in_turn, is_dirty, is_spared, is_stuck, stays_cached, turn_notes, unmap_notes}
use Rattle.av_plain.specs.Sound.{IsSound}
use Rattle.av_plain.specs.World.{Page, Process, World, pages, set_process, with_bytes, with_change_on, with_page_flag, Shows}
use Rattle.av_plain.proofs.Access.{note_events-all, note_events-append}
use Rattle.av_plain.proofs.Load.{loads_nothing}
use Rattle.av_plain.proofs.Sound.Pass.{seeks-kept}
use Rattle.av_plain.proofs.Sound.Steps.{is_steady}
use Rattle.av_swap_laws.proofs.Load.{pages-unclaimed}

-- ---- one event

-- it is a load, or leaves the memories
abbrev IsPlain : Event → Type 0
IsPlain e = (loads_nothing e ≡ true) × ((l : Ledger) (w : World) → after_load l e w ≡ w)

load_or_none : (e : Event) → IsPlain e ⊎ ((s : Slot) × (f : ℕ) × (e ≡ Noted (Loaded s f)))
load_or_none (Noted (Loaded s f)) = inr (s, f, refl)
load_or_none (Noted (Zeroed q a)) = inl (refl, λ l w. refl)
load_or_none (Noted (New q a f)) = inl (refl, λ l w. refl)
load_or_none (Noted (Copied q a f)) = inl (refl, λ l w. refl)
load_or_none (Noted (Mapped q a f)) = inl (refl, λ l w. refl)
load_or_none (Noted (Put f s)) = inl (refl, λ l w. refl)
load_or_none (Noted (Unmapped f)) = inl (refl, λ l w. refl)
load_or_none (Noted (Started s)) = inl (refl, λ l w. refl)
load_or_none (Noted (Written s)) = inl (refl, λ l w. refl)
load_or_none (Noted (Failed s)) = inl (refl, λ l w. refl)
load_or_none (Noted (Dropped s)) = inl (refl, λ l w. refl)
load_or_none (Noted (Kept f c)) = inl (refl, λ l w. refl)
load_or_none (Noted (Aged f)) = inl (refl, λ l w. refl)
load_or_none (Noted (Shared f)) = inl (refl, λ l w. refl)
load_or_none (Noted (Joined q a f)) = inl (refl, λ l w. refl)
load_or_none (Noted (Moved a b)) = inl (refl, λ l w. refl)
load_or_none (Zapped k) = inl (refl, λ l w. refl)
load_or_none (Used b k) = inl (refl, λ l w. refl)
load_or_none (Forked a b c) = inl (refl, λ l w. refl)
load_or_none (FlagSet a b c d e) = inl (refl, λ l w. refl)
load_or_none (EntriesMoved a b c d) = inl (refl, λ l w. refl)
load_or_none (TurnedOn a b) = inl (refl, λ l w. refl)
load_or_none (TurnedOff a) = inl (refl, λ l w. refl)
load_or_none FreeSorted = inl (refl, λ l w. refl)

-- ---- several

after_loads-append : (w : World) (l : Ledger) (es fs : List Event) → after_loads w l (es ++ fs) ≡ after_loads (after_loads w l es) (after_all l es) fs
after_loads-append w l [] fs = refl
after_loads-append w l (e ∷ es) fs = after_loads-append (after_load l e w) (after l e) es fs

pub with_loads-append : (m : Setting) (w : World) (l : Ledger) (es fs : List Event) →
    with_loads m w l (es ++ fs) ≡ with_loads m (with_loads m w l es) (after_all l es) fs
with_loads-append m w l es fs =
    elim (is_some m.headers) as (λ b. cond b w (after_loads w l (es ++ fs)) ≡ cond b (cond b w (after_loads w l es))
    (after_loads (cond b w (after_loads w l es)) (after_all l es) fs)) [ true ↦ refl | false ↦ after_loads-append w l es fs ]

-- ---- a read shows what it showed

unclaimed-shows : (l : Ledger) (s : Slot) (w : World) (p a : ℕ) (bytes : List ℕ) → Shows (pages w p) a bytes → Shows
    (pages (without_claims l s w) p) a bytes
unclaimed-shows l s w p a [] h = tt
unclaimed-shows l s w p a (b ∷ bytes) h = (
  subst (λ (o : Option Page). IfSome (option_and_then (λ (q : Page). q.bytes (place_in_page a)) o) (λ claimed. claimed ≡ b))
      (sym (pages-unclaimed l s w p (page_of a)))
      (less (is_of_slot s (entry l (p, page_of a))) (pages w p (page_of a)) h.0),
  unclaimed-shows l s w p (a + 1) bytes h.1,
)
  where
    less : (c : Bool) (o : Option Page) → IfSome (option_and_then (λ (q : Page). q.bytes (place_in_page a)) o) (λ claimed. claimed ≡ b)
        → IfSome (option_and_then (λ (q : Page). q.bytes (place_in_page a)) (cond c (option_map without_bytes o) o)) (λ claimed. claimed ≡ b)
    less true None h = tt
    less true (Some q) h = tt
    less false o h = h

loaded-shows : (w : World) (l : Ledger) (es : List Event) (p a : ℕ) (bytes : List ℕ) → Shows (pages w p) a bytes → Shows
    (pages (after_loads w l es) p) a bytes
loaded-shows w l [] p a bytes h = h
loaded-shows w l (e ∷ es) p a bytes h = loaded-shows (after_load l e w) (after l e) es p a bytes (by (load_or_none e))
  where
    by : IsPlain e ⊎ ((s : Slot) × (f : ℕ) × (e ≡ Noted (Loaded s f))) → Shows (pages (after_load l e w) p) a bytes
    by (inl none) = subst (λ w. Shows (pages w p) a bytes) (sym (none.1 l w)) h
    by (inr load) = subst (λ e. Shows (pages (after_load l e w) p) a bytes) (sym load.2) (unclaimed-shows l load.0 w p a bytes h)

pub loads-shows : (m : Setting) (w : World) (l : Ledger) (es : List Event) (p a : ℕ) (bytes : List ℕ) → Shows (pages w p) a bytes →
    Shows (pages (with_loads m w l es) p) a bytes
loads-shows m w l es p a bytes h =
    elim (is_some m.headers) as (λ b. Shows (pages (cond b w (after_loads w l es)) p) a bytes) [ true ↦ h | false ↦ loaded-shows w l es p a bytes h ]

-- ---- the loads for a page of a process

-- a load is of a slot that no other page of the process names
abbrev IsOwnLoad : ℕ → ℕ → Ledger → Event → Type 0
IsOwnLoad p page l e = (s : Slot) (f : ℕ) → e ≡ Noted (Loaded s f) → (other : ℕ) → is_of_slot s (entry l (p, other)) ≡ true → other ≡ page

-- and so is each of several
abbrev pub AreOwnLoads : ℕ → ℕ → Ledger → List Event → Type 0
AreOwnLoads p page l [] = Unit {0}
AreOwnLoads p page l (e ∷ es) = IsOwnLoad p page l e × AreOwnLoads p page (after l e) es

own-append : (p page : ℕ) (l : Ledger) (es fs : List Event) → AreOwnLoads p page l es → AreOwnLoads p page (after_all l es) fs →
    AreOwnLoads p page l (es ++ fs)
own-append p page l [] fs h g = g
own-append p page l (e ∷ es) fs h g = (h.0, own-append p page (after l e) es fs h.1 g)

both : (a b : Bool) → (a && b) ≡ true → (a ≡ true) × (b ≡ true)
both true b h = (refl, h)
both false b h = cc

own-none : (p page : ℕ) (l : Ledger) (es : List Event) → list_all loads_nothing es ≡ true → AreOwnLoads p page l es
own-none p page l [] h = tt
own-none p page l (e ∷ es) h =
    let parts = both (loads_nothing e) (list_all loads_nothing es) h in
    (λ s f is. absurd (false≢true (sym (ap loads_nothing is) ∙ parts.0)), own-none p page (after l e) es parts.1)

-- bytes that are stored in none of the page may as well be stored after its loads
abbrev pub IsApart : ℕ → ℕ → ℕ → Type 0
IsApart a n page = (i : ℕ) → within a n (address_of page + i) ≡ false

-- the process as it is after a load of the slot
abbrev unclaimed : Ledger → Slot → ℕ → Process → Process
unclaimed l s p q page = if is_of_slot s (entry l (p, page)) then option_map without_bytes (q page) else q page

unclaimed-set : (l : Ledger) (s : Slot) (w : World) (p : ℕ) (q : Process) →
    without_claims l s (set_process w p q) ≡ set_process (without_claims l s w) p (unclaimed l s p q)
unclaimed-set l s [] p q = refl
unclaimed-set l s (e ∷ w) p q =
    elim (nat_cmp p e.0) as (λ r. nat_cmp p e.0 ≡ r → without_claims l s (by_order r ((p, q) ∷ e ∷ w) ((e.0, q) ∷ w) (e ∷ put nat_cmp p q w))
    ≡ by_order r ((p, unclaimed l s p q) ∷ without_claims l s (e ∷ w)) ((e.0, unclaimed l s p q) ∷ without_claims l s w)
    ((e.0, unclaimed l s e.0 e.1) ∷ put nat_cmp p (unclaimed l s p q) (without_claims l s w))) [
      | Less ↦ λ is. refl
      | Equal ↦ λ is. ap (λ n. (e.0, unclaimed l s n q) ∷ without_claims l s w) (sym (number is))
      | Greater ↦ λ is. ap (λ es. (e.0, unclaimed l s e.0 e.1) ∷ es) (unclaimed-set l s w p q)
    ] refl
  where
    number : nat_cmp p e.0 ≡ Equal → p ≡ e.0
    number h = grind (arith, nat_tests, h)

module _ (p page a : ℕ) (bytes : List ℕ) (apart : IsApart a (length bytes) page) where
  -- the page with the bytes among its own
  abbrev over : ℕ → Page → Page
  over o q = record q {
    bytes = λ i. if within a (length bytes) (address_of o + i) then Some
        (slice_index bytes (address_of o + i - a)) else q.bytes i;
  }

  one-stored : (l : Ledger) (s : Slot) (o : ℕ) (x : Option Page) → (is_of_slot s (entry l (p, o)) ≡ true → o ≡ page)
      → (b : Bool) → is_of_slot s (entry l (p, o)) ≡ b
      → cond b (option_map without_bytes (option_map (over o) x)) (option_map (over o) x) ≡ option_map (over o)
      (cond b (option_map without_bytes x) x)
  one-stored l s o x own false is = refl
  one-stored l s o None own true is = refl
  one-stored l s o (Some q) own true is = ap Some (λ k. record { prot = q.prot; flags = q.flags; bytes = λ i. sym (none i) k })
    where
      none : (i : ℕ) → cond (within a (length bytes) (address_of o + i)) (Some (slice_index bytes (address_of o + i - a))) None ≡ None
      none i = ap (λ b. cond b (Some (slice_index bytes (address_of o + i - a))) None)
          (ap (λ n. within a (length bytes) (address_of n + i)) (own is) ∙ apart i)

  process-stored : (l : Ledger) (s : Slot) (w : World) → ((other : ℕ) → is_of_slot s (entry l (p, other)) ≡ true → other ≡ page)
      → unclaimed l s p (with_bytes (pages w p) a bytes) ≡ with_bytes (pages (without_claims l s w) p) a bytes
  process-stored l s w own = λ k o. (one-stored l s o (pages w p o) (own o) (is_of_slot s (entry l (p, o))) refl
      ∙ ap (option_map (over o)) (sym (pages-unclaimed l s w p o))) k

  unclaimed-stored : (l : Ledger) (s : Slot) (w : World) → ((other : ℕ) → is_of_slot s (entry l (p, other)) ≡ true → other ≡ page)
      → without_claims l s (after_write w p a bytes) ≡ after_write (without_claims l s w) p a bytes
  unclaimed-stored l s w own = by bytes (process-stored l s w own)
    where
      by : (xs : List ℕ) → unclaimed l s p (with_bytes (pages w p) a xs) ≡ with_bytes (pages (without_claims l s w) p) a xs
          → without_claims l s (after_write w p a xs) ≡ after_write (without_claims l s w) p a xs
      by [] h = refl
      by (x ∷ xs) h = unclaimed-set l s w p (with_bytes (pages w p) a (x ∷ xs)) ∙ ap (set_process (without_claims l s w) p) h

  loaded-stored : (w : World) (l : Ledger) (es : List Event) → AreOwnLoads p page l es
      → after_loads (after_write w p a bytes) l es ≡ after_write (after_loads w l es) p a bytes
  loaded-stored w l [] h = refl
  loaded-stored w l (e ∷ es) h = ap (λ x. after_loads x (after l e) es) (by (load_or_none e)) ∙ loaded-stored (after_load l e w) (after l e) es h.1
    where
      by : IsPlain e ⊎ ((s : Slot) × (f : ℕ) × (e ≡ Noted (Loaded s f))) → after_load l e (after_write w p a bytes) ≡ after_write
          (after_load l e w) p a bytes
      by (inl none) = none.1 l (after_write w p a bytes) ∙ ap (λ w. after_write w p a bytes) (sym (none.1 l w))
      by (inr load) = subst (λ e. after_load l e (after_write w p a bytes) ≡ after_write (after_load l e w) p a bytes) (sym load.2)
          (unclaimed-stored l load.0 w (h.0 load.0 load.1 load.2))

  pub loads-stored : (m : Setting) (w : World) (l : Ledger) (es : List Event) → AreOwnLoads p page l es
      → with_loads m (after_write w p a bytes) l es ≡ after_write (with_loads m w l es) p a bytes
  loads-stored m w l es h = elim (is_some m.headers) as (λ b. cond b (after_write w p a bytes) (after_loads (after_write w p a bytes) l es)
      ≡ after_write (cond b w (after_loads w l es)) p a bytes) [ true ↦ refl | false ↦ loaded-stored w l es h ]

-- ---- flags

-- flags may as well be set after loads as before them
module _ (p from n : ℕ) (flag : Flag) (set : Bool) where
  abbrev pub flagged : World → World
  flagged w = set_process w p (with_change_on (pages w p) from n (with_page_flag flag set))

  one-flagged : (b c : Bool) (x : Option Page)
      → cond b (option_map without_bytes (cond c (option_map (with_page_flag flag set) x) x)) (cond c (option_map (with_page_flag flag set) x) x)
      ≡ cond c (option_map (with_page_flag flag set) (cond b (option_map without_bytes x) x)) (cond b (option_map without_bytes x) x)
  one-flagged true true None = refl
  one-flagged true true (Some x) = refl
  one-flagged true false x = refl
  one-flagged false c x = refl

  unclaimed-flagged : (l : Ledger) (s : Slot) (w : World) → without_claims l s (flagged w) ≡ flagged (without_claims l s w)
  unclaimed-flagged l s w = unclaimed-set l s w p (with_change_on (pages w p) from n (with_page_flag flag set))
      ∙ ap (set_process (without_claims l s w) p) (λ i page. (one-flagged (is_of_slot s (entry l (p, page))) (within from n page) (pages w p page)
      ∙ ap (λ x. cond (within from n page) (option_map (with_page_flag flag set) x) x) (sym (pages-unclaimed l s w p page))) i)

  loaded-flagged : (w : World) (l : Ledger) (es : List Event) → after_loads (flagged w) l es ≡ flagged (after_loads w l es)
  loaded-flagged w l [] = refl
  loaded-flagged w l (e ∷ es) = ap (λ x. after_loads x (after l e) es) (by (load_or_none e)) ∙ loaded-flagged (after_load l e w) (after l e) es
    where
      by : IsPlain e ⊎ ((s : Slot) × (f : ℕ) × (e ≡ Noted (Loaded s f))) → after_load l e (flagged w) ≡ flagged (after_load l e w)
      by (inl none) = none.1 l (flagged w) ∙ ap flagged (sym (none.1 l w))
      by (inr load) = subst (λ e. after_load l e (flagged w) ≡ flagged (after_load l e w)) (sym load.2) (unclaimed-flagged l load.0 w)

  pub loads-flagged : (m : Setting) (w : World) (l : Ledger) (es : List Event) → with_loads m (flagged w) l es ≡ flagged (with_loads m w l es)
  loads-flagged m w l es = elim (is_some m.headers) as (λ b. cond b (flagged w) (after_loads (flagged w) l es)
      ≡ flagged (cond b w (after_loads w l es))) [ true ↦ refl | false ↦ loaded-flagged w l es ]

-- ---- a pass loads nothing

-- notes of which none is a load
abbrev LoadNothing : List Note → Type 0
LoadNothing notes = list_all loads_nothing (note_events notes) ≡ true

none-append : (a b : List Note) → LoadNothing a → LoadNothing b → LoadNothing (a ++ b)
none-append [] b h g = g
none-append (note ∷ a) b h g =
    let parts = both (loads_nothing (Noted note)) (list_all loads_nothing (note_events a)) h in
    ap (λ c. c && list_all loads_nothing (note_events (a ++ b))) parts.0 ∙ none-append a b parts.1 g

none-when : (b : Bool) (note : Note) → loads_nothing (Noted note) ≡ true → LoadNothing (when b note)
none-when true note h = ap (λ c. c && true) h
none-when false note h = refl

none-is : (a b : List Note) → a ≡ b → LoadNothing b → LoadNothing a
none-is a b e h = subst LoadNothing (sym e) h

none-end : (failed : Bool) (t : Slot) (rest : List Note) → LoadNothing rest → LoadNothing (end_note failed t ∷ rest)
none-end true t rest h = h
none-end false t rest h = h

none-completes : (l : Ledger) (ts : List Slot) (notes : List Note) → Completes l ts notes → LoadNothing notes
none-completes l [] notes c = none-is notes [] c refl
none-completes l (t ∷ ts) notes c = none-is notes _ c.2
    (none-append (end_notes l t c.0) c.1
    (none-end c.0 t (when (is_orphan (after_note (end_note c.0 t) l) t) (Dropped t))
    (none-when (is_orphan (after_note (end_note c.0 t) l) t) (Dropped t) refl))
    (none-completes (after_notes l (end_notes l t c.0)) ts c.1 c.3))

none-turn : (l : Ledger) (f : ℕ) (t : Slot) (failed : Bool) → LoadNothing (turn_notes l f t failed)
none-turn l f t failed =
    none-append (unmap_notes l f t) _ (none-append (when (is_none (slot_of l f)) (Put f t)) _ (none-when (is_none (slot_of l f)) (Put f t) refl)
    (none-when (not (map_count l f == 0)) (Unmapped f) refl)) (by (is_dirty l f t))
  where
    by : (b : Bool) → LoadNothing (cond b (Started t ∷ end_note failed t ∷ []) [])
    by true = none-end failed t [] refl
    by false = refl

none-turns : (m : Setting) (sp : Spared) (l : Ledger) (fs : List ℕ) (notes : List Note) → Turns m sp l fs notes → LoadNothing notes
none-turns m sp l [] notes r = none-is notes [] r refl
none-turns m sp l (f ∷ fs) notes r = stuck (λ l' ns q. none-turns m sp l' fs ns q) (is_stuck m sp l f) r
  where
    stuck : ((l' : Ledger) (ns : List Note) → Turns m sp l' fs ns → LoadNothing ns) → (b : Bool) →
        MatchBool b (Turns m sp l fs notes) ((t : Slot) × (failed : Bool) × IsSlotFor m sp l f t × MatchBool (stays_cached l f t failed)
        ((rest : List Note) × (notes ≡ turn_notes l f t failed ++ rest) × Turns m sp (after_notes l (turn_notes l f t failed)) fs rest)
        (notes ≡ turn_notes l f t failed ++ Dropped t ∷ []))
        → LoadNothing notes
    stuck again true r = again l notes r
    stuck again false r = goes (stays_cached l f r.0 r.1) r.3
      where
        goes : (b : Bool) → MatchBool b ((rest : List Note) × (notes ≡ turn_notes l f r.0 r.1 ++ rest) × Turns m sp
            (after_notes l (turn_notes l f r.0 r.1))
            fs rest) (notes ≡ turn_notes l f r.0 r.1 ++ Dropped r.0 ∷ []) → LoadNothing notes
        goes true q = none-is notes _ q.1 (none-append (turn_notes l f r.0 r.1) q.0 (none-turn l f r.0 r.1)
            (again (after_notes l (turn_notes l f r.0 r.1)) q.0 q.2))
        goes false q = none-is notes _ q (none-append (turn_notes l f r.0 r.1) (Dropped r.0 ∷ []) (none-turn l f r.0 r.1) refl)

none-seeks : (m : Setting) (sp : Spared) (l : Ledger) (notes : List Note) → Seeks m sp l notes → LoadNothing notes
none-seeks m sp l notes r = by (has_free m l) r
  where
    pass : (b : Bool) (now : Ledger) (fs : List ℕ) (ns : List Note) → MatchBool b (ns ≡ []) (Turns m sp now fs ns) → LoadNothing ns
    pass true now fs ns q = none-is ns [] q refl
    pass false now fs ns q = none-turns m sp now fs ns q

    by : (b : Bool) → MatchBool b (notes ≡ []) (IsPass m sp l notes) → LoadNothing notes
    by true q = none-is notes [] q refl
    by false q = none-is notes _ q.2 (none-append q.0 q.1 (none-completes l l.flight q.0 q.3)
        (pass (has_free m (after_notes l q.0)) (after_notes l q.0) (frames_in_turn sp (after_notes l q.0)) q.1 q.4))

none-takes : (m : Setting) (sp : Spared) (l : Ledger) (notes : List Note) (note : ℕ → Note) → ((f : ℕ) → loads_nothing (Noted (note f)) ≡ true)
    → TakesFor m sp l notes note → LoadNothing notes
none-takes m sp l notes note h takes = none-is notes _ takes.whole
    (none-append takes.sought _ (none-seeks m sp l takes.sought takes.seeks) (ap (λ c. c && true) (h takes.frame)))

-- ---- a page's loads are its own

module _ (m : Setting) (sp : Sparing) (p page : ℕ) where
  none-made : (l : Ledger) (n : Need) (notes : List Note) → IsMade m sp l (p, page) n notes → LoadNothing notes
  none-made l Ready notes q = none-is notes [] q refl
  none-made l ZeroPage notes q = none-is notes _ q refl
  none-made l NewPage notes q = none-takes m (sp l None) l notes (New p (address_of page)) (λ f. refl) q
  none-made l (CopyOnWrite g) notes q = none-takes m (sp l (Some g)) l notes (Copied p (address_of page)) (λ f. refl) q
  none-made l (SwapIn s) notes q = absurd q
  none-made l (MapCached f) notes q = absurd q

  none-drop : (write came : Bool) (l : Ledger) → LoadNothing (drop_at m write came l (p, page))
  none-drop write came l = by (entry l (p, page))
    where
      slot : (o : Option Slot) → LoadNothing (drop_of_slot m write came l o)
      slot None = refl
      slot (Some t) = none-when _ (Dropped t) refl

      by : (o : Option Entry) → LoadNothing (drop_of_entry m write came l o)
      by None = refl
      by (Some Zero) = refl
      by (Some (InFrame f seen)) = slot (slot_of l f)
      by (Some (InSlot t)) = refl

  own-notes : (l : Ledger) (a b : List Note) → AreOwnLoads p page l (note_events a) → AreOwnLoads p page (after_notes l a) (note_events b)
      → AreOwnLoads p page l (note_events (a ++ b))
  own-notes l a b h g = subst (AreOwnLoads p page l) (sym (note_events-append a b))
      (own-append p page l (note_events a) (note_events b) h (subst (λ l. AreOwnLoads p page l (note_events b)) (sym (note_events-all l a)) g))

  own-is : (l : Ledger) (a b : List Note) → a ≡ b → AreOwnLoads p page l (note_events b) → AreOwnLoads p page l (note_events a)
  own-is l a b e h = subst (λ ns. AreOwnLoads p page l (note_events ns)) (sym e) h

  -- the slot that a page names no other page of its process does
  own-load : (l : Ledger) (s : Slot) (f : ℕ) → IsSound m l → entry l (p, page) ≡ Some (InSlot s) → IsOwnLoad p page l (Noted (Loaded s f))
  own-load l s f sound at t g is other names = by (entry l (p, other)) refl (ap (λ s. is_of_slot s (entry l (p, other))) (same is) ∙ names)
    where
      slot_in : Event → Slot
      slot_in (Noted (Loaded s f)) = s
      slot_in event = s

      same : Noted (Loaded s f) ≡ Noted (Loaded t g) → s ≡ t
      same e = ap slot_in e

      by : (o : Option Entry) → entry l (p, other) ≡ o → is_of_slot s o ≡ true → other ≡ page
      by None there h = cc
      by (Some Zero) there h = cc
      by (Some (InFrame g seen)) there h = cc
      by (Some (InSlot t)) there h = sym (sound.one p page other (InSlot s) (InSlot t) at there h)

  own-comes : (l : Ledger) (write : Bool) (notes : List Note) → IsSound m l → ComesIn m sp l (p, page) (need write l (entry l (p, page))) notes
      → AreOwnLoads p page l (note_events notes)
  own-comes l write notes sound h = by write (entry l (p, page)) refl h
    where
      none : notes ≡ [] → AreOwnLoads p page l (note_events notes)
      none e = own-is l notes [] e tt

      slot : (t : Slot) → entry l (p, page) ≡ Some (InSlot t) → (o : Option ℕ) → ComesIn m sp l (p, page) (need_of_slot t o) notes
          → AreOwnLoads p page l (note_events notes)
      slot t at None q =
          let takes = q.2 in
          let passed = seeks-kept m (sp l None) l takes.sought sound takes.seeks in
          own-is l notes _ q.4 (own-notes l q.0 (Mapped p (address_of page) q.1 ∷ [])
          (own-is l q.0 _ takes.whole (own-notes l takes.sought (Loaded t takes.frame ∷ [])
          (own-none p page l (note_events takes.sought) (none-seeks m (sp l None) l takes.sought takes.seeks)) (
            own-load (after_notes l takes.sought) t takes.frame passed.sound
                (passed.keeps.steady (p, page) (ap (is_steady (is_spared (sp l None))) at) ∙ at),
            tt,
          )))
          (own-none p page (after_notes l q.0) (Noted (Mapped p (address_of page) q.1) ∷ []) refl))
      slot t at (Some f) q = own-is l notes _ q (own-none p page l (Noted (Mapped p (address_of page) f) ∷ []) refl)

      ready : (b : Bool) (g : ℕ) → ComesIn m sp l (p, page) (cond b (CopyOnWrite g) Ready) notes → notes ≡ []
      ready true g q = q
      ready false g q = q

      by : (write : Bool) (o : Option Entry) → entry l (p, page) ≡ o → ComesIn m sp l (p, page) (need write l o) notes
          → AreOwnLoads p page l (note_events notes)
      by false None is q = none q
      by true None is q = none q
      by false (Some Zero) is q = none q
      by true (Some Zero) is q = none q
      by false (Some (InFrame g seen)) is q = none q
      by true (Some (InFrame g seen)) is q = none (ready (asks_copy l g) g q)
      by false (Some (InSlot t)) is q = slot t is (frame_at l t) q
      by true (Some (InSlot t)) is q = slot t is (frame_at l t) q

  own-serves : (l : Ledger) (write : Bool) (notes : List Note) → IsSound m l → Serves m sp l write (p, page) notes → AreOwnLoads p page l
      (note_events notes)
  own-serves l write notes sound h =
      let coming = after_notes l h.coming in
      let now = after_notes l (h.coming ++ h.making) in
      let came = was_slot (need write l (entry l (p, page))) in
      own-is l notes _ h.whole (own-notes l (h.coming ++ h.making) (drop_at m write came now (p, page))
      (own-notes l h.coming h.making (own-comes l write h.coming sound h.comes_in)
      (own-none p page coming (note_events h.making) (none-made coming (need write coming (entry coming (p, page))) h.making h.made)))
      (own-none p page now (note_events (drop_at m write came now (p, page))) (none-drop write came now)))

  own-runs_out : (l : Ledger) (write : Bool) (notes : List Note) → (out : OutOf) → IsSound m l → RunsOut m sp l write (p, page) notes out
      → AreOwnLoads p page l (note_events notes)
  own-runs_out l write notes out sound h =
      let coming = after_notes l h.coming in
      own-is l notes _ h.whole (own-notes l h.coming h.sought (before h.before)
      (own-none p page coming (note_events h.sought)
      (none-seeks m (sp coming (pinned_by (need write coming (entry coming (p, page))))) coming h.sought h.finds.seeks)))
    where
      before : (h.coming ≡ []) ⊎ ComesIn m sp l (p, page) (need write l (entry l (p, page))) h.coming → AreOwnLoads p page l (note_events h.coming)
      before (inl e) = own-is l h.coming [] e tt
      before (inr q) = own-comes l write h.coming sound q

own-touches : (m : Setting) (w : World) (l : Ledger) (write : Bool) (p page : ℕ) (notes : List Note) (end : Option Stop) → IsSound m l →
    Touches m w l write (p, page) notes end → AreOwnLoads p page l (note_events notes)
own-touches m w l write p page notes None sound h = own-serves m (sparing w) p page l write notes sound h.1
own-touches m w l write p page notes (Some Denied) sound h = own-is m (sparing w) p page l notes [] h.1 tt
own-touches m w l write p page notes (Some (Starved out)) sound h = own-runs_out m (sparing w) p page l write notes out sound h.1
own-touches m w l write p page notes (Some Lost) sound h =
    own-none p page l (note_events notes) (none-seeks m (sparing w l None) l notes h.1.seeks)

-- so are those of all events of a page
pub own-events : (m : Setting) (w : World) (l : Ledger) (write : Bool) (p page : ℕ) (notes : List Note) (end : Option Stop) → IsSound m l →
    Touches m w l write (p, page) notes end → AreOwnLoads p page l (page_events write (p, page) notes end)
own-events m w l write p page notes None sound h =
    own-append p page l (note_events notes) (Used write (p, page) ∷ []) (own-touches m w l write p page notes None sound h)
    (own-none p page (after_all l (note_events notes)) (Used write (p, page) ∷ []) refl)
own-events m w l write p page notes (Some stop) sound h = own-touches m w l write p page notes (Some stop) sound h
