-- Soundness after a swapoff.
use Rattle.std.proofs.Common.{◌≡◌, ℕ, ◌-◌, ◌<◌, Bool, true, false, cond, ◌||◌, nat_lt, T, List, [], ◌∷◌, ◌++◌, map, Option, Some, None, is_some, refl, sym, ap, subst, ◌∙◌, arith}
use Rattle.std.proofs.lemmas.Bool.Decides.{nat_tests}
use Rattle.std.specs.Prelude.{MatchOption}
use Rattle.std.specs.List.{list_any, range_with_len}
use Rattle.std.specs.FinMap.Entries.{is_sorted}
use Rattle.av_base.specs.Keys.{Key, key_cmp, same_key}
use Rattle.av_base.proofs.Keys.{same_key-itself}
use Rattle.av_base.specs.Page.{address_of}
use Rattle.av_base.specs.Words.{how_many}
use Rattle.av_base.specs.declared.slot.Slot.{Slot}
use Rattle.av_trace.specs.declared.note.Note.{Note}
use Rattle.av_trace.specs.declared.note.Note.TheVariants.{Dropped, Loaded, Mapped}
use Rattle.av_trace.specs.declared.reply.Answer.{Answer}
use Rattle.av_trace.specs.declared.row.Row.{Row}
use Rattle.av_plain.specs.Event.{Event, after_all, after_note, after_notes, note_events, off_cache, set_entry}
use Rattle.av_plain.specs.Ledger.{Entry, InFrame, InSlot, Ledger, Setting, Zero, entry, frame_at, has_free, keys_of_slot, names_slot, same_slot, size_of, slot_count, slot_entries, slots_in_use}
use Rattle.av_plain.specs.Pass.{Completes, Spared, TakesFor, out_of}
use Rattle.av_plain.specs.Sound.{AllSound, IsSound, count, flights, no_excuse, pairs}
use Rattle.av_plain.specs.Swapoff.{Close, Closed, Empties, EndsAt, IsEmptied, IsFetched, NoRoom, TurnsOff, Unread, map_notes, sparing_area, turn_off_events}
use Rattle.av_plain.specs.World.{World}
use Rattle.av_plain.proofs.Access.{after_all-append, after_notes-append, note_events-all}
use Rattle.av_plain.proofs.Ledger.{entry-set}
use Rattle.av_plain.proofs.Ledger.NoSwap.{key_at-address}
use Rattle.av_plain.proofs.Ledger.Walk.{keys-filter, passes}
use Rattle.av_plain.proofs.Sound.Access.{LoadKept, load-kept}
use Rattle.av_plain.proofs.Sound.Changes.{drop-sound, seen-kept}
use Rattle.av_plain.proofs.Sound.Counts.{frame_at-none, frame_at-some, slot-is}
use Rattle.av_plain.proofs.Sound.Entries.{mapped-kept}
use Rattle.av_plain.proofs.Sound.Pages.{AllBring, at_page, bring-append, bring-seeks, bring-takes}
use Rattle.av_plain.proofs.Sound.Pass.{Calm, seeks-kept}
use Rattle.av_plain.proofs.Sound.Steps.{all_landed, completes-kept, settle-flight}
use Rattle.av_plain.proofs.Sound.Swap.{Holds, completes-hold, notes-hold, of-sound, to-sound}
use Rattle.av_plain.proofs.Sound.Swap.Area.{first-passes, turned-off-sound}
use Rattle.av_plain.proofs.Sound.There.{AreLawful, counted-slot, lawful-append, lawful-is, lawful-seeks, lawful-takes}

-- what holds while an area is emptied: no write is in flight
pub record Empty (m : Setting) (w : World) (l : Ledger) : Type 0 where
  pub holds : Holds m w l
  pub landed : (r : Slot) → flights l r ≡ 0

-- ---- the entries of a slot become its frame, one after another

-- the entry names the slot, or has become the frame
abbrev pub Waits : Slot → ℕ → Option Entry → Type 0
Waits t f None = ⊥
Waits t f (Some Zero) = ⊥
Waits t f (Some (InFrame g seen)) = g ≡ f
Waits t f (Some (InSlot r)) = r ≡ t

-- it is there
waits-there : (t : Slot) (f : ℕ) (o : Option Entry) → Waits t f o → is_some o ≡ true
waits-there t f None h = absurd h
waits-there t f (Some e) h = refl

-- only the entries are others then
pub record MapKept (m : Setting) (l l' : Ledger) : Type 0 where
  pub sound : IsSound m l'
  pub flight_same : l'.flight ≡ l.flight

one-mapped : (m : Setting) (l : Ledger) (k : Key) (t : Slot) (f : ℕ) → IsSound m l → 0 < pairs l t f → Waits t f (entry l k) →
    IsSound m (set_entry k (InFrame f false) l)
one-mapped m l k t f s pair waits = by (entry l k) refl waits
  where
    by : (o : Option Entry) → entry l k ≡ o → Waits t f o → IsSound m (set_entry k (InFrame f false) l)
    by None is h = absurd h
    by (Some Zero) is h = absurd h
    by (Some (InFrame g seen)) is h = subst (λ y. IsSound m (set_entry k (InFrame y false) l)) h (seen-kept m no_excuse l k g seen false s is)
    by (Some (InSlot r)) is h = mapped-kept m no_excuse l k f t s (is ∙ ap (λ x. Some (InSlot x)) h) pair

-- each key waits still after one of them had its turn
pub waits-on : (l : Ledger) (t : Slot) (f : ℕ) (k q : Key) → Waits t f (entry l q) → Waits t f (entry (set_entry k (InFrame f false) l) q)
waits-on l t f k q waits = subst (Waits t f) (sym (entry-set k (InFrame f false) l q)) (by (same_key q k))
  where
    by : (b : Bool) → Waits t f (cond b (Some (InFrame f false)) (entry l q))
    by true = refl
    by false = waits

pub or_right : (a b : Bool) → b ≡ true → (a || b) ≡ true
or_right true b h = refl
or_right false b h = h

abbrev pub map_all : List Key → ℕ → List Note
map_all ks f = map (λ (k : Key). Mapped k.0 (address_of k.1) f) ks

maps-kept : (m : Setting) (l : Ledger) (t : Slot) (f : ℕ) (ks : List Key) → IsSound m l → 0 < pairs l t f →
    ((k : Key) → list_any (same_key k) ks ≡ true → Waits t f (entry l k)) → MapKept m l (after_notes l (map_all ks f))
maps-kept m l t f [] s pair waits = record { sound = s; flight_same = refl }
maps-kept m l t f (k ∷ ks) s pair waits =
    let first = one-mapped m l k t f s pair (waits k (ap (λ b. b || list_any (same_key k) ks) (same_key-itself k))) in
    let rest = maps-kept m (set_entry k (InFrame f false) l) t f ks first pair
    (λ q h. waits-on l t f k q (waits q (or_right (same_key q k) (list_any (same_key q) ks) h))) in
    subst (λ q. MapKept m l (after_notes (set_entry q (InFrame f false) l) (map_all ks f))) (sym (key_at-address k))
    (record { sound = rest.sound; flight_same = rest.flight_same })

-- the keys of the slot's entries wait
pub keys-wait : (l : Ledger) (t : Slot) (f : ℕ) (k : Key) → T (is_sorted key_cmp l.entries) → list_any (same_key k) (keys_of_slot l t) ≡ true →
    Waits t f (entry l k)
keys-wait l t f k sorted h = by (entry l k) (sym (keys-filter (names_slot t) l.entries k sorted) ∙ h)
  where
    by : (o : Option Entry) → passes (names_slot t) o ≡ true → Waits t f o
    by None e = cc
    by (Some Zero) e = cc
    by (Some (InFrame g seen)) e = cc
    by (Some (InSlot r)) e = sym (slot-is t r e)

-- what holds of the keys of a slot's entries
bring-maps : (test : Key → Bool) (f : ℕ) (ks : List Key) → ((k : Key) → list_any (same_key k) ks ≡ true → test k ≡ true)
    → AllBring test (map_all ks f)
bring-maps test f [] h = tt
bring-maps test f (k ∷ ks) h = (
  ap test (key_at-address k) ∙ h k (ap (λ b. b || list_any (same_key k) ks) (same_key-itself k)),
  bring-maps test f ks (λ q is. h q (or_right (same_key q k) (list_any (same_key q) ks) is)),
)

lawful-maps : (m : Setting) (closing : Option ℕ) (l : Ledger) (f : ℕ) (t : Slot) (ks : List Key)
    → AreLawful m closing l (map_all ks f ++ Dropped t ∷ [])
lawful-maps m closing l f t [] = (tt, tt)
lawful-maps m closing l f t (k ∷ ks) = (tt, lawful-maps m closing (after_note (Mapped k.0 (address_of k.1) f) l) f t ks)

map_notes-hold : (m : Setting) (w : World) (closing : Option ℕ) (l : Ledger) (t : Slot) (f : ℕ) → Empty m w l → 0 < pairs l t f →
    Empty m w (after_notes l (map_notes l t f))
map_notes-hold m w closing l t f e pair = record {
  holds = notes-hold m w closing l (map_notes l t f) e.holds sound
      (bring-append (at_page w) (map_all ks f) (Dropped t ∷ []) (bring-maps (at_page w) f ks here) (tt, tt)) (lawful-maps m closing l f t ks);
  landed = λ r. subst (λ x. flights x r ≡ 0) (sym split)
      (ap (how_many (same_slot r)) (settle-flight (frame_at mapped t) (off_cache t mapped)) ∙ still r);
}
  where
    ks : List Key
    ks = keys_of_slot l t

    mapped : Ledger
    mapped = after_notes l (map_all (keys_of_slot l t) f)

    wait : (k : Key) → list_any (same_key k) (keys_of_slot l t) ≡ true → Waits t f (entry l k)
    wait k h = keys-wait l t f k e.holds.sound.in_order h

    here : (k : Key) → list_any (same_key k) (keys_of_slot l t) ≡ true → at_page w k ≡ true
    here k h = e.holds.at k (waits-there t f (entry l k) (wait k h))

    kept : MapKept m l (after_notes l (map_all (keys_of_slot l t) f))
    kept = maps-kept m l t f (keys_of_slot l t) e.holds.sound pair wait

    still : (r : Slot) → flights (after_notes l (map_all (keys_of_slot l t) f)) r ≡ 0
    still r = ap (how_many (same_slot r)) kept.flight_same ∙ e.landed r

    split : after_notes l (map_notes l t f) ≡ after_note (Dropped t) (after_notes l (map_all (keys_of_slot l t) f))
    split = after_notes-append l (map_all (keys_of_slot l t) f) (Dropped t ∷ [])

    sound : IsSound m (after_notes l (map_notes l t f))
    sound = subst (IsSound m) (sym split) (drop-sound m mapped t kept.sound (still t))

-- ---- the page of a slot comes into a frame

pub record Fetched (m : Setting) (w : World) (t : Slot) (f : ℕ) (l' : Ledger) : Type 0 where
  pub empty : Empty m w l'
  pub pair : 0 < pairs l' t f

pub fetched-hold : (m : Setting) (w : World) (sp : Spared) (l : Ledger) (t : Slot) (f : ℕ) (notes : List Note) → Empty m w l → 0 < count l t →
    IsFetched m sp l t f notes → Fetched m w t f (after_notes l notes)
fetched-hold m w sp l t f notes e used h = by (frame_at l t) refl h
  where
    by : (o : Option ℕ) → frame_at l t ≡ o → MatchOption o (TakesFor m sp l notes (Loaded t) × (frame_at (after_notes l notes) t ≡ Some f))
        (λ g. (notes ≡ []) × (f ≡ g)) → Fetched m w t f (after_notes l notes)
    by (Some g) is q = subst (λ ns. Fetched m w t f (after_notes l ns)) (sym q.0)
        (record { empty = e; pair = frame_at-some f t l.cache (is ∙ ap Some (sym q.1)) })
    by None is q = record {
      empty = record {
        holds = notes-hold m w sp.closing l notes e.holds load.sound (bring-takes (at_page w) m sp l notes (Loaded t) (λ g. tt) q.0)
            (lawful-takes m sp l notes (Loaded t) q.0
            (let k = (seeks-kept m sp l q.0.sought e.holds.sound q.0.seeks).keeps.more t in omega (arith, k, named)));
        landed = λ r. ap (λ x. flights x r) split ∙ calm.grounded r;
      };
      pair = frame_at-some f t (after_notes l notes).cache q.1;
    }
      where
        named : 0 < slot_entries l t
        named = let z = frame_at-none t l.cache is in omega (arith, z, used)

        load : LoadKept m l t (after_notes l notes)
        load = load-kept m (λ _ _. sp) l t notes e.holds.sound is named q.0

        calm : Calm l (after_notes l q.0.sought)
        calm = (seeks-kept m sp l q.0.sought e.holds.sound q.0.seeks).calm e.landed

        split : after_notes l notes ≡ after_notes (after_notes l q.0.sought) (Loaded t q.0.frame ∷ [])
        split = ap (after_notes l) q.0.whole ∙ after_notes-append l q.0.sought (Loaded t q.0.frame ∷ [])

pub emptied-hold : (m : Setting) (w : World) (sp : Spared) (l : Ledger) (t : Slot) (notes : List Note) → Empty m w l → 0 < count l t →
    IsEmptied m sp l t notes → Empty m w (after_notes l notes)
emptied-hold m w sp l t notes e used h =
    let l1 = after_notes l h.fetched in
    let f = fetched-hold m w sp l t h.frame h.fetched e used h.fetches in
    subst (λ ns. Empty m w (after_notes l ns)) (sym h.whole) (subst (Empty m w) (sym (after_notes-append l h.fetched (map_notes l1 t h.frame)))
    (map_notes-hold m w sp.closing l1 t h.frame f.empty f.pair))

-- ---- the notes are lawful

lawful-fetched : (m : Setting) (sp : Spared) (l : Ledger) (t : Slot) (f : ℕ) (notes : List Note) → IsSound m l → 0 < count l t →
    IsFetched m sp l t f notes → AreLawful m sp.closing l notes
lawful-fetched m sp l t f notes s used h = by (frame_at l t) refl h
  where
    by : (o : Option ℕ) → frame_at l t ≡ o → MatchOption o (TakesFor m sp l notes (Loaded t) × (frame_at (after_notes l notes) t ≡ Some f))
        (λ g. (notes ≡ []) × (f ≡ g)) → AreLawful m sp.closing l notes
    by (Some g) is q = lawful-is m sp.closing l notes [] q.0 tt
    by None is q =
        let named : 0 < slot_entries l t = (let z = frame_at-none t l.cache is in omega (arith, z, used)) in
        lawful-takes m sp l notes (Loaded t) q.0 (let k = (seeks-kept m sp l q.0.sought s q.0.seeks).keeps.more t in omega (arith, k, named))

lawful-emptied : (m : Setting) (sp : Spared) (l : Ledger) (t : Slot) (notes : List Note) → IsSound m l → 0 < count l t → IsEmptied m sp l t notes →
    AreLawful m sp.closing l notes
lawful-emptied m sp l t notes s used h =
    let l1 = after_notes l h.fetched in
    lawful-is m sp.closing l notes _ h.whole (lawful-append m sp.closing l h.fetched (map_notes l1 t h.frame)
    (lawful-fetched m sp l t h.frame h.fetched s used h.fetches) (lawful-maps m sp.closing l1 h.frame t (keys_of_slot l1 t)))

-- ---- the slots of the area, one after another

-- the first that is in use is in use
pub first-used : (m : Setting) (l : Ledger) (k page : ℕ) (others : List ℕ) → slots_in_use m l k ≡ page ∷ others →
    0 < count l (record { area = k; page = page })
first-used m l k page others h = positive _ (sym (counted-slot l (record { area = k; page = page }))
    ∙ first-passes (λ page. nat_lt 0 (slot_count l (record { area = k; page = page }))) (range_with_len 1 (size_of m k - 1)) others page h)
  where
    positive : (n : ℕ) → nat_lt 0 n ≡ true → 0 < n
    positive n h = grind (arith, nat_tests, h)

-- no slot is in use in the end, where it has come to it
pub record Emptied (m : Setting) (w : World) (k : ℕ) (end : Close) (l' : Ledger) : Type 0 where
  pub holds : Holds m w l'
  pub none : end ≡ Closed → slots_in_use m l' k ≡ []

ends-hold : (m : Setting) (w : World) (sp : Spared) (k : ℕ) (l : Ledger) (pages : List ℕ) (notes : List Note) (end : Close)
    → slots_in_use m l k ≡ pages →
    Empty m w l → EndsAt m sp k l pages notes end → Emptied m w k end (after_notes l notes)
ends-hold m w sp k l [] notes end is e h = subst (λ ns. Emptied m w k end (after_notes l ns)) (sym h.0) (record { holds = e.holds; none = λ _. is })
ends-hold m w sp k l (page ∷ pages) notes end is e h = record {
  holds = notes-hold m w sp.closing l notes e.holds (seeks-kept m sp l notes e.holds.sound h.1).sound (bring-seeks (at_page w) m sp l notes h.1)
      (lawful-seeks m sp l notes h.1);
  none = λ closed. absurd (never (has_free m (after_notes l notes)) (sym closed ∙ h.2));
}
  where
    never : (b : Bool) → Closed ≡ cond b Unread (NoRoom (out_of m sp (after_notes l notes))) → ⊥
    never true h = cc
    never false h = cc

pub empties-hold : (m : Setting) (w : World) (k : ℕ) (l : Ledger) (pages : List ℕ) (notes : List Note) (end : Close) → Empty m w l →
    Empties m w k l pages notes end → Emptied m w k end (after_notes l notes)
empties-hold m w k l [] notes end e h = ends-hold m w (sparing_area w k l) k l (slots_in_use m l k) notes end refl e h
empties-hold m w k l (page ∷ pages) notes end e h =
    let here = emptied-hold m w (sparing_area w k l) l (record { area = k; page = page }) h.1 e (first-used m l k page h.0 h.3) h.5 in
    subst (λ ns. Emptied m w k end (after_notes l ns)) (sym h.4) (subst (Emptied m w k end) (sym (after_notes-append l h.1 h.2))
    (empties-hold m w k (after_notes l h.1) pages h.2 end here h.6))

pub lawful-empties : (m : Setting) (w : World) (k : ℕ) (l : Ledger) (pages : List ℕ) (notes : List Note) (end : Close) → Empty m w l →
    Empties m w k l pages notes end → AreLawful m (Some k) l notes
lawful-empties m w k l [] notes end e h = by (slots_in_use m l k) h
  where
    by : (pages : List ℕ) → EndsAt m (sparing_area w k l) k l pages notes end → AreLawful m (Some k) l notes
    by [] h = lawful-is m (Some k) l notes [] h.0 tt
    by (page ∷ pages) h = lawful-seeks m (sparing_area w k l) l notes h.1
lawful-empties m w k l (page ∷ pages) notes end e h =
    let t : Slot = record { area = k; page = page } in
    let used = first-used m l k page h.0 h.3 in
    lawful-is m (Some k) l notes (h.1 ++ h.2) h.4 (lawful-append m (Some k) l h.1 h.2 (lawful-emptied m (sparing_area w k l) l t h.1 e.holds.sound used h.5)
    (lawful-empties m w k (after_notes l h.1) pages h.2 end (emptied-hold m w (sparing_area w k l) l t h.1 e used h.5) h.6))

-- ---- the command

-- all of flight is completed first
pub done-empty : (m : Setting) (w : World) (l : Ledger) (done : List Note) → AllSound m w l → Completes l l.flight done
    → Empty m w (after_notes l done)
done-empty m w l done s completes = record {
  holds = completes-hold m w l l.flight done (of-sound m w l s) completes;
  landed = all_landed m l (after_notes l done) (completes-kept m l l.flight done s.ledger completes);
}

pub turn-off-sound : (m : Setting) (w : World) (l : Ledger) (k : ℕ) (events : List Event) (answer : Answer) (rows : List Row) → AllSound m w l →
    TurnsOff m w l k events answer rows → AllSound m w (after_all l events)
turn-off-sound m w l k events answer rows s h = subst (λ es. AllSound m w (after_all l es)) (sym h.whole)
    (subst (AllSound m w) (sym (after_all-append l (note_events (h.done ++ h.notes)) (turn_off_events k h.end)))
    (subst (λ x. AllSound m w (after_all x (turn_off_events k h.end)))
    (sym (note_events-all l (h.done ++ h.notes) ∙ after_notes-append l h.done h.notes))
    (switched h.end refl)))
  where
    emptied : Emptied m w k h.end (after_notes (after_notes l h.done) h.notes)
    emptied = empties-hold m w k (after_notes l h.done) h.pages h.notes h.end
        (done-empty m w l h.done s h.completes) h.empties

    kept : AllSound m w (after_notes (after_notes l h.done) h.notes)
    kept = to-sound m w l (after_notes (after_notes l h.done) h.notes) s emptied.holds

    switched : (end : Close) → h.end ≡ end → AllSound m w (after_all (after_notes (after_notes l h.done) h.notes) (turn_off_events k end))
    switched Closed is = turned-off-sound m w (after_notes (after_notes l h.done) h.notes) k kept (emptied.none is)
    switched (NoRoom out) is = kept
    switched Unread is = kept
