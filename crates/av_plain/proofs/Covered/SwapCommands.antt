-- Each command that moves pages to swap areas and back, or between frames, keeps frames and slots covered.
use Rattle.std.proofs.Common.{◌≡◌, ◌⊎◌, inl, inr, ℕ, ◌<◌, Bool, true, false, ◌||◌, List, [], ◌∷◌, ◌++◌, length, map, take, Option, Some, None, refl, sym, ap, subst, ◌∙◌, arith}
use Rattle.std.specs.List.{list_any}
use Rattle.std.specs.Prelude.{IsSomeAnd, MatchOption}
use Rattle.av_vma.specs.Pages.{home_of}
use Rattle.av_base.specs.Keys.{Key, same_key}
use Rattle.av_base.proofs.Keys.{same_key-itself}
use Rattle.av_base.specs.Page.{address_of}
use Rattle.av_base.specs.declared.slot.Slot.{Slot}
use Rattle.av_trace.specs.declared.command.Command.{Command}
use Rattle.av_trace.specs.declared.command.Command.TheVariants.{Age, Compact, Complete, Merge, Read, Reclaim, Swapoff, Swapon, Write}
use Rattle.av_trace.specs.declared.note.Note.{Note}
use Rattle.av_trace.specs.declared.note.Note.TheVariants.{Aged, Dropped, Loaded, Mapped}
use Rattle.av_trace.specs.declared.reply.Answer.{Answer}
use Rattle.av_trace.specs.declared.reply.Errno.{Errno}
use Rattle.av_trace.specs.declared.reply.Reply.{Reply}
use Rattle.av_trace.specs.declared.row.Row.{Row}
use Rattle.av_plain.specs.Access.{pages_of_access}
use Rattle.av_plain.specs.Areas.{AreLeft, Rmap, rmap_after_all}
use Rattle.av_plain.specs.Covered.{AreMergedCovered, AreSlotsCovered, IsRmapSound}
use Rattle.av_plain.specs.Event.{Event, TurnedOff, TurnedOn, after_all, after_note, after_notes, key_at, note_events}
use Rattle.av_plain.specs.Fault.{sparing}
use Rattle.av_plain.specs.Fork.{IsRmapNext}
use Rattle.av_plain.specs.Ledger.{Ledger, Setting, SwapArea, entry, frame_at, is_merged, keys_of_slot, slot_entries, slots_in_use}
use Rattle.av_plain.specs.Pass.{Spared, TakesFor}
use Rattle.av_plain.specs.Reclaim.{Ages, CompletesFirst, Reclaims, from_tail}
use Rattle.av_plain.specs.Refusal.{Refuses, refusal, tests}
use Rattle.av_plain.specs.Sound.{AllSound, IsSound, count, slots}
use Rattle.av_plain.specs.Step.{Follows, IsLegal}
use Rattle.av_plain.specs.Swapoff.{Close, Closed, Empties, EndsAt, IsEmptied, IsFetched, NoRoom, TurnsOff, Unread, map_notes, sparing_area, turn_off_events}
use Rattle.av_plain.specs.Swapon.{TurnsOn, turn_on_events}
use Rattle.av_plain.specs.Transcript.{IsStep, State, rmap_of}
use Rattle.av_plain.specs.World.{World}
use Rattle.av_plain.proofs.Access.{after_all-append, note_events-all}
use Rattle.av_plain.proofs.AreasLeft.{rmap_after_all-append}
use Rattle.av_plain.proofs.Covered.{stay-left}
use Rattle.av_plain.proofs.Covered.MergeCommands.{compact-reach, merge-reach}
use Rattle.av_plain.proofs.Covered.Page.{Lies, ReachAt, accesses-reach}
use Rattle.av_plain.proofs.Covered.Swap.{AllFit, Reach, cached-unmerged, fit-ages, fit-append, fit-completes, fit-is, fit-outcomes, fit-seeks, free-unmerged, reach-lists, reach-notes}
use Rattle.av_plain.proofs.Covered.Zaps.{next-reach}
use Rattle.av_plain.proofs.Ledger.NoSwap.{key_at-address}
use Rattle.av_plain.proofs.Sound.Counts.{frame_at-none}
use Rattle.av_plain.proofs.Sound.Pass.{seeks-kept}
use Rattle.av_plain.proofs.Sound.Swap.Area.{turn-on-events}
use Rattle.av_plain.proofs.Sound.Swap.Empty.{Empty, Waits, done-empty, emptied-hold, fetched-hold, first-used, keys-wait, map_all, or_right, waits-on}
use Rattle.av_plain.proofs.Transcript.{plain-next}

-- ---- a slot is emptied

fit-maps : (l : Ledger) (t : Slot) (f : ℕ) (ks : List Key) → frame_at l t ≡ Some f → is_merged l f ≡ false
    → ((k : Key) → list_any (same_key k) ks ≡ true → Waits t f (entry l k)) →
    AllFit l (map_all ks f ++ Dropped t ∷ [])
fit-maps l t f [] at own waits = (tt, tt)
fit-maps l t f (k ∷ ks) at own waits = (
  (t, subst (λ q. Waits t f (entry l q)) (sym (key_at-address k)) (waits k (ap (λ b. b || list_any (same_key k) ks) (same_key-itself k))), at, own),
  fit-maps (after_note (Mapped k.0 (address_of k.1) f) l) t f ks at own (λ q h. waits-on l t f (key_at k.0 (address_of k.1)) q
      (waits q (or_right (same_key q k) (list_any (same_key q) ks) h))),
)

fit-fetched : (m : Setting) (sp : Spared) (l : Ledger) (t : Slot) (f : ℕ) (notes : List Note) → IsSound m l → 0 < count l t
    → IsFetched m sp l t f notes →
    AllFit l notes
fit-fetched m sp l t f notes s used h = by (frame_at l t) refl h
  where
    by : (o : Option ℕ) → frame_at l t ≡ o → MatchOption o (TakesFor m sp l notes (Loaded t) × (frame_at (after_notes l notes) t ≡ Some f))
        (λ g. (notes ≡ []) × (f ≡ g)) → AllFit l notes
    by (Some g) is q = fit-is l notes [] q.0 tt
    by None is q =
        let out = frame_at-none t l.cache is in
        let named : 0 < slot_entries l t = omega (arith, out, used) in
        fit-is l notes (q.0.sought ++ Loaded t q.0.frame ∷ []) q.0.whole (fit-append l q.0.sought (Loaded t q.0.frame ∷ [])
        (fit-seeks m sp l q.0.sought q.0.seeks) (
          (
            (seeks-kept m sp l q.0.sought s q.0.seeks).keeps.absent t out named,
            q.0.free,
            free-unmerged m (after_notes l q.0.sought) q.0.frame (seeks-kept m sp l q.0.sought s q.0.seeks).sound q.0.free,
          ),
          tt,
        ))

fetched-at : (m : Setting) (sp : Spared) (l : Ledger) (t : Slot) (f : ℕ) (notes : List Note) → IsFetched m sp l t f notes →
    frame_at (after_notes l notes) t ≡ Some f
fetched-at m sp l t f notes h = by (frame_at l t) refl h
  where
    by : (o : Option ℕ) → frame_at l t ≡ o → MatchOption o (TakesFor m sp l notes (Loaded t) × (frame_at (after_notes l notes) t ≡ Some f))
        (λ g. (notes ≡ []) × (f ≡ g)) → frame_at (after_notes l notes) t ≡ Some f
    by (Some g) is q = subst (λ ns. frame_at (after_notes l ns) t ≡ Some f) (sym q.0) (is ∙ ap Some (sym q.1))
    by None is q = q.1

fit-emptied : (m : Setting) (w : World) (sp : Spared) (l : Ledger) (t : Slot) (notes : List Note) → Empty m w l → 0 < count l t
    → IsEmptied m sp l t notes →
    AllFit l notes
fit-emptied m w sp l t notes e used h =
    let l1 = after_notes l h.fetched in
    let f = fetched-hold m w sp l t h.frame h.fetched e used h.fetches in
    fit-is l notes (h.fetched ++ map_notes l1 t h.frame) h.whole (fit-append l h.fetched (map_notes l1 t h.frame)
    (fit-fetched m sp l t h.frame h.fetched e.holds.sound used h.fetches) (fit-maps l1 t h.frame (keys_of_slot l1 t)
    (fetched-at m sp l t h.frame h.fetched h.fetches)
    (cached-unmerged m l1 h.frame t f.empty.holds.sound (fetched-at m sp l t h.frame h.fetched h.fetches)) (λ k is. keys-wait l1 t h.frame k f.empty.holds.sound.in_order is)))

pub fit-empties : (m : Setting) (w : World) (k : ℕ) (l : Ledger) (pages : List ℕ) (notes : List Note) (end : Close) → Empty m w l →
    Empties m w k l pages notes end → AllFit l notes
fit-empties m w k l [] notes end e h = by (slots_in_use m l k) h
  where
    by : (pages : List ℕ) → EndsAt m (sparing_area w k l) k l pages notes end → AllFit l notes
    by [] h = fit-is l notes [] h.0 tt
    by (page ∷ pages) h = fit-seeks m (sparing_area w k l) l notes h.1
fit-empties m w k l (page ∷ pages) notes end e h =
    let t : Slot = record { area = k; page = page } in
    let used = first-used m l k page h.0 h.3 in
    fit-is l notes (h.1 ++ h.2) h.4 (fit-append l h.1 h.2 (fit-emptied m w (sparing_area w k l) l t h.1 e used h.5)
    (fit-empties m w k (after_notes l h.1) pages h.2 end (emptied-hold m w (sparing_area w k l) l t h.1 e used h.5) h.6))

-- ---- the events of a command

-- what holds after these events
abbrev pub Reaches : Ledger → Rmap → List Event → Type 0
Reaches l r events = Reach (after_all l events) (rmap_after_all l events r)

noted-reach : (l : Ledger) (r : Rmap) (notes : List Note) → AllFit l notes → Reach l r → Reaches l r (note_events notes)
noted-reach l r notes fit h =
    subst (λ x. Reach x (rmap_after_all l (note_events notes) r)) (sym (note_events-all l notes)) (reach-notes l r notes fit h)

reclaim-reach : (m : Setting) (w : World) (l : Ledger) (r : Rmap) (n : ℕ) (events : List Event) (answer : Answer) (rows : List Row) → Reach l r →
    Reclaims m w l n events answer rows → Reaches l r events
reclaim-reach m w l r n events answer rows s h =
    subst (Reaches l r) (sym h.3) (noted-reach l r h.0 (fit-outcomes m (sparing w l None) l (from_tail n l.inactive) h.0 h.1) s)

age-reach : (l : Ledger) (r : Rmap) (n : ℕ) (events : List Event) (answer : Answer) (rows : List Row) → Reach l r → Ages l n events answer rows →
    Reaches l r events
age-reach l r n events answer rows s h =
    subst (Reaches l r) (sym h.1) (noted-reach l r (map Aged (from_tail n l.active)) (fit-ages l (from_tail n l.active)) s)

complete-reach : (l : Ledger) (r : Rmap) (n : ℕ) (events : List Event) (answer : Answer) (rows : List Row) → Reach l r
    → CompletesFirst l n events answer rows →
    Reaches l r events
complete-reach l r n events answer rows s h = subst (Reaches l r) (sym h.3) (noted-reach l r h.0 (fit-completes l (take n l.flight) h.0 h.1) s)

turn-on-reach : (m : Setting) (l : Ledger) (r : Rmap) (k : ℕ) (priority : Option ℕ) (events : List Event) (answer : Answer)
    (rows : List Row) → Reach l r → TurnsOn m k priority events answer rows → Reaches l r events
turn-on-reach m l r k priority events answer rows s h = subst (Reaches l r) (sym h.1) (by (turn-on-events k priority answer))
  where
    by : (turn_on_events k priority answer ≡ []) ⊎ ((area : SwapArea) × (turn_on_events k priority answer ≡ TurnedOn k area ∷ [])) →
        Reaches l r (turn_on_events k priority answer)
    by (inl e) = subst (Reaches l r) (sym e) s
    by (inr (area, e)) = subst (Reaches l r) (sym e) (reach-lists l (after_all l (TurnedOn k area ∷ [])) r refl refl refl s)

turn-off-reach : (m : Setting) (w : World) (l : Ledger) (r : Rmap) (k : ℕ) (events : List Event) (answer : Answer) (rows : List Row)
    → AllSound m w l →
    Reach l r → TurnsOff m w l k events answer rows → Reaches l r events
turn-off-reach m w l r k events answer rows s h t = subst (Reaches l r) (sym t.whole)
    (subst (λ x. Reach x (rmap_after_all l (note_events all ++ turn_off_events k t.end) r))
    (sym (after_all-append l (note_events all) (turn_off_events k t.end)))
    (subst (Reach (after_all (after_all l (note_events all)) (turn_off_events k t.end)))
    (sym (rmap_after_all-append l (note_events all) (turn_off_events k t.end) r)) (ends t.end)))
  where
    all : List Note
    all = t.done ++ t.notes

    now : Ledger
    now = after_notes l t.done

    before : Reaches l r (note_events (t.done ++ t.notes))
    before = noted-reach l r (t.done ++ t.notes) (fit-append l t.done t.notes (fit-completes l l.flight t.done t.completes)
        (fit-empties m w k (after_notes l t.done) t.pages t.notes t.end
        (done-empty m w l t.done s t.completes) t.empties)) h

    ends : (end : Close) → Reach (after_all (after_all l (note_events (t.done ++ t.notes))) (turn_off_events k end))
        (rmap_after_all (after_all l (note_events (t.done ++ t.notes))) (turn_off_events k end)
        (rmap_after_all l (note_events (t.done ++ t.notes)) r))
    ends Closed = let l' = after_all l (note_events (t.done ++ t.notes)) in
        reach-lists l' (after_all l' (TurnedOff k ∷ [])) (rmap_after_all l (note_events (t.done ++ t.notes)) r) refl refl refl before
    ends (NoRoom out) = before
    ends Unread = before

-- ---- the commands

-- the commands that move pages between frames, and between frames and slots
abbrev pub moves_pages : Command → Bool
moves_pages (Reclaim n) = true
moves_pages (Age n) = true
moves_pages (Complete n) = true
moves_pages (Swapon k priority) = true
moves_pages (Swapoff k) = true
moves_pages Merge = true
moves_pages Compact = true
moves_pages command = false

follows-reach : (m : Setting) (w : World) (l : Ledger) (r : Rmap) (command : Command) (events : List Event) (answer : Answer) (rows : List Row) →
    moves_pages command ≡ true → AllSound m w l → Reach l r → Follows m w l command events answer rows → Reaches l r events
follows-reach m w l r (Reclaim n) events answer rows is s h f = reclaim-reach m w l r n events answer rows h f
follows-reach m w l r (Age n) events answer rows is s h f = age-reach l r n events answer rows h f
follows-reach m w l r (Complete n) events answer rows is s h f = complete-reach l r n events answer rows h f
follows-reach m w l r (Swapon k priority) events answer rows is s h f = turn-on-reach m l r k priority events answer rows h f
follows-reach m w l r (Swapoff k) events answer rows is s h f = turn-off-reach m w l r k events answer rows s h f
follows-reach m w l r Merge events answer rows is s h f = merge-reach m w l r events answer rows s h f
follows-reach m w l r Compact events answer rows is s h f = compact-reach m w l r events answer rows s h f
follows-reach m w l r command events answer rows is s h f = cc

pub legal-reach : (m : Setting) (w : World) (l : Ledger) (r : Rmap) (command : Command) (reply : Reply) (events : List Event)
    → moves_pages command ≡ true →
    AllSound m w l → Reach l r → IsLegal m w l command reply events → Reaches l r events
legal-reach m w l r command reply events is s h legal = by (refusal (tests m w l command)) legal.answer
  where
    by : (o : Option Errno)
        → MatchOption o (Follows m w l command events reply.answer reply.rows) (λ error. Refuses error events reply.answer reply.rows) →
        Reaches l r events
    by None f = follows-reach m w l r command events reply.answer reply.rows is s h f
    by (Some error) f = subst (Reaches l r) (sym f.1) h

-- the areas stay, and with them what is linked to an own anon_vma
pub reach-left : (l : Ledger) (r next : Rmap) → next.areas ≡ r.areas → AreLeft r.anons next.areas next.anons → next.homes ≡ r.homes
    → next.items ≡ r.items → Reach l r → Reach l next
reach-left l r next areas left = next-reach l r next (λ k x there is. ap (λ on. home_of k.1 (on k.0 k.1)) areas ∙ is)
    (λ p page v is. (p, page, subst (λ on. IsSomeAnd (on p page) (λ area. area.anon ≡ Some v)) areas is))
    (stay-left r.anons next.areas next.anons left)

-- areas, homes and items are the same, and of the anon_vmas is left what is linked
abbrev IsStill : Rmap → Rmap → Type 0
IsStill now next =
    (next.areas ≡ now.areas) × AreLeft now.anons next.areas next.anons × (next.homes ≡ now.homes) × (next.items ≡ now.items)

next-still : (now : Rmap) (w : World) (command : Command) (answer : Answer) (next : Rmap) → moves_pages command ≡ true
    → IsRmapNext now w command answer next →
    IsStill now next
next-still now w (Reclaim n) answer next is h = let a = plain-next now w (Reclaim n) answer next refl h in (a.areas, a.anons, a.homes, a.items)
next-still now w (Age n) answer next is h = let a = plain-next now w (Age n) answer next refl h in (a.areas, a.anons, a.homes, a.items)
next-still now w (Complete n) answer next is h = let a = plain-next now w (Complete n) answer next refl h in (a.areas, a.anons, a.homes, a.items)
next-still now w (Swapon k priority) answer next is h = let a = plain-next now w (Swapon k priority) answer next refl h in (a.areas, a.anons, a.homes, a.items)
next-still now w (Swapoff k) answer next is h = let a = plain-next now w (Swapoff k) answer next refl h in (a.areas, a.anons, a.homes, a.items)
next-still now w Merge answer next is h = let a = plain-next now w Merge answer next refl h in (a.areas, a.anons, a.homes, a.items)
next-still now w Compact answer next is h = let a = plain-next now w Compact answer next refl h in (a.areas, a.anons, a.homes, a.items)
next-still now w command answer next is h = cc

-- a step of these commands keeps frames and slots covered
pub step-covered : (m : Setting) (old : State) (command : Command) (reply : Reply) (new : State) → moves_pages command ≡ true →
    AllSound m old.world old.ledger → IsStep m old command reply new → IsRmapSound old.ledger (rmap_of old)
    → AreSlotsCovered old.ledger (rmap_of old) → AreMergedCovered old.ledger (rmap_of old) →
    IsRmapSound new.ledger (rmap_of new) × AreSlotsCovered new.ledger (rmap_of new) × AreMergedCovered new.ledger (rmap_of new)
step-covered m old command reply new is s step sound slots merged = (all.sound, all.slots, all.merged)
  where
    before : Reach old.ledger (rmap_of old)
    before = record { in_order = s.ledger.in_order; once = s.ledger.slots_once; sound = sound; slots = slots; merged = merged }

    now : Rmap
    now = rmap_after_all old.ledger step.events (rmap_of old)

    still : IsStill now (rmap_of new)
    still = next-still now old.world command reply.answer (rmap_of new) is step.rmap

    all : Reach new.ledger (rmap_of new)
    all = subst (λ l. Reach l (rmap_of new)) (sym step.ledger)
        (reach-left (after_all old.ledger step.events) now (rmap_of new) still.0 still.1 still.2 still.3
        (legal-reach m old.world old.ledger (rmap_of old) command reply step.events is s before step.legal))

-- ---- reads and writes

abbrev pub touches_pages : Command → Bool
touches_pages (Read p a n) = true
touches_pages (Write p a bytes) = true
touches_pages command = false

access-reach : (m : Setting) (w : World) (l : Ledger) (r : Rmap) (command : Command) (events : List Event) (answer : Answer) (rows : List Row) →
    touches_pages command ≡ true → AllSound m w l → ReachAt w l r → Follows m w l command events answer rows → Reaches l r events
access-reach m w l r (Read p a n) events answer rows is s h f =
    (accesses-reach m w l r p (pages_of_access false a n) events f.0 s.ledger h f.2).reach
access-reach m w l r (Write p a bytes) events answer rows is s h f =
    (accesses-reach m w l r p (pages_of_access true a (length bytes)) events f.0 s.ledger h f.1).reach
access-reach m w l r command events answer rows is s h f = cc

access-still : (now : Rmap) (w : World) (command : Command) (answer : Answer) (next : Rmap) → touches_pages command ≡ true →
    IsRmapNext now w command answer next → IsStill now next
access-still now w (Read p a n) answer next is h = let x = plain-next now w (Read p a n) answer next refl h in (x.areas, x.anons, x.homes, x.items)
access-still now w (Write p a bytes) answer next is h = let x = plain-next now w (Write p a bytes) answer next refl h in (x.areas, x.anons, x.homes, x.items)
access-still now w command answer next is h = cc

-- a step of a read or write keeps frames and slots covered, where each page of the memories has an area
pub access-covered : (m : Setting) (old : State) (command : Command) (reply : Reply) (new : State) → touches_pages command ≡ true →
    AllSound m old.world old.ledger → Lies old.world (rmap_of old) → IsStep m old command reply new → IsRmapSound old.ledger (rmap_of old)
    → AreSlotsCovered old.ledger (rmap_of old) → AreMergedCovered old.ledger (rmap_of old)
    → IsRmapSound new.ledger (rmap_of new) × AreSlotsCovered new.ledger (rmap_of new) × AreMergedCovered new.ledger (rmap_of new)
access-covered m old command reply new is s lies step sound slots merged = (all.sound, all.slots, all.merged)
  where
    before : Reach old.ledger (rmap_of old)
    before = record { in_order = s.ledger.in_order; once = s.ledger.slots_once; sound = sound; slots = slots; merged = merged }

    now : Rmap
    now = rmap_after_all old.ledger step.events (rmap_of old)

    by : (o : Option Errno) → MatchOption o (Follows m old.world old.ledger command step.events reply.answer reply.rows)
        (λ error. Refuses error step.events reply.answer reply.rows) → Reaches old.ledger (rmap_of old) step.events
    by None f = access-reach m old.world old.ledger (rmap_of old) command step.events reply.answer reply.rows is s
        (record { reach = before; lies = lies }) f
    by (Some error) f = subst (Reaches old.ledger (rmap_of old)) (sym f.1) before

    still : IsStill now (rmap_of new)
    still = access-still now old.world command reply.answer (rmap_of new) is step.rmap

    all : Reach new.ledger (rmap_of new)
    all = subst (λ l. Reach l (rmap_of new)) (sym step.ledger)
        (reach-left (after_all old.ledger step.events) now (rmap_of new) still.0 still.1 still.2 still.3
        (by (refusal (tests m old.world old.ledger command)) step.legal.answer))
