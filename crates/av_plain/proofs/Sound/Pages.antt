-- Each entry stays at a mapped page.
use Rattle.av_base.specs.Keys.{Key, key_cmp, same_key}
use Rattle.av_base.proofs.Keys.{same_key-is}
use Rattle.av_base.specs.Words.{renamed}
use Rattle.std.proofs.Common.{◌≡◌, ◌⊎◌, inl, inr, ℕ, Bool, true, false, cond, List, [], ◌∷◌, ◌++◌, Option, Some, None, is_some, option_map, refl, sym, ap, subst, ◌∙◌, ◌==◌, is_none, not}
use Rattle.av_base.specs.Page.{address_of}
use Rattle.av_base.specs.declared.slot.Slot.{Slot}
use Rattle.av_trace.specs.declared.note.Cause.TheVariants.{Locked, NoSlot, Referenced, WriteStarted, Writeback}
use Rattle.av_trace.specs.declared.note.Note.{Note}
use Rattle.av_trace.specs.declared.note.Note.TheVariants.{Aged, Copied, Dropped, Failed, Kept, Loaded, Mapped, New, Put, Started, Unmapped, Written, Zeroed}
use Rattle.av_trace.specs.declared.reply.OutOf.{OutOf}
use Rattle.av_plain.specs.Access.{Accesses, End, page_events}
use Rattle.av_plain.specs.Event.{Event, Used, after_all, after_note, after_notes, after_use, after_use_of, change_entries, if_some, key_at, note_events, off_cache, off_flight, off_lists, set_entry, settle, to_inactive_tail, when, with_stale, without_seen}
use Rattle.av_plain.specs.Fault.{ComesIn, CopyOnWrite, Denied, IsMade, Lost, MapCached, Need, NewPage, Ready, RunsOut, Serves, Sparing, Starved, Stop, SwapIn, Touches, ZeroPage, drop_at, drop_of_entry, drop_of_slot, is_allowed, need, permits, pinned_by, sparing, was_slot}
use Rattle.av_plain.specs.Ledger.{Entry, InFrame, InSlot, Ledger, Setting, Zero, entry, frame_at, has_free, is_free, is_orphan, map_count, slot_of}
use Rattle.av_plain.specs.Pass.{Completes, IsPass, IsSlotFor, Seeks, Spared, TakesFor, Turns, end_note, end_notes, frames_in_turn, is_dirty, is_stuck, stays_cached, turn_notes, unmap_notes}
use Rattle.av_plain.specs.World.{Page, World, pages}
use Rattle.av_plain.proofs.Access.{accesses-keep, after_all-append, note_events-all}
use Rattle.av_plain.proofs.Ledger.{entry-set}
use Rattle.av_plain.proofs.Ledger.NoSwap.{key_at-address}
use Rattle.av_plain.proofs.Event.{find-map}
use Rattle.std.specs.Prelude.{MatchBool}
use Rattle.av_plain.specs.Event.{change_frame, placed_entry}
use Rattle.av_trace.specs.declared.note.Note.TheVariants.{Joined, Moved, Shared}
use Rattle.av_trace.specs.declared.note.Cause.TheVariants.{Ksm, Locked}
use Rattle.av_plain.proofs.Event.{changed-by, entry-renamed}

-- settling leaves the entries, and so does a write that ends well
pub settle-entries : (o : Option ℕ) (l : Ledger) → (if_some o settle l).entries ≡ l.entries
settle-entries None l = refl
settle-entries (Some f) l = elim (is_free l f) as (λ b. (cond b (off_lists f l) l).entries ≡ l.entries) [ true ↦ refl | false ↦ refl ]

pub written-entries : (l : Ledger) (s : Slot) → (after_note (Written s) l).entries ≡ l.entries
written-entries l s = by (frame_at l s)
  where
    by : (o : Option ℕ) → (if_some o to_inactive_tail (off_flight s l)).entries ≡ l.entries
    by None = refl
    by (Some f) = refl

-- ---- which notes bring an entry

-- the note gives an entry at most to a key that passes
abbrev pub Brings : (Key → Bool) → Note → Type 0
Brings test (Zeroed p a) = test (key_at p a) ≡ true
Brings test (New p a f) = test (key_at p a) ≡ true
Brings test (Copied p a f) = test (key_at p a) ≡ true
Brings test (Mapped p a f) = test (key_at p a) ≡ true
Brings test (Loaded s f) = Unit {0}
Brings test (Put f s) = Unit {0}
Brings test (Unmapped f) = Unit {0}
Brings test (Started s) = Unit {0}
Brings test (Written s) = Unit {0}
Brings test (Failed s) = Unit {0}
Brings test (Dropped s) = Unit {0}
Brings test (Kept f c) = Unit {0}
Brings test (Aged f) = Unit {0}
Brings test (Shared f) = Unit {0}
Brings test (Joined p a f) = test (key_at p a) ≡ true
Brings test (Moved from to) = Unit {0}

abbrev pub AllBring : (Key → Bool) → List Note → Type 0
AllBring test [] = Unit {0}
AllBring test (note ∷ notes) = Brings test note × AllBring test notes

module _ (test : Key → Bool) where
  -- all entries are where the test holds
  abbrev pub AllAt : Ledger → Type 0
  AllAt l = (q : Key) → is_some (entry l q) ≡ true → test q ≡ true

  set-at : (l : Ledger) (k : Key) (e : Entry) → test k ≡ true → AllAt l → AllAt (set_entry k e l)
  set-at l k e here all q h = by (same_key q k) refl (ap is_some (sym (entry-set k e l q)) ∙ h)
    where
      by : (b : Bool) → same_key q k ≡ b → is_some (cond b (Some e) (entry l q)) ≡ true → test q ≡ true
      by true is i = ap test (same_key-is q k is) ∙ here
      by false is i = all q i

  same-at : (l l' : Ledger) → l'.entries ≡ l.entries → AllAt l → AllAt l'
  same-at l l' e all q h = all q (ap (λ es. is_some (entry (record l { entries = es }) q)) (sym e) ∙ h)

  change-at : (l : Ledger) (f : ℕ) (c : Entry → Entry) → AllAt l → AllAt (change_entries f c l)
  change-at l f c all q h = all q (sym (kept (λ e. cond (names f e) (c e) e) (entry l q))
      ∙ ap is_some (sym (find-map key_cmp (λ e. cond (names f e) (c e) e) q l.entries)) ∙ h)
    where
      names : ℕ → Entry → Bool
      names f Zero = false
      names f (InFrame g seen) = f == g
      names f (InSlot s) = false

      kept : (g : Entry → Entry) (o : Option Entry) → is_some (option_map g o) ≡ is_some o
      kept g None = refl
      kept g (Some e) = refl

  change_frame-at : (l : Ledger) (k : Key) (f : ℕ) → test k ≡ true → AllAt l → AllAt (change_frame k f l)
  change_frame-at l k f here all = same-at (set_entry k (InFrame f false) l) (change_frame k f l) (changed-by (λ l. l.entries) (λ g l. refl) k f l)
      (set-at l k (InFrame f false) here all)

  pub noted-at : (l : Ledger) (note : Note) → Brings test note → AllAt l → AllAt (after_note note l)
  noted-at l (Zeroed p a) b all = set-at l (key_at p a) Zero b all
  noted-at l (New p a f) b all = set-at l (key_at p a) (InFrame f false) b all
  noted-at l (Copied p a f) b all = change_frame-at l (key_at p a) f b all
  noted-at l (Mapped p a f) b all = set-at l (key_at p a) (InFrame f false) b all
  noted-at l (Loaded s f) b all = all
  noted-at l (Put f s) b all = all
  noted-at l (Unmapped f) b all = by (slot_of l f)
    where
      by : (o : Option Slot) → AllAt (if_some o (λ s. change_entries f (λ _. InSlot s)) l)
      by None = all
      by (Some s) = change-at l f (λ _. InSlot s) all
  noted-at l (Started s) b all = all
  noted-at l (Written s) b all = same-at l (after_note (Written s) l) (written-entries l s) all
  noted-at l (Failed s) b all = all
  noted-at l (Dropped s) b all = same-at l (after_note (Dropped s) l) (settle-entries (frame_at l s) (off_cache s l)) all
  noted-at l (Kept f Writeback) b all = all
  noted-at l (Kept f WriteStarted) b all = all
  noted-at l (Kept f Referenced) b all = change-at l f without_seen all
  noted-at l (Kept f NoSlot) b all = all
  noted-at l (Kept f Locked) b all = all
  noted-at l (Kept f Ksm) b all = all
  noted-at l (Aged f) b all = change-at l f without_seen all
  noted-at l (Shared f) b all = all
  noted-at l (Joined p a f) b all = change_frame-at l (key_at p a) f b all
  noted-at l (Moved from to) b all = λ q h. all q (sym (kept (entry l q)) ∙ ap is_some (sym (entry-renamed from to l q)) ∙ h)
    where
      kept : (o : Option Entry) → is_some (option_map (placed_entry (renamed from to)) o) ≡ is_some o
      kept None = refl
      kept (Some e) = refl

  pub notes-at : (l : Ledger) (notes : List Note) → AllBring test notes → AllAt l → AllAt (after_notes l notes)
  notes-at l [] b all = all
  notes-at l (note ∷ notes) b all = notes-at (after_note note l) notes b.1 (noted-at l note b.0 all)

  pub bring-append : (a b : List Note) → AllBring test a → AllBring test b → AllBring test (a ++ b)
  bring-append [] b x y = y
  bring-append (note ∷ a) b x y = (x.0, bring-append a b x.1 y)

  pub bring-when : (b : Bool) (note : Note) → Brings test note → AllBring test (when b note)
  bring-when true note h = (h, tt)
  bring-when false note h = tt

  pub bring-is : (a b : List Note) → a ≡ b → AllBring test b → AllBring test a
  bring-is a b e h = subst (AllBring test) (sym e) h

  -- ---- a pass brings none

  bring-end : (failed : Bool) (t : Slot) → Brings test (end_note failed t)
  bring-end true t = tt
  bring-end false t = tt

  pub bring-completes : (l : Ledger) (ts : List Slot) (notes : List Note) → Completes l ts notes → AllBring test notes
  bring-completes l [] notes c = bring-is notes [] c tt
  bring-completes l (t ∷ ts) notes c = bring-is notes _ c.2
      (bring-append (end_notes l t c.0) c.1 (bring-end c.0 t, bring-when (is_orphan (after_note (end_note c.0 t) l) t) (Dropped t) tt)
      (bring-completes (after_notes l (end_notes l t c.0)) ts c.1 c.3))

  pub bring-turn : (l : Ledger) (f : ℕ) (t : Slot) (failed : Bool) → AllBring test (turn_notes l f t failed)
  bring-turn l f t failed =
      bring-append (unmap_notes l f t) _ (bring-append (when (is_none (slot_of l f)) (Put f t)) _ (bring-when (is_none (slot_of l f)) (Put f t) tt)
      (bring-when (not (map_count l f == 0)) (Unmapped f) tt)) (by (is_dirty l f t))
    where
      by : (b : Bool) → AllBring test (cond b (Started t ∷ end_note failed t ∷ []) [])
      by true = (tt, (bring-end failed t, tt))
      by false = tt

  bring-turns : (m : Setting) (sp : Spared) (l : Ledger) (fs : List ℕ) (notes : List Note) → Turns m sp l fs notes → AllBring test notes
  bring-turns m sp l [] notes r = bring-is notes [] r tt
  bring-turns m sp l (f ∷ fs) notes r = stuck (λ l' ns q. bring-turns m sp l' fs ns q) (is_stuck m sp l f) r
    where
      stuck : ((l' : Ledger) (ns : List Note) → Turns m sp l' fs ns → AllBring test ns) → (b : Bool) →
          MatchBool b (Turns m sp l fs notes) ((t : Slot) × (failed : Bool) × IsSlotFor m sp l f t × MatchBool (stays_cached l f t failed)
          ((rest : List Note) × (notes ≡ turn_notes l f t failed ++ rest) × Turns m sp (after_notes l (turn_notes l f t failed)) fs rest)
          (notes ≡ turn_notes l f t failed ++ Dropped t ∷ []))
          → AllBring test notes
      stuck again true r = again l notes r
      stuck again false r = goes (stays_cached l f r.0 r.1) r.3
        where
          goes : (b : Bool) → MatchBool b
              ((rest : List Note) × (notes ≡ turn_notes l f r.0 r.1 ++ rest) × Turns m sp (after_notes l (turn_notes l f r.0 r.1))
              fs rest) (notes ≡ turn_notes l f r.0 r.1 ++ Dropped r.0 ∷ []) → AllBring test notes
          goes true q = bring-is notes _ q.1 (bring-append (turn_notes l f r.0 r.1) q.0 (bring-turn l f r.0 r.1)
              (again (after_notes l (turn_notes l f r.0 r.1)) q.0 q.2))
          goes false q = bring-is notes _ q (bring-append (turn_notes l f r.0 r.1) (Dropped r.0 ∷ []) (bring-turn l f r.0 r.1) (tt, tt))

  pub bring-seeks : (m : Setting) (sp : Spared) (l : Ledger) (notes : List Note) → Seeks m sp l notes → AllBring test notes
  bring-seeks m sp l notes r = by (has_free m l) r
    where
      pass : (b : Bool) (now : Ledger) (fs : List ℕ) (ns : List Note) → MatchBool b (ns ≡ []) (Turns m sp now fs ns) → AllBring test ns
      pass true now fs ns q = bring-is ns [] q tt
      pass false now fs ns q = bring-turns m sp now fs ns q

      by : (b : Bool) → MatchBool b (notes ≡ []) (IsPass m sp l notes) → AllBring test notes
      by true q = bring-is notes [] q tt
      by false q = bring-is notes _ q.2 (bring-append q.0 q.1 (bring-completes l l.flight q.0 q.3)
          (pass (has_free m (after_notes l q.0)) (after_notes l q.0) (frames_in_turn sp (after_notes l q.0)) q.1 q.4))

  -- ---- accesses bring one at their page

  pub bring-takes : (m : Setting) (sp : Spared) (l : Ledger) (notes : List Note) (note : ℕ → Note) → ((f : ℕ) → Brings test (note f)) →
      TakesFor m sp l notes note → AllBring test notes
  bring-takes m sp l notes note h takes = bring-is notes _ takes.whole
      (bring-append takes.sought _ (bring-seeks m sp l takes.sought takes.seeks) (h takes.frame, tt))

  module _ (k : Key) (here : test k ≡ true) where
    at_key : test (key_at k.0 (address_of k.1)) ≡ true
    at_key = ap test (key_at-address k) ∙ here

    bring-comes : (m : Setting) (sp : Sparing) (l : Ledger) (n : Need) (notes : List Note) → ComesIn m sp l k n notes → AllBring test notes
    bring-comes m sp l (SwapIn s) notes q =
        bring-is notes _ q.4 (bring-append q.0 _ (bring-takes m (sp l None) l q.0 (Loaded s) (λ f. tt) q.2) (at_key, tt))
    bring-comes m sp l (MapCached f) notes q = bring-is notes _ q (at_key, tt)
    bring-comes m sp l Ready notes q = bring-is notes [] q tt
    bring-comes m sp l ZeroPage notes q = bring-is notes [] q tt
    bring-comes m sp l NewPage notes q = bring-is notes [] q tt
    bring-comes m sp l (CopyOnWrite g) notes q = bring-is notes [] q tt

    bring-made : (m : Setting) (sp : Sparing) (l : Ledger) (n : Need) (notes : List Note) → IsMade m sp l k n notes → AllBring test notes
    bring-made m sp l Ready notes q = bring-is notes [] q tt
    bring-made m sp l ZeroPage notes q = bring-is notes _ q (at_key, tt)
    bring-made m sp l NewPage notes q = bring-takes m (sp l None) l notes (New k.0 (address_of k.1)) (λ f. at_key) q
    bring-made m sp l (CopyOnWrite g) notes q = bring-takes m (sp l (Some g)) l notes (Copied k.0 (address_of k.1)) (λ f. at_key) q
    bring-made m sp l (SwapIn s) notes q = absurd q
    bring-made m sp l (MapCached f) notes q = absurd q

    bring-spare : (m : Setting) (write came : Bool) (l : Ledger) → AllBring test (drop_at m write came l k)
    bring-spare m write came l = by (entry l k)
      where
        slot_one : (o : Option Slot) → AllBring test (drop_of_slot m write came l o)
        slot_one None = tt
        slot_one (Some t) = bring-when _ (Dropped t) tt

        by : (o : Option Entry) → AllBring test (drop_of_entry m write came l o)
        by None = tt
        by (Some Zero) = tt
        by (Some (InFrame f seen)) = slot_one (slot_of l f)
        by (Some (InSlot t)) = tt

    bring-serves : (m : Setting) (sp : Sparing) (l : Ledger) (write : Bool) (notes : List Note) → Serves m sp l write k notes → AllBring test notes
    bring-serves m sp l write notes h = bring-is notes _ h.whole (bring-append (h.coming ++ h.making) _
        (bring-append h.coming h.making (bring-comes m sp l (need write l (entry l k)) h.coming h.comes_in)
        (bring-made m sp (after_notes l h.coming) (need write (after_notes l h.coming) (entry (after_notes l h.coming) k)) h.making h.made))
        (bring-spare m write (was_slot (need write l (entry l k))) (after_notes l (h.coming ++ h.making))))

    bring-runs_out : (m : Setting) (sp : Sparing) (l : Ledger) (write : Bool) (notes : List Note) (out : OutOf) →
        RunsOut m sp l write k notes out → AllBring test notes
    bring-runs_out m sp l write notes out h = bring-is notes _ h.whole
        (bring-append h.coming h.sought (by h.before) (bring-seeks m (sp (after_notes l h.coming)
        (pinned_by (need write (after_notes l h.coming) (entry (after_notes l h.coming) k)))) (after_notes l h.coming) h.sought h.finds.seeks))
      where
        by : (h.coming ≡ []) ⊎ ComesIn m sp l k (need write l (entry l k)) h.coming → AllBring test h.coming
        by (inl e) = bring-is h.coming [] e tt
        by (inr q) = bring-comes m sp l (need write l (entry l k)) h.coming q

-- ---- a page that is there

abbrev pub at_page : World → Key → Bool
at_page w k = is_some (pages w k.0 k.1)

allowed-there : (w : World) (write : Bool) (k : Key) → is_allowed w write k ≡ true → at_page w k ≡ true
allowed-there w write k h = by (pages w k.0 k.1) h
  where
    by : (o : Option Page) → permits write o ≡ true → is_some o ≡ true
    by None h = cc
    by (Some q) h = refl

-- a page that is accessed brings an entry only where a test holds, if it does there
pub touches-bring-at : (test : Key → Bool) (m : Setting) (w : World) (l : Ledger) (write : Bool) (k : Key) (notes : List Note) (end : Option Stop)
    → (is_allowed w write k ≡ true → test k ≡ true) → Touches m w l write k notes end → AllBring test notes
touches-bring-at test m w l write k notes None here h = bring-serves test k (here h.0) m (sparing w) l write notes h.1
touches-bring-at test m w l write k notes (Some Denied) here h = bring-is test notes [] h.1 tt
touches-bring-at test m w l write k notes (Some (Starved out)) here h = bring-runs_out test k (here h.0) m (sparing w) l write notes out h.1
touches-bring-at test m w l write k notes (Some Lost) here h = bring-seeks test m (sparing w l None) l notes h.1.seeks

pub touches-bring : (m : Setting) (w : World) (l : Ledger) (write : Bool) (k : Key) (notes : List Note) (end : Option Stop) →
    Touches m w l write k notes end → AllBring (at_page w) notes
touches-bring m w l write k notes end h = touches-bring-at (at_page w) m w l write k notes end (allowed-there w write k) h

pub used-at : (w : World) (l : Ledger) (write : Bool) (k : Key) → AllAt (at_page w) l → AllAt (at_page w) (after_use write k l)
used-at w l write k all = by write (entry l k) refl
  where
    set_here : (f : ℕ) (seen : Bool) → entry l k ≡ Some (InFrame f seen) → AllAt (at_page w) (set_entry k (InFrame f true) l)
    set_here f seen is = set-at (at_page w) l k (InFrame f true) (all k (ap is_some is)) all

    stale : (o : Option Slot) (l' : Ledger) → AllAt (at_page w) l' → AllAt (at_page w) (if_some o (with_stale true) l')
    stale None l' h = h
    stale (Some t) l' h = h

    by : (write : Bool) (o : Option Entry) → entry l k ≡ o → AllAt (at_page w) (after_use_of write k l o)
    by write None is = all
    by write (Some Zero) is = all
    by write (Some (InSlot t)) is = all
    by false (Some (InFrame f seen)) is = set_here f seen is
    by true (Some (InFrame f seen)) is = stale (slot_of l f) _ (set_here f seen is)

pub page_events-at : (w : World) (l : Ledger) (write : Bool) (k : Key) (notes : List Note) (end : Option Stop)
    → AllAt (at_page w) (after_notes l notes) →
    AllAt (at_page w) (after_all l (page_events write k notes end))
page_events-at w l write k notes None s = subst (AllAt (at_page w))
    (sym (after_all-append l (note_events notes) (Used write k ∷ []) ∙ ap (after_use write k) (note_events-all l notes)))
    (used-at w (after_notes l notes) write k s)
page_events-at w l write k notes (Some stop) s = subst (AllAt (at_page w)) (sym (note_events-all l notes)) s

pub accesses-at : (m : Setting) (w : World) (l : Ledger) (p : ℕ) (ps : List (Bool × ℕ)) (events : List Event) (end : End) → AllAt (at_page w) l →
    Accesses m w l p ps events end → AllAt (at_page w) (after_all l events)
accesses-at m w l p ps events end s h = accesses-keep (AllAt (at_page w)) m w p
    (λ l write page notes end s t. page_events-at w l write (p, page) notes end
    (notes-at (at_page w) l notes (touches-bring m w l write (p, page) notes end t) s)) l ps events end s h
