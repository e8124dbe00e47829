-- What holds of frames and slots where pages are read and written.
use Rattle.std.proofs.Common.{◌≡◌, ◌⊎◌, inl, inr, ℕ, ◌<◌, ◌≤◌, Bool, true, false, cond, ◌||◌, nat_lt, T, List, [], ◌∷◌, ◌++◌, Option, Some, None, is_some, IsSome, IsSomeAnd, refl, sym, ap, subst, ◌∙◌, arith, ◌==◌}
use Rattle.std.proofs.lemmas.Bool.{false≢true}
use Rattle.std.proofs.lemmas.Bool.Decides.{nat_tests}
use Rattle.std.specs.Prelude.{unwrap_or}
use Rattle.std.specs.FinMap.Entries.{is_sorted}
use Rattle.av_base.specs.Keys.{Key, key_cmp, same_key}
use Rattle.av_base.proofs.Keys.{same_key-itself}
use Rattle.av_base.specs.Page.{address_of}
use Rattle.av_base.specs.declared.slot.Slot.{Slot}
use Rattle.av_vma.specs.Pages.{AreLaid, Lengths, Pages, after_prepare, has_page, home_of, loan_beside, with_anon, with_area}
use Rattle.av_vma.specs.declared.area.Area.{Area}
use Rattle.av_vma.proofs.Laid.{laid_prepared}
use Rattle.av_trace.specs.declared.note.Note.{Note}
use Rattle.av_trace.specs.declared.note.Note.TheVariants.{Aged, Copied, Dropped, Failed, Kept, Loaded, Mapped, New, Put, Started, Unmapped, Written, Zeroed}
use Rattle.av_trace.specs.declared.reply.OutOf.{OutOf}
use Rattle.av_plain.specs.Access.{Accesses, End, page_events}
use Rattle.av_plain.specs.Areas.{Rmap, at_home, chain_length, prepare_page, rmap_after_all, rmap_after_note, rmap_after_use}
use Rattle.av_plain.specs.Covered.{IsOfSlot}
use Rattle.av_plain.specs.Event.{Event, Used, after_all, after_note, after_notes, after_use, after_use_of, change_frame, if_some, note_events, off_cache, set_entry, to_inactive_head, when, with_stale}
use Rattle.av_plain.specs.Fault.{ComesIn, CopyOnWrite, Denied, IsMade, Lost, Ready, RunsOut, Serves, Sparing, Starved, Stop, Takes, Touches, drop_at, drop_of_entry, drop_of_slot, is_named, asks_copy, is_unneeded, need, need_of_slot, permits, pinned_by, sparing, was_slot}
use Rattle.av_plain.specs.Ledger.{Entry, InFrame, InSlot, Ledger, Setting, Zero, entry, frame_at, is_free, is_merged, map_count, names_frame, names_slot, same_slot, slot_entries, slot_of}
use Rattle.av_plain.specs.Pass.{Spared, TakesFor}
use Rattle.av_plain.specs.Sound.{IsSound}
use Rattle.av_plain.specs.World.{Page, World, pages}
use Rattle.av_plain.proofs.Access.{after_all-append, after_notes-append, note_events-all}
use Rattle.av_plain.proofs.AreasLeft.{rmap_after_all-append}
use Rattle.av_plain.proofs.Covered.{Names, alone-by, covered-owns, merged-fewer, merged-homed, merged-prepared, merged-set, owns-prepared, slots-prepared, sound-prepared, sound-put, sound-set}
use Rattle.av_plain.proofs.Covered.Slots.{frame_at-off, set-fewer, slots-homed, slots-lists, slots-set}
use Rattle.av_plain.proofs.Covered.Swap.{AllFit, AreMergedFewer, Fits, Reach, cached-unmerged, fit-append, fit-is, fit-seeks, free-uncached, free-unmerged, free-unnamed, merged-settled, merged-settled_entry, reach-alike, reach-notes, reach-stale, settled_entry-cache, settled_entry-entries, unlike}
use Rattle.av_plain.proofs.Ledger.{entry-set, how_many-found, is_sorted-set, map_count-set}
use Rattle.av_plain.proofs.Ledger.NoSwap.{key_at-address}
use Rattle.av_plain.proofs.Sound.Access.{comes-kept, load-kept, page_events-kept, touches-kept, unused}
use Rattle.av_plain.proofs.Sound.Counts.{frame_at-none, frame_at-some, pair-frame, same-is, same-itself, slot-is, slot-itself, slot_of-none, slot_of-some, two_slots}
use Rattle.av_plain.proofs.Sound.Pass.{seeks-kept}
use Rattle.av_plain.proofs.Sound.Steps.{settle-cache, settle-entries}
use Rattle.av_plain.proofs.Sound.Swap.Empty.{Waits}
use Rattle.av_trace.specs.declared.note.Note.TheVariants.{Joined, Moved, Shared}

-- the areas of each process lie apart, and each page of the memories has one
pub record Lies (w : World) (r : Rmap) : Type 0 where
  pub laid : (p : ℕ) → AreLaid (r.areas p)
  pub there : (k : Key) → is_some (pages w k.0 k.1) ≡ true → IsSome (r.areas k.0 k.1)

pub record ReachAt (w : World) (l : Ledger) (r : Rmap) : Type 0 where
  pub reach : Reach l r
  pub lies : Lies w r

-- after these notes
abbrev pub NotesReach : World → Ledger → Rmap → List Note → Type 0
NotesReach w l r notes = ReachAt w (after_notes l notes) (rmap_after_all l (note_events notes) r)

notes-append : (w : World) (l : Ledger) (r : Rmap) (a b : List Note) → NotesReach w (after_notes l a) (rmap_after_all l (note_events a) r) b →
    NotesReach w l r (a ++ b)
notes-append w l r [] b h = h
notes-append w l r (note ∷ a) b h = notes-append w (after_note note l) (rmap_after_note l note r) a b h

-- ---- notes that prepare no area

lies-by : (w : World) (r r' : Rmap) → r'.areas ≡ r.areas → Lies w r → Lies w r'
lies-by w r r' same h = record {
  laid = λ p. subst (λ on. AreLaid (on p)) (sym same) (h.laid p);
  there = λ k is. subst (λ on. IsSome (on k.0 k.1)) (sym same) (h.there k is);
}

note-areas : (l : Ledger) (r : Rmap) (note : Note) → Fits l note → (rmap_after_note l note r).areas ≡ r.areas
note-areas l r (Zeroed p a) fits = refl
note-areas l r (New p a f) fits = absurd fits
note-areas l r (Copied p a f) fits = refl
note-areas l r (Loaded t f) fits = refl
note-areas l r (Mapped p a f) fits = refl
note-areas l r (Put f t) fits = refl
note-areas l r (Unmapped f) fits = refl
note-areas l r (Started t) fits = refl
note-areas l r (Written t) fits = refl
note-areas l r (Failed t) fits = refl
note-areas l r (Dropped t) fits = refl
note-areas l r (Kept f cause) fits = refl
note-areas l r (Aged f) fits = refl
note-areas l r (Shared f) fits = refl
note-areas l r (Joined p a f) fits = refl
note-areas l r (Moved a b) fits = refl

pub fit-areas : (l : Ledger) (r : Rmap) (notes : List Note) → AllFit l notes → (rmap_after_all l (note_events notes) r).areas ≡ r.areas
fit-areas l r [] fit = refl
fit-areas l r (note ∷ notes) fit = fit-areas (after_note note l) (rmap_after_note l note r) notes fit.1 ∙ note-areas l r note fit.0

fit-reach : (w : World) (l : Ledger) (r : Rmap) (notes : List Note) → AllFit l notes → ReachAt w l r → NotesReach w l r notes
fit-reach w l r notes fit h = record {
  reach = reach-notes l r notes fit h.reach;
  lies = lies-by w r (rmap_after_all l (note_events notes) r) (fit-areas l r notes fit) h.lies;
}

-- ---- a page gets a frame

there-prepared : (len : Lengths) (next page : ℕ) (on : Pages) (at : ℕ) → IsSome (on at) → IsSome (after_prepare len next page on at)
there-prepared len next page on at there = by (on page)
  where
    by : (o : Option Area) → IsSome (with_anon len next o on at)
    by None = there
    by (Some b) = bare (is_some b.anon)
      where
        over : (has : Bool) → IsSome (cond has (Some (record b { anon = Some (unwrap_or (loan_beside len on b) next) })) (on at))
        over true = refl
        over false = there

        bare : (c : Bool) → IsSome (cond c on (with_area (record b { anon = Some (unwrap_or (loan_beside len on b) next) }) on) at)
        bare true = there
        bare false = over (has_page b at)

lies-prepared : (w : World) (p page : ℕ) (r : Rmap) → Lies w r → Lies w (prepare_page p page r)
lies-prepared w p page r h = record { laid = λ q. laid q (q == p); there = λ k is. there k (k.0 == p) refl (h.there k is) }
  where
    laid : (q : ℕ) (b : Bool) → AreLaid (cond b (after_prepare (chain_length r.anons) r.anons.next page (r.areas p)) (r.areas q))
    laid q true = laid_prepared (chain_length r.anons) r.anons.next page (r.areas p) (h.laid p)
    laid q false = h.laid q

    there : (k : Key) (b : Bool) → (k.0 == p) ≡ b → IsSome (r.areas k.0 k.1) →
        IsSome (cond b (after_prepare (chain_length r.anons) r.anons.next page (r.areas p)) (r.areas k.0) k.1)
    there k true e is = there-prepared (chain_length r.anons) r.anons.next page (r.areas p) k.1
        (subst (λ q. IsSome (r.areas q k.1)) (same-is k.0 p e) is)
    there k false e is = is

-- a frame that is free becomes the page's, and is at home there
given-reach : (w : World) (l : Ledger) (r : Rmap) (k : Key) (f : ℕ) → IsSomeAnd (r.areas k.0 k.1) (λ area. IsSome area.anon) → is_free l f ≡ true →
    is_merged l f ≡ false → ReachAt w l r → ReachAt w (to_inactive_head f (set_entry k (InFrame f false) l)) (at_home f k r)
given-reach w l r k f owns free own h = record {
  reach = record {
    in_order = is_sorted-set k (InFrame f false) l h.reach.in_order;
    once = h.reach.once;
    sound = sound-put l given r k f false (λ q. entry-set k (InFrame f false) l q) owns
        (λ q other names. free-unnamed l f free q names) (λ q g names alone. alone) h.reach.sound;
    merged = merged-homed given r f (home_of k.1 (r.areas k.0 k.1)) own (merged-fewer (set_entry k (InFrame f false) l) given r
        (λ q g names is. names) (λ g is. is) (merged-set l r k (InFrame f false) (λ g at is. absurd (unlike l f g own at is)) h.reach.merged));
    slots = slots-homed given r f k (λ t q at names. free-uncached l f free t at)
        (slots-lists (set_entry k (InFrame f false) l) given r refl refl (slots-set l r k (InFrame f false) (λ t. refl) h.reach.slots));
  };
  lies = record { laid = h.lies.laid; there = h.lies.there };
}
  where
    given : Ledger
    given = to_inactive_head f (set_entry k (InFrame f false) l)

new-reach : (w : World) (l : Ledger) (r : Rmap) (k : Key) (f : ℕ) → is_some (pages w k.0 k.1) ≡ true → is_free l f ≡ true → is_merged l f ≡ false
    → ReachAt w l r →
    ReachAt w (after_note (New k.0 (address_of k.1) f) l) (rmap_after_note l (New k.0 (address_of k.1) f) r)
new-reach w l r k f mapped free own h =
    subst (λ (q : Key). ReachAt w (to_inactive_head f (set_entry q (InFrame f false) l)) (at_home f q (prepare_page q.0 q.1 r)))
    (sym (key_at-address k))
    (given-reach w l (prepare_page k.0 k.1 r) k f (owns-prepared l k.0 k.1 r (h.lies.laid k.0) h.reach.sound (h.lies.there k mapped)) free own prepared)
  where
    prepared : ReachAt w l (prepare_page k.0 k.1 r)
    prepared = record {
      reach = record {
        in_order = h.reach.in_order;
        once = h.reach.once;
        sound = sound-prepared l k.0 k.1 r (h.lies.laid k.0) h.reach.sound;
        slots = slots-prepared l k.0 k.1 r (h.lies.laid k.0) h.reach.sound h.reach.slots;
        merged = merged-prepared l k.0 k.1 r (h.lies.laid k.0) h.reach.sound h.reach.slots h.reach.merged;
      };
      lies = lies-prepared w k.0 k.1 r h.lies;
    }

-- with the frame that the entry named settled, the same entries name merged frames
module _ (l : Ledger) (k : Key) (f : ℕ) where
  abbrev taken : Ledger
  taken = set_entry k (InFrame f false) l

  abbrev given : Ledger
  given = to_inactive_head f (set_entry k (InFrame f false) l)

  abbrev copied : Ledger
  copied = to_inactive_head f (change_frame k f l)

  pub copied-entries : copied.entries ≡ given.entries
  copied-entries = settled_entry-entries (entry l k) taken

  pub copied-cache : copied.cache ≡ given.cache
  copied-cache = settled_entry-cache (entry l k) taken

  pub copied-merged : AreMergedFewer given copied
  copied-merged = record {
    named = λ q g names. (merged-settled_entry (entry l k) taken).named q g names;
    fewer = λ g is. (merged-settled_entry (entry l k) taken).fewer g is;
  }

copied-reach : (w : World) (l : Ledger) (r : Rmap) (k : Key) (f : ℕ) → IsSomeAnd (r.areas k.0 k.1) (λ area. IsSome area.anon) → is_free l f ≡ true →
    is_merged l f ≡ false → ReachAt w l r
    → ReachAt w (after_note (Copied k.0 (address_of k.1) f) l) (rmap_after_note l (Copied k.0 (address_of k.1) f) r)
copied-reach w l r k f owns free own h =
    subst (λ (q : Key). ReachAt w (to_inactive_head f (change_frame q f l)) (at_home f q r)) (sym (key_at-address k)) (record {
      reach = reach-alike (given l k f) (copied l k f) (at_home f k r) (copied-entries l k f) (copied-cache l k f) (copied-merged l k f)
          (given-reach w l r k f owns free own h).reach;
      lies = record { laid = h.lies.laid; there = h.lies.there };
    })

-- an entry that names no frame, or only the one that it named, and no slot
set-reach : (w : World) (l : Ledger) (r : Rmap) (k : Key) (e : Entry) → ((f : ℕ) → names_frame f e ≡ true → Names l k f) →
    ((t : Slot) → names_slot t e ≡ false) → ReachAt w l r → ReachAt w (set_entry k e l) r
set-reach w l r k e frames none h = record {
  reach = record {
    in_order = is_sorted-set k e l h.reach.in_order;
    once = h.reach.once;
    sound = sound-set l (set_entry k e l) r k e refl frames h.reach.sound;
    slots = slots-set l r k e none h.reach.slots;
    merged = merged-set l r k e (λ f names is. frames f names) h.reach.merged;
  };
  lies = h.lies;
}

zeroed-reach : (w : World) (l : Ledger) (r : Rmap) (k : Key) → ReachAt w l r →
    ReachAt w (after_note (Zeroed k.0 (address_of k.1)) l) (rmap_after_note l (Zeroed k.0 (address_of k.1)) r)
zeroed-reach w l r k h = subst (λ (q : Key). ReachAt w (set_entry q Zero l) r) (sym (key_at-address k))
    (set-reach w l r k Zero (λ f is. absurd (false≢true is)) (λ t. refl) h)

-- ---- a page comes in

fit-comes : (m : Setting) (sp : Sparing) (l : Ledger) (write : Bool) (k : Key) (notes : List Note) → IsSound m l →
    ComesIn m sp l k (need write l (entry l k)) notes → AllFit l notes
fit-comes m sp l write k notes s h = by write (entry l k) refl h
  where
    none : notes ≡ [] → AllFit l notes
    none e = fit-is l notes [] e tt

    mapped : (l' : Ledger) (t : Slot) (f : ℕ) → IsSound m l' → entry l' k ≡ Some (InSlot t) → frame_at l' t ≡ Some f
        → AllFit l' (Mapped k.0 (address_of k.1) f ∷ [])
    mapped l' t f s' at is = (
      (t, subst (λ q. Waits t f (entry l' q)) (sym (key_at-address k)) (subst (Waits t f) (sym at) refl), is, cached-unmerged m l' f t s' is),
      tt,
    )

    slot : (t : Slot) → entry l k ≡ Some (InSlot t) → (o : Option ℕ) → frame_at l t ≡ o → ComesIn m sp l k (need_of_slot t o) notes → AllFit l notes
    slot t at None out q =
        let named = how_many-found (names_slot t) k l.entries (InSlot t) at (slot-itself t) in
        let load = load-kept m sp l t q.0 s out named q.2 in
        let sought = seeks-kept m (sp l None) l q.2.sought s q.2.seeks in
        fit-is l notes (q.0 ++ Mapped k.0 (address_of k.1) q.1 ∷ []) q.4 (fit-append l q.0 (Mapped k.0 (address_of k.1) q.1 ∷ [])
        (fit-is l q.0 (q.2.sought ++ Loaded t q.2.frame ∷ []) q.2.whole (fit-append l q.2.sought (Loaded t q.2.frame ∷ [])
        (fit-seeks m (sp l None) l q.2.sought q.2.seeks)
        ((sought.keeps.absent t (frame_at-none t l.cache out) named, q.2.free, free-unmerged m (after_notes l q.2.sought) q.2.frame sought.sound q.2.free), tt)))
        (mapped (after_notes l q.0) t q.1 load.sound (load.steady k t at) q.3))
    slot t at (Some f) is q = fit-is l notes (Mapped k.0 (address_of k.1) f ∷ []) q (mapped l t f s at is)

    ready : (b : Bool) (g : ℕ) → ComesIn m sp l k (cond b (CopyOnWrite g) Ready) notes → notes ≡ []
    ready true g q = q
    ready false g q = q

    by : (write : Bool) (o : Option Entry) → entry l k ≡ o → ComesIn m sp l k (need write l o) notes → AllFit l notes
    by false None is q = none q
    by true None is q = none q
    by false (Some Zero) is q = none q
    by true (Some Zero) is q = none q
    by false (Some (InFrame g seen)) is q = none q
    by true (Some (InFrame g seen)) is q = none (ready (asks_copy l g) g q)
    by false (Some (InSlot t)) is q = slot t is (frame_at l t) refl q
    by true (Some (InSlot t)) is q = slot t is (frame_at l t) refl q

-- ---- a page is made

-- no other entry names the frame, nor one its slot, and it isn't merged
record Alone (l : Ledger) (f : ℕ) : Type 0 where
  own : is_merged l f ≡ false
  few : map_count l f ≤ 1
  unslotted : (t : Slot) (q : Key) → frame_at l t ≡ Some f → IsOfSlot l t q → ⊥

abbrev AloneAt : Ledger → Key → Type 0
AloneAt l k = (f : ℕ) → Names l k f → Alone l f

-- a frame that a write needn't copy
unshared-alone : (m : Setting) (l : Ledger) (f : ℕ) → IsSound m l → asks_copy l f ≡ false → Alone l f
unshared-alone m l f s h =
    record {
      own = third (nat_lt 1 (map_count l f)) (is_named l (slot_of l f)) (is_merged l f) h;
      few = few (nat_lt 1 (map_count l f)) refl h;
      unslotted = λ t q at names. by t q at names (slot_of l f) refl (second (nat_lt 1 (map_count l f)) (is_named l (slot_of l f)) (is_merged l f) h);
    }
  where
    second : (a b c : Bool) → (a || b || c) ≡ false → b ≡ false
    second true b c h = cc
    second false true c h = cc
    second false false c h = refl

    third : (a b c : Bool) → (a || b || c) ≡ false → c ≡ false
    third true b c h = cc
    third false true c h = cc
    third false false c h = h

    few : (a : Bool) → nat_lt 1 (map_count l f) ≡ a → (a || is_named l (slot_of l f) || is_merged l f) ≡ false → map_count l f ≤ 1
    few true e h = cc
    few false e h = grind (arith, nat_tests, e)

    found : (t : Slot) (q : Key) → IsOfSlot l t q → 0 < slot_entries l t
    found t q names = some (entry l q) refl names
      where
        some : (o : Option Entry) → entry l q ≡ o → IsSomeAnd o (λ e. names_slot t e ≡ true) → 0 < slot_entries l t
        some None e is = absurd is
        some (Some x) e is = how_many-found (names_slot t) q l.entries x e is

    by : (t : Slot) (q : Key) → frame_at l t ≡ Some f → IsOfSlot l t q → (o : Option Slot) → slot_of l f ≡ o → is_named l o ≡ false → ⊥
    by t q at names None is none =
        let a = frame_at-some f t l.cache at in let b = pair-frame t f l.cache in let c = slot_of-none f l.cache is in omega (arith, a, b, c)
    by t q at names (Some u) is none = same (same_slot t u) refl
      where
        same : (b : Bool) → same_slot t u ≡ b → ⊥
        same true e = let n = subst (λ x. 0 < slot_entries l x) (slot-is t u e) (found t q names) in
            let z : slot_entries l u ≡ 0 = grind (arith, nat_tests, none) in omega (arith, n, z)
        same false e = let a = frame_at-some f t l.cache at in let b = slot_of-some f u l.cache is in let c = two_slots t u f l.cache e in
            let d = s.frames_once f in omega (arith, a, b, c, d)

-- one that was free
fresh-alone : (l : Ledger) (k : Key) (f : ℕ) → T (is_sorted key_cmp l.entries) → is_free l f ≡ true → is_merged l f ≡ false →
    AloneAt (to_inactive_head f (set_entry k (InFrame f false) l)) k
fresh-alone l k f sorted free own g names =
    subst (Alone (to_inactive_head f (set_entry k (InFrame f false) l))) (sym (mine (same_key k k) (same_key-itself k)
    (subst (λ o. IsSomeAnd o (λ e. names_frame g e ≡ true)) (entry-set k (InFrame f false) l k) names))) (record {
      own = own;
      few = let c = map_count-set k (InFrame f false) l f sorted in let u = unused l f free in let e = ap {B = ℕ} (λ b. cond b 1 0) (same-itself f) in
          omega (arith, c, u, e);
      unslotted = λ t q at is. free-uncached l f free t at;
    })
  where
    mine : (b : Bool) → b ≡ true → IsSomeAnd (cond b (Some (InFrame f false)) (entry l k)) (λ e. names_frame g e ≡ true) → g ≡ f
    mine true e is = same-is g f is
    mine false e is = absurd (false≢true e)

-- a copy, with the frame settled that was copied
copied-alone : (l : Ledger) (k : Key) (f : ℕ) → AloneAt (to_inactive_head f (set_entry k (InFrame f false) l)) k →
    AloneAt (to_inactive_head f (change_frame k f l)) k
copied-alone l k f h g names =
    let a = h g (subst (λ es. Names (record l { entries = es }) k g) (copied-entries l k f) names) in record {
      own = (copied-merged l k f).named k g names ∙ a.own;
      few = subst (λ es. map_count (record l { entries = es }) g ≤ 1) (sym (copied-entries l k f)) a.few;
      unslotted = λ t q at is. a.unslotted t q (subst (λ cs. frame_at (record l { cache = cs }) t ≡ Some g) (copied-cache l k f) at)
          (subst (λ es. IsOfSlot (record l { entries = es }) t q) (copied-entries l k f) is);
    }

-- a slot that goes leaves it alone
dropped-alone : (l : Ledger) (t : Slot) (k : Key) → AloneAt l k → AloneAt (after_note (Dropped t) l) k
dropped-alone l t k h f names =
    let a = h f (subst (λ es. Names (record l { entries = es }) k f) entries names) in record {
      own = (merged-settled (frame_at l t) (off_cache t l)).named k f names ∙ a.own;
      few = subst (λ es. map_count (record l { entries = es }) f ≤ 1) (sym entries) a.few;
      unslotted = λ u q at is. a.unslotted u q
          (was u f (same_slot u t) (sym (frame_at-off t u l.cache) ∙ sym (ap (λ cs. frame_at (record l { cache = cs }) u) cache) ∙ at))
          (subst (λ es. IsOfSlot (record l { entries = es }) u q) entries is);
    }
  where
    entries : (after_note (Dropped t) l).entries ≡ l.entries
    entries = settle-entries (frame_at l t) (off_cache t l)

    cache : (after_note (Dropped t) l).cache ≡ (off_cache t l).cache
    cache = settle-cache (frame_at l t) (off_cache t l)

    was : (u : Slot) (f : ℕ) (b : Bool) → cond b None (frame_at l u) ≡ Some f → frame_at l u ≡ Some f
    was u f true e = cc
    was u f false e = e

-- after the notes that make a page, where it is written its frame is its own
record Made (w : World) (l : Ledger) (r : Rmap) (write : Bool) (k : Key) (notes : List Note) : Type 0 where
  reach : NotesReach w l r notes
  alone : write ≡ true → AloneAt (after_notes l notes) k

made-none : (w : World) (l : Ledger) (r : Rmap) (write : Bool) (k : Key) (notes : List Note) → notes ≡ [] → ReachAt w l r
    → (write ≡ true → AloneAt l k) →
    Made w l r write k notes
made-none w l r write k notes e h alone = subst (Made w l r write k) (sym e) (record { reach = h; alone = alone })

-- a frame is taken and becomes the page's
made-taken : (m : Setting) (w : World) (sp : Spared) (l : Ledger) (r : Rmap) (write : Bool) (k : Key) (notes : List Note) (note : ℕ → Note)
    → IsSound m l → ReachAt w l r →
    (takes : TakesFor m sp l notes note)
    → ((l' : Ledger) (r' : Rmap) → r'.areas ≡ r.areas → ReachAt w l' r' → is_free l' takes.frame ≡ true → is_merged l' takes.frame ≡ false →
    ReachAt w (after_note (note takes.frame) l') (rmap_after_note l' (note takes.frame) r'))
    → ((l' : Ledger) → AloneAt (to_inactive_head takes.frame (set_entry k (InFrame takes.frame false) l')) k
    → AloneAt (after_note (note takes.frame) l') k)
    → Made w l r write k notes
made-taken m w sp l r write k notes note s h takes gives alone = subst (Made w l r write k) (sym takes.whole) (record {
  reach = notes-append w l r takes.sought (note takes.frame ∷ []) (gives l1 r1 (fit-areas l r takes.sought fit) sought takes.free own);
  alone = λ _. subst (λ x. AloneAt x k) (sym (after_notes-append l takes.sought (note takes.frame ∷ [])))
      (alone l1 (fresh-alone l1 k takes.frame sought.reach.in_order takes.free own));
})
  where
    fit : AllFit l takes.sought
    fit = fit-seeks m sp l takes.sought takes.seeks

    l1 : Ledger
    l1 = after_notes l takes.sought

    r1 : Rmap
    r1 = rmap_after_all l (note_events takes.sought) r

    sought : NotesReach w l r takes.sought
    sought = fit-reach w l r takes.sought fit h

    own : is_merged (after_notes l takes.sought) takes.frame ≡ false
    own = free-unmerged m (after_notes l takes.sought) takes.frame (seeks-kept m sp l takes.sought s takes.seeks).sound takes.free

made-reach : (m : Setting) (w : World) (sp : Sparing) (l : Ledger) (r : Rmap) (write : Bool) (k : Key) (notes : List Note)
    → is_some (pages w k.0 k.1) ≡ true →
    IsSound m l → ReachAt w l r → IsMade m sp l k (need write l (entry l k)) notes → Made w l r write k notes
made-reach m w sp l r write k notes mapped s h made = by write (entry l k) refl made
  where
    fresh : (write : Bool) → Takes m sp l None notes (New k.0 (address_of k.1)) → Made w l r write k notes
    fresh write takes = made-taken m w (sp l None) l r write k notes (New k.0 (address_of k.1)) s h takes
        (λ l' r' same h' free own. new-reach w l' r' k takes.frame mapped free own h')
        (λ l'. subst (λ q. AloneAt (to_inactive_head takes.frame (set_entry q (InFrame takes.frame false) l')) k) (sym (key_at-address k)))

    named : (g : ℕ) (seen : Bool) → entry l k ≡ Some (InFrame g seen) → Names l k g
    named g seen at = subst (λ o. IsSomeAnd o (λ e. names_frame g e ≡ true)) (sym at) (same-itself g)

    copy : (write : Bool) (g : ℕ) (seen : Bool) → entry l k ≡ Some (InFrame g seen) → Takes m sp l (Some g) notes (Copied k.0 (address_of k.1)) →
        Made w l r write k notes
    copy write g seen at takes = made-taken m w (sp l (Some g)) l r write k notes (Copied k.0 (address_of k.1)) s h takes
        (λ l' r' same h' free own. copied-reach w l' r' k takes.frame
        (subst (λ on. IsSomeAnd (on k.0 k.1) (λ area. IsSome area.anon)) (sym same) (covered-owns l r k g h.reach.sound h.reach.merged (named g seen at))) free own h')
        (λ l' a. subst (λ q. AloneAt (to_inactive_head takes.frame (change_frame q takes.frame l')) k) (sym (key_at-address k)) (copied-alone l' k takes.frame a))

    own : (g : ℕ) (seen : Bool) → entry l k ≡ Some (InFrame g seen) → asks_copy l g ≡ false → AloneAt l k
    own g seen at apart f names = subst (Alone l) (sym (same-is f g (subst (λ o. IsSomeAnd o (λ e. names_frame f e ≡ true)) at names)))
        (unshared-alone m l g s apart)

    maybe : (g : ℕ) (seen : Bool) → entry l k ≡ Some (InFrame g seen) → (b : Bool) → asks_copy l g ≡ b
        → IsMade m sp l k (cond b (CopyOnWrite g) Ready) notes →
        Made w l r true k notes
    maybe g seen at true is q = copy true g seen at q
    maybe g seen at false is q = made-none w l r true k notes q h (λ _. own g seen at is)

    never : (t : Slot) (o : Option ℕ) → IsMade m sp l k (need_of_slot t o) notes → ⊥
    never t None q = q
    never t (Some f) q = q

    by : (write : Bool) (o : Option Entry) → entry l k ≡ o → IsMade m sp l k (need write l o) notes → Made w l r write k notes
    by false None is q = subst (Made w l r false k) (sym q) (record { reach = zeroed-reach w l r k h; alone = λ e. absurd (false≢true e) })
    by true None is q = fresh true q
    by false (Some Zero) is q = made-none w l r false k notes q h (λ e. absurd (false≢true e))
    by true (Some Zero) is q = fresh true q
    by false (Some (InFrame g seen)) is q = made-none w l r false k notes q h (λ e. absurd (false≢true e))
    by true (Some (InFrame g seen)) is q = maybe g seen is (asks_copy l g) refl q
    by false (Some (InSlot t)) is q = absurd (never t (frame_at l t) q)
    by true (Some (InSlot t)) is q = absurd (never t (frame_at l t) q)

-- the slot that is needed no more
drop-made : (m : Setting) (w : World) (l : Ledger) (r : Rmap) (write came : Bool) (k : Key) → ReachAt w l r → (write ≡ true → AloneAt l k) →
    Made w l r write k (drop_at m write came l k)
drop-made m w l r write came k h alone = by (entry l k)
  where
    one : (t : Slot) (b : Bool) → Made w l r write k (when b (Dropped t))
    one t true = record { reach = fit-reach w l r (Dropped t ∷ []) (tt, tt) h; alone = λ e. dropped-alone l t k (alone e) }
    one t false = record { reach = h; alone = alone }

    slot : (o : Option Slot) → Made w l r write k (drop_of_slot m write came l o)
    slot None = record { reach = h; alone = alone }
    slot (Some t) = one t (is_unneeded m write came l t)

    by : (o : Option Entry) → Made w l r write k (drop_of_entry m write came l o)
    by None = record { reach = h; alone = alone }
    by (Some Zero) = record { reach = h; alone = alone }
    by (Some (InFrame f seen)) = slot (slot_of l f)
    by (Some (InSlot t)) = record { reach = h; alone = alone }

-- ---- a page is used

use-reach : (w : World) (l : Ledger) (r : Rmap) (write : Bool) (k : Key) → (write ≡ true → AloneAt l k) → ReachAt w l r →
    ReachAt w (after_use write k l) (rmap_after_use write k (entry l k) r)
use-reach w l r write k alone h = by write (entry l k) refl alone
  where
    named : (g : ℕ) (seen : Bool) → entry l k ≡ Some (InFrame g seen) → Names l k g
    named g seen at = subst (λ o. IsSomeAnd o (λ e. names_frame g e ≡ true)) (sym at) (same-itself g)

    written : (f : ℕ) (seen : Bool) → entry l k ≡ Some (InFrame f seen) → Alone l f → ReachAt w (set_entry k (InFrame f true) l) (at_home f k r)
    written f seen at a = record {
      reach = record {
        in_order = is_sorted-set k (InFrame f true) l h.reach.in_order;
        once = h.reach.once;
        sound = sound-put l (set_entry k (InFrame f true) l) r k f true (λ q. entry-set k (InFrame f true) l q)
            (covered-owns l r k f h.reach.sound h.reach.merged (named f seen at)) (alone-by l k f h.reach.in_order a.few (named f seen at))
            (λ q g names alone. alone) h.reach.sound;
        merged = merged-homed (set_entry k (InFrame f true) l) r f (home_of k.1 (r.areas k.0 k.1)) a.own
            (merged-set l r k (InFrame f true) (λ g same is. absurd (unlike l f g a.own same is)) h.reach.merged);
        slots = slots-homed (set_entry k (InFrame f true) l) r f k
            (λ t q is names. a.unslotted t q is (set-fewer l k (InFrame f true) (λ u. refl) t q names))
            (slots-set l r k (InFrame f true) (λ t. refl) h.reach.slots);
      };
      lies = record { laid = h.lies.laid; there = h.lies.there };
    }

    stale : (o : Option Slot) (l' : Ledger) (r' : Rmap) → ReachAt w l' r' → ReachAt w (if_some o (with_stale true) l') r'
    stale None l' r' h' = h'
    stale (Some t) l' r' h' = record { reach = reach-stale l' r' true t h'.reach; lies = h'.lies }

    by : (write : Bool) (o : Option Entry) → entry l k ≡ o → (write ≡ true → AloneAt l k)
        → ReachAt w (after_use_of write k l o) (rmap_after_use write k o r)
    by false None is a = h
    by true None is a = h
    by false (Some Zero) is a = h
    by true (Some Zero) is a = h
    by false (Some (InSlot t)) is a = h
    by true (Some (InSlot t)) is a = h
    by false (Some (InFrame f seen)) is a = set-reach w l r k (InFrame f true)
        (λ g e. subst (λ o. IsSomeAnd o (λ x. names_frame g x ≡ true)) (sym is) e) (λ t. refl) h
    by true (Some (InFrame f seen)) is a =
        stale (slot_of l f) (set_entry k (InFrame f true) l) (at_home f k r) (written f seen is (a refl f (named f seen is)))

-- ---- a page

allowed-mapped : (w : World) (write : Bool) (k : Key) → permits write (pages w k.0 k.1) ≡ true → is_some (pages w k.0 k.1) ≡ true
allowed-mapped w write k h = by (pages w k.0 k.1) h
  where
    by : (o : Option Page) → permits write o ≡ true → is_some o ≡ true
    by None e = absurd (false≢true e)
    by (Some page) e = refl

serves-made : (m : Setting) (w : World) (sp : Sparing) (l : Ledger) (r : Rmap) (write : Bool) (k : Key) (notes : List Note) →
    is_some (pages w k.0 k.1) ≡ true → IsSound m l → ReachAt w l r → Serves m sp l write k notes → Made w l r write k notes
serves-made m w sp l r write k notes mapped s h v = subst (Made w l r write k) (sym v.whole) (record {
  reach = notes-append w l r (v.coming ++ v.making) last dropped.reach;
  alone = λ e. subst (λ x. AloneAt x k) (sym (after_notes-append l (v.coming ++ v.making) last)) (dropped.alone e);
})
  where
    l1 : Ledger
    l1 = after_notes l v.coming

    r1 : Rmap
    r1 = rmap_after_all l (note_events v.coming) r

    came : NotesReach w l r v.coming
    came = fit-reach w l r v.coming (fit-comes m sp l write k v.coming s v.comes_in) h

    made : Made w (after_notes l v.coming) (rmap_after_all l (note_events v.coming) r) write k v.making
    made = made-reach m w sp (after_notes l v.coming) (rmap_after_all l (note_events v.coming) r) write k v.making mapped
        (comes-kept m sp l write k v.coming s v.comes_in) came v.made

    both : NotesReach w l r (v.coming ++ v.making)
    both = notes-append w l r v.coming v.making made.reach

    last : List Note
    last = drop_at m write (was_slot (need write l (entry l k))) (after_notes l (v.coming ++ v.making)) k

    dropped : Made w (after_notes l (v.coming ++ v.making)) (rmap_after_all l (note_events (v.coming ++ v.making)) r) write k
        (drop_at m write (was_slot (need write l (entry l k))) (after_notes l (v.coming ++ v.making)) k)
    dropped = drop-made m w (after_notes l (v.coming ++ v.making)) (rmap_after_all l (note_events (v.coming ++ v.making)) r) write
        (was_slot (need write l (entry l k))) k both (λ e. subst (λ x. AloneAt x k) (sym (after_notes-append l v.coming v.making)) (made.alone e))

fit-runs_out : (m : Setting) (sp : Sparing) (l : Ledger) (write : Bool) (k : Key) (notes : List Note) (out : OutOf) → IsSound m l →
    RunsOut m sp l write k notes out → AllFit l notes
fit-runs_out m sp l write k notes out s h =
    let l1 = after_notes l h.coming in
    fit-is l notes (h.coming ++ h.sought) h.whole (fit-append l h.coming h.sought (before h.before)
    (fit-seeks m (sp l1 (pinned_by (need write l1 (entry l1 k)))) l1 h.sought h.finds.seeks))
  where
    before : (h.coming ≡ []) ⊎ ComesIn m sp l k (need write l (entry l k)) h.coming → AllFit l h.coming
    before (inl e) = fit-is l h.coming [] e tt
    before (inr q) = fit-comes m sp l write k h.coming s q

-- what holds after the events of a page
abbrev pub ReachesAt : World → Ledger → Rmap → List Event → Type 0
ReachesAt w l r events = ReachAt w (after_all l events) (rmap_after_all l events r)

noted-at : (w : World) (l : Ledger) (r : Rmap) (notes : List Note) → NotesReach w l r notes → ReachesAt w l r (note_events notes)
noted-at w l r notes h = subst (λ x. ReachAt w x (rmap_after_all l (note_events notes) r)) (sym (note_events-all l notes)) h

reaches-append : (w : World) (l : Ledger) (r : Rmap) (a b : List Event) → ReachesAt w (after_all l a) (rmap_after_all l a r) b
    → ReachesAt w l r (a ++ b)
reaches-append w l r a b h = subst (λ x. ReachAt w x (rmap_after_all l (a ++ b) r)) (sym (after_all-append l a b))
    (subst (ReachAt w (after_all (after_all l a) b)) (sym (rmap_after_all-append l a b r)) h)

pub page-reach : (m : Setting) (w : World) (l : Ledger) (r : Rmap) (write : Bool) (k : Key) (notes : List Note) (end : Option Stop) → IsSound m l →
    ReachAt w l r → Touches m w l write k notes end → ReachesAt w l r (page_events write k notes end)
page-reach m w l r write k notes None s h t =
    let v = serves-made m w (sparing w) l r write k notes (allowed-mapped w write k t.0) s h t.1 in
    reaches-append w l r (note_events notes) (Used write k ∷ [])
    (use-reach w (after_all l (note_events notes)) (rmap_after_all l (note_events notes) r) write k
    (λ e. subst (λ x. AloneAt x k) (sym (note_events-all l notes)) (v.alone e)) (noted-at w l r notes v.reach))
page-reach m w l r write k notes (Some Denied) s h t = noted-at w l r notes (fit-reach w l r notes (fit-is l notes [] t.1 tt) h)
page-reach m w l r write k notes (Some (Starved out)) s h t =
    noted-at w l r notes (fit-reach w l r notes (fit-runs_out m (sparing w) l write k notes out s t.1) h)
page-reach m w l r write k notes (Some Lost) s h t =
    noted-at w l r notes (fit-reach w l r notes (fit-seeks m (sparing w l None) l notes t.1.seeks) h)

pub accesses-reach : (m : Setting) (w : World) (l : Ledger) (r : Rmap) (p : ℕ) (pages : List (Bool × ℕ)) (events : List Event) (end : End)
    → IsSound m l →
    ReachAt w l r → Accesses m w l p pages events end → ReachesAt w l r events
accesses-reach m w l r p [] events end s h t = subst (ReachesAt w l r) (sym t.0) h
accesses-reach m w l r p (page ∷ rest) events end s h (inl t) =
    let here = page_events page.0 (p, page.1) t.0 None in
    subst (ReachesAt w l r) (sym t.3) (reaches-append w l r here t.1
    (accesses-reach m w (after_all l here) (rmap_after_all l here r) p rest t.1 end
    (page_events-kept m l page.0 (p, page.1) t.0 None (touches-kept m w l page.0 (p, page.1) t.0 None s t.2))
    (page-reach m w l r page.0 (p, page.1) t.0 None s h t.2) t.4))
accesses-reach m w l r p (page ∷ rest) events end s h (inr t) =
    subst (ReachesAt w l r) (sym t.3) (page-reach m w l r page.0 (p, page.1) t.0 (Some t.1) s h t.2)
