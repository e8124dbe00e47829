-- A frame that a page has is read, or written in place; and its slot is dropped.
use Rattle.std.proofs.Common.{◌≡◌, ℕ, ◌<◌, ◌==◌, Bool, true, false, cond, ◌&&◌, [], ◌∷◌, Option, Some, None, is_some, IfSome, refl, sym, ap, subst, ◌∙◌, arith}
use Rattle.av_base.specs.Keys.{Key}
use Rattle.av_base.proofs.Keys.{same_key-is}
use Rattle.av_base.specs.Words.{with_at}
use Rattle.av_base.specs.declared.slot.Slot.{Slot}
use Rattle.av_frames.specs.Store.{Shown as ShownFrames, shown as shown_frames, with_dirty, with_home}
use Rattle.av_frames.specs.declared.frames.Frames.{Frames}
use Rattle.av_pagetable.specs.declared.pte.Pte.{Pte}
use Rattle.av_pagetable.specs.declared.pte.Pte.TheVariants.{Here}
use Rattle.av_pagetable.specs.Entries.{ProcessTables, entry_at, has, with_entry}
use Rattle.av_rmap.specs.Items.{shown as shown_items}
use Rattle.av_spaces.specs.Spaces.{pages_of}
use Rattle.av_swapcache.specs.Swap.{shown as shown_swap}
use Rattle.av_vma.specs.Pages.{home_of}
use Rattle.av_plain.specs.Areas.{Rmap, at_home, rmap_after_use}
use Rattle.av_plain.specs.Device.{Device}
use Rattle.av_plain.specs.Event.{Used, after_use, after_use_of, if_some, set_entry, with_stale}
use Rattle.av_plain.specs.Fault.{asks_copy}
use Rattle.av_plain.specs.Ledger.{InFrame, Ledger, Setting, entry, frame_at, is_stale, map_count, names_frame, slot_of}
use Rattle.av_plain.specs.Stands.{IsKept, View, entry_of}
use Rattle.av_plain.specs.World.{World, pages}
use Rattle.av_plain.proofs.Load.{without-loads}
use Rattle.av_plain.proofs.Ledger.{how_many-found}
use Rattle.av_plain.proofs.Ledger.NoSwap.{key_is}
use Rattle.av_plain.proofs.Sound.Changes.{after_use-kept}
use Rattle.av_plain.proofs.Sound.Counts.{same-is, same-itself}
use Rattle.av_plain.specs.Sound.{no_excuse}
use Rattle.av_swap_laws.specs.Held.{Held, Steps}
use Rattle.av_swap_laws.specs.Steps.{view_seen, view_written}
use Rattle.av_swap_laws.proofs.Cache.{once-of, slot_of-stale}
use Rattle.av_swap_laws.proofs.Locks.{locks-used}
use Rattle.av_swap_laws.proofs.Parts.{clean-same, kept-moves}
use Rattle.av_swap_laws.proofs.WholePages.{read-steps, write-steps}
use Rattle.av_mem.specs.declared.mem.Mem.{Mem}
use Rattle.av_mem.specs.Mem.{frame_count, held_by, plain, setting_by, view, view_of_parts}
use Rattle.av_mem.proofs.LetGoLaws.{rest-none, rest-tables}
use Rattle.av_mem.proofs.MemLaws.{entry_put_in}
use Rattle.av_mem.specs.Steps.{KeepsParts}
use Rattle.av_mem.specs.Between.{HasDone, KeepsBetween}
use Rattle.av_fault.specs.Using.{IsHere}
use Rattle.av_mem.proofs.Amid.{Amid}
use Rattle.av_mem.proofs.Between.{fit-stays, to-amid, to-fit}
use Rattle.av_mem.proofs.LocksCome.{locks-left}
use Rattle.av_fault.proofs.Run.{run-done, run-none, run-then}
use Rattle.av_plain.proofs.Wrote.{device-itself, wrote-none}

-- ---- an entry that is a frame

module _ (d : Device) (k : Mem) (w : World) (r : Rmap) (l : Ledger) (h : KeepsBetween d k w r l) (q : Key) (f : ℕ) (write seen : Bool)
    (there : entry_at k.tables q.0 q.1 ≡ Here f write seen) where
  pub entry-here : entry l q ≡ Some (InFrame f seen)
  entry-here = sym (h.serves.held.ledger.tables.entries q.0 q.1) ∙ ap (λ e. entry_of (plain e)) there

  -- the write bit says that a write need not copy
  pub own-here : write ≡ true → asks_copy l f ≡ false
  own-here own = h.serves.held.ledger.tables.write_bits q.0 q.1 (record { entry = InFrame f seen; write = write }) f (ap plain there) own
      (same-itself f)

  named : 0 < map_count l f
  named = how_many-found (names_frame f) q l.entries (InFrame f seen) entry-here (same-itself f)

  -- the frame is one of the machine's, and not free
  pub here-below : f < frame_count k
  here-below = let some = named in h.sound.in_range f (omega (arith, some))

  pub here-maps : 0 < (view k).maps f
  here-maps = subst (λ n. 0 < n) (sym (h.serves.held.ledger.frames.maps f)) named

-- the entry that is there, put in again
pub seen-again : (p page f : ℕ) (write : Bool) (v : View) → v.table p page ≡ Some (record { entry = InFrame f true; write = write }) →
    v ≡ view_seen p page f write v
seen-again p page f write v is = λ i. record v { table = λ q o. point q o (q == p && o == page) refl i }
  where
    point : (q o : ℕ) (b : Bool) → (q == p && o == page) ≡ b
        → v.table q o ≡ cond b (Some (record { entry = InFrame f true; write = write })) (v.table q o)
    point q o true e = let same : ◌≡◌ {A = Key} (q, o) (p, page) = same_key-is (q, o) (p, page) (key_is q o p page ∙ e) in
        ap (λ (k : Key). v.table k.0 k.1) same ∙ is
    point q o false e = refl

-- the entry that was set
pub set-here : (p page : ℕ) (e : Pte) (old now : ℕ → ℕ → Pte) → now ≡ with_entry p page e old → now p page ≡ e
set-here p page e old now is = ap (λ f. f p page) is ∙ ap (λ b. cond b e (old p page)) both
  where
    both : (p == p && page == page) ≡ true
    both = λ i. same-itself p i && same-itself page i

-- ---- a read

module _ (d : Device) (old new : Mem) (w : World) (r : Rmap) (l : Ledger) (h : KeepsBetween d old w r l) where
  abbrev m : Setting
  m = setting_by d old

  abbrev here : Held
  here = held_by d old w r l

  pub read-done : (q : Key) (f : ℕ) (write seen : Bool) → entry_at old.tables q.0 q.1 ≡ Here f write seen
      → view new ≡ view_seen q.0 q.1 f write (view old) →
      KeepsParts old new → HasDone d d old new w r l (Used false q ∷ [])
  read-done q f write seen there now parts =
      let a = to-amid d old w r l h in
      run-done d d old new w w r r l (after_use false q l) (Used false q ∷ []) here (view_seen q.0 q.1 f write (view old))
      (run-then m here here (record here { view = view_seen q.0 q.1 f write (view old); ledger = after_use false q l }) [] (Used false q)
      (run-none m here a) tt
      (read-steps m None here a.held q.0 q.1 f seen write h.sound.in_order (entry-here d old w r l h q f write seen there)
      (own-here d old w r l h q f write seen there))
      (record { world = sym (without-loads m w l (Used false q ∷ []) refl); view_areas = refl; view_anons = refl; areas = refl; anons = refl })
      (after_use-kept m no_excuse l false q h.sound))
      now refl refl (sym (without-loads m w l (Used false q ∷ []) refl)) refl (device-itself d) (wrote-none d.history) parts.count
      (fit-stays d d old new (device-itself d) parts (to-fit d old w r l h))
      (locks-left parts w (after_use false q l) (λ g. h.serves.locks g ∙ sym (locks-used w false q l g h.sound.in_order)))

-- ---- a write in place

slot_of-used : (l : Ledger) (q : Key) (f : ℕ) (seen : Bool) → entry l q ≡ Some (InFrame f seen) → (g : ℕ)
    → slot_of (after_use true q l) g ≡ slot_of l g
slot_of-used l q f seen at g = ap (λ o. slot_of (after_use_of true q l o) g) at ∙ by (slot_of l f)
  where
    by : (o : Option Slot) → slot_of (if_some o (with_stale true) (set_entry q (InFrame f true) l)) g ≡ slot_of l g
    by None = refl
    by (Some s) = slot_of-stale true s (set_entry q (InFrame f true) l) g

-- the view after a write in place, before its bytes are stored: whether a frame is dirty is said only where it is cached
abbrev pub view_own : ℕ → ℕ → ℕ → Option (ℕ × ℕ) → (ℕ → Bool) → View → View
view_own p page f home dirty v = record (view_seen p page f true v) { homes = with_at f home v.homes; dirty = dirty }

module _ (m : Setting) (h : Held) (a : Amid m h) (q : Key) (f : ℕ) (seen : Bool) (at : entry h.ledger q ≡ Some (InFrame f seen))
    (alone : asks_copy h.ledger f ≡ false)
    (dirty : ℕ → Bool) (others : (g : ℕ) → (g == f) ≡ false → dirty g ≡ h.view.dirty g)
    (own : IfSome (slot_of h.ledger f) (λ s. dirty f ≡ true)) where
  abbrev l' : Ledger
  l' = after_use true q h.ledger

  abbrev home : Option (ℕ × ℕ)
  home = home_of q.1 (h.rmap.areas q.0 q.1)

  -- as the law has it, with the bytes that the frame has
  abbrev by_law : Held
  by_law = record h {
    view = view_written q.0 q.1 f true (h.view.bytes f) home h.view;
    ledger = l';
    rmap = at_home f q h.rmap;
  }

  abbrev by_code : Held
  by_code = record h { view = view_own q.0 q.1 f home dirty h.view; ledger = l'; rmap = at_home f q h.rmap }

  steps : Steps m None (Used true q) h by_law
  steps = write-steps m None h a.held q.0 q.1 f seen true (h.view.bytes f) h.world a.sound.in_order (once-of m no_excuse h.ledger a.sound) at alone
      (subst (λ o. IsKept h.view h.device h.ledger o (pages h.world q.0 q.1)) at (a.held.bytes.kept q.0 q.1)) (λ p o e. refl) (λ x. x)

  same_bytes : h.view.bytes ≡ with_at f (h.view.bytes f) h.view.bytes
  same_bytes = λ i g. by g (g == f) refl i
    where
      by : (g : ℕ) (b : Bool) → (g == f) ≡ b → h.view.bytes g ≡ cond b (h.view.bytes f) (h.view.bytes g)
      by g true e = ap h.view.bytes (same-is g f e)
      by g false e = refl

  dirty_now : (g : ℕ) → IfSome (slot_of l' g) (λ s. dirty g ≡ is_stale l' s)
  dirty_now g = by (g == f) refl (slot_of l' g) refl (steps.held.ledger.frames.dirty g)
    where
      at_own : (o : Option Slot) → slot_of h.ledger f ≡ o → IfSome o (λ s. true ≡ is_stale l' s) → IfSome o (λ s. dirty f ≡ is_stale l' s)
      at_own None e i = tt
      at_own (Some s) e i = subst (λ o. IfSome o (λ s. dirty f ≡ true)) e own ∙ i

      other : (o : Option Slot) → (g == f) ≡ false → IfSome o (λ s. h.view.dirty g ≡ is_stale l' s) → IfSome o (λ s. dirty g ≡ is_stale l' s)
      other None e i = tt
      other (Some s) e i = others g e ∙ i

      by : (b : Bool) → (g == f) ≡ b → (o : Option Slot) → slot_of l' g ≡ o
          → IfSome (slot_of l' g) (λ s. cond b true (h.view.dirty g) ≡ is_stale l' s)
          → IfSome (slot_of l' g) (λ s. dirty g ≡ is_stale l' s)
      by true e o is i = subst (λ x. IfSome (slot_of l' x) (λ s. dirty x ≡ is_stale l' s)) (sym (same-is g f e))
          (at_own (slot_of l' f) (sym (slot_of-used h.ledger q f seen at f))
          (subst (λ x. IfSome (slot_of l' x) (λ s. true ≡ is_stale l' s)) (same-is g f e) i))
      by false e o is i = other (slot_of l' g) e i

  pub own-steps : Steps m None (Used true q) h by_code
  own-steps = record {
    ledger = refl;
    held = record {
      ledger = record {
        frames = let x = steps.held.ledger.frames in record { frames = x.frames; maps = x.maps; slots = x.slots; dirty = dirty_now; free = x.free };
        lists = let x = steps.held.ledger.lists in record { active = x.active; inactive = x.inactive };
        tables = let x = steps.held.ledger.tables in record { entries = x.entries; write_bits = x.write_bits };
        swap = let x = steps.held.ledger.swap in record { finds = x.finds; counts = x.counts; flight = x.flight; on = x.on };
      };
      bytes = record {
        kept = λ p page. kept-moves by_law.view by_code.view h.device h.device l' l' (entry l' (p, page)) (pages h.world p page)
            same_bytes (λ t is. refl)
            (λ t is none told. told) (steps.held.bytes.kept p page);
        clean = λ t stale flying. clean-same by_law.view by_code.view h.device t (frame_at l' t) (frame_at l' t) same_bytes refl
            (steps.held.bytes.clean t stale flying);
      };
      headers = steps.held.headers;
      covered = steps.held.covered;
      homes = steps.held.homes;
      items = steps.held.items;
    };
    areas = λ x. let y = steps.areas x in record { alive = y.alive; number = y.number; apart = y.apart; covers = y.covers; flags = y.flags };
    chosen = steps.chosen;
  }

module _ (d : Device) (old new : Mem) (w : World) (r : Rmap) (l : Ledger) (h : KeepsBetween d old w r l) (q : Key) (f : ℕ) (seen : Bool)
    (at : entry l q ≡ Some (InFrame f seen)) (alone : asks_copy l f ≡ false) (home : Option (ℕ × ℕ)) (is : home ≡ home_of q.1 (r.areas q.0 q.1))
    (cached : Bool) (still : cached ≡ is_some (slot_of l f)) where
  abbrev dirty : ℕ → Bool
  dirty = cond cached (with_at f true (view old).dirty) (view old).dirty

  dirty_other : (g : ℕ) → (g == f) ≡ false → dirty g ≡ (view old).dirty g
  dirty_other g e = by cached
    where
      by : (b : Bool) → cond b (with_at f true (view old).dirty) (view old).dirty g ≡ (view old).dirty g
      by true = ap (λ c. cond c true ((view old).dirty g)) e
      by false = refl

  dirty_own : (o : Option Slot) → slot_of l f ≡ o → IfSome o (λ s. dirty f ≡ true)
  dirty_own None e = tt
  dirty_own (Some s) e = ap (λ b. cond b (with_at f true (view old).dirty) (view old).dirty f) (still ∙ ap is_some e)
      ∙ ap (λ c. cond c true ((view old).dirty f)) (same-itself f)

  pub own-done : view new ≡ view_own q.0 q.1 f home dirty (view old) → KeepsParts old new → HasDone d d old new w r l (Used true q ∷ [])
  own-done now parts =
      let m = setting_by d old in
      let here = held_by d old w r l in
      let a = to-amid d old w r l h in
      let v = view_own q.0 q.1 f (home_of q.1 (r.areas q.0 q.1)) dirty (view old) in
      run-done d d old new w w r (at_home f q r) l (after_use true q l) (Used true q ∷ []) here v
      (run-then m here here (record here { view = v; ledger = after_use true q l; rmap = at_home f q r }) [] (Used true q)
      (run-none m here a) tt
      (own-steps m here a q f seen at alone dirty dirty_other (dirty_own (slot_of l f) refl))
      (record { world = sym (without-loads m w l (Used true q ∷ []) refl); view_areas = refl; view_anons = refl; areas = refl; anons = refl })
      (after_use-kept m no_excuse l true q h.sound))
      (now ∙ ap (λ x. view_own q.0 q.1 f x dirty (view old)) is) refl refl (sym (without-loads m w l (Used true q ∷ []) refl))
      (ap (λ o. rmap_after_use true q o r) (sym at)) (device-itself d) (wrote-none d.history) parts.count (fit-stays d d old new (device-itself d) parts (to-fit d old w r l h))
      (locks-left parts w (after_use true q l) (λ g. h.serves.locks g ∙ sym (locks-used w true q l g h.sound.in_order)))

-- ---- an entry is marked as written, if it wasn't

pub record Marked (old mid : Mem) (p page f : ℕ) : Type 0 where
  pub seen : view mid ≡ view_seen p page f true (view old)
  pub parts : KeepsParts old mid
  pub there : entry_at mid.tables p page ≡ Here f true true

pub marked-set : (old : Mem) (tables : ProcessTables) (p page f : ℕ) (e : Pte) → e ≡ Here f true true
    → entry_at tables ≡ with_entry p page e (entry_at old.tables) → has tables ≡ has old.tables → Marked old (record old { tables = tables }) p page f
marked-set old tables p page f e is set processes =
    let new = record old { tables = tables } in
    record {
      seen = entry_put_in old new p page (Here f true true) (set ∙ ap (λ x. with_entry p page x (entry_at old.tables)) is) refl refl refl refl refl refl;
      parts = (rest-tables old tables processes).parts;
      there = set-here p page e (entry_at old.tables) (entry_at tables) set ∙ is;
    }

pub marked-kept : (old : Mem) (p page f : ℕ) (write seen : Bool) → entry_at old.tables p page ≡ Here f write seen → write ≡ true → seen ≡ true
    → Marked old old p page f
marked-kept old p page f write seen there written marked =
    let here : entry_at old.tables p page ≡ Here f true true = there ∙ (λ i. Here f (written i) (marked i)) in
    record {
      seen = seen-again p page f true (view old) (ap plain here);
      parts = (rest-none old).parts;
      there = here;
    }

-- the home and the mark of a frame that is written
abbrev pub marked_by : Bool → ℕ → Option (ℕ × ℕ) → ShownFrames → ShownFrames
marked_by true f home s = with_dirty f true (with_home f home s)
marked_by false f home s = with_home f home s

module _ (old mid : Mem) (q : Key) (f : ℕ) (home : Option (ℕ × ℕ)) (cached : Bool) (frames : Frames) (marked : Marked old mid q.0 q.1 f)
    (is : shown_frames frames ≡ marked_by cached f home (shown_frames mid.frames)) where
  abbrev dirtied : (ℕ → Bool) → ℕ → Bool
  dirtied dirty = cond cached (with_at f true dirty) dirty

  frames_as : shown_frames frames ≡ record (shown_frames mid.frames) {
    home = with_at f home (shown_frames mid.frames).home;
    dirty = dirtied (shown_frames mid.frames).dirty;
  }
  frames_as = is ∙ by cached
    where
      by : (b : Bool) → marked_by b f home (shown_frames mid.frames) ≡ record (shown_frames mid.frames) {
        home = with_at f home (shown_frames mid.frames).home;
        dirty = cond b (with_at f true (shown_frames mid.frames).dirty) (shown_frames mid.frames).dirty;
      }
      by true = refl
      by false = refl

  abbrev new : Mem
  new = record mid { frames = frames }

  seen_now : view new ≡ view_own q.0 q.1 f home (dirtied (view old).dirty) (view old)
  seen_now = (λ i. view_of_parts (frames_as i) mid.lists (shown_items mid.items) (λ p page. plain (entry_at mid.tables p page)) mid.spaces mid.anons
      (shown_swap mid.swap))
      ∙ ap (λ (v : View). record v { homes = with_at f home v.homes; dirty = dirtied v.dirty }) marked.seen

  pub written-parts : KeepsParts old new
  written-parts = let p = marked.parts in record {
    stay = ap (λ (m : Mem). record m { frames = frames }) p.stay;
    processes = p.processes;
    count = ap (λ (x : ShownFrames). x.count) frames_as ∙ p.count;
    lists = p.lists;
    items = p.items;
    swap = record { frames = p.swap.frames; on = p.swap.on; bad = p.swap.bad; closing = p.swap.closing; priority = p.swap.priority };
    locks = ap (λ (x : ShownFrames). x.locks) frames_as ∙ p.locks;
  }

  -- what is done then
  pub written-done : (d : Device) (w : World) (r : Rmap) (l : Ledger) (settled : Bool) → IsHere old q f settled
      → home ≡ home_of q.1 (pages_of old.spaces.processes q.0 q.1) → KeepsBetween d old w r l → asks_copy l f ≡ false → cached ≡ is_some (slot_of l f)
      → HasDone d d old new w r l (Used true q ∷ [])
  written-done d w r l settled here at h alone still =
      own-done d old new w r l h q f here.seen (entry-here d old w r l h q f here.write here.seen here.there) alone home
      (at ∙ ap (home_of q.1) (h.serves.are q.0 q.1)) cached still seen_now written-parts
