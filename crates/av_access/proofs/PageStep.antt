-- A page that has been touched, and then read or written, or not served: what the kernel stands for after it.
use Rattle.std.proofs.Common.{◌≡◌, ℕ, ◌+◌, ◌*◌, ◌<◌, ◌≤◌, max, Bool, true, false, List, [], ◌∷◌, ◌++◌, length, Option, Some, None, option_map, refl, sym, ap, subst, ◌∙◌, arith}
use Rattle.av_base.specs.Words.{with_at}
use Rattle.av_frames.specs.Store.{Store, Shown, shown, overlaid}
use Rattle.av_io.specs.Count.{RoseBy}
use Rattle.av_trace.specs.declared.note.Note.{Note}
use Rattle.av_plain.specs.Device.{Device, IsSameDevice, setting_of}
use Rattle.av_plain.specs.World.{World, lives}
use Rattle.av_plain.specs.Ledger.{Ledger, InFrame, map_count, names_frame}
use Rattle.av_plain.specs.Event.{after_all, after_notes, after_use, note_events, Used}
use Rattle.av_plain.specs.Access.{after_write, page_events}
use Rattle.av_plain.specs.Fault.{Touches}
use Rattle.av_plain.specs.Load.{with_loads}
use Rattle.av_plain.specs.Pass.{fails}
use Rattle.av_plain.specs.Sound.{AreThere, AreasFit, IsSound}
use Rattle.av_plain.specs.Areas.{Rmap, rmap_after_all}
use Rattle.av_plain.specs.Choice.{ChoosesAll, ListsAll}
use Rattle.av_plain.specs.Stands.{AnonsStand, AreasAre, AreasStand, View, free_of}
use Rattle.av_plain.specs.Transcript.{State, rmap_of}
use Rattle.av_plain.proofs.Access.{after_all-append, note_events-all}
use Rattle.av_plain.proofs.Device.{setting_same}
use Rattle.av_plain.proofs.Ledger.{how_many-found}
use Rattle.av_plain.proofs.Ledger.NoSwap.{itself}
use Rattle.av_plain.proofs.Sound.{lives-loads}
use Rattle.av_swap_laws.specs.Held.{Held, IsHeld}
use Rattle.av_swap_laws.specs.Locks.{AreLocks}
use Rattle.av_swap_laws.proofs.Locks.{locks-by-world}
use Rattle.av_mem.specs.declared.mem.Mem.{Mem}
use Rattle.av_mem.specs.Mem.{setting_by, sizes_of, frame_count, locks_of, view}
use Rattle.av_mem.proofs.KeepsLaws.{serves-keeps, state_by}
use Rattle.av_fault.specs.declared.fault.Stop.{Stop}
use Rattle.av_fault.specs.declared.fault.Stop.TheVariants.{Denied, Lost, Starved}
use Rattle.av_fault.specs.declared.fault.Touched.TheVariants.{Ready, Stopped, Zeros}
use Rattle.av_fault.specs.Fault.{IsServed, IsTouched, failed_by, lost_by, stop_of}
use Rattle.av_access.specs.Access.{causes_of_access}
use Rattle.av_access.specs.Page.{IsPageRead, IsPageStep, ShowsPiece, world_after}
use Rattle.av_access.proofs.AccessBytes.{locked-stored}
use Rattle.av_access.proofs.PageWritten.{MayWrite, areas-now, at_pages-now, held-now, stored, stored_is, tidy-now, used_twice}

-- ---- what only failures explain

rose-less : (m n a b : ℕ) → m ≤ n → RoseBy n a b → RoseBy m a b
rose-less m n a b less h = omega (arith, less, h)

rose-served : (added : List Note) (a b : ℕ) → RoseBy (fails added + 0) a b → RoseBy (causes_of_access added None) a b
rose-served added a b = rose-less _ _ a b (few (fails added))
  where
    few : (n : ℕ) → max n 0 + 0 ≤ n + 0
    few n = omega arith

rose-stopped : (added : List Note) (stop : Stop) (a b : ℕ) → failed_by (Stopped stop) ≤ fails added → RoseBy
    (fails added + lost_by (Stopped stop)) a b
    → RoseBy (causes_of_access added (Some stop)) a b
rose-stopped added Denied a b failed = rose-less _ _ a b (few (fails added))
  where
    few : (n : ℕ) → max n 0 + 0 ≤ n + 0
    few n = omega arith
rose-stopped added Lost a b failed = rose-less _ _ a b (few (fails added))
  where
    few : (n : ℕ) → max n 0 + 1 ≤ n + 1
    few n = omega arith
rose-stopped added (Starved out) a b failed = rose-less _ _ a b (few (fails added) out.fault failed)
  where
    few : (n k : ℕ) → k ≤ n → max n k + 0 ≤ n + 0
    few n k less = omega (arith, less)

-- ---- the kernel

-- the frame of a page that is ready is one of the machine's
pub frame_below : {d d' : Device} {s : State} (new : Mem) (write : Bool) (p page f : ℕ) (before now : List Note)
    → IsTouched d d' s new write (p, page) before now (Ready f) → f < frame_count new
frame_below {d} {d'} {s} new write p page f before now t =
    let l = after_all s.ledger (page_events write (p, page) t.added None) in
    let some : 0 < map_count l f = how_many-found (names_frame f) (p, page) l.entries (InFrame f true) t.ready.0 (itself f) in
    t.served.sound.in_range f (omega (arith, some))

module _ {d d' : Device} (s : State) (p page at : ℕ) (piece : List ℕ) (before now : List Note) (same : IsSameDevice d d') where
  -- what was touched is the step, where no byte is stored
  unwritten : (new : Mem) (write : Bool) (added : List Note) (end : Option Stop) → now ≡ before ++ added
      → Touches (setting_by d new) s.world s.ledger write (p, page) added (option_map stop_of end)
      → IsServed d d' s new (page_events write (p, page) added (option_map stop_of end))
      → ((w : World) → w ≡ world_after write p page at piece end w) → RoseBy (causes_of_access added end) d.failures d'.failures
      → IsPageStep d d' s new write p page at piece before now end
  unwritten new write added end notes touches served stored rose =
      let events = page_events write (p, page) added (option_map stop_of end) in
      let w = with_loads (setting_by d new) s.world s.ledger events in
      record {
        added = added;
        notes = notes;
        touches = touches;
        next = state_by new w (rmap_after_all s.ledger events (rmap_of s)) (after_all s.ledger events);
        world = stored w;
        ledger = refl;
        free = served.free;
        rmap = refl;
        keeps = serves-keeps d' new w (rmap_after_all s.ledger events (rmap_of s)) (after_all s.ledger events)
            (subst (λ m. IsSound m (after_all s.ledger events)) (sym (setting_same (frame_count new) d d' same)) served.sound) served.serves;
        same = same;
        wrote = served.wrote;
        failures = rose;
      }

  -- it was not served
  pub stopped : (new : Mem) (write : Bool) (stop : Stop) → IsTouched d d' s new write (p, page) before now (Stopped stop)
      → IsPageStep d d' s new write p page at piece before now (Some stop)
  stopped new write stop t = unwritten new write t.added (Some stop) t.noted.notes t.touches t.served (still write)
      (rose-stopped t.added stop d.failures d'.failures t.noted.failed t.noted.failures)
    where
      still : (write : Bool) (w : World) → w ≡ world_after write p page at piece (Some stop) w
      still true w = refl
      still false w = refl

-- it was served, and no byte of it is read or stored
module _ {d d' : Device} (s : State) (p page : ℕ) (before now : List Note) (same : IsSameDevice d d') (new : Mem) (write : Bool) where
  bare : (write : Bool) (w : World) → w ≡ world_after write p page 0 [] None w
  bare true w = refl
  bare false w = refl

  pub ready_served : (f : ℕ) → IsTouched d d' s new write (p, page) before now (Ready f) → IsPageStep d d' s new write p page 0 [] before now None
  ready_served f t = unwritten s p page 0 [] before now same new write t.added None t.noted.notes t.touches t.served (bare write)
      (rose-served t.added d.failures d'.failures t.noted.failures)

  pub zeros_served : IsTouched d d' s new write (p, page) before now Zeros → IsPageStep d d' s new write p page 0 [] before now None
  zeros_served t = unwritten s p page 0 [] before now same new write t.added None t.noted.notes t.touches t.served (bare write)
      (rose-served t.added d.failures d'.failures t.noted.failures)

-- the memories after the loads of a page that was read
abbrev pub loaded : Device → State → Mem → ℕ → ℕ → List Note → World
loaded d s new p page added = with_loads (setting_by d new) s.world s.ledger (page_events false (p, page) added None)

-- it was served to a read, which shows what the page claims then
pub read_served : {d d' : Device} (s : State) (new : Mem) (p page at n : ℕ) (before now : List Note) (shown shown' : List ℕ) → IsSameDevice d d'
    → (added : List Note) → now ≡ before ++ added → Touches (setting_by d new) s.world s.ledger false (p, page) added None
    → IsServed d d' s new (page_events false (p, page) added None) → RoseBy (fails added + 0) d.failures d'.failures
    → ShowsPiece (loaded d s new p page added) p page at n shown shown' None → IsPageRead d d' s new p page at n before now shown shown' None
unfolding unwritten
read_served {d} {d'} s new p page at n before now shown shown' same added notes touches served failures shows = record {
  step = unwritten s p page at [] before now same new false added None notes touches served (λ w. refl)
      (rose-served added d.failures d'.failures failures);
  shows = shows;
}

-- ---- a piece is written

-- the view of a memory system whose frames are seen so
abbrev seen : Mem → Shown → View
seen k x = record (view k) {
  frames = x.count;
  bytes = x.bytes;
  maps = x.maps;
  homes = x.home;
  slot = x.slot;
  dirty = x.dirty;
  free = x.free;
}

-- what stands of it then, and what a page's events did before
record StandsSeen (d d' : Device) (k : Mem) (s : State) (write : Bool) (p page : ℕ) (added : List Note) (w : World) (r : Rmap) (l : Ledger)
    (x : Shown)
    : Type 0 where
  sound : IsSound (setting_of x.count d') l
  held : IsHeld (setting_of x.count d') (record { view = seen k x; device = d'; world = w; ledger = l; rmap = r })
  locks : AreLocks x.locks w l
  areas : AreasStand (seen k x) w
  are : AreasAre (seen k x) r.areas
  anons : AnonsStand (seen k x) r.areas r.anons
  there : AreThere (setting_of x.count d') l
  areas_fit : AreasFit (setting_of x.count d') l
  free : ListsAll (setting_of x.count d') l (free_of (seen k x))
  lists : (sizes_of k).lists ≡ x.count
  items : (sizes_of k).items ≡ x.count
  room : (sizes_of k).swap ≡ x.count
  touches : Touches (setting_of x.count d) s.world s.ledger write (p, page) added None
  chosen : ChoosesAll (setting_of x.count d) None s.ledger (page_events write (p, page) added None) s.free (free_of (seen k x))

module _ {d d' : Device} (s : State) (p page at : ℕ) (piece : List ℕ) (before now : List Note) (same : IsSameDevice d d') where
  -- it was served to a write, and then the piece was laid over the frame's bytes
  pub written_served : (mid : Mem) (frames : Store) (f : ℕ) → lives s.world p ≡ true → 1 ≤ length piece → at + length piece ≤ 4096 →
      IsTouched d d' s mid true (p, page) before now (Ready f)
      → shown frames ≡ record (shown mid.frames) { bytes = with_at f (overlaid at piece ((shown mid.frames).bytes f)) (shown mid.frames).bytes }
      → IsPageStep d d' s (record mid { frames = frames }) true p page at piece before now None
  written_served mid frames f lived some fits t is =
      let new : Mem = record mid { frames = frames } in
      let events = page_events true (p, page) t.added None in
      let l = after_all s.ledger events in
      let rs : Rmap = rmap_after_all s.ledger events (rmap_of s) in
      let w = with_loads (setting_by d mid) s.world s.ledger events in
      let serves = t.served.serves in
      let before : Held = record { view = view mid; device = d'; world = w; ledger = l; rmap = rs } in
      let may : MayWrite (setting_by d' mid) before p page f at piece = record {
        held = serves.held;
        areas = serves.areas;
        tidy = serves.tidy;
        at_pages = serves.at_pages;
        sound = subst (λ m. IsSound m l) (sym (setting_same (frame_count mid) d d' same)) t.served.sound;
        alive = lives-loads (setting_by d mid) s.world s.ledger events p ∙ lived;
        named = t.ready.0;
        alone = t.ready.1 refl;
        used = ap (after_use true (p, page)) used_is ∙ used_twice (after_notes s.ledger t.added) p page ∙ sym used_is;
        fits = fits;
      } in
      let w' = stored (setting_by d' mid) before p page f at piece may in
      let counted : AreLocks (locks_of mid) (after_write w p (4096 * page + at) piece) l = λ g. serves.locks g
      ∙ sym (locks-by-world w (after_write w p (4096 * page + at) piece) l g (λ k. sym (locked-stored w p (4096 * page + at) piece k.0 k.1))) in
      let stands = subst (StandsSeen d d' mid s true p page t.added w' rs l) (sym is) (record {
        sound = may.sound;
        held = held-now (setting_by d' mid) before p page f at piece may;
        locks = subst (λ x. AreLocks (locks_of mid) x l) (stored_is w p (4096 * page + at) piece some) counted;
        areas = areas-now (setting_by d' mid) before p page f at piece may;
        are = serves.are;
        anons = record { next = serves.anons.next; kin = serves.anons.kin; chains = serves.anons.chains };
        there = serves.there;
        areas_fit = serves.areas_fit;
        free = serves.free;
        lists = serves.lists;
        items = serves.items;
        room = serves.swap.frames;
        touches = t.touches;
        chosen = t.served.free;
      }) in
      record {
        added = t.added;
        notes = t.noted.notes;
        touches = stands.touches;
        next = state_by new w' rs l;
        world = sym (stored_is w p (4096 * page + at) piece some);
        ledger = refl;
        free = stands.chosen;
        rmap = refl;
        keeps = serves-keeps d' new w' rs l stands.sound (record {
          held = stands.held;
          locks = stands.locks;
          areas = stands.areas;
          are = stands.are;
          anons = stands.anons;
          tidy = tidy-now (setting_by d' mid) before p page f at piece may;
          at_pages = at_pages-now (setting_by d' mid) before p page f at piece may;
          there = stands.there;
          areas_fit = stands.areas_fit;
          free = stands.free;
          lists = stands.lists;
          items = stands.items;
          tables = serves.tables;
          fit = serves.fit;
          swap = record {
            frames = stands.room;
            closed = serves.swap.closed;
            on_device = serves.swap.on_device;
            by_headers = serves.swap.by_headers;
          };
        });
        same = same;
        wrote = t.served.wrote;
        failures = rose-served t.added d.failures d'.failures t.noted.failures;
      }
    where
      used_is : after_all s.ledger (page_events true (p, page) t.added None) ≡ after_use true (p, page) (after_notes s.ledger t.added)
      used_is = after_all-append s.ledger (note_events t.added) (Used true (p, page) ∷ []) ∙ ap (after_use true (p, page))
          (note_events-all s.ledger t.added)
