-- A page gets a copy of its frame, and is written.
use Rattle.std.proofs.Common.{◌≡◌, ℕ, ◌+◌, ◌<◌, ◌==◌, Bool, true, false, cond, ◌&&◌, List, [], ◌∷◌, ◌++◌, Option, Some, None, is_some, refl, sym, ap, subst, ◌∙◌, arith}
use Rattle.av_base.specs.Keys.{Key}
use Rattle.av_base.proofs.Keys.{same_key-itself}
use Rattle.av_base.specs.Page.{address_of, page_of}
use Rattle.av_base.specs.Words.{with_at}
use Rattle.av_base.specs.declared.slot.Slot.{Slot}
use Rattle.av_pagetable.specs.declared.pte.Pte.{Pte}
use Rattle.av_pagetable.specs.declared.pte.Pte.TheVariants.{Away, Empty, Here, Zero}
use Rattle.av_pagetable.specs.Entries.{entry_at}
use Rattle.av_spaces.specs.Spaces.{pages_of}
use Rattle.av_vma.specs.Pages.{home_of}
use Rattle.av_trace.specs.declared.note.Note.{Note}
use Rattle.av_trace.specs.declared.note.Note.TheVariants.{Copied}
use Rattle.av_plain.specs.Areas.{Rmap, at_home, rmap_after_use}
use Rattle.av_plain.specs.Choice.{ListsFree}
use Rattle.av_plain.specs.Device.{Device}
use Rattle.av_plain.specs.Event.{Noted, Used, after_note, after_notes, after_use}
use Rattle.av_plain.specs.Fault.{CopyOnWrite, IsMade, Ready as NoNeed, drop_at, drop_of_entry, drop_of_slot, asks_copy, need, sparing}
use Rattle.av_plain.specs.Ledger.{Entry, InFrame, InSlot, Zero as Zeros, Ledger, Setting, entry, is_free, map_count, names_frame, slot_of}
use Rattle.av_plain.specs.Pass.{TakesFor, is_spared}
use Rattle.av_plain.specs.Sound.{no_excuse}
use Rattle.av_plain.specs.Stands.{Pte as Plain, View, entry_of}
use Rattle.av_plain.specs.World.{World, is_locked_page, pages}
use Rattle.av_plain.proofs.Access.{after_notes-append, note_events-all}
use Rattle.av_plain.proofs.Ledger.{entry-set, how_many-found}
use Rattle.av_plain.proofs.Load.{without-loads}
use Rattle.av_plain.proofs.Event.{changed-by}
use Rattle.av_plain.proofs.Sound.Access.{shared-is, shared-stays, sparing-pins, unused}
use Rattle.av_plain.proofs.Sound.Counts.{same-itself}
use Rattle.av_plain.proofs.Sound.Sharing.{copied-kept, free-apart}
use Rattle.av_plain.proofs.Sound.Steps.{is_steady}
use Rattle.av_plain.proofs.Sound.There.{sorted-note}
use Rattle.av_swap_laws.specs.Held.{Held, Steps}
use Rattle.av_swap_laws.specs.May.{AreOnce}
use Rattle.av_swap_laws.specs.Steps.{view_copy, view_copy_last, view_seen, with_pte}
use Rattle.av_swap_laws.proofs.Cache.{once-of}
use Rattle.av_swap_laws.proofs.From.{IsFirst, first-is}
use Rattle.av_swap_laws.proofs.Load.{unslotted}
use Rattle.av_swap_laws.proofs.Locks.{locks-copied, locks-used}
use Rattle.av_swap_laws.proofs.WholePages.{copy-steps, last-steps}
use Rattle.av_mem.specs.declared.mem.Mem.{Mem}
use Rattle.av_mem.specs.Mem.{held_by, locks_of, plain, setting_by, view}
use Rattle.av_mem.specs.Locked.{has_lock, locks_less, locks_more}
use Rattle.av_mem.specs.Steps.{KeepsBut}
use Rattle.av_mem.specs.Between.{HasDone, KeepsBetween}
use Rattle.av_mem.specs.Entries.{IsTaken, NamesFrame, view_copied}
use Rattle.av_fault.specs.Making.{HasMade}
use Rattle.av_fault.specs.Seek.{HasSought}
use Rattle.av_fault.specs.Using.{IsHere}
use Rattle.av_fault.specs.declared.fault.Touched.TheVariants.{Ready}
use Rattle.av_fault.specs.declared.seek.Got.{Got}
use Rattle.av_fault.specs.declared.seek.Got.TheVariants.{Frame}
use Rattle.av_mem.proofs.Amid.{Amid}
use Rattle.av_mem.proofs.Between.{fit-stays, to-amid, to-fit}
use Rattle.av_mem.proofs.LocksCome.{locked-some, locks-left, locks-swap}
use Rattle.av_fault.proofs.EntryLaws.{page-back}
use Rattle.av_fault.proofs.Run.{Run, run-done, run-none, run-then}
use Rattle.av_fault.proofs.SharedLaws.{is_last, keeps-use, loses-use, shared-by}
use Rattle.av_fault.proofs.SoughtLaws.{entry-sought, ledger_now, pages-sought, passed, rmap_now, world_now}
use Rattle.av_fault.proofs.TakenLaws.{home-twice, taken-made, used-run}
use Rattle.av_fault.proofs.UsingLaws.{entry-here}
use Rattle.av_plain.proofs.Wrote.{device-itself, wrote-none}

-- the entry after the note
copy-there : (p a f : ℕ) (l : Ledger) → entry (after_note (Copied p a f) l) (p, page_of a) ≡ Some (InFrame f false)
copy-there p a f l = changed-by (λ x. entry x (p, page_of a)) (λ g x. refl) (p, page_of a) f l
    ∙ entry-set (p, page_of a) (InFrame f false) l (p, page_of a)
    ∙ ap (λ b. cond b (Some (InFrame f false)) (entry l (p, page_of a))) (same_key-itself (p, page_of a))

-- a frame that was free has no slot then either
copy-slotless : (p a f : ℕ) (l : Ledger) → is_free l f ≡ true → slot_of (after_note (Copied p a f) l) f ≡ None
copy-slotless p a f l free = changed-by (λ x. slot_of x f) (λ g x. refl) (p, page_of a) f l ∙ unslotted l f free

-- ---- of views alone

module _ (m : Setting) (h : Held) (amid : Amid m h) (p a f g : ℕ) (left : List ℕ) (first : h.view.free ≡ f ∷ left) (seen : Bool)
    (here : entry h.ledger (p, page_of a) ≡ Some (InFrame g seen)) (shared : asks_copy h.ledger g ≡ true)
    (mapped : is_some (pages h.world p (page_of a)) ≡ true) where
  abbrev q : Key
  q = (p, page_of a)

  abbrev home : Option (ℕ × ℕ)
  home = home_of (page_of a) (h.rmap.areas p (page_of a))

  abbrev made : View → Held
  made v = record h { view = v; ledger = after_note (Copied p a f) h.ledger; rmap = at_home f q h.rmap }

  is_first : IsFirst m h.ledger f left
  is_first = first-is m h.ledger f left (subst (ListsFree m h.ledger) first amid.free.frames)

  named : 0 < map_count h.ledger g
  named = how_many-found (names_frame g) q h.ledger.entries (InFrame g seen) here (same-itself g)

  -- whatever becomes of the frame that is copied
  module _ (v : View) (steps : Steps m None (Noted (Copied p a f)) h (made v)) (areas : v.areas ≡ h.view.areas) (anons : v.anons ≡ h.view.anons)
      (homes : v.homes ≡ with_at f home h.view.homes)
      (table : v.table ≡ with_pte p (page_of a) (Some (record { entry = InFrame f false; write = true })) h.view.table) where
    run : Run m h (made v) (Noted (Copied p a f) ∷ [])
    run = run-then m h h (made v) [] (Noted (Copied p a f)) (run-none m h amid) (tt, tt, mapped) steps
        (record {
          world = sym (without-loads m h.world h.ledger (Noted (Copied p a f) ∷ []) refl);
          view_areas = areas;
          view_anons = anons;
          areas = refl;
          anons = refl;
        })
        (copied-kept m no_excuse h.ledger q f g seen amid.sound here (free-apart h.ledger q f g seen here (unused h.ledger f is_first.free))
        (shared-is h.ledger g shared) is_first.below (unused h.ledger f is_first.free))

    both : (p == p && page_of a == page_of a) ≡ true
    both = λ i. same-itself p i && same-itself (page_of a) i

    bit-there : v.table p (page_of a) ≡ Some (record { entry = InFrame f false; write = true })
    bit-there = ap (λ (t : ℕ → ℕ → Option Plain). t p (page_of a)) table
        ∙ ap (λ b. cond b (Some (record { entry = InFrame f false; write = true })) (h.view.table p (page_of a))) both

    used : Run m h (record (made v) { view = view_seen p (page_of a) f true v; ledger = after_use true q (made v).ledger })
        (Noted (Copied p a f) ∷ Used true q ∷ [])
    used = used-run m h (made v) (Copied p a f) q f run (copy-there p a f h.ledger) (copy-slotless p a f h.ledger is_first.free)
        (run.amid.held.ledger.tables.write_bits p (page_of a) (record { entry = InFrame f false; write = true }) f bit-there refl (same-itself f))
        (ap (with_at f home) homes ∙ home-twice f home h.view.homes ∙ sym homes)
        (λ i. record h.rmap { homes = home-twice f home h.rmap.homes i })

  -- it is free where this was its last use, else it keeps the others
  pub copy-run : Run m h (record (made (view_copied p (page_of a) g f left home h.view)) {
    view = view_seen p (page_of a) f true (view_copied p (page_of a) g f left home h.view);
    ledger = after_use true q (after_note (Copied p a f) h.ledger);
  }) (Noted (Copied p a f) ∷ Used true q ∷ [])
  copy-run = by (is_last (h.view.maps g) (h.view.slot g)) refl
    where
      once : AreOnce h.ledger
      once = once-of m no_excuse h.ledger amid.sound

      as_said : is_last (map_count h.ledger g) (slot_of h.ledger g) ≡ is_last (h.view.maps g) (h.view.slot g)
      as_said = λ i. is_last (sym (amid.held.ledger.frames.maps g) i) (sym (amid.held.ledger.frames.slots g) i)

      below : g < m.frames
      below = let some = named in amid.sound.in_range g (omega (arith, some))

      by : (b : Bool) → is_last (h.view.maps g) (h.view.slot g) ≡ b
          → (let v : View = cond b (view_copy_last p (page_of a) g f true left home h.view) (view_copy p (page_of a) g f true left home h.view) in
          Run m h (record (made v) { view = view_seen p (page_of a) f true v; ledger = after_use true q (after_note (Copied p a f) h.ledger) })
          (Noted (Copied p a f) ∷ Used true q ∷ []))
      by true e = used (view_copy_last p (page_of a) g f true left home h.view)
          (last-steps m None h amid.held p a f left true amid.sound.in_order once is_first.free first is_first.alone g seen here
          (loses-use h.ledger g (as_said ∙ e)) below)
          refl refl refl refl
      by false e = used (view_copy p (page_of a) g f true left home h.view)
          (copy-steps m None h amid.held p a f left true amid.sound.in_order once is_first.free first is_first.alone g seen here
          (keeps-use m h.ledger g amid.sound named shared (as_said ∙ e)))
          refl refl refl refl

-- ---- of the memory system

module _ (d : Device) (mid new : Mem) (w : World) (r : Rmap) (l : Ledger) (p f g : ℕ) (left : List ℕ)
    (first : (view mid).free ≡ f ∷ left) (seen : Bool)
    (h : KeepsBetween d mid w r l) (shared : asks_copy l g ≡ true) where
  -- at the page of an address
  abbrev CopyDone : ℕ → ℕ → Type 0
  CopyDone a page = KeepsBut (locks_more mid (p, page) f (locks_less mid (p, page) g (locks_of mid))) mid new
      → entry l (p, page) ≡ Some (InFrame g seen) → is_some (pages w p page) ≡ true
      → view new ≡ view_seen p page f true (view_copied p page g f left (home_of page (r.areas p page)) (view mid))
      → HasDone d d mid new w r l (Noted (Copied p a f) ∷ Used true (p, page) ∷ [])

  copy-done : (a : ℕ) → CopyDone a (page_of a)
  copy-done a parts at mapped now =
      let m = setting_by d mid in
      let k : Key = (p, page_of a) in
      let here = held_by d mid w r l in
      let home = home_of (page_of a) (r.areas p (page_of a)) in
      let l' = after_note (Copied p a f) l in
      run-done d d mid new w w r (at_home f k r) l (after_use true k l') (Noted (Copied p a f) ∷ Used true k ∷ []) here
      (view_seen p (page_of a) f true (view_copied p (page_of a) g f left home (view mid)))
      (copy-run m here (to-amid d mid w r l h) p a f g left first seen at shared mapped) now refl refl
      (sym (without-loads m w l (Noted (Copied p a f) ∷ Used true k ∷ []) refl))
      (sym (ap (λ o. rmap_after_use true k o (at_home f k r)) (copy-there p a f l) ∙ (λ i. record r { homes = home-twice f home r.homes i })))
      (device-itself d) (wrote-none d.history) parts.count (fit-stays d d mid new (device-itself d) parts (to-fit d mid w r l h))
      (locks-left parts w (after_use true k l') (locks-swap mid w l h.serves.areas h.serves.locks k f g (after_use true k l')
      (locked-some mid w l h.serves.areas h.serves.locks k g seen h.sound.in_order at)
      (λ j. ap (λ n. n + cond (is_locked_page (pages w p (page_of a)) && j == g) 1 0)
      (locks-used w true k l' j (sorted-note l (Copied p a f) h.sound.in_order)) ∙ locks-copied w p a f l g seen j h.sound.in_order at)))

  pub copy-done-at : (page : ℕ) → CopyDone (address_of page) page
  copy-done-at page = subst (CopyDone (address_of page)) (page-back page) (copy-done (address_of page))

-- ---- the whole

module _ (d d' : Device) (old mid : Mem) (w : World) (r : Rmap) (l : Ledger) (before mids : List Note) (k : Key) (g : ℕ) (got : Got)
    (h : KeepsBetween d old w r l) (s : HasSought d d' old mid w r l (Some g) before mids got) (settled : Bool) (here : IsHere old k g settled)
    (shared : asks_copy l g ≡ true) where
  abbrev m : Setting
  m = setting_by d old

  abbrev l1 : Ledger
  l1 = ledger_now d d' old mid w r l (Some g) before mids got h s

  at : entry l k ≡ Some (InFrame g here.seen)
  at = entry-here d old w r l h k g here.write here.seen here.there

  -- a copy is needed
  pub copy-needs : need true l (entry l k) ≡ CopyOnWrite g
  copy-needs = ap (need true l) at ∙ ap (λ b. cond b (CopyOnWrite g) NoNeed) shared

  -- the pinned frame is as it was
  pub copy-at : entry l1 k ≡ Some (InFrame g here.seen)
  copy-at = entry-sought d d' old mid w r l (Some g) before mids got h s k (ap (is_steady (is_spared (sparing w l (Some g)))) at
      ∙ sparing-pins w l g) ∙ at

  pub copy-names : NamesFrame mid k g
  copy-names = by (entry_at mid.tables k.0 k.1) refl (s.done.between.serves.held.ledger.tables.entries k.0 k.1 ∙ copy-at)
    where
      no_entry : {x : Entry} → None ≡ Some x → ⊥
      no_entry is = cc

      no_frame : {was : Bool} → Some Zeros ≡ Some (InFrame g was) → ⊥
      no_frame is = cc

      no_slot : {t : Slot} {was : Bool} → Some (InSlot t) ≡ Some (InFrame g was) → ⊥
      no_slot is = cc

      same : {f : ℕ} {seen was : Bool} → Some (InFrame f seen) ≡ Some (InFrame g was) → f ≡ g
      same is = cc

      by : (e : Pte) → entry_at mid.tables k.0 k.1 ≡ e → entry_of (plain e) ≡ Some (InFrame g here.seen) → NamesFrame mid k g
      by Empty is at = absurd (no_entry at)
      by Zero is at = absurd (no_frame at)
      by (Here f write seen) is at = record { write = write; seen = seen; there = is ∙ ap (λ x. Here x write seen) (same at) }
      by (Away t) is at = absurd (no_slot at)

  pub copy-mapped : 0 < (view mid).maps g
  copy-mapped = subst (λ n. 0 < n) (sym (s.done.between.serves.held.ledger.frames.maps g))
      (how_many-found (names_frame g) k l1.entries (InFrame g here.seen) copy-at (same-itself g))

  -- and where the page is locked it has a count
  pub copy-locked : has_lock mid k ≡ true → 0 < locks_of mid g
  copy-locked = let now = s.done.between in locked-some mid _ l1 now.serves.areas now.serves.locks k g here.seen now.sound.in_order copy-at

  pub copied-shared : asks_copy l1 g ≡ true
  copied-shared =
      let p = passed d d' old mid w r l (Some g) before mids got h s in
      subst (λ x. asks_copy x g ≡ true) (sym (note_events-all l s.added))
      (shared-by m (after_notes l s.added) g p.sound (shared-stays (is_spared (sparing w l (Some g))) l (after_notes l s.added) g (sparing-pins w l g) p.keeps
      (how_many-found (names_frame g) k l.entries (InFrame g here.seen) at (same-itself g)) (shared-is l g shared)))

module _ (d d' : Device) (old mid new : Mem) (w : World) (r : Rmap) (l : Ledger) (before mids now : List Note) (k : Key) (f g : ℕ)
    (came settled : Bool)
    (h : KeepsBetween d old w r l) (s : HasSought d d' old mid w r l (Some g) before mids Frame) (here : IsHere old k g settled)
    (shared : asks_copy l g ≡ true) (home : Option (ℕ × ℕ)) (home_is : home ≡ home_of k.1 (pages_of old.spaces.processes k.0 k.1))
    (taken : IsTaken mid new f (λ left. view_seen k.0 k.1 f true (view_copied k.0 k.1 g f left home (view mid))))
    (parts : KeepsBut (locks_more mid k f (locks_less mid k g (locks_of mid))) mid new) where
  abbrev note : Note
  note = Copied k.0 (address_of k.1) f

  abbrev l2 : Ledger
  l2 = ledger_now d d' old mid w r l (Some g) before mids Frame h s

  abbrev r2 : Rmap
  r2 = rmap_now d d' old mid w r l (Some g) before mids Frame h s

  abbrev w2 : World
  w2 = world_now d d' old mid w r l (Some g) before mids Frame h s

  at_now : entry l2 k ≡ Some (InFrame g here.seen)
  at_now = copy-at d d' old mid w r l before mids k g Frame h s settled here shared

  there : entry (after_notes l (s.added ++ note ∷ [])) k ≡ Some (InFrame f false)
  there = ap (λ x. entry x k) (after_notes-append l s.added (note ∷ []))
      ∙ subst (λ page. entry (after_note note (after_notes l s.added)) (k.0, page) ≡ Some (InFrame f false)) (page-back k.1)
      (copy-there k.0 (address_of k.1) f (after_notes l s.added))

  first_now : IsFirst (setting_by d' mid) l2 f taken.left
  first_now = first-is (setting_by d' mid) l2 f taken.left (subst (ListsFree (setting_by d' mid) l2) taken.first s.done.between.serves.free.frames)

  free : is_free (after_notes l s.added) f ≡ true
  free = ap (λ x. is_free x f) (sym (note_events-all l s.added)) ∙ first_now.free

  takes : TakesFor (setting_by d old) (sparing w l (Some g)) l (s.added ++ note ∷ []) (Copied k.0 (address_of k.1))
  takes = record {
    sought = s.added;
    frame = f;
    seeks = s.seeks;
    in_range = subst (λ n. f < n) s.done.count first_now.below;
    free = free;
    whole = refl;
  }

  undropped : drop_at (setting_by d old) true came (after_notes l (s.added ++ note ∷ [])) k ≡ []
  undropped =
      let l3 = after_notes l (s.added ++ note ∷ []) in
      ap (drop_of_entry (setting_by d old) true came l3) there ∙ ap (drop_of_slot (setting_by d old) true came l3)
      (ap (λ x. slot_of x f) (after_notes-append l s.added (note ∷ [])) ∙ copy-slotless k.0 (address_of k.1) f (after_notes l s.added) free)

  at_key : (k.0 == k.0 && k.1 == k.1) ≡ true
  at_key = λ i. same-itself k.0 i && same-itself k.1 i

  home_now : home ≡ home_of k.1 (r2.areas k.0 k.1)
  home_now = home_is ∙ ap (home_of k.1) (sym (pages-sought d d' old mid w r l (Some g) before mids Frame h s k.0 k.1)
      ∙ s.done.between.serves.are k.0 k.1)

  pub copy-made : now ≡ mids ++ note ∷ [] → HasMade d d' old new w r l true came k before now (Ready f)
  copy-made notes = taken-made d d' old mid new w r l (Some g) before mids now k f note came h s
      (copy-done-at d' mid new w2 r2 l2 k.0 f g taken.left taken.first here.seen s.done.between
      (copied-shared d d' old mid w r l before mids k g Frame h s settled here shared) k.1 parts at_now
      (s.done.between.serves.at_pages k.0 k.1 (ap is_some at_now))
      (taken.view ∙ ap (λ x. view_seen k.0 k.1 f true (view_copied k.0 k.1 g f taken.left x (view mid))) home_now))
      notes refl
      (subst (λ n. IsMade (setting_by d old) (sparing w) l k n (s.added ++ note ∷ []))
      (sym (copy-needs d d' old mid w r l before mids k g Frame h s settled here shared)) takes)
      undropped
      (ap (λ (v : View). v.table k.0 k.1) taken.view
      ∙ ap (λ b. cond b (Some (record { entry = InFrame f true; write = true }))
      ((view_copied k.0 k.1 g f taken.left home (view mid)).table k.0 k.1)) at_key)
