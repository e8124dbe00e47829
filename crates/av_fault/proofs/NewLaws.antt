-- A page gets its first frame, of zeros, and is written.
use Rattle.std.proofs.Common.{◌≡◌, ℕ, ◌<◌, ◌==◌, true, false, cond, ◌&&◌, IsSome, IsSomeAnd, List, [], ◌∷◌, ◌++◌, Option, Some, None, is_some, refl, sym, ap, subst, ◌∙◌}
use Rattle.av_base.specs.Keys.{Key}
use Rattle.av_base.proofs.Keys.{same_key-itself}
use Rattle.av_base.specs.Page.{address_of, page_of}
use Rattle.av_anon.specs.declared.anons.Anons.{Anons as AnonSet}
use Rattle.av_pagetable.specs.declared.pte.Pte.{Pte}
use Rattle.av_pagetable.specs.declared.pte.Pte.TheVariants.{Away, Empty, Here, Zero as ZeroPte}
use Rattle.av_pagetable.specs.Entries.{entry_at}
use Rattle.av_merge.specs.Kin.{lengths}
use Rattle.av_spaces.specs.Kin.{AnonsPrepare}
use Rattle.av_spaces.specs.Spaces.{AllSpaces, AreThese, IsChanged, pages_of}
use Rattle.av_vma.specs.Pages.{after_prepare, home_of}
use Rattle.av_trace.specs.declared.note.Note.{Note}
use Rattle.av_trace.specs.declared.note.Note.TheVariants.{New}
use Rattle.av_plain.specs.Areas.{Rmap, at_home, prepare_page, rmap_after_use}
use Rattle.av_plain.specs.Choice.{ListsFree}
use Rattle.av_plain.specs.Device.{Device}
use Rattle.av_plain.specs.Event.{Noted, Used, after_note, after_notes, after_use}
use Rattle.av_plain.specs.Fault.{IsMade, NewPage, drop_at, drop_of_entry, drop_of_slot, need, sparing}
use Rattle.av_plain.specs.Ledger.{Entry, InFrame, InSlot, IsBlank, Ledger, Setting, Zero, entry, is_free, slot_of}
use Rattle.av_plain.specs.Pass.{TakesFor, is_spared}
use Rattle.av_plain.specs.Sound.{no_excuse}
use Rattle.av_plain.specs.Stands.{View, entry_of}
use Rattle.av_plain.specs.World.{World, pages}
use Rattle.av_plain.proofs.Access.{after_notes-append, note_events-all}
use Rattle.av_plain.proofs.Ledger.{entry-set}
use Rattle.av_plain.proofs.Load.{without-loads}
use Rattle.av_plain.proofs.Sound.Access.{blank-steady, unused}
use Rattle.av_plain.proofs.Sound.Counts.{same-itself}
use Rattle.av_plain.proofs.Sound.Entries.{new-kept}
use Rattle.av_plain.proofs.Sound.There.{sorted-note}
use Rattle.av_swap_laws.specs.Held.{Held}
use Rattle.av_swap_laws.specs.Steps.{view_new, view_seen}
use Rattle.av_swap_laws.proofs.Cache.{once-of}
use Rattle.av_swap_laws.proofs.From.{IsFirst, first-is}
use Rattle.av_swap_laws.proofs.Load.{unslotted}
use Rattle.av_swap_laws.proofs.Locks.{locks-new, locks-used}
use Rattle.av_swap_laws.proofs.WholePages.{new-steps}
use Rattle.av_mem.specs.declared.mem.Mem.{Mem}
use Rattle.av_mem.specs.Mem.{held_by, locks_of, plain, setting_by, view}
use Rattle.av_mem.specs.Locked.{locks_more}
use Rattle.av_mem.specs.Steps.{KeepsBut}
use Rattle.av_mem.specs.Between.{HasDone, KeepsBetween}
use Rattle.av_mem.specs.Entries.{HasFree, IsTaken}
use Rattle.av_fault.specs.Making.{HasMade, IsBare, IsMapped}
use Rattle.av_fault.specs.Seek.{HasSought}
use Rattle.av_fault.specs.declared.fault.Touched.TheVariants.{Ready}
use Rattle.av_fault.specs.declared.seek.Got.TheVariants.{Frame}
use Rattle.av_mem.proofs.Amid.{Amid}
use Rattle.av_mem.proofs.Between.{fit-stays, to-amid, to-fit}
use Rattle.av_mem.proofs.LocksCome.{locks-come, locks-left}
use Rattle.av_fault.proofs.EntryLaws.{entry-is, mapped-is, page-back}
use Rattle.av_fault.proofs.Prepared.{prepared, prepared-owns}
use Rattle.av_fault.proofs.Run.{Run, run-done, run-none, run-then}
use Rattle.av_fault.proofs.SoughtLaws.{entry-sought, free-sought, ledger_now, lives-sought, mapped-sought, rmap_now, world_now}
use Rattle.av_fault.proofs.TakenLaws.{home-twice, taken-made, used-run}
use Rattle.av_plain.proofs.Wrote.{device-itself, wrote-none}

-- a page without a frame or slot has no entry, or that of zeros
pub bare-blank : (e : Pte) (o : Option Entry) → IsBare e → o ≡ entry_of (plain e) → IsBlank o
bare-blank Empty o bare is = subst IsBlank (sym is) tt
bare-blank ZeroPte o bare is = subst IsBlank (sym is) tt
bare-blank (Here f write seen) o bare is = absurd bare
bare-blank (Away s) o bare is = absurd bare

pub blank-needs : (l : Ledger) (o : Option Entry) → IsBlank o → need true l o ≡ NewPage
blank-needs l None blank = refl
blank-needs l (Some Zero) blank = refl
blank-needs l (Some (InFrame f seen)) blank = absurd blank
blank-needs l (Some (InSlot s)) blank = absurd blank

-- the entry after the note
new-there : (p a f : ℕ) (l : Ledger) → entry (after_note (New p a f) l) (p, page_of a) ≡ Some (InFrame f false)
new-there p a f l = entry-set (p, page_of a) (InFrame f false) l (p, page_of a)
    ∙ ap (λ b. cond b (Some (InFrame f false)) (entry l (p, page_of a))) (same_key-itself (p, page_of a))

-- ---- of views alone

module _ (m : Setting) (h : Held) (amid : Amid m h) (p a f : ℕ) (left : List ℕ) (first : h.view.free ≡ f ∷ left)
    (blank : IsBlank (entry h.ledger (p, page_of a))) (owns : IsSomeAnd (h.rmap.areas p (page_of a)) (λ area. IsSome area.anon))
    (mapped : is_some (pages h.world p (page_of a)) ≡ true) where
  abbrev q : Key
  q = (p, page_of a)

  abbrev home : Option (ℕ × ℕ)
  home = home_of (page_of a) (h.rmap.areas p (page_of a))

  abbrev made : Held
  made = record h {
    view = view_new p (page_of a) f true left (λ i. 0) home h.view;
    ledger = after_note (New p a f) h.ledger;
    rmap = at_home f q h.rmap;
  }

  is_first : IsFirst m h.ledger f left
  is_first = first-is m h.ledger f left (subst (ListsFree m h.ledger) first amid.free.frames)

  run : Run m h made (Noted (New p a f) ∷ [])
  run = run-then m h h made [] (Noted (New p a f)) (run-none m h amid) (tt, tt, mapped)
      (new-steps m None h amid.held p a f left true amid.sound.in_order (once-of m no_excuse h.ledger amid.sound) is_first.free first
      is_first.alone blank owns)
      (record {
        world = sym (without-loads m h.world h.ledger (Noted (New p a f) ∷ []) refl);
        view_areas = refl;
        view_anons = refl;
        areas = refl;
        anons = refl;
      })
      (new-kept m no_excuse h.ledger q f amid.sound blank is_first.below (unused h.ledger f is_first.free))

  both : (p == p && page_of a == page_of a) ≡ true
  both = λ i. same-itself p i && same-itself (page_of a) i

  pub new-run : Run m h (record made { view = view_seen p (page_of a) f true made.view; ledger = after_use true q made.ledger })
      (Noted (New p a f) ∷ Used true q ∷ [])
  new-run = used-run m h made (New p a f) q f run (new-there p a f h.ledger) (unslotted h.ledger f is_first.free)
      (run.amid.held.ledger.tables.write_bits p (page_of a) (record { entry = InFrame f false; write = true }) f
      (ap (λ b. cond b (Some (record { entry = InFrame f false; write = true })) (h.view.table p (page_of a))) both) refl (same-itself f))
      (home-twice f home h.view.homes) (λ i. record h.rmap { homes = home-twice f home h.rmap.homes i })

-- ---- of the memory system

module _ (d : Device) (mid new : Mem) (spaces : AllSpaces) (anons : AnonSet) (w : World) (r : Rmap) (l : Ledger) (p f : ℕ) (left : List ℕ)
    (first : (view mid).free ≡ f ∷ left) where
  abbrev prep : Mem
  prep = record mid { spaces = spaces; anons = anons }

  -- at the page of an address
  abbrev NewDone : ℕ → ℕ → Type 0
  NewDone a page = KeepsBut (locks_more prep (p, page) f (locks_of prep)) prep new → KeepsBetween d prep w (prepare_page p page r) l
      → IsBlank (entry l (p, page))
      → IsSomeAnd ((prepare_page p page r).areas p page) (λ area. IsSome area.anon) → is_some (pages w p page) ≡ true
      → view new ≡ view_seen p page f true (view_new p page f true left (λ i. 0) (home_of page ((prepare_page p page r).areas p page)) (view prep))
      → HasDone d d mid new w r l (Noted (New p a f) ∷ Used true (p, page) ∷ [])

  new-done : (a : ℕ) → NewDone a (page_of a)
  new-done a parts h blank owns mapped now =
      let m = setting_by d mid in
      let k : Key = (p, page_of a) in
      let r' = prepare_page p (page_of a) r in
      let here = held_by d prep w r' l in
      let home = home_of (page_of a) (r'.areas p (page_of a)) in
      let l' = after_note (New p a f) l in
      run-done d d mid new w w r (at_home f k r') l (after_use true k l') (Noted (New p a f) ∷ Used true k ∷ []) here
      (view_seen p (page_of a) f true (view_new p (page_of a) f true left (λ i. 0) home (view prep)))
      (new-run m here (to-amid d prep w r' l h) p a f left first blank owns mapped) now refl refl
      (sym (without-loads m w l (Noted (New p a f) ∷ Used true k ∷ []) refl))
      (sym (ap (λ o. rmap_after_use true k o (at_home f k r')) (new-there p a f l) ∙ (λ i. record r' { homes = home-twice f home r'.homes i })))
      (device-itself d) (wrote-none d.history) parts.count (fit-stays d d prep new (device-itself d) parts (to-fit d prep w r' l h))
      (locks-left parts w (after_use true k l') (locks-come prep w l h.serves.areas h.serves.locks k f (after_use true k l')
      (λ g. locks-used w true k l' g (sorted-note l (New p a f) h.sound.in_order) ∙ locks-new w p a f l g h.sound.in_order blank)))

  pub new-done-at : (page : ℕ) → NewDone (address_of page) page
  new-done-at page = subst (NewDone (address_of page)) (page-back page) (new-done (address_of page))

module _ (d d' : Device) (old mid new : Mem) (w : World) (r : Rmap) (l : Ledger) (before mids now : List Note) (k : Key) (f : ℕ)
    (h : KeepsBetween d old w r l) (s : HasSought d d' old mid w r l None before mids Frame) (mapped : IsMapped old k)
    (bare : IsBare (entry_at old.tables k.0 k.1)) (spaces : AllSpaces) (anons : AnonSet)
    (changed : IsChanged mid.spaces.processes spaces.processes k.0 (AreThese
    (after_prepare (lengths mid.spaces.areas mid.anons) mid.anons.next k.1 (pages_of mid.spaces.processes k.0))))
    (made : AnonsPrepare mid.spaces mid.anons spaces anons k.0 k.1) where
  abbrev m : Setting
  m = setting_by d old

  abbrev note : Note
  note = New k.0 (address_of k.1) f

  abbrev l1 : Ledger
  l1 = ledger_now d d' old mid w r l None before mids Frame h s

  abbrev r1 : Rmap
  r1 = rmap_now d d' old mid w r l None before mids Frame h s

  abbrev w1 : World
  w1 = world_now d d' old mid w r l None before mids Frame h s

  abbrev with_area : Mem
  with_area = record mid { spaces = spaces; anons = anons }

  blank : IsBlank (entry l k)
  blank = bare-blank (entry_at old.tables k.0 k.1) (entry l k) bare (entry-is d old w r l h k (entry_at old.tables k.0 k.1) refl)

  blank_now : IsBlank (entry l1 k)
  blank_now = subst IsBlank
      (sym (entry-sought d d' old mid w r l None before mids Frame h s k (blank-steady (is_spared (sparing w l None)) (entry l k) blank))) blank

  mapped_now : IsMapped mid k
  mapped_now = mapped-sought d d' old mid w r l None before mids Frame h s k mapped

  stands : KeepsBetween d' with_area w1 (prepare_page k.0 k.1 r1) l1
  stands = prepared d' mid w1 r1 l1 s.done.between spaces anons k.0 k.1 changed made
      (lives-sought d d' old mid w r l None before mids Frame h s k mapped)

  -- the frames that are free are there still
  pub free-taken : HasFree with_area
  free-taken = let free = free-sought d d' old mid w r l None before mids Frame h s s.finds in
      record { some = free.some; unmapped = free.unmapped; lists = free.lists }

  there : entry (after_notes l (s.added ++ note ∷ [])) k ≡ Some (InFrame f false)
  there = ap (λ x. entry x k) (after_notes-append l s.added (note ∷ []))
      ∙ subst (λ page. entry (after_note note (after_notes l s.added)) (k.0, page) ≡ Some (InFrame f false)) (page-back k.1)
      (new-there k.0 (address_of k.1) f (after_notes l s.added))

  module _ (home : Option (ℕ × ℕ)) (at : home ≡ home_of k.1 (pages_of spaces.processes k.0 k.1))
      (taken : IsTaken with_area new f (λ left. view_seen k.0 k.1 f true (view_new k.0 k.1 f true left (λ i. 0) home (view with_area))))
      (parts : KeepsBut (locks_more with_area k f (locks_of with_area)) with_area new) where
    first_now : IsFirst (setting_by d' mid) l1 f taken.left
    first_now = first-is (setting_by d' mid) l1 f taken.left (subst (ListsFree (setting_by d' mid) l1) taken.first s.done.between.serves.free.frames)

    free : is_free (after_notes l s.added) f ≡ true
    free = ap (λ x. is_free x f) (sym (note_events-all l s.added)) ∙ first_now.free

    takes : TakesFor m (sparing w l None) l (s.added ++ note ∷ []) (New k.0 (address_of k.1))
    takes = record {
      sought = s.added;
      frame = f;
      seeks = s.seeks;
      in_range = subst (λ n. f < n) s.done.count first_now.below;
      free = free;
      whole = refl;
    }

    undropped : drop_at m true false (after_notes l (s.added ++ note ∷ [])) k ≡ []
    undropped =
        let l2 = after_notes l (s.added ++ note ∷ []) in
        ap (drop_of_entry m true false l2) there ∙ ap (drop_of_slot m true false l2)
        (ap (λ x. slot_of x f) (after_notes-append l s.added (note ∷ [])) ∙ unslotted (after_notes l s.added) f free)

    at_key : (k.0 == k.0 && k.1 == k.1) ≡ true
    at_key = λ i. same-itself k.0 i && same-itself k.1 i

    pub new-made : now ≡ mids ++ note ∷ [] → HasMade d d' old new w r l true false k before now (Ready f)
    new-made notes = taken-made d d' old mid new w r l None before mids now k f note false h s
        (new-done-at d' mid new spaces anons w1 r1 l1 k.0 f taken.left taken.first k.1 parts stands blank_now
        (prepared-owns d' mid w1 r1 l1 s.done.between spaces anons k.0 k.1 changed made
        (lives-sought d d' old mid w r l None before mids Frame h s k mapped) mapped_now.area)
        (mapped-is d' mid w1 r1 l1 s.done.between k mapped_now.area)
        (taken.view ∙ ap (λ x. view_seen k.0 k.1 f true (view_new k.0 k.1 f true taken.left (λ i. 0) x (view with_area)))
        (at ∙ ap (home_of k.1) (stands.serves.are k.0 k.1))))
        notes refl
        (subst (λ n. IsMade m (sparing w) l k n (s.added ++ note ∷ [])) (sym (blank-needs l (entry l k) blank)) takes)
        undropped
        (ap (λ (v : View). v.table k.0 k.1) taken.view
        ∙ ap (λ b. cond b (Some (record { entry = InFrame f true; write = true }))
        (cond b (Some (record { entry = InFrame f false; write = true })) ((view mid).table k.0 k.1))) at_key)
