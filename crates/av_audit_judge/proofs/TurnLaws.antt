-- The frames in turn, one after the other: what is asked of a frame when it is come to is what was asked at the start.
use Rattle.std.proofs.Common.{◌≡◌, ℕ, zero, suc, ◌+◌, ◌-◌, ◌<◌, add-one, drop, reverse, length, arith, Bool, true, false, not, cond, ◌==◌, Option, Some, None, is_none, List, [], ◌∷◌, ◌++◌}
use Rattle.std.proofs.Common.{refl, sym, ap, subst, ◌∙◌, append-nil}
use Rattle.std.specs.Prelude.{◌&&◌, ◌||◌, filter}
use Rattle.std.specs.List.{slice_get}
use Rattle.std.proofs.lemmas.Option.{slice_get_within}
use Rattle.av_base.specs.Words.{is_in}
use Rattle.av_base.specs.declared.slot.Slot.{Slot}
use Rattle.av_trace.specs.declared.note.Note.{Note}
use Rattle.av_trace.specs.declared.note.Note.TheVariants.{Failed, Put, Started, Unmapped}
use Rattle.av_plain.specs.Event.{after_note, after_notes, change_entries, if_some, when}
use Rattle.av_plain.specs.Ledger.{InSlot, Ledger, Setting, map_count, slot_of}
use Rattle.av_plain.specs.Pass.{Spared as PlainSpared, Turns, has_turn, is_dirty, is_pinned, is_stuck, unmap_notes}
use Rattle.av_audit_world.specs.Locks.{locks_page}
use Rattle.av_lock_laws.proofs.PassLaws.{has_page-both, has_page-unmap_notes, has_page-write, turn-unlocked}
use Rattle.av_audit_book.specs.Spared.{frames_by_turn, is_locked_by, spared_of}
use Rattle.av_audit_book.specs.declared.spared.Spared.{Spared}
use Rattle.av_audit_judge.specs.Finds.{Gets, Reads}
use Rattle.av_audit_judge.specs.Pass.{IsTurn, IsTurnEnd, can_go}
use Rattle.av_audit_judge.proofs.PassLaws.{turns-freed, turns-kept, turns-not, turns-over, turns-past}

-- ---- what is asked of frames stays the same while none becomes free

-- what no put, unmapping or write that fails changes
abbrev AreSame : Ledger → Ledger → Type 0
AreSame l l' = (l'.active ≡ l.active) × (l'.inactive ≡ l.inactive) × (l'.merged ≡ l.merged)

unmapped-same : (l : Ledger) (f : ℕ) → AreSame l (after_notes l (Unmapped f ∷ []))
unmapped-same l f = by (slot_of l f)
  where
    by : (o : Option Slot) → AreSame l (if_some o (λ s. change_entries f (λ _. InSlot s)) l)
    by None = (refl, refl, refl)
    by (Some s) = (refl, refl, refl)

turn-same : (l : Ledger) (f : ℕ) (s : Slot) (put unmapped : Bool)
    → AreSame l (after_notes l ((when put (Put f s) ++ when unmapped (Unmapped f)) ++ (Started s ∷ Failed s ∷ [])))
turn-same l f s false false = (refl, refl, refl)
turn-same l f s true false = (refl, refl, refl)
turn-same l f s false true = unmapped-same l f
turn-same l f s true true = unmapped-same (after_note (Put f s) l) f

write-failed : (s : Slot) (dirty : Bool) (ended : List Note) → IsTurnEnd s dirty true ended → ended ≡ Started s ∷ Failed s ∷ []
write-failed s true ended h = h.2 ∙ append-nil h.0 ∙ h.1
write-failed s false ended h = absurd (differ h.1.0)
  where
    differ : true ≡ false → ⊥
    differ e = cc

-- the order of turns, and what says which frames have one
pub record SameTurns (s : Spared) (l l' : Ledger) : Type 0 where
  pub order : frames_by_turn l' ≡ frames_by_turn l
  pub merged : l'.merged ≡ l.merged
  pub locked : is_locked_by s.memories.now l' ≡ is_locked_by s.memories.now l

pub turns-then : (s : Spared) (l l1 l2 : Ledger) → SameTurns s l l1 → SameTurns s l1 l2 → SameTurns s l l2
turns-then s l l1 l2 first second =
    record { order = second.order ∙ first.order; merged = second.merged ∙ first.merged; locked = second.locked ∙ first.locked }

-- so the same frames have a turn
due-same : (s : Spared) (l l' : Ledger) (f : ℕ) → SameTurns s l l' → has_turn (spared_of s l') l' f ≡ has_turn (spared_of s l) l f
due-same s l l' f same = λ i. not (is_pinned s.pinned f || same.locked i f) && not (is_in f (same.merged i))

goes-free : (stuck due : Bool) → (not stuck && due) ≡ true → stuck ≡ false
goes-free false due h = refl
goes-free true due h = cc

goes-due : (stuck due : Bool) → (not stuck && due) ≡ true → due ≡ true
goes-due false due h = h
goes-due true due h = cc

-- a frame stays cached after its turn
pub turn-stays : (m : Setting) (s : Spared) (l l' : Ledger) (f : ℕ) (bytes rest : List ℕ) → can_go m (spared_of s l) l f ≡ true
    → Gets (IsTurn m (spared_of s l) l f) l bytes (Some true) l' rest → SameTurns s l l'
turn-stays m s l l' f bytes rest goes h =
    let sp = spared_of s l in
    let t = h.lawful in
    let test = locks_page s.memories.now in
    let un = unmap_notes l f t.0 in
    let after : l' ≡ after_notes l (un ++ (Started t.0 ∷ Failed t.0 ∷ [])) =
    h.after ∙ ap (after_notes l) (t.4 ∙ ap (λ e. un ++ e) (write-failed t.0 (is_dirty l f t.0) t.1 t.3)) in
    let same = subst (AreSame l) (sym after) (turn-same l f t.0 (is_none (slot_of l f)) (not (map_count l f == 0))) in
    let unlocked = turn-unlocked sp l f (goes-due (is_stuck m sp l f) (has_turn sp l f) goes) in
    record {
      order = λ i. reverse (same.1 i) ++ reverse (same.0 i);
      merged = same.2;
      locked = ap (is_locked_by s.memories.now) after
          ∙ has_page-both test l un (Started t.0 ∷ Failed t.0 ∷ []) (has_page-unmap_notes test l f t.0 unlocked)
          (has_page-write test (after_notes l un) t.0 true);
    }

-- ---- a frame by its place

get-next : (fs : List ℕ) (i f : ℕ) → slice_get fs i ≡ Some f → drop i fs ≡ f ∷ drop (i + 1) fs
get-next fs i f e = by fs i e ∙ ap (λ n. f ∷ drop n fs) (sym (add-one i))
  where
    by : (fs : List ℕ) (i : ℕ) → slice_get fs i ≡ Some f → drop i fs ≡ f ∷ drop (suc i) fs
    by [] i e = cc
    by (g ∷ fs) zero e = ap (λ x. x ∷ fs) (inner e)
      where
        inner : Some g ≡ Some f → g ≡ f
        inner e = cc
    by (g ∷ fs) (suc i) e = by fs i e

-- the measure of a walk over frames
pub get-less : (fs fs' : List ℕ) (i f : ℕ) → slice_get fs i ≡ Some f → fs' ≡ fs → length fs' - (i + 1) < length fs - i
get-less fs fs' i f e same =
    let within = slice_get_within fs i f e in
    let size = ap length same in
    omega (arith, within, size)

get-none : (fs : List ℕ) (i : ℕ) → slice_get fs i ≡ None → drop i fs ≡ []
get-none [] zero e = refl
get-none [] (suc i) e = refl
get-none (g ∷ fs) zero e = cc
get-none (g ∷ fs) (suc i) e = get-none fs i e

-- ---- the turns that are left

-- of a pass that began with the first ledger, and has come to the second and this place
abbrev pub AreLeft : Setting → Spared → Ledger → Ledger → ℕ → List Note → Type 0
AreLeft m s l0 l i ns = Turns m (spared_of s l0) l (filter (has_turn (spared_of s l0) l0) (drop i (frames_by_turn l))) ns

-- a frame that goes is the next of those that have a turn
left-next : (m : Setting) (s : Spared) (l0 l : Ledger) (i f : ℕ) → SameTurns s l0 l → slice_get (frames_by_turn l) i ≡ Some f
    → can_go m (spared_of s l) l f ≡ true
    → f ∷ filter (has_turn (spared_of s l0) l0) (drop (i + 1) (frames_by_turn l)) ≡ filter (has_turn (spared_of s l0) l0) (drop i (frames_by_turn l))
left-next m s l0 l i f same at goes =
    let due = has_turn (spared_of s l0) l0 in
    let others = drop (i + 1) (frames_by_turn l) in
    let is : due f ≡ true = sym (due-same s l0 l f same) ∙ goes-due (is_stuck m (spared_of s l) l f) (has_turn (spared_of s l) l f) goes in
    ap (λ b. cond b (f ∷ filter due others) (filter due others)) (sym is) ∙ ap (filter due) (sym (get-next (frames_by_turn l) i f at))

pub left-not : (m : Setting) (s : Spared) (l0 l l1 l' : Ledger) (i f : ℕ) (bytes mid rest : List ℕ) → SameTurns s l0 l
    → slice_get (frames_by_turn l) i ≡ Some f → can_go m (spared_of s l) l f ≡ true → Gets (IsTurn m (spared_of s l) l f) l bytes None l1 mid
    → Reads (AreLeft m s l0 l i) l bytes false l' rest
left-not m s l0 l l1 l' i f bytes mid rest same at goes none =
    subst (λ fs. Reads (Turns m (spared_of s l0) l fs) l bytes false l' rest) (left-next m s l0 l i f same at goes)
    (turns-not m (spared_of s l0) l l1 l' bytes mid rest f _ (goes-free (is_stuck m (spared_of s l) l f) (has_turn (spared_of s l) l f) goes) none)

pub left-freed : (m : Setting) (s : Spared) (l0 l l1 : Ledger) (i f : ℕ) (bytes mid : List ℕ) → SameTurns s l0 l
    → slice_get (frames_by_turn l) i ≡ Some f → can_go m (spared_of s l) l f ≡ true → Gets (IsTurn m (spared_of s l) l f) l bytes (Some false) l1 mid
    → Reads (AreLeft m s l0 l i) l bytes true l1 mid
left-freed m s l0 l l1 i f bytes mid same at goes first =
    subst (λ fs. Reads (Turns m (spared_of s l0) l fs) l bytes true l1 mid) (left-next m s l0 l i f same at goes)
    (turns-freed m (spared_of s l0) l l1 bytes mid f _ (goes-free (is_stuck m (spared_of s l) l f) (has_turn (spared_of s l) l f) goes) first)

pub left-kept : (m : Setting) (s : Spared) (l0 l l1 l' : Ledger) (i f : ℕ) (bytes mid rest : List ℕ) (read : Bool) → SameTurns s l0 l
    → slice_get (frames_by_turn l) i ≡ Some f → can_go m (spared_of s l) l f ≡ true → Gets (IsTurn m (spared_of s l) l f) l bytes (Some true) l1 mid
    → Reads (AreLeft m s l0 l1 (i + 1)) l1 mid read l' rest → Reads (AreLeft m s l0 l i) l bytes read l' rest
left-kept m s l0 l l1 l' i f bytes mid rest read same at goes first later =
    let due = has_turn (spared_of s l0) l0 in
    let order = (turn-stays m s l l1 f bytes mid goes first).order in
    subst (λ fs. Reads (Turns m (spared_of s l0) l fs) l bytes read l' rest) (left-next m s l0 l i f same at goes)
    (turns-kept m (spared_of s l0) l l1 l' bytes mid rest read f _ (goes-free (is_stuck m (spared_of s l) l f) (has_turn (spared_of s l) l f) goes) first
    (subst (λ fs. Reads (Turns m (spared_of s l0) l1 (filter due (drop (i + 1) fs))) l1 mid read l' rest) order later))

-- a frame that has no turn or can't go
pub left-past : (m : Setting) (s : Spared) (l0 l l' : Ledger) (i f : ℕ) (bytes rest : List ℕ) (read : Bool) → SameTurns s l0 l
    → slice_get (frames_by_turn l) i ≡ Some f → can_go m (spared_of s l) l f ≡ false
    → Reads (AreLeft m s l0 l (i + 1)) l bytes read l' rest → Reads (AreLeft m s l0 l i) l bytes read l' rest
left-past m s l0 l l' i f bytes rest read same at stays later =
    subst (λ fs. Reads (Turns m (spared_of s l0) l (filter due fs)) l bytes read l' rest) (sym (get-next (frames_by_turn l) i f at))
    (by (due f) (ap (λ b. not (is_stuck m (spared_of s l) l f) && b) (sym (due-same s l0 l f same)) ∙ stays))
  where
    due : ℕ → Bool
    due = has_turn (spared_of s l0) l0

    others : List ℕ
    others = filter due (drop (i + 1) (frames_by_turn l))

    stuck : (b : Bool) → (not b && true) ≡ false → b ≡ true
    stuck true h = refl
    stuck false h = cc

    by : (b : Bool) → (not (is_stuck m (spared_of s l) l f) && b) ≡ false
        → Reads (Turns m (spared_of s l0) l (cond b (f ∷ others) others)) l bytes read l' rest
    by true h = turns-past m (spared_of s l0) l l' bytes rest read f others (stuck (is_stuck m (spared_of s l) l f) h) later
    by false h = later

pub left-over : (m : Setting) (s : Spared) (l0 l : Ledger) (i : ℕ) (bytes : List ℕ) → slice_get (frames_by_turn l) i ≡ None
    → Reads (AreLeft m s l0 l i) l bytes true l bytes
left-over m s l0 l i bytes none =
    turns-over m (spared_of s l0) l bytes _ (ap (filter (has_turn (spared_of s l0) l0)) (get-none (frames_by_turn l) i none))

-- where none can go
pub turns-none : (m : Setting) (sp : PlainSpared) (l : Ledger) (bytes : List ℕ) (fs : List ℕ) → ((f : ℕ) → is_stuck m sp l f ≡ true)
    → Reads (Turns m sp l fs) l bytes true l bytes
turns-none m sp l bytes [] stuck = turns-over m sp l bytes [] refl
turns-none m sp l bytes (f ∷ fs) stuck = turns-past m sp l l bytes bytes true f fs (stuck f) (turns-none m sp l bytes fs stuck)
