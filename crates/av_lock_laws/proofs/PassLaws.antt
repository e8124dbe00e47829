-- No direct pass changes which frames some pages have, where it spares these frames.
use Rattle.std.proofs.Common.{◌≡◌, ℕ, Bool, true, false, not, ◌||◌, ◌==◌, cond, List, [], ◌∷◌, ◌++◌, refl, sym, ap, subst, ◌∙◌}
use Rattle.std.specs.List.{AllByRecursion}
use Rattle.std.specs.Prelude.{MatchBool, ◌&&◌, filter, reverse, is_none, if◌then◌else◌}
use Rattle.av_base.specs.Keys.{Key}
use Rattle.av_base.specs.declared.slot.Slot.{Slot}
use Rattle.av_trace.specs.declared.note.Note.{Note}
use Rattle.av_trace.specs.declared.note.Note.TheVariants.{Dropped, Put, Started, Unmapped}
use Rattle.av_plain.specs.Event.{after_note, after_notes, when}
use Rattle.av_plain.specs.Ledger.{Ledger, Setting, has_free, is_merged, is_orphan, map_count, slot_of}
use Rattle.av_plain.specs.Pass.{Completes, IsPass, IsSlotFor, Seeks, Spared, Turns, end_note, end_notes, frames_in_turn, has_turn}
use Rattle.av_plain.specs.Pass.{is_dirty, is_pinned, is_stuck, stays_cached, turn_notes, unmap_notes}
use Rattle.av_plain.proofs.Access.{after_notes-append}
use Rattle.av_lock_laws.specs.Locks.{has_page}
use Rattle.av_lock_laws.proofs.NoteLaws.{has_page-drop, has_page-end, has_page-put, has_page-start, has_page-unmap}

-- notes, and then others
pub has_page-both : (test : Key → Bool) (l : Ledger) (a b : List Note) → has_page test (after_notes l a) ≡ has_page test l
    → has_page test (after_notes (after_notes l a) b) ≡ has_page test (after_notes l a)
    → has_page test (after_notes l (a ++ b)) ≡ has_page test l
has_page-both test l a b first second = ap (has_page test) (after_notes-append l a b) ∙ second ∙ first

-- a drop, if there is one
has_page-drop-when : (test : Key → Bool) (l : Ledger) (due : Bool) (s : Slot) → has_page test (after_notes l (when due (Dropped s))) ≡ has_page test l
has_page-drop-when test l true s = has_page-drop test l s
has_page-drop-when test l false s = refl

-- ---- writes in flight

has_page-ends : (test : Key → Bool) (l : Ledger) (s : Slot) (failed : Bool) → has_page test (after_notes l (end_notes l s failed)) ≡ has_page test l
has_page-ends test l s failed =
    let l1 = after_note (end_note failed s) l in
    has_page-drop-when test l1 (is_orphan l1 s) s ∙ has_page-end test l failed s

pub has_page-completes : (test : Key → Bool) (l : Ledger) (slots : List Slot) (notes : List Note) → Completes l slots notes
    → has_page test (after_notes l notes) ≡ has_page test l
has_page-completes test l [] notes h = ap (λ ns. has_page test (after_notes l ns)) h
has_page-completes test l (s ∷ slots) notes h =
    ap (λ ns. has_page test (after_notes l ns)) h.2
    ∙ has_page-both test l (end_notes l s h.0) h.1 (has_page-ends test l s h.0)
    (has_page-completes test (after_notes l (end_notes l s h.0)) slots h.1 h.3)

-- ---- a frame goes to its slot

pub has_page-unmap_notes : (test : Key → Bool) (l : Ledger) (f : ℕ) (s : Slot) → has_page test l f ≡ false
    → has_page test (after_notes l (unmap_notes l f s)) ≡ has_page test l
has_page-unmap_notes test l f s other = by (is_none (slot_of l f)) (not (map_count l f == 0))
  where
    by : (put unmapped : Bool) → has_page test (after_notes l (when put (Put f s) ++ when unmapped (Unmapped f))) ≡ has_page test l
    by false false = refl
    by true false = has_page-put test l f s
    by false true = has_page-unmap test l f other
    by true true = has_page-unmap test (after_note (Put f s) l) f other

-- a write that begins and ends at once
pub has_page-write : (test : Key → Bool) (l : Ledger) (s : Slot) (failed : Bool)
    → has_page test (after_notes l (Started s ∷ end_note failed s ∷ [])) ≡ has_page test l
has_page-write test l s failed = has_page-end test (after_note (Started s) l) failed s ∙ has_page-start test l s

has_page-turn : (test : Key → Bool) (l : Ledger) (f : ℕ) (s : Slot) (failed : Bool) → has_page test l f ≡ false
    → has_page test (after_notes l (turn_notes l f s failed)) ≡ has_page test l
has_page-turn test l f s failed other =
    let un = unmap_notes l f s in
    has_page-both test l un (if is_dirty l f s then Started s ∷ end_note failed s ∷ [] else []) (has_page-unmap_notes test l f s other)
    (by (after_notes l un) (is_dirty l f s))
  where
    by : (l1 : Ledger) (dirty : Bool) → has_page test (after_notes l1 (if dirty then Started s ∷ end_note failed s ∷ [] else [])) ≡ has_page test l1
    by l1 true = has_page-write test l1 s failed
    by l1 false = refl

-- ---- the frames in turn

-- none of these frames has such a page
abbrev pub HaveNone : (Key → Bool) → Ledger → List ℕ → Type 0
HaveNone test l fs = AllByRecursion (λ f. has_page test l f ≡ false) fs

pub has_page-turns : (test : Key → Bool) (m : Setting) (sp : Spared) (l : Ledger) (fs : List ℕ) (notes : List Note) → HaveNone test l fs
    → Turns m sp l fs notes → has_page test (after_notes l notes) ≡ has_page test l
has_page-turns test m sp l [] notes none h = ap (λ ns. has_page test (after_notes l ns)) h
has_page-turns test m sp l (f ∷ fs) notes none h = by (λ l1 ns. has_page-turns test m sp l1 fs ns) (is_stuck m sp l f) h
  where
    Rest : Type 0
    Rest = (l1 : Ledger) (ns : List Note) → HaveNone test l1 fs → Turns m sp l1 fs ns → has_page test (after_notes l1 ns) ≡ has_page test l1

    past : Rest → (s : Slot) (failed stays : Bool) → MatchBool stays
        ((rest : List Note) × (notes ≡ turn_notes l f s failed ++ rest) × Turns m sp (after_notes l (turn_notes l f s failed)) fs rest)
        (notes ≡ turn_notes l f s failed ++ Dropped s ∷ []) → has_page test (after_notes l notes) ≡ has_page test l
    past later s failed true t =
        let turned = has_page-turn test l f s failed none.0 in
        ap (λ ns. has_page test (after_notes l ns)) t.1
        ∙ has_page-both test l (turn_notes l f s failed) t.0 turned
        (later (after_notes l (turn_notes l f s failed)) t.0
        (subst (λ has. AllByRecursion (λ g. has g ≡ false) fs) (sym turned) none.1) t.2)
    past later s failed false t =
        ap (λ ns. has_page test (after_notes l ns)) t
        ∙ has_page-both test l (turn_notes l f s failed) (Dropped s ∷ []) (has_page-turn test l f s failed none.0)
        (has_page-drop test (after_notes l (turn_notes l f s failed)) s)

    by : Rest → (stuck : Bool) → MatchBool stuck (Turns m sp l fs notes) ((s : Slot) × (failed : Bool) × IsSlotFor m sp l f s
        × MatchBool (stays_cached l f s failed)
        ((rest : List Note) × (notes ≡ turn_notes l f s failed ++ rest) × Turns m sp (after_notes l (turn_notes l f s failed)) fs rest)
        (notes ≡ turn_notes l f s failed ++ Dropped s ∷ [])) → has_page test (after_notes l notes) ≡ has_page test l
    by later true t = later l notes none.1 t
    by later false t = past later t.0 t.1 (stays_cached l f t.0 t.1) t.3

-- a frame that has a turn isn't spared
pub turn-unlocked : (sp : Spared) (l : Ledger) (f : ℕ) → has_turn sp l f ≡ true → sp.locked f ≡ false
turn-unlocked sp l f turn = by (is_pinned sp.pinned f) (sp.locked f) (is_merged l f) turn
  where
    by : (pinned locked merged : Bool) → (not (pinned || locked) && not merged) ≡ true → locked ≡ false
    by p false m h = refl
    by true true m h = cc
    by false true m h = cc

turning-none : (test : Key → Bool) (sp : Spared) (l : Ledger) (fs : List ℕ) → sp.locked ≡ has_page test l
    → HaveNone test l (filter (has_turn sp l) fs)
turning-none test sp l [] same = tt
turning-none test sp l (f ∷ fs) same = by (turning-none test sp l fs same) (has_turn sp l f) refl
  where
    by : HaveNone test l (filter (has_turn sp l) fs) → (b : Bool) → has_turn sp l f ≡ b
        → HaveNone test l (cond b (f ∷ filter (has_turn sp l) fs) (filter (has_turn sp l) fs))
    by later true turn = ((λ i. sym same i f) ∙ turn-unlocked sp l f turn, later)
    by later false turn = later

pub in_turn-none : (test : Key → Bool) (sp : Spared) (l : Ledger) → sp.locked ≡ has_page test l → HaveNone test l (frames_in_turn sp l)
in_turn-none test sp l same = turning-none test sp l (reverse l.inactive ++ reverse l.active) same

-- ---- the pass

pub has_page-pass : (test : Key → Bool) (m : Setting) (sp : Spared) (l : Ledger) (notes : List Note) → sp.locked ≡ has_page test l
    → IsPass m sp l notes → has_page test (after_notes l notes) ≡ has_page test l
has_page-pass test m sp l notes same h =
    let now = after_notes l h.0 in
    let done = has_page-completes test l l.flight h.0 h.3 in
    ap (λ ns. has_page test (after_notes l ns)) h.2
    ∙ has_page-both test l h.0 h.1 done (by now (same ∙ sym done) h.1 (has_free m now) h.4)
  where
    by : (now : Ledger) → sp.locked ≡ has_page test now → (turns : List Note) (free : Bool)
        → MatchBool free (turns ≡ []) (Turns m sp now (frames_in_turn sp now) turns)
        → has_page test (after_notes now turns) ≡ has_page test now
    by now same turns true t = ap (λ ns. has_page test (after_notes now ns)) t
    by now same turns false t = has_page-turns test m sp now (frames_in_turn sp now) turns (in_turn-none test sp now same) t

pub has_page-seeks : (test : Key → Bool) (m : Setting) (sp : Spared) (l : Ledger) (notes : List Note) → sp.locked ≡ has_page test l
    → Seeks m sp l notes → has_page test (after_notes l notes) ≡ has_page test l
has_page-seeks test m sp l notes same h = by (has_free m l) h
  where
    by : (free : Bool) → MatchBool free (notes ≡ []) (IsPass m sp l notes) → has_page test (after_notes l notes) ≡ has_page test l
    by true h = ap (λ ns. has_page test (after_notes l ns)) h
    by false h = has_page-pass test m sp l notes same h
