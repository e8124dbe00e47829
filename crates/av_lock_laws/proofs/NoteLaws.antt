-- No note of a pass or a reclaim changes which frames some pages have, where an unmap is of another frame.
use Rattle.std.proofs.Common.{Bool, List, None, Option, Some, [], ap, cond, false, filter, map, refl, sym, true, ℕ, ◌==◌, ◌||◌, ◌∙◌, ◌∷◌, ◌≡◌}
use Rattle.std.specs.List.{list_any}
use Rattle.av_base.specs.Keys.{Key}
use Rattle.av_base.specs.declared.slot.Slot.{Slot}
use Rattle.av_trace.specs.declared.note.Cause.{Cause}
use Rattle.av_trace.specs.declared.note.Cause.TheVariants.{Ksm, Locked, NoSlot, Referenced, WriteStarted, Writeback}
use Rattle.av_trace.specs.declared.note.Note.TheVariants.{Aged, Dropped, Kept, Put, Started, Unmapped}
use Rattle.av_plain.specs.Event.{after_note, change_entries, if_some, off_cache, without_seen}
use Rattle.av_plain.specs.Ledger.{Entry, InFrame, InSlot, Ledger, Zero, frame_at, names_frame, slot_of}
use Rattle.av_plain.specs.Pass.{end_note}
use Rattle.av_plain.proofs.Sound.Steps.{alike-end_note, alike-started, settle-entries}
use Rattle.av_lock_laws.specs.Locks.{has_page}

-- whether a page with an entry of the frame passes the test
abbrev has_entry : (Key → Bool) → ℕ → List (Key × Entry) → Bool
has_entry test g es = list_any test (map (λ (e : Key × Entry). e.0) (filter (λ (e : Key × Entry). names_frame g e.1) es))

-- each entry that names the frame becomes what is said
abbrev changed : ℕ → (Entry → Entry) → List (Key × Entry) → List (Key × Entry)
changed f change es = map (λ (e : Key × Entry). (e.0, cond (names_frame f e.1) (change e.1) e.1)) es

-- one more entry
abbrev one_more : (Key → Bool) → Bool → Key → Bool → Bool
one_more test names k rest = cond names (test k || rest) rest

more-entries : (test : Key → Bool) (g : ℕ) (e : Key × Entry) (es : List (Key × Entry)) → has_entry test g (e ∷ es) ≡
    one_more test (names_frame g e.1) e.0 (has_entry test g es)
more-entries test g e es = by (names_frame g e.1)
  where
    by : (b : Bool) → list_any test
        (map (λ (e : Key × Entry). e.0) (cond b (e ∷ filter (λ (e : Key × Entry). names_frame g e.1) es) (filter (λ (e : Key × Entry). names_frame g e.1) es))) ≡
        one_more test b e.0 (has_entry test g es)
    by true = refl
    by false = refl

-- ---- seen bits

unseen-names : (f g : ℕ) (e : Entry) → names_frame g (cond (names_frame f e) (without_seen e) e) ≡ names_frame g e
unseen-names f g Zero = refl
unseen-names f g (InSlot s) = refl
unseen-names f g (InFrame h seen) = by (f == h)
  where
    by : (b : Bool) → names_frame g (cond b (InFrame h false) (InFrame h seen)) ≡ (g == h)
    by true = refl
    by false = refl

unseen-entries : (test : Key → Bool) (f g : ℕ) (es : List (Key × Entry)) → has_entry test g (changed f without_seen es) ≡ has_entry test g es
unseen-entries test f g [] = refl
unseen-entries test f g (e ∷ es) = more-entries test g (e.0, cond (names_frame f e.1) (without_seen e.1) e.1) (changed f without_seen es)
    ∙ (λ i. one_more test (unseen-names f g e.1 i) e.0 (unseen-entries test f g es i)) ∙ sym (more-entries test g e es)

-- ---- an unmap

-- an entry that becomes a slot was of a page that doesn't pass the test, if it was the frame's
slot-more : (test : Key → Bool) (f g : ℕ) (s : Slot) (k : Key) (e : Entry) (rest : Bool) →
    (names_frame f e ≡ true → test k ≡ false) →
    one_more test (names_frame g (cond (names_frame f e) (InSlot s) e)) k rest ≡ one_more test (names_frame g e) k rest
slot-more test f g s k Zero rest other = refl
slot-more test f g s k (InSlot t) rest other = refl
slot-more test f g s k (InFrame h seen) rest other = by (f == h) refl
  where
    here : (b : Bool) → test k ≡ false → rest ≡ cond b (test k || rest) rest
    here true other = ap (λ x. x || rest) (sym other)
    here false other = refl

    by : (b : Bool) → (f == h) ≡ b → one_more test (names_frame g (cond b (InSlot s) (InFrame h seen))) k rest ≡ one_more test (g == h) k rest
    by true is = here (g == h) (other is)
    by false is = refl

unmapped-entries : (test : Key → Bool) (f g : ℕ) (s : Slot) (es : List (Key × Entry)) → has_entry test f es ≡ false →
    has_entry test g (changed f (λ _. InSlot s) es) ≡ has_entry test g es
unmapped-entries test f g s [] other = refl
unmapped-entries test f g s (e ∷ es) other =
    let both = sym (more-entries test f e es) ∙ other in
    more-entries test g (e.0, cond (names_frame f e.1) (InSlot s) e.1) (changed f (λ _. InSlot s) es)
    ∙ ap (one_more test (names_frame g (cond (names_frame f e.1) (InSlot s) e.1)) e.0)
    (unmapped-entries test f g s es (rest (names_frame f e.1) (test e.0) both))
    ∙ slot-more test f g s e.0 e.1 (has_entry test g es) (λ is. first (names_frame f e.1) (test e.0) is both)
    ∙ sym (more-entries test g e es)
  where
    rest : (b c : Bool) → cond b (c || has_entry test f es) (has_entry test f es) ≡ false → has_entry test f es ≡ false
    rest true true h = cc
    rest true false h = h
    rest false c h = h

    first : (b c : Bool) → b ≡ true → cond b (c || has_entry test f es) (has_entry test f es) ≡ false → c ≡ false
    first true true is h = cc
    first true false is h = refl
    first false c is h = cc

-- ---- the notes

-- the same entries
by-entries : (test : Key → Bool) (l l' : Ledger) → l'.entries ≡ l.entries → has_page test l' ≡ has_page test l
by-entries test l l' same = λ i g. has_entry test g (same i)

pub has_page-put : (test : Key → Bool) (l : Ledger) (f : ℕ) (s : Slot) → has_page test (after_note (Put f s) l) ≡ has_page test l
has_page-put test l f s = refl

pub has_page-unmap : (test : Key → Bool) (l : Ledger) (f : ℕ) → has_page test l f ≡ false → has_page test (after_note (Unmapped f) l) ≡ has_page test l
has_page-unmap test l f other = by (slot_of l f)
  where
    by : (o : Option Slot) → has_page test (if_some o (λ s. change_entries f (λ _. InSlot s)) l) ≡ has_page test l
    by None = refl
    by (Some s) = λ i g. unmapped-entries test f g s l.entries other i

pub has_page-start : (test : Key → Bool) (l : Ledger) (s : Slot) → has_page test (after_note (Started s) l) ≡ has_page test l
has_page-start test l s = by-entries test l (after_note (Started s) l) (alike-started l s).entries

pub has_page-end : (test : Key → Bool) (l : Ledger) (failed : Bool) (s : Slot) → has_page test (after_note (end_note failed s) l) ≡ has_page test l
has_page-end test l failed s = by-entries test l (after_note (end_note failed s) l) (alike-end_note l failed s).entries

pub has_page-drop : (test : Key → Bool) (l : Ledger) (s : Slot) → has_page test (after_note (Dropped s) l) ≡ has_page test l
has_page-drop test l s = by-entries test l (after_note (Dropped s) l) (settle-entries (frame_at l s) (off_cache s l))

pub has_page-keep : (test : Key → Bool) (l : Ledger) (f : ℕ) (cause : Cause) → has_page test (after_note (Kept f cause) l) ≡ has_page test l
has_page-keep test l f Writeback = refl
has_page-keep test l f WriteStarted = refl
has_page-keep test l f Referenced = λ i g. unseen-entries test f g l.entries i
has_page-keep test l f NoSlot = refl
has_page-keep test l f Locked = refl
has_page-keep test l f Ksm = refl

pub has_page-age : (test : Key → Bool) (l : Ledger) (f : ℕ) → has_page test (after_note (Aged f) l) ≡ has_page test l
has_page-age test l f = λ i g. unseen-entries test f g l.entries i
