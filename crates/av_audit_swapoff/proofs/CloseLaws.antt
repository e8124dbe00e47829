-- The slots of an area are emptied in turn, up to an end.
use Rattle.std.proofs.Common.{◌≡◌, ◌⊎◌, inl, inr, ℕ, ◌<◌, Bool, true, false, cond, Option, Some, None, List, [], ◌∷◌, ◌++◌, ◌≤◌, length, refl, sym, ap, subst, ◌∙◌, arith, append_assoc}
use Rattle.std.specs.Prelude.{◌==◌}
use Rattle.std.proofs.lemmas.Bool.{eqb-true}
use Rattle.std.proofs.lemmas.List.{append_cancel_left}
use Rattle.av_base.specs.declared.slot.Slot.{Slot}
use Rattle.av_trace.specs.declared.note.Note.{Note}
use Rattle.av_trace.specs.declared.note.Note.TheVariants.{Dropped}
use Rattle.av_trace.specs.Note.{note_line}
use Rattle.av_trace.specs.Print.{notes_text}
use Rattle.av_plain.specs.Event.{after_notes}
use Rattle.av_plain.specs.Ledger.{Ledger, Setting, frame_at, has_free, keys_of_slot, slots_in_use}
use Rattle.av_plain.specs.Pass.{Completes, Seeks, Spared, out_of}
use Rattle.av_plain.specs.Swapoff.{Close, Closed, Empties as PlainEmpties, EndsAt, IsEmptied, NoRoom, Unread, end_at, map_notes, sparing_area}
use Rattle.av_plain.specs.World.{World}
use Rattle.av_audit_judge.specs.Finds.{Reads, Stand}
use Rattle.av_audit_judge.specs.Stage.{Meets}
use Rattle.av_audit_judge.proofs.Finds.{stand-none}
use Rattle.av_audit_judge.proofs.StageLaws.{InStages}
use Rattle.av_audit_laws.proofs.ToldPass.{completes-told}
use Rattle.av_audit_laws.proofs.ToldSwap.{emptied-told}
use Rattle.av_audit_swapoff.specs.Close.{AreEmptied, Closes, IsWhole}
use Rattle.av_audit_swapoff.specs.Empty.{Empties, IsStuck}
use Rattle.av_audit_swapoff.proofs.EmptyLaws.{stuck-apart}
use Rattle.av_audit_swapoff.proofs.StageLaws.{Never, whole-halt, whole-neither, whole-then}
use Rattle.av_audit_swapoff.proofs.UserLaws.{maps_notes}

abbrev slot_at : ℕ → ℕ → Slot
slot_at k page = record { area = k; page = page }

-- ---- the next slot can't be emptied

abbrev Halts : Setting → Spared → Ledger → Slot → Close → List Note → Type 0
Halts m sp l s end ns = (frame_at l s ≡ None) × Seeks m sp l ns × (end ≡ end_at m sp (after_notes l ns))

-- how it ends then, by whether a frame is free
abbrev pub close_by : Setting → Spared → Ledger → Bool → Close
close_by m sp l true = Unread
close_by m sp l false = NoRoom (out_of m sp l)

abbrev closing : Setting → Spared → Ledger → Option (Unit {0} ⊎ Bool) → Option (Unit {0} ⊎ Close)
closing m sp l None = None
closing m sp l (Some (inl u)) = Some (inl u)
closing m sp l (Some (inr free)) = Some (inr (close_by m sp l free))

to-close : (m : Setting) (sp : Spared) (l l' : Ledger) (s : Slot) (bytes rest : List ℕ) (found : Option (Unit {0} ⊎ Bool))
    → Meets (Empties m sp l s) (IsStuck m sp l s) l bytes found l' rest
    → Meets (Empties m sp l s) (Halts m sp l s) l bytes (closing m sp l' found) l' rest
to-close m sp l l' s bytes rest None h = record {
  goes = h.goes;
  stops = λ end ns g st. h.stops (has_free m (after_notes l ns)) ns (g.0, (g.1, refl)) st;
}
to-close m sp l l' s bytes rest (Some (inl u)) h = h
to-close m sp l l' s bytes rest (Some (inr free)) h = record {
  notes = h.notes;
  lawful = (h.lawful.0, h.lawful.1.0, ends free h.lawful.1.1);
  stand = h.stand;
  after = h.after;
}
  where
    ends : (free : Bool) → has_free m (after_notes l h.notes) ≡ free → close_by m sp l' free ≡ end_at m sp (after_notes l h.notes)
    ends true e = sym (ap (λ b. cond b Unread (NoRoom (out_of m sp (after_notes l h.notes)))) e)
    ends false e = ap (λ n. NoRoom (out_of m sp n)) h.after
        ∙ sym (ap (λ b. cond b Unread (NoRoom (out_of m sp (after_notes l h.notes)))) e)

-- ---- the slots in turn

abbrev Behind : Setting → World → ℕ → Ledger → Unit {0} → List Note → Close → List Note → Type 0
Behind m w k l u a end b = AreEmptied m w k (after_notes l a) end b

-- a slot that is emptied goes on behind a pass
emptied-apart : (m : Setting) (sp : Spared) (l : Ledger) (s : Slot) (a b v : List Note) → IsEmptied m sp l s a → frame_at l s ≡ None
    → Seeks m sp l b → a ++ v ≡ b → ⊥
emptied-apart m sp l s a b v h none seeks e =
    let mapped = map_notes (after_notes l h.fetched) s h.frame in
    stuck-apart m sp l s h.frame h.fetched b (mapped ++ v) h.fetches none seeks
    (sym (append_assoc h.fetched mapped v) ∙ (λ i. sym h.whole i ++ v) ∙ e)

slot-stages : (m : Setting) (w : World) (k : ℕ) (l : Ledger) (page : ℕ) (others : List ℕ) → slots_in_use m l k ≡ page ∷ others
    → InStages {Y = Unit {0}} Never (AreEmptied m w k l) (Empties m (sparing_area w k l) l (slot_at k page))
    (Halts m (sparing_area w k l) l (slot_at k page)) (λ x a. Never) (Behind m w k l)
slot-stages m w k l page others in_use = record {
  split = λ y ns h. absurd h;
  join = λ x y a b h g. absurd g;
  stop = λ end ns h. by end ns h.0 h.1;
  halt = λ end ns h. ([], subst (λ ps. EndsAt m (sparing_area w k l) k l ps ns end) (sym in_use) h);
  end = λ u end a b h g. (page ∷ g.0, (others, a, b, in_use, refl, h, g.1));
  told = λ x y a b u v h g e. (refl, emptied-told m (sparing_area w k l) l (slot_at k page) a b u v h g e);
  apart = λ u end a b v h g e. emptied-apart m (sparing_area w k l) l (slot_at k page) a b v h g.0 g.1 e;
}
  where
    first : {x y : ℕ} {xs ys : List ℕ} → x ∷ xs ≡ y ∷ ys → x ≡ y
    first e = cc

    by : (end : Close) (ns : List Note) (pages : List ℕ) → PlainEmpties m w k l pages ns end
        → Halts m (sparing_area w k l) l (slot_at k page) end ns
        ⊎ ((u : Unit {0}) × (a : List Note) × (b : List Note) × Empties m (sparing_area w k l) l (slot_at k page) u a
        × Behind m w k l u a end b × (ns ≡ a ++ b))
    by end ns [] h = inl (subst (λ ps. EndsAt m (sparing_area w k l) k l ps ns end) in_use h)
    by end ns (p ∷ ps) h = inr (
      tt,
      h.1,
      h.2,
      subst (λ p. IsEmptied m (sparing_area w k l) l (slot_at k p) h.1) (first (sym h.3 ∙ in_use)) h.5,
      (ps, h.6),
      h.4,
    )

module _ (m : Setting) (w : World) (k : ℕ) (l : Ledger) (page : ℕ) (others : List ℕ) (in_use : slots_in_use m l k ≡ page ∷ others)
    (s : Slot) (is : s ≡ slot_at k page) (bytes mid : List ℕ) where
  at : (found : Option (Unit {0} ⊎ Bool)) (l1 : Ledger)
      → Meets (Empties m (sparing_area w k l) l s) (IsStuck m (sparing_area w k l) l s) l bytes found l1 mid
      → Meets (Empties m (sparing_area w k l) l (slot_at k page)) (Halts m (sparing_area w k l) l (slot_at k page)) l bytes
      (closing m (sparing_area w k l) l1 found) l1 mid
  at found l1 h = to-close m (sparing_area w k l) l l1 (slot_at k page) bytes mid found
      (subst (λ s. Meets (Empties m (sparing_area w k l) l s) (IsStuck m (sparing_area w k l) l s) l bytes found l1 mid) is h)

  -- the next slot isn't emptied
  pub emptied-neither : (l1 l' : Ledger)
      → Meets (Empties m (sparing_area w k l) l s) (IsStuck m (sparing_area w k l) l s) l bytes None l1 mid
      → IsWhole (AreEmptied m w k l) l bytes None l'
  emptied-neither l1 l' h = whole-neither (AreEmptied m w k l) (Empties m (sparing_area w k l) l (slot_at k page))
      (Halts m (sparing_area w k l) l (slot_at k page)) (Behind m w k l) (slot-stages m w k l page others in_use) l l1 l' bytes mid (at None l1 h)

  -- it can't be, and it ends there
  pub emptied-halt : (l' : Ledger) (free : Bool)
      → Meets (Empties m (sparing_area w k l) l s) (IsStuck m (sparing_area w k l) l s) l bytes (Some (inr free)) l' mid
      → IsWhole (AreEmptied m w k l) l bytes (Some (close_by m (sparing_area w k l) l' free)) l'
  emptied-halt l' free h = whole-halt (AreEmptied m w k l) (Empties m (sparing_area w k l) l (slot_at k page))
      (Halts m (sparing_area w k l) l (slot_at k page)) (Behind m w k l) (slot-stages m w k l page others in_use) l l' bytes mid
      (close_by m (sparing_area w k l) l' free) (at (Some (inr free)) l' h)

  -- it is, and those behind it are read
  pub emptied-then : (l1 l' : Ledger) (found : Option Close)
      → Meets (Empties m (sparing_area w k l) l s) (IsStuck m (sparing_area w k l) l s) l bytes (Some (inl tt)) l1 mid
      → IsWhole (AreEmptied m w k l1) l1 mid found l' → IsWhole (AreEmptied m w k l) l bytes found l'
  emptied-then l1 l' found h later = whole-then (AreEmptied m w k l) (Empties m (sparing_area w k l) l (slot_at k page))
      (Halts m (sparing_area w k l) l (slot_at k page)) (Behind m w k l) (slot-stages m w k l page others in_use) l l1 l' bytes mid tt found
      (at (Some (inl tt)) l1 h) (λ a g e. subst (λ n. IsWhole (AreEmptied m w k n) l1 mid found l') e later)

-- no slot is in use
pub emptied-over : (m : Setting) (w : World) (k : ℕ) (l : Ledger) (bytes : List ℕ) → slots_in_use m l k ≡ [] → bytes ≡ []
    → IsWhole (AreEmptied m w k l) l bytes (Some Closed) l
emptied-over m w k l bytes none over = record {
  notes = [];
  lawful = ([], subst (λ ps. EndsAt m (sparing_area w k l) k l ps [] Closed) (sym none) (refl, refl));
  stand = subst (λ b. Stand b [] []) (sym over) (stand-none []);
  after = refl;
}

pub emptied-more : (m : Setting) (w : World) (k : ℕ) (l l' : Ledger) (bytes : List ℕ) → slots_in_use m l k ≡ [] → (bytes ≡ [] → ⊥)
    → IsWhole (AreEmptied m w k l) l bytes None l'
emptied-more m w k l l' bytes none some = λ end ns h st. by end ns st h.0 h.1
  where
    differ : {x : ℕ} {xs : List ℕ} → [] ≡ x ∷ xs → ⊥
    differ e = cc

    by : (end : Close) (ns : List Note) → Stand bytes ns [] → (pages : List ℕ) → PlainEmpties m w k l pages ns end → ⊥
    by end ns st [] h =
        let over = subst (λ ps. EndsAt m (sparing_area w k l) k l ps ns end) none h in
        some (st.text ∙ ap (λ ns. notes_text ns ++ []) over.0)
    by end ns st (p ∷ ps) h = differ (sym none ∙ h.3)

-- no bytes are left
pub none-left : (t : List ℕ) → (length t == 0) ≡ true → t ≡ []
none-left [] h = refl
none-left (b ∷ t) h = absurd (let e = eqb-true (length (b ∷ t)) 0 h in omega (arith, e))

-- ---- a slot that is emptied has a note

longer : (a b : List ℕ) → length b ≤ length (a ++ b)
longer [] b = omega arith
longer (x ∷ a) b = let more = longer a b in omega (arith, more)

pub shorter : (m : Setting) (sp : Spared) (l l1 : Ledger) (s : Slot) (bytes mid : List ℕ)
    → Meets (Empties m sp l s) (IsStuck m sp l s) l bytes (Some (inl tt)) l1 mid → length mid < length bytes
shorter m sp l l1 s bytes mid h =
    let e : IsEmptied m sp l s h.notes = h.lawful in
    subst (λ t. length mid < length t) (sym h.stand.text)
    (by h.notes (λ none. some e.fetched (maps e) (sym e.whole ∙ none)))
  where
    maps : IsEmptied m sp l s h.notes → List Note
    maps e = maps_notes e.frame (keys_of_slot (after_notes l e.fetched) s)

    some : (a b : List Note) → a ++ (b ++ Dropped s ∷ []) ≡ [] → ⊥
    some [] [] e = cc
    some [] (n ∷ b) e = cc
    some (n ∷ a) b e = cc

    by : (ns : List Note) → (ns ≡ [] → ⊥) → length mid < length (notes_text ns ++ mid)
    by [] none = absurd (none refl)
    by (n ∷ ns) none =
        let more = longer ((note_line n ++ 10 ∷ []) ++ notes_text ns) mid in omega (arith, more)

-- ---- all of flight completes before

abbrev NoHalt : Close → List Note → Type 0
NoHalt end ns = ⊥

close-stages : (m : Setting) (w : World) (k : ℕ) (l : Ledger)
    → InStages {Y = Unit {0}} Never (Closes m w k l) (λ (u : Unit {0}). Completes l l.flight) NoHalt (λ x a. Never) (Behind m w k l)
close-stages m w k l = record {
  split = λ y ns h. absurd h;
  join = λ x y a b h g. absurd g;
  stop = λ end ns h. inr (tt, h.0, h.1, h.2, h.3, h.4);
  halt = λ end ns h. absurd h;
  end = λ u end a b h g. (a, b, h, g, refl);
  told = λ x y a b u v h g e. (refl, completes-told l l.flight a b u v h g e);
  apart = λ u end a b v h g e. g;
}

pub closes-not : (m : Setting) (w : World) (k : ℕ) (l l1 l' : Ledger) (bytes mid : List ℕ) → Reads (Completes l l.flight) l bytes false l1 mid
    → IsWhole (Closes m w k l) l bytes None l'
closes-not m w k l l1 l' bytes mid none =
    whole-neither (Closes m w k l) (λ (u : Unit {0}). Completes l l.flight) NoHalt (Behind m w k l) (close-stages m w k l) l l1 l' bytes mid
    (record { goes = λ u ns more h st. none ns more h st; stops = λ end ns h st. h })

pub closes-then : (m : Setting) (w : World) (k : ℕ) (l l1 l' : Ledger) (bytes mid : List ℕ) (found : Option Close)
    → Reads (Completes l l.flight) l bytes true l1 mid → IsWhole (AreEmptied m w k l1) l1 mid found l'
    → IsWhole (Closes m w k l) l bytes found l'
closes-then m w k l l1 l' bytes mid found first later =
    whole-then (Closes m w k l) (λ (u : Unit {0}). Completes l l.flight) NoHalt (Behind m w k l) (close-stages m w k l) l l1 l' bytes mid tt found
    first (λ a g e. subst (λ n. IsWhole (AreEmptied m w k n) l1 mid found l') e later)

-- ---- the notes tell the end

first-of : {x y : ℕ} {xs ys : List ℕ} → x ∷ xs ≡ y ∷ ys → x ≡ y
first-of e = cc

emptied-one : (m : Setting) (w : World) (k : ℕ) (l : Ledger) (ps qs : List ℕ) (a b : List Note) (end end' : Close) → a ≡ b
    → PlainEmpties m w k l ps a end → PlainEmpties m w k l qs b end' → end ≡ end'
emptied-one m w k l [] [] a b end end' same h g = by (slots_in_use m l k) h g
  where
    by : (pages : List ℕ) → EndsAt m (sparing_area w k l) k l pages a end → EndsAt m (sparing_area w k l) k l pages b end' → end ≡ end'
    by [] p q = p.1 ∙ sym q.1
    by (page ∷ pages) p q = p.2 ∙ ap (λ ns. end_at m (sparing_area w k l) (after_notes l ns)) same ∙ sym q.2
emptied-one m w k l [] (q ∷ qs) a b end end' same h g =
    let over = subst (λ pages. EndsAt m (sparing_area w k l) k l pages a end) g.3 h in
    absurd (emptied-apart m (sparing_area w k l) l (slot_at k q) g.1 a g.2 g.5 over.0 over.1 (sym g.4 ∙ sym same))
emptied-one m w k l (p ∷ ps) [] a b end end' same h g =
    let over = subst (λ pages. EndsAt m (sparing_area w k l) k l pages b end') h.3 g in
    absurd (emptied-apart m (sparing_area w k l) l (slot_at k p) h.1 b h.2 h.5 over.0 over.1 (sym h.4 ∙ same))
emptied-one m w k l (p ∷ ps) (q ∷ qs) a b end end' same h g =
    let sp = sparing_area w k l in
    let page : q ≡ p = first-of (sym g.3 ∙ h.3) in
    let whole : h.1 ++ h.2 ≡ g.1 ++ g.2 = sym h.4 ∙ same ∙ g.4 in
    let here : h.1 ≡ g.1 = emptied-told m sp l (slot_at k p) h.1 g.1 h.2 g.2 h.5
    (subst (λ page. IsEmptied m sp l (slot_at k page) g.1) page g.5) whole in
    let rest : h.2 ≡ g.2 = append_cancel_left h.1 h.2 g.2 (whole ∙ ap (λ ns. ns ++ g.2) (sym here)) in
    emptied-one m w k (after_notes l h.1) ps qs h.2 g.2 end end' rest h.6
    (subst (λ ns. PlainEmpties m w k (after_notes l ns) qs g.2 end') (sym here) g.6)

pub closes-one : (m : Setting) (w : World) (k : ℕ) (l : Ledger) (a b : List Note) (end end' : Close) → a ≡ b → Closes m w k l end a
    → Closes m w k l end' b → end ≡ end'
closes-one m w k l a b end end' same h g =
    let whole : h.0 ++ h.1 ≡ g.0 ++ g.1 = sym h.4 ∙ same ∙ g.4 in
    let done : h.0 ≡ g.0 = completes-told l l.flight h.0 g.0 h.1 g.1 h.2 g.2 whole in
    let rest : h.1 ≡ g.1 = append_cancel_left h.0 h.1 g.1 (whole ∙ ap (λ ns. ns ++ g.1) (sym done)) in
    emptied-one m w k (after_notes l h.0) h.3.0 g.3.0 h.1 g.1 end end' rest h.3.1
    (subst (λ ns. PlainEmpties m w k (after_notes l ns) g.3.0 g.1 end') (sym done) g.3.1)
