-- A frame's turn, part by part.
use Rattle.std.proofs.Common.{◌≡◌, ℕ, ◌<◌, arith, Bool, true, false, not, ◌==◌, Option, Some, None, is_none, List, [], ◌∷◌, ◌++◌}
use Rattle.std.proofs.Common.{refl, sym, ap, subst, ◌∙◌, append-nil, append_assoc}
use Rattle.std.specs.Prelude.{IsTrue, MatchBool, MatchOption, if◌then◌else◌, ◌&&◌, ◌||◌}
use Rattle.av_base.specs.declared.slot.Slot.{Slot}
use Rattle.av_trace.specs.declared.note.Note.{Note}
use Rattle.av_trace.specs.declared.note.Note.TheVariants.{Dropped, Failed, Put, Started, Unmapped, Written}
use Rattle.av_plain.specs.Event.{after_notes, when}
use Rattle.av_plain.specs.Ledger.{Ledger, Setting, is_stale, map_count, may_give, slot_of}
use Rattle.av_plain.specs.Pass.{IsSlotFor, Spared, Turns, end_note, is_dirty, is_stuck, unmap_notes}
use Rattle.std.proofs.lemmas.Bool.{and_parts, ltb-true}
use Rattle.std.specs.List.{AllByRecursion}
use Rattle.av_trace.specs.Note.{IsNote}
use Rattle.av_trace.specs.Print.{notes_text}
use Rattle.av_plain.specs.Ledger.{size_of}
use Rattle.av_audit_book.specs.Machine.{AreNamed}
use Rattle.av_audit_judge.specs.Notes.{IsSlotted}
use Rattle.av_audit_judge.specs.Finds.{Gets, Reads, Stand}
use Rattle.av_audit_judge.specs.Flight.{IsEnd}
use Rattle.av_audit_judge.specs.Pass.{AreCleaned, AreWriteNotes, GoesTo, IsPut, IsTurn, IsTurnEnd, Unmaps}
use Rattle.av_audit_judge.proofs.Finds.{InPartsBy, InPartsFrom, InPartsTo, TellsValue, first-one, from-no-first, from-then, parts-tell, text-cons}
use Rattle.av_audit_judge.proofs.Finds.{reads-as, reads-nothing, stand-none}
use Rattle.av_audit_judge.proofs.FlightLaws.{end-tells}
use Rattle.av_audit_laws.proofs.ToldPass.{head-of, tail-of, with-lists}

-- ---- the slot

pub goes-put : (m : Setting) (sp : Spared) (l l' : Ledger) (f : ℕ) (bytes rest : List ℕ) (s : Slot) → slot_of l f ≡ None
    → Gets (IsPut m sp l f) l bytes (Some s) l' rest → Gets (GoesTo m sp l f) l bytes (Some (s, true)) l' rest
goes-put m sp l l' f bytes rest s none h = record {
  notes = h.notes;
  lawful = (
    subst (λ o. MatchOption o (IsTrue (may_give m sp.closing l s)) (λ t. s ≡ t)) (sym none) h.lawful.0,
    ap (λ (o : Option Slot). is_none o || is_stale l s) (sym none),
    h.lawful.1 ∙ ap (λ (o : Option Slot). when (is_none o) (Put f s)) (sym none),
  );
  stand = h.stand;
  after = h.after;
}

pub goes-nowhere : (m : Setting) (sp : Spared) (l l1 l' : Ledger) (f : ℕ) (bytes mid rest : List ℕ) → slot_of l f ≡ None
    → Gets (IsPut m sp l f) l bytes None l1 mid → Gets (GoesTo m sp l f) l bytes None l' rest
goes-nowhere m sp l l1 l' f bytes mid rest none h x notes more g s = h x.0 notes more (
  subst (λ o. MatchOption o (IsTrue (may_give m sp.closing l x.0)) (λ t. x.0 ≡ t)) none g.0,
  g.2 ∙ ap (λ (o : Option Slot). when (is_none o) (Put f x.0)) none,
)
    s

pub goes-cached : (m : Setting) (sp : Spared) (l : Ledger) (f : ℕ) (bytes : List ℕ) (s : Slot) (b : Bool) → slot_of l f ≡ Some s
    → b ≡ is_stale l s → Gets (GoesTo m sp l f) l bytes (Some (s, b)) l bytes
goes-cached m sp l f bytes s b some stale = record {
  notes = [];
  lawful = (
    subst (λ o. MatchOption o (IsTrue (may_give m sp.closing l s)) (λ t. s ≡ t)) (sym some) refl,
    stale ∙ ap (λ (o : Option Slot). is_none o || is_stale l s) (sym some),
    ap (λ (o : Option Slot). when (is_none o) (Put f s)) (sym some),
  );
  stand = stand-none bytes;
  after = refl;
}

slot-told : (o : Option Slot) (f : ℕ) (s t : Slot) (x y : List Note) (P Q : Type 0)
    → MatchOption o P (λ t. s ≡ t) → MatchOption o Q (λ r. t ≡ r)
    → when (is_none o) (Put f s) ++ x ≡ when (is_none o) (Put f t) ++ y → s ≡ t
slot-told (Some r) f s t x y P Q h g e = h ∙ sym g
slot-told None f s t x y P Q h g e = inner (head-of e)
  where
    inner : Put f s ≡ Put f t → s ≡ t
    inner e = cc

goes-tells : (m : Setting) (sp : Spared) (l : Ledger) (f : ℕ) → TellsValue (GoesTo m sp l f)
goes-tells m sp l f x y a b u v h g e =
    let same = slot-told (slot_of l f) f x.0 y.0 u v _ _ h.0 g.0 (with-lists u v h.2 g.2 e) in
    let dirty : x.1 ≡ y.1 = h.1 ∙ ap (is_dirty l f) same ∙ sym g.1 in
    (λ i. (same i, dirty i), h.2 ∙ ap (λ s. when (is_none (slot_of l f)) (Put f s)) same ∙ sym g.2)

-- ---- it is unmapped

-- a put leaves the entries
put-maps : (b : Bool) (l : Ledger) (f : ℕ) (s : Slot) → map_count (after_notes l (when b (Put f s))) f ≡ map_count l f
put-maps true l f s = refl
put-maps false l f s = refl

abbrev pub IsUnmapped : Ledger → ℕ → Slot × Bool → List Note → Slot × Bool → List Note → Type 0
IsUnmapped l f x a y b = (y ≡ x) × (b ≡ when (not (map_count (after_notes l a) f == 0)) (Unmapped f))

pub unmaps-parts : (m : Setting) (sp : Spared) (l : Ledger) (f : ℕ)
    → InPartsBy (Unmaps m sp l f) (GoesTo m sp l f) (IsUnmapped l f)
unmaps-parts m sp l f = record {
  split = λ y ns h. (
    y,
    when (is_none (slot_of l f)) (Put f y.0),
    when (not (map_count l f == 0)) (Unmapped f),
    (h.0, h.1, refl),
    (refl, ap (λ n. when (not (n == 0)) (Unmapped f)) (sym (put-maps (is_none (slot_of l f)) l f y.0))),
    h.2,
  );
  join = λ x y a b h g.
      subst (λ z. Unmaps m sp l f z (a ++ b)) (sym g.0) (
        h.0,
        h.1,
        (λ i. h.2 i ++ b)
            ∙ ap (λ r. when (is_none (slot_of l f)) (Put f x.0) ++ r)
            (g.1 ∙ ap (λ n. when (not (n == 0)) (Unmapped f))
            (ap (λ a. map_count (after_notes l a) f) h.2 ∙ put-maps (is_none (slot_of l f)) l f x.0)),
      );
  told = goes-tells m sp l f;
}

pub unmaps-tells : (m : Setting) (sp : Spared) (l : Ledger) (f : ℕ) → TellsValue (Unmaps m sp l f)
unmaps-tells m sp l f x y a b u v h g e =
    let un = when (not (map_count l f == 0)) (Unmapped f) in
    let put = λ (s : Slot). when (is_none (slot_of l f)) (Put f s) in
    let split : put x.0 ++ (un ++ u) ≡ put y.0 ++ (un ++ v) =
    sym (append_assoc (put x.0) un u) ∙ with-lists u v h.2 g.2 e ∙ append_assoc (put y.0) un v in
    let same = slot-told (slot_of l f) f x.0 y.0 (un ++ u) (un ++ v) _ _ h.0 g.0 split in
    let dirty : x.1 ≡ y.1 = h.1 ∙ ap (is_dirty l f) same ∙ sym g.1 in
    (λ i. (same i, dirty i), h.2 ∙ ap (unmap_notes l f) same ∙ sym g.2)

-- ---- a write at once

pub writes-parts : (s : Slot) → InPartsTo (AreWriteNotes s) (λ ns. ns ≡ Started s ∷ []) (λ _. IsEnd s)
writes-parts s = record {
  split = λ y ns h. (Started s ∷ [], end_note y s ∷ [], refl, refl, h);
  join = λ y a b h g. (λ i. h i ++ g i);
  told = λ a b x y h g e. h ∙ sym g;
}

cleaned-tells : (s : Slot) (dirty : Bool) → TellsValue (AreCleaned s dirty)
cleaned-tells s false x y a b u v h g e = (h.0 ∙ sym g.0, h.1 ∙ sym g.1)
cleaned-tells s true x y a b u v h g e =
    let one = end-tells s x y (end_note x s ∷ []) (end_note y s ∷ []) u v refl refl (tail-of (with-lists u v h g e)) in
    (one.0, h ∙ ap (λ r. Started s ∷ r) one.1 ∙ sym g)

abbrev pub IsFreed : Slot → Bool → List Note → Bool → List Note → Type 0
IsFreed s x a y b = (y ≡ x) × (b ≡ when (not x) (Dropped s))

pub turn_end-parts : (s : Slot) (dirty : Bool) → InPartsBy (IsTurnEnd s dirty) (AreCleaned s dirty) (IsFreed s)
turn_end-parts s dirty = record {
  split = λ y ns h. (y, h.0, when (not y) (Dropped s), h.1, (refl, refl), h.2);
  join = λ x y a b h g. subst (λ z. IsTurnEnd s dirty z (a ++ b)) (sym g.0) (a, h, ap (λ r. a ++ r) g.1);
  told = cleaned-tells s dirty;
}

abbrev pub IsEnded : Slot × Bool → List Note → Bool → List Note → Type 0
IsEnded x a y b = IsTurnEnd x.0 x.1 y b

pub turn-parts : (m : Setting) (sp : Spared) (l : Ledger) (f : ℕ) → InPartsBy (IsTurn m sp l f) (Unmaps m sp l f) IsEnded
turn-parts m sp l f = record {
  split = λ y ns h. ((h.0, is_dirty l f h.0), unmap_notes l f h.0, h.1, (h.2, refl, refl), h.3, h.4);
  join = λ x y a b h g. (x.0, b, h.0, subst (λ d. IsTurnEnd x.0 d y b) h.1 g, (λ i. h.2 i ++ b));
  told = unmaps-tells m sp l f;
}

turn_end-tells : (s : Slot) (dirty : Bool) → TellsValue (IsTurnEnd s dirty)
turn_end-tells s dirty = parts-tell (IsTurnEnd s dirty) (AreCleaned s dirty) (IsFreed s) (turn_end-parts s dirty)
    (λ x a y z b c u v g h e. (g.0 ∙ sym h.0, g.1 ∙ sym h.1))

pub turn-tells : (m : Setting) (sp : Spared) (l : Ledger) (f : ℕ) → TellsValue (IsTurn m sp l f)
turn-tells m sp l f = parts-tell (IsTurn m sp l f) (Unmaps m sp l f) IsEnded (turn-parts m sp l f)
    (λ x a. turn_end-tells x.0 x.1)

-- ---- turns

-- what follows a turn
abbrev pub Behind : Setting → Spared → Ledger → List ℕ → Bool → List Note → List Note → Type 0
Behind m sp l fs true a b = Turns m sp (after_notes l a) fs b
Behind m sp l fs false a b = b ≡ []

-- notes of a turn, by what is known of the frame
abbrev turn_of : List Note → Slot → Bool → Bool → List Note
turn_of un s dirty failed = un ++ (if dirty then Started s ∷ end_note failed s ∷ [] else [])

-- a turn as the definition has it
abbrev IsTurned : List Note → Slot → Bool → Bool → List Note → (List Note → List Note → Type 0) → Type 0
IsTurned un s dirty failed ns Rest = MatchBool (dirty && failed)
    ((rest : List Note) × (ns ≡ turn_of un s dirty failed ++ rest) × Rest (turn_of un s dirty failed) rest)
    (ns ≡ turn_of un s dirty failed ++ Dropped s ∷ [])

abbrev Goes : Bool → (List Note → List Note → Type 0) → List Note → List Note → Type 0
Goes true Rest a b = Rest a b
Goes false Rest a b = b ≡ []

record TurnParts (un : List Note) (s : Slot) (dirty : Bool) (ns : List Note) (Rest : List Note → List Note → Type 0) : Type 0 where
  stays : Bool
  a : List Note
  b : List Note
  last : List Note
  end : IsTurnEnd s dirty stays last
  front : a ≡ un ++ last
  goes : Goes stays Rest a b
  whole : ns ≡ a ++ b

turn-split : (un : List Note) (s : Slot) (dirty failed : Bool) (ns : List Note) (Rest : List Note → List Note → Type 0)
    → IsTurned un s dirty failed ns Rest → TurnParts un s dirty ns Rest
turn-split un s true true ns Rest h = record {
  stays = true;
  a = un ++ (Started s ∷ Failed s ∷ []);
  b = h.0;
  last = Started s ∷ Failed s ∷ [];
  end = (Started s ∷ Failed s ∷ [], refl, refl);
  front = refl;
  goes = h.2;
  whole = h.1;
}
turn-split un s true false ns Rest h = record {
  stays = false;
  a = ns;
  b = [];
  last = Started s ∷ Written s ∷ Dropped s ∷ [];
  end = (Started s ∷ Written s ∷ [], refl, refl);
  front = h ∙ append_assoc un (Started s ∷ Written s ∷ []) (Dropped s ∷ []);
  goes = refl;
  whole = sym (append-nil ns);
}
turn-split un s false failed ns Rest h = record {
  stays = false;
  a = ns;
  b = [];
  last = Dropped s ∷ [];
  end = ([], (refl, refl), refl);
  front = h ∙ append_assoc un [] (Dropped s ∷ []);
  goes = refl;
  whole = sym (append-nil ns);
}

turn-join : (un : List Note) (s : Slot) (dirty stays : Bool) (a b last : List Note) (Rest : List Note → List Note → Type 0)
    → IsTurnEnd s dirty stays last → a ≡ un ++ last → Goes stays Rest a b
    → (failed : Bool) × IsTurned un s dirty failed (a ++ b) Rest
turn-join un s true true a b last Rest end front goes =
    let same : a ≡ un ++ (Started s ∷ Failed s ∷ []) = front ∙ ap (λ e. un ++ e) (end.2 ∙ (λ i. end.1 i ++ [])) in
    (true, (b, (λ i. same i ++ b), subst (λ a. Rest a b) same goes))
turn-join un s true false a b last Rest end front goes = (
  false,
  ap (λ r. a ++ r) goes ∙ append-nil a ∙ front ∙ ap (λ e. un ++ e) (end.2 ∙ (λ i. end.1 i ++ Dropped s ∷ []))
      ∙ sym (append_assoc un (Started s ∷ Written s ∷ []) (Dropped s ∷ [])),
)
turn-join un s false true a b last Rest end front goes = absurd (differ end.1.0)
  where
    differ : true ≡ false → ⊥
    differ e = cc
turn-join un s false false a b last Rest end front goes = (
  false,
  ap (λ r. a ++ r) goes ∙ append-nil a ∙ front ∙ ap (λ e. un ++ e) (end.2 ∙ (λ i. end.1.1 i ++ Dropped s ∷ []))
      ∙ sym (append_assoc un [] (Dropped s ∷ [])),
)

pub turns-parts : (m : Setting) (sp : Spared) (l : Ledger) (f : ℕ) (fs : List ℕ) → is_stuck m sp l f ≡ false
    → InPartsFrom (Turns m sp l (f ∷ fs)) (IsTurn m sp l f) (Behind m sp l fs)
turns-parts m sp l f fs free = record {
  split = λ ns h. let t = open_turn ns h in
      let p = turn-split (unmap_notes l f t.0) t.0 (is_dirty l f t.0) t.1 ns Rest t.3 in
      (p.stays, p.a, p.b, (t.0, p.last, t.2, p.end, p.front), goes p.stays p.a p.b p.goes, p.whole);
  join = λ x a b h g. let t = turn-join (unmap_notes l f h.0) h.0 (is_dirty l f h.0) x a b h.1 Rest h.3 h.4 (comes x a b g) in
      close_turn (a ++ b) (h.0, t.0, h.2, t.1);
  told = turn-tells m sp l f;
}
  where
    Rest : List Note → List Note → Type 0
    Rest a b = Turns m sp (after_notes l a) fs b

    goes : (stays : Bool) (a b : List Note) → Goes stays Rest a b → Behind m sp l fs stays a b
    goes true a b h = h
    goes false a b h = h

    comes : (stays : Bool) (a b : List Note) → Behind m sp l fs stays a b → Goes stays Rest a b
    comes true a b h = h
    comes false a b h = h

    Turn : List Note → Type 0
    Turn ns = (s : Slot) × (failed : Bool) × IsSlotFor m sp l f s
        × IsTurned (unmap_notes l f s) s (is_dirty l f s) failed ns Rest

    open_turn : (ns : List Note) → Turns m sp l (f ∷ fs) ns → Turn ns
    open_turn ns h = subst (λ b. MatchBool b (Turns m sp l fs ns) (Turn ns)) free h

    close_turn : (ns : List Note) → Turn ns → Turns m sp l (f ∷ fs) ns
    close_turn ns t = subst (λ b. MatchBool b (Turns m sp l fs ns) (Turn ns)) (sym free) t

pub turns-stuck : (m : Setting) (sp : Spared) (l : Ledger) (f : ℕ) (fs : List ℕ) (ns : List Note) → is_stuck m sp l f ≡ true
    → (Turns m sp l (f ∷ fs) ns → Turns m sp l fs ns) × (Turns m sp l fs ns → Turns m sp l (f ∷ fs) ns)
turns-stuck m sp l f fs ns stuck = by (is_stuck m sp l f) _ stuck
  where
    by : (b : Bool) (X : Type 0) → b ≡ true → (MatchBool b (Turns m sp l fs ns) X → Turns m sp l fs ns)
        × (Turns m sp l fs ns → MatchBool b (Turns m sp l fs ns) X)
    by true X e = (λ h. h, λ h. h)
    by false X e = cc

-- ---- the frames in turn, one after the other

pub turns-past : (m : Setting) (sp : Spared) (l l' : Ledger) (bytes rest : List ℕ) (read : Bool) (f : ℕ) (fs : List ℕ)
    → is_stuck m sp l f ≡ true → Reads (Turns m sp l fs) l bytes read l' rest → Reads (Turns m sp l (f ∷ fs)) l bytes read l' rest
turns-past m sp l l' bytes rest read f fs stuck = reads-as (Turns m sp l fs) (Turns m sp l (f ∷ fs)) l l' bytes rest read
    (λ ns. (turns-stuck m sp l f fs ns stuck).1) (λ ns. (turns-stuck m sp l f fs ns stuck).0)

pub turns-not : (m : Setting) (sp : Spared) (l l1 l' : Ledger) (bytes mid rest : List ℕ) (f : ℕ) (fs : List ℕ)
    → is_stuck m sp l f ≡ false → Gets (IsTurn m sp l f) l bytes None l1 mid → Reads (Turns m sp l (f ∷ fs)) l bytes false l' rest
turns-not m sp l l1 l' bytes mid rest f fs free none =
    from-no-first (Turns m sp l (f ∷ fs)) (IsTurn m sp l f) (Behind m sp l fs) l l1 l' bytes mid rest (turns-parts m sp l f fs free) none

pub turns-freed : (m : Setting) (sp : Spared) (l l1 : Ledger) (bytes mid : List ℕ) (f : ℕ) (fs : List ℕ)
    → is_stuck m sp l f ≡ false → Gets (IsTurn m sp l f) l bytes (Some false) l1 mid → Reads (Turns m sp l (f ∷ fs)) l bytes true l1 mid
turns-freed m sp l l1 bytes mid f fs free first =
    from-then (Turns m sp l (f ∷ fs)) (IsTurn m sp l f) (Behind m sp l fs) l l1 l1 bytes mid mid false true (turns-parts m sp l f fs free) first
    (λ a h e. reads-nothing (Behind m sp l fs false a) l1 mid refl)

pub turns-kept : (m : Setting) (sp : Spared) (l l1 l' : Ledger) (bytes mid rest : List ℕ) (read : Bool) (f : ℕ) (fs : List ℕ)
    → is_stuck m sp l f ≡ false → Gets (IsTurn m sp l f) l bytes (Some true) l1 mid → Reads (Turns m sp l1 fs) l1 mid read l' rest
    → Reads (Turns m sp l (f ∷ fs)) l bytes read l' rest
turns-kept m sp l l1 l' bytes mid rest read f fs free first later =
    from-then (Turns m sp l (f ∷ fs)) (IsTurn m sp l f) (Behind m sp l fs) l l1 l' bytes mid rest true read (turns-parts m sp l f fs free) first
    (λ a h e. subst (λ n. Reads (Turns m sp n fs) l1 mid read l' rest) e later)

-- ---- a put that is read, or isn't

give-there : (m : Setting) (closing : Option ℕ) (l : Ledger) (s : Slot) → may_give m closing l s ≡ true → s.page < size_of m s.area
give-there m closing l s h =
    let free = (and_parts _ _ (and_parts _ _ h).0).0 in
    ltb-true s.page (size_of m s.area) (and_parts _ _ (and_parts _ _ (and_parts _ _ free).0).0).1

pub put-none : (m : Setting) (sp : Spared) (l : Ledger) (f : ℕ) (bytes : List ℕ) → AreNamed m → IsSlotted bytes f None
    → (s : Slot) (ns : List Note) (rest : List ℕ) → IsPut m sp l f s ns → Stand bytes ns rest → ⊥
put-none m sp l f bytes fits none s ns rest h st =
    let below = give-there m sp.closing l s h.0 in
    let named = fits s.area (omega (arith, below)) in
    none s rest named.0 (let most = named.1 in omega (arith, below, most)) (st.text ∙ ap (λ n. notes_text n ++ rest) h.1)

-- another slot than one that may be given
pub put-other : (m : Setting) (sp : Spared) (l : Ledger) (f : ℕ) (bytes more : List ℕ) (t : Slot) → IsNote (Put f t)
    → bytes ≡ notes_text (Put f t ∷ []) ++ more → may_give m sp.closing l t ≡ false
    → (s : Slot) (ns : List Note) (rest : List ℕ) → IsPut m sp l f s ns → Stand bytes ns rest → ⊥
put-other m sp l f bytes more t fits is not_free s ns rest h st =
    let form = subst (AllByRecursion IsNote) h.1 st.form in
    let one = first-one (Put f t) (Put f s) more rest fits form.0
    (sym (text-cons (Put f t) [] more) ∙ sym is ∙ st.text ∙ ap (λ n. notes_text n ++ rest) h.1 ∙ text-cons (Put f s) [] rest) in
    differ (may_give m sp.closing l s) h.0 (ap (may_give m sp.closing l) (sym (inner one.0)) ∙ not_free)
  where
    inner : Put f t ≡ Put f s → t ≡ s
    inner e = cc

    differ : (b : Bool) → b ≡ true → b ≡ false → ⊥
    differ b h g = cc

pub turns-over : (m : Setting) (sp : Spared) (l : Ledger) (bytes : List ℕ) (fs : List ℕ) → fs ≡ []
    → Reads (Turns m sp l fs) l bytes true l bytes
turns-over m sp l bytes fs none = subst (λ fs. Reads (Turns m sp l fs) l bytes true l bytes) (sym none)
    (reads-nothing (Turns m sp l []) l bytes refl)
