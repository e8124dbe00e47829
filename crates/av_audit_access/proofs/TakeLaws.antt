-- A frame is taken, part by part.
use Rattle.std.proofs.Common.{◌≡◌, ◌⊎◌, inl, inr, ℕ, Bool, true, false, not, ◌&&◌, Option, Some, None, List, []}
use Rattle.std.proofs.Common.{◌∷◌, ◌++◌, length, refl, sym, ap, subst, ◌∙◌, arith}
use Rattle.std.specs.Prelude.{◌==◌}
use Rattle.std.proofs.lemmas.Bool.{eqb-true}
use Rattle.av_base.specs.Keys.{Key}
use Rattle.av_base.specs.Page.{address_of}
use Rattle.av_trace.specs.declared.note.Note.{Note}
use Rattle.av_trace.specs.declared.note.Note.TheVariants.{Zeroed}
use Rattle.av_trace.specs.declared.reply.OutOf.{OutOf}
use Rattle.av_trace.specs.Print.{notes_text}
use Rattle.av_plain.specs.Fault.{FindsNone, IsMade, Need, Ready, ZeroPage, NewPage, CopyOnWrite, Sparing, pinned_by}
use Rattle.av_plain.specs.Ledger.{Ledger, Setting, has_free}
use Rattle.av_plain.specs.Pass.{Seeks, Spared, TakesFor, out_of}
use Rattle.av_audit_judge.specs.Finds.{Gets, Reads, Stand}
use Rattle.av_audit_judge.specs.Notes.{note_by}
use Rattle.av_audit_judge.specs.Pass.{IsTakenFree}
use Rattle.av_audit_judge.specs.Stage.{Meets}
use Rattle.av_audit_judge.specs.declared.notes.Taking.{Taking}
use Rattle.av_audit_judge.specs.declared.notes.Taking.TheVariants as takings
use Rattle.av_audit_judge.proofs.Finds.{stand-none}
use Rattle.av_audit_judge.proofs.BehindLaws.{sought-then, unsought}
use Rattle.av_audit_access.specs.Take.{AreTaken, HasNoFrame, IsNoneFree, IsStarved, MakesFrame}

-- ---- behind the pass

pub left-starved : (m : Setting) (l : Ledger) (taking : Taking) (bytes : List ℕ) → bytes ≡ [] → has_free m l ≡ false
    → Meets (IsTakenFree m l taking) (IsNoneFree m l) l bytes (Some (inr tt)) l bytes
left-starved m l taking bytes over full = record {
  notes = [];
  lawful = (full, refl);
  stand = subst (λ b. Stand b [] []) (sym over) (stand-none []);
  after = refl;
}

pub left-not : (m : Setting) (l l1 l' : Ledger) (taking : Taking) (bytes mid rest : List ℕ) → (bytes ≡ [] → has_free m l ≡ false → ⊥)
    → Gets (IsTakenFree m l taking) l bytes None l1 mid
    → Meets (IsTakenFree m l taking) (IsNoneFree m l) l bytes None l' rest
left-not m l l1 l' taking bytes mid rest some none = record {
  goes = λ f notes more h st. none f notes more h st;
  stops = λ u notes h st. some (st.text ∙ ap (λ ns. notes_text ns ++ []) h.1) h.0;
}

-- nothing is left
pub over-is : (t : List ℕ) → true ≡ (length t == 0) → t ≡ []
over-is [] h = refl
over-is (b ∷ t) h = absurd (let e = eqb-true (length (b ∷ t)) 0 (sym h) in omega (arith, e))

pub left-some : (m : Setting) (l : Ledger) (t : List ℕ) (over free : Bool) → over ≡ (length t == 0) → free ≡ has_free m l
    → (over && not free) ≡ false → t ≡ [] → has_free m l ≡ false → ⊥
left-some m l t true true e f h over full = cc
left-some m l t true false e f h over full = cc
left-some m l [] false free e f h over full = cc
left-some m l (b ∷ t) false free e f h over full = cc

-- ---- the pass, and what is behind it

pub take-unsought : (m : Setting) (sp : Spared) (l l1 l' : Ledger) (taking : Taking) (bytes mid rest : List ℕ)
    → Reads (Seeks m sp l) l bytes false l1 mid → Meets (AreTaken m sp l taking) (IsStarved m sp l) l bytes None l' rest
take-unsought m sp l l1 l' taking bytes mid rest none =
    unsought m sp l (λ n. IsTakenFree m n taking) (λ n (u : Unit {0}). has_free m n ≡ false) l1 l' bytes mid rest none

pub take-sought : (m : Setting) (sp : Spared) (l l1 l' : Ledger) (taking : Taking) (bytes mid rest : List ℕ) (found : Option (ℕ ⊎ Unit {0}))
    → Reads (Seeks m sp l) l bytes true l1 mid → Meets (IsTakenFree m l1 taking) (IsNoneFree m l1) l1 mid found l' rest
    → Meets (AreTaken m sp l taking) (IsStarved m sp l) l bytes found l' rest
take-sought m sp l l1 l' taking bytes mid rest found first second =
    sought-then m sp l (λ n. IsTakenFree m n taking) (λ n (u : Unit {0}). has_free m n ≡ false) l1 l' bytes mid rest found first second

-- by another name of what is spared, and of what is met
pub take-as : (m : Setting) (a b : Spared) (l l' : Ledger) (taking : Taking) (bytes rest : List ℕ) (x y : Option (ℕ ⊎ Unit {0})) → a ≡ b → x ≡ y
    → Meets (AreTaken m a l taking) (IsStarved m a l) l bytes x l' rest → Meets (AreTaken m b l taking) (IsStarved m b l) l bytes y l' rest
take-as m a b l l' taking bytes rest x y same is h =
    subst (λ found. Meets (AreTaken m b l taking) (IsStarved m b l) l bytes found l' rest) is
    (subst (λ sp. Meets (AreTaken m sp l taking) (IsStarved m sp l) l bytes x l' rest) same h)

-- ---- a page gets a frame

to-takes : (m : Setting) (sp : Spared) (l : Ledger) (taking : Taking) (f : ℕ) (ns : List Note) → AreTaken m sp l taking f ns
    → TakesFor m sp l ns (note_by taking)
to-takes m sp l taking f ns h = record {
  sought = h.0;
  frame = f;
  seeks = h.2;
  in_range = h.3.0;
  free = h.3.1;
  whole = h.4 ∙ ap (λ r. h.0 ++ r) h.3.2;
}

of-takes : (m : Setting) (sp : Spared) (l : Ledger) (taking : Taking) (ns : List Note) (t : TakesFor m sp l ns (note_by taking))
    → AreTaken m sp l taking t.frame ns
of-takes m sp l taking ns t = (t.sought, note_by taking t.frame ∷ [], t.seeks, (t.in_range, t.free, refl), t.whole)

module _ (m : Setting) (sp : Spared) (l : Ledger) (taking : Taking) (bytes rest : List ℕ) where
  pub frame-none : (l1 l' : Ledger) (mid : List ℕ) → Meets (AreTaken m sp l taking) (IsStarved m sp l) l bytes None l1 mid
      → Meets (MakesFrame m sp l taking) (HasNoFrame m sp l) l bytes None l' rest
  frame-none l1 l' mid n = record {
    goes = λ u notes more h st. n.goes h.frame notes more (of-takes m sp l taking notes h) st;
    stops = λ out notes h st. n.stops tt notes (h.0, h.1) st;
  }

  pub frame-made : (l' : Ledger) (f : ℕ) → Meets (AreTaken m sp l taking) (IsStarved m sp l) l bytes (Some (inl f)) l' rest
      → Meets (MakesFrame m sp l taking) (HasNoFrame m sp l) l bytes (Some (inl tt)) l' rest
  frame-made l' f h = record { notes = h.notes; lawful = to-takes m sp l taking f h.notes h.lawful; stand = h.stand; after = h.after }

  pub frame-starved : (l' : Ledger) (out : OutOf) → out ≡ out_of m sp l'
      → Meets (AreTaken m sp l taking) (IsStarved m sp l) l bytes (Some (inr tt)) l' rest
      → Meets (MakesFrame m sp l taking) (HasNoFrame m sp l) l bytes (Some (inr out)) l' rest
  frame-starved l' out is h = record {
    notes = h.notes;
    lawful = (h.lawful.0, h.lawful.1, is ∙ ap (out_of m sp) h.after);
    stand = h.stand;
    after = h.after;
  }

-- ---- by what the page needs

abbrev pub Makes : Setting → Sparing → Ledger → Key → Need → Unit {0} → List Note → Type 0
Makes m sp l k n u = IsMade m sp l k n

abbrev pub Finds : Setting → Sparing → Ledger → Need → OutOf → List Note → Type 0
Finds m sp l n out notes = FindsNone m sp l n notes out

finds-none : (m : Setting) (sp : Sparing) (l : Ledger) (n : Need) (out : OutOf) (ns : List Note) → FindsNone m sp l n ns out
    → HasNoFrame m (sp l (pinned_by n)) l out ns
finds-none m sp l n out ns h = (h.seeks, h.none, h.numbers)

never : false ≡ true → ⊥
never e = cc

-- as it is told of a frame, so it is of a page that needs one
pub made-new : (m : Setting) (sp : Sparing) (l l' : Ledger) (k : Key) (p a : ℕ) (bytes rest : List ℕ) (found : Option (Unit {0} ⊎ OutOf))
    → p ≡ k.0 → a ≡ address_of k.1
    → Meets (MakesFrame m (sp l None) l (takings.New p a)) (HasNoFrame m (sp l None) l) l bytes found l' rest
    → Meets (Makes m sp l k NewPage) (Finds m sp l NewPage) l bytes found l' rest
made-new m sp l l' k p a bytes rest found ep ea h = by found
    (subst (λ p. Meets (MakesFrame m (sp l None) l (takings.New p (address_of k.1))) (HasNoFrame m (sp l None) l) l bytes found l' rest) ep
    (subst (λ a. Meets (MakesFrame m (sp l None) l (takings.New p a)) (HasNoFrame m (sp l None) l) l bytes found l' rest) ea h))
  where
    by : (found : Option (Unit {0} ⊎ OutOf))
        → Meets (MakesFrame m (sp l None) l (takings.New k.0 (address_of k.1))) (HasNoFrame m (sp l None) l) l bytes found l' rest
        → Meets (Makes m sp l k NewPage) (Finds m sp l NewPage) l bytes found l' rest
    by None n = record {
      goes = λ u notes more g st. n.goes tt notes more g st;
      stops = λ out notes g st. n.stops out notes (finds-none m sp l NewPage out notes g) st;
    }
    by (Some (inl u)) g = record { notes = g.notes; lawful = g.lawful; stand = g.stand; after = g.after }
    by (Some (inr out)) g = record {
      notes = g.notes;
      lawful = record { wants = refl; seeks = g.lawful.0; none = g.lawful.1; numbers = g.lawful.2 };
      stand = g.stand;
      after = g.after;
    }

pub made-copy : (m : Setting) (sp : Sparing) (l l' : Ledger) (k : Key) (f p a : ℕ) (bytes rest : List ℕ) (found : Option (Unit {0} ⊎ OutOf))
    → p ≡ k.0 → a ≡ address_of k.1
    → Meets (MakesFrame m (sp l (Some f)) l (takings.Copied p a)) (HasNoFrame m (sp l (Some f)) l) l bytes found l' rest
    → Meets (Makes m sp l k (CopyOnWrite f)) (Finds m sp l (CopyOnWrite f)) l bytes found l' rest
made-copy m sp l l' k f p a bytes rest found ep ea h = by found
    (subst (λ p. Meets (MakesFrame m (sp l (Some f)) l (takings.Copied p (address_of k.1)))
    (HasNoFrame m (sp l (Some f)) l) l bytes found l' rest) ep
    (subst (λ a. Meets (MakesFrame m (sp l (Some f)) l (takings.Copied p a)) (HasNoFrame m (sp l (Some f)) l) l bytes found l' rest) ea h))
  where
    by : (found : Option (Unit {0} ⊎ OutOf))
        → Meets (MakesFrame m (sp l (Some f)) l (takings.Copied k.0 (address_of k.1))) (HasNoFrame m (sp l (Some f)) l) l bytes found l' rest
        → Meets (Makes m sp l k (CopyOnWrite f)) (Finds m sp l (CopyOnWrite f)) l bytes found l' rest
    by None n = record {
      goes = λ u notes more g st. n.goes tt notes more g st;
      stops = λ out notes g st. n.stops out notes (finds-none m sp l (CopyOnWrite f) out notes g) st;
    }
    by (Some (inl u)) g = record { notes = g.notes; lawful = g.lawful; stand = g.stand; after = g.after }
    by (Some (inr out)) g = record {
      notes = g.notes;
      lawful = record { wants = refl; seeks = g.lawful.0; none = g.lawful.1; numbers = g.lawful.2 };
      stand = g.stand;
      after = g.after;
    }

pub made-ready : (m : Setting) (sp : Sparing) (l : Ledger) (k : Key) (bytes : List ℕ)
    → Meets (Makes m sp l k Ready) (Finds m sp l Ready) l bytes (Some (inl tt)) l bytes
made-ready m sp l k bytes = record { notes = []; lawful = refl; stand = stand-none bytes; after = refl }

pub made-zero : (m : Setting) (sp : Sparing) (l l' : Ledger) (k : Key) (a : ℕ) (bytes rest : List ℕ) → a ≡ address_of k.1
    → Reads (λ ns. ns ≡ Zeroed k.0 a ∷ []) l bytes true l' rest
    → Meets (Makes m sp l k ZeroPage) (Finds m sp l ZeroPage) l bytes (Some (inl tt)) l' rest
made-zero m sp l l' k a bytes rest is h = record {
  notes = h.notes;
  lawful = h.lawful ∙ ap (λ a. Zeroed k.0 a ∷ []) is;
  stand = h.stand;
  after = h.after;
}

pub made-no-zero : (m : Setting) (sp : Sparing) (l l1 l' : Ledger) (k : Key) (a : ℕ) (bytes mid rest : List ℕ) → a ≡ address_of k.1
    → Reads (λ ns. ns ≡ Zeroed k.0 a ∷ []) l bytes false l1 mid
    → Meets (Makes m sp l k ZeroPage) (Finds m sp l ZeroPage) l bytes None l' rest
made-no-zero m sp l l1 l' k a bytes mid rest is none = record {
  goes = λ u notes more g st. none notes more (g ∙ ap (λ a. Zeroed k.0 a ∷ []) (sym is)) st;
  stops = λ out notes g st. never g.wants;
}
