-- Pages in turn: one is touched, and then the rest.
use Rattle.std.proofs.Common.{◌≡◌, inl, inr, ℕ, ◌<◌, ◌≤◌, ◌-◌, length, take, drop, arith, Bool, Option, Some, None, List, [], ◌∷◌, ◌++◌, refl, sym, ap, subst, ◌∙◌, append-nil}
use Rattle.std.proofs.lemmas.List.{append_cancel_left}
use Rattle.std.specs.List.{AllByRecursion}
use Rattle.av_base.specs.Keys.{Key}
use Rattle.av_trace.specs.Note.{IsNote}
use Rattle.av_trace.specs.Print.{notes_text}
use Rattle.av_trace.specs.declared.note.Note.{Note}
use Rattle.av_plain.specs.Access.{Accesses, End, Stopped, Whole, page_events}
use Rattle.av_plain.specs.Event.{Event, Used, after_all, after_notes, after_use, note_events, notes_of}
use Rattle.av_plain.specs.Fault.{Stop, Touches}
use Rattle.av_plain.specs.Ledger.{Ledger, Setting}
use Rattle.av_plain.specs.World.{World}
use Rattle.av_plain.proofs.Access.{after_all-append, note_events-all, notes_of-note_events}
use Rattle.av_audit_laws.proofs.ToldPage.{touches-told}
use Rattle.av_audit_laws.proofs.ToldReply.{served-notes}
use Rattle.av_audit_judge.specs.Finds.{Stand}
use Rattle.av_audit_judge.specs.Stage.{Meets}
use Rattle.av_audit_judge.proofs.Finds.{front-of, go-on, slice-cons, stand-both, stand-parts}
use Rattle.av_audit_access.specs.Access.{Ends}
use Rattle.av_audit_access.proofs.TouchLaws.{Served, Stops}

-- ---- events and their notes

-- the ledger after a page that is served
served-after : (l : Ledger) (write : Bool) (k : Key) (notes : List Note)
    → after_all l (page_events write k notes None) ≡ after_use write k (after_notes l notes)
served-after l write k notes = after_all-append l (note_events notes) (Used write k ∷ []) ∙ ap (after_use write k) (note_events-all l notes)

-- notes that are all of the bytes
stand-all : (bytes : List ℕ) (notes : List Note) → AllByRecursion IsNote notes → bytes ≡ notes_text notes → Stand bytes notes []
stand-all bytes notes form text = record { form = form; text = text ∙ sym (append-nil (notes_text notes)) }

-- events whose notes are all of the bytes
stand-events : (bytes : List ℕ) (notes : List Note) (events : List Event) → notes_of events ≡ notes
    → AllByRecursion IsNote (notes_of events) → bytes ≡ notes_text (notes_of events) → Stand bytes notes []
stand-events bytes notes events is form text =
    subst (λ ns. Stand bytes ns []) is (stand-all bytes (notes_of events) form text)

-- ---- an access

abbrev pub Goes : Setting → World → Ledger → ℕ → List (Bool × ℕ) → End → List Event → Type 0
Goes m w l p pages end events = Accesses m w l p pages events end

-- no page is left, and no note
pub ends-whole : (m : Setting) (w : World) (l : Ledger) (p : ℕ) (pages : List (Bool × ℕ)) (bytes : List ℕ) → length pages < 1
    → bytes ≡ [] → Ends (Goes m w l p pages) l bytes (Some Whole) l
ends-whole m w l p [] bytes h over = record { events = []; lawful = (refl, refl); form = tt; text = over; after = refl }
ends-whole m w l p (page ∷ pages) bytes h over = absurd (omega (arith, h))

-- no page is left, and some notes are
pub ends-more : (m : Setting) (w : World) (l l' : Ledger) (p : ℕ) (pages : List (Bool × ℕ)) (bytes : List ℕ) → length pages < 1
    → (bytes ≡ [] → ⊥) → Ends (Goes m w l p pages) l bytes None l'
ends-more m w l l' p [] bytes h some = λ end events g form text. some (text ∙ ap (λ es. notes_text (notes_of es)) g.0)
ends-more m w l l' p (page ∷ pages) bytes h some = absurd (omega (arith, h))

module _ (m : Setting) (w : World) (l : Ledger) (p : ℕ) (page : Bool × ℕ) (pages : List (Bool × ℕ)) (bytes : List ℕ) where
  abbrev k : Key
  k = (p, page.1)

  -- the page isn't touched
  pub ends-none : (l1 l' : Ledger) (mid : List ℕ) → Meets (Served m w l page.0 k) (Stops m w l page.0 k) l bytes None l1 mid
      → Ends (Goes m w l p (page ∷ pages)) l bytes None l'
  ends-none l1 l' mid none = by
    where
      by : (end : End) (events : List Event) → Goes m w l p (page ∷ pages) end events → AllByRecursion IsNote (notes_of events)
          → bytes ≡ notes_text (notes_of events) → ⊥
      by end events (inl h) form text =
          none.goes tt h.0 (notes_text (notes_of h.1) ++ []) h.2
          (stand-parts bytes h.0 (notes_of h.1) [] (stand-events bytes (h.0 ++ notes_of h.1) events
          (ap notes_of h.3 ∙ served-notes page.0 k h.0 h.1) form text)).0
      by end events (inr h) form text =
          none.stops h.1 h.0 h.2 (stand-events bytes h.0 events (ap notes_of h.3 ∙ notes_of-note_events h.0) form text)

  -- it isn't served
  pub ends-stop : (l' : Ledger) (mid : List ℕ) (stop : Stop)
      → Meets (Served m w l page.0 k) (Stops m w l page.0 k) l bytes (Some (inr stop)) l' mid
      → Ends (Goes m w l p (page ∷ pages)) l bytes (Some (Stopped page.1 stop)) l'
  ends-stop l' mid stop h = record {
    events = note_events h.notes;
    lawful = inr (h.notes, stop, h.lawful, refl, refl);
    form = subst (AllByRecursion IsNote) (sym (notes_of-note_events h.notes)) h.stand.form;
    text = h.stand.text ∙ append-nil (notes_text h.notes) ∙ ap notes_text (sym (notes_of-note_events h.notes));
    after = h.after ∙ sym (note_events-all l h.notes);
  }

  -- it is, and then the rest
  pub ends-then : (l1 l2 l' : Ledger) (mid : List ℕ) (found : Option End)
      → Meets (Served m w l page.0 k) (Stops m w l page.0 k) l bytes (Some (inl tt)) l1 mid
      → l2 ≡ after_use page.0 k l1 → Ends (Goes m w l2 p pages) l2 mid found l'
      → Ends (Goes m w l p (page ∷ pages)) l bytes found l'
  ends-then l1 l2 l' mid found first used later = by found later
    where
      here : after_all l (page_events page.0 k first.notes None) ≡ l2
      here = served-after l page.0 k first.notes ∙ ap (after_use page.0 k) (sym first.after) ∙ sym used

      -- other notes of a page that is served are these
      same : (notes : List Note) (more : List Event) → Touches m w l page.0 k notes None
          → Stand bytes notes (notes_text (notes_of more) ++ []) × Stand (notes_text (notes_of more) ++ []) (notes_of more) []
          → (first.notes ≡ notes) × Stand mid (notes_of more) []
      same notes more h parts =
          let rest = notes_text (notes_of more) ++ [] in
          let on = go-on first.notes notes mid rest first.stand.form parts.0.form (sym first.stand.text ∙ parts.0.text) in
          let one = touches-told m w l page.0 k first.notes notes on.0 on.1 None None first.lawful h tt tt on.2 in
          let left : mid ≡ rest = append_cancel_left (notes_text first.notes) mid rest
          (sym first.stand.text ∙ parts.0.text ∙ ap (λ ns. notes_text ns ++ rest) (sym one.0)) in
          (one.0, subst (λ t. Stand t (notes_of more) []) (sym left) parts.1)

      -- and a page that is served isn't one that stops
      apart : (stop : Stop) (notes : List Note) → Touches m w l page.0 k notes (Some stop) → Stand bytes notes [] → ⊥
      apart stop notes h st =
          let on = front-of first.notes notes mid first.stand.form st.form
          (sym first.stand.text ∙ st.text ∙ append-nil (notes_text notes)) in
          differ (touches-told m w l page.0 k first.notes notes on.0 [] None (Some stop) first.lawful h tt refl
          (on.1 ∙ sym (append-nil notes))).1
        where
          differ : None ≡ Some stop → ⊥
          differ e = cc

      by : (found : Option End) → Ends (Goes m w l2 p pages) l2 mid found l' → Ends (Goes m w l p (page ∷ pages)) l bytes found l'
      by None none = each
        where
          each : (end : End) (events : List Event) → Goes m w l p (page ∷ pages) end events → AllByRecursion IsNote (notes_of events)
              → bytes ≡ notes_text (notes_of events) → ⊥
          each end events (inl h) form text =
              let one = same h.0 h.1 h.2 (stand-parts bytes h.0 (notes_of h.1) [] (stand-events bytes (h.0 ++ notes_of h.1) events
              (ap notes_of h.3 ∙ served-notes page.0 k h.0 h.1) form text)) in
              none end h.1
              (subst (λ n. Accesses m w n p pages h.1 end) here
              (subst (λ ns. Accesses m w (after_all l (page_events page.0 k ns None)) p pages h.1 end) (sym one.0) h.4))
              one.1.form (one.1.text ∙ append-nil (notes_text (notes_of h.1)))
          each end events (inr h) form text =
              apart h.1 h.0 h.2 (stand-events bytes h.0 events (ap notes_of h.3 ∙ notes_of-note_events h.0) form text)
      by (Some end) rest =
          let both = stand-both bytes mid [] first.notes (notes_of rest.events) first.stand
          (stand-all mid (notes_of rest.events) rest.form rest.text) in
          let notes = served-notes page.0 k first.notes rest.events in record {
            events = page_events page.0 k first.notes None ++ rest.events;
            lawful = inl (
              first.notes,
              rest.events,
              first.lawful,
              refl,
              subst (λ n. Accesses m w n p pages rest.events end) (sym here) rest.lawful,
            );
            form = subst (AllByRecursion IsNote) (sym notes) both.form;
            text = both.text ∙ append-nil (notes_text (first.notes ++ notes_of rest.events)) ∙ ap notes_text (sym notes);
            after = rest.after ∙ ap (λ n. after_all n rest.events) (sym here)
                ∙ sym (after_all-append l (page_events page.0 k first.notes None) rest.events);
          }

-- where what is told from here on is what is told, so is that a page isn't served
pub ends-kept : (m : Setting) (w : World) (l first l' : Ledger) (p : ℕ) (page : Bool × ℕ) (pages left all : List (Bool × ℕ))
    (bytes mid notes : List ℕ) (stop : Stop) → page ∷ pages ≡ left
    → Meets (Served m w l page.0 (p, page.1)) (Stops m w l page.0 (p, page.1)) l bytes (Some (inr stop)) l' mid
    → ((found : Option End) (l' : Ledger) → Ends (Goes m w l p left) l bytes found l' → Ends (Goes m w first p all) first notes found l')
    → Ends (Goes m w first p all) first notes (Some (Stopped page.1 stop)) l'
ends-kept m w l first l' p page pages left all bytes mid notes stop same here told =
    told (Some (Stopped page.1 stop)) l'
    (subst (λ ps. Ends (Goes m w l p ps) l bytes (Some (Stopped page.1 stop)) l') same (ends-stop m w l p page pages bytes l' mid stop here))

-- what all of a list have, those behind the first have
pub all-behind : {A : Type 0} (P : A → Type 0) (xs : List A) (d : A) → 1 ≤ length xs → AllByRecursion P xs
    → AllByRecursion P (take (length xs - 1) (drop 1 xs))
all-behind P xs d h all = (subst (AllByRecursion P) (sym (slice-cons xs d h)) all).1
