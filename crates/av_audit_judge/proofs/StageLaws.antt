-- Pages that may stop, part by part.
use Rattle.std.proofs.Common.{◌≡◌, ◌⊎◌, inl, inr, ℕ, Option, Some, None, List, [], ◌++◌, sym, ap, subst, ◌∙◌, append-nil}
use Rattle.std.proofs.lemmas.List.{append_cancel_left}
use Rattle.av_trace.specs.declared.note.Note.{Note}
use Rattle.av_trace.specs.Print.{notes_text}
use Rattle.av_plain.specs.Event.{after_notes}
use Rattle.av_plain.specs.Ledger.{Ledger}
use Rattle.av_plain.proofs.Access.{after_notes-append}
use Rattle.av_audit_judge.specs.Finds.{Stand}
use Rattle.av_audit_judge.specs.Stage.{Meets}
use Rattle.av_audit_judge.proofs.Finds.{TellsValue, front-of, go-on, stand-both, stand-parts}

-- two stages: what goes on after both, and where either stops
pub record InStages {X Y S : Type 0} (Goes : Y → List Note → Type 0) (Stops : S → List Note → Type 0)
    (First : X → List Note → Type 0) (Halts : S → List Note → Type 0)
    (Second : X → List Note → Y → List Note → Type 0) (Ends : X → List Note → S → List Note → Type 0) : Type 0 where
  pub split : (y : Y) (ns : List Note) → Goes y ns
      → (x : X) × (a : List Note) × (b : List Note) × First x a × Second x a y b × (ns ≡ a ++ b)
  pub join : (x : X) (y : Y) (a b : List Note) → First x a → Second x a y b → Goes y (a ++ b)
  pub stop : (s : S) (ns : List Note) → Stops s ns
      → Halts s ns ⊎ ((x : X) × (a : List Note) × (b : List Note) × First x a × Ends x a s b × (ns ≡ a ++ b))
  pub halt : (s : S) (ns : List Note) → Halts s ns → Stops s ns
  pub end : (x : X) (s : S) (a b : List Note) → First x a → Ends x a s b → Stops s (a ++ b)
  pub told : TellsValue First
  -- what goes on isn't the front of what halts
  pub apart : (x : X) (s : S) (a b u : List Note) → First x a → Halts s b → a ++ u ≡ b → ⊥

module _ {X Y S : Type 0} (Goes : Y → List Note → Type 0) (Stops : S → List Note → Type 0)
    (First : X → List Note → Type 0) (Halts : S → List Note → Type 0)
    (Second : X → List Note → Y → List Note → Type 0) (Ends : X → List Note → S → List Note → Type 0)
    (p : InStages Goes Stops First Halts Second Ends) where
  -- nothing of the first stage stands there
  pub meets-neither : (l l1 l' : Ledger) (bytes mid rest : List ℕ) → Meets First Halts l bytes None l1 mid
      → Meets Goes Stops l bytes None l' rest
  meets-neither l l1 l' bytes mid rest none = record {
    goes = λ y notes more h s. let q = p.split y notes h in
        none.goes q.0 q.1 (notes_text q.2 ++ more) q.3 (stand-parts bytes q.1 q.2 more (subst (λ ns. Stand bytes ns more) q.5 s)).0;
    stops = λ s notes h t. by s notes t (p.stop s notes h);
  }
    where
      by : (s : S) (notes : List Note) → Stand bytes notes []
          → Halts s notes ⊎ ((x : X) × (a : List Note) × (b : List Note) × First x a × Ends x a s b × (notes ≡ a ++ b)) → ⊥
      by s notes t (inl h) = none.stops s notes h t
      by s notes t (inr q) =
          none.goes q.0 q.1 (notes_text q.2 ++ []) q.3 (stand-parts bytes q.1 q.2 [] (subst (λ ns. Stand bytes ns []) q.5 t)).0

  -- the first stage stops
  pub meets-halt : (l l' : Ledger) (bytes mid rest : List ℕ) (s : S) → Meets First Halts l bytes (Some (inr s)) l' mid
      → Meets Goes Stops l bytes (Some (inr s)) l' rest
  meets-halt l l' bytes mid rest s h = record { notes = h.notes; lawful = p.halt s h.notes h.lawful; stand = h.stand; after = h.after }

  -- the first stage goes on, and the second is met behind it
  pub meets-then : (l l1 l' : Ledger) (bytes mid rest : List ℕ) (x : X) (value : Option (Y ⊎ S))
      → Meets First Halts l bytes (Some (inl x)) l1 mid
      → ((a : List Note) → First x a → l1 ≡ after_notes l a → Meets (Second x a) (Ends x a) l1 mid value l' rest)
      → Meets Goes Stops l bytes value l' rest
  meets-then l l1 l' bytes mid rest x None first second =
      let here = second first.notes first.lawful first.after in record {
        goes = λ y notes more h s.
            let q = p.split y notes h in
            let one = same q.0 q.1 q.2 more q.3 (stand-parts bytes q.1 q.2 more (subst (λ ns. Stand bytes ns more) q.5 s)) in
            here.goes y q.2 more
            (subst (λ a. Second x a y q.2) (sym one.1) (subst (λ z. Second z q.1 y q.2) (sym one.0) q.4))
            one.2;
        stops = λ s notes h t. by s notes t (p.stop s notes h);
      }
    where
      same : (z : X) (a b : List Note) (more : List ℕ) → First z a
          → Stand bytes a (notes_text b ++ more) × Stand (notes_text b ++ more) b more
          → (x ≡ z) × (first.notes ≡ a) × Stand mid b more
      same z a b more h parts =
          let on = go-on first.notes a mid (notes_text b ++ more) first.stand.form parts.0.form (sym first.stand.text ∙ parts.0.text) in
          let one = p.told x z first.notes a on.0 on.1 first.lawful h on.2 in
          let left : mid ≡ notes_text b ++ more = append_cancel_left (notes_text first.notes) mid (notes_text b ++ more)
          (sym first.stand.text ∙ parts.0.text ∙ ap (λ n. notes_text n ++ (notes_text b ++ more)) (sym one.1)) in
          (one.0, one.1, subst (λ t. Stand t b more) (sym left) parts.1)

      by : (s : S) (notes : List Note) → Stand bytes notes []
          → Halts s notes ⊎ ((z : X) × (a : List Note) × (b : List Note) × First z a × Ends z a s b × (notes ≡ a ++ b)) → ⊥
      by s notes t (inl h) =
          let on = whole_of first.notes notes mid first.stand t in p.apart x s first.notes notes on.0 first.lawful h on.1
        where
          whole_of : (a b : List Note) (r : List ℕ) → Stand bytes a r → Stand bytes b [] → (u : List Note) × (a ++ u ≡ b)
          whole_of a b r s t = front-of a b r s.form t.form (sym s.text ∙ t.text ∙ append-nil (notes_text b))
      by s notes t (inr q) =
          let one = same q.0 q.1 q.2 [] q.3 (stand-parts bytes q.1 q.2 [] (subst (λ ns. Stand bytes ns []) q.5 t)) in
          (second first.notes first.lawful first.after).stops s q.2
          (subst (λ a. Ends x a s q.2) (sym one.1) (subst (λ z. Ends z q.1 s q.2) (sym one.0) q.4))
          one.2
  meets-then l l1 l' bytes mid rest x (Some (inl y)) first second =
      let then = second first.notes first.lawful first.after in record {
        notes = first.notes ++ then.notes;
        lawful = p.join x y first.notes then.notes first.lawful then.lawful;
        stand = stand-both bytes mid rest first.notes then.notes first.stand then.stand;
        after = then.after ∙ ap (λ m. after_notes m then.notes) first.after ∙ sym (after_notes-append l first.notes then.notes);
      }
  meets-then l l1 l' bytes mid rest x (Some (inr s)) first second =
      let then = second first.notes first.lawful first.after in record {
        notes = first.notes ++ then.notes;
        lawful = p.end x s first.notes then.notes first.lawful then.lawful;
        stand = stand-both bytes mid [] first.notes then.notes first.stand then.stand;
        after = then.after ∙ ap (λ m. after_notes m then.notes) first.after ∙ sym (after_notes-append l first.notes then.notes);
      }

-- other notes are lawful in the same way
pub meets-as : {X S : Type 0} (Goes Goes' : X → List Note → Type 0) (Stops Stops' : S → List Note → Type 0) (l l' : Ledger) (bytes rest : List ℕ)
    (found : Option (X ⊎ S)) → ((x : X) (ns : List Note) → Goes x ns → Goes' x ns) → ((x : X) (ns : List Note) → Goes' x ns → Goes x ns)
    → ((s : S) (ns : List Note) → Stops s ns → Stops' s ns) → ((s : S) (ns : List Note) → Stops' s ns → Stops s ns)
    → Meets Goes Stops l bytes found l' rest → Meets Goes' Stops' l bytes found l' rest
meets-as Goes Goes' Stops Stops' l l' bytes rest None to from stops back h = record {
  goes = λ x ns more g st. h.goes x ns more (from x ns g) st;
  stops = λ s ns g st. h.stops s ns (back s ns g) st;
}
meets-as Goes Goes' Stops Stops' l l' bytes rest (Some (inl x)) to from stops back h =
    record { notes = h.notes; lawful = to x h.notes h.lawful; stand = h.stand; after = h.after }
meets-as Goes Goes' Stops Stops' l l' bytes rest (Some (inr s)) to from stops back h =
    record { notes = h.notes; lawful = stops s h.notes h.lawful; stand = h.stand; after = h.after }
