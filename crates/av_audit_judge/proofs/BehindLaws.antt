-- What is read behind a pass, where nothing may follow one that ends the unit.
use Rattle.std.proofs.Common.{◌≡◌, ◌⊎◌, inr, ℕ, true, false, Option, None, List, [], ◌++◌, refl, sym, ap, subst, ◌∙◌, append-nil}
use Rattle.av_trace.specs.declared.note.Note.{Note}
use Rattle.av_plain.specs.Event.{after_notes}
use Rattle.av_plain.specs.Ledger.{Ledger, Setting}
use Rattle.av_plain.specs.Pass.{Seeks, Spared}
use Rattle.av_audit_laws.proofs.ToldPass.{seeks-told}
use Rattle.av_audit_judge.specs.Finds.{Reads}
use Rattle.av_audit_judge.specs.Stage.{Meets}
use Rattle.av_audit_judge.proofs.StageLaws.{InStages, meets-neither, meets-then}

-- by the ledger after the pass, what goes on, and where it stops without a note
module _ {Y S : Type 0} (m : Setting) (sp : Spared) (l : Ledger) (Goes : Ledger → Y → List Note → Type 0)
    (Stops : Ledger → S → Type 0) where
  -- the pass, and what goes on behind it
  abbrev pub GoesBehind : Y → List Note → Type 0
  GoesBehind y notes = (sought : List Note) × (more : List Note) × Seeks m sp l sought × Goes (after_notes l sought) y more
      × (notes ≡ sought ++ more)

  -- the pass alone
  abbrev pub StopsBehind : S → List Note → Type 0
  StopsBehind s notes = Seeks m sp l notes × Stops (after_notes l notes) s

  -- no note more
  abbrev pub StopsAt : Ledger → S → List Note → Type 0
  StopsAt n s notes = Stops n s × (notes ≡ [])

  abbrev Never : S → List Note → Type 0
  Never s notes = ⊥

  behind-stages : InStages GoesBehind StopsBehind (λ (u : Unit {0}). Seeks m sp l) Never (λ u a. Goes (after_notes l a))
      (λ u a. StopsAt (after_notes l a))
  behind-stages = record {
    split = λ y ns h. (tt, h.0, h.1, h.2, h.3, h.4);
    join = λ u y a b h g. (a, b, h, g, refl);
    stop = λ s ns h. inr (tt, ns, [], h.0, (h.1, refl), sym (append-nil ns));
    halt = λ s ns h. absurd h;
    end = λ u s a b h g. (
      subst (Seeks m sp l) (sym (nothing a b g.1)) h,
      subst (λ ns. Stops (after_notes l ns) s) (sym (nothing a b g.1)) g.0,
    );
    told = λ u v a b x y h g e. (refl, seeks-told m sp l a b x y h g e);
    apart = λ u s a b x h g e. g;
  }
    where
      nothing : (a b : List Note) → b ≡ [] → a ++ b ≡ a
      nothing a b e = ap (λ r. a ++ r) e ∙ append-nil a

  -- it isn't the pass that stands there
  pub unsought : (l1 l' : Ledger) (bytes mid rest : List ℕ) → Reads (Seeks m sp l) l bytes false l1 mid
      → Meets GoesBehind StopsBehind l bytes None l' rest
  unsought l1 l' bytes mid rest none =
      meets-neither GoesBehind StopsBehind (λ (u : Unit {0}). Seeks m sp l) Never (λ u a. Goes (after_notes l a))
      (λ u a. StopsAt (after_notes l a)) behind-stages l l1 l' bytes mid rest
      (record { goes = λ u notes more h st. none notes more h st; stops = λ s notes h st. h })

  -- it is, and this is met behind it
  pub sought-then : (l1 l' : Ledger) (bytes mid rest : List ℕ) (value : Option (Y ⊎ S)) → Reads (Seeks m sp l) l bytes true l1 mid
      → Meets (Goes l1) (StopsAt l1) l1 mid value l' rest → Meets GoesBehind StopsBehind l bytes value l' rest
  sought-then l1 l' bytes mid rest value first second =
      meets-then GoesBehind StopsBehind (λ (u : Unit {0}). Seeks m sp l) Never (λ u a. Goes (after_notes l a))
      (λ u a. StopsAt (after_notes l a)) behind-stages l l1 l' bytes mid rest tt value
      first (λ a h e. subst (λ n. Meets (Goes n) (StopsAt n) l1 mid value l' rest) e second)
