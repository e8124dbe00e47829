-- A slot is emptied, part by part.
use Rattle.std.proofs.Common.{◌≡◌, ◌⊎◌, inl, inr, ℕ, Bool, true, false, Option, Some, None, List, [], ◌∷◌, ◌++◌, refl, sym, ap, subst, ◌∙◌}
use Rattle.std.specs.Prelude.{MatchOption}
use Rattle.av_base.specs.declared.slot.Slot.{Slot}
use Rattle.av_trace.specs.declared.note.Note.{Note}
use Rattle.av_trace.specs.declared.note.Note.TheVariants.{Dropped, Loaded}
use Rattle.av_plain.specs.Event.{after_notes}
use Rattle.av_plain.specs.Ledger.{Ledger, Setting, frame_at, keys_of_slot}
use Rattle.av_plain.specs.Pass.{Seeks, Spared, TakesFor}
use Rattle.av_plain.specs.Swapoff.{IsFetched, map_notes}
use Rattle.av_audit_judge.specs.Fetch.{AreFetched, IsUnfetched}
use Rattle.av_audit_judge.specs.Finds.{Reads}
use Rattle.av_audit_judge.specs.Stage.{Meets}
use Rattle.av_audit_judge.proofs.ComeLaws.{fetched-at}
use Rattle.av_audit_judge.proofs.Finds.{reads-no-first, reads-then, stand-none}
use Rattle.av_audit_judge.proofs.ReclaimLaws.{both-notes}
use Rattle.av_audit_judge.proofs.StageLaws.{InStages, meets-as, meets-halt, meets-neither, meets-then}
use Rattle.av_audit_laws.proofs.ToldPass.{taken-goes-on}
use Rattle.av_audit_laws.proofs.ToldSwap.{fetches-told}
use Rattle.av_audit_swapoff.specs.Empty.{Empties, IsStuck}
use Rattle.av_audit_swapoff.proofs.UserLaws.{maps_notes}

-- ---- the page of a slot

abbrev Taken : Setting → Spared → Ledger → Slot → ℕ → List Note → Type 0
Taken m sp l s f ns = TakesFor m sp l ns (Loaded s) × (frame_at (after_notes l ns) s ≡ Some f)

fetched-taken : (m : Setting) (sp : Spared) (l : Ledger) (s : Slot) (f : ℕ) (ns : List Note) → AreFetched m sp l s f ns → Taken m sp l s f ns
fetched-taken m sp l s f ns h = (
  record {
    sought = h.0;
    frame = f;
    seeks = h.2;
    in_range = h.3.0;
    free = h.3.1;
    whole = h.4 ∙ ap (λ r. h.0 ++ r) h.3.2;
  },
  fetched-at m sp l s f ns h,
)

taken-fetched : (m : Setting) (sp : Spared) (l : Ledger) (s : Slot) (f : ℕ) (ns : List Note) → Taken m sp l s f ns → AreFetched m sp l s f ns
taken-fetched m sp l s f ns h =
    let t = h.0 in
    let fetched : AreFetched m sp l s t.frame ns = (t.sought, Loaded s t.frame ∷ [], t.seeks, (t.in_range, t.free, refl), t.whole) in
    subst (λ f. AreFetched m sp l s f ns) (some (sym (fetched-at m sp l s t.frame ns fetched) ∙ h.1)) fetched
  where
    some : {x y : ℕ} → Some x ≡ Some y → x ≡ y
    some e = cc

-- it is in the frame that caches it
pub brought-here : (m : Setting) (sp : Spared) (l : Ledger) (s : Slot) (f : ℕ) (bytes : List ℕ) → frame_at l s ≡ Some f
    → Meets (IsFetched m sp l s) (IsStuck m sp l s) l bytes (Some (inl f)) l bytes
brought-here m sp l s f bytes e = record {
  notes = [];
  lawful = subst (λ o. MatchOption o (Taken m sp l s f []) (λ cached. (◌≡◌ {A = List Note} [] []) × (f ≡ cached))) (sym e) (refl, refl);
  stand = stand-none bytes;
  after = refl;
}

-- or it is fetched
pub brought : (m : Setting) (sp : Spared) (l l' : Ledger) (s : Slot) (bytes rest : List ℕ) (found : Option (ℕ ⊎ Bool)) → frame_at l s ≡ None
    → Meets (AreFetched m sp l s) (IsUnfetched m sp l) l bytes found l' rest
    → Meets (IsFetched m sp l s) (IsStuck m sp l s) l bytes found l' rest
brought m sp l l' s bytes rest found e =
    meets-as (AreFetched m sp l s) (IsFetched m sp l s) (IsUnfetched m sp l) (IsStuck m sp l s) l l' bytes rest found
    (λ f ns h. subst (λ o. MatchOption o (Taken m sp l s f ns) (λ cached. (ns ≡ []) × (f ≡ cached))) (sym e) (fetched-taken m sp l s f ns h))
    (λ f ns h. taken-fetched m sp l s f ns
    (subst (λ o. MatchOption o (Taken m sp l s f ns) (λ cached. (ns ≡ []) × (f ≡ cached))) e h))
    (λ free ns h. (e, h)) (λ free ns h. h.1)

-- ---- its entries, and the drop

pub frees-not : (l l1 l' : Ledger) (s : Slot) (f : ℕ) (bytes mid rest : List ℕ)
    → Reads (λ ns. ns ≡ maps_notes f (keys_of_slot l s)) l bytes false l1 mid → Reads (λ ns. ns ≡ map_notes l s f) l bytes false l' rest
frees-not l l1 l' s f bytes mid rest none =
    reads-no-first (λ ns. ns ≡ map_notes l s f) (λ ns. ns ≡ maps_notes f (keys_of_slot l s)) (λ _ ns. ns ≡ Dropped s ∷ [])
    l l1 l' bytes mid rest (both-notes (maps_notes f (keys_of_slot l s)) (Dropped s ∷ [])) none

pub frees-then : (l l1 l' : Ledger) (s : Slot) (f : ℕ) (bytes mid rest : List ℕ) (read : Bool)
    → Reads (λ ns. ns ≡ maps_notes f (keys_of_slot l s)) l bytes true l1 mid → Reads (λ ns. ns ≡ Dropped s ∷ []) l1 mid read l' rest
    → Reads (λ ns. ns ≡ map_notes l s f) l bytes read l' rest
frees-then l l1 l' s f bytes mid rest read first second =
    reads-then (λ ns. ns ≡ map_notes l s f) (λ ns. ns ≡ maps_notes f (keys_of_slot l s)) (λ _ ns. ns ≡ Dropped s ∷ [])
    l l1 l' bytes mid rest read (both-notes (maps_notes f (keys_of_slot l s)) (Dropped s ∷ [])) first (λ a g e. second)

-- ---- both

-- a frame that is taken goes on behind a pass
pub stuck-apart : (m : Setting) (sp : Spared) (l : Ledger) (s : Slot) (f : ℕ) (a b u : List Note) → IsFetched m sp l s f a
    → frame_at l s ≡ None → Seeks m sp l b → a ++ u ≡ b → ⊥
stuck-apart m sp l s f a b u h none seeks e =
    taken-goes-on m sp l a b u (Loaded s)
    (subst (λ o. MatchOption o (Taken m sp l s f a) (λ cached. (a ≡ []) × (f ≡ cached))) none h).0 seeks e

abbrev AreFreed : Ledger → Slot → ℕ → List Note → Unit {0} → List Note → Type 0
AreFreed l s f a u b = b ≡ map_notes (after_notes l a) s f

abbrev Nowhere : ℕ → List Note → Bool → List Note → Type 0
Nowhere f a free b = ⊥

empty-stages : (m : Setting) (sp : Spared) (l : Ledger) (s : Slot)
    → InStages (Empties m sp l s) (IsStuck m sp l s) (IsFetched m sp l s) (IsStuck m sp l s) (AreFreed l s) Nowhere
empty-stages m sp l s = record {
  split = λ u ns h. (h.frame, h.fetched, map_notes (after_notes l h.fetched) s h.frame, h.fetches, refl, h.whole);
  join = λ f u a b h g. record { fetched = a; frame = f; fetches = h; whole = ap (λ r. a ++ r) g };
  stop = λ free ns h. inl h;
  halt = λ free ns h. h;
  end = λ f free a b h g. absurd g;
  told = λ f g a b x y h i e. let same = fetches-told m sp l s f g a b x y h i e in (same.1, same.0);
  apart = λ f free a b u h g e. stuck-apart m sp l s f a b u h g.0 g.1.0 e;
}

pub empty-unbrought : (m : Setting) (sp : Spared) (l l1 l' : Ledger) (s : Slot) (bytes mid rest : List ℕ)
    → Meets (IsFetched m sp l s) (IsStuck m sp l s) l bytes None l1 mid → Meets (Empties m sp l s) (IsStuck m sp l s) l bytes None l' rest
empty-unbrought m sp l l1 l' s bytes mid rest none =
    meets-neither (Empties m sp l s) (IsStuck m sp l s) (IsFetched m sp l s) (IsStuck m sp l s) (AreFreed l s) Nowhere (empty-stages m sp l s)
    l l1 l' bytes mid rest none

pub empty-stuck : (m : Setting) (sp : Spared) (l l' : Ledger) (s : Slot) (bytes mid rest : List ℕ) (free : Bool)
    → Meets (IsFetched m sp l s) (IsStuck m sp l s) l bytes (Some (inr free)) l' mid
    → Meets (Empties m sp l s) (IsStuck m sp l s) l bytes (Some (inr free)) l' rest
empty-stuck m sp l l' s bytes mid rest free h =
    meets-halt (Empties m sp l s) (IsStuck m sp l s) (IsFetched m sp l s) (IsStuck m sp l s) (AreFreed l s) Nowhere (empty-stages m sp l s)
    l l' bytes mid rest free h

pub empty-freed : (m : Setting) (sp : Spared) (l l1 l' : Ledger) (s : Slot) (f : ℕ) (bytes mid rest : List ℕ)
    → Meets (IsFetched m sp l s) (IsStuck m sp l s) l bytes (Some (inl f)) l1 mid
    → Reads (λ ns. ns ≡ map_notes l1 s f) l1 mid true l' rest
    → Meets (Empties m sp l s) (IsStuck m sp l s) l bytes (Some (inl tt)) l' rest
empty-freed m sp l l1 l' s f bytes mid rest first second =
    meets-then (Empties m sp l s) (IsStuck m sp l s) (IsFetched m sp l s) (IsStuck m sp l s) (AreFreed l s) Nowhere (empty-stages m sp l s)
    l l1 l' bytes mid rest f (Some (inl tt)) first
    (λ a h e. subst (λ n. Reads (λ ns. ns ≡ map_notes n s f) l1 mid true l' rest) e second)

pub empty-unfreed : (m : Setting) (sp : Spared) (l l1 l2 l' : Ledger) (s : Slot) (f : ℕ) (bytes mid more rest : List ℕ)
    → Meets (IsFetched m sp l s) (IsStuck m sp l s) l bytes (Some (inl f)) l1 mid
    → Reads (λ ns. ns ≡ map_notes l1 s f) l1 mid false l2 more
    → Meets (Empties m sp l s) (IsStuck m sp l s) l bytes None l' rest
empty-unfreed m sp l l1 l2 l' s f bytes mid more rest first none =
    meets-then (Empties m sp l s) (IsStuck m sp l s) (IsFetched m sp l s) (IsStuck m sp l s) (AreFreed l s) Nowhere (empty-stages m sp l s)
    l l1 l' bytes mid rest f None first
    (λ a h e. record {
      goes = λ u ns other g st. none ns other (subst (λ n. ns ≡ map_notes n s f) (sym e) g) st;
      stops = λ free ns g st. g;
    })
