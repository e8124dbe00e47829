-- A page comes in, part by part.
use Rattle.std.proofs.Common.{◌≡◌, inl, inr, ℕ, Bool, true, false, cond, Option, Some, None, List, [], ◌∷◌, ◌++◌, refl, sym, ap, ◌∙◌, append_assoc}
use Rattle.av_base.specs.Page.{address_of}
use Rattle.av_base.specs.declared.slot.Slot.{Slot}
use Rattle.av_trace.specs.declared.note.Note.{Note}
use Rattle.av_trace.specs.declared.note.Note.TheVariants.{Loaded, Mapped}
use Rattle.av_plain.specs.Event.{after_notes}
use Rattle.std.specs.Prelude.{option_map}
use Rattle.av_base.specs.Keys.{Key}
use Rattle.av_plain.specs.Ledger.{Cached, Ledger, Setting, frame_at, same_slot}
use Rattle.av_plain.specs.Pass.{Spared, TakesFor}
use Rattle.av_plain.proofs.Access.{after_notes-append}
use Rattle.av_plain.proofs.Sound.Counts.{slot-itself}
use Rattle.av_audit_judge.specs.Come.{ComesFrom, IsKeptOut}
use Rattle.av_audit_judge.specs.Fetch.{AreFetched}
use Rattle.av_audit_judge.specs.Finds.{Reads}
use Rattle.av_audit_judge.specs.Stage.{Meets}
use Rattle.av_audit_judge.proofs.Finds.{TellsValue}
use Rattle.av_audit_judge.proofs.StageLaws.{InStages, meets-halt, meets-neither, meets-then}
use Rattle.av_audit_laws.proofs.ToldPass.{head-of, sought-told, taken-goes-on, with-lists}

-- what was fetched is a note that takes a frame
takes : (m : Setting) (sp : Spared) (l : Ledger) (s : Slot) (f : ℕ) (ns : List Note) → AreFetched m sp l s f ns → TakesFor m sp l ns (Loaded s)
takes m sp l s f ns h = record {
  sought = h.0;
  frame = f;
  seeks = h.2;
  in_range = h.3.0;
  free = h.3.1;
  whole = h.4 ∙ ap (λ r. h.0 ++ r) h.3.2;
}

-- and the slot is cached there
pub fetched-at : (m : Setting) (sp : Spared) (l : Ledger) (s : Slot) (f : ℕ) (ns : List Note) → AreFetched m sp l s f ns
    → frame_at (after_notes l ns) s ≡ Some f
fetched-at m sp l s f ns h =
    ap (λ r. frame_at (after_notes l r) s) (h.4 ∙ ap (λ r. h.0 ++ r) h.3.2)
    ∙ ap (λ n. frame_at n s) (after_notes-append l h.0 (Loaded s f ∷ []))
    ∙ here (same_slot s s) _ (slot-itself s)
  where
    here : (b : Bool) (rest : Option Cached) → b ≡ true
        → option_map (λ (c : Cached). c.frame) (cond b (Some (record { slot = s; frame = f; stale = false })) rest) ≡ Some f
    here true rest e = refl
    here false rest e = cc

fetched-tells : (m : Setting) (sp : Spared) (l : Ledger) (s : Slot) → TellsValue (AreFetched m sp l s)
fetched-tells m sp l s f g a b x y h i e =
    let whole : (h.0 ++ Loaded s f ∷ []) ++ x ≡ (i.0 ++ Loaded s g ∷ []) ++ y =
    with-lists x y (h.4 ∙ ap (λ r. h.0 ++ r) h.3.2) (i.4 ∙ ap (λ r. i.0 ++ r) i.3.2) e in
    let split : h.0 ++ (Loaded s f ∷ x) ≡ i.0 ++ (Loaded s g ∷ y) =
    sym (append_assoc h.0 (Loaded s f ∷ []) x) ∙ whole ∙ append_assoc i.0 (Loaded s g ∷ []) y in
    let one = sought-told m sp l h.0 i.0 (Loaded s f ∷ x) (Loaded s g ∷ y) h.2 i.2 split in
    let frame : f ≡ g = inner (head-of one.1) in
    (frame, h.4 ∙ ap (λ r. h.0 ++ r) h.3.2 ∙ (λ j. one.0 j ++ Loaded s (frame j) ∷ []) ∙ sym (i.4 ∙ ap (λ r. i.0 ++ r) i.3.2))
  where
    inner : Loaded s f ≡ Loaded s g → f ≡ g
    inner e = cc

abbrev pub IsMapped : Key → ℕ → List Note → Unit {0} → List Note → Type 0
IsMapped k f a u b = b ≡ Mapped k.0 (address_of k.1) f ∷ []

abbrev Nowhere : ℕ → List Note → Bool → List Note → Type 0
Nowhere f a free b = ⊥

pub come-stages : (m : Setting) (sp : Spared) (l : Ledger) (k : Key) (s : Slot)
    → InStages (ComesFrom m sp l k s) (IsKeptOut m sp l) (AreFetched m sp l s) (IsKeptOut m sp l) (IsMapped k) Nowhere
come-stages m sp l k s = record {
  split = λ u ns h.
      let fetched = to_fetched h.0 h.2 in
      let frame : h.1 ≡ h.2.frame = some (sym h.3 ∙ fetched-at m sp l s h.2.frame h.0 fetched) in
      (h.2.frame, h.0, Mapped k.0 (address_of k.1) h.1 ∷ [], fetched, ap (λ f. Mapped k.0 (address_of k.1) f ∷ []) frame, h.4);
  join = λ f u a b h g.
      (a, f, takes m sp l s f a h, fetched-at m sp l s f a h, ap (λ r. a ++ r) g);
  stop = λ free ns h. inl h;
  halt = λ free ns h. h;
  end = λ f free a b h g. absurd g;
  told = fetched-tells m sp l s;
  apart = λ f free a b u h g e.
      taken-goes-on m sp l a b u (Loaded s) (takes m sp l s f a h) g.0 e;
}
  where
    some : {x y : ℕ} → Some x ≡ Some y → x ≡ y
    some e = cc

    to_fetched : (ns : List Note) (t : TakesFor m sp l ns (Loaded s)) → AreFetched m sp l s t.frame ns
    to_fetched ns t = (t.sought, Loaded s t.frame ∷ [], t.seeks, (t.in_range, t.free, refl), t.whole)

-- ---- what is met

pub come-unfetched : (m : Setting) (sp : Spared) (l l1 l' : Ledger) (k : Key) (s : Slot) (bytes mid rest : List ℕ)
    → Meets (AreFetched m sp l s) (IsKeptOut m sp l) l bytes None l1 mid
    → Meets (ComesFrom m sp l k s) (IsKeptOut m sp l) l bytes None l' rest
come-unfetched m sp l l1 l' k s bytes mid rest none =
    meets-neither (ComesFrom m sp l k s) (IsKeptOut m sp l) (AreFetched m sp l s) (IsKeptOut m sp l) (IsMapped k) Nowhere
    (come-stages m sp l k s) l l1 l' bytes mid rest none

pub come-kept-out : (m : Setting) (sp : Spared) (l l' : Ledger) (k : Key) (s : Slot) (bytes mid rest : List ℕ) (free : Bool)
    → Meets (AreFetched m sp l s) (IsKeptOut m sp l) l bytes (Some (inr free)) l' mid
    → Meets (ComesFrom m sp l k s) (IsKeptOut m sp l) l bytes (Some (inr free)) l' rest
come-kept-out m sp l l' k s bytes mid rest free h =
    meets-halt (ComesFrom m sp l k s) (IsKeptOut m sp l) (AreFetched m sp l s) (IsKeptOut m sp l) (IsMapped k) Nowhere
    (come-stages m sp l k s) l l' bytes mid rest free h

pub come-mapped : (m : Setting) (sp : Spared) (l l1 l' : Ledger) (k : Key) (s : Slot) (f : ℕ) (bytes mid rest : List ℕ)
    → Meets (AreFetched m sp l s) (IsKeptOut m sp l) l bytes (Some (inl f)) l1 mid
    → Reads (λ ns. ns ≡ Mapped k.0 (address_of k.1) f ∷ []) l1 mid true l' rest
    → Meets (ComesFrom m sp l k s) (IsKeptOut m sp l) l bytes (Some (inl tt)) l' rest
come-mapped m sp l l1 l' k s f bytes mid rest first second =
    meets-then (ComesFrom m sp l k s) (IsKeptOut m sp l) (AreFetched m sp l s) (IsKeptOut m sp l) (IsMapped k) Nowhere
    (come-stages m sp l k s) l l1 l' bytes mid rest f (Some (inl tt)) first (λ a h e. second)

pub come-unmapped : (m : Setting) (sp : Spared) (l l1 l' l2 : Ledger) (k : Key) (s : Slot) (f : ℕ) (bytes mid rest more : List ℕ)
    → Meets (AreFetched m sp l s) (IsKeptOut m sp l) l bytes (Some (inl f)) l1 mid
    → Reads (λ ns. ns ≡ Mapped k.0 (address_of k.1) f ∷ []) l1 mid false l2 more
    → Meets (ComesFrom m sp l k s) (IsKeptOut m sp l) l bytes None l' rest
come-unmapped m sp l l1 l' l2 k s f bytes mid rest more first none =
    meets-then (ComesFrom m sp l k s) (IsKeptOut m sp l) (AreFetched m sp l s) (IsKeptOut m sp l) (IsMapped k) Nowhere
    (come-stages m sp l k s) l l1 l' bytes mid rest f None first
    (λ a h e. record { goes = λ u notes other g st. none notes other g st; stops = λ free notes g st. g })
