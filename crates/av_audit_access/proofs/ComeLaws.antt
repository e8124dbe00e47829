-- A page comes in.
use Rattle.std.proofs.Common.{◌≡◌, ◌⊎◌, inl, inr, ℕ, Bool, true, false, Option, Some, None, List, [], ◌∷◌, refl, sym, ap, subst, ◌∙◌}
use Rattle.av_base.specs.Keys.{Key}
use Rattle.av_base.specs.Page.{address_of}
use Rattle.av_base.specs.declared.slot.Slot.{Slot}
use Rattle.av_trace.specs.declared.note.Note.{Note}
use Rattle.av_trace.specs.declared.note.Note.TheVariants.{Mapped}
use Rattle.av_trace.specs.declared.reply.OutOf.{OutOf}
use Rattle.av_plain.specs.Fault.{ComesIn, Need, SwapIn, MapCached, Sparing, Stop, Denied, Starved, Lost}
use Rattle.av_plain.specs.Ledger.{Ledger, Setting}
use Rattle.av_plain.specs.Pass.{Spared, out_of}
use Rattle.av_audit_judge.specs.Come.{ComesFrom, IsKeptOut}
use Rattle.av_audit_judge.specs.Finds.{Reads, Stand}
use Rattle.av_audit_judge.specs.Stage.{Meets}
use Rattle.av_audit_judge.proofs.Finds.{stand-none}
use Rattle.av_audit_access.specs.Come.{IsKept, IsKeptBy}

abbrev pub Comes : Setting → Sparing → Ledger → Key → Need → Unit {0} → List Note → Type 0
Comes m sp l k n u = ComesIn m sp l k n

-- by another name of what is spared, and of what is met
pub come-as : (m : Setting) (a b : Spared) (l l' : Ledger) (k : Key) (s : Slot) (bytes rest : List ℕ) (x y : Option (Unit {0} ⊎ Bool)) → a ≡ b → x ≡ y
    → Meets (ComesFrom m a l k s) (IsKeptOut m a l) l bytes x l' rest → Meets (ComesFrom m b l k s) (IsKeptOut m b l) l bytes y l' rest
come-as m a b l l' k s bytes rest x y same is h =
    subst (λ found. Meets (ComesFrom m b l k s) (IsKeptOut m b l) l bytes found l' rest) is
    (subst (λ sp. Meets (ComesFrom m sp l k s) (IsKeptOut m sp l) l bytes x l' rest) same h)

module _ (m : Setting) (sp : Sparing) (l : Ledger) (k : Key) (s : Slot) (bytes rest : List ℕ) where
  pub from-none : (l1 l' : Ledger) (mid : List ℕ) → Meets (ComesFrom m (sp l None) l k s) (IsKeptOut m (sp l None) l) l bytes None l1 mid
      → Meets (Comes m sp l k (SwapIn s)) (IsKept m sp l (SwapIn s)) l bytes None l' rest
  from-none l1 l' mid n = record {
    goes = λ u notes more h st. n.goes tt notes more h st;
    stops = λ stop notes h st. by stop notes h.2 st;
  }
    where
      by : (stop : Stop) (notes : List Note) → IsKeptBy m sp l stop notes → Stand bytes notes [] → ⊥
      by Denied notes h st = h
      by (Starved out) notes h st = n.stops false notes (h.0, h.1) st
      by Lost notes h st = n.stops true notes (h.0, h.1) st

  pub from-here : (l' : Ledger) → Meets (ComesFrom m (sp l None) l k s) (IsKeptOut m (sp l None) l) l bytes (Some (inl tt)) l' rest
      → Meets (Comes m sp l k (SwapIn s)) (IsKept m sp l (SwapIn s)) l bytes (Some (inl tt)) l' rest
  from-here l' h = record { notes = h.notes; lawful = h.lawful; stand = h.stand; after = h.after }

  pub from-lost : (l' : Ledger) → Meets (ComesFrom m (sp l None) l k s) (IsKeptOut m (sp l None) l) l bytes (Some (inr true)) l' rest
      → Meets (Comes m sp l k (SwapIn s)) (IsKept m sp l (SwapIn s)) l bytes (Some (inr Lost)) l' rest
  from-lost l' h = record { notes = h.notes; lawful = (s, refl, (h.lawful.0, h.lawful.1)); stand = h.stand; after = h.after }

  pub from-starved : (l' : Ledger) (out : OutOf) → out ≡ out_of m (sp l None) l'
      → Meets (ComesFrom m (sp l None) l k s) (IsKeptOut m (sp l None) l) l bytes (Some (inr false)) l' rest
      → Meets (Comes m sp l k (SwapIn s)) (IsKept m sp l (SwapIn s)) l bytes (Some (inr (Starved out))) l' rest
  from-starved l' out is h = record {
    notes = h.notes;
    lawful = (s, refl, (h.lawful.0, h.lawful.1, is ∙ ap (out_of m (sp l None)) h.after));
    stand = h.stand;
    after = h.after;
  }

pub cached-here : (m : Setting) (sp : Sparing) (l l' : Ledger) (k : Key) (f a : ℕ) (bytes rest : List ℕ) → a ≡ address_of k.1
    → Reads (λ ns. ns ≡ Mapped k.0 a f ∷ []) l bytes true l' rest
    → Meets (Comes m sp l k (MapCached f)) (IsKept m sp l (MapCached f)) l bytes (Some (inl tt)) l' rest
cached-here m sp l l' k f a bytes rest is h = record {
  notes = h.notes;
  lawful = h.lawful ∙ ap (λ a. Mapped k.0 a f ∷ []) is;
  stand = h.stand;
  after = h.after;
}

pub cached-none : (m : Setting) (sp : Sparing) (l l1 l' : Ledger) (k : Key) (f a : ℕ) (bytes mid rest : List ℕ) → a ≡ address_of k.1
    → Reads (λ ns. ns ≡ Mapped k.0 a f ∷ []) l bytes false l1 mid
    → Meets (Comes m sp l k (MapCached f)) (IsKept m sp l (MapCached f)) l bytes None l' rest
cached-none m sp l l1 l' k f a bytes mid rest is none = record {
  goes = λ u notes more g st. none notes more (g ∙ ap (λ a. Mapped k.0 a f ∷ []) (sym is)) st;
  stops = λ stop notes g st. other f g.0 g.1;
}
  where
    other : (f : ℕ) (s : Slot) → MapCached f ≡ SwapIn s → ⊥
    other f s e = cc

pub here-already : (m : Setting) (sp : Sparing) (l : Ledger) (k : Key) (n : Need) (bytes : List ℕ) → ComesIn m sp l k n []
    → Meets (Comes m sp l k n) (IsKept m sp l n) l bytes (Some (inl tt)) l bytes
here-already m sp l k n bytes h = record { notes = []; lawful = h; stand = stand-none bytes; after = refl }
