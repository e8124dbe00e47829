-- A page is read or written: it may be, and is served or not; or it may not be.
use Rattle.std.proofs.Common.{◌≡◌, ◌⊎◌, inl, inr, ℕ, Bool, true, false, Option, Some, None, List, [], ◌++◌, refl, sym, ap, subst, ◌∙◌}
use Rattle.av_base.specs.Keys.{Key}
use Rattle.av_trace.specs.declared.note.Note.{Note}
use Rattle.av_trace.specs.Print.{notes_text}
use Rattle.av_plain.specs.Fault.{Stop, Denied, Starved, Lost, Touches, is_allowed, sparing}
use Rattle.av_plain.specs.Ledger.{Ledger, Setting}
use Rattle.av_plain.specs.World.{World}
use Rattle.av_audit_judge.specs.Finds.{Stand}
use Rattle.av_audit_judge.specs.Stage.{Meets}
use Rattle.av_audit_judge.proofs.Finds.{stand-none}
use Rattle.av_audit_access.specs.Touch.{IsUnserved}
use Rattle.av_audit_access.proofs.ServeLaws.{Serve}

-- a page is served
abbrev pub Served : Setting → World → Ledger → Bool → Key → Unit {0} → List Note → Type 0
Served m w l write k u notes = Touches m w l write k notes None

-- or it isn't
abbrev pub Stops : Setting → World → Ledger → Bool → Key → Stop → List Note → Type 0
Stops m w l write k stop notes = Touches m w l write k notes (Some stop)

differ : (b : Bool) → b ≡ true → b ≡ false → ⊥
differ b h g = cc

pub touch-allowed : (m : Setting) (w : World) (l l' : Ledger) (write : Bool) (k : Key) (bytes rest : List ℕ) (found : Option (Unit {0} ⊎ Stop))
    → is_allowed w write k ≡ true → Meets (Serve m (sparing w) l write k) (IsUnserved m (sparing w) l write k) l bytes found l' rest
    → Meets (Served m w l write k) (Stops m w l write k) l bytes found l' rest
touch-allowed m w l l' write k bytes rest None may none = record {
  goes = λ u notes more h st. none.goes u notes more h.1 st;
  stops = by;
}
  where
    by : (stop : Stop) (notes : List Note) → Stops m w l write k stop notes → Stand bytes notes [] → ⊥
    by Denied notes h st = differ (is_allowed w write k) may h.0
    by (Starved out) notes h st = none.stops (Starved out) notes h.1 st
    by Lost notes h st = none.stops Lost notes h.1 st
touch-allowed m w l l' write k bytes rest (Some (inl u)) may h =
    record { notes = h.notes; lawful = (may, h.lawful); stand = h.stand; after = h.after }
touch-allowed m w l l' write k bytes rest (Some (inr stop)) may h =
    record { notes = h.notes; lawful = by stop h.lawful; stand = h.stand; after = h.after }
  where
    by : (stop : Stop) → IsUnserved m (sparing w) l write k stop h.notes → Stops m w l write k stop h.notes
    by Denied g = absurd g
    by (Starved out) g = (may, g)
    by Lost g = (may, g)

-- it may not be, and no note is left
pub touch-denied : (m : Setting) (w : World) (l : Ledger) (write : Bool) (k : Key) (bytes : List ℕ) → is_allowed w write k ≡ false
    → bytes ≡ [] → Meets (Served m w l write k) (Stops m w l write k) l bytes (Some (inr Denied)) l bytes
touch-denied m w l write k bytes barred over = record {
  notes = [];
  lawful = (barred, refl);
  stand = subst (λ b. Stand b [] []) (sym over) (stand-none []);
  after = refl;
}

-- or some are
pub touch-more : (m : Setting) (w : World) (l l' : Ledger) (write : Bool) (k : Key) (bytes rest : List ℕ) → is_allowed w write k ≡ false
    → (bytes ≡ [] → ⊥) → Meets (Served m w l write k) (Stops m w l write k) l bytes None l' rest
touch-more m w l l' write k bytes rest barred some = record {
  goes = λ u notes more h st. differ (is_allowed w write k) h.0 barred;
  stops = by;
}
  where
    by : (stop : Stop) (notes : List Note) → Stops m w l write k stop notes → Stand bytes notes [] → ⊥
    by Denied notes h st = some (st.text ∙ ap (λ ns. notes_text ns ++ []) h.1)
    by (Starved out) notes h st = differ (is_allowed w write k) h.0 barred
    by Lost notes h st = differ (is_allowed w write k) h.0 barred

-- what is met is met of the same
pub touch-is : (m : Setting) (w : World) (l l' : Ledger) (write : Bool) (k : Key) (bytes rest : List ℕ) (found found' : Option (Unit {0} ⊎ Stop))
    → found ≡ found' → Meets (Served m w l write k) (Stops m w l write k) l bytes found l' rest
    → Meets (Served m w l write k) (Stops m w l write k) l bytes found' l' rest
touch-is m w l l' write k bytes rest found found' e h =
    subst (λ o. Meets (Served m w l write k) (Stops m w l write k) l bytes o l' rest) e h
