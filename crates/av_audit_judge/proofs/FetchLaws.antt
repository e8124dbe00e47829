-- The page of a slot is fetched, part by part.
use Rattle.std.proofs.Common.{◌≡◌, ◌⊎◌, inr, ℕ, Bool, true, false, Option, Some, None, List, [], ◌∷◌, ◌++◌, length, refl, sym, ap, subst, ◌∙◌}
use Rattle.std.specs.Prelude.{◌==◌}
use Rattle.av_base.specs.declared.slot.Slot.{Slot}
use Rattle.av_trace.specs.Print.{notes_text}
use Rattle.av_plain.specs.Ledger.{Ledger, Setting, has_free}
use Rattle.av_plain.specs.Pass.{Seeks, Spared}
use Rattle.av_plain.proofs.Ledger.NoSwap.{has_free-some}
use Rattle.av_audit_judge.specs.Fetch.{AreFetched, IsLoaded, IsUnfetched, IsUnloaded}
use Rattle.av_audit_judge.specs.Finds.{Gets, Reads, Stand}
use Rattle.av_audit_judge.specs.Stage.{Meets}
use Rattle.av_audit_judge.proofs.Finds.{stand-none}
use Rattle.av_audit_judge.proofs.BehindLaws.{sought-then, unsought}

differ : (b : Bool) → b ≡ true → b ≡ false → ⊥
differ b h g = cc

-- ---- behind the pass

-- all is read: the page isn't fetched
pub loads-stop : (m : Setting) (l : Ledger) (s : Slot) (bytes : List ℕ) (free : Bool) → bytes ≡ [] → has_free m l ≡ free
    → Meets (IsLoaded m l s) (IsUnloaded m l) l bytes (Some (inr free)) l bytes
loads-stop m l s bytes free over is = record {
  notes = [];
  lawful = (is, refl);
  stand = subst (λ b. Stand b [] []) (sym over) (stand-none []);
  after = refl;
}

-- something is left, and no frame is free
pub loads-nowhere : (m : Setting) (l l' : Ledger) (s : Slot) (bytes rest : List ℕ) → (bytes ≡ [] → ⊥) → has_free m l ≡ false
    → Meets (IsLoaded m l s) (IsUnloaded m l) l bytes None l' rest
loads-nowhere m l l' s bytes rest some full = record {
  goes = λ f notes more h st. differ (has_free m l) (has_free-some m l f h.0 h.1) full;
  stops = λ free notes h st. some (st.text ∙ ap (λ ns. notes_text ns ++ []) h.1);
}

-- or one is, and no note loads the page
pub loads-not : (m : Setting) (l l1 l' : Ledger) (s : Slot) (bytes mid rest : List ℕ) → (bytes ≡ [] → ⊥)
    → Gets (IsLoaded m l s) l bytes None l1 mid → Meets (IsLoaded m l s) (IsUnloaded m l) l bytes None l' rest
loads-not m l l1 l' s bytes mid rest some none = record {
  goes = λ f notes more h st. none f notes more h st;
  stops = λ free notes h st. some (st.text ∙ ap (λ ns. notes_text ns ++ []) h.1);
}

-- ---- the pass, and what is behind it

pub fetch-unsought : (m : Setting) (sp : Spared) (l l1 l' : Ledger) (s : Slot) (bytes mid rest : List ℕ)
    → Reads (Seeks m sp l) l bytes false l1 mid → Meets (AreFetched m sp l s) (IsUnfetched m sp l) l bytes None l' rest
fetch-unsought m sp l l1 l' s bytes mid rest none =
    unsought m sp l (λ n. IsLoaded m n s) (λ n (free : Bool). has_free m n ≡ free) l1 l' bytes mid rest none

pub fetch-sought : (m : Setting) (sp : Spared) (l l1 l' : Ledger) (s : Slot) (bytes mid rest : List ℕ) (value : Option (ℕ ⊎ Bool))
    → Reads (Seeks m sp l) l bytes true l1 mid → Meets (IsLoaded m l1 s) (IsUnloaded m l1) l1 mid value l' rest
    → Meets (AreFetched m sp l s) (IsUnfetched m sp l) l bytes value l' rest
fetch-sought m sp l l1 l' s bytes mid rest value first second =
    sought-then m sp l (λ n. IsLoaded m n s) (λ n (free : Bool). has_free m n ≡ free) l1 l' bytes mid rest value first second

-- bytes are left
pub some-left : (t : List ℕ) → false ≡ (length t == 0) → t ≡ [] → ⊥
some-left [] h e = cc
some-left (b ∷ t) h e = cc
