-- The search for a free frame.
use Rattle.std.proofs.Common.{Bool, List, None, Option, Some, [], ap, false, is_some, length, refl, subst, sym, take, true, ℕ, ◌++◌, ◌<◌, ◌∙◌, ◌≡◌}
use Rattle.std.specs.Prelude.{MatchBool, MatchOption}
use Rattle.std.proofs.Math.Seq.{take-length}
use Rattle.av_trace.specs.declared.note.Note.{Note}
use Rattle.av_plain.specs.Event.{after_notes}
use Rattle.av_plain.specs.Ledger.{Ledger, Setting, has_free, is_free}
use Rattle.av_plain.specs.Pass.{Completes, IsPass, Seeks, Spared, Turns, frames_in_turn}
use Rattle.av_plain.specs.Sound.{IsSound}
use Rattle.av_plain.proofs.Access.{after_notes-append}
use Rattle.av_plain.proofs.Sound.Steps.{all_landed, completes-kept}
use Rattle.av_evict.specs.Pass.{AreTurns, IsLanded, IsPassed}
use Rattle.av_evict.proofs.FlightLaws.{CompletesOf}
use Rattle.av_evict.proofs.PassLaws.{none-flies}
use Rattle.std.proofs.lemmas.List.{append-nil}
use Rattle.av_plain.proofs.Ledger.NoSwap.{has_free-some}

-- ---- flight is completed

pub completes-all : (l : Ledger) (n : ℕ) (ns : List Note) → n ≡ length l.flight → CompletesOf n l ns → Completes l l.flight ns
completes-all l n ns is c = subst (λ fs. Completes l fs ns) (ap (λ k. take k l.flight) is ∙ take-length l.flight) c

pub completed-landed : (m : Setting) (l : Ledger) (ns : List Note) → IsSound m l → Completes l l.flight ns → IsLanded (after_notes l ns)
completed-landed m l ns sound c = none-flies _ (all_landed m l (after_notes l ns) (completes-kept m l l.flight ns sound c))

-- ---- the pass

-- completion alone freed a frame
pub passed-early : (m : Setting) (sp : Spared) (l : Ledger) (ns : List Note) → Completes l l.flight ns →
    has_free m (after_notes l ns) ≡ true → IsPassed m sp l ns
passed-early m sp l ns c free = record {
  pass = (ns, [], sym (append-nil ns), c, by (has_free m (after_notes l ns)) free);
  vain = λ none. let e = sym free ∙ none in cc;
}
  where
    by : (b : Bool) → b ≡ true → MatchBool b (◌≡◌ {A = List Note} [] []) (Turns m sp (after_notes l ns)
        (frames_in_turn sp (after_notes l ns)) [])
    by true h = refl
    by false h = cc

-- completion freed none; and this is so in the system that was left
pub record IsFlown (m : Setting) (sp : Spared) (now : Setting) (sp' : Spared) (l : Ledger) (ns : List Note) : Type 0 where
  pub completes : Completes l l.flight ns
  pub full : has_free m (after_notes l ns) ≡ false
  pub setting : now ≡ m
  pub spared : sp' ≡ sp

-- the frames in use had their turns
passed-late : (m : Setting) (sp : Spared) (l : Ledger) (ns ms : List Note) → Completes l l.flight ns →
    has_free m (after_notes l ns) ≡ false → AreTurns m sp (after_notes l ns) ms → IsPassed m sp l (ns ++ ms)
passed-late m sp l ns ms c full turns = record {
  pass = (ns, ms, refl, c, by (has_free m (after_notes l ns)) full);
  vain = λ none. record {
    done = ns;
    turns = ms;
    whole = refl;
    completes = c;
    full = full;
    vain = turns.vain (sym (ap (has_free m) (after_notes-append l ns ms)) ∙ none);
  };
}
  where
    by : (b : Bool) → b ≡ false → MatchBool b (ms ≡ []) (Turns m sp (after_notes l ns)
        (frames_in_turn sp (after_notes l ns)) ms)
    by true h = cc
    by false h = turns.turns

pub passed-then : (m : Setting) (sp : Spared) (now : Setting) (sp' : Spared) (l : Ledger) (ns ms : List Note) →
    IsFlown m sp now sp' l ns → AreTurns now sp' (after_notes l ns) ms → IsPassed m sp l (ns ++ ms)
passed-then m sp now sp' l ns ms flown turns = passed-late m sp l ns ms flown.completes flown.full
    (subst (λ k. AreTurns m k (after_notes l ns) ms) flown.spared
    (subst (λ n. AreTurns n sp' (after_notes l ns) ms) flown.setting turns))

-- ---- the search

-- a frame was free
pub seeks-none : (m : Setting) (sp : Spared) (l : Ledger) (f : ℕ) → f < m.frames → is_free l f ≡ true → Seeks m sp l []
seeks-none m sp l f below free = by (has_free m l) (has_free-some m l f below free)
  where
    by : (b : Bool) → b ≡ true → MatchBool b (◌≡◌ {A = List Note} [] []) (IsPass m sp l [])
    by true h = refl
    by false h = cc

-- none was
pub seeks-pass : (m : Setting) (sp : Spared) (l : Ledger) (ns : List Note) → has_free m l ≡ false → IsPass m sp l ns → Seeks m sp l ns
seeks-pass m sp l ns none pass = by (has_free m l) none
  where
    by : (b : Bool) → b ≡ false → MatchBool b (ns ≡ []) (IsPass m sp l ns)
    by true h = cc
    by false h = pass

-- whether one is, as the first of them tells
pub tells-free : (m : Setting) (l : Ledger) (found : Option ℕ) →
    MatchOption found (has_free m l ≡ false) (λ f. (f < m.frames) × (is_free l f ≡ true)) →
    is_some found ≡ has_free m l
tells-free m l None h = sym h
tells-free m l (Some f) h = sym (has_free-some m l f h.0 h.1)
