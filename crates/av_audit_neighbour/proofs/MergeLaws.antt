-- The pages merge in turn; and what a merge may answer.
use Rattle.std.proofs.Common.{◌≡◌, ℕ, ◌<◌, List, [], ◌∷◌, ◌++◌, map, Option, Some, None, true, refl, sym, ap, subst, ◌∙◌, append_assoc, is_some}
use Rattle.std.specs.Prelude.{Err, IfSome, MatchOption, Ok, OnOk, Result}
use Rattle.av_base.specs.Keys.{Key}
use Rattle.av_base.specs.Page.{page_size}
use Rattle.av_trace.specs.declared.command.Command.TheVariants.{Merge}
use Rattle.av_trace.specs.declared.note.Note.{Note}
use Rattle.av_trace.specs.declared.reply.Reply.{Reply}
use Rattle.av_plain.specs.Event.{Event, after_all, after_notes, note_events}
use Rattle.av_plain.specs.Ledger.{Ledger, Setting}
use Rattle.av_plain.specs.Merge.{FrameBytes, HoldClaims, candidate, merge_notes, merges, with_candidate}
use Rattle.av_plain.specs.Sound.{AllSound}
use Rattle.av_plain.specs.Step.{IsLegal}
use Rattle.av_plain.specs.World.{Page, World, pages}
use Rattle.av_plain.proofs.Access.{after_notes-append, note_events-all, notes_of-note_events}
use Rattle.av_plain.proofs.OneMerge.{ClaimAll, merges-one}
use Rattle.av_plain.proofs.Sound.Frames.{candidate-is}
use Rattle.av_audit_judge.proofs.KnownLaws.{AnswersOnly}
use Rattle.av_audit_judge.proofs.VerdictLaws.{said}
use Rattle.av_audit_world.specs.Memories.{IsWorld}
use Rattle.av_audit_world.specs.declared.memories.Memories.{Memories}
use Rattle.av_audit_neighbour.specs.First.{FramePages}
use Rattle.av_audit_neighbour.specs.Held.{held_by}
use Rattle.av_audit_neighbour.specs.Contents.{AreKept}
use Rattle.av_audit_neighbour.specs.Known.{AreInRange, Knows, first_like, turn_notes}
use Rattle.av_audit_neighbour.specs.Merging.{HasMerged, HasTurned, IsAware}
use Rattle.av_audit_neighbour.specs.declared.contents.Contents.{Contents}
use Rattle.av_audit_neighbour.proofs.HeldLaws.{page-claims}
use Rattle.av_audit_neighbour.proofs.Knowing.{turn-new, turn-taken}

-- ---- one after the other

-- what merges from here on is what merges
pub record Merging (m : Setting) (held : FrameBytes) (w : World) (l : Ledger) (keys : List Key) (before : List Note) (l' : Ledger) (now : List Note)
    (earlier : List ℕ) (rest : List Key) : Type 0 where
  pub notes : now ++ merges m held w l' earlier rest ≡ before ++ merges m held w l [] keys
  pub after : after_notes l' (merges m held w l' earlier rest) ≡ after_notes l (merges m held w l [] keys)

pub merging-next : (m : Setting) (held : FrameBytes) (w : World) (l : Ledger) (keys : List Key) (before : List Note) (l' l'' : Ledger) (now more : List Note)
    (earlier earlier' : List ℕ) (k : Key) (rest whole : List Key) (o : Option ℕ) → k ∷ rest ≡ whole → candidate w l' k ≡ o
    → Merging m held w l keys before l' now earlier whole → earlier' ≡ with_candidate earlier o
    → more ≡ now ++ merge_notes m held l' earlier k o → l'' ≡ after_notes l' (merge_notes m held l' earlier k o)
    → Merging m held w l keys before l'' more earlier' rest
merging-next m held w l keys before l' l'' now more earlier earlier' k rest whole o is found h behind noted after = record {
  notes = (λ i. noted i ++ next i) ∙ append_assoc now here (merges m held w (after_notes l' here) (with_candidate earlier o) rest)
      ∙ ap (λ ns. now ++ ns) (sym turn) ∙ ap (λ ks. now ++ merges m held w l' earlier ks) is ∙ h.notes;
  after = (λ i. after_notes (after i) (next i)) ∙ sym (after_notes-append l' here (merges m held w (after_notes l' here) (with_candidate earlier o) rest))
      ∙ ap (after_notes l') (sym turn) ∙ ap (λ ks. after_notes l' (merges m held w l' earlier ks)) is ∙ h.after;
}
  where
    here : List Note
    here = merge_notes m held l' earlier k o

    next : merges m held w l'' earlier' rest ≡ merges m held w (after_notes l' here) (with_candidate earlier o) rest
    next = λ i. merges m held w (after i) (behind i) rest

    turn : merges m held w l' earlier (k ∷ rest) ≡ here ++ merges m held w (after_notes l' here) (with_candidate earlier o) rest
    turn = λ i. merge_notes m held l' earlier k (found i)
        ++ merges m held w (after_notes l' (merge_notes m held l' earlier k (found i))) (with_candidate earlier (found i)) rest

pub merging-end : (m : Setting) (held : FrameBytes) (w : World) (l : Ledger) (keys : List Key) (before : List Note) (l' : Ledger) (now : List Note)
    (earlier : List ℕ) (rest : List Key) → rest ≡ [] → Merging m held w l keys before l' now earlier rest → HasMerged m held w l keys before l' now
merging-end m held w l keys before l' now earlier rest none h = record {
  notes = sym (nil now) ∙ ap (λ ks. now ++ merges m held w l' earlier ks) (sym none) ∙ h.notes;
  after = ap (λ ks. after_notes l' (merges m held w l' earlier ks)) (sym none) ∙ h.after;
}
  where
    nil : (xs : List Note) → xs ++ [] ≡ xs
    nil [] = refl
    nil (x ∷ xs) = ap (λ t. x ∷ t) (nil xs)

-- ---- a turn

pub on_ok-both : {X E A B C : Type 0} (r : Result X E) → (A → B → C) → OnOk r A → OnOk r B → OnOk r C
on_ok-both (Ok x) f a b = f a b
on_ok-both (Err e) f a b = b

nothing-more : (xs : List Note) → xs ++ [] ≡ xs
nothing-more [] = refl
nothing-more (x ∷ xs) = ap (λ t. x ∷ t) (nothing-more xs)

module _ (m : Setting) (held : FrameBytes) (w : World) (l : Ledger) (earlier : List ℕ) (k : Key) (before : List Note) where
  -- it is no candidate
  pub turned-other : (c : Contents) → candidate w l k ≡ None → IsAware m held l earlier c → HasTurned m held w l earlier k before l before c
  turned-other c none aware = record {
    notes = sym (nothing-more before) ∙ ap (λ o. before ++ merge_notes m held l earlier k o) (sym none);
    after = ap (λ o. after_notes l (merge_notes m held l earlier k o)) (sym none);
    aware = subst (λ o. IsAware m held l (with_candidate earlier o) c) (sym none) aware;
  }

  module _ (f : ℕ) (is : candidate w l k ≡ Some f) where
    here : merge_notes m held l earlier k (candidate w l k) ≡ merge_notes m held l earlier k (Some f)
    here = ap (merge_notes m held l earlier k) is

    -- nothing like its frame is known: it is from now on
    pub turned-new : (c c' : Contents) (aware : IsAware m held l earlier c) → first_like held aware.known f ≡ None
        → AreKept held (aware.known ++ f ∷ []) c' → HasTurned m held w l earlier k before l before c'
    turned-new c c' aware new kept =
        let t = turn-new m held w l earlier aware.known aware.knows aware.in_range k f (candidate-is w l k f is) new in record {
          notes = sym (nothing-more before) ∙ ap (λ ns. before ++ ns) (sym (here ∙ t.0));
          after = ap (after_notes l) (sym (here ∙ t.0));
          aware = subst (λ o. IsAware m held l (with_candidate earlier o) c') (sym is) (record {
            known = aware.known ++ f ∷ [];
            kept = kept;
            knows = t.1;
            in_range = aware.in_range;
          });
        }

    -- a frame is known that holds the same
    pub turned-known : (c : Contents) (aware : IsAware m held l earlier c) (x : ℕ) → first_like held aware.known f ≡ Some x
        → (l' : Ledger) (now : List Note) → now ≡ before ++ turn_notes l k f x → l' ≡ after_notes l (turn_notes l k f x)
        → HasTurned m held w l earlier k before l' now c
    turned-known c aware x first l' now noted after =
        let t = turn-taken m held w l earlier aware.known aware.knows aware.in_range k f (candidate-is w l k f is) x first in record {
          notes = noted ∙ ap (λ ns. before ++ ns) (sym (here ∙ t.0));
          after = after ∙ ap (after_notes l) (sym (here ∙ t.0));
          aware = subst (λ o. IsAware m held l' (with_candidate earlier o) c) (sym is) (record {
            known = aware.known;
            kept = aware.kept;
            knows = subst (λ z. Knows m held z (earlier ++ f ∷ []) aware.known) (sym after) t.1;
            in_range = subst (AreInRange m) (sym after) t.2;
          });
        }

-- ---- the command

-- the memories claim each byte
pub all-claimed : (memories : Memories) (w : World) → IsWorld memories w → ClaimAll w
all-claimed memories w h k = by (pages w k.0 k.1) refl
  where
    by : (o : Option Page) → pages w k.0 k.1 ≡ o → IfSome o (λ (p : Page). (i : ℕ) → i < page_size → is_some (p.bytes i) ≡ true)
    by None e = tt
    by (Some p) e = λ i low. ap is_some (page-claims memories w k h p e i low)

pub merge-only : (m : Setting) (w : World) (l : Ledger) (held : FrameBytes) (keys : List Key) → AllSound m w l → ClaimAll w → HoldClaims w l held
    → keys ≡ map (λ e. e.0) l.entries
    → AnswersOnly m w l Merge (said (merges m held w l [] keys)) (note_events (merges m held w l [] keys))
merge-only m w l held keys sound claimed holds are = record {
  no_test = refl;
  only = λ es answer rows h. (
    h.3,
    h.2 ∙ ap note_events (merges-one m w l h.0 held sound claimed h.1 holds (map (λ e. e.0) l.entries)
        ∙ ap (merges m held w l []) (sym are)),
    h.4,
  );
  does = (held, holds, ap (λ ks. note_events (merges m held w l [] ks)) are, refl, refl);
  notes = sym (notes_of-note_events (merges m held w l [] keys));
}

pub merge-none : (m : Setting) (w : World) (l : Ledger) → ((held : FrameBytes) → HoldClaims w l held → ⊥) → (es : List Event) (reply : Reply)
    → IsLegal m w l Merge reply es → ⊥
merge-none m w l none es reply legal = none legal.answer.0 legal.answer.1

pub merge-after : (l : Ledger) (notes : List Note) → after_notes l notes ≡ after_all l (note_events notes)
merge-after l notes = sym (note_events-all l notes)

pub found-pages : (w : World) (l : Ledger) (memories : Memories) (o : Option FramePages) (told : FramePages)
    → MatchOption o ((held : FrameBytes) → HoldClaims w l held → ⊥) (λ pages. HoldClaims w l (held_by memories pages)) → o ≡ Some told
    → HoldClaims w l (held_by memories told)
found-pages w l memories o told h is = subst (λ (o : Option FramePages). MatchOption o ((held : FrameBytes) → HoldClaims w l held → ⊥)
    (λ pages. HoldClaims w l (held_by memories pages))) is h
