-- In a compaction the entries of a frame go along with it.
use Rattle.std.proofs.Common.{◌≡◌, ℕ, true, List, [], ◌∷◌, ◌++◌, Option, Some, None, IsSomeAnd, option_map, refl, sym, ap, subst, ◌∙◌}
use Rattle.std.proofs.lemmas.Bool.{eq-eqb, eqb-true}
use Rattle.av_base.specs.Keys.{Key}
use Rattle.av_base.specs.Words.{renamed}
use Rattle.av_trace.specs.declared.command.Command.TheVariants.{Compact}
use Rattle.av_trace.specs.declared.note.Note.{Note}
use Rattle.av_trace.specs.declared.note.Note.TheVariants.{Moved}
use Rattle.av_trace.specs.declared.reply.Reply.{Reply}
use Rattle.av_plain.specs.Compact.{MovesDown}
use Rattle.av_plain.specs.Event.{Event, FreeSorted, after_all, after_note, after_notes, note_events, notes_of, placed_entry}
use Rattle.av_plain.specs.Ledger.{Entry, InFrame, InSlot, Ledger, Setting, Zero, entry, names_frame}
use Rattle.av_plain.specs.Step.{IsLegal}
use Rattle.av_plain.specs.World.{World}
use Rattle.av_plain.proofs.Event.{entry-renamed}
use Rattle.av_plain.proofs.Sound.Frames.{IsMove, move-is}
use Rattle.av_laws.specs.Locked.{frame_after}

-- the entry of a key names the frame
abbrev Names : Ledger → Key → ℕ → Type 0
Names l k f = IsSomeAnd (entry l k) (λ e. names_frame f e ≡ true)

goes : (from to f : ℕ) (o : Option Entry) → IsSomeAnd o (λ e. names_frame f e ≡ true)
    → IsSomeAnd (option_map (placed_entry (renamed from to)) o) (λ e. names_frame (renamed from to f) e ≡ true)
goes from to f None h = h
goes from to f (Some Zero) h = absurd cc
goes from to f (Some (InSlot s)) h = absurd cc
goes from to f (Some (InFrame g seen)) h = eq-eqb (renamed from to f) (renamed from to g) (ap (renamed from to) (eqb-true f g h))

go_along : (m : Setting) (l : Ledger) (notes : List Note) (k : Key) (f : ℕ) → MovesDown m l notes → Names l k f
    → Names (after_notes l notes) k (frame_after notes f)
go_along m l [] k f moves h = h
go_along m l (note ∷ notes) k f moves h = by note (move-is m l note moves.0) moves.1 (λ l f. go_along m l notes k f)
  where
    by : (n : Note) → IsMove m l n → MovesDown m (after_note n l) notes
        → ((l : Ledger) (f : ℕ) → MovesDown m l notes → Names l k f → Names (after_notes l notes) k (frame_after notes f))
        → Names (after_notes (after_note n l) notes) k (frame_after (n ∷ notes) f)
    by n v rest on = subst (λ n. MovesDown m (after_note n l) notes → Names (after_notes (after_note n l) notes) k (frame_after (n ∷ notes) f))
        (sym v.is) (λ rest. on (after_note (Moved v.from v.to) l) (renamed v.from v.to f) rest
        (subst (λ o. IsSomeAnd o (λ e. names_frame (renamed v.from v.to f) e ≡ true)) (sym (entry-renamed v.from v.to l k))
        (goes v.from v.to f (entry l k) h))) rest

-- the order of the free frames is no matter
sorted_free : (l : Ledger) (notes : List Note) → after_all l (note_events notes ++ FreeSorted ∷ []) ≡ after_notes l notes
sorted_free l [] = refl
sorted_free l (note ∷ notes) = sorted_free (after_note note l) notes

told : (notes : List Note) → notes_of (note_events notes ++ FreeSorted ∷ []) ≡ notes
told [] = refl
told (note ∷ notes) = ap (λ ns. note ∷ ns) (told notes)

pub compact-along : (m : Setting) (w : World) (l : Ledger) (reply : Reply) (es : List Event) (k : Key) (f : ℕ) → IsLegal m w l Compact reply es
    → Names l k f → Names (after_all l es) k (frame_after reply.notes f)
compact-along m w l reply es k f legal h =
    let done = legal.answer in
    let notes : reply.notes ≡ done.0 = legal.notes ∙ ap notes_of done.2 ∙ told done.0 in
    let ledger : after_all l es ≡ after_notes l done.0 = ap (after_all l) done.2 ∙ sorted_free l done.0 in
    subst (λ now. Names now k (frame_after reply.notes f)) (sym ledger)
    (subst (λ ns. Names (after_notes l done.0) k (frame_after ns f)) (sym notes) (go_along m l done.0 k f done.1 h))
