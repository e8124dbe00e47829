-- Accesses, events and choices put together from two parts.
use Rattle.std.proofs.Common.{◌≡◌, inl, inr, ℕ, Bool, List, [], ◌∷◌, ◌++◌, Option, Some, None, refl, sym, ap, subst, ◌∙◌}
use Rattle.std.proofs.lemmas.List.{append_assoc}
use Rattle.av_trace.specs.declared.note.Note.{Note}
use Rattle.std.specs.List.{list_any}
use Rattle.av_plain.specs.World.{World, is_locked_page, pages}
use Rattle.av_base.specs.Keys.{Key}
use Rattle.av_plain.specs.Ledger.{Ledger, Setting, walk}
use Rattle.av_plain.specs.Event.{Event, Noted, after, after_all, note_in, notes_of, after_notes, note_events}
use Rattle.av_plain.specs.Fault.{Stop, Denied, Starved, Lost, Touches, sparing, Serves, RunsOut, IsLost, is_allowed}
use Rattle.av_plain.specs.Access.{Accesses, End, Whole, Stopped, page_events}
use Rattle.av_plain.specs.Choice.{ChoosesAll, Free}

pub after_all-append : (l : Ledger) (es fs : List Event) → after_all l (es ++ fs) ≡ after_all (after_all l es) fs
after_all-append l [] fs = refl
after_all-append l (e ∷ es) fs = after_all-append (after l e) es fs

pub notes_of-append : (es fs : List Event) → notes_of (es ++ fs) ≡ notes_of es ++ notes_of fs
notes_of-append [] fs = refl
notes_of-append (e ∷ es) fs = ap (λ ns. note_in e ++ ns) (notes_of-append es fs) ∙ sym (append_assoc (note_in e) (notes_of es) (notes_of fs))

-- the notes of events that are notes alone
pub notes_of-note_events : (notes : List Note) → notes_of (note_events notes) ≡ notes
notes_of-note_events [] = refl
notes_of-note_events (note ∷ notes) = ap (λ ns. note ∷ ns) (notes_of-note_events notes)

pub note_events-append : (a b : List Note) → note_events (a ++ b) ≡ note_events a ++ note_events b
note_events-append [] b = refl
note_events-append (note ∷ a) b = ap (λ es. Noted note ∷ es) (note_events-append a b)

pub note_events-all : (l : Ledger) (notes : List Note) → after_all l (note_events notes) ≡ after_notes l notes
note_events-all l [] = refl
note_events-all l (note ∷ notes) = note_events-all (after l (Noted note)) notes

pub after_notes-append : (l : Ledger) (a b : List Note) → after_notes l (a ++ b) ≡ after_notes (after_notes l a) b
after_notes-append l [] b = refl
after_notes-append l (note ∷ a) b = after_notes-append (after l (Noted note)) a b

pub chooses-append : (m : Setting) (closing : Option ℕ) (l : Ledger) (es fs : List Event) (free mid free' : Free)
    → ChoosesAll m closing l es free mid → ChoosesAll m closing (after_all l es) fs mid free' → ChoosesAll m closing l (es ++ fs) free free'
chooses-append m closing l [] fs free mid free' a b = subst (λ x. ChoosesAll m closing l fs x free') a b
chooses-append m closing l (e ∷ es) fs free mid free' a b = (a.0, a.1, chooses-append m closing (after l e) es fs a.0 mid free' a.2 b)

-- ---- accesses

-- what each page keeps, an access keeps
pub accesses-keep : (P : Ledger → Type 0) (m : Setting) (w : World) (p : ℕ)
    → ((l : Ledger) (write : Bool) (page : ℕ) (notes : List Note) (end : Option Stop) → P l → Touches m w l write (p, page) notes end →
    P (after_all l (page_events write (p, page) notes end)))
    → (l : Ledger) (pages : List (Bool × ℕ)) (events : List Event) (end : End) → P l → Accesses m w l p pages events end → P (after_all l events)
accesses-keep P m w p each l [] events end s h = subst (λ es. P (after_all l es)) (sym h.0) s
accesses-keep P m w p each l (page ∷ rest) events end s (inl h) =
    let here = page_events page.0 (p, page.1) h.0 None in
    subst (λ es. P (after_all l es)) (sym h.3) (subst P (sym (after_all-append l here h.1))
    (accesses-keep P m w p each (after_all l here) rest h.1 end (each l page.0 page.1 h.0 None s h.2) h.4))
accesses-keep P m w p each l (page ∷ rest) events end s (inr h) =
    subst (λ es. P (after_all l es)) (sym h.3) (each l page.0 page.1 h.0 (Some h.1) s h.2)

-- an access of p sees both memories alike: pages may be touched alike, and a pass leaves the same alone
pub record SeenAlike (w w' : World) (p : ℕ) : Type 0 where
  pub allowed : (write : Bool) (page : ℕ) → is_allowed w write (p, page) ≡ is_allowed w' write (p, page)
  pub spares : sparing w ≡ sparing w'

-- where the same pages are locked, a pass leaves the same alone
pub spares-alike : (w w' : World) → ((p page : ℕ) → is_locked_page (pages w p page) ≡ is_locked_page (pages w' p page)) → sparing w ≡ sparing w'
spares-alike w w' locks = λ i l pinned. record {
  pinned = pinned;
  locked = λ f. list_any (λ (k : Key). locks k.0 k.1 i) (walk l f);
  closing = None;
}

pub alike-by-allowed : (w w' : World) (p : ℕ) → ((write : Bool) (page : ℕ) → is_allowed w write (p, page) ≡ is_allowed w' write (p, page))
    → ((q page : ℕ) → is_locked_page (pages w q page) ≡ is_locked_page (pages w' q page)) → SeenAlike w w' p
alike-by-allowed w w' p h locks = record { allowed = h; spares = spares-alike w w' locks }

pub touches-alike : (m : Setting) (w w' : World) (l : Ledger) (write : Bool) (p page : ℕ) (notes : List Note) (end : Option Stop) → SeenAlike w w' p
    → Touches m w' l write (p, page) notes end → Touches m w l write (p, page) notes end
touches-alike m w w' l write p page notes None same h =
    (same.allowed write page ∙ h.0, subst (λ sp. Serves m sp l write (p, page) notes) (sym same.spares) h.1)
touches-alike m w w' l write p page notes (Some Denied) same h = (same.allowed write page ∙ h.0, h.1)
touches-alike m w w' l write p page notes (Some (Starved out)) same h =
    (same.allowed write page ∙ h.0, subst (λ sp. RunsOut m sp l write (p, page) notes out) (sym same.spares) h.1)
touches-alike m w w' l write p page notes (Some Lost) same h = (
  same.allowed write page ∙ h.0,
  subst (λ sp. IsLost m sp l write (p, page) notes) (sym same.spares) h.1,
)

pub accesses-alike : (m : Setting) (w w' : World) (l : Ledger) (p : ℕ) (pages : List (Bool × ℕ)) (events : List Event) (end : End) → SeenAlike w w' p
    → Accesses m w' l p pages events end → Accesses m w l p pages events end
accesses-alike m w w' l p [] events end same h = h
accesses-alike m w w' l p (page ∷ pages) events end same (inl h) =
    inl (
      h.0,
      h.1,
      touches-alike m w w' l page.0 p page.1 h.0 None same h.2,
      h.3,
      accesses-alike m w w' (after_all l (page_events page.0 (p, page.1) h.0 None)) p pages h.1 end same h.4,
    )
accesses-alike m w w' l p (page ∷ pages) events end same (inr h) =
    inr (h.0, h.1, touches-alike m w w' l page.0 p page.1 h.0 (Some h.1) same h.2, h.3, h.4)

not_whole : (page : ℕ) (stop : Stop) → Whole ≡ Stopped page stop → ⊥
not_whole page stop e = cc

-- an access that was served whole goes on with further pages, which may be seen from memories that it sees alike
pub accesses-append : (m : Setting) (w w' : World) (l : Ledger) (p : ℕ) (xs ys : List (Bool × ℕ)) (es fs : List Event) (end : End) → SeenAlike w w' p
    → Accesses m w l p xs es Whole → Accesses m w' (after_all l es) p ys fs end → Accesses m w l p (xs ++ ys) (es ++ fs) end
accesses-append m w w' l p [] ys es fs end same a b =
    subst (λ x. Accesses m w l p ys (x ++ fs) end) (sym a.0) (accesses-alike m w w' l p ys fs end same
    (subst (λ x. Accesses m w' (after_all l x) p ys fs end) a.0 b))
accesses-append m w w' l p (page ∷ xs) ys es fs end same (inl a) b =
    let here = page_events page.0 (p, page.1) a.0 None in
    inl (
      a.0,
      a.1 ++ fs,
      a.2,
      ap (λ x. x ++ fs) a.3 ∙ append_assoc here a.1 fs,
      accesses-append m w w' (after_all l here) p xs ys a.1 fs end same a.4
          (subst (λ x. Accesses m w' x p ys fs end) (ap (after_all l) a.3 ∙ after_all-append l here a.1) b),
    )
accesses-append m w w' l p (page ∷ xs) ys es fs end same (inr a) b = absurd (not_whole page.1 a.1 a.4)
