-- What the commands of swap do is determined, where no write fails: the order of the free frames and the clusters of the swap areas leave no choice.
use Rattle.std.proofs.Common.{◌≡◌, ◌⊎◌, inl, inr, ℕ, Bool, true, false, if◌then◌else◌, List, [], ◌∷◌, ◌++◌, Option, Some, None, is_some, refl, sym, ap, subst, ◌∙◌, arith}
use Rattle.std.specs.Prelude.{MatchOption}
use Rattle.av_base.specs.declared.slot.Slot.{Slot}
use Rattle.av_swapdev.specs.Header.{Layout}
use Rattle.av_trace.specs.declared.note.Cause.{Cause}
use Rattle.av_trace.specs.declared.note.Note.{Note}
use Rattle.av_trace.specs.declared.note.Note.TheVariants.{Kept, Loaded}
use Rattle.av_trace.specs.declared.reply.Answer.{Answer}
use Rattle.av_trace.specs.declared.reply.Errno.TheVariants.{Eio}
use Rattle.av_trace.specs.declared.reply.Answer.TheVariants.{Refused}
use Rattle.av_trace.specs.declared.row.Row.{Row}
use Rattle.av_laws.specs.Determined.{Tells}
use Rattle.av_plain.specs.Choice.{ChoosesAll, Free}
use Rattle.av_plain.specs.Event.{Event, after_notes, note_events, notes_of}
use Rattle.av_plain.specs.Fault.{sparing}
use Rattle.av_plain.specs.Ledger.{Ledger, Setting, frame_at, has_free, slot_of, slots_in_use}
use Rattle.av_plain.specs.Pass.{IsSlotFor, Spared, TakesFor, out_of}
use Rattle.av_plain.specs.Reclaim.{CompletesFirst, Outcomes, Reclaims, cause_of, from_tail, leave_notes}
use Rattle.av_plain.specs.Report.{MayBeNoSlot, count_answer, slot_answer, ReportsSlot}
use Rattle.av_plain.specs.Step.{failure_answers}
use Rattle.av_plain.specs.Swapoff.{Close, Closed, Empties, EndsAt, IsEmptied, IsFetched, NoRoom, TurnsOff, Unread, close_answer, end_at, map_notes, sparing_area, turn_off_events}
use Rattle.av_plain.specs.Swapon.{IsByHeader, TurnsOn}
use Rattle.av_plain.specs.World.{World}
use Rattle.av_plain.proofs.Access.{notes_of-append, notes_of-note_events}
use Rattle.av_plain.proofs.Ledger.NoSwap.{has_free-some}
use Rattle.av_plain.proofs.Choice.{chosen-first}
use Rattle.av_laws.proofs.OnePass.{AreDone, Given, completes-one, done-append, given-is, given-parts, left-one, seeks-one, slot-one, takes-one}

-- ---- reclaim

outcomes-one : (m : Setting) (closing : Option ℕ) (told : Tells m) (sp : Spared) (l : Ledger) (free : Free) (fs : List ℕ) (a b : List Note) →
    Outcomes m sp l fs a → Outcomes m sp l fs b → Given m closing l free a → Given m closing l free b → a ≡ b
outcomes-one m closing told sp l free [] a b h g x y = h ∙ sym g
outcomes-one m closing told sp l free (f ∷ fs) a b h g x y =
    let x' = given-is m closing l free a _ h.2 x in
    let y' = given-is m closing l free b _ g.2 y in
    let xs = given-parts m closing l free h.0 h.1 x' in
    let ys = given-parts m closing l free g.0 g.1 y' in
    let here = by (cause_of m sp l f) h.3 g.3 x' y' in
    let mids = left-one m closing l h.0 g.0 free xs.0 ys.0 told here xs.2 ys.2 in
    let there = subst (λ ns. Outcomes m sp (after_notes l ns) fs g.1) (sym here) g.4 in
    let given = subst (λ mid. Given m closing (after_notes l h.0) mid g.1) mids
    (subst (λ ns. Given m closing (after_notes l ns) ys.0 g.1) (sym here) ys.3) in
    let rest = outcomes-one m closing told sp (after_notes l h.0) xs.0 fs h.1 g.1 h.4 there xs.3 given in
    h.2 ∙ (λ i. here i ++ rest i) ∙ sym g.2
  where
    by : (o : Option Cause) → MatchOption o ((s : Slot) × IsSlotFor m sp l f s × (h.0 ≡ leave_notes l f s)) (λ cause. h.0 ≡ Kept f cause ∷ []) →
        MatchOption o ((s : Slot) × IsSlotFor m sp l f s × (g.0 ≡ leave_notes l f s)) (λ cause. g.0 ≡ Kept f cause ∷ []) →
        Given m closing l free (h.0 ++ h.1) → Given m closing l free (g.0 ++ g.1) → h.0 ≡ g.0
    by (Some cause) p q x y = p ∙ sym q
    by None p q x y =
        let same = slot-one m closing l free f p.0 q.0 (slot_of l f) _ _ _ _ _ _ _ _ p.1 q.1
        (subst (λ ns. Given m closing l free (ns ++ h.1)) p.2 x) (subst (λ ns. Given m closing l free (ns ++ g.1)) q.2 y) in
        p.2 ∙ ap (leave_notes l f) same ∙ sym q.2

-- what the events of such a command give
given-events : (m : Setting) (closing : Option ℕ) (l : Ledger) (free left : Free) (notes : List Note) (es : List Event) → es ≡ note_events notes →
    AreDone (notes_of es) → ChoosesAll m closing l es free left → Given m closing l free notes
given-events m closing l free left notes es e x c = record {
  done = subst AreDone (ap notes_of e ∙ notes_of-note_events notes) x;
  left = left;
  chosen = subst (λ es. ChoosesAll m closing l es free left) e c;
}

pub reclaims-one : (m : Setting) (closing : Option ℕ) (told : Tells m) (w : World) (l : Ledger) (n : ℕ) (es fs : List Event) (answer answer' : Answer)
    (rows rows' : List Row) (free a b : Free) → Reclaims m w l n es answer rows → Reclaims m w l n fs answer' rows' → AreDone (notes_of es) →
    AreDone (notes_of fs) → ChoosesAll m closing l es free a → ChoosesAll m closing l fs free b → es ≡ fs
reclaims-one m closing told w l n es fs answer answer' rows rows' free a b h g x y c d =
    h.3 ∙ ap note_events (outcomes-one m closing told (sparing w l None) l free (from_tail n l.inactive) h.0 g.0 h.1 g.1
    (given-events m closing l free a h.0 es h.3 x c) (given-events m closing l free b g.0 fs g.3 y d)) ∙ sym g.3

pub complete-one : (l : Ledger) (n : ℕ) (es fs : List Event) (answer answer' : Answer) (rows rows' : List Row) → CompletesFirst l n es answer rows →
    CompletesFirst l n fs answer' rows' → AreDone (notes_of es) → AreDone (notes_of fs) → es ≡ fs
complete-one l n es fs answer answer' rows rows' h g x y = h.3 ∙ ap note_events (completes-one l _ h.0 g.0 h.1 g.1
    (subst AreDone (ap notes_of h.3 ∙ notes_of-note_events h.0) x) (subst AreDone (ap notes_of g.3 ∙ notes_of-note_events g.0) y)) ∙ sym g.3

-- ---- swapon and slot

pub turns-on-one : (m : Setting) (k : ℕ) (priority : Option ℕ) (es fs : List Event) (answer answer' : Answer) (rows rows' : List Row) → Tells m →
    TurnsOn m k priority es answer rows → TurnsOn m k priority fs answer' rows' → failure_answers answer ≡ 0 → failure_answers answer' ≡ 0
    → answer ≡ answer'
turns-on-one m k priority es fs answer answer' rows rows' told h g kept kept' =
    by m.headers told (read answer h.0 kept) (read answer' g.0 kept')
  where
    read : (answer : Answer) → (answer ≡ Refused Eio) ⊎ IsByHeader m.headers k answer → failure_answers answer ≡ 0 → IsByHeader m.headers k answer
    read answer (inl e) kept = absurd (let one = ap failure_answers (sym e) ∙ kept in omega (arith, one))
    read answer (inr h) kept = h

    by : (o : Option (ℕ → Option Layout)) → is_some o ≡ true → IsByHeader o k answer → IsByHeader o k answer' → answer ≡ answer'
    by None told h g = cc
    by (Some headers) told h g = h ∙ sym g

pub reports-slot-one : (m : Setting) (l : Ledger) (s : Slot) (es fs : List Event) (answer answer' : Answer) (rows rows' : List Row) → Tells m →
    ReportsSlot m l s es answer rows → ReportsSlot m l s fs answer' rows' → answer ≡ answer'
reports-slot-one m l s es fs answer answer' rows rows' told h g = by m.headers told h.0 g.0
  where
    by : (o : Option (ℕ → Option Layout)) → is_some o ≡ true
        → MatchOption o ((answer ≡ count_answer l s) ⊎ MayBeNoSlot l s answer) (λ _. answer ≡ slot_answer m l s)
        → MatchOption o ((answer' ≡ count_answer l s) ⊎ MayBeNoSlot l s answer') (λ _. answer' ≡ slot_answer m l s) → answer ≡ answer'
    by None told h g = cc
    by (Some headers) told h g = h ∙ sym g

-- ---- swapoff

-- the page is not unread
abbrev pub IsRead : Close → Type 0
IsRead Closed = Unit {0}
IsRead (NoRoom out) = Unit {0}
IsRead Unread = ⊥

read-by : (end : Close) → failure_answers (close_answer end) ≡ 0 → IsRead end
read-by Closed h = tt
read-by (NoRoom out) h = tt
read-by Unread h = absurd (omega (arith, h))

inner : {f g : ℕ} → Some f ≡ Some g → f ≡ g
inner e = cc

fetches-one : (m : Setting) (closing : Option ℕ) (told : Tells m) (sp : Spared) (l : Ledger) (free : Free) (s : Slot) (f g : ℕ) (a b : List Note) →
    IsFetched m sp l s f a → IsFetched m sp l s g b → Given m closing l free a → Given m closing l free b → (a ≡ b) × (f ≡ g)
fetches-one m closing told sp l free s f g a b h i x y = by (frame_at l s) h i
  where
    by : (o : Option ℕ) → MatchOption o (TakesFor m sp l a (Loaded s) × (frame_at (after_notes l a) s ≡ Some f)) (λ c. (a ≡ []) × (f ≡ c))
        → MatchOption o (TakesFor m sp l b (Loaded s) × (frame_at (after_notes l b) s ≡ Some g)) (λ c. (b ≡ []) × (g ≡ c)) → (a ≡ b) × (f ≡ g)
    by None p q = let same = takes-one m closing told sp l free a b (Loaded s) (λ f. (refl, refl)) p.0 q.0 x y in
        (same, inner (sym p.1 ∙ ap (λ ns. frame_at (after_notes l ns) s) same ∙ q.1))
    by (Some c) p q = (p.0 ∙ sym q.0, p.1 ∙ sym q.1)

emptied-one : (m : Setting) (closing : Option ℕ) (told : Tells m) (sp : Spared) (l : Ledger) (free : Free) (s : Slot) (a b : List Note) →
    IsEmptied m sp l s a → IsEmptied m sp l s b → Given m closing l free a → Given m closing l free b → a ≡ b
emptied-one m closing told sp l free s a b h g x y =
    let xs = given-parts m closing l free h.fetched (map_notes (after_notes l h.fetched) s h.frame) (given-is m closing l free a _ h.whole x) in
    let ys = given-parts m closing l free g.fetched (map_notes (after_notes l g.fetched) s g.frame) (given-is m closing l free b _ g.whole y) in
    let one = fetches-one m closing told sp l free s h.frame g.frame h.fetched g.fetched h.fetches g.fetches xs.1 ys.1 in
    h.whole ∙ (λ i. one.0 i ++ map_notes (after_notes l (one.0 i)) s (one.1 i)) ∙ sym g.whole

-- a slot that is emptied, and the end at it
never-both : (m : Setting) (closing : Option ℕ) (told : Tells m) (sp : Spared) (k : ℕ) (l : Ledger) (free : Free) (page : ℕ) (pages : List ℕ)
    (a b rest : List Note) (end : Close) → IsRead end → IsEmptied m sp l (record { area = k; page = page }) a →
    EndsAt m sp k l (page ∷ pages) b end → Given m closing l free (a ++ rest) → Given m closing l free b → ⊥
never-both m closing told sp k l free page pages a b rest end read h g x y = by (frame_at l s) g.0 h.fetches
  where
    s : Slot
    s = record { area = k; page = page }

    by : (o : Option ℕ) → o ≡ None → MatchOption o (TakesFor m sp l h.fetched (Loaded s) × (frame_at (after_notes l h.fetched) s ≡ Some h.frame))
        (λ c. (h.fetched ≡ []) × (h.frame ≡ c)) → ⊥
    by (Some c) e q = cc
    by None e q =
        let taken = q.0 in
        let xs = given-parts m closing l free a rest x in
        let fs = given-parts m closing l free h.fetched (map_notes (after_notes l h.fetched) s h.frame)
        (given-is m closing l free a _ h.whole xs.1) in
        let ts = given-parts m closing l free taken.sought (Loaded s taken.frame ∷ []) (given-is m closing l free h.fetched _ taken.whole fs.1) in
        let same = seeks-one m closing told sp l free taken.sought b taken.seeks g.1 ts.1 y in
        let free_there = ap (λ ns. has_free m (after_notes l ns)) (sym same)
        ∙ has_free-some m (after_notes l taken.sought) taken.frame taken.in_range taken.free in
        unread (has_free m (after_notes l b)) free_there (subst IsRead g.2 read)
      where
        unread : (c : Bool) → c ≡ true → IsRead (if c then Unread else NoRoom (out_of m sp (after_notes l b))) → ⊥
        unread true e r = r
        unread false e r = cc

empties-one : (m : Setting) (closing : Option ℕ) (told : Tells m) (w : World) (k : ℕ) (l : Ledger) (free : Free) (ps qs : List ℕ) (a b : List Note)
    (end end' : Close) → IsRead end → IsRead end' → Empties m w k l ps a end → Empties m w k l qs b end' → Given m closing l free a →
    Given m closing l free b → (a ≡ b) × (end ≡ end')
empties-one m closing told w k l free [] [] a b end end' r r' h g x y = by (slots_in_use m l k) h g
  where
    by : (pages : List ℕ) → EndsAt m (sparing_area w k l) k l pages a end → EndsAt m (sparing_area w k l) k l pages b end' → (a ≡ b) × (end ≡ end')
    by [] p q = (p.0 ∙ sym q.0, p.1 ∙ sym q.1)
    by (page ∷ pages) p q =
        let same = seeks-one m closing told (sparing_area w k l) l free a b p.1 q.1 x y in
        (same, p.2 ∙ ap (λ ns. end_at m (sparing_area w k l) (after_notes l ns)) same ∙ sym q.2)
empties-one m closing told w k l free [] (q ∷ qs) a b end end' r r' h g x y =
    absurd (never-both m closing told (sparing_area w k l) k l free q g.0 g.1 a g.2 end r g.5 (subst (λ pages. EndsAt m (sparing_area w k l) k l pages a end) g.3 h)
    (given-is m closing l free b _ g.4 y) x)
empties-one m closing told w k l free (p ∷ ps) [] a b end end' r r' h g x y =
    absurd (never-both m closing told (sparing_area w k l) k l free p h.0 h.1 b h.2 end' r' h.5 (subst (λ pages. EndsAt m (sparing_area w k l) k l pages b end') h.3 g)
    (given-is m closing l free a _ h.4 x) y)
empties-one m closing told w k l free (p ∷ ps) (q ∷ qs) a b end end' r r' h g x y =
    let page : q ≡ p = first (sym g.3 ∙ h.3) in
    let xs = given-parts m closing l free h.1 h.2 (given-is m closing l free a _ h.4 x) in
    let ys = given-parts m closing l free g.1 g.2 (given-is m closing l free b _ g.4 y) in
    let here = emptied-one m closing told (sparing_area w k l) l free (record { area = k; page = p }) h.1 g.1 h.5
    (subst (λ page. IsEmptied m (sparing_area w k l) l (record { area = k; page = page }) g.1) page g.5) xs.1 ys.1 in
    let mids = left-one m closing l h.1 g.1 free xs.0 ys.0 told here xs.2 ys.2 in
    let there = subst (λ ns. Empties m w k (after_notes l ns) qs g.2 end') (sym here) g.6 in
    let given = subst (λ mid. Given m closing (after_notes l h.1) mid g.2) mids
    (subst (λ ns. Given m closing (after_notes l ns) ys.0 g.2) (sym here) ys.3) in
    let rest = empties-one m closing told w k (after_notes l h.1) xs.0 ps qs h.2 g.2 end end' r r' h.6 there xs.3 given in
    (h.4 ∙ (λ i. here i ++ rest.0 i) ∙ sym g.4, rest.1)
  where
    first : {x y : ℕ} {xs ys : List ℕ} → x ∷ xs ≡ y ∷ ys → x ≡ y
    first e = cc

-- the notes of a swapoff
off-given : (m : Setting) (closing : Option ℕ) (w : World) (l : Ledger) (k : ℕ) (es : List Event) (answer : Answer) (rows : List Row)
    (free left : Free)
    (h : TurnsOff m w l k es answer rows) → AreDone (notes_of es) → ChoosesAll m closing l es free left → Given m closing l free (h.done ++ h.notes)
off-given m closing w l k es answer rows free left h x c =
    let parts = chosen-first m closing l (note_events (h.done ++ h.notes)) (turn_off_events k h.end) free left
    (subst (λ es. ChoosesAll m closing l es free left) h.whole c) in
    let ns = done-append (notes_of (note_events (h.done ++ h.notes))) (notes_of (turn_off_events k h.end))
    (subst AreDone (ap notes_of h.whole ∙ notes_of-append (note_events (h.done ++ h.notes)) (turn_off_events k h.end)) x) in
    record { done = subst AreDone (notes_of-note_events (h.done ++ h.notes)) ns.0; left = parts.0; chosen = parts.1 }

pub turns-off-one : (m : Setting) (closing : Option ℕ) (told : Tells m) (w : World) (l : Ledger) (k : ℕ) (es fs : List Event)
    (answer answer' : Answer)
    (rows rows' : List Row) (free a b : Free) → TurnsOff m w l k es answer rows → TurnsOff m w l k fs answer' rows' → failure_answers answer ≡ 0 →
    failure_answers answer' ≡ 0 → AreDone (notes_of es) → AreDone (notes_of fs) →
    ChoosesAll m closing l es free a → ChoosesAll m closing l fs free b →
    (es ≡ fs) × (answer ≡ answer')
turns-off-one m closing told w l k es fs answer answer' rows rows' free a b h g kept kept' x y c d =
    let xs = given-parts m closing l free h.done h.notes (off-given m closing w l k es answer rows free a h x c) in
    let ys = given-parts m closing l free g.done g.notes (off-given m closing w l k fs answer' rows' free b g y d) in
    let done = completes-one l l.flight h.done g.done h.completes g.completes xs.1.done ys.1.done in
    let mids = left-one m closing l h.done g.done free xs.0 ys.0 told done xs.2 ys.2 in
    let now = after_notes l h.done in
    let there = subst (λ ns. let now = after_notes l ns in Empties m w k now g.pages g.notes g.end) (sym done) g.empties in
    let given = subst (λ mid. Given m closing now mid g.notes) mids (subst (λ ns. Given m closing (after_notes l ns) ys.0 g.notes) (sym done) ys.3) in
    let rest = empties-one m closing told w k now xs.0 h.pages g.pages h.notes g.notes h.end g.end
    (read-by h.end (ap failure_answers (sym h.answered) ∙ kept)) (read-by g.end (ap failure_answers (sym g.answered) ∙ kept')) h.empties there
    xs.3 given in (
      h.whole ∙ (λ i. note_events (done i ++ rest.0 i) ++ turn_off_events k (rest.1 i)) ∙ sym g.whole,
      h.answered ∙ ap close_answer rest.1 ∙ sym g.answered,
    )
