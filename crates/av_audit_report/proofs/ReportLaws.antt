-- Reports of the ledger leave no choice: there is one answer, and nothing else.
use Rattle.std.proofs.Common.{◌≡◌, ℕ, Bool, true, false, cond, List, [], ◌∷◌, ◌++◌, append-nil, length, map, Option, Some, None, refl, sym, ap, subst, ◌∙◌}
use Rattle.std.specs.List.{AllByRecursion}
use Rattle.std.proofs.lemmas.List.{append_assoc}
use Rattle.av_base.specs.Page.{page_of}
use Rattle.av_base.specs.declared.slot.Slot.{Slot}
use Rattle.av_trace.specs.declared.command.Command.{Command}
use Rattle.av_trace.specs.declared.command.Command.TheVariants.{Entry as AsksEntry, Maps, Rmap as AsksRmap, Slot as AsksSlot, Stat}
use Rattle.av_trace.specs.declared.reply.Answer.{Answer}
use Rattle.av_trace.specs.declared.reply.Answer.TheVariants.{Counted, Runs, SlotBad}
use Rattle.av_trace.specs.declared.reply.Reply.{Reply}
use Rattle.av_trace.specs.declared.row.Row.{Row}
use Rattle.av_base.specs.Keys.{Key}
use Rattle.av_trace.specs.Row.{IsEntry}
use Rattle.av_trace.specs.declared.reply.Totals.{Totals}
use Rattle.av_trace.specs.Reply.{AreTotals, Follow, IsAnswer, IsReply, answer_only}
use Rattle.av_plain.specs.Ledger.{Entry as PlainEntry, InFrame, InSlot, Ledger, Setting, Zero, entry, is_usable}
use Rattle.av_plain.specs.Refusal.{refusal, tests}
use Rattle.std.specs.Prelude.{MatchOption}
use Rattle.av_plain.specs.Event.{Event, notes_of}
use Rattle.av_plain.specs.Refusal.{Refuses}
use Rattle.av_plain.specs.Step.{Follows, IsLegal}
use Rattle.av_plain.specs.Report.{AreMaps, count_answer, entry_answer, key_row, slot_answer, totals}
use Rattle.av_plain.specs.World.{World, pages}
use Rattle.av_command_laws.proofs.OneRuns.{one-answer}
use Rattle.av_audit_book.specs.Machine.{setting_of}
use Rattle.av_audit_book.specs.declared.machine.Machine.{Machine}
use Rattle.av_audit_judge.specs.Says.{SaysOnly, SaysReply}
use Rattle.av_audit_judge.specs.Verdict.{IsVerdict}
use Rattle.av_audit_judge.proofs.KnownLaws.{AnswersOnly, known-verdict}
use Rattle.av_audit_report.specs.Made.{IsMade, SaysMade}
use Rattle.av_audit_report.specs.Report.{shown_runs, shown_totals, shown_walk}
use Rattle.av_audit_report.specs.Rows.{AreFilled, IsAdded}

-- a report whose answer is known, without rows
module _ (m : Setting) (w : World) (l : Ledger) (command : Command) (known : Answer) (only : AnswersOnly m w l command (answer_only known) [])
    (follow : Follow known [] []) where
  pub told-verdict : (unit : List ℕ) (legal : Bool) (made : Answer) → made ≡ known → IsAnswer made → SaysOnly legal unit made
      → IsVerdict m w l command unit legal l
  told-verdict unit legal made is form says = known-verdict m w l l command (answer_only known) [] unit legal only
      (record { answer = subst IsAnswer is form; rest = follow }) refl (subst (SaysOnly legal unit) is says)

-- ---- entry

pub entry-only : (m : Setting) (w : World) (l : Ledger) (p a : ℕ) → refusal (tests m w l (AsksEntry p a)) ≡ None
    → AnswersOnly m w l (AsksEntry p a) (answer_only (entry_answer l (entry l (p, page_of a)))) []
entry-only m w l p a none = record { no_test = none; only = λ es answer rows h. h; does = (refl, refl, refl); notes = refl }

pub entry-follow : (l : Ledger) (o : Option PlainEntry) → Follow (entry_answer l o) [] []
entry-follow l None = (tt, refl)
entry-follow l (Some Zero) = (tt, refl)
entry-follow l (Some (InFrame f seen)) = (tt, refl)
entry-follow l (Some (InSlot s)) = (tt, refl)

-- ---- slot, where headers are told

pub slot-only : (machine : Machine) (w : World) (l : Ledger) (s : Slot) → refusal (tests (setting_of machine) w l (AsksSlot s.area s.page)) ≡ None
    → AnswersOnly (setting_of machine) w l (AsksSlot s.area s.page) (answer_only (slot_answer (setting_of machine) l s)) []
slot-only machine w l s none = record { no_test = none; only = λ es answer rows h. h; does = (refl, refl, refl); notes = refl }

pub slot-follow : (m : Setting) (l : Ledger) (s : Slot) → Follow (slot_answer m l s) [] []
slot-follow m l s = by (is_usable m s)
  where
    by : (b : Bool) → Follow (cond b (count_answer l s) (SlotBad s)) [] []
    by true = (tt, refl)
    by false = (tt, refl)

-- ---- a reply that is made, or has a number that is too great

-- a legal reply is that one
one-legal : (m : Setting) (w : World) (l : Ledger) (command : Command) (reply : Reply) (events : List Event) (other : Reply) (es : List Event)
    → AnswersOnly m w l command reply events → IsLegal m w l command other es → other ≡ reply
one-legal m w l command reply events other es only legal =
    let done = only.only es other.answer other.rows
    (subst (λ o. MatchOption o (Follows m w l command es other.answer other.rows)
    (λ error. Refuses error es other.answer other.rows)) only.no_test legal.answer) in
    let notes : other.notes ≡ reply.notes = legal.notes ∙ ap notes_of done.1 ∙ sym only.notes in
    λ i. record { answer = done.0 i; notes = notes i; rows = done.2 i }

module _ (m : Setting) (w : World) (l : Ledger) (command : Command) (reply : Reply) (only : AnswersOnly m w l command reply []) where
  -- one that can't be told
  pub none-verdict : (unit : List ℕ) → (IsReply reply → ⊥) → IsVerdict m w l command unit false l
  none-verdict unit none = λ other es form text legal. none (subst IsReply (one-legal m w l command reply [] other es only legal) form)

  pub made-verdict : (unit : List ℕ) (legal : Bool) (made : Option Reply) → IsMade reply made → SaysMade legal unit made
      → IsVerdict m w l command unit legal l
  made-verdict unit legal None none says = subst (λ b. IsVerdict m w l command unit b l) (sym says) (none-verdict unit none)
  made-verdict unit legal (Some r) is says =
      known-verdict m w l l command reply [] unit legal only is.1 refl (subst (SaysReply legal unit) is.0 says)

-- ---- stat

pub stat-only : (m : Setting) (w : World) (l : Ledger) → AnswersOnly m w l Stat (shown_totals m w l) []
stat-only m w l = record { no_test = refl; only = λ es answer rows h. h; does = (refl, refl, refl); notes = refl }

pub stat-none : (m : Setting) (w : World) (l : Ledger) (unit : List ℕ) → (AreTotals (totals m w l) → ⊥) → IsVerdict m w l Stat unit false l
stat-none m w l unit none = none-verdict m w l Stat (shown_totals m w l) (stat-only m w l) unit (λ form. none form.answer)

pub stat-some : (m : Setting) (w : World) (l : Ledger) (unit : List ℕ) (legal : Bool) (t : Totals) → t ≡ totals m w l → AreTotals t
    → SaysOnly legal unit (Counted t) → IsVerdict m w l Stat unit legal l
stat-some m w l unit legal t is form says =
    told-verdict m w l Stat (Counted (totals m w l)) (stat-only m w l) (tt, refl) unit legal (Counted t) (ap Counted is) form says

-- ---- rmap

pub rmap-only : (m : Setting) (w : World) (l : Ledger) (p a : ℕ) → refusal (tests m w l (AsksRmap p a)) ≡ None
    → AnswersOnly m w l (AsksRmap p a) (shown_walk l (entry l (p, page_of a))) []
rmap-only m w l p a none = record { no_test = none; only = λ es answer rows h. h; does = (refl, refl, refl); notes = refl }

-- ---- maps

pub maps-only : (m : Setting) (w : World) (l : Ledger) (p : ℕ) (rows : List Row) → refusal (tests m w l (Maps p)) ≡ None
    → AreMaps (pages w p) rows → AnswersOnly m w l (Maps p) (shown_runs rows) []
maps-only m w l p rows none are = record {
  no_test = none;
  only = λ es answer others h.
      let same = one-answer (pages w p) others rows h.1 are in
      (h.0 ∙ ap (λ (r : List Row). Runs (length r)) same, h.2, same);
  does = (refl, are, refl);
  notes = refl;
}

-- ---- rows that are added one by one

-- those that are there, and those to come
pub record AreLeft (Fits : Row → Type 0) (all made rest : List Row) : Type 0 where
  pub whole : made ++ rest ≡ all
  pub fit : AllByRecursion Fits made

pub left-all : (Fits : Row → Type 0) (all made : List Row) → made ≡ [] → AreLeft Fits all made all
left-all Fits all made none = record { whole = ap (λ r. r ++ all) none; fit = subst (AllByRecursion Fits) (sym none) tt }

all-last : (Fits : Row → Type 0) (made : List Row) (row : Row) → AllByRecursion Fits made → Fits row → AllByRecursion Fits (made ++ row ∷ [])
all-last Fits [] row h f = (f, tt)
all-last Fits (r ∷ made) row h f = (h.0, all-last Fits made row h.1 f)

all-middle : (Fits : Row → Type 0) (made : List Row) (row : Row) (rest : List Row) → AllByRecursion Fits (made ++ row ∷ rest) → Fits row
all-middle Fits [] row rest h = h.0
all-middle Fits (r ∷ made) row rest h = all-middle Fits made row rest h.1

pub left-added : (Fits : Row → Type 0) (all made new rest : List Row) (row : Row) → AreLeft Fits all made (row ∷ rest)
    → IsAdded Fits row true made new → AreLeft Fits all new rest
left-added Fits all made new rest row h is = record {
  whole = ap (λ r. r ++ rest) is.0 ∙ append_assoc made (row ∷ []) rest ∙ h.whole;
  fit = subst (AllByRecursion Fits) (sym is.0) (all-last Fits made row h.fit is.1);
}

pub left-none : (Fits : Row → Type 0) (all made new rest : List Row) (row : Row) → AreLeft Fits all made (row ∷ rest)
    → IsAdded Fits row false made new → AreFilled Fits all false new
left-none Fits all made new rest row h none = λ fit. none (all-middle Fits made row rest (subst (AllByRecursion Fits) (sym h.whole) fit))

pub left-over : (Fits : Row → Type 0) (all made : List Row) → AreLeft Fits all made [] → AreFilled Fits all true made
left-over Fits all made h =
    let same = sym (append-nil made) ∙ h.whole in (same, subst (AllByRecursion Fits) same h.fit)

-- the last row
pub left-last : (Fits : Row → Type 0) (all made new : List Row) (row : Row) (added : Bool) → AreLeft Fits all made (row ∷ [])
    → IsAdded Fits row added made new → AreFilled Fits all added new
left-last Fits all made new row true h is = left-over Fits all new (left-added Fits all made new [] row h is)
left-last Fits all made new row false h none = left-none Fits all made new [] row h none

-- ---- the rows of keys

module _ (all made new : List Row) (ks others : List Key) (k : Key) (added : Bool) (is : k ∷ others ≡ ks)
    (left : AreLeft IsEntry all made (map key_row ks)) (h : IsAdded IsEntry (key_row k) added made new) where
  front : AreLeft IsEntry all made (key_row k ∷ map key_row others)
  front = subst (λ ks. AreLeft IsEntry all made (map key_row ks)) (sym is) left

  pub keys-wide : added ≡ false → AreFilled IsEntry all false new
  keys-wide e = left-none IsEntry all made new (map key_row others) (key_row k) front (subst (λ b. IsAdded IsEntry (key_row k) b made new) e h)

  pub keys-more : added ≡ true → AreLeft IsEntry all new (map key_row others)
  keys-more e = left-added IsEntry all made new (map key_row others) (key_row k) front (subst (λ b. IsAdded IsEntry (key_row k) b made new) e h)

-- none is left
pub keys-all : (all made : List Row) (ks : List Key) → ks ≡ [] → AreLeft IsEntry all made (map key_row ks) → AreFilled IsEntry all true made
keys-all all made ks none left = left-over IsEntry all made (subst (λ ks. AreLeft IsEntry all made (map key_row ks)) none left)
