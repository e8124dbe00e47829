-- Units of mlock: what it answers where its pages come in, and before a hole.
use Rattle.std.proofs.Common.{◌≡◌, ℕ, zero, suc, ◌+◌, ◌-◌, ◌*◌, ◌<◌, ◌≤◌, Bool, true, false, cond, ◌==◌, List, [], ◌∷◌, ◌++◌, Option, Some}
use Rattle.std.proofs.Common.{None, min, is_some, refl, sym, ap, subst, ◌∙◌, arith, append-nil, append_assoc}
use Rattle.std.specs.Prelude.{MatchBool}
use Rattle.std.specs.List.{AllByRecursion}
use Rattle.av_base.specs.Page.{address_of, page_of, pages_met}
use Rattle.av_trace.specs.declared.command.Command.TheVariants.{Mlock}
use Rattle.av_trace.specs.declared.reply.Answer.{Answer}
use Rattle.av_trace.specs.declared.reply.Answer.TheVariants.{Refused}
use Rattle.av_trace.specs.declared.reply.Errno.TheVariants.{Einval, Enomem}
use Rattle.av_trace.specs.Print.{text_of}
use Rattle.av_trace.specs.Reply.{IsAnswer, IsReply}
use Rattle.av_plain.specs.Access.{Accesses, End, Stopped, Whole, bytes_served, write_answer}
use Rattle.av_plain.specs.Event.{Event}
use Rattle.av_plain.specs.Fault.{Denied, Lost, Starved, permits}
use Rattle.av_plain.specs.Ledger.{Ledger, Setting}
use Rattle.av_plain.specs.Lock.{BringsIn, access_of, accesses_of, lock_event, with_lock}
use Rattle.av_plain.specs.Refusal.{ends_too_high, locks_too_many, refusal, tests}
use Rattle.av_plain.specs.Step.{next}
use Rattle.av_plain.specs.World.{Page, Process, World, allows, lives, pages, pages_to_hole}
use Rattle.av_audit_laws.proofs.ToldReply.{accesses-told}
use Rattle.av_audit_book.specs.Book.{ledger_of}
use Rattle.av_audit_book.specs.declared.book.Book.{Book}
use Rattle.av_audit_judge.specs.Says.{SaysOnly}
use Rattle.av_audit_judge.proofs.KnownLaws.{AnswersOnly}
use Rattle.av_audit_world.specs.Memories.{IsWorld}
use Rattle.av_audit_world.specs.declared.memories.Memories.{Memories}
use Rattle.av_audit_access.specs.Access.{AreTold}
use Rattle.av_audit.specs.Access.{IsFirstLine, Tells}
use Rattle.av_audit.specs.Judge.{IsLeft}
use Rattle.av_audit.specs.Known.{reply_of}
use Rattle.av_audit.proofs.AccessLaws.{stopped-in}
use Rattle.av_audit.proofs.EndLaws.{HasNotes, IsEnding, IsTelling, WritesTo, follows-by, legal-by, tells-by, tells-left, write-notes}
use Rattle.av_audit.proofs.KnownUnits.{first-lives, known-said, no-first}

-- ---- pages

pub all-append : (xs ys : List (Bool × ℕ)) (most : ℕ) → AllByRecursion (λ (x : Bool × ℕ). x.1 < most) xs
    → AllByRecursion (λ (x : Bool × ℕ). x.1 < most) ys → AllByRecursion (λ (x : Bool × ℕ). x.1 < most) (xs ++ ys)
all-append [] ys most h g = g
all-append (x ∷ xs) ys most h g = (h.0, all-append xs ys most h.1 g)

-- the pages that come in are among those that are locked
pub accesses-below : (q : Process) (from n : ℕ) → AllByRecursion (λ (x : Bool × ℕ). x.1 < from + n) (accesses_of q from n)
accesses-below q from zero = tt
accesses-below q from (suc n) =
    all-append (access_of from (q from)) (accesses_of q (from + 1) n) (from + suc n) (here (q from))
    (subst (λ most. AllByRecursion (λ (x : Bool × ℕ). x.1 < most) (accesses_of q (from + 1) n)) next (accesses-below q (from + 1) n))
  where
    next : (from + 1) + n ≡ from + suc n
    next = omega arith

    low : from < from + suc n
    low = omega arith

    by : (a b : Bool) → AllByRecursion (λ (x : Bool × ℕ). x.1 < from + suc n) (cond a ((true, from) ∷ []) (cond b ((false, from) ∷ []) []))
    by true b = (low, tt)
    by false true = (low, tt)
    by false false = tt

    here : (o : Option Page) → AllByRecursion (λ (x : Bool × ℕ). x.1 < from + suc n) (access_of from o)
    here None = tt
    here (Some p) = by (allows true p.prot) (allows false p.prot)

-- how one comes in, by what is allowed
pub access-by : (page : ℕ) (o : Option Page)
    → access_of page o ≡ cond (permits true o) ((true, page) ∷ []) (cond (permits false o) ((false, page) ∷ []) [])
access-by page None = refl
access-by page (Some p) = refl

-- ---- the end

-- what is served of pages below another
pub locked-served : (m : Setting) (w : World) (l : Ledger) (p from n : ℕ) (turns : List (Bool × ℕ)) (es : List Event) (end : End)
    → AllByRecursion (λ (x : Bool × ℕ). x.1 < from + n) turns → Accesses m w l p turns es end
    → bytes_served (from * 4096) (n * 4096) end ≤ n * 4096
locked-served m w l p from n turns es Whole all h = omega arith
locked-served m w l p from n turns es (Stopped page stop) all h =
    let low : page < from + n = stopped-in m w l p (λ q. q < from + n) turns es page stop all h in
    omega (arith, low)

-- accesses that are answered as a write's
pub lock-telling : (m : Setting) (w : World) (l : Ledger) (p a : ℕ) (turns : List (Bool × ℕ))
    → IsTelling (λ end es. Accesses m w l p turns es end) (WritesTo a)
lock-telling m w l p a turns = record {
  one = λ end end' es fs x y h k g i e. g ∙ ap (write_answer a) (accesses-told m w l p turns es fs end end' h k e).1 ∙ sym i;
  notes = λ end answer g. subst HasNotes (sym g) (write-notes a end);
}

-- ---- the command

-- where an mlock ends whose pages are all mapped
abbrev pub LocksTo : Setting → World → Ledger → ℕ → ℕ → ℕ → End → List Event → Type 0
LocksTo m w l p from n end es = (coming : List Event) × (es ≡ lock_event true (pages w p) p from n ∷ coming)
    × Accesses m (with_lock true w p from n) l p (accesses_of (pages w p) from n) coming end

-- the lock comes first, and is no note
pub locked-tells : (m : Setting) (w : World) (l l' : Ledger) (p from n : ℕ) (Answers : End → Answer → Type 0) (unit : List ℕ) (legal : Bool)
    → Tells (λ end es. Accesses m (with_lock true w p from n) l p (accesses_of (pages w p) from n) es end) Answers l unit legal l'
    → Tells (LocksTo m w l p from n) Answers l unit legal l'
locked-tells m w l l' p from n Answers unit true t = record {
  end = t.end;
  events = lock_event true (pages w p) p from n ∷ t.events;
  answer = t.answer;
  lawful = (t.events, refl, t.lawful);
  answers = t.answers;
  form = t.form;
  text = t.text;
  after = t.after;
}
locked-tells m w l l' p from n Answers unit false none = λ end es answer lawful given form text.
    none end lawful.0 answer lawful.2 given (subst (λ es. IsReply (reply_of answer es)) lawful.1 form)
    (subst (λ es. unit ≡ text_of (reply_of answer es)) lawful.1 text)

pub lock-ending : (m : Setting) (w : World) (l : Ledger) (p a len : ℕ) → refusal (tests m w l (Mlock p a len)) ≡ None
    → (pages_to_hole (pages w p) (page_of a) (pages_met a len) == pages_met a len) ≡ true
    → IsEnding m w l (Mlock p a len) (LocksTo m w l p (page_of a) (pages_met a len)) (WritesTo (address_of (page_of a)))
lock-ending m w l p a len none all = record {
  into = λ end es answer h g. legal-by m w l (Mlock p a len) answer es none (
    h.0,
    h.1,
    refl,
    subst (λ b. MatchBool b (BringsIn m w l p (page_of a) (pages_met a len) h.0 answer) ((h.0 ≡ []) × (answer ≡ Refused Enomem)))
        (sym all) (end, h.2, g),
  );
  out = λ reply es h.
      let f = follows-by m w l (Mlock p a len) reply es none h in
      let b = subst (λ b. MatchBool b (BringsIn m w l p (page_of a) (pages_met a len) f.0 reply.answer) ((f.0 ≡ []) × (reply.answer ≡ Refused Enomem)))
      all f.3 in
      (b.0, (f.0, f.1, b.1), b.2, f.2);
}

-- before a hole the pages are locked, and none comes in
pub hole-only : (m : Setting) (w : World) (l : Ledger) (p a len : ℕ) → refusal (tests m w l (Mlock p a len)) ≡ None
    → (pages_to_hole (pages w p) (page_of a) (pages_met a len) == pages_met a len) ≡ false
    → AnswersOnly m w l (Mlock p a len) (reply_of (Refused Enomem) (lock_event true (pages w p) p (page_of a) (pages_met a len) ∷ []))
    (lock_event true (pages w p) p (page_of a) (pages_met a len) ∷ [])
hole-only m w l p a len none hole = record {
  no_test = none;
  only = λ es answer rows h.
      let b = subst (λ b. MatchBool b (BringsIn m w l p (page_of a) (pages_met a len) h.0 answer) ((h.0 ≡ []) × (answer ≡ Refused Enomem)))
      hole h.3 in
      (b.1, h.1 ∙ ap (λ r. lock_event true (pages w p) p (page_of a) (pages_met a len) ∷ r) b.0, h.2);
  does = (
    [],
    refl,
    refl,
    subst (λ b. MatchBool b (BringsIn m w l p (page_of a) (pages_met a len) [] (Refused Enomem)) ((nothing ≡ []) × (Refused Enomem ≡ Refused Enomem)))
        (sym hole) (refl, refl),
  );
  notes = refl;
}
  where
    nothing : List Event
    nothing = []

pub lock-next : (w : World) (p a len : ℕ) (end : End)
    → next w (Mlock p a len) (write_answer (address_of (page_of a)) end) ≡ with_lock true w p (page_of a) (pages_met a len)
lock-next w p a len Whole = refl
lock-next w p a len (Stopped page Denied) = refl
lock-next w p a len (Stopped page (Starved out)) = refl
lock-next w p a len (Stopped page Lost) = refl

pub hole-next : (w : World) (p a len : ℕ) → locks_too_many a len ≡ false
    → next w (Mlock p a len) (Refused Enomem) ≡ with_lock true w p (page_of a) (pages_met a len)
hole-next w p a len few = ap (λ b. cond b w (with_lock true w p (page_of a) (pages_met a len))) few

-- what isn't refused is asked of a process that lives
pub lock-lives : (m : Setting) (w : World) (l : Ledger) (p a len : ℕ) → refusal (tests m w l (Mlock p a len)) ≡ None → lives w p ≡ true
lock-lives m w l p a len none = (first-lives w p ((ends_too_high a len, Einval) ∷ (locks_too_many a len, Enomem) ∷ []) none).0

-- what isn't refused locks few pages
pub lock-few : (m : Setting) (w : World) (l : Ledger) (p a len : ℕ) → refusal (tests m w l (Mlock p a len)) ≡ None
    → locks_too_many a len ≡ false
lock-few m w l p a len none =
    let f = first-lives w p ((ends_too_high a len, Einval) ∷ (locks_too_many a len, Enomem) ∷ []) none in
    let g = no-first (ends_too_high a len) Einval ((locks_too_many a len, Enomem) ∷ []) f.1 in
    (no-first (locks_too_many a len) Enomem [] g.1).0

-- ---- pages one by one

pub accesses-next : (q : Process) (made new all : List (Bool × ℕ)) (page end : ℕ) → page < end → new ≡ made ++ access_of page (q page)
    → made ++ accesses_of q page (end - page) ≡ all → new ++ accesses_of q (page + 1) (end - (page + 1)) ≡ all
accesses-next q made new all page end less is so =
    ap (λ xs. xs ++ accesses_of q (page + 1) (end - (page + 1))) is
    ∙ append_assoc made (access_of page (q page)) (accesses_of q (page + 1) (end - (page + 1)))
    ∙ ap (λ k. made ++ accesses_of q page k) (sym some) ∙ so
  where
    some : end - page ≡ suc (end - (page + 1))
    some = omega (arith, less)

pub accesses-done : (q : Process) (made all : List (Bool × ℕ)) (page end : ℕ) → end ≤ page
    → made ++ accesses_of q page (end - page) ≡ all → made ≡ all
accesses-done q made all page end over so = sym (append-nil made) ∙ ap (λ k. made ++ accesses_of q page k) (sym none) ∙ so
  where
    none : end - page ≡ 0
    none = omega (arith, over)

pub accesses-first : (q : Process) (from n end : ℕ) → end ≡ from + n → [] ++ accesses_of q from (end - from) ≡ accesses_of q from n
accesses-first q from n end is = ap (accesses_of q from) (let e : end - from ≡ n = omega (arith, is) in e)

pub all-higher : (xs : List (Bool × ℕ)) (most more : ℕ) → most ≤ more → AllByRecursion (λ (x : Bool × ℕ). x.1 < most) xs
    → AllByRecursion (λ (x : Bool × ℕ). x.1 < more) xs
all-higher [] most more le h = tt
all-higher (x ∷ xs) most more le h = let low = h.0 in (omega (arith, low, le), all-higher xs most more le h.1)

-- ---- what is said of a unit

-- pages came in, or the unit doesn't tell so
pub came-in : (m : Setting) (w : World) (l l' : Ledger) (p from n : ℕ) (turns : List (Bool × ℕ)) (unit first rest : List ℕ) (end : End) (k : ℕ)
    (answer : Answer) (legal : Bool) → IsFirstLine unit first rest → AllByRecursion (λ (x : Bool × ℕ). x.1 < from + n) turns
    → AreTold (λ es. Accesses m w l p turns es end) l rest l' → k ≡ min (n * 4096) (bytes_served (from * 4096) (n * 4096) end)
    → ((a n : ℕ) → k ≡ bytes_served a n end → answer ≡ write_answer a end) → IsAnswer answer → SaysOnly legal first answer
    → Tells (λ end es. Accesses m w l p turns es end) (WritesTo (address_of from)) l unit legal l'
came-in m w l l' p from n turns unit first rest end k answer legal is below t size answers fits says =
    let most = locked-served m w l p from n turns t.events end below t.lawful in
    tells-by (λ end es. Accesses m w l p turns es end) (WritesTo (address_of from)) (lock-telling m w l p (address_of from) turns)
    l l' unit first rest is legal end answer t
    (answers (from * 4096) (n * 4096) (least k (n * 4096) (bytes_served (from * 4096) (n * 4096) end) size most)
    ∙ ap (λ a. write_answer a end) turned) fits says
  where
    turned : from * 4096 ≡ 4096 * from
    turned = omega arith

    least : (k n s : ℕ) → k ≡ min n s → s ≤ n → k ≡ s
    least k n s is most = omega (arith, is, most)

module _ (m : Setting) (w : World) (p a len : ℕ) (unit : List ℕ) (told : is_some m.headers ≡ true) (memories : Memories) (book : Book)
    (legal : Bool) (at : IsWorld memories (with_lock true w p (page_of a) (pages_met a len))) where
  pub lock-left : (l : Ledger) → refusal (tests m w l (Mlock p a len)) ≡ None
      → (pages_to_hole (pages w p) (page_of a) (pages_met a len) == pages_met a len) ≡ true
      → Tells (λ end es. Accesses m (with_lock true w p (page_of a) (pages_met a len)) l p
      (accesses_of (pages w p) (page_of a) (pages_met a len)) es end) (WritesTo (address_of (page_of a))) l unit legal (ledger_of book)
      → IsLeft m w l (Mlock p a len) unit legal memories book
  lock-left l none all t =
      tells-left m w l (Mlock p a len) (LocksTo m w l p (page_of a) (pages_met a len)) (WritesTo (address_of (page_of a))) unit memories book legal
      told (lock-ending m w l p a len none all)
      (locked-tells m w l (ledger_of book) p (page_of a) (pages_met a len) (WritesTo (address_of (page_of a))) unit legal t)
      (λ t so. subst (IsWorld memories) (sym (ap (next w (Mlock p a len)) t.answers ∙ lock-next w p a len t.end)) at)

  pub hole-left : refusal (tests m w (ledger_of book) (Mlock p a len)) ≡ None
      → (pages_to_hole (pages w p) (page_of a) (pages_met a len) == pages_met a len) ≡ false
      → SaysOnly legal unit (Refused Enomem) → IsLeft m w (ledger_of book) (Mlock p a len) unit legal memories book
  hole-left none hole says =
      known-said m w (ledger_of book) (Mlock p a len) (Refused Enomem) (lock_event true (pages w p) p (page_of a) (pages_met a len) ∷ [])
      unit legal (ledger_of book) memories told (hole-only m w (ledger_of book) p a len none hole)
      (record { answer = tt; rest = (tt, refl) }) (record { says = says; form = tt; after = refl })
      (λ so. subst (IsWorld memories) (sym (hole-next w p a len (lock-few m w (ledger_of book) p a len none))) at)
