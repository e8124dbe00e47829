-- What is found, part by part.
use Rattle.std.proofs.Common.{◌≡◌, ℕ, ◌≤◌, ◌-◌, length, take, drop, get_or, Bool, true, false, Option, Some, None, List, [], ◌∷◌, ◌++◌}
use Rattle.std.proofs.Common.{refl, sym, ap, subst, ◌∙◌, arith, append_assoc, append-nil}
use Rattle.std.specs.List.{AllByRecursion}
use Rattle.std.proofs.lemmas.List.{append_cancel_left, take_all}
use Rattle.std.specs.Prelude.{IfOk, Result, Ok, Err}
use Rattle.av_trace.specs.declared.note.Note.{Note}
use Rattle.av_trace.specs.Note.{IsNote, note_line}
use Rattle.av_trace.specs.Print.{notes_text, whole_line}
use Rattle.av_trace.proofs.NoteLaws.{note_line-is}
use Rattle.av_trace.proofs.PlainWords.{no_newline, one_line}
use Rattle.av_trace.proofs.Split.{first_line, lacks-cons, lacks}
use Rattle.av_plain.specs.Event.{after_notes}
use Rattle.av_plain.specs.Ledger.{Ledger}
use Rattle.av_plain.proofs.Access.{after_notes-append}
use Rattle.av_audit_judge.specs.Finds.{Gets, Reads, Stand}

-- ---- notes in front of bytes

note-lacks : (n : Note) → IsNote n → lacks 10 (32 ∷ note_line n) ≡ true
note-lacks n fits = lacks-cons 10 32 (note_line n) (λ h. omega (arith, h)) (no_newline (note_line-is n fits))

tail-of : {x y : List ℕ} → 32 ∷ x ≡ 32 ∷ y → x ≡ y
tail-of e = cc

-- a first note in front is one
pub first-one : (n k : Note) (r r' : List ℕ) → IsNote n → IsNote k
    → whole_line (32 ∷ note_line n) ++ r ≡ whole_line (32 ∷ note_line k) ++ r' → (n ≡ k) × (r ≡ r')
first-one n k r r' fits fits' e =
    let one = first_line (32 ∷ note_line n) (32 ∷ note_line k) r r' (note-lacks n fits) (note-lacks k fits') e in
    (one_line (note_line-is n fits) (note_line-is k fits') (tail-of one.0), one.1)

pub text-cons : (n : Note) (a : List Note) (r : List ℕ)
    → notes_text (n ∷ a) ++ r ≡ whole_line (32 ∷ note_line n) ++ (notes_text a ++ r)
text-cons n a r = append_assoc (whole_line (32 ∷ note_line n)) (notes_text a) r

-- of two lists in front of the same bytes one goes on as the other
pub go-on : (a b : List Note) (r r' : List ℕ) → AllByRecursion IsNote a → AllByRecursion IsNote b
    → notes_text a ++ r ≡ notes_text b ++ r' → (x : List Note) × (y : List Note) × (a ++ x ≡ b ++ y)
go-on [] b r r' fits fits' e = (b, [], sym (append-nil b))
go-on (n ∷ a) [] r r' fits fits' e = ([], n ∷ a, append-nil (n ∷ a))
go-on (n ∷ a) (k ∷ b) r r' fits fits' e =
    let one = first-one n k (notes_text a ++ r) (notes_text b ++ r') fits.0 fits'.0
    (sym (text-cons n a r) ∙ e ∙ text-cons k b r') in
    let more = go-on a b r r' fits.1 fits'.1 one.1 in
    (more.0, more.1, λ i. one.0 i ∷ more.2 i)

text-some : (n : Note) (a : List Note) (r : List ℕ) → notes_text (n ∷ a) ++ r ≡ [] → ⊥
text-some n a r e = cc

-- where nothing is left behind one of them, it goes on as the other
pub front-of : (a b : List Note) (r : List ℕ) → AllByRecursion IsNote a → AllByRecursion IsNote b
    → notes_text a ++ r ≡ notes_text b → (u : List Note) × (a ++ u ≡ b)
front-of [] b r fits fits' e = (b, refl)
front-of (n ∷ a) [] r fits fits' e = absurd (text-some n a r e)
front-of (n ∷ a) (k ∷ b) r fits fits' e =
    let one = first-one n k (notes_text a ++ r) (notes_text b) fits.0 fits'.0 (sym (text-cons n a r) ∙ e) in
    let more = front-of a b r fits.1 fits'.1 one.1 in
    (more.0, λ i. one.0 i ∷ more.1 i)

-- ---- lawful notes that tell themselves

-- of two lists of lawful notes that go on as one, one is the other
abbrev pub Told : (List Note → Type 0) → Type 0
Told Lawful = (a b x y : List Note) → Lawful a → Lawful b → a ++ x ≡ b ++ y → a ≡ b

pub stand-one : (Lawful : List Note → Type 0) (bytes : List ℕ) (a b : List Note) (r r' : List ℕ) → Told Lawful
    → Lawful a → Lawful b → Stand bytes a r → Stand bytes b r' → (a ≡ b) × (r ≡ r')
stand-one Lawful bytes a b r r' told la lb s t =
    let more = go-on a b r r' s.form t.form (sym s.text ∙ t.text) in
    let same = told a b more.0 more.1 la lb more.2 in
    (same, append_cancel_left (notes_text a) r r' (sym s.text ∙ t.text ∙ ap (λ n. notes_text n ++ r') (sym same)))

-- ---- parts

all-parts : (a b : List Note) → AllByRecursion IsNote (a ++ b) → AllByRecursion IsNote a × AllByRecursion IsNote b
all-parts [] b h = (tt, h)
all-parts (n ∷ a) b h = let p = all-parts a b h.1 in ((h.0, p.0), p.1)

all-both : (a b : List Note) → AllByRecursion IsNote a → AllByRecursion IsNote b → AllByRecursion IsNote (a ++ b)
all-both [] b h g = g
all-both (n ∷ a) b h g = (h.0, all-both a b h.1 g)

pub text-append : (a b : List Note) → notes_text (a ++ b) ≡ notes_text a ++ notes_text b
text-append [] b = refl
text-append (n ∷ a) b = ap (λ t. whole_line (32 ∷ note_line n) ++ t) (text-append a b)
    ∙ sym (append_assoc (whole_line (32 ∷ note_line n)) (notes_text a) (notes_text b))

pub stand-parts : (bytes : List ℕ) (a b : List Note) (r : List ℕ) → Stand bytes (a ++ b) r
    → Stand bytes a (notes_text b ++ r) × Stand (notes_text b ++ r) b r
stand-parts bytes a b r s =
    let p = all-parts a b s.form in (
      record { form = p.0; text = s.text ∙ ap (λ t. t ++ r) (text-append a b) ∙ append_assoc (notes_text a) (notes_text b) r },
      record { form = p.1; text = refl },
    )

pub stand-both : (bytes mid r : List ℕ) (a b : List Note) → Stand bytes a mid → Stand mid b r → Stand bytes (a ++ b) r
stand-both bytes mid r a b s t = record {
  form = all-both a b s.form t.form;
  text = s.text ∙ ap (λ m. notes_text a ++ m) t.text ∙ sym (append_assoc (notes_text a) (notes_text b) r)
      ∙ ap (λ t. t ++ r) (sym (text-append a b));
}

pub stand-none : (bytes : List ℕ) → Stand bytes [] bytes
stand-none bytes = record { form = tt; text = refl }

-- ---- what is read

-- no note is lawful: nothing is read
pub reads-nothing : (Lawful : List Note → Type 0) (l : Ledger) (bytes : List ℕ) → Lawful []
    → Reads Lawful l bytes true l bytes
reads-nothing Lawful l bytes h = record { notes = []; lawful = h; stand = stand-none bytes; after = refl }

-- lawful notes are a first part, and then a second one that goes by the first
pub record InParts (Whole First : List Note → Type 0) (Second : List Note → List Note → Type 0) : Type 0 where
  pub split : (ns : List Note) → Whole ns
      → (a : List Note) × (b : List Note) × First a × Second a b × (ns ≡ a ++ b)
  pub join : (a b : List Note) → First a → Second a b → Whole (a ++ b)
  pub told : Told First

-- the first part isn't there
pub reads-no-first : (Whole First : List Note → Type 0) (Second : List Note → List Note → Type 0) (l l1 l' : Ledger)
    (bytes mid rest : List ℕ) → InParts Whole First Second → Reads First l bytes false l1 mid → Reads Whole l bytes false l' rest
reads-no-first Whole First Second l l1 l' bytes mid rest p none notes more h s =
    let q = p.split notes h in
    none q.0 (notes_text q.1 ++ more) q.2 (stand-parts bytes q.0 q.1 more (subst (λ ns. Stand bytes ns more) q.4 s)).0

-- it is, and what is read behind it is the second
pub reads-then : (Whole First : List Note → Type 0) (Second : List Note → List Note → Type 0) (l l1 l' : Ledger)
    (bytes mid rest : List ℕ) (read : Bool) → InParts Whole First Second → Reads First l bytes true l1 mid
    → ((a : List Note) → First a → l1 ≡ after_notes l a → Reads (Second a) l1 mid read l' rest)
    → Reads Whole l bytes read l' rest
reads-then Whole First Second l l1 l' bytes mid rest false p first second =
    λ notes more h s.
    let q = p.split notes h in
    let parts = stand-parts bytes q.0 q.1 more (subst (λ ns. Stand bytes ns more) q.4 s) in
    let one = stand-one First bytes first.notes q.0 mid (notes_text q.1 ++ more) p.told first.lawful q.2 first.stand parts.0 in
    second first.notes first.lawful first.after q.1 more (subst (λ a. Second a q.1) (sym one.0) q.3)
    (subst (λ b. Stand b q.1 more) (sym one.1) parts.1)
reads-then Whole First Second l l1 l' bytes mid rest true p first second =
    let then = second first.notes first.lawful first.after in record {
      notes = first.notes ++ then.notes;
      lawful = p.join first.notes then.notes first.lawful then.lawful;
      stand = stand-both bytes mid rest first.notes then.notes first.stand then.stand;
      after = then.after ∙ ap (λ m. after_notes m then.notes) first.after
          ∙ sym (after_notes-append l first.notes then.notes);
    }

-- other notes are lawful in the same way
pub reads-as : (A B : List Note → Type 0) (l l' : Ledger) (bytes rest : List ℕ) (read : Bool)
    → ((ns : List Note) → A ns → B ns) → ((ns : List Note) → B ns → A ns) → Reads A l bytes read l' rest → Reads B l bytes read l' rest
reads-as A B l l' bytes rest false to from none = λ notes more h s. none notes more (from notes h) s
reads-as A B l l' bytes rest true to from f = record { notes = f.notes; lawful = to f.notes f.lawful; stand = f.stand; after = f.after }

-- ---- what is read with a value

-- of two lists of lawful notes that go on as one, one is the other, and they say the same
abbrev pub TellsValue : {X : Type 0} → (X → List Note → Type 0) → Type 0
TellsValue {X} Lawful = (x y : X) (a b u v : List Note) → Lawful x a → Lawful y b → a ++ u ≡ b ++ v
    → (x ≡ y) × (a ≡ b)

-- a first part with a value, and then a second one that goes by both, with a value of its own
pub record InPartsBy {X Y : Type 0} (Whole : Y → List Note → Type 0) (First : X → List Note → Type 0)
    (Second : X → List Note → Y → List Note → Type 0) : Type 0 where
  pub split : (y : Y) (ns : List Note) → Whole y ns
      → (x : X) × (a : List Note) × (b : List Note) × First x a × Second x a y b × (ns ≡ a ++ b)
  pub join : (x : X) (y : Y) (a b : List Note) → First x a → Second x a y b → Whole y (a ++ b)
  pub told : TellsValue First

-- the first part isn't there
pub gets-no-first : {X Y : Type 0} (Whole : Y → List Note → Type 0) (First : X → List Note → Type 0)
    (Second : X → List Note → Y → List Note → Type 0) (l l1 l' : Ledger) (bytes mid rest : List ℕ)
    → InPartsBy Whole First Second → Gets First l bytes None l1 mid → Gets Whole l bytes None l' rest
gets-no-first Whole First Second l l1 l' bytes mid rest p none y notes more h s =
    let q = p.split y notes h in
    none q.0 q.1 (notes_text q.2 ++ more) q.3 (stand-parts bytes q.1 q.2 more (subst (λ ns. Stand bytes ns more) q.5 s)).0

-- it is, and what is read behind it is the second
pub gets-then : {X Y : Type 0} (Whole : Y → List Note → Type 0) (First : X → List Note → Type 0)
    (Second : X → List Note → Y → List Note → Type 0) (l l1 l' : Ledger) (bytes mid rest : List ℕ) (x : X) (value : Option Y)
    → InPartsBy Whole First Second → Gets First l bytes (Some x) l1 mid
    → ((a : List Note) → First x a → l1 ≡ after_notes l a → Gets (Second x a) l1 mid value l' rest)
    → Gets Whole l bytes value l' rest
gets-then Whole First Second l l1 l' bytes mid rest x None p first second =
    λ y notes more h s.
    let q = p.split y notes h in
    let parts = stand-parts bytes q.1 q.2 more (subst (λ ns. Stand bytes ns more) q.5 s) in
    let on = go-on first.notes q.1 mid (notes_text q.2 ++ more) first.stand.form parts.0.form
    (sym first.stand.text ∙ parts.0.text) in
    let one = p.told x q.0 first.notes q.1 on.0 on.1 first.lawful q.3 on.2 in
    let left : mid ≡ notes_text q.2 ++ more = append_cancel_left (notes_text first.notes) mid (notes_text q.2 ++ more)
    (sym first.stand.text ∙ parts.0.text ∙ ap (λ n. notes_text n ++ (notes_text q.2 ++ more)) (sym one.1)) in
    second first.notes first.lawful first.after y q.2 more
    (subst (λ a. Second x a y q.2) (sym one.1) (subst (λ z. Second z q.1 y q.2) (sym one.0) q.4))
    (subst (λ b. Stand b q.2 more) (sym left) parts.1)
gets-then Whole First Second l l1 l' bytes mid rest x (Some y) p first second =
    let then = second first.notes first.lawful first.after in record {
      notes = first.notes ++ then.notes;
      lawful = p.join x y first.notes then.notes first.lawful then.lawful;
      stand = stand-both bytes mid rest first.notes then.notes first.stand then.stand;
      after = then.after ∙ ap (λ m. after_notes m then.notes) first.after
          ∙ sym (after_notes-append l first.notes then.notes);
    }

-- a value that goes with what is read
pub gets-read : {Y : Type 0} (Lawful : List Note → Type 0) (Whole : Y → List Note → Type 0) (l l' : Ledger) (bytes rest : List ℕ)
    (y : Y) → ((ns : List Note) → Lawful ns → Whole y ns) → Reads Lawful l bytes true l' rest → Gets Whole l bytes (Some y) l' rest
gets-read Lawful Whole l l' bytes rest y to f = record { notes = f.notes; lawful = to f.notes f.lawful; stand = f.stand; after = f.after }

pub gets-none : {Y : Type 0} (Lawful : List Note → Type 0) (Whole : Y → List Note → Type 0) (l l' m : Ledger) (bytes rest more : List ℕ)
    → ((y : Y) (ns : List Note) → Whole y ns → Lawful ns) → Reads Lawful l bytes false l' rest → Gets Whole l bytes None m more
gets-none Lawful Whole l l' m bytes rest more from none y notes other h s = none notes other (from y notes h) s

-- ---- one of the parts has no value

-- a first part with a value, in front of one that has none
pub record InPartsFrom {X : Type 0} (Whole : List Note → Type 0) (First : X → List Note → Type 0)
    (Second : X → List Note → List Note → Type 0) : Type 0 where
  pub split : (ns : List Note) → Whole ns
      → (x : X) × (a : List Note) × (b : List Note) × First x a × Second x a b × (ns ≡ a ++ b)
  pub join : (x : X) (a b : List Note) → First x a → Second x a b → Whole (a ++ b)
  pub told : TellsValue First

from-by : {X : Type 0} (Whole : List Note → Type 0) (First : X → List Note → Type 0) (Second : X → List Note → List Note → Type 0)
    → InPartsFrom Whole First Second → InPartsBy {X = X} {Y = Bool} (λ _. Whole) First (λ x a _. Second x a)
from-by Whole First Second p = record { split = λ y ns h. p.split ns h; join = λ x y a b f s. p.join x a b f s; told = p.told }

pub from-no-first : {X : Type 0} (Whole : List Note → Type 0) (First : X → List Note → Type 0)
    (Second : X → List Note → List Note → Type 0) (l l1 l' : Ledger) (bytes mid rest : List ℕ)
    → InPartsFrom Whole First Second → Gets First l bytes None l1 mid → Reads Whole l bytes false l' rest
from-no-first Whole First Second l l1 l' bytes mid rest p none =
    gets-no-first {Y = Bool} (λ _. Whole) First (λ x a _. Second x a) l l1 l' bytes mid rest (from-by Whole First Second p) none true

pub from-then : {X : Type 0} (Whole : List Note → Type 0) (First : X → List Note → Type 0)
    (Second : X → List Note → List Note → Type 0) (l l1 l' : Ledger) (bytes mid rest : List ℕ) (x : X) (read : Bool)
    → InPartsFrom Whole First Second → Gets First l bytes (Some x) l1 mid
    → ((a : List Note) → First x a → l1 ≡ after_notes l a → Reads (Second x a) l1 mid read l' rest)
    → Reads Whole l bytes read l' rest
from-then Whole First Second l l1 l' bytes mid rest x true p first second =
    gets-then {Y = Bool} (λ _. Whole) First (λ x a _. Second x a) l l1 l' bytes mid rest x (Some true) (from-by Whole First Second p) first second
from-then Whole First Second l l1 l' bytes mid rest x false p first second =
    gets-then {Y = Bool} (λ _. Whole) First (λ x a _. Second x a) l l1 l' bytes mid rest x None (from-by Whole First Second p) first
    (λ a f e y. second a f e) true

-- a first part without, in front of one with a value
pub record InPartsTo {Y : Type 0} (Whole : Y → List Note → Type 0) (First : List Note → Type 0)
    (Second : List Note → Y → List Note → Type 0) : Type 0 where
  pub split : (y : Y) (ns : List Note) → Whole y ns
      → (a : List Note) × (b : List Note) × First a × Second a y b × (ns ≡ a ++ b)
  pub join : (y : Y) (a b : List Note) → First a → Second a y b → Whole y (a ++ b)
  pub told : Told First

to-by : {Y : Type 0} (Whole : Y → List Note → Type 0) (First : List Note → Type 0) (Second : List Note → Y → List Note → Type 0)
    → InPartsTo Whole First Second
    → InPartsBy {X = Unit {0}} {Y = Y} Whole (λ _. First) (λ _ a. Second a)
to-by Whole First Second p = record {
  split = λ y ns h. let q = p.split y ns h in (tt, q.0, q.1, q.2, q.3, q.4);
  join = λ x y a b f s. p.join y a b f s;
  told = λ x y a b u v f g e. (refl, p.told a b u v f g e);
}

pub to-no-first : {Y : Type 0} (Whole : Y → List Note → Type 0) (First : List Note → Type 0)
    (Second : List Note → Y → List Note → Type 0) (l l1 l' : Ledger) (bytes mid rest : List ℕ)
    → InPartsTo Whole First Second → Reads First l bytes false l1 mid → Gets Whole l bytes None l' rest
to-no-first Whole First Second l l1 l' bytes mid rest p none =
    gets-no-first Whole (λ (_ : Unit {0}). First) (λ _ a. Second a) l l1 l' bytes mid rest (to-by Whole First Second p) (λ _. none)

pub to-then : {Y : Type 0} (Whole : Y → List Note → Type 0) (First : List Note → Type 0)
    (Second : List Note → Y → List Note → Type 0) (l l1 l' : Ledger) (bytes mid rest : List ℕ) (value : Option Y)
    → InPartsTo Whole First Second → Reads First l bytes true l1 mid
    → ((a : List Note) → First a → l1 ≡ after_notes l a → Gets (Second a) l1 mid value l' rest)
    → Gets Whole l bytes value l' rest
to-then Whole First Second l l1 l' bytes mid rest value p first second =
    gets-then Whole (λ (_ : Unit {0}). First) (λ _ a. Second a) l l1 l' bytes mid rest tt value (to-by Whole First Second p) first second

-- ---- parts that tell themselves make a whole that does

pub parts-tell : {X Y : Type 0} (Whole : Y → List Note → Type 0) (First : X → List Note → Type 0)
    (Second : X → List Note → Y → List Note → Type 0) → InPartsBy Whole First Second
    → ((x : X) (a : List Note) → TellsValue (Second x a)) → TellsValue Whole
parts-tell Whole First Second p tells y z ns ms u v h g e =
    let q = p.split y ns h in
    let r = p.split z ms g in
    let split : q.1 ++ (q.2 ++ u) ≡ r.1 ++ (r.2 ++ v) =
    sym (append_assoc q.1 q.2 u) ∙ sym (λ i. q.5 i ++ u) ∙ e ∙ (λ i. r.5 i ++ v) ∙ append_assoc r.1 r.2 v in
    let one = p.told q.0 r.0 q.1 r.1 (q.2 ++ u) (r.2 ++ v) q.3 r.3 split in
    let left : q.2 ++ u ≡ r.2 ++ v = append_cancel_left q.1 (q.2 ++ u) (r.2 ++ v)
    (split ∙ ap (λ a. a ++ (r.2 ++ v)) (sym one.1)) in
    let two = tells q.0 q.1 y z q.2 r.2 u v q.4
    (subst (λ a. Second q.0 a z r.2) (sym one.1) (subst (λ x. Second x r.1 z r.2) (sym one.0) r.4)) left in
    (two.0, q.5 ∙ (λ i. one.1 i ++ two.1 i) ∙ sym r.5)

-- ---- what a call returned

pub if-ok : {A E : Type 0} (r : Result A E) (P Q : A → Type 0) → ((x : A) → P x → Q x) → IfOk r P → IfOk r Q
if-ok (Ok x) P Q f h = f x h
if-ok (Err e) P Q f h = tt

pub reads-is : (Lawful : List Note → Type 0) (l l' : Ledger) (bytes rest : List ℕ) (a b : Bool) → a ≡ b
    → Reads Lawful l bytes a l' rest → Reads Lawful l bytes b l' rest
reads-is Lawful l l' bytes rest a b e h = subst (λ c. Reads Lawful l bytes c l' rest) e h

pub gets-is : {X : Type 0} (Lawful : X → List Note → Type 0) (l l' : Ledger) (bytes rest : List ℕ) (a b : Option X) → a ≡ b
    → Gets Lawful l bytes a l' rest → Gets Lawful l bytes b l' rest
gets-is Lawful l l' bytes rest a b e h = subst (λ c. Gets Lawful l bytes c l' rest) e h

-- what is left behind the first of a list
pub slice-cons : {A : Type 0} (xs : List A) (d : A) → 1 ≤ length xs → get_or xs 0 d ∷ take (length xs - 1) (drop 1 xs) ≡ xs
slice-cons {A = A} [] d h = absurd (omega (arith, h))
slice-cons {A = A} (x ∷ xs) d h = ap (λ r. x ∷ r) (all (length (x ∷ xs) - 1) xs (same xs))
  where
    same : (xs : List A) → length xs ≤ length (x ∷ xs) - 1
    same xs = omega arith

    all : (n : ℕ) (xs : List A) → length xs ≤ n → take n xs ≡ xs
    all n xs h = take_all n xs h
