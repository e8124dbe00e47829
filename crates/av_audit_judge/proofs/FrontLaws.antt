-- The last word of a note that is known but for it.
use Rattle.std.proofs.Common.{◌≡◌, ℕ, ◌≤◌, ◌+◌, ◌-◌, List, [], ◌∷◌, ◌++◌, Option, Some, None, length, take, refl, sym, ap, subst, ◌∙◌}
use Rattle.std.proofs.Common.{arith, append_assoc, append-nil}
use Rattle.std.specs.Prelude.{codes}
use Rattle.std.specs.Fmt.{decimal}
use Rattle.std.proofs.lemmas.List.{append_cancel_left}
use Rattle.av_base.specs.declared.slot.Slot.{Slot}
use Rattle.av_text.specs.Hex.{hex}
use Rattle.av_text.specs.Word.{after}
use Rattle.av_text.proofs.NumberLaws.{spell-digit, ten}
use Rattle.av_trace.specs.declared.note.Note.{Note}
use Rattle.av_trace.specs.declared.note.Note.TheVariants as notes
use Rattle.av_trace.specs.Note.{slot_text}
use Rattle.av_trace.specs.Print.{notes_text}
use Rattle.av_audit_judge.specs.Notes.{IsFramed, IsNumbered, IsSlotLine, IsSlotted, IsTaken, note_by}
use Rattle.av_audit_judge.specs.declared.notes.Taking.{Taking}
use Rattle.av_audit_judge.specs.declared.notes.Taking.TheVariants.{New, Copied, Loaded}
use Rattle.av_audit_judge.proofs.NoteLaws.{off-none, off-some}

-- the text of each note of a kind is this front, its last word, and a newline
abbrev pub Ends : {X : Type 0} → (X → Note) → (X → List ℕ) → List ℕ → Type 0
Ends {X} note word front = (x : X) → notes_text (note x ∷ []) ≡ front ++ (word x ++ 10 ∷ [])

-- the last of one, two or three words
last-one : (a d : List ℕ) → ((a ++ (32 ∷ (d ++ []))) ++ 10 ∷ []) ++ [] ≡ (a ++ 32 ∷ []) ++ (d ++ 10 ∷ [])
last-one a d = append-nil ((a ++ (32 ∷ (d ++ []))) ++ 10 ∷ [])
    ∙ ap (λ e. (a ++ (32 ∷ e)) ++ 10 ∷ []) (append-nil d)
    ∙ append_assoc a (32 ∷ d) (10 ∷ [])
    ∙ sym (append_assoc a (32 ∷ []) (d ++ 10 ∷ []))

last-more : (a b : List ℕ) (x y : List ℕ) → ((b ++ x) ++ 10 ∷ []) ++ [] ≡ (b ++ y) → ((a ++ (32 ∷ (b ++ x))) ++ 10 ∷ []) ++ [] ≡ a ++ (32 ∷ (b ++ y))
last-more a b x y e = append-nil ((a ++ (32 ∷ (b ++ x))) ++ 10 ∷ [])
    ∙ append_assoc a (32 ∷ (b ++ x)) (10 ∷ [])
    ∙ ap (λ t. a ++ (32 ∷ t)) (sym (append-nil ((b ++ x) ++ 10 ∷ [])) ∙ e)

last-two : (a b d : List ℕ) → ((a ++ (32 ∷ (b ++ (32 ∷ (d ++ []))))) ++ 10 ∷ []) ++ [] ≡ (a ++ (32 ∷ (b ++ 32 ∷ []))) ++ (d ++ 10 ∷ [])
last-two a b d =
    last-more a b (32 ∷ (d ++ [])) (32 ∷ (d ++ 10 ∷ [])) (last-one b d ∙ append_assoc b (32 ∷ []) (d ++ 10 ∷ []))
    ∙ ap (λ t. a ++ (32 ∷ t)) (sym (append_assoc b (32 ∷ []) (d ++ 10 ∷ [])))
    ∙ sym (append_assoc a (32 ∷ (b ++ 32 ∷ [])) (d ++ 10 ∷ []))

last-three : (a b c d : List ℕ) → ((a ++ (32 ∷ (b ++ (32 ∷ (c ++ (32 ∷ (d ++ []))))))) ++ 10 ∷ []) ++ []
    ≡ (a ++ (32 ∷ (b ++ (32 ∷ (c ++ 32 ∷ []))))) ++ (d ++ 10 ∷ [])
last-three a b c d =
    last-more a b (32 ∷ (c ++ (32 ∷ (d ++ [])))) (32 ∷ ((c ++ 32 ∷ []) ++ (d ++ 10 ∷ [])))
    (last-two b c d ∙ append_assoc b (32 ∷ (c ++ 32 ∷ [])) (d ++ 10 ∷ []))
    ∙ ap (λ t. a ++ (32 ∷ t)) (sym (append_assoc b (32 ∷ (c ++ 32 ∷ [])) (d ++ 10 ∷ [])))
    ∙ sym (append_assoc a (32 ∷ (b ++ (32 ∷ (c ++ 32 ∷ [])))) (d ++ 10 ∷ []))

abbrev pub front_of : Taking → List ℕ
front_of (New p a) = (32 ∷ codes "new") ++ (32 ∷ (decimal p ++ (32 ∷ (hex a ++ 32 ∷ []))))
front_of (Copied p a) = (32 ∷ codes "copy") ++ (32 ∷ (decimal p ++ (32 ∷ (hex a ++ 32 ∷ []))))
front_of (Loaded s) = (32 ∷ codes "load") ++ (32 ∷ (slot_text s ++ 32 ∷ []))

pub taking-ends : (t : Taking) → Ends (note_by t) decimal (front_of t)
taking-ends (New p a) f = last-three (32 ∷ codes "new") (decimal p) (hex a) (decimal f)
taking-ends (Copied p a) f = last-three (32 ∷ codes "copy") (decimal p) (hex a) (decimal f)
taking-ends (Loaded s) f = last-two (32 ∷ codes "load") (slot_text s) (decimal f)

abbrev pub put_front : ℕ → List ℕ
put_front f = (32 ∷ codes "put") ++ (32 ∷ (decimal f ++ 32 ∷ []))

pub put-ends : (f : ℕ) → Ends (notes.Put f) slot_text (put_front f)
put-ends f s = last-two (32 ∷ codes "put") (decimal f) (slot_text s)

-- ---- what is read behind a front

-- the words behind the front are these
behind : {X : Type 0} (note : X → Note) (word : X → List ℕ) (front bytes : List ℕ) → Ends note word front → (x : X) (rest : List ℕ)
    → bytes ≡ notes_text (note x ∷ []) ++ rest → bytes ≡ front ++ (word x ++ 10 ∷ rest)
behind note word front bytes ends x rest is = is ∙ ap (λ t. t ++ rest) (ends x) ∙ append_assoc front (word x ++ 10 ∷ []) rest
    ∙ ap (λ t. front ++ t) (append_assoc (word x) (10 ∷ []) rest)

before : {X : Type 0} (note : X → Note) (word : X → List ℕ) (front bytes : List ℕ) → Ends note word front → (x : X) (rest : List ℕ)
    → bytes ≡ front ++ (word x ++ 10 ∷ rest) → bytes ≡ notes_text (note x ∷ []) ++ rest
before note word front bytes ends x rest is = is ∙ ap (λ t. front ++ t) (sym (append_assoc (word x) (10 ∷ []) rest))
    ∙ sym (append_assoc front (word x ++ 10 ∷ []) rest) ∙ ap (λ t. t ++ rest) (sym (ends x))

pub framed-none : (t : Taking) (frames : ℕ) (bytes : List ℕ) → None ≡ after (front_of t) bytes → IsFramed frames bytes t None
framed-none t frames bytes none f rest below is =
    off-none (front_of t) bytes none (decimal f ++ 10 ∷ rest) (behind (note_by t) decimal (front_of t) bytes (taking-ends t) f rest is)

pub framed-some : (t : Taking) (frames : ℕ) (bytes word : List ℕ) (value : Option (ℕ × List ℕ)) → bytes ≡ front_of t ++ word
    → IsNumbered frames word value → IsFramed frames bytes t value
framed-some t frames bytes word None is none =
    λ f rest below e. none f rest below (append_cancel_left (front_of t) word (decimal f ++ 10 ∷ rest)
    (sym is ∙ behind (note_by t) decimal (front_of t) bytes (taking-ends t) f rest e))
framed-some t frames bytes word (Some x) is h =
    (h.0, before (note_by t) decimal (front_of t) bytes (taking-ends t) x.0 x.1 (is ∙ ap (λ w. front_of t ++ w) h.1))

pub slotted-none : (f : ℕ) (bytes : List ℕ) → None ≡ after (put_front f) bytes → IsSlotted bytes f None
slotted-none f bytes none s rest small few is =
    off-none (put_front f) bytes none (slot_text s ++ 10 ∷ rest) (behind (notes.Put f) slot_text (put_front f) bytes (put-ends f) s rest is)

pub slotted-some : (f : ℕ) (bytes word : List ℕ) (value : Option (Slot × List ℕ)) → bytes ≡ put_front f ++ word
    → IsSlotLine word value → IsSlotted bytes f value
slotted-some f bytes word None is none =
    λ s rest small few e. none s rest small few (append_cancel_left (put_front f) word (slot_text s ++ 10 ∷ rest)
    (sym is ∙ behind (notes.Put f) slot_text (put_front f) bytes (put-ends f) s rest e))
slotted-some f bytes word (Some x) is h =
    before (notes.Put f) slot_text (put_front f) bytes (put-ends f) x.0 x.1 (is ∙ ap (λ w. put_front f ++ w) h)

-- ---- the front of a text

pub front-cut : (a b : List ℕ) (n : ℕ) → n ≡ length b → take (length (a ++ b) - n) (a ++ b) ≡ a
front-cut a b n is = ap (λ k. take k (a ++ b)) (less (length (a ++ b)) (length a) (length b) n (length-append a b) is) ∙ take-front a b
  where
    less : (t x y n : ℕ) → t ≡ x + y → n ≡ y → t - n ≡ x
    less t x y n e h = omega (arith, e, h)

    length-append : (a b : List ℕ) → length (a ++ b) ≡ length a + length b
    length-append [] b = omega arith
    length-append (x ∷ a) b = let e = length-append a b in omega (arith, e)

    take-front : (a b : List ℕ) → take (length a) (a ++ b) ≡ a
    take-front [] b = refl
    take-front (x ∷ a) b = ap (λ r. x ∷ r) (take-front a b)

-- what stands before the last word
pub known-of : (text T front tail : List ℕ) (less : ℕ) → text ≡ T → T ≡ front ++ tail → less ≡ length tail
    → take (length text - less) text ≡ front
known-of text T front tail less e is few =
    ap (λ t. take (length t - less) t) (e ∙ is) ∙ front-cut front tail less few

pub long-text : (text T front tail : List ℕ) (less : ℕ) → text ≡ T → T ≡ front ++ tail → less ≡ length tail
    → less ≤ length text
long-text text T front tail less e is few =
    subst (λ t. less ≤ length t) (sym (e ∙ is)) (subst (λ n. n ≤ length (front ++ tail)) (sym few) (behind-less front))
  where
    behind-less : (a : List ℕ) → length tail ≤ length (a ++ tail)
    behind-less [] = omega arith
    behind-less (x ∷ a) = let h = behind-less a in omega (arith, h)

pub taken-is : (note : Note) (bytes front : List ℕ) (value : Option (List ℕ)) → value ≡ after front bytes → front ≡ notes_text (note ∷ [])
    → IsTaken bytes note value
taken-is note bytes front None e is = λ rest h. off-none front bytes e rest (h ∙ ap (λ t. t ++ rest) (sym is))
taken-is note bytes front (Some rest) e is = off-some front bytes rest e ∙ ap (λ t. t ++ rest) is

pub two-bytes : 2 ≡ length (decimal 0 ++ 10 ∷ [])
two-bytes = ap (λ d. length (d ++ 10 ∷ [])) (sym (spell-digit 10 0 ten (omega arith)))

pub four-bytes : 4 ≡ length ((decimal 0 ++ 58 ∷ decimal 0) ++ 10 ∷ [])
four-bytes = ap (λ d. length ((d ++ 58 ∷ d) ++ 10 ∷ [])) (sym (spell-digit 10 0 ten (omega arith)))
