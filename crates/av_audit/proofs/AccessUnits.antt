-- Units of read and write, as they are judged.
use Rattle.std.proofs.Common.{◌≡◌, ℕ, ◌≤◌, Bool, true, false, List, None, take, length, min, is_some, sym, ap, subst, ◌∙◌, arith}
use Rattle.av_text.specs.Hex.{AreBytes}
use Rattle.av_trace.specs.declared.command.Command.TheVariants.{Read, Write}
use Rattle.av_trace.specs.declared.reply.Answer.{Answer}
use Rattle.av_trace.specs.declared.reply.Answer.TheVariants.{Refused}
use Rattle.av_trace.specs.declared.reply.Errno.TheVariants.{Esrch}
use Rattle.av_trace.specs.Reply.{IsAnswer}
use Rattle.av_plain.specs.Access.{End, Reads, after_write, bytes_served, first_bytes, read_answer, write_answer}
use Rattle.av_plain.specs.Ledger.{Ledger, Setting}
use Rattle.av_plain.specs.World.{World, lives, pages}
use Rattle.av_audit_book.specs.Book.{ledger_of}
use Rattle.av_audit_book.specs.declared.book.Book.{Book}
use Rattle.av_audit_judge.specs.Notes.{lacks}
use Rattle.av_audit_judge.specs.Says.{SaysOnly}
use Rattle.av_audit_world.specs.Memories.{IsWorld}
use Rattle.av_audit_world.specs.declared.memories.Memories.{Memories}
use Rattle.av_audit_world.proofs.WorldLaws.{world-claimed}
use Rattle.av_audit_access.specs.Access.{AreTold, Ends}
use Rattle.av_audit.specs.Access.{IsFirstLine}
use Rattle.av_audit.specs.Judge.{IsLeft}
use Rattle.av_audit.proofs.AccessLaws.{served-at-most}
use Rattle.av_audit.proofs.EndLaws.{Ending, ReadsTo, WritesTo, alive-not-refused, dead-refused, first-stored, no-unit, read-ending}
use Rattle.av_audit.proofs.EndLaws.{read-telling, tells-by, tells-left, tells-no-answer, tells-no-end, tells-no-line, told-left}
use Rattle.av_audit.proofs.EndLaws.{write-ending, write-telling}
use Rattle.av_audit.proofs.JudgeLaws.{refused-left}

-- what is served is all that is served of n bytes
least : (n k s : ℕ) → k ≡ min n s → s ≤ n → k ≡ s
least n k s is most = omega (arith, is, most)

module _ (m : Setting) (w : World) (p a n : ℕ) (unit : List ℕ) (told : is_some m.headers ≡ true) where
  pub read-refused : (legal : Bool) (memories : Memories) (book : Book) → lives w p ≡ false → SaysOnly legal unit (Refused Esrch)
      → IsWorld memories w → IsLeft m w (ledger_of book) (Read p a n) unit legal memories book
  read-refused legal memories book dead says at =
      refused-left m w book (Read p a n) unit Esrch legal memories told (dead-refused w p dead) says at

  pub read-no-line : (l : Ledger) (memories : Memories) (book : Book) → lives w p ≡ true → lacks 10 unit ≡ true
      → IsLeft m w l (Read p a n) unit false memories book
  read-no-line l memories book alive none =
      no-unit m w l l (Read p a n) (Ending m w l p false a n) (ReadsTo w p a n) unit (read-ending m w l p a n (alive-not-refused w p alive) told)
      (tells-no-line (Ending m w l p false a n) (ReadsTo w p a n) l l unit none)

  pub read-no-end : (l l' : Ledger) (memories : Memories) (book : Book) (first rest : List ℕ) → lives w p ≡ true → IsWorld memories w
      → IsFirstLine unit first rest → Ends (Ending m w l p false a n) l rest None l' → IsLeft m w l (Read p a n) unit false memories book
  read-no-end l l' memories book first rest alive at is none =
      no-unit m w l l' (Read p a n) (Ending m w l p false a n) (ReadsTo w p a n) unit (read-ending m w l p a n (alive-not-refused w p alive) told)
      (tells-no-end (Ending m w l p false a n) (ReadsTo w p a n)
      (read-telling m w l p a n (λ q page. world-claimed memories w q page at)) l l' unit first rest is none)

  pub read-left : (l : Ledger) (memories : Memories) (book : Book) (first rest : List ℕ) (end : End) (k : ℕ) (shown : List ℕ) (answer : Answer)
      (legal : Bool) → lives w p ≡ true → IsWorld memories w → IsFirstLine unit first rest
      → AreTold (Ending m w l p false a n end) l rest (ledger_of book) → k ≡ min n (bytes_served a n end) → Reads (pages w p) a k shown
      → ((a n : ℕ) → k ≡ bytes_served a n end → answer ≡ read_answer a end shown) → (AreBytes shown → IsAnswer answer)
      → SaysOnly legal first answer → IsLeft m w l (Read p a n) unit legal memories book
  read-left l memories book first rest end k shown answer legal alive at is t size reads answers fits says =
      let all = least n k (bytes_served a n end) size (served-at-most m w l p false a n t.events end t.lawful) in
      tells-left m w l (Read p a n) (Ending m w l p false a n) (ReadsTo w p a n) unit memories book legal told
      (read-ending m w l p a n (alive-not-refused w p alive) told)
      (tells-by (Ending m w l p false a n) (ReadsTo w p a n) (read-telling m w l p a n (λ q page. world-claimed memories w q page at))
      l (ledger_of book) unit first rest is legal end answer t
      (shown, subst (λ k. Reads (pages w p) a k shown) all reads, answers a n all) (fits reads.2) says)
      (λ t so. at)

module _ (m : Setting) (w : World) (p a : ℕ) (bytes unit : List ℕ) (told : is_some m.headers ≡ true) where
  pub write-refused : (legal : Bool) (memories : Memories) (book : Book) → lives w p ≡ false → SaysOnly legal unit (Refused Esrch)
      → IsWorld memories w → IsLeft m w (ledger_of book) (Write p a bytes) unit legal memories book
  write-refused legal memories book dead says at =
      refused-left m w book (Write p a bytes) unit Esrch legal memories told (dead-refused w p dead) says at

  pub write-no-line : (l : Ledger) (memories : Memories) (book : Book) → lives w p ≡ true → lacks 10 unit ≡ true
      → IsLeft m w l (Write p a bytes) unit false memories book
  write-no-line l memories book alive none =
      no-unit m w l l (Write p a bytes) (Ending m w l p true a (length bytes)) (WritesTo a) unit
      (write-ending m w l p a bytes (alive-not-refused w p alive))
      (tells-no-line (Ending m w l p true a (length bytes)) (WritesTo a) l l unit none)

  pub write-no-end : (l l' : Ledger) (memories : Memories) (book : Book) (first rest : List ℕ) → lives w p ≡ true
      → IsFirstLine unit first rest → Ends (Ending m w l p true a (length bytes)) l rest None l'
      → IsLeft m w l (Write p a bytes) unit false memories book
  write-no-end l l' memories book first rest alive is none =
      no-unit m w l l' (Write p a bytes) (Ending m w l p true a (length bytes)) (WritesTo a) unit
      (write-ending m w l p a bytes (alive-not-refused w p alive))
      (tells-no-end (Ending m w l p true a (length bytes)) (WritesTo a) (write-telling m w l p a (length bytes)) l l' unit first rest is none)

  -- what was answered is that of the end
  answer-is : (l l' : Ledger) (rest : List ℕ) (end : End) (k : ℕ) (answer : Answer) → AreTold (Ending m w l p true a (length bytes) end) l rest l'
      → k ≡ min (length bytes) (bytes_served a (length bytes) end) → ((a n : ℕ) → k ≡ bytes_served a n end → answer ≡ write_answer a end)
      → answer ≡ write_answer a end
  answer-is l l' rest end k answer t size answers =
      answers a (length bytes) (least (length bytes) k (bytes_served a (length bytes) end) size
      (served-at-most m w l p true a (length bytes) t.events end t.lawful))

  pub write-no-answer : (l l' : Ledger) (memories : Memories) (book : Book) (first rest : List ℕ) (end : End) (k : ℕ) (answer : Answer)
      → lives w p ≡ true → IsFirstLine unit first rest → AreTold (Ending m w l p true a (length bytes) end) l rest l'
      → k ≡ min (length bytes) (bytes_served a (length bytes) end) → ((a n : ℕ) → k ≡ bytes_served a n end → answer ≡ write_answer a end)
      → SaysOnly false first answer → IsLeft m w l (Write p a bytes) unit false memories book
  write-no-answer l l' memories book first rest end k answer alive is t size answers says =
      no-unit m w l l' (Write p a bytes) (Ending m w l p true a (length bytes)) (WritesTo a) unit
      (write-ending m w l p a bytes (alive-not-refused w p alive))
      (tells-no-answer (Ending m w l p true a (length bytes)) (WritesTo a) (write-telling m w l p a (length bytes)) l l' unit first rest is
      end answer t (answer-is l l' rest end k answer t size answers) says)

  pub write-left : (l : Ledger) (memories : Memories) (book : Book) (first rest : List ℕ) (end : End) (k : ℕ) (answer : Answer)
      → lives w p ≡ true → IsFirstLine unit first rest → AreTold (Ending m w l p true a (length bytes) end) l rest (ledger_of book)
      → k ≡ min (length bytes) (bytes_served a (length bytes) end) → ((a n : ℕ) → k ≡ bytes_served a n end → answer ≡ write_answer a end)
      → IsAnswer answer → SaysOnly true first answer → IsWorld memories (after_write w p a (take k bytes))
      → IsLeft m w l (Write p a bytes) unit true memories book
  write-left l memories book first rest end k answer alive is t size answers fits says at =
      let same = answer-is l (ledger_of book) rest end k answer t size answers in
      let all = least (length bytes) k (bytes_served a (length bytes) end) size (served-at-most m w l p true a (length bytes) t.events end t.lawful) in
      told-left m w l (Write p a bytes) (Ending m w l p true a (length bytes)) (WritesTo a) unit memories book told
      (write-ending m w l p a bytes (alive-not-refused w p alive))
      (tells-by (Ending m w l p true a (length bytes)) (WritesTo a) (write-telling m w l p a (length bytes)) l (ledger_of book) unit first rest is
      true end answer t same fits says)
      (subst (λ xs. IsWorld memories (after_write w p a xs))
      ((λ i. take (all i) bytes) ∙ sym (ap (λ x. first_bytes x bytes) same ∙ first-stored a end bytes)) at)
