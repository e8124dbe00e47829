-- The first line of a reply, and which replies there are.
use Rattle.std.specs.Prelude.{◌≡◌, ℕ, Bool, Option, Some, None, List, [], ◌∷◌, ◌++◌, length, codes}
use Rattle.std.specs.Prelude.{if◌then◌else◌, false, nat_lt, true}
use Rattle.std.specs.List.{AllByRecursion}
use Rattle.std.specs.Fmt.{decimal}
use Rattle.av_trace.specs.declared.reply.Errno.{Errno}
use Rattle.av_trace.specs.declared.reply.Errno.TheVariants as errors
use Rattle.av_trace.specs.declared.reply.OutOf.{OutOf}
use Rattle.av_trace.specs.declared.reply.Totals.{Totals}
use Rattle.av_trace.specs.declared.reply.Answer.{Answer}
use Rattle.av_trace.specs.declared.reply.Answer.TheVariants as answers
use Rattle.av_trace.specs.declared.reply.Reply.{Reply}
use Rattle.av_trace.specs.declared.note.Note.{Note}
use Rattle.av_trace.specs.declared.row.Row.{Row}
use Rattle.av_text.specs.Word.{line}
use Rattle.av_text.specs.Number.{IsWide}
use Rattle.av_text.specs.Hex.{hex, hex_text, AreBytes}
use Rattle.av_trace.specs.Note.{slot_text, IsSlot, IsNote}
use Rattle.av_trace.specs.Row.{IsRun, IsAreaRow, IsEntry}

-- ---- words

-- an error by its name
abbrev pub errno_name : Errno → List ℕ
errno_name errors.Eperm = codes "EPERM"
errno_name errors.Esrch = codes "ESRCH"
errno_name errors.Eio = codes "EIO"
errno_name errors.Eagain = codes "EAGAIN"
errno_name errors.Enomem = codes "ENOMEM"
errno_name errors.Efault = codes "EFAULT"
errno_name errors.Ebusy = codes "EBUSY"
errno_name errors.Eexist = codes "EEXIST"
errno_name errors.Einval = codes "EINVAL"

-- a label such as `free=`, and its number
unfoldable pub labelled : List ℕ → ℕ → List ℕ
labelled label n = label ++ decimal n

-- the bytes that were read before an access stopped, if any
abbrev pub shown_words : List ℕ → List (List ℕ)
shown_words [] = []
shown_words (b ∷ bytes) = hex_text (b ∷ bytes) ∷ []

-- a number with its label, where it is above 0
abbrev pub above_zero : List ℕ → ℕ → List (List ℕ)
above_zero label n = if nat_lt 0 n then labelled label n ∷ [] else []

-- how often each cause kept a frame from being freed
abbrev pub out_words : OutOf → List (List ℕ)
out_words out =
    labelled (codes "pinned=") out.pinned ∷ labelled (codes "noslot=") out.noslot
    ∷ labelled (codes "fault=") out.fault
    ∷ above_zero (codes "locked=") out.locked ++ above_zero (codes "ksm=") out.ksm

-- the slot or the frame that a cached frame or slot goes with, if any
abbrev pub cached_words : {A : Type 0} → (A → List ℕ) → Option A → List (List ℕ)
cached_words text None = []
cached_words text (Some x) = codes "cached" ∷ text x ∷ []

-- whether a frame is merged
abbrev pub merged_words : Bool → List (List ℕ)
merged_words merged = if merged then codes "ksm" ∷ [] else []

-- whether a frame was accessed since it was last looked at
abbrev pub seen_word : Bool → List ℕ
seen_word seen = if seen then codes "seen" else codes "old"

-- the numbers of `stat`
abbrev pub total_words : Totals → List (List ℕ)
total_words t =
    labelled (codes "frames=") t.frames
    ∷ labelled (codes "free=") t.free
    ∷ labelled (codes "active=") t.active
    ∷ labelled (codes "inactive=") t.inactive
    ∷ labelled (codes "flight=") t.flight
    ∷ labelled (codes "slots=") t.slots
    ∷ labelled (codes "freeslots=") t.free_slots
    ∷ labelled (codes "procs=") t.processes
    ∷ []

-- ---- lines

-- the line of an answer
abbrev pub answer_line : Answer → List ℕ
answer_line answers.Done = codes "ok"
answer_line (answers.MapAt address) = line (codes "map") (hex address ∷ [])
answer_line (answers.«Data» bytes) = line (codes "data") (hex_text bytes ∷ [])
answer_line (answers.Refused error) = line (codes "err") (errno_name error ∷ [])
answer_line (answers.Segv served shown) =
    line (codes "segv") (decimal served ∷ shown_words shown)
answer_line (answers.Bus served shown) =
    line (codes "bus") (decimal served ∷ shown_words shown)
answer_line (answers.Oom served out shown) =
    line (codes "oom") (decimal served ∷ out_words out ++ shown_words shown)
answer_line (answers.On slots bad) = line (codes "on") (decimal slots ∷ decimal bad ∷ [])
answer_line (answers.NoFrame out) = line (codes "err") (codes "ENOMEM" ∷ out_words out)
answer_line (answers.Runs n) = line (codes "runs") (decimal n ∷ [])
answer_line (answers.AreaList n) = line (codes "areas") (decimal n ∷ [])
answer_line (answers.Walk frame maps) =
    line (codes "frame") (decimal frame ∷ codes "maps" ∷ decimal maps ∷ [])
answer_line answers.NoWalk = codes "none"
answer_line answers.EntryEmpty = codes "empty"
answer_line answers.EntryZero = codes "zero"
answer_line (answers.EntryFrame frame seen slot merged) =
    line (codes "frame")
    (decimal frame ∷ seen_word seen ∷ cached_words slot_text slot ++ merged_words merged)
answer_line (answers.EntrySlot slot frame) =
    line (codes "slot") (slot_text slot ∷ cached_words decimal frame)
answer_line (answers.SlotBad slot) = line (codes "slot") (slot_text slot ∷ codes "bad" ∷ [])
answer_line (answers.SlotCount slot count frame) =
    line (codes "slot")
    (slot_text slot ∷ codes "count" ∷ decimal count ∷ cached_words decimal frame)
answer_line (answers.Counted totals) = line (codes "stat") (total_words totals)

-- whether the line of an answer has a number or bytes; any other is one of a few that are fixed
abbrev pub tells : Answer → Bool
tells answers.Done = false
tells (answers.Refused error) = false
tells answers.NoWalk = false
tells answers.EntryEmpty = false
tells answers.EntryZero = false
tells answer = true

-- ---- which replies there are: each number is of 64 bits, and each byte is below 256

-- the causes of an out-of-memory
abbrev pub AreCauses : OutOf → Type 0
AreCauses out =
    IsWide out.pinned × IsWide out.noslot × IsWide out.fault × IsWide out.locked × IsWide out.ksm

-- the numbers of `stat`
pub record AreTotals (t : Totals) : Type 0 where
  pub frames : IsWide t.frames
  pub free : IsWide t.free
  pub active : IsWide t.active
  pub inactive : IsWide t.inactive
  pub flight : IsWide t.flight
  pub slots : IsWide t.slots
  pub free_slots : IsWide t.free_slots
  pub processes : IsWide t.processes

-- what may be there
abbrev pub IfThere : {A : Type 0} → (A → Type 0) → Option A → Type 0
IfThere Fits None = Unit {0}
IfThere Fits (Some x) = Fits x

-- the values of an answer
abbrev pub IsAnswer : Answer → Type 0
IsAnswer answers.Done = Unit {0}
IsAnswer (answers.MapAt address) = IsWide address
IsAnswer (answers.«Data» bytes) = AreBytes bytes
IsAnswer (answers.Refused error) = Unit {0}
IsAnswer (answers.Segv served shown) = IsWide served × AreBytes shown
IsAnswer (answers.Bus served shown) = IsWide served × AreBytes shown
IsAnswer (answers.Oom served out shown) = IsWide served × AreCauses out × AreBytes shown
IsAnswer (answers.On slots bad) = IsWide slots × IsWide bad
IsAnswer (answers.NoFrame out) = AreCauses out
IsAnswer (answers.Runs n) = IsWide n
IsAnswer (answers.AreaList n) = IsWide n
IsAnswer (answers.Walk frame maps) = IsWide frame × IsWide maps
IsAnswer answers.NoWalk = Unit {0}
IsAnswer answers.EntryEmpty = Unit {0}
IsAnswer answers.EntryZero = Unit {0}
IsAnswer (answers.EntryFrame frame seen slot merged) = IsWide frame × IfThere IsSlot slot
IsAnswer (answers.EntrySlot slot frame) = IsSlot slot × IfThere IsWide frame
IsAnswer (answers.SlotBad slot) = IsSlot slot
IsAnswer (answers.SlotCount slot count frame) =
    IsSlot slot × IsWide count × IfThere IsWide frame
IsAnswer (answers.Counted totals) = AreTotals totals

-- what follows an answer: the rows that a report counts, or else notes
abbrev pub Follow : Answer → List Note → List Row → Type 0
Follow (answers.Runs n) notes rows =
    (notes ≡ []) × (n ≡ length rows) × AllByRecursion IsRun rows
Follow (answers.AreaList n) notes rows =
    (notes ≡ []) × (n ≡ length rows) × AllByRecursion IsAreaRow rows
Follow (answers.Walk frame maps) notes rows =
    (notes ≡ []) × (maps ≡ length rows) × AllByRecursion IsEntry rows
Follow answer notes rows = AllByRecursion IsNote notes × (rows ≡ [])

-- a reply
pub record IsReply (reply : Reply) : Type 0 where
  pub answer : IsAnswer reply.answer
  pub rest : Follow reply.answer reply.notes reply.rows

-- a reply without notes or rows
abbrev pub answer_only : Answer → Reply
answer_only answer = record { answer = answer; notes = []; rows = [] }

-- a reply to be filled, whatever it answers: there are no notes and no rows
pub record IsCleared (reply : Reply) : Type 0 where
  pub notes : reply.notes ≡ []
  pub rows : reply.rows ≡ []
