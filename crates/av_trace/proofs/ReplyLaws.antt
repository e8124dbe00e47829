-- The line of an answer is read back.
use Rattle.std.proofs.Common.{Bool, true, false, ◌≡◌, ℕ, ◌+◌, ◌<◌, ◌≤◌, ◌/◌, List, [], ◌∷◌, ◌++◌, Option, Some, None, refl, sym, ap, subst, ◌∙◌, append_assoc, append-nil, arith, ◌⊎◌, inl, inr}
use Rattle.std.proofs.lemmas.Bool.{cases_lt, cond-false, le-ltb}
use Rattle.std.proofs.lemmas.Bool.Decides.{nat_tests}
use Rattle.std.specs.Prelude.{◌==◌, if◌then◌else◌, nat_lt}
use Rattle.std.specs.Fmt.{digit_glyph}
use Rattle.av_text.proofs.NumberLaws.{glyph_low}
use Rattle.av_trace.specs.Note.{IsSlot, slot_text}
use Rattle.std.specs.Prelude.{codes}
use Rattle.std.specs.Fmt.{decimal}
use Rattle.av_base.specs.declared.slot.Slot.{Slot}
use Rattle.av_trace.specs.declared.reply.Errno.{Errno}
use Rattle.av_trace.specs.declared.reply.Errno.TheVariants as errors
use Rattle.av_trace.specs.declared.reply.OutOf.{OutOf}
use Rattle.av_trace.specs.declared.reply.Totals.{Totals}
use Rattle.av_trace.specs.declared.reply.Answer.{Answer}
use Rattle.av_trace.specs.declared.reply.Answer.TheVariants as answers
use Rattle.av_text.specs.Hex.{AreBytes, pairs_of}
use Rattle.av_text.specs.Number.{IsWide}
use Rattle.av_trace.specs.Reply.{above_zero, errno_name, labelled, merged_words, shown_words, out_words, cached_words, answer_line, AreCauses, AreTotals, IfThere, IsAnswer}
use Rattle.av_text.specs.Word.{◌>>=◌}
use Rattle.av_trace.proofs.Split.{lacks}
use Rattle.av_trace.proofs.PlainWords.{number_of, hex_of, slot_of, labelled_of, plain_name, Names, number-named, hex-named, bytes-named, slot-named, labelled-named, beside, next, last, LineReader, by_name, IsLineOf, AreRead, no_word, word, line_is}

-- ---- errors

unfoldable pub errno_of : List ℕ → Option Errno
errno_of w =
    beside (
    (codes "EPERM", errors.Eperm)
    ∷ (codes "ESRCH", errors.Esrch)
    ∷ (codes "EIO", errors.Eio)
    ∷ (codes "EAGAIN", errors.Eagain)
    ∷ (codes "ENOMEM", errors.Enomem)
    ∷ (codes "EFAULT", errors.Efault)
    ∷ (codes "EBUSY", errors.Ebusy)
    ∷ (codes "EEXIST", errors.Eexist)
    ∷ (codes "EINVAL", errors.Einval)
    ∷ []
    ) w

pub errno-named : (error : Errno) → Names errno_of (errno_name error) error
unfolding errno_of
errno-named errors.Eperm = record { plain = plain_name _ refl refl; again = refl }
errno-named errors.Esrch = record { plain = plain_name _ refl refl; again = refl }
errno-named errors.Eio = record { plain = plain_name _ refl refl; again = refl }
errno-named errors.Eagain = record { plain = plain_name _ refl refl; again = refl }
errno-named errors.Enomem = record { plain = plain_name _ refl refl; again = refl }
errno-named errors.Efault = record { plain = plain_name _ refl refl; again = refl }
errno-named errors.Ebusy = record { plain = plain_name _ refl refl; again = refl }
errno-named errors.Eexist = record { plain = plain_name _ refl refl; again = refl }
errno-named errors.Einval = record { plain = plain_name _ refl refl; again = refl }

-- ---- words that may be missing

-- the bytes that are shown, if any
abbrev shown_at : {B : Type 0} → (List ℕ → B) → LineReader B
shown_at more [] = Some (more [])
shown_at more (w ∷ words) = pairs_of w >>= λ bytes. last (more bytes) words

-- whether a word begins with this letter
abbrev begins_with : ℕ → List ℕ → Bool
begins_with c [] = false
begins_with c (b ∷ bytes) = b == c

abbrev first_begins_with : ℕ → List (List ℕ) → Bool
first_begins_with c [] = false
first_begins_with c (w ∷ words) = begins_with c w

-- a number whose label begins with this letter; 0 where it isn't there
abbrev above_zero_at : {B : Type 0} → ℕ → List ℕ → (ℕ → LineReader B) → LineReader B
above_zero_at c label more [] = more 0 []
above_zero_at c label more (w ∷ words) = if begins_with c w then (labelled_of label w >>= λ n. more n words) else more 0 (w ∷ words)

abbrev causes_at : {B : Type 0} → (OutOf → LineReader B) → LineReader B
causes_at more words =
    next (labelled_of (codes "pinned=")) (
    λ pinned. next (labelled_of (codes "noslot="))
    (λ noslot. next (labelled_of (codes "fault=")) (λ fault. above_zero_at 108 (codes "locked=") (λ locked. above_zero_at 107 (codes "ksm=")
    (λ ksm. more (record { pinned = pinned; noslot = noslot; fault = fault; locked = locked; ksm = ksm })))))
    ) words

abbrev totals_at : LineReader Answer
totals_at words =
    next (labelled_of (codes "frames=")) (
    λ frames. next (labelled_of (codes "free=")) (
    λ free. next (labelled_of (codes "active=")) (
    λ active. next (labelled_of (codes "inactive=")) (
    λ inactive. next (labelled_of (codes "flight=")) (
    λ flight. next (labelled_of (codes "slots=")) (
    λ slots. next (labelled_of (codes "freeslots=")) (
    λ free_slots. next (labelled_of (codes "procs=")) (
    λ processes. last (
    answers.Counted (
    record {
      frames = frames;
      free = free;
      active = active;
      inactive = inactive;
      flight = flight;
      slots = slots;
      free_slots = free_slots;
      processes = processes;
    }
    )
    )
    )
    )
    )
    )
    )
    )
    )
    ) words

-- what a cached frame or slot goes with, if anything
abbrev cached_at : {A B : Type 0} → (List ℕ → Option A) → (Option A → B) → LineReader B
cached_at read more [] = Some (more None)
cached_at read more (w ∷ words) = by_name ((codes "cached", next read (λ x. last (more (Some x)))) ∷ []) (w ∷ words)

-- whether a frame is merged
abbrev merged_at : {B : Type 0} → (Bool → B) → LineReader B
merged_at more [] = Some (more false)
merged_at more (w ∷ words) = by_name ((codes "ksm", last (more true)) ∷ []) (w ∷ words)

-- the slot at which a frame is cached, and whether it is merged
abbrev kept_at : (Option Slot → Bool → Answer) → LineReader Answer
kept_at more [] = Some (more None false)
kept_at more (w ∷ words) =
    by_name ((codes "cached", next slot_of (λ s. merged_at (more (Some s)))) ∷ (codes "ksm", last (more None true)) ∷ []) (w ∷ words)

-- a refusal, or want of frames with its causes
abbrev refused_at : Errno → LineReader Answer
refused_at error [] = Some (answers.Refused error)
refused_at error (w ∷ words) = causes_at (λ out. last (answers.NoFrame out)) (w ∷ words)

-- the words after a frame
abbrev frame_at : ℕ → LineReader Answer
frame_at frame words =
    by_name (
    (codes "maps", next number_of (λ maps. last (answers.Walk frame maps)))
    ∷ (codes "seen", kept_at (answers.EntryFrame frame true))
    ∷ (codes "old", kept_at (answers.EntryFrame frame false))
    ∷ []
    ) words

-- the words after a slot
abbrev slot_at : Slot → LineReader Answer
slot_at slot [] = Some (answers.EntrySlot slot None)
slot_at slot (w ∷ words) =
    by_name (
    (codes "cached", next number_of (λ frame. last (answers.EntrySlot slot (Some frame))))
    ∷ (codes "bad", last (answers.SlotBad slot))
    ∷ (codes "count", next number_of (λ count. cached_at number_of (answers.SlotCount slot count)))
    ∷ []
    ) (w ∷ words)

-- ---- lines

unfoldable pub answer_of : LineReader Answer
answer_of words =
    by_name (
    (codes "ok", last answers.Done)
    ∷ (codes "map", next hex_of (λ address. last (answers.MapAt address)))
    ∷ (codes "data", next pairs_of (λ bytes. last (answers.«Data» bytes)))
    ∷ (codes "err", next errno_of refused_at)
    ∷ (codes "segv", next number_of (λ served. shown_at (answers.Segv served)))
    ∷ (codes "bus", next number_of (λ served. shown_at (answers.Bus served)))
    ∷ (codes "oom", next number_of (λ served. causes_at (λ out. shown_at (answers.Oom served out))))
    ∷ (codes "on", next number_of (λ slots. next number_of (λ bad. last (answers.On slots bad))))
    ∷ (codes "runs", next number_of (λ n. last (answers.Runs n)))
    ∷ (codes "areas", next number_of (λ n. last (answers.AreaList n)))
    ∷ (codes "frame", next number_of frame_at)
    ∷ (codes "none", last answers.NoWalk)
    ∷ (codes "empty", last answers.EntryEmpty)
    ∷ (codes "zero", last answers.EntryZero)
    ∷ (codes "slot", next slot_of slot_at)
    ∷ (codes "stat", totals_at)
    ∷ []
    ) words

abbrev pub IsAnswerLine : Answer → Type 0
IsAnswerLine answer = IsLineOf answer_of (answer_line answer) answer

-- the bytes that are shown
shows : (more : List ℕ → Answer) (shown : List ℕ) → AreBytes shown → AreRead (shown_at more) (shown_words shown) (more shown)
shows more [] h = record { plain = tt; again = refl }
shows more (b ∷ bytes) h =
    let w = bytes-named (b ∷ bytes) h in
    record { plain = (w.plain, tt); again = ap (λ o. o >>= λ found. Some (more found)) w.again }

counted-line : (t : Totals) → AreTotals t → IsAnswerLine (answers.Counted t)
unfolding answer_of
counted-line t h =
    let frames = labelled-named (codes "frames=") refl refl h.frames in
    let free = labelled-named (codes "free=") refl refl h.free in
    let active = labelled-named (codes "active=") refl refl h.active in
    let inactive = labelled-named (codes "inactive=") refl refl h.inactive in
    let flight = labelled-named (codes "flight=") refl refl h.flight in
    let slots = labelled-named (codes "slots=") refl refl h.slots in
    let free_slots = labelled-named (codes "freeslots=") refl refl h.free_slots in
    let processes = labelled-named (codes "procs=") refl refl h.processes in
    line_is (codes "stat") refl refl
    (word _ frames (word _ free (word _ active (word _ inactive (word _ flight (word _ slots (word _ free_slots (word _ processes no_word))))))))

-- a name that is known by computing, before other words
name_word : (name : List ℕ) {words : List (List ℕ)} {x : Answer} {read : LineReader Answer} → lacks 32 name ≡ true → lacks 10 name ≡ true →
    AreRead (λ ws. read (name ∷ ws)) words x → AreRead read (name ∷ words) x
name_word name space newline r = record { plain = (plain_name name space newline, r.plain); again = r.again }

-- what may be cached
caches : {A : Type 0} {read : List ℕ → Option A} {Fits : A → Type 0} {text : A → List ℕ} (more : Option A → Answer) →
    ((x : A) → Fits x → Names read (text x) x) → (cached : Option A) → IfThere Fits cached →
    AreRead (cached_at read more) (cached_words text cached) (more cached)
caches more reads None h = record { plain = tt; again = refl }
caches more reads (Some x) h =
    let w = reads x h in
    record { plain = (plain_name (codes "cached") refl refl, (w.plain, tt)); again = ap (λ o. o >>= λ found. Some (more (Some found))) w.again }

-- the slot of a cached frame, and whether the frame is merged
keeps : (more : Option Slot → Bool → Answer) (slot : Option Slot) (merged : Bool) → IfThere IsSlot slot →
    AreRead (kept_at more) (cached_words slot_text slot ++ merged_words merged) (more slot merged)
keeps more None false h = record { plain = tt; again = refl }
keeps more None true h = record { plain = (plain_name (codes "ksm") refl refl, tt); again = refl }
keeps more (Some s) false h =
    let w = slot-named s h in
    record {
      plain = (plain_name (codes "cached") refl refl, (w.plain, tt));
      again = ap (λ o. o >>= λ found. Some (more (Some found) false)) w.again;
    }
keeps more (Some s) true h =
    let w = slot-named s h in
    record {
      plain = (plain_name (codes "cached") refl refl, (w.plain, (plain_name (codes "ksm") refl refl, tt)));
      again = ap (λ o. o >>= λ found. Some (more (Some found) true)) w.again;
    }

-- a number that stands only above 0, before words that don't begin like its label
above_zero-read : {B : Type 0} (c : ℕ) (label : List ℕ) (n : ℕ) (more : ℕ → LineReader B) (words : List (List ℕ)) {y : B} → lacks 32 label ≡ true →
    lacks 10 label ≡ true → begins_with c (labelled label n) ≡ true → IsWide n → first_begins_with c words ≡ false → AreRead (more n) words y →
    AreRead (above_zero_at c label more) (above_zero label n ++ words) y
above_zero-read {B = B} c label n more words {y = y} space newline begins small other r = by (nat_lt 0 n) refl
  where
    named : Names (labelled_of label) (labelled label n) n
    named = labelled-named label space newline small

    left_out : (words : List (List ℕ)) → first_begins_with c words ≡ false → above_zero_at c label more words ≡ more 0 words
    left_out [] e = refl
    left_out (w ∷ words) e = ap (λ b. if b then (labelled_of label w >>= λ n. more n words) else more 0 (w ∷ words)) e

    by : (b : Bool) → nat_lt 0 n ≡ b → AreRead (above_zero_at c label more) ((if b then labelled label n ∷ [] else []) ++ words) y
    by true is = record {
      plain = (named.plain, r.plain);
      again = ap (λ b. if b then (labelled_of label (labelled label n) >>= λ n. more n words) else more 0 (labelled label n ∷ words)) begins
          ∙ ap (λ o. o >>= λ n. more n words) named.again ∙ r.again;
    }
    by false is = let none : n ≡ 0 = grind (arith, nat_tests, is) in
        record { plain = r.plain; again = left_out words other ∙ ap (λ n. more n words) (sym none) ∙ r.again }

causes-named : (out : OutOf) {B : Type 0} (more : OutOf → LineReader B) {words : List (List ℕ)} {y : B} → AreCauses out →
    first_begins_with 108 words ≡ false → first_begins_with 107 words ≡ false → AreRead (more out) words y →
    AreRead (causes_at more) (out_words out ++ words) y
unfolding labelled
causes-named out {B = B} more {words = words} {y = y} h not_l not_k others =
    word _ (labelled-named (codes "pinned=") refl refl h.0)
    (word _ (labelled-named (codes "noslot=") refl refl h.1) (word _ (labelled-named (codes "fault=") refl refl h.2)
    (subst (λ ws. AreRead with_locked ws y) (sym (append_assoc (above_zero (codes "locked=") out.locked) (above_zero (codes "ksm=") out.ksm) words))
    (above_zero-read 108 (codes "locked=") out.locked with_ksm (above_zero (codes "ksm=") out.ksm ++ words) refl refl refl h.3
    (ksm_first (nat_lt 0 out.ksm))
    (above_zero-read 107 (codes "ksm=") out.ksm (λ ksm. more (out_with out.locked ksm)) words refl refl refl h.4 not_k others)))))
  where
    out_with : ℕ → ℕ → OutOf
    out_with locked ksm = record { pinned = out.pinned; noslot = out.noslot; fault = out.fault; locked = locked; ksm = ksm }

    with_ksm : ℕ → LineReader B
    with_ksm locked = above_zero_at 107 (codes "ksm=") (λ ksm. more (out_with locked ksm))

    with_locked : LineReader B
    with_locked = above_zero_at 108 (codes "locked=") with_ksm

    ksm_first : (b : Bool) → first_begins_with 108 ((if b then labelled (codes "ksm=") out.ksm ∷ [] else []) ++ words) ≡ false
    ksm_first true = refl
    ksm_first false = not_l

-- bytes don't begin with a letter behind f
shown-begins : (c : ℕ) (shown : List ℕ) → 102 < c → AreBytes shown → first_begins_with c (shown_words shown) ≡ false
shown-begins c [] high h = refl
shown-begins c (b ∷ bytes) high h = by (cases_lt (b / 16) 10)
  where
    by : (b / 16 < 10) ⊎ (10 ≤ b / 16) → (digit_glyph false (b / 16) == c) ≡ false
    by (inl lt) = let g = glyph_low (b / 16) lt in grind (arith, nat_tests, g, high)
    by (inr ge) = let g : digit_glyph false (b / 16) ≡ 87 + b / 16 = cond-false _ _ _ (le-ltb _ _ ge) in let small : b / 16 < 16 = omega (arith, h.0) in grind (arith, nat_tests, g, high, small)

-- a refusal
alone : (error : Errno) → AreRead (refused_at error) [] (answers.Refused error)
alone error = record { plain = tt; again = refl }

-- want of frames
no_frame : (out : OutOf) → AreCauses out → AreRead (refused_at errors.Enomem) (out_words out) (answers.NoFrame out)
no_frame out h =
    let r = causes-named out (λ out. last (answers.NoFrame out)) {words = []} h refl refl no_word in
    subst (λ ws. AreRead (refused_at errors.Enomem) ws (answers.NoFrame out)) (append-nil (out_words out))
    (record { plain = r.plain; again = r.again })

-- an entry of a slot
entry_slot : (slot : Slot) (frame : Option ℕ) → IfThere IsWide frame
    → AreRead (slot_at slot) (cached_words decimal frame) (answers.EntrySlot slot frame)
entry_slot slot None h = record { plain = tt; again = refl }
entry_slot slot (Some frame) h = name_word (codes "cached") refl refl (word _ (number-named h) no_word)

pub answer_line-is : (answer : Answer) → IsAnswer answer → IsAnswerLine answer
unfolding answer_of
answer_line-is answers.Done h = line_is (codes "ok") refl refl no_word
answer_line-is (answers.MapAt address) h = line_is (codes "map") refl refl (word _ (hex-named h) no_word)
answer_line-is (answers.«Data» bytes) h = line_is (codes "data") refl refl (word _ (bytes-named bytes h) no_word)
answer_line-is (answers.Refused error) h = line_is (codes "err") refl refl (word _ (errno-named error) (alone error))
answer_line-is (answers.Segv served shown) h = line_is (codes "segv") refl refl (word _ (number-named h.0) (shows (answers.Segv served) shown h.1))
answer_line-is (answers.Bus served shown) h = line_is (codes "bus") refl refl (word _ (number-named h.0) (shows (answers.Bus served) shown h.1))
answer_line-is (answers.Oom served out shown) h =
    line_is (codes "oom") refl refl
    (word _ (number-named h.0) (causes-named out (λ x. shown_at (answers.Oom served x)) h.1 (shown-begins 108 shown (omega arith) h.2)
    (shown-begins 107 shown (omega arith) h.2) (shows (answers.Oom served out) shown h.2)))
answer_line-is (answers.On slots bad) h = line_is (codes "on") refl refl (word _ (number-named h.0) (word _ (number-named h.1) no_word))
answer_line-is (answers.NoFrame out) h = line_is (codes "err") refl refl (word _ (errno-named errors.Enomem) (no_frame out h))
answer_line-is (answers.Runs n) h = line_is (codes "runs") refl refl (word _ (number-named h) no_word)
answer_line-is (answers.AreaList n) h = line_is (codes "areas") refl refl (word _ (number-named h) no_word)
answer_line-is (answers.Walk frame maps) h = line_is (codes "frame") refl refl
    (word _ (number-named h.0) (name_word (codes "maps") refl refl (word _ (number-named h.1) no_word)))
answer_line-is answers.NoWalk h = line_is (codes "none") refl refl no_word
answer_line-is answers.EntryEmpty h = line_is (codes "empty") refl refl no_word
answer_line-is answers.EntryZero h = line_is (codes "zero") refl refl no_word
answer_line-is (answers.EntryFrame frame true slot merged) h =
    line_is (codes "frame") refl refl
    (word _ (number-named h.0) (name_word (codes "seen") refl refl (keeps (answers.EntryFrame frame true) slot merged h.1)))
answer_line-is (answers.EntryFrame frame false slot merged) h =
    line_is (codes "frame") refl refl
    (word _ (number-named h.0) (name_word (codes "old") refl refl (keeps (answers.EntryFrame frame false) slot merged h.1)))
answer_line-is (answers.EntrySlot slot frame) h = line_is (codes "slot") refl refl (word _ (slot-named slot h.0) (entry_slot slot frame h.1))
answer_line-is (answers.SlotBad slot) h = line_is (codes "slot") refl refl (word _ (slot-named slot h) (name_word (codes "bad") refl refl no_word))
answer_line-is (answers.SlotCount slot count frame) h =
    line_is (codes "slot") refl refl
    (word _ (slot-named slot h.0)
    (name_word (codes "count") refl refl (word _ (number-named h.1) (caches (answers.SlotCount slot count) (λ n. number-named {n = n}) frame h.2))))
answer_line-is (answers.Counted t) h = counted-line t h
