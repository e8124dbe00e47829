-- The lines that are commands. Each command has one line.
use Rattle.std.specs.Prelude.{◌≡◌, ℕ, ◌-◌, ◌^◌, Bool, true, false, if◌then◌else◌, List, [], ◌∷◌}
use Rattle.std.specs.Prelude.{◌++◌, codes, Option, Some, None}
use Rattle.std.specs.Fmt.{decimal}
use Rattle.av_base.specs.Limits.{most_frames}
use Rattle.av_base.specs.Page.{page_size}
use Rattle.av_base.specs.declared.prot.Prot.{Prot}
use Rattle.av_trace.specs.declared.place.Place.{Place}
use Rattle.av_trace.specs.declared.mode.Mode.{Mode}
use Rattle.av_trace.specs.declared.advice.Advice.{Advice}
use Rattle.av_trace.specs.declared.command.Command.{Command}
use Rattle.av_trace.specs.declared.command.Command.TheVariants as commands
use Rattle.av_text.specs.Word.{line, ◌>>=◌, Reader, both, by_name}
use Rattle.av_text.specs.Number.{IsNumberIn, IsProcess, IsWide, decimal_at, process_at, len_at}
use Rattle.av_text.specs.Number.{entry_at}
use Rattle.av_text.specs.Hex.{hex, hex_text, IsData, data_at}
use Rattle.av_text.specs.Prot.{prot_text, prot_at}
use Rattle.av_trace.specs.Advice.{advice_at, advice_words}
use Rattle.av_trace.specs.Place.{IsPlace, place_words, place_at}
use Rattle.av_trace.specs.Mode.{IsMode, mode_words, mode_at}
use Rattle.av_trace.specs.Priority.{IsPriority, priority_words, priority_at}

-- a swap area
abbrev pub IsAreaNumber : ℕ → Type 0
IsAreaNumber k = IsNumberIn 0 7 k

-- how many frames or slots a command goes over, at most
abbrev pub IsFrameCount : ℕ → Type 0
IsFrameCount n = IsNumberIn 1 most_frames n

-- the values of the command are in range
abbrev pub IsInRange : Command → Type 0
IsInRange (commands.Spawn p) = IsProcess p
IsInRange (commands.Fork p q) = IsProcess p × IsProcess q
IsInRange (commands.Exit p) = IsProcess p
IsInRange (commands.Mmap p len prot place) = IsProcess p × IsWide len × IsPlace place
IsInRange (commands.Munmap p address len) = IsProcess p × IsWide address × IsWide len
IsInRange (commands.Mprotect p address len prot) = IsProcess p × IsWide address × IsWide len
IsInRange (commands.Mremap p address old_len new_len mode) =
    IsProcess p × IsWide address × IsWide old_len × IsWide new_len × IsMode mode
IsInRange (commands.Madvise p address len advice) = IsProcess p × IsWide address × IsWide len
IsInRange (commands.Mlock p address len) = IsProcess p × IsWide address × IsWide len
IsInRange (commands.Munlock p address len) = IsProcess p × IsWide address × IsWide len
IsInRange (commands.Read p address len) =
    IsProcess p × IsWide address × IsNumberIn 1 page_size len
IsInRange (commands.Write p address bytes) = IsProcess p × IsWide address × IsData bytes
IsInRange (commands.Reclaim n) = IsFrameCount n
IsInRange (commands.Age n) = IsFrameCount n
IsInRange (commands.Complete n) = IsFrameCount n
IsInRange (commands.Swapon k priority) = IsAreaNumber k × IsPriority priority
IsInRange (commands.Swapoff k) = IsAreaNumber k
IsInRange commands.Merge = Unit {0}
IsInRange commands.Compact = Unit {0}
IsInRange (commands.Maps p) = IsProcess p
IsInRange (commands.Areas p) = IsProcess p
IsInRange (commands.Rmap p address) = IsProcess p × IsWide address
IsInRange (commands.Entry p address) = IsProcess p × IsWide address
IsInRange (commands.Slot k page) = IsAreaNumber k × IsNumberIn 0 (2 ^ 32 - 1) page
IsInRange commands.Stat = Unit {0}

-- the one text of a command, which is its line
abbrev pub line_of : Command → List ℕ
line_of (commands.Spawn p) = line (codes "spawn") (decimal p ∷ [])
line_of (commands.Fork p q) = line (codes "fork") (decimal p ∷ decimal q ∷ [])
line_of (commands.Exit p) = line (codes "exit") (decimal p ∷ [])
line_of (commands.Mmap p len prot place) =
    line (codes "mmap") (decimal p ∷ decimal len ∷ prot_text prot ∷ place_words place)
line_of (commands.Munmap p address len) =
    line (codes "munmap") (decimal p ∷ hex address ∷ decimal len ∷ [])
line_of (commands.Mprotect p address len prot) =
    line (codes "mprotect") (decimal p ∷ hex address ∷ decimal len ∷ prot_text prot ∷ [])
line_of (commands.Mremap p address old_len new_len mode) =
    line (codes "mremap")
    (decimal p ∷ hex address ∷ decimal old_len ∷ decimal new_len ∷ mode_words mode)
line_of (commands.Madvise p address len advice) =
    line (codes "madvise") (decimal p ∷ hex address ∷ decimal len ∷ advice_words advice)
line_of (commands.Mlock p address len) =
    line (codes "mlock") (decimal p ∷ hex address ∷ decimal len ∷ [])
line_of (commands.Munlock p address len) =
    line (codes "munlock") (decimal p ∷ hex address ∷ decimal len ∷ [])
line_of (commands.Read p address len) =
    line (codes "read") (decimal p ∷ hex address ∷ decimal len ∷ [])
line_of (commands.Write p address bytes) =
    line (codes "write") (decimal p ∷ hex address ∷ hex_text bytes ∷ [])
line_of (commands.Reclaim n) = line (codes "reclaim") (decimal n ∷ [])
line_of (commands.Age n) = line (codes "age") (decimal n ∷ [])
line_of (commands.Complete n) = line (codes "complete") (decimal n ∷ [])
line_of (commands.Swapon k priority) =
    line (codes "swapon") (decimal k ∷ priority_words priority)
line_of (commands.Swapoff k) = line (codes "swapoff") (decimal k ∷ [])
line_of commands.Merge = codes "merge"
line_of commands.Compact = codes "compact"
line_of (commands.Maps p) = line (codes "maps") (decimal p ∷ [])
line_of (commands.Areas p) = line (codes "areas") (decimal p ∷ [])
line_of (commands.Rmap p address) = line (codes "rmap") (decimal p ∷ hex address ∷ [])
line_of (commands.Entry p address) = line (codes "entry") (decimal p ∷ hex address ∷ [])
line_of (commands.Slot k page) = line (codes "slot") (decimal k ∷ decimal page ∷ [])
line_of commands.Stat = codes "stat"

-- ---- reading: each command has the words that a reader finds, and then the line ends

-- the command, if nothing is left
unfoldable pub at_end : Command → List ℕ → Option Command
at_end c [] = Some c
at_end c (b ∷ bytes) = None

-- the command of what a reader finds in all the bytes
unfoldable pub whole : {A : Type 0} → Reader A → (A → Command) → List ℕ → Option Command
whole read command bytes = read bytes >>= λ x. at_end (command x.0) x.1

-- no words
abbrev pub no_words : Reader (Unit {0})
no_words bytes = Some (tt, bytes)

-- the words of `fork`: two processes
abbrev pub fork_words : Reader (ℕ × ℕ)
fork_words bytes = both process_at process_at bytes

-- the words of `munmap`, `mlock` and `munlock`, and the first words of `mprotect`, `mremap` and
-- `madvise`: a process, an address, a length
abbrev pub range_words : Reader ((ℕ × ℕ) × ℕ)
range_words bytes = both entry_at len_at bytes

-- the words of `mmap`
abbrev pub mmap_words : Reader (((ℕ × ℕ) × Prot) × Place)
mmap_words bytes = both (both (both process_at len_at) prot_at) place_at bytes

-- the words of `mprotect`
abbrev pub mprotect_words : Reader (((ℕ × ℕ) × ℕ) × Prot)
mprotect_words bytes = both range_words prot_at bytes

-- the words of `mremap`
abbrev pub mremap_words : Reader ((((ℕ × ℕ) × ℕ) × ℕ) × Mode)
mremap_words bytes = both (both range_words len_at) mode_at bytes

-- the words of `madvise`
abbrev pub madvise_words : Reader (((ℕ × ℕ) × ℕ) × Advice)
madvise_words bytes = both range_words advice_at bytes

-- the words of `read`
abbrev pub read_words : Reader ((ℕ × ℕ) × ℕ)
read_words bytes = both entry_at (decimal_at 1 page_size) bytes

-- the words of `write`
abbrev pub write_words : Reader ((ℕ × ℕ) × List ℕ)
write_words bytes = both entry_at data_at bytes

-- the word of `reclaim`, `age` and `complete`: how many frames or slots
abbrev pub frames_at : Reader ℕ
frames_at bytes = decimal_at 1 most_frames bytes

-- the word of `swapoff`, and the first of `swapon` and `slot`: a swap area
abbrev pub area_at : Reader ℕ
area_at bytes = decimal_at 0 7 bytes

-- the words of `swapon`
abbrev pub swapon_words : Reader (ℕ × Option ℕ)
swapon_words bytes = both area_at priority_at bytes

-- the words of `slot`
abbrev pub slot_words : Reader (ℕ × ℕ)
slot_words bytes = both area_at (decimal_at 0 (2 ^ 32 - 1)) bytes

-- what reads a command's words after its name
abbrev pub CommandReader : Type 0
CommandReader = List ℕ → Option Command

abbrev pub fork_at : CommandReader
fork_at = whole fork_words (λ x. commands.Fork x.0 x.1)

abbrev pub mmap_at : CommandReader
mmap_at = whole mmap_words (λ x. commands.Mmap x.0.0.0 x.0.0.1 x.0.1 x.1)

abbrev pub munmap_at : CommandReader
munmap_at = whole range_words (λ x. commands.Munmap x.0.0 x.0.1 x.1)

abbrev pub mprotect_at : CommandReader
mprotect_at = whole mprotect_words (λ x. commands.Mprotect x.0.0.0 x.0.0.1 x.0.1 x.1)

abbrev pub mremap_at : CommandReader
mremap_at = whole mremap_words (λ x. commands.Mremap x.0.0.0.0 x.0.0.0.1 x.0.0.1 x.0.1 x.1)

abbrev pub madvise_at : CommandReader
madvise_at = whole madvise_words (λ x. commands.Madvise x.0.0.0 x.0.0.1 x.0.1 x.1)

abbrev pub mlock_at : CommandReader
mlock_at = whole range_words (λ x. commands.Mlock x.0.0 x.0.1 x.1)

abbrev pub munlock_at : CommandReader
munlock_at = whole range_words (λ x. commands.Munlock x.0.0 x.0.1 x.1)

abbrev pub read_at : CommandReader
read_at = whole read_words (λ x. commands.Read x.0.0 x.0.1 x.1)

abbrev pub write_at : CommandReader
write_at = whole write_words (λ x. commands.Write x.0.0 x.0.1 x.1)

abbrev pub rmap_at : CommandReader
rmap_at = whole entry_at (λ x. commands.Rmap x.0 x.1)

abbrev pub entry_of : CommandReader
entry_of = whole entry_at (λ x. commands.Entry x.0 x.1)

abbrev pub swapon_at : CommandReader
swapon_at = whole swapon_words (λ x. commands.Swapon x.0 x.1)

abbrev pub slot_at : CommandReader
slot_at = whole slot_words (λ x. commands.Slot x.0 x.1)

-- what reads the commands that access pages, by name
abbrev pub access_readers : List (List ℕ × CommandReader)
access_readers = (codes "write", write_at) ∷ (codes "read", read_at) ∷ []

-- those that begin and end processes
abbrev pub process_readers : List (List ℕ × CommandReader)
process_readers =
    (codes "spawn", whole process_at commands.Spawn)
    ∷ (codes "fork", fork_at)
    ∷ (codes "exit", whole process_at commands.Exit)
    ∷ []

-- those that change ranges
abbrev pub range_readers : List (List ℕ × CommandReader)
range_readers =
    (codes "mmap", mmap_at)
    ∷ (codes "munmap", munmap_at)
    ∷ (codes "mprotect", mprotect_at)
    ∷ (codes "mremap", mremap_at)
    ∷ []

-- those that set the flags of pages
abbrev pub advice_readers : List (List ℕ × CommandReader)
advice_readers =
    (codes "madvise", madvise_at)
    ∷ (codes "mlock", mlock_at)
    ∷ (codes "munlock", munlock_at)
    ∷ []

-- those that move pages to swap areas, and turn these on and off
abbrev pub swap_readers : List (List ℕ × CommandReader)
swap_readers =
    (codes "reclaim", whole frames_at commands.Reclaim)
    ∷ (codes "age", whole frames_at commands.Age)
    ∷ (codes "complete", whole frames_at commands.Complete)
    ∷ (codes "swapon", swapon_at)
    ∷ (codes "swapoff", whole area_at commands.Swapoff)
    ∷ []

-- those that merge and move frames
abbrev pub frame_readers : List (List ℕ × CommandReader)
frame_readers =
    (codes "merge", whole no_words (λ x. commands.Merge))
    ∷ (codes "compact", whole no_words (λ x. commands.Compact))
    ∷ []

-- the reports
abbrev pub report_readers : List (List ℕ × CommandReader)
report_readers =
    (codes "maps", whole process_at commands.Maps)
    ∷ (codes "areas", whole process_at commands.Areas)
    ∷ (codes "rmap", rmap_at)
    ∷ (codes "entry", entry_of)
    ∷ (codes "slot", slot_at)
    ∷ (codes "stat", whole no_words (λ x. commands.Stat))
    ∷ []

-- all commands
abbrev pub readers : List (List ℕ × CommandReader)
readers =
    access_readers ++ process_readers ++ range_readers ++ advice_readers ++ swap_readers
    ++ frame_readers ++ report_readers

-- the command of a line that has one of these names
abbrev pub command_in : List (List ℕ × CommandReader) → CommandReader
command_in names line = by_name names line >>= λ found. found.0 found.1

-- the command of a whole line: what its words read as
unfoldable pub command_of : CommandReader
command_of line = command_in readers line
