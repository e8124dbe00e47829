-- Each command: what is read is in range and on its line, and what is in range is read from its line.
use Rattle.std.proofs.Common.{◌≡◌, ℕ, List, [], ◌∷◌, ◌++◌, append-nil, Option, Some, refl, sym, ap, subst, ◌∙◌, lit<}
use Rattle.std.specs.Prelude.{◌-◌, ◌^◌, Bool, true, false, if◌then◌else◌, None, codes, Result, Ok, Err, OnErr}
use Rattle.std.specs.List.{flat_map, AllByRecursion}
use Rattle.std.specs.Fmt.{decimal}
use Rattle.std.proofs.lemmas.Option.{same_Some}
use Rattle.av_base.specs.Limits.{most_frames}
use Rattle.av_base.specs.Page.{page_size}
use Rattle.av_base.specs.declared.prot.Prot.{Prot}
use Rattle.av_trace.specs.declared.command.Command.{Command}
use Rattle.av_trace.specs.declared.command.Command.TheVariants as commands
use Rattle.av_trace.specs.declared.place.Place.{Place}
use Rattle.av_trace.specs.declared.mode.Mode.{Mode}
use Rattle.av_trace.specs.Command.{IsAreaNumber, IsFrameCount, IsInRange, line_of, at_end, whole, no_words, fork_words, range_words, mmap_words, mprotect_words, mremap_words, read_words, write_words, CommandReader, fork_at, mmap_at, munmap_at, mprotect_at, mremap_at, madvise_at, madvise_words, mlock_at, munlock_at, read_at, write_at, area_at, frames_at, rmap_at, entry_of, swapon_words, swapon_at, slot_at, slot_words, readers, command_in, command_of}
use Rattle.av_text.specs.Hex.{hex, hex_text, IsData}
use Rattle.av_text.specs.Number.{IsNumberIn, IsProcess, IsWide, process_at}
use Rattle.av_trace.specs.declared.advice.Advice.{Advice}
use Rattle.av_trace.specs.Advice.{advice_words}
use Rattle.av_trace.specs.Place.{IsPlace, place_words}
use Rattle.av_trace.specs.Mode.{IsMode, mode_words}
use Rattle.av_trace.specs.Priority.{IsPriority, priority_words}
use Rattle.av_text.specs.Prot.{prot_text}
use Rattle.av_text.specs.Word.{field, line, ◌>>=◌, BeginsWith, Reader, after}
use Rattle.av_text.proofs.HexLaws.{stored}
use Rattle.av_text.proofs.NumberLaws.{processes, lengths, entries, reads_decimal}
use Rattle.av_trace.proofs.AdviceLaws.{last_advice}
use Rattle.av_trace.proofs.ModeLaws.{last_mode}
use Rattle.av_trace.proofs.PlaceLaws.{last_place}
use Rattle.av_trace.proofs.PriorityLaws.{last_priority}
use Rattle.av_text.proofs.ProtLaws.{prots}
use Rattle.av_text.proofs.WordLaws.{bind_some, after-found, named-found, IsEnd, IsRest, words_onto, Reads, reads_both}

-- ---- the words of each command

nothing : Reads no_words (λ x. Unit {0}) (λ x. []) IsRest
nothing = record {
  found = λ bytes x e. (ap (λ (y : Unit {0} × List ℕ). y.1) (same_Some (tt, bytes) x e), tt);
  again = λ x rest _ h. refl;
  ends = λ rest h. h;
}

forks : Reads fork_words (λ (x : ℕ × ℕ). IsProcess x.0 × IsProcess x.1) (λ (x : ℕ × ℕ). decimal x.0 ∷ decimal x.1 ∷ []) IsRest
forks = reads_both processes processes

ranges : Reads range_words (λ (x : (ℕ × ℕ) × ℕ). (IsProcess x.0.0 × IsWide x.0.1) × IsWide x.1)
    (λ (x : (ℕ × ℕ) × ℕ). decimal x.0.0 ∷ hex x.0.1 ∷ decimal x.1 ∷ []) IsRest
ranges = reads_both entries lengths

mmaps : Reads mmap_words (λ (x : ((ℕ × ℕ) × Prot) × Place). ((IsProcess x.0.0.0 × IsWide x.0.0.1) × Unit {0}) × IsPlace x.1)
    (λ (x : ((ℕ × ℕ) × Prot) × Place). decimal x.0.0.0 ∷ decimal x.0.0.1 ∷ prot_text x.0.1 ∷ place_words x.1) IsEnd
mmaps = reads_both (reads_both (reads_both processes lengths) prots) last_place

mprotects : Reads mprotect_words (λ (x : ((ℕ × ℕ) × ℕ) × Prot). ((IsProcess x.0.0.0 × IsWide x.0.0.1) × IsWide x.0.1) × Unit {0})
    (λ (x : ((ℕ × ℕ) × ℕ) × Prot). decimal x.0.0.0 ∷ hex x.0.0.1 ∷ decimal x.0.1 ∷ prot_text x.1 ∷ []) IsRest
mprotects = reads_both ranges prots

mremaps : Reads mremap_words
    (λ (x : (((ℕ × ℕ) × ℕ) × ℕ) × Mode). (((IsProcess x.0.0.0.0 × IsWide x.0.0.0.1) × IsWide x.0.0.1) × IsWide x.0.1) × IsMode x.1)
    (λ (x : (((ℕ × ℕ) × ℕ) × ℕ) × Mode). decimal x.0.0.0.0 ∷ hex x.0.0.0.1 ∷ decimal x.0.0.1 ∷ decimal x.0.1 ∷ mode_words x.1) IsEnd
mremaps = reads_both (reads_both ranges lengths) last_mode

madvises : Reads madvise_words (λ (x : ((ℕ × ℕ) × ℕ) × Advice). ((IsProcess x.0.0.0 × IsWide x.0.0.1) × IsWide x.0.1) × Unit {0})
    (λ (x : ((ℕ × ℕ) × ℕ) × Advice). decimal x.0.0.0 ∷ hex x.0.0.1 ∷ decimal x.0.1 ∷ advice_words x.1) IsEnd
madvises = reads_both ranges last_advice

reads : Reads read_words (λ (x : (ℕ × ℕ) × ℕ). (IsProcess x.0.0 × IsWide x.0.1) × IsNumberIn 1 page_size x.1)
    (λ (x : (ℕ × ℕ) × ℕ). decimal x.0.0 ∷ hex x.0.1 ∷ decimal x.1 ∷ []) IsRest
reads = reads_both entries (reads_decimal 1 page_size (lit< tt))

writes : Reads write_words (λ (x : (ℕ × ℕ) × List ℕ). (IsProcess x.0.0 × IsWide x.0.1) × IsData x.1)
    (λ (x : (ℕ × ℕ) × List ℕ). decimal x.0.0 ∷ hex x.0.1 ∷ hex_text x.1 ∷ []) IsEnd
writes = reads_both entries stored

counts : Reads frames_at IsFrameCount (λ (n : ℕ). decimal n ∷ []) IsRest
counts = reads_decimal 1 most_frames (lit< tt)

swap_areas : Reads area_at IsAreaNumber (λ (k : ℕ). decimal k ∷ []) IsRest
swap_areas = reads_decimal 0 7 (lit< tt)

swapons : Reads swapon_words (λ (x : ℕ × Option ℕ). IsAreaNumber x.0 × IsPriority x.1) (λ (x : ℕ × Option ℕ). decimal x.0 ∷ priority_words x.1) IsEnd
swapons = reads_both swap_areas last_priority

slots : Reads slot_words (λ (x : ℕ × ℕ). IsAreaNumber x.0 × IsNumberIn 0 (2 ^ 32 - 1) x.1) (λ (x : ℕ × ℕ). decimal x.0 ∷ decimal x.1 ∷ []) IsRest
slots = reads_both swap_areas (reads_decimal 0 (2 ^ 32 - 1) (lit< tt))

-- ---- what is read

-- a reader gets the commands that have this name, from the rest of their lines
abbrev IsReader : List ℕ × CommandReader → Type 0
IsReader r = (bytes : List ℕ) (c : Command) → r.1 bytes ≡ Some c → IsInRange c × (r.0 ++ bytes ≡ line_of c)

at_end-found : (c : Command) (bytes : List ℕ) (d : Command) → at_end c bytes ≡ Some d → (bytes ≡ []) × (c ≡ d)
unfolding at_end
at_end-found c [] d e = (refl, same_Some _ _ e)
at_end-found c (b ∷ bytes) d e = absurd cc

whole-found : {A : Type 0} {read : Reader A} {Fits : A → Type 0} {words : A → List (List ℕ)} {Rest : List ℕ → Type 0} → Reads read Fits words Rest →
    (name : List ℕ) (command : A → Command) →
    ((x : A) → Fits x → IsInRange (command x)) →
    ((x : A) → line name (words x) ≡ line_of (command x)) → IsReader (name, whole read command)
unfolding whole
whole-found {A = A} {words = words} reads name command fits spelled bytes c e =
    let x = bind_some {A = A × List ℕ} _ _ _ e in
    let is = reads.found bytes x.value x.first in
    let end = at_end-found (command x.value.0) x.value.1 c x.second in
    let text : name ++ bytes ≡ line_of (command x.value.0) =
    ap (λ (t : List ℕ). name ++ t) (is.0 ∙ ap (words_onto (words x.value.0)) end.0 ∙ append-nil (flat_map field (words x.value.0)))
    ∙ spelled x.value.0 in
    subst (λ (d : Command). IsInRange d × (name ++ bytes ≡ line_of d)) end.1 (fits x.value.0 is.1, text)

writes-found : IsReader (codes "write", write_at)
writes-found = whole-found writes (codes "write") _ (λ x h. (h.0.0, h.0.1, h.1)) (λ _. refl)

reads-found : IsReader (codes "read", read_at)
reads-found = whole-found reads (codes "read") _ (λ x h. (h.0.0, h.0.1, h.1)) (λ _. refl)

mmaps-found : IsReader (codes "mmap", mmap_at)
mmaps-found = whole-found mmaps (codes "mmap") _ (λ x h. (h.0.0.0, h.0.0.1, h.1)) (λ _. refl)

ranges-found : IsReader (codes "munmap", munmap_at)
ranges-found = whole-found ranges (codes "munmap") _ (λ x h. (h.0.0, h.0.1, h.1)) (λ _. refl)

mprotects-found : IsReader (codes "mprotect", mprotect_at)
mprotects-found = whole-found mprotects (codes "mprotect") _ (λ x h. (h.0.0.0, h.0.0.1, h.0.1)) (λ _. refl)

mremaps-found : IsReader (codes "mremap", mremap_at)
mremaps-found = whole-found mremaps (codes "mremap") _ (λ x h. (h.0.0.0.0, h.0.0.0.1, h.0.0.1, h.0.1, h.1)) (λ _. refl)

madvises-found : IsReader (codes "madvise", madvise_at)
madvises-found = whole-found madvises (codes "madvise") _ (λ x h. (h.0.0.0, h.0.0.1, h.0.1)) (λ _. refl)

mlocks-found : IsReader (codes "mlock", mlock_at)
mlocks-found = whole-found ranges (codes "mlock") _ (λ x h. (h.0.0, h.0.1, h.1)) (λ _. refl)

munlocks-found : IsReader (codes "munlock", munlock_at)
munlocks-found = whole-found ranges (codes "munlock") _ (λ x h. (h.0.0, h.0.1, h.1)) (λ _. refl)

spawns-found : IsReader (codes "spawn", whole process_at commands.Spawn)
spawns-found = whole-found processes (codes "spawn") commands.Spawn (λ _ h. h) (λ _. refl)

forks-found : IsReader (codes "fork", fork_at)
forks-found = whole-found forks (codes "fork") _ (λ _ h. h) (λ _. refl)

exits-found : IsReader (codes "exit", whole process_at commands.Exit)
exits-found = whole-found processes (codes "exit") commands.Exit (λ _ h. h) (λ _. refl)

reclaims-found : IsReader (codes "reclaim", whole frames_at commands.Reclaim)
reclaims-found = whole-found counts (codes "reclaim") commands.Reclaim (λ _ h. h) (λ _. refl)

ages-found : IsReader (codes "age", whole frames_at commands.Age)
ages-found = whole-found counts (codes "age") commands.Age (λ _ h. h) (λ _. refl)

completes-found : IsReader (codes "complete", whole frames_at commands.Complete)
completes-found = whole-found counts (codes "complete") commands.Complete (λ _ h. h) (λ _. refl)

swapons-found : IsReader (codes "swapon", swapon_at)
swapons-found = whole-found swapons (codes "swapon") _ (λ _ h. h) (λ _. refl)

swapoffs-found : IsReader (codes "swapoff", whole area_at commands.Swapoff)
swapoffs-found = whole-found swap_areas (codes "swapoff") commands.Swapoff (λ _ h. h) (λ _. refl)

merges-found : IsReader (codes "merge", whole no_words (λ x. commands.Merge))
merges-found = whole-found nothing (codes "merge") _ (λ _ _. tt) (λ _. refl)

compacts-found : IsReader (codes "compact", whole no_words (λ x. commands.Compact))
compacts-found = whole-found nothing (codes "compact") _ (λ _ _. tt) (λ _. refl)

maps-found : IsReader (codes "maps", whole process_at commands.Maps)
maps-found = whole-found processes (codes "maps") commands.Maps (λ _ h. h) (λ _. refl)

areas-found : IsReader (codes "areas", whole process_at commands.Areas)
areas-found = whole-found processes (codes "areas") commands.Areas (λ _ h. h) (λ _. refl)

rmaps-found : IsReader (codes "rmap", rmap_at)
rmaps-found = whole-found entries (codes "rmap") _ (λ _ h. h) (λ _. refl)

entries-found : IsReader (codes "entry", entry_of)
entries-found = whole-found entries (codes "entry") _ (λ _ h. h) (λ _. refl)

slots-found : IsReader (codes "slot", slot_at)
slots-found = whole-found slots (codes "slot") _ (λ _ h. h) (λ _. refl)

stats-found : IsReader (codes "stat", whole no_words (λ x. commands.Stat))
stats-found = whole-found nothing (codes "stat") _ (λ _ _. tt) (λ _. refl)

each_reads : AllByRecursion IsReader readers
each_reads = (writes-found, (reads-found, (spawns-found, (forks-found, (exits-found, (mmaps-found, (ranges-found, (mprotects-found, (mremaps-found, (madvises-found, (mlocks-found, (munlocks-found, (reclaims-found, (ages-found, (completes-found, (swapons-found, (swapoffs-found, (merges-found, (compacts-found, (maps-found, (areas-found, (rmaps-found, (entries-found, (slots-found, (stats-found, tt)))))))))))))))))))))))))

words-found : (bytes : List ℕ) (c : Command) → command_in readers bytes ≡ Some c → IsInRange c × (bytes ≡ line_of c)
words-found bytes c e =
    let reader = bind_some {A = CommandReader × List ℕ} _ _ _ e in
    let is = named-found IsReader readers bytes reader.value each_reads reader.first in
    let s = is.fits reader.value.1 c reader.second in
    (s.0, is.is ∙ s.1)

pub command_of-found : (bytes : List ℕ) (c : Command) → command_of bytes ≡ Some c → IsInRange c × (bytes ≡ line_of c)
unfolding command_of
command_of-found bytes c e = words-found bytes c e

-- ---- what is read again

whole-again : {A : Type 0} {read : Reader A} {Fits : A → Type 0} {words : A → List (List ℕ)} {Rest : List ℕ → Type 0}
    → Reads read Fits words Rest → Rest [] →
    (command : A → Command) → (x : A) → Fits x →
    whole read command (flat_map field (words x)) ≡ Some (command x)
unfolding whole at_end
whole-again {A = A} {read = read} {words = words} reads end command x fits =
    let found : read (flat_map field (words x)) ≡ Some (x, []) = ap read (sym (append-nil (flat_map field (words x)))) ∙ reads.again x [] fits end in
    ap (λ (o : Option (A × List ℕ)). o >>= λ y. at_end (command y.0) y.1) found

pub words-again : (c : Command) → IsInRange c → command_in readers (line_of c) ≡ Some c
unfolding after
words-again (commands.Spawn p) h = whole-again processes tt commands.Spawn p h
words-again (commands.Fork p q) h = whole-again forks tt _ (p, q) h
words-again (commands.Exit p) h = whole-again processes tt commands.Exit p h
words-again (commands.Mmap p len prot place) h = whole-again mmaps refl _ (((p, len), prot), place) (((h.0, h.1), tt), h.2)
words-again (commands.Munmap p address len) h = whole-again ranges tt _ ((p, address), len) ((h.0, h.1), h.2)
words-again (commands.Mprotect p address len prot) h = whole-again mprotects tt _ (((p, address), len), prot) (((h.0, h.1), h.2), tt)
words-again (commands.Mremap p address old_len new_len mode) h =
    whole-again mremaps refl _ ((((p, address), old_len), new_len), mode) ((((h.0, h.1), h.2), h.3), h.4)
words-again (commands.Madvise p address len advice) h =
    whole-again madvises refl _ (((p, address), len), advice) (((h.0, h.1), h.2), tt)
words-again (commands.Mlock p address len) h = whole-again ranges tt _ ((p, address), len) ((h.0, h.1), h.2)
words-again (commands.Munlock p address len) h = whole-again ranges tt _ ((p, address), len) ((h.0, h.1), h.2)
words-again (commands.Read p address len) h = whole-again reads tt _ ((p, address), len) ((h.0, h.1), h.2)
words-again (commands.Write p address bytes) h = whole-again writes refl _ ((p, address), bytes) ((h.0, h.1), h.2)
words-again (commands.Reclaim n) h = whole-again counts tt commands.Reclaim n h
words-again (commands.Age n) h = whole-again counts tt commands.Age n h
words-again (commands.Complete n) h = whole-again counts tt commands.Complete n h
words-again (commands.Swapon k priority) h = whole-again swapons refl _ (k, priority) h
words-again (commands.Swapoff k) h = whole-again swap_areas tt commands.Swapoff k h
words-again commands.Merge h = whole-again nothing tt (λ x. commands.Merge) tt tt
words-again commands.Compact h = whole-again nothing tt (λ x. commands.Compact) tt tt
words-again (commands.Maps p) h = whole-again processes tt commands.Maps p h
words-again (commands.Areas p) h = whole-again processes tt commands.Areas p h
words-again (commands.Rmap p address) h = whole-again entries tt _ (p, address) h
words-again (commands.Entry p address) h = whole-again entries tt _ (p, address) h
words-again (commands.Slot k page) h = whole-again slots tt _ (k, page) h
words-again commands.Stat h = whole-again nothing tt (λ x. commands.Stat) tt tt

pub command_of-again : (c : Command) → IsInRange c → command_of (line_of c) ≡ Some c
unfolding command_of
command_of-again c h = words-again c h

-- ---- want of memory

on_error : {T E P : Type 0} (r : Result T E) → P → OnErr r P
on_error (Ok x) p = tt
on_error (Err e) p = p

-- what follows this front begins with it, whatever comes of it
pub begins : {T E : Type 0} (front bytes rest : List ℕ) (r : Result T E) → Some rest ≡ after front bytes → OnErr r (BeginsWith front bytes)
begins front bytes rest r e = on_error r (rest, after-found front bytes rest (sym e))
