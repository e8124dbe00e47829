-- Files that serve as swap areas: what is told of a file and of those that have names, and what a
-- call changes of it.
use Rattle.std.specs.Prelude.{◌≡◌, ℕ, ◌+◌, ◌/◌, ◌≤◌, ◌≢◌, List, ◌++◌, length, take, drop, min}
use Rattle.std.specs.Prelude.{Option, Some, None, option_map, unwrap_or, slice_index_or, IfSome}
use Rattle.std.specs.Prelude.{Result, Ok, Err}
use Rattle.av_base.specs.Page.{page_size}
use Rattle.av_io.specs.Count.{one_more}
use Rattle.av_swapdev.specs.Device.{most_pages}
use Rattle.av_swapdev.specs.declared.device.AttachErr.{AttachErr}
use Rattle.av_swapdev.specs.declared.device.AttachErr.TheVariants.{Failed, Memory}
use Rattle.av_swapdev.specs.declared.file_dev.Attached.{Attached}

-- what a file holds, where that is told; how many bytes it had when it was opened; how often it was
-- read and written, and how often that failed
pub record FileView : Type 0 where
  pub bytes : Option (List ℕ)
  pub len : ℕ
  pub calls : ℕ
  pub failures : ℕ

-- what the file of each name holds, where that is told; how often one was opened, how often that
-- failed, and how often memory was wanting for it
pub record FilesView : Type 0 where
  pub named : Option (List ℕ → List ℕ)
  pub calls : ℕ
  pub failures : ℕ
  pub shortages : ℕ

-- after a file was opened, with this answer
abbrev pub after_open : {F : Type 0} → Result F AttachErr → FilesView → FilesView
after_open (Ok file) files = record files { calls = one_more files.calls }
after_open (Err Failed) files =
    record files { calls = one_more files.calls; failures = one_more files.failures }
after_open (Err Memory) files =
    record files { calls = one_more files.calls; shortages = one_more files.shortages }

-- the file of this name, as it is opened: it holds what is told of the name, and was not called yet
pub record Opens (files : FilesView) (name : List ℕ) (file : FileView) : Type 0 where
  pub bytes : IfSome files.named (λ held. file.bytes ≡ Some (held name))
  pub len : IfSome file.bytes (λ held. file.len ≡ length held)
  pub calls : file.calls ≡ 0
  pub failures : file.failures ≡ 0

-- after a call that went well, and after one that failed
abbrev pub after_call : FileView → FileView
after_call file = record file { calls = one_more file.calls }

abbrev pub after_failure : FileView → FileView
after_failure file = record file { calls = one_more file.calls; failures = one_more file.failures }

-- what a file holds, with these bytes from a place on
abbrev pub with_bytes : ℕ → List ℕ → List ℕ → List ℕ
with_bytes place bytes held = take place held ++ bytes ++ drop (place + length bytes) held

-- the file, with these bytes from a place on, where what it holds is told
abbrev pub storing : ℕ → List ℕ → FileView → FileView
storing place bytes file = record file { bytes = option_map (with_bytes place bytes) file.bytes }

-- a read filled `into` with the bytes from a place on
pub record Reads (old new : FileView) (place : ℕ) (into : List ℕ) : Type 0 where
  pub bytes : IfSome old.bytes (λ held. into ≡ take (length into) (drop place held))
  pub counted : new ≡ after_call old

-- a write stored the piece from a place on
abbrev pub Stores : FileView → FileView → ℕ → List ℕ → Type 0
Stores old new place piece = new ≡ after_call (storing place piece old)

-- a write failed: some bytes, no more than the piece has, may stand from the place on
pub record StoresPart (old new : FileView) (place : ℕ) (piece : List ℕ) : Type 0 where
  pub part : List ℕ
  pub within : length part ≤ length piece
  pub stored : new ≡ after_failure (storing place part old)

-- where there is no file, nothing is told and nothing called
abbrev pub no_file : FileView
no_file = record { bytes = None; len = 0; calls = 0; failures = 0 }

-- what is told of the file that is attached as an area
abbrev pub file_at : {F : Type 0} → (F → FileView) → List (Option (Attached F)) → ℕ → FileView
file_at view areas area =
    unwrap_or (option_map (λ a. view a.file) (slice_index_or areas area None)) no_file

-- how many pages of it are used
abbrev pub sizes_of : {F : Type 0} → List (Option (Attached F)) → ℕ → Option ℕ
sizes_of areas area = option_map (λ a. a.pages) (slice_index_or areas area None)

-- the files of all areas but this are what they were
abbrev pub SameBut : ℕ → (ℕ → FileView) → (ℕ → FileView) → Type 0
SameBut area old new = (other : ℕ) → other ≢ area → new other ≡ old other

-- how many pages of a file with so many bytes are used
abbrev pub pages_of : ℕ → ℕ
pages_of len = min (len / page_size) most_pages
