-- What pages and frames hold, by the memories.
use Rattle.std.specs.Prelude.{ℕ, List, [], option_map, slice_index, unwrap_or}
use Rattle.std.specs.BTreeMap.{BTreeMap, get}
use Rattle.std.specs.Ordering.{nat_cmp}
use Rattle.av_base.specs.Keys.{Key}
use Rattle.av_plain.specs.Merge.{FrameBytes}
use Rattle.av_audit_world.specs.Space.{bytes_in}
use Rattle.av_audit_world.specs.declared.memories.Memories.{Memories}
use Rattle.av_audit_world.specs.declared.space.Space.{Space}

-- the bytes that are kept of a page: those past their end are 0
abbrev pub bytes_of_page : Memories → Key → List ℕ
bytes_of_page memories k = unwrap_or (option_map
    (λ (s : Space). bytes_in (get nat_cmp s.bytes k.1)) (get nat_cmp memories.spaces k.0)) []

-- the bytes of a frame, where some frames have a page that tells them
abbrev pub bytes_of_frame : Memories → BTreeMap ℕ Key → ℕ → List ℕ
bytes_of_frame memories pages f =
    unwrap_or (option_map (bytes_of_page memories) (get nat_cmp pages f)) []

abbrev pub held_by : Memories → BTreeMap ℕ Key → FrameBytes
held_by memories pages f = slice_index (bytes_of_frame memories pages f)
