-- Compaction: the frames in use become the lowest ones.
use Rattle.std.specs.List.{find, range_with_len}
use Rattle.std.specs.Prelude.{◌≡◌, ℕ, not, if◌then◌else◌, nat_lt, List, [], ◌∷◌, ◌++◌, reverse}
use Rattle.std.specs.Prelude.{Option, Some, None, ◌<◌}
use Rattle.av_trace.specs.declared.note.Note.{Note}
use Rattle.av_trace.specs.declared.note.Note.TheVariants.{Moved}
use Rattle.av_trace.specs.declared.reply.Answer.{Answer}
use Rattle.av_trace.specs.declared.reply.Answer.TheVariants.{Done}
use Rattle.av_trace.specs.declared.row.Row.{Row}
use Rattle.av_plain.specs.Event.{Event, FreeSorted, after_note, note_events, with_places}
use Rattle.av_plain.specs.Ledger.{Ledger, Setting, is_free, walk}
use Rattle.av_plain.specs.Pass.{how_many_frames}
use Rattle.av_plain.specs.Sound.{uses}

-- the least frame that is free, and the greatest that isn't
abbrev pub least_free : Setting → Ledger → Option ℕ
least_free m l = find (is_free l) (range_with_len 0 m.frames)

abbrev pub greatest_used : Setting → Ledger → Option ℕ
greatest_used m l = find (λ f. not (is_free l f)) (reverse (range_with_len 0 m.frames))

-- the second goes over to the first where that is below it
abbrev pub move_down : Option ℕ → Option ℕ → Option Note
move_down None used = None
move_down (Some free) None = None
move_down (Some free) (Some used) = if nat_lt free used then Some (Moved used free) else None

-- the next move, as long as there is one
abbrev pub next_move : Setting → Ledger → Option Note
next_move m l = move_down (least_free m l) (greatest_used m l)

-- one move after the other, until there is none
abbrev pub MovesDown : Setting → Ledger → List Note → Type 0
MovesDown m l [] = next_move m l ≡ None
MovesDown m l (note ∷ notes) = (next_move m l ≡ Some note) × MovesDown m (after_note note l) notes

-- compact: in the end the list of free frames is put in order
abbrev pub Compacts : Setting → Ledger → List Event → Answer → List Row → Type 0
Compacts m l events answer rows = (notes : List Note) × MovesDown m l notes
    × (events ≡ note_events notes ++ FreeSorted ∷ []) × (answer ≡ Done) × (rows ≡ [])

-- ---- what the command leaves

-- each frame in use has a place of its own, where the ledger has all that it had of the frame: its
-- walk, with each seen bit, and its place in the cache, in its list and among the merged ones. The
-- frames in use are the lowest then
pub record IsCompacted (m : Setting) (l l' : Ledger) : Type 0 where
  pub place : ℕ → ℕ
  pub goes : l' ≡ with_places place l
  pub apart : (f g : ℕ) → 0 < uses l f → 0 < uses l g → place f ≡ place g → f ≡ g
  pub walks : (f : ℕ) → 0 < uses l f → walk l' (place f) ≡ walk l f
  pub lowest : (f : ℕ) → f < m.frames
      → not (is_free l' f) ≡ nat_lt f (how_many_frames m (λ g. not (is_free l' g)))
