-- The names of frames and of slots.
use Rattle.std.specs.Prelude.{◌≡◌, ℕ}
use Rattle.av_base.specs.declared.slot.Slot.{Slot}

-- a frame's: its number
abbrev pub frame_name : ℕ → ℕ × ℕ
frame_name frame = (0, frame)

-- which no other has
pub frames_apart : (x y : ℕ) → frame_name x ≡ frame_name y → x ≡ y
frames_apart x y same = λ i. (same i).1

-- a slot's: its area and page
abbrev pub slot_name : Slot → ℕ × ℕ
slot_name slot = (slot.area, slot.page)

-- which no other has
pub slots_apart : (x y : Slot) → slot_name x ≡ slot_name y → x ≡ y
slots_apart x y same = λ i. record { area = (same i).0; page = (same i).1 }
