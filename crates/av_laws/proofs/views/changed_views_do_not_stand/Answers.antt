use Rattle.std.specs.Prelude.{◌≡◌, ℕ, Bool, true, false, List, [], ◌∷◌, Option, Some, None, is_some, length, refl, unwrap_or}
use Rattle.std.proofs.Common.{arith, sym, ap, ◌≤◌}
use Rattle.av_base.specs.declared.flags.Flags.{Flags}
use Rattle.av_vma.specs.declared.area.Area.{Area}
use Rattle.av_plain.specs.Choice.{Free, ListsFree}
use Rattle.av_plain.specs.Ledger.{InFrame}
use Rattle.av_plain.proofs.NoDevice.{never}
use Rattle.av_laws.specs.Examples.{machine}
use Rattle.av_laws.specs.Views.{NotFree, fork_state}
use Rattle.av_plain.specs.Device.{no_device}
use Rattle.av_laws.proofs.FirstView.{all_free, stands_first}
use Rattle.av_laws.proofs.views.changed_views_do_not_stand.Goals as goal

pid_of : Option Area → ℕ
pid_of None = 0
pid_of (Some area) = area.pid

offset_of : Option Area → ℕ
offset_of None = 0
offset_of (Some area) = area.pgoff

-- a list that is not the one of the ledger
not_free : (frames : List ℕ) → (ListsFree (machine 4) fork_state.ledger frames → ⊥) → NotFree frames
not_free frames differ h = differ h.lists.frames

pub returns-clause-other_byte : goal.returns-clause-other_byte
returns-clause-other_byte c h = let e : ◌≡◌ {A = ℕ} 0 7 = h.parts.bytes.kept 1 0x7fffffffe 0 (omega arith) in omega (arith, e)

pub returns-clause-write_bit : goal.returns-clause-write_bit
returns-clause-write_bit c h =
    never (sym (h.parts.ledger.tables.write_bits 1 0x7fffffffe (record { entry = InFrame 0 true; write = true }) 0 refl refl refl))

pub returns-clause-no_entry : goal.returns-clause-no_entry
returns-clause-no_entry c h = never (ap is_some (h.parts.ledger.tables.entries 1 0x7fffffffe))

pub returns-clause-other_count : goal.returns-clause-other_count
returns-clause-other_count c h = let e : ◌≡◌ {A = ℕ} 1 2 = h.parts.ledger.frames.maps 0 in omega (arith, e)

pub returns-clause-free_twice : goal.returns-clause-free_twice
returns-clause-free_twice c = not_free (1 ∷ 2 ∷ 3 ∷ 3 ∷ []) (λ h. let e : ◌≡◌ {A = ℕ} 2 1 = h 3 in omega (arith, e))

pub returns-clause-no_such_frame : goal.returns-clause-no_such_frame
returns-clause-no_such_frame c = not_free (1 ∷ 2 ∷ 3 ∷ 4 ∷ []) (λ h. let e : ◌≡◌ {A = ℕ} 1 0 = h 4 in omega (arith, e))

pub returns-clause-slots_of_none : goal.returns-clause-slots_of_none
returns-clause-slots_of_none c h = let e : ◌≡◌ {A = ℕ} 8 0 = ap (λ (f : Free). length (f.slots 0).pages)
    h.free in omega (arith, e)

pub returns-clause-area_too_long : goal.returns-clause-area_too_long
returns-clause-area_too_long c h = never (sym (ap is_some (h.parts.areas.covers 1 0x7fffffffd)))

pub returns-clause-area_twice : goal.returns-clause-area_twice
returns-clause-area_twice c h = let e : 0x7ffffffff ≤ 0x7fffffffe = (h.parts.areas.apart 1).1 in omega (arith, e)

pub returns-clause-area_of_another : goal.returns-clause-area_of_another
unfolding pid_of
returns-clause-area_of_another c h = let e : ◌≡◌ {A = ℕ} 1 2 = ap pid_of (h.areas 2 0x7fffffffe) in omega
    (arith, e)

pub returns-clause-other_offset : goal.returns-clause-other_offset
unfolding offset_of
returns-clause-other_offset c h = let e : ◌≡◌ {A = ℕ} 0 0x7fffffffe = ap offset_of
    (h.areas 1 0x7fffffffe) in omega (arith, e)

pub returns-clause-areas_of_nobody : goal.returns-clause-areas_of_nobody
returns-clause-areas_of_nobody c h = never (sym (h.parts.areas.alive 3))

-- whether a page is locked
is_set : Option Flags → Bool
is_set None = false
is_set (Some all) = all.locked

pub returns-clause-other_flags : goal.returns-clause-other_flags
unfolding is_set
returns-clause-other_flags c h = never (sym (ap is_set (h.parts.areas.flags 1 0x7fffffffe)))

pub returns-clause-first : goal.returns-clause-first
returns-clause-first c =
    stands_first no_device no_device 4 [] (record { sizes = refl; headers = refl })
    (record { frames = refl; maps = λ f. refl; slots = λ f. refl; dirty = λ f. tt; free = all_free })
    (record { active = refl; inactive = refl })

pub returns-clause-more_frames : goal.returns-clause-more_frames
returns-clause-more_frames c h = let n : ◌≡◌ {A = ℕ} 5 4 = h.parts.ledger.frames.frames in omega (arith, n)

pub returns-clause-made_inactive : goal.returns-clause-made_inactive
returns-clause-made_inactive c h = let n : ◌≡◌ {A = ℕ} 1 0 = ap length h.parts.ledger.lists.inactive in omega (arith, n)

pub returns-clause-other_sizes : goal.returns-clause-other_sizes
returns-clause-other_sizes c h =
    let n : ◌≡◌ {A = ℕ} 8 9 = ap (λ (sizes : ℕ → Option ℕ). unwrap_or (sizes 0) 0) h.over.sizes in omega (arith, n)

pub returns-clause-other_headers : goal.returns-clause-other_headers
returns-clause-other_headers c h = never (sym (ap is_some h.over.headers))
