-- Which frames are those of locked pages, while pages come back. A load makes bytes unclaimed, and leaves flags as they are.
use Rattle.std.proofs.Common.{◌≡◌, false, List, Option, Some, None, option_map, refl, sym, ap, subst, ◌∙◌}
use Rattle.std.specs.List.{list_any}
use Rattle.std.specs.Option.{option_map_or}
use Rattle.av_base.specs.Keys.{Key}
use Rattle.av_base.specs.declared.flags.Flags.{Flags}
use Rattle.av_trace.specs.declared.note.Note.{Note}
use Rattle.av_plain.specs.Areas.{Rmap}
use Rattle.av_plain.specs.Event.{Event, after_notes, note_events}
use Rattle.av_plain.specs.Fault.{is_locked}
use Rattle.av_plain.specs.Ledger.{Ledger, Setting, walk}
use Rattle.av_plain.specs.Load.{with_loads}
use Rattle.av_plain.specs.World.{Page, World, is_locked_page, pages}
use Rattle.av_plain.proofs.Sound.{flags-loads}
use Rattle.av_plain.specs.Sound.{IsSoundBut}
use Rattle.av_evict.specs.System.{Goes, SystemView, Tells, any_slot}
use Rattle.av_evict.proofs.SystemLaws.{loose}

by-flags : (x y : Option Page) → option_map (λ (p : Page). p.flags) x ≡ option_map (λ (p : Page). p.flags) y → is_locked_page x ≡ is_locked_page y
by-flags None None e = refl
by-flags None (Some y) e = cc
by-flags (Some x) None e = cc
by-flags (Some x) (Some y) e = ap (λ (o : Option Flags). option_map_or (λ (f : Flags). f.locked) o false) e

pub locked-loads : (m : Setting) (w : World) (l : Ledger) (es : List Event) (now : Ledger) → is_locked (with_loads m w l es) now ≡ is_locked w now
locked-loads m w l es now = λ i f. list_any (λ (k : Key). by-flags (pages (with_loads m w l es) k.0 k.1) (pages w k.0 k.1)
    (flags-loads m w l es k.0 k.1) i) (walk now f)

-- in all memories that a system stands for, the frames of locked pages are those that it shows
abbrev pub TellsLocked : SystemView → Type 0
TellsLocked k = Tells k (λ l. (w : World) (r : Rmap) → k.claims w r l → k.locked ≡ is_locked w l)

-- they are so, after notes, in the memories that it stood for before them
pub locked-then : (a b : SystemView) (l : Ledger) (ns : List Note) → TellsLocked b → Goes a b l ns → (w : World) (r : Rmap) → a.claims w r l →
    b.locked ≡ is_locked w (after_notes l ns)
locked-then a b l ns tells goes w r claimed =
    tells (after_notes l ns) (subst (λ m. IsSoundBut m any_slot (after_notes l ns)) (sym goes.happened.stays.setting) (loose a.setting _ _ goes.sound))
    goes.happened.stands _ _ (goes.happened.claims w r claimed)
    ∙ locked-loads a.setting w l (note_events ns) (after_notes l ns)
