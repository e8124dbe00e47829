-- Where no note is a load, the memories are as they were.
use Rattle.std.proofs.Common.{◌≡◌, ℕ, ◌+◌, ◌-◌, min, Bool, true, false, cond, ◌&&◌, ◌==◌, List, [], ◌∷◌, ◌++◌, Option, Some, None, is_some, refl, ap, ◌∙◌}
use Rattle.std.specs.List.{list_all}
use Rattle.av_base.specs.Keys.{Key}
use Rattle.av_base.specs.declared.slot.Slot.{Slot}
use Rattle.av_trace.specs.declared.note.Note.TheVariants.{Aged, Copied, Dropped, Failed, Kept, Loaded, Mapped, New, Put, Started, Unmapped, Written, Zeroed}
use Rattle.av_plain.specs.Event.{Event, FlagSet, Forked, EntriesMoved, Noted, TurnedOff, TurnedOn, Used, Zapped, after, after_all, note_events, when}
use Rattle.av_plain.specs.Ledger.{Ledger, Setting, entry, is_orphan}
use Rattle.av_plain.specs.Load.{after_load, after_loads, with_loads}
use Rattle.av_plain.specs.Mremap.{events_to, range_zaps, remap_events}
use Rattle.av_plain.specs.World.{World}
use Rattle.av_plain.specs.Zap.{keys_in, orphan_drop, slot_behind_key, zap_of, zaps_of}
use Rattle.av_plain.proofs.Mremap.{then_target}
use Rattle.av_trace.specs.declared.note.Note.TheVariants.{Joined, Moved, Shared}
use Rattle.av_plain.specs.Event.{FreeSorted}

-- whether an event is no load
abbrev pub loads_nothing : Event → Bool
loads_nothing (Noted (Loaded s f)) = false
loads_nothing event = true

load-nothing : (l : Ledger) (e : Event) (w : World) → loads_nothing e ≡ true → after_load l e w ≡ w
load-nothing l (Noted (Loaded s f)) w h = cc
load-nothing l (Noted (Zeroed q a)) w h = refl
load-nothing l (Noted (New q a f)) w h = refl
load-nothing l (Noted (Copied q a f)) w h = refl
load-nothing l (Noted (Mapped q a f)) w h = refl
load-nothing l (Noted (Put f s)) w h = refl
load-nothing l (Noted (Unmapped f)) w h = refl
load-nothing l (Noted (Started s)) w h = refl
load-nothing l (Noted (Written s)) w h = refl
load-nothing l (Noted (Failed s)) w h = refl
load-nothing l (Noted (Dropped s)) w h = refl
load-nothing l (Noted (Kept f c)) w h = refl
load-nothing l (Noted (Aged f)) w h = refl
load-nothing l (Noted (Shared f)) w h = refl
load-nothing l (Noted (Joined p a f)) w h = refl
load-nothing l (Noted (Moved a b)) w h = refl
load-nothing l (Zapped k) w h = refl
load-nothing l (Used b k) w h = refl
load-nothing l (Forked a b c) w h = refl
load-nothing l (FlagSet a b c d e) w h = refl
load-nothing l (EntriesMoved a b c d) w h = refl
load-nothing l (TurnedOn a b) w h = refl
load-nothing l (TurnedOff a) w h = refl
load-nothing l FreeSorted w h = refl

both : (a b : Bool) → (a && b) ≡ true → (a ≡ true) × (b ≡ true)
both true b h = (refl, h)
both false b h = cc

loads-nothing : (w : World) (l : Ledger) (es : List Event) → list_all loads_nothing es ≡ true → after_loads w l es ≡ w
loads-nothing w l [] h = refl
loads-nothing w l (e ∷ es) h =
    let parts = both (loads_nothing e) (list_all loads_nothing es) h in
    ap (λ w. after_loads w (after l e) es) (load-nothing l e w parts.0) ∙ loads-nothing w (after l e) es parts.1

pub without-loads : (m : Setting) (w : World) (l : Ledger) (es : List Event) → list_all loads_nothing es ≡ true → with_loads m w l es ≡ w
without-loads m w l es h = by (is_some m.headers)
  where
    by : (b : Bool) → cond b w (after_loads w l es) ≡ w
    by true = refl
    by false = loads-nothing w l es h

-- ---- entries that go or move

none-append : (a b : List Event) → list_all loads_nothing a ≡ true → list_all loads_nothing b ≡ true → list_all loads_nothing (a ++ b) ≡ true
none-append [] b h g = g
none-append (e ∷ a) b h g =
    let parts = both (loads_nothing e) (list_all loads_nothing a) h in
    ap (λ c. c && list_all loads_nothing (a ++ b)) parts.0 ∙ none-append a b parts.1 g

pub zaps-load_nothing : (l : Ledger) (ks : List Key) → list_all loads_nothing (zaps_of l ks) ≡ true
zaps-load_nothing l [] = refl
zaps-load_nothing l (k ∷ ks) = none-append (zap_of l k) (zaps_of (after_all l (zap_of l k)) ks)
    (drops (slot_behind_key l (entry l k))) (zaps-load_nothing (after_all l (zap_of l k)) ks)
  where
    now : Ledger
    now = after l (Zapped k)

    dropped : (s : Slot) (b : Bool) → list_all loads_nothing (note_events (when b (Dropped s))) ≡ true
    dropped s true = refl
    dropped s false = refl

    drops : (o : Option Slot) → list_all loads_nothing (orphan_drop now o) ≡ true
    drops None = refl
    drops (Some s) = dropped s (is_orphan now s)

remap-load_nothing : (l : Ledger) (p from n to k : ℕ) → list_all loads_nothing (remap_events l p from n to k) ≡ true
remap-load_nothing l p from n to k = by (to == from)
  where
    target : Ledger
    target = then_target l p from n to k

    by : (b : Bool) → list_all loads_nothing
        (cond b (range_zaps l p (from + k) (n - k))
        ((range_zaps l p to k ++ range_zaps target p (from + k) (n - k)) ++ EntriesMoved p (min n k) from to ∷ [])) ≡ true
    by true = zaps-load_nothing l (keys_in l p (from + k) (n - k))
    by false = none-append (range_zaps l p to k ++ range_zaps target p (from + k) (n - k)) (EntriesMoved p (min n k) from to ∷ [])
        (none-append (range_zaps l p to k) (range_zaps target p (from + k) (n - k))
        (zaps-load_nothing l (keys_in l p to k)) (zaps-load_nothing target (keys_in target p (from + k) (n - k)))) refl

pub events_to-load_nothing : (l : Ledger) (p from n k : ℕ) (to : Option ℕ) → list_all loads_nothing (events_to l p from n to k) ≡ true
events_to-load_nothing l p from n k None = refl
events_to-load_nothing l p from n k (Some to) = remap-load_nothing l p from n to k
