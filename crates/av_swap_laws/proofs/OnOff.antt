-- A swap area is turned on or off.
use Rattle.std.proofs.Common.{◌≡◌, ℕ, Bool, true, false, cond, not, ◌++◌, Option, Some, None, refl, sym, ap, subst, arith, ◌==◌}
use Rattle.std.proofs.lemmas.Bool.Decides.{nat_tests}
use Rattle.std.specs.Ordering.{nat_cmp, eq_by_cmp}
use Rattle.std.specs.Prelude.{IfSome, IsSomeAnd}
use Rattle.std.specs.FinMap.Entries.{find, put, where_key}
use Rattle.av_clusters.specs.Clusters.{Slots}
use Rattle.av_plain.specs.Choice.{AreFresh, Chooses}
use Rattle.av_plain.specs.Device.{Device}
use Rattle.av_plain.specs.Event.{TurnedOff, TurnedOn, after}
use Rattle.av_plain.specs.Ledger.{HasNumbers, Ledger, Setting, SwapArea}
use Rattle.av_plain.specs.Stands.{BytesStand, HeadersStand, LedgerStands, View, free_of}
use Rattle.av_plain.specs.World.{World}
use Rattle.av_plain.proofs.Sound.Swap.Area.{found-off, found-on}
use Rattle.av_swap_laws.specs.Steps.{view_off, view_on}
use Rattle.av_swap_laws.proofs.Free.{frames-none, given-none}

-- ---- on

module _ (m : Setting) (l : Ledger) (k : ℕ) (area : SwapArea) where
  abbrev on : Ledger
  on = after l (TurnedOn k area)

  pub on-stands : (v : View) (made : Slots) → LedgerStands m v l
      → LedgerStands m (view_on k area made v) (after l (TurnedOn k area))
  on-stands v made h = record {
    frames = record { frames = h.frames.frames; maps = h.frames.maps; slots = h.frames.slots; dirty = h.frames.dirty; free = h.frames.free };
    lists = record { active = h.lists.active; inactive = h.lists.inactive };
    tables = record { entries = h.tables.entries; write_bits = h.tables.write_bits };
    swap = record {
      finds = h.swap.finds;
      counts = h.swap.counts;
      flight = h.swap.flight;
      on = ap (put nat_cmp k area) h.swap.on;
    };
  }

  pub on-bytes : (v : View) (made : Slots) (d : Device) (w : World) → BytesStand v d w l
      → BytesStand (view_on k area made v) d w (after l (TurnedOn k area))
  on-bytes v made d w h = record { kept = h.kept; clean = h.clean }

  -- its numbers are those of its header, where that is told
  pub on-headers : IfSome m.headers (λ headers. IsSomeAnd (headers k) (HasNumbers area)) → HeadersStand m l
      → HeadersStand m (after l (TurnedOn k area))
  on-headers right h j = subst (λ o. IfSome o (λ area. IfSome m.headers (λ headers. IsSomeAnd (headers j) (HasNumbers area))))
      (sym (found-on l k area j))
      (by (eq_by_cmp nat_cmp j k) refl)
    where
      number : eq_by_cmp nat_cmp j k ≡ true → j ≡ k
      number e = grind (arith, nat_tests, e)

      by : (b : Bool) → eq_by_cmp nat_cmp j k ≡ b
          → IfSome (cond b (Some area) (find nat_cmp j l.on))
          (λ area. IfSome m.headers (λ headers. IsSomeAnd (headers j) (HasNumbers area)))
      by true e = subst (λ j. IfSome m.headers (λ headers. IsSomeAnd (headers j) (HasNumbers area))) (sym (number e)) right
      by false e = h j

  pub on-chosen : (closing : Option ℕ) (v : View) (made : Slots) → AreFresh m k area made
      → Chooses m closing l (TurnedOn k area) (free_of v) (free_of (view_on k area made v))
  on-chosen closing v made fresh = record {
    frames = (v.free, refl, ap (λ fs. fs ++ v.free) (sym (frames-none m l on (λ g h. h))));
    slots = (
      (view_on k area made v).slots,
      (view_on k area made v).slots,
      (made, fresh, refl),
      refl,
      sym (given-none m l on (view_on k area made v).slots (λ t h. h)),
    );
  }

-- ---- off

module _ (m : Setting) (l : Ledger) (k : ℕ) where
  abbrev off : Ledger
  off = after l (TurnedOff k)

  pub off-stands : (v : View) → LedgerStands m v l → LedgerStands m (view_off k v) (after l (TurnedOff k))
  off-stands v h = record {
    frames = record { frames = h.frames.frames; maps = h.frames.maps; slots = h.frames.slots; dirty = h.frames.dirty; free = h.frames.free };
    lists = record { active = h.lists.active; inactive = h.lists.inactive };
    tables = record { entries = h.tables.entries; write_bits = h.tables.write_bits };
    swap = record {
      finds = h.swap.finds;
      counts = h.swap.counts;
      flight = h.swap.flight;
      on = ap (where_key nat_cmp (λ q. not (q == k))) h.swap.on;
    };
  }

  pub off-bytes : (v : View) (d : Device) (w : World) → BytesStand v d w l → BytesStand (view_off k v) d w (after l (TurnedOff k))
  off-bytes v d w h = record { kept = h.kept; clean = h.clean }

  pub off-headers : HeadersStand m l → HeadersStand m (after l (TurnedOff k))
  off-headers h j = subst (λ o. IfSome o (λ area. IfSome m.headers (λ headers. IsSomeAnd (headers j) (HasNumbers area)))) (sym (found-off l k j))
      (by (not (j == k)))
    where
      by : (b : Bool) → IfSome (cond b (find nat_cmp j l.on) None) (λ area. IfSome m.headers (λ headers. IsSomeAnd (headers j) (HasNumbers area)))
      by true = h j
      by false = tt

  pub off-chosen : (closing : Option ℕ) (v : View) → Chooses m closing l (TurnedOff k) (free_of v) (free_of (view_off k v))
  off-chosen closing v = record {
    frames = (v.free, refl, ap (λ fs. fs ++ v.free) (sym (frames-none m l off (λ g h. h))));
    slots = (
      (view_off k v).slots,
      (view_off k v).slots,
      refl,
      refl,
      sym (given-none m l off (view_off k v).slots (λ t h. h)),
    );
  }
