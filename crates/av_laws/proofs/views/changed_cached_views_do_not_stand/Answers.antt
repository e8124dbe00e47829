use Rattle.std.specs.Prelude.{◌≡◌, ℕ, is_some, length, refl}
use Rattle.std.proofs.Common.{arith, sym, ap}
use Rattle.av_clusters.specs.Clusters.{Slots}
use Rattle.av_plain.specs.Choice.{Free}
use Rattle.av_plain.proofs.NoDevice.{never}
use Rattle.av_laws.specs.Examples.{slot}
use Rattle.av_laws.proofs.views.changed_cached_views_do_not_stand.Goals as goal

pub returns-clause-not_written : goal.returns-clause-not_written
returns-clause-not_written c h = let e : ◌≡◌ {A = ℕ} 9 7 = h.parts.bytes.clean (slot 1) refl refl 0
    (omega arith) in omega (arith, e)

pub returns-clause-not_dirty : goal.returns-clause-not_dirty
returns-clause-not_dirty c h = never (h.parts.ledger.frames.dirty 0)

pub returns-clause-no_slot : goal.returns-clause-no_slot
returns-clause-no_slot c h = never (ap is_some (h.parts.ledger.frames.slots 0))

pub returns-clause-not_found : goal.returns-clause-not_found
returns-clause-not_found c h = never (ap is_some (h.parts.ledger.swap.finds (slot 1)))

pub returns-clause-not_named : goal.returns-clause-not_named
returns-clause-not_named c h = let e : ◌≡◌ {A = ℕ} 0 2 = h.parts.ledger.swap.counts (slot 1) in omega (arith, e)

pub returns-clause-given_back : goal.returns-clause-given_back
returns-clause-given_back c h = let e : ◌≡◌ {A = ℕ} 0 2 = ap (λ (f : Free). (f.slots 0).cursor) h.free in omega
    (arith, e)

pub returns-clause-none_given : goal.returns-clause-none_given
returns-clause-none_given c h = never (h.lists.slots.taken (slot 1))

pub returns-clause-another_given : goal.returns-clause-another_given
returns-clause-another_given c h = never (sym (h.lists.slots.taken (slot 2)))

pub returns-clause-left_over : goal.returns-clause-left_over
returns-clause-left_over c h = let e : ◌≡◌ {A = ℕ} 4 0 = ap (λ (s : Slots). length s.pages) (h.lists.slots.off 1 refl) in omega (arith, e)

pub returns-clause-other_header : goal.returns-clause-other_header
returns-clause-other_header c h = let e : ◌≡◌ {A = ℕ} 6 7 = (h.parts.headers 0).slots in omega (arith, e)
