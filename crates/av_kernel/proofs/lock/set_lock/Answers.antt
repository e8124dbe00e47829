use Rattle.std.proofs.Common.{◌≡◌, ℕ, ◌+◌, ◌-◌, ◌≤◌, ap, arith, refl, subst, sym}
use Rattle.std.specs.List.{range_with_len}
use Rattle.std.proofs.lemmas.List.FromFn.{length-range_with_len}
use Rattle.av_base.proofs.Counted.{count-most}
use Rattle.av_plain.specs.Stands.{View}
use Rattle.av_spaces.specs.Kin.{InOrder}
use Rattle.av_spaces.specs.Spaces.{AllRising}
use Rattle.av_mem.specs.declared.mem.Mem.{Mem}
use Rattle.av_mem.specs.Locked.{is_lock_at}
use Rattle.av_mem.specs.Mem.{view}
use Rattle.av_kernel.proofs.LockedRanges.{counts-few, range-counted, sets-lock, steady-within, within-by}
use Rattle.av_kernel.proofs.lock.set_lock.Goals as goal

pub unlock_range-requires-clause-within : goal.unlock_range-requires-clause-within
unlock_range-requires-clause-within c = let s = c.requires.steady in steady-within c.args.mem.now s.1 s.2

pub unlock_range-requires-clause-some : goal.unlock_range-requires-clause-some
unlock_range-requires-clause-some c f =
    let s = c.requires.steady in
    let a = c.args in
    range-counted a.mem.now s.1 s.2 a.process a.page (a.page + a.pages - a.page) f

pub lock_range-requires-clause-within : goal.lock_range-requires-clause-within
lock_range-requires-clause-within c =
    let s = c.requires.steady in
    let off = c.unlock_range.new.mem in
    let seen = c.unlock_range.ensures.view in
    within-by (view c.args.mem.now) (view (record off { spaces = c.modify.new.self; anons = c.modify.new.anons }))
    (ap (λ (v : View). v.frames) seen) (ap (λ (v : View). v.table) seen) (steady-within c.args.mem.now s.1 s.2)

pub lock_range-requires-clause-room : goal.lock_range-requires-clause-room
lock_range-requires-clause-room c f =
    let a = c.args in
    let s = c.requires.steady in
    let off = c.unlock_range.new.mem in
    let n : ℕ = a.page + a.pages - a.page in
    let most = count-most (is_lock_at (record off { spaces = c.modify.new.self; anons = c.modify.new.anons }) f a.process) (range_with_len a.page n) in
    let long = length-range_with_len a.page n in
    let rising = subst (λ (k : Mem). AllRising k.spaces.processes) c.unlock_range.ensures.rest c.in_ok-reached.ensures.ok.were_rising in
    let few = counts-few a.mem.now s.1 s.2 rising f in
    let down = c.unlock_range.ensures.locks f in
    let low = c.requires.low in
    omega (arith, most, long, few, down, low)

pub returns-clause-sets : goal.returns-clause-sets
returns-clause-sets c =
    let a = c.args in
    let off = c.unlock_range.ensures in
    let on = c.lock_range.ensures in
    let done = c.in_ok-reached.ensures in
    sets-lock a.set a.mem.now c.unlock_range.new.mem c.lock_range.new.mem c.modify.new.self c.modify.new.anons a.process a.page a.pages
    c.in_ok-reached.reached (record { seen = off.view; rest = off.rest }) (record { seen = on.view; rest = on.rest }) off.locks on.locks
    done.reached done.ok done.mapping done.anons
