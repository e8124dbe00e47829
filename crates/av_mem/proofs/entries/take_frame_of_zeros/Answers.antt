use Rattle.std.proofs.Common.{◌≡◌, ℕ, refl, ap, ◌∙◌, arith, subst, sym, ◌<◌, ◌^◌, ◌-◌}
use Rattle.av_frames.specs.Store.{Shown, shown}
use Rattle.av_pagetable.specs.Entries.{entry_at, with_entry}
use Rattle.av_mem.specs.Mem.{locks_of, view}
use Rattle.av_mem.specs.declared.mem.Mem.{Mem}
use Rattle.av_mem.proofs.EntryComes.{page-gets, taken-unlocked}
use Rattle.av_mem.proofs.StayLaws.{counted-anew, more-same, parts-then, spaces-stay}
use Rattle.av_mem.specs.Steps.{KeepsParts}
use Rattle.av_mem.proofs.entries.take_frame_of_zeros.Goals as goal

pub lock_up-requires-clause-in_range : goal.lock_up-requires-clause-in_range
lock_up-requires-clause-in_range c = subst (λ n. c.take_frame-frame.result < n)
    (sym c.take_frame-frame.ensures.parts.count ∙ sym (ap (λ (s : Shown). s.count) c.zero.ensures)) c.take_frame-frame.ensures.in_range

pub lock_up-requires-clause-room : goal.lock_up-requires-clause-room
lock_up-requires-clause-room c =
    let f = c.take_frame-frame.result in
    let old = c.args.mem.now in
    let same = ap (λ (s : Shown). s.locks f) c.zero.ensures ∙ ap (λ (locks : ℕ → ℕ). locks f) c.take_frame-frame.ensures.parts.locks in
    let none = taken-unlocked old f c.requires.free c.requires.few c.take_frame-frame.ensures.taken.left c.take_frame-frame.ensures.taken.first in
    omega (arith, same, none)

pub returns-clause-taken : goal.returns-clause-taken
returns-clause-taken c =
    let f = c.take_frame-frame.result in
    let t = c.take_frame-frame.ensures.taken in
    let mid = c.take_frame-frame.new.mem in
    let key = c.args.key in
    record {
      left = t.left;
      first = t.first;
      view = c.lock_up.ensures.view
          ∙ page-gets mid (record mid { frames = c.zero.new.self; tables = c.set.new.self }) (view c.args.mem.now) key.0 key.1 f t.left (λ i. 0)
          c.args.home t.view
          (c.in_ok-set.ensures.sets ∙ ap (λ e. with_entry key.0 key.1 e (entry_at mid.tables)) c.accessed_entry.ensures)
          c.zero.ensures refl refl refl refl refl;
    }

pub returns-clause-parts : goal.returns-clause-parts
returns-clause-parts c =
    let old = c.args.mem.now in
    let mid = c.take_frame-frame.new.mem in
    let made : Mem = record mid { frames = c.zero.new.self; tables = c.set.new.self } in
    let parts : KeepsParts old made = parts-then c.take_frame-frame.ensures.parts (record {
      stay = refl;
      processes = c.set.ensures.processes;
      count = ap (λ (s : Shown). s.count) c.zero.ensures;
      lists = refl;
      items = refl;
      swap = record { frames = refl; on = refl; bad = refl; closing = refl; priority = refl };
      locks = ap (λ (s : Shown). s.locks) c.zero.ensures;
    }) in
    counted-anew parts c.lock_up.ensures.rest c.lock_up.ensures.view
    (c.lock_up.ensures.locks ∙ more-same made old c.args.key c.take_frame-frame.result (spaces-stay parts) parts.locks)
