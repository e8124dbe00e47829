use Rattle.std.proofs.Common.{ℕ, ◌-◌, ◌<◌, ◌||◌, refl, sym, ap, subst, ◌∙◌, arith}
use Rattle.av_base.specs.Words.{is_in, with_at}
use Rattle.av_rmap.specs.Items.{shown as shown_items}
use Rattle.av_plain.proofs.Sound.Counts.{same-itself}
use Rattle.av_frames.specs.Store.{Shown, shown, with_bytes}
use Rattle.av_pagetable.specs.Entries.{entry_at, with_entry}
use Rattle.av_swapcache.specs.Swap.{shown as shown_swap}
use Rattle.av_plain.specs.Stands.{View}
use Rattle.av_mem.specs.Entries.{view_settled, view_taken}
use Rattle.av_mem.specs.Mem.{view, view_of_parts}
use Rattle.av_mem.proofs.EntryComes.{copied-settles, copy-parts, free-still, left-used, page-gets, taken-unlocked}
use Rattle.av_mem.proofs.StayLaws.{counted-anew, less-few, less-same, lock-stays, more-same, spaces-stay}
use Rattle.av_mem.proofs.entries.take_frame_for_copy.Goals as goal

pub take_frame-frame-requires : goal.take_frame-frame-requires
take_frame-frame-requires c =
    record { free = free-still c.args.mem.now c.map_down.new.self c.args.from c.requires.free c.requires.mapped c.map_down.ensures }

pub settle-requires-clause-in_use : goal.settle-requires-clause-in_use
settle-requires-clause-in_use c =
    let old = c.args.mem.now in
    let from = c.args.from in
    let f = c.take_frame-frame.result in
    let t = c.take_frame-frame.ensures.taken in
    ap (λ (s : Shown). is_in from s.free) c.copy.ensures ∙ ap (λ (v : View). is_in from v.free) t.view
    ∙ left-used old f from t.left c.requires.free c.requires.mapped (sym (ap (λ (s : Shown). s.free) c.map_down.ensures) ∙ t.first)

pub returns-clause-taken : goal.returns-clause-taken
returns-clause-taken c =
    let old = c.args.mem.now in
    let from = c.args.from in
    let f = c.take_frame-frame.result in
    let t = c.take_frame-frame.ensures.taken in
    let mid = c.take_frame-frame.new.mem in
    let key = c.args.key in
    let left = t.left in
    let v = record (view old) { maps = with_at from ((view old).maps from - 1) (view old).maps } in
    let first = sym (ap (λ (s : Shown). s.free) c.map_down.ensures) ∙ t.first in
    let taken = t.view ∙ ap (λ (s : Shown). view_taken f left c.args.home
    (view_of_parts s old.lists (shown_items old.items) (view old).table old.spaces old.anons (shown_swap old.swap))) c.map_down.ensures in
    record {
      left = left;
      first = first;
      view = c.lock_up.ensures.view ∙ c.lock_down.ensures.view ∙ c.settle.ensures.settled ∙ ap (view_settled from)
          (page-gets mid (record mid { frames = c.copy.new.self; tables = c.change.new.self }) v key.0 key.1 f left ((view old).bytes from)
          c.args.home taken
          (c.change.ensures.sets ∙ ap (λ e. with_entry key.0 key.1 e (entry_at mid.tables)) c.accessed_entry.ensures)
          (c.copy.ensures ∙ ap (λ (v : View). with_bytes f (v.bytes from) (shown mid.frames)) taken)
          refl refl refl refl refl)
          ∙ copied-settles (view old) key.0 key.1 f from left c.args.home c.requires.mapped
          (c.requires.free.unmapped f (ap (is_in f) first ∙ ap (λ b. b || is_in f left) (same-itself f)));
    }

pub lock_down-requires-clause-in_range : goal.lock_down-requires-clause-in_range
lock_down-requires-clause-in_range c =
    let parts = copy-parts c.args.mem.now c.take_frame-frame.new.mem c.map_down.new.self c.copy.new.self c.change.new.self c.settle.new.mem _ _
    c.map_down.ensures c.take_frame-frame.ensures.parts _ _ c.copy.ensures c.change.ensures.processes c.settle.ensures.rest.parts in
    subst (λ n. c.args.from < n) (sym parts.count) c.requires.in_range

pub lock_down-requires-clause-some : goal.lock_down-requires-clause-some
lock_down-requires-clause-some c = λ locked.
    let parts = copy-parts c.args.mem.now c.take_frame-frame.new.mem c.map_down.new.self c.copy.new.self c.change.new.self c.settle.new.mem _ _
    c.map_down.ensures c.take_frame-frame.ensures.parts _ _ c.copy.ensures c.change.ensures.processes c.settle.ensures.rest.parts in
    subst (λ (locks : ℕ → ℕ). 0 < locks c.args.from) (sym parts.locks)
    (c.requires.locked (sym (lock-stays c.settle.new.mem c.args.mem.now c.args.key (spaces-stay parts)) ∙ locked))

pub lock_up-requires-clause-in_range : goal.lock_up-requires-clause-in_range
lock_up-requires-clause-in_range c =
    let parts = copy-parts c.args.mem.now c.take_frame-frame.new.mem c.map_down.new.self c.copy.new.self c.change.new.self c.settle.new.mem _ _
    c.map_down.ensures c.take_frame-frame.ensures.parts _ _ c.copy.ensures c.change.ensures.processes c.settle.ensures.rest.parts in
    subst (λ n. c.take_frame-frame.result < n)
    (ap (λ (s : Shown). s.count) c.map_down.ensures ∙ sym parts.count
    ∙ sym (ap (λ (v : View). v.frames) c.lock_down.ensures.view)) c.take_frame-frame.ensures.in_range

pub lock_up-requires-clause-room : goal.lock_up-requires-clause-room
lock_up-requires-clause-room c =
    let old = c.args.mem.now in
    let f = c.take_frame-frame.result in
    let t = c.take_frame-frame.ensures.taken in
    let parts = copy-parts old c.take_frame-frame.new.mem c.map_down.new.self c.copy.new.self c.change.new.self c.settle.new.mem _ _
    c.map_down.ensures c.take_frame-frame.ensures.parts _ _ c.copy.ensures c.change.ensures.processes c.settle.ensures.rest.parts in
    let none = taken-unlocked old f c.requires.free c.requires.few t.left (sym (ap (λ (s : Shown). s.free) c.map_down.ensures) ∙ t.first) in
    let less = ap (λ (locks : ℕ → ℕ). locks f) (c.lock_down.ensures.locks ∙ less-same c.settle.new.mem old c.args.key c.args.from (spaces-stay parts) parts.locks) in
    let few = less-few old c.args.key c.args.from f in
    omega (arith, none, less, few)

pub returns-clause-parts : goal.returns-clause-parts
returns-clause-parts c =
    let key = c.args.key in
    let parts = copy-parts c.args.mem.now c.take_frame-frame.new.mem c.map_down.new.self c.copy.new.self c.change.new.self c.settle.new.mem _ _
    c.map_down.ensures c.take_frame-frame.ensures.parts _ _ c.copy.ensures c.change.ensures.processes c.settle.ensures.rest.parts in
    let less = c.lock_down.ensures.locks ∙ less-same c.settle.new.mem c.args.mem.now key c.args.from (spaces-stay parts) parts.locks in
    let down = counted-anew parts c.lock_down.ensures.rest c.lock_down.ensures.view less in
    counted-anew down c.lock_up.ensures.rest c.lock_up.ensures.view
    (c.lock_up.ensures.locks ∙ more-same c.lock_down.new.self c.args.mem.now key c.take_frame-frame.result (spaces-stay down) less)
