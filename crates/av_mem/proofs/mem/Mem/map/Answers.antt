use Rattle.std.proofs.Common.{ℕ, ◌<◌, refl, sym, ap, subst, ◌∙◌, arith}
use Rattle.av_frames.specs.Store.{Shown}
use Rattle.av_swapcache.specs.Swap.{Shown as ShownSwap}
use Rattle.av_mem.proofs.StayLaws.{counted-anew, more-same}
use Rattle.av_mem.specs.declared.mem.Mem.{Mem}
use Rattle.av_mem.proofs.LoadLaws.{mapped-view}
use Rattle.av_mem.proofs.mem.Mem.map.Goals as goal

pub returns-clause-mapped : goal.returns-clause-mapped
returns-clause-mapped c =
    let old : Mem = c.args.self.now in
    let new : Mem = record old { frames = c.map_up.new.self; tables = c.change.new.self; swap = c.entry_down.new.self } in
    c.lock_up.ensures.view ∙ mapped-view old new c.args.process c.args.page c.args.frame c.args.slot refl refl refl refl c.requires.cached c.change.ensures.sets c.map_up.ensures
    c.entry_down.ensures

pub lock_up-requires-clause-in_range : goal.lock_up-requires-clause-in_range
lock_up-requires-clause-in_range c = subst (λ n. c.args.frame < n) (sym (ap (λ (s : Shown). s.count) c.map_up.ensures)) c.requires.in_range

pub lock_up-requires-clause-room : goal.lock_up-requires-clause-room
lock_up-requires-clause-room c =
    let same = ap (λ (s : Shown). s.locks c.args.frame) c.map_up.ensures in
    let most = c.requires.locks c.args.frame in
    let few = c.requires.few in
    omega (arith, same, most, few)

pub returns-clause-parts : goal.returns-clause-parts
returns-clause-parts c =
    let old : Mem = c.args.self.now in
    let made : Mem = record old { frames = c.map_up.new.self; tables = c.change.new.self; swap = c.entry_down.new.self } in
    let locks = ap (λ (s : Shown). s.locks) c.map_up.ensures in
    let kept = c.entry_down.ensures in
    counted-anew (record {
      stay = refl;
      processes = c.change.ensures.processes;
      count = ap (λ (s : Shown). s.count) c.map_up.ensures;
      lists = refl;
      items = refl;
      swap = record {
        frames = ap (λ (h : ShownSwap). h.frames) kept;
        on = ap (λ (h : ShownSwap). h.on) kept;
        bad = ap (λ (h : ShownSwap). h.bad) kept;
        closing = ap (λ (h : ShownSwap). h.closing) kept;
        priority = ap (λ (h : ShownSwap). h.priority) kept;
      };
      locks = locks;
    }) c.lock_up.ensures.rest c.lock_up.ensures.view (c.lock_up.ensures.locks ∙ more-same made old (c.args.process, c.args.page) c.args.frame refl locks)
