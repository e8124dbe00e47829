use Rattle.std.proofs.Common.{◌≡◌, ◌<◌, false, true, None, is_some, refl, sym, ap, subst, ◌∙◌}
use Rattle.av_plain.specs.Areas.{rmap_after_all}
use Rattle.av_plain.specs.Device.{Calls, as_told, device_by, seen_by}
use Rattle.av_plain.specs.Event.{after_all, after_notes, note_events}
use Rattle.av_plain.specs.Fault.{asks_copy}
use Rattle.av_plain.specs.Ledger.{slot_of}
use Rattle.av_plain.specs.Load.{with_loads}
use Rattle.av_plain.proofs.Access.{note_events-all}
use Rattle.av_mem.specs.Mem.{setting_by}
use Rattle.av_mem.proofs.Between.{between-some}
use Rattle.av_fault.proofs.DropLaws.{dropped-alone}
use Rattle.av_fault.proofs.MadeLaws.{used-made, write-needs}
use Rattle.av_fault.proofs.SharedLaws.{shared-in}
use Rattle.av_fault.proofs.UsingLaws.{entry-here, here-below, here-maps, own-here}
use Rattle.av_fault.proofs.using.write_frame.Goals as goal
use Rattle.av_fault.proofs.using.write_frame.Goals.{else-not-settled-via-then-not-settled+else-asks_copy, else-not-settled-via-else-not-settled}

pub asks_copy-requires-clause-itemed : goal.asks_copy-requires-clause-itemed
asks_copy-requires-clause-itemed g c =
    let b = between-some (g.D.SwapDev.sizes c.args.dev.now) c.args.mem.now
    (g.D.SwapDev.failures c.args.dev.now, g.D.SwapDev.history c.args.dev.now) c.requires.between in
    b.3.serves.items

pub asks_copy-requires-clause-in_range : goal.asks_copy-requires-clause-in_range
asks_copy-requires-clause-in_range g c =
    let sizes = g.D.SwapDev.sizes c.args.dev.now in
    let calls : Calls = (g.D.SwapDev.failures c.args.dev.now, g.D.SwapDev.history c.args.dev.now) in
    let old = c.args.mem.now in
    let d = device_by sizes None calls in
    let b = between-some sizes old calls c.requires.between in
    let here = c.requires.here in
    here-below d old b.0 b.1 b.2 b.3 c.args.key c.args.frame here.write here.seen here.there

pub drop_unneeded-requires-clause-in_use : goal.drop_unneeded-requires-clause-in_use
drop_unneeded-requires-clause-in_use g c =
    let sizes = g.D.SwapDev.sizes c.args.dev.now in
    let calls : Calls = (g.D.SwapDev.failures c.args.dev.now, g.D.SwapDev.history c.args.dev.now) in
    let old = c.args.mem.now in
    let d = device_by sizes None calls in
    let b = between-some sizes old calls c.requires.between in
    let here = c.requires.here in
    here-maps d old b.0 b.1 b.2 b.3 c.args.key c.args.frame here.write here.seen here.there

pub write_own-requires-clause-here : goal.write_own-requires-clause-here
write_own-requires-clause-here g c =
    let here = c.requires.here in
    record {
      write = here.write;
      seen = here.seen;
      there = ap (λ at. at c.args.key.0 c.args.key.1) c.drop_unneeded.ensures.entries ∙ here.there;
      marked = here.marked;
    }

pub write_own-requires-clause-in_range : goal.write_own-requires-clause-in_range
write_own-requires-clause-in_range g c =
    let sizes = g.D.SwapDev.sizes c.args.dev.now in
    let calls : Calls = (g.D.SwapDev.failures c.args.dev.now, g.D.SwapDev.history c.args.dev.now) in
    let old = c.args.mem.now in
    let d = device_by sizes None calls in
    let b = between-some sizes old calls c.requires.between in
    let here = c.requires.here in
    subst (λ n. c.args.frame < n) (sym c.drop_unneeded.ensures.parts.count)
    (here-below d old b.0 b.1 b.2 b.3 c.args.key c.args.frame here.write here.seen here.there)

pub returns-clause-made : goal.returns-clause-made
returns-clause-made g c = λ told w r l h came.
    let old = c.args.mem.now in
    let mid = c.drop_unneeded.new.mem in
    let d = as_told told (seen_by g.D.SwapDev.sizes g.D.SwapDev.pages g.D.SwapDev.failures g.D.SwapDev.history c.args.dev.now) in
    let m = setting_by d old in
    let here = c.requires.here in
    let f = c.args.frame in
    let key = c.args.key in
    let at = entry-here d old w r l h key f here.write here.seen here.there in
    let x = c.in_ok-cached.ensures.dropped d w r l h in
    let events = note_events x.added in
    let alone : asks_copy l f ≡ false = elim c.else-not-settled.branch [
      | else-not-settled-via-then-not-settled+else-asks_copy z ↦ sym (shared-in d old w r l h f) ∙ sym z.asks_copy.ensures ∙ z.if-asks_copy.false
      | else-not-settled-via-else-not-settled z ↦ own-here d old w r l h key f here.write here.seen here.there (here.marked z.if-not-settled.false).0
    ] in
    let alone_then : asks_copy (after_all l events) f ≡ false = ap (λ y. asks_copy y f) (note_events-all l x.added)
    ∙ subst (λ ns. asks_copy (after_notes l ns) f ≡ false) (sym x.drops) (dropped-alone m l f h.sound alone) in
    used-made d old mid c.write_own.new.mem w r l key f here.seen true came c.args.notes.now c.drop_unneeded.new.notes x.added at x.drops
    x.done x.notes (write-needs l key f here.seen at alone)
    (c.write_own.ensures.written d (with_loads m w l events) (rmap_after_all l events r) (after_all l events) x.done.between alone_then
    (x.cached ∙ ap (λ y. is_some (slot_of y f)) (sym (note_events-all l x.added))))
    true c.write_own.ensures.here (λ is. refl)
