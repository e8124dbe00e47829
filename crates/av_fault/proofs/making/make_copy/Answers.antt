use Rattle.std.proofs.Common.{◌<◌, false, None, Some, refl, sym, subst, ◌∙◌}
use Rattle.av_plain.specs.Device.{Calls, as_told, device_by, seen_by}
use Rattle.av_plain.specs.Fault.{CopyOnWrite}
use Rattle.av_fault.specs.Seek.{HasSought}
use Rattle.av_fault.specs.declared.seek.Got.TheVariants.{Frame, Out}
use Rattle.av_mem.proofs.Between.{between-some}
use Rattle.av_mem.proofs.LockedLaws.{locks-are-few}
use Rattle.av_fault.proofs.CopyLaws.{copy-locked, copy-made, copy-mapped, copy-names, copy-needs}
use Rattle.av_fault.proofs.SharedLaws.{shared-in}
use Rattle.av_fault.proofs.SoughtLaws.{free-sought}
use Rattle.av_fault.proofs.TakenLaws.{out-made}
use Rattle.av_fault.proofs.UsingLaws.{here-below}
use Rattle.av_fault.proofs.making.make_copy.Goals as goal

pub returns-in-Out-clause-made : goal.returns-in-Out-clause-made
returns-in-Out-clause-made g c = λ told w r l h came.
    let d = as_told told (seen_by g.D.SwapDev.sizes g.D.SwapDev.pages g.D.SwapDev.failures g.D.SwapDev.history c.args.dev.now) in
    let d' = as_told told (seen_by g.D.SwapDev.sizes g.D.SwapDev.pages g.D.SwapDev.failures g.D.SwapDev.history c.seek.new.dev) in
    let old = c.args.mem.now in
    let shared = sym (shared-in d old w r l h c.args.from) ∙ c.requires.shared in
    let f = c.args.from in
    let got = Out c.in-Out.out in
    let s = subst (HasSought d d' old c.seek.new.mem w r l (Some f) c.args.notes.now c.seek.new.notes) c.in-Out.is
    (c.in_ok-out.ensures.sought told w r l h) in
    out-made d d' old c.seek.new.mem w r l (Some f) c.args.notes.now c.seek.new.notes c.args.key came c.in-Out.out s (CopyOnWrite f)
    (copy-needs d d' old c.seek.new.mem w r l c.args.notes.now c.seek.new.notes c.args.key f got h s false c.requires.here shared) refl refl

pub take_frame_for_copy-frame-requires-clause-there : goal.take_frame_for_copy-frame-requires-clause-there
take_frame_for_copy-frame-requires-clause-there g c =
    let sizes = g.D.SwapDev.sizes c.args.dev.now in
    let calls : Calls = (g.D.SwapDev.failures c.args.dev.now, g.D.SwapDev.history c.args.dev.now) in
    let old = c.args.mem.now in
    let d = device_by sizes None calls in
    let d' = device_by (g.D.SwapDev.sizes c.seek.new.dev) None (g.D.SwapDev.failures c.seek.new.dev, g.D.SwapDev.history c.seek.new.dev) in
    let b = between-some sizes old calls c.requires.between in
    let f = c.args.from in
    let s = subst (HasSought d d' old c.seek.new.mem b.0 b.1 b.2 (Some c.args.from) c.args.notes.now c.seek.new.notes) c.in_default.is
    (c.in_ok-out.ensures.sought false b.0 b.1 b.2 b.3) in
    let shared = sym (shared-in d old b.0 b.1 b.2 b.3 f) ∙ c.requires.shared in
    copy-names d d' old c.seek.new.mem b.0 b.1 b.2 c.args.notes.now c.seek.new.notes c.args.key f Frame b.3 s false c.requires.here shared

pub take_frame_for_copy-frame-requires-clause-free : goal.take_frame_for_copy-frame-requires-clause-free
take_frame_for_copy-frame-requires-clause-free g c =
    let sizes = g.D.SwapDev.sizes c.args.dev.now in
    let calls : Calls = (g.D.SwapDev.failures c.args.dev.now, g.D.SwapDev.history c.args.dev.now) in
    let old = c.args.mem.now in
    let d = device_by sizes None calls in
    let d' = device_by (g.D.SwapDev.sizes c.seek.new.dev) None (g.D.SwapDev.failures c.seek.new.dev, g.D.SwapDev.history c.seek.new.dev) in
    let b = between-some sizes old calls c.requires.between in
    let f = c.args.from in
    let s = subst (HasSought d d' old c.seek.new.mem b.0 b.1 b.2 (Some c.args.from) c.args.notes.now c.seek.new.notes) c.in_default.is
    (c.in_ok-out.ensures.sought false b.0 b.1 b.2 b.3) in
    free-sought d d' old c.seek.new.mem b.0 b.1 b.2 (Some f) c.args.notes.now c.seek.new.notes Frame b.3 s s.finds

pub take_frame_for_copy-frame-requires-clause-itemed : goal.take_frame_for_copy-frame-requires-clause-itemed
take_frame_for_copy-frame-requires-clause-itemed g c =
    let b = between-some (g.D.SwapDev.sizes c.args.dev.now) c.args.mem.now
    (g.D.SwapDev.failures c.args.dev.now, g.D.SwapDev.history c.args.dev.now) c.requires.between in
    (c.in_ok-out.ensures.sought false b.0 b.1 b.2 b.3).done.between.serves.items

pub take_frame_for_copy-frame-requires-clause-in_range : goal.take_frame_for_copy-frame-requires-clause-in_range
take_frame_for_copy-frame-requires-clause-in_range g c =
    let sizes = g.D.SwapDev.sizes c.args.dev.now in
    let calls : Calls = (g.D.SwapDev.failures c.args.dev.now, g.D.SwapDev.history c.args.dev.now) in
    let old = c.args.mem.now in
    let b = between-some sizes old calls c.requires.between in
    let here = c.requires.here in
    subst (λ n. c.args.from < n) (sym c.seek.ensures.count)
    (here-below (device_by sizes None calls) old b.0 b.1 b.2 b.3 c.args.key c.args.from here.write here.seen here.there)

pub take_frame_for_copy-frame-requires-clause-mapped : goal.take_frame_for_copy-frame-requires-clause-mapped
take_frame_for_copy-frame-requires-clause-mapped g c =
    let sizes = g.D.SwapDev.sizes c.args.dev.now in
    let calls : Calls = (g.D.SwapDev.failures c.args.dev.now, g.D.SwapDev.history c.args.dev.now) in
    let old = c.args.mem.now in
    let d = device_by sizes None calls in
    let d' = device_by (g.D.SwapDev.sizes c.seek.new.dev) None (g.D.SwapDev.failures c.seek.new.dev, g.D.SwapDev.history c.seek.new.dev) in
    let b = between-some sizes old calls c.requires.between in
    let f = c.args.from in
    let s = subst (HasSought d d' old c.seek.new.mem b.0 b.1 b.2 (Some c.args.from) c.args.notes.now c.seek.new.notes) c.in_default.is
    (c.in_ok-out.ensures.sought false b.0 b.1 b.2 b.3) in
    let shared = sym (shared-in d old b.0 b.1 b.2 b.3 f) ∙ c.requires.shared in
    copy-mapped d d' old c.seek.new.mem b.0 b.1 b.2 c.args.notes.now c.seek.new.notes c.args.key f Frame b.3 s false c.requires.here shared

pub take_frame_for_copy-frame-requires-clause-few : goal.take_frame_for_copy-frame-requires-clause-few
take_frame_for_copy-frame-requires-clause-few g c =
    let b = between-some (g.D.SwapDev.sizes c.args.dev.now) c.args.mem.now
    (g.D.SwapDev.failures c.args.dev.now, g.D.SwapDev.history c.args.dev.now) c.requires.between in
    locks-are-few _ None c.seek.new.mem _ _ _ (c.in_ok-out.ensures.sought false b.0 b.1 b.2 b.3).done.between.serves

pub take_frame_for_copy-frame-requires-clause-locked : goal.take_frame_for_copy-frame-requires-clause-locked
take_frame_for_copy-frame-requires-clause-locked g c =
    let sizes = g.D.SwapDev.sizes c.args.dev.now in
    let calls : Calls = (g.D.SwapDev.failures c.args.dev.now, g.D.SwapDev.history c.args.dev.now) in
    let old = c.args.mem.now in
    let d = device_by sizes None calls in
    let d' = device_by (g.D.SwapDev.sizes c.seek.new.dev) None (g.D.SwapDev.failures c.seek.new.dev, g.D.SwapDev.history c.seek.new.dev) in
    let b = between-some sizes old calls c.requires.between in
    let f = c.args.from in
    let s = subst (HasSought d d' old c.seek.new.mem b.0 b.1 b.2 (Some c.args.from) c.args.notes.now c.seek.new.notes) c.in_default.is
    (c.in_ok-out.ensures.sought false b.0 b.1 b.2 b.3) in
    let shared = sym (shared-in d old b.0 b.1 b.2 b.3 f) ∙ c.requires.shared in
    copy-locked d d' old c.seek.new.mem b.0 b.1 b.2 c.args.notes.now c.seek.new.notes c.args.key f Frame b.3 s false c.requires.here shared

pub returns-clause-made : goal.returns-clause-made
returns-clause-made g c = λ told w r l h came.
    let d = as_told told (seen_by g.D.SwapDev.sizes g.D.SwapDev.pages g.D.SwapDev.failures g.D.SwapDev.history c.args.dev.now) in
    let d' = as_told told (seen_by g.D.SwapDev.sizes g.D.SwapDev.pages g.D.SwapDev.failures g.D.SwapDev.history c.seek.new.dev) in
    let old = c.args.mem.now in
    let shared = sym (shared-in d old w r l h c.args.from) ∙ c.requires.shared in
    let f = c.args.from in
    let s = subst (HasSought d d' old c.seek.new.mem w r l (Some f) c.args.notes.now c.seek.new.notes) c.in_default.is
    (c.in_ok-out.ensures.sought told w r l h) in
    copy-made d d' old c.seek.new.mem c.take_frame_for_copy-frame.new.mem w r l c.args.notes.now c.seek.new.notes c.push.new.self c.args.key
    c.take_frame_for_copy-frame.result f came false h s c.requires.here shared c.args.home c.requires.home c.take_frame_for_copy-frame.ensures.taken
    c.take_frame_for_copy-frame.ensures.parts c.in_ok-push.ensures.ok
