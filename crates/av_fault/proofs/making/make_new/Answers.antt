use Rattle.std.proofs.Common.{false, None, refl, subst}
use Rattle.av_plain.specs.Device.{Calls, as_told, device_by, seen_by}
use Rattle.av_plain.specs.Fault.{NewPage}
use Rattle.av_plain.specs.Ledger.{entry}
use Rattle.av_pagetable.specs.Entries.{entry_at}
use Rattle.av_fault.specs.Seek.{HasSought}
use Rattle.av_fault.specs.declared.seek.Got.TheVariants.{Frame}
use Rattle.av_mem.proofs.Between.{between-some}
use Rattle.av_mem.proofs.LockedLaws.{locks-are-few}
use Rattle.av_fault.proofs.EntryLaws.{entry-is}
use Rattle.av_fault.proofs.NewLaws.{bare-blank, blank-needs, free-taken, new-made}
use Rattle.av_fault.proofs.SoughtLaws.{lives-sought, mapped-sought}
use Rattle.av_fault.proofs.TakenLaws.{out-made}
use Rattle.av_fault.proofs.making.make_new.Goals as goal

pub returns-in-Out-clause-made : goal.returns-in-Out-clause-made
returns-in-Out-clause-made g c = λ told w r l h.
    let d = as_told told (seen_by g.D.SwapDev.sizes g.D.SwapDev.pages g.D.SwapDev.failures g.D.SwapDev.history c.args.dev.now) in
    let d' = as_told told (seen_by g.D.SwapDev.sizes g.D.SwapDev.pages g.D.SwapDev.failures g.D.SwapDev.history c.seek.new.dev) in
    let old = c.args.mem.now in
    let key = c.args.key in
    let s = subst (HasSought d d' old c.seek.new.mem w r l None c.args.notes.now c.seek.new.notes) c.in-Out.is
    (c.in_ok-out.ensures.sought told w r l h) in
    let e = entry_at old.tables key.0 key.1 in
    out-made d d' old c.seek.new.mem w r l None c.args.notes.now c.seek.new.notes key false c.in-Out.out s NewPage
    (blank-needs l (entry l key) (bare-blank e (entry l key) c.requires.bare (entry-is d old w r l h key e refl))) refl refl

pub prepare-requires-clause-order : goal.prepare-requires-clause-order
prepare-requires-clause-order g c =
    let sizes = g.D.SwapDev.sizes c.args.dev.now in
    let calls : Calls = (g.D.SwapDev.failures c.args.dev.now, g.D.SwapDev.history c.args.dev.now) in
    let old = c.args.mem.now in
    let d = device_by sizes None calls in
    let d' = device_by (g.D.SwapDev.sizes c.seek.new.dev) None (g.D.SwapDev.failures c.seek.new.dev, g.D.SwapDev.history c.seek.new.dev) in
    let b = between-some sizes old calls c.requires.between in
    let s = c.in_ok-out.ensures.sought false b.0 b.1 b.2 b.3 in
    s.done.between.serves.fit.order

pub prepare-requires-clause-lives : goal.prepare-requires-clause-lives
prepare-requires-clause-lives g c =
    let sizes = g.D.SwapDev.sizes c.args.dev.now in
    let calls : Calls = (g.D.SwapDev.failures c.args.dev.now, g.D.SwapDev.history c.args.dev.now) in
    let old = c.args.mem.now in
    let d = device_by sizes None calls in
    let d' = device_by (g.D.SwapDev.sizes c.seek.new.dev) None (g.D.SwapDev.failures c.seek.new.dev, g.D.SwapDev.history c.seek.new.dev) in
    let b = between-some sizes old calls c.requires.between in
    let s = subst (HasSought d d' old c.seek.new.mem b.0 b.1 b.2 None c.args.notes.now c.seek.new.notes) c.in_default.is
    (c.in_ok-out.ensures.sought false b.0 b.1 b.2 b.3) in
    lives-sought d d' old c.seek.new.mem b.0 b.1 b.2 None c.args.notes.now c.seek.new.notes Frame b.3 s c.args.key c.requires.mapped

pub take_frame_of_zeros-requires-clause-table : goal.take_frame_of_zeros-requires-clause-table
take_frame_of_zeros-requires-clause-table g c =
    let sizes = g.D.SwapDev.sizes c.args.dev.now in
    let calls : Calls = (g.D.SwapDev.failures c.args.dev.now, g.D.SwapDev.history c.args.dev.now) in
    let old = c.args.mem.now in
    let d = device_by sizes None calls in
    let d' = device_by (g.D.SwapDev.sizes c.seek.new.dev) None (g.D.SwapDev.failures c.seek.new.dev, g.D.SwapDev.history c.seek.new.dev) in
    let b = between-some sizes old calls c.requires.between in
    let s = subst (HasSought d d' old c.seek.new.mem b.0 b.1 b.2 None c.args.notes.now c.seek.new.notes) c.in_default.is
    (c.in_ok-out.ensures.sought false b.0 b.1 b.2 b.3) in
    (mapped-sought d d' old c.seek.new.mem b.0 b.1 b.2 None c.args.notes.now c.seek.new.notes Frame b.3 s c.args.key c.requires.mapped).table

pub take_frame_of_zeros-requires-clause-free : goal.take_frame_of_zeros-requires-clause-free
take_frame_of_zeros-requires-clause-free g c =
    let sizes = g.D.SwapDev.sizes c.args.dev.now in
    let calls : Calls = (g.D.SwapDev.failures c.args.dev.now, g.D.SwapDev.history c.args.dev.now) in
    let old = c.args.mem.now in
    let d = device_by sizes None calls in
    let d' = device_by (g.D.SwapDev.sizes c.seek.new.dev) None (g.D.SwapDev.failures c.seek.new.dev, g.D.SwapDev.history c.seek.new.dev) in
    let b = between-some sizes old calls c.requires.between in
    let s = subst (HasSought d d' old c.seek.new.mem b.0 b.1 b.2 None c.args.notes.now c.seek.new.notes) c.in_default.is
    (c.in_ok-out.ensures.sought false b.0 b.1 b.2 b.3) in
    free-taken d d' old c.seek.new.mem c.seek.new.mem b.0 b.1 b.2 c.args.notes.now c.seek.new.notes c.seek.new.notes c.args.key 0 b.3 s
    c.requires.mapped c.requires.bare c.prepare.new.self c.prepare.new.anons c.in_ok-home.ensures.areas c.in_ok-home.ensures.anons

pub take_frame_of_zeros-requires-clause-few : goal.take_frame_of_zeros-requires-clause-few
take_frame_of_zeros-requires-clause-few g c =
    let b = between-some (g.D.SwapDev.sizes c.args.dev.now) c.args.mem.now
    (g.D.SwapDev.failures c.args.dev.now, g.D.SwapDev.history c.args.dev.now) c.requires.between in
    locks-are-few _ None c.seek.new.mem _ _ _ (c.in_ok-out.ensures.sought false b.0 b.1 b.2 b.3).done.between.serves

pub returns-clause-made : goal.returns-clause-made
returns-clause-made g c = λ told w r l h.
    let d = as_told told (seen_by g.D.SwapDev.sizes g.D.SwapDev.pages g.D.SwapDev.failures g.D.SwapDev.history c.args.dev.now) in
    let d' = as_told told (seen_by g.D.SwapDev.sizes g.D.SwapDev.pages g.D.SwapDev.failures g.D.SwapDev.history c.seek.new.dev) in
    let old = c.args.mem.now in
    let key = c.args.key in
    let s = subst (HasSought d d' old c.seek.new.mem w r l None c.args.notes.now c.seek.new.notes) c.in_default.is
    (c.in_ok-out.ensures.sought told w r l h) in
    new-made d d' old c.seek.new.mem c.take_frame_of_zeros.new.mem w r l c.args.notes.now c.seek.new.notes c.push.new.self key c.in_ok-frame.frame h s
    c.requires.mapped c.requires.bare c.prepare.new.self c.prepare.new.anons c.in_ok-home.ensures.areas c.in_ok-home.ensures.anons
    c.in_ok-home.home c.in_ok-home.ensures.home c.in_ok-frame.ensures.taken c.in_ok-frame.ensures.parts c.in_ok-push.ensures.ok
