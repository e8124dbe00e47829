use Rattle.std.proofs.Common.{◌∙◌, None, subst, sym}
use Rattle.std.specs.Prelude.{Ok}
use Rattle.av_plain.specs.Device.{as_told, seen_by}
use Rattle.av_mem.proofs.ComingBack.{got-told, seen-same, told-still}
use Rattle.av_fault.specs.Coming.{Fetches, HasCome}
use Rattle.av_fault.specs.Seek.{HasSought}
use Rattle.av_mem.proofs.Between.{seen-says}
use Rattle.av_fault.proofs.ComingLaws.{come-cached, come-loaded, come-lost, come-out, to-load, told-rose, told-asked}
use Rattle.av_fault.proofs.coming.fetch.Goals as goal

pub returns-in-Some-clause-fetched : goal.returns-in-Some-clause-fetched
returns-in-Some-clause-fetched g c = λ told w r l h.
    come-cached _ c.args.mem.now w r l c.args.slot c.in-Some.frame c.args.notes.now h (sym c.find.ensures.value ∙ c.in-Some.is)

pub returns-in-Out-clause-fetched : goal.returns-in-Out-clause-fetched
returns-in-Out-clause-fetched g c = λ told w r l h.
    come-out _ _ c.args.mem.now c.seek.new.mem w r l c.args.slot c.in-Out.out c.args.notes.now c.seek.new.notes h
    (sym c.find.ensures.value ∙ c.in_default.is)
    (subst (HasSought _ _ c.args.mem.now c.seek.new.mem w r l None c.args.notes.now c.seek.new.notes) c.in-Out.is
    (c.in_ok-out.ensures.sought told w r l h))

pub home_to_load-home-requires : goal.home_to_load-home-requires
home_to_load-home-requires g c =
    (to-load _ _ c.args.mem.now c.seek.new.mem c.args.key c.args.slot c.args.home c.args.notes.now c.seek.new.notes c.in_ok-out.field-0
    c.requires.between c.requires.away c.requires.home (sym c.find.ensures.value ∙ c.in_default.is) c.in_ok-out.ensures.sought c.in_default-2.is).anon

pub load-requires-clause-fits : goal.load-requires-clause-fits
load-requires-clause-fits g c =
    (to-load _ _ c.args.mem.now c.seek.new.mem c.args.key c.args.slot c.args.home c.args.notes.now c.seek.new.notes c.in_ok-out.field-0
    c.requires.between c.requires.away c.requires.home (sym c.find.ensures.value ∙ c.in_default.is) c.in_ok-out.ensures.sought c.in_default-2.is).fits

pub load-requires-clause-areas : goal.load-requires-clause-areas
load-requires-clause-areas g c =
    (to-load _ _ c.args.mem.now c.seek.new.mem c.args.key c.args.slot c.args.home c.args.notes.now c.seek.new.notes c.in_ok-out.field-0
    c.requires.between c.requires.away c.requires.home (sym c.find.ensures.value ∙ c.in_default.is) c.in_ok-out.ensures.sought
    c.in_default-2.is).areas

pub load-requires-clause-listed : goal.load-requires-clause-listed
load-requires-clause-listed g c =
    (to-load _ _ c.args.mem.now c.seek.new.mem c.args.key c.args.slot c.args.home c.args.notes.now c.seek.new.notes c.in_ok-out.field-0
    c.requires.between c.requires.away c.requires.home (sym c.find.ensures.value ∙ c.in_default.is) c.in_ok-out.ensures.sought
    c.in_default-2.is).listed

pub load-requires-clause-named : goal.load-requires-clause-named
load-requires-clause-named g c =
    (to-load _ _ c.args.mem.now c.seek.new.mem c.args.key c.args.slot c.args.home c.args.notes.now c.seek.new.notes c.in_ok-out.field-0
    c.requires.between c.requires.away c.requires.home (sym c.find.ensures.value ∙ c.in_default.is) c.in_ok-out.ensures.sought
    c.in_default-2.is).named

pub load-requires-clause-absent : goal.load-requires-clause-absent
load-requires-clause-absent g c =
    (to-load _ _ c.args.mem.now c.seek.new.mem c.args.key c.args.slot c.args.home c.args.notes.now c.seek.new.notes c.in_ok-out.field-0
    c.requires.between c.requires.away c.requires.home (sym c.find.ensures.value ∙ c.in_default.is) c.in_ok-out.ensures.sought
    c.in_default-2.is).absent

pub load-requires-clause-uncached : goal.load-requires-clause-uncached
load-requires-clause-uncached g c =
    (to-load _ _ c.args.mem.now c.seek.new.mem c.args.key c.args.slot c.args.home c.args.notes.now c.seek.new.notes c.in_ok-out.field-0
    c.requires.between c.requires.away c.requires.home (sym c.find.ensures.value ∙ c.in_default.is) c.in_ok-out.ensures.sought
    c.in_default-2.is).uncached

pub load-requires-clause-free : goal.load-requires-clause-free
load-requires-clause-free g c =
    (to-load _ _ c.args.mem.now c.seek.new.mem c.args.key c.args.slot c.args.home c.args.notes.now c.seek.new.notes c.in_ok-out.field-0
    c.requires.between c.requires.away c.requires.home (sym c.find.ensures.value ∙ c.in_default.is) c.in_ok-out.ensures.sought
    c.in_default-2.is).finds

pub returns-in_ok-push-in-Ok-clause-fetched : goal.returns-in_ok-push-in-Ok-clause-fetched
returns-in_ok-push-in-Ok-clause-fetched g c = λ told w r l h.
    let d0 = seen_by g.D.SwapDev.sizes g.D.SwapDev.pages g.D.SwapDev.failures g.D.SwapDev.history c.args.dev.now in
    let d1 = seen_by g.D.SwapDev.sizes g.D.SwapDev.pages g.D.SwapDev.failures g.D.SwapDev.history c.seek.new.dev in
    let d2 = seen_by g.D.SwapDev.sizes g.D.SwapDev.pages g.D.SwapDev.failures g.D.SwapDev.history c.load.new.dev in
    let load = c.in-Ok.ensures.loads in
    subst (λ d. HasCome (λ m w l added came. Fetches m w l c.args.slot added came) (as_told told d0) d c.args.mem.now c.load.new.self w r l
    c.args.notes.now c.push.new.self (Ok c.in-Ok.frame)) (sym (told-still told d1 d2 c.load.ensures.same_sizes c.load.ensures.same_pages load.1 c.load.ensures.asked))
    (come-loaded (as_told told d0) (as_told told d1) c.args.mem.now c.seek.new.mem w r l c.args.key c.args.slot c.args.home c.args.notes.now
    c.seek.new.notes h c.requires.away c.requires.home (sym c.find.ensures.value ∙ c.in_default.is)
    (subst (HasSought _ (as_told told d1) c.args.mem.now c.seek.new.mem w r l None c.args.notes.now c.seek.new.notes) c.in_default-2.is
    (c.in_ok-out.ensures.sought told w r l h))
    c.load.new.self (g.D.SwapDev.pages c.seek.new.dev) c.in-Ok.frame c.home_to_load-home.result c.home_to_load-home.ensures load.0
    c.load.ensures.parts
    (got-told told d1 c.args.slot load.0.page load.0.holds) c.push.new.self c.in_ok-push-in-Ok.ensures.ok)

pub returns-in-Err-clause-fetched : goal.returns-in-Err-clause-fetched
returns-in-Err-clause-fetched g c = λ told w r l h.
    let d1 = seen_by g.D.SwapDev.sizes g.D.SwapDev.pages g.D.SwapDev.failures g.D.SwapDev.history c.seek.new.dev in
    let d2 = seen_by g.D.SwapDev.sizes g.D.SwapDev.pages g.D.SwapDev.failures g.D.SwapDev.history c.load.new.dev in
    let load = c.in-Err.ensures.loads in
    come-lost _ (as_told told d1) c.args.mem.now c.seek.new.mem w r l c.args.key c.args.slot c.args.home c.args.notes.now
    c.seek.new.notes h c.requires.away c.requires.home (sym c.find.ensures.value ∙ c.in_default.is)
    (subst (HasSought _ (as_told told d1) c.args.mem.now c.seek.new.mem w r l None c.args.notes.now c.seek.new.notes) c.in_default-2.is
    (c.in_ok-out.ensures.sought told w r l h))
    (as_told told d2) c.load.new.self (seen-same told d1 d2 c.load.ensures.same_sizes c.load.ensures.same_pages c.load.ensures.never_falls c.load.ensures.asked)
    (told-asked told d1 d2 c.load.ensures.asked)
    (seen-says told d1 d2 c.load.ensures.same_pages) load.0 c.load.ensures.parts (told-rose told 1 d1 d2 load.1)
