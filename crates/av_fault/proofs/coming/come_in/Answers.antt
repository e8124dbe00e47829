use Rattle.std.proofs.Common.{subst}
use Rattle.av_fault.specs.Coming.{Fetches, HasCome}
use Rattle.av_fault.proofs.ComingLaws.{come-mapped, come-stopped, map-here, to-map}
use Rattle.av_fault.proofs.coming.come_in.Goals as goal

pub map-requires-clause-in_range : goal.map-requires-clause-in_range
map-requires-clause-in_range g c =
    (to-map _ _ c.args.mem.now c.fetch.new.mem c.args.key c.args.slot c.args.notes.now c.fetch.new.notes c.in-Ok.frame c.in_ok-frame.field-0
    c.requires.between c.requires.away c.in_ok-frame.ensures.fetched c.in-Ok.is).in_range

pub map-requires-clause-names : goal.map-requires-clause-names
map-requires-clause-names g c =
    (to-map _ _ c.args.mem.now c.fetch.new.mem c.args.key c.args.slot c.args.notes.now c.fetch.new.notes c.in-Ok.frame c.in_ok-frame.field-0
    c.requires.between c.requires.away c.in_ok-frame.ensures.fetched c.in-Ok.is).names

pub map-requires-clause-cached : goal.map-requires-clause-cached
map-requires-clause-cached g c =
    (to-map _ _ c.args.mem.now c.fetch.new.mem c.args.key c.args.slot c.args.notes.now c.fetch.new.notes c.in-Ok.frame c.in_ok-frame.field-0
    c.requires.between c.requires.away c.in_ok-frame.ensures.fetched c.in-Ok.is).cached

pub map-requires-clause-named : goal.map-requires-clause-named
map-requires-clause-named g c =
    (to-map _ _ c.args.mem.now c.fetch.new.mem c.args.key c.args.slot c.args.notes.now c.fetch.new.notes c.in-Ok.frame c.in_ok-frame.field-0
    c.requires.between c.requires.away c.in_ok-frame.ensures.fetched c.in-Ok.is).named

pub map-requires-clause-few : goal.map-requires-clause-few
map-requires-clause-few g c =
    (to-map _ _ c.args.mem.now c.fetch.new.mem c.args.key c.args.slot c.args.notes.now c.fetch.new.notes c.in-Ok.frame c.in_ok-frame.field-0
    c.requires.between c.requires.away c.in_ok-frame.ensures.fetched c.in-Ok.is).few

pub map-requires-clause-locks : goal.map-requires-clause-locks
map-requires-clause-locks g c =
    (to-map _ _ c.args.mem.now c.fetch.new.mem c.args.key c.args.slot c.args.notes.now c.fetch.new.notes c.in-Ok.frame c.in_ok-frame.field-0
    c.requires.between c.requires.away c.in_ok-frame.ensures.fetched c.in-Ok.is).locks

pub returns-in_ok-push-in-Ok-clause-come : goal.returns-in_ok-push-in-Ok-clause-come
returns-in_ok-push-in-Ok-clause-come g c = λ told w r l h.
    come-mapped _ _ c.args.mem.now c.fetch.new.mem w r l c.args.key c.args.slot c.args.notes.now c.fetch.new.notes h c.requires.away c.in-Ok.frame
    (subst (HasCome (λ m w l added came. Fetches m w l c.args.slot added came) _ _ c.args.mem.now c.fetch.new.mem w r l c.args.notes.now
    c.fetch.new.notes)
    c.in-Ok.is (c.in_ok-frame.ensures.fetched told w r l h))
    c.map.new.self c.map.ensures.mapped c.map.ensures.parts c.push.new.self c.in_ok-push-in-Ok.ensures.ok

pub returns-in_ok-push-in-Ok-clause-here : goal.returns-in_ok-push-in-Ok-clause-here
returns-in_ok-push-in-Ok-clause-here g c = map-here c.fetch.new.mem c.map.new.self c.args.key c.args.slot c.in-Ok.frame c.map.ensures.mapped

pub returns-in-Err-clause-come : goal.returns-in-Err-clause-come
returns-in-Err-clause-come g c = λ told w r l h.
    come-stopped _ _ c.args.mem.now c.fetch.new.mem w r l c.args.key c.args.slot c.args.notes.now c.fetch.new.notes c.in-Err.stop
    (subst (HasCome (λ m w l added came. Fetches m w l c.args.slot added came) _ _ c.args.mem.now c.fetch.new.mem w r l c.args.notes.now
    c.fetch.new.notes)
    c.in-Err.is (c.in_ok-frame.ensures.fetched told w r l h))
