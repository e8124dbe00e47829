use Rattle.std.proofs.Common.{subst, sym, false}
use Rattle.av_plain.specs.Event.{after_notes}
use Rattle.av_evict.specs.System.{Always}
use Rattle.av_evict.proofs.FlightLaws.{CompletesOf}
use Rattle.av_evict.proofs.SeekLaws.{completes-all}
use Rattle.av_evict.proofs.SystemLaws.{at-knows, gives-at, gives-so, gives-then, loose}
use Rattle.av_swapoff.specs.Empty.{EmptiesAllBy, EmptiesEachBy, MayEmptyEach}
use Rattle.av_swapoff.specs.System.{AreUsers}
use Rattle.av_swapoff.proofs.EmptyLaws.{IsCompleted, completed, emptied-all}
use Rattle.av_swapoff.proofs.empty.empty.Goals as goal

pub users-requires : goal.users-requires
users-requires g c =
    at-knows (g.S.System.view c.complete.new.system false) Always (gives-at _ _ _ _ Always Always (CompletesOf c.flight_len-flying.result)
    c.requires.sound (c.in_ok-complete.ensures.gives false) (λ l ns sound ready is after. tt))

pub empty_each-requires-clause-may : goal.empty_each-requires-clause-may
empty_each-requires-clause-may g c =
    let k = g.S.System.view c.args.system.now false in
    let mid = g.S.System.view c.complete.new.system false in
    let n = c.flight_len-flying.result in
    let area = c.args.area in
    let us = c.deref.result.now in
    gives-at _ _ _ _ Always (MayEmptyEach mid.setting area us) (IsCompleted k mid area us) c.requires.sound
    (gives-so _ _ _ _ Always (CompletesOf n) (IsCompleted k mid area us) (c.in_ok-complete.ensures.gives false)
    (λ l ns sound stands is goes after. completed k mid area us l ns sound
    (completes-all l n ns (c.flight_len-flying.ensures false l (loose _ _ l sound) stands) is) goes
    (subst (λ us. AreUsers mid.setting area us (after_notes l ns)) (sym c.deref.ensures.value)
    (c.in_ok-users.ensures.users false (after_notes l ns) after goes.happened.stands))))
    (λ l ns sound ready q after. q.may)

pub returns-clause-gives : goal.returns-clause-gives
returns-clause-gives g c = λ told.
    let k = g.S.System.view c.args.system.now told in
    let mid = g.S.System.view c.complete.new.system told in
    let new = g.S.System.view c.empty_each.new.system told in
    let n = c.flight_len-flying.result in
    let area = c.args.area in
    let us = c.deref.result.now in
    let end = c.in_ok-end.end in
    gives-then _ _ _ _ _ _ Always (MayEmptyEach mid.setting area us) (IsCompleted k mid area us) (EmptiesEachBy mid new area end)
    (EmptiesAllBy k new area end)
    (gives-so _ _ _ _ Always (CompletesOf n) (IsCompleted k mid area us) (c.in_ok-complete.ensures.gives told)
    (λ l ns sound stands is goes after. completed k mid area us l ns sound
    (completes-all l n ns (c.flight_len-flying.ensures told l (loose _ _ l sound) stands) is) goes
    (subst (λ us. AreUsers mid.setting area us (after_notes l ns)) (sym c.deref.ensures.value)
    (c.in_ok-users.ensures.users told (after_notes l ns) after goes.happened.stands))))
    (c.in_ok-end.ensures.gives told)
    (λ l ns sound ready q after. q.may)
    (λ l ns ms sound ready q rest. emptied-all k mid new area us end l ns ms q rest)
