use Rattle.std.proofs.Common.{sym, ap, ◌∙◌, false}
use Rattle.av_plain.specs.Event.{after_notes}
use Rattle.av_plain.specs.Ledger.{has_free}
use Rattle.av_plain.specs.Pass.{Completes}
use Rattle.av_evict.specs.Pass.{AreTurns, IsLanded, IsPassed}
use Rattle.av_evict.specs.System.{Always, spares}
use Rattle.av_evict.proofs.FlightLaws.{CompletesOf}
use Rattle.av_evict.proofs.SeekLaws.{IsFlown, completed-landed, completes-all, passed-early, passed-then}
use Rattle.av_evict.proofs.SystemLaws.{gives-as, gives-at, gives-so, gives-then, leaves-spares, loose}
use Rattle.av_evict.proofs.pass.pass.Goals as goal

pub turns_if_any-requires : goal.turns_if_any-requires
turns_if_any-requires g c =
    let k = g.S.System.view c.args.system.now false in
    let n = c.flight_len-flying.result in
    gives-at _ _ _ _ Always IsLanded (λ l ns. Completes l l.flight ns) c.requires
    (gives-as _ _ _ _ Always Always (CompletesOf n) (λ l ns. Completes l l.flight ns) (c.in_ok-complete.ensures.gives false)
    (λ l sound stands ready. tt)
    (λ l ns sound stands ready is. completes-all l n ns (c.flight_len-flying.ensures false l (loose _ _ l sound) stands) is))
    (λ l ns sound ready is after. completed-landed k.setting l ns sound is)

pub returns-then-has_free-clause-gives : goal.returns-then-has_free-clause-gives
returns-then-has_free-clause-gives g c = λ told.
    let k = g.S.System.view c.args.system.now told in
    let n = c.flight_len-flying.result in
    gives-so _ _ _ _ Always (CompletesOf n) (IsPassed k.setting (spares k c.args.pinned)) (c.in_ok-complete.ensures.gives told)
    (λ l ns sound stands is goes after. passed-early k.setting (spares k c.args.pinned) l ns
    (completes-all l n ns (c.flight_len-flying.ensures told l (loose _ _ l sound) stands) is)
    (ap (λ m. has_free m (after_notes l ns)) (sym goes.happened.stays.setting) ∙ sym (c.has_free.ensures told (after_notes l ns) after goes.happened.stands)
    ∙ c.if-has_free.true))

pub returns-clause-gives : goal.returns-clause-gives
returns-clause-gives g c = λ told.
    let k = g.S.System.view c.args.system.now told in
    let n = c.flight_len-flying.result in
    let mid = g.S.System.view c.complete.new.system told in
    gives-then _ _ _ _ _ _ Always IsLanded (IsFlown k.setting (spares k c.args.pinned) mid.setting (spares mid c.args.pinned))
    (AreTurns mid.setting (spares mid c.args.pinned)) (IsPassed k.setting (spares k c.args.pinned))
    (gives-so _ _ _ _ Always (CompletesOf n) (IsFlown k.setting (spares k c.args.pinned) mid.setting (spares mid c.args.pinned)) (c.in_ok-complete.ensures.gives told)
    (λ l ns sound stands is goes after. record {
      completes = completes-all l n ns (c.flight_len-flying.ensures told l (loose _ _ l sound) stands) is;
      full = ap (λ m. has_free m (after_notes l ns)) (sym goes.happened.stays.setting)
          ∙ sym (c.has_free.ensures told (after_notes l ns) after goes.happened.stands)
          ∙ c.if-has_free.false;
      setting = goes.happened.stays.setting;
      spared = leaves-spares k mid c.args.pinned (c.in_ok-complete.ensures.stays told);
    })) (c.in_ok-turns_if_any.ensures.gives told)
    (λ l ns sound ready flown after. completed-landed k.setting l ns sound flown.completes)
    (λ l ns ms sound ready flown turns. passed-then k.setting (spares k c.args.pinned) mid.setting (spares mid c.args.pinned) l ns ms flown turns)
