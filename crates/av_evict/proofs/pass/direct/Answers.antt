use Rattle.std.proofs.Common.{◌≡◌, ◌<◌, false, true, ap, subst, ◌∙◌}
use Rattle.av_plain.specs.Event.{after_notes}
use Rattle.av_plain.specs.Ledger.{has_free, is_free}
use Rattle.av_plain.specs.Pass.{IsPass, out_of}
use Rattle.av_evict.specs.Pass.{IsEnd, IsPassed}
use Rattle.av_evict.specs.System.{Always, spares}
use Rattle.av_evict.specs.declared.pass.SeekEnd.TheVariants.{Frame, Out}
use Rattle.av_evict.proofs.ShortageLaws.{vain-out}
use Rattle.av_evict.proofs.SystemLaws.{at-knows, gives-at, gives-so, leaves-spares}
use Rattle.av_evict.proofs.pass.direct.Goals as goal

pub returns-in-Some-clause-pass : goal.returns-in-Some-clause-pass
returns-in-Some-clause-pass g c = λ told.
    let k = g.S.System.view c.args.system.now told in
    let p = c.args.pinned in
    let f = c.in-Some.frame in
    gives-so _ _ _ _ Always (IsPassed k.setting (spares k p))
    (λ l ns. IsPass k.setting (spares k p) l ns × IsEnd k.setting (spares k p) (Frame f) l ns)
    (c.in_ok-pass.ensures.gives told)
    (λ l ns sound stands passed goes after. (
      passed.pass,
      subst (λ m. (f < m.frames) × (is_free (after_notes l ns) f ≡ true)) goes.happened.stays.setting
          (c.in-Some.ensures.free told (after_notes l ns) after goes.happened.stands),
    ))

pub out_of-requires : goal.out_of-requires
out_of-requires g c =
    let k = g.S.System.view c.args.system.now false in
    at-knows (g.S.System.view c.pass.new.system false) Always (gives-at k _ _ _ Always Always (IsPassed k.setting (spares k c.args.pinned))
    c.requires (c.in_ok-pass.ensures.gives false) (λ l ns sound ready passed after. tt))

pub returns-in-None-clause-pass : goal.returns-in-None-clause-pass
returns-in-None-clause-pass g c = λ told.
    let k = g.S.System.view c.args.system.now told in
    let new = g.S.System.view c.pass.new.system told in
    let p = c.args.pinned in
    let out = c.out_of.result in
    gives-so _ _ _ _ Always (IsPassed k.setting (spares k p))
    (λ l ns. IsPass k.setting (spares k p) l ns × IsEnd k.setting (spares k p) (Out out) l ns)
    (c.in_ok-pass.ensures.gives told)
    (λ l ns sound stands passed goes after.
    let none = subst (λ m. has_free m (after_notes l ns) ≡ false) goes.happened.stays.setting
    (c.in-None.ensures.free told (after_notes l ns) after goes.happened.stands)
    in (
      passed.pass,
      vain-out k.setting (spares k p) l ns out sound (passed.vain none) none
          (c.out_of.ensures told (after_notes l ns) after goes.happened.stands
          ∙ ap (λ m. out_of m (spares new p) (after_notes l ns)) goes.happened.stays.setting
          ∙ ap (λ x. out_of k.setting x (after_notes l ns)) (leaves-spares k new p (c.in_ok-pass.ensures.stays told))),
    ))
