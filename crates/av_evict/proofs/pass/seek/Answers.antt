use Rattle.av_plain.specs.Pass.{IsPass, Seeks}
use Rattle.av_evict.specs.Pass.{IsEnd}
use Rattle.av_evict.specs.System.{Always, spares}
use Rattle.av_evict.specs.declared.pass.SeekEnd.TheVariants.{Frame}
use Rattle.av_evict.proofs.SeekLaws.{seeks-none, seeks-pass}
use Rattle.av_evict.proofs.SystemLaws.{gives-as, gives-none, loose}
use Rattle.av_evict.proofs.pass.seek.Goals as goal

pub returns-in-Some-clause-seeks : goal.returns-in-Some-clause-seeks
returns-in-Some-clause-seeks g c = λ told.
    let k = g.S.System.view c.args.system.now told in
    let p = c.args.pinned in
    let f = c.in-Some.frame in
    gives-none _ c.args.notes.now Always (λ l ns. Seeks k.setting (spares k p) l ns × IsEnd k.setting (spares k p) (Frame f) l ns)
    (λ l sound stands ready. let free = c.in-Some.ensures.free told l (loose _ _ l sound) stands in
    (seeks-none k.setting (spares k p) l f free.0 free.1, free))

pub returns-clause-seeks : goal.returns-clause-seeks
returns-clause-seeks g c = λ told.
    let k = g.S.System.view c.args.system.now told in
    let p = c.args.pinned in
    let end = c.in_ok-end.end in
    gives-as _ _ _ _ Always Always (λ l ns. IsPass k.setting (spares k p) l ns × IsEnd k.setting (spares k p) end l ns)
    (λ l ns. Seeks k.setting (spares k p) l ns × IsEnd k.setting (spares k p) end l ns) (c.in_ok-end.ensures.pass told)
    (λ l sound stands ready. ready)
    (λ l ns sound stands ready is. (
      seeks-pass k.setting (spares k p) l ns (c.in_default.ensures.free told l (loose _ _ l sound) stands) is.0,
      is.1,
    ))
