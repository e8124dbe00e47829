use Rattle.av_rmap.specs.Walk.{found_from, names}
use Rattle.av_rmap.proofs.Entries.{walk-is}
use Rattle.av_rmap.proofs.walk.walk.Goals as goal

pub find_from-requires-clause-room : goal.find_from-requires-clause-room
find_from-requires-clause-room g c =
    let view = g.K.Look.view c.args.look.now in
    let f = names c.args.target in
    c.requires.room (found_from view f c.args.home) (walk-is view f c.args.home c.requires.spanned c.requires.apart c.requires.covered)

pub returns-clause-entries : goal.returns-clause-entries
returns-clause-entries g c =
    let view = g.K.Look.view c.args.look.now in
    let f = names c.args.target in (
      found_from view f c.args.home,
      c.find_from.ensures.entries,
      walk-is view f c.args.home c.requires.spanned c.requires.apart c.requires.covered,
    )
