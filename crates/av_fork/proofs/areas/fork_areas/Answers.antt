use Rattle.std.proofs.Common.{refl}
use Rattle.av_merge.proofs.LinkingLaws.{ok_both}
use Rattle.av_spaces.specs.Spaces.{areas_of}
use Rattle.av_fork.proofs.AreasForked.{has_fork_by}
use Rattle.av_fork.proofs.areas.fork_areas.Goals as goal

pub returns-clause-forks : goal.returns-clause-forks
returns-clause-forks c = λ d s keeps.
    let new = record c.args.mem.now { spaces = c.fork.new.self; anons = c.fork.new.anons } in
    let areas = areas_of c.args.mem.now.spaces.processes c.args.parent in
    ok_both c.fork.result c.fork.ensures.forked c.fork.ensures.in_turn (λ forked turn.
    has_fork_by d c.args.mem.now new s keeps c.args.parent c.args.child areas refl c.requires.dead forked turn refl refl)
