use Rattle.av_plain.proofs.Sound.{step-sound}
use Rattle.av_laws.proofs.RunCovered.{run-covered, step-both}
use Rattle.av_laws.proofs.cover.runs_cover_entries.Goals as goal

pub returns-clause-from_nothing : goal.returns-clause-from_nothing
returns-clause-from_nothing c = run-covered

pub returns-clause-each_step : goal.returns-clause-each_step
returns-clause-each_step c m most old new command reply high fits covers s sound slots merged h =
    step-both m most high fits old reply new covers s (step-sound m old command reply new s h) sound slots merged command h
