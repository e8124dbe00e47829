use Rattle.av_laws.proofs.Covered.{run-covers, run-fits, step-covers}
use Rattle.av_laws.proofs.cover.runs_lay_areas.Goals as goal

pub returns-clause-from_nothing : goal.returns-clause-from_nothing
returns-clause-from_nothing c = run-covers

pub returns-clause-each_step : goal.returns-clause-each_step
returns-clause-each_step c m most old new command reply = step-covers m most old command reply new

pub returns-clause-growth_fits : goal.returns-clause-growth_fits
returns-clause-growth_fits c = run-fits
