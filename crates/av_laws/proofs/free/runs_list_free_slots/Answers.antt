use Rattle.av_plain.proofs.Device.{setting-layouts}
use Rattle.av_plain.proofs.FreeSteps.{step-lists_slots}
use Rattle.av_laws.proofs.FreeSlots.{run-lists_slots}
use Rattle.av_laws.proofs.free.runs_list_free_slots.Goals as goal

pub returns-clause-from_nothing : goal.returns-clause-from_nothing
returns-clause-from_nothing c = run-lists_slots

pub returns-clause-each_step : goal.returns-clause-each_step
returns-clause-each_step c m old new command reply = step-lists_slots m old command reply new

pub returns-clause-of_devices : goal.returns-clause-of_devices
returns-clause-of_devices c = setting-layouts
