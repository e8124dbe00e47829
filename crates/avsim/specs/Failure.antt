-- How the program ends: by the status of a run.
use Rattle.std.specs.Prelude.{ℕ, Option, None, Some}
use Rattle.av_replay.specs.declared.status.Status.{Status}
use Rattle.av_replay.specs.declared.status.Status.TheVariants as statuses
use Rattle.avsim.specs.declared.failure.Failure.{Failure}
use Rattle.avsim.specs.declared.failure.Failure.TheVariants as failures

-- the number with which it ends
abbrev pub number_of : Status → ℕ
number_of statuses.Done = 0
number_of statuses.Usage = 2
number_of (statuses.BadLine n) = 3
number_of statuses.ReadFault = 4
number_of statuses.WriteFault = 5
number_of statuses.Memory = 6
number_of statuses.TooMany = 7
number_of statuses.AttachFault = 8
number_of (statuses.Illegal n) = 9
number_of statuses.TooLong = 10

-- the failure whose text is printed
abbrev pub failure_of : Status → Option Failure
failure_of statuses.Done = None
failure_of statuses.Usage = Some failures.Usage
failure_of (statuses.BadLine n) = Some (failures.BadLine n)
failure_of statuses.ReadFault = Some failures.Read
failure_of statuses.WriteFault = Some failures.Write
failure_of statuses.Memory = Some failures.Memory
failure_of statuses.TooMany = Some failures.TooMany
failure_of statuses.AttachFault = Some failures.Attach
failure_of (statuses.Illegal n) = Some (failures.Illegal n)
failure_of statuses.TooLong = Some failures.TooLong
