-- The commands of a load are in range.
use Rattle.std.proofs.Common.{ℕ, suc, zero, ◌+◌, ◌%◌, ◌<◌, ◌≤◌, Bool, true, false, arith}
use Rattle.std.specs.Prelude.{if◌then◌else◌}
use Rattle.av_text.specs.Number.{IsNumberIn, IsProcess, IsWide}
use Rattle.av_trace.specs.Command.{IsInRange, IsFrameCount}
use Rattle.av_trace.specs.declared.command.Command.{Command}
use Rattle.av_trace.specs.declared.command.Command.TheVariants as commands
use Rattle.av_trace.specs.declared.place.Place.TheVariants.{Fixed}
use Rattle.av_replay.specs.Work.{address_of, command_by, command_of, draws_of, reads_and_writes}

either : (b : Bool) (c e : Command) → IsInRange c → IsInRange e → IsInRange (if b then c else e)
either true c e left right = left
either false c e left right = right

count : (v : ℕ) → IsFrameCount (1 + v % 4)
count v = record { least = omega arith; most = omega arith }

module _ (p page v : ℕ) (least : 1 ≤ p) (most : p ≤ 8) (pages : page < 16) (byte : v < 256) where
  process : IsProcess p
  process = record { least = omega (arith, least); most = omega (arith, most) }

  child : IsProcess (1 + v % 8)
  child = record { least = omega arith; most = omega arith }

  wide : IsWide (address_of page)
  wide = omega (arith, pages)

  page-long : IsWide 4096
  page-long = omega arith

  first : IsProcess 1
  first = record { least = omega arith; most = omega arith }

  one : IsNumberIn 1 4096 1
  one = record { least = omega arith; most = omega arith }

  is-command : (kind : ℕ) → kind < 16 → IsInRange (command_by kind p (address_of page) v)
  is-command zero few = (process, wide, (one, (byte, tt)))
  is-command (suc zero) few = (process, wide, (one, (byte, tt)))
  is-command (suc (suc zero)) few = (process, wide, (one, (byte, tt)))
  is-command (suc (suc (suc zero))) few = (process, wide, (one, (byte, tt)))
  is-command (suc (suc (suc (suc zero)))) few = (process, wide, (one, (byte, tt)))
  is-command (suc (suc (suc (suc (suc zero))))) few = (process, wide, one)
  is-command (suc (suc (suc (suc (suc (suc zero)))))) few = (process, wide, one)
  is-command (suc (suc (suc (suc (suc (suc (suc zero))))))) few = (process, wide, one)
  is-command (suc (suc (suc (suc (suc (suc (suc (suc zero)))))))) few = (process, wide, one)
  is-command (suc (suc (suc (suc (suc (suc (suc (suc (suc zero))))))))) few = (process, child)
  is-command (suc (suc (suc (suc (suc (suc (suc (suc (suc (suc zero)))))))))) few =
      either _ (commands.Read 1 (address_of page) 1) (commands.Exit p) (first, wide, one) process
  is-command (suc (suc (suc (suc (suc (suc (suc (suc (suc (suc (suc zero))))))))))) few = count v
  is-command (suc (suc (suc (suc (suc (suc (suc (suc (suc (suc (suc (suc zero)))))))))))) few = count v
  is-command (suc (suc (suc (suc (suc (suc (suc (suc (suc (suc (suc (suc (suc zero))))))))))))) few = count v
  is-command (suc (suc (suc (suc (suc (suc (suc (suc (suc (suc (suc (suc (suc (suc zero)))))))))))))) few = (process, wide, page-long)
  is-command (suc (suc (suc (suc (suc (suc (suc (suc (suc (suc (suc (suc (suc (suc (suc zero))))))))))))))) few =
      either _ (commands.Munmap p (address_of page) 4096) (commands.Mmap p 4096 reads_and_writes (Fixed (address_of page)))
      (process, wide, page-long) (process, page-long, wide)
  is-command (suc (suc (suc (suc (suc (suc (suc (suc (suc (suc (suc (suc (suc (suc (suc (suc n)))))))))))))))) few = absurd (omega (arith, few))

-- whatever the number that they are drawn of
pub drawn-command : (x : ℕ) → IsInRange (command_of (draws_of x))
drawn-command x = let d = draws_of x in
    is-command d.process d.page d.value (omega arith) (omega arith) (omega arith) (omega arith) d.kind (omega arith)
