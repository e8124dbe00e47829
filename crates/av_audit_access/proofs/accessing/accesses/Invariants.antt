use Rattle.std.proofs.Common.{◌<◌, ◌^◌, Bool, ℕ, Option, length}
use Rattle.std.specs.List.{AllByRecursion}
use Rattle.av_plain.specs.Access.{End}
use Rattle.av_plain.specs.Ledger.{Ledger}
use Rattle.av_plain.specs.World.{World}
use Rattle.av_audit_book.specs.Book.{ledger_of}
use Rattle.av_audit_book.specs.Machine.{setting_of}
use Rattle.av_audit_world.specs.Memories.{IsWorld}
use Rattle.av_audit_access.specs.Access.{Ends}
use Rattle.av_audit_access.proofs.AccessLaws.{Goes}
use Rattle.av_audit_access.proofs.accessing.accesses.Given as goal

-- what is told from here on is what is told
abbrev pub invariant-loop-rest : goal.invariant-loop-rest
invariant-loop-rest l = record {
  told : (w : World) → IsWorld l.memories w → (found : Option End) (l' : Ledger)
      → Ends (Goes (setting_of l.machine) w (ledger_of l.book) l.process l.rest) (ledger_of l.book) l.unit.rest.now found l'
      → Ends (Goes (setting_of l.machine) w (ledger_of l.fn.book) l.process l.pages) (ledger_of l.fn.book) l.notes found l';
  pages : AllByRecursion (λ (page : Bool × ℕ). page.1 < 2 ^ 52) l.rest;
}

abbrev pub decreases-loop-rest : goal.decreases-loop-rest
decreases-loop-rest l = length l.rest
