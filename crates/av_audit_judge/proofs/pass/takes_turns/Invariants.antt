use Rattle.std.proofs.Common.{◌<◌, ◌-◌, ◌^◌, ℕ, Bool, List, length}
use Rattle.av_plain.specs.Ledger.{Ledger}
use Rattle.av_plain.specs.Pass.{Turns, frames_in_turn}
use Rattle.av_audit_book.specs.Book.{ledger_of}
use Rattle.av_audit_book.specs.Machine.{setting_of}
use Rattle.av_audit_book.specs.Spared.{frames_by_turn, spared_of}
use Rattle.av_audit_judge.specs.Finds.{Reads}
use Rattle.av_audit_judge.specs.Pass.{AreFirst}
use Rattle.av_audit_judge.proofs.TurnLaws.{AreLeft, SameTurns}
use Rattle.av_audit_judge.proofs.pass.takes_turns.Given as goal

-- what is read from here on is what is read
abbrev pub invariant-loop-listed : goal.invariant-loop-listed
invariant-loop-listed l = record {
  fits : l.past < 2 ^ 63;
  same : SameTurns l.spared (ledger_of l.fn.book) (ledger_of l.book);
  listed : AreFirst l.listed.items (frames_by_turn (ledger_of l.book));
  later : (read : Bool) (l' : Ledger) (left : List ℕ)
      → Reads (AreLeft (setting_of l.machine) l.spared (ledger_of l.fn.book) (ledger_of l.book) l.past) (ledger_of l.book)
      l.unit.rest.now read l' left
      → Reads (Turns (setting_of l.machine) (spared_of l.spared (ledger_of l.fn.book)) (ledger_of l.fn.book)
      (frames_in_turn (spared_of l.spared (ledger_of l.fn.book)) (ledger_of l.fn.book))) (ledger_of l.fn.book) l.fn.unit.rest.now read l' left;
}

abbrev pub decreases-loop-listed : goal.decreases-loop-listed
decreases-loop-listed l = length (frames_by_turn (ledger_of l.book)) - l.past
