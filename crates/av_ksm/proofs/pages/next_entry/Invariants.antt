use Rattle.std.proofs.Common.{◌≡◌, ◌-◌, ◌^◌, false}
use Rattle.av_pagetable.specs.Entries.{entry_at}
use Rattle.av_ksm.specs.Pages.{AreEmpty, is_before}
use Rattle.av_ksm.proofs.pages.next_entry.Given as goal

-- the page at which it is comes no earlier than the first, and there is none between
abbrev pub invariant-loop-page : goal.invariant-loop-page
invariant-loop-page l = record {
  up : is_before (l.process, l.least) l.fn.from ≡ false;
  passed : AreEmpty (entry_at l.tables) l.fn.from (l.process, l.least);
}

abbrev pub decreases-loop-page : goal.decreases-loop-page
decreases-loop-page l = 2 ^ 16 - l.process
