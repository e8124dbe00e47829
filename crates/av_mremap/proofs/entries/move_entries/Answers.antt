use Rattle.std.proofs.Common.{ap}
use Rattle.av_pagetable.specs.Entries.{entry_at}
use Rattle.av_mem.specs.declared.mem.Mem.{Mem}
use Rattle.av_mremap.proofs.EntriesLedger.{has_moved}
use Rattle.av_mremap.proofs.EntriesTables.{taken_out}
use Rattle.av_mremap.proofs.entries.move_entries.Goals as goal

pub returns-clause-entries : goal.returns-clause-entries
returns-clause-entries c =
    let a = c.args in
    taken_out (entry_at a.mem.now.tables) a.process a.pages a.from a.to c.requires.apart c.requires.bare
    (entry_at c.copy_entries.new.mem.tables) (entry_at c.clear_range.new.self) c.in_ok-copy_entries.ensures.entries c.clear_range.ensures.clears

pub returns-clause-moves : goal.returns-clause-moves
returns-clause-moves c = λ d l stands.
    let a = c.args in
    has_moved d a.mem.now (record c.copy_entries.new.mem { tables = c.clear_range.new.self }) a.process a.pages a.from a.to c.requires.bare
    (taken_out (entry_at a.mem.now.tables) a.process a.pages a.from a.to c.requires.apart c.requires.bare
    (entry_at c.copy_entries.new.mem.tables) (entry_at c.clear_range.new.self) c.in_ok-copy_entries.ensures.entries c.clear_range.ensures.clears)
    (ap (λ (k : Mem). record k { tables = c.clear_range.new.self }) c.in_ok-copy_entries.ensures.stay) l stands

pub returns-clause-stay : goal.returns-clause-stay
returns-clause-stay c = ap (λ (k : Mem). record k { tables = c.clear_range.new.self }) c.in_ok-copy_entries.ensures.stay
