use Rattle.av_pagetable.specs.Entries.{entry_at}
use Rattle.av_ksm.proofs.PagesLaws.{next-ahead, next-below, next-key}
use Rattle.av_ksm.proofs.pages.next_page.Goals as goal

pub returns-clause-next : goal.returns-clause-next
returns-clause-next c = λ d w r l h. next-key d c.args.mem.now w r l h c.keeps.ensures c.args.from c.next_entry.result c.next_entry.ensures

pub returns-clause-below : goal.returns-clause-below
returns-clause-below c = next-below (entry_at c.args.mem.now.tables) c.args.from c.next_entry.result c.next_entry.ensures

pub returns-clause-ahead : goal.returns-clause-ahead
returns-clause-ahead c = next-ahead (entry_at c.args.mem.now.tables) c.args.from c.next_entry.result c.next_entry.ensures
