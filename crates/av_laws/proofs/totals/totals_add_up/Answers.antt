use Rattle.av_plain.proofs.Report.Totals.{frames-add}
use Rattle.av_laws.proofs.totals.totals_add_up.Goals as goal

pub returns : goal.returns
returns c = λ m w l s. frames-add m l s.ledger
