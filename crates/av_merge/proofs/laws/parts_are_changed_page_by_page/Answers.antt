use Rattle.av_merge.proofs.ChangingByPage.{page_by_page}
use Rattle.av_merge.proofs.laws.parts_are_changed_page_by_page.Goals as goal

pub returns : goal.returns
returns c = λ len on effect from n area laid here does high. page_by_page len effect on laid from area here does n high
