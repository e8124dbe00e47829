use Rattle.av_swap_laws.proofs.Homes.{home-any}
use Rattle.av_swap_laws.proofs.coming.homes_go_by_any_page.Goals as goal

pub returns : goal.returns
returns c = λ l r s k sorted h names. home-any l r s k sorted h names
