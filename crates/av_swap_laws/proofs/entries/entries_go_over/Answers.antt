use Rattle.av_swap_laws.proofs.Fork.{fork_entry-stands}
use Rattle.av_swap_laws.proofs.entries.entries_go_over.Goals as goal

pub returns : goal.returns
returns c = fork_entry-stands
