use Rattle.av_swap_laws.proofs.Over.{written-over, written-same}
use Rattle.av_swap_laws.proofs.stores.writes_leave_headers.Goals as goal

pub returns : goal.returns
returns c = λ old new s bytes low written sizes.
    (written-same old new s bytes low written sizes, written-over old new s bytes low written sizes)
