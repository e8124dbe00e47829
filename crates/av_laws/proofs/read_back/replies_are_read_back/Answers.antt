use Rattle.av_laws.proofs.ReadBack.{asked-on, asked-wide, legal-reads_back}
use Rattle.av_laws.proofs.read_back.replies_are_read_back.Goals as goal

pub returns : goal.returns
returns c = λ m w l command reply events few s small fit wide on legal. legal-reads_back m w l few s small command reply events fit
    (asked-wide command reply.rows wide) (asked-on m command reply.answer on) legal
