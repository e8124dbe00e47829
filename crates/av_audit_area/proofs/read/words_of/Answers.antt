use Rattle.av_audit_area.proofs.ReadLaws.{words-cut}
use Rattle.av_audit_area.proofs.read.words_of.Goals as goal

pub returns : goal.returns
returns c = λ row is read. words-cut row c.args.line.now _
    (record {
      none = c.piece.result.0.now;
      from_range = c.piece.result.1.now;
      range = c.piece-2.result.0.now;
      from_prot = c.piece-2.result.1.now;
      from_offset = c.piece-4.result.1.now;
      offset = c.piece-5.result.0.now;
      from_own = c.piece-5.result.1.now;
      own = c.piece-6.result.0.now;
      from_chain = c.piece-6.result.1.now;
      chain = c.piece-7.result.0.now;
      first = record { cut = c.piece.ensures.cut; all = c.piece.ensures.all };
      second = record { cut = c.piece-2.ensures.cut; all = c.piece-2.ensures.all };
      addresses = record { cut = c.piece-3.ensures.cut; all = c.piece-3.ensures.all };
      third = record { cut = c.piece-4.ensures.cut; all = c.piece-4.ensures.all };
      fourth = record { cut = c.piece-5.ensures.cut; all = c.piece-5.ensures.all };
      fifth = record { cut = c.piece-6.ensures.cut; all = c.piece-6.ensures.all };
      sixth = record { cut = c.piece-7.ensures.cut; all = c.piece-7.ensures.all };
      offset_is = c.bytes_behind.ensures;
      own_is = c.bytes_behind-2.ensures;
      chain_is = c.bytes_behind-3.ensures;
    }) is read
