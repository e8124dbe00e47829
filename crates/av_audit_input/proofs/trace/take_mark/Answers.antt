use Rattle.av_audit_input.proofs.InputLaws.{mark-fails, mark-stops, only-read}
use Rattle.av_audit_input.proofs.trace.take_mark.Goals as goal

pub returns-in-Err : goal.returns-in-Err
returns-in-Err g c =
    let old = g.P.Ports.view c.args.ports.now in
    let now = g.P.Ports.view c.read_line.new.ports in
    let mid = c.read_line.new.pending in
    let e = c.in-Err.error in
    rw c.last_error.ensures (record {
      taken = tt;
      stops = mark-stops old now mid e c.in-Err.ensures.line;
      near = c.in-Err.ensures.reads.near;
      same = c.in-Err.ensures.reads.same;
      only = only-read c.args.pending.now mid old now c.in-Err.ensures.reads c.in-Err.ensures.flushed;
      fails = mark-fails old now mid e c.in-Err.ensures.line c.in-Err.ensures.unfailed c.in-Err.ensures.none_kept;
      kept = c.in-Err.ensures.kept;
    })
