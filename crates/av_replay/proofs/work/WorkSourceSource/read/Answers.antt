use Rattle.std.proofs.Common.{◌≤◌, Some, length, refl, sym, ap, ◌∙◌, arith}
use Rattle.std.proofs.lemmas.Bool.{eqb-false}
use Rattle.av_replay.proofs.Works.{taken_as, ended, no_length}
use Rattle.av_replay.proofs.work.WorkSourceSource.read.Goals as goal

pub returns-then-not-is_empty-clause-ok : goal.returns-then-not-is_empty-clause-ok
returns-then-not-is_empty-clause-ok g c =
    let made = c.make_line.ensures in
    let s = c.make_line.new.self in
    let n = c.min-count.result in
    let few : n ≤ length s.rest.now = omega (arith, c.min-count.ensures) in
    let fits : n ≤ length c.args.into.now = omega (arith, c.min-count.ensures) in
    record {
      within = omega (arith, fits, c.fill_front.ensures.len);
      bytes = ap Some (sym made.same ∙ taken_as n s.draws s.rest.now s.is_begun s.lines s.number _ few c.fill_front.ensures.front);
      ended = λ some none. let empty = no_length s.rest.now (omega (arith, c.min-count.ensures, none, some, c.fill_front.ensures.len)) in
          ended n s.draws s.rest.now s.is_begun s.lines s.number none empty (made.none empty);
      told = λ some. refl;
      no_room = λ none. absurd (eqb-false _ 0 (sym c.is_empty.ensures ∙ c.if-not-is_empty.true) none);
      reads = made.reads ∙ c.saturating_add-self.ensures;
      unfailed = refl;
    }
