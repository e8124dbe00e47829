use Rattle.std.proofs.Common.{ap, sym, ◌∙◌}
use Rattle.std.specs.Prelude.{option_map}
use Rattle.av_audit_world.specs.Space.{marks_of}
use Rattle.av_audit_world.proofs.WorldLaws.{marks-found, no-marks}
use Rattle.av_audit_neighbour.proofs.held.page_marks.Goals as goal

pub returns-in-None : goal.returns-in-None
returns-in-None c = λ w h. sym (no-marks _ w c.args.key.0 c.args.key.1 (c.get.ensures.process w h) (ap (option_map (λ s. s.now)) c.in-None.is))

pub returns-in-Some : goal.returns-in-Some
returns-in-Some c = λ w h. ap (option_map marks_of) c.marks.ensures ∙ marks-found _ w c.args.key.0 c.args.key.1 c.in-Some.space.now
    (c.get.ensures.process w h) (ap (option_map (λ s. s.now)) c.in-Some.is)
