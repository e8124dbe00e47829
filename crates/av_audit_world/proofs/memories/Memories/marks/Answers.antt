use Rattle.std.proofs.Common.{ap, sym, ◌∙◌}
use Rattle.std.specs.Prelude.{option_map}
use Rattle.av_audit_world.specs.Space.{marks_of}
use Rattle.av_audit_world.proofs.WorldLaws.{marks-found, no-marks, spaces-find}
use Rattle.av_audit_world.proofs.memories.Memories.marks.Goals as goal

pub returns-in-None-clause-pages : goal.returns-in-None-clause-pages
returns-in-None-clause-pages c = λ w h. sym (no-marks _ w c.args.number c.args.page
    (spaces-find c.args.self.now.spaces.entries w c.args.number h.spaces) (sym c.in-None.ensures.value))

pub returns-in-Some-clause-pages : goal.returns-in-Some-clause-pages
returns-in-Some-clause-pages c = λ w h. ap (option_map marks_of) c.marks.ensures ∙ marks-found _ w c.args.number c.args.page c.in-Some.space.now
    (spaces-find c.args.self.now.spaces.entries w c.args.number h.spaces) (sym c.in-Some.ensures.value)
