use Rattle.std.proofs.Common.{◌≡◌, Bool, true, false, not, ◌&&◌, refl, sym, ap, ◌∙◌}
use Rattle.std.proofs.Math.Bool.{beq}
use Rattle.av_base.specs.declared.flags.Flags.{Flags}
use Rattle.av_base.specs.declared.prot.Prot.{Prot}
use Rattle.av_vma.specs.Join.{same_flags, same_prot}
use Rattle.av_vma.specs.Pages.{alters}
use Rattle.av_vma.proofs.Join.{same_as_itself}
use Rattle.av_merge.specs.Changing.{effect_of}
use Rattle.av_merge.specs.declared.changing.Change.{Change}
use Rattle.av_merge.proofs.changing.Change.alters.Goals as goal

four : (a b c d : Bool) → a && (b && (c && d)) ≡ a && b && c && d
four true true c d = refl
four true false c d = refl
four false b c d = refl

-- flags that aren't the same make an area another, with its protection
flags_differ : (f g : Flags) (prot : Prot)
    → not (beq f.dont_fork g.dont_fork && (beq f.wipe_on_fork g.wipe_on_fork && (beq f.locked g.locked && beq f.mergeable g.mergeable)))
    ≡ not (same_prot prot prot && same_flags f g)
flags_differ f g prot =
    ap not (four (beq f.dont_fork g.dont_fork) (beq f.wipe_on_fork g.wipe_on_fork) (beq f.locked g.locked) (beq f.mergeable g.mergeable))
    ∙ ap (λ b. not (b && same_flags f g)) (sym (same_as_itself prot))

pub returns-in-Flag : goal.returns-in-Flag
returns-in-Flag c =
    let area = c.args.area.now in
    c.ne-in-Flag.ensures
    ∙ flags_differ c.with.result area.flags area.prot
    ∙ ap (λ (f : Flags). not (same_prot area.prot area.prot && same_flags f area.flags)) c.with.ensures
    ∙ ap (λ (change : Change). alters (effect_of change) area) (sym c.in-Flag.is)
