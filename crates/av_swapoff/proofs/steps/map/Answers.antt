use Rattle.std.proofs.Common.{◌∷◌, [], false}
use Rattle.av_base.specs.Page.{address_of}
use Rattle.av_trace.specs.declared.note.Note.TheVariants.{Mapped}
use Rattle.av_evict.proofs.SystemLaws.{at-knows, makes-gives}
use Rattle.av_swapoff.specs.System.{MayMap}
use Rattle.av_swapoff.proofs.SlotLaws.{map-sound}
use Rattle.av_swapoff.proofs.steps.map.Goals as goal

pub map-requires : goal.map-requires
map-requires g c = at-knows (g.S.System.view c.args.system.now false) (MayMap c.args.slot c.args.frame c.args.key) c.requires.may

pub returns-clause-gives : goal.returns-clause-gives
returns-clause-gives g c = λ told.
    let k = c.args.key in
    makes-gives _ _ _ _ (MayMap c.args.slot c.args.frame k) (Mapped k.0 (address_of k.1) c.args.frame ∷ []) (c.map.ensures.makes told)
    c.in_ok-push.ensures.ok
    (λ l sound stands may. map-sound _ l c.args.slot c.args.frame k sound may)
