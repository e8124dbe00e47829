use Rattle.std.proofs.Common.{◌∷◌, [], append-nil, sym, None, Some, false}
use Rattle.av_trace.specs.declared.note.Note.TheVariants.{Loaded}
use Rattle.av_evict.specs.System.{Adds}
use Rattle.av_evict.proofs.SystemLaws.{at-knows, gives-as, loose, makes-gives}
use Rattle.av_swapoff.specs.Slot.{IsLoaded}
use Rattle.av_swapoff.specs.System.{MayLoad}
use Rattle.av_swapoff.proofs.SlotLaws.{load-sound}
use Rattle.av_swapoff.proofs.steps.load.Goals as goal

pub load-requires : goal.load-requires
load-requires g c = let k = g.S.System.view c.args.system.now false in at-knows k (MayLoad k.setting c.args.slot c.args.user) c.requires

pub returns-in_default-clause-gives : goal.returns-in_default-clause-gives
returns-in_default-clause-gives g c = λ told.
    let k = g.S.System.view c.args.system.now told in
    let s = c.args.slot in
    let u = c.args.user in
    gives-as _ _ c.args.notes.now c.args.notes.now (MayLoad k.setting s u) (MayLoad k.setting s u) (Adds []) (IsLoaded k.setting s None)
    (makes-gives _ _ _ _ (MayLoad k.setting s u) [] (c.in_default.ensures.loads told) (sym (append-nil _)) (λ l sound stands may. sound))
    (λ l sound stands may. may) (λ l ns sound stands may is. is)

pub returns-clause-gives : goal.returns-clause-gives
returns-clause-gives g c = λ told.
    let k = g.S.System.view c.args.system.now told in
    let s = c.args.slot in
    let u = c.args.user in
    let f = c.in-Some.frame in
    gives-as _ _ _ _ (MayLoad k.setting s u) (MayLoad k.setting s u) (Adds (Loaded s f ∷ [])) (IsLoaded k.setting s (Some f))
    (makes-gives _ _ _ _ (MayLoad k.setting s u) (Loaded s f ∷ []) (c.in-Some.ensures.loads told) c.in_ok-push.ensures.ok
    (λ l sound stands may. let fits = c.in-Some.ensures.frame told l (loose _ _ l sound) stands may in
    load-sound k.setting l s u f sound may fits.0 fits.1))
    (λ l sound stands may. may)
    (λ l ns sound stands may is. let fits = c.in-Some.ensures.frame told l (loose _ _ l sound) stands may in (fits.0, fits.1, is))
