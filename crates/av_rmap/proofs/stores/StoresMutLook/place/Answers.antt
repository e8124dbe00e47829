use Rattle.std.proofs.Common.{◌≡◌, true, sym, subst}
use Rattle.std.specs.Prelude.{IfSome, IsSomeAnd}
use Rattle.av_rmap.specs.View.{View}
use Rattle.av_rmap.specs.Walk.{holds, page_at}
use Rattle.av_rmap.proofs.stores.StoresMutLook.place.Goals as goal

pub place-requires : goal.place-requires
place-requires g c = subst (λ (v : View). IsSomeAnd (v.areas c.args.area) (λ a. holds c.args.index a ≡ true)) (sym c.stores.ensures) c.requires

pub returns : goal.returns
returns g c = subst (λ (v : View). IfSome (v.areas c.args.area) (λ a. c.place.result ≡ (a.pid, page_at c.args.index a))) c.stores.ensures
    c.place.ensures
