use Rattle.std.proofs.Common.{[], ◌∷◌, Bool}
use Rattle.av_plain.specs.Device.{as_told, seen_by}
use Rattle.av_swapoff.proofs.UsersTold.{all-told, within}
use Rattle.av_swapoff.proofs.driver.DriverSlotSystem.users.Goals as goal

pub users-requires : goal.users-requires
users-requires g c = within _ _ c.args.self.now.mem.now _ _ _ c.requires.1 c.requires.2.2

pub returns-clause-users : goal.returns-clause-users
returns-clause-users g c =
    let driver = c.args.self.now in
    let dev = driver.dev.now in
    all-told (λ users. users.items) (driver.mem.ghost_name ∷ driver.dev.ghost_name ∷ [])
    (λ (told : Bool). as_told told (seen_by g.D.SwapDev.sizes g.D.SwapDev.pages g.D.SwapDev.failures g.D.SwapDev.history dev))
    driver.mem.now c.args.area c.users.result c.users.ensures.users
