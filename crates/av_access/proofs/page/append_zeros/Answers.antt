use Rattle.std.proofs.Common.{◌≡◌, ◌++◌, subst}
use Rattle.std.specs.Prelude.{OnOk}
use Rattle.std.proofs.lemmas.List.{take-replicate}
use Rattle.av_access.proofs.page.append_zeros.Goals as goal

pub returns : goal.returns
returns c = subst (λ zeros. OnOk c.append.result (c.append.new.self ≡ c.args.shown.now ++ zeros))
    (take-replicate c.args.len 4096 0 c.requires) c.append.ensures.ok
