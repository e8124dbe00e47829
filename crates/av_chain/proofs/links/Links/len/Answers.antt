use Rattle.std.proofs.Common.{sym, ap, ◌∙◌, length}
use Rattle.av_chain.specs.Links.{chain_of}
use Rattle.av_chain.proofs.Passing.{chain_row, length_anons}
use Rattle.av_chain.proofs.links.Links.len.Goals as goal

pub returns : goal.returns
returns c =
    let bs = c.self.inside.lists.nodes.blocks in
    c.len.ensures ∙ sym (length_anons _) ∙ ap length (sym (chain_row bs c.args.area)) ∙ ap (λ ls. length (chain_of ls c.args.area)) c.self.view_is
