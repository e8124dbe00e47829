use Rattle.std.proofs.Common.{◌≡◌, ◌∙◌, ap, sym}
use Rattle.av_trace.specs.declared.row.Row.TheVariants as row
use Rattle.av_vma.specs.Index.{first_of}
use Rattle.av_plain.specs.Areas.{chain_by}
use Rattle.av_mem.specs.Mem.{anons_of}
use Rattle.av_report.proofs.ReportAreas.{own_chain}
use Rattle.av_report.proofs.report.area_row.Goals.{in-Some+in_ok-chain-in-Some, in-None}
use Rattle.av_report.proofs.report.area_row.Goals as goal

pub returns : goal.returns
returns c =
    let mem = c.args.mem.now in
    let area = c.args.area.now in
    let chain : c.match-area.chain.items ≡ chain_by (anons_of mem.spaces mem.anons) area.anon = elim c.match-area.branch [
      | in-Some+in_ok-chain-in-Some w ↦
          ap (λ chain. chain.items) w.chain-is ∙ w.in_ok-chain-in-Some.ensures
          ∙ own_chain mem.spaces mem.anons c.args.process (first_of area) area c.requires.fit c.requires.area
      | in-None w ↦ ap (λ chain. chain.items) w.chain-is ∙ w.new-chain.ensures.items
          ∙ ap (chain_by (anons_of mem.spaces mem.anons)) (sym w.in-None.is)
    ] in
    λ i. row.Area area.start area.end area.prot area.pgoff area.anon ((c.from_vec.ensures ∙ chain) i) area.flags
