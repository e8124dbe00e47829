use Rattle.std.proofs.Common.{List, length, set, take, drop, ◌++◌, sym, ap, ◌∙◌, length-set}
use Rattle.std.proofs.Math.Seq.{take-append_seam}
use Rattle.av_clusters.specs.declared.clusters.Page.{Page}
use Rattle.av_clusters.specs.declared.clusters.Page.TheVariants.{Unusable}
use Rattle.av_clusters.proofs.Fresh.{pages_are}
use Rattle.av_clusters.proofs.clusters.all_pages.Goals as goal

pub returns : goal.returns
returns c =
    let new = c.set_aside.new.pages in
    ap (λ k. take k (new ++ drop (length new) c.in_ok-pages.pages.items)) (sym (c.set_aside.ensures.len ∙ c.deref_mut.ensures.len))
    ∙ take-append_seam new
    (drop (length new) c.in_ok-pages.pages.items)
    ∙ pages_are c.args.count c.args.bad.now (set c.deref_mut.result.now 0 Unusable) new
    (ap (λ (ps : List Page). set ps 0 Unusable) (c.deref_mut.ensures.value ∙ c.in_ok-pages.ensures))
    (c.set_aside.ensures.len ∙ sym (length-set c.deref_mut.result.now 0 Unusable)) c.set_aside.ensures.page
