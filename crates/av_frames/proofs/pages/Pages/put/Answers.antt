use Rattle.std.proofs.Common.{arith, ◌≤◌, ◌<◌, ℕ, List, ap, sym, subst, ◌∙◌, length, slice_set}
use Rattle.av_frames.specs.Pages.{all_pages}
use Rattle.av_frames.proofs.Written.{page_set, length_pages}
use Rattle.av_frames.proofs.pages.Pages.put.Goals as goal

pub returns : goal.returns
returns c =
    let s = c.self.inside in
    let few : length s.filled.items ≤ s.count = omega (arith, c.self.invariant.0, s.filled.ok.0) in
    let below : c.args.frame < s.count = omega (
      arith,
      length_pages s.filled.items s.count few,
      subst (λ (v : List (List ℕ)). c.args.frame < length v)
          (sym c.self.view_is) c.requires.in_range,
    ) in
    let page = c.overwrite.new.page in
    ap (λ l. all_pages (slice_set l c.args.frame page) s.count) c.fill.ensures.items
    ∙ page_set s.filled.items c.args.frame s.count page below
    ∙ ap (λ v. slice_set v c.args.frame page) c.self.view_is
    ∙ ap (slice_set c.args.self.now c.args.frame) c.overwrite.ensures
