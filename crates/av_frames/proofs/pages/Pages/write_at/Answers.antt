use Rattle.std.proofs.Common.{arith, ◌≡◌, ◌≤◌, ◌<◌, [], ℕ, List, ap, sym, subst, ◌∙◌, length, get_or, slice_set, slice_index}
use Rattle.av_frames.specs.Pages.{all_pages}
use Rattle.av_frames.specs.Store.{overlaid}
use Rattle.av_frames.proofs.Written.{page_set, page_read, length_pages}
use Rattle.av_frames.proofs.pages.Pages.write_at.Goals as goal

pub returns : goal.returns
returns c =
    let s = c.self.inside in
    let few : length s.filled.items ≤ s.count = omega (arith, c.self.invariant.0, s.filled.ok.0) in
    let below : c.args.frame < s.count = omega (
      arith,
      length_pages s.filled.items s.count few,
      subst (λ (v : List (List ℕ)). c.args.frame < length v)
          (sym c.self.view_is) c.requires.in_range,
    ) in
    let page = c.overlay.new.page in
    let read : c.index_mut.result.now ≡ get_or (all_pages s.filled.items s.count) c.args.frame [] =
    page_read s.filled.items c.args.frame s.count c.index_mut.result.now below
    (c.index_mut.ensures.value ∙ ap (λ l. get_or l c.args.frame c.index_mut.result.now) c.fill.ensures.items) in (
      page,
      ap (λ l. all_pages (slice_set l c.args.frame page) s.count) c.fill.ensures.items
          ∙ page_set s.filled.items c.args.frame s.count page below
          ∙ ap (λ v. slice_set v c.args.frame page) c.self.view_is,
      λ i. c.overlay.ensures.over i ∙ ap (λ b. overlaid c.args.at c.args.piece.now (slice_index b) i)
          (read ∙ ap (λ v. get_or v c.args.frame []) c.self.view_is),
    )
