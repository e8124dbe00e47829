use Rattle.std.proofs.Common.{arith, ◌≤◌, ◌<◌, ◌++◌, ◌∷◌, [], ℕ, List, ap, sym, subst, ◌∙◌, length, slice_set}
use Rattle.av_frames.specs.Pages.{all_pages}
use Rattle.av_frames.proofs.Written.{page_in_place, page_pushed, length_pages}
use Rattle.av_frames.proofs.pages.Pages.copy.Goals as goal

pub returns-then-to-len : goal.returns-then-to-len
returns-then-to-len c =
    let s = c.self.inside in
    let written : c.args.to < length s.filled.items = omega (arith, c.if-to-len.true, c.len.ensures, s.filled.ok.0) in
    page_in_place s.filled.items c.args.to s.count c.get.result.now written
    ∙ ap (λ v. slice_set v c.args.to c.get.result.now) c.self.view_is
    ∙ ap (slice_set c.args.self.now c.args.to) c.get.ensures

pub returns-else-to-len : goal.returns-else-to-len
returns-else-to-len c =
    let s = c.self.inside in
    let page = c.get-page.result.now in
    let few : length s.filled.items ≤ s.count = omega (arith, c.self.invariant.0, s.filled.ok.0) in
    let past : length s.filled.items ≤ c.args.to = omega (arith, c.if-to-len.false, c.len.ensures, s.filled.ok.0) in
    let below : c.args.to < s.count = omega (
      arith,
      length_pages s.filled.items s.count few,
      subst (λ (v : List (List ℕ)). c.args.to < length v) (sym c.self.view_is) c.requires.1,
    ) in
    ap (λ l. all_pages l s.count) (c.push_reserved.ensures.items ∙ ap (λ l. l ++ page ∷ []) c.fill.ensures.items)
    ∙ page_pushed s.filled.items c.args.to s.count page past below
    ∙ ap (λ v. slice_set v c.args.to page) c.self.view_is
    ∙ ap (slice_set c.args.self.now c.args.to) c.get-page.ensures
