use Rattle.std.proofs.Common.{arith, ◌≡◌, ◌≤◌, ◌<◌, ℕ, List, ap, sym, subst, ◌∙◌, length, slice_set}
use Rattle.av_frames.specs.Pages.{zeros}
use Rattle.av_frames.proofs.Written.{length_pages, page_cleared, page_in_place}
use Rattle.av_frames.proofs.pages.Pages.clear.Goals as goal

pub returns-then-frame-len : goal.returns-then-frame-len
returns-then-frame-len c =
    let s = c.self.inside in
    let written : c.args.frame < length s.filled.items = omega (arith, c.if-frame-len.true, c.len.ensures, s.filled.ok.0) in
    page_in_place s.filled.items c.args.frame s.count zeros written ∙ ap (λ v. slice_set v c.args.frame zeros) c.self.view_is

pub returns-else-frame-len : goal.returns-else-frame-len
returns-else-frame-len c =
    let s = c.self.inside in
    let few : length s.filled.items ≤ s.count = omega (arith, c.self.invariant.0, s.filled.ok.0) in
    let past : length s.filled.items ≤ c.args.frame = omega (arith, c.if-frame-len.false, c.len.ensures, s.filled.ok.0) in
    let below : c.args.frame < s.count = omega (
      arith,
      length_pages s.filled.items s.count few,
      subst (λ (v : List (List ℕ)). c.args.frame < length v)
          (sym c.self.view_is) c.requires,
    ) in
    subst (λ (v : List (List ℕ)). v ≡ slice_set v c.args.frame zeros) c.self.view_is (page_cleared s.filled.items c.args.frame s.count past below)
