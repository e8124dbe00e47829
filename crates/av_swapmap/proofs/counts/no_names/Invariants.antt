use Rattle.std.proofs.Common.{◌≡◌, ℕ, length, get_or, take, ◌&&◌, ltb, cond}
use Rattle.av_base.specs.Words.{is_in}
use Rattle.av_swapmap.proofs.counts.no_names.Given as goal

abbrev pub invariant-loop-page : goal.invariant-loop-page
invariant-loop-page l = (length l.bytes.items ≡ l.fn.pages) × ((p : ℕ) →
    get_or l.bytes.items p 0 ≡ cond (ltb p l.fn.pages && is_in p (take l.page-index l.bad)) 63 0)
