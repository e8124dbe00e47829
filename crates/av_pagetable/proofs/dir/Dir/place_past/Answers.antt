use Rattle.std.proofs.Common.{◌≡◌, ◌-◌, ◌<◌, get_or, length, arith, subst}
use Rattle.av_pagetable.specs.Parts.{parts_in}
use Rattle.av_pagetable.proofs.DirParts.{after_last, before_first}
use Rattle.av_pagetable.proofs.dir.Dir.place_past.Goals as goal

pub returns-then-number-first : goal.returns-then-number-first
returns-then-number-first g c =
    let parts = parts_in c.self.inside.parts in
    let less : c.args.number < c.at.result.now.0 = subst (λ n. c.args.number < n) c.from-first.ensures c.if-number-first.true in
    rw (← c.self.view_is) (
      omega arith,
      (λ k d low high. absurd (omega (arith, low, high))),
      before_first parts c.args.number c.at.result.now
          c.self.invariant.rising c.at.ensures less,
    )

pub returns-then-from-number : goal.returns-then-from-number
returns-then-from-number g c =
    let parts = parts_in c.self.inside.parts in
    let len = c.len-len.ensures in
    let less : c.at-2.result.now.0 < c.args.number = subst (λ n. n < c.args.number) c.from.ensures c.if-from-number.true in
    let last : c.at-2.result.now ≡ get_or parts (length parts - 1) c.at-2.result.now =
    subst (λ n. c.at-2.result.now ≡ get_or parts (n - 1) c.at-2.result.now) (omega (arith, len)) c.at-2.ensures in
    let lower = after_last parts c.args.number c.at-2.result.now c.self.invariant.rising last less in
    rw (← c.self.view_is) (
      omega (arith, len),
      (λ k d low high. lower k d (omega (arith, len, high))),
      (λ k d low high. absurd (omega (arith, len, low, high))),
    )
