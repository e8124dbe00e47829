use Rattle.std.proofs.Common.{inl, inr, sym, ◌∙◌, arith}
use Rattle.av_swapcache.specs.Swap.{shown}
use Rattle.av_swapcache.specs.contracts.swap.Swap.{the_view}
use Rattle.av_swapcache.proofs.Giving.{found_first, now_first, still_first}
use Rattle.av_swapcache.proofs.swap.Swap.giving.Goals as goal
use Rattle.av_swapcache.proofs.swap.Swap.giving.Goals.{then-can_give+then-outranks, else-can_give, else-can_give-via-then-can_give+else-outranks, else-can_give-via-else-can_give}

pub loop-area-preserved : goal.loop-area-preserved
loop-area-preserved c =
    let h = shown c.args.self.now in
    elim c.if-can_give.branch [
      | then-can_give+then-outranks w ↦ rw w.first-is (now_first h c.loop-area.area c.loop-area.first c.loop-area.invariant
          (sym c.can_give.ensures ∙ w.if-can_give.true) (sym w.outranks.ensures ∙ w.if-outranks.true))
      | else-can_give w ↦ elim w.else-can_give.branch [
        | else-can_give-via-then-can_give+else-outranks v ↦ rw w.first-is (still_first h c.loop-area.area c.loop-area.first c.loop-area.invariant
            (inr (sym v.outranks.ensures ∙ v.if-outranks.false)))
        | else-can_give-via-else-can_give v ↦ rw w.first-is (still_first h c.loop-area.area c.loop-area.first c.loop-area.invariant
            (inl (sym c.can_give.ensures ∙ v.if-can_give.false)))
      ]
    ]

pub returns : goal.returns
returns c = found_first (the_view c.self.inside) c.args.self.now c.loop-area.area c.loop-area.first c.self.view_is
    c.self.invariant.eight (omega arith)
    c.loop-area.invariant
