use Rattle.std.proofs.Common.{rules, ◌≡◌, ℕ, suc, ◌+◌, Bor, List, [], ◌∷◌, ◌++◌, length, length-append, get_or, Some, None, is_some, refl, sym, ap, subst, ◌∙◌}
use Rattle.std.proofs.Common.{arith}
use Rattle.std.specs.Prelude.{if◌then◌else◌}
use Rattle.av_plain.specs.Device.{seen_by}
use Rattle.av_replay.specs.Attach.{Attaches, Tries}
use Rattle.av_replay.proofs.Attached.{Begun, attached_more, begun-next, named-at, named-below, names_in, tries-failed, tries-well}
use Rattle.av_replay.proofs.attach.attach_all.Goals as goal

-- an area is attached, and then memory is wanting for its size
pub returns-then-is_err-clause-wanting : goal.returns-then-is_err-clause-wanting
returns-then-is_err-clause-wanting g c = λ wanting.
    let names = names_in c.args.names.now in
    let none : Bor (List ℕ) = record { ref_ptr = (0, 0); now = [] } in
    let old = g.D.SwapDev.history c.args.dev.now in
    let mid = g.D.SwapDev.history c.loop-area.dev in
    let new = g.D.SwapDev.history c.attach.new.self in
    let many : suc c.loop-area.area ≡ length (c.loop-area.pages.items ++ c.in_ok-size.size ∷ []) =
    omega (arith, length-append c.loop-area.pages.items (c.in_ok-size.size ∷ []), c.loop-area.invariant.many) in
    let next = begun-next names c.loop-area.area old mid new c.loop-area.invariant.begun c.loop-area.invariant.within
    (get_or c.args.names.now c.loop-area.area none).now (named-at c.args.names.now c.loop-area.area none c.loop-area-test.true)
    c.in_ok-size.ensures.asked in (
      c.loop-area.pages.items ++ c.in_ok-size.size ∷ [],
      omega (arith, length-append c.loop-area.pages.items (c.in_ok-size.size ∷ []), c.loop-area.invariant.many),
      attached_more c.loop-area.pages.items c.in_ok-size.size c.loop-area.area _ _ _ (sym c.loop-area.invariant.many) c.loop-area.invariant.attaches
          c.in_ok-size.ensures.size c.in_ok-size.ensures.most c.in_ok-size.ensures.renewed c.in_ok-size.ensures.unfailed,
      None,
      subst (λ n. Tries names n None old new) many (tries-well names (suc c.loop-area.area) old new new next
          (named-below c.args.names.now c.loop-area.area c.loop-area-test.true) refl),
    )

-- an area could not be attached
pub returns-in_err-size-clause-fewer : goal.returns-in_err-size-clause-fewer
returns-in_err-size-clause-fewer g c = λ failed.
    let names = names_in c.args.names.now in
    let none : Bor (List ℕ) = record { ref_ptr = (0, 0); now = [] } in
    let name = (get_or c.args.names.now c.loop-area.area none).now in
    let old = g.D.SwapDev.history c.args.dev.now in
    let mid = g.D.SwapDev.history c.loop-area.dev in
    let new = g.D.SwapDev.history c.attach.new.self in
    record {
      pages = c.loop-area.pages.items;
      fewer = omega (arith, c.loop-area.invariant.many, named-below c.args.names.now c.loop-area.area c.loop-area-test.true);
      sizes = c.in_err-size.ensures.same_sizes ∙ c.loop-area.invariant.attaches.sizes;
      told = ap is_some c.in_err-size.ensures.same_pages ∙ c.loop-area.invariant.attaches.told;
      failed = name;
      tries = subst (λ n. Tries names n (Some name) old new) (sym c.loop-area.invariant.many)
          (tries-failed names c.loop-area.area old mid new c.loop-area.invariant.begun c.loop-area.invariant.within name
          (named-at c.args.names.now c.loop-area.area none c.loop-area-test.true) c.in_err-size.ensures.asked);
    }

pub returns-in_err-size-clause-wanting : goal.returns-in_err-size-clause-wanting
returns-in_err-size-clause-wanting g c = λ wanting.
    let names = names_in c.args.names.now in
    let none : Bor (List ℕ) = record { ref_ptr = (0, 0); now = [] } in
    let name = (get_or c.args.names.now c.loop-area.area none).now in
    let old = g.D.SwapDev.history c.args.dev.now in
    let mid = g.D.SwapDev.history c.loop-area.dev in
    let new = g.D.SwapDev.history c.attach.new.self in
    let unfailed : g.D.SwapDev.failures c.attach.new.self ≡ g.D.SwapDev.failures c.loop-area.dev = search rules in (
      c.loop-area.pages.items,
      omega (arith, c.loop-area.invariant.many, c.loop-area-test.true),
      record {
        small = c.loop-area.invariant.attaches.small;
        sizes = c.in_err-size.ensures.same_sizes ∙ c.loop-area.invariant.attaches.sizes;
        told = ap is_some c.in_err-size.ensures.same_pages ∙ c.loop-area.invariant.attaches.told;
        failures = unfailed ∙ c.loop-area.invariant.attaches.failures;
      },
      Some name,
      subst (λ n. Tries names n (Some name) old new) (sym c.loop-area.invariant.many)
          (tries-failed names c.loop-area.area old mid new c.loop-area.invariant.begun c.loop-area.invariant.within name
          (named-at c.args.names.now c.loop-area.area none c.loop-area-test.true) c.in_err-size.ensures.asked),
    )

pub loop-area-preserved : goal.loop-area-preserved
loop-area-preserved g c =
    let old = seen_by g.D.SwapDev.sizes g.D.SwapDev.pages g.D.SwapDev.failures g.D.SwapDev.history c.args.dev.now in
    let new = seen_by g.D.SwapDev.sizes g.D.SwapDev.pages g.D.SwapDev.failures g.D.SwapDev.history c.attach.new.self in
    let none : Bor (List ℕ) = record { ref_ptr = (0, 0); now = [] } in
    let next_place : suc c.loop-area.area ≡ c.loop-area.area + 1 = omega arith in
    let items : c.push.new.self.items ≡ c.loop-area.pages.items ++ c.in_ok-size.size ∷ [] = c.push.ensures.items
    ∙ ap (λ b. if b then c.loop-area.pages.items ++ c.in_ok-size.size ∷ [] else c.loop-area.pages.items) c.if-is_err.ensures.negation in
    record {
      many = omega (arith, ap length items, length-append c.loop-area.pages.items (c.in_ok-size.size ∷ []), c.loop-area.invariant.many);
      attaches = subst (λ pages. Attaches pages old new) (sym items)
          (attached_more c.loop-area.pages.items c.in_ok-size.size c.loop-area.area _ _ _ (sym c.loop-area.invariant.many)
          c.loop-area.invariant.attaches
          c.in_ok-size.ensures.size c.in_ok-size.ensures.most c.in_ok-size.ensures.renewed c.in_ok-size.ensures.unfailed);
      begun = subst (λ n. Begun (names_in c.args.names.now) n old.history new.history) next_place
          (begun-next (names_in c.args.names.now) c.loop-area.area old.history (g.D.SwapDev.history c.loop-area.dev) new.history
          c.loop-area.invariant.begun
          c.loop-area.invariant.within (get_or c.args.names.now c.loop-area.area none).now
          (named-at c.args.names.now c.loop-area.area none c.loop-area-test.true) c.in_ok-size.ensures.asked);
      within = omega (arith, named-below c.args.names.now c.loop-area.area c.loop-area-test.true);
    }
