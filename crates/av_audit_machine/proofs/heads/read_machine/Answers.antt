use Rattle.std.proofs.Common.{◌≡◌, ◌+◌, ◌++◌, ◌∷◌, [], length, length-take-le, take, drop-cons, get_or, refl, sym, ap, subst, ◌∙◌, arith}
use Rattle.std.proofs.Common.{take-add, take_all}
use Rattle.std.specs.Prelude.{if◌then◌else◌}
use Rattle.std.proofs.lemmas.List.{with_items_is}
use Rattle.av_plain.specs.Device.{seen_by}
use Rattle.av_swapdev.specs.Device.{most_pages}
use Rattle.av_audit_book.specs.declared.machine.Machine.{Machine}
use Rattle.av_audit_machine.specs.Heads.{IsHead}
use Rattle.av_audit_machine.proofs.HeadLaws.{AreHeads, heads-more, machine-counted, machine-is, machine-named}
use Rattle.av_audit_machine.proofs.heads.read_machine.Goals as goal

pub loop-area-preserved : goal.loop-area-preserved
loop-area-preserved g c =
    let was = c.loop-area.invariant in
    let k = c.loop-area.area in
    let sizes = c.args.sizes.now in
    let pages = g.D.SwapDev.pages c.args.dev.now in
    let size = get_or sizes k 0 in
    let head = c.in_ok-head.head in
    let below = c.loop-area-test.true in
    let items : c.push.new.self.items ≡ c.loop-area.heads.items ++ head ∷ [] = c.push.ensures.items
    ∙ ap (λ b. if b then c.loop-area.heads.items ++ head ∷ [] else c.loop-area.heads.items) c.if-is_err.ensures.negation in
    let next : take (k + 1) sizes ≡ take k sizes ++ size ∷ [] =
    take-add k 1 sizes ∙ ap (λ l. take k sizes ++ take 1 l) (drop-cons sizes k 0 (omega (arith, below))) in
    let long : length (take k sizes) ≡ k = length-take-le k sizes (omega (arith, below)) in
    let is : IsHead pages k size head = subst (λ p. IsHead p k size head) was.same.pages c.in_ok-head.ensures.head in
    let there : IsHead pages (0 + length (take k sizes)) size head = let e : k ≡ 0 + length (take k sizes) = omega (arith, long) in
    subst (λ a. IsHead pages a size head) e is in
    record {
      heads = subst (λ s. AreHeads pages 0 s c.push.new.self.items) (sym next)
          (subst (λ hs. AreHeads pages 0 (take k sizes ++ size ∷ []) hs) (sym items)
          (heads-more pages 0 (take k sizes) size c.loop-area.heads.items head was.heads there));
      same = record {
        sizes = c.read_head.ensures.same.sizes ∙ was.same.sizes;
        pages = c.read_head.ensures.same.pages ∙ was.same.pages;
        failures = omega (arith, c.read_head.ensures.same.failures, was.same.failures);
        history = c.read_head.ensures.same.history ∙ was.same.history;
      };
      unfailed = c.in_ok-head.ensures.unfailed ∙ was.unfailed;
      long = ap length (with_items_is c.loop-area.page c.read_head.new.page (omega (arith, c.read_head.auto.page, c.deref_mut.ensures.len)))
          ∙ c.read_head.ensures.long;
    }

pub returns-clause-machine : goal.returns-clause-machine
returns-clause-machine g c =
    let d = seen_by g.D.SwapDev.sizes g.D.SwapDev.pages g.D.SwapDev.failures g.D.SwapDev.history c.args.dev.now in
    let machine : Machine = record { frames = c.args.frames; heads = c.loop-area.heads } in
    let all = take_all c.loop-area.area c.args.sizes.now (omega (arith, c.loop-area-test.false)) in
    machine-is c.args.frames d c.args.sizes.now machine refl c.requires.attached
    (subst (λ s. AreHeads d.pages 0 s machine.heads.items) all c.loop-area.invariant.heads)

pub returns-clause-named : goal.returns-clause-named
returns-clause-named g c =
    let pages = g.D.SwapDev.pages c.args.dev.now in
    let machine : Machine = record { frames = c.args.frames; heads = c.loop-area.heads } in
    let all = take_all c.loop-area.area c.args.sizes.now (omega (arith, c.loop-area-test.false)) in
    machine-named pages c.args.sizes.now machine most_pages (omega arith) (omega (arith, c.requires.few)) c.requires.small
    (subst (λ s. AreHeads pages 0 s machine.heads.items) all c.loop-area.invariant.heads)

pub returns-clause-counted : goal.returns-clause-counted
returns-clause-counted g c =
    let pages = g.D.SwapDev.pages c.args.dev.now in
    let machine : Machine = record { frames = c.args.frames; heads = c.loop-area.heads } in
    let all = take_all c.loop-area.area c.args.sizes.now (omega (arith, c.loop-area-test.false)) in
    machine-counted pages c.args.sizes.now machine (subst (λ s. AreHeads pages 0 s machine.heads.items) all c.loop-area.invariant.heads)
