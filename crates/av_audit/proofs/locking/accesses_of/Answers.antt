use Rattle.std.proofs.Common.{ℕ, ◌+◌, ◌-◌, ◌<◌, ◌++◌, Bool, refl, sym, ap, subst, ◌∙◌, arith}
use Rattle.std.specs.List.{AllByRecursion}
use Rattle.av_plain.specs.Lock.{accesses_of}
use Rattle.av_plain.specs.World.{pages}
use Rattle.av_audit.proofs.LockLaws.{accesses-done, accesses-first, accesses-next}
use Rattle.av_audit.proofs.locking.accesses_of.Goals as goal

pub loop-page-init : goal.loop-page-init
loop-page-init c = record {
  end = refl;
  pages = λ w h. ap (λ xs. xs ++ accesses_of (pages w c.args.process) c.args.from (c.args.from + c.args.n - c.args.from)) c.new-made.ensures.items
      ∙ accesses-first (pages w c.args.process) c.args.from c.args.n (c.args.from + c.args.n) refl;
  below = subst (AllByRecursion (λ (x : Bool × ℕ). x.1 < c.args.from + c.args.n)) (sym c.new-made.ensures.items) tt;
}

pub loop-page-preserved : goal.loop-page-preserved
loop-page-preserved c =
    let less = c.loop-page-test.true in
    let end = c.loop-page.invariant.end in
    record {
      end = end;
      pages = λ w h. accesses-next (pages w c.args.process) c.loop-page.made.items c.add_access.new.made.items
          (accesses_of (pages w c.args.process) c.args.from c.args.n) c.loop-page.page _ less (c.in_ok-add_access.ensures.pages w h)
          (c.loop-page.invariant.pages w h);
      below = c.in_ok-add_access.ensures.below (c.args.from + c.args.n) (omega (arith, less, end)) c.loop-page.invariant.below;
    }

pub returns-clause-pages : goal.returns-clause-pages
returns-clause-pages c = λ w h. accesses-done (pages w c.args.process) c.loop-page.made.items (accesses_of (pages w c.args.process) c.args.from c.args.n)
    c.loop-page.page _ (let over = c.loop-page-test.false in omega (arith, over)) (c.loop-page.invariant.pages w h)
