use Rattle.std.proofs.Common.{◌≡◌, ℕ, ◌+◌, ◌*◌, ◌-◌, ◌≤◌, ◌++◌, length, take, sym, ap, ◌∙◌, subst, arith}
use Rattle.arrayvec.specs.ArrayVec.{array_vec_len}
use Rattle.av_arena.specs.Tree.{entries, height}
use Rattle.av_interval.specs.Batch.{overlaps_past}
use Rattle.av_interval.specs.Nodes.{Tree, tree_at}
use Rattle.av_interval.specs.Search.{IsOrdered}
use Rattle.av_interval.proofs.SearchLemmas.{root_is}
use Rattle.av_interval.proofs.batch.search_batch.Goals as goal

pub gather-requires : goal.gather-requires
gather-requires g c =
    let N = g.N.Nodes in
    let s = c.args.nodes.now in
    let r = root_is (N.is_node s) (N.below s) (N.tree s c.args.anon) c.root-root.result c.root-root.ensures.root in
    record { node = r.0; ordered = subst (λ t. IsOrdered (entries t)) (sym r.1) c.root-root.ensures.ordered }

pub returns-clause-found : goal.returns-clause-found
returns-clause-found g c =
    let N = g.N.Nodes in
    let s = c.args.nodes.now in
    let r = root_is (N.is_node s) (N.below s) (N.tree s c.args.anon) c.root-root.result c.root-root.ensures.root in
    c.gather.ensures.found
    ∙ ap (λ xs. take 64 (xs ++ overlaps_past c.args.after c.args.index (entries (tree_at (N.below s) c.root-root.result)))) c.clear.ensures
    ∙ ap (λ t. take 64 (overlaps_past c.args.after c.args.index (entries t))) r.1

pub returns-clause-cost : goal.returns-clause-cost
returns-clause-cost g c =
    let N = g.N.Nodes in
    let s = c.args.nodes.now in
    let r = root_is (N.is_node s) (N.below s) (N.tree s c.args.anon) c.root-root.result c.root-root.ensures.root in
    let n = array_vec_len c.gather.new.found in
    let e : array_vec_len c.clear.new.self ≡ 0 = ap length c.clear.ensures in
    let w = subst (λ (t : Tree). c.gather.new.steps ≤ c.args.steps.now + (n - array_vec_len c.clear.new.self + 2) * height t) r.1
    c.gather.ensures.cost in
    subst (λ (m : ℕ). c.gather.new.steps ≤ c.args.steps.now + m * height (N.tree s c.args.anon)) (all n (array_vec_len c.clear.new.self) e) w
  where
    all : (n m : ℕ) → m ≡ 0 → n - m + 2 ≡ n + 2
    all n m e = omega (arith, e)
