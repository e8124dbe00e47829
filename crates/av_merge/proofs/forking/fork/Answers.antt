use Rattle.std.proofs.Common.{◌≡◌, ℕ, List, Option, Some, None, IsSomeAnd, sym, subst, ap, ◌∙◌}
use Rattle.av_base.specs.Flags.{unlocked}
use Rattle.av_base.specs.Words.{with_at}
use Rattle.av_base.specs.declared.flags.Flags.{Flags}
use Rattle.av_vma.specs.declared.area.Area.{Area}
use Rattle.av_vma.specs.Areas.{area_of}
use Rattle.av_vma.specs.Fork.{forked_area}
use Rattle.av_vma.specs.Pages.{IsWhole}
use Rattle.av_anon.specs.Anons.{family}
use Rattle.av_anon.specs.Spans.{spans_of}
use Rattle.av_merge.specs.Forking.{IsForkedTo}
use Rattle.av_merge.proofs.ForkingLaws.{areas_forked, areas_wiped, kin_forked, kin_wiped, order_added, order_forked}
use Rattle.av_merge.proofs.LinkingLaws.{ok_three}
use Rattle.av_merge.proofs.forking.fork.Goals as goal

-- the child's area stands without anon_vma, and isn't locked
abbrev IsAdded : (areas new : List (Option Area)) (copy child : ℕ) (area : Area) → Type 0
IsAdded areas new copy child area =
    (k : ℕ) → area_of new k ≡ with_at copy (Some (record (forked_area child area) { anon = None })) (area_of areas) k

added_so : (areas new : List (Option Area)) (copy child : ℕ) (area : Area) (flags : Flags) → flags ≡ unlocked area.flags
    → ((k : ℕ) → area_of new k ≡ with_at copy (Some (record area { pid = child; flags = flags; anon = None })) (area_of areas) k)
    → IsAdded areas new copy child area
added_so areas new copy child area flags is added k =
    added k ∙ ap (λ (f : Flags). with_at copy (Some (record area { pid = child; flags = f; anon = None })) (area_of areas) k) is

pub fork-requires-clause-order : goal.fork-requires-clause-order
fork-requires-clause-order c =
    let whole = subst (λ o. IsSomeAnd o IsWhole) c.get-area.ensures c.requires.whole in
    order_added (area_of c.args.areas.now) (area_of c.add.new.areas) (family c.args.anons.now) (spans_of c.args.anons.now)
    c.args.number c.in_ok-copy.copy c.args.child c.get-area.result
    c.requires.order c.get-area.ensures whole c.in_ok-copy.ensures.unused (added_so c.args.areas.now c.add.new.areas c.in_ok-copy.copy c.args.child c.get-area.result c.unlocked.result c.unlocked.ensures
    c.in_ok-copy.ensures.areas)

pub returns-clause-forked : goal.returns-clause-forked
returns-clause-forked c =
    let old = area_of c.args.areas.now in
    let mid = area_of c.add.new.areas in
    let new = area_of c.fork.new.areas in
    let f = family c.args.anons.now in
    let f' = family c.fork.new.self in
    let spans = spans_of c.args.anons.now in
    let spans' = spans_of c.fork.new.self in
    let n = c.args.number in
    let copy = c.in_ok-copy.copy in
    let A = c.get-area.result in
    let whole = subst (λ o. IsSomeAnd o IsWhole) c.get-area.ensures c.requires.whole in
    let unused = c.in_ok-copy.ensures.unused in
    let added = added_so c.args.areas.now c.add.new.areas c.in_ok-copy.copy c.args.child c.get-area.result c.unlocked.result c.unlocked.ensures
    c.in_ok-copy.ensures.areas in
    ok_three c.fork.result c.fork.ensures.family c.fork.ensures.areas c.fork.ensures.spans (λ was now goes.
    subst (λ o. IsSomeAnd o (λ area. (x : ℕ)
    × IsForkedTo c.args.child area c.args.areas.now c.args.tree.now c.args.anons.now c.fork.new.areas c.add.new.tree c.fork.new.self x))
    (sym c.get-area.ensures) (
      copy,
      record {
        order = order_forked old mid f spans n copy c.args.child A c.requires.order c.get-area.ensures whole unused added c.if-is_wiped.false new f' spans' now was goes;
        kin = kin_forked old mid f spans n copy c.args.child A c.requires.order c.get-area.ensures whole unused added c.if-is_wiped.false new f' spans' now was goes;
        unused = unused;
        areas = areas_forked old mid f spans n copy c.args.child A c.requires.order c.get-area.ensures whole unused added c.if-is_wiped.false new f' spans' now was goes;
        tree = c.in_ok-copy.ensures.tree;
      },
    ))

pub returns-then-is_wiped-clause-forked : goal.returns-then-is_wiped-clause-forked
returns-then-is_wiped-clause-forked c =
    let old = area_of c.args.areas.now in
    let mid = area_of c.add.new.areas in
    let f = family c.args.anons.now in
    let spans = spans_of c.args.anons.now in
    let n = c.args.number in
    let copy = c.in_ok-copy.copy in
    let A = c.get-area.result in
    let whole = subst (λ o. IsSomeAnd o IsWhole) c.get-area.ensures c.requires.whole in
    let unused = c.in_ok-copy.ensures.unused in
    let added = added_so c.args.areas.now c.add.new.areas c.in_ok-copy.copy c.args.child c.get-area.result c.unlocked.result c.unlocked.ensures
    c.in_ok-copy.ensures.areas in
    let wiped = c.if-is_wiped.true in
    subst (λ o. IsSomeAnd o (λ area. (x : ℕ)
    × IsForkedTo c.args.child area c.args.areas.now c.args.tree.now c.args.anons.now c.add.new.areas c.add.new.tree c.args.anons.now x))
    (sym c.get-area.ensures) (
      copy,
      record {
        order = order_added old mid f spans n copy c.args.child A c.requires.order c.get-area.ensures whole unused added;
        kin = kin_wiped old mid f spans n copy c.args.child A c.requires.order c.get-area.ensures whole unused added wiped;
        unused = unused;
        areas = areas_wiped old mid f spans n copy c.args.child A c.requires.order c.get-area.ensures whole unused added wiped;
        tree = c.in_ok-copy.ensures.tree;
      },
    )
