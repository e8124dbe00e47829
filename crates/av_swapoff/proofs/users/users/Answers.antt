use Rattle.std.proofs.Common.{◌≡◌, ℕ, ◌+◌, ◌<◌, ◌++◌, List, Option, drop, length, refl, sym, take, ap, subst, ◌∙◌, arith}
use Rattle.av_base.specs.Keys.{Key}
use Rattle.av_mem.specs.Mem.{view}
use Rattle.av_swapoff.specs.Users.{HasUsers, Visits}
use Rattle.av_swapoff.proofs.VisitLaws.{all-written, found-all, none-long, process-split, visits-none, visits-then}
use Rattle.av_swapoff.proofs.users.users.Goals as goal

pub loop-process-init : goal.loop-process-init
loop-process-init c = record {
  long = refl;
  visits = visits-none (view c.args.mem.now) c.args.area c.in_ok-users.users.items (λ (k : Key). k.0 < 0) (λ k below. omega (arith, below));
}

pub loop-process-preserved : goal.loop-process-preserved
loop-process-preserved c =
    let k = c.args.mem.now in
    let start = c.in_ok-users.users.items in
    let now = c.loop-process.users.items in
    let new = c.visit_process.new.users in
    let kept : length new ≡ length now = c.visit_process.auto.users ∙ ap length c.deref_mut.ensures.value in
    let whole = all-written c.loop-process.users.len now new (omega (arith, c.loop-process.users.ok.0)) kept in
    record {
      long = ap length whole ∙ kept ∙ c.loop-process.invariant.long;
      visits =
          let visited = subst (λ (us : List (Option Key)). Visits (view k) c.args.area (λ (q : Key). q.0 ≡ c.in-Some.process) us new)
          c.deref_mut.ensures.value c.visit_process.ensures in
          subst (λ (n : ℕ). Visits (view k) c.args.area (λ (q : Key). q.0 < n) start (take c.loop-process.users.len (new ++ drop (length new) now)))
          (sym c.in-Some-checked_add.ensures.1)
          (subst (λ (us : List (Option Key)). Visits (view k) c.args.area (λ (q : Key). q.0 < c.in-Some.process + 1) start us) (sym whole)
          (visits-then (view k) c.args.area (λ (q : Key). q.0 < c.loop-process.next) (λ (q : Key). q.0 ≡ c.in-Some.process)
          (λ (q : Key). q.0 < c.in-Some.process + 1) start now new
          (process-split k c.args.area c.loop-process.next c.in-Some.process c.in-Some.ensures) c.loop-process.invariant.visits visited));
    }

pub returns-in_default-checked_add-clause-few : goal.returns-in_default-checked_add-clause-few
returns-in_default-checked_add-clause-few c =
    let now = c.loop-process.users.items in
    let new = c.visit_process.new.users in
    let kept : length new ≡ length now = c.visit_process.auto.users ∙ ap length c.deref_mut.ensures.value in
    let whole = ap length (all-written c.loop-process.users.len now new (omega (arith, c.loop-process.users.ok.0)) kept) in
    let start = none-long c.pages_of.result c.in_ok-users.users.items c.in_ok-users.ensures in
    omega (arith, whole, kept, c.loop-process.invariant.long, start)

pub returns-clause-few : goal.returns-clause-few
returns-clause-few c =
    let start = none-long c.pages_of.result c.in_ok-users.users.items c.in_ok-users.ensures in
    omega (arith, c.loop-process.invariant.long, start)

pub returns-in_default-checked_add-clause-users : goal.returns-in_default-checked_add-clause-users
returns-in_default-checked_add-clause-users c =
    let k = c.args.mem.now in
    let start = c.in_ok-users.users.items in
    let now = c.loop-process.users.items in
    let new = c.visit_process.new.users in
    let visited = subst (λ (us : List (Option Key)). Visits (view k) c.args.area (λ (q : Key). q.0 ≡ c.in-Some.process) us new)
    c.deref_mut.ensures.value
    c.visit_process.ensures in
    subst (λ (us : List (Option Key)). HasUsers (view k) c.args.area us)
    (sym (all-written c.loop-process.users.len now new (omega (arith, c.loop-process.users.ok.0)) visited.long))
    (found-all k c.args.area c.pages_of.result (c.in-Some.process + 1) start new c.in_ok-users.ensures c.pages_of.ensures
    (visits-then (view k) c.args.area (λ (q : Key). q.0 < c.loop-process.next) (λ (q : Key). q.0 ≡ c.in-Some.process)
    (λ (q : Key). q.0 < c.in-Some.process + 1)
    start now new (process-split k c.args.area c.loop-process.next c.in-Some.process c.in-Some.ensures)
    c.loop-process.invariant.visits visited)
    (λ p high lives. absurd (let few = c.keeps.ensures p lives in let most = c.in_default-checked_add.ensures in omega (arith, high, few, most))))

pub returns-clause-users : goal.returns-clause-users
returns-clause-users c =
    let k = c.args.mem.now in
    found-all k c.args.area c.pages_of.result c.loop-process.next c.in_ok-users.users.items c.loop-process.users.items c.in_ok-users.ensures
    c.pages_of.ensures
    c.loop-process.invariant.visits (λ p high lives. c.in_default.ensures p high (c.keeps.ensures p lives))
