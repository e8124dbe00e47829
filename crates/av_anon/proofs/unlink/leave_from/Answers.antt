use Rattle.std.proofs.Common.{◌≡◌, [], ◌∷◌, ◌++◌, false, true, cond, IsSome, Some, refl, sym, ap, ◌∙◌, subst, append_assoc, length, length-append, arith}
use Rattle.av_base.specs.Words.{is_in, with_at, without}
use Rattle.av_chain.specs.Links.{left_by, left_by_all, rest_in}
use Rattle.av_chain.proofs.TwoMaps.{with_at_here, with_at_twice, left_one_more, first_some}
use Rattle.av_arena.specs.Order.{entry_at, without_key}
use Rattle.av_interval.specs.Span.{key, key_of}
use Rattle.av_interval.specs.Spans.{triples}
use Rattle.av_anon.specs.Anons.{is_empty, IsRising}
use Rattle.av_anon.specs.Infos.{info_in}
use Rattle.av_anon.specs.Unlink.{has_no_other}
use Rattle.av_anon.proofs.Words.{with_at-same, each_more, absent_mid, in_mid, in_more}
use Rattle.av_anon.proofs.LeavingLemmas.{none_gone, one_left}
use Rattle.av_anon.proofs.unlink.leave_from.Goals as goal

pub loop-anon-init : goal.loop-anon-init
loop-anon-init g c =
    let chain = g.R.Ring.chain_of c.args.ring.now in (
      [],
      refl,
      (λ i n. sym (with_at-same c.args.area (chain c.args.area) chain refl n) i),
      refl,
      (λ w. none_gone (info_in c.args.infos.now w)),
      (λ v. refl),
      omega arith,
    )

pub remove-requires : goal.remove-requires
remove-requires g c =
    let chain = g.R.Ring.chain_of c.args.ring.now in
    let old = triples c.args.spans.now in
    let a = c.args.area in
    let k = key_of c.args.first a in
    let v = c.in-Some.anon in
    let gone = c.loop-anon.invariant.0 in
    let now = g.R.Ring.chain_of c.loop-anon.ring in
    let rest = rest_in (now a) in
    let first : now a ≡ v ∷ rest = first_some (now a) v c.in-Some.ensures.first in
    let whole : chain a ≡ gone ++ v ∷ rest = c.loop-anon.invariant.1 ∙ ap (λ vs. gone ++ vs) first in
    let absent : is_in v gone ≡ false = absent_mid gone v rest (subst IsRising whole c.requires.rising) in
    let there : is_in v (chain a) ≡ true = ap (is_in v) whole ∙ in_mid gone v rest in
    let same : triples c.loop-anon.spans v ≡ old v = c.loop-anon.invariant.5 v ∙ ap (λ b. cond b (without_key key k (old v)) (old v)) absent in
    record { there = subst (λ ys. IsSome (entry_at key k ys)) (sym same) (c.requires.there v there) }

pub loop-anon-preserved : goal.loop-anon-preserved
loop-anon-preserved g c =
    let chain = g.R.Ring.chain_of c.args.ring.now in
    let users = g.R.Ring.users_of c.args.ring.now in
    let users_of = g.R.Ring.users_of in
    let info = info_in c.args.infos.now in
    let old = triples c.args.spans.now in
    let a = c.args.area in
    let k = key_of c.args.first a in
    let v = c.in-Some.anon in
    let gone = c.loop-anon.invariant.0 in
    let now = g.R.Ring.chain_of c.loop-anon.ring in
    let next = g.R.Ring.chain_of c.pop.new.self in
    let rest = rest_in (now a) in
    let here : next a ≡ rest = ap (λ f. f a) c.pop.ensures.chain ∙ with_at_here a rest now in
    let first : now a ≡ v ∷ rest = first_some (now a) v c.in-Some.ensures.first in
    let whole : chain a ≡ gone ++ v ∷ rest = c.loop-anon.invariant.1 ∙ ap (λ vs. gone ++ vs) first in
    let absent : is_in v gone ≡ false = absent_mid gone v rest (subst IsRising whole c.requires.rising) in
    let left : users_of c.pop.new.self ≡ left_by_all a (gone ++ v ∷ []) users =
    c.pop.ensures.users ∙ ap (λ o. left_by a o (users_of c.loop-anon.ring)) (sym c.in-Some.ensures.first)
    ∙ ap (λ f. left_by a (Some v) f) c.loop-anon.invariant.3 ∙ left_one_more a gone v users in
    let alone : is_empty (users_of c.pop.new.self v) ≡ has_no_other a users v =
    ap (λ f. is_empty (f v)) left ∙ ap (λ b. is_empty (cond b (without a (users v)) (users v))) (in_more v v gone refl) in
    let one = c.in-Some.ensures.steps in
    let so_far = c.loop-anon.invariant.6 in
    let long = length-append gone (v ∷ []) in (
      gone ++ v ∷ [],
      whole ∙ ap (λ vs. gone ++ v ∷ vs) (sym here) ∙ sym (append_assoc gone (v ∷ []) (next a)),
      c.pop.ensures.chain ∙ ap (λ f. with_at a rest f) c.loop-anon.invariant.2 ∙ with_at_twice a rest (now a) chain
          ∙ ap (λ vs. with_at a vs chain) (sym here),
      left,
      (λ w. ap (λ f. f w) c.destroy_unused.ensures
          ∙ one_left a v users gone info (info_in c.loop-anon.infos) absent c.loop-anon.invariant.4 (is_empty (users_of c.pop.new.self v)) alone w),
      each_more (without_key key k) old (triples c.loop-anon.spans) (triples c.remove.new.self) gone v absent c.loop-anon.invariant.5
          c.remove.ensures,
      omega (arith, one, so_far, long),
    )

pub loop-anon-smaller : goal.loop-anon-smaller
loop-anon-smaller g c =
    let a = c.args.area in
    let now = g.R.Ring.chain_of c.loop-anon.ring in
    let rest = rest_in (now a) in
    let here = ap length (ap (λ f. f a) c.pop.ensures.chain ∙ with_at_here a rest now) in
    let first = ap length (first_some (now a) c.in-Some.anon c.in-Some.ensures.first) in
    omega (arith, here, first)
