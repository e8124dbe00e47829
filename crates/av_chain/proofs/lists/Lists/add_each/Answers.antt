use Rattle.std.proofs.Common.{◌≡◌, ◌+◌, ◌<◌, ◌∷◌, ◌++◌, [], length, take, get_or, refl, sym, ap, ◌∙◌, arith, append-nil, append_assoc}
use Rattle.std.proofs.lemmas.List.{take_more, take_all}
use Rattle.av_base.specs.Words.{is_in}
use Rattle.av_chain.specs.Links.{chain_of, links_to}
use Rattle.av_chain.specs.Lists.{links_in, links_of}
use Rattle.av_chain.proofs.TwoMaps.{chain_here, links_more, new_at, on_err}
use Rattle.av_chain.proofs.lists.Lists.add_each.Goals as goal

pub loop-anon-init : goal.loop-anon-init
loop-anon-init c = record { areas = refl; kept = c.requires.kept; links = sym (append-nil (links_in c.args.self.now)) }

pub add_behind-requires-clause-new : goal.add_behind-requires-clause-new
add_behind-requires-clause-new c =
    let xs = c.args.anons.now in
    let k = c.loop-anon.anon-index in
    let a = c.args.area in
    let lt : k < length xs = omega arith in
    let old = links_in c.args.self.now in
    ap (λ ls. is_in (get_or xs k 0) (chain_of ls a)) c.loop-anon.invariant.links
    ∙ ap (is_in (get_or xs k 0)) (chain_here old a (take k xs)) ∙ new_at (chain_of old a) xs k c.requires.new lt

pub loop-anon-preserved : goal.loop-anon-preserved
loop-anon-preserved c =
    let xs = c.args.anons.now in
    let k = c.loop-anon.anon-index in
    let x = get_or xs k 0 in
    let a = c.args.area in
    let lt : k < length xs = omega arith in
    let old = links_in c.args.self.now in
    let more : take (k + 1) xs ≡ take k xs ++ x ∷ [] = take_more xs k 0 lt in
    record {
      areas = c.add_behind.ensures.areas ∙ c.loop-anon.invariant.areas;
      kept = c.in_ok-longer.ensures.kept;
      links = c.in_ok-longer.ensures.links ∙ ap (λ ls. ls ++ (a, x) ∷ []) c.loop-anon.invariant.links
          ∙ append_assoc old (links_to a (take k xs)) ((a, x) ∷ [])
          ∙ ap (λ ms. old ++ ms) (sym (links_more a (take k xs) x) ∙ ap (links_to a) (sym more));
    }

pub returns-clause-links : goal.returns-clause-links
returns-clause-links c = c.loop-anon.invariant.links
    ∙ ap (λ ys. links_in c.args.self.now ++ links_to c.args.area ys) (take_all c.loop-anon.anon-index c.args.anons.now (omega arith))

pub returns-in_err-longer-clause-err : goal.returns-in_err-longer-clause-err
returns-in_err-longer-clause-err c = on_err c.from_residual.result (record {
  many = c.loop-anon.anon-index;
  is = ap links_of c.in_err-longer.ensures.err ∙ c.loop-anon.invariant.links;
})
