use Rattle.std.proofs.Common.{◌∙◌, [], ap, codes, map, sym}
use Rattle.std.specs.Option.{option_map, unwrap_or}
use Rattle.std.proofs.lemmas.Result.{IfOk-weaker}
use Rattle.clap.specs.Words.{found_of}
use Rattle.av_words.proofs.Values.{all_are}
use Rattle.av_words.proofs.words.names_of.Goals as goal

pub returns-in-Some : goal.returns-in-Some
returns-in-Some c =
    let all = all_are (found_of c.args.values.now) (codes "SWAP") c.get_strs.result c.get_strs.ensures in
    IfOk-weaker c.to_vec.result _ _ (λ names same. ap (map (λ n. n.now)) (same (λ x y e. e))
    ∙ sym (ap (λ o. unwrap_or o []) (all ∙ ap (option_map (λ s. map (λ v. v.now) s.now)) c.in-Some.is))) c.to_vec.ensures.items_if_clones_equal

pub returns-in-None : goal.returns-in-None
returns-in-None c =
    let all = all_are (found_of c.args.values.now) (codes "SWAP") c.get_strs.result c.get_strs.ensures in
    ap (map (λ n. n.now)) c.new.ensures.items ∙ sym (ap (λ o. unwrap_or o []) (all ∙ ap (option_map (λ s. map (λ v. v.now) s.now)) c.in-None.is))
