use Rattle.std.proofs.Common.{◌≡◌, ℕ, Bool, List, subst, sym, ◌∙◌}
use Rattle.std.specs.Prelude.{MatchBool, codes}
use Rattle.av_audit_area.proofs.LeftLaws.{none-left, some-left}
use Rattle.av_audit_area.proofs.WordLaws.{chain-all, chain-none, part-all, part-more, part-none}
use Rattle.av_audit_area.proofs.words.chain_numbers.Goals as goal

abbrev IsDash : List ℕ → Bool → Type 0
IsDash word dash = MatchBool dash (word ≡ codes "-") (word ≡ codes "-" → ⊥)

pub returns-then-is_dash : goal.returns-then-is_dash
returns-then-is_dash c = λ chain wide is.
    c.new-numbers.ensures.items ∙ chain-none c.args.word.now chain (subst (IsDash c.args.word.now) c.if-is_dash.true c.is_dash.ensures) wide is

pub loop-rest-init : goal.loop-rest-init
loop-rest-init c = λ chain wide is.
    chain-all c.args.word.now c.new-numbers.result.items chain c.new-numbers.ensures.items
    (subst (IsDash c.args.word.now) c.if-is_dash.false c.is_dash.ensures) wide is

pub loop-rest-preserved-in_ok-push : goal.loop-rest-preserved-in_ok-push
loop-rest-preserved-in_ok-push c = λ chain wide is.
    part-more chain c.loop-rest.numbers.items c.loop-rest.rest.now c.piece.result.0.now c.piece.result.1.now c.own_number.result
    (c.loop-rest.invariant chain wide is) (some-left c.loop-rest.rest.now c.is_empty.result c.is_empty.ensures c.loop-rest-test.true)
    (record { cut = c.piece.ensures.cut; all = c.piece.ensures.all }) c.own_number.ensures c.in-Some.number c.push.new.self.items
    (sym c.in-Some.is) c.in_ok-push.ensures.items

pub loop-rest-preserved : goal.loop-rest-preserved
loop-rest-preserved c = λ chain wide is.
    absurd (part-none chain c.loop-rest.numbers.items c.loop-rest.rest.now c.piece.result.0.now c.piece.result.1.now c.own_number.result
    (c.loop-rest.invariant chain wide is) (some-left c.loop-rest.rest.now c.is_empty.result c.is_empty.ensures c.loop-rest-test.true)
    (record { cut = c.piece.ensures.cut; all = c.piece.ensures.all }) c.own_number.ensures (sym c.in_default.is))

pub returns : goal.returns
returns c = λ chain wide is.
    part-all chain c.loop-rest.numbers.items c.loop-rest.rest.now (c.loop-rest.invariant chain wide is)
    (none-left c.loop-rest.rest.now c.is_empty.result c.is_empty.ensures c.loop-rest-test.false)
