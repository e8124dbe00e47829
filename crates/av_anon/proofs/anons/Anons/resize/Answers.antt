use Rattle.std.proofs.Common.{◌≡◌, ℕ, ◌-◌, ◌^◌, ◌<◌, List, [], sym, ap, ◌∙◌, arith}
use Rattle.av_base.specs.Words.{is_in, with_at}
use Rattle.av_chain.specs.Links.{chain_of}
use Rattle.av_interval.specs.Span.{key_of, triple}
use Rattle.av_interval.specs.Spans.{triples}
use Rattle.av_interval.specs.declared.span.Span.{Span}
use Rattle.av_vma.specs.Areas.{area_of}
use Rattle.av_vma.specs.Index.{index_of, past_of}
use Rattle.av_vma.specs.declared.area.Area.{Area}
use Rattle.av_anon.specs.Resize.{with_bounds}
use Rattle.av_anon.specs.Spans.{span_at, spans_of, spans_with, spans_without}
use Rattle.av_anon.proofs.Given.{with_bounds-spans}
use Rattle.av_anon.proofs.Spanned.{left-spans, new_to_all, there_in_all}
use Rattle.av_anon.proofs.Words.{with_at-here}
use Rattle.av_anon.proofs.anons.Anons.resize.Goals as goal

pub move_each-requires-clause-there : goal.move_each-requires-clause-there
move_each-requires-clause-there c = λ v h.
    there_in_all (area_of c.args.areas.now) (chain_of c.args.self.now.links)
    (spans_of c.args.self.now) c.requires.order.spanned c.args.area c.get-old.result c.get-old.ensures v
    (ap (is_in v) (sym (c.deref.ensures.value ∙ c.in_ok-chain.ensures)) ∙ h)

pub move_each-requires-clause-alone : goal.move_each-requires-clause-alone
move_each-requires-clause-alone c = λ v h.
    let areas = area_of c.args.areas.now in
    let chain = chain_of c.args.self.now.links in
    let spans = spans_of c.args.self.now in
    let a = c.args.area in
    let k = key_of c.get-old.result.pgoff a in
    let fit : a < 2 ^ 64 = omega arith in
    let is : c.deref.result.now ≡ chain a = c.deref.ensures.value ∙ c.in_ok-chain.ensures in
    let left : ℕ → List Span = λ w. spans_without c.deref.result.now k spans w in
    new_to_all areas (with_at a [] chain) left
    (left-spans areas chain spans c.requires.order.spanned a c.get-old.result c.get-old.ensures fit left (λ w. ap (λ xs. spans_without xs k spans w) is))
    a (with_at-here a [] chain) v

pub returns-clause-spans : goal.returns-clause-spans
returns-clause-spans c =
    let areas = area_of c.args.areas.now in
    let chain = chain_of c.args.self.now.links in
    let spans = spans_of c.args.self.now in
    let a = c.args.area in
    let k = key_of c.get-old.result.pgoff a in
    let B : Area = with_bounds c.args.start c.args.end c.args.pgoff c.get-old.result in
    let fit : a < 2 ^ 64 = omega arith in
    let is : c.deref.result.now ≡ chain a = c.deref.ensures.value ∙ c.in_ok-chain.ensures in
    let left : ℕ → List Span = λ w. spans_without c.deref.result.now k spans w in
    let last : c.index-last.result - 1 ≡ index_of B (past_of B) - 1 = ap (λ n. n - 1) c.index-last.ensures in
    with_bounds-spans areas (area_of c.change.new.self) chain chain spans c.requires.order.spanned a c.get-old.result c.get-old.ensures fit B left
    (triples c.move_each.new.spans)
    (λ w. ap (λ xs. spans_without xs k spans w) is)
    (λ w. c.in_ok-move_each.ensures w ∙ ap (λ n. spans_with c.deref.result.now (triple c.args.pgoff n a) left w) last
    ∙ ap (λ xs. spans_with xs (span_at a B) left w) is)
    c.change.ensures
