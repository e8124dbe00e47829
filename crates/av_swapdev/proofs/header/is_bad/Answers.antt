use Rattle.std.proofs.Common.{◌≡◌, ℕ, ◌-◌, ◌&&◌, Bool, false, true, Some, ap, sym, ◌∙◌, arith}
use Rattle.av_base.specs.Words.{is_in, within}
use Rattle.av_swapdev.specs.Header.{Layout, number_at, numbers_at, all_named, order_of, area_pages, header_of}
use Rattle.av_swapdev.proofs.HeaderLemmas.{header_is, is_in_bad}
use Rattle.av_swapdev.proofs.header.is_bad.Goals as goal

pub returns-then-is_behind_header : goal.returns-then-is_behind_header
returns-then-is_behind_header c device layout ok =
    let order = c.in-Some.order in
    let page = c.args.page.now in
    let found : order_of page ≡ Some order = sym c.byte_order.ensures ∙ c.in-Some.is in
    let whole : c.number.result - 0 ≡ number_at order page 1032 = omega (arith, c.number.ensures) in
    c.is_named.ensures ∙ ap (λ (n : ℕ). is_in c.args.m (numbers_at order page 0 n)) whole
    ∙ sym (is_in_bad c.args.m order page c.args.header.now device layout found c.requires.of_page ok
    ∙ ap (λ (b : Bool). b && is_in c.args.m (all_named order page)) (sym c.is_behind_header.ensures ∙ c.if-is_behind_header.true))

pub returns-else-is_behind_header : goal.returns-else-is_behind_header
returns-else-is_behind_header c device layout ok =
    let order = c.in-Some.order in
    let page = c.args.page.now in
    let found : order_of page ≡ Some order = sym c.byte_order.ensures ∙ c.in-Some.is in
    c.if-is_behind_header.false
    ∙ sym (is_in_bad c.args.m order page c.args.header.now device layout found c.requires.of_page ok
    ∙ ap (λ (b : Bool). b && is_in c.args.m (all_named order page)) (sym c.is_behind_header.ensures ∙ c.if-is_behind_header.false))
