use Rattle.std.proofs.Common.{ap, sym, ◌∙◌}
use Rattle.av_swapdev.specs.Header.{answer_of}
use Rattle.av_swapdev.proofs.HeaderLemmas.{of_page, adds_up, header_read}
use Rattle.av_swapdev.proofs.header.read_header.Goals as goal

pub returns-in-Some-clause-of_page : goal.returns-in-Some-clause-of_page
returns-in-Some-clause-of_page c =
    let signed = sym c.ends_with.ensures.value ∙ c.if-not-ends_with.false in
    let found = sym c.byte_order.ensures ∙ c.in-Some.is in
    of_page c.args.page.now c.args.device_pages c.read_numbers.result
    (c.read_numbers.ensures ∙ ap answer_of (sym (header_read c.in-Some.order c.args.page.now c.args.device_pages signed found)))

pub returns-in-Some-clause-adds_up : goal.returns-in-Some-clause-adds_up
returns-in-Some-clause-adds_up c =
    let signed = sym c.ends_with.ensures.value ∙ c.if-not-ends_with.false in
    let found = sym c.byte_order.ensures ∙ c.in-Some.is in
    adds_up c.args.page.now c.args.device_pages c.read_numbers.result
    (c.read_numbers.ensures ∙ ap answer_of (sym (header_read c.in-Some.order c.args.page.now c.args.device_pages signed found)))
