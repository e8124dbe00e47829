use Rattle.std.proofs.Common.{◌≡◌, ◌*◌, sym, ◌∙◌}
use Rattle.av_base.specs.Page.{page_size}
use Rattle.av_swapdev.specs.File.{Reads, after_failure}
use Rattle.av_swapdev.proofs.FileAreas.{after_err, after_ok, at_file, others_stay, sizes_stay}
use Rattle.av_swapdev.proofs.file_dev.FileDevSwapDev.read.Goals as goal

pub returns-clause-same_sizes : goal.returns-clause-same_sizes
returns-clause-same_sizes g c = sizes_stay g.H.File.SwapFile.view c.args.self.now.areas.items c.args.area c.args.page c.in-Some.attached
    c.read_page.new.attached
    c.index_mut.result.now c.requires.there c.index_mut.ensures.value c.in-Some.is c.read_page.ensures.pages

pub returns-clause-others : goal.returns-clause-others
returns-clause-others g c =
    others_stay g.H.File.SwapFile.view c.args.self.now.areas.items c.args.area c.args.page c.in-Some.attached c.read_page.new.attached
    c.index_mut.result.now c.requires.there c.index_mut.ensures.value c.in-Some.is

pub returns-then-is_err-clause-same_sizes : goal.returns-then-is_err-clause-same_sizes
returns-then-is_err-clause-same_sizes g c = sizes_stay g.H.File.SwapFile.view c.args.self.now.areas.items c.args.area c.args.page c.in-Some.attached
    c.read_page.new.attached
    c.index_mut.result.now c.requires.there c.index_mut.ensures.value c.in-Some.is c.read_page.ensures.pages

pub returns-then-is_err-clause-others : goal.returns-then-is_err-clause-others
returns-then-is_err-clause-others g c = others_stay g.H.File.SwapFile.view c.args.self.now.areas.items c.args.area c.args.page c.in-Some.attached
    c.read_page.new.attached
    c.index_mut.result.now c.requires.there c.index_mut.ensures.value c.in-Some.is

pub returns-clause-file : goal.returns-clause-file
returns-clause-file g c =
    at_file g.H.File.SwapFile.view c.args.self.now.areas.items c.args.area c.args.page c.in-Some.attached c.read_page.new.attached
    c.index_mut.result.now c.requires.there c.index_mut.ensures.value c.in-Some.is
    (λ old new. Reads old new (c.args.page * page_size) c.read_page.new.into)
    (after_ok c.read_page.result c.read_page.ensures.ok (sym c.is_err.ensures.value ∙ c.if-is_err.false))

pub returns-then-is_err-clause-failure : goal.returns-then-is_err-clause-failure
returns-then-is_err-clause-failure g c = at_file g.H.File.SwapFile.view c.args.self.now.areas.items c.args.area c.args.page c.in-Some.attached
    c.read_page.new.attached
    c.index_mut.result.now c.requires.there c.index_mut.ensures.value c.in-Some.is
    (λ old new. new ≡ after_failure old)
    (after_err c.read_page.result c.read_page.ensures.err (sym c.is_err.ensures.value ∙ c.if-is_err.true))
