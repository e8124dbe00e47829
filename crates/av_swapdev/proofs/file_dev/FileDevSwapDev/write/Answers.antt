use Rattle.std.proofs.Common.{◌≡◌, ◌*◌, sym, ◌∙◌}
use Rattle.av_base.specs.Page.{page_size}
use Rattle.av_swapdev.specs.File.{Stores, StoresPart}
use Rattle.av_swapdev.proofs.FileAreas.{after_err, after_ok, at_file, others_stay, sizes_stay}
use Rattle.av_swapdev.proofs.file_dev.FileDevSwapDev.write.Goals as goal

pub returns-clause-same_sizes : goal.returns-clause-same_sizes
returns-clause-same_sizes g c = sizes_stay g.H.File.SwapFile.view c.args.self.now.areas.items c.args.area c.args.page c.in-Some.attached
    c.write_page.new.attached
    c.index_mut.result.now c.requires.there c.index_mut.ensures.value c.in-Some.is c.write_page.ensures.pages

pub returns-clause-others : goal.returns-clause-others
returns-clause-others g c =
    others_stay g.H.File.SwapFile.view c.args.self.now.areas.items c.args.area c.args.page c.in-Some.attached c.write_page.new.attached
    c.index_mut.result.now c.requires.there c.index_mut.ensures.value c.in-Some.is

pub returns-then-is_err-clause-same_sizes : goal.returns-then-is_err-clause-same_sizes
returns-then-is_err-clause-same_sizes g c = sizes_stay g.H.File.SwapFile.view c.args.self.now.areas.items c.args.area c.args.page c.in-Some.attached
    c.write_page.new.attached
    c.index_mut.result.now c.requires.there c.index_mut.ensures.value c.in-Some.is c.write_page.ensures.pages

pub returns-then-is_err-clause-others : goal.returns-then-is_err-clause-others
returns-then-is_err-clause-others g c = others_stay g.H.File.SwapFile.view c.args.self.now.areas.items c.args.area c.args.page c.in-Some.attached
    c.write_page.new.attached
    c.index_mut.result.now c.requires.there c.index_mut.ensures.value c.in-Some.is

pub returns-clause-file : goal.returns-clause-file
returns-clause-file g c =
    at_file g.H.File.SwapFile.view c.args.self.now.areas.items c.args.area c.args.page c.in-Some.attached c.write_page.new.attached
    c.index_mut.result.now c.requires.there c.index_mut.ensures.value c.in-Some.is
    (λ old new. Stores old new (c.args.page * page_size) c.args.from.now)
    (after_ok c.write_page.result c.write_page.ensures.ok (sym c.is_err.ensures.value ∙ c.if-is_err.false))

pub returns-then-is_err-clause-failure : goal.returns-then-is_err-clause-failure
returns-then-is_err-clause-failure g c = at_file g.H.File.SwapFile.view c.args.self.now.areas.items c.args.area c.args.page c.in-Some.attached
    c.write_page.new.attached
    c.index_mut.result.now c.requires.there c.index_mut.ensures.value c.in-Some.is
    (λ old new. StoresPart old new (c.args.page * page_size) c.args.from.now)
    (after_err c.write_page.result c.write_page.ensures.err (sym c.is_err.ensures.value ∙ c.if-is_err.true))
