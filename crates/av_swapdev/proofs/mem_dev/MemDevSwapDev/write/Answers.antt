use Rattle.std.proofs.Common.{◌∙◌, ap, Some, List, ℕ}
use Rattle.av_swapdev.specs.Device.{with_page, pages_in}
use Rattle.av_swapdev.proofs.DevicePages.{is_there, is_listed, page_inverted, pages_written, sizes_written}
use Rattle.av_swapdev.proofs.mem_dev.MemDevSwapDev.write.Goals as goal

pub returns-then-next_fails-clause-spoiled : goal.returns-then-next_fails-clause-spoiled
returns-then-next_fails-clause-spoiled c =
    let areas = c.args.self.now.areas.items in
    let there = is_there c.args.self.now.attached areas c.args.area c.args.page c.requires.there in (
      c.invert.new.page,
      ap Some (pages_written areas c.args.area c.args.page c.index_mut.result.now c.invert.new.page
          (is_listed areas c.args.area c.args.page there) c.index_mut.ensures.value there),
    )

pub returns-then-next_fails-clause-same_sizes : goal.returns-then-next_fails-clause-same_sizes
returns-then-next_fails-clause-same_sizes c =
    let areas = c.args.self.now.areas.items in
    let there = is_there c.args.self.now.attached areas c.args.area c.args.page c.requires.there in
    sizes_written areas c.args.area c.args.page c.index_mut.result.now c.invert.new.page (is_listed areas c.args.area c.args.page there)
    c.index_mut.ensures.value c.args.self.now.attached

pub returns-clause-written : goal.returns-clause-written
returns-clause-written c =
    let areas = c.args.self.now.areas.items in
    let there = is_there c.args.self.now.attached areas c.args.area c.args.page c.requires.there in
    ap Some (pages_written areas c.args.area c.args.page c.index_mut.result.now c.replace.new.page (is_listed areas c.args.area c.args.page there)
    c.index_mut.ensures.value there ∙ ap (λ (bytes : List ℕ). with_page c.args.area c.args.page bytes (pages_in areas)) c.replace.ensures)

pub returns-clause-same_sizes : goal.returns-clause-same_sizes
returns-clause-same_sizes c =
    let areas = c.args.self.now.areas.items in
    let there = is_there c.args.self.now.attached areas c.args.area c.args.page c.requires.there in
    sizes_written areas c.args.area c.args.page c.index_mut.result.now c.replace.new.page (is_listed areas c.args.area c.args.page there)
    c.index_mut.ensures.value c.args.self.now.attached

pub returns-then-next_fails-clause-inverted : goal.returns-then-next_fails-clause-inverted
returns-then-next_fails-clause-inverted c =
    let areas = c.args.self.now.areas.items in
    let there = is_there c.args.self.now.attached areas c.args.area c.args.page c.requires.there in
    page_inverted areas c.args.area c.args.page c.index_mut.result.now c.invert.new.page (is_listed areas c.args.area c.args.page there)
    c.index_mut.ensures.value c.index_mut-bytes.result.now c.index_mut-bytes.ensures.value there c.invert.ensures.inverted
