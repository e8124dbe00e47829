use Rattle.std.proofs.Common.{arith}
use Rattle.av_merge.proofs.LinkingLaws.{ok_both}
use Rattle.av_mremap.proofs.AreasRemap.{has_grown, has_shrunk, unchanged_size}
use Rattle.av_mremap.proofs.areas.resize_areas.Goals as goal

pub returns-then-new_pages-pages-clause-resizes : goal.returns-then-new_pages-pages-clause-resizes
returns-then-new_pages-pages-clause-resizes c = λ s held.
    let a = c.args in
    ok_both c.unmap.result c.unmap.ensures.areas c.unmap.ensures.anons (λ areas stay.
    has_shrunk a.mem.now s held a.process c.requires.lives c.unmap.new.self c.unmap.new.anons stay a.from a.pages a.new_pages
    c.if-new_pages-pages.true areas)

pub overflow_sub-last : goal.overflow_sub-last
overflow_sub-last c = omega (arith, c.requires.some)

pub returns-then-pages-new_pages-clause-resizes : goal.returns-then-pages-new_pages-clause-resizes
returns-then-pages-new_pages-clause-resizes c = λ s held.
    let a = c.args in
    ok_both c.grow.result c.grow.ensures.areas c.grow.ensures.anons (λ areas stay.
    has_grown a.mem.now s held a.process c.requires.lives c.grow.new.self c.grow.new.anons stay a.from a.pages a.new_pages
    c.if-pages-new_pages.true areas)

pub returns-clause-resizes : goal.returns-clause-resizes
returns-clause-resizes c = λ s held.
    let a = c.args in
    unchanged_size a.mem.now s held a.process a.from a.pages a.new_pages c.if-new_pages-pages.false c.if-pages-new_pages.false
