use Rattle.std.proofs.Common.{◌+◌, ◌≡◌, ◌∙◌, ◌++◌, List, drop, slice_index_or, subst, sym}
use Rattle.std.proofs.lemmas.List.{drop_more, at_drop_all, append-nil}
use Rattle.av_vma.specs.Areas.{area_of}
use Rattle.av_vma.specs.declared.area.Area.{Area}
use Rattle.av_vmatree.specs.declared.span.Span.{Span}
use Rattle.av_merge.specs.Process.{IsAreaOf}
use Rattle.av_spaces.specs.Trees.{areas_by}
use Rattle.av_spaces.proofs.Areas.{AreNumbered, numbered, numbered_rest, is_there, one_more}
use Rattle.av_spaces.proofs.spaces.areas_at.Goals as goal

abbrev none : Span
none = record { from = 0; to = 0; area = 0 }

pub get-requires : goal.get-requires
get-requires c =
    let f = area_of c.args.areas.now in
    let s = slice_index_or c.args.spans.now c.loop-span.span-index none in
    let rest = subst (AreNumbered f c.requires.0) (drop_more c.args.spans.now c.loop-span.span-index none c.loop-span-test.true)
    (numbered_rest f c.requires.0 c.loop-span.span-index c.args.spans.now (numbered f c.requires.0 c.args.spans.now c.requires.1)) in
    record { used = is_there (f s.area) (IsAreaOf c.requires.0 s) rest.0 }

pub loop-span-preserved : goal.loop-span-preserved
loop-span-preserved c =
    let f = area_of c.args.areas.now in
    let spans = c.args.spans.now in
    let i = c.loop-span.span-index in
    let s = slice_index_or spans i none in
    let left = subst (λ (rest : List Span). c.loop-span.list.items ++ areas_by f rest ≡ areas_by f spans)
    (drop_more spans i none c.loop-span-test.true) c.loop-span.invariant in
    subst (λ (list : List Area). list ++ areas_by f (drop (i + 1) spans) ≡ areas_by f spans) (sym c.in_ok-push.ensures.items)
    (one_more f c.loop-span.list.items (areas_by f spans) s c.get.result (drop (i + 1) spans) c.get.ensures left)

pub returns : goal.returns
returns c =
    let f = area_of c.args.areas.now in
    sym (append-nil c.loop-span.list.items)
    ∙ subst (λ (rest : List Span). c.loop-span.list.items ++ areas_by f rest ≡ areas_by f c.args.spans.now)
    (at_drop_all (λ (spans : List Span). spans) c.args.spans.now c.loop-span.span-index c.loop-span-test.false) c.loop-span.invariant
