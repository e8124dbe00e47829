use Rattle.std.proofs.Common.{ℕ, Some, None, refl, sym, ap, ◌∙◌}
use Rattle.std.specs.Prelude.{slice_index}
use Rattle.std.specs.declared.alloc.Global.{Global}
use Rattle.std.specs.declared.vec.Vec.{Vec}
use Rattle.av_audit_world.specs.Bytes.{overlaid}
use Rattle.av_audit_world.proofs.SpaceLaws.{on-ok}
use Rattle.av_audit_world.proofs.BytesLaws.{others-laid, pages-laid, put-in, some-laid}
use Rattle.av_audit_world.proofs.KeptLaws.{there}
use Rattle.av_audit_world.proofs.space.Space.lay.Goals as goal

pub returns-in-Some : goal.returns-in-Some
returns-in-Some c = on-ok c.lay_apart.result c.lay_apart.ensures (λ is q h.
    let new = c.get_mut.follows.lender c.lay_apart.new.kept in
    let put = (c.get_mut.follows.holds c.lay_apart.new.kept).3 (there _ c.in-Some.kept.now (sym c.in-Some.ensures.value)) in
    pages-laid c.args.self.now (record c.args.self.now { bytes = new }) q c.args.page c.args.at c.args.piece.now h c.requires refl
    (some-laid c.args.self.now.bytes new c.args.page c.args.at c.args.piece.now (Some c.in-Some.kept.now) c.lay_apart.new.kept
    (sym c.in-Some.ensures.value) put.0 is)
    (others-laid c.args.self.now.bytes new c.args.page c.lay_apart.new.kept put.0))

pub returns : goal.returns
returns c = λ q h.
    let s = c.args.self.now in
    let new = c.insert.new.self in
    let put = put-in s.bytes c.get_mut.follows.lender-at-none new c.args.page c.in_ok-kept.kept c.get_mut.follows.holds-at-none
    c.in_ok-insert.ensures.updates.0 in
    pages-laid s (record s { bytes = new }) q c.args.page c.args.at c.args.piece.now h c.requires refl
    (some-laid s.bytes new c.args.page c.args.at c.args.piece.now None c.in_ok-kept.kept (sym c.in_default.ensures.value) put
    (λ i. ap (λ (v : Vec ℕ Global). slice_index v.items i) c.in_ok-kept.ensures.ok ∙ c.in_ok-lay.ensures i ∙ ap (λ xs. overlaid c.args.at c.args.piece.now (slice_index xs) i) c.new-kept.ensures.items))
    (others-laid s.bytes new c.args.page c.in_ok-kept.kept put)
