use Rattle.std.proofs.Common.{◌≡◌, ◌+◌, ◌*◌, ◌<◌, length, ap, subst, sym, ◌∙◌, arith}
use Rattle.std.proofs.lemmas.Bool.Decides.{nat_tests}
use Rattle.std.proofs.lemmas.List.{nil_from_length}
use Rattle.av_plain.specs.World.{with_bytes}
use Rattle.av_audit_world.specs.Space.{IsSpace}
use Rattle.av_audit_world.proofs.BytesLaws.{no-bytes, pieces-written}
use Rattle.av_audit_world.proofs.space.Space.write.Goals as goal

pub loop-rest-preserved : goal.loop-rest-preserved
loop-rest-preserved c =
    let page = c.loop-rest.page in
    let at = c.loop-rest.at in
    let rest = c.loop-rest.rest.now in
    let piece = c.split_at.result.0.now in
    let others = c.split_at.result.1.now in
    let some : 0 < length rest = grind (arith, nat_tests, c.loop-rest-test.true, c.is_empty.ensures) in
    let small = c.loop-rest.invariant.small in
    let size = c.split_at.ensures.front_len in
    let most = c.min.ensures in
    let left = c.split_at.ensures.back_len in
    record {
      small = omega arith;
      ends = λ more. let e = c.loop-rest.invariant.ends some in omega (arith, more, e, size, most, left, small);
      stored = λ q h.
          let s = c.loop-rest.invariant.stored q h in (
            with_bytes s.0 (4096 * page + at) piece,
            c.in_ok-lay.ensures s.0 s.1,
            pieces-written s.0 page at piece others rest c.split_at.ensures.by_index.0
                (λ more. omega (arith, more, size, most, left, small)) ∙ s.2,
          );
    }

pub returns : goal.returns
returns c = λ q h.
    let s = c.loop-rest.invariant.stored q h in
    let rest = c.loop-rest.rest.now in
    let none : length rest ≡ 0 = grind (arith, nat_tests, c.loop-rest-test.false, c.is_empty.ensures) in
    let at = 4096 * c.loop-rest.page + c.loop-rest.at in
    subst (IsSpace c.loop-rest.self) (sym (no-bytes s.0 at) ∙ ap (with_bytes s.0 at) (sym (nil_from_length rest none)) ∙ s.2) s.1
