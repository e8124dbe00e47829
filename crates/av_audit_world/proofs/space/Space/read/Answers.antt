use Rattle.std.proofs.Common.{◌≡◌, ℕ, ◌+◌, ◌<◌, ◌≤◌, List, length, map, ap, subst, sym, ◌∙◌, arith, length-append}
use Rattle.std.specs.BTreeMap.{get}
use Rattle.std.specs.List.{AllByRecursion, range_with_len}
use Rattle.std.specs.Ordering.{nat_cmp}
use Rattle.std.proofs.lemmas.List.FromFn.{length-map-range_with_len}
use Rattle.av_plain.specs.World.{Shows}
use Rattle.av_audit_world.specs.Space.{byte_in}
use Rattle.av_audit_world.proofs.BytesLaws.{page-shown, shows-append}
use Rattle.av_audit_world.proofs.space.Space.read.Goals as goal

pub loop-rest-preserved : goal.loop-rest-preserved
loop-rest-preserved c =
    let s = c.args.self.now in
    let page = c.loop-rest.page in
    let at = c.loop-rest.at in
    let len = c.min-len.result in
    let old = c.loop-rest.shown.items in
    let bytes = byte_in (get nat_cmp s.bytes page) in
    let piece : List ℕ = map bytes (range_with_len at len) in
    let some = c.loop-rest-test.true in
    let small = c.loop-rest.invariant.small in
    let most = c.min-len.ensures in
    let begins = c.loop-rest.invariant.ends some in
    let long : length c.show.new.shown.items ≡ length old + len =
    ap length c.in_ok-show.ensures ∙ length-append old piece ∙ ap (λ n. length old + n) (length-map-range_with_len bytes at len) in
    let fits : at + len ≤ 4096 = omega (arith, most, small) in
    record {
      small = omega arith;
      ends = λ more. omega (arith, more, begins, long, most, small);
      long = let all = c.loop-rest.invariant.long in omega (arith, all, long, most);
      shown = λ q h. subst (Shows q c.args.address) (sym c.in_ok-show.ensures)
          (shows-append q c.args.address old piece (c.loop-rest.invariant.shown q h)
          (subst (λ a. Shows q a piece) begins (page-shown s q page at len h fits)));
    }

pub returns : goal.returns
returns c = λ q h. (
  let all = c.loop-rest.invariant.long in let over = c.loop-rest-test.false in omega (arith, all, over),
  c.loop-rest.invariant.shown q h,
  subst (AllByRecursion (λ b. b < 256)) c.as_slice.ensures.value c.fit.ensures,
)
