use Rattle.std.proofs.Common.{◌≡◌, ◌<◌, IsSomeAnd, refl, sym, subst, arith}
use Rattle.av_vmatree.specs.Spans.{IsFree, is_page_taken, span, span_of, without_area}
use Rattle.av_vmatree.proofs.Joins.{before_there, joined, neighbours}
use Rattle.av_vmatree.proofs.Spans.{entry_there, room_here}
use Rattle.av_vmatree.proofs.tree.Tree.join.Goals as goal

pub join-requires : goal.join-requires
join-requires c =
    let a = c.args in
    let r = c.requires in
    let xs = c.self.inside.spans in
    let good = c.self.invariant in
    let there = subst (λ l. IsSomeAnd (span_of l a.other) (λ s. s.from ≡ a.at)) (sym c.self.view_is) r.there in
    let before = subst (λ l. IsSomeAnd (span_of (without_area a.other l) a.area) (λ s. s.from ≡ a.from)) (sym c.self.view_is) r.before in
    let free = subst (λ l. IsFree (is_page_taken (without_area a.area (without_area a.other l))) a.from a.to) (sym c.self.view_is) r.free in
    record {
      room = room_here _ good;
      there = entry_there a.area a.from xs (before_there a.area a.other a.at a.from xs good there before);
      upper = entry_there a.other a.at xs there;
      after = r.lower;
      next = neighbours a.area a.other a.from a.at a.to xs good there before r.lower r.upper free;
      same = refl;
    }

pub invariant_of-self : goal.invariant_of-self
invariant_of-self c =
    let a = c.args in
    let r = c.requires in
    let low = r.lower in
    let high = r.upper in
    let some : a.from < a.to = omega arith in
    (joined (span a.area a.from a.to) a.other a.at (span a.area a.from a.at) (span a.other a.at a.to) c.self.inside.spans a.self.now
    c.join.new.self refl refl
    c.self.view_is c.self.invariant r.there r.before some r.high r.free c.join.ensures.entries).good

pub returns : goal.returns
returns c =
    let a = c.args in
    let r = c.requires in
    let low = r.lower in
    let high = r.upper in
    let some : a.from < a.to = omega arith in
    let h = joined (span a.area a.from a.to) a.other a.at (span a.area a.from a.at) (span a.other a.at a.to) c.self.inside.spans a.self.now
    c.join.new.self refl
    refl c.self.view_is c.self.invariant r.there r.before some r.high r.free c.join.ensures.entries in
    record {
      spans = h.spans;
      areas = h.areas;
      pages = h.pages;
      kept = h.good;
    }
