use Rattle.std.proofs.Common.{◌≡◌, IsSomeAnd, sym, subst}
use Rattle.av_vmatree.specs.Spans.{span_of}
use Rattle.av_vmatree.proofs.Spans.{removed, room_here, entry_there}
use Rattle.av_vmatree.proofs.tree.Tree.remove.Goals as goal

pub remove-requires : goal.remove-requires
remove-requires c = record {
  room = room_here _ c.self.invariant;
  there = entry_there c.args.area c.args.from c.self.inside.spans
      (subst (λ xs. IsSomeAnd (span_of xs c.args.area) (λ s. s.from ≡ c.args.from)) (sym c.self.view_is) c.requires.there);
}

pub invariant_of-self : goal.invariant_of-self
invariant_of-self c = (removed c.args.area c.args.from c.self.inside.spans c.args.self.now c.remove.new.self c.self.view_is c.self.invariant
    c.requires.there c.remove.ensures.entries).good

pub returns : goal.returns
returns c =
    let h = removed c.args.area c.args.from c.self.inside.spans c.args.self.now c.remove.new.self c.self.view_is c.self.invariant
    c.requires.there c.remove.ensures.entries in
    record {
      spans = h.spans;
      areas = h.areas;
      pages = h.pages;
      kept = h.good;
    }
