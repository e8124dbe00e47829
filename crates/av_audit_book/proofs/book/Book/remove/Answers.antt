use Rattle.std.proofs.Common.{ap, map, ◌∙◌}
use Rattle.std.specs.Prelude.{option_map}
use Rattle.av_base.specs.Keys.{Key, key_cmp}
use Rattle.av_audit_pages.specs.Entries.{cached_of, entry_of}
use Rattle.av_audit_book.specs.Book.{areas_of}
use Rattle.av_audit_book.proofs.MapLaws.{find-says}
use Rattle.av_audit_book.proofs.RemovalLaws.{removed-key}
use Rattle.av_audit_book.proofs.book.Book.remove.Goals as goal

pub returns : goal.returns
returns c =
    let k : Key = (c.args.process, c.args.page) in
    let es = c.args.self.now.pages.entries in
    let left = removed-key es c.remove.new.self.entries k c.remove.ensures.entries c.remove.ensures.gone in
    record {
      entry = ap (option_map entry_of) c.remove.ensures.value ∙ find-says key_cmp entry_of es k;
      others = λ i. record {
        entries = left i;
        cache = map cached_of (c.remove.ensures.cache i);
        flight = c.args.self.now.flight;
        active = c.args.self.now.active;
        inactive = c.args.self.now.inactive;
        merged = c.args.self.now.merged;
        on = areas_of c.args.self.now.on.entries;
      };
    }
