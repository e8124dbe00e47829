use Rattle.std.proofs.Common.{ap, map, refl, ◌∙◌}
use Rattle.std.proofs.lemmas.Result.{on_ok_weaker}
use Rattle.av_base.specs.Words.{renamed}
use Rattle.av_plain.specs.Event.{placed_entry}
use Rattle.av_audit_pages.specs.Entries.{cached_of, cached_with_frame_at, entries_of, with_frame_at}
use Rattle.av_audit_book.specs.Book.{areas_of}
use Rattle.av_audit_pages.specs.Entries.{changed_pair}
use Rattle.av_audit_pages.specs.declared.changes.PairChange.TheVariants.{Frame}
use Rattle.av_audit_pages.proofs.EntryLaws.{change-entries, change-pairs, place-is}
use Rattle.av_audit_book.proofs.book.Book.replace.Goals as goal

pub returns : goal.returns
returns c =
    let from = c.args.from in
    let to = c.args.to in
    let cache = ap (map cached_of) (c.change.ensures.cache ∙ c.in_ok-change_pairs.ensures.cache)
    ∙ change-pairs (changed_pair (Frame from to)) (cached_with_frame_at from to) (λ t. refl) c.args.self.now.pages.cache in
    on_ok_weaker c.change.result
    (λ changes. let entries = ap entries_of changes
    ∙ change-entries (with_frame_at from to) (placed_entry (renamed from to)) (place-is from to) c.change_pairs.new.self.entries
    ∙ ap (λ es. map (λ e. (e.0, placed_entry (renamed from to) e.1)) (entries_of es)) c.in_ok-change_pairs.ensures.entries in
    λ i. record {
      entries = entries i;
      cache = cache i;
      flight = c.args.self.now.flight;
      active = c.in_ok-replace.ensures.ok i;
      inactive = c.in_ok-replace-2.ensures.ok i;
      merged = c.in_ok-replace-3.ensures.ok i;
      on = areas_of c.args.self.now.on.entries;
    })
    c.change.ensures.entries
