use Rattle.std.proofs.Common.{◌+◌, ◌-◌, ◌<◌, map, ap, subst, sym, ◌∙◌, List}
use Rattle.std.specs.Prelude.{◌^◌}
use Rattle.std.specs.List.{AllByRecursion}
use Rattle.std.proofs.lemmas.Result.{on_ok_weaker}
use Rattle.av_base.specs.Keys.{Key}
use Rattle.av_plain.specs.Event.{put_all}
use Rattle.av_plain.specs.Ledger.{Entry as PlainEntry}
use Rattle.av_audit_pages.specs.Entries.{entries_of}
use Rattle.av_audit_book.specs.Book.{ledger_of}
use Rattle.av_audit_pages.specs.declared.entries.Entry.{Entry}
use Rattle.av_audit_events.specs.Remap.{without_keys}
use Rattle.av_audit_events.proofs.RemapLaws.{all-fit, fit-raw, places-say, range-gone}
use Rattle.av_audit_events.proofs.remap.move_entries.Goals as goal

pub at_pages-requires : goal.at_pages-requires
at_pages-requires c =
    subst (AllByRecursion (λ (e : Key × Entry). e.0.1 - c.args.from + c.args.to < 2 ^ 64)) (sym c.as_slice.ensures.value)
    (fit-raw c.args.from c.args.to c.in_ok-entries.entries.items
    (subst (AllByRecursion (λ (e : Key × PlainEntry). e.0.1 - c.args.from + c.args.to < 2 ^ 64)) (sym c.in_ok-entries.ensures)
    (all-fit c.args.process c.args.from c.args.to c.args.n c.requires.to (ledger_of c.args.book.now).entries)))

pub returns : goal.returns
returns c =
    let l = ledger_of c.args.book.now in
    let others = ap entries_of (c.as_slice-3.ensures.value ∙ c.in_ok-others.ensures
    ∙ ap (map (λ (e : Key × Entry). ((e.0.0, e.0.1 - c.args.from + c.args.to), e.1))) c.as_slice.ensures.value)
    ∙ places-say c.args.process c.args.from c.args.n c.args.to c.in_ok-entries.entries.items l.entries c.in_ok-entries.ensures in
    let gone = c.clear.ensures ∙ ap (λ (es : List (Key × Entry)). without_keys (map (λ (e : Key × Entry). e.0) es) l) c.as_slice-2.ensures.value
    ∙ range-gone c.args.process c.args.from c.args.n l c.in_ok-entries.entries.items c.in_ok-entries.ensures in
    on_ok_weaker c.put_all.result (λ h. h ∙ (λ i. put_all (others i) (gone i))) c.put_all.ensures
