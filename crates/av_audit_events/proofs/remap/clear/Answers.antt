use Rattle.std.proofs.Common.{List, map, ap, ◌∙◌, get_or}
use Rattle.av_base.specs.Keys.{Key}
use Rattle.av_audit_book.specs.Book.{ledger_of}
use Rattle.av_audit_pages.specs.declared.entries.Entry.{Entry}
use Rattle.av_audit_pages.specs.declared.entries.Entry.TheVariants.{Zero}
use Rattle.av_audit_events.specs.Remap.{without_keys}
use Rattle.av_audit_events.proofs.FilterLaws.{slice-cons}
use Rattle.av_audit_events.proofs.RemapLaws.{without-all, without-then}
use Rattle.av_audit_events.proofs.remap.clear.Goals as goal

pub loop-rest-preserved : goal.loop-rest-preserved
loop-rest-preserved c =
    let l = ledger_of c.loop-rest.book in
    without-then l (ledger_of c.remove.new.book) (get_or c.loop-rest.rest.now 0 ((0, 0), Zero)) _ c.remove.ensures
    ∙ ap (λ (es : List (Key × Entry)). without_keys (map (λ (e : Key × Entry). e.0) es) l)
    (slice-cons c.loop-rest.rest.now ((0, 0), Zero) c.in-len1-up.len_at_least)
    ∙ c.loop-rest.invariant

pub returns : goal.returns
returns c = without-all (ledger_of c.loop-rest.book) c.loop-rest.rest.now c.in_default.len_below ∙ c.loop-rest.invariant
