use Rattle.std.proofs.Common.{[], refl}
use Rattle.av_plain.specs.Merge.{candidate, with_candidate}
use Rattle.av_audit_book.specs.Book.{ledger_of}
use Rattle.av_audit_book.specs.Machine.{setting_of}
use Rattle.av_audit_judge.proofs.Finds.{slice-cons}
use Rattle.av_audit_neighbour.specs.Held.{held_by}
use Rattle.av_audit_neighbour.specs.Known.{known_at_first}
use Rattle.av_audit_neighbour.proofs.FirstLaws.{none-left}
use Rattle.av_audit_neighbour.proofs.Knowing.{known-first}
use Rattle.av_audit_neighbour.proofs.MergeLaws.{merging-end, merging-next}
use Rattle.av_audit_neighbour.proofs.merging.merges.Goals as goal

pub loop-rest-init : goal.loop-rest-init
loop-rest-init c = λ w at fit.
    let m = setting_of c.args.machine.now in
    let held = held_by c.args.memories.now c.args.pages.now in
    let l = ledger_of c.args.book.now in (
      [],
      record { notes = refl; after = refl },
      record { known = known_at_first m l; kept = c.in_ok-contents.ensures; knows = known-first m held l; in_range = fit },
    )

pub loop-rest-preserved : goal.loop-rest-preserved
loop-rest-preserved c = λ w at fit.
    let m = setting_of c.args.machine.now in
    let held = held_by c.args.memories.now c.args.pages.now in
    let now = ledger_of c.loop-rest.book in
    let so_far = c.loop-rest.invariant w at fit in
    let turned = c.in_ok-takes_turn.ensures m w so_far.0 at so_far.2 in (
      with_candidate so_far.0 (candidate w now _),
      merging-next m held w (ledger_of c.args.book.now) c.args.keys.now c.args.notes.now now (ledger_of c.takes_turn.new.book)
          c.loop-rest.notes c.takes_turn.new.notes so_far.0 _ _ _ c.loop-rest.rest.now (candidate w now _)
          (slice-cons c.loop-rest.rest.now _ c.in-len1-up.len_at_least) refl so_far.1 refl turned.notes turned.after,
      turned.aware,
    )

pub returns : goal.returns
returns c = λ w at fit.
    let so_far = c.loop-rest.invariant w at fit in
    merging-end (setting_of c.args.machine.now) (held_by c.args.memories.now c.args.pages.now) w (ledger_of c.args.book.now) c.args.keys.now
    c.args.notes.now (ledger_of c.loop-rest.book) c.loop-rest.notes so_far.0 c.loop-rest.rest.now
    (none-left c.loop-rest.rest.now c.in_default.len_below) so_far.1
