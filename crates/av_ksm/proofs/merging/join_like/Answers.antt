use Rattle.std.proofs.Common.{ℕ, ◌∷◌, [], sym, ap, subst, ◌∙◌}
use Rattle.av_base.specs.Page.{address_of}
use Rattle.av_trace.specs.declared.note.Note.TheVariants.{Joined}
use Rattle.av_plain.specs.Areas.{rmap_after_all}
use Rattle.av_plain.specs.Event.{after_notes, note_events}
use Rattle.av_mem.proofs.StayLaws.{parts-then}
use Rattle.av_ksm.specs.Merging.{HasNoted, share_notes}
use Rattle.av_ksm.proofs.MergingDone.{noted-between, noted-then, share-merged, share-other, share-still, turn-parts}
use Rattle.av_ksm.proofs.MergingViews.{on-ok}
use Rattle.av_ksm.proofs.merging.join_like.Goals as goal

pub make_merged-requires : goal.make_merged-requires
make_merged-requires c = let q = c.requires.stands in
    record { device = q.device; world = q.world; rmap = q.rmap; ledger = q.ledger; between = q.between; is = q.is.1 }

pub join_merged-requires-clause-stands : goal.join_merged-requires-clause-stands
join_merged-requires-clause-stands c =
    let q = c.requires.stands in
    let xs = share_notes q.ledger c.args.frame in
    record {
      device = q.device;
      world = q.world;
      rmap = rmap_after_all q.ledger (note_events xs) q.rmap;
      ledger = after_notes q.ledger xs;
      between = noted-between q.device c.args.mem.now c.make_merged.new.mem q.world q.rmap q.ledger xs c.args.notes.now c.make_merged.new.notes
          (c.in_ok-make_merged.ensures.merged q.device q.world q.rmap q.ledger q.between q.is.1)
          (share-still q.device c.args.mem.now q.world q.ledger c.args.frame);
      is = (share-other q.ledger c.args.key c.args.own c.args.frame q.is.0, share-merged q.ledger c.args.frame);
    }

pub join_merged-requires-clause-unlocked : goal.join_merged-requires-clause-unlocked
join_merged-requires-clause-unlocked c = ap (λ (locks : ℕ → ℕ). locks c.args.own) c.make_merged.ensures.parts.locks ∙ c.requires.unlocked

pub returns-clause-joins : goal.returns-clause-joins
returns-clause-joins c = on-ok c.join_merged.result (λ joins d w r l h has ready same.
    let old = c.args.mem.now in
    let mid = c.make_merged.new.mem in
    let xs = share_notes l c.args.frame in
    let a = c.in_ok-make_merged.ensures.merged d w r l h ready in
    let still = share-still d old w l c.args.frame in
    let bytes = c.in_ok-make_merged.ensures.bytes in
    subst (λ ns. HasNoted d old c.join_merged.new.mem w r l ns c.args.notes.now c.join_merged.new.notes)
    (turn-parts l c.args.key c.args.own c.args.frame has.other)
    (noted-then d old mid w r l xs c.args.notes.now c.make_merged.new.notes a still c.join_merged.new.mem
    (Joined c.args.key.0 (address_of c.args.key.1) c.args.frame ∷ []) c.join_merged.new.notes
    (joins d w (rmap_after_all l (note_events xs) r) (after_notes l xs)
    (noted-between d old mid w r l xs c.args.notes.now c.make_merged.new.notes a still)
    (share-other l c.args.key c.args.own c.args.frame has) (share-merged l c.args.frame)
    (λ i below. ap (λ (held : ℕ → ℕ → ℕ). held c.args.frame i) bytes ∙ same i below
    ∙ sym (ap (λ (held : ℕ → ℕ → ℕ). held c.args.own i) bytes))))) c.join_merged.ensures.joins

pub returns-clause-bytes : goal.returns-clause-bytes
returns-clause-bytes c = on-ok c.join_merged.result (λ bytes. bytes ∙ c.in_ok-make_merged.ensures.bytes) c.join_merged.ensures.bytes

pub returns-clause-parts : goal.returns-clause-parts
returns-clause-parts c = parts-then c.make_merged.ensures.parts c.join_merged.ensures.parts
