use Rattle.std.proofs.Common.{ℕ, ◌+◌, refl, subst, sym}
use Rattle.av_trace.specs.declared.place.Place.{Place}
use Rattle.av_vma.specs.Pages.{after_unmap}
use Rattle.av_spaces.specs.Spaces.{is_taken, pages_of}
use Rattle.av_plain.specs.Areas.{with_room}
use Rattle.av_plain.specs.Map.{zaps_for_place}
use Rattle.av_plain.specs.Zap.{keys_in, zaps_of}
use Rattle.av_place.specs.Place.{AreToUnmap}
use Rattle.av_kernel.specs.Map.{AreUnmapped}
use Rattle.av_kernel.proofs.MapLaws.{nothing_there, on_ok}
use Rattle.av_kernel.proofs.map.make_room.Goals as goal

pub returns-in_default : goal.returns-in_default
returns-in_default c = record {
  unmapped = λ d l stands. nothing_there d c.args.mem.now c.requires.steady c.args.process c.args.page c.args.pages c.args.place l c.args.notes.now
      stands c.requires.lives
      c.requires.there c.in_default.not-Fixed;
  count = refl;
}

pub returns-in-Fixed-clause-unmapped : goal.returns-in-Fixed-clause-unmapped
returns-in-Fixed-clause-unmapped c = λ d l stands.
    let old = c.args.mem.now in
    let new = c.unmap_pages.new.mem in
    let p = c.args.process in
    let n = c.args.pages in
    let on = pages_of old.spaces.processes p in
    let fixed = subst (AreToUnmap (is_taken old.spaces.processes p) c.args.page n) c.in-Fixed.is c.requires.there in
    on_ok c.unmap_pages.result (λ gone.
    subst (λ (place : Place). AreUnmapped d old new p c.args.page n (with_room n place on) l (zaps_for_place l p n place) c.args.notes.now
    c.unmap_pages.new.notes) (sym c.in-Fixed.is)
    (subst (λ (page : ℕ). AreUnmapped d old new p c.args.page n (after_unmap page (page + n) on) l (zaps_of l (keys_in l p page n))
    c.args.notes.now c.unmap_pages.new.notes) fixed gone))
    (c.unmap_pages.ensures.unmapped d l stands)
