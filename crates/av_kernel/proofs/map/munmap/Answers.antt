use Rattle.std.proofs.Common.{sym, subst, ◌∙◌, ◌+◌, ◌/◌}
use Rattle.av_plain.specs.Zap.{keys_in, zaps_of}
use Rattle.av_trace.specs.declared.command.Command.TheVariants.{Munmap}
use Rattle.av_kernel.specs.Map.{AreUnmapped}
use Rattle.av_vma.specs.Pages.{after_unmap}
use Rattle.av_spaces.specs.Spaces.{pages_of}
use Rattle.av_trace.specs.declared.reply.Errno.TheVariants.{Esrch, Einval}
use Rattle.av_step.proofs.StepLaws.{answers-noted, orderly, ranges_there, refuses, refuses-as, dead_first, wants-by}
use Rattle.av_place.proofs.PlaceLaws.{rounded_up}
use Rattle.av_kernel.proofs.MapLaws.{munmap-steps, munmap-refused}
use Rattle.av_kernel.proofs.map.munmap.Goals as goal

pub returns-in_err-check_lives : goal.returns-in_err-check_lives
returns-in_err-check_lives c =
    refuses-as c.args.mem.now c.args.mem.now (Munmap c.args.process c.args.address c.args.len) Esrch c.args.reply.now c.from_residual.result
    c.in_err-check_lives.field-0.0 c.from_residual.ensures c.in_err-check_lives.ensures.1
    (refuses c.args.mem.now (Munmap c.args.process c.args.address c.args.len) Esrch
    (λ d s keeps. dead_first c.args.mem.now s c.args.process _ keeps c.in_err-check_lives.ensures.0))

pub returns-then-is_no_range : goal.returns-then-is_no_range
returns-then-is_no_range c = refuses c.args.mem.now (Munmap c.args.process c.args.address c.args.len) Einval
    (λ d s keeps. munmap-refused c.args.mem.now s c.args.process c.args.address c.args.len keeps c.in_ok-check_lives.ensures
    (sym c.is_no_range.ensures ∙ c.if-is_no_range.true))

pub returns-in_err-unmap_pages : goal.returns-in_err-unmap_pages
returns-in_err-unmap_pages c =
    wants-by c.args.mem.now c.unmap_pages.new.mem (Munmap c.args.process c.args.address c.args.len)
    (record c.args.reply.now { notes = c.unmap_pages.new.notes }) c.from_residual-in_err-unmap_pages.result c.from_residual-in_err-unmap_pages.ensures
    c.unmap_pages.ensures.count

pub returns : goal.returns
returns c = record {
  count = c.unmap_pages.ensures.count;
  step = λ d s keeps.
      let k = c.args.mem.now in
      let page = c.args.address / 4096 in
      let before = c.args.reply.now.notes in
      let notes = c.unmap_pages.new.notes in
      let unmapped = subst (λ n. AreUnmapped d k c.unmap_pages.new.mem c.args.process page n
      (after_unmap page (page + n) (pages_of k.spaces.processes c.args.process)) s.ledger
      (zaps_of s.ledger (keys_in s.ledger c.args.process page n)) before notes) (c.div_ceil-pages.ensures ∙ rounded_up c.args.len)
      (c.in_ok-unmap_pages.ensures.unmapped d s.ledger (orderly k s keeps)) in
      answers-noted c.args.reply.now c.answer_with.new.reply notes _ c.requires.cleared c.answer_with.ensures unmapped.taken.notes
      (munmap-steps k c.unmap_pages.new.mem s c.args.process c.args.address c.args.len keeps
      (ranges_there k c.args.process c.in_ok-check_lives.ensures)
      (sym c.is_no_range.ensures ∙ c.if-is_no_range.false) c.unmap_pages.ensures.count before notes unmapped);
}
