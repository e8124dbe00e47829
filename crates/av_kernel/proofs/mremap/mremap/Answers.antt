use Rattle.std.proofs.Common.{◌/◌, ◌+◌, ◌-◌, ◌≤◌, Err, refl, ap, arith, subst, sym, ◌∙◌}
use Rattle.av_frames.specs.Store.{shown}
use Rattle.av_pagetable.specs.Entries.{has}
use Rattle.av_trace.specs.declared.command.Command.TheVariants.{Mremap}
use Rattle.av_trace.specs.declared.reply.Errno.TheVariants.{Esrch}
use Rattle.av_plain.specs.Areas.{chain_length}
use Rattle.av_plain.specs.Mremap.{after_mremap}
use Rattle.av_plain.specs.Stands.{View}
use Rattle.av_vma.specs.Mremap.{IsGrowth, IsMove}
use Rattle.av_spaces.specs.Spaces.{pages_of}
use Rattle.av_mremap.specs.Areas.{HasAreas, HasRemap}
use Rattle.av_kernel.proofs.LockedRanges.{IsRecounted, recounted-ledger}
use Rattle.av_place.specs.Mremap.{IsTarget}
use Rattle.av_kernel.proofs.MremapGoes.{Goes, Passes, both_are, grow_by, high_by, last_by, move_by, shrink_by, some_by, some_new, steps_by, to_fits, whole_by}
use Rattle.av_kernel.proofs.MremapRefusals.{dead_does, no_room_does, refused_does}
use Rattle.av_place.proofs.PlaceLaws.{rounded_up}
use Rattle.av_mem.specs.declared.mem.Mem.{Mem}
use Rattle.av_step.proofs.StepLaws.{answers-noted, orderly, refuses-as, refuses-by, ranges_there, wants-by}
use Rattle.av_kernel.proofs.ForkLaws.{still_orderly}
use Rattle.av_kernel.proofs.mremap.mremap.Goals.{In_ok-check_remap, In_ok-to}
use Rattle.av_kernel.proofs.mremap.mremap.Goals as goal

-- ---- what its paths know

passes : (c : In_ok-check_remap) → Passes c.args.mem.now c.args.process c.args.address c.args.old_len c.args.new_len c.args.mode
passes c = record {
  alive = c.in_ok-check_lives.ensures;
  laid = c.in_ok-check_remap.ensures.laid;
  tests = c.in_ok-check_remap.ensures.tests;
}

goes : (c : In_ok-to) → Goes c.args.mem.now c.args.process c.args.address c.args.old_len c.args.new_len
    c.div_ceil-pages.result c.div_ceil-new_pages.result c.args.mode c.in_ok-to.to
goes c = record {
  passes = record {
    alive = c.in_ok-check_lives.ensures;
    laid = c.in_ok-check_remap.ensures.laid;
    tests = c.in_ok-check_remap.ensures.tests;
  };
  as_old = c.div_ceil-pages.ensures ∙ rounded_up c.args.old_len;
  as_new = c.div_ceil-new_pages.ensures ∙ rounded_up c.args.new_len;
  goes = c.in_ok-to.ensures;
}

-- ---- refusals

pub returns-in_err-check_lives : goal.returns-in_err-check_lives
returns-in_err-check_lives c =
    let a = c.args in
    refuses-as a.mem.now a.mem.now (Mremap a.process a.address a.old_len a.new_len a.mode) Esrch a.reply.now c.from_residual.result
    c.in_err-check_lives.field-0.0 c.from_residual.ensures c.in_err-check_lives.ensures.1
    (dead_does a.mem.now a.process a.address a.old_len a.new_len a.mode c.in_err-check_lives.ensures.0)

pub returns-in_err-check_remap : goal.returns-in_err-check_remap
returns-in_err-check_remap c =
    let a = c.args in
    let error = c.in_err-check_remap.field-0.0 in
    refuses-by a.mem.now a.mem.now (Mremap a.process a.address a.old_len a.new_len a.mode) error a.reply.now
    c.from_residual-in_err-check_remap.result c.from_residual-in_err-check_remap.ensures
    (refused_does a.mem.now a.process a.address a.old_len a.new_len a.mode c.in_ok-check_lives.ensures error c.in_err-check_remap.ensures.tests)

pub find_target-requires-clause-some : goal.find_target-requires-clause-some
find_target-requires-clause-some c =
    let em = c.div_ceil-new_pages.ensures ∙ rounded_up c.args.new_len in
    subst (λ m. 1 ≤ m) (sym em) (some_new (passes (goal.at.find_target-requires-clause-some c).In_ok-check_remap) c.requires.steady)

pub returns-in_err-to : goal.returns-in_err-to
returns-in_err-to c =
    let a = c.args in
    let error = c.in_err-to.field-0.0 in
    let en = c.div_ceil-pages.ensures ∙ rounded_up a.old_len in
    let em = c.div_ceil-new_pages.ensures ∙ rounded_up a.new_len in
    refuses-by a.mem.now a.mem.now (Mremap a.process a.address a.old_len a.new_len a.mode) error a.reply.now
    c.from_residual-in_err-to.result c.from_residual-in_err-to.ensures
    (no_room_does a.mem.now a.process a.address a.old_len a.new_len a.mode c.in_ok-check_lives.ensures error c.in_ok-check_remap.ensures.tests
    (λ q same. both_are (λ n m. IsTarget q (a.address / 4096) n m a.mode (Err error)) en em (c.in_err-to.ensures q same)))

-- ---- small linear indices

pub check_indices-requires-clause-some : goal.check_indices-requires-clause-some
check_indices-requires-clause-some c = (some_by (goes (goal.at.check_indices-requires-clause-some c).In_ok-to) c.requires.steady).0

pub check_indices-requires-clause-mapped : goal.check_indices-requires-clause-mapped
check_indices-requires-clause-mapped c = last_by (goes (goal.at.check_indices-requires-clause-mapped c).In_ok-to) c.requires.steady

pub returns-in_err-check_indices : goal.returns-in_err-check_indices
returns-in_err-check_indices c =
    let a = c.args in
    wants-by a.mem.now a.mem.now (Mremap a.process a.address a.old_len a.new_len a.mode) a.reply.now
    c.from_residual-in_err-check_indices.result c.from_residual-in_err-check_indices.ensures refl

-- ---- the entries that go

pub unlock_lost-requires-clause-new_range : goal.unlock_lost-requires-clause-new_range
unlock_lost-requires-clause-new_range c = λ there.
    let go = goes (goal.at.unlock_lost-requires-clause-new_range c).In_ok-to in
    let high = (move_by go c.requires.steady c.in_ok-check_indices.ensures.small there).high in
    omega (arith, high)

pub unlock_lost-requires-clause-apart : goal.unlock_lost-requires-clause-apart
unlock_lost-requires-clause-apart c = λ there.
    (move_by (goes (goal.at.unlock_lost-requires-clause-apart c).In_ok-to) c.requires.steady c.in_ok-check_indices.ensures.small there).apart

-- ---- areas

pub remap_areas-requires-clause-steady : goal.remap_areas-requires-clause-steady
remap_areas-requires-clause-steady c = let s = c.requires.steady in (
  s.1,
  record {
    device = s.0;
    whole = c.args.mem.now;
    keeps = s.2;
    spaces = ap (λ (k : Mem). k.spaces) c.unlock_lost.ensures.rest;
    anons = ap (λ (k : Mem). k.anons) c.unlock_lost.ensures.rest;
  },
)

pub remap_areas-requires-clause-some : goal.remap_areas-requires-clause-some
remap_areas-requires-clause-some c = (some_by (goes (goal.at.remap_areas-requires-clause-some c).In_ok-to) c.requires.steady).0

pub remap_areas-requires-clause-shrinks : goal.remap_areas-requires-clause-shrinks
remap_areas-requires-clause-shrinks c = shrink_by (goes (goal.at.remap_areas-requires-clause-shrinks c).In_ok-to) c.requires.steady

pub remap_areas-requires-clause-grows : goal.remap_areas-requires-clause-grows
remap_areas-requires-clause-grows c here more =
    subst (λ (k : Mem). IsGrowth (c.args.address / 4096 + c.div_ceil-pages.result - 1) (c.args.address / 4096 + c.div_ceil-new_pages.result)
    (pages_of k.spaces.processes c.args.process)) (sym c.unlock_lost.ensures.rest)
    (grow_by (goes (goal.at.remap_areas-requires-clause-grows c).In_ok-to) c.requires.steady c.in_ok-check_indices.ensures.small here more)

pub remap_areas-requires-clause-whole : goal.remap_areas-requires-clause-whole
remap_areas-requires-clause-whole c = λ stays.
    whole_by (goes (goal.at.remap_areas-requires-clause-whole c).In_ok-to) c.requires.steady (sym c.leaves_old-stays.ensures ∙ stays)

pub remap_areas-requires-clause-moves : goal.remap_areas-requires-clause-moves
remap_areas-requires-clause-moves c there =
    subst (λ (k : Mem). IsMove (c.args.address / 4096) c.div_ceil-pages.result c.in_ok-to.to c.div_ceil-new_pages.result
    (pages_of k.spaces.processes c.args.process)) (sym c.unlock_lost.ensures.rest)
    (move_by (goes (goal.at.remap_areas-requires-clause-moves c).In_ok-to) c.requires.steady c.in_ok-check_indices.ensures.small there)

pub returns-in_err-remap_areas : goal.returns-in_err-remap_areas
returns-in_err-remap_areas c =
    let a = c.args in
    wants-by a.mem.now c.remap_areas.new.mem (Mremap a.process a.address a.old_len a.new_len a.mode) a.reply.now
    c.from_residual-in_err-remap_areas.result c.from_residual-in_err-remap_areas.ensures
    (ap (λ (k : Mem). (shown k.frames).count) c.remap_areas.ensures.rest ∙ ap (λ (v : View). v.frames) c.unlock_lost.ensures.view)

-- ---- entries

pub remap_entries-requires-clause-orderly : goal.remap_entries-requires-clause-orderly
remap_entries-requires-clause-orderly c =
    let a = c.args in
    let s = c.requires.steady in
    let gone = c.remap_areas.new.mem in
    let off = c.unlock_lost.new.mem in
    let same : IsRecounted a.mem.now off = record { seen = c.unlock_lost.ensures.view; rest = c.unlock_lost.ensures.rest } in (
      s.0,
      s.1.ledger,
      still_orderly s.0 off gone gone.tables s.1.ledger c.remap_areas.ensures.rest refl
          (recounted-ledger s.0 a.mem.now off same s.1.ledger (orderly a.mem.now s.1 s.2)),
    )

pub remap_entries-requires-clause-there : goal.remap_entries-requires-clause-there
remap_entries-requires-clause-there c =
    let a = c.args in
    let s = c.requires.steady in
    ap (λ (k : Mem). has k.tables a.process) c.remap_areas.ensures.rest
    ∙ ap (λ (k : Mem). has k.tables a.process) c.unlock_lost.ensures.rest ∙ s.2.tables a.process
    ∙ ranges_there a.mem.now a.process c.in_ok-check_lives.ensures

pub remap_entries-requires-clause-old_range : goal.remap_entries-requires-clause-old_range
remap_entries-requires-clause-old_range c = λ there.
    let high = high_by (goes (goal.at.remap_entries-requires-clause-old_range c).In_ok-to) c.requires.steady
    c.in_ok-check_indices.ensures.small there in
    omega arith

pub remap_entries-requires-clause-new_range : goal.remap_entries-requires-clause-new_range
remap_entries-requires-clause-new_range c = λ there.
    let go = goes (goal.at.remap_entries-requires-clause-new_range c).In_ok-to in
    let high = (move_by go c.requires.steady c.in_ok-check_indices.ensures.small there).high in
    omega arith

pub remap_entries-requires-clause-apart : goal.remap_entries-requires-clause-apart
remap_entries-requires-clause-apart c = λ there.
    (move_by (goes (goal.at.remap_entries-requires-clause-apart c).In_ok-to) c.requires.steady c.in_ok-check_indices.ensures.small there).apart

pub returns-in_err-remap_entries : goal.returns-in_err-remap_entries
returns-in_err-remap_entries c =
    let a = c.args in
    wants-by a.mem.now c.remap_entries.new.mem (Mremap a.process a.address a.old_len a.new_len a.mode)
    (record a.reply.now { notes = c.remap_entries.new.notes })
    c.from_residual-in_err-remap_entries.result c.from_residual-in_err-remap_entries.ensures
    (c.remap_entries.ensures.rest.parts.count ∙ ap (λ (k : Mem). (shown k.frames).count) c.remap_areas.ensures.rest
    ∙ ap (λ (v : View). v.frames) c.unlock_lost.ensures.view)

-- ---- the answer

pub overflow_mul-to : goal.overflow_mul-to
overflow_mul-to c =
    let low = to_fits (goes (goal.at.overflow_mul-to c).In_ok-to) c.requires.steady c.in_ok-check_indices.ensures.small
    (omega (arith, c.ranges.address)) in
    omega (arith, low)

pub returns : goal.returns
returns c = record {
  count = c.remap_entries.ensures.rest.parts.count ∙ ap (λ (k : Mem). (shown k.frames).count) c.remap_areas.ensures.rest
      ∙ ap (λ (v : View). v.frames) c.unlock_lost.ensures.view;
  step = λ d s keeps.
      let a = c.args in
      let lost = c.unlock_lost.ensures in
      let off = c.unlock_lost.new.mem in
      let same : IsRecounted a.mem.now off = record { seen = lost.view; rest = lost.rest } in
      let gone = c.remap_areas.new.mem in
      let notes = c.remap_entries.new.notes in
      let held : HasAreas off s = record {
        device = d;
        whole = a.mem.now;
        keeps = keeps;
        spaces = ap (λ (k : Mem). k.spaces) lost.rest;
        anons = ap (λ (k : Mem). k.anons) lost.rest;
      } in
      let done = c.in_ok-remap_entries.ensures.remaps d s.ledger
      (still_orderly d off gone gone.tables s.ledger c.remap_areas.ensures.rest refl
      (recounted-ledger d a.mem.now off same s.ledger (orderly a.mem.now s keeps))) in
      answers-noted a.reply.now c.answer_with.new.reply notes _ c.requires.cleared c.answer_with.ensures done.notes
      (steps_by (goes (goal.at.returns c).In_ok-to) s keeps a.reply.now.notes notes c.in_ok-check_indices.ensures.small off gone c.remap_entries.new.mem
      same lost.locks c.remap_areas.ensures.rest
      (subst (λ stays. HasRemap off gone a.process (after_mremap (chain_length s.anons) a.process (a.address / 4096)
      c.div_ceil-pages.result c.in_ok-to.to c.div_ceil-new_pages.result stays (s.areas a.process))) c.leaves_old-stays.ensures
      (c.in_ok-remap_areas.ensures.remaps s held))
      done c.remap_entries.ensures.rest);
}
