use Rattle.std.proofs.Common.{◌≡◌, ◌≢◌, ℕ, ◌+◌, ◌==◌, Some, Ok, Err, false, sym, subst, ◌∙◌, arith, true, refl, ◌≤◌}
use Rattle.std.proofs.lemmas.Bool.Decides.{nat_tests}
use Rattle.av_base.specs.Flags.{no_flags}
use Rattle.av_base.specs.Page.{pages_of}
use Rattle.av_trace.specs.declared.command.Command.TheVariants.{Mmap}
use Rattle.av_plain.specs.World.{pages}
use Rattle.av_plain.specs.Map.{zaps_for_place}
use Rattle.av_kernel.specs.Map.{marks_on, set_on, GetsAreas, GetsMarks, HomesStay, AreUnmapped}
use Rattle.av_plain.specs.Areas.{with_room}
use Rattle.av_vma.specs.Pages.{after_map}
use Rattle.av_spaces.specs.Spaces.{pages_of as plain_pages}
use Rattle.av_merge.specs.Kin.{lengths}
use Rattle.av_place.specs.Place.{IsPlaced}
use Rattle.std.specs.Int.{div_ceil}
use Rattle.av_trace.specs.declared.reply.Errno.TheVariants.{Esrch, Einval, Enomem}
use Rattle.av_step.proofs.StepLaws.{answers-noted, orderly, ranges_there, refuses, refuses-as, refuses-by, dead_first, wants-by}
use Rattle.av_place.proofs.PlaceLaws.{rounded_up, suited}
use Rattle.av_kernel.proofs.MapLaws.{taken_is, suits, unmapped_lives, unmapped_free, mmap-refused, mmap-steps, mmap-tests-first, mmap-tests-second}
use Rattle.av_kernel.proofs.MapMarks.{gets_areas, mapped-homes, mapped-marks}
use Rattle.av_kernel.proofs.map.mmap.Goals as goal

not_zero : (n : ℕ) → n ≢ 0 → (n == 0) ≡ false
not_zero n h = grind (arith, nat_tests)

is_zero : (n : ℕ) → n ≡ 0 → (n == 0) ≡ true
is_zero n h = grind (arith, nat_tests)

some_pages : (len n : ℕ) → len ≢ 0 → n ≡ div_ceil len 4096 → 1 ≤ n
some_pages len n h e = omega (arith, h, e)

pub make_room-requires-clause-high : goal.make_room-requires-clause-high
make_room-requires-clause-high c = (suits c.args.mem.now c.requires.steady c.args.process c.div_ceil-pages.result c.in_ok-page.page
    c.args.place c.in_ok-page.ensures).highest

pub make_room-requires-clause-there : goal.make_room-requires-clause-there
make_room-requires-clause-there c = (suits c.args.mem.now c.requires.steady c.args.process c.div_ceil-pages.result c.in_ok-page.page
    c.args.place c.in_ok-page.ensures).clear

pub map-requires-clause-lives : goal.map-requires-clause-lives
map-requires-clause-lives c = let steady = c.requires.steady in unmapped_lives c.args.mem.now c.make_room.new.mem c.args.process c.in_ok-page.page
    c.div_ceil-pages.result _ _ _ _ _ (c.in_ok-make_room.ensures.unmapped steady.0 steady.1.ledger (orderly c.args.mem.now steady.1 steady.2))

pub map-requires-clause-low : goal.map-requires-clause-low
map-requires-clause-low c = (suits c.args.mem.now c.requires.steady c.args.process c.div_ceil-pages.result c.in_ok-page.page
    c.args.place c.in_ok-page.ensures).lowest

pub map-requires-clause-high : goal.map-requires-clause-high
map-requires-clause-high c = (suits c.args.mem.now c.requires.steady c.args.process c.div_ceil-pages.result c.in_ok-page.page
    c.args.place c.in_ok-page.ensures).highest

pub map-requires-clause-free : goal.map-requires-clause-free
map-requires-clause-free c = let steady = c.requires.steady in unmapped_free c.args.mem.now c.make_room.new.mem c.args.process c.in_ok-page.page
    c.div_ceil-pages.result _ _ _ _ _ (c.in_ok-make_room.ensures.unmapped steady.0 steady.1.ledger (orderly c.args.mem.now steady.1 steady.2))

pub overflow_mul-page : goal.overflow_mul-page
overflow_mul-page c = let high = (suits c.args.mem.now c.requires.steady c.args.process c.div_ceil-pages.result c.in_ok-page.page c.args.place
    c.in_ok-page.ensures).highest in omega (arith, high)

pub returns-in_err-check_lives : goal.returns-in_err-check_lives
returns-in_err-check_lives c =
    refuses-as c.args.mem.now c.args.mem.now (Mmap c.args.process c.args.len c.args.prot c.args.place) Esrch c.args.reply.now c.from_residual.result
    c.in_err-check_lives.field-0.0 c.from_residual.ensures c.in_err-check_lives.ensures.1
    (refuses c.args.mem.now (Mmap c.args.process c.args.len c.args.prot c.args.place) Esrch
    (λ d s keeps. dead_first c.args.mem.now s c.args.process _ keeps c.in_err-check_lives.ensures.0))

pub returns-then-len-eq0 : goal.returns-then-len-eq0
returns-then-len-eq0 c = refuses c.args.mem.now (Mmap c.args.process c.args.len c.args.prot c.args.place) Einval
    (λ d s keeps. mmap-tests-first c.args.mem.now s c.args.process c.args.len c.args.prot c.args.place keeps c.in_ok-check_lives.ensures
    (is_zero c.args.len c.if-len-eq0.true))

pub returns-then-is_too_long : goal.returns-then-is_too_long
returns-then-is_too_long c = refuses c.args.mem.now (Mmap c.args.process c.args.len c.args.prot c.args.place) Enomem
    (λ d s keeps. mmap-tests-second c.args.mem.now s c.args.process c.args.len c.args.prot c.args.place keeps c.in_ok-check_lives.ensures
    (not_zero c.args.len c.if-len-eq0.false) (sym c.is_too_long.ensures ∙ c.if-is_too_long.true))

pub returns-in_err-page : goal.returns-in_err-page
returns-in_err-page c = refuses-by c.args.mem.now c.args.mem.now (Mmap c.args.process c.args.len c.args.prot c.args.place) c.in_err-page.field-0.0
    c.args.reply.now c.from_residual-in_err-page.result c.from_residual-in_err-page.ensures (record {
      count = refl;
      step = λ d s keeps.
          let k = c.args.mem.now in
          let size = c.div_ceil-pages.ensures ∙ rounded_up c.args.len in
          mmap-refused k s c.args.process c.args.len c.args.prot c.args.place keeps (ranges_there k c.args.process c.in_ok-check_lives.ensures)
          (not_zero c.args.len c.if-len-eq0.false) (sym c.is_too_long.ensures ∙ c.if-is_too_long.false)
          c.in_err-page.field-0.0 (subst (λ n. IsPlaced (pages s.world c.args.process) n c.args.place (Err c.in_err-page.field-0.0)) size
          (c.in_err-page.ensures (pages s.world c.args.process) (taken_is k s c.args.process keeps)));
    })

pub returns-in_err-make_room : goal.returns-in_err-make_room
returns-in_err-make_room c =
    wants-by c.args.mem.now c.make_room.new.mem (Mmap c.args.process c.args.len c.args.prot c.args.place)
    (record c.args.reply.now { notes = c.make_room.new.notes })
    c.from_residual-in_err-make_room.result c.from_residual-in_err-make_room.ensures c.make_room.ensures.count

pub returns-in_err-map : goal.returns-in_err-map
returns-in_err-map c = wants-by c.args.mem.now (record c.make_room.new.mem { spaces = c.map.new.self; anons = c.map.new.anons })
    (Mmap c.args.process c.args.len c.args.prot c.args.place) (record c.args.reply.now { notes = c.make_room.new.notes })
    c.from_residual-in_err-map.result
    c.from_residual-in_err-map.ensures c.make_room.ensures.count

pub returns : goal.returns
returns c = record {
  count = c.make_room.ensures.count;
  step = λ d s keeps.
      let k = c.args.mem.now in
      let mid = c.make_room.new.mem in
      let page = c.in_ok-page.page in
      let size = c.div_ceil-pages.ensures ∙ rounded_up c.args.len in
      let suit = (suits c.args.mem.now c.requires.steady c.args.process c.div_ceil-pages.result c.in_ok-page.page c.args.place
      c.in_ok-page.ensures) in
      let before = c.args.reply.now.notes in
      let notes = c.make_room.new.notes in
      let unmapped = c.in_ok-make_room.ensures.unmapped d s.ledger (orderly k s keeps) in
      let sized = subst (λ n. AreUnmapped d k mid c.args.process page n
      (with_room n c.args.place (plain_pages k.spaces.processes c.args.process)) s.ledger
      (zaps_for_place s.ledger c.args.process n c.args.place) before notes) size unmapped in
      let placed = subst (λ n. IsPlaced (pages s.world c.args.process) n c.args.place (Ok page)) size
      (c.in_ok-page.ensures (pages s.world c.args.process) (taken_is k s c.args.process keeps)) in
      let free = unmapped_free k mid c.args.process page c.div_ceil-pages.result _ s.ledger _ before notes unmapped in
      let marks = mapped-marks (lengths mid.spaces.areas mid.anons) mid.spaces.processes c.map.new.self.processes c.args.process page
      c.div_ceil-pages.result
      c.args.prot no_flags (some_pages c.args.len c.div_ceil-pages.result c.if-len-eq0.false c.div_ceil-pages.ensures) suit.lowest suit.highest
      free c.in_ok-map.ensures.areas in
      let homes = mapped-homes (lengths mid.spaces.areas mid.anons) mid.spaces.processes c.map.new.self.processes c.args.process page
      c.div_ceil-pages.result
      c.args.prot no_flags (some_pages c.args.len c.div_ceil-pages.result c.if-len-eq0.false c.div_ceil-pages.ensures) suit.lowest suit.highest
      free c.in_ok-map.ensures.areas in
      answers-noted c.args.reply.now c.answer_with.new.reply notes _ c.requires.cleared c.answer_with.ensures sized.taken.notes
      (mmap-steps k s c.args.process c.args.len c.args.prot c.args.place keeps (ranges_there k c.args.process c.in_ok-check_lives.ensures)
      (not_zero c.args.len c.if-len-eq0.false) (sym c.is_too_long.ensures ∙ c.if-is_too_long.false)
      mid c.map.new.self c.map.new.anons page placed (suited k.spaces.processes c.args.process (pages s.world c.args.process)
      (taken_is k s c.args.process keeps) (pages_of c.args.len) page c.args.place placed).clear c.make_room.ensures.count before notes sized
      (subst (λ n. GetsMarks mid.spaces.processes c.map.new.self.processes c.args.process
      (set_on page n (Some (c.args.prot, no_flags)) (marks_on (plain_pages mid.spaces.processes c.args.process)))) size marks)
      (subst (λ n. GetsAreas mid.spaces.processes c.map.new.self.processes c.args.process
      (after_map (lengths mid.spaces.areas mid.anons) c.args.process page (page + n) c.args.prot no_flags
      (plain_pages mid.spaces.processes c.args.process))) size
      (gets_areas mid.spaces.processes c.map.new.self.processes c.args.process _ c.in_ok-map.ensures.areas)) c.in_ok-map.ensures.anons
      (subst (λ n. HomesStay mid.spaces.processes c.map.new.self.processes c.args.process page n) size homes));
}

pub map-requires-clause-order : goal.map-requires-clause-order
map-requires-clause-order c =
    let s = c.requires.steady in
    (c.in_ok-make_room.ensures.unmapped s.0 s.1.ledger (orderly c.args.mem.now s.1 s.2)).anons.fit.order
