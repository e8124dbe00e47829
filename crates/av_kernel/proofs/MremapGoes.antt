-- What an mremap that goes somewhere may rely on, whatever the memory system stands for.
use Rattle.std.proofs.Common.{◌≡◌, ℕ, ◌+◌, ◌-◌, ◌^◌, ◌<◌, ◌≤◌, ◌==◌, ◌&&◌, ◌||◌, Bool, true, false, not, List, Some, None, is_some, refl, sym, subst, ◌∙◌, arith}
use Rattle.std.proofs.lemmas.Bool.Decides.{nat_tests}
use Rattle.av_base.specs.Limits.{top_page}
use Rattle.av_base.specs.Page.{address_of, page_of, pages_of}
use Rattle.av_trace.specs.declared.note.Note.{Note}
use Rattle.av_trace.specs.declared.command.Command.TheVariants.{Mremap}
use Rattle.av_trace.specs.declared.mode.Mode.{Mode}
use Rattle.av_trace.specs.declared.reply.Answer.TheVariants.{MapAt}
use Rattle.av_vma.specs.Mremap.{IsGrowth, IsMove}
use Rattle.av_vma.specs.Pages.{AreLaid}
use Rattle.av_spaces.specs.Spaces.{areas_of, is_taken, pages_of as areas_on}
use Rattle.av_plain.specs.Device.{Device}
use Rattle.av_plain.specs.Areas.{chain_length}
use Rattle.av_plain.specs.Event.{notes_of}
use Rattle.av_plain.specs.Mremap.{MovesTo, after_mremap, leaves_old, remap_events}
use Rattle.av_plain.specs.Refusal.{mremap_tests, overflows, refusal}
use Rattle.av_plain.specs.Transcript.{State}
use Rattle.av_plain.specs.World.{Process, pages}
use Rattle.av_plain.proofs.Refusal.{MayRemap, may-remap}
use Rattle.av_mem.specs.declared.mem.Mem.{Mem}
use Rattle.av_mem.specs.Mem.{IsSteady, Keeps, locks_of, setting_by}
use Rattle.av_mem.specs.Steps.{KeepsRest}
use Rattle.av_mremap.specs.Areas.{HasRemap}
use Rattle.av_mremap.specs.Entries.{HasRemapped}
use Rattle.av_place.specs.Mremap.{HaveProtsOf, StaySmall}
use Rattle.av_step.specs.Step.{StepsBeside}
use Rattle.av_kernel.specs.Lock.{locks_lost}
use Rattle.av_kernel.proofs.LockedRanges.{IsRecounted}
use Rattle.av_kernel.proofs.MremapLaws.{last_taken, may_grow, may_move, may_shrink, old_high, remaps, some_pages}
use Rattle.av_kernel.proofs.MremapRefusals.{have_prots_of, tests_are}
use Rattle.av_step.proofs.StepLaws.{noted}

-- what holds of two numbers holds of two that are equal

pub both_are : (P : ℕ → ℕ → Type 0) {n n' m m' : ℕ} → n ≡ n' → m ≡ m' → P n m → P n' m'
both_are P {n} {n'} {m} {m'} e f h = subst (λ x. P x m') e (subst (P n) f h)

-- it passed its tests
pub record Passes (old : Mem) (p a olen nlen : ℕ) (mode : Mode) : Type 0 where
  pub alive : is_some (areas_of old.spaces.processes p) ≡ true
  pub laid : AreLaid (areas_on old.spaces.processes p)
  pub tests : (q : Process) → HaveProtsOf (areas_on old.spaces.processes p) q → refusal (mremap_tests q a olen nlen mode) ≡ None

-- and has found room: n pages, by the one length, become m, by the other, from this page on
pub record Goes (old : Mem) (p a olen nlen n m : ℕ) (mode : Mode) (to : ℕ) : Type 0 where
  pub passes : Passes old p a olen nlen mode
  pub as_old : n ≡ pages_of olen
  pub as_new : m ≡ pages_of nlen
  pub goes : (q : Process) → HaveProtsOf (areas_on old.spaces.processes p) q → MovesTo q (page_of a) n m mode (Some to)

module _ {old : Mem} {p a olen nlen : ℕ} {mode : Mode} (passes : Passes old p a olen nlen mode) where
  may_by : {d : Device} (s : State) → Keeps d old s → MayRemap s.world p a olen nlen mode
  may_by {d} s keeps = may-remap (setting_by d old) s.world s.ledger p a olen nlen mode
      (tests_are old p a olen nlen mode passes.alive s keeps ∙ passes.tests (pages s.world p) (have_prots_of old s keeps p))

  -- before a place is sought, the new length has a page
  pub some_new : IsSteady old → 1 ≤ pages_of nlen
  some_new steady =
      by (olen == 0) (nlen == 0) (overflows olen) (overflows nlen) (leaves_old mode && not (olen == nlen)) refl (may_by steady.1 steady.2).lengths
    where
      by : (b c d e f : Bool) → (nlen == 0) ≡ c → (b || c || d || e || f) ≡ false → 1 ≤ pages_of nlen
      by true c d e f is h = cc
      by false true d e f is h = cc
      by false false d e f is h = let more : 0 < nlen = grind (arith, nat_tests, is) in omega (arith, more)

  -- a range that leaves its pages behind moves whole
  same_lengths : IsSteady old → leaves_old mode ≡ true → olen ≡ nlen
  same_lengths steady leaves =
      by (olen == 0) (nlen == 0) (overflows olen) (overflows nlen) (leaves_old mode) (olen == nlen) refl leaves (may_by steady.1 steady.2).lengths
    where
      equal : (olen == nlen) ≡ true → olen ≡ nlen
      equal e = grind (arith, nat_tests, e)

      by : (b c d e f g : Bool) → (olen == nlen) ≡ g → f ≡ true → (b || c || d || e || (f && not g)) ≡ false → olen ≡ nlen
      by b c d e f true is leaves h = equal is
      by true c d e f false is leaves h = cc
      by false true d e f false is leaves h = cc
      by false false true e f false is leaves h = cc
      by false false false true f false is leaves h = cc
      by false false false false true false is leaves h = cc
      by false false false false false false is leaves h = cc

module _ {old : Mem} {p a olen nlen n m : ℕ} {mode : Mode} {to : ℕ} (go : Goes old p a olen nlen n m mode to) where
  abbrev from : ℕ
  from = page_of a

  -- what holds of the two lengths in pages holds of n and m
  of_pages : (P : ℕ → ℕ → Type 0) → P (pages_of olen) (pages_of nlen) → P n m
  of_pages P h = both_are P (sym go.as_old) (sym go.as_new) h

  goes_by : {d : Device} (s : State) → Keeps d old s → MovesTo (pages s.world p) from (pages_of olen) (pages_of nlen) mode (Some to)
  goes_by {d} s keeps = both_are (λ n m. MovesTo (pages s.world p) from n m mode (Some to)) go.as_old go.as_new
      (go.goes (pages s.world p) (have_prots_of old s keeps p))

  module _ (steady : IsSteady old) where
    may_now : MayRemap steady.1.world p a olen nlen mode
    may_now = may_by go.passes steady.1 steady.2

    goes_now : MovesTo (pages steady.1.world p) from (pages_of olen) (pages_of nlen) mode (Some to)
    goes_now = goes_by steady.1 steady.2

    pub some_by : (1 ≤ n) × (1 ≤ m)
    some_by = of_pages (λ n m. (1 ≤ n) × (1 ≤ m)) (some_pages steady.2 may_now to go.passes.alive goes_now go.passes.laid)

    pub whole_by : leaves_old mode ≡ true → n ≤ m
    whole_by leaves = of_pages (λ n m. n ≤ m)
        (subst (λ (len : ℕ). pages_of olen ≤ pages_of len) (same_lengths go.passes steady leaves) (omega arith))

    pub last_by : n < m → is_taken old.spaces.processes p (from + n - 1) ≡ true
    last_by = of_pages (λ n m. n < m → is_taken old.spaces.processes p (from + n - 1) ≡ true)
        (last_taken steady.2 may_now to go.passes.alive goes_now go.passes.laid)

    pub shrink_by : to ≡ from → m < n → from + n ≤ top_page
    shrink_by = of_pages (λ n m. to ≡ from → m < n → from + n ≤ top_page)
        (may_shrink steady.2 may_now to go.passes.alive goes_now go.passes.laid)

    module _ (small : StaySmall old.spaces.processes p from n m) where
      small_by : StaySmall old.spaces.processes p from (pages_of olen) (pages_of nlen)
      small_by = both_are (λ n m. StaySmall old.spaces.processes p from n m) go.as_old go.as_new small

      pub grow_by : to ≡ from → n < m → IsGrowth (from + n - 1) (from + m) (areas_on old.spaces.processes p)
      grow_by = of_pages (λ n m. to ≡ from → n < m → IsGrowth (from + n - 1) (from + m) (areas_on old.spaces.processes p))
          (may_grow steady.2 may_now to go.passes.alive goes_now go.passes.laid small_by)

      pub move_by : (to ≡ from → ⊥) → IsMove from n to m (areas_on old.spaces.processes p)
      move_by = of_pages (λ n m. (to ≡ from → ⊥) → IsMove from n to m (areas_on old.spaces.processes p))
          (may_move steady.2 may_now to go.passes.alive goes_now go.passes.laid small_by)

      pub high_by : (to ≡ from → ⊥) → from + n ≤ top_page
      high_by = of_pages (λ n m. (to ≡ from → ⊥) → from + n ≤ top_page)
          (old_high steady.2 may_now to go.passes.alive goes_now go.passes.laid small_by)

      -- the address of the page where they stand then is a number of the machine
      pub to_fits : from < 2 ^ 52 → to < 2 ^ 52
      to_fits low = by (to == from) refl
        where
          by : (b : Bool) → (to == from) ≡ b → to < 2 ^ 52
          by true e = let same : to ≡ from = grind (arith, nat_tests, e) in omega (arith, same, low)
          by false e = let high = (move_by (λ same. no e same)).high in omega (arith, high)
            where
              no : (to == from) ≡ false → to ≡ from → ⊥
              no e h = grind (arith, nat_tests, e, h)

  -- the entries that go were counted no more, the areas changed, and then the entries
  pub steps_by : {d : Device} (s : State) (keeps : Keeps d old s) (before notes : List Note) → StaySmall old.spaces.processes p from n m
      → (off gone new : Mem) → IsRecounted old off → ((f : ℕ) → locks_of old f ≡ locks_of off f + locks_lost old p from n to m f)
      → gone ≡ record off { spaces = gone.spaces; anons = gone.anons }
      → HasRemap off gone p (after_mremap (chain_length s.anons) p from n to m (leaves_old mode) (s.areas p))
      → HasRemapped d gone new s.ledger (remap_events s.ledger p from n to m) before notes → KeepsRest gone new
      → StepsBeside d old new s (Mremap p a olen nlen mode) (noted (MapAt (address_of to)) (notes_of (remap_events s.ledger p from n to m)))
  steps_by {d} s keeps before notes small off gone new recounted counts same remap done rest =
      let long = chain_length s.anons in
      of_pages (λ n m. StepsBeside d old new s (Mremap p a olen nlen mode)
      (noted (MapAt (address_of to)) (notes_of (remap_events s.ledger p from n to m))))
      (remaps keeps (may_by go.passes s keeps) to go.passes.alive (goes_by s keeps) go.passes.laid
      (both_are (λ n m. StaySmall old.spaces.processes p from n m) go.as_old go.as_new small) off gone.spaces gone.anons recounted
      (both_are (λ n m. (f : ℕ) → locks_of old f ≡ locks_of off f + locks_lost old p from n to m f) go.as_old go.as_new counts)
      (subst (λ g. HasRemap off g p (after_mremap long p from (pages_of olen) to (pages_of nlen) (leaves_old mode) (s.areas p))) same
      (both_are (λ n m. HasRemap off gone p (after_mremap long p from n to m (leaves_old mode) (s.areas p))) go.as_old go.as_new remap))
      new before notes (subst (λ g. HasRemapped d g new s.ledger (remap_events s.ledger p from (pages_of olen) to (pages_of nlen)) before notes) same
      (both_are (λ n m. HasRemapped d gone new s.ledger (remap_events s.ledger p from n to m) before notes) go.as_old go.as_new done))
      (subst (λ g. KeepsRest g new) same rest)
      (tests_are old p a olen nlen mode go.passes.alive s keeps ∙ go.passes.tests (pages s.world p) (have_prots_of old s keeps p)))
