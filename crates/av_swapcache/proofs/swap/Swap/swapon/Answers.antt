use Rattle.std.proofs.Common.{◌<◌, length, sym, refl, ◌∙◌, arith}
use Rattle.std.proofs.lemmas.Int.{ints}
use Rattle.av_swapdev.specs.Header.{header_of}
use Rattle.av_swapcache.specs.contracts.swap.Swap.{the_view}
use Rattle.av_swapcache.proofs.Whole.{answered, faulted, on_ok, on_shown, on_whole, same_area, slots_are, slots_listed}
use Rattle.av_swapcache.proofs.swap.Swap.swapon.Goals as goal

pub returns-in-Err-clause-answers : goal.returns-in-Err-clause-answers
returns-in-Err-clause-answers g c = (
  sym c.is_on.ensures ∙ c.if-is_on.false,
  c.read.new.into,
  on_ok c.read.result _ c.read.ensures.bytes (sym c.is_err.ensures.value ∙ c.if-is_err.false),
  faulted (header_of c.read.new.into c.args.pages) c.in-Err.fault c.in-Err.ensures.exact,
  refl,
)

pub new-requires : goal.new-requires
new-requires g c =
    let layout = answered (header_of c.read.new.into c.args.pages) c.in-Ok.header c.in-Ok.ensures.exact in
    slots_listed c.read.new.into c.args.pages layout.0 c.in-Ok.header c.deref.result.now layout.1 layout.2 c.in-Ok.ensures.adds_up
    (c.deref.ensures.value ∙ c.in_ok-bad.ensures c.args.pages layout.0 layout.1)

pub invariant_of-self : goal.invariant_of-self
invariant_of-self g c =
    let below : c.args.area < length (the_view c.self.inside).areas = let w = c.self.invariant.eight in let r = c.requires.number in
    omega (arith, w, r) in
    on_whole (the_view c.self.inside) c.args.self.now c.args.area c.in_ok-new.field-0 c.in-Ok.header c.args.priority c.deref.result.now c.self.view_is
    (sym c.is_on.ensures ∙ c.if-is_on.false) below
    (c.in_ok-new.ensures ∙ same_area c.in-Ok.header _ c.args.priority c.deref.result.now c.deref.result.now (omega (arith, ints)) refl) _ _
    c.self.invariant

pub returns-clause-answers : goal.returns-clause-answers
returns-clause-answers g c =
    let below : c.args.area < length (the_view c.self.inside).areas = let w = c.self.invariant.eight in let r = c.requires.number in
    omega (arith, w, r) in
    let off = sym c.is_on.ensures ∙ c.if-is_on.false in
    let layout = answered (header_of c.read.new.into c.args.pages) c.in-Ok.header c.in-Ok.ensures.exact in (
      off,
      c.read.new.into,
      on_ok c.read.result _ c.read.ensures.bytes (sym c.is_err.ensures.value ∙ c.if-is_err.false),
      layout.0,
      layout.1,
      layout.2,
      c.in-Ok.ensures.adds_up,
      slots_are c.read.new.into c.args.pages layout.0 c.in-Ok.header layout.1 layout.2 c.in-Ok.ensures.adds_up,
      on_shown (the_view c.self.inside) c.args.self.now c.args.area c.in_ok-new.field-0 c.in-Ok.header c.args.priority layout.0.bad c.self.view_is
          off below (c.in_ok-new.ensures ∙ same_area c.in-Ok.header _ c.args.priority c.deref.result.now layout.0.bad (omega (arith, ints))
          (c.deref.ensures.value ∙ c.in_ok-bad.ensures c.args.pages layout.0 layout.1)),
    )

pub returns-clause-unfailed : goal.returns-clause-unfailed
returns-clause-unfailed g c = λ _. on_ok c.read.result _ c.read.ensures.unfailed (sym c.is_err.ensures.value ∙ c.if-is_err.false)
