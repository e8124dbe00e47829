use Rattle.std.proofs.Common.{◌≡◌, ◌+◌, ◌*◌, ◌≤◌, ap, sym, ◌∙◌, refl, arith, length, Some, option_map}
use Rattle.std.specs.Prelude.{slice_get}
use Rattle.std.proofs.lemmas.Option.{slice_get_read, slice_get_past}
use Rattle.av_pagetable.specs.Dir.{in_part}
use Rattle.av_pagetable.specs.Parts.{parts_in}
use Rattle.av_pagetable.proofs.dir.Dir.first_in.Goals as goal

pub returns-then-place-len : goal.returns-then-place-len
returns-then-place-len g c =
    let d = c.self.inside in
    let past : length (parts_in d.parts) ≤ c.args.place = omega (arith, c.if-place-len.true, c.len.ensures) in
    λ q from. ap (λ v. in_part g.C.Level.at (option_map (λ part. part.1) (slice_get v c.args.place)) q) (sym c.self.view_is)
    ∙ ap (λ o. in_part g.C.Level.at (option_map (λ part. part.1) o) q) (slice_get_past (parts_in d.parts) c.args.place past)

pub returns-in_err-found : goal.returns-in_err-found
returns-in_err-found g c =
    let look : slice_get c.args.self.now c.args.place ≡ Some c.at-part.result.now =
    rw (← c.self.view_is) (slice_get_read (parts_in c.self.inside.parts) _ c.args.place c.at-part.result.now refl
    (omega (arith, c.if-place-len.false, c.len.ensures)) c.at-part.ensures) in
    rw c.from_residual.ensures (λ q from. ap (λ o. in_part g.C.Level.at (option_map (λ part. part.1) o) q) look ∙ c.in_err-found.ensures q from)

pub returns : goal.returns
returns g c =
    let look : slice_get c.args.self.now c.args.place ≡ Some c.at-part.result.now =
    rw (← c.self.view_is) (slice_get_read (parts_in c.self.inside.parts) _ c.args.place c.at-part.result.now refl
    (omega (arith, c.if-place-len.false, c.len.ensures)) c.at-part.ensures) in
    (c.at-part.result.now, c.in_ok-found.found, look, (λ i. c.from.ensures i * c.span.ensures.is i + c.in_ok-found.found), c.in_ok-found.ensures)
