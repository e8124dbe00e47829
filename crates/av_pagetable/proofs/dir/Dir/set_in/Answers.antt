use Rattle.std.proofs.Common.{rules, ◌≡◌, ◌+◌, ◌*◌, ◌<◌, ◌≤◌, ◌∙◌, ap, arith, length, refl, subst, sym}
use Rattle.std.specs.List.{AllWithin}
use Rattle.av_pagetable.specs.Dir.{entries}
use Rattle.av_pagetable.specs.Parts.{parts_in}
use Rattle.av_pagetable.specs.Table.{HasSome, with_run}
use Rattle.av_pagetable.proofs.DirParts.{insert_good, set_good}
use Rattle.av_pagetable.proofs.PartsLaws.{parts_in-with_part}
use Rattle.av_pagetable.proofs.SetRun.{added, given, left_out, none_given, some_still}
use Rattle.av_pagetable.proofs.dir.Dir.set_in.Goals as goal

pub invariant_of-self : goal.invariant_of-self
invariant_of-self g c =
    let d = c.self.inside in
    let C = g.C.Level in
    let k = c.in-Ok.place in
    let p = c.at_mut-part.result.now in
    let is = c.at_mut-part.ensures.value in
    let within : k < length (parts_in d.parts) = rw c.self.view_is c.in-Ok.ensures.0 in
    let had : HasSome C.span (C.at p.1) = subst (λ part. HasSome C.span (C.at part.1)) (sym is) (c.self.invariant.full k p within) in
    rw (parts_in-with_part d.parts k (p.0, c.set_run.new.self) within)
    (set_good C.at C.span (parts_in d.parts) c.self.invariant k p within is (p.0, c.set_run.new.self) refl
    (some_still C.at C.span c.args.page c.set_run.ensures.many c.args.run.now p.1 c.set_run.new.self had c.set_run.ensures.is))

pub returns-in-Ok : goal.returns-in-Ok
returns-in-Ok g c =
    let d = c.self.inside in
    let C = g.C.Level in
    let k = c.in-Ok.place in
    let p = c.at_mut-part.result.now in
    let is = c.at_mut-part.ensures.value in
    let within : k < length (parts_in d.parts) = rw c.self.view_is c.in-Ok.ensures.0 in
    let here : p.0 ≡ c.args.number = ap (λ part. part.0) is ∙ rw c.self.view_is (c.in-Ok.ensures.1 p) in
    let set = c.set_run.ensures in
    record {
      many = set.many;
      few = set.few;
      all = set.all;
      is = ap (entries C.at C.span) (parts_in-with_part d.parts k (p.0, c.set_run.new.self) within)
          ∙ given C.at C.span (parts_in d.parts) c.self.invariant k p within is c.args.page set.many c.args.run.now c.set_run.new.self
          c.span-span.ensures.some (omega (arith, set.few, c.requires.within)) set.is
          ∙ ap (λ n. with_run (n * C.span + c.args.page) set.many c.args.run.now (entries C.at C.span (parts_in d.parts))) here
          ∙ ap (λ v. with_run (c.args.number * C.span + c.args.page) set.many c.args.run.now (entries C.at C.span v)) c.self.view_is;
    }

pub returns-in_err-set_run-in-Err : goal.returns-in_err-set_run-in-Err
returns-in_err-set_run-in-Err g c =
    let C = g.C.Level in
    record {
      many = 0;
      few = omega arith;
      all = search rules;
      is = none_given (c.args.number * C.span + c.args.page) c.args.run.now (entries C.at C.span c.args.self.now);
    }

pub invariant_of-self-in-Continue-branch-3 : goal.invariant_of-self-in-Continue-branch-3
invariant_of-self-in-Continue-branch-3 g c =
    let d = c.self.inside in
    let C = g.C.Level in
    let k = c.in-Err.place in
    let n = c.args.number in
    let part = c.set_run-in-Err.new.self in
    let within : k ≤ length (parts_in d.parts) = rw c.self.view_is c.in-Err.ensures.0 in
    let lower : AllWithin (λ part. part.0 < n) (parts_in d.parts) 0 k = rw c.self.view_is c.in-Err.ensures.1 in
    let higher : AllWithin (λ part. n < part.0) (parts_in d.parts) k (length (parts_in d.parts)) = rw c.self.view_is c.in-Err.ensures.2 in
    rw c.in_ok-insert-in-Err.ensures (insert_good C.at C.span (parts_in d.parts) c.self.invariant k (n, part) within lower higher c.requires.below
    c.if-not-is_empty.ensures)

pub returns-in_err-insert-in-Err : goal.returns-in_err-insert-in-Err
returns-in_err-insert-in-Err g c =
    let C = g.C.Level in
    record {
      many = 0;
      few = omega arith;
      all = search rules;
      is = ap (entries C.at C.span) (c.in_err-insert-in-Err.ensures ∙ c.self.view_is)
          ∙ none_given (c.args.number * C.span + c.args.page) c.args.run.now (entries C.at C.span c.args.self.now);
    }

pub returns-in_ok-insert-in-Err : goal.returns-in_ok-insert-in-Err
returns-in_ok-insert-in-Err g c =
    let d = c.self.inside in
    let C = g.C.Level in
    let k = c.in-Err.place in
    let n = c.args.number in
    let part = c.set_run-in-Err.new.self in
    let within : k ≤ length (parts_in d.parts) = rw c.self.view_is c.in-Err.ensures.0 in
    let lower : AllWithin (λ part. part.0 < n) (parts_in d.parts) 0 k = rw c.self.view_is c.in-Err.ensures.1 in
    let higher : AllWithin (λ part. n < part.0) (parts_in d.parts) k (length (parts_in d.parts)) = rw c.self.view_is c.in-Err.ensures.2 in
    let set = c.in_ok-set_run-in-Err.ensures in
    record {
      many = set.many;
      few = set.few;
      all = set.all;
      is = ap (entries C.at C.span) c.in_ok-insert-in-Err.ensures
          ∙ added C.at C.span (parts_in d.parts) c.self.invariant k n within lower higher c.requires.below c.args.page set.many c.args.run.now
          c.in_ok-part-in-Err.part part c.span-span.ensures.some (omega (arith, set.few, c.requires.within)) c.in_ok-part-in-Err.ensures set.is
          ∙ ap (λ v. with_run (n * C.span + c.args.page) set.many c.args.run.now (entries C.at C.span v)) c.self.view_is;
    }

pub returns-else-not-is_empty : goal.returns-else-not-is_empty
returns-else-not-is_empty g c =
    let d = c.self.inside in
    let C = g.C.Level in
    let k = c.in-Err.place in
    let n = c.args.number in
    let within : k ≤ length (parts_in d.parts) = rw c.self.view_is c.in-Err.ensures.0 in
    let lower : AllWithin (λ part. part.0 < n) (parts_in d.parts) 0 k = rw c.self.view_is c.in-Err.ensures.1 in
    let higher : AllWithin (λ part. n < part.0) (parts_in d.parts) k (length (parts_in d.parts)) = rw c.self.view_is c.in-Err.ensures.2 in
    let set = c.in_ok-set_run-in-Err.ensures in
    record {
      many = set.many;
      few = set.few;
      all = set.all;
      is = ap (entries C.at C.span) (sym c.self.view_is)
          ∙ left_out C.at C.span (parts_in d.parts) c.self.invariant k n within lower higher c.requires.below c.args.page set.many c.args.run.now
          c.in_ok-part-in-Err.part c.set_run-in-Err.new.self c.span-span.ensures.some (omega (arith, set.few, c.requires.within)) c.in_ok-part-in-Err.ensures
          set.is c.if-not-is_empty.ensures
          ∙ ap (λ v. with_run (n * C.span + c.args.page) set.many c.args.run.now (entries C.at C.span v)) c.self.view_is;
    }
