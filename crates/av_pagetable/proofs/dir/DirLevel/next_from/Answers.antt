use Rattle.std.proofs.Common.{arith, ◌≡◌, ◌<◌, ◌≤◌, ◌∙◌, ◌+◌, ◌*◌, ◌/◌, ◌%◌, sym, ap, subst, length, ℕ, MatchOption, Bool, true, ◌==◌}
use Rattle.std.proofs.lemmas.Bool.Decides.{nat_tests}
use Rattle.std.specs.List.{AllWithin, HoldsAt}
use Rattle.av_pagetable.specs.declared.pte.Pte.TheVariants.{Empty}
use Rattle.av_pagetable.specs.Table.{IsFirst}
use Rattle.av_pagetable.specs.Dir.{entries, entries_at, IsFirstIn}
use Rattle.av_pagetable.specs.Parts.{parts_in}
use Rattle.av_pagetable.proofs.DirParts.{few}
use Rattle.av_pagetable.proofs.DirEntries.{from_part, after_part, after_gap, no_entries}
use Rattle.av_pagetable.proofs.dir.DirLevel.next_from.Goals as goal

pub overflow_add-place : goal.overflow_add-place
overflow_add-place g c =
    let d = c.self.inside in
    let within : c.in-Ok.place < length (parts_in d.parts) = rw c.self.view_is c.in-Ok.ensures.0 in
    let small = few g.C.Level.at g.C.Level.span (parts_in d.parts) c.self.invariant in
    omega (arith, within, small)

pub returns-in-Some : goal.returns-in-Some
returns-in-Some g c =
    let d = c.self.inside in
    let C = g.C.Level in
    let number : HoldsAt (λ part. part.0 ≡ c.args.page / C.span) (parts_in d.parts) c.in-Ok.place =
    rw (c.self.view_is, ← c.span-span.ensures.is) c.in-Ok.ensures.1 in
    let first : IsFirstIn C.at C.span (parts_in d.parts) c.in-Ok.place (c.args.page % C.span) c.in-Some.found =
    subst (λ s. IsFirstIn C.at C.span (parts_in d.parts) c.in-Ok.place (c.args.page % s) c.in-Some.found) c.span-span.ensures.is
    (rw c.self.view_is c.in-Some.ensures) in
    subst (λ v. IsFirst (entries C.at C.span v) c.args.page (C.span * 512) c.in-Some.found) c.self.view_is
    (from_part C.at C.span (parts_in d.parts) c.self.invariant c.span-span.ensures.some c.args.page c.in-Ok.place c.in-Some.found number first)

pub returns-in-None : goal.returns-in-None
returns-in-None g c =
    let d = c.self.inside in
    let C = g.C.Level in
    let k = c.in-Ok.place in
    let within : k < length (parts_in d.parts) = rw c.self.view_is c.in-Ok.ensures.0 in
    let number : HoldsAt (λ part. part.0 ≡ c.args.page / C.span) (parts_in d.parts) k = rw (c.self.view_is, ← c.span-span.ensures.is) c.in-Ok.ensures.1 in
    let none : (q : ℕ) → c.args.page % C.span ≤ q → entries_at C.at (parts_in d.parts) k q ≡ Empty =
    subst (λ s. (q : ℕ) → c.args.page % s ≤ q → entries_at C.at (parts_in d.parts) k q ≡ Empty) c.span-span.ensures.is
    (rw c.self.view_is c.in-None.ensures) in
    let next : MatchOption c.first_in.result ((q : ℕ) → 0 ≤ q → entries_at C.at (parts_in d.parts) (k + 1) q ≡ Empty)
    (λ found. IsFirstIn C.at C.span (parts_in d.parts) (k + 1) 0 found) = rw c.self.view_is c.first_in.ensures in
    subst (λ v. MatchOption c.first_in.result ((q : ℕ) → c.args.page ≤ q → entries C.at C.span v q ≡ Empty)
    (λ found. IsFirst (entries C.at C.span v) c.args.page (C.span * 512) found)) c.self.view_is
    (after_part C.at C.span (parts_in d.parts) c.self.invariant c.span-span.ensures.some c.args.page k c.first_in.result within number none next)

pub returns-in-Err : goal.returns-in-Err
returns-in-Err g c =
    let d = c.self.inside in
    let C = g.C.Level in
    let k = c.in-Err.place in
    let within : k ≤ length (parts_in d.parts) = rw c.self.view_is c.in-Err.ensures.0 in
    let lower : AllWithin (λ part. part.0 < c.args.page / C.span) (parts_in d.parts) 0 k =
    rw (c.self.view_is, ← c.span-span.ensures.is) c.in-Err.ensures.1 in
    let higher : AllWithin (λ part. c.args.page / C.span < part.0) (parts_in d.parts) k (length (parts_in d.parts)) =
    rw (c.self.view_is, ← c.span-span.ensures.is) c.in-Err.ensures.2 in
    let next : MatchOption c.first_in-in-Err.result ((q : ℕ) → 0 ≤ q → entries_at C.at (parts_in d.parts) k q ≡ Empty)
    (λ found. IsFirstIn C.at C.span (parts_in d.parts) k 0 found) = rw c.self.view_is c.first_in-in-Err.ensures in
    subst (λ v. MatchOption c.first_in-in-Err.result ((q : ℕ) → c.args.page ≤ q → entries C.at C.span v q ≡ Empty)
    (λ found. IsFirst (entries C.at C.span v) c.args.page (C.span * 512) found)) c.self.view_is
    (after_gap C.at C.span (parts_in d.parts) c.self.invariant c.span-span.ensures.some c.args.page k c.first_in-in-Err.result within lower higher next)

zero_from : (n : ℕ) (b : Bool) → b ≡ (n == 0) → b ≡ true → n ≡ 0
zero_from n b is h = grind (arith, nat_tests)

pub returns-then-is_empty : goal.returns-then-is_empty
returns-then-is_empty g c =
    let d = c.self.inside in
    let C = g.C.Level in
    let none = zero_from (length (parts_in d.parts)) c.is_empty.result c.is_empty.ensures c.if-is_empty.true in
    λ q _. ap (λ v. entries C.at C.span v q) (sym c.self.view_is) ∙ no_entries C.at C.span (parts_in d.parts) none q
