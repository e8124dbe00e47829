use Rattle.std.proofs.Common.{◌<◌, rules, subst}
use Rattle.std.specs.List.{AllPairs}
use Rattle.std.proofs.lemmas.List.Sorted.{answers_always}
use Rattle.av_pagetable.specs.Dir.{IsPlace}
use Rattle.av_pagetable.proofs.DirParts.{searched}
use Rattle.av_pagetable.proofs.parts.Parts.search.Goals as goal

pub returns-in-Many : goal.returns-in-Many
returns-in-Many g c =
    let facts = c.binary_search_by_key.ensures in
    let by_key = facts.position (λ part. part.0) (answers_always _ _ _ (λ f a r g called. search rules)) in
    let same = c.deref.ensures.value in
    let sorted : AllPairs (λ part later. part.0 < later.0) c.in-Many.parts.items = rw c.in-Many.is at c.requires in
    let rising : AllPairs (λ part later. part.0 < later.0) c.deref.result.now = rw same sorted in
    rw c.in-Many.is (subst (λ v. IsPlace c.args.number v c.binary_search_by_key.result) same
    (searched c.deref.result.now c.args.number c.binary_search_by_key.result rising facts.bound by_key))
