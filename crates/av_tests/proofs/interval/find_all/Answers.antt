use Rattle.std.proofs.Common.{◌≡◌, ◌+◌, ◌*◌, ◌<◌, ◌≤◌, ℕ, IsSome, List, sym, subst, arith, inl, inr}
use Rattle.std.proofs.lemmas.Bool.{cases_lt}
use Rattle.av_arena.specs.Order.{entry_at, with_entry}
use Rattle.std.specs.List.{AllByRecursion}
use Rattle.av_arena.proofs.Order.{AllByRecursion-map}
use Rattle.av_interval.specs.declared.span.Span.{Span}
use Rattle.av_interval.specs.Spans.{triples}
use Rattle.av_interval.specs.Span.{triple}
use Rattle.av_interval.specs.Span.{key, key_of}
use Rattle.av_interval.proofs.SpansLemmas.{all_with}
use Rattle.av_interval.proofs.EntriesLemmas.{there_with, there_new, there_without}
use Rattle.av_tests.proofs.interval.find_all.Goals as goal

there_next : (i j : ℕ) (old : List Span) → ((j : ℕ) → j < i → IsSome (entry_at key (key_of (10 * j) j) old)) → j < i + 1 →
    IsSome (entry_at key (key_of (10 * j) j) (with_entry key (triple (10 * i) (10 * i + 4) i) old))
there_next i j old f h = elim (cases_lt j i) [
  | inl k ↦ there_with (key_of (10 * j) j) (triple (10 * i) (10 * i + 4) i) old (f j k)
  | inr k ↦ let e : i ≡ j = omega arith in
      subst (λ m. IsSome (entry_at key (key_of (10 * m) m) (with_entry key (triple (10 * i) (10 * i + 4) i) old))) e
      (there_new (triple (10 * i) (10 * i + 4) i) old)
]

other_key : (i j : ℕ) → 2 * (i + 1) ≤ j → key_of (20 * i) (2 * i) ≡ key_of (10 * j) j → ⊥
unfolding key_of
other_key i j h e = omega arith

pub loop-i-preserved : goal.loop-i-preserved
loop-i-preserved g c =
    let i = c.loop-i.i in
    let old = triples c.loop-i.spans 7 in
    let x : Span = triple (10 * i) (10 * i + 4) i in
    let e : triples c.add.new.self 7 ≡ with_entry key x old = c.in_ok-add.ensures.spans 7 in
    record {
      below = subst (AllByRecursion (λ y. y.area < i + 1)) (sym e) (all_with (λ y. y.area < i + 1) x old (omega arith)
          (AllByRecursion-map (λ (y : Span). y.area < i) (λ y. y.area < i + 1) (λ y h. omega arith) old c.loop-i.invariant.below));
      there = λ j h. subst (λ xs. IsSome (entry_at key (key_of (10 * j) j) xs)) (sym e) (there_next i j old c.loop-i.invariant.there h);
    }

pub loop-i-2-preserved : goal.loop-i-2-preserved
loop-i-2-preserved g c = λ j h k. subst (λ xs. IsSome (entry_at key (key_of (10 * j) j) xs)) (sym (c.remove.ensures 7))
    (there_without (key_of (10 * j) j) (key_of (20 * c.loop-i-2.i) (2 * c.loop-i-2.i)) (triples c.loop-i-2.spans 7) (other_key c.loop-i-2.i j h)
    (c.loop-i-2.invariant j (omega arith) k))
