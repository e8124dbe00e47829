-- Which entry stands under each number: what a change of one node makes of that.
use Rattle.std.proofs.Common.{◌≡◌, ℕ, Bool, true, false, cond, eqb, Option, Some, None, refl, sym, ap, ◌∙◌}
use Rattle.std.proofs.lemmas.Bool.{eqb-true}
use Rattle.av_base.specs.Words.{with_at}
use Rattle.av_arena.specs.Arena.{KeepsEntries, PutsEntry, entry_of, side_put}
use Rattle.av_arena.specs.Tree.{Store}
use Rattle.av_arena.specs.declared.link.Link.{Link}
use Rattle.av_arena.specs.declared.link.Side.{Side}
use Rattle.av_arena.specs.declared.link.Side.TheVariants.{Left, Right}
use Rattle.av_arena.specs.declared.link.Stored.{Stored}

-- a value that stands there already
with_own : {X : Type 0} (n : ℕ) (x : X) (f : ℕ → X) → f n ≡ x → (j : ℕ) → with_at n x f j ≡ f j
with_own n x f e j = elim (eqb j n) as (λ b. eqb j n ≡ b → cond b x (f j) ≡ f j) [
  | true ↦ λ d. sym e ∙ ap f (sym (eqb-true j n d))
  | false ↦ λ d. refl
] refl

module _ {T S : Type 0} where
  entry_cases : (b : Bool) (o p : Option (Stored T S)) → entry_of (cond b o p) ≡ cond b (entry_of o) (entry_of p)
  entry_cases true o p = refl
  entry_cases false o p = refl

  entry_side : (side : Side) (l : Option (Link S)) (o : Option (Stored T S)) → entry_of (side_put side l o) ≡ entry_of o
  entry_side side l None = refl
  entry_side Left l (Some v) = refl
  entry_side Right l (Some v) = refl

  entry_at : (n : ℕ) (o : Option (Stored T S)) (s t : Store T S) → t ≡ with_at n o s → (j : ℕ) →
      entry_of (t j) ≡ with_at n (entry_of o) (λ i. entry_of (s i)) j
  entry_at n o s t e j = ap (λ (q : Store T S). entry_of (q j)) e ∙ entry_cases (eqb j n) o (s j)

  pub node_puts : (s t : Store T S) (n : ℕ) (v : Stored T S) → t ≡ with_at n (Some v) s → PutsEntry s t n v.entry
  node_puts s t n v e = entry_at n (Some v) s t e

  pub side_keeps : (side : Side) (s t : Store T S) (n : ℕ) (l : Option (Link S)) → t ≡ with_at n (side_put side l (s n)) s → KeepsEntries s t
  side_keeps side s t n l e j =
      entry_at n (side_put side l (s n)) s t e j
      ∙ with_own n (entry_of (side_put side l (s n))) (λ i. entry_of (s i)) (sym (entry_side side l (s n))) j

  -- a node gets the entry that it has
  pub put_own : (s t : Store T S) (n : ℕ) (x : T) → PutsEntry s t n x → entry_of (s n) ≡ Some x → KeepsEntries s t
  put_own s t n x p e j = p j ∙ with_own n (Some x) (λ i. entry_of (s i)) e j

  pub keeps_keeps : (s t u : Store T S) → KeepsEntries s t → KeepsEntries t u → KeepsEntries s u
  keeps_keeps s t u p q j = q j ∙ p j

  pub puts_keeps : (s t u : Store T S) (n : ℕ) (x : T) → PutsEntry s t n x → KeepsEntries t u → PutsEntry s u n x
  puts_keeps s t u n x p q j = q j ∙ p j
