-- Trees that share no node: what a change of one leaves of the others.
use Rattle.std.proofs.Common.{◌≡◌, ℕ, ◌+◌, ◌^◌, ◌<◌, ◌≤◌, ◌⊎◌, inl, inr, true, false, cond, eqb, ltb, IsSome, Option, Some, None, List, [], ◌∷◌, length, refl, sym, ap, ◌∙◌, subst, arith, max}
use Rattle.std.proofs.lemmas.Bool.{eqb-true, eqb-false, eq-eqb, ne_eqb, cases_lt, cases_order}
use Rattle.av_arena.specs.Order.{IsRising, with_entry, without_key, entry_at}
use Rattle.std.specs.List.{AllByRecursion}
use Rattle.av_arena.proofs.Order.{rising_with, rising_without}
use Rattle.av_arena.proofs.Shallow.{low_tree}
use Rattle.av_interval.specs.declared.span.Span.{Span}
use Rattle.av_arena.specs.declared.link.Link.{Link}
use Rattle.av_arena.specs.declared.link.Stored.{Stored}
use Rattle.av_interval.specs.declared.roots.Root.{Root}
use Rattle.av_interval.specs.Nodes.{Tree}
use Rattle.av_interval.specs.Span.{key, key_of}
use Rattle.av_interval.specs.Spans.{Store}
use Rattle.av_arena.specs.Tree.{entries, is, none, count, height_of, tree_at, IsHeld, IsPlaceFor, IsPlaced, HasKey, IsReplaced, IsWithout}
use Rattle.av_base.specs.Words.{with_at}
use Rattle.av_interval.specs.Roots.{top_of, len_of}
use Rattle.av_interval.specs.Spans.{IsForest, IsOfTree, IsNew}
use Rattle.av_interval.specs.Search.{IsBefore, AllAfter, IsOrdered}
use Rattle.av_arena.proofs.TreeLemmas.{is_self, with_at_same, with_at_other, kept, held_height, is_cases, in_use_cases, stored_used, none_tree, IsSame}
use Rattle.av_interval.specs.Span.{last_of, max_laws}

-- height
pub low : (s : Store) (r : ℕ → Option Root) → IsForest s r → (a : ℕ) → len_of (r a) < 2 ^ 64 → height_of (top_of (r a)) < 200
low s r f a h =
    let t = tree_at s (top_of (r a)) in
    let e = held_height key 0 max last_of max_laws s (top_of (r a)) (f.held a) in
    let l = f.len a in
    rw (← e) (low_tree t (f.held a).level (omega arith))

-- keys
before_of : (x y : Span) → x.area < 2 ^ 64 → y.area < 2 ^ 64 → key x < key y → IsBefore x y
unfolding key_of
before_of x y p q h = elim (cases_order x.first y.first) [
  | inl e ↦ inr (e, omega arith)
  | inr (inl k) ↦ inl k
  | inr (inr k) ↦ absurd (omega arith)
]

all_after : (x : Span) (xs : List Span) → x.area < 2 ^ 64 → AllByRecursion (λ y. y.area < 2 ^ 64) xs → AllByRecursion (λ y. key x < key y) xs
    → AllAfter x xs
all_after x [] p q h = tt
all_after x (y ∷ xs) p q h = (before_of x y p q.0 h.0, all_after x xs p q.1 h.1)

pub ordered : (xs : List Span) → AllByRecursion (λ y. y.area < 2 ^ 64) xs → IsRising key xs → IsOrdered xs
ordered [] p h = tt
ordered (x ∷ xs) p h = (all_after x xs p.0 p.1 h.0, ordered xs p.1 h.1)

same_area : (x y : Span) → x.area < 2 ^ 64 → y.area < 2 ^ 64 → key x ≡ key y → x.area ≡ y.area
unfolding key_of
same_area x y p q e = elim (cases_order x.first y.first) [
  | inl d ↦ omega arith
  | inr (inl d) ↦ absurd (omega arith)
  | inr (inr d) ↦ absurd (omega arith)
]

new_key : (x : Span) (xs : List Span) → x.area < 2 ^ 64 → AllByRecursion (λ y. y.area < 2 ^ 64) xs → IsNew x.area xs → entry_at key (key x) xs ≡ None
new_key x [] p q n = refl
new_key x (y ∷ xs) p q n = rw (ne_eqb (key y) (key x) (λ e. n.0 (same_area y x q.0 p e))) (new_key x xs p q.1 n.1)

module _ (P : Span → Type 0) where
  pub all_with : (x : Span) (t : List Span) → P x → AllByRecursion P t → AllByRecursion P (with_entry key x t)
  all_with x [] p a = (p, tt)
  all_with x (y ∷ t) p a =
      elim (ltb (key x) (key y)) as (λ b. AllByRecursion P (cond b (x ∷ y ∷ t) (y ∷ cond (ltb (key y) (key x)) (with_entry key x t) t))) [
        | true ↦ (p, a)
        | false ↦ (
          a.0,
          elim (ltb (key y) (key x)) as (λ b. AllByRecursion P (cond b (with_entry key x t) t))
              [ true ↦ all_with x t p a.1 | false ↦ a.1 ],
        )
      ]

  pub all_without : (k : ℕ) (t : List Span) → AllByRecursion P t → AllByRecursion P (without_key key k t)
  all_without k [] a = tt
  all_without k (y ∷ t) a = elim (eqb (key y) k) as (λ b. AllByRecursion P (cond b t (y ∷ without_key key k t)))
      [ true ↦ a.1 | false ↦ (a.0, all_without k t a.1) ]

-- lengths
pub length_with : (x : Span) (t : List Span) → entry_at key (key x) t ≡ None → length (with_entry key x t) ≡ length t + 1
length_with x [] e = omega arith
length_with x (y ∷ t) e = elim (eqb (key y) (key x)) as (λ b. eqb (key y) (key x) ≡ b → cond b (Some y) (entry_at key (key x) t) ≡ None →
    length (with_entry key x (y ∷ t)) ≡ length (y ∷ t) + 1) [
      | true ↦ λ q d. cc
      | false ↦ λ q d. elim (cases_order (key x) (key y)) [
        | inl k ↦ absurd (eqb-false _ _ q (sym k))
        | inr (inl k) ↦ rw (Rattle.std.proofs.lemmas.Bool.lt-ltb (key x) (key y) k) (omega arith)
        | inr (inr k) ↦ rw (
          Rattle.std.proofs.lemmas.Bool.le-ltb (key x) (key y) (omega arith),
          Rattle.std.proofs.lemmas.Bool.lt-ltb (key y) (key x) k,
        )
            (let h = length_with x t d in omega arith)
      ]
    ] refl e

pub length_without : (k : ℕ) (t : List Span) → IsSome (entry_at key k t) → length (without_key key k t) + 1 ≡ length t
length_without k [] h = cc
length_without k (y ∷ t) h = elim (eqb (key y) k) as (λ b. IsSome (cond b (Some y) (entry_at key k t)) →
    length (cond b t (y ∷ without_key key k t)) + 1 ≡ length (y ∷ t)) [
      | true ↦ λ d. omega arith
      | false ↦ λ d. let e = length_without k t d in omega arith
    ] h

-- the tree of an anon_vma that is new
pub record IsChange (s : Store) (r : ℕ → Option Root) (s' : Store) (a : ℕ) (o : Option Root) : Type 0 where
  pub held : IsHeld key 0 max last_of s' (top_of o)
  pub rising : IsRising key (entries (tree_at s' (top_of o)))
  pub fits : AllByRecursion (λ x. x.area < 2 ^ 64) (entries (tree_at s' (top_of o)))
  pub len : len_of o ≡ length (entries (tree_at s' (top_of o)))
  pub kept : (b j : ℕ) → (a ≡ b → ⊥) → 1 ≤ count j (tree_at s (top_of (r b))) → s' j ≡ s j
  pub apart : (b j : ℕ) → (a ≡ b → ⊥) → 1 ≤ count j (tree_at s (top_of (r b))) → count j (tree_at s' (top_of o)) ≡ 0
  pub whole : (j : ℕ) → IsSome (s' j) → (1 ≤ count j (tree_at s' (top_of o))) ⊎ (IsSome (s j) × (count j (tree_at s (top_of (r a))) ≡ 0))

module _ (s : Store) (r : ℕ → Option Root) (f : IsForest s r) (s' : Store) (a : ℕ) (o : Option Root) (c : IsChange s r s' a o) where
  pub other : (b : ℕ) → (a ≡ b → ⊥) → IsSame key 0 max last_of max_laws s s' (top_of (r b))
  other b n = kept key 0 max last_of max_laws s s' (top_of (r b)) (f.held b) (λ j h. c.kept b j n h)

  by_cases : (P : ℕ → Option Root → Type 0) → ((b : ℕ) → a ≡ b → P b o) → ((b : ℕ) → (a ≡ b → ⊥) → P b (r b)) → (b : ℕ) → P b (with_at a o r b)
  by_cases P here there b = elim (eqb b a) as (λ t. eqb b a ≡ t → P b (cond t o (r b))) [
    | true ↦ λ e. here b (sym (eqb-true b a e))
    | false ↦ λ e. there b (λ q. eqb-false b a e (sym q))
  ] refl

  none_or_some : (n : ℕ) → (n ≡ 0) ⊎ (1 ≤ n)
  none_or_some n = elim (cases_lt 0 n) [ inl h ↦ inr (omega arith) | inr h ↦ inl (omega arith) ]

  with_other : (b j : ℕ) → (a ≡ b → ⊥) → count j (tree_at s' (top_of o)) + count j (tree_at s' (top_of (r b))) ≤ 1
  with_other b j n = rw (other b n).tree (elim (none_or_some (count j (tree_at s (top_of (r b))))) [
    | inl e ↦ let h = c.held.once j in omega arith
    | inr h ↦ let e = c.apart b j n h in let k = (f.held b).once j in omega arith
  ])

  of_other : (j : ℕ) → count j (tree_at s (top_of (r a))) ≡ 0 → IsOfTree s r j → IsOfTree s' (with_at a o r) j
  of_other j z t =
      let b = t.anon in
      let n : a ≡ b → ⊥ = λ e. let d = ap (λ i. count j (tree_at s (top_of (r i)))) e in let h = t.there in omega arith in
      record {
        anon = b;
        there = by_cases (λ i p. 1 ≤ count j (tree_at s (top_of (r i))) → 1 ≤ count j (tree_at s' (top_of p)))
            (λ i e h. let d = ap (λ y. count j (tree_at s (top_of (r y)))) e in absurd (omega arith)) (λ i m h. rw (other i m).tree h) b t.there;
      }

  here_is : with_at a o r a ≡ o
  here_is = rw (eq-eqb a a refl) refl

  pub changed : IsForest s' (with_at a o r)
  changed = record {
    whole = λ j u. elim (c.whole j u) [
      | inl h ↦ record { anon = a; there = rw here_is h }
      | inr h ↦ of_other j h.1 (f.whole j h.0)
    ];
    held = by_cases (λ b p. IsHeld key 0 max last_of s' (top_of p)) (λ b e. c.held) (λ b n. (other b n).held);
    rising = by_cases (λ b p. IsRising key (entries (tree_at s' (top_of p)))) (λ b e. c.rising) (λ b n. rw (other b n).tree (f.rising b));
    fits = by_cases (λ b p. AllByRecursion (λ x. x.area < 2 ^ 64) (entries (tree_at s' (top_of p)))) (λ b e. c.fits)
        (λ b n. rw (other b n).tree (f.fits b));
    len = by_cases (λ b p. len_of p ≡ length (entries (tree_at s' (top_of p)))) (λ b e. c.len) (λ b n. rw (other b n).tree (f.len b));
    apart = λ b d j. by_cases (λ b p. (b ≡ d → ⊥) → count j (tree_at s' (top_of p)) + count j (tree_at s' (top_of (with_at a o r d))) ≤ 1)
        (λ b e. by_cases (λ d q. (b ≡ d → ⊥) → count j (tree_at s' (top_of o)) + count j (tree_at s' (top_of q)) ≤ 1)
        (λ d e' n. absurd (n (sym e ∙ e')))
        (λ d m n. with_other d j m) d)
        (λ b m. by_cases (λ d q. (b ≡ d → ⊥) → count j (tree_at s' (top_of (r b))) + count j (tree_at s' (top_of q)) ≤ 1)
        (λ d e n. let h = with_other b j m in omega arith)
        (λ d m' n. rw ((other b m).tree, (other d m').tree) (f.apart b d j n)) d) b;
  }

  pub changed_trees : (b : ℕ) → tree_at s' (top_of (with_at a o r b)) ≡ with_at a (tree_at s' (top_of o)) (λ d. tree_at s (top_of (r d))) b
  changed_trees b = elim (eqb b a) as
      (λ t. eqb b a ≡ t → tree_at s' (top_of (cond t o (r b))) ≡ cond t (tree_at s' (top_of o)) (tree_at s (top_of (r b)))) [
        | true ↦ λ e. refl
        | false ↦ λ e. (other b (λ q. eqb-false b a e (sym q))).tree
      ] refl

-- a store that is the same at each number
pub record IsSameForest (s s' : Store) (r : ℕ → Option Root) : Type 0 where
  pub forest : IsForest s' r
  pub trees : (a : ℕ) → tree_at s' (top_of (r a)) ≡ tree_at s (top_of (r a))

pub same_forest : (s s' : Store) (r : ℕ → Option Root) → IsForest s r → ((j : ℕ) → s' j ≡ s j) → IsSameForest s s' r
same_forest s s' r f same =
    let k : (a : ℕ) → IsSame key 0 max last_of max_laws s s' (top_of (r a)) =
    λ a. kept key 0 max last_of max_laws s s' (top_of (r a)) (f.held a) (λ j h. same j) in
    record {
      forest = record {
        whole = λ j u. let t = f.whole j (subst IsSome (same j) u) in record { anon = t.anon; there = rw (k t.anon).tree t.there };
        held = λ a. (k a).held;
        rising = λ a. rw (k a).tree (f.rising a);
        fits = λ a. rw (k a).tree (f.fits a);
        len = λ a. rw (k a).tree (f.len a);
        apart = λ a b j n. rw ((k a).tree, (k b).tree) (f.apart a b j n);
      };
      trees = λ a. (k a).tree;
    }

-- putting in
not_used : (s : Store) (r : ℕ → Option Root) → IsForest s r → (n : ℕ) → s n ≡ None → (a : ℕ) → count n (tree_at s (top_of (r a))) ≡ 0
not_used s r f n e a = elim (cases_lt 0 (count n (tree_at s (top_of (r a))))) [
  | inl h ↦ let u = stored_used key 0 max last_of max_laws s (tree_at s (top_of (r a))) (f.held a).stored n (omega arith) in let d = rw e at u in cc
  | inr h ↦ omega arith
]

is_not : (n j : ℕ) (t : Tree) → count n t ≡ 0 → 1 ≤ count j t → is n j ≡ 0
is_not n j t z h = elim (is_cases key 0 max last_of max_laws n j) [
  | inl e ↦ e
  | inr e ↦ absurd (let d : count j t ≡ 0 = ap (λ i. count i t) (sym e) ∙ z in omega arith)
]

with_node : (s : Store) (r : ℕ → Option Root) → IsForest s r → (n : ℕ) (v : Stored Span ℕ) → s n ≡ None → (a : ℕ) →
    IsSame key 0 max last_of max_laws s (with_at n (Some v) s) (top_of (r a))
with_node s r f n v e a = kept key 0 max last_of max_laws s (with_at n (Some v) s) (top_of (r a)) (f.held a)
    (λ j h. with_at_other key 0 max last_of max_laws n (Some v) s j (is_not n j (tree_at s (top_of (r a))) (not_used s r f n e a) h))

pub place_for : (s : Store) (r : ℕ → Option Root) → IsForest s r → (n : ℕ) (v : Stored Span ℕ) → s n ≡ None → (a : ℕ) (x : Span) → x.area < 2 ^ 64 →
    IsNew x.area (entries (tree_at s (top_of (r a)))) → IsPlaceFor key 0 max last_of (with_at n (Some v) s) (top_of (r a)) n x
place_for s r f n v e a x p new =
    let w = with_node s r f n v e a in
    record {
      held = w.held;
      rising = rw w.tree (f.rising a);
      used = rw (with_at_same key 0 max last_of max_laws n (Some v) s) refl;
      fresh = rw w.tree (not_used s r f n e a);
      other = rw w.tree (new_key x (entries (tree_at s (top_of (r a)))) p (f.fits a) new);
    }

pub record IsAdded (s : Store) (r : ℕ → Option Root) (s' : Store) (a : ℕ) (x : Span) (k : Link ℕ) (n l : ℕ) : Type 0 where
  pub change : IsChange s r s' a (Some (record { tree = k; len = l }))
  pub entries : entries (tree_at s' (Some k)) ≡ with_entry key x (entries (tree_at s (top_of (r a))))
  pub back : top_of (r a) ≡ None → (j : ℕ) → with_at n None s' j ≡ s j

pub added : (s : Store) (r : ℕ → Option Root) → IsForest s r → (n : ℕ) (v : Stored Span ℕ) → s n ≡ None
    → (s' : Store) (a : ℕ) (x : Span) (k : Link ℕ) (l : ℕ) →
    l ≡ len_of (r a) + 1 → x.area < 2 ^ 64 → IsNew x.area (entries (tree_at s (top_of (r a)))) →
    IsPlaced key 0 max last_of (with_at n (Some v) s) s' (top_of (r a)) n x k → IsAdded s r s' a x k n l
added s r f n v e s' a x k m q p new t =
    let w = with_node s r f n v e a in
    let old = tree_at s (top_of (r a)) in
    let row : entries (tree_at s' (Some k)) ≡ with_entry key x (entries old) = t.entries ∙ rw w.tree refl in
    let len = f.len a in
    record {
      entries = row;
      change = record {
        held = t.held;
        rising = rw row (rising_with key x (entries old) (f.rising a));
        fits = rw row (all_with (λ y. y.area < 2 ^ 64) x (entries old) p (f.fits a));
        len = rw row (let h = length_with x (entries old) (new_key x (entries old) p (f.fits a) new) in omega arith);
        kept = λ b j m h.
            let z = is_not n j (tree_at s (top_of (r b))) (not_used s r f n e b) h in
            let q = f.apart a b j m in
            t.kept j (rw w.tree (omega arith)) ∙ with_at_other key 0 max last_of max_laws n (Some v) s j z;
        apart = λ b j m h.
            let z = is_not n j (tree_at s (top_of (r b))) (not_used s r f n e b) h in
            let q = f.apart a b j m in
            let d = t.count j in
            let y = ap (count j) w.tree in
            omega arith;
        whole = λ j u. elim (in_use_cases key 0 max last_of max_laws (with_at n (Some v) s) s' (Some k) _ _ none t j u) [
          | inl h ↦ inl (omega arith)
          | inr h ↦ let z = h.1 in let y = ap (count j) w.tree in inr (
            subst IsSome (with_at_other key 0 max last_of max_laws n (Some v) s j (omega arith)) h.0,
            omega arith,
          )
        ];
      };
      back = λ gone j. elim (is_cases key 0 max last_of max_laws n j) [
        | inr d ↦ rw (eq-eqb j n (sym d)) (sym e ∙ ap s d)
        | inl d ↦
            let z : count j (tree_at (with_at n (Some v) s) (top_of (r a))) ≡ 0 =
            rw (gone, none_tree key 0 max last_of max_laws (with_at n (Some v) s)) refl in
            with_at_other key 0 max last_of max_laws n None s' j d
            ∙ (t.kept j (omega arith) ∙ with_at_other key 0 max last_of max_laws n (Some v) s j d)
      ];
    }

-- taking out
pub has_key : (s : Store) (r : ℕ → Option Root) → IsForest s r → (a : ℕ) (x : Span)
    → IsSome (entry_at key (key x) (entries (tree_at s (top_of (r a))))) →
    HasKey key 0 max last_of s (top_of (r a)) x
has_key s r f a x h = record { held = f.held a; rising = f.rising a; there = h }

pub record IsRemoved (s : Store) (r : ℕ → Option Root) (s' : Store) (a m : ℕ) (xs : List Span) (n : ℕ) (k : Option (Link ℕ)) : Type 0 where
  pub held : IsHeld key 0 max last_of (with_at n None s') k
  pub entries : entries (tree_at (with_at n None s') k) ≡ xs
  pub kept : (b j : ℕ) → (a ≡ b → ⊥) → 1 ≤ count j (tree_at s (top_of (r b))) → with_at n None s' j ≡ s j
  pub whole : (j : ℕ) → IsSome (with_at n None s' j)
      → (1 ≤ count j (tree_at (with_at n None s') k)) ⊎ (IsSome (s j) × (count j (tree_at s (top_of (r a))) ≡ 0))
  pub apart : (b j : ℕ) → (a ≡ b → ⊥) → 1 ≤ count j (tree_at s (top_of (r b))) → count j (tree_at (with_at n None s') k) ≡ 0

pub removed : (s : Store) (r : ℕ → Option Root) → IsForest s r → (s' : Store) (a m : ℕ) (xs : List Span) (n : ℕ) (k : Option (Link ℕ)) →
    IsWithout key 0 max last_of s s' (top_of (r a)) xs n k → IsRemoved s r s' a m xs n k
removed s r f s' a m xs n k t =
    let gone : count n (tree_at s' k) ≡ 0 =
    (let d = t.count n in let e = is_self key 0 max last_of max_laws n in let o = (f.held a).once n in omega arith) in
    let g = kept key 0 max last_of max_laws s' (with_at n None s') k t.held
    (λ j h. with_at_other key 0 max last_of max_laws n None s' j (is_not n j (tree_at s' k) gone h)) in
    record {
      held = g.held;
      entries = rw g.tree t.entries;
      whole = λ j u. elim (is_cases key 0 max last_of max_laws n j) [
        | inl o ↦ elim (in_use_cases key 0 max last_of max_laws s s' k xs _ (is n) t j
            (subst IsSome (with_at_other key 0 max last_of max_laws n None s' j o) u)) [
              | inl h ↦ inl (rw g.tree (omega arith))
              | inr h ↦ inr h
            ]
        | inr o ↦ let h = rw (← o, with_at_same key 0 max last_of max_laws n None s') at u in cc
      ];
      kept = λ b j m h.
          let q = f.apart a b j m in
          let d = t.count j in
          with_at_other key 0 max last_of max_laws n None s' j (omega arith) ∙ t.kept j (omega arith);
      apart = λ b j m h. let q = f.apart a b j m in let d = t.count j in rw g.tree (omega arith);
    }

pub removed_change : (s : Store) (r : ℕ → Option Root) → IsForest s r → (s' : Store) (a m : ℕ) (x : Span) (n : ℕ) (o : Option Root) →
    IsSome (entry_at key (key x) (entries (tree_at s (top_of (r a)))))
    → IsRemoved s r s' a m (without_key key (key x) (entries (tree_at s (top_of (r a))))) n
    (top_of o) → len_of o + 1 ≡ len_of (r a) → IsChange s r (with_at n None s') a o
removed_change s r f s' a m x n o there d e =
    let old = entries (tree_at s (top_of (r a))) in
    record {
      held = d.held;
      rising = rw d.entries (rising_without key (key x) old (f.rising a));
      fits = rw d.entries (all_without (λ y. y.area < 2 ^ 64) (key x) old (f.fits a));
      len = rw d.entries (let h = length_without (key x) old there in let l = f.len a in omega arith);
      kept = d.kept;
      apart = d.apart;
      whole = d.whole;
    }

-- a change of one anon_vma's triples
pub record IsDone (s : Store) (r : ℕ → Option Root) (s' : Store) (r' : ℕ → Option Root) (a : ℕ) (xs : List Span) : Type 0 where
  pub forest : IsForest s' r'
  pub triples : (b : ℕ) → entries (tree_at s' (top_of (r' b))) ≡ with_at a xs (λ d. entries (tree_at s (top_of (r d)))) b

pub done : (s : Store) (r : ℕ → Option Root) → IsForest s r → (s' : Store) (r' : ℕ → Option Root) (a : ℕ) (o : Option Root) (xs : List Span) →
    IsChange s r s' a o → entries (tree_at s' (top_of o)) ≡ xs → r' ≡ with_at a o r → IsDone s r s' r' a xs
done s r f s' r' a o xs c is e = subst (λ (q : ℕ → Option Root). IsDone s r s' q a xs) (sym e) (record {
  forest = changed s r f s' a o c;
  triples = λ b. elim (eqb b a) as
      (λ t. eqb b a ≡ t → entries (tree_at s' (top_of (cond t o (r b)))) ≡ cond t xs (entries (tree_at s (top_of (r b))))) [
        | true ↦ λ q. is
        | false ↦ λ q. ap entries (other s r f s' a o c b (λ e. eqb-false b a q (sym e))).tree
      ] refl;
})

-- the same under the names that the code gives the parts
pub placing : (s s1 : Store) (r : ℕ → Option Root) → IsForest s r → (n : ℕ) (v : Stored Span ℕ) → s n ≡ None → s1 ≡ with_at n (Some v) s
    → (a : ℕ) (x : Span) →
    x.area < 2 ^ 64 → IsNew x.area (entries (tree_at s (top_of (r a)))) → (t : Option (Link ℕ)) → t ≡ top_of (r a)
    → IsPlaceFor key 0 max last_of s1 t n x
placing s s1 r f n v e is a x p new t d = subst (λ (q : Option (Link ℕ)). IsPlaceFor key 0 max last_of s1 q n x) (sym d)
    (subst (λ (q : Store). IsPlaceFor key 0 max last_of q (top_of (r a)) n x) (sym is) (place_for s r f n v e a x p new))

pub adding : (s s1 s' : Store) (r : ℕ → Option Root) → IsForest s r → (n : ℕ) (v : Stored Span ℕ) → s n ≡ None → s1 ≡ with_at n (Some v) s →
    (a : ℕ) (x : Span) → x.area < 2 ^ 64 → IsNew x.area (entries (tree_at s (top_of (r a)))) → (t : Option (Link ℕ)) → t ≡ top_of (r a)
    → (k : Link ℕ) (l : ℕ) →
    l ≡ len_of (r a) + 1 → IsPlaced key 0 max last_of s1 s' t n x k → IsAdded s r s' a x k n l
adding s s1 s' r f n v e is a x p new t d k l q w =
    added s r f n v e s' a x k l q p new (subst (λ (g : Store). IsPlaced key 0 max last_of g s' (top_of (r a)) n x k) is
    (subst (λ (g : Option (Link ℕ)). IsPlaced key 0 max last_of s1 s' g n x k) d w))

pub added_done : (s s1 s' : Store) (r r' : ℕ → Option Root) → IsForest s r → (n : ℕ) (v : Stored Span ℕ) → s n ≡ None → s1 ≡ with_at n (Some v) s →
    (a : ℕ) (x : Span) → x.area < 2 ^ 64 → IsNew x.area (entries (tree_at s (top_of (r a)))) → (t : Option (Link ℕ)) → t ≡ top_of (r a)
    → (k : Link ℕ) (l : ℕ) →
    l ≡ len_of (r a) + 1 → IsPlaced key 0 max last_of s1 s' t n x k → r' ≡ with_at a (Some (record { tree = k; len = l })) r →
    IsDone s r s' r' a (with_entry key x (entries (tree_at s (top_of (r a)))))
added_done s s1 s' r r' f n v e is a x p new t d k l q w y =
    let m = adding s s1 s' r f n v e is a x p new t d k l q w in
    done s r f s' r' a (Some (record { tree = k; len = l })) _ m.change m.entries y

-- the node is given back where the root finds no room
pub added_back : (s s1 s' s'' : Store) (r r' : ℕ → Option Root) → IsForest s r → (n : ℕ) (v : Stored Span ℕ) → s n ≡ None
    → s1 ≡ with_at n (Some v) s →
    (a : ℕ) (x : Span) → x.area < 2 ^ 64 → IsNew x.area (entries (tree_at s (top_of (r a)))) → (t : Option (Link ℕ)) → t ≡ top_of (r a)
    → (k : Link ℕ) →
    IsPlaced key 0 max last_of s1 s' t n x k → r a ≡ None → s'' ≡ with_at n None s' → r' ≡ r →
    IsForest s'' r' × ((b : ℕ) → tree_at s'' (top_of (r' b)) ≡ tree_at s (top_of (r b)))
added_back s s1 s' s'' r r' f n v e is a x p new t d k w z y g =
    let m = adding s s1 s' r f n v e is a x p new t d k (len_of (r a) + 1) refl w in
    let b = same_forest s (with_at n None s') r f (m.back (ap top_of z)) in
    let P : (ℕ → Option Root) → Type 0 = λ q. IsForest s'' q × ((b : ℕ) → tree_at s'' (top_of (q b)) ≡ tree_at s (top_of (r b))) in
    let Q : Store → Type 0 = λ q. IsForest q r × ((b : ℕ) → tree_at q (top_of (r b)) ≡ tree_at s (top_of (r b))) in
    subst P (sym g) (subst Q (sym y) (b.forest, b.trees))

pub removed_done : (s s1 s' : Store) (r r' : ℕ → Option Root) → IsForest s r → (a : ℕ) (x : Span) (root : Root) → r a ≡ Some root →
    IsSome (entry_at key (key x) (entries (tree_at s (top_of (r a))))) → (n : ℕ) (k : Option (Link ℕ)) →
    IsWithout key 0 max last_of s s1 (Some root.tree) (without_key key (key x) (entries (tree_at s (Some root.tree)))) n k → s' ≡ with_at n None s1 →
    (o : Option Root) → top_of o ≡ k → len_of o + 1 ≡ root.len → r' ≡ with_at a o r →
    IsDone s r s' r' a (without_key key (key x) (entries (tree_at s (top_of (r a)))))
removed_done s s1 s' r r' f a x root ra there n k w y o ok len e =
    let top : Some root.tree ≡ top_of (r a) = ap top_of (sym ra) in
    let xs = without_key key (key x) (entries (tree_at s (top_of (r a)))) in
    let w' : IsWithout key 0 max last_of s s1 (top_of (r a)) xs n k =
    subst (λ (g : Option (Link ℕ)). IsWithout key 0 max last_of s s1 g (without_key key (key x) (entries (tree_at s g))) n k) top w in
    let d : IsRemoved s r s1 a 0 xs n (top_of o) =
    subst (λ (g : Option (Link ℕ)). IsRemoved s r s1 a 0 xs n g) (sym ok) (removed s r f s1 a 0 xs n k w') in
    let c = removed_change s r f s1 a 0 x n o there d (len ∙ ap len_of (sym ra)) in
    subst (λ (g : Store). IsDone s r g r' a xs) (sym y) (done s r f (with_at n None s1) r' a o xs c d.entries e)

-- no tree at all
pub empty_forest : (s : Store) (r : ℕ → Option Root) → ((n : ℕ) → s n ≡ None) → ((a : ℕ) → r a ≡ None) → IsForest s r
empty_forest s r z e =
    let n = none_tree key 0 max last_of max_laws s in
    let top : (a : ℕ) → top_of (r a) ≡ None = λ a. ap top_of (e a) in
    record {
      held = λ a. subst (IsHeld key 0 max last_of s) (sym (top a)) (record {
        stored = rw n tt;
        link = rw n refl;
        once = λ j. rw n (omega arith);
        level = rw n tt;
      });
      rising = λ a. rw (top a, n) tt;
      fits = λ a. rw (top a, n) tt;
      len = λ a. rw (e a, n) refl;
      whole = λ j u. let d = rw (z j) at u in cc;
      apart = λ a b j d. rw (top a, top b, n) (omega arith);
    }

-- the count of a tree from which one is taken
pub some_left : (s : Store) (r : ℕ → Option Root) → IsForest s r → (a k : ℕ) (root : Root) → r a ≡ Some root →
    IsSome (entry_at key k (entries (tree_at s (top_of (r a))))) → 1 ≤ root.len
some_left s r f a k root e there = let h = length_without k (entries (tree_at s (top_of (r a)))) there in let l = f.len a in let d =
    ap len_of e in omega arith

pub one_left : (s s1 : Store) (r : ℕ → Option Root) → IsForest s r → (a k : ℕ) (root : Root) → r a ≡ Some root →
    IsSome (entry_at key k (entries (tree_at s (top_of (r a))))) → (n : ℕ) →
    IsWithout key 0 max last_of s s1 (Some root.tree) (without_key key k (entries (tree_at s (Some root.tree)))) n None → 1 ≡ root.len
one_left s s1 r f a k root e there n w =
    let top : Some root.tree ≡ top_of (r a) = ap top_of (sym e) in
    let h = length_without k (entries (tree_at s (top_of (r a)))) there in
    let z : length (without_key key k (entries (tree_at s (Some root.tree)))) ≡ 0 = ap length (sym w.entries) ∙ ap (λ t. length (entries t))
    (none_tree key 0 max last_of max_laws s1) in
    let y : length (without_key key k (entries (tree_at s (top_of (r a))))) ≡ 0 =
    subst (λ (g : Option (Link ℕ)). length (without_key key k (entries (tree_at s g))) ≡ 0) top z in
    let l = f.len a in
    let d = ap len_of e in
    omega arith

pub root_held : (s : Store) (r : ℕ → Option Root) → IsForest s r → (a : ℕ) (root : Root) → r a ≡ Some root
    → IsHeld key 0 max last_of s (Some root.tree)
root_held s r f a root e = subst (IsHeld key 0 max last_of s) (ap top_of e) (f.held a)

-- another last index for a span that is there
none_after : (k : ℕ) (t : List Span) → AllByRecursion (λ z. k < key z) t → entry_at key k t ≡ None
none_after k [] h = refl
none_after k (y ∷ t) h = rw (ne_eqb (key y) k (λ e. let d = h.0 in omega arith)) (none_after k t h.1)

taken_out : (k : ℕ) (t : List Span) → IsRising key t → entry_at key k (without_key key k t) ≡ None
taken_out k [] h = refl
taken_out k (y ∷ t) h = elim (eqb (key y) k) as (λ b. eqb (key y) k ≡ b → entry_at key k (cond b t (y ∷ without_key key k t)) ≡ None) [
  | true ↦ λ e. none_after k t (subst (λ (n : ℕ). AllByRecursion (λ z. n < key z) t) (eqb-true (key y) k e) h.0)
  | false ↦ λ e. rw e (taken_out k t h.1)
] refl

pub replaced_done : (s s' : Store) (r r' : ℕ → Option Root) → IsForest s r → (a : ℕ) (x : Span) (root : Root) → r a ≡ Some root → x.area < 2 ^ 64 →
    IsSome (entry_at key (key x) (entries (tree_at s (top_of (r a))))) → (k : Link ℕ) →
    IsReplaced key 0 max last_of s s' (Some root.tree) x k → r' ≡ with_at a (Some (record { tree = k; len = root.len })) r →
    IsDone s r s' r' a (with_entry key x (without_key key (key x) (entries (tree_at s (top_of (r a))))))
replaced_done s s' r r' f a x root ra p there k w e =
    let top : Some root.tree ≡ top_of (r a) = ap top_of (sym ra) in
    let old = entries (tree_at s (top_of (r a))) in
    let xs = with_entry key x (without_key key (key x) old) in
    let t : IsReplaced key 0 max last_of s s' (top_of (r a)) x k =
    subst (λ (g : Option (Link ℕ)). IsReplaced key 0 max last_of s s' g x k) top w in
    let row : entries (tree_at s' (Some k)) ≡ xs = t.entries in
    let c : IsChange s r s' a (Some (record { tree = k; len = root.len })) = record {
      held = t.held;
      rising = rw row (rising_with key x (without_key key (key x) old) (rising_without key (key x) old (f.rising a)));
      fits = rw row (all_with (λ y. y.area < 2 ^ 64) x (without_key key (key x) old) p (all_without (λ y. y.area < 2 ^ 64) (key x) old (f.fits a)));
      len = rw row (let h = length_with x (without_key key (key x) old) (taken_out (key x) old (f.rising a)) in
          let g = length_without (key x) old there in let l = f.len a in let d = ap len_of ra in omega arith);
      kept = λ b j m h. let q = f.apart a b j m in t.kept j (omega arith);
      apart = λ b j m h. let q = f.apart a b j m in let d = t.count j in omega arith;
      whole = λ j u. elim (in_use_cases key 0 max last_of max_laws s s' (Some k) _ _ none t j u) [
        | inl h ↦ inl (omega arith)
        | inr h ↦ inr h
      ];
    } in
    done s r f s' r' a (Some (record { tree = k; len = root.len })) xs c row e

-- a root that is there is given again
pub given_again : (a : ℕ) (o : Option Root) (r : ℕ → Option Root) → r a ≡ o → with_at a o r ≡ r
given_again a o r e = λ i b. (elim (eqb b a) as (λ t. eqb b a ≡ t → cond t o (r b) ≡ r b) [
  | true ↦ λ q. sym e ∙ ap r (sym (eqb-true b a q))
  | false ↦ λ q. refl
] refl) i

-- it is given and taken away
pub given_twice : (a : ℕ) (o p : Option Root) (r : ℕ → Option Root) → with_at a p (with_at a o r) ≡ with_at a p r
given_twice a o p r = λ i b. (elim (eqb b a) as (λ t. cond t p (cond t o (r b)) ≡ cond t p (r b)) [
  | true ↦ refl
  | false ↦ refl
]) i

-- an anon_vma without a root has no triple
pub none_entries : (s : Store) (o : Option Root) → o ≡ None → entries (tree_at s (top_of o)) ≡ []
none_entries s o e = ap (λ p. entries (tree_at s (top_of p))) e ∙ ap entries (none_tree key 0 max last_of max_laws s)

pub none_new : (s : Store) (o : Option Root) → o ≡ None → (area : ℕ) → IsNew area (entries (tree_at s (top_of o)))
none_new s o e area = subst (IsNew area) (sym (none_entries s o e)) tt
