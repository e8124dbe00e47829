-- Lists whose members have ranks: the first that passes a test, and what becomes of all when one goes or changes.
use Rattle.std.proofs.Common.{◌≡◌, ℕ, ◌+◌, ◌<◌, ◌≤◌, Bool, true, false, cond, List, [], ◌∷◌, map, Option, Some, None, refl, sym, ap, ◌∙◌, arith}
use Rattle.std.specs.Cmp.{nat_cmp_total}
use Rattle.std.specs.List.{find}
use Rattle.std.specs.List.Sorted.{IsStrictlySortedBy}
use Rattle.std.specs.Map.{keys_of, values_of, remove_entry, set_value}
use Rattle.std.specs.Ordering.{nat_cmp}
use Rattle.std.specs.Prelude.{nat_le, option_map, sum_by, unwrap_or}
use Rattle.std.specs.declared.cmp.Ordering.TheVariants.{Less}
use Rattle.std.proofs.lemmas.Bool.Decides.{nat_tests}
use Rattle.std.proofs.lemmas.List.Sums.{sum_by-cons}
use Rattle.std.proofs.lemmas.Map.{lookup-none}
use Rattle.std.proofs.lemmas.Map.Entries.{none_below_head, sum_by-remove_entry, sum_by-set_value}
use Rattle.std.proofs.lemmas.Map.Keys.{sorted_tail}
use Rattle.av_base.specs.Words.{how_many}
use Rattle.av_audit_queue.specs.Line.{member_at}
use Rattle.av_audit_queue.proofs.LineLaws.{is_rank}
use Rattle.av_audit_queue.proofs.QueueLaws.{in-rest, member-itself, passes}
use Rattle.av_audit_pages.specs.SlotHolders.{one}

-- how many pass, as a sum
pub many-sum : {X Y : Type 0} (p : Y → Bool) (f : X → Y) (xs : List X) → how_many p (map f xs) ≡ sum_by (λ x. one (p (f x))) xs
many-sum p f [] = refl
many-sum p f (x ∷ xs) = ap (λ n. one (p (f x)) + n) (many-sum p f xs) ∙ sym (sum_by-cons (λ x. one (p (f x))) x xs)

one-fewer : (k rank n : ℕ) → rank < n → cond (nat_le n k) 1 0 ≤ cond (nat_le rank k) 1 0
one-fewer k rank n above = grind (arith, nat_tests)

module _ {T : Type 0} where
  -- the first that passes a test has the least rank at which one does
  pub first-passes : (p : T → Bool) (es : List (ℕ × T)) (rank : ℕ) (x : T) → IsStrictlySortedBy nat_cmp (keys_of es) → member_at es rank ≡ Some x
      → p x ≡ true → ((r : ℕ) → r < rank → passes p (member_at es r) ≡ false) → find p (values_of es) ≡ Some x
  first-passes p [] rank x rising there is-one before = cc
  first-passes p (e ∷ es) rank x rising there is-one before = by (is_rank rank e.0) refl there
      (λ at. first-passes p es rank x (sorted_tail nat_cmp e.0 (keys_of es) rising) at is-one
      (in-rest (λ r o. r < rank → passes p o ≡ false) (λ r less. refl) e es rising before))
    where
      same : Some e.1 ≡ Some x → e.1 ≡ x
      same h = cc

      here : (y : T) (o : Option T) → y ≡ x → cond (p y) (Some y) o ≡ Some x
      here y o is = let h : p y ≡ true = ap p is ∙ is-one in ap (λ b. cond b (Some y) o) h ∙ ap Some is

      no-less : nat_cmp rank e.0 ≡ Less → Some x ≡ None
      no-less h = sym there ∙ lookup-none (is_rank rank) (e ∷ es) (none_below_head nat_cmp_total rank e es rising h)

      above : (a b : ℕ) → is_rank a b ≡ false → (nat_cmp a b ≡ Less → ⊥) → b < a
      above a b other not-less = grind (arith, nat_tests)

      clash : Some x ≡ None → ⊥
      clash h = cc

      by : (b : Bool) → is_rank rank e.0 ≡ b → cond b (Some e.1) (member_at es rank) ≡ Some x
          → (member_at es rank ≡ Some x → find p (values_of es) ≡ Some x)
          → cond (p e.1) (Some e.1) (find p (values_of es)) ≡ Some x
      by true is at more = here e.1 (find p (values_of es)) (same at)
      by false is at more =
          ap (λ b. cond b (Some e.1) (find p (values_of es)))
          (sym (ap (passes p) (member-itself e es)) ∙ before e.0 (above rank e.0 is (λ h. clash (no-less h))))
          ∙ more at

  -- where each stays as it is, so do all
  pub all-stay : (g : T → T) (es : List (ℕ × T)) → IsStrictlySortedBy nat_cmp (keys_of es)
      → ((r : ℕ) → option_map g (member_at es r) ≡ member_at es r) → map g (values_of es) ≡ values_of es
  all-stay g [] rising stays = refl
  all-stay g (e ∷ es) rising stays = both (g e.1) e.1 _ _ (ap (option_map g) (sym (member-itself e es)) ∙ stays e.0 ∙ member-itself e es)
      (all-stay g es (sorted_tail nat_cmp e.0 (keys_of es) rising) (in-rest (λ r o. option_map g o ≡ o) (λ r. refl) e es rising stays))
    where
      both : (x y : T) (xs ys : List T) → Some x ≡ Some y → xs ≡ ys → x ∷ xs ≡ y ∷ ys
      both x y xs ys h hs = cc

  -- one comes in place of another that ends alike
  pub one-alike : (g : T → T) (es : List (ℕ × T)) (rank : ℕ) (x y : T) → member_at es rank ≡ Some x → g y ≡ g x
      → map g (values_of (set_value (is_rank rank) es y)) ≡ map g (values_of es)
  one-alike g [] rank x y there like = refl
  one-alike g (e ∷ es) rank x y there like = by (is_rank rank e.0) there (one-alike g es rank x y)
    where
      same : Some e.1 ≡ Some x → g y ≡ g e.1
      same h = let is : e.1 ≡ x = cc in like ∙ sym (ap g is)

      by : (b : Bool) → cond b (Some e.1) (member_at es rank) ≡ Some x
          → (member_at es rank ≡ Some x → g y ≡ g x → map g (values_of (set_value (is_rank rank) es y)) ≡ map g (values_of es))
          → map g (values_of (cond b ((e.0, y) ∷ es) (e ∷ set_value (is_rank rank) es y))) ≡ g e.1 ∷ map g (values_of es)
      by true at more = ap (λ z. z ∷ map g (values_of es)) (same at)
      by false at more = ap (λ zs. g e.1 ∷ zs) (more at like)

  -- how many pass where one comes in place of another
  pub count-put : {Y : Type 0} (p : Y → Bool) (f : T → Y) (es : List (ℕ × T)) (rank : ℕ) (x y : T) → member_at es rank ≡ Some x
      → how_many p (map f (values_of (set_value (is_rank rank) es y))) + one (p (f x)) ≡ how_many p (map f (values_of es)) + one (p (f y))
  count-put p f es rank x y there =
      ap (λ n. n + one (p (f x))) (many-sum p f (values_of (set_value (is_rank rank) es y)))
      ∙ sum_by-set_value (λ x. one (p (f x))) (is_rank rank) es x y there
      ∙ sym (ap (λ n. n + one (p (f y))) (many-sum p f (values_of es)))

  -- and where it goes
  pub count-gone : {Y : Type 0} (p : Y → Bool) (f : T → Y) (es : List (ℕ × T)) (rank : ℕ) (x : T) → member_at es rank ≡ Some x
      → how_many p (map f (values_of es)) ≡ one (p (f x)) + how_many p (map f (values_of (remove_entry (is_rank rank) es)))
  count-gone p f es rank x there =
      let all = many-sum p f (values_of es) in
      let rest = many-sum p f (values_of (remove_entry (is_rank rank) es)) in
      let parts = sum_by-remove_entry (λ x. one (p (f x))) (is_rank rank) es in
      let gone = ap {B = ℕ} (λ o. unwrap_or (option_map (λ x. one (p (f x))) o) 0) there in
      omega (arith, all, rest, parts, gone)

  -- from a greater rank on there are fewer
  fewer-from : (es : List (ℕ × T)) (rank n : ℕ) → rank < n → how_many (λ k. nat_le n k) (keys_of es) ≤ how_many (λ k. nat_le rank k) (keys_of es)
  fewer-from [] rank n above = omega arith
  fewer-from (e ∷ es) rank n above = sum _ _ _ _ (one-fewer e.0 rank n above) (fewer-from es rank n above)
    where
      sum : (a b c d : ℕ) → a ≤ b → c ≤ d → a + c ≤ b + d
      sum a b c d h k = omega (arith, h, k)

  pub fewer-behind : (es : List (ℕ × T)) (rank n : ℕ) (x : T) → member_at es rank ≡ Some x → rank < n
      → how_many (λ k. nat_le n k) (keys_of es) < how_many (λ k. nat_le rank k) (keys_of es)
  fewer-behind [] rank n x there above = cc
  fewer-behind (e ∷ es) rank n x there above = by (is_rank rank e.0) refl there (fewer-behind es rank n x)
    where
      here : (k A B : ℕ) → is_rank rank k ≡ true → A ≤ B → cond (nat_le n k) 1 0 + A < cond (nat_le rank k) 1 0 + B
      here k A B is h = grind (arith, nat_tests)

      sum : (a b c d : ℕ) → a ≤ b → c < d → a + c < b + d
      sum a b c d h k = omega (arith, h, k)

      by : (b : Bool) → is_rank rank e.0 ≡ b → cond b (Some e.1) (member_at es rank) ≡ Some x
          → (member_at es rank ≡ Some x → rank < n → how_many (λ k. nat_le n k) (keys_of es) < how_many (λ k. nat_le rank k) (keys_of es))
          → cond (nat_le n e.0) 1 0 + how_many (λ k. nat_le n k) (keys_of es) < cond (nat_le rank e.0) 1 0 + how_many (λ k. nat_le rank k) (keys_of es)
      by true is at more = here e.0 _ _ is (fewer-from es rank n above)
      by false is at more = sum _ _ _ _ (one-fewer e.0 rank n above) (more at above)
