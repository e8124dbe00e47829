-- What a ledger keeps of the swap areas that are on: it stays where these do, and follows where an area comes on or goes off.
use Rattle.std.proofs.Common.{◌≡◌, ℕ, ◌==◌, Bool, true, false, cond, not, List, [], ◌∷◌, map, Some, is_some, refl, sym, ap, ◌∙◌, arith}
use Rattle.std.proofs.lemmas.Bool.Decides.{nat_tests}
use Rattle.std.proofs.lemmas.Bool.{false≢true}
use Rattle.std.specs.FinMap.Entries.{find, find-where_key, put, where_key}
use Rattle.std.specs.Ordering.{eq_by_cmp, nat_cmp}
use Rattle.std.specs.Prelude.{ℤ, None}
use Rattle.std.specs.declared.cmp.Ordering.TheVariants.{Equal}
use Rattle.av_base.specs.Words.{with_at}
use Rattle.av_swapcache.proofs.Views.{put-map, where_key-map}
use Rattle.av_swapdev.specs.declared.header.Header.{Header}
use Rattle.av_mem.specs.Mem.{area_of, view}
use Rattle.av_mem.specs.Steps.{KeepsSwap}
use Rattle.av_mem.specs.declared.mem.Mem.{Mem}

-- where the areas that are on and their priorities stay, so does what a ledger keeps of them
pub areas-kept : (old new : Mem) → KeepsSwap old new → (view new).on ≡ (view old).on
areas-kept old new kept = λ i. map (area_of (kept.priority i)) (kept.on i)

module _ (priority : ℕ → ℤ) (k : ℕ) (p : ℤ) where
  -- the priority of an area that is off says nothing
  apart : (on : List (ℕ × Header)) → is_some (find nat_cmp k on) ≡ false → map (area_of (with_at k p priority)) on ≡ map (area_of priority) on
  apart [] off = refl
  apart (a ∷ on) off = by (eq_by_cmp nat_cmp k a.0) refl off (apart on)
    where
      other : eq_by_cmp nat_cmp k a.0 ≡ false → (a.0 == k) ≡ false
      other is = grind (arith, nat_tests, is)

      by : (b : Bool) → eq_by_cmp nat_cmp k a.0 ≡ b → is_some (cond b (Some a.1) (find nat_cmp k on)) ≡ false
          → (is_some (find nat_cmp k on) ≡ false → map (area_of (with_at k p priority)) on ≡ map (area_of priority) on)
          → map (area_of (with_at k p priority)) (a ∷ on) ≡ map (area_of priority) (a ∷ on)
      by true is off rest = absurd (false≢true (sym off))
      by false is off rest = λ i. area_of (λ q. cond (other is i) p (priority a.0)) a ∷ rest off i

  -- an area that was off is on, with this header and priority
  pub areas-on : (header : Header) (on : List (ℕ × Header)) → is_some (find nat_cmp k on) ≡ false
      → map (area_of (with_at k p priority)) (put nat_cmp k header on) ≡ put nat_cmp k (area_of (λ q. p) (k, header)).1 (map (area_of priority) on)
  areas-on header on off = put-map (λ q h. (area_of (with_at k p priority) (q, h)).1) k header on
      ∙ (λ i. put nat_cmp k (area_of (λ q. cond (itself i) p (priority k)) (k, header)).1 (apart on off i))
    where
      itself : (k == k) ≡ true
      itself = grind (arith, nat_tests)

  -- an area is off, whatever it shows as its priority
  pub areas-off : (on : List (ℕ × Header)) → map (area_of (with_at k p priority)) (where_key nat_cmp (λ q. not (q == k)) on)
      ≡ where_key nat_cmp (λ q. not (q == k)) (map (area_of priority) on)
  areas-off on = apart (where_key nat_cmp (λ q. not (q == k)) on) off ∙ where_key-map (λ q h. (area_of priority (q, h)).1) (λ q. not (q == k)) on
    where
      equal : (j : ℕ) → nat_cmp k j ≡ Equal → k ≡ j
      equal j e = grind (arith, nat_tests, e)

      itself : (k == k) ≡ true
      itself = grind (arith, nat_tests)

      off : is_some (find nat_cmp k (where_key nat_cmp (λ q. not (q == k)) on)) ≡ false
      off = ap is_some (find-where_key nat_cmp (λ q. not (q == k)) k (λ j e. ap (λ q. not (q == k)) (sym (equal j e))) on
          ∙ ap (λ b. cond (not b) (find nat_cmp k on) None) itself)
