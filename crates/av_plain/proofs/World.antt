-- Laws of worlds: what a process has after a change.
pub mod Ranges
pub mod TwoWrites
use Rattle.std.proofs.Common.{◌≡◌, ℕ, ◌+◌, true, false, cond, T, length, Some, None, is_some, option_and_then, refl, ap, ◌∙◌}
use Rattle.std.specs.Ordering.{nat_cmp, eq_by_cmp}
use Rattle.std.specs.Cmp.{nat_cmp_total}
use Rattle.std.specs.FinMap.Entries.{is_sorted, find-put, length-put, is_sorted-put}
use Rattle.av_plain.specs.World.{World, Process, process, lives, pages, set_process}

pub process-set : (w : World) (p : ℕ) (m : Process) (q : ℕ) → process (set_process w p m) q ≡ cond (eq_by_cmp nat_cmp q p) (Some m) (process w q)
process-set w p m q = find-put nat_cmp nat_cmp_total q p m w

pub lives-set : (w : World) (p : ℕ) (m : Process) (q : ℕ) → lives (set_process w p m) q ≡ cond (eq_by_cmp nat_cmp q p) true (lives w q)
lives-set w p m q = ap is_some (process-set w p m q)
    ∙ elim (eq_by_cmp nat_cmp q p) as (λ b. is_some (cond b (Some m) (process w q)) ≡ cond b true (lives w q)) [ true ↦ refl | false ↦ refl ]

pub pages-set : (w : World) (p : ℕ) (m : Process) (q page : ℕ)
    → pages (set_process w p m) q page ≡ cond (eq_by_cmp nat_cmp q p) (m page) (pages w q page)
pages-set w p m q page = ap (option_and_then (λ (n : Process). n page)) (process-set w p m q)
    ∙ elim (eq_by_cmp nat_cmp q p) as (λ b. option_and_then (λ (n : Process). n page) (cond b (Some m) (process w q)) ≡ cond b (m page)
    (pages w q page)) [ true ↦ refl | false ↦ refl ]

-- a process that does not live has no pages
pub pages-no_process : (w : World) (q page : ℕ) → lives w q ≡ false → pages w q page ≡ None
pages-no_process w q page h = elim (process w q) as (λ o. is_some o ≡ false → option_and_then (λ (n : Process). n page) o ≡ None) [
  | None ↦
      λ _. refl
  | Some m ↦ λ e. cc
] h

pub length-set_new : (w : World) (p : ℕ) (m : Process) → T (is_sorted nat_cmp w) → lives w p ≡ false → length (set_process w p m) ≡ length w + 1
length-set_new w p m h none = length-put nat_cmp nat_cmp_total p m w h ∙ ap (λ b. cond b (length w) (length w + 1)) none

pub length-set_old : (w : World) (p : ℕ) (m : Process) → T (is_sorted nat_cmp w) → lives w p ≡ true → length (set_process w p m) ≡ length w
length-set_old w p m h some = length-put nat_cmp nat_cmp_total p m w h ∙ ap (λ b. cond b (length w) (length w + 1)) some

pub is_sorted-set : (w : World) (p : ℕ) (m : Process) → T (is_sorted nat_cmp w) → T (is_sorted nat_cmp (set_process w p m))
is_sorted-set w p m h = is_sorted-put nat_cmp nat_cmp_total p m w h
