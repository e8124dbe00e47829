-- The bytes of an access piece by piece are those of the whole.
use Rattle.std.proofs.Common.{◌≡◌, ℕ, ◌+◌, ◌^◌, ◌<◌, suc, Bool, true, false, cond, List, [], ◌∷◌, ◌++◌, length, Option, Some, None, Ordering, refl, sym, ap, subst, ◌∙◌, arith}
use Rattle.std.specs.List.{AllByRecursion}
use Rattle.std.specs.Ordering.{nat_cmp, is_eq, eq_by_cmp}
use Rattle.std.specs.declared.cmp.Ordering.TheVariants.{Less, Equal, Greater}
use Rattle.std.specs.Cmp.{IsTotalOrder, nat_cmp_total, tied_itself}
use Rattle.std.specs.FinMap.Entries.{put, by_order}
use Rattle.std.proofs.lemmas.Bool.Decides.{nat_tests}
use Rattle.std.proofs.lemmas.List.{append-nil, length-append}
use Rattle.av_plain.specs.World.{World, Process, Page, is_locked_page, pages, lives, set_process, with_bytes, Shows}
use Rattle.av_plain.specs.Fault.{is_allowed, permits}
use Rattle.av_plain.specs.Access.{after_write, Reads}
use Rattle.av_plain.proofs.World.{lives-set, pages-set}
use Rattle.av_plain.proofs.World.TwoWrites.{with_bytes_twice}

-- ---- shown

pub shows-append : (q : Process) (a : ℕ) (xs ys : List ℕ) → Shows q a xs → Shows q (a + length xs) ys → Shows q a (xs ++ ys)
shows-append q a [] ys h g = subst (λ b. Shows q b ys) (let same : a + 0 ≡ a = omega arith in same) g
shows-append q a (x ∷ xs) ys h g = (
  h.0,
  shows-append q (a + 1) xs ys h.1
      (subst (λ b. Shows q b ys) (let same : a + suc (length xs) ≡ (a + 1) + length xs = omega arith in same) g),
)

-- and each of them is a byte
all-append : (xs ys : List ℕ) → AllByRecursion (λ b. b < 2 ^ 8) xs → AllByRecursion (λ b. b < 2 ^ 8) ys → AllByRecursion (λ b. b < 2 ^ 8) (xs ++ ys)
all-append [] ys h g = g
all-append (x ∷ xs) ys h g = (h.0, all-append xs ys h.1 g)

-- a read shows a piece more
pub reads-more : (q : Process) (a k m at : ℕ) (shown now piece : List ℕ) → at ≡ a + k → now ≡ shown ++ piece → length piece ≡ m → Shows q at piece →
    AllByRecursion (λ b. b < 2 ^ 8) piece → Reads q a k shown → Reads q a (k + m) now
reads-more q a k m at shown now piece begins is long h below g = (
  ap length is ∙ length-append shown piece ∙ (λ i. g.0 i + long i),
  subst (Shows q a) (sym is) (shows-append q a shown piece g.1 (subst (λ b. Shows q b piece) (begins ∙ ap (λ n. a + n) (sym g.0)) h)),
  subst (AllByRecursion (λ b. b < 2 ^ 8)) (sym is) (all-append shown piece g.2 below),
)

-- ---- stored

pub put_twice : {K X : Type 0} (R : K → K → Ordering) → IsTotalOrder R → (p : K) (m n : X) (w : List (K × X)) → put R p n (put R p m w) ≡ put R p n w
put_twice R total p m n [] = ap (λ r. by_order r ((p, n) ∷ (p, m) ∷ []) ((p, n) ∷ []) ((p, m) ∷ (p, n) ∷ [])) (tied_itself total p)
put_twice R total p m n (e ∷ w) =
    elim (R p e.0) as (λ r. R p e.0 ≡ r → put R p n (by_order r ((p, m) ∷ e ∷ w) ((e.0, m) ∷ w) (e ∷ put R p m w)) ≡ by_order r
    ((p, n) ∷ e ∷ w) ((e.0, n) ∷ w) (e ∷ put R p n w)) [
      | Less ↦ λ is. ap (λ r. by_order r ((p, n) ∷ (p, m) ∷ e ∷ w) ((p, n) ∷ e ∷ w) ((p, m) ∷ put R p n (e ∷ w))) (tied_itself total p)
      | Equal ↦ λ is. ap (λ r. by_order r ((p, n) ∷ (e.0, m) ∷ w) ((e.0, n) ∷ w) ((e.0, m) ∷ put R p n w)) is
      | Greater ↦ λ is. ap (λ r. by_order r ((p, n) ∷ e ∷ put R p m w) ((e.0, n) ∷ put R p m w) (e ∷ put R p n (put R p m w))) is
          ∙ ap (λ es. e ∷ es) (put_twice R total p m n w)
    ] refl

pub itself : (p : ℕ) → eq_by_cmp nat_cmp p p ≡ true
itself p = ap is_eq (tied_itself nat_cmp_total p)

-- a process has what it was given
pub pages-given : (w : World) (p : ℕ) (m : Process) → pages (set_process w p m) p ≡ m
pages-given w p m = λ i page. (pages-set w p m p page ∙ ap (λ b. cond b (m page) (pages w p page)) (itself p)) i

pub stored_twice : (w : World) (p a : ℕ) (xs ys : List ℕ) → after_write (after_write w p a xs) p (a + length xs) ys ≡ after_write w p a (xs ++ ys)
stored_twice w p a [] ys = ap (λ b. after_write w p b ys) (let same : a + 0 ≡ a = omega arith in same)
stored_twice w p a (x ∷ xs) [] = ap (λ zs. after_write w p a (x ∷ zs)) (sym (append-nil xs))
stored_twice w p a (x ∷ xs) (y ∷ ys) =
    ap (λ (m : Process). set_process (after_write w p a (x ∷ xs)) p (with_bytes m (a + length (x ∷ xs)) (y ∷ ys)))
    (pages-given w p (with_bytes (pages w p) a (x ∷ xs)))
    ∙ put_twice nat_cmp nat_cmp_total p _ _ w
    ∙ ap (set_process w p) (with_bytes_twice (pages w p) a (x ∷ xs) (y ∷ ys))

pub lives-stored : (w : World) (p a : ℕ) (bytes : List ℕ) → lives w p ≡ true → lives (after_write w p a bytes) p ≡ true
lives-stored w p a [] h = h
lives-stored w p a (b ∷ bytes) h = lives-set w p _ p ∙ ap (λ t. cond t true (lives w p)) (itself p)

-- what is written leaves the protections
pub allowed-stored : (w : World) (write : Bool) (p a : ℕ) (bytes : List ℕ) (page : ℕ) →
    is_allowed w write (p, page) ≡ is_allowed (after_write w p a bytes) write (p, page)
allowed-stored w write p a [] page = refl
allowed-stored w write p a (b ∷ bytes) page = same (pages w p page)
    ∙ ap (permits write) (sym (λ i. pages-given w p (with_bytes (pages w p) a (b ∷ bytes)) i page))
  where
    same : (o : Option Page) → permits write o ≡ permits write (with_bytes (λ _. o) a (b ∷ bytes) page)
    same None = refl
    same (Some q) = refl

-- and which pages are locked
pub locked-stored : (w : World) (p a : ℕ) (bytes : List ℕ) (q page : ℕ) →
    is_locked_page (pages w q page) ≡ is_locked_page (pages (after_write w p a bytes) q page)
locked-stored w p a [] q page = refl
locked-stored w p a (b ∷ bytes) q page =
    by (eq_by_cmp nat_cmp q p) refl ∙ ap is_locked_page (sym (pages-set w p (with_bytes (pages w p) a (b ∷ bytes)) q page))
  where
    same : (o : Option Page) → is_locked_page o ≡ is_locked_page (with_bytes (λ _. o) a (b ∷ bytes) page)
    same None = refl
    same (Some x) = refl

    number : eq_by_cmp nat_cmp q p ≡ true → q ≡ p
    number e = grind (arith, nat_tests, e)

    by : (c : Bool) → eq_by_cmp nat_cmp q p ≡ c
        → is_locked_page (pages w q page) ≡ is_locked_page (cond c (with_bytes (pages w p) a (b ∷ bytes) page) (pages w q page))
    by true e = ap (λ n. is_locked_page (pages w n page)) (number e) ∙ same (pages w p page)
    by false e = refl
