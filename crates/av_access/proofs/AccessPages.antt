-- Which pages an access touches: those of its first bytes, and then those of the rest.
use Rattle.std.proofs.Common.{◌≡◌, ℕ, ◌+◌, ◌-◌, ◌*◌, ◌/◌, ◌%◌, ◌<◌, ◌≤◌, ◌==◌, suc, zero, Bool, false, cond, [], ◌∷◌, ◌++◌, map, sym, ap, subst, ◌∙◌, arith}
use Rattle.std.proofs.lemmas.Bool.Decides.{nat_tests}
use Rattle.std.proofs.lemmas.List.{map-append}
use Rattle.std.specs.List.{range_with_len}
use Rattle.av_plain.specs.Access.{pages_of_access}

pub numbers-append : (a c d : ℕ) → range_with_len a (c + d) ≡ range_with_len a c ++ range_with_len (a + c) d
numbers-append a zero d = (λ i. range_with_len a (none d i)) ∙ ap (λ b. range_with_len b d) (let same : a ≡ a + 0 = omega arith in same)
  where
    none : (d : ℕ) → 0 + d ≡ d
    none d = omega arith
numbers-append a (suc c) d =
    ap (range_with_len a) (let next : suc c + d ≡ suc (c + d) = omega arith in next)
    ∙ ap (λ ns. a ∷ ns) (numbers-append (a + 1) c d ∙ ap (λ b. range_with_len (a + 1) c ++ range_with_len b d)
    (let same : (a + 1) + c ≡ a + suc c = omega arith in same))

-- how many pages n bytes from a on touch
abbrev pub touches : ℕ → ℕ → ℕ
touches a n = cond (n == 0) 0 ((a % 4096 + n + 4095) / 4096)

touches-some : (a n : ℕ) → 1 ≤ n → touches a n ≡ (a % 4096 + n + 4095) / 4096
touches-some a n some = ap (λ b. cond b 0 ((a % 4096 + n + 4095) / 4096)) (let differ : (n == 0) ≡ false = grind (arith, nat_tests) in differ)

-- so many pages were touched before a page that begins behind k bytes
pub pages_before : (a k page at : ℕ) → 4096 * page + at ≡ a + k → at < 4096 → (1 ≤ k → at ≡ 0) → page ≡ a / 4096 + touches a k
pages_before a zero page at is small begins = omega arith
pages_before a (suc k) page at is small begins = let none : at ≡ 0 = begins (omega arith) in let some = touches-some a (suc k) (omega arith) in
    omega (arith, is, none, some)

-- bytes of one page touch one page more
pub one_more : (a k m page at : ℕ) → 4096 * page + at ≡ a + k → at + m ≤ 4096 → 1 ≤ m → (1 ≤ k → at ≡ 0) → touches a (k + m) ≡ touches a k + 1
one_more a zero m page at is small some begins = let all = touches-some a (0 + m) (omega (arith, some)) in omega (arith, is, small, some, all)
one_more a (suc k) m page at is small some begins =
    let none : at ≡ 0 = begins (omega arith) in
    let first = touches-some a (suc k) (omega arith) in
    let all = touches-some a (suc k + m) (omega arith) in
    omega (arith, is, small, some, none, first, all)

-- and any bytes at least one
pub some_more : (a k m page at : ℕ) → 4096 * page + at ≡ a + k → at < 4096 → 1 ≤ m → (1 ≤ k → at ≡ 0) → touches a k + 1 ≤ touches a (k + m)
some_more a zero m page at is small some begins = let all = touches-some a (0 + m) (omega (arith, some)) in omega (arith, is, small, some, all)
some_more a (suc k) m page at is small some begins =
    let none : at ≡ 0 = begins (omega arith) in
    let first = touches-some a (suc k) (omega arith) in
    let all = touches-some a (suc k + m) (omega arith) in
    omega (arith, is, small, some, none, first, all)

-- the pages of an access are the numbers of its pages, each read or each written
pub touched-one : (write : Bool) (a k m page at : ℕ) → 4096 * page + at ≡ a + k → at + m ≤ 4096 → 1 ≤ m → (1 ≤ k → at ≡ 0)
    → pages_of_access write a (k + m) ≡ pages_of_access write a k ++ (write, page) ∷ []
touched-one write a k m page at is small some begins =
    ap (map (λ page. (write, page)))
    (ap (range_with_len (a / 4096)) (one_more a k m page at is small some begins) ∙ numbers-append (a / 4096) (touches a k) 1
    ∙ ap (λ b. range_with_len (a / 4096) (touches a k) ++ b ∷ []) (sym (pages_before a k page at is (omega (arith, small, some)) begins)))
    ∙ map-append (λ page. (write, page)) (range_with_len (a / 4096) (touches a k)) (page ∷ [])

pub touched-more : (write : Bool) (a k n page at : ℕ) → 4096 * page + at ≡ a + k → at < 4096 → k < n → (1 ≤ k → at ≡ 0)
    → pages_of_access write a n ≡ pages_of_access write a k ++ (write, page) ∷ map (λ page. (write, page))
    (range_with_len (page + 1) (touches a n - (touches a k + 1)))
touched-more write a k n page at is small less begins =
    let at_least : touches a k + 1 ≤ touches a n = subst (λ x. touches a k + 1 ≤ touches a x) (let same : k + (n - k) ≡ n = omega (arith, less) in
    same) (some_more a k (n - k) page at is small (omega (arith, less)) begins) in
    let split : touches a n ≡ touches a k + suc (touches a n - (touches a k + 1)) = omega (arith, at_least) in
    ap (map (λ page. (write, page)))
    (ap (range_with_len (a / 4096)) split ∙ numbers-append (a / 4096) (touches a k) (suc (touches a n - (touches a k + 1)))
    ∙ ap (λ b. range_with_len (a / 4096) (touches a k) ++ b ∷ range_with_len (b + 1) (touches a n - (touches a k + 1)))
    (sym (pages_before a k page at is small begins)))
    ∙ map-append (λ page. (write, page)) (range_with_len (a / 4096) (touches a k))
    (page ∷ range_with_len (page + 1) (touches a n - (touches a k + 1)))
