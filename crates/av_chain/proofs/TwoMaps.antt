-- The two maps that a list of links is.
use Rattle.av_base.specs.Words.{how_many, is_in, with_at, without}
use Rattle.std.proofs.Common.{◌≡◌, ℕ, zero, suc, ◌+◌, ◌<◌, length, take, get_or, append_assoc, arith, true, false, cond, ◌||◌, ◌==◌, List, [], ◌∷◌, ◌++◌, refl, sym, ap, ◌∙◌, Option, Some, None, append-nil, not}
use Rattle.std.specs.Prelude.{Result, Ok, Err, OnErr, OnOk}
use mathlib.Core.Bool.{Bool}
use Rattle.av_chain.specs.Links.{Link, AreNew, users_with, links_to, chain_of, users_of, first_in, rest_in, left_by, left_by_all, one_if, AreMutual, AreOnce, without_first}
use Rattle.av_chain.proofs.Altered.{either, cond_lift, cond_same}
use Rattle.av_chain.proofs.Threads.{number_eq, same_number}
use Rattle.av_chain.proofs.Wholes.{chain_append, is_in_append, or_false}

-- ---- a link is made

users_append : (ls ms : List Link) (v : ℕ) → users_of (ls ++ ms) v ≡ users_of ls v ++ users_of ms v
users_append [] ms v = refl
users_append (l ∷ ls) ms v = (λ i. cond (v == l.1) (l.0 ∷ users_append ls ms v i) (users_append ls ms v i))
    ∙ sym (cond_lift (λ xs. xs ++ users_of ms v) (v == l.1) (l.0 ∷ users_of ls v) (users_of ls v))

at_end : (f : ℕ → List ℕ) (k : ℕ) (xs : List ℕ) (j : ℕ) → f j ++ cond (j == k) xs [] ≡ with_at k (f k ++ xs) f j
at_end f k xs j = either (f j ++ cond (j == k) xs [] ≡ cond (j == k) (f k ++ xs) (f j)) (j == k)
    (λ e. ap (λ y. f j ++ cond y xs []) e ∙ ap (λ i. f i ++ xs) (sym (number_eq k j e)) ∙ sym (ap (λ y. cond y (f k ++ xs) (f j)) e))
    (λ e. ap (λ y. f j ++ cond y xs []) e ∙ append-nil (f j) ∙ sym (ap (λ y. cond y (f k ++ xs) (f j)) e))

pub chain_push : (ls : List Link) (a v : ℕ) → chain_of (ls ++ (a, v) ∷ []) ≡ with_at a (chain_of ls a ++ v ∷ []) (chain_of ls)
chain_push ls a v = λ i b. (chain_append ls ((a, v) ∷ []) b ∙ at_end (chain_of ls) a (v ∷ []) b) i

pub users_push : (ls : List Link) (a v : ℕ) → users_of (ls ++ (a, v) ∷ []) ≡ with_at v (users_of ls v ++ a ∷ []) (users_of ls)
users_push ls a v = λ i u. (users_append ls ((a, v) ∷ []) u ∙ at_end (users_of ls) v (a ∷ []) u) i

-- ---- links of one area are made

links_chain : (a b : ℕ) (xs : List ℕ) → chain_of (links_to a xs) b ≡ cond (b == a) xs []
links_chain a b [] = sym (cond_same (b == a) [])
links_chain a b (x ∷ xs) =
    let C = chain_of (links_to a xs) b in
    let rest : C ≡ cond (b == a) xs [] = links_chain a b xs in
    either (cond (b == a) (x ∷ C) C ≡ cond (b == a) (x ∷ xs) []) (b == a)
    (λ e. ap (λ y. cond y (x ∷ C) C) e ∙ ap (λ ys. x ∷ ys) (rest ∙ ap (λ y. cond y xs []) e) ∙ sym (ap (λ y. cond y (x ∷ xs) []) e))
    (λ e. ap (λ y. cond y (x ∷ C) C) e ∙ rest ∙ ap (λ y. cond y xs []) e ∙ sym (ap (λ y. cond y (x ∷ xs) []) e))

pub chain_all : (ls : List Link) (a : ℕ) (xs : List ℕ) → chain_of (ls ++ links_to a xs) ≡ with_at a (chain_of ls a ++ xs) (chain_of ls)
chain_all ls a xs = λ i b. (chain_append ls (links_to a xs) b ∙ ap (λ ys. chain_of ls b ++ ys) (links_chain a b xs) ∙ at_end (chain_of ls) a xs b) i

pub chain_here : (ls : List Link) (a : ℕ) (xs : List ℕ) → chain_of (ls ++ links_to a xs) a ≡ chain_of ls a ++ xs
chain_here ls a xs = ap (λ (f : ℕ → List ℕ). f a) (chain_all ls a xs) ∙ ap (λ y. cond y (chain_of ls a ++ xs) (chain_of ls a)) (same_number a)

pub links_more : (a : ℕ) (xs : List ℕ) (x : ℕ) → links_to a (xs ++ x ∷ []) ≡ links_to a xs ++ (a, x) ∷ []
links_more a [] x = refl
links_more a (y ∷ xs) x = ap (λ ls. (a, y) ∷ ls) (links_more a xs x)

true_right : (x : Bool) → (x || true) ≡ true
true_right true = refl
true_right false = refl

pub in_end : (x : ℕ) (c : List ℕ) → is_in x (c ++ x ∷ []) ≡ true
in_end x c = is_in_append x c (x ∷ []) ∙ ap (λ y. is_in x c || (y || false)) (same_number x) ∙ true_right (is_in x c)

in_front : (x : ℕ) (c ys : List ℕ) → is_in x c ≡ true → is_in x (c ++ ys) ≡ true
in_front x c ys e = is_in_append x c ys ∙ ap (λ y. y || is_in x ys) e

-- none of what is new stands in the chain
new_apart : (c xs : List ℕ) (x : ℕ) → is_in x c ≡ true → AreNew c xs → is_in x xs ≡ false
new_apart c [] x e n = refl
new_apart c (y ∷ ys) x e n = either (is_in x (y ∷ ys) ≡ false) (x == y)
    (λ same. let clash : true ≡ false = sym e ∙ ap (λ k. is_in k c) (sym (number_eq y x same)) ∙ n.0 in cc)
    (λ other. ap (λ t. t || is_in x ys) other ∙ new_apart (c ++ y ∷ []) ys x (in_front x c (y ∷ []) e) n.1)

links_users : (a v : ℕ) (c xs : List ℕ) → AreNew c xs → users_of (links_to a xs) v ≡ cond (is_in v xs) (a ∷ []) []
links_users a v c [] n = refl
links_users a v c (x ∷ xs) n =
    let U = users_of (links_to a xs) v in
    let rest : U ≡ cond (is_in v xs) (a ∷ []) [] = links_users a v (c ++ x ∷ []) xs n.1 in
    either (cond (v == x) (a ∷ U) U ≡ cond ((v == x) || is_in v xs) (a ∷ []) []) (v == x)
    (λ e.
    let gone : is_in v xs ≡ false = ap (λ k. is_in k xs) (sym (number_eq x v e)) ∙ new_apart (c ++ x ∷ []) xs x (in_end x c) n.1 in
    ap (λ y. cond y (a ∷ U) U) e ∙ ap (λ us. a ∷ us) (rest ∙ ap (λ y. cond y (a ∷ []) []) gone)
    ∙ sym (ap (λ y. cond (y || is_in v xs) (a ∷ []) []) e))
    (λ e. ap (λ y. cond y (a ∷ U) U) e ∙ rest ∙ sym (ap (λ y. cond (y || is_in v xs) (a ∷ []) []) e))

pub users_all : (ls : List Link) (a : ℕ) (c xs : List ℕ) → AreNew c xs → users_of (ls ++ links_to a xs) ≡ users_with a xs (users_of ls)
users_all ls a c xs n = λ i v.
    (users_append ls (links_to a xs) v ∙ ap (λ us. users_of ls v ++ us) (links_users a v c xs n)
    ∙ cond_lift (λ us. users_of ls v ++ us) (is_in v xs) (a ∷ []) []
    ∙ ap (λ us. cond (is_in v xs) (users_of ls v ++ a ∷ []) us) (append-nil (users_of ls v))) i

-- the next of what is new stands neither in the chain nor before itself
pub new_at : (c xs : List ℕ) (k : ℕ) → AreNew c xs → k < length xs → is_in (get_or xs k 0) (c ++ take k xs) ≡ false
new_at c [] k n h = absurd (omega (arith, h))
new_at c (x ∷ xs) zero n h = ap (is_in x) (append-nil c) ∙ n.0
new_at c (x ∷ xs) (suc k) n h =
    ap (is_in (get_or xs k 0)) (sym (append_assoc c (x ∷ []) (take k xs))) ∙ new_at (c ++ x ∷ []) xs k n.1 (omega (arith, h))

pub new_by : (c xs : List ℕ) → ((k : ℕ) → k < length xs → is_in (get_or xs k 0) (c ++ take k xs) ≡ false) → AreNew c xs
new_by c [] f = tt
new_by c (x ∷ xs) f = (
  ap (is_in x) (sym (append-nil c)) ∙ f 0 (omega arith),
  new_by (c ++ x ∷ []) xs (λ k h. ap (is_in (get_or xs k 0)) (append_assoc c (x ∷ []) (take k xs)) ∙ f (suc k) (omega (arith, h))),
)

-- ---- each map is the other's inverse

in_chain : (t : Bool) (x v : ℕ) (vs : List ℕ) → is_in v (cond t (x ∷ vs) vs) ≡ (cond t (v == x) false || is_in v vs)
in_chain true x v vs = refl
in_chain false x v vs = refl

swap_tests : (s t : Bool) → cond s t false ≡ cond t s false
swap_tests true true = refl
swap_tests true false = refl
swap_tests false true = refl
swap_tests false false = refl

pub dual : (ls : List Link) (a v : ℕ) → is_in v (chain_of ls a) ≡ is_in a (users_of ls v)
dual [] a v = refl
dual (l ∷ ls) a v = in_chain (a == l.0) l.1 v (chain_of ls a) ∙ (λ i. swap_tests (a == l.0) (v == l.1) i || dual ls a v i)
    ∙ sym (in_chain (v == l.1) l.0 a (users_of ls v))

-- how often a number stands in a list
abbrev times : ℕ → List ℕ → ℕ
times x xs = how_many (λ y. x == y) xs

count_in : (t : Bool) (x v : ℕ) (vs : List ℕ) → times v (cond t (x ∷ vs) vs) ≡ one_if (cond t (v == x) false) + times v vs
count_in true x v vs = refl
count_in false x v vs = omega arith

-- a link is counted alike from both sides
pub count_dual : (ls : List Link) (a v : ℕ) → how_many (λ u. v == u) (chain_of ls a) ≡ how_many (λ b. a == b) (users_of ls v)
count_dual [] a v = refl
count_dual (l ∷ ls) a v =
    count_in (a == l.0) l.1 v (chain_of ls a) ∙ (λ i. one_if (swap_tests (a == l.0) (v == l.1) i) + count_dual ls a v i)
    ∙ sym (count_in (v == l.1) l.0 a (users_of ls v))

both_hold : (s t : Bool) → cond s t false ≡ true → (s ≡ true) × (t ≡ true)
both_hold true t e = (refl, e)
both_hold false t e = cc

count_once : (ls : List Link) → AreOnce ls → (a v : ℕ) → times v (chain_of ls a) ≡ one_if (is_in v (chain_of ls a))
count_once [] o a v = refl
count_once (l ∷ ls) o a v =
    let rest = count_once ls o.1 a v in
    let n = times v (chain_of ls a) in
    let t = cond (a == l.0) (v == l.1) false in
    count_in (a == l.0) l.1 v (chain_of ls a)
    ∙ either (one_if t + n ≡ one_if (t || is_in v (chain_of ls a))) t
    (λ e.
    let both = both_hold (a == l.0) (v == l.1) e in
    let absent : is_in v (chain_of ls a) ≡ false = sym (λ i. is_in (number_eq l.1 v both.1 i) (chain_of ls (number_eq l.0 a both.0 i))) ∙ o.0 in
    let none : n ≡ 0 = rest ∙ ap one_if absent in
    let one : 1 + n ≡ 1 = omega (arith, none) in
    ap (λ y. one_if y + n) e ∙ one ∙ sym (ap (λ y. one_if (y || is_in v (chain_of ls a))) e))
    (λ e. let same : 0 + n ≡ n = omega arith in ap (λ y. one_if y + n) e ∙ same ∙ rest ∙ sym (ap (λ y. one_if (y || is_in v (chain_of ls a))) e))
    ∙ sym (ap one_if (in_chain (a == l.0) l.1 v (chain_of ls a)))

pub mutual_once : (ls : List Link) → AreOnce ls → AreMutual (chain_of ls) (users_of ls)
mutual_once ls o = record { inverse = λ a v. sym (count_dual ls a v) ∙ count_once ls o a v; once = count_once ls o }

-- ---- an area's first link goes

pub without_none : (x : ℕ) (ys : List ℕ) → is_in x ys ≡ false → without x ys ≡ ys
without_none x [] e = refl
without_none x (y ∷ ys) e =
    let apart = or_false (x == y) (is_in x ys) e in
    ap (λ t. cond (not t) (y ∷ without x ys) (without x ys)) apart.0 ∙ ap (λ zs. y ∷ zs) (without_none x ys apart.1)

pub without_twice : (x : ℕ) (ys : List ℕ) → without x (without x ys) ≡ without x ys
without_twice x [] = refl
without_twice x (y ∷ ys) =
    either (without x (cond (not (x == y)) (y ∷ without x ys) (without x ys)) ≡ cond (not (x == y)) (y ∷ without x ys) (without x ys)) (x == y)
    (λ e. ap (λ t. without x (cond (not t) (y ∷ without x ys) (without x ys))) e ∙ without_twice x ys
    ∙ sym (ap (λ t. cond (not t) (y ∷ without x ys) (without x ys)) e))
    (λ e. ap (λ t. without x (cond (not t) (y ∷ without x ys) (without x ys))) e
    ∙ ap (λ t. cond (not t) (y ∷ without x (without x ys)) (without x (without x ys))) e
    ∙ ap (λ zs. y ∷ zs) (without_twice x ys) ∙ sym (ap (λ t. cond (not t) (y ∷ without x ys) (without x ys)) e))

popped_chain : (a : ℕ) (ls : List Link) (b : ℕ) → chain_of (without_first a ls) b ≡ with_at a (rest_in (chain_of ls a)) (chain_of ls) b
popped_chain a [] b = sym (cond_same (b == a) [])
popped_chain a (l ∷ ls) b =
    either (chain_of (without_first a (l ∷ ls)) b ≡ with_at a (rest_in (chain_of (l ∷ ls) a)) (chain_of (l ∷ ls)) b) (a == l.0)
    (λ e.
    let goal : chain_of ls b ≡ cond (b == a) (chain_of ls a) (cond (b == l.0) (l.1 ∷ chain_of ls b) (chain_of ls b)) =
    either (chain_of ls b ≡ cond (b == a) (chain_of ls a) (cond (b == l.0) (l.1 ∷ chain_of ls b) (chain_of ls b))) (b == a)
    (λ f. ap (chain_of ls) (sym (number_eq a b f)) ∙ sym (ap (λ y. cond y (chain_of ls a) (cond (b == l.0) (l.1 ∷ chain_of ls b) (chain_of ls b))) f))
    (λ f. sym (ap (λ y. cond y (chain_of ls a) (cond (b == l.0) (l.1 ∷ chain_of ls b) (chain_of ls b))) f
    ∙ ap (λ y. cond y (l.1 ∷ chain_of ls b) (chain_of ls b)) (ap (λ k. b == k) (number_eq l.0 a e) ∙ f))) in
    ap (λ y. chain_of (cond y ls (l ∷ without_first a ls)) b) e ∙ goal
    ∙ sym (ap (λ y. cond (b == a) (rest_in (cond y (l.1 ∷ chain_of ls a) (chain_of ls a)))
    (cond (b == l.0) (l.1 ∷ chain_of ls b) (chain_of ls b))) e))
    (λ e.
    let goal : cond (b == l.0) (l.1 ∷ chain_of (without_first a ls) b) (chain_of (without_first a ls) b) ≡ cond (b == a) (rest_in (chain_of ls a))
    (cond (b == l.0) (l.1 ∷ chain_of ls b) (chain_of ls b)) =
    either (cond (b == l.0) (l.1 ∷ chain_of (without_first a ls) b) (chain_of (without_first a ls) b) ≡ cond (b == a) (rest_in (chain_of ls a))
    (cond (b == l.0) (l.1 ∷ chain_of ls b) (chain_of ls b))) (b == a)
    (λ f. ap (λ y. cond y (l.1 ∷ chain_of (without_first a ls) b) (chain_of (without_first a ls) b)) (ap (λ k. k == l.0) (sym (number_eq a b f)) ∙ e)
    ∙ popped_chain a ls b
    ∙ ap (λ y. cond y (rest_in (chain_of ls a)) (chain_of ls b)) f
    ∙ sym (ap (λ y. cond y (rest_in (chain_of ls a)) (cond (b == l.0) (l.1 ∷ chain_of ls b) (chain_of ls b))) f))
    (λ f. let rest : chain_of (without_first a ls) b ≡ chain_of ls b = popped_chain a ls b
    ∙ ap (λ y. cond y (rest_in (chain_of ls a)) (chain_of ls b)) f in
    (λ i. cond (b == l.0) (l.1 ∷ rest i) (rest i))
    ∙ sym (ap (λ y. cond y (rest_in (chain_of ls a)) (cond (b == l.0) (l.1 ∷ chain_of ls b) (chain_of ls b))) f))
    in
    ap (λ y. chain_of (cond y ls (l ∷ without_first a ls)) b) e ∙ goal
    ∙ sym (ap (λ y. cond (b == a) (rest_in (cond y (l.1 ∷ chain_of ls a) (chain_of ls a)))
    (cond (b == l.0) (l.1 ∷ chain_of ls b) (chain_of ls b))) e))

pub chain_popped : (a : ℕ) (ls : List Link) → chain_of (without_first a ls) ≡ with_at a (rest_in (chain_of ls a)) (chain_of ls)
chain_popped a ls = λ i b. popped_chain a ls b i

-- of another area's link before it
passed_by : (a : ℕ) (o : Option ℕ) (l : Link) (ls : List Link) (u : ℕ) → (a == l.0) ≡ false
    → cond (u == l.1) (l.0 ∷ left_by a o (users_of ls) u) (left_by a o (users_of ls) u) ≡ left_by a o (users_of (l ∷ ls)) u
passed_by a None l ls u e = refl
passed_by a (Some v) l ls u e = either (cond (u == l.1) (l.0 ∷ with_at v (without a (users_of ls v)) (users_of ls) u)
    (with_at v (without a (users_of ls v)) (users_of ls) u) ≡ with_at v (without a (users_of (l ∷ ls) v)) (users_of (l ∷ ls)) u) (u == v)
    (λ f.
    let here : with_at v (without a (users_of ls v)) (users_of ls) u ≡ without a (users_of ls v) =
    ap (λ y. cond y (without a (users_of ls v)) (users_of ls u)) f in
    let past : without a (l.0 ∷ users_of ls v) ≡ l.0 ∷ without a (users_of ls v) =
    ap (λ y. cond (not y) (l.0 ∷ without a (users_of ls v)) (without a (users_of ls v))) e in
    (λ i. cond (u == l.1) (l.0 ∷ here i) (here i)) ∙ ap (λ k. cond (k == l.1) (l.0 ∷ without a (users_of ls v)) (without a (users_of ls v)))
    (sym (number_eq v u f))
    ∙ (λ i. cond (v == l.1) (sym past i) (without a (users_of ls v))) ∙ sym (cond_lift (without a) (v == l.1) (l.0 ∷ users_of ls v) (users_of ls v))
    ∙ sym (ap (λ y. cond y (without a (users_of (l ∷ ls) v)) (users_of (l ∷ ls) u)) f))
    (λ f.
    let here : with_at v (without a (users_of ls v)) (users_of ls) u ≡ users_of ls u =
    ap (λ y. cond y (without a (users_of ls v)) (users_of ls u)) f in
    (λ i. cond (u == l.1) (l.0 ∷ here i) (here i)) ∙ sym (ap (λ y. cond y (without a (users_of (l ∷ ls) v)) (users_of (l ∷ ls) u)) f))

popped_users : (a : ℕ) (ls : List Link) → AreOnce ls → (u : ℕ)
    → users_of (without_first a ls) u ≡ left_by a (first_in (chain_of ls a)) (users_of ls) u
popped_users a [] o u = refl
popped_users a (l ∷ ls) o u =
    either (users_of (without_first a (l ∷ ls)) u ≡ left_by a (first_in (chain_of (l ∷ ls) a)) (users_of (l ∷ ls)) u) (a == l.0)
    (λ e.
    let absent : is_in a (users_of ls l.1) ≡ false = ap (λ k. is_in k (users_of ls l.1)) (sym (number_eq l.0 a e)) ∙ sym (dual ls l.0 l.1) ∙ o.0 in
    let goal : users_of ls u ≡ with_at l.1 (without a (users_of (l ∷ ls) l.1)) (users_of (l ∷ ls)) u =
    either (users_of ls u ≡ with_at l.1 (without a (users_of (l ∷ ls) l.1)) (users_of (l ∷ ls)) u) (u == l.1)
    (λ f.
    let mine : users_of (l ∷ ls) l.1 ≡ l.0 ∷ users_of ls l.1 = ap (λ y. cond y (l.0 ∷ users_of ls l.1) (users_of ls l.1)) (same_number l.1) in
    let gone : without a (l.0 ∷ users_of ls l.1) ≡ users_of ls l.1 =
    ap (λ y. cond (not y) (l.0 ∷ without a (users_of ls l.1)) (without a (users_of ls l.1))) e
    ∙ without_none a (users_of ls l.1) absent in
    ap (users_of ls) (sym (number_eq l.1 u f)) ∙ sym (ap (without a) mine ∙ gone)
    ∙ sym (ap (λ y. cond y (without a (users_of (l ∷ ls) l.1)) (users_of (l ∷ ls) u)) f))
    (λ f. sym (ap (λ y. cond y (without a (users_of (l ∷ ls) l.1)) (users_of (l ∷ ls) u)) f
    ∙ ap (λ y. cond y (l.0 ∷ users_of ls u) (users_of ls u)) f)) in
    ap (λ y. users_of (cond y ls (l ∷ without_first a ls)) u) e ∙ goal
    ∙ sym (ap (λ y. left_by a (first_in (cond y (l.1 ∷ chain_of ls a) (chain_of ls a))) (users_of (l ∷ ls)) u) e))
    (λ e.
    ap (λ y. users_of (cond y ls (l ∷ without_first a ls)) u) e ∙ (λ i. cond (u == l.1) (l.0 ∷ popped_users a ls o.1 u i) (popped_users a ls o.1 u i))
    ∙ passed_by a (first_in (chain_of ls a)) l ls u e
    ∙ sym (ap (λ y. left_by a (first_in (cond y (l.1 ∷ chain_of ls a) (chain_of ls a))) (users_of (l ∷ ls)) u) e))

pub users_popped : (a : ℕ) (ls : List Link) → AreOnce ls → users_of (without_first a ls) ≡ left_by a (first_in (chain_of ls a)) (users_of ls)
users_popped a ls o = λ i u. popped_users a ls o u i

-- an area that is linked to none of the others leaves them alone
pub left_all : (ls : List Link) (a v : ℕ) → left_by_all a (chain_of ls a) (users_of ls) v ≡ without a (users_of ls v)
left_all ls a v = either (cond (is_in v (chain_of ls a)) (without a (users_of ls v)) (users_of ls v) ≡ without a (users_of ls v))
    (is_in v (chain_of ls a))
    (λ e. ap (λ y. cond y (without a (users_of ls v)) (users_of ls v)) e)
    (λ e. ap (λ y. cond y (without a (users_of ls v)) (users_of ls v)) e ∙ sym (without_none a (users_of ls v) (sym (dual ls a v) ∙ e)))

-- ---- one link after another goes

pub with_at_same : {X : Type 0} (k : ℕ) (f : ℕ → X) → with_at k (f k) f ≡ f
with_at_same k f = λ i j. (either (cond (j == k) (f k) (f j) ≡ f j) (j == k) (λ e. ap (λ y. cond y (f k) (f j)) e ∙ ap f (number_eq k j e))
    (λ e. ap (λ y. cond y (f k) (f j)) e)) i

pub with_at_twice : {X : Type 0} (k : ℕ) (x y : X) (f : ℕ → X) → with_at k x (with_at k y f) ≡ with_at k x f
with_at_twice k x y f = λ i j. (either (cond (j == k) x (cond (j == k) y (f j)) ≡ cond (j == k) x (f j)) (j == k)
    (λ e. ap (λ t. cond t x (cond (j == k) y (f j))) e ∙ sym (ap (λ t. cond t x (f j)) e))
    (λ e. ap (λ t. cond t x (cond t y (f j))) e ∙ sym (ap (λ t. cond t x (f j)) e))) i

pub with_at_here : (k : ℕ) (x : List ℕ) (f : ℕ → List ℕ) → with_at k x f k ≡ x
with_at_here k x f = ap (λ y. cond y x (f k)) (same_number k)

or_nothing : (x : Bool) → (x || (false || false)) ≡ x
or_nothing true = refl
or_nothing false = refl

or_anyway : (x : Bool) → (x || (true || false)) ≡ true
or_anyway true = refl
or_anyway false = refl

pub left_one_more : (a : ℕ) (gone : List ℕ) (v : ℕ) (f : ℕ → List ℕ) → left_by a (Some v) (left_by_all a gone f) ≡ left_by_all a (gone ++ v ∷ []) f
left_one_more a gone v f =
    λ i u. (either (with_at v (without a (left_by_all a gone f v)) (left_by_all a gone f) u ≡ left_by_all a (gone ++ v ∷ []) f u)
    (u == v)
    (λ e.
    let mine : without a (left_by_all a gone f v) ≡ without a (f v) = cond_lift (without a) (is_in v gone) (without a (f v)) (f v)
    ∙ (λ j. cond (is_in v gone) (without_twice a (f v) j) (without a (f v))) ∙ cond_same (is_in v gone) (without a (f v)) in
    let there : is_in u (gone ++ v ∷ []) ≡ true = is_in_append u gone (v ∷ []) ∙ ap (λ y. is_in u gone || (y || false)) e
    ∙ or_anyway (is_in u gone) in
    ap (λ y. cond y (without a (left_by_all a gone f v)) (left_by_all a gone f u)) e ∙ mine ∙ ap (λ k. without a (f k)) (number_eq v u e)
    ∙ sym (ap (λ y. cond y (without a (f u)) (f u)) there))
    (λ e.
    let same : is_in u (gone ++ v ∷ []) ≡ is_in u gone = is_in_append u gone (v ∷ []) ∙ ap (λ y. is_in u gone || (y || false)) e
    ∙ or_nothing (is_in u gone) in
    ap (λ y. cond y (without a (left_by_all a gone f v)) (left_by_all a gone f u)) e ∙ sym (ap (λ y. cond y (without a (f u)) (f u)) same))) i

pub first_none : (xs : List ℕ) → None ≡ first_in xs → xs ≡ []
first_none [] e = refl
first_none (x ∷ xs) e = cc

pub first_some : (xs : List ℕ) (v : ℕ) → Some v ≡ first_in xs → xs ≡ v ∷ rest_in xs
first_some [] v e = cc
first_some (x ∷ xs) v e = let is : v ≡ x = cc in ap (λ y. y ∷ xs) (sym is)

-- ---- answers

pub on_ok : {X E P Q : Type 0} (r : Result X E) → (P → Q) → OnOk r P → OnOk r Q
on_ok (Ok x) f p = f p
on_ok (Err e) f p = p

pub on_err : {X E P : Type 0} (r : Result X E) → P → OnErr r P
on_err (Ok x) p = tt
on_err (Err e) p = p
