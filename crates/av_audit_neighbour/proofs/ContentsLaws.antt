-- What frames hold is told by its bytes up to the last that isn't 0, so the first known frame that holds the same stands under them.
use Rattle.std.proofs.Common.{◌≡◌, ℕ, zero, suc, ◌+◌, ◌-◌, ◌<◌, Bool, append-nil, true, false, cond, ◌==◌, nat_lt, List, [], ◌∷◌, ◌++◌, filter, length, Option, Some, None, is_some, not, refl, sym, ap, subst, ◌∙◌, arith}
use Rattle.std.proofs.lemmas.Bool.{false≢true}
use Rattle.std.proofs.lemmas.Bool.Decides.{nat_tests}
use Rattle.std.proofs.lemmas.List.{ext_get_or, get_or_past}
use Rattle.std.proofs.lemmas.List.Elements.{filter-append}
use Rattle.std.proofs.lemmas.List.Folds.{find-append}
use Rattle.std.proofs.lemmas.Map.Text.{btree_map_updates_str}
use Rattle.std.proofs.lemmas.Slice.Eq.{bytes_eq-Decides}
use Rattle.std.specs.BTreeMap.{UpdatesBy}
use Rattle.std.specs.Cmp.Lexicographic.{slice_cmp}
use Rattle.std.specs.List.{list_all, range_with_len}
use Rattle.std.specs.Option.{option_or}
use Rattle.std.specs.Ordering.{nat_cmp}
use Rattle.std.specs.Prelude.{slice_index}
use Rattle.std.specs.Str.{bytes_eq}
use Rattle.av_base.specs.Page.{page_size}
use Rattle.av_plain.specs.Ledger.{Ledger, is_merged}
use Rattle.av_plain.specs.Merge.{FrameBytes, hold_same}
use Rattle.av_audit_neighbour.specs.Contents.{AreContent, AreKept}
use Rattle.av_audit_neighbour.specs.Known.{first_like}
use Rattle.av_audit_neighbour.specs.declared.contents.Contents.{Contents}
use Rattle.av_audit_neighbour.proofs.HeldLaws.{all-pass, each-passes, itself, same-lists, same-number}
use Rattle.av_audit_neighbour.proofs.Knowing.{first-as}

-- ---- bytes

-- the one has no byte that isn't 0 behind the other's end
no-longer : (p q : ℕ → ℕ) (xs ys : List ℕ) → AreContent p xs → AreContent q ys → ((i : ℕ) → i < page_size → p i ≡ q i) → length xs < length ys → ⊥
no-longer p q xs ys a b same shorter =
    b.ends (omega (arith, shorter)) (b.same (length ys - 1) low ∙ sym (same (length ys - 1) low) ∙ sym (a.same (length ys - 1) low)
    ∙ get_or_past xs (length ys - 1) 0 (omega (arith, shorter)))
  where
    low : length ys - 1 < page_size
    low = let most = b.fits in omega (arith, most, shorter)

-- the same at each place is the same bytes
one-content : (p q : ℕ → ℕ) (xs ys : List ℕ) → AreContent p xs → AreContent q ys → ((i : ℕ) → i < page_size → p i ≡ q i) → xs ≡ ys
one-content p q xs ys a b same = ext_get_or 0 xs ys (long (nat_lt (length xs) (length ys)) (nat_lt (length ys) (length xs)) refl refl)
    (λ i low. let below : i < page_size = (let most = a.fits in omega (arith, most, low)) in a.same i below ∙ same i below ∙ sym (b.same i below))
  where
    long : (c d : Bool) → nat_lt (length xs) (length ys) ≡ c → nat_lt (length ys) (length xs) ≡ d → length xs ≡ length ys
    long true d e f = absurd (no-longer p q xs ys a b same (grind (arith, nat_tests, e)))
    long false true e f = absurd (no-longer q p ys xs b a (λ i low. sym (same i low)) (grind (arith, nat_tests, f)))
    long false false e f = grind (arith, nat_tests, e, f)

-- so bytes compare as the places do
pub contents-compared : (p q : ℕ → ℕ) (xs ys : List ℕ) → AreContent p xs → AreContent q ys
    → bytes_eq xs ys ≡ list_all (λ i. p i == q i) (range_with_len 0 page_size)
contents-compared p q xs ys a b = by (bytes_eq xs ys) (list_all (λ i. p i == q i) (range_with_len 0 page_size)) refl refl
  where
    by : (c d : Bool) → bytes_eq xs ys ≡ c → list_all (λ i. p i == q i) (range_with_len 0 page_size) ≡ d → c ≡ d
    by true true e f = refl
    by false false e f = refl
    by true false e f = absurd (false≢true (sym f ∙ all-pass (λ i. p i == q i) 0 page_size (λ i low high.
        let below : i < page_size = omega (arith, high) in
        ap (λ n. n == q i) (sym (a.same i below) ∙ ap (λ zs. slice_index zs i) ((bytes_eq-Decides xs ys).0 e) ∙ b.same i below) ∙ itself (q i))))
    by false true e f = absurd (false≢true (sym e ∙ (bytes_eq-Decides xs ys).1 (one-content p q xs ys a b
        (λ i low. same-number (p i) (q i) (each-passes (λ i. p i == q i) 0 page_size f i (omega arith) (omega (arith, low)))))))

pub pages-compared : (one other a b xs ys : List ℕ) → one ≡ a → other ≡ b → AreContent (slice_index one) xs → AreContent (slice_index other) ys
    → bytes_eq xs ys ≡ list_all (λ i. slice_index a i == slice_index b i) (range_with_len 0 page_size)
pages-compared one other a b xs ys e f x y =
    contents-compared (slice_index one) (slice_index other) xs ys x y ∙ same-lists page_size one other a b e f

-- ---- what is kept

pub is-new : (o : Option ℕ) (none : Bool) → is_some o ≡ not none → none ≡ true → o ≡ None
is-new None none is e = refl
is-new (Some x) none is e = absurd (false≢true (sym (is ∙ ap not e)))

pub is-known : (o : Option ℕ) (none : Bool) → is_some o ≡ not none → none ≡ false → (x : ℕ) × (o ≡ Some x)
is-known None none is e = absurd (false≢true (is ∙ ap not e))
is-known (Some x) none is e = (x, refl)

-- one frame more is looked at behind the others
first-more : (held : FrameBytes) (known : List ℕ) (g f : ℕ)
    → first_like held (known ++ g ∷ []) f ≡ option_or (first_like held known f) (cond (hold_same held g f) (Some g) None)
first-more held known g f = find-append (λ x. hold_same held x f) known (g ∷ [])

no-other : (o : Option ℕ) → option_or o None ≡ o
no-other None = refl
no-other (Some x) = refl

-- where one is known that holds the same nothing is kept
pub kept-again : (held : FrameBytes) (known : List ℕ) (g x : ℕ) (c : Contents) → first_like held known g ≡ Some x → AreKept held known c
    → AreKept held (known ++ g ∷ []) c
kept-again held known g x c there kept f bytes are = kept f bytes are ∙ by (hold_same held g f) refl ∙ sym (first-more held known g f)
  where
    by : (b : Bool) → hold_same held g f ≡ b → first_like held known f ≡ option_or (first_like held known f) (cond b (Some g) None)
    by true e = let is = sym (first-as held g f e known) ∙ there in is ∙ ap (λ o. option_or o (Some g)) (sym is)
    by false e = sym (no-other (first_like held known f))

-- else this one is
pub kept-more : (held : FrameBytes) (known : List ℕ) (g : ℕ) (own : List ℕ) (old new : Contents) → first_like held known g ≡ None
    → AreContent (held g) own
    → UpdatesBy (λ x y. slice_cmp nat_cmp x.now y.now) (λ k. slice_cmp nat_cmp own k.now) old.by_bytes new.by_bytes (Some g)
    → AreKept held known old → AreKept held (known ++ g ∷ []) new
kept-more held known g own old new none content h kept f bytes are =
    btree_map_updates_str own old.by_bytes new.by_bytes (Some g) h bytes
    ∙ (λ i. cond (contents-compared (held g) (held f) own bytes content are i) (Some g) (kept f bytes are i))
    ∙ by (hold_same held g f) refl ∙ sym (first-more held known g f)
  where
    by : (b : Bool) → hold_same held g f ≡ b
        → cond b (Some g) (first_like held known f) ≡ option_or (first_like held known f) (cond b (Some g) None)
    by true e = ap (λ o. option_or o (Some g)) (sym (sym (first-as held g f e known) ∙ none))
    by false e = sym (no-other (first_like held known f))

-- ---- the merged frames, one after the other

range-more : (a n : ℕ) → range_with_len a (suc n) ≡ range_with_len a n ++ (a + n) ∷ []
range-more a zero = ap (λ x. x ∷ []) (let e : a ≡ a + 0 = omega arith in e)
range-more a (suc n) = ap (λ xs. a ∷ xs) (range-more (a + 1) n
    ∙ ap (λ x. range_with_len (a + 1) n ++ x ∷ []) (let e : (a + 1) + n ≡ a + suc n = omega arith in e))

filter-more : (p : ℕ → Bool) (n : ℕ) → filter p (range_with_len 0 (n + 1)) ≡ filter p (range_with_len 0 n) ++ cond (p n) (n ∷ []) []
filter-more p n = ap (λ k. filter p (range_with_len 0 k)) (let e : n + 1 ≡ suc n = omega arith in e)
    ∙ ap (filter p) (range-more 0 n ∙ ap (λ x. range_with_len 0 n ++ x ∷ []) (let e : 0 + n ≡ n = omega arith in e))
    ∙ filter-append p (range_with_len 0 n) (n ∷ [])

pub one-merged : (held : FrameBytes) (l : Ledger) (n : ℕ) (c : Contents) → is_merged l n ≡ true
    → AreKept held (filter (is_merged l) (range_with_len 0 n) ++ n ∷ []) c → AreKept held (filter (is_merged l) (range_with_len 0 (n + 1))) c
one-merged held l n c is kept = subst (λ known. AreKept held known c)
    (sym (filter-more (is_merged l) n ∙ ap (λ b. filter (is_merged l) (range_with_len 0 n) ++ cond b (n ∷ []) []) is)) kept

pub none-merged : (held : FrameBytes) (l : Ledger) (n : ℕ) (c : Contents) → is_merged l n ≡ false
    → AreKept held (filter (is_merged l) (range_with_len 0 n)) c → AreKept held (filter (is_merged l) (range_with_len 0 (n + 1))) c
none-merged held l n c is kept = subst (λ known. AreKept held known c)
    (sym (filter-more (is_merged l) n ∙ ap (λ b. filter (is_merged l) (range_with_len 0 n) ++ cond b (n ∷ []) []) is
    ∙ append-nil (filter (is_merged l) (range_with_len 0 n)))) kept
