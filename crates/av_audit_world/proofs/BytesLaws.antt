-- The bytes of a process's pages, as they are read and written.
use Rattle.std.proofs.Common.{◌≡◌, ◌⊎◌, inl, inr, ℕ, zero, suc, ◌+◌, ◌-◌, ◌*◌, ◌/◌, ◌%◌, ◌<◌, ◌≤◌, Bool, true, false, cond, ◌&&◌, ◌==◌, List, [], ◌∷◌, ◌++◌, length, get_or, take, drop, replicate, map, min, Option, Some, None, refl, sym, ap, subst, ◌∙◌, arith, nat_le, nat_lt, append-nil, append_assoc, length-append}
use Rattle.std.specs.Prelude.{IfSome, option_and_then, slice_index}
use Rattle.std.specs.List.{range_with_len}
use Rattle.std.proofs.lemmas.Bool.Decides.{nat_tests}
use Rattle.std.proofs.lemmas.Bool.{cases_lt}
use Rattle.std.proofs.lemmas.List.{get_or_append_left, get_or-append_right, get_or-drop, get_or-replicate, get_or-take, get_or_past, length-drop, length-replicate, length-take-le, take_all}
use Rattle.std.proofs.lemmas.Grind.{same_number_lists}
use Rattle.std.proofs.lemmas.List.FromFn.{get_or-map-range_with_len, length-map-range_with_len}
use Rattle.std.specs.BTreeMap.{BTreeMap, get, is_at}
use Rattle.std.specs.Ordering.{nat_cmp}
use Rattle.av_base.specs.Page.{address_of, page_size}
use Rattle.av_base.specs.Words.{within}
use Rattle.av_plain.specs.Access.{after_write}
use Rattle.av_plain.specs.World.{Page, Process, Shows, World, byte_at, pages, set_process, with_bytes}
use Rattle.av_plain.proofs.World.TwoWrites.{with_bytes_twice}
use Rattle.av_audit_world.specs.Bytes.{overlaid}
use Rattle.av_audit_ranges.specs.Ranges.{marks_at}
use Rattle.av_audit_world.specs.Space.{IsPage, IsSpace, PageBytes, byte_in, bytes_in}
use Rattle.av_audit_ranges.specs.declared.marks.Marks.{Marks}
use Rattle.av_audit_world.specs.declared.space.Space.{Space}
use Rattle.av_audit_world.proofs.KeptLaws.{key-self, other-key}

-- ---- bytes of a vector

-- zeros behind bytes are what is read past their end
pub zeros-behind : (xs : List ℕ) (k i : ℕ) → slice_index (xs ++ replicate k 0) i ≡ slice_index xs i
zeros-behind [] zero i = refl
zeros-behind [] (suc k) zero = refl
zeros-behind [] (suc k) (suc i) = zeros-behind [] k i
zeros-behind (x ∷ xs) k zero = refl
zeros-behind (x ∷ xs) k (suc i) = zeros-behind xs k i

-- ---- a piece is laid over a page's bytes

one-laid : (o : Option Marks) (was now : ℕ → ℕ) (p : Option Page) (a page : ℕ) (piece : List ℕ) → IsPage o was p
    → ((i : ℕ) → i < page_size → now i ≡ cond (within a (length piece) (address_of page + i)) (slice_index piece (address_of page + i - a)) (was i))
    → IsPage o now (with_bytes (λ _. p) a piece page)
one-laid None was now None a page piece h e = tt
one-laid None was now (Some p) a page piece h e = absurd h
one-laid (Some k) was now None a page piece h e = absurd h
one-laid (Some k) was now (Some p) a page piece h e =
    (h.0, h.1, λ i low. by (within a (length piece) (address_of page + i)) i (h.2 i low) (e i low))
  where
    by : (b : Bool) (i : ℕ) → p.bytes i ≡ Some (was i) → now i ≡ cond b (slice_index piece (address_of page + i - a)) (was i)
        → cond b (Some (slice_index piece (address_of page + i - a))) (p.bytes i) ≡ Some (now i)
    by true i c e = ap Some (sym e)
    by false i c e = c ∙ ap Some (sym e)

pub pages-laid : (old new : Space) (q : Process) (page at : ℕ) (piece : List ℕ) → IsSpace old q → at + length piece ≤ page_size
    → new.ranges ≡ old.ranges
    → ((i : ℕ) → byte_in (get nat_cmp new.bytes page) i ≡ overlaid at piece (byte_in (get nat_cmp old.bytes page)) i)
    → ((other : ℕ) → (other == page) ≡ false → get nat_cmp new.bytes other ≡ get nat_cmp old.bytes other)
    → IsSpace new (with_bytes q (address_of page + at) piece)
pages-laid old new q page at piece h fits ranges here others = record {
  pages = λ x. subst (λ rs. IsPage (marks_at rs x) (byte_in (get nat_cmp new.bytes x)) (with_bytes q (address_of page + at) piece x)) (sym ranges)
      (one-laid (marks_at old.ranges x) (byte_in (get nat_cmp old.bytes x)) (byte_in (get nat_cmp new.bytes x)) (q x)
      (address_of page + at) x piece (h.pages x) (λ i low. by x i low (x == page) refl));
  top = λ x high. ap (λ p. with_bytes (λ _. p) (address_of page + at) piece x) (h.top x high);
}
  where
    same : (x : ℕ) → (x == page) ≡ true → x ≡ page
    same x e = grind (arith, nat_tests, e)

    moved : (at n page i : ℕ) → within (4096 * page + at) n (4096 * page + i) ≡ within at n i
    moved at n page i = λ k. nat_le_moved k && nat_lt_moved k
      where
        nat_le_moved : nat_le (4096 * page + at) (4096 * page + i) ≡ nat_le at i
        nat_le_moved = grind (arith, nat_tests)

        nat_lt_moved : nat_lt (4096 * page + i) (4096 * page + at + n) ≡ nat_lt i (at + n)
        nat_lt_moved = grind (arith, nat_tests)

    less : (at page i : ℕ) → 4096 * page + i - (4096 * page + at) ≡ i - at
    less at page i = omega arith

    outside : (x n i : ℕ) → (x == page) ≡ false → at + n ≤ 4096 → i < 4096 → within (4096 * page + at) n (4096 * x + i) ≡ false
    outside x n i other fits low = grind (arith, nat_tests, other, fits, low)

    by : (x i : ℕ) → i < page_size → (b : Bool) → (x == page) ≡ b
        → byte_in (get nat_cmp new.bytes x) i
        ≡ cond (within (4096 * page + at) (length piece) (4096 * x + i)) (slice_index piece (4096 * x + i - (4096 * page + at)))
        (byte_in (get nat_cmp old.bytes x) i)
    by x i low true e = subst (λ x. byte_in (get nat_cmp new.bytes x) i
        ≡ cond (within (4096 * page + at) (length piece) (4096 * x + i)) (slice_index piece (4096 * x + i - (4096 * page + at)))
        (byte_in (get nat_cmp old.bytes x) i)) (sym (same x e))
        (here i ∙ sym (λ k. cond (moved at (length piece) page i k) (slice_index piece (less at page i k))
        (byte_in (get nat_cmp old.bytes page) i)))
    by x i low false e = ap (λ o. byte_in o i) (others x e)
        ∙ sym (ap (λ b. cond b (slice_index piece (4096 * x + i - (4096 * page + at))) (byte_in (get nat_cmp old.bytes x) i))
        (outside x (length piece) i e fits low))

pub some-laid : (old new : BTreeMap ℕ PageBytes) (page at : ℕ) (piece : List ℕ) (o : Option PageBytes) (kept : PageBytes)
    → get nat_cmp old page ≡ o → ((q : ℕ) → get nat_cmp new q ≡ cond (is_at (nat_cmp page) q) (Some kept) (get nat_cmp old q))
    → ((i : ℕ) → slice_index kept.value.items i ≡ overlaid at piece (slice_index (bytes_in o)) i)
    → (i : ℕ) → byte_in (get nat_cmp new page) i ≡ overlaid at piece (byte_in (get nat_cmp old page)) i
some-laid old new page at piece o kept is put laid i =
    ap (λ o. byte_in o i) (put page ∙ ap (λ b. cond b (Some kept) (get nat_cmp old page)) (key-self page))
    ∙ laid i ∙ ap (λ o. overlaid at piece (byte_in o) i) (sym is)

-- bytes are put into what is the same as before
pub put-in : (old same new : BTreeMap ℕ PageBytes) (page : ℕ) (kept : PageBytes) → same ≡ old
    → ((q : ℕ) → get nat_cmp new q ≡ cond (is_at (nat_cmp page) q) (Some kept) (get nat_cmp same q))
    → (q : ℕ) → get nat_cmp new q ≡ cond (is_at (nat_cmp page) q) (Some kept) (get nat_cmp old q)
put-in old same new page kept is put q = put q ∙ ap (λ m. cond (is_at (nat_cmp page) q) (Some kept) (get nat_cmp m q)) is

pub others-laid : (old new : BTreeMap ℕ PageBytes) (page : ℕ) (kept : PageBytes)
    → ((q : ℕ) → get nat_cmp new q ≡ cond (is_at (nat_cmp page) q) (Some kept) (get nat_cmp old q))
    → (other : ℕ) → (other == page) ≡ false → get nat_cmp new other ≡ get nat_cmp old other
others-laid old new page kept put other differ = put other
    ∙ ap (λ b. cond b (Some kept) (get nat_cmp old other)) (other-key page other (λ e. not-same e (other == page) refl differ))
  where
    not-same : other ≡ page → (b : Bool) → (other == page) ≡ b → b ≡ false → ⊥
    not-same e true h g = cc
    not-same e false h g = let n = grind-same e in absurd (not-both (sym n ∙ h))
      where
        grind-same : other ≡ page → (other == page) ≡ true
        grind-same e = grind (arith, nat_tests, e)

        not-both : true ≡ false → ⊥
        not-both e = cc

-- ---- pieces in turn

-- no byte changes nothing
pub no-bytes : (q : Process) (a : ℕ) → with_bytes q a [] ≡ q
no-bytes q a = λ i page. by (q page) page i
  where
    none : (x : ℕ) → within a 0 x ≡ false
    none x = grind (arith, nat_tests)

    by : (o : Option Page) (page : ℕ) → with_bytes (λ _. o) a [] page ≡ o
    by None page = refl
    by (Some p) page = λ i. Some (record p { bytes = λ k. cond (none (address_of page + k) i) (Some (slice_index [] (address_of page + k - a))) (p.bytes k) })

-- a piece, and then the others, which begin on the next page, if there are any
pub pieces-written : (q : Process) (page at : ℕ) (piece others whole : List ℕ) → whole ≡ piece ++ others
    → (0 < length others → at + length piece ≡ 4096)
    → with_bytes (with_bytes q (4096 * page + at) piece) (4096 * (page + 1) + 0) others ≡ with_bytes q (4096 * page + at) whole
pieces-written q page at piece [] whole is ends =
    no-bytes (with_bytes q (4096 * page + at) piece) (4096 * (page + 1) + 0)
    ∙ ap (with_bytes q (4096 * page + at)) (sym (append-nil piece) ∙ sym is)
pieces-written q page at piece (b ∷ others) whole is ends =
    let end : at + length piece ≡ 4096 = ends (omega arith) in
    let next : 4096 * (page + 1) + 0 ≡ 4096 * page + at + length piece = omega (arith, end) in
    ap (λ a. with_bytes (with_bytes q (4096 * page + at) piece) a (b ∷ others)) next
    ∙ with_bytes_twice q (4096 * page + at) piece (b ∷ others)
    ∙ ap (with_bytes q (4096 * page + at)) (sym is)

-- ---- what is shown

pub shows-append : (q : Process) (a : ℕ) (xs ys : List ℕ) → Shows q a xs → Shows q (a + length xs) ys → Shows q a (xs ++ ys)
shows-append q a [] ys h g = subst (λ b. Shows q b ys) (let same : a + 0 ≡ a = omega arith in same) g
shows-append q a (x ∷ xs) ys h g = (
  h.0,
  shows-append q (a + 1) xs ys h.1
      (subst (λ b. Shows q b ys) (let same : a + suc (length xs) ≡ (a + 1) + length xs = omega arith in same) g),
)

-- a part of a page shows what is kept of it
pub page-shown : (s : Space) (q : Process) (page at n : ℕ) → IsSpace s q → at + n ≤ page_size
    → Shows q (4096 * page + at) (map (byte_in (get nat_cmp s.bytes page)) (range_with_len at n))
page-shown s q page at zero h fits = tt
page-shown s q page at (suc n) h fits = (
  subst (λ o. IfSome o (λ claimed. claimed ≡ byte_in (get nat_cmp s.bytes page) at)) (sym there)
      (first (marks_at s.ranges page) (q page) (h.pages page)),
  subst (λ a. Shows q a (map (byte_in (get nat_cmp s.bytes page)) (range_with_len (at + 1) n))) next
      (page-shown s q page (at + 1) n h (omega (arith, fits))),
)
  where
    next : 4096 * page + (at + 1) ≡ 4096 * page + at + 1
    next = omega arith

    low : at < 4096
    low = omega (arith, fits)

    of : (4096 * page + at) / 4096 ≡ page
    of = omega (arith, low)

    place : (4096 * page + at) % 4096 ≡ at
    place = omega (arith, low)

    there : byte_at q (4096 * page + at) ≡ option_and_then (λ (p : Page). p.bytes at) (q page)
    there = λ i. option_and_then (λ (p : Page). p.bytes (place i)) (q (of i))

    first : (o : Option Marks) (p : Option Page) → IsPage o (byte_in (get nat_cmp s.bytes page)) p
        → IfSome (option_and_then (λ (p : Page). p.bytes at) p) (λ claimed. claimed ≡ byte_in (get nat_cmp s.bytes page) at)
    first o None h = tt
    first None (Some p) h = absurd h
    first (Some k) (Some p) h = subst (λ o. IfSome o (λ claimed. claimed ≡ byte_in (get nat_cmp s.bytes page) at)) (sym (h.2 at low)) refl

-- the bytes from a place on, and zeros behind them
part-shown : (kept : List ℕ) (at n a k : ℕ) → a ≡ min at (length kept) → k ≡ min (at + n) (length kept) - a
    → take k (drop a kept) ++ replicate (n - k) 0 ≡ map (slice_index kept) (range_with_len at n)
part-shown kept at n a k from is =
    same_number_lists (take k (drop a kept) ++ replicate (n - k) 0) (map (slice_index kept) (range_with_len at n))
    (whole ∙ sym (length-map-range_with_len (slice_index kept) at n)) (λ i low. each i (subst (λ m. i < m) whole low))
  where
    taken : length (take k (drop a kept)) ≡ k
    taken = length-take-le k (drop a kept) (subst (λ m. k ≤ m) (sym (length-drop a kept)) (omega (arith, from, is)))

    whole : length (take k (drop a kept) ++ replicate (n - k) 0) ≡ n
    whole = length-append (take k (drop a kept)) (replicate (n - k) 0) ∙ (λ i. taken i + length-replicate {A = ℕ} (n - k) 0 i)
        ∙ (let e : k + (n - k) ≡ n = omega (arith, from, is) in e)

    each : (i : ℕ) → i < n → get_or (take k (drop a kept) ++ replicate (n - k) 0) i 0 ≡ get_or (map (slice_index kept) (range_with_len at n)) i 0
    each i low = by (cases_lt i k) ∙ sym (get_or-map-range_with_len (slice_index kept) at n i (at + i) 0 low refl)
      where
        by : (i < k) ⊎ (k ≤ i) → get_or (take k (drop a kept) ++ replicate (n - k) 0) i 0 ≡ get_or kept (at + i) 0
        by (inl lt) =
            get_or_append_left (take k (drop a kept)) (replicate (n - k) 0) 0 i (subst (λ m. i < m) (sym taken) lt)
            ∙ get_or-take k (drop a kept) i 0 lt ∙ get_or-drop a kept i 0
            ∙ ap (λ j. get_or kept j 0) (let e : a + i ≡ at + i = omega (arith, from, is, lt) in e)
        by (inr ge) =
            get_or-append_right (take k (drop a kept)) (replicate (n - k) 0) k i 0 taken ge
            ∙ get_or-replicate (n - k) (i - k) 0 0 (omega (arith, low, ge))
            ∙ sym (get_or_past kept (at + i) 0 (omega (arith, from, is, ge, low)))

pub shown-more : (old ext new kept : List ℕ) (at n a b end room : ℕ) → a ≡ min at (length kept) → b ≡ min (at + n) (length kept)
    → ext ≡ old ++ take (b - a) (drop a kept) → new ≡ take end ext ++ replicate (end - room) 0 → room ≡ length ext
    → end ≡ length old + n → new ≡ old ++ map (slice_index kept) (range_with_len at n)
shown-more old ext new kept at n a b end room from to whole is size long =
    is ∙ (λ i. take_all end ext fits i ++ replicate (rest i) 0)
    ∙ ap (λ r. r ++ replicate (n - (b - a)) 0) whole
    ∙ append_assoc old (take (b - a) (drop a kept)) (replicate (n - (b - a)) 0)
    ∙ ap (λ r. old ++ r) (part-shown kept at n a (b - a) from (ap (λ x. x - a) to))
  where
    taken : length (take (b - a) (drop a kept)) ≡ b - a
    taken = length-take-le (b - a) (drop a kept) (subst (λ m. b - a ≤ m) (sym (length-drop a kept)) (omega (arith, from, to)))

    size_of : length ext ≡ length old + (b - a)
    size_of = ap length whole ∙ length-append old (take (b - a) (drop a kept)) ∙ ap (λ x. length old + x) taken

    fits : length ext ≤ end
    fits = omega (arith, size_of, long, from, to)

    rest : end - room ≡ n - (b - a)
    rest = omega (arith, size, size_of, long, from, to)

-- ---- bytes that are stored

-- a write of some bytes
pub stored-some : (w : World) (p a : ℕ) (bytes : List ℕ) → 0 < length bytes
    → after_write w p a bytes ≡ set_process w p (with_bytes (pages w p) a bytes)
stored-some w p a [] some = absurd (omega (arith, some))
stored-some w p a (b ∷ bytes) some = refl
