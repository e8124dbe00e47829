-- What pages claim is what the memories keep of them.
use Rattle.std.proofs.Common.{◌≡◌, ℕ, zero, suc, ◌+◌, ◌<◌, ◌≤◌, Bool, true, false, ◌&&◌}
use Rattle.std.proofs.Common.{◌==◌, List, Option, Some, None, is_some, refl, sym, ap, subst, ◌∙◌, arith}
use Rattle.std.specs.Prelude.{IfSome, [], option_and_then, option_map, slice_index, unwrap_or}
use Rattle.std.specs.BTreeMap.{get}
use Rattle.std.specs.List.{list_all, range_with_len}
use Rattle.std.specs.Ordering.{nat_cmp}
use Rattle.std.proofs.lemmas.Bool.Decides.{nat_tests}
use Rattle.av_base.specs.Keys.{Key}
use Rattle.av_base.specs.Page.{page_size}
use Rattle.av_plain.specs.World.{Holds, Page, Process, World, pages, process}
use Rattle.av_audit_world.specs.Memories.{IsProcess, IsWorld}
use Rattle.av_audit_ranges.specs.Ranges.{marks_at as said_at}
use Rattle.av_audit_world.specs.Space.{IsPage, byte_in, bytes_in}
use Rattle.av_audit_world.specs.declared.memories.Memories.{Memories}
use Rattle.av_audit_ranges.specs.declared.marks.Marks.{Marks}
use Rattle.av_audit_world.specs.declared.space.Space.{Space}
use Rattle.av_audit_world.proofs.WorldLaws.{found, spaces-find}
use Rattle.av_audit_neighbour.specs.Held.{bytes_of_page}

-- ---- tests over a range

pub all-pass : (p : ℕ → Bool) (a n : ℕ) → ((x : ℕ) → a ≤ x → x < a + n → p x ≡ true) → list_all p (range_with_len a n) ≡ true
all-pass p a zero h = refl
all-pass p a (suc n) h =
    (λ i. h a (omega arith) (omega arith) i && all-pass p (a + 1) n (λ x low high. h x (omega (arith, low)) (omega (arith, high))) i)

pub one-fails : (p : ℕ → Bool) (a n y : ℕ) → a ≤ y → y < a + n → p y ≡ false → list_all p (range_with_len a n) ≡ false
one-fails p a zero y low high is = absurd (omega (arith, low, high))
one-fails p a (suc n) y low high is = by (y == a) refl (λ low'. one-fails p (a + 1) n y low' (omega (arith, high)) is)
  where
    neither : (b c : Bool) → c ≡ false → (b && c) ≡ false
    neither true c h = h
    neither false c h = refl

    by : (b : Bool) → (y == a) ≡ b → (a + 1 ≤ y → list_all p (range_with_len (a + 1) n) ≡ false) → (p a && list_all p (range_with_len (a + 1) n)) ≡ false
    by true e later = let same : y ≡ a = grind (arith, nat_tests, e) in
        ap (λ b. b && list_all p (range_with_len (a + 1) n)) (ap p (sym same) ∙ is)
    by false e later = neither (p a) _ (later (grind (arith, nat_tests, e, low)))

pub each-passes : (p : ℕ → Bool) (a n : ℕ) → list_all p (range_with_len a n) ≡ true → (x : ℕ) → a ≤ x → x < a + n → p x ≡ true
each-passes p a n h x low high = by (p x) refl
  where
    differ : false ≡ true → ⊥
    differ e = cc

    by : (b : Bool) → p x ≡ b → p x ≡ true
    by true e = e
    by false e = absurd (differ (sym (one-fails p a n x low high e) ∙ h))

pub itself : (n : ℕ) → (n == n) ≡ true
itself n = grind (arith, nat_tests)

pub same-number : (n k : ℕ) → (n == k) ≡ true → n ≡ k
same-number n k h = grind (arith, nat_tests, h)

-- ---- bytes

-- bytes are compared as those that they are
pub same-lists : (n : ℕ) (a b c d : List ℕ) → a ≡ c → b ≡ d
    → list_all (λ i. slice_index a i == slice_index b i) (range_with_len 0 n) ≡ list_all (λ i. slice_index c i == slice_index d i) (range_with_len 0 n)
same-lists n a b c d e f = λ j. list_all (λ i. slice_index (e j) i == slice_index (f j) i) (range_with_len 0 n)

page-claimed : (k : Option Marks) (at : ℕ → ℕ) (o : Option Page) (p : Page) → IsPage k at o → o ≡ Some p → (i : ℕ) → i < page_size → p.bytes i ≡ Some (at i)
page-claimed None at None p h is i low = cc
page-claimed None at (Some q) p h is i low = absurd h
page-claimed (Some k) at None p h is i low = absurd h
page-claimed (Some k) at (Some q) p h is i low = ap (λ (o : Option Page). by_of o i) (sym is) ∙ h.2 i low
  where
    by_of : Option Page → ℕ → Option ℕ
    by_of None i = None
    by_of (Some q) i = q.bytes i

-- a page claims each byte, as it is kept
pub page-claims : (memories : Memories) (w : World) (k : Key) → IsWorld memories w → (p : Page) → pages w k.0 k.1 ≡ Some p
    → (i : ℕ) → i < page_size → p.bytes i ≡ Some (slice_index (bytes_of_page memories k) i)
page-claims memories w k h p is i low = by (get nat_cmp memories.spaces k.0) refl
  where
    space : IsProcess (get nat_cmp memories.spaces k.0) (process w k.0)
    space = spaces-find memories.spaces.entries w k.0 h.spaces

    none : (q : Option Process) → IsProcess None q → option_and_then (λ (q : Process). q k.1) q ≡ Some p → ⊥
    none None h e = cc
    none (Some q) h e = absurd h

    by : (o : Option Space) → get nat_cmp memories.spaces k.0 ≡ o
        → p.bytes i ≡ Some (slice_index (unwrap_or
        (option_map (λ (s : Space). bytes_in (get nat_cmp s.bytes k.1)) (get nat_cmp memories.spaces k.0)) []) i)
    by None e = absurd (none (process w k.0) (subst (λ o. IsProcess o (process w k.0)) e space) is)
    by (Some s) e =
        let f = found (get nat_cmp memories.spaces k.0) w k.0 s space e in
        page-claimed (said_at s.ranges k.1) (byte_in (get nat_cmp s.bytes k.1)) (pages w k.0 k.1) p (f.1.pages k.1) is i low
        ∙ ap (λ (o : Option Space). Some (slice_index (unwrap_or
        (option_map (λ (s : Space). bytes_in (get nat_cmp s.bytes k.1)) o) []) i)) (sym e)

-- what holds what a page claims has its bytes
pub held-bytes : (memories : Memories) (w : World) (k : Key) (at : ℕ → ℕ) → IsWorld memories w → is_some (pages w k.0 k.1) ≡ true
    → Holds (pages w k.0 k.1) at → (i : ℕ) → i < page_size → at i ≡ slice_index (bytes_of_page memories k) i
held-bytes memories w k at h there holds i low = by (pages w k.0 k.1) refl there holds
  where
    of_byte : (o : Option ℕ) (x : ℕ) → o ≡ Some x → IfSome o (λ b. at i ≡ b) → at i ≡ x
    of_byte None x e a = cc
    of_byte (Some y) x e a = a ∙ inner e
      where
        inner : {y x : ℕ} → Some y ≡ Some x → y ≡ x
        inner e = cc

    by : (o : Option Page) → pages w k.0 k.1 ≡ o → is_some o ≡ true → Holds o at → at i ≡ slice_index (bytes_of_page memories k) i
    by None e there holds = cc
    by (Some p) e there holds = of_byte (p.bytes i) _ (page-claims memories w k h p e i low) (holds i low)

-- and what has them holds it
pub bytes-hold : (memories : Memories) (w : World) (k : Key) (at : ℕ → ℕ) → IsWorld memories w
    → ((i : ℕ) → i < page_size → at i ≡ slice_index (bytes_of_page memories k) i) → Holds (pages w k.0 k.1) at
bytes-hold memories w k at h same = by (pages w k.0 k.1) refl
  where
    of_byte : (i : ℕ) (o : Option ℕ) (x : ℕ) → o ≡ Some x → at i ≡ x → IfSome o (λ b. at i ≡ b)
    of_byte i o x e a = subst (λ o. IfSome o (λ b. at i ≡ b)) (sym e) a

    by : (o : Option Page) → pages w k.0 k.1 ≡ o → Holds o at
    by None e = tt
    by (Some p) e = λ i low. of_byte i (p.bytes i) _ (page-claims memories w k h p e i low) (same i low)
