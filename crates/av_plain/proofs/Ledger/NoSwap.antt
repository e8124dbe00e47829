-- Laws of keys, and of a ledger in which no slot is cached.
use Rattle.std.proofs.Common.{◌≡◌, ◌≢◌, ℕ, zero, suc, ◌+◌, ◌*◌, ◌/◌, ◌<◌, ◌≤◌, Bool, true, false, ◌&&◌, ◌||◌, List, [], None, is_none, option_map, refl, sym, ap, ◌∙◌, arith, ◌==◌, nat_lt}
use Rattle.std.proofs.lemmas.Bool.Decides.{nat_tests}
use Rattle.std.proofs.lemmas.Bool.{false≢true}
use Rattle.std.specs.List.{list_any, range_with_len}
use Rattle.av_base.specs.Keys.{Key, same_key}
use Rattle.av_base.specs.Words.{is_in}
use Rattle.av_base.specs.Page.{address_of}
use Rattle.av_plain.specs.Ledger.{Ledger, Setting, Cached, map_count, is_free, has_free, slot_of, cached_by}
use Rattle.av_plain.specs.Event.{key_at}
use Rattle.av_plain.specs.Fault.{asks_copy, is_named}
use Rattle.av_plain.specs.Ledger.{is_merged}

pub itself : (f : ℕ) → (f == f) ≡ true
itself f = grind (arith, nat_tests)

-- a note's address of a page leads to the page's key
pub key_at-page : (p page : ℕ) → ◌≡◌ {A = Key} (key_at p (4096 * page)) (p, page)
key_at-page p page = ap (λ n. (p, n)) (back page)
  where
    back : (n : ℕ) → (4096 * n) / 4096 ≡ n
    back n = omega arith

pub key_at-address : (k : Key) → key_at k.0 (address_of k.1) ≡ k
key_at-address k = key_at-page k.0 k.1

pub key_is : (q o p page : ℕ) → same_key (q, o) (p, page) ≡ (q == p && o == page)
key_is q o p page = grind (arith, nat_tests)

pub zero_is : (n : ℕ) → (n == 0) ≡ true → n ≡ 0
zero_is n e = grind (arith, nat_tests)

-- ---- some of the numbers of a range

pub some_of : (test : ℕ → Bool) (a n f : ℕ) → a ≤ f → f < a + n → test f ≡ true → list_any test (range_with_len a n) ≡ true
some_of test a zero f low high is = absurd (omega (arith, low, high))
some_of test a (suc n) f low high is = elim (test a) as (λ b. test a ≡ b → (b || list_any test (range_with_len (a + 1) n)) ≡ true) [
  | true ↦ λ _. refl
  | false ↦ λ e. some_of test (a + 1) n f (let ne : a ≢ f = λ same. false≢true (sym e ∙ ap test same ∙ is) in omega (arith, low, ne))
      (omega (arith, high)) is
] refl

pub none_of : (test : ℕ → Bool) (a n f : ℕ) → a ≤ f → f < a + n → list_any test (range_with_len a n) ≡ false → test f ≡ false
none_of test a n f low high none = elim (test f) as (λ b. test f ≡ b → b ≡ false) [
  | true ↦ λ e. absurd (false≢true (sym none ∙ some_of test a n f low high e))
  | false ↦ λ _. refl
] refl

pub is_in-numbers : (a n f : ℕ) → a ≤ f → f < a + n → is_in f (range_with_len a n) ≡ true
is_in-numbers a n f low high = some_of (λ g. f == g) a n f low high (itself f)

-- a free frame in range is one
pub has_free-some : (m : Setting) (l : Ledger) (f : ℕ) → f < m.frames → is_free l f ≡ true → has_free m l ≡ true
has_free-some m l f below is = some_of (is_free l) 0 m.frames f (omega arith) (omega (arith, below)) is

pub has_free-none : (m : Setting) (l : Ledger) (f : ℕ) → has_free m l ≡ false → f < m.frames → is_free l f ≡ false
has_free-none m l f none below = none_of (is_free l) 0 m.frames f (omega arith) (omega (arith, below)) none

-- ---- no slot is cached

pub no_slot : (l : Ledger) (f : ℕ) → l.cache ≡ [] → slot_of l f ≡ None
no_slot l f none = ap (λ (c : List Cached). option_map (λ (c : Cached). c.slot) (cached_by (λ c. f == c.frame) c)) none

pub free_is : (l : Ledger) (f : ℕ) → l.cache ≡ [] → is_free l f ≡ (map_count l f == 0)
free_is l f none = ap (λ o. map_count l f == 0 && is_none o) (no_slot l f none) ∙ both (map_count l f == 0)
  where
    both : (b : Bool) → (b && true) ≡ b
    both true = refl
    both false = refl

pub shared_is : (l : Ledger) (f : ℕ) → l.cache ≡ [] → asks_copy l f ≡ (nat_lt 1 (map_count l f) || is_merged l f)
shared_is l f none = ap (λ o. nat_lt 1 (map_count l f) || is_named l o || is_merged l f) (no_slot l f none) ∙ either (nat_lt 1 (map_count l f))
  where
    either : (b : Bool) → (b || false || is_merged l f) ≡ (b || is_merged l f)
    either true = refl
    either false = refl
