-- What is shown of the counts of a swap area.
use Rattle.std.specs.Prelude.{◌≡◌, ℕ, ◌<◌, ◌^◌, Bool, true, false, ◌&&◌, ◌==◌, nat_lt}
use Rattle.std.specs.Prelude.{if◌then◌else◌, List, length, slice_index, Option, None}
use Rattle.av_base.specs.Words.{is_in, with_at}
use Rattle.std.specs.Ordering.{nat_cmp}
use Rattle.std.specs.Map.{lookup}
use Rattle.std.specs.BTreeMap.{is_at}
use Rattle.av_swapmap.specs.Digits.{byte_of, further_of, cached_of, count_of}

-- the value of `Counts`: a byte for each slot, and continuation digits by slot
pub record Store : Type 0 where
  pub bytes : List ℕ
  pub more : List (ℕ × List ℕ)

-- the continuation digits of a slot, where it has any
abbrev pub more_at : List (ℕ × List ℕ) → ℕ → Option (List ℕ)
more_at more p = lookup (is_at (nat_cmp p)) more

-- how many slots there are; of each, whether it is bad, whether the swap cache holds it, and how
-- many entries name it
pub record Shown : Type 0 where
  pub pages : ℕ
  pub bad : ℕ → Bool
  pub cached : ℕ → Bool
  pub count : ℕ → ℕ

-- what bytes and digits say of each slot
abbrev pub shown : Store → Shown
shown s = record {
  pages = length s.bytes;
  bad = λ p. slice_index s.bytes p == 63;
  cached = λ p. cached_of (slice_index s.bytes p);
  count = λ p. count_of (slice_index s.bytes p) (more_at s.more p);
}

-- slots that no entry names and the swap cache doesn't hold, some of them bad
abbrev pub fresh : ℕ → List ℕ → Shown
fresh pages bad = record {
  pages = pages;
  bad = λ p. nat_lt p pages && is_in p bad;
  cached = λ p. false;
  count = λ p. 0;
}

-- what is shown, with the count or the flag of one slot changed
abbrev pub with_count : ℕ → ℕ → Shown → Shown
with_count p n s = record s { count = with_at p n s.count }

abbrev pub with_cached : ℕ → Bool → Shown → Shown
with_cached p cached s = record s { cached = with_at p cached s.cached }

-- the byte of a slot
abbrev pub byte_at : Shown → ℕ → ℕ
byte_at s p = if s.bad p then 63 else byte_of (s.count p) (s.cached p)

-- a byte and continuation digits are those of the count that they stand for
pub record IsSlot (byte : ℕ) (more : Option (List ℕ)) : Type 0 where
  pub fits : count_of byte more < 2 ^ 32
  pub byte_is : (if byte == 63 then 63 else byte_of (count_of byte more) (cached_of byte)) ≡ byte
  pub more_is : more ≡ further_of (count_of byte more)
  pub bad_has_none : (byte == 63) ≡ true → more ≡ None

-- each slot is kept so
pub record IsWhole (all : List ℕ) (further : List (ℕ × List ℕ)) : Type 0 where
  pub few : length all < 2 ^ 32
  pub slots : (p : ℕ) → IsSlot (slice_index all p) (more_at further p)
