-- What is shown of the frames after one page changes, and after one gives its place to another.
use Rattle.std.proofs.Common.{◌≡◌, ℕ, zero, suc, ◌<◌, Bool, true, false, cond, List, [], length, get_or, slice_set, replicate, None, Option, refl, sym, ap, ◌∙◌, arith, ◌==◌, length-set, get_or-set_same, get_or-set_other}
use Rattle.std.proofs.lemmas.List.{length-replicate}
use Rattle.std.proofs.lemmas.Bool.Decides.{nat_tests}
use Rattle.std.specs.List.{range_with_len}
use Rattle.av_base.specs.declared.slot.Slot.{Slot}
use Rattle.av_base.specs.Words.{with_at, is_in, without}
use Rattle.av_base.proofs.Without.{count-without}
use Rattle.av_frames.specs.Store.{Store, Shown, shown, fresh, relocated, with_bytes, with_maps, with_locks, with_home, with_dirty, with_slot}
use Rattle.av_frames.proofs.Free.{none_in, not_in}

-- the bytes of frames by functions, after one is replaced
pub laid : (pages : List (List ℕ)) (f : ℕ) (page : List ℕ) (new : ℕ → ℕ) → f < length pages → ((i : ℕ) → get_or page i 0 ≡ new i)
    → ◌≡◌ {A = ℕ → ℕ → ℕ} (λ g i. get_or (get_or (slice_set pages f page) g []) i 0) (with_at f new (λ g i. get_or (get_or pages g []) i 0))
laid pages f page new below same = λ k g i. point g i (g == f) refl k
  where
    point : (g i : ℕ) (b : Bool) → (g == f) ≡ b
        → get_or (get_or (slice_set pages f page) g []) i 0 ≡ cond (g == f) new (λ j. get_or (get_or pages g []) j 0) i
    point g i true e = let is : g ≡ f = grind (arith, nat_tests) in
        ap (λ x. get_or (get_or (slice_set pages f page) x []) i 0) is ∙ ap (λ x. get_or x i 0) (get_or-set_same pages f page [] below) ∙ same i
        ∙ sym (ap (λ b. cond b new (λ j. get_or (get_or pages g []) j 0) i) e)
    point g i false e = let ne : g ≡ f → ⊥ = grind (arith, nat_tests) in
        ap (λ x. get_or x i 0) (get_or-set_other pages f g page [] ne) ∙ sym (ap (λ b. cond b new (λ j. get_or (get_or pages g []) j 0) i) e)

pub seen_laid : (s : Store) (f : ℕ) (page : List ℕ) (new : ℕ → ℕ) → f < length s.bytes → ((i : ℕ) → get_or page i 0 ≡ new i)
    → shown (record s { bytes = slice_set s.bytes f page }) ≡ record (shown s) { bytes = with_at f new (shown s).bytes }
seen_laid s f page new below same = λ k. record (shown s) { count = length-set s.bytes f page k; bytes = laid s.bytes f page new below same k }

pub zeros : (n i : ℕ) → ◌≡◌ {A = ℕ} (get_or (replicate n 0) i 0) 0
zeros zero i = refl
zeros (suc n) zero = refl
zeros (suc n) (suc i) = zeros n i

-- ---- frames that are all free

pub same_value : {X : Type 0} (n i : ℕ) (x : X) → get_or (replicate n x) i x ≡ x
same_value zero i x = refl
same_value (suc n) zero x = refl
same_value (suc n) (suc i) x = same_value n i x

pub seen_fresh : (n : ℕ) → shown (record {
  free = range_with_len 0 n;
  bytes = replicate n (replicate {A = ℕ} 4096 0);
  maps = replicate {A = ℕ} n 0;
  locks = replicate {A = ℕ} n 0;
  homes = replicate n None;
  dirty = replicate n false;
  slots = replicate n None;
}) ≡ fresh n
seen_fresh n = λ k. record {
  count = length-replicate n (replicate {A = ℕ} 4096 0) k;
  free = range_with_len 0 n;
  bytes = λ f i. page_of f i k;
  maps = λ f. same_value n f 0 k;
  locks = λ f. same_value n f 0 k;
  home = λ f. same_value n f None k;
  dirty = λ f. same_value n f false k;
  slot = λ f. same_value n f None k;
}
  where
    pages_of : (n f i : ℕ) → ◌≡◌ {A = ℕ} (get_or (get_or (replicate n (replicate {A = ℕ} 4096 0)) f []) i 0) 0
    pages_of zero f i = refl
    pages_of (suc n) zero i = zeros 4096 i
    pages_of (suc n) (suc f) i = pages_of n f i

    page_of : (f i : ℕ) → ◌≡◌ {A = ℕ} (get_or (get_or (replicate n (replicate {A = ℕ} 4096 0)) f []) i 0) 0
    page_of f i = pages_of n f i

-- ---- without a frame

pub absent_without : (f g : ℕ) (fs : List ℕ) → is_in f fs ≡ false → is_in f (without g fs) ≡ false
absent_without f g fs h = not_in f (without g fs) (count-without g f fs ∙ ap (λ n. cond (f == g) 0 n) (none_in f fs h) ∙ by (f == g))
  where
    by : (b : Bool) → ◌≡◌ {A = ℕ} (cond b 0 0) 0
    by true = refl
    by false = refl

-- ---- what is kept goes to another frame, field by field

pub relocates : (from to maps locks : ℕ) (home : Option (ℕ × ℕ)) (dirty : Bool) (slot : Option Slot) (s0 s1 s2 s3 s4 s5 s6 s7 s8 s9 s10 : Shown)
    → s1 ≡ record s0 { free = without to s0.free } → s2 ≡ with_bytes to (s1.bytes from) s1
    → home ≡ s2.home from → s3 ≡ with_home to home s2
    → dirty ≡ s3.dirty from → s4 ≡ with_dirty to dirty s3
    → maps ≡ s4.maps from → s5 ≡ with_maps to maps s4 → s6 ≡ with_maps from 0 s5
    → locks ≡ s6.locks from → s7 ≡ with_locks to locks s6 → s8 ≡ with_locks from 0 s7
    → slot ≡ s8.slot from → s9 ≡ with_slot to slot s8 → s10 ≡ with_slot from None s9
    → s10 ≡ record (relocated from to s0) { free = without to s0.free }
relocates from to maps locks home dirty slot s0 s1 s2 s3 s4 s5 s6 s7 s8 s9 s10 e1 e2 h e3 d e4 m e5 e6 k e7 e8 l e9 e10 =
    e10 ∙ ap (with_slot from None) (e9 ∙ ap (λ x. with_slot to x s8) l ∙ ap (λ (s : Shown). with_slot to (s.slot from) s)
    (e8 ∙ ap (with_locks from 0) (e7 ∙ ap (λ x. with_locks to x s6) k ∙ ap (λ (s : Shown). with_locks to (s.locks from) s)
    (e6 ∙ ap (with_maps from 0) (e5 ∙ ap (λ x. with_maps to x s4) m ∙ ap (λ (s : Shown). with_maps to (s.maps from) s)
    (e4 ∙ ap (λ x. with_dirty to x s3) d ∙ ap (λ (s : Shown). with_dirty to (s.dirty from) s)
    (e3 ∙ ap (λ x. with_home to x s2) h ∙ ap (λ (s : Shown). with_home to (s.home from) s)
    (e2 ∙ ap (λ (s : Shown). with_bytes to (s.bytes from) s) e1))))))))
