-- The view after an entry is counted for a child, and after those of a run are.
use Rattle.std.proofs.Common.{◌≡◌, ℕ, suc, zero, ◌+◌, ◌^◌, ◌<◌, ◌≤◌, Bool, true, false, cond, ◌==◌, List, [], ◌∷◌, length, take, get_or, refl, sym, ap, subst, ◌∙◌, arith}
use Rattle.std.proofs.lemmas.Bool.Decides.{nat_tests}
use Rattle.std.specs.Prelude.{Option, is_some}
use Rattle.av_base.specs.Words.{how_many, with_at}
use Rattle.av_base.specs.declared.slot.Slot.{Slot}
use Rattle.av_pagetable.specs.declared.pte.Pte.{Pte}
use Rattle.av_pagetable.specs.declared.pte.Pte.TheVariants.{Away, Empty, Here, Zero}
use Rattle.av_plain.specs.Ledger.{Entry, names_frame, names_slot}
use Rattle.av_plain.specs.Stands.{View}
use Rattle.av_swapcache.specs.Swap.{same_slot, with_slot}
use Rattle.av_mem.specs.declared.mem.Mem.{Mem}
use Rattle.av_mem.specs.Entries.{HasRoomFor, IsInUse, entry_passes, view_more, view_more_each}
use Rattle.av_mem.specs.Mem.{frame_count, plain, view}
use Rattle.av_mem.proofs.MemLaws.{equal_is}

-- ---- one entry more

-- counts that are the same, each by each
pub by-counts : (v : View) (maps maps' : ℕ → ℕ) (entries entries' : Slot → ℕ) → ((f : ℕ) → maps f ≡ maps' f) → ((s : Slot) → entries s ≡ entries' s)
    → ◌≡◌ {A = View} (record v { maps = maps; entries = entries }) (record v { maps = maps'; entries = entries' })
by-counts v maps maps' entries entries' same same' = λ i. record v { maps = λ f. same f i; entries = λ s. same' s i }

pub no_more : (n : ℕ) → n ≡ n + 0
no_more n = omega arith

pub frame-up : (v : View) (f : ℕ) (write seen : Bool)
    → ◌≡◌ {A = View} (record v { maps = with_at f (v.maps f + 1) v.maps }) (view_more (Here f write seen) v)
frame-up v f write seen = by-counts v _ _ _ _ (λ g. by g (g == f) refl) (λ s. no_more (v.entries s))
  where
    by : (g : ℕ) (b : Bool) → (g == f) ≡ b → cond b (v.maps f + 1) (v.maps g) ≡ v.maps g + cond b 1 0
    by g true e = ap (λ f. v.maps f + 1) (sym (equal_is g f e))
    by g false e = no_more (v.maps g)

pub slot-up : (v : View) (s : Slot) → ◌≡◌ {A = View} (record v { entries = with_slot s (v.entries s + 1) v.entries }) (view_more (Away s) v)
slot-up v s = by-counts v _ _ _ _ (λ f. no_more (v.maps f)) (λ t. by t (same_slot t s) refl)
  where
    same : (t : Slot) → same_slot t s ≡ true → t ≡ s
    same t e = λ i. record { area = first i; page = second i }
      where
        first : t.area ≡ s.area
        first = grind (arith, nat_tests, e)

        second : t.page ≡ s.page
        second = grind (arith, nat_tests, e)

    by : (t : Slot) (b : Bool) → same_slot t s ≡ b → cond b (v.entries s + 1) (v.entries t) ≡ v.entries t + cond b 1 0
    by t true e = ap (λ s. v.entries s + 1) (sym (same t e))
    by t false e = no_more (v.entries t)

-- ---- the entries of a run

-- one entry more of a run
pub first-more : {X : Type 0} (test : X → Bool) (n : ℕ) (xs : List X) (x : X) → n < length xs →
    how_many test (take (suc n) xs) ≡ how_many test (take n xs) + cond (test (get_or xs n x)) 1 0
first-more test zero [] x h = absurd (omega (arith, h))
first-more test (suc n) [] x h = absurd (omega (arith, h))
first-more test zero (y ∷ ys) x h = let n = cond {A = ℕ} (test y) 1 0 in omega arith
first-more test (suc n) (y ∷ ys) x h = add (cond (test y) 1 0) _ _ _ (first-more test n ys x (omega (arith, h)))
  where
    add : (n a b c : ℕ) → a ≡ b + c → n + a ≡ n + b + c
    add n a b c h = omega (arith, h)

pub first-few : {X : Type 0} (test : X → Bool) (n : ℕ) (xs : List X) → how_many test (take n xs) ≤ n
first-few test zero xs = omega arith
first-few test (suc n) [] = omega arith
first-few test (suc n) (x ∷ xs) = by (test x) (first-few test n xs)
  where
    by : (b : Bool) → how_many test (take n xs) ≤ n → cond b 1 0 + how_many test (take n xs) ≤ suc n
    by true h = omega (arith, h)
    by false h = omega (arith, h)

pub one-up : (run : List Pte) (n : ℕ) (v : View) → n < length run
    → view_more (get_or run n Empty) (view_more_each (take n run) v) ≡ view_more_each (take (n + 1) run) v
one-up run n v within = by-counts v _ _ _ _ (λ f. joined (v.maps f) (names_frame f)) (λ s. joined (v.entries s) (names_slot s))
  where
    joined : (k : ℕ) (t : Entry → Bool)
        → k + how_many (λ e. entry_passes t (plain e)) (take n run) + cond (entry_passes t (plain (get_or run n Empty))) 1 0
        ≡ k + how_many (λ e. entry_passes t (plain e)) (take (n + 1) run)
    joined k t = add k (how_many (λ e. entry_passes t (plain e)) (take n run)) (cond (entry_passes t (plain (get_or run n Empty))) 1 0)
        ∙ ap (λ c. k + c) (sym (ap (λ k. how_many (λ e. entry_passes t (plain e)) (take k run)) (let next : n + 1 ≡ suc n = omega arith in next)
        ∙ first-more (λ e. entry_passes t (plain e)) n run Empty within))
      where
        add : (a b c : ℕ) → a + b + c ≡ a + (b + c)
        add a b c = omega arith

-- what is in use stays so while the counts grow
pub in-use-then : (old now : Mem) → frame_count now ≡ frame_count old → (view now).find ≡ (view old).find
    → ((s : Slot) → (view old).entries s ≤ (view now).entries s) → (e : Pte) → IsInUse old e → IsInUse now e
in-use-then old now count find grow Empty h = tt
in-use-then old now count find grow Zero h = tt
in-use-then old now count find grow (Here f write seen) h = omega (arith, count, h)
in-use-then old now count find grow (Away s) h =
    subst (λ o. 0 < (view now).entries s + cond (is_some o) 1 0) (sym (ap (λ (find : Slot → Option ℕ). find s) find))
    (let more = grow s in bigger _ _ _ more h)
  where
    bigger : (a b c : ℕ) → a ≤ b → 0 < a + c → 0 < b + c
    bigger a b c le h = omega (arith, le, h)

module _ (old now : Mem) (run : List Pte) (n : ℕ) (low : n < length run) (is : view now ≡ view_more_each (take n run) (view old)) where
  -- after some of them there is still room
  pub room-for-one : HasRoomFor old (length run) → HasRoomFor now 1
  room-for-one room = record {
    maps = λ f. less ((view now).maps f) _ _ (2 ^ 64) (ap (λ (v : View). v.maps f) is) (first-few _ n run) (room.maps f);
    entries = λ s. less ((view now).entries s) _ _ (2 ^ 32) (ap (λ (v : View). v.entries s) is) (first-few _ n run) (room.entries s);
  }
    where
      less : (a b k most : ℕ) → a ≡ b + k → k ≤ n → b + length run < most → a + 1 < most
      less a b k most e le h = omega (arith, e, le, h, low)

  pub in-use-now : frame_count now ≡ frame_count old → (e : Pte) → IsInUse old e → IsInUse now e
  in-use-now count = in-use-then old now count (ap (λ (v : View). v.find) is)
      (λ s. grow _ _ _ (ap (λ (v : View). v.entries s) is))
    where
      grow : (a b k : ℕ) → a ≡ b + k → b ≤ a
      grow a b k e = omega (arith, e)
