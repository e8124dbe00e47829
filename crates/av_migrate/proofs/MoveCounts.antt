-- What the ledger says of frames once one has gone over to another.
use Rattle.std.proofs.Common.{◌≡◌, ℕ, ◌+◌, Bool, true, false, cond, ◌||◌, ◌&&◌, nat_lt, List, [], ◌∷◌, map, Option, Some, None, option_map, refl, sym, ap, ◌∙◌, arith, ◌==◌}
use Rattle.std.specs.List.{list_any}
use Rattle.av_base.specs.Words.{how_many, renamed}
use Rattle.av_base.specs.declared.slot.Slot.{Slot}
use Rattle.av_plain.specs.Event.{with_places}
use Rattle.av_plain.specs.Fault.{asks_copy, is_named}
use Rattle.av_plain.specs.Ledger.{Cached, Ledger, Setting, cached_by, frame_at, is_free, is_merged, is_stale, map_count, same_slot, slot_of}
use Rattle.av_plain.specs.Sound.{IsSound, holders, mergings, no_excuse, uses}
use Rattle.av_plain.proofs.Event.{slot_entries-renamed}
use Rattle.av_plain.proofs.Sound.Changes.{any-counts, free-is}
use Rattle.av_plain.proofs.Sound.Counts.{frame_at-some, pair-frame, same-is}
use Rattle.av_plain.proofs.Sound.Sharing.{back-again, before, differ, holders-went, is-before, merged-went, none-from, uses-went}
use Rattle.av_migrate.specs.Move.{MayMove}

-- one that is cached is cached at its frame's new place
abbrev carried : ℕ → ℕ → Cached → Cached
carried from to c = record c { frame = renamed from to c.frame }

-- a value that goes along, and leaves another behind
pub gone-along : {X : Type 0} (from to : ℕ) (none : X) (g : ℕ → X) (f : ℕ)
    → cond (f == from) none (cond (f == to) (g from) (g f)) ≡ cond (f == from) none (g (before from to f))
gone-along from to none g f = ap (λ x. cond (f == from) none x) (by (f == to))
  where
    by : (b : Bool) → cond b (g from) (g f) ≡ g (cond b from f)
    by true = refl
    by false = refl

module _ (m : Setting) (l : Ledger) (from to : ℕ) (s : IsSound m l) (may : MayMove m l from to) where
  abbrev went : Ledger
  went = with_places (renamed from to) l

  pub apart : (to == from) ≡ false
  apart = differ m no_excuse l from to s may.free may.used may.below

  pub no_holder : holders l to ≡ 0
  no_holder = let h = may.free in omega (arith, h)

  pub maps-went : (g : ℕ) → map_count went g ≡ cond (g == from) 0 (map_count l (before from to g))
  maps-went g = by (g == from) (map_count went g) (holders went g) (uses-went m no_excuse l from to s may.free may.used may.below g)
      (holders-went m no_excuse l from to s may.free may.used may.below g)
    where
      by : (b : Bool) (n k : ℕ) → n + k ≡ cond b 0 (uses l (before from to g)) → k ≡ cond b 0 (holders l (before from to g))
          → n ≡ cond b 0 (map_count l (before from to g))
      by true n k e i = omega (arith, e, i)
      by false n k e i = omega (arith, e, i)

  -- ---- the cache

  pub slot_of-went : (g : ℕ) → slot_of went g ≡ cond (g == from) None (slot_of l (before from to g))
  slot_of-went g = each l.cache no_holder (g == from) refl
    where
      first : (b : Bool) (n : ℕ) → cond b 1 0 + n ≡ 0 → b ≡ false
      first true n e = absurd (omega (arith, e))
      first false n e = refl

      rest : (a n : ℕ) → a + n ≡ 0 → n ≡ 0
      rest a n e = omega (arith, e)

      each : (cs : List Cached) → how_many (λ (c : Cached). to == c.frame) cs ≡ 0 → (b : Bool) → (g == from) ≡ b
          → option_map (λ (c : Cached). c.slot) (cached_by (λ c. g == c.frame) (map (carried from to) cs))
          ≡ cond b None (option_map (λ (c : Cached). c.slot) (cached_by (λ c. before from to g == c.frame) cs))
      each [] none true e = refl
      each [] none false e = refl
      each (c ∷ cs) none true e =
          ap (λ t. option_map (λ (c : Cached). c.slot) (cond t (Some (carried from to c)) (cached_by (λ c. g == c.frame) (map (carried from to) cs))))
          (ap (λ x. x == renamed from to c.frame) (same-is g from e) ∙ none-from from to apart c.frame)
          ∙ each cs (rest _ _ none) true e
      each (c ∷ cs) none false e =
          ap (λ t. option_map (λ (c : Cached). c.slot) (cond t (Some (carried from to c)) (cached_by (λ c. g == c.frame) (map (carried from to) cs))))
          (is-before from to apart g c.frame e (first (to == c.frame) _ none))
          ∙ by (before from to g == c.frame) (each cs (rest _ _ none) false e)
        where
          by : (t : Bool) → option_map (λ (c : Cached). c.slot) (cached_by (λ c. g == c.frame) (map (carried from to) cs))
              ≡ option_map (λ (c : Cached). c.slot) (cached_by (λ c. before from to g == c.frame) cs)
              → option_map (λ (c : Cached). c.slot) (cond t (Some (carried from to c)) (cached_by (λ c. g == c.frame) (map (carried from to) cs)))
              ≡ option_map (λ (c : Cached). c.slot) (cond t (Some c) (cached_by (λ c. before from to g == c.frame) cs))
          by true h = refl
          by false h = h

  pub frame_at-went : (t : Slot) → frame_at went t ≡ option_map (renamed from to) (frame_at l t)
  frame_at-went t = each l.cache
    where
      each : (cs : List Cached) → option_map (λ (c : Cached). c.frame) (cached_by (λ c. same_slot t c.slot) (map (carried from to) cs))
          ≡ option_map (renamed from to) (option_map (λ (c : Cached). c.frame) (cached_by (λ c. same_slot t c.slot) cs))
      each [] = refl
      each (c ∷ cs) = by (same_slot t c.slot) (each cs)
        where
          by : (b : Bool) → option_map (λ (c : Cached). c.frame) (cached_by (λ c. same_slot t c.slot) (map (carried from to) cs))
              ≡ option_map (renamed from to) (option_map (λ (c : Cached). c.frame) (cached_by (λ c. same_slot t c.slot) cs))
              → option_map (λ (c : Cached). c.frame) (cond b (Some (carried from to c)) (cached_by (λ c. same_slot t c.slot) (map (carried from to) cs)))
              ≡ option_map (renamed from to) (option_map (λ (c : Cached). c.frame) (cond b (Some c) (cached_by (λ c. same_slot t c.slot) cs)))
          by true h = refl
          by false h = h

  pub stale-went : (t : Slot) → is_stale went t ≡ is_stale l t
  stale-went t = each l.cache
    where
      each : (cs : List Cached) → list_any (λ (c : Cached). same_slot t c.slot && c.stale) (map (carried from to) cs)
          ≡ list_any (λ (c : Cached). same_slot t c.slot && c.stale) cs
      each [] = refl
      each (c ∷ cs) = ap (λ b. (same_slot t c.slot && c.stale) || b) (each cs)

  -- no slot is cached at the frame that is free
  pub cached-other : (t : Slot) (g : ℕ) → frame_at l t ≡ Some g → (to == g) ≡ false
  cached-other t g at = by (to == g) refl
    where
      by : (b : Bool) → (to == g) ≡ b → b ≡ false
      by true is = absurd (let p = frame_at-some g t l.cache at in let q = pair-frame t g l.cache in let z = ap (holders l) (same-is to g is) in
          let n = no_holder in omega (arith, p, q, z, n))
      by false is = refl

  -- ---- what is merged, and what is shared

  pub merged-before : (g : ℕ) → is_merged went g ≡ cond (g == from) false (is_merged l (before from to g))
  merged-before g = any-counts (λ x. g == x) went.merged
      ∙ ap (nat_lt 0) (merged-went m no_excuse l from to s may.free may.used may.below g)
      ∙ by (g == from) ∙ ap (λ b. cond (g == from) false b) (sym (any-counts (λ x. before from to g == x) l.merged))
    where
      by : (b : Bool) → nat_lt 0 (cond b 0 (mergings l (before from to g))) ≡ cond b false (nat_lt 0 (mergings l (before from to g)))
      by true = refl
      by false = refl

  -- a frame that isn't the free one asks for a copy at its new place as it did
  pub copy-went : (g : ℕ) → (to == g) ≡ false → asks_copy went (renamed from to g) ≡ asks_copy l g
  copy-went g other = (λ i. nat_lt 1 (maps i) || named i || merged i)
    where
      back : (before from to (renamed from to g) ≡ g) × ((renamed from to g == from) ≡ false)
      back = back-again m no_excuse l from to s may.free may.used may.below g other

      maps : map_count went (renamed from to g) ≡ map_count l g
      maps = maps-went (renamed from to g) ∙ ap (λ b. cond b 0 (map_count l (before from to (renamed from to g)))) back.1 ∙ ap (map_count l) back.0

      slot : slot_of went (renamed from to g) ≡ slot_of l g
      slot = slot_of-went (renamed from to g) ∙ ap (λ b. cond b None (slot_of l (before from to (renamed from to g)))) back.1 ∙ ap (slot_of l) back.0

      names : (o : Option Slot) → is_named went o ≡ is_named l o
      names None = refl
      names (Some t) = ap (nat_lt 0) (slot_entries-renamed from to l t)

      named : is_named went (slot_of went (renamed from to g)) ≡ is_named l (slot_of l g)
      named = ap (is_named went) slot ∙ names (slot_of l g)

      merged : is_merged went (renamed from to g) ≡ is_merged l g
      merged = merged-before (renamed from to g) ∙ ap (λ b. cond b false (is_merged l (before from to (renamed from to g)))) back.1
          ∙ ap (is_merged l) back.0

  pub free-went : (g : ℕ) → is_free went g ≡ cond (g == from) true (is_free l (before from to g))
  free-went g = free-is went g ∙ ap (λ n. n == 0) (uses-went m no_excuse l from to s may.free may.used may.below g) ∙ by (g == from)
      ∙ ap (λ b. cond (g == from) true b) (sym (free-is l (before from to g)))
    where
      by : (b : Bool) → (cond b 0 (uses l (before from to g)) == 0) ≡ cond b true (uses l (before from to g) == 0)
      by true = refl
      by false = refl
