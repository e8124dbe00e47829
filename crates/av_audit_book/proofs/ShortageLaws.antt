-- How many frames are held for each cause.
use Rattle.std.proofs.Common.{◌≡◌, ℕ, ◌+◌, ◌==◌, Bool, true, false, cond, not, ◌&&◌, ◌||◌, Option, Some, None}
use Rattle.std.proofs.Common.{is_none, is_some, List, [], ◌∷◌, length, map, refl, sym, ap, ◌∙◌, arith}
use Rattle.std.specs.Prelude.{option_map}
use Rattle.std.specs.BTreeSet.{BTreeSet, contains}
use Rattle.std.specs.List.{list_any, range_with_len}
use Rattle.std.specs.Ordering.{nat_cmp}
use Rattle.std.proofs.lemmas.List.FromFn.{length-range_with_len}
use Rattle.av_base.specs.Words.{how_many}
use Rattle.av_base.specs.declared.slot.Slot.{Slot}
use Rattle.av_plain.specs.Ledger.{Cached as PlainCached, Ledger, cached_by, is_merged, slot_of}
use Rattle.av_plain.specs.Pass.{Spared, has_turn, is_pinned, is_spared}
use Rattle.av_audit_pages.specs.Entries.{cached_of}
use Rattle.av_audit_pages.specs.declared.entries.Cached.{Cached}
use Rattle.av_audit_book.proofs.CountLaws.{count-parts, count-same}

-- ---- the causes

abbrev pub locked_alone : Spared → ℕ → Bool
locked_alone sp f = not (is_pinned sp.pinned f) && sp.locked f

abbrev pub merged_alone : Spared → Ledger → ℕ → Bool
merged_alone sp l f = not (is_spared sp f) && is_merged l f

abbrev pub cached_alone : Spared → Ledger → ℕ → Bool
cached_alone sp l f = has_turn sp l f && is_some (slot_of l f)

abbrev pub slotless_alone : Spared → Ledger → ℕ → Bool
slotless_alone sp l f = has_turn sp l f && is_none (slot_of l f)

-- frames that are left alone are pinned or of locked pages
pub spared-parts : (sp : Spared) (fs : List ℕ) → how_many (is_spared sp) fs ≡ how_many (is_pinned sp.pinned) fs + how_many (locked_alone sp) fs
spared-parts sp fs = count-parts (is_spared sp) (is_pinned sp.pinned) (locked_alone sp) (λ f. by (is_pinned sp.pinned f) (sp.locked f)) fs
  where
    by : (p k : Bool) → cond (p || k) 1 0 ≡ cond p 1 0 + cond (not p && k) 1 0
    by true k = refl
    by false true = refl
    by false false = refl

-- and merged frames are left alone or not
pub merged-parts : (sp : Spared) (l : Ledger) (fs : List ℕ)
    → how_many (is_merged l) fs ≡ how_many (λ f. is_spared sp f && is_merged l f) fs + how_many (merged_alone sp l) fs
merged-parts sp l fs = count-parts (is_merged l) (λ f. is_spared sp f && is_merged l f) (merged_alone sp l)
    (λ f. by (is_spared sp f) (is_merged l f)) fs
  where
    by : (s m : Bool) → cond m 1 0 ≡ cond (s && m) 1 0 + cond (not s && m) 1 0
    by true true = refl
    by true false = refl
    by false true = refl
    by false false = refl

-- each frame is pinned, or held for one cause
held-once : (sp : Spared) (l : Ledger) (f : ℕ)
    → cond (is_pinned sp.pinned f) 1 0 + cond (locked_alone sp f) 1 0 + cond (merged_alone sp l f) 1 0
    + cond (cached_alone sp l f) 1 0 + cond (slotless_alone sp l f) 1 0 ≡ 1
held-once sp l f = by (is_pinned sp.pinned f) (sp.locked f) (is_merged l f) (slot_of l f)
  where
    by : (p k m : Bool) (o : Option Slot)
        → cond p 1 0 + cond (not p && k) 1 0 + cond (not (p || k) && m) 1 0
        + cond (not (p || k) && not m && is_some o) 1 0 + cond (not (p || k) && not m && is_none o) 1 0 ≡ 1
    by true k m o = refl
    by false true m o = refl
    by false false true o = refl
    by false false false None = refl
    by false false false (Some s) = refl

count-all : (a b c d e : ℕ → Bool)
    → ((f : ℕ) → cond (a f) 1 0 + cond (b f) 1 0 + cond (c f) 1 0 + cond (d f) 1 0 + cond (e f) 1 0 ≡ 1) → (fs : List ℕ)
    → how_many a fs + how_many b fs + how_many c fs + how_many d fs + how_many e fs ≡ length fs
count-all a b c d e one [] = refl
count-all a b c d e one (f ∷ fs) =
    let here = one f in
    let rest = count-all a b c d e one fs in
    omega (arith, here, rest)

pub held-all : (sp : Spared) (l : Ledger) (n : ℕ)
    → how_many (is_pinned sp.pinned) (range_with_len 0 n) + how_many (locked_alone sp) (range_with_len 0 n)
    + how_many (merged_alone sp l) (range_with_len 0 n) + how_many (cached_alone sp l) (range_with_len 0 n)
    + how_many (slotless_alone sp l) (range_with_len 0 n) ≡ n
held-all sp l n = count-all (is_pinned sp.pinned) (locked_alone sp) (merged_alone sp l) (cached_alone sp l) (slotless_alone sp l)
    (held-once sp l) (range_with_len 0 n) ∙ length-range_with_len 0 n

-- ---- the frames of cached pairs

-- a frame is cached where a pair has it
pub cached-any : (f : ℕ) (cs : List Cached) → list_any (λ (c : Cached). f == c.frame) cs
    ≡ is_some (option_map (λ (c : PlainCached). c.slot) (cached_by (λ (c : PlainCached). f == c.frame) (map cached_of cs)))
cached-any f [] = refl
cached-any f (c ∷ cs) = by (f == c.frame) (cached-any f cs)
  where
    by : (b : Bool) → list_any (λ (c : Cached). f == c.frame) cs
        ≡ is_some (option_map (λ (c : PlainCached). c.slot) (cached_by (λ (c : PlainCached). f == c.frame) (map cached_of cs)))
        → (b || list_any (λ (c : Cached). f == c.frame) cs)
        ≡ is_some (option_map (λ (c : PlainCached). c.slot) (cond b (Some (cached_of c)) (cached_by (λ (c : PlainCached). f == c.frame) (map cached_of cs))))
    by true later = refl
    by false later = later

-- ---- the numbers, where these frames are left alone

module _ (sp : Spared) (l : Ledger) (n : ℕ) (alone : BTreeSet ℕ) (is : (f : ℕ) → contains nat_cmp alone f ≡ is_spared sp f) where
  pub locked-counted : (k p : ℕ) → k ≡ how_many (contains nat_cmp alone) (range_with_len 0 n)
      → p ≡ how_many (is_pinned sp.pinned) (range_with_len 0 n) → k ≡ p + how_many (locked_alone sp) (range_with_len 0 n)
  locked-counted k p some few = some ∙ count-same (contains nat_cmp alone) (is_spared sp) is (range_with_len 0 n)
      ∙ spared-parts sp (range_with_len 0 n) ∙ ap (λ x. x + how_many (locked_alone sp) (range_with_len 0 n)) (sym few)

  pub merged-counted : (k a : ℕ) → k ≡ how_many (is_merged l) (range_with_len 0 n)
      → a ≡ how_many (λ f. contains nat_cmp alone f && is_merged l f) (range_with_len 0 n)
      → k ≡ a + how_many (merged_alone sp l) (range_with_len 0 n)
  merged-counted k a all some = all ∙ merged-parts sp l (range_with_len 0 n)
      ∙ ap (λ x. x + how_many (merged_alone sp l) (range_with_len 0 n)) (sym (some ∙ count-same (λ f. contains nat_cmp alone f && is_merged l f)
      (λ f. is_spared sp f && is_merged l f) (λ f. ap (λ b. b && is_merged l f) (is f)) (range_with_len 0 n)))

  pub cached-counted : (cached : BTreeSet ℕ) (k : ℕ) → ((f : ℕ) → contains nat_cmp cached f
      ≡ (not (contains nat_cmp alone f) && not (is_merged l f) && is_some (slot_of l f)))
      → k ≡ how_many (contains nat_cmp cached) (range_with_len 0 n) → k ≡ how_many (cached_alone sp l) (range_with_len 0 n)
  cached-counted cached k has some = some ∙ count-same (contains nat_cmp cached) (cached_alone sp l)
      (λ f. has f ∙ ap (λ b. not b && not (is_merged l f) && is_some (slot_of l f)) (is f)) (range_with_len 0 n)
