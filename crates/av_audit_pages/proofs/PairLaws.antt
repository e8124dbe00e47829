-- The counts of cached pairs stay right as these change.
use Rattle.std.proofs.Common.{◌≡◌, ℕ, suc, ◌+◌, ◌-◌, ◌<◌, ◌≤◌, List, [], ◌∷◌, map, Bool, Some}
use Rattle.std.proofs.Common.{true, false, cond, length, refl, sym, ◌∙◌, arith}
use Rattle.std.specs.Map.{values_of, remove_entry, set_value}
use Rattle.std.specs.Prelude.{◌==◌, ◌^◌}
use Rattle.av_base.specs.Words.{how_many}
use Rattle.av_base.specs.declared.slot.Slot.{Slot}
use Rattle.av_plain.specs.Ledger.{Cached as PlainCached, same_slot}
use Rattle.av_audit_queue.specs.Line.{member_at}
use Rattle.av_audit_queue.proofs.LineLaws.{is_rank}
use Rattle.av_audit_pages.proofs.RankLaws.{count-gone, count-put}
use Rattle.av_audit_pages.specs.Entries.{cached_of, changed_pair}
use Rattle.av_audit_pages.specs.Index.{AddsPair, CountsPairs, HasRoom, KeepsPairs, TakesPair}
use Rattle.av_audit_pages.specs.SlotHolders.{one}
use Rattle.av_audit_pages.specs.declared.changes.PairChange.TheVariants.{Stale}
use Rattle.av_audit_pages.specs.declared.entries.Cached.{Cached}
use Rattle.av_audit_pages.specs.declared.index.Index.{Index}

-- pairs that stay are as many
pub pairs-kept : (i j : Index) (cs : List PlainCached) → CountsPairs i cs → KeepsPairs i j → CountsPairs j cs
pairs-kept i j cs c k = record { frames = λ f. k.frames f ∙ c.frames f; slots = λ s. k.slots s ∙ c.slots s }

plus : (a b o d : ℕ) → a ≡ b + o → b ≡ d → a ≡ o + d
plus a b o d e f = omega (arith, e, f)

minus : (a b o d : ℕ) → a ≡ b - o → b ≡ o + d → a ≡ d
minus a b o d e f = omega (arith, e, f)

-- one pair more
pub pair-more : (i j : Index) (cs : List PlainCached) (c : PlainCached) → CountsPairs i cs → AddsPair i j c → CountsPairs j (c ∷ cs)
pair-more i j cs c is a = record {
  frames = λ f. plus _ _ _ _ (a.frames f) (is.frames f);
  slots = λ s. plus _ _ _ _ (a.slots s) (is.slots s);
}

-- one pair less
pub pair-less : (i j : Index) (cs : List PlainCached) (c : PlainCached) → CountsPairs i (c ∷ cs) → TakesPair i j c → CountsPairs j cs
pair-less i j cs c is t = record {
  frames = λ f. minus _ _ _ _ (t.frames f) (is.frames f);
  slots = λ s. minus _ _ _ _ (t.slots s) (is.slots s);
}

-- ---- no count is too great

few : {X : Type 0} (p : X → Bool) (xs : List X) → how_many p xs ≤ length xs
few p [] = omega arith
few p (x ∷ xs) = by (p x) (few p xs)
  where
    by : (b : Bool) → how_many p xs ≤ length xs → cond b 1 0 + how_many p xs ≤ suc (length xs)
    by true h = omega (arith, h)
    by false h = omega (arith, h)

pub mapped-few : {X Y : Type 0} (f : X → Y) (xs : List X) → length (map f xs) ≤ length xs
mapped-few f [] = omega arith
mapped-few f (x ∷ xs) = let h = mapped-few f xs in omega (arith, h)

pub room : (i : Index) (es : List (ℕ × Cached)) → CountsPairs i (map cached_of (values_of es)) → length es < 2 ^ 63 → HasRoom i
room i es c h = record {
  frames = λ f. small _ _ (c.frames f) (few (λ (c : PlainCached). f == c.frame) (map cached_of (values_of es)));
  slots = λ s. small _ _ (c.slots s) (few (λ (c : PlainCached). same_slot s c.slot) (map cached_of (values_of es)));
}
  where
    small : (a b : ℕ) → a ≡ b → b ≤ length (map cached_of (values_of es)) → a < 2 ^ 64 - 1
    small a b e f =
        let pairs = mapped-few cached_of (values_of es) in
        let values = mapped-few (λ (e : ℕ × Cached). e.1) es in
        omega (arith, e, f, pairs, values, h)

-- ---- a pair that goes, or stands in place of another

pub pair-gone : (i j : Index) (es : List (ℕ × Cached)) (rank : ℕ) (x : Cached) → CountsPairs i (map cached_of (values_of es)) → member_at es rank ≡ Some x
    → TakesPair i j (cached_of x) → CountsPairs j (map cached_of (values_of (remove_entry (is_rank rank) es)))
pair-gone i j es rank x is there t = record {
  frames = λ f. minus _ _ _ _ (t.frames f) (is.frames f ∙ count-gone (λ (c : PlainCached). f == c.frame) cached_of es rank x there);
  slots = λ s. minus _ _ _ _ (t.slots s) (is.slots s ∙ count-gone (λ (c : PlainCached). same_slot s c.slot) cached_of es rank x there);
}

-- the other was counted before this one
pub pair-put : (i j k : Index) (es : List (ℕ × Cached)) (rank : ℕ) (x y : Cached) → CountsPairs i (map cached_of (values_of es))
    → member_at es rank ≡ Some x → AddsPair i j (cached_of y) → TakesPair j k (cached_of x)
    → CountsPairs k (map cached_of (values_of (set_value (is_rank rank) es y)))
pair-put i j k es rank x y is there a t = record {
  frames = λ f. both _ _ _ _ _ _ _ (t.frames f) (a.frames f) (is.frames f)
      (count-put (λ (c : PlainCached). f == c.frame) cached_of es rank x y there);
  slots = λ s. both _ _ _ _ _ _ _ (t.slots s) (a.slots s) (is.slots s)
      (count-put (λ (c : PlainCached). same_slot s c.slot) cached_of es rank x y there);
}
  where
    both : (a b d q r o w : ℕ) → a ≡ b - o → b ≡ d + w → d ≡ q → r + o ≡ q + w → a ≡ r
    both a b d q r o w f g h k = omega (arith, f, g, h, k)

-- one that was counted goes again
pub pair-undone : (i j k : Index) (cs : List PlainCached) (c : PlainCached) → CountsPairs i cs → AddsPair i j c → TakesPair j k c → CountsPairs k cs
pair-undone i j k cs c is a t = pair-less j k cs c (pair-more i j cs c is a) t

-- ---- pairs of a slot that are stale, or are not

pub stale-counts : (i : Index) (cs : List Cached) (s : Slot) (stale : Bool) → CountsPairs i (map cached_of cs)
    → CountsPairs i (map cached_of (map (changed_pair (Stale s stale)) cs))
stale-counts i cs s stale is = record {
  frames = λ f. is.frames f ∙ sym (alike (λ (c : PlainCached). f == c.frame) (λ c. frame f c (same_slot s c.slot)) cs);
  slots = λ t. is.slots t ∙ sym (alike (λ (c : PlainCached). same_slot t c.slot) (λ c. slot t c (same_slot s c.slot)) cs);
}
  where
    frame : (f : ℕ) (c : Cached) (b : Bool) → (f == (cached_of (cond b (record c { stale = stale }) c)).frame) ≡ (f == c.frame)
    frame f c true = refl
    frame f c false = refl

    slot : (t : Slot) (c : Cached) (b : Bool) → same_slot t (cached_of (cond b (record c { stale = stale }) c)).slot ≡ same_slot t c.slot
    slot t c true = refl
    slot t c false = refl

    alike : (p : PlainCached → Bool) → ((c : Cached) → p (cached_of (changed_pair (Stale s stale) c)) ≡ p (cached_of c)) → (cs : List Cached)
        → how_many p (map cached_of (map (changed_pair (Stale s stale)) cs)) ≡ how_many p (map cached_of cs)
    alike p same [] = refl
    alike p same (c ∷ cs) = λ i. one (same c i) + alike p same cs i
