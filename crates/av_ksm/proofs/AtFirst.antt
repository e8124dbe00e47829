-- What is known before the first page of a merge: the merged frames, the least first.
use Rattle.std.proofs.Common.{◌≡◌, ℕ, ◌+◌, Bool, true, false, cond, List, [], ◌∷◌, ◌++◌, map, filter, refl, sym, ap, subst, ◌∙◌, arith}
use Rattle.std.proofs.lemmas.List.FromFn.{filter_of_map_range_with_len_more}
use Rattle.std.specs.List.{range_with_len}
use Rattle.av_plain.specs.Device.{Device}
use Rattle.av_plain.specs.Ledger.{Ledger, is_merged}
use Rattle.av_mem.specs.declared.mem.Mem.{Mem}
use Rattle.av_mem.specs.Mem.{frame_count, setting_by, view}
use Rattle.av_ksm.specs.Contents.{AreKept}
use Rattle.av_ksm.specs.Known.{Known, as_merged, known_at_first}
use Rattle.av_ksm.specs.Merging.{IsAware}
use Rattle.av_ksm.specs.declared.contents.Contents.{Contents}
use Rattle.av_ksm.proofs.Turn.{known-first}

-- those below a number
abbrev pub merged_below : Ledger → ℕ → List Known
merged_below l n = filter (λ x. is_merged l x.0) (map as_merged (range_with_len 0 n))

-- one more is one of them, if it is merged
more : (l : Ledger) (n : ℕ) → merged_below l (n + 1) ≡ merged_below l n ++ cond (is_merged l n) (as_merged n ∷ []) []
more l n = filter_of_map_range_with_len_more (λ (x : Known). is_merged l x.0) as_merged 0 n n (omega arith)

pub more-merged : (l : Ledger) (n : ℕ) → is_merged l n ≡ true → merged_below l n ++ as_merged n ∷ [] ≡ merged_below l (n + 1)
more-merged l n is = sym (more l n ∙ ap (λ b. merged_below l n ++ cond b (as_merged n ∷ []) []) is)

nothing-more : {X : Type 0} (xs : List X) → xs ++ [] ≡ xs
nothing-more [] = refl
nothing-more (x ∷ xs) = ap (λ ys. x ∷ ys) (nothing-more xs)

pub more-other : (l : Ledger) (n : ℕ) → is_merged l n ≡ false → merged_below l n ≡ merged_below l (n + 1)
more-other l n is = sym (more l n ∙ ap (λ b. merged_below l n ++ cond b (as_merged n ∷ []) []) is ∙ nothing-more (merged_below l n))

-- in the end they are all
turned : (l : Ledger) (xs : List ℕ) → filter (λ x. is_merged l x.0) (map as_merged xs) ≡ map as_merged (filter (is_merged l) xs)
turned l [] = refl
turned l (x ∷ xs) = by (is_merged l x) (turned l xs)
  where
    by : (b : Bool) → filter (λ x. is_merged l x.0) (map as_merged xs) ≡ map as_merged (filter (is_merged l) xs)
        → cond b (as_merged x ∷ filter (λ x. is_merged l x.0) (map as_merged xs)) (filter (λ x. is_merged l x.0) (map as_merged xs))
        ≡ map as_merged (cond b (x ∷ filter (is_merged l) xs) (filter (is_merged l) xs))
    by true rest = ap (λ ys. as_merged x ∷ ys) rest
    by false rest = rest

pub aware-first : (d : Device) (k : Mem) (l : Ledger) (c : Contents)
    → AreKept (frame_count k) (view k).bytes (merged_below l (frame_count k)) c → IsAware d k l [] c
aware-first d k l c kept = record {
  known = known_at_first (setting_by d k) l;
  kept = subst (λ known. AreKept (frame_count k) (view k).bytes known c) (turned l (range_with_len 0 (frame_count k))) kept;
  knows = known-first (setting_by d k) (view k).bytes l;
}
