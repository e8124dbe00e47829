-- Which frames are merged: what the kernel answers is what the ledger says.
use Rattle.std.proofs.Common.{◌≡◌, ℕ, ◌<◌, ◌≤◌, ◌==◌, nat_lt, Bool, true, false, cond, ◌||◌, T, List, [], ◌∷◌, length, Option, Some, None, refl, sym, ap, subst, ◌∙◌, arith}
use Rattle.std.proofs.lemmas.Bool.Decides.{nat_tests}
use Rattle.std.proofs.lemmas.Bool.{false≢true}
use Rattle.std.specs.Prelude.{IsSomeAnd}
use Rattle.std.specs.FinMap.Entries.{is_sorted}
use Rattle.std.specs.List.{list_any}
use Rattle.av_base.specs.Keys.{Key, key_cmp, same_key}
use Rattle.av_base.specs.Items.{same_item}
use Rattle.av_base.proofs.Keys.{same_key-itself}
use Rattle.av_rmap.specs.Items.{is_merged as has_items}
use Rattle.av_plain.specs.Areas.{Rmap}
use Rattle.av_plain.specs.Sound.{mergings}
use Rattle.av_plain.proofs.Sound.Changes.{any-counts}
use Rattle.av_plain.specs.Ledger.{Entry, Ledger, entry, is_merged, map_count, names_frame as names, walk}
use Rattle.av_plain.proofs.Ledger.Walk.{keys-filter, length-keys, passes}
use Rattle.av_mem.specs.declared.mem.Mem.{Mem}
use Rattle.av_mem.specs.Mem.{view}
use Rattle.av_mem.proofs.ReachLaws.{Reaches}

some-items : (xs : List (ℕ × ℕ)) (item : ℕ × ℕ) → list_any (same_item item) xs ≡ true → has_items xs ≡ true
some-items [] item h = absurd (false≢true h)
some-items (x ∷ xs) item h = refl

-- the kernel's frames with items are those that the ledger has merged, where each of these is mapped
pub merged-is : (k : Mem) (r : Rmap) (l : Ledger) → Reaches k r l → T (is_sorted key_cmp l.entries) → (f : ℕ) → mergings l f ≤ map_count l f
    → has_items ((view k).items f) ≡ is_merged l f
merged-is k r l h sorted f mapped = by (is_merged l f) refl (h.items f)
  where
    above : (n : ℕ) → nat_lt 0 n ≡ true → 0 < n
    above n e = grind (arith, nat_tests, e)

    some : is_merged l f ≡ true → 0 < map_count l f
    some e = let n = above (mergings l f) (sym (any-counts (λ g. f == g) l.merged) ∙ e) in omega (arith, n, mapped)

    of-walk : (ks : List Key) → walk l f ≡ ks → is_merged l f ≡ true → has_items (r.items f) ≡ true
    of-walk [] e is =
        let none : map_count l f ≡ 0 = sym (length-keys (names f) l.entries) ∙ ap length e in
        let n = some is in
        absurd (let m : 0 < 0 = subst (λ n. 0 < n) none n in omega (arith, m))
    of-walk (q ∷ ks) e is =
        let listed = ap (list_any (same_key q)) e ∙ ap (λ b. b || list_any (same_key q) ks) (same_key-itself q) in
        let item = h.merged.found q f (passed (entry l q) (sym (keys-filter (names f) l.entries q sorted) ∙ listed)) is in
        some-items (r.items f) item.0 item.1
      where
        passed : (o : Option Entry) → passes (names f) o ≡ true → IsSomeAnd o (λ e. names f e ≡ true)
        passed None h = absurd (false≢true h)
        passed (Some d) h = h

    by : (b : Bool) → is_merged l f ≡ b → (view k).items f ≡ cond b (r.items f) [] → has_items ((view k).items f) ≡ b
    by true e is = ap has_items is ∙ of-walk (walk l f) refl e
    by false e is = ap has_items is
