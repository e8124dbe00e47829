-- What holds the slots of an area that has none.
use Rattle.std.proofs.Common.{◌≡◌, ℕ, ◌-◌, List, [], ◌∷◌, None, filter, sym, ap, subst, refl, ◌∙◌}
use Rattle.std.specs.Prelude.{nat_lt, unwrap_or}
use Rattle.std.specs.BTreeMap.{is_at}
use Rattle.std.specs.List.{range_with_len}
use Rattle.std.specs.List.Sorted.{IsStrictlySortedBy}
use Rattle.std.specs.Map.{lookup}
use Rattle.std.specs.Ordering.{nat_cmp}
use Rattle.av_audit_index.specs.Holders.{KeysRise, used_within, uses_at}
use Rattle.av_audit_pages.specs.SlotHolders.{area_at}
use Rattle.av_audit_pages.specs.declared.slot_holders.SlotHolders.{SlotHolders}

no-keys-rise : KeysRise []
unfolding IsStrictlySortedBy
no-keys-rise n = tt

no-uses : (ns : List ℕ) → filter (λ n. nat_lt 0 (uses_at [] n)) ns ≡ []
no-uses [] = refl
no-uses (n ∷ ns) = no-uses ns

module _ (holders : SlotHolders) (a : ℕ) (none : None ≡ lookup (is_at (nat_cmp a)) holders.areas.entries) where
  nothing : [] ≡ area_at holders a
  nothing = ap (λ o. unwrap_or o []) none

  -- its keys rise
  pub none-rise : KeysRise (area_at holders a)
  none-rise = subst KeysRise nothing no-keys-rise

  -- none of its slots is used
  pub none-used : (from end : ℕ) → [] ≡ used_within (area_at holders a) from end
  none-used from end = sym (no-uses (range_with_len from (end - from))) ∙ ap (λ hs. used_within hs from end) nothing
