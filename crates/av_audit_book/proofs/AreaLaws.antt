-- The swap areas of a book are the ledger's.
use Rattle.std.proofs.Common.{◌≡◌, ℕ, List, Bool, false, Option, Some, None, is_some, refl, sym, ap, ◌∙◌}
use Rattle.std.specs.Prelude.{option_map}
use Rattle.std.specs.Option.{option_map_or}
use Rattle.av_plain.specs.Ledger.{SwapArea}
use Rattle.std.specs.Ordering.{nat_cmp}
use Rattle.std.specs.FinMap.Entries.{find}
use Rattle.std.specs.BTreeMap.{is_at}
use Rattle.std.specs.Map.{lookup}
use Rattle.av_audit_book.specs.Book.{area_of, areas_of}
use Rattle.av_audit_book.specs.declared.book.Area.{Area}
use Rattle.av_audit_book.proofs.MapLaws.{find-says}

pub find-area : (on : List (ℕ × Area)) (k : ℕ) → option_map area_of (lookup (is_at (nat_cmp k)) on) ≡ find nat_cmp k (areas_of on)
find-area on k = find-says nat_cmp area_of on k

some-mapped : (o : Option Area) → is_some (option_map area_of o) ≡ is_some o
some-mapped None = refl
some-mapped (Some a) = refl

pub find-some : (on : List (ℕ × Area)) (k : ℕ) → is_some (lookup (is_at (nat_cmp k)) on) ≡ is_some (find nat_cmp k (areas_of on))
find-some on k = sym (some-mapped (lookup (is_at (nat_cmp k)) on)) ∙ ap is_some (find-area on k)

-- what is asked of an area that is on, or isn't
pub off-asked : (f : SwapArea → Bool) (on : List (ℕ × Area)) (k : ℕ) → None ≡ lookup (is_at (nat_cmp k)) on
    → false ≡ option_map_or f (find nat_cmp k (areas_of on)) false
off-asked f on k none = ap (λ (o : Option Area). option_map_or f (option_map area_of o) false) none ∙ ap (λ o. option_map_or f o false) (find-area on k)

pub on-asked : (f : SwapArea → Bool) (on : List (ℕ × Area)) (k : ℕ) (a : Area) → Some a ≡ lookup (is_at (nat_cmp k)) on
    → f (area_of a) ≡ option_map_or f (find nat_cmp k (areas_of on)) false
on-asked f on k a some = ap (λ (o : Option Area). option_map_or f (option_map area_of o) false) some ∙ ap (λ o. option_map_or f o false) (find-area on k)
