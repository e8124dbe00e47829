-- The first pair of a slot goes, and the first at a frame gets another: what becomes of the list.
use Rattle.std.proofs.Common.{◌≡◌, ℕ, suc, ◌<◌, true, false, not, List, [], ◌∷◌, filter, map, length, Option, Some, None, refl, sym, ap, ◌∙◌, arith}
use Rattle.std.specs.List.Sorted.{IsStrictlySortedBy}
use Rattle.std.specs.Map.{keys_of, values_of, remove_entry, set_value}
use Rattle.std.specs.Option.{option_map_or}
use Rattle.std.specs.Ordering.{nat_cmp}
use Rattle.std.specs.Prelude.{option_map, ◌==◌}
use Rattle.std.proofs.lemmas.Bool.Decides.{nat_tests}
use Rattle.av_base.specs.Words.{how_many, renamed}
use Rattle.av_base.specs.declared.slot.Slot.{Slot}
use Rattle.av_plain.specs.Ledger.{same_slot}
use Rattle.av_audit_queue.specs.Line.{has_at, member_at}
use Rattle.av_audit_queue.specs.Name.{frame_name, slot_name}
use Rattle.av_audit_queue.proofs.LineLaws.{is_rank, told}
use Rattle.av_audit_queue.proofs.QueueLaws.{goes-shorter, none-goes, none-passes, places-fewer, same-goes}
use Rattle.av_audit_pages.proofs.PlacedLaws.{at-frame, of-slot}
use Rattle.av_audit_pages.proofs.RankLaws.{all-stay, one-alike}
use Rattle.av_audit_pages.specs.Entries.{changed_pair}
use Rattle.av_audit_pages.specs.Pairs.{IsFirstFrom, frame_key, slot_key}
use Rattle.av_audit_pages.specs.declared.changes.PairChange.TheVariants.{Frame}
use Rattle.av_audit_pages.specs.declared.entries.Cached.{Cached}

values-length : (es : List (ℕ × Cached)) → length (values_of es) ≡ length es
values-length [] = refl
values-length (e ∷ es) = ap suc (values-length es)

module _ (s : Slot) (es : List (ℕ × Cached)) where
  module _ (rank : ℕ) (x : Cached) (first : IsFirstFrom (λ c. same_slot s c.slot) es 0 (Some (rank, x))) where
    there : has_at slot_key es (slot_name s) rank ≡ true
    there = ap (told slot_key (slot_name s)) first.there ∙ sym (of-slot s (slot_name s) refl x) ∙ first.passes

    pub slot-goes : filter (λ c. not (same_slot s c.slot)) (values_of (remove_entry (is_rank rank) es)) ≡ filter (λ c. not (same_slot s c.slot)) (values_of es)
    slot-goes = same-goes slot_key (slot_name s) (λ c. same_slot s c.slot) (of-slot s (slot_name s) refl) es rank there

    pub slot-fewer : length (values_of (remove_entry (is_rank rank) es)) < length (values_of es)
    slot-fewer = both _ _ _ _ (values-length (remove_entry (is_rank rank) es)) (values-length es)
        (goes-shorter slot_key (slot_name s) (λ c. same_slot s c.slot) (of-slot s (slot_name s) refl) es rank there)
      where
        both : (a b c d : ℕ) → a ≡ b → c ≡ d → b < d → a < c
        both a b c d e f h = omega (arith, e, f, h)

  pub slot-gone : IsStrictlySortedBy nat_cmp (keys_of es) → IsFirstFrom (λ c. same_slot s c.slot) es 0 None
      → filter (λ c. not (same_slot s c.slot)) (values_of es) ≡ values_of es
  slot-gone rising first = none-goes (λ c. same_slot s c.slot) (values_of es)
      (none-passes (λ c. same_slot s c.slot) es rising (λ r. first.none r (omega arith)))

module _ (from to : ℕ) (es : List (ℕ × Cached)) where
  module _ (rank : ℕ) (x : Cached) (first : IsFirstFrom (λ c. from == c.frame) es 0 (Some (rank, x))) where
    at-it : has_at frame_key es (frame_name from) rank ≡ true
    at-it = ap (told frame_key (frame_name from)) first.there ∙ sym (at-frame from (frame_name from) refl x) ∙ first.passes

    pub frame-alike : map (changed_pair (Frame from to)) (values_of (set_value (is_rank rank) es (record x { frame = to })))
        ≡ map (changed_pair (Frame from to)) (values_of es)
    frame-alike = one-alike (changed_pair (Frame from to)) es rank x (record x { frame = to }) first.there
        (ap (λ f. record x { frame = f }) (ends from to x.frame first.passes))
      where
        ends : (a b f : ℕ) → (a == f) ≡ true → renamed a b b ≡ renamed a b f
        ends a b f h = grind (arith, nat_tests)

    pub frame-fewer : (from ≡ to → ⊥) → how_many (λ (c : Cached). from == c.frame) (values_of (set_value (is_rank rank) es (record x { frame = to })))
        < how_many (λ (c : Cached). from == c.frame) (values_of es)
    frame-fewer other = places-fewer frame_key (frame_name from) (λ c. from == c.frame) (at-frame from (frame_name from) refl)
        (record x { frame = to }) es rank (apart from to other) at-it
      where
        apart : (a b : ℕ) → (a ≡ b → ⊥) → (a == b) ≡ false
        apart a b h = grind (arith, nat_tests)

  pub frame-done : IsStrictlySortedBy nat_cmp (keys_of es) → IsFirstFrom (λ c. from == c.frame) es 0 None
      → map (changed_pair (Frame from to)) (values_of es) ≡ values_of es
  frame-done rising first = all-stay (changed_pair (Frame from to)) es rising (λ r. by (member_at es r) (first.none r (omega arith)))
    where
      stays : (a b f : ℕ) → (a == f) ≡ false → renamed a b f ≡ f
      stays a b f h = grind (arith, nat_tests)

      by : (o : Option Cached) → option_map_or (λ (c : Cached). from == c.frame) o false ≡ false → option_map (changed_pair (Frame from to)) o ≡ o
      by None h = refl
      by (Some c) h = ap (λ f. Some (record c { frame = f })) (stays from to c.frame h)

-- nothing changes where the two frames are one
pub frame-stays : (from to : ℕ) → from ≡ to → (cs : List Cached) → cs ≡ map (changed_pair (Frame from to)) cs
frame-stays from to one [] = refl
frame-stays from to one (c ∷ cs) = λ i. record c { frame = stays from to c.frame one i } ∷ frame-stays from to one cs i
  where
    stays : (a b f : ℕ) → a ≡ b → f ≡ renamed a b f
    stays a b f h = grind (arith, nat_tests)
