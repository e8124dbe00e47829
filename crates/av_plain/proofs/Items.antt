-- The items that a view has tell which frames are merged.
use Rattle.std.proofs.Common.{◌≡◌, ℕ, ◌<◌, ◌==◌, Bool, true, false, cond, List, [], ◌∷◌, refl, sym, ap, ◌∙◌, arith}
use Rattle.std.proofs.lemmas.Bool.{false≢true}
use Rattle.std.specs.List.{list_any}
use Rattle.av_base.specs.Items.{same_item}
use Rattle.av_base.specs.declared.slot.Slot.{Slot}
use Rattle.av_plain.specs.Areas.{Rmap}
use Rattle.av_plain.specs.Covered.{AreMergedCovered}
use Rattle.av_plain.specs.Device.{Device}
use Rattle.av_plain.specs.Ledger.{Ledger, Setting, is_merged, map_count}
use Rattle.av_plain.specs.Sound.{IsSoundBut, mergings}
use Rattle.av_plain.specs.Stands.{ItemsAre, SaysMerged, Stands, View, has_items}
use Rattle.av_plain.specs.Transcript.{State, rmap_of}
use Rattle.av_plain.proofs.Covered.MergeCommands.{some-entry}
use Rattle.av_plain.proofs.Sound.Changes.{any-counts}
use Rattle.av_plain.proofs.Sound.Frames.{positive}

-- a frame has items exactly where it is merged: then an entry names it, whose page has one of them
pub items-tell : (m : Setting) (x : Slot → ℕ) (l : Ledger) (r : Rmap) (v : View) → IsSoundBut m x l → AreMergedCovered l r → ItemsAre v l r.items
    → (f : ℕ) → has_items (v.items f) ≡ is_merged l f
items-tell m x l r v s covered items f = by (is_merged l f) refl (items f)
  where
    named : is_merged l f ≡ true → 0 < map_count l f
    named is = let a = s.merged f in let b = positive (mergings l f) (sym (any-counts (λ y. f == y) l.merged) ∙ is) in omega (arith, a, b)

    some : (item : ℕ × ℕ) (xs : List (ℕ × ℕ)) → list_any (same_item item) xs ≡ true → has_items xs ≡ true
    some item [] h = absurd (false≢true h)
    some item (y ∷ ys) h = refl

    by : (b : Bool) → is_merged l f ≡ b → v.items f ≡ cond b (r.items f) [] → has_items (v.items f) ≡ b
    by false is e = ap has_items e
    by true is e =
        let k = some-entry l f s.in_order (named is) in
        let item = covered.found k.0 f k.1 is in
        ap has_items e ∙ some item.0 (r.items f) item.1

-- and a merged one has no home
pub says-merged : (m : Setting) (v : View) (device : Device) (s : State) → Stands m v device s → SaysMerged v s.ledger
says-merged m v device s h = record {
  items = items-tell m (λ (t : Slot). 0) s.ledger (rmap_of s) v h.sound.ledger h.merged h.items;
  homeless = λ f is. h.homes f ∙ h.merged.homeless f is;
}
