-- After a fork the pages of a merged frame still have its items: the chain of the child's area holds the parent's.
use Rattle.std.proofs.Common.{◌≡◌, ℕ, ◌≤◌, ◌++◌, Bool, true, false, cond, ◌==◌, T, List, [], ◌∷◌, Option, Some, None, option_map, refl, sym, ap, subst, ◌∙◌, arith}
use Rattle.std.proofs.lemmas.Bool.{false≢true}
use Rattle.std.proofs.lemmas.Bool.Decides.{nat_tests}
use Rattle.std.specs.FinMap.Entries.{is_sorted}
use Rattle.std.specs.List.{list_any}
use Rattle.std.specs.Option.{option_map_or, option_or}
use Rattle.std.specs.Prelude.{IfSome, IsSomeAnd}
use Rattle.av_base.specs.Keys.{Key, key_cmp}
use Rattle.av_base.specs.Items.{same_item}
use Rattle.av_base.specs.Words.{how_many}
use Rattle.av_vma.specs.declared.area.Area.{Area}
use Rattle.av_plain.specs.Areas.{AnonVma, Anons, Items, Rmap, chain_by, root_of}
use Rattle.av_plain.specs.Covered.{AreMergedCovered, AreSlotsCovered, IsAtRoot, IsReached, IsRmapSound}
use Rattle.av_vma.specs.Fork.{areas_to_fork, own_to_fork}
use Rattle.av_plain.specs.Event.{without_seen}
use Rattle.av_plain.specs.Fork.{AreForked, GoOver, GoesBy, with_child}
use Rattle.av_plain.specs.Ledger.{Entry, Ledger, entry, is_merged, names_frame}
use Rattle.av_plain.proofs.Covered.{Names}
use Rattle.av_plain.proofs.Covered.Fork.{GoWhole, HasChains, fork-goes_over, fork-stays, merged-forked_ledger}
use Rattle.av_plain.proofs.Covered.SlotsFork.{LeavesKin, fork-kin, goes-rooted}
use Rattle.av_plain.proofs.Fork.{child_ledger, entry-forked, handed, handed-from, unseen-names_frame}
use Rattle.av_plain.proofs.Fork.Areas.{before, child-has, same}

-- ---- areas that go over

-- the anon_vmas keep what is at a root
abbrev KeepAtRoot : Anons → Anons → Type 0
KeepAtRoot old new = (item : ℕ × ℕ) → IsAtRoot old item → IsAtRoot new item

child-root : (own : ℕ) (reused : Option ℕ) (anons : Anons) → KeepAtRoot anons (with_child own reused anons)
child-root own None anons item at = (
  (let less = at.0 in omega (arith, less)),
  by (item.0 == anons.next) (let less = at.0 in grind (arith, nat_tests, less)),
)
  where
    by : (b : Bool) → b ≡ false → IfSome (cond b (Some (record {
      root = root_of anons own;
      parent = own;
      chain = chain_by anons (Some own) ++ anons.next ∷ [];
    })) (anons.anon item.0)) (λ v. v.root ≡ item.0)
    by true e = absurd (false≢true (sym e))
    by false e = at.1
child-root own (Some v) anons item at = (at.0, by (item.0 == v) refl)
  where
    root-is : (o : Option AnonVma) → IfSome o (λ x. x.root ≡ item.0) → option_map_or (λ (x : AnonVma). x.root) o item.0 ≡ item.0
    root-is None is = refl
    root-is (Some x) is = is

    by : (b : Bool) → (item.0 == v) ≡ b → IfSome (cond b (Some (record {
      root = root_of anons v;
      parent = option_map_or (λ (anon : AnonVma). anon.parent) (anons.anon v) v;
      chain = chain_by anons (Some own);
    })) (anons.anon item.0)) (λ x. x.root ≡ item.0)
    by true e = ap (root_of anons) (sym (same item.0 v e)) ∙ root-is (anons.anon item.0) at.1
    by false e = at.1

record LeavesItems (r next : Rmap) : Type 0 where
  items : next.items ≡ r.items
  roots : KeepAtRoot r.anons next.anons

goes-items : (q : ℕ) (area : Area) (own : Option ℕ) (r next : Rmap) → GoesBy own q area r next → LeavesItems r next
goes-items q area None r next goes = subst (LeavesItems r) (sym goes) (record { items = refl; roots = λ item at. at })
goes-items q area (Some own) r next goes = subst (LeavesItems r) (sym goes.2) (record { items = refl; roots = child-root own goes.0 r.anons })

over-items : (q : ℕ) (areas : List Area) (r next : Rmap) → GoOver q areas r next → LeavesItems r next
over-items q [] r next goes = subst (LeavesItems r) (sym goes) (record { items = refl; roots = λ item at. at })
over-items q (area ∷ areas) r next (mid, first, later) =
    let a = goes-items q area (own_to_fork area) r mid first in
    let b = over-items q areas mid next later in
    record { items = b.items ∙ a.items; roots = λ item at. b.roots item (a.roots item at) }

-- ---- the whole

-- the page that an entry comes from
record Came (l : Ledger) (r next : Rmap) (f : ℕ) (k : Key) : Type 0 where
  was : Key
  names : Names l was f
  goes : (home : ℕ × ℕ) → IsReached r was home → IsReached next k home

pub merged-forked : (l : Ledger) (p q : ℕ) (goes : List ℕ) (r next : Rmap) → T (is_sorted key_cmp l.entries) → (p == q) ≡ false
    → ((page : ℕ) → entry l (q, page) ≡ None) → GoWhole goes (r.areas p)
    → AreForked p q r next → IsRmapSound l r → AreSlotsCovered l r → AreMergedCovered l r → AreMergedCovered (child_ledger p q goes l) next
merged-forked l p q goes r next sorted apart none whole forks sound slots h = record {
  found = λ k f names is.
      let a = came f k names in
      let x = h.found a.was f a.names (was f is) in (
        x.0,
        subst (λ (xs : Items). list_any (same_item x.0) (xs f) ≡ true) (sym over.items) x.1,
        goes-rooted r next a.was k slots.kin left.kin left.roots a.goes (λ v. sound.own a.was.0 a.was.1 v) x.0 x.2,
      );
  once = λ f item is. subst (λ (xs : Items). how_many (same_item item) (xs f) ≤ 1) (sym over.items) (h.once f item (was f is));
  roots = λ f item is among. over.roots item
      (h.roots f item (was f is) (subst (λ (xs : Items). list_any (same_item item) (xs f) ≡ true) over.items among));
  homeless = λ f is. ap (λ (hs : ℕ → Option (ℕ × ℕ)). hs f) (child-has p q r next forks).homes ∙ h.homeless f (was f is);
}
  where
    chains : HasChains r
    chains = record { made = sound.made; own = sound.own }

    left : LeavesKin (before q r) next
    left = fork-kin p q r next apart forks chains slots.kin

    over : LeavesItems (before q r) next
    over = over-items q (areas_to_fork forks.0) (before q r) next forks.3

    was : (f : ℕ) → is_merged (child_ledger p q goes l) f ≡ true → is_merged l f ≡ true
    was f is = sym (merged-forked_ledger p q goes l f) ∙ is

    came : (f : ℕ) (k : Key) → Names (child_ledger p q goes l) k f → Came l r next f k
    came f k names = by (k.0 == q) refl (subst (λ o. IsSomeAnd o (λ e. names_frame f e ≡ true)) (entry-forked p q goes l k sorted) names)
      where
        absent : k.0 ≡ q → entry l k ≡ None
        absent e = ap (λ x. entry l (x, k.1)) e ∙ none k.1

        parent : k.0 ≡ q → (o : Option Entry) → IsSomeAnd (option_or (option_map without_seen o) (entry l k)) (λ e. names_frame f e ≡ true) →
            IsSomeAnd o (λ e. names_frame f e ≡ true)
        parent e None names = absurd (subst (λ o. IsSomeAnd o (λ e. names_frame f e ≡ true)) (absent e) names)
        parent e (Some x) names = sym (unseen-names_frame f x) ∙ names

        by : (b : Bool) → (k.0 == q) ≡ b → IsSomeAnd (option_or (cond b (option_map without_seen (handed goes p l k.1)) None) (entry l k))
            (λ e. names_frame f e ≡ true) → Came l r next f k
        by false is names = record { was = k; names = names; goes = fork-stays p q r next apart forks chains k is }
        by true is names =
            let going = handed-from goes p l k.1 (λ e. names_frame f e ≡ true) (parent (same k.0 q is) (handed goes p l k.1) names) in
            record {
              was = (p, k.1);
              names = going.1;
              goes = λ home h. subst (λ x. IsReached next (x, k.1) home) (sym (same k.0 q is))
                  (fork-goes_over p q r next apart forks chains k.1 home (whole k.1 going.0) h);
            }
