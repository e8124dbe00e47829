-- After a fork the pages of a slot still have one root and one index: the chain of the child's area holds the parent's.
use Rattle.std.proofs.Common.{◌≡◌, ◌⊎◌, inl, inr, ℕ, Bool, true, false, cond, ◌==◌, ◌||◌, T, List, [], ◌∷◌, ◌++◌, map, Option, Some, None, option_map, refl, sym, ap, subst, ◌∙◌, arith}
use Rattle.std.proofs.lemmas.Bool.{false≢true}
use Rattle.std.proofs.lemmas.Bool.Decides.{nat_tests}
use Rattle.std.specs.FinMap.Entries.{is_sorted}
use Rattle.std.specs.Option.{option_map_or, option_or}
use Rattle.std.specs.Prelude.{IfSome, IsSome, IsSomeAnd}
use Rattle.av_base.specs.Keys.{Key, key_cmp}
use Rattle.av_base.specs.Words.{is_in}
use Rattle.av_base.specs.declared.slot.Slot.{Slot}
use Rattle.av_vma.specs.declared.area.Area.{Area}
use Rattle.av_vma.specs.Index.{first_of, index_of}
use Rattle.av_vma.specs.Pages.{has_page, pages_in, with_area}
use Rattle.av_plain.specs.Areas.{AnonVma, Anons, Rmap, chain_by, root_of}
use Rattle.av_plain.specs.Covered.{AreSlotsCovered, IsKin, IsOfSlot, IsReached, IsRmapSound, IsRooted}
use Rattle.av_plain.specs.Event.{without_seen}
use Rattle.av_vma.specs.Fork.{areas_to_fork, own_to_fork}
use Rattle.av_plain.specs.Fork.{AreForked, GoOver, GoesBy, IsIdle, IsReused, own_of_child, with_child}
use Rattle.av_plain.specs.Ledger.{Entry, Ledger, entry, frame_at, names_slot}
use Rattle.av_plain.specs.Report.{AreApart, range_of}
use Rattle.av_plain.proofs.Covered.{Owns}
use Rattle.av_plain.proofs.Covered.Fork.{GoWhole, HasChains, fork-goes_over, fork-stays, in_front, keeps}
use Rattle.av_plain.proofs.Covered.Slots.{HasKin, at_area, of_area, reached-own, root-of-member, rooted-own, to_rooted}
use Rattle.av_plain.proofs.Event.{put_all-only}
use Rattle.av_plain.proofs.Fork.{child_ledger, copies, entry-forked, forked-is, going, handed, handed-from, unseen-names_slot}
use Rattle.av_plain.proofs.Fork.Areas.{area-leaves, fork-apart, forked-area, forked_at, pages-fork, before, before-others, child-has, in_child, not_first, same, with_own}
use Rattle.av_plain.proofs.Report.Areas.{on_first, passed, rest_apart}

-- each anon_vma that is there keeps its root
abbrev pub KeepsRoots : Anons → Anons → Type 0
KeepsRoots old new = (u root : ℕ) → IsSomeAnd (old.anon u) (λ (a : AnonVma). a.root ≡ root) → IsSomeAnd (new.anon u) (λ (a : AnonVma). a.root ≡ root)

itself : (n : ℕ) → (n == n) ≡ true
itself n = grind (arith, nat_tests)

some_of : {A : Type 0} (P : A → Type 0) (o : Option A) → IsSomeAnd o P → IsSome o
some_of P None is = absurd is
some_of P (Some x) is = refl

-- a chain is of one root still
kin-kept : (old new : Anons) (a : AnonVma) → KeepsRoots old new → IsKin old a → IsKin new a
kin-kept old new a roots kin = record { root = kin.root; members = λ u among. roots u a.root (kin.members u among) }

-- a member of a chain that got one more
last_or : (u v : ℕ) (xs : List ℕ) → is_in u (xs ++ v ∷ []) ≡ true → (is_in u xs ≡ true) ⊎ (u ≡ v)
last_or u v [] h = inr (by (u == v) refl h)
  where
    by : (b : Bool) → (u == v) ≡ b → (b || false) ≡ true → u ≡ v
    by true e h = same u v e
    by false e h = absurd (false≢true h)
last_or u v (x ∷ xs) h = by (u == x) h (last_or u v xs)
  where
    by : (b : Bool) → (b || is_in u (xs ++ v ∷ [])) ≡ true → (is_in u (xs ++ v ∷ []) ≡ true → (is_in u xs ≡ true) ⊎ (u ≡ v)) →
        ((b || is_in u xs) ≡ true) ⊎ (u ≡ v)
    by true h rest = inl refl
    by false h rest = rest h

-- ---- one area

-- what the anon_vmas keep, and the child's own one among them
record GetsKin (r : Rmap) (own : Option ℕ) (anons : Anons) : Type 0 where
  roots : KeepsRoots r.anons anons
  others : (p page v : ℕ) → Owns r p page v → IsSomeAnd (anons.anon v) (IsKin anons)
  mine : (v : ℕ) → own ≡ Some v → IsSomeAnd (anons.anon v) (IsKin anons)

-- the anon_vma that the area has
record HasAnon (r : Rmap) (own : ℕ) : Type 0 where
  anon : AnonVma
  is : r.anons.anon own ≡ Some anon
  kin : IsKin r.anons anon

has-anon : (r : Rmap) (own : ℕ) → IsSomeAnd (r.anons.anon own) (IsKin r.anons) → HasAnon r own
has-anon r own h = by (r.anons.anon own) refl h
  where
    by : (o : Option AnonVma) → r.anons.anon own ≡ o → IsSomeAnd o (IsKin r.anons) → HasAnon r own
    by None e kin = absurd kin
    by (Some a) e kin = record { anon = a; is = e; kin = kin }

gets_new : (r : Rmap) (own : ℕ) → HasChains r → HasKin r → HasAnon r own → GetsKin r (Some r.anons.next) (with_child own None r.anons)
gets_new r own chains kin has = record {
  roots = roots;
  others = λ p page v owns. by v (IsSomeAnd-kin v (kin p page v owns));
  mine = λ v e. let one : r.anons.next ≡ v = cc in
      subst (λ v. IsSomeAnd ((with_child own None r.anons).anon v) (IsKin (with_child own None r.anons))) one mine;
}
  where
    made : AnonVma
    made = record { root = root_of r.anons own; parent = own; chain = chain_by r.anons (Some own) ++ r.anons.next ∷ [] }

    not_next : (v : ℕ) → IsSome (r.anons.anon v) → (v == r.anons.next) ≡ false
    not_next v there = let less = chains.made v there in grind (arith, nat_tests, less)

    old : (v : ℕ) → IsSome (r.anons.anon v) → (with_child own None r.anons).anon v ≡ r.anons.anon v
    old v there = ap (λ b. cond b
        (Some (record { root = root_of r.anons own; parent = own; chain = chain_by r.anons (Some own) ++ r.anons.next ∷ [] }))
        (r.anons.anon v)) (not_next v there)

    roots : KeepsRoots r.anons (with_child own None r.anons)
    roots u root is = subst (λ x. IsSomeAnd x (λ (a : AnonVma). a.root ≡ root))
        (sym (old u (some_of (λ (a : AnonVma). a.root ≡ root) (r.anons.anon u) is))) is

    IsSomeAnd-kin : (v : ℕ) → IsSomeAnd (r.anons.anon v) (IsKin r.anons) → HasAnon r v
    IsSomeAnd-kin v is = has-anon r v is

    by : (v : ℕ) → HasAnon r v → IsSomeAnd ((with_child own None r.anons).anon v) (IsKin (with_child own None r.anons))
    by v h = subst (λ x. IsSomeAnd x (IsKin (with_child own None r.anons))) (sym (old v (subst IsSome (sym h.is) refl) ∙ h.is))
        (kin-kept r.anons (with_child own None r.anons) h.anon roots h.kin)

    new-is : (with_child own None r.anons).anon r.anons.next ≡ Some made
    new-is = ap (λ b. cond b (Some (record { root = root_of r.anons own; parent = own; chain = chain_by r.anons (Some own) ++ r.anons.next ∷ [] }))
        (r.anons.anon r.anons.next)) (itself r.anons.next)

    root-same : root_of r.anons own ≡ has.anon.root
    root-same = ap (λ x. option_map_or (λ (a : AnonVma). a.root) x own) has.is

    chain-same : chain_by r.anons (Some own) ≡ has.anon.chain
    chain-same = ap (λ x. option_map_or (λ (a : AnonVma). a.chain) x []) has.is

    member : (u : ℕ) → (is_in u (chain_by r.anons (Some own)) ≡ true) ⊎ (u ≡ r.anons.next) →
        IsSomeAnd ((with_child own None r.anons).anon u) (λ (other : AnonVma). other.root ≡ root_of r.anons own)
    member u (inl among) = subst (λ x. IsSomeAnd ((with_child own None r.anons).anon u) (λ (other : AnonVma). other.root ≡ x)) (sym root-same)
        (roots u has.anon.root (has.kin.members u (subst (λ c. is_in u c ≡ true) chain-same among)))
    member u (inr e) = subst (λ u. IsSomeAnd ((with_child own None r.anons).anon u) (λ (other : AnonVma). other.root ≡ root_of r.anons own)) (sym e)
        (subst (λ x. IsSomeAnd x (λ (other : AnonVma). other.root ≡ root_of r.anons own)) (sym new-is) refl)

    mine : IsSomeAnd ((with_child own None r.anons).anon r.anons.next) (IsKin (with_child own None r.anons))
    mine = subst (λ x. IsSomeAnd x (IsKin (with_child own None r.anons))) (sym new-is) (record {
      root = in_front (root_of r.anons own) (chain_by r.anons (Some own)) (r.anons.next ∷ [])
          (subst (λ x. is_in x (chain_by r.anons (Some own)) ≡ true) (sym root-same)
          (subst (λ c. is_in has.anon.root c ≡ true) (sym chain-same) has.kin.root));
      members = λ u among. member u (last_or u r.anons.next (chain_by r.anons (Some own)) among);
    })

gets_reused : (r : Rmap) (own v : ℕ) → HasKin r → HasAnon r own → is_in v (chain_by r.anons (Some own)) ≡ true → IsIdle r v →
    GetsKin r (Some v) (with_child own (Some v) r.anons)
gets_reused r own v kin has among idle = record {
  roots = roots;
  others = λ p page w owns. other p page w owns (w == v) refl (has-anon r w (kin p page w owns));
  mine = λ w e. let one : v ≡ w = cc in
      subst (λ w. IsSomeAnd ((with_child own (Some v) r.anons).anon w) (IsKin (with_child own (Some v) r.anons))) one mine;
}
  where
    again : AnonVma
    again = record {
      root = root_of r.anons v;
      parent = option_map_or (λ (anon : AnonVma). anon.parent) (r.anons.anon v) v;
      chain = chain_by r.anons (Some own);
    }

    now : (b : Bool) (w : ℕ) → Option AnonVma
    now b w = cond b (Some (record {
      root = root_of r.anons v;
      parent = option_map_or (λ (anon : AnonVma). anon.parent) (r.anons.anon v) v;
      chain = chain_by r.anons (Some own);
    })) (r.anons.anon w)

    roots : KeepsRoots r.anons (with_child own (Some v) r.anons)
    roots u root is = by (u == v) refl
      where
        by : (b : Bool) → (u == v) ≡ b → IsSomeAnd (cond b (Some (record {
          root = root_of r.anons v;
          parent = option_map_or (λ (anon : AnonVma). anon.parent) (r.anons.anon v) v;
          chain = chain_by r.anons (Some own);
        })) (r.anons.anon u)) (λ (a : AnonVma). a.root ≡ root)
        by true e = ap (root_of r.anons) (sym (same u v e)) ∙ root-of-member r.anons u root is
        by false e = is

    not_owned : (w : ℕ) (o : Option Area) → IsSomeAnd o (λ a. a.anon ≡ Some w) → IfSome o (λ a. a.anon ≡ Some v → ⊥) → w ≡ v → ⊥
    not_owned w None owns free one = owns
    not_owned w (Some a) owns free one = free (owns ∙ ap Some one)

    other : (p page w : ℕ) → Owns r p page w → (b : Bool) → (w == v) ≡ b → HasAnon r w → IsSomeAnd (cond b (Some (record {
      root = root_of r.anons v;
      parent = option_map_or (λ (anon : AnonVma). anon.parent) (r.anons.anon v) v;
      chain = chain_by r.anons (Some own);
    })) (r.anons.anon w)) (IsKin (with_child own (Some v) r.anons))
    other p page w owns true e h = absurd (not_owned w (r.areas p page) owns (idle.free p page) (same w v e))
    other p page w owns false e h = subst (λ x. IsSomeAnd x (IsKin (with_child own (Some v) r.anons))) (sym h.is)
        (kin-kept r.anons (with_child own (Some v) r.anons) h.anon roots h.kin)

    chain-same : chain_by r.anons (Some own) ≡ has.anon.chain
    chain-same = ap (λ x. option_map_or (λ (a : AnonVma). a.chain) x []) has.is

    root-same : root_of r.anons v ≡ has.anon.root
    root-same = root-of-member r.anons v has.anon.root (has.kin.members v (subst (λ c. is_in v c ≡ true) chain-same among))

    mine : IsSomeAnd ((with_child own (Some v) r.anons).anon v) (IsKin (with_child own (Some v) r.anons))
    mine = by (v == v) (itself v)
      where
        by : (b : Bool) → b ≡ true → IsSomeAnd (cond b (Some (record {
          root = root_of r.anons v;
          parent = option_map_or (λ (anon : AnonVma). anon.parent) (r.anons.anon v) v;
          chain = chain_by r.anons (Some own);
        })) (r.anons.anon v)) (IsKin (with_child own (Some v) r.anons))
        by true e = record {
          root = subst (λ x. is_in x (chain_by r.anons (Some own)) ≡ true) (sym root-same)
              (subst (λ c. is_in has.anon.root c ≡ true) (sym chain-same) has.kin.root);
          members = λ u m. subst (λ x. IsSomeAnd ((with_child own (Some v) r.anons).anon u) (λ (other : AnonVma). other.root ≡ x)) (sym root-same)
              (roots u has.anon.root (has.kin.members u (subst (λ c. is_in u c ≡ true) chain-same m)));
        }
        by false e = absurd (false≢true e)

-- the child's area has it, and the others have theirs
kin_with : (q : ℕ) (area : Area) (r : Rmap) (own : Option ℕ) (anons : Anons) → GetsKin r own anons → HasKin (with_own q area own anons r)
kin_with q area r own anons g p page v = by (p == q)
  where
    on : (c : Bool) → IsSomeAnd (cond c (Some (in_child q area own)) (r.areas q page)) (λ a. a.anon ≡ Some v) → IsSomeAnd (anons.anon v) (IsKin anons)
    on true is = g.mine v is
    on false is = g.others q page v is

    by : (b : Bool) → IsSomeAnd ((cond b (with_area (in_child q area own) (r.areas q)) (r.areas p)) page) (λ a. a.anon ≡ Some v) →
        IsSomeAnd (anons.anon v) (IsKin anons)
    by true is = on (has_page area page) is
    by false is = g.others p page v is

-- what one area leaves
pub record LeavesKin (r next : Rmap) : Type 0 where
  pub roots : KeepsRoots r.anons next.anons
  pub kin : HasKin next

goes-kin : (q p page : ℕ) (area : Area) (r next : Rmap) → HasChains r → HasKin r → r.areas p page ≡ Some area → GoesBy (own_to_fork area) q area r next →
    LeavesKin r next
goes-kin q p page area r next chains kin at goes = by (own_to_fork area) refl goes
  where
    leaves : (own : Option ℕ) (anons : Anons) → GetsKin r own anons → LeavesKin r (with_own q area own anons r)
    leaves own anons g = record { roots = g.roots; kin = kin_with q area r own anons g }

    own : (b : Bool) (w : ℕ) → cond b None area.anon ≡ Some w → area.anon ≡ Some w
    own true w is = cc
    own false w is = is

    has : (w : ℕ) → own_to_fork area ≡ Some w → HasAnon r w
    has w goes = let is = own area.flags.wipe_on_fork w goes in has-anon r w (kin p page w (subst (λ x. IsSomeAnd x (λ a. a.anon ≡ Some w)) (sym at) is))

    through : (w : ℕ) (reused : Option ℕ) → own_to_fork area ≡ Some w → IsReused r (chain_by r.anons (Some w)) reused →
        GetsKin r (Some (own_of_child r.anons reused)) (with_child w reused r.anons)
    through w None is none = gets_new r w chains kin (has w is)
    through w (Some v) is one = gets_reused r w v kin (has w is) one.0 one.1

    by : (own : Option ℕ) → own_to_fork area ≡ own → GoesBy own q area r next → LeavesKin r next
    by None is goes = subst (LeavesKin r) (sym goes)
        (leaves None r.anons (record { roots = λ u root h. h; others = kin; mine = λ v e. absurd (never e) }))
      where
        never : {v : ℕ} → ◌≡◌ {A = Option ℕ} None (Some v) → ⊥
        never e = cc
    by (Some w) is goes = subst (LeavesKin r) (sym goes.2) (leaves (Some (own_of_child r.anons goes.0)) (with_child w goes.0 r.anons)
        (through w goes.0 is goes.1))

-- ---- the areas in turn

module _ (p q : ℕ) (apart : (p == q) ≡ false) where
  over-kin : (areas : List Area) (r next : Rmap) → AreApart (map range_of areas)
      → ((page : ℕ) (area : Area) → pages_in (Some areas) page ≡ Some area → r.areas p page ≡ Some area) → HasChains r → HasKin r →
      GoOver q areas r next → LeavesKin r next
  over-kin [] r next rise on chains kin goes = subst (LeavesKin r) (sym goes) (record { roots = λ u root h. h; kin = kin })
  over-kin (area ∷ areas) r next rise on chains kin (mid, first, later) =
      let rest = rest_apart (range_of area) (map range_of areas) rise in
      let w = area-leaves q area r mid first in
      let k = keeps q area r mid chains first in
      let one = goes-kin q p (first_of area) area r mid chains kin (on (first_of area) area (on_first (area ∷ areas) rise).0) first in
      let all = over-kin areas mid next rest
      (λ page a is. w.others p page apart ∙ on page a (passed area areas page (not_first area areas page a rise is) ∙ is)) k.chains one.kin later in
      record { roots = λ u root h. all.roots u root (one.roots u root h); kin = all.kin }

-- ---- the whole

-- where what is reached from a page's own home is reached from another page, that one is rooted as it was
module _ (r next : Rmap) (was k : Key) (kin : HasKin r) (kin' : HasKin next) (roots : KeepsRoots r.anons next.anons)
    (goes : (home : ℕ × ℕ) → IsReached r was home → IsReached next k home)
    (own-in : (v : ℕ) → Owns r was.0 was.1 v → is_in v (chain_by r.anons (Some v)) ≡ true)
  where
    pub goes-rooted : (home : ℕ × ℕ) → IsRooted r was home → IsRooted next k home
    goes-rooted home is =
        let o = rooted-own r was home kin is in
        let here = of_area r was o (λ area. IsSomeAnd area.anon (λ own. root_of r.anons own ≡ home.0) × (index_of area was.1 ≡ home.1)) is in
        let root = subst (λ x. IsSomeAnd x (λ own. root_of r.anons own ≡ home.0)) o.is_own here.0 in
        let reached = at_area r was o (λ area. (is_in o.own (chain_by r.anons area.anon) ≡ true) × (index_of area was.1 ≡ home.1)) (
          subst (λ x. is_in o.own (chain_by r.anons x) ≡ true) (sym o.is_own)
              (own-in o.own (at_area r was o (λ area. area.anon ≡ Some o.own) o.is_own)),
          here.1,
        ) in
        let there = goes (o.own, home.1) reached in
        let now = to_rooted next k (reached-own next k (o.own, home.1) kin' there) (o.own, home.1) there in
        let kept = root-of-member next.anons o.own o.anon.root (roots o.own o.anon.root
        (subst (λ x. IsSomeAnd x (λ (a : AnonVma). a.root ≡ o.anon.root)) (sym o.is_anon) refl)) in
        let before = ap (λ x. option_map_or (λ (a : AnonVma). a.root) x o.own) o.is_anon in
        subst (λ x. IsRooted next k (x, home.1)) (kept ∙ sym before ∙ root) now

-- what the areas leave that go over
pub fork-kin : (p q : ℕ) (r next : Rmap) → (p == q) ≡ false → AreForked p q r next → HasChains r → HasKin r → LeavesKin (before q r) next
fork-kin p q r next apart forks chains kin =
    over-kin p q apart (areas_to_fork forks.0) (before q r) next (fork-apart forks.0 forks.1)
    (λ page area is. before-others q r p page apart
    ∙ forked-area (r.areas p page) area (sym (pages-fork forks.0 page forks.1 ∙ ap forked_at (forks.2 page)) ∙ is))
    (record { made = chains.made; own = λ k page v is. chains.own k page v (owned_before k page v is) })
    (λ k page v is. kin k page v (owned_before k page v is)) forks.3
  where
    owned_before : (k page v : ℕ) → Owns (before q r) k page v → Owns r k page v
    owned_before k page v = by (k == q)
      where
        by : (b : Bool) → IsSomeAnd ((cond b (λ (x : ℕ). None) (r.areas k)) page) (λ (a : Area). a.anon ≡ Some v) → Owns r k page v
        by true is = absurd is
        by false is = is

-- the page that an entry's slot comes from
record Came (l : Ledger) (r next : Rmap) (s : Slot) (k : Key) : Type 0 where
  was : Key
  names : IsOfSlot l s was
  goes : (home : ℕ × ℕ) → IsReached r was home → IsReached next k home

pub slots-forked : (l : Ledger) (p q : ℕ) (goes : List ℕ) (r next : Rmap) → T (is_sorted key_cmp l.entries) → (p == q) ≡ false
    → ((page : ℕ) → entry l (q, page) ≡ None) → GoWhole goes (r.areas p)
    → AreForked p q r next → IsRmapSound l r → AreSlotsCovered l r → AreSlotsCovered (child_ledger p q goes l) next
slots-forked l p q goes r next sorted apart none whole forks sound h = record {
  kin = left.kin;
  rooted = λ s k k' names other.
      let a = came s k names in let b = came s k' other in
      let home = h.rooted s a.was b.was a.names b.names in (
        home.0,
        goes-rooted r next a.was k h.kin left.kin roots a.goes (λ v. sound.own a.was.0 a.was.1 v) home.0 home.1,
        goes-rooted r next b.was k' h.kin left.kin roots b.goes (λ v. sound.own b.was.0 b.was.1 v) home.0 home.2,
      );
  cached = λ s k f at names.
      let a = came s k names in
      subst (λ (hs : ℕ → Option (ℕ × ℕ)). IsSomeAnd (hs f) (IsReached next k)) (sym (child-has p q r next forks).homes)
      (reached s k a (r.homes f) (h.cached s a.was f (sym (cache-same s) ∙ at) a.names));
}
  where
    chains : HasChains r
    chains = record { made = sound.made; own = sound.own }

    left : LeavesKin (before q r) next
    left = fork-kin p q r next apart forks chains h.kin

    roots : KeepsRoots r.anons next.anons
    roots = left.roots

    cache-same : (s : Slot) → frame_at (child_ledger p q goes l) s ≡ frame_at l s
    cache-same s = ap (λ x. frame_at x s) (forked-is p q goes l ∙ put_all-only (copies p q (going goes l.entries)) l)

    came : (s : Slot) (k : Key) → IsOfSlot (child_ledger p q goes l) s k → Came l r next s k
    came s k names = by (k.0 == q) refl (subst (λ o. IsSomeAnd o (λ e. names_slot s e ≡ true)) (entry-forked p q goes l k sorted) names)
      where
        absent : k.0 ≡ q → entry l k ≡ None
        absent e = ap (λ x. entry l (x, k.1)) e ∙ none k.1

        parent : k.0 ≡ q → (o : Option Entry) → IsSomeAnd (option_or (option_map without_seen o) (entry l k)) (λ e. names_slot s e ≡ true) →
            IsSomeAnd o (λ e. names_slot s e ≡ true)
        parent e None names = absurd (subst (λ o. IsSomeAnd o (λ e. names_slot s e ≡ true)) (absent e) names)
        parent e (Some x) names = sym (unseen-names_slot s x) ∙ names

        by : (b : Bool) → (k.0 == q) ≡ b → IsSomeAnd (option_or (cond b (option_map without_seen (handed goes p l k.1)) None) (entry l k))
            (λ e. names_slot s e ≡ true) → Came l r next s k
        by false is names = record { was = k; names = names; goes = fork-stays p q r next apart forks chains k is }
        by true is names =
            let going = handed-from goes p l k.1 (λ e. names_slot s e ≡ true) (parent (same k.0 q is) (handed goes p l k.1) names) in
            record {
              was = (p, k.1);
              names = going.1;
              goes = λ home h. subst (λ x. IsReached next (x, k.1) home) (sym (same k.0 q is))
                  (fork-goes_over p q r next apart forks chains k.1 home (whole k.1 going.0) h);
            }

    reached : (s : Slot) (k : Key) (a : Came l r next s k) (o : Option (ℕ × ℕ)) → IsSomeAnd o (IsReached r a.was) → IsSomeAnd o (IsReached next k)
    reached s k a None is = is
    reached s k a (Some home) is = a.goes home is
