-- Which anon_vma an area gets.
use Rattle.std.proofs.Common.{◌≡◌, ℕ, ◌<◌, Bool, true, false, cond, ◌&&◌, ◌||◌, ◌==◌, find, length, IsSome, Option, Some, None, List, [], ◌∷◌, refl, sym, ap, ◌∙◌}
use Rattle.std.specs.Prelude.{nat_lt}
use Rattle.std.proofs.lemmas.Bool.{eqb-true, eq-eqb}
use Rattle.av_base.specs.Words.{is_in}
use Rattle.av_vma.specs.declared.area.Area.{Area}
use Rattle.av_vma.specs.Join.{can_lend}
use Rattle.av_anon.specs.declared.infos.Info.{Info}
use Rattle.av_anon.specs.Anons.{Family, IsRising, own_of}
use Rattle.av_anon.specs.Fork.{child_chain, child_family, is_idle, member_to_reuse}
use Rattle.av_anon.specs.Prepare.{loan, loan_by, loan_near, family_after_prepare}
use Rattle.std.specs.Option.{option_or}
use Rattle.av_anon.proofs.Words.{rising_more}

none_some : {v : ℕ} → ◌≡◌ {A = Option ℕ} None (Some v) → ⊥
none_some e = cc

-- what is lent is the own anon_vma of an area whose chain has one node
one_node : (areas : ℕ → Option Area) (chain : ℕ → List ℕ) (area : Area) (near : Option ℕ) (v : ℕ) → loan areas chain area near ≡ Some v
    → (n : ℕ) × (own_of (areas n) ≡ Some v) × (length (chain n) ≡ 1)
one_node areas chain area None v h = absurd (none_some h)
one_node areas chain area (Some n) v h = by_area (areas n) refl h
  where
    one : (k : ℕ) (rest : Bool) → ((k == 1) && rest) ≡ true → k ≡ 1
    one k rest h = eqb-true k 1 (first (k == 1) h)
      where
        first : (b : Bool) → (b && rest) ≡ true → b ≡ true
        first true h = refl
        first false h = h

    by_test : (b : Bool) (o : Option ℕ) → cond b o None ≡ Some v → (b ≡ true) × (o ≡ Some v)
    by_test true o h = (refl, h)
    by_test false o h = absurd (none_some h)

    by_area : (o : Option Area) → areas n ≡ o → loan_by (length (chain n)) area o ≡ Some v
        → (m : ℕ) × (own_of (areas m) ≡ Some v) × (length (chain m) ≡ 1)
    by_area None e h = absurd (none_some h)
    by_area (Some other) e h =
        let both = by_test (can_lend area other (length (chain n))) other.anon h in
        (n, ap own_of e ∙ both.1, one (length (chain n)) _ both.0)

pub one_node_near : (areas : ℕ → Option Area) (chain : ℕ → List ℕ) (area : Area) (before after : Option ℕ) (v : ℕ)
    → loan_near areas chain area before after ≡ Some v → (n : ℕ) × (own_of (areas n) ≡ Some v) × (length (chain n) ≡ 1)
one_node_near areas chain area before after v h = by (loan areas chain area after) refl h
  where
    by : (o : Option ℕ) → loan areas chain area after ≡ o → option_or o (loan areas chain area before) ≡ Some v
        → (n : ℕ) × (own_of (areas n) ≡ Some v) × (length (chain n) ≡ 1)
    by None e h = one_node areas chain area before v h
    by (Some u) e h = one_node areas chain area after v (e ∙ h)

pub kin_chain : (o : Option ℕ) (f : Family) → (family_after_prepare o f).chain ≡ f.chain
kin_chain None f = refl
kin_chain (Some v) f = refl

-- ---- fork

pub child_family_chain : (reuse : Option ℕ) (own : ℕ) (f : Family) → (child_family reuse own f).chain ≡ f.chain
child_family_chain None own f = refl
child_family_chain (Some v) own f = refl

pub child_rising : (reuse : Option ℕ) (next : ℕ) (xs : List ℕ) → IsRising xs → ((v : ℕ) → is_in v xs ≡ true → v < next)
    → IsRising (child_chain reuse next xs)
child_rising None next xs rising below = rising_more xs next rising below
child_rising (Some v) next xs rising below = rising

passes : (test : ℕ → Bool) (xs : List ℕ) (v : ℕ) → find test xs ≡ Some v → test v ≡ true
passes test [] v h = absurd (none_some h)
passes test (x ∷ xs) v h = by (test x) refl h (passes test xs v)
  where
    same : ◌≡◌ {A = Option ℕ} (Some x) (Some v) → x ≡ v
    same e = cc

    by : (b : Bool) → test x ≡ b → cond b (Some x) (find test xs) ≡ Some v → (find test xs ≡ Some v → test v ≡ true) → test v ≡ true
    by true e h rest = ap test (sym (same h)) ∙ e
    by false e h rest = rest h

idle_there : (v : ℕ) (o : Option Info) → is_idle v o ≡ true → IsSome o
idle_there v None h = h
idle_there v (Some i) h = refl

pub reused_there : (info : ℕ → Option Info) (xs : List ℕ) (v : ℕ) → member_to_reuse info xs ≡ Some v → IsSome (info v)
reused_there info xs v h = idle_there v (info v) (passes (λ u. is_idle u (info u)) xs v h)

-- what is reused is a member, and idle
pub found_in : (test : ℕ → Bool) (xs : List ℕ) (v : ℕ) → find test xs ≡ Some v → is_in v xs ≡ true
found_in test [] v h = absurd (none_some h)
found_in test (x ∷ xs) v h = by (test x) h (found_in test xs v)
  where
    same : ◌≡◌ {A = Option ℕ} (Some x) (Some v) → x ≡ v
    same e = cc

    later : (a : Bool) {b : Bool} → b ≡ true → (a || b) ≡ true
    later true h = refl
    later false h = h

    by : (b : Bool) → cond b (Some x) (find test xs) ≡ Some v → (find test xs ≡ Some v → is_in v xs ≡ true) → is_in v (x ∷ xs) ≡ true
    by true h rest = ap (λ b. b || is_in v xs) (eq-eqb v x (sym (same h)))
    by false h rest = later (v == x) (rest h)

idle_inactive : (v : ℕ) (m : Option Info) → is_idle v m ≡ true → (i : Info) × (m ≡ Some i) × (i.active ≡ 0)
idle_inactive v None h = absurd (no h)
  where
    no : false ≡ true → ⊥
    no e = cc
idle_inactive v (Some i) h = (i, refl, eqb-true i.active 0 (left (i.active == 0) _ (right (nat_lt i.children 2) _ h)))
  where
    right : (a b : Bool) → (a && b) ≡ true → b ≡ true
    right true b h = h
    right false b h = absurd (no h)
      where
        no : false ≡ true → ⊥
        no e = cc

    left : (a b : Bool) → (a && b) ≡ true → a ≡ true
    left true b h = refl
    left false b h = h

pub found_idle : (info : ℕ → Option Info) (xs : List ℕ) (v : ℕ) → member_to_reuse info xs ≡ Some v → (i : Info) × (info v ≡ Some i) × (i.active ≡ 0)
found_idle info xs v h = idle_inactive v (info v) (passes (λ u. is_idle u (info u)) xs v h)
