-- After a fork each entry that goes over is covered: the chain of the child's area holds the parent's.
use Rattle.std.proofs.Common.{◌≡◌, inl, inr, ℕ, suc, ◌<◌, Bool, true, false, cond, ◌==◌, ◌||◌, T, List, [], ◌∷◌, ◌++◌, map, Option, Some, None, option_map, refl, sym, ap, subst, ◌∙◌, arith}
use Rattle.std.proofs.lemmas.Bool.{false≢true}
use Rattle.std.proofs.lemmas.Bool.Decides.{nat_tests}
use Rattle.std.specs.FinMap.Entries.{is_sorted}
use Rattle.std.specs.Option.{option_map_or, option_or}
use Rattle.std.specs.Prelude.{IfSome, IsSome, IsSomeAnd}
use Rattle.av_base.specs.Keys.{Key, key_cmp}
use Rattle.av_base.specs.Words.{is_in}
use Rattle.av_vma.specs.declared.area.Area.{Area}
use Rattle.av_vma.specs.Index.{index_of}
use Rattle.av_vma.specs.Pages.{Pages, has_page, pages_in, with_area}
use Rattle.av_plain.specs.Areas.{AnonVma, Anons, Rmap, chain_by, none_on}
use Rattle.av_plain.specs.Covered.{IsReached, IsRmapSound}
use Rattle.av_vma.specs.Fork.{areas_to_fork, own_to_fork}
use Rattle.av_plain.specs.Event.{without_seen}
use Rattle.av_plain.specs.Fork.{AreForked, GoOver, GoesBy, IsIdle, IsReused, own_of_child, with_child}
use Rattle.av_plain.specs.Ledger.{Entry, Ledger, entry, is_merged, names_frame}
use Rattle.av_plain.specs.Report.{AreApart, range_of}
use Rattle.av_plain.proofs.Chains.{rise-forked}
use Rattle.av_plain.proofs.Covered.{Owns, chain_there}
use Rattle.av_plain.proofs.Event.{put_all-only}
use Rattle.av_plain.proofs.Fork.{child_ledger, copies, entry-forked, forked-is, going, handed, handed-from, unseen-names_frame}
use Rattle.av_plain.proofs.Fork.Areas.{ChildHas, IsLeft, fork-apart, forked-area, forked_at, pages-fork, LeavesAreas, before, before-others, child-has, first_left, in_child, later_left, not_first, not_later, same, area-leaves, areas-leave, with_own, with_own-child}
use Rattle.av_plain.proofs.Report.Areas.{passed, rest_apart}

-- each anon_vma that is there was made, and an area's own one is in its chain
pub record HasChains (r : Rmap) : Type 0 where
  pub made : (v : ℕ) → IsSome (r.anons.anon v) → v < r.anons.next
  pub own : (p page v : ℕ) → Owns r p page v → is_in v (chain_by r.anons (Some v)) ≡ true

itself : (n : ℕ) → (n == n) ≡ true
itself n = grind (arith, nat_tests)

pub in_front : (v : ℕ) (xs ys : List ℕ) → is_in v xs ≡ true → is_in v (xs ++ ys) ≡ true
in_front v [] ys h = absurd (false≢true h)
in_front v (x ∷ xs) ys h = by (v == x) h (in_front v xs ys)
  where
    by : (b : Bool) → (b || is_in v xs) ≡ true → (is_in v xs ≡ true → is_in v (xs ++ ys) ≡ true) → (b || is_in v (xs ++ ys)) ≡ true
    by true h rest = refl
    by false h rest = rest h

in_last : (v : ℕ) (xs : List ℕ) → is_in v (xs ++ v ∷ []) ≡ true
in_last v [] = ap (λ b. b || false) (itself v)
in_last v (x ∷ xs) = by (v == x) (in_last v xs)
  where
    by : (b : Bool) → is_in v (xs ++ v ∷ []) ≡ true → (b || is_in v (xs ++ v ∷ [])) ≡ true
    by true h = refl
    by false h = h

-- ---- one area

-- the anon_vmas then, and the child's own one among them
record Gets (r : Rmap) (area : Area) (own : Option ℕ) (anons : Anons) : Type 0 where
  chain : (p page v : ℕ) → Owns r p page v → chain_by anons (Some v) ≡ chain_by r.anons (Some v)
  made : (v : ℕ) → IsSome (anons.anon v) → v < anons.next
  mine : (v : ℕ) → own ≡ Some v → is_in v (chain_by anons (Some v)) ≡ true
  all : (v : ℕ) → is_in v (chain_by r.anons (own_to_fork area)) ≡ true → is_in v (chain_by anons own) ≡ true

-- what the chains keep: those that areas have stay, and the child's has what the parent's has
pub record Keeps (q : ℕ) (area : Area) (r next : Rmap) : Type 0 where
  pub chain : (p page v : ℕ) → Owns r p page v → chain_by next.anons (Some v) ≡ chain_by r.anons (Some v)
  pub chains : HasChains next
  pub all : (page : ℕ) (own : Option ℕ) → has_page area page ≡ true → next.areas q page ≡ Some (in_child q area own)
      → (v : ℕ) → is_in v (chain_by r.anons (own_to_fork area)) ≡ true → is_in v (chain_by next.anons own) ≡ true

keeps_with : (q : ℕ) (area : Area) (r : Rmap) (own : Option ℕ) (anons : Anons) → HasChains r → Gets r area own anons →
    Keeps q area r (with_own q area own anons r)
keeps_with q area r own anons h g = record {
  chain = g.chain;
  chains = record { made = g.made; own = λ p page v is. owned p page v (p == q) refl is };
  all = λ page w has on v among. subst (λ o. is_in v (chain_by anons o) ≡ true)
      (inner (sym (with_own-child q area own anons r page ∙ ap (λ b. cond b (Some (in_child q area own)) (r.areas q page)) has) ∙ on))
      (g.all v among);
}
  where
    inner : {a b : Option ℕ} → Some (in_child q area a) ≡ Some (in_child q area b) → a ≡ b
    inner e = ap (λ (o : Option Area). option_map_or (λ (x : Area). x.anon) o None) e

    was : (p page v : ℕ) → Owns r p page v → is_in v (chain_by anons (Some v)) ≡ true
    was p page v is = subst (λ c. is_in v c ≡ true) (sym (g.chain p page v is)) (h.own p page v is)

    owned : (p page v : ℕ) (b : Bool) → (p == q) ≡ b → IsSomeAnd ((cond b (with_area (in_child q area own) (r.areas q)) (r.areas p)) page)
        (λ a. a.anon ≡ Some v) → is_in v (chain_by anons (Some v)) ≡ true
    owned p page v false e is = was p page v is
    owned p page v true e is = on (has_page area page) is
      where
        on : (c : Bool) → IsSomeAnd (cond c (Some (in_child q area own)) (r.areas q page)) (λ a. a.anon ≡ Some v)
            → is_in v (chain_by anons (Some v)) ≡ true
        on true is = g.mine v is
        on false is = was q page v is

-- an own anon_vma was made
own_below : (r : Rmap) (p page v : ℕ) → HasChains r → Owns r p page v → v < r.anons.next
own_below r p page v h is = let there = chain_there r.anons (Some v) v (h.own p page v is) in
    let one : v ≡ there.0 = cc in h.made v (subst (λ w. IsSome (r.anons.anon w)) (sym one) there.2)

gets_new : (r : Rmap) (area : Area) (own : ℕ) → HasChains r → own_to_fork area ≡ Some own → Gets r area (Some r.anons.next) (with_child own None r.anons)
gets_new r area own h is = record {
  chain = λ p page v owns. other v (own_below r p page v h owns) (v == r.anons.next) refl;
  made = λ v there. made v (v == r.anons.next) refl there;
  mine = λ v e. let one : r.anons.next ≡ v = cc in subst (λ v. is_in v (chain_by (with_child own None r.anons) (Some v)) ≡ true) one here;
  all = λ v among. subst (λ c. is_in v c ≡ true) (sym chain) (in_front v (chain_by r.anons (Some own)) (r.anons.next ∷ [])
      (subst (λ o. is_in v (chain_by r.anons o) ≡ true) is among));
}
  where
    made_one : AnonVma
    made_one = record {
      root = option_map_or (λ (anon : AnonVma). anon.root) (r.anons.anon own) own;
      parent = own;
      chain = chain_by r.anons (Some own) ++ r.anons.next ∷ [];
    }

    at : Bool → ℕ → Option AnonVma
    at b v = cond b (Some made_one) (r.anons.anon v)

    chain : chain_by (with_child own None r.anons) (Some r.anons.next) ≡ chain_by r.anons (Some own) ++ r.anons.next ∷ []
    chain = ap (λ b. option_map_or (λ (x : AnonVma). x.chain) (cond b (Some made_one) (r.anons.anon r.anons.next)) []) (itself r.anons.next)

    here : is_in r.anons.next (chain_by (with_child own None r.anons) (Some r.anons.next)) ≡ true
    here = subst (λ c. is_in r.anons.next c ≡ true) (sym chain) (in_last r.anons.next (chain_by r.anons (Some own)))

    other : (v : ℕ) → v < r.anons.next → (b : Bool) → (v == r.anons.next) ≡ b →
        option_map_or (λ (x : AnonVma). x.chain) (cond b (Some made_one) (r.anons.anon v)) [] ≡ chain_by r.anons (Some v)
    other v less true e = let one = same v r.anons.next e in absurd (omega (arith, less, one))
    other v less false e = refl

    made : (v : ℕ) (b : Bool) → (v == r.anons.next) ≡ b → IsSome (cond b (Some made_one) (r.anons.anon v)) → v < suc r.anons.next
    made v true e there = let one = same v r.anons.next e in omega (arith, one)
    made v false e there = let less = h.made v there in omega (arith, less)

gets_reused : (r : Rmap) (area : Area) (own v : ℕ) → HasChains r → own_to_fork area ≡ Some own → is_in v (chain_by r.anons (Some own)) ≡ true → IsIdle r v
    → Gets r area (Some v) (with_child own (Some v) r.anons)
gets_reused r area own v h is among idle = record {
  chain = λ p page w owns. other p page w owns (w == v) refl;
  made = λ w there. made w (w == v) refl there;
  mine = λ w e. let one : v ≡ w = cc in subst (λ w. is_in w (chain_by (with_child own (Some v) r.anons) (Some w)) ≡ true) one
      (subst (λ c. is_in v c ≡ true) (sym chain) among);
  all = λ w in_parent. subst (λ c. is_in w c ≡ true) (sym chain) (subst (λ o. is_in w (chain_by r.anons o) ≡ true) is in_parent);
}
  where
    again : AnonVma
    again = record {
      root = option_map_or (λ (anon : AnonVma). anon.root) (r.anons.anon v) v;
      parent = option_map_or (λ (anon : AnonVma). anon.parent) (r.anons.anon v) v;
      chain = chain_by r.anons (Some own);
    }

    chain : chain_by (with_child own (Some v) r.anons) (Some v) ≡ chain_by r.anons (Some own)
    chain = ap (λ b. option_map_or (λ (x : AnonVma). x.chain) (cond b (Some again) (r.anons.anon v)) []) (itself v)

    not_owned : (w : ℕ) (o : Option Area) → IsSomeAnd o (λ a. a.anon ≡ Some w) → IfSome o (λ a. a.anon ≡ Some v → ⊥) → w ≡ v → ⊥
    not_owned w None owns free one = owns
    not_owned w (Some a) owns free one = free (owns ∙ ap Some one)

    other : (p page w : ℕ) → Owns r p page w → (b : Bool) → (w == v) ≡ b →
        option_map_or (λ (x : AnonVma). x.chain) (cond b (Some again) (r.anons.anon w)) [] ≡ chain_by r.anons (Some w)
    other p page w owns true e = absurd (not_owned w (r.areas p page) owns (idle.free p page) (same w v e))
    other p page w owns false e = refl

    there_some : (o : Option AnonVma) → IsSomeAnd o (λ anon. anon.root ≡ v → ⊥) → IsSome o
    there_some None h = absurd h
    there_some (Some x) h = refl

    made : (w : ℕ) (b : Bool) → (w == v) ≡ b → IsSome (cond b (Some again) (r.anons.anon w)) → w < r.anons.next
    made w true e there = subst (λ w. w < r.anons.next) (sym (same w v e)) (h.made v (there_some (r.anons.anon v) idle.below))
    made w false e there = h.made w there

pub keeps : (q : ℕ) (area : Area) (r next : Rmap) → HasChains r → GoesBy (own_to_fork area) q area r next → Keeps q area r next
keeps q area r next h goes = by (own_to_fork area) refl goes
  where
    through : (w : ℕ) (reused : Option ℕ) → own_to_fork area ≡ Some w → IsReused r (chain_by r.anons (Some w)) reused →
        Gets r area (Some (own_of_child r.anons reused)) (with_child w reused r.anons)
    through w None is none = gets_new r area w h is
    through w (Some v) is one = gets_reused r area w v h is one.0 one.1

    by : (own : Option ℕ) → own_to_fork area ≡ own → GoesBy own q area r next → Keeps q area r next
    by None is goes = subst (Keeps q area r) (sym goes)
        (keeps_with q area r None r.anons h
        (record {
          chain = λ p page v owns. refl;
          made = h.made;
          mine = λ v e. absurd (never e);
          all = λ v among. subst (λ o. is_in v (chain_by r.anons o) ≡ true) is among;
        }))
      where
        never : {v : ℕ} → ◌≡◌ {A = Option ℕ} None (Some v) → ⊥
        never e = cc
    by (Some w) is goes =
        subst (Keeps q area r) (sym goes.2) (keeps_with q area r (Some (own_of_child r.anons goes.0)) (with_child w goes.0 r.anons) h
        (through w goes.0 is goes.1))

-- ---- the areas in turn

-- a chain holds still what it held
chain_holds : (r next : Rmap) (p page : ℕ) (a : Area) → r.areas p page ≡ Some a →
    ((v : ℕ) → Owns r p page v → chain_by next.anons (Some v) ≡ chain_by r.anons (Some v))
    → (v : ℕ) → is_in v (chain_by r.anons a.anon) ≡ true → is_in v (chain_by next.anons a.anon) ≡ true
chain_holds r next p page a is h = by a.anon refl
  where
    by : (own : Option ℕ) → a.anon ≡ own → (v : ℕ) → is_in v (chain_by r.anons own) ≡ true → is_in v (chain_by next.anons own) ≡ true
    by None e v among = absurd (false≢true among)
    by (Some w) e v among = subst (λ c. is_in v c ≡ true) (sym (h w (subst (λ x. IsSomeAnd x (λ a. a.anon ≡ Some w)) (sym is) e))) among

-- so does that by which an area goes over
chain_goes : (r next : Rmap) (p page : ℕ) (a : Area) → r.areas p page ≡ Some a →
    ((v : ℕ) → Owns r p page v → chain_by next.anons (Some v) ≡ chain_by r.anons (Some v))
    → (v : ℕ) → is_in v (chain_by r.anons (own_to_fork a)) ≡ true → is_in v (chain_by next.anons (own_to_fork a)) ≡ true
chain_goes r next p page a is h v = by a.flags.wipe_on_fork
  where
    by : (b : Bool) → is_in v (chain_by r.anons (cond b None a.anon)) ≡ true → is_in v (chain_by next.anons (cond b None a.anon)) ≡ true
    by true among = absurd (false≢true among)
    by false among = chain_holds r next p page a is h v among

-- what the chains keep when all have gone
pub record KeepsAll (q : ℕ) (areas : List Area) (r next : Rmap) : Type 0 where
  pub chain : (p page v : ℕ) → IsLeft q areas p page → Owns r p page v → chain_by next.anons (Some v) ≡ chain_by r.anons (Some v)
  pub chains : HasChains next
  pub all : (page : ℕ) (area : Area) (own : Option ℕ) → pages_in (Some areas) page ≡ Some area → next.areas q page ≡ Some (in_child q area own)
      → (v : ℕ) → is_in v (chain_by r.anons (own_to_fork area)) ≡ true → is_in v (chain_by next.anons own) ≡ true

module _ (p q : ℕ) (apart : (p == q) ≡ false) where
  keeps-all : (areas : List Area) (r next : Rmap) → AreApart (map range_of areas)
      → ((page : ℕ) (area : Area) → pages_in (Some areas) page ≡ Some area → r.areas p page ≡ Some area) → HasChains r →
      GoOver q areas r next → KeepsAll q areas r next
  keeps-all [] r next rise on h goes = subst (KeepsAll q [] r) (sym goes)
      (record { chain = λ k page v _ _. refl; chains = h; all = λ page area own is. absurd cc })
  keeps-all (area ∷ areas) r next rise on h (mid, first, later) =
      let rest = rest_apart (range_of area) (map range_of areas) rise in
      let w = area-leaves q area r mid first in
      let k = keeps q area r mid h first in
      let all = keeps-all areas mid next rest
      (λ page a is. w.others p page apart ∙ on page a (passed area areas page (not_first area areas page a rise is) ∙ is)) k.chains later in
      record {
        chain = λ k' page v left owns.
            all.chain k' page v (later_left q area areas k' page left) (subst (λ x. IsSomeAnd x (λ a. a.anon ≡ Some v))
            (sym (first_left q area areas r mid w k' page left)) owns)
            ∙ k.chain k' page v owns;
        chains = all.chains;
        all = λ page a own is there. holds (areas-leave q areas mid next rest later) k all page a own (has_page area page) refl is there;
      }
    where
      holds : LeavesAreas q areas mid next → Keeps q area r mid → KeepsAll q areas mid next → (page : ℕ) (a : Area) (own : Option ℕ) (b : Bool) →
          has_page area page ≡ b
          → cond b (Some area) (pages_in (Some areas) page) ≡ Some a → next.areas q page ≡ Some (in_child q a own)
          → (v : ℕ) → is_in v (chain_by r.anons (own_to_fork a)) ≡ true → is_in v (chain_by next.anons own) ≡ true
      holds w k all page a own true has is there v among =
          let one : a ≡ area = cc in
          let none = not_later area areas page rise has in
          let on_mid : mid.areas q page ≡ Some (in_child q area own) = sym (w.left q page (inr none)) ∙ there
          ∙ ap (λ a. Some (in_child q a own)) one in
          chain_holds mid next q page (in_child q area own) on_mid (λ u owns. all.chain q page u (inr none) owns) v
          (k.all page own has on_mid v (subst (λ (a : Area). is_in v (chain_by r.anons (own_to_fork a)) ≡ true) one among))
      holds w k all page a own false has is there v among =
          all.all page a own is there v
          (chain_goes r mid p page a (on page a (passed area areas page has ∙ is)) (λ u owns. k.chain p page u owns) v among)

-- ---- the whole

-- an area goes over, and isn't wiped
pub record IsWhole (area : Area) : Type 0 where
  pub over : area.flags.dont_fork ≡ false
  pub kept : area.flags.wipe_on_fork ≡ false

-- the pages that go over with their entries are of such
abbrev pub GoWhole : List ℕ → Pages → Type 0
GoWhole goes on = (page : ℕ) → is_in page goes ≡ true → IfSome (on page) IsWhole

module _ (p q : ℕ) (r next : Rmap) (apart : (p == q) ≡ false) (forks : AreForked p q r next) (chains : HasChains r) where
  child : ChildHas p q r next
  child = child-has p q r next forks

  owned_before : (k page v : ℕ) → Owns (before q r) k page v → Owns r k page v
  owned_before k page v = by (k == q)
    where
      by : (b : Bool) → IsSomeAnd ((cond b none_on (r.areas k)) page) (λ a. a.anon ≡ Some v) → Owns r k page v
      by true is = absurd is
      by false is = is

  abbrev over : List Area
  over = areas_to_fork forks.0

  over-at : (page : ℕ) → pages_in (Some over) page ≡ forked_at (r.areas p page)
  over-at page = pages-fork forks.0 page forks.1 ∙ ap forked_at (forks.2 page)

  pub fork-keeps : KeepsAll q over (before q r) next
  fork-keeps = keeps-all p q apart over (before q r) next (fork-apart forks.0 forks.1)
      (λ page area is. before-others q r p page apart ∙ forked-area (r.areas p page) area (sym (over-at page) ∙ is))
      (record { made = chains.made; own = λ k page v is. chains.own k page v (owned_before k page v is) }) forks.3

  -- a page of another process is reached still
  pub fork-stays : (k : Key) → (k.0 == q) ≡ false → (home : ℕ × ℕ) → IsReached r k home → IsReached next k home
  fork-stays k other home is = at (r.areas k.0 k.1) refl is
    where
      at : (o : Option Area) → r.areas k.0 k.1 ≡ o
          → IsSomeAnd o (λ area. (is_in home.0 (chain_by r.anons area.anon) ≡ true) × (index_of area k.1 ≡ home.1)) →
          IsReached next k home
      at None e is = absurd is
      at (Some area) e is = subst (λ x. IsSomeAnd x (λ area. (is_in home.0 (chain_by next.anons area.anon) ≡ true) × (index_of area k.1 ≡ home.1)))
          (sym (child.others k.0 k.1 other ∙ e)) (
            chain_holds (before q r) next k.0 k.1 area (before-others q r k.0 k.1 other ∙ e)
                (λ v owned. fork-keeps.chain k.0 k.1 v (inl other) owned) home.0 is.0,
            is.1,
          )

  -- and so is the child's from where the parent's was, if it goes over whole
  pub fork-goes_over : (page : ℕ) (home : ℕ × ℕ) → IfSome (r.areas p page) IsWhole → IsReached r (p, page) home → IsReached next (q, page) home
  fork-goes_over page home whole is = at (r.areas p page) refl whole is
    where
      at : (o : Option Area) → r.areas p page ≡ o → IfSome o IsWhole
          → IsSomeAnd o (λ area. (is_in home.0 (chain_by r.anons area.anon) ≡ true) × (index_of area page ≡ home.1)) →
          IsReached next (q, page) home
      at None e whole is = absurd is
      at (Some area) e whole is =
          let goes : forked_at (r.areas p page) ≡ Some area = ap forked_at e ∙ ap (λ b. cond b None (Some area)) whole.over in
          let own : own_to_fork area ≡ area.anon = ap (λ b. cond b None area.anon) whole.kept in
          subst (λ x. IsSomeAnd x (λ area. (is_in home.0 (chain_by next.anons area.anon) ≡ true) × (index_of area page ≡ home.1)))
          (sym (child.here page area goes)) (
            fork-keeps.all page area (child.own page) (over-at page ∙ goes) (child.here page area goes) home.0
                (subst (λ o. is_in home.0 (chain_by r.anons o) ≡ true) (sym own) is.0),
            is.1,
          )

-- a fork merges nothing
pub merged-forked_ledger : (p q : ℕ) (goes : List ℕ) (l : Ledger) (f : ℕ) → is_merged (child_ledger p q goes l) f ≡ is_merged l f
merged-forked_ledger p q goes l f = ap (λ (x : Ledger). is_merged x f)
    (forked-is p q goes l ∙ put_all-only (copies p q (going goes l.entries)) l)

-- the entries that go over are reached from the homes of their frames
pub sound-forked : (l : Ledger) (p q : ℕ) (goes : List ℕ) (r next : Rmap) → T (is_sorted key_cmp l.entries) → (p == q) ≡ false
    → ((page : ℕ) → entry l (q, page) ≡ None) → GoWhole goes (r.areas p)
    → AreForked p q r next → IsRmapSound l r → IsRmapSound (child_ledger p q goes l) next
sound-forked l p q goes r next sorted apart none whole forks h = record {
  made = (fork-keeps p q r next apart forks chains).chains.made;
  rising = rise-forked p q r next forks h.rising;
  own = (fork-keeps p q r next apart forks chains).chains.own;
  covered = λ k f names own. reached k f (sym (merged-forked_ledger p q goes l f) ∙ own) (k.0 == q) refl
      (subst (λ o. IsSomeAnd o (λ e. names_frame f e ≡ true)) (entry-forked p q goes l k sorted) names);
}
  where
    chains : HasChains r
    chains = record { made = h.made; own = h.own }

    -- at the home that the frame has still
    at_home : (k q' : Key) (f : ℕ) → ((home : ℕ × ℕ) → IsReached r k home → IsReached next q' home) → IsSomeAnd (r.homes f) (IsReached r k) →
        IsSomeAnd (next.homes f) (IsReached next q')
    at_home k q' f there is = subst (λ (hs : ℕ → Option (ℕ × ℕ)). IsSomeAnd (hs f) (IsReached next q')) (sym (child-has p q r next forks).homes)
        (by (r.homes f) is)
      where
        by : (o : Option (ℕ × ℕ)) → IsSomeAnd o (IsReached r k) → IsSomeAnd o (IsReached next q')
        by None is = is
        by (Some home) is = there home is

    reached : (k : Key) (f : ℕ) → is_merged l f ≡ false → (b : Bool) → (k.0 == q) ≡ b
        → IsSomeAnd (option_or (cond b (option_map without_seen (handed goes p l k.1)) None) (entry l k))
        (λ e. names_frame f e ≡ true)
        → IsSomeAnd (next.homes f) (IsReached next k)
    reached k f own false is names = at_home k k f (fork-stays p q r next apart forks chains k is) (h.covered k f names own)
    reached k f own true is names =
        let there = parent (handed goes p l k.1) names in
        let going = handed-from goes p l k.1 (λ e. names_frame f e ≡ true) there in
        subst (λ x. IsSomeAnd (next.homes f) (IsReached next (x, k.1))) (sym (same k.0 q is))
        (at_home (p, k.1) (q, k.1) f (λ home. fork-goes_over p q r next apart forks chains k.1 home (whole k.1 going.0)) (h.covered (p, k.1) f going.1 own))
      where
        absent : entry l k ≡ None
        absent = ap (λ x. entry l (x, k.1)) (same k.0 q is) ∙ none k.1

        parent : (o : Option Entry) → IsSomeAnd (option_or (option_map without_seen o) (entry l k)) (λ e. names_frame f e ≡ true) →
            IsSomeAnd o (λ e. names_frame f e ≡ true)
        parent None names = absurd (subst (λ o. IsSomeAnd o (λ e. names_frame f e ≡ true)) absent names)
        parent (Some e) names = sym (unseen-names_frame f e) ∙ names
