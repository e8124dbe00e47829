-- The areas of all processes: what the trees and the numbered areas say of them, and what a change of one tree leaves.
use Rattle.std.proofs.Common.{◌≡◌, ◌≢◌, ℕ, zero, suc, ◌+◌, ◌^◌, ◌<◌, ◌≤◌, ◌==◌, Bool, true, false, cond, List, [], ◌∷◌, ◌++◌, length, Option, Some, None, is_some, option_map, slice_set, IfSome, Result, Ok, Err, refl, sym, ap, subst, ◌∙◌, arith}
use Rattle.std.proofs.lemmas.List.{length-append}
use Rattle.std.proofs.lemmas.Bool.Decides.{nat_tests}
use Rattle.std.proofs.lemmas.Bool.{eqb-true, false≢true}
use Rattle.std.specs.Prelude.{slice_index_or, IsSomeAnd, MatchOption, option_and_then, IfOk, OnOk, OnErr}
use Rattle.std.specs.Ordering.{nat_cmp, is_eq}
use Rattle.std.specs.List.{cons_option, filter_map, enumerate_from}
use Rattle.av_base.specs.Words.{how_many}
use Rattle.av_vma.specs.declared.area.Area.{Area}
use Rattle.av_vmatree.specs.declared.span.Span.{Span}
use Rattle.av_vmatree.specs.Spans.{area_at, span_of, is_page_taken}
use Rattle.av_vma.specs.Pages.{Pages, pages_in}
use Rattle.av_merge.specs.Pages.{pages_by}
use Rattle.av_merge.specs.Process.{AreAreasOf, IsAreaOf, KeepsOthers, Stays}
use Rattle.av_merge.proofs.PlacingLaws.{others_refl}
use Rattle.av_spaces.specs.Spaces.{AllSpaces, Spaces, areas_of, pages_of, is_taken, AreRising, AllRising, IsSpawned, IsChanged, IsEnded}
use Rattle.av_spaces.specs.Trees.{Trees, tree_at, areas_by, space_by, spaces_by, HasNone, AreTrees, IsGrown}
use Rattle.av_spaces.proofs.Areas.{AreNumbered, numbered, pages_are, held_by, rising_of}

-- the processes of a value
pub processes_are : {s t : AllSpaces} → s ≡ t → s.processes ≡ t.processes
processes_are e = ap (λ (s : AllSpaces). s.processes) e

-- values with the same processes and areas
pub same_spaces : (areas : List (Option Area)) {s t : Spaces} → s ≡ t
    → ◌≡◌ {A = AllSpaces} (record { processes = s; areas = areas }) (record { processes = t; areas = areas })
same_spaces areas e = λ i. record { processes = e i; areas = areas }

-- ---- places

itself : (n : ℕ) → (n == n) ≡ true
itself n = grind (arith, nat_tests)

-- one for a tree that is there
abbrev one_if : Option (List Span) → ℕ
one_if o = cond (is_some o) 1 0

pub place_there : (ts : Trees) (p : ℕ) → is_some (tree_at ts p) ≡ true → p < length ts
place_there [] p h = absurd (false≢true h)
place_there (t ∷ ts) zero h = omega arith
place_there (t ∷ ts) (suc p) h = let rest = place_there ts p h in omega (arith, rest)

-- what stands in that place does not depend on what would stand past the last one
pub tree_or : (ts : Trees) (p : ℕ) (other : Option (List Span)) → is_some (tree_at ts p) ≡ true → slice_index_or ts p other ≡ tree_at ts p
tree_or [] p other h = absurd (false≢true h)
tree_or (t ∷ ts) zero other h = refl
tree_or (t ∷ ts) (suc p) other h = tree_or ts p other h

tree_set : (ts : Trees) (p : ℕ) (x : Option (List Span)) → p < length ts → (q : ℕ) → tree_at (slice_set ts p x) q ≡ cond (q == p) x (tree_at ts q)
tree_set [] p x below q = absurd (omega (arith, below))
tree_set (t ∷ ts) zero x below zero = refl
tree_set (t ∷ ts) zero x below (suc q) = sym (ap (λ b. cond b x (tree_at ts q)) (not_first q))
  where
    not_first : (q : ℕ) → (suc q == 0) ≡ false
    not_first q = grind (arith, nat_tests)
tree_set (t ∷ ts) (suc p) x below zero = sym (ap (λ b. cond b x t) (not_first p))
  where
    not_first : (p : ℕ) → (0 == suc p) ≡ false
    not_first p = grind (arith, nat_tests)
tree_set (t ∷ ts) (suc p) x below (suc q) = tree_set ts p x (omega (arith, below)) q ∙ ap (λ b. cond b x (tree_at ts q)) (next q p)
  where
    next : (q p : ℕ) → (q == p) ≡ (suc q == suc p)
    next q p = grind (arith, nat_tests)

count_set : (ts : Trees) (p : ℕ) (x : Option (List Span)) → p < length ts →
    how_many is_some (slice_set ts p x) + one_if (tree_at ts p) ≡ how_many is_some ts + one_if x
count_set [] p x below = absurd (omega (arith, below))
count_set (t ∷ ts) zero x below = swapped (one_if x) (how_many is_some ts) (one_if t)
  where
    swapped : (a b c : ℕ) → (a + b) + c ≡ (c + b) + a
    swapped a b c = omega arith
count_set (t ∷ ts) (suc p) x below = behind (one_if t) _ _ _ _ (count_set ts p x (omega (arith, below)))
  where
    behind : (a b c d e : ℕ) → b + c ≡ d + e → (a + b) + c ≡ (a + d) + e
    behind a b c d e h = omega arith

-- ---- one process in the list of all

abbrev from_place : ℕ → (ℕ → Option Area) → Trees → Spaces
from_place n f ts = filter_map (space_by f) (enumerate_from n ts)

-- no process below the first place is listed
none_below : (f : ℕ → Option Area) (n : ℕ) (ts : Trees) (p : ℕ) → p < n → areas_of (from_place n f ts) p ≡ None
none_below f n [] p below = refl
none_below f n (None ∷ ts) p below = none_below f (n + 1) ts p (omega (arith, below))
none_below f n (Some spans ∷ ts) p below = ap (λ b. cond b (Some (areas_by f spans)) (areas_of (from_place (n + 1) f ts) p)) (other p n below)
    ∙ none_below f (n + 1) ts p (omega (arith, below))
  where
    other : (p n : ℕ) → p < n → is_eq (nat_cmp p n) ≡ false
    other p n below = grind (arith, nat_tests, below)

areas_from : (f : ℕ → Option Area) (n k p : ℕ) (ts : Trees) → p ≡ n + k → areas_of (from_place n f ts) p ≡ option_map (areas_by f) (tree_at ts k)
areas_from f n k p [] is = refl
areas_from f n zero p (None ∷ ts) is = none_below f (n + 1) ts p (omega (arith, is))
areas_from f n zero p (Some spans ∷ ts) is = ap (λ b. cond b (Some (areas_by f spans)) (areas_of (from_place (n + 1) f ts) p))
    (same p n (let here : p ≡ n = omega (arith, is) in here))
  where
    same : (p n : ℕ) → p ≡ n → is_eq (nat_cmp p n) ≡ true
    same p n e = grind (arith, nat_tests, e)
areas_from f n (suc k) p (None ∷ ts) is = areas_from f (n + 1) k p ts (omega (arith, is))
areas_from f n (suc k) p (Some spans ∷ ts) is = ap (λ b. cond b (Some (areas_by f spans)) (areas_of (from_place (n + 1) f ts) p))
    (other p n (let above : n < p = omega (arith, is) in above)) ∙ areas_from f (n + 1) k p ts (omega (arith, is))
  where
    other : (p n : ℕ) → n < p → is_eq (nat_cmp p n) ≡ false
    other p n above = grind (arith, nat_tests, above)

-- a process's areas are those of its tree
pub areas_are : (f : ℕ → Option Area) (ts : Trees) (p : ℕ) → areas_of (spaces_by f ts) p ≡ option_map (areas_by f) (tree_at ts p)
areas_are f ts p = areas_from f 0 p p ts (omega arith)

count_from : (f : ℕ → Option Area) (n : ℕ) (ts : Trees) → length (from_place n f ts) ≡ how_many is_some ts
count_from f n [] = refl
count_from f n (None ∷ ts) = count_from f (n + 1) ts ∙ (let zero-first : how_many is_some ts ≡ 0 + how_many is_some ts = omega arith in zero-first)
count_from f n (Some spans ∷ ts) = one_more _ _ (count_from f (n + 1) ts)
  where
    one_more : (a b : ℕ) → a ≡ b → suc a ≡ 1 + b
    one_more a b h = omega (arith, h)

-- so many processes live as have a tree
pub count_is : (f : ℕ → Option Area) (ts : Trees) → length (spaces_by f ts) ≡ how_many is_some ts
count_is f ts = count_from f 0 ts

-- a process lives exactly where it has a tree
pub lives_is : (f : ℕ → Option Area) (m : Trees) (p : ℕ) → is_some (tree_at m p) ≡ is_some (areas_of (spaces_by f m) p)
lives_is f m p = same (tree_at m p) ∙ ap is_some (sym (areas_are f m p))
  where
    same : (o : Option (List Span)) → is_some o ≡ is_some (option_map (areas_by f) o)
    same None = refl
    same (Some spans) = refl

-- and there is a tree for each 16-bit number at most
pub number_below : (f : ℕ → Option Area) (ts : Trees) → length ts ≤ 2 ^ 16 → (p : ℕ) → is_some (areas_of (spaces_by f ts) p) ≡ true → p < 2 ^ 16
number_below f ts few p alive = let below = place_there ts p (lives_is f ts p ∙ alive) in omega (arith, below, few)

pub not_dead : (f : ℕ → Option Area) (m : Trees) (p : ℕ) → tree_at m p ≡ None → is_some (areas_of (spaces_by f m) p) ≡ true → ⊥
not_dead f m p is alive = false≢true (ap is_some (sym is) ∙ lives_is f m p ∙ alive)

pub some_mapped : {X Y : Type 0} (f : X → Y) (o : Option X) → is_some (option_map f o) ≡ is_some o
some_mapped f None = refl
some_mapped f (Some x) = refl

-- ---- one process

pub tree_of : (f : ℕ → Option Area) (m : Trees) (p : ℕ) (spans : List Span) → AreTrees f m → tree_at m p ≡ Some spans → AreAreasOf p f spans
tree_of f m p spans trees is = subst (λ o. MatchOption o (HasNone p f) (AreAreasOf p f)) is (trees p)

-- a page has the area that its process's tree says
pub pages_there : (f : ℕ → Option Area) (m : Trees) (p : ℕ) (spans : List Span) (s : Spaces) → AreTrees f m → Some spans ≡ tree_at m p
    → spaces_by f m ≡ s →
    (page : ℕ) → pages_of s p page ≡ pages_by f spans page
pages_there f m p spans s trees is view page =
    ap (λ s. pages_of s p page) (sym view)
    ∙ ap (λ o. pages_in o page) (areas_are f m p ∙ ap (option_map (areas_by f)) (sym is))
    ∙ pages_are f p spans (numbered f p spans (tree_of f m p spans trees (sym is))) page

-- and none where it doesn't live
pub none_dead : (f : ℕ → Option Area) (m : Trees) (p : ℕ) (s : Spaces) → None ≡ tree_at m p → spaces_by f m ≡ s → (page : ℕ)
    → None ≡ pages_of s p page
none_dead f m p s is view page = sym (ap (λ s. pages_of s p page) (sym view) ∙ ap (λ o. pages_in o page)
    (areas_are f m p ∙ ap (option_map (areas_by f)) (sym is)))

taken_at : (f : ℕ → Option Area) (p : ℕ) (spans : List Span) → AreAreasOf p f spans → (page : ℕ)
    → is_some (pages_by f spans page) ≡ is_page_taken spans page
taken_at f p spans areas page = by (area_at spans page) refl
  where
    by : (o : Option ℕ) → area_at spans page ≡ o → is_some (option_and_then f o) ≡ is_some o
    by None at = refl
    by (Some n) at = ap is_some (held_by f p spans page n areas at).area_is

-- the pages that are taken are those that the tree holds
pub taken_as : (f : ℕ → Option Area) (m : Trees) (p : ℕ) (spans : List Span) (s : Spaces) → AreTrees f m → Some spans ≡ tree_at m p
    → spaces_by f m ≡ s →
    is_page_taken spans ≡ is_taken s p
taken_as f m p spans s trees is view = λ i page. sym (ap is_some (pages_there f m p spans s trees is view page)
    ∙ taken_at f p spans (tree_of f m p spans trees (sym is)) page) i

-- ---- the areas rise

pub all_rising : (f : ℕ → Option Area) (m : Trees) → AreTrees f m → AllRising (spaces_by f m)
all_rising f m trees p = subst (λ o. IfSome o (AreRising p)) (sym (areas_are f m p)) (each (tree_at m p) (trees p))
  where
    each : (o : Option (List Span)) → MatchOption o (HasNone p f) (AreAreasOf p f) → IfSome (option_map (areas_by f) o) (AreRising p)
    each None h = tt
    each (Some spans) h = rising_of f p spans h

-- ---- places are added

no_more : (f : ℕ → Option Area) (n : ℕ) (ts : Trees) → from_place n f (ts ++ None ∷ []) ≡ from_place n f ts
no_more f n [] = refl
no_more f n (None ∷ ts) = no_more f (n + 1) ts
no_more f n (Some spans ∷ ts) = ap (λ s. (n, areas_by f spans) ∷ s) (no_more f (n + 1) ts)

at_more : (ts : Trees) (p : ℕ) → tree_at (ts ++ None ∷ []) p ≡ tree_at ts p
at_more [] zero = refl
at_more [] (suc p) = refl
at_more (t ∷ ts) zero = refl
at_more (t ∷ ts) (suc p) = at_more ts p

count_more : (ts : Trees) → how_many is_some (ts ++ None ∷ []) ≡ how_many is_some ts
count_more [] = omega arith
count_more (t ∷ ts) = ap (λ n. one_if t + n) (count_more ts)

pub not_grown : (ts : Trees) → IsGrown ts ts
not_grown ts = record { trees = λ p. refl; alive = refl; few = λ h. h; same = λ f. refl }

pub grown_more : (before ts after : Trees) → IsGrown before ts → length ts < 2 ^ 16 → after ≡ ts ++ None ∷ [] → IsGrown before after
grown_more before ts after h less is = subst (IsGrown before) (sym is) (record {
  trees = λ p. at_more ts p ∙ h.trees p;
  alive = count_more ts ∙ h.alive;
  few = λ few. simp length-append (omega (arith, less));
  same = λ f. no_more f 0 ts ∙ h.same f;
})

-- ---- one process changes, or comes, or goes

module _ (f f' : ℕ → Option Area) (p : ℕ) (others : KeepsOthers p f f') where
  -- the areas of another process stay
  area_stays : (q : ℕ) → q ≢ p → (s : Span) (n : ℕ) → IsSomeAnd (f n) (IsAreaOf q s) → f' n ≡ f n
  area_stays q apart s n = each (f n) refl
    where
      each : (o : Option Area) → f n ≡ o → IsSomeAnd o (IsAreaOf q s) → f' n ≡ f n
      each None is h = absurd h
      each (Some area) is h = others.stay n area (λ same. apart (sym h.process ∙ same)) is ∙ sym is

  kept : (q : ℕ) → q ≢ p → (o : Option (List Span)) → MatchOption o (HasNone q f) (AreAreasOf q f) → MatchOption o (HasNone q f') (AreAreasOf q f')
  kept q apart None none = λ n. each n (f' n) refl
    where
      each : (n : ℕ) (o : Option Area) → f' n ≡ o → IfSome o (λ area. area.pid ≢ q)
      each n None is = tt
      each n (Some area) is =
          λ same. subst (λ o. IfSome o (λ area. area.pid ≢ q)) (others.none_comes n area (λ here. apart (sym same ∙ here)) is) (none n) same
  kept q apart (Some spans) areas =
      record { spans_are = areas.spans_are; used = λ n. used n (span_of spans n) (areas.used n); all = λ n. each n (f' n) refl }
    where
      used : (n : ℕ) (o : Option Span) → IfSome o (λ s. IsSomeAnd (f n) (IsAreaOf q s)) → IfSome o (λ s. IsSomeAnd (f' n) (IsAreaOf q s))
      used n None h = tt
      used n (Some s) h = subst (λ o. IsSomeAnd o (IsAreaOf q s)) (sym (area_stays q apart s n h)) h

      each : (n : ℕ) (o : Option Area) → f' n ≡ o → IfSome o (λ area. area.pid ≡ q → is_some (span_of spans n) ≡ true)
      each n None is = tt
      each n (Some area) is = λ same. subst (λ o. IfSome o (λ area. area.pid ≡ q → is_some (span_of spans n) ≡ true))
          (others.none_comes n area (λ here. apart (sym same ∙ here)) is) (areas.all n) same

  areas_stay : (q : ℕ) → q ≢ p → (spans : List Span) → AreNumbered f q spans → areas_by f' spans ≡ areas_by f spans
  areas_stay q apart [] h = refl
  areas_stay q apart (s ∷ spans) h = λ i. cons_option (area_stays q apart s s.area h.0 i) (areas_stay q apart spans h.1 i)

  module _ (old new : Trees) (after : Option (List Span)) (trees : AreTrees f old) (areas : MatchOption after (HasNone p f') (AreAreasOf p f'))
      (now : (q : ℕ) → tree_at new q ≡ cond (q == p) after (tree_at old q)) where
    apart_of : (q : ℕ) → (q == p) ≡ false → q ≢ p
    apart_of q e = grind (arith, nat_tests)

    pub trees_changed : AreTrees f' new
    trees_changed q = subst (λ o. MatchOption o (HasNone q f') (AreAreasOf q f')) (sym (now q)) (by (q == p) refl)
      where
        by : (b : Bool) → (q == p) ≡ b → MatchOption (cond b after (tree_at old q)) (HasNone q f') (AreAreasOf q f')
        by true e = subst (λ q. MatchOption after (HasNone q f') (AreAreasOf q f')) (sym (eqb-true q p e)) areas
        by false e = kept q (apart_of q e) (tree_at old q) (trees q)

    -- each process has its ranges as before, but for the one that changes
    areas_now_are : (q : ℕ) → areas_of (spaces_by f' new) q ≡ cond (q == p) (option_map (areas_by f') after) (areas_of (spaces_by f old) q)
    areas_now_are q = areas_are f' new q ∙ ap (option_map (areas_by f')) (now q) ∙ by (q == p) refl
      where
        each : q ≢ p → (o : Option (List Span)) → MatchOption o (HasNone q f) (AreAreasOf q f)
            → option_map (areas_by f') o ≡ option_map (areas_by f) o
        each apart None h = refl
        each apart (Some spans) h = ap Some (areas_stay q apart spans (numbered f q spans h))

        by : (b : Bool) → (q == p) ≡ b → option_map (areas_by f') (cond b after (tree_at old q)) ≡ cond b (option_map (areas_by f') after)
            (areas_of (spaces_by f old) q)
        by true e = refl
        by false e = each (apart_of q e) (tree_at old q) (trees q) ∙ sym (areas_are f old q)

    same_length : how_many is_some new ≡ how_many is_some old → length (spaces_by f' new) ≡ length (spaces_by f old)
    same_length number = count_is f' new ∙ number ∙ sym (count_is f old)

    pub ended : after ≡ None → how_many is_some new + 1 ≡ how_many is_some old → IsEnded (spaces_by f old) (spaces_by f' new) p
    ended none number = record {
      areas = λ q. areas_now_are q ∙ ap (λ o. cond (q == p) (option_map (areas_by f') o) (areas_of (spaces_by f old) q)) none;
      number = ap (λ n. n + 1) (count_is f' new) ∙ number ∙ sym (count_is f old);
      rising = all_rising f' new trees_changed;
    }

    pub spawned : (spans : List Span) → after ≡ Some spans → how_many is_some new ≡ how_many is_some old + 1 →
        IsSpawned (spaces_by f old) (spaces_by f' new) p (areas_by f' spans)
    spawned spans is number = record {
      areas = λ q. areas_now_are q ∙ ap (λ o. cond (q == p) (option_map (areas_by f') o) (areas_of (spaces_by f old) q)) is;
      number = count_is f' new ∙ number ∙ ap (λ n. n + 1) (sym (count_is f old));
      rising = all_rising f' new trees_changed;
    }

    pub changed : (spans : List Span) → after ≡ Some spans → how_many is_some new ≡ how_many is_some old → (IsSo : Pages → Type 0)
        → IsSo (pages_by f' spans)
        → IsChanged (spaces_by f old) (spaces_by f' new) p IsSo
    changed spans is number IsSo so = record {
      others = λ q apart. areas_now_are q ∙ ap (λ b. cond b (option_map (areas_by f') after) (areas_of (spaces_by f old) q)) (other q apart);
      alive = ap is_some here;
      pages = subst IsSo (λ i page. sym (ap (λ o. pages_in o page) here ∙ pages_are f' p spans
          (numbered f' p spans (subst (λ o. MatchOption o (HasNone p f') (AreAreasOf p f')) is areas)) page) i) so;
      number = same_length number;
      were_rising = all_rising f old trees;
      rising = all_rising f' new trees_changed;
    }
      where
        other : (q : ℕ) → q ≢ p → (q == p) ≡ false
        other q apart = grind (arith, nat_tests)

        here : areas_of (spaces_by f' new) p ≡ Some (areas_by f' spans)
        here = areas_now_are p ∙ ap (λ b. cond b (option_map (areas_by f') after) (areas_of (spaces_by f old) p)) (itself p)
            ∙ ap (option_map (areas_by f')) is

-- ---- a process without areas

pub empty_areas : (f : ℕ → Option Area) (p : ℕ) → HasNone p f → AreAreasOf p f []
empty_areas f p none = record { spans_are = record { apart = tt; within = tt; distinct = tt }; used = λ n. tt; all = λ n. each (f n) (none n) }
  where
    each : (o : Option Area) → IfSome o (λ area. area.pid ≢ p) → IfSome o (λ area. area.pid ≡ p → false ≡ true)
    each None h = tt
    each (Some area) h = λ same. absurd (h same)

none_left : (f : ℕ → Option Area) (p : ℕ) → AreAreasOf p f [] → HasNone p f
none_left f p areas = λ n. each (f n) (areas.all n)
  where
    each : (o : Option Area) → IfSome o (λ area. area.pid ≡ p → false ≡ true) → IfSome o (λ area. area.pid ≢ p)
    each None h = tt
    each (Some area) h = λ same. false≢true (h same)

pub none_there : (f : ℕ → Option Area) (m : Trees) (p : ℕ) → AreTrees f m → areas_of (spaces_by f m) p ≡ None → HasNone p f
none_there f m p trees dead = each (tree_at m p) (sym (areas_are f m p) ∙ dead) (trees p)
  where
    each : (o : Option (List Span)) → option_map (areas_by f) o ≡ None → MatchOption o (HasNone p f) (AreAreasOf p f) → HasNone p f
    each None e h = h
    each (Some spans) e h = absurd (clash e)
      where
        clash : {x : List Area} → Some x ≡ None → ⊥
        clash e = cc

-- no area changes
pub stays_empty : (f : ℕ → Option Area) (p : ℕ) (spans : List Span) → spans ≡ [] → HasNone p f → Stays p f f spans
stays_empty f p spans empty none = subst (Stays p f f) (sym empty) (record { areas = empty_areas f p none; others = others_refl p f })

pub trees_same : (f : ℕ → Option Area) (old new : Trees) → AreTrees f old → ((p : ℕ) → tree_at new p ≡ tree_at old p) → AreTrees f new
trees_same f old new trees same p = subst (λ o. MatchOption o (HasNone p f) (AreAreasOf p f)) (sym (same p)) (trees p)

-- a process comes: its place is made, and its tree put there
module _ (f f' : ℕ → Option Area) (old mid : Trees) (p : ℕ) (spans : List Span) (s : Spaces) (trees : AreTrees f old) (view : spaces_by f old ≡ s)
    (dead : areas_of s p ≡ None)
    (stays : HasNone p f → Stays p f f' spans) (grown : IsGrown old mid) (place : p < length mid) where
  stays_come : Stays p f f' spans
  stays_come = stays (none_there f old p trees (ap (λ s. areas_of s p) view ∙ dead))

  now : (q : ℕ) → tree_at (slice_set mid p (Some spans)) q ≡ cond (q == p) (Some spans) (tree_at old q)
  now q = tree_set mid p (Some spans) place q ∙ ap (cond (q == p) (Some spans)) (grown.trees q)

  pub trees_spawned : AreTrees f' (slice_set mid p (Some spans))
  trees_spawned = trees_changed f f' p stays_come.others old (slice_set mid p (Some spans)) (Some spans) trees stays_come.areas now

  pub count_spawned : how_many is_some (slice_set mid p (Some spans)) ≡ how_many is_some old + 1
  count_spawned = counted _ _ _ _ (count_set mid p (Some spans) place) (ap one_if (grown.trees p ∙ none)) grown.alive
    where
      none : tree_at old p ≡ None
      none = no_map (tree_at old p) (sym (areas_are f old p) ∙ ap (λ s. areas_of s p) view ∙ dead)
        where
          no_map : (o : Option (List Span)) → option_map (areas_by f) o ≡ None → o ≡ None
          no_map None e = refl
          no_map (Some x) e = cc

      counted : (n w m k : ℕ) → n + w ≡ m + 1 → w ≡ 0 → m ≡ k → n ≡ k + 1
      counted n w m k a b c = omega arith

  pub spawns : IsSpawned s (spaces_by f' (slice_set mid p (Some spans))) p (areas_by f' spans)
  spawns = subst (λ s. IsSpawned s (spaces_by f' (slice_set mid p (Some spans))) p (areas_by f' spans)) view
      (spawned f f' p stays_come.others old (slice_set mid p (Some spans)) (Some spans) trees stays_come.areas now spans refl count_spawned)

-- the tree of p is emptied, and has gone from its place
module _ (f f' : ℕ → Option Area) (old : Trees) (p : ℕ) (before after : List Span) (s : Spaces) (trees : AreTrees f old) (view : spaces_by f old ≡ s)
    (was : tree_at old p ≡ Some before)
    (stays : AreAreasOf p f before → Stays p f f' after) (empty : after ≡ []) where
  place : p < length old
  place = place_there old p (ap is_some was)

  stays_now : Stays p f f' after
  stays_now = stays (tree_of f old p before trees was)

  pub trees_left : AreTrees f' (slice_set old p None)
  trees_left = trees_changed f f' p stays_now.others old (slice_set old p None) None trees
      (none_left f' p (subst (AreAreasOf p f') empty stays_now.areas))
      (tree_set old p None place)

  pub count_left : how_many is_some (slice_set old p None) + 1 ≡ how_many is_some old
  count_left = counted _ _ _ (count_set old p None place) (ap one_if was)
    where
      counted : (n w m : ℕ) → n + w ≡ m + 0 → w ≡ 1 → n + 1 ≡ m
      counted n w m a b = omega arith

  pub ends : IsEnded s (spaces_by f' (slice_set old p None)) p
  ends = subst (λ s. IsEnded s (spaces_by f' (slice_set old p None)) p) view
      (ended f f' p stays_now.others old (slice_set old p None) None trees (none_left f' p (subst (AreAreasOf p f') empty stays_now.areas))
      (tree_set old p None place) refl count_left)

-- the tree of p is changed where it lies
module _ (f f' : ℕ → Option Area) (old : Trees) (p : ℕ) (before after : List Span) (trees : AreTrees f old) (was : tree_at old p ≡ Some before)
    (stays : AreAreasOf p f before → Stays p f f' after) where
  held_place : p < length old
  held_place = place_there old p (ap is_some was)

  areas_before : AreAreasOf p f before
  areas_before = tree_of f old p before trees was

  lent_now : (q : ℕ) → tree_at (slice_set old p (Some after)) q ≡ cond (q == p) (Some after) (tree_at old q)
  lent_now = tree_set old p (Some after) held_place

  pub trees_lent : AreTrees f' (slice_set old p (Some after))
  trees_lent = trees_changed f f' p (stays areas_before).others old (slice_set old p (Some after)) (Some after) trees
      (stays areas_before).areas lent_now

  pub count_lent : how_many is_some (slice_set old p (Some after)) ≡ how_many is_some old
  count_lent = counted _ _ _ (count_set old p (Some after) held_place) (ap one_if was)
    where
      counted : (n w m : ℕ) → n + w ≡ m + 1 → w ≡ 1 → n ≡ m
      counted n w m a b = omega arith

  -- what holds of the pages, by what they were
  pub changes : (s : Spaces) → spaces_by f old ≡ s → (IsSo : Pages → Pages → Type 0) → IsSo (pages_by f before) (pages_by f' after) →
      IsChanged s (spaces_by f' (slice_set old p (Some after))) p (IsSo (pages_of s p))
  changes s is IsSo so =
      subst (λ (t : Spaces). IsChanged t (spaces_by f' (slice_set old p (Some after))) p (IsSo (pages_of s p))) is
      (changed f f' p (stays areas_before).others old (slice_set old p (Some after)) (Some after) trees
      (stays areas_before).areas lent_now
      after refl count_lent (IsSo (pages_of s p))
      (subst (λ (on : Pages). IsSo on (pages_by f' after)) (λ i page. sym (pages_there f old p before s trees (sym was) is page) i) so))

-- the areas of p change, and its tree stays
module _ (f f' : ℕ → Option Area) (ts : Trees) (p : ℕ) (spans : List Span) (trees : AreTrees f ts) (was : tree_at ts p ≡ Some spans)
    (stays : AreAreasOf p f spans → Stays p f f' spans) where
  stays_there : Stays p f f' spans
  stays_there = stays (tree_of f ts p spans trees was)

  still : (q : ℕ) → tree_at ts q ≡ cond (q == p) (Some spans) (tree_at ts q)
  still q = by (q == p) refl
    where
      by : (b : Bool) → (q == p) ≡ b → tree_at ts q ≡ cond b (Some spans) (tree_at ts q)
      by true e = ap (tree_at ts) (eqb-true q p e) ∙ was
      by false e = refl

  pub trees_still : AreTrees f' ts
  trees_still = trees_changed f f' p stays_there.others ts ts (Some spans) trees stays_there.areas still

  -- what holds of the pages, by what they were
  pub changes_still : (s : Spaces) → spaces_by f ts ≡ s → (IsSo : Pages → Pages → Type 0) → IsSo (pages_by f spans) (pages_by f' spans)
      → IsChanged s (spaces_by f' ts) p (IsSo (pages_of s p))
  changes_still s is IsSo so =
      subst (λ (t : Spaces). IsChanged t (spaces_by f' ts) p (IsSo (pages_of s p))) is
      (changed f f' p stays_there.others ts ts (Some spans) trees stays_there.areas still spans refl refl (IsSo (pages_of s p))
      (subst (λ (on : Pages). IsSo on (pages_by f' spans)) (λ i page. sym (pages_there f ts p spans s trees (sym was) is page) i) so))

pub if_each : {X Y : Type 0} (r : Result X Y) (P Q : X → Type 0) → ((x : X) → P x → Q x) → IfOk r P → IfOk r Q
if_each (Ok x) P Q h p = h x p
if_each (Err e) P Q h p = tt

pub on_err : {X Y : Type 0} (r : Result X Y) {P : Type 0} → P → OnErr r P
on_err (Ok x) p = tt
on_err (Err e) p = p

pub on_ok : {X Y : Type 0} (r : Result X Y) {P Q : Type 0} → (P → Q) → OnOk r P → OnOk r Q
on_ok (Ok x) h p = h p
on_ok (Err e) h p = tt

-- no more processes live than there are places
pub count_below : (ts : Trees) → how_many is_some ts ≤ length ts
count_below [] = omega arith
count_below (t ∷ ts) = let rest = count_below ts in one (is_some t) (how_many is_some ts) (length ts) rest
  where
    one : (b : Bool) (n m : ℕ) → n ≤ m → cond b 1 0 + n ≤ suc m
    one true n m h = omega (arith, h)
    one false n m h = omega (arith, h)

-- where one has a tree, some live
pub some_alive : (ts : Trees) (p : ℕ) → is_some (tree_at ts p) ≡ true → 1 ≤ how_many is_some ts
some_alive ts p h = let set = count_set ts p None (place_there ts p h) in let one = ap (λ b. cond {A = ℕ} b 1 0) h in omega (arith, set, one)
