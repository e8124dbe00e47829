-- The areas of a process go to its child, one by one: what is so after each.
use Rattle.std.proofs.Common.{◌≡◌, ◌≢◌, ℕ, zero, suc, ◌+◌, ◌<◌, ◌≤◌, Bool, true, false, not, cond, List, [], ◌∷◌, ◌++◌, length, drop, take, slice_index_or, slice_set, inl, inr, Option, Some, None, is_some, option_map, IfSome, IsSome, IsSomeAnd, refl, sym, ap, subst, ◌∙◌, arith}
use Rattle.std.proofs.lemmas.Bool.{cases_lt, lt-ltb}
use Rattle.std.proofs.lemmas.Bool.Decides.{nat_tests}
use Rattle.std.proofs.lemmas.List.{append-nil, drop_more, take_all, take_more}
use Rattle.std.proofs.lemmas.List.Elements.{filter-append, filter_map-append}
use Rattle.std.proofs.lemmas.Option.{same_Some}
use Rattle.std.specs.Prelude.{nat_lt}
use Rattle.std.specs.List.{cons_option, AllByRecursion}
use Rattle.av_base.specs.Words.{with_at}
use Rattle.av_vma.specs.declared.area.Area.{Area}
use Rattle.av_vma.specs.Areas.{area_of}
use Rattle.av_vma.specs.Fork.{areas_to_fork, own_to_fork}
use Rattle.av_vma.specs.Index.{first_of, past_of}
use Rattle.av_vma.specs.Pages.{IsWhole}
use Rattle.av_vmatree.specs.declared.span.Span.{Span}
use Rattle.av_vmatree.specs.Spans.{AreApart, IsFree, is_page_taken, span, with_span}
use Rattle.av_vmatree.proofs.Spans.{holds_above}
use Rattle.av_anon.specs.declared.anons.Anons.{Anons}
use Rattle.av_anon.proofs.Words.{with_at-here, with_at-other}
use Rattle.av_merge.specs.Forking.{IsForkedTo, Lineage, area_in_child, kin_by, kin_with}
use Rattle.av_merge.specs.Kin.{AreInOrder}
use Rattle.av_merge.specs.Process.{AreAreasOf, IsAreaOf, Stays}
use Rattle.av_merge.proofs.PlacingLaws.{stays_trans}
use Rattle.av_spaces.specs.Fork.{ForksInTurn, GoInTurn, HasForked, IsForked, areas_in_child, kin_after}
use Rattle.av_spaces.specs.Spaces.{AllSpaces, IsSpawned, areas_of}
use Rattle.av_spaces.specs.Trees.{AreTrees, HasNone, IsGrown, Trees, all_spaces, areas_by, spaces_by, tree_at}
use Rattle.av_spaces.proofs.Areas.{AreNumbered, numbered, numbered_rest}
use Rattle.av_spaces.proofs.Kin.{fit_in}
use Rattle.av_spaces.proofs.Trees.{areas_are, spawns, stays_empty, tree_of, trees_spawned}

-- each of these spans ends before each of those
abbrev AreBelow : List Span → List Span → Type 0
AreBelow spans later = AllByRecursion (λ s. AllByRecursion (λ t. s.to ≤ t.from) later) spans

-- the areas of the first i spans went to the child
pub record IsForking (child : ℕ) (old areas : List (Option Area)) (tree : List Span) (before anons : Anons) (spans : List Span) (i : ℕ) : Type 0 where
  pub done : HasForked child old before (take i spans) areas tree anons
  pub below : AreBelow tree (drop i spans)
  pub between : (n : ℕ) → n ≤ i
      → (mid : List (Option Area)) × (tree : List Span) × (anons : Anons) × HasForked child old before (take n spans) mid tree anons

-- at first
pub forks_none : (child : ℕ) (old : List (Option Area)) (before : Anons) (tree spans : List Span) → AreInOrder old before →
    HasNone child (area_of old) → tree ≡ []
    → IsForking child old old tree before before spans 0
forks_none child old before tree spans order none empty = record {
  done = first;
  below = subst (λ t. AreBelow t spans) (sym empty) tt;
  between = λ n less. let e : 0 ≡ n = omega arith in
      (old, tree, before, subst (λ n. HasForked child old before (take n spans) old tree before) e first);
}
  where
    first : HasForked child old before [] old tree before
    first = subst (λ t. HasForked child old before [] old t before) (sym empty)
        (record { stands = stays_empty (area_of old) child [] refl none; areas = refl; kin = refl; order = order })

-- ---- lists of areas

-- one area more
pub areas_in_child-more : (child : ℕ) (areas : List Area) (area : Area) (k : Lineage)
    → areas_in_child child (areas ++ area ∷ []) k ≡ areas_in_child child areas k ++ area_in_child child (kin_after areas k) area ∷ []
areas_in_child-more child [] area k = refl
areas_in_child-more child (a ∷ areas) area k = ap (λ l. area_in_child child k a ∷ l) (areas_in_child-more child areas area (kin_with (own_to_fork a) k))

pub kin_after-more : (areas : List Area) (area : Area) (k : Lineage) → kin_after (areas ++ area ∷ []) k ≡ kin_with (own_to_fork area) (kin_after areas k)
kin_after-more [] area k = refl
kin_after-more (a ∷ areas) area k = kin_after-more areas area (kin_with (own_to_fork a) k)

-- whether an area goes over
abbrev over : Area → Bool
over area = not area.flags.dont_fork

-- one that goes over is the last of them, and one that doesn't is none of them
goes_over : (areas : List Area) (area : Area) → area.flags.dont_fork ≡ false → areas_to_fork (areas ++ area ∷ []) ≡ areas_to_fork areas ++ area ∷ []
goes_over areas area goes = filter-append over areas (area ∷ []) ∙ ap (λ b. areas_to_fork areas ++ cond (not b) (area ∷ []) []) goes

left_out : (areas : List Area) (area : Area) → area.flags.dont_fork ≡ true → areas_to_fork (areas ++ area ∷ []) ≡ areas_to_fork areas
left_out areas area out = filter-append over areas (area ∷ []) ∙ ap (λ b. areas_to_fork areas ++ cond (not b) (area ∷ []) []) out
    ∙ append-nil (areas_to_fork areas)

-- the first of those that go over are those of the first areas, if more of these
record AreFirst (n : ℕ) (areas : List Area) : Type 0 where
  m : ℕ
  are : take n (areas_to_fork areas) ≡ areas_to_fork (take m areas)

first_to_fork : (areas : List Area) (n : ℕ) → AreFirst n areas
first_to_fork [] zero = record { m = 0; are = refl }
first_to_fork [] (suc n) = record { m = 0; are = refl }
first_to_fork (a ∷ areas) zero = record { m = 0; are = refl }
first_to_fork (a ∷ areas) (suc n) = by (first_to_fork areas n) (first_to_fork areas (suc n)) (not a.flags.dont_fork) refl
  where
    by : AreFirst n areas → AreFirst (suc n) areas → (b : Bool) → not a.flags.dont_fork ≡ b → AreFirst (suc n) (a ∷ areas)
    by rest all true e =
        record {
          m = suc rest.m;
          are = ap (λ b. take (suc n) (cond b (a ∷ areas_to_fork areas) (areas_to_fork areas))) e ∙ ap (λ l. a ∷ l) rest.are
              ∙ sym (ap (λ b. cond b (a ∷ areas_to_fork (take rest.m areas)) (areas_to_fork (take rest.m areas))) e);
        }
    by rest all false e =
        record {
          m = suc all.m;
          are = ap (λ b. take (suc n) (cond b (a ∷ areas_to_fork areas) (areas_to_fork areas))) e ∙ all.are
              ∙ sym (ap (λ b. cond b (a ∷ areas_to_fork (take all.m areas)) (areas_to_fork (take all.m areas))) e);
        }

-- the first of the areas are those of the first spans
areas_by-take : (f : ℕ → Option Area) (p n : ℕ) (spans : List Span) → AreNumbered f p spans → areas_by f (take n spans) ≡ take n (areas_by f spans)
areas_by-take f p zero spans h = refl
areas_by-take f p (suc n) [] h = refl
areas_by-take f p (suc n) (s ∷ spans) h = by (f s.area) h.0 (areas_by-take f p n spans h.1)
  where
    by : (o : Option Area) → IsSomeAnd o (IsAreaOf p s) → areas_by f (take n spans) ≡ take n (areas_by f spans)
        → cons_option o (areas_by f (take n spans)) ≡ take (suc n) (cons_option o (areas_by f spans))
    by None is rest = absurd is
    by (Some area) is rest = ap (λ l. area ∷ l) rest

-- ---- lists of spans

-- no page is taken from where all spans end
free_above : (spans : List Span) (from past : ℕ) → AllByRecursion (λ s. s.to ≤ from) spans → IsFree (is_page_taken spans) from past
free_above [] from past below = λ page low high. refl
free_above (s ∷ spans) from past below = λ page low high.
    let out = holds_above s page (let end = below.0 in omega (arith, end, low)) in
    rw out (free_above spans from past below.1 page low high)

-- a span that begins after all others is the last
with_last : (x : Span) (spans : List Span) → AllByRecursion (λ s. s.from < x.from) spans → with_span x spans ≡ spans ++ x ∷ []
with_last x [] below = refl
with_last x (s ∷ spans) below =
    ap (λ b. cond b (x ∷ s ∷ spans) (s ∷ cond (nat_lt s.from x.from) (with_span x spans) spans)) (not_below x.from s.from below.0)
    ∙ ap (λ b. s ∷ cond b (with_span x spans) spans) (lt-ltb s.from x.from below.0)
    ∙ ap (λ l. s ∷ l) (with_last x spans below.1)
  where
    not_below : (a b : ℕ) → b < a → nat_lt a b ≡ false
    not_below a b h = grind (arith, nat_tests)

all_more : (P : Span → Type 0) (spans : List Span) (x : Span) → AllByRecursion P spans → P x → AllByRecursion P (spans ++ x ∷ [])
all_more P [] x all here = (here, tt)
all_more P (s ∷ spans) x all here = (all.0, all_more P spans x all.1 here)

all_as : (P Q : Span → Type 0) (spans : List Span) → ((s : Span) → P s → Q s) → AllByRecursion P spans → AllByRecursion Q spans
all_as P Q [] as_q all = tt
all_as P Q (s ∷ spans) as_q all = (as_q s all.0, all_as P Q spans as_q all.1)

-- spans that end before another's first page begin before it
begin_below : (spans : List Span) (from : ℕ) → AreApart spans → AllByRecursion (λ s. s.to ≤ from) spans → AllByRecursion (λ s. s.from < from) spans
begin_below [] from apart below = tt
begin_below (s ∷ spans) from apart below =
    ((let some = apart.0 in let end = below.0 in omega (arith, some, end)), begin_below spans from apart.2 below.1)

apart_rest : (i : ℕ) (spans : List Span) → AreApart spans → AreApart (drop i spans)
apart_rest zero spans h = h
apart_rest (suc i) [] h = tt
apart_rest (suc i) (s ∷ spans) h = apart_rest i spans h.2

-- an area comes under a new number: those of these spans stay
areas_kept : (f f' : ℕ → Option Area) (q n : ℕ) (new : Option Area) (spans : List Span) → AreNumbered f q spans → f n ≡ None →
    ((k : ℕ) → f' k ≡ with_at n new f k)
    → areas_by f' spans ≡ areas_by f spans
areas_kept f f' q n new [] h unused now = refl
areas_kept f f' q n new (s ∷ spans) h unused now = λ i. cons_option (same i) (areas_kept f f' q n new spans h.1 unused now i)
  where
    other : s.area ≢ n
    other e = subst (λ o. IsSomeAnd o (IsAreaOf q s)) (ap f e ∙ unused) h.0

    same : f' s.area ≡ f s.area
    same = now s.area ∙ with_at-other n new f s.area other

-- ---- one area more

-- the area of a span: of another process, and so as it was at first
pub record IsNext (p : ℕ) (old areas : ℕ → Option Area) (s : Span) : Type 0 where
  pub area : Area
  pub was : old s.area ≡ Some area
  pub now : areas s.area ≡ Some area
  pub is : IsAreaOf p s area

module _ (child p : ℕ) (old areas : List (Option Area)) (tree : List Span) (before anons : Anons) (spans : List Span) (i : ℕ)
    (inside : i < length spans)
    (parent : AreAreasOf p (area_of old) spans) (none : HasNone child (area_of old)) (h : IsForking child old areas tree before anons spans i) where
  abbrev s : Span
  s = slice_index_or spans i (record { from = 0; to = 0; area = 0 })

  abbrev left : List Span
  left = drop (i + 1) spans

  now_next : drop i spans ≡ s ∷ left
  now_next = drop_more spans i (record { from = 0; to = 0; area = 0 }) inside

  below : AreBelow tree (s ∷ left)
  below = subst (AreBelow tree) now_next h.below

  numbers : AreNumbered (area_of old) p (s ∷ left)
  numbers = subst (AreNumbered (area_of old) p) now_next (numbered_rest (area_of old) p i spans (numbered (area_of old) p spans parent))

  apart : AreApart (s ∷ left)
  apart = subst AreApart now_next (apart_rest i spans parent.spans_are.apart)

  pub next : IsNext p (area_of old) (area_of areas) s
  next = by (area_of old s.area) refl numbers.0 (none s.area)
    where
      by : (o : Option Area) → area_of old s.area ≡ o → IsSomeAnd o (IsAreaOf p s) → IfSome o (λ area. area.pid ≢ child) →
          IsNext p (area_of old) (area_of areas) s
      by None e is other = absurd is
      by (Some area) e is other = record { area = area; was = e; now = h.done.stands.others.stay s.area area other e; is = is }

  pub next_whole : IsSomeAnd (area_of areas s.area) IsWhole
  next_whole = let n = next in subst (λ o. IsSomeAnd o IsWhole) (sym n.now) n.is.whole

  ends_below : AllByRecursion (λ t. t.to ≤ s.from) tree
  ends_below = all_as (λ t. AllByRecursion (λ u. t.to ≤ u.from) (s ∷ left)) (λ t. t.to ≤ s.from) tree (λ t both. both.0) below

  pub next_free : IfSome (area_of areas s.area) (λ area. IsFree (is_page_taken tree) (first_of area) (past_of area))
  next_free =
      let n = next in
      subst (λ o. IfSome o (λ area. IsFree (is_page_taken tree) (first_of area) (past_of area))) (sym n.now)
      (subst (λ from. IsFree (is_page_taken tree) from (past_of n.area)) n.is.from (free_above tree s.from (past_of n.area) ends_below))

  pub next_used : IsSome (area_of areas s.area)
  next_used = ap is_some next.now

  abbrev earlier : List Area
  earlier = areas_by (area_of old) (take i spans)

  more : (area : Area) → area_of old s.area ≡ Some area → areas_by (area_of old) (take (i + 1) spans) ≡ earlier ++ area ∷ []
  more area was = ap (areas_by (area_of old)) (take_more spans i (record { from = 0; to = 0; area = 0 }) inside)
      ∙ filter_map-append (λ (t : Span). area_of old t.area) (take i spans) (s ∷ []) ∙ ap (λ o. earlier ++ cons_option o []) was

  -- the area doesn't go over
  pub forks_without : (area : Area) → area_of areas s.area ≡ Some area → area.flags.dont_fork ≡ true
      → IsForking child old areas tree before anons spans (i + 1)
  forks_without area is out =
      let n = next in
      let k = kin_by old before in
      let same : n.area ≡ area = same_Some n.area area (sym n.now ∙ is) in
      let all : areas_to_fork (areas_by (area_of old) (take (i + 1) spans)) ≡ areas_to_fork earlier =
      ap areas_to_fork (more area (n.was ∙ ap Some same)) ∙ left_out earlier area out in
      let now : HasForked child old before (take (i + 1) spans) areas tree anons = record {
        stands = h.done.stands;
        areas = h.done.areas ∙ sym (ap (λ l. areas_in_child child l k) all);
        kin = h.done.kin ∙ sym (ap (λ l. kin_after l k) all);
        order = h.done.order;
      } in
      record {
        done = now;
        below = all_as (λ t. AllByRecursion (λ u. t.to ≤ u.from) (s ∷ left)) (λ t. AllByRecursion (λ u. t.to ≤ u.from) left) tree
            (λ t both. both.1) below;
        between = λ n less. elim (cases_lt i n) [
          | inl late ↦ let e : i + 1 ≡ n = omega (arith, late, less) in
              (areas, tree, anons, subst (λ n. HasForked child old before (take n spans) areas tree anons) e now)
          | inr early ↦ h.between n early
        ];
      }

  module _ (new : List (Option Area)) (after : List Span) (anons' : Anons) (stands : Stays child (area_of areas) (area_of new) after) where
    forks_as : (area : Area) (number : ℕ) → area_of old s.area ≡ Some area → IsAreaOf p s area → area.flags.dont_fork ≡ false
        → IsForkedTo child area areas tree anons new after anons' number
        → IsForking child old new after before anons' spans (i + 1)
    forks_as area number was is goes g =
        let k = kin_by old before in
        let x = span number (first_of area) (past_of area) in
        let made = area_in_child child (kin_by areas anons) area in
        let begins : AllByRecursion (λ t. t.from < first_of area) tree =
        subst (λ from. AllByRecursion (λ t. t.from < from) tree) is.from (begin_below tree s.from h.done.stands.areas.spans_are.apart ends_below) in
        let last : after ≡ tree ++ x ∷ [] = g.tree ∙ with_last x tree begins in
        let here : area_of new number ≡ Some made = g.areas number ∙ with_at-here number (Some made) (area_of areas) in
        let kept = areas_kept (area_of areas) (area_of new) child number (Some made) tree
        (numbered (area_of areas) child tree h.done.stands.areas) g.unused g.areas in
        let list : areas_by (area_of new) after ≡ areas_by (area_of areas) tree ++ made ∷ [] =
        ap (areas_by (area_of new)) last ∙ filter_map-append (λ (t : Span). area_of new t.area) tree (x ∷ [])
        ∙ (λ j. kept j ++ cons_option (here j) []) in
        let all : areas_to_fork (areas_by (area_of old) (take (i + 1) spans)) ≡ areas_to_fork earlier ++ area ∷ [] =
        ap areas_to_fork (more area was) ∙ goes_over earlier area goes in
        let now : HasForked child old before (take (i + 1) spans) new after anons' = record {
          stands = stays_trans child (area_of old) (area_of areas) (area_of new) tree after h.done.stands stands;
          areas =
              list ∙ (λ j. h.done.areas j ++ area_in_child child (h.done.kin j) area ∷ [])
              ∙ sym (ap (λ l. areas_in_child child l k) all ∙ areas_in_child-more child (areas_to_fork earlier) area k);
          kin = g.kin ∙ ap (kin_with (own_to_fork area)) h.done.kin ∙ sym (ap (λ l. kin_after l k) all ∙ kin_after-more (areas_to_fork earlier) area k);
          order = g.order;
        } in
        record {
          done = now;
          below = subst (λ l. AreBelow l left) (sym last)
              (all_more (λ t. AllByRecursion (λ u. t.to ≤ u.from) left) tree x
              (all_as (λ t. AllByRecursion (λ u. t.to ≤ u.from) (s ∷ left)) (λ t. AllByRecursion (λ u. t.to ≤ u.from) left) tree
              (λ t both. both.1) below)
              (subst (λ to. AllByRecursion (λ u. to ≤ u.from) left) is.to apart.1));
          between = λ n less. elim (cases_lt i n) [
            | inl late ↦ let e : i + 1 ≡ n = omega (arith, late, less) in
                (new, after, anons', subst (λ n. HasForked child old before (take n spans) new after anons') e now)
            | inr early ↦ h.between n early
          ];
        }

    pub forks_more : (area : Area) → area_of areas s.area ≡ Some area → area.flags.dont_fork ≡ false → IsSomeAnd (area_of areas s.area) (λ area. (number : ℕ) × IsForkedTo child area areas tree anons new after anons' number)
        → IsForking child old new after before anons' spans (i + 1)
    forks_more area is goes forked =
        let n = next in
        let g = subst (λ o. IsSomeAnd o (λ area. (number : ℕ) × IsForkedTo child area areas tree anons new after anons' number)) n.now forked in
        forks_as n.area g.0 n.was n.is (ap (λ (a : Area). a.flags.dont_fork) (same_Some n.area area (sym n.now ∙ is)) ∙ goes) g.1

-- at last
module _ (child : ℕ) (old areas : List (Option Area)) (tree : List Span) (before anons : Anons) (spans : List Span) (i : ℕ)
    (outside : length spans ≤ i)
    (h : IsForking child old areas tree before anons spans i) where
  pub forks_all : HasForked child old before spans areas tree anons
  forks_all = subst (λ l. HasForked child old before l areas tree anons) (take_all i spans outside) h.done

  pub forks_in_turn : ForksInTurn child old before spans
  forks_in_turn n = elim (cases_lt i n) [
    | inl late ↦ (
      areas,
      tree,
      anons,
      subst (λ l. HasForked child old before l areas tree anons)
          (sym (take_all n spans (omega (arith, late, outside)))) forks_all,
    )
    | inr early ↦ h.between n early
  ]

-- ---- all processes

module _ (child parent : ℕ) (old : List (Option Area)) (before mid : Trees) (a : Anons) (spans : List Span) (trees : AreTrees (area_of old) before)
    (was : tree_at before parent ≡ Some spans) (grown : IsGrown before mid) (place : child < length mid) where
  there : areas_of (spaces_by (area_of old) before) parent ≡ Some (areas_by (area_of old) spans)
  there = areas_are (area_of old) before parent ∙ ap (option_map (areas_by (area_of old))) was

  -- the child's tree is put into its place
  forked_by : (new : List (Option Area)) (tree done : List Span) (a' : Anons) → areas_of (spaces_by (area_of old) before) child ≡ None
      → HasForked child old a done new tree a' → IsForked (all_spaces old before) a (all_spaces new (slice_set mid child (Some tree))) a' child
      (areas_to_fork (areas_by (area_of old) done))
  forked_by new tree done a' dead h = record {
    spawned = subst (IsSpawned (spaces_by (area_of old) before) (spaces_by (area_of new) (slice_set mid child (Some tree))) child) h.areas
        (spawns (area_of old) (area_of new) before mid child tree (spaces_by (area_of old) before) trees refl dead (λ _. h.stands) grown place);
    kin = h.kin;
    fit = fit_in new (slice_set mid child (Some tree)) a'
        (trees_spawned (area_of old) (area_of new) before mid child tree (spaces_by (area_of old) before) trees refl dead (λ _. h.stands) grown
        place) h.order;
  }

  pub forked : (new : List (Option Area)) (tree : List Span) (a' : Anons) (s : AllSpaces) → all_spaces old before ≡ s
      → areas_of s.processes child ≡ None
      → HasForked child old a spans new tree a'
      → IsSomeAnd (areas_of s.processes parent) (λ areas. IsForked s a (all_spaces new (slice_set mid child (Some tree))) a' child (areas_to_fork areas))
  forked new tree a' s view dead h =
      subst (λ (s : AllSpaces). areas_of s.processes child ≡ None
      → IsSomeAnd (areas_of s.processes parent) (λ areas. IsForked s a (all_spaces new (slice_set mid child (Some tree))) a' child (areas_to_fork areas)))
      view
      (λ dead. subst (λ o. IsSomeAnd o (λ areas. IsForked (all_spaces old before) a (all_spaces new (slice_set mid child (Some tree))) a' child
      (areas_to_fork areas))) (sym there)
      (forked_by new tree spans a' dead h)) dead

  pub in_turn : (s : AllSpaces) → all_spaces old before ≡ s → areas_of s.processes child ≡ None → ForksInTurn child old a spans
      → IsSomeAnd (areas_of s.processes parent) (λ areas. GoInTurn s a child (areas_to_fork areas))
  in_turn s view dead h =
      subst (λ (s : AllSpaces). areas_of s.processes child ≡ None → IsSomeAnd (areas_of s.processes parent)
      (λ areas. GoInTurn s a child (areas_to_fork areas))) view
      (λ dead. subst (λ o. IsSomeAnd o (λ areas. GoInTurn (all_spaces old before) a child (areas_to_fork areas))) (sym there) (λ n.
      let f = first_to_fork (areas_by (area_of old) spans) n in
      let m = h f.m in
      let first = ap areas_to_fork (areas_by-take (area_of old) parent f.m spans
      (numbered (area_of old) parent spans (tree_of (area_of old) before parent spans trees was))) ∙ sym f.are in (
        all_spaces m.0 (slice_set mid child (Some m.1)),
        m.2,
        subst (IsForked (all_spaces old before) a (all_spaces m.0 (slice_set mid child (Some m.1))) m.2 child) first
            (forked_by m.0 m.1 (take f.m spans) m.2 dead m.3),
      ))) dead
