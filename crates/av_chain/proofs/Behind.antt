-- A link joined behind the last of a list, whose head is kept apart from the heads of all lists.
use Rattle.av_base.specs.Words.{is_in, with_at}
use Rattle.std.proofs.Common.{◌≡◌, ℕ, false, cond, List, [], ◌∷◌, ◌++◌, ap, ◌∙◌, subst, Option, Some, None}
use denote.RawPtr.{Ptr}
use Rattle.av_chain.specs.declared.node.Node.{Node}
use Rattle.av_chain.specs.declared.node.Head.{Head}
use Rattle.av_chain.specs.declared.node.Way.TheVariants.{Area, Anon}
use Rattle.av_chain.specs.declared.node.Place.{Place}
use Rattle.av_chain.specs.Nodes.{Block, IsApart}
use Rattle.av_chain.specs.Rows.{node_of, leads_on, Reaches, last_of, head_with}
use Rattle.av_chain.specs.Links.{chain_of}
use Rattle.av_chain.specs.Lists.{links_of, AreThreaded}
use Rattle.av_chain.proofs.Threads.{same_number}
use Rattle.av_chain.proofs.TwoMaps.{with_at_same, with_at_twice}
use Rattle.av_chain.proofs.Wholes.{whole_heads, first_join, second_join, links_made, whole_made}

pub at_own : {X : Type 0} (k : ℕ) (x : X) (f : ℕ → X) → with_at k x f k ≡ x
at_own k x f = ap (λ y. cond y x (f k)) (same_number k)

pub at_twice : {X : Type 0} (k : ℕ) (x y : X) (f : ℕ → X) (j : ℕ) → with_at k x (with_at k y f) j ≡ with_at k x f j
at_twice {X = X} k x y f j = ap (λ (g : ℕ → X). g j) (with_at_twice k x y f)

-- the head that stands there already is told
pub told_own : (area : ℕ) (areas areas' anons anons' : ℕ → Option Head) (bs : List Block) → ((k : ℕ) → areas' k ≡ areas k) → ((k : ℕ) → anons' k ≡ anons k) →
    AreThreaded areas anons bs → AreThreaded (with_at area (areas' area) areas') anons' bs
told_own area areas areas' anons anons' bs ea ev t =
    whole_heads areas (with_at area (areas' area) areas') anons anons' bs (λ k. ap (λ (g : ℕ → Option Head). g k) (with_at_same area areas') ∙ ea k) ev t

module _ (A V : ℕ → Option Head) (bs : List Block) (p : Ptr) (area anon : ℕ) where
  -- a node that comes last in the lists with these heads
  abbrev pub node_behind : Option Head → Option Head → Node
  node_behind h u = node_of area anon (record { before = last_of h; after = None }) (record { before = last_of u; after = None })

  abbrev pub place : Place
  place = record { ptr = p }

  -- the nodes, once this one comes last in the area's list
  abbrev pub in_area : Option Head → Option Head → List Block
  in_area h u = leads_on Area (last_of h) (Some place) (bs ++ (p, node_behind h u) ∷ [])

  -- and in the anon_vma's
  abbrev pub in_both : Option Head → Option Head → List Block
  in_both h u = leads_on Anon (last_of u) (Some place) (in_area h u)

  pub record IsBehind (h u : Option Head) : Type 0 where
    pub first : Reaches (last_of h) (bs ++ (p, node_behind h u) ∷ [])
    pub second : Reaches (last_of u) (in_area h u)
    pub kept : is_in anon (chain_of (links_of bs) area) ≡ false →
        AreThreaded (with_at area (Some (head_with place h)) A) (with_at anon (Some (head_with place u)) V) (in_both h u)
    pub links : links_of (in_both h u) ≡ links_of bs ++ (area, anon) ∷ []

  pub behind : (h u : Option Head) → A area ≡ h → V anon ≡ u → AreThreaded A V bs → IsApart (bs ++ (p, node_behind h u) ∷ []) → IsBehind h u
  behind h u e f t = subst (λ g. IsApart (bs ++ (p, node_behind g u) ∷ []) → IsBehind g u) e
      (subst (λ v. IsApart (bs ++ (p, node_behind (A area) v) ∷ []) → IsBehind (A area) v) f (λ d. record {
        first = first_join A V bs p area anon t d;
        second = second_join A V bs p area anon t d;
        kept = whole_made A V bs p area anon t d;
        links = links_made A V bs p area anon t d;
      }))
