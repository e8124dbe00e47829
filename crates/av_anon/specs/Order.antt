-- Chain order: how the areas' chains of anon_vmas hang together.
use Rattle.std.specs.Prelude.{◌≡◌, ℕ, ◌<◌, ◌^◌, Bool, true, false, ◌==◌, List, [], Option, Some}
use Rattle.std.specs.Prelude.{None, IsSome}
use Rattle.av_base.specs.Words.{how_many, is_in}
use Rattle.std.specs.List.{range_with_len}
use Rattle.av_chain.specs.Links.{AreMutual}
use Rattle.av_vma.specs.declared.area.Area.{Area}
use Rattle.av_vma.specs.Index.{first_of, past_of, index_of}
use Rattle.av_interval.specs.declared.span.Span.{Span}
use Rattle.av_anon.specs.declared.infos.Info.{Info}
use Rattle.av_anon.specs.Anons.{Family, IsRising, own_of}
use Rattle.av_anon.specs.Spans.{GoWithLinks}

-- whether the anon_vma is there and p is its parent
abbrev pub is_child : ℕ → Option Info → Bool
is_child p None = false
is_child p (Some i) = i.parent == p

-- whether v is the own anon_vma
abbrev pub owns : ℕ → Option ℕ → Bool
owns v None = false
owns v (Some own) = own == v

-- the members of a chain
pub record IsChain (info : ℕ → Option Info) (next : ℕ) (own : Option ℕ) (chain : List ℕ)
    : Type 0 where
  -- it is empty exactly where the area has no own anon_vma, else it holds that one
  pub none : own ≡ None → chain ≡ []
  pub own_in : (v : ℕ) → own ≡ Some v → is_in v chain ≡ true
  -- each member is there and was made; a later one stands later
  pub there : (v : ℕ) → is_in v chain ≡ true → IsSome (info v)
  pub made : (v : ℕ) → is_in v chain ≡ true → v < next
  pub rising : IsRising chain
  -- it holds the parent of each member, and the root, which is one for all members
  pub parents : (v : ℕ) (i : Info) → is_in v chain ≡ true → info v ≡ Some i
      → is_in i.parent chain ≡ true
  pub roots : (v : ℕ) (i : Info) → is_in v chain ≡ true → info v ≡ Some i
      → is_in i.root chain ≡ true
  pub one_root : (v w : ℕ) (i j : Info) → is_in v chain ≡ true → is_in w chain ≡ true
      → info v ≡ Some i → info w ≡ Some j → i.root ≡ j.root

-- children: how many have it as their parent. active: how many of its users have it as their own
pub record IsCounted (areas : ℕ → Option Area) (f : Family) (v : ℕ) (i : Info) : Type 0 where
  pub children : i.children ≡ how_many (λ u. is_child v (f.info u)) (range_with_len 0 f.next)
  pub active : i.active ≡ how_many (λ a. owns v (own_of (areas a))) (f.users v)

-- an area has a page, and its indices are numbers of the machine
pub record IsArea (area : Area) : Type 0 where
  pub forward : first_of area < past_of area
  pub small : index_of area (past_of area) < 2 ^ 64

-- chain order
pub record IsInOrder (areas : ℕ → Option Area) (f : Family) (spans : ℕ → List Span) : Type 0 where
  pub chains : (a : ℕ) → IsChain f.info f.next (own_of (areas a)) (f.chain a)
  -- two areas with one own anon_vma have one chain
  pub alike : (a b v : ℕ) → own_of (areas a) ≡ Some v → own_of (areas b) ≡ Some v
      → f.chain a ≡ f.chain b
  pub counted : (v : ℕ) (i : Info) → f.info v ≡ Some i → IsCounted areas f v i
  -- each link stands once in both maps, and an anon_vma is there while an area is linked to it
  pub inverse : AreMutual f.chain f.users
  pub below : (v : ℕ) → IsSome (f.info v) → v < f.next
  pub linked : (v : ℕ) → IsSome (f.info v) → f.users v ≡ [] → ⊥
  -- the spans go with the links
  pub spanned : GoWithLinks areas f.chain spans
  pub areas_fit : (a : ℕ) (A : Area) → areas a ≡ Some A → IsArea A
