-- A `&` to the owner is made where one to each node is.
use Rattle.std.specs.Prelude.{List, [], ◌∷◌}
use base.Fraction.{full_share}
use base.Fml.{Lft}
use seplogic.Ra.Ura.{Ura}
use types.Logic.{Logic}
use contract.BorrowLft.{⊑_static}
use denote.Memory.{lone}
use denote.RawPtr.{RawPtr, lies_at}
use denote.Shares.{Shares-less}
use denote.Sharing.{ShrLaws}
use denote.SharingLaws.{beside_shr_laws, nothing_shr_laws}
use denote.Param.Shared.{copy_shared}
use denote.Struct.Laws.{field_copy}
use denote.Struct.Lending.{Lends, lent_at, lent_at_shr_laws, Lends-lies, Lends-first, Lends-both, Lends-nothing, of_Lends}
use mir.Raw.{raw as bare}
use Rattle.core.specs.contracts.marker.PhantomData as marker
use Rattle.av_chain.specs.Nodes.{Block}
use Rattle.av_chain.specs.Ownership.{token, block_owns, blocks_own, blocks_lent}
use Rattle.av_chain.specs.contracts.node.Node.{the_row as T}
use Rattle.av_chain.proofs.node.Node.TheLaws.{the_row_laws as L}
use Rattle.av_chain.specs.contracts.nodes.Nodes as C
use Rattle.av_chain.proofs.nodes.Nodes.TheLaw.Statement.{statement}

lent_laws : (bs : List Block) → ShrLaws (blocks_lent bs)
lent_laws [] = nothing_shr_laws
lent_laws (b ∷ bs) = beside_shr_laws _ _ (lent_at_shr_laws T L.shr_laws b.0 b.1) (lent_laws bs)

module _ {M : Type 1} {𝓤 : Ura M} (𝓛 : Logic 𝓤) (l : Lft) where
  lends : (bs : List Block) → Lends 𝓛 (blocks_own bs) (blocks_lent bs) l
  lends [] = Lends-nothing 𝓛 _ l
  lends (b ∷ bs) = Lends-both 𝓛 (block_owns b) (blocks_own bs) (lent_at T b.0 b.1) (blocks_lent bs) l
      (Lends-first 𝓛 (lies_at T full_share b.0 b.1) (token (bare (lone T.mir)) b.0) (lent_at T b.0 b.1) l
      (Lends-lies 𝓛 T l b.0 b.1 (Shares-less 𝓛 T T.lives l (⊑_static l) (L.shares 𝓛) b.1))) (lends bs)

pub shares : statement
shares = of_Lends C.struct (C.the_codes (marker.the_row RawPtr).coded) C.the_heap C.the_lent (λ d p. lent_laws d.blocks)
    (copy_shared (marker.the_field RawPtr) (field_copy (marker.the_type RawPtr) tt), tt) (λ M 𝓤 𝓛 d p. lends 𝓛 C.the_row.lives d.blocks)
