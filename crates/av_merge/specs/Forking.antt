-- What a fork makes of an area and of the anon_vmas.
use Rattle.std.specs.Prelude.{◌≡◌, ℕ, suc, List, Option, Some, None}
use Rattle.av_base.specs.Words.{with_at}
use Rattle.av_vma.specs.declared.area.Area.{Area}
use Rattle.av_vma.specs.Areas.{area_of}
use Rattle.av_vma.specs.Fork.{forked_area, own_to_fork}
use Rattle.av_vma.specs.Index.{first_of, past_of}
use Rattle.av_vmatree.specs.declared.span.Span.{Span}
use Rattle.av_vmatree.specs.Spans.{span, with_span}
use Rattle.av_anon.specs.declared.anons.Anons.{Anons}
use Rattle.av_anon.specs.declared.infos.Info.{Info}
use Rattle.av_anon.specs.Anons.{family}
use Rattle.av_anon.specs.Fork.{child_chain, child_own, member_to_reuse, root_of}
use Rattle.av_anon.specs.Infos.{more_active, more_children, with_info}
use Rattle.av_anon.specs.Kin.{chain_by}
use Rattle.av_merge.specs.Kin.{AreInOrder}

-- what a fork goes by: the number of the anon_vma that is made next, what is kept of each, and the
-- chain of the areas that have it as their own, none where there is no such area
pub record Lineage : Type 0 where
  pub next : ℕ
  pub info : ℕ → Option Info
  pub chain : ℕ → List ℕ

abbrev pub kin_by : List (Option Area) → Anons → Lineage
kin_by areas anons = let f = family anons in record {
  next = f.next;
  info = f.info;
  chain = chain_by (area_of areas) f;
}

-- the own anon_vma of the child's area, by the one that the parent's goes by
abbrev pub own_in_child : Option ℕ → Lineage → Option ℕ
own_in_child None k = None
own_in_child (Some own) k = Some (child_own (member_to_reuse k.info (k.chain own)) k.next)

-- the child's area, by the parent's
abbrev pub area_in_child : ℕ → Lineage → Area → Area
area_in_child child k area =
    record (forked_area child area) { anon = own_in_child (own_to_fork area) k }

-- the anon_vmas then: the member that is had again has one area more, or one is made below own
abbrev pub info_with : Option ℕ → ℕ → Lineage → ℕ → Option Info
info_with (Some v) own k = with_info v more_active k.info
info_with None own k = with_at k.next (Some (record {
  root = root_of own (k.info own);
  parent = own;
  children = 0;
  active = 1;
})) (with_info own more_children k.info)

abbrev pub next_with : Option ℕ → ℕ → ℕ
next_with (Some v) next = next
next_with None next = suc next

abbrev pub kin_with : Option ℕ → Lineage → Lineage
kin_with None k = k
kin_with (Some own) k = let reused = member_to_reuse k.info (k.chain own) in record {
  next = next_with reused k.next;
  info = info_with reused own k;
  chain = with_at (child_own reused k.next) (child_chain reused k.next (k.chain own)) k.chain;
}

-- after an area was forked, in the values of `Areas`, `Tree` and `Anons`: there is chain order, and
-- the child's tree has its area, under a number that was not in use
pub record IsForkedTo (child : ℕ) (area : Area) (old : List (Option Area)) (before : List Span)
    (anons : Anons) (new : List (Option Area)) (after : List Span) (anons' : Anons) (number : ℕ)
    : Type 0 where
  pub order : AreInOrder new anons'
  pub kin : kin_by new anons' ≡ kin_with (own_to_fork area) (kin_by old anons)
  pub unused : area_of old number ≡ None
  pub areas : (k : ℕ) → area_of new k
      ≡ with_at number (Some (area_in_child child (kin_by old anons) area)) (area_of old) k
  pub tree : after ≡ with_span (span number (first_of area) (past_of area)) before
