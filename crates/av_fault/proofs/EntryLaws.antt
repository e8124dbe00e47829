-- What stands says of the entry of a page, and of its place.
use Rattle.std.proofs.Common.{◌≡◌, ℕ, true, Option, Some, None, is_some, IsSome, option_map, refl, sym, ap, ◌∙◌}
use Rattle.std.proofs.lemmas.Bool.{false≢true}
use Rattle.av_base.specs.Keys.{Key}
use Rattle.av_base.specs.Page.{address_of, page_of}
use Rattle.av_pagetable.specs.declared.pte.Pte.{Pte}
use Rattle.av_pagetable.specs.Entries.{entry_at}
use Rattle.av_spaces.specs.Spaces.{pages_of}
use Rattle.av_vma.specs.declared.area.Area.{Area}
use Rattle.av_plain.specs.Areas.{Rmap}
use Rattle.av_plain.specs.Device.{Device}
use Rattle.av_plain.specs.Ledger.{Ledger, entry}
use Rattle.av_plain.specs.Stands.{entry_of}
use Rattle.av_plain.specs.World.{World, pages}
use Rattle.av_plain.proofs.Ledger.NoSwap.{key_at-address}
use Rattle.av_mem.specs.declared.mem.Mem.{Mem}
use Rattle.av_mem.specs.Mem.{plain}
use Rattle.av_mem.proofs.MemLaws.{mapped_is, prot_on, prots_are}
use Rattle.av_mem.specs.Between.{KeepsBetween}

-- the page of its address
pub page-back : (page : ℕ) → page_of (address_of page) ≡ page
page-back page = ap (λ (k : Key). k.1) (key_at-address (0, page))

module _ (d : Device) (k : Mem) (w : World) (r : Rmap) (l : Ledger) (h : KeepsBetween d k w r l) (q : Key) where
  pub entry-is : (e : Pte) → entry_at k.tables q.0 q.1 ≡ e → entry l q ≡ entry_of (plain e)
  entry-is e is = sym (h.serves.held.ledger.tables.entries q.0 q.1) ∙ ap (λ e. entry_of (plain e)) is

  -- a page with an area is one of the memories'
  pub mapped-is : IsSome (pages_of k.spaces.processes q.0 q.1) → is_some (pages w q.0 q.1) ≡ true
  mapped-is some = sym (mapped_is (pages w q.0 q.1)) ∙ ap is_some (sym (h.serves.areas.covers q.0 q.1) ∙ prots_are k.spaces.processes q.0 q.1)
      ∙ by (pages_of k.spaces.processes q.0 q.1) some
    where
      by : (o : Option Area) → IsSome o → is_some (option_map prot_on o) ≡ true
      by None s = absurd (false≢true s)
      by (Some area) s = refl
