-- What an event of an access leaves of what stands, of views alone.
use Rattle.std.proofs.Common.{◌≡◌, T, [], ◌∷◌, None, IfSome, sym, ap, subst, ◌∙◌}
use Rattle.std.specs.Prelude.{option_map}
use Rattle.std.specs.FinMap.Entries.{is_sorted}
use Rattle.av_vma.specs.Pages.{pages_in}
use Rattle.av_vma.specs.declared.area.Area.{Area}
use Rattle.av_plain.specs.Areas.{Anons, Areas, chain_by}
use Rattle.av_plain.specs.Choice.{ListsAll}
use Rattle.av_plain.specs.Event.{Event, FlagSet, Forked, FreeSorted, EntriesMoved, Noted, TurnedOff, TurnedOn, Used, Zapped, after}
use Rattle.av_base.specs.Keys.{key_cmp}
use Rattle.av_plain.specs.Ledger.{Ledger, Setting}
use Rattle.av_plain.specs.Load.{with_loads}
use Rattle.av_plain.specs.Sound.{AreThere, AreasFit, AtPages, IsSound, IsTidy}
use Rattle.av_plain.specs.Stands.{AnonsStand, AreasAre, AreasStand, free_of, kin_of}
use Rattle.av_plain.specs.World.{World}
use Rattle.av_plain.proofs.FreeFrames.{IsHeld as IsNamed}
use Rattle.av_plain.proofs.FreeLists.{IsLawfulEvent, lists-stay}
use Rattle.av_plain.proofs.Sound.{map_count-loads, tidy-loads}
use Rattle.av_plain.proofs.Sound.Pages.{AllAt, Brings, at_page, noted-at, used-at}
use Rattle.av_plain.proofs.Sound.There.{IsLawful, NoNew, lawful-no_new, there-by, used-no_new}
use Rattle.av_swap_laws.specs.Held.{Held, IsHeld, Steps}

-- what stands between two events
pub record Amid (m : Setting) (h : Held) : Type 0 where
  pub sound : IsSound m h.ledger
  pub held : IsHeld m h
  pub areas : AreasStand h.view h.world
  pub are : AreasAre h.view h.rmap.areas
  pub anons : AnonsStand h.view h.rmap.areas h.rmap.anons
  pub tidy : IsTidy h.world
  pub at_pages : AtPages h.world h.ledger
  pub there : AreThere m h.ledger
  pub areas_fit : AreasFit m h.ledger
  pub free : ListsAll m h.ledger (free_of h.view)

-- an event of an access: a note that names what it may, or a use
abbrev pub IsOfAccess : Setting → World → Ledger → Event → Type 0
IsOfAccess m w l (Noted note) = IsLawful m None l note × IsNamed l note × Brings (at_page w) note
IsOfAccess m w l (Used write k) = Unit {0}
IsOfAccess m w l (Zapped k) = ⊥
IsOfAccess m w l (Forked p q pages) = ⊥
IsOfAccess m w l (FlagSet p from n flag set) = ⊥
IsOfAccess m w l (EntriesMoved p n from to) = ⊥
IsOfAccess m w l (TurnedOn k area) = ⊥
IsOfAccess m w l (TurnedOff k) = ⊥
IsOfAccess m w l FreeSorted = ⊥

-- what a lawful event does to the ledger
record Ensues (m : Setting) (w : World) (l : Ledger) (e : Event) : Type 0 where
  lawful : IsLawfulEvent m None l e
  no_new : NoNew m l (after l e)
  at : AllAt (at_page w) l → AllAt (at_page w) (after l e)

ensues : (m : Setting) (w : World) (l : Ledger) (e : Event) → T (is_sorted key_cmp l.entries) → IsOfAccess m w l e → Ensues m w l e
ensues m w l (Noted note) sorted h = record {
  lawful = (h.0, h.1);
  no_new = lawful-no_new m None l note sorted h.0;
  at = noted-at (at_page w) l note h.2;
}
ensues m w l (Used write k) sorted h = record { lawful = tt; no_new = used-no_new m l write k sorted; at = used-at w l write k }
ensues m w l (Zapped k) sorted h = absurd h
ensues m w l (Forked p q pages) sorted h = absurd h
ensues m w l (FlagSet p from n flag set) sorted h = absurd h
ensues m w l (EntriesMoved p n from to) sorted h = absurd h
ensues m w l (TurnedOn k area) sorted h = absurd h
ensues m w l (TurnedOff k) sorted h = absurd h
ensues m w l FreeSorted sorted h = absurd h

-- the areas and anon_vmas stay, and the memories are as the event leaves them
pub record Beside (m : Setting) (h h' : Held) (e : Event) : Type 0 where
  pub world : h'.world ≡ with_loads m h.world h.ledger (e ∷ [])
  pub view_areas : h'.view.areas ≡ h.view.areas
  pub view_anons : h'.view.anons ≡ h.view.anons
  pub areas : h'.rmap.areas ≡ h.rmap.areas
  pub anons : h'.rmap.anons ≡ h.rmap.anons

pub amid-after : (m : Setting) (h h' : Held) (e : Event) → IsOfAccess m h.world h.ledger e → Steps m None e h h' → Beside m h h' e
    → IsSound m h'.ledger →
    Amid m h → Amid m h'
amid-after m h h' e of steps beside sound a =
    let made = ensues m h.world h.ledger e a.sound.in_order of in
    record {
      sound = sound;
      held = steps.held;
      areas = steps.areas a.areas;
      are = λ p page. ap (λ areas. pages_in (areas p) page) beside.view_areas ∙ a.are p page
          ∙ ap (λ (areas : Areas). areas p page) (sym beside.areas);
      anons = subst (λ (areas : Areas). AnonsStand h'.view areas h'.rmap.anons) (sym beside.areas)
          (subst (AnonsStand h'.view h.rmap.areas) (sym beside.anons) (record {
            next = ap (λ (x : Anons). x.next) beside.view_anons ∙ a.anons.next;
            kin = λ n. ap (λ (x : Anons). option_map kin_of (x.anon n)) beside.view_anons ∙ a.anons.kin n;
            chains = λ p page. subst
                (λ (x : Anons). IfSome (h.rmap.areas p page) (λ (area : Area). chain_by x area.anon ≡ chain_by h.rmap.anons area.anon))
                (sym beside.view_anons) (a.anons.chains p page);
          }));
      tidy = subst IsTidy (sym beside.world) (tidy-loads m h.world h.ledger (e ∷ []) a.tidy);
      at_pages = subst (λ w. AtPages w h'.ledger) (sym beside.world) (subst (AtPages (with_loads m h.world h.ledger (e ∷ []))) (sym steps.ledger)
          (λ p page is. map_count-loads m h.world h.ledger (e ∷ []) p page ∙ made.at (λ q. a.at_pages q.0 q.1) (p, page) is));
      there = subst (AreThere m) (sym steps.ledger) (there-by m h.ledger (after h.ledger e) made.no_new a.there);
      areas_fit = subst (AreasFit m) (sym steps.ledger) (made.no_new.fits a.areas_fit);
      free = subst (λ l. ListsAll m l (free_of h'.view)) (sym steps.ledger)
          (lists-stay m None h.ledger e (free_of h.view) (free_of h'.view) a.sound.in_order made.lawful a.there a.areas_fit steps.chosen a.free);
    }
