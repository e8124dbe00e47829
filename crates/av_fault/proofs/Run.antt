-- Events done one after the other, of views alone; and what they leave of the memory system.
use Rattle.std.proofs.Common.{◌≡◌, ◌++◌, List, [], ◌∷◌, None, refl, sym, ap, subst, ◌∙◌}
use Rattle.av_plain.specs.Areas.{Rmap, rmap_after_all}
use Rattle.av_plain.specs.Choice.{ChoosesAll, Free}
use Rattle.av_plain.specs.Device.{Device, IsSameDevice, Wrote}
use Rattle.av_plain.specs.Event.{Event, after, after_all, notes_of}
use Rattle.av_plain.specs.Ledger.{Ledger, Setting}
use Rattle.av_plain.specs.Load.{with_loads}
use Rattle.av_plain.specs.Sound.{IsSound}
use Rattle.av_plain.specs.Stands.{View, free_of}
use Rattle.av_plain.specs.World.{World}
use Rattle.av_plain.proofs.Access.{after_all-append, chooses-append}
use Rattle.av_swap_laws.specs.Held.{Held, Steps}
use Rattle.av_swap_laws.specs.Locks.{AreLocks}
use Rattle.av_mem.specs.declared.mem.Mem.{Mem}
use Rattle.av_mem.specs.Mem.{frame_count, locks_of, setting_by, view}
use Rattle.av_mem.specs.Between.{HasDone}
use Rattle.av_mem.proofs.Amid.{Amid, Beside, IsOfAccess, amid-after}
use Rattle.av_mem.proofs.Between.{PartsFit}
use Rattle.av_mem.proofs.Done.{done-by}
use Rattle.av_plain.specs.Pass.{pages_written}

-- these events lead from what stands to what stands
pub record Run (m : Setting) (h h' : Held) (events : List Event) : Type 0 where
  pub amid : Amid m h'
  pub chosen : ChoosesAll m None h.ledger events (free_of h.view) (free_of h'.view)
  pub ledger : h'.ledger ≡ after_all h.ledger events

pub run-none : (m : Setting) (h : Held) → Amid m h → Run m h h []
run-none m h a = record { amid = a; chosen = refl; ledger = refl }

-- one more
pub run-then : (m : Setting) (h h1 h2 : Held) (events : List Event) (e : Event) → Run m h h1 events → IsOfAccess m h1.world h1.ledger e
    → Steps m None e h1 h2 →
    Beside m h1 h2 e → IsSound m h2.ledger → Run m h h2 (events ++ e ∷ [])
run-then m h h1 h2 events e run of steps beside sound = record {
  amid = amid-after m h1 h2 e of steps beside sound run.amid;
  chosen = chooses-append m None h.ledger events (e ∷ []) (free_of h.view) (free_of h1.view) (free_of h2.view) run.chosen
      (subst (λ l. ChoosesAll m None l (e ∷ []) (free_of h1.view) (free_of h2.view)) run.ledger (free_of h2.view, steps.chosen, refl));
  ledger = steps.ledger ∙ ap (λ l. after l e) run.ledger ∙ sym (after_all-append h.ledger events (e ∷ []));
}

-- what the memory system has done, if its view is that at the end, and its counts are those of what stands then
pub run-done : (d d' : Device) (old new : Mem) (w w' : World) (r r' : Rmap) (l l' : Ledger) (events : List Event) (h : Held) (v : View)
    → Run (setting_by d old) h (record { view = v; device = d'; world = w'; ledger = l'; rmap = r' }) events → view new ≡ v
    → h.ledger ≡ l → free_of h.view ≡ free_of (view old) → w' ≡ with_loads (setting_by d old) w l events → r' ≡ rmap_after_all l events r
    → IsSameDevice d d' → Wrote (pages_written (notes_of events)) d.history d'.history
    → frame_count new ≡ frame_count old → PartsFit d' new → AreLocks (locks_of new) w' l' → HasDone d d' old new w r l events
run-done d d' old new w w' r r' l l' events h v run seen ledger free world rmap same wrote count fit locks =
    done-by d d' old new w w' r r' l l' events world rmap (run.ledger ∙ ap (λ x. after_all x events) ledger) same wrote count
    (subst (λ x. Amid (setting_by d old) (record { view = x; device = d'; world = w'; ledger = l'; rmap = r' })) (sym seen) run.amid) fit locks
    (subst (λ x. ChoosesAll (setting_by d old) None l events (free_of (view old)) (free_of x)) (sym seen)
    (subst (λ (x : Free). ChoosesAll (setting_by d old) None l events x (free_of v)) free
    (subst (λ x. ChoosesAll (setting_by d old) None x events (free_of h.view) (free_of v)) ledger run.chosen)))
