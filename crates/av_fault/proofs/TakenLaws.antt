-- A frame is taken for a page and written: what comes behind the note, and the whole of it.
use Rattle.std.proofs.Common.{◌≡◌, ℕ, ◌==◌, Bool, true, false, cond, IfSome, List, [], ◌∷◌, ◌++◌, Option, Some, None, refl, sym, ap, subst, ◌∙◌}
use Rattle.std.proofs.lemmas.List.{append-nil, append_assoc}
use Rattle.av_base.specs.Keys.{Key}
use Rattle.av_base.specs.Words.{with_at}
use Rattle.av_base.specs.declared.slot.Slot.{Slot}
use Rattle.av_trace.specs.declared.note.Note.{Note}
use Rattle.av_trace.specs.declared.reply.OutOf.{OutOf}
use Rattle.av_vma.specs.Pages.{home_of}
use Rattle.av_plain.specs.Areas.{Rmap, at_home}
use Rattle.av_plain.specs.Device.{Device}
use Rattle.av_plain.specs.Event.{Event, Noted, Used, after_notes, after_use, note_events}
use Rattle.av_plain.specs.Fault.{FindsNone, IsMade, Need, drop_at, asks_copy, need, pinned_by, sparing, wants_frame}
use Rattle.av_plain.specs.Ledger.{InFrame, Ledger, Setting, entry, slot_of}
use Rattle.av_plain.specs.Pass.{Seeks, fails, out_of}
use Rattle.av_plain.specs.Sound.{no_excuse}
use Rattle.av_plain.specs.Stands.{entry_of}
use Rattle.av_plain.specs.World.{World}
use Rattle.av_plain.proofs.Access.{note_events-append}
use Rattle.av_plain.proofs.Load.{without-loads}
use Rattle.av_plain.proofs.Sound.Changes.{after_use-kept}
use Rattle.av_plain.proofs.Sound.Counts.{same-itself}
use Rattle.av_swap_laws.specs.Held.{Held}
use Rattle.av_swap_laws.specs.Steps.{view_seen}
use Rattle.av_mem.specs.declared.mem.Mem.{Mem}
use Rattle.av_mem.specs.Mem.{setting_by, view}
use Rattle.av_mem.specs.Between.{HasDone, KeepsBetween}
use Rattle.av_fault.specs.Making.{HasMade}
use Rattle.av_fault.specs.Seek.{HasSought}
use Rattle.av_fault.specs.declared.fault.Stop.TheVariants.{Starved}
use Rattle.av_fault.specs.declared.fault.Touched.TheVariants.{Ready, Stopped}
use Rattle.av_fault.specs.declared.seek.Got.TheVariants.{Frame, Out}
use Rattle.av_mem.proofs.Done.{done-then}
use Rattle.av_fault.proofs.Noted.{noted-more}
use Rattle.av_fault.proofs.Run.{Run, run-then}
use Rattle.av_fault.proofs.SoughtLaws.{ledger_now, rmap_now, world_now}
use Rattle.av_fault.proofs.UsingLaws.{own-steps, view_own}

-- ---- a home that is set twice

pub home-twice : (f : ℕ) (home : Option (ℕ × ℕ)) (homes : ℕ → Option (ℕ × ℕ)) → with_at f home (with_at f home homes) ≡ with_at f home homes
home-twice f home homes = λ i g. by (g == f) (homes g) i
  where
    by : (b : Bool) (x : Option (ℕ × ℕ)) → cond b home (cond b home x) ≡ cond b home x
    by true x = refl
    by false x = refl

-- ---- the use behind the note

module _ (m : Setting) (h h1 : Held) (note : Note) (q : Key) (f : ℕ) (run : Run m h h1 (Noted note ∷ []))
    (at : entry h1.ledger q ≡ Some (InFrame f false))
    (none : slot_of h1.ledger f ≡ None) (alone : asks_copy h1.ledger f ≡ false)
    (homes : with_at f (home_of q.1 (h1.rmap.areas q.0 q.1)) h1.view.homes ≡ h1.view.homes) (rmap : at_home f q h1.rmap ≡ h1.rmap) where
  abbrev used : Held
  used = record h1 { view = view_seen q.0 q.1 f true h1.view; ledger = after_use true q h1.ledger }

  abbrev events : List Event
  events = Noted note ∷ Used true q ∷ []

  pub used-run : Run m h used events
  used-run = subst (λ x. Run m h (record used { rmap = x }) events) rmap
      (subst (λ x. Run m h (record used { view = record (view_seen q.0 q.1 f true h1.view) { homes = x }; rmap = at_home f q h1.rmap }) events) homes
      (run-then m h h1 (record used
      { view = view_own q.0 q.1 f (home_of q.1 (h1.rmap.areas q.0 q.1)) h1.view.dirty h1.view; rmap = at_home f q h1.rmap })
      (Noted note ∷ []) (Used true q) run tt
      (own-steps m h1 run.amid q f false at alone h1.view.dirty (λ g e. refl)
      (subst (λ o. IfSome o (λ (s : Slot). h1.view.dirty f ≡ true)) (sym none) tt))
      (record {
        world = sym (without-loads m h1.world h1.ledger (Used true q ∷ []) refl);
        view_areas = refl;
        view_anons = refl;
        areas = refl;
        anons = refl;
      })
      (after_use-kept m no_excuse h1.ledger true q run.amid.sound)))

-- ---- the whole

module _ (d d' : Device) (old mid new : Mem) (w : World) (r : Rmap) (l : Ledger) (pinned : Option ℕ) (before mids now : List Note) (k : Key) (f : ℕ)
    (note : Note) (came : Bool) (h : KeepsBetween d old w r l) (s : HasSought d d' old mid w r l pinned before mids Frame) where
  abbrev m : Setting
  m = setting_by d old

  abbrev added : List Note
  added = s.added ++ note ∷ []

  abbrev mid_ledger : Ledger
  mid_ledger = ledger_now d d' old mid w r l pinned before mids Frame h s

  abbrev mid_rmap : Rmap
  mid_rmap = rmap_now d d' old mid w r l pinned before mids Frame h s

  abbrev mid_world : World
  mid_world = world_now d d' old mid w r l pinned before mids Frame h s

  events-are : note_events s.added ++ (Noted note ∷ Used true k ∷ []) ≡ note_events added ++ Used true k ∷ []
  events-are = sym (ap (λ es. es ++ Used true k ∷ []) (note_events-append s.added (note ∷ []))
      ∙ append_assoc (note_events s.added) (Noted note ∷ []) (Used true k ∷ []))

  pub taken-made : HasDone d' d' mid new mid_world mid_rmap mid_ledger (Noted note ∷ Used true k ∷ []) → now ≡ mids ++ note ∷ []
      → fails (note ∷ []) ≡ 0
      → IsMade m (sparing w) l k (need true l (entry l k)) added → drop_at m true came (after_notes l added) k ≡ []
      → (view new).table k.0 k.1 ≡ Some (record { entry = InFrame f true; write = true })
      → HasMade d d' old new w r l true came k before now (Ready f)
  taken-made done notes unfailed made undropped there =
      let whole = subst (HasDone d d' old new w r l) events-are
      (done-then d d' d' old mid new w r l (note_events s.added) (Noted note ∷ Used true k ∷ []) s.done done) in
      let tables = whole.between.serves.held.ledger.tables in
      record {
        added = added;
        noted = noted-more d d' before mids now s.added note _ s.noted notes unfailed;
        makes = record { making = added; made = made; whole = sym (ap (λ ns. added ++ ns) undropped ∙ append-nil added) };
        ready = (
          sym (tables.entries k.0 k.1) ∙ ap entry_of there,
          λ written. tables.write_bits k.0 k.1 (record { entry = InFrame f true; write = true }) f there refl (same-itself f),
        );
        done = whole;
      }

-- ---- no frame is free

module _ (d d' : Device) (old mid : Mem) (w : World) (r : Rmap) (l : Ledger) (pinned : Option ℕ) (before now : List Note) (k : Key) (came : Bool)
    (out : OutOf) (s : HasSought d d' old mid w r l pinned before now (Out out)) where
  pub out-made : (n : Need) → need true l (entry l k) ≡ n → wants_frame n ≡ true → pinned_by n ≡ pinned
      → HasMade d d' old mid w r l true came k before now (Stopped (Starved out))
  out-made n is wants pins =
      let m = setting_by d old in
      record {
        added = s.added;
        noted = s.noted;
        makes = subst (λ n. FindsNone m (sparing w) l n s.added out) (sym is) (record {
          wants = wants;
          seeks = subst (λ p. Seeks m (sparing w l p) l s.added) (sym pins) s.seeks;
          none = s.finds.0;
          numbers = subst (λ p. out ≡ out_of m (sparing w l p) (after_notes l s.added)) (sym pins) s.finds.1;
        });
        ready = tt;
        done = s.done;
      }
