-- Pages of an access are served in turn: one, and one part after the other, whatever is stored.
use Rattle.std.proofs.Common.{◌≡◌, ℕ, ◌+◌, ◌≤◌, Bool, true, false, cond, List, [], ◌∷◌, ◌++◌, max, Option, Some, None, option_map, inl, inr, refl, sym, ap, subst, ◌∙◌, arith}
use Rattle.std.proofs.lemmas.List.{append-nil, append_assoc}
use Rattle.av_io.specs.Count.{RoseBy}
use Rattle.av_trace.specs.declared.note.Note.{Note}
use Rattle.av_trace.specs.declared.reply.Answer.TheVariants.{Done}
use Rattle.av_plain.specs.Access.{Accesses, End, Whole, Stopped, page_events}
use Rattle.av_plain.specs.Areas.{rmap_after_all}
use Rattle.av_plain.specs.Choice.{ChoosesAll}
use Rattle.av_plain.specs.Device.{Device, setting_of, Wrote}
use Rattle.av_plain.specs.Event.{Event, Used, after_all, notes_of, note_events}
use Rattle.av_plain.specs.Fault as served
use Rattle.av_plain.specs.Fault.{Touches, is_allowed, permits}
use Rattle.av_plain.specs.Ledger.{Ledger, Setting, entry}
use Rattle.av_plain.specs.Load.{is_of_slot, with_loads, without_bytes}
use Rattle.av_plain.specs.Pass.{fails, is_fail, pages_written}
use Rattle.av_plain.specs.Step.{failed_frames, failure_answers}
use Rattle.av_plain.specs.Transcript.{State, rmap_of}
use Rattle.av_plain.specs.World.{Page, World, is_locked_page, pages}
use Rattle.av_plain.proofs.Access.{after_all-append, notes_of-append, notes_of-note_events, chooses-append, accesses-append, alike-by-allowed}
use Rattle.av_plain.proofs.AreasLeft.{rmap_after_all-append}
use Rattle.av_plain.proofs.Device.{setting_same}
use Rattle.av_plain.proofs.Ledger.{how_many-append}
use Rattle.av_plain.proofs.Load.{without-loads}
use Rattle.av_plain.proofs.Sound.{loads-same}
use Rattle.av_plain.proofs.Wrote.{device-itself, device-on, wrote-none, wrote-notes}
use Rattle.av_swap_laws.proofs.Load.{pages-unclaimed}
use Rattle.av_mem.specs.declared.mem.Mem.{Mem}
use Rattle.av_mem.specs.Mem.{frame_count, setting_by, Keeps}
use Rattle.av_fault.specs.declared.fault.Stop.{Stop}
use Rattle.av_fault.specs.Fault.{stop_of}
use Rattle.av_fault.proofs.CameLaws.{locked-loads}
use Rattle.av_access.specs.Access.{HasServed, answer_at, causes_of_access, end_at}
use Rattle.av_access.specs.Page.{IsPageStep, world_after}
use Rattle.av_access.proofs.AccessLoads.{with_loads-append}

-- ---- the memories

-- loads leave what is allowed
pub allowed-loaded : (m : Setting) (w : World) (l : Ledger) (es : List Event) (wants : Bool) (p page : ℕ) →
    is_allowed w wants (p, page) ≡ is_allowed (with_loads m w l es) wants (p, page)
allowed-loaded m w l es wants p page = sym (loads-same (λ w. is_allowed w wants (p, page)) m w l es
    (λ l s w. ap (permits wants) (pages-unclaimed l s w p page) ∙ by (is_of_slot s (entry l (p, page))) (pages w p page)))
  where
    by : (b : Bool) (o : Option Page) → permits wants (cond b (option_map without_bytes o) o) ≡ permits wants o
    by true None = refl
    by true (Some q) = refl
    by false o = refl

-- a change of the memories that leaves what is allowed, and which pages are locked
pub record LeavesMarks (p : ℕ) (change : World → World) : Type 0 where
  pub allowed : (w : World) (wants : Bool) (page : ℕ) → is_allowed w wants (p, page) ≡ is_allowed (change w) wants (p, page)
  pub locked : (w : World) (q page : ℕ) → is_locked_page (pages w q page) ≡ is_locked_page (pages (change w) q page)

-- none does
pub leaves-none : (p : ℕ) → LeavesMarks p (λ w. w)
leaves-none p = record { allowed = λ w wants page. refl; locked = λ w q page. refl }

-- ---- what happens at one page

pub notes-happening : (write : Bool) (k : ℕ × ℕ) (added : List Note) (end : Option served.Stop) → notes_of (page_events write k added end) ≡ added
notes-happening write k added None = notes_of-append (note_events added) (Used write k ∷ []) ∙ append-nil _ ∙ notes_of-note_events added
notes-happening write k added (Some stop) = notes_of-note_events added

-- a page that is served is an access of this page, whole
pub one_served : (m : Setting) (w : World) (l : Ledger) (write : Bool) (p page : ℕ) (added : List Note) → Touches m w l write (p, page) added None
    → Accesses m w l p ((write, page) ∷ []) (page_events write (p, page) added None) Whole
one_served m w l write p page added h = inl (added, [], h, sym (append-nil _), (refl, refl))

-- a page that stops an access of it and more
pub one_stopped : (m : Setting) (w : World) (l : Ledger) (write : Bool) (p page : ℕ) (rest : List (Bool × ℕ)) (added : List Note) (stop : served.Stop) →
    Touches m w l write (p, page) added (Some stop)
    → Accesses m w l p ((write, page) ∷ rest) (page_events write (p, page) added (Some stop)) (Stopped page stop)
one_stopped m w l write p page rest added stop h = inr (added, stop, h, refl, refl)

-- ---- what only failures explain

rose-both : (m n k a b c : ℕ) → RoseBy m a b → RoseBy n b c → k ≤ m + n → RoseBy k a c
rose-both m n k a b c h g few = omega (arith, h, g, few)

pub causes-append : (xs ys : List Note) (end : Option Stop) (a b c : ℕ) → RoseBy (causes_of_access xs None) a b → RoseBy (causes_of_access ys end) b c →
    RoseBy (causes_of_access (xs ++ ys) end) a c
causes-append xs ys end a b c h g = rose-both (causes_of_access xs None) (causes_of_access ys end) (causes_of_access (xs ++ ys) end) a b c h g
    (let both = how_many-append is_fail xs ys in few (fails (xs ++ ys)) (fails xs) (fails ys)
    (failed_frames (answer_at end Done 0 [])) (failure_answers (answer_at end Done 0 [])) both)
  where
    few : (f m n x y : ℕ) → f ≡ m + n → max f x + y ≤ (max m 0 + 0) + (max n x + y)
    few f m n x y is = omega (arith, is)

-- ---- one page

-- what happened at one page is an access of it
unfoldable pub page-served : {d d' : Device} (s : State) (new : Mem) (write : Bool) (p page at : ℕ) (piece : List ℕ) (before now : List Note) (stop : Option Stop)
    → IsPageStep d d' s new write p page at piece before now stop
    → HasServed d d' s new p ((write, page) ∷ []) (world_after write p page at piece stop) before now stop page
page-served {d} {d'} s new write p page at piece before now stop h = record {
  events = here;
  notes = h.notes ∙ ap (λ ns. before ++ ns) (sym happened);
  accesses = by stop h.touches;
  next = h.next;
  world = h.world;
  ledger = h.ledger;
  free = h.free;
  rmap = h.rmap;
  keeps = h.keeps;
  same = h.same;
  wrote = h.wrote;
  failures = subst (λ ns. RoseBy (causes_of_access ns stop) d.failures d'.failures) (sym happened) h.failures;
}
  where
    here : List Event
    here = page_events write (p, page) h.added (option_map stop_of stop)

    happened : notes_of (page_events write (p, page) h.added (option_map stop_of stop)) ≡ h.added
    happened = notes-happening write (p, page) h.added (option_map stop_of stop)

    by : (stop : Option Stop) → Touches (setting_by d new) s.world s.ledger write (p, page) h.added (option_map stop_of stop)
        → Accesses (setting_by d new) s.world s.ledger p ((write, page) ∷ []) (page_events write (p, page) h.added (option_map stop_of stop)) (end_at stop page)
    by None t = one_served (setting_by d new) s.world s.ledger write p page h.added t
    by (Some stop) t = one_stopped (setting_by d new) s.world s.ledger write p page [] h.added (stop_of stop) t

-- no page is accessed
pub none-served : {d : Device} (s : State) (k : Mem) (p page : ℕ) (notes : List Note) → Keeps d k s → HasServed d d s k p [] (λ w. w) notes notes None page
none-served {d} s k p page notes keeps = record {
  events = [];
  notes = sym (append-nil notes);
  accesses = (refl, refl);
  next = s;
  world = sym (without-loads (setting_by d k) s.world s.ledger [] refl);
  ledger = refl;
  free = refl;
  rmap = refl;
  keeps = keeps;
  same = device-itself d;
  wrote = wrote-none d.history;
  failures = few d.failures;
}
  where
    few : (n : ℕ) → RoseBy (causes_of_access [] None) n n
    few n = omega arith

-- ---- one part after the other

-- an access that stopped is one of more pages that stopped there
pub stopped-more : (m : Setting) (w : World) (l : Ledger) (p : ℕ) (xs rest : List (Bool × ℕ)) (es : List Event) (page : ℕ) (stop : served.Stop)
    → Accesses m w l p xs es (Stopped page stop) → Accesses m w l p (xs ++ rest) es (Stopped page stop)
stopped-more m w l p [] rest es page stop h = absurd (unlike h.1)
  where
    is_whole : End → Bool
    is_whole Whole = true
    is_whole (Stopped page stop) = false

    unlike : Stopped page stop ≡ Whole → ⊥
    unlike e = let no : false ≡ true = ap is_whole e in cc
stopped-more m w l p (x ∷ xs) rest es page stop (inl h) =
    inl (h.0, h.1, h.2, h.3, stopped-more m w (after_all l (page_events x.0 (p, x.1) h.0 None)) p xs rest h.1 page stop h.4)
stopped-more m w l p (x ∷ xs) rest es page stop (inr h) = inr h

unfoldable pub served-more : {d d' : Device} (s : State) (new : Mem) (p : ℕ) (xs rest all : List (Bool × ℕ)) → xs ++ rest ≡ all → (change : World → World) (before now : List Note) (stop : Stop)
    (page : ℕ) → HasServed d d' s new p xs change before now (Some stop) page → HasServed d d' s new p all change before now (Some stop) page
served-more {d} {d'} s new p xs rest all is change before now stop page h = record {
  events = h.events;
  notes = h.notes;
  accesses = subst (λ turns. Accesses (setting_by d new) s.world s.ledger p turns h.events (Stopped page (stop_of stop))) is
      (stopped-more (setting_by d new) s.world s.ledger p xs rest h.events page (stop_of stop) h.accesses);
  next = h.next;
  world = h.world;
  ledger = h.ledger;
  free = h.free;
  rmap = h.rmap;
  keeps = h.keeps;
  same = h.same;
  wrote = h.wrote;
  failures = h.failures;
}

module _ {d d' d'' : Device} (s : State) (mid new : Mem) (p : ℕ) (xs ys turns : List (Bool × ℕ)) (first then both : World → World)
    (before now after : List Note) (stop : Option Stop) (last page : ℕ) (same : frame_count new ≡ frame_count mid)
    (h : HasServed d d' s mid p xs first before now None last) (g : HasServed d' d'' h.next new p ys then now after stop page) where
  -- the later pages are served over the device as it is then, which is the same
  pub setting-same : setting_by d' new ≡ setting_by d new
  setting-same = setting_same (frame_count new) d d' h.same

  abbrev all : List Event
  all = h.events ++ g.events

  abbrev notes-all : notes_of (h.events ++ g.events) ≡ notes_of h.events ++ notes_of g.events
  notes-all = notes_of-append h.events g.events

  -- the memories after the loads of the first
  abbrev loaded : World
  loaded = with_loads (setting_by d mid) s.world s.ledger h.events

  unfoldable pub served-append : xs ++ ys ≡ turns → LeavesMarks p first
      → with_loads (setting_by d new) (first loaded) h.next.ledger g.events ≡ first (with_loads (setting_by d new) loaded h.next.ledger g.events)
      → ((w : World) → then (first w) ≡ both w) → HasServed d d'' s new p turns both before after stop page
  served-append is leaves loads composed = record {
    events = all;
    notes = g.notes ∙ ap (λ ns. ns ++ notes_of g.events) h.notes ∙ append_assoc before (notes_of h.events) (notes_of g.events)
        ∙ ap (λ ns. before ++ ns) (sym notes-all);
    accesses = subst (λ turns. Accesses (setting_by d new) s.world s.ledger p turns all (end_at stop page)) is
        (accesses-append (setting_by d new) s.world h.next.world s.ledger p xs ys h.events g.events (end_at stop page)
        (alike-by-allowed s.world h.next.world p (λ wants page. allowed-loaded (setting_by d mid) s.world s.ledger h.events wants p page
        ∙ leaves.allowed loaded wants page ∙ ap (λ w. is_allowed w wants (p, page)) (sym h.world))
        (λ q page. sym (locked-loads (setting_by d mid) s.world s.ledger h.events q page)
        ∙ leaves.locked loaded q page ∙ ap (λ w. is_locked_page (pages w q page)) (sym h.world)))
        (subst (λ n. Accesses (setting_of n d) s.world s.ledger p xs h.events Whole) (sym same) h.accesses)
        (subst (λ l. Accesses (setting_by d new) h.next.world l p ys g.events (end_at stop page)) h.ledger
        (subst (λ m. Accesses m h.next.world h.next.ledger p ys g.events (end_at stop page)) setting-same g.accesses)));
    next = g.next;
    world = g.world ∙ ap then ((λ i. with_loads (setting-same i) (h.world i) h.next.ledger g.events) ∙ loads
        ∙ ap first (ap (λ l. with_loads (setting_by d new) loaded l g.events) h.ledger ∙ whole))
        ∙ composed (with_loads (setting_by d new) s.world s.ledger all);
    ledger = g.ledger ∙ ap (λ l. after_all l g.events) h.ledger ∙ sym (after_all-append s.ledger h.events g.events);
    free = chooses-append (setting_by d new) None s.ledger h.events g.events s.free h.next.free g.next.free
        (subst (λ n. ChoosesAll (setting_of n d) None s.ledger h.events s.free h.next.free) (sym same) h.free)
        (subst (λ l. ChoosesAll (setting_by d new) None l g.events h.next.free g.next.free) h.ledger
        (subst (λ m. ChoosesAll m None h.next.ledger g.events h.next.free g.next.free) setting-same g.free));
    rmap = g.rmap ∙ (λ i. rmap_after_all (h.ledger i) g.events (h.rmap i)) ∙ sym (rmap_after_all-append s.ledger h.events g.events (rmap_of s));
    keeps = g.keeps;
    same = device-on d d' d'' h.same g.same;
    wrote = subst (λ ns. Wrote (pages_written ns) d.history d''.history) (sym notes-all)
        (wrote-notes d.history d'.history d''.history (notes_of h.events) (notes_of g.events) h.wrote g.wrote);
    failures = subst (λ ns. RoseBy (causes_of_access ns stop) d.failures d''.failures) (sym notes-all)
        (causes-append (notes_of h.events) (notes_of g.events) stop d.failures d'.failures d''.failures h.failures g.failures);
  }
    where
      whole : with_loads (setting_by d new) loaded (after_all s.ledger h.events) g.events ≡ with_loads (setting_by d new) s.world s.ledger all
      whole = ap (λ n. with_loads (setting_by d new) (with_loads (setting_of n d) s.world s.ledger h.events) (after_all s.ledger h.events) g.events)
          (sym same) ∙ sym (with_loads-append (setting_by d new) s.world s.ledger h.events g.events)
