-- Steps put together.
use Rattle.std.proofs.Common.{◌≡◌, ℕ, ◌+◌, ◌-◌, ◌≤◌, ◌^◌, min, Bool, true, false, cond, is_some, Option, List, [], ◌∷◌, ◌++◌, refl, sym, ap, subst, ◌∙◌, arith}
use Rattle.std.proofs.lemmas.List.{append-nil, append_assoc}
use Rattle.av_base.specs.declared.slot.Slot.{Slot}
use Rattle.av_trace.specs.declared.note.Note.{Note}
use Rattle.av_io.specs.Count.{RoseBy}
use Rattle.av_plain.proofs.Wrote.{some-none, some-then, wrote-none, wrote-notes}
use Rattle.av_plain.specs.Areas.{Rmap, rmap_after_all}
use Rattle.av_plain.specs.Choice.{ChoosesAll}
use Rattle.av_plain.specs.Event.{Event, after, after_all, after_notes, note_events}
use Rattle.av_plain.specs.Load.{after_load, after_loads, with_loads}
use Rattle.av_plain.specs.World.{World}
use Rattle.av_plain.specs.Ledger.{Ledger, Setting}
use Rattle.av_plain.specs.Pass.{fails, is_fail}
use Rattle.av_plain.specs.Sound.{IsSound, IsSoundBut}
use Rattle.av_plain.proofs.AreasLeft.{rmap_after_all-append}
use Rattle.av_plain.proofs.Access.{after_notes-append, chooses-append, note_events-append, note_events-all}
use Rattle.av_plain.proofs.Ledger.{how_many-append}
use Rattle.av_evict.specs.System.{Adds, Always, HasHappened, Gives, Goes, IsAt, Knows, Leaves, Makes, Stays, SystemView, any_slot, spares}

-- within a step nothing is asked of uses
pub loose : (m : Setting) (x : Slot → ℕ) (l : Ledger) → IsSoundBut m x l → IsSoundBut m any_slot l
loose m x l s = record {
  in_order = s.in_order;
  slots_once = s.slots_once;
  frames_once = s.frames_once;
  merged = s.merged;
  in_range = s.in_range;
  listed = s.listed;
  flying = s.flying;
  used = λ t f p. omega arith;
  one = s.one;
}

loads-then : (m : Setting) (w : World) (l : Ledger) (ns ms : List Note) →
    with_loads m w l (note_events (ns ++ ms)) ≡ with_loads m (with_loads m w l (note_events ns)) (after_notes l ns) (note_events ms)
loads-then m w l ns ms = ap (with_loads m w l) (note_events-append ns ms) ∙ by (is_some m.headers)
    ∙ ap (λ x. with_loads m (with_loads m w l (note_events ns)) x (note_events ms)) (note_events-all l ns)
  where
    go : (w : World) (l : Ledger) (es fs : List Event) → after_loads w l (es ++ fs) ≡ after_loads (after_loads w l es) (after_all l es) fs
    go w l [] fs = refl
    go w l (e ∷ es) fs = go (after_load l e w) (after l e) es fs

    by : (b : Bool) → cond b w (after_loads w l (note_events ns ++ note_events ms)) ≡
        cond b (cond b w (after_loads w l (note_events ns)))
        (after_loads (cond b w (after_loads w l (note_events ns))) (after_all l (note_events ns)) (note_events ms))
    by true = refl
    by false = go w l (note_events ns) (note_events ms)

rmap-then : (l : Ledger) (ns ms : List Note) (r : Rmap) →
    rmap_after_all l (note_events (ns ++ ms)) r ≡ rmap_after_all (after_notes l ns) (note_events ms) (rmap_after_all l (note_events ns) r)
rmap-then l ns ms r = ap (λ es. rmap_after_all l es r) (note_events-append ns ms) ∙ rmap_after_all-append l (note_events ns) (note_events ms) r
    ∙ ap (λ x. rmap_after_all x (note_events ms) (rmap_after_all l (note_events ns) r)) (note_events-all l ns)

-- what is claimed after some notes and then others
claims-then : (c : SystemView) (m : Setting) (w : World) (r : Rmap) (l : Ledger) (ns ms : List Note) →
    c.claims (with_loads m (with_loads m w l (note_events ns)) (after_notes l ns) (note_events ms))
    (rmap_after_all (after_notes l ns) (note_events ms) (rmap_after_all l (note_events ns) r)) (after_notes (after_notes l ns) ms) →
    c.claims (with_loads m w l (note_events (ns ++ ms))) (rmap_after_all l (note_events (ns ++ ms)) r) (after_notes l (ns ++ ms))
claims-then c m w r l ns ms h =
    subst (λ x. c.claims x (rmap_after_all l (note_events (ns ++ ms)) r) (after_notes l (ns ++ ms))) (sym (loads-then m w l ns ms))
    (subst (λ x. c.claims (with_loads m (with_loads m w l (note_events ns)) (after_notes l ns) (note_events ms)) x (after_notes l (ns ++ ms)))
    (sym (rmap-then l ns ms r))
    (subst (c.claims (with_loads m (with_loads m w l (note_events ns)) (after_notes l ns) (note_events ms))
    (rmap_after_all (after_notes l ns) (note_events ms) (rmap_after_all l (note_events ns) r))) (sym (after_notes-append l ns ms)) h))

rose-then : (n k top a b c : ℕ) → min (a + n) top ≤ b → min (b + k) top ≤ c → min (a + (n + k)) top ≤ c
rose-then n k top a b c h i = omega (arith, h, i)

pub stays_so : (a : SystemView) → Stays a a
stays_so a = record { setting = refl; closing = refl; names = refl; first = refl; never_falls = omega arith; history = some-none a.history }

pub stays_then : {a b c : SystemView} → Stays a b → Stays b c → Stays a c
stays_then {a} {b} {c} d e = record {
  setting = e.setting ∙ d.setting;
  closing = e.closing ∙ d.closing;
  names = e.names ∙ d.names;
  first = e.first ∙ d.first;
  never_falls = omega (arith, d.never_falls, e.never_falls);
  history = some-then a.history b.history c.history d.history e.history;
}

pub left_so : (a : SystemView) → Leaves a a
left_so a = record { stays = stays_so a; locked = refl }

pub left_then : {a b c : SystemView} → Leaves a b → Leaves b c → Leaves a c
left_then d e = record { stays = stays_then d.stays e.stays; locked = e.locked ∙ d.locked }

-- what a pass spares is the same then
pub leaves-spares : (a b : SystemView) (pinned : Option ℕ) → Leaves a b → spares b pinned ≡ spares a pinned
leaves-spares a b pinned d = λ i. record { pinned = pinned; locked = d.locked i; closing = d.stays.closing i }

pub happened-then : (a b c : SystemView) (l : Ledger) (ns ms : List Note) → HasHappened a b l ns → HasHappened b c (after_notes l ns) ms → HasHappened a c l (ns ++ ms)
happened-then a b c l ns ms d e = record {
  stands = subst c.stands (sym (after_notes-append l ns ms)) e.stands;
  stays = stays_then d.stays e.stays;
  chooses = subst (λ es. ChoosesAll a.setting a.closing l es a.free c.free) (sym (note_events-append ns ms))
      (chooses-append a.setting a.closing l (note_events ns) (note_events ms) a.free b.free c.free d.chooses
      (subst (λ l'. ChoosesAll a.setting a.closing l' (note_events ms) b.free c.free) (sym (note_events-all l ns))
      (subst (λ m. ChoosesAll m a.closing (after_notes l ns) (note_events ms) b.free c.free) d.stays.setting
      (subst (λ k. ChoosesAll b.setting k (after_notes l ns) (note_events ms) b.free c.free) d.stays.closing e.chooses))));
  claims = λ w r h. claims-then c a.setting w r l ns ms
      (subst (λ m. c.claims (with_loads m (with_loads a.setting w l (note_events ns)) (after_notes l ns) (note_events ms))
      (rmap_after_all (after_notes l ns) (note_events ms) (rmap_after_all l (note_events ns) r)) (after_notes (after_notes l ns) ms)) d.stays.setting
      (e.claims (with_loads a.setting w l (note_events ns)) (rmap_after_all l (note_events ns) r) (d.claims w r h)));
  failures = subst (λ n. RoseBy n a.failures c.failures) (sym (how_many-append is_fail ns ms))
      (rose-then (fails ns) (fails ms) (2 ^ 64 - 1) a.failures b.failures c.failures d.failures e.failures);
  wrote = wrote-notes a.history b.history c.history ns ms d.wrote e.wrote;
}

pub goes-then : (a b c : SystemView) (l : Ledger) (ns ms : List Note) → Goes a b l ns → Goes b c (after_notes l ns) ms → Goes a c l (ns ++ ms)
goes-then a b c l ns ms d e = record {
  sound = subst (IsSound a.setting) (sym (after_notes-append l ns ms))
      (subst (λ m. IsSound m (after_notes (after_notes l ns) ms)) d.happened.stays.setting e.sound);
  happened = happened-then a b c l ns ms d.happened e.happened;
}

rose-none : (n top a b : ℕ) → n ≡ a → n ≤ b → min (a + 0) top ≤ b
rose-none n top a b h i = omega (arith, h, i)

loads-none : (w : World) (b : Bool) → cond b w w ≡ w
loads-none w true = refl
loads-none w false = refl

-- what changes nothing that is shown
pub happened-none : (a : SystemView) (l : Ledger) → a.stands l → HasHappened a a l []
happened-none a l h = record {
  claims = λ w r c. subst (λ x. a.claims x r l) (sym (loads-none w (is_some a.setting.headers))) c;
  stands = h;
  stays = stays_so a;
  chooses = refl;
  failures = rose-none a.failures (2 ^ 64 - 1) a.failures a.failures refl (omega arith);
  wrote = wrote-none a.history;
}

-- ---- calls put together

-- a step's own word for what a sound ledger says
pub at-knows : (a : SystemView) (R : Ledger → Type 0) → IsAt a R → Knows a R
at-knows a R at = (at.0, loose a.setting _ at.0 at.1, at.2, at.3)

-- a step with its notes
pub makes-gives : (a b : SystemView) (n0 n1 : List Note) (R : Ledger → Type 0) (ns : List Note) → Makes a b R ns → n1 ≡ n0 ++ ns →
    ((l : Ledger) → IsSound a.setting l → a.stands l → R l → IsSound a.setting (after_notes l ns)) → Gives a b n0 n1 R (Adds ns)
makes-gives a b n0 n1 R ns makes added kept l sound stands ready =
    (ns, added, refl, record { sound = kept l sound stands ready; happened = makes l (loose a.setting _ l sound) stands ready })

-- what is known of the notes may be said otherwise
pub gives-as : (a b : SystemView) (n0 n1 : List Note) (R R' : Ledger → Type 0) (Q Q' : Ledger → List Note → Type 0) → Gives a b n0 n1 R Q →
    ((l : Ledger) → IsSound a.setting l → a.stands l → R' l → R l) →
    ((l : Ledger) (ns : List Note) → IsSound a.setting l → a.stands l → R' l → Q l ns → Q' l ns) → Gives a b n0 n1 R' Q'
gives-as a b n0 n1 R R' Q Q' gives less more l sound stands ready =
    let x = gives l sound stands (less l sound stands ready) in (x.0, x.1, more l x.0 sound stands ready x.2, x.3)

-- the same, with what has happened at hand
pub gives-so : (a b : SystemView) (n0 n1 : List Note) (R : Ledger → Type 0) (Q Q' : Ledger → List Note → Type 0) → Gives a b n0 n1 R Q →
    ((l : Ledger) (ns : List Note) → IsSound a.setting l → a.stands l → Q l ns → Goes a b l ns → IsSoundBut b.setting any_slot (after_notes l ns) →
    Q' l ns) →
    Gives a b n0 n1 R Q'
gives-so a b n0 n1 R Q Q' gives more l sound stands ready =
    let x = gives l sound stands ready in (
      x.0,
      x.1,
      more l x.0 sound stands x.2 x.3
          (subst (λ m. IsSoundBut m any_slot (after_notes l x.0)) (sym x.3.happened.stays.setting) (loose a.setting _ _ x.3.sound)),
      x.3,
    )

-- nothing happens
pub gives-none : (a : SystemView) (n : List Note) (R : Ledger → Type 0) (Q : Ledger → List Note → Type 0) →
    ((l : Ledger) → IsSound a.setting l → a.stands l → R l → Q l []) → Gives a a n n R Q
gives-none a n R Q q l sound stands ready =
    ([], sym (append-nil n), q l sound stands ready, record { sound = sound; happened = happened-none a l stands })

-- one call after another
pub gives-then : (a b c : SystemView) (n0 n1 n2 : List Note) (R R' : Ledger → Type 0) (Q Q' Whole : Ledger → List Note → Type 0) →
    Gives a b n0 n1 R Q →
    Gives b c n1 n2 R' Q' →
    ((l : Ledger) (ns : List Note) → IsSound a.setting l → R l → Q l ns → IsSound a.setting (after_notes l ns) → R' (after_notes l ns)) →
    ((l : Ledger) (ns ms : List Note) → IsSound a.setting l → R l → Q l ns → Q' (after_notes l ns) ms → Whole l (ns ++ ms)) →
    Gives a c n0 n2 R Whole
gives-then a b c n0 n1 n2 R R' Q Q' Whole first second ready both l sound stands r =
    let x = first l sound stands r in
    let l1 = after_notes l x.0 in
    let s1 : IsSound b.setting l1 = subst (λ m. IsSound m l1) (sym x.3.happened.stays.setting) x.3.sound in
    let y = second l1 s1 x.3.happened.stands (ready l x.0 sound r x.2 x.3.sound) in
    (x.0 ++ y.0, y.1 ∙ ap (λ z. z ++ y.0) x.1 ∙ append_assoc n0 x.0 y.0, both l x.0 y.0 sound r x.2 y.2, goes-then a b c l x.0 y.0 x.3 y.3)

-- and the second may be made
pub gives-at : (a b : SystemView) (n0 n1 : List Note) (R R' : Ledger → Type 0) (Q : Ledger → List Note → Type 0) → IsAt a R →
    Gives a b n0 n1 R Q →
    ((l : Ledger) (ns : List Note) → IsSound a.setting l → R l → Q l ns → IsSound a.setting (after_notes l ns) → R' (after_notes l ns)) → IsAt b R'
gives-at a b n0 n1 R R' Q at gives ready =
    let x = gives at.0 at.1 at.2 at.3 in (
      after_notes at.0 x.0,
      subst (λ m. IsSound m (after_notes at.0 x.0)) (sym x.3.happened.stays.setting) x.3.sound,
      x.3.happened.stands,
      ready at.0 x.0 at.1 at.3 x.2 x.3.sound,
    )

-- ---- in the midst of a loop

-- notes were added, and whatever notes do the rest do the whole with them
pub record Midway (old now : SystemView) (before notes : List Note) (l : Ledger) (Rest : Ledger → List Note → Type 0)
    (Whole : List Note → Type 0) : Type 0 where
  pub gained : List Note
  pub added : notes ≡ before ++ gained
  pub goes : Goes old now l gained
  pub more : (rest : List Note) → Rest (after_notes l gained) rest → Whole (gained ++ rest)

-- so it is from each sound ledger that the system stood for at first
abbrev pub IsMidway : SystemView → SystemView → List Note → List Note → (Ledger → List Note → Type 0) → (Ledger → List Note → Type 0) → Type 0
IsMidway old now before notes Rest Whole = (l : Ledger) → IsSound old.setting l → old.stands l → Midway old now before notes l Rest (Whole l)

-- nothing was done
pub midway-start : (a : SystemView) (n : List Note) (Rest Whole : Ledger → List Note → Type 0) →
    ((l : Ledger) (rest : List Note) → Rest l rest → Whole l rest) → IsMidway a a n n Rest Whole
midway-start a n Rest Whole all l sound stands = record {
  gained = [];
  added = sym (append-nil n);
  goes = record { sound = sound; happened = happened-none a l stands };
  more = λ rest h. all l rest h;
}

pub midway-step : (a b c : SystemView) (n0 n1 n2 : List Note) (Rest Next Whole Q : Ledger → List Note → Type 0) → IsMidway a b n0 n1 Rest Whole →
    Gives b c n1 n2 Always Q →
    ((l : Ledger) (ns rest : List Note) → b.setting ≡ a.setting → b.closing ≡ a.closing → IsSound b.setting l → b.stands l → Q l ns →
    Next (after_notes l ns) rest → Rest l (ns ++ rest)) →
    IsMidway a c n0 n2 Next Whole
midway-step a b c n0 n1 n2 Rest Next Whole Q mid gives step l sound stands =
    let i = mid l sound stands in
    let l1 = after_notes l i.gained in
    let s1 : IsSound b.setting l1 = subst (λ m. IsSound m l1) (sym i.goes.happened.stays.setting) i.goes.sound in
    let g = gives l1 s1 i.goes.happened.stands tt in
    record {
      gained = i.gained ++ g.0;
      added = g.1 ∙ ap (λ x. x ++ g.0) i.added ∙ append_assoc n0 i.gained g.0;
      goes = goes-then a b c l i.gained g.0 i.goes g.3;
      more = λ rest h. subst (Whole l) (sym (append_assoc i.gained g.0 rest))
          (i.more (g.0 ++ rest) (step l1 g.0 rest i.goes.happened.stays.setting i.goes.happened.stays.closing s1 i.goes.happened.stands g.2
          (subst (λ x. Next x rest) (after_notes-append l i.gained g.0) h)));
    }

pub midway-end : (a b : SystemView) (n0 n1 : List Note) (Rest Whole Q : Ledger → List Note → Type 0) → IsMidway a b n0 n1 Rest Whole →
    ((l : Ledger) → IsSound b.setting l → b.stands l → Rest l []) →
    ((l : Ledger) (ns : List Note) → a.stands l → IsSound a.setting l → Whole l ns → Q l ns) → Gives a b n0 n1 Always Q
midway-end a b n0 n1 Rest Whole Q mid none at l sound stands ready =
    let i = mid l sound stands in (
      i.gained,
      i.added,
      at l i.gained stands sound (subst (Whole l) (append-nil i.gained) (i.more [] (none (after_notes l i.gained)
          (subst (λ m. IsSound m (after_notes l i.gained)) (sym i.goes.happened.stays.setting) i.goes.sound) i.goes.happened.stands))),
      i.goes,
    )
