-- The pages that come in: how each is accessed, and those of a range in turn.
use Rattle.std.proofs.Common.{◌≡◌, ℕ, zero, suc, ◌+◌, ◌-◌, ◌*◌, ◌<◌, ◌≤◌, Bool, true, false, cond, List, [], ◌∷◌, ◌++◌, Option, Some, None, option_map, refl, sym, ap, subst, ◌∙◌, arith}
use Rattle.std.specs.Prelude.{option_and_then}
use Rattle.std.proofs.lemmas.List.{append-nil, append_assoc}
use Rattle.av_base.specs.Page.{address_of}
use Rattle.av_base.specs.declared.prot.Prot.{Prot}
use Rattle.av_vma.specs.declared.area.Area.{Area}
use Rattle.av_spaces.specs.Spaces.{pages_of as areas_on}
use Rattle.av_trace.specs.declared.note.Note.{Note}
use Rattle.av_trace.specs.declared.reply.Answer.{Answer}
use Rattle.av_trace.specs.declared.reply.Answer.TheVariants.{Done}
use Rattle.av_plain.specs.Access.{write_answer}
use Rattle.av_plain.specs.Device.{Device}
use Rattle.av_plain.specs.Event.{Event}
use Rattle.av_plain.specs.Ledger.{Ledger, Setting, entry}
use Rattle.av_plain.specs.Load.{is_of_slot, with_loads, without_bytes}
use Rattle.av_plain.specs.Lock.{access_of, accesses_of}
use Rattle.av_plain.specs.Step.{causes}
use Rattle.av_plain.specs.Transcript.{State}
use Rattle.av_plain.specs.World.{Page, Process, World, allows, pages}
use Rattle.av_plain.proofs.Sound.{loads-same}
use Rattle.av_swap_laws.proofs.Load.{pages-unclaimed}
use Rattle.av_mem.specs.declared.mem.Mem.{Mem}
use Rattle.av_mem.specs.Mem.{Keeps, frame_count, setting_by}
use Rattle.av_mem.proofs.MemLaws.{prots_are}
use Rattle.av_fault.specs.declared.fault.Stop.{Stop}
use Rattle.av_fault.specs.declared.fault.Stop.TheVariants.{Denied, Lost, Starved}
use Rattle.av_access.specs.Access.{HasServed, IsBroughtIn, answer_at, causes_of_access, end_at}
use Rattle.av_access.specs.Lock.{access_in}
use Rattle.av_access.specs.Page.{IsPageStep, world_after}
use Rattle.av_access.proofs.AccessSteps.{answers-stopped}
use Rattle.av_access.proofs.ServedLaws.{leaves-none, none-served, page-served, served-append, served-more}

-- ---- one page

-- a page is accessed so, or not at all
abbrev turn_of : ℕ → Option Bool → List (Bool × ℕ)
turn_of page None = []
turn_of page (Some write) = (write, page) ∷ []

-- as its area permits
pub access_as : {d : Device} (k : Mem) (s : State) (p page : ℕ) → Keeps d k s
    → access_of page (pages s.world p page) ≡ turn_of page (option_and_then access_in (areas_on k.spaces.processes p page))
access_as k s p page keeps = by (areas_on k.spaces.processes p page) (pages s.world p page)
    (sym (prots_are k.spaces.processes p page) ∙ keeps.stands.parts.areas.covers p page)
  where
    two : (b c : Bool) → cond b ((true, page) ∷ []) (cond c ((false, page) ∷ []) []) ≡ turn_of page (cond b (Some true) (cond c (Some false) None))
    two true c = refl
    two false true = refl
    two false false = refl

    by : (o : Option Area) (x : Option Page) → option_map (λ (area : Area). area.prot) o ≡ option_map (λ (x : Page). x.prot) x
        → access_of page x ≡ turn_of page (option_and_then access_in o)
    by None None e = refl
    by None (Some x) e = cc
    by (Some area) None e = cc
    by (Some area) (Some x) e = let same : area.prot ≡ x.prot = cc in
        ap (λ (prot : Prot). cond (allows true prot) ((true, page) ∷ []) (cond (allows false prot) ((false, page) ∷ []) [])) (sym same)
        ∙ two (allows true area.prot) (allows false area.prot)

-- loads leave how a page is accessed
access-loaded : (m : Setting) (w : World) (l : Ledger) (es : List Event) (p page : ℕ)
    → access_of page (pages (with_loads m w l es) p page) ≡ access_of page (pages w p page)
access-loaded m w l es p page = loads-same (λ w. access_of page (pages w p page)) m w l es
    (λ l s w. ap (access_of page) (pages-unclaimed l s w p page) ∙ by (is_of_slot s (entry l (p, page))) (pages w p page))
  where
    by : (b : Bool) (o : Option Page) → access_of page (cond b (option_map without_bytes o) o) ≡ access_of page o
    by true None = refl
    by true (Some x) = refl
    by false o = refl

-- a page that was accessed so, of which no byte was read or stored
pub came_in : {d d' : Device} (s : State) (old new : Mem) (write : Bool) (p page : ℕ) (before now : List Note) (stop : Option Stop) → Keeps d old s
    → Some write ≡ option_and_then access_in (areas_on old.spaces.processes p page)
    → IsPageStep d d' s new write p page 0 [] before now stop
    → HasServed d d' s new p (access_of page (pages s.world p page)) (λ w. w) before now stop page
came_in {d} {d'} s old new write p page before now stop keeps is h =
    subst (λ turns. HasServed d d' s new p turns (λ w. w) before now stop page)
    (ap (turn_of page) is ∙ sym (access_as old s p page keeps))
    (subst (λ change. HasServed d d' s new p ((write, page) ∷ []) change before now stop page) (λ i w. bare write stop w i)
    (page-served s new write p page 0 [] before now stop h))
  where
    bare : (write : Bool) (stop : Option Stop) (w : World) → world_after write p page 0 [] stop w ≡ w
    bare true None w = refl
    bare true (Some stop) w = refl
    bare false stop w = refl

-- one that may not be accessed
pub passed_over : {d : Device} (s : State) (k : Mem) (p page : ℕ) (notes : List Note) → Keeps d k s
    → None ≡ option_and_then access_in (areas_on k.spaces.processes p page)
    → HasServed d d s k p (access_of page (pages s.world p page)) (λ w. w) notes notes None page
passed_over {d} s k p page notes keeps is = subst (λ turns. HasServed d d s k p turns (λ w. w) notes notes None page)
    (ap (turn_of page) is ∙ sym (access_as k s p page keeps)) (none-served s k p page notes keeps)

-- ---- pages in turn

turns-append : (q : Process) (from k m : ℕ) → accesses_of q from (k + m) ≡ accesses_of q from k ++ accesses_of q (from + k) m
turns-append q from zero m = (λ i. accesses_of q from (none m i)) ∙ ap (λ b. accesses_of q b m) (let same : from ≡ from + 0 = omega arith in same)
  where
    none : (m : ℕ) → 0 + m ≡ m
    none m = omega arith
turns-append q from (suc k) m =
    ap (accesses_of q from) (let next : suc k + m ≡ suc (k + m) = omega arith in next)
    ∙ ap (λ turns. access_of from (q from) ++ turns) (turns-append q (from + 1) k m
    ∙ ap (λ b. accesses_of q (from + 1) k ++ accesses_of q b m) (let same : (from + 1) + k ≡ from + suc k = omega arith in same))
    ∙ sym (append_assoc (access_of from (q from)) (accesses_of q (from + 1) k) (accesses_of q (from + suc k) m))

turns-from : (q : Process) (from k n page : ℕ) → page ≡ from + k → k < n
    → accesses_of q from n ≡ (accesses_of q from k ++ access_of page (q page)) ++ accesses_of q (page + 1) (n - suc k)
turns-from q from k n page is less =
    ap (accesses_of q from) (let split : n ≡ k + suc (n - suc k) = omega (arith, less) in split)
    ∙ turns-append q from k (suc (n - suc k))
    ∙ ap (λ b. accesses_of q from k ++ (access_of b (q b) ++ accesses_of q (b + 1) (n - suc k))) (sym is)
    ∙ sym (append_assoc (accesses_of q from k) (access_of page (q page)) (accesses_of q (page + 1) (n - suc k)))

module _ {d d' d'' : Device} (s : State) (mid new : Mem) (p from page : ℕ) (before now after : List Note) (stop : Option Stop)
    (same : frame_count new ≡ frame_count mid) (low : from ≤ page)
    (h : HasServed d d' s mid p (accesses_of (pages s.world p) from (page - from)) (λ w. w) before now None from)
    (g : HasServed d' d'' h.next new p (access_of page (pages h.next.world p page)) (λ w. w) now after stop page) where
  -- the pages before it, and this one
  with_turn : HasServed d d'' s new p (accesses_of (pages s.world p) from (page - from) ++ access_of page (pages s.world p page)) (λ w. w) before after stop page
  with_turn = served-append s mid new p (accesses_of (pages s.world p) from (page - from)) (access_of page (pages s.world p page))
      (accesses_of (pages s.world p) from (page - from) ++ access_of page (pages s.world p page)) (λ w. w) (λ w. w) (λ w. w)
      before now after stop from page same h
      (subst (λ turns. HasServed d' d'' h.next new p turns (λ w. w) now after stop page)
      (ap (λ w. access_of page (pages w p page)) h.world ∙ access-loaded (setting_by d mid) s.world s.ledger h.events p page) g)
      refl (leaves-none p) refl (λ w. refl)

  place : page ≡ from + (page - from)
  place = omega (arith, low)

  pub turn_goes_on : stop ≡ None
      → HasServed d d'' s new p (accesses_of (pages s.world p) from (page + 1 - from)) (λ w. w) before after None from
  turn_goes_on none = at_any (subst (λ turns. HasServed d d'' s new p turns (λ w. w) before after None page)
      (sym (ap (accesses_of (pages s.world p) from) (let one : page + 1 - from ≡ suc (page - from) = omega (arith, low) in one)
      ∙ turns-from (pages s.world p) from (page - from) (suc (page - from)) page place (omega arith)
      ∙ ap (λ n. (accesses_of (pages s.world p) from (page - from) ++ access_of page (pages s.world p page)) ++ accesses_of (pages s.world p) (page + 1) n)
      (let zero_left : suc (page - from) - suc (page - from) ≡ 0 = omega arith in zero_left)
      ∙ append-nil (accesses_of (pages s.world p) from (page - from) ++ access_of page (pages s.world p page))))
      (subst (λ stop. HasServed d d'' s new p (accesses_of (pages s.world p) from (page - from) ++ access_of page (pages s.world p page)) (λ w. w)
      before after stop page) none with_turn))
    where
      -- where nothing stopped it matters not at which page
      at_any : {turns : List (Bool × ℕ)} → HasServed d d'' s new p turns (λ w. w) before after None page
          → HasServed d d'' s new p turns (λ w. w) before after None from
      at_any x = record {
        events = x.events;
        notes = x.notes;
        accesses = x.accesses;
        next = x.next;
        world = x.world;
        ledger = x.ledger;
        free = x.free;
        rmap = x.rmap;
        keeps = x.keeps;
        same = x.same;
        wrote = x.wrote;
        failures = x.failures;
      }

  pub turn_stops : (n : ℕ) (why : Stop) (answer : Answer) → stop ≡ Some why → page < from + n
      → answer ≡ answer_at (Some why) Done (4096 * (page - from)) []
      → IsBroughtIn d d'' s new p from n before after answer
  turn_stops n why answer some less is = record {
    stop = Some why;
    page = page;
    served = served-more s new p (accesses_of (pages s.world p) from (page - from) ++ access_of page (pages s.world p page))
        (accesses_of (pages s.world p) (page + 1) (n - suc (page - from))) (accesses_of (pages s.world p) from n)
        (sym (turns-from (pages s.world p) from (page - from) n page place (omega (arith, low, less)))) (λ w. w) before after why page
        (subst (λ stop. HasServed d d'' s new p (accesses_of (pages s.world p) from (page - from) ++ access_of page (pages s.world p page)) (λ w. w)
        before after stop page) some with_turn);
    answers = is ∙ answers-stopped (address_of from) (4096 * (page - from)) page why [] (omega (arith, low));
  }

-- what only failures explain of the answer is what they explain of the access
pub brought-causes : {d d' : Device} (s : State) (new : Mem) (p from n : ℕ) (before now : List Note) (answer : Answer)
    → (h : IsBroughtIn d d' s new p from n before now answer) → (notes : List Note)
    → causes (record { answer = answer; notes = notes; rows = [] }) ≡ causes_of_access notes h.stop
brought-causes s new p from n before now answer h notes = (λ i. causes (record { answer = h.answers i; notes = notes; rows = [] })) ∙ by h.stop
  where
    by : (stop : Option Stop) → causes (record { answer = write_answer (address_of from) (end_at stop h.page); notes = notes; rows = [] })
        ≡ causes_of_access notes stop
    by None = refl
    by (Some Denied) = refl
    by (Some Lost) = refl
    by (Some (Starved out)) = refl

-- all came in
pub all_came : {d d' : Device} (s : State) (new : Mem) (p from n page : ℕ) (before now : List Note) → from ≤ page → page ≤ from + n → from + n ≤ page
    → HasServed d d' s new p (accesses_of (pages s.world p) from (page - from)) (λ w. w) before now None from
    → IsBroughtIn d d' s new p from n before now Done
all_came {d} {d'} s new p from n page before now low high last h = record {
  stop = None;
  page = from;
  served = subst (λ k. HasServed d d' s new p (accesses_of (pages s.world p) from k) (λ w. w) before now None from) (omega (arith, low, high, last)) h;
  answers = refl;
}

-- none yet
pub none_came : {d : Device} (s : State) (k : Mem) (p from : ℕ) (notes : List Note) → Keeps d k s
    → HasServed d d s k p (accesses_of (pages s.world p) from (from - from)) (λ w. w) notes notes None from
none_came {d} s k p from notes keeps = subst (λ n. HasServed d d s k p (accesses_of (pages s.world p) from n) (λ w. w) notes notes None from)
    (let none : 0 ≡ from - from = omega arith in none) (none-served s k p from notes keeps)
