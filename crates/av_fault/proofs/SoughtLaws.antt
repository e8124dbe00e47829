-- What stands after a frame was sought.
use Rattle.std.proofs.Common.{◌≡◌, ℕ, ◌<◌, ◌==◌, Bool, true, false, cond, ◌&&◌, nat_lt, IsSome, IsTrue, List, Option, Some, None, is_some, refl, sym, ap, subst, ◌∙◌, arith}
use Rattle.std.proofs.lemmas.Bool.Decides.{nat_tests}
use Rattle.std.proofs.lemmas.Bool.{false≢true}
use Rattle.av_base.specs.Keys.{Key}
use Rattle.av_base.specs.Words.{how_many, is_in}
use Rattle.av_spaces.specs.Spaces.{areas_of, pages_of}
use Rattle.av_vma.specs.Pages.{pages_in}
use Rattle.av_vma.specs.declared.area.Area.{Area}
use Rattle.av_trace.specs.declared.note.Note.{Note}
use Rattle.av_plain.specs.Areas.{Rmap, rmap_after_all}
use Rattle.av_plain.specs.Choice.{ListsFree}
use Rattle.av_plain.specs.Device.{Device}
use Rattle.av_plain.specs.Event.{after_all, after_notes, note_events}
use Rattle.av_plain.specs.Fault.{sparing}
use Rattle.av_plain.specs.Ledger.{Ledger, Setting, entry, has_free, is_free}
use Rattle.av_plain.specs.Load.{with_loads}
use Rattle.av_plain.specs.Pass.{is_spared}
use Rattle.av_plain.specs.World.{World}
use Rattle.av_plain.proofs.Access.{note_events-all}
use Rattle.av_plain.proofs.Covered.Page.{fit-areas}
use Rattle.av_plain.proofs.Covered.Swap.{fit-seeks}
use Rattle.av_plain.proofs.Sound.Access.{unused}
use Rattle.av_plain.proofs.Sound.Changes.{any-counts}
use Rattle.av_plain.proofs.Sound.Pass.{Passed, seeks-kept}
use Rattle.av_plain.proofs.Sound.Steps.{is_steady}
use Rattle.av_mem.specs.declared.mem.Mem.{Mem}
use Rattle.av_mem.specs.Mem.{setting_by, view}
use Rattle.av_mem.proofs.MemLaws.{alive_is}
use Rattle.av_mem.specs.Between.{KeepsBetween}
use Rattle.av_mem.specs.Entries.{HasFree}
use Rattle.av_fault.specs.Making.{IsMapped}
use Rattle.av_fault.specs.Seek.{HasSought}
use Rattle.av_fault.specs.declared.seek.Got.{Got}
use Rattle.av_mem.proofs.Between.{setting-stays}
use Rattle.av_fault.proofs.SeekLaws.{free-some}

-- ---- free frames

-- what is listed is free, and one of the machine's
listed-free : (m : Setting) (l : Ledger) (free : List ℕ) (f : ℕ) → ListsFree m l free → is_in f free ≡ true → (is_free l f ≡ true) × (f < m.frames)
listed-free m l free f lists is = by (is_free l f) (nat_lt f m.frames) refl refl (sym (lists f)) (sym (any-counts (λ g. f == g) free) ∙ is)
  where
    by : (a b : Bool) → is_free l f ≡ a → nat_lt f m.frames ≡ b → cond (a && b) 1 0 ≡ how_many (λ g. f == g) free
        → nat_lt 0 (how_many (λ g. f == g) free) ≡ true → (is_free l f ≡ true) × (f < m.frames)
    by true true e i n some = (e, grind (arith, nat_tests, i))
    by true false e i n some = absurd (false≢true (ap (nat_lt 0) n ∙ some))
    by false b e i n some = absurd (false≢true (ap (nat_lt 0) n ∙ some))

pub free-unmapped : (d : Device) (k : Mem) (w : World) (r : Rmap) (l : Ledger) → KeepsBetween d k w r l → (f : ℕ) → is_in f (view k).free ≡ true
    → (view k).maps f ≡ 0
free-unmapped d k w r l h f is =
    let free = listed-free (setting_by d k) l (view k).free f h.serves.free.frames is in
    let none = unused l f free.0 in
    let same = h.serves.held.ledger.frames.maps f in
    omega (arith, none, same)

-- ---- after it

-- a process with an area lives
pub lives-by : (o : Option (List Area)) (page : ℕ) → IsSome (pages_in o page) → is_some o ≡ true
lives-by None page some = absurd (false≢true some)
lives-by (Some areas) page some = refl

module _ (d d' : Device) (old mid : Mem) (w : World) (r : Rmap) (l : Ledger) (pinned : Option ℕ) (before now : List Note) (got : Got)
    (h : KeepsBetween d old w r l) (s : HasSought d d' old mid w r l pinned before now got) where
  abbrev m : Setting
  m = setting_by d old

  abbrev pub ledger_now : Ledger
  ledger_now = after_all l (note_events s.added)

  abbrev pub rmap_now : Rmap
  rmap_now = rmap_after_all l (note_events s.added) r

  abbrev pub world_now : World
  world_now = with_loads m w l (note_events s.added)

  pub passed : Passed m (is_spared (sparing w l pinned)) l (after_notes l s.added)
  passed = seeks-kept m (sparing w l pinned) l s.added h.sound s.seeks

  -- an entry that isn't a frame stays, and so does that of the pinned one
  pub entry-sought : (k : Key) → is_steady (is_spared (sparing w l pinned)) (entry l k) ≡ true → entry ledger_now k ≡ entry l k
  entry-sought k steady = ap (λ x. entry x k) (note_events-all l s.added) ∙ passed.keeps.steady k steady

  pub areas-sought : rmap_now.areas ≡ r.areas
  areas-sought = fit-areas l r s.added (fit-seeks m (sparing w l pinned) l s.added s.seeks)

  pub pages-sought : (p page : ℕ) → pages_of mid.spaces.processes p page ≡ pages_of old.spaces.processes p page
  pages-sought p page = s.done.between.serves.are p page ∙ ap (λ (on : ℕ → ℕ → Option Area). on p page) areas-sought ∙ sym (h.serves.are p page)

  pub lives-sought : (k : Key) → IsMapped old k → is_some (areas_of mid.spaces.processes k.0) ≡ true
  lives-sought k mapped = lives-by (areas_of mid.spaces.processes k.0) k.1 (subst IsSome (sym (pages-sought k.0 k.1)) mapped.area)

  pub mapped-sought : (k : Key) → IsMapped old k → IsMapped mid k
  mapped-sought k mapped = record {
    table = s.done.between.serves.tables k.0 ∙ alive_is mid.spaces.processes k.0 ∙ lives-sought k mapped;
    area = subst IsSome (sym (pages-sought k.0 k.1)) mapped.area;
    below = mapped.below;
  }

  pub free-sought : IsTrue (has_free m (after_notes l s.added)) → HasFree mid
  free-sought found = record {
    some = free-some d' mid world_now rmap_now ledger_now s.done.between
        ((λ i. has_free (setting-stays d d' old mid s.done.same s.done.count i) (note_events-all l s.added i)) ∙ found);
    unmapped = free-unmapped d' mid world_now rmap_now ledger_now s.done.between;
    lists = s.done.between.serves.lists;
  }
