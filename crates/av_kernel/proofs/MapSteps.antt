-- The areas of a process stand after a command has changed them, and which they are.
use Rattle.std.proofs.Common.{◌≡◌, ℕ, Bool, true, false, cond, is_some, option_map, refl, sym, ap, ◌∙◌, ◌==◌}
use Rattle.av_base.specs.Words.{with_at}
use Rattle.av_vma.specs.Pages.{Pages, pages_in}
use Rattle.av_spaces.specs.Spaces.{Spaces, pages_of as areas_on}
use Rattle.av_plain.specs.Device.{Device}
use Rattle.av_plain.specs.Mremap.{marks_at}
use Rattle.av_plain.specs.World.{Process, lives, pages, set_process}
use Rattle.av_plain.specs.Transcript.{State}
use Rattle.av_plain.specs.Stands.{AreasAre, AreasStand}
use Rattle.av_plain.proofs.World.{pages-set, lives-set, length-set_old}
use Rattle.av_pagetable.specs.Entries.{has}
use Rattle.av_mem.specs.declared.mem.Mem.{Mem}
use Rattle.av_kernel.specs.Map.{GetsAreas, GetsMarks, Marks, marks_on}
use Rattle.av_kernel.proofs.MapMarks.{marks_flags, marks_kept, marks_prot, page_marks}
use Rattle.av_mem.specs.Mem.{ranges_of, view, HasTables, Keeps}
use Rattle.av_mem.proofs.MemLaws.{alive_is, lives_is, prots_are}
use Rattle.av_step.proofs.StepLaws.{at_number, is_number, other_number}

-- the areas of a process that lives have changed
module _ {d : Device} (old new : Mem) (s : State) (p : ℕ) (now : Process) (marks : Marks) (keeps : Keeps d old s)
    (alive : is_some (ranges_of old.spaces.processes p) ≡ true)
    (spaces : GetsMarks old.spaces.processes new.spaces.processes p marks)
    (is : (page : ℕ) → marks page ≡ marks_at now page) where
  lives_as : (q : ℕ) → is_some (ranges_of new.spaces.processes q) ≡ is_some (ranges_of old.spaces.processes q)
  lives_as q = by (q == p) refl
    where
      by : (b : Bool) → (q == p) ≡ b → is_some (ranges_of new.spaces.processes q) ≡ is_some (ranges_of old.spaces.processes q)
      by true e = ap (λ n. is_some (ranges_of new.spaces.processes n)) (is_number q p e) ∙ alive_is new.spaces.processes p ∙ spaces.alive
          ∙ sym (ap (λ n. is_some (ranges_of old.spaces.processes n)) (is_number q p e) ∙ alive)
      by false e = alive_is new.spaces.processes q ∙ ap is_some (spaces.others q (other_number q p e)) ∙ sym (alive_is old.spaces.processes q)

  pub tables_kept : has new.tables ≡ has old.tables → HasTables new
  tables_kept same q = ap (λ (h : ℕ → Bool). h q) same ∙ keeps.tables q ∙ sym (lives_as q)

  -- the areas have the protections and flags of the pages
  marks_now : (q page : ℕ) → marks_on (areas_on new.spaces.processes q) page ≡ marks_at (pages (set_process s.world p now) q) page
  marks_now q page = by (q == p) refl
      ∙ sym (ap (option_map page_marks) (pages-set s.world p now q page ∙ ap (λ b. cond b (now page) (pages s.world q page)) (at_number q p)))
    where
      by : (b : Bool) → (q == p) ≡ b
          → marks_on (areas_on new.spaces.processes q) page ≡ option_map page_marks (cond (q == p) (now page) (pages s.world q page))
      by true e = ap (λ n. marks_on (areas_on new.spaces.processes n) page) (is_number q p e) ∙ spaces.pages page ∙ is page
          ∙ sym (ap (λ b. option_map page_marks (cond b (now page) (pages s.world q page))) e)
      by false e = ap (λ a. marks_on (pages_in a) page) (spaces.others q (other_number q p e)) ∙ marks_kept old s keeps q page
          ∙ sym (ap (λ b. option_map page_marks (cond b (now page) (pages s.world q page))) e)

  pub areas_changed : AreasStand (view new) (set_process s.world p now)
  areas_changed = record {
    alive = λ q. sym (alive_is new.spaces.processes q) ∙ lives_as q ∙ alive_is old.spaces.processes q ∙ keeps.stands.parts.areas.alive q
        ∙ by q (q == p) refl
        ∙ sym (lives-set s.world p now q ∙ ap (λ b. cond b true (lives s.world q)) (at_number q p));
    number = spaces.number ∙ keeps.stands.parts.areas.number ∙ sym (length-set_old s.world p now keeps.stands.sound.world.in_order lives_now);
    apart = spaces.apart;
    covers = λ q page. prots_are new.spaces.processes q page
        ∙ marks_prot (areas_on new.spaces.processes q page) (pages (set_process s.world p now) q page) (marks_now q page);
    flags = λ q page. marks_flags (areas_on new.spaces.processes q page) (pages (set_process s.world p now) q page) (marks_now q page);
  }
    where
      lives_now : lives s.world p ≡ true
      lives_now = sym (lives_is d old s keeps p) ∙ sym (alive_is old.spaces.processes p) ∙ alive

      by : (q : ℕ) (b : Bool) → (q == p) ≡ b → lives s.world q ≡ cond (q == p) true (lives s.world q)
      by q true e = ap (lives s.world) (is_number q p e) ∙ lives_now ∙ sym (ap (λ b. cond b true (lives s.world q)) e)
      by q false e = sym (ap (λ b. cond b true (lives s.world q)) e)

-- ---- areas that become others

-- areas that are these are those, too
pub re_areas : (s t : Spaces) (p : ℕ) (on on' : Pages) → ((page : ℕ) → on page ≡ on' page) → GetsAreas s t p on → GetsAreas s t p on'
re_areas s t p on on' same h q page = h q page ∙ by (q == p)
  where
    by : (b : Bool) → (cond b on (areas_on s q)) page ≡ (cond b on' (areas_on s q)) page
    by true = same page
    by false = refl

-- the areas of a process that stay are its own
pub unplaced : (s : Spaces) (p : ℕ) → GetsAreas s s p (areas_on s p)
unplaced s p q page = by (q == p) refl
  where
    by : (b : Bool) → (q == p) ≡ b → areas_on s q page ≡ (cond b (areas_on s p) (areas_on s q)) page
    by true e = ap (λ n. areas_on s n page) (is_number q p e)
    by false e = refl

-- what the kernel's areas become, those of the state do
pub areas_so : {d : Device} (old new : Mem) (s : State) (p : ℕ) (change : Pages → Pages) → Keeps d old s →
    GetsAreas old.spaces.processes new.spaces.processes p (change (areas_on old.spaces.processes p)) →
    AreasAre (view new) (with_at p (change (s.areas p)) s.areas)
areas_so {d} old new s p change keeps h q page = h q page
    ∙ (λ i. with_at p (change (λ o. keeps.stands.areas p o i)) (λ r o. keeps.stands.areas r o i) q page)
