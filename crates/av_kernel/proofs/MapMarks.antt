-- The protections and flags of a process's pages after its areas were mapped, unmapped or changed.
use Rattle.std.proofs.Common.{◌≡◌, ℕ, ◌+◌, ◌-◌, ◌≤◌, Bool, true, false, cond, Option, Some, None, is_some, option_map, refl, sym, ap, ◌∙◌, arith, ◌==◌}
use Rattle.av_base.specs.Limits.{low_page, top_page}
use Rattle.av_base.specs.Words.{within}
use Rattle.av_base.specs.declared.flags.Flags.{Flags}
use Rattle.av_base.specs.declared.prot.Prot.{Prot}
use Rattle.av_vma.specs.declared.area.Area.{Area}
use Rattle.av_vmatree.specs.Spans.{IsFree}
use Rattle.av_vma.specs.Gap.{IsRoom}
use Rattle.av_vma.specs.Pages.{Effect, home_of, Lengths, Pages, split_at, after_map, pages_in, after_unmap, pages_changed}
use Rattle.av_merge.specs.Mapping.{Mapping, mapping, mapping_in, mapping_with, IsRemapped}
use Rattle.av_vma.proofs.Laid.{has_area}
use Rattle.av_vma.proofs.Marks.{area_marks, marks_mapped, marks_split}
use Rattle.av_spaces.specs.Spaces.{Spaces, pages_of, is_taken, AreThese, IsChanged}
use Rattle.av_spaces.proofs.Rising.{laid}
use Rattle.av_plain.specs.Mremap.{marks_at}
use Rattle.av_plain.specs.Transcript.{State}
use Rattle.av_plain.specs.World.{Page, pages}
use Rattle.av_plain.specs.Device.{Device}
use Rattle.av_mem.specs.declared.mem.Mem.{Mem}
use Rattle.av_mem.specs.Mem.{Keeps}
use Rattle.av_mem.proofs.MemLaws.{all_apart, prots_are}
use Rattle.av_vma.proofs.Homes.{KeepsHomes, homes_changed, homes_mapped, homes_unmapped}
use Rattle.av_kernel.specs.Map.{Marks, changed_on, marks_on, marks_with, set_on, GetsAreas, GetsMarks, HomesStay}
use Rattle.av_step.proofs.StepLaws.{is_number, other_number}

-- a page has marks exactly where it has an area
pub marks_there : (on : Pages) (page : ℕ) → is_some (marks_on on page) ≡ is_some (on page)
marks_there on page = by (on page)
  where
    by : (o : Option Area) → is_some (option_map area_marks o) ≡ is_some o
    by None = refl
    by (Some area) = refl

-- ---- they are those of the pages

-- the protection and the flags of a page
abbrev pub page_marks : Page → Prot × Flags
page_marks x = (x.prot, x.flags)

-- an area and a page with the same ones have the same protection and the same flags
module _ (o : Option Area) (x : Option Page) where
  pub marks_both : option_map (λ (area : Area). area.prot) o ≡ option_map (λ (p : Page). p.prot) x
      → option_map (λ (area : Area). area.flags) o ≡ option_map (λ (p : Page). p.flags) x → option_map area_marks o ≡ option_map page_marks x
  marks_both = by o x
    where
      same : (area : Area) (p : Page) → area.prot ≡ p.prot → area.flags ≡ p.flags → area_marks area ≡ page_marks p
      same area p e f = λ i. (e i, f i)

      by : (o : Option Area) (x : Option Page) → option_map (λ (area : Area). area.prot) o ≡ option_map (λ (p : Page). p.prot) x
          → option_map (λ (area : Area). area.flags) o ≡ option_map (λ (p : Page). p.flags) x → option_map area_marks o ≡ option_map page_marks x
      by None None e f = refl
      by None (Some p) e f = cc
      by (Some area) None e f = cc
      by (Some area) (Some p) e f = ap Some (same area p (cc) (cc))

  pub marks_prot : option_map area_marks o ≡ option_map page_marks x → option_map (λ (area : Area). area.prot) o ≡ option_map (λ (p : Page). p.prot) x
  marks_prot e = first o ∙ ap (option_map (λ (m : Prot × Flags). m.0)) e ∙ sym (second x)
    where
      first : (o : Option Area) → option_map (λ (area : Area). area.prot) o ≡ option_map (λ (m : Prot × Flags). m.0) (option_map area_marks o)
      first None = refl
      first (Some area) = refl

      second : (x : Option Page) → option_map (λ (p : Page). p.prot) x ≡ option_map (λ (m : Prot × Flags). m.0) (option_map page_marks x)
      second None = refl
      second (Some p) = refl

  pub marks_flags : option_map area_marks o ≡ option_map page_marks x
      → option_map (λ (area : Area). area.flags) o ≡ option_map (λ (p : Page). p.flags) x
  marks_flags e = first o ∙ ap (option_map (λ (m : Prot × Flags). m.1)) e ∙ sym (second x)
    where
      first : (o : Option Area) → option_map (λ (area : Area). area.flags) o ≡ option_map (λ (m : Prot × Flags). m.1) (option_map area_marks o)
      first None = refl
      first (Some area) = refl

      second : (x : Option Page) → option_map (λ (p : Page). p.flags) x ≡ option_map (λ (m : Prot × Flags). m.1) (option_map page_marks x)
      second None = refl
      second (Some p) = refl

-- so it is of the pages of each process
pub marks_kept : {d : Device} (k : Mem) (s : State) → Keeps d k s → (p page : ℕ)
    → marks_on (pages_of k.spaces.processes p) page ≡ marks_at (pages s.world p) page
marks_kept k s keeps p page = marks_both (pages_of k.spaces.processes p page) (pages s.world p page)
    (sym (prots_are k.spaces.processes p page) ∙ keeps.stands.parts.areas.covers p page) (keeps.stands.parts.areas.flags p page)

-- ---- unmap

many : (from n : ℕ) → (from + n) - from ≡ n
many from n = omega arith

marks_out : (on : Pages) (from n page : ℕ) → marks_on (after_unmap from (from + n) on) page ≡ set_on from n None (marks_on on) page
marks_out on from n page =
    ap (λ k. option_map area_marks (cond (within from k page) None (split_at (from + n) (split_at from on) page))) (many from n)
    ∙ elim (within from n page) as (λ b. option_map area_marks (cond b None (split_at (from + n) (split_at from on) page))
    ≡ cond b None (marks_on on page)) [
      | true ↦ refl
      | false ↦ marks_split (from + n) (split_at from on) page ∙ marks_split from on page
    ]

-- ---- change

abbrev mapping_marks : Mapping → Prot × Flags
mapping_marks m = (m.prot, m.flags)

-- they are part of how a page is mapped
as_mapped : (on : Pages) (page : ℕ) → marks_on on page ≡ option_map mapping_marks (mapping on page)
as_mapped on page = by (on page)
  where
    by : (o : Option Area) → option_map area_marks o ≡ option_map mapping_marks (option_map (mapping_in page) o)
    by None = refl
    by (Some area) = refl

marks_changed : (on new : Pages) (from past : ℕ) (effect : Effect) → IsRemapped from past effect on new
    → (page : ℕ) → marks_on new page ≡ changed_on from (past - from) effect (marks_on on) page
marks_changed on new from past effect is page = as_mapped new page ∙ ap (option_map mapping_marks) (is page) ∙ by (within from (past - from) page)
  where
    with_it : (o : Option Area) → option_map mapping_marks (option_map (mapping_with effect) (option_map (mapping_in page) o))
        ≡ option_map (marks_with effect) (option_map area_marks o)
    with_it None = refl
    with_it (Some area) = refl

    by : (b : Bool) → option_map mapping_marks (cond b (option_map (mapping_with effect) (mapping on page)) (mapping on page))
        ≡ cond b (option_map (marks_with effect) (marks_on on page)) (marks_on on page)
    by true = with_it (on page)
    by false = sym (as_mapped on page)

-- ---- what the spaces promise, as marks

has_marks : (s t : Spaces) (p : ℕ) (IsSo : Pages → Type 0) (marks : Marks) → IsChanged s t p IsSo
    → ((page : ℕ) → marks_on (pages_of t p) page ≡ marks page) → GetsMarks s t p marks
has_marks s t p IsSo marks h is = record {
  others = h.others;
  alive = h.alive;
  pages = is;
  number = h.number;
  apart = all_apart t h.rising;
}

-- and as areas
pub gets_areas : (s t : Spaces) (p : ℕ) (on : Pages) → IsChanged s t p (AreThese on) → GetsAreas s t p on
gets_areas s t p on h q page = by (q == p) refl
  where
    by : (b : Bool) → (q == p) ≡ b → pages_of t q page ≡ (cond b on (pages_of s q)) page
    by true e = ap (λ n. pages_of t n page) (is_number q p e) ∙ h.pages page
    by false e = ap (λ a. pages_in a page) (h.others q (other_number q p e))

pub unmapped-marks : (s t : Spaces) (p from n : ℕ) → IsChanged s t p (AreThese (after_unmap from (from + n) (pages_of s p)))
    → GetsMarks s t p (set_on from n None (marks_on (pages_of s p)))
unmapped-marks s t p from n h =
    has_marks s t p (AreThese (after_unmap from (from + n) (pages_of s p))) (set_on from n None (marks_on (pages_of s p))) h
    (λ page. ap (option_map area_marks) (h.pages page) ∙ marks_out (pages_of s p) from n page)

-- the pages of a range are free for a new area
room : (s : Spaces) (p from n : ℕ) → low_page ≤ from → from + n ≤ top_page → IsFree (is_taken s p) from (from + n)
    → IsRoom (has_area (pages_of s p)) ((from + n) - from) from
room s p from n low high free =
    record { lowest = low; highest = omega (arith, high); free = λ page least most. free page least (omega (arith, most)) }

pub mapped-marks : (len : Lengths) (s t : Spaces) (p from n : ℕ) (prot : Prot) (flags : Flags) → 1 ≤ n → low_page ≤ from → from + n ≤ top_page
    → IsFree (is_taken s p) from (from + n) → IsChanged s t p (AreThese (after_map len p from (from + n) prot flags (pages_of s p)))
    → GetsMarks s t p (set_on from n (Some (prot, flags)) (marks_on (pages_of s p)))
mapped-marks len s t p from n prot flags some low high free h =
    has_marks s t p (AreThese (after_map len p from (from + n) prot flags (pages_of s p)))
    (set_on from n (Some (prot, flags)) (marks_on (pages_of s p))) h
    (λ page. ap (option_map area_marks) (h.pages page)
    ∙ marks_mapped len p from (from + n) prot flags (pages_of s p) (laid s p h.were_rising) (omega (arith, some)) (room s p from n low high free) page
    ∙ ap (λ k. cond (within from k page) (Some (prot, flags)) (marks_on (pages_of s p) page)) (many from n))

pub changed-marks : (len : Lengths) (s t : Spaces) (p from past : ℕ) (effect : Effect)
    → IsChanged s t p (AreThese (pages_changed len effect from (past - from) (pages_of s p))) → IsRemapped from past effect (pages_of s p) (pages_of t p)
    → GetsMarks s t p (changed_on from (past - from) effect (marks_on (pages_of s p)))
changed-marks len s t p from past effect h remap =
    has_marks s t p (AreThese (pages_changed len effect from (past - from) (pages_of s p)))
    (changed_on from (past - from) effect (marks_on (pages_of s p))) h (marks_changed (pages_of s p) (pages_of t p) from past effect remap)

-- ---- and as homes

pub unmapped-homes : (s t : Spaces) (p from n : ℕ) → IsChanged s t p (AreThese (after_unmap from (from + n) (pages_of s p))) → HomesStay s t p from n
unmapped-homes s t p from n h page home outside is =
    ap (home_of page) (h.pages page) ∙ homes_unmapped from (from + n) (pages_of s p) (laid s p h.were_rising) page
    (ap (λ m. within from m page) (many from n) ∙ outside) ∙ is

pub mapped-homes : (len : Lengths) (s t : Spaces) (p from n : ℕ) (prot : Prot) (flags : Flags) → 1 ≤ n → low_page ≤ from → from + n ≤ top_page
    → IsFree (is_taken s p) from (from + n) → IsChanged s t p (AreThese (after_map len p from (from + n) prot flags (pages_of s p)))
    → HomesStay s t p from n
mapped-homes len s t p from n prot flags some low high free h page home outside is =
    ap (home_of page) (h.pages page)
    ∙ homes_mapped len p from (from + n) prot flags (pages_of s p) (laid s p h.were_rising) (omega (arith, some)) (room s p from n low high free)
    page home is

pub changed-homes : (len : Lengths) (s t : Spaces) (p from n : ℕ) (effect : Effect)
    → IsChanged s t p (AreThese (pages_changed len effect from n (pages_of s p))) → KeepsHomes (pages_of s p) (pages_of t p)
changed-homes len s t p from n effect h page home is =
    ap (home_of page) (h.pages page) ∙ homes_changed len effect from n (pages_of s p) (laid s p h.were_rising) page home is
