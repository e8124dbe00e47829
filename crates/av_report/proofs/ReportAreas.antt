-- The reply of `areas`.
use Rattle.std.proofs.Common.{◌≡◌, ℕ, ◌*◌, ◌-◌, ◌<◌, ◌&&◌, nat_le, nat_lt, Bool, true, false, cond, not, zero, suc, List, [], ◌∷◌, length, map, Option, Some, None, IfSome, is_some, option_map, slice_index_or, refl, sym, ap, subst, ◌∙◌, arith}
use Rattle.std.proofs.lemmas.Bool.Decides.{nat_tests}
use Rattle.std.specs.Prelude.{IsSomeAnd, MatchOption}
use Rattle.std.specs.List.{AllByRecursion}
use Rattle.std.specs.Option.{option_map_or}
use Rattle.av_base.specs.Words.{is_in, within}
use Rattle.av_anon.specs.declared.anons.Anons.{Anons as AnonSet}
use Rattle.av_vma.specs.declared.area.Area.{Area}
use Rattle.av_vma.specs.Index.{first_of, past_of}
use Rattle.av_vma.specs.Pages.{IsWhole, has_page, pages_in}
use Rattle.av_trace.specs.declared.command.Command.TheVariants.{Areas as AsksAreas}
use Rattle.av_trace.specs.declared.reply.Answer.TheVariants.{AreaList}
use Rattle.av_trace.specs.declared.reply.Errno.TheVariants.{Esrch}
use Rattle.av_trace.specs.declared.row.Row.{Row}
use Rattle.av_trace.specs.declared.row.Row.TheVariants as rows
use Rattle.av_spaces.specs.Kin as in_spaces
use Rattle.av_spaces.specs.Kin.{AnonsFit, chain_at}
use Rattle.av_spaces.specs.Spaces.{AllSpaces, AreRising, areas_of, pages_of as areas_on}
use Rattle.av_plain.specs.Device.{Device}
use Rattle.av_plain.specs.Areas.{Anons, chain_by}
use Rattle.av_plain.specs.Refusal.{tests, refusal, Refuses}
use Rattle.av_plain.specs.Report.{AreRowsOf, area_row, flags_in, range_of}
use Rattle.av_plain.specs.Stands.{prot_of}
use Rattle.av_plain.specs.Step.{Follows}
use Rattle.av_plain.specs.Transcript.{State}
use Rattle.av_plain.proofs.Chains.{shown-rise}
use Rattle.av_plain.proofs.Report.Areas.{all_from, on_first, runs-of_rows}
use Rattle.av_mem.specs.declared.mem.Mem.{Mem}
use Rattle.av_mem.specs.Mem.{anons_of, setting_by, view, Keeps}
use Rattle.av_mem.proofs.AnonLaws.{shown_chain}
use Rattle.av_mem.proofs.MemLaws.{apart_of, lives_is}
use Rattle.av_step.specs.Step.{StepsBeside}
use Rattle.av_report.proofs.ReportRuns.{own_rest, own_first}
use Rattle.av_step.proofs.StepLaws.{areas_kept}
use Rattle.av_step.proofs.Loads.{world_as}

-- ---- the areas of a process

pub all_at : {A : Type 0} (P : A → Type 0) (none : A) (xs : List A) (i : ℕ) → i < length xs → AllByRecursion P xs → P (slice_index_or xs i none)
all_at P none [] i below h = absurd (omega (arith, below))
all_at P none (x ∷ xs) zero below h = h.0
all_at P none (x ∷ xs) (suc i) below h = all_at P none xs i (omega (arith, below)) h.1

wholes : (p : ℕ) (areas : List Area) → AreRising p areas → AllByRecursion IsWhole areas
wholes p [] h = tt
wholes p (a ∷ areas) h = ((own_first p a areas h).whole, wholes p areas (own_rest p a areas h))

-- each holds its first page
pub on_pages : (p : ℕ) (areas : List Area) → AreRising p areas → AllByRecursion (λ (a : Area). pages_in (Some areas) (first_of a) ≡ Some a) areas
on_pages p areas h = on_first areas (apart_of p areas h)

-- ---- its flags are those of its pages

held_at : (start end first past page : ℕ) → start ≡ 4096 * first → end ≡ 4096 * past → first < past
    → (nat_le start (4096 * page) && nat_lt (4096 * page) end) ≡ within first (past - first) page
held_at start end first past page from to some = grind (arith, nat_tests, from, to, some)

flags-of_rows : (anons : Anons) (areas : List Area) (page : ℕ) → AllByRecursion IsWhole areas
    → flags_in (map (area_row anons) areas) page ≡ option_map (λ (area : Area). area.flags) (pages_in (Some areas) page)
flags-of_rows anons [] page h = refl
flags-of_rows anons (a ∷ areas) page h =
    ap (λ b. cond b (Some a.flags) (flags_in (map (area_row anons) areas) page))
    (held_at a.start a.end (first_of a) (past_of a) page h.0.start h.0.end h.0.some) ∙ by (has_page a page) (flags-of_rows anons areas page h.1)
  where
    by : (b : Bool) → flags_in (map (area_row anons) areas) page ≡ option_map (λ (area : Area). area.flags) (pages_in (Some areas) page)
        → cond b (Some a.flags) (flags_in (map (area_row anons) areas) page)
        ≡ option_map (λ (area : Area). area.flags) (cond b (Some a) (pages_in (Some areas) page))
    by true rest = refl
    by false rest = rest

-- ---- its chain is that of its own anon_vma

pub own_chain : (s : AllSpaces) (anons : AnonSet) (p page : ℕ) (a : Area) → AnonsFit s anons → areas_on s.processes p page ≡ Some a
    → chain_at s anons p page ≡ chain_by (anons_of s anons) a.anon
own_chain s anons p page a fit on = ap (λ o. option_map_or (λ (area : Area). in_spaces.chain_by s anons area.anon) o []) on ∙ by a.anon refl
  where
    by : (own : Option ℕ) → a.anon ≡ own → in_spaces.chain_by s anons own ≡ chain_by (anons_of s anons) own
    by None is = refl
    by (Some v) is =
        let owned = fit.own v (p, page, subst (λ o. IsSomeAnd o (λ (area : Area). area.anon ≡ Some v)) (sym on) is) in
        sym (shown_chain s anons v (fit.linked v (
          p,
          page,
          subst (λ o. IsSomeAnd o (λ (area : Area). is_in v (in_spaces.chain_by s anons area.anon) ≡ true))
              (sym on) (subst (λ o. is_in v (in_spaces.chain_by s anons o) ≡ true) (sym is) owned),
        )))

-- ---- the reply

-- the same rows, by anon_vmas with the same chains
rows_by : (a b : Anons) (areas : List Area) → AllByRecursion (λ (area : Area). chain_by a area.anon ≡ chain_by b area.anon) areas
    → map (area_row a) areas ≡ map (area_row b) areas
rows_by a b [] h = refl
rows_by a b (area ∷ areas) h = λ i. rows.Area area.start area.end area.prot area.pgoff area.anon (h.0 i) area.flags ∷ rows_by a b areas h.1 i

module _ {d : Device} (k : Mem) (s : State) (p : ℕ) (areas : List Area) (keeps : Keeps d k s) (alive : is_some (areas_of k.spaces.processes p) ≡ true)
    (are : areas_of k.spaces.processes p ≡ Some areas) (rising : AreRising p areas) where
  allowed : refusal (tests (setting_by d k) s.world s.ledger (AsksAreas p)) ≡ None
  allowed = ap (λ b. cond (not b) (Some Esrch) None) (sym (lives_is d k s keeps p) ∙ alive)

  abbrev pub shown : List Row
  shown = map (area_row (view k).anons) areas

  on : (page : ℕ) → pages_in (Some areas) page ≡ s.areas p page
  on page = ap (λ o. pages_in o page) (sym are) ∙ keeps.stands.areas p page

  chains : AllByRecursion (λ (area : Area). chain_by (view k).anons area.anon ≡ chain_by s.anons area.anon) areas
  chains = all_from (λ (a : Area). pages_in (Some areas) (first_of a) ≡ Some a)
      (λ (a : Area). chain_by (view k).anons a.anon ≡ chain_by s.anons a.anon)
      (λ a here. subst (λ o. IfSome o (λ area. chain_by (view k).anons area.anon ≡ chain_by s.anons area.anon)) (sym (on (first_of a)) ∙ here)
      (keeps.stands.anons.chains p (first_of a)))
      areas (on_pages p areas rising)

  -- the rows are those of the areas that the state has
  rows_are : AreRowsOf s.anons (s.areas p) shown
  rows_are = (areas, rows_by (view k).anons s.anons areas chains, apart_of p areas rising, on)

  pub areas-steps : StepsBeside d k k s (AsksAreas p) (record { answer = AreaList (length shown); notes = []; rows = shown })
  areas-steps = record {
    next = s;
    step = record {
      events = [];
      legal = record {
        answer = subst (λ o. MatchOption o (Follows (setting_by d k) s.world s.ledger (AsksAreas p) [] (AreaList (length shown)) shown)
            (λ e. Refuses e [] (AreaList (length shown)) shown)) (sym allowed) (
              refl,
              (
                map range_of areas,
                runs-of_rows (view k).anons areas (wholes p areas rising),
                apart_of p areas rising,
                λ page. sym (ap (λ o. prot_of (option_map (map range_of) o) page) are) ∙ keeps.stands.parts.areas.covers p page,
                λ page. flags-of_rows (view k).anons areas page (wholes p areas rising)
                    ∙ ap (λ o. option_map (λ (area : Area). area.flags) (pages_in o page)) (sym are) ∙ keeps.stands.parts.areas.flags p page,
                shown-rise s.anons (s.areas p) shown keeps.stands.reach.rising rows_are,
              ),
              refl,
            );
        notes = refl;
      };
      world = world_as (setting_by d k) s.world s.ledger [] (AsksAreas p) (AreaList (length shown)) refl;
      ledger = refl;
      free = refl;
      rmap = areas_kept k s _ _ keeps refl;
      shows = rows_are;
    };
    keeps = keeps;
  }
