-- What a change of areas keeps of the homes that frames have from pages: the own anon_vma of the page's area, and the page's linear index.
use Rattle.std.proofs.Common.{◌≡◌, ℕ, zero, suc, ◌+◌, ◌-◌, ◌<◌, Bool, true, false, cond, Option, Some, None, is_some, option_map, refl, sym, ap, ◌∙◌, inl, inr}
use Rattle.std.specs.Option.{option_or}
use Rattle.std.specs.Prelude.{unwrap_or}
use Rattle.std.proofs.lemmas.Bool.{false≢true}
use Rattle.std.proofs.lemmas.Option.{none-some, same_Some}
use Rattle.av_base.specs.Words.{within}
use Rattle.av_base.specs.declared.flags.Flags.{Flags}
use Rattle.av_base.specs.declared.prot.Prot.{Prot}
use Rattle.av_vma.specs.declared.area.Area.{Area}
use Rattle.av_vma.specs.Gap.{IsRoom}
use Rattle.av_vma.specs.Index.{index_of}
use Rattle.av_vma.specs.Pages.{AreLaid, Effect, Lengths, Pages, after_map, after_prepare, after_unmap, alters_at, split_at, fresh_area, has_page, home_of, join_of, joined_around, joined_at, loan_beside, page_changed, pages_changed, part_changed, part_of, with_anon, with_area, with_effect, with_effect_on}
use Rattle.av_vma.proofs.Split.{laid_split, laid_part, part_index, part_own}
use Rattle.av_vma.proofs.Join.{join_index, join_own, laid_joined, laid_page_changed, joined_pages, tried_is}
use Rattle.av_vma.proofs.Laid.{fresh_free, has_area, has_parts, laid_fresh}

-- each page that has a home keeps it; a page whose area has no anon_vma may get one
abbrev pub KeepsHomes : Pages → Pages → Type 0
KeepsHomes on on' = (page : ℕ) (home : ℕ × ℕ) → home_of page (on page) ≡ Some home → home_of page (on' page) ≡ Some home

-- one change after another
pub keeps_both : (a b c : Pages) → KeepsHomes a b → KeepsHomes b c → KeepsHomes a c
keeps_both a b c first second page home is = second page home (first page home is)

-- ---- the home by an area

-- an area with the same own anon_vma and the same linear index of a page gives the same home
same_home : (page : ℕ) (old new : Area) → new.anon ≡ old.anon → index_of new page ≡ index_of old page
    → home_of page (Some new) ≡ home_of page (Some old)
same_home page old new own index = λ i. option_map (λ own. (own, index i)) (own i)

-- it is the own anon_vma and the linear index
record IsHome (page : ℕ) (area : Area) (home : ℕ × ℕ) : Type 0 where
  own : area.anon ≡ Some home.0
  index : index_of area page ≡ home.1

home_parts : (page : ℕ) (area : Area) (home : ℕ × ℕ) → home_of page (Some area) ≡ Some home → IsHome page area home
home_parts page area home is = by area.anon refl is
  where
    by : (o : Option ℕ) → area.anon ≡ o → option_map (λ own. (own, index_of area page)) o ≡ Some home → IsHome page area home
    by None e is = absurd (none-some home is)
    by (Some own) e is =
        let same = same_Some (own, index_of area page) home is in
        record { own = e ∙ ap (λ (x : ℕ × ℕ). Some x.0) same; index = ap (λ (x : ℕ × ℕ). x.1) same }

home_from : (page : ℕ) (area : Area) (home : ℕ × ℕ) → IsHome page area home → home_of page (Some area) ≡ Some home
home_from page area home is = λ i. option_map (λ own. (own, is.index i)) (is.own i)

-- ---- split and unmap

-- a split gives each page the home that it had
pub homes_split : (at : ℕ) (on : Pages) → AreLaid on → (page : ℕ) → home_of page (split_at at on page) ≡ home_of page (on page)
homes_split at on laid page = by (on page) refl
  where
    by : (o : Option Area) → on page ≡ o → home_of page (option_map (part_of at page) o) ≡ home_of page o
    by None is = refl
    by (Some area) is =
        let low = (has_parts area page (laid.here page area is)).0 in
        same_home page area (part_of at page area) (part_own at page area) (part_index at page area (laid.whole page area is) low)

homes_splits : (from past : ℕ) (on : Pages) → AreLaid on → (page : ℕ) → home_of page (split_at past (split_at from on) page) ≡ home_of page (on page)
homes_splits from past on laid page = homes_split past (split_at from on) (laid_split from on laid) page ∙ homes_split from on laid page

-- so does unmapping, but for the pages that go
pub homes_unmapped : (from past : ℕ) (on : Pages) → AreLaid on → (page : ℕ) → within from (past - from) page ≡ false
    → home_of page (after_unmap from past on page) ≡ home_of page (on page)
homes_unmapped from past on laid page stays =
    ap (λ b. home_of page (cond b None (split_at past (split_at from on) page))) stays ∙ homes_splits from past on laid page

-- ---- join

module _ (len : Lengths) where
  -- where a boundary is tried, each page keeps its home: two areas that join have one anon_vma, and linear indices that run on
  pub homes_joined : (at : ℕ) (on : Pages) → AreLaid on → KeepsHomes on (joined_at len at on)
  homes_joined at on laid page home is = elim (tried_is len at page on) [
    | inr k ↦ ap (home_of page) k.is ∙ is
    | inl t ↦
        let l = laid.whole (at - 1) t.left t.before in
        let r = laid.whole at t.right t.after in
        elim (joined_pages len t.left t.right l r t.joins page t.here) [
          | inl has ↦
              let h = home_parts page t.left home (sym (ap (home_of page) (laid.all (at - 1) page t.left t.before has)) ∙ is) in
              ap (home_of page) t.is ∙ home_from page (join_of t.left t.right) home (record {
                own = ap (λ own. option_or own t.right.anon) h.own;
                index = h.index;
              })
          | inr has ↦
              let h = home_parts page t.right home (sym (ap (home_of page) (laid.all at page t.right t.after has)) ∙ is) in
              ap (home_of page) t.is ∙ home_from page (join_of t.left t.right) home (record {
                own = join_own len t.left t.right home.0 t.joins h.own;
                index = join_index len t.left t.right l r t.joins page has ∙ h.index;
              })
        ]
  ]

  pub homes_around : (from past : ℕ) (on : Pages) → AreLaid on → KeepsHomes on (joined_around len from past on)
  homes_around from past on laid = keeps_both on (joined_at len from on) (joined_around len from past on)
      (homes_joined from on laid) (homes_joined past (joined_at len from on) (laid_joined len from on laid))

-- ---- map

-- an area on pages that had none
homes_placed : (area : Area) (on : Pages) → ((page : ℕ) → has_page area page ≡ true → on page ≡ None) → KeepsHomes on (with_area area on)
homes_placed area on free page home is = by (has_page area page) refl
  where
    by : (b : Bool) → has_page area page ≡ b → home_of page (cond b (Some area) (on page)) ≡ Some home
    by true has = absurd (none-some home (sym (ap (home_of page) (free page has)) ∙ is))
    by false has = is

-- where free pages are mapped, each page that is there keeps its home
pub homes_mapped : (len : Lengths) (p from past : ℕ) (prot : Prot) (flags : Flags) (on : Pages) → AreLaid on → from < past → IsRoom (has_area on) (past - from) from
    → KeepsHomes on (after_map len p from past prot flags on)
homes_mapped len p from past prot flags on laid some room =
    let fresh = fresh_area p from past prot flags in
    keeps_both on (with_area fresh on) (after_map len p from past prot flags on)
    (homes_placed fresh on (fresh_free p from past prot flags on some room))
    (homes_around len from past (with_area fresh on) (laid_fresh p from past prot flags on some room laid))

-- ---- change

-- another protection and other flags leave each page its home
homes_effect : (from past : ℕ) (effect : Effect) (on : Pages) (page : ℕ)
    → home_of page (with_effect_on from past effect on page) ≡ home_of page (on page)
homes_effect from past effect on page = by (within from (past - from) page)
  where
    each : (o : Option Area) → home_of page (option_map (with_effect effect) o) ≡ home_of page o
    each None = refl
    each (Some area) = refl

    by : (b : Bool) → home_of page (cond b (option_map (with_effect effect) (on page)) (on page)) ≡ home_of page (on page)
    by true = each (on page)
    by false = refl

module _ (len : Lengths) (effect : Effect) where
  part_homes : (from past : ℕ) (on : Pages) → AreLaid on → KeepsHomes on (part_changed len from past effect on)
  part_homes from past on laid page home is =
      let cut = split_at past (split_at from on) in
      homes_around len from past (with_effect_on from past effect cut) (laid_part from past on laid effect) page home
      (homes_effect from past effect cut page ∙ homes_splits from past on laid page ∙ is)

  page_homes : (at : ℕ) (on : Pages) → AreLaid on → KeepsHomes on (page_changed len effect at on)
  page_homes at on laid page home is = by (alters_at effect (on at))
    where
      by : (b : Bool) → home_of page ((cond b (part_changed len at (at + 1) effect on) on) page) ≡ Some home
      by true = part_homes at (at + 1) on laid page home is
      by false = is

  -- where pages get a protection or flags, each page keeps its home
  pub homes_changed : (from n : ℕ) (on : Pages) → AreLaid on → KeepsHomes on (pages_changed len effect from n on)
  homes_changed from zero on laid page home is = is
  homes_changed from (suc n) on laid page home is =
      homes_changed (from + 1) n (page_changed len effect from on) (laid_page_changed len effect from on laid) page home
      (page_homes from on laid page home is)

-- ---- prepare

-- the own anon_vma that an area has once it is prepared: its own, else one that is lent, else a new one with this number
abbrev pub own_after : Lengths → ℕ → Pages → Area → ℕ
own_after len next on area = unwrap_or area.anon (unwrap_or (loan_beside len on area) next)

module _ (len : Lengths) (next at : ℕ) (on : Pages) (laid : AreLaid on) where
  -- where the area of a page is prepared, each page keeps its home
  pub homes_prepared : KeepsHomes on (after_prepare len next at on)
  homes_prepared page home is = by (on at) refl
    where
      -- an area that gets an anon_vma had none, and so its pages had no home
      gets : (area : Area) → on at ≡ Some area → area.anon ≡ None → (own : Option ℕ) (b : Bool) → has_page area page ≡ b
          → home_of page (cond b (Some (record area { anon = own })) (on page)) ≡ Some home
      gets area there none own true has = absurd (none-some home
          (sym (ap (option_map (λ own. (own, index_of area page))) none) ∙ sym (ap (home_of page) (laid.all at page area there has)) ∙ is))
      gets area there none own false has = is

      each : (area : Area) → on at ≡ Some area → (o : Option ℕ) → area.anon ≡ o
          → home_of page ((cond (is_some o) on (with_area (record area { anon = Some (unwrap_or (loan_beside len on area) next) }) on))
          page) ≡ Some home
      each area there None none = gets area there none (Some (unwrap_or (loan_beside len on area) next)) (has_page area page) refl
      each area there (Some own) some = is

      by : (o : Option Area) → on at ≡ o → home_of page (with_anon len next o on page) ≡ Some home
      by None there = is
      by (Some area) there = each area there area.anon refl

  -- and the page has one
  pub home_prepared : (area : Area) → on at ≡ Some area
      → home_of at (after_prepare len next at on at) ≡ Some (own_after len next on area, index_of area at)
  home_prepared area there = ap (λ o. home_of at (with_anon len next o on at)) there ∙ each area.anon refl
    where
      given : (own : ℕ) (b : Bool) → has_page area at ≡ b
          → home_of at (cond b (Some (record area { anon = Some own })) (on at)) ≡ Some (own, index_of area at)
      given own true has = refl
      given own false has = absurd (false≢true (sym has ∙ laid.here at area there))

      each : (o : Option ℕ) → area.anon ≡ o
          → home_of at ((cond (is_some o) on (with_area (record area { anon = Some (unwrap_or (loan_beside len on area) next) }) on)) at)
          ≡ Some (unwrap_or o (unwrap_or (loan_beside len on area) next), index_of area at)
      each None none = given (unwrap_or (loan_beside len on area) next) (has_page area at) refl
      each (Some own) some = ap (home_of at) there ∙ ap (option_map (λ own. (own, index_of area at))) some
