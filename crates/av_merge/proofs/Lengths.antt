-- Chains keep their lengths, so pages that are joined by those after some calls are joined by those before them.
use Rattle.std.proofs.Common.{◌≡◌, ℕ, zero, suc, ◌-◌, ◌&&◌, ◌+◌, Bool, true, false, cond, length, List, Option, Some, None, option_map, refl, sym, ap, subst, ◌∙◌, inl, inr}
use Rattle.std.specs.Prelude.{option_and_then}
use Rattle.std.specs.Option.{option_or}
use Rattle.std.proofs.lemmas.Option.{none-some, same_Some}
use Rattle.av_base.specs.Words.{within}
use Rattle.av_base.specs.declared.flags.Flags.{Flags}
use Rattle.av_base.specs.declared.prot.Prot.{Prot}
use Rattle.av_interval.specs.declared.span.Span as interval
use Rattle.av_vma.specs.declared.area.Area.{Area}
use Rattle.av_vma.specs.Join.{are_joinable}
use Rattle.av_vma.specs.Mremap.{joined_over}
use Rattle.av_vma.specs.Pages.{Effect, Lengths, Pages, after_join, after_map, alters_at, split_at, fresh_area, has_page, join_of, joined_around, joined_at, page_changed, pages_changed, part_changed, part_of, with_area, with_effect, with_effect_on}
use Rattle.av_vma.proofs.Split.{part_own}
use Rattle.av_vma.proofs.Join.{tried_is}
use Rattle.av_vmatree.specs.declared.span.Span.{Span}
use Rattle.av_vmatree.specs.Spans.{area_at}
use Rattle.av_anon.specs.Anons.{Family, own_of}
use Rattle.av_anon.specs.Kin.{length_by}
use Rattle.av_anon.specs.Order.{IsInOrder}
use Rattle.av_anon.proofs.KinLaws.{chains_stay}
use Rattle.av_merge.specs.Kin.{KeepsKin}
use Rattle.av_merge.specs.Pages.{pages_by}

-- the chains of the areas on the pages are as long by one as by the other
pub record AreAlike (len len' : Lengths) (on : Pages) : Type 0 where
  pub same : (page : ℕ) (area : Area) → on page ≡ Some area → len area.anon ≡ len' area.anon

-- after calls that kept kin, the areas that stand have chains as long as before
pub alike_after : (areas areas' : ℕ → Option Area) (f f' : Family) (spans spans' : ℕ → List interval.Span) (tree : List Span)
    → IsInOrder areas f spans →
    KeepsKin areas areas' f f' spans' → AreAlike (length_by areas' f') (length_by areas f) (pages_by areas' tree)
alike_after areas areas' f f' spans spans' tree o k = record { same = λ page area e. numbers area (area_at tree page) e }
  where
    lengths : (n : ℕ) (area : Area) → areas' n ≡ Some area → (own : Option ℕ) → area.anon ≡ own → length_by areas' f' own ≡ length_by areas f own
    lengths n area is None e = refl
    lengths n area is (Some v) e = ap length (chains_stay areas areas' f f' spans spans' n v o k.order k.kin (ap own_of is ∙ e))

    numbers : (area : Area) (at : Option ℕ) → option_and_then areas' at ≡ Some area → length_by areas' f' area.anon ≡ length_by areas f area.anon
    numbers area None e = absurd (none-some area e)
    numbers area (Some n) e = lengths n area e area.anon refl

pub alike_same : (len len' : Lengths) (on on' : Pages) → ((page : ℕ) → on' page ≡ on page) → AreAlike len len' on → AreAlike len len' on'
alike_same len len' on on' is h = record { same = λ page area e. h.same page area (sym (is page) ∙ e) }

either : (len len' : Lengths) (a b : Option ℕ) → len a ≡ len' a → len b ≡ len' b → len (option_or a b) ≡ len' (option_or a b)
either len len' None b first second = second
either len len' (Some v) b first second = first

pub alike_joined : (len len' other : Lengths) (at : ℕ) (on : Pages) → AreAlike len len' on → AreAlike len len' (joined_at other at on)
alike_joined len len' other at on h = record {
  same = λ page area e. elim (tried_is other at page on) [
    | inr k ↦ h.same page area (sym k.is ∙ e)
    | inl t ↦ subst (λ (a : Area). len a.anon ≡ len' a.anon) (same_Some (join_of t.left t.right) area (sym t.is ∙ e))
        (either len len' t.left.anon t.right.anon (h.same (at - 1) t.left t.before) (h.same at t.right t.after))
  ];
}

-- a boundary is tried with the same outcome
pub joined_alike : (len len' : Lengths) (at : ℕ) (on : Pages) → AreAlike len len' on → (page : ℕ)
    → joined_at len at on page ≡ joined_at len' at on page
joined_alike len len' at on h page = go (on (at - 1)) (on at) refl refl
  where
    go : (a b : Option Area) → on (at - 1) ≡ a → on at ≡ b → after_join len a b page (on page) ≡ after_join len' a b page (on page)
    go None b e e' = refl
    go (Some l) None e e' = refl
    go (Some l) (Some r) e e' =
        let first = h.same (at - 1) l e in
        let second = h.same at r e' in
        λ i. cond (are_joinable l (first i) r (second i) && has_page (join_of l r) page) (Some (join_of l r)) (on page)

pub around_alike : (len len' : Lengths) (from past : ℕ) (on : Pages) → AreAlike len len' on → (page : ℕ) →
    joined_around len from past on page ≡ joined_around len' from past on page
around_alike len len' from past on h page =
    joined_alike len len' past (joined_at len from on) (alike_joined len len' len from on h) page
    ∙ (λ i. joined_at len' past (λ q. joined_alike len len' from on h q i) page)

-- a boundary that is tried after calls, by the lengths before them
pub joined_later : (len len' : Lengths) (at : ℕ) (on old new : Pages) → AreAlike len' len on → ((page : ℕ) → on page ≡ old page) →
    ((page : ℕ) → new page ≡ joined_at len' at on page) → (page : ℕ) → new page ≡ joined_at len at old page
joined_later len len' at on old new h is now page = now page ∙ joined_alike len' len at on h page ∙ (λ i. joined_at len at (λ q. is q i) page)

-- so with two boundaries
pub around_later : (len len' : Lengths) (from past : ℕ) (on old new : Pages) → AreAlike len' len on → ((page : ℕ) → on page ≡ old page)
    → ((page : ℕ) → new page ≡ joined_around len' from past on page) → (page : ℕ) → new page ≡ joined_around len from past old page
around_later len len' from past on old new h is now page =
    now page ∙ around_alike len' len from past on h page ∙ (λ i. joined_around len from past (λ q. is q i) page)

-- and with many
pub over_alike : (len len' : Lengths) (at n : ℕ) (on : Pages) → AreAlike len len' on → (page : ℕ)
    → joined_over len at n on page ≡ joined_over len' at n on page
over_alike len len' at zero on h page = refl
over_alike len len' at (suc n) on h page =
    over_alike len len' (suc at) n (joined_at len at on) (alike_joined len len' len at on h) page
    ∙ (λ i. joined_over len' (suc at) n (λ q. joined_alike len len' at on h q i) page)

alike_split : (len len' : Lengths) (at : ℕ) (on : Pages) → AreAlike len len' on → AreAlike len len' (split_at at on)
alike_split len len' at on h = record { same = λ page area e. go page area (on page) refl e }
  where
    go : (page : ℕ) (area : Area) (o : Option Area) → on page ≡ o → option_map (part_of at page) o ≡ Some area → len area.anon ≡ len' area.anon
    go page area None e e' = absurd (none-some area e')
    go page area (Some whole) e e' =
        let own : whole.anon ≡ area.anon = sym (part_own at page whole) ∙ ap (λ (a : Area). a.anon) (same_Some (part_of at page whole) area e') in
        subst (λ o. len o ≡ len' o) own (h.same page whole e)

alike_effect : (len len' : Lengths) (from past : ℕ) (effect : Effect) (on : Pages) → AreAlike len len' on →
    AreAlike len len' (with_effect_on from past effect on)
alike_effect len len' from past effect on h = record { same = λ page area e. go page area (within from (past - from) page) e }
  where
    each : (page : ℕ) (area : Area) (o : Option Area) → on page ≡ o → option_map (with_effect effect) o ≡ Some area → len area.anon ≡ len' area.anon
    each page area None e e' = absurd (none-some area e')
    each page area (Some other) e e' = subst (λ o. len o ≡ len' o) (ap (λ (a : Area). a.anon) (same_Some (with_effect effect other) area e'))
        (h.same page other e)

    go : (page : ℕ) (area : Area) (b : Bool) → cond b (option_map (with_effect effect) (on page)) (on page) ≡ Some area
        → len area.anon ≡ len' area.anon
    go page area true e = each page area (on page) refl e
    go page area false e = h.same page area e

pub part_alike : (len len' : Lengths) (from past : ℕ) (effect : Effect) (on : Pages) → AreAlike len len' on → (page : ℕ) →
    part_changed len from past effect on page ≡ part_changed len' from past effect on page
part_alike len len' from past effect on h page =
    around_alike len len' from past (with_effect_on from past effect (split_at past (split_at from on)))
    (alike_effect len len' from past effect (split_at past (split_at from on))
    (alike_split len len' past (split_at from on) (alike_split len len' from on h))) page

-- ---- the words of whole calls

alike_part : (len len' other : Lengths) (from past : ℕ) (effect : Effect) (on : Pages) → AreAlike len len' on →
    AreAlike len len' (part_changed other from past effect on)
alike_part len len' other from past effect on h =
    let cut = split_at past (split_at from on) in
    let now = with_effect_on from past effect cut in
    alike_joined len len' other past (joined_at other from now) (alike_joined len len' other from now
    (alike_effect len len' from past effect cut (alike_split len len' past (split_at from on) (alike_split len len' from on h))))

alike_page : (len len' other : Lengths) (effect : Effect) (page : ℕ) (on : Pages) → AreAlike len len' on
    → AreAlike len len' (page_changed other effect page on)
alike_page len len' other effect page on h = go (alters_at effect (on page))
  where
    go : (b : Bool) → AreAlike len len' (cond b (part_changed other page (page + 1) effect on) on)
    go true = alike_part len len' other page (page + 1) effect on h
    go false = h

page_alike : (len len' : Lengths) (effect : Effect) (page : ℕ) (on : Pages) → AreAlike len len' on → (q : ℕ) →
    page_changed len effect page on q ≡ page_changed len' effect page on q
page_alike len len' effect page on h q = go (alters_at effect (on page))
  where
    go : (b : Bool) → (cond b (part_changed len page (page + 1) effect on) on) q ≡ (cond b (part_changed len' page (page + 1) effect on) on) q
    go true = part_alike len len' page (page + 1) effect on h q
    go false = refl

-- pages are changed with the same outcome
pub pages_alike : (len len' : Lengths) (effect : Effect) (from n : ℕ) (on : Pages) → AreAlike len len' on → (q : ℕ) →
    pages_changed len effect from n on q ≡ pages_changed len' effect from n on q
pages_alike len len' effect from zero on h q = refl
pages_alike len len' effect from (suc n) on h q =
    pages_alike len len' effect (from + 1) n (page_changed len effect from on) (alike_page len len' len effect from on h) q
    ∙ (λ i. pages_changed len' effect (from + 1) n (λ o. page_alike len len' effect from on h o i) q)

-- and so they are mapped, where the new area has no anon_vma
pub map_alike : (len len' : Lengths) (p from past : ℕ) (prot : Prot) (flags : Flags) (on : Pages) → len None ≡ len' None → AreAlike len len' on → (q : ℕ) →
    after_map len p from past prot flags on q ≡ after_map len' p from past prot flags on q
map_alike len len' p from past prot flags on none h q =
    around_alike len len' from past (with_area (fresh_area p from past prot flags) on)
    (record { same = λ page area e. go page area (has_page (fresh_area p from past prot flags) page) e }) q
  where
    go : (page : ℕ) (area : Area) (b : Bool) → cond b (Some (fresh_area p from past prot flags)) (on page) ≡ Some area → len area.anon ≡ len' area.anon
    go page area true e = subst (λ (a : Area). len a.anon ≡ len' a.anon) (same_Some (fresh_area p from past prot flags) area e) none
    go page area false e = h.same page area e
