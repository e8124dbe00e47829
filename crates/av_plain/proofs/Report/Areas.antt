-- Rows of `areas`: where nothing is asked of them, that those of areas are legal, and that areas that are apart are told by their pages.
use Rattle.std.proofs.Common.{◌≡◌, ◌<◌, ◌≤◌, ℕ, Bool, true, false, cond, List, [], ◌∷◌, map, Some, None, refl, sym, ap, ◌∙◌, arith}
use Rattle.std.proofs.lemmas.Bool.Decides.{nat_tests}
use Rattle.std.specs.Prelude.{nat_lt}
use Rattle.std.specs.List.{AllByRecursion}
use Rattle.av_trace.specs.declared.command.Command.{Command}
use Rattle.av_trace.specs.declared.command.Command.TheVariants.{Areas as AsksAreas}
use Rattle.av_trace.specs.declared.reply.Answer.{Answer}
use Rattle.av_trace.specs.declared.reply.Answer.TheVariants.{Refused}
use Rattle.av_trace.specs.declared.reply.Errno.{Errno}
use Rattle.av_trace.specs.declared.row.Row.{Row}
use Rattle.av_trace.specs.declared.row.Row.TheVariants.{Run}
use Rattle.av_vma.specs.declared.area.Area.{Area}
use Rattle.av_vma.specs.Index.{first_of, past_of}
use Rattle.av_vma.specs.Pages.{IsWhole, has_page, pages_in}
use Rattle.av_plain.specs.Areas.{Anons, Areas}
use Rattle.av_plain.specs.Report.{AreApart, Range, ShowsAreas, area_row, range_of, row_of, run_of}

-- ---- what isn't asked

abbrev pub asks_areas : Command → Bool
asks_areas (AsksAreas p) = true
asks_areas command = false

-- no other command shows areas
pub shows-none : (areas : Areas) (anons : Anons) (command : Command) (answer : Answer) (rows : List Row) → asks_areas command ≡ false
    → ShowsAreas areas anons command answer rows
shows-none areas anons (AsksAreas p) answer rows other = cc
shows-none areas anons command answer rows other = tt

-- nor does a refusal
pub shows-refused : (areas : Areas) (anons : Anons) (command : Command) (error : Errno) (rows : List Row)
    → ShowsAreas areas anons command (Refused error) rows
shows-refused areas anons (AsksAreas p) error rows = tt
shows-refused areas anons command error rows = tt

-- ---- what is legal

-- the rows of whole areas show the runs of their ranges
pub runs-of_rows : (anons : Anons) (areas : List Area) → AllByRecursion IsWhole areas
    → map run_of (map (area_row anons) areas) ≡ map (λ r. Some (row_of r)) (map range_of areas)
runs-of_rows anons [] h = refl
runs-of_rows anons (a ∷ areas) h = λ i. Some (Run (h.0.start i) (h.0.end i) a.prot) ∷ runs-of_rows anons areas h.1 i

-- ---- areas that are apart

pub some_pages : (r : Range) (rs : List Range) → AreApart (r ∷ rs) → r.from < r.to
some_pages r [] h = h
some_pages r (s ∷ rs) h = h.0

pub rest_apart : (r : Range) (rs : List Range) → AreApart (r ∷ rs) → AreApart rs
rest_apart r [] h = tt
rest_apart r (s ∷ rs) h = h.2

pub all_both : {A : Type 0} (P Q R : A → Type 0) → ((x : A) → P x → Q x → R x) → (xs : List A) → AllByRecursion P xs → AllByRecursion Q xs
    → AllByRecursion R xs
all_both P Q R f [] p q = tt
all_both P Q R f (x ∷ xs) p q = (f x p.0 q.0, all_both P Q R f xs p.1 q.1)

pub all_from : {A : Type 0} (P R : A → Type 0) → ((x : A) → P x → R x) → (xs : List A) → AllByRecursion P xs → AllByRecursion R xs
all_from P R f [] p = tt
all_from P R f (x ∷ xs) p = (f x p.0, all_from P R f xs p.1)

-- all later areas begin behind this one
pub behind : (a : Area) (areas : List Area) → AreApart (map range_of (a ∷ areas)) → AllByRecursion (λ b. past_of a ≤ first_of b) areas
behind a [] h = tt
behind a (b ∷ areas) h = (
  h.1,
  all_from (λ (c : Area). past_of b ≤ first_of c) (λ (c : Area). past_of a ≤ first_of c) (λ c le. let meets = h.1 in
      let some = some_pages (range_of b) (map range_of areas) h.2 in omega (arith, meets, some, le)) areas (behind b areas h.2),
)

pub on_area : (a : Area) (page : ℕ) → first_of a ≤ page → page < past_of a → has_page a page ≡ true
on_area a page from to = grind (arith, nat_tests, from, to)

pub past_area : (a : Area) (page : ℕ) → past_of a ≤ page → has_page a page ≡ false
past_area a page past = grind (arith, nat_tests, past)

pub before_area : (a : Area) (page : ℕ) → page < first_of a → has_page a page ≡ false
before_area a page before = grind (arith, nat_tests, before)

pub found : (a : Area) (areas : List Area) (page : ℕ) → has_page a page ≡ true → pages_in (Some (a ∷ areas)) page ≡ Some a
found a areas page is = ap (λ b. cond b (Some a) (pages_in (Some areas) page)) is

pub passed : (a : Area) (areas : List Area) (page : ℕ) → has_page a page ≡ false → pages_in (Some (a ∷ areas)) page ≡ pages_in (Some areas) page
passed a areas page is = ap (λ b. cond b (Some a) (pages_in (Some areas) page)) is

-- each holds its first page
pub on_first : (areas : List Area) → AreApart (map range_of areas) → AllByRecursion (λ (a : Area). pages_in (Some areas) (first_of a) ≡ Some a) areas
on_first [] h = tt
on_first (a ∷ areas) h = (
  found a areas (first_of a) (on_area a (first_of a) (omega arith) (some_pages (range_of a) (map range_of areas) h)),
  all_both (λ (b : Area). past_of a ≤ first_of b) (λ (b : Area). pages_in (Some areas) (first_of b) ≡ Some b)
      (λ (b : Area). pages_in (Some (a ∷ areas)) (first_of b) ≡ Some b)
      (λ b past on. passed a areas (first_of b) (past_area a (first_of b) past) ∙ on) areas
      (behind a areas h) (on_first areas (rest_apart (range_of a) (map range_of areas) h)),
)

-- no area is on a page where all begin behind it
pub none_under : (areas : List Area) (page : ℕ) → AllByRecursion (λ b. page < first_of b) areas → pages_in (Some areas) page ≡ None
none_under [] page h = refl
none_under (a ∷ areas) page h = passed a areas page (before_area a page h.0) ∙ none_under areas page h.1

-- so none is before the first one, and of the later ones none is before its end
pub none_before : (a : Area) (areas : List Area) (page : ℕ) → AreApart (map range_of (a ∷ areas)) → page < first_of a
    → pages_in (Some (a ∷ areas)) page ≡ None
none_before a areas page h before =
    passed a areas page (before_area a page before)
    ∙ none_under areas page (all_from (λ (b : Area). past_of a ≤ first_of b) (λ (b : Area). page < first_of b)
    (λ b le. let some = some_pages (range_of a) (map range_of areas) h in omega (arith, some, le, before)) areas (behind a areas h))

pub none_later : (a : Area) (areas : List Area) (page : ℕ) → AreApart (map range_of (a ∷ areas)) → page < past_of a
    → pages_in (Some areas) page ≡ None
none_later a areas page h before =
    none_under areas page (all_from (λ (b : Area). past_of a ≤ first_of b) (λ (b : Area). page < first_of b)
    (λ b le. omega (arith, le, before)) areas (behind a areas h))

-- areas that are apart are those that their pages have
pub one_list : (areas others : List Area) → AreApart (map range_of areas) → AreApart (map range_of others)
    → ((page : ℕ) → pages_in (Some areas) page ≡ pages_in (Some others) page) → areas ≡ others
one_list [] [] h g same = refl
one_list [] (b ∷ others) h g same = absurd (none_is (same (first_of b) ∙ (on_first (b ∷ others) g).0))
  where
    none_is : {x : Area} → None ≡ Some x → ⊥
    none_is e = cc
one_list (a ∷ areas) [] h g same = absurd (none_is (sym (same (first_of a)) ∙ (on_first (a ∷ areas) h).0))
  where
    none_is : {x : Area} → None ≡ Some x → ⊥
    none_is e = cc
one_list (a ∷ areas) (b ∷ others) h g same =
    let first = by (nat_lt (first_of a) (first_of b)) refl (nat_lt (first_of b) (first_of a)) refl in
    let is = inner (sym (on_first (a ∷ areas) h).0 ∙ same (first_of a) ∙ ap (pages_in (Some (b ∷ others))) first ∙ (on_first (b ∷ others) g).0) in
    let later = one_list areas others (rest_apart (range_of a) (map range_of areas) h) (rest_apart (range_of b) (map range_of others) g)
    (λ page. rest is page (nat_lt page (past_of a)) refl) in
    λ i. is i ∷ later i
  where
    none_is : {x : Area} → None ≡ Some x → ⊥
    none_is e = cc

    inner : {x y : Area} → Some x ≡ Some y → x ≡ y
    inner e = cc

    by : (x : Bool) → nat_lt (first_of a) (first_of b) ≡ x → (y : Bool) → nat_lt (first_of b) (first_of a) ≡ y → first_of a ≡ first_of b
    by true is y e = absurd (none_is (sym (none_before b others (first_of a) g (grind (arith, nat_tests, is))) ∙ sym (same (first_of a))
        ∙ (on_first (a ∷ areas) h).0))
    by false is true e = absurd (none_is (sym (none_before a areas (first_of b) h (grind (arith, nat_tests, e))) ∙ same (first_of b)
        ∙ (on_first (b ∷ others) g).0))
    by false is false e = grind (arith, nat_tests, is, e)

    rest : a ≡ b → (page : ℕ) → (x : Bool) → nat_lt page (past_of a) ≡ x → pages_in (Some areas) page ≡ pages_in (Some others) page
    rest e page true is =
        let under : page < past_of a = grind (arith, nat_tests, is) in
        let end : past_of a ≡ past_of b = ap past_of e in
        none_later a areas page h under ∙ sym (none_later b others page g (omega (arith, under, end)))
    rest e page false is =
        let over : past_of a ≤ page = grind (arith, nat_tests, is) in
        let end : past_of a ≡ past_of b = ap past_of e in
        sym (passed a areas page (past_area a page over)) ∙ same page ∙ passed b others page (past_area b page (omega (arith, over, end)))
