-- What rows of areas show.
use Rattle.std.proofs.Common.{◌≡◌, ℕ, ◌+◌, ◌-◌, ◌<◌, ◌≤◌, Bool, true, false, cond, ◌&&◌, List, [], ◌∷◌, ◌++◌, append_assoc, append-nil, length, map, Option, Some, None, nat_le, nat_lt, refl, sym, ap, subst, ◌∙◌, arith}
use Rattle.std.specs.Prelude.{◌^◌, option_map}
use Rattle.std.specs.List.{AllByRecursion}
use Rattle.std.proofs.lemmas.Bool.Decides.{nat_tests}
use Rattle.std.specs.BTreeMap.{get}
use Rattle.std.specs.Ordering.{nat_cmp}
use Rattle.av_base.specs.Page.{address_of}
use Rattle.av_base.specs.Words.{within}
use Rattle.av_text.specs.Number.{IsWide}
use Rattle.av_trace.specs.declared.row.Row.{Row}
use Rattle.av_trace.specs.declared.row.Row.TheVariants.{Run, Area, Entry}
use Rattle.av_trace.specs.Row.{IsAreaRow}
use Rattle.av_plain.specs.Report.{AreApart, AreAreas, HasRisingChain, Range as PlainRange, flags_in, prot_in, row_of, run_of}
use Rattle.av_plain.specs.World.{Page, Process}
use Rattle.av_audit_ranges.specs.Ranges.{marks_at}
use Rattle.av_audit_ranges.specs.declared.marks.Marks.{Marks}
use Rattle.av_audit_ranges.specs.declared.marks.Range.{Range}
use Rattle.av_audit_world.specs.Space.{IsPage, IsSpace, byte_in}
use Rattle.av_audit_world.specs.declared.space.Space.{Space}
use Rattle.av_audit_area.specs.Alike.{AreAlike, SaySame}
use Rattle.av_audit_area.specs.Shown.{AreShown, IsShown, IsVerdictOn, Shows, has, said_by}

-- the range of a report
abbrev plain_range : Range → PlainRange
plain_range r = record { from = r.start; to = r.end; prot = r.marks.prot }

abbrev plain_ranges : List Range → List PlainRange
plain_ranges rs = map plain_range rs

-- ---- a row shows one range

shows-one : (row : Row) (a b : Range) → Shows row a → Shows row b → a ≡ b
shows-one (Run start end prot) a b h g = absurd h
shows-one (Entry p address) a b h g = absurd h
shows-one (Area start end prot offset own chain flags) a b h g =
    let starts : a.start ≡ b.start = one a.start b.start (sym h.0 ∙ g.0) in
    let ends : a.end ≡ b.end = one a.end b.end (sym h.1 ∙ g.1) in
    let prots : a.marks.prot ≡ b.marks.prot = sym h.2 ∙ g.2 in
    let flagged : a.marks.flags ≡ b.marks.flags = sym h.3 ∙ g.3 in
    λ i. record { start = starts i; end = ends i; marks = record { prot = prots i; flags = flagged i } }
  where
    one : (x y : ℕ) → address_of x ≡ address_of y → x ≡ y
    one x y e = omega (arith, e)

pub shown-one : (from : ℕ) (rows : List Row) (a b : List Range) → AreShown from rows a → AreShown from rows b → a ≡ b
shown-one from [] [] [] h g = refl
shown-one from [] [] (y ∷ b) h g = absurd g
shown-one from [] (x ∷ a) b h g = absurd h
shown-one from (row ∷ rows) [] b h g = absurd h
shown-one from (row ∷ rows) (x ∷ a) [] h g = absurd g
shown-one from (row ∷ rows) (x ∷ a) (y ∷ b) h g =
    let same : x ≡ y = shows-one row x y h.0.0 g.0.0 in
    let rest : a ≡ b = shown-one y.end rows a b (subst (λ (r : Range). AreShown r.end rows a) same h.1) g.1 in
    λ i. same i ∷ rest i

-- ---- what follows for the rows

shown-runs : (from : ℕ) (rows : List Row) (rs : List Range) → AreShown from rows rs → map run_of rows ≡ map (λ r. Some (row_of r)) (plain_ranges rs)
shown-runs from [] [] h = refl
shown-runs from [] (r ∷ rs) h = absurd h
shown-runs from (row ∷ rows) [] h = absurd h
shown-runs from (Run start end prot ∷ rows) (r ∷ rs) h = absurd h.0.0
shown-runs from (Entry p address ∷ rows) (r ∷ rs) h = absurd h.0.0
shown-runs from (Area start end prot offset own chain flags ∷ rows) (r ∷ rs) h =
    let said = h.0.0 in
    let rest = shown-runs r.end rows rs h.1 in
    λ i. Some (Run (said.0 i) (said.1 i) (said.2 i)) ∷ rest i

shown-apart : (from : ℕ) (rows : List Row) (rs : List Range) → AreShown from rows rs → AreApart (plain_ranges rs)
shown-apart from [] [] h = tt
shown-apart from [] (r ∷ rs) h = absurd h
shown-apart from (row ∷ rows) [] h = absurd h
shown-apart from (row ∷ rows) (r ∷ []) h = h.0.2
shown-apart from (row ∷ []) (r ∷ s ∷ rs) h = absurd h.1
shown-apart from (row ∷ other ∷ rows) (r ∷ s ∷ rs) h = (h.0.2, h.1.0.1, shown-apart r.end (other ∷ rows) (s ∷ rs) h.1)

shown-chains : (from : ℕ) (rows : List Row) (rs : List Range) → AreShown from rows rs → AllByRecursion HasRisingChain rows
shown-chains from [] rs h = tt
shown-chains from (row ∷ rows) [] h = absurd h
shown-chains from (Run start end prot ∷ rows) (r ∷ rs) h = absurd h.0.0
shown-chains from (Entry p address ∷ rows) (r ∷ rs) h = absurd h.0.0
shown-chains from (Area start end prot offset own chain flags ∷ rows) (r ∷ rs) h = (h.0.0.4, shown-chains r.end rows rs h.1)

-- pages are compared as their addresses are
le-scaled : (a b : ℕ) → nat_le (address_of a) (address_of b) ≡ nat_le a b
le-scaled a b = by (nat_le a b) refl
  where
    by : (x : Bool) → nat_le a b ≡ x → nat_le (address_of a) (address_of b) ≡ x
    by true e = grind (arith, nat_tests, e)
    by false e = grind (arith, nat_tests, e)

lt-scaled : (a b : ℕ) → nat_lt (address_of a) (address_of b) ≡ nat_lt a b
lt-scaled a b = by (nat_lt a b) refl
  where
    by : (x : Bool) → nat_lt a b ≡ x → nat_lt (address_of a) (address_of b) ≡ x
    by true e = grind (arith, nat_tests, e)
    by false e = grind (arith, nat_tests, e)

shown-flags : (from : ℕ) (rows : List Row) (rs : List Range) → AreShown from rows rs → (page : ℕ)
    → flags_in rows page ≡ option_map (λ (k : Marks). k.flags) (said_by rs page)
shown-flags from [] [] h page = refl
shown-flags from [] (r ∷ rs) h page = absurd h
shown-flags from (row ∷ rows) [] h page = absurd h
shown-flags from (Run start end prot ∷ rows) (r ∷ rs) h page = absurd h.0.0
shown-flags from (Entry p address ∷ rows) (r ∷ rs) h page = absurd h.0.0
shown-flags from (Area start end prot offset own chain flags ∷ rows) (r ∷ rs) h page =
    let said = h.0.0 in
    let low : nat_le start (address_of page) ≡ nat_le r.start page = ap (λ a. nat_le a (address_of page)) said.0 ∙ le-scaled r.start page in
    let high : nat_lt (address_of page) end ≡ nat_lt page r.end = ap (nat_lt (address_of page)) said.1 ∙ lt-scaled page r.end in
    (λ i. cond (low i && high i) (Some (said.3 i)) (shown-flags r.end rows rs h.1 page i)) ∙ by (has r page)
  where
    by : (b : Bool) → cond b (Some r.marks.flags) (option_map (λ (k : Marks). k.flags) (said_by rs page))
        ≡ option_map (λ (k : Marks). k.flags) (cond b (Some r.marks) (said_by rs page))
    by true = refl
    by false = refl

plain-prot : (rs : List Range) (page : ℕ) → prot_in (plain_ranges rs) page ≡ option_map (λ (k : Marks). k.prot) (said_by rs page)
plain-prot [] page = refl
plain-prot (r ∷ rs) page = ap (λ o. cond (has r page) (Some r.marks.prot) o) (plain-prot rs page) ∙ by (has r page)
  where
    by : (b : Bool) → cond b (Some r.marks.prot) (option_map (λ (k : Marks). k.prot) (said_by rs page))
        ≡ option_map (λ (k : Marks). k.prot) (cond b (Some r.marks) (said_by rs page))
    by true = refl
    by false = refl

-- ---- rows of a legal reply show ranges

-- the first range doesn't begin below a page
abbrev StartsAt : ℕ → List PlainRange → Type 0
StartsAt from [] = Unit {0}
StartsAt from (r ∷ rs) = from ≤ r.from

apart-first : (r : PlainRange) (rs : List PlainRange) → AreApart (r ∷ rs) → r.from < r.to
apart-first r [] h = h
apart-first r (s ∷ rs) h = h.0

apart-rest : (r : PlainRange) (rs : List PlainRange) → AreApart (r ∷ rs) → StartsAt r.to rs × AreApart rs
apart-rest r [] h = (tt, tt)
apart-rest r (s ∷ rs) h = (h.1, h.2)

-- rows show some ranges, which are those of a report
abbrev ShowThese : ℕ → List Row → List PlainRange → Type 0
ShowThese from rows ranges = (rs : List Range) × AreShown from rows rs × (plain_ranges rs ≡ ranges)

areas-shown : (from : ℕ) (rows : List Row) (ranges : List PlainRange) → map run_of rows ≡ map (λ r. Some (row_of r)) ranges
    → StartsAt from ranges → AreApart ranges → AllByRecursion HasRisingChain rows → ShowThese from rows ranges
areas-shown from [] [] e starts apart chains = ([], tt, refl)
areas-shown from [] (r ∷ ranges) e starts apart chains = cc
areas-shown from (row ∷ rows) [] e starts apart chains = cc
areas-shown from (Run start end prot ∷ rows) (r ∷ ranges) e starts apart chains = absurd chains.0
areas-shown from (Entry p address ∷ rows) (r ∷ ranges) e starts apart chains = absurd chains.0
areas-shown from (Area start end prot offset own chain flags ∷ rows) (r ∷ ranges) e starts apart chains =
    let s : start ≡ address_of r.from = cc in
    let t : end ≡ address_of r.to = cc in
    let p : prot ≡ r.prot = cc in
    let more : map run_of rows ≡ map (λ r. Some (row_of r)) ranges = cc in
    let behind = apart-rest r ranges apart in
    let rest = areas-shown r.to rows ranges more behind.0 behind.1 chains.1 in (
      record { start = r.from; end = r.to; marks = record { prot = r.prot; flags = flags } } ∷ rest.0,
      (((s, t, p, refl, chains.0), starts, apart-first r ranges apart), rest.1),
      ap (λ rs. r ∷ rs) rest.2,
    )

-- ---- what a process has mapped

page-prot : (o : Option Marks) (at : ℕ → ℕ) (p : Option Page) → IsPage o at p
    → option_map (λ (k : Marks). k.prot) o ≡ option_map (λ (p : Page). p.prot) p
page-prot None at None h = refl
page-prot None at (Some p) h = absurd h
page-prot (Some k) at None h = absurd h
page-prot (Some k) at (Some p) h = ap Some (sym h.0)

page-flags : (o : Option Marks) (at : ℕ → ℕ) (p : Option Page) → IsPage o at p
    → option_map (λ (k : Marks). k.flags) o ≡ option_map (λ (p : Page). p.flags) p
page-flags None at None h = refl
page-flags None at (Some p) h = absurd h
page-flags (Some k) at None h = absurd h
page-flags (Some k) at (Some p) h = ap Some (sym h.1)

page-none : (o : Option Marks) (at : ℕ → ℕ) (p : Option Page) → IsPage o at p → p ≡ None → o ≡ None
page-none None at p h e = refl
page-none (Some k) at None h e = absurd h
page-none (Some k) at (Some p) h e = cc

-- what is said of a page, by its two parts
marks-same : (a b : Option Marks) → option_map (λ (k : Marks). k.prot) a ≡ option_map (λ (k : Marks). k.prot) b
    → option_map (λ (k : Marks). k.flags) a ≡ option_map (λ (k : Marks). k.flags) b → a ≡ b
marks-same None None e f = refl
marks-same None (Some k) e f = cc
marks-same (Some k) None e f = cc
marks-same (Some k) (Some j) e f =
    let prots : k.prot ≡ j.prot = cc in
    let flagged : k.flags ≡ j.flags = cc in
    λ i. Some (record { prot = prots i; flags = flagged i })

-- no page has an address of more than 64 bits
shown-top : (from : ℕ) (rows : List Row) (rs : List Range) → AreShown from rows rs → AllByRecursion IsAreaRow rows → (page : ℕ) → 2 ^ 52 ≤ page
    → said_by rs page ≡ None
shown-top from [] [] h wide page high = refl
shown-top from [] (r ∷ rs) h wide page high = absurd h
shown-top from (row ∷ rows) [] h wide page high = absurd h
shown-top from (Run start end prot ∷ rows) (r ∷ rs) h wide page high = absurd h.0.0
shown-top from (Entry p address ∷ rows) (r ∷ rs) h wide page high = absurd h.0.0
shown-top from (Area start end prot offset own chain flags ∷ rows) (r ∷ rs) h wide page high =
    ap (λ b. cond b (Some r.marks) (said_by rs page)) (over (nat_le r.start page) r.end (subst IsWide h.0.0.1 wide.0.1))
    ∙ shown-top r.end rows rs h.1 wide.1 page high
  where
    past : (end : ℕ) → IsWide (address_of end) → nat_lt page end ≡ false
    past end small = grind (arith, nat_tests, small, high)

    over : (b : Bool) (end : ℕ) → IsWide (address_of end) → (b && nat_lt page end) ≡ false
    over true end small = past end small
    over false end small = refl

module _ (s : Space) (q : Process) (rows : List Row) (rs : List Range) (at : IsSpace s q) (shown : AreShown 0 rows rs) where
  space-prot : (page : ℕ) → option_map (λ (k : Marks). k.prot) (marks_at s.ranges page) ≡ option_map (λ (p : Page). p.prot) (q page)
  space-prot page = page-prot (marks_at s.ranges page) (byte_in (get nat_cmp s.bytes page)) (q page) (at.pages page)

  space-flags : (page : ℕ) → option_map (λ (k : Marks). k.flags) (marks_at s.ranges page) ≡ option_map (λ (p : Page). p.flags) (q page)
  space-flags page = page-flags (marks_at s.ranges page) (byte_in (get nat_cmp s.bytes page)) (q page) (at.pages page)

  space-top : (page : ℕ) → 2 ^ 52 ≤ page → marks_at s.ranges page ≡ None
  space-top page high = page-none (marks_at s.ranges page) (byte_in (get nat_cmp s.bytes page)) (q page) (at.pages page)
      (at.top page (omega (arith, high)))

  -- the rows are those of a legal reply where the ranges say what the process has
  pub legal-shown : AllByRecursion IsAreaRow rows → SaySame (marks_at s.ranges) (said_by rs) (2 ^ 52) → AreAreas q rows
  legal-shown wide same = (
    plain_ranges rs,
    shown-runs 0 rows rs shown,
    shown-apart 0 rows rs shown,
    λ page. plain-prot rs page ∙ ap (option_map (λ (k : Marks). k.prot)) (all page) ∙ space-prot page,
    λ page. shown-flags 0 rows rs shown page ∙ ap (option_map (λ (k : Marks). k.flags)) (all page) ∙ space-flags page,
    shown-chains 0 rows rs shown,
  )
    where
      all : (page : ℕ) → said_by rs page ≡ marks_at s.ranges page
      all page = by (nat_lt page (2 ^ 52)) refl
        where
          low : nat_lt page (2 ^ 52) ≡ true → page < 2 ^ 52
          low e = grind (arith, nat_tests, e)

          high : nat_lt page (2 ^ 52) ≡ false → 2 ^ 52 ≤ page
          high e = grind (arith, nat_tests, e)

          by : (b : Bool) → nat_lt page (2 ^ 52) ≡ b → said_by rs page ≡ marks_at s.ranges page
          by true e = sym (same page (low e))
          by false e = shown-top 0 rows rs shown wide page (high e) ∙ sym (space-top page (high e))

  -- and there alone
  pub shown-legal : AreAreas q rows → (page : ℕ) → marks_at s.ranges page ≡ said_by rs page
  shown-legal areas page =
      let others = areas-shown 0 rows areas.0 areas.1 (low areas.0) areas.2 areas.5 in
      let ranges : plain_ranges rs ≡ areas.0 = ap plain_ranges (shown-one 0 rows rs others.0 shown others.1) ∙ others.2 in
      marks-same (marks_at s.ranges page) (said_by rs page)
      (space-prot page ∙ sym (areas.3 page) ∙ ap (λ ranges. prot_in ranges page) (sym ranges) ∙ plain-prot rs page)
      (space-flags page ∙ sym (areas.4 page) ∙ shown-flags 0 rows rs shown page)
    where
      low : (ranges : List PlainRange) → StartsAt 0 ranges
      low [] = tt
      low (r ∷ ranges) = omega arith

-- rows that show nothing are those of no legal reply
pub none-shown : (q : Process) (rows : List Row) → ((all : List Range) → AreShown 0 rows all → ⊥) → AreAreas q rows → ⊥
none-shown q rows none areas =
    let others = areas-shown 0 rows areas.0 areas.1 (low areas.0) areas.2 areas.5 in
    none others.0 others.1
  where
    low : (ranges : List PlainRange) → StartsAt 0 ranges
    low [] = tt
    low (r ∷ ranges) = omega arith

pub verdict-on : (s : Space) (q : Process) (rows : List Row) (rs : List Range) (said : ℕ → Option Marks) (alike : Bool) → IsSpace s q
    → AreShown 0 rows rs → AllByRecursion IsAreaRow rows → ((page : ℕ) → said page ≡ said_by rs page)
    → AreAlike (marks_at s.ranges) said (2 ^ 52) alike → IsVerdictOn q rows alike
verdict-on s q rows rs said alike at shown wide says is =
    by alike (subst (λ said. AreAlike (marks_at s.ranges) said (2 ^ 52) alike) (λ i page. says page i) is)
  where
    by : (alike : Bool) → AreAlike (marks_at s.ranges) (said_by rs) (2 ^ 52) alike → IsVerdictOn q rows alike
    by true same = (legal-shown s q rows rs at shown wide same, wide)
    by false differ = λ areas. differ (λ page low. shown-legal s q rows rs at shown areas page)

-- ---- rows, one by one

-- with what the rows to come show, all is shown; and if all is, they show something
pub record IsShownSoFar (rows : List Row) (made : List Range) (from : ℕ) (rest : List Row) : Type 0 where
  pub yes : (more : List Range) → AreShown from rest more → AreShown 0 rows (made ++ more)
  pub no : (all : List Range) → AreShown 0 rows all → (more : List Range) × AreShown from rest more
  pub wide : AllByRecursion IsAreaRow rest → AllByRecursion IsAreaRow rows

pub so-far-none : (rows : List Row) (made : List Range) → made ≡ [] → IsShownSoFar rows made 0 rows
so-far-none rows made none = record {
  yes = λ more shown. subst (λ m. AreShown 0 rows (m ++ more)) (sym none) shown;
  no = λ all shown. (all, shown);
  wide = λ fit. fit;
}

module _ (rows : List Row) (made : List Range) (from : ℕ) (rest : List Row) (row : Row) (others : List Row) (is : row ∷ others ≡ rest)
    (h : IsShownSoFar rows made from rest) where
  front : (from : ℕ) (more : List Range) → AreShown from (row ∷ others) more → (r : Range) × (rs : List Range) × IsShown from row r × AreShown r.end others rs
  front from [] shown = absurd shown
  front from (r ∷ rs) shown = (r, rs, shown.0, shown.1)

  pub so-far-not : ((r : Range) → IsShown from row r → ⊥) → (all : List Range) → AreShown 0 rows all → ⊥
  so-far-not none all shown =
      let more = h.no all shown in
      let first = front from more.0 (subst (λ rs. AreShown from rs more.0) (sym is) more.1) in
      none first.0 first.2

  pub so-far-more : (r : Range) (new : List Range) → IsShown from row r → IsAreaRow row → new ≡ made ++ r ∷ [] → IsShownSoFar rows new r.end others
  so-far-more r new shows fit e = record {
    yes = λ more shown. subst (AreShown 0 rows) (sym (append_assoc made (r ∷ []) more) ∙ ap (λ m. m ++ more) (sym e))
        (h.yes (r ∷ more) (subst (λ rs. AreShown from rs (r ∷ more)) is (shows, shown)));
    no = λ all shown.
        let more = h.no all shown in
        let first = front from more.0 (subst (λ rs. AreShown from rs more.0) (sym is) more.1) in
        (first.1, subst (λ (s : Range). AreShown s.end others first.1) (shows-one row first.0 r first.2.0 shows.0) first.3);
    wide = λ others-fit. h.wide (subst (AllByRecursion IsAreaRow) is (fit, others-fit));
  }

pub so-far-all : (rows : List Row) (made : List Range) (from : ℕ) (rest : List Row) → rest ≡ [] → IsShownSoFar rows made from rest
    → AreShown 0 rows made × AllByRecursion IsAreaRow rows
so-far-all rows made from rest none h = (
  subst (AreShown 0 rows) (append-nil made) (h.yes [] (subst (λ rs. AreShown from rs []) (sym none) tt)),
  h.wide (subst (AllByRecursion IsAreaRow) (sym none) tt),
)

pub none-left : (rows : List Row) → length rows < 1 → rows ≡ []
none-left [] h = refl
none-left (row ∷ rows) h = absurd (omega (arith, h))

-- ---- what is said of pages so far

-- something is said of no page from one on, and of the others what ranges say, which rows so far show
pub record AreSaid (rows : List Row) (said : ℕ → Option Marks) (from : ℕ) (rest : List Row) : Type 0 where
  pub made : List Range
  pub shown : IsShownSoFar rows made from rest
  pub same : (page : ℕ) → said page ≡ said_by made page
  pub none : (page : ℕ) → from ≤ page → said page ≡ None

pub none-said : (rows : List Row) (said : ℕ → Option Marks) → ((page : ℕ) → said page ≡ None) → AreSaid rows said 0 rows
none-said rows said empty = record {
  made = [];
  shown = so-far-none rows [] refl;
  same = empty;
  none = λ page low. empty page;
}

abbrev or_else : Option Marks → Option Marks → Option Marks
or_else first then_ = elim first [ None ↦ then_ | Some k ↦ Some k ]

said-last : (rs : List Range) (r : Range) (page : ℕ) → said_by (rs ++ r ∷ []) page ≡ or_else (said_by rs page) (cond (has r page) (Some r.marks) None)
said-last [] r page = refl
said-last (e ∷ es) r page = by (has e page) (said-last es r page)
  where
    by : (b : Bool) → said_by (es ++ r ∷ []) page ≡ or_else (said_by es page) (cond (has r page) (Some r.marks) None)
        → cond b (Some e.marks) (said_by (es ++ r ∷ []) page) ≡ or_else (cond b (Some e.marks) (said_by es page)) (cond (has r page) (Some r.marks) None)
    by true rest = refl
    by false rest = rest

pub said-more : (rows : List Row) (said new : ℕ → Option Marks) (from : ℕ) (rest : List Row) (row : Row) (others : List Row) (r : Range)
    → row ∷ others ≡ rest → AreSaid rows said from rest → IsShown from row r → IsAreaRow row
    → ((page : ℕ) → new page ≡ cond (within r.start (r.end - r.start) page) (Some r.marks) (said page)) → AreSaid rows new r.end others
said-more rows said new from rest row others r is h shows fit put = record {
  made = h.made ++ r ∷ [];
  shown = so-far-more rows h.made from rest row others is h.shown r (h.made ++ r ∷ []) shows fit refl;
  same = λ page. put page ∙ by page (has r page) refl ∙ ap (λ o. or_else o (cond (has r page) (Some r.marks) None)) (h.same page)
      ∙ sym (said-last h.made r page);
  none = λ page high. put page ∙ ap (λ b. cond b (Some r.marks) (said page)) (past page high)
      ∙ h.none page (let a = shows.1 in let b = shows.2 in omega (arith, a, b, high));
}
  where
    as-has : (s e page : ℕ) → s < e → within s (e - s) page ≡ (nat_le s page && nat_lt page e)
    as-has s e page less = λ i. nat_le s page && nat_lt page (end i)
      where
        end : s + (e - s) ≡ e
        end = omega (arith, less)

    past : (page : ℕ) → r.end ≤ page → within r.start (r.end - r.start) page ≡ false
    past page high = let b = shows.2 in grind (arith, nat_tests, high, b)

    begun : (page : ℕ) → (nat_le r.start page && nat_lt page r.end) ≡ true → r.start ≤ page
    begun page e = grind (arith, nat_tests, e)

    or-none : (o : Option Marks) → o ≡ or_else o None
    or-none None = refl
    or-none (Some k) = refl

    by : (page : ℕ) (b : Bool) → has r page ≡ b
        → cond (within r.start (r.end - r.start) page) (Some r.marks) (said page) ≡ or_else (said page) (cond (has r page) (Some r.marks) None)
    by page true e =
        let empty : said page ≡ None = h.none page (let a = shows.1 in let b = begun page e in omega (arith, a, b)) in
        ap (λ b. cond b (Some r.marks) (said page)) (as-has r.start r.end page shows.2 ∙ e)
        ∙ sym ((λ i. or_else (empty i) (cond (e i) (Some r.marks) None)))
    by page false e = ap (λ b. cond b (Some r.marks) (said page)) (as-has r.start r.end page shows.2 ∙ e)
        ∙ or-none (said page) ∙ ap (λ b. or_else (said page) (cond b (Some r.marks) None)) (sym e)

pub said-not : (rows : List Row) (said : ℕ → Option Marks) (from : ℕ) (rest : List Row) (row : Row) (others : List Row) → row ∷ others ≡ rest
    → AreSaid rows said from rest → ((r : Range) → IsShown from row r → ⊥) → (all : List Range) → AreShown 0 rows all → ⊥
said-not rows said from rest row others is h none = so-far-not rows h.made from rest row others is h.shown none

pub said-all : (rows : List Row) (said : ℕ → Option Marks) (from : ℕ) (rest : List Row) → rest ≡ [] → AreSaid rows said from rest
    → (ranges : List Range) × AreShown 0 rows ranges × AllByRecursion IsAreaRow rows × ((page : ℕ) → said page ≡ said_by ranges page)
said-all rows said from rest none h =
    let both = so-far-all rows h.made from rest none h.shown in
    (h.made, both.0, both.1, h.same)
