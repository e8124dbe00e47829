-- The entries of a range of pages go run by run, and then out of the tables.
use Rattle.std.proofs.Common.{◌≡◌, ℕ, ◌+◌, ◌-◌, ◌<◌, ◌≤◌, Bool, true, false, cond, ◌&&◌, ◌==◌, List, None, is_some, nat_lt, refl, sym, ap, subst, ◌∙◌, arith}
use Rattle.std.proofs.lemmas.Bool.Decides.{nat_tests}
use Rattle.std.proofs.lemmas.Bool.{false≢true}
use Rattle.av_base.specs.Words.{with_at, within}
use Rattle.av_pagetable.specs.Entries.{entry_at}
use Rattle.av_pagetable.specs.Table.{page_bound, without_range}
use Rattle.av_pagetable.specs.declared.pte.Pte.{Pte}
use Rattle.av_pagetable.specs.declared.pte.Pte.TheVariants.{Empty}
use Rattle.av_pagetable.proofs.Entries.{past_pages}
use Rattle.av_plain.specs.Device.{Device}
use Rattle.av_plain.specs.Event.{after_all}
use Rattle.av_plain.specs.Ledger.{Ledger, entry}
use Rattle.av_plain.specs.Stands.{entry_of}
use Rattle.av_plain.specs.Zap.{keys_in, keys_of_process, zaps_of}
use Rattle.av_plain.proofs.Zap.{exit-is-range}
use Rattle.av_trace.specs.declared.note.Note.{Note}
use Rattle.av_mem.specs.declared.mem.Mem.{Mem}
use Rattle.av_mem.specs.Entries.{HasAll, HasEntries, HasLedgerBy, LetsGo, Table, without_pages}
use Rattle.av_mem.specs.Mem.{HasLedger, plain, view}
use Rattle.av_mem.specs.Steps.{KeepsParts}
use Rattle.av_mem.specs.Zap.{HasZapped}
use Rattle.av_mem.proofs.LetGoLaws.{more-go, none-yet, pass-go, rest-none}
use Rattle.av_mem.proofs.PagesGone.{still-there}

-- they have gone from the tables as well
pub zapped-by : (d : Device) (old now new : Mem) (l : Ledger) (p from n : ℕ) (before notes : List Note)
    → LetsGo d old now (view old).table l p from n before notes → new ≡ record now { tables = new.tables }
    → (view new).table ≡ without_pages p from n (view old).table → HasZapped d old new l (zaps_of l (keys_in l p from n)) before notes
zapped-by d old now new l p from n before notes goes same tables = subst (λ k. HasZapped d old k l (zaps_of l (keys_in l p from n)) before notes)
    (sym same) (record {
      stands = subst (λ table. HasLedgerBy d now table (after_all l (zaps_of l (keys_in l p from n)))) (sym tables) goes.stands;
      notes = goes.notes;
      free = goes.free;
      items = goes.items;
    })

-- ---- run by run, while the tables stay

-- the entries of a range below a page have gone
module _ (d : Device) (old now : Mem) (first : Ledger) (p from next : ℕ) (before notes : List Note) (h : HasLedger d old first) (parts : KeepsParts
    old now)
    (low : from ≤ next) (goes : LetsGo d old now (view old).table first p from (next - from) before notes)
    (tables : (view now).table ≡ (view old).table) where
  none-in : (page : ℕ) → entry_at now.tables p page ≡ Empty → (view old).table p page ≡ None
  none-in page is = ap (λ (t : Table). t p page) (sym tables) ∙ ap plain is

  -- so many pages more have none
  pub goes-on : (n : ℕ) → ((q : ℕ) → next ≤ q → q < next + n → entry_at now.tables p q ≡ Empty)
      → LetsGo d old now (view old).table first p from ((next - from) + n) before notes
  goes-on n none = pass-go d old now (view old).table first p from (next - from) n before notes h parts (λ q a b.
      none-in q (none q (omega (arith, low, a)) (omega (arith, low, b)))) goes

  -- up to a page there are no more
  goes-up : (start : ℕ) → next ≤ start → ((q : ℕ) → next ≤ q → q < start → entry_at now.tables p q ≡ Empty)
      → LetsGo d old now (view old).table first p from (start - from) before notes
  goes-up start up none = subst (λ n. LetsGo d old now (view old).table first p from n before notes)
      (let at : (next - from) + (start - next) ≡ start - from = omega (arith, low, up) in at)
      (goes-on (start - next) (λ q a b. none q a (omega (arith, b, up))))

  module _ (start : ℕ) (up : next ≤ start) (none : (q : ℕ) → next ≤ q → q < start → entry_at now.tables p q ≡ Empty)
      (run : List Pte) (are : HasAll (view now).table p start run) where
    all-there : HasAll (without_pages p from (start - from) (view old).table) p (from + (start - from)) run
    all-there i below = still-there (view old).table p from (start - from) (from + (start - from) + i) (omega arith)
        ∙ ap ((view old).table p) (let at : from + (start - from) + i ≡ start + i = omega (arith, low, up) in at)
        ∙ ap (λ (t : Table). t p (start + i)) (sym tables) ∙ are i below

    pub has-entries : HasEntries now run
    has-entries = record {
      device = d;
      ledger = _;
      table = without_pages p from (start - from) (view old).table;
      process = p;
      page = from + (start - from);
      stands = (goes-up start up none).stands;
      there = all-there;
    }

    pub run-more : (new : Mem) (after : List Note) (n : ℕ) → ((l : Ledger) (table : Table) (q other : ℕ) → HasLedgerBy d now table l
        → HasAll table q other run
        → LetsGo d now new table l q other n notes after)
        → LetsGo d old new (view old).table first p from ((start + n) - from) before after
    run-more new after n lets = subst (λ n. LetsGo d old new (view old).table first p from n before after)
        (let at : (start - from) + n ≡ (start + n) - from = omega (arith, low, up) in at)
        (more-go d old now new (view old).table first p from (start - from) n before notes after h parts (goes-up start up none)
        (lets _ (without_pages p from (start - from) (view old).table) p (from + (start - from)) (goes-up start up none).stands all-there))

-- ---- and then the tables lose them

equal : (a b : ℕ) → (a == b) ≡ true → a ≡ b
equal a b e = grind (arith, nat_tests, e)

module _ (d : Device) (old now new : Mem) (first : Ledger) (p : ℕ) (before notes : List Note)
    (tables : (view now).table ≡ (view old).table) (same : new ≡ record now { tables = new.tables }) where
  pub range-gone : (from past : ℕ) → LetsGo d old now (view old).table first p from (past - from) before notes
      → entry_at new.tables ≡ with_at p (without_range from past (entry_at now.tables p)) (entry_at now.tables)
      → HasZapped d old new first (zaps_of first (keys_in first p from (past - from))) before notes
  range-gone from past goes clears = zapped-by d old now new first p from (past - from) before notes goes same
      ((λ i q page. plain (clears i q page)) ∙ (λ i q page. by q page (q == p) refl i) ∙ ap (without_pages p from (past - from)) tables)
    where
      inner : (q page : ℕ) (b : Bool) → (q == p) ≡ true → plain (cond b Empty (entry_at now.tables p page)) ≡ cond b None ((view now).table q page)
      inner q page true at = refl
      inner q page false at = sym (ap (λ q. (view now).table q page) (equal q p at))

      by : (q page : ℕ) (a : Bool) → (q == p) ≡ a
          → plain (cond {A = ℕ → Pte} a (without_range from past (entry_at now.tables p)) (entry_at now.tables q) page)
          ≡ cond (a && within from (past - from) page) None ((view now).table q page)
      by q page true at = inner q page (within from (past - from) page) at
      by q page false at = refl

  -- where no page past the range can have one, all have gone
  pub all-gone : (past : ℕ) → page_bound ≤ past → HasLedger d old first → LetsGo d old now (view old).table first p 0 past before notes
      → entry_at new.tables ≡ with_at {X = ℕ → Pte} p (λ page. Empty) (entry_at now.tables)
      → HasZapped d old new first (zaps_of first (keys_of_process first p)) before notes
  all-gone past high h goes clears = subst (λ ks. HasZapped d old new first (zaps_of first ks) before notes)
      (sym (exit-is-range first p past entries-below))
      (zapped-by d old now new first p 0 past before notes goes same cleared)
    where
      -- no entry lies past the tables' four levels
      below : (page : ℕ) → is_some (entry first (p, page)) ≡ true → (b : Bool) → nat_lt page page_bound ≡ b → page < page_bound
      below page some true e = grind (arith, nat_tests, e)
      below page some false e =
          let high : page_bound ≤ page = grind (arith, nat_tests, e) in
          absurd (false≢true (ap (λ t. is_some (entry_of (plain t))) (sym (past_pages old.tables p page high))
          ∙ ap is_some (h.parts.tables.entries p page) ∙ some))

      entries-below : (page : ℕ) → is_some (entry first (p, page)) ≡ true → page < past
      entries-below page some = omega (arith, high, below page some (nat_lt page page_bound) refl)

      outside : (page : ℕ) → within 0 past page ≡ false → page_bound ≤ page
      outside page e = grind (arith, nat_tests, high, e)

      by : (q page : ℕ) (a b : Bool) → (q == p) ≡ a → within 0 past page ≡ b
          → plain (cond {A = ℕ → Pte} a (λ page. Empty) (entry_at now.tables q) page) ≡ cond (a && b) None ((view now).table q page)
      by q page true true at inside = refl
      by q page true false at inside = sym (ap (λ q. (view now).table q page) (equal q p at)
          ∙ ap plain (past_pages now.tables p page (outside page inside)))
      by q page false b at inside = refl

      cleared : (view new).table ≡ without_pages p 0 past (view old).table
      cleared = (λ i q page. plain (clears i q page)) ∙ (λ i q page. by q page (q == p) (within 0 past page) refl refl i)
          ∙ ap (without_pages p 0 past) tables

-- a range without an entry loses none
pub range-bare : (d : Device) (k : Mem) (l : Ledger) (p from past : ℕ) (notes : List Note) → HasLedger d k l
    → ((q : ℕ) → from ≤ q → q < past → entry_at k.tables p q ≡ Empty)
    → HasZapped d k k l (zaps_of l (keys_in l p from (past - from))) notes notes
range-bare d k l p from past notes h none = range-gone d k k k l p notes notes refl refl from past goes (λ i q o. by q o (q == p) refl i)
  where
    goes : LetsGo d k k (view k).table l p from (past - from) notes notes
    goes =
        let start : from - from ≡ 0 = omega arith in
        let all : (from - from) + (past - from) ≡ past - from = omega arith in
        subst (λ n. LetsGo d k k (view k).table l p from n notes notes) all
        (goes-on d k k l p from from notes notes h (rest-none k).parts (omega arith)
        (subst (λ n. LetsGo d k k (view k).table l p from n notes notes) (sym start) (none-yet d k (view k).table l p from notes h)) refl (past - from)
        (λ q low high. none q low (omega (arith, low, high))))

    inside : (q o : ℕ) → (q == p) ≡ true → (b : Bool) → within from (past - from) o ≡ b
        → entry_at k.tables q o ≡ cond b Empty (entry_at k.tables p o)
    inside q o at true is =
        let low : from ≤ o = grind (arith, nat_tests, is) in
        let high : o < past = grind (arith, nat_tests, is) in
        ap (λ q. entry_at k.tables q o) (equal q p at) ∙ none o low high
    inside q o at false is = ap (λ q. entry_at k.tables q o) (equal q p at)

    by : (q o : ℕ) (a : Bool) → (q == p) ≡ a
        → entry_at k.tables q o ≡ cond {A = ℕ → Pte} a (without_range from past (entry_at k.tables p)) (entry_at k.tables q) o
    by q o true at = inside q o at (within from (past - from) o) refl
    by q o false at = refl
