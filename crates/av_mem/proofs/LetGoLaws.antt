-- What an entry that goes takes with it, and that the entries of a range go as those of its parts do.
use Rattle.std.proofs.Common.{◌≡◌, ℕ, ◌+◌, ◌≤◌, ◌<◌, true, List, [], ◌++◌, Option, Some, None, refl, sym, ap, subst, ◌∙◌}
use Rattle.std.proofs.lemmas.List.{append-nil, append_assoc}
use Rattle.av_base.specs.declared.slot.Slot.{Slot}
use Rattle.av_base.specs.Words.{within}
use Rattle.av_pagetable.specs.Entries.{ProcessTables, has}
use Rattle.av_pagetable.specs.declared.pte.Pte.{Pte}
use Rattle.av_plain.specs.Choice.{ChoosesAll}
use Rattle.av_plain.specs.Device.{Device, setting_of}
use Rattle.av_plain.specs.Event.{Event, after_all, notes_of}
use Rattle.av_plain.specs.Ledger.{Ledger}
use Rattle.av_plain.specs.Areas.{Items}
use Rattle.av_plain.specs.Stands.{ItemsAre, Pte as Plain, View, entry_of, free_of}
use Rattle.av_plain.specs.Zap.{keys_in, zaps_of}
use Rattle.av_plain.proofs.Access.{after_all-append, chooses-append, notes_of-append}
use Rattle.av_plain.proofs.Zap.{range-done}
use Rattle.av_trace.specs.declared.note.Note.{Note}
use Rattle.av_mem.specs.declared.mem.Mem.{Mem}
use Rattle.av_mem.specs.Entries.{HasLedgerBy, LetsGo, Table, slot_behind, view_less, without_pages}
use Rattle.av_mem.specs.Mem.{Sizes, SoundLedger, plain, setting_by, sizes_of, view}
use Rattle.av_mem.specs.Steps.{KeepsParts, KeepsRest}
use Rattle.av_mem.proofs.EntryGoes.{Settles, by_table, one-goes}
use Rattle.av_mem.proofs.StayLaws.{parts-then}
use Rattle.av_mem.proofs.PagesGone.{pages-joined, pages-none, still-there, within-high, within-low, within-none, within-one}
use Rattle.av_mem.proofs.ZapRange.{zaps-split}

-- ---- what stays, over two steps, and the sizes

pub rest-then : {a b c : Mem} → KeepsRest a b → KeepsRest b c → KeepsRest a c
rest-then first second = record {
  parts = parts-then first.parts second.parts;
  bytes = second.bytes ∙ first.bytes;
  homes = second.homes ∙ first.homes;
}

pub rest-none : (k : Mem) → KeepsRest k k
rest-none k = record {
  parts = record {
    stay = refl;
    processes = refl;
    count = refl;
    lists = refl;
    items = refl;
    swap = record { frames = refl; on = refl; bad = refl; closing = refl; priority = refl };
    locks = refl;
  };
  bytes = refl;
  homes = refl;
}

-- other tables of the same processes
pub rest-tables : (k : Mem) (tables : ProcessTables) → has tables ≡ has k.tables → KeepsRest k (record k { tables = tables })
rest-tables k tables same = record {
  parts = record {
    stay = refl;
    processes = same;
    count = refl;
    lists = refl;
    items = refl;
    swap = record { frames = refl; on = refl; bad = refl; closing = refl; priority = refl };
    locks = refl;
  };
  bytes = refl;
  homes = refl;
}

pub ledger-same : (d : Device) (old new : Mem) (v : View) (l : Ledger) → KeepsParts old new
    → SoundLedger (setting_by d old) (sizes_of old) v l
    → SoundLedger (setting_by d new) (sizes_of new) v l
ledger-same d old new v l same h = subst (λ (n : ℕ). SoundLedger (setting_of n d) (sizes_of new) v l) (sym same.count)
    (subst (λ (sizes : Sizes). SoundLedger (setting_by d old) sizes v l) (sym sizes) h)
  where
    sizes : sizes_of new ≡ sizes_of old
    sizes = λ i. record { lists = same.lists i; items = same.items i; swap = same.swap.frames i }

-- ---- a range without entries

pub none-go : (d : Device) (k : Mem) (table : Table) (l : Ledger) (p from n : ℕ) (notes : List Note) → HasLedgerBy d k table l
    → ((page : ℕ) → within from n page ≡ true → table p page ≡ None) → LetsGo d k k table l p from n notes notes
none-go d k table l p from n notes h none = record {
  stands = subst (λ es. HasLedgerBy d k (without_pages p from n table) (after_all l es)) (sym empty)
      (subst (λ (tables : Table). HasLedgerBy d k tables l) (sym (pages-none table p from n none)) h);
  notes = subst (λ es. notes ≡ notes ++ notes_of es) (sym empty) (sym (append-nil notes));
  free = subst (λ es. ChoosesAll (setting_by d k) None l es (free_of (view k)) (free_of (view k))) (sym empty) refl;
  items = subst (λ es. (items : Items) → ItemsAre (view k) l items → ItemsAre (view k) (after_all l es) items) (sym empty) (λ items are. are);
}
  where
    empty : zaps_of l (keys_in l p from n) ≡ []
    empty = range-done l p from n (λ page inside. sym (h.parts.tables.entries p page) ∙ ap entry_of (none page inside))

-- nothing has gone yet
pub none-yet : (d : Device) (k : Mem) (table : Table) (l : Ledger) (p from : ℕ) (notes : List Note) → HasLedgerBy d k table l
    → LetsGo d k k table l p from 0 notes notes
none-yet d k table l p from notes h = none-go d k table l p from 0 notes h (λ page inside. absurd (within-none from page inside))

-- ---- two ranges that touch

pub more-go : (d : Device) (a b c : Mem) (table : Table) (l : Ledger) (p from i j : ℕ) (first second third : List Note) → HasLedgerBy d a table l
    → KeepsParts a b → LetsGo d a b table l p from i first second
    → LetsGo d b c (without_pages p from i table) (after_all l (zaps_of l (keys_in l p from i))) p (from + i) j second third
    → LetsGo d a c table l p from (i + j) first third
more-go d a b c table l p from i j first second third h same one two = record {
  stands = subst (λ es. HasLedgerBy d c (without_pages p from (i + j) table) (after_all l es)) (sym split)
      (subst (λ (now : Ledger). HasLedgerBy d c (without_pages p from (i + j) table) now) (sym (after_all-append l gone rest))
      (subst (λ (tables : Table). HasLedgerBy d c tables (after_all (after_all l gone) rest)) (pages-joined table p from i j) two.stands));
  notes = two.notes ∙ ap (λ ns. ns ++ notes_of rest) one.notes ∙ append_assoc first (notes_of gone) (notes_of rest)
      ∙ ap (λ ns. first ++ ns) (sym (notes_of-append gone rest) ∙ ap notes_of (sym split));
  free = subst (λ es. ChoosesAll (setting_by d a) None l es (free_of (view a)) (free_of (view c))) (sym split)
      (chooses-append (setting_by d a) None l gone rest (free_of (view a)) (free_of (view b)) (free_of (view c)) one.free
      (subst (λ (n : ℕ). ChoosesAll (setting_of n d) None (after_all l gone) rest (free_of (view b)) (free_of (view c))) same.count two.free));
  items = λ items are. subst (λ es. ItemsAre (view c) (after_all l es) items) (sym split)
      (subst (λ (now : Ledger). ItemsAre (view c) now items) (sym (after_all-append l gone rest)) (two.items items (one.items items are)));
}
  where
    gone : List Event
    gone = zaps_of l (keys_in l p from i)

    rest : List Event
    rest = zaps_of (after_all l gone) (keys_in (after_all l gone) p (from + i) j)

    split : zaps_of l (keys_in l p from (i + j)) ≡ gone ++ rest
    split = zaps-split p i l from j h.sound.in_order

-- a range that goes on over pages without entries
pub pass-go : (d : Device) (a b : Mem) (table : Table) (l : Ledger) (p from i j : ℕ) (first second : List Note) → HasLedgerBy d a table l
    → KeepsParts a b
    → ((page : ℕ) → from + i ≤ page → page < from + i + j → table p page ≡ None) → LetsGo d a b table l p from i first second
    → LetsGo d a b table l p from (i + j) first second
pass-go d a b table l p from i j first second h same none one = more-go d a b b table l p from i j first second second h same one
    (none-go d b (without_pages p from i table) (after_all l (zaps_of l (keys_in l p from i))) p (from + i) j second one.stands
    (λ page inside. still-there table p from i page (within-low (from + i) j page inside)
    ∙ none page (within-low (from + i) j page inside) (within-high (from + i) j page inside)))

-- ---- one entry

pub lets-go : (d : Device) (old new : Mem) (entry : Pte) (l : Ledger) (table : Table) (p page : ℕ) (before now : List Note) → KeepsParts old new
    → HasLedgerBy d old table l → table p page ≡ plain entry → (o : Option Slot) → slot_behind (view old) (plain entry) ≡ o
    → Settles o (view_less (plain entry) (view old)) (view new) before now → LetsGo d old new table l p page 1 before now
lets-go d old new entry l table p page before now same h there o = by (plain entry) there
  where
    by : (e : Option Plain) → table p page ≡ e → slot_behind (view old) e ≡ o → Settles o (view_less e (view old)) (view new) before now
        → LetsGo d old new table l p page 1 before now
    by None none behind settles =
        let kept = subst (λ o. Settles o (view old) (view new) before now) (sym behind) settles in
        let g = none-go d old table l p page 1 before h (λ other inside. ap (table p) (within-one page other inside) ∙ none) in
        record {
          stands = ledger-same d old new (by_table (without_pages p page 1 table) (view new)) (after_all l (zaps_of l (keys_in l p page 1))) same
              (subst (λ v. SoundLedger (setting_by d old) (sizes_of old) (by_table (without_pages p page 1 table) v)
              (after_all l (zaps_of l (keys_in l p page 1)))) (sym kept.0) g.stands);
          notes = kept.1 ∙ g.notes;
          free = subst (λ v. ChoosesAll (setting_by d old) None l (zaps_of l (keys_in l p page 1)) (free_of (view old)) (free_of v)) (sym kept.0)
              g.free;
          items = λ items are. subst (λ v. ItemsAre v (after_all l (zaps_of l (keys_in l p page 1))) items) (sym kept.0) (g.items items are);
        }
    by (Some t) there behind settles =
        let g = one-goes (setting_by d old) (sizes_of old) (view old) table l h p page t there (view new) before now
        o behind
        settles in
        record {
          stands = ledger-same d old new (by_table (without_pages p page 1 table) (view new)) (after_all l (zaps_of l (keys_in l p page 1))) same g.0;
          notes = g.1;
          free = g.2;
          items = g.3;
        }
