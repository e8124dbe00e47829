-- What a walk changes, entry by entry, in the end: all that names the frame, and nothing else.
use Rattle.std.proofs.Common.{◌≡◌, ℕ, Bool, true, false, cond, Option, Some, None, option_map, refl, sym, ap, ◌∙◌, T}
use Rattle.std.specs.List.{list_any}
use Rattle.std.specs.FinMap.Entries.{is_sorted}
use Rattle.av_base.specs.Keys.{Key, key_cmp, same_key}
use Rattle.av_plain.specs.Ledger.{Ledger, Setting, names_frame, walk}
use Rattle.av_plain.specs.Stands.{LedgerStands, Pte, View, entry_of}
use Rattle.av_plain.proofs.Ledger.Walk.{passes, walk-has}

-- a change of entries that name the frame
abbrev pub changed_where : ℕ → (Pte → Pte) → Pte → Pte
changed_where f change t = cond (names_frame f t.entry) (change t) t

pub walked-all : (m : Setting) (v : View) (l : Ledger) (f : ℕ) (change : Pte → Pte) (table : ℕ → ℕ → Option Pte) → LedgerStands m v l
    → T (is_sorted key_cmp l.entries)
    → ((k : Key) → list_any (same_key k) (walk l f) ≡ true → table k.0 k.1 ≡ option_map change (v.table k.0 k.1))
    → ((k : Key) → list_any (same_key k) (walk l f) ≡ false → table k.0 k.1 ≡ v.table k.0 k.1)
    → (p page : ℕ) → table p page ≡ option_map (changed_where f change) (v.table p page)
walked-all m v l f change table h sorted on off p page = by (v.table p page) refl
  where
    among : list_any (same_key (p, page)) (walk l f) ≡ passes (names_frame f) (entry_of (v.table p page))
    among = walk-has l f (p, page) sorted ∙ ap (passes (names_frame f)) (sym (h.tables.entries p page))

    by : (o : Option Pte) → v.table p page ≡ o → table p page ≡ option_map (changed_where f change) o
    by None e = off (p, page) (among ∙ ap (λ o. passes (names_frame f) (entry_of o)) e) ∙ e
    by (Some t) e = named (names_frame f t.entry) refl
      where
        named : (b : Bool) → names_frame f t.entry ≡ b → table p page ≡ Some (cond b (change t) t)
        named true i = on (p, page) (among ∙ ap (λ o. passes (names_frame f) (entry_of o)) e ∙ i) ∙ ap (option_map change) e
        named false i = off (p, page) (among ∙ ap (λ o. passes (names_frame f) (entry_of o)) e ∙ i) ∙ e
