-- Entries of a range go and move, as an mremap has it.
use Rattle.std.proofs.Common.{◌≡◌, ℕ, ◌+◌, ◌-◌, min, true, false, cond, List, [], ◌∷◌, ◌++◌, None, refl, sym, ap, subst, ◌∙◌, arith, ◌==◌}
use Rattle.std.proofs.lemmas.Bool.Decides.{nat_tests}
use Rattle.av_base.specs.Words.{within}
use Rattle.av_pagetable.specs.Entries.{entry_at}
use Rattle.av_pagetable.specs.declared.pte.Pte.{Pte}
use Rattle.av_pagetable.specs.declared.pte.Pte.TheVariants.{Away, Empty, Here, Zero}
use Rattle.std.proofs.lemmas.List.{append-nil, append_assoc}
use Rattle.av_trace.specs.declared.note.Note.{Note}
use Rattle.av_plain.specs.Choice.{Chooses, ChoosesAll}
use Rattle.av_plain.specs.Device.{Device, setting_of}
use Rattle.av_plain.specs.Event.{Event, EntriesMoved, after_all, notes_of}
use Rattle.av_plain.specs.Ledger.{Ledger, entry}
use Rattle.av_plain.specs.Mremap.{range_zaps, remap_events}
use Rattle.av_plain.specs.Stands.{ItemsAre, entry_of, free_of}
use Rattle.av_plain.specs.Zap.{keys_in, zaps_of}
use Rattle.av_plain.proofs.Access.{after_all-append, chooses-append, notes_of-append}
use Rattle.av_plain.proofs.Mremap.{after-elsewhere, target_free, then_tail, then_target}
use Rattle.av_mem.specs.declared.mem.Mem.{Mem}
use Rattle.av_mem.specs.Mem.{HasLedger, frame_count, plain, setting_by, view}
use Rattle.av_mem.specs.Zap.{HasZapped}
use Rattle.av_mremap.specs.Entries.{HasMovedEntries, HasRemapped}

-- a place where the ledger has no entry is empty
pub no_entry : (d : Device) (k : Mem) (l : Ledger) (p page : ℕ) → HasLedger d k l → entry l (p, page) ≡ None → entry_at k.tables p page ≡ Empty
no_entry d k l p page stands none = by (entry_at k.tables p page) (stands.parts.tables.entries p page ∙ none)
  where
    by : (t : Pte) → entry_of (plain t) ≡ None → t ≡ Empty
    by Empty e = refl
    by Zero e = cc
    by (Here f w s) e = cc
    by (Away s) e = cc

-- the entries of a range have gone, said by its length
pub of_length : (d : Device) (old new : Mem) (l : Ledger) (p from past n : ℕ) (before now : List Note) → past - from ≡ n
    → HasZapped d old new l (zaps_of l (keys_in l p from (past - from))) before now → HasZapped d old new l (range_zaps l p from n) before now
of_length d old new l p from past n before now same h = subst (λ k. HasZapped d old new l (range_zaps l p from k) before now) same h

-- in place those past the new pages have gone
pub in_place : (d : Device) (old new : Mem) (l : Ledger) (p from n to m : ℕ) (before now : List Note) → (to == from) ≡ true
    → HasZapped d old new l (range_zaps l p (from + m) (n - m)) before now → HasRemapped d old new l (remap_events l p from n to m) before now
in_place d old new l p from n to m before now here t =
    subst (λ es. HasRemapped d old new l es before now) (sym is) (record { stands = t.stands; notes = t.notes; free = t.free; items = t.items })
  where
    is : remap_events l p from n to m ≡ range_zaps l p (from + m) (n - m)
    is = ap (λ b. cond b (range_zaps l p (from + m) (n - m))
        ((range_zaps l p to m ++ range_zaps (then_target l p from n to m) p (from + m) (n - m)) ++ EntriesMoved p (min n m) from to ∷ [])) here

module _ (d : Device) (old mid gone : Mem) (l : Ledger) (p from n to m : ℕ) (before between now : List Note)
    (first : HasZapped d old mid l (range_zaps l p to m) before between)
    (second : HasZapped d mid gone (then_target l p from n to m) (range_zaps (then_target l p from n to m) p (from + m) (n - m)) between now) where
  -- the range to which they go is empty
  pub bare : (o : ℕ) → within to (min n m) o ≡ true → entry_at gone.tables p o ≡ Empty
  bare o inside = no_entry d gone (then_tail l p from n to m) p o second.stands (target_free l p from n to m o inside)

  -- elsewhere the rest has moved, too
  module _ (new : Mem) (counts : frame_count mid ≡ frame_count old) (counts' : frame_count gone ≡ frame_count old)
      (third : HasMovedEntries d gone new (then_tail l p from n to m) p (min n m) from to) where
    abbrev target : List Event
    target = range_zaps l p to m

    abbrev tail : List Event
    tail = range_zaps (then_target l p from n to m) p (from + m) (n - m)

    abbrev last : List Event
    last = EntriesMoved p (min n m) from to ∷ []

    both : after_all l (target ++ tail) ≡ then_tail l p from n to m
    both = after_all-append l target tail

    noted : now ≡ before ++ notes_of ((target ++ tail) ++ last)
    noted = second.notes ∙ ap (λ ns. ns ++ notes_of tail) first.notes ∙ append_assoc before (notes_of target) (notes_of tail)
        ∙ ap (λ ns. before ++ ns) (sym (notes_of-append target tail) ∙ sym (append-nil (notes_of (target ++ tail)))
        ∙ sym (notes_of-append (target ++ tail) last))

    chosen : ChoosesAll (setting_by d old) None l ((target ++ tail) ++ last) (free_of (view old)) (free_of (view new))
    chosen = chooses-append (setting_by d old) None l (target ++ tail) last (free_of (view old)) (free_of (view gone)) (free_of (view new))
        (chooses-append (setting_by d old) None l target tail (free_of (view old)) (free_of (view mid)) (free_of (view gone)) first.free
        (subst (λ c. ChoosesAll (setting_of c d) None (then_target l p from n to m) tail (free_of (view mid)) (free_of (view gone))) counts
        second.free)) (
          free_of (view new),
          subst (λ x. Chooses (setting_by d old) None x (EntriesMoved p (min n m) from to) (free_of (view gone)) (free_of (view new))) (sym both)
              (subst (λ c. Chooses (setting_of c d) None (then_tail l p from n to m) (EntriesMoved p (min n m) from to) (free_of (view gone))
              (free_of (view new)))
              counts' third.free),
          refl,
        )

    pub elsewhere : (to == from) ≡ false → HasRemapped d old new l (remap_events l p from n to m) before now
    elsewhere there = record {
      stands = subst (HasLedger d new) (sym (after-elsewhere l p from n to m there)) third.stands;
      notes = subst (λ es. now ≡ before ++ notes_of es) (sym is) noted;
      free = subst (λ es. ChoosesAll (setting_by d old) None l es (free_of (view old)) (free_of (view new))) (sym is) chosen;
      items = λ items are. subst (λ l'. ItemsAre (view new) l' items) (sym (after-elsewhere l p from n to m there))
          (third.items items (second.items items (first.items items are)));
    }
      where
        is : remap_events l p from n to m ≡ (target ++ tail) ++ last
        is = ap (λ b. cond b (range_zaps l p (from + m) (n - m)) ((target ++ tail) ++ last)) there

pub same_place : (a b : ℕ) → a ≡ b → (a == b) ≡ true
same_place a b h = grind (arith, nat_tests, h)
