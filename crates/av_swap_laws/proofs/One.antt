-- One place of a table changes.
use Rattle.std.proofs.Common.{◌≡◌, ℕ, ◌<◌, Bool, true, false, cond, ◌&&◌, List, Option, Some, refl, sym, ap, subst, ◌∙◌, ◌==◌}
use Rattle.std.specs.Prelude.{IfSome}
use Rattle.av_base.specs.Words.{is_in}
use Rattle.av_base.specs.declared.slot.Slot.{Slot}
use Rattle.av_plain.specs.Event.{set_entry}
use Rattle.av_plain.specs.Fault.{asks_copy}
use Rattle.av_plain.specs.Ledger.{Entry, Ledger, Setting, entry, frame_at, is_free, is_stale, map_count, names_frame, slot_entries, slot_of}
use Rattle.av_plain.specs.Stands.{LedgerStands, Pte, View, entry_of}
use Rattle.av_plain.proofs.Ledger.{entry-set}
use Rattle.av_plain.proofs.Ledger.NoSwap.{key_is}
use Rattle.av_swap_laws.specs.Steps.{with_pte}

-- the ledger has this entry there now, and the cache, flight and swap areas that it had
pub record IsSetAt (l l' : Ledger) (p page : ℕ) (e : Option Entry) : Type 0 where
  pub entries : (q o : ℕ) → entry l' (q, o) ≡ cond (q == p && o == page) e (entry l (q, o))
  pub cache : l'.cache ≡ l.cache
  pub flight : l'.flight ≡ l.flight
  pub on : l'.on ≡ l.on

-- so does a ledger in which an entry is set
pub set-at : (l : Ledger) (p page : ℕ) (e : Entry) (q o : ℕ)
    → entry (set_entry (p, page) e l) (q, o) ≡ cond (q == p && o == page) (Some e) (entry l (q, o))
set-at l p page e q o = entry-set (p, page) e l (q, o) ∙ ap (λ b. cond b (Some e) (entry l (q, o))) (key_is q o p page)

module _ (m : Setting) (v : View) (l l' : Ledger) (p page : ℕ) (t : Option Pte) (h : LedgerStands m v l)
    (set : IsSetAt l l' p page (entry_of t)) where
  slot-same : (g : ℕ) → slot_of l' g ≡ slot_of l g
  slot-same g = ap (λ cs. slot_of (record l { cache = cs }) g) set.cache

  found-same : (s : Slot) → frame_at l' s ≡ frame_at l s
  found-same s = ap (λ cs. frame_at (record l { cache = cs }) s) set.cache

  stale-same : (s : Slot) → is_stale l' s ≡ is_stale l s
  stale-same s = ap (λ cs. is_stale (record l { cache = cs }) s) set.cache

  -- a view with these counts, free frames and lists stands for it, where write bits may stay
  pub one-stands : (maps : ℕ → ℕ) (entries : Slot → ℕ) (free active inactive : List ℕ) → ((g : ℕ) → maps g ≡ map_count l' g)
      → ((s : Slot) → entries s ≡ slot_entries l' s) → ((g : ℕ) → g < m.frames → is_in g free ≡ is_free l' g)
      → active ≡ l'.active → inactive ≡ l'.inactive
      → ((u : Pte) (g : ℕ) → t ≡ Some u → u.write ≡ true → names_frame g u.entry ≡ true → asks_copy l' g ≡ false)
      → ((q o : ℕ) (e : Entry) (g : ℕ) → entry l (q, o) ≡ Some e → names_frame g e ≡ true → (q == p && o == page) ≡ false → asks_copy l g ≡ false
      → asks_copy l' g ≡ false)
      → LedgerStands m (record v {
        table = with_pte p page t v.table;
        maps = maps;
        entries = entries;
        free = free;
        active = active;
        inactive = inactive;
      }) l'
  one-stands maps entries free active inactive maps-are entries-are free-is active-is inactive-is own others = record {
    frames = record {
      frames = h.frames.frames;
      maps = maps-are;
      slots = λ g. h.frames.slots g ∙ sym (slot-same g);
      dirty = λ g. subst (λ cs. IfSome (slot_of (record l { cache = cs }) g) (λ s. v.dirty g ≡ is_stale (record l { cache = cs }) s)) (sym set.cache)
          (h.frames.dirty g);
      free = free-is;
    };
    lists = record { active = active-is; inactive = inactive-is };
    tables = record {
      entries = λ q o. by (q == p && o == page) (v.table q o) (entry l (q, o)) (h.tables.entries q o) ∙ sym (set.entries q o);
      write_bits = λ q o u g there writes names. bits q o u g (q == p && o == page) refl there writes names;
    };
    swap = record {
      finds = λ s. h.swap.finds s ∙ sym (found-same s);
      counts = entries-are;
      flight = h.swap.flight ∙ sym set.flight;
      on = h.swap.on ∙ sym set.on;
    };
  }
    where
      by : (b : Bool) (x : Option Pte) (y : Option Entry) → entry_of x ≡ y → entry_of (cond b t x) ≡ cond b (entry_of t) y
      by true x y e = refl
      by false x y e = e

      bits : (q o : ℕ) (u : Pte) (g : ℕ) (b : Bool) → (q == p && o == page) ≡ b → cond b t (v.table q o) ≡ Some u → u.write ≡ true
          → names_frame g u.entry ≡ true → asks_copy l' g ≡ false
      bits q o u g true e there writes names = own u g there writes names
      bits q o u g false e there writes names = others q o u.entry g (sym (h.tables.entries q o) ∙ ap entry_of there) names e
          (h.tables.write_bits q o u g there writes names)
