-- Where the entries of a frame's walk come to name another frame, all that named it do.
use Rattle.std.proofs.Common.{◌≡◌, ℕ, Bool, true, false, cond, List, Option, Some, None, option_map, refl, ap, ◌∙◌, T, ◌==◌}
use Rattle.std.specs.FinMap.Entries.{is_sorted}
use Rattle.std.specs.List.{list_any}
use Rattle.av_base.specs.Keys.{Key, key_cmp, same_key}
use Rattle.av_pagetable.specs.Entries.{entry_at}
use Rattle.av_pagetable.specs.declared.pte.Pte.{Pte}
use Rattle.av_pagetable.specs.declared.pte.Pte.TheVariants.{Away, Empty, Here, Zero}
use Rattle.av_plain.specs.Event.{placed_entry}
use Rattle.av_plain.specs.Ledger.{Entry, InFrame, InSlot, Ledger, Setting, Zero as ZeroEntry, names_frame, walk}
use Rattle.av_plain.specs.Stands.{LedgerStands, Pte as Plain}
use Rattle.av_plain.proofs.Sound.Counts.{same-turned}
use Rattle.av_swap_laws.proofs.Walks.{changed_where, walked-all}
use Rattle.av_mem.specs.Mem.{plain, view}
use Rattle.av_mem.specs.declared.mem.Mem.{Mem}
use Rattle.av_migrate.specs.Move.{pte_moved}
use Rattle.av_migrate.specs.Point.{with_frame, with_frame_at}

abbrev plain_with_frame : ℕ → Plain → Plain
plain_with_frame f t = record t { entry = placed_entry (λ g. f) t.entry }

plain-with_frame : (f : ℕ) (t : Pte) → plain (with_frame f t) ≡ option_map (plain_with_frame f) (plain t)
plain-with_frame f Empty = refl
plain-with_frame f Zero = refl
plain-with_frame f (Here g write seen) = refl
plain-with_frame f (Away s) = refl

moved-is : (from to : ℕ) (e : Entry) (write : Bool)
    → cond (names_frame from e) (plain_with_frame to (record { entry = e; write = write })) (record { entry = e; write = write })
    ≡ pte_moved from to (record { entry = e; write = write })
moved-is from to ZeroEntry write = refl
moved-is from to (InSlot s) write = refl
moved-is from to (InFrame g seen) write =
    ap (λ b. cond b (plain_with_frame to (record { entry = InFrame g seen; write = write })) (record { entry = InFrame g seen; write = write }))
    (same-turned from g) ∙ by (g == from)
  where
    by : (b : Bool) → cond b (plain_with_frame to (record { entry = InFrame g seen; write = write })) (record { entry = InFrame g seen; write = write })
        ≡ record { entry = InFrame (cond b to g) seen; write = write }
    by true = refl
    by false = refl

-- each entry of the frame, and no other, names the other one
pub walked-moved : (m : Setting) (k : Mem) (l : Ledger) (from to : ℕ) (keys : List Key) → LedgerStands m (view k) l
    → T (is_sorted key_cmp l.entries) → keys ≡ walk l from
    → (p page : ℕ) → plain (with_frame_at keys to (entry_at k.tables) p page) ≡ option_map (pte_moved from to) (plain (entry_at k.tables p page))
walked-moved m k l from to keys h sorted are p page =
    walked-all m (view k) l from (plain_with_frame to) (λ p page. plain (with_frame_at keys to (entry_at k.tables) p page)) h sorted
    (λ q among. ap (λ b. plain (cond b (with_frame to (entry_at k.tables q.0 q.1)) (entry_at k.tables q.0 q.1))) (ap (list_any (same_key q)) are ∙ among)
    ∙ plain-with_frame to (entry_at k.tables q.0 q.1))
    (λ q among. ap (λ b. plain (cond b (with_frame to (entry_at k.tables q.0 q.1)) (entry_at k.tables q.0 q.1))) (ap (list_any (same_key q)) are ∙ among))
    p page ∙ each (plain (entry_at k.tables p page))
  where
    each : (o : Option Plain) → option_map (changed_where from (plain_with_frame to)) o ≡ option_map (pte_moved from to) o
    each None = refl
    each (Some t) = ap Some (moved-is from to t.entry t.write)
