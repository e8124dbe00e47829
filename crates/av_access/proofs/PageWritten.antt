-- A piece is written to the frame of a page that was used, which nothing else names: what stood for the memories stands for those
-- with the piece.
use Rattle.std.proofs.Common.{◌≡◌, ◌≢◌, ℕ, ◌+◌, ◌-◌, ◌*◌, ◌<◌, ◌≤◌, Bool, true, false, cond, ◌&&◌, List, [], ◌∷◌, length, map, slice_index, Option, Some, None, option_map, refl, sym, ap, subst, ◌∙◌, arith, nat_lt, nat_le, is_some, if◌then◌else◌}
use Rattle.std.proofs.lemmas.Bool.Decides.{nat_tests}
use Rattle.std.proofs.lemmas.Bool.{false≢true}
use Rattle.std.specs.Prelude.{IfSome}
use Rattle.std.specs.Ordering.{nat_cmp, eq_by_cmp}
use Rattle.av_base.specs.Keys.{key_cmp, same_key}
use Rattle.av_base.proofs.Keys.{keys_total, same_key-itself}
use Rattle.av_base.specs.Limits.{most_processes}
use Rattle.av_base.specs.Words.{within, with_at}
use Rattle.av_base.specs.declared.slot.Slot.{Slot}
use Rattle.av_frames.specs.Store.{overlaid}
use Rattle.av_plain.specs.World.{World, Process, Page, pages, lives, with_bytes, set_process}
use Rattle.av_plain.specs.Ledger.{Cached, Entry, InFrame, InSlot, Ledger, Setting, Zero, entry, same_slot, slot_of}
use Rattle.av_plain.specs.Event.{after_use, after_use_of, if_some, set_entry, with_stale}
use Rattle.av_plain.specs.Fault.{asks_copy}
use Rattle.av_plain.specs.Access.{after_write}
use Rattle.av_plain.specs.Sound.{AtPages, IsSound, IsTidy, no_excuse}
use Rattle.av_plain.specs.Stands.{View, IsKept, AreasStand, BytesStand}
use Rattle.av_plain.specs.World.{Holds}
use Rattle.av_plain.proofs.Ledger.{entry-set}
use Rattle.av_plain.proofs.World.{is_sorted-set, length-set_old, lives-set, pages-set}
use Rattle.av_swap_laws.specs.Held.{Held, IsHeld}
use Rattle.av_swap_laws.proofs.Cache.{once-of, slot_of-stale}
use Rattle.av_swap_laws.proofs.Use.{write-bytes}
use Rattle.av_access.proofs.AccessBytes.{put_twice}

same_number : (q p : ℕ) → eq_by_cmp nat_cmp q p ≡ true → q ≡ p
same_number q p h = grind (arith, nat_tests)

other_number : (q p : ℕ) → eq_by_cmp nat_cmp q p ≡ false → q ≢ p
other_number q p h = grind (arith, nat_tests)

-- what holds of the changed process, and of the others as they were
by_process : (w : World) (p : ℕ) (new : Process) (q page : ℕ) (P : Option Page → Type 0) → (q ≡ p → P (new page)) → (q ≢ p → P (pages w q page)) →
    P (pages (set_process w p new) q page)
by_process w p new q page P here there = subst P (sym (pages-set w p new q page))
    (elim (eq_by_cmp nat_cmp q p) as (λ b. eq_by_cmp nat_cmp q p ≡ b → P (cond b (new page) (pages w q page))) [
      | true ↦ λ e. here (same_number q p e)
      | false ↦ λ e. there (other_number q p e)
    ] refl)

-- some bytes of a page, where the bytes that hold it change so
holds_written : (m : Process) (a : ℕ) (piece : List ℕ) (page : ℕ) (old new : ℕ → ℕ) → Holds (m page) old
    → ((i : ℕ) → i < 4096 → new i ≡ cond (within a (length piece) (4096 * page + i)) (slice_index piece (4096 * page + i - a)) (old i)) →
    Holds (with_bytes m a piece page) new
holds_written m a piece page old new h change =
    elim (m page) as (λ o. Holds o old → Holds (option_map (λ (p : Page). record p {
      bytes = λ i.
          if within a (length piece) (4096 * page + i) then Some (slice_index piece (4096 * page + i - a)) else p.bytes i;
    }) o) new) [
      | None ↦ λ h. tt
      | Some p ↦ λ h i below. byte (within a (length piece) (4096 * page + i)) (slice_index piece (4096 * page + i - a)) (p.bytes i) (old i)
          (new i) (h i below) (change i below)
    ] h
  where
    byte : (b : Bool) (x : ℕ) (claim : Option ℕ) (before now : ℕ) → IfSome claim (λ y. before ≡ y) → now ≡ cond b x before →
        IfSome (if b then Some x else claim) (λ y. now ≡ y)
    byte true x claim before now was is = is
    byte false x claim before now was is = subst (λ n. IfSome claim (λ y. n ≡ y)) (sym is) was

some_written : (m : Process) (a : ℕ) (piece : List ℕ) (page : ℕ) → is_some (m page) ≡ true → is_some (with_bytes m a piece page) ≡ true
some_written m a piece page = elim (m page) as (λ o. is_some o ≡ true → is_some (option_map (λ (p : Page). record p {
  bytes = λ i.
      if within a (length piece) (4096 * page + i) then Some (slice_index piece (4096 * page + i - a)) else p.bytes i;
}) o) ≡ true) [ None ↦ λ h. h | Some p ↦ λ h. h ]

-- what is said of a page beside its bytes
marks_written : {X : Type 0} (mark : Page → X)
    → ((p : Page) (bytes : ℕ → Option ℕ) → mark (record p { bytes = bytes }) ≡ mark p) → (m : Process) (a : ℕ) (piece : List ℕ) (page : ℕ)
    → option_map mark (with_bytes m a piece page) ≡ option_map mark (m page)
marks_written mark same m a piece page = elim (m page) as (λ o. option_map mark (option_map (λ (p : Page). record p {
  bytes = λ i.
      if within a (length piece) (4096 * page + i) then Some (slice_index piece (4096 * page + i - a)) else p.bytes i;
}) o) ≡ option_map mark o) [ None ↦ refl | Some p ↦ ap Some (same p _) ]

-- a piece within one page
elsewhere : (page other at n i : ℕ) → at + n ≤ 4096 → i < 4096 → other ≢ page → within (4096 * page + at) n (4096 * other + i) ≡ false
elsewhere page other at n i fits below ne = test (4096 * page + at) n (4096 * other + i) (λ low high. ne (omega arith))
  where
    test : (a n x : ℕ) → (a ≤ x → x < a + n → ⊥) → within a n x ≡ false
    test a n x h = elim (nat_le a x) as (λ b. nat_le a x ≡ b → (b && nat_lt x (a + n)) ≡ false) [
      | true ↦ λ e. elim (nat_lt x (a + n)) as (λ b. nat_lt x (a + n) ≡ b → b ≡ false) [
        | true ↦ λ d. absurd (h (le_of a x e) (lt_of x (a + n) d))
        | false ↦ λ d. refl
      ] refl
      | false ↦ λ e. refl
    ] refl
      where
        le_of : (a x : ℕ) → nat_le a x ≡ true → a ≤ x
        le_of a x e = grind (arith, nat_tests)

        lt_of : (a x : ℕ) → nat_lt a x ≡ true → a < x
        lt_of a x e = grind (arith, nat_tests)

in_place : (page at n i : ℕ) → within (4096 * page + at) n (4096 * page + i) ≡ within at n i
in_place page at n i = grind (arith, nat_tests)

from_start : (page at i : ℕ) → 4096 * page + i - (4096 * page + at) ≡ i - at
from_start page at i = omega arith

-- the view with the piece laid over the frame's bytes
abbrev pub over : ℕ → ℕ → List ℕ → View → View
over f start piece v = record v { bytes = with_at f (overlaid start piece (v.bytes f)) v.bytes }

pub stored_is : (w : World) (p a : ℕ) (piece : List ℕ) → 1 ≤ length piece → after_write w p a piece ≡ set_process w p (with_bytes (pages w p) a piece)
stored_is w p a [] some = absurd (omega (arith, some))
stored_is w p a (b ∷ piece) some = refl

-- ---- a page that was used is used again

-- a slot that is made stale twice
stale_twice : (s : Slot) (cs : List Cached) → let stale : Cached → Cached = λ c. if same_slot s c.slot then record c { stale = true } else c in
    map stale (map stale cs) ≡ map stale cs
stale_twice s [] = refl
stale_twice s (c ∷ cs) = (λ i. one (same_slot s c.slot) refl i ∷ stale_twice s cs i)
  where
    one : (b : Bool) → same_slot s c.slot ≡ b
        → cond (same_slot s (cond b (record c { stale = true }) c).slot) (record (cond b (record c { stale = true }) c) { stale = true })
        (cond b (record c { stale = true }) c) ≡ cond b (record c { stale = true }) c
    one true e = ap (λ b. cond b (record c { stale = true }) (record c { stale = true })) e
    one false e = ap (λ b. cond b (record c { stale = true }) c) e

pub used_twice : (l : Ledger) (p page : ℕ) → after_use true (p, page) (after_use true (p, page) l) ≡ after_use true (p, page) l
used_twice l p page = by (entry l (p, page)) refl
  where
    seen : ℕ → Ledger
    seen f = set_entry (p, page) (InFrame f true) l

    named : (f : ℕ) → entry (seen f) (p, page) ≡ Some (InFrame f true)
    named f = entry-set (p, page) (InFrame f true) l (p, page) ∙ ap (λ b. cond b (Some (InFrame f true)) (entry l (p, page)))
        (same_key-itself (p, page))

    again : (f : ℕ) → set_entry (p, page) (InFrame f true) (seen f) ≡ seen f
    again f = ap (λ es. record l { entries = es }) (put_twice key_cmp keys_total (p, page) (InFrame f true) (InFrame f true) l.entries)

    staled : (f : ℕ) (o : Option Slot) → slot_of l f ≡ o
        → after_use_of true (p, page) (if_some o (with_stale true) (seen f)) (Some (InFrame f true)) ≡ if_some o (with_stale true) (seen f)
    staled f None e = ap (λ o. if_some o (with_stale true) (set_entry (p, page) (InFrame f true) (seen f))) e ∙ again f
    staled f (Some s) e = ap (λ o. if_some o (with_stale true) (set_entry (p, page) (InFrame f true) (with_stale true s (seen f))))
        (slot_of-stale true s (seen f) f ∙ e)
        ∙ (λ i. record (again f i) { cache = stale_twice s l.cache i })

    still : (f : ℕ) (o : Option Slot) → entry (if_some o (with_stale true) (seen f)) (p, page) ≡ Some (InFrame f true)
    still f None = named f
    still f (Some s) = named f

    by : (o : Option Entry) → entry l (p, page) ≡ o
        → after_use true (p, page) (after_use_of true (p, page) l o) ≡ after_use_of true (p, page) l o
    by None e = ap (after_use_of true (p, page) l) e
    by (Some Zero) e = ap (after_use_of true (p, page) l) e
    by (Some (InSlot s)) e = ap (after_use_of true (p, page) l) e
    by (Some (InFrame f was)) e = ap (after_use_of true (p, page) (if_some (slot_of l f) (with_stale true) (seen f))) (still f (slot_of l f))
        ∙ staled f (slot_of l f) refl

-- ---- the piece is written

-- what stands before: the page was used, and nothing else names its frame
pub record MayWrite (m : Setting) (h : Held) (p page f start : ℕ) (piece : List ℕ) : Type 0 where
  pub held : IsHeld m h
  pub areas : AreasStand h.view h.world
  pub tidy : IsTidy h.world
  pub at_pages : AtPages h.world h.ledger
  pub sound : IsSound m h.ledger
  pub alive : lives h.world p ≡ true
  pub named : entry h.ledger (p, page) ≡ Some (InFrame f true)
  pub alone : asks_copy h.ledger f ≡ false
  pub used : after_use true (p, page) h.ledger ≡ h.ledger
  pub fits : start + length piece ≤ 4096

module _ (m : Setting) (h : Held) (p page f start : ℕ) (piece : List ℕ) (may : MayWrite m h p page f start piece) where
  abbrev w : World
  w = h.world

  abbrev l : Ledger
  l = h.ledger

  -- the process with the piece, and the memories with that
  abbrev now : Process
  now = with_bytes (pages w p) (4096 * page + start) piece

  abbrev pub stored : World
  stored = set_process h.world p (with_bytes (pages h.world p) (4096 * page + start) piece)

  pub tidy-now : IsTidy stored
  tidy-now = record {
    in_order = is_sorted-set w p now may.tidy.in_order;
    few = subst (λ n. n ≤ most_processes) (sym (length-set_old w p now may.tidy.in_order may.alive)) may.tidy.few;
  }

  pub at_pages-now : AtPages stored l
  at_pages-now q o h =
      let there = may.at_pages q o h in
      by_process w p now q o (λ x. is_some x ≡ true)
      (λ same. some_written (pages w p) (4096 * page + start) piece o (subst (λ x. is_some (pages w x o) ≡ true) same there)) (λ _. there)

  pub areas-now : AreasStand (over f start piece h.view) stored
  areas-now = record {
    alive = λ q. may.areas.alive q ∙ sym (lives-set w p now q ∙ lives_as q (eq_by_cmp nat_cmp q p) refl);
    number = may.areas.number ∙ sym (length-set_old w p now may.tidy.in_order may.alive);
    apart = may.areas.apart;
    covers = λ q o. may.areas.covers q o ∙ sym (marks_as (λ (q : Page). q.prot) (λ p bytes. refl) q o);
    flags = λ q o. may.areas.flags q o ∙ sym (marks_as (λ (q : Page). q.flags) (λ p bytes. refl) q o);
  }
    where
      marks_as : {X : Type 0} (mark : Page → X) → ((p : Page) (bytes : ℕ → Option ℕ) → mark (record p { bytes = bytes }) ≡ mark p) → (q o : ℕ)
          → option_map mark (pages stored q o) ≡ option_map mark (pages w q o)
      marks_as mark still q o = by_process w p now q o (λ x. option_map mark x ≡ option_map mark (pages w q o))
          (λ same. marks_written mark still (pages w p) (4096 * page + start) piece o ∙ ap (λ x. option_map mark (pages w x o)) (sym same))
          (λ _. refl)

      lives_as : (q : ℕ) (b : Bool) → eq_by_cmp nat_cmp q p ≡ b → cond b true (lives w q) ≡ lives w q
      lives_as q true e = sym (ap (lives w) (same_number q p e) ∙ may.alive)
      lives_as q false e = refl

  -- another page holds what it may.held
  held_else : (q o : ℕ) → same_key (q, o) (p, page) ≡ false → (bytes : ℕ → ℕ) → Holds (pages w q o) bytes → Holds (pages stored q o) bytes
  held_else q o ne bytes h = by_process w p now q o (λ x. Holds x bytes)
      (λ same. holds_written (pages w p) (4096 * page + start) piece o bytes bytes (subst (λ n. Holds (pages w n o) bytes) same h)
      (λ i below. sym (ap (λ b. cond b (slice_index piece (4096 * o + i - (4096 * page + start))) (bytes i))
      (elsewhere page o start (length piece) i may.fits below (other same))))) (λ _. h)
    where
      other : q ≡ p → o ≢ page
      other same is = false≢true (sym ne ∙ (λ i. same_key (same i, is i) (p, page)) ∙ same_key-itself (p, page))

  held_here : Holds (pages stored p page) (overlaid start piece (h.view.bytes f))
  held_here = by_process w p now p page (λ x. Holds x (overlaid start piece (h.view.bytes f)))
      (λ _. holds_written (pages w p) (4096 * page + start) piece page (h.view.bytes f) (overlaid start piece (h.view.bytes f))
      (subst (λ e. IsKept h.view h.device l e (pages w p page)) may.named (may.held.bytes.kept p page))
      (λ i below. sym ((λ k. cond (in_place page start (length piece) i k) (slice_index piece (from_start page start i k)) (h.view.bytes f i)))))
      (λ ne. absurd (ne refl))

  bytes-now : BytesStand (over f start piece h.view) h.device stored l
  bytes-now =
      let laid = subst (BytesStand _ h.device stored) may.used
      (write-bytes l p page f true may.sound.in_order may.named h.view h.device w stored true (overlaid start piece (h.view.bytes f)) None
      (once-of m no_excuse l may.sound) may.alone may.held.bytes held_here held_else) in
      record { kept = laid.kept; clean = laid.clean }

  pub held-now : IsHeld m (record h { view = over f start piece h.view; world = stored })
  held-now = record {
    ledger =
        let had = may.held.ledger in
        record {
          frames = record {
            frames = had.frames.frames;
            maps = had.frames.maps;
            slots = had.frames.slots;
            dirty = had.frames.dirty;
            free = had.frames.free;
          };
          lists = record { active = had.lists.active; inactive = had.lists.inactive };
          tables = record { entries = had.tables.entries; write_bits = had.tables.write_bits };
          swap = record { finds = had.swap.finds; counts = had.swap.counts; flight = had.swap.flight; on = had.swap.on };
        };
    bytes = bytes-now;
    headers = may.held.headers;
    covered = may.held.covered;
    homes = may.held.homes;
    items = may.held.items;
  }
