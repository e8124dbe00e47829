-- A frame goes over: what the parts of the memory system ask for, and what is seen of it then.
use Rattle.std.proofs.Common.{◌≡◌, ℕ, ◌<◌, true, false, cond, nat_lt, List, [], Option, Some, None, option_map, refl, sym, ap, subst, ◌∙◌, arith, ◌==◌}
use Rattle.std.proofs.lemmas.Bool.Decides.{nat_tests}
use Rattle.av_base.specs.Keys.{Key}
use Rattle.av_base.specs.Words.{how_many, is_in}
use Rattle.av_base.specs.declared.slot.Slot.{Slot}
use Rattle.av_frames.specs.Store.{Shown as ShownFrames, free_in_order, relocated, shown as shown_frames}
use Rattle.av_lru.specs.Lists.{with_renamed as lists_renamed}
use Rattle.av_pagetable.specs.Entries.{entry_at, has}
use Rattle.av_pagetable.specs.declared.pte.Pte.{Pte}
use Rattle.av_rmap.specs.Items.{shown as shown_items, with_renamed as items_renamed}
use Rattle.av_swapcache.specs.Swap.{IsCachedAs, IsUncached, shown as shown_swap, with_renamed as swap_renamed}
use Rattle.av_plain.specs.Device.{Device}
use Rattle.av_plain.specs.Ledger.{Ledger, Setting, slot_of, walk}
use Rattle.av_plain.specs.Sound.{listings, uses}
use Rattle.av_plain.specs.Stands.{Pte as Plain}
use Rattle.av_plain.specs.Transcript.{State}
use Rattle.av_plain.proofs.Sound.Changes.{any-counts, free-is}
use Rattle.av_plain.proofs.Sound.Counts.{frame_at-some, pair-frame}
use Rattle.av_swap_laws.proofs.Cache.{frame-slot, once-of, slot-frame}
use Rattle.av_swap_laws.proofs.Parts.{none-some}
use Rattle.av_mem.specs.Mem.{IsSteady, Keeps, frame_count, plain, setting_by, view, view_of_parts}
use Rattle.av_mem.specs.Steps.{KeepsParts}
use Rattle.av_mem.specs.declared.mem.Mem.{Mem}
use Rattle.av_plain.specs.Sound.{no_excuse}
use Rattle.av_migrate.specs.Move.{pte_moved, view_moved, view_ordered}
use Rattle.av_migrate.specs.Point.{with_frame_at}
use Rattle.av_migrate.proofs.WalkedLaws.{walked-moved}

module _ (d : Device) (k : Mem) (s : State) (keeps : Keeps d k s) where
  abbrev l : Ledger
  l = s.ledger

  abbrev m : Setting
  m = setting_by d k

  -- ---- a free frame

  module _ (to : ℕ) (below : to < frame_count k) (free : is_in to (view k).free ≡ true) where
    pub unused : uses l to ≡ 0
    unused = zero (uses l to) (sym (free-is l to) ∙ sym (keeps.stands.parts.ledger.frames.free to below) ∙ free)
      where
        zero : (n : ℕ) → (n == 0) ≡ true → n ≡ 0
        zero n e = grind (arith, nat_tests, e)

    none-in : (fs : List ℕ) → how_many (λ g. to == g) fs ≡ 0 → is_in to fs ≡ false
    none-in fs e = any-counts (λ g. to == g) fs ∙ zero (how_many (λ g. to == g) fs) e
      where
        zero : (n : ℕ) → n ≡ 0 → nat_lt 0 n ≡ false
        zero n e = grind (arith, nat_tests, e)

    unlisted : listings l to ≡ 0
    unlisted = let a = keeps.stands.sound.ledger.listed to in let u = unused in omega (arith, a, u)

    pub not-active : is_in to k.lists.active ≡ false
    not-active = ap (is_in to) keeps.stands.parts.ledger.lists.active ∙ none-in l.active (let u = unlisted in omega (arith, u))

    pub not-inactive : is_in to k.lists.inactive ≡ false
    not-inactive = ap (is_in to) keeps.stands.parts.ledger.lists.inactive ∙ none-in l.inactive (let u = unlisted in omega (arith, u))

    pub no-items : (shown_items k.items).items to ≡ []
    no-items = keeps.stands.items to ∙ ap (λ b. cond b (s.items to) []) (none-in l.merged
        (let a = keeps.stands.sound.ledger.merged to in let u = unused in omega (arith, a, u)))

    pub not-cached : IsUncached (shown_swap k.swap) to
    not-cached t at =
        let p = frame_at-some to t l.cache (sym (keeps.stands.parts.ledger.swap.finds t) ∙ at) in let q = pair-frame t to l.cache in
        let u = unused in omega (arith, p, q, u)

  -- ---- one in use

  pub cached-as : (from : ℕ) → IsCachedAs (shown_swap k.swap) from ((shown_frames k.frames).slot from)
  cached-as from = by ((shown_frames k.frames).slot from) (sym (keeps.stands.parts.ledger.frames.slots from))
    where
      by : (o : Option Slot) → slot_of l from ≡ o → IsCachedAs (shown_swap k.swap) from o
      by None is = λ t at. none-some t (sym is ∙ frame-slot l (once-of m no_excuse l keeps.stands.sound.ledger) from t
          (sym (keeps.stands.parts.ledger.swap.finds t) ∙ at))
      by (Some t) is = keeps.stands.parts.ledger.swap.finds t ∙ slot-frame l (once-of m no_excuse l keeps.stands.sound.ledger) from t is

  -- ---- what is seen then

  pub moved-tables : (from to : ℕ) (keys : List Key) → keys ≡ walk l from
      → ◌≡◌ {A = ℕ → ℕ → Option Plain} (λ p page. plain (with_frame_at keys to (entry_at k.tables) p page))
      (λ p page. option_map (pte_moved from to) ((view k).table p page))
  moved-tables from to keys are =
      λ i p page. (walked-moved m k l from to keys keeps.stands.parts.ledger keeps.stands.sound.ledger.in_order are p page) i

-- the parts as they are then
pub record GoneOver (old new : Mem) (from to : ℕ) (keys : List Key) : Type 0 where
  pub rest : new ≡ record old { frames = new.frames; tables = new.tables; lists = new.lists; items = new.items; swap = new.swap }
  pub entries : entry_at new.tables ≡ with_frame_at keys to (entry_at old.tables)
  pub processes : has new.tables ≡ has old.tables
  pub swap : shown_swap new.swap ≡ swap_renamed from to (shown_swap old.swap)
  pub lists : new.lists ≡ lists_renamed from to old.lists
  pub items : shown_items new.items ≡ items_renamed from to (shown_items old.items)
  pub frames : shown_frames new.frames ≡ relocated from to (shown_frames old.frames)

pub gone-view : (old new : Mem) (from to : ℕ) (keys : List Key) → GoneOver old new from to keys → IsSteady old
    → ((d : Device) (s : State) → Keeps d old s → keys ≡ walk s.ledger from) → view new ≡ view_moved from to (view old)
gone-view old new from to keys g steady are = λ i. view_of_parts (g.frames i) (g.lists i) (g.items i) (tables i) (spaces i) (anons i) (g.swap i)
  where
    tables : ◌≡◌ {A = ℕ → ℕ → Option Plain} (λ p page. plain (entry_at new.tables p page))
        (λ p page. option_map (pte_moved from to) ((view old).table p page))
    tables = ap {B = ℕ → ℕ → Option Plain} (λ (t : ℕ → ℕ → Pte) (p page : ℕ). plain (t p page)) g.entries
        ∙ moved-tables steady.0 old steady.1 steady.2 from to keys (are steady.0 steady.1 steady.2)

    spaces : new.spaces ≡ old.spaces
    spaces = ap (λ (k : Mem). k.spaces) g.rest

    anons : new.anons ≡ old.anons
    anons = ap (λ (k : Mem). k.anons) g.rest

-- ---- the free frames are put in order

abbrev in_order : ShownFrames → ShownFrames
in_order frames = record frames { free = free_in_order frames }

module _ (old new : Mem) (rest : new ≡ record old { frames = new.frames }) (ordered : shown_frames new.frames ≡ in_order (shown_frames old.frames)) where
  pub ordered-view : view new ≡ view_ordered (view old)
  ordered-view = ap (λ (k : Mem). view k) rest
      ∙ ap (λ (f : ShownFrames). view_of_parts f old.lists (shown_items old.items) (λ p page. plain (entry_at old.tables p page)) old.spaces old.anons
      (shown_swap old.swap)) ordered

  pub ordered-parts : KeepsParts old new
  ordered-parts = subst (KeepsParts old) (sym rest) (record {
    stay = refl;
    processes = refl;
    count = ap (λ (f : ShownFrames). f.count) ordered;
    lists = refl;
    items = refl;
    swap = record { frames = refl; on = refl; bad = refl; closing = refl; priority = refl };
    locks = ap (λ (f : ShownFrames). f.locks) ordered;
  })
