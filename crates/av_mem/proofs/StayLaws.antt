-- A step that keeps all but the frames, the tables, the lists and swap keeps the areas and the anon_vmas; and two steps keep it as one does.
use Rattle.std.proofs.Common.{◌≡◌, ℕ, ◌+◌, ◌-◌, ◌≤◌, ◌==◌, Bool, true, false, cond, refl, arith, sym, ap, ◌∙◌}
use Rattle.av_base.specs.Keys.{Key}
use Rattle.av_base.specs.Words.{with_at}
use Rattle.av_pagetable.specs.Entries.{has}
use Rattle.av_plain.specs.Stands.{View}
use Rattle.av_plain.proofs.Sound.Counts.{same-is}
use Rattle.av_rmap.specs.Items.{shown as shown_items}
use Rattle.av_spaces.specs.Spaces.{pages_of}
use Rattle.av_swapcache.specs.Swap.{shown}
use Rattle.av_vma.specs.Areas.{is_locked}
use Rattle.av_mem.specs.declared.mem.Mem.{Mem}
use Rattle.av_mem.specs.Locked.{has_lock, locks_less, locks_more}
use Rattle.av_mem.specs.Mem.{locks_of, view}
use Rattle.av_mem.specs.Steps.{KeepsBut, KeepsParts}

module _ {counts : ℕ → ℕ} {old new : Mem} (parts : KeepsBut counts old new) where
  pub spaces-stay : new.spaces ≡ old.spaces
  spaces-stay = ap (λ (m : Mem). m.spaces) parts.stay

  pub anons-stay : new.anons ≡ old.anons
  anons-stay = ap (λ (m : Mem). m.anons) parts.stay

-- two steps, of which the second leaves these counts
pub parts-but : {a b c : Mem} {m n : ℕ → ℕ} → KeepsBut m a b → KeepsBut n b c → KeepsBut n a c
parts-but {c = c} first second = record {
  stay = second.stay ∙ ap (λ (m : Mem). record m { frames = c.frames; tables = c.tables; lists = c.lists; items = c.items; swap = c.swap }) first.stay;
  processes = second.processes ∙ first.processes;
  count = second.count ∙ first.count;
  lists = second.lists ∙ first.lists;
  items = second.items ∙ first.items;
  swap = record {
    frames = second.swap.frames ∙ first.swap.frames;
    on = second.swap.on ∙ first.swap.on;
    bad = second.swap.bad ∙ first.swap.bad;
    closing = second.swap.closing ∙ first.swap.closing;
    priority = second.swap.priority ∙ first.swap.priority;
  };
  locks = second.locks;
}

-- the counts are these, too
pub counts-are : {old new : Mem} {m n : ℕ → ℕ} → n ≡ m → KeepsBut n old new → KeepsBut m old new
counts-are same parts = record {
  stay = parts.stay;
  processes = parts.processes;
  count = parts.count;
  lists = parts.lists;
  items = parts.items;
  swap = parts.swap;
  locks = parts.locks ∙ same;
}

-- two steps that leave the counts
pub parts-then : {a b c : Mem} → KeepsParts a b → KeepsParts b c → KeepsParts a c
parts-then first second = counts-are first.locks (parts-but first second)

-- the entries of locked pages are counted anew, and nothing else is done
pub counted-anew : {before counts : ℕ → ℕ} {old mid new : Mem} → KeepsBut before old mid → new ≡ record mid { frames = new.frames } → view new ≡ view mid
    → locks_of new ≡ counts → KeepsBut counts old new
counted-anew {old = old} {mid = mid} {new = new} parts same seen locks = record {
  stay = same ∙ ap (λ (m : Mem). record m { frames = new.frames }) parts.stay ∙ (λ i. record old {
    frames = new.frames;
    tables = (sym same i).tables;
    lists = (sym same i).lists;
    items = (sym same i).items;
    swap = (sym same i).swap;
  });
  processes = ap (λ (m : Mem). has m.tables) same ∙ parts.processes;
  count = ap (λ (v : View). v.frames) seen ∙ parts.count;
  lists = ap (λ (m : Mem). m.lists.frames) same ∙ parts.lists;
  items = ap (λ (m : Mem). (shown_items m.items).frames) same ∙ parts.items;
  swap = record {
    frames = ap (λ (m : Mem). (shown m.swap).frames) same ∙ parts.swap.frames;
    on = ap (λ (m : Mem). (shown m.swap).on) same ∙ parts.swap.on;
    bad = ap (λ (m : Mem). (shown m.swap).bad) same ∙ parts.swap.bad;
    closing = ap (λ (m : Mem). (shown m.swap).closing) same ∙ parts.swap.closing;
    priority = ap (λ (m : Mem). (shown m.swap).priority) same ∙ parts.swap.priority;
  };
  locks = locks;
}

-- what one entry counts, where areas and counts are the same
pub more-same : (k m : Mem) (key : Key) (f : ℕ) → k.spaces ≡ m.spaces → {a b : ℕ → ℕ} → a ≡ b → locks_more k key f a ≡ locks_more m key f b
more-same k m key f spaces locks = λ i. cond (is_locked (pages_of (spaces i).processes key.0 key.1)) (with_at f (locks i f + 1) (locks i)) (locks i)

pub less-same : (k m : Mem) (key : Key) (f : ℕ) → k.spaces ≡ m.spaces → {a b : ℕ → ℕ} → a ≡ b → locks_less k key f a ≡ locks_less m key f b
less-same k m key f spaces locks = λ i. cond (is_locked (pages_of (spaces i).processes key.0 key.1)) (with_at f (locks i f - 1) (locks i)) (locks i)

pub lock-stays : (k m : Mem) (key : Key) → k.spaces ≡ m.spaces → has_lock k key ≡ has_lock m key
lock-stays k m key spaces = λ i. is_locked (pages_of (spaces i).processes key.0 key.1)

-- no count grows where an entry goes
pub less-few : (k : Mem) (key : Key) (g f : ℕ) → locks_less k key g (locks_of k) f ≤ locks_of k f
less-few k key g f = by (has_lock k key) (f == g) refl
  where
    by : (a b : Bool) → (f == g) ≡ b → cond a (with_at g (locks_of k g - 1) (locks_of k)) (locks_of k) f ≤ locks_of k f
    by false b e = omega arith
    by true false e = ap_low (ap (λ b. cond b (locks_of k g - 1) (locks_of k f)) e)
      where
        ap_low : {n m : ℕ} → n ≡ m → n ≤ m
        ap_low e = omega (arith, e)
    by true true e =
        let same = ap (locks_of k) (same-is f g e) in
        let less = ap (λ b. cond b (locks_of k g - 1) (locks_of k f)) e in
        omega (arith, same, less)
