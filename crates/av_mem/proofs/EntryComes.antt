-- A frame is taken for a page: a new one, or one for a copy.
use Rattle.std.proofs.Common.{◌≡◌, ℕ, ◌+◌, ◌-◌, ◌<◌, ◌==◌, Bool, true, false, cond, not, ◌&&◌, ◌||◌, List, [], ◌∷◌, filter, Option, Some, is_none, refl, sym, ap, subst, ◌∙◌, arith}
use Rattle.av_base.specs.Words.{is_in, with_at, without}
use Rattle.av_frames.specs.Store.{Shown, Store, shown as shown_frames, with_bytes, with_home, with_maps}
use Rattle.av_lru.specs.Lists.{without_frame}
use Rattle.av_pagetable.specs.declared.pte.Pte.TheVariants.{Here}
use Rattle.av_pagetable.specs.Entries.{ProcessTables, entry_at, has, with_entry}
use Rattle.av_rmap.specs.Items.{shown as shown_items}
use Rattle.av_swapcache.specs.Swap.{shown as shown_swap}
use Rattle.av_plain.specs.Ledger.{InFrame}
use Rattle.av_plain.specs.Stands.{Pte as Plain, View}
use Rattle.av_plain.proofs.Sound.Counts.{same-is, same-itself}
use Rattle.std.proofs.lemmas.Bool.Decides.{nat_tests}
use Rattle.av_swap_laws.specs.Steps.{view_copy, view_copy_last, view_freed, view_new, view_seen, with_pte}
use Rattle.av_mem.specs.declared.mem.Mem.{Mem}
use Rattle.av_mem.specs.Entries.{HasFree, view_copied, view_settled, view_taken}
use Rattle.av_mem.specs.Locked.{AreFew}
use Rattle.av_mem.specs.Mem.{frame_count, locks_of, view, view_of_parts}
use Rattle.av_mem.specs.Steps.{KeepsParts}
use Rattle.av_mem.proofs.MemLaws.{plain_set}
use Rattle.av_mem.proofs.StayLaws.{parts-then}
use Rattle.av_mem.proofs.StepLaws.{SameRest, view-by}

-- ---- the first free frame is taken

pub frame-taken : (old new : Mem) (f : ℕ) (left : List ℕ) (home : Option (ℕ × ℕ)) → SameRest old new → (shown_frames old.frames).maps f ≡ 0
    → shown_frames new.frames
    ≡ with_home f home (with_maps f ((shown_frames old.frames).maps f + 1) (record (shown_frames old.frames) { free = left }))
    → new.lists ≡ record (without_frame f old.lists) { inactive = f ∷ (without_frame f old.lists).inactive }
    → new.swap ≡ old.swap → view new ≡ view_taken f left home (view old)
frame-taken old new f left home same none frames lists swap =
    view-by old new (with_home f home (with_maps f 1 (record (shown_frames old.frames) { free = left })))
    (record { frames = old.lists.frames; active = without f old.lists.active; inactive = f ∷ without f old.lists.inactive })
    (shown_swap old.swap) same
    (frames ∙ ap (λ n. with_home f home (with_maps f (n + 1) (record (shown_frames old.frames) { free = left }))) none)
    lists (ap shown_swap swap)

-- ---- its page names it

-- an entry that is set twice
set-twice : (p page : ℕ) (x y : Option Plain) (table : ℕ → ℕ → Option Plain) → with_pte p page y table ≡ with_pte p page y (with_pte p page x table)
set-twice p page x y table = λ i q o. by (q == p && o == page) (table q o) i
  where
    by : (b : Bool) (z : Option Plain) → cond b y z ≡ cond b y (cond b x z)
    by true z = refl
    by false z = refl

-- the entry is set and the bytes are, and the rest is as it was
pub page-gets : (mid new : Mem) (v : View) (p page f : ℕ) (left : List ℕ) (held : ℕ → ℕ) (home : Option (ℕ × ℕ))
    → view mid ≡ view_taken f left home v → entry_at new.tables ≡ with_entry p page (Here f true true) (entry_at mid.tables)
    → shown_frames new.frames ≡ with_bytes f held (shown_frames mid.frames) → new.lists ≡ mid.lists → new.items ≡ mid.items → new.spaces ≡ mid.spaces
    → new.anons ≡ mid.anons → new.swap ≡ mid.swap → view new ≡ view_seen p page f true (view_new p page f true left held home v)
page-gets mid new v p page f left held home taken entries frames lists items spaces anons swap =
    (λ i. view_of_parts (frames i) (lists i) (shown_items (items i)) (plain_set (entry_at mid.tables) (entry_at new.tables) p page (Here f true true) entries i) (spaces i)
    (anons i) (shown_swap (swap i)))
    ∙ ap (λ (u : View). view_seen p page f true (record u { bytes = with_at f held u.bytes })) taken
    ∙ (λ i. record (view_taken f left home v) {
      bytes = with_at f held v.bytes;
      table = set-twice p page (Some (record { entry = InFrame f false; write = true })) (Some (record { entry = InFrame f true; write = true }))
          v.table i;
    })

-- ---- a copy: the frame that was the page's has an entry less first

-- a free frame is another one, so it is named by nothing still
pub unmapped-still : (f g : ℕ) (maps : ℕ → ℕ) → 0 < maps g → maps f ≡ 0 → with_at g (maps g - 1) maps f ≡ 0
unmapped-still f g maps some none = by (f == g) refl
  where
    by : (b : Bool) → (f == g) ≡ b → cond b (maps g - 1) (maps f) ≡ 0
    by true e = absurd (let m : maps g ≡ 0 = subst (λ x. maps x ≡ 0) (same-is f g e) none in omega (arith, some, m))
    by false e = none

pub free-still : (k : Mem) (frames : Store) (g : ℕ) → HasFree k → 0 < (shown_frames k.frames).maps g
    → shown_frames frames ≡ with_maps g ((shown_frames k.frames).maps g - 1) (shown_frames k.frames) → HasFree (record k { frames = frames })
free-still k frames g free some is = record {
  some = λ none. free.some (sym (ap (λ (s : Shown). s.free) is) ∙ none);
  unmapped = λ f listed. ap (λ (s : Shown). s.maps f) is
      ∙ unmapped-still f g (shown_frames k.frames).maps some (free.unmapped f (sym (ap (λ (s : Shown). is_in f s.free) is) ∙ listed));
  lists = free.lists ∙ sym (ap (λ (s : Shown). s.count) is);
}

-- a frame that an entry names is not among those that are left
pub left-used : (k : Mem) (f g : ℕ) (left : List ℕ) → HasFree k → 0 < (view k).maps g → (view k).free ≡ f ∷ left → is_in g left ≡ false
left-used k f g left free some is = by (is_in g left) refl
  where
    either : (b : Bool) → (b || true) ≡ true
    either true = refl
    either false = refl

    by : (b : Bool) → is_in g left ≡ b → b ≡ false
    by true e = absurd (let m : (view k).maps g ≡ 0 = free.unmapped g (ap (is_in g) is ∙ ap (λ b. g == f || b) e ∙ either (g == f)) in
        omega (arith, some, m))
    by false e = refl

-- ---- it is free where that was its last use

-- two frames leave a list in either order
pushed : (p : ℕ → Bool) (x : ℕ) (ys : List ℕ) (b : Bool)
    → filter p (cond b (x ∷ ys) ys) ≡ cond b (cond (p x) (x ∷ filter p ys) (filter p ys)) (filter p ys)
pushed p x ys true = refl
pushed p x ys false = refl

without-twice : (f g : ℕ) (xs : List ℕ) → without f (without g xs) ≡ without g (without f xs)
without-twice f g [] = refl
without-twice f g (x ∷ xs) = pushed (λ h. not (f == h)) x (without g xs) (not (g == x)) ∙ by (not (f == x)) (not (g == x)) (without-twice f g xs)
    ∙ sym (pushed (λ h. not (g == h)) x (without f xs) (not (f == x)))
  where
    by : (a b : Bool) → without f (without g xs) ≡ without g (without f xs)
        → cond b (cond a (x ∷ without f (without g xs)) (without f (without g xs))) (without f (without g xs))
        ≡ cond a (cond b (x ∷ without g (without f xs)) (without g (without f xs))) (without g (without f xs))
    by true true h = ap (λ zs. x ∷ zs) h
    by true false h = h
    by false true h = h
    by false false h = h

-- no entry of a locked page names a frame that is taken
pub taken-unlocked : (k : Mem) (f : ℕ) → HasFree k → AreFew k → (left : List ℕ) → (view k).free ≡ f ∷ left → locks_of k f ≡ 0
taken-unlocked k f free few left first =
    let none = free.unmapped f (ap (is_in f) first ∙ ap (λ b. b || is_in f left) (same-itself f)) in
    let most = few f in
    omega (arith, none, most)

-- what stays where frames and tables change, and the counts of locks don't
pub parts-with : (k : Mem) (frames : Store) (tables : ProcessTables) → (shown_frames frames).count ≡ frame_count k → (shown_frames frames).locks ≡ locks_of k
    → has tables ≡ has k.tables → KeepsParts k (record k { frames = frames; tables = tables })
parts-with k frames tables count locks processes = record {
  stay = refl;
  processes = processes;
  count = count;
  lists = refl;
  items = refl;
  swap = record { frames = refl; on = refl; bad = refl; closing = refl; priority = refl };
  locks = locks;
}

-- so it is over a copy
pub copy-parts : (old mid : Mem) (fewer copied : Store) (tables : ProcessTables) (new : Mem) (g n : ℕ)
    → shown_frames fewer ≡ with_maps g n (shown_frames old.frames) → KeepsParts (record old { frames = fewer }) mid
    → (f h : ℕ) → shown_frames copied ≡ with_bytes f ((shown_frames mid.frames).bytes h) (shown_frames mid.frames) → has tables ≡ has mid.tables
    → KeepsParts (record mid { frames = copied; tables = tables }) new → KeepsParts old new
copy-parts old mid fewer copied tables new g n less taken f h copy processes settled =
    parts-then (parts-with old fewer old.tables (ap (λ (s : Shown). s.count) less) (ap (λ (s : Shown). s.locks) less) refl)
    (parts-then taken (parts-then (parts-with mid copied tables (ap (λ (s : Shown). s.count) copy) (ap (λ (s : Shown). s.locks) copy) processes) settled))

-- the frame that was copied is another one than the copy
pub copied-other : (v : View) (f g : ℕ) → 0 < v.maps g → v.maps f ≡ 0 → (g == f) ≡ false
copied-other v f g some none = by (g == f) refl
  where
    by : (b : Bool) → (g == f) ≡ b → b ≡ false
    by true e = absurd (let m : v.maps g ≡ 0 = subst (λ x. v.maps x ≡ 0) (sym (same-is g f e)) none in omega (arith, some, m))
    by false e = refl

-- the page has a copy; and the frame that was copied is free where this says so
abbrev with_copy : ℕ → ℕ → ℕ → ℕ → List ℕ → Option (ℕ × ℕ) → View → View
with_copy p page f g left home v = view_seen p page f true (view_copy p page g f true left home v)

abbrev freed_by : ℕ → View → Bool → View
freed_by g v b = cond b (view_freed g v) v

pub copied-settles : (v : View) (p page f g : ℕ) (left : List ℕ) (home : Option (ℕ × ℕ)) → 0 < v.maps g → v.maps f ≡ 0
    → view_settled g (view_seen p page f true (view_copy p page g f true left home v))
    ≡ view_seen p page f true (view_copied p page g f left home v)
copied-settles v p page f g left home some none =
    ap (λ n. freed_by g (with_copy p page f g left home v) (n == 0 && is_none (v.slot g))) now ∙ ap (λ b. freed_by g (with_copy p page f g left home v) (b && is_none (v.slot g))) (last (v.maps g) some)
    ∙ by (v.maps g == 1 && is_none (v.slot g))
  where
    other : (g == f) ≡ false
    other = copied-other v f g some none

    itself : (g : ℕ) → (g == g) ≡ true
    itself g = grind (arith, nat_tests)

    now : with_at f 1 (with_at g (v.maps g - 1) v.maps) g ≡ v.maps g - 1
    now = ap (λ b. cond b 1 (with_at g (v.maps g - 1) v.maps g)) other ∙ ap (λ b. cond b (v.maps g - 1) (v.maps g)) (itself g)

    last : (n : ℕ) → 0 < n → (n - 1 == 0) ≡ (n == 1)
    last n h = grind (arith, nat_tests, h)

    head : without g (f ∷ without f v.inactive) ≡ f ∷ without f (without g v.inactive)
    head = ap (λ b. cond (not b) (f ∷ without g (without f v.inactive)) (without g (without f v.inactive))) other
        ∙ ap (λ zs. f ∷ zs) (without-twice g f v.inactive)

    by : (b : Bool) → freed_by g (with_copy p page f g left home v) b
        ≡ view_seen p page f true (cond b (view_copy_last p page g f true left home v) (view_copy p page g f true left home v))
    by true = λ i. record (view_seen p page f true (view_copy_last p page g f true left home v)) {
      active = without-twice g f v.active i;
      inactive = head i;
    }
    by false = refl
