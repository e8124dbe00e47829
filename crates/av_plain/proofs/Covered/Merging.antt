-- What holds of frames and slots where pages come to share frames, and where frames go over to others.
use Rattle.std.proofs.Common.{◌≡◌, ◌⊎◌, inl, inr, ℕ, ◌+◌, ◌<◌, ◌≤◌, Bool, true, false, cond, ◌||◌, ◌&&◌, nat_lt, T, List, [], ◌∷◌, ◌++◌, map, Option, Some, None, option_map, refl, sym, ap, subst, ◌∙◌, arith, ◌==◌}
use Rattle.std.proofs.lemmas.Bool.{false≢true}
use Rattle.std.specs.FinMap.Entries.{is_sorted}
use Rattle.std.specs.List.{list_any}
use Rattle.std.specs.Prelude.{IfSome, IsSome, IsSomeAnd}
use Rattle.av_base.specs.Keys.{Key, key_cmp, same_key}
use Rattle.av_base.specs.Items.{same_item}
use Rattle.av_base.proofs.Keys.{same_key-is}
use Rattle.av_base.specs.Words.{how_many, renamed}
use Rattle.av_base.specs.declared.slot.Slot.{Slot}
use Rattle.av_vma.specs.Index.{index_of}
use Rattle.av_trace.specs.declared.note.Note.TheVariants.{Shared}
use Rattle.av_plain.specs.Areas.{AnonVma, Items, Rmap, at_root, item_of, root_of, with_home_moved, with_any_item, with_item_of, with_first_item}
use Rattle.av_plain.specs.Covered.{AreSlotsCovered, HasItem, IsAtRoot, IsOfSlot, IsReached, IsRmapSound, IsRooted}
use Rattle.av_plain.specs.Event.{after_note, change_frame, placed_entry, set_entry, with_places}
use Rattle.av_plain.specs.Ledger.{Cached, Entry, InFrame, InSlot, Ledger, Setting, Zero, cached_by, entry, frame_at, is_merged, names_frame, names_slot, same_slot}
use Rattle.av_plain.specs.Sound.{IsSound, holders, mergings, no_excuse, uses}
use Rattle.av_plain.proofs.Covered.{Names, sound-fewer}
use Rattle.av_plain.proofs.Covered.Slots.{HasKin, Own, at_area, home-is, of_area, reached-own, root-is, rooted-own, slots-fewer, slots-lists, slots-set, to_rooted}
use Rattle.av_plain.proofs.Covered.Swap.{AreMergedFewer, Reach, merged-settled_entry, settled_entry-cache, settled_entry-entries}
use Rattle.av_plain.proofs.Event.{entry-renamed, is_sorted-map}
use Rattle.av_plain.proofs.Ledger.{entry-set, is_sorted-set}
use Rattle.av_plain.proofs.Sound.Changes.{any-counts}
use Rattle.av_plain.proofs.Sound.Counts.{frame_at-some, pair-frame, same-is, same-itself}
use Rattle.av_plain.proofs.Sound.Sharing.{back-again, before, differ, is-before, merged-went, none-from, not_to, slots-went}

-- ---- items

-- a page is rooted only at a root
pub at-root : (r : Rmap) (k : Key) (home : ℕ × ℕ) → HasKin r → ((v : ℕ) → IsSome (r.anons.anon v) → v < r.anons.next) → IsRooted r k home
    → IsAtRoot r.anons home
at-root r k home kin made is =
    let o = rooted-own r k home kin is in
    let here = of_area r k o (λ area. IsSomeAnd area.anon (λ own. root_of r.anons own ≡ home.0) × (index_of area k.1 ≡ home.1)) is in
    let root : o.anon.root ≡ home.0 = sym (root-is r k o) ∙ subst (λ x. IsSomeAnd x (λ own. root_of r.anons own ≡ home.0)) o.is_own here.0 in
    let member = o.kin.members o.anon.root o.kin.root in
    subst (λ v. (v < r.anons.next) × IfSome (r.anons.anon v) (λ a. a.root ≡ v)) root
    (made o.anon.root (some o.anon.root (r.anons.anon o.anon.root) member), maybe o.anon.root (r.anons.anon o.anon.root) member)
  where
    some : (v : ℕ) (x : Option AnonVma) → IsSomeAnd x (λ a. a.root ≡ v) → IsSome x
    some v None is = absurd is
    some v (Some a) is = refl

    maybe : (v : ℕ) (x : Option AnonVma) → IsSomeAnd x (λ a. a.root ≡ v) → IfSome x (λ a. a.root ≡ v)
    maybe v None is = tt
    maybe v (Some a) is = is

item-itself : (a : ℕ × ℕ) → same_item a a ≡ true
item-itself a = λ i. same-itself a.0 i && same-itself a.1 i

item-is : (a b : ℕ × ℕ) → same_item a b ≡ true → a ≡ b
item-is a b h = λ i. (same-is a.0 b.0 (left h).0 i, same-is a.1 b.1 (left h).1 i)
  where
    left : (a.0 == b.0 && a.1 == b.1) ≡ true → ((a.0 == b.0) ≡ true) × ((a.1 == b.1) ≡ true)
    left h = by (a.0 == b.0) (a.1 == b.1) h
      where
        by : (x y : Bool) → (x && y) ≡ true → (x ≡ true) × (y ≡ true)
        by true y h = (refl, h)
        by false y h = absurd (false≢true h)

any-last : {X : Type 0} (p : X → Bool) (x : X) (xs : List X) → list_any p (xs ++ x ∷ []) ≡ (list_any p xs || p x)
any-last p x [] = none (p x)
  where
    none : (b : Bool) → (b || false) ≡ b
    none true = refl
    none false = refl
any-last p x (y ∷ ys) = by (p y) (any-last p x ys)
  where
    by : (b : Bool) → list_any p (ys ++ x ∷ []) ≡ (list_any p ys || p x) → (b || list_any p (ys ++ x ∷ [])) ≡ ((b || list_any p ys) || p x)
    by true h = refl
    by false h = h

count-last : {X : Type 0} (p : X → Bool) (x : X) (xs : List X) → how_many p (xs ++ x ∷ []) ≡ how_many p xs + cond (p x) 1 0
count-last p x [] = omega arith
count-last p x (y ∷ ys) = let h = count-last p x ys in omega (arith, h)

none-counts : {X : Type 0} (p : X → Bool) (xs : List X) → list_any p xs ≡ false → how_many p xs ≡ 0
none-counts p [] h = refl
none-counts p (x ∷ xs) h = by (none-counts p xs) (p x) h
  where
    by : (list_any p xs ≡ false → how_many p xs ≡ 0) → (b : Bool) → (b || list_any p xs) ≡ false → cond b 1 0 + how_many p xs ≡ 0
    by again true h = absurd (false≢true (sym h))
    by again false h = let z = again h in omega (arith, z)

-- an item that is put in is there, the others stay, and none stands twice
module _ (item : ℕ × ℕ) (items : List (ℕ × ℕ)) where
  with-itself : list_any (same_item item) (with_any_item (Some item) items) ≡ true
  with-itself = by (list_any (same_item item) items) refl
    where
      right : (b : Bool) {c : Bool} → c ≡ true → (b || c) ≡ true
      right true h = refl
      right false h = h

      by : (b : Bool) → list_any (same_item item) items ≡ b → list_any (same_item item) (cond b items (items ++ item ∷ [])) ≡ true
      by true is = is
      by false is = any-last (same_item item) item items ∙ right (list_any (same_item item) items) (item-itself item)

  with-old : (x : ℕ × ℕ) → list_any (same_item x) items ≡ true → list_any (same_item x) (with_any_item (Some item) items) ≡ true
  with-old x is = by (list_any (same_item item) items)
    where
      by : (b : Bool) → list_any (same_item x) (cond b items (items ++ item ∷ [])) ≡ true
      by true = is
      by false = any-last (same_item x) item items ∙ ap (λ b. b || same_item x item) is

  with-only : (x : ℕ × ℕ) → list_any (same_item x) (with_any_item (Some item) items) ≡ true → (list_any (same_item x) items ≡ true) ⊎ (x ≡ item)
  with-only x = by (list_any (same_item item) items)
    where
      either : (a b : Bool) → (a || b) ≡ true → (a ≡ true) ⊎ (b ≡ true)
      either true b h = inl refl
      either false b h = inr h

      last : (list_any (same_item x) items ≡ true) ⊎ (same_item x item ≡ true) → (list_any (same_item x) items ≡ true) ⊎ (x ≡ item)
      last (inl h) = inl h
      last (inr h) = inr (item-is x item h)

      by : (b : Bool) → list_any (same_item x) (cond b items (items ++ item ∷ [])) ≡ true → (list_any (same_item x) items ≡ true) ⊎ (x ≡ item)
      by true is = inl is
      by false is = last (either _ _ (sym (any-last (same_item x) item items) ∙ is))

  with-once : (x : ℕ × ℕ) → how_many (same_item x) items ≤ 1 → how_many (same_item x) (with_any_item (Some item) items) ≤ 1
  with-once x few = by (list_any (same_item item) items) refl
    where
      same : (b : Bool) → same_item x item ≡ b → list_any (same_item item) items ≡ false → how_many (same_item x) items + cond b 1 0 ≤ 1
      same true e none = let z = ap (λ y. how_many (same_item y) items) (item-is x item e) ∙ none-counts (same_item item) items none in omega (arith, z)
      same false e none = omega (arith, few)

      by : (b : Bool) → list_any (same_item item) items ≡ b → how_many (same_item x) (cond b items (items ++ item ∷ [])) ≤ 1
      by true is = few
      by false is = let c = count-last (same_item x) item items in let s = same (same_item x item) refl is in omega (arith, c, s)

-- what the homes and the areas say is said whatever the items are
with_first_item-slots : (l : Ledger) (r : Rmap) (items : Items) → AreSlotsCovered l r → AreSlotsCovered l (record r { items = items })
with_first_item-slots l r items h = record { kin = h.kin; rooted = h.rooted; cached = h.cached }

with_first_item-sound : (l : Ledger) (r : Rmap) (items : Items) → IsRmapSound l r → IsRmapSound l (record r { items = items })
with_first_item-sound l r items h = record { made = h.made; rising = h.rising; own = h.own; covered = h.covered }

-- ---- a frame is merged

module _ (l : Ledger) (r : Rmap) (f : ℕ) (k : Key) (h : Reach l r) (own : is_merged l f ≡ false) (named : Names l k f)
    (uncached : (s : Slot) → frame_at l s ≡ Some f → ⊥) where
  record HomeAt : Type 0 where
    home : ℕ × ℕ
    is : r.homes f ≡ Some home

  home-at : HomeAt
  home-at = by (r.homes f) refl (h.sound.covered k f named own)
    where
      by : (o : Option (ℕ × ℕ)) → r.homes f ≡ o → IsSomeAnd o (IsReached r k) → HomeAt
      by None e is = absurd is
      by (Some home) e is = record { home = home; is = e }

  abbrev root : ℕ × ℕ
  root = (root_of r.anons home-at.home.0, home-at.home.1)

  -- each page whose entry names it is rooted there
  rooted-at : (q : Key) → Names l q f → IsRooted r q root
  rooted-at q names =
      let x = subst (λ o. IsSomeAnd o (IsReached r q)) home-at.is (h.sound.covered q f names own) in
      to_rooted r q (reached-own r q home-at.home h.slots.kin x) home-at.home x

  merged-now : (g : ℕ) → is_merged (after_note (Shared f) l) g ≡ (is_merged l g || g == f)
  merged-now g = any-last (λ x. g == x) f l.merged

  merged-old : (g : ℕ) → (g == f) ≡ false → is_merged (after_note (Shared f) l) g ≡ is_merged l g
  merged-old g other = merged-now g ∙ ap (λ b. is_merged l g || b) other ∙ none (is_merged l g)
    where
      none : (b : Bool) → (b || false) ≡ b
      none true = refl
      none false = refl

  items-at : (g : ℕ) (b : Bool) → (g == f) ≡ b → (with_first_item f r).items g ≡ cond b (with_any_item (Some root) []) (r.items g)
  items-at g b e = λ i. cond (e i) (with_any_item (at_root r.anons (home-at.is i)) []) (r.items g)

  homes-at : (g : ℕ) (b : Bool) → (g == f) ≡ b → (with_first_item f r).homes g ≡ cond b None (r.homes g)
  homes-at g b e = ap (λ b. cond b None (r.homes g)) e

  shared-covered : (q : Key) (g : ℕ) → Names l q g → is_merged (after_note (Shared f) l) g ≡ false → (b : Bool) → (g == f) ≡ b
      → IsSomeAnd ((with_first_item f r).homes g) (IsReached r q)
  shared-covered q g names alone true e = absurd (false≢true (sym alone ∙ merged-now g ∙ right (is_merged l g) e))
    where
      right : (a : Bool) {b : Bool} → b ≡ true → (a || b) ≡ true
      right true h = refl
      right false h = h
  shared-covered q g names alone false e = subst (λ o. IsSomeAnd o (IsReached r q)) (sym (homes-at g false e))
      (h.sound.covered q g names (sym (merged-old g e) ∙ alone))

  shared-found : (q : Key) (g : ℕ) → Names l q g → is_merged (after_note (Shared f) l) g ≡ true → (b : Bool) → (g == f) ≡ b
      → HasItem (with_first_item f r) g q
  shared-found q g names is true e = (
    root,
    subst (λ xs. list_any (same_item root) xs ≡ true) (sym (items-at g true e)) (with-itself root []),
    rooted-at q (subst (Names l q) (same-is g f e) names),
  )
  shared-found q g names is false e = let x = h.merged.found q g names (sym (merged-old g e) ∙ is) in
      (x.0, subst (λ xs. list_any (same_item x.0) xs ≡ true) (sym (items-at g false e)) x.1, x.2)

  shared-once : (g : ℕ) (item : ℕ × ℕ) → is_merged (after_note (Shared f) l) g ≡ true → (b : Bool) → (g == f) ≡ b
      → how_many (same_item item) ((with_first_item f r).items g) ≤ 1
  shared-once g item is true e = subst (λ xs. how_many (same_item item) xs ≤ 1) (sym (items-at g true e)) (with-once root [] item (omega arith))
  shared-once g item is false e = subst (λ xs. how_many (same_item item) xs ≤ 1) (sym (items-at g false e))
      (h.merged.once g item (sym (merged-old g e) ∙ is))

  shared-roots : (g : ℕ) (item : ℕ × ℕ) → is_merged (after_note (Shared f) l) g ≡ true → (b : Bool) → (g == f) ≡ b
      → list_any (same_item item) ((with_first_item f r).items g) ≡ true → IsAtRoot r.anons item
  shared-roots g item is true e among =
      by (with-only root [] item (subst (λ xs. list_any (same_item item) xs ≡ true) (items-at g true e) among))
    where
      by : (list_any (same_item item) [] ≡ true) ⊎ (item ≡ root) → IsAtRoot r.anons item
      by (inl is) = absurd (false≢true is)
      by (inr e) = subst (IsAtRoot r.anons) (sym e) (at-root r k root h.slots.kin h.sound.made (rooted-at k named))
  shared-roots g item is false e among = h.merged.roots g item (sym (merged-old g e) ∙ is)
      (subst (λ xs. list_any (same_item item) xs ≡ true) (items-at g false e) among)

  shared-homeless : (g : ℕ) → is_merged (after_note (Shared f) l) g ≡ true → (b : Bool) → (g == f) ≡ b → (with_first_item f r).homes g ≡ None
  shared-homeless g is true e = homes-at g true e
  shared-homeless g is false e = homes-at g false e ∙ h.merged.homeless g (sym (merged-old g e) ∙ is)

  shared-slots : AreSlotsCovered (after_note (Shared f) l) (with_first_item f r)
  shared-slots = with_first_item-slots (after_note (Shared f) l) (record r { homes = (with_first_item f r).homes }) (with_first_item f r).items
      (slots-fewer l (after_note (Shared f) l) r (with_first_item f r).homes (λ s q names. names) (λ s q g at names. (at, by s g at (g == f) refl)) h.slots)
    where
      by : (s : Slot) (g : ℕ) → frame_at l s ≡ Some g → (b : Bool) → (g == f) ≡ b → (with_first_item f r).homes g ≡ r.homes g
      by s g at true e = absurd (uncached s (at ∙ ap Some (same-is g f e)))
      by s g at false e = homes-at g false e

  pub shared-reach : Reach (after_note (Shared f) l) (with_first_item f r)
  shared-reach = record {
    in_order = h.in_order;
    once = h.once;
    sound = record { made = h.sound.made; rising = h.sound.rising; own = h.sound.own; covered = λ q g names alone. shared-covered q g names alone (g == f) refl };
    slots = shared-slots;
    merged = record {
      found = λ q g names is. shared-found q g names is (g == f) refl;
      once = λ g item is. shared-once g item is (g == f) refl;
      roots = λ g item is. shared-roots g item is (g == f) refl;
      homeless = λ g is. shared-homeless g is (g == f) refl;
    };
  }

-- ---- a page joins a merged frame, from one that isn't

module _ (l : Ledger) (r : Rmap) (k : Key) (f g : ℕ) (seen : Bool) (h : Reach l r) (at : entry l k ≡ Some (InFrame g seen))
    (own : is_merged l g ≡ false) (merge : is_merged l f ≡ true) where
  abbrev taken : Ledger
  taken = set_entry k (InFrame f false) l

  abbrev joined : Ledger
  joined = change_frame k f l

  joined-entries : joined.entries ≡ taken.entries
  joined-entries = settled_entry-entries (entry l k) taken

  joined-cache : joined.cache ≡ taken.cache
  joined-cache = settled_entry-cache (entry l k) taken

  joined-merged : AreMergedFewer taken joined
  joined-merged = merged-settled_entry (entry l k) taken

  -- its item, and that it is rooted there
  record ItemAt : Type 0 where
    item : ℕ × ℕ
    is : item_of r k ≡ Some item
    rooted : IsRooted r k item

  item-at : ItemAt
  item-at = of-own (own-at (r.homes g) (h.sound.covered k g named own))
    where
      named : Names l k g
      named = subst (λ o. IsSomeAnd o (λ e. names_frame g e ≡ true)) (sym at) (same-itself g)

      own-at : (o : Option (ℕ × ℕ)) → IsSomeAnd o (IsReached r k) → Own r k
      own-at None is = absurd is
      own-at (Some home) is = reached-own r k home h.slots.kin is

      of-own : Own r k → ItemAt
      of-own o = record {
        item = (root_of r.anons o.own, index_of o.area k.1);
        is = ap (at_root r.anons) (home-is r k o);
        rooted = at_area r k o (λ area. IsSomeAnd area.anon (λ own. root_of r.anons own ≡ root_of r.anons o.own) × (index_of area k.1 ≡ index_of o.area k.1))
            (subst (λ x. IsSomeAnd x (λ own. root_of r.anons own ≡ root_of r.anons o.own)) (sym o.is_own) refl, refl);
      }

  -- an entry that names a frame then did so, or it is the page's and the frame is the merged one
  joined-names : (q : Key) (j : ℕ) → Names joined q j → (b : Bool) → same_key q k ≡ b → cond b (j ≡ f) (Names l q j)
  joined-names q j names b e = by b (subst (λ b. IsSomeAnd (cond b (Some (InFrame f false)) (entry l q)) (λ e. names_frame j e ≡ true)) e
      (subst (λ o. IsSomeAnd o (λ e. names_frame j e ≡ true)) (entry-set k (InFrame f false) l q)
      (subst (λ es. Names (record l { entries = es }) q j) joined-entries names)))
    where
      by : (b : Bool) → IsSomeAnd (cond b (Some (InFrame f false)) (entry l q)) (λ e. names_frame j e ≡ true) → cond b (j ≡ f) (Names l q j)
      by true is = same-is j f is
      by false is = is

  joined-taken : (q : Key) (j : ℕ) → Names joined q j → is_merged joined j ≡ is_merged l j
  joined-taken q j names = joined-merged.named q j names

  items-joined : (j : ℕ) (b : Bool) → (j == f) ≡ b → (with_item_of f k r).items j ≡ cond b (with_any_item (Some item-at.item) (r.items f)) (r.items j)
  items-joined j b e = λ i. cond (e i) (with_any_item (item-at.is i) (r.items f)) (r.items j)

  joined-sound : IsRmapSound joined (with_item_of f k r)
  joined-sound = with_first_item-sound joined r (with_item_of f k r).items
      (sound-fewer l joined r (λ q j names alone. by q j names alone (same_key q k) refl) h.sound)
    where
      by : (q : Key) (j : ℕ) → Names joined q j → is_merged joined j ≡ false → (b : Bool) → same_key q k ≡ b → Names l q j × (is_merged l j ≡ false)
      by q j names alone true e = absurd (false≢true (sym alone ∙ joined-taken q j names ∙ ap (is_merged l) (joined-names q j names true e) ∙ merge))
      by q j names alone false e = (joined-names q j names false e, sym (joined-taken q j names) ∙ alone)

  joined-slots : AreSlotsCovered joined (with_item_of f k r)
  joined-slots = with_first_item-slots joined r (with_item_of f k r).items
      (slots-lists taken joined r joined-entries joined-cache (slots-set l r k (InFrame f false) (λ t. refl) h.slots))

  joined-found : (q : Key) (j : ℕ) → Names joined q j → is_merged joined j ≡ true → (b : Bool) → same_key q k ≡ b → HasItem (with_item_of f k r) j q
  joined-found q j names is true e =
      let same : j ≡ f = joined-names q j names true e in (
        item-at.item,
        subst (λ xs. list_any (same_item item-at.item) xs ≡ true) (sym (items-joined j true (ap (λ x. x == f) same ∙ same-itself f)))
            (with-itself item-at.item (r.items f)),
        subst (λ q. IsRooted r q item-at.item) (sym (same_key-is q k e)) item-at.rooted,
      )
  joined-found q j names is false e =
      let x = h.merged.found q j (joined-names q j names false e) (sym (joined-taken q j names) ∙ is) in
      (x.0, old x.0 (j == f) refl x.1, x.2)
    where
      old : (item : ℕ × ℕ) (b : Bool) → (j == f) ≡ b → list_any (same_item item) (r.items j) ≡ true
          → list_any (same_item item) ((with_item_of f k r).items j) ≡ true
      old item true e among = subst (λ xs. list_any (same_item item) xs ≡ true) (sym (items-joined j true e))
          (with-old item-at.item (r.items f) item (subst (λ j. list_any (same_item item) (r.items j) ≡ true) (same-is j f e) among))
      old item false e among = subst (λ xs. list_any (same_item item) xs ≡ true) (sym (items-joined j false e)) among

  joined-once : (j : ℕ) (item : ℕ × ℕ) → is_merged joined j ≡ true → (b : Bool) → (j == f) ≡ b
      → how_many (same_item item) ((with_item_of f k r).items j) ≤ 1
  joined-once j item is true e = subst (λ xs. how_many (same_item item) xs ≤ 1) (sym (items-joined j true e))
      (with-once item-at.item (r.items f) item (h.merged.once f item merge))
  joined-once j item is false e = subst (λ xs. how_many (same_item item) xs ≤ 1) (sym (items-joined j false e))
      (h.merged.once j item (joined-merged.fewer j is))

  joined-roots : (j : ℕ) (item : ℕ × ℕ) → is_merged joined j ≡ true → (b : Bool) → (j == f) ≡ b
      → list_any (same_item item) ((with_item_of f k r).items j) ≡ true → IsAtRoot r.anons item
  joined-roots j item is true e among =
      by (with-only item-at.item (r.items f) item (subst (λ xs. list_any (same_item item) xs ≡ true) (items-joined j true e) among))
    where
      by : (list_any (same_item item) (r.items f) ≡ true) ⊎ (item ≡ item-at.item) → IsAtRoot r.anons item
      by (inl there) = h.merged.roots f item merge there
      by (inr e) = subst (IsAtRoot r.anons) (sym e) (at-root r k item-at.item h.slots.kin h.sound.made item-at.rooted)
  joined-roots j item is false e among = h.merged.roots j item (joined-merged.fewer j is)
      (subst (λ xs. list_any (same_item item) xs ≡ true) (items-joined j false e) among)

  pub joined-reach : Reach joined (with_item_of f k r)
  joined-reach = record {
    in_order = subst (λ es. T (is_sorted key_cmp es)) (sym joined-entries) (is_sorted-set k (InFrame f false) l h.in_order);
    once = λ s. subst (λ cs. how_many (λ (c : Cached). same_slot s c.slot) cs ≤ 1) (sym joined-cache) (h.once s);
    sound = joined-sound;
    slots = joined-slots;
    merged = record {
      found = λ q j names is. joined-found q j names is (same_key q k) refl;
      once = λ j item is. joined-once j item is (j == f) refl;
      roots = λ j item is. joined-roots j item is (j == f) refl;
      homeless = λ j is. h.merged.homeless j (joined-merged.fewer j is);
    };
  }

-- ---- a frame goes over to a free one

module _ (m : Setting) (l : Ledger) (r : Rmap) (from to : ℕ) (h : Reach l r) (s : IsSound m l) (free : uses l to ≡ 0) (used : 0 < uses l from)
    (below : to < m.frames) where
  abbrev went : Ledger
  went = with_places (renamed from to) l

  abbrev over : Rmap
  over = with_home_moved from to r

  apart : (to == from) ≡ false
  apart = differ m no_excuse l from to s free used below

  homes-before : (g : ℕ) → over.homes g ≡ r.homes (before from to g)
  homes-before g = by (g == to)
    where
      by : (b : Bool) → cond b (r.homes from) (r.homes g) ≡ r.homes (cond b from g)
      by true = refl
      by false = refl

  items-before : (g : ℕ) → over.items g ≡ r.items (before from to g)
  items-before g = by (g == to)
    where
      by : (b : Bool) → cond b (r.items from) (r.items g) ≡ r.items (cond b from g)
      by true = refl
      by false = refl

  -- a frame that is merged then was so, and isn't the one that has gone
  merged-before : (g : ℕ) → is_merged went g ≡ cond (g == from) false (is_merged l (before from to g))
  merged-before g = any-counts (λ x. g == x) went.merged ∙ ap (nat_lt 0) (merged-went m no_excuse l from to s free used below g)
      ∙ by (g == from) ∙ ap (λ b. cond (g == from) false b) (sym (any-counts (λ x. before from to g == x) l.merged))
    where
      by : (b : Bool) → nat_lt 0 (cond b 0 (mergings l (before from to g))) ≡ cond b false (nat_lt 0 (mergings l (before from to g)))
      by true = refl
      by false = refl

  was-merged : (g : ℕ) → is_merged went g ≡ true → is_merged l (before from to g) ≡ true
  was-merged g is = by (g == from) (sym (merged-before g) ∙ is)
    where
      by : (b : Bool) → cond b false (is_merged l (before from to g)) ≡ true → is_merged l (before from to g) ≡ true
      by true is = absurd (false≢true is)
      by false is = is

  -- an entry that names a frame named the one that it was
  record WasNaming (k : Key) (g : ℕ) : Type 0 where
    names : Names l k (before from to g)
    stayed : (g == from) ≡ false

  was-naming : (k : Key) (g : ℕ) → Names went k g → WasNaming k g
  was-naming k g names = by (entry l k) refl (subst (λ o. IsSomeAnd o (λ e. names_frame g e ≡ true)) (entry-renamed from to l k) names)
    where
      left : (j : ℕ) → (g == renamed from to j) ≡ true → (g == from) ≡ false
      left j is = not_from (g == from) refl
        where
          not_from : (b : Bool) → (g == from) ≡ b → b ≡ false
          not_from true e = absurd (false≢true (sym (none-from from to apart j) ∙ ap (λ x. x == renamed from to j) (sym (same-is g from e)) ∙ is))
          not_from false e = refl

      by : (o : Option Entry) → entry l k ≡ o → IsSomeAnd (option_map (placed_entry (renamed from to)) o) (λ e. names_frame g e ≡ true) → WasNaming k g
      by None at is = absurd is
      by (Some Zero) at is = absurd (false≢true is)
      by (Some (InSlot t)) at is = absurd (false≢true is)
      by (Some (InFrame j seen)) at is = record {
        names = subst (λ o. IsSomeAnd o (λ e. names_frame (before from to g) e ≡ true)) (sym at)
            (sym (is-before from to apart g j (left j is) (not_to m no_excuse l from to s free used below k j seen at)) ∙ is);
        stayed = left j is;
      }

  was-slot : (t : Slot) (k : Key) → IsOfSlot went t k → IsOfSlot l t k
  was-slot t k names = by (entry l k) (subst (λ o. IsSomeAnd o (λ e. names_slot t e ≡ true)) (entry-renamed from to l k) names)
    where
      by : (o : Option Entry) → IsSomeAnd (option_map (placed_entry (renamed from to)) o) (λ e. names_slot t e ≡ true) → IsSomeAnd o (λ e. names_slot t e ≡ true)
      by None is = is
      by (Some Zero) is = is
      by (Some (InFrame j seen)) is = is
      by (Some (InSlot u)) is = is

  -- a slot is cached at what its frame is now
  frame_at-went : (t : Slot) → frame_at went t ≡ option_map (renamed from to) (frame_at l t)
  frame_at-went t = each l.cache
    where
      each : (cs : List Cached) → option_map (λ (c : Cached). c.frame)
          (cached_by (λ c. same_slot t c.slot) (map (λ (c : Cached). record c { frame = renamed from to c.frame }) cs))
          ≡ option_map (renamed from to) (option_map (λ (c : Cached). c.frame) (cached_by (λ c. same_slot t c.slot) cs))
      each [] = refl
      each (c ∷ cs) = by (same_slot t c.slot) (each cs)
        where
          by : (b : Bool) → option_map (λ (c : Cached). c.frame)
              (cached_by (λ c. same_slot t c.slot) (map (λ (c : Cached). record c { frame = renamed from to c.frame }) cs))
              ≡ option_map (renamed from to) (option_map (λ (c : Cached). c.frame) (cached_by (λ c. same_slot t c.slot) cs))
              → option_map (λ (c : Cached). c.frame) (cond b (Some (record c { frame = renamed from to c.frame }))
              (cached_by (λ c. same_slot t c.slot) (map (λ (c : Cached). record c { frame = renamed from to c.frame }) cs)))
              ≡ option_map (renamed from to) (option_map (λ (c : Cached). c.frame) (cond b (Some c) (cached_by (λ c. same_slot t c.slot) cs)))
          by true rest = refl
          by false rest = rest

  record WasCached (t : Slot) (g : ℕ) : Type 0 where
    frame : ℕ
    at : frame_at l t ≡ Some frame
    home : over.homes g ≡ r.homes frame

  was-cached : (t : Slot) (g : ℕ) → frame_at went t ≡ Some g → WasCached t g
  was-cached t g at = by (frame_at l t) refl (sym (frame_at-went t) ∙ at)
    where
      other : (j : ℕ) → frame_at l t ≡ Some j → (to == j) ≡ false
      other j e = by (to == j) refl
        where
          by : (b : Bool) → (to == j) ≡ b → b ≡ false
          by true is = absurd (let p = frame_at-some j t l.cache e in let q = pair-frame t j l.cache in let z = ap (holders l) (same-is to j is) in
              omega (arith, p, q, z, free))
          by false is = refl

      by : (o : Option ℕ) → frame_at l t ≡ o → option_map (renamed from to) o ≡ Some g → WasCached t g
      by None e is = cc
      by (Some j) e is =
          let now : renamed from to j ≡ g = cc in
          let back = (back-again m no_excuse l from to s free used below j (other j e)).0 in
          record { frame = j; at = e; home = homes-before g ∙ ap (λ x. r.homes (before from to x)) (sym now) ∙ ap r.homes back }

  went-covered : (k : Key) (g : ℕ) → Names went k g → is_merged went g ≡ false → IsSomeAnd (over.homes g) (IsReached r k)
  went-covered k g names alone =
      let was = was-naming k g names in
      subst (λ o. IsSomeAnd o (IsReached r k)) (sym (homes-before g))
      (h.sound.covered k (before from to g) was.names
      (sym (merged-before g ∙ ap (λ b. cond b false (is_merged l (before from to g))) was.stayed) ∙ alone))

  pub moved-reach : Reach (with_places (renamed from to) l) (with_home_moved from to r)
  moved-reach = record {
    in_order = subst T (sym (is_sorted-map key_cmp (placed_entry (renamed from to)) l.entries)) h.in_order;
    once = λ t. let a = slots-went m no_excuse l from to s free used below t in let o = h.once t in omega (arith, a, o);
    sound = record { made = h.sound.made; rising = h.sound.rising; own = h.sound.own; covered = went-covered };
    slots = record {
      kin = h.slots.kin;
      rooted = λ t k q names other. h.slots.rooted t k q (was-slot t k names) (was-slot t q other);
      cached = λ t k g at names. let was = was-cached t g at in
          subst (λ o. IsSomeAnd o (IsReached r k)) (sym was.home) (h.slots.cached t k was.frame was.at (was-slot t k names));
    };
    merged = record {
      found = λ k g names is. let x = h.merged.found k (before from to g) (was-naming k g names).names (was-merged g is) in
          (x.0, subst (λ xs. list_any (same_item x.0) xs ≡ true) (sym (items-before g)) x.1, x.2);
      once = λ g item is. subst (λ xs. how_many (same_item item) xs ≤ 1) (sym (items-before g)) (h.merged.once (before from to g) item (was-merged g is));
      roots = λ g item is among. h.merged.roots (before from to g) item (was-merged g is)
          (subst (λ xs. list_any (same_item item) xs ≡ true) (items-before g) among);
      homeless = λ g is. homes-before g ∙ h.merged.homeless (before from to g) (was-merged g is);
    };
  }
