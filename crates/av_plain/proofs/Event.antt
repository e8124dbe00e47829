-- Laws of the larger changes: unmapping a frame, copying a process's entries, and taking entries away from the least key on.
use Rattle.std.proofs.Common.{◌≡◌, ℕ, ◌+◌, Bool, true, false, cond, not, ◌&&◌, T, List, [], ◌∷◌, map, filter, Option, Some, None, option_map, refl, sym, ap, subst, ◌∙◌, arith, ◌==◌, if◌then◌else◌, Ordering}
use Rattle.std.specs.Option.{option_or}
use Rattle.std.specs.Ordering.{is_eq, is_lt, eq_by_cmp, ordering_reverse}
use Rattle.std.specs.declared.cmp.Ordering.TheVariants.{Less, Equal, Greater}
use Rattle.std.specs.Cmp.{IsTotalOrder, tied_itself}
use Rattle.std.specs.FinMap.Entries.{find, where_key, is_sorted, below_all}
use Rattle.av_base.specs.Keys.{Key, key_cmp, same_key}
use Rattle.av_base.proofs.Keys.{keys_total, same_key-is, same_key-itself}
use Rattle.av_base.specs.declared.slot.Slot.{Slot}
use Rattle.av_base.specs.Words.{how_many, renamed}
use Rattle.av_plain.specs.Ledger.{Entry, InFrame, InSlot, Zero, Ledger, entry, map_count, slot_entries, names_frame, names_slot, same_slot}
use Rattle.av_plain.specs.Event.{set_entry, change_entries, put_all, without_seen}
use Rattle.av_plain.proofs.Ledger.Order.{both_first, both_second, count-put, is_less, find_below, below_less, weight}
use Rattle.av_plain.proofs.Ledger.{entry-set, is_sorted-set}
use Rattle.av_plain.specs.Ledger.{is_free}
use Rattle.av_plain.specs.Event.{change_frame, off_lists, placed_entry, settle, settle_entry, with_places}

-- ---- counts

pub how_many-same : {X : Type 0} (p q : X → Bool) (xs : List X) → ((x : X) → p x ≡ q x) → how_many p xs ≡ how_many q xs
how_many-same p q [] h = refl
how_many-same p q (x ∷ xs) h = λ i. cond (h x i) 1 0 + how_many-same p q xs h i

pub how_many-map : {X Y : Type 0} (p : Y → Bool) (g : X → Y) (xs : List X) → how_many p (map g xs) ≡ how_many (λ x. p (g x)) xs
how_many-map p g [] = refl
how_many-map p g (x ∷ xs) = ap (λ n. cond (p (g x)) 1 0 + n) (how_many-map p g xs)

-- where one passes either test and not both
pub how_many-or : {X : Type 0} (p q r : X → Bool) (xs : List X) → ((x : X) → cond (r x) 1 0 ≡ cond (p x) 1 0 + cond (q x) 1 0) →
    how_many r xs ≡ how_many p xs + how_many q xs
how_many-or p q r [] h = refl
how_many-or p q r (x ∷ xs) h = both _ _ _ _ _ _ (h x) (how_many-or p q r xs h)
  where
    both : (a b c n m k : ℕ) → a ≡ b + c → n ≡ m + k → a + n ≡ (b + m) + (c + k)
    both a b c n m k e f = omega arith

pub how_many-none : {X : Type 0} (p : X → Bool) (xs : List X) → ((x : X) → p x ≡ false) → how_many p xs ≡ 0
how_many-none p [] h = refl
how_many-none p (x ∷ xs) h = λ i. cond (h x i) 1 0 + how_many-none p xs h i

-- ---- the values change, the keys stay

module _ {K X Y : Type 0} (R : K → K → Ordering) (g : X → Y) where
  pub find-map : (q : K) (es : List (K × X)) → find R q (map (λ e. (e.0, g e.1)) es) ≡ option_map g (find R q es)
  find-map q [] = refl
  find-map q (e ∷ es) = elim (eq_by_cmp R q e.0) as (λ b. cond b (Some (g e.1)) (find R q (map (λ e. (e.0, g e.1)) es)) ≡ option_map g
      (cond b (Some e.1) (find R q es))) [ true ↦ refl | false ↦ find-map q es ]

  pub below-map : (x : K) (es : List (K × X)) → below_all R x (map (λ e. (e.0, g e.1)) es) ≡ below_all R x es
  below-map x [] = refl
  below-map x (e ∷ es) = ap (λ b. is_lt (R x e.0) && b) (below-map x es)

  pub is_sorted-map : (es : List (K × X)) → is_sorted R (map (λ e. (e.0, g e.1)) es) ≡ is_sorted R es
  is_sorted-map [] = refl
  is_sorted-map (e ∷ es) = λ i. below-map e.0 es i && is_sorted-map es i

-- ---- unmapping

abbrev pub to_slot : ℕ → Slot → Entry → Entry
to_slot f s e = cond (names_frame f e) (InSlot s) e

pub entry-unmap : (f : ℕ) (s : Slot) (l : Ledger) (q : Key) → entry (change_entries f (λ _. InSlot s) l) q ≡ option_map (to_slot f s) (entry l q)
entry-unmap f s l q = find-map key_cmp (to_slot f s) q l.entries

pub map_count-unmap : (f : ℕ) (s : Slot) (l : Ledger) → map_count (change_entries f (λ _. InSlot s) l) f ≡ 0
map_count-unmap f s l = how_many-map (λ e. names_frame f e.1) (λ e. (e.0, to_slot f s e.1)) l.entries ∙ how_many-none _ l.entries (λ e. gone e.1)
  where
    gone : (e : Entry) → names_frame f (to_slot f s e) ≡ false
    gone Zero = refl
    gone (InFrame g seen) = elim (f == g) as (λ b. (f == g) ≡ b → names_frame f (cond b (InSlot s) (InFrame g seen)) ≡ false) [
      | true ↦
          λ _. refl
      | false ↦ λ e. e
    ] refl
    gone (InSlot t) = refl

pub slot_entries-unmap : (f : ℕ) (s : Slot) (l : Ledger) → same_slot s s ≡ true →
    slot_entries (change_entries f (λ _. InSlot s) l) s ≡ slot_entries l s + map_count l f
slot_entries-unmap f s l itself = how_many-map (λ e. names_slot s e.1) (λ e. (e.0, to_slot f s e.1)) l.entries
    ∙ how_many-or _ _ _ l.entries (λ e. moved e.1)
  where
    moved : (e : Entry) → cond (names_slot s (to_slot f s e)) 1 0 ≡ cond (names_slot s e) 1 0 + cond (names_frame f e) 1 0
    moved Zero = refl
    moved (InFrame g seen) = elim (f == g) as (λ b. cond (names_slot s (cond b (InSlot s) (InFrame g seen))) 1 0 ≡ 0 + cond b 1 0) [
      | true ↦
          ap (λ b. cond b 1 0) itself
      | false ↦ refl
    ]
    moved (InSlot t) = omega arith

-- ---- seen bits are cleared

abbrev pub to_unseen : ℕ → Entry → Entry
to_unseen f e = if names_frame f e then without_seen e else e

pub unseen-by : (f : ℕ) (p : Entry → Bool) → ((g : ℕ) (seen now : Bool) → p (InFrame g seen) ≡ p (InFrame g now)) → (e : Entry)
    → p (to_unseen f e) ≡ p e
unseen-by f p h Zero = refl
unseen-by f p h (InFrame g seen) = elim (f == g) as (λ b. p (if b then without_seen (InFrame g seen) else InFrame g seen) ≡ p (InFrame g seen)) [
  | true ↦ h g false seen
  | false ↦ refl
]
unseen-by f p h (InSlot t) = refl

pub entry-unseen : (f : ℕ) (l : Ledger) (q : Key) → entry (change_entries f without_seen l) q ≡ option_map (to_unseen f) (entry l q)
entry-unseen f l q = find-map key_cmp (to_unseen f) q l.entries

pub map_count-unseen : (f : ℕ) (l : Ledger) (j : ℕ) → map_count (change_entries f without_seen l) j ≡ map_count l j
map_count-unseen f l j = how_many-map (λ e. names_frame j e.1) (λ e. (e.0, to_unseen f e.1)) l.entries
    ∙ how_many-same _ _ l.entries (λ e. unseen-by f (names_frame j) (λ g seen now. refl) e.1)

pub slot_entries-unseen : (f : ℕ) (l : Ledger) (s : Slot) → slot_entries (change_entries f without_seen l) s ≡ slot_entries l s
slot_entries-unseen f l s = how_many-map (λ e. names_slot s e.1) (λ e. (e.0, to_unseen f e.1)) l.entries
    ∙ how_many-same _ _ l.entries (λ e. unseen-by f (names_slot s) (λ g seen now. refl) e.1)

-- ---- entries put in

pub entry-put_all : (es : List (Key × Entry)) (l : Ledger) (q : Key) → T (is_sorted key_cmp es) →
    entry (put_all es l) q ≡ option_or (find key_cmp q es) (entry l q)
entry-put_all [] l q h = refl
entry-put_all (e ∷ es) l q h =
    entry-put_all es (set_entry e.0 e.1 l) q (both_second _ _ h) ∙ ap (option_or (find key_cmp q es)) (entry-set e.0 e.1 l q)
    ∙ elim (same_key q e.0) as (λ b. same_key q e.0 ≡ b → option_or (find key_cmp q es) (cond b (Some e.1) (entry l q)) ≡ option_or
    (cond b (Some e.1) (find key_cmp q es)) (entry l q)) [
      | true ↦ λ is. ap (λ o. option_or o (Some e.1)) (ap (λ k. find key_cmp k es) (same_key-is q e.0 is) ∙ find_below keys_total
          (λ _. true) e.0 es (both_first _ _ h))
      | false ↦ λ is. refl
    ] refl

-- how many entries pass a test
abbrev pub entries_with : (Entry → Bool) → List (Key × Entry) → ℕ
entries_with t es = how_many (λ (e : Key × Entry). t e.1) es

pub is_sorted-put_all : (es : List (Key × Entry)) (l : Ledger) → T (is_sorted key_cmp l.entries) → T (is_sorted key_cmp (put_all es l).entries)
is_sorted-put_all [] l h = h
is_sorted-put_all (e ∷ es) l h = is_sorted-put_all es (set_entry e.0 e.1 l) (is_sorted-set e.0 e.1 l h)

pub put_all-only : (es : List (Key × Entry)) (l : Ledger) → put_all es l ≡ record l { entries = (put_all es l).entries }
put_all-only [] l = refl
put_all-only (e ∷ es) l = put_all-only es (set_entry e.0 e.1 l)

pub count-put_all : (t : Entry → Bool) (es : List (Key × Entry)) (l : Ledger) → T (is_sorted key_cmp es) → T (is_sorted key_cmp l.entries)
    → ((k : Key) (e : Entry) → find key_cmp k es ≡ Some e → entry l k ≡ None)
    → how_many (λ e. t e.1) (put_all es l).entries ≡ how_many (λ e. t e.1) l.entries + how_many (λ e. t e.1) es
count-put_all t [] l h g fresh = omega arith
count-put_all t (e ∷ es) l h g fresh =
    let l1 = set_entry e.0 e.1 l in
    let head : find key_cmp e.0 (e ∷ es) ≡ Some e.1 = ap (λ b. cond b (Some e.1) (find key_cmp e.0 es)) (same_key-itself e.0) in
    let none : weight t (entry l e.0) ≡ 0 = ap (weight t) (fresh e.0 e.1 head) in
    let rest = count-put_all t es l1 (both_second _ _ h) (is_sorted-set e.0 e.1 l g) (λ k d at. later k d at (same_key k e.0) refl) in
    sum _ _ _ _ _ _ rest (count-put keys_total t e.0 e.1 l.entries g) none
  where
    sum : (m n c v w o : ℕ) → m ≡ n + c → n + w ≡ o + v → w ≡ 0 → m ≡ o + (v + c)
    sum m n c v w o h i j = omega arith

    later : (k : Key) (d : Entry) → find key_cmp k es ≡ Some d → (b : Bool) → same_key k e.0 ≡ b → entry (set_entry e.0 e.1 l) k ≡ None
    later k d at true is = absurd (not_both (find key_cmp k es) d (ap (λ x. find key_cmp x es) (same_key-is k e.0 is) ∙ find_below keys_total t e.0 es
        (both_first _ _ h)) at)
      where
        not_both : (o : Option Entry) (d : Entry) → o ≡ None → o ≡ Some d → ⊥
        not_both o d a b = cc
    later k d at false is = entry-set e.0 e.1 l k ∙ ap (λ b. cond b (Some e.1) (entry l k)) is
        ∙ fresh k d (ap (λ b. cond b (Some e.1) (find key_cmp k es)) is ∙ at)

-- ---- the least key

module _ {K X : Type 0} {R : K → K → Ordering} (o : IsTotalOrder R) where
  -- a key below all is not taken away with another
  without_below : (k : K) (es : List (K × X)) → T (below_all R k es) → where_key R (λ q. not (eq_by_cmp R k q)) es ≡ es
  without_below k [] h = refl
  without_below k (e ∷ es) h =
      ap (λ r. cond (not (is_eq r)) (e ∷ where_key R (λ q. not (eq_by_cmp R k q)) es) (where_key R (λ q. not (eq_by_cmp R k q)) es))
      (is_less _ (both_first _ _ h))
      ∙ ap (λ fs. e ∷ fs) (without_below k es (both_second _ _ h))

  -- the keys that pass, where k is the least of them
  pub keys_from_least : (p : K → Bool) (k : K) (v : X) (es : List (K × X)) → ((x y : K) → R x y ≡ Equal → x ≡ y) → T (is_sorted R es) →
      find R k es ≡ Some v → p k ≡ true
      → ((q : K) → R q k ≡ Less → p q ≡ true → find R q es ≡ None)
      → filter p (map (λ e. e.0) es) ≡ k ∷ filter p (map (λ e. e.0) (where_key R (λ q. not (eq_by_cmp R k q)) es))
  keys_from_least p k v [] same h is passes least = cc
  keys_from_least p k v (e ∷ es) same h is passes least =
      elim (R k e.0) as (λ r. R k e.0 ≡ r → cond (is_eq r) (Some e.1) (find R k es) ≡ Some v
      → filter p (map (λ e. e.0) (e ∷ es)) ≡ k ∷ filter p (map (λ e. e.0)
      (cond (not (is_eq r)) (e ∷ where_key R (λ q. not (eq_by_cmp R k q)) es) (where_key R (λ q. not (eq_by_cmp R k q)) es)))) [
        | Less ↦ λ at found. let none = find_below o (λ _. true) k es (below_less o (λ _. true) k e.0 es at (both_first _ _ h)) in cc
        | Equal ↦ λ at found. let here : e.0 ≡ k = sym (same k e.0 at) in
            let all_left = without_below k es (subst (λ x. T (below_all R x es)) here (both_first _ _ h)) in
            ap (λ b. cond b (e.0 ∷ filter p (map (λ e. e.0) es)) (filter p (map (λ e. e.0) es))) (ap p here ∙ passes)
            ∙ (λ i. here i ∷ filter p (map (λ e. e.0) (sym all_left i)))
        | Greater ↦ λ at found.
            let lower : R e.0 k ≡ Less = o.antisymm e.0 k ∙ ap ordering_reverse at in
            let first_fails : p e.0 ≡ false = not_least (p e.0) (λ yields. least e.0 lower yields) in
            let rest = keys_from_least p k v es same (both_second _ _ h) found passes
            (λ q low yields. later q (R q e.0) (find R q es) (least q low yields)) in
            ap (λ b. cond b (e.0 ∷ filter p (map (λ e. e.0) es)) (filter p (map (λ e. e.0) es))) first_fails ∙ rest
            ∙ ap (λ b. k ∷ cond b (e.0 ∷ filter p (map (λ e. e.0) (where_key R (λ q. not (eq_by_cmp R k q)) es)))
            (filter p (map (λ e. e.0) (where_key R (λ q. not (eq_by_cmp R k q)) es)))) (sym first_fails)
      ] refl is
    where
      not_least : (b : Bool) → (b ≡ true → find R e.0 (e ∷ es) ≡ None) → b ≡ false
      not_least true h = let none = h refl in let some = ap (λ r. cond (is_eq r) (Some e.1) (find R e.0 es)) (tied_itself o e.0) in cc
      not_least false h = refl

      later : (q : K) (r : Ordering) (f : Option X) → cond (is_eq r) (Some e.1) f ≡ None → f ≡ None
      later q Less f h = h
      later q Equal f h = cc
      later q Greater f h = h

-- ---- an entry comes to name another frame

-- what a frame that leaves its list and the merged ones leaves as it is, `settle` does
pub settled-by : {A : Type 0} (g : Ledger → A) → ((f : ℕ) (l : Ledger) → g (off_lists f l) ≡ g l) → (f : ℕ) (l : Ledger) → g (settle f l) ≡ g l
settled-by g same f l = elim (is_free l f) as (λ b. g (cond b (off_lists f l) l) ≡ g l) [ true ↦ same f l | false ↦ refl ]

pub settled_entry-by : {A : Type 0} (g : Ledger → A) → ((f : ℕ) (l : Ledger) → g (off_lists f l) ≡ g l) → (o : Option Entry) (l : Ledger)
    → g (settle_entry o l) ≡ g l
settled_entry-by g same None l = refl
settled_entry-by g same (Some Zero) l = refl
settled_entry-by g same (Some (InSlot s)) l = refl
settled_entry-by g same (Some (InFrame f seen)) l = settled-by g same f l

pub changed-by : {A : Type 0} (g : Ledger → A) → ((f : ℕ) (l : Ledger) → g (off_lists f l) ≡ g l) → (k : Key) (f : ℕ) (l : Ledger)
    → g (change_frame k f l) ≡ g (set_entry k (InFrame f false) l)
changed-by g same k f l = settled_entry-by g same (entry l k) (set_entry k (InFrame f false) l)

-- the entries after a frame goes over to another
pub entry-renamed : (from to : ℕ) (l : Ledger) (q : Key) → entry (with_places (renamed from to) l) q ≡ option_map (placed_entry (renamed from to)) (entry l q)
entry-renamed from to l q = find-map key_cmp (placed_entry (renamed from to)) q l.entries

pub slot_entries-renamed : (from to : ℕ) (l : Ledger) (s : Slot) → slot_entries (with_places (renamed from to) l) s ≡ slot_entries l s
slot_entries-renamed from to l s = how_many-map (λ e. names_slot s e.1) (λ e. (e.0, placed_entry (renamed from to) e.1)) l.entries
    ∙ how_many-same _ _ l.entries (λ e. each e.1)
  where
    each : (e : Entry) → names_slot s (placed_entry (renamed from to) e) ≡ names_slot s e
    each Zero = refl
    each (InFrame f seen) = refl
    each (InSlot t) = refl
