-- What is found of cached pairs by the ranks of their slots and frames, and what stays placed as they come, go and change.
use Rattle.std.proofs.Common.{◌≡◌, ℕ, ◌+◌, ◌<◌, ◌≤◌, Bool, true, false, cond, ◌&&◌, ◌||◌, List, [], ◌∷◌, Option, Some, None, inl, inr}
use Rattle.std.proofs.Common.{nat_eq, refl, sym, ap, subst, ◌∙◌, arith, rules}
use Rattle.std.specs.Cmp.{eq_by_cmp_equiv, nat_cmp_total}
use Rattle.std.specs.List.{find, list_any}
use Rattle.std.specs.List.Sorted.{IsStrictlySortedBy}
use Rattle.std.specs.Map.{keys_of, values_of, set_value}
use Rattle.std.specs.Option.{IfSome, IsSome, option_map_or}
use Rattle.std.specs.Ordering.{nat_cmp}
use Rattle.std.specs.Prelude.{nat_le, option_and_then, option_map, ◌==◌}
use Rattle.std.proofs.lemmas.Bool.{cases_lt}
use Rattle.std.proofs.lemmas.Bool.Decides.{nat_tests}
use Rattle.std.proofs.lemmas.Map.{lookup-set_value}
use Rattle.av_base.proofs.Keys.{same_key-itself}
use Rattle.av_base.specs.Keys.{Key, same_key}
use Rattle.av_base.specs.Words.{how_many}
use Rattle.av_base.specs.declared.slot.Slot.{Slot}
use Rattle.av_plain.specs.Ledger.{same_slot}
use Rattle.av_audit_queue.specs.Line.{IsLine, has_at, member_at}
use Rattle.av_audit_queue.specs.Name.{frame_name, slot_name}
use Rattle.av_audit_queue.specs.Places.{IsLeastFrom, Place, stands}
use Rattle.av_audit_queue.proofs.LineLaws.{Puts, is_rank, rank-is, seen-at, told}
use Rattle.av_audit_queue.proofs.QueueLaws.{none-passes, some-passes}
use Rattle.av_audit_pages.proofs.RankLaws.{fewer-behind, first-passes}
use Rattle.av_audit_pages.specs.Entries.{changed_pair}
use Rattle.av_audit_pages.specs.Pairs.{IsFirstFrom, frame_key, passes_at, slot_key}
use Rattle.av_audit_pages.specs.declared.changes.PairChange.TheVariants.{Stale}
use Rattle.av_audit_pages.specs.declared.entries.Cached.{Cached}

pub of-slot : (s : Slot) (key : Key) → key ≡ slot_name s → (c : Cached) → same_slot s c.slot ≡ same_key key (slot_key c)
of-slot s key named c = same s.area s.page c.slot.area c.slot.page ∙ ap (λ k. same_key k (slot_key c)) (sym named)
  where
    same : (a b x y : ℕ) → (nat_eq a x && nat_eq b y) ≡ same_key (a, b) (x, y)
    same a b x y = grind (arith, nat_tests)

pub at-frame : (f : ℕ) (key : Key) → key ≡ frame_name f → (c : Cached) → (f == c.frame) ≡ same_key key (frame_key c)
at-frame f key named c = same f c.frame ∙ ap (λ k. same_key k (frame_key c)) (sym named)
  where
    same : (a b : ℕ) → (a == b) ≡ same_key (0, a) (0, b)
    same a b = grind (arith, nat_tests)

-- the pair at a rank that is found
abbrev pub pair_at : List (ℕ × Cached) → Option ℕ → Option (ℕ × Cached)
pair_at es o = option_and_then (λ r. option_map (λ c. (r, c)) (member_at es r)) o

-- the pair at the least rank of a name is the first that passes the name's test
module _ (name : Cached → Key) (test : Cached → Bool) (key : Key) (is : (c : Cached) → test c ≡ same_key key (name c))
    (es now : List (ℕ × Cached)) (ps : List Place) (seen : es ≡ now) (line : IsLine name es ps) where
  tested : (r : ℕ) → passes_at test now r ≡ stands ps key r
  tested r = (λ i. option_map_or (λ c. is c i) (member_at now r) false) ∙ sym (seen-at name es now ps seen line key r)

  pub first-from : (from : ℕ) (o : Option ℕ) (found : Option (ℕ × Cached)) → IsLeastFrom ps key from o → found ≡ pair_at now o
      → IsFirstFrom test now from found
  first-from from None found least same = subst (IsFirstFrom test now from) (sym same) (record {
    there = tt;
    passes = tt;
    from_there = tt;
    before = tt;
    none = λ r h. tested r ∙ least.none r h;
  })
  first-from from (Some rank) found least same =
      subst (IsFirstFrom test now from) (sym same) (by (member_at now rank) refl (tested rank ∙ least.there))
    where
      by : (o : Option Cached) → member_at now rank ≡ o → option_map_or test o false ≡ true
          → IsFirstFrom test now from (option_map (λ c. (rank, c)) o)
      by None at one = cc
      by (Some c) at one = record {
        there = at;
        passes = one;
        from_there = least.from_there;
        before = λ r low below. tested r ∙ least.before r low below;
        none = tt;
      }

-- none passes where none is found
none-found : (p : Cached → Bool) (cs : List Cached) → list_any p cs ≡ false → find p cs ≡ None
none-found p [] none = refl
none-found p (c ∷ cs) none = by (p c) none (none-found p cs)
  where
    by : (b : Bool) → (b || list_any p cs) ≡ false → (list_any p cs ≡ false → find p cs ≡ None) → cond b (Some c) (find p cs) ≡ None
    by true none more = cc
    by false none more = more none

-- what is first by its rank is the first in the list
pub first-found : (test : Cached → Bool) (es : List (ℕ × Cached)) (o : Option (ℕ × Cached)) → IsStrictlySortedBy nat_cmp (keys_of es)
    → IsFirstFrom test es 0 o → find test (values_of es) ≡ option_map (λ e. e.1) o
first-found test es None rising first = none-found test (values_of es) (none-passes test es rising (λ r. first.none r (omega arith)))
first-found test es (Some e) rising first =
    first-passes test es e.0 e.1 rising first.there first.passes (λ r below. first.before r (omega arith) below)

-- ---- one rank after another

-- what holds before the rank of a pair, or of all where there is none
abbrev pub HoldsBefore : (ℕ → Type 0) → Option (ℕ × Cached) → Type 0
HoldsBefore P None = (r : ℕ) → P r
HoldsBefore P (Some e) = (r : ℕ) → r < e.0 → P r

-- how many stand at the rank of a pair or behind it
abbrev pub ranks_left : List (ℕ × Cached) → Option (ℕ × Cached) → ℕ
ranks_left es None = 0
ranks_left es (Some e) = how_many (λ k. nat_le e.0 k) (keys_of es)

-- of what is some
pub at-some : {A : Type 0} (P : A → Type 0) (o : Option A) (x : A) → o ≡ Some x → IfSome o P → P x
at-some P o x is h = subst (λ o. IfSome o P) is h

module _ (test : Cached → Bool) (es : List (ℕ × Cached)) (from : ℕ) where
  pub holds-next : (P : ℕ → Type 0) (o : Option (ℕ × Cached)) → IsFirstFrom test es from o
      → ((r : ℕ) → r < from → P r) → ((r : ℕ) → passes_at test es r ≡ false → P r) → HoldsBefore P o
  holds-next P None first before others = λ r.
      elim (cases_lt r from) as (λ v. P r) [ inl below ↦ before r below | inr above ↦ others r (first.none r above) ]
  holds-next P (Some e) first before others = λ r less.
      elim (cases_lt r from) as (λ v. P r) [ inl below ↦ before r below | inr above ↦ others r (first.before r above less) ]

  -- that which is met passes
  pub met-there : (o : Option (ℕ × Cached)) → IsFirstFrom test es from o
      → IfSome o (λ e. (member_at es e.0 ≡ Some e.1) × (test e.1 ≡ true))
  met-there None first = tt
  met-there (Some e) first = (first.there, first.passes)

-- fewer are left behind a rank
pub fewer-left : (test : Cached → Bool) (es fs : List (ℕ × Cached)) (rank : ℕ) (x : Cached) (met next : Option (ℕ × Cached)) → met ≡ Some (rank, x)
    → member_at es rank ≡ Some x → keys_of fs ≡ keys_of es → IsFirstFrom test fs (rank + 1) next → ranks_left fs next < ranks_left es met
fewer-left test es fs rank x met next is there same first = subst (λ o. ranks_left fs next < ranks_left es o) (sym is) (by next first)
  where
    some : (a b : ℕ) → a < b → 0 < b
    some a b h = omega (arith, h)

    by : (o : Option (ℕ × Cached)) → IsFirstFrom test fs (rank + 1) o → ranks_left fs o < how_many (λ k. nat_le rank k) (keys_of es)
    by None first = some _ _ (fewer-behind es rank (rank + 1) x there (omega arith))
    by (Some e) first = let low = first.from_there in
        subst (λ ks. how_many (λ k. nat_le e.0 k) ks < how_many (λ k. nat_le rank k) (keys_of es)) (sym same)
        (fewer-behind es rank e.0 x there (omega (arith, low)))

-- ---- what is placed stays so

-- a pair comes in place of another with the same name
pub keep-line : (name : Cached → Key) (es now fs : List (ℕ × Cached)) (ps : List Place) (rank : ℕ) (x y : Cached) → es ≡ now → IsLine name es ps
    → IsStrictlySortedBy nat_cmp (keys_of fs) → Puts name rank (Some y) es fs → member_at now rank ≡ Some x → name y ≡ name x → IsLine name fs ps
keep-line name es now fs ps rank x y seen line rising put there same = record {
  rising = rising;
  placed = λ k r. line.placed k r ∙ by k r (is_rank rank r) refl ∙ sym (ap (told name k) (put r));
}
  where
    here : (k : Key) (r : ℕ) → is_rank rank r ≡ true → told name k (member_at es r) ≡ same_key k (name y)
    here k r is = ap (λ q. told name k (member_at es q)) (sym (rank-is rank r is))
        ∙ ap (told name k) (ap (λ e. member_at e rank) seen ∙ there) ∙ ap (same_key k) (sym same)

    by : (k : Key) (r : ℕ) (b : Bool) → is_rank rank r ≡ b → told name k (member_at es r) ≡ told name k (cond b (Some y) (member_at es r))
    by k r true is = here k r is
    by k r false is = refl

-- the pair at a rank has its own name
pub named-there : (name : Cached → Key) (now : List (ℕ × Cached)) (key : Key) (rank : ℕ) (x : Cached) → key ≡ name x → member_at now rank ≡ Some x
    → has_at name now key rank ≡ true
named-there name now key rank x named there = ap (told name key) there ∙ ap (λ k. same_key k (name x)) named ∙ same_key-itself (name x)

-- a rank with a pair isn't free
pub not-none : (o p : Option Cached) (x : Cached) → None ≡ o → o ≡ p → p ≡ Some x → ⊥
not-none o p x none same some = cc

-- the pair of a slot as it will be, stale or not
pub stale-once : (s : Slot) (stale : Bool) (x : Cached) → same_slot s x.slot ≡ true
    → changed_pair (Stale s stale) (record x { stale = stale }) ≡ changed_pair (Stale s stale) x
stale-once s stale x is = by (same_slot s x.slot) is
  where
    by : (b : Bool) → b ≡ true → cond b (record x { stale = stale }) (record x { stale = stale }) ≡ cond b (record x { stale = stale }) x
    by true h = refl
    by false h = cc

pub stale-stays : (s : Slot) (stale : Bool) (x : Cached) → changed_pair (Stale s stale) (record x { stale = stale }) ≡ record x { stale = stale }
stale-stays s stale x = by (same_slot s x.slot)
  where
    by : (b : Bool) → cond b (record x { stale = stale }) (record x { stale = stale }) ≡ record x { stale = stale }
    by true = refl
    by false = refl

-- and that of another slot stays
pub others-stay : (s : Slot) (stale : Bool) (es : List (ℕ × Cached)) (r : ℕ) → passes_at (λ c. same_slot s c.slot) es r ≡ false
    → option_map (changed_pair (Stale s stale)) (member_at es r) ≡ member_at es r
others-stay s stale es r none = by (member_at es r) none
  where
    by : (o : Option Cached) → option_map_or (λ (c : Cached). same_slot s c.slot) o false ≡ false → option_map (changed_pair (Stale s stale)) o ≡ o
    by None h = refl
    by (Some c) h = ap (λ b. Some (cond b (record c { stale = stale }) c)) h

-- as do those before a rank at which one becomes stale, or doesn't, with this one
pub stay-set : (s : Slot) (stale : Bool) (es fs : List (ℕ × Cached)) (rank : ℕ) (x : Cached) → fs ≡ set_value (is_rank rank) es (record x { stale = stale })
    → member_at es rank ≡ Some x → ((r : ℕ) → r < rank → option_map (changed_pair (Stale s stale)) (member_at es r) ≡ member_at es r)
    → (r : ℕ) → r < rank + 1 → option_map (changed_pair (Stale s stale)) (member_at fs r) ≡ member_at fs r
stay-set s stale es fs rank x is there before r below = by (is_rank rank r) refl
  where
    y : Cached
    y = record x { stale = stale }

    put : member_at fs r ≡ cond (is_rank rank r) (Some y) (member_at es r)
    put = ap (λ gs. member_at gs r) is
        ∙ lookup-set_value (eq_by_cmp_equiv nat_cmp_total) (is_rank rank) (λ a b h. ap (λ k. is_rank k b) (rank-is rank a h)) r y es
        (subst IsSome (sym there) (search rules))

    less : (a b : ℕ) → is_rank b a ≡ false → a < b + 1 → a < b
    less a b other h = grind (arith, nat_tests)

    by : (b : Bool) → is_rank rank r ≡ b → option_map (changed_pair (Stale s stale)) (member_at fs r) ≡ member_at fs r
    by true at =
        let now : member_at fs r ≡ Some y = put ∙ ap (λ b. cond b (Some y) (member_at es r)) at in
        ap (option_map (changed_pair (Stale s stale))) now ∙ ap Some (stale-stays s stale x) ∙ sym now
    by false at =
        let now : member_at fs r ≡ member_at es r = put ∙ ap (λ b. cond b (Some y) (member_at es r)) at in
        ap (option_map (changed_pair (Stale s stale))) now ∙ before r (less r rank at below) ∙ sym now

-- a pair that isn't stale
pub fresh-at : (s : Slot) (es : List (ℕ × Cached)) (rank : ℕ) (x : Cached) → member_at es rank ≡ Some x → x.stale ≡ false
    → ((r : ℕ) → r < rank → passes_at (λ c. same_slot s c.slot && c.stale) es r ≡ false)
    → (r : ℕ) → r < rank + 1 → passes_at (λ c. same_slot s c.slot && c.stale) es r ≡ false
fresh-at s es rank x there fresh before r below =
    elim (cases_lt r rank) as (λ v. passes_at (λ c. same_slot s c.slot && c.stale) es r ≡ false) [
      | inl less ↦ before r less
      | inr above ↦ ap (λ q. passes_at (λ c. same_slot s c.slot && c.stale) es q) (same r rank above below)
          ∙ ap (λ o. option_map_or (λ (c : Cached). same_slot s c.slot && c.stale) o false) there ∙ both (same_slot s x.slot) x.stale fresh
    ]
  where
    same : (a b : ℕ) → b ≤ a → a < b + 1 → a ≡ b
    same a b h k = omega (arith, h, k)

    both : (a b : Bool) → b ≡ false → (a && b) ≡ false
    both true b h = h
    both false b h = refl

-- a pair of another slot is no stale one of this
pub others-fresh : (s : Slot) (es : List (ℕ × Cached)) (r : ℕ) → passes_at (λ c. same_slot s c.slot) es r ≡ false
    → passes_at (λ c. same_slot s c.slot && c.stale) es r ≡ false
others-fresh s es r none = by (member_at es r) none
  where
    first : (a b : Bool) → a ≡ false → (a && b) ≡ false
    first a b h = ap (λ c. c && b) h

    by : (o : Option Cached) → option_map_or (λ (c : Cached). same_slot s c.slot) o false ≡ false
        → option_map_or (λ (c : Cached). same_slot s c.slot && c.stale) o false ≡ false
    by None h = refl
    by (Some c) h = first (same_slot s c.slot) c.stale h

-- a stale pair is one of all
pub stale-found : (s : Slot) (es : List (ℕ × Cached)) (rank : ℕ) (x : Cached) → member_at es rank ≡ Some x → same_slot s x.slot ≡ true → x.stale ≡ true
    → list_any (λ c. same_slot s c.slot && c.stale) (values_of es) ≡ true
stale-found s es rank x there of stale = some-passes (λ c. same_slot s c.slot && c.stale) es rank
    (ap (λ o. option_map_or (λ (c : Cached). same_slot s c.slot && c.stale) o false) there ∙ both (same_slot s x.slot) x.stale of stale)
  where
    both : (a b : Bool) → a ≡ true → b ≡ true → (a && b) ≡ true
    both a b h k = cc
