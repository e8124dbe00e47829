-- Places are those of the members, whoever comes or goes.
use Rattle.std.proofs.Common.{◌≡◌, ℕ, ◌<◌, Bool, true, false, cond, ◌&&◌, List, [], ◌∷◌, Option, Some, None, refl, sym, ap, subst, ◌∙◌, arith}
use Rattle.std.specs.BTreeMap.{insert_entry, is_at}
use Rattle.std.specs.Cmp.{nat_cmp_total}
use Rattle.std.specs.List.Sorted.{IsStrictlySortedBy}
use Rattle.std.specs.Map.{keys_of, set_value}
use Rattle.std.specs.Option.{IfNone, IfSome, option_map_or}
use Rattle.std.specs.Ordering.{nat_cmp, is_eq, match_ordering}
use Rattle.std.specs.declared.cmp.Ordering.{Ordering}
use Rattle.std.specs.declared.cmp.Ordering.TheVariants.{Less, Equal, Greater}
use Rattle.std.proofs.lemmas.Bool.Decides.{nat_tests}
use Rattle.std.proofs.lemmas.Map.{lookup-none}
use Rattle.std.proofs.lemmas.Map.Entries.{none_below_head}
use Rattle.std.proofs.lemmas.Map.Keys.{sorted_tail}
use Rattle.std.proofs.lemmas.Map.Lookups.{exact_unsigned}
use Rattle.std.proofs.lemmas.Map.Views.{tells_apart}
use Rattle.av_base.specs.Keys.{Key, same_key}
use Rattle.av_base.proofs.Keys.{same_key-is}
use Rattle.av_audit_queue.specs.Line.{IsLine, has_at, member_at}
use Rattle.av_audit_queue.specs.Places.{IsLeastFrom, Place, Sets, place_cmp, stands}

-- whether a query is at a rank
abbrev pub is_rank : ℕ → ℕ → Bool
is_rank rank r = is_at (nat_cmp rank) r

-- and whether at a place
abbrev pub is_place : Key → ℕ → Key → ℕ → Bool
is_place key rank k r = is_at (place_cmp (key, rank)) (k, r)

pub both-at : (key k : Key) (rank r : ℕ) → is_place key rank k r ≡ (same_key k key && is_rank rank r)
both-at key k rank r = grind (arith, nat_tests)

pub rank-is : (rank r : ℕ) → is_rank rank r ≡ true → rank ≡ r
rank-is rank r h = tells_apart exact_unsigned rank r h

module _ {T : Type 0} (name : T → Key) where
  -- whether what stands at a rank has the name
  abbrev pub told : Key → Option T → Bool
  told key o = option_map_or (λ x. same_key key (name x)) o false

  put-one : (s was : Bool) → was ≡ false → cond (s && true) true was ≡ s
  put-one true was h = refl
  put-one false was h = h

  put-other : (s was : Bool) → cond (s && false) true was ≡ was
  put-other true was = refl
  put-other false was = refl

  cut-other : (s was : Bool) → cond (s && false) false was ≡ was
  cut-other true was = refl
  cut-other false was = refl

  pub added : (x : T) (key k : Key) (rank r : ℕ) (o n : Option T) (was is : Bool) → key ≡ name x
      → n ≡ cond (is_rank rank r) (Some x) o → is ≡ cond (is_place key rank k r) true was → was ≡ told k o
      → (is_rank rank r ≡ true → o ≡ None) → is ≡ told k n
  added x key k rank r o n was is named put puts stands free =
      puts ∙ ap (λ b. cond b true was) (both-at key k rank r) ∙ by (is_rank rank r) free ∙ sym (ap (told k) put)
    where
      by : (b : Bool) → (b ≡ true → o ≡ None) → cond (same_key k key && b) true was ≡ told k (cond b (Some x) o)
      by true free = put-one (same_key k key) was (stands ∙ ap (told k) (free refl)) ∙ ap (same_key k) named
      by false free = put-other (same_key k key) was ∙ stands

  other-name : (key k : Key) (o : Option T) → told key o ≡ true → same_key k key ≡ false → told k o ≡ false
  other-name key k None h other = refl
  other-name key k (Some x) h other = sym (ap (same_key k) (same_key-is key (name x) h)) ∙ other

  pub taken : (key k : Key) (rank r : ℕ) (o n : Option T) (was is : Bool)
      → n ≡ cond (is_rank rank r) None o → is ≡ cond (is_place key rank k r) false was → was ≡ told k o
      → (is_rank rank r ≡ true → told key o ≡ true) → is ≡ told k n
  taken key k rank r o n was is cut cuts stands there =
      cuts ∙ ap (λ b. cond b false was) (both-at key k rank r) ∙ by (is_rank rank r) there ∙ sym (ap (told k) cut)
    where
      one : (s : Bool) → same_key k key ≡ s → told key o ≡ true → cond (s && true) false was ≡ false
      one true e t = refl
      one false e t = stands ∙ other-name key k o t e

      by : (b : Bool) → (b ≡ true → told key o ≡ true) → cond (same_key k key && b) false was ≡ told k (cond b None o)
      by true there = one (same_key k key) refl (there refl)
      by false there = cut-other (same_key k key) was ∙ stands

  pub undone : (key k : Key) (rank r : ℕ) (o : Option T) (was mid is : Bool)
      → mid ≡ cond (is_place key rank k r) true was → is ≡ cond (is_place key rank k r) false mid → was ≡ told k o
      → (is_rank rank r ≡ true → o ≡ None) → is ≡ told k o
  undone key k rank r o was mid is puts cuts stands free =
      cuts ∙ ap (cond (is_place key rank k r) false) puts
      ∙ ap (λ b. cond b false (cond b true was)) (both-at key k rank r) ∙ by (is_rank rank r) (same_key k key) free
    where
      by : (b s : Bool) → (b ≡ true → o ≡ None) → cond (s && b) false (cond (s && b) true was) ≡ told k o
      by true true free = sym (ap (told k) (free refl))
      by true false free = stands
      by false true free = stands
      by false false free = stands

  pub changed : (x : T) (key new k : Key) (rank r : ℕ) (o n : Option T) (was mid is : Bool) → new ≡ name x → (name x ≡ key → ⊥)
      → n ≡ cond (is_rank rank r) (Some x) o → mid ≡ cond (is_place new rank k r) true was → is ≡ cond (is_place key rank k r) false mid
      → was ≡ told k o → (is_rank rank r ≡ true → told key o ≡ true) → is ≡ told k n
  changed x key new k rank r o n was mid is named other put puts cuts stands there =
      cuts ∙ ap (cond (is_place key rank k r) false) puts
      ∙ swap (is_place key rank k r) (is_place new rank k r) apart
      ∙ added x new k rank r (cond (is_rank rank r) None o) n (cond (is_place key rank k r) false was) _ named
      (put ∙ twice (is_rank rank r)) refl
      (taken key k rank r o _ was _ refl refl stands there)
      (none (is_rank rank r))
    where
      swap : (a b : Bool) → (a ≡ true → b ≡ true → ⊥) → cond a false (cond b true was) ≡ cond b true (cond a false was)
      swap true true h = absurd (h refl refl)
      swap true false h = refl
      swap false b h = refl

      twice : (b : Bool) → cond b (Some x) o ≡ cond b (Some x) (cond b None o)
      twice true = refl
      twice false = refl

      none : (b : Bool) → b ≡ true → cond b None o ≡ None
      none true h = refl
      none false h = cc

      left : (a b : Bool) → (a && b) ≡ true → a ≡ true
      left true b h = refl
      left false b h = cc

      apart : is_place key rank k r ≡ true → is_place new rank k r ≡ true → ⊥
      apart a b =
          let one = same_key-is k key (left _ _ (sym (both-at key k rank r) ∙ a)) in
          let two = same_key-is k new (left _ _ (sym (both-at new k rank r) ∙ b)) in
          other (sym named ∙ sym two ∙ one)

  -- ---- the line

  abbrev pub Puts : ℕ → Option T → List (ℕ × T) → List (ℕ × T) → Type 0
  Puts rank o es fs = (r : ℕ) → member_at fs r ≡ cond (is_rank rank r) o (member_at es r)

  free-at : (es : List (ℕ × T)) (rank r : ℕ) → member_at es rank ≡ None → is_rank rank r ≡ true → member_at es r ≡ None
  free-at es rank r free h = ap (member_at es) (sym (rank-is rank r h)) ∙ free

  there-at : (es : List (ℕ × T)) (key : Key) (rank r : ℕ) → has_at name es key rank ≡ true → is_rank rank r ≡ true
      → told key (member_at es r) ≡ true
  there-at es key rank r there h = ap (λ q. told key (member_at es q)) (sym (rank-is rank r h)) ∙ there

  pub add-line : (es now fs : List (ℕ × T)) (ps qs : List Place) (x : T) (key : Key) (rank : ℕ) → es ≡ now → IsLine name es ps → key ≡ name x
      → IsStrictlySortedBy nat_cmp (keys_of fs) → Puts rank (Some x) es fs → Sets key rank true ps qs → member_at now rank ≡ None → IsLine name fs qs
  add-line es now fs ps qs x key rank seen line named rising put puts free = record {
    rising = rising;
    placed = λ k r. added x key k rank r (member_at es r) (member_at fs r) (stands ps k r) (stands qs k r) named
        (put r) (puts k r) (line.placed k r) (free-at es rank r (ap (λ e. member_at e rank) seen ∙ free));
  }

  pub undo-line : (es now fs : List (ℕ × T)) (ps ms qs : List Place) (key : Key) (rank : ℕ) → es ≡ now → IsLine name es ps → fs ≡ es
      → Sets key rank true ps ms → Sets key rank false ms qs → member_at now rank ≡ None → IsLine name fs qs
  undo-line es now fs ps ms qs key rank seen line same puts cuts free = subst (λ gs. IsLine name gs qs) (sym same) (record {
    rising = line.rising;
    placed = λ k r. undone key k rank r (member_at es r) (stands ps k r) (stands ms k r) (stands qs k r)
        (puts k r) (cuts k r) (line.placed k r) (free-at es rank r (ap (λ e. member_at e rank) seen ∙ free));
  })

  pub take-line : (es now fs : List (ℕ × T)) (ps qs : List Place) (key : Key) (rank : ℕ) → es ≡ now → IsLine name es ps
      → IsStrictlySortedBy nat_cmp (keys_of fs) → Puts rank None es fs → Sets key rank false ps qs → has_at name now key rank ≡ true → IsLine name fs qs
  take-line es now fs ps qs key rank seen line rising cut cuts there = record {
    rising = rising;
    placed = λ k r. taken key k rank r (member_at es r) (member_at fs r) (stands ps k r) (stands qs k r)
        (cut r) (cuts k r) (line.placed k r) (there-at es key rank r (ap (λ e. has_at name e key rank) seen ∙ there));
  }

  pub set-line : (es now fs : List (ℕ × T)) (ps ms qs : List Place) (x : T) (key new : Key) (rank : ℕ) → es ≡ now → IsLine name es ps
      → new ≡ name x → (name x ≡ key → ⊥) → IsStrictlySortedBy nat_cmp (keys_of fs) → Puts rank (Some x) es fs
      → Sets new rank true ps ms → Sets key rank false ms qs → has_at name now key rank ≡ true → IsLine name fs qs
  set-line es now fs ps ms qs x key new rank seen line named other rising put puts cuts there = record {
    rising = rising;
    placed = λ k r. changed x key new k rank r (member_at es r) (member_at fs r) (stands ps k r) (stands ms k r)
        (stands qs k r) named other (put r) (puts k r) (cuts k r) (line.placed k r)
        (there-at es key rank r (ap (λ e. has_at name e key rank) seen ∙ there));
  }

  -- ---- the least rank of a name

  module _ (es now : List (ℕ × T)) (ps : List Place) (seen : es ≡ now) (line : IsLine name es ps) (key : Key) where
    pub seen-at : (r : ℕ) → stands ps key r ≡ has_at name now key r
    seen-at r = line.placed key r ∙ ap (λ e. has_at name e key r) seen

    pub least-there : (o : Option ℕ) → IsLeastFrom ps key 0 o → IfSome o (λ rank. has_at name now key rank ≡ true)
    least-there None least = tt
    least-there (Some rank) least = sym (seen-at rank) ∙ least.there

    pub least-before : (o : Option ℕ) → IsLeastFrom ps key 0 o → IfSome o (λ rank. (r : ℕ) → r < rank → has_at name now key r ≡ false)
    least-before None least = tt
    least-before (Some rank) least = λ r below. sym (seen-at r) ∙ least.before r (omega arith) below

    pub least-none : (o : Option ℕ) → IsLeastFrom ps key 0 o → IfNone o ((r : ℕ) → has_at name now key r ≡ false)
    least-none None least = λ r. sym (seen-at r) ∙ least.none r (omega arith)
    least-none (Some rank) least = tt

-- ---- what a member changes that stands where another did

insert-by : {T : Type 0} (es : List (ℕ × T)) (rank : ℕ) (x : T) → IsStrictlySortedBy nat_cmp (keys_of es) → (member_at es rank ≡ None → ⊥)
    → insert_entry nat_cmp es rank x ≡ set_value (is_rank rank) es x
insert-by [] rank x rising there = absurd (there refl)
insert-by {T} (e ∷ es) rank x rising there =
    by (nat_cmp rank e.0) refl (λ h. ap (λ o. cond (is_eq o) (Some e.1) (member_at es rank)) h)
    (insert-by es rank x (sorted_tail nat_cmp e.0 (keys_of es) rising))
  where
    no-less : nat_cmp rank e.0 ≡ Less → ⊥
    no-less h = there (lookup-none (is_rank rank) (e ∷ es) (none_below_head nat_cmp_total rank e es rising h))

    by : (o : Ordering) → nat_cmp rank e.0 ≡ o
        → (nat_cmp rank e.0 ≡ Greater → member_at (e ∷ es) rank ≡ member_at es rank)
        → ((member_at es rank ≡ None → ⊥) → insert_entry nat_cmp es rank x ≡ set_value (is_rank rank) es x)
        → match_ordering o ((rank, x) ∷ e ∷ es) ((e.0, x) ∷ es) (e ∷ insert_entry nat_cmp es rank x)
        ≡ cond (is_eq o) ((e.0, x) ∷ es) (e ∷ set_value (is_rank rank) es x)
    by Less is past more = absurd (no-less is)
    by Equal is past more = refl
    by Greater is past more = ap (λ fs. e ∷ fs) (more (λ none. there (past is ∙ none)))

-- where a member with the name stands
pub insert-is : {T : Type 0} (name : T → Key) (es now fs : List (ℕ × T)) (key : Key) (rank : ℕ) (x : T) → es ≡ now
    → IsStrictlySortedBy nat_cmp (keys_of es) → has_at name now key rank ≡ true → fs ≡ insert_entry nat_cmp es rank x
    → fs ≡ set_value (is_rank rank) now x
insert-is {T} name es now fs key rank x seen rising there is =
    is ∙ insert-by es rank x rising (λ none. clash (sym (ap (told name key) (ap (λ gs. member_at gs rank) (sym seen) ∙ none)) ∙ there))
    ∙ ap (λ gs. set_value (is_rank rank) gs x) seen
  where
    clash : false ≡ true → ⊥
    clash h = cc
