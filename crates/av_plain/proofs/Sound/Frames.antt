-- Soundness after pages with equal bytes have come to share frames, and after the frames in use have become the lowest.
use Rattle.std.proofs.Common.{◌≡◌, ◌⊎◌, inl, inr, ℕ, zero, suc, ◌+◌, ◌<◌, ◌≤◌, Bool, true, false, cond, not, ◌&&◌, ◌||◌, nat_lt, List, [], ◌∷◌, ◌++◌, map, reverse, Option, Some, None, is_some, is_none, refl, sym, ap, subst, ◌∙◌, arith, ◌==◌}
use Rattle.std.proofs.lemmas.Bool.Decides.{nat_tests}
use Rattle.std.specs.List.{find, list_all, list_any, range_with_len}
use Rattle.av_base.specs.Keys.{Key}
use Rattle.av_base.specs.Page.{address_of, page_size}
use Rattle.av_base.specs.declared.slot.Slot.{Slot}
use Rattle.av_trace.specs.declared.note.Note.{Note}
use Rattle.av_trace.specs.declared.note.Note.TheVariants.{Joined, Moved, Shared}
use Rattle.av_trace.specs.declared.reply.Answer.{Answer}
use Rattle.av_trace.specs.declared.row.Row.{Row}
use Rattle.av_plain.specs.Compact.{Compacts, MovesDown, greatest_used, least_free, move_down, next_move}
use Rattle.av_plain.specs.Event.{Event, FreeSorted, after_all, after_note, after_notes, change_frame, note_events, set_entry}
use Rattle.av_plain.specs.Fault.{is_locked}
use Rattle.av_plain.specs.Ledger.{Entry, InFrame, InSlot, Ledger, Setting, Zero, entry, is_free, is_merged, map_count, names_frame, slot_of}
use Rattle.av_plain.specs.Merge.{FrameBytes, Merges, candidate, candidate_by, hold_same, join_notes, may_merge, merge_notes, merged_like, merges, other_like, with_candidate}
use Rattle.av_plain.specs.Sound.{AllSound, IsSound, holders, mergings, no_excuse, uses}
use Rattle.av_plain.specs.World.{World, pages}
use Rattle.av_plain.proofs.Access.{after_all-append, after_notes-append, note_events-all}
use Rattle.av_plain.proofs.Event.{changed-by}
use Rattle.av_plain.proofs.Ledger.{how_many-append, how_many-found}
use Rattle.av_plain.proofs.Ledger.NoSwap.{key_at-address}
use Rattle.av_plain.proofs.Sound.Changes.{any-counts, free-is, mergings-off_lists}
use Rattle.av_plain.proofs.Sound.Counts.{same-is, same-itself, same-turned, slot_of-none}
use Rattle.av_plain.proofs.Sound.Entries.{flag}
use Rattle.av_plain.proofs.Sound.Pages.{AllBring, at_page}
use Rattle.av_plain.proofs.Sound.Sharing.{joined-kept, maps-now, renamed-kept, shared-kept}
use Rattle.av_plain.proofs.Sound.Swap.{Holds, noted-sound, notes-hold, of-sound, to-sound}
use Rattle.av_plain.proofs.Sound.There.{AreLawful, IsLawful, lawful-append}
use Rattle.av_plain.specs.Event.{off_lists, settle_entry}

pub is-positive : (n : ℕ) → 0 < n → nat_lt 0 n ≡ true
is-positive n h = grind (arith, nat_tests, h)

pub positive : (n : ℕ) → nat_lt 0 n ≡ true → 0 < n
positive n e = grind (arith, nat_tests, e)

-- ---- what is found in a list

-- it is in the list, and passes
pub found-is : (p : ℕ → Bool) (xs : List ℕ) (y : ℕ) → find p xs ≡ Some y → (p y ≡ true) × (list_any (λ x. y == x) xs ≡ true)
found-is p [] y h = cc
found-is p (x ∷ xs) y h = by (found-is p xs y) (p x) refl h
  where
    by : (find p xs ≡ Some y → (p y ≡ true) × (list_any (λ x. y == x) xs ≡ true)) → (b : Bool) → p x ≡ b → cond b (Some x) (find p xs) ≡ Some y
        → (p y ≡ true) × ((y == x || list_any (λ x. y == x) xs) ≡ true)
    by again true is e = let same : x ≡ y = cc in (
      subst (λ z. p z ≡ true) same is,
      ap (λ b. b || list_any (λ x. y == x) xs)
          (ap (λ z. y == z) same ∙ same-itself y),
    )
    by again false is e = let r = again e in (r.0, right (y == x) _ r.1)
      where
        right : (a b : Bool) → b ≡ true → (a || b) ≡ true
        right true b h = refl
        right false b h = h

-- or nothing passes
pub found-none : (p : ℕ → Bool) (xs : List ℕ) → find p xs ≡ None → (y : ℕ) → list_any (λ x. y == x) xs ≡ true → p y ≡ false
found-none p [] h y i = cc
found-none p (x ∷ xs) h y i = by (λ e. found-none p xs e y) (p x) refl h
  where
    by : (find p xs ≡ None → list_any (λ x. y == x) xs ≡ true → p y ≡ false) → (b : Bool) → p x ≡ b → cond b (Some x) (find p xs) ≡ None
        → p y ≡ false
    by again true is e = cc
    by again false is e = here (y == x) refl i
      where
        here : (c : Bool) → (y == x) ≡ c → (c || list_any (λ x. y == x) xs) ≡ true → p y ≡ false
        here true at k = subst (λ z. p z ≡ false) (sym (same-is y x at)) is
        here false at k = again e k

-- the numbers below n are in the range
pub in_range-is : (a n y : ℕ) → a ≤ y → y < a + n → list_any (λ x. y == x) (range_with_len a n) ≡ true
in_range-is a zero y low high = absurd (omega (arith, low, high))
in_range-is a (suc n) y low high = by (in_range-is (a + 1) n y) (y == a) refl
  where
    by : (a + 1 ≤ y → y < (a + 1) + n → list_any (λ x. y == x) (range_with_len (a + 1) n) ≡ true) → (b : Bool) → (y == a) ≡ b
        → (b || list_any (λ x. y == x) (range_with_len (a + 1) n)) ≡ true
    by again true is = refl
    by again false is = again (grind (arith, nat_tests, is, low)) (omega (arith, high))

-- ---- frames that hold the same

all-then : (held : FrameBytes) (f g h : ℕ) (is : List ℕ) → list_all (λ i. held f i == held g i) is ≡ true
    → list_all (λ i. held g i == held h i) is ≡ true → list_all (λ i. held f i == held h i) is ≡ true
all-then held f g h [] a b = refl
all-then held f g h (i ∷ is) a b =
    let x = left (held f i == held g i) _ a in
    let y = left (held g i == held h i) _ b in
    (λ j. both x.0 y.0 j && all-then held f g h is x.1 y.1 j)
  where
    left : (a b : Bool) → (a && b) ≡ true → (a ≡ true) × (b ≡ true)
    left true b h = (refl, h)
    left false b h = cc

    both : (held f i == held g i) ≡ true → (held g i == held h i) ≡ true → (held f i == held h i) ≡ true
    both a b = grind (arith, nat_tests, a, b)

pub same-then : (held : FrameBytes) (f g h : ℕ) → hold_same held f g ≡ true → hold_same held g h ≡ true → hold_same held f h ≡ true
same-then held f g h a b = all-then held f g h (range_with_len 0 page_size) a b

all-itself : (held : FrameBytes) (f : ℕ) (is : List ℕ) → list_all (λ i. held f i == held f i) is ≡ true
all-itself held f [] = refl
all-itself held f (i ∷ is) = (λ j. same-itself (held f i) j && all-itself held f is j)

pub holds-itself : (held : FrameBytes) (f : ℕ) → hold_same held f f ≡ true
holds-itself held f = all-itself held f (range_with_len 0 page_size)

-- ---- a candidate

pub record IsCandidate (w : World) (l : Ledger) (k : Key) (f : ℕ) : Type 0 where
  pub seen : Bool
  pub names : entry l k ≡ Some (InFrame f seen)
  pub may : may_merge (pages w k.0 k.1) ≡ true
  pub unmerged : mergings l f ≡ 0
  pub out : holders l f ≡ 0
  pub unlocked : is_locked w l f ≡ false

pub candidate-is : (w : World) (l : Ledger) (k : Key) (f : ℕ) → candidate w l k ≡ Some f → IsCandidate w l k f
candidate-is w l k f h = by (entry l k) refl h
  where
    tests : (a b c d : Bool) → (a && not b && c && not d) ≡ true → (a ≡ true) × (b ≡ false) × (c ≡ true) × (d ≡ false)
    tests true false true false h = (refl, refl, refl, refl)
    tests true false true true h = cc
    tests true false false d h = cc
    tests true true c d h = cc
    tests false b c d h = cc

    none : (o : Option Slot) → is_none o ≡ true → o ≡ None
    none None h = refl
    none (Some t) h = cc

    not_any : (n : ℕ) → nat_lt 0 n ≡ false → n ≡ 0
    not_any n e = grind (arith, nat_tests, e)

    tested : (g : ℕ) (seen : Bool) → entry l k ≡ Some (InFrame g seen) → (b : Bool)
        → (may_merge (pages w k.0 k.1) && not (is_merged l g) && is_none (slot_of l g) && not (is_locked w l g)) ≡ b
        → cond b (Some g) None ≡ Some f → IsCandidate w l k f
    tested g seen at true is e =
        let same : g ≡ f = cc in
        let t = tests (may_merge (pages w k.0 k.1)) (is_merged l g) (is_none (slot_of l g)) (is_locked w l g) is in
        subst (IsCandidate w l k) same (record {
          seen = seen;
          names = at;
          may = t.0;
          unmerged = not_any _ (sym (any-counts (λ y. g == y) l.merged) ∙ t.1);
          out = slot_of-none g l.cache (none (slot_of l g) t.2);
          unlocked = t.3;
        })
    tested g seen at false is e = cc

    by : (o : Option Entry) → entry l k ≡ o → candidate_by w l k o ≡ Some f → IsCandidate w l k f
    by None at e = cc
    by (Some Zero) at e = cc
    by (Some (InSlot t)) at e = cc
    by (Some (InFrame g seen)) at e = tested g seen at
        (may_merge (pages w k.0 k.1) && not (is_merged l g) && is_none (slot_of l g) && not (is_locked w l g)) refl e

-- ---- a page joins a frame

-- a merged frame that holds the same
pub record IsLike (held : FrameBytes) (l : Ledger) (h : ℕ) : Type 0 where
  pub frame : ℕ
  pub merged : 0 < mergings l frame
  pub same : hold_same held frame h ≡ true

-- a frame that may be merged
pub record IsWaiting (l : Ledger) (h : ℕ) : Type 0 where
  pub named : 0 < map_count l h
  pub out : holders l h ≡ 0
  pub unmerged : mergings l h ≡ 0

-- of the candidates before: a merged frame holds the same, or else theirs may be merged
abbrev pub AreBefore : FrameBytes → Ledger → List ℕ → Type 0
AreBefore held l earlier = (h : ℕ) → list_any (λ x. h == x) earlier ≡ true → IsLike held l h ⊎ IsWaiting l h

-- a merged frame stays so, where the frame that is left isn't merged
pub merged-joined : (l : Ledger) (k : Key) (f g : ℕ) (seen : Bool) → entry l k ≡ Some (InFrame g seen) → mergings l g ≡ 0 → (j : ℕ)
    → mergings (change_frame k f l) j ≡ mergings l j
merged-joined l k f g seen at unmerged j =
    ap (λ o. mergings (settle_of o) j) at ∙ by (is_free (set_entry k (InFrame f false) l) g)
  where
    settle_of : Option Entry → Ledger
    settle_of o = settle_entry o (set_entry k (InFrame f false) l)

    same : (b : Bool) → (j == g) ≡ b → cond b 0 (mergings l j) ≡ mergings l j
    same true is = sym (ap (mergings l) (same-is j g is) ∙ unmerged)
    same false is = refl

    by : (b : Bool) → mergings (cond b (off_lists g (set_entry k (InFrame f false) l)) (set_entry k (InFrame f false) l)) j ≡ mergings l j
    by true = mergings-off_lists g j (set_entry k (InFrame f false) l) ∙ same (j == g) refl
    by false = refl

-- what a join keeps
pub record IsJoined (m : Setting) (held : FrameBytes) (l : Ledger) (g : ℕ) (earlier : List ℕ) (l' : Ledger) : Type 0 where
  pub sound : IsSound m l'
  pub before : AreBefore held l' (earlier ++ g ∷ [])

any-append : (h : ℕ) (xs : List ℕ) (g : ℕ) → list_any (λ x. h == x) (xs ++ g ∷ []) ≡ true → (list_any (λ x. h == x) xs ≡ true) ⊎ ((h == g) ≡ true)
any-append h [] g e = inr (last (h == g) e)
  where
    last : (b : Bool) → (b || false) ≡ true → b ≡ true
    last true e = refl
    last false e = e
any-append h (x ∷ xs) g e = by (any-append h xs g) (h == x) e
  where
    by : (list_any (λ x. h == x) (xs ++ g ∷ []) ≡ true → (list_any (λ x. h == x) xs ≡ true) ⊎ ((h == g) ≡ true)) → (b : Bool)
        → (b || list_any (λ x. h == x) (xs ++ g ∷ [])) ≡ true → ((b || list_any (λ x. h == x) xs) ≡ true) ⊎ ((h == g) ≡ true)
    by again true e = inl refl
    by again false e = again e

pub join-kept : (m : Setting) (held : FrameBytes) (w : World) (l : Ledger) (k : Key) (f g : ℕ) (earlier : List ℕ) → IsSound m l → IsCandidate w l k g
    → 0 < mergings l f → hold_same held f g ≡ true → AreBefore held l earlier → IsJoined m held l g earlier (change_frame k f l)
join-kept m held w l k f g earlier s c merged same before = record {
  sound = joined-kept m no_excuse l k f g c.seen s c.names apart merged c.unmerged c.out;
  before = λ h in_list. by h (any-append h earlier g in_list);
}
  where
    apart : (f == g) ≡ false
    apart = by (f == g) refl
      where
        by : (b : Bool) → (f == g) ≡ b → b ≡ false
        by true is = let z = ap (mergings l) (same-is f g is) ∙ c.unmerged in absurd (omega (arith, z, merged))
        by false is = refl

    here : IsLike held (change_frame k f l) g
    here = record { frame = f; merged = (let e = merged-joined l k f g c.seen c.names c.unmerged f in omega (arith, e, merged)); same = same }

    still : (h : ℕ) → (h == g) ≡ false → IsWaiting l h → IsWaiting (change_frame k f l) h
    still h other u = record {
      named = (let e = changed-by (λ l. map_count l h) (λ j l. refl) k f l in
          let a = maps-now m no_excuse l k f g c.seen s c.names apart h in
          let d = flag _ _ other in let n = u.named in omega (arith, e, a, d, n));
      out = changed-by (λ l. holders l h) (λ j l. refl) k f l ∙ u.out;
      unmerged = merged-joined l k f g c.seen c.names c.unmerged h ∙ u.unmerged;
    }

    old : (h : ℕ) → IsLike held l h ⊎ IsWaiting l h → (b : Bool) → (h == g) ≡ b → IsLike held (change_frame k f l) h ⊎ IsWaiting (change_frame k f l) h
    old h (inl x) b is = inl (record {
      frame = x.frame;
      merged = (let e = merged-joined l k f g c.seen c.names c.unmerged x.frame in let n = x.merged in omega (arith, e, n));
      same = x.same;
    })
    old h (inr u) true is = inl (subst (IsLike held (change_frame k f l)) (sym (same-is h g is)) here)
    old h (inr u) false is = inr (still h is u)

    by : (h : ℕ) → (list_any (λ x. h == x) earlier ≡ true) ⊎ ((h == g) ≡ true) → IsLike held (change_frame k f l) h ⊎ IsWaiting (change_frame k f l) h
    by h (inl i) = old h (before h i) (h == g) refl
    by h (inr is) = inl (subst (IsLike held (change_frame k f l)) (sym (same-is h g is)) here)

-- a waiting frame is merged
shared-before : (held : FrameBytes) (l : Ledger) (f : ℕ) (earlier : List ℕ) → AreBefore held l earlier
    → AreBefore held (after_note (Shared f) l) earlier
shared-before held l f earlier before h in_list = by (before h in_list) (h == f) refl
  where
    more : (g : ℕ) → mergings (after_note (Shared f) l) g ≡ mergings l g + (cond (g == f) 1 0 + 0)
    more g = how_many-append (λ y. g == y) l.merged (f ∷ [])

    by : IsLike held l h ⊎ IsWaiting l h → (b : Bool) → (h == f) ≡ b → IsLike held (after_note (Shared f) l) h ⊎ IsWaiting (after_note (Shared f) l) h
    by (inl x) b is = inl (record {
      frame = x.frame;
      merged = (let e = more x.frame in let n = x.merged in omega (arith, e, n));
      same = x.same;
    })
    by (inr u) true is = inl (record {
      frame = h;
      merged = (let e = more h in let d = flag _ _ is in omega (arith, e, d));
      same = holds-itself held h;
    })
    by (inr u) false is = inr (record {
      named = u.named;
      out = u.out;
      unmerged = (let e = more h in let d = flag _ _ is in let z = u.unmerged in omega (arith, e, d, z));
    })

pub split : (a b : Bool) → (a && b) ≡ true → (a ≡ true) × (b ≡ true)
split true b h = (refl, h)
split false b h = cc

-- the frame of an earlier candidate, where no merged one holds the same
pub record IsOther (held : FrameBytes) (l : Ledger) (f j : ℕ) : Type 0 where
  pub waits : IsWaiting l j
  pub apart : (j == f) ≡ false
  pub same : hold_same held j f ≡ true

pub other-waits : (m : Setting) (held : FrameBytes) (l : Ledger) (f j : ℕ) (earlier : List ℕ) → IsSound m l → AreBefore held l earlier
    → merged_like m held l f ≡ None → other_like held earlier f ≡ Some j → IsOther held l f j
other-waits m held l f j earlier s before none is =
    let found = found-is (λ h. not (h == f) && hold_same held h f) earlier j is in
    let tests = split (not (j == f)) (hold_same held j f) found.0 in
    record { waits = waiting tests.1 (before j found.1); apart = other (j == f) refl tests.0; same = tests.1 }
  where
    not_like : hold_same held j f ≡ true → IsLike held l j → ⊥
    not_like same x =
        let below : x.frame < m.frames = s.in_range x.frame (let n = s.merged x.frame in let p = x.merged in omega (arith, n, p)) in
        let fails = found-none (λ g. is_merged l g && hold_same held g f) (range_with_len 0 m.frames) none x.frame
        (in_range-is 0 m.frames x.frame (omega arith) (omega (arith, below))) in
        let is : is_merged l x.frame ≡ true = any-counts (λ y. x.frame == y) l.merged ∙ is-positive (mergings l x.frame) x.merged in
        let holds = same-then held x.frame j f x.same same in
        no (is_merged l x.frame) (hold_same held x.frame f) is holds fails
      where
        no : (a b : Bool) → a ≡ true → b ≡ true → (a && b) ≡ false → ⊥
        no true true a b e = cc
        no true false a b e = cc
        no false b a c e = cc

    waiting : hold_same held j f ≡ true → IsLike held l j ⊎ IsWaiting l j → IsWaiting l j
    waiting same (inl x) = absurd (not_like same x)
    waiting same (inr u) = u

    other : (b : Bool) → (j == f) ≡ b → not b ≡ true → b ≡ false
    other true is e = cc
    other false is e = refl

-- ---- a page in its turn

module _ (m : Setting) (held : FrameBytes) (w : World) where
  pub record Turned (l : Ledger) (earlier : List ℕ) (l' : Ledger) : Type 0 where
    pub holds : Holds m w l'
    pub before : AreBefore held l' earlier

  bring-join : (k : Key) (a b : Option ℕ) → at_page w k ≡ true → AllBring (at_page w) (join_notes k a b)
  bring-join k (Some g) b at = (ap (at_page w) (key_at-address k) ∙ at, tt)
  bring-join k None (Some h) at = (tt, (ap (at_page w) (key_at-address k) ∙ at, tt))
  bring-join k None None at = tt

  lawful-join : (l : Ledger) (k : Key) (a b : Option ℕ) → AreLawful m None l (join_notes k a b)
  lawful-join l k (Some g) b = (tt, tt)
  lawful-join l k None (Some h) = (tt, (tt, tt))
  lawful-join l k None None = tt

  -- the candidate's own frame waits, where none is found for it
  waits : (l : Ledger) (k : Key) (f : ℕ) (earlier : List ℕ) → IsCandidate w l k f → AreBefore held l earlier → AreBefore held l (earlier ++ f ∷ [])
  waits l k f earlier c before h in_list = by (any-append h earlier f in_list)
    where
      here : IsWaiting l f
      here = record {
        named = how_many-found (names_frame f) k l.entries (InFrame f c.seen) c.names (same-itself f);
        out = c.out;
        unmerged = c.unmerged;
      }

      by : (list_any (λ x. h == x) earlier ≡ true) ⊎ ((h == f) ≡ true) → IsLike held l h ⊎ IsWaiting l h
      by (inl i) = before h i
      by (inr is) = inr (subst (IsWaiting l) (sym (same-is h f is)) here)

  turn : (l : Ledger) (k : Key) (f : ℕ) (earlier : List ℕ) → Holds m w l → IsCandidate w l k f → AreBefore held l earlier
      → IsJoined m held l f earlier (after_notes l (merge_notes m held l earlier k (Some f)))
  turn l k f earlier h c before = by (merged_like m held l f) refl (other_like held earlier f) refl
    where
      joins : (l : Ledger) (j : ℕ) (earlier : List ℕ) (l' : Ledger) → IsJoined m held l f earlier (change_frame k j l')
          → IsJoined m held l f earlier (after_note (Joined k.0 (address_of k.1) j) l')
      joins l j earlier l' x = subst (λ q. IsJoined m held l f earlier (change_frame q j l')) (sym (key_at-address k)) x

      shares : (j : ℕ) → merged_like m held l f ≡ None → other_like held earlier f ≡ Some j
          → IsJoined m held l f earlier (after_notes l (join_notes k None (Some j)))
      shares j none is = waiting (other-waits m held l f j earlier h.sound before none is)
        where
          waiting : IsOther held l f j → IsJoined m held l f earlier (after_notes l (join_notes k None (Some j)))
          waiting o =
              let u = o.waits in
              let l1 = after_note (Shared j) l in
              let more : (g : ℕ) → mergings (after_note (Shared j) l) g ≡ mergings l g + (cond (g == j) 1 0 + 0) =
              λ g. how_many-append (λ y. g == y) l.merged (j ∷ []) in
              let s1 = shared-kept m no_excuse l j h.sound u.named u.out u.unmerged in
              let c1 : IsCandidate w (after_note (Shared j) l) k f = record {
                seen = c.seen;
                names = c.names;
                may = c.may;
                unmerged = (let e = more f in let d = flag _ _ (same-turned f j ∙ o.apart) in let z = c.unmerged in omega (arith, e, d, z));
                out = c.out;
                unlocked = c.unlocked;
              } in
              let x = join-kept m held w (after_note (Shared j) l) k j f earlier s1 c1
              (let e = more j in let d = flag _ _ (same-itself j) in omega (arith, e, d)) o.same (shared-before held l j earlier before) in
              joins l j earlier (after_note (Shared j) l) (record { sound = x.sound; before = x.before })

      by : (a : Option ℕ) → merged_like m held l f ≡ a → (b : Option ℕ) → other_like held earlier f ≡ b
          → IsJoined m held l f earlier (after_notes l (join_notes k a b))
      by (Some g) is b is' =
          let found = found-is (λ g. is_merged l g && hold_same held g f) (range_with_len 0 m.frames) g is in
          let tests = split (is_merged l g) (hold_same held g f) found.0 in
          joins l g earlier l (join-kept m held w l k g f earlier h.sound c
          (positive _ (sym (any-counts (λ y. g == y) l.merged) ∙ tests.0)) tests.1 before)
      by None is (Some j) is' = shares j is is'
      by None is None is' = record { sound = h.sound; before = waits l k f earlier c before }

  pub turned : (l : Ledger) (k : Key) (earlier : List ℕ) → Holds m w l → AreBefore held l earlier
      → Turned l (with_candidate earlier (candidate w l k)) (after_notes l (merge_notes m held l earlier k (candidate w l k)))
  turned l k earlier h before = by (candidate w l k) refl
    where
      some : (o : Option Entry) {e : Entry} → o ≡ Some e → is_some o ≡ true
      some o e = ap is_some e

      by : (o : Option ℕ) → candidate w l k ≡ o → Turned l (with_candidate earlier o) (after_notes l (merge_notes m held l earlier k o))
      by None is = record { holds = h; before = before }
      by (Some f) is =
          let c = candidate-is w l k f is in
          let x = turn l k f earlier h c before in
          record {
            holds = notes-hold m w None l (merge_notes m held l earlier k (Some f)) h x.sound
                (bring-join k (merged_like m held l f) (other_like held earlier f) (h.at k (some (entry l k) c.names)))
                (lawful-join l k (merged_like m held l f) (other_like held earlier f));
            before = x.before;
          }

  pub merges-hold : (l : Ledger) (earlier : List ℕ) (ks : List Key) → Holds m w l → AreBefore held l earlier
      → Holds m w (after_notes l (merges m held w l earlier ks))
  merges-hold l earlier [] h before = h
  merges-hold l earlier (k ∷ ks) h before =
      let here = merge_notes m held l earlier k (candidate w l k) in
      let x = turned l k earlier h before in
      subst (Holds m w) (sym (after_notes-append l here (merges m held w (after_notes l here) (with_candidate earlier (candidate w l k)) ks)))
      (merges-hold (after_notes l here) (with_candidate earlier (candidate w l k)) ks x.holds x.before)

-- none of the notes takes a slot or a page from the device
pub lawful-merges : (m : Setting) (held : FrameBytes) (w : World) (l : Ledger) (earlier : List ℕ) (ks : List Key)
    → AreLawful m None l (merges m held w l earlier ks)
lawful-merges m held w l earlier [] = tt
lawful-merges m held w l earlier (k ∷ ks) =
    let here = merge_notes m held l earlier k (candidate w l k) in
    lawful-append m None l here (merges m held w (after_notes l here) (with_candidate earlier (candidate w l k)) ks)
    (by (candidate w l k)) (lawful-merges m held w (after_notes l here) (with_candidate earlier (candidate w l k)) ks)
  where
    by : (o : Option ℕ) → AreLawful m None l (merge_notes m held l earlier k o)
    by None = tt
    by (Some f) = lawful-join m held w l k (merged_like m held l f) (other_like held earlier f)

pub merge-sound : (m : Setting) (w : World) (l : Ledger) (events : List Event) (answer : Answer) (rows : List Row) → AllSound m w l
    → Merges m w l events answer rows → AllSound m w (after_all l events)
merge-sound m w l events answer rows s h =
    let notes = merges m h.0 w l [] (map (λ e. e.0) l.entries) in
    noted-sound m w l notes events s (merges-hold m h.0 w l [] (map (λ e. e.0) l.entries) (of-sound m w l s) (λ j in_list. cc)) h.2

-- ---- compaction

-- a move is of a frame in use to a free one of the machine
pub record IsMove (m : Setting) (l : Ledger) (note : Note) : Type 0 where
  pub from : ℕ
  pub to : ℕ
  pub is : note ≡ Moved from to
  pub free : uses l to ≡ 0
  pub used : 0 < uses l from
  pub below : to < m.frames

pub range-below : (a n y : ℕ) → list_any (λ x. y == x) (range_with_len a n) ≡ true → y < a + n
range-below a zero y h = cc
range-below a (suc n) y h = by (range-below (a + 1) n y) (y == a) refl h
  where
    by : (list_any (λ x. y == x) (range_with_len (a + 1) n) ≡ true → y < (a + 1) + n) → (b : Bool) → (y == a) ≡ b
        → (b || list_any (λ x. y == x) (range_with_len (a + 1) n)) ≡ true → y < a + suc n
    by again true is e = let s = same-is y a is in omega (arith, s)
    by again false is e = let r = again e in omega (arith, r)

pub move-is : (m : Setting) (l : Ledger) (note : Note) → next_move m l ≡ Some note → IsMove m l note
move-is m l note h = by (least_free m l) refl (greatest_used m l) refl h
  where
    no_use : (n : ℕ) → (n == 0) ≡ true → n ≡ 0
    no_use n e = grind (arith, nat_tests, e)

    some : (n : ℕ) → not (n == 0) ≡ true → 0 < n
    some n e = by (n == 0) refl e
      where
        by : (b : Bool) → (n == 0) ≡ b → not b ≡ true → 0 < n
        by true is e = cc
        by false is e = grind (arith, nat_tests, is)

    by : (a : Option ℕ) → least_free m l ≡ a → (b : Option ℕ) → greatest_used m l ≡ b → move_down a b ≡ Some note → IsMove m l note
    by None is b is' e = cc
    by (Some f) is None is' e = cc
    by (Some f) is (Some g) is' e = lower (nat_lt f g) e
      where
        lower : (b : Bool) → cond b (Some (Moved g f)) None ≡ Some note → IsMove m l note
        lower true e =
            let low = found-is (is_free l) (range_with_len 0 m.frames) f is in
            let high = found-is (λ f. not (is_free l f)) (reverse (range_with_len 0 m.frames)) g is' in
            record {
              from = g;
              to = f;
              is = cc;
              free = no_use _ (sym (free-is l f) ∙ low.0);
              used = some _ (ap not (sym (free-is l g)) ∙ high.0);
              below = (let r = range-below 0 m.frames f low.1 in omega (arith, r));
            }
        lower false e = cc

pub move-holds : (m : Setting) (w : World) (l : Ledger) (note : Note) → Holds m w l → next_move m l ≡ Some note → Holds m w (after_note note l)
move-holds m w l note h r =
    let v = move-is m l note r in
    subst (λ n. Holds m w (after_note n l)) (sym v.is) (notes-hold m w None l (Moved v.from v.to ∷ []) h
    (renamed-kept m no_excuse l v.from v.to h.sound v.free v.used v.below) (tt, tt) (tt, tt))

pub moves-hold : (m : Setting) (w : World) (l : Ledger) (notes : List Note) → Holds m w l → MovesDown m l notes → Holds m w (after_notes l notes)
moves-hold m w l [] h r = h
moves-hold m w l (note ∷ notes) h r = moves-hold m w (after_note note l) notes (move-holds m w l note h r.0) r.1

pub lawful-moves : (m : Setting) (l : Ledger) (notes : List Note) → MovesDown m l notes → AreLawful m None l notes
lawful-moves m l [] r = tt
lawful-moves m l (note ∷ notes) r = (one (move-is m l note r.0), lawful-moves m (after_note note l) notes r.1)
  where
    one : IsMove m l note → IsLawful m None l note
    one v = subst (IsLawful m None l) (sym v.is) tt

pub compact-sound : (m : Setting) (w : World) (l : Ledger) (events : List Event) (answer : Answer) (rows : List Row) → AllSound m w l
    → Compacts m l events answer rows → AllSound m w (after_all l events)
compact-sound m w l events answer rows s h = subst (λ es. AllSound m w (after_all l es)) (sym h.2)
    (subst (AllSound m w) (sym (after_all-append l (note_events h.0) (FreeSorted ∷ []) ∙ note_events-all l h.0))
    (to-sound m w l (after_notes l h.0) s (moves-hold m w l h.0 (of-sound m w l s) h.1)))
