-- After a merge the candidates with equal bytes have one frame, and no page has other bytes.
use Rattle.std.proofs.Common.{◌≡◌, ◌⊎◌, inl, inr, ℕ, zero, suc, ◌+◌, ◌<◌, ◌≤◌, Bool, true, false, cond, not, ◌&&◌, ◌||◌, nat_lt, T, List, [], ◌∷◌, ◌++◌, map, Option, Some, None, is_some, refl, sym, ap, subst, ◌∙◌, arith, ◌==◌}
use Rattle.std.proofs.lemmas.Bool.{false≢true}
use Rattle.std.proofs.lemmas.Bool.Decides.{nat_tests}
use Rattle.std.specs.FinMap.Entries.{find as find_in, is_sorted}
use Rattle.std.specs.List.{find, list_all, list_any, range_with_len}
use Rattle.std.specs.Option.{option_or}
use Rattle.std.specs.Prelude.{IfSome, IsSome, IsSomeAnd, option_and_then}
use Rattle.av_base.specs.Keys.{Key, key_cmp, same_key}
use Rattle.av_base.proofs.Keys.{keys_total, same_key-is, same_key-itself}
use Rattle.av_base.specs.Page.{page_size}
use Rattle.av_trace.specs.declared.note.Note.TheVariants.{Shared}
use Rattle.av_trace.specs.declared.reply.Answer.{Answer}
use Rattle.av_trace.specs.declared.row.Row.{Row}
use Rattle.av_plain.specs.Event.{Event, after_all, after_note, after_notes, change_frame, frame_of, set_entry}
use Rattle.av_plain.specs.Ledger.{Entry, InFrame, InSlot, Ledger, Setting, Zero, entry, is_merged, names_frame}
use Rattle.av_plain.specs.Merge.{ClaimSame, FrameBytes, Has, HasJoined, HoldClaims, Merges, candidate, candidates, with_page, frame_named, hold_same, join_notes, merge_notes, merged_like, merges, other_like, with_candidate}
use Rattle.av_plain.specs.Sound.{AllSound, IsSound, mergings}
use Rattle.av_plain.specs.World.{Holds as HoldsAt, Page, World, pages}
use Rattle.av_plain.specs.Covered.{IsOfFrame}
use Rattle.av_plain.proofs.Access.{after_notes-append, note_events-all}
use Rattle.av_plain.proofs.Covered.Swap.{settled_entry-entries}
use Rattle.av_plain.proofs.Ledger.{entry-set, how_many-append}
use Rattle.av_plain.proofs.Ledger.Order.{both_first, both_second, find_below}
use Rattle.av_plain.proofs.Ledger.NoSwap.{key_at-address}
use Rattle.av_plain.proofs.Sound.Changes.{any-counts}
use Rattle.av_plain.proofs.Sound.Counts.{same-is, same-itself, same-turned}
use Rattle.av_plain.proofs.Sound.Entries.{flag}
use Rattle.av_plain.proofs.Sound.Frames.{AreBefore, IsCandidate, candidate-is, found-is, found-none, holds-itself, in_range-is, merged-joined, other-waits, same-then, split, turned, Turned}
use Rattle.av_plain.proofs.Sound.Swap.{Holds, of-sound}

-- the entry of a key among some
abbrev find_key : Key → List (Key × Entry) → Option Entry
find_key k es = find_in key_cmp k es

-- ---- what is found

find-same : (p q : ℕ → Bool) (xs : List ℕ) → ((x : ℕ) → p x ≡ q x) → find p xs ≡ find q xs
find-same p q [] h = refl
find-same p q (x ∷ xs) h = λ i. cond (h x i) (Some x) (find-same p q xs h i)

-- where nothing was found, what alone passes now is found
find-only : (p q : ℕ → Bool) (j : ℕ) (xs : List ℕ) → ((x : ℕ) → q x ≡ (p x || x == j)) → find p xs ≡ None → list_any (λ x. j == x) xs ≡ true
    → find q xs ≡ Some j
find-only p q j [] h none is = absurd (false≢true is)
find-only p q j (x ∷ xs) h none is = by (find-only p q j xs h) (p x) refl none (x == j) refl
  where
    by : (find p xs ≡ None → list_any (λ x. j == x) xs ≡ true → find q xs ≡ Some j) → (b : Bool) → p x ≡ b → cond b (Some x) (find p xs) ≡ None
        → (c : Bool) → (x == j) ≡ c → cond (q x) (Some x) (find q xs) ≡ Some j
    by again true at none c e = cc
    by again false at none true e = ap (λ b. cond b (Some x) (find q xs)) (h x ∙ (λ i. at i || e i)) ∙ ap Some (same-is x j e)
    by again false at none false e = ap (λ b. cond b (Some x) (find q xs)) (h x ∙ (λ i. at i || e i))
        ∙ again none (rest (j == x) (same-turned j x ∙ e) is)
      where
        rest : (b : Bool) → b ≡ false → (b || list_any (λ x. j == x) xs) ≡ true → list_any (λ x. j == x) xs ≡ true
        rest true f is = absurd (false≢true (sym f))
        rest false f is = is

-- what was found in front is found
find-front : (p : ℕ → Bool) (xs ys : List ℕ) (h : ℕ) → find p xs ≡ Some h → find p (xs ++ ys) ≡ Some h
find-front p [] ys h is = cc
find-front p (x ∷ xs) ys h is = by (find-front p xs ys h) (p x) is
  where
    by : (find p xs ≡ Some h → find p (xs ++ ys) ≡ Some h) → (b : Bool) → cond b (Some x) (find p xs) ≡ Some h
        → cond b (Some x) (find p (xs ++ ys)) ≡ Some h
    by again true e = e
    by again false e = again e

find-last : (p : ℕ → Bool) (xs : List ℕ) (y : ℕ) → find p xs ≡ None → p y ≡ true → find p (xs ++ y ∷ []) ≡ Some y
find-last p [] y none is = ap (λ b. cond b (Some y) None) is
find-last p (x ∷ xs) y none is = by (find-last p xs y) (p x) none
  where
    by : (find p xs ≡ None → p y ≡ true → find p (xs ++ y ∷ []) ≡ Some y) → (b : Bool) → cond b (Some x) (find p xs) ≡ None
        → cond b (Some x) (find p (xs ++ y ∷ [])) ≡ Some y
    by again true e = cc
    by again false e = again e is

-- there are some where there were, or where one more came
some-more : (k : ℕ) (b : Bool) (n : ℕ) → n ≡ k + (cond b 1 0 + 0) → nat_lt 0 n ≡ (nat_lt 0 k || b)
some-more k true n e = grind (arith, nat_tests, e) ∙ sym (right (nat_lt 0 k))
  where
    right : (a : Bool) → (a || true) ≡ true
    right true = refl
    right false = refl
some-more k false n e = ap (nat_lt 0) (e ∙ plus_zero k) ∙ sym (left (nat_lt 0 k))
  where
    plus_zero : (a : ℕ) → a + (0 + 0) ≡ a
    plus_zero a = omega arith

    left : (a : Bool) → (a || false) ≡ a
    left true = refl
    left false = refl

-- ---- frames that hold the same

all-turned : (held : FrameBytes) (f g : ℕ) (is : List ℕ) → list_all (λ i. held f i == held g i) is ≡ list_all (λ i. held g i == held f i) is
all-turned held f g [] = refl
all-turned held f g (i ∷ is) = λ j. same-turned (held f i) (held g i) j && all-turned held f g is j

turned-same : (held : FrameBytes) (f g : ℕ) → hold_same held f g ≡ hold_same held g f
turned-same held f g = all-turned held f g (range_with_len 0 page_size)

-- so the same frames hold the same as either
alike-same : (held : FrameBytes) (f g x : ℕ) → hold_same held f g ≡ true → hold_same held x f ≡ hold_same held x g
alike-same held f g x is = by (hold_same held x f) (hold_same held x g) refl refl
  where
    by : (a b : Bool) → hold_same held x f ≡ a → hold_same held x g ≡ b → hold_same held x f ≡ hold_same held x g
    by true true e e' = e ∙ sym e'
    by false false e e' = e ∙ sym e'
    by true false e e' = absurd (false≢true (sym e' ∙ same-then held x f g e is))
    by false true e e' = absurd (false≢true (sym e ∙ same-then held x g f e' (turned-same held g f ∙ is)))

-- ---- the frame of a class

module _ (m : Setting) (held : FrameBytes) where
  -- the first of some frames that holds the same
  abbrev like_in : List ℕ → ℕ → Option ℕ
  like_in earlier f = find (λ h. hold_same held h f) earlier

  -- the frame that the candidates have that hold the same as f
  abbrev frame_for : Ledger → List ℕ → ℕ → Option ℕ
  frame_for l earlier f = option_or (merged_like m held l f) (like_in earlier f)

  -- a candidate that had its turn has it
  abbrev IsDone : Ledger → List ℕ → Key × ℕ → Type 0
  IsDone l earlier c = (frame_named l c.0 ≡ frame_for l earlier c.1) × IsSome (like_in earlier c.1)

  -- where no merged frame holds the same, those of the candidates before are one
  abbrev AreOne : Ledger → List ℕ → Type 0
  AreOne l earlier = (f h j : ℕ) → merged_like m held l f ≡ None → list_any (λ x. h == x) earlier ≡ true → list_any (λ x. j == x) earlier ≡ true
      → hold_same held h f ≡ true → hold_same held j f ≡ true → h ≡ j

  merged_like-same : (l l' : Ledger) (f : ℕ) → ((x : ℕ) → is_merged l' x ≡ is_merged l x) → merged_like m held l' f ≡ merged_like m held l f
  merged_like-same l l' f same = find-same _ _ (range_with_len 0 m.frames) (λ x. ap (λ b. b && hold_same held x f) (same x))

  -- frames that hold the same have one class
  frame_for-alike : (l : Ledger) (earlier : List ℕ) (f g : ℕ) → hold_same held f g ≡ true → frame_for l earlier f ≡ frame_for l earlier g
  frame_for-alike l earlier f g is = λ i. option_or
      (find-same (λ x. is_merged l x && hold_same held x f) (λ x. is_merged l x && hold_same held x g) (range_with_len 0 m.frames)
      (λ x. ap (λ b. is_merged l x && b) (alike-same held f g x is)) i)
      (find-same (λ x. hold_same held x f) (λ x. hold_same held x g) earlier (λ x. alike-same held f g x is) i)

  merged_like-alike : (l : Ledger) (f g : ℕ) → hold_same held f g ≡ true → merged_like m held l f ≡ merged_like m held l g
  merged_like-alike l f g is = find-same (λ x. is_merged l x && hold_same held x f) (λ x. is_merged l x && hold_same held x g)
      (range_with_len 0 m.frames) (λ x. ap (λ b. is_merged l x && b) (alike-same held f g x is))

  -- what a turn of the page k0 with the frame f0 leaves
  record Leaves (l : Ledger) (earlier : List ℕ) (k0 : Key) (f0 : ℕ) (l' : Ledger) : Type 0 where
    others : (q : Key) → same_key q k0 ≡ false → entry l' q ≡ entry l q
    done : frame_named l' k0 ≡ frame_for l' (earlier ++ f0 ∷ []) f0
    kept : (f h : ℕ) → like_in earlier f ≡ Some h → frame_for l' (earlier ++ f0 ∷ []) f ≡ frame_for l earlier f
    one : AreOne l' (earlier ++ f0 ∷ [])

  found-last : (earlier : List ℕ) (f0 f h : ℕ) → like_in earlier f ≡ Some h → like_in (earlier ++ f0 ∷ []) f ≡ Some h
  found-last earlier f0 f h is = find-front (λ x. hold_same held x f) earlier (f0 ∷ []) h is

  any-last : (h f0 : ℕ) (xs : List ℕ) → list_any (λ x. h == x) (xs ++ f0 ∷ []) ≡ true → (list_any (λ x. h == x) xs ≡ true) ⊎ (h ≡ f0)
  any-last h f0 [] e = inr (by (h == f0) refl e)
    where
      by : (b : Bool) → (h == f0) ≡ b → (b || false) ≡ true → h ≡ f0
      by true is e = same-is h f0 is
      by false is e = absurd (false≢true e)
  any-last h f0 (x ∷ xs) e = by (any-last h f0 xs) (h == x) e
    where
      by : (list_any (λ x. h == x) (xs ++ f0 ∷ []) ≡ true → (list_any (λ x. h == x) xs ≡ true) ⊎ (h ≡ f0)) → (b : Bool)
          → (b || list_any (λ x. h == x) (xs ++ f0 ∷ [])) ≡ true → ((b || list_any (λ x. h == x) xs) ≡ true) ⊎ (h ≡ f0)
      by again true e = inl refl
      by again false e = again e

  -- where the new one holds the same as none that is left unmerged
  one-more : (l l' : Ledger) (earlier : List ℕ) (f0 : ℕ) → AreOne l earlier
      → ((f : ℕ) → merged_like m held l' f ≡ None → merged_like m held l f ≡ None)
      → ((f h : ℕ) → merged_like m held l' f ≡ None → hold_same held f0 f ≡ true → list_any (λ x. h == x) earlier ≡ true → hold_same held h f ≡ true
      → h ≡ f0) → AreOne l' (earlier ++ f0 ∷ [])
  one-more l l' earlier f0 one fewer new f h j none in_h in_j at_h at_j = by (any-last h f0 earlier in_h) (any-last j f0 earlier in_j)
    where
      by : (list_any (λ x. h == x) earlier ≡ true) ⊎ (h ≡ f0) → (list_any (λ x. j == x) earlier ≡ true) ⊎ (j ≡ f0) → h ≡ j
      by (inl a) (inl b) = one f h j (fewer f none) a b at_h at_j
      by (inl a) (inr b) = new f h none (subst (λ x. hold_same held x f ≡ true) b at_j) a at_h ∙ sym b
      by (inr a) (inl b) = a ∙ sym (new f j none (subst (λ x. hold_same held x f ≡ true) a at_h) b at_j)
      by (inr a) (inr b) = a ∙ sym b

  -- the entries after a page joined a frame
  joined-entry : (l : Ledger) (k0 : Key) (g : ℕ) (q : Key) → entry (change_frame k0 g l) q ≡ cond (same_key q k0) (Some (InFrame g false)) (entry l q)
  joined-entry l k0 g q = ap (λ es. entry (record l { entries = es }) q) (settled_entry-entries (entry l k0) (set_entry k0 (InFrame g false) l))
      ∙ entry-set k0 (InFrame g false) l q

  joined-named : (l : Ledger) (k0 : Key) (g : ℕ) → frame_named (change_frame k0 g l) k0 ≡ Some g
  joined-named l k0 g = ap (option_and_then frame_of) (joined-entry l k0 g k0 ∙ ap (λ b. cond b (Some (InFrame g false)) (entry l k0)) (same_key-itself k0))

  joined-others : (l : Ledger) (k0 : Key) (g : ℕ) (q : Key) → same_key q k0 ≡ false → entry (change_frame k0 g l) q ≡ entry l q
  joined-others l k0 g q other = joined-entry l k0 g q ∙ ap (λ b. cond b (Some (InFrame g false)) (entry l q)) other

  -- the merged frames are the same where an unmerged one is left
  joined-merged : (l : Ledger) (k0 : Key) (g f0 : ℕ) (seen : Bool) → entry l k0 ≡ Some (InFrame f0 seen) → mergings l f0 ≡ 0 → (x : ℕ)
      → is_merged (change_frame k0 g l) x ≡ is_merged l x
  joined-merged l k0 g f0 seen at unmerged x = any-counts (λ y. x == y) (change_frame k0 g l).merged
      ∙ ap (nat_lt 0) (merged-joined l k0 g f0 seen at unmerged x) ∙ sym (any-counts (λ y. x == y) l.merged)

  -- where a frame is found, so it is by all that hold the same
  kept-by : (l : Ledger) (earlier : List ℕ) (f0 f h : ℕ) → like_in earlier f ≡ Some h
      → option_or (merged_like m held l f) (like_in (earlier ++ f0 ∷ []) f) ≡ option_or (merged_like m held l f) (like_in earlier f)
  kept-by l earlier f0 f h is = ap (option_or (merged_like m held l f)) (found-last earlier f0 f h is ∙ sym is)

  -- a frame that is found among the merged ones
  like-is : (l : Ledger) (f g : ℕ) → merged_like m held l f ≡ Some g → (is_merged l g ≡ true) × (hold_same held g f ≡ true)
  like-is l f g is = split (is_merged l g) (hold_same held g f) (found-is (λ g. is_merged l g && hold_same held g f) (range_with_len 0 m.frames) g is).0

  -- it joins a merged frame
  leaves-joined : (l : Ledger) (earlier : List ℕ) (k0 : Key) (f0 g : ℕ) (seen : Bool) → entry l k0 ≡ Some (InFrame f0 seen) → mergings l f0 ≡ 0
      → merged_like m held l f0 ≡ Some g → AreOne l earlier → Leaves l earlier k0 f0 (change_frame k0 g l)
  leaves-joined l earlier k0 f0 g seen at unmerged is one = record {
    others = joined-others l k0 g;
    done = joined-named l k0 g ∙ ap (λ o. option_or o (like_in (earlier ++ f0 ∷ []) f0)) (sym (same f0 ∙ is));
    kept = λ f h found. ap (λ o. option_or o (like_in (earlier ++ f0 ∷ []) f)) (same f) ∙ kept-by l earlier f0 f h found;
    one = one-more l (change_frame k0 g l) earlier f0 one (λ f none. sym (same f) ∙ none)
        (λ f h none new in_h at_h. absurd (never f (merged_like-alike l f0 f new ∙ sym (same f) ∙ none)));
  }
    where
      same : (f : ℕ) → merged_like m held (change_frame k0 g l) f ≡ merged_like m held l f
      same f = merged_like-same l (change_frame k0 g l) f (joined-merged l k0 g f0 seen at unmerged)

      never : (f : ℕ) → merged_like m held l f0 ≡ None → ⊥
      never f none = cc

  -- it keeps its frame
  leaves-none : (l : Ledger) (earlier : List ℕ) (k0 : Key) (f0 : ℕ) (seen : Bool) → entry l k0 ≡ Some (InFrame f0 seen)
      → merged_like m held l f0 ≡ None → other_like held earlier f0 ≡ None → AreOne l earlier → Leaves l earlier k0 f0 l
  leaves-none l earlier k0 f0 seen at none alone one = record {
    others = λ q other. refl;
    done = ap (option_and_then frame_of) at ∙ sym (ap (λ o. option_or o (like_in (earlier ++ f0 ∷ []) f0)) none ∙ mine (like_in earlier f0) refl);
    kept = λ f h found. kept-by l earlier f0 f h found;
    one = one-more l l earlier f0 one (λ f none. none)
        (λ f h left new in_h at_h. it h in_h (same-then held h f f0 at_h (turned-same held f f0 ∙ new)));
  }
    where
      -- of those before, only it holds the same
      it : (h : ℕ) → list_any (λ x. h == x) earlier ≡ true → hold_same held h f0 ≡ true → h ≡ f0
      it h in_h at_h = by (h == f0) refl
        where
          fails : (not (h == f0) && hold_same held h f0) ≡ false
          fails = found-none (λ x. not (x == f0) && hold_same held x f0) earlier alone h in_h

          by : (b : Bool) → (h == f0) ≡ b → h ≡ f0
          by true is = same-is h f0 is
          by false is = absurd (false≢true (sym fails ∙ (λ i. not (is i) && at_h i)))

      mine : (o : Option ℕ) → like_in earlier f0 ≡ o → like_in (earlier ++ f0 ∷ []) f0 ≡ Some f0
      mine None is = find-last (λ x. hold_same held x f0) earlier f0 is (holds-itself held f0)
      mine (Some h) is =
          let found = found-is (λ x. hold_same held x f0) earlier h is in
          found-last earlier f0 f0 h is ∙ ap Some (it h found.1 found.0)

  -- an earlier candidate's frame is merged, and it joins that
  leaves-shared : (l : Ledger) (earlier : List ℕ) (k0 : Key) (f0 j : ℕ) (seen : Bool) → entry l k0 ≡ Some (InFrame f0 seen) → mergings l f0 ≡ 0
      → j < m.frames → (j == f0) ≡ false → hold_same held j f0 ≡ true → list_any (λ x. j == x) earlier ≡ true
      → merged_like m held l f0 ≡ None → AreOne l earlier → Leaves l earlier k0 f0 (change_frame k0 j (after_note (Shared j) l))
  leaves-shared l earlier k0 f0 j seen at unmerged below apart like in_j none one = record {
    others = joined-others l1 k0 j;
    done = joined-named l1 k0 j ∙ sym (ap (λ o. option_or o (like_in (earlier ++ f0 ∷ []) f0)) (inside f0 like));
    kept = λ f h found. by f h found (hold_same held j f) refl;
    one = one-more l l' earlier f0 one (λ f left. sym (outside f (not_in f left)) ∙ left)
        (λ f h left new in_h at_h. absurd (false≢true (sym (not_in f left) ∙ same-then held j f0 f like new)));
  }
    where
      l1 : Ledger
      l1 = after_note (Shared j) l

      l' : Ledger
      l' = change_frame k0 j (after_note (Shared j) l)

      more : (x : ℕ) → mergings (after_note (Shared j) l) x ≡ mergings l x + (cond (x == j) 1 0 + 0)
      more x = how_many-append (λ y. x == y) l.merged (j ∷ [])

      now : (x : ℕ) → is_merged (change_frame k0 j (after_note (Shared j) l)) x ≡ (is_merged l x || x == j)
      now x = joined-merged (after_note (Shared j) l) k0 j f0 seen at
          (let e = more f0 in let d = flag _ _ (same-turned f0 j ∙ apart) in omega (arith, e, d, unmerged)) x
          ∙ any-counts (λ y. x == y) (after_note (Shared j) l).merged ∙ some-more (mergings l x) (x == j) _ (more x)
          ∙ ap (λ b. b || x == j) (sym (any-counts (λ y. x == y) l.merged))

      -- it is the one of its class
      inside : (f : ℕ) → hold_same held j f ≡ true → merged_like m held (change_frame k0 j (after_note (Shared j) l)) f ≡ Some j
      inside f at_j = find-only (λ x. is_merged l x && hold_same held x f)
          (λ x. is_merged (change_frame k0 j (after_note (Shared j) l)) x && hold_same held x f) j (range_with_len 0 m.frames)
          (λ x. ap (λ b. b && hold_same held x f) (now x) ∙ passes x (is_merged l x) (x == j) refl)
          (sym (merged_like-alike l f0 f (same-then held f0 j f (turned-same held f0 j ∙ like) at_j)) ∙ none)
          (in_range-is 0 m.frames j (omega arith) (omega (arith, below)))
        where
          passes : (x : ℕ) (a b : Bool) → (x == j) ≡ b → ((a || b) && hold_same held x f) ≡ ((a && hold_same held x f) || b)
          passes x true true is = ap (hold_same_at) (same-is x j is) ∙ at_j ∙ sym (right (hold_same held x f))
            where
              hold_same_at : ℕ → Bool
              hold_same_at y = hold_same held y f

              right : (a : Bool) → (a || true) ≡ true
              right true = refl
              right false = refl
          passes x true false is = sym (left (hold_same held x f))
            where
              left : (a : Bool) → (a || false) ≡ a
              left true = refl
              left false = refl
          passes x false true is = ap (λ y. hold_same held y f) (same-is x j is) ∙ at_j
          passes x false false is = refl

      -- the others are as they were
      outside : (f : ℕ) → hold_same held j f ≡ false → merged_like m held (change_frame k0 j (after_note (Shared j) l)) f ≡ merged_like m held l f
      outside f at_j = find-same (λ x. is_merged (change_frame k0 j (after_note (Shared j) l)) x && hold_same held x f)
          (λ x. is_merged l x && hold_same held x f) (range_with_len 0 m.frames)
          (λ x. ap (λ b. b && hold_same held x f) (now x) ∙ passes x (is_merged l x) (x == j) refl)
        where
          passes : (x : ℕ) (a b : Bool) → (x == j) ≡ b → ((a || b) && hold_same held x f) ≡ (a && hold_same held x f)
          passes x true b is = refl
          passes x false true is = ap (λ y. hold_same held y f) (same-is x j is) ∙ at_j
          passes x false false is = refl

      not_in : (f : ℕ) → merged_like m held (change_frame k0 j (after_note (Shared j) l)) f ≡ None → hold_same held j f ≡ false
      not_in f left = by (hold_same held j f) refl
        where
          some : merged_like m held (change_frame k0 j (after_note (Shared j) l)) f ≡ Some j → ⊥
          some is = cc

          by : (b : Bool) → hold_same held j f ≡ b → b ≡ false
          by true is = absurd (some (inside f is))
          by false is = refl

      -- a candidate before has the frame that is merged now, where its class is that
      by : (f h : ℕ) → like_in earlier f ≡ Some h → (b : Bool) → hold_same held j f ≡ b
          → frame_for (change_frame k0 j (after_note (Shared j) l)) (earlier ++ f0 ∷ []) f ≡ frame_for l earlier f
      by f h found true is =
          let was : merged_like m held l f ≡ None =
          sym (merged_like-alike l f0 f (same-then held f0 j f (turned-same held f0 j ∙ like) is)) ∙ none in
          let here = found-is (λ x. hold_same held x f) earlier h found in
          ap (λ o. option_or o (like_in (earlier ++ f0 ∷ []) f)) (inside f is)
          ∙ ap Some (one f j h was in_j here.1 is here.0) ∙ sym (ap (λ o. option_or o (like_in earlier f)) was ∙ found)
      by f h found false is = ap (λ o. option_or o (like_in (earlier ++ f0 ∷ []) f)) (outside f is) ∙ kept-by l earlier f0 f h found

  -- ---- the pages in turn

  module _ (w : World) where
    turn-leaves : (l : Ledger) (earlier : List ℕ) (k : Key) (f : ℕ) → IsSound m l → AreBefore held l earlier → IsCandidate w l k f
        → AreOne l earlier → Leaves l earlier k f (after_notes l (merge_notes m held l earlier k (Some f)))
    turn-leaves l earlier k f s before c one = by (merged_like m held l f) refl (other_like held earlier f) refl
      where
        by : (a : Option ℕ) → merged_like m held l f ≡ a → (b : Option ℕ) → other_like held earlier f ≡ b
            → Leaves l earlier k f (after_notes l (join_notes k a b))
        by (Some g) is b is' = subst (λ q. Leaves l earlier k f (change_frame q g l)) (sym (key_at-address k))
            (leaves-joined l earlier k f g c.seen c.names c.unmerged is one)
        by None is (Some j) is' =
            let o = other-waits m held l f j earlier s before is is' in
            let u = o.waits in
            subst (λ q. Leaves l earlier k f (change_frame q j (after_note (Shared j) l))) (sym (key_at-address k))
            (leaves-shared l earlier k f j c.seen c.names c.unmerged (s.in_range j (let n = u.named in omega (arith, n))) o.apart o.same
            (found-is (λ h. not (h == f) && hold_same held h f) earlier j is').1 is one)
        by None is None is' = leaves-none l earlier k f c.seen c.names is is' one

    -- the frames of the candidates before, and of these
    abbrev all_earlier : Ledger → List ℕ → List Key → List ℕ
    all_earlier l earlier [] = earlier
    all_earlier l earlier (k ∷ ks) =
        all_earlier (after_notes l (merge_notes m held l earlier k (candidate w l k))) (with_candidate earlier (candidate w l k)) ks

    -- none of the keys is that of the page
    abbrev AreOthers : Key → List Key → Type 0
    AreOthers q ks = (k : Key) → list_any (λ x. same_key k x) ks ≡ true → same_key q k ≡ false

    -- the keys are all different
    abbrev AreApart : List Key → Type 0
    AreApart [] = Unit {0}
    AreApart (k ∷ ks) = AreOthers k ks × AreApart ks

    abbrev ended : Ledger → List ℕ → List Key → Ledger
    ended l earlier ks = after_notes l (merges m held w l earlier ks)

    other-first : (q k : Key) (ks : List Key) → AreOthers q (k ∷ ks) → same_key q k ≡ false
    other-first q k ks h = h k (ap (λ b. b || list_any (λ x. same_key k x) ks) (same_key-itself k))

    other-rest : (q k : Key) (ks : List Key) → AreOthers q (k ∷ ks) → AreOthers q ks
    other-rest q k ks h x is = h x (right (same_key x k) is)
      where
        right : (a : Bool) {b : Bool} → b ≡ true → (a || b) ≡ true
        right true h = refl
        right false h = h

    -- what the rest of the pages does from here on
    ended-is : (l : Ledger) (earlier : List ℕ) (k : Key) (ks : List Key) → ended l earlier (k ∷ ks)
        ≡ ended (after_notes l (merge_notes m held l earlier k (candidate w l k))) (with_candidate earlier (candidate w l k)) ks
    ended-is l earlier k ks = let here = merge_notes m held l earlier k (candidate w l k) in
        after_notes-append l here (merges m held w (after_notes l here) (with_candidate earlier (candidate w l k)) ks)

    -- one page, by the frame that it has as a candidate
    record Parts (l : Ledger) (earlier : List ℕ) (k : Key) (o : Option ℕ) : Type 0 where
      one : AreOne (after_notes l (merge_notes m held l earlier k o)) (with_candidate earlier o)
      others : (q : Key) → same_key q k ≡ false → entry (after_notes l (merge_notes m held l earlier k o)) q ≡ entry l q
      kept : (c : Key × ℕ) → same_key c.0 k ≡ false → IsDone l earlier c
          → IsDone (after_notes l (merge_notes m held l earlier k o)) (with_candidate earlier o) c
      done : (f : ℕ) → o ≡ Some f → IsDone (after_notes l (merge_notes m held l earlier k o)) (with_candidate earlier o) (k, f)

    -- and what holds before the others
    record Turn (l : Ledger) (earlier : List ℕ) (k : Key) : Type 0 where
      holds : Holds m w (after_notes l (merge_notes m held l earlier k (candidate w l k)))
      before : AreBefore held (after_notes l (merge_notes m held l earlier k (candidate w l k))) (with_candidate earlier (candidate w l k))
      parts : Parts l earlier k (candidate w l k)

    turn : (l : Ledger) (earlier : List ℕ) (k : Key) → Holds m w l → AreBefore held l earlier → AreOne l earlier → Turn l earlier k
    turn l earlier k holds before one = record {
      holds = next.holds;
      before = next.before;
      parts = by (candidate w l k) refl;
    }
      where
        next : Turned m held w l (with_candidate earlier (candidate w l k)) (after_notes l (merge_notes m held l earlier k (candidate w l k)))
        next = turned m held w l k earlier holds before

        by : (o : Option ℕ) → candidate w l k ≡ o → Parts l earlier k o
        by None is = record { one = one; others = λ q other. refl; kept = λ c other done. done; done = λ f e. absurd (never e) }
          where
            never : {f : ℕ} → ◌≡◌ {A = Option ℕ} None (Some f) → ⊥
            never e = cc
        by (Some f) is = record {
          one = x.one;
          others = x.others;
          kept = λ c other done. keep c other done (like_in earlier c.1) refl done.1;
          done = λ g e. subst (λ g. IsDone (after_notes l (merge_notes m held l earlier k (Some f))) (earlier ++ f ∷ []) (k, g)) (inner e)
              (x.done, some (like_in earlier f) refl);
        }
          where
            x : Leaves l earlier k f (after_notes l (merge_notes m held l earlier k (Some f)))
            x = turn-leaves l earlier k f holds.sound before (candidate-is w l k f is) one

            inner : {g : ℕ} → Some f ≡ Some g → f ≡ g
            inner e = cc

            some : (o : Option ℕ) → like_in earlier f ≡ o → IsSome (like_in (earlier ++ f ∷ []) f)
            some None e = ap is_some (find-last (λ x. hold_same held x f) earlier f e (holds-itself held f))
            some (Some h) e = ap is_some (found-last earlier f f h e)

            keep : (c : Key × ℕ) → same_key c.0 k ≡ false → IsDone l earlier c → (o : Option ℕ) → like_in earlier c.1 ≡ o → IsSome (like_in earlier c.1)
                → IsDone (after_notes l (merge_notes m held l earlier k (Some f))) (earlier ++ f ∷ []) c
            keep c other done None e some = absurd (false≢true (sym (ap is_some e) ∙ some))
            keep c other done (Some h) e some = (
              ap (option_and_then frame_of) (x.others c.0 other) ∙ done.0 ∙ sym (x.kept c.1 h e),
              ap is_some (found-last earlier f c.1 h e),
            )

    -- a candidate that had its turn is done at the end
    stays-done : (l : Ledger) (earlier : List ℕ) (ks : List Key) → Holds m w l → AreBefore held l earlier → AreOne l earlier → (c : Key × ℕ)
        → AreOthers c.0 ks → IsDone l earlier c → IsDone (ended l earlier ks) (all_earlier l earlier ks) c
    stays-done l earlier [] holds before one c others done = done
    stays-done l earlier (k ∷ ks) holds before one c others done =
        let t = turn l earlier k holds before one in
        subst (λ x. IsDone x (all_earlier l earlier (k ∷ ks)) c) (sym (ended-is l earlier k ks))
        (stays-done (after_notes l (merge_notes m held l earlier k (candidate w l k))) (with_candidate earlier (candidate w l k)) ks
        t.holds t.before t.parts.one c (other-rest c.0 k ks others) (t.parts.kept c (other-first c.0 k ks others) done))

    all-done : (l : Ledger) (earlier : List ℕ) (ks : List Key) → Holds m w l → AreBefore held l earlier → AreOne l earlier → AreApart ks → (c : Key × ℕ)
        → Has c (candidates m held w l earlier ks) → IsDone (ended l earlier ks) (all_earlier l earlier ks) c
    all-done l earlier [] holds before one apart c has = absurd has
    all-done l earlier (k ∷ ks) holds before one apart c has =
        subst (λ x. IsDone x (all_earlier l earlier (k ∷ ks)) c) (sym (ended-is l earlier k ks))
        (by (λ has. all-done l' earlier' ks t.holds t.before t.parts.one apart.1 c has) (candidate w l k) refl has)
      where
        l' : Ledger
        l' = after_notes l (merge_notes m held l earlier k (candidate w l k))

        earlier' : List ℕ
        earlier' = with_candidate earlier (candidate w l k)

        t : Turn l earlier k
        t = turn l earlier k holds before one

        here : (f : ℕ) → candidate w l k ≡ Some f → c ≡ (k, f) → IsDone (ended l' earlier' ks) (all_earlier l' earlier' ks) c
        here f is e = subst (IsDone (ended l' earlier' ks) (all_earlier l' earlier' ks)) (sym e)
            (stays-done l' earlier' ks t.holds t.before t.parts.one (k, f) apart.0 (t.parts.done f is))

        by : (Has c (candidates m held w l' earlier' ks) → IsDone (ended l' earlier' ks) (all_earlier l' earlier' ks) c) → (o : Option ℕ) → candidate w l k ≡ o
            → Has c (with_page k o (candidates m held w l' earlier' ks)) → IsDone (ended l' earlier' ks) (all_earlier l' earlier' ks) c
        by again None is has = again has
        by again (Some f) is (inl e) = here f is e
        by again (Some f) is (inr has) = again has

    -- the keys of the entries are all different
    keys-apart : (es : List (Key × Entry)) → T (is_sorted key_cmp es) → AreApart (map (λ (e : Key × Entry). e.0) es)
    keys-apart [] sorted = tt
    keys-apart (e ∷ es) sorted = (others, keys-apart es (both_second _ _ sorted))
      where
        none : find_key e.0 es ≡ None
        none = find_below keys_total (λ (x : Entry). true) e.0 es (both_first _ _ sorted)

        has : (es : List (Key × Entry)) (k : Key) → list_any (λ x. same_key k x) (map (λ (e : Key × Entry). e.0) es) ≡ is_some (find_key k es)
        has [] k = refl
        has (x ∷ xs) k = by (same_key k x.0) (has xs k)
          where
            by : (b : Bool) → list_any (λ x. same_key k x) (map (λ (e : Key × Entry). e.0) xs) ≡ is_some (find_key k xs)
                → (b || list_any (λ x. same_key k x) (map (λ (e : Key × Entry). e.0) xs)) ≡ is_some (cond b (Some x.1) (find_key k xs))
            by true h = refl
            by false h = h

        others : AreOthers e.0 (map (λ (e : Key × Entry). e.0) es)
        others k is = by (same_key e.0 k) refl
          where
            by : (b : Bool) → same_key e.0 k ≡ b → b ≡ false
            by false e' = refl
            by true e' = absurd (false≢true (sym (ap is_some none) ∙ ap (λ q. is_some (find_key q es)) (same_key-is e.0 k e') ∙ sym (has es k) ∙ is))

    -- all that were candidates and hold the same have one frame
    pub one-frame : (l : Ledger) → AllSound m w l → (c d : Key × ℕ) → Has c (candidates m held w l [] (map (λ (e : Key × Entry). e.0) l.entries))
        → Has d (candidates m held w l [] (map (λ (e : Key × Entry). e.0) l.entries)) → hold_same held c.1 d.1 ≡ true
        → (frame_named (after_notes l (merges m held w l [] (map (λ (e : Key × Entry). e.0) l.entries))) c.0
        ≡ frame_named (after_notes l (merges m held w l [] (map (λ (e : Key × Entry). e.0) l.entries))) d.0)
    one-frame l s c d has_c has_d is =
        let done : (c : Key × ℕ) → Has c (candidates m held w l [] (map (λ (e : Key × Entry). e.0) l.entries))
        → IsDone (ended l [] (map (λ (e : Key × Entry). e.0) l.entries)) (all_earlier l [] (map (λ (e : Key × Entry). e.0) l.entries)) c =
        λ c has. all-done l [] (map (λ (e : Key × Entry). e.0) l.entries) (of-sound m w l s) (λ j in_list. absurd (false≢true in_list))
        (λ f h j none in_h in_j at_h at_j. absurd (false≢true in_h)) (keys-apart l.entries s.ledger.in_order) c has in
        (done c has_c).0
        ∙ frame_for-alike (ended l [] (map (λ (e : Key × Entry). e.0) l.entries)) (all_earlier l [] (map (λ (e : Key × Entry). e.0) l.entries)) c.1 d.1 is
        ∙ sym (done d has_d).0

    -- ---- what candidates claim

    -- a candidate is one of the pages
    has-key : (l : Ledger) (earlier : List ℕ) (ks : List Key) (c : Key × ℕ) → Has c (candidates m held w l earlier ks)
        → list_any (λ x. same_key c.0 x) ks ≡ true
    has-key l earlier [] c has = absurd has
    has-key l earlier (k ∷ ks) c has = by (λ h. has-key (after_notes l (merge_notes m held l earlier k (candidate w l k)))
        (with_candidate earlier (candidate w l k)) ks c h) (candidate w l k) has
      where
        right : (a : Bool) {b : Bool} → b ≡ true → (a || b) ≡ true
        right true h = refl
        right false h = h

        cs : List (Key × ℕ)
        cs = candidates m held w (after_notes l (merge_notes m held l earlier k (candidate w l k))) (with_candidate earlier (candidate w l k)) ks

        by : (Has c (candidates m held w (after_notes l (merge_notes m held l earlier k (candidate w l k))) (with_candidate earlier (candidate w l k)) ks)
            → list_any (λ x. same_key c.0 x) ks ≡ true) → (o : Option ℕ) → Has c (with_page k o cs)
            → (same_key c.0 k || list_any (λ x. same_key c.0 x) ks) ≡ true
        by again None h = right (same_key c.0 k) (again h)
        by again (Some f) (inl e) = ap (λ b. b || list_any (λ x. same_key c.0 x) ks) (ap (λ (x : Key × ℕ). same_key x.0 k) e ∙ same_key-itself k)
        by again (Some f) (inr h) = right (same_key c.0 k) (again h)

    -- its entry names its frame from the beginning
    names-first : (l : Ledger) (earlier : List ℕ) (ks : List Key) → Holds m w l → AreBefore held l earlier → AreOne l earlier → AreApart ks
        → (c : Key × ℕ) → Has c (candidates m held w l earlier ks) → IsOfFrame l c.1 c.0
    names-first l earlier [] holds before one apart c has = absurd has
    names-first l earlier (k ∷ ks) holds before one apart c has =
        by (λ h. later (has-key l' earlier' ks c h) (names-first l' earlier' ks t.holds t.before t.parts.one apart.1 c h)) (candidate w l k) refl has
      where
        l' : Ledger
        l' = after_notes l (merge_notes m held l earlier k (candidate w l k))

        earlier' : List ℕ
        earlier' = with_candidate earlier (candidate w l k)

        t : Turn l earlier k
        t = turn l earlier k holds before one

        later : list_any (λ x. same_key c.0 x) ks ≡ true → IsOfFrame l' c.1 c.0 → IsOfFrame l c.1 c.0
        later there names = subst (λ o. IsSomeAnd o (λ e. names_frame c.1 e ≡ true)) (t.parts.others c.0 (other (same_key c.0 k) refl)) names
          where
            other : (b : Bool) → same_key c.0 k ≡ b → b ≡ false
            other true is = absurd (false≢true (sym (apart.0 c.0 there) ∙ ap (same_key k) (same_key-is c.0 k is) ∙ same_key-itself k))
            other false is = refl

        here : (f : ℕ) → candidate w l k ≡ Some f → IsOfFrame l f k
        here f is = let x = candidate-is w l k f is in subst (λ o. IsSomeAnd o (λ e. names_frame f e ≡ true)) (sym x.names) (same-itself f)

        by : (Has c (candidates m held w l' earlier' ks) → IsOfFrame l c.1 c.0) → (o : Option ℕ) → candidate w l k ≡ o
            → Has c (with_page k o (candidates m held w l' earlier' ks)) → IsOfFrame l c.1 c.0
        by again None is has = again has
        by again (Some f) is (inl e) = subst (λ (x : Key × ℕ). IsOfFrame l x.1 x.0) (sym e) (here f is)
        by again (Some f) is (inr has) = again has

    all-by : (p : ℕ → Bool) (a n : ℕ) → ((i : ℕ) → a ≤ i → i < a + n → p i ≡ true) → list_all p (range_with_len a n) ≡ true
    all-by p a zero h = refl
    all-by p a (suc n) h = λ i. h a (omega arith) (omega arith) i && all-by p (a + 1) n (λ j low high. h j (omega (arith, low)) (omega (arith, high))) i

    -- pages that claim the same are held the same
    claims-hold : (l : Ledger) → HoldClaims w l held → (k q : Key) (f g : ℕ) → IsOfFrame l f k → IsOfFrame l g q
        → ClaimSame w k q → hold_same held f g ≡ true
    claims-hold l holds k q f g at_k at_q claims = all-by (λ i. held f i == held g i) 0 page_size one
      where
        of_page : (x : Option Page) (h i b : ℕ) → HoldsAt x (held h) → i < page_size → IsSomeAnd x (λ (p : Page). p.bytes i ≡ Some b) → held h i ≡ b
        of_page None h i b held_all low is = absurd is
        of_page (Some p) h i b held_all low is = subst (λ o. IfSome o (λ b. held h i ≡ b)) is (held_all i low)

        one : (i : ℕ) → 0 ≤ i → i < 0 + page_size → (held f i == held g i) ≡ true
        one i low high =
            let c = claims i (omega (arith, high)) in
            let a = of_page (pages w k.0 k.1) f i c.0 (holds k f at_k) (omega (arith, high)) c.1 in
            let b = of_page (pages w q.0 q.1) g i c.0 (holds q g at_q) (omega (arith, high)) c.2 in
            ap (λ x. x == held g i) (a ∙ sym b) ∙ same-itself (held g i)

    -- so candidates that claim equal bytes, each byte of theirs, have one frame
    pub equal-bytes : (l : Ledger) → AllSound m w l → HoldClaims w l held → (c d : Key × ℕ)
        → Has c (candidates m held w l [] (map (λ (e : Key × Entry). e.0) l.entries)) → Has d (candidates m held w l [] (map (λ (e : Key × Entry). e.0) l.entries))
        → ClaimSame w c.0 d.0
        → (frame_named (after_notes l (merges m held w l [] (map (λ (e : Key × Entry). e.0) l.entries))) c.0
        ≡ frame_named (after_notes l (merges m held w l [] (map (λ (e : Key × Entry). e.0) l.entries))) d.0)
    equal-bytes l s holds c d has_c has_d claims =
        let named : (c : Key × ℕ) → Has c (candidates m held w l [] (map (λ (e : Key × Entry). e.0) l.entries)) → IsOfFrame l c.1 c.0 =
        λ c has. names-first l [] (map (λ (e : Key × Entry). e.0) l.entries) (of-sound m w l s) (λ j in_list. absurd (false≢true in_list))
        (λ f h j none in_h in_j at_h at_j. absurd (false≢true in_h)) (keys-apart l.entries s.ledger.in_order) c has in
        one-frame l s c d has_c has_d (claims-hold l holds c.0 d.0 c.1 d.1 (named c has_c) (named d has_d) claims)

    -- ---- what becomes of each entry

    -- it stays, or names a merged frame that holds the same
    abbrev Became : Ledger → Ledger → Key → Type 0
    Became l l' k = (entry l' k ≡ entry l k) ⊎ HasJoined held l l' k

    -- a turn leaves merged frames merged, and its page's entry so
    record Makes (l l' : Ledger) (k : Key) : Type 0 where
      merged : (x : ℕ) → is_merged l x ≡ true → is_merged l' x ≡ true
      became : Became l l' k

    makes : (l : Ledger) (earlier : List ℕ) (k : Key) → Holds m w l → AreBefore held l earlier
        → Makes l (after_notes l (merge_notes m held l earlier k (candidate w l k))) k
    makes l earlier k holds before = by (candidate w l k) refl
      where
        into : (f g : ℕ) (l1 : Ledger) → IsCandidate w l k f → entry l1 k ≡ entry l k → mergings l1 f ≡ 0
            → ((x : ℕ) → is_merged l x ≡ true → is_merged l1 x ≡ true) → is_merged l1 g ≡ true → hold_same held g f ≡ true
            → Makes l (change_frame k g l1) k
        into f g l1 c at unmerged still merged like = record {
          merged = λ x is. joined-merged l1 k g f c.seen (at ∙ c.names) unmerged x ∙ still x is;
          became = inr (record {
            was = f;
            frame = g;
            named = ap (option_and_then frame_of) c.names;
            entry_is = joined-entry l1 k g k ∙ ap (λ b. cond b (Some (InFrame g false)) (entry l1 k)) (same_key-itself k);
            merged = joined-merged l1 k g f c.seen (at ∙ c.names) unmerged g ∙ merged;
            same = like;
          });
        }

        more : (j x : ℕ) → mergings (after_note (Shared j) l) x ≡ mergings l x + (cond (x == j) 1 0 + 0)
        more j x = how_many-append (λ y. x == y) l.merged (j ∷ [])

        shared : (j x : ℕ) → is_merged (after_note (Shared j) l) x ≡ (is_merged l x || x == j)
        shared j x = any-counts (λ y. x == y) (after_note (Shared j) l).merged ∙ some-more (mergings l x) (x == j) _ (more j x)
            ∙ ap (λ b. b || x == j) (sym (any-counts (λ y. x == y) l.merged))

        right : (a b : Bool) → b ≡ true → (a || b) ≡ true
        right true b h = refl
        right false b h = h

        joins : (f : ℕ) → IsCandidate w l k f → (a : Option ℕ) → merged_like m held l f ≡ a → (b : Option ℕ) → other_like held earlier f ≡ b
            → Makes l (after_notes l (join_notes k a b)) k
        joins f c (Some g) at b at' = let x = like-is l f g at in
            subst (λ q. Makes l (change_frame q g l) k) (sym (key_at-address k)) (into f g l c refl c.unmerged (λ x is. is) x.0 x.1)
        joins f c None at (Some j) at' =
            let o = other-waits m held l f j earlier holds.sound before at at' in
            subst (λ q. Makes l (change_frame q j (after_note (Shared j) l)) k) (sym (key_at-address k))
            (into f j (after_note (Shared j) l) c refl
            (let e = more j f in let d = flag _ _ (same-turned f j ∙ o.apart) in let z = c.unmerged in omega (arith, e, d, z))
            (λ x is. shared j x ∙ ap (λ b. b || x == j) is) (shared j j ∙ right (is_merged l j) (j == j) (same-itself j)) o.same)
        joins f c None at None at' = record { merged = λ x is. is; became = inl refl }

        by : (o : Option ℕ) → candidate w l k ≡ o → Makes l (after_notes l (merge_notes m held l earlier k o)) k
        by None is = record { merged = λ x is. is; became = inl refl }
        by (Some f) is = joins f (candidate-is w l k f is) (merged_like m held l f) refl (other_like held earlier f) refl

    -- so do the turns that follow
    merged-stays : (l : Ledger) (earlier : List ℕ) (ks : List Key) → Holds m w l → AreBefore held l earlier → AreOne l earlier → (x : ℕ)
        → is_merged l x ≡ true → is_merged (ended l earlier ks) x ≡ true
    merged-stays l earlier [] holds before one x is = is
    merged-stays l earlier (k ∷ ks) holds before one x is =
        let t = turn l earlier k holds before one in
        ap (λ y. is_merged y x) (ended-is l earlier k ks)
        ∙ merged-stays (after_notes l (merge_notes m held l earlier k (candidate w l k))) (with_candidate earlier (candidate w l k)) ks
        t.holds t.before t.parts.one x ((makes l earlier k holds before).merged x is)

    -- and a page that isn't theirs keeps its entry
    entry-stays : (l : Ledger) (earlier : List ℕ) (ks : List Key) → Holds m w l → AreBefore held l earlier → AreOne l earlier → (q : Key)
        → AreOthers q ks → entry (ended l earlier ks) q ≡ entry l q
    entry-stays l earlier [] holds before one q others = refl
    entry-stays l earlier (k ∷ ks) holds before one q others =
        let t = turn l earlier k holds before one in
        ap (λ y. entry y q) (ended-is l earlier k ks)
        ∙ entry-stays (after_notes l (merge_notes m held l earlier k (candidate w l k))) (with_candidate earlier (candidate w l k)) ks
        t.holds t.before t.parts.one q (other-rest q k ks others) ∙ t.parts.others q (other-first q k ks others)

    becomes : (l : Ledger) (earlier : List ℕ) (ks : List Key) → Holds m w l → AreBefore held l earlier → AreOne l earlier → AreApart ks → (q : Key)
        → Became l (ended l earlier ks) q
    becomes l earlier [] holds before one apart q = inl refl
    becomes l earlier (k ∷ ks) holds before one apart q = subst (λ y. Became l y q) (sym (ended-is l earlier k ks))
        (by (becomes l' earlier' ks t.holds t.before t.parts.one apart.1 q) (same_key q k) refl)
      where
        l' : Ledger
        l' = after_notes l (merge_notes m held l earlier k (candidate w l k))

        earlier' : List ℕ
        earlier' = with_candidate earlier (candidate w l k)

        t : Turn l earlier k
        t = turn l earlier k holds before one

        -- its own turn
        mine : Became l l' k → Became l (ended l' earlier' ks) k
        mine (inl e) = inl (entry-stays l' earlier' ks t.holds t.before t.parts.one k apart.0 ∙ e)
        mine (inr x) = inr (record {
          was = x.was;
          frame = x.frame;
          named = x.named;
          entry_is = entry-stays l' earlier' ks t.holds t.before t.parts.one k apart.0 ∙ x.entry_is;
          merged = merged-stays l' earlier' ks t.holds t.before t.parts.one x.frame x.merged;
          same = x.same;
        })

        -- a later one
        later : same_key q k ≡ false → Became l' (ended l' earlier' ks) q → Became l (ended l' earlier' ks) q
        later other (inl e) = inl (e ∙ t.parts.others q other)
        later other (inr x) = inr (record {
          was = x.was;
          frame = x.frame;
          named = ap (option_and_then frame_of) (sym (t.parts.others q other)) ∙ x.named;
          entry_is = x.entry_is;
          merged = x.merged;
          same = x.same;
        })

        by : Became l' (ended l' earlier' ks) q → (b : Bool) → same_key q k ≡ b → Became l (ended l' earlier' ks) q
        by again true is = subst (Became l (ended l' earlier' ks)) (sym (same_key-is q k is)) (mine (makes l earlier k holds before).became)
        by again false is = later is again

    -- ---- what frames hold

    all-in : (p : ℕ → Bool) (a n : ℕ) → list_all p (range_with_len a n) ≡ true → (i : ℕ) → a ≤ i → i < a + n → p i ≡ true
    all-in p a zero h i low high = absurd (omega (arith, low, high))
    all-in p a (suc n) h i low high = let two = split (p a) (list_all p (range_with_len (a + 1) n)) h in by two.0 (all-in p (a + 1) n two.1 i) (i == a) refl
      where
        by : p a ≡ true → (a + 1 ≤ i → i < (a + 1) + n → p i ≡ true) → (b : Bool) → (i == a) ≡ b → p i ≡ true
        by here again true is = ap p (same-is i a is) ∙ here
        by here again false is = again (grind (arith, nat_tests, is, low)) (omega (arith, high))

    -- a frame that holds the same holds what the page claims
    holds-same : (x : Option Page) (f g : ℕ) → hold_same held g f ≡ true → HoldsAt x (held f) → HoldsAt x (held g)
    holds-same None f g like h = tt
    holds-same (Some p) f g like h = λ i low. by i (all-in (λ i. held g i == held f i) 0 page_size like i (omega arith) (omega (arith, low))) (p.bytes i) (h i low)
      where
        by : (i : ℕ) → (held g i == held f i) ≡ true → (o : Option ℕ) → IfSome o (λ b. held f i ≡ b) → IfSome o (λ b. held g i ≡ b)
        by i is None h = tt
        by i is (Some b) h = same-is (held g i) (held f i) is ∙ h

    -- each page that joined a frame claims what that holds
    pub still-held : (l l' : Ledger) → HoldClaims w l held → ((k : Key) → Became l l' k) → HoldClaims w l' held
    still-held l l' holds became k f names = by (became k)
      where
        named : (o : Option Entry) (f : ℕ) → option_and_then frame_of o ≡ Some f → IsSomeAnd o (λ e. names_frame f e ≡ true)
        named None f is = cc
        named (Some Zero) f is = cc
        named (Some (InSlot s)) f is = cc
        named (Some (InFrame j seen)) f is = let same : j ≡ f = cc in ap (λ x. f == x) same ∙ same-itself f

        by : Became l l' k → HoldsAt (pages w k.0 k.1) (held f)
        by (inl e) = holds k f (subst (λ o. IsSomeAnd o (λ e. names_frame f e ≡ true)) e names)
        by (inr x) =
            let is : (f == x.frame) ≡ true = subst (λ o. IsSomeAnd o (λ e. names_frame f e ≡ true)) x.entry_is names in
            subst (λ g. HoldsAt (pages w k.0 k.1) (held g)) (sym (same-is f x.frame is))
            (holds-same (pages w k.0 k.1) x.was x.frame x.same (holds k x.was (named (entry l k) x.was x.named)))

    pub all-become : (l : Ledger) → AllSound m w l → (k : Key)
        → Became l (after_notes l (merges m held w l [] (map (λ (e : Key × Entry). e.0) l.entries))) k
    all-become l s k = becomes l [] (map (λ (e : Key × Entry). e.0) l.entries) (of-sound m w l s) (λ j in_list. absurd (false≢true in_list))
        (λ f h j none in_h in_j at_h at_j. absurd (false≢true in_h)) (keys-apart l.entries s.ledger.in_order) k

-- so it is after the command
pub merge-one_frame : (m : Setting) (w : World) (l : Ledger) (events : List Event) (answer : Answer) (rows : List Row) → AllSound m w l
    → (h : Merges m w l events answer rows) (c d : Key × ℕ) → Has c (candidates m h.0 w l [] (map (λ (e : Key × Entry). e.0) l.entries))
    → Has d (candidates m h.0 w l [] (map (λ (e : Key × Entry). e.0) l.entries)) → ClaimSame w c.0 d.0
    → frame_named (after_all l events) c.0 ≡ frame_named (after_all l events) d.0
merge-one_frame m w l events answer rows s h c d has_c has_d same = subst (λ x. frame_named x c.0 ≡ frame_named x d.0)
    (sym (ap (after_all l) h.2 ∙ note_events-all l (merges m h.0 w l [] (map (λ (e : Key × Entry). e.0) l.entries))))
    (equal-bytes m h.0 w l s h.1 c d has_c has_d same)

-- each entry stays, or names a merged frame that holds the same
pub merge-joins : (m : Setting) (w : World) (l : Ledger) (events : List Event) (answer : Answer) (rows : List Row) → AllSound m w l
    → (h : Merges m w l events answer rows) (k : Key) → (entry (after_all l events) k ≡ entry l k) ⊎ HasJoined h.0 l (after_all l events) k
merge-joins m w l events answer rows s h k = subst (λ x. (entry x k ≡ entry l k) ⊎ HasJoined h.0 l x k)
    (sym (ap (after_all l) h.2 ∙ note_events-all l (merges m h.0 w l [] (map (λ (e : Key × Entry). e.0) l.entries)))) (all-become m h.0 w l s k)

-- so no page has other bytes
pub merge-bytes : (m : Setting) (w : World) (l : Ledger) (events : List Event) (answer : Answer) (rows : List Row) → AllSound m w l
    → (h : Merges m w l events answer rows) → HoldClaims w (after_all l events) h.0
merge-bytes m w l events answer rows s h = still-held m h.0 w l (after_all l events) h.1 (merge-joins m w l events answer rows s h)
