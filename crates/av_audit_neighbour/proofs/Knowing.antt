-- What is known of what frames hold says what a candidate joins, and stays right as pages join and frames are merged.
use Rattle.std.proofs.Common.{◌≡◌, ◌⊎◌, inl, inr, ℕ, zero, suc, ◌+◌, ◌<◌, Bool, true, false, cond, not, ◌&&◌, ◌||◌, ◌==◌, nat_lt, List, [], ◌∷◌, ◌++◌, filter, Option, Some, None, refl, sym, ap, subst, ◌∙◌, arith}
use Rattle.std.proofs.lemmas.Bool.{false≢true}
use Rattle.std.proofs.lemmas.Bool.Decides.{nat_tests}
use Rattle.std.proofs.lemmas.List.Folds.{find-append, list_any-append}
use Rattle.std.specs.List.{find, list_all, list_any, range_with_len}
use Rattle.std.specs.Option.{option_or}
use Rattle.std.specs.Prelude.{IsSomeAnd}
use Rattle.av_base.specs.Keys.{Key, same_key}
use Rattle.av_base.specs.Page.{address_of, page_size}
use Rattle.av_trace.specs.declared.note.Note.{Note}
use Rattle.av_trace.specs.declared.note.Note.TheVariants.{Joined, Shared}
use Rattle.av_plain.specs.Event.{after_note, after_notes, change_frame}
use Rattle.av_plain.specs.Ledger.{Entry, InFrame, Ledger, Setting, entry, is_merged, names_frame}
use Rattle.av_plain.specs.Merge.{FrameBytes, hold_same, join_notes, merge_notes, merged_like, other_like}
use Rattle.av_plain.specs.Sound.{AllSound, mergings}
use Rattle.av_plain.specs.World.{World}
use Rattle.av_plain.proofs.Event.{changed-by}
use Rattle.av_plain.proofs.Ledger.{entry-set}
use Rattle.av_plain.proofs.Ledger.NoSwap.{key_at-address}
use Rattle.av_plain.proofs.Sound.Changes.{any-counts}
use Rattle.av_plain.proofs.Sound.Counts.{same-is, same-itself, same-turned}
use Rattle.av_plain.proofs.Sound.Frames.{IsCandidate, found-is, found-none, in_range-is, merged-joined, same-then, split}
use Rattle.av_plain.proofs.Sound.Means.{says}
use Rattle.av_audit_neighbour.specs.Known.{AreInRange, Knows, MayJoin, Waits, first_like, known_at_first, turn_notes}

none-some : {A : Type 0} (x : A) → None ≡ Some x → ⊥
none-some x e = cc

some-is : {A : Type 0} (x y : A) → Some x ≡ Some y → x ≡ y
some-is x y e = cc

right : (a : Bool) {b : Bool} → b ≡ true → (a || b) ≡ true
right true h = refl
right false h = h

-- ---- frames that hold the same

all-turned : (held : FrameBytes) (f g : ℕ) (is : List ℕ) → list_all (λ i. held f i == held g i) is ≡ list_all (λ i. held g i == held f i) is
all-turned held f g [] = refl
all-turned held f g (i ∷ is) = λ j. same-turned (held f i) (held g i) j && all-turned held f g is j

holds-turned : (held : FrameBytes) (f g : ℕ) → hold_same held f g ≡ hold_same held g f
holds-turned held f g = all-turned held f g (range_with_len 0 page_size)

-- what holds the same as the one holds the same as the other
holds-as : (held : FrameBytes) (f g x : ℕ) → hold_same held f g ≡ true → hold_same held x f ≡ hold_same held x g
holds-as held f g x same = by (hold_same held x f) (hold_same held x g) refl refl
  where
    by : (a b : Bool) → hold_same held x f ≡ a → hold_same held x g ≡ b → a ≡ b
    by true true e i = refl
    by false false e i = refl
    by true false e i = sym (same-then held x f g e same) ∙ i
    by false true e i = sym e ∙ same-then held x g f i (holds-turned held g f ∙ same)

pub first-as : (held : FrameBytes) (f g : ℕ) → hold_same held f g ≡ true → (known : List ℕ) → first_like held known f ≡ first_like held known g
first-as held f g same known = λ i. find (λ x. holds-as held f g x same i) known

merged-as : (m : Setting) (held : FrameBytes) (f g : ℕ) → hold_same held f g ≡ true → (l : Ledger) → merged_like m held l f ≡ merged_like m held l g
merged-as m held f g same l = λ i. find (λ x. is_merged l x && holds-as held f g x same i) (range_with_len 0 m.frames)

-- the one that is found holds the same
first-holds : (held : FrameBytes) (known : List ℕ) (g y : ℕ) → first_like held known g ≡ Some y → hold_same held y g ≡ true
first-holds held known g y e = (found-is (λ x. hold_same held x g) known y e).0

-- ---- a frame is one of those before

-- at the end of them
other-more : (held : FrameBytes) (earlier : List ℕ) (f g : ℕ)
    → other_like held (earlier ++ f ∷ []) g ≡ option_or (other_like held earlier g) (cond (not (f == g) && hold_same held f g) (Some f) None)
other-more held earlier f g = find-append (λ h. not (h == g) && hold_same held h g) earlier (f ∷ [])

-- it changes nothing where it holds something else
other-unlike : (held : FrameBytes) (earlier : List ℕ) (f g : ℕ) → hold_same held f g ≡ false
    → other_like held (earlier ++ f ∷ []) g ≡ other_like held earlier g
other-unlike held earlier f g unlike = other-more held earlier f g
    ∙ ap (λ b. option_or (other_like held earlier g) (cond (not (f == g) && b) (Some f) None)) unlike
    ∙ by (not (f == g)) (other_like held earlier g)
  where
    by : (b : Bool) (o : Option ℕ) → option_or o (cond (b && false) (Some f) None) ≡ o
    by true None = refl
    by true (Some x) = refl
    by false None = refl
    by false (Some x) = refl

-- nor where it is one of them already, or the frame itself
other-again : (held : FrameBytes) (earlier : List ℕ) (f g : ℕ) → other_like held earlier g ≡ cond (f == g) None (Some f)
    → other_like held (earlier ++ f ∷ []) g ≡ cond (f == g) None (Some f)
other-again held earlier f g is = other-more held earlier f g ∙ by (f == g) is
  where
    by : (b : Bool) → other_like held earlier g ≡ cond b None (Some f)
        → option_or (other_like held earlier g) (cond (not b && hold_same held f g) (Some f) None) ≡ cond b None (Some f)
    by true e = ap (λ o. option_or o None) e
    by false e = ap (λ o. option_or o (cond (hold_same held f g) (Some f) None)) e

waits-unlike : (m : Setting) (held : FrameBytes) (l l' : Ledger) (earlier : List ℕ) (f g y : ℕ) → hold_same held f g ≡ false
    → merged_like m held l' g ≡ merged_like m held l g → Waits m held l earlier g y → Waits m held l' (earlier ++ f ∷ []) g y
waits-unlike m held l l' earlier f g y unlike still w = record {
  below = w.below;
  merged = still ∙ w.merged;
  other = other-unlike held earlier f g unlike ∙ w.other;
}

-- ---- what is known stays right

module _ (m : Setting) (held : FrameBytes) (l : Ledger) (earlier known : List ℕ) (h : Knows m held l earlier known) (f : ℕ) where
  -- nothing like it is known: it is from now on
  pub knows-more : f < m.frames → first_like held known f ≡ None → Knows m held l (earlier ++ f ∷ []) (known ++ f ∷ [])
  knows-more below new g = subst (MayJoin m held l (earlier ++ f ∷ []) g)
      (sym (find-append (λ x. hold_same held x g) known (f ∷ [])))
      (by (first_like held known g) (hold_same held f g) refl refl (h g))
    where
      by : (o : Option ℕ) (b : Bool) → first_like held known g ≡ o → hold_same held f g ≡ b → MayJoin m held l earlier g o
          → MayJoin m held l (earlier ++ f ∷ []) g (option_or o (cond b (Some f) None))
      by (Some x) true e i may = absurd (none-some x (sym new ∙ first-as held f g i known ∙ e))
      by (Some x) false e i (inl is) = inl is
      by (Some x) false e i (inr w) = inr (waits-unlike m held l l earlier f g x i refl w)
      by None true e i may = inr (record {
        below = below;
        merged = may.0;
        other = other-more held earlier f g ∙ first (f == g) (hold_same held f g) i may.1;
      })
        where
          first : (b c : Bool) → c ≡ true → other_like held earlier g ≡ None
              → option_or (other_like held earlier g) (cond (not b && c) (Some f) None) ≡ cond b None (Some f)
          first true true c o = ap (λ x. option_or x None) o
          first false true c o = ap (λ x. option_or x (Some f)) o
          first b false c o = absurd (false≢true c)
      by None false e i may = (may.0, other-unlike held earlier f g i ∙ may.1)

  module _ (x : ℕ) (is : first_like held known f ≡ Some x) where
    -- where another frame holds something else all is as it was
    unlike-still : (l' : Ledger) (g : ℕ) → hold_same held f g ≡ false → merged_like m held l' g ≡ merged_like m held l g
        → MayJoin m held l' (earlier ++ f ∷ []) g (first_like held known g)
    unlike-still l' g i still = by (first_like held known g) (h g)
      where
        by : (o : Option ℕ) → MayJoin m held l earlier g o → MayJoin m held l' (earlier ++ f ∷ []) g o
        by None may = (still ∙ may.0, other-unlike held earlier f g i ∙ may.1)
        by (Some y) (inl least) = inl (still ∙ least)
        by (Some y) (inr w) = inr (waits-unlike m held l l' earlier f g y i still w)

    -- it is known itself, and isn't merged
    pub knows-again : Waits m held l earlier f x → x ≡ f → Knows m held l (earlier ++ f ∷ []) known
    knows-again w same g = by (hold_same held f g) refl
      where
        by : (b : Bool) → hold_same held f g ≡ b → MayJoin m held l (earlier ++ f ∷ []) g (first_like held known g)
        by false i = unlike-still l g i refl
        by true i = subst (MayJoin m held l (earlier ++ f ∷ []) g) (sym (sym (first-as held f g i known) ∙ is))
            (may (first_like held known g) (sym (first-as held f g i known) ∙ is) (h g))
          where
            may : (o : Option ℕ) → o ≡ Some x → MayJoin m held l earlier g o → MayJoin m held l (earlier ++ f ∷ []) g (Some x)
            may None e k = absurd (none-some x e)
            may (Some y) e (inl least) = absurd (none-some y (sym w.merged ∙ merged-as m held f g i l ∙ least))
            may (Some y) e (inr v) = let one : y ≡ f = some-is y x e ∙ same in inr (record {
              below = w.below;
              merged = v.merged;
              other = subst (λ z. other_like held (earlier ++ f ∷ []) g ≡ cond (z == g) None (Some z)) (sym same)
                  (other-again held earlier f g (subst (λ z. other_like held earlier g ≡ cond (z == g) None (Some z)) one v.other));
            })

    -- it joins a merged frame
    pub knows-joined : (l' : Ledger) → ((g : ℕ) → is_merged l' g ≡ is_merged l g) → merged_like m held l f ≡ Some x
        → Knows m held l' (earlier ++ f ∷ []) known
    knows-joined l' gone least g = by (hold_same held f g) refl
      where
        still : merged_like m held l' g ≡ merged_like m held l g
        still = λ i. find (λ j. gone j i && hold_same held j g) (range_with_len 0 m.frames)

        by : (b : Bool) → hold_same held f g ≡ b → MayJoin m held l' (earlier ++ f ∷ []) g (first_like held known g)
        by false i = unlike-still l' g i still
        by true i = subst (MayJoin m held l' (earlier ++ f ∷ []) g) (sym (sym (first-as held f g i known) ∙ is))
            (inl (still ∙ sym (merged-as m held f g i l) ∙ least))

-- the only one that passes is found
found-new : (p p' : ℕ → Bool) (y : ℕ) (xs : List ℕ) → ((j : ℕ) → (j == y) ≡ false → p' j ≡ p j) → p' y ≡ true → find p xs ≡ None
    → list_any (λ j. y == j) xs ≡ true → find p' xs ≡ Some y
found-new p p' y [] same is none among = absurd (false≢true among)
found-new p p' y (x ∷ xs) same is none among = by (x == y) refl (found-new p p' y xs same is) none among
  where
    passes : (b : Bool) → p x ≡ b → cond b (Some x) (find p xs) ≡ None → (p x ≡ false) × (find p xs ≡ None)
    passes true e n = absurd (none-some x (sym n))
    passes false e n = (e, n)

    by : (b : Bool) → (x == y) ≡ b → (find p xs ≡ None → list_any (λ j. y == j) xs ≡ true → find p' xs ≡ Some y)
        → find p (x ∷ xs) ≡ None → list_any (λ j. y == j) (x ∷ xs) ≡ true → find p' (x ∷ xs) ≡ Some y
    by true e rest n a = ap (λ b. cond b (Some x) (find p' xs)) (ap p' (same-is x y e) ∙ is) ∙ ap Some (same-is x y e)
    by false e rest n a =
        let t = passes (p x) refl n in
        ap (λ b. cond b (Some x) (find p' xs)) (same x e ∙ t.0)
        ∙ rest t.1 (sym (ap (λ b. b || list_any (λ j. y == j) xs) (sym (same-turned x y) ∙ e)) ∙ a)

module _ (m : Setting) (held : FrameBytes) (l : Ledger) (earlier known : List ℕ) (h : Knows m held l earlier known) (f x : ℕ)
    (is : first_like held known f ≡ Some x) where
  -- it joins a frame that is merged for it
  pub knows-shared : (l' : Ledger) → ((g : ℕ) → is_merged l' g ≡ (is_merged l g || g == x)) → Waits m held l earlier f x
      → Knows m held l' (earlier ++ f ∷ []) known
  knows-shared l' gone w g = by (hold_same held f g) refl
    where
      same-x : hold_same held x f ≡ true
      same-x = first-holds held known f x is

      merged-x : is_merged l' x ≡ true
      merged-x = gone x ∙ ap (λ b. is_merged l x || b) (same-itself x) ∙ right (is_merged l x) refl

      left : (b c : Bool) → c ≡ false → (b || c) ≡ b
      left true c e = refl
      left false c e = e

      merged-still : (j : ℕ) → (j == x) ≡ false → is_merged l' j ≡ is_merged l j
      merged-still j e = gone j ∙ left (is_merged l j) (j == x) e

      -- it is the only one that is merged and holds the same
      like-now : hold_same held f g ≡ true → merged_like m held l' g ≡ Some x
      like-now i = found-new (λ j. is_merged l j && hold_same held j g) (λ j. is_merged l' j && hold_same held j g) x (range_with_len 0 m.frames)
          (λ j e. ap (λ b. b && hold_same held j g) (merged-still j e))
          (λ n. merged-x n && (sym (holds-as held f g x i) ∙ same-x) n)
          (sym (merged-as m held f g i l) ∙ w.merged)
          (let low = w.below in in_range-is 0 m.frames x (omega arith) (omega (arith, low)))

      unlike-x : hold_same held f g ≡ false → hold_same held x g ≡ false
      unlike-x i = each (hold_same held x g) refl
        where
          each : (b : Bool) → hold_same held x g ≡ b → b ≡ false
          each true e = absurd (false≢true (sym i ∙ same-then held f x g (holds-turned held f x ∙ same-x) e))
          each false e = refl

      like-still : hold_same held f g ≡ false → merged_like m held l' g ≡ merged_like m held l g
      like-still i = λ n. find (λ j. each j (j == x) refl n) (range_with_len 0 m.frames)
        where
          none : (b : Bool) {c : Bool} → c ≡ false → (b && c) ≡ false
          none true e = e
          none false e = refl

          each : (j : ℕ) (b : Bool) → (j == x) ≡ b → (is_merged l' j && hold_same held j g) ≡ (is_merged l j && hold_same held j g)
          each j true e = let u = ap (λ z. hold_same held z g) (same-is j x e) ∙ unlike-x i in
              none (is_merged l' j) u ∙ sym (none (is_merged l j) u)
          each j false e = ap (λ b. b && hold_same held j g) (merged-still j e)

      by : (b : Bool) → hold_same held f g ≡ b → MayJoin m held l' (earlier ++ f ∷ []) g (first_like held known g)
      by false i = unlike-still m held l earlier known h f x is l' g i (like-still i)
      by true i = subst (MayJoin m held l' (earlier ++ f ∷ []) g) (sym (sym (first-as held f g i known) ∙ is)) (inl (like-now i))

-- ---- what a join leaves

merged-kept : (l : Ledger) (k : Key) (f own : ℕ) (seen : Bool) → entry l k ≡ Some (InFrame own seen) → is_merged l own ≡ false → (j : ℕ)
    → is_merged (change_frame k f l) j ≡ is_merged l j
merged-kept l k f own seen names unmerged j = any-counts (λ x. j == x) (change_frame k f l).merged
    ∙ ap (nat_lt 0) (merged-joined l k f own seen names (none (mergings l own) (sym (any-counts (λ x. own == x) l.merged) ∙ unmerged)) j)
    ∙ sym (any-counts (λ x. j == x) l.merged)
  where
    none : (n : ℕ) → nat_lt 0 n ≡ false → n ≡ 0
    none n e = grind (arith, nat_tests, e)

-- one frame more is merged
merged-more : (l : Ledger) (f g : ℕ) → is_merged (after_note (Shared f) l) g ≡ (is_merged l g || g == f)
merged-more l f g = list_any-append (λ x. g == x) l.merged (f ∷ []) ∙ ap (λ b. is_merged l g || b) (last (g == f))
  where
    last : (b : Bool) → (b || false) ≡ b
    last true = refl
    last false = refl

-- an entry that has changed names a frame of the machine, if the new one is
range-joined : (m : Setting) (l : Ledger) (k : Key) (f : ℕ) → f < m.frames → AreInRange m l → AreInRange m (change_frame k f l)
range-joined m l k f below fit q g names = by (same_key q k) (subst (λ o. IsSomeAnd o (λ e. names_frame g e ≡ true))
    (changed-by (λ x. entry x q) (λ j x. refl) k f l ∙ entry-set k (InFrame f false) l q) names)
  where
    by : (b : Bool) → IsSomeAnd (cond b (Some (InFrame f false)) (entry l q)) (λ e. names_frame g e ≡ true) → g < m.frames
    by true h = subst (λ n. n < m.frames) (sym (same-is g f h)) below
    by false h = fit q g h

range-below : (a n y : ℕ) → list_any (λ x. y == x) (range_with_len a n) ≡ true → y < a + n
range-below a zero y there = absurd (false≢true there)
range-below a (suc n) y there = by (y == a) refl there (range-below (a + 1) n y)
  where
    by : (b : Bool) → (y == a) ≡ b → (b || list_any (λ x. y == x) (range_with_len (a + 1) n)) ≡ true
        → (list_any (λ x. y == x) (range_with_len (a + 1) n) ≡ true → y < (a + 1) + n) → y < a + suc n
    by true e h rest = let same = same-is y a e in omega (arith, same)
    by false e h rest = let below = rest h in omega (arith, below)

pub range-sound : (m : Setting) (w : World) (l : Ledger) → AllSound m w l → AreInRange m l
range-sound m w l sound k f names = by (entry l k) refl names
  where
    by : (o : Option Entry) → entry l k ≡ o → IsSomeAnd o (λ e. names_frame f e ≡ true) → f < m.frames
    by None e h = absurd h
    by (Some v) e h = (says m w l sound).frames k v f e h

-- ---- a turn

module _ (m : Setting) (held : FrameBytes) (w : World) (l : Ledger) (earlier known : List ℕ) (h : Knows m held l earlier known) (fit : AreInRange m l)
    (k : Key) (f : ℕ) (c : IsCandidate w l k f) where
  own-below : f < m.frames
  own-below = fit k f (subst (λ o. IsSomeAnd o (λ e. names_frame f e ≡ true)) (sym c.names) (same-itself f))

  own-unmerged : is_merged l f ≡ false
  own-unmerged = any-counts (λ x. f == x) l.merged ∙ ap (nat_lt 0) c.unmerged

  -- nothing like it is known
  pub turn-new : first_like held known f ≡ None
      → (merge_notes m held l earlier k (Some f) ≡ []) × Knows m held l (earlier ++ f ∷ []) (known ++ f ∷ [])
  turn-new is = let may = subst (MayJoin m held l earlier f) is (h f) in
      ((λ n. join_notes k (may.0 n) (may.1 n)), knows-more m held l earlier known h f own-below is)

  -- or this frame is
  module _ (x : ℕ) (is : first_like held known f ≡ Some x) where
    abbrev Turns : List Note → Type 0
    Turns notes = (merge_notes m held l earlier k (Some f) ≡ notes) × Knows m held (after_notes l notes) (earlier ++ f ∷ []) known
        × AreInRange m (after_notes l notes)

    at-key : (mid : Ledger) → after_note (Joined k.0 (address_of k.1) x) mid ≡ change_frame k x mid
    at-key mid = ap (λ q. change_frame q x mid) (key_at-address k)

    turn-joins : merged_like m held l f ≡ Some x → (is_merged l x ≡ true) × Turns (Joined k.0 (address_of k.1) x ∷ [])
    turn-joins least = let found = found-is (λ g. is_merged l g && hold_same held g f) (range_with_len 0 m.frames) x least in (
      (split (is_merged l x) (hold_same held x f) found.0).0,
      (
        (λ n. join_notes k (least n) (other_like held earlier f)),
        subst (λ l'. Knows m held l' (earlier ++ f ∷ []) known) (sym (at-key l))
            (knows-joined m held l earlier known h f x is (change_frame k x l) (merged-kept l k x f c.seen c.names own-unmerged) least),
        subst (AreInRange m) (sym (at-key l)) (range-joined m l k x (let low = range-below 0 m.frames x found.1 in omega (arith, low)) fit),
      ),
    )

    waits-unmerged : Waits m held l earlier f x → is_merged l x ≡ false
    waits-unmerged wait = by (is_merged l x) (hold_same held x f) (first-holds held known f x is)
        (found-none (λ g. is_merged l g && hold_same held g f) (range_with_len 0 m.frames) wait.merged x
        (let low = wait.below in in_range-is 0 m.frames x (omega arith) (omega (arith, low))))
      where
        by : (a b : Bool) → b ≡ true → (a && b) ≡ false → a ≡ false
        by true b e i = absurd (false≢true (sym i ∙ e))
        by false b e i = refl

    turn-waits : Waits m held l earlier f x → (b : Bool) → (x == f) ≡ b
        → Turns (cond b [] (Shared x ∷ Joined k.0 (address_of k.1) x ∷ []))
    turn-waits wait true same = (
      (λ n. join_notes k (wait.merged n) ((wait.other ∙ ap (λ b. cond b None (Some x)) same) n)),
      knows-again m held l earlier known h f x is wait (same-is x f same),
      fit,
    )
    turn-waits wait false apart =
        let mid = after_note (Shared x) l in
        let unmerged : is_merged mid f ≡ false = merged-more l x f ∙ (λ n. own-unmerged n || (sym (same-turned x f) ∙ apart) n) in (
          (λ n. join_notes k (wait.merged n) ((wait.other ∙ ap (λ b. cond b None (Some x)) apart) n)),
          subst (λ l'. Knows m held l' (earlier ++ f ∷ []) known) (sym (at-key mid))
              (knows-shared m held l earlier known h f x is (change_frame k x mid)
              (λ g. merged-kept mid k x f c.seen c.names unmerged g ∙ merged-more l x g) wait),
          subst (AreInRange m) (sym (at-key mid)) (range-joined m mid k x wait.below fit),
        )

    pub turn-taken : Turns (turn_notes l k f x)
    turn-taken = by (subst (MayJoin m held l earlier f) is (h f))
      where
        by : (merged_like m held l f ≡ Some x) ⊎ Waits m held l earlier f x → Turns (turn_notes l k f x)
        by (inl least) = let t = turn-joins least in
            subst (λ b. Turns (cond b (Joined k.0 (address_of k.1) x ∷ []) (cond (x == f) [] (Shared x ∷ Joined k.0 (address_of k.1) x ∷ []))))
            (sym t.0) t.1
        by (inr wait) =
            subst (λ b. Turns (cond b (Joined k.0 (address_of k.1) x ∷ []) (cond (x == f) [] (Shared x ∷ Joined k.0 (address_of k.1) x ∷ []))))
            (sym (waits-unmerged wait)) (turn-waits wait (x == f) refl)

-- ---- before the first page

pub known-first : (m : Setting) (held : FrameBytes) (l : Ledger) → Knows m held l [] (known_at_first m l)
known-first m held l f = subst (MayJoin m held l [] f) (sym (first-merged (range_with_len 0 m.frames))) (by (merged_like m held l f) refl)
  where
    first-merged : (xs : List ℕ) → first_like held (filter (is_merged l) xs) f ≡ find (λ g. is_merged l g && hold_same held g f) xs
    first-merged [] = refl
    first-merged (x ∷ xs) = each (is_merged l x) (first-merged xs)
      where
        each : (a : Bool) → first_like held (filter (is_merged l) xs) f ≡ find (λ g. is_merged l g && hold_same held g f) xs
            → first_like held (cond a (x ∷ filter (is_merged l) xs) (filter (is_merged l) xs)) f
            ≡ cond (a && hold_same held x f) (Some x) (find (λ g. is_merged l g && hold_same held g f) xs)
        each true e = ap (cond (hold_same held x f) (Some x)) e
        each false e = e

    by : (o : Option ℕ) → merged_like m held l f ≡ o → MayJoin m held l [] f o
    by None e = (e, refl)
    by (Some g) e = inl e
