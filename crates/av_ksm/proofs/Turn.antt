-- A candidate in its turn: which notes there are, by what is known; and what a join leaves.
use Rattle.std.proofs.Common.{◌≡◌, ◌⊎◌, inl, inr, ℕ, Bool, true, false, cond, ◌&&◌, ◌<◌, ◌==◌, nat_lt, List, [], ◌∷◌, ◌++◌, map, filter, Option, Some, None, option_map, refl, sym, ap, subst, ◌∙◌}
use Rattle.std.proofs.lemmas.Bool.{false≢true}
use Rattle.std.specs.List.{find, range_with_len}
use Rattle.av_base.specs.Keys.{Key, same_key}
use Rattle.av_base.specs.Page.{address_of}
use Rattle.av_trace.specs.declared.note.Note.{Note}
use Rattle.av_trace.specs.declared.note.Note.TheVariants.{Joined, Shared}
use Rattle.av_plain.specs.Event.{after_note, after_notes, change_frame, key_at}
use Rattle.av_plain.specs.Ledger.{InFrame, Ledger, Setting, entry, is_merged, slot_of}
use Rattle.av_plain.specs.Merge.{FrameBytes, hold_same, join_notes, merge_notes, merged_like, other_like}
use Rattle.av_plain.proofs.Event.{changed-by}
use Rattle.av_plain.proofs.Ledger.{entry-set}
use Rattle.av_plain.proofs.Ledger.NoSwap.{key_at-address}
use Rattle.av_plain.proofs.Sound.Changes.{any-counts}
use Rattle.av_plain.proofs.Sound.Counts.{same-is, same-itself, same-turned}
use Rattle.av_plain.proofs.Sound.Frames.{found-is, merged-joined, split}
use Rattle.av_ksm.specs.Join.{HasOwn}
use Rattle.av_ksm.specs.Known.{IsLeast, Known, Knows, MayJoin, TakesTurn, Waits, as_merged, first_like, known_at_first}
use Rattle.av_ksm.proofs.Knowing.{HasGone, HasMergedToo, knows-again, knows-joined, knows-more, knows-shared}
use Rattle.av_ksm.proofs.ShareStep.{merged-more, merged-other, unmerged-none}

-- ---- the notes

module _ (m : Setting) (held : FrameBytes) (l : Ledger) (earlier : List ℕ) (known : List Known) (h : Knows m held l earlier known) (k : Key) (f : ℕ)
    (seen : Bool) (own : HasOwn l k f seen) where
  -- by which it joins, or not
  notes-by : (a b : Option ℕ) → merged_like m held l f ≡ a → other_like held earlier f ≡ b
      → merge_notes m held l earlier k (Some f) ≡ join_notes k a b
  notes-by a b e i = λ n. join_notes k (e n) (i n)

  -- nothing like it is known
  pub turn-new : first_like held known f ≡ None → merge_notes m held l earlier k (Some f) ≡ []
  turn-new is = let may = subst (MayJoin m held l earlier f) is (h f) in notes-by None None may.0 may.1

  module _ (x : Known) (is : first_like held known f ≡ Some x) where
    abbrev may : MayJoin m held l earlier f (Some x)
    may = subst (MayJoin m held l earlier f) is (h f)

    -- it is known itself
    pub turn-again : x.0 ≡ f → merge_notes m held l earlier k (Some f) ≡ []
    turn-again same = by may
      where
        by : IsLeast m held l f x ⊎ Waits m held l earlier f x → merge_notes m held l earlier k (Some f) ≡ []
        by (inl least) = absurd (false≢true (sym own.unmerged ∙ ap (is_merged l) (sym same) ∙ least.merged))
        by (inr w) = notes-by None None w.merged
            (w.other ∙ ap (λ b. cond b None (Some x.0)) (ap (λ z. z == f) same ∙ same-itself f))

    -- what holds the same is merged
    pub turn-joins : is_merged l x.0 ≡ true
        → IsLeast m held l f x × (merge_notes m held l earlier k (Some f) ≡ Joined k.0 (address_of k.1) x.0 ∷ [])
    turn-joins merged = by may
      where
        by : IsLeast m held l f x ⊎ Waits m held l earlier f x
            → IsLeast m held l f x × (merge_notes m held l earlier k (Some f) ≡ Joined k.0 (address_of k.1) x.0 ∷ [])
        by (inl least) = (least, notes-by (Some x.0) (other_like held earlier f) least.least refl)
        by (inr w) = absurd (false≢true (sym w.at.own.unmerged ∙ merged))

    -- or is not, and another one
    pub turn-shares : is_merged l x.0 ≡ false → (x.0 == f) ≡ false → Waits m held l earlier f x
        × (merge_notes m held l earlier k (Some f) ≡ Shared x.0 ∷ Joined k.0 (address_of k.1) x.0 ∷ [])
    turn-shares unmerged other = by may
      where
        by : IsLeast m held l f x ⊎ Waits m held l earlier f x → Waits m held l earlier f x
            × (merge_notes m held l earlier k (Some f) ≡ Shared x.0 ∷ Joined k.0 (address_of k.1) x.0 ∷ [])
        by (inl least) = absurd (false≢true (sym unmerged ∙ least.merged))
        by (inr w) = (w, notes-by None (Some x.0) w.merged (w.other ∙ ap (λ b. cond b None (Some x.0)) other))

-- ---- what a join leaves

module _ (l : Ledger) (k : Key) (f g : ℕ) (seen : Bool) (own : HasOwn l k g seen) where
  merged-still : (j : ℕ) → is_merged (change_frame k f l) j ≡ is_merged l j
  merged-still j = any-counts (λ x. j == x) (change_frame k f l).merged
      ∙ ap (nat_lt 0) (merged-joined l k f g seen own.names (unmerged-none l g own.unmerged) j) ∙ sym (any-counts (λ x. j == x) l.merged)

  entry-still : (q : Key) → same_key q k ≡ false → entry (change_frame k f l) q ≡ entry l q
  entry-still q other = changed-by (λ x. entry x q) (λ j x. refl) k f l ∙ entry-set k (InFrame f false) l q
      ∙ ap (λ b. cond b (Some (InFrame f false)) (entry l q)) other

  slot-still : (j : ℕ) → slot_of (change_frame k f l) j ≡ slot_of l j
  slot-still j = changed-by (λ x. slot_of x j) (λ i x. refl) k f l

  pub has-gone : HasGone l (change_frame k f l) k
  has-gone = record {
    merged = merged-still;
    own = λ q j s other o. record {
      names = entry-still q other ∙ o.names;
      unmerged = merged-still j ∙ o.unmerged;
      uncached = slot-still j ∙ o.uncached;
    };
  }

-- and where the frame was merged for it
pub has-merged-too : (l : Ledger) (k : Key) (f g : ℕ) (seen : Bool) → HasOwn l k g seen → (g == f) ≡ false
    → HasMergedToo l (change_frame k f (after_note (Shared f) l)) k f
has-merged-too l k f g seen own apart =
    let mid = after_note (Shared f) l in
    let own' : HasOwn mid k g seen = record {
      names = own.names;
      unmerged = merged-other l f g apart ∙ own.unmerged;
      uncached = own.uncached;
    } in
    let gone = has-gone mid k f g seen own' in
    record {
      merged = λ j. gone.merged j ∙ merged-more l f j;
      own = λ q j s other apart' o. gone.own q j s other (record {
        names = o.names;
        unmerged = merged-other l f j apart' ∙ o.unmerged;
        uncached = o.uncached;
      });
    }

-- ---- the whole

-- the notes, by whether it is the frame itself, and whether it is merged
abbrev notes_by_tests : Key → ℕ → Bool → Bool → List Note
notes_by_tests k g again merged =
    cond again [] (cond merged (Joined k.0 (address_of k.1) g ∷ []) (Shared g ∷ Joined k.0 (address_of k.1) g ∷ []))

module _ (m : Setting) (held : FrameBytes) (l : Ledger) (earlier : List ℕ) (known : List Known) (h : Knows m held l earlier known) (k : Key) (f : ℕ)
    (seen : Bool) (own : HasOwn l k f seen) where
  -- the key of the page's address
  at-key : key_at k.0 (address_of k.1) ≡ k
  at-key = key_at-address k

  joined-knows : (x : Known) → first_like held known f ≡ Some x → is_merged l x.0 ≡ true → IsLeast m held l f x
      → Knows m held (after_notes l (Joined k.0 (address_of k.1) x.0 ∷ [])) (earlier ++ f ∷ []) known
  joined-knows x is merged least = subst (λ q. Knows m held (change_frame q x.0 l) (earlier ++ f ∷ []) known) (sym at-key)
      (knows-joined m held l earlier known h k f seen own x is (change_frame k x.0 l) (has-gone l k x.0 f seen own) least)

  shared-knows : (x : Known) → first_like held known f ≡ Some x → (x.0 == f) ≡ false → x.0 < m.frames → Waits m held l earlier f x
      → Knows m held (after_notes l (Shared x.0 ∷ Joined k.0 (address_of k.1) x.0 ∷ [])) (earlier ++ f ∷ []) known
  shared-knows x is other below w =
      subst (λ q. Knows m held (change_frame q x.0 (after_note (Shared x.0) l)) (earlier ++ f ∷ []) known) (sym at-key)
      (knows-shared m held l earlier known h k f seen own x is (change_frame k x.0 (after_note (Shared x.0) l))
      (has-merged-too l k x.0 f seen own (sym (same-turned x.0 f) ∙ other)) below w)

  pub turn-taken : (o : Option Known) → first_like held known f ≡ o → TakesTurn m held l earlier known k f o
  turn-taken None is = (turn-new m held l earlier known h k f seen own is, knows-more m held l earlier known h k f seen own is)
  turn-taken (Some x) is = by (x.0 == f) (is_merged l x.0) refl refl
    where
      by : (b c : Bool) → (x.0 == f) ≡ b → is_merged l x.0 ≡ c
          → (merge_notes m held l earlier k (Some f) ≡ notes_by_tests k x.0 b c)
          × (x.0 < m.frames → Knows m held (after_notes l (notes_by_tests k x.0 b c)) (earlier ++ f ∷ []) known)
      by true c same merged = (
        turn-again m held l earlier known h k f seen own x is (same-is x.0 f same),
        λ below. knows-again m held l earlier known h k f seen own x is (same-is x.0 f same),
      )
      by false true other merged =
          let t = turn-joins m held l earlier known h k f seen own x is merged in (t.1, λ below. joined-knows x is merged t.0)
      by false false other merged =
          let t = turn-shares m held l earlier known h k f seen own x is merged other in (t.1, λ below. shared-knows x is other below t.0)

-- ---- before the first page

abbrev merged_known : Ledger → List ℕ → List Known
merged_known l xs = map as_merged (filter (is_merged l) xs)

abbrev merged_found : FrameBytes → Ledger → ℕ → List ℕ → Option ℕ
merged_found held l f xs = find (λ g. is_merged l g && hold_same held g f) xs

first-merged : (held : FrameBytes) (l : Ledger) (f : ℕ) (xs : List ℕ) → first_like held (map as_merged (filter (is_merged l) xs)) f
    ≡ option_map as_merged (find (λ g. is_merged l g && hold_same held g f) xs)
first-merged held l f [] = refl
first-merged held l f (x ∷ xs) = by (is_merged l x) (first-merged held l f xs)
  where
    first : (b : Bool) → first_like held (merged_known l xs) f ≡ option_map as_merged (merged_found held l f xs)
        → cond b (Some (x, None)) (first_like held (merged_known l xs) f) ≡ option_map as_merged (cond b (Some x) (merged_found held l f xs))
    first true e = refl
    first false e = e

    by : (a : Bool) → first_like held (merged_known l xs) f ≡ option_map as_merged (merged_found held l f xs)
        → first_like held (map as_merged (cond a (x ∷ filter (is_merged l) xs) (filter (is_merged l) xs))) f
        ≡ option_map as_merged (cond (a && hold_same held x f) (Some x) (merged_found held l f xs))
    by true e = first (hold_same held x f) e
    by false e = e

pub known-first : (m : Setting) (held : FrameBytes) (l : Ledger) → Knows m held l [] (known_at_first m l)
known-first m held l f = subst (MayJoin m held l [] f) (sym (first-merged held l f (range_with_len 0 m.frames)))
    (by (merged_like m held l f) refl)
  where
    by : (o : Option ℕ) → merged_like m held l f ≡ o → MayJoin m held l [] f (option_map as_merged o)
    by None e = (e, refl)
    by (Some g) e = inl (record {
      merged = (split (is_merged l g) (hold_same held g f)
          (found-is (λ g. is_merged l g && hold_same held g f) (range_with_len 0 m.frames) g e).0).0;
      least = e;
    })
