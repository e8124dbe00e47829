-- A merge over pages that claim each byte has one list of notes, and so has a compaction.
use Rattle.std.proofs.Common.{◌≡◌, ℕ, zero, suc, ◌+◌, ◌<◌, ◌≤◌, Bool, true, false, cond, not, ◌&&◌, ◌||◌, List, [], ◌∷◌, ◌++◌, Option, Some, None, is_some, refl, sym, ap, subst, ◌∙◌, arith, ◌==◌}
use Rattle.std.proofs.lemmas.Bool.{false≢true}
use Rattle.std.specs.List.{find, list_all, list_any, range_with_len}
use Rattle.std.specs.Prelude.{IfSome, IsSomeAnd}
use Rattle.av_base.specs.Keys.{Key, same_key}
use Rattle.av_base.specs.Page.{page_size}
use Rattle.av_trace.specs.declared.note.Note.{Note}
use Rattle.av_trace.specs.declared.note.Note.TheVariants.{Shared}
use Rattle.av_plain.specs.Compact.{MovesDown}
use Rattle.av_plain.specs.Covered.{IsOfFrame}
use Rattle.av_plain.specs.Event.{after_note, after_notes, change_frame, set_entry}
use Rattle.av_plain.specs.Ledger.{Entry, InFrame, Ledger, Setting, entry, is_merged, names_frame}
use Rattle.av_plain.specs.Merge.{FrameBytes, HoldClaims, candidate, hold_same, join_notes, merge_notes, merged_like, merges, other_like, with_candidate}
use Rattle.av_plain.specs.Sound.{AllSound, mergings}
use Rattle.av_plain.specs.World.{Holds, Page, World, pages}
use Rattle.av_plain.proofs.Covered.MergeCommands.{some-entry}
use Rattle.av_plain.proofs.Covered.Swap.{merged-settled_entry, settled_entry-entries}
use Rattle.av_plain.proofs.Ledger.{entry-set}
use Rattle.av_plain.proofs.Ledger.NoSwap.{key_at-address}
use Rattle.av_plain.proofs.Sound.Counts.{same-is, same-itself}
use Rattle.av_plain.proofs.Sound.Frames.{candidate-is, found-is, positive, split}
use Rattle.av_plain.proofs.Sound.Changes.{any-counts}

-- ---- a compaction

pub moves-one : (m : Setting) (l : Ledger) (a b : List Note) → MovesDown m l a → MovesDown m l b → a ≡ b
moves-one m l [] [] h g = refl
moves-one m l [] (note ∷ b) h g = cc
moves-one m l (note ∷ a) [] h g = cc
moves-one m l (note ∷ a) (other ∷ b) h g =
    let same : note ≡ other = inner (sym h.0 ∙ g.0) in
    λ i. same i ∷ moves-one m (after_note note l) a b h.1 (subst (λ n. MovesDown m (after_note n l) b) (sym same) g.1) i
  where
    inner : {x y : Note} → Some x ≡ Some y → x ≡ y
    inner e = cc

-- ---- a merge

-- each page claims all its bytes
abbrev pub ClaimAll : World → Type 0
ClaimAll w = (k : Key) → IfSome (pages w k.0 k.1) (λ (p : Page). (i : ℕ) → i < page_size → is_some (p.bytes i) ≡ true)

module _ (m : Setting) (w : World) (l0 : Ledger) (held held' : FrameBytes) (holds : HoldClaims w l0 held) (holds' : HoldClaims w l0 held')
    (mapped : (k : Key) → is_some (entry l0 k) ≡ true → is_some (pages w k.0 k.1) ≡ true) (claimed : ClaimAll w) where
  -- an entry named the frame at the beginning
  abbrev IsKnown : ℕ → Type 0
  IsKnown f = (k : Key) × IsOfFrame l0 f k

  -- then it holds one thing
  one-byte : (f i : ℕ) → IsKnown f → i < page_size → held f i ≡ held' f i
  one-byte f i known low = by (pages w known.0.0 known.0.1) (holds known.0 f known.1) (holds' known.0 f known.1) (claimed known.0)
      (mapped known.0 (there (entry l0 known.0) known.1))
    where
      there : (o : Option Entry) → IsSomeAnd o (λ e. names_frame f e ≡ true) → is_some o ≡ true
      there None is = absurd is
      there (Some e) is = refl

      of_byte : (o : Option ℕ) → is_some o ≡ true → IfSome o (λ b. held f i ≡ b) → IfSome o (λ b. held' f i ≡ b) → held f i ≡ held' f i
      of_byte None is a b = absurd (false≢true is)
      of_byte (Some x) is a b = a ∙ sym b

      by : (o : Option Page) → Holds o (held f) → Holds o (held' f) → IfSome o (λ (p : Page). (i : ℕ) → i < page_size → is_some (p.bytes i) ≡ true)
          → is_some o ≡ true → held f i ≡ held' f i
      by None a b c is = absurd (false≢true is)
      by (Some p) a b c is = of_byte (p.bytes i) (c i low) (a i low) (b i low)

  all-same : (p q : ℕ → Bool) (a n : ℕ) → ((i : ℕ) → a ≤ i → i < a + n → p i ≡ q i) → list_all p (range_with_len a n) ≡ list_all q (range_with_len a n)
  all-same p q a zero h = refl
  all-same p q a (suc n) h = λ i. h a (omega arith) (omega arith) i && all-same p q (a + 1) n (λ j low high. h j (omega (arith, low)) (omega (arith, high))) i

  one-same : (f g : ℕ) → IsKnown f → IsKnown g → hold_same held f g ≡ hold_same held' f g
  one-same f g a b = all-same (λ i. held f i == held g i) (λ i. held' f i == held' g i) 0 page_size
      (λ i low high j. one-byte f i a (omega (arith, high)) j == one-byte g i b (omega (arith, high)) j)

  -- merged frames and those of the candidates before are known, and those that entries name
  record AreKnown (l : Ledger) (earlier : List ℕ) : Type 0 where
    merged : (f : ℕ) → is_merged l f ≡ true → IsKnown f
    named : (k : Key) (f : ℕ) → IsOfFrame l f k → IsKnown f
    before : (f : ℕ) → list_any (λ x. f == x) earlier ≡ true → IsKnown f

  merged_like-one : (l : Ledger) (earlier : List ℕ) (f : ℕ) → AreKnown l earlier → IsKnown f → merged_like m held l f ≡ merged_like m held' l f
  merged_like-one l earlier f known is = each (range_with_len 0 m.frames)
    where
      one : (x : ℕ) (b : Bool) → is_merged l x ≡ b → (b && hold_same held x f) ≡ (b && hold_same held' x f)
      one x true e = one-same x f (known.merged x e) is
      one x false e = refl

      each : (xs : List ℕ) → find (λ x. is_merged l x && hold_same held x f) xs ≡ find (λ x. is_merged l x && hold_same held' x f) xs
      each [] = refl
      each (x ∷ xs) = λ i. cond (passes i) (Some x) (each xs i)
        where
          passes : (is_merged l x && hold_same held x f) ≡ (is_merged l x && hold_same held' x f)
          passes = one x (is_merged l x) refl

  other_like-one : (earlier : List ℕ) (f : ℕ) → ((x : ℕ) → list_any (λ y. x == y) earlier ≡ true → IsKnown x) → IsKnown f
      → other_like held earlier f ≡ other_like held' earlier f
  other_like-one [] f known is = refl
  other_like-one (x ∷ xs) f known is =
      λ i. cond (not (x == f) && one-same x f (known x (ap (λ b. b || list_any (λ y. x == y) xs) (same-itself x))) is i) (Some x)
      (other_like-one xs f (λ y there. known y (right (y == x) there)) is i)
    where
      right : (a : Bool) {b : Bool} → b ≡ true → (a || b) ≡ true
      right true h = refl
      right false h = h

  -- a page that joined a frame keeps them known
  joined-known : (l : Ledger) (earlier : List ℕ) (k : Key) (g : ℕ) → IsKnown g → AreKnown l earlier → AreKnown (change_frame k g l) earlier
  joined-known l earlier k g is known = record {
    merged = λ f h. known.merged f ((merged-settled_entry (entry l k) (set_entry k (InFrame g false) l)).fewer f h);
    named = λ q f h. by q f (same_key q k) (subst (λ o. IsSomeAnd o (λ e. names_frame f e ≡ true))
        (ap (λ es. entry (record l { entries = es }) q) (settled_entry-entries (entry l k) (set_entry k (InFrame g false) l))
        ∙ entry-set k (InFrame g false) l q) h);
    before = known.before;
  }
    where
      by : (q : Key) (f : ℕ) (b : Bool) → IsSomeAnd (cond b (Some (InFrame g false)) (entry l q)) (λ e. names_frame f e ≡ true) → IsKnown f
      by q f true h = subst IsKnown (sym (same-is f g h)) is
      by q f false h = known.named q f h

  shared-known : (l : Ledger) (earlier : List ℕ) (j : ℕ) → IsKnown j → AreKnown l earlier → AreKnown (after_note (Shared j) l) earlier
  shared-known l earlier j is known = record { merged = λ f h. by f l.merged (λ f h. known.merged f h) h; named = known.named; before = known.before }
    where
      by : (f : ℕ) (xs : List ℕ) → ((f : ℕ) → list_any (λ x. f == x) xs ≡ true → IsKnown f) → list_any (λ x. f == x) (xs ++ j ∷ []) ≡ true → IsKnown f
      by f [] old h = here (f == j) refl h
        where
          here : (b : Bool) → (f == j) ≡ b → (b || false) ≡ true → IsKnown f
          here true e h = subst IsKnown (sym (same-is f j e)) is
          here false e h = absurd (false≢true h)
      by f (x ∷ xs) old h = here (by f xs (λ g i. old g (right (g == x) i))) (f == x) refl h
        where
          right : (a : Bool) {b : Bool} → b ≡ true → (a || b) ≡ true
          right true h = refl
          right false h = h

          here : (list_any (λ x. f == x) (xs ++ j ∷ []) ≡ true → IsKnown f) → (b : Bool) → (f == x) ≡ b
              → (b || list_any (λ x. f == x) (xs ++ j ∷ [])) ≡ true → IsKnown f
          here again true e h = old f (ap (λ b. b || list_any (λ x. f == x) xs) e)
          here again false e h = again h

  -- and one more candidate
  more-known : (l : Ledger) (earlier : List ℕ) (f : ℕ) → IsKnown f → AreKnown l earlier → AreKnown l (earlier ++ f ∷ [])
  more-known l earlier f is known = record { merged = known.merged; named = known.named; before = λ g h. by g earlier known.before h }
    where
      by : (g : ℕ) (xs : List ℕ) → ((g : ℕ) → list_any (λ x. g == x) xs ≡ true → IsKnown g) → list_any (λ x. g == x) (xs ++ f ∷ []) ≡ true → IsKnown g
      by g [] old h = here (g == f) refl h
        where
          here : (b : Bool) → (g == f) ≡ b → (b || false) ≡ true → IsKnown g
          here true e h = subst IsKnown (sym (same-is g f e)) is
          here false e h = absurd (false≢true h)
      by g (x ∷ xs) old h = here (by g xs (λ y i. old y (right (y == x) i))) (g == x) refl h
        where
          right : (a : Bool) {b : Bool} → b ≡ true → (a || b) ≡ true
          right true h = refl
          right false h = h

          here : (list_any (λ x. g == x) (xs ++ f ∷ []) ≡ true → IsKnown g) → (b : Bool) → (g == x) ≡ b
              → (b || list_any (λ x. g == x) (xs ++ f ∷ [])) ≡ true → IsKnown g
          here again true e h = old g (ap (λ b. b || list_any (λ x. g == x) xs) e)
          here again false e h = again h

  -- one page
  record Turned (l : Ledger) (earlier : List ℕ) (k : Key) (o : Option ℕ) : Type 0 where
    same : merge_notes m held l earlier k o ≡ merge_notes m held' l earlier k o
    known : AreKnown (after_notes l (merge_notes m held l earlier k o)) (with_candidate earlier o)

  turned : (l : Ledger) (earlier : List ℕ) (k : Key) (o : Option ℕ) → candidate w l k ≡ o → AreKnown l earlier → Turned l earlier k o
  turned l earlier k None is known = record { same = refl; known = known }
  turned l earlier k (Some f) is known = record {
    same = λ i. join_notes k (merged_like-one l earlier f known mine i) (other_like-one earlier f known.before mine i);
    known = more-known (after_notes l (merge_notes m held l earlier k (Some f))) earlier f mine
        (joins (merged_like m held l f) refl (other_like held earlier f) refl);
  }
    where
      mine : IsKnown f
      mine = let c = candidate-is w l k f is in
          known.named k f (subst (λ o. IsSomeAnd o (λ e. names_frame f e ≡ true)) (sym c.names) (same-itself f))

      joins : (a : Option ℕ) → merged_like m held l f ≡ a → (b : Option ℕ) → other_like held earlier f ≡ b → AreKnown (after_notes l (join_notes k a b)) earlier
      joins (Some g) at b at' = subst (λ q. AreKnown (change_frame q g l) earlier) (sym (key_at-address k)) (joined-known l earlier k g
          (known.merged g (split (is_merged l g) (hold_same held g f)
          (found-is (λ g. is_merged l g && hold_same held g f) (range_with_len 0 m.frames) g at).0).0) known)
      joins None at (Some j) at' =
          let there = known.before j (found-is (λ h. not (h == f) && hold_same held h f) earlier j at').1 in
          subst (λ q. AreKnown (change_frame q j (after_note (Shared j) l)) earlier) (sym (key_at-address k))
          (joined-known (after_note (Shared j) l) earlier k j there (shared-known l earlier j there known))
      joins None at None at' = known

  merges-same : (l : Ledger) (earlier : List ℕ) (ks : List Key) → AreKnown l earlier → merges m held w l earlier ks ≡ merges m held' w l earlier ks
  merges-same l earlier [] known = refl
  merges-same l earlier (k ∷ ks) known =
      let t = turned l earlier k (candidate w l k) refl known in
      let here = merge_notes m held l earlier k (candidate w l k) in
      ap (λ rest. here ++ rest) (merges-same (after_notes l here) (with_candidate earlier (candidate w l k)) ks t.known)
      ∙ (λ i. t.same i ++ merges m held' w (after_notes l (t.same i)) (with_candidate earlier (candidate w l k)) ks)

-- so the notes of a merge are one list
pub merges-one : (m : Setting) (w : World) (l : Ledger) (held held' : FrameBytes) → AllSound m w l → ClaimAll w → HoldClaims w l held
    → HoldClaims w l held' → (ks : List Key) → merges m held w l [] ks ≡ merges m held' w l [] ks
merges-one m w l held held' s claimed holds holds' ks =
    merges-same m w l held held' holds holds' (λ k there. s.at_pages k.0 k.1 there) claimed l [] ks (record {
      merged = λ f is. some-entry l f s.ledger.in_order (let a = s.ledger.merged f in
          let b = positive (mergings l f) (sym (any-counts (λ y. f == y) l.merged) ∙ is) in omega (arith, a, b));
      named = λ k f is. (k, is);
      before = λ f is. absurd (false≢true is);
    })
