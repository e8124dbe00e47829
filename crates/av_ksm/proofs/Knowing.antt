-- What is known of what frames hold stays right as pages join, and frames are merged.
use Rattle.std.proofs.Common.{◌≡◌, inl, inr, ℕ, ◌<◌, Bool, true, false, cond, not, ◌&&◌, ◌||◌, ◌==◌, List, [], ◌∷◌, ◌++◌, Option, Some, None, refl, sym, ap, subst, ◌∙◌, arith}
use Rattle.std.proofs.lemmas.Bool.{false≢true}
use Rattle.std.proofs.lemmas.List.Folds.{find-append}
use Rattle.std.specs.List.{find, list_all, list_any, range_with_len}
use Rattle.std.specs.Option.{option_or}
use Rattle.av_base.specs.Keys.{Key, same_key}
use Rattle.av_base.proofs.Keys.{same_key-is}
use Rattle.av_base.specs.Page.{page_size}
use Rattle.av_plain.specs.Ledger.{InFrame, Ledger, Setting, entry, is_merged}
use Rattle.av_plain.specs.Merge.{FrameBytes, hold_same, merged_like, other_like}
use Rattle.av_plain.proofs.Sound.Counts.{same-is, same-itself, same-turned}
use Rattle.av_plain.proofs.Sound.Frames.{in_range-is, same-then}
use Rattle.av_swap_laws.proofs.Parts.{none-some, some-is}
use Rattle.av_ksm.specs.Join.{HasOwn}
use Rattle.av_ksm.specs.Known.{IsLeast, Known, Knows, MayJoin, Waits, first_like}

-- ---- frames that hold the same

all-turned : (held : FrameBytes) (f g : ℕ) (is : List ℕ) → list_all (λ i. held f i == held g i) is ≡ list_all (λ i. held g i == held f i) is
all-turned held f g [] = refl
all-turned held f g (i ∷ is) = λ j. same-turned (held f i) (held g i) j && all-turned held f g is j

pub holds-turned : (held : FrameBytes) (f g : ℕ) → hold_same held f g ≡ hold_same held g f
holds-turned held f g = all-turned held f g (range_with_len 0 page_size)

-- what holds the same as the one holds the same as the other
pub holds-as : (held : FrameBytes) (f g x : ℕ) → hold_same held f g ≡ true → hold_same held x f ≡ hold_same held x g
holds-as held f g x same = by (hold_same held x f) (hold_same held x g) refl refl
  where
    by : (a b : Bool) → hold_same held x f ≡ a → hold_same held x g ≡ b → a ≡ b
    by true true e i = refl
    by false false e i = refl
    by true false e i = sym (same-then held x f g e same) ∙ i
    by false true e i = sym e ∙ same-then held x g f i (holds-turned held g f ∙ same)

module _ (m : Setting) (held : FrameBytes) (f g : ℕ) (same : hold_same held f g ≡ true) where
  pub first-as : (known : List Known) → first_like held known f ≡ first_like held known g
  first-as known = λ i. find (λ x. holds-as held f g x.0 same i) known

  pub merged-as : (l : Ledger) → merged_like m held l f ≡ merged_like m held l g
  merged-as l = λ i. find (λ x. is_merged l x && holds-as held f g x same i) (range_with_len 0 m.frames)

-- the one that is found holds the same
pub first-holds : (held : FrameBytes) (known : List Known) (g : ℕ) (y : Known) → first_like held known g ≡ Some y → hold_same held y.0 g ≡ true
first-holds held [] g y e = absurd (none-some y e)
first-holds held (z ∷ zs) g y e = each (hold_same held z.0 g) refl (first-holds held zs g y) e
  where
    each : (b : Bool) → hold_same held z.0 g ≡ b → (first_like held zs g ≡ Some y → hold_same held y.0 g ≡ true)
        → cond b (Some z) (first_like held zs g) ≡ Some y → hold_same held y.0 g ≡ true
    each true p rest e = subst (λ (z : Known). hold_same held z.0 g ≡ true) (some-is z y e) p
    each false p rest e = rest e

-- ---- a frame is one of those before

-- at the end of them
other-more : (held : FrameBytes) (earlier : List ℕ) (f g : ℕ)
    → other_like held (earlier ++ f ∷ []) g ≡ option_or (other_like held earlier g) (cond (not (f == g) && hold_same held f g) (Some f) None)
other-more held earlier f g = find-append (λ h. not (h == g) && hold_same held h g) earlier (f ∷ [])

-- it changes nothing where it holds something else
other-unlike : (held : FrameBytes) (earlier : List ℕ) (f g : ℕ) → hold_same held f g ≡ false
    → other_like held (earlier ++ f ∷ []) g ≡ other_like held earlier g
other-unlike held earlier f g unlike = other-more held earlier f g
    ∙ ap (λ b. option_or (other_like held earlier g) (cond (not (f == g) && b) (Some f) None)) unlike
    ∙ by (not (f == g)) (other_like held earlier g)
  where
    by : (b : Bool) (o : Option ℕ) → option_or o (cond (b && false) (Some f) None) ≡ o
    by true None = refl
    by true (Some x) = refl
    by false None = refl
    by false (Some x) = refl

-- nor where it is one of them already, or the frame itself
other-again : (held : FrameBytes) (earlier : List ℕ) (f g : ℕ) → other_like held earlier g ≡ cond (f == g) None (Some f)
    → other_like held (earlier ++ f ∷ []) g ≡ cond (f == g) None (Some f)
other-again held earlier f g is = other-more held earlier f g ∙ by (f == g) is
  where
    by : (b : Bool) → other_like held earlier g ≡ cond b None (Some f)
        → option_or (other_like held earlier g) (cond (not b && hold_same held f g) (Some f) None) ≡ cond b None (Some f)
    by true e = ap (λ o. option_or o None) e
    by false e = ap (λ o. option_or o (cond (hold_same held f g) (Some f) None)) e

-- ---- the ledger stays

module _ (m : Setting) (held : FrameBytes) (l : Ledger) (earlier : List ℕ) (known : List Known) (h : Knows m held l earlier known) (k : Key) (f : ℕ)
    (seen : Bool) (own : HasOwn l k f seen) where
  -- nothing like it is known: it is from now on
  pub knows-more : first_like held known f ≡ None → Knows m held l (earlier ++ f ∷ []) (known ++ (f, Some k) ∷ [])
  knows-more new g = subst (MayJoin m held l (earlier ++ f ∷ []) g)
      (sym (find-append (λ (x : Known). hold_same held x.0 g) known ((f, Some k) ∷ [])))
      (by (first_like held known g) (hold_same held f g) refl refl (h g))
    where
      here : MayJoin m held l earlier f None
      here = subst (MayJoin m held l earlier f) new (h f)

      by : (o : Option Known) (b : Bool) → first_like held known g ≡ o → hold_same held f g ≡ b → MayJoin m held l earlier g o
          → MayJoin m held l (earlier ++ f ∷ []) g (option_or o (cond b (Some (f, Some k)) None))
      by (Some x) true e i may = absurd (none-some x (sym new ∙ first-as m held f g i known ∙ e))
      by (Some x) false e i (inl is) = inl (record { merged = is.merged; least = is.least })
      by (Some x) false e i (inr w) = inr (record {
        at = w.at;
        merged = w.merged;
        other = other-unlike held earlier f g i ∙ w.other;
      })
      by None true e i may = inr (record {
        at = record { key = k; page = refl; seen = seen; own = own };
        merged = may.0;
        other = other-more held earlier f g ∙ first (f == g) (hold_same held f g) i may.1;
      })
        where
          first : (b c : Bool) → c ≡ true → other_like held earlier g ≡ None
              → option_or (other_like held earlier g) (cond (not b && c) (Some f) None) ≡ cond b None (Some f)
          first true true c o = ap (λ x. option_or x None) o
          first false true c o = ap (λ x. option_or x (Some f)) o
          first b false c o = absurd (false≢true c)
      by None false e i may = (may.0, other-unlike held earlier f g i ∙ may.1)

  -- it is known itself
  pub knows-again : (x : Known) → first_like held known f ≡ Some x → x.0 ≡ f → Knows m held l (earlier ++ f ∷ []) known
  knows-again x is same g = by (first_like held known g) (hold_same held f g) refl refl (h g)
    where
      by : (o : Option Known) (b : Bool) → first_like held known g ≡ o → hold_same held f g ≡ b → MayJoin m held l earlier g o
          → MayJoin m held l (earlier ++ f ∷ []) g o
      by None true e i may = absurd (none-some x (sym e ∙ sym (first-as m held f g i known) ∙ is))
      by None false e i may = (may.0, other-unlike held earlier f g i ∙ may.1)
      by (Some y) b e i (inl least) = inl (record { merged = least.merged; least = least.least })
      by (Some y) false e i (inr w) = inr (record {
        at = w.at;
        merged = w.merged;
        other = other-unlike held earlier f g i ∙ w.other;
      })
      by (Some y) true e i (inr w) =
          let one : y ≡ x = some-is y x (sym e ∙ sym (first-as m held f g i known) ∙ is) in
          let at : y.0 ≡ f = ap (λ (z : Known). z.0) one ∙ same in
          inr (record {
            at = w.at;
            merged = w.merged;
            other = subst (λ z. other_like held (earlier ++ f ∷ []) g ≡ cond (z == g) None (Some z)) (sym at)
                (other-again held earlier f g (subst (λ z. other_like held earlier g ≡ cond (z == g) None (Some z)) at w.other));
          })

-- ---- a page joins

-- a ledger in which an entry went over to a frame, and the same frames are merged
pub record HasGone (l l' : Ledger) (k : Key) : Type 0 where
  pub merged : (g : ℕ) → is_merged l' g ≡ is_merged l g
  pub own : (q : Key) (g : ℕ) (seen : Bool) → same_key q k ≡ false → HasOwn l q g seen → HasOwn l' q g seen

module _ (m : Setting) (held : FrameBytes) (l : Ledger) (earlier : List ℕ) (known : List Known) (h : Knows m held l earlier known) (k : Key) (f : ℕ)
    (seen : Bool) (own : HasOwn l k f seen) (x : Known) (is : first_like held known f ≡ Some x) where
  -- a frame that is known by another one that holds something else isn't that of this page
  other-page : (g : ℕ) (y : Known) (w : Waits m held l earlier g y) → first_like held known g ≡ Some y → hold_same held f g ≡ false
      → same_key w.at.key k ≡ false
  other-page g y w e unlike = by (same_key w.at.key k) refl
    where
      frame : {a b : ℕ} {s t : Bool} → Some (InFrame a s) ≡ Some (InFrame b t) → a ≡ b
      frame e = cc

      by : (b : Bool) → same_key w.at.key k ≡ b → b ≡ false
      by true i =
          let same : y.0 ≡ f = frame (sym w.at.own.names ∙ ap (entry l) (same_key-is w.at.key k i) ∙ own.names) in
          absurd (false≢true (sym unlike ∙ subst (λ z. hold_same held z g ≡ true) same (first-holds held known g y e)))
      by false i = refl

  -- it joins a merged frame
  pub knows-joined : (l' : Ledger) → HasGone l l' k → IsLeast m held l f x → Knows m held l' (earlier ++ f ∷ []) known
  knows-joined l' gone least g = by (first_like held known g) (hold_same held f g) refl refl (h g)
    where
      like-still : merged_like m held l' g ≡ merged_like m held l g
      like-still = λ i. find (λ j. gone.merged j i && hold_same held j g) (range_with_len 0 m.frames)

      by : (o : Option Known) (b : Bool) → first_like held known g ≡ o → hold_same held f g ≡ b → MayJoin m held l earlier g o
          → MayJoin m held l' (earlier ++ f ∷ []) g o
      by None true e i may = absurd (none-some x (sym e ∙ sym (first-as m held f g i known) ∙ is))
      by None false e i may = (like-still ∙ may.0, other-unlike held earlier f g i ∙ may.1)
      by (Some y) b e i (inl one) = inl (record { merged = gone.merged y.0 ∙ one.merged; least = like-still ∙ one.least })
      by (Some y) true e i (inr w) = absurd (none-some x.0 (sym w.merged ∙ sym (merged-as m held f g i l) ∙ least.least))
      by (Some y) false e i (inr w) = inr (record {
        at = record { key = w.at.key; page = w.at.page; seen = w.at.seen; own = gone.own w.at.key y.0 w.at.seen (other-page g y w e i) w.at.own };
        merged = like-still ∙ w.merged;
        other = other-unlike held earlier f g i ∙ w.other;
      })

-- a ledger in which a frame was merged besides
pub record HasMergedToo (l l' : Ledger) (k : Key) (j : ℕ) : Type 0 where
  pub merged : (g : ℕ) → is_merged l' g ≡ (is_merged l g || g == j)
  pub own : (q : Key) (g : ℕ) (seen : Bool) → same_key q k ≡ false → (g == j) ≡ false → HasOwn l q g seen → HasOwn l' q g seen

-- the only one that passes is found
found-new : (p p' : ℕ → Bool) (y : ℕ) (xs : List ℕ) → ((j : ℕ) → (j == y) ≡ false → p' j ≡ p j) → p' y ≡ true → find p xs ≡ None
    → list_any (λ j. y == j) xs ≡ true → find p' xs ≡ Some y
found-new p p' y [] same is none among = absurd (false≢true among)
found-new p p' y (x ∷ xs) same is none among = by (x == y) refl (found-new p p' y xs same is) none among
  where
    passes : (b : Bool) → p x ≡ b → cond b (Some x) (find p xs) ≡ None → (p x ≡ false) × (find p xs ≡ None)
    passes true e n = absurd (none-some x (sym n))
    passes false e n = (e, n)

    by : (b : Bool) → (x == y) ≡ b → (find p xs ≡ None → list_any (λ j. y == j) xs ≡ true → find p' xs ≡ Some y)
        → find p (x ∷ xs) ≡ None → list_any (λ j. y == j) (x ∷ xs) ≡ true → find p' (x ∷ xs) ≡ Some y
    by true e rest n a = ap (λ b. cond b (Some x) (find p' xs)) (ap p' (same-is x y e) ∙ is) ∙ ap Some (same-is x y e)
    by false e rest n a =
        let t = passes (p x) refl n in
        ap (λ b. cond b (Some x) (find p' xs)) (same x e ∙ t.0)
        ∙ rest t.1 (sym (ap (λ b. b || list_any (λ j. y == j) xs) (sym (same-turned x y) ∙ e)) ∙ a)

module _ (m : Setting) (held : FrameBytes) (l : Ledger) (earlier : List ℕ) (known : List Known) (h : Knows m held l earlier known) (k : Key) (f : ℕ)
    (seen : Bool) (own : HasOwn l k f seen) (x : Known) (is : first_like held known f ≡ Some x) where
  -- it joins a frame that is merged for it
  pub knows-shared : (l' : Ledger) → HasMergedToo l l' k x.0 → x.0 < m.frames → Waits m held l earlier f x
      → Knows m held l' (earlier ++ f ∷ []) known
  knows-shared l' gone below w g = by (first_like held known g) (hold_same held f g) refl refl (h g)
    where
      same-x : hold_same held x.0 f ≡ true
      same-x = first-holds held known f x is

      merged-x : is_merged l' x.0 ≡ true
      merged-x = gone.merged x.0 ∙ ap (λ b. is_merged l x.0 || b) (same-itself x.0) ∙ right (is_merged l x.0)
        where
          right : (b : Bool) → (b || true) ≡ true
          right true = refl
          right false = refl

      left : (b c : Bool) → c ≡ false → (b || c) ≡ b
      left true c e = refl
      left false c e = e

      merged-still : (j : ℕ) → (j == x.0) ≡ false → is_merged l' j ≡ is_merged l j
      merged-still j e = gone.merged j ∙ left (is_merged l j) (j == x.0) e

      -- it is the only one that is merged and holds the same
      like-now : hold_same held f g ≡ true → merged_like m held l' g ≡ Some x.0
      like-now i = found-new (λ j. is_merged l j && hold_same held j g) (λ j. is_merged l' j && hold_same held j g) x.0 (range_with_len 0 m.frames)
          (λ j e. ap (λ b. b && hold_same held j g) (merged-still j e))
          (λ n. merged-x n && (sym (holds-as held f g x.0 i) ∙ same-x) n)
          (sym (merged-as m held f g i l) ∙ w.merged)
          (in_range-is 0 m.frames x.0 (omega arith) (omega (arith, below)))

      unlike-x : hold_same held f g ≡ false → hold_same held x.0 g ≡ false
      unlike-x i = each (hold_same held x.0 g) refl
        where
          each : (b : Bool) → hold_same held x.0 g ≡ b → b ≡ false
          each true e = absurd (false≢true (sym i ∙ same-then held f x.0 g (holds-turned held f x.0 ∙ same-x) e))
          each false e = refl

      like-still : hold_same held f g ≡ false → merged_like m held l' g ≡ merged_like m held l g
      like-still i = λ n. find (λ j. each j (j == x.0) refl n) (range_with_len 0 m.frames)
        where
          none : (b : Bool) {c : Bool} → c ≡ false → (b && c) ≡ false
          none true e = e
          none false e = refl

          each : (j : ℕ) (b : Bool) → (j == x.0) ≡ b → (is_merged l' j && hold_same held j g) ≡ (is_merged l j && hold_same held j g)
          each j true e = let u = ap (λ z. hold_same held z g) (same-is j x.0 e) ∙ unlike-x i in
              none (is_merged l' j) u ∙ sym (none (is_merged l j) u)
          each j false e = ap (λ b. b && hold_same held j g) (merged-still j e)

      by : (o : Option Known) (b : Bool) → first_like held known g ≡ o → hold_same held f g ≡ b → MayJoin m held l earlier g o
          → MayJoin m held l' (earlier ++ f ∷ []) g o
      by None true e i may = absurd (none-some x (sym e ∙ sym (first-as m held f g i known) ∙ is))
      by None false e i may = (like-still i ∙ may.0, other-unlike held earlier f g i ∙ may.1)
      by (Some y) true e i may =
          let one : x ≡ y = some-is x y (sym is ∙ first-as m held f g i known ∙ e) in
          inl (subst (IsLeast m held l' g) one (record { merged = merged-x; least = like-now i }))
      by (Some y) false e i (inl one) = inl (record {
        merged = gone.merged y.0 ∙ ap (λ b. b || y.0 == x.0) one.merged;
        least = like-still i ∙ one.least;
      })
      by (Some y) false e i (inr v) = inr (record {
        at = record {
          key = v.at.key;
          page = v.at.page;
          seen = v.at.seen;
          own = gone.own v.at.key y.0 v.at.seen (other-page m held l earlier known h k f seen own x is g y v e i) apart v.at.own;
        };
        merged = like-still i ∙ v.merged;
        other = other-unlike held earlier f g i ∙ v.other;
      })
        where
          apart : (y.0 == x.0) ≡ false
          apart = each (y.0 == x.0) refl
            where
              each : (b : Bool) → (y.0 == x.0) ≡ b → b ≡ false
              each true n = absurd (false≢true (sym (unlike-x i) ∙ ap (λ z. hold_same held z g) (sym (same-is y.0 x.0 n))
                  ∙ first-holds held known g y e))
              each false n = refl
