-- All lists of one kind, when a node joins or leaves.
use Rattle.av_base.specs.Words.{with_at}
use Rattle.std.proofs.Common.{◌≡◌, ℕ, true, false, cond, ◌||◌, ◌==◌, List, [], ◌∷◌, ◌++◌, map, refl, sym, ap, ◌∙◌, subst, Option, Some, None, append-nil, eqb→eq, T}
use Rattle.std.specs.List.{AllByRecursion, IsDistinct}
use lib.Dec.{eqb_refl}
use mathlib.Core.Bool.{Bool}
use denote.RawPtr.{Ptr}
use Rattle.av_chain.specs.declared.node.Node.{Node}
use Rattle.av_chain.specs.declared.node.Head.{Head}
use Rattle.av_chain.specs.declared.node.Way.{Way}
use Rattle.av_chain.specs.declared.node.Way.TheVariants.{Area, Anon}
use Rattle.av_chain.specs.declared.node.Sides.{Sides}
use Rattle.av_chain.specs.declared.node.Place.{Place}
use Rattle.av_chain.specs.Nodes.{Block, same_ptr, place_of, IsApart, has_place, found, without_node}
use Rattle.av_chain.specs.Rows.{key_of, sides_of, with_before, with_after, node_changed, place_changed, leads_on, leads_back, Reaches, row, at_block, first_or, last_from, IsRun, head_of, last_of, head_with, head_without, IsThreaded}
use Rattle.av_chain.proofs.Pointers.{same_ptr_eq}
use Rattle.av_chain.proofs.Apart.{IsFresh, apart_tail, apart_head, fresh_at, removed_fresh}
use Rattle.av_chain.proofs.Altered.{either, cond_lift, or_right, or_rest, fresh_differs, Avoids, changed_avoids, changed_append, places_changed, reaches_avoids}
use Rattle.av_chain.proofs.Runs.{run_split, run_join, run_on, run_other, run_out, last_changed, last_head, head_push, head_places, end_reaches, first_reaches, reaches_front, reaches_past, has_past, apart_front}
use Rattle.std.proofs.lemmas.List.{map-append}

-- a change keeps whose list a node lies in
abbrev pub Keeps : Way → (Node → Node) → Type 0
Keeps w f = (n : Node) → key_of w (f n) ≡ key_of w n

-- and its neighbours in this list
abbrev pub KeepsSides : Way → (Node → Node) → Type 0
KeepsSides w f = (n : Node) → sides_of w (f n) ≡ sides_of w n

pub keeps_after : (w v : Way) (to : Option Place) → Keeps w (with_after v to)
keeps_after Area Area to n = refl
keeps_after Area Anon to n = refl
keeps_after Anon Area to n = refl
keeps_after Anon Anon to n = refl

pub keeps_before : (w v : Way) (to : Option Place) → Keeps w (with_before v to)
keeps_before Area Area to n = refl
keeps_before Area Anon to n = refl
keeps_before Anon Area to n = refl
keeps_before Anon Anon to n = refl

truth : (b : Bool) → T b → b ≡ true
truth true t = refl
truth false t = absurd t

pub same_number : (k : ℕ) → (k == k) ≡ true
same_number k = truth (k == k) (eqb_refl k)

untruth : (b : Bool) → b ≡ true → T b
untruth true e = tt
untruth false e = cc

pub number_eq : (j k : ℕ) → (k == j) ≡ true → j ≡ k
number_eq j k e = sym (eqb→eq k j (untruth (k == j) e))

-- of two tests that a list passes one after the other
swap : (s t : Bool) (b : Block) (r : List Block) → cond s r (cond t (b ∷ r) r) ≡ cond t (cond s r (b ∷ r)) r
swap true true b r = refl
swap true false b r = refl
swap false t b r = refl

module _ (w : Way) where
  key_cond : (f : Node → Node) → Keeps w f → (y : Bool) (b : Block) → key_of w (cond y (b.0, f b.1) b).1 ≡ key_of w b.1
  key_cond f h true b = h b.1
  key_cond f h false b = refl

  module _ (k : ℕ) where
    row_altered : (p : Ptr) (f : Node → Node) → Keeps w f → (bs : List Block) → row w k (node_changed p f bs) ≡ node_changed p f (row w k bs)
    row_altered p f h [] = refl
    row_altered p f h (b ∷ bs) =
        let c : Block = cond (same_ptr p b.0) (b.0, f b.1) b in
        ap (λ j. cond (k == j) (c ∷ row w k (node_changed p f bs)) (row w k (node_changed p f bs))) (key_cond f h (same_ptr p b.0) b)
        ∙ (λ i. cond (k == key_of w b.1) (c ∷ row_altered p f h bs i) (row_altered p f h bs i))
        ∙ sym (cond_lift (node_changed p f) (k == key_of w b.1) (b ∷ row w k bs) (row w k bs))

    row_changed : (o : Option Place) (f : Node → Node) → Keeps w f → (bs : List Block)
        → row w k (place_changed o f bs) ≡ place_changed o f (row w k bs)
    row_changed None f h bs = refl
    row_changed (Some p) f h bs = row_altered p.ptr f h bs

    pub row_removed : (p : Ptr) (bs : List Block) → row w k (without_node p bs) ≡ without_node p (row w k bs)
    row_removed p [] = refl
    row_removed p (b ∷ bs) =
        let t = k == key_of w b.1 in
        let rest = row_removed p bs in
        cond_lift (row w k) (same_ptr p b.0) (without_node p bs) (b ∷ without_node p bs)
        ∙ (λ i. cond (same_ptr p b.0) (rest i) (cond t (b ∷ rest i) (rest i)))
        ∙ swap (same_ptr p b.0) t b (without_node p (row w k bs))
        ∙ sym (cond_lift (without_node p) t (b ∷ row w k bs) (row w k bs))

    pub row_append : (xs ys : List Block) → row w k (xs ++ ys) ≡ row w k xs ++ row w k ys
    row_append [] ys = refl
    row_append (x ∷ xs) ys =
        let t = k == key_of w x.1 in
        (λ i. cond t (x ∷ row_append xs ys i) (row_append xs ys i)) ∙ sym (cond_lift (λ l. l ++ row w k ys) t (x ∷ row w k xs) (row w k xs))

    all_row : (P : Ptr → Type 0) (bs : List Block) → AllByRecursion P (map place_of bs) → AllByRecursion P (map place_of (row w k bs))
    all_row P [] a = tt
    all_row P (b ∷ bs) a = elim (k == key_of w b.1) as (λ y. AllByRecursion P (map place_of (cond y (b ∷ row w k bs) (row w k bs)))) [
      | true ↦ (a.0, all_row P bs a.1)
      | false ↦ all_row P bs a.1
    ]

    pub apart_row : (bs : List Block) → IsApart bs → IsApart (row w k bs)
    unfolding IsDistinct
    apart_row [] d = tt
    apart_row (b ∷ bs) d = elim (k == key_of w b.1) as (λ y. IsDistinct same_ptr (map place_of (cond y (b ∷ row w k bs) (row w k bs)))) [
      | true ↦ (all_row (λ q. same_ptr b.0 q ≡ false) bs d.0, apart_row bs d.1)
      | false ↦ apart_row bs d.1
    ]

    pub has_row : (p : Ptr) (bs : List Block) → has_place p (row w k bs) ≡ true → has_place p bs ≡ true
    has_row p [] h = cc
    has_row p (b ∷ bs) h = (elim (k == key_of w b.1) as (λ y. has_place p (cond y (b ∷ row w k bs) (row w k bs)) ≡ true →
        (same_ptr p b.0 || has_place p bs) ≡ true) [
          | true ↦ λ g. either ((same_ptr p b.0 || has_place p bs) ≡ true) (same_ptr p b.0) (λ e. ap (λ y. y || has_place p bs) e)
              (λ e. or_right (same_ptr p b.0) (has_place p bs) (has_row p bs (or_rest (same_ptr p b.0) (has_place p (row w k bs)) g e)))
          | false ↦ λ g. or_right (same_ptr p b.0) (has_place p bs) (has_row p bs g)
        ]) h

    pub reaches_row : (o : Option Place) (bs : List Block) → Reaches o (row w k bs) → Reaches o bs
    reaches_row None bs h = tt
    reaches_row (Some p) bs h = has_row p.ptr bs h

  -- a node of one list lies in no other
  row_fresh : (k j : ℕ) → (j == k) ≡ false → (p : Ptr) (bs : List Block) → IsApart bs → has_place p (row w k bs) ≡ true → IsFresh p (row w j bs)
  row_fresh k j apart p [] d h = tt
  row_fresh k j apart p (b ∷ bs) d h = either (IsFresh p (row w j (b ∷ bs))) (k == key_of w b.1)
      (λ is.
      let not_j : (j == key_of w b.1) ≡ false = ap (λ m. j == m) (number_eq (key_of w b.1) k is) ∙ apart in
      let here : has_place p (b ∷ row w k bs) ≡ true = subst (λ y. has_place p (cond y (b ∷ row w k bs) (row w k bs)) ≡ true) is h in
      subst (λ y. IsFresh p (cond y (b ∷ row w j bs) (row w j bs))) (sym not_j)
      (either (IsFresh p (row w j bs)) (same_ptr p b.0)
      (λ e. fresh_at b.0 p (row w j bs) (sym (same_ptr_eq p b.0 e)) (all_row j (λ q. same_ptr b.0 q ≡ false) bs (apart_head b bs d)))
      (λ e. row_fresh k j apart p bs (apart_tail b bs d) (or_rest (same_ptr p b.0) (has_place p (row w k bs)) here e))))
      (λ is.
      let there : has_place p (row w k bs) ≡ true = subst (λ y. has_place p (cond y (b ∷ row w k bs) (row w k bs)) ≡ true) is h in
      let rest = row_fresh k j apart p bs (apart_tail b bs d) there in
      elim (j == key_of w b.1) as (λ y. IsFresh p (cond y (b ∷ row w j bs) (row w j bs))) [
        | true ↦ (fresh_differs b.0 p bs (apart_head b bs d) (has_row k p bs there), rest)
        | false ↦ rest
      ])

  row_avoids : (k j : ℕ) → (j == k) ≡ false → (o : Option Place) (bs : List Block) → IsApart bs → Reaches o (row w k bs) → Avoids o (row w j bs)
  row_avoids k j apart None bs d h = tt
  row_avoids k j apart (Some p) bs d h = row_fresh k j apart p.ptr bs d h

  -- ---- what changes no neighbours in these lists

  pub thread_other : (heads : ℕ → Option Head) (bs : List Block) (o : Option Place) (f : Node → Node) → Keeps w f → KeepsSides w f
      → IsThreaded w heads bs →
      IsThreaded w heads (place_changed o f bs)
  thread_other heads bs o f h s t = record {
    run = λ k. subst (λ cs. IsRun w None cs None) (sym (row_changed k o f h bs)) (run_other w o f s None None (row w k bs) (t.run k));
    head = λ k. t.head k ∙ head_places (row w k bs) (place_changed o f (row w k bs)) (sym (places_changed f o (row w k bs)))
        ∙ ap head_of (sym (row_changed k o f h bs));
  }

  -- ---- a node joins

  module _ (heads : ℕ → Option Head) (bs : List Block) (b : Block) (d : IsApart (bs ++ b ∷ [])) (t : IsThreaded w heads bs)
      (s : sides_of w b.1 ≡ record { before = last_of (heads (key_of w b.1)); after = None }) where
    abbrev k : ℕ
    k = key_of w b.1

    abbrev o : Option Place
    o = last_of (heads k)

    abbrev f : Node → Node
    f = with_after w (Some (at_block b))

    last_is : o ≡ last_from None (row w k bs)
    last_is = ap last_of (t.head k) ∙ last_head (row w k bs)

    reached : Reaches o (row w k bs)
    reached = subst (λ q. Reaches q (row w k bs)) (sym last_is) (end_reaches (row w k bs))

    row_joined : (j : ℕ) → row w j (place_changed o f (bs ++ b ∷ [])) ≡ place_changed o f (row w j bs ++ cond (j == k) (b ∷ []) [])
    row_joined j = row_changed j o f (keeps_after w w (Some (at_block b))) (bs ++ b ∷ []) ∙ ap (place_changed o f) (row_append j bs (b ∷ []))

    apart_here : IsApart (row w k bs ++ b ∷ [])
    apart_here = subst IsApart (row_append k bs (b ∷ []) ∙ ap (λ y. row w k bs ++ cond y (b ∷ []) []) (same_number k)) (apart_row k (bs ++ b ∷ []) d)

    here : row w k (place_changed o f (bs ++ b ∷ [])) ≡ place_changed o f (row w k bs) ++ b ∷ []
    here = row_joined k ∙ ap (λ y. place_changed o f (row w k bs ++ cond y (b ∷ []) [])) (same_number k)
        ∙ changed_append f o (row w k bs) (b ∷ []) ∙ ap (λ cs. place_changed o f (row w k bs) ++ cs)
        (changed_avoids f o (b ∷ []) (reaches_avoids o (row w k bs) (b ∷ []) apart_here reached))

    elsewhere : (j : ℕ) → (j == k) ≡ false → row w j (place_changed o f (bs ++ b ∷ [])) ≡ row w j bs
    elsewhere j other = row_joined j ∙ ap (λ y. place_changed o f (row w j bs ++ cond y (b ∷ []) [])) other
        ∙ ap (place_changed o f) (append-nil (row w j bs))
        ∙ changed_avoids f o (row w j bs) (row_avoids k j other o bs (apart_front bs (b ∷ []) d) reached)

    run_here : IsRun w None (place_changed o f (row w k bs) ++ b ∷ []) None
    run_here =
        let r = row w k bs in
        let on : IsRun w None (place_changed o f r) (Some (at_block b)) =
        subst (λ q. IsRun w None (place_changed q f r) (Some (at_block b))) (sym last_is)
        (run_on w None None (Some (at_block b)) r (apart_row k bs (apart_front bs (b ∷ []) d)) (t.run k)) in
        run_join w None None (place_changed o f r) (b ∷ []) on (
          ap (λ (q : Sides). q.before) s ∙ last_is ∙ sym (last_changed o f None r),
          ap (λ (q : Sides). q.after) s,
          tt,
        )

    head_here : Some (head_with (at_block b) (heads k)) ≡ head_of (place_changed o f (row w k bs) ++ b ∷ [])
    head_here =
        let r = row w k bs in
        ap (λ h. Some (head_with (at_block b) h)) (t.head k) ∙ sym (head_push r b)
        ∙ head_places (r ++ b ∷ []) (place_changed o f r ++ b ∷ []) (map-append place_of r (b ∷ []) ∙ (λ i. sym (places_changed f o r) i ++ b.0 ∷ [])
        ∙ sym (map-append place_of (place_changed o f r) (b ∷ [])))

    pub thread_grow : IsThreaded w (with_at k (Some (head_with (at_block b) (heads k))) heads) (leads_on w o (Some (at_block b)) (bs ++ b ∷ []))
    thread_grow = record {
      run = λ j. either (IsRun w None (row w j (place_changed o f (bs ++ b ∷ []))) None) (j == k)
          (λ e. subst (λ m. IsRun w None (row w m (place_changed o f (bs ++ b ∷ []))) None) (number_eq k j e)
          (subst (λ cs. IsRun w None cs None) (sym here) run_here))
          (λ e. subst (λ cs. IsRun w None cs None) (sym (elsewhere j e)) (t.run j));
      head = λ j. either (cond (j == k) (Some (head_with (at_block b) (heads k))) (heads j) ≡ head_of
          (row w j (place_changed o f (bs ++ b ∷ [])))) (j == k)
          (λ e. ap (λ y. cond y (Some (head_with (at_block b) (heads k))) (heads j)) e ∙ head_here ∙ ap head_of (sym here)
          ∙ ap (λ m. head_of (row w m (place_changed o f (bs ++ b ∷ [])))) (number_eq k j e))
          (λ e. ap (λ y. cond y (Some (head_with (at_block b) (heads k))) (heads j)) e ∙ t.head j ∙ ap head_of (sym (elsewhere j e)));
    }

  -- ---- a node leaves

  pub found_row : (p : Ptr) (bs : List Block) (n : Node) → found p bs ≡ Some n → found p (row w (key_of w n) bs) ≡ Some n
  found_row p [] n e = cc
  found_row p (b ∷ bs) n e = (elim (same_ptr p b.0) as (λ y. same_ptr p b.0 ≡ y → cond y (Some b.1) (found p bs) ≡ Some n →
      found p (row w (key_of w n) (b ∷ bs)) ≡ Some n) [
        | true ↦ λ at h.
            let is : b.1 ≡ n = cc in
            ap (λ y. found p (cond y (b ∷ row w (key_of w n) bs) (row w (key_of w n) bs)))
            (ap (λ m. key_of w n == key_of w m) is ∙ same_number (key_of w n))
            ∙ ap (λ y. cond y (Some b.1) (found p (row w (key_of w n) bs))) at ∙ h
        | false ↦ λ at h.
            let rest = found_row p bs n h in
            elim (key_of w n == key_of w b.1) as (λ y. found p (cond y (b ∷ row w (key_of w n) bs) (row w (key_of w n) bs)) ≡ Some n) [
              | true ↦ ap (λ y. cond y (Some b.1) (found p (row w (key_of w n) bs))) at ∙ rest
              | false ↦ rest
            ]
      ]) refl e

  -- the nodes before a node, and those after it
  pub split_at : (p : Ptr) (r : List Block) (n : Node) → found p r ≡ Some n → (xs : List Block) × (ys : List Block) × (r ≡ xs ++ (p, n) ∷ ys)
  split_at p [] n e = cc
  split_at p (b ∷ r) n e = (elim (same_ptr p b.0) as (λ y. same_ptr p b.0 ≡ y → cond y (Some b.1) (found p r) ≡ Some n →
      (xs : List Block) × (ys : List Block) × (b ∷ r ≡ xs ++ (p, n) ∷ ys)) [
        | true ↦ λ at h. let is : b.1 ≡ n = cc in ([], r, λ i. (sym (same_ptr_eq p b.0 at) i, is i) ∷ r)
        | false ↦ λ at h. let rest = split_at p r n h in (b ∷ rest.0, rest.1, ap (λ cs. b ∷ cs) rest.2)
      ]) refl e

  module _ (heads : ℕ → Option Head) (bs : List Block) (p : Ptr) (n : Node) (d : IsApart bs) (t : IsThreaded w heads bs)
      (e : found p bs ≡ Some n) where
    abbrev gone : List Block → List Block
    gone cs = without_node p (leads_back w (sides_of w n).after (sides_of w n).before (leads_on w (sides_of w n).before (sides_of w n).after cs))

    row_gone : (j : ℕ) → row w j (gone bs) ≡ gone (row w j bs)
    row_gone j =
        let s = sides_of w n in
        row_removed j p (leads_back w s.after s.before (leads_on w s.before s.after bs))
        ∙ ap (without_node p) (row_changed j s.after (with_before w s.before) (keeps_before w w s.before) (leads_on w s.before s.after bs)
        ∙ ap (place_changed s.after (with_before w s.before)) (row_changed j s.before (with_after w s.after) (keeps_after w w s.after) bs))

    cut : (xs : List Block) × (ys : List Block) × (row w (key_of w n) bs ≡ xs ++ (p, n) ∷ ys)
    cut = split_at p (row w (key_of w n) bs) n (found_row p bs n e)

    whole : IsRun w None (cut.0 ++ (p, n) ∷ cut.1) None
    whole = subst (λ cs. IsRun w None cs None) cut.2 (t.run (key_of w n))

    sides_are : ((sides_of w n).before ≡ last_from None cut.0) × ((sides_of w n).after ≡ first_or None cut.1)
    sides_are = let r = (run_split w None None cut.0 ((p, n) ∷ cut.1) whole).1 in (r.0, r.1)

    out : IsRun w None (gone (cut.0 ++ (p, n) ∷ cut.1)) None × (head_without (sides_of w n) (head_of (cut.0 ++ (p, n) ∷ cut.1)) ≡ head_of
        (gone (cut.0 ++ (p, n) ∷ cut.1)))
    out = run_out w cut.0 (p, n) cut.1 (subst IsApart cut.2 (apart_row (key_of w n) bs d)) (sides_of w n) sides_are.0 sides_are.1 whole

    pub before_reaches : Reaches (sides_of w n).before (row w (key_of w n) bs)
    before_reaches = subst (Reaches (sides_of w n).before) (sym cut.2)
        (subst (λ q. Reaches q (cut.0 ++ (p, n) ∷ cut.1)) (sym sides_are.0)
        (reaches_front (last_from None cut.0) cut.0 ((p, n) ∷ cut.1) (end_reaches cut.0)))

    pub after_reaches : Reaches (sides_of w n).after (row w (key_of w n) bs)
    after_reaches = subst (Reaches (sides_of w n).after) (sym cut.2)
        (subst (λ q. Reaches q (cut.0 ++ (p, n) ∷ cut.1)) (sym sides_are.1)
        (reaches_past (first_or None cut.1) cut.0 (p, n) cut.1 (first_reaches cut.1)))

    gone_elsewhere : (j : ℕ) → (j == key_of w n) ≡ false → gone (row w j bs) ≡ row w j bs
    gone_elsewhere j other =
        let s = sides_of w n in let k = key_of w n in
        let on = changed_avoids (with_after w s.after) s.before (row w j bs) (row_avoids k j other s.before bs d before_reaches) in
        let back = changed_avoids (with_before w s.before) s.after (row w j bs) (row_avoids k j other s.after bs d after_reaches) in
        let it : has_place p (row w k bs) ≡ true = subst (λ cs. has_place p cs ≡ true) (sym cut.2) (has_past p cut.0 (p, n) cut.1) in
        ap (λ cs. without_node p (place_changed s.after (with_before w s.before) cs)) on ∙ ap (without_node p) back
        ∙ removed_fresh p (row w j bs) (row_fresh k j other p bs d it)

    pub thread_shrink : IsThreaded w (with_at (key_of w n) (head_without (sides_of w n) (heads (key_of w n))) heads) (gone bs)
    thread_shrink =
        let k = key_of w n in let s = sides_of w n in
        record {
          run = λ j. either (IsRun w None (row w j (gone bs)) None) (j == k)
              (λ is. subst (λ m. IsRun w None (row w m (gone bs)) None) (number_eq k j is)
              (subst (λ cs. IsRun w None cs None) (sym (row_gone k)) (subst (λ cs. IsRun w None (gone cs) None) (sym cut.2) out.0)))
              (λ other. subst (λ cs. IsRun w None cs None) (sym (row_gone j ∙ gone_elsewhere j other)) (t.run j));
          head = λ j. either (cond (j == k) (head_without s (heads k)) (heads j) ≡ head_of (row w j (gone bs))) (j == k)
              (λ is. ap (λ y. cond y (head_without s (heads k)) (heads j)) is ∙ ap (head_without s) (t.head k ∙ ap head_of cut.2)
              ∙ out.1 ∙ ap (λ cs. head_of (gone cs))
              (sym cut.2) ∙ ap head_of (sym (row_gone k))
              ∙ ap (λ m. head_of (row w m (gone bs))) (number_eq k j is))
              (λ other. ap (λ y. cond y (head_without s (heads k)) (heads j)) other ∙ t.head j
              ∙ ap head_of (sym (row_gone j ∙ gone_elsewhere j other)));
        }
