-- What joins a run of nodes, and what leaves it.
use Rattle.std.proofs.Common.{◌≡◌, suc, ◌+◌, ◌-◌, true, false, cond, ◌||◌, List, [], ◌∷◌, ◌++◌, length, map, refl, sym, ap, ◌∙◌, subst, Option, Some, None, arith, append-nil, is_some}
use Rattle.std.specs.List.{IsDistinct}
use Rattle.std.proofs.lemmas.List.{map-append}
use mathlib.Core.Bool.{Bool}
use denote.RawPtr.{Ptr}
use Rattle.av_chain.specs.declared.node.Node.{Node}
use Rattle.av_chain.specs.declared.node.Head.{Head}
use Rattle.av_chain.specs.declared.node.Way.{Way}
use Rattle.av_chain.specs.declared.node.Way.TheVariants.{Area, Anon}
use Rattle.av_chain.specs.declared.node.Sides.{Sides}
use Rattle.av_chain.specs.declared.node.Place.{Place}
use Rattle.av_chain.specs.Nodes.{Block, same_ptr, place_of, IsApart, has_place, without_node}
use Rattle.av_chain.specs.Rows.{or_nowhere, place_if, sides_of, with_before, with_after, node_changed, place_changed, leads_on, leads_back, Reaches, at_block, first_or, last_from, IsRun, end_of, head_of, last_of, head_with, head_beside, head_without}
use Rattle.av_chain.proofs.Pointers.{same_ptr_refl}
use Rattle.av_chain.proofs.Apart.{IsFresh, apart_tail, apart_head, removed_fresh}
use Rattle.av_chain.proofs.Altered.{either, or_right, or_rest, fresh_left, apart_right, has_here, place_cond, changed_avoids, changed_append, places_changed, apart_changed, fresh_changed, reaches_avoids, avoids_reaches}

stored_back : (o : Option Place) → place_if (is_some o) (or_nowhere o) ≡ o
stored_back None = refl
stored_back (Some p) = refl

pub stored_sides : (s : Sides) → record {
  before = place_if (is_some s.before) (or_nowhere s.before);
  after = place_if (is_some s.after) (or_nowhere s.after);
} ≡ s
stored_sides s = λ i. record { before = stored_back s.before i; after = stored_back s.after i }

sides_on : (w : Way) (o : Option Place) (n : Node) → sides_of w (with_after w o n) ≡ record { before = (sides_of w n).before; after = o }
sides_on Area o n = λ i. record { before = (sides_of Area n).before; after = stored_back o i }
sides_on Anon o n = λ i. record { before = (sides_of Anon n).before; after = stored_back o i }

sides_back : (w : Way) (o : Option Place) (n : Node) → sides_of w (with_before w o n) ≡ record { before = o; after = (sides_of w n).after }
sides_back Area o n = λ i. record { before = stored_back o i; after = (sides_of Area n).after }
sides_back Anon o n = λ i. record { before = stored_back o i; after = (sides_of Anon n).after }

at_cond : (y : Bool) (f : Node → Node) (b : Block) → at_block (cond y (b.0, f b.1) b) ≡ at_block b
at_cond y f b = ap (λ (p : Ptr). record { ptr = p }) (place_cond y f b)

-- the node at its own place is changed
changed_here : (f : Node → Node) (b : Block) (bs : List Block) → IsApart (b ∷ bs) → place_changed (Some (at_block b)) f (b ∷ bs) ≡ (b.0, f b.1) ∷ bs
changed_here f b bs d = λ i. cond (same_ptr_refl b.0 i) (b.0, f b.1) b ∷ changed_avoids f (Some (at_block b)) bs (apart_head b bs d) i

first_altered : (p : Ptr) (f : Node → Node) (after : Option Place) (bs : List Block) → first_or after (node_changed p f bs) ≡ first_or after bs
first_altered p f after [] = refl
first_altered p f after (b ∷ bs) = ap (λ q. Some q) (at_cond (same_ptr p b.0) f b)

pub first_changed : (o : Option Place) (f : Node → Node) (after : Option Place) (bs : List Block)
    → first_or after (place_changed o f bs) ≡ first_or after bs
first_changed None f after bs = refl
first_changed (Some p) f after bs = first_altered p.ptr f after bs

last_altered : (p : Ptr) (f : Node → Node) (before : Option Place) (bs : List Block) → last_from before (node_changed p f bs) ≡ last_from before bs
last_altered p f before [] = refl
last_altered p f before (b ∷ bs) = ap (λ q. last_from (Some q) (node_changed p f bs)) (at_cond (same_ptr p b.0) f b)
    ∙ last_altered p f (Some (at_block b)) bs

pub last_changed : (o : Option Place) (f : Node → Node) (before : Option Place) (bs : List Block) →
    last_from before (place_changed o f bs) ≡ last_from before bs
last_changed None f before bs = refl
last_changed (Some p) f before bs = last_altered p.ptr f before bs

reaches_later : (o : Option Place) (b : Block) (bs : List Block) → Reaches o bs → Reaches o (b ∷ bs)
reaches_later None b bs h = tt
reaches_later (Some p) b bs h = or_right (same_ptr p.ptr b.0) (has_place p.ptr bs) h

pub has_past : (p : Ptr) (xs : List Block) (b : Block) (ys : List Block) → has_place b.0 (xs ++ b ∷ ys) ≡ true
has_past p [] b ys = has_here b ys
has_past p (x ∷ xs) b ys = or_right (same_ptr b.0 x.0) (has_place b.0 (xs ++ b ∷ ys)) (has_past p xs b ys)

has_front : (p : Ptr) (xs ys : List Block) → has_place p xs ≡ true → has_place p (xs ++ ys) ≡ true
has_front p [] ys h = cc
has_front p (x ∷ xs) ys h = either ((same_ptr p x.0 || has_place p (xs ++ ys)) ≡ true) (same_ptr p x.0) (λ e. ap (λ y. y || has_place p (xs ++ ys)) e)
    (λ e. or_right (same_ptr p x.0) (has_place p (xs ++ ys)) (has_front p xs ys (or_rest (same_ptr p x.0) (has_place p xs) h e)))

pub reaches_front : (o : Option Place) (xs ys : List Block) → Reaches o xs → Reaches o (xs ++ ys)
reaches_front None xs ys h = tt
reaches_front (Some p) xs ys h = has_front p.ptr xs ys h

pub reaches_past : (o : Option Place) (xs : List Block) (b : Block) (ys : List Block) → Reaches o ys → Reaches o (xs ++ b ∷ ys)
reaches_past o [] b ys h = reaches_later o b ys h
reaches_past o (x ∷ xs) b ys h = reaches_later o x (xs ++ b ∷ ys) (reaches_past o xs b ys h)

pub last_reaches : (b : Block) (bs : List Block) → Reaches (last_from (Some (at_block b)) bs) (b ∷ bs)
last_reaches b [] = has_here b []
last_reaches b (c ∷ bs) = reaches_later (last_from (Some (at_block c)) bs) b (c ∷ bs) (last_reaches c bs)

pub end_reaches : (bs : List Block) → Reaches (last_from None bs) bs
end_reaches [] = tt
end_reaches (b ∷ bs) = last_reaches b bs

pub first_reaches : (bs : List Block) → Reaches (first_or None bs) bs
first_reaches [] = tt
first_reaches (b ∷ bs) = has_here b bs

-- ---- runs

first_append : (after : Option Place) (xs ys : List Block) → first_or after (xs ++ ys) ≡ first_or (first_or after ys) xs
first_append after [] ys = refl
first_append after (x ∷ xs) ys = refl

module _ (w : Way) where
  pub run_split : (before after : Option Place) (xs ys : List Block) → IsRun w before (xs ++ ys) after →
      IsRun w before xs (first_or after ys) × IsRun w (last_from before xs) ys after
  run_split before after [] ys r = (tt, r)
  run_split before after (x ∷ xs) ys r =
      let rest = run_split (Some (at_block x)) after xs ys r.2 in
      ((r.0, r.1 ∙ first_append after xs ys, rest.0), rest.1)

  pub run_join : (before after : Option Place) (xs ys : List Block) → IsRun w before xs (first_or after ys) → IsRun w (last_from before xs) ys after →
      IsRun w before (xs ++ ys) after
  run_join before after [] ys r s = s
  run_join before after (x ∷ xs) ys r s = (r.0, r.1 ∙ sym (first_append after xs ys), run_join (Some (at_block x)) after xs ys r.2 s)

  -- the last node leads on to something else
  pub run_on : (before after to : Option Place) (xs : List Block) → IsApart xs → IsRun w before xs after →
      IsRun w before (leads_on w (last_from None xs) to xs) to
  run_on before after to [] d r = tt
  run_on before after to (x ∷ []) d r =
      let f = with_after w to in
      let new = sides_on w to x.1 in
      subst (λ (bs : List Block). IsRun w before bs to) (sym (changed_here f x [] d))
      (ap (λ (s : Sides). s.before) new ∙ r.0, ap (λ (s : Sides). s.after) new, tt)
  run_on before after to (x ∷ y ∷ ys) d r =
      let f = with_after w to in
      let o = last_from (Some (at_block y)) ys in
      let stays : place_changed o f (x ∷ []) ≡ x ∷ [] = changed_avoids f o (x ∷ []) (avoids_reaches o (x ∷ []) (y ∷ ys) d (last_reaches y ys)) in
      let is : place_changed o f (x ∷ y ∷ ys) ≡ x ∷ place_changed o f (y ∷ ys) = changed_append f o (x ∷ []) (y ∷ ys)
      ∙ ap (λ cs. cs ++ place_changed o f (y ∷ ys)) stays in
      subst (λ (bs : List Block). IsRun w before bs to) (sym is)
      (r.0, r.1 ∙ sym (first_changed o f to (y ∷ ys)), run_on (Some (at_block x)) after to (y ∷ ys) (apart_tail x (y ∷ ys) d) r.2)

  -- the first node leads back to something else
  pub run_back : (before after to : Option Place) (ys : List Block) → IsApart ys → IsRun w before ys after →
      IsRun w to (leads_back w (first_or None ys) to ys) after
  run_back before after to [] d r = tt
  run_back before after to (y ∷ ys) d r =
      let new = sides_back w to y.1 in
      subst (λ (bs : List Block). IsRun w to bs after) (sym (changed_here (with_before w to) y ys d))
      (ap (λ (s : Sides). s.before) new, ap (λ (s : Sides). s.after) new ∙ r.1, r.2)

  sides_cond : (f : Node → Node) → ((n : Node) → sides_of w (f n) ≡ sides_of w n) → (y : Bool) (b : Block) →
      sides_of w (cond y (b.0, f b.1) b).1 ≡ sides_of w b.1
  sides_cond f h true b = h b.1
  sides_cond f h false b = refl

  run_altered : (p : Ptr) (f : Node → Node) → ((n : Node) → sides_of w (f n) ≡ sides_of w n) → (before after : Option Place) (bs : List Block) →
      IsRun w before bs after → IsRun w before (node_changed p f bs) after
  run_altered p f h before after [] r = tt
  run_altered p f h before after (b ∷ bs) r =
      let same = sides_cond f h (same_ptr p b.0) b in (
        ap (λ (s : Sides). s.before) same ∙ r.0,
        ap (λ (s : Sides). s.after) same ∙ r.1 ∙ sym (first_altered p f after bs),
        subst (λ q. IsRun w (Some q) (node_changed p f bs) after) (sym (at_cond (same_ptr p b.0) f b))
            (run_altered p f h (Some (at_block b)) after bs r.2),
      )

  -- what changes no neighbours in this list
  pub run_other : (o : Option Place) (f : Node → Node) → ((n : Node) → sides_of w (f n) ≡ sides_of w n)
      → (before after : Option Place) (bs : List Block) →
      IsRun w before bs after → IsRun w before (place_changed o f bs) after
  run_other None f h before after bs r = r
  run_other (Some p) f h before after bs r = run_altered p.ptr f h before after bs r

-- ---- heads

abbrev ends_at : Place → List Ptr → Place
ends_at p [] = p
ends_at p (q ∷ qs) = ends_at (record { ptr = q }) qs

abbrev head_at : List Ptr → Option Head
head_at [] = None
head_at (p ∷ ps) = Some (record { first = record { ptr = p }; last = ends_at (record { ptr = p }) ps; count = suc (length ps) })

end_places : (p : Place) (bs : List Block) → end_of p bs ≡ ends_at p (map place_of bs)
end_places p [] = refl
end_places p (b ∷ bs) = end_places (at_block b) bs

length_map : (cs : List Block) → length cs ≡ length (map place_of cs)
length_map [] = refl
length_map (c ∷ cs) = ap (λ n. suc n) (length_map cs)

head_is : (bs : List Block) → head_of bs ≡ head_at (map place_of bs)
head_is [] = refl
head_is (b ∷ bs) = λ i. Some (record { first = at_block b; last = end_places (at_block b) bs i; count = suc (length_map bs i) })

-- only the places matter
pub head_places : (cs bs : List Block) → map place_of cs ≡ map place_of bs → head_of cs ≡ head_of bs
head_places cs bs e = head_is cs ∙ ap head_at e ∙ sym (head_is bs)

end_append : (p : Place) (xs : List Block) (y : Block) (ys : List Block) → end_of p (xs ++ y ∷ ys) ≡ end_of (at_block y) ys
end_append p [] y ys = refl
end_append p (x ∷ xs) y ys = end_append (at_block x) xs y ys

end_last : (p : Place) (bs : List Block) → last_from (Some p) bs ≡ Some (end_of p bs)
end_last p [] = refl
end_last p (b ∷ bs) = end_last (at_block b) bs

pub last_head : (bs : List Block) → last_of (head_of bs) ≡ last_from None bs
last_head [] = refl
last_head (b ∷ bs) = sym (end_last (at_block b) bs)

length_push : (bs : List Block) (b : Block) → length (bs ++ b ∷ []) ≡ length bs + 1
length_push [] b = refl
length_push (c ∷ bs) b = let e = length_push bs b in omega arith

pub head_push : (bs : List Block) (b : Block) → head_of (bs ++ b ∷ []) ≡ Some (head_with (at_block b) (head_of bs))
head_push [] b = refl
head_push (c ∷ bs) b =
    let e = length_push bs b in
    let more : suc (length (bs ++ b ∷ [])) ≡ suc (length bs) + 1 = omega arith in
    λ i. Some (record { first = at_block c; last = end_append (at_block c) bs b [] i; count = more i })

length_with : (xs ys : List Block) (b : Block) → length (xs ++ b ∷ ys) ≡ suc (length (xs ++ ys))
length_with [] ys b = refl
length_with (x ∷ xs) ys b = ap (λ n. suc n) (length_with xs ys b)

-- the head once a node between these is gone
pub head_out : (xs ys : List Block) (b : Block) (s : Sides) → s.before ≡ last_from None xs → s.after ≡ first_or None ys →
    head_without s (head_of (xs ++ b ∷ ys)) ≡ head_of (xs ++ ys)
head_out [] [] b s eb ea = λ i. head_beside s (record { first = at_block b; last = at_block b; count = 1 }) (eb i) (ea i)
head_out [] (y ∷ ys) b s eb ea =
    let h : Head = record { first = at_block b; last = end_of (at_block y) ys; count = suc (suc (length ys)) } in
    let less : suc (suc (length ys)) - 1 ≡ suc (length ys) = omega arith in
    (λ i. head_beside s h (eb i) (ea i)) ∙ (λ i. Some (record { first = at_block y; last = end_of (at_block y) ys; count = less i }))
head_out (x ∷ xs) [] b s eb ea =
    let h : Head = record { first = at_block x; last = end_of (at_block x) (xs ++ b ∷ []); count = suc (length (xs ++ b ∷ [])) } in
    let long = length_with xs [] b in
    let less : suc (length (xs ++ b ∷ [])) - 1 ≡ suc (length (xs ++ [])) = omega arith in
    (λ i. head_beside s h ((eb ∙ end_last (at_block x) xs) i) (ea i)) ∙ (λ i. Some
    (record { first = at_block x; last = end_of (at_block x) (sym (append-nil xs) i); count = less i }))
head_out (x ∷ xs) (y ∷ ys) b s eb ea =
    let h : Head = record { first = at_block x; last = end_of (at_block x) (xs ++ b ∷ y ∷ ys); count = suc (length (xs ++ b ∷ y ∷ ys)) } in
    let long = length_with xs (y ∷ ys) b in
    let less : suc (length (xs ++ b ∷ y ∷ ys)) - 1 ≡ suc (length (xs ++ y ∷ ys)) = omega arith in
    (λ i. head_beside s h ((eb ∙ end_last (at_block x) xs) i) (ea i))
    ∙ (λ i. Some (record
    { first = at_block x; last = (end_append (at_block x) xs b (y ∷ ys) ∙ sym (end_append (at_block x) xs y ys)) i; count = less i }))

-- ---- a node leaves

removed_mid : (xs : List Block) (b : Block) (ys : List Block) → IsFresh b.0 xs → IsFresh b.0 ys → without_node b.0 (xs ++ b ∷ ys) ≡ xs ++ ys
removed_mid [] b ys f g = (λ i. cond (same_ptr_refl b.0 i) (without_node b.0 ys) (b ∷ without_node b.0 ys)) ∙ removed_fresh b.0 ys g
removed_mid (x ∷ xs) b ys f g = (λ i. cond (f.0 i) (without_node b.0 (xs ++ b ∷ ys)) (x ∷ without_node b.0 (xs ++ b ∷ ys)))
    ∙ ap (λ cs. x ∷ cs) (removed_mid xs b ys f.1 g)

apart_rest : (xs ys : List Block) → IsApart (xs ++ ys) → IsApart ys
apart_rest [] ys d = d
apart_rest (x ∷ xs) ys d = apart_rest xs ys (apart_tail x (xs ++ ys) d)

pub apart_front : (xs ys : List Block) → IsApart (xs ++ ys) → IsApart xs
unfolding IsDistinct
apart_front [] ys d = tt
apart_front (x ∷ xs) ys d = (fresh_left x.0 xs ys d.0, apart_front xs ys d.1)

module _ (w : Way) (xs : List Block) (b : Block) (ys : List Block) (d : IsApart (xs ++ b ∷ ys)) where
  abbrev B : Option Place
  B = last_from None xs

  abbrev A : Option Place
  A = first_or None ys

  abbrev xs' : List Block
  xs' = leads_on w B A xs

  abbrev ys' : List Block
  ys' = leads_back w A B ys

  on : leads_on w B A (xs ++ b ∷ ys) ≡ xs' ++ b ∷ ys
  on = changed_append (with_after w A) B xs (b ∷ ys) ∙ ap (λ cs. xs' ++ cs)
      (changed_avoids (with_after w A) B (b ∷ ys) (reaches_avoids B xs (b ∷ ys) d (end_reaches xs)))

  back : leads_back w A B (xs' ++ b ∷ ys) ≡ xs' ++ b ∷ ys'
  back =
      let g = with_before w B in
      let d' : IsApart (xs' ++ b ∷ ys) = subst IsApart on (apart_changed (with_after w A) B (xs ++ b ∷ ys) d) in
      let front : place_changed A g xs' ≡ xs' = changed_avoids g A xs' (avoids_reaches A xs' (b ∷ ys) d' (reaches_later A b ys (first_reaches ys))) in
      let here : place_changed A g (b ∷ []) ≡ b ∷ [] = changed_avoids g A (b ∷ [])
      (avoids_reaches A (b ∷ []) ys (apart_rest xs (b ∷ ys) d) (first_reaches ys)) in
      changed_append g A xs' (b ∷ ys) ∙ (λ i. front i ++ (changed_append g A (b ∷ []) ys ∙ ap (λ cs. cs ++ ys') here) i)

  gone : without_node b.0 (leads_back w A B (leads_on w B A (xs ++ b ∷ ys))) ≡ xs' ++ ys'
  gone =
      ap (λ cs. without_node b.0 (leads_back w A B cs)) on ∙ ap (without_node b.0) back
      ∙ removed_mid xs' b ys' (fresh_changed (with_after w A) b.0 B xs (apart_right b.0 xs (b ∷ ys) d (has_here b ys)))
      (fresh_changed (with_before w B) b.0 A ys (apart_head b ys (apart_rest xs (b ∷ ys) d)))

  pub run_out : (s : Sides) → s.before ≡ B → s.after ≡ A → IsRun w None (xs ++ b ∷ ys) None
      → IsRun w None (without_node b.0 (leads_back w s.after s.before (leads_on w s.before s.after (xs ++ b ∷ ys)))) None
      × (head_without s (head_of (xs ++ b ∷ ys)) ≡ head_of
      (without_node b.0 (leads_back w s.after s.before (leads_on w s.before s.after (xs ++ b ∷ ys)))))
  run_out s eb ea r =
      let is : without_node b.0 (leads_back w s.after s.before (leads_on w s.before s.after (xs ++ b ∷ ys))) ≡ xs' ++ ys' =
      (λ i. without_node b.0 (leads_back w (ea i) (eb i) (leads_on w (eb i) (ea i) (xs ++ b ∷ ys)))) ∙ gone in
      let parts = run_split w None None xs (b ∷ ys) r in
      let one : IsRun w None xs' (first_or None ys') = subst (IsRun w None xs') (sym (first_changed A (with_before w B) None ys))
      (run_on w None (Some (at_block b)) A xs (apart_front xs (b ∷ ys) d) parts.0) in
      let two : IsRun w (last_from None xs') ys' None = subst (λ o. IsRun w o ys' None) (sym (last_changed B (with_after w A) None xs))
      (run_back w (Some (at_block b)) None B ys (apart_tail b ys (apart_rest xs (b ∷ ys) d)) parts.1.2) in
      let places : map place_of (xs' ++ ys') ≡ map place_of (xs ++ ys) =
      map-append place_of xs' ys' ∙ (λ i. places_changed (with_after w A) B xs i ++ places_changed (with_before w B) A ys i)
      ∙ sym (map-append place_of xs ys) in (
        subst (λ cs. IsRun w None cs None) (sym is) (run_join w None None xs' ys' one two),
        head_out xs ys b s eb ea ∙ sym (head_places (xs' ++ ys') (xs ++ ys) places) ∙ ap head_of (sym is),
      )
