-- The nodes with the heads of their lists, when a link is made or goes.
use Rattle.av_base.specs.Words.{is_in, with_at}
use Rattle.std.proofs.Common.{◌≡◌, ℕ, true, false, cond, ◌||◌, ◌==◌, List, [], ◌∷◌, ◌++◌, refl, sym, ap, ◌∙◌, subst, Option, Some, None, IsSome}
use mathlib.Core.Bool.{Bool}
use denote.RawPtr.{Ptr}
use Rattle.av_chain.specs.declared.node.Node.{Node}
use Rattle.av_chain.specs.declared.node.Head.{Head}
use Rattle.av_chain.specs.declared.node.Way.{Way}
use Rattle.av_chain.specs.declared.node.Way.TheVariants.{Area, Anon}
use Rattle.av_chain.specs.declared.node.Sides.{Sides}
use Rattle.av_chain.specs.declared.node.Place.{Place}
use Rattle.av_chain.specs.Nodes.{Block, same_ptr, IsApart, has_place, found, without_node}
use Rattle.av_chain.specs.Rows.{key_of, sides_of, node_of, with_before, with_after, node_changed, place_changed, leads_on, leads_back, Reaches, row, at_block, head_of, last_of, head_with, head_without, IsThreaded}
use Rattle.av_chain.specs.Links.{Link, chain_of, AreOnce}
use Rattle.av_chain.specs.Lists.{links_of, AreThreaded}
use Rattle.av_chain.proofs.Altered.{either, cond_lift, changed_append, changed_avoids, reaches_avoids, removed_changed, apart_changed, has_changed, reaches_changed, place_cond}
use Rattle.av_chain.proofs.Runs.{stored_sides, last_head, end_reaches, reaches_front, has_past}
use Rattle.av_chain.proofs.Threads.{Keeps, KeepsSides, keeps_after, keeps_before, number_eq, same_number, reaches_row, thread_other, thread_grow, thread_shrink, before_reaches, after_reaches, found_row, split_at}

-- ---- heads that are the same

thread_heads : (w : Way) (heads heads' : ℕ → Option Head) (bs : List Block) → ((k : ℕ) → heads' k ≡ heads k) → IsThreaded w heads bs
    → IsThreaded w heads' bs
thread_heads w heads heads' bs e t = record { run = t.run; head = λ k. e k ∙ t.head k }

pub whole_heads : (areas areas' anons anons' : ℕ → Option Head) (bs : List Block) → ((k : ℕ) → areas' k ≡ areas k) → ((k : ℕ) → anons' k ≡ anons k) →
    AreThreaded areas anons bs → AreThreaded areas' anons' bs
whole_heads areas areas' anons anons' bs ea ev t =
    record {
      areas_lead = thread_heads Area areas areas' bs ea t.areas_lead;
      anons_lead = thread_heads Anon anons anons' bs ev t.anons_lead;
      once = t.once;
    }

-- ---- the links stay

abbrev pair_at : Block → Link
pair_at b = (b.1.area, b.1.anon)

pair_cond : (f : Node → Node) → Keeps Area f → Keeps Anon f → (y : Bool) (c : Block) → pair_at (cond y (c.0, f c.1) c) ≡ pair_at c
pair_cond f ha hv true c = λ i. (ha c.1 i, hv c.1 i)
pair_cond f ha hv false c = refl

links_altered : (p : Ptr) (f : Node → Node) → Keeps Area f → Keeps Anon f → (bs : List Block) → links_of (node_changed p f bs) ≡ links_of bs
links_altered p f ha hv [] = refl
links_altered p f ha hv (c ∷ bs) = λ i. pair_cond f ha hv (same_ptr p c.0) c i ∷ links_altered p f ha hv bs i

links_changed : (o : Option Place) (f : Node → Node) → Keeps Area f → Keeps Anon f → (bs : List Block) → links_of (place_changed o f bs) ≡ links_of bs
links_changed None f ha hv bs = refl
links_changed (Some p) f ha hv bs = links_altered p.ptr f ha hv bs

links_on : (w : Way) (o to : Option Place) (bs : List Block) → links_of (leads_on w o to bs) ≡ links_of bs
links_on w o to bs = links_changed o (with_after w to) (keeps_after Area w to) (keeps_after Anon w to) bs

links_back : (w : Way) (o to : Option Place) (bs : List Block) → links_of (leads_back w o to bs) ≡ links_of bs
links_back w o to bs = links_changed o (with_before w to) (keeps_before Area w to) (keeps_before Anon w to) bs

links_append : (xs ys : List Block) → links_of (xs ++ ys) ≡ links_of xs ++ links_of ys
links_append [] ys = refl
links_append (x ∷ xs) ys = ap (λ ls. (x.1.area, x.1.anon) ∷ ls) (links_append xs ys)

-- ---- no link is made twice

or_assoc : (x y z : Bool) → (x || (y || z)) ≡ ((x || y) || z)
or_assoc true y z = refl
or_assoc false y z = refl

false_left : (x y : Bool) → (x || y) ≡ false → x ≡ false
false_left true y e = cc
false_left false y e = refl

false_right : (x y : Bool) → (x || y) ≡ false → y ≡ false
false_right true y e = cc
false_right false y e = e

pub or_false : (x y : Bool) → (x || y) ≡ false → (x ≡ false) × (y ≡ false)
or_false x y e = (false_left x y e, false_right x y e)

both_false : (x y : Bool) → x ≡ false → y ≡ false → (x || y) ≡ false
both_false x y e f = ap (λ z. z || y) e ∙ f

pub chain_append : (ls ms : List Link) (a : ℕ) → chain_of (ls ++ ms) a ≡ chain_of ls a ++ chain_of ms a
chain_append [] ms a = refl
chain_append (l ∷ ls) ms a = (λ i. cond (a == l.0) (l.1 ∷ chain_append ls ms a i) (chain_append ls ms a i))
    ∙ sym (cond_lift (λ vs. vs ++ chain_of ms a) (a == l.0) (l.1 ∷ chain_of ls a) (chain_of ls a))

pub is_in_append : (x : ℕ) (xs ys : List ℕ) → is_in x (xs ++ ys) ≡ (is_in x xs || is_in x ys)
is_in_append x [] ys = refl
is_in_append x (y ∷ xs) ys = ap (λ z. (x == y) || z) (is_in_append x xs ys) ∙ or_assoc (x == y) (is_in x xs) (is_in x ys)

number_sym : (x y : ℕ) → (y == x) ≡ false → (x == y) ≡ false
number_sym x y e = either ((x == y) ≡ false) (x == y)
    (λ h. let clash = sym (ap (λ z. y == z) (sym (number_eq y x h)) ∙ same_number y) ∙ e in cc) (λ h. h)

pub number_flip : (x y : ℕ) → (x == y) ≡ (y == x)
number_flip x y = either ((x == y) ≡ (y == x)) (x == y)
    (λ h. h ∙ sym (ap (λ z. y == z) (sym (number_eq y x h)) ∙ same_number y)) (λ h. h ∙ sym (number_sym y x h))

single : (u b a v : ℕ) → (a ≡ b → (v == u) ≡ false) → is_in u (chain_of ((a, v) ∷ []) b) ≡ false
single u b a v h = either (is_in u (cond (b == a) (v ∷ []) []) ≡ false) (b == a)
    (λ e. ap (λ y. is_in u (cond y (v ∷ []) [])) e ∙ both_false (u == v) false (number_sym u v (h (number_eq a b e))) refl)
    (λ e. ap (λ y. is_in u (cond y (v ∷ []) [])) e)

not_that : (y : Bool) (u v : ℕ) (vs : List ℕ) → y ≡ true → is_in v (cond y (u ∷ vs) vs) ≡ false → (v == u) ≡ false
not_that true u v vs e h = false_left (v == u) (is_in v vs) h
not_that false u v vs e h = cc

not_later : (y : Bool) (u v : ℕ) (vs : List ℕ) → is_in v (cond y (u ∷ vs) vs) ≡ false → is_in v vs ≡ false
not_later true u v vs h = false_right (v == u) (is_in v vs) h
not_later false u v vs h = h

once_push : (ls : List Link) (a v : ℕ) → AreOnce ls → is_in v (chain_of ls a) ≡ false → AreOnce (ls ++ (a, v) ∷ [])
once_push [] a v o n = (refl, tt)
once_push (l ∷ ls) a v o n =
    let apart : a ≡ l.0 → (v == l.1) ≡ false = λ e. not_that (a == l.0) l.1 v (chain_of ls a) (ap (λ k. k == l.0) e ∙ same_number l.0) n in (
      ap (is_in l.1) (chain_append ls ((a, v) ∷ []) l.0) ∙ is_in_append l.1 (chain_of ls l.0) (chain_of ((a, v) ∷ []) l.0)
          ∙ both_false (is_in l.1 (chain_of ls l.0)) (is_in l.1 (chain_of ((a, v) ∷ []) l.0)) o.0 (single l.1 l.0 a v apart),
      once_push ls a v o.1 (not_later (a == l.0) l.1 v (chain_of ls a) n),
    )

fewer : (p : Ptr) (bs : List Block) (a v : ℕ) → is_in v (chain_of (links_of bs) a) ≡ false
    → is_in v (chain_of (links_of (without_node p bs)) a) ≡ false
fewer p [] a v n = n
fewer p (b ∷ bs) a v n =
    let rest = fewer p bs a v (not_later (a == b.1.area) b.1.anon v (chain_of (links_of bs) a) n) in
    elim (same_ptr p b.0) as (λ y. is_in v (chain_of (links_of (cond y (without_node p bs) (b ∷ without_node p bs))) a) ≡ false) [
      | true ↦ rest
      | false ↦ (elim (a == b.1.area) as (λ y. is_in v (cond y (b.1.anon ∷ chain_of (links_of bs) a) (chain_of (links_of bs) a)) ≡ false
          → is_in v (cond y (b.1.anon ∷ chain_of (links_of (without_node p bs)) a) (chain_of (links_of (without_node p bs)) a)) ≡ false) [
            | true ↦ λ h. both_false (v == b.1.anon) (is_in v (chain_of (links_of (without_node p bs)) a))
                (false_left (v == b.1.anon) (is_in v (chain_of (links_of bs) a)) h) rest
            | false ↦ λ h. rest
          ]) n
    ]

once_removed : (p : Ptr) (bs : List Block) → AreOnce (links_of bs) → AreOnce (links_of (without_node p bs))
once_removed p [] o = tt
once_removed p (b ∷ bs) o = elim (same_ptr p b.0) as (λ y. AreOnce (links_of (cond y (without_node p bs) (b ∷ without_node p bs)))) [
  | true ↦ once_removed p bs o.1
  | false ↦ (fewer p bs b.1.area b.1.anon o.0, once_removed p bs o.1)
]

-- ---- a link is made

module _ (areas anons : ℕ → Option Head) (bs : List Block) (p : Ptr) (area anon : ℕ) (t : AreThreaded areas anons bs) where
  abbrev pub new_node : Node
  new_node = node_of area anon (record { before = last_of (areas area); after = None })
      (record { before = last_of (anons anon); after = None })

  abbrev b : Block
  b = (p, new_node)

  abbrev at : Option Place
  at = Some (at_block b)

  module _ (d : IsApart (bs ++ b ∷ [])) where
    area_reaches : Reaches (last_of (areas area)) bs
    area_reaches = reaches_row Area area (last_of (areas area)) bs
        (subst (λ o. Reaches o (row Area area bs)) (sym (ap last_of (t.areas_lead.head area) ∙ last_head (row Area area bs)))
        (end_reaches (row Area area bs)))

    anon_reaches : Reaches (last_of (anons anon)) bs
    anon_reaches = reaches_row Anon anon (last_of (anons anon)) bs
        (subst (λ o. Reaches o (row Anon anon bs)) (sym (ap last_of (t.anons_lead.head anon) ∙ last_head (row Anon anon bs)))
        (end_reaches (row Anon anon bs)))

    pub first_join : Reaches (last_of (areas area)) (bs ++ b ∷ [])
    first_join = reaches_front (last_of (areas area)) bs (b ∷ []) area_reaches

    abbrev bs1 : List Block
    bs1 = leads_on Area (last_of (areas area)) at (bs ++ b ∷ [])

    pub second_join : Reaches (last_of (anons anon)) bs1
    second_join = reaches_changed (with_after Area at) (last_of (anons anon)) (last_of (areas area)) (bs ++ b ∷ [])
        (reaches_front (last_of (anons anon)) bs (b ∷ []) anon_reaches)

    abbrev bs2 : List Block
    bs2 = leads_on Anon (last_of (anons anon)) at bs1

    pushed : bs1 ≡ leads_on Area (last_of (areas area)) at bs ++ b ∷ []
    pushed = changed_append (with_after Area at) (last_of (areas area)) bs (b ∷ [])
        ∙ ap (λ cs. leads_on Area (last_of (areas area)) at bs ++ cs)
        (changed_avoids (with_after Area at) (last_of (areas area)) (b ∷ []) (reaches_avoids (last_of (areas area)) bs (b ∷ []) d area_reaches))

    pub links_made : links_of bs2 ≡ links_of bs ++ (area, anon) ∷ []
    links_made = links_on Anon (last_of (anons anon)) at bs1 ∙ links_on Area (last_of (areas area)) at (bs ++ b ∷ []) ∙ links_append bs (b ∷ [])

    pub whole_made : is_in anon (chain_of (links_of bs) area) ≡ false
        → AreThreaded (with_at area (Some (head_with (at_block b) (areas area))) areas)
        (with_at anon (Some (head_with (at_block b) (anons anon))) anons) bs2
    whole_made n = record {
      areas_lead = thread_other Area (with_at area (Some (head_with (at_block b) (areas area))) areas) bs1 (last_of (anons anon)) (with_after Anon at)
          (keeps_after Area Anon at) (λ m. refl) (thread_grow Area areas bs b d t.areas_lead (stored_sides _));
      anons_lead =
          let cs = leads_on Area (last_of (areas area)) at bs in
          let d' : IsApart (cs ++ b ∷ []) = subst IsApart pushed (apart_changed (with_after Area at) (last_of (areas area)) (bs ++ b ∷ []) d) in
          subst (λ es. IsThreaded Anon (with_at anon (Some (head_with (at_block b) (anons anon))) anons) (leads_on Anon (last_of (anons anon)) at es))
          (sym pushed)
          (thread_grow Anon anons cs b d' (thread_other Anon anons bs (last_of (areas area)) (with_after Area at) (keeps_after Anon Area at)
          (λ m. refl) t.anons_lead) (stored_sides _));
      once = subst AreOnce (sym links_made) (once_push (links_of bs) area anon t.once n);
    }

-- ---- a link goes

sides_kept : (f : Node → Node) → KeepsSides Anon f → (y : Bool) (b : Block) → sides_of Anon (cond y (b.0, f b.1) b).1 ≡ sides_of Anon b.1
sides_kept f h true b = h b.1
sides_kept f h false b = refl

key_kept : (f : Node → Node) → Keeps Anon f → (y : Bool) (b : Block) → key_of Anon (cond y (b.0, f b.1) b).1 ≡ key_of Anon b.1
key_kept f h true b = h b.1
key_kept f h false b = refl

found_altered : (p q : Ptr) (f : Node → Node) (bs : List Block) (n : Node) → found p bs ≡ Some n → Keeps Anon f → KeepsSides Anon f
    → (m : Node) × (found p (node_changed q f bs) ≡ Some m) × (sides_of Anon m ≡ sides_of Anon n) × (key_of Anon m ≡ key_of Anon n)
found_altered p q f [] n e hk hs = cc
found_altered p q f (b ∷ bs) n e hk hs =
    let c : Block = cond (same_ptr q b.0) (b.0, f b.1) b in
    (elim (same_ptr p b.0) as (λ y. same_ptr p b.0 ≡ y → cond y (Some b.1) (found p bs) ≡ Some n
    → (m : Node) × (found p (c ∷ node_changed q f bs) ≡ Some m) × (sides_of Anon m ≡ sides_of Anon n) × (key_of Anon m ≡ key_of Anon n)) [
      | true ↦ λ at h.
          let is : b.1 ≡ n = cc in
          let hit : found p (c ∷ node_changed q f bs) ≡ Some c.1 = ap (λ y. cond y (Some c.1) (found p (node_changed q f bs)))
          (ap (same_ptr p) (place_cond (same_ptr q b.0) f b) ∙ at) in
          (c.1, hit, sides_kept f hs (same_ptr q b.0) b ∙ ap (sides_of Anon) is, key_kept f hk (same_ptr q b.0) b ∙ ap (key_of Anon) is)
      | false ↦ λ at h.
          let rest = found_altered p q f bs n h hk hs in (
            rest.0,
            ap (λ y. cond y (Some c.1) (found p (node_changed q f bs))) (ap (same_ptr p) (place_cond (same_ptr q b.0) f b) ∙ at)
                ∙ rest.1,
            rest.2,
            rest.3,
          )
    ]) refl e

found_changed : (p : Ptr) (o : Option Place) (f : Node → Node) (bs : List Block) (n : Node) → found p bs ≡ Some n → Keeps Anon f → KeepsSides Anon f
    → (m : Node) × (found p (place_changed o f bs) ≡ Some m) × (sides_of Anon m ≡ sides_of Anon n) × (key_of Anon m ≡ key_of Anon n)
found_changed p None f bs n e hk hs = (n, e, refl, refl)
found_changed p (Some q) f bs n e hk hs = found_altered p q.ptr f bs n e hk hs

head_there : (h : Option Head) (bs : List Block) (q : Ptr) → h ≡ head_of bs → has_place q bs ≡ true → IsSome h
head_there h [] q e f = cc
head_there h (c ∷ bs) q e f = subst IsSome (sym e) refl

module _ (areas anons : ℕ → Option Head) (bs : List Block) (p : Ptr) (n : Node) (d : IsApart bs) (t : AreThreaded areas anons bs)
    (e : found p bs ≡ Some n)
  where
    abbrev sa : Sides
    sa = sides_of Area n

    abbrev sv : Sides
    sv = sides_of Anon n

    abbrev cs0 : List Block
    cs0 = leads_on Area sa.before sa.after bs

    abbrev cs1 : List Block
    cs1 = leads_back Area sa.after sa.before cs0

    abbrev cs2 : List Block
    cs2 = leads_back Anon sv.after sv.before (leads_on Anon sv.before sv.after cs1)

    pub area_before : Reaches sa.before bs
    area_before = reaches_row Area n.area sa.before bs (before_reaches Area areas bs p n d t.areas_lead e)

    pub area_after : Reaches sa.after bs
    area_after = reaches_row Area n.area sa.after bs (after_reaches Area areas bs p n d t.areas_lead e)

    past_area : (o : Option Place) → Reaches o bs → Reaches o cs1
    past_area o h = reaches_changed (with_before Area sa.before) o sa.after cs0 (reaches_changed (with_after Area sa.after) o sa.before bs h)

    pub anon_before : Reaches sv.before cs1
    anon_before = past_area sv.before (reaches_row Anon n.anon sv.before bs (before_reaches Anon anons bs p n d t.anons_lead e))

    pub anon_after : Reaches sv.after cs1
    anon_after = past_area sv.after (reaches_row Anon n.anon sv.after bs (after_reaches Anon anons bs p n d t.anons_lead e))

    in_row : (w : Way) → has_place p (row w (key_of w n) bs) ≡ true
    in_row w =
        let cut = split_at w p (row w (key_of w n) bs) n (found_row w p bs n e) in
        subst (λ cs. has_place p cs ≡ true) (sym cut.2) (has_past p cut.0 (p, n) cut.1)

    pub area_there : IsSome (areas n.area)
    area_there = head_there (areas n.area) (row Area n.area bs) p (t.areas_lead.head n.area) (in_row Area)

    pub anon_there : IsSome (anons n.anon)
    anon_there = head_there (anons n.anon) (row Anon n.anon bs) p (t.anons_lead.head n.anon) (in_row Anon)

    pub still_there : has_place p bs ≡ true → has_place p cs2 ≡ true
    still_there h =
        has_changed (with_before Anon sv.before) p sv.after (leads_on Anon sv.before sv.after cs1)
        ∙ has_changed (with_after Anon sv.after) p sv.before cs1
        ∙ has_changed (with_before Area sa.before) p sa.after cs0 ∙ has_changed (with_after Area sa.after) p sa.before bs ∙ h

    -- the anon_vma's list may be changed before or after the node is taken out
    anon_past : (xs : List Block)
        → without_node p (leads_back Anon sv.after sv.before (leads_on Anon sv.before sv.after xs)) ≡ leads_back Anon sv.after
        sv.before
        (leads_on Anon sv.before sv.after (without_node p xs))
    anon_past xs = removed_changed (with_before Anon sv.before) p sv.after (leads_on Anon sv.before sv.after xs)
        ∙ ap (leads_back Anon sv.after sv.before)
        (removed_changed (with_after Anon sv.after) p sv.before xs)

    area_past : without_node p cs1 ≡ leads_back Area sa.after sa.before (leads_on Area sa.before sa.after (without_node p bs))
    area_past = removed_changed (with_before Area sa.before) p sa.after cs0 ∙ ap (leads_back Area sa.after sa.before)
        (removed_changed (with_after Area sa.after) p sa.before bs)

    pub links_gone : links_of (without_node p cs2) ≡ links_of (without_node p bs)
    links_gone =
        ap links_of (anon_past cs1) ∙ links_back Anon sv.after sv.before (leads_on Anon sv.before sv.after (without_node p cs1))
        ∙ links_on Anon sv.before sv.after (without_node p cs1)
        ∙ ap links_of area_past ∙ links_back Area sa.after sa.before (leads_on Area sa.before sa.after (without_node p bs))
        ∙ links_on Area sa.before sa.after (without_node p bs)

    areas_gone : IsThreaded Area (with_at n.area (head_without sa (areas n.area)) areas) (without_node p cs2)
    areas_gone =
        let heads = with_at n.area (head_without sa (areas n.area)) areas in
        let one = thread_other Area heads (without_node p cs1) sv.before (with_after Anon sv.after) (keeps_after Area Anon sv.after) (λ m. refl)
        (thread_shrink Area areas bs p n d t.areas_lead e) in
        let two = thread_other Area heads (leads_on Anon sv.before sv.after (without_node p cs1)) sv.after (with_before Anon sv.before)
        (keeps_before Area Anon sv.before) (λ m. refl) one in
        subst (IsThreaded Area heads) (sym (anon_past cs1)) two

    anons_gone : IsThreaded Anon (with_at n.anon (head_without sv (anons n.anon)) anons) (without_node p cs2)
    anons_gone =
        let one = thread_other Anon anons bs sa.before (with_after Area sa.after) (keeps_after Anon Area sa.after) (λ m. refl) t.anons_lead in
        let two = thread_other Anon anons cs0 sa.after (with_before Area sa.before) (keeps_before Anon Area sa.before) (λ m. refl) one in
        let f0 = found_changed p sa.before (with_after Area sa.after) bs n e (keeps_after Anon Area sa.after) (λ m. refl) in
        let f1 = found_changed p sa.after (with_before Area sa.before) cs0 f0.0 f0.1 (keeps_before Anon Area sa.before) (λ m. refl) in
        let same : sides_of Anon f1.0 ≡ sv = f1.2 ∙ f0.2 in
        let key : key_of Anon f1.0 ≡ n.anon = f1.3 ∙ f0.3 in
        let d1 = apart_changed (with_before Area sa.before) sa.after cs0 (apart_changed (with_after Area sa.after) sa.before bs d) in
        subst (λ (q : Sides × ℕ). IsThreaded Anon (with_at q.1 (head_without q.0 (anons q.1)) anons)
        (without_node p (leads_back Anon q.0.after q.0.before (leads_on Anon q.0.before q.0.after cs1))))
        (λ i. (same i, key i)) (thread_shrink Anon anons cs1 p f1.0 d1 two f1.1)

    pub whole_gone : AreThreaded (with_at n.area (head_without sa (areas n.area)) areas) (with_at n.anon (head_without sv (anons n.anon)) anons)
        (without_node p cs2)
    whole_gone = record { areas_lead = areas_gone; anons_lead = anons_gone; once = subst AreOnce (sym links_gone) (once_removed p bs t.once) }
