-- What is known of two areas that join; areas stay whole and on all of their pages through joins,
-- and through what ends with joins, however long chains are.
use Rattle.std.proofs.Common.{◌≡◌, ℕ, zero, suc, ◌+◌, ◌-◌, ◌<◌, ◌≤◌, ◌⊎◌, inl, inr, Bool, true, false, cond, ◌&&◌, ◌==◌, Option, Some, None, refl, sym, ap, subst, ◌∙◌, arith}
use Rattle.std.proofs.Math.Bool.{beq}
use Rattle.std.proofs.lemmas.Bool.{and_parts, and_from, eqb-true, cases_lt, cases_Bool, cond-true, cond-false, false≢true, both_ways, false_from_ne_true}
use Rattle.std.proofs.lemmas.Option.{none-some, same_Some}
use Rattle.std.specs.Option.{option_or}
use Rattle.av_base.specs.declared.flags.Flags.{Flags}
use Rattle.av_base.specs.declared.prot.Prot.{Prot}
use Rattle.av_vma.specs.declared.area.Area.{Area}
use Rattle.av_vma.specs.Gap.{IsRoom}
use Rattle.av_vma.specs.Index.{first_of, past_of, index_of}
use Rattle.av_vma.specs.Join.{same_flags, same_prot, share_anon}
use Rattle.av_vma.specs.Pages.{AreLaid, Effect, IsWhole, Lengths, Pages, after_join, after_map, alters_at, do_join, fresh_area, has_page, join_of, joined_around, joined_at, page_changed, pages_changed, part_changed, with_area}
use Rattle.av_vma.proofs.Split.{laid_part}
use Rattle.av_vma.proofs.Laid.{has_area, has_from, has_parts, laid_fresh}

-- ---- protections and flags that are one

same_bit : (a b : Bool) → beq a b ≡ true → a ≡ b
same_bit true true e = refl
same_bit true false e = absurd (false≢true e)
same_bit false true e = absurd (false≢true e)
same_bit false false e = refl

pub prot_is : (p q : Prot) → same_prot p q ≡ true → p ≡ q
prot_is p q e =
    let both = and_parts (beq p.read q.read && beq p.write q.write) (beq p.execute q.execute) e in
    let first = and_parts (beq p.read q.read) (beq p.write q.write) both.0 in
    let r = same_bit p.read q.read first.0 in
    let w = same_bit p.write q.write first.1 in
    let x = same_bit p.execute q.execute both.1 in
    λ i. record { read = r i; write = w i; execute = x i }

pub flags_are : (f g : Flags) → same_flags f g ≡ true → f ≡ g
flags_are f g e =
    let three = and_parts (beq f.dont_fork g.dont_fork && beq f.wipe_on_fork g.wipe_on_fork && beq f.locked g.locked) (beq f.mergeable g.mergeable) e in
    let two = and_parts (beq f.dont_fork g.dont_fork && beq f.wipe_on_fork g.wipe_on_fork) (beq f.locked g.locked) three.0 in
    let one = and_parts (beq f.dont_fork g.dont_fork) (beq f.wipe_on_fork g.wipe_on_fork) two.0 in
    let d = same_bit f.dont_fork g.dont_fork one.0 in
    let w = same_bit f.wipe_on_fork g.wipe_on_fork one.1 in
    let l = same_bit f.locked g.locked two.1 in
    let m = same_bit f.mergeable g.mergeable three.1 in
    λ i. record { dont_fork = d i; wipe_on_fork = w i; locked = l i; mergeable = m i }

-- each is the same as itself
bit_itself : (b : Bool) → beq b b ≡ true
bit_itself true = refl
bit_itself false = refl

pub same_as_itself : (p : Prot) → same_prot p p ≡ true
same_as_itself p = and_from (beq p.read p.read && beq p.write p.write) (beq p.execute p.execute)
    (and_from (beq p.read p.read) (beq p.write p.write) (bit_itself p.read) (bit_itself p.write)) (bit_itself p.execute)

pub flags_as_itself : (f : Flags) → same_flags f f ≡ true
flags_as_itself f = and_from (beq f.dont_fork f.dont_fork && beq f.wipe_on_fork f.wipe_on_fork && beq f.locked f.locked)
    (beq f.mergeable f.mergeable)
    (and_from (beq f.dont_fork f.dont_fork && beq f.wipe_on_fork f.wipe_on_fork) (beq f.locked f.locked)
    (and_from (beq f.dont_fork f.dont_fork) (beq f.wipe_on_fork f.wipe_on_fork) (bit_itself f.dont_fork) (bit_itself f.wipe_on_fork))
    (bit_itself f.locked)) (bit_itself f.mergeable)

module _ (len : Lengths) where
  -- ---- two areas that join

  pub record IsJoin (left right : Area) : Type 0 where
    pub adjoin : left.end ≡ right.start
    pub prot : left.prot ≡ right.prot
    pub flags : left.flags ≡ right.flags
    pub index : index_of left (past_of left) ≡ right.pgoff
    pub share : share_anon left.anon (len left.anon) right.anon (len right.anon) ≡ true

  pub join_is : (left right : Area) → do_join len left right ≡ true → IsJoin left right
  join_is left right e =
      let adjoin = left.end == right.start in
      let prot = same_prot left.prot right.prot in
      let flags = same_flags left.flags right.flags in
      let index = index_of left (past_of left) == right.pgoff in
      let p4 = and_parts (adjoin && prot && flags && index) (share_anon left.anon (len left.anon) right.anon (len right.anon)) e in
      let p3 = and_parts (adjoin && prot && flags) index p4.0 in
      let p2 = and_parts (adjoin && prot) flags p3.0 in
      let p1 = and_parts adjoin prot p2.0 in
      record {
        adjoin = eqb-true left.end right.start p1.0;
        prot = prot_is left.prot right.prot p1.1;
        flags = flags_are left.flags right.flags p2.1;
        index = eqb-true (index_of left (past_of left)) right.pgoff p3.1;
        share = p4.1;
      }

  -- the two as one have the anon_vma of the second, if that has one
  pub join_own : (left right : Area) (own : ℕ) → do_join len left right ≡ true → right.anon ≡ Some own → (join_of left right).anon ≡ Some own
  join_own left right own e is =
      by left.anon (subst (λ o. share_anon left.anon (len left.anon) o (len right.anon) ≡ true) is (join_is left right e).share)
    where
      by : (o : Option ℕ) → share_anon o (len o) (Some own) (len right.anon) ≡ true → option_or o right.anon ≡ Some own
      by None share = is
      by (Some first) share = ap Some (eqb-true first own share)

  -- a page of the second has the linear index that it had
  pub join_index : (left right : Area) → IsWhole left → IsWhole right → do_join len left right ≡ true → (page : ℕ) → has_page right page ≡ true
      → index_of (join_of left right) page ≡ index_of right page
  join_index left right l r e page has =
      let j = join_is left right e in
      let low : first_of right ≤ page = (has_parts right page has).0 in
      omega arith

  pub joined_whole : (left right : Area) → IsWhole left → IsWhole right → do_join len left right ≡ true → IsWhole (join_of left right)
  joined_whole left right l r e =
      let j = join_is left right e in
      record { start = l.start; end = r.end; some = omega arith; low = l.low; high = r.high; small = omega arith }

  -- a page of the two as one is a page of one of them
  pub joined_pages : (left right : Area) → IsWhole left → IsWhole right → do_join len left right ≡ true → (page : ℕ)
      → has_page (join_of left right) page ≡ true → (has_page left page ≡ true) ⊎ (has_page right page ≡ true)
  joined_pages left right l r e page h =
      let j = join_is left right e in
      let parts = has_parts (join_of left right) page h in
      let low : first_of left ≤ page = parts.0 in
      let high : page < past_of right = parts.1 in
      elim (cases_lt page (past_of left)) [
        | inl below ↦ inl (has_from left page low below)
        | inr above ↦ inr (has_from right page (omega arith) high)
      ]

  pub left_pages : (left right : Area) → IsWhole left → IsWhole right → do_join len left right ≡ true → (page : ℕ) → has_page left page ≡ true
      → has_page (join_of left right) page ≡ true
  left_pages left right l r e page h =
      let j = join_is left right e in
      let parts = has_parts left page h in
      let low : first_of left ≤ page = parts.0 in
      let high : page < past_of left = parts.1 in
      has_from (join_of left right) page low (omega arith)

  pub right_pages : (left right : Area) → IsWhole left → IsWhole right → do_join len left right ≡ true → (page : ℕ) → has_page right page ≡ true
      → has_page (join_of left right) page ≡ true
  right_pages left right l r e page h =
      let j = join_is left right e in
      let parts = has_parts right page h in
      let low : first_of right ≤ page = parts.0 in
      let high : page < past_of right = parts.1 in
      has_from (join_of left right) page (omega arith) high

  -- ---- a boundary that is tried

  -- what a boundary that is tried leaves on a page: the two areas as one
  pub record IsTried (at page : ℕ) (on : Pages) : Type 0 where
    pub left : Area
    pub right : Area
    pub before : on (at - 1) ≡ Some left
    pub after : on at ≡ Some right
    pub joins : do_join len left right ≡ true
    pub here : has_page (join_of left right) page ≡ true
    pub is : joined_at len at on page ≡ Some (join_of left right)

  -- or what was there
  pub record IsLeft (at page : ℕ) (on : Pages) : Type 0 where
    pub is : joined_at len at on page ≡ on page
    pub apart : (left right : Area) → on (at - 1) ≡ Some left → on at ≡ Some right → do_join len left right ≡ true
        → has_page (join_of left right) page ≡ false

  pub tried_is : (at page : ℕ) (on : Pages) → IsTried at page on ⊎ IsLeft at page on
  tried_is at page on = go (on (at - 1)) (on at) refl refl
    where
      go : (a b : Option Area) → on (at - 1) ≡ a → on at ≡ b → IsTried at page on ⊎ IsLeft at page on
      go None b e f = inr (record
          { is = λ i. after_join len (e i) (f i) page (on page); apart = λ left right g h j. absurd (none-some left (sym e ∙ g)) })
      go (Some left) None e f = inr (record {
        is = λ i. after_join len (e i) (f i) page (on page);
        apart = λ left' right' g h j. absurd (none-some right' (sym f ∙ h));
      })
      go (Some left) (Some right) e f =
          let meets = do_join len left right && has_page (join_of left right) page in
          let now : joined_at len at on page ≡ after_join len (Some left) (Some right) page (on page) =
          λ i. after_join len (e i) (f i) page (on page) in
          elim (cases_Bool meets) [
            | inl met ↦
                let both = and_parts (do_join len left right) (has_page (join_of left right) page) met in
                inl (record {
                  left = left;
                  right = right;
                  before = e;
                  after = f;
                  joins = both.0;
                  here = both.1;
                  is = now ∙ cond-true meets (Some (join_of left right)) (on page) met;
                })
            | inr unmet ↦ inr (record {
              is = now ∙ cond-false meets (Some (join_of left right)) (on page) unmet;
              apart = λ left' right' g h j.
                  let l : left' ≡ left = same_Some left' left (sym g ∙ e) in
                  let r : right' ≡ right = same_Some right' right (sym h ∙ f) in
                  let joins : do_join len left right ≡ true = sym (λ i. do_join len (l i) (r i)) ∙ j in
                  false_from_ne_true (has_page (join_of left' right') page)
                  (λ there. both_ways meets unmet
                  (and_from (do_join len left right) (has_page (join_of left right) page) joins
                  (sym (λ i. has_page (join_of (l i) (r i)) page) ∙ there)));
            })
          ]

  pub laid_joined : (at : ℕ) (on : Pages) → AreLaid on → AreLaid (joined_at len at on)
  laid_joined at on laid = record {
    whole = λ page area e. elim (tried_is at page on) [
      | inr k ↦ laid.whole page area (sym k.is ∙ e)
      | inl t ↦ subst IsWhole (same_Some (join_of t.left t.right) area (sym t.is ∙ e))
          (joined_whole t.left t.right (laid.whole (at - 1) t.left t.before) (laid.whole at t.right t.after) t.joins)
    ];
    here = λ page area e. elim (tried_is at page on) [
      | inr k ↦ laid.here page area (sym k.is ∙ e)
      | inl t ↦ subst (λ (a : Area). has_page a page ≡ true) (same_Some (join_of t.left t.right) area (sym t.is ∙ e)) t.here
    ];
    all = λ page other area e h. elim (tried_is at page on) [
      | inl t ↦
          let same : join_of t.left t.right ≡ area = same_Some (join_of t.left t.right) area (sym t.is ∙ e) in
          let there : has_page (join_of t.left t.right) other ≡ true = subst (λ (a : Area). has_page a other ≡ true) (sym same) h in
          elim (tried_is at other on) [
            | inr k ↦ absurd (both_ways (has_page (join_of t.left t.right) other) (k.apart t.left t.right t.before t.after t.joins) there)
            | inl u ↦
                let l : u.left ≡ t.left = same_Some u.left t.left (sym u.before ∙ t.before) in
                let r : u.right ≡ t.right = same_Some u.right t.right (sym u.after ∙ t.after) in
                u.is ∙ (λ i. Some (join_of (l i) (r i))) ∙ ap Some same
          ]
      | inr k ↦
          let now : on page ≡ Some area = sym k.is ∙ e in
          let there : on other ≡ Some area = laid.all page other area now h in
          elim (tried_is at other on) [
            | inr m ↦ m.is ∙ there
            | inl u ↦
                let l = laid.whole (at - 1) u.left u.before in
                let r = laid.whole at u.right u.after in
                absurd (both_ways (has_page (join_of u.left u.right) page) (k.apart u.left u.right u.before u.after u.joins)
                (elim (joined_pages u.left u.right l r u.joins other u.here) [
                  | inl g ↦ left_pages u.left u.right l r u.joins page
                      (subst (λ (a : Area). has_page a page ≡ true) (same_Some area u.left (sym there ∙ laid.all (at - 1) other u.left u.before g))
                      (laid.here page area now))
                  | inr g ↦ right_pages u.left u.right l r u.joins page
                      (subst (λ (a : Area). has_page a page ≡ true) (same_Some area u.right (sym there ∙ laid.all at other u.right u.after g))
                      (laid.here page area now))
                ]))
          ]
    ];
  }

  pub laid_around : (from past : ℕ) (on : Pages) → AreLaid on → AreLaid (joined_around len from past on)
  laid_around from past on laid = laid_joined past (joined_at len from on) (laid_joined from on laid)

  -- ---- what ends with joins

  pub laid_mapped : (p from past : ℕ) (prot : Prot) (flags : Flags) (on : Pages) → AreLaid on → from < past → IsRoom (has_area on) (past - from) from
      → AreLaid (after_map len p from past prot flags on)
  laid_mapped p from past prot flags on laid some room =
      laid_around from past (with_area (fresh_area p from past prot flags) on) (laid_fresh p from past prot flags on some room laid)

  pub laid_part_changed : (from past : ℕ) (effect : Effect) (on : Pages) → AreLaid on → AreLaid (part_changed len from past effect on)
  laid_part_changed from past effect on laid = laid_around from past _ (laid_part from past on laid effect)

  pub laid_page_changed : (effect : Effect) (page : ℕ) (on : Pages) → AreLaid on → AreLaid (page_changed len effect page on)
  laid_page_changed effect page on laid = by (alters_at effect (on page))
    where
      by : (b : Bool) → AreLaid (cond b (part_changed len page (page + 1) effect on) on)
      by true = laid_part_changed page (page + 1) effect on laid
      by false = laid

  pub laid_pages_changed : (effect : Effect) (from n : ℕ) (on : Pages) → AreLaid on → AreLaid (pages_changed len effect from n on)
  laid_pages_changed effect from zero on laid = laid
  laid_pages_changed effect from (suc n) on laid =
      laid_pages_changed effect (from + 1) n (page_changed len effect from on) (laid_page_changed effect from on laid)
