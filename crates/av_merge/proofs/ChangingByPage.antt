-- A part of an area that is affected at once is affected as if its pages were, one by one.
use Rattle.std.proofs.Common.{◌≡◌, ℕ, zero, suc, ◌+◌, ◌-◌, ◌*◌, ◌/◌, ◌<◌, ◌≤◌, min, max, Bool, true, false, not, cond, ◌&&◌, ◌==◌, ◌⊎◌, Option, Some, None, option_map, refl, sym, ap, ◌∙◌, inl, inr, arith}
use Rattle.std.proofs.lemmas.Bool.{and_from, and_parts, lt-ltb, le-ltb, eq-eqb, cases_lt, cond-true, cond-false, both_ways, false_from_ne_true}
use Rattle.std.proofs.lemmas.Bool.Decides.{nat_tests}
use Rattle.std.specs.Option.{option_or}
use Rattle.av_vma.specs.declared.area.Area.{Area}
use Rattle.av_vma.specs.Index.{first_of, past_of, index_of}
use Rattle.av_vma.specs.Join.{same_flags, same_prot, share_anon}
use Rattle.av_base.specs.Words.{within}
use Rattle.av_vma.specs.Pages.{AreLaid, Pages, Effect, with_effect, alters, alters_at, has_page, part_of, split_at, with_effect_on, join_of, do_join, after_join, joined_at, part_changed, page_changed, pages_changed, IsWhole, Lengths}
use Rattle.av_vma.proofs.Split.{laid_split}
use Rattle.av_vma.proofs.Join.{flags_as_itself, join_is, same_as_itself}
use Rattle.av_vma.proofs.Laid.{has_from, has_parts}
use Rattle.av_merge.proofs.PlacingLaws.{within_from}

-- ---- parts of parts

-- an area split at one page, and then at a later one, is split at the later one, on the pages past both
late_part : (a b q : ℕ) (area : Area) → IsWhole area → a ≤ b → b ≤ q → part_of b q (part_of a q area) ≡ part_of b q area
late_part a b q area whole le high =
    let start = whole.start in
    let same : max (max area.start (4096 * a)) (4096 * b) ≡ max area.start (4096 * b) = omega arith in
    let offset : (area.pgoff + (a - first_of area)) + (b - max area.start (4096 * a) / 4096) ≡ area.pgoff + (b - first_of area) = omega arith in
    rw (le-ltb q a (omega arith), le-ltb q b high) (λ i. record area { start = same i; pgoff = offset i })

-- and on the pages before both, at the earlier one
early_part : (a b q : ℕ) (area : Area) → a ≤ b → q < a → part_of b q (part_of a q area) ≡ part_of a q area
early_part a b q area le low =
    let same : min (min area.end (4096 * a)) (4096 * b) ≡ min area.end (4096 * a) = omega arith in
    rw (lt-ltb q a low, lt-ltb q b (omega arith)) (λ i. record area { end = same i })

-- ---- tests that one thing passes with itself

shares : (len : Lengths) (o : Option ℕ) → share_anon o (len o) o (len o) ≡ true
shares len None = refl
shares len (Some n) = eq-eqb n n refl

-- what two areas that share an anon_vma have together shares with the second, and is the same with it once more
still_shares : (len : Lengths) (a b : Option ℕ) → share_anon a (len a) b (len b) ≡ true
    → share_anon (option_or a b) (len (option_or a b)) b (len b) ≡ true
still_shares len None b h = shares len b
still_shares len (Some a) b h = h

-- of one of two own anon_vmas that are the same
either_same : (a b : Option ℕ) → a ≡ b → option_or a b ≡ a
either_same None b e = sym e
either_same (Some n) b e = refl

once_more : (a b : Option ℕ) → option_or (option_or a b) b ≡ option_or a b
once_more None b = either_same b b refl
once_more (Some a) b = refl

-- ---- a page more

pages_and_one : (len : Lengths) (effect : Effect) (a n : ℕ) (on : Pages) → pages_changed len effect a (suc n) on ≡ page_changed len effect (a + n)
    (pages_changed len effect a n on)
pages_and_one len effect a zero on = (let same : a ≡ a + 0 = omega arith in ap (λ c. page_changed len effect c on) same)
pages_and_one len effect a (suc n) on =
    let same : (a + 1) + n ≡ a + suc n = omega arith in
    pages_and_one len effect (a + 1) n (page_changed len effect a on)
    ∙ ap (λ c. page_changed len effect c (pages_changed len effect (a + 1) n (page_changed len effect a on))) same

module _ (len : Lengths) (effect : Effect) (on : Pages) (laid : AreLaid on) (a : ℕ) (area : Area) (here : on a ≡ Some area)
    (does : alters effect area ≡ true) where
  whole : IsWhole area
  whole = laid.whole a area here

  low : first_of area ≤ a
  low = (has_parts area a (laid.here a area here)).0

  -- what is left of the area past page b, and what is on all pages after the splits at a and b
  abbrev upper : ℕ → Area
  upper b = record area { start = 4096 * b; pgoff = index_of area b }

  abbrev rest : ℕ → Pages
  rest b = split_at b (split_at a on)

  abbrev ended : ℕ → Area → Area
  ended b x = record x { end = 4096 * b }

  -- the area from page a on, affected
  abbrev part : Area
  part = with_effect effect (upper a)

  -- the affected part up to some page, or it and what it was joined with
  record IsGrown (x : Area) : Type 0 where
    pub start : x.start ≡ 4096 * first_of x
    pub low : first_of x ≤ a
    pub prot : x.prot ≡ effect.prot area.prot
    pub flags : x.flags ≡ effect.flags area.flags
    pub index : x.pgoff + (a - first_of x) ≡ index_of area a
    pub shares : share_anon x.anon (len x.anon) area.anon (len area.anon) ≡ true
    pub own : option_or x.anon area.anon ≡ x.anon

  abbrev grown : Area → ℕ → Pages
  grown x b q = cond (has_page (ended b x) q) (Some (ended b x)) (rest b q)

  -- ---- single pages

  inside : (q : ℕ) → a ≤ q → q < past_of area → on q ≡ Some area
  inside q from less = (let first = low in laid.all a q area here (has_from area q (omega arith) less))

  upper_part : (b q : ℕ) → a ≤ b → b ≤ q → part_of b q area ≡ upper b
  upper_part b q ab high =
      let start = whole.start in
      let first = low in
      let same : max area.start (4096 * b) ≡ 4096 * b = omega arith in
      let offset : area.pgoff + (b - first_of area) ≡ index_of area b = omega arith in
      rw (le-ltb q b high) (λ i. record area { start = same i; pgoff = offset i })

  upper_rest : (b q : ℕ) → a ≤ b → b ≤ q → q < past_of area → rest b q ≡ Some (upper b)
  upper_rest b q ab high less =
      ap (λ o. option_map (part_of b q) (option_map (part_of a q) o)) (inside q (omega arith) less)
      ∙ ap Some (late_part a b q area whole ab high ∙ upper_part b q ab high)

  has_ended : (b : ℕ) (x : Area) (q : ℕ) → first_of x ≤ q → q < b → has_page (ended b x) q ≡ true
  has_ended b x q first less = has_from (ended b x) q first (omega arith)

  ended_has : (b : ℕ) (x : Area) (q : ℕ) → has_page (ended b x) q ≡ true → (first_of x ≤ q) × (q < b)
  ended_has b x q h =
      let k = has_parts (ended b x) q h in
      let less : q < past_of (ended b x) = k.1 in
      (k.0, omega arith)

  grown_in : (x : Area) (b q : ℕ) → first_of x ≤ q → q < b → grown x b q ≡ Some (ended b x)
  grown_in x b q first less = cond-true (has_page (ended b x) q) (Some (ended b x)) (rest b q) (has_ended b x q first less)

  grown_out : (x : Area) (b q : ℕ) → has_page (ended b x) q ≡ false → grown x b q ≡ rest b q
  grown_out x b q out = cond-false (has_page (ended b x) q) (Some (ended b x)) (rest b q) out

  grown_past : (x : Area) (b : ℕ) → a ≤ b → b < past_of area → grown x b b ≡ Some (upper b)
  grown_past x b ab less =
      grown_out x b b (false_from_ne_true (has_page (ended b x) b) (λ h. let k = (ended_has b x b h).1 in omega arith))
      ∙ upper_rest b b ab (omega arith) less

  -- ---- at the part's end, nothing joins before the rest is affected

  apart : (x : Area) → IsGrown x → (b : ℕ) → do_join len (ended b x) (upper b) ≡ false
  apart x g b = false_from_ne_true (do_join len (ended b x) (upper b)) (λ e.
      let j = join_is len (ended b x) (upper b) e in
      both_ways (alters effect area)
      (ap not (and_from (same_prot (effect.prot area.prot) area.prot) (same_flags (effect.flags area.flags) area.flags)
      (ap (λ p. same_prot p area.prot) (sym g.prot ∙ j.prot) ∙ same_as_itself area.prot)
      (ap (λ f. same_flags f area.flags) (sym g.flags ∙ j.flags) ∙ flags_as_itself area.flags)))
      does)

  kept : (x : Area) → IsGrown x → (b : ℕ) → a < b → b < past_of area → (q : ℕ) → joined_at len b (grown x b) q ≡ grown x b q
  kept x g b ab less q =
      let first = g.low in
      let last : grown x b (b - 1) ≡ Some (ended b x) = grown_in x b (b - 1) (omega arith) (omega arith) in
      let next : grown x b b ≡ Some (upper b) = grown_past x b (omega arith) less in
      (λ i. after_join len (last i) (next i) q (grown x b q))
      ∙ ap (λ t. cond (t && has_page (join_of (ended b x) (upper b)) q) (Some (join_of (ended b x) (upper b))) (grown x b q)) (apart x g b)

  -- ---- one page more is affected, and joins what is before it

  ended_part : (b c q : ℕ) (x : Area) → b ≤ c → q < c → part_of c q (ended b x) ≡ ended b x
  ended_part b c q x le less =
      let same : min (4096 * b) (4096 * c) ≡ 4096 * b = omega arith in
      rw (lt-ltb q c less) (λ i. record x { end = same i })

  abbrev more : ℕ → Area
  more b = with_effect effect (ended (b + 1) (upper b))

  more_part : (b : ℕ) → a ≤ b → b < past_of area → part_of (b + 1) b (part_of b b (upper b)) ≡ ended (b + 1) (upper b)
  more_part b ab less =
      let end = whole.end in
      let same : max (4096 * b) (4096 * b) ≡ 4096 * b = omega arith in
      let offset : index_of area b + (b - 4096 * b / 4096) ≡ index_of area b = omega arith in
      let last : min area.end (4096 * (b + 1)) ≡ 4096 * (b + 1) = omega arith in
      rw (le-ltb b b (omega arith), lt-ltb b (b + 1) (omega arith)) (λ i. record area { start = same i; pgoff = offset i; end = last i })

  module _ (x : Area) (g : IsGrown x) (b : ℕ) (ab : a < b) (less : b < past_of area) where
    abbrev wider : Pages
    wider = with_effect_on b (b + 1) effect (split_at (b + 1) (split_at b (grown x b)))

    wider_last : wider (b - 1) ≡ Some (ended b x)
    wider_last =
        let first = g.low in
        let out : within b ((b + 1) - b) (b - 1) ≡ false = grind (arith, nat_tests) in
        cond-false (within b ((b + 1) - b) (b - 1)) (option_map (with_effect effect) (split_at (b + 1) (split_at b (grown x b)) (b - 1)))
        (split_at (b + 1) (split_at b (grown x b)) (b - 1)) out
        ∙ ap (λ o. option_map (part_of (b + 1) (b - 1)) (option_map (part_of b (b - 1)) o)) (grown_in x b (b - 1) (omega arith) (omega arith))
        ∙ ap Some (ap (part_of (b + 1) (b - 1)) (ended_part b b (b - 1) x (omega arith) (omega arith)) ∙ ended_part b (b + 1)
        (b - 1) x (omega arith) (omega arith))

    wider_next : wider b ≡ Some (more b)
    wider_next =
        let there : within b ((b + 1) - b) b ≡ true = grind (arith, nat_tests) in
        cond-true (within b ((b + 1) - b) b) (option_map (with_effect effect) (split_at (b + 1) (split_at b (grown x b)) b))
        (split_at (b + 1) (split_at b (grown x b)) b) there
        ∙ ap (λ o. option_map (with_effect effect) (option_map (part_of (b + 1) b) (option_map (part_of b b) o))) (grown_past x b (omega arith) less)
        ∙ ap (λ z. Some (with_effect effect z)) (more_part b (omega arith) less)

    joins : do_join len (ended b x) (more b) ≡ true
    joins =
        let first = g.low in
        let first' = low in
        let index = g.index in
        let same : index_of (ended b x) (past_of (ended b x)) ≡ index_of area b = omega arith in
        let e1 : ((ended b x).end == (more b).start) ≡ true = eq-eqb (4096 * b) (4096 * b) refl in
        let e2 : same_prot x.prot (effect.prot area.prot) ≡ true = ap (λ p. same_prot p (effect.prot area.prot)) g.prot
        ∙ same_as_itself (effect.prot area.prot) in
        let e3 : same_flags x.flags (effect.flags area.flags) ≡ true = ap (λ f. same_flags f (effect.flags area.flags)) g.flags
        ∙ flags_as_itself (effect.flags area.flags) in
        let e4 : (index_of (ended b x) (past_of (ended b x)) == index_of area b) ≡ true =
        eq-eqb (index_of (ended b x) (past_of (ended b x))) (index_of area b) same in
        let e5 : share_anon x.anon (len x.anon) area.anon (len area.anon) ≡ true = g.shares in
        λ i. e1 i && e2 i && e3 i && e4 i && e5 i

    joined_more : join_of (ended b x) (more b) ≡ ended (b + 1) x
    joined_more = λ i. record (ended (b + 1) x) { anon = g.own i }

    -- past the part's new end and before its start, all is as after the splits at a and b + 1
    wider_out : (q : ℕ) → has_page (ended (b + 1) x) q ≡ false → wider q ≡ rest (b + 1) q
    wider_out q out =
        let beyond : first_of x ≤ q → q < b + 1 → ⊥ = λ first last. both_ways (has_page (ended (b + 1) x) q) out (has_ended (b + 1) x q first last) in
        let first = g.low in
        let not_here : within b ((b + 1) - b) q ≡ false =
        false_from_ne_true (within b ((b + 1) - b) q) (λ h. let k : b ≤ q = grind (arith, nat_tests) in
        let m : q < b + 1 = grind (arith, nat_tests) in beyond (omega arith) m) in
        let not_grown : has_page (ended b x) q ≡ false = false_from_ne_true (has_page (ended b x) q) (λ h. let k = ended_has b x q h in
        let n = k.1 in beyond k.0 (omega arith)) in
        cond-false (within b ((b + 1) - b) q) (option_map (with_effect effect) (split_at (b + 1) (split_at b (grown x b)) q))
        (split_at (b + 1) (split_at b (grown x b)) q) not_here
        ∙ ap (λ o. option_map (part_of (b + 1) q) (option_map (part_of b q) o)) (grown_out x b q not_grown)
        ∙ parts (on q) refl (elim (cases_lt q (first_of x)) [
          | inl early ↦ inl (omega arith)
          | inr late ↦ inr (elim (cases_lt q (b + 1)) [ inl k ↦ absurd (beyond late k) | inr k ↦ k ])
        ])
      where
        parts : (o : Option Area) → on q ≡ o → (q < a) ⊎ (b + 1 ≤ q) →
            option_map (part_of (b + 1) q) (option_map (part_of b q) (option_map (part_of b q) (option_map (part_of a q) o))) ≡ option_map
            (part_of (b + 1) q) (option_map (part_of a q) o)
        parts None e side = refl
        parts (Some z) e (inl early) =
            let once = early_part a b q z (omega arith) early in
            ap (λ y. Some (part_of (b + 1) q y)) (ap (part_of b q) once ∙ once)
        parts (Some z) e (inr late) =
            let w = laid.whole q z e in
            let once = late_part a b q z w (omega arith) (omega arith) in
            let twice = late_part b b q z w (omega arith) (omega arith) in
            ap Some (ap (λ y. part_of (b + 1) q (part_of b q y)) once ∙ ap (part_of (b + 1) q) twice ∙ late_part b (b + 1) q z w (omega arith) late
            ∙ sym (late_part a (b + 1) q z w (omega arith) late))

    grows : (q : ℕ) → joined_at len b wider q ≡ grown x (b + 1) q
    grows q =
        (λ i. after_join len (wider_last i) (wider_next i) q (wider q))
        ∙ (λ i. cond (joins i && has_page (joined_more i) q) (Some (joined_more i)) (wider q))
        ∙ elim (has_page (ended (b + 1) x) q) as (λ h. has_page (ended (b + 1) x) q ≡ h →
        cond h (Some (ended (b + 1) x)) (wider q) ≡ cond h (Some (ended (b + 1) x)) (rest (b + 1) q)) [
          | true ↦ λ h. refl
          | false ↦ λ h. wider_out q h
        ] refl

  -- ---- the part joins what is before it, whatever page it ends at

  abbrev first_pages : ℕ → Pages
  first_pages b = with_effect_on a b effect (rest b)

  part_here : (b q : ℕ) → b ≤ past_of area → a ≤ q → q < b → first_pages b q ≡ Some (ended b part)
  part_here b q high from less =
      let there : within a (b - a) q ≡ true = within_from a (b - a) q from (omega arith) in
      let end = whole.end in
      let last : min area.end (4096 * b) ≡ 4096 * b = omega arith in
      let cut : part_of b q (upper a) ≡ ended b (upper a) = rw (lt-ltb q b less)
      (λ i. record area { start = 4096 * a; pgoff = index_of area a; end = last i }) in
      cond-true (within a (b - a) q) (option_map (with_effect effect) (rest b q)) (rest b q) there
      ∙ ap (λ o. option_map (with_effect effect) (option_map (part_of b q) (option_map (part_of a q) o))) (inside q from (omega arith))
      ∙ ap (λ z. Some (with_effect effect z)) (ap (part_of b q) (upper_part a q (omega arith) from) ∙ cut)

  others_here : (b q : ℕ) → (a ≤ q → q < b → ⊥) → first_pages b q ≡ rest b q
  others_here b q out =
      cond-false (within a (b - a) q) (option_map (with_effect effect) (rest b q)) (rest b q)
      (false_from_ne_true (within a (b - a) q) (λ h. let k : a ≤ q = grind (arith, nat_tests) in let m : q < b = grind (arith, nat_tests) in out k m))

  -- what is before page a stays, whatever page the part ends at
  before_is : (b : ℕ) → a < b → 0 < a → first_pages b (a - 1) ≡ split_at a on (a - 1)
  before_is b ab some = others_here b (a - 1) (λ k m. omega arith) ∙ each (on (a - 1))
    where
      each : (o : Option Area) → option_map (part_of b (a - 1)) (option_map (part_of a (a - 1)) o) ≡ option_map (part_of a (a - 1)) o
      each None = refl
      each (Some z) = ap Some (early_part a b (a - 1) z (omega arith) (omega arith))

  -- what the part is with what it joins
  record Begins : Type 0 where
    pub x : Area
    pub is : IsGrown x
    pub pages : (b : ℕ) → a < b → b ≤ past_of area → (q : ℕ) → joined_at len a (first_pages b) q ≡ grown x b q

  part_grown : IsGrown part
  part_grown = record {
    start = omega arith;
    low = omega arith;
    prot = refl;
    flags = refl;
    index = omega arith;
    shares = shares len area.anon;
    own = either_same area.anon area.anon refl;
  }

  -- the pages of the part alone
  alone : (b : ℕ) → a < b → b ≤ past_of area → (q : ℕ) → first_pages b q ≡ grown part b q
  alone b ab high q = elim (has_page (ended b part) q) as
      (λ h. has_page (ended b part) q ≡ h → first_pages b q ≡ cond h (Some (ended b part)) (rest b q)) [
        | true ↦ λ h.
            let k = ended_has b part q h in
            let from : 4096 * a / 4096 ≤ q = k.0 in
            part_here b q high (omega arith) k.1
        | false ↦ λ h. others_here b q (λ from less. both_ways (has_page (ended b part) q) h (has_ended b part q (omega arith) less))
      ] refl

  do_share : (l r : Area) → do_join len l r ≡ true → share_anon l.anon (len l.anon) r.anon (len r.anon) ≡ true
  do_share l r e = (and_parts (l.end == r.start && same_prot l.prot r.prot && same_flags l.flags r.flags && (index_of l (past_of l) == r.pgoff))
      (share_anon l.anon (len l.anon) r.anon (len r.anon)) e).1

  begins : Begins
  begins = each (split_at a on (a - 1)) refl
    where
      some : 0 < a
      some = (let first = low in let least = whole.low in omega arith)

      itself : (b : ℕ) → a < b → b ≤ past_of area → first_pages b a ≡ Some (ended b part)
      itself b ab high = part_here b a high (omega arith) ab

      with_left : (l : Area) → split_at a on (a - 1) ≡ Some l → (t : Bool) → do_join len l part ≡ t → Begins
      with_left l e true j = record {
        x = join_of l part;
        is =
            let k = join_is len l part j in
            let cut = laid_split a on laid in
            let w = cut.whole (a - 1) l e in
            let first = (has_parts l (a - 1) (cut.here (a - 1) l e)).0 in
            let adjoin : l.end ≡ 4096 * a = k.adjoin in
            let index : index_of l (past_of l) ≡ index_of area a = k.index in
            record {
              start = w.start;
              low = omega arith;
              prot = k.prot;
              flags = k.flags;
              index = omega arith;
              shares = still_shares len l.anon area.anon
                  (do_share l part j);
              own = once_more l.anon area.anon;
            };
        pages = λ b ab high q.
            let cut = laid_split a on laid in
            let first = (has_parts l (a - 1) (cut.here (a - 1) l e)).0 in
            (λ i. after_join len ((before_is b ab some ∙ e) i) (itself b ab high i) q (first_pages b q))
            ∙ ap (λ t. cond (t && has_page (ended b (join_of l part)) q) (Some (ended b (join_of l part))) (first_pages b q)) j
            ∙ elim (has_page (ended b (join_of l part)) q) as (λ h. has_page (ended b (join_of l part)) q ≡ h →
            cond h (Some (ended b (join_of l part))) (first_pages b q) ≡ cond h (Some (ended b (join_of l part))) (rest b q)) [
              | true ↦ λ h. refl
              | false ↦ λ h. others_here b q (λ from less. both_ways (has_page (ended b (join_of l part)) q) h
                  (has_ended b (join_of l part) q (omega arith) less))
            ] refl;
      }
      with_left l e false j = record {
        x = part;
        is = part_grown;
        pages = λ b ab high q.
            (λ i. after_join len ((before_is b ab some ∙ e) i) (itself b ab high i) q (first_pages b q))
            ∙ ap (λ t. cond (t && has_page (join_of l (ended b part)) q) (Some (join_of l (ended b part))) (first_pages b q)) j
            ∙ alone b ab high q;
      }

      each : (o : Option Area) → split_at a on (a - 1) ≡ o → Begins
      each None e = record {
        x = part;
        is = part_grown;
        pages = λ b ab high q. (λ i. after_join len ((before_is b ab some ∙ e) i) (first_pages b a) q (first_pages b q)) ∙ alone b ab high q;
      }
      each (Some l) e = with_left l e (do_join len l part) refl

  -- ---- the whole part, and its pages one by one

  whole_part : (b : ℕ) → a < b → b ≤ past_of area → part_changed len a b effect on ≡ joined_at len b (grown begins.x b)
  whole_part b ab high = λ i. joined_at len b (λ q. begins.pages b ab high q i)

  next_page : (b : ℕ) → a < b → b < past_of area → page_changed len effect b (part_changed len a b effect on) ≡ part_changed len a (b + 1) effect on
  next_page b ab less =
      ap (page_changed len effect b) (whole_part b ab (omega arith) ∙ (λ i q. kept begins.x begins.is b ab less q i))
      ∙ cond-true (alters_at effect (grown begins.x b b)) (part_changed len b (b + 1) effect (grown begins.x b)) (grown begins.x b)
      (ap (alters_at effect) (grown_past begins.x b (omega arith) less) ∙ does)
      ∙ (λ i. joined_at len (b + 1) (λ q. grows begins.x begins.is b ab less q i))
      ∙ sym (whole_part (b + 1) (omega arith) (omega arith))

  pub page_by_page : (n : ℕ) → a + suc n ≤ past_of area → pages_changed len effect a (suc n) on ≡ part_changed len a (a + suc n) effect on
  page_by_page zero high = cond-true (alters_at effect (on a)) (part_changed len a (a + 1) effect on) on (ap (alters_at effect) here ∙ does)
  page_by_page (suc n) high =
      let same : (a + suc n) + 1 ≡ a + suc (suc n) = omega arith in
      pages_and_one len effect a (suc n) on
      ∙ ap (page_changed len effect (a + suc n)) (page_by_page n (omega arith))
      ∙ next_page (a + suc n) (omega arith) (omega arith)
      ∙ ap (λ c. part_changed len a c effect on) same
