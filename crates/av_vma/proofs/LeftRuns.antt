-- The old range that stays where its pages moved away: mapped page by page it is as if each run of pages that are alike were mapped at once.
use Rattle.std.proofs.Common.{◌≡◌, ℕ, zero, suc, ◌+◌, ◌-◌, ◌*◌, ◌/◌, ◌<◌, ◌≤◌, Bool, true, false, cond, ◌&&◌, ◌==◌, Option, Some, None, option_map, refl, sym, ap, ◌∙◌, arith}
use Rattle.std.proofs.lemmas.Bool.{both_ways, cond-true, cond-false, eq-eqb, false_from_ne_true}
use Rattle.std.specs.Option.{option_or}
use Rattle.av_base.specs.Flags.{unlocked}
use Rattle.av_base.specs.declared.flags.Flags.{Flags}
use Rattle.av_base.specs.declared.prot.Prot.{Prot}
use Rattle.av_vma.specs.declared.area.Area.{Area}
use Rattle.av_vma.specs.Index.{first_of, index_of, past_of}
use Rattle.av_vma.specs.Join.{same_flags, same_prot, share_anon}
use Rattle.av_vma.specs.Mremap.{page_left, pages_left}
use Rattle.av_vma.specs.Pages.{AreLaid, Lengths, Pages, after_join, after_map, do_join, fresh_area, has_page, join_of, joined_at, with_area}
use Rattle.av_vma.proofs.Join.{flags_as_itself, join_is, same_as_itself}
use Rattle.av_vma.proofs.Laid.{has_from, has_parts}
use Rattle.av_vma.proofs.Marks.{area_marks, marks}

or_none : (own : Option ℕ) → option_or own None ≡ own
or_none None = refl
or_none (Some v) = refl

-- an area that ends before a page
abbrev ended : ℕ → Area → Area
ended b x = record x { end = 4096 * b }

has_ended : (b : ℕ) (x : Area) (q : ℕ) → first_of x ≤ q → q < b → has_page (ended b x) q ≡ true
has_ended b x q first less = has_from (ended b x) q first (omega arith)

ended_has : (b : ℕ) (x : Area) (q : ℕ) → has_page (ended b x) q ≡ true → (first_of x ≤ q) × (q < b)
ended_has b x q h =
    let k = has_parts (ended b x) q h in
    let less : q < past_of (ended b x) = k.1 in
    (k.0, omega arith)

-- ---- two runs

-- free pages from a to below `past` are mapped alike
module _ (len : Lengths) (p : ℕ) (r : Prot) (f : Flags) (on : Pages) (laid : AreLaid on) (a past : ℕ) (some : 0 < a)
    (free : (q : ℕ) → a ≤ q → q < past → on q ≡ None) where
  abbrev fresh : ℕ → Area
  fresh b = fresh_area p a b r f

  -- the new area up to some page, or it and what it was joined with
  record IsGrown (x : Area) : Type 0 where
    low : first_of x ≤ a
    prot : x.prot ≡ r
    flags : x.flags ≡ f
    index : x.pgoff + (a - first_of x) ≡ a
    shares : share_anon x.anon (len x.anon) None (len None) ≡ true

  abbrev grown : Area → ℕ → Pages
  grown x b q = cond (has_page (ended b x) q) (Some (ended b x)) (on q)

  grown_in : (x : Area) (b q : ℕ) → first_of x ≤ q → q < b → grown x b q ≡ Some (ended b x)
  grown_in x b q first less = cond-true (has_page (ended b x) q) (Some (ended b x)) (on q) (has_ended b x q first less)

  grown_past : (x : Area) (b : ℕ) → a ≤ b → b < past → grown x b b ≡ None
  grown_past x b ab less =
      cond-false (has_page (ended b x) b) (Some (ended b x)) (on b)
      (false_from_ne_true (has_page (ended b x) b) (λ h. let k = (ended_has b x b h).1 in omega arith))
      ∙ free b ab less

  -- what the new area is with what it joins, whatever page it ends at
  record Begins : Type 0 where
    x : Area
    is : IsGrown x
    pages : (b : ℕ) → a < b → b ≤ past → (q : ℕ) → joined_at len a (with_area (fresh b) on) q ≡ grown x b q

  before_is : (b : ℕ) → a < b → with_area (fresh b) on (a - 1) ≡ on (a - 1)
  before_is b ab = cond-false (has_page (fresh b) (a - 1)) (Some (fresh b)) (on (a - 1))
      (false_from_ne_true (has_page (fresh b) (a - 1)) (λ h. let k = (ended_has b (fresh b) (a - 1) h).0 in omega arith))

  itself : (b : ℕ) → a < b → with_area (fresh b) on a ≡ Some (fresh b)
  itself b ab = cond-true (has_page (fresh b) a) (Some (fresh b)) (on a) (has_ended b (fresh b) a (omega arith) ab)

  alone : IsGrown (fresh past)
  alone = record { low = omega arith; prot = refl; flags = refl; index = omega arith; shares = refl }

  with_left : (l : Area) → on (a - 1) ≡ Some l → (t : Bool) → do_join len l (fresh past) ≡ t → Begins
  with_left l e true j = record {
    x = join_of l (fresh past);
    is =
        let k = join_is len l (fresh past) j in
        let w = laid.whole (a - 1) l e in
        let first = (has_parts l (a - 1) (laid.here (a - 1) l e)).0 in
        let adjoin : l.end ≡ 4096 * a = k.adjoin in
        let index : index_of l (past_of l) ≡ a = k.index in
        record {
          low = omega arith;
          prot = k.prot;
          flags = k.flags;
          index = omega arith;
          shares = ap (λ own. share_anon own (len own) None (len None)) (or_none l.anon) ∙ k.share;
        };
    pages = λ b ab high q.
        let first = (has_parts l (a - 1) (laid.here (a - 1) l e)).0 in
        (λ i. after_join len ((before_is b ab ∙ e) i) (itself b ab i) q (with_area (fresh b) on q))
        ∙ ap (λ t. cond (t && has_page (ended b (join_of l (fresh past))) q) (Some (ended b (join_of l (fresh past)))) (with_area (fresh b) on q)) j
        ∙ elim (has_page (ended b (join_of l (fresh past))) q) as (λ h. has_page (ended b (join_of l (fresh past))) q ≡ h →
        cond h (Some (ended b (join_of l (fresh past)))) (with_area (fresh b) on q) ≡ cond h (Some (ended b (join_of l (fresh past)))) (on q)) [
          | true ↦ λ h. refl
          | false ↦ λ h. cond-false (has_page (fresh b) q) (Some (fresh b)) (on q) (false_from_ne_true (has_page (fresh b) q) (λ g.
              let k = ended_has b (fresh b) q g in
              let low : 4096 * a / 4096 ≤ q = k.0 in
              both_ways (has_page (ended b (join_of l (fresh past))) q) h (has_ended b (join_of l (fresh past)) q (omega arith) k.1)))
        ] refl;
  }
  with_left l e false j = record {
    x = fresh past;
    is = alone;
    pages = λ b ab high q.
        (λ i. after_join len ((before_is b ab ∙ e) i) (itself b ab i) q (with_area (fresh b) on q))
        ∙ ap (λ t. cond (t && has_page (join_of l (fresh b)) q) (Some (join_of l (fresh b))) (with_area (fresh b) on q)) j;
  }

  begins : Begins
  begins = each (on (a - 1)) refl
    where
      each : (o : Option Area) → on (a - 1) ≡ o → Begins
      each None e = record {
        x = fresh past;
        is = alone;
        pages = λ b ab high q. (λ i. after_join len ((before_is b ab ∙ e) i) (with_area (fresh b) on a) q (with_area (fresh b) on q));
      }
      each (Some l) e = with_left l e (do_join len l (fresh past)) refl

  abbrev x : Area
  x = begins.x

  -- up to a page before the last nothing joins at the end
  first_run : (b : ℕ) → a < b → b < past → (q : ℕ) → after_map len p a b r f on q ≡ grown x b q
  first_run b ab less q =
      let low = begins.is.low in
      (λ i. joined_at len b (λ q. begins.pages b ab (omega arith) q i) q)
      ∙ (λ i. after_join len (grown_in x b (b - 1) (omega arith) (omega arith) i) (grown_past x b (omega arith) less i) q (grown x b q))

  module _ (b : ℕ) (ab : a < b) (less : b < past) where
    abbrev second : Area
    second = fresh_area p b past r f

    abbrev wider : Pages
    wider = with_area second (grown x b)

    wider_last : wider (b - 1) ≡ Some (ended b x)
    wider_last =
        let low = begins.is.low in
        cond-false (has_page second (b - 1)) (Some second) (grown x b (b - 1))
        (false_from_ne_true (has_page second (b - 1)) (λ h. let k = (ended_has past second (b - 1) h).0 in omega arith))
        ∙ grown_in x b (b - 1) (omega arith) (omega arith)

    wider_next : wider b ≡ Some second
    wider_next = cond-true (has_page second b) (Some second) (grown x b b) (has_ended past second b (omega arith) less)

    joins : do_join len (ended b x) second ≡ true
    joins =
        let low = begins.is.low in
        let index = begins.is.index in
        let same : index_of (ended b x) (past_of (ended b x)) ≡ b = omega arith in
        let e1 : (4096 * b == 4096 * b) ≡ true = eq-eqb (4096 * b) (4096 * b) refl in
        let e2 : same_prot x.prot r ≡ true = ap (λ p. same_prot p r) begins.is.prot ∙ same_as_itself r in
        let e3 : same_flags x.flags f ≡ true = ap (λ p. same_flags p f) begins.is.flags ∙ flags_as_itself f in
        let e4 : (index_of (ended b x) (past_of (ended b x)) == b) ≡ true = eq-eqb (index_of (ended b x) (past_of (ended b x))) b same in
        let e5 : share_anon x.anon (len x.anon) None (len None) ≡ true = begins.is.shares in
        λ i. e1 i && e2 i && e3 i && e4 i && e5 i

    joined_more : join_of (ended b x) second ≡ ended past x
    joined_more = λ i. record (ended past x) { anon = or_none x.anon i }

    wider_out : (q : ℕ) → has_page (ended past x) q ≡ false → wider q ≡ on q
    wider_out q out =
        let low = begins.is.low in
        let beyond : first_of x ≤ q → q < past → ⊥ = λ first last. both_ways (has_page (ended past x) q) out (has_ended past x q first last) in
        cond-false (has_page second q) (Some second) (grown x b q) (false_from_ne_true (has_page second q) (λ h.
        let k = ended_has past second q h in
        let from : 4096 * b / 4096 ≤ q = k.0 in
        beyond (omega arith) k.1))
        ∙ cond-false (has_page (ended b x) q) (Some (ended b x)) (on q) (false_from_ne_true (has_page (ended b x) q) (λ h.
        let k = ended_has b x q h in
        let last = k.1 in
        beyond k.0 (omega arith)))

    grows : (q : ℕ) → joined_at len b wider q ≡ grown x past q
    grows q =
        (λ i. after_join len (wider_last i) (wider_next i) q (wider q))
        ∙ (λ i. cond (joins i && has_page (joined_more i) q) (Some (joined_more i)) (wider q))
        ∙ elim (has_page (ended past x) q) as (λ h. has_page (ended past x) q ≡ h →
        cond h (Some (ended past x)) (wider q) ≡ cond h (Some (ended past x)) (on q)) [
          | true ↦ λ h. refl
          | false ↦ λ h. wider_out q h
        ] refl

    -- the first pages and then the others, or all at once
    pub map_then : after_map len p b past r f (after_map len p a b r f on) ≡ after_map len p a past r f on
    map_then =
        (λ i. after_map len p b past r f (λ q. first_run b ab less q i))
        ∙ (λ i. joined_at len past (λ q. grows q i))
        ∙ (λ i. joined_at len past (λ q. sym (begins.pages past (omega arith) (omega arith) q) i))

-- ---- page by page

-- a page is mapped so
abbrev pub mapped_as : Lengths → ℕ → ℕ → Option (Prot × Flags) → Pages → Pages
mapped_as len p page None on = on
mapped_as len p page (Some (r, f)) on = after_map len p page (page + 1) r (unlocked f) on

left_as : (len : Lengths) (p page : ℕ) (o : Option Area) (on : Pages) → page_left len p page o on ≡ mapped_as len p page (option_map area_marks o) on
left_as len p page None on = refl
left_as len p page (Some area) on = refl

-- only that counts
pub left_by_marks : (len : Lengths) (p : ℕ) (was was' : Pages) (from n : ℕ) (on : Pages)
    → ((q : ℕ) → from ≤ q → q < from + n → marks was q ≡ marks was' q) → pages_left len p was from n on
    ≡ pages_left len p was' from n on
left_by_marks len p was was' from zero on same = refl
left_by_marks len p was was' from (suc n) on same =
    ap (pages_left len p was (from + 1) n) (left_as len p from (was from) on
    ∙ ap (λ w. mapped_as len p from w on) (same from (omega arith) (omega arith)) ∙ sym (left_as len p from (was' from) on))
    ∙ left_by_marks len p was was' (from + 1) n (page_left len p from (was' from) on) (λ q low high. same q (omega arith) (omega arith))

-- some pages, and then some more
pub left_then : (len : Lengths) (p : ℕ) (was : Pages) (a m n : ℕ) (on : Pages)
    → pages_left len p was (a + m) n (pages_left len p was a m on) ≡ pages_left len p was a (m + n) on
left_then len p was a zero n on = (let first : a + 0 ≡ a = omega arith in let all : n ≡ 0 + n = omega arith in
    λ i. pages_left len p was (first i) (all i) on)
left_then len p was a (suc m) n on =
    let first : a + suc m ≡ (a + 1) + m = omega arith in
    let all : suc (m + n) ≡ suc m + n = omega arith in
    ap (λ c. pages_left len p was c n (pages_left len p was (a + 1) m (page_left len p a (was a) on))) first
    ∙ left_then len p was (a + 1) m n (page_left len p a (was a) on)
    ∙ ap (λ c. pages_left len p was a c on) all

-- a run of pages that are alike is mapped at once
module _ (len : Lengths) (p : ℕ) (was : Pages) (r : Prot) (f : Flags) (on : Pages) (laid : AreLaid on) (a past : ℕ) (some : 0 < a)
    (free : (q : ℕ) → a ≤ q → q < past → on q ≡ None)
    (alike : (q : ℕ) → a ≤ q → q < past → marks was q ≡ Some (r, f)) where
  one_page : (q : ℕ) → a ≤ q → q < past → (now : Pages) → page_left len p q (was q) now ≡ after_map len p q (q + 1) r (unlocked f) now
  one_page q low high now = left_as len p q (was q) now ∙ ap (λ w. mapped_as len p q w now) (alike q low high)

  pub left_run : (n : ℕ) → a + suc n ≤ past → pages_left len p was a (suc n) on ≡ after_map len p a (a + suc n) r (unlocked f) on
  left_run zero high = one_page a (omega arith) (omega arith) on
  left_run (suc n) high =
      let all : suc (suc n) ≡ suc n + 1 = omega arith in
      let last : (a + suc n) + 1 ≡ a + suc (suc n) = omega arith in
      ap (λ k. pages_left len p was a k on) all
      ∙ sym (left_then len p was a (suc n) 1 on)
      ∙ one_page (a + suc n) (omega arith) (omega arith) (pages_left len p was a (suc n) on)
      ∙ ap (after_map len p (a + suc n) ((a + suc n) + 1) r (unlocked f)) (left_run n (omega arith))
      ∙ map_then len p r (unlocked f) on laid a ((a + suc n) + 1) some (λ q low less. free q low (omega arith))
      (a + suc n) (omega arith) (omega arith)
      ∙ ap (λ c. after_map len p a c r (unlocked f) on) last
