use Rattle.std.proofs.Common.{◌≡◌, ◌+◌, ◌∷◌, refl, length, sym, ap, subst, ◌∙◌, arith}
use Rattle.std.proofs.lemmas.List.{nil_from_length}
use Rattle.av_chain.specs.Links.{one_if}
use Rattle.av_rmap.specs.Looks.{ahead}
use Rattle.av_rmap.specs.Unmap.{away}
use Rattle.av_rmap.specs.View.{View}
use Rattle.av_rmap.specs.Walk.{areas_from, looks_to_last, names_frame, walk_of}
use Rattle.av_rmap.proofs.Changes.{IsUnderWay, begin, done, home-changed, left-are, one-more, passes-before, there-now}
use Rattle.av_rmap.proofs.Entries.{walk-many}
use Rattle.av_rmap.proofs.LookLemmas.{a-look, looks-none, walk-length}
use Rattle.av_rmap.proofs.UnmapLemmas.{sends}
use Rattle.av_rmap.proofs.unmap.unmap.Goals as goal

pub areas-init : goal.areas-init
areas-init g c =
    let view = g.K.Look.view c.args.look.now in
    let f = names_frame c.args.frame in
    let home = c.args.home in
    let all = c.new-looks.ensures view in
    record {
      unmapped = subst (λ areas. IsUnderWay (away c.args.frame c.args.slot) home.1 view view areas (areas_from view home)) (sym all)
          (begin (away c.args.frame c.args.slot) view home c.requires.spanned);
      left = ap (λ areas. length (walk_of view f home.1 areas)) all
          ∙ walk-many view f home c.args.maps c.requires.spanned c.requires.apart c.requires.covered c.requires.maps;
      kept = refl;
      counted = ap (λ areas. c.args.steps.now + looks_to_last view f home.1 areas) all;
    }

-- an entry is left, so `next` finds an area
pub unreachable-requires : goal.unreachable-requires
unreachable-requires g c =
    let before = g.K.Look.view c.args.look.now in
    let h = c.areas.invariant in
    let none = sym (ap (λ (v : View). ahead c.areas.looks v) h.unmapped.rest) ∙ rw c.in_default.is at c.next.ensures.none in
    let empty = ap (λ areas. length (walk_of before (names_frame c.args.frame) c.args.home.1 areas)) none in
    let left = h.left in let some = c.areas-test.true in
    absurd (omega (arith, empty, left, some))

pub unmap_in-requires : goal.unmap_in-requires
unmap_in-requires g c =
    let before = g.K.Look.view c.args.look.now in
    let now = g.K.Look.view c.areas.look in
    let h = c.areas.invariant in
    let a = c.in-Some.area in
    let left : ahead c.areas.looks before ≡ a ∷ ahead c.next.new.self before =
    sym (ap (λ (v : View). ahead c.areas.looks v) h.unmapped.rest) ∙ rw c.in-Some.is at c.next.ensures.some
    ∙ ap (λ (v : View). a ∷ ahead c.next.new.self v) h.unmapped.rest in
    there-now (away c.args.frame c.args.slot) c.args.home.1 before now a _ _ (left-are _ _ _ _ _ _ _ left h.unmapped)

pub areas-smaller-then-unmap_in : goal.areas-smaller-then-unmap_in
areas-smaller-then-unmap_in g c =
    let h = c.areas.invariant in
    let fewer = ap length (sym (ap (λ (v : View). ahead c.areas.looks v) h.unmapped.rest) ∙ rw c.in-Some.is at c.next.ensures.some
    ∙ ap (λ (v : View). c.in-Some.area ∷ ahead c.next.new.self v) h.unmapped.rest) in
    omega (arith, fewer)

pub areas-smaller : goal.areas-smaller
areas-smaller g c =
    let h = c.areas.invariant in
    let fewer = ap length (sym (ap (λ (v : View). ahead c.areas.looks v) h.unmapped.rest) ∙ rw c.in-Some.is at c.next.ensures.some
    ∙ ap (λ (v : View). c.in-Some.area ∷ ahead c.next.new.self v) h.unmapped.rest) in
    omega (arith, fewer)

pub areas-preserved-then-unmap_in : goal.areas-preserved-then-unmap_in
areas-preserved-then-unmap_in g c =
    let before = g.K.Look.view c.args.look.now in
    let now = g.K.Look.view c.areas.look in
    let new = g.K.Look.view c.unmap_in.new.look in
    let f = c.args.frame in
    let i = c.args.home.1 in
    let h = c.areas.invariant in
    let a = c.in-Some.area in
    let later = ahead c.next.new.self before in
    let left : ahead c.areas.looks before ≡ a ∷ later =
    sym (ap (λ (v : View). ahead c.areas.looks v) h.unmapped.rest) ∙ rw c.in-Some.is at c.next.ensures.some
    ∙ ap (λ (v : View). a ∷ ahead c.next.new.self v) h.unmapped.rest in
    let way = left-are (away f c.args.slot) i before now _ (a ∷ later) (areas_from before c.args.home) left h.unmapped in
    let named = sym c.if-unmap_in.true ∙ c.unmap_in.ensures.named
    ∙ passes-before (away f c.args.slot) i before now a later (areas_from before c.args.home) way (names_frame f) in
    let found = ap (λ areas. length (walk_of before (names_frame f) i areas)) (sym left) ∙ h.left in
    let parts = walk-length before (names_frame f) i a later ∙ ap (λ b. one_if b + length (walk_of before (names_frame f) i later)) (sym named) in
    let test = c.areas-test.true in
    let look = a-look before (names_frame f) i a later (omega (arith, found, test)) in
    let looks = ap (looks_to_last before (names_frame f) i) left in
    let counted = h.counted in let step = c.unmap_in.ensures.counted in
    record {
      unmapped = one-more (away f c.args.slot) i before now a later (areas_from before c.args.home) way c.requires.apart new c.unmap_in.ensures.unmapped;
      left = omega (arith, found, parts);
      kept = c.unmap_in.ensures.kept ∙ h.kept;
      counted = omega (arith, look, looks, counted, step);
    }

pub areas-preserved : goal.areas-preserved
areas-preserved g c =
    let before = g.K.Look.view c.args.look.now in
    let now = g.K.Look.view c.areas.look in
    let new = g.K.Look.view c.unmap_in.new.look in
    let f = c.args.frame in
    let i = c.args.home.1 in
    let h = c.areas.invariant in
    let a = c.in-Some.area in
    let later = ahead c.next.new.self before in
    let left : ahead c.areas.looks before ≡ a ∷ later =
    sym (ap (λ (v : View). ahead c.areas.looks v) h.unmapped.rest) ∙ rw c.in-Some.is at c.next.ensures.some
    ∙ ap (λ (v : View). a ∷ ahead c.next.new.self v) h.unmapped.rest in
    let way = left-are (away f c.args.slot) i before now _ (a ∷ later) (areas_from before c.args.home) left h.unmapped in
    let named = sym c.if-unmap_in.false ∙ c.unmap_in.ensures.named
    ∙ passes-before (away f c.args.slot) i before now a later (areas_from before c.args.home) way (names_frame f) in
    let found = ap (λ areas. length (walk_of before (names_frame f) i areas)) (sym left) ∙ h.left in
    let parts = walk-length before (names_frame f) i a later ∙ ap (λ b. one_if b + length (walk_of before (names_frame f) i later)) (sym named) in
    let test = c.areas-test.true in
    let look = a-look before (names_frame f) i a later (omega (arith, found, test)) in
    let looks = ap (looks_to_last before (names_frame f) i) left in
    let counted = h.counted in let step = c.unmap_in.ensures.counted in
    record {
      unmapped = one-more (away f c.args.slot) i before now a later (areas_from before c.args.home) way c.requires.apart new c.unmap_in.ensures.unmapped;
      left = omega (arith, found, parts);
      kept = c.unmap_in.ensures.kept ∙ h.kept;
      counted = omega (arith, look, looks, counted, step);
    }

-- no entry names the frame
pub returns-then-maps-eq0-clause-unmapped : goal.returns-then-maps-eq0-clause-unmapped
returns-then-maps-eq0-clause-unmapped g c =
    let view = g.K.Look.view c.args.look.now in
    let f = names_frame c.args.frame in
    let home = c.args.home in
    let none = nil_from_length _ (walk-many view f home c.args.maps c.requires.spanned c.requires.apart c.requires.covered c.requires.maps
    ∙ c.if-maps-eq0.true) in
    done (sends c.args.frame c.args.slot) home.1 view view _ _ (begin (away c.args.frame c.args.slot) view home c.requires.spanned) none
    ∙ home-changed (sends c.args.frame c.args.slot) home view c.requires.spanned c.requires.covered

pub returns-then-maps-eq0-clause-counted : goal.returns-then-maps-eq0-clause-counted
returns-then-maps-eq0-clause-counted g c =
    let view = g.K.Look.view c.args.look.now in
    let f = names_frame c.args.frame in
    let many = walk-many view f c.args.home c.args.maps c.requires.spanned c.requires.apart c.requires.covered c.requires.maps in
    let none = looks-none view f c.args.home.1 (areas_from view c.args.home) (nil_from_length _ (many ∙ c.if-maps-eq0.true)) in
    omega (arith, none)

-- none is left
pub returns-clause-unmapped : goal.returns-clause-unmapped
returns-clause-unmapped g c =
    let before = g.K.Look.view c.args.look.now in
    let now = g.K.Look.view c.areas.look in
    let h = c.areas.invariant in
    let left = h.left in let test = c.areas-test.false in
    let none = nil_from_length (walk_of before (names_frame c.args.frame) c.args.home.1 (ahead c.areas.looks before)) (omega (arith, left, test)) in
    done (sends c.args.frame c.args.slot) c.args.home.1 before now _ _ h.unmapped none
    ∙ home-changed (sends c.args.frame c.args.slot) c.args.home before c.requires.spanned c.requires.covered

pub returns-clause-counted : goal.returns-clause-counted
returns-clause-counted g c =
    let before = g.K.Look.view c.args.look.now in
    let h = c.areas.invariant in
    let left = h.left in let test = c.areas-test.false in
    let found = walk_of before (names_frame c.args.frame) c.args.home.1 (ahead c.areas.looks before) in
    let none = looks-none before (names_frame c.args.frame) c.args.home.1 (ahead c.areas.looks before)
    (nil_from_length found (omega (arith, left, test))) in
    let counted = h.counted in
    omega (arith, none, counted)
