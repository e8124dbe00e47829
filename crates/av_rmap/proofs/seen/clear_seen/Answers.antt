use Rattle.std.proofs.Common.{◌≡◌, ◌+◌, ◌∷◌, refl, length, sym, ap, subst, ◌∙◌, arith, false, is_some, unwrap_or, MatchBool}
use Rattle.std.proofs.Math.Bool.{or-false}
use Rattle.std.proofs.lemmas.List.{nil_from_length}
use Rattle.av_chain.specs.Links.{one_if}
use Rattle.av_rmap.specs.Looks.{ahead}
use Rattle.av_rmap.specs.Seen.{unseen}
use Rattle.av_rmap.specs.View.{View}
use Rattle.av_rmap.specs.Walk.{areas_from, looks_to_last, names_frame, walk_of}
use Rattle.av_rmap.proofs.Changes.{IsUnderWay, begin, done, home-changed, left-are, one-more, passes-before, there-now}
use Rattle.av_rmap.proofs.Entries.{walk-many}
use Rattle.av_rmap.proofs.LookLemmas.{a-look, looks-none, walk-length}
use Rattle.av_rmap.proofs.SeenLemmas.{IsSeen, clears, seen-or-none, seen-so-far}
use Rattle.av_rmap.proofs.seen.clear_seen.Goals as goal

pub areas-init : goal.areas-init
areas-init g c =
    let view = g.K.Look.view c.args.look.now in
    let f = names_frame c.args.frame in
    let home = c.args.home in
    let all = c.new-looks.ensures view in
    record {
      cleared = subst (λ areas. IsUnderWay (unseen c.args.frame) home.1 view view areas (areas_from view home)) (sym all)
          (begin (unseen c.args.frame) view home c.requires.spanned);
      left = ap (λ areas. length (walk_of view f home.1 areas)) all
          ∙ walk-many view f home c.args.maps c.requires.spanned c.requires.apart c.requires.covered c.requires.maps;
      seen = refl;
      kept = refl;
      counted = ap (λ areas. c.args.steps.now + looks_to_last view f home.1 areas) all;
    }

-- an entry is left, so `next` finds an area
pub unreachable-requires : goal.unreachable-requires
unreachable-requires g c =
    let before = g.K.Look.view c.args.look.now in
    let h = c.areas.invariant in
    let none = sym (ap (λ (v : View). ahead c.areas.looks v) h.cleared.rest) ∙ rw c.in_default.is at c.next.ensures.none in
    let empty = ap (λ areas. length (walk_of before (names_frame c.args.frame) c.args.home.1 areas)) none in
    let left = h.left in let some = c.areas-test.true in
    absurd (omega (arith, empty, left, some))

pub clear_in-requires : goal.clear_in-requires
clear_in-requires g c =
    let before = g.K.Look.view c.args.look.now in
    let now = g.K.Look.view c.areas.look in
    let h = c.areas.invariant in
    let a = c.in-Some.area in
    let left : ahead c.areas.looks before ≡ a ∷ ahead c.next.new.self before =
    sym (ap (λ (v : View). ahead c.areas.looks v) h.cleared.rest) ∙ rw c.in-Some.is at c.next.ensures.some
    ∙ ap (λ (v : View). a ∷ ahead c.next.new.self v) h.cleared.rest in
    there-now (unseen c.args.frame) c.args.home.1 before now a _ _ (left-are _ _ _ _ _ _ _ left h.cleared)

pub areas-smaller-in-Some-clear_in : goal.areas-smaller-in-Some-clear_in
areas-smaller-in-Some-clear_in g c =
    let h = c.areas.invariant in
    let fewer = ap length (sym (ap (λ (v : View). ahead c.areas.looks v) h.cleared.rest) ∙ rw c.in-Some.is at c.next.ensures.some
    ∙ ap (λ (v : View). c.in-Some.area ∷ ahead c.next.new.self v) h.cleared.rest) in
    omega (arith, fewer)

pub areas-smaller : goal.areas-smaller
areas-smaller g c =
    let h = c.areas.invariant in
    let fewer = ap length (sym (ap (λ (v : View). ahead c.areas.looks v) h.cleared.rest) ∙ rw c.in-Some.is at c.next.ensures.some
    ∙ ap (λ (v : View). c.in-Some.area ∷ ahead c.next.new.self v) h.cleared.rest) in
    omega (arith, fewer)

pub areas-preserved-in-Some-clear_in : goal.areas-preserved-in-Some-clear_in
areas-preserved-in-Some-clear_in g c =
    let before = g.K.Look.view c.args.look.now in
    let now = g.K.Look.view c.areas.look in
    let new = g.K.Look.view c.clear_in.new.look in
    let f = c.args.frame in
    let i = c.args.home.1 in
    let h = c.areas.invariant in
    let a = c.in-Some.area in
    let later = ahead c.next.new.self before in
    let left : ahead c.areas.looks before ≡ a ∷ later =
    sym (ap (λ (v : View). ahead c.areas.looks v) h.cleared.rest) ∙ rw c.in-Some.is at c.next.ensures.some
    ∙ ap (λ (v : View). a ∷ ahead c.next.new.self v) h.cleared.rest in
    let way = left-are (unseen f) i before now _ (a ∷ later) (areas_from before c.args.home) left h.cleared in
    let named = ap is_some (sym c.in-Some-clear_in.is) ∙ c.clear_in.ensures.named
    ∙ passes-before (unseen f) i before now a later (areas_from before c.args.home) way (names_frame f) in
    let found = ap (λ areas. length (walk_of before (names_frame f) i areas)) (sym left) ∙ h.left in
    let parts = walk-length before (names_frame f) i a later ∙ ap (λ b. one_if b + length (walk_of before (names_frame f) i later)) (sym named) in
    let test = c.areas-test.true in
    let look = a-look before (names_frame f) i a later (omega (arith, found, test)) in
    let looks = ap (looks_to_last before (names_frame f) i) left in
    let counted = h.counted in let step = c.clear_in.ensures.counted in
    record {
      cleared = one-more (unseen f) i before now a later (areas_from before c.args.home) way c.requires.apart new c.clear_in.ensures.cleared;
      left = omega (arith, found, parts);
      seen = seen-so-far f i before now new (now.areas a) c.areas.any_seen c.in-Some-clear_in.seen
          (there-now (unseen f) i before now a later (areas_from before c.args.home) way)
          (sym (ap (λ o. unwrap_or o false) c.in-Some-clear_in.is) ∙ c.clear_in.ensures.seen) c.clear_in.ensures.cleared h.seen;
      kept = c.clear_in.ensures.kept ∙ h.kept;
      counted = omega (arith, look, looks, counted, step);
    }

pub areas-preserved : goal.areas-preserved
areas-preserved g c =
    let before = g.K.Look.view c.args.look.now in
    let now = g.K.Look.view c.areas.look in
    let new = g.K.Look.view c.clear_in.new.look in
    let f = c.args.frame in
    let i = c.args.home.1 in
    let h = c.areas.invariant in
    let a = c.in-Some.area in
    let later = ahead c.next.new.self before in
    let left : ahead c.areas.looks before ≡ a ∷ later =
    sym (ap (λ (v : View). ahead c.areas.looks v) h.cleared.rest) ∙ rw c.in-Some.is at c.next.ensures.some
    ∙ ap (λ (v : View). a ∷ ahead c.next.new.self v) h.cleared.rest in
    let way = left-are (unseen f) i before now _ (a ∷ later) (areas_from before c.args.home) left h.cleared in
    let named = ap is_some (sym c.in_default-clear_in.is) ∙ c.clear_in.ensures.named
    ∙ passes-before (unseen f) i before now a later (areas_from before c.args.home) way (names_frame f) in
    let found = ap (λ areas. length (walk_of before (names_frame f) i areas)) (sym left) ∙ h.left in
    let parts = walk-length before (names_frame f) i a later ∙ ap (λ b. one_if b + length (walk_of before (names_frame f) i later)) (sym named) in
    let test = c.areas-test.true in
    let look = a-look before (names_frame f) i a later (omega (arith, found, test)) in
    let looks = ap (looks_to_last before (names_frame f) i) left in
    let counted = h.counted in let step = c.clear_in.ensures.counted in
    record {
      cleared = one-more (unseen f) i before now a later (areas_from before c.args.home) way c.requires.apart new c.clear_in.ensures.cleared;
      left = omega (arith, found, parts);
      seen = subst (λ b. MatchBool b (IsSeen before f) (new ≡ before)) (or-false c.areas.any_seen)
          (seen-so-far f i before now new (now.areas a) c.areas.any_seen false
          (there-now (unseen f) i before now a later (areas_from before c.args.home) way)
          (sym (ap (λ o. unwrap_or o false) c.in_default-clear_in.is) ∙ c.clear_in.ensures.seen) c.clear_in.ensures.cleared h.seen);
      kept = c.clear_in.ensures.kept ∙ h.kept;
      counted = omega (arith, look, looks, counted, step);
    }

-- no entry names the frame
pub returns-then-maps-eq0-clause-seen : goal.returns-then-maps-eq0-clause-seen
returns-then-maps-eq0-clause-seen g c =
    let view = g.K.Look.view c.args.look.now in
    let f = names_frame c.args.frame in
    let home = c.args.home in
    let none = nil_from_length _ (walk-many view f home c.args.maps c.requires.spanned c.requires.apart c.requires.covered c.requires.maps
    ∙ c.if-maps-eq0.true) in
    let cleared = done (clears c.args.frame) home.1 view view _ _ (begin (unseen c.args.frame) view home c.requires.spanned) none
    ∙ home-changed (clears c.args.frame) home view c.requires.spanned c.requires.covered in
    seen-or-none c.args.frame view view false cleared refl

pub returns-then-maps-eq0-clause-cleared : goal.returns-then-maps-eq0-clause-cleared
returns-then-maps-eq0-clause-cleared g c =
    let view = g.K.Look.view c.args.look.now in
    let f = names_frame c.args.frame in
    let home = c.args.home in
    let none = nil_from_length _ (walk-many view f home c.args.maps c.requires.spanned c.requires.apart c.requires.covered c.requires.maps
    ∙ c.if-maps-eq0.true) in
    done (clears c.args.frame) home.1 view view _ _ (begin (unseen c.args.frame) view home c.requires.spanned) none
    ∙ home-changed (clears c.args.frame) home view c.requires.spanned c.requires.covered

pub returns-then-maps-eq0-clause-counted : goal.returns-then-maps-eq0-clause-counted
returns-then-maps-eq0-clause-counted g c =
    let view = g.K.Look.view c.args.look.now in
    let f = names_frame c.args.frame in
    let many = walk-many view f c.args.home c.args.maps c.requires.spanned c.requires.apart c.requires.covered c.requires.maps in
    let none = looks-none view f c.args.home.1 (areas_from view c.args.home) (nil_from_length _ (many ∙ c.if-maps-eq0.true)) in
    omega (arith, none)

-- none is left
pub returns-clause-seen : goal.returns-clause-seen
returns-clause-seen g c =
    let before = g.K.Look.view c.args.look.now in
    let now = g.K.Look.view c.areas.look in
    let h = c.areas.invariant in
    let left = h.left in let test = c.areas-test.false in
    let none = nil_from_length (walk_of before (names_frame c.args.frame) c.args.home.1 (ahead c.areas.looks before)) (omega (arith, left, test)) in
    let cleared = done (clears c.args.frame) c.args.home.1 before now _ _ h.cleared none
    ∙ home-changed (clears c.args.frame) c.args.home before c.requires.spanned c.requires.covered in
    seen-or-none c.args.frame before now c.areas.any_seen cleared h.seen

pub returns-clause-cleared : goal.returns-clause-cleared
returns-clause-cleared g c =
    let before = g.K.Look.view c.args.look.now in
    let now = g.K.Look.view c.areas.look in
    let h = c.areas.invariant in
    let left = h.left in let test = c.areas-test.false in
    let none = nil_from_length (walk_of before (names_frame c.args.frame) c.args.home.1 (ahead c.areas.looks before)) (omega (arith, left, test)) in
    done (clears c.args.frame) c.args.home.1 before now _ _ h.cleared none
    ∙ home-changed (clears c.args.frame) c.args.home before c.requires.spanned c.requires.covered

pub returns-clause-counted : goal.returns-clause-counted
returns-clause-counted g c =
    let before = g.K.Look.view c.args.look.now in
    let h = c.areas.invariant in
    let left = h.left in let test = c.areas-test.false in
    let found = walk_of before (names_frame c.args.frame) c.args.home.1 (ahead c.areas.looks before) in
    let none = looks-none before (names_frame c.args.frame) c.args.home.1 (ahead c.areas.looks before)
    (nil_from_length found (omega (arith, left, test))) in
    let counted = h.counted in
    omega (arith, none, counted)
