use Rattle.std.proofs.Common.{◌≡◌, ℕ, ◌+◌, ◌-◌, ◌<◌, ◌≤◌, Bool, true, false, cond, List, [], ◌∷◌, ◌++◌, Some, length, get_or, ap, sym, ◌∙◌, arith}
use Rattle.std.proofs.lemmas.List.{append-nil, get_or_default}
use Rattle.std.specs.List.{filter, range_with_len}
use Rattle.std.specs.declared.vec.Vec.{Vec}
use Rattle.std.specs.declared.alloc.Global.{Global}
use Rattle.av_base.specs.Words.{is_in}
use Rattle.av_swapdev.specs.Header.{numbers_at, all_named, order_of}
use Rattle.av_swapdev.proofs.HeaderLemmas.{bad_is}
use Rattle.av_swapdev.proofs.HeaderNamed.{number_passed, filter_same}
use Rattle.av_swapdev.proofs.header.bad_pages.Goals as goal
use Rattle.av_swapdev.proofs.header.bad_pages.Goals.{then-index+in_ok-push, else-index}

pub loop-m-preserved : goal.loop-m-preserved
loop-m-preserved c =
    let marks = c.in_ok-marks.marks.items in
    let p : ℕ → Bool = λ m. get_or marks m false in
    let m = c.loop-m.m in
    let n = c.args.header.now.pages in
    let inside : m < length marks = omega (arith, c.in_ok-marks.ensures.len, c.loop-m-test.true) in
    let is : p m ≡ c.index.result.now = sym (c.index.ensures ∙ get_or_default marks m c.index.result.now false inside) in
    let passed = λ (t : Bool) (e : c.index.result.now ≡ t). number_passed p c.loop-m.bad.items _ m n t c.loop-m-test.true (is ∙ e)
    c.loop-m.invariant in
    elim c.if-index.branch [
      | then-index+in_ok-push w ↦ ap (λ (l : List ℕ). l ++ filter p (range_with_len (m + 1) (n - (m + 1))))
          (ap (λ (v : Vec ℕ Global). v.items) w.bad-is ∙ w.in_ok-push.ensures.items) ∙ passed true w.if-index.true
      | else-index w ↦ ap (λ (v : Vec ℕ Global). v.items ++ filter p (range_with_len (m + 1) (n - (m + 1)))) w.bad-is ∙ passed false w.if-index.false
    ]

pub returns : goal.returns
returns c device layout ok =
    let marks = c.in_ok-marks.marks.items in
    let order = c.in-Some.order in
    let page = c.args.page.now in
    let p : ℕ → Bool = λ m. get_or marks m false in
    let q : ℕ → Bool = λ m. is_in m (all_named order page) in
    let n = c.args.header.now.pages in
    let none : n - c.loop-m.m ≡ 0 = omega arith in
    let ended = ap (λ (k : ℕ). c.loop-m.bad.items ++ filter p (range_with_len c.loop-m.m k)) none in
    let found : order_of page ≡ Some order = sym c.byte_order.ensures ∙ c.in-Some.is in
    let same : (m : ℕ) → 1 ≤ m → m < 1 + (n - 1) → p m ≡ q m = λ m low high. c.in_ok-marks.ensures.named m (omega arith)
    ∙ ap (λ (k : ℕ). is_in m (numbers_at order page 0 k)) c.number.ensures in
    sym (ended ∙ append-nil c.loop-m.bad.items) ∙ c.loop-m.invariant ∙ filter_same p q 1 (n - 1) same
    ∙ sym (bad_is order page c.args.header.now device layout found c.requires.of_page ok)
