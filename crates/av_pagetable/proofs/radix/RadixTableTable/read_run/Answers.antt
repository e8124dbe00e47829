use Rattle.std.proofs.Common.{◌≡◌, ℕ, ◌+◌, ◌*◌, ◌/◌, ◌%◌, ◌<◌, ◌∙◌, ap, sym, arith}
use Rattle.std.proofs.lemmas.Nat.{div-add-mod', mod_below}
use Rattle.av_pagetable.proofs.Leaf.{in_top}
use Rattle.av_pagetable.proofs.Run.{one_empty}
use Rattle.av_pagetable.proofs.radix.RadixTableTable.read_run.Goals as goal

-- two pages below 512
one_table : (x y : ℕ) → x < 512 → y < 512 → y / 512 ≡ x / 512
one_table x y low high = omega (arith, low, high, div-add-mod' x 512, div-add-mod' y 512)

pub returns-in-Some-clause-entries : goal.returns-in-Some-clause-entries
returns-in-Some-clause-entries c = λ i low.
    let n = c.args.page in
    let below = c.read_run.ensures.below in
    let page : n + i ≡ n / 512 * 512 + (n % 512 + i) = omega (arith, div-add-mod' n 512) in
    c.read_run.ensures.entries i low ∙ sym (c.in-Some.ensures (n % 512 + i) (omega (arith, below, low))) ∙ ap (in_top c.args.self.now.top) (sym page)

pub returns-in-None-clause-entries : goal.returns-in-None-clause-entries
returns-in-None-clause-entries c =
    let n = c.args.page in
    let table = in_top c.args.self.now.top in
    let page : n ≡ n / 512 * 512 + n % 512 = omega (arith, div-add-mod' n 512) in
    one_empty table n c.args.run.now (omega (arith, c.told-run)) (ap table page ∙ c.in-None.ensures (n % 512) (mod_below n 512 (omega arith)))

pub returns-in-Some-clause-reaches : goal.returns-in-Some-clause-reaches
returns-in-Some-clause-reaches c = λ some i past under table.
    let n = c.args.page in
    let top = in_top c.args.self.now.top in
    let first : n ≡ n / 512 * 512 + n % 512 = omega (arith, div-add-mod' n 512) in
    let page : n + i ≡ n / 512 * 512 + (n % 512 + i) = omega (arith, first) in
    let low : n % 512 + i < 512 = omega (arith, page, table, div-add-mod' (n + i) 512, mod_below (n + i) 512 (omega arith)) in
    ap top page ∙ c.in-Some.ensures (n % 512 + i) low
    ∙ c.read_run.ensures.reaches
    (λ none. some (ap top first ∙ c.in-Some.ensures (n % 512) (mod_below n 512 (omega arith)) ∙ none))
    i past under (one_table (n % 512) (n % 512 + i) (omega (arith, low)) low)

pub returns-in-None-clause-reaches : goal.returns-in-None-clause-reaches
returns-in-None-clause-reaches c = λ some i past under table.
    let n = c.args.page in
    let page : n ≡ n / 512 * 512 + n % 512 = omega (arith, div-add-mod' n 512) in
    absurd (some (ap (in_top c.args.self.now.top) page ∙ c.in-None.ensures (n % 512) (mod_below n 512 (omega arith))))
