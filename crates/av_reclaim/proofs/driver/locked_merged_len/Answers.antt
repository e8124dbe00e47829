use Rattle.std.proofs.Common.{◌≡◌, ℕ, ◌≤◌, Bool, true, false, cond, ◌&&◌, nat_lt, refl, ap, ◌∙◌, arith}
use mir.Val.{bool_byte}
use Rattle.std.specs.List.{range_with_len}
use Rattle.av_base.specs.Words.{how_many}
use Rattle.av_rmap.specs.Items.{is_merged}
use Rattle.av_mem.specs.Mem.{frame_count, locks_of, view}
use Rattle.av_reclaim.proofs.Both.{both-fewer, count-next}
use Rattle.av_reclaim.proofs.driver.locked_merged_len.Goals.{then-locked_len-eq0-via-then-locked_len-eq0, then-locked_len-eq0-via-else-locked_len-eq0+then-merged_len-eq0}
use Rattle.av_reclaim.proofs.driver.locked_merged_len.Goals as goal

-- a count of none
none : (n a r : ℕ) → n ≤ a → r ≡ a → r ≡ 0 → 0 ≡ n
none n a r most counted is = omega (arith, most, counted, is)

-- one or none
byte-is : (b : Bool) → bool_byte b ≡ cond b 1 0
byte-is true = refl
byte-is false = refl

one-most : (b : Bool) → cond b 1 0 ≤ 1
one-most true = omega arith
one-most false = omega arith

pub returns-then-locked_len-eq0 : goal.returns-then-locked_len-eq0
returns-then-locked_len-eq0 c =
    let k = c.args.mem.now in
    let merged : ℕ → Bool = λ f. is_merged ((view k).items f) in
    let few = both-fewer (λ f. nat_lt 0 (locks_of k f)) merged (range_with_len 0 (frame_count k)) in
    elim c.then-locked_len-eq0.branch [
      | then-locked_len-eq0-via-then-locked_len-eq0 w ↦ none _ _ c.locked_len.result few.0 c.locked_len.ensures w.if-locked_len-eq0.true
      | then-locked_len-eq0-via-else-locked_len-eq0+then-merged_len-eq0 w ↦
          none _ _ w.merged_len.result few.1 (w.merged_len.ensures ∙ ap (λ n. how_many merged (range_with_len 0 n)) c.requires) w.if-merged_len-eq0.true
    ]

pub loop-frame-preserved : goal.loop-frame-preserved
loop-frame-preserved c =
    let k = c.args.mem.now in
    let both : ℕ → Bool = λ f. nat_lt 0 (locks_of k f) && is_merged ((view k).items f) in
    let few = c.loop-frame.invariant.few in
    let len = c.loop-frame.invariant.len in
    let one = c.from-len.ensures ∙ byte-is c.is_locked_merged.result ∙ ap {B = ℕ} (λ b. cond b 1 0) c.is_locked_merged.ensures in
    let most = one-most (both c.loop-frame.frame) in
    let next = count-next both c.loop-frame.frame in
    record { few = omega (arith, few, one, most); len = omega (arith, len, one, next) }
