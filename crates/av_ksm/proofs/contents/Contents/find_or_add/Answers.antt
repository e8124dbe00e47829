use Rattle.std.proofs.Common.{List, ℕ, Ok, Err, refl, sym, ap, subst, ◌∙◌}
use Rattle.std.specs.Prelude.{is_some}
use Rattle.av_frames.specs.Store.{shown}
use Rattle.av_ksm.specs.Contents.{IsPlace}
use Rattle.av_ksm.proofs.ContentsLaws.{first-below, kept-added, kept-more, kept-noted, noted-first, place-first, place-none, place-some}
use Rattle.av_ksm.proofs.contents.Contents.find_or_add.Goals as goal

pub returns-then-is_some-clause-first : goal.returns-then-is_some-clause-first
returns-then-is_some-clause-first c = λ known kept. noted-first (shown c.args.frames.now).count (shown c.args.frames.now).bytes known c.args.self.now kept
    c.args.frame c.index.result.now c.requires.in_range c.index.ensures (sym c.is_some.ensures ∙ c.if-is_some.true)

pub returns-then-is_some-clause-in_range : goal.returns-then-is_some-clause-in_range
returns-then-is_some-clause-in_range c =
    let n = (shown c.args.frames.now).count in
    let held = (shown c.args.frames.now).bytes in
    let k = c.requires.kept in
    first-below n held k.0 c.args.self.now k.1 c.args.frame c.index.result.now (noted-first n held k.0 c.args.self.now k.1
    c.args.frame c.index.result.now c.requires.in_range c.index.ensures (sym c.is_some.ensures ∙ c.if-is_some.true))

pub returns-then-is_some-clause-kept : goal.returns-then-is_some-clause-kept
returns-then-is_some-clause-kept c = λ known kept.
    let n = (shown c.args.frames.now).count in
    let held = (shown c.args.frames.now).bytes in
    let some = sym c.is_some.ensures ∙ c.if-is_some.true in
    kept-more n held known c.args.self.now kept (c.args.frame, c.args.page) c.requires.in_range
    (ap is_some (sym (noted-first n held known c.args.self.now kept c.args.frame c.index.result.now c.requires.in_range c.index.ensures some)) ∙ some)

pub returns-in-Ok-clause-first : goal.returns-in-Ok-clause-first
returns-in-Ok-clause-first c = λ known kept.
    let n = (shown c.args.frames.now).count in
    let held = (shown c.args.frames.now).bytes in
    let place = subst (λ (row : List ℕ). IsPlace held row c.args.frame (Ok c.in-Ok.at)) c.deref.ensures.value c.in-Ok.ensures in
    place-first n held known c.args.self.now kept c.args.frame c.in-Ok.at c.index-in-Ok.result.now c.index-known.result.now place
    c.index-in-Ok.ensures c.index-known.ensures

pub returns-in-Ok-clause-in_range : goal.returns-in-Ok-clause-in_range
returns-in-Ok-clause-in_range c =
    let n = (shown c.args.frames.now).count in
    let held = (shown c.args.frames.now).bytes in
    let place = subst (λ (row : List ℕ). IsPlace held row c.args.frame (Ok c.in-Ok.at)) c.deref.ensures.value c.in-Ok.ensures in
    let k = c.requires.kept in
    first-below n held k.0 c.args.self.now k.1 c.args.frame c.index-known.result.now
    (place-first n held k.0 c.args.self.now k.1 c.args.frame c.in-Ok.at c.index-in-Ok.result.now c.index-known.result.now place
    c.index-in-Ok.ensures c.index-known.ensures)

pub returns-in-Ok-clause-found : goal.returns-in-Ok-clause-found
returns-in-Ok-clause-found c = λ some known kept.
    let n = (shown c.args.frames.now).count in
    let held = (shown c.args.frames.now).bytes in
    let place = subst (λ (row : List ℕ). IsPlace held row c.args.frame (Ok c.in-Ok.at)) c.deref.ensures.value c.in-Ok.ensures in
    kept-noted n held known c.args.self.now kept _ c.args.frame c.index-known.result.now c.requires.in_range refl refl
    (place-first n held known c.args.self.now kept c.args.frame c.in-Ok.at c.index-in-Ok.result.now c.index-known.result.now place
    c.index-in-Ok.ensures c.index-known.ensures) some

pub returns-in-Ok-clause-kept : goal.returns-in-Ok-clause-kept
returns-in-Ok-clause-kept c = λ known kept.
    let n = (shown c.args.frames.now).count in
    let held = (shown c.args.frames.now).bytes in
    let place = subst (λ (row : List ℕ). IsPlace held row c.args.frame (Ok c.in-Ok.at)) c.deref.ensures.value c.in-Ok.ensures in
    let some = place-some n held known c.args.self.now kept c.args.frame c.in-Ok.at c.index-in-Ok.result.now c.index-known.result.now place
    c.index-in-Ok.ensures c.index-known.ensures in
    let first = place-first n held known c.args.self.now kept c.args.frame c.in-Ok.at c.index-in-Ok.result.now c.index-known.result.now place
    c.index-in-Ok.ensures c.index-known.ensures in
    kept-more n held known _ (kept-noted n held known c.args.self.now kept _ c.args.frame c.index-known.result.now c.requires.in_range refl refl first some)
    (c.args.frame, c.args.page) c.requires.in_range (ap is_some (sym first) ∙ some)

pub returns-in_ok-insert-in-Err-clause-first : goal.returns-in_ok-insert-in-Err-clause-first
returns-in_ok-insert-in-Err-clause-first c = λ known kept.
    let held = (shown c.args.frames.now).bytes in
    sym (place-none (shown c.args.frames.now).count held known c.args.self.now kept c.args.frame c.in-Err.at
    (subst (λ (row : List ℕ). IsPlace held row c.args.frame (Err c.in-Err.at)) c.deref.ensures.value c.in-Err.ensures))

pub returns-in_ok-insert-in-Err-clause-kept : goal.returns-in_ok-insert-in-Err-clause-kept
returns-in_ok-insert-in-Err-clause-kept c = λ known kept.
    let held = (shown c.args.frames.now).bytes in
    kept-added (shown c.args.frames.now).count held known c.args.self.now kept _ c.args.frame c.in-Err.at c.args.page c.requires.in_range
    (subst (λ (row : List ℕ). IsPlace held row c.args.frame (Err c.in-Err.at)) c.deref.ensures.value c.in-Err.ensures) refl
    c.in_ok-insert-in-Err.ensures.items
