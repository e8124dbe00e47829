use Rattle.std.proofs.Common.{◌≡◌, true, sym, ap, subst, ◌∙◌}
use Rattle.av_frames.specs.Store.{shown, with_dirty}
use Rattle.av_fault.proofs.UsingLaws.{Marked, marked-kept, marked-set, marked_by, written-done}
use Rattle.av_fault.proofs.using.write_own.Goals as goal
use Rattle.av_fault.proofs.using.write_own.Goals.{then-not-settled, else-not-settled}

pub returns-then-cached-clause-written : goal.returns-then-cached-clause-written
returns-then-cached-clause-written c = λ d w r l h alone still.
    let old = c.args.mem.now in
    let key = c.args.key in
    let f = c.args.frame in
    let here = c.requires.here in
    let marked : Marked old c.if-not-settled.mem key.0 key.1 f = elim c.if-not-settled.branch [
      | then-not-settled w ↦ subst (λ k. Marked old k key.0 key.1 f) (sym w.mem-is)
          (marked-set old w.change.new.self key.0 key.1 f w.accessed_entry.result w.accessed_entry.ensures w.change.ensures.sets
          w.change.ensures.processes)
      | else-not-settled w ↦ subst (λ k. Marked old k key.0 key.1 f) (sym w.mem-is)
          (let is = here.marked w.if-not-settled.false in marked-kept old key.0 key.1 f here.write here.seen here.there is.0 is.1)
    ] in
    written-done old c.if-not-settled.mem key f c.args.home c.args.cached c.set_dirty.new.self marked
    (subst (λ b. shown c.set_dirty.new.self ≡ marked_by b f c.args.home (shown c.if-not-settled.mem.frames)) (sym c.if-cached.true)
    (c.set_dirty.ensures ∙ ap (with_dirty f true) c.set_home.ensures))
    d w r l c.args.settled here c.requires.home h alone still

pub returns-then-cached-clause-here : goal.returns-then-cached-clause-here
returns-then-cached-clause-here c =
    let old = c.args.mem.now in
    let key = c.args.key in
    let f = c.args.frame in
    let here = c.requires.here in
    let marked : Marked old c.if-not-settled.mem key.0 key.1 f = elim c.if-not-settled.branch [
      | then-not-settled w ↦ subst (λ k. Marked old k key.0 key.1 f) (sym w.mem-is)
          (marked-set old w.change.new.self key.0 key.1 f w.accessed_entry.result w.accessed_entry.ensures w.change.ensures.sets
          w.change.ensures.processes)
      | else-not-settled w ↦ subst (λ k. Marked old k key.0 key.1 f) (sym w.mem-is)
          (let is = here.marked w.if-not-settled.false in marked-kept old key.0 key.1 f here.write here.seen here.there is.0 is.1)
    ] in
    marked.there

pub returns-else-cached-clause-written : goal.returns-else-cached-clause-written
returns-else-cached-clause-written c = λ d w r l h alone still.
    let old = c.args.mem.now in
    let key = c.args.key in
    let f = c.args.frame in
    let here = c.requires.here in
    let marked : Marked old c.if-not-settled.mem key.0 key.1 f = elim c.if-not-settled.branch [
      | then-not-settled w ↦ subst (λ k. Marked old k key.0 key.1 f) (sym w.mem-is)
          (marked-set old w.change.new.self key.0 key.1 f w.accessed_entry.result w.accessed_entry.ensures w.change.ensures.sets
          w.change.ensures.processes)
      | else-not-settled w ↦ subst (λ k. Marked old k key.0 key.1 f) (sym w.mem-is)
          (let is = here.marked w.if-not-settled.false in marked-kept old key.0 key.1 f here.write here.seen here.there is.0 is.1)
    ] in
    written-done old c.if-not-settled.mem key f c.args.home c.args.cached c.set_home.new.self marked
    (subst (λ b. shown c.set_home.new.self ≡ marked_by b f c.args.home (shown c.if-not-settled.mem.frames)) (sym c.if-cached.false)
    (c.set_home.ensures))
    d w r l c.args.settled here c.requires.home h alone still

pub returns-else-cached-clause-here : goal.returns-else-cached-clause-here
returns-else-cached-clause-here c =
    let old = c.args.mem.now in
    let key = c.args.key in
    let f = c.args.frame in
    let here = c.requires.here in
    let marked : Marked old c.if-not-settled.mem key.0 key.1 f = elim c.if-not-settled.branch [
      | then-not-settled w ↦ subst (λ k. Marked old k key.0 key.1 f) (sym w.mem-is)
          (marked-set old w.change.new.self key.0 key.1 f w.accessed_entry.result w.accessed_entry.ensures w.change.ensures.sets
          w.change.ensures.processes)
      | else-not-settled w ↦ subst (λ k. Marked old k key.0 key.1 f) (sym w.mem-is)
          (let is = here.marked w.if-not-settled.false in marked-kept old key.0 key.1 f here.write here.seen here.there is.0 is.1)
    ] in
    marked.there
