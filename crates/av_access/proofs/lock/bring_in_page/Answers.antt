-- A page that may be accessed is served or stops; another is passed over.
use Rattle.std.proofs.Common.{Ok, Err, sym, ◌∙◌}
use Rattle.std.specs.Prelude.{IfOk, Result}
use Rattle.av_plain.proofs.Wrote.{device-itself}
use Rattle.av_access.proofs.LockTurns.{came_in, passed_over}
use Rattle.av_access.proofs.lock.bring_in_page.Goals as goal

if_ok : {A E : Type 0} {P Q : A → Type 0} (r : Result A E) → ((x : A) → P x → Q x) → IfOk r P → IfOk r Q
if_ok (Ok x) f h = f x h
if_ok (Err e) f h = tt

pub returns-in-Some-clause-in_turn : goal.returns-in-Some-clause-in_turn
returns-in-Some-clause-in_turn g c = λ s keeps. if_ok c.serve_page.result
    (λ stop h. came_in s c.args.mem.now c.serve_page.new.mem c.in-Some.write c.args.process c.args.page c.args.notes.now c.serve_page.new.notes stop keeps
    (sym c.in-Some.is ∙ c.allowed_access.ensures) h) (c.serve_page.ensures.step s keeps)

pub returns-in-None-clause-in_turn : goal.returns-in-None-clause-in_turn
returns-in-None-clause-in_turn g c = λ s keeps. passed_over s c.args.mem.now c.args.process c.args.page c.args.notes.now keeps
    (sym c.in-None.is ∙ c.allowed_access.ensures)

pub returns-in-None-clause-same : goal.returns-in-None-clause-same
returns-in-None-clause-same g c = device-itself _
