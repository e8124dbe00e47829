use Rattle.std.proofs.Common.{◌≡◌, Some, None, true, false, is_some, length, map, refl, sym, ap, ◌∙◌, arith}
use Rattle.av_io.specs.Source.{SourceView}
use Rattle.av_plain.specs.Device.{seen_by}
use Rattle.av_replay.specs.Replay.{can_go_on, all_lines}
use Rattle.av_replay.proofs.Loads.{goes-on-attached, goes-on-done, loaded-over, never-attaches, never-misused, stopped, summed, wanting}
use Rattle.av_replay.proofs.work_over.work_over.Goals as goal
use Rattle.std.proofs.lemmas.List.{length-map}
use Rattle.av_replay.specs.Work.{load_lines}

pub returns-in_default-clause-worked : goal.returns-in_default-clause-worked
returns-in_default-clause-worked g c = λ other.
    let a = c.args in
    let o = c.run_over-status in
    let names = map (λ name. name.now) a.names.now in
    let many : length names ≡ length a.names.now = length-map a.names.now (λ name. name.now) in
    let d = seen_by g.D.SwapDev.sizes g.D.SwapDev.pages g.D.SwapDev.failures g.D.SwapDev.history in
    let stops : false ≡ can_go_on o.result.status = sym (ap is_some c.in_default.is) ∙ o.ensures.kernel in
    let replays = rw c.in_default.is at o.ensures.replayed other in
    wanting a.frames a.seed a.lines names o.result.status (g.K.Sink.view a.sink.now) (d a.dev.now) (d o.new.dev) None
    (stopped o.result.status stops)
    (loaded-over a.frames a.seed a.lines names o.result.status _ _ None (omega (arith, many, c.requires.few)) c.requires.lines
    (ap (λ (s : SourceView). s.left) c.new-source.ensures
    ∙ ap (λ n. Some (all_lines (load_lines n a.seed a.lines))) (sym many)) refl refl refl refl replays)

pub returns-clause-worked : goal.returns-clause-worked
returns-clause-worked g c = λ other.
    let a = c.args in
    let o = c.run_over-status in
    let names = map (λ name. name.now) a.names.now in
    let many : length names ≡ length a.names.now = length-map a.names.now (λ name. name.now) in
    let d = seen_by g.D.SwapDev.sizes g.D.SwapDev.pages g.D.SwapDev.failures g.D.SwapDev.history in
    let k = c.in-Some.kernel in
    let sum = c.sum_up_over-status in
    let goes : true ≡ can_go_on o.result.status = sym (ap is_some c.in-Some.is) ∙ o.ensures.kernel in
    let replays = rw c.in-Some.is at o.ensures.replayed (goes-on-attached o.result.status goes) in
    let over = loaded-over a.frames a.seed a.lines names o.result.status _ _ (Some k) (omega (arith, many, c.requires.few)) c.requires.lines
    (ap (λ (s : SourceView). s.left) c.new-source.ensures
    ∙ ap (λ n. Some (all_lines (load_lines n a.seed a.lines))) (sym many)) refl refl refl refl replays in
    rw (c.hand_back.ensures.status, c.hand_back.ensures.kernel) (summed a.frames a.seed a.lines _ names o.result.status sum.result
    (g.K.Sink.view a.sink.now) _ (d a.dev.now) (d o.new.dev) _ k (goes-on-done o.result.status goes over.does.ends) (omega (arith, many, c.from.ensures))
    sum.ensures.same over sum.ensures.sums)

pub returns-clause-begun : goal.returns-clause-begun
returns-clause-begun g c = λ usage.
    let a = c.args in
    let o = c.run_over-status in
    let sum = c.sum_up_over-status in
    let names = map (λ name. name.now) a.names.now in
    let many : length names ≡ length a.names.now = length-map a.names.now (λ name. name.now) in
    let goes : true ≡ can_go_on o.result.status = sym (ap is_some c.in-Some.is) ∙ o.ensures.kernel in
    let replays = rw c.in-Some.is at o.ensures.replayed (goes-on-attached o.result.status goes) in
    let over = loaded-over a.frames a.seed a.lines names o.result.status _ _ (Some c.in-Some.kernel) (omega (arith, many, c.requires.few)) c.requires.lines
    (ap (λ (s : SourceView). s.left) c.new-source.ensures
    ∙ ap (λ n. Some (all_lines (load_lines n a.seed a.lines))) (sym many)) refl refl refl refl replays in
    never-misused sum.result _ _ _ (sum.ensures.sums over.does.run.state over.does.handed_back.stands)
    (sym c.hand_back.ensures.status ∙ usage)

pub returns-clause-fault : goal.returns-clause-fault
returns-clause-fault g c = λ fault.
    let a = c.args in
    let o = c.run_over-status in
    let sum = c.sum_up_over-status in
    let names = map (λ name. name.now) a.names.now in
    let many : length names ≡ length a.names.now = length-map a.names.now (λ name. name.now) in
    let goes : true ≡ can_go_on o.result.status = sym (ap is_some c.in-Some.is) ∙ o.ensures.kernel in
    let replays = rw c.in-Some.is at o.ensures.replayed (goes-on-attached o.result.status goes) in
    let over = loaded-over a.frames a.seed a.lines names o.result.status _ _ (Some c.in-Some.kernel) (omega (arith, many, c.requires.few)) c.requires.lines
    (ap (λ (s : SourceView). s.left) c.new-source.ensures
    ∙ ap (λ n. Some (all_lines (load_lines n a.seed a.lines))) (sym many)) refl refl refl refl replays in
    absurd (never-attaches sum.result _ _ _ (sum.ensures.sums over.does.run.state over.does.handed_back.stands)
    (sym c.hand_back.ensures.status ∙ fault))

pub returns-clause-fewer : goal.returns-clause-fewer
returns-clause-fewer g c = λ fault.
    let a = c.args in
    let o = c.run_over-status in
    let sum = c.sum_up_over-status in
    let names = map (λ name. name.now) a.names.now in
    let many : length names ≡ length a.names.now = length-map a.names.now (λ name. name.now) in
    let goes : true ≡ can_go_on o.result.status = sym (ap is_some c.in-Some.is) ∙ o.ensures.kernel in
    let replays = rw c.in-Some.is at o.ensures.replayed (goes-on-attached o.result.status goes) in
    let over = loaded-over a.frames a.seed a.lines names o.result.status _ _ (Some c.in-Some.kernel) (omega (arith, many, c.requires.few)) c.requires.lines
    (ap (λ (s : SourceView). s.left) c.new-source.ensures
    ∙ ap (λ n. Some (all_lines (load_lines n a.seed a.lines))) (sym many)) refl refl refl refl replays in
    absurd (never-attaches sum.result _ _ _ (sum.ensures.sums over.does.run.state over.does.handed_back.stands)
    (sym c.hand_back.ensures.status ∙ fault))
