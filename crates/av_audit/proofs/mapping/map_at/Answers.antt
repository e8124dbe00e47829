use Rattle.std.proofs.Common.{Some, subst, sym}
use Rattle.std.proofs.lemmas.Result.{on_ok_weaker}
use Rattle.av_base.specs.Page.{pages_of}
use Rattle.av_plain.specs.World.{pages, set_process, with_pages, zeros}
use Rattle.av_plain.specs.Step.{next}
use Rattle.av_trace.specs.declared.command.Command.TheVariants.{Mmap}
use Rattle.av_audit_world.specs.Memories.{IsWorld}
use Rattle.av_audit.specs.Known.{map_answer}
use Rattle.av_audit.proofs.KnownUnits.{page-again}
use Rattle.av_audit.proofs.mapping.map_at.Goals as goal

pub returns-in-Some : goal.returns-in-Some
returns-in-Some c = on_ok_weaker c.edit.result (λ h w place at alive.
    let p = c.args.process in
    let q = pages w p in
    subst (λ to. IsWorld c.edit.new.self (next w (Mmap p c.args.length c.args.prot place) (map_answer to))) (sym c.in-Some.is)
    (subst (λ from. IsWorld c.edit.new.self (set_process w p (with_pages q from (pages_of c.args.length) (λ _. Some (zeros c.args.prot)))))
    (sym (page-again c.in-Some.from))
    (subst (λ n. IsWorld c.edit.new.self (set_process w p (with_pages q c.in-Some.from n (λ _. Some (zeros c.args.prot))))) c.pages_of-n.ensures.pages
    (h w at alive)))) c.edit.ensures
