use Rattle.std.proofs.Common.{◌≡◌, ◌∙◌, ap, ap₂, rules}
use Rattle.std.proofs.lemmas.Result.{IfOk-weaker}
use Rattle.clap.specs.Words.{App, app_of, with_subcommand}
use Rattle.clap.proofs.SimpleLemmas.{plain_fields}
use Rattle.av_words.specs.Command.{bare_app}
use Rattle.av_words.proofs.command.program_command.Goals as goal

pub returns : goal.returns
returns c =
    let run_local = (plain_fields c.in_ok-frames_command.field-0 (ap (λ (a : App). a.top.is_plain) c.in_ok-frames_command.ensures)).globals in
    let work_local = (plain_fields c.in_ok-work_command.field-0 (ap (λ (a : App). a.top.is_plain) c.in_ok-work_command.ensures)).globals in
    let audit_local = (plain_fields c.in_ok-frames_command-2.field-0 (ap (λ (a : App). a.top.is_plain) c.in_ok-frames_command-2.ensures)).globals in
    let bare : app_of c.subcommand_required.result ≡ bare_app = search rules in
    let top = λ (a : App). a.top in
    IfOk-weaker c.subcommand-3.result _ _ (λ r adds. adds.shape audit_local
    ∙ ap₂ with_subcommand (c.in_ok-subcommand-2.ensures.shape work_local
    ∙ ap₂ with_subcommand (c.in_ok-subcommand.ensures.shape run_local ∙ ap₂ with_subcommand bare (ap top c.in_ok-frames_command.ensures))
    (ap top c.in_ok-work_command.ensures)) (ap top c.in_ok-frames_command-2.ensures)) c.subcommand-3.ensures
