use Rattle.std.proofs.Common.{◌≡◌, Ok, Result, of_z, to_z, w32, ap, refl, subst, sym, ◌∙◌, arith}
use Rattle.std.proofs.lemmas.Int.{ints}
use Rattle.std.specs.Prelude.{unwrap_or}
use Rattle.std.proofs.lemmas.Option.{slice_get_within}
use Rattle.av_swapcache.specs.Calls.{Answers}
use Rattle.av_swapcache.specs.Swap.{shown as shown_swap}
use Rattle.av_trace.specs.declared.command.Command.TheVariants.{Swapon}
use Rattle.av_plain.specs.Device.{seen_by}
use Rattle.av_step.specs.Step.{Does}
use Rattle.av_swap.specs.Swap.{on_answer}
use Rattle.av_step.proofs.StepLaws.{only_answer}
use Rattle.av_swapoff.proofs.CloseLaws.{with_swap}
use Rattle.av_swap.proofs.SwaponLaws.{refused-none-by, swapon-does}
use Rattle.av_swap.proofs.swap.swapon.Goals as goal

one_ok : {A E : Type 0} (r : Result A E) (x y : A) → r ≡ Ok x → r ≡ Ok y → x ≡ y
one_ok r x y is also = cc

pub returns-in_err-pages : goal.returns-in_err-pages
returns-in_err-pages g c =
    refused-none-by c.args.mem.now c.args.area c.args.priority _ c.in_err-pages.field-0.0 c.args.reply.now c.from_residual.result
    c.from_residual.ensures c.in_err-pages.ensures.1 (ap (λ sizes. unwrap_or (sizes c.args.area) 0) c.requires.attached ∙ c.in_err-pages.ensures.0)

pub swapon-requires-clause-number : goal.swapon-requires-clause-number
swapon-requires-clause-number g c =
    omega (arith, slice_get_within c.args.sizes.now c.args.area c.in_ok-pages.pages c.in_ok-pages.ensures.1, c.requires.few)

pub returns : goal.returns
returns g c =
    let dev = g.D.SwapDev in
    let old = c.args.dev.now in
    let new = c.swapon.new.dev in
    let k = c.args.mem.now in
    let later = with_swap k c.swapon.new.self in
    let did = c.in_ok-came.ensures in
    let fits : to_z w32 (of_z w32 c.priority_of.result) ≡ c.priority_of.result = omega (arith, ints) in
    let answers = subst (λ priority. Answers (dev.pages old) c.args.area c.in_ok-pages.pages priority c.in_ok-came.came
    (shown_swap k.swap) (shown_swap c.swapon.new.self)) (fits ∙ c.priority_of.ensures) did.answers in
    subst (λ reply. Does (seen_by dev.sizes dev.pages dev.failures dev.history old)
    (seen_by dev.sizes dev.pages dev.failures dev.history new) k later
    (Swapon c.args.area c.args.priority) (Ok reply)) (sym (c.answer_with.ensures
    ∙ ap (λ a. record c.args.reply.now { answer = a }) c.on_answer.ensures
    ∙ only_answer c.args.reply.now (on_answer c.in_ok-came.came) c.requires.cleared))
    (swapon-does (dev.sizes old) (dev.sizes new) (dev.pages old) (dev.pages new) (dev.failures old, dev.history old)
    (dev.failures new, dev.history new) did.same_sizes did.same_pages did.never_falls did.asked
    k c.swapon.new.self c.args.area c.in_ok-pages.pages c.args.priority
    (ap (λ sizes. sizes c.args.area) c.requires.attached ∙ c.in_ok-pages.ensures.1) c.in_ok-pages.ensures.0
    c.in_ok-came.came answers (λ e. did.cause (ap Ok e)) (λ other. did.unfailed (λ e. other (one_ok _ _ _ refl e))))
