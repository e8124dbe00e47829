use Rattle.std.proofs.Common.{◌≡◌, ◌++◌, take}
use Rattle.std.specs.List.{flat_map}
use Rattle.av_trace.specs.Reply.{labelled}
use Rattle.av_text.specs.Word.{field}
use Rattle.av_trace.proofs.reply.add_labels.Given as goal

abbrev pub invariant-loop-label : goal.invariant-loop-label
invariant-loop-label l = l.text ≡ l.initial.text ++ flat_map (λ x. field (labelled x.0.now x.1)) (take l.label-index l.labels)
