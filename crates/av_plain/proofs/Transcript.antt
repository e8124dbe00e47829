-- A transcript goes on by one reply; and what there is of areas, anon_vmas and homes after a reply.
use Rattle.std.proofs.Common.{◌≡◌, ◌⊎◌, inl, inr, ℕ, Bool, true, false, List, [], ◌∷◌, ◌++◌, refl, subst}
use Rattle.av_trace.specs.declared.command.Command.{Command}
use Rattle.av_trace.specs.declared.command.Command.TheVariants.{Fork}
use Rattle.av_trace.specs.declared.reply.Answer.{Answer}
use Rattle.av_trace.specs.declared.reply.Answer.TheVariants.{Done}
use Rattle.av_plain.specs.World.{World}
use Rattle.av_plain.specs.Ledger.{Ledger, Setting}
use Rattle.av_plain.specs.Areas.{AreNext, Rmap}
use Rattle.av_plain.specs.Event.{Event, after_all}
use Rattle.av_plain.specs.Fork.{AreForked, IsRmapDone, IsRmapNext}
use Rattle.av_plain.specs.Step.{IsLegal, next_world}
use Rattle.av_plain.specs.Transcript.{Exchange, IsLegalFrom, State, IsStep, IsRun}

pub legal-push : (m : Setting) (w : World) (l : Ledger) (steps : List Exchange) (w1 : World) (l1 : Ledger) (e : Exchange) (events : List Event)
    → IsLegalFrom m w l steps w1 l1 → IsLegal m w1 l1 e.command e.reply events
    → IsLegalFrom m w l (steps ++ e ∷ []) (next_world m w1 l1 events e.command e.reply.answer) (after_all l1 events)
legal-push m w l [] w1 l1 e events h step = (
  events,
  subst (λ x. IsLegal m x l e.command e.reply events) h.0 (subst (λ y. IsLegal m w1 y e.command e.reply events) h.1 step),
  ((λ i. next_world m (h.0 i) (h.1 i) events e.command e.reply.answer), (λ i. after_all (h.1 i) events)),
)
legal-push m w l (s ∷ steps) w1 l1 e events h step = (
  h.0,
  h.1,
  legal-push m (next_world m w l h.0 s.command s.reply.answer)
      (after_all l h.0) steps w1 l1 e events h.2 step,
)

pub run-push : (m : Setting) (old : State) (steps : List Exchange) (mid : State) (e : Exchange) (new : State)
    → IsRun m old steps mid → IsStep m mid e.command e.reply new → IsRun m old (steps ++ e ∷ []) new
run-push m old [] mid e new h step = (new, subst (λ s. IsStep m s e.command e.reply new) h step, refl)
run-push m old (s ∷ steps) mid e new h step = (h.0, h.1, run-push m h.0 steps mid e new h.2 step)

-- ---- areas, anon_vmas and homes

abbrev pub is_fork : Command → Bool
is_fork (Fork p q) = true
is_fork command = false

-- after any other command they are those that the areas leave
pub next-plain : (now : Rmap) (w : World) (command : Command) (answer : Answer) (next : Rmap) → is_fork command ≡ false
    → AreNext now w command answer next →
    IsRmapNext now w command answer next
next-plain now w command Done next other h = done command other h
  where
    done : (command : Command) → is_fork command ≡ false → AreNext now w command Done next → IsRmapDone now w command next
    done (Fork p q) other h = cc
    done command other h = h
next-plain now w command answer next other h = h

-- whether a fork was done
abbrev pub is_forked : Command → Answer → Bool
is_forked command Done = is_fork command
is_forked command answer = false

-- so it is after one that was refused
pub next-unforked : (now : Rmap) (w : World) (command : Command) (answer : Answer) (next : Rmap) → is_forked command answer ≡ false →
    AreNext now w command answer next → IsRmapNext now w command answer next
next-unforked now w command Done next other h = next-plain now w command Done next other h
next-unforked now w command answer next other h = h

-- and no others
pub plain-next : (now : Rmap) (w : World) (command : Command) (answer : Answer) (next : Rmap) → is_fork command ≡ false
    → IsRmapNext now w command answer next →
    AreNext now w command answer next
plain-next now w command Done next other h = done command other h
  where
    done : (command : Command) → is_fork command ≡ false → IsRmapDone now w command next → AreNext now w command Done next
    done (Fork p q) other h = cc
    done command other h = h
plain-next now w command answer next other h = h

-- a fork was done
pub record IsFork (now : Rmap) (command : Command) (answer : Answer) (next : Rmap) : Type 0 where
  pub parent : ℕ
  pub child : ℕ
  pub command_is : command ≡ Fork parent child
  pub answer_is : answer ≡ Done
  pub forked : AreForked parent child now next

-- none was: then they are those that the areas leave
pub record IsPlain (now : Rmap) (w : World) (command : Command) (answer : Answer) (next : Rmap) : Type 0 where
  pub other : (p q : ℕ) → command ≡ Fork p q → answer ≡ Done → ⊥
  pub is : AreNext now w command answer next

-- either one was, or none
pub next-cases : (now : Rmap) (w : World) (command : Command) (answer : Answer) (next : Rmap) → IsRmapNext now w command answer next →
    IsPlain now w command answer next ⊎ IsFork now command answer next
next-cases now w command Done next h = done command h
  where
    done : (command : Command) → IsRmapDone now w command next → IsPlain now w command Done next ⊎ IsFork now command Done next
    done (Fork p q) h = inr (record { parent = p; child = q; command_is = refl; answer_is = refl; forked = h })
    done command h = inl (record { other = λ p q e d. cc; is = h })
next-cases now w command answer next h = inl (record { other = λ p q e d. cc; is = h })
