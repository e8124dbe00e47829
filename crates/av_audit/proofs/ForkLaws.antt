-- Units of `fork`.
use Rattle.std.proofs.Common.{◌≡◌, ℕ, ◌<◌, Bool, true, false, cond, List, [], None, refl, sym, ap, ◌∙◌, arith, length, append_assoc, append-nil}
use Rattle.std.specs.Prelude.{◌∷◌, ◌++◌, filter, is_some, map}
use Rattle.av_base.specs.Keys.{Key}
use Rattle.av_trace.specs.declared.command.Command.TheVariants.{Fork}
use Rattle.av_trace.specs.declared.reply.Answer.TheVariants.{Done}
use Rattle.av_plain.specs.Event.{Forked, after_fork}
use Rattle.av_plain.specs.Fork.{goes_over, inheritance}
use Rattle.av_plain.specs.Ledger.{Ledger, Setting}
use Rattle.av_plain.specs.Refusal.{refusal, tests}
use Rattle.av_plain.specs.World.{Process, World, child_of, pages, set_process}
use Rattle.av_audit_judge.specs.Says.{SaysOnly}
use Rattle.av_audit_world.specs.Memories.{IsWorld}
use Rattle.av_audit_world.specs.declared.memories.Memories.{Memories}
use Rattle.av_audit.specs.Judge.{IsLeftAt}
use Rattle.av_audit.proofs.KnownUnits.{known-said}

-- the pages of those keys whose entries go over
abbrev pub heir_pages : Process → List Key → List ℕ
heir_pages q ks = map (λ (k : Key). k.1) (filter (λ k. goes_over (q k.1)) ks)

-- a first key's page is one of them, or isn't
pub heir-goes : (q : Process) (made new : List ℕ) (rest more : List Key) (k : Key) (whole : List ℕ) → k ∷ more ≡ rest
    → true ≡ goes_over (q k.1) → new ≡ made ++ k.1 ∷ [] → made ++ heir_pages q rest ≡ whole → new ++ heir_pages q more ≡ whole
heir-goes q made new rest more k whole is goes pushed h =
    ap (λ xs. xs ++ heir_pages q more) pushed ∙ append_assoc made (k.1 ∷ []) (heir_pages q more)
    ∙ ap (λ b. made ++ map (λ (k : Key). k.1) (cond b (k ∷ filter (λ k. goes_over (q k.1)) more) (filter (λ k. goes_over (q k.1)) more))) goes
    ∙ ap (λ ks. made ++ heir_pages q ks) is ∙ h

pub heir-stays : (q : Process) (made : List ℕ) (rest more : List Key) (k : Key) (whole : List ℕ) → k ∷ more ≡ rest
    → false ≡ goes_over (q k.1) → made ++ heir_pages q rest ≡ whole → made ++ heir_pages q more ≡ whole
heir-stays q made rest more k whole is goes h =
    ap (λ b. made ++ map (λ (k : Key). k.1) (cond b (k ∷ filter (λ k. goes_over (q k.1)) more) (filter (λ k. goes_over (q k.1)) more))) goes
    ∙ ap (λ ks. made ++ heir_pages q ks) is ∙ h

pub heir-none : (made rest whole : List ℕ) → made ≡ [] → rest ≡ whole → made ++ rest ≡ whole
heir-none made rest whole none is = ap (λ xs. xs ++ rest) none ∙ is

pub heir-all : (q : Process) (made whole : List ℕ) (rest : List Key) → length rest < 1 → made ++ heir_pages q rest ≡ whole → made ≡ whole
heir-all q made whole [] none h = sym (append-nil made) ∙ h
heir-all q made whole (k ∷ ks) none h = absurd (omega (arith, none))

pub fork-said : (m : Setting) (w : World) (l l' : Ledger) (p q : ℕ) (unit : List ℕ) (legal : Bool) (memories : Memories)
    → is_some m.headers ≡ true → refusal (tests m w l (Fork p q)) ≡ None → SaysOnly legal unit Done
    → (legal ≡ true → l' ≡ after_fork p q (inheritance (pages w p) l p) l)
    → (legal ≡ true → IsWorld memories (set_process w q (child_of (pages w p))))
    → IsLeftAt m w l (Fork p q) unit legal l' memories
fork-said m w l l' p q unit true memories told none says after at =
    known-said m w l (Fork p q) Done (Forked p q (inheritance (pages w p) l p) ∷ []) unit true l' memories told
    (record { no_test = none; only = λ es answer rows h. h; does = (refl, refl, refl); notes = refl })
    (record { answer = tt; rest = (tt, refl) }) (record { says = says; form = tt; after = after refl }) at
fork-said m w l l' p q unit false memories told none says after at =
    known-said m w l (Fork p q) Done (Forked p q (inheritance (pages w p) l p) ∷ []) unit false (after_fork p q (inheritance (pages w p) l p) l) memories told
    (record { no_test = none; only = λ es answer rows h. h; does = (refl, refl, refl); notes = refl })
    (record { answer = tt; rest = (tt, refl) }) (record { says = says; form = tt; after = refl }) at
