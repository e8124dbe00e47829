-- A fork leaves one: the parent's areas are one list, and the member that is had again is the lowest.
use Rattle.std.proofs.Common.{◌≡◌, ℕ, List, [], ◌∷◌, Option, Some, None, refl, sym, ap, subst, ◌∙◌, arith}
use Rattle.av_base.specs.Words.{with_at}
use Rattle.av_trace.specs.declared.command.Command.{Command}
use Rattle.av_trace.specs.declared.command.Command.TheVariants.{Fork}
use Rattle.av_trace.specs.declared.reply.Answer.{Answer}
use Rattle.av_trace.specs.declared.reply.Answer.TheVariants.{Done}
use Rattle.av_vma.specs.Fork.{areas_to_fork, own_to_fork}
use Rattle.av_vma.specs.declared.area.Area.{Area}
use Rattle.av_plain.specs.Areas.{AreLeft, AreNext, Rmap, chain_by, none_on}
use Rattle.av_plain.specs.Fork.{AreForked, GoOver, GoesBy, IsReused, IsRmapDone, IsRmapNext, own_of_child, with_child, with_child_area}
use Rattle.av_plain.specs.World.{World}
use Rattle.av_plain.proofs.AreasLeft.{left-one}
use Rattle.av_plain.proofs.Report.Areas.{one_list}

reused-one : (r : Rmap) (chain : List ℕ) (a b : Option ℕ) → IsReused r chain a → IsReused r chain b → a ≡ b
reused-one r chain None None h g = refl
reused-one r chain None (Some v) h g = absurd (h v g.0 g.1)
reused-one r chain (Some v) None h g = absurd (g v h.0 h.1)
reused-one r chain (Some v) (Some w) h g = let under = h.2 w g.0 g.1 in let over = g.2 v h.0 h.1 in
    let same : v ≡ w = omega (arith, under, over) in ap Some same

goes-one : (own : Option ℕ) (q : ℕ) (area : Area) (r x y : Rmap) → GoesBy own q area r x → GoesBy own q area r y → x ≡ y
goes-one None q area r x y h g = h ∙ sym g
goes-one (Some own) q area r x y h g = h.2
    ∙ ap (λ reused. record (with_child_area q (Some (own_of_child r.anons reused)) area r)
    { anons = with_child own reused r.anons })
    (reused-one r (chain_by r.anons (Some own)) h.0 g.0 h.1 g.1)
    ∙ sym g.2

over-one : (q : ℕ) (areas : List Area) (r x y : Rmap) → GoOver q areas r x → GoOver q areas r y → x ≡ y
over-one q [] r x y h g = h ∙ sym g
over-one q (area ∷ areas) r x y (mid, first, later) (mid', first', later') =
    let same = goes-one (own_to_fork area) q area r mid mid' first first' in
    over-one q areas mid x y later (subst (λ mid. GoOver q areas mid y) (sym same) later')

pub forked-one : (p q : ℕ) (r x y : Rmap) → AreForked p q r x → AreForked p q r y → x ≡ y
forked-one p q r x y (areas, rise, on, goes) (areas', rise', on', goes') =
    let same = one_list areas areas' rise rise' (λ page. on page ∙ sym (on' page)) in
    over-one q (areas_to_fork areas) (record r { areas = with_at q none_on r.areas }) x y goes
    (subst (λ areas. GoOver q (areas_to_fork areas) (record r { areas = with_at q none_on r.areas }) y) (sym same) goes')

plain-one : (now : Rmap) (w : World) (command : Command) (answer : Answer) (x y : Rmap) → AreNext now w command answer x →
    AreNext now w command answer y → x ≡ y
plain-one now w command answer x y h g =
    let areas = h.areas ∙ sym g.areas in
    let anons = left-one now.anons y.areas x.anons y.anons (subst (λ on. AreLeft now.anons on x.anons) areas h.anons) g.anons in
    let homes = h.homes ∙ sym g.homes in
    let items = h.items ∙ sym g.items in
    λ i. record { areas = areas i; anons = anons i; homes = homes i; items = items i }

-- so do all commands
pub next-one : (now : Rmap) (w : World) (command : Command) (answer : Answer) (x y : Rmap) → IsRmapNext now w command answer x →
    IsRmapNext now w command answer y → x ≡ y
next-one now w command Done x y h g = done command h g
  where
    done : (command : Command) → IsRmapDone now w command x → IsRmapDone now w command y → x ≡ y
    done (Fork p q) h g = forked-one p q now x y h g
    done command h g = plain-one now w command Done x y h g
next-one now w command answer x y h g = plain-one now w command answer x y h g
