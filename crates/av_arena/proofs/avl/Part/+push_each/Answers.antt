use Rattle.std.proofs.Common.{◌≡◌, ℕ, ◌<◌, List, [], ◌∷◌, ◌++◌, append_assoc, length, length-append, sym, ap, ◌∙◌, subst, arith}
use Rattle.std.specs.Result.{OnOk}
use Rattle.av_arena.specs.Avl.{IsLonger}
use Rattle.av_arena.proofs.avl.Part.+push_each.Goals as goal

shorter : {A : Type 0} (l : List A) (x : A) (r xs : List A) (t : ℕ) → xs ≡ l ++ x ∷ r → length xs ≡ t → (length l < t) × (length r < t)
shorter l x r xs t e d = let h = ap length e in let a = length-append l (x ∷ r) in (omega arith, omega arith)

longer : {A : Type 0} (xs ys zs : List A) → IsLonger xs ys → IsLonger ys zs → IsLonger xs zs
longer xs ys zs a b = record { rest = a.rest ++ b.rest; is = b.is ∙ (ap (λ l. l ++ b.rest) a.is ∙ append_assoc xs a.rest b.rest) }

pushed : {A : Type 0} (a b c l r xs : List A) (x : A) → b ≡ a ++ l → c ≡ b ++ x ∷ [] → xs ≡ l ++ x ∷ r → c ++ r ≡ a ++ xs
pushed a b c l r xs x p q e = rw (q, p, e) (simp append_assoc)

pub push_each-requires : goal.push_each-requires
push_each-requires g t c κs within = ((shorter _ _ _ _ t c.in-Some.ensures.parts.entries c.decreases).0, within)

pub push_each-requires-2 : goal.push_each-requires-2
push_each-requires-2 g t c κs within = ((shorter _ _ _ _ t c.in-Some.ensures.parts.entries c.decreases).1, within)

pub returns-in_err-push-clause-longer : goal.returns-in_err-push-clause-longer
returns-in_err-push-clause-longer g t c = subst (IsLonger c.args.entries.now.items) (sym c.in_err-push.ensures.items) c.push_each.ensures.longer

pub returns-clause-all : goal.returns-clause-all
returns-clause-all g t c = subst (λ xs. OnOk c.push_each-2.result (c.push_each-2.new.entries.items ≡ xs))
    (pushed _ _ _ _ _ _ _ c.in_ok-push_each.ensures.all c.in_ok-push.ensures.items c.in-Some.ensures.parts.entries) c.push_each-2.ensures.all

pub returns-clause-longer : goal.returns-clause-longer
returns-clause-longer g t c =
    longer _ _ _ c.push_each.ensures.longer (longer _ _ _ (record { rest = _; is = c.in_ok-push.ensures.items }) c.push_each-2.ensures.longer)
