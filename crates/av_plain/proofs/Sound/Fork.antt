-- Soundness after a fork.
use Rattle.std.proofs.Common.{◌≡◌, ℕ, Bool, List, true, false, cond, Option, Some, None, option_map, refl, sym, ap, subst, ◌∙◌, arith, ◌==◌}
use Rattle.std.proofs.lemmas.Bool.Decides.{nat_tests}
use Rattle.std.specs.Option.{option_or}
use Rattle.av_plain.specs.Event.{put_all, without_seen}
use Rattle.av_plain.specs.Ledger.{Entry, InFrame, InSlot, Ledger, Setting, Zero, entry}
use Rattle.av_plain.specs.Sound.{IsSound, name_one}
use Rattle.av_plain.proofs.Event.{is_sorted-put_all, put_all-only}
use Rattle.av_plain.proofs.Fork.{copies, entry-forked, child_ledger, going, handed, handed-is, forked-is, frames-grow, slots-grow}
use Rattle.av_plain.proofs.Sound.Cache.{back}
use Rattle.av_plain.proofs.Sound.There.{NoNew, less}

name_one-unseen : (l : Ledger) (d e : Entry) → name_one l (without_seen d) (without_seen e) ≡ name_one l d e
name_one-unseen l Zero e = refl
name_one-unseen l (InFrame i v) Zero = refl
name_one-unseen l (InFrame i v) (InFrame j u) = refl
name_one-unseen l (InFrame i v) (InSlot t) = refl
name_one-unseen l (InSlot r) Zero = refl
name_one-unseen l (InSlot r) (InFrame j u) = refl
name_one-unseen l (InSlot r) (InSlot t) = refl

-- the child has no entries before
module _ (m : Setting) (l : Ledger) (p q : ℕ) (goes : List ℕ) (s : IsSound m l) (none : (page : ℕ) → entry l (q, page) ≡ None) where
  -- the ledger then, with its entries put in
  abbrev then : Ledger
  then = put_all (copies p q (going goes l.entries)) l

  -- an entry of the child is one of the parent
  child : (r : ℕ) → (r == q) ≡ true → (a : ℕ) (d : Entry) → option_or (option_map without_seen (handed goes p l a)) (entry l (r, a)) ≡ Some d →
      option_map without_seen (handed goes p l a) ≡ Some d
  child r is a d at = sym (or_none (option_map without_seen (handed goes p l a))) ∙ ap (option_or (option_map without_seen (handed goes p l a)))
      (sym (ap (λ x. entry l (x, a)) (same r q is) ∙ none a)) ∙ at
    where
      same : (a b : ℕ) → (a == b) ≡ true → a ≡ b
      same a b h = grind (arith, nat_tests, h)

      or_none : (o : Option Entry) → option_or o None ≡ o
      or_none None = refl
      or_none (Some x) = refl

  one_each : (r a b : ℕ) (d e : Entry) → entry then (r, a) ≡ Some d → entry then (r, b) ≡ Some e → name_one l d e ≡ true → a ≡ b
  one_each r a b d e at at' related = by (r == q) refl (found a d at) (found b e at')
    where
      found : (a : ℕ) (d : Entry) → entry then (r, a) ≡ Some d → option_or (cond (r == q) (option_map without_seen (handed goes p l a)) None)
          (entry l (r, a)) ≡ Some d
      found a d at = sym (entry-forked p q goes l (r, a) s.in_order) ∙ ap (λ l. entry l (r, a)) (forked-is p q goes l) ∙ at

      by : (c : Bool) → (r == q) ≡ c → option_or (cond c (option_map without_seen (handed goes p l a)) None) (entry l (r, a)) ≡ Some d →
          option_or (cond c (option_map without_seen (handed goes p l b)) None) (entry l (r, b)) ≡ Some e → a ≡ b
      by true is g g' =
          let u = back without_seen (handed goes p l a) d (child r is a d g) in
          let v = back without_seen (handed goes p l b) e (child r is b e g') in
          s.one p a b u.0 v.0 (handed-is goes p l a u.0 u.1) (handed-is goes p l b v.0 v.1) (sym (name_one-unseen l u.0 v.0) ∙ (λ i. name_one l (u.2 i) (v.2 i)) ∙ related)
      by false is g g' = s.one r a b d e g g' related

  sound-then : IsSound m (record l { entries = then.entries })
  sound-then =
      let fr = frames-grow p q goes l s.in_order none in
      let sl = slots-grow p q goes l s.in_order none in
      record {
        in_order = is_sorted-put_all (copies p q (going goes l.entries)) l s.in_order;
        slots_once = s.slots_once;
        frames_once = s.frames_once;
        in_range = λ g h. s.in_range g (let a = (fr g).count in let b = (fr g).few in omega (arith, a, b, h));
        listed = λ g. s.listed g ∙ (let a = (fr g).count in let b = (fr g).few in omega (arith, a, b));
        flying = s.flying;
        used = λ r g h. let u = s.used r g h in let a = (fr g).count in let b = (sl r).count in omega (arith, u, a, b);
        one = λ r a b d e at at' related. one_each r a b d e at at' related;
        merged = λ g. let a = (fr g).count in let h = s.merged g in omega (arith, a, h);
      }

  pub forked-kept : IsSound m (child_ledger p q goes l)
  forked-kept = subst (IsSound m) (sym (forked-is p q goes l ∙ put_all-only (copies p q (going goes l.entries)) l)) sound-then

  -- a slot in use was so before
  pub forked-no_new : NoNew m l (child_ledger p q goes l)
  forked-no_new = subst (NoNew m l) (sym (forked-is p q goes l ∙ put_all-only (copies p q (going goes l.entries)) l))
      (less m l (record l { entries = then.entries }) refl
      (λ r h. let a = (slots-grow p q goes l s.in_order none r).count in let b = (slots-grow p q goes l s.in_order none r).few in omega (arith, a, b, h)))
