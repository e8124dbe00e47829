use Rattle.std.proofs.Common.{◌<◌, refl, sym, subst, append-nil}
use Rattle.std.specs.HashMap.{get, spare}
use Rattle.std.specs.Prelude.{nat_eq}
use Rattle.av_chain.specs.Lists.{links_in}
use Rattle.av_chain.proofs.Behind.{told_own}
use Rattle.av_chain.proofs.TwoMaps.{on_err}
use Rattle.av_chain.proofs.Wholes.{whole_heads}
use Rattle.av_chain.proofs.lists.Lists.add_all.Goals as goal

pub returns-in_err-head-clause-kept : goal.returns-in_err-head-clause-kept
returns-in_err-head-clause-kept c =
    whole_heads _ (get nat_eq c.head_with_room.new.heads) _ (get nat_eq c.args.self.now.anons) _ c.head_with_room.ensures.same (λ k. refl) c.requires.kept

pub returns-in_err-head-clause-err : goal.returns-in_err-head-clause-err
returns-in_err-head-clause-err c = on_err c.from_residual.result (record { many = 0; is = sym (append-nil (links_in c.args.self.now)) })

pub add_each-all-requires-clause-kept : goal.add_each-all-requires-clause-kept
add_each-all-requires-clause-kept c =
    rw (c.in_ok-head.ensures.head)
    (told_own c.args.area _ (get nat_eq c.head_with_room.new.heads) _ (get nat_eq c.args.self.now.anons) _ c.head_with_room.ensures.same
    (λ k. refl) c.requires.kept)

pub tell_head-requires : goal.tell_head-requires
tell_head-requires c = subst (λ m. 0 < spare m) (sym c.add_each-all.ensures.areas) c.in_ok-head.ensures.room

pub returns-clause-kept : goal.returns-clause-kept
returns-clause-kept c =
    whole_heads _ (get nat_eq c.tell_head.new.heads) _ (get nat_eq c.add_each-all.new.self.anons) _ c.tell_head.ensures (λ k. refl)
    c.add_each-all.ensures.kept
