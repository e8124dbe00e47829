use Rattle.std.proofs.Common.{sym, subst}
use Rattle.std.specs.Option.{ForSome}
use Rattle.std.specs.Prelude.{IsSome}
use Rattle.av_spaces.specs.Kin.{info_of}
use Rattle.av_ksm.specs.Joining.{item_by}
use Rattle.av_ksm.proofs.MergingAsks.{home-rooted, maps-few, merged-below, other-apart, own-below, own-mapped, own-names, own-uncached, own-used}
use Rattle.av_ksm.proofs.MergingViews.{joined-bytes}
use Rattle.av_ksm.proofs.merging.join_merged.Goals as goal

pub join-requires-clause-there : goal.join-requires-clause-there
join-requires-clause-there c = let q = c.requires.stands in
    own-names q.device c.args.mem.now q.world q.rmap q.ledger q.between c.args.key c.args.own q.is.0.seen q.is.0.own_is

pub join-requires-clause-other : goal.join-requires-clause-other
join-requires-clause-other c = let q = c.requires.stands in
    other-apart q.device c.args.mem.now q.world q.rmap q.ledger q.between c.args.key c.args.own c.args.frame q.is.0

pub join-requires-clause-uncached : goal.join-requires-clause-uncached
join-requires-clause-uncached c = let q = c.requires.stands in
    own-uncached q.device c.args.mem.now q.world q.rmap q.ledger q.between c.args.key c.args.own q.is.0.seen q.is.0.own_is

pub join-requires-clause-mapped : goal.join-requires-clause-mapped
join-requires-clause-mapped c = let q = c.requires.stands in
    own-mapped q.device c.args.mem.now q.world q.rmap q.ledger q.between c.args.key c.args.own q.is.0.seen q.is.0.own_is

pub join-requires-clause-in_use : goal.join-requires-clause-in_use
join-requires-clause-in_use c = let q = c.requires.stands in
    own-used q.device c.args.mem.now q.world q.rmap q.ledger q.between c.args.key c.args.own q.is.0.seen q.is.0.own_is

pub join-requires-clause-room : goal.join-requires-clause-room
join-requires-clause-room c = let q = c.requires.stands in
    maps-few q.device c.args.mem.now q.world q.rmap q.ledger q.between c.keeps_laid.ensures c.args.frame

pub join-requires-clause-listed : goal.join-requires-clause-listed
join-requires-clause-listed c = c.requires.stands.between.serves.lists

pub join-requires-clause-itemed : goal.join-requires-clause-itemed
join-requires-clause-itemed c = c.requires.stands.between.serves.items

pub join-requires-clause-in_range : goal.join-requires-clause-in_range
join-requires-clause-in_range c = let q = c.requires.stands in (
  own-below q.device c.args.mem.now q.world q.rmap q.ledger q.between c.args.key c.args.own q.is.0.seen q.is.0.own_is,
  merged-below q.device c.args.mem.now q.world q.rmap q.ledger q.between c.args.frame q.is.1,
)

pub join-requires-clause-rooted : goal.join-requires-clause-rooted
join-requires-clause-rooted c = let q = c.requires.stands in
    subst (λ o. ForSome o (λ home. IsSome (info_of c.args.mem.now.anons home.0))) (sym c.home_at-home.ensures)
    (home-rooted q.device c.args.mem.now q.world q.rmap q.ledger q.between c.args.key.0 c.args.key.1)

pub join-requires-clause-unlocked : goal.join-requires-clause-unlocked
join-requires-clause-unlocked c = c.requires.unlocked

pub returns-clause-joins : goal.returns-clause-joins
returns-clause-joins c = λ d w r l h has merged same. record {
  notes = c.in_ok-push.ensures.ok;
  done = c.in_ok-join.ensures.done d w r l has.seen h has.own_is merged same
      c.home_at-home.ensures;
}

pub returns-clause-bytes : goal.returns-clause-bytes
returns-clause-bytes c = joined-bytes c.args.mem.now c.join.new.mem c.args.key.0 c.args.key.1 c.args.frame c.args.own
    (item_by c.args.mem.now c.home_at-home.result) c.in_ok-join.ensures.joined
