use Rattle.std.proofs.Common.{◌≡◌, ◌==◌, ◌&&◌, ◌||◌, Bool, true, false, List, not, ap, subst, ◌∙◌}
use Rattle.std.specs.BTreeSet.{contains}
use Rattle.std.specs.List.{list_any}
use Rattle.std.specs.Ordering.{nat_cmp}
use Rattle.std.specs.Map.Iter.{deref}
use Rattle.std.proofs.lemmas.Map.Iter.{rest_all}
use Rattle.av_plain.specs.Ledger.{is_merged}
use Rattle.av_audit_pages.specs.declared.entries.Cached.{Cached}
use Rattle.av_audit_book.specs.Book.{ledger_of}
use Rattle.av_audit_book.proofs.ShortageLaws.{cached-any}
use Rattle.av_audit_book.proofs.book.Book.cached_frames.Goals as goal

none-left : (made apart all : Bool) → (made || apart && false) ≡ all → made ≡ all
none-left true apart all h = h
none-left false true all h = h
none-left false false all h = h

pub returns : goal.returns
returns c = λ f.
    let made = contains nat_cmp c.loop-pair.frames f in
    let apart = not (contains nat_cmp c.args.but.now f) && not (is_merged (ledger_of c.args.self.now) f) in
    let cached = c.args.self.now.pages.cache in
    none-left made apart (apart && list_any (λ (p : Cached). f == p.frame) cached)
    (subst (λ (rest : List Cached). (made || apart && list_any (λ (p : Cached). f == p.frame) rest) ≡ (apart && list_any (λ (p : Cached). f == p.frame) cached))
    (rest_all deref c.loop-pair.pair-iterator _ c.next.result c.in-None.is c.next.ensures.steps) (c.loop-pair.invariant.left f))
    ∙ ap (λ b. apart && b) (cached-any f cached)
