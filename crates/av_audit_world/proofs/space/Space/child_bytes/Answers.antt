use Rattle.std.proofs.Common.{ap, rules}
use Rattle.std.proofs.lemmas.Map.Made.{filter_same_pairs}
use Rattle.av_audit_ranges.specs.Ranges.{marks_at}
use Rattle.av_audit_world.specs.Child.{bytes_go}
use Rattle.av_audit_world.proofs.ChildLaws.{copied-where}
use Rattle.av_audit_world.proofs.space.Space.child_bytes.Goals as goal

pub returns : goal.returns
returns c = λ page low.
    let s = c.args.self.now in
    copied-where _ (λ p q r. (r.0, ap (λ v. v.items) r.1)) (λ page. bytes_go (marks_at s.ranges page))
    s.bytes.entries c.in_ok-bytes.bytes.entries c.retain.new.self.entries page c.in_ok-bytes.ensures.cases
    (filter_same_pairs _ (λ e. bytes_go (marks_at s.ranges e.0)) _ (λ k v b w f' t. search rules) _ _ c.retain.ensures.filtered)
