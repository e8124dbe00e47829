-- When two areas are one, and when one lends the other its anon_vma.
use Rattle.std.specs.Prelude.{ℕ, Bool, true, ◌&&◌, ◌||◌, ◌==◌, Option, Some, None}
use Rattle.std.proofs.Math.Bool.{beq}
use Rattle.av_base.specs.declared.flags.Flags.{Flags}
use Rattle.av_base.specs.declared.prot.Prot.{Prot}
use Rattle.av_vma.specs.declared.area.Area.{Area}
use Rattle.av_vma.specs.Index.{index_of, past_of}

-- one protection
abbrev pub same_prot : Prot → Prot → Bool
same_prot p q = beq p.read q.read && beq p.write q.write && beq p.execute q.execute

-- the same flags
abbrev pub same_flags : Flags → Flags → Bool
same_flags f g = beq f.dont_fork g.dont_fork && beq f.wipe_on_fork g.wipe_on_fork
    && beq f.locked g.locked && beq f.mergeable g.mergeable

-- two areas may have one anon_vma: both have the same or none, or one has none and the other's
-- chain has one node
abbrev pub share_anon : Option ℕ → ℕ → Option ℕ → ℕ → Bool
share_anon None left_len None right_len = true
share_anon None left_len (Some b) right_len = right_len == 1
share_anon (Some a) left_len None right_len = left_len == 1
share_anon (Some a) left_len (Some b) right_len = a == b

-- the second area goes on where the first ends: with its protection and flags, its offset, and an
-- anon_vma that both may have
abbrev pub are_joinable : Area → ℕ → Area → ℕ → Bool
are_joinable left left_len right right_len =
    (left.end == right.start) && same_prot left.prot right.prot && same_flags left.flags right.flags
    && (index_of left (past_of left) == right.pgoff)
    && share_anon left.anon left_len right.anon right_len

-- the second area begins where the first ends, and the offsets run on
abbrev pub do_run_on : Area → Area → Bool
do_run_on left right = (right.start == left.end) && (right.pgoff == index_of left (past_of left))

-- an area may take the anon_vma of a neighbour: its chain has one node, the flags are equal,
-- the two adjoin and the offsets run on
abbrev pub can_lend : Area → Area → ℕ → Bool
can_lend area near near_len =
    (near_len == 1)
    && (same_flags area.flags near.flags && (do_run_on area near || do_run_on near area))
