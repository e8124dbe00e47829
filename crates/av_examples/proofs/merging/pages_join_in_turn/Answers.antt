use Rattle.std.proofs.Common.{◌==◌, refl, arith}
use Rattle.av_plain.specs.Event.{note_events}
use Rattle.av_laws.specs.Frames.{all_zeros, mergeable_pages}
use Rattle.av_examples.specs.Merging.{second_joins}
use Rattle.av_examples.proofs.Claims.{held_at, zero_byte}
use Rattle.std.specs.Prelude.{◌≡◌, ℕ}
use Rattle.av_examples.proofs.merging.pages_join_in_turn.Goals as goal

pub returns-clause-least : goal.returns-clause-least
returns-clause-least c = refl

pub returns-clause-by_address : goal.returns-clause-by_address
returns-clause-by_address c = (
  note_events second_joins,
  record {
    answer = (
      all_zeros,
      (λ k f is. held_at (all_zeros f) mergeable_pages
          (λ page i below. zero_byte (i == 0), (λ page i below. zero_byte (i == 0), tt)) k.0 k.1),
      refl,
      refl,
      refl,
    );
    notes = refl;
  },
)

pub returns-clause-one_byte : goal.returns-clause-one_byte
returns-clause-one_byte c h = let e : ◌≡◌ {A = ℕ} 0 7 = h (1, 0x10) 3 refl 0 (omega arith) in omega (arith, e)
