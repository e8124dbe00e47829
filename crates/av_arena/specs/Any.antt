-- Whether any of a row passes, as a summary.
use Rattle.std.specs.Prelude.{◌≡◌, Bool, true, false, ◌||◌, refl}
use Rattle.av_arena.specs.Monoid.{MonoidLaws}

or_right : (x : Bool) → (x || false) ≡ x
or_right true = refl
or_right false = refl

or_assoc : (x y z : Bool) → ((x || y) || z) ≡ (x || (y || z))
or_assoc true y z = refl
or_assoc false y z = refl

pub any_laws : MonoidLaws false (λ x y. x || y)
any_laws = record { left_identity = λ x. refl; right_identity = or_right; assoc = or_assoc }
