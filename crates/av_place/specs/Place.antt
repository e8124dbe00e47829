-- Where the pages of a mapping go.
use Rattle.std.specs.Prelude.{◌≡◌, ◌⊎◌, ℕ, ◌+◌, Bool, not, [], ◌∷◌, Some, None, Result, Ok, Err}
use Rattle.av_base.specs.Page.{page_of, is_on_page}
use Rattle.av_trace.specs.declared.reply.Errno.{Errno}
use Rattle.av_trace.specs.declared.reply.Errno.TheVariants.{Einval, Enomem}
use Rattle.av_trace.specs.declared.place.Place.{Place}
use Rattle.av_trace.specs.declared.place.Place.TheVariants.{Fixed}
use Rattle.av_vmatree.specs.Spans.{IsFree}
use Rattle.av_spaces.specs.Spaces.{Spaces, is_taken}
use Rattle.av_plain.specs.World.{Process, is_mapped}
use Rattle.av_plain.specs.Refusal.{Tests, place_tests, refusal, wraps}
use Rattle.av_plain.specs.Place.{Goes}

-- the tests of an `mprotect` that look at no page
abbrev pub protect_tests : ℕ → ℕ → Tests
protect_tests a len = (not (is_on_page a), Einval) ∷ (wraps a len, Enomem) ∷ []

-- the pages that p has mapped are those of q
abbrev pub IsProcess : Spaces → ℕ → Process → Type 0
IsProcess s p q = (page : ℕ) → is_taken s p page ≡ is_mapped q page

-- n pages go to this one, past all tests of their place; or the first test that holds refuses them,
-- or there is no room
abbrev pub IsPlaced : Process → ℕ → Place → Result ℕ Errno → Type 0
IsPlaced q n place (Ok page) = (refusal (place_tests q n place) ≡ None) × Goes q n place (Some page)
IsPlaced q n place (Err error) =
    (refusal (place_tests q n place) ≡ Some error)
    ⊎ ((refusal (place_tests q n place) ≡ None) × Goes q n place None × (error ≡ Enomem))

-- the n pages from one on are those of a fixed place, or none of them is taken
abbrev pub AreToUnmap : (ℕ → Bool) → ℕ → ℕ → Place → Type 0
AreToUnmap is_taken page n (Fixed a) = page ≡ page_of a
AreToUnmap is_taken page n place = IsFree is_taken page (page + n)
