-- Where a mapping goes.
use Rattle.std.specs.Prelude.{ℕ, ◌+◌, Bool, not, ◌&&◌, Option, Some, None, ◌≡◌, nat_le, MatchBool}
use Rattle.av_base.specs.Limits.{low_page, top_page}
use Rattle.av_base.specs.Page.{page_of, address_of}
use Rattle.av_vma.specs.Gap.{IsGap}
use Rattle.av_trace.specs.declared.place.Place.{Place}
use Rattle.av_trace.specs.declared.place.Place.TheVariants.{Auto, At, Fixed, NoReplace}
use Rattle.av_trace.specs.declared.reply.Answer.{Answer}
use Rattle.av_trace.specs.declared.reply.Answer.TheVariants.{MapAt, Refused}
use Rattle.av_trace.specs.declared.reply.Errno.TheVariants.{Enomem}
use Rattle.av_plain.specs.World.{Process, is_mapped, meets}

-- whether the n pages from one on are free, and a process may have them
abbrev pub is_room : Process → ℕ → ℕ → Bool
is_room q n page = nat_le low_page page && nat_le (page + n) top_page && not (meets q page n)

-- n pages at a place: an automatic one is the greatest gap; a hint is taken where there is room,
-- else it is as if it weren't there
abbrev pub Goes : Process → ℕ → Place → Option ℕ → Type 0
Goes q n Auto to = IsGap (is_mapped q) n to
Goes q n (At a) to =
    MatchBool (is_room q n (page_of a)) (to ≡ Some (page_of a)) (IsGap (is_mapped q) n to)
Goes q n (Fixed a) to = to ≡ Some (page_of a)
Goes q n (NoReplace a) to = to ≡ Some (page_of a)

-- the address of a page, or that there is none
abbrev pub IsMapAt : Answer → Option ℕ → Type 0
IsMapAt answer None = answer ≡ Refused Enomem
IsMapAt answer (Some page) = answer ≡ MapAt (address_of page)
