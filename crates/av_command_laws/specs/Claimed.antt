-- Memories of which nothing is forgotten.
use Rattle.std.specs.Prelude.{◌≡◌, ℕ, ◌<◌, IfSome, is_some, true}
use Rattle.av_base.specs.Page.{page_size}
use Rattle.av_plain.specs.World.{Page, World, pages}

-- each byte of each mapped page is claimed
abbrev pub IsClaimed : World → Type 0
IsClaimed w = (p page : ℕ) →
    IfSome (pages w p page) (λ (q : Page). (i : ℕ) → i < page_size → is_some (q.bytes i) ≡ true)
