-- What `swapon` and `slot` answer, by what is shown of the swap areas.
use Rattle.std.specs.Prelude.{ℕ, Bool, false, ◌&&◌, nat_lt, if◌then◌else◌, Option, Some, None}
use Rattle.av_base.specs.declared.slot.Slot.{Slot}
use Rattle.av_swapcache.specs.Swap.{Shown as ShownSwap, count_of}
use Rattle.av_swapcache.specs.declared.swap.SwapOn.{SwapOn}
use Rattle.av_swapcache.specs.declared.swap.SwapOn.TheVariants.{On as IsOn, Busy, Io, Bad}
use Rattle.av_swapdev.specs.declared.header.Header.{Header}
use Rattle.av_trace.specs.declared.reply.Answer.{Answer}
use Rattle.av_trace.specs.declared.reply.Answer.TheVariants.{On, Refused, SlotBad, SlotCount}
use Rattle.av_trace.specs.declared.reply.Errno.TheVariants.{Ebusy, Einval, Eio}

-- the answer to `swapon`, by what came of it
abbrev pub on_answer : SwapOn → Answer
on_answer (IsOn header) = On header.slots header.bad
on_answer Busy = Refused Ebusy
on_answer Io = Refused Eio
on_answer (Bad fault) = Refused Einval

-- whether an area that may be off has the page, behind its header
abbrev pub has_page : Option Header → ℕ → Bool
has_page None page = false
has_page (Some header) page = nat_lt 0 page && nat_lt page header.pages

-- the answer to `slot` at a page of an area that is on
abbrev pub page_answer : ShownSwap → Slot → Answer
page_answer h s = if h.bad s then SlotBad s else SlotCount s (count_of h s) (h.find s)
