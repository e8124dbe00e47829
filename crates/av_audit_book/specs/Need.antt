-- What a page needs, and why it isn't served.
use Rattle.av_plain.specs.Fault.{Need as PlainNeed, Ready as PlainReady, ZeroPage as PlainZeroPage}
use Rattle.av_plain.specs.Fault.{NewPage as PlainNewPage, CopyOnWrite, SwapIn as PlainSwapIn}
use Rattle.av_plain.specs.Fault.{MapCached as PlainMapCached}
use Rattle.av_audit_book.specs.declared.need.Need.{Need}
use Rattle.av_audit_book.specs.declared.need.Need.TheVariants.{Ready, ZeroPage, NewPage, Copy, SwapIn}
use Rattle.av_audit_book.specs.declared.need.Need.TheVariants.{MapCached}

abbrev pub need_of : Need → PlainNeed
need_of Ready = PlainReady
need_of ZeroPage = PlainZeroPage
need_of NewPage = PlainNewPage
need_of (Copy f) = CopyOnWrite f
need_of (SwapIn s) = PlainSwapIn s
need_of (MapCached f) = PlainMapCached f
