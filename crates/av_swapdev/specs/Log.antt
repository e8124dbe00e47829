-- What a call makes of a device's history.
use Rattle.av_swapdev.specs.Device.{History, after_attach, after_write}
use Rattle.av_swapdev.specs.declared.log.Call.{Call}
use Rattle.av_swapdev.specs.declared.log.Call.TheVariants.{Attach, Write}

-- the history after this call
abbrev pub after_call : Call → History → History
after_call (Attach area name well) history = after_attach area name.now well history
after_call (Write area page) history = after_write area page history
