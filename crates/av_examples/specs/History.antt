-- Worked examples for the history of a device.
use Rattle.av_swapdev.specs.Device.{History, after_write, no_history}

-- page 3 was to be written; and then page 1, and page 2
abbrev pub third_page : History
third_page = after_write 0 3 no_history

abbrev pub three_pages : History
three_pages = after_write 0 2 (after_write 0 1 third_page)
