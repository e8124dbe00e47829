mod RmapLaws
mod SwapcacheLaws
