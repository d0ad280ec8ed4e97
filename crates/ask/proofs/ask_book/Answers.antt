use Rattle.std.proofs.Common.{sym, length-take-le}
use Rattle.ask.proofs.Lengths.{cache_fits_lem, lent}
use Rattle.ask.proofs.ask_book.Goals as goal

pub slice_bounds-ask-end : goal.slice_bounds-ask-end
slice_bounds-ask-end g c =
    let a = c.args in
    sym (length-take-le c.cache_length-c.result c.buffer-caches.result
    (cache_fits_lem a.book.now a.h c.requires c.cache_length-c.result _ c.cache_length-c.ensures c.buffer-caches.ensures))

pub ask-requires : goal.ask-requires
ask-requires g c =
    let a = c.args in
    lent a.book.now a.h c.requires c.cache_length-c.result c.work_length-w.result c.buffer-caches.result c.buffer-works.result
    c.cache_length-c.ensures c.work_length-w.ensures c.buffer-caches.ensures c.buffer-works.ensures
