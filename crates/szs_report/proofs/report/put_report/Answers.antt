use Rattle.std.proofs.Common.{drop, ◌+◌, take}
use Rattle.szs_report.specs.Printing.{text_of}
use Rattle.szs_report.proofs.Gaining.{PutFailed-append, flat_map-split}
use Rattle.szs_report.proofs.report.put_report.Goals as goal

pub returns-in-Failed : goal.returns-in-Failed
returns-in-Failed g c =
    let lines = c.deref-text-items.result.now in
    rw (← c.report.view_is, ← c.deref-text-items.ensures.value, flat_map-split (λ line. line) lines c.loop-text.text-index c.text-item.result c.loop-text-test.true, ← c.text-item.is)
    (PutFailed-append _ _ _ (text_of (take c.loop-text.text-index lines)) _ (text_of (drop (c.loop-text.text-index + 1) lines))
    c.loop-text.invariant (rw c.as_slice.ensures at c.in-Failed.ensures))
