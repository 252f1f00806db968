use mir.Syntax.{w64}
use Rattle.lanes.proofs.Known.{fits, kept}
use Rattle.packing.proofs.Summed.{two, more}
use Rattle.packing.proofs.sums.vsum2sws.Goals as goal

pub overflow_add-signed : goal.overflow_add-signed
overflow_add-signed c = fits w64 (two c.words.ensures 0 1 tt tt c.signed.ensures c.signed-2.ensures) tt

pub overflow_add-signed-2 : goal.overflow_add-signed-2
overflow_add-signed-2 c = fits w64 (more c.words-2.ensures (two c.words.ensures 0 1 tt tt c.signed.ensures c.signed-2.ensures) tt 1 tt c.signed-3.ensures) tt

pub overflow_add-signed-3 : goal.overflow_add-signed-3
overflow_add-signed-3 c = fits w64 (two c.words.ensures 2 3 tt tt c.signed-4.ensures c.signed-5.ensures) tt

pub overflow_add-signed-4 : goal.overflow_add-signed-4
overflow_add-signed-4 c = fits w64 (more c.words-2.ensures (two c.words.ensures 2 3 tt tt c.signed-4.ensures c.signed-5.ensures) tt 3 tt c.signed-6.ensures) tt

pub returns : goal.returns
returns c =
    let p = (kept w64 (more c.words-2.ensures (two c.words.ensures 0 1 tt tt c.signed.ensures c.signed-2.ensures) tt 1 tt c.signed-3.ensures) tt).is in
    let q = (kept w64 (more c.words-2.ensures (two c.words.ensures 2 3 tt tt c.signed-4.ensures c.signed-5.ensures) tt 3 tt c.signed-6.ensures) tt).is in
    rw (c.odd_words.ensures, c.saturated.ensures.0, c.saturated-2.ensures.0, p, q)
