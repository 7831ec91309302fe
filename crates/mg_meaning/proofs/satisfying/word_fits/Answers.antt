use Rattle.std.proofs.Common.{sym}
use Rattle.mg_meaning.proofs.Answering.{fits_size, fits_none}
use Rattle.mg_meaning.proofs.satisfying.word_fits.Goals as goal

pub returns-in-Some : goal.returns-in-Some
returns-in-Some c = fits_size c.args.symbols.now c.args.word.now c.in-Some.size (sym c.in-Some.ensures.found)

pub returns-in-None : goal.returns-in-None
returns-in-None c = sym (fits_none c.args.symbols.now c.args.word.now (sym c.in-None.ensures.found))
