use Rattle.sample_maker.proofs.Digits.{two_digits}
use Rattle.sample_maker.proofs.names.numbered.Goals as goal

-- src/names.rt:10:1
pub returns : goal.returns
returns c = rw (c.in_ok-format.ensures.ok, c.laid_out.ensures, two_digits c.args.number c.requires)
