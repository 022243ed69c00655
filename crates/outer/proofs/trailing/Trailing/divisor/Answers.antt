use Rattle.std.proofs.Common.{sym, ap}
use Rattle.crc.specs.Division.{listed, coefficients}
use Rattle.outer.specs.Trailing.{divisor, width}
use Rattle.outer.proofs.trailing.Trailing.divisor.Goals as goal

pub returns-in-Six : goal.returns-in-Six
unfolding coefficients listed
returns-in-Six c = record { value = sym (ap divisor c.in-Six.is); width = sym (ap width c.in-Six.is) }

pub returns-in-Eleven : goal.returns-in-Eleven
unfolding coefficients listed
returns-in-Eleven c = record { value = sym (ap divisor c.in-Eleven.is); width = sym (ap width c.in-Eleven.is) }
