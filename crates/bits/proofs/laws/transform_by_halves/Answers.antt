use Rattle.base.proofs.Transform.{code-bit-low, code-bit-high}
use Rattle.bits.proofs.laws.transform_by_halves.Goals as goal

pub returns : goal.returns
returns c = λ n u i h. record { low = code-bit-low n u i h; high = code-bit-high n u i h }
