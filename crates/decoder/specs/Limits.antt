-- Which limits a load may set. Assumes nothing.
use Rattle.std.specs.Prelude.{Bool, ◌&&◌}
use Rattle.search.specs.Search.{between}
use Rattle.decoder.specs.declared.limits.Limits.{Limits}

abbrev pub limits_allowed : Limits → Bool
limits_allowed l = between 2 128 l.capacity && (between 1 64 l.failures && between 1 16777216 l.steps)
