-- What a pool holds. Assumes nothing.
use Rattle.std.specs.Prelude.{take}
use Rattle.joining.specs.Pool.{Filled}
use Rattle.joining.specs.declared.pool.Pool.{Pool}

-- its first so many sets, and its bound
abbrev pub filled : Pool → Filled
filled p = record { sets = take p.count p.sets; bound = p.bound }
