-- One of two.
use Rattle.std.specs.Prelude.{Option}
use Rattle.core_tree.specs.declared.ty.Ty.{Ty}
use Rattle.java_denotes.specs.declared.types.Side.{Side}
use Rattle.java_denotes.specs.declared.types.Side.TheVariants as side

-- the type on a side of two
abbrev pub on_side : Side → Option Ty → Option Ty → Option Ty
on_side side.First a b = a
on_side side.Second a b = b
