-- The initialiser of an instance field.
use Rattle.std.specs.Prelude.{Bool, true}
use Rattle.std.specs.Option.{option_map_or}
use Rattle.core_tree.specs.declared.program.Field.{Field}
use Rattle.core_tree.specs.declared.program.Program.{Program}
use Rattle.core_tree.specs.Typing.{fits, type_of}
use Rattle.core_tree.specs.WellTyped.{initialiser_scope}

-- where there is one, it fits the type of the field
abbrev pub start_fits : Program → Field → Bool
start_fits p field = option_map_or (λ e. fits p field.ty (type_of p (initialiser_scope field.owner) e)) field.start true
