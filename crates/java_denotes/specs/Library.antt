-- The names of the library.
use Rattle.std.specs.Prelude.{Bool, ◌||◌, codes}
use Rattle.class_table.specs.Names.{Name, same_name}

abbrev pub system_name : Name
system_name = codes "System"

abbrev pub out_name : Name
out_name = codes "out"

abbrev pub print_name : Name
print_name = codes "print"

abbrev pub println_name : Name
println_name = codes "println"

abbrev pub length_name : Name
length_name = codes "length"

abbrev pub equals_name : Name
equals_name = codes "equals"

abbrev pub is_print : Name → Bool
is_print name = same_name name print_name || same_name name println_name
