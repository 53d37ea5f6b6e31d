-- What is looked up in the classes.
use Rattle.std.specs.Prelude.{ℕ, ◌≡◌, Bool, ◌&&◌, nat_eq, List, map, filter, length}
use Rattle.class_table.specs.declared.declaration.Declaration.{Declaration}
use Rattle.class_table.specs.declared.row.FieldRow.{FieldRow}
use Rattle.class_table.specs.declared.row.MethodRow.{MethodRow}
use Rattle.class_table.specs.declared.row.MakerRow.{MakerRow}
use Rattle.class_table.specs.declared.row.Signature.{Signature}
use Rattle.class_table.specs.declared.index.Index.{Index}
use Rattle.class_table.specs.Names.{Name, same_name}
use Rattle.class_table.specs.Members.{is_instance}
use Rattle.class_table.specs.Lines.{lines_of}

abbrev pub field_names : List FieldRow → List Name
field_names fields = map (λ f. f.name) fields

abbrev pub field_names_of : List Declaration → List (List Name)
field_names_of declared = map (λ d. field_names d.fields) declared

abbrev pub signature_of : MethodRow → Signature
signature_of m = record { name = m.name; arity = length m.params }

abbrev pub signatures : List MethodRow → List Signature
signatures methods = map signature_of methods

abbrev pub signatures_of : List Declaration → List (List Signature)
signatures_of declared = map (λ d. signatures d.methods) declared

abbrev pub counts_of : List Declaration → List ℕ
counts_of declared = map (λ d. length (filter is_instance d.fields)) declared

-- an index has the lines, the names and the signatures of its classes
pub record IsIndex (index : Index) : Type 0 where
  pub lines_are : index.lines ≡ lines_of index.declared
  pub fields_are : index.fields ≡ field_names_of index.declared
  pub methods_are : index.methods ≡ signatures_of index.declared
  pub counts_are : index.counts ≡ counts_of index.declared

abbrev pub same_signature : Signature → Signature → Bool
same_signature s t = same_name s.name t.name && nat_eq s.arity t.arity

abbrev pub arities : List MakerRow → List ℕ
arities makers = map (λ m. length m.params) makers
