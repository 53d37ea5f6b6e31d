-- The types of a class's instance fields are the same in the table and in the program.
use Rattle.std.proofs.Common.{◌≡◌, ◌∙◌, ℕ, zero, suc, ◌+◌, Bool, true, false, not, List, [], ◌∷◌, ◌++◌, map, reverse, Option, Some, None, option_map, slice_get, refl, sym, ap, arith, if◌then◌else◌}
use Rattle.std.specs.Prelude.{unwrap_or, filter}
use Rattle.std.specs.List.{flat_map}
use Rattle.std.specs.Option.{option_map_or}
use Rattle.core_tree.specs.declared.ty.Ty.{Ty}
use Rattle.core_tree.specs.declared.program.Field.{Field}
use Rattle.java_syntax.specs.declared.class.ClassTree.{ClassTree}
use Rattle.java_syntax.specs.declared.class.Member.{Member}
use Rattle.java_syntax.specs.declared.class.Member.TheVariants as member
use Rattle.class_table.specs.declared.row.FieldRow.{FieldRow}
use Rattle.class_table.specs.Fields.{numbered}
use Rattle.class_table.specs.Members.{field_row, fields_in, is_instance, is_static}
use Rattle.java_members.specs.Bodies.{core_field}
use Rattle.class_table.specs.Names.{Name}
use Rattle.java_names.specs.Types.{declared_type}
use Rattle.java_exprs.specs.declared.environment.Environment.{Environment}
use Rattle.java_syntax.specs.declared.class.FileTree.{FileTree}
use Rattle.class_table.specs.Ancestors.{superclasses}
use Rattle.class_table.specs.BuiltIn.{built_in}
use Rattle.class_table.specs.Declarations.{declaration, declared_of}
use Rattle.class_table.specs.Fields.{fields_at, instance_total, placed_at, fields_along}
use Rattle.class_table.specs.Names.{class_names}
use Rattle.java_members.specs.Files.{own_field, own_fields, all_own_fields}
use Rattle.typing_law.proofs.FileClasses.{declaration_at}
use Rattle.typing_law.proofs.Found.{numbers_shift}
use Rattle.std.proofs.lemmas.List.{map-append}
use Rattle.std.proofs.lemmas.List.Elements.{filter-append}

-- the own fields of the classes of a file
pub own_at : (env : Environment) (n : ℕ) (ks : List ClassTree) (j : ℕ) → slice_get (own_fields env n ks) j ≡ option_map (λ k. flat_map (own_field env (n + j)) k.members) (slice_get ks j)
unfolding own_fields
own_at env n [] j = refl
own_at env n (k ∷ ks) zero = let e : n ≡ n + 0 = omega arith in ap (λ m. Some (flat_map (own_field env m) k.members)) e
own_at env n (k ∷ ks) (suc j) = own_at env (suc n) ks j ∙ ap (λ m. option_map (λ k. flat_map (own_field env m) k.members) (slice_get ks j)) (numbers_shift n j)

-- the types of the instance fields among some rows
abbrev pub row_types : List Name → List FieldRow → List Ty
row_types names fields = map (λ f. declared_type names f.ty) (filter is_instance fields)

-- the same of the fields of the program
abbrev pub core_types : List Field → List Ty
core_types fields = map (λ f. f.ty) fields

pub member_types : (env : Environment) (c : ℕ) (members : List Member) → core_types (flat_map (own_field env c) members) ≡ row_types env.symbols.names (fields_in c members)
member_types env c [] = refl
member_types env c (member.Field f ∷ more) = cases (is_static f.mods) (member_types env c more)
  where
    cases : (b : Bool) → core_types (flat_map (own_field env c) more) ≡ row_types env.symbols.names (fields_in c more) →
        core_types ((if b then [] else core_field env c f ∷ []) ++ flat_map (own_field env c) more) ≡ map (λ f. declared_type env.symbols.names f.ty) (if not b then field_row c f ∷ filter is_instance (fields_in c more) else filter is_instance (fields_in c more))
    cases true same = same
    cases false same = ap (λ ts. declared_type env.symbols.names f.ty ∷ ts) same
member_types env c (_ ∷ more) = member_types env c more

-- places change no type
pub numbered_types : (names : List Name) (n : ℕ) (fields : List FieldRow) → row_types names (numbered n fields) ≡ row_types names fields
numbered_types names n [] = refl
numbered_types names n (f ∷ more) = cases (is_instance f) refl (numbered_types names (n + 1) more) (numbered_types names n more)
  where
    cases : (b : Bool) → is_instance f ≡ b → row_types names (numbered (n + 1) more) ≡ row_types names more → row_types names (numbered n more) ≡ row_types names more →
        row_types names (if b then record f { place = Some n } ∷ numbered (n + 1) more else record f { place = None } ∷ numbered n more) ≡ map (λ f. declared_type names f.ty) (if b then f ∷ filter is_instance more else filter is_instance more)
    cases true is on same = ap (λ x. map (λ f. declared_type names f.ty) (if x then record f { place = Some n } ∷ filter is_instance (numbered (n + 1) more) else filter is_instance (numbered (n + 1) more))) is ∙ ap (λ ts. declared_type names f.ty ∷ ts) on
    cases false is on same = ap (λ x. map (λ f. declared_type names f.ty) (if x then record f { place = None } ∷ filter is_instance (numbered n more) else filter is_instance (numbered n more))) is ∙ same

-- ---- class by class

of_tree : (env : Environment) (known : List Name) (c : ℕ) (found : Option ClassTree) →
    core_types (unwrap_or (option_map (λ k. flat_map (own_field env c) k.members) found) []) ≡ row_types env.symbols.names (option_map_or (λ d. d.fields) (option_map (declaration known c) found) [])
of_tree env known c None = refl
of_tree env known c (Some k) = member_types env c k.members

-- the fields that each class declares itself
class_types : (env : Environment) (tree : FileTree) (c : ℕ) → core_types (unwrap_or (slice_get (all_own_fields env tree) c) []) ≡ row_types env.symbols.names (fields_at (declared_of tree.classes) c)
unfolding declared_of built_in
class_types env tree (suc (suc (suc (suc (suc (suc (suc (suc (suc (suc (suc (suc (suc (suc (suc (suc (suc (suc j)))))))))))))))))) =
    ap (λ found. core_types (unwrap_or found [])) (own_at env 18 tree.classes j) ∙ of_tree env (class_names tree.classes) (18 + j) (slice_get tree.classes j)
    ∙ ap (λ found. row_types env.symbols.names (option_map_or (λ d. d.fields) found [])) (sym (declaration_at (class_names tree.classes) 18 tree.classes j))
class_types env tree _ = refl

-- ---- along a line

along : (env : Environment) (tree : FileTree) (line : List ℕ) → core_types (flat_map (λ d. unwrap_or (slice_get (all_own_fields env tree) d) []) line) ≡ row_types env.symbols.names (flat_map (placed_at (declared_of tree.classes)) line)
along env tree [] = refl
along env tree (c ∷ line) =
    let mine = placed_at (declared_of tree.classes) c in
    let more = flat_map (placed_at (declared_of tree.classes)) line in
    map-append (λ f. f.ty) (unwrap_or (slice_get (all_own_fields env tree) c) []) (flat_map (λ d. unwrap_or (slice_get (all_own_fields env tree) d) []) line)
    ∙ ap (λ ts. ts ++ core_types (flat_map (λ d. unwrap_or (slice_get (all_own_fields env tree) d) []) line)) (class_types env tree c ∙ sym (numbered_types env.symbols.names (instance_total (declared_of tree.classes) (superclasses (declared_of tree.classes) c)) (fields_at (declared_of tree.classes) c)))
    ∙ ap (λ ts. row_types env.symbols.names mine ++ ts) (along env tree line)
    ∙ sym (ap (map (λ f. declared_type env.symbols.names f.ty)) (filter-append is_instance mine more) ∙ map-append (λ f. declared_type env.symbols.names f.ty) (filter is_instance mine) (filter is_instance more))

-- the instance fields of classes along a line have the same types in the program and in the table
pub line_types : (env : Environment) (tree : FileTree) (line : List ℕ) → core_types (flat_map (λ d. unwrap_or (slice_get (all_own_fields env tree) d) []) (reverse line)) ≡ row_types env.symbols.names (fields_along (declared_of tree.classes) line)
line_types env tree line = along env tree (reverse line)
