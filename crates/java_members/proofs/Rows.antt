-- Worked rows: members that break a rule, and others that don't.
use Rattle.std.proofs.Common.{◌≡◌, [], ◌∷◌, None, false, codes, refl}
use denote.Hole.Carrier.{out, shown, hidden}
use Rattle.core_tree.specs.declared.ty.Ty.{out-Ty}
use Rattle.core_tree.specs.declared.ty.Ty.TheVariants as ty
use Rattle.core_tree.specs.declared.ty.Ty.TheBlock.{shown-the_row-Ty-0}
use Rattle.token_reading.specs.declared.name.TypeTree.{TypeTree}
use Rattle.java_syntax.specs.declared.class.Modifier.TheVariants as word
use Rattle.java_syntax.specs.declared.class.FieldTree.{FieldTree}
use Rattle.java_names.specs.Lookups.{is_below}
use Rattle.java_names.specs.Scope.{declared}
use Rattle.java_denotes.specs.declared.denotation.Denotation.TheVariants as denotes
use Rattle.java_exprs.specs.declared.typed.Form.TheVariants as form
use Rattle.java_exprs.specs.declared.folded.Folded.TheVariants as folded
use Rattle.core_tree.proofs.TypeNodes.{assignable-Text}
use Rattle.java_members.specs.Declarations.{field_words_20, maker_words_20, method_words_20, constant_type_20, params_10}
use Rattle.java_members.specs.Constants.{is_initialiser}
use Rattle.java_members.specs.Bodies.{parent_faults}
use Rattle.java_statements.proofs.Rows.{part, ident, int_type, class_type, env, scope}

-- ---- 10

two_params : params_10 env (record { ty = int_type; name = ident (codes "x") 3 } ∷ record { ty = int_type; name = ident (codes "x") 5 } ∷ []) scope ≡ 5 ∷ []
unfolding declared params_10
two_params = refl

-- ---- 12 and 13

no_constructor_without_parameters : parent_faults env 1 9 [] ≡ record { rule = 12; at = 9 } ∷ []
no_constructor_without_parameters = refl

private_constructor : parent_faults env 1 9 (part (denotes.Value ty.Text) form.Other 11 ∷ []) ≡ record { rule = 11; at = 11 } ∷ record { rule = 13; at = 9 } ∷ []
unfolding out-Ty out shown-the_row-Ty-0 shown hidden
private_constructor = rw (assignable-Text (is_below env.symbols)) refl

-- ---- 20

static_without_final : field_words_20 (record { words = word.Static ∷ [] }) 7 ≡ 7 ∷ []
static_without_final = refl

constant_words : field_words_20 (record { words = word.Private ∷ word.Static ∷ word.Final ∷ [] }) 7 ≡ []
constant_words = refl

static_constructor : maker_words_20 (record { words = word.Static ∷ [] }) 7 ≡ 7 ∷ []
static_constructor = refl

final_method : method_words_20 (record { words = word.Final ∷ [] }) 7 ≡ 7 ∷ []
final_method = refl

repeated_word : method_words_20 (record { words = word.Static ∷ word.Static ∷ [] }) 7 ≡ 7 ∷ []
repeated_word = refl

two_accesses : method_words_20 (record { words = word.Public ∷ word.Private ∷ [] }) 7 ≡ 7 ∷ []
two_accesses = refl

public_static : method_words_20 (record { words = word.Public ∷ word.Static ∷ [] }) 7 ≡ []
public_static = refl

abbrev constant : TypeTree → FieldTree
constant t = record { mods = record { words = word.Static ∷ word.Final ∷ [] }; ty = t; name = ident (codes "K") 7; value = None }

constant_of_class : constant_type_20 env (constant (class_type (codes "A") 5)) ≡ 7 ∷ []
unfolding out-Ty out shown-the_row-Ty-0 shown hidden
constant_of_class = refl

constant_of_int : constant_type_20 env (constant int_type) ≡ []
unfolding out-Ty out shown-the_row-Ty-0 shown hidden
constant_of_int = refl

failing_initialiser : is_initialiser folded.Fails ≡ false
failing_initialiser = refl
