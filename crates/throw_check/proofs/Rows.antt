-- Worked rows: members that break rule 23, and others that don't.
use Rattle.std.proofs.Common.{◌≡◌, ℕ, List, [], ◌∷◌, ◌++◌, Option, Some, None, false, codes, refl}
use denote.Hole.Carrier.{out, shown, hidden}
use Rattle.core_tree.specs.declared.ty.Ty.{out-Ty}
use Rattle.core_tree.specs.declared.ty.Ty.TheVariants as ty
use Rattle.core_tree.specs.declared.ty.Ty.TheBlock.{shown-the_row-Ty-0}
use Rattle.token_reading.specs.declared.fault.Fault.{Fault}
use Rattle.token_reading.specs.declared.name.Ident.{Ident}
use Rattle.token_reading.specs.declared.name.BaseType.TheVariants.{Int}
use Rattle.java_syntax.specs.declared.expression.Expr.{Expr}
use Rattle.java_syntax.specs.declared.expression.Expr.TheVariants as tree
use Rattle.java_syntax.specs.declared.statement.CatchTree.{CatchTree, roll-CatchTree}
use Rattle.java_syntax.specs.declared.statement.Stmt.{Stmt}
use Rattle.java_syntax.specs.declared.statement.Stmt.TheVariants as stmt
use Rattle.java_syntax.specs.declared.class.FieldTree.{FieldTree}
use Rattle.java_syntax.specs.declared.class.Member.TheVariants as member
use Rattle.java_names.specs.declared.symbol.ClassSymbol.{ClassSymbol}
use Rattle.java_names.specs.declared.symbol.MakerSymbol.{MakerSymbol}
use Rattle.java_names.specs.declared.symbol.MethodSymbol.{MethodSymbol}
use Rattle.java_names.specs.declared.scope.Scope.{Scope}
use Rattle.java_names.specs.Scope.{first_scope, declared}
use Rattle.java_names.specs.declared.symbol.Symbols.{Symbols}
use Rattle.java_syntax.specs.declared.expression.Expr.TheOpen.{Expr-F}
use Rattle.java_denotes.specs.Known.{known_at}
use Rattle.java_denotes.proofs.KnownLemmas.{known_new, known_null, known_name}
use Rattle.throw_check.specs.Points.{points_here}
use Rattle.throw_check.specs.Statements.{points, in_order, thrown_points}
use Rattle.throw_check.specs.Files.{member_faults, made_faults, with_params}
use Rattle.throw_check.proofs.PointLemmas.{points_new, points_null, points_name, points_call}
use Rattle.throw_check.proofs.StatementLemmas as of

-- ---- what the rows speak of: E is below Exception, and F below E; the constructor of F, and the method m of A, declare E

abbrev maker : List ℕ → MakerSymbol
maker throws = record { number = Some 0; owner = 0; params = []; throws = throws; is_private = false; is_made = false; at = 2 }

abbrev method : List ℕ → MethodSymbol
method throws = record { number = Some 0; owner = 5; name = codes "m"; params = []; answer = ty.Int; throws = throws; is_static = false; is_private = false; selector = Some 1; at = 3 }

abbrev class : Option ℕ → List ℕ → List ℕ → ClassSymbol
class parent line throws = record {
  parent = parent;
  line = line;
  fields = record { symbols = []; names = [] };
  methods = record { symbols = []; selectors = []; names = [] };
  makers = record { symbols = maker throws ∷ []; arities = 0 ∷ [] };
  at = 1;
}

abbrev class_a : ClassSymbol
class_a = record (class (Some 0) (5 ∷ 0 ∷ []) []) {
  methods = record { symbols = method (6 ∷ []) ∷ []; selectors = record { name = codes "m"; arity = 0 } ∷ []; names = codes "m" ∷ [] };
}

abbrev symbols : Symbols
symbols = record {
  names = codes "Object" ∷ codes "Throwable" ∷ codes "Exception" ∷ codes "RuntimeException" ∷ codes "Error" ∷ codes "A" ∷ codes "E" ∷ codes "F" ∷ codes "G" ∷ [];
  classes =
      class None (0 ∷ []) [] ∷ class (Some 0) (1 ∷ 0 ∷ []) [] ∷ class (Some 1) (2 ∷ 1 ∷ 0 ∷ []) [] ∷ class (Some 2) (3 ∷ 2 ∷ 1 ∷ 0 ∷ []) []
      ∷ class (Some 1) (4 ∷ 1 ∷ 0 ∷ []) [] ∷ class_a ∷ class (Some 2) (6 ∷ 2 ∷ 1 ∷ 0 ∷ []) [] ∷ class (Some 6) (7 ∷ 6 ∷ 2 ∷ 1 ∷ 0 ∷ []) (6 ∷ [])
      ∷ class (Some 7) (8 ∷ 7 ∷ 6 ∷ 2 ∷ 1 ∷ 0 ∷ []) [] ∷ [];
  selectors = [];
}

abbrev ident : List ℕ → ℕ → Ident
ident name at = record { at = at; name = name }

-- `throws` with one class
abbrev one : List ℕ → List Ident
one name = ident name 5 ∷ []

-- a method of A, in whose first scope its body stands
abbrev faults : List Ident → List Stmt → List Fault
faults throws body = member_faults symbols 5 ([] ∷ []) (member.Method (record { mods = record { words = [] }; answer = None; name = ident (codes "f") 4; params = []; throws = throws; body = body }))

abbrev scope : Scope
scope = first_scope 5 false ty.Void

-- `throw new C();` at token 10
abbrev throw_new : List ℕ → Stmt
throw_new name = stmt.Throw (tree.New 11 (ident name 12) [])

-- ---- `throw`

-- its points: the constructor's, and what is thrown
thrown : (name : List ℕ) (s : Scope) → points symbols (throw_new name) s ≡ points_here symbols s (Expr-F.New 11 (ident name 12) []) ++ thrown_points (known_at symbols s (Expr-F.New 11 (ident name 12) []))
thrown name s = rw (of.points_throw symbols (tree.New 11 (ident name 12) []) s, points_new symbols s 11 (ident name 12) [], known_new symbols s 11 (ident name 12) []) refl

undeclared : faults [] (throw_new (codes "E") ∷ []) ≡ record { rule = 23; at = 10 } ∷ []
unfolding in_order with_params out-Ty out shown-the_row-Ty-0 shown hidden
undeclared = rw (thrown (codes "E") scope) refl

declared_itself : faults (one (codes "E")) (throw_new (codes "E") ∷ []) ≡ []
unfolding in_order with_params out-Ty out shown-the_row-Ty-0 shown hidden
declared_itself = rw (thrown (codes "E") scope) refl

superclass_declared : faults (one (codes "Exception")) (throw_new (codes "E") ∷ []) ≡ []
unfolding in_order with_params out-Ty out shown-the_row-Ty-0 shown hidden
superclass_declared = rw (thrown (codes "E") scope) refl

subclass_declared : faults (one (codes "F")) (throw_new (codes "E") ∷ []) ≡ record { rule = 23; at = 10 } ∷ []
unfolding in_order with_params out-Ty out shown-the_row-Ty-0 shown hidden
subclass_declared = rw (thrown (codes "E") scope) refl

unchecked : faults [] (throw_new (codes "RuntimeException") ∷ []) ≡ []
unfolding in_order with_params out-Ty out shown-the_row-Ty-0 shown hidden
unchecked = rw (thrown (codes "RuntimeException") scope) refl

null_thrown : faults [] (stmt.Throw (tree.Null 11) ∷ []) ≡ []
unfolding in_order with_params out-Ty out shown-the_row-Ty-0 shown hidden
null_thrown = rw (of.points_throw symbols (tree.Null 11) scope, points_null symbols scope 11, known_null symbols scope 11) refl

-- the constructor of F declares E, and what is thrown is an F
constructor_and_throw : faults [] (throw_new (codes "F") ∷ []) ≡ record { rule = 23; at = 11 } ∷ record { rule = 23; at = 10 } ∷ []
unfolding in_order with_params out-Ty out shown-the_row-Ty-0 shown hidden
constructor_and_throw = rw (thrown (codes "F") scope) refl

-- ---- `try`

abbrev catching : List ℕ → List Stmt → CatchTree
catching name body = roll-CatchTree (record { class = ident name 20; name = ident (codes "x") 21; body = stmt.Block body })

-- `try { throw new E(); } catch (C x) { .. }`
abbrev try_throw : List ℕ → List Stmt → Stmt
try_throw name body = stmt.Try (stmt.Block (throw_new (codes "E") ∷ [])) (catching name body ∷ []) None

abbrev with_x : ℕ → Scope
with_x class = declared scope (codes "x") (ty.Class class)

by_superclass : faults [] (try_throw (codes "Exception") [] ∷ []) ≡ []
unfolding in_order with_params declared out-Ty out shown-the_row-Ty-0 shown hidden
by_superclass =
    rw (
      of.points_try symbols (stmt.Block (throw_new (codes "E") ∷ [])) (catching (codes "Exception") [] ∷ []) None scope,
      of.points_block symbols (throw_new (codes "E") ∷ []) scope,
      thrown (codes "E") scope,
      of.points_clause symbols (catching (codes "Exception") []) scope,
      of.points_block symbols [] (with_x 2),
    )
    refl

by_subclass : faults [] (try_throw (codes "F") [] ∷ []) ≡ record { rule = 23; at = 10 } ∷ []
unfolding in_order with_params declared out-Ty out shown-the_row-Ty-0 shown hidden
by_subclass =
    rw (
      of.points_try symbols (stmt.Block (throw_new (codes "E") ∷ [])) (catching (codes "F") [] ∷ []) None scope,
      of.points_block symbols (throw_new (codes "E") ∷ []) scope,
      thrown (codes "E") scope,
      of.points_clause symbols (catching (codes "F") []) scope,
      of.points_block symbols [] (with_x 7),
    )
    refl

-- `try { } catch (E x) { throw x; }`
abbrev throw_x : Stmt
throw_x = stmt.Throw (tree.Name (ident (codes "x") 25))

abbrev rethrow : CatchTree
rethrow = catching (codes "E") (throw_x ∷ [])

in_catch : faults [] (stmt.Try (stmt.Block []) (rethrow ∷ []) None ∷ []) ≡ record { rule = 23; at = 24 } ∷ []
unfolding in_order with_params declared out-Ty out shown-the_row-Ty-0 shown hidden
in_catch =
    rw (
      of.points_try symbols (stmt.Block []) (rethrow ∷ []) None scope,
      of.points_block symbols [] scope,
      of.points_clause symbols rethrow scope,
      of.points_block symbols (throw_x ∷ []) (with_x 6),
      of.points_throw symbols (tree.Name (ident (codes "x") 25)) (with_x 6),
      points_name symbols (with_x 6) (ident (codes "x") 25),
      known_name symbols (with_x 6) (ident (codes "x") 25),
    )
    refl

-- `try { } catch (E x) { } finally { throw new E(); }`
in_finally : faults [] (stmt.Try (stmt.Block []) (catching (codes "E") [] ∷ []) (Some (stmt.Block (throw_new (codes "E") ∷ []))) ∷ []) ≡ record { rule = 23; at = 10 } ∷ []
unfolding in_order with_params declared out-Ty out shown-the_row-Ty-0 shown hidden
in_finally =
    rw (
      of.points_try symbols (stmt.Block []) (catching (codes "E") [] ∷ []) (Some (stmt.Block (throw_new (codes "E") ∷ []))) scope,
      of.points_block symbols [] scope,
      of.points_clause symbols (catching (codes "E") []) scope,
      of.points_block symbols [] (with_x 6),
      of.points_block symbols (throw_new (codes "E") ∷ []) scope,
      thrown (codes "E") scope,
    )
    refl

-- ---- calls and `new`

-- `m()`
abbrev call : Expr
call = tree.Call (ident (codes "m") 8) []

called : faults [] (stmt.Eval call ∷ []) ≡ record { rule = 23; at = 8 } ∷ []
unfolding in_order with_params declared out-Ty out shown-the_row-Ty-0 shown hidden
called = rw (of.points_eval symbols call scope, points_call symbols scope (ident (codes "m") 8) []) refl

made : faults [] (stmt.Eval (tree.New 11 (ident (codes "F") 12) []) ∷ []) ≡ record { rule = 23; at = 11 } ∷ []
unfolding in_order with_params declared out-Ty out shown-the_row-Ty-0 shown hidden
made = rw (of.points_eval symbols (tree.New 11 (ident (codes "F") 12) []) scope, points_new symbols scope 11 (ident (codes "F") 12) []) refl

-- ---- initialisers: `int g = m();`

abbrev field : FieldTree
field = record { mods = record { words = [] }; ty = record { base = Int; dimensions = 0 }; name = ident (codes "g") 6; value = Some call }

without_constructor : member_faults symbols 5 ([] ∷ []) (member.Field field) ≡ record { rule = 23; at = 6 } ∷ []
unfolding in_order with_params declared out-Ty out shown-the_row-Ty-0 shown hidden
without_constructor = rw (points_call symbols scope (ident (codes "m") 8) []) refl

by_the_constructor : member_faults symbols 5 ((6 ∷ []) ∷ []) (member.Field field) ≡ []
unfolding in_order with_params declared out-Ty out shown-the_row-Ty-0 shown hidden
by_the_constructor = rw (points_call symbols scope (ident (codes "m") 8) []) refl

by_one_of_two : member_faults symbols 5 ((6 ∷ []) ∷ [] ∷ []) (member.Field field) ≡ record { rule = 23; at = 6 } ∷ []
unfolding in_order with_params declared out-Ty out shown-the_row-Ty-0 shown hidden
by_one_of_two = rw (points_call symbols scope (ident (codes "m") 8) []) refl

-- ---- the superclass's constructor: class G is below F, whose constructor declares E

abbrev below_f : List Ident → List Stmt → List Fault
below_f throws body = member_faults symbols 8 ([] ∷ []) (member.Maker (record { mods = record { words = [] }; name = ident (codes "G") 9; params = []; throws = throws; body = body }))

implicit : below_f [] [] ≡ record { rule = 23; at = 9 } ∷ []
unfolding in_order with_params declared out-Ty out shown-the_row-Ty-0 shown hidden
implicit = refl

implicit_declared : below_f (one (codes "E")) [] ≡ []
unfolding in_order with_params declared out-Ty out shown-the_row-Ty-0 shown hidden
implicit_declared = refl

explicit : below_f [] (stmt.Super 13 [] ∷ []) ≡ record { rule = 23; at = 13 } ∷ []
unfolding in_order with_params declared out-Ty out shown-the_row-Ty-0 shown hidden
explicit = rw (stmt.outs-Super 13 []) refl

no_constructor : made_faults symbols 8 [] 9 ≡ record { rule = 23; at = 9 } ∷ []
no_constructor = refl
