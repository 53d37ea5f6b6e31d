-- Where a statement may throw, but for what its catch clauses take (JLS 11.2.2, 14.18, 14.20).
use Rattle.std.specs.Prelude.{ℕ, ◌-◌, not, List, [], ◌∷◌, ◌++◌, map, filter, flat_map, Option, is_some, if◌then◌else◌}
use Rattle.std.specs.List.{filter_map}
use Rattle.std.specs.Option.{option_map_or}
use Rattle.core_tree.specs.declared.ty.Ty.{Ty}
use Rattle.token_reading.specs.declared.name.Ident.{Ident}
use Rattle.java_syntax.specs.declared.expression.Expr.{Expr}
use Rattle.java_syntax.specs.declared.statement.CatchTree.{CatchTree, CatchTree-F}
use Rattle.java_syntax.specs.declared.statement.Stmt.{Stmt, out-Stmt}
use Rattle.java_syntax.specs.declared.statement.Stmt.TheOpen.{Stmt-F}
use Rattle.java_syntax.specs.declared.statement.Stmt.TheFolds.{para-Stmt, para-CatchTree}
use Rattle.java_names.specs.declared.scope.Scope.{Scope}
use Rattle.java_names.specs.Scope.{local_of, declared}
use Rattle.java_names.specs.declared.symbol.Symbols.{Symbols}
use Rattle.java_denotes.specs.declared.known.Known.{Known}
use Rattle.java_denotes.specs.Members.{object_class}
use Rattle.java_names.specs.Lookups.{class_number}
use Rattle.java_denotes.specs.Known.{known_of}
use Rattle.java_names.specs.Types.{declared_type, exception_type}
use Rattle.throw_check.specs.Classes.{is_covered}
use Rattle.throw_check.specs.Points.{Point, expr_points}

-- ---- scopes

-- the scope with one local more, where none in scope has its name, as rule 10 asks
abbrev pub with_local : Scope → Ident → Ty → Scope
with_local s x t = if is_some (local_of s x.name) then s else declared s x.name t

abbrev pub behind_node : Symbols → Stmt-F Stmt CatchTree → Scope → Scope
behind_node symbols (Stmt-F.Local t) s = with_local s t.name (declared_type symbols.names t.ty)
behind_node symbols _ s = s

-- the scope after a statement of a block: that of a declaration has its local
abbrev pub behind : Symbols → Stmt → Scope → Scope
behind symbols k s = behind_node symbols (out-Stmt k) s

unfoldable pub behind_all : Symbols → List Stmt → Scope → Scope
behind_all symbols [] s = s
behind_all symbols (k ∷ ks) s = behind_all symbols ks (behind symbols k s)

-- ---- parts

-- the points of a part in each scope
abbrev pub Part : Type 0
Part = Scope → List Point

-- statements in order, each in the scope after those before it
unfoldable pub in_order : Symbols → List (Stmt × Part) → Scope → List Point
in_order symbols [] s = []
in_order symbols (k ∷ ks) s = k.1 s ++ in_order symbols ks (behind symbols k.0 s)

-- an expression or a statement that may be left out
abbrev pub optional_points : Symbols → Scope → Option Expr → List Point
optional_points symbols s e = option_map_or (expr_points symbols s) e []

abbrev pub branch : Option (Stmt × Part) → Part
branch k s = option_map_or (λ part. part.1 s) k []

-- ---- exceptions

-- the class of what is thrown, at the word `throw`, which stands before it; `null` has no class
abbrev pub thrown_points : Known → List Point
thrown_points e = option_map_or (λ c. record { class = c; at = e.at - 1 } ∷ []) (object_class e.denotes) []

-- the classes that catch clauses name
abbrev pub caught : Symbols → List (CatchTree × Part) → List ℕ
caught symbols clauses = filter_map (λ c. class_number symbols c.0.class.name) clauses

-- the points that no clause with one of these classes takes
abbrev pub uncaught : Symbols → List ℕ → List Point → List Point
uncaught symbols classes points = filter (λ p. not (is_covered symbols classes p.class)) points

-- ---- all kinds of statements

-- the points of a `for` after its start
abbrev pub turn_points : Symbols → Option Expr → List (Stmt × Part) → Stmt × Part → Part
turn_points symbols c update body s = optional_points symbols s c ++ (in_order symbols update s ++ body.1 s)

abbrev pub points_of : Symbols → Stmt-F (Stmt × Part) (CatchTree × Part) → Part
points_of symbols (Stmt-F.Block all) s = in_order symbols all s
points_of symbols (Stmt-F.Local t) s = optional_points symbols (with_local s t.name (declared_type symbols.names t.ty)) t.value
points_of symbols (Stmt-F.Assign a op e) s = expr_points symbols s a ++ expr_points symbols s e
points_of symbols (Stmt-F.Step op side a) s = expr_points symbols s a
points_of symbols (Stmt-F.Eval e) s = expr_points symbols s e
points_of symbols (Stmt-F.Super at given) s = flat_map (expr_points symbols s) given
points_of symbols (Stmt-F.If c body other) s = expr_points symbols s c ++ (body.1 s ++ branch other s)
points_of symbols (Stmt-F.While c body) s = expr_points symbols s c ++ body.1 s
points_of symbols (Stmt-F.DoWhile body c) s = body.1 s ++ expr_points symbols s c
points_of symbols (Stmt-F.For start c update body) s = in_order symbols start s ++ turn_points symbols c update body (behind_all symbols (map (λ k. k.0) start) s)
points_of symbols (Stmt-F.Return at e) s = optional_points symbols s e
points_of symbols (Stmt-F.Throw e) s = expr_points symbols s e ++ thrown_points (known_of symbols s e)
points_of symbols (Stmt-F.Try body clauses last) s =
    uncaught symbols (caught symbols clauses) (body.1 s) ++ (flat_map (λ c. c.1 s) clauses ++ branch last s)
points_of symbols _ s = []

-- a catch clause's block has its exception as a local
abbrev pub clause_points : Symbols → CatchTree-F (Stmt × Part) (CatchTree × Part) → Part
clause_points symbols c s = c.body.1 (with_local s c.name (exception_type symbols.names c.class.name))

-- the points of a statement in a scope, and of a catch clause
unfoldable pub points : Symbols → Stmt → Part
points symbols = para-Stmt Part Part (points_of symbols) (clause_points symbols)

unfoldable pub clause : Symbols → CatchTree → Part
clause symbols = para-CatchTree Part Part (points_of symbols) (clause_points symbols)

-- each with its points
abbrev pub with_points : Symbols → Stmt → Stmt × Part
with_points symbols k = (k, points symbols k)

abbrev pub clause_with_points : Symbols → CatchTree → CatchTree × Part
clause_with_points symbols c = (c, clause symbols c)

-- the points of a body, which begins in this scope
abbrev pub body_points : Symbols → List Stmt → Part
body_points symbols body s = in_order symbols (map (with_points symbols) body) s
