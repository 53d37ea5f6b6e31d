-- Where an expression may throw, by what is declared of the methods and constructors that it calls (JLS 11.2.1).
use Rattle.std.specs.Prelude.{ℕ, List, [], ◌∷◌, ◌++◌, map, flat_map, length, Option, option_and_then}
use Rattle.std.specs.Option.{option_map_or}
use Rattle.java_syntax.specs.declared.expression.Expr.{Expr}
use Rattle.java_syntax.specs.declared.expression.Expr.TheOpen.{Expr-F}
use Rattle.java_syntax.specs.declared.expression.Expr.TheFolds.{map-Expr, para-Expr}
use Rattle.java_names.specs.declared.scope.Scope.{Scope}
use Rattle.java_names.specs.declared.symbol.MakerSymbol.{MakerSymbol}
use Rattle.java_names.specs.declared.symbol.MethodSymbol.{MethodSymbol}
use Rattle.java_names.specs.declared.symbol.Symbols.{Symbols}
use Rattle.java_denotes.specs.declared.known.Known.{Known}
use Rattle.java_denotes.specs.Denotes.{first_token}
use Rattle.java_denotes.specs.Known.{known_of, of_known}
use Rattle.java_denotes.specs.Lookups.{maker_named}
use Rattle.java_denotes.specs.Members.{called_method, calling}

-- one node, with what is known of its parts
abbrev pub Node : Type 0
Node = Expr-F Known

-- a place where an exception of a class may be thrown
pub record Point : Type 0 where
  pub class : ℕ
  pub at : ℕ

-- one at this place for each of some classes
abbrev pub points_at : ℕ → List ℕ → List Point
points_at at classes = map (λ c. record { class = c; at = at }) classes

-- the classes that a method declares after `throws`; none where there is no method
abbrev pub throws : Option MethodSymbol → List ℕ
throws method = option_map_or (λ m. m.throws) method []

-- the same of a constructor
abbrev pub maker_throws : Option MakerSymbol → List ℕ
maker_throws maker = option_map_or (λ m. m.throws) maker []

-- the classes that the method declares which a node calls; the library's declare none
abbrev pub method_throws : Symbols → Scope → Node → List ℕ
method_throws symbols s n = throws (option_and_then (called_method symbols) (calling of_known symbols s n))

-- the classes that a node itself may throw
abbrev pub node_throws : Symbols → Scope → Node → List ℕ
node_throws symbols s (Expr-F.Call m xs) = method_throws symbols s (Expr-F.Call m xs)
node_throws symbols s (Expr-F.Super at m xs) = method_throws symbols s (Expr-F.Super at m xs)
node_throws symbols s (Expr-F.Method o m xs) = method_throws symbols s (Expr-F.Method o m xs)
node_throws symbols s (Expr-F.New at c xs) = maker_throws (maker_named symbols c.name (length xs))
node_throws symbols s _ = []

-- its points, at its first token
abbrev pub points_here : Symbols → Scope → Node → List Point
points_here symbols s n = points_at (first_token (λ k. k.at) n) (node_throws symbols s n)

-- the parts of a node
abbrev pub parts : {X : Type 0} → Expr-F X → List X
parts (Expr-F.Call m xs) = xs
parts (Expr-F.Paren at e) = e ∷ []
parts (Expr-F.Super at m xs) = xs
parts (Expr-F.New at c xs) = xs
parts (Expr-F.NewArray at base e dimensions) = e ∷ []
parts (Expr-F.Field o f) = o ∷ []
parts (Expr-F.Method o m xs) = o ∷ xs
parts (Expr-F.Element a i) = a ∷ i ∷ []
parts (Expr-F.Unary at op e) = e ∷ []
parts (Expr-F.Cast at t e) = e ∷ []
parts (Expr-F.Binary op l r) = l ∷ r ∷ []
parts (Expr-F.InstanceOf e t) = e ∷ []
parts (Expr-F.Conditional c a b) = c ∷ a ∷ b ∷ []
parts _ = []

-- of a node whose parts have these points: those of its parts, and its own, by what is known of its parts
abbrev pub points_in : Symbols → Scope → Expr-F (Expr × List Point) → List Point
points_in symbols s n = flat_map (λ part. part.1) (parts n) ++ points_here symbols s (map-Expr (Expr × List Point) Known (λ part. known_of symbols s part.0) n)

-- the points of an expression in a scope
unfoldable pub expr_points : Symbols → Scope → Expr → List Point
expr_points symbols s = para-Expr (List Point) (points_in symbols s)
