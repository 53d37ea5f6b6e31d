-- What is left after a part of a member or class is numbered on.
use Rattle.std.proofs.Common.{ℕ, List, [], ◌∷◌, Bool, true, false, Option, Some, None}
use Rattle.java_syntax.specs.declared.class.Modifier.{Modifier}
use Rattle.token_reading.specs.declared.name.ParamTree.{ParamTree}
use Rattle.token_reading.specs.declared.name.Ident.{Ident}
use Rattle.token_reading.specs.declared.name.TypeTree.{TypeTree}
use Rattle.java_syntax.specs.declared.statement.Stmt.{Stmt}
use Rattle.token_reading.specs.Lexeme.{Lexeme}
use Rattle.java_syntax.specs.Exprs.{Within}
use Rattle.java_syntax.specs.Stmts.{UnendedWithin, Stmts, StmtWithin}
use Rattle.java_syntax.specs.Classes.{Modifiers, MoreNames, Throws, Answer, Invocable, Public, Extends}
use Rattle.token_reading.specs.Types.{Param, MoreParams, Params}
use Rattle.token_law.proofs.Onward.{Onward, ◌>>◌, stay, token, then_onward, type_onward}
use Rattle.token_law.proofs.OnwardStmts.{stmts_onward, stmt_onward}

pub modifiers_onward : (all : List Modifier) (xs rest : List Lexeme) → Modifiers all xs rest → Onward xs rest
modifiers_onward [] xs rest w = stay w
modifiers_onward (m ∷ more) xs rest w = then_onward _ xs w.0 w.1 >> modifiers_onward more w.0 rest w.2

pub param_onward : (t : ParamTree) (xs rest : List Lexeme) → Param t xs rest → Onward xs rest
param_onward t xs rest w = type_onward t.ty xs w.0 w.1 >> token w.2

pub more_params_onward : (all : List ParamTree) (xs rest : List Lexeme) → MoreParams all xs rest → Onward xs rest
more_params_onward [] xs rest t = then_onward _ xs rest t
more_params_onward (t ∷ more) xs rest w = then_onward _ xs w.0 w.1 >> param_onward t w.0 w.2 w.3 >> more_params_onward more w.2 rest w.4

pub params_onward : (all : List ParamTree) (xs rest : List Lexeme) → Params all xs rest → Onward xs rest
params_onward [] xs rest t = then_onward _ xs rest t
params_onward (t ∷ more) xs rest w = param_onward t xs w.0 w.1 >> more_params_onward more w.0 rest w.2

pub more_names_onward : (all : List Ident) (xs rest : List Lexeme) → MoreNames all xs rest → Onward xs rest
more_names_onward [] xs rest w = stay w
more_names_onward (x ∷ more) xs rest w = then_onward _ xs w.0 w.1 >> token w.3 >> more_names_onward more w.2 rest w.4

pub throws_onward : (all : List Ident) (xs rest : List Lexeme) → Throws all xs rest → Onward xs rest
throws_onward [] xs rest w = stay w
throws_onward (x ∷ more) xs rest w = then_onward _ xs w.0 w.1 >> token w.3 >> more_names_onward more w.2 rest w.4

pub answer_onward : (t : Option TypeTree) (xs rest : List Lexeme) → Answer t xs rest → Onward xs rest
answer_onward None xs rest t = then_onward _ xs rest t
answer_onward (Some t) xs rest w = type_onward t xs rest w

module _ (n : ℕ) where
  pub invocable_onward : (params : List ParamTree) (throws : List Ident) (body : List Stmt) (xs rest : List Lexeme)
      → Invocable (Within n) (Stmts (Within n) (UnendedWithin n) (StmtWithin n)) params throws body xs rest → Onward xs rest
  invocable_onward params throws body xs rest w =
      then_onward _ xs w.0 w.1 >> params_onward params w.0 w.2 w.3 >> throws_onward throws w.2 w.4 w.5 >> then_onward _ w.4 w.6 w.7 >> stmts_onward n (stmt_onward n) body w.6 rest w.8

pub public_onward : (p : Bool) (xs rest : List Lexeme) → Public p xs rest → Onward xs rest
public_onward false xs rest w = stay w
public_onward true xs rest t = then_onward _ xs rest t

pub extends_onward : (x : Option Ident) (xs rest : List Lexeme) → Extends x xs rest → Onward xs rest
extends_onward None xs rest w = stay w
extends_onward (Some x) xs rest w = then_onward _ xs w.0 w.1 >> token w.2
