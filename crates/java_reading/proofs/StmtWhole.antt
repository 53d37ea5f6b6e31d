-- What reading says of statements.
use Rattle.std.proofs.Common.{◌≡◌, ℕ, zero, suc, ◌≤◌, max, List, Bool, Ok, Err, refl, sym, ◌∙◌, ap, arith}
use Rattle.java_syntax.specs.declared.statement.Stmt.{Stmt, out-Stmt}
use Rattle.java_syntax.specs.declared.statement.Stmt.TheOpen.{Stmt-F}
use Rattle.token_reading.specs.Lexeme.{Lexeme}
use Rattle.java_syntax.specs.Exprs.{Within}
use Rattle.java_syntax.specs.Stmts.{StmtLayer, is_declaration, UnendedWithin, StmtNode, StmtWithin}
use Rattle.token_reading.specs.Outcome.{Outcome}
use Rattle.java_reading.specs.ReadStmt.{statement}
use Rattle.java_reading.specs.StmtLaws.{OneStatement, SeesDeclarations}
use Rattle.java_reading.proofs.ArgsFacts.{args_facts}
use Rattle.java_reading.proofs.SimpleFound.{semicolon_closes}
use Rattle.token_reading.proofs.Steps.{Or, found, higher}
use Rattle.java_reading.proofs.StmtBegins.{type_local, simple_local}
use Rattle.java_reading.proofs.StmtFound.{stmt_found}
use Rattle.java_reading.proofs.Whole.{expr_facts}
use Rattle.java_reading.specs.Lookahead.{is_local}

-- a statement of a height that the budget allows
allowed : {good : Outcome Stmt} (n b : ℕ) (in_block : Bool) (xs : List Lexeme) → n ≤ b → Or n b (statement b in_block xs) good
    → statement b in_block xs ≡ good
allowed n b in_block xs up (found r) = r
allowed n b in_block xs up (higher h r) = absurd (omega arith)

abbrev tree_of : Stmt → Outcome Stmt → Stmt
tree_of t (Ok p) = p.0
tree_of t (Err f) = t

abbrev rest_of : List Lexeme → Outcome Stmt → List Lexeme
rest_of xs (Ok p) = p.1
rest_of xs (Err f) = xs

pub one_statement : OneStatement
one_statement n m in_block s t xs ys zs v w =
    let b = max n m in
    let p = allowed n b in_block xs (omega arith) (stmt_found expr_facts args_facts n b in_block s xs ys v) in
    let q = allowed m b in_block xs (omega arith) (stmt_found expr_facts args_facts m b in_block t xs zs w) in
    (ap (tree_of s) (sym p ∙ q), ap (rest_of xs) (sym p ∙ q))

node_seen : (n : ℕ) (f : StmtLayer) (xs rest : List Lexeme) → StmtNode (Within n) (UnendedWithin n) (StmtWithin n) f xs rest
    → is_local xs ≡ is_declaration f
node_seen n Stmt-F.Empty xs rest w = rw w.1 refl
node_seen n (Stmt-F.Block all) xs rest w = rw w.1.1 refl
node_seen n (Stmt-F.Super at given) xs rest w = rw w.1 refl
node_seen n (Stmt-F.If c s other) xs rest w = rw w.1.1 refl
node_seen n (Stmt-F.While c s) xs rest w = rw w.1.1 refl
node_seen n (Stmt-F.DoWhile s c) xs rest w = rw w.1.1 refl
node_seen n (Stmt-F.For first c update s) xs rest w = rw w.1.1 refl
node_seen n (Stmt-F.Return at e) xs rest w = rw w.1 refl
node_seen n (Stmt-F.Break at) xs rest w = rw w.1 refl
node_seen n (Stmt-F.Continue at) xs rest w = rw w.1 refl
node_seen n (Stmt-F.Throw e) xs rest w = rw w.1.1 refl
node_seen n (Stmt-F.Try body clauses last) xs rest w = rw w.1.1 refl
node_seen n (Stmt-F.Local t) xs rest w = type_local expr_facts n t.ty t.name xs w.1.0 w.1.2 w.1.1 w.1.3
node_seen n f xs rest w = simple_local expr_facts n f xs w.0 refl w.1 (semicolon_closes w.0 rest w.2)

pub sees_declarations : SeesDeclarations
unfolding StmtWithin
sees_declarations zero in_block t xs rest w = absurd w
sees_declarations (suc n) in_block t xs rest w = node_seen n (out-Stmt t) xs rest w.1
