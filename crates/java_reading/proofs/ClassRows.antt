-- What the readers give for some files.
use Rattle.std.proofs.Common.{◌≡◌, ℕ, zero, suc, ◌+◌, List, [], ◌∷◌, true, false, Some, None, Ok, Err, refl}
use Rattle.java_tokens.specs.declared.token.Keyword.TheVariants as w
use Rattle.java_tokens.specs.declared.token.Operator.TheVariants as o
use Rattle.java_tokens.specs.declared.token.TokenKind.{TokenKind}
use Rattle.java_tokens.specs.declared.token.TokenKind.TheVariants as k
use Rattle.java_syntax.specs.declared.class.ClassTree.{ClassTree}
use Rattle.java_syntax.specs.declared.class.Member.TheVariants as kinds
use Rattle.java_syntax.specs.declared.class.Modifier.TheVariants as modifier
use Rattle.java_syntax.specs.declared.expression.Expr.{Expr}
use Rattle.java_syntax.specs.declared.expression.Expr as expr
use Rattle.java_syntax.specs.declared.expression.Expr.TheVariants as e
use Rattle.token_reading.specs.declared.name.BaseType.TheVariants as base
use Rattle.java_syntax.specs.declared.statement.Stmt.TheVariants as s
use Rattle.token_reading.specs.Lexeme.{Lexeme, lexeme, same_operator, same_keyword}
use Rattle.token_reading.specs.Outcome.{no_tree, too_high}
use Rattle.token_reading.specs.ReadType.{expect, expect_word, ident_at, ident, brackets, pairs, base_type, type_of, type_tree, none_fits, param_of, param, more_params, params}
use Rattle.java_reading.specs.ReadExpr.{more_args, args, named, cast, parens, operand, super_call, instance, array, creation, prefix, member, element, conditional, instance_of, operated, climb, precedence, reading}
use Rattle.java_reading.specs.ReadStmt.{value, arguments, local_of, initial, local, declaration, step_before, assignment, step_behind, evaluated, simple, unended, stmts, block, inner_block, condition, ended, otherwise, if_stmt, while_stmt, do_stmt, more_simples, simples, start, for_stmt, return_stmt, throw_stmt, super_stmt, catch, catches, finally, try_stmt, local_stmt, simple_stmt, plain_stmt, stmt, statement, body}
use Rattle.java_reading.specs.ReadClass as read
use Rattle.java_reading.specs.ReadClass.{modifiers, names, throws, mods_of, maker_of, method_of, field_of, maker, method, field, void_method, constructor, typed, declared, member_node, public, extends, class_of, members, class_node, class, classes, file}

-- these tokens, numbered from the number on
abbrev row : ℕ → List TokenKind → List Lexeme
row n [] = []
row n (x ∷ xs) = lexeme n x ∷ row (n + 1) xs

-- The tokens are a file with these classes.
abbrev Reads : List TokenKind → List ClassTree → Type 0
Reads tokens all = file 200 (row 0 tokens) ≡ Ok (all, [])

-- They are none.
abbrev Refuses : List TokenKind → Type 0
Refuses tokens = file 200 (row 0 tokens) ≡ Err no_tree

abbrev name_a : List ℕ
name_a = 97 ∷ []

abbrev name_b : List ℕ
name_b = 98 ∷ []

abbrev name_f : List ℕ
name_f = 102 ∷ []

abbrev name_m : List ℕ
name_m = 109 ∷ []

abbrev name_upper_a : List ℕ
name_upper_a = 65 ∷ []

abbrev name_upper_c : List ℕ
name_upper_c = 67 ∷ []

abbrev name_upper_e : List ℕ
name_upper_e = 69 ∷ []

abbrev name_x : List ℕ
name_x = 120 ∷ []

-- files and classes
files :
    -- the empty file
    Reads (k.End ∷ [])
    []
    -- `class A { } class C { }`
    × Reads (k.Word w.Class ∷ k.Ident name_upper_a ∷ k.Op o.LeftBrace ∷ k.Op o.RightBrace ∷ k.Word w.Class ∷
    k.Ident name_upper_c ∷ k.Op o.LeftBrace ∷ k.Op o.RightBrace ∷ k.End ∷ [])
    (class_of false (ident_at 1 name_upper_a) None [] ∷ class_of false (ident_at 5 name_upper_c) None [] ∷ [])
    -- `;`, which is no class`
    × Refuses (k.Op o.Semicolon ∷ k.End ∷ [])
    -- no end
    × Refuses ([])
    -- a token after the end
    × Refuses (k.End ∷ k.Op o.Semicolon ∷ [])
    -- `class A { public ; }`
    × Refuses (k.Word w.Class ∷ k.Ident name_upper_a ∷ k.Op o.LeftBrace ∷ k.Word w.Public ∷ k.Op o.Semicolon ∷
    k.Op o.RightBrace ∷ k.End ∷ [])
    -- a class with each kind of member
    × Reads (k.Word w.Public ∷ k.Word w.Class ∷ k.Ident name_upper_a ∷ k.Word w.Extends ∷ k.Ident name_upper_e ∷
    k.Op o.LeftBrace ∷ k.Word w.Static ∷ k.Word w.Final ∷ k.Word w.Int ∷ k.Ident name_x ∷ k.Op o.Assign ∷
    k.Number 1 ∷ k.Op o.Semicolon ∷ k.Ident name_upper_a ∷ k.Op o.LeftBracket ∷ k.Op o.RightBracket ∷
    k.Ident name_a ∷ k.Op o.Semicolon ∷ k.Word w.Public ∷ k.Word w.Void ∷ k.Ident name_m ∷ k.Op o.LeftParen ∷
    k.Word w.Int ∷ k.Ident name_a ∷ k.Op o.Comma ∷ k.Ident name_upper_a ∷ k.Op o.LeftBracket ∷
    k.Op o.RightBracket ∷ k.Ident name_b ∷ k.Op o.RightParen ∷ k.Word w.Throws ∷ k.Ident name_upper_e ∷
    k.Op o.Comma ∷ k.Ident name_upper_c ∷ k.Op o.LeftBrace ∷ k.Op o.Semicolon ∷ k.Op o.RightBrace ∷
    k.Ident name_upper_a ∷ k.Op o.LeftParen ∷ k.Op o.RightParen ∷ k.Op o.LeftBrace ∷ k.Word w.Super ∷
    k.Op o.LeftParen ∷ k.Op o.RightParen ∷ k.Op o.Semicolon ∷ k.Op o.RightBrace ∷ k.Op o.Semicolon ∷ k.Word w.Int ∷
    k.Ident name_f ∷ k.Op o.LeftParen ∷ k.Op o.RightParen ∷ k.Op o.LeftBrace ∷ k.Word w.Return ∷ k.Ident name_x ∷
    k.Op o.Semicolon ∷ k.Op o.RightBrace ∷ k.Op o.RightBrace ∷ k.End ∷ [])
    (class_of true (ident_at 2 name_upper_a) (Some (ident_at 4 name_upper_e)) (kinds.Field (field_of
    (mods_of (modifier.Static ∷ modifier.Final ∷ [])) (type_of base.Int 0) (ident_at 9 name_x) (Some (e.Number 11
    1))) ∷ kinds.Field (field_of (mods_of []) (type_of (base.Class (ident_at 13 name_upper_a)) 1) (ident_at 16
    name_a) None) ∷ kinds.Method (method_of None (maker_of (mods_of (modifier.Public ∷ [])) (ident_at 20 name_m)
    (param_of (type_of base.Int 0) (ident_at 23 name_a) ∷ param_of (type_of (base.Class (ident_at 25
    name_upper_a)) 1) (ident_at 28 name_b) ∷ []) ((ident_at 31 name_upper_e) ∷ (ident_at 33 name_upper_c) ∷ [])
    (s.Empty ∷ []))) ∷ kinds.Maker (maker_of (mods_of []) (ident_at 37 name_upper_a) [] [] (s.Super 41 [] ∷ []))
    ∷ kinds.Empty ∷ kinds.Method (method_of (Some (type_of base.Int 0)) (maker_of (mods_of []) (ident_at 48
    name_f) [] [] (s.Return 52 (Some (e.Name (ident_at 53 name_x))) ∷ []))) ∷ []) ∷ [])
unfolding reading precedence prefix climb named args more_args cast parens operand super_call instance array creation member element conditional instance_of operated expect expect_word ident brackets pairs base_type type_tree same_operator same_keyword value arguments none_fits initial local declaration step_before assignment step_behind evaluated simple unended stmts block inner_block condition ended otherwise if_stmt while_stmt do_stmt more_simples simples start for_stmt return_stmt throw_stmt super_stmt catch catches finally try_stmt local_stmt simple_stmt plain_stmt stmt statement expr.out-Expr denote.Hole.Carrier.out body modifiers param more_params params names throws maker method field void_method constructor typed declared member_node read.member public extends members class_node class classes file
files = (refl, refl, refl, refl, refl, refl, refl)

-- ---- heights

-- that many tokens of a kind
abbrev so_many : ℕ → TokenKind → List TokenKind → List TokenKind
so_many zero x xs = xs
so_many (suc n) x xs = x ∷ so_many n x xs

-- `class A { static void m() { int x = (..(1)..); } }` with that many pairs of parentheses
abbrev nested : ℕ → List TokenKind
nested n =
    k.Word w.Class ∷ k.Ident name_upper_a ∷ k.Op o.LeftBrace ∷ k.Word w.Static ∷ k.Word w.Void ∷ k.Ident name_m ∷
    k.Op o.LeftParen ∷ k.Op o.RightParen ∷ k.Op o.LeftBrace ∷ k.Word w.Int ∷ k.Ident name_x ∷ k.Op o.Assign ∷
    so_many n (k.Op o.LeftParen) (k.Number 1 ∷ so_many n (k.Op o.RightParen)
    (k.Op o.Semicolon ∷ k.Op o.RightBrace ∷ k.Op o.RightBrace ∷ k.End ∷ []))

-- the parentheses from this token on
abbrev parentheses : ℕ → ℕ → Expr
parentheses at zero = e.Number at 1
parentheses at (suc n) = e.Paren at (parentheses (at + 1) n)

abbrev nested_classes : ℕ → List ClassTree
nested_classes n =
    class_of false (ident_at 1 name_upper_a) None (kinds.Method (method_of None (maker_of
    (mods_of (modifier.Static ∷ [])) (ident_at 5 name_m) [] []
    (s.Local (local_of (type_of base.Int 0) (ident_at 10 name_x) (Some (parentheses 12 n))) ∷ []))) ∷ []) ∷ []

-- The class, the member, the declaration and the number are four nodes more than there are parentheses.
heights :
    Reads (nested 196) (nested_classes 196)
    × (file 200 (row 0 (nested 197)) ≡ Err too_high)
    × (file 5 (row 0 (nested 1)) ≡ Ok (nested_classes 1, []))
    × (file 4 (row 0 (nested 1)) ≡ Err too_high)
unfolding reading precedence prefix climb named args more_args cast parens operand super_call instance array creation member element conditional instance_of operated expect expect_word ident brackets pairs base_type type_tree same_operator same_keyword value arguments none_fits initial local declaration step_before assignment step_behind evaluated simple unended stmts block inner_block condition ended otherwise if_stmt while_stmt do_stmt more_simples simples start for_stmt return_stmt throw_stmt super_stmt catch catches finally try_stmt local_stmt simple_stmt plain_stmt stmt statement expr.out-Expr denote.Hole.Carrier.out body modifiers param more_params params names throws maker method field void_method constructor typed declared member_node read.member public extends members class_node class classes file
heights = (refl, refl, refl, refl)
