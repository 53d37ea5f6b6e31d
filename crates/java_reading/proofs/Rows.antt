-- What some short expressions are.
use Rattle.std.proofs.Common.{◌≡◌, ℕ, ◌+◌, List, [], ◌∷◌, true, Ok, Err, refl}
use Rattle.java_tokens.specs.declared.token.Keyword.TheVariants as w
use Rattle.java_tokens.specs.declared.token.Operator.TheVariants as o
use Rattle.java_tokens.specs.declared.token.TokenKind.{TokenKind}
use Rattle.java_tokens.specs.declared.token.TokenKind.TheVariants as k
use Rattle.token_reading.specs.declared.name.BaseType.TheVariants as base
use Rattle.token_reading.specs.declared.name.Ident.{Ident}
use Rattle.java_syntax.specs.declared.operator.BinaryOp.TheVariants as binary
use Rattle.java_syntax.specs.declared.operator.UnaryOp.TheVariants as unary
use Rattle.java_syntax.specs.declared.expression.Expr.TheVariants as e
use Rattle.token_reading.specs.Lexeme.{Lexeme, lexeme, same_operator}
use Rattle.token_reading.specs.Outcome.{no_tree, too_high, Outcome}
use Rattle.token_reading.specs.ReadType.{expect, none_fits, ident_at, ident, brackets, pairs, base_type, type_of, type_tree}
use Rattle.java_reading.specs.ReadExpr.{Tall, more_args, args, named, cast, parens, operand, super_call, instance, array, creation, prefix, member, element, conditional, instance_of, operated, climb, precedence, reading}

-- these tokens, numbered from the number on
abbrev row : ℕ → List TokenKind → List Lexeme
row n [] = []
row n (x ∷ xs) = lexeme n x ∷ row (n + 1) xs

-- what is read of them where the height is at most 6
abbrev read : List TokenKind → Outcome Tall
read ts = reading 6 1 (row 0 ts)

-- the identifier whose name is this one character
abbrev name : ℕ → TokenKind
name c = k.Ident (c ∷ [])

-- the same in a tree, with its token's number
abbrev at : ℕ → ℕ → Ident
at n c = ident_at n (c ∷ [])

-- ---- levels and sides

-- `1 - 2 - 3`
difference : read (k.Number 1 ∷ k.Op o.Minus ∷ k.Number 2 ∷ k.Op o.Minus ∷ k.Number 3 ∷ []) ≡
    Ok ((e.Binary binary.Subtract (e.Binary binary.Subtract (e.Number 0 1) (e.Number 2 2)) (e.Number 4 3), 3), [])
unfolding reading precedence prefix climb operated
difference = refl

-- `1 + 2 * 3`
products_first : read (k.Number 1 ∷ k.Op o.Plus ∷ k.Number 2 ∷ k.Op o.Star ∷ k.Number 3 ∷ []) ≡
    Ok ((e.Binary binary.Add (e.Number 0 1) (e.Binary binary.Multiply (e.Number 2 2) (e.Number 4 3)), 3), [])
unfolding reading precedence prefix climb operated
products_first = refl

-- `1 << 2 < 3 == true`
comparison_of_shifts : read (k.Number 1 ∷ k.Op o.ShiftLeft ∷ k.Number 2 ∷ k.Op o.Less ∷ k.Number 3 ∷ k.Op o.Equal ∷ k.Word w.True ∷ []) ≡
    Ok ((e.Binary binary.Equal (e.Binary binary.Less (e.Binary binary.ShiftLeft (e.Number 0 1) (e.Number 2 2)) (e.Number 4 3)) (e.Bool 6 true), 4), [])
unfolding reading precedence prefix climb operated
comparison_of_shifts = refl

-- `a || b && c`
and_in_or : read (name 97 ∷ k.Op o.OrOr ∷ name 98 ∷ k.Op o.AndAnd ∷ name 99 ∷ []) ≡
    Ok ((e.Binary binary.Or (e.Name (at 0 97)) (e.Binary binary.And (e.Name (at 2 98)) (e.Name (at 4 99))), 3), [])
unfolding reading precedence prefix climb named operated same_operator
and_in_or = refl

-- `1 | 2 ^ 3 & 4`
bits : read (k.Number 1 ∷ k.Op o.Or ∷ k.Number 2 ∷ k.Op o.Xor ∷ k.Number 3 ∷ k.Op o.And ∷ k.Number 4 ∷ []) ≡
    Ok ((e.Binary binary.BitOr (e.Number 0 1) (e.Binary binary.BitXor (e.Number 2 2) (e.Binary binary.BitAnd (e.Number 4 3) (e.Number 6 4))), 4), [])
unfolding reading precedence prefix climb operated
bits = refl

-- `a ? b : c ? d : e`
conditionals : read (name 97 ∷ k.Op o.Question ∷ name 98 ∷ k.Op o.Colon ∷ name 99 ∷ k.Op o.Question ∷ name 100 ∷ k.Op o.Colon ∷ name 101 ∷ []) ≡
    Ok ((e.Conditional (e.Name (at 0 97)) (e.Name (at 2 98)) (e.Conditional (e.Name (at 4 99)) (e.Name (at 6 100)) (e.Name (at 8 101))), 3), [])
unfolding reading precedence prefix climb named conditional expect same_operator
conditionals = refl

-- `-2147483648`
least_number : read (k.Op o.Minus ∷ k.Number 2147483648 ∷ []) ≡
    Ok ((e.Unary 0 unary.Minus (e.Number 1 2147483648), 2), [])
unfolding reading precedence prefix climb operand
least_number = refl

-- `!-a + b`
operands_first : read (k.Op o.Not ∷ k.Op o.Minus ∷ name 97 ∷ k.Op o.Plus ∷ name 98 ∷ []) ≡
    Ok ((e.Binary binary.Add (e.Unary 0 unary.Not (e.Unary 1 unary.Minus (e.Name (at 2 97)))) (e.Name (at 4 98)), 4), [])
unfolding reading precedence prefix climb operand named operated same_operator
operands_first = refl

-- `1 - -2`
sign_behind_sign : read (k.Number 1 ∷ k.Op o.Minus ∷ k.Op o.Minus ∷ k.Number 2 ∷ []) ≡
    Ok ((e.Binary binary.Subtract (e.Number 0 1) (e.Unary 2 unary.Minus (e.Number 3 2)), 3), [])
unfolding reading precedence prefix climb operand operated
sign_behind_sign = refl

-- `x instanceof A == true`
type_test : read (name 120 ∷ k.Word w.Instanceof ∷ name 65 ∷ k.Op o.Equal ∷ k.Word w.True ∷ []) ≡
    Ok ((e.Binary binary.Equal (e.InstanceOf (e.Name (at 0 120)) (type_of (base.Class (at 2 65)) 0)) (e.Bool 4 true), 3), [])
unfolding reading precedence prefix climb named instance_of operated base_type type_tree pairs brackets same_operator
type_test = refl

-- `x instanceof int[]`
test_of_array : read (name 120 ∷ k.Word w.Instanceof ∷ k.Word w.Int ∷ k.Op o.LeftBracket ∷ k.Op o.RightBracket ∷ []) ≡
    Ok ((e.InstanceOf (e.Name (at 0 120)) (type_of base.Int 1), 2), [])
unfolding reading precedence prefix climb named instance_of expect base_type type_tree pairs brackets same_operator
test_of_array = refl

-- `x instanceof A.b`
no_member_of_test : read (name 120 ∷ k.Word w.Instanceof ∷ name 65 ∷ k.Op o.Dot ∷ name 98 ∷ []) ≡
    Err no_tree
unfolding reading precedence prefix climb named instance_of base_type type_tree pairs brackets same_operator
no_member_of_test = refl

-- `x instanceof A + 1`
no_sum_of_test : read (name 120 ∷ k.Word w.Instanceof ∷ name 65 ∷ k.Op o.Plus ∷ k.Number 1 ∷ []) ≡
    Err no_tree
unfolding reading precedence prefix climb named instance_of base_type type_tree pairs brackets same_operator
no_sum_of_test = refl

-- ---- casts and parentheses

-- `(a) - b`
no_cast : read (k.Op o.LeftParen ∷ name 97 ∷ k.Op o.RightParen ∷ k.Op o.Minus ∷ name 98 ∷ []) ≡
    Ok ((e.Binary binary.Subtract (e.Paren 0 (e.Name (at 1 97))) (e.Name (at 4 98)), 3), [])
unfolding reading precedence prefix climb parens named operated expect same_operator
no_cast = refl

-- `(A) b`
class_cast : read (k.Op o.LeftParen ∷ name 65 ∷ k.Op o.RightParen ∷ name 98 ∷ []) ≡
    Ok ((e.Cast 0 (type_of (base.Class (at 1 65)) 0) (e.Name (at 3 98)), 2), [])
unfolding reading precedence prefix climb parens cast named expect base_type type_tree pairs brackets same_operator
class_cast = refl

-- `(a) (b)`
cast_of_parentheses : read (k.Op o.LeftParen ∷ name 97 ∷ k.Op o.RightParen ∷ k.Op o.LeftParen ∷ name 98 ∷ k.Op o.RightParen ∷ []) ≡
    Ok ((e.Cast 0 (type_of (base.Class (at 1 97)) 0) (e.Paren 3 (e.Name (at 4 98))), 3), [])
unfolding reading precedence prefix climb parens cast named expect base_type type_tree pairs brackets same_operator
cast_of_parentheses = refl

-- `(A) !b`
cast_of_complement : read (k.Op o.LeftParen ∷ name 65 ∷ k.Op o.RightParen ∷ k.Op o.Not ∷ name 98 ∷ []) ≡
    Ok ((e.Cast 0 (type_of (base.Class (at 1 65)) 0) (e.Unary 3 unary.Not (e.Name (at 4 98))), 3), [])
unfolding reading precedence prefix climb parens cast named operand expect base_type type_tree pairs brackets same_operator
cast_of_complement = refl

-- `(A) b.c`
cast_of_call : read (k.Op o.LeftParen ∷ name 65 ∷ k.Op o.RightParen ∷ name 98 ∷ k.Op o.Dot ∷ name 99 ∷ []) ≡
    Ok ((e.Cast 0 (type_of (base.Class (at 1 65)) 0) (e.Field (e.Name (at 3 98)) (at 5 99)), 3), [])
unfolding reading precedence prefix climb parens cast named member ident expect base_type type_tree pairs brackets same_operator
cast_of_call = refl

-- `(int[]) x`
array_cast : read (k.Op o.LeftParen ∷ k.Word w.Int ∷ k.Op o.LeftBracket ∷ k.Op o.RightBracket ∷ k.Op o.RightParen ∷ name 120 ∷ []) ≡
    Ok ((e.Cast 0 (type_of base.Int 1) (e.Name (at 5 120)), 2), [])
unfolding reading precedence prefix climb parens cast named expect base_type type_tree pairs brackets same_operator
array_cast = refl

-- `(int) x`
no_int_cast : read (k.Op o.LeftParen ∷ k.Word w.Int ∷ k.Op o.RightParen ∷ name 120 ∷ []) ≡
    Err no_tree
unfolding reading precedence prefix climb parens cast base_type type_tree pairs brackets same_operator
no_int_cast = refl

-- `(A[]) -b`
no_cast_of_sign : read (k.Op o.LeftParen ∷ name 65 ∷ k.Op o.LeftBracket ∷ k.Op o.RightBracket ∷ k.Op o.RightParen ∷ k.Op o.Minus ∷ name 98 ∷ []) ≡
    Err no_tree
unfolding reading precedence prefix climb parens named element same_operator
no_cast_of_sign = refl

-- `(a)++`
before_increment : read (k.Op o.LeftParen ∷ name 97 ∷ k.Op o.RightParen ∷ k.Op o.Increment ∷ []) ≡
    Ok ((e.Paren 0 (e.Name (at 1 97)), 2), row 3 (k.Op o.Increment ∷ []))
unfolding reading precedence prefix climb parens named expect same_operator
before_increment = refl

-- ---- names, suffixes and creations

-- `a.b(c)[d].e`
suffixes : read (name 97 ∷ k.Op o.Dot ∷ name 98 ∷ k.Op o.LeftParen ∷ name 99 ∷ k.Op o.RightParen ∷ k.Op o.LeftBracket ∷ name 100 ∷ k.Op o.RightBracket ∷ k.Op o.Dot ∷ name 101 ∷ []) ≡
    Ok ((e.Field (e.Element (e.Method (e.Name (at 0 97)) (at 2 98) (e.Name (at 4 99) ∷ [])) (e.Name (at 7 100))) (at 10 101), 4), [])
unfolding reading precedence prefix climb named args more_args member element ident expect same_operator
suffixes = refl

-- `f(1, b)`
call : read (name 102 ∷ k.Op o.LeftParen ∷ k.Number 1 ∷ k.Op o.Comma ∷ name 98 ∷ k.Op o.RightParen ∷ []) ≡
    Ok ((e.Call (at 0 102) (e.Number 2 1 ∷ e.Name (at 4 98) ∷ []), 2), [])
unfolding reading precedence prefix climb named args more_args expect same_operator
call = refl

-- `f()`
call_without_arguments : read (name 102 ∷ k.Op o.LeftParen ∷ k.Op o.RightParen ∷ []) ≡
    Ok ((e.Call (at 0 102) [], 1), [])
unfolding reading precedence prefix climb named args same_operator
call_without_arguments = refl

-- `super.m(this)`
call_through_super : read (k.Word w.Super ∷ k.Op o.Dot ∷ name 109 ∷ k.Op o.LeftParen ∷ k.Word w.This ∷ k.Op o.RightParen ∷ []) ≡
    Ok ((e.Super 0 (at 2 109) (e.This 4 ∷ []), 2), [])
unfolding reading precedence prefix climb super_call args more_args ident expect same_operator
call_through_super = refl

-- `new A(null, "s")`
creation_of_instance : read (k.Word w.New ∷ name 65 ∷ k.Op o.LeftParen ∷ k.Word w.Null ∷ k.Op o.Comma ∷ k.Text (115 ∷ []) ∷ k.Op o.RightParen ∷ []) ≡
    Ok ((e.New 0 (at 1 65) (e.Null 3 ∷ e.Text 5 (115 ∷ []) ∷ []), 2), [])
unfolding reading precedence prefix climb creation instance args more_args base_type expect same_operator
creation_of_instance = refl

-- `new int[3][][]`
array_of_arrays : read (k.Word w.New ∷ k.Word w.Int ∷ k.Op o.LeftBracket ∷ k.Number 3 ∷ k.Op o.RightBracket ∷ k.Op o.LeftBracket ∷ k.Op o.RightBracket ∷ k.Op o.LeftBracket ∷ k.Op o.RightBracket ∷ []) ≡
    Ok ((e.NewArray 0 base.Int (e.Number 3 3) 2, 3), [])
unfolding reading precedence prefix climb creation array base_type pairs brackets expect same_operator
array_of_arrays = refl

-- `new A[3].l`
length_of_array : read (k.Word w.New ∷ name 65 ∷ k.Op o.LeftBracket ∷ k.Number 3 ∷ k.Op o.RightBracket ∷ k.Op o.Dot ∷ name 108 ∷ []) ≡
    Ok ((e.Field (e.NewArray 0 (base.Class (at 1 65)) (e.Number 3 3) 0) (at 6 108), 3), [])
unfolding reading precedence prefix climb creation array member ident base_type pairs brackets expect same_operator
length_of_array = refl

-- `new int[3][4]`
one_size : read (k.Word w.New ∷ k.Word w.Int ∷ k.Op o.LeftBracket ∷ k.Number 3 ∷ k.Op o.RightBracket ∷ k.Op o.LeftBracket ∷ k.Number 4 ∷ k.Op o.RightBracket ∷ []) ≡
    Err no_tree
unfolding reading precedence prefix climb creation array base_type pairs brackets expect same_operator
one_size = refl

-- `a = 1`
before_assignment : read (name 97 ∷ k.Op o.Assign ∷ k.Number 1 ∷ []) ≡
    Ok ((e.Name (at 0 97), 1), row 1 (k.Op o.Assign ∷ k.Number 1 ∷ []))
unfolding reading precedence prefix climb named same_operator
before_assignment = refl

-- ---- heights

-- `((1))` has height 3
as_high : reading 3 1 (row 0 (k.Op o.LeftParen ∷ k.Op o.LeftParen ∷ k.Number 1 ∷ k.Op o.RightParen ∷ k.Op o.RightParen ∷ [])) ≡
    Ok ((e.Paren 0 (e.Paren 1 (e.Number 2 1)), 3), [])
unfolding reading precedence prefix climb parens expect same_operator
as_high = refl

too_high_by_one : reading 2 1 (row 0 (k.Op o.LeftParen ∷ k.Op o.LeftParen ∷ k.Number 1 ∷ k.Op o.RightParen ∷ k.Op o.RightParen ∷ [])) ≡
    Err too_high
unfolding reading precedence prefix climb parens none_fits
too_high_by_one = refl

-- `1 + 2 + 3` has height 3
chain_too_high : reading 2 1 (row 0 (k.Number 1 ∷ k.Op o.Plus ∷ k.Number 2 ∷ k.Op o.Plus ∷ k.Number 3 ∷ [])) ≡ Err too_high
unfolding reading precedence prefix climb operated
chain_too_high = refl

-- `(A[][]) b` has height 3
type_as_high : reading 3 1 (row 0 (k.Op o.LeftParen ∷ name 65 ∷ k.Op o.LeftBracket ∷ k.Op o.RightBracket ∷ k.Op o.LeftBracket ∷ k.Op o.RightBracket ∷ k.Op o.RightParen ∷ name 98 ∷ [])) ≡
    Ok ((e.Cast 0 (type_of (base.Class (at 1 65)) 2) (e.Name (at 7 98)), 3), [])
unfolding reading precedence prefix climb parens cast named expect base_type type_tree pairs brackets same_operator
type_as_high = refl

type_too_high : reading 2 1 (row 0 (k.Op o.LeftParen ∷ name 65 ∷ k.Op o.LeftBracket ∷ k.Op o.RightBracket ∷ k.Op o.LeftBracket ∷ k.Op o.RightBracket ∷ k.Op o.RightParen ∷ name 98 ∷ [])) ≡
    Err too_high
unfolding reading precedence prefix climb parens cast expect base_type type_tree pairs brackets same_operator
type_too_high = refl
