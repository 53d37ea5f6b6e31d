-- The types of expressions and statements stay with other contracts.
use Rattle.std.proofs.Common.{◌≡◌, ◌∙◌, ℕ, zero, suc, Bool, true, false, not, ◌&&◌, ◌||◌, ◌==◌, List, [], ◌∷◌, Option, Some, None, option_map, is_some, slice_get, refl, if◌then◌else◌}
use Rattle.std.specs.Prelude.{option_and_then, unwrap_or}
use Rattle.std.specs.Option.{option_map_or}
use Rattle.std.specs.List.{list_all}
use Rattle.core_tree.specs.declared.built_in.BuiltIn.TheVariants as built_in
use Rattle.core_tree.specs.declared.ty.Ty.TheVariants as ty
use Rattle.core_tree.specs.declared.expr.Expr.{Expr}
use Rattle.core_tree.specs.declared.expr.Expr.TheOpen.{Expr-F}
use Rattle.core_tree.specs.declared.expr.Expr.TheFolds.{fold-Expr}
use Rattle.core_tree.specs.declared.stmt.Target.{Target}
use Rattle.core_tree.specs.declared.stmt.Target.TheVariants as target
use Rattle.core_tree.specs.declared.stmt.Stmt.{Stmt}
use Rattle.core_tree.specs.declared.stmt.Stmt.TheOpen.{Stmt-F}
use Rattle.core_tree.specs.declared.stmt.Stmt.TheFolds.{fold-Stmt}
use Rattle.core_tree.specs.declared.contract.Contract.{Contract}
use Rattle.core_tree.specs.declared.program.Method.{Method}
use Rattle.core_tree.specs.declared.program.Program.{Program}
use Rattle.core_tree.specs.BuiltIn.{number_of}
use Rattle.core_tree.specs.Types.{class_of, is_boolean, is_same_type}
use Rattle.core_tree.specs.Typing.{Scope, PartType, InLoop, has, fits, all_fit, has_text, where_true, is_throwable, chosen_number, call_type, chosen_type, is_of_superclass, expr_node, type_of, target_type, operand_type, is_update, is_counting, if_there, all_of, is_condition, stmt_node, catch_node, is_typed_stmt, is_typed_body}
use Rattle.core_tree.specs.OtherContracts.{methods_with, with_contracts}

-- a method with the contract at its place, where there is one
abbrev pub changed : Option (Option Contract) → Method → Method
changed k m = record m { contract = unwrap_or k m.contract }

unchanged : (found : Option Method) → found ≡ option_map (changed None) found
unchanged None = refl
unchanged (Some m) = refl

pub at_place : (methods : List Method) (contracts : List (Option Contract)) (n : ℕ) → slice_get (methods_with methods contracts) n ≡ option_map (changed (slice_get contracts n)) (slice_get methods n)
at_place [] ks n = refl
at_place (m ∷ ms) [] n = unchanged (slice_get (m ∷ ms) n)
at_place (m ∷ ms) (k ∷ ks) zero = refl
at_place (m ∷ ms) (k ∷ ks) (suc n) = at_place ms ks n

-- a test of a method that doesn't read its contract
pub same_test : (test : Method → Bool) (otherwise : Bool) (k : Option (Option Contract)) (found : Option Method) → ((m : Method) → test (changed k m) ≡ test m) → option_map_or test (option_map (changed k) found) otherwise ≡ option_map_or test found otherwise
same_test test otherwise k None same = refl
same_test test otherwise k (Some m) same = same m

module _ (p : Program) (contracts : List (Option Contract)) where
  abbrev pub q : Program
  q = with_contracts p contracts

  abbrev change : ℕ → Method → Method
  change n = changed (slice_get contracts n)

  pub found_at : (n : ℕ) → slice_get q.methods n ≡ option_map (change n) (slice_get p.methods n)
  found_at n = at_place p.methods contracts n

  -- ---- expressions

  called : (test : Method → Bool) (k : Option (Option Contract)) (arguments : List PartType) (found : Option Method) → ((m : Method) → test (changed k m) ≡ test m) → call_type q test arguments (option_map (changed k) found) ≡ call_type p test arguments found
  called test k arguments None same = refl
  called test k arguments (Some m) same = λ i. where_true (same m i && all_fit p m.params arguments) m.answer

  called_at : (test : Method → Bool) (arguments : List PartType) (n : ℕ) → ((k : Option (Option Contract)) (m : Method) → test (changed k m) ≡ test m) → call_type q test arguments (slice_get q.methods n) ≡ call_type p test arguments (slice_get p.methods n)
  called_at test arguments n same = (λ i. call_type q test arguments (found_at n i)) ∙ called test (slice_get contracts n) arguments (slice_get p.methods n) (same (slice_get contracts n))

  by_number : (arguments : List PartType) (n : Option ℕ) → call_type q (λ m. m.on_object) arguments (option_and_then (λ m. slice_get q.methods m) n) ≡ call_type p (λ m. m.on_object) arguments (option_and_then (λ m. slice_get p.methods m) n)
  by_number arguments None = refl
  by_number arguments (Some n) = called_at (λ m. m.on_object) arguments n (λ k m. refl)

  by_choice : (selector : ℕ) (arguments : List PartType) (c : ℕ) → chosen_type q selector arguments c ≡ chosen_type p selector arguments c
  by_choice selector arguments c = λ i. if selector == 0 && is_throwable p c then where_true (all_fit p [] arguments) ty.Text else by_number arguments (chosen_number p c selector) i

  node : (s : Scope) (x : Expr-F PartType) → expr_node q s x ≡ expr_node p s x
  node s (Expr-F.Static m arguments site) = called_at (λ m. not m.on_object) arguments m (λ k m. refl)
  node s (Expr-F.Chosen object selector arguments site) = on_class (option_and_then class_of object)
    where
      on_class : (c : Option ℕ) → option_and_then (chosen_type q selector arguments) c ≡ option_and_then (chosen_type p selector arguments) c
      on_class None = refl
      on_class (Some c) = by_choice selector arguments c
  node s (Expr-F.Super m arguments site) = on_this s.this
    where
      on_this : (c : Option ℕ) → option_and_then (λ c. call_type q (is_of_superclass q c) arguments (slice_get q.methods m)) c ≡ option_and_then (λ c. call_type p (is_of_superclass p c) arguments (slice_get p.methods m)) c
      on_this None = refl
      on_this (Some c) = called_at (is_of_superclass p c) arguments m (λ k m. refl)
  node s _ = refl

  pub types : (s : Scope) → type_of q s ≡ type_of p s
  unfolding type_of
  types s = λ i e. fold-Expr PartType (λ x. node s x i) e

  -- ---- statements

  target_same : (s : Scope) (to : Target) → target_type q s to ≡ target_type p s to
  target_same s (target.Local at) = refl
  target_same s (target.Field object at) = λ i. expr_node p s (Expr-F.Field (types s i object) at)
  target_same s (target.Element array index) = λ i. expr_node p s (Expr-F.Element (types s i array) (types s i index))

  operand_same : (s : Scope) (e : Option Expr) → operand_type q s e ≡ operand_type p s e
  operand_same s e = λ i. option_map_or (types s i) e (Some ty.Int)

  if_there_same : (s : Scope) (test : PartType → Bool) (e : Option Expr) → if_there q s test e ≡ if_there p s test e
  if_there_same s test e = λ i. option_map_or (λ it. test (types s i it)) e true

  condition_same : (s : Scope) (e : Expr) → is_condition q s e ≡ is_condition p s e
  condition_same s e = λ i. has is_boolean (types s i e)

  stmt_same : (s : Scope) (x : Stmt-F InLoop InLoop) (inside : Bool) → stmt_node q s x inside ≡ stmt_node p s x inside
  stmt_same s (Stmt-F.Declare at t e) inside = λ i. has (is_same_type t) (slice_get s.locals at) && if_there_same s (fits p t) e i
  stmt_same s (Stmt-F.Assign to e) inside = λ i. option_map_or (λ t. fits p t (types s i e)) (target_same s to i) false
  stmt_same s (Stmt-F.Update to op e) inside = λ i. is_update op (target_same s to i) (operand_same s e i) && (is_some e || is_counting op)
  stmt_same s (Stmt-F.Eval e) inside = λ i. is_some (types s i e)
  stmt_same s (Stmt-F.Print line e) inside = λ i. if_there_same s has_text e i && (line || is_some e)
  stmt_same s (Stmt-F.If test body other) inside = λ i. condition_same s test i && (body inside && option_map_or (λ it. it inside) other true)
  stmt_same s (Stmt-F.While test body) inside = λ i. condition_same s test i && body true
  stmt_same s (Stmt-F.DoWhile body test) inside = λ i. body true && condition_same s test i
  stmt_same s (Stmt-F.For first test updates body) inside =
      λ i. all_of first inside && (option_map_or (λ e. condition_same s e i) test true && (all_of updates inside && body true))
  stmt_same s (Stmt-F.Return e) inside = λ i. option_map_or (λ it. fits p s.answer (types s i it)) e (is_same_type s.answer ty.Void)
  stmt_same s (Stmt-F.Throw e) inside = λ i. fits p (ty.Class (number_of built_in.Throwable)) (types s i e)
  stmt_same s _ inside = refl

  stmt_typed : (s : Scope) → is_typed_stmt q s ≡ is_typed_stmt p s
  unfolding is_typed_stmt
  stmt_typed s = λ i stmt. fold-Stmt InLoop InLoop (λ x inside. stmt_same s x inside i) (catch_node p s) stmt

  pub body_typed : (s : Scope) (body : List Stmt) → is_typed_body q s body ≡ is_typed_body p s body
  body_typed s body = λ i. list_all (λ stmt. stmt_typed s i stmt false) body
