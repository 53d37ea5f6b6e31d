-- Scopes after statements, and the way back to where a block began.
use Rattle.std.proofs.Common.{◌≡◌, ◌∙◌, ℕ, ◌<◌, ◌-◌, Bool, true, false, List, [], ◌∷◌, ◌++◌, length, take, refl, ap, arith, append_assoc, append-nil}
use Rattle.std.specs.Prelude.{is_some, if◌then◌else◌}
use Rattle.std.proofs.lemmas.Grind.{common_steps}
use Rattle.std.proofs.Math.Seq.{take-append_seam}
use Rattle.core_tree.specs.declared.ty.Ty.{Ty}
use Rattle.token_reading.specs.declared.name.Ident.{Ident}
use Rattle.java_syntax.specs.declared.statement.CatchTree.{CatchTree}
use Rattle.java_syntax.specs.declared.statement.Stmt.{Stmt, out-Stmt}
use Rattle.java_syntax.specs.declared.statement.Stmt.TheOpen.{Stmt-F}
use Rattle.java_names.specs.declared.scope.Scope.{Scope}
use Rattle.java_names.specs.Scope.{declared, local_of}
use Rattle.java_names.specs.declared.symbol.Symbols.{Symbols}
use Rattle.java_names.specs.Types.{declared_type}
use Rattle.throw_check.specs.Statements.{with_local, behind_node, behind, behind_all}
use Rattle.throw_check.specs.Walks.{entry_of, back_to}

-- ---- taking the last of a list

pub popping : {A : Type 0} (xs : List A) (count : ℕ) → count < length xs → take count (take (length xs - 1) xs) ≡ take count xs
popping xs count less = grind (arith, common_steps)

-- ---- more locals

-- the second scope has the locals of the first, and perhaps more
record Grows (s t : Scope) : Type 0 where
  locals : List (List ℕ × ℕ)
  slots : List Ty
  is : t ≡ record s { locals = s.locals ++ locals; slots = s.slots ++ slots }

grows_same : (s : Scope) → Grows s s
grows_same s = record { locals = []; slots = []; is = rw (append-nil, append-nil) refl }

grows_on : (s t u : Scope) → Grows s t → Grows t u → Grows s u
grows_on s t u first more = record {
  locals = first.locals ++ more.locals;
  slots = first.slots ++ more.slots;
  is = more.is ∙ ap (λ (v : Scope). record v { locals = v.locals ++ more.locals; slots = v.slots ++ more.slots }) first.is ∙ rw (append_assoc, append_assoc) refl;
}

grows_declared : (s : Scope) (x : List ℕ) (t : Ty) → Grows s (declared s x t)
unfolding declared
grows_declared s x t = record { locals = (x, length s.slots) ∷ []; slots = t ∷ []; is = refl }

by_test : (s : Scope) (x : List ℕ) (t : Ty) (b : Bool) → Grows s (if b then s else declared s x t)
by_test s x t true = grows_same s
by_test s x t false = grows_declared s x t

grows_local : (s : Scope) (x : Ident) (t : Ty) → Grows s (with_local s x t)
grows_local s x t = by_test s x.name t (is_some (local_of s x.name))

grows_node : (symbols : Symbols) (n : Stmt-F Stmt CatchTree) (s : Scope) → Grows s (behind_node symbols n s)
grows_node symbols (Stmt-F.Local t) s = grows_local s t.name (declared_type symbols.names t.ty)
grows_node symbols _ s = grows_same s

grows_behind : (symbols : Symbols) (k : Stmt) (s : Scope) → Grows s (behind symbols k s)
grows_behind symbols k s = grows_node symbols (out-Stmt k) s

grows_all : (symbols : Symbols) (ks : List Stmt) (s : Scope) → Grows s (behind_all symbols ks s)
unfolding behind_all
grows_all symbols [] s = grows_same s
grows_all symbols (k ∷ ks) s = grows_on s (behind symbols k s) (behind_all symbols ks (behind symbols k s)) (grows_behind symbols k s) (grows_all symbols ks (behind symbols k s))

-- ---- back where the block began

back_grown : (s t : Scope) → Grows s t → back_to (entry_of s) t ≡ s
unfolding back_to
back_grown s t g = rw (g.is, take-append_seam s.locals g.locals, take-append_seam s.slots g.slots) refl

pub back_behind : (symbols : Symbols) (k : Stmt) (s : Scope) → back_to (entry_of s) (behind symbols k s) ≡ s
back_behind symbols k s = back_grown s (behind symbols k s) (grows_behind symbols k s)

pub back_all : (symbols : Symbols) (ks : List Stmt) (s : Scope) → back_to (entry_of s) (behind_all symbols ks s) ≡ s
back_all symbols ks s = back_grown s (behind_all symbols ks s) (grows_all symbols ks s)

pub back_local : (symbols : Symbols) (k : Stmt) (s : Scope) (x : Ident) (t : Ty) → back_to (entry_of s) (behind symbols k (with_local s x t)) ≡ s
back_local symbols k s x t =
    back_grown s (behind symbols k (with_local s x t)) (grows_on s (with_local s x t) (behind symbols k (with_local s x t)) (grows_local s x t) (grows_behind symbols k (with_local s x t)))
