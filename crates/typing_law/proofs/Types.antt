-- The rules and the typing of programs agree on which values fit which types.
use Rattle.std.proofs.Common.{◌≡◌, ℕ, List, ap}
use Rattle.std.proofs.Math.Path.{fun_ext}
use Rattle.core_tree.specs.declared.ty.Ty.{Ty}
use Rattle.core_tree.specs.declared.program.Class.{Class}
use Rattle.core_tree.specs.Types.{is_subclass}
use Rattle.core_tree.specs.Types as core
use Rattle.java_names.specs.declared.symbol.Symbols.{Symbols}
use Rattle.java_names.specs.Lookups.{is_below}
use Rattle.java_denotes.specs.Types as rules

pub same_assignable : (s : Symbols) (classes : List Class) → ((c d : ℕ) → is_below s c d ≡ is_subclass classes c d) → (a b : Ty)
    → rules.is_assignable s a b ≡ core.is_assignable classes a b
unfolding core.is_assignable
same_assignable s classes agree a b = ap (λ below. core.is_assignable_by below a b) (fun_ext (λ c. fun_ext (λ d. agree c d)))
