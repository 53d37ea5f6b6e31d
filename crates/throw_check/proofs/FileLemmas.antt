-- What the classes of a file break, one after the other.
use Rattle.std.proofs.Common.{◌≡◌, ℕ, suc, List, [], ◌∷◌, ◌++◌, refl}
use Rattle.java_syntax.specs.declared.class.ClassTree.{ClassTree}
use Rattle.java_names.specs.declared.symbol.Symbols.{Symbols}
use Rattle.throw_check.specs.Files.{class_faults, faults_from}

pub faults_step : (symbols : Symbols) (c : ℕ) (k : ClassTree) (ks : List ClassTree) → faults_from symbols c (k ∷ ks) ≡ class_faults symbols c k ++ faults_from symbols (suc c) ks
unfolding faults_from
faults_step symbols c k ks = refl

pub faults_end : (symbols : Symbols) (c : ℕ) → faults_from symbols c [] ≡ []
unfolding faults_from
faults_end symbols c = refl
