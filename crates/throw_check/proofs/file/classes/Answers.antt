use Rattle.std.proofs.Common.{◌≡◌, ◌∙◌, ℕ, ◌+◌, suc, List, [], ◌∷◌, ◌++◌, ap, arith, drop, rules, sym}
use Rattle.std.proofs.lemmas.Grind.{common_steps}
use Rattle.java_syntax.specs.declared.class.ClassTree.{ClassTree}
use Rattle.token_reading.specs.declared.fault.Fault.{Fault}
use Rattle.core_tree.specs.BuiltIn.{first_class}
use Rattle.java_names.specs.Refusals.{Refuses}
use Rattle.java_names.proofs.RefusalLemmas.{refuses_left}
use Rattle.throw_check.specs.Files.{class_faults, faults_from}
use Rattle.throw_check.proofs.FileLemmas.{faults_end, faults_step}
use Rattle.throw_check.proofs.file.classes.Goals as goal

pub returns-in_err-class : goal.returns-in_err-class
returns-in_err-class c =
    let symbols = c.args.symbols.now in
    let n = c.loop-tree.number in
    let rest = drop (c.loop-tree.tree-index + 1) c.args.list.now in
    let is : drop c.loop-tree.tree-index c.args.list.now ≡ c.tree-item.result ∷ rest = grind (arith, common_steps) in
    let whole : faults_from symbols first_class c.args.list.now ≡ class_faults symbols n c.tree-item.result ++ faults_from symbols (suc n) rest
    = c.loop-tree.invariant ∙ ap (λ (list : List ClassTree). faults_from symbols n list) is ∙ faults_step symbols n c.tree-item.result rest in
    let among : Refuses (faults_from symbols first_class c.args.list.now) c.in_err-class.field-0.0
    = rw whole (refuses_left (class_faults symbols n c.tree-item.result) (faults_from symbols (suc n) rest) c.in_err-class.field-0.0 c.in_err-class.ensures) in
    search rules

pub loop-tree-preserved : goal.loop-tree-preserved
loop-tree-preserved c =
    let symbols = c.args.symbols.now in
    let n = c.loop-tree.number in
    let rest = drop (c.loop-tree.tree-index + 1) c.args.list.now in
    let is : drop c.loop-tree.tree-index c.args.list.now ≡ c.tree-item.result ∷ rest = grind (arith, common_steps) in
    let whole : faults_from symbols first_class c.args.list.now ≡ class_faults symbols n c.tree-item.result ++ faults_from symbols (suc n) rest
    = c.loop-tree.invariant ∙ ap (λ (list : List ClassTree). faults_from symbols n list) is ∙ faults_step symbols n c.tree-item.result rest in
    whole ∙ ap (λ (faults : List Fault). faults ++ faults_from symbols (suc n) rest) c.in_ok-class.ensures ∙ ap (λ (number : ℕ). faults_from symbols number rest) (sym c.in_ok-number.ensures)

pub returns : goal.returns
returns c =
    let symbols = c.args.symbols.now in
    let is : drop c.loop-tree.tree-index c.args.list.now ≡ [] = grind (arith, common_steps) in
    c.loop-tree.invariant ∙ ap (λ (list : List ClassTree). faults_from symbols c.loop-tree.number list) is ∙ faults_end symbols c.loop-tree.number
