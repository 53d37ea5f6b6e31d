use Rattle.std.proofs.Common.{◌≡◌}
use Rattle.class_table.specs.Declarations.{declared_of}
use Rattle.class_table.proofs.CheckLemmas.{classes_clear, declared_is, few_declared, known_declared}
use Rattle.class_table.proofs.Faults.{on_ok}
use Rattle.class_table.proofs.check.classes_of.Goals as goal

pub make_index-requires-clause-few : goal.make_index-requires-clause-few
make_index-requires-clause-few c =
    let is : c.in_ok-declared.declared ≡ declared_of c.args.classes.now = declared_is _ c.in_ok-built.built _ c.in_ok-names.names c.in_ok-built.ensures c.in_ok-names.ensures.names c.in_ok-declared.ensures.value in
    few_declared c.args.classes.now _ is c.in_ok-names.ensures.few

pub make_index-requires-clause-known : goal.make_index-requires-clause-known
make_index-requires-clause-known c =
    let is : c.in_ok-declared.declared ≡ declared_of c.args.classes.now = declared_is _ c.in_ok-built.built _ c.in_ok-names.names c.in_ok-built.ensures c.in_ok-names.ensures.names c.in_ok-declared.ensures.value in
    known_declared c.args.classes.now _ is

pub returns-clause-clear : goal.returns-clause-clear
returns-clause-clear c =
    let is : c.in_ok-declared.declared ≡ declared_of c.args.classes.now = declared_is _ c.in_ok-built.built _ c.in_ok-names.names c.in_ok-built.ensures c.in_ok-names.ensures.names c.in_ok-declared.ensures.value in
    on_ok c.make_index.result _ _ c.make_index.ensures.clear (classes_clear c.args.classes.now c.in_ok-declared.declared c.in_ok-names.names is c.in_ok-names.ensures.names c.in_ok-names.ensures.clear c.in_ok-declared.ensures.clear)
